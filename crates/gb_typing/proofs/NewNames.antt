-- Names that are free in a scope.
use Rattle.std.proofs.Common.{◌≡◌, ◌⊎◌, inl, inr, Bool, true, false, if◌then◌else◌, List, [], ◌∷◌, ◌++◌, filter, Option, None, bytes_eq, refl, sym, ap, ◌∙◌, subst}
use Rattle.std.specs.List.{list_any}
use Rattle.std.proofs.lemmas.Bool.{false≢true}
use Rattle.std.proofs.lemmas.Slice.Eq.{bytes_eq-Decides}
use Rattle.gb_terms.specs.declared.decl.TypedName.{TypedName}
use Rattle.gb_terms.specs.declared.decl.Module.{Module}
use Rattle.gb_terms.specs.declared.decl.Param.{Param}
use Rattle.gb_terms.specs.declared.decl.Proc.{Proc}
use Rattle.gb_terms.specs.declared.module.Bind.{Bind}
use Rattle.gb_meaning.specs.Names.{Name}
use Rattle.gb_meaning.specs.Values.{Global}
use Rattle.gb_meaning.specs.Declared.{Declarations, abstract_type, abbreviation, operator, abstract_operator, module_type, concrete_module, abstract_module, axiom_of, lemma, terminating, module_in, module_named}
use Rattle.gb_meaning.specs.Footprints.{variables, body_touched}
use Rattle.gb_meaning.specs.Settings.{globals_from, declared_globals}
use Rattle.gb_meaning.specs.Holds.{declared_modules}
use Rattle.gb_meaning.specs.Naming.{EachName, IsFresh}
use Rattle.gb_typing.specs.Naming.{IsAmong}
use Rattle.gb_typing.specs.Added.{param_names, CodeNames, CodesName, ModulesName, AreBoundApart, IsNewModule, IsDeclared, AreBoundAsDeclared, IsClosedScope}
use Rattle.gb_typing.proofs.KeptNames.{off, differ, either, by-either, each-name, variables-map}
use Rattle.gb_typing.proofs.ModulesAlike.{body-map}

-- modules that name what is in P name what is in Q

module _ (P Q : Name → Type 0) (f : (n : Name) → P n → Q n) where
  seen-map : (ps : List Param) (n : Name) → P n ⊎ IsAmong (param_names ps) n → Q n ⊎ IsAmong (param_names ps) n
  seen-map ps n (inl p) = inl (f n p)
  seen-map ps n (inr x) = inr x

  code-map : (ps : List Param) (p : Proc) → CodeNames P ps p → CodeNames Q ps p
  code-map ps p h = (
    body-map (λ r. EachName (λ n. P n ⊎ IsAmong (param_names ps) n) r.«module») (λ r. EachName (λ n. Q n ⊎ IsAmong (param_names ps) n) r.«module»)
        (λ r. each-name (λ n. P n ⊎ IsAmong (param_names ps) n) (λ n. Q n ⊎ IsAmong (param_names ps) n) (seen-map ps) r.«module») p.body.list h.0,
    variables-map P Q f (body_touched (λ r. None) p.body.list ++ variables p.value) h.1,
  )

  codes-map : (ps : List Param) (qs : List Proc) → CodesName P ps qs → CodesName Q ps qs
  codes-map ps [] h = tt
  codes-map ps (q ∷ qs) h = (code-map ps q h.0, codes-map ps qs h.1)

  modules-map : (ds : Declarations) → ModulesName P ds → ModulesName Q ds
  modules-map [] h = tt
  modules-map ((n, concrete_module m) ∷ ds) h = (codes-map m.params m.procs h.0, modules-map ds h.1)
  modules-map ((n, abstract_type) ∷ ds) h = modules-map ds h
  modules-map ((n, abbreviation stood) ∷ ds) h = modules-map ds h
  modules-map ((n, operator o) ∷ ds) h = modules-map ds h
  modules-map ((n, abstract_operator o) ∷ ds) h = modules-map ds h
  modules-map ((n, module_type t) ∷ ds) h = modules-map ds h
  modules-map ((n, abstract_module b) ∷ ds) h = modules-map ds h
  modules-map ((n, axiom_of q) ∷ ds) h = modules-map ds h
  modules-map ((n, lemma q) ∷ ds) h = modules-map ds h
  modules-map ((n, terminating f) ∷ ds) h = modules-map ds h

-- a free name isn't declared
not-declared : (ds : Declarations) (n : Name) → IsFresh ds n → IsDeclared ds n → ⊥
not-declared [] n f x = false≢true x
not-declared (d ∷ ds) n f x =
    by-either (either (bytes_eq n d.0) (list_any (λ e. bytes_eq n e.0) ds) x) (λ t. false≢true (sym f.0 ∙ t)) (not-declared ds n f.1)

module _ (n : Name) (b : Bind) where
  abbrev es : Declarations
  es = (n, abstract_module b) ∷ []

  bound-apart : (ds : Declarations) → IsFresh ds n → AreBoundAsDeclared ds → AreBoundApart es (declared_modules ds)
  bound-apart [] f h = tt
  bound-apart ((m, abstract_module c) ∷ ds) f h = ((subst (λ k. bytes_eq k n ≡ false) (sym h.0) (differ n m f.0), tt), bound-apart ds f.1 h.1)
  bound-apart ((m, abstract_type) ∷ ds) f h = bound-apart ds f.1 h
  bound-apart ((m, abbreviation stood) ∷ ds) f h = bound-apart ds f.1 h
  bound-apart ((m, operator o) ∷ ds) f h = bound-apart ds f.1 h
  bound-apart ((m, abstract_operator o) ∷ ds) f h = bound-apart ds f.1 h
  bound-apart ((m, module_type t) ∷ ds) f h = bound-apart ds f.1 h
  bound-apart ((m, concrete_module c) ∷ ds) f h = bound-apart ds f.1 h
  bound-apart ((m, axiom_of q) ∷ ds) f h = bound-apart ds f.1 h
  bound-apart ((m, lemma q) ∷ ds) f h = bound-apart ds f.1 h
  bound-apart ((m, terminating x) ∷ ds) f h = bound-apart ds f.1 h

  -- an abstract module is new under a name that is free in a scope as scripts make it
  pub new-module : (ds : Declarations) → IsClosedScope ds → IsFresh ds n → b.name ≡ n → IsNewModule ds n b
  new-module ds c f e = record {
    name = e;
    modules = modules-map (IsDeclared ds) (IsFresh es)
        (λ k x. (off (bytes_eq k n) (λ t. not-declared ds n f (subst (IsDeclared ds) ((bytes_eq-Decides k n).0 t) x)), tt)) ds c.modules;
    bound = bound-apart ds f c.binders;
  }

-- nothing is declared under a name that no declaration has

module _ (m : Name) where
  none-from : (n : Name) (gs : List TypedName) (rest : List Global) → bytes_eq m n ≡ false →
      filter (λ (x : Global). bytes_eq m x.parent) (globals_from n gs ++ rest) ≡ filter (λ (x : Global). bytes_eq m x.parent) rest
  none-from n [] rest e = refl
  none-from n (x ∷ gs) rest e =
      (λ i. if e i then record { parent = n; name = x.name; ty = x.ty } ∷ filter (λ (y : Global). bytes_eq m y.parent) (globals_from n gs ++ rest)
      else filter (λ (y : Global). bytes_eq m y.parent) (globals_from n gs ++ rest))
      ∙ none-from n gs rest e

  pub owns-none : (es : Declarations) → IsFresh es m → filter (λ (x : Global). bytes_eq m x.parent) (declared_globals es) ≡ []
  owns-none [] f = refl
  owns-none ((n, concrete_module c) ∷ es) f = none-from n c.globals (declared_globals es) f.0 ∙ owns-none es f.1
  owns-none ((n, abstract_type) ∷ es) f = owns-none es f.1
  owns-none ((n, abbreviation stood) ∷ es) f = owns-none es f.1
  owns-none ((n, operator o) ∷ es) f = owns-none es f.1
  owns-none ((n, abstract_operator o) ∷ es) f = owns-none es f.1
  owns-none ((n, module_type t) ∷ es) f = owns-none es f.1
  owns-none ((n, abstract_module b) ∷ es) f = owns-none es f.1
  owns-none ((n, axiom_of q) ∷ es) f = owns-none es f.1
  owns-none ((n, lemma q) ∷ es) f = owns-none es f.1
  owns-none ((n, terminating x) ∷ es) f = owns-none es f.1

-- a free name stays that of a module

fresh-if : (b : Bool) (x y : Option Module) → b ≡ false → y ≡ None → (if b then x else y) ≡ None
fresh-if true x y e d = absurd (false≢true (sym e))
fresh-if false x y e d = d

none-fresh : (es : Declarations) (n : Name) → IsFresh es n → module_named es n ≡ None
none-fresh [] n e = refl
none-fresh (d ∷ es) n e = fresh-if (bytes_eq n d.0) (module_in d.1) (module_named es n) e.0 (none-fresh es n e.1)

pub same-named : (ds es : Declarations) (n : Name) → IsFresh es n → module_named (ds ++ es) n ≡ module_named ds n
same-named [] es n e = none-fresh es n e
same-named (d ∷ ds) es n e = ap (λ z. if bytes_eq n d.0 then module_in d.1 else z) (same-named ds es n e)
