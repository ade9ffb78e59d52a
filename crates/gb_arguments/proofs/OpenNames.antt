-- Names of parameters that are left open, in a context that sees them as modules of the parameters' types.
use Rattle.std.proofs.Common.{◌≡◌, ◌⊎◌, inl, inr, if◌then◌else◌, Bool, true, false, List, [], ◌∷◌, map, Option, Some, None, option_map, refl, ap, sym, ◌∙◌, subst}
use Rattle.std.specs.Prelude.{bytes_eq}
use Rattle.std.proofs.lemmas.Bool.{and_from}
use Rattle.gb_core.specs.declared.var.Var.{Var}
use Rattle.gb_terms.specs.declared.decl.Param.{Param}
use Rattle.gb_terms.specs.declared.module.Mexp.{Mexp}
use Rattle.gb_goal.specs.Instances.{given_more}
use Rattle.gb_goal.specs.Interfaces as known
use Rattle.gb_goal.specs.Interfaces.{Procedures, found, has_type, interface_at, params_in, provides, signature_types, signatures_of}
use Rattle.gb_goal.specs.Scope as scope
use Rattle.gb_goal.specs.Scope.{entry_of}
use Rattle.gb_meaning.specs.Declared.{ModuleType, declared}
use Rattle.gb_meaning.specs.Modules.{Reading, modules_of}
use Rattle.gb_meaning.specs.Names.{Name}
use Rattle.gb_meaning.specs.Settings.{Interpretation}
use Rattle.gb_typing.specs.Alike.{LooksAtCalls, StandAlike}
use Rattle.gb_typing.specs.Chosen.{IsChosenOver, chosen_under}
use Rattle.gb_typing.specs.Context.{Context, procedure}
use Rattle.gb_typing.specs.Modules as typed
use Rattle.gb_typing.specs.Modules.{FunctorType, Interface, ProcedureType, functor_type, of_functor_type, without_lacks}
use Rattle.gb_typing.specs.Scopes.{IsTypedScope, context_of}
use Rattle.gb_typing.specs.Suits.{lacked}
use Rattle.gb_typing.proofs.Agreed.{interface_agrees, resolved}
use Rattle.gb_typing.proofs.DeclaredProcedures.{names_are}
use Rattle.gb_typing.proofs.DeclaredTypes.{scope_types}
use Rattle.gb_typing.proofs.Interfaces.{itself, none_some, same_name}
use Rattle.gb_typing.proofs.Located.{known_in_scope}
use Rattle.gb_typing.proofs.ParameterTypes.{type_in_scope}
use Rattle.gb_typing.proofs.Provides.{HasSame, type_itself}
use Rattle.gb_typing.proofs.PutIn.{given_more_is}
use Rattle.gb_mods.specs.Footprint.{reference}
use Rattle.gb_mods.specs.Meets.{left_open, open_name}
use Rattle.gb_arguments.specs.Said.{AllOther, AreApart, AreFree}
use Rattle.gb_arguments.proofs.Nodes.{IsSeen, base, sees_itself}
use Rattle.gb_arguments.proofs.OwnNames.{HaveOwn, own_signatures}
use Rattle.gb_arguments.proofs.PutFootprints.{unchosen_none, undeclared}

-- A module type fits itself.

provides_own : (ps qs : Procedures ProcedureType) → HaveOwn qs → HasSame ps qs → provides ps qs ≡ true
provides_own ps [] o h = refl
provides_own ps (q ∷ qs) o h =
    and_from (has_type (found ps q.0) q.1) (provides ps qs)
    (ap (λ z. has_type z q.1) (h q.0 q.1 (ap (λ b. if b then Some q.1 else found qs q.0) (itself q.0))) ∙ type_itself q.1)
    (provides_own ps qs o.1 (λ n t e. h n t (step n t e (bytes_eq n q.0) refl)))
  where
    step : (n : Name) (t : ProcedureType) → found qs n ≡ Some t → (b : Bool) → bytes_eq n q.0 ≡ b → (if b then Some q.1 else found qs n) ≡ Some t
    step n t e true k = none_some t (sym o.0 ∙ ap (found qs) (sym (same_name n q.0 k)) ∙ e)
    step n t e false k = e

provides_itself : (ps : Procedures ProcedureType) → HaveOwn ps → provides ps ps ≡ true
provides_itself ps o = provides_own ps ps o (λ n t e. e)

abbrev AllOwn : List (Procedures ProcedureType) → Type 0
AllOwn [] = Unit {0}
AllOwn (p ∷ ps) = HaveOwn p × AllOwn ps

serves_itself : (pss : List (Procedures ProcedureType)) → AllOwn pss → typed.serve pss (map without_lacks pss) ≡ true
serves_itself [] o = refl
serves_itself (ps ∷ pss) o = and_from (provides ps ps) (typed.serve pss (map without_lacks pss)) (provides_itself ps o.0) (serves_itself pss o.1)

fits_itself : (t : FunctorType) → AllOwn t.lacks → HaveOwn t.procedures → typed.fits (Some (of_functor_type t)) t ≡ true
fits_itself t a o = and_from (typed.serve t.lacks (map without_lacks t.lacks)) (provides t.procedures t.procedures) (serves_itself t.lacks a) (provides_itself t.procedures o)

module _ (ds : scope.Declarations) (i : Interpretation) (scoped : IsTypedScope (declared ds)) (over : IsChosenOver (declared ds) i) where
  abbrev c : Context
  c = context_of (declared ds)

  own_type : (n : Name) → HaveOwn (signature_types (signatures_of (c.modules.types n)))
  own_type n = step (scope.module_type_of ds n) refl
    where
      step : (o : Option ModuleType) → scope.module_type_of ds n ≡ o → HaveOwn (signature_types (signatures_of (c.modules.types n)))
      step None e = subst (λ o. HaveOwn (signature_types (signatures_of o))) (sym (scope_types ds scoped n ∙ e)) tt
      step (Some t) e =
          let w = type_in_scope ds scoped n t e in
          subst (λ o. HaveOwn (signature_types (signatures_of o))) (sym (scope_types ds scoped n ∙ e)) (own_signatures (let z = w.before in z.modules) t.params t.signatures (let z = w.typed in z.signatures))

  own_params : (ps : List Param) → AllOwn (map (λ p. signature_types (signatures_of (c.modules.types p.ty))) ps)
  own_params [] = tt
  own_params (p ∷ ps) = (own_type p.ty, own_params ps)

  abbrev asks : Param → FunctorType
  asks q = functor_type c.modules.types (c.modules.types q.ty)

  fits_param : (q : Param) → typed.fits (Some (of_functor_type (asks q))) (asks q) ≡ true
  fits_param q = fits_itself (asks q) (own_params (params_in (c.modules.types q.ty))) (own_type q.ty)

  -- the interfaces of the scope, and those of open names
  abbrev opens : List Param → Name → Option Interface
  opens [] n = c.modules.interfaces n
  opens (q ∷ qs) n = if bytes_eq n (open_name q.name) then Some (of_functor_type (asks q)) else opens qs n

  abbrev pub seeing : List Param → Context
  seeing ls = record c { modules = record c.modules { interfaces = opens ls } }

  unknown : (n : Name) → entry_of ds n ≡ None → c.modules.interfaces n ≡ None
  unknown n e = names_are ds scoped n ∙ ap (λ o. option_map (resolved c.modules.types) (known.of_entry ds o)) e

  keeps_open : (ls : List Param) → AreFree ds i.programs ls → (n : Name) (j : Interface) → c.modules.interfaces n ≡ Some j → opens ls n ≡ Some j
  keeps_open [] f n j e = e
  keeps_open (q ∷ qs) f n j e = step (bytes_eq n (open_name q.name)) refl (keeps_open qs f.1 n j e)
    where
      step : (b : Bool) → bytes_eq n (open_name q.name) ≡ b → opens qs n ≡ Some j → (if b then Some (of_functor_type (asks q)) else opens qs n) ≡ Some j
      step true k r = none_some j (sym (ap c.modules.interfaces (same_name n (open_name q.name) k) ∙ unknown (open_name q.name) f.0.0) ∙ e)
      step false k r = r

  abbrev Free : Name → Type 0
  Free n = (entry_of ds n ≡ None) × (chosen_under i.programs n ≡ None)

  open_kinds : (ls : List Param) → AreFree ds i.programs ls → (n : Name) (j : Interface) → opens ls n ≡ Some j → (c.modules.interfaces n ≡ Some j) ⊎ Free n
  open_kinds [] f n j e = inl e
  open_kinds (q ∷ qs) f n j e = step (bytes_eq n (open_name q.name)) refl e (open_kinds qs f.1 n j)
    where
      step : (b : Bool) → bytes_eq n (open_name q.name) ≡ b → (if b then Some (of_functor_type (asks q)) else opens qs n) ≡ Some j → (opens qs n ≡ Some j → (c.modules.interfaces n ≡ Some j) ⊎ Free n) →
          (c.modules.interfaces n ≡ Some j) ⊎ Free n
      step true k e go = inr (subst Free (sym (same_name n (open_name q.name) k)) f.0)
      step false k e go = go e

  pub sees_open : (ls : List Param) → AreFree ds i.programs ls → IsSeen ds i scoped over (seeing ls)
  sees_open ls f = record {
    keeps = record { globals = λ n x t e. e; operators = λ n o e. e; interfaces = keeps_open ls f; types = λ n t e. e };
    types = scope_types ds scoped;
    closed = λ read looks n j e. step read looks n j (open_kinds ls f n j e);
    kinds = open_kinds ls f;
  }
    where
      step : (read : Reading (List Var)) (looks : LooksAtCalls read) (n : Name) (j : Interface) → (c.modules.interfaces n ≡ Some j) ⊎ Free n →
          StandAlike j (modules_of read (base ds i scoped over) (declared ds) n) (modules_of read (base ds i scoped over) (declared ds) n)
      step read looks n j (inl e) = (let z = sees_itself ds i scoped over in z.closed read looks n j e)
      step read looks n j (inr k) =
          subst (λ z. StandAlike j z z) (sym (undeclared read (base ds i scoped over) ds n k.0 ∙ unchosen_none (declared ds) i.programs n k.1)) (λ fs gs w m t e. refl)

  abbrev Opened : (Name → Option Interface) → List Param → Type 0
  Opened f [] = Unit {0}
  Opened f (q ∷ qs) = (f (open_name q.name) ≡ Some (of_functor_type (asks q))) × Opened f qs

  behind_one : (q : Param) (f : Name → Option Interface) (ps : List Param) → AllOther q ps → Opened f ps → Opened (λ n. if bytes_eq n (open_name q.name) then Some (of_functor_type (asks q)) else f n) ps
  behind_one q f [] a o = tt
  behind_one q f (p ∷ ps) a o = (ap (λ b. if b then Some (of_functor_type (asks q)) else f (open_name p.name)) a.0 ∙ o.0, behind_one q f ps a.1 o.1)

  are_opened : (ls : List Param) → AreApart ls → Opened (opens ls) ls
  are_opened [] a = tt
  are_opened (q ∷ qs) a =
      (ap (λ b. if b then Some (of_functor_type (asks q)) else opens qs (open_name q.name)) (itself (open_name q.name)), behind_one q (opens qs) qs a.0 (are_opened qs a.1))

  none_left : (ms : typed.Modules) (ls : List Param) → Opened ms.interfaces ls → typed.left_over (lacked c.modules.types ls) (map (typed.interface_at ms) (left_open ls)) ≡ Some []
  none_left ms [] o = refl
  none_left ms (q ∷ qs) o =
      ap (λ b. if b then typed.left_over (lacked c.modules.types qs) (map (typed.interface_at ms) (left_open qs)) else None) (ap (λ z. typed.fits z (asks q)) o.0 ∙ fits_param q)
      ∙ none_left ms qs o.1

  -- a module that is given open names has its procedures, at their types
  pub start_there : (e : Mexp) (I : known.Interface) → interface_at ds None e ≡ Some I → AreFree ds i.programs I.lacks → AreApart I.lacks → (m : Name) (t : ProcedureType) → found I.procedures m ≡ Some t →
      procedure (seeing I.lacks) (reference (given_more e (left_open I.lacks)) m) ≡ Some t
  start_there e I there f a m t k =
      ap (λ z. typed.procedure_of z m)
      (given_more_is (seeing I.lacks).modules e (left_open I.lacks)
      ∙ ap (λ z. typed.given z (map (typed.interface_at (seeing I.lacks).modules) (left_open I.lacks)))
      (interface_agrees ds None (seeing I.lacks).modules (scope_types ds scoped) (λ n j q. keeps_open I.lacks f n _ (known_in_scope ds scoped n j q)) e I there)
      ∙ ap (typed.lacking (resolved c.modules.types I)) (none_left (seeing I.lacks).modules I.lacks (are_opened I.lacks a)))
      ∙ k
