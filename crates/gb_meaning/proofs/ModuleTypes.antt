-- Declarations with the same module types have the same footprints and programs of abstract modules.
use Rattle.std.proofs.Common.{◌≡◌, Bool, true, false, if◌then◌else◌, List, [], ◌∷◌, ◌++◌, map, Option, None, bytes_eq, refl, ap, sym, ◌∙◌}
use Rattle.std.proofs.Math.Path.{fun_ext}
use Rattle.std.proofs.lemmas.Bool.{false≢true}
use Rattle.gb_core.specs.declared.var.Var.{Var}
use Rattle.gb_core.specs.declared.var.Var.TheVariants as var
use Rattle.gb_terms.specs.declared.decl.Param.{Param}
use Rattle.gb_meaning.specs.Names.{Name}
use Rattle.gb_meaning.specs.Program.{Routine, Oracle}
use Rattle.gb_meaning.specs.Declared.{Declarations, Declaration, ModuleType, Signature, MayCall, every, those, module_type_in, module_type_of}
use Rattle.gb_meaning.specs.Modules.{Applied, Modules}
use Rattle.gb_meaning.specs.Linking.{oracle_of}
use Rattle.gb_meaning.specs.Adversary.{or_none, type_named, oracles_in, oracles_among, oracles_named, oracle_footprints, signature_footprints, abstract_footprint, with_oracles}
use Rattle.gb_meaning.specs.Settings.{Chosen, with_abstract_footprints, with_abstract_programs}
use Rattle.gb_meaning.specs.Holds.{EachDeclared}
use Rattle.gb_meaning.specs.Naming.{AnyName, EachParam, IsTypeIn, IsFresh}
use Rattle.gb_meaning.proofs.SameScope.{SameTypes, any-params}

none-if : (b : Bool) (x y : Option ModuleType) → x ≡ None → y ≡ None → (if b then x else y) ≡ None
none-if true x y d e = d
none-if false x y d e = e

module _ (P : Declaration → Type 0) (none : (d : Declaration) → P d → module_type_in d ≡ None) (ls : Declarations) (s : EachDeclared P ls) where
  no-types : (rest : Declarations) → EachDeclared P rest → (n : Name) → module_type_of rest n ≡ None
  no-types [] r n = refl
  no-types (d ∷ rest) r n = none-if (bytes_eq n d.0) (module_type_in d.1) (module_type_of rest n) (none d.1 r.0) (no-types rest r.1 n)

  same-after : (ds : Declarations) (n : Name) → module_type_of (ds ++ ls) n ≡ module_type_of ds n
  same-after [] n = no-types ls s n
  same-after (d ∷ ds) n = ap (λ z. if bytes_eq n d.0 then module_type_in d.1 else z) (same-after ds n)

  -- declarations of no module type leave the module types as they are
  pub types-after : (ds : Declarations) (n : Name) → type_named (ds ++ ls) n ≡ type_named ds n
  types-after ds n = ap or_none (same-after ds n)

none-beside : (b : Bool) (x y : Option ModuleType) → b ≡ false → y ≡ None → (if b then x else y) ≡ None
none-beside true x y d e = absurd (false≢true (sym d))
none-beside false x y d e = e

none-fresh : (es : Declarations) (n : Name) → IsFresh es n → module_type_of es n ≡ None
none-fresh [] n f = refl
none-fresh (d ∷ es) n f = none-beside (bytes_eq n d.0) (module_type_in d.1) (module_type_of es n) f.0 (none-fresh es n f.1)

same-fresh : (ds es : Declarations) (n : Name) → IsFresh es n → module_type_of (ds ++ es) n ≡ module_type_of ds n
same-fresh [] es n f = none-fresh es n f
same-fresh (d ∷ ds) es n f = ap (λ z. if bytes_eq n d.0 then module_type_in d.1 else z) (same-fresh ds es n f)

-- declarations that are added leave the module types of other names as they are
pub types-fresh : (ds es : Declarations) → SameTypes (IsFresh es) ds (ds ++ es)
types-fresh ds es n f = sym (ap or_none (same-fresh ds es n f))

-- the module types of the programs' binders are in P
abbrev pub ChosenIn : (Name → Type 0) → Declarations → List Chosen → Type 0
ChosenIn P ds [] = Unit {0}
ChosenIn P ds (c ∷ cs) = IsTypeIn P ds c.bind.ty × ChosenIn P ds cs

pub any-chosen : (ds : Declarations) (cs : List Chosen) → ChosenIn AnyName ds cs
any-chosen ds [] = tt
any-chosen ds (c ∷ cs) = ((tt, any-params (type_named ds c.bind.ty).params), any-chosen ds cs)

module _ (P : Name → Type 0) (ds es : Declarations) (e : SameTypes P ds es) where
  among-same : (ps : List Param) → EachParam P ps → oracles_among ds ps ≡ oracles_among es ps
  among-same [] k = refl
  among-same (p ∷ ps) k = λ i. oracles_in p.name (e p.ty k.0 i).signatures ++ among-same ps k.1 i

  called-by : (m : MayCall) (ps : List Param) → EachParam P ps → oracles_named ds ps m ≡ oracles_named es ps m
  called-by every ps k = among-same ps k
  called-by (those os) ps k = refl

  entries-same : (a : Name) (t : ModuleType) → EachParam P t.params → (os : Oracle → Option (List Var)) (ss : List Signature) →
      signature_footprints ds a t os ss ≡ signature_footprints es a t os ss
  entries-same a t k os [] = refl
  entries-same a t k os (r ∷ ss) =
      λ i. (r.name, var.Glob a ∷ oracle_footprints os (called-by r.oracles t.params k i)) ∷ entries-same a t k os ss i

  abstract-same : (a : Name) (t : ModuleType) → EachParam P t.params → ◌≡◌ {A = Applied (List Var)} (abstract_footprint ds a t) (abstract_footprint es a t)
  abstract-same a t k = fun_ext (λ args. entries-same a t k (oracle_of t.params (map (λ m. m []) args)) t.signatures)

  pub footprints_at : (cs : List Chosen) → ChosenIn P ds cs → (ms ks : Modules (List Var)) (n : Name) → ms n ≡ ks n →
      with_abstract_footprints ds cs ms n ≡ with_abstract_footprints es cs ks n
  footprints_at [] p ms ks n h = h
  footprints_at (c ∷ cs) p ms ks n h =
      λ i. if bytes_eq n c.bind.name
      then (abstract-same c.bind.name (type_named ds c.bind.ty) p.0.1 ∙ (λ k. abstract_footprint es c.bind.name (e c.bind.ty p.0.0 k))) i
      else footprints_at cs p.1 ms ks n h i

  pub programs_at : (cs : List Chosen) → ChosenIn P ds cs → (ms ks : Modules Routine) (n : Name) → ms n ≡ ks n →
      with_abstract_programs ds cs ms n ≡ with_abstract_programs es cs ks n
  programs_at [] p ms ks n h = h
  programs_at (c ∷ cs) p ms ks n h =
      λ i. if bytes_eq n c.bind.name then with_oracles (e c.bind.ty p.0.0 i) c.program else programs_at cs p.1 ms ks n h i
