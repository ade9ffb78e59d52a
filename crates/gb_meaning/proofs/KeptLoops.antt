-- Loops that are proved stay good when declarations are added that leave what names mean as it is.
use Rattle.std.proofs.Common.{◌≡◌, ℕ, Bool, true, false, if◌then◌else◌, List, [], ◌∷◌, ◌++◌, Option, Some, None, bytes_eq, refl, sym, ap, subst}
use Rattle.gb_terms.specs.declared.decl.Module.{Module}
use Rattle.gb_terms.specs.declared.decl.Param.{Param}
use Rattle.gb_terms.specs.declared.decl.Proc.{Proc}
use Rattle.gb_goal.specs.Scope.{proc_of}
use Rattle.gb_meaning.specs.Names.{Name}
use Rattle.gb_meaning.specs.Values.{World}
use Rattle.gb_meaning.specs.Declared.{Declarations, ModuleType, abstract_type, abbreviation, operator, abstract_operator, module_type, concrete_module, abstract_module, axiom_of, lemma, terminating, module_in, module_named}
use Rattle.gb_meaning.specs.Adversary.{Adversary, type_named}
use Rattle.gb_meaning.specs.Naming.{AnyName}
use Rattle.gb_meaning.specs.Programs.{IsProgramFor}
use Rattle.gb_meaning.specs.Settings.{Chosen, Table, Interpretation, interpreted, setting}
use Rattle.gb_meaning.specs.Holds.{param_bind, EachArgument, ProcedureIsGood, ProcedureOfIsGood, IsTerminating, KeepModules}
use Rattle.gb_meaning.proofs.SameScope.{SameScope, any-params, program-to}
use Rattle.gb_meaning.proofs.Kept.{Before, goes_on}

module _ (ds es : Declarations) (w : World) (size : Name → ℕ) (t u : Table) (e : SameScope ds es w size t u) where
  program-back : (p : Param) (cs : List Chosen) (a : Adversary) →
      IsProgramFor es (setting es (interpreted w size u cs)) w (type_named es p.ty) a → IsProgramFor ds (setting ds (interpreted w size t cs)) w (type_named ds p.ty) a
  program-back p cs a h =
      let y : ModuleType = type_named es p.ty in
      subst (λ g. IsProgramFor ds g w (type_named ds p.ty) a) (sym (e.settings cs))
      (subst (λ z. IsProgramFor ds (setting es (interpreted w size u cs)) w z a) (sym (e.frame.types p.ty tt))
      (program-to AnyName es ds (λ n k. sym (e.frame.types n k)) y (any-params y.params) (setting es (interpreted w size u cs)) w a h))

  arguments-to : (ps : List Param) (cs : List Chosen) (P Q : Interpretation → Type 0) →
      ((ks : List Chosen) → P (interpreted w size t ks) → Q (interpreted w size u ks)) →
      EachArgument ds ps (interpreted w size t cs) P → EachArgument es ps (interpreted w size u cs) Q
  arguments-to [] cs P Q f h = f cs h
  arguments-to (p ∷ ps) cs P Q f h =
      λ a v. let ks : List Chosen = record { bind = param_bind p; program = a } ∷ cs in
      arguments-to ps ks P Q f (h a (program-back p ks a v))

  good-to : (k : Option Proc) (cs : List Chosen) → ProcedureIsGood (setting ds (interpreted w size t cs)) k → ProcedureIsGood (setting es (interpreted w size u cs)) k
  good-to k cs h = subst (λ g. ProcedureIsGood g k) (e.settings cs) h

none-if : (b : Bool) (x : Option Module) → x ≡ None → (if b then None else x) ≡ None
none-if true x e = refl
none-if false x e = e

none-named : (ls : Declarations) → KeepModules ls → (n : Name) → module_named ls n ≡ None
none-named [] s n = refl
none-named ((k, lemma q) ∷ ls) s n = none-if (bytes_eq n k) (module_named ls n) (none-named ls s.1 n)
none-named ((k, terminating f) ∷ ls) s n = none-if (bytes_eq n k) (module_named ls n) (none-named ls s.1 n)
none-named ((k, abstract_type) ∷ ls) s n = none-if (bytes_eq n k) (module_named ls n) (none-named ls s.1 n)
none-named ((k, abbreviation stood) ∷ ls) s n = none-if (bytes_eq n k) (module_named ls n) (none-named ls s.1 n)
none-named ((k, operator o) ∷ ls) s n = none-if (bytes_eq n k) (module_named ls n) (none-named ls s.1 n)
none-named ((k, abstract_operator o) ∷ ls) s n = none-if (bytes_eq n k) (module_named ls n) (none-named ls s.1 n)
none-named ((k, axiom_of q) ∷ ls) s n = none-if (bytes_eq n k) (module_named ls n) (none-named ls s.1 n)
none-named ((k, module_type t) ∷ ls) s n = absurd s.0
none-named ((k, concrete_module m) ∷ ls) s n = absurd s.0
none-named ((k, abstract_module b) ∷ ls) s n = absurd s.0

module _ (ls : Declarations) (s : KeepModules ls) (ds : Declarations) (b : (w : World) (size : Name → ℕ) (u : Table) → Before ds (ds ++ ls) w size u) where
  of_module : (m : Option Module) (f : Name) → ProcedureOfIsGood ds m f → ProcedureOfIsGood (ds ++ ls) m f
  of_module None f h = tt
  of_module (Some m) f h =
      goes_on ls s ds b _ _
      (λ w size u cs. arguments-to ds (ds ++ ls) w size (b w size u).table u (b w size u).scope m.params cs _ _
      (good-to ds (ds ++ ls) w size (b w size u).table u (b w size u).scope (proc_of m.procs f)))
      h

  same-named : (front : Declarations) (n : Name) → module_named (front ++ ls) n ≡ module_named front n
  same-named [] n = none-named ls s n
  same-named (d ∷ front) n = ap (λ z. if bytes_eq n d.0 then module_in d.1 else z) (same-named front n)

  pub still_proved : (n f : Name) → IsTerminating ds n f → IsTerminating (ds ++ ls) n f
  still_proved n f h = subst (λ m. ProcedureOfIsGood (ds ++ ls) m f) (sym (same-named ds n)) (of_module (module_named ds n) f h)
