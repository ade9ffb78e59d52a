-- What is found in a named scope is named.
use Rattle.std.proofs.Common.{◌≡◌, ℕ, Bool, true, false, if◌then◌else◌, bytes_eq, List, [], ◌∷◌, ◌++◌, Option, Some, None, refl, sym, subst}
use Rattle.std.proofs.lemmas.Slice.Eq.{bytes_eq-Decides}
use Rattle.std.specs.List.{AllByRecursion}
use Rattle.std.specs.Option.{option_map}
use Rattle.gb_terms.specs.declared.decl.Module.{Module}
use Rattle.gb_terms.specs.declared.decl.Param.{Param}
use Rattle.gb_terms.specs.declared.decl.Proc.{Proc}
use Rattle.gb_terms.specs.declared.module.Bind.{Bind}
use Rattle.gb_terms.specs.declared.module.Mexp.{Mexp}
use Rattle.gb_terms.specs.declared.module.Mexp.TheVariants as mexp
use Rattle.gb_terms.specs.declared.module.Mexp.TheVariants.{Apply'}
use Rattle.gb_terms.specs.Rows.{mexps_in}
use Rattle.gb_goal.specs.Instances.{instance}
use Rattle.gb_goal.specs.Interfaces.{suits}
use Rattle.gb_goal.specs.Scope.{Declarations, entry_of, as_abstract, as_module, instance_at, module_of, proc_of, proc_if_plain, proc_in, proc_at, procedure_of}
use Rattle.gb_goal.specs.declared.scope.Entry.{Entry}
use Rattle.gb_goal.specs.declared.scope.Entry.TheVariants as entry
use Rattle.gb_print_names.specs.declared.bound_names.Enumeration.{Enumeration}
use Rattle.gb_print.specs.Written.{is_name_text, is_path, IsWrittenModule, IsWrittenProcedure}
use Rattle.gb_shown.specs.Named.{IsNamedVariable}
use Rattle.gb_shown.specs.Rules.{IsNamedLocal, AreNamedGlobals, AreNamedOperators}
use Rattle.gb_shown.specs.Scopes.{IsNamedMember, IsNamedModule, IsNamedEntry, IsNamedScope}
use Rattle.gb_shown.proofs.Instances.{EachWritten, arguments_written, instance_named, name_written}
use Rattle.gb_shown.proofs.Later.{all_so}

first_part : {A : Type 0} (P : A → Type 0) (xs ys : List A) → AllByRecursion P (xs ++ ys) → AllByRecursion P xs
first_part P [] ys k = tt
first_part P (x ∷ xs) ys k = (k.0, first_part P xs ys k.1)

module _ (es : List Enumeration) where
  -- the parameters of a procedure
  pub params_named : (p : Proc) → IsNamedMember es p → AllByRecursion IsNamedVariable p.params
  params_named p k = let n = k.procedure in all_so (IsNamedLocal es) IsNamedVariable (λ v h. h.0) p.params (first_part (IsNamedLocal es) p.params p.locals n.locals)

  pub entry_named : (ds : Declarations) → IsNamedScope es ds → (x : List ℕ) (e : Entry) → entry_of ds x ≡ Some e → IsNamedEntry es e
  entry_named [] k x e i = absurd (cc)
  entry_named (d ∷ ds) k x e i = step (bytes_eq x d.0) (λ j. entry_named ds k.1 x e j) i
    where
      step : (b : Bool) → (entry_of ds x ≡ Some e → IsNamedEntry es e) → (if b then Some d.1 else entry_of ds x) ≡ Some e → IsNamedEntry es e
      step true behind j = let same : d.1 ≡ e = cc in subst (IsNamedEntry es) same k.0.1
      step false behind j = behind j

  as_module_named : (o : Option Entry) (m : Module) → ((e : Entry) → o ≡ Some e → IsNamedEntry es e) → as_module o ≡ Some m → IsNamedModule es m
  as_module_named (Some (entry.Module n)) m k i = let same : n ≡ m = cc in subst (IsNamedModule es) same (k (entry.Module n) refl)
  as_module_named None m k i = absurd (cc)
  as_module_named _ m k i = absurd (cc)

  pub module_named : (ds : Declarations) → IsNamedScope es ds → (x : List ℕ) (m : Module) → module_of ds x ≡ Some m → IsNamedModule es m
  module_named ds k x m i = as_module_named (entry_of ds x) m (λ e j. entry_named ds k x e j) i

  pub proc_named : (ps : List Proc) → AllByRecursion (IsNamedMember es) ps → (x : List ℕ) (p : Proc) → proc_of ps x ≡ Some p → IsNamedMember es p
  proc_named [] k x p i = absurd (cc)
  proc_named (q ∷ qs) k x p i = step (bytes_eq x q.name) (λ j. proc_named qs k.1 x p j) i
    where
      step : (b : Bool) → (proc_of qs x ≡ Some p → IsNamedMember es p) → (if b then Some q else proc_of qs x) ≡ Some p → IsNamedMember es p
      step true behind j = let same : q ≡ p = cc in subst (IsNamedMember es) same k.0
      step false behind j = behind j

  plain_named : (xs : List Param) (ps : List Proc) → AllByRecursion (IsNamedMember es) ps → (x : List ℕ) (p : Proc) → proc_if_plain xs ps x ≡ Some p → IsNamedMember es p
  plain_named [] ps k x p i = proc_named ps k x p i
  plain_named (y ∷ ys) ps k x p i = absurd (cc)

  in_named : (o : Option Module) (x : List ℕ) (p : Proc) → ((m : Module) → o ≡ Some m → IsNamedModule es m) → proc_in o x ≡ Some p → IsNamedMember es p
  in_named None x p k i = absurd (cc)
  in_named (Some m) x p k i = plain_named m.params m.procs (k m refl).procs x p i

  -- a procedure of a module with arguments
  instance_found : (ds : Declarations) (o : Option Module) (ms : List Mexp) → EachWritten ms → (x : List ℕ) (p : Proc) → ((m : Module) → o ≡ Some m → IsNamedModule es m) → instance_at ds o ms x ≡ Some p → IsNamedMember es p
  instance_found ds None ms w x p k i = absurd (cc)
  instance_found ds (Some m) ms w x p k i = by_suits (suits ds m.params ms) i
    where
      by_proc : (o : Option Proc) → proc_of m.procs x ≡ o → option_map (instance m.params ms) o ≡ Some p → IsNamedMember es p
      by_proc None e j = absurd (cc)
      by_proc (Some q) e j =
          let n = k m refl in
          let same : instance m.params ms q ≡ p = cc in
          subst (IsNamedMember es) same (instance_named es m.params ms w q (proc_named m.procs n.procs x q e))

      by_suits : (b : Bool) → (if b then option_map (instance m.params ms) (proc_of m.procs x) else None) ≡ Some p → IsNamedMember es p
      by_suits true j = by_proc (proc_of m.procs x) refl j
      by_suits false j = absurd (cc)

  pub at_named : (ds : Declarations) → IsNamedScope es ds → (m : Mexp) → IsWrittenModule [] m → (x : List ℕ) (p : Proc) → proc_at ds m x ≡ Some p → IsNamedMember es p
  at_named ds k (mexp.Name m) w x p i = in_named (module_of ds m) x p (λ n j. module_named ds k m n j) i
  at_named ds k (Apply' m c args) w x p i = instance_found ds (module_of ds m) (mexps_in args) (arguments_written (Apply' m c args) w).1 x p (λ n j. module_named ds k m n j) i

  -- what a name stands for is declared under a path
  pub name_found : (ds : Declarations) → IsNamedScope es ds → (x : List ℕ) (e : Entry) → entry_of ds x ≡ Some e → is_path x ≡ true
  name_found [] k x e i = absurd (cc)
  name_found (d ∷ ds) k x e i = step (bytes_eq x d.0) refl (λ j. name_found ds k.1 x e j) i
    where
      step : (b : Bool) → bytes_eq x d.0 ≡ b → (entry_of ds x ≡ Some e → is_path x ≡ true) → (if b then Some d.1 else entry_of ds x) ≡ Some e → is_path x ≡ true
      step true same behind j = subst (λ y. is_path y ≡ true) (sym ((bytes_eq-Decides x d.0).0 same)) k.0.0
      step false same behind j = behind j

  -- an abstract module is declared under a path
  abstract_found : (ds : Declarations) → IsNamedScope es ds → (x : List ℕ) (o : Option Entry) → entry_of ds x ≡ o → (b : Bind) → as_abstract o ≡ Some b → is_path x ≡ true
  abstract_found ds k x None e b i = absurd (cc)
  abstract_found ds k x (Some d) e b i = name_found ds k x d e

  pub globals_named : (ds : Declarations) → IsNamedScope es ds → AreNamedGlobals ds
  globals_named ds k = record {
    declared = λ x m i. (let n = module_named ds k x m i in n.globals);
    together = λ a b i. abstract_found ds k a (entry_of ds a) refl b i;
  }

  pub operators_named : (ds : Declarations) → IsNamedScope es ds → AreNamedOperators es ds
  operators_named ds k x o i = let n = entry_named ds k x (entry.Operator o) i in n.1

  -- a procedure of a module has a name
  pub proc_found : (ps : List Proc) → AllByRecursion (IsNamedMember es) ps → (x : List ℕ) (p : Proc) → proc_of ps x ≡ Some p → is_name_text x ≡ true
  proc_found [] k x p i = absurd (cc)
  proc_found (q ∷ qs) k x p i = step (bytes_eq x q.name) refl (λ j. proc_found qs k.1 x p j) i
    where
      step : (b : Bool) → bytes_eq x q.name ≡ b → (proc_of qs x ≡ Some p → is_name_text x ≡ true) → (if b then Some q else proc_of qs x) ≡ Some p → is_name_text x ≡ true
      step true same behind j = let n = k.0 in subst (λ y. is_name_text y ≡ true) (sym ((bytes_eq-Decides x q.name).0 same)) n.name
      step false same behind j = behind j

  plain_found : (xs : List Param) (ps : List Proc) → AllByRecursion (IsNamedMember es) ps → (x : List ℕ) (p : Proc) → proc_if_plain xs ps x ≡ Some p → is_name_text x ≡ true
  plain_found [] ps k x p i = proc_found ps k x p i
  plain_found (y ∷ ys) ps k x p i = absurd (cc)

  in_found : (ds : Declarations) → IsNamedScope es ds → (m : List ℕ) (o : Option Entry) → entry_of ds m ≡ o → (x : List ℕ) (p : Proc) → proc_in (as_module o) x ≡ Some p → (is_path m ≡ true) × (is_name_text x ≡ true)
  in_found ds k m (Some (entry.Module n)) at x p i = let w : IsNamedModule es n = entry_named ds k m (entry.Module n) at in (name_found ds k m (entry.Module n) at, plain_found n.params n.procs w.procs x p i)
  in_found ds k m None at x p i = absurd (cc)
  in_found ds k m _ at x p i = absurd (cc)

  -- the names of a procedure of the scope
  pub names_found : (ds : Declarations) → IsNamedScope es ds → (m x : List ℕ) (p : Proc) → procedure_of ds (record { «module» = mexp.Name m; name = x }) ≡ Some p → (is_path m ≡ true) × (is_name_text x ≡ true)
  names_found ds k m x p i = in_found ds k m (entry_of ds m) refl x p i

  pub found_written : (ds : Declarations) → IsNamedScope es ds → (m x : List ℕ) (p : Proc) → procedure_of ds (record { «module» = mexp.Name m; name = x }) ≡ Some p →
      IsWrittenProcedure [] (record { «module» = mexp.Name m; name = x })
  found_written ds k m x p i = let n = names_found ds k m x p i in record { module_is = name_written m n.0; name_is = n.1 }
