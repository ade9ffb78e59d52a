-- What a declared module stands for in a typed scope.
use Rattle.std.proofs.Common.{◌≡◌, if◌then◌else◌, Bool, true, false, [], ◌∷◌, ◌++◌, Some, None, bytes_eq, refl, ap, sym, ◌∙◌, subst}
use Rattle.gb_terms.specs.declared.decl.Module.{Module}
use Rattle.gb_goal.specs.declared.scope.Entry.{Entry}
use Rattle.gb_goal.specs.declared.scope.Entry.TheVariants as entry
use Rattle.gb_goal.specs.Scope as scope
use Rattle.gb_goal.specs.Scope.{as_module, entry_of, module_of}
use Rattle.gb_meaning.specs.Names.{Name}
use Rattle.gb_meaning.specs.Declared.{Declarations, declaration_of, declared, concrete_module, lemma}
use Rattle.gb_meaning.specs.Modules.{Modules, Reading, module_read, modules_of, with_module}
use Rattle.gb_meaning.proofs.Later.{fresh_same}
use Rattle.gb_typing.specs.Context.{Context}
use Rattle.gb_typing.specs.Scopes.{is_declared, with_declared, AreTypedAfter, IsModule}
use Rattle.gb_typing.proofs.Scripts.{none_some, same_some, same_name}
use Rattle.gb_typing.proofs.Known.{fresh_later as never_again}
use Rattle.gb_typing.proofs.Operators.{declared_last as last_declared}
use Rattle.gb_typing.proofs.Interfaces.{itself}
use Rattle.gb_meaning.specs.Naming.{IsFresh}

pub declared_last : (before : Declarations) (n : Name) (d : _) → is_declared (before ++ (n, d) ∷ []) n ≡ true
declared_last before n d = last_declared before (n, d) n (itself n)

-- a name that is declared is no name of a later declaration
pub fresh_later : (ds : scope.Declarations) (before : Declarations) (c : Context) → AreTypedAfter c before (declared ds) → (k : Name) → is_declared before k ≡ true → IsFresh (declared ds) k
fresh_later ds before c w k e = never_again (declared ds) before c w k e

module _ {X : Type 0} (read : Reading X) where
  pub record Final (all : Modules X) (n : Name) (m : Module) : Type 0 where
    pub env : Modules X
    pub around : Context
    pub typed : IsModule around n m
    pub is : all n ≡ module_read read env m

  other : (b : Bool) (e : Entry) (ds : scope.Declarations) (n : Name) (m : Module) {R : Type 0} → as_module (Some e) ≡ None → as_module (if b then Some e else entry_of ds n) ≡ Some m → (module_of ds n ≡ Some m → R) → R
  other true e ds n m none r go = none_some m (sym none ∙ r)
  other false e ds n m none r go = go r

  here : (h : Name) (x : Module) (ds : scope.Declarations) (before : Declarations) (c : Context) → AreTypedAfter c before (declared ((h, entry.Module x) ∷ ds)) → (base : Modules X) (n : Name) (m : Module) →
      (b : Bool) → bytes_eq n h ≡ b → as_module (if b then Some (entry.Module x) else entry_of ds n) ≡ Some m →
      (module_of ds n ≡ Some m → Final (modules_of read (with_module base h (module_read read base x)) (declared ds)) n m) →
      Final (modules_of read (with_module base h (module_read read base x)) (declared ds)) n m
  here h x ds before c w base n m false q r go = go r
  here h x ds before c w base n m true q r go =
      let same : n ≡ h = same_name n h q in
      let it : x ≡ m = same_some x m r in
      let there : is_declared (before ++ (h, concrete_module x) ∷ []) n ≡ true = subst (λ z. is_declared (before ++ (h, concrete_module x) ∷ []) z ≡ true) (sym same) (declared_last before h (concrete_module x)) in
      record {
        env = base;
        around = c;
        typed = subst (λ z. IsModule c z m) (sym same) (subst (IsModule c h) it w.1);
        is = fresh_same read (with_module base h (module_read read base x)) (declared ds) n (fresh_later ds _ _ w.2 n there)
            ∙ ap (λ b. if b then module_read read base x else base n) q ∙ ap (module_read read base) it;
      }

  pub final_module : (ds : scope.Declarations) (before : Declarations) (c : Context) → AreTypedAfter c before (declared ds) → (base : Modules X) (n : Name) (m : Module) → module_of ds n ≡ Some m →
      Final (modules_of read base (declared ds)) n m
  final_module [] before c w base n m r = none_some m r
  final_module ((h, entry.Module x) ∷ ds) before c w base n m r =
      here h x ds before c w base n m (bytes_eq n h) refl r (λ r. final_module ds (before ++ (h, concrete_module x) ∷ []) (with_declared c h (concrete_module x)) w.2 (with_module base h (module_read read base x)) n m r)
  final_module ((h, entry.Lemma z order) ∷ ds) before c w base n m r =
      other (bytes_eq n h) (entry.Lemma z order) ds n m refl r (λ r. final_module ds (before ++ (h, lemma z) ∷ []) c w.2 base n m r)
  final_module ((h, entry.Type z) ∷ ds) before c w base n m r =
      other (bytes_eq n h) (entry.Type z) ds n m refl r (λ r. final_module ds (before ++ (h, declaration_of (entry.Type z)) ∷ []) c w.2 base n m r)
  final_module ((h, entry.AbstractType) ∷ ds) before c w base n m r =
      other (bytes_eq n h) entry.AbstractType ds n m refl r (λ r. final_module ds (before ++ (h, declaration_of entry.AbstractType) ∷ []) c w.2 base n m r)
  final_module ((h, entry.ModuleType y) ∷ ds) before c w base n m r =
      other (bytes_eq n h) (entry.ModuleType y) ds n m refl r (λ r. final_module ds (before ++ (h, declaration_of (entry.ModuleType y)) ∷ []) (with_declared c h (declaration_of (entry.ModuleType y))) w.2 base n m r)
  final_module ((h, entry.AbstractModule y) ∷ ds) before c w base n m r =
      other (bytes_eq n h) (entry.AbstractModule y) ds n m refl r (λ r. final_module ds (before ++ (h, declaration_of (entry.AbstractModule y)) ∷ []) (with_declared c h (declaration_of (entry.AbstractModule y))) w.2 base n m r)
  final_module ((h, entry.Constant z) ∷ ds) before c w base n m r =
      other (bytes_eq n h) (entry.Constant z) ds n m refl r (λ r. final_module ds (before ++ (h, declaration_of (entry.Constant z)) ∷ []) c w.2 base n m r)
  final_module ((h, entry.Operator z) ∷ ds) before c w base n m r =
      other (bytes_eq n h) (entry.Operator z) ds n m refl r (λ r. final_module ds (before ++ (h, declaration_of (entry.Operator z)) ∷ []) (with_declared c h (declaration_of (entry.Operator z))) w.2 base n m r)
  final_module ((h, entry.AbstractOperator z) ∷ ds) before c w base n m r =
      other (bytes_eq n h) (entry.AbstractOperator z) ds n m refl r (λ r. final_module ds (before ++ (h, declaration_of (entry.AbstractOperator z)) ∷ []) (with_declared c h (declaration_of (entry.AbstractOperator z))) w.2 base n m r)
  final_module ((h, entry.Terminating z) ∷ ds) before c w base n m r =
      other (bytes_eq n h) (entry.Terminating z) ds n m refl r (λ r. final_module ds (before ++ (h, declaration_of (entry.Terminating z)) ∷ []) c w.2 base n m r)
