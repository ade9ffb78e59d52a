-- What is found in a scope in which names are names.
use Rattle.std.proofs.Common.{◌≡◌, ◌&&◌, Bool, true, false, if◌then◌else◌, List, [], ◌∷◌, Option, Some, None, find, bytes_eq, refl, ap, sym, ◌∙◌, subst}
use Rattle.std.specs.List.{AllByRecursion, list_all}
use Rattle.std.proofs.lemmas.Bool.{and_parts}
use Rattle.std.proofs.lemmas.Slice.Eq.{bytes_eq-Decides}
use Rattle.gb_core.specs.declared.ty.Ty.{Ty, out-Ty}
use Rattle.gb_core.specs.declared.ty.Ty.TheVariants as ty
use Rattle.gb_core.specs.declared.ty.Ty.TheOpen as layer
use Rattle.gb_core.specs.declared.ty.Ty.TheViews.{out-roll-Ty}
use Rattle.gb_terms.specs.declared.decl.Module.{Module}
use Rattle.gb_terms.specs.declared.decl.TypedName.{TypedName}
use Rattle.gb_terms.specs.declared.term.Term.{out-Term}
use Rattle.gb_goal.specs.Scope.{Declarations, as_constant, as_module, as_module_type, as_operator, as_type, constant_named, entry_of, module_of, module_type_of, operator_named, type_named}
use Rattle.gb_goal.specs.declared.module_type.ModuleType.{ModuleType}
use Rattle.gb_goal.specs.declared.scope.Constant.{Constant}
use Rattle.gb_goal.specs.declared.scope.Entry.{Entry}
use Rattle.gb_goal.specs.declared.scope.Entry.TheVariants as entry
use Rattle.gb_goal.specs.declared.scope.OperatorType.{OperatorType}
use Rattle.gb_names.specs.declared.bindings.Binding.{Binding}
use Rattle.gb_names.specs.Bindings.{innermost}
use Rattle.gb_names.specs.Environment.{Name}
use Rattle.gb_names.specs.Names.{first_named}
use Rattle.gb_print_names.specs.declared.bound_names.Enumeration.{Enumeration}
use Rattle.gb_print.specs.Written.{is_name_text, is_path, is_word, is_word_here, IsWrittenType}
use Rattle.gb_print.specs.Written as w
use Rattle.gb_print.proofs.LeavesShown.{one_word, all_bytes}
use Rattle.gb_shown.specs.Named.{IsNamedType, IsNamedResult, IsNamedVariable}
use Rattle.gb_shown.specs.Rules.{HasFirst}
use Rattle.gb_shown.proofs.SpeltTrees.{parts_named}
use Rattle.gb_shown.specs.Scopes.{IsNamedModule, IsNamedModuleType, IsNamedSignature, IsNamedEntry, IsNamedScope, IsNamedLocal, IsNamedKind, AreNamedBindings}
use Rattle.gb_shown.proofs.Given.{same_some}
use Rattle.gb_shown.proofs.Types.{as_result}

-- a name of one word is a path
pub path_of : (x : Name) → is_name_text x ≡ true → is_path x ≡ true
path_of x h = let k = and_parts (is_word x) _ h in ap (λ ws. list_all is_name_text ws) (one_word x (all_bytes x k.0)) ∙ ap (λ b. b && true) h

-- a variable is a local
pub locals_of_variables : (vs : List TypedName) → AllByRecursion IsNamedVariable vs → AllByRecursion IsNamedLocal vs
locals_of_variables [] h = tt
locals_of_variables (v ∷ vs) h = ((path_of v.name h.0.0, h.0.1), locals_of_variables vs h.1)

-- what passes a test stands in the list
found_among : {A : Type 0} (P : A → Type 0) (test : A → Bool) (xs : List A) (x : A) → AllByRecursion P xs → find test xs ≡ Some x → P x × (test x ≡ true)
found_among P test [] x h e = cc
found_among P test (y ∷ ys) x h e = step (test y) refl (found_among P test ys x h.1) e
  where
    step : (b : Bool) → test y ≡ b → (find test ys ≡ Some x → P x × (test x ≡ true)) → (if b then Some y else find test ys) ≡ Some x → P x × (test x ≡ true)
    step true t f i = subst (λ z. P z × (test z ≡ true)) (same_some i) (h.0, t)
    step false t f i = f i

pub variable_found : (P : TypedName → Type 0) (vs : List TypedName) (x : Name) (v : TypedName) → AllByRecursion P vs → first_named vs x ≡ Some v → P v
variable_found P vs x v h e = (found_among P (λ (l : TypedName). bytes_eq l.name x) vs v h e).0

pub binding_found : (bs : List Binding) (x : Name) (b : Binding) → AreNamedBindings bs → innermost bs x ≡ Some b → IsNamedKind b.kind
binding_found bs x b h e = (found_among (λ (c : Binding). IsNamedKind c.kind) (λ (c : Binding). bytes_eq c.name x) bs b h e).0

module _ (es : List Enumeration) where
  pub entry_found : (ds : Declarations) → IsNamedScope es ds → (x : Name) (e : Entry) → entry_of ds x ≡ Some e → (is_path x ≡ true) × IsNamedEntry es e
  entry_found [] h x e i = cc
  entry_found (d ∷ ds) h x e i = step (bytes_eq x d.0) refl (entry_found ds h.1 x e) i
    where
      step : (b : Bool) → bytes_eq x d.0 ≡ b → (entry_of ds x ≡ Some e → (is_path x ≡ true) × IsNamedEntry es e) → (if b then Some d.1 else entry_of ds x) ≡ Some e → (is_path x ≡ true) × IsNamedEntry es e
      step true t f j = (ap is_path ((bytes_eq-Decides x d.0).0 t) ∙ h.0.0, subst (IsNamedEntry es) (same_some j) h.0.1)
      step false t f j = f j

  module _ (ds : Declarations) (h : IsNamedScope es ds) where
    -- by what an entry is
    by_entry : {A : Type 0} (P : A → Type 0) (f : Option Entry → Option A) (x : Name) (y : A) →
        ((e : Entry) → is_path x ≡ true → IsNamedEntry es e → f (Some e) ≡ Some y → P y) → (f None ≡ Some y → P y) → f (entry_of ds x) ≡ Some y → P y
    by_entry P f x y k l i = step (entry_of ds x) refl i
      where
        step : (o : Option Entry) → entry_of ds x ≡ o → f o ≡ Some y → P y
        step (Some e) j i = let n = entry_found ds h x e j in k e n.0 n.1 i
        step None j i = l i

    pub type_found : (x : Name) (t : Ty) → type_named ds x ≡ Some t → IsWrittenType 0 [] t × HasFirst es t
    type_found x t i = by_entry (λ t. IsWrittenType 0 [] t × HasFirst es t) (as_type x) x t step (λ e. cc) i
      where
        step : (e : Entry) → is_path x ≡ true → IsNamedEntry es e → as_type x (Some e) ≡ Some t → IsWrittenType 0 [] t × HasFirst es t
        step (entry.Type u) p n j = subst (λ t. IsWrittenType 0 [] t × HasFirst es t) (same_some j) n
        step entry.AbstractType p n j =
            subst (λ t. IsWrittenType 0 [] t × HasFirst es t) (same_some j) (w.abstract (ap out-Ty (sym (ty.rolls-Abstract x)) ∙ out-roll-Ty (layer.Abstract x)) p, tt)
        step _ p n j = cc

    pub constant_found : (x : Name) (c : Constant) → constant_named ds x ≡ Some c → IsNamedType c.ty × (is_word_here es (out-Ty c.ty) c.number ≡ true)
    constant_found x c i = by_entry Good as_constant x c step (λ e. cc) i
      where
        Good : Constant → Type 0
        Good c = IsNamedType c.ty × (is_word_here es (out-Ty c.ty) c.number ≡ true)

        step : (e : Entry) → is_path x ≡ true → IsNamedEntry es e → as_constant (Some e) ≡ Some c → Good c
        step (entry.Constant k) p n j = subst Good (same_some j) n
        step _ p n j = cc

    results : (ts : List Ty) → AllByRecursion IsNamedType ts → AllByRecursion IsNamedResult ts
    results [] k = tt
    results (t ∷ ts) k = (as_result t k.0, results ts k.1)

    -- an operator: its name, the types of its parameters and of its result
    abbrev pub IsNamedOperation : Name → OperatorType → Type 0
    IsNamedOperation x o = (is_path x ≡ true) × AllByRecursion IsNamedResult o.params × IsNamedResult o.result

    pub operator_found : (x : Name) (o : OperatorType) → operator_named ds x ≡ Some o → IsNamedOperation x o
    operator_found x o i = by_entry (IsNamedOperation x) as_operator x o step (λ e. cc) i
      where
        step : (e : Entry) → is_path x ≡ true → IsNamedEntry es e → as_operator (Some e) ≡ Some o → IsNamedOperation x o
        step (entry.Operator f) p n j = subst (IsNamedOperation x) {x = record { params = f.params; result = (out-Term f.body).ty }} (same_some j) (p, results f.params n.0, (parts_named es f.body n.1).1)
        step (entry.AbstractOperator f) p n j = subst (IsNamedOperation x) (same_some j) (p, results f.params n.0, as_result f.result n.1)
        step _ p n j = cc

    pub module_found : (x : Name) (m : Module) → module_of ds x ≡ Some m → (is_path x ≡ true) × IsNamedModule es m
    module_found x m i = by_entry (λ m. (is_path x ≡ true) × IsNamedModule es m) as_module x m step (λ e. cc) i
      where
        step : (e : Entry) → is_path x ≡ true → IsNamedEntry es e → as_module (Some e) ≡ Some m → (is_path x ≡ true) × IsNamedModule es m
        step (entry.Module k) p n j = (p, subst (IsNamedModule es) (same_some j) n)
        step _ p n j = cc

    -- a module type, and the procedures that it asks for
    pub module_type_found : (x : Name) (t : ModuleType) → module_type_of ds x ≡ Some t → IsNamedModuleType t
    module_type_found x t i = by_entry IsNamedModuleType as_module_type x t step (λ e. cc) i
      where
        step : (e : Entry) → is_path x ≡ true → IsNamedEntry es e → as_module_type (Some e) ≡ Some t → IsNamedModuleType t
        step (entry.ModuleType u) p n j = subst IsNamedModuleType (same_some j) n
        step _ p n j = cc

    pub type_signatures : (x : Name) (t : ModuleType) → module_type_of ds x ≡ Some t → AllByRecursion IsNamedSignature t.signatures
    type_signatures x t i = let n = module_type_found x t i in n.signatures
