-- The globals of declared modules, and all those of abstract modules, in the context of a goal.
use Rattle.std.proofs.Common.{◌≡◌, Bool, true, false, if◌then◌else◌, List, [], ◌∷◌, ◌++◌, Option, Some, None, is_some, bytes_eq, refl, ap, sym, ◌∙◌, subst}
use Rattle.gb_core.specs.declared.ty.Ty.{Ty}
use Rattle.gb_core.specs.declared.ty.Ty.TheVariants as ty
use Rattle.gb_core.specs.declared.var.Var.{Var}
use Rattle.gb_core.specs.declared.var.Var.TheVariants as var
use Rattle.gb_terms.specs.declared.decl.Module.{Module}
use Rattle.gb_terms.specs.declared.decl.TypedName.{TypedName}
use Rattle.gb_terms.specs.declared.module.Bind.{Bind}
use Rattle.gb_goal.specs.Scope as scope
use Rattle.gb_goal.specs.Scope.{abstract_of, entry_of, as_module, module_of}
use Rattle.gb_goal.specs.declared.scope.Entry.{Entry}
use Rattle.gb_goal.specs.declared.scope.Entry.TheVariants as entry
use Rattle.gb_goal.specs.declared.sequent.Sequent.{Sequent}
use Rattle.gb_meaning.specs.Names.{Name}
use Rattle.gb_meaning.specs.Written.{local_type}
use Rattle.gb_laws.specs.Finite.{IsFinite}
use Rattle.gb_meaning.specs.Declared.{Declarations, declaration_of, declared, concrete_module, lemma}
use Rattle.gb_typing.specs.Context.{Context}
use Rattle.gb_typing.specs.Programs.{HaveVariableTypes}
use Rattle.gb_typing.specs.Formulas.{with_module}
use Rattle.gb_typing.specs.Rules.{outermost}
use Rattle.gb_typing.specs.Sequents.{of_sequent, with_modules}
use Rattle.gb_typing.specs.Scopes.{nothing, with_declared, with_each, context_of, is_declared, AreTypedAfter, IsTypedScope}
use Rattle.gb_typing.specs.Typing.{IsIn}
use Rattle.gb_typing.proofs.Operators.{declared_more, declared_last, other_name}
use Rattle.gb_typing.proofs.Scripts.{none_some, same_some}
use Rattle.gb_typing.proofs.Together.{goal_together}
use Rattle.gb_typing.proofs.Variables.{variable_finite}
use Rattle.gb_call.specs.Written.{glob_type, global_type, type_in}

-- what is declared later leaves the globals of the modules that are declared
stays : (ds : scope.Declarations) (before : Declarations) (c : Context) (n : Name) → is_declared before n ≡ true → AreTypedAfter c before (declared ds) → (x : Name) → (with_each c (declared ds)).global n x ≡ c.global n x
stays [] before c n d w x = refl
stays ((k, entry.Module m) ∷ ds) before c n d w x =
    stays ds (before ++ (k, concrete_module m) ∷ []) (with_declared c k (concrete_module m)) n (declared_more before (k, concrete_module m) n d) w.2 x
    ∙ ap (λ (b : Bool). if b then local_type m.globals x else c.global n x) (other_name before n k d w.0)
stays ((k, entry.Lemma q order) ∷ ds) before c n d w x = stays ds (before ++ (k, lemma q) ∷ []) c n (declared_more before (k, lemma q) n d) w.2 x
stays ((k, entry.Type t) ∷ ds) before c n d w x =
    let z = declaration_of (entry.Type t) in stays ds (before ++ (k, z) ∷ []) (with_declared c k z) n (declared_more before (k, z) n d) w.2 x
stays ((k, entry.AbstractType) ∷ ds) before c n d w x =
    let z = declaration_of entry.AbstractType in stays ds (before ++ (k, z) ∷ []) (with_declared c k z) n (declared_more before (k, z) n d) w.2 x
stays ((k, entry.ModuleType y) ∷ ds) before c n d w x =
    let z = declaration_of (entry.ModuleType y) in stays ds (before ++ (k, z) ∷ []) (with_declared c k z) n (declared_more before (k, z) n d) w.2 x
stays ((k, entry.AbstractModule y) ∷ ds) before c n d w x =
    let z = declaration_of (entry.AbstractModule y) in stays ds (before ++ (k, z) ∷ []) (with_declared c k z) n (declared_more before (k, z) n d) w.2 x
stays ((k, entry.Constant a) ∷ ds) before c n d w x =
    let z = declaration_of (entry.Constant a) in stays ds (before ++ (k, z) ∷ []) (with_declared c k z) n (declared_more before (k, z) n d) w.2 x
stays ((k, entry.Operator o) ∷ ds) before c n d w x =
    let z = declaration_of (entry.Operator o) in stays ds (before ++ (k, z) ∷ []) (with_declared c k z) n (declared_more before (k, z) n d) w.2 x
stays ((k, entry.AbstractOperator o) ∷ ds) before c n d w x =
    let z = declaration_of (entry.AbstractOperator o) in stays ds (before ++ (k, z) ∷ []) (with_declared c k z) n (declared_more before (k, z) n d) w.2 x
stays ((k, entry.Terminating a) ∷ ds) before c n d w x =
    let z = declaration_of (entry.Terminating a) in stays ds (before ++ (k, z) ∷ []) (with_declared c k z) n (declared_more before (k, z) n d) w.2 x

-- a declared module stands with its globals
record Stands (d : Context) (n : Name) (m : Module) : Type 0 where
  globals : (x : Name) → d.global n x ≡ local_type m.globals x
  types : HaveVariableTypes m.globals

stands : (ds : scope.Declarations) (before : Declarations) (c : Context) → AreTypedAfter c before (declared ds) → (n : Name) (m : Module) → entry_of ds n ≡ Some (entry.Module m) →
    Stands (with_each c (declared ds)) n m
stands [] before c w n m e = none_some (entry.Module m) e
stands ((k, d) ∷ ds) before c w n m e = step (bytes_eq n k) refl (stands ds (before ++ (k, declaration_of d) ∷ []) (with_declared c k (declaration_of d)) w.2 n m) e
  where
    here : bytes_eq n k ≡ true → (x : Entry) → AreTypedAfter c before ((k, declaration_of x) ∷ declared ds) → x ≡ entry.Module m →
        Stands (with_each (with_declared c k (declaration_of x)) (declared ds)) n m
    here i (entry.Module r) v h =
        let s : r ≡ m = (let f : entry.Module r ≡ entry.Module m = h in cc) in
        let rest = stays ds (before ++ (k, concrete_module r) ∷ []) (with_declared c k (concrete_module r)) n (declared_last before (k, concrete_module r) n i) v.2 in
        subst (Stands (with_each (with_declared c k (concrete_module r)) (declared ds)) n) s (record {
          globals = λ x. rest x ∙ ap (λ (b : Bool). if b then local_type r.globals x else c.global n x) i;
          types = v.1.globals;
        })
    here i _ v h = cc

    step : (b : Bool) → bytes_eq n k ≡ b → (entry_of ds n ≡ Some (entry.Module m) → Stands (with_each (with_declared c k (declaration_of d)) (declared ds)) n m) →
        (if b then Some d else entry_of ds n) ≡ Some (entry.Module m) → Stands (with_each (with_declared c k (declaration_of d)) (declared ds)) n m
    step true i f h = here i d w (same_some d (entry.Module m) h)
    step false i f h = f h

pub finite_there : (ls : List TypedName) → HaveVariableTypes ls → (x : Name) (t : Ty) → local_type ls x ≡ Some t → IsFinite t
finite_there [] h x t e = none_some t e
finite_there (l ∷ ls) h x t e = step (bytes_eq x l.name) (finite_there ls h.1 x t) e
  where
    step : (b : Bool) → (local_type ls x ≡ Some t → IsFinite t) → (if b then Some l.ty else local_type ls x) ≡ Some t → IsFinite t
    step true rest e = subst IsFinite (same_some l.ty t e) (variable_finite l.ty h.0)
    step false rest e = rest e

-- abstract modules leave globals
pub globals_left : (c : Context) (bs : List Bind) → (with_modules c bs).global ≡ c.global
globals_left c [] = refl
globals_left c (b ∷ bs) = globals_left (with_module c b) bs

global_there : (ds : scope.Declarations) → IsTypedScope (declared ds) → (q : Sequent) (fs : List (List TypedName)) (n x : Name) (t : Ty) → type_in (module_of ds n) x ≡ Some t →
    ((of_sequent (context_of (declared ds)) q fs).global n x ≡ Some t) × IsFinite t
global_there ds w q fs n x t e = by_entry (entry_of ds n) refl e
  where
    by_entry : (o : Option Entry) → entry_of ds n ≡ o → type_in (as_module o) x ≡ Some t → ((of_sequent (context_of (declared ds)) q fs).global n x ≡ Some t) × IsFinite t
    by_entry None i h = none_some t h
    by_entry (Some (entry.Module m)) i h =
        let s = stands ds [] nothing w n m i in
        (ap (λ f. f n x) (globals_left (context_of (declared ds)) q.modules) ∙ s.globals x ∙ h, finite_there m.globals s.types x t h)
    by_entry (Some _) i h = none_some t h

-- all globals of an abstract module are of a type of their own
whole_there : (ds : scope.Declarations) → IsTypedScope (declared ds) → (q : Sequent) (fs : List (List TypedName)) (a : Name) (o : Option Bind) → abstract_of ds a ≡ o → (t : Ty) → glob_type a o ≡ Some t →
    ((of_sequent (context_of (declared ds)) q fs).has_globals a ≡ true) × (t ≡ ty.Glob a)
whole_there ds w q fs a None i t e = none_some t e
whole_there ds w q fs a (Some b) i t e =
    (goal_together ds w a q fs (ap is_some i), sym (same_some (ty.Glob a) t e))

-- a variable of which the type is known may be read at it, and its values are finite
pub variable_there : (ds : scope.Declarations) → IsTypedScope (declared ds) → (q : Sequent) (fs : List (List TypedName)) (x : Var) (t : Ty) → global_type ds x ≡ Some t →
    IsIn (outermost (of_sequent (context_of (declared ds)) q fs)) (Some []) x t × IsFinite t
variable_there ds w q fs (var.Local x) t e = none_some t e
variable_there ds w q fs (var.Global n x) t e = let z = global_there ds w q fs n x t e in ((tt, z.0), z.1)
variable_there ds w q fs (var.Glob a) t e = let z = whole_there ds w q fs a (abstract_of ds a) refl t e in ((tt, z.0, z.1), subst IsFinite (sym z.1) refl)
