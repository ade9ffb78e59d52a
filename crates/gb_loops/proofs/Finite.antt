-- Variables of typed scopes have types of values.
use Rattle.std.proofs.Common.{◌≡◌, Bool, true, false, if◌then◌else◌, List, [], ◌∷◌, ◌++◌, Some, bytes_eq, refl, ap, sym, ◌∙◌, subst}
use Rattle.gb_core.specs.declared.ty.Ty.{Ty}
use Rattle.gb_core.specs.declared.var.Var.{Var}
use Rattle.gb_core.specs.declared.var.Var.TheVariants as var
use Rattle.gb_terms.specs.declared.decl.TypedName.{TypedName}
use Rattle.gb_goal.specs.Scope as scope
use Rattle.gb_goal.specs.declared.scope.Entry.TheVariants as entry
use Rattle.gb_goal.specs.declared.sequent.Sequent.{Sequent}
use Rattle.gb_meaning.specs.Names.{Name}
use Rattle.gb_meaning.specs.Written.{local_type}
use Rattle.gb_laws.specs.Finite.{IsFinite}
use Rattle.gb_meaning.specs.Declared.{Declarations, declaration_of, declared, concrete_module, lemma}
use Rattle.gb_typing.specs.Context.{Context, Frame, reframed}
use Rattle.gb_typing.specs.Programs.{HaveVariableTypes}
use Rattle.gb_typing.specs.Scopes.{nothing, with_declared, with_each, context_of, AreTypedAfter, IsTypedScope}
use Rattle.gb_typing.specs.Sequents.{of_sequent}
use Rattle.gb_typing.specs.Typing.{IsIn}
use Rattle.gb_typing.proofs.Scripts.{none_some}
use Rattle.gb_call.proofs.Globals.{finite_there, globals_left}

-- each global of a context has a type of values
abbrev AreFinite : Context → Type 0
AreFinite c = (n x : Name) (t : Ty) → c.global n x ≡ Some t → IsFinite t

finite_each : (ds : scope.Declarations) (before : Declarations) (c : Context) → AreTypedAfter c before (declared ds) → AreFinite c → AreFinite (with_each c (declared ds))
finite_each [] before c w h = h
finite_each ((k, entry.Module m) ∷ ds) before c w h =
    finite_each ds (before ++ (k, concrete_module m) ∷ []) (with_declared c k (concrete_module m)) w.2 (λ n x t e. by_name n x t (bytes_eq n k) e)
  where
    by_name : (n x : Name) (t : Ty) (b : Bool) → (if b then local_type m.globals x else c.global n x) ≡ Some t → IsFinite t
    by_name n x t true e = finite_there m.globals (let v = w.1 in v.globals) x t e
    by_name n x t false e = h n x t e
finite_each ((k, entry.Lemma q bs) ∷ ds) before c w h = finite_each ds (before ++ (k, lemma q) ∷ []) c w.2 h
finite_each ((k, entry.Type t) ∷ ds) before c w h = let z = declaration_of (entry.Type t) in finite_each ds (before ++ (k, z) ∷ []) (with_declared c k z) w.2 h
finite_each ((k, entry.AbstractType) ∷ ds) before c w h = let z = declaration_of entry.AbstractType in finite_each ds (before ++ (k, z) ∷ []) (with_declared c k z) w.2 h
finite_each ((k, entry.ModuleType y) ∷ ds) before c w h = let z = declaration_of (entry.ModuleType y) in finite_each ds (before ++ (k, z) ∷ []) (with_declared c k z) w.2 h
finite_each ((k, entry.AbstractModule y) ∷ ds) before c w h = let z = declaration_of (entry.AbstractModule y) in finite_each ds (before ++ (k, z) ∷ []) (with_declared c k z) w.2 h
finite_each ((k, entry.Constant a) ∷ ds) before c w h = let z = declaration_of (entry.Constant a) in finite_each ds (before ++ (k, z) ∷ []) (with_declared c k z) w.2 h
finite_each ((k, entry.Operator o) ∷ ds) before c w h = let z = declaration_of (entry.Operator o) in finite_each ds (before ++ (k, z) ∷ []) (with_declared c k z) w.2 h
finite_each ((k, entry.AbstractOperator o) ∷ ds) before c w h = let z = declaration_of (entry.AbstractOperator o) in finite_each ds (before ++ (k, z) ∷ []) (with_declared c k z) w.2 h
finite_each ((k, entry.Terminating a) ∷ ds) before c w h = let z = declaration_of (entry.Terminating a) in finite_each ds (before ++ (k, z) ∷ []) (with_declared c k z) w.2 h

-- so has each variable of a memory of a goal, over locals with types of variables
pub finite_in : (ds : scope.Declarations) → IsTypedScope (declared ds) → (q : Sequent) (fs : List (List TypedName)) (F L K : Frame) (ls : List TypedName) → HaveVariableTypes ls → (x : Var) (t : Ty) →
    IsIn (reframed (of_sequent (context_of (declared ds)) q fs) F L K) (Some ls) x t → IsFinite t
finite_in ds w q fs F L K ls h (var.Local x) t e = finite_there ls h x t e
finite_in ds w q fs F L K ls h (var.Global m x) t e =
    finite_each ds [] nothing w (λ n x t e. none_some t e) m x t (ap (λ f. f m x) (sym (globals_left (context_of (declared ds)) q.modules)) ∙ e.1)
finite_in ds w q fs F L K ls h (var.Glob a) t e = subst IsFinite (sym e.2) refl
