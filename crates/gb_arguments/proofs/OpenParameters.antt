-- The names of parameters that are left open are free, and different for one module.
use Rattle.std.proofs.Common.{◌≡◌, Bool, true, false, if◌then◌else◌, List, [], ◌∷◌, Option, Some, None, option_map, bytes_eq, refl, ap, sym, ◌∙◌, subst}
use Rattle.std.proofs.lemmas.Bool.{false≢true}
use Rattle.std.proofs.lemmas.Slice.Eq.{bytes_eq-Decides}
use Rattle.gb_terms.specs.declared.decl.Module.{Module}
use Rattle.gb_terms.specs.declared.decl.Param.{Param}
use Rattle.gb_terms.specs.declared.module.Bind.{Bind}
use Rattle.gb_terms.specs.declared.module.Mexp.{Mexp}
use Rattle.gb_terms.specs.declared.module.Mexp.TheVariants.{Name as named, Apply'}
use Rattle.gb_goal.specs.declared.scope.Entry.{Entry}
use Rattle.gb_goal.specs.declared.scope.Entry.TheVariants as entry
use Rattle.gb_goal.specs.Interfaces.{Interface, fits, given, interface_at, interface_of, interfaces_at, lacking, left_over, of_entry, of_module, of_type}
use Rattle.gb_goal.specs.Scope as scope
use Rattle.gb_goal.specs.Scope.{as_module, entry_of, module_of, module_type_of}
use Rattle.gb_meaning.specs.Names.{Name}
use Rattle.gb_meaning.specs.Declared.{Declarations, ModuleType, concrete_module, declared}
use Rattle.gb_meaning.specs.Holds.{declared_modules}
use Rattle.gb_meaning.specs.Settings.{Interpretation}
use Rattle.gb_typing.specs.Chosen.{chosen_under}
use Rattle.gb_typing.specs.Context.{Context}
use Rattle.gb_typing.specs.Formulas.{IsKnown}
use Rattle.gb_typing.specs.Modules.{Modules, functor_type, of_functor_type}
use Rattle.gb_typing.specs.Scopes.{AreParams, AreTaken, AreTypedAfter, IsModule, IsTypedScope, context_of, nothing, with_param}
use Rattle.gb_typing.proofs.Agreed.{resolved}
use Rattle.gb_typing.proofs.DeclaredProcedures.{names_are}
use Rattle.gb_typing.proofs.Declaring.{split}
use Rattle.gb_typing.proofs.Interfaces.{itself, none_some, same_some}
use Rattle.gb_typing.proofs.ParameterTypes.{type_in_scope}
use Rattle.gb_typing.proofs.Standing.{module_place, stands}
use Rattle.gb_mods.specs.Meets.{open_name}
use Rattle.gb_arguments.specs.Arguments.{IsChoiceFor}
use Rattle.gb_arguments.specs.Said.{AllOther, AreApart, AreFree}
use Rattle.gb_arguments.proofs.Choices.{AreOthers, none_chosen}
use Rattle.gb_print.specs.Blank.{begins_blank}
use Rattle.gb_arguments.specs.Unblank.{AreUnblank}

-- Nothing is declared under them, and nothing chosen.

-- a name that begins with no blank is none of them
other_name : (x n : Name) → begins_blank n ≡ false → (b : Bool) → bytes_eq (open_name x) n ≡ b → b ≡ false
other_name x n u true e = absurd (false≢true (sym u ∙ ap begins_blank (sym ((bytes_eq-Decides (open_name x) n).0 e))))
other_name x n u false e = refl

named_other : (x n : Name) → begins_blank n ≡ false → bytes_eq (open_name x) n ≡ false
named_other x n u = other_name x n u (bytes_eq (open_name x) n) refl

pub entry_free : (ds : scope.Declarations) → AreUnblank ds → (x : Name) → entry_of ds (open_name x) ≡ None
entry_free [] s x = refl
entry_free (d ∷ ds) s x = ap (λ b. if b then Some d.1 else entry_of ds (open_name x)) (named_other x d.0 s.0) ∙ entry_free ds s.1 x

binders_other : (ds : scope.Declarations) (before : Declarations) (c : Context) → AreTypedAfter c before (declared ds) → AreUnblank ds → (x : Name) → AreOthers (declared_modules (declared ds)) (open_name x)
binders_other [] before c w s x = tt
binders_other ((n, entry.AbstractModule b) ∷ ds) before c w s x = (ap (bytes_eq (open_name x)) w.1.0 ∙ named_other x n s.0, binders_other ds _ _ w.2 s.1 x)
binders_other ((n, entry.Module m) ∷ ds) before c w s x = binders_other ds _ _ w.2 s.1 x
binders_other ((n, entry.Lemma q bs) ∷ ds) before c w s x = binders_other ds _ _ w.2 s.1 x
binders_other ((n, entry.Type t) ∷ ds) before c w s x = binders_other ds _ _ w.2 s.1 x
binders_other ((n, entry.AbstractType) ∷ ds) before c w s x = binders_other ds _ _ w.2 s.1 x
binders_other ((n, entry.ModuleType t) ∷ ds) before c w s x = binders_other ds _ _ w.2 s.1 x
binders_other ((n, entry.Constant k) ∷ ds) before c w s x = binders_other ds _ _ w.2 s.1 x
binders_other ((n, entry.Operator o) ∷ ds) before c w s x = binders_other ds _ _ w.2 s.1 x
binders_other ((n, entry.AbstractOperator o) ∷ ds) before c w s x = binders_other ds _ _ w.2 s.1 x
binders_other ((n, entry.Terminating f) ∷ ds) before c w s x = binders_other ds _ _ w.2 s.1 x

module _ (ds : scope.Declarations) (scoped : IsTypedScope (declared ds)) (unblank : AreUnblank ds) (i k : Interpretation) (none : (n : Name) → chosen_under i.programs n ≡ None)
    (choice : IsChoiceFor (declared ds) (declared_modules (declared ds)) i k) where
  pub are_free : (ps : List Param) → AreFree ds k.programs ps
  are_free [] = tt
  are_free (q ∷ qs) = (
    (entry_free ds unblank q.name, none_chosen (declared ds) (declared_modules (declared ds)) i k choice (open_name q.name) (binders_other ds [] nothing scoped unblank q.name) (none (open_name q.name))),
    are_free qs,
  )

-- no module is known under them
pub none_known : (ds : scope.Declarations) → IsTypedScope (declared ds) → AreUnblank ds → (x : Name) → (context_of (declared ds)).modules.interfaces (open_name x) ≡ None
none_known ds scoped unblank x = names_are ds scoped (open_name x) ∙ ap (λ o. option_map (resolved (context_of (declared ds)).modules.types) (of_entry ds o)) (entry_free ds unblank x)

-- Parameters of one module have different names.

abbrev behind : Name → Name
behind [] = []
behind (x ∷ xs) = xs

open_differs : (x y : Name) → bytes_eq x y ≡ false → (b : Bool) → bytes_eq (open_name x) (open_name y) ≡ b → b ≡ false
open_differs x y e true q = absurd (false≢true (sym e ∙ (bytes_eq-Decides x y).1 (ap behind ((bytes_eq-Decides (open_name x) (open_name y)).0 q))))
open_differs x y e false q = refl

abbrev KeepsNames : Modules → Modules → Type 0
KeepsNames ms ns = (n : Name) → IsKnown (ms.interfaces n) → IsKnown (ns.interfaces n)

param_keeps : (ms : Modules) (p : Param) → KeepsNames ms (with_param ms p)
param_keeps ms p n k = step (bytes_eq n p.name)
  where
    step : (b : Bool) → IsKnown (if b then Some (of_functor_type (functor_type ms.types (ms.types p.ty))) else ms.interfaces n)
    step true = tt
    step false = k

param_there : (ms : Modules) (p : Param) → IsKnown ((with_param ms p).interfaces p.name)
param_there ms p = subst IsKnown (sym (ap (λ b. if b then Some (of_functor_type (functor_type ms.types (ms.types p.ty))) else ms.interfaces p.name) (itself p.name))) tt

-- a name under which no module is known isn't one under which one is
unknown_other : (ms : Modules) (n k : Name) → ms.interfaces n ≡ None → IsKnown (ms.interfaces k) → (b : Bool) → bytes_eq n k ≡ b → b ≡ false
unknown_other ms n k e w true q = absurd (subst IsKnown (sym (ap ms.interfaces ((bytes_eq-Decides n k).0 q)) ∙ e) w)
unknown_other ms n k e w false q = refl

taken_other : (ms : Modules) (ps : List Param) → AreTaken ms ps → (q : Param) → IsKnown (ms.interfaces q.name) → AllOther q ps
taken_other ms [] w q k = tt
taken_other ms (p ∷ ps) w q k = (
  open_differs p.name q.name (unknown_other ms p.name q.name w.0.1 k (bytes_eq p.name q.name) refl) (bytes_eq (open_name p.name) (open_name q.name)) refl,
  taken_other (with_param ms p) ps w.1 q (param_keeps ms p q.name k),
)

taken_apart : (ms : Modules) (ps : List Param) → AreTaken ms ps → AreApart ps
taken_apart ms [] w = tt
taken_apart ms (p ∷ ps) w = (taken_other (with_param ms p) ps w.1 p (param_there ms p), taken_apart (with_param ms p) ps w.1)

params_taken : (ms : Modules) (ps : List Param) → AreParams ms ps → AreTaken ms ps
params_taken ms [] w = tt
params_taken ms (p ∷ ps) w = ((w.0.0, w.0.2), params_taken (with_param ms p) ps w.1)

module _ (ds : scope.Declarations) (scoped : IsTypedScope (declared ds)) where
  module_apart : (n : Name) (m : Module) → module_of ds n ≡ Some m → AreApart m.params
  module_apart n m e =
      let s = stands ds n m e in
      let x = split (declared s.front) ((n, concrete_module m) ∷ declared s.after) [] nothing (subst IsTypedScope (module_place ds n m s) scoped) in
      let y : IsModule (context_of (declared s.front)) n m = x.1.1 in
      taken_apart _ m.params y.params

  name_apart : (n : Name) (i : Interface) → interface_of ds None n ≡ Some i → AreApart i.lacks
  name_apart n i e = by_entry (entry_of ds n) refl e
    where
      of_abstract : (b : Bind) (o : Option ModuleType) → module_type_of ds b.ty ≡ o → option_map of_type o ≡ Some i → AreApart i.lacks
      of_abstract b None h e = none_some i e
      of_abstract b (Some t) h e =
          let s = type_in_scope ds scoped b.ty t h in
          subst (λ (z : Interface). AreApart z.lacks) (same_some (of_type t) i e)
          (taken_apart (let d = s.before in d.modules) t.params (params_taken (let d = s.before in d.modules) t.params (let y = s.typed in y.params)))

      by_entry : (o : Option Entry) → entry_of ds n ≡ o → of_entry ds o ≡ Some i → AreApart i.lacks
      by_entry (Some (entry.Module m)) h e = subst (λ (z : Interface). AreApart z.lacks) (same_some (of_module m) i e) (module_apart n m (ap as_module h))
      by_entry (Some (entry.AbstractModule b)) h e = of_abstract b (module_type_of ds b.ty) refl e
      by_entry _ h e = none_some i e

  left_apart : (ps : List Param) (os : List (Option Interface)) (ls : List Param) → left_over ds ps os ≡ Some ls → AreApart ps → AreApart ls
  left_apart ps [] ls e w = subst AreApart (same_some ps ls e) w
  left_apart [] (o ∷ os) ls e w = none_some ls e
  left_apart (p ∷ ps) (o ∷ os) ls e w = step (fits ds o (module_type_of ds p.ty)) e (λ e. left_apart ps os ls e w.1)
    where
      step : (b : Bool) → (if b then left_over ds ps os else None) ≡ Some ls → (left_over ds ps os ≡ Some ls → AreApart ls) → AreApart ls
      step true e go = go e
      step false e go = none_some ls e

  -- what a module expression lacks
  pub lacks_apart : (e : Mexp) (i : Interface) → interface_at ds None e ≡ Some i → AreApart i.lacks
  lacks_apart (named n) i e = name_apart n i e
  lacks_apart (Apply' n k args) i e = step (interface_of ds None n) refl e
    where
      lacks : (j : Interface) → interface_of ds None n ≡ Some j → (o : Option (List Param)) → left_over ds j.lacks (interfaces_at ds None args) ≡ o → lacking j o ≡ Some i → AreApart i.lacks
      lacks j q None l e = none_some i e
      lacks j q (Some ls) l e = subst (λ (z : Interface). AreApart z.lacks) (same_some (record j { lacks = ls }) i e) (left_apart j.lacks (interfaces_at ds None args) ls l (name_apart n j q))

      step : (o : Option Interface) → interface_of ds None n ≡ o → given ds o (interfaces_at ds None args) ≡ Some i → AreApart i.lacks
      step None q e = none_some i e
      step (Some j) q e = lacks j q (left_over ds j.lacks (interfaces_at ds None args)) refl e
