-- What a row gives of a sequent.
use Rattle.std.proofs.Common.{◌≡◌, List, [], ◌∷◌, map, refl, sym, subst}
use Rattle.std.specs.List.{AllByRecursion}
use Rattle.gb_core.specs.declared.ty.Ty.{Ty}
use Rattle.gb_terms.specs.declared.term.Term.{Term, out-Term}
use Rattle.gb_terms.specs.declared.term.Subject.{Subject}
use Rattle.gb_terms.specs.declared.term.Head.{Head}
use Rattle.gb_terms.specs.declared.term.Head.TheVariants as head
use Rattle.gb_terms.specs.declared.term.Head.TheVariants.{Proc, Body'}
use Rattle.gb_terms.specs.Make.{node}
use Rattle.gb_core.specs.declared.place.Place.{Place}
use Rattle.gb_goal.specs.Answers.{Answer, placed_at}
use Rattle.gb_goal.specs.Answers.Answer.{given, refused}
use Rattle.gb_goal.specs.Goal.{Goal, form_of, code_of, goal_at, goal_of}
use Rattle.gb_goal.specs.Goal.Code.{procedure}
use Rattle.gb_goal.specs.Goal.Goal.{hoare, phoare, equiv, ambient}
use Rattle.gb_goal.specs.Rows.{Row, concluding, each_concluding, answered, stepped}
use Rattle.gb_goal.specs.declared.sequent.Sequent.{Sequent}
use Rattle.gb_typing.proofs.Given.{refused_at, same_given}
use Rattle.gb_typing.proofs.Shapes.{code_back, form_goal, node_out}
use Rattle.gb_print_names.specs.declared.bound_names.Enumeration.{Enumeration}
use Rattle.gb_shown.specs.Named.{IsNamedSubject, IsNamedHead, IsNamed, IsNamedCode, IsNamedGoal, IsNamedSequent}
use Rattle.gb_shown.specs.Rules.{KeepsNames}
use Rattle.gb_shown.proofs.SpeltTrees.{AllNamed, parts_named}

module _ (es : List Enumeration) where
  code_named : (c : Subject) → IsNamedSubject c → IsNamedCode es (code_of c)
  code_named (Proc p) h = subst (IsNamedCode es) (sym (code_back (procedure p))) h
  code_named (Body' n is) h = absurd h

  at_named : (f : Term) (h : Head) (ts : List Term) (t : Ty) → IsNamedHead es h t → AllNamed es ts → IsNamed es f → IsNamedGoal es (goal_at f h ts)
  at_named f (head.Hoare c) (p ∷ q ∷ []) t x y z = (code_named c x, y.0, y.1.0)
  at_named f (head.Hoare c) [] t x y z = z
  at_named f (head.Hoare c) (p ∷ []) t x y z = z
  at_named f (head.Hoare c) (p ∷ q ∷ b ∷ ts) t x y z = z
  at_named f (head.Phoare c r) (p ∷ q ∷ b ∷ []) t x y z = (code_named c x, y.0, y.1.0, y.1.1.0)
  at_named f (head.Phoare c r) [] t x y z = z
  at_named f (head.Phoare c r) (p ∷ []) t x y z = z
  at_named f (head.Phoare c r) (p ∷ q ∷ []) t x y z = z
  at_named f (head.Phoare c r) (p ∷ q ∷ b ∷ u ∷ ts) t x y z = z
  at_named f (head.Equiv c d) (p ∷ q ∷ []) t x y z = (code_named c x.0, code_named d x.1, y.0, y.1.0)
  at_named f (head.Equiv c d) [] t x y z = z
  at_named f (head.Equiv c d) (p ∷ []) t x y z = z
  at_named f (head.Equiv c d) (p ∷ q ∷ b ∷ ts) t x y z = z
  at_named f _ ts t x y z = z

  -- the goal of a form
  pub goal_named : (f : Term) → IsNamed es f → IsNamedGoal es (goal_of f)
  goal_named f h = let k = parts_named es f h in at_named f (out-Term f).head (out-Term f).args (out-Term f).ty k.0 k.2 h

  -- the goal of a node
  pub goal_of_node : (h : Head) (ts : List Term) (t : Ty) → IsNamedGoal es (goal_at (node h ts t) h ts) → IsNamedGoal es (goal_of (node h ts t))
  goal_of_node h ts t x = subst (λ l. IsNamedGoal es (goal_at (node h ts t) l.head l.args)) (sym (node_out h ts t)) x

  -- the form of a goal
  pub form_named : (G : Goal) → IsNamedGoal es G → IsNamedGoal es (goal_of (form_of G))
  form_named (hoare a p q) h = subst (IsNamedGoal es) (sym (form_goal (hoare a p q) tt)) h
  form_named (phoare a r p q b) h = subst (IsNamedGoal es) (sym (form_goal (phoare a r p q b) tt)) h
  form_named (equiv a b p q) h = subst (IsNamedGoal es) (sym (form_goal (equiv a b p q) tt)) h
  form_named (ambient f) h = goal_named f h

  pub all_concluding : (q : Sequent) → IsNamedSequent es q → (Gs : List Goal) → AllByRecursion (IsNamedGoal es) Gs → AllByRecursion (IsNamedSequent es) (map (concluding q) Gs)
  all_concluding q k [] h = tt
  all_concluding q k (G ∷ Gs) h =
      (record { variables = k.variables; memories = k.memories; modules = k.modules; hyps = k.hyps; conclusion = form_named G h.0 }, all_concluding q k Gs h.1)

  pub sequents_keep : (row : Row) → KeepsNames es row → (q : Sequent) → IsNamedSequent es q → (qs : List Sequent) → answered row q ≡ given qs → AllByRecursion (IsNamedSequent es) qs
  sequents_keep row keeps q k qs e = step (row (goal_of q.conclusion)) refl e
    where
      step : (a : Answer (List Goal)) → row (goal_of q.conclusion) ≡ a → each_concluding q a ≡ given qs → AllByRecursion (IsNamedSequent es) qs
      step (given Gs) i e = subst (AllByRecursion (IsNamedSequent es)) (same_given _ qs e) (all_concluding q k Gs (keeps (goal_of q.conclusion) k.conclusion Gs i))
      step (refused w p) i e = refused_at w p qs e

  -- the same of a step at a place
  pub stepped_keep : (row : Row) → KeepsNames es row → (q : Sequent) → IsNamedSequent es q → (place : Place) (qs : List Sequent) → stepped row place q ≡ given qs → AllByRecursion (IsNamedSequent es) qs
  stepped_keep row keeps q k place qs e = step (answered row q) refl e
    where
      step : (a : Answer (List Sequent)) → answered row q ≡ a → placed_at place a ≡ given qs → AllByRecursion (IsNamedSequent es) qs
      step (given rs) i e = subst (AllByRecursion (IsNamedSequent es)) (same_given rs qs e) (sequents_keep row keeps q k rs i)
      step (refused w p) i e = refused_at w _ qs e
