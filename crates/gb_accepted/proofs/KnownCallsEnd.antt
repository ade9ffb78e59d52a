-- The loops of the goals to which `call` leads by what is known.
use Rattle.std.proofs.Common.{◌≡◌, List, [], ◌∷◌, Some, map, ap, sym, ◌∙◌, subst}
use Rattle.std.specs.List.{AllByRecursion}
use Rattle.gb_core.specs.declared.place.Place.{Place}
use Rattle.gb_core.specs.declared.refusal.Why.TheVariants.{Shape}
use Rattle.gb_terms.specs.declared.decl.TypedName.{TypedName}
use Rattle.gb_terms.specs.declared.term.Term.{Term}
use Rattle.gb_goal.specs.Answers.Answer.{given}
use Rattle.gb_goal.specs.Goal.{Goal, goal_of}
use Rattle.gb_goal.specs.Goal.Goal.{hoare, phoare, equiv, ambient}
use Rattle.gb_goal.specs.Rows.{concluding, each_concluding}
use Rattle.gb_goal.specs.Scope.{Declarations}
use Rattle.gb_goal.specs.declared.sequent.Sequent.{Sequent}
use Rattle.gb_steps.specs.declared.step.Acts.{Acts}
use Rattle.gb_steps.specs.declared.step.Acts.TheVariants as on
use Rattle.gb_steps.specs.declared.step.Rule.TheVariants.{Call}
use Rattle.gb_meaning.specs.Declared.{declared}
use Rattle.gb_meaning.specs.Holds.{Holds, InEachSetting, declared_modules, interpretation}
use Rattle.gb_typing.specs.Context.{Context}
use Rattle.gb_typing.specs.Goals.{IsGoalOver, IsTypedGoal}
use Rattle.gb_typing.specs.Scopes.{context_of, IsTypedScope}
use Rattle.gb_typing.specs.Sequents.{of_sequent, IsTypedSequent}
use Rattle.gb_typing.specs.Typing.{IsForm}
use Rattle.gb_typing.proofs.Given.{refused_given, same_given}
use Rattle.gb_typing.proofs.Lifted.{each}
use Rattle.gb_prog.specs.Ends.{KeepsEnds, SequentEnds}
use Rattle.gb_call_both.specs.Known.{IsAnswer, behind, by_chances, by_conditions, contract}
use Rattle.gb_call_both.proofs.KnownIsSound.{behind_goals}
use Rattle.gb_accepted.proofs.CallsEnd.{calls_end, side_ends}
use Rattle.gb_accepted.proofs.LiftedEnd.{row_ends}

behind_end : (P : Sequent → Type 0) (qs : List Sequent) → AllByRecursion P qs → AllByRecursion P (behind qs)
behind_end P [] h = tt
behind_end P (q ∷ qs) h = h.1

module _ (ds : Declarations) (c : Context) (ls rs : List TypedName) (a : Acts) where
  conditions_end : (K G : Goal) → IsGoalOver c ls rs G → (Gs : List Goal) → by_conditions ds a K G ≡ given Gs → KeepsEnds (declared ds) Gs G
  conditions_end (hoare d p q) G w Gs e = calls_end ds c ls rs (Call (contract a p q)) G w Gs e
  conditions_end (phoare d r p q b) G w Gs e = chances_end a e
    where
      chances_end : (x : Acts) → by_chances ds x p q b G ≡ given Gs → KeepsEnds (declared ds) Gs G
      chances_end on.All e g over = calls_end ds c ls rs (Call (contract on.All p q)) G w Gs e g over
      chances_end on.Left e g over = side_ends ds g c (Some b) (contract on.Left p q) ls rs on.Left G w Gs e
      chances_end on.Right e g over = side_ends ds g c (Some b) (contract on.Right p q) ls rs on.Right G w Gs e
  conditions_end (equiv d b p q) G w Gs e = calls_end ds c ls rs (Call (contract a p q)) G w Gs e
  conditions_end (ambient f) G w Gs e = refused_given Shape Gs e

pub known_end : (ds : Declarations) (scoped : IsTypedScope (declared ds)) (q : Sequent) (t : IsTypedSequent (context_of (declared ds)) q) (a : Acts) (f : Term) (w : IsForm (of_sequent (context_of (declared ds)) q t.frames) f)
    (known : Holds (declared ds) (record q { conclusion = f })) →
    (place : Place) (qs : List Sequent) → IsAnswer ds a f place q (given qs) → SequentEnds (declared ds) q → AllByRecursion (SequentEnds (declared ds)) qs
known_end ds scoped q t a f w known place qs e h =
    let c = of_sequent (context_of (declared ds)) q t.frames in
    let k = behind_goals ds scoped q t a f w known place qs e in
    let v = k.seen in
    let anywhere : InEachSetting (declared ds) q (λ g. Unit {0}) =
    (λ u size table m. each (declared ds) (declared_modules (declared ds)) (interpretation u size table) _ (λ i. each (declared ds) q.modules i (λ k. Unit {0}) (λ k. tt))) in
    let all : AllByRecursion (SequentEnds (declared ds)) (map (concluding q) k.goals) =
    row_ends (declared ds) scoped q t (λ g. Unit {0}) anywhere (by_conditions ds a (goal_of f))
    (λ Gs r. (subst (AllByRecursion (IsTypedGoal c)) (same_given k.goals Gs (sym k.given_so ∙ r)) k.typed_so, λ g over x y. conditions_end ds c v.0 v.1 a (goal_of f) (goal_of q.conclusion) v.2 Gs r g over y))
    (map (concluding q) k.goals) (ap (each_concluding q) k.given_so) h in
    subst (AllByRecursion (SequentEnds (declared ds))) (sym k.rest) (behind_end (SequentEnds (declared ds)) (map (concluding q) k.goals) all)
