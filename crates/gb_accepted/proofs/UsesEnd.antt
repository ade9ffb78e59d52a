-- The loops of the goals to which steps lead that use a form that is known.
use Rattle.std.proofs.Common.{inl, inr, List, [], ◌∷◌, map, sym, subst}
use Rattle.std.specs.List.{AllByRecursion}
use Rattle.gb_core.specs.declared.place.Place.{Place}
use Rattle.gb_core.specs.declared.refusal.Why.TheVariants.{Shape}
use Rattle.gb_terms.specs.declared.term.Term.{Term}
use Rattle.gb_goal.specs.Answers.Answer.{given}
use Rattle.gb_goal.specs.declared.sequent.Sequent.{Sequent}
use Rattle.gb_steps.specs.declared.step.UseRule.{UseRule}
use Rattle.gb_steps.specs.declared.step.UseRule.TheVariants.{Apply, Have}
use Rattle.gb_meaning.specs.Declared.{Declarations}
use Rattle.gb_typing.specs.Context.{Context}
use Rattle.gb_typing.specs.Typing.{IsForm}
use Rattle.gb_typing.proofs.Given.{refused_at, same_given}
use Rattle.gb_prog.specs.Ends.{SequentEnds}
use Rattle.gb_amb.specs.Parts.{concluding}
use Rattle.gb_amb.specs.Steps.{assuming}
use Rattle.gb_amb.specs.Uses.{IsAnswer, used_by}
use Rattle.gb_amb.proofs.UsedPremises.{premises_typed}
use Rattle.gb_accepted.proofs.HeadsEnd.{bare_ends, typed_bare}

module _ (ds : Declarations) (q : Sequent) (c : Context) where
  forms_end : (fs : List Term) → AllByRecursion (IsForm c) fs → AllByRecursion (SequentEnds ds) (map (concluding q) fs)
  forms_end [] w = tt
  forms_end (f ∷ fs) w = (bare_ends ds (concluding q f) (typed_bare c f (let k = w.0 in k.typed)), forms_end fs w.1)

  pub uses_end : (r : UseRule) → IsForm c (used_by r) → (place : Place) (qs : List Sequent) → IsAnswer r place q (given qs) → SequentEnds ds q → AllByRecursion (SequentEnds ds) qs
  uses_end (Apply f) w place qs (inl (hs, p, e)) k = subst (AllByRecursion (SequentEnds ds)) (sym (same_given qs (map (concluding q) hs) e)) (forms_end hs (premises_typed c hs f q.conclusion p w).0)
  uses_end (Apply f) w place qs (inr (n, e)) k = refused_at Shape place qs (sym e)
  uses_end (Have x f) w place qs e k = subst (AllByRecursion (SequentEnds ds)) (sym (same_given qs (assuming q x f ∷ []) e)) (k, tt)
