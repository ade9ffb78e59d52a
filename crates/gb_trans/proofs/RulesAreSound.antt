-- Each rule that puts other statements into a program is sound, and refuses forms that are no judgments.
use Rattle.std.proofs.Common.{◌≡◌, refl}
use Rattle.gb_core.specs.declared.refusal.Why.TheVariants.{Shape}
use Rattle.gb_goal.specs.Goal.Goal.{ambient}
use Rattle.gb_goal.specs.Rows.{refusing}
use Rattle.gb_goal.specs.Scope.{Declarations}
use Rattle.gb_goal.specs.declared.sequent.Sequent.{Sequent}
use Rattle.gb_meaning.specs.Declared.{declared}
use Rattle.gb_steps.specs.declared.step.Acts.{Acts}
use Rattle.gb_steps.specs.declared.step.Acts.TheVariants as on
use Rattle.gb_steps.specs.declared.step.Rule.{Rule}
use Rattle.gb_steps.specs.declared.step.Rule.TheVariants.{Transform}
use Rattle.gb_steps.specs.declared.step.Transformation.{Transformation}
use Rattle.gb_steps.specs.declared.step.Transformation.TheVariants.{Swap}
use Rattle.gb_terms.specs.declared.term.Term.{Term}
use Rattle.gb_typing.specs.Context.{Context}
use Rattle.gb_typing.specs.Rules.{IsSoundRuleIn, no_arguments}
use Rattle.gb_typing.specs.Scopes.{context_of, IsTypedScope}
use Rattle.gb_typing.specs.Sequents.{of_sequent, IsTypedSequent}
use Rattle.gb_typing.proofs.Given.{refused_given}
use Rattle.gb_prog.specs.Ends.{IsSoundLoopRule}
use Rattle.gb_trans.specs.Rows.{rule_row, transformation_row}
use Rattle.gb_trans.proofs.SwapIsSound as of_swap

module _ (ds : Declarations) (scoped : IsTypedScope (declared ds)) (q : Sequent) (t : IsTypedSequent (context_of (declared ds)) q) where
  abbrev c : Context
  c = of_sequent (context_of (declared ds)) q t.frames

  transformation_sound : (a : Acts) (k : Transformation) → IsSoundRuleIn (declared ds) c (transformation_row ds a k) no_arguments
  transformation_sound a (Swap w) outer ls rs G x y Gs e = of_swap.sound ds scoped q t a w outer ls rs G x y Gs e
  transformation_sound a _ outer ls rs G x y Gs e = refused_given Shape Gs e

  pub each_sound : (r : Rule) → IsSoundRuleIn (declared ds) c (rule_row ds r) no_arguments
  each_sound (Transform a k) outer ls rs G x y Gs e = transformation_sound a k outer ls rs G x y Gs e
  each_sound _ outer ls rs G x y Gs e = refused_given Shape Gs e

  pub transformation_ends : (a : Acts) (k : Transformation) → IsSoundLoopRule (declared ds) c (transformation_row ds a k) no_arguments
  transformation_ends a (Swap w) outer ls rs G x y Gs e = of_swap.sound_on_loops ds scoped q t a w outer ls rs G x y Gs e
  transformation_ends a _ outer ls rs G x y Gs e = refused_given Shape Gs e

  pub each_ends : (r : Rule) → IsSoundLoopRule (declared ds) c (rule_row ds r) no_arguments
  each_ends (Transform a k) outer ls rs G x y Gs e = transformation_ends a k outer ls rs G x y Gs e
  each_ends _ outer ls rs G x y Gs e = refused_given Shape Gs e

pub forms_refused : (ds : Declarations) (r : Rule) (f : Term) → rule_row ds r (ambient f) ≡ refusing Shape
forms_refused ds (Transform on.All (Swap w)) f = refl
forms_refused ds (Transform on.Left (Swap w)) f = refl
forms_refused ds (Transform on.Right (Swap w)) f = refl
forms_refused ds (Transform a _) f = refl
forms_refused ds _ f = refl
