-- Each rule that puts other statements into a program is sound where loops end, and refuses forms that are no judgments.
use Rattle.std.proofs.Common.{◌≡◌, refl}
use Rattle.gb_core.specs.declared.refusal.Why.TheVariants.{Shape}
use Rattle.gb_goal.specs.Goal.Goal.{ambient}
use Rattle.gb_goal.specs.Rows.{refusing}
use Rattle.gb_goal.specs.Scope.{Declarations}
use Rattle.gb_goal.specs.declared.sequent.Sequent.{Sequent}
use Rattle.gb_meaning.specs.Declared.{declared}
use Rattle.gb_steps.specs.declared.step.Acts.{Acts}
use Rattle.gb_steps.specs.declared.step.Acts.TheVariants as on
use Rattle.gb_steps.specs.declared.step.Rule.{Rule}
use Rattle.gb_steps.specs.declared.step.Rule.TheVariants.{Transform}
use Rattle.gb_steps.specs.declared.step.Transformation.{Transformation}
use Rattle.gb_steps.specs.declared.step.Transformation.TheVariants.{Swap, Kill, Decided, Unroll, Inline}
use Rattle.gb_terms.specs.declared.term.Term.{Term}
use Rattle.gb_typing.specs.Context.{Context}
use Rattle.gb_typing.specs.Rules.{no_arguments}
use Rattle.gb_typing.specs.Scopes.{context_of, IsTypedScope}
use Rattle.gb_typing.specs.Sequents.{of_sequent, IsTypedSequent}
use Rattle.gb_typing.proofs.Given.{refused_given}
use Rattle.gb_prog.specs.Ends.{IsSoundLoopRule}
use Rattle.gb_trans.proofs.RulesAreSound.{transformation_ends}
use Rattle.gb_trans.specs.GuardRows.{guard_row, rule_row}
use Rattle.gb_trans.proofs.DecidedIsSound.{decided_sound}
use Rattle.gb_trans.proofs.UnrollIsSound.{unroll_sound}

module _ (ds : Declarations) (scoped : IsTypedScope (declared ds)) (q : Sequent) (t : IsTypedSequent (context_of (declared ds)) q) where
  abbrev c : Context
  c = of_sequent (context_of (declared ds)) q t.frames

  pub guard_sound : (a : Acts) (k : Transformation) → IsSoundLoopRule (declared ds) c (guard_row ds a k) no_arguments
  guard_sound a (Decided n u) outer ls rs G x y Gs e = decided_sound (declared ds) c u n a outer ls rs G x y Gs e
  guard_sound a (Unroll n) outer ls rs G x y Gs e = unroll_sound (declared ds) c n a outer ls rs G x y Gs e
  guard_sound a (Swap w) outer ls rs G x y Gs e = transformation_ends ds scoped q t a (Swap w) outer ls rs G x y Gs e
  guard_sound a (Kill n) outer ls rs G x y Gs e = transformation_ends ds scoped q t a (Kill n) outer ls rs G x y Gs e
  guard_sound a (Inline w) outer ls rs G x y Gs e = transformation_ends ds scoped q t a (Inline w) outer ls rs G x y Gs e

  pub each_sound : (r : Rule) → IsSoundLoopRule (declared ds) c (rule_row ds r) no_arguments
  each_sound (Transform a k) outer ls rs G x y Gs e = guard_sound a k outer ls rs G x y Gs e
  each_sound _ outer ls rs G x y Gs e = refused_given Shape Gs e

pub forms_refused : (ds : Declarations) (r : Rule) (f : Term) → rule_row ds r (ambient f) ≡ refusing Shape
forms_refused ds (Transform on.All (Decided n t)) f = refl
forms_refused ds (Transform on.Left (Decided n t)) f = refl
forms_refused ds (Transform on.Right (Decided n t)) f = refl
forms_refused ds (Transform on.All (Unroll n)) f = refl
forms_refused ds (Transform on.Left (Unroll n)) f = refl
forms_refused ds (Transform on.Right (Unroll n)) f = refl
forms_refused ds (Transform on.All (Swap w)) f = refl
forms_refused ds (Transform on.Left (Swap w)) f = refl
forms_refused ds (Transform on.Right (Swap w)) f = refl
forms_refused ds (Transform a (Kill n)) f = refl
forms_refused ds (Transform a (Inline w)) f = refl
forms_refused ds _ f = refl
