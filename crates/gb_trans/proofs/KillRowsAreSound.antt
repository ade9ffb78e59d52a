-- Each rule that puts other statements into a program is sound where loops end, and refuses forms that are no judgments.
use Rattle.std.proofs.Common.{◌≡◌, refl}
use Rattle.gb_core.specs.declared.refusal.Why.TheVariants.{Shape}
use Rattle.gb_goal.specs.Goal.Goal.{ambient}
use Rattle.gb_goal.specs.Rows.{refusing}
use Rattle.gb_goal.specs.Scope.{Declarations}
use Rattle.gb_goal.specs.declared.sequent.Sequent.{Sequent}
use Rattle.gb_meaning.specs.Declared.{declared}
use Rattle.gb_steps.specs.declared.step.Acts.{Acts}
use Rattle.gb_steps.specs.declared.step.Acts.TheVariants as on
use Rattle.gb_steps.specs.declared.step.Rule.{Rule}
use Rattle.gb_steps.specs.declared.step.Rule.TheVariants.{Transform}
use Rattle.gb_steps.specs.declared.step.Transformation.{Transformation}
use Rattle.gb_steps.specs.declared.step.Transformation.TheVariants.{Swap, Kill, Decided, Unroll, Inline}
use Rattle.gb_terms.specs.declared.term.Term.{Term}
use Rattle.gb_typing.specs.Context.{Context}
use Rattle.gb_typing.specs.Rules.{no_arguments}
use Rattle.gb_typing.specs.Scopes.{context_of, IsTypedScope}
use Rattle.gb_typing.specs.Sequents.{of_sequent, IsTypedSequent}
use Rattle.gb_typing.proofs.Given.{refused_given}
use Rattle.gb_prog.specs.Ends.{IsSoundLoopRule}
use Rattle.gb_trans.proofs.GuardsAreSound as guards
use Rattle.gb_trans.specs.KillRows.{killing_row, rule_row}
use Rattle.gb_trans.proofs.KillIsSound.{kill_sound}

module _ (ds : Declarations) (scoped : IsTypedScope (declared ds)) (q : Sequent) (t : IsTypedSequent (context_of (declared ds)) q) where
  abbrev c : Context
  c = of_sequent (context_of (declared ds)) q t.frames

  pub killing_sound : (a : Acts) (k : Transformation) → IsSoundLoopRule (declared ds) c (killing_row ds a k) no_arguments
  killing_sound a (Kill n) outer ls rs G x y Gs e = kill_sound ds scoped q t a n outer ls rs G x y Gs e
  killing_sound a (Decided n u) outer ls rs G x y Gs e = guards.guard_sound ds scoped q t a (Decided n u) outer ls rs G x y Gs e
  killing_sound a (Unroll n) outer ls rs G x y Gs e = guards.guard_sound ds scoped q t a (Unroll n) outer ls rs G x y Gs e
  killing_sound a (Swap w) outer ls rs G x y Gs e = guards.guard_sound ds scoped q t a (Swap w) outer ls rs G x y Gs e
  killing_sound a (Inline w) outer ls rs G x y Gs e = guards.guard_sound ds scoped q t a (Inline w) outer ls rs G x y Gs e

  pub each_sound : (r : Rule) → IsSoundLoopRule (declared ds) c (rule_row ds r) no_arguments
  each_sound (Transform a k) outer ls rs G x y Gs e = killing_sound a k outer ls rs G x y Gs e
  each_sound _ outer ls rs G x y Gs e = refused_given Shape Gs e

pub forms_refused : (ds : Declarations) (r : Rule) (f : Term) → rule_row ds r (ambient f) ≡ refusing Shape
forms_refused ds (Transform on.All (Kill n)) f = refl
forms_refused ds (Transform on.Left (Kill n)) f = refl
forms_refused ds (Transform on.Right (Kill n)) f = refl
forms_refused ds (Transform a (Decided n t)) f = guards.forms_refused ds (Transform a (Decided n t)) f
forms_refused ds (Transform a (Unroll n)) f = guards.forms_refused ds (Transform a (Unroll n)) f
forms_refused ds (Transform a (Swap w)) f = guards.forms_refused ds (Transform a (Swap w)) f
forms_refused ds (Transform a (Inline w)) f = guards.forms_refused ds (Transform a (Inline w)) f
forms_refused ds _ f = refl
