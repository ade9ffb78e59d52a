-- Each rule that puts other statements into a program is sound, and refuses forms that are no judgments.
use Rattle.std.proofs.Common.{◌≡◌, List, refl}
use Rattle.gb_core.specs.declared.refusal.Why.TheVariants.{Shape}
use Rattle.gb_goal.specs.Goal.{Goal}
use Rattle.gb_goal.specs.Goal.Goal.{ambient}
use Rattle.gb_goal.specs.Rows.{refusing}
use Rattle.gb_goal.specs.Scope.{Declarations}
use Rattle.gb_goal.specs.declared.sequent.Sequent.{Sequent}
use Rattle.gb_meaning.specs.Declared.{declared}
use Rattle.gb_steps.specs.declared.step.Acts.{Acts}
use Rattle.gb_steps.specs.declared.step.Acts.TheVariants as on
use Rattle.gb_steps.specs.declared.step.Rule.{Rule}
use Rattle.gb_steps.specs.declared.step.Rule.TheVariants.{Transform}
use Rattle.gb_steps.specs.declared.step.Transformation.{Transformation}
use Rattle.gb_steps.specs.declared.step.Transformation.TheVariants.{Decided, Inline, Kill, Swap, Unroll}
use Rattle.gb_terms.specs.declared.term.Term.{Term}
use Rattle.gb_typing.specs.Context.{Context}
use Rattle.gb_typing.specs.Scopes.{context_of, IsTypedScope}
use Rattle.gb_typing.specs.Sequents.{of_sequent, IsTypedSequent}
use Rattle.gb_typing.proofs.Given.{refused_given}
use Rattle.gb_prog.specs.Ends.{IsSoundOnLoops}
use Rattle.gb_trans.proofs.KillRowsAreSound as others
use Rattle.gb_inline.specs.Proved.{IsSoundOnProved, IsSoundProvedRule}
use Rattle.gb_inline.specs.Rows.{rule_row, transform_row}
use Rattle.gb_inline.proofs.InlineIsSound.{sound}

-- what is sound where loops end
on_loops : (ds : Declarations) (c : Context) (Gs : List Goal) (G : Goal) → IsSoundOnLoops (declared ds) c Gs G → IsSoundOnProved ds c Gs G
on_loops ds c Gs G k = record { typed = k.typed; implies = k.implies; ends = λ g fits over proved h. k.ends g over h }

module _ (ds : Declarations) (scoped : IsTypedScope (declared ds)) (q : Sequent) (t : IsTypedSequent (context_of (declared ds)) q) where
  abbrev c : Context
  c = of_sequent (context_of (declared ds)) q t.frames

  transform_sound : (a : Acts) (k : Transformation) → IsSoundProvedRule ds c (transform_row ds a k)
  transform_sound a (Inline w) outer ls rs G x Gs e = sound ds scoped q t w a outer ls rs G x Gs e
  transform_sound a (Decided n u) outer ls rs G x Gs e = on_loops ds c Gs G (others.killing_sound ds scoped q t a (Decided n u) outer ls rs G x tt Gs e)
  transform_sound a (Unroll n) outer ls rs G x Gs e = on_loops ds c Gs G (others.killing_sound ds scoped q t a (Unroll n) outer ls rs G x tt Gs e)
  transform_sound a (Swap w) outer ls rs G x Gs e = on_loops ds c Gs G (others.killing_sound ds scoped q t a (Swap w) outer ls rs G x tt Gs e)
  transform_sound a (Kill n) outer ls rs G x Gs e = on_loops ds c Gs G (others.killing_sound ds scoped q t a (Kill n) outer ls rs G x tt Gs e)

  pub each_sound : (r : Rule) → IsSoundProvedRule ds c (rule_row ds r)
  each_sound (Transform a k) outer ls rs G x Gs e = transform_sound a k outer ls rs G x Gs e
  each_sound _ outer ls rs G x Gs e = refused_given Shape Gs e

pub forms_refused : (ds : Declarations) (r : Rule) (f : Term) → rule_row ds r (ambient f) ≡ refusing Shape
forms_refused ds (Transform on.All (Inline w)) f = refl
forms_refused ds (Transform on.Left (Inline w)) f = refl
forms_refused ds (Transform on.Right (Inline w)) f = refl
forms_refused ds (Transform a (Decided n t)) f = others.forms_refused ds (Transform a (Decided n t)) f
forms_refused ds (Transform a (Unroll n)) f = others.forms_refused ds (Transform a (Unroll n)) f
forms_refused ds (Transform a (Swap w)) f = others.forms_refused ds (Transform a (Swap w)) f
forms_refused ds (Transform a (Kill n)) f = others.forms_refused ds (Transform a (Kill n)) f
forms_refused ds _ f = refl
