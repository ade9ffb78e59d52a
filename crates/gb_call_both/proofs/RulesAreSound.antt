-- Each rule on calls is sound.
use Rattle.gb_core.specs.declared.refusal.Why.TheVariants.{Shape}
use Rattle.gb_goal.specs.declared.sequent.Sequent.{Sequent}
use Rattle.gb_goal.specs.Scope.{Declarations}
use Rattle.gb_meaning.specs.Declared.{declared}
use Rattle.gb_steps.specs.declared.step.Rule.{Rule}
use Rattle.gb_steps.specs.declared.step.Rule.TheVariants.{OnBodies, Relational, Smt, Linear, Ambient, Chance, Probability, Call, CallKnown, Abstract, Rewrite, Transform, Use, While}
use Rattle.gb_typing.specs.Context.{Context}
use Rattle.gb_typing.specs.Scopes.{context_of, IsTypedScope}
use Rattle.gb_typing.specs.Sequents.{of_sequent, IsTypedSequent}
use Rattle.gb_typing.specs.Rules.{IsSoundRuleIn}
use Rattle.gb_typing.proofs.Given.{refused_given}
use Rattle.gb_call_both.specs.Rows.{rule_row, IsTypedRule}
use Rattle.gb_call_both.proofs.CallIsSound as of_call

module _ (ds : Declarations) (scoped : IsTypedScope (declared ds)) (q : Sequent) (t : IsTypedSequent (context_of (declared ds)) q) where
  abbrev c : Context
  c = of_sequent (context_of (declared ds)) q t.frames

  pub each_sound : (r : Rule) → IsSoundRuleIn (declared ds) c (rule_row ds r) (IsTypedRule c r)
  each_sound (Call s) outer ls rs G w y Gs e = of_call.sound ds scoped q t s outer ls rs G w y Gs e
  each_sound (OnBodies r) outer ls rs G w y Gs e = refused_given Shape Gs e
  each_sound (Relational r) outer ls rs G w y Gs e = refused_given Shape Gs e
  each_sound (Smt fs) outer ls rs G w y Gs e = refused_given Shape Gs e
  each_sound (Linear ms) outer ls rs G w y Gs e = refused_given Shape Gs e
  each_sound (Ambient r) outer ls rs G w y Gs e = refused_given Shape Gs e
  each_sound (Use r) outer ls rs G w y Gs e = refused_given Shape Gs e
  each_sound (Rewrite r) outer ls rs G w y Gs e = refused_given Shape Gs e
  each_sound (Chance r) outer ls rs G w y Gs e = refused_given Shape Gs e
  each_sound (Probability r) outer ls rs G w y Gs e = refused_given Shape Gs e
  each_sound (CallKnown a f) outer ls rs G w y Gs e = refused_given Shape Gs e
  each_sound (Abstract k) outer ls rs G w y Gs e = refused_given Shape Gs e
  each_sound (While i) outer ls rs G w y Gs e = refused_given Shape Gs e
  each_sound (Transform a i) outer ls rs G w y Gs e = refused_given Shape Gs e
