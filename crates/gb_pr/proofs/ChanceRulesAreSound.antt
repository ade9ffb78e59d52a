-- The rules on judgments with a probability are sound, and refuse other forms.
use Rattle.std.proofs.Common.{◌≡◌, refl}
use Rattle.gb_core.specs.declared.refusal.Why.TheVariants.{Shape}
use Rattle.gb_terms.specs.declared.term.Term.{Term}
use Rattle.gb_goal.specs.declared.sequent.Sequent.{Sequent}
use Rattle.gb_goal.specs.Goal.Goal.{ambient}
use Rattle.gb_goal.specs.Rows.{refusing}
use Rattle.gb_goal.specs.Scope.{Declarations}
use Rattle.gb_steps.specs.declared.step.Rule.{Rule}
use Rattle.gb_steps.specs.declared.step.Rule.TheVariants.{OnBodies, Relational, Chance, Probability, Ambient, Smt, Linear, Call, CallKnown, Abstract, Rewrite, Transform, Use, While}
use Rattle.gb_steps.specs.declared.step.ChanceRule.TheVariants.{Rnd, Hoare}
use Rattle.gb_meaning.specs.Declared.{declared}
use Rattle.gb_typing.specs.Scopes.{context_of, IsTypedScope}
use Rattle.gb_typing.specs.Sequents.{of_sequent, IsTypedSequent}
use Rattle.gb_typing.specs.Rules.{IsSoundRuleIn, no_arguments}
use Rattle.gb_typing.proofs.Given.{refused_given}
use Rattle.gb_pr.specs.ChanceRows.{rule_row}
use Rattle.gb_pr.proofs.HoareIsSound.{sound}
use Rattle.gb_pr.proofs.RndIsSound.{sound as rnd_sound}

module _ (ds : Declarations) (scoped : IsTypedScope (declared ds)) (q : Sequent) (t : IsTypedSequent (context_of (declared ds)) q) where
  pub each_sound : (r : Rule) → IsSoundRuleIn (declared ds) (of_sequent (context_of (declared ds)) q t.frames) (rule_row ds r) no_arguments
  each_sound (Chance Rnd) outer ls rs G w y Gs e = rnd_sound ds scoped q t outer ls rs G w y Gs e
  each_sound (Chance Hoare) outer ls rs G w y Gs e = sound ds scoped q t outer ls rs G w y Gs e
  each_sound (Probability r) outer ls rs G w y Gs e = refused_given Shape Gs e
  each_sound (OnBodies r) outer ls rs G w y Gs e = refused_given Shape Gs e
  each_sound (Relational r) outer ls rs G w y Gs e = refused_given Shape Gs e
  each_sound (Smt fs) outer ls rs G w y Gs e = refused_given Shape Gs e
  each_sound (Linear ms) outer ls rs G w y Gs e = refused_given Shape Gs e
  each_sound (Call s) outer ls rs G w y Gs e = refused_given Shape Gs e
  each_sound (CallKnown a f) outer ls rs G w y Gs e = refused_given Shape Gs e
  each_sound (Abstract k) outer ls rs G w y Gs e = refused_given Shape Gs e
  each_sound (While i) outer ls rs G w y Gs e = refused_given Shape Gs e
  each_sound (Transform a i) outer ls rs G w y Gs e = refused_given Shape Gs e
  each_sound (Rewrite r) outer ls rs G w y Gs e = refused_given Shape Gs e
  each_sound (Ambient r) outer ls rs G w y Gs e = refused_given Shape Gs e
  each_sound (Use r) outer ls rs G w y Gs e = refused_given Shape Gs e

pub others_refused : (ds : Declarations) (r : Rule) (f : Term) → rule_row ds r (ambient f) ≡ refusing Shape
others_refused ds (Chance Rnd) f = refl
others_refused ds (Chance Hoare) f = refl
others_refused ds (Probability r) f = refl
others_refused ds (OnBodies r) f = refl
others_refused ds (Relational r) f = refl
others_refused ds (Smt fs) f = refl
others_refused ds (Linear ms) f = refl
others_refused ds (Call s) f = refl
others_refused ds (CallKnown a h) f = refl
others_refused ds (Abstract k) f = refl
others_refused ds (While i) f = refl
others_refused ds (Transform a i) f = refl
others_refused ds (Rewrite r) f = refl
others_refused ds (Ambient r) f = refl
others_refused ds (Use r) f = refl
