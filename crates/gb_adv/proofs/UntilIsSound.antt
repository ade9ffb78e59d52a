-- `call (_ : B, I)` is sound.
use Rattle.gb_core.specs.declared.refusal.Why.TheVariants.{Shape}
use Rattle.gb_goal.specs.declared.sequent.Sequent.{Sequent}
use Rattle.gb_goal.specs.Goal.Code.{body, procedure}
use Rattle.gb_goal.specs.Goal.Goal.{hoare, phoare, equiv, ambient}
use Rattle.gb_goal.specs.Scope.{Declarations}
use Rattle.gb_steps.specs.declared.step.Until.{Until}
use Rattle.gb_meaning.specs.Declared.{declared}
use Rattle.gb_typing.specs.Context.{Context}
use Rattle.gb_typing.specs.Rules.{IsSoundRuleIn}
use Rattle.gb_typing.specs.Scopes.{context_of, IsTypedScope}
use Rattle.gb_typing.specs.Sequents.{of_sequent, IsTypedSequent}
use Rattle.gb_typing.proofs.Given.{refused_given}
use Rattle.gb_adv.specs.Until.{IsTypedUntil, until_row}
use Rattle.gb_adv.proofs.UntilOnBoth.{both_sound}

module _ (ds : Declarations) (scoped : IsTypedScope (declared ds)) (t : Sequent) (typed : IsTypedSequent (context_of (declared ds)) t) (u : Until) where
  abbrev c : Context
  c = of_sequent (context_of (declared ds)) t typed.frames

  pub sound : IsSoundRuleIn (declared ds) c (until_row ds u) (IsTypedUntil c u)
  sound outer ls rs (hoare a p q) w y Gs e = refused_given Shape Gs e
  sound outer ls rs (equiv (body is) (body js) p q) w y Gs e = both_sound ds scoped t typed u outer ls rs is js p q w y Gs e
  sound outer ls rs (equiv (body is) (procedure s) p q) w y Gs e = refused_given Shape Gs e
  sound outer ls rs (equiv (procedure r) b p q) w y Gs e = refused_given Shape Gs e
  sound outer ls rs (phoare a r p q b) w y Gs e = refused_given Shape Gs e
  sound outer ls rs (ambient f) w y Gs e = refused_given Shape Gs e
