use Rattle.gb_core.specs.declared.refusal.Why.TheVariants.{Shape}
use Rattle.gb_steps.specs.declared.step.Rule.{Rule}
use Rattle.gb_steps.specs.declared.step.Rule.TheVariants.{Relational, OnBodies, Ambient, Smt, Linear, Chance, Probability, Call, CallKnown, Abstract, Rewrite, Transform, Use, While}
use Rattle.gb_steps.specs.declared.step.RelationalRule.TheVariants.{Rnd, Symmetry, Drawn, Transitivity, Sim}
use Rattle.gb_typing.specs.Context.{Context}
use Rattle.gb_goal.specs.Goal.{Goal}
use Rattle.gb_goal.specs.Rows.{Row}
use Rattle.gb_goal.specs.Scope.{Declarations}
use Rattle.gb_goal.specs.declared.sequent.Sequent.{Sequent}
use Rattle.gb_meaning.specs.Declared.{declared}
use Rattle.gb_typing.specs.Rules.{IsSoundAt, IsSoundIn, IsSoundRuleIn}
use Rattle.gb_typing.specs.Scopes.{context_of, IsTypedScope}
use Rattle.gb_typing.specs.Sequents.{of_sequent, IsTypedSequent}
use Rattle.gb_typing.proofs.Given.{refused_given}
use Rattle.gb_equiv.specs.Rows.{rule_row, IsTypedRule}
use Rattle.gb_equiv.proofs.RndIsSound.{sound}
use Rattle.gb_equiv.proofs.SymmetryIsSound as symmetry
use Rattle.gb_equiv.proofs.OneSideIsSound as one_side
use Rattle.gb_equiv.proofs.TransitivityIsSound as transitivity
use Rattle.gb_equiv.proofs.relational_laws.relational_rules.Goals as goal

-- a rule that looks at no declaration
unscoped : (ds : Declarations) (c : Context) (row : Row) (G : Goal) → IsSoundAt c row G → IsSoundIn (declared ds) c row G
unscoped ds c row G s Gs e = let k = s Gs e in (k.0, λ g fits over. k.1 g fits)

module _ (ds : Declarations) (scoped : IsTypedScope (declared ds)) (q : Sequent) (t : IsTypedSequent (context_of (declared ds)) q) where
  abbrev c : Context
  c = of_sequent (context_of (declared ds)) q t.frames

  rule_sound : (r : Rule) → IsSoundRuleIn (declared ds) c (rule_row ds r) (IsTypedRule c r)
  rule_sound (Relational (Rnd fs)) outer ls rs G w k Gs e = sound ds scoped c fs outer ls rs G w k Gs e
  rule_sound (Relational Symmetry) outer ls rs G w k Gs e = unscoped ds c (rule_row ds (Relational Symmetry)) G (symmetry.sound c outer ls rs G w k) Gs e
  rule_sound (Relational (Drawn a)) outer ls rs G w k Gs e = one_side.sound ds scoped q t a outer ls rs G w k Gs e
  rule_sound (Relational (Transitivity u)) outer ls rs G w k Gs e = unscoped ds c (rule_row ds (Relational (Transitivity u))) G (transitivity.sound c u outer ls rs G w k) Gs e
  rule_sound (Relational Sim) outer ls rs G w k Gs e = refused_given Shape Gs e
  rule_sound (OnBodies r) outer ls rs G w k Gs e = refused_given Shape Gs e
  rule_sound (Smt fs) outer ls rs G w k Gs e = refused_given Shape Gs e
  rule_sound (Linear ms) outer ls rs G w k Gs e = refused_given Shape Gs e
  rule_sound (Ambient r) outer ls rs G w k Gs e = refused_given Shape Gs e
  rule_sound (Chance r) outer ls rs G w k Gs e = refused_given Shape Gs e
  rule_sound (Probability r) outer ls rs G w k Gs e = refused_given Shape Gs e
  rule_sound (Call s) outer ls rs G w k Gs e = refused_given Shape Gs e
  rule_sound (CallKnown a f) outer ls rs G w k Gs e = refused_given Shape Gs e
  rule_sound (Abstract s) outer ls rs G w k Gs e = refused_given Shape Gs e
  rule_sound (While i) outer ls rs G w k Gs e = refused_given Shape Gs e
  rule_sound (Transform a i) outer ls rs G w k Gs e = refused_given Shape Gs e
  rule_sound (Rewrite r) outer ls rs G w k Gs e = refused_given Shape Gs e
  rule_sound (Use r) outer ls rs G w k Gs e = refused_given Shape Gs e

pub returns : goal.returns
returns x = rule_sound
