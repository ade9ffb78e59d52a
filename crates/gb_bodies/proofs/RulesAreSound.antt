-- Each rule on programs is sound.
use Rattle.gb_core.specs.declared.refusal.Why.TheVariants.{Shape}
use Rattle.gb_goal.specs.declared.sequent.Sequent.{Sequent}
use Rattle.gb_steps.specs.declared.step.BodyRule.TheVariants as on_bodies
use Rattle.gb_steps.specs.declared.step.Rule.{Rule}
use Rattle.gb_steps.specs.declared.step.Rule.TheVariants.{OnBodies, Relational, Ambient, Smt, Linear, Chance, Probability, Call, CallKnown, Abstract, Rewrite, Transform, Use, While}
use Rattle.gb_goal.specs.Scope.{Declarations}
use Rattle.gb_meaning.specs.Declared.{declared}
use Rattle.gb_typing.specs.Scopes.{context_of, IsTypedScope}
use Rattle.gb_typing.specs.Sequents.{of_sequent, IsTypedSequent}
use Rattle.gb_typing.specs.Context.{Context}
use Rattle.gb_goal.specs.Goal.{Goal}
use Rattle.gb_goal.specs.Rows.{Row}
use Rattle.gb_meaning.specs.Declared as holds
use Rattle.gb_typing.specs.Rules.{IsSoundAt, IsSoundIn, IsSoundRuleIn}
use Rattle.gb_typing.proofs.Given.{refused_given}
use Rattle.gb_bodies.specs.Case.{case_row}
use Rattle.gb_bodies.specs.Conseq.{conseq_row}
use Rattle.gb_bodies.specs.If.{if_row}
use Rattle.gb_bodies.specs.Rows.{rule_row, IsTypedRule}
use Rattle.gb_bodies.specs.Seq.{seq_row}
use Rattle.gb_bodies.specs.Skip.{skip_row}
use Rattle.gb_bodies.proofs.CaseIsSound as of_case
use Rattle.gb_bodies.proofs.ConseqIsSound as of_conseq
use Rattle.gb_bodies.proofs.IfIsSound as of_if
use Rattle.gb_bodies.proofs.ProcIsSound as of_proc
use Rattle.gb_bodies.proofs.SeqIsSound as of_seq
use Rattle.gb_bodies.proofs.SkipIsSound as of_skip
use Rattle.gb_bodies.proofs.WpIsSound as of_wp

-- a rule that looks at no declarations
anywhere : (ds : holds.Declarations) (c : Context) (row : Row) (G : Goal) → IsSoundAt c row G → IsSoundIn ds c row G
anywhere ds c row G h Gs e = let k = h Gs e in (k.0, λ g fits over j fair s fit l. k.1 g fits j fair s fit l)

module _ (ds : Declarations) (scoped : IsTypedScope (declared ds)) (q : Sequent) (t : IsTypedSequent (context_of (declared ds)) q) where
  abbrev c : Context
  c = of_sequent (context_of (declared ds)) q t.frames

  pub each_sound : (r : Rule) → IsSoundRuleIn (declared ds) c (rule_row ds r) (IsTypedRule c r)
  each_sound (OnBodies on_bodies.Proc) outer ls rs G w y Gs e = of_proc.sound ds scoped q t outer ls rs G w y Gs e
  each_sound (OnBodies on_bodies.Skip) outer ls rs G w y Gs e = anywhere (declared ds) c skip_row G (of_skip.sound c outer ls rs G w y) Gs e
  each_sound (OnBodies (on_bodies.Seq k r)) outer ls rs G w y Gs e = anywhere (declared ds) c (seq_row k r) G (of_seq.sound c r k outer ls rs G w y) Gs e
  each_sound (OnBodies (on_bodies.If a)) outer ls rs G w y Gs e = anywhere (declared ds) c (if_row a) G (of_if.sound c a outer ls rs G w y) Gs e
  each_sound (OnBodies (on_bodies.Wp a)) outer ls rs G w y Gs e = of_wp.sound ds scoped c a outer ls rs G w y Gs e
  each_sound (OnBodies (on_bodies.Case f)) outer ls rs G w y Gs e = anywhere (declared ds) c (case_row f) G (of_case.sound c f outer ls rs G w y) Gs e
  each_sound (OnBodies (on_bodies.Conseq n)) outer ls rs G w y Gs e = anywhere (declared ds) c (conseq_row n) G (of_conseq.sound c n outer ls rs G w y) Gs e
  each_sound (OnBodies on_bodies.Unfit) outer ls rs G w y Gs e = refused_given Shape Gs e
  each_sound (Relational r) outer ls rs G w y Gs e = refused_given Shape Gs e
  each_sound (Smt fs) outer ls rs G w y Gs e = refused_given Shape Gs e
  each_sound (Linear ms) outer ls rs G w y Gs e = refused_given Shape Gs e
  each_sound (Ambient r) outer ls rs G w y Gs e = refused_given Shape Gs e
  each_sound (Chance r) outer ls rs G w y Gs e = refused_given Shape Gs e
  each_sound (Probability r) outer ls rs G w y Gs e = refused_given Shape Gs e
  each_sound (Call s) outer ls rs G w y Gs e = refused_given Shape Gs e
  each_sound (CallKnown a f) outer ls rs G w y Gs e = refused_given Shape Gs e
  each_sound (Abstract k) outer ls rs G w y Gs e = refused_given Shape Gs e
  each_sound (While i) outer ls rs G w y Gs e = refused_given Shape Gs e
  each_sound (Transform a i) outer ls rs G w y Gs e = refused_given Shape Gs e
  each_sound (Rewrite r) outer ls rs G w y Gs e = refused_given Shape Gs e
  each_sound (Use r) outer ls rs G w y Gs e = refused_given Shape Gs e
