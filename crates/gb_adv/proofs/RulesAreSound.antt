-- Each rule on procedures of abstract modules is sound.
use Rattle.gb_goal.specs.declared.sequent.Sequent.{Sequent}
use Rattle.gb_goal.specs.Scope.{Declarations}
use Rattle.gb_steps.specs.declared.step.AbstractRule.{AbstractRule}
use Rattle.gb_steps.specs.declared.step.AbstractRule.TheVariants.{Call, Proc, CallUntil}
use Rattle.gb_meaning.specs.Declared.{declared}
use Rattle.gb_typing.specs.Rules.{IsSoundRuleIn}
use Rattle.gb_typing.specs.Scopes.{context_of, IsTypedScope}
use Rattle.gb_typing.specs.Sequents.{of_sequent, IsTypedSequent}
use Rattle.gb_adv.specs.Rows.{abstract_row, IsTypedRule}
use Rattle.gb_adv.proofs.CallIsSound as of_call
use Rattle.gb_adv.proofs.ProcIsSound as of_procedure
use Rattle.gb_adv.proofs.UntilIsSound as until

pub each_sound : (ds : Declarations) → IsTypedScope (declared ds) → (q : Sequent) (t : IsTypedSequent (context_of (declared ds)) q) → (r : AbstractRule) →
    IsSoundRuleIn (declared ds) (of_sequent (context_of (declared ds)) q t.frames) (abstract_row ds r) (IsTypedRule (of_sequent (context_of (declared ds)) q t.frames) r)
each_sound ds scoped q t (Call i) outer ls rs G w y Gs e = of_call.sound ds scoped q t i outer ls rs G w y Gs e
each_sound ds scoped q t (CallUntil u) outer ls rs G w y Gs e = until.sound ds scoped q t u outer ls rs G w y Gs e
each_sound ds scoped q t (Proc i) outer ls rs G w y Gs e = of_procedure.sound ds scoped q t i outer ls rs G w y Gs e
