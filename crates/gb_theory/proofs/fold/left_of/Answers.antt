-- The steps see the modules of the lemma, under names that nothing else has.
use Rattle.std.proofs.Common.{◌++◌, ap, sym, subst, ◌∙◌}
use Rattle.gb_goal.specs.Binders.{binder_entries}
use Rattle.gb_goal.specs.Scope.{AreNew}
use Rattle.gb_state.proofs.New.{declared_are_new}
use Rattle.gb_state.specs.Opened.{modules_of}
use Rattle.gb_theory.specs.Sessions.{open_of}
use Rattle.gb_theory.proofs.fold.left_of.Goals as goal

pub declare_all-requires : goal.declare_all-requires
declare_all-requires c =
    let made = c.in_ok-modules.ensures ∙ ap binder_entries c.modules.ensures in
    subst (AreNew c.args.scope.now) (sym made) (declared_are_new c.args.scope.now c.args.proof.now.claim c.requires)

pub returns-clause-answer : goal.returns-clause-answer
returns-clause-answer c = λ s is.
    let made = c.in_ok-modules.ensures ∙ ap binder_entries c.modules.ensures in
    c.subgoals-next.ensures s (open_of c.args.proof.now)
    (ap (λ ds. ds ++ binder_entries (modules_of c.args.proof.now.claim)) is
    ∙ sym (c.in_ok-declare_all.ensures ∙ ap (λ es. c.args.scope.now ++ es) made))
