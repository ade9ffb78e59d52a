-- What stood before the command stands again.
use Rattle.std.proofs.Common.{sym, subst}
use Rattle.gb_state.specs.Kept.{IsTakenBack}
use Rattle.gb_state.proofs.kept.take_back.Goals as goal

pub returns-in-Script-clause-before : goal.returns-in-Script-clause-before
returns-in-Script-clause-before c =
    subst (λ e. IsTakenBack e c.args.kept.now c.go_back.new.kept c.args.state.now c.go_back.new.state) (sym c.in-Script.is) (c.go_back.result, c.go_back.ensures.before)
