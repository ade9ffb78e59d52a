-- Nothing is declared there under the name of the proof.
use Rattle.std.proofs.Common.{◌≡◌, true, sym, subst}
use Rattle.gb_state.specs.Opened.{is_undeclared}
use Rattle.gb_state.proofs.state.State.restore.Goals as goal

pub invariant_of-self : goal.invariant_of-self
invariant_of-self c = record { undeclared = subst (λ ds. is_undeclared ds c.args.proof ≡ true) (sym c.truncate.ensures) c.requires }

pub returns-clause-scope : goal.returns-clause-scope
returns-clause-scope c = c.truncate.ensures
