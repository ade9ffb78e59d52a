use Rattle.gb_forms.proofs.arguments.at_arguments.Goals as goal

pub returns : goal.returns
returns c = rw (c.as_slice.ensures, c.in_ok-changes.ensures) at c.changed.ensures
