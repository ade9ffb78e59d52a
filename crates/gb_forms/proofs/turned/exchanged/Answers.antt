use Rattle.gb_forms.proofs.turned.exchanged.Goals as goal

pub returns : goal.returns
returns c = c.changed.ensures
