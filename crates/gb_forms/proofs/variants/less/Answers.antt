use Rattle.gb_forms.proofs.variants.less.Goals as goal

pub returns : goal.returns
returns c = rw c.in_ok-ty.ensures at c.binary.ensures
