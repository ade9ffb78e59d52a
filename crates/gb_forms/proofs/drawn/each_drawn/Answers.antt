use Rattle.gb_forms.proofs.drawn.each_drawn.Goals as goal

pub returns : goal.returns
returns c = rw (c.in_ok-post.ensures, c.in_ok-change.ensures, c.in_ok-value.ensures) at c.for_support.ensures
