use Rattle.std.proofs.Common.{sym, ◌∙◌}
use Rattle.gb_forms.proofs.between.some_between.Goals as goal

pub returns : goal.returns
returns c =
    let read = sym c.reads_between.ensures ∙ c.if-not-reads_between.false in
    rw read (rw (c.in_ok-ty.ensures, c.in_ok-both.ensures, c.in_ok-first.ensures, c.in_ok-to_right.ensures) at c.over.ensures)
