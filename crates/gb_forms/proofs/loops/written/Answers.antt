use Rattle.std.proofs.Common.{ap, sym, ◌∙◌}
use Rattle.std.specs.Prelude.{Some}
use Rattle.gb_forms.specs.Loops.{written}
use Rattle.gb_forms.proofs.loops.written.Goals as goal

pub returns : goal.returns
unfolding written
returns c =
    let found = sym (rw c.as_slice.ensures at c.in_ok-found.ensures) ∙ c.in-Some-2.is in
    let all = sym (rw (c.in_ok-called.ensures, c.new.ensures) at c.in_ok-all.ensures) ∙ c.in-Some.is in
    let ordered =
    rw (
      c.as_slice-3.ensures,
      c.in_ok-own.ensures,
      c.new-3.ensures,
      c.in_ok-globals.ensures,
      c.as_slice-2.ensures,
      c.new-2.ensures,
    ) at c.in_ok-ordered.ensures in
    rw (all, found) (ap Some ordered)
