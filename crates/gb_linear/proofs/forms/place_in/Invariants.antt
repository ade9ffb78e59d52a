use Rattle.std.proofs.Common.{◌≡◌, ◌+◌, drop}
use Rattle.gb_linear.specs.Forms.{place_in}
use Rattle.gb_linear.proofs.forms.place_in.Given as goal

abbrev pub invariant-loop-i : goal.invariant-loop-i
invariant-loop-i l = l.i + place_in (drop l.i l.list) l.t ≡ place_in l.list l.t
