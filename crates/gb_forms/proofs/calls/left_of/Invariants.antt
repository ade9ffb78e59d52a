use Rattle.std.proofs.Common.{◌≡◌, ◌++◌, drop, filter}
use Rattle.gb_forms.specs.Calls.{is_left_of}
use Rattle.gb_forms.proofs.calls.left_of.Given as goal

abbrev pub invariant-loop-variable : goal.invariant-loop-variable
invariant-loop-variable l =
    l.left ++ filter (is_left_of l.targets l.reads.said l.reads.after) (drop l.variable-index l.written) ≡ filter (is_left_of l.targets l.reads.said l.reads.after) l.written
