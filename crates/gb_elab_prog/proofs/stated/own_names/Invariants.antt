use Rattle.std.proofs.Common.{◌≡◌, ◌++◌, drop}
use Rattle.gb_elab_prog.specs.Stated.{own_names}
use Rattle.gb_elab_prog.proofs.stated.own_names.Given as goal

abbrev pub invariant-loop-q : goal.invariant-loop-q
invariant-loop-q l = l.all ++ own_names (drop l.q-index l.params) ≡ own_names l.params
