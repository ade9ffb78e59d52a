use Rattle.std.proofs.Common.{◌≡◌, drop, flat_map}
use Rattle.gb_elab_mod.specs.Occurring.{statement_locals, with_all}
use Rattle.gb_elab_mod.proofs.occurring.+statements.Given as goal

abbrev pub invariant-in_body-loop-i : goal.invariant-in_body-loop-i
invariant-in_body-loop-i l =
    with_all l.found (flat_map (statement_locals l.scope) (drop l.i-index l.body)) ≡ with_all l.initial.found (flat_map (statement_locals l.scope) l.body)
