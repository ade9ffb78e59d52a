use Rattle.std.proofs.Common.{◌≡◌, drop, flat_map}
use Rattle.gb_elab_mod.specs.Occurring.{read_locals, with_all}
use Rattle.gb_elab_mod.proofs.occurring.+occurring.Given as goal

abbrev pub invariant-in_terms-loop-t : goal.invariant-in_terms-loop-t
invariant-in_terms-loop-t l =
    with_all l.found (flat_map (λ t. read_locals t l.side) (drop l.t-index l.list)) ≡ with_all l.initial.found (flat_map (λ t. read_locals t l.side) l.list)
