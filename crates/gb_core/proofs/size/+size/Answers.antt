use Rattle.std.proofs.Common.{arith, min, sym, ap, ◌∙◌, ◌^◌}
use Rattle.gb_core.specs.declared.ty.Ty.{Ty}
use Rattle.gb_core.specs.Types.{size_of}
use Rattle.gb_core.proofs.Equations.{numbering-Map}
use Rattle.gb_core.proofs.Capped.{min_times, map_size, tuples-take}
use Rattle.gb_core.proofs.size.+size.Goals as goal

pub size-returns-in-Map : goal.size-returns-in-Map
size-returns-in-Map t c =
    let e = ap (λ (ty : Ty). min (size_of ty) (2 ^ 63)) c.in-Map.is in
    let m = ap (λ n. min n.size (2 ^ 63)) (numbering-Map c.in-Map.key c.in-Map.value) in
    map_size _ _ _ _ (size_of c.in-Map.value) (size_of c.in-Map.key) c.power-in-Map.ensures (c.min-in-Map.ensures) (cc) (cc)
    ∙ sym m ∙ sym e

pub size_of_tuple-loop-part-preserved : goal.size_of_tuple-loop-part-preserved
size_of_tuple-loop-part-preserved t c = grind (arith, min_times, tuples-take)
