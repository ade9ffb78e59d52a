use Rattle.std.proofs.Common.{ap, ◌∙◌, arith}
use Rattle.gb_core.specs.Types.{numbering}
use Rattle.gb_core.proofs.Orders.{lawful}
use Rattle.gb_core.proofs.index.index.Goals as goal

pub returns : goal.returns
returns c =
    let l = lawful c.args.ty.now in
    let below = l.below c.args.v.now c.requires.1 in
    record {
      place = c.place.ensures;
      below = omega arith;
      back = ap (numbering c.args.ty.now).at c.place.ensures ∙ l.at_place c.args.v.now c.requires.1;
    }
