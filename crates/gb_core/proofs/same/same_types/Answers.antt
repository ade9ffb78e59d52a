use Rattle.gb_core.proofs.SameTypes.{types_test}
use Rattle.gb_core.proofs.same.same_types.Goals as goal

pub returns : goal.returns
returns c = types_test c.same_ty.result c.args.a.now c.args.b.now c.same_ty.ensures
