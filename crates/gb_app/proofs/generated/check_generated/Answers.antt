-- The script isn't long.
use Rattle.std.proofs.Common.{◌<◌, sym, subst, length, ◌∙◌}
use Rattle.gb_app.proofs.Sizes.{script_of-size}
use Rattle.gb_app.proofs.generated.check_generated.Goals as goal

pub verdict_on-requires : goal.verdict_on-requires
verdict_on-requires g c =
    subst (λ t. length t < 2147483648) (sym (c.as_bytes.ensures.value ∙ c.in-Ok.ensures)) (script_of-size c.args.count c.requires)
