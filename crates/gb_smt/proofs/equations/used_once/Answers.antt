use Rattle.std.proofs.Common.{ap, sym, ◌∙◌}
use Rattle.gb_smt.specs.Equations.{first_usable}
use Rattle.gb_smt.proofs.Uses.{place_within}
use Rattle.gb_smt.proofs.equations.used_once.Goals as goal

pub with_used-requires : goal.with_used-requires
with_used-requires c =
    place_within c.args.leaf.now.hyps c.in-Some.equation (ap first_usable (sym c.as_slice.ensures) ∙ sym c.in_ok-equation.ensures ∙ c.in-Some.is)
