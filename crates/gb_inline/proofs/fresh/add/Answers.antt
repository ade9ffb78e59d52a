use Rattle.std.proofs.Common.{string_bytes, subst, ◌∙◌}
use Rattle.gb_inline.specs.Taken.{Adds}
use Rattle.gb_inline.proofs.FreshSteps.{added}
use Rattle.gb_inline.proofs.fresh.add.Goals as goal

pub returns : goal.returns
returns c =
    let is = c.in_ok-text.ensures.ok ∙ c.as_str.ensures in
    subst (λ n. Adds c.args.names.now n c.insert.new.self) is (added c.args.names.now c.insert.new.self (string_bytes c.in_ok-text.text) c.in_ok-insert.ensures.updates)
