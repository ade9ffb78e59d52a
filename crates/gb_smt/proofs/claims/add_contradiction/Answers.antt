use Rattle.std.proofs.lemmas.Result.{on_ok_weaker}
use Rattle.gb_smt.proofs.Parts.{contradiction_added}
use Rattle.gb_smt.proofs.claims.add_contradiction.Goals as goal

pub returns-in_ok-claim_of : goal.returns-in_ok-claim_of
returns-in_ok-claim_of c =
    on_ok_weaker c.push.result (λ m. contradiction_added c.args.out.now c.push.new.self c.args.hyps c.is_empty.result c.args.never.now c.in_ok-claim_of.field-0 c.is_empty.ensures c.if-is_empty.false c.requires c.in_ok-claim_of.ensures m) c.push.ensures.ok
