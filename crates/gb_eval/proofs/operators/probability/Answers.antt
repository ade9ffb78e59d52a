use Rattle.std.proofs.Common.{ap, sym, ◌∙◌}
use Rattle.gb_dist.specs.Rows.{entries}
use Rattle.gb_eval.specs.Findings.{shown, with_table}
use Rattle.gb_eval.specs.Operators.{chance, weight_of}
use Rattle.gb_eval.proofs.Places.{weight_is}
use Rattle.gb_eval.proofs.Stops.{leads_on, gives_as}
use Rattle.gb_eval.proofs.operators.probability.Goals as goal

pub returns-in-Table : goal.returns-in-Table
returns-in-Table c =
    gives_as shown _ _ c.chance.result
    (leads_on _ (λ v. with_table (shown c.args.d.now) (λ n l. chance (weight_of v l) n)) c.in_ok-v.v c.in_ok-v.ensures
    ∙ ap (λ a. with_table (shown a) (λ n l. chance (weight_of c.in_ok-v.v l) n)) c.in-Table.is
    ∙ ap (λ n. chance n c.in-Table.t.total) (sym (weight_is (entries c.in-Table.t.rows) c.in_ok-v.v c.weight.result c.weight.ensures.value)))
    c.chance.ensures
