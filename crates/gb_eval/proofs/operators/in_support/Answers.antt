use Rattle.std.proofs.Common.{nat_lt, ap, sym, ◌∙◌}
use Rattle.gb_dist.specs.Rows.{entries}
use Rattle.gb_eval.specs.Findings.{shown, with_table}
use Rattle.gb_eval.specs.Findings.Comes.{found}
use Rattle.gb_eval.specs.Operators.{weight_of}
use Rattle.gb_eval.proofs.Places.{weight_is}
use Rattle.gb_eval.proofs.Stops.{leads_on}
use Rattle.gb_eval.proofs.operators.in_support.Goals as goal

pub returns-in-Table : goal.returns-in-Table
returns-in-Table c =
    leads_on _ (λ v. with_table (shown c.args.d.now) (λ n l. found (nat_lt 0 (weight_of v l)))) c.in_ok-v.v c.in_ok-v.ensures
    ∙ ap (λ a. with_table (shown a) (λ n l. found (nat_lt 0 (weight_of c.in_ok-v.v l)))) c.in-Table.is
    ∙ ap (λ n. found (nat_lt 0 n)) (sym (weight_is (entries c.in-Table.t.rows) c.in_ok-v.v c.weight.result c.weight.ensures.value))
