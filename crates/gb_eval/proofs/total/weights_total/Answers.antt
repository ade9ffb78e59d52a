use Rattle.std.proofs.Common.{◌≡◌, ◌<◌, true, sym, subst, ◌∙◌}
use Rattle.gb_dist.specs.WeightedList.{total}
use Rattle.gb_dist.specs.Lists.{is_positive}
use Rattle.gb_meaning.specs.Distributions.{stated}
use Rattle.gb_eval.proofs.Weights.{each_ok, stated_above, stated_small, weights_positive}
use Rattle.gb_eval.proofs.total.weights_total.Goals as goal

pub sum_of-requires : goal.sum_of-requires
sum_of-requires c = stated_small c.args.pairs.now (sym c.are_weights.ensures ∙ c.if-not-are_weights.false)

pub returns-clause-positive : goal.returns-clause-positive
returns-clause-positive c =
    each_ok c.sum_of.result (λ n. n ≡ total (stated c.args.pairs.now)) (λ n. is_positive (stated c.args.pairs.now) ≡ true) c.sum_of.ensures.sum
    (λ n e. weights_positive (stated c.args.pairs.now) (sym c.are_weights.ensures ∙ c.if-not-are_weights.false))

pub returns-clause-above : goal.returns-clause-above
returns-clause-above c =
    each_ok c.sum_of.result (λ n. n ≡ total (stated c.args.pairs.now)) (λ n. 0 < n) c.sum_of.ensures.sum
    (λ n e. subst (λ k. 0 < k) (sym e) (stated_above c.args.pairs.now (sym c.is_empty.ensures ∙ c.if-is_empty.false) (sym c.are_weights.ensures ∙ c.if-not-are_weights.false)))
