-- What is said of two calls, step by step.
use Rattle.std.proofs.Common.{◌≡◌, ◌∙◌, ◌||◌, List, ap}
use Rattle.std.specs.List.{list_any}
use Rattle.gb_core.specs.declared.var.Var.{Var}
use Rattle.gb_core.specs.declared.var.Var.TheVariants.{Local, Glob}
use Rattle.gb_terms.specs.declared.op.Side.TheVariants.{Left, Right}
use Rattle.gb_terms.specs.declared.term.Term.{Term}
use Rattle.gb_walk.specs.Clash.{variables_read}
use Rattle.gb_meaning.specs.Memory.{result_name}
use Rattle.gb_call.specs.Outcomes.{is_among}
use Rattle.gb_call.proofs.OutcomeSteps.{occurs_as_read}
use Rattle.gb_adv.specs.Returns.{Returns, after_calls, after_where}

-- what is read on both sides, known beforehand
pub both_as_read : (o : Returns) (i q : Term) (a b c d : List Var) → a ≡ variables_read o.left.side i → b ≡ variables_read o.left.side q
    → c ≡ variables_read o.right.side i → d ≡ variables_read o.right.side q → o.left.side ≡ Left → o.right.side ≡ Right →
    after_where ((is_among a (Local result_name) || list_any (is_among b) o.left.targets) || (is_among c (Local result_name) || list_any (is_among d) o.right.targets))
    (is_among b (Glob o.owner) || is_among d (Glob o.owner)) o i q ≡ after_calls o i q
both_as_read o i q a b c d h k l m u v = λ t.
    after_where (occurs_as_read o.left i q a b h k t || occurs_as_read o.right i q c d l m t)
    (is_among ((k ∙ ap (λ r. variables_read r q) u) t) (Glob o.owner) || is_among ((m ∙ ap (λ r. variables_read r q) v) t) (Glob o.owner)) o i q
