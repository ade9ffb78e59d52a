-- Denominators of distributions, as evaluation reads them from the tree alone.
use Rattle.std.specs.Prelude.{ℕ, ◌*◌, ◌^◌, Bool, ◌&&◌, nat_lt, nat_le, if◌then◌else◌, pos, List, [], ◌∷◌}
use Rattle.std.specs.List.{list_all}
use Rattle.gb_core.specs.declared.ty.Ty.{Ty}
use Rattle.gb_core.specs.declared.value.Card.{Card}
use Rattle.gb_core.specs.declared.value.Card.TheVariants.{Exact, Above}
use Rattle.gb_core.specs.Types.{card_of}
use Rattle.gb_terms.specs.declared.op.Op.{Op}
use Rattle.gb_terms.specs.declared.op.Op.TheVariants as op
use Rattle.gb_terms.specs.declared.term.Term.{Term, Term', Row_of-Term, end_of-Term, more_of-Term, end_of-Head, more_of-Head}
use Rattle.gb_terms.specs.declared.term.Head.{Head}
use Rattle.gb_terms.specs.declared.term.Head.TheVariants as head
use Rattle.gb_dist.specs.Operations.{product_of}
use Rattle.gb_core.specs.declared.value.Value.{Value}
use Rattle.gb_dist.specs.WeightedList.{WeightedList, total}
use Rattle.gb_dist.specs.Rows.{adding_steps}
use Rattle.gb_meaning.specs.Distributions.{stated}
use Rattle.gb_meaning.specs.Operators.{is_distribution, outcome_type}
use Rattle.gb_eval.specs.Findings.{Comes, Operators, ◌>>=◌, after}
use Rattle.gb_eval.specs.Findings.Comes.{found, unknown}

abbrev pub number_of_outcomes : Card → Comes ℕ
number_of_outcomes (Exact n) = if nat_lt 0 n && nat_le n 65536 then found n else unknown
number_of_outcomes Above = unknown

-- the product of two denominators
abbrev pub multiplied : List (Comes ℕ) → Comes ℕ
multiplied (x ∷ y ∷ []) = x >>= λ m. y >>= λ n. after (product_of (pos m) (pos n) ∷ []) (m * n)
multiplied _ = unknown

abbrev pub operator_total : Op → Ty → List (Comes ℕ) → Comes ℕ
operator_total op.Coin ty ks = found 2
operator_total op.Uniform ty ks = number_of_outcomes (card_of (outcome_type ty))
operator_total op.Dunit ty ks = found 1
operator_total op.Product ty ks = multiplied ks
operator_total op.If ty (i ∷ ks) = multiplied ks
operator_total _ ty ks = unknown

-- that of the first of two arguments
abbrev pub of_first : List (Comes ℕ) → Comes ℕ
of_first (k ∷ b ∷ []) = k
of_first _ = unknown

-- a weight above 0 and below 2^127
abbrev pub is_weight : ℕ → Bool
is_weight w = nat_lt 0 w && nat_lt w (2 ^ 127)

abbrev pub are_weights : WeightedList Value → Bool
are_weights l = list_all (λ e. is_weight e.1) l

-- the sum of stated weights
abbrev pub weights_total : WeightedList Value → Comes ℕ
weights_total [] = unknown
weights_total (e ∷ l) = if are_weights (e ∷ l) then after (adding_steps 0 (e ∷ l)) (total (e ∷ l)) else unknown

-- that of an operator of the script, where its type is a distribution
abbrev pub total_over : Ty → Comes ℕ → Comes ℕ
total_over ty k = if is_distribution ty then k else unknown

abbrev pub head_total : Operators → Head → Ty → List (Comes ℕ) → Comes ℕ
head_total ops (head.Builtin o) ty ks = operator_total o ty ks
head_total ops (head.User n) ty ks = total_over ty (ops n).total
head_total ops (head.Weights ps) ty ks = weights_total (stated ps)
head_total ops head.Map ty ks = of_first ks
head_total ops head.Restrict ty ks = of_first ks
head_total ops _ ty ks = unknown

abbrev mutual
  -- the denominator of a distribution
  pub total_of : Operators → Term → Comes ℕ
  total_of ops (Term' p (more_of-Head h end_of-Head) n ts ty) = head_total ops h ty (totals_of ops ts)

  pub totals_of : {n : _} → Operators → Row_of-Term n → List (Comes ℕ)
  totals_of ops end_of-Term = []
  totals_of ops (more_of-Term t ts) = total_of ops t ∷ totals_of ops ts
