-- What terms come to.
use Rattle.std.specs.Prelude.{ℕ, zero, suc, ◌*◌, ◌^◌, Bool, true, false, not, nat_lt, nat_le, if◌then◌else◌, pos, Option, Some, None, List, [], ◌∷◌, ◌++◌, length, map, reverse}
use Rattle.gb_core.specs.declared.ty.Ty.{Ty}
use Rattle.gb_core.specs.declared.ty.Ty.TheVariants.{Tuple}
use Rattle.gb_core.specs.declared.var.Var.{Var}
use Rattle.gb_core.specs.declared.value.Value.{Value}
use Rattle.gb_core.specs.declared.value.Value.TheVariants.{Num, Many}
use Rattle.gb_core.specs.declared.value.Card.{Card}
use Rattle.gb_core.specs.declared.value.Card.TheVariants.{Exact, Above}
use Rattle.gb_core.specs.Numbering.{parts_of}
use Rattle.gb_core.specs.Types.{card_of, value_at}
use Rattle.gb_terms.specs.declared.op.Op.{Op}
use Rattle.gb_terms.specs.declared.op.Op.TheVariants as op
use Rattle.gb_terms.specs.declared.op.Read.{Read}
use Rattle.gb_terms.specs.declared.op.Read.TheVariants.{Program}
use Rattle.gb_terms.specs.declared.op.Side.TheVariants as side
use Rattle.gb_terms.specs.declared.term.Term.{Term, Term', Row_of-Term, end_of-Term, more_of-Term, end_of-Head, more_of-Head}
use Rattle.gb_terms.specs.declared.term.Head.{Head}
use Rattle.gb_terms.specs.declared.term.Head.TheVariants as head
use Rattle.gb_terms.specs.Equal.{read_eq}
use Rattle.gb_dist.specs.WeightedList.{WeightedList, total, scale}
use Rattle.gb_dist.specs.Fractions.{Fraction, plus, reduced}
use Rattle.gb_dist.specs.Operations.{product_of, plus_steps}
use Rattle.gb_dist.specs.Lists.{imaged, kept}
use Rattle.gb_meaning.specs.Distributions.{stated}
use Rattle.gb_meaning.specs.Operators.{is_distribution}
use Rattle.gb_dist.specs.Places.{outcomes}
use Rattle.gb_dist.specs.Rows.{scaling_steps}
use Rattle.gb_goal.specs.Scope.{Declarations}
use Rattle.gb_walk.specs.Clash.{Exclusions}
use Rattle.gb_labels.specs.Held as held
use Rattle.gb_labels.specs.Reads.{Vars, are_free, reads_of}
use Rattle.gb_labels.specs.Labelled.{labelled}
use Rattle.gb_eval.specs.declared.env.Bound.{Bound}
use Rattle.gb_eval.specs.declared.env.Bound.TheVariants as to
use Rattle.gb_eval.specs.declared.env.Env.{Env}
use Rattle.gb_eval.specs.declared.env.ReadValue.{ReadValue}
use Rattle.gb_eval.specs.declared.script.Script.{Script}
use Rattle.gb_eval.specs.Script.{opened}
use Rattle.gb_eval.specs.Findings.{Finding, Function, Operators, Comes, ◌>>=◌, after, argument_of, collected, finding_of, no_operator, over, of_truth, truth_in, value_in, fraction_in, table_in}
use Rattle.gb_eval.specs.Findings.Finding.{value, whole, fraction, table}
use Rattle.gb_eval.specs.Findings.Comes.{found, unknown}
use Rattle.gb_eval.specs.Operators.{nullary, unary, binary, updated, is_connective, connective, zero_fraction, chance}
use Rattle.gb_eval.specs.Totals.{total_of, weights_total}
use Rattle.gb_eval.specs.Known.{is_tuple}

-- the value of the first entry of the read
abbrev pub value_among : List ReadValue → Read → Comes Finding
value_among [] r = unknown
value_among (e ∷ es) r = if read_eq e.read r then found (value e.value) else value_among es r

-- what stands for the variable with so many binders between
abbrev pub bound_at : List Bound → ℕ → Option Bound
bound_at [] i = None
bound_at (b ∷ bs) zero = Some b
bound_at (b ∷ bs) (suc i) = bound_at bs i

abbrev pub found_of : Option Bound → Comes Finding
found_of None = unknown
found_of (Some b) = finding_of b

abbrev pub value_bound : List Bound → ℕ → Comes Finding
value_bound bs i = found_of (bound_at bs i)

abbrev pub found_value : Option Value → Comes Finding
found_value None = unknown
found_value (Some v) = found (value v)

-- the value of a variable at a type, in a memory of which some variables are known
abbrev pub held_in : Option Bound → Var → Ty → Comes Finding
held_in (Some (to.Memory hs)) x ty = found_value (held.value_of hs x ty)
held_in _ x ty = unknown

-- The value of a read at a type: of a memory that a binder binds as it holds it, of anything else as it is given.
abbrev pub value_of : List ReadValue → List Bound → Read → Ty → Comes Finding
value_of es bs (Program x (side.Bound i)) ty = held_in (bound_at bs i) x ty
value_of es bs r ty = value_among es r

-- A part of a term: what it comes to under what the binders around bind, the innermost first; the denominator of its tree; and, where it
-- is the body of a quantifier over memories, what it reads of the memory that this binds.
pub record Part : Type 0 where
  pub comes : List Bound → Comes Finding
  pub total : Comes ℕ
  pub reads : Vars

abbrev pub truth_under : Part → List Bound → Comes Bool
truth_under x bound = x.comes bound >>= truth_in

-- A side of a conditional that is a distribution: its weights and its denominator times the denominator of the other side.
abbrev pub scaled : Comes ℕ → Finding → Comes Finding
scaled k (table n l) = k >>= λ c. after (scaling_steps l c ++ product_of (pos n) (pos c) ∷ []) (table (n * c) (scale c l))
scaled k x = found x

abbrev pub chosen : Bool → Part → Part → List Bound → Comes Finding
chosen true x y bound = x.comes bound >>= scaled y.total
chosen false x y bound = y.comes bound >>= scaled x.total

abbrev pub conditional : List Part → List Bound → Comes Finding
conditional (x ∷ y ∷ z ∷ []) bound = truth_under x bound >>= λ a. chosen a y z bound
conditional _ bound = unknown

abbrev pub map_update : Ty → List Part → List Bound → Comes Finding
map_update ty (x ∷ y ∷ z ∷ []) bound = x.comes bound >>= λ a. y.comes bound >>= λ b. z.comes bound >>= λ c. updated ty a b c
map_update ty _ bound = unknown

abbrev pub at_three : Op → Ty → List Part → List Bound → Comes Finding
at_three op.If ty xs bound = conditional xs bound
at_three op.Set ty xs bound = map_update ty xs bound
at_three _ ty xs bound = unknown

abbrev pub tuple : List Part → List Bound → Comes Finding
tuple xs bound = collected [] (map (λ x. x.comes bound >>= value_in) xs) >>= λ vs. found (value (Many vs))

abbrev pub connected : Op → List Part → List Bound → Comes Finding
connected o (x ∷ y ∷ []) bound = connective o (truth_under x bound) (truth_under y bound) >>= λ a. found (of_truth a)
connected o _ bound = unknown

-- operands come to something from left to right
abbrev pub at_two : Op → Ty → Part → Part → List Bound → Comes Finding
at_two o ty x y bound =
    if is_connective o then connected o (x ∷ y ∷ []) bound else (x.comes bound >>= λ a. y.comes bound >>= λ b. binary o ty a b)

abbrev pub at_arguments : Op → Ty → List Part → List Bound → Comes Finding
at_arguments o ty [] bound = nullary o ty
at_arguments o ty (x ∷ []) bound = x.comes bound >>= λ a. unary o ty a
at_arguments o ty (x ∷ y ∷ []) bound = at_two o ty x y bound
at_arguments o ty (x ∷ y ∷ z ∷ []) bound = at_three o ty (x ∷ y ∷ z ∷ []) bound
at_arguments o ty _ bound = unknown

abbrev pub operated : Op → Ty → List Part → List Bound → Comes Finding
operated o ty xs bound = if is_tuple o then tuple xs bound else at_arguments o ty xs bound

-- the truth of a quantifier after one place more: what decides it, false for `forall` and true for `exists`, stands
abbrev pub next_truth : Bool → (ℕ → Comes Bool) → Bool → ℕ → Comes Bool
next_truth true f true n = found true
next_truth true f false n = f n
next_truth false f true n = f n
next_truth false f false n = found false

-- the truth of a quantifier over a type, whose values are tried in order up to the first that decides
abbrev pub over_values : Bool → Card → Ty → (Value → Comes Bool) → Comes Bool
over_values deciding (Exact n) ty f = over (next_truth deciding (λ i. f (value_at ty i))) (not deciding) n
over_values deciding Above ty f = unknown

abbrev pub quantified : Bool → Ty → List Part → List Bound → Comes Finding
quantified deciding ty (x ∷ []) bound = over_values deciding (card_of ty) ty (λ v. truth_under x (to.Value v ∷ bound)) >>= λ a. found (of_truth a)
quantified deciding ty _ bound = unknown

-- the type of whose values the memories are in which variables have values
abbrev pub memories_of : Vars → Ty
memories_of xs = Tuple (map (λ x. x.ty) xs)

-- how many these are, where that is exact and there is one
abbrev pub number_of_memories : Card → Comes ℕ
number_of_memories (Exact n) = if nat_lt 0 n then found n else unknown
number_of_memories Above = unknown

-- the truth of a part in the memory of these values
abbrev pub in_memory : Vars → Part → List Bound → Value → Comes Bool
in_memory xs x bound v = truth_under x (to.Memory (held.with_values xs (parts_of v)) ∷ bound)

-- the truth of a quantifier over the memories in which variables have values, which are tried in order up to the first that decides
abbrev pub in_memories : Bool → Vars → Part → List Bound → Comes Finding
in_memories deciding xs x bound =
    number_of_memories (card_of (memories_of xs))
    >>= λ n. over (next_truth deciding (λ i. in_memory xs x bound (value_at (memories_of xs) i))) (not deciding) n
    >>= λ a. found (of_truth a)

-- The truth of a quantifier over memories, by the values that they give what is read of them. It is known where memories give these any
-- values of their types, independently.
abbrev pub remembered : Exclusions → Bool → List Part → List Bound → Comes Finding
remembered es deciding (x ∷ []) bound = if are_free es x.reads then in_memories deciding x.reads x bound else unknown
remembered es deciding _ bound = unknown

-- the truth of an event at each outcome of a table, in order
abbrev pub event : Part → WeightedList Value → List Bound → Comes (List Bool)
event x l bound = collected [] (map (λ v. truth_under x (to.Value v ∷ bound)) (outcomes l))

abbrev pub table_under : Part → List Bound → Comes (ℕ × WeightedList Value)
table_under x bound = x.comes bound >>= table_in

-- the measure of an event, and the part of a table on which it is true
abbrev pub weighed : Part → ℕ × WeightedList Value → List Bound → Comes Finding
weighed y d bound = event y d.1 bound >>= λ bs. chance (total (kept bs d.1)) d.0

abbrev pub narrowed : Part → ℕ × WeightedList Value → List Bound → Comes Finding
narrowed y d bound = event y d.1 bound >>= λ bs. found (table d.0 (kept bs d.1))

abbrev pub measured : List Part → List Bound → Comes Finding
measured (x ∷ y ∷ []) bound = table_under x bound >>= λ d. weighed y d bound
measured _ bound = unknown

abbrev pub restricted : List Part → List Bound → Comes Finding
restricted (x ∷ y ∷ []) bound = table_under x bound >>= λ d. narrowed y d bound
restricted _ bound = unknown

-- the image of each outcome of a table, in order
abbrev pub images : Part → WeightedList Value → List Bound → Comes (List Value)
images y l bound = collected [] (map (λ v. y.comes (to.Value v ∷ bound) >>= value_in) (outcomes l))

-- the table of images, each with the weight of its source
abbrev pub image_of : Part → ℕ × WeightedList Value → List Bound → Comes Finding
image_of y d bound = images y d.1 bound >>= λ vs. found (table d.0 (imaged vs d.1))

abbrev pub mapped : List Part → List Bound → Comes Finding
mapped (x ∷ y ∷ []) bound = table_under x bound >>= λ d. image_of y d bound
mapped _ bound = unknown

-- stated weights, over their sum
abbrev pub weighted : WeightedList Value → Comes Finding
weighted l = weights_total l >>= λ n. found (table n l)

-- the sum over the numbers below q, one by one
abbrev pub next_sum : (ℕ → Comes Fraction) → Fraction → ℕ → Comes Fraction
next_sum f a n = f n >>= λ b. after (plus_steps a b) (reduced (plus a b))

abbrev pub summed : ℕ → List Part → List Bound → Comes Finding
summed q (x ∷ []) bound =
    if nat_le q (2 ^ 32) then (over (next_sum (λ i. x.comes (to.Value (Num i) ∷ bound) >>= fraction_in)) zero_fraction q >>= λ a. found (fraction a))
    else unknown
summed q _ bound = unknown

-- The operators of the script, the values of reads, and what restrictions of abstract modules exclude.
pub record Environment : Type 0 where
  pub operators : Operators
  pub reads : List ReadValue
  pub exclusions : Exclusions

-- the arguments of an operator of the script
abbrev pub arguments : List Part → List Bound → Comes (List Bound)
arguments xs bound = collected [] (map (λ x. x.comes bound >>= argument_of) xs)

-- a distribution is of a type of distributions
abbrev pub may_have : Ty → Finding → Bool
may_have ty (table n l) = is_distribution ty
may_have ty x = true

-- the result of an operator of the script at its type
abbrev pub result_at : Ty → Finding → Comes Finding
result_at ty x = if may_have ty x then found x else unknown

-- An operator of the script comes to its result at what its arguments come to.
abbrev pub called : Function → Ty → List Part → List Bound → Comes Finding
called f ty xs bound = arguments xs bound >>= λ vs. f.comes vs >>= result_at ty

-- a head at what its arguments come to
abbrev pub at_head : Environment → Head → Ty → List Part → List Bound → Comes Finding
at_head env (head.Lit v) ty xs bound = found (value v)
at_head env (head.Whole n) ty xs bound = found (whole n)
at_head env (head.Read r) ty xs bound = value_of env.reads bound r ty
at_head env (head.Bound i) ty xs bound = value_bound bound i
at_head env (head.Builtin o) ty xs bound = operated o ty xs bound
at_head env (head.User n) ty xs bound = called (env.operators n) ty xs bound
at_head env (head.All u) ty xs bound = quantified false u xs bound
at_head env (head.Some u) ty xs bound = quantified true u xs bound
at_head env head.AllMemory ty xs bound = remembered env.exclusions false xs bound
at_head env head.SomeMemory ty xs bound = remembered env.exclusions true xs bound
at_head env head.Mu ty xs bound = measured xs bound
at_head env head.Restrict ty xs bound = restricted xs bound
at_head env head.Map ty xs bound = mapped xs bound
at_head env (head.Weights ps) ty xs bound = weighted (stated ps)
at_head env (head.Sum q) ty xs bound = summed q xs bound
at_head env _ ty xs bound = unknown

-- What a term comes to in an environment.
abbrev mutual
  pub eval : Environment → Term → List Bound → Comes Finding
  eval env (Term' p (more_of-Head h end_of-Head) n ts ty) bound = at_head env h ty (eval_all env ts) bound

  pub eval_all : {n : _} → Environment → Row_of-Term n → List Part
  eval_all env end_of-Term = []
  eval_all env (more_of-Term t ts) = record { comes = λ bound. eval env t bound; total = total_of env.operators t; reads = reads_of t } ∷ eval_all env ts

-- a term as a part
abbrev pub part_of : Environment → Term → Part
part_of env t = record { comes = λ bound. eval env t bound; total = total_of env.operators t; reads = reads_of t }

-- the truth of a form
abbrev pub truth_at : Environment → Term → List Bound → Comes Bool
truth_at env t bound = eval env t bound >>= truth_in

-- Operators of a script.

-- An operator comes to what its body does, in which its parameters are bound, the last one innermost.
abbrev pub function_of : Operators → Term → Function
function_of ops body = record {
  comes = λ vs. eval (record { operators = ops; reads = []; exclusions = [] }) body (reverse vs);
  total = total_of ops body;
}

-- the operators of a script, opened in one another so many times at most
abbrev pub operators_at : Declarations → ℕ → Operators
operators_at = opened no_operator function_of

-- all of them: where bodies name earlier operators alone, each is opened that evaluation comes to
unfoldable pub operators_of : Declarations → Operators
operators_of ds = operators_at ds (length ds)

-- what the code evaluates in

unfoldable pub operators_in : Script → Operators
operators_in s = operators_at s.scope.now s.depth

unfoldable pub environment : Env → Environment
environment e = record { operators = operators_in e.script; reads = e.reads.now; exclusions = e.exclusions.now }

-- what a closed term comes to there, with labels in place of the values of modules' globals
abbrev pub comes_to : Env → Term → Comes Finding
comes_to e t = eval (environment e) (labelled e.labels.now t) []
