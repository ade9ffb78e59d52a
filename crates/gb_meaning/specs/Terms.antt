-- The meaning of terms.
use Rattle.std.specs.Prelude.{ℕ, zero, suc, Bool, true, false, ◌&&◌, ◌||◌, pos, List, [], ◌∷◌, map, get_or}
use Rattle.gb_core.specs.declared.ty.Ty.{Ty}
use Rattle.gb_core.specs.declared.value.Value.{Value}
use Rattle.gb_core.specs.Numbering.{Numbering}
use Rattle.gb_terms.specs.declared.op.Read.{Read}
use Rattle.gb_terms.specs.declared.op.Read.TheVariants.{Logical, Program}
use Rattle.gb_terms.specs.declared.module.ProcRef.{ProcRef}
use Rattle.gb_terms.specs.declared.term.Term.{Term, Term', Row_of-Term, end_of-Term, more_of-Term, end_of-Head, more_of-Head}
use Rattle.gb_terms.specs.declared.term.Head.{Head}
use Rattle.gb_terms.specs.declared.term.Head.TheVariants as head
use Rattle.gb_dist.specs.WeightedList.{WeightedList, weight, dmap}
use Rattle.gb_meaning.specs.Fractions.{Fraction, plus}
use Rattle.gb_meaning.specs.Values.{values}
use Rattle.gb_meaning.specs.Memory.{Memory, read, read_globals}
use Rattle.gb_meaning.specs.Setting.{Meaning, Setting}
use Rattle.gb_meaning.specs.Setting.Meaning.{finite, whole, fraction, weights}
use Rattle.gb_meaning.specs.Meanings.{nothing, of_truth, of_number, value_in, truth, fraction_in, weights_in}
use Rattle.gb_meaning.specs.Distributions.{stated, sum_of_weights, restricted}
use Rattle.gb_meaning.specs.Operators.{Argument, operated, denominator_at, denominator_over}
use Rattle.gb_meaning.specs.State.{State, binding, meaning_in, memory_of, under, at}
use Rattle.gb_meaning.specs.State.Binding.{value}

-- The denominator of a distribution is read from its tree alone, so that it is the same from every memory.

abbrev pub denominator_of : Setting → Head → List ℕ → Ty → ℕ
denominator_of g (head.Builtin o) ks ty = denominator_at g.types o ty ks
denominator_of g (head.User n) ks ty = denominator_over ty (g.denominator n)
denominator_of g (head.Weights ps) ks ty = sum_of_weights ps
denominator_of g head.Map ks ty = get_or ks 0 1
denominator_of g head.Restrict ks ty = get_or ks 0 1
denominator_of g _ ks ty = 1

abbrev mutual
  pub denominator : Setting → Term → ℕ
  denominator g (Term' p (more_of-Head h end_of-Head) n ts ty) = denominator_of g h (denominators g ts) ty

  pub denominators : {n : _} → Setting → Row_of-Term n → List ℕ
  denominators g end_of-Term = []
  denominators g (more_of-Term t ts) = denominator g t ∷ denominators g ts

-- What programs say of a term: whether a judgment or a quantifier over memories is true in a state; and the probability
-- of an event after a procedure, from arguments and a memory.
pub record Speaks : Type 0 where
  pub judged : Term → State → Bool
  pub probability : ProcRef → List Value → Memory → (Memory → Bool) → Fraction

-- no judgment is true, and all probabilities are 0
abbrev pub quiet : Speaks
quiet = record { judged = λ t s. false; probability = λ p vs m e. (pos 0, 1) }

-- a part of a term: what it means in each state, and its denominator
pub record Part : Type 0 where
  pub meaning : State → Meaning
  pub denominator : ℕ

abbrev pub no_part : Part
no_part = record { meaning = λ s. nothing; denominator = 1 }

abbrev pub last_of : List Part → Part
last_of [] = no_part
last_of (x ∷ []) = x
last_of (x ∷ y ∷ xs) = last_of (y ∷ xs)

abbrev pub before_last : List Part → List Part
before_last [] = []
before_last (x ∷ []) = []
before_last (x ∷ y ∷ xs) = x ∷ before_last (y ∷ xs)

abbrev pub first_of : List Part → Part
first_of xs = get_or xs 0 no_part

abbrev pub argument : State → Part → Argument
argument s x = record { meaning = x.meaning s; denominator = x.denominator }

-- what a part means where a binder binds a value
abbrev pub at_value : Part → State → Value → Meaning
at_value x s v = x.meaning (under s (value (finite v)))

abbrev pub each_below : ℕ → (ℕ → Bool) → Bool
each_below zero f = true
each_below (suc n) f = each_below n f && f n

abbrev pub some_below : ℕ → (ℕ → Bool) → Bool
some_below zero f = false
some_below (suc n) f = some_below n f || f n

-- whether a test holds of each value, of some value
abbrev pub each_value : Numbering → (Value → Bool) → Bool
each_value t f = each_below t.size (λ i. f (t.at i))

abbrev pub some_value : Numbering → (Value → Bool) → Bool
some_value t f = some_below t.size (λ i. f (t.at i))

abbrev pub sum_below : ℕ → (ℕ → Fraction) → Fraction
sum_below zero f = (pos 0, 1)
sum_below (suc n) f = plus (sum_below n f) (f n)

-- A variable of a memory is read at the type of the read.
abbrev pub read_at : Setting → Read → Ty → State → Meaning
read_at g (Logical i) ty s = s.logical i
read_at g (Program x r) ty s = finite (read g.types (memory_of s r) x ty)

-- What a head means, from its parts. The event of a probability reads an outcome as its own memory.
abbrev pub at_head : Setting → Speaks → Term → Head → List Part → Ty → State → Meaning
at_head g j t (head.Lit v) xs ty s = finite v
at_head g j t (head.Whole n) xs ty s = whole n
at_head g j t (head.Read r) xs ty s = read_at g r ty s
at_head g j t (head.Bound i) xs ty s = meaning_in (binding s i)
at_head g j t (head.Builtin o) xs ty s = operated g.types o ty (map (argument s) xs)
at_head g j t (head.User n) xs ty s = g.operator n (map (λ x. x.meaning s) xs)
at_head g j t (head.All u) xs ty s = of_truth (each_value (values g.types u) (λ v. truth (at_value (last_of xs) s v)))
at_head g j t (head.Some u) xs ty s = of_truth (some_value (values g.types u) (λ v. truth (at_value (last_of xs) s v)))
at_head g j t head.AllMemory xs ty s = of_truth (j.judged t s)
at_head g j t head.SomeMemory xs ty s = of_truth (j.judged t s)
at_head g j t (head.AllModule b) xs ty s = nothing
at_head g j t head.Mu xs ty s =
    fraction (pos (weight (weights_in ((first_of xs).meaning s)) (λ v. truth (at_value (last_of xs) s v))), (first_of xs).denominator)
at_head g j t (head.Sum q) xs ty s =
    fraction (sum_below q (λ i. fraction_in ((last_of xs).meaning (under s (value (of_number i))))))
at_head g j t (head.Weights ps) xs ty s = weights (stated ps)
at_head g j t head.Map xs ty s =
    weights (dmap (λ v. value_in (at_value (last_of xs) s v)) (weights_in ((first_of xs).meaning s)))
at_head g j t head.Restrict xs ty s =
    weights (restricted (weights_in ((first_of xs).meaning s)) (λ v. truth (at_value (last_of xs) s v)))
at_head g j t (head.Pr p r) xs ty s =
    fraction (j.probability p (map (λ x. value_in (x.meaning s)) (before_last xs)) (memory_of s r) (λ n. truth ((last_of xs).meaning (at s n))))
at_head g j t (head.Glob m r) xs ty s = finite (read_globals g.types (memory_of s r) (g.types.footprint m))
at_head g j t (head.Hoare c) xs ty s = of_truth (j.judged t s)
at_head g j t (head.Phoare c r) xs ty s = of_truth (j.judged t s)
at_head g j t (head.Equiv c d) xs ty s = of_truth (j.judged t s)

abbrev mutual
  -- the meaning of a term in a state
  pub val : Setting → Speaks → Term → State → Meaning
  val g j (Term' p (more_of-Head h end_of-Head) n ts ty) s =
      at_head g j (Term' p (more_of-Head h end_of-Head) n ts ty) h (parts g j ts) ty s

  pub parts : {n : _} → Setting → Speaks → Row_of-Term n → List Part
  parts g j end_of-Term = []
  parts g j (more_of-Term t ts) = record { meaning = λ s. val g j t s; denominator = denominator g t } ∷ parts g j ts

-- a term as a part
abbrev pub part_of : Setting → Speaks → Term → Part
part_of g j t = record { meaning = λ s. val g j t s; denominator = denominator g t }

-- a distribution's weights, as a program draws from it
abbrev pub distribution : Setting → Term → State → WeightedList Value
distribution g d s = weights_in (val g quiet d s)
