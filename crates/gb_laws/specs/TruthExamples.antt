-- Small forms with judgments and quantifiers over memories.
use Rattle.std.specs.Prelude.{◌≡◌, ℕ, ◌*◌, ◌<◌, Bool, true, [], ◌∷◌}
use Rattle.gb_core.specs.declared.ty.Ty.TheVariants.{Bool as truths}
use Rattle.gb_core.specs.declared.value.Value.TheVariants.{Num, Many}
use Rattle.gb_core.specs.declared.var.Var.TheVariants.{Local}
use Rattle.gb_terms.specs.declared.op.Op.TheVariants as op
use Rattle.gb_terms.specs.declared.op.Side.{Side}
use Rattle.gb_terms.specs.declared.op.Side.TheVariants.{Left, Right, Bound}
use Rattle.gb_terms.specs.declared.op.Read.TheVariants.{Program}
use Rattle.gb_terms.specs.declared.term.Term.{Term}
use Rattle.gb_terms.specs.declared.term.Cmd.{Cmd}
use Rattle.gb_terms.specs.declared.term.Head.TheVariants.{Read, Sample, Body, Equiv, AllMemory, SomeMemory}
use Rattle.gb_terms.specs.Make.{node}
use Rattle.gb_dist.specs.WeightedList.{WeightedList, weight, bit, On}
use Rattle.gb_dist.specs.Coupling.{Coupling}
use Rattle.gb_meaning.specs.Names.{get}
use Rattle.gb_meaning.specs.Values.{value_eq}
use Rattle.gb_meaning.specs.Memory.{Memory, write_local, value_or}
use Rattle.gb_meaning.specs.Setting.{Setting}
use Rattle.gb_meaning.specs.State.{State, between}
use Rattle.gb_meaning.specs.Judgments.{Judge, den, run_of, subject_denominator}
use Rattle.gb_meaning.specs.Trees.{term}
use Rattle.gb_meaning.specs.Examples.{x, coin, number, operator}

-- `{ x <$ {0,1}; }`
abbrev pub flip : Cmd
flip = record { list = Sample (Local x) coin ∷ [] }

-- x in a memory
abbrev pub x_in : Side → Term
x_in r = term (Read (Program (Local x) r)) [] truths

-- `x{1} = !x{2}`
abbrev pub opposite : Term
opposite = operator op.Equal (x_in Left ∷ operator op.Not (x_in Right ∷ []) truths ∷ []) truths

-- `equiv [{ x <$ {0,1}; } ~ { x <$ {0,1}; } : true ==> x{1} = !x{2}]`
abbrev pub flips_are_opposite : Term
flips_are_opposite = node (Equiv (Body flip) (Body flip)) (number 1 truths ∷ opposite ∷ []) truths

-- `x{1} = x{2}`
abbrev pub alike : Term
alike = operator op.Equal (x_in Left ∷ x_in Right ∷ []) truths

-- `equiv [{ x <$ {0,1}; } ~ { x <$ {0,1}; } : true ==> x{1} = x{2}]`
abbrev pub flips_are_alike : Term
flips_are_alike = node (Equiv (Body flip) (Body flip)) (number 1 truths ∷ alike ∷ []) truths

-- the memory after the coin fell so
abbrev pub tossed : Memory → Bool → Memory
tossed m b = write_local m x (Num (bit b))

-- whether a memory shows this side of the coin
abbrev pub shows : Bool → Memory → Bool
shows b m = value_eq (value_or (get m.frame (x ∷ [])) (Many [])) (Num (bit b))

-- a coupling of two coins, from two memories, on `x{1} = x{2}`
abbrev pub CoinCoupling : Setting → Judge → State → Memory → Memory → Type 0
CoinCoupling g j s m n =
    Coupling (λ a b. den g j alike (between s a b) ≡ true) (run_of g s (Body flip) m) (subject_denominator g (Body flip))
    (run_of g s (Body flip) n) (subject_denominator g (Body flip))

-- A list of pairs over k: in each entry both coins fell alike, and each of the two sides of the coin has half of k.
pub record ArePairsOfCoins (m n : Memory) (k : ℕ) (pairs : WeightedList (Memory × Memory)) : Type 0 where
  pub positive : 0 < k
  pub entries : On (λ p. (b : Bool) × (p.0 ≡ tossed m b) × (p.1 ≡ tossed n b)) pairs
  pub halves : (b : Bool) → weight pairs (λ p. shows b p.0) * 2 ≡ k

-- `forall &m, x{m}` and `exists &m, x{m}`
abbrev pub each_shows : Term
each_shows = node AllMemory (x_in (Bound 0) ∷ []) truths

abbrev pub some_shows : Term
some_shows = node SomeMemory (x_in (Bound 0) ∷ []) truths
