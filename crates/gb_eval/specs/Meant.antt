-- When what a term comes to is what it means.
use Rattle.std.specs.Prelude.{◌≡◌, ◌↔◌, ℕ, ◌<◌, true, List, [], ◌∷◌, map, reverse, Some}
use Rattle.gb_core.specs.declared.ty.Ty.{Ty}
use Rattle.gb_core.specs.declared.value.Value.{Value}
use Rattle.gb_terms.specs.declared.op.Read.{Read}
use Rattle.gb_terms.specs.declared.op.Read.TheVariants.{Program}
use Rattle.gb_terms.specs.declared.op.Side.TheVariants as side
use Rattle.gb_terms.specs.declared.term.Term.{Term, Term', Row_of-Term, end_of-Term, more_of-Term, end_of-Head, more_of-Head}
use Rattle.gb_terms.specs.declared.term.Head.{Head}
use Rattle.gb_terms.specs.declared.term.Head.TheVariants as head
use Rattle.gb_dist.specs.WeightedList.{WeightedList, mass}
use Rattle.gb_dist.specs.Fractions.{Fraction, IsSame}
use Rattle.gb_meaning.specs.Setting.{Meaning, Setting}
use Rattle.gb_meaning.specs.Setting.Meaning.{finite, whole, fraction, weights}
use Rattle.gb_meaning.specs.Values.{Types}
use Rattle.gb_meaning.specs.Memory.{Memory}
use Rattle.gb_meaning.specs.Meanings.{truth}
use Rattle.gb_meaning.specs.State.{State, Binding, closed, under}
use Rattle.gb_meaning.specs.State.Binding.{value, memory}
use Rattle.gb_meaning.specs.Terms as mt
use Rattle.gb_meaning.specs.Terms.{Speaks, denominator, quiet, read_at, val}
use Rattle.gb_laws.specs.Plain.{IsPlain}
use Rattle.gb_labels.specs.Memories.{IsHeldBy, IsReadable}
use Rattle.gb_eval.specs.declared.env.ReadValue.{ReadValue}
use Rattle.gb_meaning.specs.Names.{Name}
use Rattle.gb_eval.specs.declared.env.Bound.{Bound}
use Rattle.gb_eval.specs.declared.env.Bound.TheVariants as to
use Rattle.gb_eval.specs.Findings.{Finding, Finding as finding, Function, Operators, Comes}
use Rattle.gb_eval.specs.Findings.Comes.{found, unknown, overflow}
use Rattle.gb_eval.specs.Script.{body_named}
use Rattle.gb_eval.specs.Eval.{value_among}
use Rattle.gb_goal.specs.Scope.{Declarations}

-- a fraction that is the same by cross products
pub record IsFraction (a : Fraction) (m : Meaning) : Type 0 where
  pub meant : Fraction
  pub is : m ≡ fraction meant
  pub above : 0 < meant.1
  pub found_above : 0 < a.1
  pub same : IsSame a meant

-- a distribution with this denominator, which gives each function the same expectation, so each value the same weight
pub record IsTable (n : ℕ) (l : WeightedList Value) (m : Meaning) (k : ℕ) : Type 0 where
  pub meant : WeightedList Value
  pub is : m ≡ weights meant
  pub same : (f : Value → ℕ) → mass l f ≡ mass meant f
  pub total : n ≡ k

-- what is found is this meaning, over the denominator of its tree
abbrev pub IsFound : Finding → Meaning → ℕ → Type 0
IsFound (finding.value v) m k = m ≡ finite v
IsFound (finding.whole n) m k = m ≡ whole n
IsFound (finding.fraction a) m k = IsFraction a m
IsFound (finding.table n l) m k = IsTable n l m k

-- what a term comes to is what it means; nothing is said where evaluation stops
abbrev pub Means : Comes Finding → Meaning → ℕ → Type 0
Means (found x) m k = IsFound x m k
Means unknown m k = Unit {0}
Means (overflow o) m k = Unit {0}

-- what a variable stands for is this meaning; a memory is none
abbrev pub Stands : Bound → Meaning → Type 0
Stands (to.Value v) m = IsFound (finding.value v) m 1
Stands (to.Whole n) m = IsFound (finding.whole n) m 1
Stands (to.Fraction a) m = IsFound (finding.fraction a) m 1
Stands (to.Memory hs) m = ⊥

-- the binder binds what the variable stands for, or a memory that gives variables these values
abbrev pub BindsOne : Types → Binding → Bound → Type 0
BindsOne t (value m) b = Stands b m
BindsOne t (memory m) (to.Memory hs) = IsHeldBy t m hs
BindsOne t _ b = ⊥

-- and so do the innermost ones of these
abbrev pub Binds : Types → List Binding → List Bound → Type 0
Binds t xs [] = Unit {0}
Binds t [] (b ∷ bs) = ⊥
Binds t (x ∷ xs) (b ∷ bs) = BindsOne t x b × Binds t xs bs

-- arguments stand for these meanings
abbrev pub AreMeant : List Bound → List Meaning → Type 0
AreMeant [] [] = Unit {0}
AreMeant (b ∷ bs) (m ∷ ms) = Stands b m × AreMeant bs ms
AreMeant _ _ = ⊥

-- a denominator that is found is this one, above 0
abbrev pub IsDenominator : Comes ℕ → ℕ → Type 0
IsDenominator (found n) k = (n ≡ k) × (0 < n)
IsDenominator _ k = Unit {0}

-- What an operator comes to at arguments is its result at what they stand for, over its denominator.
pub record IsOperator (f : Function) (result : List Meaning → Meaning) (k : ℕ) : Type 0 where
  pub results : (bs : List Bound) (ms : List Meaning) → AreMeant bs ms → Means (f.comes bs) (result ms) k
  pub total : IsDenominator f.total k

-- each operator of the script is that of the setting
abbrev pub AreOperators : Setting → Operators → Type 0
AreOperators g ops = (n : Name) → IsOperator (ops n) (g.operator n) (g.denominator n)

-- a read means what is given for it; one of a memory that a binder binds is of a type all values of which memories give it
abbrev pub is_given : Setting → State → List ReadValue → Read → Ty → Type 0
is_given g s reads (Program x (side.Bound i)) ty = IsReadable g.types x ty
is_given g s reads r ty = Means (value_among reads r) (read_at g r ty s) 1

abbrev pub is_given_at : Setting → State → List ReadValue → Head → Ty → Type 0
is_given_at g s reads (head.Read r) ty = is_given g s reads r ty
is_given_at g s reads _ ty = Unit {0}

-- each read of a term, at the type that it is read with, means what is given for it
abbrev mutual
  pub AreGiven : Setting → State → List ReadValue → Term → Type 0
  AreGiven g s reads (Term' p (more_of-Head h end_of-Head) n ts ty) = is_given_at g s reads h ty × AllGiven g s reads ts

  pub AllGiven : {n : _} → Setting → State → List ReadValue → Row_of-Term n → Type 0
  AllGiven g s reads end_of-Term = Unit {0}
  AllGiven g s reads (more_of-Term t ts) = AreGiven g s reads t × AllGiven g s reads ts

-- What is said of quantifiers over memories in a term is what they say: whether the body is true in each memory, in some memory.
abbrev pub is_judged_at : Setting → Speaks → Term → Head → List mt.Part → Type 0
is_judged_at g j t head.AllMemory xs = (s : State) → (j.judged t s ≡ true) ↔ ((m : Memory) → truth ((mt.last_of xs).meaning (under s (memory m))) ≡ true)
is_judged_at g j t head.SomeMemory xs = (s : State) → (j.judged t s ≡ true) ↔ ((m : Memory) × (truth ((mt.last_of xs).meaning (under s (memory m))) ≡ true))
is_judged_at g j t _ xs = Unit {0}

abbrev mutual
  pub AreJudged : Setting → Speaks → Term → Type 0
  AreJudged g j (Term' p (more_of-Head h end_of-Head) n ts ty) = is_judged_at g j (Term' p (more_of-Head h end_of-Head) n ts ty) h (mt.parts g j ts) × AllJudged g j ts

  pub AllJudged : {n : _} → Setting → Speaks → Row_of-Term n → Type 0
  AllJudged g j end_of-Term = Unit {0}
  AllJudged g j (more_of-Term t ts) = AreJudged g j t × AllJudged g j ts

-- An operator means its body, in which its parameters are bound, the last one innermost. No quantifier over memories stands in it.
pub record IsBody (g : Setting) (n : Name) (t : Term) : Type 0 where
  pub plain : IsPlain t
  pub result : (ms : List Meaning) → g.operator n ms ≡ val g quiet t (record closed { bound = reverse (map value ms) })
  pub total : g.denominator n ≡ denominator g t

-- the operators with bodies mean these
abbrev pub AreBodies : Setting → Declarations → Type 0
AreBodies g ds = (n : Name) (t : Term) → body_named ds n ≡ Some t → IsBody g n t
