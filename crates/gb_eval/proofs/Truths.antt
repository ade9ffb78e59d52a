-- Findings and truths that mean what a form does.
use Rattle.std.proofs.Common.{◌≡◌, ℕ, zero, suc, Bool, true, false, not, ◌&&◌, ◌||◌, ◌==◌, if◌then◌else◌, Option, Some, None, List, refl, sym, ap, ◌∙◌, subst}
use Rattle.std.proofs.lemmas.Bool.Decides.{Decides-eqb}
use Rattle.gb_core.specs.declared.value.Value.TheVariants.{Num, Many', rolls-Num}
use Rattle.gb_core.specs.declared.value.Value.TheOpen as v
use Rattle.gb_core.specs.declared.value.Value.TheViews.{out-Value, out-roll-Value}
use Rattle.gb_core.specs.Numbering.{number_in, number_of}
use Rattle.gb_terms.specs.declared.op.Op.TheVariants as op
use Rattle.gb_dist.specs.declared.whole.Overflow.{Overflow}
use Rattle.gb_dist.specs.Operations.{Operation, first_overflow}
use Rattle.gb_meaning.specs.Setting.{Meaning}
use Rattle.gb_meaning.specs.Meanings as m
use Rattle.gb_meaning.specs.Operators as o
use Rattle.gb_meaning.specs.Terms.{each_below, some_below}
use Rattle.gb_eval.specs.Findings.{Finding, Comes, ◌>>=◌, unless, after, of_truth, truth_in, truth_of_number, over}
use Rattle.gb_eval.specs.Findings.Finding.{value, whole, fraction, table}
use Rattle.gb_eval.specs.Findings.Comes.{found, unknown, overflow}
use Rattle.gb_eval.specs.Operators.{connective}
use Rattle.gb_eval.specs.Eval.{next_truth}
use Rattle.gb_eval.specs.Meant.{IsFound, Means}

-- what is found has a property
abbrev pub Finds : {A : Type 0} → (A → Type 0) → Comes A → Type 0
Finds P (found x) = P x
Finds P unknown = Unit {0}
Finds P (overflow o) = Unit {0}

pub then_finds : {A B : Type 0} (P : A → Type 0) (Q : B → Type 0) (c : Comes A) (k : A → Comes B) → Finds P c → ((x : A) → c ≡ found x → P x → Finds Q (k x)) → Finds Q (c >>= k)
then_finds P Q (found x) k h f = f x refl h
then_finds P Q unknown k h f = tt
then_finds P Q (overflow o) k h f = tt

pub unless_finds : {A : Type 0} (P : A → Type 0) (o : Option Overflow) (x : A) → P x → Finds P (unless o x)
unless_finds P None x h = h
unless_finds P (Some o) x h = tt

pub after_finds : {A : Type 0} (P : A → Type 0) (os : List Operation) (x : A) → P x → Finds P (after os x)
after_finds P os x h = unless_finds P (first_overflow os) x h

pub if_finds : {A : Type 0} (P : A → Type 0) (b : Bool) (c : Comes A) → (b ≡ true → Finds P c) → Finds P (if b then c else unknown)
if_finds P true c f = f refl
if_finds P false c f = tt

-- what is found means what a part does
pub means_finds : (c : Comes Finding) (x : Meaning) (k : ℕ) → Means c x k → Finds (λ f. IsFound f x k) c
means_finds (found f) x k h = h
means_finds unknown x k h = tt
means_finds (overflow o) x k h = tt

pub finds_means : (c : Comes Finding) (x : Meaning) (k : ℕ) → Finds (λ f. IsFound f x k) c → Means c x k
finds_means (found f) x k h = h
finds_means unknown x k h = tt
finds_means (overflow o) x k h = tt

-- a truth that is found is the truth
abbrev pub IsTruth : Comes Bool → Bool → Type 0
IsTruth c b = Finds (λ d. b ≡ d) c

pub number_is : (n : ℕ) → number_of (Num n) ≡ n
number_is n = ap number_in (ap out-Value (sym (rolls-Num n)) ∙ out-roll-Value (v.Num n))

number_truth : (n : ℕ) (b c : Bool) → b ≡ (n == 0) → c ≡ (n == 1) → IsTruth (if b then found false else if c then found true else unknown) (n == 1)
number_truth n true c e f = one_of n (sym e)
  where
    one_of : (n : ℕ) → (n == 0) ≡ true → (n == 1) ≡ false
    one_of n h = ap (λ k. k == 1) ((Decides-eqb n 0).0 h)
number_truth n false true e f = sym f
number_truth n false false e f = tt

pub truth_meant : (f : Finding) (x : Meaning) (k : ℕ) → IsFound f x k → IsTruth (truth_in f) (m.truth x)
truth_meant (value (Num n)) x k h =
    subst (λ y. IsTruth (truth_of_number n) (m.truth y)) (sym h)
    (subst (λ i. IsTruth (truth_of_number n) (i == 1)) (sym (number_is n)) (number_truth n (n == 0) (n == 1) refl refl))
truth_meant (value (Many' n r)) x k h = tt
truth_meant (whole n) x k h = tt
truth_meant (fraction a) x k h = tt
truth_meant (table n l) x k h = tt

pub comes_truth : (c : Comes Finding) (x : Meaning) (k : ℕ) → Means c x k → IsTruth (c >>= truth_in) (m.truth x)
comes_truth c x k h = then_finds (λ f. IsFound f x k) (λ d. m.truth x ≡ d) c truth_in (means_finds c x k h) (λ f e i. truth_meant f x k i)

pub of_truth_meant : (a b : Bool) (k : ℕ) → b ≡ a → IsFound (of_truth a) (m.of_truth b) k
of_truth_meant true b k h = ap m.of_truth h
of_truth_meant false b k h = ap m.of_truth h

pub answer_meant : (c : Comes Bool) (b : Bool) (k : ℕ) → IsTruth c b → Means (c >>= λ a. found (of_truth a)) (m.of_truth b) k
answer_meant (found a) b k h = of_truth_meant a b k h
answer_meant unknown b k h = tt
answer_meant (overflow o) b k h = tt

-- connectives

pub and_meant : (c d : Comes Bool) (a b : Bool) → IsTruth c a → IsTruth d b → IsTruth (connective op.And c d) (a && b)
and_meant unknown d a b h k = tt
and_meant (overflow o) d a b h k = tt
and_meant (found true) (found e) a b h k = λ i. h i && k i
and_meant (found true) unknown a b h k = tt
and_meant (found true) (overflow o) a b h k = tt
and_meant (found false) d a b h k = ap (λ z. z && b) h

pub or_meant : (c d : Comes Bool) (a b : Bool) → IsTruth c a → IsTruth d b → IsTruth (connective op.Or c d) (a || b)
or_meant unknown d a b h k = tt
or_meant (overflow o) d a b h k = tt
or_meant (found false) (found e) a b h k = λ i. h i || k i
or_meant (found false) unknown a b h k = tt
or_meant (found false) (overflow o) a b h k = tt
or_meant (found true) d a b h k = ap (λ z. z || b) h

pub implies_meant : (c d : Comes Bool) (a b : Bool) → IsTruth c a → IsTruth d b → IsTruth (connective op.Implies c d) (not a || b)
implies_meant unknown d a b h k = tt
implies_meant (overflow o) d a b h k = tt
implies_meant (found true) (found e) a b h k = λ i. not (h i) || k i
implies_meant (found true) unknown a b h k = tt
implies_meant (found true) (overflow o) a b h k = tt
implies_meant (found false) d a b h k = ap (λ z. not z || b) h

pub iff_meant : (c d : Comes Bool) (a b : Bool) → IsTruth c a → IsTruth d b → IsTruth (connective op.Iff c d) (o.alike a b)
iff_meant unknown d a b h k = tt
iff_meant (overflow o) d a b h k = tt
iff_meant (found true) (found e) a b h k = λ i. o.alike (h i) (k i)
iff_meant (found false) (found e) a b h k = λ i. o.alike (h i) (k i)
iff_meant (found true) unknown a b h k = tt
iff_meant (found true) (overflow o) a b h k = tt
iff_meant (found false) unknown a b h k = tt
iff_meant (found false) (overflow o) a b h k = tt

-- quantifiers

pub each_meant : (n : ℕ) (f : ℕ → Comes Bool) (e : ℕ → Bool) → ((i : ℕ) → IsTruth (f i) (e i)) → IsTruth (over (next_truth false f) true n) (each_below n e)
each_meant zero f e h = refl
each_meant (suc n) f e h =
    then_finds (λ d. each_below n e ≡ d) (λ d. (each_below n e && e n) ≡ d) (over (next_truth false f) true n) (λ b. next_truth false f b n) (each_meant n f e h) (λ b q k. step b k)
  where
    step : (b : Bool) → each_below n e ≡ b → IsTruth (next_truth false f b n) (each_below n e && e n)
    step true k = subst (λ z. IsTruth (f n) (z && e n)) (sym k) (h n)
    step false k = ap (λ z. z && e n) k

pub some_meant : (n : ℕ) (f : ℕ → Comes Bool) (e : ℕ → Bool) → ((i : ℕ) → IsTruth (f i) (e i)) → IsTruth (over (next_truth true f) false n) (some_below n e)
some_meant zero f e h = refl
some_meant (suc n) f e h =
    then_finds (λ d. some_below n e ≡ d) (λ d. (some_below n e || e n) ≡ d) (over (next_truth true f) false n) (λ b. next_truth true f b n) (some_meant n f e h) (λ b q k. step b k)
  where
    step : (b : Bool) → some_below n e ≡ b → IsTruth (next_truth true f b n) (some_below n e || e n)
    step false k = subst (λ z. IsTruth (f n) (z || e n)) (sym k) (h n)
    step true k = ap (λ z. z || e n) k
