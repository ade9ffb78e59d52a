-- Contexts of parts of a conclusion, in states with more variables and memories.
use Rattle.std.proofs.Common.{◌≡◌, ℕ, ◌+◌, ◌==◌, ◌<◌, Bool, true, false, if◌then◌else◌, Some, List, [], ◌∷◌, ◌++◌, refl, ap, sym, ◌∙◌, arith}
use Rattle.std.proofs.lemmas.Bool.Decides.{Decides-eqb}
use Rattle.gb_core.specs.declared.ty.Ty.{Ty}
use Rattle.gb_core.specs.declared.value.Value.{Value}
use Rattle.gb_terms.specs.declared.op.Side.{Side}
use Rattle.gb_terms.specs.declared.op.Side.TheVariants as side
use Rattle.gb_terms.specs.declared.op.Read.{Read}
use Rattle.gb_terms.specs.declared.op.Read.TheVariants.{Logical, Program}
use Rattle.gb_terms.specs.declared.term.Term.{Term}
use Rattle.gb_walk.specs.declared.change.Change.TheVariants.{OfBound, ToSide}
use Rattle.gb_walk.specs.Change.{Changes, under_binder}
use Rattle.gb_meaning.specs.Values.{has}
use Rattle.gb_meaning.specs.Memory.{Memory, read}
use Rattle.gb_meaning.specs.Setting.{Meaning, Setting}
use Rattle.gb_meaning.specs.Setting.Meaning.{finite}
use Rattle.gb_meaning.specs.State.{State, under}
use Rattle.gb_meaning.specs.State.Binding.{value, memory}
use Rattle.gb_meaning.specs.Terms.{Speaks, read_at}
use Rattle.gb_smt_laws.specs.Reading.{Variables, no_variables, Reading, inner, AreHeld, HasTypedValues, IsReadingOf}
use Rattle.gb_smt_laws.specs.Closing.{AreAssumed}
use Rattle.gb_smt_laws.proofs.Equations.{some_some}
use Rattle.gb_smt_laws.proofs.Finding.{variable}
use Rattle.gb_smt_laws.proofs.Splitting.{Opening, opens_variable, opens_memory}

-- a reading and a state that have these logical variables and memories
pub record Later (n m : ℕ) (W : Reading) (s : State) (V : Reading) (z : State) : Type 0 where
  pub logical : (i : ℕ) → i < n → (V.logical i ≡ W.logical i) × (z.logical i ≡ s.logical i)
  pub named : (i : ℕ) → i < m → (V.memory (side.Memory i) ≡ W.memory (side.Memory i)) × (z.named i ≡ s.named i)
  pub outside : z.bound ≡ []

-- the changes lead from each later state
abbrev pub Opens : ℕ → ℕ → Changes → Reading → Reading → State → State → Type 0
Opens n m cs T W s q = (V : Reading) (z : State) → Later n m W s V z → Opening cs T V z q

-- the hypotheses are assumed in each later state
abbrev pub StayAssumed : Setting → Speaks → ℕ → ℕ → Reading → State → List Term → Type 0
StayAssumed g j n m W s hs = (V : Reading) (z : State) → Later n m W s V z → AreAssumed g j V z hs

at_place : (n i : ℕ) → i < n → (i == n) ≡ false
at_place n i l = step (i == n) refl
  where
    step : (b : Bool) → (i == n) ≡ b → b ≡ false
    step false e = refl
    step true e = let k = (Decides-eqb i n).0 e in absurd (omega (arith, k, l))

same_place : (n : ℕ) → (n == n) ≡ true
same_place n = (Decides-eqb n n).1 refl

-- one logical variable more

abbrev pub reading_with : ℕ → Ty → Reading → Reading
reading_with n u W = record W { logical = λ i. if i == n then Some u else W.logical i }

abbrev pub state_with : ℕ → Meaning → State → State
state_with n x s = record s { logical = λ i. if i == n then x else s.logical i }

-- one memory more

abbrev pub set_at : {A : Type 0} → ℕ → A → (ℕ → A) → ℕ → A
set_at m a f i = if i == m then a else f i

abbrev pub set_side : ℕ → Variables → (Side → Variables) → Side → Variables
set_side m f v (side.Memory i) = if i == m then f else v (side.Memory i)
set_side m f v r = v r

abbrev pub reading_at : ℕ → Variables → Reading → Reading
reading_at m f W = record W { memory = set_side m f W.memory }

abbrev pub state_at : ℕ → Memory → State → State
state_at m c s = record s { named = set_at m c s.named }

module _ (n m : ℕ) (W : Reading) (s : State) (V : Reading) (z : State) where
  before_variable : (u : Ty) (x : Meaning) → Later (n + 1) m (reading_with n u W) (state_with n x s) V z → Later n m W s V z
  before_variable u x l = record { logical = each; named = l.named; outside = l.outside }
    where
      each : (i : ℕ) → i < n → (V.logical i ≡ W.logical i) × (z.logical i ≡ s.logical i)
      each i k =
          let w = l.logical i (omega (arith, k)) in
          (w.0 ∙ ap (λ b. if b then Some u else W.logical i) (at_place n i k), w.1 ∙ ap (λ b. if b then x else s.logical i) (at_place n i k))

  before_memory : (f : Variables) (c : Memory) → Later n (m + 1) (reading_at m f W) (state_at m c s) V z → Later n m W s V z
  before_memory f c l = record { logical = l.logical; named = each; outside = l.outside }
    where
      each : (i : ℕ) → i < m → (V.memory (side.Memory i) ≡ W.memory (side.Memory i)) × (z.named i ≡ s.named i)
      each i k =
          let w = l.named i (omega (arith, k)) in
          (w.0 ∙ ap (λ b. if b then f else W.memory (side.Memory i)) (at_place m i k), w.1 ∙ ap (λ b. if b then c else s.named i) (at_place m i k))

module _ (n m : ℕ) (cs : Changes) (T W : Reading) (s q : State) (o : Opens n m cs T W s q) where
  pub opens_to_variable : (u : Ty) (x : Meaning) →
      Opens (n + 1) m (under_binder cs ++ OfBound 0 (variable n u) ∷ []) (inner no_variables T) (reading_with n u W) (state_with n x s) (under q (value x))
  opens_to_variable u x V z l =
      let w = l.logical n (omega arith) in
      opens_variable cs T V z q (o V z (before_variable n m W s V z u x l)) n u x
      (w.0 ∙ ap (λ b. if b then Some u else W.logical n) (same_place n))
      (w.1 ∙ ap (λ b. if b then x else s.logical n) (same_place n))

  pub opens_to_memory : (f : Variables) (d : Memory) →
      Opens n (m + 1) (under_binder cs ++ ToSide (side.Bound 0) (side.Memory m) ∷ []) (inner f T) (reading_at m f W) (state_at m d s) (under q (memory d))
  opens_to_memory f d V z l =
      let w = l.named m (omega arith) in
      opens_memory cs T V z q (o V z (before_memory n m W s V z f d l)) m f d
      (w.0 ∙ ap (λ b. if b then f else W.memory (side.Memory m)) (same_place m))
      (w.1 ∙ ap (λ b. if b then d else s.named m) (same_place m))

module _ (g : Setting) (j : Speaks) (n m : ℕ) (W : Reading) (s : State) (hs : List Term) (a : StayAssumed g j n m W s hs) where
  pub stay_with_variable : (u : Ty) (x : Meaning) → StayAssumed g j (n + 1) m (reading_with n u W) (state_with n x s) hs
  stay_with_variable u x V z l = a V z (before_variable n m W s V z u x l)

  pub stay_with_memory : (f : Variables) (d : Memory) → StayAssumed g j n (m + 1) (reading_at m f W) (state_at m d s) hs
  stay_with_memory f d V z l = a V z (before_memory n m W s V z f d l)

-- the state itself
pub later_itself : (n m : ℕ) (W : Reading) (s : State) → s.bound ≡ [] → Later n m W s W s
later_itself n m W s o = record { logical = λ i k. (refl, refl); named = λ i k. (refl, refl); outside = o }

module _ (g : Setting) (W : Reading) (s : State) (valid : IsReadingOf g W s) where
  abbrev HasValue : State → Read → Ty → Type 0
  HasValue z r ty = (v : Value) × (read_at g r ty z ≡ finite v) × (has g.types ty v ≡ true)

  values_with_variable : (n : ℕ) (u : Ty) (v : Value) → has g.types u v ≡ true → HasTypedValues g (reading_with n u W) (state_with n (finite v) s)
  values_with_variable n u v h (Logical i) ty k = step (i == n) k
    where
      step : (b : Bool) → (if b then Some u else W.logical i) ≡ Some ty → (w : Value) × ((if b then finite v else s.logical i) ≡ finite w) × (has g.types ty w ≡ true)
      step true e = (v, refl, ap (λ t. has g.types t v) (sym (some_some u ty e)) ∙ h)
      step false e = valid.1 (Logical i) ty e
  values_with_variable n u v h (Program x side.Own) ty k = valid.1 (Program x side.Own) ty k
  values_with_variable n u v h (Program x side.Left) ty k = valid.1 (Program x side.Left) ty k
  values_with_variable n u v h (Program x side.Right) ty k = valid.1 (Program x side.Right) ty k
  values_with_variable n u v h (Program x (side.Memory i)) ty k = valid.1 (Program x (side.Memory i)) ty k
  values_with_variable n u v h (Program x (side.Bound i)) ty k = valid.1 (Program x (side.Bound i)) ty k

  pub valid_with_variable : (n : ℕ) (u : Ty) (v : Value) → has g.types u v ≡ true → IsReadingOf g (reading_with n u W) (state_with n (finite v) s)
  valid_with_variable n u v h = (valid.0, values_with_variable n u v h)

  values_with_memory : (m : ℕ) (f : Variables) (d : Memory) → AreHeld g f → HasTypedValues g (reading_at m f W) (state_at m d s)
  values_with_memory m f d h (Logical i) ty k = valid.1 (Logical i) ty k
  values_with_memory m f d h (Program x side.Own) ty k = valid.1 (Program x side.Own) ty k
  values_with_memory m f d h (Program x side.Left) ty k = valid.1 (Program x side.Left) ty k
  values_with_memory m f d h (Program x side.Right) ty k = valid.1 (Program x side.Right) ty k
  values_with_memory m f d h (Program x (side.Bound i)) ty k = valid.1 (Program x (side.Bound i)) ty k
  values_with_memory m f d h (Program x (side.Memory i)) ty k = step (i == m) k
    where
      step : (b : Bool) → (if b then f else W.memory (side.Memory i)) x ≡ Some ty →
          (w : Value) × (finite (read g.types (if b then d else s.named i) x ty) ≡ finite w) × (has g.types ty w ≡ true)
      step true e = (read g.types d x ty, refl, (h x ty e).1 d)
      step false e = valid.1 (Program x (side.Memory i)) ty e

  pub valid_with_memory : (m : ℕ) (f : Variables) (d : Memory) → AreHeld g f → IsReadingOf g (reading_at m f W) (state_at m d s)
  valid_with_memory m f d h = (valid.0, values_with_memory m f d h)
