-- What is the same in two settings where the values of modules' globals are paired.
use Rattle.std.specs.Prelude.{◌≡◌, ◌<◌, ℕ, true, List, [], ◌∷◌, Option, Some}
use Rattle.gb_core.specs.declared.ty.Ty.{Ty, Row_of-Ty, end_of-Ty, more_of-Ty}
use Rattle.gb_core.specs.declared.ty.Ty.TheVariants as ty
use Rattle.gb_core.specs.declared.value.Value.{Value}
use Rattle.gb_core.specs.declared.value.Value.TheVariants.{Many}
use Rattle.gb_core.specs.Numbering.{parts_of}
use Rattle.gb_dist.specs.WeightedList.{WeightedList}
use Rattle.gb_terms.specs.declared.op.Read.{Read}
use Rattle.gb_terms.specs.declared.op.Read.TheVariants.{Program}
use Rattle.gb_terms.specs.declared.op.Side.TheVariants.{Bound}
use Rattle.gb_meaning.specs.Values.{Types, has}
use Rattle.gb_meaning.specs.Setting.{Meaning, Setting}
use Rattle.gb_meaning.specs.Setting.Meaning.{finite, whole, fraction, weights}
use Rattle.gb_meaning.specs.Meanings.{of_number}
use Rattle.gb_meaning.specs.Memory.{Memory, read}
use Rattle.gb_meaning.specs.Operators.{entry_of, outcome_type}
use Rattle.gb_meaning.specs.State.{State, Binding, meaning_in, memory_in}
use Rattle.gb_meaning.specs.Terms.{read_at}
use Rattle.gb_meaning.specs.Globs.{IsGlobless}
use Rattle.gb_labels.specs.Reads.{Vars}
use Rattle.gb_laws.specs.Meant.{IsInt, IsReal, IsOfDistributions}
use Rattle.gb_laws.specs.Typing.{Binder}
use Rattle.gb_laws.specs.Typing.Binder.{value, index, memory, program}
use Rattle.gb_closing_laws.specs.Pairs.{Pairs, IsPair}

-- each key of a map, with its value, is related to a key of another map, with its value
abbrev pub IsInto : (Value → Value → Type 0) → (Value → Value → Type 0) → Value → Value → Type 0
IsInto K X v w = (i x : Value) → entry_of (parts_of v) i ≡ x ∷ [] → (j : Value) × (y : Value) × (entry_of (parts_of w) j ≡ y ∷ []) × K i j × X x y

-- and the other way round
abbrev pub KeyByKey : (Value → Value → Type 0) → (Value → Value → Type 0) → Value → Value → Type 0
KeyByKey K X v w = IsInto K X v w × IsInto (λ j i. K i j) (λ y x. X x y) w v

module _ (t u : Types) (P : Pairs) where
  abbrev mutual
    -- Values of modules' globals are related where they are a pair, tuples and options part by part, maps key by key, and values of
    -- types that speak of no such globals where they are equal.
    pub Related : Ty → Value → Value → Type 0
    Related (ty.Glob m) v w = IsPair (P m) v w
    Related (ty.Tuple' n ts) v w = (vs : List Value) × (ws : List Value) × (v ≡ Many vs) × (w ≡ Many ws) × AllRelated ts vs ws
    Related (ty.Opt' p x) v w = (vs : List Value) × (ws : List Value) × (v ≡ Many vs) × (w ≡ Many ws) × OptionRelated x vs ws
    Related (ty.Map' p k q x) v w = (has t (ty.Map' p k q x) v ≡ true) × (has u (ty.Map' p k q x) w ≡ true) × KeyByKey (BoxRelated k) (BoxRelated x) v w
    Related a v w = IsGlobless a × (has t a v ≡ true) × (v ≡ w)

    pub AllRelated : {n : _} → Row_of-Ty n → List Value → List Value → Type 0
    AllRelated end_of-Ty [] [] = Unit {0}
    AllRelated (more_of-Ty a r) (v ∷ vs) (w ∷ ws) = Related a v w × AllRelated r vs ws
    AllRelated _ _ _ = ⊥

    pub OptionRelated : {n : _} → Row_of-Ty n → List Value → List Value → Type 0
    OptionRelated r [] [] = Unit {0}
    OptionRelated (more_of-Ty a r) (v ∷ []) (w ∷ []) = Related a v w
    OptionRelated _ _ _ = ⊥

    pub BoxRelated : {n : _} → Row_of-Ty n → Value → Value → Type 0
    BoxRelated end_of-Ty v w = ⊥
    BoxRelated (more_of-Ty a r) v w = Related a v w

  -- outcomes of a type one by one, with equal weights
  abbrev pub WeightsRelated : Ty → WeightedList Value → WeightedList Value → Type 0
  WeightsRelated a [] [] = Unit {0}
  WeightsRelated a (x ∷ d) (y ∷ e) = (Related a x.0 y.0 × (x.1 ≡ y.1)) × WeightsRelated a d e
  WeightsRelated a _ _ = ⊥

  -- meanings of a type
  abbrev pub MeaningRelated : Ty → Meaning → Meaning → Type 0
  MeaningRelated a (finite v) (finite w) = Related a v w
  MeaningRelated a (whole m) (whole n) = IsInt a × (m ≡ n)
  MeaningRelated a (fraction x) (fraction y) = IsReal a × (0 < x.1) × (x ≡ y)
  MeaningRelated a (weights d) (weights e) = IsOfDistributions a × WeightsRelated (outcome_type a) d e
  MeaningRelated a _ _ = ⊥

  -- what these variables have in two memories
  abbrev pub ReadsRelated : Vars → Memory → Memory → Type 0
  ReadsRelated [] m n = Unit {0}
  ReadsRelated (x ∷ xs) m n = Related x.ty (read t m x.var x.ty) (read u n x.var x.ty) × ReadsRelated xs m n

  -- what a binder binds: values of its type, one number, or memories, by what is read of them
  abbrev pub BindingRelated : Binder → Vars → Binding → Binding → Type 0
  BindingRelated (value a) vs x y = MeaningRelated a (meaning_in x) (meaning_in y)
  BindingRelated (index q) vs x y = (i : ℕ) × (i < q) × (meaning_in x ≡ of_number i) × (meaning_in y ≡ of_number i)
  BindingRelated memory vs x y = ReadsRelated vs (memory_in x) (memory_in y)
  BindingRelated program vs x y = Unit {0}

  -- by what is read of each, the innermost first
  abbrev pub BoundRelated : List Binder → List Vars → List Binding → List Binding → Type 0
  BoundRelated [] vss xs ys = Unit {0}
  BoundRelated (b ∷ bs) (vs ∷ vss) (x ∷ xs) (y ∷ ys) = BindingRelated b vs x y × BoundRelated bs vss xs ys
  BoundRelated (b ∷ bs) _ _ _ = ⊥

-- the types at which variables are read, each at one at most
abbrev pub ReadTypes : Type 0
ReadTypes = Read → Option Ty

-- a read is in Q with its type, unless it is one of a bound memory
abbrev pub ReadIs : (Read → Ty → Type 0) → Read → Ty → Type 0
ReadIs Q (Program x (Bound i)) a = Unit {0}
ReadIs Q r a = Q r a

-- States whose variables and bound variables have related values; of bound memories, what is read of them.
pub record StateRelated (g h : Setting) (P : Pairs) (T : ReadTypes) (bs : List Binder) (vss : List Vars) (s r : State) : Type 0 where
  pub reads : (x : Read) (a : Ty) → T x ≡ Some a → ReadIs (λ y b. MeaningRelated g.types h.types P b (read_at g y b s) (read_at h y b r)) x a
  pub bound : BoundRelated g.types h.types P bs vss s.bound r.bound
