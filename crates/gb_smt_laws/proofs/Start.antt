-- The state of a sequent, where a conclusion begins to be split.
use Rattle.std.proofs.Common.{◌≡◌, ℕ, zero, suc, ◌<◌, nat_lt, Bool, true, false, if◌then◌else◌, Some, None, List, [], ◌∷◌, map, length, get_or, refl, ap, sym, ◌∙◌, arith}
use Rattle.std.proofs.lemmas.Bool.{ltb-true}
use Rattle.gb_core.specs.declared.ty.Ty.{Ty}
use Rattle.gb_core.specs.declared.value.Value.{Value}
use Rattle.gb_core.specs.declared.value.Value.TheVariants.{Num}
use Rattle.gb_core.specs.declared.var.Var.{Var}
use Rattle.gb_terms.specs.declared.op.Side.{Side}
use Rattle.gb_terms.specs.declared.op.Side.TheVariants as side
use Rattle.gb_terms.specs.declared.op.Read.{Read}
use Rattle.gb_terms.specs.declared.op.Read.TheVariants.{Logical, Program}
use Rattle.gb_terms.specs.declared.decl.TypedName.{TypedName}
use Rattle.gb_goal.specs.declared.sequent.Sequent.{Sequent}
use Rattle.gb_walk.specs.Raise.{side_raised}
use Rattle.gb_meaning.specs.Values.{Types, has}
use Rattle.gb_meaning.specs.Memory.{Memory, read}
use Rattle.gb_meaning.specs.Setting.{Setting}
use Rattle.gb_meaning.specs.Setting.Meaning.{finite}
use Rattle.gb_meaning.specs.State.{State, meaning_in, memory_of}
use Rattle.gb_meaning.specs.State.Binding.{program}
use Rattle.gb_meaning.specs.Terms.{read_at}
use Rattle.gb_meaning.specs.Holds.{AreValues, context}
use Rattle.gb_smt_laws.specs.Reading.{Variables, no_variables, Reading, IsReadAt, AreHeld, HasTypedValues, IsReadingOf}
use Rattle.gb_smt_laws.specs.Ready.{named_variables, reading_of}
use Rattle.gb_smt_laws.proofs.Equations.{none_some, some_some}
use Rattle.gb_smt_laws.proofs.Kept.{Keeps}
use Rattle.gb_smt_laws.proofs.Splitting.{Opening}
use Rattle.gb_smt_laws.proofs.Later.{Later}

values_typed : (t : Types) (xs : List TypedName) (vs : List Value) → AreValues t (map (λ x. x.ty) xs) vs → (i : ℕ) (ty : Ty) → get_or (map (λ x. Some x.ty) xs) i None ≡ Some ty →
    has t ty (get_or vs i (Num 0)) ≡ true
values_typed t [] vs a i ty e = none_some ty e
values_typed t (x ∷ xs) [] a i ty e = absurd a
values_typed t (x ∷ xs) (v ∷ vs) a zero ty e = ap (λ u. has t u v) (sym (some_some x.ty ty e)) ∙ a.0
values_typed t (x ∷ xs) (v ∷ vs) a (suc i) ty e = values_typed t xs vs a.1 i ty e

-- a place at which something stands
pub place_below : {X Y : Type 0} (f : X → Y) (xs : List X) (i : ℕ) (y : Y) → get_or (map (λ x. Some (f x)) xs) i None ≡ Some y → i < length xs
place_below f [] i y e = none_some y e
place_below f (x ∷ xs) zero y e = omega arith
place_below f (x ∷ xs) (suc i) y e = let k = place_below f xs i y e in omega (arith, k)

-- the variables of the memories of a context
module _ (n : ℕ) (f : ℕ → Variables) (x : Var) (ty : Ty) where
  named_here : (i : ℕ) → named_variables n f (side.Memory i) x ≡ Some ty → (i < n) × (f i x ≡ Some ty)
  named_here i e = step (nat_lt i n) refl e
    where
      step : (b : Bool) → nat_lt i n ≡ b → (if b then f i else no_variables) x ≡ Some ty → (i < n) × (f i x ≡ Some ty)
      step true k e = (ltb-true i n k, e)
      step false k e = none_some ty e

module _ (g : Setting) (q : Sequent) (f : ℕ → Variables) (vs : List Value) (ms : List Memory) where
  abbrev pub T : Reading
  T = reading_of q f

  abbrev pub s : State
  s = context vs ms

  start_values : ((i : ℕ) → AreHeld g (f i)) → AreValues g.types (map (λ x. x.ty) q.logical) vs → HasTypedValues g T s
  start_values held a (Logical i) ty e = (get_or vs i (Num 0), refl, values_typed g.types q.logical vs a i ty e)
  start_values held a (Program x (side.Memory i)) ty e =
      let w = named_here (length q.memories) f x ty i e in
      (read g.types (s.named i) x ty, refl, (held i x ty w.1).1 (s.named i))
  start_values held a (Program x side.Own) ty e = none_some ty e
  start_values held a (Program x side.Left) ty e = none_some ty e
  start_values held a (Program x side.Right) ty e = none_some ty e
  start_values held a (Program x (side.Bound i)) ty e = none_some ty e

  pub start_valid : ((i : ℕ) → AreHeld g (f i)) → AreValues g.types (map (λ x. x.ty) q.logical) vs → IsReadingOf g T s
  start_valid held a = (λ i x ty e. none_some ty e, start_values held a)

  module _ (V : Reading) (z : State) (l : Later (length q.logical) (length q.memories) T s V z) where
    start_logical : (i : ℕ) (ty : Ty) → T.logical i ≡ Some ty → (V.logical i ≡ Some ty) × (z.logical i ≡ s.logical i)
    start_logical i ty e = let w = l.logical i (place_below (λ x. x.ty) q.logical i ty e) in (w.0 ∙ e, w.1)

    start_sides : (x : Var) (r : Side) (ty : Ty) → T.memory r x ≡ Some ty →
        (V.memory r x ≡ Some ty) × (memory_of z r ≡ memory_of s r) × (side_raised 0 r ≡ r)
    start_sides x (side.Memory i) ty e = let w = l.named i (named_here (length q.memories) f x ty i e).0 in (ap (λ v. v x) w.0 ∙ e, w.1, refl)
    start_sides x side.Own ty e = none_some ty e
    start_sides x side.Left ty e = none_some ty e
    start_sides x side.Right ty e = none_some ty e
    start_sides x (side.Bound i) ty e = none_some ty e

    pub start_opens : Opening [] T V z s
    start_opens = record { reads = λ r. refl; logical = start_logical; sides = start_sides; bound = λ i. refl; outside = l.outside }

    start_reads : (r : Read) (ty : Ty) → IsReadAt T r ty → IsReadAt V r ty × (read_at g r ty z ≡ read_at g r ty s)
    start_reads (Logical i) ty e = start_logical i ty e
    start_reads (Program x r) ty e = let w = start_sides x r ty e in (w.0, ap (λ m. finite (read g.types m x ty)) w.1)

    pub start_keeps : Keeps g T V s z
    start_keeps = record { reads = start_reads; bound = λ i. ap (λ bs. meaning_in (get_or bs i program)) l.outside }
