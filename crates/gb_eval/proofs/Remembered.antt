-- Quantifiers over memories: the memories in which variables have the values of a place.
use Rattle.std.proofs.Common.{◌≡◌, ◌⊎◌, inl, inr, ℕ, zero, suc, ◌<◌, Bool, true, false, not, ◌&&◌, List, [], ◌∷◌, map, refl, sym, ap, ◌∙◌, subst, below_more, arith}
use Rattle.std.proofs.lemmas.Bool.{false≢true, and_parts, and_from}
use Rattle.gb_core.specs.declared.ty.Ty.{Ty}
use Rattle.gb_core.specs.declared.ty.Ty.TheVariants.{Tuple, rolls-Tuple}
use Rattle.gb_core.specs.declared.ty.Ty.TheOpen as layer
use Rattle.gb_core.specs.declared.ty.Ty.TheFolds.{fold-roll-Ty}
use Rattle.gb_core.specs.declared.value.Value.{Value}
use Rattle.gb_core.specs.declared.value.Value.TheVariants.{Many}
use Rattle.gb_core.specs.declared.value.Card.TheVariants.{Exact}
use Rattle.gb_core.specs.Numbering.{Numbering, is_many_in, is_tuple, parts_in, parts_of, tuples}
use Rattle.gb_core.specs.Types.{all_true, card_of, finite_step, is_finite, numbering, size_of, value_at}
use Rattle.gb_core.proofs.Equations.{numbering-Tuple}
use Rattle.gb_core.proofs.Lawful.{out-Many}
use Rattle.gb_core.proofs.Orders.{lawful}
use Rattle.gb_core.proofs.Steps.{factors}
use Rattle.gb_meaning.specs.Memory.{Memory}
use Rattle.gb_meaning.specs.Values.{Types}
use Rattle.gb_meaning.proofs.Types.{values_finite}
use Rattle.gb_walk.specs.Clash.{Exclusions}
use Rattle.gb_labels.specs.Reads.{Vars, are_free}
use Rattle.gb_labels.specs.Memories.{AreKeptApart, AreOf, AreReadable, HaveValues, read_all}
use Rattle.gb_labels.proofs.Memories.{of_types, exist}
use Rattle.gb_eval.specs.Findings.{Comes, ◌>>=◌, over}
use Rattle.gb_eval.specs.Findings.Comes.{found, unknown, overflow}
use Rattle.gb_eval.specs.Eval.{memories_of, next_truth}
use Rattle.gb_eval.proofs.Tables.{exact, exact_type_finite}

-- what is tried in order

step_says : (d b : Bool) (f : ℕ → Comes Bool) (n : ℕ) → next_truth d f b n ≡ found (not d) → (b ≡ not d) × (f n ≡ found (not d))
step_says true true f n h = absurd (cc)
step_says true false f n h = (refl, h)
step_says false true f n h = (refl, h)
step_says false false f n h = absurd (cc)

step_decides : (d b : Bool) (f : ℕ → Comes Bool) (n : ℕ) → next_truth d f b n ≡ found d → (b ≡ d) ⊎ ((b ≡ not d) × (f n ≡ found d))
step_decides true true f n h = inl refl
step_decides true false f n h = inr (refl, h)
step_decides false true f n h = inr (refl, h)
step_decides false false f n h = inl refl

not_itself : (d : Bool) → found (not d) ≡ found d → ⊥
not_itself true h = cc
not_itself false h = cc

-- where none decides, each says the other truth
pub each_says : (d : Bool) (f : ℕ → Comes Bool) (n : ℕ) → over (next_truth d f) (not d) n ≡ found (not d) → (i : ℕ) → i < n → f i ≡ found (not d)
each_says d f zero h i l = absurd (omega arith)
each_says d f (suc n) h i l = by (over (next_truth d f) (not d) n) refl (each_says d f n) h
  where
    by : (c : Comes Bool) → over (next_truth d f) (not d) n ≡ c → (over (next_truth d f) (not d) n ≡ found (not d) → (k : ℕ) → k < n → f k ≡ found (not d)) → (c >>= λ b. next_truth d f b n) ≡ found (not d) → f i ≡ found (not d)
    by unknown e before k = absurd (cc)
    by (overflow o) e before k = absurd (cc)
    by (found b) e before k =
        let s = step_says d b f n k in
        below_more (λ m. f m ≡ found (not d)) n (before (e ∙ ap found s.0)) s.1 i (omega arith)

-- what is decided is decided somewhere
pub one_says : (d : Bool) (f : ℕ → Comes Bool) (n : ℕ) → over (next_truth d f) (not d) n ≡ found d → (i : ℕ) × (i < n) × (f i ≡ found d)
one_says d f zero h = absurd (not_itself d h)
one_says d f (suc n) h = by (over (next_truth d f) (not d) n) refl (one_says d f n) h
  where
    by : (c : Comes Bool) → over (next_truth d f) (not d) n ≡ c → (over (next_truth d f) (not d) n ≡ found d → (i : ℕ) × (i < n) × (f i ≡ found d)) → (c >>= λ b. next_truth d f b n) ≡ found d → (i : ℕ) × (i < suc n) × (f i ≡ found d)
    by unknown e before k = absurd (cc)
    by (overflow o) e before k = absurd (cc)
    by (found b) e before k = decided (step_decides d b f n k)
      where
        decided : (b ≡ d) ⊎ ((b ≡ not d) × (f n ≡ found d)) → (i : ℕ) × (i < suc n) × (f i ≡ found d)
        decided (inl q) = let one = before (e ∙ ap found q) in let l = one.1 in (one.0, omega arith, one.2)
        decided (inr q) = (n, omega arith, q.1)

-- variables and values of tuples

finite-Tuple : (ts : List Ty) → is_finite (Tuple ts) ≡ all_true (map is_finite ts)
finite-Tuple ts = ap is_finite (sym (rolls-Tuple ts)) ∙ fold-roll-Ty Bool finite_step (layer.Tuple ts)

module _ (t : Types) where
  have_values : (xs : Vars) → all_true (map is_finite (map (λ x. x.ty) xs)) ≡ true → 0 < tuples (map numbering (map (λ x. x.ty) xs)) → HaveValues t xs
  have_values [] f h = tt
  have_values (x ∷ xs) f h =
      let p = and_parts (is_finite x.ty) (all_true (map is_finite (map (λ y. y.ty) xs))) f in
      let q = factors (size_of x.ty) (tuples (map numbering (map (λ y. y.ty) xs))) 0 h in
      (subst (λ (z : Numbering). 0 < z.size) (sym (values_finite t x.ty p.0)) q.0, have_values xs p.1 q.1)

  tuple_of_values : (xs : Vars) (vs : List Value) → all_true (map is_finite (map (λ x. x.ty) xs)) ≡ true → AreOf t xs vs → is_tuple (map numbering (map (λ x. x.ty) xs)) vs ≡ true
  tuple_of_values [] [] f a = refl
  tuple_of_values [] (v ∷ vs) f a = absurd a
  tuple_of_values (x ∷ xs) [] f a = absurd a
  tuple_of_values (x ∷ xs) (v ∷ vs) f a =
      let p = and_parts (is_finite x.ty) (all_true (map is_finite (map (λ y. y.ty) xs))) f in
      and_from ((numbering x.ty).has v) (is_tuple (map numbering (map (λ y. y.ty) xs)) vs) (ap (λ (z : Numbering). z.has v) (sym (values_finite t x.ty p.0)) ∙ a.0) (tuple_of_values xs vs p.1 a.1)

  values_of_tuple : (xs : Vars) (vs : List Value) → all_true (map is_finite (map (λ x. x.ty) xs)) ≡ true → is_tuple (map numbering (map (λ x. x.ty) xs)) vs ≡ true → AreOf t xs vs
  values_of_tuple [] [] f h = tt
  values_of_tuple [] (v ∷ vs) f h = absurd (false≢true h)
  values_of_tuple (x ∷ xs) [] f h = absurd (false≢true h)
  values_of_tuple (x ∷ xs) (v ∷ vs) f h =
      let p = and_parts (is_finite x.ty) (all_true (map is_finite (map (λ y. y.ty) xs))) f in
      let q = and_parts ((numbering x.ty).has v) (is_tuple (map numbering (map (λ y. y.ty) xs)) vs) h in
      (ap (λ (z : Numbering). z.has v) (values_finite t x.ty p.0) ∙ q.0, values_of_tuple xs vs p.1 q.1)

  -- the places of memories

  module _ (es : Exclusions) (apart : AreKeptApart es t) (xs : Vars) (free : are_free es xs ≡ true) (readable : AreReadable t xs) (n : ℕ) (c : card_of (memories_of xs) ≡ Exact n) (some : 0 < n) where
    abbrev tys : List Ty
    tys = map (λ x. x.ty) xs

    finite : all_true (map is_finite tys) ≡ true
    finite = sym (finite-Tuple tys) ∙ exact_type_finite (memories_of xs) n c

    number : n ≡ tuples (map numbering tys)
    number = (exact t (memories_of xs) n c).1 ∙ ap (λ (z : Numbering). z.size) (numbering-Tuple tys)

    size_is : n ≡ (numbering (memories_of xs)).size
    size_is = (exact t (memories_of xs) n c).1

    has_many : (vs : List Value) → is_tuple (map numbering tys) vs ≡ true → (numbering (memories_of xs)).has (Many vs) ≡ true
    has_many vs h = ap (λ (z : Numbering). z.has (Many vs)) (numbering-Tuple tys) ∙ ap (λ o. is_many_in o && is_tuple (map numbering tys) (parts_in o)) (out-Many vs) ∙ h

    -- each memory is one of a place
    pub place_of_memory : (m : Memory) → (i : ℕ) × (i < n) × (parts_of (value_at (memories_of xs) i) ≡ read_all t m xs)
    place_of_memory m =
        let vs = read_all t m xs in
        let l = lawful (memories_of xs) in
        let h = has_many vs (tuple_of_values xs vs finite (of_types t m xs readable (have_values xs finite (subst (λ k. 0 < k) number some)))) in (
          (numbering (memories_of xs)).place (Many vs),
          subst (λ k. (numbering (memories_of xs)).place (Many vs) < k) (sym size_is) (l.below (Many vs) h),
          ap parts_of (l.at_place (Many vs) h) ∙ ap parts_in (out-Many vs),
        )

    -- each place is one of a memory
    pub memory_of_place : (i : ℕ) → i < n → (m : Memory) × (parts_of (value_at (memories_of xs) i) ≡ read_all t m xs)
    memory_of_place i b =
        let v = value_at (memories_of xs) i in
        let h = (lawful (memories_of xs)).has_at i (subst (λ k. i < k) size_is b) in
        let q = sym (ap (λ (z : Numbering). z.has v) (numbering-Tuple tys)) ∙ h in
        let some_memory = exist es t apart xs (parts_of v) free readable (values_of_tuple xs (parts_of v) finite (and_parts _ (is_tuple (map numbering tys) (parts_of v)) q).1) in
        (some_memory.0, sym some_memory.1)
