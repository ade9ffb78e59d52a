-- The state that gives each read of a claim its value.
use Rattle.std.proofs.Common.{◌≡◌, ◌⊎◌, inl, inr, ℕ, zero, suc, ◌+◌, ◌<◌, ◌==◌, Bool, true, false, if◌then◌else◌, Some, List, [], ◌∷◌, get_or, refl, ap, sym, ◌∙◌, arith}
use Rattle.std.specs.List.{AllByRecursion}
use Rattle.std.proofs.lemmas.Bool.{false≢true}
use Rattle.std.proofs.lemmas.Bool.Decides.{Decides-eqb}
use Rattle.gb_core.specs.declared.ty.Ty.{Ty}
use Rattle.gb_core.specs.declared.ty.Ty.TheVariants as ty
use Rattle.gb_core.specs.declared.value.Value.{Value}
use Rattle.gb_core.specs.declared.value.Value.TheVariants.{Num}
use Rattle.gb_core.specs.declared.var.Var.{Var}
use Rattle.gb_core.specs.declared.var.Var.TheVariants as var
use Rattle.gb_terms.specs.declared.op.Side.TheVariants as side
use Rattle.gb_terms.specs.declared.op.Read.{Read}
use Rattle.gb_terms.specs.declared.op.Read.TheVariants.{Logical, Program}
use Rattle.gb_terms.specs.Equal.{read_eq}
use Rattle.gb_terms.proofs.Equality.{read_eq-Decides}
use Rattle.gb_meaning.specs.Names.{Name}
use Rattle.gb_meaning.specs.Values.{Types, has, fit}
use Rattle.gb_meaning.specs.Memory.{Memory, read, write}
use Rattle.gb_meaning.specs.Setting.{Setting}
use Rattle.gb_meaning.specs.Setting.Meaning.{finite}
use Rattle.gb_meaning.specs.State.{State, no_memory}
use Rattle.gb_meaning.specs.Terms.{read_at}
use Rattle.gb_meaning.specs.Holds.{AreValues, context}
use Rattle.gb_meaning.proofs.Numberings.{fit_has}
use Rattle.gb_laws.specs.Finite.{IsFinite, IsInhabited}
use Rattle.gb_laws.specs.Operators.{item}
use Rattle.gb_laws.proofs.Sizes.{fit_in}
use Rattle.gb_closing_laws.specs.Related.{ReadIs}
use Rattle.gb_closing_laws.proofs.Stated.{ReadTys, IsReadIn, with_read, memory_for, memories_for, values_for}
use Rattle.gb_closing_laws.proofs.Memories.{IsLabel, IsApartFrom, read_same, read_other}
use Rattle.gb_closing_laws.proofs.Listing.{IsListed, IsShorter, shorter_other}

-- the read is one of them
abbrev Stands : Read → ReadTys → Type 0
Stands r [] = ⊥
Stands r (q ∷ qs) = (q.0 ≡ r) ⊎ Stands r qs

module _ (t : Types) (inhabited : IsInhabited t) (f : Read → Value) where
  -- the values are of their types, and a read one is that of its variable

  pub are_values : (i : ℕ) (us : List Ty) → AllByRecursion IsFinite us → AreValues t us (values_for t f i us)
  are_values i [] w = tt
  are_values i (u ∷ us) w = (fit_in t inhabited u w.0 (Some (f (Logical i))), are_values (suc i) us w.1)

  value_there : (us : List Ty) (i k : ℕ) (a : Ty) → item us i ≡ Some a → get_or (values_for t f k us) i (Num 0) ≡ fit t a (Some (f (Logical (i + k))))
  value_there [] i k a e = cc
  value_there (u ∷ us) zero k a e = let q : u ≡ a = cc in let z : k ≡ 0 + k = omega arith in λ j. fit t (q j) (Some (f (Logical (z j))))
  value_there (u ∷ us) (suc i) k a e = let z : i + suc k ≡ suc i + k = omega arith in value_there us i (suc k) a e ∙ ap (λ n. fit t a (Some (f (Logical n)))) z

  memory_there : (qs : ReadTys) (n i k : ℕ) → i < n → get_or (memories_for t f qs k n) i no_memory ≡ memory_for t f qs (i + k)
  memory_there qs zero i k l = absurd (omega (arith, l))
  memory_there qs (suc n) zero k l = let z : k ≡ 0 + k = omega arith in ap (memory_for t f qs) z
  memory_there qs (suc n) (suc i) k l = let z : i + suc k ≡ suc i + k = omega arith in memory_there qs n i (suc k) (omega (arith, l)) ∙ ap (memory_for t f qs) z

  module _ (own : Name) (label : (a : Name) → IsLabel t own a) (us : List Ty) (n : ℕ) where
    abbrev Known : Read × Ty → Type 0
    Known q = IsReadIn us n q.0 q.1 × IsShorter own q.0

    apart_from : (x : Var) (i : ℕ) (a : Ty) → Known (Program x (side.Memory i), a) → IsApartFrom t own x
    apart_from (var.Global m x) i a w = shorter_other own m x (side.Memory i) w.1
    apart_from (var.Local x) i a w = tt
    apart_from (var.Glob b) i a w = label b

    glob_typed : (x : Var) (i : ℕ) (a : Ty) → IsReadIn us n (Program x (side.Memory i)) a → (m : Name) → x ≡ var.Glob m → a ≡ ty.Glob m
    glob_typed (var.Global p x) i a w m e = cc
    glob_typed (var.Local x) i a w m e = cc
    glob_typed (var.Glob b) i a w m e = let q : b ≡ m = cc in w.1 ∙ ap ty.Glob q

    below : (x : Var) (i : ℕ) (a : Ty) → IsReadIn us n (Program x (side.Memory i)) a → i < n
    below (var.Global p x) i a w = w
    below (var.Local x) i a w = w
    below (var.Glob b) i a w = w.0

    module _ (x : Var) (j : ℕ) (a : Ty) (known : Known (Program x (side.Memory j), a)) (right : has t a (f (Program x (side.Memory j))) ≡ true) where
      abbrev r : Read
      r = Program x (side.Memory j)

      -- the memory with the read's own value, and with that of another one
      own_value : (m : Memory) (q : Read) → q ≡ r → read t (with_read t f j q m) x a ≡ f r
      own_value m q e =
          ap (λ z. read t (with_read t f j z m) x a) e
          ∙ ap (λ (b : Bool). read t (if b then write t m x (f r) else m) x a) ((Decides-eqb j j).1 refl)
          ∙ read_same t own m x a (apart_from x j a known) (glob_typed x j a known.0) (f r) right

      other_value : (m : Memory) (q : Read) (b : Ty) → Known (q, b) → (q ≡ r → ⊥) → read t (with_read t f j q m) x a ≡ read t m x a
      other_value m (Logical i) b w d = refl
      other_value m (Program y side.Own) b w d = refl
      other_value m (Program y side.Left) b w d = refl
      other_value m (Program y side.Right) b w d = refl
      other_value m (Program y (side.Bound i)) b w d = refl
      other_value m (Program y (side.Memory i)) b w d = step (i == j) refl
        where
          step : (c : Bool) → (i == j) ≡ c → read t (if c then write t m y (f (Program y (side.Memory i))) else m) x a ≡ read t m x a
          step true e =
              let z : i ≡ j = (Decides-eqb i j).0 e in
              read_other t own m x y a (apart_from x j a known) (apart_from y i b w) (λ p. d (λ k. Program (sym p k) (side.Memory (z k)))) (f (Program y (side.Memory i)))
          step false e = refl

      memory_read : (qs : ReadTys) → AllByRecursion Known qs → Stands r qs → read t (memory_for t f qs j) x a ≡ f r
      memory_read [] w s = absurd s
      memory_read (q ∷ qs) w s = step (read_eq q.0 r) refl s (memory_read qs w.1)
        where
          step : (b : Bool) → read_eq q.0 r ≡ b → (q.0 ≡ r) ⊎ Stands r qs → (Stands r qs → read t (memory_for t f qs j) x a ≡ f r) → read t (with_read t f j q.0 (memory_for t f qs j)) x a ≡ f r
          step true e s h = own_value (memory_for t f qs j) q.0 ((read_eq-Decides q.0 r).0 e)
          step false e (inl p) h = absurd (false≢true (sym e ∙ (read_eq-Decides q.0 r).1 p))
          step false e (inr s) h = other_value (memory_for t f qs j) q.0 q.1 w.0 (λ p. absurd (false≢true (sym e ∙ (read_eq-Decides q.0 r).1 p))) ∙ h s

-- in a setting of these types
module _ (h : Setting) (inhabited : IsInhabited h.types) (f : Read → Value) (own : Name) (label : (a : Name) → IsLabel h.types own a)
    (us : List Ty) (n : ℕ) (all : ReadTys) (known : AllByRecursion (Known h.types inhabited f own label us n) all) where
  abbrev pub s : State
  s = context (values_for h.types f 0 us) (memories_for h.types f all 0 n)

  abbrev IsGiven : Read → Ty → Type 0
  IsGiven r a = read_at h r a s ≡ finite (f r)

  one_given : (r : Read) (a : Ty) → IsReadIn us n r a → IsShorter own r → ReadIs (λ r a. has h.types a (f r) ≡ true) r a → Stands r all → ReadIs IsGiven r a
  one_given (Logical i) a w l v e =
      let z : i + 0 ≡ i = omega arith in
      ap finite (value_there h.types inhabited f us i 0 a w ∙ ap (λ k. fit h.types a (Some (f (Logical k)))) z ∙ fit_has h.types a (f (Logical i)) v)
  one_given (Program x side.Own) a w l v e = absurd (no_side x w)
    where
      no_side : (x : Var) → IsReadIn us n (Program x side.Own) a → ⊥
      no_side (var.Global m y) w = w
      no_side (var.Local y) w = w
      no_side (var.Glob m) w = w
  one_given (Program x side.Left) a w l v e = absurd (no_side x w)
    where
      no_side : (x : Var) → IsReadIn us n (Program x side.Left) a → ⊥
      no_side (var.Global m y) w = w
      no_side (var.Local y) w = w
      no_side (var.Glob m) w = w
  one_given (Program x side.Right) a w l v e = absurd (no_side x w)
    where
      no_side : (x : Var) → IsReadIn us n (Program x side.Right) a → ⊥
      no_side (var.Global m y) w = w
      no_side (var.Local y) w = w
      no_side (var.Glob m) w = w
  one_given (Program x (side.Bound i)) a w l v e = tt
  one_given (Program x (side.Memory i)) a w l v e =
      let z : i + 0 ≡ i = omega arith in
      ap finite
      (ap (λ m. read h.types m x a) (memory_there h.types inhabited f all n i 0 (below h.types inhabited f own label us n x i a w) ∙ ap (memory_for h.types f all) z)
      ∙ memory_read h.types inhabited f own label us n x i a (w, l) v all known e)

  each_given : (qs : ReadTys) → ((r : Read) → Stands r qs → Stands r all) → AllByRecursion (Known h.types inhabited f own label us n) qs →
      AllByRecursion (IsListed (λ r a. has h.types a (f r) ≡ true)) qs → AllByRecursion (IsListed IsGiven) qs
  each_given [] e w v = tt
  each_given (q ∷ qs) e w v = (one_given q.0 q.1 w.0.0 w.0.1 v.0 (e q.0 (inl refl)), each_given qs (λ r s. e r (inr s)) w.1 v.1)

  -- each read of the claim has its value
  pub all_given : AllByRecursion (IsListed (λ r a. has h.types a (f r) ≡ true)) all → AllByRecursion (IsListed IsGiven) all
  all_given v = each_given all (λ r s. s) known v
