-- What changes find, under binders and where memories are bound.
use Rattle.std.proofs.Common.{◌≡◌, ℕ, suc, ◌+◌, ◌==◌, Bool, true, false, not, ◌&&◌, cond, if◌then◌else◌, [], ◌∷◌, map, filter, Option, None, refl, ap, sym, ◌∙◌, arith}
use Rattle.std.specs.List.{AllByRecursion}
use Rattle.std.specs.Option.{option_map}
use Rattle.std.proofs.Math.Dec.{leb-zero, eqb-suc-suc, eqb-suc-zero}
use Rattle.std.proofs.lemmas.Bool.{false≢true}
use Rattle.gb_terms.specs.declared.op.Side.{Side}
use Rattle.gb_terms.specs.declared.op.Side.TheVariants as side
use Rattle.gb_terms.specs.declared.op.Read.{Read}
use Rattle.gb_terms.specs.declared.op.Read.TheVariants.{Logical, Program}
use Rattle.gb_core.specs.declared.var.Var.{Var}
use Rattle.gb_terms.specs.declared.term.Term.{Term}
use Rattle.gb_terms.specs.Equal.{var_eq, side_eq, read_eq}
use Rattle.gb_terms.proofs.Equality.{side_eq-Decides, read_eq-Decides}
use Rattle.gb_walk.specs.Raise.{index_raised, side_raised, read_raised, term_raised}
use Rattle.gb_walk.specs.declared.change.Change.{Change}
use Rattle.gb_walk.specs.declared.change.Change.TheVariants.{ToTerm, OfBound, ToSide}
use Rattle.gb_walk.specs.Change.{Changes, is_read_through, without, under_binder, or_later, found_for_read, found_for_bound, side_changed}

raise : Term → Term
raise t = term_raised t 0

pub index_next : (i : ℕ) → index_raised 0 i ≡ suc i
index_next i = ap (λ b. if b then i + 1 else i) (leb-zero i) ∙ omega arith

pub raised_bound : (i : ℕ) → side_raised 0 (side.Bound i) ≡ side.Bound (suc i)
raised_bound i = ap (λ (k : ℕ). side.Bound k) (index_next i)

sides_raised : (r o : Side) → side_eq (side_raised 0 r) (side_raised 0 o) ≡ side_eq r o
sides_raised (side.Bound i) (side.Bound k) = (λ n. index_next i n == index_next k n) ∙ eqb-suc-suc i k
sides_raised side.Own side.Own = refl
sides_raised side.Own side.Left = refl
sides_raised side.Own side.Right = refl
sides_raised side.Own (side.Memory n) = refl
sides_raised side.Own (side.Bound k) = refl
sides_raised side.Left side.Own = refl
sides_raised side.Left side.Left = refl
sides_raised side.Left side.Right = refl
sides_raised side.Left (side.Memory n) = refl
sides_raised side.Left (side.Bound k) = refl
sides_raised side.Right side.Own = refl
sides_raised side.Right side.Left = refl
sides_raised side.Right side.Right = refl
sides_raised side.Right (side.Memory n) = refl
sides_raised side.Right (side.Bound k) = refl
sides_raised (side.Memory m) side.Own = refl
sides_raised (side.Memory m) side.Left = refl
sides_raised (side.Memory m) side.Right = refl
sides_raised (side.Memory m) (side.Memory n) = refl
sides_raised (side.Memory m) (side.Bound k) = refl
sides_raised (side.Bound i) side.Own = refl
sides_raised (side.Bound i) side.Left = refl
sides_raised (side.Bound i) side.Right = refl
sides_raised (side.Bound i) (side.Memory n) = refl

reads_raised : (r o : Read) → read_eq (read_raised 0 r) (read_raised 0 o) ≡ read_eq r o
reads_raised (Program x r) (Program y o) = ap (λ b. var_eq x y && b) (sides_raised r o)
reads_raised (Logical i) (Logical k) = refl
reads_raised (Logical i) (Program y o) = refl
reads_raised (Program x r) (Logical k) = refl

no_raised : (r : Side) → side_eq (side_raised 0 r) (side.Bound 0) ≡ false
no_raised (side.Bound i) = ap (λ k. k == 0) (index_next i) ∙ eqb-suc-zero i
no_raised _ = refl

and_false : (a b : Bool) → b ≡ false → (a && b) ≡ false
and_false true b e = e
and_false false b e = refl

no_read : (x : Var) (r : Read) → read_eq (read_raised 0 r) (Program x (side.Bound 0)) ≡ false
no_read x (Logical i) = refl
no_read x (Program y r) = and_false (var_eq y x) _ (no_raised r)

later_raised : (b : Bool) (t : Term) (o : Option Term) → or_later b (term_raised t 0) (option_map (λ u. term_raised u 0) o) ≡ option_map (λ u. term_raised u 0) (or_later b t o)
later_raised true t o = refl
later_raised false t o = refl

-- under a binder, the reads that are raised are changed to what is raised
pub read_found_under : (cs : Changes) (r : Read) → found_for_read (under_binder cs) (read_raised 0 r) ≡ option_map (λ u. term_raised u 0) (found_for_read cs r)
read_found_under [] r = refl
read_found_under (ToTerm o t ∷ cs) r =
    (λ i. or_later (reads_raised o r i) (term_raised t 0) (read_found_under cs r i)) ∙ later_raised (read_eq o r) t (found_for_read cs r)
read_found_under (OfBound i t ∷ cs) r = read_found_under cs r
read_found_under (ToSide a b ∷ cs) r = read_found_under cs r

pub read_of_binder : (cs : Changes) (x : Var) → found_for_read (under_binder cs) (Program x (side.Bound 0)) ≡ None
read_of_binder [] x = refl
read_of_binder (ToTerm o t ∷ cs) x = (λ i. or_later (no_read x o i) (term_raised t 0) (read_of_binder cs x i))
read_of_binder (OfBound i t ∷ cs) x = read_of_binder cs x
read_of_binder (ToSide a b ∷ cs) x = read_of_binder cs x

place_next : (i k : ℕ) → (i + 1 == suc k) ≡ (i == k)
place_next i k = ap (λ z. z == suc k) (omega arith) ∙ eqb-suc-suc i k

place_zero : (i : ℕ) → (i + 1 == 0) ≡ false
place_zero i = ap (λ z. z == 0) (omega arith) ∙ eqb-suc-zero i

pub bound_found_under : (cs : Changes) (k : ℕ) → found_for_bound (under_binder cs) (suc k) ≡ option_map (λ u. term_raised u 0) (found_for_bound cs k)
bound_found_under [] k = refl
bound_found_under (ToTerm o t ∷ cs) k = bound_found_under cs k
bound_found_under (OfBound i t ∷ cs) k =
    (λ n. or_later (place_next i k n) (term_raised t 0) (bound_found_under cs k n)) ∙ later_raised (i == k) t (found_for_bound cs k)
bound_found_under (ToSide a b ∷ cs) k = bound_found_under cs k

pub bound_of_binder : (cs : Changes) → found_for_bound (under_binder cs) 0 ≡ None
bound_of_binder [] = refl
bound_of_binder (ToTerm o t ∷ cs) = bound_of_binder cs
bound_of_binder (OfBound i t ∷ cs) = λ n. or_later (place_zero i n) (term_raised t 0) (bound_of_binder cs n)
bound_of_binder (ToSide a b ∷ cs) = bound_of_binder cs

choice_raised : (b : Bool) (x y : Side) → (if b then side_raised 0 x else side_raised 0 y) ≡ side_raised 0 (if b then x else y)
choice_raised true x y = refl
choice_raised false x y = refl

pub side_under : (cs : Changes) (r : Side) → side_changed (under_binder cs) (side_raised 0 r) ≡ side_raised 0 (side_changed cs r)
side_under [] r = refl
side_under (ToTerm o t ∷ cs) r = side_under cs r
side_under (OfBound i t ∷ cs) r = side_under cs r
side_under (ToSide a b ∷ cs) r = (λ i. if sides_raised a r i then side_raised 0 b else side_under cs r i) ∙ choice_raised (side_eq a r) b (side_changed cs r)

pub side_of_binder : (cs : Changes) → side_changed (under_binder cs) (side.Bound 0) ≡ side.Bound 0
side_of_binder [] = refl
side_of_binder (ToTerm o t ∷ cs) = side_of_binder cs
side_of_binder (OfBound i t ∷ cs) = side_of_binder cs
side_of_binder (ToSide a b ∷ cs) = (λ i. if no_raised a i then side_raised 0 b else side_of_binder cs i)

-- what holds of each change holds of those that are kept
pub each_filter : (P : Change → Type 0) (f : Change → Bool) (cs : Changes) → AllByRecursion P cs → AllByRecursion P (filter f cs)
each_filter P f [] h = tt
each_filter P f (c ∷ cs) h = step (f c) (each_filter P f cs h.1)
  where
    step : (b : Bool) → AllByRecursion P (filter f cs) → AllByRecursion P (cond b (c ∷ filter f cs) (filter f cs))
    step true k = (h.0, k)
    step false k = k

pub each_map : (P Q : Change → Type 0) (f : Change → Change) → ((c : Change) → P c → Q (f c)) → (cs : Changes) → AllByRecursion P cs → AllByRecursion Q (map f cs)
each_map P Q f k [] h = tt
each_map P Q f k (c ∷ cs) h = (k c h.0, each_map P Q f k cs h.1)

differ : (b c : Bool) → b ≡ true → c ≡ false → b ≡ c → ⊥
differ b c e h k = false≢true (sym h ∙ sym k ∙ e)

module _ (p : Side → Bool) where
  -- a change that ends here is of no read through other memories
  other_read : (o r : Read) → is_read_through p o ≡ true → is_read_through p r ≡ false → read_eq o r ≡ false
  other_read o r e h = step (read_eq o r) refl
    where
      step : (b : Bool) → read_eq o r ≡ b → b ≡ false
      step false k = refl
      step true k = absurd (differ _ _ e h (ap (is_read_through p) ((read_eq-Decides o r).0 k)))

  other_side : (o r : Side) → p o ≡ true → p r ≡ false → side_eq o r ≡ false
  other_side o r e h = step (side_eq o r) refl
    where
      step : (b : Bool) → side_eq o r ≡ b → b ≡ false
      step false k = refl
      step true k = absurd (differ _ _ e h (ap p ((side_eq-Decides o r).0 k)))

  pub read_found_without : (cs : Changes) (r : Read) → is_read_through p r ≡ false → found_for_read (without p cs) r ≡ found_for_read cs r
  read_found_without [] r h = refl
  read_found_without (ToTerm o t ∷ cs) r h = step (is_read_through p o) refl (read_found_without cs r h)
    where
      step : (b : Bool) → is_read_through p o ≡ b → found_for_read (without p cs) r ≡ found_for_read cs r → found_for_read (cond (not b) (ToTerm o t ∷ without p cs) (without p cs)) r ≡ or_later (read_eq o r) t (found_for_read cs r)
      step false e ih = ap (or_later (read_eq o r) t) ih
      step true e ih = ih ∙ sym (ap (λ b. or_later b t (found_for_read cs r)) (other_read o r e h))
  read_found_without (OfBound i t ∷ cs) r h = read_found_without cs r h
  read_found_without (ToSide a b ∷ cs) r h = step (p a) (read_found_without cs r h)
    where
      step : (c : Bool) → found_for_read (without p cs) r ≡ found_for_read cs r → found_for_read (cond (not c) (ToSide a b ∷ without p cs) (without p cs)) r ≡ found_for_read cs r
      step false ih = ih
      step true ih = ih

  pub bound_found_without : (cs : Changes) (k : ℕ) → found_for_bound (without p cs) k ≡ found_for_bound cs k
  bound_found_without [] k = refl
  bound_found_without (ToTerm o t ∷ cs) k = step (is_read_through p o) (bound_found_without cs k)
    where
      step : (b : Bool) → found_for_bound (without p cs) k ≡ found_for_bound cs k → found_for_bound (cond (not b) (ToTerm o t ∷ without p cs) (without p cs)) k ≡ found_for_bound cs k
      step false ih = ih
      step true ih = ih
  bound_found_without (OfBound i t ∷ cs) k = ap (or_later (i == k) t) (bound_found_without cs k)
  bound_found_without (ToSide a b ∷ cs) k = step (p a) (bound_found_without cs k)
    where
      step : (c : Bool) → found_for_bound (without p cs) k ≡ found_for_bound cs k → found_for_bound (cond (not c) (ToSide a b ∷ without p cs) (without p cs)) k ≡ found_for_bound cs k
      step false ih = ih
      step true ih = ih

  pub side_without : (cs : Changes) (r : Side) → p r ≡ false → side_changed (without p cs) r ≡ side_changed cs r
  side_without [] r h = refl
  side_without (ToTerm o t ∷ cs) r h = step (is_read_through p o) (side_without cs r h)
    where
      step : (b : Bool) → side_changed (without p cs) r ≡ side_changed cs r → side_changed (cond (not b) (ToTerm o t ∷ without p cs) (without p cs)) r ≡ side_changed cs r
      step false ih = ih
      step true ih = ih
  side_without (OfBound i t ∷ cs) r h = side_without cs r h
  side_without (ToSide a b ∷ cs) r h = step (p a) refl (side_without cs r h)
    where
      step : (c : Bool) → p a ≡ c → side_changed (without p cs) r ≡ side_changed cs r → side_changed (cond (not c) (ToSide a b ∷ without p cs) (without p cs)) r ≡ (if side_eq a r then b else side_changed cs r)
      step false e ih = ap (λ z. if side_eq a r then b else z) ih
      step true e ih = ih ∙ sym (ap (λ c. if c then b else side_changed cs r) (other_side a r e h))

  -- where these memories are bound, reads through them stay
  pub read_found_none : (cs : Changes) (r : Read) → is_read_through p r ≡ true → found_for_read (without p cs) r ≡ None
  read_found_none [] r h = refl
  read_found_none (ToTerm o t ∷ cs) r h = step (is_read_through p o) refl (read_found_none cs r h)
    where
      apart : (b : Bool) → read_eq o r ≡ b → is_read_through p o ≡ false → b ≡ false
      apart false k e = refl
      apart true k e = absurd (differ _ _ h e (sym (ap (is_read_through p) ((read_eq-Decides o r).0 k))))

      step : (b : Bool) → is_read_through p o ≡ b → found_for_read (without p cs) r ≡ None → found_for_read (cond (not b) (ToTerm o t ∷ without p cs) (without p cs)) r ≡ None
      step false e ih = ap (λ b. or_later b t (found_for_read (without p cs) r)) (apart (read_eq o r) refl e) ∙ ih
      step true e ih = ih
  read_found_none (OfBound i t ∷ cs) r h = read_found_none cs r h
  read_found_none (ToSide a b ∷ cs) r h = step (p a) (read_found_none cs r h)
    where
      step : (c : Bool) → found_for_read (without p cs) r ≡ None → found_for_read (cond (not c) (ToSide a b ∷ without p cs) (without p cs)) r ≡ None
      step false ih = ih
      step true ih = ih

  pub side_kept : (cs : Changes) (r : Side) → p r ≡ true → side_changed (without p cs) r ≡ r
  side_kept [] r h = refl
  side_kept (ToTerm o t ∷ cs) r h = step (is_read_through p o) (side_kept cs r h)
    where
      step : (b : Bool) → side_changed (without p cs) r ≡ r → side_changed (cond (not b) (ToTerm o t ∷ without p cs) (without p cs)) r ≡ r
      step false ih = ih
      step true ih = ih
  side_kept (OfBound i t ∷ cs) r h = side_kept cs r h
  side_kept (ToSide a b ∷ cs) r h = step (p a) refl (side_kept cs r h)
    where
      apart : (c : Bool) → side_eq a r ≡ c → p a ≡ false → c ≡ false
      apart false k e = refl
      apart true k e = absurd (differ _ _ h e (sym (ap p ((side_eq-Decides a r).0 k))))

      step : (c : Bool) → p a ≡ c → side_changed (without p cs) r ≡ r → side_changed (cond (not c) (ToSide a b ∷ without p cs) (without p cs)) r ≡ r
      step false e ih = ap (λ c. if c then b else side_changed (without p cs) r) (apart (side_eq a r) refl e) ∙ ih
      step true e ih = ih
