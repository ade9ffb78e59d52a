-- The greatest numbers of labels count how often each module stands in the list.
use Rattle.std.proofs.Common.{◌≡◌, ◌⊎◌, inl, inr, ℕ, suc, ◌+◌, ◌≤◌, Bool, true, false, if◌then◌else◌, bytes_eq, Option, Some, None, List, [], ◌∷◌, length, refl, ap, sym, ◌∙◌, arith}
use Rattle.std.proofs.lemmas.Bool.{false≢true}
use Rattle.gb_core.specs.declared.ty.Ty.TheVariants as ty
use Rattle.gb_meaning.specs.Names.{Name}
use Rattle.gb_meaning.specs.Values.{Types, values}
use Rattle.gb_labels.specs.Labels.{Labels, count_of}
use Rattle.gb_labels.specs.Things.{with_one, counted}
use Rattle.gb_closing_laws.specs.Pairs.{Pairs}
use Rattle.gb_closing_laws.specs.Needs.{times, HasRoomFor, HasRoom}
use Rattle.gb_closing_laws.specs.Model.{HaveLabels}
use Rattle.gb_closing_laws.proofs.Room.{name_is}

abbrev count_or : Option ℕ → ℕ
count_or None = 0
count_or (Some k) = k

-- a test that two names are one, after one of them
test_of : (k n m : Name) → bytes_eq k n ≡ true → bytes_eq k m ≡ bytes_eq n m
test_of k n m e = ap (λ z. bytes_eq z m) (name_is k n e)

module _ (n m : Name) where
  abbrev more : ℕ → ℕ
  more c = if bytes_eq n m then suc c else c

  one_more : (ls : Labels) → count_or (count_of (with_one ls n) m) ≡ (if bytes_eq n m then suc (count_or (count_of ls m)) else count_or (count_of ls m))
  one_more [] = step (bytes_eq n m)
    where
      step : (b : Bool) → count_or (if b then Some 1 else None) ≡ (if b then 1 else 0)
      step true = refl
      step false = refl
  one_more (l ∷ ls) = step (bytes_eq l.name n) refl (bytes_eq l.name m) refl (bytes_eq n m) refl (one_more ls)
    where
      step : (a : Bool) → bytes_eq l.name n ≡ a → (b : Bool) → bytes_eq l.name m ≡ b → (c : Bool) → bytes_eq n m ≡ c →
          count_or (count_of (with_one ls n) m) ≡ (if c then suc (count_or (count_of ls m)) else count_or (count_of ls m)) →
          count_or (count_of (if a then record l { count = suc l.count } ∷ ls else l ∷ with_one ls n) m)
          ≡ (if c then suc (count_or (if b then Some l.count else count_of ls m)) else count_or (if b then Some l.count else count_of ls m))
      step true p true q true r h = ap (λ b. count_or (if b then Some (suc l.count) else count_of ls m)) q
      step true p false q false r h = ap (λ b. count_or (if b then Some (suc l.count) else count_of ls m)) q
      step true p true q false r h = absurd (false≢true (sym r ∙ sym (test_of l.name n m p) ∙ q))
      step true p false q true r h = absurd (false≢true (sym q ∙ test_of l.name n m p ∙ r))
      step false p true q true r h = absurd (false≢true (sym p ∙ ap (bytes_eq l.name) (name_is n m r) ∙ q))
      step false p true q false r h = ap (λ b. count_or (if b then Some l.count else count_of (with_one ls n) m)) q
      step false p false q c r h = ap (λ b. count_or (if b then Some l.count else count_of (with_one ls n) m)) q ∙ h

counted_times : (m : Name) (ms : List Name) (ls : Labels) → count_or (count_of (counted ls ms) m) ≡ count_or (count_of ls m) + times m ms
counted_times m [] ls = omega arith
counted_times m (n ∷ ms) ls =
    let a = counted_times m ms (with_one ls n) in
    let b = one_more n m ls in
    a ∙ ap (λ z. z + times m ms) b ∙ step (bytes_eq n m) (count_or (count_of ls m))
  where
    step : (b : Bool) (c : ℕ) → (if b then suc c else c) + times m ms ≡ c + (if b then suc (times m ms) else times m ms)
    step true c = omega arith
    step false c = omega arith

pub count_is : (m : Name) (ms : List Name) → count_or (count_of (counted [] ms) m) ≡ times m ms
count_is m ms = let a = counted_times m ms [] in omega (arith, a)

-- what has as many labels has room for as many pairs
pub labels_room : (t u : Types) (P : Pairs) (ms ns : List Name) → HaveLabels t u (counted [] ms) → ((m : Name) → length (P m) + times m ns ≤ times m ms) → HasRoom t u P ns
labels_room t u P ms ns h l m = step (count_of (counted [] ms) m) refl
  where
    step : (o : Option ℕ) → count_of (counted [] ms) m ≡ o → HasRoomFor (length (P m) + times m ns) (values t (ty.Glob m)).size (values u (ty.Glob m)).size
    step None e =
        let c = count_is m ms in
        let z = ap count_or e in
        let n = l m in
        inr (omega (arith, c, z, n), omega (arith, c, z, n))
    step (Some k) e = by (h m k e)
      where
        by : ((values t (ty.Glob m)).size ≡ (values u (ty.Glob m)).size) ⊎ (((values u (ty.Glob m)).size ≡ k) × (k ≤ (values t (ty.Glob m)).size)) →
            HasRoomFor (length (P m) + times m ns) (values t (ty.Glob m)).size (values u (ty.Glob m)).size
        by (inl s) = inl s
        by (inr s) =
            let c = count_is m ms in
            let z = ap count_or e in
            let n = l m in
            let a = s.0 in
            let b = s.1 in
            inr (omega (arith, c, z, n, a, b), omega (arith, c, z, n, a))
