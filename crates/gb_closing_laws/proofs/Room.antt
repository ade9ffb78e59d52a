-- How often names stand in lists, and room for pairs.
use Rattle.std.proofs.Common.{◌≡◌, inl, inr, ℕ, suc, ◌+◌, ◌≤◌, Bool, true, false, if◌then◌else◌, bytes_eq, Option, Some, None, List, [], ◌∷◌, ◌++◌, length, refl, ap, sym, subst, append_assoc, arith}
use Rattle.std.proofs.lemmas.Slice.Eq.{bytes_eq-Decides}
use Rattle.gb_meaning.specs.Names.{Name}
use Rattle.gb_meaning.specs.Values.{Types}
use Rattle.gb_labels.specs.Things.{both_names}
use Rattle.gb_closing_laws.specs.Pairs.{Pairs}
use Rattle.gb_closing_laws.specs.Needs.{names_in, times, HasRoomFor, HasRoom}

pub same_name : (m : Name) → bytes_eq m m ≡ true
same_name m = (bytes_eq-Decides m m).1 refl

pub name_is : (m n : Name) → bytes_eq m n ≡ true → m ≡ n
name_is m n = (bytes_eq-Decides m n).0

pub times_append : (m : Name) (xs ys : List Name) → times m (xs ++ ys) ≡ times m xs + times m ys
times_append m [] ys = omega arith
times_append m (n ∷ xs) ys = step (bytes_eq n m) (times_append m xs ys)
  where
    step : (b : Bool) → times m (xs ++ ys) ≡ times m xs + times m ys → (if b then suc (times m (xs ++ ys)) else times m (xs ++ ys)) ≡ (if b then suc (times m xs) else times m xs) + times m ys
    step true e = omega (arith, e)
    step false e = e

-- a name in front stands there once more
pub times_first : (m : Name) (ns : List Name) → times m (m ∷ ns) ≡ suc (times m ns)
times_first m ns = ap (λ (b : Bool). if b then suc (times m ns) else times m ns) (same_name m)

pub times_more : (m n : Name) (ns : List Name) → times m ns ≤ times m (n ∷ ns)
times_more m n ns = step (bytes_eq n m)
  where
    step : (b : Bool) → times m ns ≤ (if b then suc (times m ns) else times m ns)
    step true = omega arith
    step false = omega arith

pub less_room : (k l a b : ℕ) → l ≤ k → HasRoomFor k a b → HasRoomFor l a b
less_room k l a b h (inl e) = inl e
less_room k l a b h (inr p) = let q = p.0 in let r = p.1 in inr (omega (arith, q), omega (arith, r))

pub room_flip : (k a b : ℕ) → HasRoomFor k a b → HasRoomFor k b a
room_flip k a b (inl e) = inl (sym e)
room_flip k a b (inr p) = inr (p.1, p.0)

module _ (t u : Types) (P : Pairs) where
  -- room for more is room for less
  pub room_for : (ms ns : List Name) → ((m : Name) → times m ns ≤ times m ms) → HasRoom t u P ms → HasRoom t u P ns
  room_for ms ns h r m = let k = h m in less_room (length (P m) + times m ms) (length (P m) + times m ns) _ _ (omega (arith, k)) (r m)

  pub room_first : (ms ns : List Name) → HasRoom t u P (ms ++ ns) → HasRoom t u P ms
  room_first ms ns = room_for (ms ++ ns) ms (λ m. let e = times_append m ms ns in omega (arith, e))

  pub room_last : (ms ns : List Name) → HasRoom t u P (ms ++ ns) → HasRoom t u P ns
  room_last ms ns = room_for (ms ++ ns) ns (λ m. let e = times_append m ms ns in omega (arith, e))

  pub room_assoc : (ks ms ns : List Name) → HasRoom t u P ((ks ++ ms) ++ ns) → HasRoom t u P (ks ++ (ms ++ ns))
  room_assoc ks ms ns r = subst (HasRoom t u P) (append_assoc ks ms ns) r

-- names that two types give
pub both_some : (o p : Option (List Name)) (ms : List Name) → both_names o p ≡ Some ms → (xs : List Name) × (ys : List Name) × (o ≡ Some xs) × (p ≡ Some ys) × (xs ++ ys ≡ ms)
both_some (Some xs) (Some ys) ms e = (xs, ys, refl, refl, ap names_in e)
both_some (Some xs) None ms e = absurd (cc)
both_some None p ms e = absurd (cc)
