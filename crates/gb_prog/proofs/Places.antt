-- What the places of typed variables have, and what writes at them keep.
use Rattle.std.proofs.Common.{◌≡◌, Bool, true, false, ◌&&◌, if◌then◌else◌, List, [], ◌∷◌, Option, Some, None, option_map, bytes_eq, refl, sym, subst}
use Rattle.std.proofs.lemmas.Bool.{and_parts}
use Rattle.std.proofs.lemmas.Option.{none-some, same_Some}
use Rattle.std.proofs.lemmas.Slice.Eq.{bytes_eq-Decides}
use Rattle.std.specs.List.{AllByRecursion}
use Rattle.gb_core.specs.declared.ty.Ty.{Ty}
use Rattle.gb_core.specs.declared.ty.Ty.TheVariants as ty
use Rattle.gb_core.specs.declared.value.Value.{Value}
use Rattle.gb_core.specs.declared.var.Var.{Var}
use Rattle.gb_core.specs.Numbering.{parts_of}
use Rattle.gb_meaning.specs.Memory.{Memory, assigned, write, write_each}
use Rattle.gb_meaning.specs.Names.{Name, Path}
use Rattle.gb_meaning.specs.Values.{Global, Types}
use Rattle.gb_meaning.specs.Typing.{Names, global_type, type_of, with_type, types_of, Takes}

-- what holds at the place of each of these globals, at its type, holds at that of one of them
module _ (P : Path → Ty → Type 0) where
  abbrev pub AtEach : List Global → Type 0
  AtEach gs = AllByRecursion (λ x. P (x.parent ∷ x.name ∷ []) x.ty) gs

  at_first : (y : Global) (p x : Name) (t : Ty) → (bytes_eq p y.parent && bytes_eq x y.name) ≡ true → y.ty ≡ t → P (y.parent ∷ y.name ∷ []) y.ty → P (p ∷ x ∷ []) t
  at_first y p x t e k h =
      let both : (bytes_eq p y.parent ≡ true) × (bytes_eq x y.name ≡ true) = and_parts _ _ e in
      let one : p ≡ y.parent = (bytes_eq-Decides p y.parent).0 both.0 in
      let two : x ≡ y.name = (bytes_eq-Decides x y.name).0 both.1 in
      subst (λ z. z) (λ i. P (sym one i ∷ sym two i ∷ []) (k i)) h

  pub at_place : (gs : List Global) → AtEach gs → (p x : Name) (t : Ty) → global_type gs p x ≡ Some t → P (p ∷ x ∷ []) t
  at_place [] h p x t e = absurd (none-some t e)
  at_place (y ∷ gs) h p x t e = step (bytes_eq p y.parent && bytes_eq x y.name) refl (at_place gs h.1 p x t) e
    where
      step : (b : Bool) → (bytes_eq p y.parent && bytes_eq x y.name) ≡ b → (global_type gs p x ≡ Some t → P (p ∷ x ∷ []) t) →
          (if b then Some y.ty else global_type gs p x) ≡ Some t → P (p ∷ x ∷ []) t
      step true k go i = at_first y p x t k (same_Some y.ty t i) h.0
      step false k go i = go i

-- what one write of a typed variable keeps, each typed assignment keeps
module _ (t : Types) (names : Names) (R : Memory → Memory → Type 0)
    (keeps : (x : Var) (u : Ty) → type_of names x ≡ Some u → (v : Value) (m n : Memory) → R m n → R (write t m x v) (write t n x v)) where
  -- each has a type
  abbrev HaveTypes : List Var → Type 0
  HaveTypes xs = AllByRecursion (λ x. (u : Ty) × (type_of names x ≡ Some u)) xs

  have_types : (xs : List Var) (us : List Ty) → types_of names xs ≡ Some us → HaveTypes xs
  have_types [] us e = tt
  have_types (x ∷ xs) us e = step (type_of names x) (types_of names xs) refl (have_types xs) e
    where
      step : (o : Option Ty) (l : Option (List Ty)) → type_of names x ≡ o → ((us : List Ty) → l ≡ Some us → HaveTypes xs) → with_type o l ≡ Some us →
          ((u : Ty) × (type_of names x ≡ Some u)) × HaveTypes xs
      step None l k go h = absurd (none-some us h)
      step (Some u) None k go h = absurd (none-some us h)
      step (Some u) (Some us) k go h = ((u, k), go us refl)

  each_kept : (xs : List Var) → HaveTypes xs → (vs : List Value) (m n : Memory) → R m n → R (write_each t m xs vs) (write_each t n xs vs)
  each_kept [] w vs m n r = r
  each_kept (x ∷ xs) w [] m n r = r
  each_kept (x ∷ xs) w (v ∷ vs) m n r = each_kept xs w.1 vs _ _ (keeps x w.0.0 w.0.1 v m n r)

  tuple_types : (xs : List Var) (l : Option (List Ty)) → types_of names xs ≡ l → (u : Ty) → option_map ty.Tuple l ≡ Some u → HaveTypes xs
  tuple_types xs None k u e = absurd (none-some u e)
  tuple_types xs (Some us) k u e = have_types xs us k

  pub assigned_kept : (xs : List Var) (u : Ty) → Takes names xs u → (v : Value) (m n : Memory) → R m n → R (assigned t m xs v) (assigned t n xs v)
  assigned_kept [] u w v m n r = r
  assigned_kept (x ∷ []) u w v m n r = keeps x u w v m n r
  assigned_kept (x ∷ y ∷ xs) u w v m n r = each_kept (x ∷ y ∷ xs) (tuple_types (x ∷ y ∷ xs) (types_of names (x ∷ y ∷ xs)) refl u w) (parts_of v) m n r
