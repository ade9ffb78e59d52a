-- Locals and their new names.
use Rattle.std.proofs.Common.{◌≡◌, ◌≢◌, ℕ, zero, suc, ◌+◌, Bool, true, false, ◌||◌, ◌&&◌, if◌then◌else◌, bytes_eq, List, [], ◌∷◌, ◌++◌, map, Option, Some, None, refl, ap, sym, ◌∙◌, subst}
use Rattle.std.proofs.lemmas.Bool.{false≢true}
use Rattle.std.proofs.lemmas.Option.{none-some, same_Some}
use Rattle.std.proofs.lemmas.Slice.Eq.{bytes_eq-Decides}
use Rattle.std.specs.List.{AllByRecursion}
use Rattle.std.specs.Option.{option_map}
use Rattle.gb_core.specs.declared.ty.Ty.{Ty}
use Rattle.gb_core.specs.declared.var.Var.{Var}
use Rattle.gb_core.specs.declared.var.Var.TheVariants as var
use Rattle.gb_terms.specs.declared.decl.TypedName.{TypedName}
use Rattle.gb_terms.specs.declared.op.Side.TheVariants as side
use Rattle.gb_terms.specs.declared.op.Read.TheVariants.{Program}
use Rattle.gb_terms.specs.declared.term.Term.{Term}
use Rattle.gb_terms.specs.declared.term.Head.TheVariants as head
use Rattle.gb_terms.specs.Equal.{var_eq}
use Rattle.gb_terms.specs.Make.{node}
use Rattle.gb_terms.proofs.Equality.{var_eq-Decides}
use Rattle.gb_walk.specs.Change.{found_for_read, or_later}
use Rattle.gb_meaning.specs.Names.{Name}
use Rattle.gb_meaning.specs.Written.{local_type}
use Rattle.gb_typing.proofs.Scripts.{none_some, same_some}
use Rattle.gb_inline.specs.declared.fresh.Renaming.{Renaming}
use Rattle.gb_inline.specs.Fresh.{free_from, free_name, is_taken, numbered, renamed_first, under_name, new_names}
use Rattle.gb_inline.specs.Renamed.{Renamings, name_renamed, reads_renamed}

-- These are names for these locals, with their types.
abbrev pub AreFor : Renamings → List TypedName → Type 0
AreFor [] [] = Unit {0}
AreFor (r ∷ rs) (l ∷ ls) = (r.old ≡ l.name) × (r.new.ty ≡ l.ty) × AreFor rs ls
AreFor _ _ = ⊥

-- none of the new names is x
abbrev pub IsNone : Renamings → Name → Type 0
IsNone rs x = AllByRecursion (λ r. r.new.name ≢ x) rs

-- no two of the new names are the same
abbrev pub AreApart : Renamings → Type 0
AreApart [] = Unit {0}
AreApart (r ∷ rs) = IsNone rs r.new.name × AreApart rs

-- new names for locals, which none of these variables has
pub record AreFresh (used : List Var) (ls : List TypedName) (rs : Renamings) : Type 0 where
  pub are : AreFor rs ls
  pub apart : AreApart rs
  pub fresh : AllByRecursion (λ r. is_taken used r.new.name ≡ false) rs

pub either_false : (a b : Bool) → (a || b) ≡ false → (a ≡ false) × (b ≡ false)
either_false true b e = absurd (false≢true (sym e))
either_false false b e = (refl, e)

pub both_false : (a b : Bool) → a ≡ false → b ≡ false → (a || b) ≡ false
both_false true b e k = absurd (false≢true (sym e))
both_false false b e k = k

free_is_free : (n k : ℕ) (used : List Var) (x : Name) → free_from n k used ≡ Some x → is_taken used x ≡ false
unfolding free_from
free_is_free zero k used x e = absurd (none-some x e)
free_is_free (suc n) k used x e = step (is_taken used (numbered k)) refl e (free_is_free n (k + 1) used x)
  where
    step : (b : Bool) → is_taken used (numbered k) ≡ b → (if b then free_from n (k + 1) used else Some (numbered k)) ≡ Some x → (free_from n (k + 1) used ≡ Some x → is_taken used x ≡ false) →
        is_taken used x ≡ false
    step true q e go = go e
    step false q e go = subst (λ z. is_taken used z ≡ false) (same_Some (numbered k) x e) q

-- a name that is taken neither by these variables nor by one more
untaken : (used : List Var) (x y : Name) → is_taken (used ++ var.Local x ∷ []) y ≡ false → (is_taken used y ≡ false) × (y ≢ x)
untaken [] x y e = (refl, λ p. false≢true (sym (either_false (var_eq (var.Local y) (var.Local x)) false e).0 ∙ (var_eq-Decides (var.Local y) (var.Local x)).1 (ap var.Local p)))
untaken (v ∷ used) x y e =
    let z = either_false (var_eq (var.Local y) v) (is_taken (used ++ var.Local x ∷ []) y) e in
    let w = untaken used x y z.1 in
    (both_false (var_eq (var.Local y) v) (is_taken used y) z.0 w.0, w.1)

all_untaken : (used : List Var) (x : Name) (rs : Renamings) → AllByRecursion (λ r. is_taken (used ++ var.Local x ∷ []) r.new.name ≡ false) rs →
    AllByRecursion (λ r. is_taken used r.new.name ≡ false) rs × IsNone rs x
all_untaken used x [] h = (tt, tt)
all_untaken used x (r ∷ rs) h = let z = untaken used x r.new.name h.0 in let w = all_untaken used x rs h.1 in ((z.0, w.0), (z.1, w.1))

pub fresh_names : (used : List Var) (ls : List TypedName) (rs : Renamings) → new_names used ls ≡ Some rs → AreFresh used ls rs
fresh_names used [] rs e = subst (AreFresh used []) (same_Some [] rs e) (record { are = tt; apart = tt; fresh = tt })
fresh_names used (l ∷ ls) rs e = by_name (free_name used) refl e (λ x. fresh_names (used ++ var.Local x ∷ []) ls)
  where
    with_more : (x : Name) (o : Option Renamings) → is_taken used x ≡ false → option_map (λ more. under_name l x ∷ more) o ≡ Some rs → ((more : Renamings) → o ≡ Some more → AreFresh (used ++ var.Local x ∷ []) ls more) →
        AreFresh used (l ∷ ls) rs
    with_more x None k e go = absurd (none-some rs e)
    with_more x (Some more) k e go =
        let h = go more refl in
        let z = all_untaken used x more h.fresh in
        subst (AreFresh used (l ∷ ls)) (same_Some (under_name l x ∷ more) rs e) (record { are = (refl, refl, h.are); apart = (z.1, h.apart); fresh = (k, z.0) })

    by_name : (o : Option Name) → free_name used ≡ o → renamed_first l (λ x. new_names (used ++ var.Local x ∷ []) ls) o ≡ Some rs →
        ((x : Name) (more : Renamings) → new_names (used ++ var.Local x ∷ []) ls ≡ Some more → AreFresh (used ++ var.Local x ∷ []) ls more) → AreFresh used (l ∷ ls) rs
    by_name None k e go = absurd (none-some rs e)
    by_name (Some x) k e go = with_more x (new_names (used ++ var.Local x ∷ []) ls) (free_is_free _ 0 used x k) e (go x)

-- the type of a local that stands first, or not
pub first_type : (l : TypedName) (ls : List TypedName) (x : Name) (t : Ty) → l.name ≡ x → local_type (l ∷ ls) x ≡ Some t → l.ty ≡ t
first_type l ls x t p e = same_some l.ty t (sym (ap (λ b. if b then Some l.ty else local_type ls x) ((bytes_eq-Decides x l.name).1 (sym p))) ∙ e)

pub later_type : (l : TypedName) (ls : List TypedName) (x : Name) → l.name ≢ x → local_type (l ∷ ls) x ≡ local_type ls x
later_type l ls x n = step (bytes_eq x l.name) refl
  where
    step : (b : Bool) → bytes_eq x l.name ≡ b → (if b then Some l.ty else local_type ls x) ≡ local_type ls x
    step true q = absurd (n (sym ((bytes_eq-Decides x l.name).0 q)))
    step false q = refl

different : (x y : Name) → bytes_eq x y ≡ false → x ≢ y
different x y e p = false≢true (sym e ∙ (bytes_eq-Decides x y).1 p)

unlike : (x y : Name) → x ≢ y → bytes_eq x y ≡ false
unlike x y n = step (bytes_eq x y) refl
  where
    step : (b : Bool) → bytes_eq x y ≡ b → b ≡ false
    step true q = absurd (n ((bytes_eq-Decides x y).0 q))
    step false q = refl

-- the new name of a local that stands first, or not
pub first_name : (r : Renaming) (rs : Renamings) (x : Name) → r.old ≡ x → name_renamed (r ∷ rs) x ≡ r.new.name
first_name r rs x p = ap (λ b. if b then r.new.name else name_renamed rs x) ((bytes_eq-Decides r.old x).1 p)

pub later_name : (r : Renaming) (rs : Renamings) (x : Name) → r.old ≢ x → name_renamed (r ∷ rs) x ≡ name_renamed rs x
later_name r rs x n = ap (λ b. if b then r.new.name else name_renamed rs x) (unlike r.old x n)

abbrev pub own_read : Name → Ty → Term
own_read x t = node (head.Read (Program (var.Local x) side.Own)) [] t

pub either_name : (x y : Name) (P : Type 0) → (x ≡ y → P) → (x ≢ y → P) → P
either_name x y P f h = step (bytes_eq x y) refl
  where
    step : (b : Bool) → bytes_eq x y ≡ b → P
    step true q = f ((bytes_eq-Decides x y).0 q)
    step false q = h (different x y q)

-- A local of these types.
module _ (x : Name) (t : Ty) where
  -- a read of it becomes one of its new name
  pub read_found : (rs : Renamings) (ls : List TypedName) → AreFor rs ls → local_type ls x ≡ Some t → found_for_read (reads_renamed rs) (Program (var.Local x) side.Own) ≡ Some (own_read (name_renamed rs x) t)
  read_found [] [] w e = none_some t e
  read_found [] (l ∷ ls) w e = absurd w
  read_found (r ∷ rs) [] w e = absurd w
  read_found (r ∷ rs) (l ∷ ls) w e = step (bytes_eq r.old x) refl (read_found rs ls w.2)
    where
      step : (b : Bool) → bytes_eq r.old x ≡ b → (local_type ls x ≡ Some t → found_for_read (reads_renamed rs) (Program (var.Local x) side.Own) ≡ Some (own_read (name_renamed rs x) t)) →
          or_later (b && true) (own_read r.new.name r.new.ty) (found_for_read (reads_renamed rs) (Program (var.Local x) side.Own)) ≡ Some (own_read (if b then r.new.name else name_renamed rs x) t)
      step true q go = ap (λ u. Some (own_read r.new.name u)) (w.1 ∙ first_type l ls x t (sym w.0 ∙ (bytes_eq-Decides r.old x).0 q) e)
      step false q go = go (sym (later_type l ls x (λ p. different r.old x q (w.0 ∙ p))) ∙ e)

  -- its new name isn't one that none of them is
  pub renamed_other : (rs : Renamings) (ls : List TypedName) → AreFor rs ls → local_type ls x ≡ Some t → (y : Name) → IsNone rs y → name_renamed rs x ≢ y
  renamed_other [] [] w e y n = none_some t e
  renamed_other [] (l ∷ ls) w e y n = absurd w
  renamed_other (r ∷ rs) [] w e y n = absurd w
  renamed_other (r ∷ rs) (l ∷ ls) w e y n =
      either_name r.old x (name_renamed (r ∷ rs) x ≢ y) (λ p q. n.0 (sym (first_name r rs x p) ∙ q))
      (λ p q. renamed_other rs ls w.2 (sym (later_type l ls x (λ k. p (w.0 ∙ k))) ∙ e) y n.1 (sym (later_name r rs x p) ∙ q))

  -- where new names stand in front of others, they have the types of the locals
  pub renamed_type : (rs : Renamings) (ls fs : List TypedName) → AreFor rs ls → AreApart rs → local_type ls x ≡ Some t → local_type (map (λ r. r.new) rs ++ fs) (name_renamed rs x) ≡ Some t
  renamed_type [] [] fs w a e = none_some t e
  renamed_type [] (l ∷ ls) fs w a e = absurd w
  renamed_type (r ∷ rs) [] fs w a e = absurd w
  renamed_type (r ∷ rs) (l ∷ ls) fs w a e =
      either_name r.old x (local_type (r.new ∷ (map (λ r. r.new) rs ++ fs)) (name_renamed (r ∷ rs) x) ≡ Some t)
      (λ p. ap (local_type (r.new ∷ (map (λ r. r.new) rs ++ fs))) (first_name r rs x p) ∙ ap (λ b. if b then Some r.new.ty else local_type (map (λ r. r.new) rs ++ fs) r.new.name) ((bytes_eq-Decides r.new.name r.new.name).1 refl)
      ∙ ap Some (w.1 ∙ first_type l ls x t (sym w.0 ∙ p) e))
      (λ p.
      let k = sym (later_type l ls x (λ k. p (w.0 ∙ k))) ∙ e in
      ap (local_type (r.new ∷ (map (λ r. r.new) rs ++ fs))) (later_name r rs x p)
      ∙ later_type r.new (map (λ r. r.new) rs ++ fs) (name_renamed rs x) (λ q. renamed_other rs ls w.2 k r.new.name a.0 (sym q))
      ∙ renamed_type rs ls fs w.2 a.1 k)

-- two locals have two new names
pub renamed_apart : (x y : Name) (t u : Ty) → x ≢ y → (rs : Renamings) (ls : List TypedName) → AreFor rs ls → AreApart rs → local_type ls x ≡ Some t → local_type ls y ≡ Some u → name_renamed rs x ≢ name_renamed rs y
renamed_apart x y t u n [] [] w a e f = none_some t e
renamed_apart x y t u n [] (l ∷ ls) w a e f = absurd w
renamed_apart x y t u n (r ∷ rs) [] w a e f = absurd w
renamed_apart x y t u n (r ∷ rs) (l ∷ ls) w a e f =
    either_name r.old x (name_renamed (r ∷ rs) x ≢ name_renamed (r ∷ rs) y)
    (λ p q.
    let other : r.old ≢ y = λ k. n (sym p ∙ k) in
    renamed_other y u rs ls w.2 (sym (later_type l ls y (λ k. other (w.0 ∙ k))) ∙ f) r.new.name a.0 (sym (later_name r rs y other) ∙ sym q ∙ first_name r rs x p))
    (λ p.
    let k = sym (later_type l ls x (λ k. p (w.0 ∙ k))) ∙ e in
    either_name r.old y (name_renamed (r ∷ rs) x ≢ name_renamed (r ∷ rs) y)
    (λ o q. renamed_other x t rs ls w.2 k r.new.name a.0 (sym (later_name r rs x p) ∙ q ∙ first_name r rs y o))
    (λ o q. renamed_apart x y t u n rs ls w.2 a.1 k (sym (later_type l ls y (λ k. o (w.0 ∙ k))) ∙ f) (sym (later_name r rs x p) ∙ q ∙ later_name r rs y o)))

-- a name that no new one is has the type that it has among the others
pub other_type : (rs : Renamings) (fs : List TypedName) (y : Name) → IsNone rs y → local_type (map (λ r. r.new) rs ++ fs) y ≡ local_type fs y
other_type [] fs y n = refl
other_type (r ∷ rs) fs y n = later_type r.new (map (λ r. r.new) rs ++ fs) y n.0 ∙ other_type rs fs y n.1
