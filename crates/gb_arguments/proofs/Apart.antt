-- Where no variable of a footprint clashes with one that is excluded, the globals of the two are apart.
use Rattle.std.proofs.Common.{◌≡◌, inl, inr, Bool, true, false, ◌&&◌, ◌||◌, if◌then◌else◌, List, [], ◌∷◌, Option, Some, None, bytes_eq, refl, ap, sym, ◌∙◌, subst}
use Rattle.std.specs.List.{list_any}
use Rattle.std.proofs.lemmas.Bool.{false≢true, and_parts, and_from}
use Rattle.std.proofs.lemmas.Option.{none-some}
use Rattle.std.proofs.lemmas.Slice.Eq.{bytes_eq-Decides}
use Rattle.gb_core.specs.declared.place.Place.{Place}
use Rattle.gb_core.specs.declared.var.Var.{Var}
use Rattle.gb_core.specs.declared.var.Var.TheVariants as var
use Rattle.gb_terms.proofs.Equality.{var_eq-Decides}
use Rattle.gb_terms.specs.declared.module.Mexp.TheVariants.{Name as named}
use Rattle.gb_goal.specs.Answers.Answer.{given}
use Rattle.gb_goal.specs.Scope.{Declarations}
use Rattle.gb_walk.specs.Clash.{Exclusions, clashes}
use Rattle.gb_meaning.specs.Footprints.{is_global, stands_for}
use Rattle.gb_meaning.specs.Names.{Name}
use Rattle.gb_meaning.specs.Setting.{Setting}
use Rattle.gb_meaning.specs.Values.{Global}
use Rattle.gb_meaning.specs.Within.{AreApart}
use Rattle.gb_typing.specs.Forms.{IsKeptOff}
use Rattle.gb_typing.proofs.ClashFree.{no_share}
use Rattle.gb_mods.specs.Order.{joined}
use Rattle.gb_arguments.specs.Covers.{Covers}
use Rattle.gb_instances.specs.Fits.{clashes_with, first_touched, kept_off, restrictions, unless_touched}
use Rattle.gb_arguments.proofs.Members.{Has, any_is, joined_has, one_is}
use Rattle.gb_arguments.proofs.Parts.{refused_not}

module _ (es : Exclusions) where
  -- No variable of the first list clashes with one of the second.
  NoClash : List Var → List Var → Type 0
  NoClash vs ys = (v : Var) → Has vs v → (y : Var) → Has ys y → clashes es v y ≡ false

  no_clash : (v : Var) (ys : List Var) → clashes_with es v ys ≡ false → (y : Var) → Has ys y → clashes es v y ≡ false
  unfolding clashes_with
  no_clash v ys e y h = step (clashes es v y) refl
    where
      step : (b : Bool) → clashes es v y ≡ b → b ≡ false
      step true q = absurd (false≢true (sym e ∙ any_is (clashes es v) ys y h q))
      step false q = refl

  none_touched : (vs ys : List Var) → first_touched es vs ys ≡ None → (v : Var) → Has vs v → (y : Var) → Has ys y → clashes es v y ≡ false
  none_touched [] ys e v h = absurd h
  none_touched (u ∷ vs) ys e v h = step (clashes_with es u ys) refl e h (none_touched vs ys)
    where
      step : (b : Bool) → clashes_with es u ys ≡ b → (if b then Some u else first_touched es vs ys) ≡ None → Has (u ∷ vs) v →
          (first_touched es vs ys ≡ None → (v : Var) → Has vs v → (y : Var) → Has ys y → clashes es v y ≡ false) → (y : Var) → Has ys y → clashes es v y ≡ false
      step true q e h go = absurd (none-some u (sym e))
      step false q e (inl k) go = λ y i. subst (λ z. clashes es z y ≡ false) k (no_clash u ys q y i)
      step false q e (inr k) go = go e v k

none_told : (o : Option Var) (p : Place) → unless_touched o p ≡ given tt → o ≡ None
none_told None p e = refl
none_told (Some v) p e = refused_not _ p tt e

-- Variables that a global stands for share it.

module _ (g : Setting) where
  abbrev own : Name → List Global
  own n = g.types.footprint (named n)

  -- whether a global stands for a variable rests on its names
  pub same_stands : (x z : Global) → is_global x z ≡ true → (y : Var) → stands_for own x y ≡ stands_for own z y
  same_stands x z e (var.Global m v) =
      let k = and_parts (bytes_eq x.parent z.parent) (bytes_eq x.name z.name) e in
      λ i. bytes_eq m ((bytes_eq-Decides x.parent z.parent).0 k.0 i) && bytes_eq v ((bytes_eq-Decides x.name z.name).0 k.1 i)
  same_stands x z e (var.Local v) = refl
  same_stands x z e (var.Glob a) =
      let k = and_parts (bytes_eq x.parent z.parent) (bytes_eq x.name z.name) e in
      λ i. list_any (λ (u : Global). bytes_eq ((bytes_eq-Decides x.parent z.parent).0 k.0 i) u.parent && bytes_eq ((bytes_eq-Decides x.name z.name).0 k.1 i) u.name) (own a)

  -- a global of a module that stands for another variable
  shared : (a : Name) (y : Var) (x : Global) → stands_for own x (var.Glob a) ≡ true → stands_for own x y ≡ true → list_any (λ z. stands_for own z y) (own a) ≡ true
  shared a y x h k =
      let z = one_is (is_global x) (own a) h in
      any_is (λ z. stands_for own z y) (own a) z.0 z.1 (sym (same_stands x z.0 z.2 y) ∙ k)

  module _ (es : Exclusions) (kept : IsKeptOff es g) where
    -- no global stands for two variables that don't clash
    none_both : (v y : Var) → clashes es v y ≡ false → (x : Global) → stands_for own x v ≡ true → stands_for own x y ≡ true → ⊥
    none_both (var.Glob a) y e x h k = false≢true (sym (no_share g es kept (var.Glob a) y e) ∙ shared a y x h k)
    none_both (var.Local v) y e x h k = false≢true h
    none_both (var.Global m v) (var.Glob b) e x h k =
        false≢true (sym (no_share g es kept (var.Global m v) (var.Glob b) e) ∙ shared b (var.Global m v) x k h)
    none_both (var.Global m v) (var.Local w) e x h k = false≢true k
    none_both (var.Global m v) (var.Global n w) e x h k =
        let a = and_parts (bytes_eq m x.parent) (bytes_eq v x.name) h in
        let b = and_parts (bytes_eq n x.parent) (bytes_eq w x.name) k in
        false≢true (sym e ∙ (var_eq-Decides (var.Global m v) (var.Global n w)).1
        (λ i. var.Global (((bytes_eq-Decides m x.parent).0 a.0 ∙ sym ((bytes_eq-Decides n x.parent).0 b.0)) i) (((bytes_eq-Decides v x.name).0 a.1 ∙ sym ((bytes_eq-Decides w x.name).0 b.1)) i)))

    is_itself : (x : Global) → is_global x x ≡ true
    is_itself x = and_from _ _ ((bytes_eq-Decides x.parent x.parent).1 refl) ((bytes_eq-Decides x.name x.name).1 refl)

    module _ (vs ys : List Var) (clear : (v : Var) → Has vs v → (y : Var) → Has ys y → clashes es v y ≡ false) (zs : List Global) (excluded : Covers g vs zs) where
      each_apart : (xs : List Global) → ((x : Global) → list_any (is_global x) xs ≡ true → list_any (stands_for own x) ys ≡ true) → AreApart xs zs
      each_apart [] w = tt
      each_apart (x ∷ xs) w = (step (list_any (is_global x) zs) refl, each_apart xs (λ z h. w z (later (is_global z x) h)))
        where
          later : {c : Bool} (b : Bool) → c ≡ true → (b || c) ≡ true
          later true h = refl
          later false h = h

          step : (b : Bool) → list_any (is_global x) zs ≡ b → b ≡ false
          step true q =
              let v = one_is (stands_for own x) vs (excluded x q) in
              let y = one_is (stands_for own x) ys (w x (ap (λ b. b || list_any (is_global x) xs) (is_itself x))) in
              absurd (none_both v.0 y.0 (clear v.0 v.1 y.0 y.1) x v.2 y.2)
          step false q = refl

-- Globals of a footprint are apart from those that are excluded.
pub are_apart : (ds : Declarations) (g : Setting) → IsKeptOff (restrictions ds) g → (vs ys : List Var) (p : Place) → kept_off ds (Some vs) (Some ys) p ≡ given tt →
    (xs zs : List Global) → Covers g ys xs → Covers g vs zs → AreApart xs zs
are_apart ds g kept vs ys p e xs zs w k =
    let none = none_touched (restrictions ds) (joined vs []) ys (none_told (first_touched (restrictions ds) (joined vs []) ys) p e) in
    each_apart g (restrictions ds) kept vs ys (λ v h. none v (joined_has vs [] v h)) zs k xs w
