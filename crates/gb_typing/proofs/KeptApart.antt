-- A program that keeps off what a restriction excludes touches no global that a module of the restriction declares, and none that the
-- program for one touches.
use Rattle.std.proofs.Common.{◌≡◌, Bool, true, false, ◌&&◌, ◌||◌, if◌then◌else◌, List, [], ◌∷◌, ◌++◌, filter, Option, Some, None, bytes_eq, refl, sym, ◌∙◌, subst}
use Rattle.std.specs.List.{list_any}
use Rattle.std.proofs.lemmas.Bool.{false≢true, and_parts}
use Rattle.std.proofs.lemmas.Option.{none-some}
use Rattle.std.proofs.lemmas.Slice.Eq.{bytes_eq-Decides}
use Rattle.gb_core.specs.declared.ty.Ty.{Ty}
use Rattle.gb_terms.specs.declared.module.Mexp.TheVariants.{Name as named}
use Rattle.gb_meaning.specs.Names.{Name}
use Rattle.gb_meaning.specs.Values.{Global, World}
use Rattle.gb_meaning.specs.Declared.{Declarations}
use Rattle.gb_meaning.specs.Footprints.{is_global}
use Rattle.gb_meaning.specs.Programs.{AreIn}
use Rattle.gb_meaning.specs.Settings.{Chosen, Interpretation, declared_globals, is_chosen, program_footprint, setting}
use Rattle.gb_meaning.specs.Typing.{global_type}
use Rattle.gb_meaning.specs.Within.{AreApart, KeepsOff, own_globals}
use Rattle.gb_typing.specs.Chosen.{KeepsApart, chosen_under}
use Rattle.gb_typing.proofs.Globals.{or_false}
use Rattle.gb_typing.proofs.OwnFootprint.{program_there, world_footprint}

pub any_parts : (p : Global → Bool) (ys zs : List Global) → list_any p (ys ++ zs) ≡ false → (list_any p ys ≡ false) × (list_any p zs ≡ false)
any_parts p [] zs e = (refl, e)
any_parts p (y ∷ ys) zs e =
    let k = or_false (p y) (list_any p (ys ++ zs)) e in
    let l = any_parts p ys zs k.1 in
    ((λ i. k.0 i || list_any p ys) ∙ l.0, l.1)

apart_parts : (xs ys zs : List Global) → AreApart xs (ys ++ zs) → AreApart xs ys × AreApart xs zs
apart_parts [] ys zs h = (tt, tt)
apart_parts (x ∷ xs) ys zs h =
    let k = any_parts (is_global x) ys zs h.0 in
    let l = apart_parts xs ys zs h.1 in
    ((k.0, l.0), (k.1, l.1))

apart_none : (xs : List Global) → AreApart xs []
apart_none [] = tt
apart_none (x ∷ xs) = (refl, apart_none xs)

-- a global of the world that is none of those of the world among some is none of these
module _ (ps : List Global) where
  abbrev among : Global → Bool
  among y = list_any (is_global y) ps

  same_among : (x y : Global) → is_global x y ≡ true → among x ≡ among y
  same_among x y e =
      let k = and_parts (bytes_eq x.parent y.parent) (bytes_eq x.name y.name) e in
      λ i. list_any (λ (p : Global). bytes_eq ((bytes_eq-Decides x.parent y.parent).0 k.0 i) p.parent && bytes_eq ((bytes_eq-Decides x.name y.name).0 k.1 i) p.name) ps

  apart_global : (w : World) (x : Global) (t : Ty) → global_type w x.parent x.name ≡ Some t → list_any (is_global x) (filter among w) ≡ false → among x ≡ false
  apart_global [] x t e h = absurd (none-some t e)
  apart_global (y ∷ w) x t e h = step (is_global x y) refl e (among y) refl h (apart_global w x t)
    where
      step : (b : Bool) → is_global x y ≡ b → (if b then Some y.ty else global_type w x.parent x.name) ≡ Some t → (c : Bool) → among y ≡ c →
          list_any (is_global x) (if c then y ∷ filter among w else filter among w) ≡ false →
          (global_type w x.parent x.name ≡ Some t → list_any (is_global x) (filter among w) ≡ false → among x ≡ false) → among x ≡ false
      step true q e true r h go = absurd (false≢true (sym h ∙ (λ i. q i || list_any (is_global x) (filter among w))))
      step true q e false r h go = same_among x y q ∙ r
      step false q e true r h go = go e (or_false (is_global x y) (list_any (is_global x) (filter among w)) h).1
      step false q e false r h go = go e h

  apart_world : (w : World) (xs : List Global) → AreIn w xs → AreApart xs (filter among w) → AreApart xs ps
  apart_world w [] k h = tt
  apart_world w (x ∷ xs) k h = (apart_global w x x.ty k.0 h.0, apart_world w xs k.1 h.1)

nothing_there : (cs : List Chosen) (n : Name) → chosen_under cs n ≡ None → program_footprint cs n ≡ []
nothing_there [] n e = refl
nothing_there (c ∷ cs) n e = step (bytes_eq n c.bind.name) (nothing_there cs n) e
  where
    step : (b : Bool) → (chosen_under cs n ≡ None → program_footprint cs n ≡ []) → (if b then Some c else chosen_under cs n) ≡ None → (if b then c.program.footprint else program_footprint cs n) ≡ []
    step true go e = absurd (none-some c (sym e))
    step false go e = go e

module _ (ds : Declarations) (i : Interpretation) (xs : List Global) (inside : AreIn i.world xs) where
  apart_program : (m : Name) → AreApart xs ((setting ds i).types.footprint (named m)) → AreApart xs (program_footprint i.programs m)
  apart_program m h = step (chosen_under i.programs m) refl
    where
      step : (o : Option Chosen) → chosen_under i.programs m ≡ o → AreApart xs (program_footprint i.programs m)
      step None e = subst (AreApart xs) (sym (nothing_there i.programs m e)) (apart_none xs)
      step (Some x) e =
          subst (AreApart xs) (sym (program_there i.programs m x e))
          (apart_world x.program.footprint i.world xs inside (subst (AreApart xs) (world_footprint ds i m x e) h))

  -- what keeps off what the modules exclude
  pub off_apart : (ms : List Name) → KeepsOff ds i.programs (setting ds i) xs ms → KeepsApart ds i.programs xs ms
  off_apart [] h = tt
  off_apart (m ∷ ms) h =
      let k = apart_parts xs (own_globals ds i.programs m) ((setting ds i).types.footprint (named m)) h.0 in
      ((k.0, apart_program m k.1), off_apart ms h.1)

-- each has another name
abbrev pub AreOther : List Name → Name → Type 0
AreOther [] n = Unit {0}
AreOther (m ∷ ms) n = (bytes_eq m n ≡ false) × AreOther ms n

-- a program that is chosen for another module changes nothing
pub apart_more : (ds : Declarations) (cs : List Chosen) (x : Chosen) (xs : List Global) (ms : List Name) → AreOther ms x.bind.name → KeepsApart ds cs xs ms → KeepsApart ds (x ∷ cs) xs ms
apart_more ds cs x xs [] e k = tt
apart_more ds cs x xs (m ∷ ms) e k = (
  (
    subst (AreApart xs) (sym (λ i. if (e.0 i || is_chosen cs m) then [] else filter (λ (y : Global). bytes_eq m y.parent) (declared_globals ds))) k.0.0,
    subst (AreApart xs) (sym (λ i. if e.0 i then x.program.footprint else program_footprint cs m)) k.0.1,
  ),
  apart_more ds cs x xs ms e.1 k.1,
)
