-- First values are related, where those of modules' globals are pairs.
use Rattle.std.proofs.Common.{◌≡◌, ℕ, ◌/◌, ◌%◌, Bool, true, false, if◌then◌else◌, Some, None, List, [], ◌∷◌, ◌++◌, refl, ap, sym, ◌∙◌, subst}
use Rattle.std.proofs.Math.Nat.{zero-div, zero-mod}
use Rattle.gb_core.specs.declared.ty.Ty.{Ty, Row_of-Ty, end_of-Ty, more_of-Ty}
use Rattle.gb_core.specs.declared.ty.Ty.TheVariants as ty
use Rattle.gb_core.specs.Numbering.{Numbering, tuples, tuple_at}
use Rattle.gb_meaning.specs.Names.{Name}
use Rattle.gb_meaning.specs.Values.{Types, values, first}
use Rattle.gb_meaning.specs.Globs.{IsGlobless}
use Rattle.gb_typing.proofs.PlainGlobals.{globless_values}
use Rattle.gb_laws.specs.Finite.{IsFinite, AreFiniteWith, IsInhabited}
use Rattle.gb_laws.proofs.Sizes.{first_has}
use Rattle.gb_labels.specs.Things.{holds_glob, modules_of, modules_of_all}
use Rattle.gb_closing_laws.specs.Pairs.{Pairs}
use Rattle.gb_closing_laws.specs.Related.{Related, AllRelated}
use Rattle.gb_closing_laws.specs.Needs.{names_in, HasFirsts}
use Rattle.gb_closing_laws.proofs.Globless.{globless}
use Rattle.gb_closing_laws.proofs.Relations.{all_values, related_itself}
use Rattle.gb_closing_laws.proofs.Room.{both_some}
use mathlib.Core.Former.{Count}

module _ (t u : Types) (P : Pairs) where
  pub firsts_left : (ms ns : List Name) → HasFirsts t u P (ms ++ ns) → HasFirsts t u P ms
  firsts_left [] ns h = tt
  firsts_left (m ∷ ms) ns h = (h.0, firsts_left ms ns h.1)

  pub firsts_right : (ms ns : List Name) → HasFirsts t u P (ms ++ ns) → HasFirsts t u P ns
  firsts_right [] ns h = h
  firsts_right (m ∷ ms) ns h = firsts_right ms ns h.1

  module _ (same : t.size ≡ u.size) (inhabited : IsInhabited t) where
    same_first : (a : Ty) → IsGlobless a → IsFinite a → Related t u P a (first t a) (first u a)
    same_first a k f =
        subst (λ (z : Numbering). Related t u P a (first t a) (z.at 0)) (globless_values t u same a k) (related_itself t u same P a k (first t a) (first_has t inhabited a f))

    other_first : (a : Ty) (ms : List Name) (b : Bool) → holds_glob a ≡ b → (if b then None else Some []) ≡ Some ms → IsFinite a → Related t u P a (first t a) (first u a)
    other_first a ms true q e f = absurd (cc)
    other_first a ms false q e f = same_first a (globless a q) f

    mutual
      pub first_related : (a : Ty) (ms : List Name) → modules_of a ≡ Some ms → IsFinite a → HasFirsts t u P ms → Related t u P a (first t a) (first u a)
      first_related (ty.Glob m) ms e f h = (subst (HasFirsts t u P) (sym (ap names_in e)) h).0
      first_related (ty.Opt' p (more_of-Ty (ty.Glob m) end_of-Ty)) ms e f h = ([], [], refl, refl, tt)
      first_related (ty.Tuple' n r) ms e f h =
          (tuple_at (all_values t r) 0, tuple_at (all_values u r) 0, refl, refl, all_first r ms e f h 0 0 refl refl)
      first_related a ms e f h = other_first a ms (holds_glob a) refl e f

      all_first : {n : Count} (r : Row_of-Ty n) (ms : List Name) → modules_of_all r ≡ Some ms → AreFiniteWith true r → HasFirsts t u P ms → (i j : ℕ) → i ≡ 0 → j ≡ 0 →
          AllRelated t u P r (tuple_at (all_values t r) i) (tuple_at (all_values u r) j)
      all_first end_of-Ty ms e f h i j p q = tt
      all_first (more_of-Ty a r) ms e f h i j p q =
          let s = both_some (modules_of a) (modules_of_all r) ms e in
          let k = subst (HasFirsts t u P) (sym s.4) h in
          let one = first_related a s.0 s.2 f.0 (firsts_left s.0 s.1 k) in
          let l : i / tuples (all_values t r) ≡ 0 = ap (λ z. z / tuples (all_values t r)) p ∙ zero-div (tuples (all_values t r)) in
          let m : j / tuples (all_values u r) ≡ 0 = ap (λ z. z / tuples (all_values u r)) q ∙ zero-div (tuples (all_values u r)) in (
            subst (λ z. Related t u P a ((values t a).at z) ((values u a).at (j / tuples (all_values u r)))) (sym l) (subst (λ z. Related t u P a (first t a) ((values u a).at z)) (sym m) one),
            all_first r s.1 s.3 f.1 (firsts_right s.0 s.1 k) (i % tuples (all_values t r)) (j % tuples (all_values u r))
                (ap (λ z. z % tuples (all_values t r)) p ∙ zero-mod (tuples (all_values t r)))
                (ap (λ z. z % tuples (all_values u r)) q ∙ zero-mod (tuples (all_values u r))),
          )
