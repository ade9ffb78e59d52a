-- The arguments of a term in two settings.
use Rattle.std.proofs.Common.{◌≡◌, ◌<◌, List, [], ◌∷◌, ◌++◌, map, refl, ap}
use Rattle.gb_core.specs.declared.ty.Ty.{Ty}
use Rattle.gb_terms.specs.declared.term.Term.{Row_of-Term, end_of-Term, more_of-Term}
use Rattle.gb_meaning.specs.Names.{Name}
use Rattle.gb_meaning.specs.Setting.{Setting}
use Rattle.gb_meaning.specs.State.{State}
use Rattle.gb_meaning.specs.Terms.{Speaks, Part, argument, parts, part_of}
use Rattle.gb_meaning.specs.Written.{type_of}
use Rattle.gb_typing.specs.Naming.{EachGlobAmong}
use Rattle.gb_laws.specs.Context.{AreOf}
use Rattle.gb_laws.specs.Operators.{IsDistributionType}
use Rattle.gb_laws.specs.Typing.{Binder}
use Rattle.gb_laws.specs.Typing as typing
use Rattle.gb_labels.specs.Reads.{Vars}
use Rattle.gb_closing_laws.specs.Pairs.{Pairing}
use Rattle.gb_closing_laws.specs.Related.{ReadTypes, MeaningRelated, StateRelated}
use Rattle.gb_closing_laws.specs.Needs.{HasFirsts, HasRoom, quantified, all_quantified, opened, all_opened}
use Rattle.gb_walk.specs.Clash.{Exclusions}
use Rattle.gb_closing_laws.specs.Model.{AreAlike}
use Rattle.gb_closing_laws.proofs.LabelMeanings.{meaning_of, meaning_equal}
use Rattle.gb_closing_laws.proofs.Room.{room_first, room_last}
use Rattle.gb_closing_laws.proofs.Firsts.{firsts_left, firsts_right}
use Rattle.gb_closing_laws.proofs.Operators.{Arguments, types_of, lefts, rights, ArgumentsRelated}
use mathlib.Core.Former.{Count}

-- an argument: its type, what it means in each setting, and what it needs
pub record Sides : Type 0 where
  pub ty : Ty
  pub left : Part
  pub right : Part
  pub quantified : List Name
  pub opened : List Name

abbrev pub tys : List Sides → List Ty
tys xs = map (λ x. x.ty) xs

abbrev pub left_parts : List Sides → List Part
left_parts xs = map (λ x. x.left) xs

abbrev pub right_parts : List Sides → List Part
right_parts xs = map (λ x. x.right) xs

abbrev pub quantified_in : List Sides → List Name
quantified_in [] = []
quantified_in (x ∷ xs) = x.quantified ++ quantified_in xs

abbrev pub opened_in : List Sides → List Name
opened_in [] = []
opened_in (x ∷ xs) = x.opened ++ opened_in xs

module _ (g h : Setting) (T : ReadTypes) where
  -- related states give related meanings, where there is room
  abbrev pub IsSide : List Binder → List Vars → Sides → Type 0
  IsSide bs vss x =
      ((P : Pairing g.types h.types) (s r : State) → HasFirsts g.types h.types P.pairs x.opened → HasRoom g.types h.types P.pairs x.quantified → StateRelated g h P.pairs T bs vss s r →
      MeaningRelated g.types h.types P.pairs x.ty (x.left.meaning s) (x.right.meaning r))
      × (x.left.denominator ≡ x.right.denominator) × (IsDistributionType x.ty → 0 < x.left.denominator)

  -- the same of each, the last inside of binders of its own
  abbrev pub AreSides : List Binder → List Binder → List Vars → List Vars → List Sides → Type 0
  AreSides bs cs vss wss [] = Unit {0}
  AreSides bs cs vss wss (x ∷ []) = IsSide cs wss x
  AreSides bs cs vss wss (x ∷ y ∷ xs) = IsSide bs vss x × AreSides bs cs vss wss (y ∷ xs)

  abbrev pub both : State → State → List Sides → Arguments
  both s r xs = map (λ x. (x.ty, argument s x.left, argument r x.right)) xs

  pub both_types : (s r : State) (xs : List Sides) → types_of (both s r xs) ≡ tys xs
  both_types s r [] = refl
  both_types s r (x ∷ xs) = ap (λ z. x.ty ∷ z) (both_types s r xs)

  pub both_lefts : (s r : State) (xs : List Sides) → lefts (both s r xs) ≡ map (argument s) (left_parts xs)
  both_lefts s r [] = refl
  both_lefts s r (x ∷ xs) = ap (λ z. argument s x.left ∷ z) (both_lefts s r xs)

  pub both_rights : (s r : State) (xs : List Sides) → rights (both s r xs) ≡ map (argument r) (right_parts xs)
  both_rights s r [] = refl
  both_rights s r (x ∷ xs) = ap (λ z. argument r x.right ∷ z) (both_rights s r xs)

  pub arguments_related : (P : Pairing g.types h.types) (bs : List Binder) (vss : List Vars) (s r : State) → StateRelated g h P.pairs T bs vss s r → (xs : List Sides) → AreSides bs bs vss vss xs →
      HasFirsts g.types h.types P.pairs (opened_in xs) → HasRoom g.types h.types P.pairs (quantified_in xs) → ArgumentsRelated g.types h.types P.pairs (both s r xs)
  arguments_related P bs vss s r q [] k f m = tt
  arguments_related P bs vss s r q (x ∷ []) k f m =
      ((k.0 P s r (firsts_left g.types h.types P.pairs x.opened [] f) (room_first g.types h.types P.pairs x.quantified [] m) q, k.1, k.2), tt)
  arguments_related P bs vss s r q (x ∷ y ∷ xs) k f m = (
    (k.0.0 P s r (firsts_left g.types h.types P.pairs x.opened (opened_in (y ∷ xs)) f) (room_first g.types h.types P.pairs x.quantified (quantified_in (y ∷ xs)) m) q, k.0.1, k.0.2),
    arguments_related P bs vss s r q (y ∷ xs) k.1 (firsts_right g.types h.types P.pairs x.opened (opened_in (y ∷ xs)) f) (room_last g.types h.types P.pairs x.quantified (quantified_in (y ∷ xs)) m),
  )

  -- the meanings of arguments alone
  module _ {es : Exclusions} (alike : AreAlike es g h) (P : Pairing g.types h.types) (s r : State) where
    pub are_of : (xs : List Sides) → ArgumentsRelated g.types h.types P.pairs (both s r xs) → AreOf g.types (tys xs) (map (λ x. x.meaning s) (left_parts xs))
    are_of [] k = tt
    are_of (x ∷ xs) k = (meaning_of g.types h.types alike.sizes P x.ty (x.left.meaning s) (x.right.meaning r) k.0.0, are_of xs k.1)

    pub same_meanings : (xs : List Sides) → ArgumentsRelated g.types h.types P.pairs (both s r xs) → EachGlobAmong (λ m. ⊥) (tys xs) →
        map (λ x. x.meaning s) (left_parts xs) ≡ map (λ x. x.meaning r) (right_parts xs)
    same_meanings [] k n = refl
    same_meanings (x ∷ xs) k n =
        let e = meaning_equal g.types h.types alike.sizes P.pairs x.ty n.0 (x.left.meaning s) (x.right.meaning r) k.0.0 in
        λ i. e i ∷ same_meanings xs k.1 n.1 i

-- the arguments of a term
module _ (g h : Setting) (j k : Speaks) where
  abbrev pub row_sides : {n : Count} → Row_of-Term n → List Sides
  row_sides end_of-Term = []
  row_sides (more_of-Term t ts) =
      record { ty = type_of t; left = part_of g j t; right = part_of h k t; quantified = quantified t; opened = opened t } ∷ row_sides ts

  pub row_types : {n : Count} (ts : Row_of-Term n) → typing.types_of ts ≡ tys (row_sides ts)
  row_types end_of-Term = refl
  row_types (more_of-Term t ts) = ap (λ z. type_of t ∷ z) (row_types ts)

  pub row_lefts : {n : Count} (ts : Row_of-Term n) → left_parts (row_sides ts) ≡ parts g j ts
  row_lefts end_of-Term = refl
  row_lefts (more_of-Term t ts) = ap (λ z. part_of g j t ∷ z) (row_lefts ts)

  pub row_rights : {n : Count} (ts : Row_of-Term n) → right_parts (row_sides ts) ≡ parts h k ts
  row_rights end_of-Term = refl
  row_rights (more_of-Term t ts) = ap (λ z. part_of h k t ∷ z) (row_rights ts)

  pub row_quantified : {n : Count} (ts : Row_of-Term n) → all_quantified ts ≡ quantified_in (row_sides ts)
  row_quantified end_of-Term = refl
  row_quantified (more_of-Term t ts) = ap (λ z. quantified t ++ z) (row_quantified ts)

  pub row_opened : {n : Count} (ts : Row_of-Term n) → all_opened ts ≡ opened_in (row_sides ts)
  row_opened end_of-Term = refl
  row_opened (more_of-Term t ts) = ap (λ z. opened t ++ z) (row_opened ts)
