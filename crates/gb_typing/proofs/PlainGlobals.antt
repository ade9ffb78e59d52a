-- Globals whose types variables may have: such types have the same values wherever abstract types have the same sizes.
use Rattle.std.proofs.Common.{◌≡◌, Bool, true, false, if◌then◌else◌, List, [], ◌∷◌, filter, ◌∙◌}
use Rattle.gb_core.specs.declared.ty.Ty.{Ty}
use Rattle.gb_core.specs.Numbering.{numbers}
use Rattle.gb_terms.specs.declared.module.Mexp.TheVariants.{Name as named}
use Rattle.gb_meaning.specs.Values.{Global, World, Types, values_by, footprint_values}
use Rattle.gb_meaning.specs.Typing.{IsPlain}
use Rattle.gb_meaning.specs.Holds.{HaveVariableTypes}
use Rattle.gb_meaning.specs.Globs.{IsGlobless}
use Rattle.gb_meaning.proofs.PlainTypes.{plain_glob}
use Rattle.gb_typing.specs.Agreement.{SameValues, SameGlobals}
use Rattle.gb_typing.proofs.Agreeing.{values_named}

-- the types of all these globals are types of variables
abbrev pub EachPlain : List Global → Type 0
EachPlain [] = Unit {0}
EachPlain (x ∷ xs) = IsPlain x.ty × EachPlain xs

pub plain_world : (t : Types) (w : World) → HaveVariableTypes t w → EachPlain w
plain_world t [] h = tt
plain_world t (x ∷ w) h = (h.0.0, plain_world t w h.1)

plain-if : (b : Bool) (x : Global) (xs : List Global) → IsPlain x.ty → EachPlain xs → EachPlain (if b then x ∷ xs else xs)
plain-if true x xs a h = (a, h)
plain-if false x xs a h = h

-- some globals of a world
pub plain_kept : (p : Global → Bool) (w : World) → EachPlain w → EachPlain (filter p w)
plain_kept p [] h = tt
plain_kept p (x ∷ w) h = plain-if (p x) x (filter p w) h.0 (plain_kept p w h.1)

-- types that speak of no module's globals have the same values wherever the sizes are the same
pub globless_values : (t u : Types) → t.size ≡ u.size → (y : Ty) → IsGlobless y → SameValues t u y
globless_values t u e y h =
    values_named (λ n. ⊥) (λ n. numbers (t.size n)) (λ m. footprint_values t.size (t.footprint (named m))) (λ m. footprint_values u.size (u.footprint (named m)))
    (λ m z. absurd z) y h
    ∙ (λ i. values_by (λ n. numbers (e i n)) (λ m. footprint_values u.size (u.footprint (named m))) y)

pub plain_values : (t u : Types) → t.size ≡ u.size → (y : Ty) → IsPlain y → SameValues t u y
plain_values t u e y h = globless_values t u e y (plain_glob (λ n. ⊥) y h)

pub plain-globals : (t u : Types) → t.size ≡ u.size → (xs : List Global) → EachPlain xs → SameGlobals t u xs
plain-globals t u e [] h = tt
plain-globals t u e (x ∷ xs) h = (plain_values t u e x.ty h.0, plain-globals t u e xs h.1)
