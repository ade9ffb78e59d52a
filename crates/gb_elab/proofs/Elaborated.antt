-- What forms and functions mean, from their heads and parts.
use Rattle.std.proofs.Common.{◌≡◌, ℕ, zero, suc, List, [], ◌∷◌, length, slice_get, Option, Some, None, refl, ap}
use Rattle.gb_core.specs.declared.place.Place.{Place}
use Rattle.std.specs.Option.{option_map}
use Rattle.gb_core.specs.declared.ty.Ty.{Ty}
use Rattle.gb_terms.specs.declared.decl.TypedName.{TypedName}
use Rattle.gb_names.specs.declared.bindings.Binding.{Binding}
use Rattle.gb_script.specs.declared.tree.Node.{Node}
use Rattle.gb_script.specs.Tree.{head_of, text_of, parts_of, place_of}
use Rattle.gb_names.specs.Environment.{Environment}
use Rattle.gb_names.proofs.Nodes.{said_is}
use Rattle.gb_operators.specs.declared.domain.Domain.{Domain}
use Rattle.gb_elab.specs.Forms.{arguing, arguments_of, bare, contract_of, contracting, elaborated, function_of, function_typing, meaning, meant, typing, with_meanings}

pub meant_is : (t : Node) → meant t ≡ meaning (head_of t) (text_of t) (with_meanings (parts_of t)) (place_of t)
unfolding meant
meant_is t = said_is meaning t

pub elaborated_is : (t : Node) (at : Environment) (bound : List Binding) (w : Option Ty)
    → elaborated t at bound w ≡ typing (head_of t) (text_of t) (with_meanings (parts_of t)) (place_of t) at bound w
elaborated_is t at bound w = ap (λ m. m.form at bound w) (meant_is t)

pub function_of_is : (t : Node) (d : Domain) (at : Environment) (bound : List Binding) (w : Option Ty)
    → function_of t d at bound w ≡ function_typing (head_of t) (with_meanings (parts_of t)) (place_of t) d at bound w
function_of_is t d at bound w = ap (λ m. m.function d at bound w) (meant_is t)

pub contract_of_is : (t : Node) (at : Environment) (bound : List Binding)
    → contract_of t at bound ≡ contracting (head_of t) (with_meanings (parts_of t)) (place_of t) at bound
contract_of_is t at bound = ap (λ m. m.contract at bound) (meant_is t)

pub arguments_of_is : (t : Node) (vs : List TypedName) (p : Place) (at : Environment) (bound : List Binding)
    → arguments_of t vs p at bound ≡ arguing (head_of t) (with_meanings (parts_of t)) vs p at bound
arguments_of_is t vs p at bound = ap (λ m. m.arguments vs p at bound) (meant_is t)

pub bare_meanings : (ts : List Node) → bare (with_meanings ts) ≡ ts
bare_meanings [] = refl
bare_meanings (t ∷ ts) = ap (λ us. t ∷ us) (bare_meanings ts)

pub length_meanings : (ts : List Node) → length (with_meanings ts) ≡ length ts
length_meanings [] = refl
length_meanings (t ∷ ts) = ap suc (length_meanings ts)

-- a node at a place, with what it means
pub meant_at : (ts : List Node) (i : ℕ) (t : Node) → slice_get ts i ≡ Some t → slice_get (with_meanings ts) i ≡ Some (t, meant t)
meant_at [] i t h = cc
meant_at (u ∷ ts) zero t h = ap (λ o. option_map (λ x. (x, meant x)) o) h
meant_at (u ∷ ts) (suc i) t h = meant_at ts i t h

pub none_at : (ts : List Node) (i : ℕ) → slice_get ts i ≡ None → slice_get (with_meanings ts) i ≡ None
none_at [] i h = refl
none_at (u ∷ ts) zero h = cc
none_at (u ∷ ts) (suc i) h = none_at ts i h
