-- The types of trees, from their parts.
use Rattle.std.proofs.Common.{◌≡◌, List, [], ◌∷◌, map, refl, ap, sym, subst}
use Rattle.gb_core.specs.declared.ty.Ty.{Ty}
use Rattle.gb_terms.specs.declared.term.Term.{Term}
use Rattle.gb_terms.specs.declared.term.Head.{Head}
use Rattle.gb_terms.specs.Make.{node}
use Rattle.gb_meaning.specs.Trees.{row}
use Rattle.gb_meaning.proofs.Nodes.{term_is_node}
use Rattle.gb_laws.specs.Typing.{Context, types_of, IsHead, inner, IsTyped, AreTyped, AllTyped}
use Rattle.gb_meaning.specs.Written.{type_of}

row_types : (ts : List Term) → types_of (row ts) ≡ map type_of ts
row_types [] = refl
row_types (t ∷ ts) = ap (λ z. type_of t ∷ z) (row_types ts)

row_typed : (c d : Context) (ts : List Term) → AllTyped c d ts → AreTyped c d (row ts)
row_typed c d [] w = tt
row_typed c d (t ∷ []) w = w
row_typed c d (t ∷ u ∷ ts) w = (w.0, row_typed c d (u ∷ ts) w.1)

each_typed : (c d : Context) (ts : List Term) → AreTyped c d (row ts) → AllTyped c d ts
each_typed c d [] w = tt
each_typed c d (t ∷ []) w = w
each_typed c d (t ∷ u ∷ ts) w = (w.0, each_typed c d (u ∷ ts) w.1)

module _ (c : Context) (h : Head) (ts : List Term) (ty : Ty) where
  pub node_typed : IsHead c h (map type_of ts) ty → AllTyped c (inner c h (map type_of ts)) ts → IsTyped c (node h ts ty)
  node_typed k w =
      subst (IsTyped c) (term_is_node h ts ty)
      (subst (λ z. IsHead c h z ty × AreTyped c (inner c h z) (row ts)) (sym (row_types ts)) (k, row_typed c (inner c h (map type_of ts)) ts w))

  parts_typed : IsTyped c (node h ts ty) → IsHead c h (map type_of ts) ty × AreTyped c (inner c h (map type_of ts)) (row ts)
  parts_typed w = subst (λ z. IsHead c h z ty × AreTyped c (inner c h z) (row ts)) (row_types ts) (subst (IsTyped c) (sym (term_is_node h ts ty)) w)

  pub head_typed : IsTyped c (node h ts ty) → IsHead c h (map type_of ts) ty
  head_typed w = (parts_typed w).0

  pub arguments_typed : IsTyped c (node h ts ty) → AllTyped c (inner c h (map type_of ts)) ts
  arguments_typed w = each_typed c (inner c h (map type_of ts)) ts (parts_typed w).1

pub type_of_node : (h : Head) (ts : List Term) (ty : Ty) → type_of (node h ts ty) ≡ ty
type_of_node h ts ty = ap type_of (sym (term_is_node h ts ty))
