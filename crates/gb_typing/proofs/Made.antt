-- Nodes of well-typed terms.
use Rattle.std.proofs.Common.{◌≡◌, List, [], ◌∷◌, map, refl, ap, sym, subst}
use Rattle.gb_core.specs.declared.ty.Ty.{Ty}
use Rattle.gb_terms.specs.declared.decl.TypedName.{TypedName}
use Rattle.gb_terms.specs.declared.term.Term.{Term}
use Rattle.gb_terms.specs.declared.term.Head.{Head}
use Rattle.gb_terms.specs.Make.{node}
use Rattle.gb_meaning.specs.Trees.{row}
use Rattle.gb_meaning.specs.Written.{type_of}
use Rattle.gb_meaning.proofs.Nodes.{term_is_node}
use Rattle.gb_laws.specs.Typing.{types_of, IsHead}
use Rattle.gb_laws.proofs.Nodes.{type_of_node}
use Rattle.gb_typing.specs.Context.{Context, erased}
use Rattle.gb_typing.specs.Changes.{Made}
use Rattle.gb_typing.specs.Typing.{IsNamed, first, middle, last, IsTyped, AreTyped, AllTyped}

row_types : (ts : List Term) → types_of (row ts) ≡ map type_of ts
row_types [] = refl
row_types (t ∷ ts) = ap (λ z. type_of t ∷ z) (row_types ts)

row_typed : (a b d : Context) (ts : List Term) → AllTyped a b d ts → AreTyped a b d (row ts)
row_typed a b d [] w = tt
row_typed a b d (t ∷ []) w = w
row_typed a b d (t ∷ u ∷ ts) w = (w.0, row_typed b b d (u ∷ ts) w.1)

each_typed : (a b d : Context) (ts : List Term) → AreTyped a b d (row ts) → AllTyped a b d ts
each_typed a b d [] w = tt
each_typed a b d (t ∷ []) w = w
each_typed a b d (t ∷ u ∷ ts) w = (w.0, each_typed b b d (u ∷ ts) w.1)

-- what is asked of a node
abbrev pub IsNode : Context → Head → List Ty → List Term → Ty → Type 0
IsNode c h us ts ty = IsHead (erased c) h us ty × IsNamed c h ty × (ls : List TypedName) × AllTyped (first c h) (middle c h) (last c ls h us) ts

module _ (c : Context) (h : Head) (ts : List Term) (ty : Ty) where
  pub node_typed : IsNode c h (map type_of ts) ts ty → IsTyped c (node h ts ty)
  node_typed w =
      subst (IsTyped c) (term_is_node h ts ty)
      (subst (λ z. IsHead (erased c) h z ty × IsNamed c h ty × (ls : List TypedName) × AreTyped (first c h) (middle c h) (last c ls h z) (row ts)) (sym (row_types ts))
      (w.0, w.1, w.2, row_typed (first c h) (middle c h) (last c w.2 h (map type_of ts)) ts w.3))

  pub parts_typed : IsTyped c (node h ts ty) → IsNode c h (map type_of ts) ts ty
  parts_typed w =
      let x = subst (λ z. IsHead (erased c) h z ty × IsNamed c h ty × (ls : List TypedName) × AreTyped (first c h) (middle c h) (last c ls h z) (row ts)) (row_types ts) (subst (IsTyped c) (sym (term_is_node h ts ty)) w) in
      (x.0, x.1, x.2, each_typed (first c h) (middle c h) (last c x.2 h (map type_of ts)) ts x.3)

-- terms of these types: the first, those between, and the last, each in its context
abbrev pub EachMade : Context → Context → Context → List Ty → List Term → Type 0
EachMade a b d [] [] = Unit {0}
EachMade a b d (u ∷ []) (t ∷ []) = Made d u t
EachMade a b d (u ∷ v ∷ us) (t ∷ w ∷ ts) = Made a u t × EachMade b b d (v ∷ us) (w ∷ ts)
EachMade a b d _ _ = ⊥

made_types : (a b d : Context) (us : List Ty) (ts : List Term) → EachMade a b d us ts → map type_of ts ≡ us
made_types a b d [] [] m = refl
made_types a b d [] (t ∷ ts) m = absurd m
made_types a b d (u ∷ []) [] m = absurd m
made_types a b d (u ∷ []) (t ∷ []) m = ap (λ z. z ∷ []) m.written
made_types a b d (u ∷ []) (t ∷ w ∷ ts) m = absurd m
made_types a b d (u ∷ v ∷ us) [] m = absurd m
made_types a b d (u ∷ v ∷ us) (t ∷ []) m = absurd m
made_types a b d (u ∷ v ∷ us) (t ∷ w ∷ ts) m = let one = m.0.written in let rest = made_types b b d (v ∷ us) (w ∷ ts) m.1 in λ i. one i ∷ rest i

made_typed : (a b d : Context) (us : List Ty) (ts : List Term) → EachMade a b d us ts → AllTyped a b d ts
made_typed a b d [] [] m = tt
made_typed a b d [] (t ∷ ts) m = absurd m
made_typed a b d (u ∷ []) [] m = absurd m
made_typed a b d (u ∷ []) (t ∷ []) m = m.typed
made_typed a b d (u ∷ []) (t ∷ w ∷ ts) m = absurd m
made_typed a b d (u ∷ v ∷ us) [] m = absurd m
made_typed a b d (u ∷ v ∷ us) (t ∷ []) m = absurd m
made_typed a b d (u ∷ v ∷ us) (t ∷ w ∷ ts) m = (m.0.typed, made_typed b b d (v ∷ us) (w ∷ ts) m.1)

pub made_node : (c : Context) (h : Head) (us : List Ty) (ts : List Term) (ty : Ty) → IsHead (erased c) h us ty → IsNamed c h ty → (ls : List TypedName) →
    EachMade (first c h) (middle c h) (last c ls h us) us ts → Made c ty (node h ts ty)
made_node c h us ts ty w s ls m =
    let e : map type_of ts ≡ us = made_types (first c h) (middle c h) (last c ls h us) us ts m in
    record {
      typed = node_typed c h ts ty (subst (λ z. IsNode c h z ts ty) (sym e) (w, s, ls, made_typed (first c h) (middle c h) (last c ls h us) us ts m));
      written = type_of_node h ts ty;
    }
