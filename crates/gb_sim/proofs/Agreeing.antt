-- Memories that agree on variables.
use Rattle.std.proofs.Common.{◌≡◌, inl, inr, ◌⊎◌, Bool, true, false, not, if◌then◌else◌, List, [], ◌∷◌, ◌++◌, append_assoc, refl, ap, sym, ◌∙◌, subst}
use Rattle.std.proofs.lemmas.Bool.{and_parts}
use Rattle.gb_core.specs.declared.var.Var.{Var}
use Rattle.gb_core.proofs.SameTypes.{ty_eq-Decides}
use Rattle.gb_core.specs.SameTypes.{ty_eq}
use Rattle.gb_terms.proofs.Equality.{var_eq-Decides}
use Rattle.gb_terms.specs.Equal.{var_eq}
use Rattle.gb_walk.specs.Clash.{comes_before}
use Rattle.gb_meaning.specs.Memory.{Memory}
use Rattle.gb_meaning.specs.Values.{Types}
use Rattle.gb_laws.specs.Cells.{Cell, Cells, In, Agree, Among, cells_of}
use Rattle.gb_laws.proofs.Cells.{in_left, in_right}
use Rattle.gb_labels.specs.declared.reads.TypedVar.{TypedVar}
use Rattle.gb_labels.specs.Reads.{Vars}
use Rattle.gb_forms.specs.Ordered.{is_same, joined, placed}
use Rattle.gb_sim.specs.Need.{is_among, without}

-- the cells of variables
abbrev pub cells : Types → Vars → Cells
cells t [] = []
cells t (x ∷ V) = cells_of t x.var x.ty ++ cells t V

-- the memories hold the same for these variables
abbrev pub AgreeOn : Types → Vars → Memory → Memory → Type 0
AgreeOn t V m n = Agree t (Among (cells t V)) m n

pub in_either : (c : Cell) (l r : Cells) → In c (l ++ r) → In c l ⊎ In c r
in_either c [] r i = inr i
in_either c (d ∷ l) r (inl e) = inl (inl e)
in_either c (d ∷ l) r (inr i) = later (in_either c l r i)
  where
    later : In c l ⊎ In c r → In c (d ∷ l) ⊎ In c r
    later (inl j) = inl (inr j)
    later (inr j) = inr j

pub same_is : (x y : TypedVar) → is_same x y ≡ true → x ≡ y
same_is x y e =
    let k = and_parts (var_eq x.var y.var) (ty_eq x.ty y.ty) e in
    let v = (var_eq-Decides x.var y.var).0 k.0 in
    let t = (ty_eq-Decides x.ty y.ty).0 k.1 in
    λ i. record { var = v i; ty = t i }

module _ (t : Types) where
  pub cells_append : (V W : Vars) → cells t (V ++ W) ≡ cells t V ++ cells t W
  cells_append [] W = refl
  cells_append (x ∷ V) W = ap (λ l. cells_of t x.var x.ty ++ l) (cells_append V W) ∙ sym (append_assoc (cells_of t x.var x.ty) (cells t V) (cells t W))

  abbrev Has : Cell → Vars → Type 0
  Has c V = In c (cells t V)

  choose : (P : Vars → Type 0) (b s : Bool) (u v w : Vars) → P u → (s ≡ true → P v) → P w → P (if b then u else if s then v else w)
  choose P true s u v w p q r = p
  choose P false true u v w p q r = q refl
  choose P false false u v w p q r = r

  -- a variable in its place
  placed_new : (x : TypedVar) (V : Vars) (c : Cell) → In c (cells_of t x.var x.ty) → Has c (placed x V)
  placed_new x [] c i = in_left c (cells_of t x.var x.ty) [] i
  placed_new x (y ∷ V) c i =
      choose (Has c) (comes_before x.var y.var) (is_same x y) (x ∷ y ∷ V) (y ∷ V) (y ∷ placed x V)
      (in_left c (cells_of t x.var x.ty) (cells t (y ∷ V)) i)
      (λ e. in_left c (cells_of t y.var y.ty) (cells t V) (subst (λ z. In c (cells_of t z.var z.ty)) (same_is x y e) i))
      (in_right c (cells_of t y.var y.ty) (cells t (placed x V)) (placed_new x V c i))

  placed_old : (x : TypedVar) (V : Vars) (c : Cell) → Has c V → Has c (placed x V)
  placed_old x [] c i = absurd i
  placed_old x (y ∷ V) c i =
      choose (Has c) (comes_before x.var y.var) (is_same x y) (x ∷ y ∷ V) (y ∷ V) (y ∷ placed x V)
      (in_right c (cells_of t x.var x.ty) (cells t (y ∷ V)) i)
      (λ e. i)
      (elim (in_either c (cells_of t y.var y.ty) (cells t V) i) [
        | inl j ↦ in_left c (cells_of t y.var y.ty) (cells t (placed x V)) j
        | inr j ↦ in_right c (cells_of t y.var y.ty) (cells t (placed x V)) (placed_old x V c j)
      ])

  joined_old : (W V : Vars) (c : Cell) → Has c V → Has c (joined W V)
  joined_old [] V c i = i
  joined_old (x ∷ W) V c i = placed_old x (joined W V) c (joined_old W V c i)

  joined_new : (W V : Vars) (c : Cell) → Has c W → Has c (joined W V)
  joined_new [] V c i = absurd i
  joined_new (x ∷ W) V c i = elim (in_either c (cells_of t x.var x.ty) (cells t W) i) [
    | inl j ↦ placed_new x (joined W V) c j
    | inr j ↦ placed_old x (joined W V) c (joined_new W V c j)
  ]

  -- what is left where some variables leave
  pub record IsLeaving (xs : List Var) (c : Cell) : Type 0 where
    pub variable : TypedVar
    pub among : is_among xs variable ≡ true
    pub there : In c (cells_of t variable.var variable.ty)

  pub kept_or_left : (xs : List Var) (V : Vars) (c : Cell) → Has c V → Has c (without xs V) ⊎ IsLeaving xs c
  kept_or_left xs [] c i = absurd i
  kept_or_left xs (y ∷ V) c i = by_test (is_among xs y) refl (λ j. kept_or_left xs V c j) (in_either c (cells_of t y.var y.ty) (cells t V) i)
    where
      further : Has c (without xs V) ⊎ IsLeaving xs c → Has c (y ∷ without xs V) ⊎ IsLeaving xs c
      further (inl k) = inl (in_right c (cells_of t y.var y.ty) (cells t (without xs V)) k)
      further (inr k) = inr k

      by_test : (b : Bool) → is_among xs y ≡ b → (Has c V → Has c (without xs V) ⊎ IsLeaving xs c) → In c (cells_of t y.var y.ty) ⊎ Has c V →
          Has c (if not b then y ∷ without xs V else without xs V) ⊎ IsLeaving xs c
      by_test true e go (inl j) = inr (record { variable = y; among = e; there = j })
      by_test true e go (inr j) = go j
      by_test false e go (inl j) = inl (in_left c (cells_of t y.var y.ty) (cells t (without xs V)) j)
      by_test false e go (inr j) = further (go j)

  module _ (m n : Memory) where
    pub agree_new : (W V : Vars) → AgreeOn t (joined W V) m n → AgreeOn t W m n
    agree_new W V a c i = a c (joined_new W V c i)

    pub agree_old : (W V : Vars) → AgreeOn t (joined W V) m n → AgreeOn t V m n
    agree_old W V a c i = a c (joined_old W V c i)

    pub agree_front : (V W : Vars) → AgreeOn t (V ++ W) m n → AgreeOn t V m n
    agree_front V W a c i = a c (subst (In c) (sym (cells_append V W)) (in_left c (cells t V) (cells t W) i))

    pub agree_rest : (V W : Vars) → AgreeOn t (V ++ W) m n → AgreeOn t W m n
    agree_rest V W a c i = a c (subst (In c) (sym (cells_append V W)) (in_right c (cells t V) (cells t W) i))
