-- A write leaves what doesn't clash with it.
use Rattle.std.proofs.Common.{◌≡◌, ◌⊎◌, inl, inr, false, List, [], ◌∷◌, map, refl, ap, sym, ◌∙◌}
use Rattle.std.proofs.lemmas.Bool.{false≢true}
use Rattle.std.specs.List.{list_any}
use Rattle.gb_core.specs.declared.ty.Ty.{Ty}
use Rattle.gb_core.specs.declared.var.Var.{Var}
use Rattle.gb_core.specs.declared.var.Var.TheVariants as var
use Rattle.gb_core.specs.declared.value.Value.{Value}
use Rattle.gb_core.specs.declared.value.Value.TheVariants.{Many}
use Rattle.gb_core.specs.Numbering.{parts_of}
use Rattle.gb_terms.specs.Equal.{var_eq}
use Rattle.gb_terms.specs.declared.module.Mexp.TheVariants.{Name as named}
use Rattle.gb_meaning.specs.Names.{get}
use Rattle.gb_meaning.specs.Values.{Global, Types, fit}
use Rattle.gb_meaning.specs.Memory.{Memory, read_global, write_global, write_globals}
use Rattle.gb_meaning.specs.Setting.{Setting}
use Rattle.gb_laws.specs.Writes.{key_of_global}
use Rattle.gb_laws.proofs.Cells.{get_at-other}
use Rattle.gb_meaning.specs.Footprints.{is_global}
use Rattle.gb_typing.specs.Puts.{IsWhole, Leaves, share, clash}
use Rattle.gb_typing.proofs.Globals.{or_false, same_global, none_of, globals_left}
use Rattle.gb_typing.proofs.Writing.{read_other}

neither : {P : Type 0} → ⊥ ⊎ ⊥ → P
neither (inl i) = absurd i
neither (inr i) = absurd i

frame_left : (xs : List Global) (vs : List Value) (m : Memory) → (write_globals m xs vs).frame ≡ m.frame
frame_left [] vs m = refl
frame_left (x ∷ xs) [] m = refl
frame_left (x ∷ xs) (v ∷ vs) m = frame_left xs vs (write_global m x.parent x.name v)

module _ (t : Types) where
  one_left : (x y : Global) → is_global x y ≡ false → (v : Value) (m : Memory) → read_global t (write_global m x.parent x.name v) y ≡ read_global t m y
  one_left x y e v m = ap (fit t y.ty) (get_at-other m (key_of_global x) v (key_of_global y) (λ k. false≢true (sym e ∙ same_global x y (sym k))))

  each_left : (x : Global) (ys : List Global) → list_any (is_global x) ys ≡ false → (v : Value) (m : Memory) →
      map (read_global t (write_global m x.parent x.name v)) ys ≡ map (read_global t m) ys
  each_left x [] e v m = refl
  each_left x (y ∷ ys) e v m =
      let k = or_false (is_global x y) (list_any (is_global x) ys) e in
      λ i. one_left x y k.0 v m i ∷ each_left x ys k.1 v m i

  all_left : (xs ys : List Global) → list_any (λ x. list_any (is_global x) ys) xs ≡ false → (vs : List Value) (m : Memory) →
      map (read_global t (write_globals m xs vs)) ys ≡ map (read_global t m) ys
  all_left [] ys e vs m = refl
  all_left (x ∷ xs) ys e [] m = refl
  all_left (x ∷ xs) ys e (v ∷ vs) m =
      let k = or_false (list_any (is_global x) ys) (list_any (λ x. list_any (is_global x) ys) xs) e in
      all_left xs ys k.1 vs (write_global m x.parent x.name v) ∙ each_left x ys k.0 v m

module _ (g : Setting) where
  -- where one of them is all globals of a module
  whole_left : (x y : Var) (t : Ty) → share g x y ≡ false → IsWhole x ⊎ IsWhole y → Leaves g x y t
  whole_left (var.Glob a) (var.Global p n) t e i m v =
      let y : Global = record { parent = p; name = n; ty = t } in
      let xs = g.types.footprint (named a) in
      ap (fit g.types t) (globals_left (key_of_global y) xs (parts_of v) (none_of y xs e) m)
  whole_left (var.Glob a) (var.Local y) t e i m v = ap (λ f. fit g.types t (get f (y ∷ []))) (frame_left (g.types.footprint (named a)) (parts_of v) m)
  whole_left (var.Glob a) (var.Glob b) t e i m v = ap Many (all_left g.types (g.types.footprint (named a)) (g.types.footprint (named b)) e (parts_of v) m)
  whole_left (var.Global p n) (var.Glob b) t e i m v = ap Many (each_left g.types (record { parent = p; name = n; ty = t }) (g.types.footprint (named b)) e v m)
  whole_left (var.Local x) (var.Glob b) t e i m v = refl
  whole_left (var.Global p n) (var.Global a b) t e i m v = neither i
  whole_left (var.Global p n) (var.Local y) t e i m v = neither i
  whole_left (var.Local x) (var.Global a b) t e i m v = neither i
  whole_left (var.Local x) (var.Local y) t e i m v = neither i

  pub left_of_no_clash : (x y : Var) (t : Ty) → clash g x y ≡ false → Leaves g x y t
  left_of_no_clash x y t e m v =
      let k = or_false (var_eq x y) (share g x y) e in
      read_other g.types m v x y t (λ i. whole_left x y t k.1 i m v) k.0
