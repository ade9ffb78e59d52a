-- What the same statement writes on both sides.
use Rattle.std.proofs.Common.{◌≡◌, ◌≢◌, inl, inr, ◌⊎◌, Bool, true, false, ◌||◌, List, [], ◌∷◌, map, length, Some, refl, ap, sym, ◌∙◌, subst, pred}
use Rattle.std.specs.List.{list_any}
use Rattle.std.proofs.lemmas.Bool.{false≢true, or_parts}
use Rattle.std.proofs.lemmas.Option.{none-some}
use Rattle.gb_core.specs.declared.ty.Ty.{Ty}
use Rattle.gb_core.specs.declared.ty.Ty.TheVariants.{Bool as bool_ty}
use Rattle.gb_core.specs.declared.value.Value.{Value}
use Rattle.gb_core.specs.declared.var.Var.{Var}
use Rattle.gb_core.specs.declared.var.Var.TheVariants as var
use Rattle.gb_core.specs.Numbering.{parts_of}
use Rattle.gb_terms.specs.declared.decl.TypedName.{TypedName}
use Rattle.gb_terms.specs.declared.module.Mexp.TheVariants.{Name as named}
use Rattle.gb_terms.specs.Equal.{var_eq}
use Rattle.gb_terms.proofs.Equality.{var_eq-Decides}
use Rattle.gb_walk.specs.Clash.{Exclusions, clashes}
use Rattle.gb_meaning.specs.Memory.{Memory, assigned, write, write_each}
use Rattle.gb_meaning.specs.Names.{Name, Path}
use Rattle.gb_meaning.specs.Setting.{Setting}
use Rattle.gb_meaning.specs.State.{State}
use Rattle.gb_meaning.specs.Values.{Global, Types, fit, has}
use Rattle.gb_laws.specs.Cells.{Key, Cell, In, Among, cells_of, get_at, set_at, global_cell}
use Rattle.gb_laws.specs.Cells.Key.{global, local}
use Rattle.gb_laws.specs.Writes.{key_of_global, keys_of, IsNone, Spares}
use Rattle.gb_laws.proofs.Cells.{key_discrete, get_at-same, get_at-other, write_related}
use Rattle.gb_laws.proofs.Kept.{assigned_keeps, kept_agrees, kept_self}
use Rattle.gb_laws.proofs.Leaves.{assigned_left}
use Rattle.gb_laws.specs.Operators.{parts_in}
use Rattle.gb_laws.specs.Programs.{HaveTypes, Take, variable_type}
use Rattle.gb_meaning.specs.Footprints.{is_global}
use Rattle.gb_typing.specs.Context.{Context, erased}
use Rattle.gb_typing.specs.Forms.{IsKeptOff}
use Rattle.gb_typing.proofs.ClashFree.{no_share, none_both}
use Rattle.gb_typing.proofs.Globals.{none_of, same_global}
use Rattle.gb_prog.proofs.Parts.{as_many, same_length}
use Rattle.gb_labels.specs.declared.reads.TypedVar.{TypedVar}
use Rattle.gb_labels.specs.Reads.{Vars}
use Rattle.gb_sim.specs.Need.{concern, concerns, is_among, without}
use Rattle.gb_sim.proofs.Agreeing.{AgreeOn, IsLeaving, cells, in_either, kept_or_left}

-- The place is the same in both memories.
abbrev SameAt : Key → Memory → Memory → Type 0
SameAt q m n = get_at m q ≡ get_at n q

set_alike : (q k : Key) (v : Value) (m n : Memory) → SameAt q m n → SameAt q (set_at m k v) (set_at n k v)
set_alike q k v m n e = elim (key_discrete q k) [
  | yes p ↦ ap (get_at (set_at m k v)) p ∙ get_at-same m k v ∙ sym (ap (get_at (set_at n k v)) p ∙ get_at-same n k v)
  | no h ↦ get_at-other m k v q h ∙ e ∙ sym (get_at-other n k v q h)
]

-- a value has a part for each of several variables
abbrev pub IsEnough : List Var → Value → Type 0
IsEnough (x ∷ y ∷ xs) v = length (parts_of v) ≡ length (x ∷ y ∷ xs)
IsEnough _ v = Unit {0}

pub enough : (g : Setting) (s : State) (m : Memory) (c : Context) (ls : List TypedName) (xs : List Var) (u : Ty) → Take (erased c) ls xs u → (v : Value) → has g.types u v ≡ true → IsEnough xs v
enough g s m c ls [] u h v k = tt
enough g s m c ls (x ∷ []) u h v k = tt
enough g s m c ls (x ∷ y ∷ xs) u h v k = as_many g s m c ls u x (y ∷ xs) v h k ∙ same_length c ls (x ∷ y ∷ xs) (parts_in u) h

module _ (g : Setting) (c : Context) (ls : List TypedName) where
  abbrev t : Types
  t = g.types

  -- where a variable is written
  write_puts : (x : Var) (u ty : Ty) → variable_type (erased c) ls x ≡ Some u → (v : Value) (m n : Memory) (d : Cell) → In d (cells_of t x ty) → SameAt d.key (write t m x v) (write t n x v)
  write_puts (var.Global p x) u ty e v m n d (inl i) =
      let k : Key = global (p ∷ x ∷ []) in
      subst (λ z. SameAt z (write t m (var.Global p x) v) (write t n (var.Global p x) v)) (sym (ap (λ z. z.key) i)) (get_at-same m k v ∙ sym (get_at-same n k v))
  write_puts (var.Global p x) u ty e v m n d (inr i) = absurd i
  write_puts (var.Local x) u ty e v m n d (inl i) =
      let k : Key = local (x ∷ []) in
      subst (λ z. SameAt z (write t m (var.Local x) v) (write t n (var.Local x) v)) (sym (ap (λ z. z.key) i)) (get_at-same m k v ∙ sym (get_at-same n k v))
  write_puts (var.Local x) u ty e v m n d (inr i) = absurd i
  write_puts (var.Glob a) u ty e v m n d i = absurd (none-some u e)

  each_kept : (q : Key) (xs : List Var) (vs : List Value) (m n : Memory) → SameAt q m n → SameAt q (write_each t m xs vs) (write_each t n xs vs)
  each_kept q [] vs m n a = a
  each_kept q (x ∷ xs) [] m n a = a
  each_kept q (x ∷ xs) (v ∷ vs) m n a = each_kept q xs vs (write t m x v) (write t n x v) (write_related t (SameAt q) (set_alike q) x v m n a)

  module _ (y : TypedVar) (d : Cell) (there : In d (cells_of t y.var y.ty)) where
    at_first : (x : Var) (u : Ty) → variable_type (erased c) ls x ≡ Some u → var_eq x y.var ≡ true → (v : Value) (m n : Memory) → SameAt d.key (write t m x v) (write t n x v)
    at_first x u h e v m n = write_puts x u y.ty h v m n d (subst (λ z. In d (cells_of t z y.ty)) (sym ((var_eq-Decides x y.var).0 e)) there)

    each_puts : (xs : List Var) (vs : List Value) (us : List Ty) → HaveTypes (erased c) ls xs us → length vs ≡ length xs → is_among xs y ≡ true → (m n : Memory) →
        SameAt d.key (write_each t m xs vs) (write_each t n xs vs)
    each_puts [] vs us h e a m n = cc
    each_puts (x ∷ xs) [] us h e a m n = cc
    each_puts (x ∷ xs) (v ∷ vs) [] h e a m n = absurd h
    each_puts (x ∷ xs) (v ∷ vs) (u ∷ us) h e a m n = by_test (var_eq x y.var) refl (λ k. each_puts xs vs us h.1 (ap pred e) k (write t m x v) (write t n x v)) a
      where
        by_test : (b : Bool) → var_eq x y.var ≡ b → (is_among xs y ≡ true → SameAt d.key (write_each t (write t m x v) xs vs) (write_each t (write t n x v) xs vs)) →
            (b || is_among xs y) ≡ true → SameAt d.key (write_each t (write t m x v) xs vs) (write_each t (write t n x v) xs vs)
        by_test true f go k = each_kept d.key xs vs (write t m x v) (write t n x v) (at_first x u h.0 f v m n)
        by_test false f go k = go k

    assigned_puts : (xs : List Var) (u : Ty) → Take (erased c) ls xs u → (v : Value) → IsEnough xs v → is_among xs y ≡ true → (m n : Memory) →
        SameAt d.key (assigned t m xs v) (assigned t n xs v)
    assigned_puts [] u h v k a m n = cc
    assigned_puts (x ∷ []) u h v k a m n = at_first x u h (only (var_eq x y.var) a) v m n
      where
        only : (b : Bool) → (b || false) ≡ true → b ≡ true
        only true e = refl
        only false e = e
    assigned_puts (x ∷ z ∷ xs) u h v k a m n = each_puts (x ∷ z ∷ xs) (parts_of v) (parts_in u) h k a m n

  -- the same value is assigned
  pub written_agree : (xs : List Var) (u : Ty) → Take (erased c) ls xs u → (v : Value) → IsEnough xs v → (V : Vars) (m n : Memory) → AgreeOn t (without xs V) m n →
      AgreeOn t V (assigned t m xs v) (assigned t n xs v)
  written_agree xs u h v k V m n a d i = by_place (kept_or_left t xs V d i)
    where
      by_place : In d (cells t (without xs V)) ⊎ IsLeaving t xs d → fit t d.ty (get_at (assigned t m xs v) d.key) ≡ fit t d.ty (get_at (assigned t n xs v) d.key)
      by_place (inl j) = kept_agrees t (Among (cells t (without xs V))) m n (assigned t m xs v) (assigned t n xs v) a (assigned_keeps m n t xs v v refl m n (kept_self m n)) d j
      by_place (inr l) = ap (fit t d.ty) (assigned_puts l.variable d l.there xs u h v k l.among m n)

-- variables that don't clash have no place in common

abbrev as_var : Key → Var
as_var (global (m ∷ x ∷ ns)) = var.Global m x
as_var (global ns) = var.Local []
as_var (local (x ∷ ns)) = var.Local x
as_var (local []) = var.Local []

abbrev is_local : Key → Bool
is_local (local y) = true
is_local (global y) = false

local_none : (p : Path) (fs : List Global) → IsNone (local p) (map key_of_global fs)
local_none p [] = tt
local_none p (f ∷ fs) = ((λ e. false≢true (sym (ap is_local e))), local_none p fs)

all_global : (fs : List Global) (d : Cell) → In d (map global_cell fs) → is_local d.key ≡ false
all_global [] d i = absurd i
all_global (f ∷ fs) d (inl e) = ap (λ z. is_local z.key) e
all_global (f ∷ fs) d (inr i) = all_global fs d i

cell_other : (x : Global) (fs : List Global) → list_any (is_global x) fs ≡ false → (d : Cell) → In d (map global_cell fs) → d.key ≢ key_of_global x
cell_other x [] e d i = absurd i
cell_other x (f ∷ fs) e d (inl i) = λ p. false≢true (sym (or_parts (is_global x f) (list_any (is_global x) fs) e).0 ∙ same_global x f (sym p ∙ ap (λ z. z.key) i))
cell_other x (f ∷ fs) e d (inr i) = cell_other x fs (or_parts (is_global x f) (list_any (is_global x) fs) e).1 d i

cells_other : (xs ys : List Global) → list_any (λ z. list_any (is_global z) xs) ys ≡ false → (d : Cell) → In d (map global_cell ys) → IsNone d.key (map key_of_global xs)
cells_other xs [] e d i = absurd i
cells_other xs (y ∷ ys) e d (inl i) =
    subst (λ k. IsNone k (map key_of_global xs)) (sym (ap (λ z. z.key) i)) (none_of y xs (or_parts (list_any (is_global y) xs) (list_any (λ z. list_any (is_global z) xs) ys) e).0)
cells_other xs (y ∷ ys) e d (inr i) = cells_other xs ys (or_parts (list_any (is_global y) xs) (list_any (λ z. list_any (is_global z) xs) ys) e).1 d i

module _ (g : Setting) (ex : Exclusions) (off : IsKeptOff ex g) where
  abbrev own : Name → List Global
  own a = g.types.footprint (named a)

  abbrev global_named : Name → Name → Global
  global_named m x = record { parent = m; name = x; ty = bool_ty }

  apart_cell : (x y : Var) (ty : Ty) → clashes ex x y ≡ false → (d : Cell) → In d (cells_of g.types y ty) → IsNone d.key (keys_of g.types x)
  apart_cell (var.Global m x) (var.Global n y) ty e d (inl i) =
      ((λ p. false≢true (sym e ∙ (var_eq-Decides (var.Global m x) (var.Global n y)).1 (ap as_var (sym p ∙ ap (λ z. z.key) i)))), tt)
  apart_cell (var.Global m x) (var.Local y) ty e d (inl i) = ((λ p. false≢true (ap is_local (sym p ∙ ap (λ z. z.key) i))), tt)
  apart_cell (var.Global m x) (var.Glob b) ty e d i = (cell_other (global_named m x) (own b) (no_share g ex off (var.Global m x) (var.Glob b) e) d i, tt)
  apart_cell (var.Local x) (var.Global n y) ty e d (inl i) = ((λ p. false≢true (ap is_local (sym (ap (λ z. z.key) i) ∙ p))), tt)
  apart_cell (var.Local x) (var.Local y) ty e d (inl i) =
      ((λ p. false≢true (sym e ∙ (var_eq-Decides (var.Local x) (var.Local y)).1 (ap as_var (sym p ∙ ap (λ z. z.key) i)))), tt)
  apart_cell (var.Local x) (var.Glob b) ty e d i = ((λ p. false≢true (sym (all_global (g.types.footprint (named b)) d i) ∙ ap is_local p)), tt)
  apart_cell (var.Glob a) (var.Global n y) ty e d (inl i) =
      subst (λ k. IsNone k (keys_of g.types (var.Glob a))) (sym (ap (λ z. z.key) i)) (none_of (global_named n y) (own a) (no_share g ex off (var.Glob a) (var.Global n y) e))
  apart_cell (var.Glob a) (var.Global n y) ty e d (inr i) = absurd i
  apart_cell (var.Glob a) (var.Local y) ty e d (inl i) = subst (λ k. IsNone k (keys_of g.types (var.Glob a))) (sym (ap (λ z. z.key) i)) (local_none (y ∷ []) (g.types.footprint (named a)))
  apart_cell (var.Glob a) (var.Glob b) ty e d i = cells_other (own a) (own b) (none_both (own b) (own a) (no_share g ex off (var.Glob a) (var.Glob b) e)) d i
  apart_cell (var.Global m x) (var.Global n y) ty e d (inr i) = absurd i
  apart_cell (var.Global m x) (var.Local y) ty e d (inr i) = absurd i
  apart_cell (var.Local x) (var.Global n y) ty e d (inr i) = absurd i
  apart_cell (var.Local x) (var.Local y) ty e d (inr i) = absurd i
  apart_cell (var.Glob a) (var.Local y) ty e d (inr i) = absurd i

  none_there : (x : Var) (V : Vars) → concerns ex x V ≡ false → (d : Cell) → In d (cells g.types V) → IsNone d.key (keys_of g.types x)
  none_there x [] e d i = absurd i
  none_there x (y ∷ V) e d i = elim (in_either d (cells_of g.types y.var y.ty) (cells g.types V) i) [
    | inl j ↦ apart_cell x y.var y.ty (or_parts (clashes ex x y.var) (concerns ex x V) e).0 d j
    | inr j ↦ none_there x V (or_parts (clashes ex x y.var) (concerns ex x V) e).1 d j
  ]

  pub spared : (xs : List Var) (V : Vars) → concern ex xs V ≡ false → (d : Cell) → In d (cells g.types V) → Spares g.types xs d.key
  spared [] V e d i = tt
  spared (x ∷ xs) V e d i = let z = or_parts (concerns ex x V) (concern ex xs V) e in (none_there x V z.0 d i, spared xs V z.1 d i)

  -- what is assigned doesn't matter
  pub unwritten_agree : (xs : List Var) (V : Vars) → concern ex xs V ≡ false → (v w : Value) (m n : Memory) → AgreeOn g.types V m n → AgreeOn g.types V (assigned g.types m xs v) (assigned g.types n xs w)
  unwritten_agree xs V e v w m n a d i =
      let k = spared xs V e d i in
      ap (fit g.types d.ty) (assigned_left g.types d.key xs v k m) ∙ a d i ∙ sym (ap (fit g.types d.ty) (assigned_left g.types d.key xs w k n))
