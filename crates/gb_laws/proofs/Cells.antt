-- What memories hold for variables at types, and memories that agree on some of it.
use Rattle.std.proofs.Common.{◌≡◌, ◌≢◌, List, [], ◌∷◌, ◌++◌, map, inl, inr, Some, refl, ap}
use Rattle.gb_core.specs.declared.ty.Ty.{Ty}
use Rattle.gb_core.specs.declared.var.Var.{Var}
use Rattle.gb_core.specs.declared.var.Var.TheVariants as var
use Rattle.gb_core.specs.declared.value.Value.{Value}
use Rattle.gb_core.specs.declared.value.Value.TheVariants.{Many}
use Rattle.gb_core.specs.Numbering.{parts_of}
use Rattle.gb_terms.specs.declared.module.Mexp.TheVariants.{Name as named}
use Rattle.gb_meaning.specs.Values.{Global, Types}
use Rattle.gb_meaning.specs.Memory.{Memory, read, read_global, read_globals, write, write_globals, write_each, assigned}
pub use Rattle.gb_laws.specs.Cells.{Key, Key-discrete, Cell, get_at, set_at, look, Cells, In, Covers, Agree, GlobalsAgree, Among, global_cell, cells_of}
use Rattle.gb_laws.specs.Cells.Key.{global, local}
use Rattle.gb_meaning.proofs.Maps.{path_discrete, get-set_same, get-set_other}

pub key_discrete : Discrete Key
key_discrete = Key-discrete path_discrete

pub get_at-same : (m : Memory) (k : Key) (v : Value) → get_at (set_at m k v) k ≡ Some v
get_at-same m (global p) v = get-set_same m.globals p v
get_at-same m (local p) v = get-set_same m.frame p v

pub get_at-other : (m : Memory) (k : Key) (v : Value) (q : Key) → q ≢ k → get_at (set_at m k v) q ≡ get_at m q
get_at-other m (global p) v (global q) h = get-set_other m.globals p v q (λ e. h (ap global e))
get_at-other m (global p) v (local q) h = refl
get_at-other m (local p) v (global q) h = refl
get_at-other m (local p) v (local q) h = get-set_other m.frame p v q (λ e. h (ap local e))

pub in_left : (c : Cell) (l r : Cells) → In c l → In c (l ++ r)
in_left c [] r i = absurd i
in_left c (d ∷ l) r (inl e) = inl e
in_left c (d ∷ l) r (inr i) = inr (in_left c l r i)

pub in_right : (c : Cell) (l r : Cells) → In c r → In c (l ++ r)
in_right c [] r i = i
in_right c (d ∷ l) r i = inr (in_right c l r i)

pub front : (F : Cell → Type 0) (l r : Cells) → Covers F (l ++ r) → Covers F l
front F l r h c i = h c (in_left c l r i)

pub rest : (F : Cell → Type 0) (l r : Cells) → Covers F (l ++ r) → Covers F r
rest F l r h c i = h c (in_right c l r i)

module _ (t : Types) (F : Cell → Type 0) where
  globals_agree : (xs : List Global) → Covers F (map global_cell xs) → (m n : Memory) → Agree t F m n → map (read_global t m) xs ≡ map (read_global t n) xs
  globals_agree [] h m n a = refl
  globals_agree (x ∷ xs) h m n a =
      let one : read_global t m x ≡ read_global t n x = a (global_cell x) (h (global_cell x) (inl refl)) in
      let two = globals_agree xs (λ c i. h c (inr i)) m n a in
      λ i. one i ∷ two i

  pub read_globals_agree : (xs : List Global) → Covers F (map global_cell xs) → (m n : Memory) → Agree t F m n → read_globals t m xs ≡ read_globals t n xs
  read_globals_agree xs h m n a = ap Many (globals_agree xs h m n a)

  pub read_agree : (x : Var) (ty : Ty) → Covers F (cells_of t x ty) → (m n : Memory) → Agree t F m n → read t m x ty ≡ read t n x ty
  read_agree (var.Global p x) ty h m n a = a _ (h _ (inl refl))
  read_agree (var.Local x) ty h m n a = a _ (h _ (inl refl))
  read_agree (var.Glob b) ty h m n a = read_globals_agree (t.footprint (named b)) h m n a

-- what one write at a place keeps, each assignment keeps
module _ (t : Types) (R : Memory → Memory → Type 0) (keeps : (k : Key) (v : Value) (m n : Memory) → R m n → R (set_at m k v) (set_at n k v)) where
  globals_related : (xs : List Global) (vs : List Value) (m n : Memory) → R m n → R (write_globals m xs vs) (write_globals n xs vs)
  globals_related [] vs m n a = a
  globals_related (x ∷ xs) [] m n a = a
  globals_related (x ∷ xs) (v ∷ vs) m n a = globals_related xs vs _ _ (keeps (global (x.parent ∷ x.name ∷ [])) v m n a)

  pub write_related : (x : Var) (v : Value) (m n : Memory) → R m n → R (write t m x v) (write t n x v)
  write_related (var.Global p x) v m n a = keeps (global (p ∷ x ∷ [])) v m n a
  write_related (var.Local x) v m n a = keeps (local (x ∷ [])) v m n a
  write_related (var.Glob b) v m n a = globals_related (t.footprint (named b)) (parts_of v) m n a

  each_related : (xs : List Var) (vs : List Value) (m n : Memory) → R m n → R (write_each t m xs vs) (write_each t n xs vs)
  each_related [] vs m n a = a
  each_related (x ∷ xs) [] m n a = a
  each_related (x ∷ xs) (v ∷ vs) m n a = each_related xs vs _ _ (write_related x v m n a)

  pub assigned_related : (xs : List Var) (v : Value) (m n : Memory) → R m n → R (assigned t m xs v) (assigned t n xs v)
  assigned_related [] v m n a = a
  assigned_related (x ∷ []) v m n a = write_related x v m n a
  assigned_related (x ∷ y ∷ xs) v m n a = each_related (x ∷ y ∷ xs) (parts_of v) m n a
