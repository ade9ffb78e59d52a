-- Terms in place of variables lead to the state after the writes.
use Rattle.std.proofs.Common.{◌≡◌, ℕ, ◌⊎◌, inl, inr, Bool, true, false, ◌&&◌, List, [], ◌∷◌, Option, None, refl, ap, sym, ◌∙◌}
use Rattle.std.specs.List.{AllByRecursion}
use Rattle.std.proofs.lemmas.Bool.{false≢true}
use Rattle.gb_core.specs.declared.ty.Ty.{Ty}
use Rattle.gb_core.specs.declared.var.Var.{Var}
use Rattle.gb_core.specs.declared.var.Var.TheVariants as var
use Rattle.gb_core.specs.declared.value.Value.{Value}
use Rattle.gb_terms.specs.declared.module.Mexp.{Mexp}
use Rattle.gb_terms.specs.declared.op.Side.{Side}
use Rattle.gb_terms.specs.declared.op.Side.TheVariants as side
use Rattle.gb_terms.specs.declared.op.Read.TheVariants.{Logical, Program}
use Rattle.gb_terms.specs.declared.term.Term.{Term}
use Rattle.gb_terms.specs.Equal.{var_eq, side_eq}
use Rattle.gb_terms.proofs.Equality.{var_eq-Decides, side_eq-Decides}
use Rattle.gb_walk.specs.Change.{is_own, is_left_or_right, or_later, found_for_read, found_for_bound, side_changed}
use Rattle.gb_meaning.specs.Names.{Path}
use Rattle.gb_meaning.specs.Values.{Types, has}
use Rattle.gb_meaning.specs.Memory.{Memory, read, read_globals, write}
use Rattle.gb_meaning.specs.Setting.{Setting}
use Rattle.gb_meaning.specs.Setting.Meaning.{finite}
use Rattle.gb_meaning.specs.State.{State, binding, meaning_in, memory_of}
use Rattle.gb_meaning.specs.Terms.{Speaks, val}
use Rattle.gb_meaning.proofs.Memories.{read-write_global, read-write_other_global, read-write_local, read-write_other_local}
use Rattle.gb_laws.specs.Uses.{Uses}
use Rattle.gb_laws.specs.Uses.Use.{read as reads, bound as bound_use, globals, starts, binds_own, binds_sides}
use Rattle.gb_laws.specs.Led.{put, IgnoresOwn, IgnoresSides, Enters, Led}
use Rattle.gb_typing.specs.Puts.{IsWhole, Leaves}
use Rattle.gb_laws.specs.Written.{with_side, IsSide, IsOne, Written, written_changes, all_written}

-- The term has this value, which is read back wherever the variable is read in this memory. Other variables that are read there
-- are not written, where this isn't so of itself, and the memory is not used as a whole. Where memories are bound that the change
-- doesn't end at, the term doesn't look at them.
pub record IsWritten (g : Setting) (j : Speaks) (K : Uses) (s : State) (w : Written) : Type 0 where
  pub side : IsSide w.side
  pub means : val g j w.term s ≡ finite w.value
  pub back : (ty : Ty) → K (reads (Program w.variable w.side) ty) ≡ true → (m : Memory) → read g.types (write g.types m w.variable w.value) w.variable ty ≡ w.value
  pub others : (y : Var) (ty : Ty) → K (reads (Program y w.side) ty) ≡ true → (w.variable ≡ y → ⊥) → IsWhole w.variable ⊎ IsWhole y → Leaves g w.variable y ty
  pub globals : (m : Mexp) → K (globals m w.side) ≡ false
  pub starts : K (starts w.side) ≡ false
  pub own : is_own w.side ≡ false → IgnoresOwn g j w.term
  pub sides : is_left_or_right w.side ≡ false → IgnoresSides g j w.term

not_both : {P : Type 0} {b : Bool} → b ≡ false → b ≡ true → P
not_both e h = absurd (false≢true (sym e ∙ h))

same_side : (s : State) (r : Side) (m : Memory) → IsSide r → memory_of (with_side s r m) r ≡ m
same_side s side.Own m i = refl
same_side s side.Left m i = refl
same_side s side.Right m i = refl
same_side s (side.Memory k) m i = absurd i
same_side s (side.Bound k) m i = absurd i

-- the variable that a path names
abbrev named_by : Path → Var
named_by (p ∷ n ∷ []) = var.Global p n
named_by (x ∷ []) = var.Local x
named_by _ = var.Local []

module _ (t : Types) (m : Memory) (v : Value) where
  pub read_written : (x : Var) (ty : Ty) → IsOne x → has t ty v ≡ true → read t (write t m x v) x ty ≡ v
  read_written (var.Global p n) ty i h = read-write_global t m (record { parent = p; name = n; ty = ty }) v h
  read_written (var.Local x) ty i h = read-write_local t m x ty v h
  read_written (var.Glob a) ty i h = absurd i

  -- where one of two different variables is all globals of a module, this is to be known
  pub read_other : (x y : Var) (ty : Ty) → (IsWhole x ⊎ IsWhole y → read t (write t m x v) y ty ≡ read t m y ty) → var_eq x y ≡ false → read t (write t m x v) y ty ≡ read t m y ty
  read_other (var.Global p n) (var.Global a b) ty k e =
      read-write_other_global t m (record { parent = a; name = b; ty = ty }) p n v (λ z. not_both e ((var_eq-Decides (var.Global p n) (var.Global a b)).1 (sym (ap named_by z))))
  read_other (var.Global p n) (var.Local y) ty k e = refl
  read_other (var.Global p n) (var.Glob a) ty k e = k (inr tt)
  read_other (var.Local x) (var.Global a b) ty k e = refl
  read_other (var.Local x) (var.Local y) ty k e =
      read-write_other_local t m y x ty v (λ z. not_both e ((var_eq-Decides (var.Local x) (var.Local y)).1 (sym (ap named_by z))))
  read_other (var.Local x) (var.Glob a) ty k e = k (inr tt)
  read_other (var.Glob a) y ty k e = k (inl tt)

other_side : (s : State) (r : Side) (m : Memory) (o : Side) → side_eq r o ≡ false → memory_of (with_side s r m) o ≡ memory_of s o
other_side s side.Own m side.Own e = not_both e refl
other_side s side.Own m side.Left e = refl
other_side s side.Own m side.Right e = refl
other_side s side.Own m (side.Memory b) e = refl
other_side s side.Own m (side.Bound b) e = refl
other_side s side.Left m side.Own e = refl
other_side s side.Left m side.Left e = not_both e refl
other_side s side.Left m side.Right e = refl
other_side s side.Left m (side.Memory b) e = refl
other_side s side.Left m (side.Bound b) e = refl
other_side s side.Right m side.Own e = refl
other_side s side.Right m side.Left e = refl
other_side s side.Right m side.Right e = not_both e refl
other_side s side.Right m (side.Memory b) e = refl
other_side s side.Right m (side.Bound b) e = refl
other_side s (side.Memory a) m side.Own e = refl
other_side s (side.Memory a) m side.Left e = refl
other_side s (side.Memory a) m side.Right e = refl
other_side s (side.Memory a) m (side.Memory b) e = refl
other_side s (side.Memory a) m (side.Bound b) e = refl
other_side s (side.Bound a) m side.Own e = refl
other_side s (side.Bound a) m side.Left e = refl
other_side s (side.Bound a) m side.Right e = refl
other_side s (side.Bound a) m (side.Memory b) e = refl
other_side s (side.Bound a) m (side.Bound b) e = refl

logical_kept : (s : State) (r : Side) (m : Memory) → (with_side s r m).logical ≡ s.logical
logical_kept s side.Own m = refl
logical_kept s side.Left m = refl
logical_kept s side.Right m = refl
logical_kept s (side.Memory k) m = refl
logical_kept s (side.Bound k) m = refl

binders_kept : (s : State) (r : Side) (m : Memory) (i : _) → binding (with_side s r m) i ≡ binding s i
binders_kept s side.Own m i = refl
binders_kept s side.Left m i = refl
binders_kept s side.Right m i = refl
binders_kept s (side.Memory k) m i = refl
binders_kept s (side.Bound k) m i = refl

-- no side is led elsewhere, and no variable of another kind is replaced
pub sides_stay : (ws : List Written) (o : Side) → side_changed (written_changes ws) o ≡ o
sides_stay [] o = refl
sides_stay (w ∷ ws) o = sides_stay ws o

logical_stays : (ws : List Written) (i : ℕ) → found_for_read (written_changes ws) (Logical i) ≡ None
logical_stays [] i = refl
logical_stays (w ∷ ws) i = logical_stays ws i

pub bound_stays : (ws : List Written) (i : ℕ) → found_for_bound (written_changes ws) i ≡ None
bound_stays [] i = refl
bound_stays (w ∷ ws) i = bound_stays ws i

module _ (g : Setting) (s : State) where
  logical_left : (ws : List Written) → (all_written g s ws).logical ≡ s.logical
  logical_left [] = refl
  logical_left (w ∷ ws) = logical_kept (all_written g s ws) w.side _ ∙ logical_left ws

  binders_left : (ws : List Written) (i : ℕ) → binding (all_written g s ws) i ≡ binding s i
  binders_left [] i = refl
  binders_left (w ∷ ws) i = binders_kept (all_written g s ws) w.side _ i ∙ binders_left ws i

module _ (g : Setting) (j : Speaks) (K : Uses) (s : State) where
  memory_left : (F : Side → Bool) (ws : List Written) → AllByRecursion (λ w. F w.side ≡ false) ws → (o : Side) → F o ≡ true → memory_of s o ≡ memory_of (all_written g s ws) o
  memory_left F [] h o k = refl
  memory_left F (w ∷ ws) h o k = memory_left F ws h.1 o k ∙ step (side_eq w.side o) refl
    where
      step : (c : Bool) → side_eq w.side o ≡ c → memory_of (all_written g s ws) o ≡ memory_of (all_written g s (w ∷ ws)) o
      step true f = not_both h.0 (ap F ((side_eq-Decides w.side o).0 f) ∙ k)
      step false f = sym (other_side (all_written g s ws) w.side _ o f)

  each_spares : (F : Side → Bool) → ((w : Written) → IsWritten g j K s w → F w.side ≡ false) → (ws : List Written) → AllByRecursion (IsWritten g j K s) ws → AllByRecursion (λ w. F w.side ≡ false) ws
  each_spares F f [] h = tt
  each_spares F f (w ∷ ws) h = (f w h.0, each_spares F f ws h.1)

  module _ (q : State) (w : Written) (written : IsWritten g j K s w) (y : Var) (o : Side) (ty : Ty) (k : K (reads (Program y o) ty) ≡ true) where
    abbrev after : State
    after = with_side q w.side (write g.types (memory_of q w.side) w.variable w.value)

    there : w.side ≡ o → memory_of after o ≡ write g.types (memory_of q w.side) w.variable w.value
    there e = ap (memory_of after) (sym e) ∙ same_side q w.side (write g.types (memory_of q w.side) w.variable w.value) written.side

    apart_of : K (reads (Program y w.side) ty) ≡ true → var_eq w.variable y ≡ false → IsWhole w.variable ⊎ IsWhole y →
        read g.types (write g.types (memory_of q w.side) w.variable w.value) y ty ≡ read g.types (memory_of q w.side) y ty
    apart_of h e i = written.others y ty h (λ z. not_both e ((var_eq-Decides w.variable y).1 z)) i (memory_of q w.side) w.value

    read_step : (f : Option Term) → put g j f (finite (read g.types (memory_of s o) y ty)) s ≡ finite (read g.types (memory_of q o) y ty) →
        (b c : Bool) → var_eq w.variable y ≡ b → side_eq w.side o ≡ c →
        put g j (or_later (b && c) w.term f) (finite (read g.types (memory_of s o) y ty)) s ≡ finite (read g.types (memory_of after o) y ty)
    read_step f i true true e h =
        let xy = (var_eq-Decides w.variable y).0 e in
        let ro = (side_eq-Decides w.side o).0 h in
        written.means ∙ sym (ap finite (ap (λ n. read g.types n y ty) (there ro) ∙ ap (λ z. read g.types (write g.types (memory_of q w.side) w.variable w.value) z ty) (sym xy)
        ∙ written.back ty ((λ i. K (reads (Program (xy i) (ro i)) ty)) ∙ k) (memory_of q w.side)))
    read_step f i false true e h =
        let ro = (side_eq-Decides w.side o).0 h in
        i ∙ sym (ap finite (ap (λ n. read g.types n y ty) (there ro)
        ∙ read_other g.types (memory_of q w.side) w.value w.variable y ty (apart_of (ap (λ z. K (reads (Program y z) ty)) ro ∙ k) e) e
        ∙ ap (λ z. read g.types (memory_of q z) y ty) ro))
    read_step f i true false e h = i ∙ sym (ap (λ n. finite (read g.types n y ty)) (other_side q w.side _ o h))
    read_step f i false false e h = i ∙ sym (ap (λ n. finite (read g.types n y ty)) (other_side q w.side _ o h))

  reads_led : (ws : List Written) → AllByRecursion (IsWritten g j K s) ws → (y : Var) (o : Side) (ty : Ty) → K (reads (Program y o) ty) ≡ true →
      put g j (found_for_read (written_changes ws) (Program y o)) (finite (read g.types (memory_of s o) y ty)) s ≡ finite (read g.types (memory_of (all_written g s ws) o) y ty)
  reads_led [] h y o ty k = refl
  reads_led (w ∷ ws) h y o ty k = read_step (all_written g s ws) w h.0 y o ty k _ (reads_led ws h.1 y o ty k) (var_eq w.variable y) (side_eq w.side o) refl refl

  globals_left : (m : Mexp) (ws : List Written) → AllByRecursion (IsWritten g j K s) ws → (o : Side) → K (globals m o) ≡ true →
      read_globals g.types (memory_of s o) (g.types.footprint m) ≡ read_globals g.types (memory_of (all_written g s ws) o) (g.types.footprint m)
  globals_left m [] h o k = refl
  globals_left m (w ∷ ws) h o k = globals_left m ws h.1 o k ∙ step (side_eq w.side o) refl
    where
      step : (c : Bool) → side_eq w.side o ≡ c →
          read_globals g.types (memory_of (all_written g s ws) o) (g.types.footprint m) ≡ read_globals g.types (memory_of (all_written g s (w ∷ ws)) o) (g.types.footprint m)
      step true f =
          let e = (side_eq-Decides w.side o).0 f in
          not_both (h.0.globals m) (ap (λ o. K (globals m o)) e ∙ k)
      step false f = sym (ap (λ n. read_globals g.types n (g.types.footprint m)) (other_side (all_written g s ws) w.side _ o f))

  enters_own : (ws : List Written) → AllByRecursion (IsWritten g j K s) ws → Enters (IgnoresOwn g j) is_own (written_changes ws)
  enters_own [] h = tt
  enters_own (w ∷ ws) h = (h.0.own, enters_own ws h.1)

  enters_sides : (ws : List Written) → AllByRecursion (IsWritten g j K s) ws → Enters (IgnoresSides g j) is_left_or_right (written_changes ws)
  enters_sides [] h = tt
  enters_sides (w ∷ ws) h = (h.0.sides, enters_sides ws h.1)

  pub led_all_written : (ws : List Written) → AllByRecursion (IsWritten g j K s) ws → Led g j (written_changes ws) K s (all_written g s ws)
  led_all_written ws h (reads (Logical i) ty) k = ap (λ f. put g j f (s.logical i) s) (logical_stays ws i) ∙ sym (ap (λ f. f i) (logical_left g s ws))
  led_all_written ws h (reads (Program y o) ty) k =
      ap (λ z. put g j (found_for_read (written_changes ws) (Program y o)) (finite (read g.types (memory_of s z) y ty)) s) (sides_stay ws o) ∙ reads_led ws h y o ty k
  led_all_written ws h (bound_use i) k = ap (λ f. put g j f (meaning_in (binding s i)) s) (bound_stays ws i) ∙ sym (ap meaning_in (binders_left g s ws i))
  led_all_written ws h (globals m o) k =
      ap (λ z. read_globals g.types (memory_of s z) (g.types.footprint m)) (sides_stay ws o) ∙ globals_left m ws h o k
  led_all_written ws h (starts o) k = ap (memory_of s) (sides_stay ws o) ∙ memory_left (λ z. K (starts z)) ws (each_spares (λ z. K (starts z)) (λ w i. i.starts) ws h) o k
  led_all_written ws h binds_own k = enters_own ws h
  led_all_written ws h binds_sides k = enters_sides ws h
