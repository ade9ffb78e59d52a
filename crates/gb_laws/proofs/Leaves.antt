-- A run leaves what the program does not write.
use Rattle.std.proofs.Common.{◌≡◌, ℕ, zero, suc, ◌^◌, ◌-◌, Bool, List, [], ◌∷◌, map, refl, ◌∙◌}
use Rattle.gb_core.specs.declared.var.Var.{Var}
use Rattle.gb_core.specs.declared.var.Var.TheVariants as var
use Rattle.gb_core.specs.declared.value.Value.{Value}
use Rattle.gb_core.specs.Numbering.{parts_of}
use Rattle.gb_terms.specs.declared.module.Mexp.TheVariants.{Name as named}
use Rattle.gb_dist.specs.WeightedList.{WeightedList, Every, bind}
use Rattle.gb_dist.proofs.Entries.{Every-bind, Every-dmap, Every-scale, Every-weaken}
use Rattle.gb_meaning.specs.Names.{Path, Map, get}
use Rattle.gb_meaning.specs.Values.{Global, Types}
use Rattle.gb_meaning.specs.Memory.{Memory, write, write_globals, write_each, assigned, result_in}
use Rattle.gb_meaning.specs.Program.{Program, Routine}
use Rattle.gb_meaning.specs.Program.Program.{done, assign, sample, branch, loop, call, ask}
use Rattle.gb_meaning.specs.Program.Routine.{routine}
use Rattle.gb_meaning.specs.Setting.{Setting}
use Rattle.gb_meaning.specs.State.{State, inside, closed}
use Rattle.gb_meaning.specs.Terms.{distribution}
use Rattle.gb_meaning.specs.Runs.{turns, most_turns, turns_at, is_true, run_denominator, out, outcomes, returned, valued}
use Rattle.gb_laws.specs.Cells.{Key, get_at}
use Rattle.gb_laws.specs.Cells.Key.{global, local}
use Rattle.gb_laws.specs.Writes.{key_of_global, keys_of, IsNone, Spares, Unwritten, UnwrittenBy}
use Rattle.gb_laws.proofs.Cells.{get_at-other}
use Rattle.gb_meaning.proofs.Runs.{cases_of}

module _ (t : Types) (k : Key) where
  globals_left : (xs : List Global) (vs : List Value) → IsNone k (map key_of_global xs) → (m : Memory) → get_at (write_globals m xs vs) k ≡ get_at m k
  globals_left [] vs h m = refl
  globals_left (x ∷ xs) [] h m = refl
  globals_left (x ∷ xs) (v ∷ vs) h m = globals_left xs vs h.1 _ ∙ get_at-other m (key_of_global x) v k h.0

  pub write_left : (x : Var) (v : Value) → IsNone k (keys_of t x) → (m : Memory) → get_at (write t m x v) k ≡ get_at m k
  write_left (var.Global p n) v h m = get_at-other m (global (p ∷ n ∷ [])) v k h.0
  write_left (var.Local x) v h m = get_at-other m (local (x ∷ [])) v k h.0
  write_left (var.Glob a) v h m = globals_left (t.footprint (named a)) (parts_of v) h m

  each_left : (xs : List Var) (vs : List Value) → Spares t xs k → (m : Memory) → get_at (write_each t m xs vs) k ≡ get_at m k
  each_left [] vs h m = refl
  each_left (x ∷ xs) [] h m = refl
  each_left (x ∷ xs) (v ∷ vs) h m = each_left xs vs h.1 _ ∙ write_left x v h.0 m

  pub assigned_left : (xs : List Var) (v : Value) → Spares t xs k → (m : Memory) → get_at (assigned t m xs v) k ≡ get_at m k
  assigned_left [] v h m = refl
  assigned_left (x ∷ []) v h m = write_left x v h.0 m
  assigned_left (x ∷ y ∷ xs) v h m = each_left (x ∷ y ∷ xs) (parts_of v) h m

-- an invariant of the body is one of the turns
pub turns_keep : (I : Memory → Type 0) (guard : Memory → Bool) (body : Memory → WeightedList Memory) (k : ℕ) → ((m : Memory) → I m → Every I (body m)) →
    (n : ℕ) (m : Memory) → I m → Every I (turns guard body k n m)
turns_keep I guard body k h zero m i = (i, tt)
turns_keep I guard body k h (suc n) m i = cases_of (Every I) (guard m) _ _ (Every-bind I I (body m) (turns guard body k n) (h m i) (λ q j. turns_keep I guard body k h n q j)) (i, tt)

every_value : (l : WeightedList Value) → Every (λ v. Unit {0}) l
every_value [] = tt
every_value (e ∷ l) = (tt, every_value l)

every_memory : (l : WeightedList Memory) → Every (λ n. Unit {0}) l
every_memory [] = tt
every_memory (e ∷ l) = (tt, every_memory l)

module _ (g : Setting) where
  -- what follows leaves what was left
  rest_leaves : (s : State) (c : Program) (k : Key) → Unwritten g c k → (m : Memory) (l : WeightedList Memory) → Every (λ n. get_at n k ≡ get_at m k) l →
      ((q : Memory) → Every (λ n. get_at n k ≡ get_at q k) (out g s c q)) → Every (λ n. get_at n k ≡ get_at m k) (bind l (λ n. out g s c n))
  rest_leaves s c k u m l h f = Every-bind (λ n. get_at n k ≡ get_at m k) (λ n. get_at n k ≡ get_at m k) l (λ n. out g s c n) h
      (λ q e. Every-weaken {P = λ n. get_at n k ≡ get_at q k} (out g s c q) (λ n i. i ∙ e) (f q))

  mutual
    pub run_leaves : (s : State) (c : Program) (k : Key) → Unwritten g c k → (m : Memory) → Every (λ n. get_at n k ≡ get_at m k) (out g s c m)
    run_leaves s done k u m = (refl, tt)
    run_leaves s (assign xs e c) k u m =
        let q = assigned g.types m xs (valued g s e m) in
        Every-weaken {P = λ n. get_at n k ≡ get_at q k} (out g s c q) (λ n h. h ∙ assigned_left g.types k xs (valued g s e m) u.0 m) (run_leaves s c k u.1 q)
    run_leaves s (sample x d c) k u m =
        rest_leaves s c k u.1 m _ (Every-dmap {P = λ v. Unit {0}} (λ n. get_at n k ≡ get_at m k) (write g.types m x) (distribution g d (inside s m)) (λ v z. write_left g.types k x v u.0 m) (every_value (distribution g d (inside s m))))
        (λ q. run_leaves s c k u.1 q)
    run_leaves s (branch e a b c) k u m =
        rest_leaves s c k u.2 m _ (cases_of (Every (λ n. get_at n k ≡ get_at m k)) (is_true g s e m) _ _
        (Every-scale (λ n. get_at n k ≡ get_at m k) (run_denominator g b) (out g s a m) (run_leaves s a k u.0 m))
        (Every-scale (λ n. get_at n k ≡ get_at m k) (run_denominator g a) (out g s b m) (run_leaves s b k u.1 m)))
        (λ q. run_leaves s c k u.2 q)
    run_leaves s (loop e v a c) k u m =
        rest_leaves s c k u.1 m _ (Every-scale (λ n. get_at n k ≡ get_at m k) (run_denominator g a ^ (most_turns v - turns_at g s v m)) _
        (turns_keep (λ n. get_at n k ≡ get_at m k) (is_true g s e) (λ n. out g s a n) (run_denominator g a)
        (λ q i. Every-weaken {P = λ n. get_at n k ≡ get_at q k} (out g s a q) (λ n h. h ∙ i) (run_leaves s a k u.0 q)) (turns_at g s v m) m refl))
        (λ q. run_leaves s c k u.1 q)
    run_leaves s (call xs r es c) (global p) u m =
        rest_leaves s c (global p) u.2 m _ (Every-dmap {P = λ n. get n.globals p ≡ get m.globals p} (λ n. get_at n (global p) ≡ get_at m (global p)) (returned g xs m) _
        (λ n h. assigned_left g.types (global p) xs (result_in n) u.0 (record { globals = n.globals; frame = m.frame }) ∙ h)
        (routine_leaves r p u.1 (map (λ e. valued g s e m) es) m.globals))
        (λ q. run_leaves s c (global p) u.2 q)
    run_leaves s (call xs r es c) (local p) u m =
        rest_leaves s c (local p) u.2 m _ (Every-dmap {P = λ n. Unit {0}} (λ n. get_at n (local p) ≡ get_at m (local p)) (returned g xs m) _
        (λ n h. assigned_left g.types (local p) xs (result_in n) u.0 (record { globals = n.globals; frame = m.frame })) (every_memory (outcomes g r (map (λ e. valued g s e m) es) m.globals)))
        (λ q. run_leaves s c (local p) u.2 q)
    run_leaves s (ask xs o es c) k u m = run_leaves s c k u m

    pub routine_leaves : (r : Routine) (p : Path) → UnwrittenBy g r (global p) → (vs : List Value) (globals : Map) →
        Every (λ n. get n.globals p ≡ get globals p) (outcomes g r vs globals)
    routine_leaves (routine ps ls c r) p u vs globals =
        Every-dmap {P = λ n. get n.globals p ≡ get globals p} (λ n. get n.globals p ≡ get globals p) _ (out g closed c _) (λ n h. h) (run_leaves closed c (global p) u _)
