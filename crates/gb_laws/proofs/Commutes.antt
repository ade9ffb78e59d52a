-- A run commutes with a write at a place that the program neither reads nor writes.
use Rattle.std.proofs.Common.{◌≡◌, ◌≢◌, ℕ, zero, suc, ◌^◌, ◌-◌, min, Bool, true, false, if◌then◌else◌, List, [], ◌∷◌, ◌++◌, map, refl, ap, sym, ◌∙◌}
use Rattle.std.proofs.Math.Path.{fun_ext}
use Rattle.gb_core.specs.declared.var.Var.{Var}
use Rattle.gb_core.specs.declared.var.Var.TheVariants as var
use Rattle.gb_core.specs.declared.value.Value.{Value}
use Rattle.gb_core.specs.Numbering.{parts_of}
use Rattle.gb_terms.specs.declared.module.Mexp.TheVariants.{Name as named}
use Rattle.gb_terms.specs.declared.term.Term.{Term}
use Rattle.gb_dist.specs.WeightedList.{WeightedList, scale, bind, dmap}
use Rattle.gb_dist.proofs.Monad.{bind-dmap, dmap-bind, dmap-dmap, dmap-scale}
use Rattle.gb_meaning.specs.Names.{Path, Map, set}
use Rattle.gb_meaning.specs.Values.{Global, Types, fit}
use Rattle.gb_meaning.specs.Memory.{Memory, write, write_globals, write_each, assigned, outcome, result_in}
use Rattle.gb_meaning.specs.Program.{Program, Routine}
use Rattle.gb_meaning.specs.Program.Program.{done, assign, sample, branch, loop, call, ask}
use Rattle.gb_meaning.specs.Program.Routine.{routine}
use Rattle.gb_meaning.specs.Setting.{Setting}
use Rattle.gb_meaning.specs.Meanings.{value_in, truth, number_in, weights_in}
use Rattle.gb_meaning.specs.State.{State, inside, closed}
use Rattle.gb_meaning.specs.Terms.{quiet, val, distribution}
use Rattle.gb_meaning.specs.Runs.{turns, most_turns, turns_at, is_true, run_denominator, out, outcomes, returned, valued, new_frame}
use Rattle.gb_laws.specs.Cells.{Key, Cells, In, set_at}
use Rattle.gb_laws.specs.Cells.Key.{global, local}
use Rattle.gb_laws.specs.Reads.{term_cells, terms_cells, program_cells, routine_cells, Unread}
use Rattle.gb_laws.specs.Writes.{key_of_global, keys_of, IsNone, Spares, Unwritten, UnwrittenBy}
use Rattle.gb_meaning.proofs.Maps.{set-set_other}
use Rattle.gb_laws.proofs.Cells.{get_at-other, in_left, in_right}
use Rattle.gb_laws.proofs.States.{near_self, near_inside}
use Rattle.gb_laws.proofs.Near.{near_quiet}

front_unread : (l r : Cells) (k : Key) → Unread (l ++ r) k → Unread l k
front_unread l r k h c i = h c (in_left c l r i)

rest_unread : (l r : Cells) (k : Key) → Unread (l ++ r) k → Unread r k
rest_unread l r k h c i = h c (in_right c l r i)

sets_commute : (m : Memory) (q k : Key) (w v : Value) → k ≢ q → set_at (set_at m k v) q w ≡ set_at (set_at m q w) k v
sets_commute m (global q) (global k) w v h = ap (λ f. let n : Memory = record { globals = f; frame = m.frame } in n) (set-set_other m.globals k v q w (λ e. h (ap global e)))
sets_commute m (global q) (local k) w v h = refl
sets_commute m (local q) (global k) w v h = refl
sets_commute m (local q) (local k) w v h = ap (λ f. let n : Memory = record { globals = m.globals; frame = f } in n) (set-set_other m.frame k v q w (λ e. h (ap local e)))

module _ (t : Types) (k : Key) (v : Value) where
  globals_commute : (xs : List Global) (ws : List Value) → IsNone k (map key_of_global xs) → (m : Memory) → write_globals (set_at m k v) xs ws ≡ set_at (write_globals m xs ws) k v
  globals_commute [] ws h m = refl
  globals_commute (x ∷ xs) [] h m = refl
  globals_commute (x ∷ xs) (w ∷ ws) h m = ap (λ n. write_globals n xs ws) (sets_commute m (key_of_global x) k w v h.0) ∙ globals_commute xs ws h.1 _

  write_commutes : (x : Var) (w : Value) → IsNone k (keys_of t x) → (m : Memory) → write t (set_at m k v) x w ≡ set_at (write t m x w) k v
  write_commutes (var.Global p n) w h m = sets_commute m (global (p ∷ n ∷ [])) k w v h.0
  write_commutes (var.Local x) w h m = sets_commute m (local (x ∷ [])) k w v h.0
  write_commutes (var.Glob a) w h m = globals_commute (t.footprint (named a)) (parts_of w) h m

  each_commutes : (xs : List Var) (ws : List Value) → Spares t xs k → (m : Memory) → write_each t (set_at m k v) xs ws ≡ set_at (write_each t m xs ws) k v
  each_commutes [] ws h m = refl
  each_commutes (x ∷ xs) [] h m = refl
  each_commutes (x ∷ xs) (w ∷ ws) h m = ap (λ n. write_each t n xs ws) (write_commutes x w h.0 m) ∙ each_commutes xs ws h.1 _

  assigned_commutes : (xs : List Var) (w : Value) → Spares t xs k → (m : Memory) → assigned t (set_at m k v) xs w ≡ set_at (assigned t m xs w) k v
  assigned_commutes [] w h m = refl
  assigned_commutes (x ∷ []) w h m = write_commutes x w h.0 m
  assigned_commutes (x ∷ y ∷ xs) w h m = each_commutes (x ∷ y ∷ xs) (parts_of w) h m

-- a write in each entry
abbrev put : Key → Value → WeightedList Memory → WeightedList Memory
put k v l = dmap (λ n. set_at n k v) l

put_if : (k : Key) (v : Value) (b : Bool) (l r : WeightedList Memory) → (if b then put k v l else put k v r) ≡ put k v (if b then l else r)
put_if k v true l r = refl
put_if k v false l r = refl

-- where the first part commutes with the write, and what follows does
put_bind : (k : Key) (v : Value) (l : WeightedList Memory) (f : Memory → WeightedList Memory) → ((n : Memory) → f (set_at n k v) ≡ put k v (f n)) → bind (put k v l) f ≡ put k v (bind l f)
put_bind k v l f h = bind-dmap (λ n. set_at n k v) l f ∙ ap (bind l) (fun_ext h) ∙ sym (dmap-bind (λ n. set_at n k v) l f)

turns_commute : (k : Key) (v : Value) (guard : Memory → Bool) (body : Memory → WeightedList Memory) (d : ℕ) → ((m : Memory) → guard (set_at m k v) ≡ guard m) →
    ((m : Memory) → body (set_at m k v) ≡ put k v (body m)) → (i : ℕ) (m : Memory) → turns guard body d i (set_at m k v) ≡ put k v (turns guard body d i m)
turns_commute k v guard body d hg hb zero m = refl
turns_commute k v guard body d hg hb (suc i) m =
    ap (λ b. if b then bind (body (set_at m k v)) (turns guard body d i) else (set_at m k v, d ^ suc i) ∷ []) (hg m)
    ∙ ap (λ l. if guard m then bind l (turns guard body d i) else (set_at m k v, d ^ suc i) ∷ []) (hb m)
    ∙ ap (λ l. if guard m then l else (set_at m k v, d ^ suc i) ∷ []) (put_bind k v (body m) (turns guard body d i) (turns_commute k v guard body d hg hb i))
    ∙ put_if k v (guard m) (bind (body m) (turns guard body d i)) ((m, d ^ suc i) ∷ [])

module _ (g : Setting) (v : Value) where
  same_term : (s : State) (e : Term) (k : Key) → Unread (term_cells g e) k → (m : Memory) → val g quiet e (inside s (set_at m k v)) ≡ val g quiet e (inside s m)
  same_term s e k h m = near_quiet g (λ c. In c (term_cells g e)) e (λ c i. i) (inside s (set_at m k v)) (inside s m)
      (near_inside g.types (λ c. In c (term_cells g e)) s s (near_self g.types (λ c. In c (term_cells g e)) s) (set_at m k v) m (λ c i. ap (fit g.types c.ty) (get_at-other m k v c.key (h c i))))

  same_terms : (s : State) (es : List Term) (k : Key) → Unread (terms_cells g es) k → (m : Memory) → map (λ e. valued g s e (set_at m k v)) es ≡ map (λ e. valued g s e m) es
  same_terms s [] k h m = refl
  same_terms s (e ∷ es) k h m =
      let one = same_term s e k (front_unread (term_cells g e) (terms_cells g es) k h) m in
      let two = same_terms s es k (rest_unread (term_cells g e) (terms_cells g es) k h) m in
      λ i. value_in (one i) ∷ two i

  mutual
    pub run_commutes : (s : State) (c : Program) (k : Key) → Unread (program_cells g c) k → Unwritten g c k → (m : Memory) → out g s c (set_at m k v) ≡ put k v (out g s c m)
    run_commutes s done k r u m = refl
    run_commutes s (assign xs e c) k r u m =
        ap (λ w. out g s c (assigned g.types (set_at m k v) xs (value_in w))) (same_term s e k (front_unread (term_cells g e) (program_cells g c) k r) m)
        ∙ ap (out g s c) (assigned_commutes g.types k v xs (valued g s e m) u.0 m)
        ∙ run_commutes s c k (rest_unread (term_cells g e) (program_cells g c) k r) u.1 _
    run_commutes s (sample x d c) k r u m =
        ap (λ w. bind (dmap (write g.types (set_at m k v) x) (weights_in w)) (λ n. out g s c n)) (same_term s d k (front_unread (term_cells g d) (program_cells g c) k r) m)
        ∙ ap (λ f. bind (dmap f (distribution g d (inside s m))) (λ n. out g s c n)) (fun_ext (λ w. write_commutes g.types k v x w u.0 m))
        ∙ ap (λ l. bind l (λ n. out g s c n)) (sym (dmap-dmap (λ n. set_at n k v) (write g.types m x) (distribution g d (inside s m))))
        ∙ put_bind k v (dmap (write g.types m x) (distribution g d (inside s m))) (λ n. out g s c n) (λ n. run_commutes s c k (rest_unread (term_cells g d) (program_cells g c) k r) u.1 n)
    run_commutes s (branch e a b c) k r u m =
        let r1 = rest_unread (term_cells g e) (program_cells g a ++ (program_cells g b ++ program_cells g c)) k r in
        let r2 = rest_unread (program_cells g a) (program_cells g b ++ program_cells g c) k r1 in
        let kb = run_denominator g b in
        let ka = run_denominator g a in
        let one = run_commutes s a k (front_unread (program_cells g a) (program_cells g b ++ program_cells g c) k r1) u.0 m in
        let two = run_commutes s b k (front_unread (program_cells g b) (program_cells g c) k r2) u.1 m in
        ap (λ w. bind (if truth w then scale kb (out g s a (set_at m k v)) else scale ka (out g s b (set_at m k v))) (λ n. out g s c n))
        (same_term s e k (front_unread (term_cells g e) (program_cells g a ++ (program_cells g b ++ program_cells g c)) k r) m)
        ∙ ap (λ l. bind l (λ n. out g s c n))
        ((λ i. if is_true g s e m then scale kb (one i) else scale ka (two i))
        ∙ (λ i. if is_true g s e m then sym (dmap-scale (λ n. set_at n k v) kb (out g s a m)) i else sym (dmap-scale (λ n. set_at n k v) ka (out g s b m)) i)
        ∙ put_if k v (is_true g s e m) (scale kb (out g s a m)) (scale ka (out g s b m)))
        ∙ put_bind k v (if is_true g s e m then scale kb (out g s a m) else scale ka (out g s b m)) (λ n. out g s c n) (λ n. run_commutes s c k (rest_unread (program_cells g b) (program_cells g c) k r2) u.2 n)
    run_commutes s (loop e w a c) k r u m =
        let r1 = rest_unread (term_cells g e) (term_cells g w ++ (program_cells g a ++ program_cells g c)) k r in
        let r2 = rest_unread (term_cells g w) (program_cells g a ++ program_cells g c) k r1 in
        let ka = run_denominator g a in
        let f = λ (i : ℕ) (n : Memory). scale (ka ^ (most_turns w - i)) (turns (is_true g s e) (λ q. out g s a q) ka i n) in
        let turn = turns_commute k v (is_true g s e) (λ q. out g s a q) ka
        (λ n. ap truth (same_term s e k (front_unread (term_cells g e) (term_cells g w ++ (program_cells g a ++ program_cells g c)) k r) n))
        (λ n. run_commutes s a k (front_unread (program_cells g a) (program_cells g c) k r2) u.0 n) (turns_at g s w m) m in
        ap (λ z. bind (f (min (number_in z) (most_turns w)) (set_at m k v)) (λ n. out g s c n)) (same_term s w k (front_unread (term_cells g w) (program_cells g a ++ program_cells g c) k r1) m)
        ∙ ap (λ l. bind (scale (ka ^ (most_turns w - turns_at g s w m)) l) (λ n. out g s c n)) turn
        ∙ ap (λ l. bind l (λ n. out g s c n)) (sym (dmap-scale (λ n. set_at n k v) (ka ^ (most_turns w - turns_at g s w m)) (turns (is_true g s e) (λ q. out g s a q) ka (turns_at g s w m) m)))
        ∙ put_bind k v (f (turns_at g s w m) m) (λ n. out g s c n) (λ n. run_commutes s c k (rest_unread (program_cells g a) (program_cells g c) k r2) u.1 n)
    run_commutes s (call xs p es c) (global q) r u m =
        let r1 = rest_unread (terms_cells g es) (routine_cells g p ++ program_cells g c) (global q) r in
        let vs = map (λ e. valued g s e m) es in
        ap (λ z. bind (dmap (returned g xs (set_at m (global q) v)) (outcomes g p z (set m.globals q v))) (λ n. out g s c n))
        (same_terms s es (global q) (front_unread (terms_cells g es) (routine_cells g p ++ program_cells g c) (global q) r) m)
        ∙ ap (λ l. bind (dmap (returned g xs m) l) (λ n. out g s c n)) (routine_commutes p q (front_unread (routine_cells g p) (program_cells g c) (global q) r1) u.1 vs m.globals)
        ∙ ap (λ l. bind l (λ n. out g s c n)) (dmap-dmap (returned g xs m) (λ n. set_at n (global q) v) (outcomes g p vs m.globals)
        ∙ ap (λ f. dmap f (outcomes g p vs m.globals)) (fun_ext (λ n. assigned_commutes g.types (global q) v xs (result_in n) u.0 (record { globals = n.globals; frame = m.frame })))
        ∙ sym (dmap-dmap (λ n. set_at n (global q) v) (returned g xs m) (outcomes g p vs m.globals)))
        ∙ put_bind (global q) v (dmap (returned g xs m) (outcomes g p vs m.globals)) (λ n. out g s c n) (λ n. run_commutes s c (global q) (rest_unread (routine_cells g p) (program_cells g c) (global q) r1) u.2 n)
    run_commutes s (call xs p es c) (local q) r u m =
        let r1 = rest_unread (terms_cells g es) (routine_cells g p ++ program_cells g c) (local q) r in
        let vs = map (λ e. valued g s e m) es in
        ap (λ z. bind (dmap (returned g xs (set_at m (local q) v)) (outcomes g p z m.globals)) (λ n. out g s c n))
        (same_terms s es (local q) (front_unread (terms_cells g es) (routine_cells g p ++ program_cells g c) (local q) r) m)
        ∙ ap (λ l. bind l (λ n. out g s c n))
        (ap (λ f. dmap f (outcomes g p vs m.globals)) (fun_ext (λ n. assigned_commutes g.types (local q) v xs (result_in n) u.0 (record { globals = n.globals; frame = m.frame })))
        ∙ sym (dmap-dmap (λ n. set_at n (local q) v) (returned g xs m) (outcomes g p vs m.globals)))
        ∙ put_bind (local q) v (dmap (returned g xs m) (outcomes g p vs m.globals)) (λ n. out g s c n) (λ n. run_commutes s c (local q) (rest_unread (routine_cells g p) (program_cells g c) (local q) r1) u.2 n)
    run_commutes s (ask xs o es c) k r u m = run_commutes s c k r u m

    pub routine_commutes : (p : Routine) (q : Path) → Unread (routine_cells g p) (global q) → UnwrittenBy g p (global q) → (vs : List Value) (globals : Map) →
        outcomes g p vs (set globals q v) ≡ put (global q) v (outcomes g p vs globals)
    routine_commutes (routine ps ls c r) q h u vs globals =
        let m : Memory = record { globals = globals; frame = new_frame g ps ls vs } in
        ap (dmap (λ n. outcome n.globals (valued g closed r n))) (run_commutes closed c (global q) (rest_unread (term_cells g r) (program_cells g c) (global q) h) u m)
        ∙ dmap-dmap (λ n. outcome n.globals (valued g closed r n)) (λ n. set_at n (global q) v) (out g closed c m)
        ∙ ap (λ f. dmap f (out g closed c m)) (fun_ext (λ n. ap (λ z. outcome (set n.globals q v) (value_in z)) (same_term closed r (global q) (front_unread (term_cells g r) (program_cells g c) (global q) h) n)))
        ∙ sym (dmap-dmap (λ n. set_at n (global q) v) (λ n. outcome n.globals (valued g closed r n)) (out g closed c m))
