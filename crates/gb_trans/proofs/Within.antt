-- Runs from memories that agree on what a program itself reads, and on the globals that procedures read which it calls: these run in
-- frames of their own.
use Rattle.std.proofs.Common.{◌≡◌, ◌-◌, ◌^◌, min, List, [], ◌∷◌, map, refl, ap}
use Rattle.gb_terms.specs.declared.term.Term.{Term}
use Rattle.gb_meaning.specs.Meanings.{value_in, number_in, truth, weights_in}
use Rattle.gb_meaning.specs.Memory.{Memory, write, assigned}
use Rattle.gb_meaning.specs.Program.{Program}
use Rattle.gb_meaning.specs.Program.Program.{done, assign, sample, branch, loop, call, ask}
use Rattle.gb_meaning.specs.Runs.{most_turns, turns_at, is_true, run_denominator, out, returned, valued}
use Rattle.gb_meaning.specs.Setting.{Setting}
use Rattle.gb_meaning.specs.State.{State, inside}
use Rattle.gb_meaning.specs.Terms.{distribution}
use Rattle.gb_laws.specs.Cells.{Cell, Covers, Agree}
use Rattle.gb_laws.specs.Pairs.{Zip, SameOrKept, SameOutcome}
use Rattle.gb_laws.specs.Reads.{term_cells, terms_cells, routine_cells}
use Rattle.gb_laws.specs.States.{Near}
use Rattle.gb_laws.proofs.Cells.{front, rest}
use Rattle.gb_laws.proofs.Kept.{kept_self, kept_agrees, write_keeps, assigned_keeps, returned_keeps, since, zip_then}
use Rattle.gb_laws.proofs.Near.{near_quiet}
use Rattle.gb_laws.proofs.NearRuns.{with_frame, globals_of, kept_outcomes}
use Rattle.gb_laws.proofs.States.{near_self, near_inside}
use Rattle.gb_laws.proofs.Zips.{zip-scale, zip-if, zip-dmap, zip-equal, zip-turns}

module _ (g : Setting) where
  -- the program reads within F, and procedures that it calls read globals within F
  abbrev pub ReadsWithin : (Cell → Type 0) → Program → Type 0
  ReadsWithin F done = Unit {0}
  ReadsWithin F (assign xs e c) = Covers F (term_cells g e) × ReadsWithin F c
  ReadsWithin F (sample x d c) = Covers F (term_cells g d) × ReadsWithin F c
  ReadsWithin F (branch e a b c) = Covers F (term_cells g e) × ReadsWithin F a × ReadsWithin F b × ReadsWithin F c
  ReadsWithin F (loop e v a c) = Covers F (term_cells g e) × Covers F (term_cells g v) × ReadsWithin F a × ReadsWithin F c
  ReadsWithin F (call xs r es c) = Covers F (terms_cells g es) × Covers (with_frame F) (routine_cells g r) × ReadsWithin F c
  ReadsWithin F (ask xs o es c) = ReadsWithin F c

  module _ (F : Cell → Type 0) (s : State) where
    near_within : (m n : Memory) → Agree g.types F m n → Near g.types F (inside s m) (inside s n)
    near_within m n a = near_inside g.types F s s (near_self g.types F s) m n a

    valued_within : (e : Term) → Covers F (term_cells g e) → (m n : Memory) → Agree g.types F m n → valued g s e m ≡ valued g s e n
    valued_within e c m n a = ap value_in (near_quiet g F e c _ _ (near_within m n a))

    all_valued_within : (es : List Term) → Covers F (terms_cells g es) → (m n : Memory) → Agree g.types F m n → map (λ e. valued g s e m) es ≡ map (λ e. valued g s e n) es
    all_valued_within [] c m n a = refl
    all_valued_within (e ∷ es) c m n a =
        let one = valued_within e (front F (term_cells g e) (terms_cells g es) c) m n a in
        let two = all_valued_within es (rest F (term_cells g e) (terms_cells g es) c) m n a in
        λ i. one i ∷ two i

    is_true_within : (e : Term) → Covers F (term_cells g e) → (m n : Memory) → Agree g.types F m n → is_true g s e m ≡ is_true g s e n
    is_true_within e c m n a = ap truth (near_quiet g F e c _ _ (near_within m n a))

    pub run_within : (c : Program) → ReadsWithin F c → (m n : Memory) → Agree g.types F m n → Zip (SameOrKept m n) (out g s c m) (out g s c n)
    run_within done h m n a = (refl, kept_self m n, tt)
    run_within (assign xs e c) h m n a =
        let y = assigned g.types m xs (valued g s e m) in
        let z = assigned g.types n xs (valued g s e n) in
        let same = assigned_keeps m n g.types xs _ _ (valued_within e h.0 m n a) m n (kept_self m n) in
        since m n y z same _ _ (run_within c h.1 y z (kept_agrees g.types F m n y z a same))
    run_within (sample x d c) h m n a =
        zip_then m n _ _ (λ z. out g s c z) (λ z. out g s c z)
        (zip-dmap (λ v w. v ≡ w) (SameOrKept m n) (distribution g d (inside s m)) (distribution g d (inside s n)) (write g.types m x) (write g.types n x)
        (zip-equal _ _ (ap weights_in (near_quiet g F d h.0 _ _ (near_within m n a))))
        (λ v w e. write_keeps m n g.types x v w e m n (kept_self m n)))
        (λ y z j. run_within c h.1 y z (kept_agrees g.types F m n y z a j))
    run_within (branch e a b c) h m n i =
        zip_then m n _ _ (λ z. out g s c z) (λ z. out g s c z)
        (zip-if (SameOrKept m n) _ _ (is_true_within e h.0 m n i) _ _ _ _
        (zip-scale (SameOrKept m n) _ _ refl _ _ (run_within a h.1 m n i))
        (zip-scale (SameOrKept m n) _ _ refl _ _ (run_within b h.2 m n i)))
        (λ y z j. run_within c h.3 y z (kept_agrees g.types F m n y z i j))
    run_within (loop e v a c) h m n i =
        let turns_same : turns_at g s v m ≡ turns_at g s v n = ap (λ z. min (number_in z) (most_turns v)) (near_quiet g F v h.1 _ _ (near_within m n i)) in
        zip_then m n _ _ (λ z. out g s c z) (λ z. out g s c z)
        (zip-scale (SameOrKept m n) _ _ (ap (λ z. run_denominator g a ^ (most_turns v - z)) turns_same) _ _
        (zip-turns (SameOrKept m n) (is_true g s e) (is_true g s e) (λ z. out g s a z) (λ z. out g s a z) (run_denominator g a)
        (λ y z j. is_true_within e h.0 y z (kept_agrees g.types F m n y z i j))
        (λ y z j. since m n y z j _ _ (run_within a h.2 y z (kept_agrees g.types F m n y z i j))) _ _ turns_same m n (kept_self m n)))
        (λ y z j. run_within c h.3 y z (kept_agrees g.types F m n y z i j))
    run_within (call xs r es c) h m n a =
        zip_then m n _ _ (λ z. out g s c z) (λ z. out g s c z)
        (zip-dmap (SameOutcome m.globals n.globals) (SameOrKept m n) _ _ (returned g xs m) (returned g xs n)
        (kept_outcomes g (with_frame F) r h.1 _ _ (all_valued_within es h.0 m n a) m.globals n.globals (globals_of g.types F m n a))
        (λ y z j. returned_keeps m n g xs y z j))
        (λ y z j. run_within c h.2 y z (kept_agrees g.types F m n y z a j))
    run_within (ask xs o es c) h m n a = run_within c h m n a
