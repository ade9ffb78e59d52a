-- Runs from states and memories that agree on what the program reads: the outcomes agree one by one, and each place is the
-- same in both or is left.
use Rattle.std.proofs.Common.{◌≡◌, ◌-◌, ◌^◌, min, List, [], ◌∷◌, ◌++◌, map, inl, inr, refl, ap, sym, ◌∙◌, subst}
use Rattle.gb_core.specs.declared.ty.Ty.{Ty}
use Rattle.gb_core.specs.declared.value.Value.{Value}
use Rattle.gb_terms.specs.declared.decl.TypedName.{TypedName}
use Rattle.gb_terms.specs.declared.term.Term.{Term}
use Rattle.gb_meaning.specs.Names.{Map, get}
use Rattle.gb_meaning.specs.Values.{Types, fit}
use Rattle.gb_meaning.specs.Memory.{Memory, read_local, write, assigned, outcome}
use Rattle.gb_meaning.specs.Program.{Program, Routine}
use Rattle.gb_meaning.specs.Program.Program.{done, assign, sample, branch, loop, call, ask}
use Rattle.gb_meaning.specs.Program.Routine.{routine}
use Rattle.gb_meaning.specs.Setting.{Setting}
use Rattle.gb_meaning.specs.Meanings.{value_in, number_in, truth, weights_in}
use Rattle.gb_meaning.specs.State.{State, inside, closed}
use Rattle.gb_meaning.specs.Terms.{distribution}
use Rattle.gb_meaning.specs.Runs.{most_turns, turns_at, is_true, run_denominator, out, outcomes, returned, valued, new_frame}
pub use Rattle.gb_laws.specs.Reads.{terms_cells, program_cells, routine_cells}
use Rattle.gb_laws.proofs.Zips.{Zip, zip_weaken, zip-scale, zip-if, zip-dmap, zip-equal, zip-turns}
use Rattle.gb_laws.proofs.Cells.{Key, Cell, Cells, Covers, front, rest, Agree, GlobalsAgree, Among, look}
use Rattle.gb_laws.proofs.Kept.{SameOrKept, SameOutcome, kept_self, kept_agrees, write_keeps, assigned_keeps, returned_keeps, since, zip_then}
use Rattle.gb_laws.specs.Cells.Key.{global, local}
use Rattle.gb_laws.proofs.States.{Near, near_self, near_inside}
use Rattle.gb_laws.proofs.Near.{term_cells, near_quiet}

-- in another frame, that is the same for both
abbrev pub InFrame : Key → Type 0 → Type 0
InFrame (global p) P = P
InFrame (local p) P = Unit {0}

abbrev pub with_frame : (Cell → Type 0) → Cell → Type 0
with_frame F c = InFrame c.key (F c)

pub with_frame_covers : (F : Cell → Type 0) (l : Cells) → Covers F l → Covers (with_frame F) l
with_frame_covers F l h c i = go c.key (h c i)
  where
    go : (k : Key) → F c → InFrame k (F c)
    go (global p) f = f
    go (local p) f = tt

-- outcomes of procedures: the same frame, and globals that agree
pub record Alike (t : Types) (F : Cell → Type 0) (m n : Memory) : Type 0 where
  pub globals : GlobalsAgree t F m.globals n.globals
  pub frames : m.frame ≡ n.frame

module _ (t : Types) (F : Cell → Type 0) where
  pub alike_agrees : (m n : Memory) → Alike t F m n → Agree t F m n
  alike_agrees m n a c f = go c.key c.ty f
    where
      go : (k : Key) (ty : Ty) → F (record { key = k; ty = ty }) → look t m (record { key = k; ty = ty }) ≡ look t n (record { key = k; ty = ty })
      go (global p) ty f = a.globals p ty f
      go (local p) ty f = ap (λ z. fit t ty (get z p)) a.frames

  entered : (gm gn : Map) (f : Map) → GlobalsAgree t F gm gn → Agree t (with_frame F) (record { globals = gm; frame = f }) (record { globals = gn; frame = f })
  entered gm gn f a c i = go c.key c.ty i
    where
      go : (k : Key) (ty : Ty) → InFrame k (F (record { key = k; ty = ty })) →
          look t (record { globals = gm; frame = f }) (record { key = k; ty = ty }) ≡ look t (record { globals = gn; frame = f }) (record { key = k; ty = ty })
      go (global p) ty i = a p ty i
      go (local p) ty i = refl

  pub globals_of : (m n : Memory) → Agree t F m n → GlobalsAgree t F m.globals n.globals
  globals_of m n a p ty f = a (record { key = global p; ty = ty }) f

  outcomes_alike : (m n : Map) (a b : Memory) → GlobalsAgree t F m n → SameOutcome m n a b → Alike t F a b
  outcomes_alike m n a b h e = record {
    globals = λ p ty f. elim (e.globals p) [
      | inl x ↦ ap (fit t ty) x
      | inr x ↦ ap (fit t ty) x.0 ∙ h p ty f ∙ sym (ap (fit t ty) x.1)
    ];
    frames = e.frame;
  }

  pub locals_agree : (ps : List TypedName) → Covers F (map (λ x. record { key = local (x.name ∷ []); ty = x.ty }) ps) → (m n : Memory) → Agree t F m n →
      map (λ x. read_local t m x.name x.ty) ps ≡ map (λ x. read_local t n x.name x.ty) ps
  locals_agree [] h m n a = refl
  locals_agree (x ∷ ps) h m n a =
      let one : read_local t m x.name x.ty ≡ read_local t n x.name x.ty = a (record { key = local (x.name ∷ []); ty = x.ty }) (h _ (inl refl)) in
      let two = locals_agree ps (λ c i. h c (inr i)) m n a in
      λ i. one i ∷ two i

module _ (g : Setting) where
  -- in these contexts, terms that read within F mean the same in memories that agree on F
  abbrev pub SameInside : (Cell → Type 0) → State → State → Type 0
  SameInside F s q = (m n : Memory) → Agree g.types F m n → Near g.types F (inside s m) (inside q n)

  valued_near : (F : Cell → Type 0) (e : Term) → Covers F (term_cells g e) → (s q : State) → SameInside F s q → (m n : Memory) → Agree g.types F m n → valued g s e m ≡ valued g q e n
  valued_near F e c s q k m n a = ap value_in (near_quiet g F e c _ _ (k m n a))

  all_valued_near : (F : Cell → Type 0) (es : List Term) → Covers F (terms_cells g es) → (s q : State) → SameInside F s q → (m n : Memory) → Agree g.types F m n →
      map (λ e. valued g s e m) es ≡ map (λ e. valued g q e n) es
  all_valued_near F [] c s q k m n a = refl
  all_valued_near F (e ∷ es) c s q k m n a =
      let one = valued_near F e (front F (term_cells g e) (terms_cells g es) c) s q k m n a in
      let two = all_valued_near F es (rest F (term_cells g e) (terms_cells g es) c) s q k m n a in
      λ i. one i ∷ two i

  is_true_near : (F : Cell → Type 0) (e : Term) → Covers F (term_cells g e) → (s q : State) → SameInside F s q → (m n : Memory) → Agree g.types F m n → is_true g s e m ≡ is_true g q e n
  is_true_near F e c s q k m n a = ap truth (near_quiet g F e c _ _ (k m n a))

  mutual
    pub kept_out : (F : Cell → Type 0) (s q : State) → SameInside F s q → (c : Program) → Covers F (program_cells g c) → (m n : Memory) → Agree g.types F m n →
        Zip (SameOrKept m n) (out g s c m) (out g q c n)
    kept_out F s q k done h m n a = (refl, kept_self m n, tt)
    kept_out F s q k (assign xs e c) h m n a =
        let y = assigned g.types m xs (valued g s e m) in
        let z = assigned g.types n xs (valued g q e n) in
        let same = assigned_keeps m n g.types xs _ _ (valued_near F e (front F (term_cells g e) (program_cells g c) h) s q k m n a) m n (kept_self m n) in
        since m n y z same _ _ (kept_out F s q k c (rest F (term_cells g e) (program_cells g c) h) y z (kept_agrees g.types F m n y z a same))
    kept_out F s q k (sample x d c) h m n a =
        zip_then m n _ _ (λ z. out g s c z) (λ z. out g q c z)
        (zip-dmap (λ v w. v ≡ w) (SameOrKept m n) (distribution g d (inside s m)) (distribution g d (inside q n)) (write g.types m x) (write g.types n x)
        (zip-equal _ _ (ap weights_in (near_quiet g F d (front F (term_cells g d) (program_cells g c) h) _ _ (k m n a))))
        (λ v w e. write_keeps m n g.types x v w e m n (kept_self m n)))
        (λ y z j. kept_out F s q k c (rest F (term_cells g d) (program_cells g c) h) y z (kept_agrees g.types F m n y z a j))
    kept_out F s q k (branch e a b c) h m n i =
        let r1 = rest F (term_cells g e) (program_cells g a ++ (program_cells g b ++ program_cells g c)) h in
        let r2 = rest F (program_cells g a) (program_cells g b ++ program_cells g c) r1 in
        zip_then m n _ _ (λ z. out g s c z) (λ z. out g q c z)
        (zip-if (SameOrKept m n) _ _ (is_true_near F e (front F (term_cells g e) (program_cells g a ++ (program_cells g b ++ program_cells g c)) h) s q k m n i) _ _ _ _
        (zip-scale (SameOrKept m n) _ _ refl _ _ (kept_out F s q k a (front F (program_cells g a) (program_cells g b ++ program_cells g c) r1) m n i))
        (zip-scale (SameOrKept m n) _ _ refl _ _ (kept_out F s q k b (front F (program_cells g b) (program_cells g c) r2) m n i)))
        (λ y z j. kept_out F s q k c (rest F (program_cells g b) (program_cells g c) r2) y z (kept_agrees g.types F m n y z i j))
    kept_out F s q k (loop e v a c) h m n i =
        let r1 = rest F (term_cells g e) (term_cells g v ++ (program_cells g a ++ program_cells g c)) h in
        let r2 = rest F (term_cells g v) (program_cells g a ++ program_cells g c) r1 in
        let turns_same : turns_at g s v m ≡ turns_at g q v n =
        ap (λ z. min (number_in z) (most_turns v)) (near_quiet g F v (front F (term_cells g v) (program_cells g a ++ program_cells g c) r1) _ _ (k m n i)) in
        zip_then m n _ _ (λ z. out g s c z) (λ z. out g q c z)
        (zip-scale (SameOrKept m n) _ _ (ap (λ z. run_denominator g a ^ (most_turns v - z)) turns_same) _ _
        (zip-turns (SameOrKept m n) (is_true g s e) (is_true g q e) (λ z. out g s a z) (λ z. out g q a z) (run_denominator g a)
        (λ y z j. is_true_near F e (front F (term_cells g e) (term_cells g v ++ (program_cells g a ++ program_cells g c)) h) s q k y z (kept_agrees g.types F m n y z i j))
        (λ y z j. since m n y z j _ _ (kept_out F s q k a (front F (program_cells g a) (program_cells g c) r2) y z (kept_agrees g.types F m n y z i j))) _ _ turns_same m n (kept_self m n)))
        (λ y z j. kept_out F s q k c (rest F (program_cells g a) (program_cells g c) r2) y z (kept_agrees g.types F m n y z i j))
    kept_out F s q k (call xs r es c) h m n a =
        let r1 = rest F (terms_cells g es) (routine_cells g r ++ program_cells g c) h in
        zip_then m n _ _ (λ z. out g s c z) (λ z. out g q c z)
        (zip-dmap (SameOutcome m.globals n.globals) (SameOrKept m n) _ _ (returned g xs m) (returned g xs n)
        (kept_outcomes F r (front F (routine_cells g r) (program_cells g c) r1) _ _ (all_valued_near F es (front F (terms_cells g es) (routine_cells g r ++ program_cells g c) h) s q k m n a)
        m.globals n.globals (globals_of g.types F m n a))
        (λ y z j. returned_keeps m n g xs y z j))
        (λ y z j. kept_out F s q k c (rest F (routine_cells g r) (program_cells g c) r1) y z (kept_agrees g.types F m n y z a j))
    kept_out F s q k (ask xs o es c) h m n a = kept_out F s q k c h m n a

    pub kept_outcomes : (F : Cell → Type 0) (r : Routine) → Covers F (routine_cells g r) → (vs ws : List Value) → vs ≡ ws → (m n : Map) → GlobalsAgree g.types F m n →
        Zip (SameOutcome m n) (outcomes g r vs m) (outcomes g r ws n)
    kept_outcomes F (routine ps ls c r) h vs ws e m n a =
        let H = with_frame F in
        let all = with_frame_covers F (term_cells g r ++ program_cells g c) h in
        let f = new_frame g ps ls vs in
        let start = entered g.types F m n f a in
        let same = near_inside g.types H closed closed (near_self g.types H closed) in
        subst (λ z. Zip (SameOutcome m n) (outcomes g (routine ps ls c r) vs m) (outcomes g (routine ps ls c r) z n)) e
        (zip-dmap (SameOrKept (record { globals = m; frame = f }) (record { globals = n; frame = f })) (SameOutcome m n) _ _ _ _
        (kept_out H closed closed same c (rest H (term_cells g r) (program_cells g c) all) _ _ start)
        (λ y z j. record {
          frame = ap (λ v. (outcome y.globals v).frame) (valued_near H r (front H (term_cells g r) (program_cells g c) all) closed closed same y z (kept_agrees g.types H (record { globals = m; frame = f }) (record { globals = n; frame = f }) y z start j));
          globals = λ p. j (global p);
        }))

  pub near_out : (F : Cell → Type 0) (s q : State) → Near g.types F s q → (c : Program) → Covers F (program_cells g c) → (m n : Memory) → Agree g.types F m n →
      Zip (Agree g.types F) (out g s c m) (out g q c n)
  near_out F s q k c h m n a = zip_weaken (SameOrKept m n) (Agree g.types F) (λ y z j. kept_agrees g.types F m n y z a j) _ _ (kept_out F s q (near_inside g.types F s q k) c h m n a)

  pub near_outcomes : (F : Cell → Type 0) (r : Routine) → Covers F (routine_cells g r) → (vs ws : List Value) → vs ≡ ws → (m n : Map) → GlobalsAgree g.types F m n →
      Zip (Alike g.types F) (outcomes g r vs m) (outcomes g r ws n)
  near_outcomes F r h vs ws e m n a = zip_weaken (SameOutcome m n) (Alike g.types F) (λ y z j. outcomes_alike g.types F m n y z a j) _ _ (kept_outcomes F r h vs ws e m n a)

  -- from states in which the program's terms mean the same
  pub run_depends : (s q : State) (c : Program) (m n : Memory) → Near g.types (Among (program_cells g c)) (inside s m) (inside q n) →
      Zip (SameOrKept m n) (out g s c m) (out g q c n)
  run_depends s q c m n k = kept_out (Among (program_cells g c)) s q (near_inside g.types (Among (program_cells g c)) (inside s m) (inside q n) k) c (λ c i. i) m n k.own

  pub routine_depends : (r : Routine) (vs : List Value) (m n : Map) → GlobalsAgree g.types (Among (routine_cells g r)) m n →
      Zip (SameOutcome m n) (outcomes g r vs m) (outcomes g r vs n)
  routine_depends r vs m n a = kept_outcomes (Among (routine_cells g r)) r (λ c i. i) vs vs refl m n a
