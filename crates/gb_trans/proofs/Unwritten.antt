-- Statements write no places but those that they, and the procedures that they reach, are found to write.
use Rattle.std.proofs.Common.{◌≡◌, inl, inr, Bool, true, false, List, [], ◌∷◌, ◌++◌, Option, Some, None, refl, ap, sym, ◌∙◌, subst}
use Rattle.std.proofs.lemmas.Bool.{false≢true}
use Rattle.std.proofs.lemmas.Option.{same_Some}
use Rattle.std.specs.List.{AllByRecursion}
use Rattle.gb_core.specs.declared.var.Var.{Var}
use Rattle.gb_core.specs.declared.var.Var.TheVariants as var
use Rattle.gb_terms.specs.declared.module.ProcRef.{ProcRef}
use Rattle.gb_terms.specs.declared.term.Head.TheVariants.{Assign, Sample, Call', If', While'}
use Rattle.gb_terms.specs.declared.term.Instr.{Instr, Row_of-Instr, end_of-Instr, more_of-Instr}
use Rattle.gb_terms.specs.declared.term.Term.{Term}
use Rattle.gb_meaning.specs.Commands.{called, program_of, statements}
use Rattle.gb_meaning.specs.Names.{Path}
use Rattle.gb_meaning.specs.Program.{Program, Routine}
use Rattle.gb_meaning.specs.Program.Program.{call}
use Rattle.gb_meaning.specs.Program.Routine.{routine}
use Rattle.gb_meaning.specs.Setting.{Setting}
use Rattle.gb_meaning.specs.Values.{Types}
use Rattle.gb_laws.specs.Cells.{Key}
use Rattle.gb_laws.specs.Cells.Key.{global, local}
use Rattle.gb_laws.specs.Writes.{Spares, IfGlobal, Unwritten, UnwrittenBy}
use Rattle.gb_meaning.specs.Footprints.{globals_among}
use Rattle.gb_goal.specs.Scope.{Declarations}
use Rattle.gb_mods.specs.Called.{called_by, row_calls, calls}
use Rattle.gb_mods.specs.Meant.{in_front, meant_by}
use Rattle.gb_mods.specs.Written.{row_targets, targets, written_by, written_itself}
use Rattle.gb_mods.specs.declared.meant.Meant.{Meant}
use Rattle.gb_mods.specs.declared.meant.Meant.TheVariants.{Unknown, Declared, Any}
use Rattle.gb_mods.proofs.Closed.{AreFollowed, IsIn}
use Rattle.gb_prog.specs.AnyOf.{IfOneOf}
use Rattle.gb_prog.specs.Carried.{EachCarried, EachCarriedBy}
use Rattle.gb_prog.specs.Means.{Means}
use Rattle.gb_prog.proofs.Carried.{each_carried}
use Rattle.gb_prog.proofs.Writing.{writes_of_any}
use mathlib.Core.Former.{Count}

-- what is spared by several lists of variables
module _ (t : Types) (k : Key) where
  spares_append : (xs ys : List Var) → Spares t (xs ++ ys) k → Spares t xs k × Spares t ys k
  spares_append [] ys h = (tt, h)
  spares_append (x ∷ xs) ys h = let z = spares_append xs ys h.1 in ((h.0, z.0), z.1)

  -- it is known what is written, and the place is spared
  abbrev AreSpared : Option (List Var) → Type 0
  AreSpared None = ⊥
  AreSpared (Some xs) = Spares t xs k

  spared_front : (o r : Option (List Var)) → AreSpared (in_front o r) → AreSpared o × AreSpared r
  spared_front None r h = absurd h
  spared_front (Some xs) None h = absurd h
  spared_front (Some xs) (Some ys) h = spares_append xs ys h

  -- what each of these procedures writes itself is spared where all that they write is
  written_each : (ds : Declarations) (ps : List ProcRef) → AreSpared (written_by ds ps) → (p : ProcRef) → IsIn ps p → AreSpared (written_itself (meant_by ds p))
  written_each ds [] s p i = absurd i
  written_each ds (q ∷ ps) s p i = let z = spared_front (written_itself (meant_by ds q)) (written_by ds ps) s in by_place z.0 (written_each ds ps z.1 p) i
    where
      by_place : AreSpared (written_itself (meant_by ds q)) → (IsIn ps p → AreSpared (written_itself (meant_by ds p))) → IsIn (q ∷ ps) p → AreSpared (written_itself (meant_by ds p))
      by_place h behind (inl f) = subst (λ z. AreSpared (written_itself (meant_by ds z))) f h
      by_place h behind (inr f) = behind f

-- a place that no statement of a list names
module _ (g : Setting) (k : Key) where
  abbrev Unnamed : List Var → Type 0
  Unnamed ys = Spares g.types ys k

  -- S are procedures of the declarations, with all that they call.
  module _ (S : List ProcRef) where
    -- a routine that stands for one of them leaves the place
    abbrev IsGood : Routine → Type 0
    IsGood = IfOneOf g S (λ r. IfGlobal k (UnwrittenBy g r k))

    -- so does each that a program carries
    abbrev CallsGood : Program → Type 0
    CallsGood = EachCarried IsGood

    abbrev AreThere : List ProcRef → Type 0
    AreThere ps = AllByRecursion (IsIn S) ps

    there_append : (ps qs : List ProcRef) → AreThere (ps ++ qs) → AreThere ps × AreThere qs
    there_append [] qs h = (tt, h)
    there_append (p ∷ ps) qs h = let z = there_append ps qs h.1 in ((h.0, z.0), z.1)

    call_left : (p : ProcRef) → IsIn S p → (xs : List Var) (o : Option Routine) (es : List Term) (c : Program) → g.procedure p ≡ o → Unnamed xs → CallsGood (called xs o es c) →
        (CallsGood c → Unwritten g c k) → Unwritten g (called xs o es c) k
    call_left p i xs (Some r) es c e s h u = (s, h.0 p i e, u h.2)
    call_left p i xs None es c e s h u = u h

    row_left : {n : Count} (is : Row_of-Instr n) → Unnamed (row_targets is) → AreThere (row_calls is) → CallsGood (program_of g is) → Unwritten g (program_of g is) k
    row_left end_of-Instr s h c = tt
    row_left (more_of-Instr (Assign xs e) is) s h c = let z = spares_append g.types k xs (row_targets is) s in (z.0, row_left is z.1 h c)
    row_left (more_of-Instr (Sample y d) is) s h c = (s.0, row_left is s.1 h c)
    row_left (more_of-Instr (Call' xs p n es) is) s h c =
        let z = spares_append g.types k xs (row_targets is) s in call_left p h.0 xs (g.procedure p) _ (program_of g is) refl z.0 c (λ d. row_left is z.1 h.1 d)
    row_left (more_of-Instr (If' e m a n b) is) s h c =
        let z = spares_append g.types k (row_targets a ++ row_targets b) (row_targets is) s in
        let y = spares_append g.types k (row_targets a) (row_targets b) z.0 in
        let w = there_append (row_calls a ++ row_calls b) (row_calls is) h in
        let v = there_append (row_calls a) (row_calls b) w.0 in
        (row_left a y.0 v.0 c.0, row_left b y.1 v.1 c.1, row_left is z.1 w.1 c.2)
    row_left (more_of-Instr (While' e v n a) is) s h c =
        let z = spares_append g.types k (row_targets a) (row_targets is) s in
        let w = there_append (row_calls a) (row_calls is) h in
        (row_left a z.0 w.0 c.0, row_left is z.1 w.1 c.1)

    statements_left : (is : List Instr) → Unnamed (targets is) → AreThere (calls is) → CallsGood (statements g is) → Unwritten g (statements g is) k
    statements_left [] s h c = tt
    statements_left (Assign xs e ∷ is) s h c = let z = spares_append g.types k xs (targets is) s in (z.0, statements_left is z.1 h c)
    statements_left (Sample y d ∷ is) s h c = (s.0, statements_left is s.1 h c)
    statements_left (Call' xs p n es ∷ is) s h c =
        let z = spares_append g.types k xs (targets is) s in call_left p h.0 xs (g.procedure p) _ (statements g is) refl z.0 c (λ d. statements_left is z.1 h.1 d)
    statements_left (If' e m a n b ∷ is) s h c =
        let z = spares_append g.types k (row_targets a ++ row_targets b) (targets is) s in
        let y = spares_append g.types k (row_targets a) (row_targets b) z.0 in
        let w = there_append (row_calls a ++ row_calls b) (calls is) h in
        let v = there_append (row_calls a) (row_calls b) w.0 in
        (row_left a y.0 v.0 c.0, row_left b y.1 v.1 c.1, statements_left is z.1 w.1 c.2)
    statements_left (While' e v n a ∷ is) s h c =
        let z = spares_append g.types k (row_targets a) (targets is) s in
        let w = there_append (row_calls a) (calls is) h in
        (row_left a z.0 w.0 c.0, statements_left is z.1 w.1 c.1)

    each_there : (ps : List ProcRef) → ((p : ProcRef) → IsIn ps p → IsIn S p) → AreThere ps
    each_there [] h = tt
    each_there (p ∷ ps) h = (h p (inl refl), each_there ps (λ q i. h q (inr i)))

abbrev is_local : Key → Bool
is_local (local y) = true
is_local (global y) = false

globals_left : (t : Types) (x : Path) (ys : List Var) → Spares t (globals_among ys) (global x) → Spares t ys (global x)
globals_left t x [] s = tt
globals_left t x (var.Local y ∷ ys) s = (((λ e. false≢true (ap is_local e)), tt), globals_left t x ys s)
globals_left t x (var.Global m y ∷ ys) s = (s.0, globals_left t x ys s.1)
globals_left t x (var.Glob a ∷ ys) s = (s.0, globals_left t x ys s.1)

-- references mean what they stand for, and S are procedures of the declarations, with all that they call
module _ (g : Setting) (ds : Declarations) (means : (p : ProcRef) → Means g p (meant_by ds p)) (S : List ProcRef) (closed : AreFollowed ds S S) where
  -- each of the procedures leaves the place, if it is that of a global, where all that it carries do
  by_meaning : (k : Key) (r : Routine) → EachCarriedBy (IsGood g k S) r → (p : ProcRef) → g.procedure p ≡ Some r → (m : Meant) → Means g p m → AreSpared g.types k (written_itself m) →
      ((q : ProcRef) → IsIn (called_by m) q → IsIn S q) → IfGlobal k (UnwrittenBy g r k)
  by_meaning (local x) r c p e m w s h = tt
  by_meaning (global x) r c p e Unknown w s h = absurd s
  by_meaning (global x) r c p e (Declared f) w s h =
      let is : routine f.params f.locals (statements g f.body.list) f.value ≡ r = same_Some (routine f.params f.locals (statements g f.body.list) f.value) r (sym w ∙ e) in
      subst (λ z. UnwrittenBy g z (global x)) is
      (statements_left g (global x) S f.body.list (globals_left g.types x (targets f.body.list) s) (each_there g (global x) S (calls f.body.list) h)
      (subst (EachCarriedBy (IsGood g (global x) S)) (sym is) c))
  by_meaning (global x) r c p e (Any a qs) w s h = writes_of_any g a qs p w S h (global x) s.0 r e c

  -- statements leave what neither they nor those procedures are found to write
  pub leave : (is : List Instr) → ((q : ProcRef) → IsIn (calls is) q → IsIn S q) → (xs : List Var) → written_by ds S ≡ Some xs → (k : Key) → Spares g.types (targets is ++ xs) k → Unwritten g (statements g is) k
  leave is there xs w k s =
      let z = spares_append g.types k (targets is) xs s in
      let spared : AreSpared g.types k (written_by ds S) = subst (AreSpared g.types k) (sym w) z.1 in
      statements_left g k S is z.0 (each_there g k S (calls is) there)
      (each_carried (IsGood g k S) (λ r c p i e. by_meaning k r c p e (meant_by ds p) (means p) (written_each g.types k ds S spared p i) (closed p i)) (statements g is))
