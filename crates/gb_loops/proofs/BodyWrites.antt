-- Statements write no variable but those that they are found to write.
use Rattle.std.proofs.Common.{◌≡◌, inl, inr, List, [], ◌∷◌, ◌++◌, Option, Some, None, refl, sym, subst}
use Rattle.std.specs.List.{AllByRecursion}
use Rattle.std.specs.Option.{option_map}
use Rattle.std.proofs.lemmas.Option.{same_Some, none-some}
use Rattle.gb_core.specs.declared.var.Var.{Var}
use Rattle.gb_terms.specs.declared.module.ProcRef.{ProcRef}
use Rattle.gb_terms.specs.declared.term.Head.TheVariants.{Assign, Sample, Call', If', While'}
use Rattle.gb_terms.specs.declared.term.Instr.{Instr, Row_of-Instr, end_of-Instr, more_of-Instr}
use Rattle.gb_terms.specs.declared.term.Term.{Term}
use Rattle.gb_meaning.specs.Commands.{called, program_of, statement, statements}
use Rattle.gb_meaning.specs.Program.{Program, Routine}
use Rattle.gb_meaning.specs.Setting.{Setting}
use Rattle.gb_laws.specs.Cells.{Key}
use Rattle.gb_laws.specs.Cells.Key.{global, local}
use Rattle.gb_laws.specs.Writes.{IfGlobal, Spares, Unwritten, UnwrittenBy}
use Rattle.gb_goal.specs.Scope.{Declarations}
use Rattle.gb_prog.specs.Writes.{WritesWithin}
use Rattle.gb_mods.specs.Called.{all_reached, row_calls, statement_calls, calls}
use Rattle.gb_mods.specs.Meant.{meant_by}
use Rattle.gb_mods.specs.Order.{joined}
use Rattle.gb_mods.specs.Written.{row_targets, statement_targets, targets, written_if}
use Rattle.gb_mods.proofs.Closed.{IsIn}
use Rattle.gb_prog.specs.Means.{Means}
use Rattle.gb_call.proofs.Unwritten.{reached_left, spares_append, spares_joined}
use Rattle.gb_forms.specs.Loops.{written}
use mathlib.Core.Former.{Count}

-- A place that no statement of a list names.
module _ (g : Setting) (k : Key) where
  abbrev Unnamed : List Var → Type 0
  Unnamed xs = Spares g.types xs k

  -- a procedure leaves it, where it is one of a global
  abbrev IsLeft : ProcRef → Type 0
  IsLeft p = (r : Routine) → g.procedure p ≡ Some r → IfGlobal k (UnwrittenBy g r k)

  abbrev AreLeft : List ProcRef → Type 0
  AreLeft ps = AllByRecursion IsLeft ps

  left_append : (ps qs : List ProcRef) → AreLeft (ps ++ qs) → AreLeft ps × AreLeft qs
  left_append [] qs h = (tt, h)
  left_append (p ∷ ps) qs h = let z = left_append ps qs h.1 in ((h.0, z.0), z.1)

  call_left : (xs : List Var) (o : Option Routine) (es : List Term) (c : Program) → Unnamed xs → ((r : Routine) → o ≡ Some r → IfGlobal k (UnwrittenBy g r k)) → Unwritten g c k → Unwritten g (called xs o es c) k
  call_left xs (Some r) es c s h u = (s, h r refl, u)
  call_left xs None es c s h u = u

  row_left : {n : Count} (is : Row_of-Instr n) → Unnamed (row_targets is) → AreLeft (row_calls is) → Unwritten g (program_of g is) k
  row_left end_of-Instr s h = tt
  row_left (more_of-Instr (Assign xs e) is) s h = let z = spares_append g.types k xs (row_targets is) s in (z.0, row_left is z.1 h)
  row_left (more_of-Instr (Sample y d) is) s h = (s.0, row_left is s.1 h)
  row_left (more_of-Instr (Call' xs p n es) is) s h =
      let z = spares_append g.types k xs (row_targets is) s in call_left xs (g.procedure p) _ (program_of g is) z.0 h.0 (row_left is z.1 h.1)
  row_left (more_of-Instr (If' e m a n b) is) s h =
      let z = spares_append g.types k (row_targets a ++ row_targets b) (row_targets is) s in
      let y = spares_append g.types k (row_targets a) (row_targets b) z.0 in
      let w = left_append (row_calls a ++ row_calls b) (row_calls is) h in
      let v = left_append (row_calls a) (row_calls b) w.0 in
      (row_left a y.0 v.0, row_left b y.1 v.1, row_left is z.1 w.1)
  row_left (more_of-Instr (While' e v n a) is) s h =
      let z = spares_append g.types k (row_targets a) (row_targets is) s in
      let w = left_append (row_calls a) (row_calls is) h in
      (row_left a z.0 w.0, row_left is z.1 w.1)

  statement_left : (i : Instr) (c : Program) → Unnamed (statement_targets i) → AreLeft (statement_calls i) → Unwritten g c k → Unwritten g (statement g i c) k
  statement_left (Assign xs e) c s h u = (s, u)
  statement_left (Sample y d) c s h u = (s.0, u)
  statement_left (Call' xs p n es) c s h u = call_left xs (g.procedure p) _ c s h.0 u
  statement_left (If' e m a n b) c s h u =
      let y = spares_append g.types k (row_targets a) (row_targets b) s in
      let v = left_append (row_calls a) (row_calls b) h in
      (row_left a y.0 v.0, row_left b y.1 v.1, u)
  statement_left (While' e v n a) c s h u = (row_left a s h, u)

  statements_left : (is : List Instr) → Unnamed (targets is) → AreLeft (calls is) → Unwritten g (statements g is) k
  statements_left [] s h = tt
  statements_left (i ∷ is) s h =
      let z = spares_append g.types k (statement_targets i) (targets is) s in
      let w = left_append (statement_calls i) (calls is) h in
      statement_left i (statements g is) z.0 w.0 (statements_left is z.1 w.1)

-- references mean what they stand for
module _ (g : Setting) (ds : Declarations) (means : (p : ProcRef) → Means g p (meant_by ds p)) where
  callee_left : (k : Key) (U : List Var) → Spares g.types U k → (ps : List ProcRef) → written_if ds (all_reached ds ps) ≡ Some U → (p : ProcRef) → IsIn ps p → IsLeft g k p
  callee_left (global y) U s ps e p i r f = reached_left g y ds means ps U e s p i r f
  callee_left (local y) U s ps e p i r f = tt

  each_left : (k : Key) (ps : List ProcRef) → ((p : ProcRef) → IsIn ps p → IsLeft g k p) → AreLeft g k ps
  each_left k [] h = tt
  each_left k (p ∷ ps) h = (h p (inl refl), each_left k ps (λ q i. h q (inr i)))

  pub writes_found : (is : List Instr) (U : List Var) → written ds is ≡ Some U → WritesWithin g U (statements g is)
  unfolding written
  writes_found is U e k s = by_found (written_if ds (all_reached ds (calls is))) refl e
    where
      by_found : (o : Option (List Var)) → written_if ds (all_reached ds (calls is)) ≡ o → option_map (λ xs. joined (targets is) xs) o ≡ Some U → Unwritten g (statements g is) k
      by_found None d e = absurd (none-some U e)
      by_found (Some V) d e =
          let z = spares_joined g.types k (targets is) V (subst (λ z. Spares g.types z k) (sym (same_Some (joined (targets is) V) U e)) s) in
          statements_left g k is z.0 (each_left k (calls is) (λ p i. callee_left k V z.1 (calls is) d p i))
