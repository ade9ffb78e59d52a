-- Procedures that call each other alone reach good loops alone, where each has good loops itself.
use Rattle.std.proofs.Common.{◌≡◌, List, [], ◌∷◌, Option, Some, None, refl, sym, ◌∙◌, subst}
use Rattle.std.proofs.lemmas.Option.{same_Some}
use Rattle.gb_core.specs.declared.var.Var.{Var}
use Rattle.gb_terms.specs.declared.decl.Proc.{Proc}
use Rattle.gb_terms.specs.declared.module.ProcRef.{ProcRef}
use Rattle.gb_terms.specs.declared.term.Head.TheVariants.{Assign, Sample, Call', If', While'}
use Rattle.gb_terms.specs.declared.term.Instr.{Instr, Row_of-Instr, end_of-Instr, more_of-Instr}
use Rattle.gb_terms.specs.declared.term.Term.{Term}
use Rattle.gb_meaning.specs.Commands.{called, program_of, statement, statements}
use Rattle.gb_meaning.specs.Program.{Program, Routine}
use Rattle.gb_meaning.specs.Program.Program.{done, assign, sample, branch, loop, call, ask}
use Rattle.gb_meaning.specs.Program.Routine.{routine}
use Rattle.gb_meaning.specs.Setting.{Setting}
use Rattle.gb_goal.specs.Scope.{Declarations, procedure_of}
use Rattle.gb_meaning.specs.Holds.{LoopsAreGood}
use Rattle.gb_meaning.specs.Naming.{EachCall, EachCallIn, EachCallOf}
use Rattle.gb_prog.specs.Loops.{EachLoopIsGood, EachLoopOfIsGood}
use Rattle.gb_prog.specs.Ends.{AreEnded, ReachesGoodLoops}
use mathlib.Core.Former.{Count}

module _ (g : Setting) (E : ProcRef → Type 0) where
  -- a routine is that of a procedure in E
  abbrev IsOne : Routine → Type 0
  IsOne r = (p : ProcRef) × E p × (g.procedure p ≡ Some r)

  -- the calls of a program itself carry such routines
  abbrev CarriesIn : Program → Type 0
  CarriesIn done = Unit {0}
  CarriesIn (assign xs e c) = CarriesIn c
  CarriesIn (sample x d c) = CarriesIn c
  CarriesIn (branch e a b c) = CarriesIn a × CarriesIn b × CarriesIn c
  CarriesIn (loop e v a c) = CarriesIn a × CarriesIn c
  CarriesIn (call xs r es c) = IsOne r × CarriesIn c
  CarriesIn (ask xs o es c) = CarriesIn c

  called_carries : (xs : List Var) (p : ProcRef) (es : List Term) (c : Program) → E p → CarriesIn c → (o : Option Routine) → g.procedure p ≡ o → CarriesIn (called xs o es c)
  called_carries xs p es c e h None k = h
  called_carries xs p es c e h (Some r) k = ((p, e, k), h)

  row_carries : {n : Count} (is : Row_of-Instr n) → EachCallIn E is → CarriesIn (program_of g is)
  row_carries end_of-Instr h = tt
  row_carries (more_of-Instr (Assign xs e) is) h = row_carries is h.1
  row_carries (more_of-Instr (Sample x d) is) h = row_carries is h.1
  row_carries (more_of-Instr (Call' xs p n es) is) h = called_carries xs p _ (program_of g is) h.0 (row_carries is h.1) (g.procedure p) refl
  row_carries (more_of-Instr (If' e m a n b) is) h = (row_carries a h.0.0, row_carries b h.0.1, row_carries is h.1)
  row_carries (more_of-Instr (While' e v n a) is) h = (row_carries a h.0, row_carries is h.1)

  statement_carries : (i : Instr) (c : Program) → EachCall E i → CarriesIn c → CarriesIn (statement g i c)
  statement_carries (Assign xs e) c h k = k
  statement_carries (Sample x d) c h k = k
  statement_carries (Call' xs p n es) c h k = called_carries xs p _ c h k (g.procedure p) refl
  statement_carries (If' e m a n b) c h k = (row_carries a h.0, row_carries b h.1, k)
  statement_carries (While' e v n a) c h k = (row_carries a h, k)

  statements_carry : (is : List Instr) → EachCallOf E is → CarriesIn (statements g is)
  statements_carry [] h = tt
  statements_carry (i ∷ is) h = statement_carries i (statements g is) h.0 (statements_carry is h.1)

  module _ (ds : Declarations) (linked : (p : ProcRef) (a : Proc) → procedure_of ds p ≡ Some a → g.procedure p ≡ Some (routine a.params a.locals (statements g a.body.list) a.value)) (ended : AreEnded ds g E) where
    -- what the body of such a routine is
    abbrev body_of : Routine → Program
    body_of (routine ps ls c r) = c

    body_is : (r : Routine) → IsOne r → LoopsAreGood g (body_of r) × CarriesIn (body_of r)
    body_is r h =
        let k = ended h.0 h.1 in
        let a : Proc = k.0 in
        let e : routine a.params a.locals (statements g a.body.list) a.value ≡ r = same_Some _ r (sym (linked h.0 a k.1) ∙ h.2) in
        subst (λ z. LoopsAreGood g (body_of z) × CarriesIn (body_of z)) e (k.3, statements_carry a.body.list k.2)

    mutual
      each_good : (c : Program) → LoopsAreGood g c → CarriesIn c → EachLoopIsGood g c
      each_good done h k = tt
      each_good (assign xs e c) h k = each_good c h k
      each_good (sample x d c) h k = each_good c h k
      each_good (branch e a b c) h k = (each_good a h.0 k.0, each_good b h.1 k.1, each_good c h.2 k.2)
      each_good (loop e v a c) h k = (h.0, each_good a h.1 k.0, each_good c h.2 k.1)
      each_good (call xs r es c) h k = (routine_good r k.0, each_good c h k.1)
      each_good (ask xs o es c) h k = each_good c h k

      routine_good : (r : Routine) → IsOne r → EachLoopOfIsGood g r
      routine_good (routine ps ls c v) k = let b = body_is (routine ps ls c v) k in each_good c b.0 b.1

    pub procedure_ends : (p : ProcRef) → E p → ReachesGoodLoops g (g.procedure p)
    procedure_ends p e = by_routine (g.procedure p) refl
      where
        by_routine : (o : Option Routine) → g.procedure p ≡ o → ReachesGoodLoops g o
        by_routine None k = tt
        by_routine (Some r) k = routine_good r (p, e, k)
