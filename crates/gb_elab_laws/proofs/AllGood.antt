-- Programs of which each loop is good.
use Rattle.std.proofs.Common.{◌≡◌, List, [], ◌∷◌, Option, Some, None, refl, ap, sym, ◌∙◌, subst}
use Rattle.std.specs.List.{AllByRecursion}
use Rattle.gb_core.specs.declared.var.Var.{Var}
use Rattle.gb_terms.specs.declared.term.Head.TheVariants.{Assign, Sample, Call', If', While'}
use Rattle.gb_terms.specs.declared.term.Instr.{Instr, Row_of-Instr, end_of-Instr, more_of-Instr}
use Rattle.gb_terms.specs.declared.term.Term.{Term}
use Rattle.gb_meaning.specs.Commands.{called, program_of, statement, statements}
use Rattle.gb_meaning.specs.Loops.{IsGood}
use Rattle.gb_meaning.specs.Program.{Program, Routine}
use Rattle.gb_meaning.specs.Setting.{Setting}
use Rattle.gb_meaning.specs.State.{closed}
use Rattle.gb_meaning.specs.Holds.{LoopsAreGood}
use Rattle.gb_loops.specs.Loops.{Loop, listed, statement_loops, row_loops, loops}
use Rattle.gb_elab_laws.specs.Good.{LoopIsGood}
use Rattle.gb_elab_laws.proofs.Lists.{behind, front}
use mathlib.Core.Former.{Count}

module _ (g : Setting) where
  program_more : {n : Count} (i : Instr) (is : Row_of-Instr n) → program_of g (more_of-Instr i is) ≡ statement g i (program_of g is)
  program_more (Assign xs e) is = refl
  program_more (Sample x d) is = refl
  program_more (Call' xs p n es) is = refl
  program_more (If' e m a n b) is = refl
  program_more (While' e v n a) is = refl

  pub listed_program : {n : Count} (r : Row_of-Instr n) → statements g (listed r) ≡ program_of g r
  listed_program end_of-Instr = refl
  listed_program (more_of-Instr i is) = ap (statement g i) (listed_program is) ∙ sym (program_more i is)

  abbrev Good : Loop → Type 0
  Good l = LoopIsGood g l

  called_good : (xs : List Var) (o : Option Routine) (es : List Term) (c : Program) → LoopsAreGood g c → LoopsAreGood g (called xs o es c)
  called_good xs None es c h = h
  called_good xs (Some r) es c h = h

  mutual
    statement_good : (i : Instr) (c : Program) → AllByRecursion Good (statement_loops i) → LoopsAreGood g c → LoopsAreGood g (statement g i c)
    statement_good (Assign xs e) c h k = k
    statement_good (Sample x d) c h k = k
    statement_good (Call' xs p n es) c h k = called_good xs (g.procedure p) _ c k
    statement_good (If' e m a n b) c h k = (row_good a (front Good (row_loops a) (row_loops b) h), row_good b (behind Good (row_loops a) (row_loops b) h), k)
    statement_good (While' e v n a) c h k =
        let l : Loop = record { guard = e; variant = v; body = listed a } in
        (subst (IsGood g closed e v) (listed_program a) (behind Good (row_loops a) (l ∷ []) h).0, row_good a (front Good (row_loops a) (l ∷ []) h), k)

    row_good : {n : Count} (r : Row_of-Instr n) → AllByRecursion Good (row_loops r) → LoopsAreGood g (program_of g r)
    row_good end_of-Instr h = tt
    row_good (more_of-Instr i is) h =
        subst (LoopsAreGood g) (sym (program_more i is))
        (statement_good i (program_of g is) (front Good (statement_loops i) (row_loops is) h) (row_good is (behind Good (statement_loops i) (row_loops is) h)))

  -- where each of its loops is good, a program's loops are
  pub all_good : (is : List Instr) → AllByRecursion Good (loops is) → LoopsAreGood g (statements g is)
  all_good [] h = tt
  all_good (i ∷ is) h = statement_good i (statements g is) (front Good (statement_loops i) (loops is) h) (all_good is (behind Good (statement_loops i) (loops is) h))
