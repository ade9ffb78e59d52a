-- The loops of programs.
use Rattle.std.specs.Prelude.{List, [], ◌∷◌, ◌++◌}
use Rattle.gb_terms.specs.declared.term.Term.{Term}
use Rattle.gb_terms.specs.declared.term.Head.TheVariants.{If', While'}
use Rattle.gb_terms.specs.declared.term.Instr.{Instr, Row_of-Instr, end_of-Instr, more_of-Instr}

-- a loop: its guard, its variant and its body
pub record Loop : Type 0 where
  pub guard : Term
  pub variant : Term
  pub body : List Instr

-- statements in a statement, as a list
abbrev pub listed : {n : _} → Row_of-Instr n → List Instr
listed end_of-Instr = []
listed (more_of-Instr i is) = i ∷ listed is

abbrev mutual
  -- the loops of a statement: those inside of a loop before it, and else in the order of the text
  pub statement_loops : Instr → List Loop
  statement_loops (If' e m a n b) = row_loops a ++ row_loops b
  statement_loops (While' e v n a) = row_loops a ++ record { guard = e; variant = v; body = listed a } ∷ []
  statement_loops _ = []

  pub row_loops : {n : _} → Row_of-Instr n → List Loop
  row_loops end_of-Instr = []
  row_loops (more_of-Instr i is) = statement_loops i ++ row_loops is

-- the same of lists
abbrev pub loops : List Instr → List Loop
loops [] = []
loops (i ∷ is) = statement_loops i ++ loops is
