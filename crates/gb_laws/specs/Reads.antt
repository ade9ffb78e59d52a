-- What terms and programs read.
use Rattle.std.specs.Prelude.{◌≢◌, List, [], ◌∷◌, ◌++◌, map}
use Rattle.gb_core.specs.declared.ty.Ty.{Ty}
use Rattle.gb_terms.specs.declared.op.Read.TheVariants.{Program as of_program}
use Rattle.gb_terms.specs.declared.term.Term.{Term, Term', Row_of-Term, end_of-Term, more_of-Term, end_of-Head, more_of-Head}
use Rattle.gb_terms.specs.declared.term.Head.{Head}
use Rattle.gb_terms.specs.declared.term.Head.TheVariants as head
use Rattle.gb_meaning.specs.Program.{Program, Routine}
use Rattle.gb_meaning.specs.Program.Program.{done, assign, sample, branch, loop, call, ask}
use Rattle.gb_meaning.specs.Program.Routine.{routine}
use Rattle.gb_meaning.specs.Setting.{Setting}
use Rattle.gb_laws.specs.Cells.{Key, Cell, Cells, In, cells_of, global_cell}

-- the cells that a head itself reads
abbrev pub leaf_cells : Setting → Head → Ty → Cells
leaf_cells g (head.Read (of_program x r)) ty = cells_of g.types x ty
leaf_cells g (head.Glob m r) ty = map global_cell (g.types.footprint m)
leaf_cells g _ ty = []

-- the cells that a term reads outside of judgments and procedures
abbrev mutual
  pub term_cells : Setting → Term → Cells
  term_cells g (Term' p (more_of-Head h end_of-Head) n ts ty) = leaf_cells g h ty ++ row_cells g ts

  pub row_cells : {n : _} → Setting → Row_of-Term n → Cells
  row_cells g end_of-Term = []
  row_cells g (more_of-Term t ts) = term_cells g t ++ row_cells g ts

abbrev pub terms_cells : Setting → List Term → Cells
terms_cells g [] = []
terms_cells g (e ∷ es) = term_cells g e ++ terms_cells g es

-- the cells that a program reads
abbrev mutual
  pub program_cells : Setting → Program → Cells
  program_cells g done = []
  program_cells g (assign xs e c) = term_cells g e ++ program_cells g c
  program_cells g (sample x d c) = term_cells g d ++ program_cells g c
  program_cells g (branch e a b c) = term_cells g e ++ (program_cells g a ++ (program_cells g b ++ program_cells g c))
  program_cells g (loop e v a c) = term_cells g e ++ (term_cells g v ++ (program_cells g a ++ program_cells g c))
  program_cells g (call xs r es c) = terms_cells g es ++ (routine_cells g r ++ program_cells g c)
  program_cells g (ask xs o es c) = program_cells g c

  pub routine_cells : Setting → Routine → Cells
  routine_cells g (routine ps ls c r) = term_cells g r ++ program_cells g c

-- the place is none of those that these cells name
abbrev pub Unread : Cells → Key → Type 0
Unread l k = (c : Cell) → In c l → c.key ≢ k
