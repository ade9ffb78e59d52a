-- What judgments and forms read.
use Rattle.std.specs.Prelude.{[], ◌∷◌, ◌++◌, map, Option, Some, None}
use Rattle.gb_terms.specs.declared.decl.TypedName.{TypedName}
use Rattle.gb_terms.specs.declared.term.Term.{Term, Term', Row_of-Term, end_of-Term, more_of-Term, end_of-Head, more_of-Head}
use Rattle.gb_terms.specs.declared.term.Head.{Head}
use Rattle.gb_terms.specs.declared.term.Head.TheVariants as head
use Rattle.gb_terms.specs.declared.term.Head.TheVariants.{Proc, Body'}
use Rattle.gb_terms.specs.declared.term.Subject.{Subject}
use Rattle.gb_meaning.specs.Program.{Routine}
use Rattle.gb_meaning.specs.Program.Routine.{routine}
use Rattle.gb_meaning.specs.Setting.{Setting}
use Rattle.gb_meaning.specs.Commands.{program_of}
use Rattle.gb_laws.specs.Cells.{Cell, Cells}
use Rattle.gb_laws.specs.Cells.Key.{local}
use Rattle.gb_laws.specs.Reads.{leaf_cells, program_cells, routine_cells}

abbrev pub parameter_cell : TypedName → Cell
parameter_cell x = record { key = local (x.name ∷ []); ty = x.ty }

abbrev pub frame_cells : Setting → Option Routine → Cells
frame_cells g (Some (routine ps ls c r)) = map parameter_cell ps ++ routine_cells g (routine ps ls c r)
frame_cells g None = []

-- the cells that what a judgment speaks of reads
abbrev pub subject_cells : Setting → Subject → Cells
subject_cells g (Proc p) = frame_cells g (g.procedure p)
subject_cells g (Body' n is) = program_cells g (program_of g is)

abbrev pub procedure_cells : Setting → Option Routine → Cells
procedure_cells g (Some r) = routine_cells g r
procedure_cells g None = []

-- the cells that the programs of a head read
abbrev pub judged_cells : Setting → Head → Cells
judged_cells g (head.Pr p r) = procedure_cells g (g.procedure p)
judged_cells g (head.Hoare c) = subject_cells g c
judged_cells g (head.Phoare c r) = subject_cells g c
judged_cells g (head.Equiv c d) = subject_cells g c ++ subject_cells g d
judged_cells g _ = []

-- all cells that a form reads
abbrev mutual
  pub form_cells : Setting → Term → Cells
  form_cells g (Term' p (more_of-Head h end_of-Head) n ts ty) = leaf_cells g h ty ++ (judged_cells g h ++ all_cells g ts)

  pub all_cells : {n : _} → Setting → Row_of-Term n → Cells
  all_cells g end_of-Term = []
  all_cells g (more_of-Term t ts) = form_cells g t ++ all_cells g ts
