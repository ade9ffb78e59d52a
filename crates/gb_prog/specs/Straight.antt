-- Statements without chance: assignments, and branches between such.
use Rattle.std.specs.Prelude.{List, [], ◌∷◌, if◌then◌else◌}
use Rattle.gb_terms.specs.declared.term.Instr.{Instr, Row_of-Instr, end_of-Instr, more_of-Instr}
use Rattle.gb_terms.specs.declared.term.Head.TheVariants.{Assign, If'}
use Rattle.gb_meaning.specs.Memory.{Memory, assigned}
use Rattle.gb_meaning.specs.Program.{Program}
use Rattle.gb_meaning.specs.Program.Program.{done, assign, branch}
use Rattle.gb_meaning.specs.Setting.{Setting}
use Rattle.gb_meaning.specs.State.{State}
use Rattle.gb_meaning.specs.Runs.{valued, is_true}
use Rattle.gb_meaning.specs.Commands.{statements}

abbrev mutual
  -- an assignment, or a branch whose sides are such statements
  pub IsStraight : Instr → Type 0
  IsStraight (Assign xs e) = Unit {0}
  IsStraight (If' e m a n b) = RowIsStraight a × RowIsStraight b
  IsStraight _ = ⊥

  pub RowIsStraight : {n : _} → Row_of-Instr n → Type 0
  RowIsStraight end_of-Instr = Unit {0}
  RowIsStraight (more_of-Instr i is) = IsStraight i × RowIsStraight is

-- the same of lists
abbrev pub AreStraight : List Instr → Type 0
AreStraight [] = Unit {0}
AreStraight (i ∷ is) = IsStraight i × AreStraight is

-- the memory in which a program without chance ends
abbrev pub ended : Setting → State → Program → Memory → Memory
ended g s done m = m
ended g s (assign xs e c) m = ended g s c (assigned g.types m xs (valued g s e m))
ended g s (branch e a b c) m = ended g s c (if is_true g s e m then ended g s a m else ended g s b m)
ended g s _ m = m

-- the memory after statements without chance
abbrev pub after : Setting → State → List Instr → Memory → Memory
after g s is m = ended g s (statements g is) m
