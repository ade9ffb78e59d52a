-- Turns of loops as statements.
use Rattle.std.specs.Prelude.{[]}
use Rattle.gb_terms.specs.declared.term.Cmd.{Cmd}
use Rattle.gb_terms.specs.declared.term.Head.TheVariants.{If}
use Rattle.gb_terms.specs.declared.term.Instr.{Instr}
use Rattle.gb_terms.specs.declared.term.Term.{Term}

-- a turn of a loop, where its guard is true
abbrev pub turn : Term → Cmd → Instr
turn e b = If e b (record { list = [] })
