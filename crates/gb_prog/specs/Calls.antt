-- Calls of procedures.
use Rattle.std.specs.Prelude.{List}
use Rattle.gb_core.specs.declared.value.Value.{Value}
use Rattle.gb_meaning.specs.Memory.{Memory, arguments}
use Rattle.gb_meaning.specs.Names.{Map, empty}
use Rattle.gb_meaning.specs.Program.{Routine}
use Rattle.gb_meaning.specs.Written.{params_of}

-- the memory that a judgment of a procedure starts from: globals, and a frame with these values of its parameters alone
abbrev pub called_from : Routine → List Value → Map → Memory
called_from r vs globals = record { globals = globals; frame = arguments empty (params_of r) vs }
