-- Where the body of a procedure starts, and what comes out of it.
use Rattle.std.specs.Prelude.{List, [], ◌∷◌, map}
use Rattle.gb_core.specs.declared.var.Var.TheVariants.{Local}
use Rattle.gb_terms.specs.declared.decl.Proc.{Proc}
use Rattle.gb_terms.specs.declared.decl.TypedName.{TypedName}
use Rattle.gb_terms.specs.declared.op.Side.{Side}
use Rattle.gb_terms.specs.declared.op.Read.TheVariants.{Program}
use Rattle.gb_walk.specs.declared.change.Change.{Change}
use Rattle.gb_walk.specs.declared.change.Change.TheVariants.{ToTerm}
use Rattle.gb_meaning.specs.Memory.{Memory, read_local, outcome, result_name}
use Rattle.gb_meaning.specs.Runs.{valued, new_frame}
use Rattle.gb_meaning.specs.Setting.{Setting}
use Rattle.gb_meaning.specs.State.{closed}
use Rattle.gb_typing.specs.Forms.{located}

-- the memory in which the body starts, with the arguments that a memory holds for the parameters
abbrev pub start : Setting → Proc → Memory → Memory
start g p m = record { globals = m.globals; frame = new_frame g p.params p.locals (map (λ x. read_local g.types m x.name x.ty) p.params) }

-- the outcome of a procedure whose body ends in a memory
abbrev pub ended : Setting → Proc → Memory → Memory
ended g p m = outcome m.globals (valued g closed p.value m)

-- what an outcome holds
abbrev pub result_of : Proc → List TypedName
result_of p = record { name = result_name; ty = p.result } ∷ []

-- the result of a procedure in a memory becomes the term that it returns
abbrev pub returned : Side → Proc → Change
returned r p = ToTerm (Program (Local result_name) r) (located r p.value)
