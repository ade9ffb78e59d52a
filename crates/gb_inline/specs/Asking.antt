-- Which calls are asked for, of references.
use Rattle.std.specs.Prelude.{List, Option}
use Rattle.gb_core.specs.declared.var.Var.{Var}
use Rattle.gb_terms.specs.declared.term.Instr.{Instr}
use Rattle.gb_inline.specs.Expanded.{expanded}
use Rattle.gb_inline.specs.Inlined.{Expansion, asked, once}
use Rattle.gb_inline.specs.declared.inlined.Asking.{Asking}

-- what becomes of a call, where new names are none of these variables
abbrev pub expansion : Asking → List Var → Expansion
expansion a used xs f es = expanded used (asked a.scope.now a.calls.now f) xs es

abbrev pub once_asked : Asking → List Instr → Option (List Instr)
once_asked a is = once a.scope.now a.calls.now a.side a.pre.now a.post.now is
