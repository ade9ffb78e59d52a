use Rattle.std.proofs.Common.{◌≡◌, map, drop}
use Rattle.gb_names.specs.Types.{all_given, type_of}
use Rattle.gb_elab_stmt.proofs.Gathered.{behind}
use Rattle.gb_elab_prog.proofs.operators.all_types.Given as goal

abbrev pub invariant-loop-ty : goal.invariant-loop-ty
invariant-loop-ty l = behind l.all (all_given (map (type_of l.scope) (drop l.ty-index l.types))) ≡ all_given (map (type_of l.scope) l.types)
