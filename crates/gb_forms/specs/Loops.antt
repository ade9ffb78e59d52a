-- What a turn of a loop does, and what statements write.
use Rattle.std.specs.Prelude.{List, [], Option}
use Rattle.std.specs.Option.{option_map}
use Rattle.gb_core.specs.declared.var.Var.{Var}
use Rattle.gb_terms.specs.declared.op.Side.{Side}
use Rattle.gb_terms.specs.declared.op.Side.TheVariants.{Left, Right}
use Rattle.gb_terms.specs.declared.term.Instr.{Instr}
use Rattle.gb_terms.specs.declared.term.Term.{Term}
use Rattle.gb_goal.specs.Goal.{Goal}
use Rattle.gb_goal.specs.Goal.Code.{body}
use Rattle.gb_goal.specs.Goal.Goal.{hoare, equiv}
use Rattle.gb_goal.specs.Scope.{Declarations}
use Rattle.gb_mods.specs.Called.{all_reached, calls}
use Rattle.gb_mods.specs.Order.{joined}
use Rattle.gb_mods.specs.Written.{targets, written_if}

-- what a turn does: it runs in the memory of the loop, beside an empty body where there are two memories
abbrev pub turn_goal : Side → Term → List Instr → Term → Goal
turn_goal Left v is p = equiv (body is) (body []) p v
turn_goal Right v is p = equiv (body []) (body is) p v
turn_goal r v is p = hoare (body is) p v

-- The variables that statements write, in order, and through all procedures that they call. They aren't known where it isn't known what
-- one of these stands for.
unfoldable pub written : Declarations → List Instr → Option (List Var)
written ds is = option_map (λ xs. joined (targets is) xs) (written_if ds (all_reached ds (calls is)))
