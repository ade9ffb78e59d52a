use Rattle.std.proofs.Common.{rules}
use Rattle.gb_mods.proofs.TouchedSteps.{variables_behind}
use Rattle.gb_mods.proofs.touched.+variables.Goals as goal

pub variables-returns : goal.variables-returns
variables-returns t c = let e = variables_behind c.args.term.now c.args.found in search (rules, e)
