use Rattle.std.proofs.Common.{◌≡◌, ◌||◌, drop}
use Rattle.std.specs.HashSet.{contains_text}
use Rattle.gb_meaning.specs.Names.{Name}
use Rattle.gb_inline.specs.Fresh.{is_taken}
use Rattle.gb_inline.proofs.fresh.local_names.Given as goal

abbrev pub invariant-loop-variable : goal.invariant-loop-variable
invariant-loop-variable l = (x : Name) → (contains_text l.names x || is_taken (drop l.variable-index l.used) x) ≡ is_taken l.used x
