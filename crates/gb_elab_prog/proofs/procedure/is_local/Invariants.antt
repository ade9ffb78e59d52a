use Rattle.std.proofs.Common.{◌≡◌, drop, bytes_eq}
use Rattle.std.specs.List.{list_any}
use Rattle.gb_elab_prog.proofs.procedure.is_local.Given as goal

abbrev pub invariant-loop-x : goal.invariant-loop-x
invariant-loop-x l = list_any (λ v. bytes_eq v.name l.name) (drop l.x-index l.locals) ≡ list_any (λ v. bytes_eq v.name l.name) l.locals
