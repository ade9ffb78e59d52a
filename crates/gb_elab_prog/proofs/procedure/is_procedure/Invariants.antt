use Rattle.std.proofs.Common.{◌≡◌, drop, bytes_eq}
use Rattle.std.specs.List.{list_any}
use Rattle.gb_elab_prog.proofs.procedure.is_procedure.Given as goal

abbrev pub invariant-loop-p : goal.invariant-loop-p
invariant-loop-p l = list_any (λ p. bytes_eq p.name l.name) (drop l.p-index l.procs) ≡ list_any (λ p. bytes_eq p.name l.name) l.procs
