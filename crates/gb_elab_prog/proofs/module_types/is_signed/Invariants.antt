use Rattle.std.proofs.Common.{◌≡◌, drop, bytes_eq}
use Rattle.std.specs.List.{list_any}
use Rattle.gb_elab_prog.proofs.module_types.is_signed.Given as goal

abbrev pub invariant-loop-s : goal.invariant-loop-s
invariant-loop-s l = list_any (λ s. bytes_eq s.name l.name) (drop l.s-index l.signatures) ≡ list_any (λ s. bytes_eq s.name l.name) l.signatures
