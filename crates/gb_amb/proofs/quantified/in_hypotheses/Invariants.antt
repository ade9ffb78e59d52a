use Rattle.std.proofs.Common.{◌≡◌, drop}
use Rattle.std.specs.List.{list_any}
use Rattle.gb_amb.specs.Quantified.{quantifies_modules}
use Rattle.gb_amb.proofs.quantified.in_hypotheses.Given as goal

abbrev pub invariant-loop-h : goal.invariant-loop-h
invariant-loop-h l = list_any (λ h. quantifies_modules h.form) (drop l.h-index l.hyps) ≡ list_any (λ h. quantifies_modules h.form) l.hyps
