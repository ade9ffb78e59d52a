use Rattle.std.proofs.Common.{◌≡◌, drop}
use Rattle.std.specs.List.{list_all}
use Rattle.gb_linear.specs.Numbers.{is_zero}
use Rattle.gb_linear.proofs.forms.is_constant.Given as goal

abbrev pub invariant-loop-x : goal.invariant-loop-x
invariant-loop-x l = list_all (λ x. is_zero x.coefficient) (drop l.x-index l.a.summands) ≡ list_all (λ x. is_zero x.coefficient) l.a.summands
