use Rattle.std.proofs.Common.{◌≡◌, ◌<◌, ◌^◌, ◌++◌, true, map, drop, take, length}
use Rattle.gb_smt.specs.Assign.{with_values}
use Rattle.gb_equality.proofs.Products.{are_finite}
use Rattle.gb_smt.proofs.Values.{count, values_at}
use Rattle.gb_smt.proofs.assign.assign.Given as goal

abbrev pub invariant-loop-i : goal.invariant-loop-i
invariant-loop-i l = record {
  each : length l.reads ≡ length l.variables;
  left : l.left ≡ count (drop l.i l.variables);
  below : l.rest < l.left;
  exact : l.left < 2 ^ 63;
  finite : are_finite (map (λ v. v.ty) (drop l.i l.variables)) ≡ true;
  reads : take l.i l.reads ++ with_values (drop l.i l.variables) (values_at (drop l.i l.variables) l.rest) ≡ with_values l.variables (values_at l.variables l.at);
}
