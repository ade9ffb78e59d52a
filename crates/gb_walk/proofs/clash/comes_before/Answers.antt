use Rattle.std.proofs.Common.{◌≡◌, Some, refl, ◌∙◌}
use Rattle.std.specs.Ordering.{is_lt, is_some_and, ordering_then, partial_ordering_then, partial_lt}
use Rattle.std.specs.declared.cmp.Ordering.{Ordering}
use Rattle.std.specs.declared.cmp.Ordering.TheVariants.{Less, Equal, Greater}
use Rattle.gb_core.specs.declared.var.Var.{Var}
use Rattle.gb_core.specs.declared.var.Var.TheVariants.{Global, Local, Glob}
use Rattle.gb_core.specs.contracts.var.VarPartialOrd.TheImpl as order
use Rattle.gb_walk.specs.Clash.{name_order, comes_before}
use Rattle.gb_walk.proofs.clash.comes_before.Goals as goal

both_parts : (o p : Ordering) → is_some_and is_lt (partial_ordering_then (Some o) (Some p)) ≡ is_lt (ordering_then o p)
both_parts Less p = refl
both_parts Equal p = refl
both_parts Greater p = refl

-- the derived order
before : (x y : Var) → partial_lt order.ghosts.partial_cmp x y ≡ comes_before x y
before (Global m x) (Global n y) = both_parts (name_order m n) (name_order x y)
before (Global m x) (Local y) = refl
before (Global m x) (Glob y) = refl
before (Local x) (Local y) = refl
before (Local x) (Glob y) = refl
before (Local x) (Global n y) = refl
before (Glob x) (Glob y) = refl
before (Glob x) (Local y) = refl
before (Glob x) (Global n y) = refl

pub returns : goal.returns
returns c = c.lt.ensures ∙ before c.args.x.now c.args.y.now
