use Rattle.std.proofs.Common.{◌∙◌, ◌+◌, sym, ap, option_map, arith}
use Rattle.std.specs.Map.Iter.{deref_pair}
use Rattle.gb_goal.specs.Scope.{weight}
use Rattle.gb_goal.proofs.Named.{counted_more, counted_same}
use Rattle.gb_goal.proofs.scope.Scope.declarations.Goals as goal
use Rattle.gb_goal.proofs.scope.Scope.declarations.Goals.{in-Some, in_default}

pub loop-i-preserved : goal.loop-i-preserved
loop-i-preserved c = elim c.match-get_index.branch [
  | in-Some w ↦ (
    counted_more c.self.inside.entries.entries c.args.self.now c.loop-i.i c.loop-i.count c.match-get_index.count (w.in-Some.field-0-0.now, w.in-Some.entry.now) c.self.view_is
        (sym c.get_index.ensures.entry ∙ ap (option_map deref_pair) w.in-Some.is) c.loop-i.invariant.0
        (w.count-is ∙ ap (λ n. c.loop-i.count + n) (w.weight-count.ensures.weight ∙ ap weight w.get.ensures)),
    omega (arith, w.count-is, w.weight-count.ensures.small, c.loop-i.invariant.1),
  )
  | in_default w ↦ (
    counted_same c.self.inside.entries.entries c.args.self.now c.loop-i.i c.loop-i.count c.match-get_index.count c.self.view_is
        (sym c.get_index.ensures.entry ∙ ap (option_map deref_pair) w.in_default.is) c.loop-i.invariant.0 w.count-is,
    omega (arith, w.count-is, c.loop-i.invariant.1),
  )
]
