use Rattle.std.proofs.Common.{◌≡◌, ◌++◌, map, take}
use Rattle.gb_goal.specs.declared.scope.Binder.TheVariants.{Value}
use Rattle.gb_elab_mod.proofs.binders.with_values.Given as goal

abbrev pub invariant-loop-word : goal.invariant-loop-word
invariant-loop-word l = l.all ≡ l.fn.found ++ map (λ x. Value) (take l._word-index l.words)
