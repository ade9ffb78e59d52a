-- Rules that put other statements into programs keep names.
use Rattle.std.proofs.Common.{List}
use Rattle.gb_goal.specs.Scope.{Declarations}
use Rattle.gb_steps.specs.declared.step.Acts.{Acts}
use Rattle.gb_steps.specs.declared.step.Transformation.{Transformation}
use Rattle.gb_steps.specs.declared.step.Transformation.TheVariants.{Swap, Kill, Decided, Unroll, Inline}
use Rattle.gb_inline.specs.Rows.{transform_row}
use Rattle.gb_print_names.specs.declared.bound_names.Enumeration.{Enumeration}
use Rattle.gb_shown.specs.Rules.{AreNamedProcedures, KeepsNames}
use Rattle.gb_shown.proofs.Inlined.{inline_keeps}
use Rattle.gb_shown.proofs.Transformed.{swap_keeps, kill_keeps, guard_keeps, unroll_keeps}

pub transformations_keep : (es : List Enumeration) (ds : Declarations) → AreNamedProcedures es ds → (a : Acts) (t : Transformation) → KeepsNames es (transform_row ds a t)
transformations_keep es ds n a (Swap p) = swap_keeps es ds a p
transformations_keep es ds n a (Kill k) = kill_keeps es ds a k
transformations_keep es ds n a (Decided k t) = guard_keeps es k t a
transformations_keep es ds n a (Unroll k) = unroll_keeps es k a
transformations_keep es ds n a (Inline w) = inline_keeps es ds n w a
