use Rattle.std.proofs.Common.{List, ℕ, ap, ◌∙◌}
use Rattle.gb_core.specs.declared.ty.Ty.{Ty}
use Rattle.gb_terms.specs.declared.decl.TypedName.{TypedName}
use Rattle.gb_names.proofs.binders.variable.Goals as goal

abbrev made : List ℕ → Ty → TypedName
made x t = record { name = x; ty = t }

pub returns : goal.returns
returns c = ap (λ n. made n c.in_ok-ty.ty) c.in_ok-name.ensures ∙ ap (made c.args.name.now) c.in_ok-ty.ensures
