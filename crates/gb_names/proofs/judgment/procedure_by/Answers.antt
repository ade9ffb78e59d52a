use Rattle.std.proofs.Common.{◌≡◌, List, refl}
use Rattle.gb_core.specs.declared.place.Place.{Place}
use Rattle.gb_core.specs.declared.refusal.Why.TheVariants.{Syntax}
use Rattle.gb_script.specs.declared.head.Head.{Head}
use Rattle.gb_script.specs.declared.head.Head.TheVariants as head
use Rattle.gb_script.specs.declared.tree.Node.{Node}
use Rattle.gb_goal.specs.Answers.{not_built}
use Rattle.gb_names.specs.declared.bindings.Binding.{Binding}
use Rattle.gb_names.specs.Environment.{Environment, environment}
use Rattle.gb_names.specs.Judgments.{procedure_by}
use Rattle.gb_names.proofs.Answers.{refuses_as}
use Rattle.gb_names.proofs.judgment.procedure_by.Goals as goal

-- nodes of other heads name no procedure
no_path : (h : Head) (at : Environment) (bound : List Binding) (x : Node) (ps : List Node) (p : Place) → (h ≡ head.ProcedurePath → ⊥) → (h ≡ head.FunctorPath → ⊥)
    → procedure_by at bound h x ps p ≡ not_built p
no_path head.ProcedurePath at bound x ps p a b = absurd (a refl)
no_path head.FunctorPath at bound x ps p a b = absurd (b refl)
no_path _ at bound x ps p a b = refl

pub returns-in_default : goal.returns-in_default
returns-in_default c =
    let d = c.in_default in
    refuses_as _ c.not_built-in_default.result Syntax c.args.place
    (no_path c.args.head (environment c.args.at.now) c.args.bound.now c.args.first.now c.args.parts.now c.args.place d.not-ProcedurePath d.not-FunctorPath)
    c.not_built-in_default.ensures
