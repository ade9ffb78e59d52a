use Rattle.std.proofs.Common.{◌≡◌, List, refl}
use Rattle.gb_core.specs.declared.place.Place.{Place}
use Rattle.gb_core.specs.declared.refusal.Why.TheVariants.{Syntax}
use Rattle.gb_script.specs.declared.head.Head.{Head}
use Rattle.gb_script.specs.declared.head.Head.TheVariants as head
use Rattle.gb_script.specs.declared.tree.Node.{Node}
use Rattle.gb_goal.specs.Answers.{not_built}
use Rattle.gb_names.specs.declared.bindings.Binding.{Binding}
use Rattle.gb_names.specs.Binders.{bound_in}
use Rattle.gb_names.specs.Environment.{Environment, environment}
use Rattle.gb_names.proofs.Answers.{refuses_as}
use Rattle.gb_names.proofs.binders.bound_in.Goals as goal

-- nodes of other heads bind nothing
no_binder : (h : Head) (at : Environment) (bs : List Binding) (ps : List Node) (p : Place) → (h ≡ head.Values → ⊥) → (h ≡ head.Memory → ⊥) → (h ≡ head.ModuleBind → ⊥)
    → bound_in at bs h ps p ≡ not_built p
no_binder head.Values at bs ps p a b c = absurd (a refl)
no_binder head.Memory at bs ps p a b c = absurd (b refl)
no_binder head.ModuleBind at bs ps p a b c = absurd (c refl)
no_binder _ at bs ps p a b c = refl

pub returns-in_default : goal.returns-in_default
returns-in_default c =
    let d = c.in_default in
    refuses_as _ c.not_built-in_default.result Syntax c.args.place
    (no_binder c.args.head (environment c.args.at.now) c.args.beside.now c.args.parts.now c.args.place d.not-Values d.not-Memory d.not-ModuleBind)
    c.not_built-in_default.ensures
