-- Where the loops inside of a loop are good, those of its goals are.
use Rattle.std.proofs.Common.{Bool, true, false, if◌then◌else◌, [], ◌∷◌, sym, subst}
use Rattle.std.specs.List.{AllByRecursion}
use Rattle.gb_core.specs.declared.ty.Ty.TheVariants as ty
use Rattle.gb_terms.specs.declared.op.Op.TheVariants as op
use Rattle.gb_terms.specs.declared.op.Side.TheVariants as side
use Rattle.gb_terms.specs.declared.term.Head.TheVariants as head
use Rattle.gb_terms.specs.declared.term.Term.{Term}
use Rattle.gb_walk.specs.Change.{term_changed}
use Rattle.gb_walk.specs.Sides.{reads_side}
use Rattle.gb_goal.specs.Goal.{goal_at, goal_of}
use Rattle.gb_goal.specs.Goal.Code.{body}
use Rattle.gb_goal.specs.Goal.Goal.{hoare}
use Rattle.gb_meaning.specs.Setting.{Setting}
use Rattle.gb_prog.specs.Ends.{LoopsEnd}
use Rattle.gb_typing.specs.Forms.{all_memory, implies_form, to_bound}
use Rattle.gb_typing.proofs.Shapes.{form_goal, node_out}
use Rattle.gb_loops.specs.Loops.{Loop, loops}
use Rattle.gb_forms.specs.Variants.{less}
use Rattle.gb_loops.specs.Variants.{above_zero, fallen, falling_goal, turning, variant_type, zero_of}
use Rattle.gb_elab_laws.specs.Good.{LoopIsGood}
use Rattle.gb_elab_laws.proofs.AllGood.{all_good}

pub turn_ends : (g : Setting) (l : Loop) → AllByRecursion (LoopIsGood g) (loops l.body) → LoopsEnd g (goal_of (falling_goal l).conclusion)
turn_ends g l h = subst (LoopsEnd g) (sym (form_goal (hoare (body l.body) (turning l) (fallen l)) tt)) (all_good g l.body h)

-- the first goal has no body
pub above_ends : (g : Setting) (l : Loop) → LoopsEnd g (goal_of (above_zero l))
above_ends g l = step (reads_side f side.Own)
  where
    positive : Term
    positive = less (zero_of (variant_type l)) l.variant

    f : Term
    f = implies_form l.guard positive

    step : (b : Bool) → LoopsEnd g (goal_of (if b then all_memory side.Own f else f))
    step true = subst (λ x. LoopsEnd g (goal_at (all_memory side.Own f) x.head x.args)) (sym (node_out head.AllMemory (term_changed f (to_bound side.Own) ∷ []) ty.Bool)) tt
    step false = subst (λ x. LoopsEnd g (goal_at f x.head x.args)) (sym (node_out (head.Builtin op.Implies) (l.guard ∷ positive ∷ []) ty.Bool)) tt
