-- The typing of the statement of a lemma.
use Rattle.std.specs.Prelude.{ℕ, List, [], ◌∷◌, ◌++◌, map, Some}
use Rattle.gb_core.specs.declared.place.Place.{Place}
use Rattle.gb_core.specs.declared.ty.Ty.TheVariants.{Bool as bool_ty}
use Rattle.gb_goal.specs.declared.scope.Binder.{Binder}
use Rattle.gb_goal.specs.declared.scope.Binder.TheVariants.{Value, Memory, Module}
use Rattle.gb_goal.specs.declared.sequent.Sequent.{Sequent}
use Rattle.gb_goal.specs.Scope.{Declarations}
use Rattle.gb_script.specs.declared.head.Head.{Head}
use Rattle.gb_script.specs.declared.head.Head.TheVariants as head
use Rattle.gb_script.specs.declared.tree.Node.{Node}
use Rattle.gb_script.specs.Tree.{head_of, text_of, parts_of, place_of}
use Rattle.gb_goal.specs.Answers.{Answer, ◌>>=◌, not_built}
use Rattle.gb_goal.specs.Answers.Answer.{given}
use Rattle.gb_names.specs.Environment.{statement}
use Rattle.gb_elab.specs.Forms.{elaborated}
use Rattle.gb_elab_prog.specs.declared.context.Bound.{Bound}
use Rattle.gb_elab_prog.specs.Contexts.{nothing_bound, all_bound, around, in_context, context_of}
use Rattle.gb_elab_prog.specs.Fresh.{free}
use Rattle.gb_elab_prog.specs.Sizes.{small}

-- the name of a lemma: the text of its first part
abbrev pub name_in : List Node → List ℕ
name_in [] = []
name_in (x ∷ xs) = text_of x

abbrev pub lemma_name : Node → List ℕ
lemma_name t = name_in (parts_of t)

-- a form in the context of what is bound, where its modules are declared
unfoldable pub claimed : Declarations → Bound → Node → Answer Sequent
claimed ds b t = do
  f ← elaborated t (statement ds (context_of b)) [] (Some bool_ty)
  g ← small f
  given (in_context b g)

-- the goal that a lemma states: its name, its binders, which make the context, and its form
unfoldable pub stated : Declarations → Node → List Node → Node → Answer Sequent
stated ds x bs t = do
  _ ← free ds x
  b ← all_bound ds nothing_bound bs
  claimed (around ds b) b t

-- the same of a tree, by its head and its parts; the last clause takes other trees, of which the reader builds none with
-- this head, since each of its trees is well-sorted
abbrev pub statement_by : Declarations → Head → List Node → Place → Answer Sequent
statement_by ds head.Lemma (x ∷ bs ∷ t ∷ []) p = stated ds x (parts_of bs) t
statement_by ds _ _ p = not_built p

abbrev pub statement_given : Declarations → Node → Answer Sequent
statement_given ds t = statement_by ds (head_of t) (parts_of t) (place_of t)

-- what a binder binds: values of one type, a memory, or a module
abbrev pub binds : Head → List Node → List Binder
binds head.Values (x ∷ xs ∷ t ∷ []) = Value ∷ map (λ x. Value) (parts_of xs)
binds head.Memory ps = Memory ∷ []
binds head.ModuleBind ps = Module ∷ []
binds _ ps = []

abbrev pub each_binds : List Node → List Binder
each_binds [] = []
each_binds (b ∷ bs) = binds (head_of b) (parts_of b) ++ each_binds bs

abbrev pub binders_by : Head → List Node → List Binder
binders_by head.Lemma (x ∷ bs ∷ t ∷ []) = each_binds (parts_of bs)
binders_by _ ps = []

-- what the binders of a lemma bind, in the order of the text
abbrev pub binders_in : Node → List Binder
binders_in t = binders_by (head_of t) (parts_of t)
