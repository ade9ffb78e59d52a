-- Equations of variables of two programs.
use Rattle.std.specs.Prelude.{true, if◌then◌else◌, List, [], ◌∷◌, Option, is_none}
use Rattle.gb_core.specs.declared.place.Place.{Place}
use Rattle.gb_core.specs.declared.refusal.Why.TheVariants.{TypeMismatch, Argument}
use Rattle.gb_core.specs.declared.ty.Ty.{Ty}
use Rattle.gb_core.specs.declared.ty.Ty.TheVariants.{Bool as bool_ty}
use Rattle.gb_core.specs.SameTypes.{ty_eq}
use Rattle.gb_terms.specs.declared.op.Op.TheVariants as op
use Rattle.gb_terms.specs.declared.op.Side.TheVariants as side
use Rattle.gb_terms.specs.declared.term.Term.{Term}
use Rattle.gb_terms.specs.Make.{applied, truth_literal}
use Rattle.gb_script.specs.declared.head.Head.{Head}
use Rattle.gb_script.specs.declared.head.Head.TheVariants as head
use Rattle.gb_script.specs.declared.tree.Node.{Node}
use Rattle.gb_script.specs.Tree.{head_of, text_of, parts_of, place_of}
use Rattle.gb_goal.specs.Answers.{Answer, ◌>>=◌, not_built}
use Rattle.gb_goal.specs.Answers.Answer.{given, refused}
use Rattle.gb_names.specs.declared.bindings.Binding.{Binding}
use Rattle.gb_names.specs.Environment.{Name, Environment, on_side}
use Rattle.gb_names.specs.Names.{path, sided}
use Rattle.gb_names.specs.Wanted.{truth, type_of_term}
use Rattle.gb_elab.specs.Globs.{same_globals}

-- the equality of a variable of two programs
unfoldable pub equality : Environment → List Binding → Name → Place → Answer Term
equality at bound x p = do
  l ← sided at bound x side.Left p
  r ← sided at bound x side.Right p
  if ty_eq (type_of_term r) (type_of_term l) then given (applied op.Equal (l ∷ r ∷ []) bool_ty) else refused TypeMismatch p

-- what `={..}` says of one thing: a variable, or all globals of a module
abbrev pub equation : Environment → List Binding → Head → Name → List Node → Place → Answer Term
equation at bound head.Name x ps p = equality at bound x p
equation at bound head.Path x ps p = equality at bound (path ps) p
equation at bound head.EquatedGlob x (m ∷ []) p = same_globals at bound m
equation at bound _ x ps p = not_built p

abbrev pub equation_of : Environment → List Binding → Node → Answer Term
equation_of at bound x = equation at bound (head_of x) (text_of x) (parts_of x) (place_of x)

-- a form and, to its right, further equations
unfoldable pub with_equalities : Environment → List Binding → Term → List Node → Answer Term
with_equalities at bound f [] = given f
with_equalities at bound f (x ∷ xs) = do
  e ← equation_of at bound x
  with_equalities at bound (applied op.And (f ∷ e ∷ []) bool_ty) xs

-- equations, joined to the left
unfoldable pub joined : Environment → List Binding → List Node → Answer Term
joined at bound [] = given (truth_literal true)
joined at bound (x ∷ xs) = do
  e ← equation_of at bound x
  with_equalities at bound e xs

-- equations of two programs, where there are two
unfoldable pub equalities : Environment → List Binding → List Node → Option Ty → Place → Answer Term
equalities at bound xs w p =
    if is_none (on_side at side.Left) then refused Argument p
    else do
      _ ← truth w p
      joined at bound xs
