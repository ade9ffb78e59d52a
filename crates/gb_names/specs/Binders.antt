-- Binders, and the quantifiers over what they bind.
use Rattle.std.specs.Prelude.{◌||◌, if◌then◌else◌, List, [], ◌∷◌, ◌++◌, map, codes, bytes_eq}
use Rattle.std.specs.List.{list_any}
use Rattle.gb_core.specs.declared.place.Place.{Place}
use Rattle.gb_core.specs.declared.refusal.Why.TheVariants.{DoubleName}
use Rattle.gb_core.specs.declared.ty.Ty.{Ty}
use Rattle.gb_core.specs.declared.ty.Ty.TheVariants.{Bool as bool_ty}
use Rattle.gb_terms.specs.declared.decl.TypedName.{TypedName}
use Rattle.gb_terms.specs.declared.term.Term.{Term}
use Rattle.gb_terms.specs.declared.term.Head.TheVariants.{All, Some as Exist, AllMemory, SomeMemory}
use Rattle.gb_terms.specs.Make.{node}
use Rattle.gb_script.specs.declared.head.Head.{Head}
use Rattle.gb_script.specs.declared.head.Head.TheVariants as head
use Rattle.gb_script.specs.declared.tree.Node.{Node}
use Rattle.gb_script.specs.Tree.{head_of, text_of, parts_of, place_of}
use Rattle.gb_goal.specs.Answers.{Answer, ◌>>=◌, not_built}
use Rattle.gb_goal.specs.Answers.Answer.{given, refused}
use Rattle.gb_names.specs.declared.binders.Quantifier.{Quantifier}
use Rattle.gb_names.specs.declared.binders.Quantifier.TheVariants.{Forall, Exists}
use Rattle.gb_names.specs.declared.bindings.Binding.{Binding}
use Rattle.gb_names.specs.declared.bindings.Kind.{Kind}
use Rattle.gb_names.specs.declared.bindings.Kind.TheVariants.{Value, Memory}
use Rattle.gb_names.specs.Allowed.{memory_here}
use Rattle.gb_names.specs.Bindings.{memory, value}
use Rattle.gb_names.specs.Environment.{Name, Environment}
use Rattle.gb_names.specs.Types.{type_of}

-- names of one type
abbrev pub of_type : List Node → Ty → List TypedName
of_type xs t = map (λ x. record { name = text_of x; ty = t }) xs

-- values of one type
abbrev pub values : List Node → Ty → List Binding
values xs t = map (λ x. value (text_of x) t) xs

-- names that differ from those that are bound beside them, and from one another
unfoldable pub new_names : List Binding → List Node → List Node → Answer (Unit {0})
new_names bs ys [] = given tt
new_names bs ys (x ∷ xs) =
    if list_any (λ b. bytes_eq b.name (text_of x)) bs || list_any (λ y. bytes_eq (text_of y) (text_of x)) ys
    then refused (DoubleName (text_of x)) (place_of x)
    else new_names bs (ys ++ x ∷ []) xs

-- a memory beside others, whose binder has this place
abbrev pub memory_bound : Environment → List Binding → Node → Place → Answer (List Binding)
memory_bound at bs x p = do
  _ ← memory_here at p
  _ ← new_names bs [] (x ∷ [])
  given (memory (text_of x) ∷ [])

-- what one binder binds, beside others; modules aren't built yet
abbrev pub bound_in : Environment → List Binding → Head → List Node → Place → Answer (List Binding)
bound_in at bs head.Values (x ∷ xs ∷ t ∷ []) p = do
  _ ← new_names bs [] (x ∷ parts_of xs)
  ty ← type_of at.declared t
  given (values (x ∷ parts_of xs) ty)
bound_in at bs head.Memory (x ∷ []) p = memory_bound at bs x p
bound_in at bs head.ModuleBind (x ∷ ps) p = not_built (place_of x)
bound_in at bs _ ps p = not_built p

-- what is bound, in the order of the text, behind what came before
unfoldable pub bound_by : Environment → List Binding → List Node → Answer (List Binding)
bound_by at bs [] = given bs
bound_by at bs (x ∷ xs) = do
  cs ← bound_in at bs (head_of x) (parts_of x) (place_of x)
  bound_by at (bs ++ cs) xs

abbrev pub quantifier_of : Name → Place → Answer Quantifier
quantifier_of x p =
    if bytes_eq x (codes "forall") then given Forall
    else if bytes_eq x (codes "exists") then given Exists else not_built p

-- a quantifier over values, or over memories
abbrev pub over : Quantifier → Kind → Term → Term
over Forall (Value t) f = node (All t) (f ∷ []) bool_ty
over Exists (Value t) f = node (Exist t) (f ∷ []) bool_ty
over Forall Memory f = node AllMemory (f ∷ []) bool_ty
over Exists Memory f = node SomeMemory (f ∷ []) bool_ty

-- quantifiers over these things, the first one outermost
abbrev pub over_all : Quantifier → List Binding → Term → Term
over_all q [] f = f
over_all q (b ∷ bs) f = over q b.kind (over_all q bs f)
