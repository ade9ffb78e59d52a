-- What commands `op` declare.
use Rattle.std.specs.Prelude.{pred, List, [], ◌∷◌, ◌++◌, length, map, reverse, take, drop, Option, Some, None}
use Rattle.gb_core.specs.declared.place.Place.{Place}
use Rattle.gb_core.specs.declared.ty.Ty.{Ty}
use Rattle.gb_terms.specs.declared.decl.TypedName.{TypedName}
use Rattle.gb_terms.specs.declared.term.Term.{Term}
use Rattle.gb_goal.specs.Answers.{Answer, ◌>>=◌, not_built}
use Rattle.gb_goal.specs.Answers.Answer.{given}
use Rattle.gb_goal.specs.Scope.{Declarations}
use Rattle.gb_goal.specs.declared.scope.Entry.{Entry}
use Rattle.gb_goal.specs.declared.scope.Entry.TheVariants as entry
use Rattle.gb_script.specs.declared.head.Head.{Head}
use Rattle.gb_script.specs.declared.head.Head.TheVariants as head
use Rattle.gb_script.specs.declared.tree.Node.{Node}
use Rattle.gb_script.specs.Tree.{head_of, parts_of, place_of}
use Rattle.gb_names.specs.Environment.{Environment, of_operator}
use Rattle.gb_elab.specs.Forms.{elaborated}
use Rattle.gb_names.specs.Binders.{of_type}
use Rattle.gb_names.specs.Bindings.{bound_value}
use Rattle.gb_names.specs.Types.{type_of, type_or_number, all_given}
use Rattle.gb_elab_prog.specs.declared.context.Bound.{Bound}
use Rattle.gb_elab_prog.specs.Contexts.{taken, nothing_bound, nothing_around}
use Rattle.gb_elab_prog.specs.Sizes.{small}

-- the body of an operator stands in no context
abbrev pub of_body : Declarations → Environment
of_body ds = of_operator ds nothing_around

-- parameters of one type beside others: their names are tested first
abbrev pub of_one_type : Declarations → Bound → List Node → Node → Answer Bound
of_one_type ds b xs t = do
  ns ← taken b.names xs
  u ← type_or_number ds t
  given (record b { names = ns; values = b.values ++ of_type xs u })

-- the parameters of one pair of brackets, beside others
abbrev pub parameters : Declarations → Bound → Head → List Node → Place → Answer Bound
parameters ds b head.Variables (xs ∷ t ∷ []) p = of_one_type ds b (parts_of xs) t
parameters ds b _ ps p = not_built p

-- the parameters of all brackets
unfoldable pub all_parameters : Declarations → Bound → List Node → Answer Bound
all_parameters ds b [] = given b
all_parameters ds b (x ∷ xs) = parameters ds b (head_of x) (parts_of x) (place_of x) >>= λ c. all_parameters ds c xs

-- the type that is written for the result, if one is
abbrev pub written : Declarations → List Node → Answer (Option Ty)
written ds [] = given None
written ds (t ∷ ts) = do
  u ← type_or_number ds t
  given (Some u)

-- the body of an operator, in which its parameters are bound, the last one innermost
unfoldable pub body : Declarations → List TypedName → Option Ty → Node → Answer Term
body ds vs w t = do
  f ← elaborated t (of_body ds) (reverse (map bound_value vs)) w
  small f

-- an operator with a body
unfoldable pub defined : Declarations → List Node → List Node → Node → Answer Entry
defined ds groups result t = do
  b ← all_parameters ds nothing_bound groups
  w ← written ds result
  f ← body ds b.values w t
  given (entry.Operator (record { params = map (λ v. v.ty) b.values; body = f }))

-- an operator without a body: its parameters have the types before the last one, which is that of its result
abbrev pub undefined : Declarations → List Node → List Node → Place → Answer Entry
undefined ds ts (r ∷ []) p = do
  params ← all_given (map (type_of ds) ts)
  result ← type_or_number ds r
  given (entry.AbstractOperator (record { params = params; result = result }))
undefined ds ts _ p = not_built p

-- what an operator's name stands for
abbrev pub operator_entry : Declarations → Head → List Node → Place → Answer Entry
operator_entry ds head.DefinedOperator (groups ∷ result ∷ t ∷ []) p = defined ds (parts_of groups) (parts_of result) t
operator_entry ds head.Constant (t ∷ []) p = defined ds [] [] t
operator_entry ds head.TypedConstant (r ∷ t ∷ []) p = defined ds [] (r ∷ []) t
operator_entry ds head.AbstractOperator ts p = undefined ds (take (pred (length ts)) ts) (drop (pred (length ts)) ts) p
operator_entry ds _ ps p = not_built p
