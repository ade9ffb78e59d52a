-- The typing of forms: from left to right, with a type that is wanted, or none.
use Rattle.std.specs.Prelude.{◌-◌, ◌==◌, nat_lt, slice_get, true, false, if◌then◌else◌, List, [], ◌∷◌, ◌++◌, map, length, reverse, Option, Some, None}
use Rattle.std.specs.Option.{option_map_or}
use Rattle.gb_core.specs.declared.place.Place.{Place}
use Rattle.gb_core.specs.declared.refusal.Why.TheVariants.{TypeMismatch, Argument}
use Rattle.gb_core.specs.declared.ty.Ty.{Ty}
use Rattle.gb_core.specs.declared.ty.Ty.TheVariants as ty
use Rattle.gb_terms.specs.declared.decl.TypedName.{TypedName}
use Rattle.gb_terms.specs.declared.term.Term.{Term}
use Rattle.gb_script.specs.declared.head.Head.{Head}
use Rattle.gb_script.specs.declared.head.Head.TheVariants as head
use Rattle.gb_script.specs.declared.tree.Node.{Node, para-Node}
use Rattle.gb_script.specs.Tree.{head_of, text_of, parts_of, place_of}
use Rattle.gb_goal.specs.Answers.{Answer, ◌>>=◌, given_or, not_built}
use Rattle.gb_goal.specs.Answers.Answer.{given, refused}
use Rattle.gb_goal.specs.declared.scope.Constant.{Constant}
use Rattle.gb_goal.specs.declared.scope.OperatorType.{OperatorType}
use Rattle.gb_names.specs.declared.binders.Quantifier.{Quantifier}
use Rattle.gb_names.specs.declared.bindings.Binding.{Binding}
use Rattle.gb_names.specs.declared.names.Known.{Known}
use Rattle.gb_names.specs.declared.names.Known.TheVariants as known
use Rattle.gb_names.specs.Wanted.{wanted}
use Rattle.gb_names.specs.Allowed.{coin, formula, judgment, stands}
use Rattle.gb_names.specs.Binders.{bound_by, over_all, quantifier_of}
use Rattle.gb_names.specs.Bindings.{value}
use Rattle.gb_names.specs.Environment.{Name, Environment, sampled, valued}
use Rattle.gb_names.specs.Judgments.{both_procedures, called, one_procedure, before, after, equivalent}
use Rattle.gb_names.specs.Names.{beside, constant_at, known_at, memory_at, named, operator_at, path, unit}
use Rattle.gb_names.specs.Types.{type_or_number}
use Rattle.gb_operators.specs.declared.domain.Domain.{Domain}
use Rattle.gb_operators.specs.declared.domain.Domain.TheVariants.{Exactly}
use Rattle.gb_operators.specs.declared.operators.Operator.{Operator}
use Rattle.gb_operators.specs.declared.rules.Asked.{Asked}
use Rattle.gb_operators.specs.declared.rules.Asked.TheVariants.{Form, Branch, Source, Function}
use Rattle.gb_operators.specs.declared.rules.Rule.{Rule}
use Rattle.gb_operators.specs.declared.rules.Rule.TheVariants as rule
use Rattle.gb_operators.specs.Constants.{constant, literal}
use Rattle.gb_operators.specs.Domain.{type_in, written_as}
use Rattle.gb_operators.specs.Drawn.{uniform}
use Rattle.gb_operators.specs.Literals.{bound_of, numeral, part_number}
use Rattle.gb_operators.specs.Open.{right_first}
use Rattle.gb_operators.specs.Operators.{operator_of}
use Rattle.gb_operators.specs.Rules.{asked, made, rule_for, rule_of, user_made}
use Rattle.gb_weights.specs.Weights.{weights}
use Rattle.gb_elab.specs.declared.contract.Contract.{Contract}
use Rattle.gb_elab.specs.OneProcedure.{after_one, always, around, before_one, lossless, relation, with_chance}
use Rattle.gb_elab.specs.Probability.{before_call, chance, chance_here}
use Rattle.gb_elab.specs.Equalities.{equalities}
use Rattle.gb_elab.specs.Globs.{Seen, bare_glob, both_whole, whole_alone, whole_equation}

-- what a form means, in an environment, under bound names, the innermost first, and with a wanted type, or none
abbrev pub Typing : Type 0
Typing = Environment → List Binding → Option Ty → Answer Term

-- what a judgment of one procedure says but for its bound
abbrev pub Contracting : Type 0
Contracting = Environment → List Binding → Answer Contract

-- what the arguments of a call mean, for these parameters; the call has this place
abbrev pub Arguing : Type 0
Arguing = List TypedName → Place → Environment → List Binding → Answer (List Term)

-- What a node means: as a form; as a function of one variable, of which a type is asked, with the type that is wanted of its
-- value; as a judgment behind which a bound stands; and as a call, or the arguments of one.
pub record Meaning : Type 0 where
  pub form : Typing
  pub function : Domain → Typing
  pub contract : Contracting
  pub arguments : Arguing

-- a part of a form, with what it means
abbrev pub Part : Type 0
Part = Node × Meaning

-- parts without what they mean
abbrev pub bare : List Part → List Node
bare ps = map (λ a. a.0) ps

-- an operator of the script without arguments
abbrev pub operator_alone : Name → OperatorType → Place → Environment → Option Ty → Answer Term
operator_alone x o p at w = do
  _ ← stands at w p o.result
  user_made x o p []

-- a name of the script without arguments: a constant of an enumeration, or an operator; another one is a variable's
abbrev pub declared : Option Constant → Option OperatorType → Name → Place → Typing
declared (Some c) o x p at bound w = wanted w p (literal c)
declared None (Some o) x p at bound w = operator_alone x o p at w
declared None None x p at bound w = named at bound x p >>= wanted w p

-- a name without a side: a built-in one where nothing else has it
abbrev pub simple : Name → Place → Typing
simple x p at bound w = option_map_or (λ k. constant k w p) (known_at at bound x) (declared (constant_at at bound x) (operator_at at bound x) x p at bound w)

-- a form with a side, which is of a name, or of all globals of a module
abbrev pub read : Environment → List Binding → Head → Name → List Node → Place → Node → Answer Term
read at bound head.Name x ps p s = beside (head_of s) s at bound x p
read at bound head.Path x ps p s = beside (head_of s) s at bound (path ps) p
read at bound head.Glob x ps p s = whole_alone at bound (bare_glob ps (Some s) p) p
read at bound _ x ps p s = refused Argument p

abbrev pub with_side : List Node → Place → Typing
with_side (a ∷ s ∷ []) p at bound w = do
  t ← read at bound (head_of a) (text_of a) (parts_of a) (place_of a) s
  wanted w p t
with_side _ p at bound w = not_built p

-- brackets pass the wanted type on
abbrev pub bracketed : List Part → Place → Typing
bracketed (a ∷ []) p at bound w = a.1.form at bound w
bracketed _ p at bound w = not_built p

-- what a part means as it is asked for
abbrev pub operand : Asked → Part → Environment → List Binding → Answer Term
operand (Form w) a at bound = a.1.form (valued at) bound w
operand (Branch w) a at bound = a.1.form at bound w
operand (Source w) a at bound = a.1.form (sampled at) bound w
operand (Function d w) a at bound = a.1.function d (valued at) bound w

-- a form that a rule makes of parts in the order in which they are typed, behind those that are typed
unfoldable pub operands : Rule → Place → Environment → List Binding → Option Ty → List Term → List Part → Answer Term
operands r p at bound w ts [] = made r p ts >>= wanted w p
operands r p at bound w ts (a ∷ bs) = do
  k ← asked r at w p (place_of a.0) ts
  t ← operand k a at bound
  operands r p at bound w (ts ++ t ∷ []) bs

-- a form that a rule makes of its parts
abbrev pub by_rule : Rule → List Part → Place → Typing
by_rule r ps p at bound w = operands r p at bound w [] ps

-- .. of two parts, which are typed from right to left
abbrev pub from_right : Rule → List Part → Place → Typing
from_right r (a ∷ b ∷ []) p at bound w = by_rule r (b ∷ a ∷ []) p at bound w
from_right r _ p at bound w = not_built p

-- A form that an operator makes. An open left side takes the type of the right one, where that isn't open.
abbrev pub operation : Option Operator → List Part → Place → Typing
operation (Some o) (a ∷ []) p at bound w = by_rule (rule_for o false a.0) (a ∷ []) p at bound w
operation (Some o) (a ∷ b ∷ []) p at bound w =
    if right_first a.0 b.0 then from_right (rule_for o true b.0) (a ∷ b ∷ []) p at bound w
    else by_rule (rule_for o false b.0) (a ∷ b ∷ []) p at bound w
operation _ ps p at bound w = not_built p

-- a comparison, which may be an equation of all globals of a module in two memories
abbrev pub comparing : Option (Seen × Seen) → Name → List Part → Place → Typing
comparing (Some s) x ps p at bound w = whole_equation at bound w p s.0 s.1
comparing None x ps p at bound w = operation (operator_of head.Compared x) ps p at bound w

abbrev pub compared : Name → List Part → Place → Typing
compared x ps p at bound w = comparing (both_whole x (bare ps)) x ps p at bound w

-- a form with the type that the text gives it
abbrev pub annotated : List Part → Place → Typing
annotated (a ∷ s ∷ []) p at bound w = do
  t ← type_or_number at.declared s.0
  by_rule (rule.Annotated t) (a ∷ []) p at bound w
annotated _ p at bound w = not_built p

-- a part of a tuple, by its number
abbrev pub projection : List Part → Place → Typing
projection (a ∷ n ∷ []) p at bound w = by_rule (rule.Part (part_number (text_of n.0)) (place_of n.0)) (a ∷ []) p at bound w
projection _ p at bound w = not_built p

-- a sum over the numbers below one
abbrev pub summed : List Part → Place → Typing
summed (q ∷ f ∷ []) p at bound w = do
  _ ← stands at w p ty.Real
  n ← bound_of q.0
  by_rule (rule.Sum n) (f ∷ []) p at bound w
summed _ p at bound w = refused TypeMismatch p

-- a built-in operator at its arguments
abbrev pub call : Known → List Part → Place → Typing
call known.Sum ps p at bound w = summed ps p at bound w
call k ps p at bound w = do
  r ← given_or (rule_of k (length ps)) TypeMismatch p
  by_rule r ps p at bound w

-- an operator of the script at its arguments, or a name that is none
abbrev pub user_call : Option OperatorType → Name → List Part → Place → Typing
user_call (Some o) x bs p at bound w = do
  _ ← stands at w p o.result
  if length bs == length o.params then by_rule (rule.User x o) bs p at bound w else refused TypeMismatch p
user_call None x bs p at bound w = do
  _ ← simple x p at bound None
  refused TypeMismatch p

-- a name at arguments, which is that of an operator
abbrev pub applied : Name → List Part → Place → Typing
applied x bs p at bound w = option_map_or (λ k. call k bs p at bound w) (known_at at bound x) (user_call (operator_at at bound x) x bs p at bound w)

-- what stands in front of arguments is a name
abbrev pub application : Head → Name → List Node → List Part → Place → Typing
application head.Name x ns bs p at bound w = applied x bs p at bound w
application head.Path x ns bs p at bound w = applied (path ns) bs p at bound w
application _ x ns bs p at bound w = refused TypeMismatch p

abbrev pub applied_form : List Part → Place → Typing
applied_form (f ∷ bs) p at bound w = application (head_of f.0) (text_of f.0) (parts_of f.0) bs p at bound w
applied_form [] p at bound w = not_built p

-- a form under quantifiers, in which these things are bound
abbrev pub under : Quantifier → List Binding → List Binding → (List Binding → Option Ty → Answer Term) → Answer Term
under q bs bound a = do
  t ← a (reverse bs ++ bound) (Some ty.Bool)
  given (over_all q bs t)

-- a quantified form
abbrev pub quantified : Name → List Part → Place → Typing
quantified x (bs ∷ a ∷ []) p at bound w = do
  q ← quantifier_of x p
  _ ← formula at w p
  cs ← bound_by at [] (parts_of bs.0)
  under q cs bound (a.1.form at)
quantified x _ p at bound w = not_built p

-- an equivalence of two procedures: its precondition reads their parameters, its postcondition their results
abbrev pub equivalence : List Part → Place → Typing
equivalence (f ∷ g ∷ a ∷ b ∷ []) p at bound w = do
  _ ← judgment at w p
  both ← both_procedures at bound f.0 g.0 p
  pre ← a.1.form (before at both.0.1 both.1.1) bound (Some ty.Bool)
  post ← b.1.form (after at both.0.1 both.1.1) bound (Some ty.Bool)
  given (equivalent both.0.0 both.1.0 pre post)
equivalence _ p at bound w = not_built p

-- a contract of one procedure: its precondition reads the parameters, its postcondition the result
abbrev pub contract : List Part → Place → Contracting
contract (f ∷ a ∷ b ∷ []) p at bound = do
  m ← one_procedure at bound f.0 p
  pre ← a.1.form (before_one at m.1) bound (Some ty.Bool)
  post ← b.1.form (after_one at m.1) bound (Some ty.Bool)
  given (record { procedure = m.0; pre = pre; post = post })
contract _ p at bound = not_built p

abbrev pub hoare : List Part → Place → Typing
hoare ps p at bound w = do
  _ ← judgment at w p
  c ← contract ps p at bound
  given (always c)

-- a judgment with a relation and a bound behind it
abbrev pub bounded : Name → List Part → Place → Typing
bounded x (a ∷ r ∷ []) p at bound w = do
  _ ← judgment at w p
  s ← relation x p
  c ← a.1.contract at bound
  b ← r.1.form (around at) bound (Some ty.Real)
  given (with_chance c s b)
bounded x _ p at bound w = not_built p

-- arguments behind those that are typed, one for each parameter, from left to right
unfoldable pub arguments : Place → Environment → List Binding → List Term → List TypedName → List Part → Answer (List Term)
arguments p at bound ts [] [] = given ts
arguments p at bound ts (v ∷ vs) [] = refused TypeMismatch p
arguments p at bound ts [] (a ∷ bs) = refused TypeMismatch (place_of a.0)
arguments p at bound ts (v ∷ vs) (a ∷ bs) = do
  t ← a.1.form at bound (Some v.ty)
  arguments p at bound (ts ++ t ∷ []) vs bs

-- There is an argument for each parameter; a call with fewer is refused before them.
abbrev pub listed : Place → Environment → List Binding → List TypedName → List Part → Answer (List Term)
listed p at bound vs ps = if nat_lt (length ps) (length vs) then refused TypeMismatch p else arguments p at bound [] vs ps

-- the arguments of a call stand in its last part
abbrev pub last_arguments : Option Part → Arguing
last_arguments (Some a) vs p at bound = a.1.arguments vs p at bound
last_arguments None vs p at bound = not_built p

abbrev pub arguing : Head → List Part → Arguing
arguing head.Call ps vs p at bound = last_arguments (slice_get ps (length ps - 1)) vs p at bound
arguing head.FunctorCall ps vs p at bound = last_arguments (slice_get ps (length ps - 1)) vs p at bound
arguing head.List ps vs p at bound = listed p at bound vs ps
arguing _ ps vs p at bound = not_built p

-- A probability: the arguments read logical variables and its memory, the event reads the result.
abbrev pub probability : List Part → Place → Typing
probability (c ∷ m ∷ e ∷ []) p at bound w = do
  _ ← chance_here at w p
  f ← called at bound (head_of c.0) (parts_of c.0) (place_of c.0)
  ts ← c.1.arguments f.1.params (place_of c.0) (before_call at (text_of m.0)) bound
  i ← memory_at at bound (text_of m.0) (place_of m.0)
  b ← e.1.form (after_one at f.1) bound (Some ty.Bool)
  given (chance f.0 i ts b)
probability _ p at bound w = not_built p

-- The typing of each form from its head, its text, its parts, each with what it means, and its place. Where a form has a type
-- by its shape alone, that is tested before its parts. What isn't built is the last clause, where no form stands either that
-- has other parts than its head is read with.
unfoldable pub typing : Head → Name → List Part → Place → Typing
typing head.Name x ps p at bound w = simple x p at bound w
typing head.Path x ps p at bound w = simple (path (bare ps)) p at bound w
typing head.Number x ps p at bound w = numeral at x w p
typing head.Unit x ps p at bound w = wanted w p unit
typing head.Bracketed x ps p at bound w = bracketed ps p at bound w
typing head.Sided x ps p at bound w = with_side (bare ps) p at bound w
typing head.Coin x ps p at bound w = coin at w p
typing head.Function x ps p at bound w = refused TypeMismatch p
typing head.TypedFunction x ps p at bound w = refused TypeMismatch p
typing head.Typed x ps p at bound w = annotated ps p at bound w
typing head.Tuple x ps p at bound w = by_rule (rule.Tuple (length ps)) ps p at bound w
typing head.Component x ps p at bound w = projection ps p at bound w
typing head.Conditional x ps p at bound w = by_rule rule.If ps p at bound w
typing head.Chosen x ps p at bound w = by_rule rule.If ps p at bound w
typing head.Get x ps p at bound w = by_rule rule.Get ps p at bound w
typing head.Set x ps p at bound w = by_rule rule.Set ps p at bound w
typing head.PowerProduct x ps p at bound w = by_rule rule.Product ps p at bound w
typing head.Uniform x ps p at bound w = uniform (bare ps) p at w
typing head.Weights x ps p at bound w = weights (bare ps) p at bound w
typing head.Apply x ps p at bound w = applied_form ps p at bound w
typing head.Equalities x ps p at bound w = equalities at bound (bare ps) w p
typing head.Glob x ps p at bound w = whole_alone at bound (bare_glob (bare ps) None p) p >>= wanted w p
typing head.Compared x ps p at bound w = compared x ps p at bound w
typing head.Quantified x ps p at bound w = quantified x ps p at bound w
typing head.Equiv x ps p at bound w = equivalence ps p at bound w
typing head.Hoare x ps p at bound w = hoare ps p at bound w
typing head.Phoare x ps p at bound w = do
  _ ← judgment at w p
  refused TypeMismatch p
typing head.Bounded x ps p at bound w = bounded x ps p at bound w
typing head.Lossless x ps p at bound w = do
  _ ← judgment at w p
  lossless at bound (bare ps) p
typing head.Probability x ps p at bound w = probability ps p at bound w
typing h x ps p at bound w = operation (operator_of h x) ps p at bound w

-- the variable of a function, which has one
abbrev pub only : List Node → Place → Answer Node
only (x ∷ []) p = given x
only _ p = refused TypeMismatch p

-- the value of a function, with its variable as the innermost bound one
abbrev pub value_of : Name → Ty → Part → Typing
value_of x t a at bound w = a.1.form at (value x t ∷ bound) w

abbrev pub bracketed_function : List Part → Place → Domain → Typing
bracketed_function (a ∷ []) p d at bound w = a.1.function d at bound w
bracketed_function _ p d at bound w = refused TypeMismatch p

abbrev pub plain_function : List Part → Place → Domain → Typing
plain_function (xs ∷ a ∷ []) p d at bound w = do
  x ← only (parts_of xs.0) p
  value_of (text_of x) (type_in d) a at bound w
plain_function _ p d at bound w = refused TypeMismatch p

-- .. whose variable has a type by the text
abbrev pub typed_function : List Part → Place → Domain → Typing
typed_function (xs ∷ s ∷ a ∷ []) p d at bound w = do
  x ← only (parts_of xs.0) p
  t ← written_as at.declared d s.0
  value_of (text_of x) t a at bound w
typed_function _ p d at bound w = refused TypeMismatch p

-- a function of one variable; brackets may stand round it
unfoldable pub function_typing : Head → List Part → Place → Domain → Typing
function_typing head.Bracketed ps p d at bound w = bracketed_function ps p d at bound w
function_typing head.Function ps p d at bound w = plain_function ps p d at bound w
function_typing head.TypedFunction ps p d at bound w = typed_function ps p d at bound w
function_typing _ ps p d at bound w = refused TypeMismatch p

-- a judgment that needs a bound
abbrev pub contracting : Head → List Part → Place → Contracting
contracting head.Phoare ps p at bound = contract ps p at bound
contracting _ ps p at bound = refused TypeMismatch p

abbrev pub meaning : Head → Name → List Part → Place → Meaning
meaning h x ps p = record { form = typing h x ps p; function = function_typing h ps p; contract = contracting h ps p; arguments = arguing h ps }

-- what a node means
unfoldable pub meant : Node → Meaning
meant = para-Node Meaning (λ l. meaning l.head l.text l.parts l.place)

-- the typed tree of a form, or its refusal
abbrev pub elaborated : Node → Typing
elaborated t = (meant t).form

-- the typed tree of the value of a function, or its refusal
abbrev pub function_of : Node → Domain → Typing
function_of t = (meant t).function

-- what a judgment says but for its bound, or its refusal
abbrev pub contract_of : Node → Contracting
contract_of t = (meant t).contract

-- what the arguments of a call mean, or their refusal
abbrev pub arguments_of : Node → Arguing
arguments_of t = (meant t).arguments

-- nodes, each with what it means
abbrev pub with_meanings : List Node → List Part
with_meanings ts = map (λ t. (t, meant t)) ts

-- the typed tree of a function from a type to a type, with its variable as the only bound one
abbrev pub function : Node → Environment → Ty → Ty → Answer Term
function t at from to = function_of t (Exactly from) at [] (Some to)
