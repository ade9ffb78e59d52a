-- How forms are typed that are made of typed parts: what is asked of each part, from left to right, where the form may stand,
-- and what the form is.
use Rattle.std.specs.Prelude.{ℕ, ◌==◌, Bool, true, false, not, if◌then◌else◌, List, [], ◌∷◌, map, length, slice_get, Option, Some, None}
use Rattle.std.specs.List.{list_all}
use Rattle.gb_core.specs.declared.place.Place.{Place}
use Rattle.gb_core.specs.declared.refusal.Why.TheVariants.{TypeMismatch, TypeTooLarge, Argument}
use Rattle.gb_core.specs.declared.ty.Ty.{Ty}
use Rattle.gb_core.specs.declared.ty.Ty.TheVariants as ty
use Rattle.gb_core.specs.SameTypes.{ty_eq}
use Rattle.gb_terms.specs.declared.op.Op.TheVariants as op
use Rattle.gb_terms.specs.declared.term.Term.{Term}
use Rattle.gb_terms.specs.declared.term.Head.TheVariants.{Sum as Sum_of, User}
use Rattle.gb_terms.specs.Make.{node, applied}
use Rattle.gb_goal.specs.Answers.{Answer, ◌>>=◌, given_or, not_built}
use Rattle.gb_goal.specs.Answers.Answer.{given, refused}
use Rattle.gb_script.specs.declared.tree.Node.{Node}
use Rattle.gb_names.specs.declared.names.Known.{Known}
use Rattle.gb_names.specs.declared.names.Known.TheVariants as known
use Rattle.gb_goal.specs.declared.scope.OperatorType.{OperatorType}
use Rattle.gb_names.specs.Environment.{Name, Environment}
use Rattle.gb_names.specs.Allowed.{distribution_here, is_distribution, stands}
use Rattle.gb_names.specs.Wanted.{truth, type_of_term}
use Rattle.gb_operators.specs.declared.domain.Domain.TheVariants.{Exactly, Below}
use Rattle.gb_operators.specs.declared.drawn.Drawn.{Drawn}
use Rattle.gb_operators.specs.declared.drawn.Drawn.TheVariants.{Measure, Image, Restriction}
use Rattle.gb_operators.specs.declared.operators.Infix.{Infix}
use Rattle.gb_operators.specs.declared.operators.Operator.{Operator}
use Rattle.gb_operators.specs.declared.operators.Operator.TheVariants.{One, Two, Quotient, Member}
use Rattle.gb_operators.specs.declared.operators.Prefix.{Prefix}
use Rattle.gb_operators.specs.declared.operators.Prefix.TheVariants as prefix
use Rattle.gb_operators.specs.declared.rules.Asked.{Asked}
use Rattle.gb_operators.specs.declared.rules.Asked.TheVariants.{Form, Branch, Source, Function}
use Rattle.gb_operators.specs.declared.rules.Rule.{Rule}
use Rattle.gb_operators.specs.declared.rules.Rule.TheVariants as rule
use Rattle.gb_operators.specs.Drawn.{drawn_head, drawn_result, source_wanted, value_wanted}
use Rattle.gb_operators.specs.Kinds.{components, component, element, entries, is_of_values, is_small, outcome}
use Rattle.gb_operators.specs.Literals.{is_divisor, place_inside}
use Rattle.gb_operators.specs.Operators.{first_wanted, operand_wanted, prefix_operator, prefix_result, result_type, shaped, takes}

-- a part that is asked to be of a type
abbrev pub of_type : Ty → Answer Asked
of_type t = given (Form (Some t))

-- the types that are wanted of the parts of a tuple
abbrev pub parts_wanted : Option Ty → ℕ → Place → Answer (List Ty)
parts_wanted None n p = given []
parts_wanted (Some t) n p = do
  ts ← given_or (components t) TypeMismatch p
  if length ts == n then given ts else refused TypeMismatch p

-- the parts of a tuple have values
abbrev pub values : List Term → Place → Answer (Unit {0})
values ts p = if list_all (λ t. is_of_values (type_of_term t)) ts then given tt else refused TypeMismatch p

-- a tuple of so many parts, of which it has at most 8
abbrev pub tuple_asked : ℕ → Option Ty → Place → Place → List Term → Answer Asked
tuple_asked n w p q ts = do
  ws ← parts_wanted w n p
  _ ← values ts p
  if length ts == 8 then refused Argument q else given (Form (slice_get ws (length ts)))

abbrev pub sides_asked : Infix → Option Ty → Place → List Term → Answer Asked
sides_asked i w p [] = do
  _ ← shaped i.operands w p
  given (Form (first_wanted i.operands w))
sides_asked i w p (s ∷ ts) = if takes i.operands (type_of_term s) then of_type (type_of_term s) else refused TypeMismatch p

abbrev pub quotient_asked : Environment → Option Ty → Place → Answer Asked
quotient_asked at w p = do
  _ ← stands at w p ty.Real
  of_type ty.Real

abbrev pub member_asked : Bool → Option Ty → Place → List Term → Answer Asked
member_asked b w p [] = do
  _ ← truth w p
  given (Form None)
member_asked true w p (s ∷ ts) = do
  t ← given_or (element (type_of_term s)) TypeMismatch p
  of_type t
member_asked false w p (s ∷ ts) = given (Form None)

abbrev pub branches_asked : Option Ty → List Term → Answer Asked
branches_asked w [] = of_type ty.Bool
branches_asked w (r ∷ []) = given (Branch w)
branches_asked w (r ∷ s ∷ ts) = given (Branch (Some (type_of_term s)))

-- the keys and the values of a map
abbrev pub entry_asked : Option Ty → Place → List Term → Answer Asked
entry_asked w p [] = given (Form w)
entry_asked w p (s ∷ ts) = do
  e ← given_or (entries (type_of_term s)) TypeMismatch p
  of_type (if length ts == 0 then e.0 else e.1)

-- the outcomes of a distribution
abbrev pub outcome_of : Term → Place → Answer Ty
outcome_of s p = given_or (outcome (type_of_term s)) TypeMismatch p

-- the arguments of an operator of the script, by the types of its parameters
abbrev pub argument_asked : List Ty → Place → List Term → Answer Asked
argument_asked params p ts = do
  t ← given_or (slice_get params (length ts)) TypeMismatch p
  of_type t

-- a distribution, and a function of its outcome
abbrev pub drawn_asked : Drawn → Environment → Option Ty → Place → List Term → Answer Asked
drawn_asked k at w p [] = do
  v ← source_wanted k at w p
  given (Source v)
drawn_asked k at w p (s ∷ ts) = do
  t ← outcome_of s p
  given (Function (Exactly t) (value_wanted k w))

-- a distribution, and one of its outcomes
abbrev pub mass_asked : Environment → Option Ty → Place → List Term → Answer Asked
mass_asked at w p [] = do
  _ ← stands at w p ty.Real
  given (Form None)
mass_asked at w p (s ∷ ts) = do
  t ← outcome_of s p
  of_type t

abbrev pub sum_asked : ℕ → Environment → Option Ty → Place → Answer Asked
sum_asked n at w p = do
  _ ← stands at w p ty.Real
  given (Function (Below n) (Some ty.Real))

abbrev pub annotated_asked : Ty → Environment → Option Ty → Place → Answer Asked
annotated_asked t at w p = do
  _ ← stands at w p t
  of_type t

-- the types of the two parts of a pair
abbrev pub pair : List Ty → Option (Ty × Ty)
pair (a ∷ b ∷ []) = Some (a, b)
pair _ = None

-- the types of the outcomes of both sides of a product of distributions, where the whole one is wanted
abbrev pub factors : Ty → Place → Answer (Ty × Ty)
factors t p = do
  u ← given_or (outcome t) TypeMismatch p
  ts ← given_or (components u) TypeMismatch p
  given_or (pair ts) TypeMismatch p

abbrev pub factor_wanted : Option Ty → Bool → Place → Answer (Option Ty)
factor_wanted None first p = given None
factor_wanted (Some t) first p = do
  f ← factors t p
  given (Some (ty.Distr (if first then f.0 else f.1)))

-- the sides of a product of distributions
abbrev pub product_asked : Environment → Option Ty → Place → List Term → Answer Asked
product_asked at w p ts = do
  _ ← distribution_here at p
  v ← factor_wanted w (length ts == 0) p
  given (Source v)

-- What is asked of the part at a place, behind those that are typed.
unfoldable pub asked : Rule → Environment → Option Ty → Place → Place → List Term → Answer Asked
asked (rule.Annotated t) at w p q ts = annotated_asked t at w p
asked (rule.Tuple n) at w p q ts = tuple_asked n w p q ts
asked (rule.Part k r) at w p q ts = given (Form None)
asked rule.If at w p q ts = branches_asked w ts
asked rule.Get at w p q ts = entry_asked None p ts
asked rule.Set at w p q ts = entry_asked w p ts
asked (rule.One o) at w p q ts = do
  v ← operand_wanted o at w p
  given (Form v)
asked (rule.Two i) at w p q ts = sides_asked i w p ts
asked (rule.Quotient b r) at w p q ts = quotient_asked at w p
asked (rule.Member b) at w p q ts = member_asked b w p ts
asked (rule.User x o) at w p q ts = argument_asked o.params p ts
asked rule.Product at w p q ts = product_asked at w p ts
asked (rule.Drawn k) at w p q ts = drawn_asked k at w p ts
asked rule.Mass at w p q ts = mass_asked at w p ts
asked (rule.Sum n) at w p q ts = sum_asked n at w p

-- the tuple of these parts
abbrev pub tuple_made : Place → List Term → Answer Term
tuple_made p ts = do
  _ ← values ts p
  given (applied op.Tuple ts (ty.Tuple (map type_of_term ts)))

-- the type of a part, whose number stands at a place
abbrev pub part_type : Ty → ℕ → Place → Place → Answer Ty
part_type t k r p = do
  ts ← given_or (components t) TypeMismatch p
  given_or (component ts k) Argument r

abbrev pub part_made : ℕ → Place → Place → List Term → Answer Term
part_made k r p (s ∷ []) = do
  t ← part_type (type_of_term s) k r p
  given (applied (op.Part k) (s ∷ []) t)
part_made k r p _ = not_built p

abbrev pub branches_made : Place → List Term → Answer Term
branches_made p (r ∷ s ∷ t ∷ []) = given (applied op.If (r ∷ s ∷ t ∷ []) (type_of_term s))
branches_made p _ = not_built p

abbrev pub get_made : Place → List Term → Answer Term
get_made p (s ∷ t ∷ []) = do
  e ← given_or (entries (type_of_term s)) TypeMismatch p
  given (applied op.Get (s ∷ t ∷ []) (ty.Opt e.1))
get_made p _ = not_built p

abbrev pub set_made : Place → List Term → Answer Term
set_made p (s ∷ t ∷ u ∷ []) = given (applied op.Set (s ∷ t ∷ u ∷ []) (type_of_term s))
set_made p _ = not_built p

abbrev pub prefix_made : Prefix → Place → List Term → Answer Term
prefix_made o p (s ∷ []) = do
  t ← given_or (prefix_result o (type_of_term s)) TypeMismatch p
  given (applied (prefix_operator o) (s ∷ []) t)
prefix_made o p _ = not_built p

-- Two terms in the order of the text; they were typed in the other order where it is backwards.
abbrev pub in_order : Bool → Term → Term → List Term
in_order backwards s t = if backwards then t ∷ s ∷ [] else s ∷ t ∷ []

abbrev pub sides_made : Infix → Place → List Term → Answer Term
sides_made i p (s ∷ t ∷ []) = given (applied i.op (in_order i.exchanged s t) (result_type i.operands (type_of_term s)))
sides_made i p _ = not_built p

abbrev pub quotient_made : Bool → Option Place → Place → List Term → Answer Term
quotient_made b (Some r) p ts = refused Argument r
quotient_made b None p (s ∷ t ∷ []) = given (applied op.Divide (in_order b s t) ty.Real)
quotient_made b None p _ = not_built p

-- a map has a key, or a distribution an outcome
abbrev pub member : Term → Term → Term
member s t = applied (if is_distribution (type_of_term t) then op.InSupport else op.InMap) (s ∷ t ∷ []) ty.Bool

abbrev pub member_made : Bool → Place → List Term → Answer Term
member_made true p (t ∷ s ∷ []) = given (member s t)
member_made false p (s ∷ t ∷ []) = do
  u ← given_or (element (type_of_term t)) TypeMismatch p
  if ty_eq u (type_of_term s) then given (member s t) else refused TypeMismatch p
member_made b p _ = not_built p

abbrev pub drawn_made : Drawn → Place → List Term → Answer Term
drawn_made k p (s ∷ e ∷ []) = do
  t ← given_or (drawn_result k (type_of_term s) (type_of_term e)) TypeMismatch p
  given (node (drawn_head k) (s ∷ e ∷ []) t)
drawn_made k p _ = not_built p

abbrev pub mass_made : Place → List Term → Answer Term
mass_made p (s ∷ t ∷ []) = given (applied op.Mu1 (s ∷ t ∷ []) ty.Real)
mass_made p _ = not_built p

abbrev pub sum_made : ℕ → Place → List Term → Answer Term
sum_made n p (e ∷ []) = given (node (Sum_of n) (e ∷ []) ty.Real)
sum_made n p _ = not_built p

-- a product of distributions has at most 65,536 outcomes
abbrev pub product_type : Ty → Ty → Place → Answer Ty
product_type a b p = do
  t ← given_or (outcome a) TypeMismatch p
  u ← given_or (outcome b) TypeMismatch p
  if is_small (ty.Tuple (t ∷ u ∷ [])) then given (ty.Distr (ty.Tuple (t ∷ u ∷ []))) else refused TypeTooLarge p

abbrev pub product_made : Place → List Term → Answer Term
product_made p (s ∷ t ∷ []) = do
  u ← product_type (type_of_term s) (type_of_term t) p
  given (applied op.Product (s ∷ t ∷ []) u)
product_made p _ = not_built p

abbrev pub annotated_made : Place → List Term → Answer Term
annotated_made p (s ∷ []) = given s
annotated_made p _ = not_built p

-- an operator of the script at all its arguments
abbrev pub user_made : Name → OperatorType → Place → List Term → Answer Term
user_made x o p ts = if length ts == length o.params then given (node (User x) ts o.result) else refused TypeMismatch p

-- What is made of the typed parts.
unfoldable pub made : Rule → Place → List Term → Answer Term
made (rule.Annotated t) p ts = annotated_made p ts
made (rule.Tuple n) p ts = tuple_made p ts
made (rule.Part k r) p ts = part_made k r p ts
made rule.If p ts = branches_made p ts
made rule.Get p ts = get_made p ts
made rule.Set p ts = set_made p ts
made (rule.One o) p ts = prefix_made o p ts
made (rule.Two i) p ts = sides_made i p ts
made (rule.Quotient b r) p ts = quotient_made b r p ts
made (rule.Member b) p ts = member_made b p ts
made (rule.User x o) p ts = user_made x o p ts
made rule.Product p ts = product_made p ts
made (rule.Drawn k) p ts = drawn_made k p ts
made rule.Mass p ts = mass_made p ts
made (rule.Sum n) p ts = sum_made n p ts

abbrev pub turned : Bool → Infix → Infix
turned b i = record { op = i.op; operands = i.operands; exchanged = if b then not i.exchanged else i.exchanged }

-- the place of a divisor that isn't a literal above 0
abbrev pub no_divisor : Node → Option Place
no_divisor n = if is_divisor n then None else Some (place_inside n)

-- the rule of an operator, with whether its right side is typed first, and that side
abbrev pub rule_for : Operator → Bool → Node → Rule
rule_for (One o) b n = rule.One o
rule_for (Two i) b n = rule.Two (turned b i)
rule_for Quotient b n = rule.Quotient b (no_divisor n)
rule_for Member b n = rule.Member b

abbrev pub of_arity : ℕ → ℕ → Rule → Option Rule
of_arity n m r = if n == m then Some r else None

-- the rule of a built-in operator with so many arguments
abbrev pub rule_of : Known → ℕ → Option Rule
rule_of known.Some n = of_arity n 1 (rule.One prefix.Some)
rule_of known.Oget n = of_arity n 1 (rule.One prefix.Oget)
rule_of known.Dunit n = of_arity n 1 (rule.One prefix.Dunit)
rule_of known.Mu n = of_arity n 2 (rule.Drawn Measure)
rule_of known.Dmap n = of_arity n 2 (rule.Drawn Image)
rule_of known.Drestrict n = of_arity n 2 (rule.Drawn Restriction)
rule_of known.Mu1 n = of_arity n 2 rule.Mass
rule_of _ n = None
