-- Distributions of stated weights.
use Rattle.std.specs.Prelude.{ℕ, ◌==◌, ◌+◌, ◌^◌, pos, nat_lt, Bool, false, if◌then◌else◌, List, [], ◌∷◌, ◌++◌, Option, Some, None}
use Rattle.std.specs.Option.{option_map_or}
use Rattle.std.specs.List.{list_any}
use Rattle.gb_core.specs.declared.place.Place.{Place}
use Rattle.gb_core.specs.declared.refusal.Why.TheVariants.{Argument, DoubleName, Overflow, TypeMismatch}
use Rattle.gb_core.specs.declared.ty.Ty.{Ty}
use Rattle.gb_core.specs.declared.ty.Ty.TheVariants as ty
use Rattle.gb_core.specs.declared.value.Value.{Value, out-Value}
use Rattle.gb_core.specs.declared.value.Value.TheOpen as layer
use Rattle.gb_core.specs.declared.value.Value.TheVariants.{Num}
use Rattle.gb_core.specs.SameTypes.{ty_eq}
use Rattle.gb_limits.specs.Numbers.{number_of}
use Rattle.gb_names.specs.declared.bindings.Binding.{Binding}
use Rattle.gb_terms.specs.declared.term.Pair.{Pair}
use Rattle.gb_terms.specs.declared.term.Term.{Term}
use Rattle.gb_terms.specs.declared.term.Head.TheVariants.{Weights}
use Rattle.gb_terms.specs.Make.{node}
use Rattle.gb_goal.specs.Answers.{Answer, ◌>>=◌, not_built}
use Rattle.gb_goal.specs.Answers.Answer.{given, refused}
use Rattle.gb_goal.specs.declared.scope.Constant.{Constant}
use Rattle.gb_script.specs.declared.tree.Node.{Node}
use Rattle.gb_script.specs.Tree.{text_of, parts_of, place_of}
use Rattle.gb_names.specs.declared.names.Known.{Known}
use Rattle.gb_names.specs.declared.names.Known.TheVariants as known
use Rattle.gb_names.specs.Allowed.{distribution_here}
use Rattle.gb_names.specs.Environment.{Name, Environment}
use Rattle.gb_names.specs.Names.{constant_at, known_at, named}
use Rattle.gb_names.specs.Wanted.{wanted}
use Rattle.gb_operators.specs.Kinds.{outcome}
use Rattle.gb_operators.specs.Operators.{part_wanted}

-- a truth, or the value of `unit`, by its type and its number there
abbrev pub built_in_constant : Known → Place → Answer Constant
built_in_constant known.True p = given (record { ty = ty.Bool; number = 1 })
built_in_constant known.False p = given (record { ty = ty.Bool; number = 0 })
built_in_constant known.Unit p = given (record { ty = ty.Unit; number = 0 })
built_in_constant _ p = refused Argument p

-- a name of another thing, or of none
abbrev pub no_constant : Environment → List Binding → Name → Place → Answer Constant
no_constant at bound x p = do
  _ ← named at bound x p
  refused Argument p

-- the constant that a name means: one of an enumeration, or a built-in one
abbrev pub constant_of : Environment → List Binding → Name → Place → Answer Constant
constant_of at bound x p =
    option_map_or given (constant_at at bound x)
    (option_map_or (λ k. built_in_constant k p) (known_at at bound x) (no_constant at bound x p))

abbrev pub has_number_layer : ℕ → layer.Value-F Value → Bool
has_number_layer n (layer.Num m) = m == n
has_number_layer n _ = false

-- a value with this number stands among the weighed ones
abbrev pub is_weighed : ℕ → List Pair → Bool
is_weighed n ps = list_any (λ p. has_number_layer n (out-Value p.value)) ps

-- a constant of this type that has no weight yet
abbrev pub new_constant : Environment → List Binding → Ty → List Pair → Name → Place → Answer Constant
new_constant at bound t ps x p = do
  k ← constant_of at bound x p
  if ty_eq k.ty t then (if is_weighed k.number ps then refused (DoubleName x) p else given k) else refused TypeMismatch p

-- the sum of the weights
abbrev pub sum_of : List Pair → ℕ
sum_of [] = 0
sum_of (p ∷ ps) = p.weight + sum_of ps

-- one more weight, with which the sum is below 2^127
abbrev pub added : ℕ → ℕ → Place → Answer ℕ
added sum n p = if nat_lt (sum + n) (2 ^ 127) then given n else refused (Overflow (pos sum) (pos n)) p

-- a weight, which is at least 1, beside others; the readers pass no number from 2^127 on
abbrev pub weight_in : List Pair → Name → Place → Answer ℕ
weight_in ps x p =
    if nat_lt (number_of x) (2 ^ 127) then (if nat_lt 0 (number_of x) then added (sum_of ps) (number_of x) p else refused Argument p) else not_built p

-- a constant and its weight, beside others
abbrev pub weighed : Environment → List Binding → Ty → List Pair → List Node → Place → Answer Pair
weighed at bound t ps (c ∷ n ∷ []) p = do
  k ← new_constant at bound t ps (text_of c) (place_of c)
  m ← weight_in ps (text_of n) (place_of n)
  given (record { value = Num k.number; weight = m })
weighed at bound t ps _ p = not_built p

-- constants with their weights, behind those that came before
unfoldable pub weighed_all : Environment → List Binding → Ty → List Pair → List Node → Answer (List Pair)
weighed_all at bound t ps [] = given ps
weighed_all at bound t ps (x ∷ xs) = do
  q ← weighed at bound t ps (parts_of x) (place_of x)
  weighed_all at bound t (ps ++ q ∷ []) xs

-- the type of the constant that a weight is stated of
abbrev pub type_of_entry : Environment → List Binding → List Node → Place → Answer Ty
type_of_entry at bound (c ∷ ns) p = do
  k ← constant_of at bound (text_of c) (place_of c)
  given k.ty
type_of_entry at bound [] p = not_built p

-- the type of the outcomes: the wanted one, or that of the first constant
abbrev pub outcomes : Environment → List Binding → Option Ty → List Node → Place → Answer Ty
outcomes at bound w [] p = not_built p
outcomes at bound (Some t) (x ∷ xs) p = given t
outcomes at bound None (x ∷ xs) p = type_of_entry at bound (parts_of x) (place_of x)

-- the distribution of these weights over a type
abbrev pub stated : Ty → List Pair → Term
stated t ps = node (Weights ps) [] (ty.Distr t)

-- `weights [A : 1; B : 3]`
abbrev pub weights : List Node → Place → Environment → List Binding → Option Ty → Answer Term
weights xs p at bound w = do
  _ ← distribution_here at p
  v ← part_wanted outcome w p
  t ← outcomes at bound v xs p
  ps ← weighed_all at bound t [] xs
  wanted w p (stated t ps)
