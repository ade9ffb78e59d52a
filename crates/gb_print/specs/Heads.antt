-- The trees of forms, from their heads and the trees of their parts.
use Rattle.std.specs.Prelude.{ℕ, ℤ, ◌+◌, ◌==◌, if◌then◌else◌, List, [], ◌∷◌, ◌++◌, map, Option, Some, None, pos, negsuc, codes}
use Rattle.std.specs.List.{slice_get}
use Rattle.gb_core.specs.declared.ty.Ty.{Ty, out-Ty}
use Rattle.gb_core.specs.declared.ty.Ty.TheOpen as ty_layer
use Rattle.gb_core.specs.declared.value.Value.{Value, out-Value, fold-Value}
use Rattle.gb_core.specs.declared.value.Value.TheOpen as value_layer
use Rattle.gb_terms.specs.declared.op.Op.{Op}
use Rattle.gb_terms.specs.declared.op.Op.TheVariants as op
use Rattle.gb_terms.specs.declared.op.Read.{Read}
use Rattle.gb_terms.specs.declared.op.Read.TheVariants.{Logical, Program}
use Rattle.gb_terms.specs.declared.op.Rel.{Rel}
use Rattle.gb_terms.specs.declared.op.Rel.TheVariants as rel
use Rattle.gb_terms.specs.declared.op.Side.{Side}
use Rattle.gb_terms.specs.declared.op.Side.TheVariants as side
use Rattle.gb_terms.specs.declared.term.Pair.{Pair}
use Rattle.gb_terms.specs.declared.term.Term.{Term}
use Rattle.gb_terms.specs.declared.term.Head.{Head}
use Rattle.gb_terms.specs.declared.term.Head.TheVariants as term
use Rattle.gb_script.specs.declared.head.Head.TheVariants as head
use Rattle.gb_script.specs.declared.tree.Node.{Node}
use Rattle.gb_print_names.specs.declared.bound_names.Enumeration.{Enumeration}
use Rattle.gb_print_names.specs.declared.bound_names.Known.{Known}
use Rattle.gb_print_names.specs.Text.{Text}
use Rattle.gb_print_names.specs.BoundNames.{Name, Place}
use Rattle.gb_print_names.specs.Names.{shown_name, typed_name, constants}
use Rattle.gb_print_names.specs.Open.{type_read}
use Rattle.gb_print.specs.Layout.{outcome, type_needed}
use Rattle.gb_print.specs.Nodes.{tree, spelled, leaf, list, number, word, of_words, path}
use Rattle.gb_print.specs.Types.{module_tree, call_tree, abstract_module, type_tree, type_operand, variable_words}

-- a name, where there is one
abbrev pub perhaps : Option Name → Node
perhaps (Some x) = path x
perhaps None = list []

abbrev pub bound_at : List Known → ℕ → Node
bound_at bound i = perhaps (shown_name (slice_get bound i))

-- the memory behind a read
abbrev pub memory : Place → Side → Node
memory at side.Own = list []
memory at side.Left = leaf head.Number (codes "1")
memory at side.Right = leaf head.Number (codes "2")
memory at (side.Memory i) = perhaps (slice_get at.memories i)
memory at (side.Bound i) = bound_at at.bound i

abbrev pub beside : Place → Side → Node → Node
beside at side.Own x = x
beside at s x = tree head.Sided (x ∷ memory at s ∷ [])

abbrev pub read : Place → Read → Node
read at (Logical i) = perhaps (typed_name (slice_get at.logical i))
read at (Program x s) = beside at s (of_words (variable_words at.bound x))

-- Literals.

abbrev pub numeral_layer : List Enumeration → ty_layer.Ty-F Ty → ℕ → Node
numeral_layer es ty_layer.Unit n = word (codes "tt")
numeral_layer es ty_layer.Bool n = word (if n == 0 then codes "false" else codes "true")
numeral_layer es (ty_layer.Enumeration x size) n = perhaps (slice_get (constants es x) n)
numeral_layer es t n = number n

abbrev pub at_value : value_layer.Value-F Node → Node
at_value (value_layer.Num n) = number n
at_value (value_layer.Many vs) = tree head.Tuple vs

abbrev pub literal_layer : List Enumeration → Ty → Value → value_layer.Value-F Value → Node
literal_layer es t v (value_layer.Num n) = numeral_layer es (out-Ty t) n
literal_layer es t v (value_layer.Many vs) = fold-Value Node at_value v

abbrev pub literal : List Enumeration → Ty → Value → Node
literal es t v = literal_layer es t v (out-Value v)

abbrev pub whole : ℤ → Node
whole (pos n) = number n
whole (negsuc n) = tree head.Negative (number (n + 1) ∷ [])

abbrev pub weight : List Enumeration → Ty → Pair → Node
weight es t p = tree head.Weight (literal es t p.value ∷ number p.weight ∷ [])

-- Applications: arguments stand behind those that are there.
abbrev pub applied : Node → List Node → Node
applied f [] = f
applied f args = tree head.Apply (f ∷ args)

abbrev pub compared : Text → List Node → Node
compared w parts = spelled head.Compared w parts

-- an operator at its operands
abbrev pub operation : Op → Ty → List Known → List Node → Node
operation op.Not t bound xs = tree head.Not xs
operation op.And t bound xs = tree head.And xs
operation op.Or t bound xs = tree head.Or xs
operation op.Implies t bound xs = tree head.Implies xs
operation op.Iff t bound xs = tree head.Iff xs
operation op.Equal t bound xs = compared (codes "=") xs
operation op.NotEqual t bound xs = compared (codes "<>") xs
operation op.Less t bound xs = compared (codes "<") xs
operation op.AtMost t bound xs = compared (codes "<=") xs
operation op.Plus t bound xs = tree head.Sum xs
operation op.Minus t bound xs = tree head.Difference xs
operation op.Times t bound xs = tree head.Product xs
operation op.Negate t bound xs = tree head.Negative xs
operation op.Xor t bound xs = tree head.Xor xs
operation op.Divide t bound xs = tree head.Quotient xs
operation op.ToReal t bound xs = tree head.ToReal xs
operation op.Abs t bound xs = tree head.Absolute xs
operation op.If t bound xs = tree head.Chosen xs
operation op.Tuple t bound xs = tree head.Tuple xs
operation (op.Part k) t bound xs = tree head.Component (xs ++ number k ∷ [])
operation op.Some t bound xs = applied (word (codes "Some")) xs
operation op.None t bound xs = word (codes "None")
operation op.Oget t bound xs = applied (word (codes "oget")) xs
operation op.Empty t bound xs = word (codes "empty")
operation op.Get t bound xs = tree head.Get xs
operation op.Set t bound xs = tree head.Set xs
operation op.InMap t bound xs = compared (codes "\\in") xs
operation op.InSupport t bound xs = compared (codes "\\in") xs
operation op.Mu1 t bound xs = applied (word (codes "mu1")) xs
operation op.Coin t bound xs = tree head.Coin []
operation op.Uniform t bound xs = tree head.Uniform (type_operand (outcome t) bound ∷ [])
operation op.Dunit t bound xs = applied (word (codes "dunit")) xs
operation op.Product t bound xs = tree head.PowerProduct xs

-- the sign in front of the bound of a judgment
abbrev pub sign : Rel → Text
sign rel.AtMost = codes "<="
sign rel.Equal = codes "="
sign rel.AtLeast = codes ">="

abbrev pub bounded : Rel → Node → List Node → Node
bounded r s (p ∷ q ∷ b ∷ []) = spelled head.Bounded (sign r) (tree head.Phoare (s ∷ p ∷ q ∷ []) ∷ b ∷ [])
bounded r s xs = tree head.Phoare (s ∷ xs)

-- arguments, and the last form
abbrev pub but_last : List Node → List Node
but_last [] = []
but_last (x ∷ []) = []
but_last (x ∷ y ∷ ys) = x ∷ but_last (y ∷ ys)

abbrev pub last : List Node → List Node
last [] = []
last (x ∷ []) = x ∷ []
last (x ∷ y ∷ ys) = last (y ∷ ys)

-- a quantifier and what it binds
abbrev pub quantified : Text → Node → List Node → Node
quantified q b xs = spelled head.Quantified q (list (b ∷ []) ∷ xs)

-- a form, from the name of what its head binds, the programs that it speaks of, its type and its parts
abbrev pub made : Head → Name → List Node → Ty → Place → List Node → Node
made (term.Lit v) x programs t at xs = literal at.enumerations t v
made (term.Whole n) x programs t at xs = whole n
made (term.Read r) x programs t at xs = read at r
made (term.Bound i) x programs t at xs = bound_at at.bound i
made (term.Builtin o) x programs t at xs = operation o t at.bound xs
made (term.User f) x programs t at xs = applied (path f) xs
made (term.All u) x programs t at xs = quantified (codes "forall") (tree head.Values (word x ∷ list [] ∷ type_tree u at.bound ∷ [])) xs
made (term.Some u) x programs t at xs = quantified (codes "exists") (tree head.Values (word x ∷ list [] ∷ type_tree u at.bound ∷ [])) xs
made term.AllMemory x programs t at xs = quantified (codes "forall") (tree head.Memory (word x ∷ [])) xs
made term.SomeMemory x programs t at xs = quantified (codes "exists") (tree head.Memory (word x ∷ [])) xs
made (term.AllModule b) x programs t at xs = quantified (codes "forall") (abstract_module at.bound x b) xs
made term.Mu x programs t at xs = applied (word (codes "mu")) xs
made (term.Sum q) x programs t at xs = applied (word (codes "sum")) (number q ∷ xs)
made (term.Weights ps) x programs t at xs = tree head.Weights (map (weight at.enumerations (outcome t)) ps)
made term.Map x programs t at xs = applied (word (codes "dmap")) xs
made term.Restrict x programs t at xs = applied (word (codes "drestrict")) xs
made (term.Pr p s) x programs t at xs = tree head.Probability (call_tree p (but_last xs) at.bound ∷ memory at s ∷ last xs)
made (term.Glob m s) x programs t at xs = beside at s (tree head.Glob (module_tree m at.bound ∷ []))
made (term.Hoare c) x programs t at xs = tree head.Hoare (programs ++ xs)
made (term.Phoare c r) x (s ∷ []) t at xs = bounded r s xs
made (term.Phoare c r) x programs t at xs = tree head.Phoare (programs ++ xs)
made (term.Equiv c d) x programs t at xs = tree head.Equiv (programs ++ xs)

-- a function of a name, with its type where this is needed
abbrev pub function : Option Ty → Name → List Known → Node → Node
function None x bound f = tree head.Function (list (word x ∷ []) ∷ f ∷ [])
function (Some t) x bound f = tree head.TypedFunction (list (word x ∷ []) ∷ type_tree t bound ∷ f ∷ [])

-- the part in which a head binds something: a function, or the body of a quantifier
abbrev pub in_binder : Head → Term → Name → List Known → Node → Node
in_binder term.Mu f x bound y = function None x bound y
in_binder term.Map f x bound y = function None x bound y
in_binder term.Restrict f x bound y = function None x bound y
in_binder (term.Sum q) f x bound y = function (type_needed q (type_read f 0)) x bound y
in_binder h f x bound y = y
