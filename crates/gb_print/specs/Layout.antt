-- How heads are written: what stands in front of a form's arguments, between them and behind them, and where they get brackets.
use Rattle.std.specs.Prelude.{ℕ, ◌==◌, Bool, false, if◌then◌else◌, List, [], Option, Some, None, codes}
use Rattle.std.specs.List.{slice_get}
use Rattle.std.specs.Fmt.{signed_decimal}
use Rattle.gb_core.specs.declared.ty.Ty.{Ty, out-Ty}
use Rattle.gb_core.specs.declared.ty.Ty.TheOpen as ty_layer
use Rattle.gb_core.specs.declared.value.Value.{Value, out-Value, fold-Value}
use Rattle.gb_core.specs.declared.value.Value.TheOpen as value_layer
use Rattle.gb_terms.specs.declared.op.Op.{Op}
use Rattle.gb_terms.specs.declared.op.Op.TheVariants as op
use Rattle.gb_terms.specs.declared.op.Rel.{Rel}
use Rattle.gb_terms.specs.declared.op.Rel.TheVariants as rel
use Rattle.gb_terms.specs.declared.term.Pair.{Pair}
use Rattle.gb_terms.specs.declared.term.Term.{Term}
use Rattle.gb_terms.specs.declared.term.Head.{Head}
use Rattle.gb_terms.specs.declared.term.Head.TheVariants as head
use Rattle.gb_terms.specs.declared.module.Bind.{Bind}
use Rattle.gb_print_names.specs.declared.bound_names.Enumeration.{Enumeration}
use Rattle.gb_print_names.specs.declared.bound_names.Known.{Known}
use Rattle.gb_print_names.specs.Text.{Text, Writing, ◌▸◌, nothing, word, number, separated, bar}
use Rattle.gb_print_names.specs.BoundNames.{Name, Place}
use Rattle.gb_print_names.specs.Names.{perhaps, bound_at, memory, beside, read, constants}
use Rattle.gb_print_names.specs.Types.{type_text, type_operand}
use Rattle.gb_print_names.specs.Modules.{module_text, procedure, abstract_module}
use Rattle.gb_print_names.specs.Shapes.{spelling}
use Rattle.gb_print_names.specs.Open.{type_read}

-- Literals.

abbrev pub truth_word : ℕ → Text
truth_word n = if n == 0 then codes "false" else codes "true"

abbrev pub numeral_layer : List Enumeration → ty_layer.Ty-F Ty → ℕ → Writing
numeral_layer es ty_layer.Unit n = word (codes "tt")
numeral_layer es ty_layer.Bool n = word (truth_word n)
numeral_layer es (ty_layer.Enumeration x size) n = perhaps (slice_get (constants es x) n)
numeral_layer es t n = number n

-- a number as a value of a type
abbrev pub numeral : List Enumeration → Ty → ℕ → Writing
numeral es t n = numeral_layer es (out-Ty t) n

abbrev pub at_value : value_layer.Value-F Writing → Writing
at_value (value_layer.Num n) = number n
at_value (value_layer.Many ws) = word (codes "(") ▸ separated (codes ", ") (λ w. w) ws ▸ word (codes ")")

-- a value by its numbers alone
abbrev pub value_text : Value → Writing
value_text = fold-Value Writing at_value

abbrev pub literal_layer : List Enumeration → Ty → Value → value_layer.Value-F Value → Writing
literal_layer es t v (value_layer.Num n) = numeral es t n
literal_layer es t v (value_layer.Many vs) = value_text v

-- a literal: a number, a truth, `tt`, a constant of an enumeration; a value with parts, which no script makes a literal, as these
abbrev pub literal : List Enumeration → Ty → Value → Writing
literal es t v = literal_layer es t v (out-Value v)

abbrev pub outcome_layer : ty_layer.Ty-F Ty → Ty → Ty
outcome_layer (ty_layer.Distr u) t = u
outcome_layer l t = t

-- what a distribution gives
abbrev pub outcome : Ty → Ty
outcome t = outcome_layer (out-Ty t) t

-- what stands behind the postcondition, where there is a bound
abbrev pub compared : Rel → Text
compared rel.AtMost = codes "] <= "
compared rel.Equal = codes "] = "
compared rel.AtLeast = codes "] >= "

-- Operators.

abbrev pub before_operand : Op → ℕ → Text
before_operand o i = if i == 0 then [] else if i == 1 then (spelling o).second else (spelling o).further

-- behind the operands; a part is taken by its number, and a bar doesn't join another one
abbrev pub operator_closing : Op → Writing
operator_closing (op.Part k) = word (codes ".`") ▸ number k
operator_closing op.Abs = bar
operator_closing o = word (spelling o).closing

-- the type of which a distribution is uniform
abbrev pub operator_type : Op → Ty → Place → Writing
operator_type op.Uniform t at = type_operand (outcome t) at.bound
operator_type _ t at = nothing

-- Heads.

abbrev pub weighted : List Enumeration → Ty → Pair → Writing
weighted es t p = literal es t p.value ▸ word (codes " : ") ▸ number p.weight

-- the word with which a form begins, where it begins with one
abbrev pub opening_word : Head → Text
opening_word (head.Builtin o) = (spelling o).opening
opening_word (head.User x) = x
opening_word head.Mu = codes "mu"
opening_word (head.Sum q) = codes "sum "
opening_word (head.Weights ps) = codes "weights ["
opening_word head.Map = codes "dmap"
opening_word head.Restrict = codes "drestrict"
opening_word (head.Pr p s) = codes "Pr["
opening_word (head.Glob m s) = codes "(glob "
opening_word (head.Hoare c) = codes "hoare ["
opening_word (head.Phoare c r) = codes "phoare ["
opening_word (head.Equiv c d) = codes "equiv ["
opening_word _ = []

-- A form begins with this; the programs of a judgment follow.
abbrev pub opening : Head → Ty → Place → Writing
opening (head.Lit v) t at = literal at.enumerations t v
opening (head.Whole n) t at = word (signed_decimal n)
opening (head.Read r) t at = read at r
opening (head.Bound i) t at = bound_at at.bound i
opening (head.Builtin o) t at = word (spelling o).opening ▸ operator_type o t at
opening (head.User x) t at = word x
opening head.Mu t at = word (codes "mu")
opening (head.Sum q) t at = word (codes "sum ") ▸ number q
opening (head.Weights ps) t at =
    word (codes "weights [") ▸ separated (codes "; ") (weighted at.enumerations (outcome t)) ps ▸ word (codes "]")
opening head.Map t at = word (codes "dmap")
opening head.Restrict t at = word (codes "drestrict")
opening (head.Pr p s) t at = word (codes "Pr[") ▸ procedure at.bound p ▸ word (codes "(")
opening (head.Glob m s) t at = word (codes "(glob ") ▸ module_text m at.bound ▸ word (codes ")") ▸ beside at s
opening (head.Hoare c) t at = word (codes "hoare [")
opening (head.Phoare c r) t at = word (codes "phoare [")
opening (head.Equiv c d) t at = word (codes "equiv [")
opening _ t at = nothing

-- in front of the parts of a judgment
abbrev pub before_part : Text → ℕ → Text
before_part bound i = if i == 0 then codes " : " else if i == 1 then codes " ==> " else bound

-- in front of an argument under no binder
abbrev pub before : Head → ℕ → Bool → Place → Writing
before (head.Builtin o) i last at = word (before_operand o i)
before (head.Hoare c) i last at = word (before_part [] i)
before (head.Phoare c r) i last at = word (before_part (compared r) i)
before (head.Equiv c d) i last at = word (before_part [] i)
before (head.Pr p s) i last at =
    if last then word (codes ") @ &") ▸ memory at s ▸ word (codes " : ") else word (if i == 0 then [] else codes ", ")
before h i last at = word (codes " ")

-- A form ends with this.
abbrev pub closing : Head → Writing
closing (head.Builtin o) = operator_closing o
closing head.Mu = word (codes ")")
closing (head.Sum q) = word (codes ")")
closing head.Map = word (codes ")")
closing head.Restrict = word (codes ")")
closing (head.Pr p s) = word (codes "]")
closing (head.Hoare c) = word (codes "]")
closing (head.Equiv c d) = word (codes "]")
closing _ = nothing

-- Binders.

-- the letter of what a head binds
abbrev pub letter : Head → Text
letter head.AllMemory = codes "m"
letter head.SomeMemory = codes "m"
letter (head.AllModule b) = codes "A"
letter _ = codes "v"

-- the name that it has in the tree
abbrev pub stands : Head → Name
stands (head.AllModule b) = b.name
stands _ = []

-- a quantifier over the values of a type
abbrev pub over_values : Text → Name → Ty → List Known → Writing
over_values q x t bound = word q ▸ word (codes " (") ▸ word x ▸ word (codes " : ") ▸ type_text t bound ▸ word (codes "), ")

abbrev pub over_memories : Text → Name → Writing
over_memories q m = word q ▸ word (codes " &") ▸ word m ▸ word (codes ", ")

abbrev pub over_modules : Name → Bind → List Known → Writing
over_modules x b bound = word (codes "forall (") ▸ abstract_module bound x b ▸ word (codes "), ")

-- the variable of a sum below q is of the type `int[q]` by itself
abbrev pub is_mod_layer : ℕ → ty_layer.Ty-F Ty → Bool
is_mod_layer q (ty_layer.Mod n) = n == q
is_mod_layer q _ = false

-- its type, where it is another one
abbrev pub type_needed : ℕ → Option Ty → Option Ty
type_needed q None = None
type_needed q (Some t) = if is_mod_layer q (out-Ty t) then None else Some t

-- the variable of a function, with its type where this is needed
abbrev pub of_function : Name → Option Ty → List Known → Writing
of_function x None bound = word (codes " (fun ") ▸ word x ▸ word (codes " => ")
of_function x (Some t) bound = word (codes " (fun (") ▸ word x ▸ word (codes " : ") ▸ type_text t bound ▸ word (codes ") => ")

-- what a head binds in a term, under its name
abbrev pub binding : Head → Term → Name → List Known → Writing
binding (head.All t) f x bound = over_values (codes "forall") x t bound
binding (head.Some t) f x bound = over_values (codes "exists") x t bound
binding head.AllMemory f x bound = over_memories (codes "forall") x
binding head.SomeMemory f x bound = over_memories (codes "exists") x
binding (head.AllModule b) f x bound = over_modules x b bound
binding (head.Sum q) f x bound = of_function x (type_needed q (type_read f 0)) bound
binding h f x bound = of_function x None bound
