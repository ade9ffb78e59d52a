-- Where an operand has its type by the place where it stands, and which forms ask for that.
use Rattle.std.specs.Prelude.{ℕ, ◌+◌, ◌==◌, Bool, true, false, not, ◌&&◌, ◌||◌, if◌then◌else◌, List, [], ◌∷◌, map, Option, Some, None}
use Rattle.std.specs.Option.{option_or}
use Rattle.gb_core.specs.declared.ty.Ty.{Ty, out-Ty}
use Rattle.gb_core.specs.declared.ty.Ty.TheOpen as ty_layer
use Rattle.gb_terms.specs.declared.op.Op.{Op}
use Rattle.gb_terms.specs.declared.op.Op.TheVariants as op
use Rattle.gb_terms.specs.declared.term.Term.{Term, out-Term}
use Rattle.gb_terms.specs.declared.term.Head.{Head}
use Rattle.gb_terms.specs.declared.term.Head.TheVariants as head
use Rattle.gb_terms.specs.declared.term.Head.TheOpen as layer
use Rattle.gb_terms.specs.declared.term.Head.TheFolds.{fold-Term, para-Term}
use Rattle.gb_terms.specs.declared.term.Subject.{Subject}
use Rattle.gb_terms.specs.declared.term.Instr.{Instr}
use Rattle.gb_terms.specs.declared.term.Cmd.{Cmd}
use Rattle.gb_walk.specs.Layers.{is_binder, seen_by}

abbrev pub type_of : Term → Ty
type_of t = (out-Term t).ty

-- a literal of these types has a name that says its type
abbrev pub is_named_layer : ty_layer.Ty-F Ty → Bool
is_named_layer ty_layer.Unit = true
is_named_layer ty_layer.Bool = true
is_named_layer (ty_layer.Enumeration x n) = true
is_named_layer _ = false

abbrev pub is_named : Ty → Bool
is_named t = is_named_layer (out-Ty t)

abbrev pub is_int_layer : ty_layer.Ty-F Ty → Bool
is_int_layer ty_layer.Int = true
is_int_layer _ = false

abbrev pub is_int : Ty → Bool
is_int t = is_int_layer (out-Ty t)

-- an operator on forms of its own type, open where these are
abbrev pub open_operator : Op → List Bool → Bool
open_operator op.None [] = true
open_operator op.Empty [] = true
open_operator op.Some (a ∷ []) = a
open_operator op.Negate (a ∷ []) = a
open_operator op.Plus (a ∷ b ∷ []) = a && b
open_operator op.Minus (a ∷ b ∷ []) = a && b
open_operator op.Times (a ∷ b ∷ []) = a && b
open_operator op.Xor (a ∷ b ∷ []) = a && b
open_operator _ bs = false

abbrev pub at_head : layer.Head-F (Ty → List Bool → Bool) (Unit {0}) (Unit {0}) (Unit {0}) Bool → Ty → List Bool → Bool
at_head (layer.Lit v) t bs = not (is_named t)
at_head (layer.Whole n) t bs = true
at_head (layer.Builtin o) t bs = open_operator o bs
at_head _ t bs = false

abbrev pub at_term : layer.Term-F (Ty → List Bool → Bool) (Unit {0}) (Unit {0}) (Unit {0}) Bool → Bool
at_term t = t.head t.ty t.args

-- A form is open where its text alone doesn't say its type: a numeral, `None`, `empty`, `Some` of an open form, or a sum,
-- product or negation of open forms.
abbrev pub is_open : Term → Bool
is_open = fold-Term (Ty → List Bool → Bool) (Unit {0}) (Unit {0}) (Unit {0}) Bool at_head (λ i. tt) (λ s. tt) (λ c. tt) at_term

-- an open form gets its type where it isn't known; a numeral is of type `int` by itself
abbrev pub needs_type : Bool → Term → Bool
needs_type known t = is_open t && not known && not (is_int (type_of t))

-- of two operands the right one is typed first where the left one is open and it isn't
abbrev pub right_first : List Term → Bool
right_first (a ∷ b ∷ []) = is_open a && not (is_open b)
right_first ts = false

-- An operand has its type by its place where typing comes to it with a wanted type: the type that is wanted of the whole, where
-- this tells it, or that of an operand that is typed before.
abbrev pub operator_tells : Op → Bool → Bool → ℕ → Bool
operator_tells op.Equal first known i = if i == 0 then first else not first
operator_tells op.NotEqual first known i = if i == 0 then first else not first
operator_tells op.Less first known i = if i == 0 then first else not first
operator_tells op.AtMost first known i = if i == 0 then first else not first
operator_tells op.Plus first known i = known || (if i == 0 then first else not first)
operator_tells op.Minus first known i = known || (if i == 0 then first else not first)
operator_tells op.Times first known i = known || (if i == 0 then first else not first)
operator_tells op.Xor first known i = known || (if i == 0 then first else not first)
operator_tells op.InMap first known i = i == 0 && first
operator_tells op.InSupport first known i = i == 0 && first
operator_tells op.Negate first known i = known
operator_tells op.ToReal first known i = false
operator_tells op.If first known i = known || not (i == 1)
operator_tells op.Tuple first known i = known
operator_tells (op.Part k) first known i = false
operator_tells op.Some first known i = known
operator_tells op.Oget first known i = known
operator_tells op.Get first known i = not (i == 0)
operator_tells op.Set first known i = known || not (i == 0)
operator_tells op.Mu1 first known i = not (i == 0)
operator_tells op.Dunit first known i = known
operator_tells op.Product first known i = known
operator_tells _ first known i = true

-- the same of all heads, where `last` says that the argument is the last one
abbrev pub tells : Head → Bool → Bool → ℕ → Bool → Bool
tells (head.Builtin o) first known i last = operator_tells o first known i
tells head.Mu first known i last = last
tells head.Map first known i last = last && known
tells head.Restrict first known i last = last || known
tells h first known i last = true

abbrev pub Found : Type 0
Found = ℕ → Option Ty

abbrev pub first_found : List (Option Ty) → Option Ty
first_found [] = None
first_found (x ∷ xs) = option_or x (first_found xs)

abbrev pub found_at : Head → Ty → ℕ → Option Ty → Option Ty
found_at (head.Bound j) t k below = if j == k then Some t else None
found_at h t k below = below

abbrev pub found_in : layer.Term-F (Head × Unit {0}) (Instr × Unit {0}) (Subject × Unit {0}) (Cmd × Unit {0}) (Term × Found) → Found
found_in t k =
    found_at t.head.0 t.ty k (first_found (seen_by k (if is_binder t.head.0 then k + 1 else k) (map (λ a. a.1) t.args)))

-- the type at which a term reads what is bound so many binders outside of it, where it does so outside of bodies
unfoldable pub type_read : Term → Found
type_read = para-Term (Unit {0}) (Unit {0}) (Unit {0}) (Unit {0}) Found (λ h. tt) (λ i. tt) (λ s. tt) (λ c. tt) found_in
