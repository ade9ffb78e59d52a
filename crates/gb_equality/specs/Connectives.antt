-- Connectives, equations and literals.
use Rattle.std.specs.Prelude.{◌≡◌, ℕ, Bool, true, false, not, ◌&&◌, ◌||◌, ◌==◌, if◌then◌else◌, List, [], ◌∷◌, Option, Some, None, get_or}
use Rattle.gb_core.specs.declared.ty.Ty.{Ty}
use Rattle.gb_core.specs.declared.ty.Ty.TheVariants as ty
use Rattle.gb_core.specs.declared.value.Value.{Value}
use Rattle.gb_core.specs.declared.value.Value.TheVariants.{Num}
use Rattle.gb_terms.specs.declared.op.Op.{Op}
use Rattle.gb_terms.specs.declared.op.Op.TheVariants as op
use Rattle.gb_terms.specs.declared.term.Term.{Term, out-Term}
use Rattle.gb_terms.specs.declared.term.Head.{Head}
use Rattle.gb_terms.specs.declared.term.Head.TheVariants as head
use Rattle.gb_terms.specs.Make.{bit}
use Rattle.gb_equality.specs.declared.connectives.Connective.{Connective}
use Rattle.gb_equality.specs.declared.connectives.Connective.TheVariants.{Truth, Not, And, Or, Implies, Iff, Unlike, Equal, NotEqual, Other}

abbrev pub is_bool : Ty → Bool
is_bool ty.Bool = true
is_bool _ = false

-- whether a term is a form
abbrev pub is_form : Term → Bool
is_form t = is_bool (out-Term t).ty

-- what an operator at one argument is, where it is known whether that is a form
abbrev pub with_one : Op → Bool → Connective
with_one op.Not true = Not
with_one _ _ = Other

-- what an operator at two arguments is: an equation of forms is a connective
abbrev pub with_two : Op → Bool → Connective
with_two op.And true = And
with_two op.Or true = Or
with_two op.Implies true = Implies
with_two op.Iff true = Iff
with_two op.Equal true = Iff
with_two op.NotEqual true = Unlike
with_two op.Equal false = Equal
with_two op.NotEqual false = NotEqual
with_two _ _ = Other

abbrev pub is_one : Value → Bool
is_one (Num n) = n == 1
is_one _ = false

abbrev pub connective_at : Head → List Term → Connective
connective_at (head.Lit v) [] = Truth (is_one v)
connective_at (head.Builtin o) (t ∷ []) = with_one o (is_form t)
connective_at (head.Builtin o) (t ∷ u ∷ []) = with_two o (is_form t && is_form u)
connective_at _ ts = Other

-- what a term is: `true` or `false`, a connective of forms, an equation or its negation, or another term
abbrev pub connective_of : Term → Connective
connective_of t = if is_form t then connective_at (out-Term t).head (out-Term t).args else Other

-- whether a label is that of a true form
abbrev pub is_true : ℕ → Bool
is_true l = l == 1

-- the tables of the connectives, from the truths of their first and second argument
abbrev pub truth : Connective → Bool → Bool → Bool
truth (Truth b) p q = b
truth Not p q = not p
truth And p q = p && q
truth Or p q = p || q
truth Implies p q = not p || q
truth Iff p q = if p then q else not q
truth Unlike p q = if p then not q else q
truth _ p q = false

-- whether it is made of forms
abbrev pub is_over_forms : Connective → Bool
is_over_forms Equal = false
is_over_forms NotEqual = false
is_over_forms Other = false
is_over_forms _ = true

-- The label of a form, from the labels of its first and second argument: that of a connective is as its table says, and `s = t` is
-- true exactly when the labels are equal. Of another form nothing is said.
abbrev pub by_table : Connective → ℕ → ℕ → Option ℕ
by_table Equal l m = Some (bit (l == m))
by_table NotEqual l m = Some (bit (not (l == m)))
by_table Other l m = None
by_table c l m = Some (bit (truth c (is_true l) (is_true m)))

-- the same from the labels of all arguments
abbrev pub label_by : Connective → List ℕ → Option ℕ
label_by c ls = by_table c (get_or ls 0 0) (get_or ls 1 0)

-- what a literal shows: a value, a whole number, or for `n%r` the whole number

abbrev pub shown_whole : Head → List Term → Option Head
shown_whole (head.Whole n) [] = Some (head.Whole n)
shown_whole _ ts = None

abbrev pub shown_by : Op → List Term → Option Head
shown_by op.ToReal (t ∷ []) = shown_whole (out-Term t).head (out-Term t).args
shown_by _ ts = None

abbrev pub shown_at : Head → List Term → Option Head
shown_at (head.Lit v) [] = Some (head.Lit v)
shown_at (head.Whole n) [] = Some (head.Whole n)
shown_at (head.Builtin o) ts = shown_by o ts
shown_at _ ts = None

abbrev pub shown : Term → Option Head
shown t = shown_at (out-Term t).head (out-Term t).args

-- two different literals of one type
pub record AreDifferent (t u : Term) : Type 0 where
  pub one_type : (out-Term t).ty ≡ (out-Term u).ty
  pub first : Head
  pub second : Head
  pub first_shown : shown t ≡ Some first
  pub second_shown : shown u ≡ Some second
  pub different : first ≡ second → ⊥
