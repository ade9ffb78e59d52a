-- Comparisons of probabilities, as forms.
use Rattle.std.specs.Prelude.{ℤ, pos, List, [], ◌∷◌, Option, Some, None}
use Rattle.gb_core.specs.declared.ty.Ty.TheVariants as ty
use Rattle.gb_terms.specs.declared.op.Op.TheVariants as op
use Rattle.gb_terms.specs.declared.op.Rel.{Rel}
use Rattle.gb_terms.specs.declared.op.Rel.TheVariants.{AtMost, Equal, AtLeast}
use Rattle.gb_terms.specs.declared.term.Term.{Term, out-Term}
use Rattle.gb_terms.specs.declared.term.Head.{Head}
use Rattle.gb_terms.specs.declared.term.Head.TheVariants.{Whole, Builtin}
use Rattle.gb_terms.specs.Make.{node, applied}
use Rattle.gb_typing.specs.Forms.{and_form, implies_form, not_form, equal_form}

-- `n%r`
abbrev pub number : ℤ → Term
number n = applied op.ToReal (node (Whole n) [] ty.Int ∷ []) ty.Real

abbrev pub zero : Term
zero = number (pos 0)

abbrev pub one : Term
one = number (pos 1)

abbrev pub at_most_form : Term → Term → Term
at_most_form a b = applied op.AtMost (a ∷ b ∷ []) ty.Bool

-- `a <= b`, `a = b`, or `a >= b`, which is `b <= a`
abbrev pub compared : Rel → Term → Term → Term
compared AtMost a b = at_most_form a b
compared Equal a b = equal_form a b
compared AtLeast a b = at_most_form b a

-- what is so where an event is certain, and what where it is impossible: `(Q => 1%r ~ r) /\ (!Q => 0%r ~ r)`
abbrev pub certain_or_not : Rel → Term → Term → Term
certain_or_not r q b = and_form (implies_form q (compared r one b)) (implies_form (not_form q) (compared r zero b))

abbrev pub whole_at : Head → Option ℤ
whole_at (Whole n) = Some n
whole_at _ = None

abbrev pub literal_at : Head → List Term → Option ℤ
literal_at (Builtin op.ToReal) (x ∷ []) = whole_at (out-Term x).head
literal_at _ ts = None

-- the number n, where a term is a literal `n%r`
abbrev pub literal : Term → Option ℤ
literal t = literal_at (out-Term t).head (out-Term t).args
