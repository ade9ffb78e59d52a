-- What `linear` answers.
use Rattle.std.specs.Prelude.{Bool, true, false, not, ◌&&◌, ◌||◌, if◌then◌else◌, pos, List, [], ◌∷◌, Option, Some, None}
use Rattle.std.specs.List.{list_all, slice_get}
use Rattle.gb_core.specs.declared.place.Place.{Place}
use Rattle.gb_core.specs.declared.refusal.Why.TheVariants as why
use Rattle.gb_core.specs.declared.ty.Ty.{Ty}
use Rattle.gb_core.specs.declared.ty.Ty.TheVariants as ty
use Rattle.gb_dist.specs.Fractions.{Fraction}
use Rattle.gb_terms.specs.declared.op.Op.TheVariants as op
use Rattle.gb_terms.specs.declared.term.Term.{Term, out-Term}
use Rattle.gb_terms.specs.declared.term.Head.{Head}
use Rattle.gb_terms.specs.declared.term.Head.TheVariants as head
use Rattle.gb_goal.specs.Answers.{Answer, ◌>>=◌, given_or, nowhere, placed_at}
use Rattle.gb_goal.specs.Answers.Answer.{given, refused}
use Rattle.gb_goal.specs.declared.sequent.Hyp.{Hyp}
use Rattle.gb_goal.specs.declared.sequent.Sequent.{Sequent}
use Rattle.gb_steps.specs.declared.step.Multiple.{Multiple}
use Rattle.gb_closing.specs.declared.numbers.Sign.TheVariants.{Plus, Minus}
use Rattle.gb_linear.specs.declared.numbers.Stands.TheVariants.{Left}
use Rattle.gb_linear.specs.declared.forms.LinearForm.{LinearForm}
use Rattle.gb_linear.specs.declared.apply.Comparison.{Comparison}
use Rattle.gb_linear.specs.declared.apply.Assumption.{Assumption}
use Rattle.gb_closing.specs.Numbers.{zero, may_have}
use Rattle.gb_linear.specs.Numbers.{is_zero, is_positive}
use Rattle.gb_linear.specs.Forms.{combined, scaled, is_constant}
use Rattle.gb_linear.specs.Linear.{linear}

abbrev pub is_number : Ty → Bool
is_number ty.Int = true
is_number ty.Real = true
is_number _ = false

-- a comparison whose sides are whole numbers or reals; whether it is an equation
abbrev pub between : Bool → Term → Term → Option Comparison
between equal a b = if is_number (out-Term a).ty && is_number (out-Term b).ty then Some (record { equal = equal; left = a; right = b }) else None

abbrev pub compared_at : Head → List Term → Option Comparison
compared_at (head.Builtin op.AtMost) (a ∷ b ∷ []) = between false a b
compared_at (head.Builtin op.Equal) (a ∷ b ∷ []) = between true a b
compared_at h ts = None

-- the form `a <= b` or `a = b`
abbrev pub compared : Term → Option Comparison
compared f = compared_at (out-Term f).head (out-Term f).args

-- for an equation equations alone are used
abbrev pub if_usable : Bool → Option Fraction → Option Comparison → Option Assumption
if_usable equal k None = None
if_usable equal k (Some c) = if not equal || c.equal then Some (record { factor = k; says = c }) else None

abbrev pub hypothesis : Option Hyp → Option Comparison
hypothesis None = None
hypothesis (Some h) = compared h.form

-- the hypothesis of a multiple
abbrev pub assumed : Bool → List Hyp → Multiple → Option Assumption
assumed equal hs m = if_usable equal m.factor (hypothesis (slice_get hs m.hyp))

abbrev pub in_front : {A : Type 0} → Option A → Option (List A) → Option (List A)
in_front (Some x) (Some xs) = Some (x ∷ xs)
in_front _ _ = None

abbrev pub all_assumed : Bool → List Hyp → List Multiple → Option (List Assumption)
all_assumed equal hs [] = Some []
all_assumed equal hs (m ∷ ms) = in_front (assumed equal hs m) (all_assumed equal hs ms)

abbrev pub is_allowed : Assumption → Bool
is_allowed a = may_have a.says.equal a.factor

abbrev pub factor_of : Option Fraction → Fraction
factor_of None = zero
factor_of (Some k) = k

-- one side of a comparison less the other one
abbrev pub difference : Term → Term → Answer LinearForm
difference a b = linear a >>= λ x. linear b >>= λ y. combined Minus x y

-- the multiple of `b - a` that a hypothesis on a and b adds
abbrev pub added : Assumption → Answer LinearForm
added a = difference a.says.right a.says.left >>= λ x. scaled Left (factor_of a.factor) x

-- a form, and behind it what each hypothesis adds
abbrev pub with_all : LinearForm → List Assumption → Answer LinearForm
with_all r [] = given r
with_all r (a ∷ hs) = do
  x ← added a
  s ← combined Plus r x
  with_all s hs

-- the rest of the goal and its hypotheses
abbrev pub rest : Comparison → List Assumption → Answer LinearForm
rest c hs = difference c.left c.right >>= λ r. with_all r hs

-- a constant at most 0, for an equation exactly 0
abbrev pub is_closed : Bool → LinearForm → Bool
is_closed equal r = is_constant r && (if equal then is_zero r.constant else not (is_positive r.constant))

-- no subgoals, or the rest
abbrev pub closed_by : Bool → LinearForm → Answer (List Sequent)
closed_by equal r =
    if is_closed equal r then given []
    else refused (why.NotLinear r.constant.0 (pos r.constant.1) (not (is_constant r))) nowhere

-- what is refused of multipliers
abbrev pub allowed : List Assumption → Answer (Unit {0})
allowed hs = if list_all is_allowed hs then given tt else refused why.Argument nowhere

-- a comparison by hypotheses: their multipliers are allowed, and the rest closes it
abbrev pub closed_with : Comparison → List Assumption → Answer (List Sequent)
closed_with c hs = do
  _ ← allowed hs
  r ← rest c hs
  closed_by c.equal r

-- a goal by multiples of its hypotheses: all these are comparisons
unfoldable pub closing : List Multiple → Sequent → Answer (List Sequent)
closing ms q = do
  c ← given_or (compared q.conclusion) why.Shape nowhere
  hs ← given_or (all_assumed c.equal q.hyps ms) why.Shape nowhere
  closed_with c hs

-- the same of a step at a place
abbrev pub linear_answer : List Multiple → Place → Sequent → Answer (List Sequent)
linear_answer ms place q = placed_at place (closing ms q)
