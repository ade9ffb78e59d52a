-- The typing of multiples of hypotheses.
use Rattle.std.specs.Prelude.{ℕ, suc, ◌^◌, nat_lt, Bool, true, false, ◌&&◌, if◌then◌else◌, ℤ, pos, neg_ℤ, List, [], ◌∷◌, Option, Some, None, Result, Ok, Err, bytes_eq}
use Rattle.std.specs.List.{list_any}
use Rattle.gb_core.specs.declared.place.Place.{Place}
use Rattle.gb_core.specs.declared.refusal.Why.{Why}
use Rattle.gb_core.specs.declared.refusal.Why.TheVariants.{Argument}
use Rattle.gb_dist.specs.declared.whole.Overflow.{Overflow}
use Rattle.gb_dist.specs.Fractions.{Fraction, of_whole, over, reduced}
use Rattle.gb_dist.specs.Operations.{outcome, over_steps}
use Rattle.gb_goal.specs.declared.sequent.Hyp.{Hyp}
use Rattle.gb_goal.specs.declared.sequent.Sequent.{Sequent}
use Rattle.gb_goal.specs.Scope.{Declarations}
use Rattle.gb_goal.specs.Answers.{Answer, ◌>>=◌}
use Rattle.gb_goal.specs.Answers.Answer.{given, refused}
use Rattle.gb_script.specs.declared.head.Head.{Head as Kind}
use Rattle.gb_script.specs.declared.head.Head.TheVariants as text
use Rattle.gb_script.specs.declared.tree.Node.{Node}
use Rattle.gb_script.specs.Tree.{head_of, text_of, parts_of, place_of}
use Rattle.gb_names.specs.Names.{no_declared}
use Rattle.gb_limits.specs.Numbers.{number_of}
use Rattle.gb_steps.specs.declared.step.Multiple.{Multiple}
use Rattle.gb_elab_mod.specs.Taken.{is_taken}

-- A number, as a position in a body. No body is as long as the numbers that the reader doesn't let pass.
abbrev pub position : Node → ℕ
position n = if nat_lt (number_of (text_of n)) (2 ^ 127) then number_of (text_of n) else 2 ^ 127

-- how many hypotheses stand before the first of this name
abbrev pub hyps_before : List Hyp → List ℕ → ℕ
hyps_before [] x = 0
hyps_before (h ∷ hs) x = if bytes_eq x h.name then 0 else suc (hyps_before hs x)

-- why a name means nothing of the kind that is asked for: a thing of the context, a declared one or a built-in one has it, or nothing
abbrev pub no_such : Declarations → Sequent → List ℕ → Why
no_such ds q x = if is_taken q x then Argument else no_declared None ds x

-- the place of a hypothesis in a goal
abbrev pub hypothesis_at : Declarations → Sequent → List ℕ → Place → Answer ℕ
hypothesis_at ds q x p =
    if list_any (λ h. bytes_eq x h.name) q.hyps then given (hyps_before q.hyps x)
    else refused (no_such ds q x) p

abbrev pub signed : Bool → ℕ → ℤ
signed true n = neg_ℤ (pos n)
signed false n = pos n

abbrev pub in_range : Result Fraction Overflow → Option Fraction
in_range (Ok a) = Some a
in_range (Err o) = None

-- A fraction, with a sign or without. No number is by a denominator of 0, nor by numbers that the reader doesn't let pass.
abbrev pub ratio : Bool → ℕ → ℕ → Option Fraction
ratio back n d =
    if nat_lt n (2 ^ 127) && (nat_lt 0 d && nat_lt d (2 ^ 127))
    then in_range (outcome (over_steps (of_whole (signed back n)) (pos d)) (reduced (over (of_whole (signed back n)) (pos d)))) else None

-- the denominator of a multiplier: 1 where it is missing
abbrev pub divisor : List Node → ℕ
divisor [] = 1
divisor (d ∷ ds) = position d

-- the multiple of the hypothesis of a name
abbrev pub multiple_of : Declarations → Sequent → Node → Option Fraction → Answer Multiple
multiple_of ds q x k = do
  i ← hypothesis_at ds q (text_of x) (place_of x)
  given (record { hyp = i; factor = k })

-- a hypothesis with its multiplier, or alone
abbrev pub multiple_at : Declarations → Sequent → Kind → List Node → Node → Answer Multiple
multiple_at ds q text.Scaled (n ∷ d ∷ x ∷ []) t = multiple_of ds q x (ratio false (position n) (divisor (parts_of d)))
multiple_at ds q text.ScaledBack (n ∷ d ∷ x ∷ []) t = multiple_of ds q x (ratio true (position n) (divisor (parts_of d)))
multiple_at ds q _ ps t = multiple_of ds q t (Some (of_whole (pos 1)))

abbrev pub multiple : Declarations → Sequent → Node → Answer Multiple
multiple ds q t = multiple_at ds q (head_of t) (parts_of t) t

abbrev pub multiples : Declarations → Sequent → List Node → Answer (List Multiple)
multiples ds q [] = given []
multiples ds q (t ∷ ts) = do
  m ← multiple ds q t
  ms ← multiples ds q ts
  given (m ∷ ms)
