-- Two probabilities of one procedure by their events, and the bounds that every probability keeps.
use Rattle.std.specs.Prelude.{ℤ, pos, zero, suc, Bool, true, false, ◌&&◌, if◌then◌else◌, List, [], ◌∷◌, ◌++◌, Option, Some, None}
use Rattle.gb_core.specs.declared.refusal.Why.TheVariants.{Shape}
use Rattle.gb_core.specs.declared.ty.Ty.TheVariants as ty
use Rattle.gb_terms.specs.declared.op.Rel.{Rel}
use Rattle.gb_terms.specs.declared.op.Rel.TheVariants.{AtMost, Equal, AtLeast}
use Rattle.gb_terms.specs.declared.op.Side.TheVariants.{Own}
use Rattle.gb_terms.specs.declared.term.Term.{Term}
use Rattle.gb_terms.specs.declared.term.Head.TheVariants.{Pr}
use Rattle.gb_terms.specs.Make.{node, truth_literal}
use Rattle.gb_goal.specs.Answers.{Answer}
use Rattle.gb_goal.specs.Answers.Answer.{given}
use Rattle.gb_goal.specs.Goal.{Goal}
use Rattle.gb_goal.specs.Goal.Goal.{ambient}
use Rattle.gb_goal.specs.Rows.{Row, refusing}
use Rattle.gb_steps.specs.Chances.{Chance, Bounded, Compared, bounded_of, chances_of}
use Rattle.gb_typing.specs.Forms.{every}
use Rattle.gb_prog.specs.Compared.{literal}
use Rattle.gb_prog.specs.Likely.{as_likely}
use Rattle.gb_prog.specs.Same.{is_same}

abbrev pub same_rel : Rel → Rel → Bool
same_rel AtMost AtMost = true
same_rel Equal Equal = true
same_rel AtLeast AtLeast = true
same_rel r s = false

-- the probability that a procedure ends at all
abbrev pub ending : Chance → Term
ending k = node (Pr k.procedure k.memory) (k.arguments ++ truth_literal true ∷ []) ty.Real

-- whether two probabilities are of one procedure, with the same arguments and from one memory
abbrev pub same_start : Chance → Chance → Bool
same_start k l = is_same (ending k) (ending l)

-- in every memory the events are so related as the comparison asks
abbrev pub by_events_goals : Compared → List Goal
by_events_goals k = ambient (every Own (as_likely k.rel k.left.event k.right.event)) ∷ []

abbrev pub by_events_of : Rel → Option Compared → Answer (List Goal)
by_events_of r (Some k) = if same_rel r k.rel && same_start k.left k.right then given (by_events_goals k) else refusing Shape
by_events_of r None = refusing Shape

abbrev pub by_events_row : Rel → Row
by_events_row r (ambient f) = by_events_of r (chances_of f)
by_events_row r G = refusing Shape

-- `0%r <= Pr[..]`, or `Pr[..] <= 1%r`, as it is asked for
abbrev pub is_kept : Rel → Rel → Option ℤ → Bool
is_kept AtLeast AtLeast (Some (pos zero)) = true
is_kept AtMost AtMost (Some (pos (suc zero))) = true
is_kept r s n = false

abbrev pub within_of : Rel → Option Bounded → Answer (List Goal)
within_of r (Some b) = if is_kept r b.rel (literal b.bound) then given [] else refusing Shape
within_of r None = refusing Shape

abbrev pub within_row : Rel → Row
within_row r (ambient f) = within_of r (bounded_of f)
within_row r G = refusing Shape
