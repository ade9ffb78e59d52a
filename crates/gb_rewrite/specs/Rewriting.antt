-- What the rules make of goals that put equals for equals.
use Rattle.std.specs.Prelude.{ℕ, zero, suc, if◌then◌else◌, List, [], ◌∷◌, map, slice_get, Option, Some, None}
use Rattle.std.specs.Option.{option_map}
use Rattle.gb_core.specs.declared.place.Place.{Place}
use Rattle.gb_core.specs.declared.refusal.Why.TheVariants.{Shape}
use Rattle.gb_terms.specs.declared.term.Term.{Term}
use Rattle.gb_goal.specs.Answers.{Answer}
use Rattle.gb_goal.specs.Answers.Answer.{given, refused}
use Rattle.gb_goal.specs.declared.sequent.Hyp.{Hyp}
use Rattle.gb_goal.specs.declared.sequent.Sequent.{Sequent}
use Rattle.gb_goal.specs.Scope as scope
use Rattle.gb_steps.specs.declared.step.EventLaw.{EventLaw}
use Rattle.gb_steps.specs.declared.step.RewriteRule.{RewriteRule}
use Rattle.gb_steps.specs.declared.step.RewriteRule.TheVariants.{Forward, Back, Subst, Unfold, Law}
use Rattle.gb_meaning.specs.Names.{Name}
use Rattle.gb_eval.specs.Script.{body_named}
use Rattle.gb_meaning.specs.Declared.{Declarations}
use Rattle.gb_meaning.specs.Holds.{Holds}
use Rattle.gb_typing.specs.Context.{Context}
use Rattle.gb_typing.specs.Typing.{IsForm}
use Rattle.gb_amb.specs.Parts.{concluding}
use Rattle.gb_amb.specs.Quantified.{quantifies_modules, goal_quantifies_modules}
use Rattle.gb_rewrite.specs.Rewritten.{rewritten, stands}
use Rattle.gb_rewrite.specs.Events.{by_first, IsTypedLaw}
use Rattle.gb_rewrite.specs.Equations.{Pair, exchanged, equation_of, equivalence_of, used_up_of}
use Rattle.gb_rewrite.specs.Unfolded.{names, unfolded, programs_unfolded}

-- The goal with one term in place of another one in the conclusion. Behind a quantifier over modules this isn't built.
abbrev pub rewriting : Place → Sequent → Option Pair → Answer (List Sequent)
rewriting place q None = refused Shape place
rewriting place q (Some p) =
    if quantifies_modules q.conclusion then refused Shape place
    else if stands p.0 q.conclusion then given (concluding q (rewritten p.0 p.1 q.conclusion) ∷ []) else refused Shape place

-- the right side of a form that is known in place of its left side, and the left side in place of the right one
abbrev pub rewriting_by : Term → Place → Sequent → Answer (List Sequent)
rewriting_by f place q = rewriting place q (equivalence_of f)

abbrev pub rewriting_back : Term → Place → Sequent → Answer (List Sequent)
rewriting_back f place q = rewriting place q (option_map exchanged (equivalence_of f))

-- the hypotheses but the one at a place
abbrev pub others : ℕ → List Hyp → List Hyp
others i [] = []
others zero (h ∷ hs) = hs
others (suc i) (h ∷ hs) = h ∷ others i hs

abbrev pub hypothesis_rewritten : Pair → Hyp → Hyp
hypothesis_rewritten p h = record h { form = rewritten p.0 p.1 h.form }

-- the goal without a hypothesis, one term in place of another one everywhere
abbrev pub without : ℕ → Sequent → Pair → Sequent
without i q p = record q { hyps = map (hypothesis_rewritten p) (others i q.hyps); conclusion = rewritten p.0 p.1 q.conclusion }

-- Behind a quantifier over modules this isn't built.
abbrev pub using_up : ℕ → Place → Sequent → Option Pair → Answer (List Sequent)
using_up i place q None = refused Shape place
using_up i place q (Some p) =
    if goal_quantifies_modules q then refused Shape place else given (without i q p ∷ [])

-- a hypothesis is used up for a variable
abbrev pub using_up_hypothesis : ℕ → Place → Sequent → Option Hyp → Answer (List Sequent)
using_up_hypothesis i place q None = refused Shape place
using_up_hypothesis i place q (Some h) = using_up i place q (used_up_of (equation_of h.form))

abbrev pub substituting : ℕ → Place → Sequent → Answer (List Sequent)
substituting i place q = using_up_hypothesis i place q (slice_get q.hyps i)

-- a conclusion with an operator's body in place of each application of it, in its programs too
abbrev pub unfolded_everywhere : Name → Term → Term → Term
unfolded_everywhere x b f = programs_unfolded x b (unfolded x b f)

-- The goal with an operator's body in place of each application of it in the conclusion. Behind a quantifier over modules this isn't
-- built.
abbrev pub opening_by : Name → Place → Sequent → Option Term → Answer (List Sequent)
opening_by x place q None = refused Shape place
opening_by x place q (Some b) =
    if quantifies_modules q.conclusion then refused Shape place
    else if names x q.conclusion then given (concluding q (unfolded_everywhere x b q.conclusion) ∷ []) else refused Shape place

-- an operator of the script is unfolded
abbrev pub opening : scope.Declarations → Name → Place → Sequent → Answer (List Sequent)
opening ds x place q = opening_by x place q (body_named ds x)

-- the goal with this conclusion, if there is one
abbrev pub concluding_by : Place → Sequent → Option Term → Answer (List Sequent)
concluding_by place q None = refused Shape place
concluding_by place q (Some f) = given (concluding q f ∷ [])

-- The goal with what a law of events puts in the place of the first probability of the conclusion that it speaks of. Behind a quantifier
-- over modules this isn't built.
abbrev pub by_event_law : scope.Declarations → EventLaw → Place → Sequent → Answer (List Sequent)
by_event_law ds l place q =
    if quantifies_modules q.conclusion then refused Shape place else concluding_by place q (by_first ds l q.conclusion)

-- what a step at a place answers at a goal
abbrev pub rewrite_answer : scope.Declarations → RewriteRule → Place → Sequent → Answer (List Sequent)
rewrite_answer ds (Forward f) place q = rewriting_by f place q
rewrite_answer ds (Back f) place q = rewriting_back f place q
rewrite_answer ds (Subst i) place q = substituting i place q
rewrite_answer ds (Unfold x) place q = opening ds x place q
rewrite_answer ds (Law l) place q = by_event_law ds l place q

-- the form that a step uses is typed, and holds in place of the conclusion; the event of a law is typed
abbrev pub IsUsable : Declarations → Sequent → Context → RewriteRule → Type 0
IsUsable ds q c (Forward f) = IsForm c f × Holds ds (concluding q f)
IsUsable ds q c (Back f) = IsForm c f × Holds ds (concluding q f)
IsUsable ds q c (Subst i) = Unit {0}
IsUsable ds q c (Unfold x) = Unit {0}
IsUsable ds q c (Law l) = IsTypedLaw c l
