-- The laws of events, and what they put in the place of a probability.
use Rattle.std.specs.Prelude.{zero, Bool, true, false, if◌then◌else◌, List, [], ◌∷◌, ◌++◌, Option, Some, None}
use Rattle.std.specs.Option.{option_map}
use Rattle.gb_core.specs.declared.ty.Ty.TheVariants as ty
use Rattle.gb_core.specs.declared.value.Value.TheVariants.{Num}
use Rattle.gb_terms.specs.declared.module.ProcRef.{ProcRef}
use Rattle.gb_terms.specs.declared.op.Op.TheVariants as op
use Rattle.gb_terms.specs.declared.op.Side.{Side}
use Rattle.gb_terms.specs.declared.term.Term.{Term, Term', Row_of-Term, end_of-Term, more_of-Term, end_of-Head, more_of-Head, out-Term}
use Rattle.gb_terms.specs.declared.term.Head.{Head}
use Rattle.gb_terms.specs.declared.term.Head.TheVariants.{Builtin, Lit, Pr}
use Rattle.gb_terms.specs.Make.{node, applied, truth_literal}
use Rattle.gb_goal.specs.Goal.Code.{procedure}
use Rattle.gb_goal.specs.Scope.{Declarations}
use Rattle.gb_steps.specs.declared.step.EventLaw.{EventLaw}
use Rattle.gb_steps.specs.declared.step.EventLaw.TheVariants as law
use Rattle.gb_steps.specs.Chances.{last, before_last}
use Rattle.gb_steps.specs.First.{is_quotient, or_else}
use Rattle.gb_meaning.specs.Commands.{terms_in}
use Rattle.gb_mods.specs.Called.{same_procedure}
use Rattle.gb_prog.specs.Compared.{zero as nought, one}
use Rattle.gb_typing.specs.Context.{Context, with_own}
use Rattle.gb_typing.specs.Context as context
use Rattle.gb_typing.specs.Forms.{and_form, not_form}
use Rattle.gb_typing.specs.Typing.{IsForm, after}
use Rattle.gb_full.specs.Loss.{Loss, nowhere, code_loss}

-- the probability of an event after a procedure, from a memory and with these arguments
abbrev pub chance : ProcRef → Side → List Term → Term → Term
chance p r bs e = node (Pr p r) (bs ++ e ∷ []) ty.Real

abbrev pub plus : Term → Term → Term
plus a b = applied op.Plus (a ∷ b ∷ []) ty.Real

abbrev pub minus : Term → Term → Term
minus a b = applied op.Minus (a ∷ b ∷ []) ty.Real

-- the events of a disjunction, and that of a negation
abbrev pub either_at : Head → List Term → Option (Term × Term)
either_at (Builtin op.Or) (e ∷ f ∷ []) = Some (e, f)
either_at h ts = None

abbrev pub either_of : Term → Option (Term × Term)
either_of e = either_at (out-Term e).head (out-Term e).args

abbrev pub negation_at : Head → List Term → Option Term
negation_at (Builtin op.Not) (e ∷ []) = Some e
negation_at h ts = None

abbrev pub negation_of : Term → Option Term
negation_of e = negation_at (out-Term e).head (out-Term e).args

abbrev pub is_false_at : Head → Bool
is_false_at (Lit (Num zero)) = true
is_false_at h = false

-- the event that never is
abbrev pub is_false : Term → Bool
is_false e = is_false_at (out-Term e).head

-- `Pr[e \/ f]` is `Pr[e] + Pr[f] - Pr[e /\ f]`
abbrev pub either : ProcRef → Side → List Term → Term × Term → Term
either p r bs (e, f) = minus (plus (chance p r bs e) (chance p r bs f)) (chance p r bs (and_form e f))

-- all that a procedure may come to: 1, where it loses no weight
abbrev pub whole_by : Loss → ProcRef → Side → List Term → Term
whole_by nowhere p r bs = one
whole_by l p r bs = chance p r bs (truth_literal true)

-- `Pr[!e]` is what `Pr[e]` leaves of it
abbrev pub negated : Declarations → ProcRef → Side → List Term → Term → Term
negated ds p r bs e = minus (whole_by (code_loss ds (procedure p)) p r bs) (chance p r bs e)

-- `Pr[e]` is `Pr[e /\ f] + Pr[e /\ !f]`
abbrev pub divided : ProcRef → Side → List Term → Term → Term → Term
divided p r bs e f = plus (chance p r bs (and_form e f)) (chance p r bs (and_form e (not_form f)))

-- what a law puts in the place of a probability, if it speaks of it
abbrev pub by_law : Declarations → EventLaw → ProcRef → Side → List Term → Term → Option Term
by_law ds law.Or p r bs e = option_map (either p r bs) (either_of e)
by_law ds law.Not p r bs e = option_map (negated ds p r bs) (negation_of e)
by_law ds law.False p r bs e = if is_false e then Some nought else None
by_law ds (law.Split q f) p r bs e = if same_procedure q p then Some (divided p r bs e f) else None

-- the same, by the head and the arguments of a term
abbrev pub law_at : Declarations → EventLaw → Head → List Term → Option Term
law_at ds l (Pr p r) (t ∷ ts) = by_law ds l p r (before_last t ts) (last t ts)
law_at ds l h ts = None

module _ (ds : Declarations) (l : EventLaw) where
  abbrev mutual
    -- A term with what a law puts in the place of the first probability that it speaks of, in the order of the text: one around others
    -- comes before them. None where it speaks of none. Divisors stay as they are, and so do the programs of judgments, which stand in heads.
    pub by_first : Term → Option Term
    by_first (Term' p (more_of-Head h end_of-Head) n ts ty) =
        or_else (law_at ds l h (terms_in ts)) (option_map (λ us. node h us ty) (parts_by_first (is_quotient h) ts))

    -- it is told whether the first one is divided by others
    pub parts_by_first : {n : _} → Bool → Row_of-Term n → Option (List Term)
    parts_by_first d end_of-Term = None
    parts_by_first true (more_of-Term t ts) = option_map (λ u. u ∷ terms_in ts) (by_first t)
    parts_by_first false (more_of-Term t ts) =
        or_else (option_map (λ u. u ∷ terms_in ts) (by_first t)) (option_map (λ us. t ∷ us) (parts_by_first false ts))

-- The same of lists.

abbrev pub first_by_law : Declarations → EventLaw → List Term → Option (List Term)
first_by_law ds l [] = None
first_by_law ds l (t ∷ ts) = option_map (λ u. u ∷ ts) (by_first ds l t)

abbrev pub any_by_law : Declarations → EventLaw → List Term → Option (List Term)
any_by_law ds l [] = None
any_by_law ds l (t ∷ ts) = or_else (option_map (λ u. u ∷ ts) (by_first ds l t)) (option_map (λ us. t ∷ us) (any_by_law ds l ts))

abbrev pub list_by_law : Declarations → EventLaw → Bool → List Term → Option (List Term)
list_by_law ds l true ts = first_by_law ds l ts
list_by_law ds l false ts = any_by_law ds l ts

-- the event of a law is typed after its procedure
abbrev pub IsTypedLaw : Context → EventLaw → Type 0
IsTypedLaw c (law.Split p f) = IsForm (with_own c (after (context.procedure c p))) f
IsTypedLaw c l = Unit {0}
