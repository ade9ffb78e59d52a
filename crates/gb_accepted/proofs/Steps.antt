-- Steps of a proof keep sessions good.
use Rattle.std.proofs.Common.{◌≡◌, List, [], ◌∷◌, ◌++◌, sym, ◌∙◌, subst}
use Rattle.std.specs.List.{AllByRecursion}
use Rattle.gb_core.specs.declared.place.Place.{Place}
use Rattle.gb_terms.specs.declared.module.Bind.{Bind}
use Rattle.gb_goal.specs.declared.sequent.Sequent.{Sequent}
use Rattle.gb_script.specs.declared.tree.Node.{Node}
use Rattle.gb_meaning.specs.Declared.{declared}
use Rattle.gb_meaning.specs.Holds.{Holds}
use Rattle.gb_prog.specs.Ends.{SequentEnds}
use Rattle.gb_goal.specs.Answers.{Answer, ◌>>=◌}
use Rattle.gb_goal.specs.Answers.Answer.{given}
use Rattle.gb_goal.specs.Scope.{Declarations}
use Rattle.gb_steps.specs.declared.step.Step.{Step}
use Rattle.gb_elab_mod.specs.Steps.{step_given}
use Rattle.gb_elab_laws.proofs.Given.{given_bind, given_is}
use Rattle.gb_state.specs.Opened.{modules_of}
use Rattle.gb_theory.specs.Built.{Session, OpenProof}
use Rattle.gb_theory.specs.Limits.{each_limit, all_limit}
use Rattle.gb_theory.specs.Combinators.{done_at, works}
use Rattle.gb_theory.specs.Commands.{within, Applied, allowed, RuleAnswers, continued, WorksOn}
use Rattle.gb_accepted.proofs.Given.{nothing_given, given_after}
use Rattle.gb_accepted.proofs.Claims.{claim_continues, claim_scope, claim_unblank}
use Rattle.gb_accepted.proofs.Good.{IsGoodClaim, IsGood}
use Rattle.gb_accepted.proofs.Kept.{IsSeen, each_kept}
use Rattle.gb_accepted.proofs.Grounds.{IsGoalThatEnds, IsTypedGoalOf, Grounds, seen}
use Rattle.gb_accepted.proofs.SameModules.{HaveSameModules}
use Rattle.gb_accepted.proofs.StepModules.{applied_same}
use Rattle.gb_accepted.proofs.Subgoals.{applied_lead}
use Rattle.gb_accepted.proofs.Tactics.{Lead, any_node, tactic_keeps}

-- goals that lead to goals over what is declared
abbrev LeadIn : Declarations → List Sequent → List Sequent → Type 0
LeadIn ds = Lead (IsGoalThatEnds ds) (Holds (declared ds))

-- typed goals over the modules of a goal that is over none, the loops of whose bodies end
each_ends : (ds : Declarations) (q : Sequent) → q.modules ≡ [] → (qs : List Sequent) → AllByRecursion (IsTypedGoalOf ds) qs → HaveSameModules q qs → AllByRecursion (SequentEnds (declared ds)) qs → AllByRecursion (IsGoalThatEnds ds) qs
each_ends ds q alone [] w k h = tt
each_ends ds q alone (p ∷ qs) w k h = (record { typed = w.0; alone = k.0 ∙ alone; ends = h.0 }, each_ends ds q alone qs w.1 k.1 h.1)

-- A rule of a text leads from a goal to its subgoals, over what the steps of a proof see.
pub rule_leads : Grounds → (ds : Declarations) (bs : List Bind) → IsSeen ds bs → (t : Node) (q : Sequent) → IsGoalThatEnds (seen ds bs) q → (rs : List Sequent) → RuleAnswers (seen ds bs) t q (given rs) →
    LeadIn (seen ds bs) (q ∷ []) rs
rule_leads o before bs w t q goal rs h =
    let ds = seen before bs in
    let scoped = w.typed in
    let typed = goal.typed in
    let alone = goal.alone in
    let a = given_after (step_given ds q t) (λ (step : Step) (x : Answer (List Sequent)). (y : Answer (List Sequent)) × Applied ds step.rule step.place q y × (x ≡ (y >>= allowed step.place))) rs h in
    let b = given_bind a.2.0 (allowed a.0.place) rs (sym a.2.2) in
    let c = given_bind (within (each_limit b.0) a.0.place) (λ _. given b.0) rs b.2 in
    let applied : Applied ds a.0.rule a.0.place q (given b.0) = subst (Applied ds a.0.rule a.0.place q) b.1 a.2.1 in
    let k =
    applied_lead o ds scoped q typed (o.loops.entered before bs scoped w.firm w.sound w.speaks q typed alone) (o.loops.proved before bs scoped w.firm w.sound w.speaks q typed alone) a.0.rule a.0.place b.0
    (λ ls rs v. (o.typing.body_rule ds scoped q typed t a.0 a.1 ls rs v, o.typing.rule ds scoped q typed t a.0 a.1 ls rs v, o.typing.call_rule ds scoped q typed t a.0 a.1 ls rs v, o.typing.probabilities_typed ds scoped q typed t a.0 a.1 ls rs v, λ r e. o.typing.abstract_rule ds scoped q typed t a.0 a.1 r e ls rs))
    (o.typing.conclusion ds scoped q typed t a.0 a.1) (o.typing.used ds scoped w.stated q typed alone t a.0 a.1) (o.typing.hints ds scoped w.stated q typed alone t a.0 a.1)
    (o.typing.events ds scoped q typed t a.0 a.1) applied in
    subst (LeadIn ds (q ∷ [])) (given_is b.0 rs c.2) (record { typed = each_ends ds q alone b.0 k.typed (applied_same q ds a.0.rule a.0.place b.0 applied) (k.ends goal.ends); leads = λ h. (k.leads goal.ends h, tt) })

-- the proof goes on with other goals
continued_keeps : (s : Session) (p : OpenProof) (rest qs : List Sequent) (place : Place) (next : Session) → IsGood s → IsGoodClaim s.scope p.claim (qs ++ rest) →
    continued s p rest place qs ≡ given next → IsGood next
continued_keeps s p rest qs place next g h e =
    let b = given_bind (within (all_limit (qs ++ rest)) place) _ next e in
    subst IsGood (given_is _ _ b.2) (record {
      typed = g.typed;
      firm = g.firm;
      sound = g.sound;
      lemmas = record { names = g.lemmas.names; proved = g.lemmas.proved };
      speaks = g.speaks;
      statements = g.statements;
      unblank = g.unblank;
      proof = h;
    })

pub works_keep : Grounds → (gs : List Sequent) (s : Session) (p : OpenProof) (t : Node) (place : Place) (next : Session) → IsGood s → IsGoodClaim s.scope p.claim gs →
    WorksOn gs s p t place (given next) → IsGood next
works_keep o [] s p t place next g h w = nothing_given _ _ next (sym w)
works_keep o (q ∷ rest) s p t place next g h w =
    let k = claim_continues o s.scope g.typed g.firm p.claim q rest h in
    let bs = modules_of p.claim in
    let ds = seen s.scope bs in
    let b = given_bind (works ds w.0 t (q ∷ [])) (continued s p rest place) next (sym w.2) in
    let known = each_kept o bs s g (claim_unblank s.scope p.claim (q ∷ rest) h) (claim_scope s g p.claim (q ∷ rest) h) in
    let lead = tactic_keeps (IsGoalThatEnds ds) (Holds (declared ds)) ds (λ n. Unit {0}) w.0 (λ n k r rs good e. rule_leads o s.scope bs known n r good rs (subst (RuleAnswers ds n r) e (w.1 n r))) (λ place. any_node (done_at place)) t (any_node t) (q ∷ []) b.0 (k.goal, tt) b.1 in
    continued_keeps s p rest b.0 place next g (k.next b.0 lead) b.2
