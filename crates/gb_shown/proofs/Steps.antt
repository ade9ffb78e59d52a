-- Steps of a proof lead to named goals.
use Rattle.std.proofs.Common.{◌≡◌, List, [], ◌∷◌, ◌++◌, codes, ap, sym, ◌∙◌, subst}
use Rattle.std.specs.List.{AllByRecursion}
use Rattle.gb_core.specs.declared.place.Place.{Place}
use Rattle.gb_terms.specs.declared.module.Bind.{Bind}
use Rattle.gb_goal.specs.declared.sequent.Sequent.{Sequent}
use Rattle.gb_script.specs.declared.head.Head.TheVariants as head
use Rattle.gb_script.specs.declared.tree.Node.{Node, Node-F, out-Node, out-roll-Node}
use Rattle.gb_script.specs.Each.{EachOf}
use Rattle.gb_script.specs.Each.Each.{each}
use Rattle.gb_script.specs.Each.EachOf.{none}
use Rattle.gb_goal.specs.Answers.{Answer, ◌>>=◌}
use Rattle.gb_goal.specs.Answers.Answer.{given}
use Rattle.gb_goal.specs.Scope.{Declarations}
use Rattle.gb_steps.specs.declared.step.Step.{Step}
use Rattle.gb_elab_mod.specs.Steps.{step_given}
use Rattle.gb_elab_laws.proofs.Given.{given_bind, given_is}
use Rattle.gb_print_names.specs.declared.bound_names.Enumeration.{Enumeration}
use Rattle.gb_shown.proofs.Sequents.{all_append}
use Rattle.gb_shown.specs.Named.{IsNamedSequent}
use Rattle.gb_shown.specs.Scopes.{IsNamedScope}
use Rattle.gb_shown.specs.Trees.{HasItsParts}
use Rattle.gb_shown.specs.Words.{HasItsNames, IsReadNode, IsReadTree}
use Rattle.gb_state.specs.Opened.{modules_of}
use Rattle.gb_theory.specs.Built.{Session, OpenProof}
use Rattle.gb_theory.specs.Limits.{each_limit, all_limit}
use Rattle.gb_theory.specs.Combinators.{done_at, works}
use Rattle.gb_theory.specs.Commands.{within, Applied, allowed, RuleAnswers, continued, WorksOn}
use Rattle.gb_accepted.proofs.Claims.{claim_continues, claim_scope, claim_unblank}
use Rattle.gb_accepted.proofs.Given.{nothing_given, given_after}
use Rattle.gb_accepted.proofs.Good.{IsGoodClaim, IsGood}
use Rattle.gb_accepted.proofs.Grounds.{IsGoalThatEnds, Grounds, seen}
use Rattle.gb_accepted.proofs.Kept.{IsSeen, each_kept}
use Rattle.gb_accepted.proofs.Steps.{rule_leads}
use Rattle.gb_accepted.proofs.Tactics.{Lead, tactic_keeps}
use Rattle.gb_shown.proofs.Grounds.{Names}
use Rattle.gb_shown.proofs.Settings.{seen_named}
use Rattle.gb_shown.proofs.Stages.{IsNamedClaim, IsNamedSession, claim_modules}

-- a goal that rules may work on, in which names are names
pub record IsWorked (es : List Enumeration) (ds : Declarations) (q : Sequent) : Type 0 where
  pub goal : IsGoalThatEnds ds q
  pub named : IsNamedSequent es q

-- nothing is claimed of goals
abbrev Any : Sequent → Type 0
Any q = Unit {0}

each_any : (qs : List Sequent) → AllByRecursion Any qs
each_any [] = tt
each_any (q ∷ qs) = (tt, each_any qs)

each_worked : (es : List Enumeration) (ds : Declarations) (qs : List Sequent) → AllByRecursion (IsGoalThatEnds ds) qs → AllByRecursion (IsNamedSequent es) qs → AllByRecursion (IsWorked es ds) qs
each_worked es ds [] w n = tt
each_worked es ds (q ∷ qs) w n = (record { goal = w.0; named = n.0 }, each_worked es ds qs w.1 n.1)

each_named : (es : List Enumeration) (ds : Declarations) (qs : List Sequent) → AllByRecursion (IsWorked es ds) qs → AllByRecursion (IsNamedSequent es) qs
each_named es ds [] w = tt
each_named es ds (q ∷ qs) w = (let k = w.0 in k.named, each_named es ds qs w.1)

-- `done`, as it is written, names nothing
done_read : (place : Place) → IsReadTree (done_at place)
done_read place =
    let layer : Node-F Node = record { head = head.PlainStep; text = codes "done"; parts = []; place = place } in
    let fields : out-Node (done_at place) ≡ layer = out-roll-Node layer in
    let k = subst (λ (l : Node-F Node). HasItsNames l.head l.parts × HasItsParts l.head l.parts) (sym fields) (tt, tt) in
    each
    (record {
      name = λ e. absurd (plain_is_no_name (sym (ap (λ (l : Node-F Node). l.head) fields) ∙ e));
      names = k.0;
      full = k.1;
    })
    (subst (EachOf IsReadNode) (sym (ap (λ (l : Node-F Node). l.parts) fields)) none)
  where
    plain_is_no_name : head.PlainStep ≡ head.Name → ⊥
    plain_is_no_name e = cc

module _ (o : Grounds) (names : Names) (es : List Enumeration) (s : Session) (g : IsGood s) (scope : IsNamedScope es s.scope) where
  -- over what the steps of a proof see
  rule_keeps : (bs : List Bind) → IsSeen s.scope bs → IsNamedScope es (seen s.scope bs) → (t : Node) → IsReadTree t → (q : Sequent) → IsWorked es (seen s.scope bs) q → (rs : List Sequent) →
      RuleAnswers (seen s.scope bs) t q (given rs) → Lead (IsWorked es (seen s.scope bs)) Any (q ∷ []) rs
  rule_keeps bs known all t read q w rs h =
      let ds = seen s.scope bs in
      let a = given_after (step_given ds q t) (λ (step : Step) (x : Answer (List Sequent)). (y : Answer (List Sequent)) × Applied ds step.rule step.place q y × (x ≡ (y >>= allowed step.place))) rs h in
      let b = given_bind a.2.0 (allowed a.0.place) rs (sym a.2.2) in
      let c = given_bind (within (each_limit b.0) a.0.place) (λ _. given b.0) rs b.2 in
      let applied : Applied ds a.0.rule a.0.place q (given b.0) = subst (Applied ds a.0.rule a.0.place q) b.1 a.2.1 in
      let given_named = names.scripts.steps es ds known.typed all q w.goal.typed w.named t read a.0 a.1 in
      let named = names.goals.rules es ds known.typed all q w.goal.typed w.named a.0.rule given_named a.0.place b.0 applied in
      let k = rule_leads o s.scope bs known t q w.goal rs h in
      record { typed = each_worked es ds rs k.typed (subst (AllByRecursion (IsNamedSequent es)) (given_is b.0 rs c.2) named); leads = λ _. (tt, tt) }

  -- the proof goes on with other goals
  continued_named : (p : OpenProof) (rest qs : List Sequent) (place : Place) (next : Session) → IsNamedSession es s → IsNamedClaim es p.claim → AllByRecursion (IsNamedSequent es) (qs ++ rest) →
      continued s p rest place qs ≡ given next → IsNamedSession es next
  continued_named p rest qs place next k c n e =
      let b = given_bind (within (all_limit (qs ++ rest)) place) _ next e in
      subst (IsNamedSession es) (given_is _ _ b.2) (record { scope = k.scope; listed = k.listed; proof = (c, n) })

  pub works_named : (gs : List Sequent) (p : OpenProof) (t : Node) → IsReadTree t → (place : Place) (next : Session) → IsNamedSession es s → IsGoodClaim s.scope p.claim gs → IsNamedClaim es p.claim →
      AllByRecursion (IsNamedSequent es) gs → WorksOn gs s p t place (given next) → IsNamedSession es next
  works_named [] p t read place next k h c n w = nothing_given _ _ next (sym w)
  works_named (q ∷ rest) p t read place next k h c n w =
      let first = claim_continues o s.scope g.typed g.firm p.claim q rest h in
      let bs = modules_of p.claim in
      let ds = seen s.scope bs in
      let b = given_bind (works ds w.0 t (q ∷ [])) (continued s p rest place) next (sym w.2) in
      let known = each_kept o bs s g (claim_unblank s.scope p.claim (q ∷ rest) h) (claim_scope s g p.claim (q ∷ rest) h) in
      let all = seen_named es s.scope scope bs (claim_modules es p.claim c) in
      let lead =
      tactic_keeps (IsWorked es ds) Any ds IsReadNode w.0 (λ m r u rs good e. rule_keeps bs known all m r u good rs (subst (RuleAnswers ds m u) e (w.1 m u)))
      done_read t read (q ∷ []) b.0 (record { goal = first.goal; named = n.0 }, tt) b.1 in
      continued_named p rest b.0 place next k c (all_append (IsNamedSequent es) b.0 rest (each_named es ds b.0 lead.typed) n.1) b.2
