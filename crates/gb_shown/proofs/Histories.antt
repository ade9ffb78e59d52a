-- Lines lead from named sessions to named sessions, and taking commands back does.
use Rattle.std.proofs.Common.{◌≡◌, ℕ, zero, suc, Bool, true, false, if◌then◌else◌, List, [], ◌∷◌, ◌++◌, append-nil, Option, Some, None, ap, sym, ◌∙◌, subst}
use Rattle.std.specs.List.{AllByRecursion}
use Rattle.gb_core.specs.declared.place.Place.{Place}
use Rattle.gb_goal.specs.Answers.Answer.{given}
use Rattle.gb_goal.specs.Binders.{binder_entries, with_declared_modules}
use Rattle.gb_goal.specs.Scope.{Declarations}
use Rattle.gb_goal.specs.declared.sequent.Sequent.{Sequent}
use Rattle.gb_script.specs.declared.tree.Node.{Node}
use Rattle.gb_script.specs.Each.{Each}
use Rattle.gb_print.specs.Blank.{IsUnblank}
use Rattle.gb_script.specs.Tree.{head_of, parts_of, place_of}
use Rattle.gb_elab_laws.proofs.Given.{given_bind, given_is}
use Rattle.gb_typing.proofs.DeclaredModules.{goal_bound, goal_declared}
use Rattle.gb_shown.specs.Named.{IsNamedSequent}
use Rattle.gb_shown.specs.Words.{IsReadTree}
use Rattle.gb_state.specs.declared.state.Claim.{Claim}
use Rattle.gb_state.specs.Opened.{in_context}
use Rattle.gb_theory.specs.Built.{Session, OpenProof, seen_in}
use Rattle.gb_theory.specs.Commands.{ComesTo, within}
use Rattle.gb_theory.specs.Outcome.{IsReadAs}
use Rattle.gb_session.specs.Commands.{CommandLeads, EntryLeads, LeadsOn, LineLeads, LineLeadsBy, TextLeads, kept_limit, stage_after, taken_by}
use Rattle.gb_session.specs.History.{Stage, History, back_to, moved_on, undone}
use Rattle.gb_accepted.proofs.Claims.{claim_continues, claim_scope}
use Rattle.gb_accepted.proofs.Given.{given_after}
use Rattle.gb_accepted.proofs.Good.{IsGoodClaim, IsGoodIfOpen}
use Rattle.gb_accepted.proofs.Grounds.{Grounds, IsTyped, IsTypedGoalOf}
use Rattle.gb_accepted.proofs.Runs.{command_keeps, read_unblank}
use Rattle.gb_shown.specs.Shown.{IsFirstReadBack, IsReached, IsReadBack, IsReadBackIn}
use Rattle.gb_shown.specs.Shown.IsReached.{begun, entered, run}
use Rattle.gb_shown.proofs.Commands.{command_named}
use Rattle.gb_shown.proofs.Grounds.{Names}
use Rattle.gb_shown.proofs.Stages.{IsNamedClaim, IsNamedProof, IsNamedStage, fresh_is_named, shown_named}

-- what stands now, and what stood before each command that is kept
pub record IsNamedHistory (h : History) : Type 0 where
  pub present : IsNamedStage h.present
  pub earlier : AllByRecursion IsNamedStage h.earlier

earlier_named : (b : Bool) (s : Stage) (before : List Stage) → IsNamedStage s → AllByRecursion IsNamedStage before → AllByRecursion IsNamedStage (if b then s ∷ before else [])
earlier_named true s before k h = (k, h)
earlier_named false s before k h = tt

moved_named : (h : History) (next : Stage) → IsNamedHistory h → IsNamedStage next → IsNamedHistory (moved_on h next)
moved_named h next k n = record { present = n; earlier = earlier_named h.keeps h.present h.earlier k.present k.earlier }

back_named : (before : List Stage) (h : History) → IsNamedHistory h → AllByRecursion IsNamedStage before → IsNamedHistory (back_to before h)
back_named [] h k n = k
back_named (s ∷ before) h k n = record { present = n.0; earlier = n.1 }

undone_named : (n : ℕ) (h : History) → IsNamedHistory h → IsNamedHistory (undone n h)
undone_named zero h k = k
undone_named (suc n) h k = undone_named n (back_to h.earlier h) (back_named h.earlier h k k.earlier)

-- a goal without modules is typed so
typed_alone : (ds : Declarations) (q : Sequent) → IsTypedGoalOf ds q → q.modules ≡ [] → IsTypedGoalOf ds (with_declared_modules q)
typed_alone ds q t alone = subst (λ es. IsTypedGoalOf es (with_declared_modules q)) (ap (λ ms. ds ++ binder_entries ms) alone ∙ append-nil ds) (goal_declared ds q t)

-- a goal that the steps of a proof see is typed with the modules of the claim in its context
typed_in_context : (ds : Declarations) (c : Claim) → IsTyped (seen_in ds c) → (q : Sequent) → IsTypedGoalOf (seen_in ds c) q → q.modules ≡ [] → IsTypedGoalOf ds (in_context c q)
typed_in_context ds c scoped q t alone = goal_bound ds (in_context c q) scoped (typed_alone (seen_in ds c) q t alone)

module _ (o : Grounds) (names : Names) where
  after_named : (s : Stage) → IsNamedStage s → (c : Node) → IsReadTree c → Each IsUnblank c → (next : Session) → ComesTo s.session c (given next) → IsNamedStage (stage_after s c next)
  after_named s k c read u next e = record { good = command_keeps o s.session c next k.good u e; named = command_named o names s.enumerations s.session k.good k.named c read next e }

  command_leads : (h : History) → IsNamedHistory h → (c : Node) → IsReadTree c → Each IsUnblank c → (next : History) → CommandLeads h c (given next) → IsNamedHistory next
  command_leads h k c read u next e =
      let a = given_after (within (kept_limit h) (place_of c)) (λ _. LeadsOn h c) next e in
      let x = a.2 in
      let b = given_bind x.0 (λ s. given (moved_on h (stage_after h.present c s))) next (sym x.2) in
      subst IsNamedHistory (given_is _ next b.2) (moved_named h (stage_after h.present c b.0) k (after_named h.present k.present c read u b.0 (subst (ComesTo h.present.session c) b.1 x.1)))

  line_by : (n : Option ℕ) (h : History) → IsNamedHistory h → (c : Node) → IsReadTree c → Each IsUnblank c → (next : History) → LineLeadsBy n h c (given next) → IsNamedHistory next
  line_by (Some n) h k c read u next e = subst IsNamedHistory (sym (given_is _ _ e)) (undone_named n h k)
  line_by None h k c read u next e = command_leads h k c read u next e

  -- what a text is read as leads on
  entry_leads : (h : History) → IsNamedHistory h → (text : List ℕ) (at : Place) (next : History) → EntryLeads h text at (given next) → IsNamedHistory next
  entry_leads h k text at next e =
      let a = given_after e.0 (LineLeads h) next e.2 in
      line_by (taken_by (head_of a.0) (parts_of a.0)) h k a.0 (names.scripts.read text at a.0 (subst (IsReadAs text at) a.1 e.1))
      (read_unblank o text at a.0 (subst (IsReadAs text at) a.1 e.1)) next a.2

  text_leads : (h : History) → IsNamedHistory h → (text : List ℕ) (at : Place) (next : History) → TextLeads h text at (given next) → IsNamedHistory next
  text_leads h k text at next e =
      let a = given_after e.0 (CommandLeads h) next e.2 in command_leads h k a.0 (names.scripts.read text at a.0 (subst (IsReadAs text at) a.1 e.1))
      (read_unblank o text at a.0 (subst (IsReadAs text at) a.1 e.1)) next a.2

  pub reached_named : {h : History} → IsReached h → IsNamedHistory h
  reached_named (begun file keeps) = record { present = fresh_is_named; earlier = tt }
  reached_named (entered {h = h} {next = next} text at r e) = entry_leads h (reached_named r) text at next e
  reached_named (run {h = h} {next = next} text at r e) = text_leads h (reached_named r) text at next e

  first_read : (s : Stage) → IsNamedStage s → (c : Claim) (qs : List Sequent) → IsGoodClaim s.session.scope c qs → IsNamedClaim s.enumerations c → AllByRecursion (IsNamedSequent s.enumerations) qs → IsFirstReadBack s c qs
  first_read s k c [] g l n = tt
  first_read s k c (q ∷ qs) g l n =
      let good = k.good in
      let first = claim_continues o s.session.scope good.typed good.firm c q qs g in
      let goal = first.goal in
      let typed = typed_in_context s.session.scope c (claim_scope s.session good c (q ∷ qs) g) q goal.typed goal.alone in
      names.goals.printed s.session.scope s.enumerations (in_context c q) typed (shown_named s.enumerations c q l n.0)

  proof_read : (s : Stage) → IsNamedStage s → (p : Option OpenProof) → IsGoodIfOpen s.session.scope p → IsNamedProof s.enumerations p → IsReadBackIn s p
  proof_read s k None g n = tt
  proof_read s k (Some p) g n = first_read s k p.claim p.goals g n.0 n.1

  -- The goal that a session shows, wherever its lines have led to, is read back as it is.
  pub shown_are_read : (h : History) → IsReached h → IsReadBack h.present
  shown_are_read h r =
      let k = reached_named r in
      let now = k.present in
      let good = now.good in
      let n = now.named in
      proof_read h.present now h.present.session.proof good.proof n.proof
