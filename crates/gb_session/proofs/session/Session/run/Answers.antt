-- What stood before a command is kept, and the command leads on.
use Rattle.std.proofs.Common.{◌∷◌, subst, ap, ◌∙◌, arith}
use Rattle.gb_core.specs.declared.refusal.Why.TheVariants.{TooMany}
use Rattle.gb_goal.specs.Answers.Answer.{refused}
use Rattle.gb_script.specs.Tree.{head_of, place_of}
use Rattle.gb_theory.specs.Sessions.{session_of, IsDue}
use Rattle.gb_theory.specs.Commands.{ComesTo}
use Rattle.gb_session.specs.Commands.{CommandLeads, enumerated}
use Rattle.gb_session.specs.Kept.{stage_of}
use Rattle.gb_session.proofs.Adds.{adds}
use Rattle.gb_session.proofs.Moved.{is_full, has_room, has_no_limit, next_kept, next_free, leads_on, due_by, kept_count, undeclared_then}
use Rattle.gb_session.proofs.Stages.{history, length_before}
use Rattle.gb_session.proofs.session.Session.run.Goals as goal
use Rattle.gb_session.proofs.session.Session.run.Goals.{else-self-via-then-self+else-len-ge-KEPT, else-self-via-else-self, then-not-self, else-not-self}

pub returns-then-len-ge-KEPT-clause-session : goal.returns-then-len-ge-KEPT-clause-session
returns-then-len-ge-KEPT-clause-session c =
    let i = c.self.inside in
    let size = length_before i.kept (stage_of i.state i.enumerations) in
    subst (λ h. CommandLeads h c.args.command.now (refused (TooMany 4096) (place_of c.args.command.now))) c.self.view_is
    (is_full (history i.file i.keeps (stage_of i.state i.enumerations) i.kept) c.args.command.now c.if-self.true (omega (arith, size, c.len.ensures, c.if-len-ge-KEPT.true)))

pub returns-after-not-self-clause-session : goal.returns-after-not-self-clause-session
returns-after-not-self-clause-session c =
    let i = c.self.inside in
    let s = stage_of i.state i.enumerations in
    let size = length_before i.kept s in
    let front = adds (session_of i.state) c.args.command.now (session_of c.execute.new.state) c.in-Ok.ensures.session in
    let more = c.in_ok-more.ensures ∙ ap (enumerated (head_of c.args.command.now)) c.as_slice.ensures in
    let kept = c.in_ok-push.ensures.ok ∙ ap (λ k. k ∷ i.kept) (kept_count i.state i.enumerations c.len-2.result c.in_ok-now.now c.len-2.ensures c.in_ok-now.ensures) in
    leads_on i.file i.keeps i.state c.execute.new.state i.enumerations c.append.new.self c.in_ok-more.more i.kept c.args.command.now c.args.self.now c.if-not-self.self c.self.view_is
    (elim c.else-self.branch [
      | else-self-via-then-self+else-len-ge-KEPT w ↦ has_room (history i.file i.keeps s i.kept) w.if-self.true (omega (arith, size, w.len.ensures, w.if-len-ge-KEPT.false))
      | else-self-via-else-self w ↦ has_no_limit (history i.file i.keeps s i.kept) w.if-self.false
    ])
    c.in-Ok.ensures.session more c.in_ok-append-in-Ok.ensures
    (elim c.if-not-self.branch [
      | then-not-self w ↦ next_free i.file i.keeps i.state c.execute.new.state i.enumerations c.append.new.self i.kept _ c.if-not-self.self w.if-not-self.true w.new.ensures w.self-is
      | else-not-self w ↦ next_kept i.file i.keeps i.state c.execute.new.state i.enumerations c.append.new.self c.in_ok-more.more i.kept c.push.new.self c.if-not-self.self w.if-not-self.false kept c.in_ok-append-in-Ok.ensures front w.self-is
    ])

pub invariant_of-self-in_err-append-in-Ok : goal.invariant_of-self-in_err-append-in-Ok
invariant_of-self-in_err-append-in-Ok c =
    let i = c.self.inside in
    let front = adds (session_of i.state) c.args.command.now (session_of c.execute.new.state) c.in-Ok.ensures.session in
    let kept = c.in_ok-push.ensures.ok ∙ ap (λ k. k ∷ i.kept) (kept_count i.state i.enumerations c.len-2.result c.in_ok-now.now c.len-2.ensures c.in_ok-now.ensures) in
    undeclared_then i.state c.execute.new.state i.enumerations i.kept c.push.new.self kept front.scope c.self.invariant

pub invariant_of-self-else-not-self : goal.invariant_of-self-else-not-self
invariant_of-self-else-not-self c =
    let i = c.self.inside in
    let front = adds (session_of i.state) c.args.command.now (session_of c.execute.new.state) c.in-Ok.ensures.session in
    let kept = c.in_ok-push.ensures.ok ∙ ap (λ k. k ∷ i.kept) (kept_count i.state i.enumerations c.len-2.result c.in_ok-now.now c.len-2.ensures c.in_ok-now.ensures) in
    undeclared_then i.state c.execute.new.state i.enumerations i.kept c.push.new.self kept front.scope c.self.invariant

pub returns-in-Err-clause-session : goal.returns-in-Err-clause-session
returns-in-Err-clause-session c =
    let i = c.self.inside in
    let s = stage_of i.state i.enumerations in
    let size = length_before i.kept s in
    due_by i.file i.keeps i.state i.enumerations i.kept c.args.command.now c.args.self.now c.in-Err.refused c.self.view_is
    (elim c.else-self.branch [
      | else-self-via-then-self+else-len-ge-KEPT w ↦ has_room (history i.file i.keeps s i.kept) w.if-self.true (omega (arith, size, w.len.ensures, w.if-len-ge-KEPT.false))
      | else-self-via-else-self w ↦ has_no_limit (history i.file i.keeps s i.kept) w.if-self.false
    ])
    c.in-Err.ensures.session
