-- What becomes of the goals becomes of the open proof.
use Rattle.std.proofs.Common.{◌++◌, drop, refl, sym}
use Rattle.gb_theory.specs.Sessions.{session_of}
use Rattle.gb_theory.proofs.InProofs.{works_or_fails, works}
use Rattle.gb_theory.proofs.fold.prove.Goals as goal

pub returns-in-Err-clause-session : goal.returns-in-Err-clause-session
returns-in-Err-clause-session c =
    let s = c.args.state.now in
    works_or_fails s c.in-Some.proof c.args.tree.now c.args.place (sym c.in-Some.ensures.value) c.in-Err.refused (c.in-Err.ensures.answer (session_of s) refl)

pub returns-in-Err-2-clause-session : goal.returns-in-Err-2-clause-session
returns-in-Err-2-clause-session c =
    let s = c.args.state.now in
    works_or_fails s c.in-Some.proof c.args.tree.now c.args.place (sym c.in-Some.ensures.value) c.in-Err.refused (c.in-Err.ensures.answer (session_of s) refl)

pub returns-in_ok-proof-in-Ok-clause-session : goal.returns-in_ok-proof-in-Ok-clause-session
returns-in_ok-proof-in-Ok-clause-session c =
    let s = c.args.state.now in
    let p = c.in-Some.proof in
    works s p c.args.tree.now c.args.place (sym c.in-Some.ensures.value) (c.in-Ok.next ++ drop 1 p.goals) c.left_of.new.scope c.in_ok-proof-in-Ok.proof
    c.in-Ok.ensures.kept c.in_ok-proof-in-Ok.ensures (c.in-Ok.ensures.answer (session_of s) refl)
