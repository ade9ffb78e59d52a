-- The statement is typed, and passes a limit or none.
use Rattle.std.proofs.Common.{◌≡◌, Bool, false, Option, Some, None, is_some, option_map, refl, ap, sym, subst, ◌∙◌}
use Rattle.std.specs.Prelude.{Err}
use Rattle.std.proofs.lemmas.Result.{err_from_is_err_and}
use Rattle.gb_goal.specs.Answers.{Gives}
use Rattle.gb_goal.specs.Answers.Answer.{given}
use Rattle.gb_goal.specs.Scope.{Declarations, declarations_in, entry_of}
use Rattle.gb_state.proofs.New.{lemma_is_new}
use Rattle.gb_state.specs.Opened.{is_new}
use Rattle.gb_state.specs.declared.state.Claim.TheVariants as claim
use Rattle.gb_elab_mod.specs.Lemmas.{binders_in}
use Rattle.gb_theory.specs.Built.{Session}
use Rattle.gb_theory.specs.Commands.{opens}
use Rattle.gb_state.specs.declared.state.OpenProof.{OpenProof}
use Rattle.gb_theory.specs.Sessions.{open_of, session_of}
use Rattle.gb_theory.specs.Limits.{declaration_limit, limited}
use Rattle.gb_theory.proofs.Declared.{opens_done, opens_fails}
use Rattle.gb_theory.proofs.fold.open_lemma.Goals as goal

not_open : (o : Option OpenProof) (b : Bool) → b ≡ is_some o → b ≡ false → option_map open_of o ≡ None
not_open None b is off = refl
not_open (Some p) b is off = absurd (cc)

pub returns-in_err-check_goal-clause-session : goal.returns-in_err-check_goal-clause-session
returns-in_err-check_goal-clause-session c =
    let none : option_map open_of c.args.state.now.proof ≡ None = not_open c.args.state.now.proof c.is_some.result c.is_some.ensures c.if-is_some.false in
    let given = err_from_is_err_and c.from_residual-in_err-check_goal.result c.from_residual-in_err-check_goal.ensures.1 in
    subst (Gives _ (opens (session_of c.args.state.now) c.args.tree.now c.args.name.now c.args.place)) (sym (given.1 ∙ ap Err given.2))
    (opens_fails (session_of c.args.state.now) c.args.tree.now c.args.name.now c.args.place c.in_ok-statement.statement c.in_err-check_goal.field-0.0 none
    c.in_ok-statement.ensures.answer
    (c.in_ok-check_declarations.ensures ∙ ap (λ ds. limited (declaration_limit (declarations_in ds)) c.args.place) c.in_ok-statement.ensures.kept)
    c.in_err-check_goal.ensures)

-- the open proof is that of a lemma whose names are new
pub invariant_of-state-2 : goal.invariant_of-state-2
invariant_of-state-2 c =
    let q = c.in_ok-statement.statement in
    let free = ap (entry_of c.args.state.now.scope) (sym c.requires) ∙ c.in_ok-statement.ensures.free in
    record {
      undeclared =
          ap (λ (p : OpenProof). is_new c.statement.new.scope p.claim) c.in_ok-proof.ensures
          ∙ ap (λ ds. is_new ds (claim.Lemma c.args.name.now q (binders_in c.args.tree.now))) c.in_ok-statement.ensures.kept
          ∙ lemma_is_new c.args.state.now.scope c.args.name.now q (binders_in c.args.tree.now) free c.in_ok-statement.ensures.new;
    }

pub returns-clause-session : goal.returns-clause-session
returns-clause-session c =
    let s = c.args.state.now in
    let none : option_map open_of s.proof ≡ None = not_open s.proof c.is_some.result c.is_some.ensures c.if-is_some.false in
    opens_done (session_of s) c.args.tree.now c.args.name.now c.args.place c.in_ok-statement.statement none
    c.in_ok-statement.ensures.answer
    (c.in_ok-check_declarations.ensures ∙ ap (λ ds. limited (declaration_limit (declarations_in ds)) c.args.place) c.in_ok-statement.ensures.kept)
    c.in_ok-check_goal.ensures
    ∙ ap (λ (p : OpenProof). given (let t : Session = record { scope = s.scope; proof = Some (open_of p); lemmas = s.lemmas } in t)) (sym c.in_ok-proof.ensures)
    ∙ ap (λ (ds : Declarations). given (let t : Session = record { scope = ds; proof = Some (open_of c.in_ok-proof.proof); lemmas = s.lemmas } in t)) (sym c.in_ok-statement.ensures.kept)
