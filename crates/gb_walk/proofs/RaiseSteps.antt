-- Raising a tree raises its parts.
use Rattle.std.proofs.Common.{◌≡◌, ℕ, ◌≤◌, List, length, map, Option, Some, None, option_map, unwrap_or, refl, sym, ap, ◌∙◌}
use Rattle.gb_core.specs.declared.var.Var.{Var}
use Rattle.gb_terms.specs.declared.module.ProcRef.{ProcRef}
use Rattle.gb_terms.specs.declared.term.Term.{Term}
use Rattle.gb_terms.specs.declared.term.Head.{Head}
use Rattle.gb_terms.specs.declared.term.Subject.{Subject}
use Rattle.gb_terms.specs.declared.term.Instr.{Instr, roll-Instr}
use Rattle.gb_terms.specs.declared.term.Cmd.{Cmd, roll-Cmd}
use Rattle.gb_terms.specs.declared.term.Head.TheOpen as layer
use Rattle.gb_terms.specs.declared.term.Head.TheVariants.{Call}
use Rattle.gb_terms.specs.declared.term.Head.TheFolds.{fold_out-Cmd, fold-roll-Instr}
use Rattle.gb_walk.specs.Layers.{seen_by}
use Rattle.gb_walk.specs.Rebuild.{caught_up}
use Rattle.gb_walk.specs.Raise.{at_head, at_instr, at_subject, at_cmd, at_term, term_raised, instr_raised, cmd_raised}
use Rattle.gb_walk.proofs.Lists.{applied_map, seen_by_same}
use Rattle.gb_walk.proofs.MadeLists.{MadeAll, all_done}

pub cmd_raised_list : (c : Cmd) (k : ℕ) → cmd_raised c k ≡ roll-Cmd (record { list = map (λ i. instr_raised i k) c.list })
cmd_raised_list c k =
    ap (λ f. f k) (fold_out-Cmd (ℕ → Head) (ℕ → Instr) (ℕ → Subject) (ℕ → Cmd) (ℕ → Term) at_head at_instr at_subject at_cmd at_term c)
    ∙ ap (λ l. roll-Cmd (record { list = l })) (applied_map instr_raised k c.list)

-- a body whose statements were all looked at
pub cmd_raised_made : (c : Cmd) (k : ℕ) (xs : List Instr) (i : ℕ) (out : List Instr) → xs ≡ c.list → MadeAll instr_raised k xs i out → length xs ≤ i →
    roll-Cmd (record { list = caught_up out c.list }) ≡ cmd_raised c k
cmd_raised_made c k xs i out e h end =
    ap (λ l. roll-Cmd (record { list = caught_up out l })) (sym e)
    ∙ ap (λ l. roll-Cmd (record { list = l })) (all_done instr_raised k xs i out h end ∙ ap (map (λ x. instr_raised x k)) e)
    ∙ sym (cmd_raised_list c k)

pub instr_raised_call : (xs : List Var) (p : ProcRef) (ts : List Term) (k : ℕ) → instr_raised (Call xs p ts) k ≡ Call xs p (map (λ t. term_raised t k) ts)
unfolding Rattle.gb_terms.specs.declared.term.Head.TheViews.roll-Instr denote.Hole.Carrier.roll
instr_raised_call xs p ts k =
    ap (λ f. f k) (fold-roll-Instr (ℕ → Head) (ℕ → Instr) (ℕ → Subject) (ℕ → Cmd) (ℕ → Term) at_head at_instr at_subject at_cmd at_term (layer.Call xs p ts))
    ∙ ap (λ l. roll-Instr (layer.Call xs p l)) (applied_map term_raised k ts)

-- a call with the arguments that were made
pub call_raised_made : (call : Instr) (xs : List Var) (p : ProcRef) (ts us : List Term) (k : ℕ) (made : Option (List Term)) → call ≡ Call xs p ts → us ≡ ts →
    unwrap_or made us ≡ seen_by k k (map term_raised us) → unwrap_or (option_map (Call xs p) made) call ≡ instr_raised call k
call_raised_made call xs p ts us k made is same e =
    ap (unwrap_or (option_map (Call xs p) made)) (is ∙ ap (Call xs p) (sym same))
    ∙ kept made
    ∙ ap (Call xs p) (e ∙ seen_by_same term_raised k us)
    ∙ sym (instr_raised_call xs p us k)
    ∙ ap (λ i. instr_raised i k) (ap (Call xs p) same ∙ sym is)
  where
    kept : (o : Option (List Term)) → unwrap_or (option_map (Call xs p) o) (Call xs p us) ≡ Call xs p (unwrap_or o us)
    kept None = refl
    kept (Some vs) = refl
