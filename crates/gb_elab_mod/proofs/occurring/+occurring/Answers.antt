use Rattle.std.proofs.Common.{◌≡◌, None, flat_map, rules, ap, subst, ◌∙◌}
use Rattle.gb_terms.specs.declared.term.Term.{out-Term}
use Rattle.gb_elab_mod.specs.Occurring.{or_args, read_locals}
use Rattle.gb_elab_mod.proofs.Found.{head_locals, others, read_locals_out, with_more}
use Rattle.gb_elab_mod.proofs.occurring.+occurring.Goals as goal

pub in_term-returns-in_default : goal.in_term-returns-in_default
in_term-returns-in_default t c =
    let h = c.in_default in
    let n : head_locals (out-Term c.args.t.now).head c.args.side (out-Term c.args.t.now).ty ≡ None =
    subst (λ z. head_locals z c.args.side (out-Term c.args.t.now).ty ≡ None) c.get.ensures
    (others c.get.result.now c.args.side (out-Term c.args.t.now).ty h.not-Read h.not-Pr h.not-Hoare h.not-Phoare h.not-Equiv) in
    let e = read_locals_out c.args.t.now c.args.side ∙ ap (λ o. or_args o (flat_map (λ u. read_locals u c.args.side) (out-Term c.args.t.now).args)) n in
    search (rules, e)

pub in_terms-loop-t-preserved : goal.in_terms-loop-t-preserved
in_terms-loop-t-preserved t c =
    let e = with_more (λ u. read_locals u c.args.side) c.loop-t.found c.args.list.now c.loop-t.t-index c.t-item.result c.loop-t-test.true c.t-item.is in search (rules, e)
