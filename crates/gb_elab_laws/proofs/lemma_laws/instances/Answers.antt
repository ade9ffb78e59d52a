use Rattle.gb_elab_laws.proofs.lemma_laws.instances.Goals as goal

pub returns : goal.returns
returns c = λ ds es scoped firm speaks unblank q typed p holds ks modules place r e.
    let s = p.speaks in
    c.instances.ensures ds es scoped firm speaks unblank q typed (record { hyps = p.hyps; bodies = p.bodies; front = p.front; logical = s.logical; conclusion = s.conclusion }) holds ks modules place r e
