use Rattle.std.proofs.Common.{[], ◌∷◌, sym, subst, ◌∙◌}
use Rattle.std.specs.List.{Contains}
use Rattle.std.proofs.lemmas.Bool.{false≢true}
use Rattle.std.proofs.lemmas.Result.{on_ok_weaker}
use Rattle.gb_smt.specs.Atoms.{AreAdded}
use Rattle.gb_smt.proofs.Counting.{added_old, added_new}
use Rattle.gb_smt.proofs.atoms.add_new.Goals as goal

pub returns-then-is_among : goal.returns-then-is_among
returns-then-is_among c =
    added_old c.args.atoms.now c.args.atom (subst (λ l. Contains l c.args.atom) c.as_slice.ensures (c.is_among.ensures.0 c.if-is_among.true))

pub returns : goal.returns
returns c =
    let new : Contains c.args.atoms.now c.args.atom → ⊥ = λ k. false≢true (sym c.if-is_among.false ∙ c.is_among.ensures.1 (subst (λ l. Contains l c.args.atom) (sym c.as_slice.ensures) k)) in
    on_ok_weaker c.push.result (λ e. subst (λ l. AreAdded c.args.atoms.now (c.args.atom ∷ []) l) (sym e) (added_new c.args.atoms.now c.args.atom new)) c.push.ensures.ok
