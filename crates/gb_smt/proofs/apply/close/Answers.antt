use Rattle.std.proofs.Common.{rules, ◌≡◌, sym, ◌∙◌, subst}
use Rattle.std.proofs.lemmas.Bool.{false≢true}
use Rattle.gb_smt.specs.Equations.{used_up}
use Rattle.gb_smt.specs.ByEquality.{ClosesByEquality}
use Rattle.gb_smt.proofs.Answered.{tried_answer}
use Rattle.gb_smt.proofs.apply.close.Goals as goal

pub returns : goal.returns
returns c =
    let whole : c.get.result.now ≡ c.args.leaf.now = search rules in
    let rest : c.get-3.result.now ≡ used_up c.args.leaf.now = search rules in
    let unclosed : ClosesByEquality c.args.leaf.now → ⊥ =
    λ x. false≢true (sym c.if-branch.false ∙ c.in_ok-closes_by_equality.ensures.1 (subst ClosesByEquality (sym whole) x)) in
    tried_answer c.args.scope.now c.get-3.result.now c.args.leaf.now rest c.reason.result unclosed c.reason.ensures
