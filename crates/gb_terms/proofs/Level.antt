-- A term is its three parts.
use Rattle.std.proofs.Common.{◌≡◌, sym, ap, ◌∙◌}
use Rattle.gb_terms.specs.declared.term.Term.{Term}
use Rattle.gb_terms.specs.declared.term.Head.TheViews.{out-Term, roll-Term, roll-out-Term}

pub same_level : (a b : Term) → (out-Term a).head ≡ (out-Term b).head → (out-Term a).args ≡ (out-Term b).args → (out-Term a).ty ≡ (out-Term b).ty → a ≡ b
same_level a b h x y =
    let e : out-Term a ≡ out-Term b = λ i. record { head = h i; args = x i; ty = y i } in
    sym (roll-out-Term a) ∙ ap roll-Term e ∙ roll-out-Term b
