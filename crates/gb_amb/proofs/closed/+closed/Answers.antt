use Rattle.std.proofs.Common.{◌≡◌, ◌↔◌, ℕ, zero, suc, ◌-◌, Bool, refl, ap, sym, ◌∙◌, subst, arith}
use Rattle.std.specs.Prelude.{IfOk, IsTrue, Result, Ok, Err}
use Rattle.std.specs.declared.alloc.AllocError.{AllocError}
use Rattle.gb_terms.specs.declared.term.Term.{out-Term}
use Rattle.gb_amb.specs.Closed.{IsClosedAt, IsClosedWithin}
use Rattle.gb_amb.specs.Parts.{concluding}
use Rattle.gb_amb.proofs.Layers.{other_head, other_operator}
use Rattle.gb_amb.proofs.closed.+closed.Goals as goal

one_more : (n : ℕ) → (n ≡ 0 → ⊥) → n ≡ suc (n - 1)
one_more zero h = absurd (h refl)
one_more (suc n) h = omega arith

-- where the first of two things is known, the second decides on both
beside_first : (A B : Type 0) (r : Result Bool AllocError) → A → IfOk r (λ b. IsTrue b ↔ B) → IfOk r (λ b. IsTrue b ↔ (A × B))
beside_first A B (Ok b) a h = (λ t. (a, h.0 t), λ w. h.1 w.1)
beside_first A B (Err e) a h = h

pub is_closed_within-returns : goal.is_closed_within-returns
is_closed_within-returns t c =
    let q = c.args.goal.now in
    let n = c.args.layers - 1 in
    let r = c.is_closed_at.result in
    subst (λ n. IfOk r (λ b. IsTrue b ↔ IsClosedWithin n q)) (sym (one_more c.args.layers c.if-layers-eq0.false))
    (subst (λ h. IfOk r (λ b. IsTrue b ↔ IsClosedAt (IsClosedWithin n) q h (out-Term q.conclusion).args)) c.get-head.ensures
    (subst (λ ts. IfOk r (λ b. IsTrue b ↔ IsClosedAt (IsClosedWithin n) q c.get-head.result.now ts)) c.as_slice.ensures c.is_closed_at.ensures))

pub of_both-returns : goal.of_both-returns
of_both-returns t c =
    let q = c.args.goal.now in
    let n = c.args.layers in
    let r = c.is_closed_within-2.result in
    let first = c.in_ok-first.ensures ∙ ap (concluding q) c.in_ok-share.ensures in
    let second = c.in_ok-second.ensures ∙ ap (concluding q) c.in_ok-share-2.ensures in
    beside_first (IsClosedWithin n (concluding q c.args.left.now)) (IsClosedWithin n (concluding q c.args.right.now)) r
    (subst (IsClosedWithin n) first (c.in_ok-is_closed_within.ensures.0 c.if-not-branch.false))
    (subst (λ s. IfOk r (λ b. IsTrue b ↔ IsClosedWithin n s)) second c.is_closed_within-2.ensures)

pub is_closed_at-returns-in_default : goal.is_closed_at-returns-in_default
is_closed_at-returns-in_default t c =
    subst (λ P. IfOk c.is_evident.result (λ b. IsTrue b ↔ P))
    (other_head (IsClosedWithin c.args.layers) c.args.goal.now c.args.args.now c.args.head.now c.in_default.not-All c.in_default.not-AllMemory c.in_default.not-Builtin) c.is_evident.ensures

pub of_operator-returns-in_default : goal.of_operator-returns-in_default
of_operator-returns-in_default t c =
    subst (λ P. IfOk c.is_evident.result (λ b. IsTrue b ↔ P))
    (other_operator (IsClosedWithin c.args.layers) c.args.goal.now c.args.args.now c.args.op.now c.in_default.not-Implies c.in_default.not-And) c.is_evident.ensures
