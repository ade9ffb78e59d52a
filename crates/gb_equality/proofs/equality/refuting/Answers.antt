use Rattle.std.proofs.Common.{◌≡◌, ℕ, Bool, length, sym, subst, ◌∙◌, arith}
use Rattle.gb_equality.specs.Table.{HasNone}
use Rattle.gb_equality.specs.Search.{IsFound, IsSearched}
use Rattle.gb_equality.specs.Answer.{AreFresh, ReadsSo, AreAssumed, IsRefutation, with_labels}
use Rattle.gb_equality.proofs.Places.{taken_front}
use Rattle.gb_equality.proofs.Answering.{valid_at_once, valid_by_search, rows, refutation}
use Rattle.gb_equality.proofs.equality.refuting.Goals as goal

pub returns-then-not-assume : goal.returns-then-not-assume
returns-then-not-assume c = λ hyps t h.
    let fresh : AreFresh (length c.args.table.now.nodes) c.in_ok-labels.labels.items = subst (λ ns. AreFresh (length ns) c.in_ok-labels.labels.items) c.as_slice-nodes.ensures c.in_ok-labels.ensures in
    valid_at_once hyps t c.args.table.now h c.in_ok-labels.labels.items fresh
    (subst (λ hs. (read : ℕ → ℕ) → ReadsSo hs c.args.table.now.conclusion c.in_ok-labels.labels.items read → ⊥) c.as_slice.ensures
    (subst (λ ls. (read : ℕ → ℕ) → ReadsSo c.as_slice.result.now c.args.table.now.conclusion ls read → ⊥) c.deref_mut.ensures.value c.if-not-assume.ensures))

pub returns-then-not-branch : goal.returns-then-not-branch
returns-then-not-branch c = λ hyps t h.
    let fresh : AreFresh (length c.args.table.now.nodes) c.in_ok-labels.labels.items = subst (λ ns. AreFresh (length ns) c.in_ok-labels.labels.items) c.as_slice-nodes.ensures c.in_ok-labels.ensures in
    let assumed : AreAssumed c.args.table.now.hyps c.args.table.now.conclusion c.in_ok-labels.labels.items c.assume.new.labels =
    subst (λ hs. AreAssumed hs c.args.table.now.conclusion c.in_ok-labels.labels.items c.assume.new.labels) c.as_slice.ensures
    (subst (λ ls. AreAssumed c.as_slice.result.now c.args.table.now.conclusion ls c.assume.new.labels) c.deref_mut.ensures.value c.if-not-assume.ensures) in
    let size : c.in_ok-labels.labels.len ≡ length c.assume.new.labels = omega arith in
    let tried : c.deref_mut-2.result.now ≡ c.assume.new.labels = c.deref_mut-2.ensures.value ∙ taken_front c.in_ok-labels.labels.len c.assume.new.labels _ size in
    let none : HasNone c.as_slice-nodes.result.now c.deref_mut-2.result.now = subst (IsSearched c.as_slice-nodes.result.now c.deref_mut-2.result.now c.search.new.labels) c.if-not-branch.true c.in_ok-search.ensures in
    valid_by_search hyps t c.args.table.now h c.in_ok-labels.labels.items fresh c.assume.new.labels assumed
    (subst (λ ns. HasNone ns c.assume.new.labels) c.as_slice-nodes.ensures (subst (HasNone c.as_slice-nodes.result.now) tried none))

pub returns : goal.returns
returns c = λ hyps t h.
    let fresh : AreFresh (length c.args.table.now.nodes) c.in_ok-labels.labels.items = subst (λ ns. AreFresh (length ns) c.in_ok-labels.labels.items) c.as_slice-nodes.ensures c.in_ok-labels.ensures in
    let assumed : AreAssumed c.args.table.now.hyps c.args.table.now.conclusion c.in_ok-labels.labels.items c.assume.new.labels =
    subst (λ hs. AreAssumed hs c.args.table.now.conclusion c.in_ok-labels.labels.items c.assume.new.labels) c.as_slice.ensures
    (subst (λ ls. AreAssumed c.as_slice.result.now c.args.table.now.conclusion ls c.assume.new.labels) c.deref_mut.ensures.value c.if-not-assume.ensures) in
    let size : c.in_ok-labels.labels.len ≡ length c.assume.new.labels = omega arith in
    let tried : c.deref_mut-2.result.now ≡ c.assume.new.labels = c.deref_mut-2.ensures.value ∙ taken_front c.in_ok-labels.labels.len c.assume.new.labels _ size in
    let kept : c.in_ok-labels.labels.len ≡ length c.search.new.labels = omega arith in
    let given : c.from_vec.result ≡ c.search.new.labels = c.from_vec.ensures ∙ taken_front c.in_ok-labels.labels.len c.search.new.labels _ kept in
    let there : IsFound c.as_slice-nodes.result.now c.deref_mut-2.result.now c.search.new.labels = subst (IsSearched c.as_slice-nodes.result.now c.deref_mut-2.result.now c.search.new.labels) c.if-not-branch.false c.in_ok-search.ensures in
    let found : IsFound c.args.table.now.nodes c.assume.new.labels c.search.new.labels =
    subst (λ ns. IsFound ns c.assume.new.labels c.search.new.labels) c.as_slice-nodes.ensures (subst (λ ls. IsFound c.as_slice-nodes.result.now ls c.search.new.labels) tried there) in
    subst (λ ls. (length ls ≡ length c.args.table.now.nodes) × IsRefutation hyps t (with_labels c.args.table.now.nodes ls)) (sym given) (
      rows hyps t c.args.table.now h c.in_ok-labels.labels.items fresh c.assume.new.labels assumed c.search.new.labels found,
      refutation hyps t c.args.table.now h c.in_ok-labels.labels.items fresh c.assume.new.labels assumed c.search.new.labels found,
    )
