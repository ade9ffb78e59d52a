use Rattle.std.proofs.Common.{◌≡◌, ◌<◌, Bool, length, sum, IfOk, ap, sym, subst, ◌∙◌, arith}
use Rattle.gb_equality.specs.Table.{HasNone, relabelled}
use Rattle.gb_equality.specs.Search.{IsFound, IsSearched}
use Rattle.gb_equality.proofs.Places.{taken_front}
use Rattle.gb_equality.proofs.Searching.{found, found_tried, tried_rows, tried_smaller, searched_last}
use Rattle.gb_equality.proofs.search.+search.Goals as goal

pub returns-in_default : goal.returns-in_default
returns-in_default t c =
    found c.args.nodes.now c.requires.table c.args.labels.now c.close.new.labels c.requires.rows c.if-not-close.ensures.0 c.if-not-close.ensures.1 c.in_default.ensures

pub search-requires : goal.search-requires
search-requires t c =
    let size : c.in_ok-tried.tried.len ≡ length c.relabel.new.labels = omega arith in
    let tried : c.deref_mut-2.result.now ≡ relabelled c.in-Some.label 1 c.close.new.labels =
    c.deref_mut-2.ensures.value ∙ taken_front c.in_ok-tried.tried.len c.relabel.new.labels _ size ∙ c.relabel.ensures ∙ ap (relabelled c.in-Some.label 1) (c.deref_mut.ensures.value ∙ c.in_ok-tried.ensures.items) in
    let less = tried_smaller c.args.nodes.now c.requires.table c.args.labels.now c.close.new.labels c.requires.rows c.if-not-close.ensures.0 c.in-Some.label 1 c.in-Some.ensures (omega arith) in
    let same = ap sum tried in
    (omega arith, (c.requires.table, ap length tried ∙ tried_rows c.args.nodes.now c.requires.table c.args.labels.now c.close.new.labels c.requires.rows c.if-not-close.ensures.0 c.in-Some.label 1))

pub returns-then-branch : goal.returns-then-branch
returns-then-branch t c =
    let size : c.in_ok-tried.tried.len ≡ length c.relabel.new.labels = omega arith in
    let tried : c.deref_mut-2.result.now ≡ relabelled c.in-Some.label 1 c.close.new.labels =
    c.deref_mut-2.ensures.value ∙ taken_front c.in_ok-tried.tried.len c.relabel.new.labels _ size ∙ c.relabel.ensures ∙ ap (relabelled c.in-Some.label 1) (c.deref_mut.ensures.value ∙ c.in_ok-tried.ensures.items) in
    let kept : c.in_ok-tried.tried.len ≡ length c.search.new.labels = omega arith in
    let wrote : c.copy_from_slice.new.self ≡ c.search.new.labels = c.copy_from_slice.ensures.after ∙ c.deref.ensures.value ∙ taken_front c.in_ok-tried.tried.len c.search.new.labels _ kept in
    let there : IsFound c.args.nodes.now c.deref_mut-2.result.now c.search.new.labels = subst (IsSearched c.args.nodes.now c.deref_mut-2.result.now c.search.new.labels) c.if-branch.true c.in_ok-search.ensures in
    subst (IsFound c.args.nodes.now c.args.labels.now) (sym wrote)
    (found_tried c.args.nodes.now c.requires.table c.args.labels.now c.close.new.labels c.requires.rows c.if-not-close.ensures.0 c.in-Some.label 1 c.in-Some.ensures c.search.new.labels
    (subst (λ ls. IsFound c.args.nodes.now ls c.search.new.labels) tried there))

pub search-requires-2 : goal.search-requires-2
search-requires-2 t c =
    let less = tried_smaller c.args.nodes.now c.requires.table c.args.labels.now c.close.new.labels c.requires.rows c.if-not-close.ensures.0 c.in-Some.label 0 c.in-Some.ensures (omega arith) in
    let same = ap sum c.relabel-2.ensures in
    (omega arith, (c.requires.table, ap length c.relabel-2.ensures ∙ tried_rows c.args.nodes.now c.requires.table c.args.labels.now c.close.new.labels c.requires.rows c.if-not-close.ensures.0 c.in-Some.label 0))

pub returns : goal.returns
returns t c =
    let size : c.in_ok-tried.tried.len ≡ length c.relabel.new.labels = omega arith in
    let tried : c.deref_mut-2.result.now ≡ relabelled c.in-Some.label 1 c.close.new.labels =
    c.deref_mut-2.ensures.value ∙ taken_front c.in_ok-tried.tried.len c.relabel.new.labels _ size ∙ c.relabel.ensures ∙ ap (relabelled c.in-Some.label 1) (c.deref_mut.ensures.value ∙ c.in_ok-tried.ensures.items) in
    let none : HasNone c.args.nodes.now c.deref_mut-2.result.now = subst (IsSearched c.args.nodes.now c.deref_mut-2.result.now c.search.new.labels) c.if-branch.false c.in_ok-search.ensures in
    searched_last c.args.nodes.now c.requires.table c.args.labels.now c.close.new.labels c.requires.rows c.if-not-close.ensures.0 c.in-Some.label c.in-Some.ensures (subst (HasNone c.args.nodes.now) tried none) c.search-2.new.labels c.search-2.result
    (subst (λ ls. IfOk c.search-2.result (IsSearched c.args.nodes.now ls c.search-2.new.labels)) c.relabel-2.ensures c.search-2.ensures)
