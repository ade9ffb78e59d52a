-- Labels that imply nothing more are a labelling, where each form is true or false.
use Rattle.std.proofs.Common.{◌≡◌, ◌≢◌, ℕ, zero, suc, ◌<◌, ◌≤◌, ◌⊎◌, inl, inr, Bool, true, false, if◌then◌else◌, List, [], ◌∷◌, map, length, get_or, slice_get, Some, refl, sym, ap, ◌∙◌, subst, arith}
use Rattle.std.specs.List.{AllPairs, Contains}
use Rattle.std.proofs.lemmas.Bool.{false≢true, cases_order}
use Rattle.std.proofs.lemmas.Option.{get_or_from_slice_get}
use Rattle.std.proofs.lemmas.List.{length-map}
use Rattle.gb_terms.specs.declared.term.Term.{Term}
use Rattle.gb_terms.specs.declared.term.Head.{Head}
use Rattle.gb_equality.specs.declared.table.Node.{Node}
use Rattle.gb_equality.specs.Parts.{arguments_of, operator_of, is_same}
use Rattle.gb_equality.specs.Connectives.{is_form, connective_of, label_by, shown, AreDifferent}
use Rattle.gb_equality.specs.Labels.{Labels, IsLabelling}
use Rattle.gb_closing.specs.Labels.{label_at, labels_at}
use Rattle.gb_equality.specs.Table.{terms, StandAt, IsTable, label_in, IsDecided, ArePaired}
use Rattle.gb_equality.specs.Search.{AreSettled}
use Rattle.gb_equality.proofs.Places.{some_same, contains_place, place_within, place_of_image}
use Rattle.gb_equality.proofs.Once.{same_of, of_same}

-- the label of a term that stands once

apart : (s t : Term) → s ≢ t → is_same s t ≡ false
apart s t n = by_test (is_same s t) refl
  where
    by_test : (b : Bool) → is_same s t ≡ b → is_same s t ≡ false
    by_test true e = absurd (n (same_of s t e))
    by_test false e = e

pub label_in_at : (ts : List Term) → AllPairs (λ t u. t ≢ u) ts → (ls : List ℕ) → length ls ≡ length ts → (i : ℕ) (t : Term) → slice_get ts i ≡ Some t → label_in ts ls t ≡ label_at ls i
label_in_at [] o ls e i t h = cc
label_in_at (u ∷ us) o [] e i t h = absurd (omega (arith, e))
label_in_at (u ∷ us) o (l ∷ ls) e zero t h = ap (λ b. if b then l else label_in us ls t) (of_same u t (some_same u t h))
label_in_at (u ∷ us) o (l ∷ ls) e (suc i) t h =
    let n : u ≢ t = λ q. o 0 (suc i) t (omega arith) (omega (arith, place_within us i t h)) (q ∙ sym (get_or_from_slice_get us i t t h)) in
    let r = label_in_at us (λ a b d x y. o (suc a) (suc b) d (omega (arith, x)) (omega (arith, y))) ls (omega (arith, e)) i t h in
    ap (λ b. if b then l else label_in us ls t) (apart u t n) ∙ r

module _ (nodes : List Node) (h : IsTable nodes) (ls : List ℕ) (rows : length ls ≡ length nodes) where
  abbrev of_terms : Labels
  of_terms = label_in (terms nodes) ls

  enough : length ls ≡ length (terms nodes)
  enough = rows ∙ sym (length-map nodes (λ n. n.term))

  pub row_label : (i : ℕ) (t : Term) → slice_get (terms nodes) i ≡ Some t → label_in (terms nodes) ls t ≡ label_at ls i
  row_label i t e = label_in_at (terms nodes) h.once ls enough i t e

  row_labels : (ps : List ℕ) (us : List Term) → StandAt (terms nodes) ps us → map of_terms us ≡ labels_at ls ps
  row_labels [] [] e = refl
  row_labels [] (u ∷ us) e = cc
  row_labels (p ∷ ps) [] e = cc
  row_labels (p ∷ ps) (u ∷ us) e =
      let a : slice_get (terms nodes) p ≡ Some u = cc in
      let b : map (slice_get (terms nodes)) ps ≡ map Some us = cc in
      let x = row_label p u a in
      let y = row_labels ps us b in
      cc

  args_labels : (i : ℕ) (n : Node) → slice_get nodes i ≡ Some n → map of_terms (arguments_of n.term) ≡ labels_at ls n.args
  args_labels i n e = row_labels n.args (arguments_of n.term) (h.arguments i n e)

  -- the row of a term

  abbrev IsRow : Term → ℕ → Node → Type 0
  IsRow t i n = (slice_get nodes i ≡ Some n) × (n.term ≡ t) × (of_terms t ≡ label_at ls i)

  row_of : (t : Term) → Contains (terms nodes) t → (i : ℕ) × (n : Node) × IsRow t i n
  row_of t c =
      let p = contains_place (terms nodes) t c in
      let k = place_of_image (λ n. n.term) nodes p.0 t p.1 in
      (p.0, k.0, (k.1, k.2, row_label p.0 t p.1))

  -- pairs in any order

  paired : AreSettled nodes ls → (i j : ℕ) (m n : Node) → slice_get nodes i ≡ Some m → slice_get nodes j ≡ Some n → i < j → ArePaired ls i j m n
  paired s i j m n e f l = (s j (place_within nodes j n f)).pairs i l m n e f

  congruent : AreSettled nodes ls → (i j : ℕ) (m n : Node) → slice_get nodes i ≡ Some m → slice_get nodes j ≡ Some n → (i ≡ j) ⊎ ((i < j) ⊎ (j < i)) →
      operator_of m.term ≡ operator_of n.term → labels_at ls m.args ≡ labels_at ls n.args → label_at ls i ≡ label_at ls j
  congruent s i j m n e f (inl q) o a = ap (label_at ls) q
  congruent s i j m n e f (inr (inl l)) o a = (paired s i j m n e f l).congruent o a
  congruent s i j m n e f (inr (inr l)) o a = sym ((paired s j i n m f e l).congruent (sym o) (sym a))

  turned : (t u : Term) → AreDifferent t u → AreDifferent u t
  turned t u d = record {
    one_type = sym d.one_type;
    first = d.second;
    second = d.first;
    first_shown = d.second_shown;
    second_shown = d.first_shown;
    different = λ e. d.different (sym e);
  }

  not_itself : (t u : Term) → t ≡ u → AreDifferent t u → ⊥
  not_itself t u e d = d.different (some_same d.first d.second (sym d.first_shown ∙ ap shown e ∙ d.second_shown))

  literals : AreSettled nodes ls → (i j : ℕ) (m n : Node) → slice_get nodes i ≡ Some m → slice_get nodes j ≡ Some n → (i ≡ j) ⊎ ((i < j) ⊎ (j < i)) →
      AreDifferent m.term n.term → label_at ls i ≢ label_at ls j
  literals s i j m n e f (inl q) d l = not_itself m.term n.term (ap (λ x. x.term) (some_same m n (sym e ∙ ap (slice_get nodes) q ∙ f))) d
  literals s i j m n e f (inr (inl l)) d k = (paired s i j m n e f l).literals d k
  literals s i j m n e f (inr (inr l)) d k = (paired s j i n m f e l).literals (turned m.term n.term d) (sym k)

  moved : (t u : Term) (m n : Node) → m.term ≡ t → n.term ≡ u → AreDifferent t u → AreDifferent m.term n.term
  moved t u m n p q d = subst (λ x. AreDifferent x n.term) (sym p) (subst (AreDifferent t) (sym q) d)

  pub settled_labelling : AreSettled nodes ls → IsDecided nodes ls → IsLabelling (label_in (terms nodes) ls) (terms nodes)
  settled_labelling s d = record {
    congruent = λ t u a b o e.
        let x = row_of t a in
        let y = row_of u b in
        let p : operator_of x.1.term ≡ operator_of y.1.term = ap operator_of x.2.1 ∙ o ∙ sym (ap operator_of y.2.1) in
        let q : labels_at ls x.1.args ≡ labels_at ls y.1.args =
        sym (args_labels x.0 x.1 x.2.0) ∙ ap (λ z. map of_terms (arguments_of z)) x.2.1 ∙ e ∙ sym (ap (λ z. map of_terms (arguments_of z)) y.2.1) ∙ args_labels y.0 y.1 y.2.0 in
        x.2.2 ∙ congruent s x.0 y.0 x.1 y.1 x.2.0 y.2.0 (cases_order x.0 y.0) p q ∙ sym y.2.2;
    literals = λ t u a b f e.
        let x = row_of t a in
        let y = row_of u b in
        literals s x.0 y.0 x.1 y.1 x.2.0 y.2.0 (cases_order x.0 y.0) (moved t u x.1 y.1 x.2.1 y.2.1 f) (sym x.2.2 ∙ e ∙ y.2.2);
    truths = λ t a f.
        let x = row_of t a in
        omega (arith, x.2.2, d x.0 x.1 x.2.0 (ap is_form x.2.1 ∙ f));
    tables = λ t a l e.
        let x = row_of t a in
        let q : label_by (connective_of x.1.term) (labels_at ls x.1.args) ≡ Some l =
        ap (label_by (connective_of x.1.term)) (sym (args_labels x.0 x.1 x.2.0)) ∙ ap (λ z. label_by (connective_of z) (map of_terms (arguments_of z))) x.2.1 ∙ e in
        x.2.2 ∙ (s x.0 (place_within nodes x.0 x.1 x.2.0)).alone x.1 x.2.0 d l q;
  }
