-- What the procedure answers.
use Rattle.std.proofs.Common.{◌≡◌, ◌≢◌, ℕ, zero, suc, ◌+◌, ◌<◌, ◌≤◌, ◌⊎◌, inl, inr, Bool, true, false, List, [], ◌∷◌, ◌++◌, map, take, length, get_or, slice_get, Some, None, flat_map, refl, sym, ap, ◌∙◌, subst, arith}
use Rattle.std.specs.List.{All, AllPairs, Contains}
use Rattle.std.proofs.lemmas.List.{length-map, take_all, same_lists, get_or_default, take_more}
use Rattle.std.proofs.lemmas.List.Elements.{All-nil, All-cons, All-head, All-tail, Contains-get_or, Contains-append_left, Contains-append_right}
use Rattle.std.proofs.lemmas.Option.{get_or_from_slice_get}
use Rattle.std.proofs.lemmas.Bool.{cases_order}
use Rattle.gb_terms.specs.declared.term.Term.{Term}
use Rattle.gb_equality.specs.declared.table.Node.{Node}
use Rattle.gb_equality.specs.declared.table.Table.{Table}
use Rattle.gb_equality.specs.declared.equality.Labelled.{Labelled}
use Rattle.gb_equality.specs.Parts.{arguments_of, operator_of, parts_of, terms_in, terms_of}
use Rattle.gb_equality.specs.Labels.{Labels, IsLabelling, Refutes, EqualityValid}
use Rattle.gb_closing.specs.Labels.{label_at}
use Rattle.gb_equality.specs.Table.{terms, StandAt, IsTable, IsTableOf, label_in, relabelled, Reads, HasNone}
use Rattle.gb_equality.specs.Search.{IsEquated, IsFound}
use Rattle.gb_equality.specs.Answer.{AreFresh, ReadsSo, AreAssumed, IsRefutation, with_labels}
use Rattle.gb_equality.proofs.Places.{some_same, at_place, place_within, place_contains, place_mapped, place_of_image}
use Rattle.gb_equality.proofs.Once.{noted_from, noted_has}
use Rattle.gb_equality.proofs.Narrowed.{relabelled_other, relabelled_same, relabelled_rows, relabelled_read}
use Rattle.gb_equality.proofs.Settled.{row_label, label_in_at}

-- a labelling of terms is one of any of them
pub labelling_of_fewer : (L : Labels) (ts us : List Term) → ((t : Term) → Contains us t → Contains ts t) → IsLabelling L ts → IsLabelling L us
labelling_of_fewer L ts us f h = record {
  congruent = λ t u a b. h.congruent t u (f t a) (f u b);
  literals = λ t u a b. h.literals t u (f t a) (f u b);
  truths = λ t a. h.truths t (f t a);
  tables = λ t a. h.tables t (f t a);
}

noted_in : (hyps : List Term) (t u : Term) → Contains (terms_of hyps t) u → Contains (terms_in hyps t) u
noted_in hyps t u c = noted_from [] (terms_in hyps t) u c

in_noted : (hyps : List Term) (t u : Term) → Contains (terms_in hyps t) u → Contains (terms_of hyps t) u
in_noted hyps t u c = noted_has [] (terms_in hyps t) u c

-- The reading of fresh labels: those of the truths, and that of each row as the label of its term.

abbrev reading : List ℕ → ℕ → ℕ
reading ks zero = 0
reading ks (suc zero) = 1
reading ks (suc (suc i)) = get_or ks i 0

reading_row : (ks : List ℕ) (i l : ℕ) → l ≡ i + 2 → reading ks l ≡ get_or ks i 0
reading_row ks i zero e = absurd (omega (arith, e))
reading_row ks i (suc zero) e = absurd (omega (arith, e))
reading_row ks i (suc (suc l)) e = let q : l ≡ i = omega (arith, e) in ap (λ j. get_or ks j 0) q

-- rows with their labels

abbrev with_label : Labels → Term → Labelled
with_label L u = record { term = u; label = L u }

each_labelled : (L : Labels) (nodes : List Node) (ls : List ℕ) → length ls ≡ length nodes → ((i : ℕ) (n : Node) → slice_get nodes i ≡ Some n → label_at ls i ≡ L n.term) → with_labels nodes ls ≡ map (with_label L) (terms nodes)
each_labelled L [] ls e h = refl
each_labelled L (n ∷ ns) [] e h = absurd (omega (arith, e))
each_labelled L (n ∷ ns) (l ∷ ls) e h =
    ap (λ k. record { term = n.term; label = k } ∷ with_labels ns ls) (h 0 n refl)
    ∙ ap (λ xs. with_label L n.term ∷ xs) (each_labelled L ns ls (omega (arith, e)) (λ i m q. h (suc i) m q))

labels_suc : (nodes : List Node) (ls : List ℕ) (i : ℕ) (n : Node) → i < length nodes → i < length ls → n ≡ get_or nodes i n →
    with_labels (take (suc i) nodes) (take (suc i) ls) ≡ with_labels (take i nodes) (take i ls) ++ record { term = n.term; label = label_at ls i } ∷ []
labels_suc [] ls i n h k e = absurd (omega (arith, h))
labels_suc (m ∷ ms) [] i n h k e = absurd (omega (arith, k))
labels_suc (m ∷ ms) (l ∷ ls) zero n h k e = ap (λ x. record { term = x.term; label = l } ∷ []) (sym e)
labels_suc (m ∷ ms) (l ∷ ls) (suc i) n h k e = ap (λ xs. record { term = m.term; label = l } ∷ xs) (labels_suc ms ls i n (omega (arith, h)) (omega (arith, k)) e)

pub labels_more : (nodes : List Node) (ls : List ℕ) (i : ℕ) (n : Node) → i < length nodes → i < length ls → n ≡ get_or nodes i n →
    with_labels (take (i + 1) nodes) (take (i + 1) ls) ≡ with_labels (take i nodes) (take i ls) ++ record { term = n.term; label = label_at ls i } ∷ []
labels_more nodes ls i n h k e = let q : i + 1 ≡ suc i = omega arith in ap (λ j. with_labels (take j nodes) (take j ls)) q ∙ labels_suc nodes ls i n h k e

module _ (hyps : List Term) (t : Term) (made : Table) (h : IsTableOf hyps t made) (fresh : List ℕ) (f : AreFresh (length made.nodes) fresh) where
  fresh_each : (ks : List ℕ) → length ks ≡ length made.nodes → map (reading ks) fresh ≡ ks
  fresh_each ks e =
      same_lists (map (reading ks) fresh) ks (length-map fresh (reading ks) ∙ f.rows ∙ sym e) (λ i d l.
      let k : i < length fresh = omega (arith, l, length-map fresh (reading ks)) in
      let n : i < length made.nodes = omega (arith, k, f.rows) in
      let at : slice_get fresh i ≡ Some (label_at fresh i) = at_place fresh i (label_at fresh i) k (sym (get_or_default fresh i (label_at fresh i) 0 k)) in
      get_or_from_slice_get (map (reading ks) fresh) i (reading ks (label_at fresh i)) d (place_mapped (reading ks) fresh i (label_at fresh i) at)
      ∙ reading_row ks i (label_at fresh i) (f.own i n)
      ∙ get_or_default ks i 0 d (omega (arith, n, e)))

  -- a refuting labelling is a reading of fresh labels, under which the hypotheses are true and the conclusion is false

  abbrev labels_of : Labels → List ℕ
  labels_of L = map L (terms made.nodes)

  many : (L : Labels) → length (labels_of L) ≡ length made.nodes
  many L = length-map (terms made.nodes) L ∙ length-map made.nodes (λ n. n.term)

  pub fresh_reads : (L : Labels) → Refutes L hyps t → Reads made.nodes fresh L (reading (labels_of L))
  fresh_reads L r = record {
    labelling = labelling_of_fewer L (terms_in hyps t) (terms made.nodes) (λ u c. noted_in hyps t u (subst (λ l. Contains l u) h.listed c)) r.labelling;
    falsity = refl;
    truth = refl;
    each = fresh_each (labels_of L) (many L);
  }

  fresh_at : (L : Labels) (p : ℕ) (u : Term) → slice_get (terms made.nodes) p ≡ Some u → reading (labels_of L) (label_at fresh p) ≡ L u
  fresh_at L p u e =
      let n = place_of_image (λ n. n.term) made.nodes p u e in
      reading_row (labels_of L) p (label_at fresh p) (f.own p (place_within made.nodes p n.0 n.1))
      ∙ get_or_from_slice_get (labels_of L) p (L u) 0 (place_mapped L (terms made.nodes) p u e)

  -- what is known of each of some terms is known at their places
  at_places : (P : ℕ → Type 0) (Q : Term → Type 0) → ((p : ℕ) (u : Term) → slice_get (terms made.nodes) p ≡ Some u → Q u → P p) → (ps : List ℕ) (us : List Term) → StandAt (terms made.nodes) ps us → All Q us → All P ps
  at_places P Q g [] us e a = All-nil P
  at_places P Q g (p ∷ ps) [] e a = cc
  at_places P Q g (p ∷ ps) (u ∷ us) e a =
      let b : slice_get (terms made.nodes) p ≡ Some u = cc in
      let c : map (slice_get (terms made.nodes)) ps ≡ map Some us = cc in
      All-cons P p ps (g p u b (All-head Q u us a)) (at_places P Q g ps us c (All-tail Q u us a))

  pub fresh_so : (L : Labels) → Refutes L hyps t → ReadsSo made.hyps made.conclusion fresh (reading (labels_of L))
  fresh_so L r = record {
    falsity = refl;
    truth = refl;
    assumed = at_places (λ p. reading (labels_of L) (label_at fresh p) ≡ 1) (λ u. L u ≡ 1) (λ p u e q. fresh_at L p u e ∙ q) made.hyps hyps h.hyps_there r.assumed;
    concluded = fresh_at L made.conclusion t h.conclusion_there ∙ r.concluded;
  }

  -- the hypotheses and the negation of the conclusion clash
  pub valid_at_once : ((read : ℕ → ℕ) → ReadsSo made.hyps made.conclusion fresh read → ⊥) → EqualityValid hyps t
  valid_at_once n L r = n (reading (labels_of L)) (fresh_so L r)

  module _ (ls : List ℕ) (a : AreAssumed made.hyps made.conclusion fresh ls) where
    -- no labelling is found
    pub valid_by_search : HasNone made.nodes ls → EqualityValid hyps t
    valid_by_search n L r =
        let s = fresh_reads L r in
        n L (reading (labels_of L)) (record {
          labelling = s.labelling;
          falsity = s.falsity;
          truth = s.truth;
          each = a.reads (reading (labels_of L)) (fresh_so L r) ∙ s.each;
        })

    -- one is found

    kept : (new : List ℕ) → IsFound made.nodes ls new → (p : ℕ) (u : Term) → slice_get (terms made.nodes) p ≡ Some u → label_at ls p < 2 → label_in (terms made.nodes) new u ≡ label_at ls p
    kept new g p u e b =
        let n = place_of_image (λ n. n.term) made.nodes p u e in
        let l : p < length ls = omega (arith, a.rows, f.rows, place_within made.nodes p n.0 n.1) in
        row_label made.nodes h.table new (g.rows ∙ a.rows ∙ f.rows) p u e ∙ g.truths p l b

    from_places : (P : ℕ → Type 0) (Q : Term → Type 0) → ((p : ℕ) (u : Term) → slice_get (terms made.nodes) p ≡ Some u → P p → Q u) → (ps : List ℕ) (us : List Term) → StandAt (terms made.nodes) ps us → All P ps → All Q us
    from_places P Q g ps [] e b = All-nil Q
    from_places P Q g [] (u ∷ us) e b = cc
    from_places P Q g (p ∷ ps) (u ∷ us) e b =
        let c : slice_get (terms made.nodes) p ≡ Some u = cc in
        let d : map (slice_get (terms made.nodes)) ps ≡ map Some us = cc in
        All-cons Q u us (g p u c (All-head P p ps b)) (from_places P Q g ps us d (All-tail P p ps b))

    found_refutes : (new : List ℕ) → IsFound made.nodes ls new → Refutes (label_in (terms made.nodes) new) hyps t
    found_refutes new g = record {
      labelling = labelling_of_fewer (label_in (terms made.nodes) new) (terms made.nodes) (terms_in hyps t) (λ u c. subst (λ l. Contains l u) (sym h.listed) (in_noted hyps t u c)) g.labelling;
      assumed = from_places (λ p. label_at ls p ≡ 1) (λ u. label_in (terms made.nodes) new u ≡ 1) (λ p u e q. kept new g p u e (omega (arith, q)) ∙ q) made.hyps hyps h.hyps_there a.assumed;
      concluded = kept new g made.conclusion t h.conclusion_there (omega (arith, a.concluded)) ∙ a.concluded;
    }

    labelled : (new : List ℕ) → IsFound made.nodes ls new → with_labels made.nodes new ≡ map (with_label (label_in (terms made.nodes) new)) (terms made.nodes)
    labelled new g = each_labelled (label_in (terms made.nodes) new) made.nodes new (g.rows ∙ a.rows ∙ f.rows) (λ i n e.
        sym (row_label made.nodes h.table new (g.rows ∙ a.rows ∙ f.rows) i n.term (place_mapped (λ m. m.term) made.nodes i n e)))

    pub rows : (new : List ℕ) → IsFound made.nodes ls new → length new ≡ length made.nodes
    rows new g = g.rows ∙ a.rows ∙ f.rows

    pub refutation : (new : List ℕ) → IsFound made.nodes ls new → IsRefutation hyps t (with_labels made.nodes new)
    refutation new g = record {
      labels = label_in (terms made.nodes) new;
      refutes = found_refutes new g;
      listed = labelled new g ∙ ap (map (with_label (label_in (terms made.nodes) new))) h.listed;
    }
