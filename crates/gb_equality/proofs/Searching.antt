-- What a search finds.
use Rattle.std.proofs.Common.{◌≡◌, ◌≢◌, ℕ, zero, suc, ◌+◌, ◌<◌, ◌≤◌, ◌⊎◌, inl, inr, Bool, true, false, List, [], ◌∷◌, map, length, get_or, slice_get, Some, Result, Ok, Err, IfOk, sum, refl, sym, ap, ◌∙◌, subst, arith}
use Rattle.std.specs.List.{Contains}
use Rattle.std.specs.declared.alloc.AllocError.{AllocError}
use Rattle.std.proofs.lemmas.Bool.{cases_order}
use Rattle.std.proofs.lemmas.List.Elements.{Contains-get_or}
use Rattle.gb_terms.specs.declared.term.Term.{Term}
use Rattle.gb_equality.specs.declared.table.Node.{Node}
use Rattle.gb_equality.specs.Connectives.{is_form}
use Rattle.gb_equality.specs.Labels.{Labels}
use Rattle.gb_closing.specs.Labels.{label_at}
use Rattle.gb_equality.specs.Table.{terms, IsTable, relabelled, Reads, HasNone, IsDecided, AreNarrowed}
use Rattle.gb_equality.specs.Search.{AreSettled, IsClosed, IsOpen, IsFound, IsSearched}
use Rattle.gb_equality.proofs.Places.{place_contains, place_mapped, place_within}
use Rattle.gb_equality.proofs.Reading.{read_row, same_length}
use Rattle.gb_equality.proofs.Narrowed.{narrowed_more, none_before, relabelled_reads, relabelled_other, relabelled_rows, sum_less}
use Rattle.gb_equality.proofs.Settled.{settled_labelling}

-- forms that are true or false, before a place
abbrev pub DecidedBefore : List Node → List ℕ → ℕ → Type 0
DecidedBefore nodes ls at = (i : ℕ) (n : Node) → i < at → slice_get nodes i ≡ Some n → is_form n.term ≡ true → label_at ls i < 2

pub decided_more : (nodes : List Node) (ls : List ℕ) (at : ℕ) (n : Node) → slice_get nodes at ≡ Some n → (is_form n.term ≡ true → label_at ls at < 2) → DecidedBefore nodes ls at → DecidedBefore nodes ls (at + 1)
decided_more nodes ls at n e d h i m l f t = by_case (cases_order i at)
  where
    same : i ≡ at → m ≡ n
    same q = let a : slice_get nodes at ≡ Some m = ap (slice_get nodes) (sym q) ∙ f in cc

    by_case : (i ≡ at) ⊎ ((i < at) ⊎ (at < i)) → label_at ls i < 2
    by_case (inl q) = omega (arith, ap (label_at ls) q, d (sym (ap (λ x. is_form x.term) (same q)) ∙ t))
    by_case (inr (inl k)) = h i m k f t
    by_case (inr (inr k)) = absurd (omega (arith, k, l))

-- a row whose label is that of a truth
pub decided_small : (nodes : List Node) (ls : List ℕ) (at : ℕ) → label_at ls at < 2 → DecidedBefore nodes ls at → DecidedBefore nodes ls (at + 1)
decided_small nodes ls at b h i m l f t = by_case (cases_order i at)
  where
    by_case : (i ≡ at) ⊎ ((i < at) ⊎ (at < i)) → label_at ls i < 2
    by_case (inl q) = omega (arith, ap (label_at ls) q, b)
    by_case (inr (inl k)) = h i m k f t
    by_case (inr (inr k)) = absurd (omega (arith, k, l))

pub all_decided : (nodes : List Node) (ls : List ℕ) (at : ℕ) → length nodes ≤ at → DecidedBefore nodes ls at → IsDecided nodes ls
all_decided nodes ls at l h i n e f = h i n (omega (arith, place_within nodes i n e, l)) e f

module _ (nodes : List Node) (h : IsTable nodes) (old closed : List ℕ) (rows : length old ≡ length nodes) (n : AreNarrowed nodes old closed) where
  -- nothing is left label
  pub found : AreSettled nodes closed → IsDecided nodes closed → IsFound nodes old closed
  found s d = record {
    labelling = settled_labelling nodes h closed (n.rows ∙ rows) s d;
    truths = n.truths;
    rows = n.rows;
  }

  -- a form is tried as true or false
  pub found_tried : (label truth : ℕ) → IsOpen nodes closed label → (new : List ℕ) → IsFound nodes (relabelled label truth closed) new → IsFound nodes old new
  found_tried label truth o new f = record {
    labelling = f.labelling;
    truths = λ i l t.
        let e = n.truths i l t in
        let k : i < length closed = omega (arith, l, n.rows) in
        let q = relabelled_other label truth closed i k (λ z. omega (arith, z, o.free, e, t)) in
        f.truths i (omega (arith, k, relabelled_rows label truth closed)) (omega (arith, q, e, t)) ∙ q ∙ e;
    rows = f.rows ∙ relabelled_rows label truth closed ∙ n.rows;
  }

  pub tried_rows : (label truth : ℕ) → length (relabelled label truth closed) ≡ length nodes
  tried_rows label truth = relabelled_rows label truth closed ∙ n.rows ∙ rows

  pub tried_smaller : (label truth : ℕ) → IsOpen nodes closed label → truth < 2 → sum (relabelled label truth closed) < sum old
  tried_smaller label truth o t =
      let l : o.place < length closed = same_length nodes closed o.place o.node (n.rows ∙ rows) o.there in
      let c : Contains closed label = subst (Contains closed) o.its (Contains-get_or closed o.place 0 l) in
      omega (arith, sum_less label truth (omega (arith, o.free, t)) closed c, n.fewer)

  -- no labelling makes it true, and none makes it false
  pub none_tried : (label : ℕ) → IsOpen nodes closed label → HasNone nodes (relabelled label 1 closed) → HasNone nodes (relabelled label 0 closed) → HasNone nodes old
  none_tried label o a b = none_before nodes old closed n (λ L read r.
      let there = place_mapped (λ m. m.term) nodes o.place o.node o.there in
      let e : read label ≡ L o.node.term = ap read (sym o.its) ∙ read_row nodes closed L read r o.place o.node.term there in
      let t = r.labelling.truths o.node.term (place_contains (terms nodes) o.place o.node.term there) o.form in
      either L read r (two (read label) (omega (arith, e, t))))
    where
      two : (k : ℕ) → k < 2 → (k ≡ 0) ⊎ (k ≡ 1)
      two zero l = inl refl
      two (suc zero) l = inr refl
      two (suc (suc k)) l = absurd (omega (arith, l))

      either : (L : Labels) (read : ℕ → ℕ) → Reads nodes closed L read → (read label ≡ 0) ⊎ (read label ≡ 1) → ⊥
      either L read r (inl z) = b L read (relabelled_reads nodes label 0 closed L read (z ∙ sym r.falsity) r)
      either L read r (inr z) = a L read (relabelled_reads nodes label 1 closed L read (z ∙ sym r.truth) r)

  -- it is tried as true, and then as false
  pub searched_last : (label : ℕ) → IsOpen nodes closed label → HasNone nodes (relabelled label 1 closed) → (new : List ℕ) (r : Result Bool AllocError) → IfOk r (IsSearched nodes (relabelled label 0 closed) new) → IfOk r (IsSearched nodes old new)
  searched_last label o a new (Ok true) f = found_tried label 0 o new f
  searched_last label o a new (Ok false) b = none_tried label o a b
  searched_last label o a new (Err e) b = tt
