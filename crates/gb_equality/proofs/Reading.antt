-- Readings of labels, and labels that have to be one.
use Rattle.std.proofs.Common.{◌≡◌, ◌≢◌, ℕ, zero, suc, ◌<◌, ◌≤◌, ◌⊎◌, inl, inr, Bool, true, false, List, [], ◌∷◌, map, length, get_or, slice_get, MatchOption, Option, Some, None, refl, sym, ap, ◌∙◌, subst, arith}
use Rattle.std.specs.List.{Contains}
use Rattle.std.proofs.lemmas.Bool.{false≢true}
use Rattle.std.proofs.lemmas.Option.{get_or_from_slice_get, slice_get-get_or}
use Rattle.std.proofs.lemmas.List.Elements.{Contains-get_or}
use Rattle.std.proofs.lemmas.List.{length-map}
use Rattle.gb_terms.specs.declared.term.Term.{Term}
use Rattle.gb_terms.specs.declared.term.Head.TheViews.{out-Term}
use Rattle.gb_terms.specs.declared.term.Head.{Head}
use Rattle.gb_terms.specs.declared.term.Head.TheVariants as head
use Rattle.gb_terms.specs.declared.op.Op.{Op}
use Rattle.gb_equality.specs.declared.connectives.Connective.{Connective}
use Rattle.gb_equality.specs.declared.rules.Equation.{Equation}
use Rattle.gb_equality.specs.declared.table.Node.{Node}
use Rattle.gb_equality.specs.Parts.{arguments_of, operator_of}
use Rattle.gb_equality.specs.Connectives.{is_form, connective_of, is_over_forms, by_table, label_by, AreDifferent}
use Rattle.gb_equality.specs.Rules.{IsOneOf, IsImplied, IsComplete, IsRead}
use Rattle.gb_equality.specs.Labels.{Labels, IsLabelling}
use Rattle.gb_closing.specs.Labels.{label_at, labels_at}
use Rattle.gb_equality.specs.Table.{terms, StandAt, IsTable, Reads, HasNone, IsLabel, AreJoined, IsJoining, IsDecided, IsSettledAlone, IsSettledPair, ArePaired}
use Rattle.gb_equality.proofs.Places.{some_same, at_place, place_within, place_contains, place_mapped, place_of_image, default_read, element_or_none}
use Rattle.gb_equality.proofs.Forms.{arguments_are_forms, known_is_form}

-- the label of a row is read as the label of its term

module _ (nodes : List Node) (ls : List ℕ) (L : Labels) (read : ℕ → ℕ) (r : Reads nodes ls L read) where
  pub read_row : (i : ℕ) (t : Term) → slice_get (terms nodes) i ≡ Some t → read (label_at ls i) ≡ L t
  read_row i t e =
      let a : slice_get (map read ls) i ≡ Some (L t) = ap (λ l. slice_get l i) r.each ∙ place_mapped L (terms nodes) i t e in
      let b = place_of_image read ls i (L t) a in
      ap read (get_or_from_slice_get ls i b.0 0 b.1) ∙ b.2

  pub read_rows : (ps : List ℕ) (us : List Term) → StandAt (terms nodes) ps us → map read (labels_at ls ps) ≡ map L us
  read_rows [] [] e = refl
  read_rows [] (u ∷ us) e = cc
  read_rows (p ∷ ps) [] e = cc
  read_rows (p ∷ ps) (u ∷ us) e =
      let a : slice_get (terms nodes) p ≡ Some u = cc in
      let b : map (slice_get (terms nodes)) ps ≡ map Some us = cc in
      let x = read_row p u a in
      let y = read_rows ps us b in
      cc

-- as many labels as rows

pub same_length : (nodes : List Node) (ls : List ℕ) (i : ℕ) (n : Node) → length ls ≡ length nodes → slice_get nodes i ≡ Some n → i < length ls
same_length nodes ls i n e h = omega (arith, e, place_within nodes i n h)

label_contained : (ls : List ℕ) (i : ℕ) → i < length ls → Contains ls (label_at ls i)
label_contained ls i l = Contains-get_or ls i 0 l

-- the argument at a place of the list of arguments: its label is 0 where there is none, else that of a row

module _ (nodes : List Node) (h : IsTable nodes) (ls : List ℕ) (rows : length ls ≡ length nodes) (i : ℕ) (n : Node) (at : slice_get nodes i ≡ Some n) where
  -- a place among those of the arguments, and what stands there
  argument_at : (ps : List ℕ) (us : List Term) → StandAt (terms nodes) ps us → (k : ℕ) →
      ((p : ℕ) × (u : Term) × (slice_get (terms nodes) p ≡ Some u) × (slice_get us k ≡ Some u) × (get_or (labels_at ls ps) k 0 ≡ label_at ls p)) ⊎ (get_or (labels_at ls ps) k 0 ≡ 0)
  argument_at [] us e k = inr refl
  argument_at (p ∷ ps) [] e k = cc
  argument_at (p ∷ ps) (u ∷ us) e zero = let a : slice_get (terms nodes) p ≡ Some u = cc in inl (p, u, a, refl, refl)
  argument_at (p ∷ ps) (u ∷ us) e (suc k) = let b : map (slice_get (terms nodes)) ps ≡ map Some us = cc in argument_at ps us b k

  -- the label of an argument is one, and is that of a truth, where it is a form and each form is true or false
  argument_label : (k : ℕ) → IsLabel ls (get_or (labels_at ls n.args) k 0)
  argument_label k = by_case (argument_at n.args (arguments_of n.term) (h.arguments i n at) k)
    where
      by_case : ((p : ℕ) × (u : Term) × (slice_get (terms nodes) p ≡ Some u) × (slice_get (arguments_of n.term) k ≡ Some u) × (get_or (labels_at ls n.args) k 0 ≡ label_at ls p)) ⊎ (get_or (labels_at ls n.args) k 0 ≡ 0) →
          IsLabel ls (get_or (labels_at ls n.args) k 0)
      by_case (inl x) =
          let m = place_of_image (λ m. m.term) nodes x.0 x.1 x.2 in
          inr (subst (Contains ls) (sym x.4) (label_contained ls x.0 (same_length nodes ls x.0 m.0 rows m.1)))
      by_case (inr e) = inl (omega (arith, e))

  argument_decided : is_over_forms (connective_of n.term) ≡ true → IsDecided nodes ls → (k : ℕ) → get_or (labels_at ls n.args) k 0 < 2
  argument_decided f d k = by_case (argument_at n.args (arguments_of n.term) (h.arguments i n at) k)
    where
      by_case : ((p : ℕ) × (u : Term) × (slice_get (terms nodes) p ≡ Some u) × (slice_get (arguments_of n.term) k ≡ Some u) × (get_or (labels_at ls n.args) k 0 ≡ label_at ls p)) ⊎ (get_or (labels_at ls n.args) k 0 ≡ 0) →
          get_or (labels_at ls n.args) k 0 < 2
      by_case (inl x) =
          let m = place_of_image (λ m. m.term) nodes x.0 x.1 x.2 in
          let form : is_form m.0.term ≡ true = ap is_form m.2 ∙ arguments_are_forms n.term f k x.1 x.3 in
          omega (arith, x.4, d x.0 m.0 m.1 form)
      by_case (inr e) = omega (arith, e)

  -- and so it is read
  argument_read : is_over_forms (connective_of n.term) ≡ true → (L : Labels) (read : ℕ → ℕ) → Reads nodes ls L read → (k : ℕ) → read (get_or (labels_at ls n.args) k 0) < 2
  argument_read f L read r k = by_case (argument_at n.args (arguments_of n.term) (h.arguments i n at) k)
    where
      by_case : ((p : ℕ) × (u : Term) × (slice_get (terms nodes) p ≡ Some u) × (slice_get (arguments_of n.term) k ≡ Some u) × (get_or (labels_at ls n.args) k 0 ≡ label_at ls p)) ⊎ (get_or (labels_at ls n.args) k 0 ≡ 0) →
          read (get_or (labels_at ls n.args) k 0) < 2
      by_case (inl x) =
          let t = r.labelling.truths x.1 (place_contains (terms nodes) x.0 x.1 x.2) (arguments_are_forms n.term f k x.1 x.3) in
          omega (arith, ap read x.4 ∙ read_row nodes ls L read r x.0 x.1 x.2, t)
      by_case (inr e) = omega (arith, ap read e ∙ r.falsity)

  term_at : slice_get (terms nodes) i ≡ Some n.term
  term_at = place_mapped (λ m. m.term) nodes i n at

  -- what the term of a row is implies nothing more
  pub settled_alone : IsComplete (connective_of n.term) (label_at ls i) (get_or (labels_at ls n.args) 0 0) (get_or (labels_at ls n.args) 1 0) → IsSettledAlone nodes ls i
  settled_alone f m e d l t =
      let same : n ≡ m = some_same n m (sym at ∙ e) in
      let table : label_by (connective_of n.term) (labels_at ls n.args) ≡ Some l = ap (λ x. label_by (connective_of x.term) (labels_at ls x.args)) same ∙ t in
      f (d i n at (known_is_form n.term (get_or (labels_at ls n.args) 0 0) (get_or (labels_at ls n.args) 1 0) l table)) (λ o. argument_decided o d 0) (λ o. argument_decided o d 1) l table

  one_label : (l : ℕ) → IsOneOf (label_at ls i) (get_or (labels_at ls n.args) 0 0) (get_or (labels_at ls n.args) 1 0) l → IsLabel ls l
  one_label l (inl x) = inl x
  one_label l (inr (inl x)) = inr (subst (Contains ls) (sym x) (label_contained ls i (same_length nodes ls i n rows at)))
  one_label l (inr (inr (inl x))) = subst (IsLabel ls) (sym x) (argument_label 0)
  one_label l (inr (inr (inr x))) = subst (IsLabel ls) (sym x) (argument_label 1)

  -- or two labels that have to be one
  pub joined_alone : (e : Equation) → IsImplied (connective_of n.term) (label_at ls i) (get_or (labels_at ls n.args) 0 0) (get_or (labels_at ls n.args) 1 0) e → AreJoined nodes ls e.left e.right
  joined_alone e x = record {
    apart = x.apart;
    first = one_label e.left x.first;
    second = one_label e.right x.second;
    joined = λ L read r.
        let there = place_contains (terms nodes) i n.term term_at in
        let own = read_row nodes ls L read r i n.term term_at in
        let args : map read (labels_at ls n.args) ≡ map L (arguments_of n.term) = read_rows nodes ls L read r n.args (arguments_of n.term) (h.arguments i n at) in
        let left : get_or (map L (arguments_of n.term)) 0 0 ≡ read (get_or (labels_at ls n.args) 0 0) = ap (λ l. get_or l 0 0) (sym args) ∙ default_read read r.falsity (labels_at ls n.args) 0 in
        let right : get_or (map L (arguments_of n.term)) 1 0 ≡ read (get_or (labels_at ls n.args) 1 0) = ap (λ l. get_or l 1 0) (sym args) ∙ default_read read r.falsity (labels_at ls n.args) 1 in
        let some = x.known (read (get_or (labels_at ls n.args) 0 0)) (read (get_or (labels_at ls n.args) 1 0)) in
        let by : label_by (connective_of n.term) (map L (arguments_of n.term)) ≡ Some some.0 =
        ap (λ l. by_table (connective_of n.term) l (get_or (map L (arguments_of n.term)) 1 0)) left ∙ ap (by_table (connective_of n.term) (read (get_or (labels_at ls n.args) 0 0))) right ∙ some.1 in
        x.joined read (record {
          falsity = r.falsity;
          truth = r.truth;
          own_truth = omega (arith, own, r.labelling.truths n.term there (known_is_form n.term (read (get_or (labels_at ls n.args) 0 0)) (read (get_or (labels_at ls n.args) 1 0)) some.0 some.1));
          left_truth = λ f. argument_read f L read r 0;
          right_truth = λ f. argument_read f L read r 1;
          table = some.1 ∙ ap Some (sym (r.labelling.tables n.term there some.0 by) ∙ sym own);
        });
  }

  pub row_match : (r : Option Equation) →
      MatchOption r (IsComplete (connective_of n.term) (label_at ls i) (get_or (labels_at ls n.args) 0 0) (get_or (labels_at ls n.args) 1 0))
      (IsImplied (connective_of n.term) (label_at ls i) (get_or (labels_at ls n.args) 0 0) (get_or (labels_at ls n.args) 1 0)) →
      MatchOption r (IsSettledAlone nodes ls i) (IsJoining nodes ls)
  row_match None h = settled_alone h
  row_match (Some e) h = joined_alone e h

  -- the same from equal values
  pub row_match_at : (r : Option Equation) (k : Connective) (own x y : ℕ) → k ≡ connective_of n.term → own ≡ label_at ls i → x ≡ get_or (labels_at ls n.args) 0 0 → y ≡ get_or (labels_at ls n.args) 1 0 →
      MatchOption r (IsComplete k own x y) (IsImplied k own x y) → MatchOption r (IsSettledAlone nodes ls i) (IsJoining nodes ls)
  row_match_at r k own x y a b d e q =
      row_match r
      (subst (λ z. MatchOption r (IsComplete z (label_at ls i) (get_or (labels_at ls n.args) 0 0) (get_or (labels_at ls n.args) 1 0)) (IsImplied z (label_at ls i) (get_or (labels_at ls n.args) 0 0) (get_or (labels_at ls n.args) 1 0))) a
      (subst (λ z. MatchOption r (IsComplete k z (get_or (labels_at ls n.args) 0 0) (get_or (labels_at ls n.args) 1 0)) (IsImplied k z (get_or (labels_at ls n.args) 0 0) (get_or (labels_at ls n.args) 1 0))) b
      (subst (λ z. MatchOption r (IsComplete k own z (get_or (labels_at ls n.args) 1 0)) (IsImplied k own z (get_or (labels_at ls n.args) 1 0))) d
      (subst (λ z. MatchOption r (IsComplete k own x z) (IsImplied k own x z)) e q))))

-- pairs of rows

module _ (nodes : List Node) (h : IsTable nodes) (ls : List ℕ) (i j : ℕ) (m n : Node) (at_i : slice_get nodes i ≡ Some m) (at_j : slice_get nodes j ≡ Some n) where
  first_term : slice_get (terms nodes) i ≡ Some m.term
  first_term = place_mapped (λ x. x.term) nodes i m at_i

  second_term : slice_get (terms nodes) j ≡ Some n.term
  second_term = place_mapped (λ x. x.term) nodes j n at_j

  -- one operator, and equal labels of arguments
  pub joined_congruent : (rows : length ls ≡ length nodes) → label_at ls i ≢ label_at ls j → labels_at ls m.args ≡ labels_at ls n.args → operator_of m.term ≡ operator_of n.term → AreJoined nodes ls (label_at ls i) (label_at ls j)
  joined_congruent rows d e o = record {
    apart = d;
    first = inr (label_contained ls i (same_length nodes ls i m rows at_i));
    second = inr (label_contained ls j (same_length nodes ls j n rows at_j));
    joined = λ L read r.
        read_row nodes ls L read r i m.term first_term
        ∙ r.labelling.congruent m.term n.term (place_contains (terms nodes) i m.term first_term) (place_contains (terms nodes) j n.term second_term) o
        (sym (read_rows nodes ls L read r m.args (arguments_of m.term) (h.arguments i m at_i)) ∙ ap (map read) e ∙ read_rows nodes ls L read r n.args (arguments_of n.term) (h.arguments j n at_j))
        ∙ sym (read_row nodes ls L read r j n.term second_term);
  }

  -- different literals with one label
  pub joined_different : label_at ls i ≡ label_at ls j → AreDifferent m.term n.term → AreJoined nodes ls 0 1
  joined_different e d = record {
    apart = omega arith;
    first = inl (omega arith);
    second = inl (omega arith);
    joined = λ L read r.
        absurd (r.labelling.literals m.term n.term (place_contains (terms nodes) i m.term first_term) (place_contains (terms nodes) j n.term second_term) d
        (sym (read_row nodes ls L read r i m.term first_term) ∙ ap read e ∙ read_row nodes ls L read r j n.term second_term));
  }

  pub settled_pair : (operator_of m.term ≡ operator_of n.term → labels_at ls m.args ≡ labels_at ls n.args → label_at ls i ≡ label_at ls j) → (AreDifferent m.term n.term → label_at ls i ≢ label_at ls j) → IsSettledPair nodes ls i j
  settled_pair f g x y a b =
      let p : m ≡ x = some_same m x (sym at_i ∙ a) in
      let q : n ≡ y = some_same n y (sym at_j ∙ b) in
      record {
        congruent = λ o e. f (ap (λ z. operator_of z.term) p ∙ o ∙ sym (ap (λ z. operator_of z.term) q)) (ap (λ z. labels_at ls z.args) p ∙ e ∙ sym (ap (λ z. labels_at ls z.args) q));
        literals = λ d. g (subst (λ z. AreDifferent z.term n.term) (sym p) (subst (λ z. AreDifferent x.term z.term) (sym q) d));
      }
