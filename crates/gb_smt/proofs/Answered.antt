-- A claim closes its leaf exactly where it is found true, and there is one answer to leaves.
use Rattle.std.proofs.Common.{◌≡◌, ℕ, ℤ, pos, inl, inr, ◌↔◌, Result, Ok, Err, IfOk, true, false, Bool, cond, Option, Some, None, List, [], ◌∷◌, ◌++◌, refl, sym, ap, ◌∙◌, subst}
use Rattle.std.specs.List.{list_any, All, Any}
use Rattle.std.specs.declared.alloc.AllocError.{AllocError}
use Rattle.std.proofs.lemmas.Bool.{false≢true}
use Rattle.std.proofs.lemmas.List.Elements.{All-head, All-tail}
use Rattle.std.proofs.lemmas.List.Folds.{Any-from_list_any, list_any-from_Any}
use Rattle.gb_core.specs.declared.value.Value.{Value}
use Rattle.gb_core.specs.declared.value.Card.{Card}
use Rattle.gb_core.specs.declared.refusal.Why.{Why}
use Rattle.gb_core.specs.declared.refusal.Why.TheVariants as why
use Rattle.gb_goal.specs.Scope.{Declarations}
use Rattle.gb_smt.specs.declared.leaves.Leaf.{Leaf}
use Rattle.gb_smt.specs.declared.claims.Claim.{Claim}
use Rattle.gb_smt.specs.declared.assign.Found.{Found}
use Rattle.gb_smt.specs.declared.assign.Found.TheVariants.{True, False, Unknown, Overflow}
use Rattle.gb_smt.specs.declared.apply.Tried.{Tried}
use Rattle.gb_smt.specs.declared.apply.Tried.TheVariants.{Closed, Refuted, Undecided, OutOfRange}
use Rattle.gb_smt.specs.declared.apply.Open.{Open}
use Rattle.gb_dist.specs.declared.whole.Overflow as number
use Rattle.gb_smt.specs.Equations.{used_up}
use Rattle.gb_smt.specs.Claims.{claims_of}
use Rattle.gb_closing.specs.Counted.{is_tried}
use Rattle.gb_labels.specs.Labels.{Labels}
use Rattle.gb_smt.specs.Width.{most_of, width_of}
use Rattle.gb_smt.specs.Assign.{found_with, labelled_claim}
use Rattle.gb_smt.specs.ByEquality.{ClosesByEquality}
use Rattle.gb_smt.specs.Apply.{trial_at, trial_of, trial_with, is_true, is_found_true, shown_by, out_of_range_or, refuted_by, left_open, open_outcome, outcome_of, Closes, IsClosed, IsReason, IsTriedAnswer, IsOpen, IsFirstOpen, IsAnswer, IsAnswerOf}
use Rattle.gb_smt.proofs.Findings.{true_with}
use Rattle.gb_smt.proofs.ByEquality.{count_once}
use Rattle.gb_smt.proofs.Trials.{trial_by, outcome_open, outcome_true}

-- claims that close

true_only : (w : Card) (f : Found) → is_true (trial_at w f).found ≡ true → f ≡ True
true_only w True e = refl
true_only w (False values) e = absurd (false≢true e)
true_only w Unknown e = absurd (false≢true e)
true_only w (Overflow o) e = absurd (false≢true e)

true_by : (b : Bool) (w : Card) (f : Found) → is_true (trial_by b w f).found ≡ true → (b ≡ true) × (f ≡ True)
true_by true w f e = (refl, true_only w f e)
true_by false w f e = absurd (false≢true e)

module _ (ds : Declarations) where
  closes_by : (c : Claim) (o : Option Labels) → most_of ds c ≡ o → is_true (trial_with ds o c).found ≡ true → Closes ds c
  closes_by c None p e = absurd (false≢true e)
  closes_by c (Some most) p e =
      let width = width_of ds (labelled_claim most c) in
      let q = true_by (is_tried width) width (found_with ds most c) e in
      record { most = most; counted = p; tried = q.0; each = (true_with ds most c).0 q.1 }

  closes_if : (c : Claim) → is_found_true ds c ≡ true → Closes ds c
  closes_if c e = closes_by c (most_of ds c) refl e

  closes_only : (c : Claim) → Closes ds c → is_found_true ds c ≡ true
  closes_only c h =
      let width = width_of ds (labelled_claim h.most c) in
      ap (λ o. is_true (trial_with ds o c).found) h.counted
      ∙ ap (λ b. is_true (trial_by b width (found_with ds h.most c)).found) h.tried
      ∙ ap (λ f. is_true (trial_at width f).found) ((true_with ds h.most c).1 h.each)

  any_mapped : (P Q : Claim → Type 0) → ((c : Claim) → P c → Q c) → (cs : List Claim) → Any P cs → Any Q cs
  any_mapped P Q f cs a = (a.0, a.1, a.2, a.3, f a.1 a.4)

  not_closed_by : (f : Found) (w : Card) → refuted_by f w ≡ Closed → ⊥
  not_closed_by True w e = cc
  not_closed_by Unknown w e = cc
  not_closed_by (Overflow o) w e = cc
  not_closed_by (False values) w e = by_width (is_tried w) e
    where
      by_width : (b : Bool) → cond b (Refuted values) (Undecided w) ≡ Closed → ⊥
      by_width true e = cc
      by_width false e = cc

  not_closed_at : (f : Found) (o : Open) → left_open f o ≡ Closed → ⊥
  not_closed_at f o e = by_overflow o.overflow e
    where
      by_overflow : (x : Option number.Overflow) → out_of_range_or x (refuted_by f o.widest) ≡ Closed → ⊥
      by_overflow (Some y) e = cc
      by_overflow None e = not_closed_by f o.widest e

  not_closed : (cs : List Claim) → open_outcome ds cs ≡ Closed → ⊥
  not_closed [] e = cc
  not_closed (c ∷ cs) e = not_closed_at (trial_of ds c).found (shown_by ds (c ∷ cs)) e

  closed_by_test : (cs : List Claim) (b : Bool) → list_any (is_found_true ds) cs ≡ b → outcome_of ds cs ≡ Closed → Any (Closes ds) cs
  closed_by_test cs true h e = any_mapped (λ c. is_found_true ds c ≡ true) (Closes ds) closes_if cs (Any-from_list_any (is_found_true ds) cs h)
  closed_by_test cs false h e = absurd (not_closed cs (sym (outcome_open ds cs h) ∙ e))

  closed_if : (cs : List Claim) → outcome_of ds cs ≡ Closed → Any (Closes ds) cs
  closed_if cs e = closed_by_test cs (list_any (is_found_true ds) cs) refl e

  closed_only : (cs : List Claim) → Any (Closes ds) cs → outcome_of ds cs ≡ Closed
  closed_only cs a = outcome_true ds cs (list_any-from_Any (is_found_true ds) cs (any_mapped (Closes ds) (λ c. is_found_true ds c ≡ true) closes_only cs a))

  pub closed_exactly : (cs : List Claim) → outcome_of ds cs ≡ Closed ↔ Any (Closes ds) cs
  closed_exactly cs = (closed_if cs, closed_only cs)

  -- the answer to a leaf without equations, from what trying its claims comes to
  pub tried_closed : (l : Leaf) (t : Tried) → t ≡ outcome_of ds (claims_of l) → t ≡ Closed → Any (Closes ds) (claims_of l)
  tried_closed l t p e = closed_if (claims_of l) (sym p ∙ e)

  -- the answer to a leaf, from that to it without its equations
  module _ (l whole : Leaf) (q : l ≡ used_up whole) where
    pub tried_answer : (r : Result (Option Why) AllocError) → (ClosesByEquality whole → ⊥) → IfOk r (IsTriedAnswer ds l) → IfOk r (IsAnswer ds whole)
    tried_answer (Ok None) n a = inr (subst (λ x. Any (Closes ds) (claims_of x)) q a)
    tried_answer (Ok (Some w)) n a = (n, subst (λ x. IsReason ds x w) q a)
    tried_answer (Err e) n a = tt

  -- one answer

  tried_or_open : (l : Leaf) (w : Why) → Any (Closes ds) (claims_of (used_up l)) → IsReason ds (used_up l) w → ⊥
  tried_or_open l (why.False values) c r = let e = closed_only (claims_of (used_up l)) c in cc
  tried_or_open l (why.Undecided width atoms) c r = let e = closed_only (claims_of (used_up l)) c in let q = r.0 in cc
  tried_or_open l (why.Overflow left right) c r = let e = closed_only (claims_of (used_up l)) c in cc
  tried_or_open l _ c r = r

  closed_or_open : (l : Leaf) (w : Why) → IsClosed ds l → IsOpen ds l w → ⊥
  closed_or_open l w (inl c) r = r.0 c
  closed_or_open l w (inr c) r = tried_or_open l w c r.1

  undecided_once : (l : Leaf) (width w : Card) (m n : ℕ) → IsReason ds l (why.Undecided width m) → IsReason ds l (why.Undecided w n) → why.Undecided width m ≡ why.Undecided w n
  undecided_once l width w m n a b =
      let e : width ≡ w = (let p = a.0 in let q = b.0 in cc) in
      ap (λ x. why.Undecided x m) e ∙ ap (why.Undecided w) (count_once _ m n a.1 b.1)

  false_once : (l : Leaf) (values : List Value) (w : Why) → IsReason ds l (why.False values) → IsReason ds l w → why.False values ≡ w
  false_once l values (why.False vs) a b = let e : values ≡ vs = cc in ap why.False e
  false_once l values (why.Undecided width n) a b = let q = b.0 in absurd (cc)
  false_once l values (why.Overflow left right) a b = absurd (cc)
  false_once l values _ a b = absurd b

  undecided_or : (l : Leaf) (width : Card) (n : ℕ) (w : Why) → IsReason ds l (why.Undecided width n) → IsReason ds l w → why.Undecided width n ≡ w
  undecided_or l width n (why.False values) a b = let q = a.0 in absurd (cc)
  undecided_or l width n (why.Undecided v m) a b = undecided_once l width v n m a b
  undecided_or l width n (why.Overflow left right) a b = let q = a.0 in absurd (cc)
  undecided_or l width n _ a b = absurd b

  operands_same : (a b c d : ℤ) → OutOfRange (record { left = a; right = b }) ≡ OutOfRange (record { left = c; right = d }) → why.Overflow a b ≡ why.Overflow c d
  operands_same a b c d e = λ i. why.Overflow (left_of (e i)) (right_of (e i))
    where
      left_of : Tried → ℤ
      left_of (OutOfRange o) = o.left
      left_of _ = pos 0

      right_of : Tried → ℤ
      right_of (OutOfRange o) = o.right
      right_of _ = pos 0

  overflow_once : (l : Leaf) (left right : ℤ) (w : Why) → IsReason ds l (why.Overflow left right) → IsReason ds l w → why.Overflow left right ≡ w
  overflow_once l left right (why.False values) a b = absurd (cc)
  overflow_once l left right (why.Undecided width n) a b = let q = b.0 in absurd (cc)
  overflow_once l left right (why.Overflow x y) a b = operands_same left right x y (sym a ∙ b)
  overflow_once l left right _ a b = absurd b

  one_reason : (l : Leaf) (v w : Why) → IsReason ds l v → IsReason ds l w → v ≡ w
  one_reason l (why.False values) w a b = false_once l values w a b
  one_reason l (why.Undecided width n) w a b = undecided_or l width n w a b
  one_reason l (why.Overflow left right) w a b = overflow_once l left right w a b
  one_reason l _ w a b = absurd a

  head_same : (a b : Leaf) (us vs : List Leaf) → a ∷ us ≡ b ∷ vs → a ≡ b
  head_same a b us vs e = cc

  tail_same : (a b : Leaf) (us vs : List Leaf) → a ∷ us ≡ b ∷ vs → us ≡ vs
  tail_same a b us vs e = cc

  first_once : (xs ys : List Leaf) (a b : Leaf) (us vs : List Leaf) (v w : Why) → xs ++ a ∷ us ≡ ys ++ b ∷ vs → All (IsClosed ds) xs → All (IsClosed ds) ys → IsOpen ds a v → IsOpen ds b w → v ≡ w
  first_once [] [] a b us vs v w e c d i j = one_reason (used_up a) v w i.1 (subst (λ l. IsOpen ds l w) (sym (head_same a b us vs e)) j).1
  first_once [] (y ∷ ys) a b us vs v w e c d i j =
      absurd (closed_or_open y v (All-head (IsClosed ds) y ys d) (subst (λ l. IsOpen ds l v) (head_same a y us (ys ++ b ∷ vs) e) i))
  first_once (x ∷ xs) [] a b us vs v w e c d i j =
      absurd (closed_or_open x w (All-head (IsClosed ds) x xs c) (subst (λ l. IsOpen ds l w) (sym (head_same x b (xs ++ a ∷ us) vs e)) j))
  first_once (x ∷ xs) (y ∷ ys) a b us vs v w e c d i j =
      first_once xs ys a b us vs v w (tail_same x y (xs ++ a ∷ us) (ys ++ b ∷ vs) e) (All-tail (IsClosed ds) x xs c) (All-tail (IsClosed ds) y ys d) i j

  closed_within : (xs us : List Leaf) (a : Leaf) → All (IsClosed ds) (xs ++ a ∷ us) → IsClosed ds a
  closed_within [] us a h = All-head (IsClosed ds) a us h
  closed_within (x ∷ xs) us a h = closed_within xs us a (All-tail (IsClosed ds) x (xs ++ a ∷ us) h)

  all_closed_or_open : (ls : List Leaf) (w : Why) → All (IsClosed ds) ls → IsFirstOpen ds ls w → ⊥
  all_closed_or_open ls w c f = closed_or_open f.leaf w (closed_within f.closed f.others f.leaf (subst (All (IsClosed ds)) f.order c)) f.reason

  first_open_once : (ls : List Leaf) (v w : Why) → IsFirstOpen ds ls v → IsFirstOpen ds ls w → v ≡ w
  first_open_once ls v w a b = first_once a.closed b.closed a.leaf b.leaf a.others b.others v w (sym a.order ∙ b.order) a.before b.before a.reason b.reason

  pub one_answer : (ls : List Leaf) (a b : Option Why) → IsAnswerOf ds ls a → IsAnswerOf ds ls b → a ≡ b
  one_answer ls None None i j = refl
  one_answer ls None (Some w) i j = absurd (all_closed_or_open ls w i j)
  one_answer ls (Some v) None i j = absurd (all_closed_or_open ls v j i)
  one_answer ls (Some v) (Some w) i j = ap Some (first_open_once ls v w i j)
