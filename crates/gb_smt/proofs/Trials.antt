-- Claims tried one after another.
use Rattle.std.proofs.Common.{◌≡◌, ℕ, true, false, Bool, cond, ◌||◌, Option, Some, None, List, [], ◌∷◌, ◌++◌, map, fold, length, get_or, take, drop, ◌+◌, ◌-◌, ◌<◌, ◌≤◌, refl, sym, ap, ◌∙◌, subst, arith}
use Rattle.std.specs.List.{list_any, All}
use Rattle.std.proofs.lemmas.List.{take_all, take-append-drop, at_drop_more}
use Rattle.std.proofs.lemmas.List.Elements.{All-more}
use Rattle.gb_core.specs.declared.value.Card.{Card}
use Rattle.gb_core.specs.declared.value.Card.TheVariants.{Exact, Above}
use Rattle.gb_core.specs.declared.refusal.Why.{Why}
use Rattle.gb_goal.specs.Scope.{Declarations}
use Rattle.gb_smt.specs.declared.leaves.Leaf.{Leaf}
use Rattle.gb_smt.specs.declared.claims.Claim.{Claim}
use Rattle.gb_smt.specs.declared.assign.Found.{Found}
use Rattle.gb_smt.specs.declared.assign.Found.TheVariants.{Unknown}
use Rattle.gb_smt.specs.declared.apply.Open.{Open}
use Rattle.gb_smt.specs.declared.apply.Trial.{Trial}
use Rattle.gb_smt.specs.declared.apply.Tried.{Tried}
use Rattle.gb_smt.specs.declared.apply.Tried.TheVariants.{Closed}
use Rattle.gb_closing.specs.Counted.{is_tried}
use Rattle.gb_equality.specs.Sizes.{greater}
use Rattle.gb_labels.specs.Labels.{Labels}
use Rattle.gb_smt.specs.Width.{width_of}
use Rattle.gb_smt.specs.Assign.{found_with, labelled_claim}
use Rattle.gb_smt.specs.Apply.{trial_at, trial_of, trial_with, is_true, is_found_true, open_at, and_then, nothing_open, shown_by, open_after, left_open, open_outcome, outcome_of, IsClosed, IsAnswer, IsFirstOpen}

-- the trial of a claim, by whether its width is tried

abbrev pub trial_by : Bool → Card → Found → Trial
trial_by b w f = cond b (trial_at w f) (record { width = w; found = Unknown })

module _ (ds : Declarations) where
  pub tried : (most : Labels) (c widest : Claim) (w : Card) (f : Found) (t : Trial) → widest ≡ labelled_claim most c → w ≡ width_of ds widest → is_tried w ≡ true → f ≡ found_with ds most c → t ≡ trial_at w f → t ≡ trial_with ds (Some most) c
  tried most c widest w f t m e h q r =
      let same : w ≡ width_of ds (labelled_claim most c) = e ∙ ap (width_of ds) m in
      r
      ∙ ap (trial_at w) q
      ∙ sym (ap (λ b. trial_by b w (found_with ds most c)) h)
      ∙ ap (λ v. trial_by (is_tried v) v (found_with ds most c)) same

  -- what claims come to

  pub outcome_open : (xs : List Claim) → list_any (is_found_true ds) xs ≡ false → outcome_of ds xs ≡ open_outcome ds xs
  outcome_open xs h = ap (λ b. cond b Closed (open_outcome ds xs)) h

  pub outcome_true : (xs : List Claim) → list_any (is_found_true ds) xs ≡ true → outcome_of ds xs ≡ Closed
  outcome_true xs h = ap (λ b. cond b Closed (open_outcome ds xs)) h

  -- what claims show none of which is found true, one claim further

  module _ (cs : List Claim) (i : ℕ) (c : Claim) (o : Open) (f : Option Open) (l : i < length cs) (e : c ≡ get_or cs i c)
      (p : f ≡ cond (is_found_true ds c) None (Some (open_at (trial_of ds c)))) where
    abbrev after : Option Open → Option Open
    after None = None
    after (Some u) = open_after ds (and_then o u) (drop (i + 1) cs)

    one_open : open_after ds o (drop i cs) ≡ after f
    one_open =
        at_drop_more (open_after ds o) cs i c l
        ∙ ap (λ d. open_after ds o (d ∷ drop (i + 1) cs)) (sym e)
        ∙ by_found (is_found_true ds c)
        ∙ ap after (sym p)
      where
        by_found : (b : Bool) → cond b None (open_after ds (and_then o (open_at (trial_of ds c))) (drop (i + 1) cs)) ≡ after (cond b None (Some (open_at (trial_of ds c))))
        by_found true = refl
        by_found false = refl

    pub open_stop : f ≡ None → None ≡ open_after ds o (drop i cs)
    open_stop h = sym (one_open ∙ ap after h)

    pub open_next : (u : Open) → f ≡ Some u → open_after ds (and_then o u) (drop (i + 1) cs) ≡ open_after ds o (drop i cs)
    open_next u h = sym (one_open ∙ ap after h)

  open_is : (o : Open) (cs : List Claim) → open_after ds o cs ≡ cond (list_any (is_found_true ds) cs) None (Some (fold and_then o (map (λ c. open_at (trial_of ds c)) cs)))
  open_is o [] = refl
  open_is o (c ∷ cs) = by_first (is_found_true ds c) (open_is (and_then o (open_at (trial_of ds c))) cs)
    where
      by_first : (b : Bool) → open_after ds (and_then o (open_at (trial_of ds c))) cs ≡ cond (list_any (is_found_true ds) cs) None (Some (fold and_then (and_then o (open_at (trial_of ds c))) (map (λ d. open_at (trial_of ds d)) cs)))
          → cond b None (open_after ds (and_then o (open_at (trial_of ds c))) cs) ≡ cond (b || list_any (is_found_true ds) cs) None (Some (fold and_then (and_then o (open_at (trial_of ds c))) (map (λ d. open_at (trial_of ds d)) cs)))
      by_first true h = refl
      by_first false h = h

least : (w : Card) → greater (Exact 0) w ≡ w
least (Exact n) = ap Exact (omega arith)
least Above = refl

first_open_one : (o : Open) → and_then nothing_open o ≡ o
first_open_one o = λ i. record { widest = least o.widest i; overflow = o.overflow }

pub first_and_others : (xs : List Claim) (c : Claim) → 1 ≤ length xs → c ≡ get_or xs 0 c → xs ≡ c ∷ take (length xs - 1) (drop 1 xs)
first_and_others [] c l e = absurd (omega arith)
first_and_others (x ∷ xs) c l e = (λ i. sym e i ∷ sym (take_all (length (x ∷ xs) - 1) xs (omega arith)) i)

module _ (ds : Declarations) where
  -- what claims come to, by the first one and the widths of the others
  module _ (xs cs : List Claim) (c : Claim) (t : Trial) (e : xs ≡ c ∷ cs) (p : t ≡ trial_of ds c) where
    first_is : is_true t.found ≡ is_found_true ds c
    first_is = ap (λ u. is_true u.found) p

    pub first_true : is_true t.found ≡ true → Closed ≡ outcome_of ds xs
    first_true h = sym (ap (outcome_of ds) e ∙ outcome_true ds (c ∷ cs) (ap (λ b. b || list_any (is_found_true ds) cs) (sym first_is ∙ h)))

    open_by : (b : Bool) → list_any (is_found_true ds) cs ≡ b → open_after ds (open_at t) cs ≡ cond b None (Some (shown_by ds (c ∷ cs)))
    open_by b h =
        open_is ds (open_at t) cs
        ∙ ap (λ x. cond x None (Some (fold and_then (open_at t) (map (λ d. open_at (trial_of ds d)) cs)))) h
        ∙ ap (λ o. cond b None (Some (fold and_then o (map (λ d. open_at (trial_of ds d)) cs)))) (ap open_at p ∙ sym (first_open_one (open_at (trial_of ds c))))

    pub other_true : (o : Option Open) → o ≡ open_after ds (open_at t) cs → o ≡ None → Closed ≡ outcome_of ds xs
    other_true o q n = by_others (list_any (is_found_true ds) cs) refl
      where
        by_others : (b : Bool) → list_any (is_found_true ds) cs ≡ b → Closed ≡ outcome_of ds xs
        by_others true h = sym (ap (outcome_of ds) e ∙ outcome_true ds (c ∷ cs) (ap (λ b. is_found_true ds c || b) h ∙ or_true (is_found_true ds c)))
          where
            or_true : (b : Bool) → (b || true) ≡ true
            or_true true = refl
            or_true false = refl
        by_others false h = let f = sym n ∙ q ∙ open_by false h in absurd (cc)

    pub none_true : (o : Option Open) (w : Open) (r : Tried) → is_true t.found ≡ false → o ≡ open_after ds (open_at t) cs → o ≡ Some w → r ≡ left_open t.found w → r ≡ outcome_of ds xs
    none_true o w r d q n k = by_others (list_any (is_found_true ds) cs) refl
      where
        by_others : (b : Bool) → list_any (is_found_true ds) cs ≡ b → r ≡ outcome_of ds xs
        by_others true h = let f = sym n ∙ q ∙ open_by true h in absurd (cc)
        by_others false h =
            let f : Some w ≡ Some (shown_by ds (c ∷ cs)) = sym n ∙ q ∙ open_by false h in
            let g : w ≡ shown_by ds (c ∷ cs) = cc in
            k
            ∙ (λ i. left_open (p i).found (g i))
            ∙ sym (ap (outcome_of ds) e ∙ outcome_open ds (c ∷ cs) (λ i. (sym first_is ∙ d) i || h i))

  -- leaves one after another

  pub closed_if_none : (l : Leaf) (o : Option Why) → IsAnswer ds l o → ((w : Why) → o ≡ Some w → ⊥) → IsClosed ds l
  closed_if_none l None a h = a
  closed_if_none l (Some w) a h = absurd (h w refl)

  pub closed_more : (xs : List Leaf) (i : ℕ) (l : Leaf) (o : Option Why) → i < length xs → l ≡ get_or xs i l → All (IsClosed ds) (take i xs) → IsAnswer ds l o → ((w : Why) → o ≡ Some w → ⊥) → All (IsClosed ds) (take (i + 1) xs)
  closed_more xs i l o h e a k n = All-more (IsClosed ds) xs i l h a (subst (IsClosed ds) e (closed_if_none l o k n))

  pub all_closed : (xs ys : List Leaf) (i : ℕ) → length xs ≤ i → xs ≡ ys → All (IsClosed ds) (take i xs) → All (IsClosed ds) ys
  all_closed xs ys i h e a = subst (All (IsClosed ds)) (take_all i xs h ∙ e) a

  parted : (xs : List Leaf) (i : ℕ) (l : Leaf) → i < length xs → l ≡ get_or xs i l → xs ≡ take i xs ++ l ∷ drop (i + 1) xs
  parted xs i l h e =
      sym (take-append-drop i xs)
      ∙ at_drop_more (λ ys. take i xs ++ ys) xs i l h
      ∙ ap (λ x. take i xs ++ x ∷ drop (i + 1) xs) (sym e)

  pub first_open : (xs ls : List Leaf) (i : ℕ) (l : Leaf) (o : Option Why) (w : Why) → xs ≡ ls → i < length xs → l ≡ get_or xs i l → All (IsClosed ds) (take i xs) → IsAnswer ds l o → o ≡ Some w → IsFirstOpen ds ls w
  first_open xs ls i l o w q h e c a s = record {
    closed = take i xs;
    leaf = l;
    others = drop (i + 1) xs;
    order = sym q ∙ parted xs i l h e;
    before = c;
    reason = subst (IsAnswer ds l) s a;
  }
