-- What tactics make of goals, by their heads and parts.
use Rattle.std.proofs.Common.{◌≡◌, ◌⊎◌, inl, inr, ℕ, suc, ◌+◌, ◌-◌, ◌<◌, ◌≤◌, ◌==◌, Bool, true, false, ◌&&◌, nat_le, if◌then◌else◌, List, [], ◌∷◌, ◌++◌, drop, length, map, Some, None, refl, ap, ◌∙◌, arith}
use Rattle.std.proofs.lemmas.Bool.{eq-eqb}
use Rattle.std.proofs.lemmas.List.{drop_all, length-map}
use Rattle.std.specs.List.{zip}
use Rattle.gb_core.specs.declared.place.Place.{Place}
use Rattle.gb_core.specs.declared.refusal.Refused.{Refused}
use Rattle.gb_core.specs.declared.refusal.Why.TheVariants.{Argument}
use Rattle.gb_goal.specs.Answers.{Answer, ◌>>=◌, Fails, placed_at}
use Rattle.gb_goal.specs.Answers.Answer.{given, refused}
use Rattle.gb_goal.specs.Scope.{Declarations}
use Rattle.gb_goal.specs.declared.sequent.Sequent.{Sequent}
use Rattle.gb_script.specs.declared.head.Head.{Head}
use Rattle.gb_script.specs.declared.head.Head.TheVariants as head
use Rattle.gb_script.specs.declared.tree.Node.{Node, roll-out-Node}
use Rattle.gb_script.specs.Tree.{node, head_of, text_of, parts_of, place_of}
use Rattle.gb_limits.specs.Numbers.{number_of}
use Rattle.gb_names.proofs.Answers.{fails_as, leads_on, passes}
use Rattle.gb_names.proofs.Nodes.{said_is}
use Rattle.gb_theory.specs.Patterns.{all_new, is_pattern}
use Rattle.gb_theory.specs.Combinators.{Stepping, done_at, fitted, gathered_behind, in_turn, inside, introduced, on_each, patterned, repeated, ruled, spread, stepped_by, times, times_allowed, Working, worked, works}
use Rattle.gb_theory.specs.Tactics.{with_works, each_works, fits, inner}

placed_behind : (place : Place) (a : Answer (List Sequent)) (k : List Sequent → Answer (List Sequent)) →
    placed_at place (a >>= k) ≡ (placed_at place a >>= λ qs. placed_at place (k qs))
placed_behind place (given x) k = refl
placed_behind place (refused why at) k = refl

module _ (ds : Declarations) (f : Node → Stepping) where
  firsts : (ts : List Node) → map (λ x. x.0) (with_works ds f ts) ≡ ts
  firsts [] = refl
  firsts (t ∷ ts) = ap (λ us. t ∷ us) (firsts ts)

  whole : (t : Node) → node (head_of t) (text_of t) (map (λ x. x.0) (with_works ds f (parts_of t))) (place_of t) ≡ t
  whole t = ap (λ ts. node (head_of t) (text_of t) ts (place_of t)) (firsts (parts_of t)) ∙ roll-out-Node t

  works_is : (t : Node) → works ds f t ≡ patterned f (head_of t) t (inner ds f t)
  unfolding works
  works_is t =
      said_is (λ h x ws p. patterned f h (node h x (map (λ w. w.0) ws) p) (worked ds f h ws p)) t
      ∙ ap (λ u. patterned f (head_of t) u (inner ds f t)) (whole t)

  -- a pattern, and what is no pattern
  pub pattern_is : (t : Node) → is_pattern (head_of t) ≡ true → works ds f t ≡ on_each (fits ds f t)
  pattern_is t e = works_is t ∙ ap (λ (b : Bool). if b then on_each (fits ds f t) else inner ds f t) e

  pub no_pattern_is : (t : Node) → is_pattern (head_of t) ≡ false → works ds f t ≡ inner ds f t
  no_pattern_is t e = works_is t ∙ ap (λ (b : Bool). if b then on_each (fits ds f t) else inner ds f t) e

  each : (ts : List Node) → map (λ x. x.1) (with_works ds f ts) ≡ each_works ds f ts
  each [] = refl
  each (t ∷ ts) = ap (λ ws. works ds f t ∷ ws) (each ts)

  module _ (h : Head) (ts : List Node) (place : Place) where
    pub tactic_is : (q : Sequent) → (h ≡ head.Tactic) ⊎ (h ≡ head.BothPatterns) → stepped_by ds f h (with_works ds f ts) place q ≡ in_turn (each_works ds f ts) (q ∷ [])
    tactic_is q (inl e) = ap (λ k. stepped_by ds f k (with_works ds f ts) place q) e ∙ ap (λ ws. in_turn ws (q ∷ [])) (each ts)
    tactic_is q (inr e) = ap (λ k. stepped_by ds f k (with_works ds f ts) place q) e ∙ ap (λ ws. in_turn ws (q ∷ [])) (each ts)

    pub introduced_by : (q : Sequent) → (h ≡ head.Introduction) ⊎ (h ≡ head.Move) → stepped_by ds f h (with_works ds f ts) place q ≡ introduced ds (with_works ds f ts) q
    introduced_by q (inl e) = ap (λ k. stepped_by ds f k (with_works ds f ts) place q) e
    introduced_by q (inr e) = ap (λ k. stepped_by ds f k (with_works ds f ts) place q) e

    pub repeat_is : (q : Sequent) (n t : Node) → h ≡ head.Repeat → ts ≡ n ∷ t ∷ [] →
        stepped_by ds f h (with_works ds f ts) place q ≡ times (number_of (text_of n)) (place_of n) (works ds f t) (q ∷ [])
    repeat_is q n t e is = ap (λ k. stepped_by ds f k (with_works ds f ts) place q) e ∙ ap (λ us. stepped_by ds f head.Repeat (with_works ds f us) place q) is

    -- a step that `done` closes
    pub by_is : (q : Sequent) (t : Node) → h ≡ head.By → ts ≡ t ∷ [] →
        stepped_by ds f h (with_works ds f ts) place q ≡ (works ds f t (q ∷ []) >>= on_each (f (done_at place)))
    by_is q t e is = ap (λ k. stepped_by ds f k (with_works ds f ts) place q) e ∙ ap (λ us. stepped_by ds f head.By (with_works ds f us) place q) is

    -- a rule, and then the patterns behind it, each with its refusals at the rule
    pub rule_is : (q : Sequent) (r i : Node) → ts ≡ r ∷ i ∷ [] →
        stepped_by ds f head.Rule (with_works ds f ts) place q ≡ (placed_at place (ruled f (head_of r) (r, works ds f r) q) >>= λ qs. placed_at place (works ds f i qs))
    rule_is q r i is =
        ap (λ us. stepped_by ds f head.Rule (with_works ds f us) place q) is ∙ placed_behind place (ruled f (head_of r) (r, works ds f r) q) (works ds f i)

    pub spread_by : (qs : List Sequent) → (h ≡ head.EitherPattern) ⊎ (h ≡ head.Branches) → worked ds f h (with_works ds f ts) place qs ≡ spread (each_works ds f ts) place qs
    spread_by qs (inl e) = ap (λ k. worked ds f k (with_works ds f ts) place qs) e ∙ ap (λ ws. spread ws place qs) (each ts)
    spread_by qs (inr e) = ap (λ k. worked ds f k (with_works ds f ts) place qs) e ∙ ap (λ ws. spread ws place qs) (each ts)

  pub step_is : (h : Head) (ws : List (Node × Working)) (place : Place) (qs : List Sequent) → (h ≡ head.Next → ⊥) → (h ≡ head.EitherPattern → ⊥) → (h ≡ head.Branches → ⊥) →
      worked ds f h ws place qs ≡ on_each (stepped_by ds f h ws place) qs
  step_is head.Next ws place qs n e b = absurd (n refl)
  step_is head.EitherPattern ws place qs n e b = absurd (e refl)
  step_is head.Branches ws place qs n e b = absurd (b refl)
  step_is _ ws place qs n e b = refl

  -- a pattern leaves goals, on which what stands inside it works, or nothing does
  pub fits_on : (t : Node) (q : Sequent) (qs : List Sequent) → (head_of t ≡ head.BothPatterns) ⊎ (head_of t ≡ head.EitherPattern) → fitted (head_of t) (f t q) ≡ given qs
      → fits ds f t q ≡ inner ds f t qs
  fits_on t q qs e is = leads_on (fitted (head_of t) (f t q)) (inside (head_of t) (inner ds f t)) qs is ∙ by_head e
    where
      by_head : (head_of t ≡ head.BothPatterns) ⊎ (head_of t ≡ head.EitherPattern) → inside (head_of t) (inner ds f t) qs ≡ inner ds f t qs
      by_head (inl e) = ap (λ h. inside h (inner ds f t) qs) e
      by_head (inr e) = ap (λ h. inside h (inner ds f t) qs) e

  inside_none : (h : Head) (w : Working) (qs : List Sequent) → (h ≡ head.BothPatterns → ⊥) → (h ≡ head.EitherPattern → ⊥) → inside h w qs ≡ given qs
  inside_none head.BothPatterns w qs b e = absurd (b refl)
  inside_none head.EitherPattern w qs b e = absurd (e refl)
  inside_none _ w qs b e = refl

  pub fits_alone : (t : Node) (q : Sequent) (qs : List Sequent) → (head_of t ≡ head.BothPatterns → ⊥) → (head_of t ≡ head.EitherPattern → ⊥) → fitted (head_of t) (f t q) ≡ given qs
      → fits ds f t q ≡ given qs
  fits_alone t q qs b e is =
      leads_on (fitted (head_of t) (f t q)) (inside (head_of t) (inner ds f t)) qs is ∙ inside_none (head_of t) (inner ds f t) qs b e

  pub rules_alone : (h : Head) (r : Node × Working) (q : Sequent) → (h ≡ head.Move → ⊥) → ruled f h r q ≡ f r.0 q
  rules_alone head.Move r q m = absurd (m refl)
  rules_alone _ r q m = refl

  -- patterns whose names are new
  module _ (ts : List Node) (q : Sequent) where
    named : introduced ds (with_works ds f ts) q ≡ (all_new ds q ts >>= λ _. in_turn (each_works ds f ts) (q ∷ []))
    named =
        ap (λ us. all_new ds q us >>= λ (_ : Unit {0}). in_turn (map (λ x. x.1) (with_works ds f ts)) (q ∷ [])) (firsts ts)
        ∙ ap (λ ws. all_new ds q ts >>= λ (_ : Unit {0}). in_turn ws (q ∷ [])) (each ts)

    pub introduced_is : all_new ds q ts ≡ given tt → introduced ds (with_works ds f ts) q ≡ in_turn (each_works ds f ts) (q ∷ [])
    introduced_is e = named ∙ leads_on (all_new ds q ts) (λ (_ : Unit {0}). in_turn (each_works ds f ts) (q ∷ [])) tt e

    pub introduced_fails : (e : Refused) → Fails (all_new ds q ts) e → Fails (introduced ds (with_works ds f ts) q) e
    introduced_fails e h = fails_as _ _ e named (passes (all_new ds q ts) (λ (_ : Unit {0}). in_turn (each_works ds f ts) (q ∷ [])) e h)

-- the next goal
module _ (g : Stepping) (goals : List Sequent) (i : ℕ) (q : Sequent) (ls : List Sequent) (here : drop i goals ≡ q ∷ drop (i + 1) goals) where
  pub next_given : (more : List Sequent) → g q ≡ given more → gathered_behind ls (map g (drop i goals)) ≡ gathered_behind (ls ++ more) (map g (drop (i + 1) goals))
  next_given more e =
      ap (λ qs. gathered_behind ls (map g qs)) here
      ∙ leads_on (g q) (λ (xs : List Sequent). gathered_behind (ls ++ xs) (map g (drop (i + 1) goals))) more e

  pub next_fails : (e : Refused) → Fails (g q) e → Fails (gathered_behind ls (map g (drop i goals))) e
  next_fails e h =
      fails_as _ _ e (ap (λ qs. gathered_behind ls (map g qs)) here)
      (passes (g q) (λ (xs : List Sequent). gathered_behind (ls ++ xs) (map g (drop (i + 1) goals))) e h)

abbrev pub one_each : List Working → List Sequent → List (Answer (List Sequent))
one_each ws qs = map (λ x. x.0 (x.1 ∷ [])) (zip ws qs)

-- the next goal, with the next tactic
module _ (ds : Declarations) (f : Node → Stepping) (ts : List Node) (goals : List Sequent) (i : ℕ) (t : Node) (q : Sequent) (ls : List Sequent)
    (tactic : drop i ts ≡ t ∷ drop (i + 1) ts) (here : drop i goals ≡ q ∷ drop (i + 1) goals) where
  next_pair : gathered_behind ls (one_each (each_works ds f (drop i ts)) (drop i goals))
      ≡ gathered_behind ls (works ds f t (q ∷ []) ∷ one_each (each_works ds f (drop (i + 1) ts)) (drop (i + 1) goals))
  next_pair =
      ap (λ us. gathered_behind ls (one_each (each_works ds f us) (drop i goals))) tactic
      ∙ ap (λ qs. gathered_behind ls (one_each (each_works ds f (t ∷ drop (i + 1) ts)) qs)) here

  abbrev after : List Sequent → Answer (List Sequent)
  after xs = gathered_behind (ls ++ xs) (one_each (each_works ds f (drop (i + 1) ts)) (drop (i + 1) goals))

  pub pair_given : (more : List Sequent) → works ds f t (q ∷ []) ≡ given more →
      gathered_behind ls (one_each (each_works ds f (drop i ts)) (drop i goals)) ≡ after more
  pair_given more e = next_pair ∙ leads_on (works ds f t (q ∷ [])) after more e

  pub pair_fails : (e : Refused) → Fails (works ds f t (q ∷ [])) e → Fails (gathered_behind ls (one_each (each_works ds f (drop i ts)) (drop i goals))) e
  pair_fails e h = fails_as _ _ e next_pair (passes (works ds f t (q ∷ [])) after e h)

-- as many tactics as goals
pub spread_is : (ds : Declarations) (f : Node → Stepping) (ts : List Node) (place : Place) (qs : List Sequent) → length ts ≡ length qs →
    spread (each_works ds f ts) place qs ≡ gathered_behind [] (one_each (each_works ds f ts) qs)
spread_is ds f ts place qs e =
    let same : (length (each_works ds f ts) == length qs) ≡ true = eq-eqb (length (each_works ds f ts)) (length qs) (length-map ts (works ds f) ∙ e) in
    ap (λ (b : Bool). if b then gathered_behind [] (one_each (each_works ds f ts) qs) else refused Argument place) same

-- no tactic is left
pub spread_ends : (ds : Declarations) (f : Node → Stepping) (ts : List Node) (i : ℕ) (ls qs : List Sequent) → length ts ≤ i →
    gathered_behind ls (one_each (each_works ds f (drop i ts)) qs) ≡ given ls
spread_ends ds f ts i ls qs h = ap (λ us. gathered_behind ls (one_each (each_works ds f us) qs)) (drop_all i ts h)

-- the next round
module _ (w : Working) (n c : ℕ) (less : c < n) (qs : List Sequent) where
  next_round : repeated (n - c) w qs ≡ repeated (suc (n - (c + 1))) w qs
  next_round = let one : n - c ≡ suc (n - (c + 1)) = omega (arith, less) in ap (λ k. repeated k w qs) one

  pub round_given : (rs : List Sequent) → w qs ≡ given rs → repeated (n - c) w qs ≡ repeated (n - (c + 1)) w rs
  round_given rs e = next_round ∙ leads_on (w qs) (repeated (n - (c + 1)) w) rs e

  pub round_fails : (e : Refused) → Fails (w qs) e → Fails (repeated (n - c) w qs) e
  round_fails e h = fails_as _ _ e next_round (passes (w qs) (repeated (n - (c + 1)) w) e h)

same_some : {A : Type 0} (x y : A) → Some x ≡ Some y → x ≡ y
same_some x y e = cc

-- rounds that may be asked for
pub times_is : (n r : ℕ) (place : Place) (w : Working) (qs : List Sequent) → times_allowed n ≡ Some r → times n place w qs ≡ repeated r w qs
times_is n r place w qs e = by_count (nat_le 1 n && nat_le n 64) e
  where
    by_count : (b : Bool) → (if b then Some n else None) ≡ Some r → (if b then repeated n w qs else refused Argument place) ≡ repeated r w qs
    by_count true e = ap (λ k. repeated k w qs) (same_some n r e)
    by_count false e = absurd (cc)
