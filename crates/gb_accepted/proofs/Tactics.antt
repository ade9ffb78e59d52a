-- What is left of goals after a tactic leads to them.
use Rattle.std.proofs.Common.{◌≡◌, ℕ, zero, suc, ◌==◌, Bool, true, false, ◌&&◌, nat_le, if◌then◌else◌, List, [], ◌∷◌, ◌++◌, length, map, append-nil, refl, ap, sym, ◌∙◌, subst}
use Rattle.std.proofs.lemmas.Bool.{eqb-true}
use Rattle.std.specs.List.{AllByRecursion, zip}
use Rattle.gb_core.specs.declared.place.Place.{Place}
use Rattle.gb_core.specs.declared.refusal.Why.TheVariants.{Argument, Syntax}
use Rattle.gb_goal.specs.declared.sequent.Sequent.{Sequent}
use Rattle.gb_script.specs.declared.head.Head.{Head}
use Rattle.gb_script.specs.declared.head.Head.TheVariants as head
use Rattle.gb_script.specs.declared.tree.Node.{Node, roll-Node, roll-out-Node, out-roll-Node, ind-Node}
use Rattle.gb_script.specs.Each.{Each, EachOf}
use Rattle.gb_script.specs.Each.Each.{each}
use Rattle.gb_script.specs.Each.EachOf.{none, more}
use Rattle.gb_script.specs.Tree.{node, head_of, text_of, place_of}
use Rattle.gb_limits.specs.Numbers.{number_of}
use Rattle.gb_goal.specs.Answers.{Answer, ◌>>=◌, nowhere, placed_at}
use Rattle.gb_goal.specs.Answers.Answer.{given, refused}
use Rattle.gb_goal.specs.Scope.{Declarations}
use Rattle.gb_smt_laws.proofs.Split.{each_left}
use Rattle.gb_smt_laws.proofs.Used.{each_together}
use Rattle.gb_names.proofs.Nodes.{said, said_is}
use Rattle.gb_elab_laws.proofs.Given.{given_bind, given_is}
use Rattle.gb_theory.specs.Patterns.{all_new, is_pattern}
use Rattle.gb_theory.specs.Combinators.{Stepping, Working, gathered_behind, on_each, or_left, in_turn, spread, repeated, times, fitted, inside, introduced, ruled, patterned, done_at, stepped_by, worked, works}
use Rattle.gb_accepted.proofs.Given.{given_placed, nothing_given}

-- goals that are typed, and from which goals follow that hold
pub record Lead (T H : Sequent → Type 0) (qs rs : List Sequent) : Type 0 where
  pub typed : AllByRecursion T rs
  pub leads : AllByRecursion H rs → AllByRecursion H qs

module _ (T H : Sequent → Type 0) where
  -- what works on goals leaves goals that lead to them
  abbrev pub Keeps : Working → Type 0
  Keeps w = (qs rs : List Sequent) → AllByRecursion T qs → w qs ≡ given rs → Lead T H qs rs

  abbrev pub KeepsEach : Stepping → Type 0
  KeepsEach f = (q : Sequent) (rs : List Sequent) → T q → f q ≡ given rs → Lead T H (q ∷ []) rs

  left : (qs rs : List Sequent) → AllByRecursion T qs → given qs ≡ given rs → Lead T H qs rs
  left qs rs t e = subst (Lead T H qs) (given_is qs rs e) (record { typed = t; leads = λ h. h })

  after : (qs rs ss : List Sequent) → Lead T H qs rs → Lead T H rs ss → Lead T H qs ss
  after qs rs ss x y = record { typed = y.typed; leads = λ h. x.leads (y.leads h) }

  -- each goal beside an answer that leads to it
  abbrev Answered : List Sequent → List (Answer (List Sequent)) → Type 0
  Answered [] [] = Unit {0}
  Answered (q ∷ qs) (x ∷ xs) = ((rs : List Sequent) → x ≡ given rs → Lead T H (q ∷ []) rs) × Answered qs xs
  Answered _ _ = ⊥

  abbrev one_each : List Working → List Sequent → List (Answer (List Sequent))
  one_each ws qs = map (λ x. x.0 (x.1 ∷ [])) (zip ws qs)

  -- goals that were left before stay in front
  gathered_keep : (ls qs : List Sequent) (xs : List (Answer (List Sequent))) (rs : List Sequent) → AllByRecursion T ls → Answered qs xs →
      gathered_behind ls xs ≡ given rs → Lead T H (ls ++ qs) rs
  gathered_keep ls [] [] rs t u e = subst (λ z. Lead T H z rs) (sym (append-nil ls)) (left ls rs t e)
  gathered_keep ls (q ∷ qs) (x ∷ xs) rs t u e =
      let a = given_bind x (λ (more : List Sequent). gathered_behind (ls ++ more) xs) rs e in
      let k = u.0 a.0 a.1 in
      let y = gathered_keep (ls ++ a.0) qs xs rs (each_together T ls a.0 t k.typed) u.1 a.2 in
      record {
        typed = y.typed;
        leads = λ h.
            let s = each_left H (ls ++ a.0) qs (y.leads h) in
            let v = each_left H ls a.0 s.0 in
            each_together H ls (q ∷ qs) v.0 ((k.leads v.1).0, s.1);
      }
  gathered_keep ls [] (x ∷ xs) rs t u e = absurd u
  gathered_keep ls (q ∷ qs) [] rs t u e = absurd u

  each_answered : (f : Stepping) → KeepsEach f → (qs : List Sequent) → AllByRecursion T qs → Answered qs (map f qs)
  each_answered f k [] t = tt
  each_answered f k (q ∷ qs) t = ((λ rs e. k q rs t.0 e), each_answered f k qs t.1)

  pub each_keeps : (f : Stepping) → KeepsEach f → Keeps (on_each f)
  each_keeps f k qs rs t e = gathered_keep [] qs (map f qs) rs tt (each_answered f k qs t) e

  one_keeps : (w : Working) → Keeps w → KeepsEach (λ q. w (q ∷ []))
  one_keeps w k q rs t e = k (q ∷ []) rs (t, tt) e

  left_or : (a : Answer (List Sequent)) (q : Sequent) (rs : List Sequent) → T q → ((ss : List Sequent) → a ≡ given ss → Lead T H (q ∷ []) ss) →
      or_left a q ≡ given rs → Lead T H (q ∷ []) rs
  left_or (given qs) q rs t k e = k rs e
  left_or (refused why place) q rs t k e = left (q ∷ []) rs (t, tt) e

  repeat_keeps : (n : ℕ) (w : Working) → Keeps w → Keeps (repeated n w)
  repeat_keeps zero w k qs rs t e = left qs rs t e
  repeat_keeps (suc n) w k qs rs t e =
      let a = given_bind (w qs) (repeated n w) rs e in
      let x = k qs a.0 t a.1 in
      after qs a.0 rs x (repeat_keeps n w k a.0 rs x.typed a.2)

  times_keep : (n : ℕ) (place : Place) (w : Working) → Keeps w → Keeps (times n place w)
  times_keep n place w k qs rs t e = by_count (nat_le 1 n && nat_le n 64) e
    where
      by_count : (b : Bool) → (if b then repeated n w qs else refused Argument place) ≡ given rs → Lead T H qs rs
      by_count true e = repeat_keeps n w k qs rs t e
      by_count false e = nothing_given Argument place rs e

  fitted_given : (h : Head) (x : Answer (List Sequent)) (rs : List Sequent) → fitted h x ≡ given rs → x ≡ given rs
  fitted_given head.SmtPattern x rs e = e
  fitted_given head.TrivialPattern x rs e = e
  fitted_given _ (given qs) rs e = e
  fitted_given _ (refused why place) rs e = nothing_given why nowhere rs e

  inside_keeps : (h : Head) (w : Working) → Keeps w → Keeps (inside h w)
  inside_keeps head.BothPatterns w k = k
  inside_keeps head.EitherPattern w k = k
  inside_keeps _ w k = λ qs rs t e. left qs rs t e

  -- where these things are declared, rules work on nodes of this kind, all of whose parts are of this kind
  module _ (ds : Declarations) (N : Node → Type 0) (f : Node → Stepping) (rules : (n : Node) → Each N n → KeepsEach (f n)) (done : (place : Place) → Each N (done_at place)) where
    abbrev rule : Head → List ℕ → List (Node × Working) → Place → Working
    rule h x ws place = patterned f h (node h x (map (λ w. w.0) ws) place) (worked ds f h ws place)

    -- a part of this kind, and that what it makes of goals keeps
    abbrev Part : Type 0
    Part = (n : Node) × Each N n × Keeps (said rule n)

    abbrev parts : List Part → List (Node × Working)
    parts ks = map (λ k. (k.0, said rule k.0)) ks

    abbrev all_of : List Part → List Working
    all_of ks = map (λ x. x.1) (parts ks)

    turn_keeps : (ks : List Part) → Keeps (in_turn (all_of ks))
    turn_keeps [] qs rs t e = left qs rs t e
    turn_keeps (k ∷ ks) qs rs t e =
        let a = given_bind (said rule k.0 qs) (in_turn (all_of ks)) rs e in
        let x = k.2 qs a.0 t a.1 in
        after qs a.0 rs x (turn_keeps ks a.0 rs x.typed a.2)

    spread_answered : (ks : List Part) (qs : List Sequent) → AllByRecursion T qs → length (all_of ks) ≡ length qs →
        Answered qs (one_each (all_of ks) qs)
    spread_answered [] [] t same = tt
    spread_answered [] (q ∷ qs) t same = absurd (cc)
    spread_answered (k ∷ ks) [] t same = absurd (cc)
    spread_answered (k ∷ ks) (q ∷ qs) t same = ((λ rs e. k.2 (q ∷ []) rs (t.0, tt) e), spread_answered ks qs t.1 (cc))

    spread_keeps : (ks : List Part) (place : Place) → Keeps (spread (all_of ks) place)
    spread_keeps ks place qs rs t e = by_length (length (all_of ks) == length qs) refl e
      where
        by_length : (b : Bool) → (length (all_of ks) == length qs) ≡ b → (if b then gathered_behind [] (one_each (all_of ks) qs) else refused Argument place) ≡ given rs → Lead T H qs rs
        by_length true same e = gathered_keep [] qs (one_each (all_of ks) qs) rs tt (spread_answered ks qs t (eqb-true (length (all_of ks)) (length qs) same)) e
        by_length false same e = nothing_given Argument place rs e

    introduced_keeps : (ks : List Part) → KeepsEach (introduced ds (parts ks))
    introduced_keeps ks q rs t e =
        let a = given_bind (all_new ds q (map (λ x. x.0) (parts ks))) (λ (_ : Unit {0}). in_turn (all_of ks) (q ∷ [])) rs e in
        turn_keeps ks (q ∷ []) rs (t, tt) a.2

    ruled_keeps : (h : Head) (r : Part) → KeepsEach (ruled f h (r.0, said rule r.0))
    ruled_keeps head.Move r = one_keeps (said rule r.0) r.2
    ruled_keeps _ r = rules r.0 r.1

    -- a rule, and what stands behind it
    rule_keeps : (r i : Part) (place : Place) → KeepsEach (λ q. placed_at place (ruled f (head_of r.0) (r.0, said rule r.0) q >>= said rule i.0))
    rule_keeps r i place q rs t e =
        let e = given_placed (ruled f (head_of r.0) (r.0, said rule r.0) q >>= said rule i.0) place rs (sym e) in
        let a = given_bind (ruled f (head_of r.0) (r.0, said rule r.0) q) (said rule i.0) rs e in
        let x = ruled_keeps (head_of r.0) r q a.0 t a.1 in
        after (q ∷ []) a.0 rs x (i.2 a.0 rs x.typed a.2)

    step_keeps : (h : Head) (ks : List Part) (place : Place) → KeepsEach (stepped_by ds f h (parts ks) place)
    step_keeps head.Tactic ks place = one_keeps (in_turn (all_of ks)) (turn_keeps ks)
    step_keeps head.Group (k ∷ []) place = one_keeps (said rule k.0) k.2
    step_keeps head.Try (k ∷ []) place = λ q rs t e. left_or (said rule k.0 (q ∷ [])) q rs t (λ ss h. one_keeps (said rule k.0) k.2 q ss t h) e
    step_keeps head.Repeat (n ∷ k ∷ []) place =
        one_keeps (times (number_of (text_of n.0)) (place_of n.0) (said rule k.0)) (times_keep (number_of (text_of n.0)) (place_of n.0) (said rule k.0) k.2)
    step_keeps head.By (k ∷ []) place = λ q rs t e.
        let a = given_bind (said rule k.0 (q ∷ [])) (on_each (f (done_at place))) rs e in
        let x = one_keeps (said rule k.0) k.2 q a.0 t a.1 in
        after (q ∷ []) a.0 rs x (each_keeps (f (done_at place)) (rules (done_at place) (done place)) a.0 rs x.typed a.2)
    step_keeps head.Rule (r ∷ i ∷ []) place = rule_keeps r i place
    step_keeps head.NoIntroduction ks place = λ q rs t e. left (q ∷ []) rs (t, tt) e
    step_keeps head.Introduction ks place = introduced_keeps ks
    step_keeps head.Move ks place = introduced_keeps ks
    step_keeps head.BothPatterns ks place = one_keeps (in_turn (all_of ks)) (turn_keeps ks)
    step_keeps _ ks place = λ q rs t e. nothing_given Syntax place rs e

    worked_keeps : (h : Head) (ks : List Part) (place : Place) → Keeps (worked ds f h (parts ks) place)
    worked_keeps head.Next (k ∷ []) place = k.2
    worked_keeps head.EitherPattern ks place = spread_keeps ks place
    worked_keeps head.Branches ks place = spread_keeps ks place
    worked_keeps h ks place = each_keeps (stepped_by ds f h (parts ks) place) (step_keeps h ks place)

    part_keeps : (h : Head) (x : List ℕ) (ks : List Part) (place : Place) → Each N (node h x (map (λ w. w.0) (parts ks)) place) → Keeps (rule h x (parts ks) place)
    part_keeps h x ks place k = by_pattern (is_pattern h)
      where
        by_pattern : (b : Bool) →
            Keeps (if b then on_each (λ q. fitted h (f (node h x (map (λ w. w.0) (parts ks)) place) q) >>= inside h (worked ds f h (parts ks) place)) else worked ds f h (parts ks) place)
        by_pattern true =
            let t = node h x (map (λ w. w.0) (parts ks)) place in
            each_keeps (λ q. fitted h (f t q) >>= inside h (worked ds f h (parts ks) place))
            (λ q rs typed e.
            let a = given_bind (fitted h (f t q)) (inside h (worked ds f h (parts ks) place)) rs e in
            let y = rules t k q a.0 typed (fitted_given h (f t q) a.0 a.1) in
            after (q ∷ []) a.0 rs y (inside_keeps h (worked ds f h (parts ks) place) (worked_keeps h ks place) a.0 rs y.typed a.2))
        by_pattern false = worked_keeps h ks place

    mutual
      node_keeps : {n : Node} → Each N n → Keeps (said rule n)
      node_keeps (each {x = n} k ks) =
          let p = known ks in
          subst Keeps (ap (λ z. rule (head_of n) (text_of n) z (place_of n)) p.1 ∙ sym (said_is rule n))
          (part_keeps (head_of n) (text_of n) p.0 (place_of n) (subst (Each N) (sym (ap (λ z. node (head_of n) (text_of n) z (place_of n)) p.2 ∙ roll-out-Node n)) (each k ks)))

      -- such nodes as parts
      known : {ns : List Node} → EachOf N ns → (ks : List Part) × (parts ks ≡ map (λ n. (n, said rule n)) ns) × (map (λ w. w.0) (parts ks) ≡ ns)
      known none = ([], refl, refl)
      known (more {x = n} k ks) = let p = known ks in ((n, k, node_keeps k) ∷ p.0, ap (λ z. (n, said rule n) ∷ z) p.1, ap (λ z. n ∷ z) p.2)

    -- a step of such nodes keeps
    pub tactic_keeps : (n : Node) → Each N n → Keeps (works ds f n)
    unfolding works
    tactic_keeps n k = node_keeps k

-- Each node is one.
pub any_node : (n : Node) → Each (λ n. Unit {0}) n
any_node = ind-Node (Each (λ n. Unit {0})) (λ x y is. subst (λ z. Each (λ n. Unit {0}) (roll-Node z)) is (each tt (subst (EachOf (λ n. Unit {0})) (sym (ap (λ z. z.parts) (out-roll-Node _))) (each_of y.parts))))
  where
    each_of : (ks : List ((n : Node) × Each (λ n. Unit {0}) n)) → EachOf (λ n. Unit {0}) (map (λ k. k.0) ks)
    each_of [] = none
    each_of (k ∷ ks) = more k.1 (each_of ks)
