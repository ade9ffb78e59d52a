-- Open proofs that the loops of a procedure end. One loop is in hand, of which some goals are left; those before it are good, and the
-- goals of those behind it haven't been touched.
use Rattle.std.proofs.Common.{◌≡◌, List, [], ◌∷◌, ◌++◌, append_assoc, append-nil, flat_map, refl, ap, sym, ◌∙◌, subst}
use Rattle.std.specs.List.{AllByRecursion}
use Rattle.gb_terms.specs.declared.decl.Proc.{Proc}
use Rattle.gb_terms.specs.declared.module.Mexp.TheVariants as mexp
use Rattle.gb_terms.specs.declared.module.ProcRef.{ProcRef}
use Rattle.gb_goal.specs.Goal.{goal_of}
use Rattle.gb_goal.specs.Scope.{Declarations}
use Rattle.gb_goal.specs.declared.scope.ProcName.{ProcName}
use Rattle.gb_goal.specs.declared.sequent.Sequent.{Sequent}
use Rattle.gb_meaning.specs.Declared.{declared}
use Rattle.gb_meaning.specs.Holds.{Holds, InEachModel, LoopsAreGood, declared_modules, interpretation}
use Rattle.gb_meaning.specs.Settings.{Interpretation, setting}
use Rattle.gb_meaning.specs.Commands.{statements}
use Rattle.gb_prog.specs.Ends.{LoopsEnd}
use Rattle.gb_typing.proofs.Lifted.{both, each}
use Rattle.gb_loops.specs.Loops.{Loop, loops}
use Rattle.gb_loops.specs.Variants.{above_zero, falling_goal, loop_goals, over_none}
use Rattle.gb_elab_laws.specs.Good.{LoopIsGood, AreGoodLoops, IsShownBy}
use Rattle.gb_elab_laws.proofs.AllGood.{all_good}
use Rattle.gb_elab_laws.proofs.GoalsEnd.{above_ends, turn_ends}
use Rattle.gb_elab_laws.proofs.Inner.{inner_before}
use Rattle.gb_elab_laws.proofs.Lists.{behind, together}
use Rattle.gb_smt_laws.proofs.Split.{each_left}
use Rattle.gb_smt_laws.proofs.Used.{each_together}
use Rattle.gb_accepted.proofs.Grounds.{IsGoalThatEnds}
use Rattle.gb_accepted.proofs.Tactics.{Lead}

-- what a reference to a procedure of a declared module is
abbrev pub named : ProcName → ProcRef
named f = record { «module» = mexp.Name f.module; name = f.name }

abbrev pub each_goals : List Loop → List Sequent
each_goals ls = flat_map loop_goals ls

pub record IsGoodLoops (ds : Declarations) (a : Proc) (goals : List Sequent) : Type 0 where
  pub done : List Loop
  pub hand : List Loop
  pub left : List Loop
  pub opened : List Sequent
  pub split : loops a.body.list ≡ done ++ (hand ++ left)
  pub are : goals ≡ opened ++ each_goals left
  pub good : AreGoodLoops (declared ds) done
  pub typed : AllByRecursion (IsGoalThatEnds ds) opened
  pub shown : AllByRecursion (Holds (declared ds)) opened → AreGoodLoops (declared ds) hand

abbrev LeadIn : Declarations → List Sequent → List Sequent → Type 0
LeadIn ds = Lead (IsGoalThatEnds ds) (Holds (declared ds))

-- the first goal may be worked on, and what leads to it goes on as it does
pub record Continues (ds : Declarations) (P : List Sequent → Type 0) (q : Sequent) (rest : List Sequent) : Type 0 where
  pub goal : IsGoalThatEnds ds q
  pub next : (qs : List Sequent) → LeadIn ds (q ∷ []) qs → P (qs ++ rest)

same_first : {X : Type 0} (x y : X) (xs ys : List X) → x ∷ xs ≡ y ∷ ys → x ≡ y
same_first x y xs ys e = cc

same_rest : {X : Type 0} (x y : X) (xs ys : List X) → x ∷ xs ≡ y ∷ ys → xs ≡ ys
same_rest x y xs ys e = cc

module _ (ds : Declarations) (a : Proc) where
  -- the loops of these are all good, in each model
  goods_append : (ls ks : List Loop) → AreGoodLoops (declared ds) ls → AreGoodLoops (declared ds) ks → AreGoodLoops (declared ds) (ls ++ ks)
  goods_append ls ks h k = λ w size table m.
      both (declared ds) (declared_modules (declared ds)) (interpretation w size table) (λ i. AllByRecursion (LoopIsGood (setting (declared ds) i)) ls) (λ i. AllByRecursion (LoopIsGood (setting (declared ds) i)) ks)
      (λ i. AllByRecursion (LoopIsGood (setting (declared ds) i)) (ls ++ ks)) (λ i x y. together (LoopIsGood (setting (declared ds) i)) ls ks x y) (h w size table m) (k w size table m)

  mapped : (P Q : Interpretation → Type 0) → ((i : Interpretation) → P i → Q i) → InEachModel (declared ds) P → InEachModel (declared ds) Q
  mapped P Q f h = λ w size table m. both (declared ds) (declared_modules (declared ds)) (interpretation w size table) P P Q (λ i x y. f i x) (h w size table m) (h w size table m)

  module _ (done hand left : List Loop) (split : loops a.body.list ≡ done ++ (hand ++ left)) (good : AreGoodLoops (declared ds) done) where
    -- a goal of the loop in hand is worked on
    in_hand : (x : Sequent) (os : List Sequent) → AllByRecursion (IsGoalThatEnds ds) (x ∷ os) → (AllByRecursion (Holds (declared ds)) (x ∷ os) → AreGoodLoops (declared ds) hand) →
        Continues ds (IsGoodLoops ds a) x (os ++ each_goals left)
    in_hand x os typed shown = record {
      goal = typed.0;
      next = λ qs lead. record {
        done = done;
        hand = hand;
        left = left;
        opened = qs ++ os;
        split = split;
        are = sym (append_assoc qs os (each_goals left));
        good = good;
        typed = each_together (IsGoalThatEnds ds) qs os lead.typed typed.1;
        shown = λ h. let k = each_left (Holds (declared ds)) qs os h in shown ((lead.leads k.0).0, k.1);
      };
    }

  module _ (each_shown : AllByRecursion (IsShownBy (declared ds)) (loops a.body.list)) where
    shown_at : (done : List Loop) (l : Loop) (left : List Loop) → loops a.body.list ≡ done ++ (l ∷ left) → IsShownBy (declared ds) l
    shown_at done l left e = (behind (IsShownBy (declared ds)) done (l ∷ left) (subst (AllByRecursion (IsShownBy (declared ds))) e each_shown)).0

    -- where the loops before it are good, the goals of a loop may be worked on
    goals_end : (done left : List Loop) (l : Loop) → loops a.body.list ≡ done ++ (l ∷ left) → AreGoodLoops (declared ds) done → AllByRecursion (IsGoalThatEnds ds) (loop_goals l)
    goals_end done left l e good =
        let s = shown_at done l left e in (
          record { typed = s.typed.0; alone = refl; ends = λ w size table m. each (declared ds) (declared_modules (declared ds)) (interpretation w size table) _ (λ i. above_ends (setting (declared ds) i) l) },
          (
            record {
              typed = s.typed.1.0;
              alone = refl;
              ends = mapped (λ i. AllByRecursion (LoopIsGood (setting (declared ds) i)) done) (λ i. LoopsEnd (setting (declared ds) i) (goal_of (falling_goal l).conclusion))
                  (λ i h. turn_ends (setting (declared ds) i) l (inner_before (LoopIsGood (setting (declared ds) i)) a.body.list done left l e h)) good;
            },
            tt,
          ),
        )

    -- the next loop is taken in hand
    next_loop : (done left : List Loop) (l : Loop) → loops a.body.list ≡ done ++ (l ∷ left) → AreGoodLoops (declared ds) done → Continues ds (IsGoodLoops ds a) (over_none (above_zero l)) (falling_goal l ∷ each_goals left)
    next_loop done left l e good =
        let s = shown_at done l left e in
        in_hand done (l ∷ []) left e good (over_none (above_zero l)) (falling_goal l ∷ []) (goals_end done left l e good)
        (λ h. mapped (λ i. LoopIsGood (setting (declared ds) i) l) (λ i. AllByRecursion (LoopIsGood (setting (declared ds) i)) (l ∷ [])) (λ i x. (x, tt)) (s.good h))

    from_left : (done left : List Loop) → loops a.body.list ≡ done ++ left → AreGoodLoops (declared ds) done → (q : Sequent) (rest : List Sequent) → q ∷ rest ≡ each_goals left →
        Continues ds (IsGoodLoops ds a) q rest
    from_left done [] e good q rest are = absurd (cc)
    from_left done (l ∷ left) e good q rest are =
        let x = same_first q (over_none (above_zero l)) rest (falling_goal l ∷ each_goals left) are in
        let y = same_rest q (over_none (above_zero l)) rest (falling_goal l ∷ each_goals left) are in
        subst (λ r. Continues ds (IsGoodLoops ds a) q r) (sym y) (subst (λ z. Continues ds (IsGoodLoops ds a) z (falling_goal l ∷ each_goals left)) (sym x) (next_loop done left l e good))

    from_open : (done hand left : List Loop) → loops a.body.list ≡ done ++ (hand ++ left) → AreGoodLoops (declared ds) done → (opened : List Sequent) → AllByRecursion (IsGoalThatEnds ds) opened →
        (AllByRecursion (Holds (declared ds)) opened → AreGoodLoops (declared ds) hand) → (q : Sequent) (rest : List Sequent) → q ∷ rest ≡ opened ++ each_goals left → Continues ds (IsGoodLoops ds a) q rest
    from_open done hand left e good [] typed shown q rest are =
        from_left (done ++ hand) left (e ∙ sym (append_assoc done hand left)) (goods_append done hand good (shown tt)) q rest are
    from_open done hand left e good (x ∷ os) typed shown q rest are =
        let y = same_first q x rest (os ++ each_goals left) are in
        let z = same_rest q x rest (os ++ each_goals left) are in
        subst (λ r. Continues ds (IsGoodLoops ds a) q r) (sym z)
        (subst (λ p. Continues ds (IsGoodLoops ds a) p (os ++ each_goals left)) (sym y) (in_hand done hand left e good x os typed shown))

    -- the first goal of such a proof may be worked on
    pub loops_continue : (q : Sequent) (rest : List Sequent) → IsGoodLoops ds a (q ∷ rest) → Continues ds (IsGoodLoops ds a) q rest
    loops_continue q rest h = from_open h.done h.hand h.left h.split h.good h.opened h.typed h.shown q rest h.are

  -- the proof begins
  pub loops_begin : IsGoodLoops ds a (each_goals (loops a.body.list))
  loops_begin = record {
    done = [];
    hand = [];
    left = loops a.body.list;
    opened = [];
    split = refl;
    are = refl;
    good = none_good;
    typed = tt;
    shown = λ h. none_good;
  }
    where
      none_good : AreGoodLoops (declared ds) []
      none_good = λ w size table m. each (declared ds) (declared_modules (declared ds)) (interpretation w size table) (λ i. Unit {0}) (λ i. tt)

  none_open : (opened : List Sequent) (left : List Loop) → [] ≡ opened ++ each_goals left → (opened ≡ []) × (left ≡ [])
  none_open [] [] e = (refl, refl)
  none_open [] (l ∷ left) e = absurd (cc)
  none_open (x ∷ opened) left e = absurd (cc)

  -- where no goal is left, the loops of the procedure are good in each model
  pub loops_proved : IsGoodLoops ds a [] → InEachModel (declared ds) (λ i. LoopsAreGood (setting (declared ds) i) (statements (setting (declared ds) i) a.body.list))
  loops_proved h =
      let n = none_open h.opened h.left h.are in
      let hand = h.shown (subst (AllByRecursion (Holds (declared ds))) (sym n.0) tt) in
      let all : loops a.body.list ≡ h.done ++ h.hand = h.split ∙ ap (λ ls. h.done ++ (h.hand ++ ls)) n.1 ∙ ap (λ ls. h.done ++ ls) (append-nil h.hand) in
      mapped (λ i. AllByRecursion (LoopIsGood (setting (declared ds) i)) (loops a.body.list)) _ (λ i x. all_good (setting (declared ds) i) a.body.list x)
      (subst (AreGoodLoops (declared ds)) (sym all) (goods_append h.done h.hand h.good hand))
