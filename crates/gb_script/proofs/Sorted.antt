-- What the steps of a derivation build is well-sorted, where the grammar passes the test.
use Rattle.std.specs.Prelude.{ℕ, zero, suc, ◌≡◌, ◌+◌, ◌-◌, ◌≤◌, true, ◌&&◌, nat_eq, nat_le, List, [], ◌∷◌, ◌++◌, take, drop, length, Some, slice_get}
use Rattle.std.proofs.Common.{refl, ap, sym, ◌∙◌, subst, append_assoc, arith, length-append, length-take, length-drop}
use Rattle.std.proofs.lemmas.Bool.{leb-true}
use Rattle.gb_script.specs.declared.table.Step.{Step}
use Rattle.gb_script.specs.declared.table.Symbol.{Symbol}
use Rattle.gb_script.specs.declared.table.Symbol.TheVariants.{Token, Part}
use Rattle.gb_script.specs.Grammar.{Grammar, Production, step, Derives, done, token, choose}
use Rattle.gb_script.specs.Parsing.{Spells}
use Rattle.gb_script.proofs.Tests.{both}
use Rattle.gb_script.specs.declared.action.Action.{Action}
use Rattle.gb_script.specs.declared.action.Action.TheVariants.{Nothing, Pass, Make, Enclose, Spell, Graft, Flat, Extend, Many, Lead, Attach}
use Rattle.gb_script.specs.declared.action.Rule.{Rule}
use Rattle.gb_script.specs.declared.text.Text.{Text}
use Rattle.gb_script.specs.declared.tree.Node.{Node}
use Rattle.gb_script.specs.declared.value.Value.{Value}
use Rattle.gb_script.specs.declared.value.Value.TheVariants.{Tree, Trees}
use Rattle.gb_script.specs.Build.{made, run, built, IsTree}
use Rattle.gb_script.specs.Frame.{count_of, width_of, action_ok, actions_ok}
use Rattle.gb_script.specs.Sorts.{Sort, Language, ValueSort, one, some, Is, HaveSorts}
use Rattle.gb_script.specs.Acts.{sort_within, sorts_within, acts, leaves, sorts_of, row_sorts_ok, sorts_ok}
use Rattle.gb_script.specs.Sorted.{BuildsSorts}
use Rattle.gb_script.proofs.Stacks.{append_nil}
use Rattle.gb_script.proofs.Frame.{run_front}
use Rattle.gb_script.proofs.Sorts.{not_false, and_both, sorts_widened}
use Rattle.gb_script.proofs.Acts.{made_sorted}

take_drop : {A : Type 0} (n : ℕ) (xs : List A) → take n xs ++ drop n xs ≡ xs
take_drop zero xs = refl
take_drop (suc n) [] = refl
take_drop (suc n) (x ∷ xs) = ap (λ l. x ∷ l) (take_drop n xs)

module _ (l : Language) where
  -- sorts of values one after another
  enough : (ts us : List ValueSort) (vs : List Value) → HaveSorts l (ts ++ us) vs → length ts ≤ length vs
  enough [] us vs d = omega arith
  enough (t ∷ ts) us [] d = absurd d
  enough (t ∷ ts) us (v ∷ vs) d = let h = enough ts us vs d.1 in omega arith

  pub front : (k : ℕ) (ts us : List ValueSort) (vs : List Value) → k ≤ length ts → HaveSorts l (ts ++ us) vs → HaveSorts l (take k ts) (take k vs)
  front zero ts us vs h d = tt
  front (suc k) [] us vs h d = absurd (omega arith)
  front (suc k) (t ∷ ts) us [] h d = absurd d
  front (suc k) (t ∷ ts) us (v ∷ vs) h d = (d.0, front k ts us vs (omega arith) d.1)

  back : (k : ℕ) (ts us : List ValueSort) (vs : List Value) → k ≤ length ts → HaveSorts l (ts ++ us) vs → HaveSorts l (drop k ts ++ us) (drop k vs)
  back zero ts us vs h d = d
  back (suc k) [] us vs h d = absurd (omega arith)
  back (suc k) (t ∷ ts) us [] h d = absurd d
  back (suc k) (t ∷ ts) us (v ∷ vs) h d = back k ts us vs (omega arith) d.1

  beside : (ts us : List ValueSort) (vs ws : List Value) → HaveSorts l ts vs → HaveSorts l us ws → HaveSorts l (ts ++ us) (vs ++ ws)
  beside [] us [] ws d e = e
  beside [] us (v ∷ vs) ws d e = absurd d
  beside (t ∷ ts) us [] ws d e = absurd d
  beside (t ∷ ts) us (v ∷ vs) ws d e = (d.0, beside ts us vs ws d.1 e)

  pub sorts_together : (sorts : ℕ → List ValueSort) (a b : List Symbol) → sorts_of sorts (a ++ b) ≡ sorts_of sorts a ++ sorts_of sorts b
  sorts_together sorts [] b = refl
  sorts_together sorts (Token k ∷ a) b = sorts_together sorts a b
  sorts_together sorts (Part n ∷ a) b = ap (λ (z : List ValueSort). sorts n ++ z) (sorts_together sorts a b) ∙ sym (append_assoc (sorts n) (sorts_of sorts a) (sorts_of sorts b))

  pub row_sorts : (sorts : ℕ → List ValueSort) (g : Grammar Rule) → sorts_ok l sorts g ≡ true → (place : ℕ) (r : Production Rule) → slice_get g place ≡ Some r → row_sorts_ok l sorts r ≡ true
  row_sorts sorts [] ok place r e = absurd cc
  row_sorts sorts (q ∷ g) ok zero r e = let h = both (row_sorts_ok l sorts q) (sorts_ok l sorts g) ok in let same : q ≡ r = cc in subst (λ (x : Production Rule). row_sorts_ok l sorts x ≡ true) same h.0
  row_sorts sorts (q ∷ g) ok (suc place) r e = row_sorts sorts g (both (row_sorts_ok l sorts q) (sorts_ok l sorts g) ok).1 place r e

  -- What a row that passes takes, makes and leaves.
  pub record Leaves (a : Action) (k m : ℕ) (ts us : List ValueSort) : Type 0 where
    pub takes : k ≤ length ts
    makes : acts l a (take k ts) (take m us) ≡ true
    keeps : sorts_within (drop k ts) (drop m us) ≡ true

  pub leaving : (a : Action) (k : ℕ) (ts us : List ValueSort) → leaves l a k ts us ≡ true → Leaves a k (length us - (length ts - k)) ts us
  leaving a k ts us e =
      let m = length us - (length ts - k) in
      let b = both (nat_le k (length ts)) (acts l a (take k ts) (take m us) && sorts_within (drop k ts) (drop m us)) e in
      let c = both (acts l a (take k ts) (take m us)) (sorts_within (drop k ts) (drop m us)) b.1 in
      record { takes = leb-true k (length ts) b.0; makes = c.0; keeps = c.1 }

  module _ (t : Text) where
    run_sorted : (s : Step Rule) (m : ℕ) (ts us behind : List ValueSort) (vs : List Value) → Leaves s.rule.action s.rule.takes m ts us → HaveSorts l (ts ++ behind) vs → HaveSorts l (us ++ behind) (run t s vs)
    run_sorted s m ts us behind vs w d =
        let k = s.rule.takes in
        let top = made_sorted l s.rule.action t s.at (take k ts) (take m us) (take k vs) w.makes (front k ts behind vs w.takes d) in
        let rest = sorts_widened l (drop k ts) (drop m us) behind (drop k vs) w.keeps (back k ts behind vs w.takes d) in
        subst (λ (z : List ValueSort). HaveSorts l z (run t s vs)) (sym (append_assoc (take m us) (drop m us) behind) ∙ ap (λ (z : List ValueSort). z ++ behind) (take_drop m us))
        (beside (take m us) (drop m us ++ behind) (made s.rule.action t s.at (take k vs)) (drop k vs) top rest)

    step_sorts : (s : Step Rule) (ps : List (Step Rule)) (ts us behind : List ValueSort) → leaves l s.rule.action s.rule.takes ts us ≡ true → BuildsSorts l t ps (ts ++ behind) → BuildsSorts l t (s ∷ ps) (us ++ behind)
    step_sorts s ps ts us behind e f =
        let w = leaving s.rule.action s.rule.takes ts us e in
        let big : s.rule.takes ≤ length f.values = let z = enough ts behind f.values f.sorted in let y = w.takes in omega arith in
        record {
          values = run t s f.values;
          sorted = run_sorted s (length us - (length ts - s.rule.takes)) ts us behind f.values w f.sorted;
          frame = λ rest. ap (λ (z : List Value). run t s z) (f.frame rest) ∙ run_front t s f.values (built t rest) big;
        }

    pub builds_sorts : (sorts : ℕ → List ValueSort) (g : Grammar Rule) → sorts_ok l sorts g ≡ true → {ss : List Symbol} {at : ℕ} {w : List ℕ} {ps : List (Step Rule)} → Derives g ss at w ps → BuildsSorts l t ps (sorts_of sorts ss)
    builds_sorts sorts g ok done = record { values = []; sorted = tt; frame = λ rest. refl }
    builds_sorts sorts g ok (token d) = builds_sorts sorts g ok d
    builds_sorts sorts g ok (choose {n = n} {ss = ss} {at = at} {ps = ps} r i al d) =
        step_sorts (step r at) ps (sorts_of sorts r.body) (sorts n) (sorts_of sorts ss)
        (subst (λ (k : ℕ). leaves l r.rule.action r.rule.takes (sorts_of sorts r.body) (sorts k) ≡ true) i.part_is (row_sorts sorts g ok i.place r i.row_is))
        (subst (λ (k : List ValueSort). BuildsSorts l t ps k) (sorts_together sorts r.body ss) (builds_sorts sorts g ok d))

    of_sort : (steps : List (Step Rule)) (s : Sort) (vs : List Value) → HaveSorts l (one s ∷ []) vs → built t steps ≡ vs → (x : Node) × (built t steps ≡ Tree x ∷ []) × Is l s x
    of_sort steps s [] d e = absurd d
    of_sort steps s (Tree x ∷ []) d e = (x, e, d.0)
    of_sort steps s (Trees xs ∷ []) d e = absurd d.0
    of_sort steps s (v ∷ w ∷ vs) d e = absurd d.1

    -- The steps of a text of a part with one tree of a sort build a tree of that sort.
    pub one_sorted : (sorts : ℕ → List ValueSort) (g : Grammar Rule) → sorts_ok l sorts g ≡ true → (n : ℕ) (s : Sort) → sorts n ≡ one s ∷ [] → (kinds : List ℕ) (steps : List (Step Rule)) → Spells g n kinds steps
        → (x : Node) × (built t steps ≡ Tree x ∷ []) × Is l s x
    one_sorted sorts g ok n s w kinds steps d =
        let f = builds_sorts sorts g ok d in
        of_sort steps s f.values (subst (λ (z : List ValueSort). HaveSorts l z f.values) (append_nil (sorts n) ∙ w) f.sorted)
        (ap (λ (z : List (Step Rule)). built t z) (sym (append_nil steps)) ∙ (f.frame [] ∙ append_nil f.values))

pub same_tree : (vs : List Value) (x y : Node) → vs ≡ Tree x ∷ [] → vs ≡ Tree y ∷ [] → x ≡ y
same_tree vs x y e f = cc

pub trees_sorted : (l : Language) (sorts : ℕ → List ValueSort) (g : Grammar Rule) → sorts_ok l sorts g ≡ true → (n : ℕ) (s : Sort) → sorts n ≡ one s ∷ [] → (kinds : List ℕ) (t : Text) (x : Node) → IsTree g n kinds t x → Is l s x
trees_sorted l sorts g ok n s w kinds t x d =
    let o = one_sorted l t sorts g ok n s w kinds d.0 d.1 in
    subst (λ (z : Node). Is l s z) (same_tree (built t d.0) o.0 x o.1 d.2) o.2

-- What passes the test of sorts passes that of counts.
module _ (l : Language) where
  same_count : (ts us : List ValueSort) → sorts_within ts us ≡ true → length ts ≡ length us
  same_count [] [] e = refl
  same_count [] (u ∷ us) e = absurd (not_false e)
  same_count (t ∷ ts) [] e = absurd (not_false e)
  same_count (t ∷ ts) (u ∷ us) e = let h = same_count ts us (both (sort_within t u) (sorts_within ts us) e).1 in omega arith

  acts_count : (c : Action) (ts us : List ValueSort) → acts l c ts us ≡ true → count_of c (length ts) ≡ length us
  acts_count Nothing ts [] e = refl
  acts_count Nothing ts (u ∷ us) e = absurd (not_false e)
  acts_count Pass ts us e = same_count ts us e
  acts_count (Make h) ts (u ∷ []) e = refl
  acts_count (Enclose h) ts (u ∷ []) e = refl
  acts_count (Spell h) ts (u ∷ []) e = refl
  acts_count (Graft h) ts (u ∷ []) e = refl
  acts_count (Flat h) ts (one s ∷ []) e = refl
  acts_count Extend (one a ∷ []) (u ∷ []) e = refl
  acts_count Extend (v ∷ one b ∷ []) (one s ∷ []) e = refl
  acts_count Extend (v ∷ some f ∷ []) (some g ∷ []) e = refl
  acts_count Many ts (u ∷ []) e = refl
  acts_count (Lead h) ts (u ∷ []) e = refl
  acts_count Attach ts (one s ∷ []) e = refl
  acts_count _ ts us e = absurd (not_false e)

  width_is : (sorts : ℕ → List ValueSort) (ss : List Symbol) → width_of (λ n. length (sorts n)) ss ≡ length (sorts_of sorts ss)
  width_is sorts [] = refl
  width_is sorts (Token k ∷ ss) = width_is sorts ss
  width_is sorts (Part n ∷ ss) = let h = width_is sorts ss in omega (arith, length-append (sorts n) (sorts_of sorts ss))

  counted : (a : Action) (k : ℕ) (ts us : List ValueSort) → leaves l a k ts us ≡ true → nat_le k (length ts) && nat_eq (count_of a k + (length ts - k)) (length us) ≡ true
  counted a k ts us e =
      let m = length us - (length ts - k) in
      let w = leaving l a k ts us e in
      let made : count_of a (length (take k ts)) ≡ length (take m us) = acts_count a (take k ts) (take m us) w.makes in
      let size : length (take k ts) ≡ k = let h = w.takes in simp length-take (omega arith) in
      let kept : length (drop k ts) ≡ length (drop m us) = same_count (drop k ts) (drop m us) w.keeps in
      let whole : length us ≡ length (take m us) + length (drop m us) = ap (λ (z : List ValueSort). length z) (sym (take_drop m us)) ∙ length-append (take m us) (drop m us) in
      let left : length (drop k ts) ≡ length ts - k = length-drop k ts in
      let sum : count_of a k + (length ts - k) ≡ length us = let c : count_of a k ≡ length (take m us) = ap (λ (n : ℕ). count_of a n) (sym size) ∙ made in omega arith in
      and_both (nat_le k (length ts)) (nat_eq (count_of a k + (length ts - k)) (length us)) (both (nat_le k (length ts)) (acts l a (take k ts) (take m us) && sorts_within (drop k ts) (drop m us)) e).0 (let z : nat_eq (count_of a k + (length ts - k)) (length us) ≡ true = grind arith in z)

  pub sorts_count : (sorts : ℕ → List ValueSort) (g : Grammar Rule) → sorts_ok l sorts g ≡ true → actions_ok (λ n. length (sorts n)) g ≡ true
  sorts_count sorts [] e = refl
  sorts_count sorts (r ∷ g) e =
      let h = both (row_sorts_ok l sorts r) (sorts_ok l sorts g) e in
      and_both (action_ok (λ n. length (sorts n)) r) (actions_ok (λ n. length (sorts n)) g)
      (subst (λ (n : ℕ). nat_le r.rule.takes n && nat_eq (count_of r.rule.action r.rule.takes + (n - r.rule.takes)) (length (sorts r.part)) ≡ true) (sym (width_is sorts r.body))
      (counted r.rule.action r.rule.takes (sorts_of sorts r.body) (sorts r.part) h.0)) (sorts_count sorts g h.1)
