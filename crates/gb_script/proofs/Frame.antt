-- The steps of a derivation build as many trees as its symbols have, and leave what is behind them.
use Rattle.std.specs.Prelude.{ℕ, zero, suc, ◌≡◌, ◌+◌, ◌-◌, ◌≤◌, true, List, [], ◌∷◌, ◌++◌, take, drop, length, Some, slice_get, nat_eq, nat_le}
use Rattle.std.proofs.Common.{refl, ap, ap₂, sym, ◌∙◌, subst, append_assoc, arith, length-append, length-take, length-drop}
use Rattle.std.proofs.lemmas.List.{take-append-le}
use Rattle.std.proofs.lemmas.Bool.{eqb-true, leb-true}
use Rattle.gb_script.specs.declared.table.Step.{Step}
use Rattle.gb_script.specs.declared.table.Symbol.{Symbol}
use Rattle.gb_script.specs.declared.table.Symbol.TheVariants.{Token, Part}
use Rattle.gb_script.specs.Grammar.{Grammar, Production, IsProduction, step, Derives, done, token, choose}
use Rattle.gb_script.specs.Parsing.{Spells}
use Rattle.gb_script.proofs.Tests.{both}
use Rattle.gb_script.specs.declared.action.Action.{Action}
use Rattle.gb_script.specs.declared.action.Action.TheVariants.{Nothing, Pass, Make, Enclose, Spell, Graft, Flat, Extend, Many, Lead, Attach}
use Rattle.gb_script.specs.declared.action.Rule.{Rule}
use Rattle.gb_script.specs.declared.text.Text.{Text}
use Rattle.gb_script.specs.declared.value.Value.{Value}
use Rattle.gb_script.specs.Build.{made, run, built}
use Rattle.gb_script.specs.Frame.{Frames, count_of, width_of, action_ok, actions_ok}
use Rattle.gb_script.proofs.Stacks.{append_nil}

pub made_count : (a : Action) (t : Text) (at : ℕ) (xs : List Value) → length (made a t at xs) ≡ count_of a (length xs)
made_count Nothing t at xs = refl
made_count Pass t at xs = refl
made_count (Make h) t at xs = refl
made_count (Enclose h) t at xs = refl
made_count (Spell h) t at xs = refl
made_count (Graft h) t at xs = refl
made_count Extend t at xs = refl
made_count Many t at xs = refl
made_count (Flat h) t at xs = refl
made_count (Lead h) t at xs = refl
made_count Attach t at xs = refl

widths_together : (width : ℕ → ℕ) (a b : List Symbol) → width_of width (a ++ b) ≡ width_of width a + width_of width b
widths_together width [] b = omega arith
widths_together width (Token k ∷ a) b = widths_together width a b
widths_together width (Part n ∷ a) b = let h = widths_together width a b in omega arith

pub row_ok : (width : ℕ → ℕ) (g : Grammar Rule) → actions_ok width g ≡ true → (place : ℕ) (r : Production Rule) → slice_get g place ≡ Some r → action_ok width r ≡ true
row_ok width [] ok place r e = absurd cc
row_ok width (q ∷ g) ok zero r e = let h = both (action_ok width q) (actions_ok width g) ok in let same : q ≡ r = cc in subst (λ (x : Production Rule). action_ok width x ≡ true) same h.0
row_ok width (q ∷ g) ok (suc place) r e = let h = both (action_ok width q) (actions_ok width g) ok in row_ok width g h.1 place r e

pub drop_front : (n : ℕ) (xs ys : List Value) → n ≤ length xs → drop n (xs ++ ys) ≡ drop n xs ++ ys
drop_front zero xs ys h = refl
drop_front (suc n) [] ys h = absurd (omega arith)
drop_front (suc n) (x ∷ xs) ys h = drop_front n xs ys (omega arith)

-- how many values a step leaves
pub run_count : (t : Text) (s : Step Rule) (xs : List Value) → s.rule.takes ≤ length xs → length (run t s xs) ≡ count_of s.rule.action s.rule.takes + (length xs - s.rule.takes)
run_count t s xs h =
    let size : length (take s.rule.takes xs) ≡ s.rule.takes = simp length-take (omega arith) in
    let many = made_count s.rule.action t s.at (take s.rule.takes xs) ∙ ap (λ (n : ℕ). count_of s.rule.action n) size in
    length-append (made s.rule.action t s.at (take s.rule.takes xs)) (drop s.rule.takes xs) ∙ ap₂ (λ (a b : ℕ). a + b) many (length-drop s.rule.takes xs)

-- A step works on what is on top.
pub run_front : (t : Text) (s : Step Rule) (xs ys : List Value) → s.rule.takes ≤ length xs → run t s (xs ++ ys) ≡ run t s xs ++ ys
run_front t s xs ys h =
    ap (λ (l : List Value). made s.rule.action t s.at l ++ drop s.rule.takes (xs ++ ys)) (take-append-le s.rule.takes xs ys h)
    ∙ ap (λ (l : List Value). made s.rule.action t s.at (take s.rule.takes xs) ++ l) (drop_front s.rule.takes xs ys h)
    ∙ sym (append_assoc (made s.rule.action t s.at (take s.rule.takes xs)) (drop s.rule.takes xs) ys)

-- What a row that passes takes and leaves.
pub record Counts (width : ℕ → ℕ) (n : ℕ) (r : Production Rule) : Type 0 where
  pub enough : r.rule.takes ≤ width_of width r.body
  pub leaves : count_of r.rule.action r.rule.takes + (width_of width r.body - r.rule.takes) ≡ width n

pub counts : (width : ℕ → ℕ) (g : Grammar Rule) → actions_ok width g ≡ true → (n : ℕ) (r : Production Rule) → IsProduction g n r → Counts width n r
counts width g ok n r i =
    let h = both (nat_le r.rule.takes (width_of width r.body)) (nat_eq (count_of r.rule.action r.rule.takes + (width_of width r.body - r.rule.takes)) (width r.part)) (row_ok width g ok i.place r i.row_is) in
    record {
      enough = leb-true r.rule.takes (width_of width r.body) h.0;
      leaves = eqb-true (count_of r.rule.action r.rule.takes + (width_of width r.body - r.rule.takes)) (width r.part) h.1 ∙ ap (λ (k : ℕ). width k) i.part_is;
    }

-- one more step in front
module _ (t : Text) where
  step_frames : (s : Step Rule) (ps : List (Step Rule)) (inner outer behind : ℕ) → s.rule.takes ≤ inner → count_of s.rule.action s.rule.takes + (inner - s.rule.takes) ≡ outer
      → Frames t ps (inner + behind) → Frames t (s ∷ ps) (outer + behind)
  step_frames s ps inner outer behind ti to f =
      let enough : s.rule.takes ≤ length f.values = omega (arith, f.counted) in
      record {
        values = run t s f.values;
        counted = run_count t s f.values enough ∙ omega (arith, to, f.counted);
        frame = λ rest. ap (λ (l : List Value). run t s l) (f.frame rest) ∙ run_front t s f.values (built t rest) enough;
      }

  pub frames : (width : ℕ → ℕ) (g : Grammar Rule) → actions_ok width g ≡ true → {ss : List Symbol} {at : ℕ} {w : List ℕ} {ps : List (Step Rule)} → Derives g ss at w ps → Frames t ps (width_of width ss)
  frames width g ok done = record { values = []; counted = refl; frame = λ rest. refl }
  frames width g ok (token d) = frames width g ok d
  frames width g ok (choose {n = n} {ss = ss} {at = at} {ps = ps} r i al d) =
      let c = counts width g ok n r i in
      step_frames (step r at) ps (width_of width r.body) (width n) (width_of width ss) c.enough c.leaves
      (subst (λ (k : ℕ). Frames t ps k) (widths_together width r.body ss) (frames width g ok d))

  of_trees : (steps : List (Step Rule)) (trees : List Value) → length trees ≡ 1 → built t steps ≡ trees ++ [] → (x : Value) × (built t steps ≡ x ∷ [])
  of_trees steps [] n e = absurd (omega (arith, n))
  of_trees steps (x ∷ []) n e = (x, e)
  of_trees steps (x ∷ y ∷ ys) n e = absurd (omega (arith, n))

  one_of : {steps : List (Step Rule)} → Frames t steps 1 → (x : Value) × (built t steps ≡ x ∷ [])
  one_of {steps} f = of_trees steps f.values f.counted (ap (λ (l : List (Step Rule)). built t l) (sym (append_nil steps)) ∙ f.frame [])

  pub one : (width : ℕ → ℕ) (g : Grammar Rule) → actions_ok width g ≡ true → (n : ℕ) → width n ≡ 1 → (kinds : List ℕ) (steps : List (Step Rule)) → Spells g n kinds steps → (x : Value) × (built t steps ≡ x ∷ [])
  one width g ok n w kinds steps d = one_of (subst (λ (k : ℕ). Frames t steps k) (let z : width n + 0 ≡ 1 = omega arith in z) (frames width g ok d))
