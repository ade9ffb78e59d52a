-- A parse is a derivation, and its steps build its values.
use Rattle.std.specs.Prelude.{ℕ, suc, ◌≡◌, ◌+◌, ◌-◌, ◌≤◌, ◌/◌, ◌%◌, ◌^◌, true, false, List, [], ◌∷◌, ◌++◌, length, nat_eq}
use Rattle.std.proofs.Common.{refl, ap, ap₂, sym, ◌∙◌, subst, append_assoc, arith, length-append}
use Rattle.gb_script.specs.declared.table.Step.{Step}
use Rattle.gb_script.specs.declared.table.Symbol.{Symbol}
use Rattle.gb_script.specs.Grammar.{Grammar, Production, Allowed, has, step, Derives, choose, token as derives_token}
use Rattle.gb_script.specs.declared.action.Rule.{Rule}
use Rattle.gb_script.specs.declared.text.Text.{Text}
use Rattle.gb_script.specs.declared.value.Value.{Value}
use Rattle.gb_script.specs.Build.{run, built}
use Rattle.gb_script.specs.Frame.{count_of, width_of, actions_ok}
use Rattle.gb_script.specs.Parse.{Parses, none, token, part, kinds, steps, values}
use Rattle.gb_script.proofs.Frame.{run_count, run_front, counts}

nothing_stops : (t : ℕ) → has 0 t ≡ false
nothing_stops t = let z : (0 / 2 ^ t) % 2 ≡ 0 = grind arith in ap (λ (n : ℕ). nat_eq n 1) z

always_allowed : (r : Production Rule) → r.stops ≡ 0 → (w : List ℕ) → Allowed r w
always_allowed r z [] = tt
always_allowed r z (t ∷ w) = ap (λ (s : ℕ). has s t) z ∙ nothing_stops t

module _ (g : Grammar Rule) where
  pub derived : {ss : List Symbol} (d : Parses g ss) (tail : List Symbol) (at : ℕ) (w : List ℕ) (ps : List (Step Rule)) → Derives g tail (at + length (kinds g d)) w ps → Derives g (ss ++ tail) at (kinds g d ++ w) (steps g at d ++ ps)
  derived none tail at w ps x = let e : at + 0 ≡ at = omega arith in subst (λ (n : ℕ). Derives g tail n w ps) e x
  derived (token d) tail at w ps x =
      let e : at + suc (length (kinds g d)) ≡ (at + 1) + length (kinds g d) = omega arith in
      derives_token (derived d tail (at + 1) w ps (subst (λ (n : ℕ). Derives g tail n w ps) e x))
  derived (part {ss = ss} r i z b d) tail at w ps x =
      let next = at + length (kinds g b) in
      let e : at + length (kinds g b ++ kinds g d) ≡ next + length (kinds g d) = omega (arith, length-append (kinds g b) (kinds g d)) in
      let behind = derived d tail next w ps (subst (λ (n : ℕ). Derives g tail n w ps) e x) in
      let whole = derived b (ss ++ tail) at (kinds g d ++ w) (steps g next d ++ ps) behind in
      choose r i (always_allowed r z ((kinds g b ++ kinds g d) ++ w))
      (subst (λ (v : List ℕ). Derives g (r.body ++ (ss ++ tail)) at v ((steps g at b ++ steps g next d) ++ ps)) (sym (append_assoc (kinds g b) (kinds g d) w))
      (subst (λ (l : List (Step Rule)). Derives g (r.body ++ (ss ++ tail)) at (kinds g b ++ (kinds g d ++ w)) l) (sym (append_assoc (steps g at b) (steps g next d) ps)) whole))

  module _ (t : Text) (width : ℕ → ℕ) (ok : actions_ok width g ≡ true) where
    counted : {ss : List Symbol} (at : ℕ) (d : Parses g ss) → length (values g t at d) ≡ width_of width ss
    counted at none = refl
    counted at (token d) = counted (at + 1) d
    counted at (part {n = n} r i z b d) =
        let c = counts width g ok n r i in
        let inner = counted at b in
        let rest = counted (at + length (kinds g b)) d in
        let enough : r.rule.takes ≤ length (values g t at b) = let e = c.enough in omega arith in
        let made_so : length (run t (step r at) (values g t at b)) ≡ width n =
        run_count t (step r at) (values g t at b) enough ∙ (ap (λ (k : ℕ). count_of r.rule.action r.rule.takes + (k - r.rule.takes)) inner ∙ c.leaves) in
        length-append (run t (step r at) (values g t at b)) (values g t (at + length (kinds g b)) d) ∙ ap₂ (λ (x y : ℕ). x + y) made_so rest

    pub builds : {ss : List Symbol} (at : ℕ) (d : Parses g ss) (rest : List (Step Rule)) → built t (steps g at d ++ rest) ≡ values g t at d ++ built t rest
    builds at none rest = refl
    builds at (token d) rest = builds (at + 1) d rest
    builds at (part {n = n} r i z b d) rest =
        let next = at + length (kinds g b) in
        let c = counts width g ok n r i in
        let inner = counted at b in
        let enough : r.rule.takes ≤ length (values g t at b) = let e = c.enough in omega arith in
        let below : built t ((steps g at b ++ steps g next d) ++ rest) ≡ values g t at b ++ (values g t next d ++ built t rest) =
        ap (λ (l : List (Step Rule)). built t l) (append_assoc (steps g at b) (steps g next d) rest) ∙ (builds at b (steps g next d ++ rest) ∙ ap (λ (l : List Value). values g t at b ++ l) (builds next d rest)) in
        ap (λ (l : List Value). run t (step r at) l) below
        ∙ run_front t (step r at) (values g t at b) (values g t next d ++ built t rest) enough
        ∙ sym (append_assoc (run t (step r at) (values g t at b)) (values g t next d) (built t rest))
