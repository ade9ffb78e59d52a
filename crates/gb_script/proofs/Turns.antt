-- One turn of the machine's loop.
use Rattle.std.specs.Prelude.{◌≡◌, ℕ, ◌<◌, List, [], ◌∷◌, ◌++◌, Bool, true, false, Some, None, nat_eq, reverse}
use Rattle.std.proofs.Common.{refl, ap, ◌∙◌, sym, subst}
use Rattle.std.proofs.lemmas.List.{append_assoc, reverse-append}
use Rattle.std.proofs.lemmas.Bool.{eqb-true, eqb-false}
use Rattle.gb_script.specs.declared.table.Symbol.{Symbol}
use Rattle.gb_script.specs.declared.table.Symbol.TheVariants.{Token, Part}
use Rattle.gb_script.specs.declared.table.Step.{Step}
use Rattle.gb_script.specs.Grammar.{Grammar, Production, step}
use Rattle.gb_script.specs.Check.{Claims, lead_weight, pick_of}
use Rattle.gb_script.specs.Stack.{Good, Expands, Stuck, Moved, Halted, Advanced}
use Rattle.gb_script.proofs.Sound.{Sound}
use Rattle.gb_script.proofs.Steps.{expands_open, stuck_open, stuck_match, stuck_empty, stuck_back, good_open, lead_open, picked_at}

-- what lay below the top
popped : (old new : List Symbol) (top : Symbol) → old ≡ new ++ top ∷ [] → reverse old ≡ top ∷ reverse new
popped old new top e = ap reverse e ∙ reverse-append new (top ∷ [])

module _ {R : Type 0} (g : Grammar R) (c : Claims) (s : Sound g c) (t at : ℕ) (from : List Symbol) (old : List (Step R)) where
  advanced_of : (b : Bool) (to : List Symbol) (new : List (Step R)) → (b ≡ true → Moved g c t at from old (Token t ∷ to) new) → (b ≡ false → Halted g t at from old new) → Advanced b g c t at from old to new
  advanced_of true to new f h = f refl
  advanced_of false to new f h = h refl

  -- what the loop keeps
  abbrev pub Came : List Symbol → List (Step R) → Type 0
  Came to steps = (qs : List (Step R)) × (steps ≡ old ++ qs) × Expands g t at from qs to

  halted : {to : List Symbol} (steps : List (Step R)) → Came to steps → Stuck g t at from → Halted g t at from old steps
  halted steps came stuck = record { steps = came.0; grown = came.1; stuck = stuck }

  pub turn_token : (stack stack' : List Symbol) (top : Symbol) (k : ℕ) (steps : List (Step R)) → stack ≡ stack' ++ top ∷ [] → top ≡ Token k → Came (reverse stack) steps → Good g c (reverse stack) → Advanced (nat_eq k t) g c t at from old (reverse stack') steps
  turn_token stack stack' top k steps e tok came good =
      let shape : reverse stack ≡ Token k ∷ reverse stack' = popped stack stack' top e ∙ ap (λ (x : Symbol). x ∷ reverse stack') tok in
      let x : Expands g t at from came.0 (Token k ∷ reverse stack') = subst (λ (l : List Symbol). Expands g t at from came.0 l) shape came.2 in
      let h : Good g c (Token k ∷ reverse stack') = subst (λ (l : List Symbol). Good g c l) shape good in
      advanced_of (nat_eq k t) (reverse stack') steps
      (λ (y : nat_eq k t ≡ true).
      let same = eqb-true k t y in
      record {
        steps = came.0;
        grown = came.1;
        expands = subst (λ (n : ℕ). Expands g t at from came.0 (Token n ∷ reverse stack')) same x;
        good = subst (λ (n : ℕ). Good g c (Token n ∷ reverse stack')) same h;
      })
      (λ (y : nat_eq k t ≡ false).
      halted steps came (stuck_back g c s t at from came.0 (Token k ∷ reverse stack') x (stuck_match g c s t at k (reverse stack') (eqb-false k t y))))

  pub turn_empty : (stack : List Symbol) (steps : List (Step R)) → stack ≡ [] → Came (reverse stack) steps → Halted g t at from old steps
  turn_empty stack steps e came =
      halted steps came (stuck_back g c s t at from came.0 [] (subst (λ (l : List Symbol). Expands g t at from came.0 (reverse l)) e came.2) (stuck_empty g c s t at))

  -- the top is a part
  pub record PartOnTop (stack stack' : List Symbol) (n : ℕ) (steps : List (Step R)) : Type 0 where
    pub came : Came (Part n ∷ reverse stack') steps
    pub good : Good g c (Part n ∷ reverse stack')
    pub shape : reverse stack ≡ Part n ∷ reverse stack'

  pub part_on_top : (stack stack' : List Symbol) (top : Symbol) (n : ℕ) (steps : List (Step R)) → stack ≡ stack' ++ top ∷ [] → top ≡ Part n → Came (reverse stack) steps → Good g c (reverse stack) → PartOnTop stack stack' n steps
  part_on_top stack stack' top n steps e tok came good =
      let shape : reverse stack ≡ Part n ∷ reverse stack' = popped stack stack' top e ∙ ap (λ (x : Symbol). x ∷ reverse stack') tok in
      record {
        came = (came.0, came.1, subst (λ (l : List Symbol). Expands g t at from came.0 l) shape came.2);
        good = subst (λ (l : List Symbol). Good g c l) shape good;
        shape = shape;
      }

  pub turn_none : (stack stack' : List Symbol) (n : ℕ) (steps : List (Step R)) → t < 128 → PartOnTop stack stack' n steps → pick_of g n t ≡ None → Halted g t at from old steps
  turn_none stack stack' n steps lt o p =
      halted steps o.came (stuck_back g c s t at from o.came.0 (Part n ∷ reverse stack') o.came.2 (stuck_open g c s t at n (reverse stack') lt o.good p))

  -- after a part was opened
  pub record Opened (stack next : List Symbol) (steps : List (Step R)) : Type 0 where
    pub came : Came (reverse next) steps
    pub good : Good g c (reverse next)
    pub less : lead_weight c (reverse next) < lead_weight c (reverse stack)

  pub turn_open : (stack stack' next : List Symbol) (n : ℕ) (steps steps' : List (Step R)) (r : Production R) → t < 128 → PartOnTop stack stack' n steps → pick_of g n t ≡ Some r → steps' ≡ steps ++ step r at ∷ [] → reverse next ≡ r.body ++ reverse stack' → Opened stack next steps'
  turn_open stack stack' next n steps steps' r lt o p more put =
      let picked = picked_at g n t r p in
      let x = expands_open g c s t at from o.came.0 n (reverse stack') r lt o.good picked.is picked.starts p o.came.2 in
      record {
        came = (o.came.0 ++ step r at ∷ [], more ∙ ap (λ (l : List (Step R)). l ++ step r at ∷ []) o.came.1 ∙ append_assoc old o.came.0 (step r at ∷ []), subst (λ (l : List Symbol). Expands g t at from (o.came.0 ++ step r at ∷ []) l) (sym put) x);
        good = subst (λ (l : List Symbol). Good g c l) (sym put) (good_open g c s n (reverse stack') r picked.is o.good);
        less = subst (λ (l : List Symbol). lead_weight c l < lead_weight c (reverse stack)) (sym put) (subst (λ (l : List Symbol). lead_weight c (r.body ++ reverse stack') < lead_weight c l) (sym o.shape) (lead_open g c s n (reverse stack') r picked.is));
      }
