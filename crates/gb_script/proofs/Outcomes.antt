-- Each list of kinds is a text, or has a first fault.
use Rattle.std.specs.Prelude.{◌≡◌, ℕ, zero, suc, ◌+◌, ◌<◌, ◌⊎◌, List, [], ◌∷◌, ◌++◌, Bool, true, false, Option, Some, None, nat_eq, length, take}
use Rattle.std.specs.List.{All}
use Rattle.std.proofs.Common.{refl, ap, sym, subst, inl, inr, ⊎_elim, arith, get_or}
use Rattle.std.proofs.lemmas.Bool.{eqb-true, eqb-false}
use Rattle.gb_script.specs.declared.table.Symbol.{Symbol}
use Rattle.gb_script.specs.declared.table.Symbol.TheVariants.{Token, Part}
use Rattle.gb_script.specs.declared.table.Step.{Step}
use Rattle.gb_script.specs.Grammar.{Grammar, Production, step}
use Rattle.gb_script.specs.Check.{Claims, is_start, lead_weight, pick_of}
use Rattle.gb_script.specs.Stack.{Good, Expands, Stuck, Moved}
use Rattle.gb_script.specs.Parsing.{IsKind, StepsBefore, IsTextOrFault}
use Rattle.gb_script.proofs.Sound.{Sound}
use Rattle.gb_script.proofs.Steps.{expands_none, expands_open, stuck_open, stuck_match, stuck_empty, stuck_back, good_open, lead_open, picked_at, reads_none}
use Rattle.gb_script.proofs.Whole.{start, good_start, faulted, short, steps_before, whole, Kept, kept_more, all_read}

module _ {R : Type 0} (g : Grammar R) (c : Claims) (s : Sound g c) where
  -- Parts are opened until the token stands on top, or nothing goes on with it.
  abbrev Turned : ℕ → ℕ → List Symbol → Type 0
  Turned t at from = ((to : List Symbol) × (qs : List (Step R)) × Expands g t at from qs (Token t ∷ to) × Good g c (Token t ∷ to)) ⊎ Stuck g t at from

  module _ (t at : ℕ) (from : List Symbol) (lt : t < 128) where
    compared : (k : ℕ) (ss : List Symbol) (qs : List (Step R)) (b : Bool) → nat_eq k t ≡ b → Good g c (Token k ∷ ss) → Expands g t at from qs (Token k ∷ ss) → Turned t at from
    compared k ss qs true e good x =
        let same = eqb-true k t e in
        inl (ss, qs, subst (λ (n : ℕ). Expands g t at from qs (Token n ∷ ss)) same x, subst (λ (n : ℕ). Good g c (Token n ∷ ss)) same good)
    compared k ss qs false e good x = inr (stuck_back g c s t at from qs (Token k ∷ ss) x (stuck_match g c s t at k ss (eqb-false k t e)))

    -- the part on top is opened, and what is on the stack then goes on
    opened : (fuel n : ℕ) (ss : List Symbol) (qs : List (Step R)) (o : Option (Production R)) → pick_of g n t ≡ o →
        ((to : List Symbol) (more : List (Step R)) → lead_weight c to < fuel → Good g c to → Expands g t at from more to → Turned t at from) →
        lead_weight c (Part n ∷ ss) < suc fuel → Good g c (Part n ∷ ss) → Expands g t at from qs (Part n ∷ ss) → Turned t at from
    opened fuel n ss qs None e on less good x = inr (stuck_back g c s t at from qs (Part n ∷ ss) x (stuck_open g c s t at n ss lt good e))
    opened fuel n ss qs (Some r) e on less good x =
        let p = picked_at g n t r e in
        let falls = lead_open g c s n ss r p.is in
        on (r.body ++ ss) (qs ++ step r at ∷ []) (omega arith) (good_open g c s n ss r p.is good) (expands_open g c s t at from qs n ss r lt good p.is p.starts e x)

    turned : (fuel : ℕ) (ss : List Symbol) (qs : List (Step R)) → lead_weight c ss < fuel → Good g c ss → Expands g t at from qs ss → Turned t at from
    turned zero ss qs less good x = absurd (omega arith)
    turned (suc fuel) [] qs less good x = inr (stuck_back g c s t at from qs [] x (stuck_empty g c s t at))
    turned (suc fuel) (Token k ∷ ss) qs less good x = compared k ss qs (nat_eq k t) refl good x
    turned (suc fuel) (Part n ∷ ss) qs less good x = opened fuel n ss qs (pick_of g n t) refl (turned fuel) less good x

    turn : Good g c from → Turned t at from
    turn good = turned (suc (lead_weight c from)) from [] (omega arith) good (expands_none g c s t at from)

  module _ (n : ℕ) (ready : is_start c n ≡ true) (kinds : List ℕ) (h : All IsKind kinds) where
    moved : (t at : ℕ) (qs : List (Step R)) (cur to : List Symbol) (more : List (Step R)) → Expands g t at cur more (Token t ∷ to) → Good g c (Token t ∷ to) → Moved g c t at cur qs (Token t ∷ to) (qs ++ more)
    moved t at qs cur to more x good = record { steps = more; grown = refl; expands = x; good = good }

    -- behind all kinds
    ends : (at : ℕ) (qs : List (Step R)) (cur : List Symbol) → length kinds ≡ at → Kept g c n at kinds qs cur → IsTextOrFault g n kinds
    ends at qs cur e kept =
        let r = all_read g c s n kinds at qs cur e kept in
        ⊎_elim
        (λ (m : (to : List Symbol) × (more : List (Step R)) × Expands g 0 (length kinds) cur more (Token 0 ∷ to) × Good g c (Token 0 ∷ to)).
        inl (qs ++ m.1, (whole g c s n ready kinds qs (qs ++ m.1) cur m.0 r (moved 0 (length kinds) qs cur m.0 m.1 m.2 m.3)).found))
        (λ (stuck : Stuck g 0 (length kinds) cur).
        inr (length kinds, qs, short g c s n ready kinds qs cur h r kept.good stuck, subst (λ (k : ℕ). StepsBefore g n kinds k qs) (sym e) (steps_before g c s n ready kinds qs at cur kept.came)))
        (turn 0 (length kinds) cur (omega arith) kept.good)

    goes : (left at : ℕ) (qs : List (Step R)) (cur : List Symbol) → at + left ≡ length kinds → Kept g c n at kinds qs cur → IsTextOrFault g n kinds
    goes zero at qs cur e kept = ends at qs cur (omega arith) kept
    goes (suc left) at qs cur e kept =
        let lt : at < length kinds = omega arith in
        let k = get_or kinds at 0 in
        ⊎_elim
        (λ (m : (to : List Symbol) × (more : List (Step R)) × Expands g k at cur more (Token k ∷ to) × Good g c (Token k ∷ to)).
        goes left (at + 1) (qs ++ m.1) m.0 (omega arith) (kept_more g c s n kinds qs (qs ++ m.1) at cur m.0 lt kept (moved k at qs cur m.0 m.1 m.2 m.3)))
        (λ (stuck : Stuck g k at cur).
        inr (at, qs, faulted g c s n ready kinds qs at cur h lt kept.came kept.good stuck, steps_before g c s n ready kinds qs at cur kept.came))
        (turn k at cur (h at 0 lt).1 kept.good)

  pub outcome : (n : ℕ) → is_start c n ≡ true → (kinds : List ℕ) → All IsKind kinds → IsTextOrFault g n kinds
  outcome n ready kinds h =
      goes n ready kinds h (length kinds) 0 [] (start g c s n ready) (omega arith) (record { came = reads_none g c s (start g c s n ready); good = good_start g c s n ready })
