-- Whatever lies on the stack can be completed.
use Rattle.std.specs.Prelude.{◌≡◌, ℕ, zero, suc, ◌+◌, ◌%◌, ◌^◌, ◌<◌, List, [], ◌∷◌, ◌++◌, true, nat_lt, nat_eq}
use Rattle.std.proofs.Common.{ap, arith}
use Rattle.std.proofs.lemmas.Bool.{ltb-true}
use Rattle.std.proofs.Math.Nat.{zero-div}
use Rattle.gb_script.specs.declared.table.Symbol.{Symbol}
use Rattle.gb_script.specs.declared.table.Symbol.TheVariants.{Token, Part}
use Rattle.gb_script.specs.declared.table.Step.{Step}
use Rattle.gb_script.specs.Grammar.{Grammar, Production, Allowed, step, Derives, done, token, choose}
use Rattle.gb_script.specs.Check.{Claims, claim_of, all_lower, all_known, symbol_known}
use Rattle.gb_script.specs.Stack.{Good}
use Rattle.gb_script.proofs.Tests.{both}
use Rattle.gb_script.proofs.Sound.{Sound}

module _ {R : Type 0} (g : Grammar R) (c : Claims) (sound : Sound g c) where
  -- some word of these symbols, wherever it begins
  abbrev pub HasWord : List Symbol → Type 0
  HasWord ss = (at : ℕ) → (w : List ℕ) × (ps : List (Step R)) × Derives g ss at w ps

  free_row : (r : Production R) (w : List ℕ) → r.stops ≡ 0 → Allowed r w
  free_row r [] h = tt
  free_row r (t ∷ w) h = rw h (ap (λ (x : ℕ). nat_eq (x % 2) 1) (zero-div (2 ^ t)))

  -- a word of a body, put before a word
  word_of_all : (h : ℕ) → ((m : ℕ) → m < c.count → (claim_of c m).height < h → (ss : List Symbol) → HasWord ss → HasWord (Part m ∷ ss)) → (b : List Symbol) → all_known c.count b ≡ true → all_lower c h b ≡ true → (ss : List Symbol) → HasWord ss → HasWord (b ++ ss)
  word_of_all h ih [] k l ss x = x
  word_of_all h ih (Token y ∷ b) k l ss x = λ at.
      let p = both (symbol_known c.count (Token y)) (all_known c.count b) k in
      let a = word_of_all h ih b p.1 l ss x (at + 1) in
      (y ∷ a.0, a.1, token a.2)
  word_of_all h ih (Part m ∷ b) k l ss x =
      let p = both (nat_lt m c.count) (all_known c.count b) k in
      let q = both (nat_lt (claim_of c m).height h) (all_lower c h b) l in
      ih m (ltb-true m c.count p.0) (ltb-true (claim_of c m).height h q.0) (b ++ ss) (word_of_all h ih b p.1 q.1 ss x)

  word_of_part : (h m : ℕ) → m < c.count → (claim_of c m).height < h → (ss : List Symbol) → HasWord ss → HasWord (Part m ∷ ss)
  word_of_part zero m lt l ss x = absurd (omega arith)
  word_of_part (suc h) m lt l ss x = λ at.
      let gr = sound.grows m lt in
      let a = word_of_all (claim_of c m).height (λ j jl hl. word_of_part h j jl (omega arith)) (gr.0.body) (sound.known m gr.0 gr.1) gr.3 ss x at in
      (a.0, step gr.0 at ∷ a.1, choose gr.0 gr.1 (free_row gr.0 a.0 gr.2) a.2)

  pub word_of_stack : (ss : List Symbol) → Good g c ss → HasWord ss
  word_of_stack [] h = λ at. ([], [], done)
  word_of_stack (Token k ∷ ss) h = λ at. let a = word_of_stack ss h.2 (at + 1) in (k ∷ a.0, a.1, token a.2)
  word_of_stack (Part m ∷ ss) h = word_of_part (suc (claim_of c m).height) m h.0 (omega arith) ss (word_of_stack ss h.2)
