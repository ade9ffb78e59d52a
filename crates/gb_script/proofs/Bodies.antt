-- A table whose bodies stand in the order of its rows can be tested without looking for each of them.
use Rattle.std.specs.Prelude.{if◌then◌else◌, ◌≡◌, ℕ, suc, ◌+◌, List, [], ◌∷◌, Bool, true, false, ◌&&◌, nat_eq, nat_le, length, drop}
use Rattle.std.proofs.Common.{refl, ap, ap₂, sym, ◌∙◌, subst, drop-drop}
use Rattle.std.proofs.lemmas.Bool.{eqb-true}
use Rattle.gb_script.specs.declared.table.Symbol.{Symbol}
use Rattle.gb_script.specs.declared.table.Symbol.TheVariants.{Token, Part}
use Rattle.gb_script.specs.declared.table.Row.{Row}
use Rattle.gb_script.specs.Grammar.{Grammar, body_of, with_body, grammar_of}
use Rattle.gb_script.specs.Check.{Claims, productions_ok, places_ok, grammar_ok}
use Rattle.gb_script.proofs.Tests.{both, and_both}

abbrev begun_by : Symbol → List (List Symbol) → List (List Symbol)
begun_by s [] = []
begun_by s (b ∷ bs) = (s ∷ b) ∷ bs

-- the bodies, one after the other
abbrev pub bodies : List Symbol → List (List Symbol)
bodies [] = []
bodies (Token k ∷ ss) = if nat_eq k 0 then [] ∷ bodies ss else begun_by (Token k) (bodies ss)
bodies (Part n ∷ ss) = begun_by (Part n) (bodies ss)

-- These symbols begin with the body `b`, and the bodies after it are `bs`.
record Begin (ss b : List Symbol) (bs : List (List Symbol)) : Type 0 where
  body : body_of ss ≡ b
  rest : bodies (drop (suc (length b)) ss) ≡ bs

abbrev Cut : List Symbol → Type 0
Cut ss = (b : List Symbol) (bs : List (List Symbol)) → bodies ss ≡ b ∷ bs → Begin ss b bs

begins_more : (s : Symbol) (ss : List Symbol) (x : List (List Symbol)) → bodies ss ≡ x → Cut ss → (b : List Symbol) (bs : List (List Symbol)) → begun_by s x ≡ b ∷ bs
    → (s ∷ body_of ss ≡ b) × (bodies (drop (suc (length b)) (s ∷ ss)) ≡ bs)
begins_more s ss [] e cut b bs h = absurd cc
begins_more s ss (y ∷ ys) e cut [] bs h = absurd cc
begins_more s ss (y ∷ ys) e cut (z ∷ b) bs h =
    let c = cut y ys e in
    let front : s ≡ z = cc in
    let same : y ≡ b = cc in
    let tail : ys ≡ bs = cc in
    (ap₂ (λ (w : Symbol) (l : List Symbol). w ∷ l) front (c.body ∙ same), ap (λ (l : List Symbol). bodies (drop (suc (length l)) ss)) (sym same) ∙ c.rest ∙ tail)

begins_token : (z : Bool) (k : ℕ) (ss : List Symbol) → Cut ss → (b : List Symbol) (bs : List (List Symbol)) → (if z then [] ∷ bodies ss else begun_by (Token k) (bodies ss)) ≡ b ∷ bs
    → ((if z then [] else Token k ∷ body_of ss) ≡ b) × (bodies (drop (suc (length b)) (Token k ∷ ss)) ≡ bs)
begins_token true k ss cut [] bs h = (refl, cc)
begins_token true k ss cut (x ∷ b) bs h = absurd cc
begins_token false k ss cut b bs h = begins_more (Token k) ss (bodies ss) refl cut b bs h

cut : (ss : List Symbol) → Cut ss
cut [] b bs h = absurd cc
cut (Token k ∷ ss) b bs h = let c = begins_token (nat_eq k 0) k ss (cut ss) b bs h in record { body = c.0; rest = c.1 }
cut (Part n ∷ ss) b bs h = let c = begins_more (Part n) ss (bodies ss) refl (cut ss) b bs h in record { body = c.0; rest = c.1 }

module _ {R : Type 0} where
  -- Each row begins where its body does.
  abbrev pub in_order : ℕ → List (Row R) → List (List Symbol) → Bool
  in_order at [] bs = true
  in_order at (r ∷ rows) [] = false
  in_order at (r ∷ rows) (b ∷ bs) = nat_eq r.body at && in_order (at + suc (length b)) rows bs

  -- the grammar of rows with these bodies, up to a stage
  abbrev pub grammar_with : ℕ → List (Row R) → List (List Symbol) → Grammar R
  grammar_with stage [] bs = []
  grammar_with stage (r ∷ rows) [] = []
  grammar_with stage (r ∷ rows) (b ∷ bs) = if nat_le r.stage stage then with_body r b ∷ grammar_with stage rows bs else grammar_with stage rows bs

  module _ (stage : ℕ) (symbols : List Symbol) where
    same_with : (at : ℕ) (rows : List (Row R)) (bs : List (List Symbol)) → bodies (drop at symbols) ≡ bs → in_order at rows bs ≡ true → grammar_with stage rows bs ≡ grammar_of stage rows symbols
    same_with at [] bs e h = refl
    same_with at (r ∷ rows) [] e h = absurd cc
    same_with at (r ∷ rows) (b ∷ bs) e h =
        let a = both (nat_eq r.body at) (in_order (at + suc (length b)) rows bs) h in
        let c = cut (drop at symbols) b bs e in
        let here : drop r.body symbols ≡ drop at symbols = ap (λ (n : ℕ). drop n symbols) (eqb-true r.body at a.0) in
        let next : bodies (drop (at + suc (length b)) symbols) ≡ bs = ap (λ (l : List Symbol). bodies l) (sym (drop-drop (suc (length b)) at symbols)) ∙ c.rest in
        ap₂ (λ (l : List Symbol) (g : Grammar R). if nat_le r.stage stage then with_body r l ∷ g else g)
        (sym (ap (λ (l : List Symbol). body_of l) here ∙ c.body)) (same_with (at + suc (length b)) rows bs next a.1)

    grammar_is : (rows : List (Row R)) → in_order 0 rows (bodies symbols) ≡ true → grammar_with stage rows (bodies symbols) ≡ grammar_of stage rows symbols
    grammar_is rows h = same_with 0 rows (bodies symbols) refl h

    pub grammar_passes : (c : Claims) (places : List ℕ) (rows : List (Row R)) → in_order 0 rows (bodies symbols) ≡ true
        → productions_ok c (grammar_with stage rows (bodies symbols)) ≡ true → places_ok places c.count rows ≡ true → grammar_ok stage c places rows symbols ≡ true
    grammar_passes c places rows h p q =
        let whole = grammar_of stage rows symbols in
        and_both (productions_ok c whole) (places_ok places c.count rows) (subst (λ (g : Grammar R). productions_ok c g ≡ true) (grammar_is rows h) p) q
