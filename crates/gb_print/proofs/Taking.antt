-- Parts of the grammar that take a token, and tokens with which they don't begin.
use Rattle.std.specs.Prelude.{ℕ, zero, suc, ◌≡◌, ◌<◌, ◌≤◌, Bool, true, false, not, ◌&&◌, if◌then◌else◌, nat_eq, List, [], ◌∷◌, ◌++◌, length, Some, slice_get}
use Rattle.std.specs.List.{list_all}
use Rattle.std.proofs.Common.{refl, ap, sym, ◌∙◌, subst, arith}
use Rattle.std.proofs.lemmas.Bool.Decides.{nat_tests}
use Rattle.gb_script.specs.declared.table.Step.{Step}
use Rattle.gb_script.specs.declared.table.Symbol.{Symbol}
use Rattle.gb_script.specs.declared.table.Symbol.TheVariants.{Token, Part}
use Rattle.gb_script.specs.Grammar.{Grammar, Production, IsProduction, Derives, token as derived_token, choose}
use Rattle.gb_language.specs.Language.{all_rows, all_symbols, goal_language}
use Rattle.gb_script.specs.declared.action.Rule.{Rule}
use Rattle.gb_script.specs.declared.text.Lexeme.{Lexeme}
use Rattle.gb_script.specs.declared.value.Value.{Value}
use Rattle.gb_print.proofs.Reading.{Reads, done, token, part}
use Rattle.gb_print.proofs.Shorter.{no_longer}
use Rattle.gb_print.proofs.Productions.{grammar}

and_parts : (a b : Bool) → (a && b) ≡ true → (a ≡ true) × (b ≡ true)
and_parts true b h = (refl, h)
and_parts false b h = absurd cc

-- What holds of each production holds of this one.
pub of_production : (test : Production Rule → Bool) (g : Grammar Rule) (place : ℕ) (r : Production Rule) → list_all test g ≡ true → slice_get g place ≡ Some r → test r ≡ true
of_production test [] place r h e = absurd cc
of_production test (q ∷ g) zero r h e = let same : q ≡ r = cc in subst (λ (x : Production Rule). test x ≡ true) same (and_parts (test q) (list_all test g) h).0
of_production test (q ∷ g) (suc place) r h e = of_production test g place r (and_parts (test q) (list_all test g) h).1 e

pub same_part : (a b : ℕ) → a ≡ b → nat_eq a b ≡ true
same_part a b e = grind (arith, nat_tests)

-- Each text of the symbols has a token, as far as this many levels tell.
abbrev pub takes : ℕ → Grammar Rule → List Symbol → Bool
takes zero g ss = false
takes (suc f) g [] = false
takes (suc f) g (Token k ∷ ss) = true
takes (suc f) g (Part n ∷ ss) = if list_all (λ (r : Production Rule). if nat_eq r.part n then takes f g r.body else true) g then true else takes f g ss

either_true : (a b : Bool) → (if a then true else b) ≡ true → (a ≡ false) → b ≡ true
either_true true b h e = absurd cc
either_true false b h e = h

abbrev takes_all : ℕ → ℕ → Grammar Rule → Bool
takes_all f n g = list_all (λ (r : Production Rule). if nat_eq r.part n then takes f g r.body else true) g

body_takes : (g : Grammar Rule) (f n : ℕ) (r : Production Rule) → IsProduction g n r → takes_all f n g ≡ true → takes f g r.body ≡ true
body_takes g f n r i h =
    let tested = of_production (λ (q : Production Rule). if nat_eq q.part n then takes f g q.body else true) g i.place r h i.row_is in
    sym (ap (λ (b : Bool). if b then takes f g r.body else true) (same_part r.part n i.part_is)) ∙ tested

-- of two lists of tokens one behind the other, one takes a token
one_takes : (t : Bool) (a b c : ℕ) → b ≤ a → c ≤ b → (t ≡ true → b < a) → (t ≡ false → c < b) → c < a
one_takes true a b c x y h k = let l = h refl in omega arith
one_takes false a b c x y h k = let l = k refl in omega arith

module _ (g : Grammar Rule) where
  pub takes_some : {ss : List Symbol} {ls rest : List Lexeme} {vs : List Value} → Reads g ss ls rest vs → (f : ℕ) → takes f g ss ≡ true → length rest < length ls
  takes_some done zero h = absurd cc
  takes_some (token k z d) zero h = absurd cc
  takes_some (part r i al fair e made x y b d) zero h = absurd cc
  takes_some done (suc f) h = absurd cc
  takes_some (token k z d) (suc f) h = let m = no_longer d in omega arith
  takes_some (part {n = n} {ss = ss} {ls = ls} {mid = mid} {rest = rest} r i al fair e made x y b d) (suc f) h =
      one_takes (takes_all f n g) (length ls) (length mid) (length rest) (no_longer b) (no_longer d)
      (λ t. takes_some b f (body_takes g f n r i t)) (λ t. takes_some d f (either_true (takes_all f n g) (takes f g ss) h t))

-- No text of the symbols begins with a token of this kind, or has none.
abbrev pub avoids : ℕ → ℕ → Grammar Rule → List Symbol → Bool
avoids f k g [] = false
avoids f k g (Token j ∷ ss) = not (nat_eq j k)
avoids zero k g (Part n ∷ ss) = false
avoids (suc f) k g (Part n ∷ ss) = list_all (λ (r : Production Rule). if nat_eq r.part n then avoids f k g r.body else true) g

avoids_more : (f k : ℕ) (g : Grammar Rule) (xs ys : List Symbol) → avoids f k g xs ≡ true → avoids f k g (xs ++ ys) ≡ true
avoids_more f k g [] ys h = absurd cc
avoids_more f k g (Token j ∷ xs) ys h = h
avoids_more zero k g (Part n ∷ xs) ys h = absurd cc
avoids_more (suc f) k g (Part n ∷ xs) ys h = h

not_itself : (k : ℕ) → not (nat_eq k k) ≡ true → ⊥
not_itself k h = let e : nat_eq k k ≡ true = same_part k k refl in let no : not true ≡ true = rw e at h in absurd cc

pub avoided : (g : Grammar Rule) (f : ℕ) {k : ℕ} {ss : List Symbol} {at : ℕ} {w : List ℕ} {ps : List (Step Rule)} → Derives g ss at (k ∷ w) ps → avoids f k g ss ≡ true → ⊥
avoided g f {k = k} (derived_token d) h = not_itself k h
avoided g zero (choose r i al d) h = absurd cc
avoided g (suc f) {k = k} (choose {n = n} {ss = ss} r i al d) h =
    let tested = of_production (λ (q : Production Rule). if nat_eq q.part n then avoids f k g q.body else true) g i.place r h i.row_is in
    let body : avoids f k g r.body ≡ true = sym (ap (λ (b : Bool). if b then avoids f k g r.body else true) (same_part r.part n i.part_is)) ∙ tested in
    avoided g f d (avoids_more f k g r.body ss body)

-- Entries of contexts and hypotheses don't begin with `-`.
pub entry_avoids : avoids 4 99 goal_language (Part 251 ∷ []) ≡ true
unfolding goal_language all_rows all_symbols
entry_avoids = refl

pub hypothesis_avoids : avoids 4 99 goal_language (Part 253 ∷ []) ≡ true
unfolding goal_language all_rows all_symbols
hypothesis_avoids = refl

-- Lines of goals have tokens.
pub entry_takes : takes 6 (grammar 1) (Part 251 ∷ []) ≡ true
unfolding grammar all_rows all_symbols
entry_takes = refl

pub hypothesis_takes : takes 6 (grammar 1) (Part 253 ∷ []) ≡ true
unfolding grammar all_rows all_symbols
hypothesis_takes = refl

pub form_takes : takes 20 (grammar 1) (Part 120 ∷ []) ≡ true
unfolding grammar all_rows all_symbols
form_takes = refl
