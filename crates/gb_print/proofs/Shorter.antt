-- What reads up to tokens that follow reads without them.
use Rattle.std.specs.Prelude.{ℕ, ◌≡◌, ◌<◌, ◌≤◌, Bool, true, false, take, drop, List, [], ◌∷◌, ◌++◌, length}
use Rattle.std.proofs.Common.{refl, ap, ap₂, sym, ◌∙◌, subst, arith, append_assoc, length-append}
use Rattle.gb_script.specs.declared.table.Symbol.{Symbol}
use Rattle.gb_script.specs.declared.table.Symbol.TheVariants.{Token}
use Rattle.gb_script.specs.Grammar.{Grammar, Production, Allowed}
use Rattle.gb_script.specs.declared.action.Rule.{Rule}
use Rattle.gb_script.specs.declared.text.Lexeme.{Lexeme}
use Rattle.gb_script.specs.declared.value.Value.{Value}
use Rattle.gb_script.specs.declared.action.Action.{Action}
use Rattle.gb_script.specs.declared.action.Action.TheVariants.{Nothing, Pass, Make, Enclose, Spell, Graft, Flat, Extend, Many, Lead, Attach}
use Rattle.gb_script.specs.Build.{made}
use Rattle.gb_print.proofs.Reading.{has_token, is_fair, bare, lexeme_kinds, first_name, ruled, Reads, done, token, part}

-- the tokens that are read
pub consumed : {g : Grammar Rule} {ss : List Symbol} {ls rest : List Lexeme} {vs : List Value} → Reads g ss ls rest vs → (c : List Lexeme) × (ls ≡ c ++ rest)
consumed done = ([], refl)
consumed (token {l = l} k z d) = let h = consumed d in (l ∷ h.0, ap (λ x. l ∷ x) h.1)
consumed (part {rest = rest} r i al fair e made x y b d) =
    let h = consumed b in
    let k = consumed d in
    (h.0 ++ k.0, h.1 ∙ ap (λ x. h.0 ++ x) k.1 ∙ sym (append_assoc h.0 k.0 rest))

pub no_longer : {g : Grammar Rule} {ss : List Symbol} {ls rest : List Lexeme} {vs : List Value} → Reads g ss ls rest vs → length rest ≤ length ls
no_longer {ls = ls} {rest = rest} d = let h = consumed d in let e = ap (λ x. length x) h.1 in omega (arith, e, length-append h.0 rest)

cancel : (xs ys zs : List Lexeme) → xs ++ zs ≡ ys ++ zs → xs ≡ ys
cancel [] [] zs e = refl
cancel [] (y ∷ ys) zs e = let n = ap (λ x. length x) e in absurd (omega (arith, n, length-append ys zs))
cancel (x ∷ xs) [] zs e = let n = ap (λ x. length x) e in absurd (omega (arith, n, length-append xs zs))
cancel (x ∷ xs) (y ∷ ys) zs e =
    let first : x ≡ y = cc in
    let more : xs ++ zs ≡ ys ++ zs = cc in
    ap₂ (λ a l. a ∷ l) first (cancel xs ys zs more)

allowed_before : (r : Production Rule) (xs zs : List Lexeme) → Allowed r (lexeme_kinds (xs ++ zs)) → Allowed r (lexeme_kinds xs)
allowed_before r [] zs h = tt
allowed_before r (x ∷ xs) zs h = h

-- Symbols of which one is a token take a token.
some_taken : {g : Grammar Rule} {ss : List Symbol} {ls rest : List Lexeme} {vs : List Value} → Reads g ss ls rest vs → has_token ss ≡ true → length rest < length ls
some_taken done h = absurd cc
some_taken (token k z d) h = let m = no_longer d in omega arith
some_taken (part r i al fair e made x y b d) h = let m = no_longer b in let n = some_taken d h in omega arith

-- An action that spells no token makes the same at each.
unspelled : (a : Action) (ss : List Symbol) (k : ℕ) (m n : List ℕ) (us : List Value) → is_fair a ss ≡ true → has_token ss ≡ false
    → made a (bare m) 0 (take k us) ++ drop k us ≡ made a (bare n) 0 (take k us) ++ drop k us
unspelled (Spell h) ss k m n us f no_token = absurd cc
unspelled Nothing ss k m n us f t = refl
unspelled Pass ss k m n us f t = refl
unspelled (Make h) ss k m n us f t = refl
unspelled (Enclose h) ss k m n us f t = refl
unspelled (Graft h) ss k m n us f t = refl
unspelled (Flat h) ss k m n us f t = refl
unspelled Extend ss k m n us f t = refl
unspelled Many ss k m n us f t = refl
unspelled (Lead h) ss k m n us f t = refl
unspelled Attach ss k m n us f t = refl

module _ (g : Grammar Rule) (zs : List Lexeme) where
  name_by : (r : Production Rule) (us vs ws : List Value) (xs ys ls mid : List Lexeme) (t : Bool) → has_token r.body ≡ t → ls ≡ xs ++ zs → mid ≡ ys ++ zs → is_fair r.rule.action r.body ≡ true
      → ruled r.rule (first_name ls) us ++ vs ≡ ws → Reads g r.body ls mid us → ruled r.rule (first_name xs) us ++ vs ≡ ws
  name_by r us vs ws xs ys ls mid false t e f fair made b = ap (λ l. l ++ vs) (unspelled r.rule.action r.body r.rule.takes (first_name xs) (first_name ls) us fair t) ∙ made
  name_by r us vs ws [] ys ls mid true t e f fair made b =
      let s = some_taken b t in
      let n = ap (λ x. length x) e in
      let m = ap (λ x. length x) f in
      absurd (omega (arith, s, n, m, length-append ys zs))
  name_by r us vs ws (x ∷ xs) ys ls mid true t e f fair made b = ap (λ l. ruled r.rule (first_name l) us ++ vs) (sym e) ∙ made

  name_of : (r : Production Rule) (us vs ws : List Value) (xs ys ls mid : List Lexeme) → ls ≡ xs ++ zs → mid ≡ ys ++ zs → is_fair r.rule.action r.body ≡ true
      → ruled r.rule (first_name ls) us ++ vs ≡ ws → Reads g r.body ls mid us → ruled r.rule (first_name xs) us ++ vs ≡ ws
  name_of r us vs ws xs ys ls mid = name_by r us vs ws xs ys ls mid (has_token r.body) refl

  pub shorter : {ss : List Symbol} {ls rest : List Lexeme} {vs : List Value} → Reads g ss ls rest vs → (xs ys : List Lexeme) → ls ≡ xs ++ zs → rest ≡ ys ++ zs → Reads g ss xs ys vs
  shorter (done {ls = ls}) xs ys e f = subst (λ l. Reads g [] xs l []) (cancel xs ys zs (sym e ∙ f)) done
  shorter (token {l = l} {ls = ls} {rest = rest} k z d) [] ys e f =
      let n = ap (λ x. length x) e in
      let m = ap (λ x. length x) f in
      let b = no_longer d in
      absurd (omega (arith, n, m, b, length-append ys zs))
  shorter (token {k = kind} {ss = ss} {l = l} {ls = ls} {vs = vs} k z d) (x ∷ xs) ys e f =
      let first : l ≡ x = cc in
      let more : ls ≡ xs ++ zs = cc in
      subst (λ y. Reads g (Token kind ∷ ss) (y ∷ xs) ys vs) first (token k z (shorter d xs ys more f))
  shorter (part {n = n} {ss = ss} {ls = ls} {mid = mid} {rest = rest} {us = us} {vs = vs} {ws = ws} r i al fair enough made conforms fewer b d) xs ys e f =
      let c = consumed d in
      let middle : mid ≡ (c.0 ++ ys) ++ zs = c.1 ∙ ap (λ l. c.0 ++ l) f ∙ sym (append_assoc c.0 ys zs) in
      part r i (allowed_before r xs zs (subst (λ l. Allowed r (lexeme_kinds l)) e al)) fair enough (name_of r us vs ws xs (c.0 ++ ys) ls mid e middle fair made b) conforms fewer (shorter b xs (c.0 ++ ys) e middle) (shorter d (c.0 ++ ys) ys middle f)
