-- A map from texts as the list of names and what they name.
use Rattle.std.proofs.Common.{◌≡◌, ℕ, zero, suc, ◌+◌, take, ◌∙◌, arith, sym, subst, Bool, true, false, cond, List, [], ◌∷◌, ◌++◌, map, refl, ap, Some, None, String, string_bytes, string_eq, bytes_eq, if◌then◌else◌}
use Rattle.std.specs.Map.{lookup}
use Rattle.indexmap.specs.IndexMap.{insert_entry}
use Rattle.gb_goal.specs.declared.scope.Entry.{Entry}
use Rattle.std.specs.List.{slice_get}
use Rattle.gb_goal.specs.Scope.{Declarations, entry_of, weight, declarations_in}

next_is : (i : ℕ) → i + 1 ≡ suc i
next_is i = omega arith

module _ {Y : Type 0} where
  abbrev pub named : List (String Y × Entry) → Declarations
  named es = map (λ p. (string_bytes p.0, p.1)) es

  pub found_named : (n : List ℕ) (es : List (String Y × Entry)) → lookup (λ k. bytes_eq n (string_bytes k)) es ≡ entry_of (named es) n
  found_named n [] = refl
  found_named n (e ∷ es) = ap (cond (bytes_eq n (string_bytes e.0)) (Some e.1)) (found_named n es)

  step : (k : String Y) (v : Entry) (e : String Y × Entry) (es : List (String Y × Entry)) (b : Bool) → (entry_of (named es) (string_bytes k) ≡ None → named (insert_entry string_eq es k v) ≡ named es ++ (string_bytes k, v) ∷ []) → cond b (Some e.1) (entry_of (named es) (string_bytes k)) ≡ None → named (if b then (e.0, v) ∷ es else e ∷ insert_entry string_eq es k v) ≡ (string_bytes e.0, e.1) ∷ (named es ++ (string_bytes k, v) ∷ [])
  step k v e es true rest h = cc
  step k v e es false rest h = ap (λ ds. (string_bytes e.0, e.1) ∷ ds) (rest h)

  -- a thing of a new name is declared last
  pub declared_last : (k : String Y) (v : Entry) (es : List (String Y × Entry)) → entry_of (named es) (string_bytes k) ≡ None → named (insert_entry string_eq es k v) ≡ named es ++ (string_bytes k, v) ∷ []
  declared_last k v [] h = refl
  declared_last k v (e ∷ es) h = step k v e es (bytes_eq (string_bytes k) (string_bytes e.0)) (declared_last k v es) h

  -- one thing more that is counted
  counted : (es : List (String Y × Entry)) (i : ℕ) (p : String Y × Entry) → slice_get es i ≡ Some p → declarations_in (take (suc i) (named es)) ≡ declarations_in (take i (named es)) + weight p.1
  counted [] i p h = absurd (cc)
  counted (e ∷ es) zero p h = let k : e ≡ p = cc in ap (λ (x : String Y × Entry). weight x.1 + 0) k ∙ omega arith
  counted (e ∷ es) (suc i) p h = ap (λ n. weight e.1 + n) (counted es i p h) ∙ omega arith

  -- where there is nothing more
  uncounted : (es : List (String Y × Entry)) (i : ℕ) → slice_get es i ≡ None → declarations_in (take (suc i) (named es)) ≡ declarations_in (take i (named es))
  uncounted [] zero h = refl
  uncounted [] (suc i) h = refl
  uncounted (e ∷ es) zero h = absurd (cc)
  uncounted (e ∷ es) (suc i) h = ap (λ n. weight e.1 + n) (uncounted es i h)

  pub counted_more : (es : List (String Y × Entry)) (ds : Declarations) (i n k : ℕ) (p : String Y × Entry) → named es ≡ ds → slice_get es i ≡ Some p → n ≡ declarations_in (take i ds)
      → k ≡ n + weight p.1 → k ≡ declarations_in (take (i + 1) ds)
  counted_more es ds i n k p e h c d =
      d ∙ ap (λ m. m + weight p.1) c
      ∙ sym (subst (λ z. declarations_in (take (i + 1) z) ≡ declarations_in (take i z) + weight p.1) e (ap (λ j. declarations_in (take j (named es))) (next_is i) ∙ counted es i p h))

  pub counted_same : (es : List (String Y × Entry)) (ds : Declarations) (i n k : ℕ) → named es ≡ ds → slice_get es i ≡ None → n ≡ declarations_in (take i ds)
      → k ≡ n → k ≡ declarations_in (take (i + 1) ds)
  counted_same es ds i n k e h c d =
      d ∙ c
      ∙ sym (subst (λ z. declarations_in (take (i + 1) z) ≡ declarations_in (take i z)) e (ap (λ j. declarations_in (take j (named es))) (next_is i) ∙ uncounted es i h))
