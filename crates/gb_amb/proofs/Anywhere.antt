-- A form about no variables means the same for all values of a context.
use Rattle.std.proofs.Common.{◌≡◌, inl, inr, ◌⊎◌, ℕ, zero, suc, ◌+◌, ◌==◌, ◌<◌, ◌≤◌, nat_lt, Bool, true, false, if◌then◌else◌, List, [], length, get_or, None, refl, ap, sym, ◌∙◌, arith}
use Rattle.std.proofs.lemmas.Bool.{false≢true, ltb-true, ltb-false}
use Rattle.std.proofs.lemmas.Bool.Decides.{Decides-eqb}
use Rattle.std.proofs.lemmas.List.{get_or_past}
use Rattle.gb_core.specs.declared.ty.Ty.TheVariants as ty
use Rattle.gb_core.specs.declared.value.Value.{Value}
use Rattle.gb_core.specs.declared.value.Value.TheVariants.{Num}
use Rattle.gb_terms.specs.declared.term.Term.{Term}
use Rattle.gb_meaning.specs.Memory.{Memory}
use Rattle.gb_meaning.specs.Setting.{Meaning, Setting}
use Rattle.gb_meaning.specs.Setting.Meaning.{finite}
use Rattle.gb_meaning.specs.State.{State}
use Rattle.gb_meaning.specs.Terms.{val}
use Rattle.gb_meaning.specs.Judgments.{Judge, IsFair, speaking}
use Rattle.gb_meaning.specs.Holds.{context}
use Rattle.gb_typing.specs.Context.{Context}
use Rattle.gb_typing.specs.Typing.{IsTyped}
use Rattle.gb_typing.specs.Fits.{IsSettingOf}
use Rattle.gb_amb.proofs.States.{unread}

-- Variables from a place on that are 0.

abbrev zero_from : ℕ → ℕ → (ℕ → Meaning) → ℕ → Meaning
zero_from n zero L = L
zero_from n (suc m) L = zero_from (n + 1) m (λ i. if n == i then finite (Num 0) else L i)

below_or_past : (i n m : ℕ) → m ≡ 0 → i < n ⊎ n + m ≤ i
below_or_past i n m z = by_test (nat_lt i n) refl
  where
    by_test : (t : Bool) → nat_lt i n ≡ t → i < n ⊎ n + m ≤ i
    by_test true e = inl (ltb-true i n e)
    by_test false e = let h : n ≤ i = ltb-false i n e in inr (omega (arith, h, z))

zeroes : (n m : ℕ) (L X : ℕ → Meaning) → ((i : ℕ) → (i < n ⊎ n + m ≤ i) → L i ≡ X i) → ((i : ℕ) → n ≤ i → i < n + m → finite (Num 0) ≡ X i) → (i : ℕ) → zero_from n m L i ≡ X i
zeroes n zero L X f g i = f i (below_or_past i n 0 refl)
zeroes n (suc m) L X f g i = zeroes (n + 1) m (λ i. if n == i then finite (Num 0) else L i) X first (λ i e h. g i (omega (arith, e)) (omega (arith, h))) i
  where
    first : (i : ℕ) → (i < n + 1 ⊎ (n + 1) + m ≤ i) → (if n == i then finite (Num 0) else L i) ≡ X i
    first i o = by_test (n == i) refl
      where
        by_test : (t : Bool) → (n == i) ≡ t → (if t then finite (Num 0) else L i) ≡ X i
        by_test true e = let k = (Decides-eqb n i).0 e in g i (omega (arith, k)) (omega (arith, k))
        by_test false e = f i (without o)
          where
            other : n ≡ i → ⊥
            other k = false≢true (sym e ∙ (Decides-eqb n i).1 k)

            without : (i < n + 1 ⊎ (n + 1) + m ≤ i) → (i < n ⊎ n + suc m ≤ i)
            without (inl h) = inl (by_order (nat_lt i n) refl)
              where
                by_order : (t : Bool) → nat_lt i n ≡ t → i < n
                by_order true k = ltb-true i n k
                by_order false k = let y : n ≤ i = ltb-false i n k in absurd (other (omega (arith, y, h)))
            without (inr h) = inr (omega (arith, h))

-- a form doesn't read variables past those of its context
module _ (c : Context) (g : Setting) (fits : IsSettingOf c g) (j : Judge) (fair : IsFair g j) (f : Term) (w : IsTyped c f) where
  past : (m n : ℕ) → ((i : ℕ) → n ≤ i → c.logical i ≡ None) → (s : State) → val g (speaking g j) f s ≡ val g (speaking g j) f (record s { logical = zero_from n m s.logical })
  past zero n e s = refl
  past (suc m) n e s =
      unread c g fits j fair n (e n (omega arith)) ty.Bool (Num 0) s f w
      ∙ past m (n + 1) (λ i h. e i (omega (arith, h))) (record s { logical = λ i. if n == i then finite (Num 0) else s.logical i })

  -- a form about none means the same wherever it stands
  pub same_anywhere : ((i : ℕ) → c.logical i ≡ None) → (vs : List Value) (ms : List Memory) → val g (speaking g j) f (context vs ms) ≡ val g (speaking g j) f (context [] ms)
  same_anywhere none vs ms = past (length vs) 0 (λ i e. none i) (context vs ms) ∙ ap (val g (speaking g j) f) same_state
    where
      outside : (i : ℕ) → (i < 0 ⊎ 0 + length vs ≤ i) → finite (get_or vs i (Num 0)) ≡ finite (Num 0)
      outside i (inl e) = absurd (omega (arith, e))
      outside i (inr e) = ap finite (get_or_past vs i (Num 0) (omega (arith, e)))

      same_state : record (context vs ms) { logical = zero_from 0 (length vs) (λ i. finite (get_or vs i (Num 0))) } ≡ context [] ms
      same_state = ap (λ L. record (context vs ms) { logical = L }) (λ k i. zeroes 0 (length vs) (λ i. finite (get_or vs i (Num 0))) (λ i. finite (Num 0)) outside (λ i e h. refl) i k)
