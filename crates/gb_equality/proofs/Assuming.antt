-- Hypotheses made true, and a conclusion made false.
use Rattle.std.proofs.Common.{◌≡◌, ◌≢◌, ℕ, zero, suc, ◌+◌, ◌<◌, ◌≤◌, ◌⊎◌, inl, inr, ◌==◌, max, min, Bool, true, false, if◌then◌else◌, List, [], ◌∷◌, map, take, length, get_or, refl, sym, ap, ◌∙◌, subst, arith}
use Rattle.std.specs.List.{All}
use Rattle.std.proofs.lemmas.Bool.{cases_order}
use Rattle.std.proofs.lemmas.Bool.Decides.{Decides-eqb}
use Rattle.std.proofs.lemmas.List.{take_all}
use Rattle.std.proofs.lemmas.List.Elements.{All-more, All-weaker}
use Rattle.gb_closing.specs.Labels.{label_at}
use Rattle.gb_equality.specs.Table.{relabelled}
use Rattle.gb_equality.specs.Search.{IsEquated}
use Rattle.gb_equality.specs.Answer.{ReadsSo, AreAssumed, IsAssumed}
use Rattle.gb_equality.proofs.Places.{default_read}
use Rattle.gb_equality.proofs.Narrowed.{relabelled_itself, relabelled_other, relabelled_same, relabelled_rows, relabelled_read}

-- labels made those of a truth

-- the label of a place that has one
present : (ls : List ℕ) (p : ℕ) → label_at ls p ≢ 0 → p < length ls
present [] p n = absurd (n refl)
present (l ∷ ls) zero n = omega arith
present (l ∷ ls) (suc p) n = omega (arith, present ls p n)

-- nothing changes, or one label becomes that of the truth

unchanged : (label truth : ℕ) (old new : List ℕ) → label ≡ truth → new ≡ relabelled (max label truth) (min label truth) old → new ≡ old
unchanged label truth old new q e =
    let x : max label truth ≡ truth = omega (arith, q) in
    let y : min label truth ≡ truth = omega (arith, q) in
    e ∙ ap (λ k. relabelled k (min label truth) old) x ∙ ap (λ k. relabelled truth k old) y ∙ relabelled_itself truth old

made : (label truth : ℕ) (old new : List ℕ) → truth < 2 → (label ≡ truth) ⊎ (1 < max label truth) → new ≡ relabelled (max label truth) (min label truth) old →
    (label ≡ truth) ⊎ ((label < truth) ⊎ (truth < label)) → ((label ≡ truth) × (new ≡ old)) ⊎ ((1 < label) × (new ≡ relabelled label truth old))
made label truth old new b h e (inl q) = inl (q, unchanged label truth old new q e)
made label truth old new b (inl q) e (inr o) = inl (q, unchanged label truth old new q e)
made label truth old new b (inr h) e (inr (inl l)) = absurd (omega (arith, b, h, l))
made label truth old new b (inr h) e (inr (inr l)) =
    let x : max label truth ≡ label = omega (arith, l) in
    let y : min label truth ≡ truth = omega (arith, l) in
    inr (omega (arith, x, h), e ∙ ap (λ k. relabelled k (min label truth) old) x ∙ ap (λ k. relabelled label k old) y)

-- The labels are read as those at first, where the hypotheses are read as true and the conclusion as false.
abbrev pub KeepReadings : List ℕ → ℕ → List ℕ → List ℕ → Type 0
KeepReadings hyps conclusion old new = (read : ℕ → ℕ) → ReadsSo hyps conclusion old read → map read new ≡ map read old

read_first : (hyps : List ℕ) (conclusion : ℕ) (old mid : List ℕ) → KeepReadings hyps conclusion old mid → (read : ℕ → ℕ) → ReadsSo hyps conclusion old read → (p : ℕ) → read (label_at mid p) ≡ read (label_at old p)
read_first hyps conclusion old mid k read r p = sym (default_read read r.falsity mid p) ∙ ap (λ l. get_or l p 0) (k read r) ∙ default_read read r.falsity old p

module _ (hyps : List ℕ) (conclusion : ℕ) (old mid new : List ℕ) (p truth : ℕ) (b : truth < 2) (k : KeepReadings hyps conclusion old mid) (e : IsEquated (label_at mid p) truth mid new true) where
  cases : ((label_at mid p ≡ truth) × (new ≡ mid)) ⊎ ((1 < label_at mid p) × (new ≡ relabelled (label_at mid p) truth mid))
  cases = made (label_at mid p) truth mid new b e.0 e.1 (cases_order (label_at mid p) truth)

  pub still_read : ((read : ℕ → ℕ) → ReadsSo hyps conclusion old read → read (label_at old p) ≡ read truth) → KeepReadings hyps conclusion old new
  still_read f read r = by_case cases
    where
      by_case : ((label_at mid p ≡ truth) × (new ≡ mid)) ⊎ ((1 < label_at mid p) × (new ≡ relabelled (label_at mid p) truth mid)) → map read new ≡ map read old
      by_case (inl x) = ap (map read) x.1 ∙ k read r
      by_case (inr x) = ap (map read) x.1 ∙ relabelled_read read (label_at mid p) truth (read_first hyps conclusion old mid k read r p ∙ f read r) mid ∙ k read r

  pub still_rows : length new ≡ length mid
  still_rows = by_case cases
    where
      by_case : ((label_at mid p ≡ truth) × (new ≡ mid)) ⊎ ((1 < label_at mid p) × (new ≡ relabelled (label_at mid p) truth mid)) → length new ≡ length mid
      by_case (inl x) = ap length x.1
      by_case (inr x) = ap length x.1 ∙ relabelled_rows (label_at mid p) truth mid

  -- the labels of truths stay
  pub still_true : (q : ℕ) → label_at mid q ≡ 1 → label_at new q ≡ 1
  still_true q t = by_case cases
    where
      by_case : ((label_at mid p ≡ truth) × (new ≡ mid)) ⊎ ((1 < label_at mid p) × (new ≡ relabelled (label_at mid p) truth mid)) → label_at new q ≡ 1
      by_case (inl x) = ap (λ l. label_at l q) x.1 ∙ t
      by_case (inr x) =
          ap (λ l. label_at l q) x.1
          ∙ relabelled_other (label_at mid p) truth mid q (present mid q (λ z. omega (arith, z, t))) (λ z. omega (arith, z, t, x.0)) ∙ t

  -- and the place has the label of the truth
  pub now_so : label_at new p ≡ truth
  now_so = by_case cases
    where
      by_case : ((label_at mid p ≡ truth) × (new ≡ mid)) ⊎ ((1 < label_at mid p) × (new ≡ relabelled (label_at mid p) truth mid)) → label_at new p ≡ truth
      by_case (inl x) = ap (λ l. label_at l p) x.1 ∙ x.0
      by_case (inr x) = ap (λ l. label_at l p) x.1 ∙ relabelled_same (label_at mid p) truth mid p (present mid p (λ z. omega (arith, z, x.0))) refl

-- a label that can't be made that of the truth is that of the other one
pub no_reading : (hyps : List ℕ) (conclusion : ℕ) (old mid new : List ℕ) (p truth : ℕ) → truth < 2 → KeepReadings hyps conclusion old mid → IsEquated (label_at mid p) truth mid new false →
    ((read : ℕ → ℕ) → ReadsSo hyps conclusion old read → read (label_at old p) ≡ truth) → (read : ℕ → ℕ) → ReadsSo hyps conclusion old read → ⊥
no_reading hyps conclusion old mid new p truth b k e f read r =
    other (label_at mid p) truth (omega (arith, e.1)) b e.0 (read_first hyps conclusion old mid k read r p ∙ f read r)
  where
    other : (label truth : ℕ) → label < 2 → truth < 2 → label ≢ truth → read label ≡ truth → ⊥
    other zero truth a c n q = n (sym r.falsity ∙ q)
    other (suc zero) truth a c n q = n (sym r.truth ∙ q)
    other (suc (suc l)) truth a c n q = omega (arith, a)

-- the hypotheses before a place
pub more_true : (old new : List ℕ) (places : List ℕ) (at p : ℕ) → at < length places → p ≡ get_or places at p → ((q : ℕ) → label_at old q ≡ 1 → label_at new q ≡ 1) → label_at new p ≡ 1 →
    All (λ q. label_at old q ≡ 1) (take at places) → All (λ q. label_at new q ≡ 1) (take (at + 1) places)
more_true old new places at p l e f g h =
    All-more (λ q. label_at new q ≡ 1) places at p l (All-weaker (λ q. label_at old q ≡ 1) (λ q. label_at new q ≡ 1) f (take at places) h) (subst (λ q. label_at new q ≡ 1) e g)

-- all hypotheses made true, and then the conclusion false
pub assumed_so : (hyps : List ℕ) (conclusion : ℕ) (old mid new : List ℕ) (at : ℕ) → length hyps ≤ at → length mid ≡ length old → All (λ p. label_at mid p ≡ 1) (take at hyps) → KeepReadings hyps conclusion old mid →
    (r : Bool) → IsEquated (label_at mid conclusion) 0 mid new r → IsAssumed hyps conclusion old new r
assumed_so hyps conclusion old mid new at l rows a k true e = record {
  rows = still_rows hyps conclusion old mid new conclusion 0 (omega arith) k e ∙ rows;
  assumed = All-weaker (λ p. label_at mid p ≡ 1) (λ p. label_at new p ≡ 1) (still_true hyps conclusion old mid new conclusion 0 (omega arith) k e) hyps (subst (All (λ p. label_at mid p ≡ 1)) (take_all at hyps l) a);
  concluded = now_so hyps conclusion old mid new conclusion 0 (omega arith) k e;
  reads = still_read hyps conclusion old mid new conclusion 0 (omega arith) k e (λ read r. r.concluded ∙ sym r.falsity);
}
assumed_so hyps conclusion old mid new at l rows a k false e = no_reading hyps conclusion old mid new conclusion 0 (omega arith) k e (λ read r. r.concluded)
