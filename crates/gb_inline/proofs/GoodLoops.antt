-- A loop is good where one is that it matches.
use Rattle.std.proofs.Common.{◌≡◌, ℕ, ◌-◌, ◌+◌, ◌*◌, ◌^◌, ◌<◌, ◌≤◌, Bool, false, [], ◌∷◌, refl, ap, sym, ◌∙◌, subst, arith}
use Rattle.std.proofs.lemmas.Nat.{pow-add}
use Rattle.gb_dist.specs.WeightedList.{WeightedList, scale, unit, Every, SameDistribution}
use Rattle.gb_dist.proofs.Distributions.{same_scale, same_transitive}
use Rattle.gb_dist.proofs.Entries.{Every-weaken}
use Rattle.gb_dist.proofs.Monad.{bind-unit_right}
use Rattle.gb_terms.specs.declared.term.Term.{Term}
use Rattle.gb_meaning.specs.Loops.{GoodFrom, IsGood}
use Rattle.gb_meaning.specs.Memory.{Memory}
use Rattle.gb_meaning.specs.Program.{Program}
use Rattle.gb_meaning.specs.Program.Program.{done, loop}
use Rattle.gb_meaning.specs.Runs.{is_true, most_turns, out, run_denominator, turns, turns_at}
use Rattle.gb_meaning.specs.Setting.{Setting}
use Rattle.gb_meaning.specs.Sound.{IsSound}
use Rattle.gb_meaning.specs.State.{State}
use Rattle.gb_meaning.proofs.Runs.{pow-pos, run_positive}
use Rattle.gb_laws.proofs.Zips.{Zip}
use Rattle.gb_prog.proofs.Loops.{loop_ends}
use Rattle.gb_prog.proofs.Turns.{Ended, bind_parts, ended_alike}
use Rattle.gb_inline.proofs.Matched.{Matches, match_done, match_loop, match_turns}

pub zip_every : {A B : Type 0} (R : A → B → Type 0) (P : A → Type 0) (Q : B → Type 0) → ((a : A) (b : B) → R a b → P a → Q b) → (l : WeightedList A) (r : WeightedList B) → Zip R l r → Every P l → Every Q r
zip_every R P Q h [] [] z x = tt
zip_every R P Q h [] (f ∷ r) z x = absurd z
zip_every R P Q h (e ∷ l) [] z x = absurd z
zip_every R P Q h (e ∷ l) (f ∷ r) z x = (h e.0 f.0 z.1 x.0, zip_every R P Q h l r z.2 x.1)

scale_parts : {A : Type 0} (P : A → Type 0) (c : ℕ) (l : WeightedList A) → Every P (scale c l) → Every P l
scale_parts P c [] h = tt
scale_parts P c (e ∷ l) h = (h.0, scale_parts P c l h.1)

turns_at_most : (g : Setting) (s : State) (v : Term) (m : Memory) → turns_at g s v m ≤ most_turns v
turns_at_most g s v m = omega arith

scaled : (k most j : ℕ) → j ≤ most → k ^ (most - j) * k ^ j ≡ k ^ most
scaled k most j h = sym (pow-add k (most - j) j) ∙ ap (λ z. k ^ z) (let e : most - j + j ≡ most = omega (arith, h) in e)

module _ (g : Setting) (R : Memory → Memory → Type 0) (s q : State) (e f v w : Term) (a b : Program) (guards : (m n : Memory) → R m n → is_true g s e m ≡ is_true g q f n)
    (most : most_turns v ≡ most_turns w) (counts : (m n : Memory) → R m n → turns_at g s v m ≡ turns_at g q w n) (body : Matches g R s q a b) (left : (n : Memory) → (m : Memory) × R m n)
    (sound : IsSound g a) (good : IsGood g s e v a) where
  abbrev guard : Memory → Bool
  guard = is_true g q f

  abbrev turn : Memory → WeightedList Memory
  turn o = out g q b o

  abbrev k : ℕ
  k = run_denominator g b

  positive : 0 < run_denominator g a
  positive = run_positive g a sound

  here : 0 < k
  here = subst (λ z. 0 < z) body.scales positive

  false_there : (m n : Memory) → R m n → is_true g s e m ≡ false → guard n ≡ false
  false_there m n r h = sym (guards m n r) ∙ h

  module _ (n : Memory) where
    abbrev x : (m : Memory) × R m n
    x = left n

    abbrev m : Memory
    m = x.0

    abbrev j : ℕ
    j = turns_at g q w n

    abbrev t : ℕ
    t = (good m).turns

    ended : Ended guard turn k t n
    ended = zip_every R (λ o. is_true g s e o ≡ false) (λ o. guard o ≡ false) false_there _ _ (match_turns g R s q e f a b guards body t t refl m n x.1) (good m).ended

    -- the loop with its variant has ended
    stopped : Every (λ o. guard o ≡ false) (out g q (loop f w b done) n)
    stopped =
        zip_every R (λ o. is_true g s e o ≡ false) (λ o. guard o ≡ false) false_there _ _
        ((match_loop g R s q e f v w a b done done guards most counts body (match_done g R s q)).ends m n x.1) (loop_ends g s e v a good positive sound m)

    stops : Ended guard turn k j n
    stops = scale_parts (λ o. guard o ≡ false) (k ^ (most_turns w - j)) (turns guard turn k j n)
        (Every-weaken {P = λ o. Every (λ p. guard p ≡ false) (unit o)} (scale (k ^ (most_turns w - j)) (turns guard turn k j n)) (λ o h. h.0)
        (bind_parts (λ o. guard o ≡ false) (scale (k ^ (most_turns w - j)) (turns guard turn k j n)) (λ o. unit o) stopped))

    same : SameDistribution (out g q (loop f w b done) n) (run_denominator g (loop f w b done)) (turns guard turn k t n) (k ^ t)
    same =
        let L = turns guard turn k j n in
        let c = k ^ (most_turns w - j) in
        let d : c * k ^ j ≡ k ^ most_turns w * 1 = omega (arith, scaled k (most_turns w) j (turns_at_most g q w n)) in
        subst (λ z. z) (λ i. SameDistribution (sym (bind-unit_right (scale c L)) i) (d i) (turns guard turn k t n) (k ^ t))
        (same_transitive (scale c L) (c * k ^ j) L (k ^ j) (turns guard turn k t n) (k ^ t) (pow-pos k j here) (same_scale c L (k ^ j)) (ended_alike guard turn k j t n stops ended))

    from : GoodFrom g q f w b n
    from = record { turns = t; ended = ended; same = same }

  pub good_matched : IsGood g q f w b
  good_matched n = from n
