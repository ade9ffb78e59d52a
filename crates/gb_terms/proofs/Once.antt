-- Noting reads one after another keeps each once, where it stands first.
use Rattle.std.proofs.Common.{◌≡◌, Bool, true, false, not, ◌&&◌, ◌||◌, cond, [], ◌∷◌, ◌++◌, refl, sym, ap, subst, ◌∙◌, filter, if◌then◌else◌, append-nil, append_assoc}
use Rattle.std.specs.List.{list_any}
use Rattle.std.proofs.lemmas.List.Folds.{list_any-append}
use Rattle.gb_terms.specs.declared.op.Read.{Read}
use Rattle.gb_terms.specs.Equal.{read_eq}
use Rattle.gb_terms.specs.Reads.{Reads, each_once, with_read, noted}
use Rattle.gb_terms.proofs.Equality.{read_eq-Decides}

pub noted_append : (seen xs ys : Reads) → noted seen (xs ++ ys) ≡ noted (noted seen xs) ys
noted_append seen [] ys = refl
noted_append seen (r ∷ xs) ys = noted_append (with_read seen r) xs ys

abbrev Test : Type 0
Test = Read → Bool

abbrev among : Reads → Test
among seen r = list_any (λ s. read_eq s r) seen

abbrev fresh : Reads → Test
fresh seen r = not (among seen r)

abbrev differs : Read → Test
differs r s = not (read_eq r s)

-- two tests that agree select the same
alike : (p q : Test) → ((r : Read) → p r ≡ q r) → (rs : Reads) → filter p rs ≡ filter q rs
alike p q e [] = refl
alike p q e (r ∷ rs) = λ i. cond (e r i) (r ∷ alike p q e rs i) (alike p q e rs i)

both_step : (p : Test) (b : Bool) (r : Read) (xs ys : Reads) → filter p xs ≡ ys → filter p (cond b (r ∷ xs) xs) ≡ cond (b && p r) (r ∷ ys) ys
both_step p true r xs ys e = λ i. cond (p r) (r ∷ e i) (e i)
both_step p false r xs ys e = e

both : (p q : Test) (rs : Reads) → filter p (filter q rs) ≡ filter (λ r. q r && p r) rs
both p q [] = refl
both p q (r ∷ rs) = both_step p (q r) r _ _ (both p q rs)

selects : (p q t : Test) → ((r : Read) → (q r && p r) ≡ t r) → (rs : Reads) → filter p (filter q rs) ≡ filter t rs
selects p q t e rs = both p q rs ∙ alike (λ r. q r && p r) t e rs

known_at : (seen : Reads) (r s : Read) (b : Bool) → read_eq r s ≡ b → among seen r ≡ true → (not b && fresh seen s) ≡ fresh seen s
known_at seen r s false e h = refl
known_at seen r s true e h = sym (ap not (subst (λ z. among seen z ≡ true) ((read_eq-Decides r s).0 e) h))

known : (seen : Reads) (r : Read) → among seen r ≡ true → (rs : Reads) → filter (fresh seen) (filter (differs r) rs) ≡ filter (fresh seen) rs
known seen r h = selects (fresh seen) (differs r) (fresh seen) (λ s. known_at seen r s (read_eq r s) refl h)

neither : (a b : Bool) → (not b && not a) ≡ not (a || (b || false))
neither true true = refl
neither true false = refl
neither false true = refl
neither false false = refl

new : (seen : Reads) (r : Read) (rs : Reads) → filter (fresh seen) (filter (differs r) rs) ≡ filter (fresh (seen ++ r ∷ [])) rs
new seen r = selects (fresh seen) (differs r) (fresh (seen ++ r ∷ [])) (λ s. neither (among seen s) (read_eq r s) ∙ sym (ap not (list_any-append (λ q. read_eq q s) seen (r ∷ []))))

abbrev Noted : Reads → Reads → Type 0
Noted seen rs = noted seen rs ≡ seen ++ filter (fresh seen) (each_once rs)

noted_step : (seen : Reads) (r : Read) (rs : Reads) (b : Bool) → among seen r ≡ b → ((s : Reads) → Noted s rs) → noted (if b then seen else seen ++ r ∷ []) rs ≡ seen ++ cond (not b) (r ∷ filter (fresh seen) (filter (differs r) (each_once rs))) (filter (fresh seen) (filter (differs r) (each_once rs)))
noted_step seen r rs true e ih = ih seen ∙ ap (λ z. seen ++ z) (sym (known seen r e (each_once rs)))
noted_step seen r rs false e ih =
    ih (seen ++ r ∷ [])
    ∙ append_assoc seen (r ∷ []) _
    ∙ ap (λ z. seen ++ r ∷ z) (sym (new seen r (each_once rs)))

noted_is : (rs seen : Reads) → Noted seen rs
noted_is [] seen = sym (append-nil seen)
noted_is (r ∷ rs) seen = noted_step seen r rs (among seen r) refl (noted_is rs)

all_fresh : (rs : Reads) → filter (fresh []) rs ≡ rs
all_fresh [] = refl
all_fresh (r ∷ rs) = ap (λ z. r ∷ z) (all_fresh rs)

pub noted_each_once : (rs : Reads) → noted [] rs ≡ each_once rs
noted_each_once rs = noted_is rs [] ∙ all_fresh (each_once rs)
