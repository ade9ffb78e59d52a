-- Words that ask for a script that is made from a number.
use Rattle.std.proofs.Common.{◌≡◌, ◌⊎◌, inl, inr, ℕ, Bool, true, false, List, [], ◌∷◌, Option, Some, None, refl, sym, subst}
use Rattle.std.specs.Prelude.{bytes_eq, codes, if◌then◌else◌}
use Rattle.std.proofs.lemmas.Slice.Eq.{bytes_eq-Decides}
use Rattle.gb_app.specs.declared.status.Status.{Status}
use Rattle.gb_app.specs.declared.status.Status.TheVariants as status
use Rattle.gb_state.specs.declared.verdict.Verdict.{Verdict}
use Rattle.gb_state.specs.declared.verdict.Verdict.TheVariants.{Accepted, Refused}
use Rattle.gb_app.specs.Words.{file_of, script_number, number_asked}
use Rattle.std.specs.Io.KnownBytes.{Appends}
use Rattle.gb_theory.specs.Verdicts.{IsVerdict}
use Rattle.gb_app.specs.Status.{status_of}
use Rattle.gb_app.specs.Generated.{script_of, summary_of, Summarised}

chosen : (t : Bool) (x : Option ℕ) (n : ℕ) → (if t then x else None) ≡ Some n → t ≡ true
chosen true x n e = refl
chosen false x n e = absurd (cc)

other_verb : (verb word : List ℕ) → verb ≡ codes "selftest" → file_of (verb ∷ word ∷ []) ≡ None
other_verb verb word is = subst (λ v. file_of (v ∷ word ∷ []) ≡ None) (sym is) refl

-- they name no file
pub no_file : (words : List (List ℕ)) (n : ℕ) → number_asked words ≡ Some n → file_of words ≡ None
no_file [] n e = absurd (cc)
no_file (verb ∷ []) n e = absurd (cc)
no_file (verb ∷ word ∷ []) n e =
    other_verb verb word ((bytes_eq-Decides verb (codes "selftest")).0 (chosen (bytes_eq verb (codes "selftest")) (script_number word) n e))
no_file (verb ∷ word ∷ another ∷ more) n e = absurd (cc)

-- such a run ends with a status of its verdict, or after a fault of writing, or where memory ran out
pub not_usage : {A : Type 0} (n : ℕ) (s : Status) (old new : Option (List ℕ)) → Summarised n s old new → s ≡ status.Usage → A
not_usage n s old new h is = of_verdict (subst (λ x. Summarised n x old new) is h)
  where
    of_verdict : {A : Type 0} → Summarised n status.Usage old new → A
    of_verdict (Accepted names, due, e, text) = absurd (cc)
    of_verdict (Refused why place, due, e, text) = absurd (cc)

pub not_missing : {A : Type 0} (n : ℕ) (s : Status) (old new : Option (List ℕ)) → Summarised n s old new → s ≡ status.Missing → A
not_missing n s old new h is = of_verdict (subst (λ x. Summarised n x old new) is h)
  where
    of_verdict : {A : Type 0} → Summarised n status.Missing old new → A
    of_verdict (Accepted names, due, e, text) = absurd (cc)
    of_verdict (Refused why place, due, e, text) = absurd (cc)

pub not_read_fault : {A : Type 0} (n : ℕ) (s : Status) (old new : Option (List ℕ)) → Summarised n s old new → s ≡ status.ReadFault → A
not_read_fault n s old new h is = of_verdict (subst (λ x. Summarised n x old new) is h)
  where
    of_verdict : {A : Type 0} → Summarised n status.ReadFault old new → A
    of_verdict (Accepted names, due, e, text) = absurd (cc)
    of_verdict (Refused why place, due, e, text) = absurd (cc)

pub silent : (n : ℕ) (s : Status) (old new : Option (List ℕ)) → Summarised n s old new
    → (s ≡ status.Missing) ⊎ (s ≡ status.ReadFault) ⊎ (s ≡ status.NoMemory) → new ≡ old
silent n s old new h (inl is) = not_missing n s old new h is
silent n s old new h (inr (inl is)) = not_read_fault n s old new h is
silent n s old new h (inr (inr is)) = subst (λ x. Summarised n x old new) is h

-- the verdict was told
pub told : (n : ℕ) (s : Status) (v : Verdict) (old new : Option (List ℕ)) → IsVerdict (script_of n) v → s ≡ status_of v
    → Appends old new (summary_of n v) → Summarised n s old new
told n s (Accepted names) old new due is text = subst (λ x. Summarised n x old new) (sym is) (Accepted names, due, refl, text)
told n s (Refused why place) old new due is text = subst (λ x. Summarised n x old new) (sym is) (Refused why place, due, refl, text)
