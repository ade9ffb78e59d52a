-- A body is the statement at a place, with what stands before and behind it.
use Rattle.std.proofs.Common.{◌≡◌, ℕ, ◌-◌, nat_lt, Bool, true, false, if◌then◌else◌, List, [], ◌∷◌, ◌++◌, length, take, drop, Option, Some, None, refl, ◌∙◌, subst}
use Rattle.std.proofs.lemmas.List.{take-append-drop}
use Rattle.std.proofs.lemmas.Option.{same_Some, none-some}
use Rattle.gb_core.specs.declared.refusal.Why.TheVariants.{Argument}
use Rattle.gb_terms.specs.declared.term.Instr.{Instr}
use Rattle.gb_goal.specs.Answers.{Answer}
use Rattle.gb_goal.specs.Answers.Answer.{given}
use Rattle.gb_typing.proofs.Given.{refused_given}
use Rattle.gb_trans.specs.Places.{At, cut_at, on_place, statement_at}

abbrev pub whole : At → List Instr
whole k = k.before ++ k.statement ∷ k.rest

pub placed : (n : ℕ) (is : List Instr) (k : At) → statement_at n is ≡ Some k → whole k ≡ is
placed n is k e = by_start (nat_lt n 1) e
  where
    cut : (xs ys : List Instr) → cut_at xs ys ≡ Some k → whole k ≡ xs ++ ys
    cut xs [] e = absurd (none-some k e)
    cut xs (j ∷ js) e = subst (λ (k : At). whole k ≡ xs ++ (j ∷ js)) (same_Some (record { before = xs; statement = j; rest = js }) k e) refl

    by_end : (b : Bool) → (if b then None else cut_at (take (n - 1) is) (drop (n - 1) is)) ≡ Some k → whole k ≡ is
    by_end true e = absurd (none-some k e)
    by_end false e = cut (take (n - 1) is) (drop (n - 1) is) e ∙ take-append-drop (n - 1) is

    by_start : (b : Bool) → (if b then None else if nat_lt (length is) n then None else cut_at (take (n - 1) is) (drop (n - 1) is)) ≡ Some k → whole k ≡ is
    by_start true e = absurd (none-some k e)
    by_start false e = by_end (nat_lt (length is) n) e

-- what is made of the statement at a place
pub place_given : {A : Type 0} (f : At → Answer A) (o : Option At) (x : A) → on_place f o ≡ given x → (k : At) × (o ≡ Some k) × (f k ≡ given x)
place_given f None x e = refused_given Argument x e
place_given f (Some k) x e = (k, refl, e)
