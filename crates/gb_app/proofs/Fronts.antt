-- Fronts of what is written.
use Rattle.std.proofs.Common.{◌≡◌, ℕ, zero, Bool, List, [], ◌∷◌, ◌++◌, length, take, refl, ap, sym, subst}
use Rattle.std.specs.Prelude.{Option, Some, None}
use Rattle.std.specs.Io.KnownBytes.{Appends}
use Rattle.std.proofs.lemmas.List.{append-nil}
use Rattle.gb_outside.specs.Appended.{AppendsFront}
use Rattle.gb_app.specs.Typing.{Typed, IsInput, TailOf, LeadsOn, AreFronts}
use Rattle.gb_app.proofs.Written.{AppendsFront-behind}

pub Appends-none : (old : Option (List ℕ)) → Appends old old []
Appends-none None = tt
Appends-none (Some xs) = sym (append-nil xs)

pub AppendsFront-none : (old : Option (List ℕ)) (out : List ℕ) → AppendsFront old old out
AppendsFront-none old out = (zero, Appends-none old)

take_whole : (xs ys : List ℕ) → take (length xs) (xs ++ ys) ≡ xs
take_whole [] ys = refl
take_whole (x ∷ xs) ys = ap (λ (zs : List ℕ). x ∷ zs) (take_whole xs ys)

-- what was written is a front of it with more behind
pub AppendsFront-whole : (w out : List ℕ) (old new : Option (List ℕ)) → Appends old new w → AppendsFront old new (w ++ out)
AppendsFront-whole w out old new h = (length w, subst (λ (x : List ℕ). Appends old new x) (sym (take_whole w out)) h)

-- a front of a text is one of it with more behind
pub AppendsFront-more : (w out : List ℕ) (old new : Option (List ℕ)) → AppendsFront old new w → AppendsFront old new (w ++ out)
AppendsFront-more w out old new front = AppendsFront-behind [] w out old old new (Appends-none old) front

-- a text and a front behind it
pub AppendsFront-after : (w out : List ℕ) (old mid new : Option (List ℕ)) → Appends old mid w → AppendsFront mid new out → AppendsFront old new (w ++ out)
AppendsFront-after w out old mid new first front =
    subst (λ (x : List ℕ). AppendsFront old new (w ++ x)) (append-nil out) (AppendsFront-behind w out [] old mid new first front)

-- fronts from a later point are fronts from an earlier one
pub fronts_behind : (ended : Bool) (t u : Typed) (w : List ℕ) (old mid new : Option (List ℕ)) → u.text ≡ t.text → Appends old mid w → LeadsOn ended t u w
    → AreFronts ended u mid new → AreFronts ended t old new
fronts_behind ended t u w old mid new text first leads fronts = λ input is.
    let f = fronts input (subst (λ x. IsInput ended x input) (sym text) is) in
    (w ++ f.0, leads input f.0 is f.1, AppendsFront-after w f.0 old mid new first f.2)

-- where something is written for each input
module _ (some_tail : (t : Typed) (input : List ℕ) → (out : List ℕ) × TailOf t input out) where
  -- nothing is a front
  pub nothing : (ended : Bool) (t : Typed) (old : Option (List ℕ)) → AreFronts ended t old old
  nothing ended t old = λ input is. let x = some_tail t input in (x.0, x.1, AppendsFront-none old x.0)

  -- a front of an answer
  pub answer_front : (ended : Bool) (t u : Typed) (w : List ℕ) (old new : Option (List ℕ)) → LeadsOn ended t u w → AppendsFront old new w → AreFronts ended t old new
  answer_front ended t u w old new leads front = λ input is.
      let x = some_tail u input in (w ++ x.0, leads input x.0 is x.1, AppendsFront-more w x.0 old new front)
