-- Each text is read within the limits, or refused.
use Rattle.std.specs.Prelude.{◌⊎◌, ℕ, ℤ, List, length}
use Rattle.std.proofs.Common.{refl, inl, inr, ⊎_elim}
use Rattle.gb_core.specs.declared.place.Place.{Place}
use Rattle.gb_core.specs.declared.refusal.Why.{Why}
use Rattle.gb_core.specs.declared.refusal.Why.TheVariants.{Depth, LeftOut, Overflow, Syntax, TooMany}
use Rattle.gb_script.specs.declared.table.Step.{Step}
use Rattle.gb_script.specs.Parsing.{FirstFault, StepsBefore, IsTextOrFault}
use Rattle.gb_script.specs.declared.action.Rule.{Rule}
use Rattle.gb_script.specs.declared.text.Text.{Text}
use Rattle.gb_script.specs.declared.tree.Node.{Node}
use Rattle.gb_script.specs.Text.{place_at}
use Rattle.gb_language.specs.Language.{language, IsPart}
use Rattle.gb_limits.specs.Lexeme.{kinds_of}
use Rattle.gb_limits.specs.LeftOut.{IsFirstLeftOut, NoneLeftOut}
use Rattle.gb_limits.specs.Limits.{IsFirstTooDeep, NoneTooDeep, IsFirstLong, NoneLong}
use Rattle.gb_limits.specs.Numbers.{IsFirstOverflow, NoneOverflow}
use Rattle.gb_read_script.specs.Reading.{IsText, StopsAt, IsStop, IsExcess, IsLimit, IsRefusal, IsAllowed, SpellsTree}

-- Such a reason, at such a place.
abbrev Some : (Why → Place → Type 0) → Type 0
Some P = (why : Why) × (place : Place) × P why place

-- where each kind of position has none, or a first one
module _
    (left_out : (t : Text) → NoneLeftOut t ⊎ ((i : ℕ) × IsFirstLeftOut t i))
    (too_deep : (t : Text) (steps : List (Step Rule)) (fault : ℕ) → NoneTooDeep t steps fault ⊎ ((i : ℕ) × IsFirstTooDeep t steps fault i))
    (long : (t : Text) (steps : List (Step Rule)) → NoneLong t steps ⊎ ((i : ℕ) × IsFirstLong t steps i))
    (overflow : (t : Text) → NoneOverflow t ⊎ ((i : ℕ) × (left : ℤ) × (right : ℤ) × IsFirstOverflow t i left right)) where
  -- a text that these steps read up to a token
  stopped : (t : Text) (at : ℕ) (steps : List (Step Rule)) → Some (IsStop t at steps)
  stopped t at steps =
      ⊎_elim (λ (none : NoneTooDeep t steps at). (Syntax, place_at t at, inr (refl, none, refl)))
      (λ (x : (i : ℕ) × IsFirstTooDeep t steps at i). (Depth, place_at t x.0, inl (refl, (x.0, x.1, refl))))
      (too_deep t steps at)

  numbered : (t : Text) (steps : List (Step Rule)) → NoneLong t steps → NoneOverflow t ⊎ Some (IsExcess t steps)
  numbered t steps short =
      ⊎_elim (λ (none : NoneOverflow t). inl none)
      (λ (x : (i : ℕ) × (left : ℤ) × (right : ℤ) × IsFirstOverflow t i left right).
      inr (Overflow x.1 x.2, place_at t x.0, inr (short, (x.0, x.1, x.2, x.3, refl, refl))))
      (overflow t)

  -- chains, then numbers
  excess : (t : Text) (steps : List (Step Rule)) → (NoneLong t steps × NoneOverflow t) ⊎ Some (IsExcess t steps)
  excess t steps =
      ⊎_elim
      (λ (short : NoneLong t steps).
      ⊎_elim (λ (small : NoneOverflow t). inl (short, small)) (λ (x : Some (IsExcess t steps)). inr x) (numbered t steps short))
      (λ (x : (i : ℕ) × IsFirstLong t steps i). inr (TooMany 256, place_at t x.0, inl (refl, (x.0, x.1, refl))))
      (long t steps)

  -- levels, then chains and numbers
  abbrev Passes : Text → List (Step Rule) → Type 0
  Passes t steps = NoneTooDeep t steps (length t.lexemes) × NoneLong t steps × NoneOverflow t

  limit : (t : Text) (steps : List (Step Rule)) → Passes t steps ⊎ Some (IsLimit t steps)
  limit t steps =
      ⊎_elim
      (λ (shallow : NoneTooDeep t steps (length t.lexemes)).
      ⊎_elim (λ (x : NoneLong t steps × NoneOverflow t). inl (shallow, x.0, x.1))
      (λ (x : Some (IsExcess t steps)). inr (x.0, x.1, inr (shallow, x.2)))
      (excess t steps))
      (λ (x : (i : ℕ) × IsFirstTooDeep t steps (length t.lexemes) i). inr (Depth, place_at t x.0, inl (refl, (x.0, x.1, refl))))
      (too_deep t steps (length t.lexemes))

  -- where each list of kinds is a text or has a first fault, and what is derived spells a tree
  module _
      (text_or_fault : (part : ℕ) → IsPart part → (t : Text) → IsTextOrFault language part (kinds_of t))
      (spells : (part : ℕ) → IsPart part → (t : Text) (steps : List (Step Rule)) → IsText part t steps → (x : Node) × SpellsTree part t x) where
    -- The text is read within the limits, or refused.
    abbrev Outcome : ℕ → Text → Type 0
    Outcome part t = ((x : Node) × SpellsTree part t x × IsAllowed part t) ⊎ Some (IsRefusal part t)

    derived : (part : ℕ) → IsPart part → (t : Text) → NoneLeftOut t → (steps : List (Step Rule)) → IsText part t steps → Outcome part t
    derived part ready t none steps text =
        ⊎_elim
        (λ (x : Passes t steps).
        let tree = spells part ready t steps text in
        inl (tree.0, tree.1, (none, record { steps = steps; text = text; deep = x.0; long = x.1; numbers = x.2 })))
        (λ (x : Some (IsLimit t steps)). inr (x.0, x.1, inr (none, inr (steps, text, x.2))))
        (limit t steps)

    faulty : (part : ℕ) (t : Text) → NoneLeftOut t → (at : ℕ) (steps : List (Step Rule)) → StopsAt part t at steps → Outcome part t
    faulty part t none at steps stops =
        let x = stopped t at steps in
        inr (x.0, x.1, inr (none, inl (at, steps, stops, x.2)))

    spelled : (part : ℕ) → IsPart part → (t : Text) → NoneLeftOut t → Outcome part t
    spelled part ready t none =
        ⊎_elim (λ (x : (steps : List (Step Rule)) × IsText part t steps). derived part ready t none x.0 x.1)
        (λ (x : (at : ℕ) × (steps : List (Step Rule)) × FirstFault language part (kinds_of t) at × StepsBefore language part (kinds_of t) at steps).
        faulty part t none x.0 x.1 (x.2, x.3))
        (text_or_fault part ready t)

    pub outcome : (part : ℕ) (t : Text) → IsPart part → Outcome part t
    outcome part t ready =
        ⊎_elim (λ (none : NoneLeftOut t). spelled part ready t none)
        (λ (x : (i : ℕ) × IsFirstLeftOut t i). inr (LeftOut, place_at t x.0, inl (refl, (x.0, x.1, refl))))
        (left_out t)
