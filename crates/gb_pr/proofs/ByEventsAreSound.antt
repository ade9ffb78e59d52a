-- Two probabilities of one procedure, by their events: the rule is sound.
use Rattle.std.proofs.Common.{◌≡◌, ◌*◌, ◌≤◌, ℕ, Bool, true, false, ◌&&◌, if◌then◌else◌, pos, List, [], ◌∷◌, map, Option, Some, None, refl, ap, sym, ◌∙◌, subst, arith, mul-le-mul_left}
use Rattle.std.proofs.lemmas.Bool.{and_parts, le-leb}
use Rattle.std.proofs.lemmas.Bool.Decides.{Decides-int_eq}
use Rattle.std.specs.List.{AllByRecursion}
use Rattle.gb_core.specs.declared.refusal.Why.TheVariants.{Shape}
use Rattle.gb_dist.specs.WeightedList.{WeightedList, bit, weight}
use Rattle.gb_dist.proofs.Masses.{mass-same}
use Rattle.gb_dist.proofs.Weights.{weight-le}
use Rattle.gb_terms.specs.declared.decl.TypedName.{TypedName}
use Rattle.gb_terms.specs.declared.op.Rel.{Rel}
use Rattle.gb_terms.specs.declared.op.Rel.TheVariants.{AtMost, Equal, AtLeast}
use Rattle.gb_terms.specs.declared.op.Side.TheVariants.{Own}
use Rattle.gb_terms.specs.declared.term.Term.{Term}
use Rattle.gb_meaning.specs.Judgments.{Judge, IsFair, chance, compares, den, outcome_denominator, outcomes_of, probability, speaking}
use Rattle.gb_meaning.specs.Meanings.{value_in}
use Rattle.gb_meaning.specs.Memory.{Memory, result_name}
use Rattle.gb_meaning.specs.Setting.{Setting}
use Rattle.gb_meaning.specs.Setting.Meaning.{fraction}
use Rattle.gb_meaning.specs.State.{State, at, memory_of}
use Rattle.gb_meaning.specs.Terms.{val}
use Rattle.gb_meaning.specs.Declared.{Declarations}
use Rattle.gb_goal.specs.Answers.Answer.{given}
use Rattle.gb_goal.specs.Goal.{Goal}
use Rattle.gb_goal.specs.Goal.Goal.{hoare, phoare, equiv, ambient}
use Rattle.gb_goal.specs.Rows.{refusing}
use Rattle.gb_typing.specs.Context.{Context, Frame, procedure, with_own}
use Rattle.gb_typing.specs.Fits.{IsSettingOf}
use Rattle.gb_typing.specs.Forms.{every}
use Rattle.gb_typing.specs.Goals.{IsTypedGoal}
use Rattle.gb_typing.specs.Rules.{ImpliesIn, IsSoundRuleIn, no_arguments, outermost}
use Rattle.gb_typing.specs.Typing.{IsForm, IsTyped, after}
use Rattle.gb_typing.proofs.Ambient.{one_meaning, one_typed}
use Rattle.gb_typing.proofs.Given.{refused_given, sound_given_in}
use Rattle.gb_prog.specs.Likely.{as_likely}
use Rattle.gb_prog.proofs.Likely.{FollowsAt, as_likely_typed, likely_at}
use Rattle.gb_steps.specs.Chances.{Compared, chances_of}
use Rattle.gb_pr.specs.ByEvents.{by_events_goals, by_events_of, by_events_row, same_rel, same_start}
use Rattle.gb_pr.proofs.ChanceForms.{AreCompared, IsTypedChance, are_compared, chance_typed, chance_value, comparison_says, sides_typed}
use Rattle.gb_pr.proofs.SameStarts.{HaveOneStart, one_start}

-- Events of one list are as likely, at most, or at least, where they stand so to one another on each outcome.
module _ (l : WeightedList Memory) (d : ℕ) where
  no_heavier : (s u : Memory → Bool) → ((m : Memory) → s m ≡ true → u m ≡ true) → weight l s * d ≤ weight l u * d
  no_heavier s u h = omega (arith, mul-le-mul_left d (weight-le l s u h))

  as_events : (r : Rel) (s u : Memory → Bool) → ((m : Memory) → FollowsAt r (s m) (u m)) → compares r (chance l d s) (chance l d u) ≡ true
  as_events AtMost s u h = le-leb (weight l s * d) (weight l u * d) (no_heavier s u h)
  as_events Equal s u h = (Decides-int_eq (pos (weight l s * d)) (pos (weight l u * d))).1 (ap (λ w. pos (w * d)) (mass-same l (λ m. bit (s m)) (λ m. bit (u m)) (λ m. ap bit (h m))))
  as_events AtLeast s u h = le-leb (weight l u * d) (weight l s * d) (no_heavier u s h)

module _ (ds : Declarations) (c : Context) (outer : c ≡ outermost c) (f : Term) (form : IsForm c f) where
  module _ (k : Compared) (e : chances_of f ≡ Some k) (one : HaveOneStart k.left k.right) where
    seen : AreCompared f k
    seen = are_compared f k e

    sides : IsTyped c seen.left × IsTyped c seen.right
    sides = sides_typed c f form k.rel seen.left seen.right seen.comparison

    typed_left : IsTypedChance c k.left
    typed_left = chance_typed c seen.left sides.0 k.left seen.left_chance

    typed_right : IsTypedChance c k.right
    typed_right = chance_typed c seen.right sides.1 k.right seen.right_chance

    -- the memory of an outcome
    abbrev F : Frame
    F = after (procedure c k.left.procedure)

    abbrev result : List TypedName
    result = record { name = result_name; ty = (typed_left.type).result } ∷ []

    has_result : F ≡ Some result
    has_result = ap after typed_left.declared

    right_event : IsForm (with_own c F) k.right.event
    right_event = subst (λ p. IsForm (with_own c (after (procedure c p))) k.right.event) (sym one.procedure) typed_right.event

    abbrev related : Term
    related = as_likely k.rel k.left.event k.right.event

    related_typed : IsForm (with_own c F) related
    related_typed = as_likely_typed (with_own c F) k.rel k.left.event k.right.event typed_left.event right_event

    goals_typed : AllByRecursion (IsTypedGoal c) (by_events_goals k)
    goals_typed = (([], [], one_typed c outer F result has_result related related_typed), tt)

    module _ (g : Setting) (j : Judge) (s : State) where
      abbrev outcomes : WeightedList Memory
      outcomes = outcomes_of g (g.procedure k.left.procedure) (map (λ e. value_in (val g (speaking g j) e s)) k.left.arguments) (memory_of s k.left.memory)

      abbrev size : ℕ
      size = outcome_denominator g (g.procedure k.left.procedure)

      left_value : val g (speaking g j) seen.left s ≡ fraction (chance outcomes size (λ n. den g j k.left.event (at s n)))
      left_value = chance_value c seen.left sides.0 k.left seen.left_chance g j s

      -- the right probability is one of the same outcomes
      right_value : val g (speaking g j) seen.right s ≡ fraction (chance outcomes size (λ n. den g j k.right.event (at s n)))
      right_value =
          let p = sym one.procedure in
          let es = sym one.arguments in
          let m = sym one.memory in
          chance_value c seen.right sides.1 k.right seen.right_chance g j s
          ∙ (λ i. fraction (probability g (p i) (map (λ e. value_in (val g (speaking g j) e s)) (es i)) (memory_of s (m i)) (λ n. den g j k.right.event (at s n))))

      compared_so : IsSettingOf c g → IsFair g j → den g j (every Own related) s ≡ true → den g j f s ≡ true
      compared_so fits fair h =
          comparison_says c f form k.rel seen.left seen.right seen.comparison g j s _ _ left_value right_value
          ∙ as_events outcomes size k.rel (λ n. den g j k.left.event (at s n)) (λ n. den g j k.right.event (at s n))
          (λ n. likely_at g j (at s n) k.rel k.left.event k.right.event (one_meaning c outer F result has_result related related_typed g fits j fair s h n))

    goals_imply : ImpliesIn ds c (by_events_goals k) (ambient f)
    goals_imply g fits over j fair s fit h = compared_so g j s fits fair h.0

  module _ (r : Rel) (Gs : List Goal) where
    abbrev Sound : Type 0
    Sound = AllByRecursion (IsTypedGoal c) Gs × ImpliesIn ds c Gs (ambient f)

    of_test : (k : Compared) → chances_of f ≡ Some k → (b : Bool) → (same_rel r k.rel && same_start k.left k.right) ≡ b →
        (if b then given (by_events_goals k) else refusing Shape) ≡ given Gs → Sound
    of_test k h true t e =
        let one = one_start k.left k.right (and_parts (same_rel r k.rel) (same_start k.left k.right) t).1 in
        sound_given_in ds c (ambient f) (by_events_goals k) Gs (goals_typed k h one, goals_imply k h one) e
    of_test k h false t e = refused_given Shape Gs e

    of_comparison : (o : Option Compared) → chances_of f ≡ o → by_events_of r o ≡ given Gs → Sound
    of_comparison (Some k) h e = of_test k h (same_rel r k.rel && same_start k.left k.right) refl e
    of_comparison None h e = refused_given Shape Gs e

module _ (ds : Declarations) (c : Context) where
  pub sound : (r : Rel) → IsSoundRuleIn ds c (by_events_row r) no_arguments
  sound r outer ls rs (ambient f) w y Gs e = of_comparison ds c outer f w r Gs (chances_of f) refl e
  sound r outer ls rs (hoare a p q) w y Gs e = refused_given Shape Gs e
  sound r outer ls rs (phoare a d p q b) w y Gs e = refused_given Shape Gs e
  sound r outer ls rs (equiv a b p q) w y Gs e = refused_given Shape Gs e
