-- Every probability is at least 0 and at most 1: the rule is sound.
use Rattle.std.proofs.Common.{◌≡◌, ◌*◌, ◌≤◌, ℕ, zero, suc, Bool, true, false, if◌then◌else◌, ℤ, pos, negsuc, List, [], map, Option, Some, None, refl, ap, sym, ◌∙◌, subst, arith}
use Rattle.std.proofs.lemmas.Bool.{false≢true, le-leb}
use Rattle.std.specs.List.{AllByRecursion}
use Rattle.gb_core.specs.declared.refusal.Why.TheVariants.{Shape}
use Rattle.gb_core.specs.declared.value.Value.{Value}
use Rattle.gb_dist.specs.WeightedList.{WeightedList, total, weight}
use Rattle.gb_dist.proofs.Weights.{weight-le_total}
use Rattle.gb_terms.specs.declared.op.Rel.{Rel}
use Rattle.gb_terms.specs.declared.op.Rel.TheVariants.{AtMost, Equal, AtLeast}
use Rattle.gb_terms.specs.declared.term.Term.{Term}
use Rattle.gb_meaning.specs.Fractions.{Fraction}
use Rattle.gb_meaning.specs.Judgments.{Judge, IsSoundIfThere, chance, compares, den, outcome_denominator, outcomes_of, probability, speaking}
use Rattle.gb_meaning.specs.Meanings.{value_in}
use Rattle.gb_meaning.specs.Memory.{Memory}
use Rattle.gb_meaning.specs.Program.{Routine}
use Rattle.gb_meaning.specs.Setting.{Setting}
use Rattle.gb_meaning.specs.Setting.Meaning.{fraction}
use Rattle.gb_meaning.specs.State.{State, at, memory_of}
use Rattle.gb_meaning.specs.Terms.{val}
use Rattle.gb_meaning.proofs.Totals.{routine_bounded}
use Rattle.gb_meaning.specs.Declared.{Declarations}
use Rattle.gb_goal.specs.Answers.Answer.{given}
use Rattle.gb_goal.specs.Goal.{Goal}
use Rattle.gb_goal.specs.Goal.Goal.{hoare, phoare, equiv, ambient}
use Rattle.gb_goal.specs.Rows.{refusing}
use Rattle.gb_typing.specs.Context.{Context}
use Rattle.gb_typing.specs.Fits.{IsSettingOf}
use Rattle.gb_typing.specs.Goals.{IsTypedGoal}
use Rattle.gb_typing.specs.Rules.{ImpliesIn, IsSoundRuleIn, no_arguments}
use Rattle.gb_typing.specs.Typing.{IsForm, IsThere, IsTyped}
use Rattle.gb_typing.proofs.Given.{refused_given, sound_given_in}
use Rattle.gb_typing.proofs.Sound.{procedures_sound}
use Rattle.gb_prog.specs.Compared.{literal}
use Rattle.gb_prog.proofs.Comparing.{compared_is, literal_value}
use Rattle.gb_steps.specs.Chances.{Bounded, bounded_of}
use Rattle.gb_pr.specs.ByEvents.{is_kept, within_of, within_row}
use Rattle.gb_pr.proofs.BoundedForms.{IsBounded, is_bounded, term_typed}
use Rattle.gb_pr.proofs.ChanceForms.{IsTypedChance, chance_typed, chance_value}

-- a fraction stands so to a whole number, where there is one
abbrev StandsTo : Rel → Fraction → Option ℤ → Type 0
StandsTo r x (Some n) = compares r x (n, 1) ≡ true
StandsTo r x None = ⊥

-- a chance keeps such a bound
module _ (l : WeightedList Memory) (d : ℕ) (bounded : total l ≤ d) (event : Memory → Bool) where
  keeps : (r s : Rel) (n : Option ℤ) → is_kept r s n ≡ true → StandsTo s (chance l d event) n
  keeps AtLeast AtLeast (Some (pos zero)) e = le-leb (0 * d) (weight l event * 1) (omega arith)
  keeps AtLeast AtLeast (Some (pos (suc n))) e = absurd (false≢true e)
  keeps AtLeast AtLeast (Some (negsuc n)) e = absurd (false≢true e)
  keeps AtLeast AtLeast None e = absurd (false≢true e)
  keeps AtLeast Equal n e = absurd (false≢true e)
  keeps AtLeast AtMost n e = absurd (false≢true e)
  keeps AtMost AtMost (Some (pos (suc zero))) e = le-leb (weight l event * 1) (1 * d) (omega (arith, weight-le_total l event, bounded))
  keeps AtMost AtMost (Some (pos zero)) e = absurd (false≢true e)
  keeps AtMost AtMost (Some (pos (suc (suc n)))) e = absurd (false≢true e)
  keeps AtMost AtMost (Some (negsuc n)) e = absurd (false≢true e)
  keeps AtMost AtMost None e = absurd (false≢true e)
  keeps AtMost Equal n e = absurd (false≢true e)
  keeps AtMost AtLeast n e = absurd (false≢true e)
  keeps Equal s n e = absurd (false≢true e)

-- all outcomes of a procedure together weigh at most 1
outcomes_bounded : (g : Setting) (o : Option Routine) → IsSoundIfThere g o → (vs : List Value) (m : Memory) → total (outcomes_of g o vs m) ≤ outcome_denominator g o
outcomes_bounded g (Some r) w vs m = routine_bounded g r w vs m.globals
outcomes_bounded g None w vs m = absurd w

module _ (ds : Declarations) (c : Context) (f : Term) (w : IsForm c f) where
  module _ (b : Bounded) (z : IsBounded f b) where
    probability_typed : IsTyped c z.term
    probability_typed = term_typed c f w b z

    chance_there : IsTypedChance c b.chance
    chance_there = chance_typed c z.term probability_typed b.chance z.chance

    module _ (g : Setting) (j : Judge) (s : State) where
      by_literal : (x : Fraction) → val g (speaking g j) z.term s ≡ fraction x → (n : Option ℤ) → literal b.bound ≡ n → StandsTo b.rel x n → den g j f s ≡ true
      by_literal x p (Some n) e h =
          ap (λ f. den g j f s) z.is ∙ compared_is g j s b.rel z.term b.bound x (n, 1) p (literal_value g j b.bound n e s) ∙ h
      by_literal x p None e h = absurd h

      kept : (r : Rel) → is_kept r b.rel (literal b.bound) ≡ true → IsSettingOf c g → den g j f s ≡ true
      kept r t fits =
          let p = b.chance.procedure in
          let vs : List Value = map (λ e. value_in (val g (speaking g j) e s)) b.chance.arguments in
          let m : Memory = memory_of s b.chance.memory in
          let there : IsSoundIfThere g (g.procedure p) = procedures_sound c g fits p (subst IsThere (sym chance_there.declared) tt) in
          by_literal (probability g p vs m (λ n. den g j b.chance.event (at s n))) (chance_value c z.term probability_typed b.chance z.chance g j s) (literal b.bound) refl
          (keeps (outcomes_of g (g.procedure p) vs m) (outcome_denominator g (g.procedure p)) (outcomes_bounded g (g.procedure p) there vs m) (λ n. den g j b.chance.event (at s n)) r b.rel (literal b.bound) t)

    none_imply : (r : Rel) → is_kept r b.rel (literal b.bound) ≡ true → ImpliesIn ds c [] (ambient f)
    none_imply r t g fits over j fair s fit h = kept g j s r t fits

  module _ (r : Rel) (Gs : List Goal) where
    abbrev Sound : Type 0
    Sound = AllByRecursion (IsTypedGoal c) Gs × ImpliesIn ds c Gs (ambient f)

    of_test : (b : Bounded) → bounded_of f ≡ Some b → (v : Bool) → is_kept r b.rel (literal b.bound) ≡ v → (if v then given [] else refusing Shape) ≡ given Gs → Sound
    of_test b h true t e = sound_given_in ds c (ambient f) [] Gs (tt, none_imply b (is_bounded f b w.truth h) r t) e
    of_test b h false t e = refused_given Shape Gs e

    of_bounded : (o : Option Bounded) → bounded_of f ≡ o → within_of r o ≡ given Gs → Sound
    of_bounded (Some b) h e = of_test b h (is_kept r b.rel (literal b.bound)) refl e
    of_bounded None h e = refused_given Shape Gs e

module _ (ds : Declarations) (c : Context) where
  pub sound : (r : Rel) → IsSoundRuleIn ds c (within_row r) no_arguments
  sound r outer ls rs (ambient f) w y Gs e = of_bounded ds c f w r Gs (bounded_of f) refl e
  sound r outer ls rs (hoare a p q) w y Gs e = refused_given Shape Gs e
  sound r outer ls rs (phoare a d p q b) w y Gs e = refused_given Shape Gs e
  sound r outer ls rs (equiv a b p q) w y Gs e = refused_given Shape Gs e
