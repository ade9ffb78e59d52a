-- `hoare` is sound.
use Rattle.std.proofs.Common.{◌≡◌, ℤ, ◌<◌, Bool, true, false, not, zero, suc, pos, negsuc, List, [], ◌∷◌, Option, Some, None, refl, ap, sym, ◌∙◌, subst}
use Rattle.std.specs.List.{AllByRecursion}
use Rattle.std.proofs.lemmas.Bool.{false≢true}
use Rattle.gb_core.specs.declared.refusal.Why.TheVariants.{Shape, NotLossless}
use Rattle.gb_core.specs.declared.ty.Ty.TheVariants as ty
use Rattle.gb_dist.specs.WeightedList.{total, Every}
use Rattle.gb_dist.proofs.Entries.{Every-weaken}
use Rattle.gb_terms.specs.declared.decl.TypedName.{TypedName}
use Rattle.gb_terms.specs.declared.module.ProcRef.{ProcRef}
use Rattle.gb_terms.specs.declared.op.Rel.TheVariants.{AtMost, Equal, AtLeast}
use Rattle.gb_terms.specs.declared.term.Term.{Term}
use Rattle.gb_meaning.specs.Commands.{statements}
use Rattle.gb_meaning.specs.Fractions.{Fraction}
use Rattle.gb_meaning.specs.Meanings.{fraction_in}
use Rattle.gb_meaning.specs.Memory.{Memory}
use Rattle.gb_meaning.specs.Setting.{Setting}
use Rattle.gb_meaning.specs.Setting.Meaning.{fraction}
use Rattle.gb_meaning.specs.State.{State, at}
use Rattle.gb_meaning.specs.Terms.{val}
use Rattle.gb_meaning.specs.Judgments.{IsSoundIfThere, Judge, IsFair, from_frame, outcome_denominator, speaking, IsTrueUnder, den, chance, compares}
use Rattle.gb_meaning.specs.Runs.{parameter_values}
use Rattle.gb_meaning.specs.Written.{type_of}
use Rattle.gb_meaning.proofs.Runs.{routine_positive, run_positive}
use Rattle.gb_meaning.proofs.Truths.{true_not}
use Rattle.gb_meaning.specs.Declared.{declared}
use Rattle.gb_goal.specs.declared.sequent.Sequent.{Sequent}
use Rattle.gb_goal.specs.Answers.{◌>>=◌}
use Rattle.gb_goal.specs.Answers.Answer.{given}
use Rattle.gb_goal.specs.Goal.{Code, Goal}
use Rattle.gb_goal.specs.Goal.Code.{body, procedure}
use Rattle.gb_goal.specs.Goal.Goal.{hoare, phoare, equiv, ambient}
use Rattle.gb_goal.specs.Scope.{Declarations}
use Rattle.gb_typing.specs.Context as context
use Rattle.gb_typing.specs.Context.{Context, with_own}
use Rattle.gb_typing.specs.Fits.{IsSettingOf, IsStateOf}
use Rattle.gb_typing.specs.Scopes.{context_of, IsTypedScope}
use Rattle.gb_typing.specs.Sequents.{of_sequent, IsTypedSequent}
use Rattle.gb_typing.specs.Typing.{IsThere, IsTyped}
use Rattle.gb_typing.proofs.Drawing.{body_sound}
use Rattle.gb_typing.proofs.Sound.{procedures_sound}
use Rattle.gb_typing.specs.Forms.{not_form}
use Rattle.gb_typing.specs.Meaning.{run_of, denominator_of}
use Rattle.gb_typing.specs.Rules.{IsSettingOver, ImpliesIn, IsSoundRuleIn, no_arguments, outermost}
use Rattle.gb_typing.specs.Goals.{IsCode, IsGoalOver, IsTypedGoal, frame_after}
use Rattle.gb_typing.proofs.Forms.{not_typed}
use Rattle.gb_typing.proofs.Given.{refused_given, sound_given_in}
use Rattle.gb_prog.specs.Compared.{literal}
use Rattle.gb_prog.specs.Compared as real
use Rattle.gb_full.specs.Loss.{Loss, nowhere, sampled, called, code_loss}
use Rattle.gb_prog.proofs.Bound.{bound_value}
use Rattle.gb_prog.proofs.Chances.{certain, impossible, at_least_certain, at_most_impossible}
use Rattle.gb_prog.proofs.Comparing.{number_made, real_made, compared_typed, number_is, compared_is, literal_value}
use Rattle.gb_full.proofs.Full.{IsWholeProcedure, procedure_whole, total_full}
use Rattle.gb_full.specs.Lossless.{full}
use Rattle.gb_pr.specs.Hoare.{never, at_most_goals, at_least_goals, exactly, hoare_row}

not_true : (b : Bool) → not b ≡ true → b ≡ false
not_true false h = refl
not_true true h = absurd (false≢true h)

module _ (ds : Declarations) (scoped : IsTypedScope (declared ds)) (q : Sequent) (t : IsTypedSequent (context_of (declared ds)) q) where
  abbrev c : Context
  c = of_sequent (context_of (declared ds)) q t.frames

  -- what loses no weight has the whole weight
  module _ (g : Setting) (fits : IsSettingOf c g) (over : IsSettingOver (declared ds) g) where
    pub record IsWhole (s : State) (a : Code) (m : Memory) : Type 0 where
      pub positive : 0 < denominator_of g a
      pub total : total (run_of g s a m) ≡ denominator_of g a

    whole_procedure : (s : State) (r : ProcRef) (m : Memory) → IsThere (context.procedure c r) → IsWholeProcedure ds scoped q t g fits over r → IsWhole s (procedure r) m
    whole_procedure s r m w x = record {
      positive = subst (λ o. 0 < outcome_denominator g o) (sym x.there) (routine_positive g x.found (subst (IsSoundIfThere g) x.there (procedures_sound c g fits r w)));
      total = subst (λ o. total (from_frame g o m) ≡ outcome_denominator g o) (sym x.there) (x.total (parameter_values g x.found m) m.globals);
    }

    whole : (s : State) (ls : List TypedName) (a : Code) → IsCode c ls a → code_loss ds a ≡ nowhere → (m : Memory) → IsWhole s a m
    whole s ls (body is) w k m =
        record { positive = run_positive g (statements g is) (body_sound c g fits ls is w.statements); total = total_full ds scoped q t g fits over ls is w k s m }
    whole s ls (procedure r) w k m = whole_procedure s r m w (procedure_whole ds scoped q t g fits over r k)

  module _ (outer : c ≡ outermost c) (ls rs : List TypedName) (a : Code) (p f b : Term) (w : IsTyped (with_own c None) b) (e : type_of b ≡ ty.Real) where
    in_context : IsTyped c b
    in_context = subst (λ d. IsTyped d b) (ap (λ d. with_own d None) outer ∙ sym outer) w

    module _ (g : Setting) (fits : IsSettingOf c g) (j : Judge) (fair : IsFair g j) (s : State) (fit : IsStateOf c g s) where
      abbrev bound : Fraction
      bound = fraction_in (val g (speaking g j) b s)

      bound_means : val g (speaking g j) b s ≡ fraction bound
      bound_means = bound_value c b w e g fits j fair s fit

      none : (m : Memory) → Every (λ n. IsTrueUnder g j (not_form f) (at s n)) (run_of g s a m) → Every (λ n. den g j f (at s n) ≡ false) (run_of g s a m)
      none m h = Every-weaken {P = λ n. IsTrueUnder g j (not_form f) (at s n)} (run_of g s a m) (λ n x. not_true (den g j f (at s n)) (sym (true_not g j f (at s n)) ∙ x)) h

    at_most_implies : ImpliesIn (declared ds) c (at_most_goals a p f b) (phoare a AtMost p f b)
    at_most_implies g fits over j fair s fit h m z =
        at_most_impossible (run_of g s a m) (denominator_of g a) (λ n. den g j f (at s n)) (none g fits j fair s fit m (h.0 m z)) (bound g fits j fair s fit)
        (sym (compared_is g j s AtMost real.zero b (pos 0, 1) (bound g fits j fair s fit) (number_is g j s (pos 0)) (bound_means g fits j fair s fit)) ∙ h.1.0)

    at_least_implies : IsCode c ls a → code_loss ds a ≡ nowhere → ImpliesIn (declared ds) c (at_least_goals a p f b) (phoare a AtLeast p f b)
    at_least_implies k l g fits over j fair s fit h m z =
        let x = whole g fits over s ls a k l m in
        at_least_certain (run_of g s a m) (denominator_of g a) (λ n. den g j f (at s n)) x.positive x.total (h.0 m z) (bound g fits j fair s fit)
        (sym (compared_is g j s AtMost b real.one (bound g fits j fair s fit) (pos 1, 1) (bound_means g fits j fair s fit) (number_is g j s (pos 1))) ∙ h.1.0)

    never_implies : literal b ≡ Some (pos 0) → ImpliesIn (declared ds) c (never a p f ∷ []) (phoare a Equal p f b)
    never_implies n g fits over j fair s fit h m z =
        ap (λ x. compares Equal (chance (run_of g s a m) (denominator_of g a) (λ n. den g j f (at s n))) (fraction_in x)) (literal_value g j b (pos 0) n s)
        ∙ impossible (run_of g s a m) (denominator_of g a) (λ n. den g j f (at s n)) (none g fits j fair s fit m (h.0 m z))

    always_implies : IsCode c ls a → code_loss ds a ≡ nowhere → literal b ≡ Some (pos 1) → ImpliesIn (declared ds) c (hoare a p f ∷ []) (phoare a Equal p f b)
    always_implies k l n g fits over j fair s fit h m z =
        let x = whole g fits over s ls a k l m in
        ap (λ x. compares Equal (chance (run_of g s a m) (denominator_of g a) (λ n. den g j f (at s n))) (fraction_in x)) (literal_value g j b (pos 1) n s)
        ∙ certain (run_of g s a m) (denominator_of g a) (λ n. den g j f (at s n)) x.total (h.0 m z)

  module _ (outer : c ≡ outermost c) (ls rs : List TypedName) where
    abbrev Sound : Goal → List Goal → Type 0
    Sound G Gs = AllByRecursion (IsTypedGoal c) Gs × ImpliesIn (declared ds) c Gs G

    at_most_sound : (a : Code) (p f b : Term) → IsGoalOver c ls rs (phoare a AtMost p f b) → (Gs : List Goal) → given (at_most_goals a p f b) ≡ given Gs → Sound (phoare a AtMost p f b) Gs
    at_most_sound a p f b w Gs h =
        sound_given_in (declared ds) c (phoare a AtMost p f b) (at_most_goals a p f b) Gs (
          (
            (ls, rs, (w.0, w.1, not_typed (with_own c (frame_after c ls a)) f w.2)),
            ((ls, rs, compared_typed c AtMost real.zero b (number_made c (pos 0)) (real_made c b (in_context outer ls rs a p f b w.3 w.4) w.4)), tt),
          ),
          at_most_implies outer ls rs a p f b w.3 w.4,
        ) h

    at_least_sound : (a : Code) (p f b : Term) → IsGoalOver c ls rs (phoare a AtLeast p f b) → (Gs : List Goal) → (l : Loss) → code_loss ds a ≡ l → (full l >>= λ _. given (at_least_goals a p f b)) ≡ given Gs →
        Sound (phoare a AtLeast p f b) Gs
    at_least_sound a p f b w Gs nowhere k h =
        sound_given_in (declared ds) c (phoare a AtLeast p f b) (at_least_goals a p f b) Gs (
          (
            (ls, rs, (w.0, w.1, w.2)),
            ((ls, rs, compared_typed c AtMost b real.one (real_made c b (in_context outer ls rs a p f b w.3 w.4) w.4) (number_made c (pos 1))), tt),
          ),
          at_least_implies outer ls rs a p f b w.3 w.4 w.0 k,
        ) h
    at_least_sound a p f b w Gs (sampled x) k h = refused_given (NotLossless x) Gs h
    at_least_sound a p f b w Gs called k h = refused_given Shape Gs h

    always_sound : (a : Code) (p f b : Term) → IsGoalOver c ls rs (phoare a Equal p f b) → (Gs : List Goal) → (l : Loss) → code_loss ds a ≡ l → literal b ≡ Some (pos 1) →
        (full l >>= λ _. given (hoare a p f ∷ [])) ≡ given Gs → Sound (phoare a Equal p f b) Gs
    always_sound a p f b w Gs nowhere k n h =
        sound_given_in (declared ds) c (phoare a Equal p f b) (hoare a p f ∷ []) Gs (((ls, rs, (w.0, w.1, w.2)), tt), always_implies outer ls rs a p f b w.3 w.4 w.0 k n) h
    always_sound a p f b w Gs (sampled x) k n h = refused_given (NotLossless x) Gs h
    always_sound a p f b w Gs called k n h = refused_given Shape Gs h

    exactly_sound : (a : Code) (p f b : Term) → IsGoalOver c ls rs (phoare a Equal p f b) → (Gs : List Goal) → (n : Option ℤ) → literal b ≡ n → exactly a p f (code_loss ds a) n ≡ given Gs → Sound (phoare a Equal p f b) Gs
    exactly_sound a p f b w Gs (Some (pos zero)) n h =
        sound_given_in (declared ds) c (phoare a Equal p f b) (never a p f ∷ []) Gs (((ls, rs, (w.0, w.1, not_typed (with_own c (frame_after c ls a)) f w.2)), tt), never_implies outer ls rs a p f b w.3 w.4 n) h
    exactly_sound a p f b w Gs (Some (pos (suc zero))) n h = always_sound a p f b w Gs (code_loss ds a) refl n h
    exactly_sound a p f b w Gs (Some (pos (suc (suc k)))) n h = refused_given Shape Gs h
    exactly_sound a p f b w Gs (Some (negsuc k)) n h = refused_given Shape Gs h
    exactly_sound a p f b w Gs None n h = refused_given Shape Gs h

  pub sound : IsSoundRuleIn (declared ds) c (hoare_row ds) no_arguments
  sound outer ls rs (phoare a AtMost p f b) w y Gs e = at_most_sound outer ls rs a p f b w Gs e
  sound outer ls rs (phoare a AtLeast p f b) w y Gs e = at_least_sound outer ls rs a p f b w Gs (code_loss ds a) refl e
  sound outer ls rs (phoare a Equal p f b) w y Gs e = exactly_sound outer ls rs a p f b w Gs (literal b) refl e
  sound outer ls rs (hoare a p f) w y Gs e = refused_given Shape Gs e
  sound outer ls rs (equiv a d p f) w y Gs e = refused_given Shape Gs e
  sound outer ls rs (ambient f) w y Gs e = refused_given Shape Gs e
