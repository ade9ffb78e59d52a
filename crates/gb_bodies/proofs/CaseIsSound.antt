-- `case` is sound.
use Rattle.std.proofs.Common.{◌≡◌, Bool, true, false, [], ◌∷◌, refl}
use Rattle.gb_core.specs.declared.refusal.Why.TheVariants.{Shape}
use Rattle.gb_terms.specs.declared.term.Term.{Term}
use Rattle.gb_meaning.specs.Setting.{Setting}
use Rattle.gb_meaning.specs.State.{State, at, between}
use Rattle.gb_meaning.specs.Judgments.{Judge, den}
use Rattle.gb_typing.specs.Context.{Context}
use Rattle.gb_typing.specs.Sequents.{one, two}
use Rattle.gb_goal.specs.Goal.Code.{body, procedure}
use Rattle.gb_goal.specs.Goal.Goal.{hoare, phoare, equiv, ambient}
use Rattle.gb_typing.specs.Forms.{and_form, not_form}
use Rattle.gb_typing.specs.Rules.{IsSoundRule}
use Rattle.gb_typing.proofs.Forms.{and_typed, not_typed, and_make, not_make}
use Rattle.gb_typing.proofs.Given.{refused_given, sound_given}
use Rattle.gb_bodies.specs.Case.{case_row, IsTypedCase}

-- a form is true or not
by_truth : (g : Setting) (j : Judge) (p f : Term) (s : State) (X : Type 0) → den g j p s ≡ true → (den g j (and_form p f) s ≡ true → X) → (den g j (and_form p (not_form f)) s ≡ true → X) → X
by_truth g j p f s X h u v = step (den g j f s) refl
  where
    step : (b : Bool) → den g j f s ≡ b → X
    step true e = u (and_make g j p f s h e)
    step false e = v (and_make g j p (not_form f) s h (not_make g j f s e))

module _ (c : Context) (f : Term) where
  pub sound : IsSoundRule c (case_row f) (IsTypedCase c f)
  sound outer ls rs (hoare (body is) p q) w y Gs e =
      sound_given c (hoare (body is) p q) _ Gs (
        (
          (ls, ls, (w.0, and_typed (one c ls) p f w.1 y, w.2)),
          (
            (ls, ls, (w.0, and_typed (one c ls) p (not_form f) w.1 (not_typed (one c ls) f y), w.2)),
            tt,
          ),
        ),
        λ g fits j fair s fit h m x. by_truth g j p f (at s m) _ x (λ z. h.0 m z) (λ z. h.1.0 m z),
      ) e
  sound outer ls rs (phoare (body is) r p q b) w y Gs e =
      sound_given c (phoare (body is) r p q b) _ Gs (
        (
          (ls, ls, (w.0, and_typed (one c ls) p f w.1 y, w.2, w.3, w.4)),
          (
            (ls, ls, (w.0, and_typed (one c ls) p (not_form f) w.1 (not_typed (one c ls) f y), w.2, w.3, w.4)),
            tt,
          ),
        ),
        λ g fits j fair s fit h m x. by_truth g j p f (at s m) _ x (λ z. h.0 m z) (λ z. h.1.0 m z),
      ) e
  sound outer ls rs (equiv (body is) (body js) p q) w y Gs e =
      sound_given c (equiv (body is) (body js) p q) _ Gs (
        (
          (ls, rs, (tt, w.1, w.2, and_typed (two c ls rs) p f w.3 y, w.4)),
          (
            (ls, rs, (tt, w.1, w.2, and_typed (two c ls rs) p (not_form f) w.3 (not_typed (two c ls rs) f y), w.4)),
            tt,
          ),
        ),
        λ g fits j fair s fit h m n x. by_truth g j p f (between s m n) _ x (λ z. h.0 m n z) (λ z. h.1.0 m n z),
      ) e
  sound outer ls rs (hoare (procedure a) p q) w y Gs e = refused_given Shape Gs e
  sound outer ls rs (phoare (procedure a) r p q b) w y Gs e = refused_given Shape Gs e
  sound outer ls rs (equiv (procedure a) b p q) w y Gs e = refused_given Shape Gs e
  sound outer ls rs (equiv (body is) (procedure b) p q) w y Gs e = refused_given Shape Gs e
  sound outer ls rs (ambient a) w y Gs e = refused_given Shape Gs e
