-- `symmetry` is sound.
use Rattle.std.proofs.Common.{◌≡◌, [], ◌∷◌, sym, ◌∙◌}
use Rattle.gb_core.specs.declared.refusal.Why.TheVariants.{Shape}
use Rattle.gb_dist.proofs.Basic.{coupling_weakening, coupling_symmetry}
use Rattle.gb_meaning.specs.State.{between}
use Rattle.gb_meaning.specs.Judgments.{IsTrueUnder}
use Rattle.gb_goal.specs.Goal.{Code}
use Rattle.gb_goal.specs.Goal.Code.{body, procedure}
use Rattle.gb_goal.specs.Goal.Goal.{hoare, phoare, equiv, ambient}
use Rattle.gb_typing.specs.Context.{Context}
use Rattle.gb_typing.specs.Meaning.{run_of, denominator_of}
use Rattle.gb_typing.specs.Rules.{IsSoundRule, no_arguments}
use Rattle.gb_typing.specs.Goals.{AreAlike, frame_before, frame_after}
use Rattle.gb_typing.proofs.Given.{refused_given, sound_given}
use Rattle.gb_prog.specs.Exchanged.{exchanged}
use Rattle.gb_prog.proofs.Exchanged.{exchanged_typed, exchanged_meaning}
use Rattle.gb_equiv.specs.Symmetry.{symmetry_row}

alike_back : (a b : Code) → AreAlike a b → AreAlike b a
alike_back (body is) (body js) h = tt
alike_back (procedure f) (procedure h) k = tt
alike_back (body is) (procedure f) h = absurd h
alike_back (procedure f) (body is) h = absurd h

module _ (c : Context) where
  pub sound : IsSoundRule c symmetry_row no_arguments
  sound outer ls rs (equiv a b p q) w y Gs e =
      let F = frame_before c ls a in
      let G = frame_before c rs b in
      let H = frame_after c ls a in
      let K = frame_after c rs b in
      sound_given c (equiv a b p q) _ Gs (
        ((rs, ls, (alike_back a b w.0, w.2, w.1, exchanged_typed c outer F G p w.3, exchanged_typed c outer H K q w.4)), tt),
        λ g fits j fair s fit h m n x. coupling_weakening
            {Q = λ x y. IsTrueUnder g j (exchanged q) (between s y x)} {R = λ x y. IsTrueUnder g j q (between s x y)}
            (λ x y k. sym (exchanged_meaning c outer H K q w.4 g fits j fair s y x) ∙ k)
            (coupling_symmetry {Q = λ y x. IsTrueUnder g j (exchanged q) (between s y x)}
            {l1 = run_of g s b n} {k1 = denominator_of g b} {l2 = run_of g s a m} {k2 = denominator_of g a}
            (h.0 n m (exchanged_meaning c outer F G p w.3 g fits j fair s n m ∙ x))),
      ) e
  sound outer ls rs (hoare a p q) w y Gs e = refused_given Shape Gs e
  sound outer ls rs (phoare a r p q b) w y Gs e = refused_given Shape Gs e
  sound outer ls rs (ambient f) w y Gs e = refused_given Shape Gs e
