-- The form of a goal is true exactly where the goal stands.
use Rattle.std.proofs.Common.{◌≡◌, true, ◌↔◌, List, refl, sym, subst}
use Rattle.gb_terms.specs.declared.decl.TypedName.{TypedName}
use Rattle.gb_terms.specs.declared.term.Head.TheBlock as B
use Rattle.gb_dist.specs.WeightedList.{Every}
use Rattle.gb_dist.specs.Coupling.{Coupling}
use Rattle.gb_meaning.specs.Memory.{Memory}
use Rattle.gb_meaning.specs.Setting.{Setting}
use Rattle.gb_meaning.specs.State.{State, at, between}
use Rattle.gb_meaning.specs.Terms.{val}
use Rattle.gb_meaning.specs.Meanings.{fraction_in}
use Rattle.gb_meaning.specs.Judgments.{Judge, IsFair, IsSoundSubject, speaking, compares, chance, den, subject_denominator}
use Rattle.gb_meaning.specs.Judgments as judgments
use Rattle.gb_meaning.proofs.Bodies.{run_of_body, denominator_of_body}
use Rattle.gb_meaning.proofs.Truths.{true_hoare, true_phoare, true_equiv}
use Rattle.gb_typing.specs.Context.{Context}
use Rattle.gb_typing.specs.Fits.{IsSettingOf}
use Rattle.gb_typing.proofs.Drawing.{subject_sound}
use Rattle.gb_typing.proofs.Sound.{procedures_sound}
use Rattle.gb_goal.specs.Goal.{Code, Goal, subject_of, form_of}
use Rattle.gb_goal.specs.Goal.Code.{body, procedure}
use Rattle.gb_goal.specs.Goal.Goal.{hoare, phoare, equiv, ambient}
use Rattle.gb_typing.specs.Goals.{IsCode, IsGoalOver}
use Rattle.gb_typing.specs.Meaning.{run_of, denominator_of, Stands}
use Rattle.gb_typing.proofs.Lists.{hidden_each}

module _ (g : Setting) where
  run_is : (s : State) (a : Code) (m : Memory) → judgments.run_of g s (subject_of a) m ≡ run_of g s a m
  run_is s (body is) m = run_of_body g s (record { list = is }) m
  run_is s (procedure p) m = refl

  denominator_is : (a : Code) → subject_denominator g (subject_of a) ≡ denominator_of g a
  denominator_is (body is) = denominator_of_body g (record { list = is })
  denominator_is (procedure p) = refl

  coupled : (Q : Memory → Memory → Type 0) (s : State) (a b : Code) (m n : Memory) →
      Coupling Q (judgments.run_of g s (subject_of a) m) (subject_denominator g (subject_of a)) (judgments.run_of g s (subject_of b) n) (subject_denominator g (subject_of b))
      ≡ Coupling Q (run_of g s a m) (denominator_of g a) (run_of g s b n) (denominator_of g b)
  coupled Q s a b m n = λ i. Coupling Q (run_is s a m i) (denominator_is a i) (run_is s b n i) (denominator_is b i)

module _ (c : Context) (g : Setting) (fits : IsSettingOf c g) where
  -- what a goal speaks of is sound
  pub code_sound : (ls : List TypedName) (a : Code) → IsCode c ls a → IsSoundSubject g (subject_of a)
  code_sound ls (body is) w = subject_sound c g fits ls (B.hidden-the_row-Instr-1 is) (hidden_each c ls is w.statements)
  code_sound ls (procedure p) w = procedures_sound c g fits p w

  module _ (j : Judge) (fair : IsFair g j) (s : State) (ls rs : List TypedName) where
    pub exact : (G : Goal) → IsGoalOver c ls rs G → (den g j (form_of G) s ≡ true) ↔ Stands g j s G
    exact (hoare a p q) w =
        let k = true_hoare g j fair (subject_of a) p q s (code_sound ls a w.0) in (
          λ h m x. subst (Every (λ n. den g j q (at s n) ≡ true)) (run_is g s a m) (k.0 h m x),
          λ h. k.1 (λ m x. subst (Every (λ n. den g j q (at s n) ≡ true)) (sym (run_is g s a m)) (h m x)),
        )
    exact (phoare a r p q b) w =
        let k = true_phoare g j fair (subject_of a) r p q b s (code_sound ls a w.0) in (
          λ h m x. subst (λ z. z) (λ i. compares r (chance (run_is g s a m i) (denominator_is g a i) (λ n. den g j q (at s n))) (fraction_in (val g (speaking g j) b s)) ≡ true) (k.0 h m x),
          λ h. k.1 (λ m x. subst (λ z. z) (λ i. compares r (chance (sym (run_is g s a m) i) (sym (denominator_is g a) i) (λ n. den g j q (at s n))) (fraction_in (val g (speaking g j) b s)) ≡ true) (h m x)),
        )
    exact (equiv a b p q) w =
        let k = true_equiv g j fair (subject_of a) (subject_of b) p q s (code_sound ls a w.1) (code_sound rs b w.2) in (
          λ h m n x. subst (λ z. z) (coupled g (λ x y. den g j q (between s x y) ≡ true) s a b m n) (k.0 h m n x),
          λ h. k.1 (λ m n x. subst (λ z. z) (sym (coupled g (λ x y. den g j q (between s x y) ≡ true) s a b m n)) (h m n x)),
        )
    exact (ambient f) w = (λ h. h, λ h. h)
