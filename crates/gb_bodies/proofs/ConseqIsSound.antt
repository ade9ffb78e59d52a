-- `conseq` is sound.
use Rattle.std.proofs.Common.{◌≡◌, ◌<◌, Bool, true, false, not, List, [], ◌∷◌, ◌++◌, Option, Some, None, refl, ap, sym, ◌∙◌, subst}
use Rattle.std.specs.List.{AllByRecursion}
use Rattle.gb_core.specs.declared.refusal.Why.TheVariants.{Shape}
use Rattle.gb_terms.specs.declared.decl.TypedName.{TypedName}
use Rattle.gb_terms.specs.declared.op.Rel.{Rel}
use Rattle.gb_terms.specs.declared.op.Rel.TheVariants.{AtMost, Equal, AtLeast}
use Rattle.gb_terms.specs.declared.op.Side.TheVariants.{Own}
use Rattle.gb_terms.specs.declared.term.Term.{Term}
use Rattle.gb_dist.specs.WeightedList.{weight}
use Rattle.gb_dist.proofs.Basic.{coupling_weakening}
use Rattle.gb_dist.proofs.Entries.{Every-weaken}
use Rattle.gb_meaning.specs.Commands.{statements}
use Rattle.gb_meaning.specs.Fractions.{Fraction}
use Rattle.gb_meaning.specs.Meanings.{fraction_in}
use Rattle.gb_meaning.specs.Memory.{Memory}
use Rattle.gb_meaning.specs.Program.{Routine}
use Rattle.gb_meaning.specs.Setting.{Setting}
use Rattle.gb_meaning.specs.State.{State, at, between}
use Rattle.gb_meaning.specs.Terms.{val}
use Rattle.gb_meaning.specs.Judgments.{Judge, IsFair, IsSoundIfThere, IsTrueUnder, den, speaking, chance, compares, outcome_denominator}
use Rattle.gb_meaning.specs.Written.{type_of}
use Rattle.gb_meaning.proofs.Runs.{run_positive, routine_positive}
use Rattle.gb_steps.specs.declared.step.Weakened.{Weakened}
use Rattle.gb_typing.specs.Modules.{ProcedureType}
use Rattle.gb_typing.specs.Context.{Context, Frame, procedure, with_own, with_sides}
use Rattle.gb_typing.specs.Fits.{IsSettingOf, IsStateOf}
use Rattle.gb_typing.specs.Typing.{IsTyped, IsForm, IsThere, before, after}
use Rattle.gb_typing.proofs.Drawing.{body_sound}
use Rattle.gb_typing.proofs.Sound.{procedures_sound}
use Rattle.gb_goal.specs.Goal.{Code, Goal}
use Rattle.gb_goal.specs.Goal.Code.{body, procedure as of_procedure}
use Rattle.gb_goal.specs.Goal.Goal.{hoare, phoare, equiv, ambient}
use Rattle.gb_goal.specs.Answers.Answer.{given}
use Rattle.gb_typing.specs.Forms.{every, every_pair, implies_form}
use Rattle.gb_typing.specs.Meaning.{Stands, run_of, denominator_of}
use Rattle.gb_typing.specs.Rules.{Implies, IsSoundRule, outermost}
use Rattle.gb_typing.specs.Goals.{IsCode, IsGoalOver, IsTypedGoal, frame_before, frame_after}
use Rattle.gb_typing.proofs.Ambient.{one_typed, one_meaning, pair_typed, pair_meaning}
use Rattle.gb_typing.proofs.Forms.{implies_typed, implies_use}
use Rattle.gb_typing.proofs.Given.{AreSound, refused_given, sound_given}
use Rattle.gb_prog.specs.Compared.{compared}
use Rattle.gb_prog.proofs.Bound.{bound_value, bound_above}
use Rattle.gb_prog.proofs.Comparing.{real_made, compared_typed, compared_is}
use Rattle.gb_prog.proofs.Weaker.{Follows, event_follows, bound_follows}
use Rattle.gb_prog.specs.Likely.{as_likely}
use Rattle.gb_prog.proofs.Likely.{as_likely_typed, likely_at}
use Rattle.gb_bodies.specs.Conseq.{or_old, leads, pair_leads, bound_goals, of_one, of_two, of_chance, unless_bound, conseq_row, IsCondition, IsBound, IsTypedWeakened}

condition_typed : (c : Context) (o : Option Term) (f : Term) → IsCondition c o → IsForm c f → IsForm c (or_old o f)
condition_typed c (Some h) f k w = k
condition_typed c None f k w = w

-- what is said of code has a memory to be said of
record IsMemory (F : Frame) : Type 0 where
  locals : List TypedName
  there : F ≡ Some locals

memory_of_type : (o : Option ProcedureType) → IsThere o → IsMemory (before o) × IsMemory (after o)
memory_of_type (Some t) h = (record { locals = t.params; there = refl }, record { locals = _; there = refl })
memory_of_type None h = absurd h

memories : (c : Context) (ls : List TypedName) (a : Code) → IsCode c ls a → IsMemory (frame_before c ls a) × IsMemory (frame_after c ls a)
memories c ls (body is) h = (record { locals = ls; there = refl }, record { locals = ls; there = refl })
memories c ls (of_procedure p) h = memory_of_type (procedure c p) h

likely_follows : (g : Setting) (j : Judge) (s : State) (r : Rel) (old new : Term) → ((m : Memory) → den g j (as_likely r old new) (at s m) ≡ true) → Follows r (λ m. den g j old (at s m)) (λ m. den g j new (at s m))
likely_follows g j s AtMost old new h = λ m. likely_at g j (at s m) AtMost old new (h m)
likely_follows g j s AtLeast old new h = λ m. likely_at g j (at s m) AtLeast old new (h m)
likely_follows g j s Equal old new h = λ m. likely_at g j (at s m) Equal old new (h m)

-- denominators of what goals speak of

outcome_positive : (g : Setting) (o : Option Routine) → IsSoundIfThere g o → 0 < outcome_denominator g o
outcome_positive g (Some r) w = routine_positive g r w
outcome_positive g None w = absurd w

code_positive : (c : Context) (g : Setting) → IsSettingOf c g → (ls : List TypedName) (a : Code) → IsCode c ls a → 0 < denominator_of g a
code_positive c g fits ls (body is) w = run_positive g (statements g is) (body_sound c g fits ls is w.statements)
code_positive c g fits ls (of_procedure p) w = outcome_positive g (g.procedure p) (procedures_sound c g fits p w)

module _ (c : Context) (n : Weakened) where
  -- a probability
  module _ (outer : c ≡ outermost c) (ls rs : List TypedName) (a : Code) (r : Rel) (p q b : Term) (w : IsGoalOver c ls rs (phoare a r p q b)) where
    in_context : (t : Term) → IsTyped (with_own c None) t → IsTyped c t
    in_context t = subst (λ d. IsTyped d t) (ap (λ d. with_own d None) outer ∙ sym outer)

    abbrev F : Frame
    F = frame_before c ls a

    abbrev G : Frame
    G = frame_after c ls a

    module _ (y : IsCondition (with_own c F) n.pre × IsCondition (with_own c G) n.post) where
      pre_typed : IsForm (with_own c F) (or_old n.pre p)
      pre_typed = condition_typed (with_own c F) n.pre p y.0 w.1

      post_typed : IsForm (with_own c G) (or_old n.post q)
      post_typed = condition_typed (with_own c G) n.post q y.1 w.2

      first_typed : IsForm c (every Own (implies_form p (or_old n.pre p)))
      first_typed =
          let m = memories c ls a w.0 in
          one_typed c outer F m.0.locals m.0.there (implies_form p (or_old n.pre p)) (implies_typed (with_own c F) p (or_old n.pre p) w.1 pre_typed)

      second_typed : IsForm c (every Own (as_likely r q (or_old n.post q)))
      second_typed =
          let m = memories c ls a w.0 in
          one_typed c outer G m.1.locals m.1.there (as_likely r q (or_old n.post q)) (as_likely_typed (with_own c G) r q (or_old n.post q) w.2 post_typed)

      -- the old postcondition is as likely as a bound where the new one is
      module _ (g : Setting) (fits : IsSettingOf c g) (j : Judge) (fair : IsFair g j) (s : State)
          (h : IsTrueUnder g j (every Own (implies_form p (or_old n.pre p))) s) (k : IsTrueUnder g j (every Own (as_likely r q (or_old n.post q))) s) (t : Term)
          (judged : Stands g j s (phoare a r (or_old n.pre p) (or_old n.post q) t)) (m : Memory) (x : IsTrueUnder g j p (at s m)) where
        stays : compares r (chance (run_of g s a m) (denominator_of g a) (λ o. den g j q (at s o))) (fraction_in (val g (speaking g j) t s)) ≡ true
        stays =
            let M = memories c ls a w.0 in
            event_follows (run_of g s a m) (denominator_of g a) (code_positive c g fits ls a w.0) (λ o. den g j q (at s o)) (λ o. den g j (or_old n.post q) (at s o)) r
            (likely_follows g j s r q (or_old n.post q)
            (one_meaning c outer G M.1.locals M.1.there (as_likely r q (or_old n.post q)) (as_likely_typed (with_own c G) r q (or_old n.post q) w.2 post_typed) g fits j fair s k))
            (fraction_in (val g (speaking g j) t s))
            (judged m (implies_use g j p (or_old n.pre p) (at s m)
            (one_meaning c outer F M.0.locals M.0.there (implies_form p (or_old n.pre p)) (implies_typed (with_own c F) p (or_old n.pre p) w.1 pre_typed) g fits j fair s h m) x))

      by_bound : (o : Option Term) → IsBound c o → AreSound c (phoare a r p q b)
          (bound_goals r o b ++ (leads p (or_old n.pre p) ∷ ambient (every Own (as_likely r q (or_old n.post q))) ∷ phoare a r (or_old n.pre p) (or_old n.post q) (or_old o b) ∷ []))
      by_bound None k = (
        ((ls, ls, first_typed), ((ls, ls, second_typed), ((ls, rs, (w.0, pre_typed, post_typed, w.3, w.4)), tt))),
        λ g fits j fair s fit h m x. stays g fits j fair s h.0 h.1.0 b h.1.1.0 m x,
      )
      by_bound (Some t) k = (
        (
          (ls, ls, compared_typed c r t b (real_made c t (in_context t k.0) k.1) (real_made c b (in_context b w.3) w.4)),
          ((ls, ls, first_typed), ((ls, ls, second_typed), ((ls, rs, (w.0, pre_typed, post_typed, k.0, k.1)), tt))),
        ),
        λ g fits j fair s fit h m x.
            let y : Fraction = fraction_in (val g (speaking g j) t s) in
            let z : Fraction = fraction_in (val g (speaking g j) b s) in
            bound_follows (weight (run_of g s a m) (λ o. den g j q (at s o))) (denominator_of g a) (code_positive c g fits ls a w.0) r y z
            (bound_above c t k.0 k.1 g fits j fair s fit) (bound_above c b w.3 w.4 g fits j fair s fit)
            (stays g fits j fair s h.1.0 h.1.1.0 t h.1.1.1.0 m x)
            (sym (compared_is g j s r t b y z (bound_value c t k.0 k.1 g fits j fair s fit) (bound_value c b w.3 w.4 g fits j fair s fit)) ∙ h.0),
      )

  -- a judgment without a probability
  without_bound : (G : Goal) (Hs Gs : List Goal) (o : Option Term) → AreSound c G Hs → unless_bound o Hs ≡ given Gs → AreSound c G Gs
  without_bound G Hs Gs None k e = sound_given c G Hs Gs k e
  without_bound G Hs Gs (Some b) k e = refused_given Shape Gs e

  pub sound : IsSoundRule c (conseq_row n) (IsTypedWeakened c n)
  sound outer ls rs (hoare a p q) w y Gs e =
      let m = memories c ls a w.0 in
      let p' = condition_typed (with_own c (frame_before c ls a)) n.pre p y.0 w.1 in
      let q' = condition_typed (with_own c (frame_after c ls a)) n.post q y.1 w.2 in
      let u = implies_typed (with_own c (frame_before c ls a)) p (or_old n.pre p) w.1 p' in
      let v = implies_typed (with_own c (frame_after c ls a)) (or_old n.post q) q q' w.2 in
      without_bound (hoare a p q) (of_one n a p q) Gs n.bound (
        (
          (ls, ls, one_typed c outer (frame_before c ls a) m.0.locals m.0.there (implies_form p (or_old n.pre p)) u),
          ((ls, ls, one_typed c outer (frame_after c ls a) m.1.locals m.1.there (implies_form (or_old n.post q) q) v), ((ls, rs, (w.0, p', q')), tt)),
        ),
        λ g fits j fair s fit k o x. Every-weaken {P = λ z. IsTrueUnder g j (or_old n.post q) (at s z)} (run_of g s a o)
            (λ z t. implies_use g j (or_old n.post q) q (at s z) (one_meaning c outer (frame_after c ls a) m.1.locals m.1.there (implies_form (or_old n.post q) q) v g fits j fair s k.1.0 z) t)
            (k.1.1.0 o (implies_use g j p (or_old n.pre p) (at s o) (one_meaning c outer (frame_before c ls a) m.0.locals m.0.there (implies_form p (or_old n.pre p)) u g fits j fair s k.0 o) x)),
      ) e
  sound outer ls rs (equiv a b p q) w y Gs e =
      let m = memories c ls a w.1 in
      let o = memories c rs b w.2 in
      let p' = condition_typed (with_sides c (frame_before c ls a) (frame_before c rs b)) n.pre p y.0 w.3 in
      let q' = condition_typed (with_sides c (frame_after c ls a) (frame_after c rs b)) n.post q y.1 w.4 in
      let u = implies_typed (with_sides c (frame_before c ls a) (frame_before c rs b)) p (or_old n.pre p) w.3 p' in
      let v = implies_typed (with_sides c (frame_after c ls a) (frame_after c rs b)) (or_old n.post q) q q' w.4 in
      without_bound (equiv a b p q) (of_two n a b p q) Gs n.bound (
        (
          (ls, rs, pair_typed c outer (frame_before c ls a) (frame_before c rs b) m.0.locals o.0.locals m.0.there o.0.there (implies_form p (or_old n.pre p)) u),
          ((ls, rs, pair_typed c outer (frame_after c ls a) (frame_after c rs b) m.1.locals o.1.locals m.1.there o.1.there (implies_form (or_old n.post q) q) v), ((ls, rs, (w.0, w.1, w.2, p', q')), tt)),
        ),
        λ g fits j fair s fit k x y z. coupling_weakening
            {Q = λ d o. IsTrueUnder g j (or_old n.post q) (between s d o)} {R = λ d o. IsTrueUnder g j q (between s d o)}
            {l1 = run_of g s a x} {k1 = denominator_of g a} {l2 = run_of g s b y} {k2 = denominator_of g b}
            (λ d t i. implies_use g j (or_old n.post q) q (between s d t)
            (pair_meaning c outer (frame_after c ls a) (frame_after c rs b) m.1.locals o.1.locals m.1.there o.1.there (implies_form (or_old n.post q) q) v g fits j fair s k.1.0 d t) i)
            (k.1.1.0 x y (implies_use g j p (or_old n.pre p) (between s x y)
            (pair_meaning c outer (frame_before c ls a) (frame_before c rs b) m.0.locals o.0.locals m.0.there o.0.there (implies_form p (or_old n.pre p)) u g fits j fair s k.0 x y) z)),
      ) e
  sound outer ls rs (phoare a r p q b) w y Gs e = sound_given c (phoare a r p q b) (of_chance n a r p q b) Gs (by_bound outer ls rs a r p q b w (y.0, y.1) n.bound y.2) e
  sound outer ls rs (ambient f) w y Gs e = refused_given Shape Gs e
