-- Forms are true alike in settings that agree on what they name.
use Rattle.std.proofs.Common.{◌≡◌, ◌<◌, ◌≤◌, Bool, true, ◌↔◌, List, ◌∷◌, Option, Some, None, refl, ap, sym, ◌∙◌, subst}
use Rattle.std.proofs.Math.Path.{fun_ext}
use mathlib.Core.Former.{Count}
use Rattle.gb_core.specs.declared.value.Value.{Value}
use Rattle.gb_terms.specs.declared.module.ProcRef.{ProcRef}
use Rattle.gb_terms.specs.declared.term.Term.{Term, Term', Row_of-Term, end_of-Term, more_of-Term, end_of-Head, more_of-Head}
use Rattle.gb_terms.specs.declared.term.Head.{Head}
use Rattle.gb_terms.specs.declared.term.Head.TheVariants as head
use Rattle.gb_terms.specs.declared.term.Head.TheVariants.{Proc, Body', Assign, Sample, Call', If', While'}
use Rattle.gb_terms.specs.declared.term.Instr.{Row_of-Instr, end_of-Instr, more_of-Instr}
use Rattle.gb_terms.specs.declared.term.Subject.{Subject}
use Rattle.gb_dist.specs.WeightedList.{WeightedList, Every, IsPositive, total}
use Rattle.gb_dist.specs.Coupling.{Coupling}
use Rattle.gb_meaning.specs.Fractions.{Fraction}
use Rattle.gb_meaning.specs.Memory.{Memory}
use Rattle.gb_meaning.specs.Program.{Program, Routine}
use Rattle.gb_meaning.specs.Program.Program.{done, assign, sample, branch, loop, call, ask}
use Rattle.gb_meaning.specs.Program.Routine.{routine}
use Rattle.gb_meaning.specs.Setting.{Setting}
use Rattle.gb_meaning.specs.Meanings.{truth, fraction_in}
use Rattle.gb_meaning.specs.State.{State, at, between}
use Rattle.gb_meaning.specs.Sound.{IsDistribution, IsSound, IsSoundRoutine}
use Rattle.gb_meaning.specs.Terms.{Part, at_head, val, parts}
use Rattle.gb_meaning.specs.Runs.{out, outcomes, run_denominator, parameter_values}
use Rattle.gb_meaning.specs.Commands.{program_of, IsThere, CallsAreThere}
use Rattle.gb_meaning.specs.Judgments.{Judge, IsFair, speaking, outcomes_of, outcome_denominator, chance, probability, from_frame, run_of, subject_denominator, compares, Holds, part, stands_at, is_judged_at, IsSoundIfThere, IsSoundSubject, is_sound_at, IsSoundForm, AllSound, IsTrueIn}
use Rattle.gb_meaning.proofs.Bools.{same_truth}
use Rattle.gb_laws.proofs.Exact.{trying}
use Rattle.gb_laws.proofs.Fair.{is_fair}
use Rattle.gb_meaning.specs.Naming.{EachCallIn}
use Rattle.gb_meaning.proofs.Later.{same_row}
use Rattle.gb_typing.specs.Agreement.{SameTerm, SameTerms, SameProgram, SameRoutine, SameIfThere, SameProcedure, SameSubject, SameJudged, SameForm, SameForms}
use Rattle.gb_typing.proofs.SameTerms.{denominator_same, SaysSame, head_same, part_same}
use Rattle.gb_typing.proofs.SamePrograms.{distribution_same, size_same, routine_size_same, run_same, outcomes_same, parameters_same}

module _ (g h : Setting) where
  ends-same : (r : Option Routine) → SameIfThere g h r → (vs : List Value) (m : Memory) → outcomes_of g r vs m ≡ outcomes_of h r vs m
  ends-same None k vs m = refl
  ends-same (Some r) k vs m = outcomes_same g h r k vs m.globals

  sizes-same : (r : Option Routine) → SameIfThere g h r → outcome_denominator g r ≡ outcome_denominator h r
  sizes-same None k = refl
  sizes-same (Some r) k = routine_size_same g h r k

  probability_same : (p : ProcRef) → SameProcedure g h p → ◌≡◌ {A = List Value → Memory → (Memory → Bool) → Fraction} (probability g p) (probability h p)
  probability_same p k = fun_ext (λ vs. fun_ext (λ m. fun_ext (λ e.
      (λ i. chance (ends-same (g.procedure p) k.1 vs m i) (sizes-same (g.procedure p) k.1 i) e)
      ∙ ap (λ r. chance (outcomes_of h r vs m) (outcome_denominator h r) e) k.0)))

  routine-start : (r : Routine) → SameRoutine g h r → (m : Memory) → parameter_values g r m ≡ parameter_values h r m
  routine-start (routine ps ls c r) k m = parameters_same g.types h.types ps k.0 m

  start-same : (r : Option Routine) → SameIfThere g h r → (m : Memory) → from_frame g r m ≡ from_frame h r m
  start-same None k m = refl
  start-same (Some r) k m = outcomes_same g h r k (parameter_values g r m) m.globals ∙ ap (λ vs. outcomes h r vs m.globals) (routine-start r k m)

  subject_same : (c : Subject) → SameSubject g h c → (s : State) → ◌≡◌ {A = Memory → WeightedList Memory} (run_of g s c) (run_of h s c)
  subject_same (Proc p) k s = fun_ext (λ m. start-same (g.procedure p) k.1 m ∙ ap (λ r. from_frame h r m) k.0)
  subject_same (Body' n is) k s = fun_ext (λ m. run_same g h s (program_of g is) k.1 m ∙ ap (λ c. out h s c m) (same_row g h is k.0))

  subject-size : (c : Subject) → SameSubject g h c → subject_denominator g c ≡ subject_denominator h c
  subject-size (Proc p) k = sizes-same (g.procedure p) k.1 ∙ ap (outcome_denominator h) k.0
  subject-size (Body' n is) k = size_same g h (program_of g is) k.1 ∙ ap (run_denominator h) (same_row g h is k.0)

  -- what stands for the parts is the same
  stands_same : (hd : Head) → SameJudged g h hd → (xs : List Part) (s : State) → stands_at g hd xs s ≡ stands_at h hd xs s
  stands_same (head.Hoare c) k xs s =
      λ i. (m : Memory) → Holds (part xs 0) (at s m) → Every (λ n. Holds (part xs 1) (at s n)) (subject_same c k s i m)
  stands_same (head.Phoare c r) k xs s =
      λ i. (m : Memory) → Holds (part xs 0) (at s m) → compares r (chance (subject_same c k s i m) (subject-size c k i) (λ n. truth ((part xs 1).meaning (at s n)))) (fraction_in ((part xs 2).meaning s)) ≡ true
  stands_same (head.Equiv c d) k xs s =
      λ i. (m n : Memory) → Holds (part xs 0) (between s m n) →
      Coupling (λ a b. Holds (part xs 1) (between s a b)) (subject_same c k.0 s i m) (subject-size c k.0 i) (subject_same d k.1 s i n) (subject-size d k.1 i)
  stands_same head.AllMemory k xs s = refl
  stands_same head.SomeMemory k xs s = refl
  stands_same _ k xs s = refl

  pub distribution-to : (d : Term) → SameTerm g h d → IsDistribution g d → IsDistribution h d
  distribution-to d k w = record {
    positive = subst (λ z. 0 < z) (denominator_same g h d k) w.positive;
    entries = λ s. subst (IsPositive {A = Value}) (distribution_same g h d k s) (w.entries s);
    total = λ s. subst (λ z. z) (λ i. total (distribution_same g h d k s i) ≤ denominator_same g h d k i) (w.total s);
  }

  mutual
    sound-to : (c : Program) → SameProgram g h c → IsSound g c → IsSound h c
    sound-to done k w = tt
    sound-to (assign xs e c) k w = sound-to c k.2 w
    sound-to (sample x d c) k w = (distribution-to d k.1 w.0, sound-to c k.2 w.1)
    sound-to (branch e a b c) k w = (sound-to a k.1 w.0, sound-to b k.2 w.1, sound-to c k.3 w.2)
    sound-to (loop e v a c) k w = (sound-to a k.2 w.0, sound-to c k.3 w.1)
    sound-to (call xs r es c) k w = (sound-routine-to r k.1 w.0, sound-to c k.3 w.1)
    sound-to (ask xs o es c) k w = sound-to c k w

    sound-routine-to : (r : Routine) → SameRoutine g h r → IsSoundRoutine g r → IsSoundRoutine h r
    sound-routine-to (routine ps ls c r) k w = sound-to c k.2 w

  there-to : (r : Option Routine) → SameIfThere g h r → IsSoundIfThere g r → IsSoundIfThere h r
  there-to None k w = w
  there-to (Some r) k w = sound-routine-to r k w

  calls-to : {n : Count} (is : Row_of-Instr n) → EachCallIn (λ p. g.procedure p ≡ h.procedure p) is → CallsAreThere g is → CallsAreThere h is
  calls-to end_of-Instr k w = tt
  calls-to (more_of-Instr (Assign xs e) is) k w = calls-to is k.1 w
  calls-to (more_of-Instr (Sample x d) is) k w = calls-to is k.1 w
  calls-to (more_of-Instr (Call' xs p n es) is) k w = (subst IsThere k.0 w.0, calls-to is k.1 w.1)
  calls-to (more_of-Instr (If' e m a n b) is) k w = (calls-to a k.0.0 w.0, calls-to b k.0.1 w.1, calls-to is k.1 w.2)
  calls-to (more_of-Instr (While' e v n a) is) k w = (calls-to a k.0 w.0, calls-to is k.1 w.1)

  subject-to : (c : Subject) → SameSubject g h c → IsSoundSubject g c → IsSoundSubject h c
  subject-to (Proc p) k w = subst (IsSoundIfThere h) k.0 (there-to (g.procedure p) k.1 w)
  subject-to (Body' n is) k w = (calls-to is k.0 w.0, subst (IsSound h) (same_row g h is k.0) (sound-to (program_of g is) k.1 w.1))

  -- the answers are equal, where the head is judged in both settings
  says-same : (j i : Judge) (u : Term) (hd : Head) (s : State) → SameJudged g h hd → is_sound_at g hd →
      (is_judged_at g hd → is_judged_at h hd → j u s ≡ i u s) → SaysSame g h (speaking g j) (speaking h i) u hd s
  says-same j i u head.AllMemory s k w e = e tt tt
  says-same j i u head.SomeMemory s k w e = e tt tt
  says-same j i u (head.Hoare c) s k w e = e w (subject-to c k w)
  says-same j i u (head.Phoare c r) s k w e = e w (subject-to c k w)
  says-same j i u (head.Equiv c d) s k w e = e w (subject-to c k.0 w.0, subject-to d k.1 w.1)
  says-same j i u (head.Pr p r) s k w e = probability_same p k
  says-same j i u _ s k w e = tt

  mutual
    form-term : (t : Term) → SameForm g h t → SameTerm g h t
    form-term (Term' p (more_of-Head hd end_of-Head) n ts ty) k = (k.0, form-terms ts k.2)

    form-terms : {n : Count} (ts : Row_of-Term n) → SameForms g h ts → SameTerms g h ts
    form-terms end_of-Term k = tt
    form-terms (more_of-Term t ts) k = (form-term t k.0, form-terms ts k.1)

  module _ (j i : Judge) (fj : IsFair g j) (fi : IsFair h i) where
    mutual
      pub form_same : (t : Term) → SameForm g h t → IsSoundForm g t → (s : State) → val g (speaking g j) t s ≡ val h (speaking h i) t s
      form_same (Term' p (more_of-Head hd end_of-Head) n ts ty) k w s =
          let e = forms_same ts k.2 w.1 in
          ap (λ xs. at_head g (speaking g j) (Term' p (more_of-Head hd end_of-Head) n ts ty) hd xs ty s) e
          ∙ head_same g h (speaking g j) (speaking h i) (Term' p (more_of-Head hd end_of-Head) n ts ty) hd (parts h (speaking h i) ts) ty s k.0
          (says-same j i (Term' p (more_of-Head hd end_of-Head) n ts ty) hd s k.1 w.0 (λ a b. same_truth _ _
          (λ z. (fi (Term' p (more_of-Head hd end_of-Head) n ts ty) s b).1 (subst (λ x. x) (stands_same hd k.1 (parts h (speaking h i) ts) s)
          (subst (λ xs. stands_at g hd xs s) e ((fj (Term' p (more_of-Head hd end_of-Head) n ts ty) s a).0 z))))
          (λ z. (fj (Term' p (more_of-Head hd end_of-Head) n ts ty) s a).1 (subst (λ xs. stands_at g hd xs s) (sym e)
          (subst (λ x. x) (sym (stands_same hd k.1 (parts h (speaking h i) ts) s)) ((fi (Term' p (more_of-Head hd end_of-Head) n ts ty) s b).0 z))))))

      forms_same : {n : Count} (ts : Row_of-Term n) → SameForms g h ts → AllSound g ts → parts g (speaking g j) ts ≡ parts h (speaking h i) ts
      forms_same end_of-Term k w = refl
      forms_same (more_of-Term t ts) k w =
          λ z. part_same g h (speaking g j) (speaking h i) t (form_same t k.0 w.0) (denominator_same g h t (form-term t k.0)) z ∷ forms_same ts k.1 w.1 z

  pub truth_same : (t : Term) → SameForm g h t → IsSoundForm g t → (s : State) → IsTrueIn g t s ↔ IsTrueIn h t s
  truth_same t k w s = (
    λ e i fi. sym (ap truth (form_same (trying g) i (is_fair g) fi t k w s)) ∙ e (trying g) (is_fair g),
    λ e j fj. ap truth (form_same j (trying h) fj (is_fair h) t k w s) ∙ e (trying h) (is_fair h),
  )

  mutual
    -- a form whose judgments are of sound subjects is such a form in the other setting
    pub sound_form : (t : Term) → SameForm g h t → IsSoundForm g t → IsSoundForm h t
    sound_form (Term' p (more_of-Head hd end_of-Head) n ts ty) k w = (sound-head hd k.1 w.0, sound_forms ts k.2 w.1)

    sound_forms : {n : Count} (ts : Row_of-Term n) → SameForms g h ts → AllSound g ts → AllSound h ts
    sound_forms end_of-Term k w = tt
    sound_forms (more_of-Term t ts) k w = (sound_form t k.0 w.0, sound_forms ts k.1 w.1)

    sound-head : (hd : Head) → SameJudged g h hd → is_sound_at g hd → is_sound_at h hd
    sound-head (head.Pr p r) k w = subject-to (Proc p) k w
    sound-head (head.Hoare c) k w = subject-to c k w
    sound-head (head.Phoare c r) k w = subject-to c k w
    sound-head (head.Equiv c d) k w = (subject-to c k.0 w.0, subject-to d k.1 w.1)
    sound-head _ k w = tt
