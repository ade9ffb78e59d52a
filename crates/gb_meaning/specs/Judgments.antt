-- What judgments and quantifiers over memories say, and truth.
use Rattle.std.specs.Prelude.{◌≡◌, ℕ, Bool, true, ◌↔◌, pos, List, [], get_or, Option, Some, None}
use Rattle.gb_core.specs.declared.value.Value.{Value}
use Rattle.gb_terms.specs.declared.op.Rel.{Rel}
use Rattle.gb_terms.specs.declared.op.Rel.TheVariants as rel
use Rattle.gb_terms.specs.declared.module.ProcRef.{ProcRef}
use Rattle.gb_terms.specs.declared.term.Term.{Term, Term', Row_of-Term, end_of-Term, more_of-Term, end_of-Head, more_of-Head}
use Rattle.gb_terms.specs.declared.term.Head.{Head}
use Rattle.gb_terms.specs.declared.term.Head.TheVariants as head
use Rattle.gb_terms.specs.declared.term.Head.TheVariants.{Proc, Body'}
use Rattle.gb_terms.specs.declared.term.Subject.{Subject}
use Rattle.gb_dist.specs.WeightedList.{WeightedList, weight, Every}
use Rattle.gb_dist.specs.Coupling.{Coupling}
use Rattle.gb_meaning.specs.Fractions.{Fraction, is_at_most, is_same}
use Rattle.gb_meaning.specs.Memory.{Memory}
use Rattle.gb_meaning.specs.Program.{Routine}
use Rattle.gb_meaning.specs.Setting.{Setting}
use Rattle.gb_meaning.specs.Meanings.{truth, fraction_in}
use Rattle.gb_meaning.specs.State.{State, at, between, under}
use Rattle.gb_meaning.specs.State.Binding.{memory}
use Rattle.gb_meaning.specs.Terms.{Speaks, Part, no_part, last_of, val, parts}
use Rattle.gb_meaning.specs.Runs.{out, run_denominator, outcomes, routine_denominator, parameter_values}
use Rattle.gb_meaning.specs.Commands.{program_of, CallsAreThere}
use Rattle.gb_meaning.specs.Sound.{IsSound, IsSoundRoutine}

-- A judge says of judgments and of quantifiers over memories whether they are true in a state.
abbrev pub Judge : Type 0
Judge = Term → State → Bool

-- The outcomes of a procedure, from arguments and globals, and their denominator. A procedure that there isn't has none.

abbrev pub outcomes_of : Setting → Option Routine → List Value → Memory → WeightedList Memory
outcomes_of g (Some r) vs m = outcomes g r vs m.globals
outcomes_of g None vs m = []

abbrev pub outcome_denominator : Setting → Option Routine → ℕ
outcome_denominator g (Some r) = routine_denominator g r
outcome_denominator g None = 1

-- the probability of an event: the weight of the outcomes in it, over their denominator
abbrev pub chance : WeightedList Memory → ℕ → (Memory → Bool) → Fraction
chance l k event = (pos (weight l event), k)

abbrev pub probability : Setting → ProcRef → List Value → Memory → (Memory → Bool) → Fraction
probability g p vs m event = chance (outcomes_of g (g.procedure p) vs m) (outcome_denominator g (g.procedure p)) event

abbrev pub speaking : Setting → Judge → Speaks
speaking g j = record { judged = j; probability = probability g }

-- the truth of a form under a judge
abbrev pub den : Setting → Judge → Term → State → Bool
den g j f s = truth (val g (speaking g j) f s)

abbrev pub IsTrueUnder : Setting → Judge → Term → State → Type 0
IsTrueUnder g j f s = den g j f s ≡ true

-- What a judgment speaks of starts from a memory: a body in it, a procedure with the arguments that the frame holds for
-- its parameters.

abbrev pub from_frame : Setting → Option Routine → Memory → WeightedList Memory
from_frame g (Some r) m = outcomes g r (parameter_values g r m) m.globals
from_frame g None m = []

abbrev pub run_of : Setting → State → Subject → Memory → WeightedList Memory
run_of g s (Proc p) m = from_frame g (g.procedure p) m
run_of g s (Body' n is) m = out g s (program_of g is) m

abbrev pub subject_denominator : Setting → Subject → ℕ
subject_denominator g (Proc p) = outcome_denominator g (g.procedure p)
subject_denominator g (Body' n is) = run_denominator g (program_of g is)

-- a fraction stands in the relation to another one
abbrev pub compares : Rel → Fraction → Fraction → Bool
compares rel.AtMost a b = is_at_most a b
compares rel.Equal a b = is_same a b
compares rel.AtLeast a b = is_at_most b a

abbrev pub Holds : Part → State → Type 0
Holds f s = truth (f.meaning s) ≡ true

-- from each memory in which P is true, each memory in which the run ends makes Q true
abbrev pub HoareStands : Setting → Subject → Part → Part → State → Type 0
HoareStands g c P Q s = (m : Memory) → Holds P (at s m) → Every (λ n. Holds Q (at s n)) (run_of g s c m)

-- from each memory in which P is true, the probability of Q stands in the relation to the bound
abbrev pub PhoareStands : Setting → Subject → Rel → Part → Part → Part → State → Type 0
PhoareStands g c r P Q b s = (m : Memory) → Holds P (at s m) →
    compares r (chance (run_of g s c m) (subject_denominator g c) (λ n. truth (Q.meaning (at s n)))) (fraction_in (b.meaning s)) ≡ true

-- from each two memories between which P is true, there is a coupling on Q of both runs
abbrev pub EquivStands : Setting → Subject → Subject → Part → Part → State → Type 0
EquivStands g c d P Q s = (m n : Memory) → Holds P (between s m n) →
    Coupling (λ a b. Holds Q (between s a b)) (run_of g s c m) (subject_denominator g c) (run_of g s d n) (subject_denominator g d)

abbrev pub part : List Part → ℕ → Part
part xs i = get_or xs i no_part

abbrev pub stands_at : Setting → Head → List Part → State → Type 0
stands_at g head.AllMemory xs s = (m : Memory) → Holds (last_of xs) (under s (memory m))
stands_at g head.SomeMemory xs s = (m : Memory) × Holds (last_of xs) (under s (memory m))
stands_at g (head.Hoare c) xs s = HoareStands g c (part xs 0) (part xs 1) s
stands_at g (head.Phoare c r) xs s = PhoareStands g c r (part xs 0) (part xs 1) (part xs 2) s
stands_at g (head.Equiv c d) xs s = EquivStands g c d (part xs 0) (part xs 1) s
stands_at g _ xs s = Unit {0}

-- what a judgment or a quantifier over memories says, where the judge decides those inside of it
abbrev pub Stands : Setting → Judge → Term → State → Type 0
Stands g j (Term' p (more_of-Head h end_of-Head) n ts ty) s = stands_at g h (parts g (speaking g j) ts) s

abbrev pub IsSoundIfThere : Setting → Option Routine → Type 0
IsSoundIfThere g (Some r) = IsSoundRoutine g r
IsSoundIfThere g None = ⊥

-- a subject whose procedures are all there, and draw from distributions
abbrev pub IsSoundSubject : Setting → Subject → Type 0
IsSoundSubject g (Proc p) = IsSoundIfThere g (g.procedure p)
IsSoundSubject g (Body' n is) = CallsAreThere g is × IsSound g (program_of g is)

abbrev pub is_judged_at : Setting → Head → Type 0
is_judged_at g head.AllMemory = Unit {0}
is_judged_at g head.SomeMemory = Unit {0}
is_judged_at g (head.Hoare c) = IsSoundSubject g c
is_judged_at g (head.Phoare c r) = IsSoundSubject g c
is_judged_at g (head.Equiv c d) = IsSoundSubject g c × IsSoundSubject g d
is_judged_at g _ = ⊥

-- the forms that a judge decides: quantifiers over memories, and judgments of sound subjects
abbrev pub IsJudged : Setting → Term → Type 0
IsJudged g (Term' p (more_of-Head h end_of-Head) n ts ty) = is_judged_at g h

abbrev pub is_sound_at : Setting → Head → Type 0
is_sound_at g (head.Pr p r) = IsSoundIfThere g (g.procedure p)
is_sound_at g (head.Hoare c) = IsSoundSubject g c
is_sound_at g (head.Phoare c r) = IsSoundSubject g c
is_sound_at g (head.Equiv c d) = IsSoundSubject g c × IsSoundSubject g d
is_sound_at g _ = Unit {0}

-- each judgment in the form is of sound subjects, and each probability is one after a sound procedure
abbrev mutual
  pub IsSoundForm : Setting → Term → Type 0
  IsSoundForm g (Term' p (more_of-Head h end_of-Head) n ts ty) = is_sound_at g h × AllSound g ts

  pub AllSound : {n : _} → Setting → Row_of-Term n → Type 0
  AllSound g end_of-Term = Unit {0}
  AllSound g (more_of-Term t ts) = IsSoundForm g t × AllSound g ts

-- A judge is fair where what it calls true is what stands.
abbrev pub IsFair : Setting → Judge → Type 0
IsFair g j = (f : Term) (s : State) → IsJudged g f → (j f s ≡ true) ↔ Stands g j f s

-- a form is true where each fair judge makes it true
abbrev pub IsTrueIn : Setting → Term → State → Type 0
IsTrueIn g f s = (j : Judge) → IsFair g j → IsTrueUnder g j f s
