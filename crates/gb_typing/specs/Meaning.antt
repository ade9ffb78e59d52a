-- What goals say.
use Rattle.std.specs.Prelude.{◌≡◌, ℕ, true, List}
use Rattle.gb_terms.specs.declared.term.Instr.{Instr}
use Rattle.gb_dist.specs.WeightedList.{WeightedList, Every}
use Rattle.gb_dist.specs.Coupling.{Coupling}
use Rattle.gb_meaning.specs.Memory.{Memory}
use Rattle.gb_meaning.specs.Setting.{Setting}
use Rattle.gb_meaning.specs.State.{State, at, between}
use Rattle.gb_meaning.specs.Terms.{val}
use Rattle.gb_meaning.specs.Meanings.{fraction_in}
use Rattle.gb_meaning.specs.Runs.{out, run_denominator}
use Rattle.gb_meaning.specs.Commands.{statements}
use Rattle.gb_meaning.specs.Judgments.{Judge, speaking, IsTrueUnder, compares, chance, den, from_frame, outcome_denominator}
use Rattle.gb_goal.specs.Goal.{Code, Goal}
use Rattle.gb_goal.specs.Goal.Code.{body, procedure}
use Rattle.gb_goal.specs.Goal.Goal.{hoare, phoare, equiv, ambient}

-- the run of a list of statements, and its denominator
abbrev pub run : Setting → State → List Instr → Memory → WeightedList Memory
run g s is m = out g s (statements g is) m

abbrev pub denominator : Setting → List Instr → ℕ
denominator g is = run_denominator g (statements g is)

-- the same of what a judgment speaks of; a procedure takes the arguments that the memory holds for its parameters
abbrev pub run_of : Setting → State → Code → Memory → WeightedList Memory
run_of g s (body is) m = run g s is m
run_of g s (procedure p) m = from_frame g (g.procedure p) m

abbrev pub denominator_of : Setting → Code → ℕ
denominator_of g (body is) = denominator g is
denominator_of g (procedure p) = outcome_denominator g (g.procedure p)

-- What a goal says in a state, under a judge.
abbrev pub Stands : Setting → Judge → State → Goal → Type 0
Stands g j s (hoare a p q) = (m : Memory) → IsTrueUnder g j p (at s m) → Every (λ n. IsTrueUnder g j q (at s n)) (run_of g s a m)
Stands g j s (phoare a r p q b) = (m : Memory) → IsTrueUnder g j p (at s m) →
    compares r (chance (run_of g s a m) (denominator_of g a) (λ n. den g j q (at s n))) (fraction_in (val g (speaking g j) b s)) ≡ true
Stands g j s (equiv a b p q) = (m n : Memory) → IsTrueUnder g j p (between s m n) →
    Coupling (λ x y. IsTrueUnder g j q (between s x y)) (run_of g s a m) (denominator_of g a) (run_of g s b n) (denominator_of g b)
Stands g j s (ambient f) = IsTrueUnder g j f s
