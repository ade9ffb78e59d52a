-- Two coins, one the negation of the other.
use Rattle.std.proofs.Common.{◌≡◌, Bool, true, false, not, [], ◌∷◌, refl, sym, ◌∙◌, subst, arith}
use Rattle.gb_core.specs.declared.ty.Ty.TheVariants.{Bool as truths}
use Rattle.gb_core.specs.declared.value.Value.{Value, out-Value}
use Rattle.gb_core.specs.declared.value.Value.TheVariants.{Num}
use Rattle.gb_terms.specs.declared.term.Head.TheVariants.{Body}
use Rattle.gb_dist.specs.WeightedList.{WeightedList, bit}
use Rattle.gb_dist.specs.Coupling.{Coupling}
use Rattle.gb_meaning.specs.Values.{Types, has}
use Rattle.gb_meaning.specs.Memory.{Memory, read_local, write_local}
use Rattle.gb_meaning.specs.Setting.{Setting}
use Rattle.gb_meaning.specs.Setting.Meaning.{finite}
use Rattle.gb_meaning.specs.Meanings.{of_truth, truth, same}
use Rattle.gb_meaning.specs.State.{State, between}
use Rattle.gb_meaning.specs.Judgments.{Judge, den, run_of, subject_denominator, IsSoundSubject, IsTrueIn}
use Rattle.gb_meaning.specs.Commands.{statements}
use Rattle.gb_meaning.specs.Drawn.{Drawing}
use Rattle.gb_meaning.specs.Examples.{x, number}
use Rattle.gb_meaning.proofs.Memories.{read-write_local}
use Rattle.gb_meaning.proofs.Bodies.{run_of_body, denominator_of_body, sound_body}
use Rattle.gb_meaning.proofs.Drawn.{program_sound}
use Rattle.gb_laws.specs.TruthExamples.{flip, opposite, flips_are_opposite}
use Rattle.gb_meaning.proofs.Truths.{true_equiv}

plain : Drawing
plain = record { restricts = false; operators = λ n. false }

pub flip_sound : (g : Setting) → IsSoundSubject g (Body flip)
unfolding plain
flip_sound g = sound_body g flip (tt, tt) (program_sound g plain (λ n h. absurd (cc)) (statements g flip.list) refl)

-- a coin's two memories
abbrev pub outcomes : Memory → WeightedList Memory
outcomes m = (write_local m x (Num 0), 1) ∷ (write_local m x (Num 1), 1) ∷ []

pub run_is : (g : Setting) (s : State) (m : Memory) → run_of g s (Body flip) m ≡ outcomes m
run_is g s m = run_of_body g s flip m

pub denominator_is : (g : Setting) → subject_denominator g (Body flip) ≡ 2
denominator_is g = denominator_of_body g flip

is_truth_value : (t : Types) (b : Bool) → has t truths (Num (bit b)) ≡ true
unfolding out-Value denote.Hole.Carrier.out
is_truth_value t true = refl
is_truth_value t false = refl

negated : (v w : Value) → Bool
negated v w = truth (of_truth (same (finite v) (of_truth (not (truth (finite w))))))

first_pair : negated (Num 0) (Num 1) ≡ true
unfolding negated out-Value denote.Hole.Carrier.out
first_pair = refl

second_pair : negated (Num 1) (Num 0) ≡ true
unfolding negated out-Value denote.Hole.Carrier.out
second_pair = refl

pub reads : (t : Types) (m : Memory) (b : Bool) → read_local t (write_local m x (Num (bit b))) x truths ≡ Num (bit b)
reads t m b = read-write_local t m x truths (Num (bit b)) (is_truth_value t b)

-- the two sides read the coins
sides : (g : Setting) (j : Judge) (s : State) (m n : Memory) (a b : Bool) →
    den g j opposite (between s (write_local m x (Num (bit a))) (write_local n x (Num (bit b)))) ≡ negated (Num (bit a)) (Num (bit b))
unfolding negated
sides g j s m n a b = λ i. truth (of_truth (same (finite (reads g.types m a i)) (of_truth (not (truth (finite (reads g.types n b i)))))))

coupled : (g : Setting) (j : Judge) (s : State) (m n : Memory) → Coupling (λ a b. den g j opposite (between s a b) ≡ true) (outcomes m) 2 (outcomes n) 2
coupled g j s m n = record {
  denominator = 2;
  positive = omega arith;
  pairs = ((write_local m x (Num 0), write_local n x (Num 1)), 1) ∷ ((write_local m x (Num 1), write_local n x (Num 0)), 1) ∷ [];
  related = (omega arith, sides g j s m n false true ∙ first_pair, (omega arith, sides g j s m n true false ∙ second_pair, tt));
  left = λ f. refl;
  right = λ f. omega arith;
}

pub coins : (g : Setting) (s : State) → IsTrueIn g flips_are_opposite s
coins g s j fair = (true_equiv g j fair (Body flip) (Body flip) (number 1 truths) opposite s (flip_sound g) (flip_sound g)).1 (λ m n p.
    subst (λ l. Coupling (λ a b. den g j opposite (between s a b) ≡ true) l (subject_denominator g (Body flip)) (run_of g s (Body flip) n) (subject_denominator g (Body flip))) (sym (run_is g s m))
    (subst (λ l. Coupling (λ a b. den g j opposite (between s a b) ≡ true) (outcomes m) (subject_denominator g (Body flip)) l (subject_denominator g (Body flip))) (sym (run_is g s n))
    (subst (λ k. Coupling (λ a b. den g j opposite (between s a b) ≡ true) (outcomes m) k (outcomes n) k) (sym (denominator_is g)) (coupled g j s m n))))
