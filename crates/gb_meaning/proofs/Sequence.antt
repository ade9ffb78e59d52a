-- A run of two programs, one behind the other.
use Rattle.std.proofs.Common.{◌≡◌, ℕ, ◌*◌, ◌^◌, ap, sym, ◌∙◌, arith}
use Rattle.std.proofs.Math.Path.{fun_ext}
use Rattle.gb_dist.specs.WeightedList.{WeightedList, bind}
use Rattle.gb_dist.proofs.Monad.{bind-unit, bind-bind}
use Rattle.gb_meaning.specs.Memory.{Memory}
use Rattle.gb_meaning.specs.Program.{Program, followed_by}
use Rattle.gb_meaning.specs.Program.Program.{done, assign, sample, branch, loop, call, ask}
use Rattle.gb_meaning.specs.Setting.{Setting}
use Rattle.gb_meaning.specs.State.{State}
use Rattle.gb_meaning.specs.Terms.{denominator}
use Rattle.gb_meaning.specs.Runs.{run_denominator, routine_denominator, most_turns, out}

times_more : (k x y z : ℕ) → x ≡ y * z → k * x ≡ k * y * z
times_more k x y z e = ap (λ n. k * n) e ∙ (let f : k * (y * z) ≡ k * y * z = omega arith in f)

pub followed_denominator : (g : Setting) (c d : Program) → run_denominator g (followed_by c d) ≡ run_denominator g c * run_denominator g d
followed_denominator g done d = omega arith
followed_denominator g (assign xs e c) d = followed_denominator g c d
followed_denominator g (sample x e c) d = times_more (denominator g e) _ _ _ (followed_denominator g c d)
followed_denominator g (branch e a b c) d = times_more (run_denominator g a * run_denominator g b) _ _ _ (followed_denominator g c d)
followed_denominator g (loop e v a c) d = times_more (run_denominator g a ^ most_turns v) _ _ _ (followed_denominator g c d)
followed_denominator g (call xs r es c) d = times_more (routine_denominator g r) _ _ _ (followed_denominator g c d)
followed_denominator g (ask xs o es c) d = followed_denominator g c d

behind : {A : Type 0} (l : WeightedList A) (k h : A → WeightedList Memory) (f : Memory → WeightedList Memory) → ((a : A) → h a ≡ bind (k a) f) → bind l h ≡ bind (bind l k) f
behind l k h f e = ap (bind l) (fun_ext e) ∙ sym (bind-bind l k f)

pub followed_run : (g : Setting) (s : State) (c d : Program) (m : Memory) → out g s (followed_by c d) m ≡ bind (out g s c m) (λ n. out g s d n)
followed_run g s done d m = sym (bind-unit m (λ n. out g s d n))
followed_run g s (assign xs e c) d m = followed_run g s c d _
followed_run g s (sample x e c) d m = behind _ (λ n. out g s c n) (λ n. out g s (followed_by c d) n) (λ n. out g s d n) (followed_run g s c d)
followed_run g s (branch e a b c) d m = behind _ (λ n. out g s c n) (λ n. out g s (followed_by c d) n) (λ n. out g s d n) (followed_run g s c d)
followed_run g s (loop e v a c) d m = behind _ (λ n. out g s c n) (λ n. out g s (followed_by c d) n) (λ n. out g s d n) (followed_run g s c d)
followed_run g s (call xs r es c) d m = behind _ (λ n. out g s c n) (λ n. out g s (followed_by c d) n) (λ n. out g s d n) (followed_run g s c d)
followed_run g s (ask xs o es c) d m = followed_run g s c d m
