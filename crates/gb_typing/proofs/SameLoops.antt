-- Loops are good alike in settings that agree on what they name.
use Rattle.std.proofs.Common.{◌≡◌, ◌^◌, Bool, false, subst}
use Rattle.std.proofs.Math.Path.{fun_ext}
use Rattle.gb_terms.specs.declared.term.Term.{Term}
use Rattle.gb_dist.specs.WeightedList.{WeightedList, Every, SameDistribution}
use Rattle.gb_meaning.specs.Memory.{Memory}
use Rattle.gb_meaning.specs.Program.{Program}
use Rattle.gb_meaning.specs.Program.Program.{done, assign, sample, branch, loop, call, ask}
use Rattle.gb_meaning.specs.Setting.{Setting}
use Rattle.gb_meaning.specs.State.{State, closed}
use Rattle.gb_meaning.specs.Runs.{is_true, turns, out}
use Rattle.gb_meaning.specs.Loops.{GoodFrom, IsGood}
use Rattle.gb_meaning.specs.Holds.{LoopsAreGood}
use Rattle.gb_typing.specs.Agreement.{SameTerm, SameProgram}
use Rattle.gb_typing.proofs.SamePrograms.{guard_same, size_same, run_same}

module _ (g h : Setting) where
  good-from : (s : State) (e v : Term) (a : Program) → SameTerm g h e → SameTerm g h v → SameProgram g h a → (m : Memory) →
      GoodFrom g s e v a m → GoodFrom h s e v a m
  good-from s e v a ke kv ka m x =
      let guard : ◌≡◌ {A = Memory → Bool} (is_true g s e) (is_true h s e) = fun_ext (guard_same g h s e ke) in
      let body : ◌≡◌ {A = Memory → WeightedList Memory} (λ n. out g s a n) (λ n. out h s a n) = fun_ext (run_same g h s a ka) in
      record {
        turns = x.turns;
        ended = subst (λ z. z) (λ i. Every (λ n. guard i n ≡ false) (turns (guard i) (body i) (size_same g h a ka i) x.turns m)) x.ended;
        same = subst (λ z. z) (λ i. SameDistribution (run_same g h s (loop e v a done) (ke, kv, ka, tt) m i) (size_same g h (loop e v a done) (ke, kv, ka, tt) i)
            (turns (guard i) (body i) (size_same g h a ka i) x.turns m) (size_same g h a ka i ^ x.turns)) x.same;
      }

  pub good_same : (s : State) (e v : Term) (a : Program) → SameTerm g h e → SameTerm g h v → SameProgram g h a → IsGood g s e v a → IsGood h s e v a
  good_same s e v a ke kv ka x = λ m. good-from s e v a ke kv ka m (x m)

  pub loops_same : (c : Program) → SameProgram g h c → LoopsAreGood g c → LoopsAreGood h c
  loops_same done k x = tt
  loops_same (assign xs e c) k x = loops_same c k.2 x
  loops_same (sample y d c) k x = loops_same c k.2 x
  loops_same (branch e a b c) k x = (loops_same a k.1 x.0, loops_same b k.2 x.1, loops_same c k.3 x.2)
  loops_same (loop e v a c) k x = (good_same closed e v a k.0 k.1 k.2 x.0, loops_same a k.2 x.1, loops_same c k.3 x.2)
  loops_same (call xs r es c) k x = loops_same c k.3 x
  loops_same (ask xs o es c) k x = loops_same c k x
