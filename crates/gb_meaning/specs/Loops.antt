-- Loops that end.
use Rattle.std.specs.Prelude.{◌≡◌, ℕ, ◌^◌, false}
use Rattle.gb_dist.specs.WeightedList.{Every, SameDistribution}
use Rattle.gb_terms.specs.declared.term.Term.{Term}
use Rattle.gb_meaning.specs.Memory.{Memory}
use Rattle.gb_meaning.specs.Program.{Program}
use Rattle.gb_meaning.specs.Program.Program.{done, loop}
use Rattle.gb_meaning.specs.Setting.{Setting}
use Rattle.gb_meaning.specs.State.{State}
use Rattle.gb_meaning.specs.Runs.{run_denominator, out, is_true, plain_loop}

-- A good loop, from one memory: after some number of turns the plain loop has ended, with the guard false in each entry,
-- and the loop with its variant is the same distribution.
pub record GoodFrom (g : Setting) (s : State) (e v : Term) (a : Program) (m : Memory) : Type 0 where
  pub turns : ℕ
  pub ended : Every (λ n. is_true g s e n ≡ false) (plain_loop g s e a turns m)
  pub same : SameDistribution (out g s (loop e v a done) m) (run_denominator g (loop e v a done)) (plain_loop g s e a turns m) (run_denominator g a ^ turns)

-- from every memory
abbrev pub IsGood : Setting → State → Term → Term → Program → Type 0
IsGood g s e v a = (m : Memory) → GoodFrom g s e v a m
