-- States under one binder more.
use Rattle.std.specs.Prelude.{◌≡◌, ℕ}
use Rattle.gb_meaning.specs.State.{State, binding}
use Rattle.gb_walk.specs.Raise.{index_raised}

-- s is q with one binder more at place k
pub record Lifted (k : ℕ) (s q : State) : Type 0 where
  pub logical : s.logical ≡ q.logical
  pub named : s.named ≡ q.named
  pub own : s.own ≡ q.own
  pub left : s.left ≡ q.left
  pub right : s.right ≡ q.right
  pub bound : (i : ℕ) → binding s (index_raised k i) ≡ binding q i
