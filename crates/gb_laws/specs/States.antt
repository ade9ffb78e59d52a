-- States that agree: the same values, and memories that hold the same in some cells.
use Rattle.std.specs.Prelude.{◌≡◌, ℕ, List, [], ◌∷◌}
use Rattle.gb_meaning.specs.Values.{Types}
use Rattle.gb_meaning.specs.State.{State, Binding}
use Rattle.gb_meaning.specs.State.Binding.{value, memory, program}
use Rattle.gb_laws.specs.Cells.{Cell, Agree}

abbrev pub NearBinding : Types → (Cell → Type 0) → Binding → Binding → Type 0
NearBinding t F (value x) (value y) = x ≡ y
NearBinding t F (memory m) (memory n) = Agree t F m n
NearBinding t F program program = Unit {0}
NearBinding t F _ _ = ⊥

abbrev pub NearBound : Types → (Cell → Type 0) → List Binding → List Binding → Type 0
NearBound t F [] [] = Unit {0}
NearBound t F (b ∷ bs) (c ∷ cs) = NearBinding t F b c × NearBound t F bs cs
NearBound t F _ _ = ⊥

pub record Near (t : Types) (F : Cell → Type 0) (s q : State) : Type 0 where
  pub logical : s.logical ≡ q.logical
  pub named : (i : ℕ) → Agree t F (s.named i) (q.named i)
  pub own : Agree t F s.own q.own
  pub left : Agree t F s.left q.left
  pub right : Agree t F s.right q.right
  pub bound : NearBound t F s.bound q.bound
