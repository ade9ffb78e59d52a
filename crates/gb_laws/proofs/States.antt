-- States that agree: the same values, and memories that hold the same in some cells.
use Rattle.std.proofs.Common.{◌≡◌, ℕ, zero, suc, List, [], ◌∷◌, get_or, refl, ap}
use Rattle.gb_terms.specs.declared.op.Side.{Side}
use Rattle.gb_terms.specs.declared.op.Side.TheVariants as side
use Rattle.gb_meaning.specs.Values.{Types}
use Rattle.gb_meaning.specs.Memory.{Memory}
use Rattle.gb_meaning.specs.State.{State, Binding, binding, meaning_in, memory_in, memory_of, under, at, between, inside, no_memory}
use Rattle.gb_meaning.specs.State.Binding.{value, memory, program}
pub use Rattle.gb_laws.specs.States.{NearBinding, NearBound, Near}
use Rattle.gb_laws.proofs.Cells.{Cell, Agree}

module _ (t : Types) (F : Cell → Type 0) where
  pub agree_self : (m : Memory) → Agree t F m m
  agree_self m c f = refl

  near_binding_self : (b : Binding) → NearBinding t F b b
  near_binding_self (value x) = refl
  near_binding_self (memory m) = agree_self m
  near_binding_self program = tt

  near_bound_self : (bs : List Binding) → NearBound t F bs bs
  near_bound_self [] = tt
  near_bound_self (b ∷ bs) = (near_binding_self b, near_bound_self bs)

  pub near_self : (s : State) → Near t F s s
  near_self s = record {
    logical = refl;
    named = λ i. agree_self (s.named i);
    own = agree_self s.own;
    left = agree_self s.left;
    right = agree_self s.right;
    bound = near_bound_self s.bound;
  }

  pub near_under : (s q : State) → Near t F s q → (b c : Binding) → NearBinding t F b c → Near t F (under s b) (under q c)
  near_under s q n b c h = record { logical = n.logical; named = n.named; own = n.own; left = n.left; right = n.right; bound = (h, n.bound) }

  pub near_at : (s q : State) → Near t F s q → (m n : Memory) → Agree t F m n → Near t F (at s m) (at q n)
  near_at s q k m n a = record { logical = k.logical; named = k.named; own = a; left = k.left; right = k.right; bound = k.bound }

  pub near_between : (s q : State) → Near t F s q → (m n a b : Memory) → Agree t F m a → Agree t F n b → Near t F (between s m n) (between q a b)
  near_between s q k m n a b h i = record { logical = k.logical; named = k.named; own = k.own; left = h; right = i; bound = k.bound }

  pub near_inside : (s q : State) → Near t F s q → (m n : Memory) → Agree t F m n → Near t F (inside s m) (inside q n)
  near_inside s q k m n a = record { logical = k.logical; named = k.named; own = a; left = a; right = a; bound = k.bound }

  near_get : (bs cs : List Binding) → NearBound t F bs cs → (i : ℕ) → NearBinding t F (get_or bs i program) (get_or cs i program)
  near_get [] [] h i = tt
  near_get [] (c ∷ cs) h i = absurd h
  near_get (b ∷ bs) [] h i = absurd h
  near_get (b ∷ bs) (c ∷ cs) h zero = h.0
  near_get (b ∷ bs) (c ∷ cs) h (suc i) = near_get bs cs h.1 i

  meaning_near : (b c : Binding) → NearBinding t F b c → meaning_in b ≡ meaning_in c
  meaning_near (value x) (value y) h = ap meaning_in (ap value h)
  meaning_near (memory m) (memory n) h = refl
  meaning_near program program h = refl
  meaning_near (value x) (memory n) h = absurd h
  meaning_near (value x) program h = absurd h
  meaning_near (memory m) (value y) h = absurd h
  meaning_near (memory m) program h = absurd h
  meaning_near program (value y) h = absurd h
  meaning_near program (memory n) h = absurd h

  memory_near : (b c : Binding) → NearBinding t F b c → Agree t F (memory_in b) (memory_in c)
  memory_near (value x) (value y) h = agree_self no_memory
  memory_near (memory m) (memory n) h = h
  memory_near program program h = agree_self no_memory
  memory_near (value x) (memory n) h = absurd h
  memory_near (value x) program h = absurd h
  memory_near (memory m) (value y) h = absurd h
  memory_near (memory m) program h = absurd h
  memory_near program (value y) h = absurd h
  memory_near program (memory n) h = absurd h

  pub near_bound : (s q : State) → Near t F s q → (i : ℕ) → meaning_in (binding s i) ≡ meaning_in (binding q i)
  near_bound s q k i = meaning_near _ _ (near_get s.bound q.bound k.bound i)

  pub near_side : (s q : State) → Near t F s q → (r : Side) → Agree t F (memory_of s r) (memory_of q r)
  near_side s q k side.Own = k.own
  near_side s q k side.Left = k.left
  near_side s q k side.Right = k.right
  near_side s q k (side.Memory i) = k.named i
  near_side s q k (side.Bound i) = memory_near _ _ (near_get s.bound q.bound k.bound i)
