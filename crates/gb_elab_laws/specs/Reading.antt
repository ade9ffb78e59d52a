-- Locals that are read in a memory.
use Rattle.std.specs.Prelude.{◌≡◌, List, [], ◌∷◌, Some}
use Rattle.gb_terms.specs.declared.decl.TypedName.{TypedName}
use Rattle.gb_terms.specs.declared.op.Side.{Side}
use Rattle.gb_terms.specs.declared.op.Side.TheVariants as side
use Rattle.gb_typing.specs.Context.{Frame, local_in}

-- the own memory, the left one and the right one
abbrev pub IsOuter : Side → Type 0
IsOuter (side.Memory i) = ⊥
IsOuter (side.Bound i) = ⊥
IsOuter _ = Unit {0}

-- each of these is a local of the memory
abbrev pub StandIn : Frame → List TypedName → Type 0
StandIn f [] = Unit {0}
StandIn f (v ∷ vs) = (local_in f v.name ≡ Some v.ty) × StandIn f vs
