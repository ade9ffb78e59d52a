-- Oracles on two sides that are coupled, and what is so of open programs that are linked with them.
use Rattle.std.specs.Prelude.{◌≡◌, Bool, true, List, [], ◌∷◌, Option, Some, None}
use Rattle.std.specs.List.{AllByRecursion}
use Rattle.gb_core.specs.declared.value.Value.{Value}
use Rattle.gb_dist.specs.Coupling.{Coupling}
use Rattle.gb_meaning.specs.Memory.{Memory, read_globals}
use Rattle.gb_meaning.specs.Names.{Map, empty, set}
use Rattle.gb_meaning.specs.Program.{Routine, Oracle}
use Rattle.gb_meaning.specs.Runs.{outcomes, routine_denominator}
use Rattle.gb_meaning.specs.Setting.{Setting}
use Rattle.gb_meaning.specs.Sound.{IsSoundRoutine}
use Rattle.gb_meaning.specs.Values.{Global, Types}
use Rattle.gb_laws.specs.Programs.{AreValuesOf}
use Rattle.gb_laws.specs.Writes.{key_of_global, UnwrittenBy}
use Rattle.gb_meaning.specs.Declared.{Signature}
use Rattle.gb_meaning.specs.Linking.{Oracles}

-- the values of globals
abbrev pub values_of : Types → List Global → Map → Value
values_of t gs G = read_globals t (record { globals = G; frame = empty }) gs

-- a relation of globals that stays where one of these gets the same value on both sides
abbrev pub IsKept : List Global → (Map → Map → Bool) → Type 0
IsKept gs R =
    AllByRecursion (λ x. (v : Value) (G H : Map) → R G H ≡ true → R (set G (x.parent ∷ x.name ∷ []) v) (set H (x.parent ∷ x.name ∷ []) v) ≡ true) gs

-- Memories with the same frame, and with globals in R among which gs have the same values. The frame of an outcome is its result.
pub record Alike (t : Types) (gs : List Global) (R : Map → Map → Bool) (m n : Memory) : Type 0 where
  pub frames : m.frame ≡ n.frame
  pub own : values_of t gs m.globals ≡ values_of t gs n.globals
  pub related : R m.globals n.globals ≡ true

-- outcomes with the same result, and with globals in R
abbrev pub SameResult : (Map → Map → Bool) → Memory → Memory → Type 0
SameResult R a b = (a.frame ≡ b.frame) × (R a.globals b.globals ≡ true)

-- Two procedures are coupled on the same result and R, from the same arguments, of a signature's types, and from globals in R among which
-- gs have the same values.
abbrev pub AreCoupled : Setting → List Global → (Map → Map → Bool) → Signature → Routine → Routine → Type 0
AreCoupled g gs R s r q = (vs : List Value) → AreValuesOf g.types s.params vs → (G H : Map) → values_of g.types gs G ≡ values_of g.types gs H → R G H ≡ true →
    Coupling (SameResult R) (outcomes g r vs G) (routine_denominator g r) (outcomes g q vs H) (routine_denominator g q)

-- a procedure that draws from distributions, and writes none of these globals
abbrev pub Leaves : Setting → List Global → Routine → Type 0
Leaves g gs r = IsSoundRoutine g r × AllByRecursion (λ x. UnwrittenBy g r (key_of_global x)) gs

-- what answers for an oracle on two sides: procedures that leave gs and are coupled, or none on either side
abbrev pub AnswerAlike : Setting → List Global → (Map → Map → Bool) → Signature → Option Routine → Option Routine → Type 0
AnswerAlike g gs R s (Some r) (Some q) = Leaves g gs r × Leaves g gs q × AreCoupled g gs R s r q
AnswerAlike g gs R s None None = Unit {0}
AnswerAlike g gs R s _ _ = ⊥

-- the same for each oracle that has a signature
abbrev pub OraclesAlike : Setting → (Oracle → Option Signature) → List Global → (Map → Map → Bool) → Oracles → Oracles → Type 0
OraclesAlike g ss gs R os qs = (o : Oracle) (s : Signature) → ss o ≡ Some s → AnswerAlike g gs R s (os o) (qs o)
