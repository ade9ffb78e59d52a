-- Oracles on two sides that are coupled until an event of the right globals has come about, and what is so of open programs that are linked
-- with them.
use Rattle.std.specs.Prelude.{◌≡◌, Bool, true, false, List, Option, Some, None}
use Rattle.gb_core.specs.declared.value.Value.{Value}
use Rattle.gb_dist.specs.Coupling.{Coupling}
use Rattle.gb_meaning.specs.Memory.{Memory}
use Rattle.gb_meaning.specs.Names.{Map}
use Rattle.gb_meaning.specs.Program.{Routine, Oracle}
use Rattle.gb_meaning.specs.Runs.{outcomes, routine_denominator}
use Rattle.gb_meaning.specs.Setting.{Setting}
use Rattle.gb_meaning.specs.Values.{Global, Types}
use Rattle.gb_laws.specs.Programs.{AreValuesOf}
use Rattle.gb_meaning.specs.Declared.{Signature}
use Rattle.gb_meaning.specs.Linking.{Oracles}
use Rattle.gb_prog.specs.Coupled.{values_of, Alike, SameResult, Leaves}
use Rattle.gb_prog.specs.KeptProperty.{Keeps}

-- two memories are related, as long as the event hasn't come about in the right one
abbrev pub Until : (Map → Bool) → (Memory → Memory → Type 0) → Memory → Memory → Type 0
Until B A m n = B n.globals ≡ false → A m n

-- they are alike as long as it hasn't
abbrev pub AlikeUntil : Types → List Global → (Map → Bool) → (Map → Map → Bool) → Memory → Memory → Type 0
AlikeUntil t gs B R = Until B (Alike t gs R)

-- Two procedures are coupled, as long as the event hasn't come about, on the same result and R: from the same arguments, of a signature's
-- types, and from globals in R among which gs have the same values, where it hasn't.
abbrev pub AreCoupledUntil : Setting → List Global → (Map → Bool) → (Map → Map → Bool) → Signature → Routine → Routine → Type 0
AreCoupledUntil g gs B R s r q = (vs : List Value) → AreValuesOf g.types s.params vs → (G H : Map) → values_of g.types gs G ≡ values_of g.types gs H → B H ≡ false → R G H ≡ true →
    Coupling (Until B (SameResult R)) (outcomes g r vs G) (routine_denominator g r) (outcomes g q vs H) (routine_denominator g q)

-- What answers for an oracle on two sides: procedures that leave gs and are coupled so, of which the right one keeps the event; or none on
-- either side.
abbrev pub AnswerUntil : Setting → List Global → (Map → Bool) → (Map → Map → Bool) → Signature → Option Routine → Option Routine → Type 0
AnswerUntil g gs B R s (Some r) (Some q) = (Leaves g gs r × Leaves g gs q) × AreCoupledUntil g gs B R s r q × Keeps g B s q
AnswerUntil g gs B R s None None = Unit {0}
AnswerUntil g gs B R s _ _ = ⊥

-- the same for each oracle that has a signature
abbrev pub OraclesUntil : Setting → (Oracle → Option Signature) → List Global → (Map → Bool) → (Map → Map → Bool) → Oracles → Oracles → Type 0
OraclesUntil g ss gs B R os qs = (o : Oracle) (s : Signature) → ss o ≡ Some s → AnswerUntil g gs B R s (os o) (qs o)
