-- Properties of globals that oracles keep.
use Rattle.std.specs.Prelude.{◌≡◌, Bool, true, List, [], ◌∷◌, Option, Some}
use Rattle.std.specs.List.{AllByRecursion}
use Rattle.gb_core.specs.declared.value.Value.{Value}
use Rattle.gb_dist.specs.WeightedList.{Every}
use Rattle.gb_meaning.specs.Names.{Map, set}
use Rattle.gb_meaning.specs.Program.{Routine, Oracle}
use Rattle.gb_meaning.specs.Runs.{outcomes}
use Rattle.gb_meaning.specs.Setting.{Setting}
use Rattle.gb_meaning.specs.Values.{Global}
use Rattle.gb_laws.specs.Programs.{AreValuesOf}
use Rattle.gb_meaning.specs.Declared.{Signature}
use Rattle.gb_meaning.specs.Linking.{Oracles}
use Rattle.gb_meaning.specs.Programs.{IfThere}

-- a property of globals that stays where one of these gets a value
abbrev pub IsApartFrom : List Global → (Map → Bool) → Type 0
IsApartFrom gs I = AllByRecursion (λ x. (v : Value) (G : Map) → I G ≡ true → I (set G (x.parent ∷ x.name ∷ []) v) ≡ true) gs

-- A procedure keeps a property of globals, from arguments of a signature's types.
abbrev pub Keeps : Setting → (Map → Bool) → Signature → Routine → Type 0
Keeps g I s r = (vs : List Value) → AreValuesOf g.types s.params vs → (G : Map) → I G ≡ true → Every (λ a. I a.globals ≡ true) (outcomes g r vs G)

-- So does each that answers for an oracle which has a signature.
abbrev pub OraclesKeep : Setting → (Oracle → Option Signature) → (Map → Bool) → Oracles → Type 0
OraclesKeep g ss I os = (o : Oracle) (s : Signature) → ss o ≡ Some s → IfThere (Keeps g I s) (os o)
