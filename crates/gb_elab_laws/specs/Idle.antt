-- The program that does nothing and answers with first values.
use Rattle.std.specs.Prelude.{◌≡◌, ℕ, ◌<◌, false, List, [], ◌∷◌, bytes_eq}
use Rattle.gb_core.specs.declared.ty.Ty.{Ty}
use Rattle.gb_core.specs.Numbering.{Numbering, numbers, uncounted}
use Rattle.gb_terms.specs.declared.decl.TypedName.{TypedName}
use Rattle.gb_terms.specs.declared.term.Head.TheVariants.{Lit}
use Rattle.gb_meaning.specs.Names.{Name}
use Rattle.gb_meaning.specs.Values.{values_by}
use Rattle.gb_meaning.specs.Program.{Routine}
use Rattle.gb_meaning.specs.Program.Program.{done}
use Rattle.gb_meaning.specs.Program.Routine.{routine}
use Rattle.gb_meaning.specs.Trees.{term}
use Rattle.gb_meaning.specs.Declared.{ModuleType, Signature}
use Rattle.gb_meaning.specs.Modules.{Procedures}
use Rattle.gb_meaning.specs.Typing.{IsPlain}
use Rattle.gb_meaning.specs.Adversary.{Adversary}

-- the values of a type that variables may have, by the sizes of abstract types
abbrev pub plain_values : (Name → ℕ) → Ty → Numbering
plain_values size t = values_by (λ n. numbers (size n)) (λ n. uncounted) t

abbrev pub idle_procedure : (Name → ℕ) → Signature → Routine
idle_procedure size s = routine s.params [] done (term (Lit ((plain_values size s.result).at 0)) [] s.result)

abbrev pub idle_procedures : (Name → ℕ) → List Signature → Procedures Routine
idle_procedures size [] = []
idle_procedures size (s ∷ ss) = (s.name, idle_procedure size s) ∷ idle_procedures size ss

-- each procedure touches nothing and answers with the first value of its type
abbrev pub idle : (Name → ℕ) → ModuleType → Adversary
idle size t = record { footprint = []; procedures = idle_procedures size t.signatures }

abbrev pub DiffersFrom : Signature → List Signature → Type 0
DiffersFrom s [] = Unit {0}
DiffersFrom s (r ∷ ss) = (bytes_eq r.name s.name ≡ false) × DiffersFrom s ss

-- no two have the same name
abbrev pub AreDistinct : List Signature → Type 0
AreDistinct [] = Unit {0}
AreDistinct (s ∷ ss) = DiffersFrom s ss × AreDistinct ss

-- a type that variables may have
abbrev pub IsStored : (Name → ℕ) → Ty → Type 0
IsStored size t = IsPlain t × (0 < (plain_values size t).size)

abbrev pub AreStored : (Name → ℕ) → List TypedName → Type 0
AreStored size [] = Unit {0}
AreStored size (x ∷ xs) = IsStored size x.ty × AreStored size xs

-- parameters and results have such types
abbrev pub HaveStoredTypes : (Name → ℕ) → List Signature → Type 0
HaveStoredTypes size [] = Unit {0}
HaveStoredTypes size (s ∷ ss) = AreStored size s.params × IsStored size s.result × HaveStoredTypes size ss
