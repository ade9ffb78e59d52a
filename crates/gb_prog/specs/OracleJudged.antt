-- What judgments of two procedures say, where both answer for an oracle.
use Rattle.std.specs.Prelude.{◌≡◌, Bool, true, false, Some}
use Rattle.gb_core.specs.declared.ty.Ty.{Ty}
use Rattle.gb_dist.specs.Coupling.{Coupling}
use Rattle.gb_dist.specs.WeightedList.{Every}
use Rattle.gb_meaning.specs.Judgments.{from_frame}
use Rattle.gb_meaning.specs.Memory.{Memory, read_local, result_name}
use Rattle.gb_meaning.specs.Names.{Map}
use Rattle.gb_meaning.specs.Program.{Routine}
use Rattle.gb_meaning.specs.Runs.{parameter_values, routine_denominator}
use Rattle.gb_meaning.specs.Setting.{Setting}
use Rattle.gb_meaning.specs.Written.{params_of}
use Rattle.gb_meaning.specs.Declared.{Signature}
use Rattle.gb_typing.specs.Fits.{IsOfType}
use Rattle.gb_typing.specs.Modules.{ProcedureType, same_params}
use Rattle.gb_typing.specs.Scopes.{HaveOwnNames}
use Rattle.gb_prog.specs.Until.{Until}

-- A procedure that may answer for an oracle of a signature: its parameters and its result have the signature's types. The parameters may
-- have other names.
pub record IsFor (g : Setting) (s : Signature) (r : Routine) : Type 0 where
  pub type : ProcedureType
  pub typed : IsOfType g type r
  pub params : same_params type.params s.params ≡ true
  pub result : type.result ≡ s.result

-- no two parameters of a procedure have the same name
abbrev pub HasOwnNames : Routine → Type 0
HasOwnNames r = HaveOwnNames (params_of r)

-- From memories whose frames hold the same arguments, and whose globals are in R, the procedures are coupled on R and on results that are
-- read the same at a type.
abbrev pub AreJudgedAlike : Setting → (Map → Map → Bool) → Ty → Routine → Routine → Type 0
AreJudgedAlike g R t r q = (m n : Memory) → parameter_values g r m ≡ parameter_values g q n → R m.globals n.globals ≡ true →
    Coupling (λ a b. (read_local g.types a result_name t ≡ read_local g.types b result_name t) × (R a.globals b.globals ≡ true))
    (from_frame g (Some r) m) (routine_denominator g r) (from_frame g (Some q) n) (routine_denominator g q)

-- From each memory that has the property, each outcome has it.
abbrev pub IsJudgedToKeep : Setting → (Map → Bool) → Routine → Type 0
IsJudgedToKeep g I r = (m : Memory) → I m.globals ≡ true → Every (λ a. I a.globals ≡ true) (from_frame g (Some r) m)

-- .. where an event of the right globals hasn't come about, and as long as it still hasn't
abbrev pub AreJudgedUntil : Setting → (Map → Bool) → (Map → Map → Bool) → Ty → Routine → Routine → Type 0
AreJudgedUntil g B R t r q = (m n : Memory) → parameter_values g r m ≡ parameter_values g q n → B n.globals ≡ false → R m.globals n.globals ≡ true →
    Coupling (Until B (λ a b. (read_local g.types a result_name t ≡ read_local g.types b result_name t) × (R a.globals b.globals ≡ true)))
    (from_frame g (Some r) m) (routine_denominator g r) (from_frame g (Some q) n) (routine_denominator g q)
