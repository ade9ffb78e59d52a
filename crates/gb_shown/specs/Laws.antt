-- What a script spells is named where what is declared, and what stands around it, is. Names in a form are those of things that are
-- found, and its numbers are tested, so of its tree it is asked alone that tuples have their parts.
use Rattle.std.specs.Prelude.{◌≡◌, true, List, [], Option}
use Rattle.gb_core.specs.declared.place.Place.{Place}
use Rattle.gb_core.specs.declared.ty.Ty.{Ty}
use Rattle.gb_terms.specs.declared.term.Term.{Term}
use Rattle.gb_script.specs.declared.head.Head.{Head}
use Rattle.gb_script.specs.declared.tree.Node.{Node}
use Rattle.gb_goal.specs.Answers.Answer.{given}
use Rattle.gb_goal.specs.Scope.{Declarations}
use Rattle.gb_names.specs.declared.bindings.Binding.{Binding}
use Rattle.gb_names.specs.Environment.{Name, Environment}
use Rattle.gb_names.specs.Judgments.{Named, both_procedures, named_procedure, one_procedure}
use Rattle.gb_names.specs.Names.{Target, target}
use Rattle.gb_names.specs.Types.{type_of, type_or_number}
use Rattle.gb_elab.specs.Forms.{elaborated, function}
use Rattle.gb_print_names.specs.declared.bound_names.Enumeration.{Enumeration}
use Rattle.gb_print.specs.Written.{is_target_here, IsWrittenType, IsWrittenProcedure}
use Rattle.gb_shown.specs.Named.{IsNamedType, IsNamedResult, IsNamed}
use Rattle.gb_shown.specs.Rules.{HasFirst}
use Rattle.gb_shown.specs.Scopes.{IsNamedProcedureType, IsNamedScope, IsNamedSetting, AreNamedBindings, IsNamedWanted}
use Rattle.gb_shown.specs.Trees.{IsFullTree}

-- What a type spells is one that forms are printed with, in which there is no `glob`.
abbrev pub TypesAreWritten : Type 0
TypesAreWritten =
    (es : List Enumeration) (ds : Declarations) → IsNamedScope es ds → (t : Node) → IsFullTree t → (u : Ty) → type_of ds t ≡ given u → IsWrittenType 0 [] u × HasFirst es u

-- What a type spells where numbers may stand too is named.
abbrev pub NumbersAreNamed : Type 0
NumbersAreNamed = (es : List Enumeration) (ds : Declarations) → IsNamedScope es ds → (t : Node) → IsFullTree t → (u : Ty) → type_or_number ds t ≡ given u → IsNamedType u

-- What a form is elaborated to is named, where the wanted type is.
abbrev pub FormsAreNamed : Type 0
FormsAreNamed =
    (es : List Enumeration) (t : Node) → IsFullTree t → (at : Environment) (bs : List Binding) → IsNamedSetting es at → AreNamedBindings bs → (w : Option Ty) → IsNamedWanted w →
    (u : Term) → elaborated t at bs w ≡ given u → IsNamed es u

-- So is what a function from a type to a type is elaborated to.
abbrev pub FunctionsAreNamed : Type 0
FunctionsAreNamed =
    (es : List Enumeration) (t : Node) → IsFullTree t → (at : Environment) → IsNamedSetting es at → (a b : Ty) → IsNamedType a → IsNamedResult b →
    (u : Term) → function t at a b ≡ given u → IsNamed es u

-- a procedure as a term names it, and its types
pub record IsNamedReference (n : Named) : Type 0 where
  pub written : IsWrittenProcedure [] n.0
  pub typed : IsNamedProcedureType n.1

-- A procedure that words name can be written, and is named.
abbrev pub ProceduresAreNamed : Type 0
ProceduresAreNamed =
    (es : List Enumeration) (at : Environment) → IsNamedSetting es at → (bs : List Binding) (k : Head) (xs : List Node) (p : Place) (n : Named) → named_procedure at bs k xs p ≡ given n →
    IsNamedReference n

-- So is one that a judgment is about.
abbrev pub JudgedAreNamed : Type 0
JudgedAreNamed =
    (es : List Enumeration) (at : Environment) → IsNamedSetting es at → (bs : List Binding) (f : Node) (p : Place) (n : Named) → one_procedure at bs f p ≡ given n →
    IsNamedReference n

-- So are both procedures of a judgment of two.
abbrev pub BothAreNamed : Type 0
BothAreNamed =
    (es : List Enumeration) (at : Environment) → IsNamedSetting es at → (bs : List Binding) (f g : Node) (p : Place) (n : Named × Named) → both_procedures at bs f g p ≡ given n →
    IsNamedReference n.0 × IsNamedReference n.1

-- A variable that a statement writes can be written in the language, at its type.
abbrev pub TargetsAreNamed : Type 0
TargetsAreNamed =
    (es : List Enumeration) (at : Environment) → IsNamedSetting es at → (x : Name) (p : Place) (t : Target) → target at x p ≡ given t → (is_target_here [] t.0 ≡ true) × IsNamedType t.1
