-- What the typing of forms and types promises.
use Rattle.std.proofs.Common.{◌≡◌, true, List, [], Option}
use Rattle.gb_core.specs.declared.place.Place.{Place}
use Rattle.gb_core.specs.declared.ty.Ty.{Ty}
use Rattle.gb_terms.specs.declared.term.Term.{Term}
use Rattle.gb_goal.specs.Answers.Answer.{given}
use Rattle.gb_goal.specs.Scope.{Declarations}
use Rattle.gb_script.specs.declared.tree.Node.{Node}
use Rattle.gb_names.specs.declared.bindings.Binding.{Binding}
use Rattle.gb_names.specs.Environment.{Name, Environment}
use Rattle.gb_names.specs.Names.{Target, target}
use Rattle.gb_names.specs.Types.{type_of, type_or_number}
use Rattle.gb_elab.specs.Forms.{elaborated, function}
use Rattle.gb_print_names.specs.declared.bound_names.Enumeration.{Enumeration}
use Rattle.gb_print.specs.Written.{is_target_here, IsWrittenType}
use Rattle.gb_shown.specs.Named.{IsNamed, IsNamedType}
use Rattle.gb_shown.specs.Rules.{HasFirst}
use Rattle.gb_shown.specs.Scopes.{IsNamedScope, IsNamedSetting, AreNamedBindings, IsNamedWanted}
use Rattle.gb_shown.specs.Words.{IsReadTree}

-- a type that a script writes
pub record IsTypeWritten (es : List Enumeration) (u : Ty) : Type 0 where
  pub named : IsNamedType u
  pub written : IsWrittenType 0 [] u
  pub first : HasFirst es u

pub record OfForms : Type 0 where
  pub form : (es : List Enumeration) (at : Environment) → IsNamedSetting es at → (bs : List Binding) → AreNamedBindings bs → (w : Option Ty) → IsNamedWanted w → (t : Node) → IsReadTree t →
      (f : Term) → elaborated t at bs w ≡ given f → IsNamed es f
  pub function : (es : List Enumeration) (at : Environment) → IsNamedSetting es at → (from to : Ty) → IsNamedType from → IsNamedType to → (t : Node) → IsReadTree t →
      (f : Term) → function t at from to ≡ given f → IsNamed es f
  pub type : (es : List Enumeration) (ds : Declarations) → IsNamedScope es ds → (t : Node) → IsReadTree t → (u : Ty) → type_of ds t ≡ given u → IsTypeWritten es u
  pub number : (es : List Enumeration) (ds : Declarations) → IsNamedScope es ds → (t : Node) → IsReadTree t → (u : Ty) → type_or_number ds t ≡ given u → IsNamedType u
  pub target : (es : List Enumeration) (at : Environment) → IsNamedSetting es at → (x : Name) (p : Place) (v : Target) → target at x p ≡ given v → (is_target_here [] v.0 ≡ true) × IsNamedType v.1
