-- Procedures of abstract modules, and the calls of them that end bodies.
use Rattle.std.specs.Prelude.{ℕ, Bool, ◌&&◌, List, Option, Some, None, bytes_eq}
use Rattle.std.specs.Option.{option_map}
use Rattle.gb_terms.specs.declared.module.ProcRef.{ProcRef}
use Rattle.gb_goal.specs.Interfaces.{ProcedureType, procedure_type}
use Rattle.gb_goal.specs.Scope.{Declarations}
use Rattle.gb_goal.specs.Seen.{typed}
use Rattle.gb_mods.specs.declared.meant.Meant.{Meant}
use Rattle.gb_mods.specs.declared.meant.Meant.TheVariants.{Any}
use Rattle.gb_mods.specs.Meant.{meant_by}
use Rattle.gb_call.specs.LastCall.{LastCall, call_seen}
use Rattle.gb_adv.specs.declared.abstract_call.AbstractCall as seen
use Rattle.gb_adv.specs.declared.abstract_call.AbstractProcedure.{AbstractProcedure as Seen}

-- a procedure of an abstract module: the module, its name and its type, and the oracles that its signature names
pub record AbstractProcedure : Type 0 where
  pub owner : List ℕ
  pub name : List ℕ
  pub type : ProcedureType
  pub oracles : List ProcRef

abbrev pub any_one : ProcRef → Option ProcedureType → Meant → Option AbstractProcedure
any_one f (Some t) (Any a qs) = Some (record { owner = a; name = f.name; type = t; oracles = qs })
any_one f _ _ = None

-- what a reference means, where it is a procedure of an abstract module
abbrev pub abstract_procedure : Declarations → ProcRef → Option AbstractProcedure
abstract_procedure ds f = any_one f (procedure_type ds None f) (meant_by ds f)

-- whether both are the same procedure of the same module, whatever modules stand for the module's parameters
abbrev pub same_abstract : AbstractProcedure → AbstractProcedure → Bool
same_abstract f h = bytes_eq f.owner h.owner && bytes_eq f.name h.name

-- a call at the end of a body, of such a procedure
pub record AbstractCall : Type 0 where
  pub call : LastCall
  pub called : AbstractProcedure

abbrev pub calling : LastCall → AbstractProcedure → AbstractCall
calling k f = record { call = k; called = f }

abbrev pub abstract_call : Declarations → Option LastCall → Option AbstractCall
abstract_call ds None = None
abstract_call ds (Some k) = option_map (calling k) (abstract_procedure ds k.procedure)

-- the same, of references
abbrev pub procedure_seen : Seen → AbstractProcedure
procedure_seen f = record { owner = f.owner.now; name = f.name.now; type = typed f.ty; oracles = f.oracles.now }

abbrev pub abstract_seen : seen.AbstractCall → AbstractCall
abstract_seen k = record { call = call_seen k.call; called = procedure_seen k.called }
