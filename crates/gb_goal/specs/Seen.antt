-- What the code holds of modules.
use Rattle.gb_goal.specs.declared.interface.Interface.{Interface as Held}
use Rattle.gb_goal.specs.declared.interface.Procedures.{Procedures as HeldProcedures}
use Rattle.gb_goal.specs.declared.interface.Procedures.TheVariants.{Of, Asked}
use Rattle.gb_goal.specs.declared.interface.ProcedureType.{ProcedureType as HeldType}
use Rattle.gb_goal.specs.Interfaces.{Interface, Procedures, ProcedureType, procedure_types, signature_types}

abbrev pub typed : HeldType → ProcedureType
typed t = record { params = t.params.now; result = t.result.now }

abbrev pub types_in : HeldProcedures → Procedures ProcedureType
types_in (Of ps) = procedure_types ps.now
types_in (Asked ss) = signature_types ss.now

abbrev pub seen : Held → Interface
seen i = record { lacks = i.lacks.now; procedures = types_in i.procedures }
