-- Oracles of procedures of abstract modules that are judged to keep a property of globals, or a relation of those on two sides.
use Rattle.std.specs.Prelude.{◌≡◌, Bool, List, Some, None}
use Rattle.gb_terms.specs.declared.module.ProcRef.{ProcRef}
use Rattle.gb_goal.specs.Interfaces.{ProcedureType, procedure_type}
use Rattle.gb_goal.specs.Scope.{Declarations}
use Rattle.gb_meaning.specs.Names.{Map}
use Rattle.gb_meaning.specs.Program.{Routine}
use Rattle.gb_meaning.specs.Setting.{Setting}
use Rattle.gb_meaning.specs.Values.{Global}
use Rattle.gb_typing.specs.Fits.{IsOfType}
use Rattle.gb_prog.specs.Coupled.{Leaves}
use Rattle.gb_prog.specs.OracleJudged.{HasOwnNames, AreJudgedAlike, IsJudgedToKeep, AreJudgedUntil}

-- A reference to a procedure that the setting has, of the type that is known of it.
pub record IsThere (ds : Declarations) (g : Setting) (o : ProcRef) : Type 0 where
  pub type : ProcedureType
  pub known : procedure_type ds None o ≡ Some type
  pub means : Routine
  pub there : g.procedure o ≡ Some means
  pub typed : IsOfType g type means

-- A pair of oracles: each has parameters of different names and writes none of these globals, and from equal arguments and globals in R both
-- are judged to give equal results, and globals in R.
pub record AreKeeping (ds : Declarations) (g : Setting) (gs : List Global) (R : Map → Map → Bool) (o p : ProcRef) : Type 0 where
  pub left : IsThere ds g o
  pub right : IsThere ds g p
  pub left_names : HasOwnNames (let x = left in x.means)
  pub right_names : HasOwnNames (let y = right in y.means)
  pub left_leaves : Leaves g gs (let x = left in x.means)
  pub right_leaves : Leaves g gs (let y = right in y.means)
  pub judged : AreJudgedAlike g R (let x = left in let t = x.type in t.result) (let x = left in x.means) (let y = right in y.means)

-- The same, until an event of the right globals has come about, which the right one is judged to keep.
pub record AreKeepingUntil (ds : Declarations) (g : Setting) (gs : List Global) (B : Map → Bool) (R : Map → Map → Bool) (o p : ProcRef) : Type 0 where
  pub left : IsThere ds g o
  pub right : IsThere ds g p
  pub left_names : HasOwnNames (let x = left in x.means)
  pub right_names : HasOwnNames (let y = right in y.means)
  pub left_leaves : Leaves g gs (let x = left in x.means)
  pub right_leaves : Leaves g gs (let y = right in y.means)
  pub judged : AreJudgedUntil g B R (let x = left in let t = x.type in t.result) (let x = left in x.means) (let y = right in y.means)
  pub event : IsJudgedToKeep g B (let y = right in y.means)

-- An oracle that is judged to keep a property of globals.
pub record IsKeeping (ds : Declarations) (g : Setting) (I : Map → Bool) (o : ProcRef) : Type 0 where
  pub there : IsThere ds g o
  pub judged : IsJudgedToKeep g I (let x = there in x.means)
