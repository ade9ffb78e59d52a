-- What is so of each procedure that has a type is so of each that a typed body calls.
use Rattle.std.proofs.Common.{◌≡◌, List, [], ◌∷◌, Option, Some, None, refl}
use mathlib.Core.Former.{Count}
use Rattle.gb_core.specs.declared.var.Var.{Var}
use Rattle.gb_terms.specs.declared.decl.TypedName.{TypedName}
use Rattle.gb_terms.specs.declared.module.ProcRef.{ProcRef}
use Rattle.gb_terms.specs.declared.term.Term.{Term}
use Rattle.gb_terms.specs.declared.term.Instr.{Instr, Row_of-Instr, end_of-Instr, more_of-Instr}
use Rattle.gb_terms.specs.declared.term.Head.TheVariants.{Assign, Sample, Call', If', While'}
use Rattle.gb_meaning.specs.Commands.{terms_in}
use Rattle.gb_meaning.specs.Naming.{EachCallIn, EachCallOf}
use Rattle.gb_typing.specs.Context.{Context, procedure}
use Rattle.gb_typing.specs.Modules.{ProcedureType}
use Rattle.gb_typing.specs.Programs.{IsCall, AreStatements, EachStatement}

module _ (c : Context) (ls : List TypedName) (P : ProcRef → Type 0) (all : (r : ProcRef) (t : ProcedureType) → procedure c r ≡ Some t → P r) where
  called : (xs : List Var) (r : ProcRef) (es : List Term) (o : Option ProcedureType) → procedure c r ≡ o → IsCall c ls xs o es → P r
  called xs r es None e w = absurd w
  called xs r es (Some t) e w = all r t e

  row_calls : {n : Count} (is : Row_of-Instr n) → AreStatements c ls is → EachCallIn P is
  row_calls end_of-Instr w = tt
  row_calls (more_of-Instr (Assign xs e) is) w = (tt, row_calls is w.1)
  row_calls (more_of-Instr (Sample x d) is) w = (tt, row_calls is w.1)
  row_calls (more_of-Instr (Call' xs r n es) is) w = (called xs r (terms_in es) (procedure c r) refl w.0, row_calls is w.1)
  row_calls (more_of-Instr (If' e m a n b) is) w = ((row_calls a w.0.1, row_calls b w.0.2), row_calls is w.1)
  row_calls (more_of-Instr (While' e v n a) is) w = (row_calls a w.0.2, row_calls is w.1)

  pub each_call : (is : List Instr) → EachStatement c ls is → EachCallOf P is
  each_call [] w = tt
  each_call (Assign xs e ∷ is) w = (tt, each_call is w.1)
  each_call (Sample x d ∷ is) w = (tt, each_call is w.1)
  each_call (Call' xs r n es ∷ is) w = (called xs r (terms_in es) (procedure c r) refl w.0, each_call is w.1)
  each_call (If' e m a n b ∷ is) w = ((row_calls a w.0.1, row_calls b w.0.2), each_call is w.1)
  each_call (While' e v n a ∷ is) w = (row_calls a w.0.2, each_call is w.1)
