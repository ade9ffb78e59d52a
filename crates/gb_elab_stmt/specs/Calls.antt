-- The typing of calls.
use Rattle.std.specs.Prelude.{◌-◌, if◌then◌else◌, nat_lt, List, [], ◌∷◌, drop, length, Some}
use Rattle.gb_core.specs.declared.place.Place.{Place}
use Rattle.gb_core.specs.declared.refusal.Why.TheVariants.{TypeMismatch}
use Rattle.gb_core.specs.declared.ty.Ty.{Ty}
use Rattle.gb_core.specs.SameTypes.{ty_eq}
use Rattle.gb_terms.specs.declared.decl.TypedName.{TypedName}
use Rattle.gb_terms.specs.declared.term.Term.{Term}
use Rattle.gb_terms.specs.declared.term.Head.TheVariants.{Call}
use Rattle.gb_terms.specs.declared.term.Instr.{Instr}
use Rattle.gb_script.specs.declared.head.Head.{Head}
use Rattle.gb_script.specs.declared.tree.Node.{Node}
use Rattle.gb_script.specs.Tree.{parts_of, place_of}
use Rattle.gb_goal.specs.Answers.{Answer, ◌>>=◌}
use Rattle.gb_goal.specs.Answers.Answer.{given, refused}
use Rattle.gb_names.specs.Environment.{Environment}
use Rattle.gb_names.specs.Judgments.{Named, procedure_called}
use Rattle.gb_names.specs.Names.{Target}
use Rattle.gb_elab.specs.Forms.{elaborated}
use Rattle.gb_elab_stmt.specs.Targets.{type_of_all, variables_of}

-- There is an argument for each parameter; a call with fewer is refused at its first word.
abbrev pub enough : List TypedName → List Node → Place → Answer (Unit {0})
enough qs es p = if nat_lt (length es) (length qs) then refused TypeMismatch p else given tt

-- what is written takes the result, if anything is written
abbrev pub takes : List Target → Ty → Place → Answer (Unit {0})
takes [] t p = given tt
takes (v ∷ vs) t p = if ty_eq t (type_of_all (v ∷ vs)) then given tt else refused TypeMismatch p

-- arguments of the types of parameters, refused at the first one too many
unfoldable pub arguments : Environment → List TypedName → List Node → Answer (List Term)
arguments at qs [] = given []
arguments at [] (e ∷ es) = refused TypeMismatch (place_of e)
arguments at (q ∷ qs) (e ∷ es) = do
  u ← elaborated e at [] (Some q.ty)
  us ← arguments at qs es
  given (u ∷ us)

-- a call of a procedure, whose result these variables take
unfoldable pub call_of : Environment → List Target → Named → List Node → Place → Answer Instr
call_of at vs f es p = do
  _ ← enough f.1.params es p
  _ ← takes vs f.1.result p
  us ← arguments at f.1.params es
  given (Call (variables_of vs) f.0 us)

-- the arguments of a call stand in its last part
abbrev pub in_last : List Node → List Node
in_last (es ∷ []) = parts_of es
in_last _ = []

-- a call by its head, its first word and the other parts
abbrev pub call : Environment → List Target → Head → Node → List Node → Place → Answer Instr
call at vs h x ps p = do
  f ← procedure_called at [] h x ps p
  call_of at vs f (in_last (drop (length ps - 1) ps)) p
