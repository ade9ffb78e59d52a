-- The typing of module types.
use Rattle.std.specs.Prelude.{ℕ, if◌then◌else◌, List, [], ◌∷◌, ◌++◌, Option, Some, None, bytes_eq}
use Rattle.std.specs.List.{list_any}
use Rattle.gb_core.specs.declared.place.Place.{Place}
use Rattle.gb_core.specs.declared.refusal.Why.TheVariants.{Argument, DoubleName, UnknownName}
use Rattle.gb_terms.specs.declared.decl.Param.{Param}
use Rattle.gb_goal.specs.Answers.{Answer, ◌>>=◌, given_or, not_built}
use Rattle.gb_goal.specs.Answers.Answer.{given, refused}
use Rattle.gb_goal.specs.Interfaces.{signatures_of}
use Rattle.gb_goal.specs.Scope.{Declarations, module_type_of}
use Rattle.gb_goal.specs.declared.module_type.MayCall.{MayCall}
use Rattle.gb_goal.specs.declared.module_type.MayCall.TheVariants.{Every, Those}
use Rattle.gb_goal.specs.declared.module_type.ModuleType.{ModuleType}
use Rattle.gb_goal.specs.declared.module_type.Oracle.{Oracle}
use Rattle.gb_goal.specs.declared.module_type.Signature.{Signature}
use Rattle.gb_goal.specs.declared.scope.Entry.TheVariants as entry
use Rattle.gb_script.specs.declared.head.Head.{Head}
use Rattle.gb_script.specs.declared.head.Head.TheVariants as head
use Rattle.gb_script.specs.declared.tree.Node.{Node}
use Rattle.gb_script.specs.Tree.{head_of, text_of, parts_of, place_of}
use Rattle.gb_names.specs.Names.{no_declared}
use Rattle.gb_mods.specs.Asked.{signature_of}
use Rattle.gb_elab_stmt.specs.Targets.{spelled_by}
use Rattle.gb_elab_prog.specs.Bound.{parameter_name}
use Rattle.gb_elab_prog.specs.Fresh.{free}
use Rattle.gb_elab_prog.specs.Procedures.{formals, result_type}
use Rattle.gb_elab_prog.specs.Types.{only}

-- The definitions by head and parts have a last clause for trees of another shape, of which the reader builds none, since each of its
-- trees is well-sorted.

-- the module type that a path names
abbrev pub module_type_at : Declarations → Node → Answer ModuleType
module_type_at ds t = given_or (module_type_of ds (spelled_by t)) (no_declared None ds (spelled_by t)) (place_of t)

-- a parameter of this name and of the module type that a path names
abbrev pub param : Node → Node → Param
param x t = record { name = text_of x; ty = spelled_by t }

-- Parameters of a module type have module types that have none themselves.
abbrev pub without_parameters : List Param → Place → Answer (Unit {0})
without_parameters [] p = given tt
without_parameters (q ∷ qs) p = refused Argument p

-- a parameter beside those before it
abbrev pub parameter : Declarations → List Param → Head → List Node → Place → Answer (List Param)
parameter ds qs head.ModuleParameter (x ∷ t ∷ []) p = do
  _ ← parameter_name ds None qs x
  u ← module_type_at ds t
  _ ← without_parameters u.params (place_of t)
  given (qs ++ param x t ∷ [])
parameter ds qs _ _ p = not_built p

-- parameters, in order
abbrev pub parameters : Declarations → List Param → List Node → Answer (List Param)
parameters ds qs [] = given qs
parameters ds qs (t ∷ ts) = parameter ds qs (head_of t) (parts_of t) (place_of t) >>= λ rs. parameters ds rs ts

-- the procedures of the parameter of this name
abbrev pub signatures_named : Declarations → List Param → List ℕ → Option (List Signature)
signatures_named ds [] x = None
signatures_named ds (q ∷ qs) x = if bytes_eq q.name x then Some (signatures_of (module_type_of ds q.ty)) else signatures_named ds qs x

-- the procedure of this name among those of a parameter
abbrev pub oracle_among : List Signature → Node → Node → Answer Oracle
oracle_among ss x f = do
  _ ← given_or (signature_of ss (text_of f)) (UnknownName (text_of f)) (place_of f)
  given (record { parameter = text_of x; name = text_of f })

-- a procedure of a parameter
abbrev pub oracle : Declarations → List Param → Head → List Node → Place → Answer Oracle
oracle ds qs head.Oracle (x ∷ f ∷ []) p = do
  ss ← given_or (signatures_named ds qs (text_of x)) (UnknownName (text_of x)) (place_of x)
  oracle_among ss x f
oracle ds qs _ _ p = not_built p

-- procedures of parameters, behind others
abbrev pub oracles : Declarations → List Param → List Oracle → List Node → Answer (List Oracle)
oracles ds qs os [] = given os
oracles ds qs os (t ∷ ts) = oracle ds qs (head_of t) (parts_of t) (place_of t) >>= λ o. oracles ds qs (os ++ o ∷ []) ts

-- Which procedures of the parameters a procedure may call: those in braces, or without them all.
abbrev pub may_call : Declarations → List Param → Head → List Node → Place → Answer MayCall
may_call ds qs head.AllOracles _ p = given Every
may_call ds qs head.Oracles ts p = oracles ds qs [] ts >>= λ os. given (Those os)
may_call ds qs _ _ p = not_built p

-- the name of a procedure, which no procedure before it has
abbrev pub unsigned : List Signature → Node → Answer (Unit {0})
unsigned ss x = if list_any (λ s. bytes_eq s.name (text_of x)) ss then refused (DoubleName (text_of x)) (place_of x) else given tt

-- a procedure of this name
abbrev pub signed : Declarations → List Param → Node → Node → Node → Node → Answer Signature
signed ds qs x fs r os = do
  ps ← formals ds [] (parts_of fs)
  t ← result_type ds (parts_of r)
  m ← may_call ds qs (head_of os) (parts_of os) (place_of os)
  given (record { name = text_of x; params = ps; result = t; oracles = m })

-- a procedure beside those before it
abbrev pub signature : Declarations → List Param → List Signature → Head → List Node → Place → Answer (List Signature)
signature ds qs ss head.Signature (x ∷ fs ∷ r ∷ os ∷ []) p = do
  _ ← unsigned ss x
  s ← signed ds qs x fs r os
  given (ss ++ s ∷ [])
signature ds qs ss _ _ p = not_built p

-- procedures, in order
abbrev pub signatures : Declarations → List Param → List Signature → List Node → Answer (List Signature)
signatures ds qs ss [] = given ss
signatures ds qs ss (t ∷ ts) = signature ds qs ss (head_of t) (parts_of t) (place_of t) >>= λ rs. signatures ds qs rs ts

-- a module type of a new name, by its parameters and its procedures
unfoldable pub module_type_entries : Declarations → Node → List Node → List Node → Answer Declarations
module_type_entries ds x ps ts = do
  _ ← free ds x
  qs ← parameters ds [] ps
  ss ← signatures ds qs [] ts
  given (only x (entry.ModuleType (record { params = qs; signatures = ss })))
