-- The procedures that judgments speak of, and what their conditions read.
use Rattle.std.specs.Prelude.{◌-◌, List, [], ◌∷◌, ◌++◌, take, drop, length, Option, Some, None, codes}
use Rattle.gb_core.specs.declared.place.Place.{Place}
use Rattle.gb_core.specs.declared.refusal.Why.{Why}
use Rattle.gb_core.specs.declared.refusal.Why.TheVariants.{Argument}
use Rattle.gb_core.specs.declared.ty.Ty.TheVariants.{Bool as bool_ty}
use Rattle.gb_terms.specs.declared.decl.Module.{Module}
use Rattle.gb_terms.specs.declared.decl.Param.{Param}
use Rattle.gb_terms.specs.declared.decl.TypedName.{TypedName}
use Rattle.gb_terms.specs.declared.module.ProcRef.{ProcRef}
use Rattle.gb_terms.specs.declared.term.Term.{Term}
use Rattle.gb_terms.specs.declared.term.Head.TheVariants.{Equiv, Proc as procedure}
use Rattle.gb_terms.specs.Make.{node}
use Rattle.gb_goal.specs.declared.scope.Entry.{Entry}
use Rattle.gb_goal.specs.declared.scope.Entry.TheVariants as entry
use Rattle.gb_goal.specs.Scope.{Declarations, entry_of}
use Rattle.gb_goal.specs.Interfaces.{ProcedureType, found}
use Rattle.gb_goal.specs.Seen.{typed}
use Rattle.gb_mods.specs.Meets.{Known}
use Rattle.gb_names.specs.declared.judgment.Named.{Named as Held}
use Rattle.gb_script.specs.declared.head.Head.{Head}
use Rattle.gb_script.specs.declared.head.Head.TheVariants as head
use Rattle.gb_script.specs.declared.tree.Node.{Node}
use Rattle.gb_script.specs.Tree.{head_of, text_of, parts_of, place_of}
use Rattle.gb_goal.specs.Answers.{Answer, ◌>>=◌, given_or, not_built}
use Rattle.gb_goal.specs.Answers.Answer.{given, refused}
use Rattle.gb_names.specs.declared.bindings.Binding.{Binding}
use Rattle.gb_names.specs.Environment.{Name, Environment, in_judgments, reading, relational}
use Rattle.gb_names.specs.Modules.{Reading, applied, complete, with_modules}
use Rattle.gb_names.specs.Names.{dotted, no_declared, no_procedure_of}

-- a module all of whose parameters are given: it has none
abbrev pub whole : List Param → Module → Place → Answer Module
whole [] m p = given m
whole (q ∷ qs) m p = refused Argument p

-- the module that an entry is; no entry is one, for this reason
abbrev pub module_in : Option Entry → Why → Place → Answer Module
module_in (Some (entry.Module m)) w p = whole m.params m p
module_in (Some e) w p = refused Argument p
module_in None w p = refused w p

-- the declared module of a name, or what the name means inside of a module
abbrev pub declared_module : Option Module → Declarations → Name → Place → Answer Module
declared_module inside ds x p = module_in (entry_of ds x) (no_declared inside ds x) p

-- a procedure as a text names it: by its module and its own word
abbrev pub Path : Type 0
Path = Name × Node

-- The last word names a procedure, those before it its module.
abbrev pub procedure_path : Name → Node → List Node → Path
procedure_path m f [] = (m, f)
procedure_path m f (x ∷ xs) = procedure_path ((m ++ codes ".") ++ text_of f) x xs

-- a procedure that is named: as a term names it, and its types
abbrev pub Named : Type 0
Named = ProcRef × ProcedureType

-- the same of what the code holds
abbrev pub named_seen : Held → Named
named_seen f = (f.reference, typed f.ty)

-- the procedure of this name that a module has, all of whose parameters are given
unfoldable pub procedure_of_module : Environment → Known → Node → Place → Answer Named
procedure_of_module at k f p = do
  m ← complete k p
  t ← given_or (found k.1.procedures (text_of f)) (no_procedure_of at m (text_of f)) (place_of f)
  given (record { «module» = m; name = text_of f }, t)

-- the procedure of a module of this name with these arguments
unfoldable pub procedure_at : Environment → List Binding → Path → List (Node × Reading) → Place → Answer Named
procedure_at at bound f ts p = do
  k ← applied f.0 p ts at bound
  procedure_of_module at k f.1 p

-- .. of a path with these arguments in brackets behind it, by its first word and the others
abbrev pub functor_procedure : Environment → List Binding → Node → List Node → List Node → Node → Place → Answer Named
functor_procedure at bound x xs ms f p = procedure_at at bound (dotted (text_of x) xs, f) (with_modules ms) p

-- these parts are the arguments of a functor, and the name of a procedure
abbrev pub of_functor : Environment → List Binding → Node → List Node → List Node → Place → Answer Named
of_functor at bound x xs (ms ∷ f ∷ []) p = functor_procedure at bound x xs (parts_of ms) f p
of_functor at bound x xs _ p = not_built p

-- the procedure that these parts name behind their first word, with arguments for its module or without
abbrev pub procedure_by : Environment → List Binding → Head → Node → List Node → Place → Answer Named
procedure_by at bound head.ProcedurePath x (y ∷ ys) p = procedure_at at bound (procedure_path (text_of x) y ys) [] p
procedure_by at bound head.FunctorPath x ps p = of_functor at bound x (take (length ps - 2) ps) (drop (length ps - 2) ps) p
procedure_by at bound _ x ps p = not_built p

-- the same by all parts
abbrev pub named_procedure : Environment → List Binding → Head → List Node → Place → Answer Named
named_procedure at bound h (x ∷ ps) p = procedure_by at bound h x ps p
named_procedure at bound h [] p = not_built p

-- the parts of a call in front of its arguments, which are those of a path
abbrev pub in_front : List Node → List Node
in_front ps = take (length ps - 1) ps

-- the procedure that a call names, by the first word and the other parts of the call
abbrev pub procedure_called : Environment → List Binding → Head → Node → List Node → Place → Answer Named
procedure_called at bound head.Call x ps p = procedure_by at bound head.ProcedurePath x (in_front ps) p
procedure_called at bound head.FunctorCall x ps p = procedure_by at bound head.FunctorPath x (in_front ps) p
procedure_called at bound _ x ps p = not_built p

abbrev pub called : Environment → List Binding → Head → List Node → Place → Answer Named
called at bound h (x ∷ ps) p = procedure_called at bound h x ps p
called at bound h [] p = not_built p

-- A judgment at this place is about procedures; those about bodies aren't built yet.
abbrev pub about_procedure : Head → Place → Answer (Unit {0})
about_procedure head.Block p = not_built p
about_procedure _ p = given tt

-- the procedure that a judgment at this place is about
abbrev pub one_procedure : Environment → List Binding → Node → Place → Answer Named
one_procedure at bound f p = do
  _ ← about_procedure (head_of f) p
  named_procedure at bound (head_of f) (parts_of f) (place_of f)

-- the two procedures that a judgment at this place is about
abbrev pub both_procedures : Environment → List Binding → Node → Node → Place → Answer (Named × Named)
both_procedures at bound f g p = do
  _ ← about_procedure (head_of f) p
  _ ← about_procedure (head_of g) p
  m ← named_procedure at bound (head_of f) (parts_of f) (place_of f)
  n ← named_procedure at bound (head_of g) (parts_of g) (place_of g)
  given (m, n)

-- what a precondition reads: the parameters of both procedures
abbrev pub before : Environment → ProcedureType → ProcedureType → Environment
before at f g = reading (in_judgments at.memories) (relational at.declared at.sequent f.params g.params)

-- the result of a procedure, under the name `res`
abbrev pub result_of : ProcedureType → List TypedName
result_of f = record { name = codes "res"; ty = f.result } ∷ []

-- what a postcondition reads: the results of both procedures
abbrev pub after : Environment → ProcedureType → ProcedureType → Environment
after at f g = reading (in_judgments at.memories) (relational at.declared at.sequent (result_of f) (result_of g))

-- two procedures are equivalent from a precondition to a postcondition
abbrev pub equivalent : ProcRef → ProcRef → Term → Term → Term
equivalent f g pre post = node (Equiv (procedure f) (procedure g)) (pre ∷ post ∷ []) bool_ty
