-- The typing of procedures.
use Rattle.std.specs.Prelude.{ℕ, Bool, false, not, ◌||◌, if◌then◌else◌, List, [], ◌∷◌, ◌++◌, Some, bytes_eq}
use Rattle.std.specs.List.{list_any}
use Rattle.gb_core.specs.declared.place.Place.{Place}
use Rattle.gb_core.specs.declared.refusal.Why.TheVariants.{DoubleName, TypeMismatch}
use Rattle.gb_core.specs.declared.ty.Ty.{Ty}
use Rattle.gb_core.specs.declared.ty.Ty.TheVariants.{Unit as unit_ty}
use Rattle.gb_core.specs.SameTypes.{ty_eq}
use Rattle.gb_terms.specs.declared.decl.Module.{Module}
use Rattle.gb_terms.specs.declared.decl.Proc.{Proc}
use Rattle.gb_terms.specs.declared.decl.TypedName.{TypedName}
use Rattle.gb_terms.specs.declared.term.Term.{Term}
use Rattle.gb_terms.specs.declared.term.Cmd.{roll-Cmd}
use Rattle.gb_goal.specs.declared.sequent.Sequent.{Sequent}
use Rattle.gb_goal.specs.Scope.{Declarations}
use Rattle.gb_script.specs.declared.head.Head.{Head}
use Rattle.gb_script.specs.declared.head.Head.TheVariants as head
use Rattle.gb_script.specs.declared.tree.Node.{Node}
use Rattle.gb_script.specs.Tree.{head_of, text_of, parts_of, place_of}
use Rattle.gb_goal.specs.Answers.{Answer, ◌>>=◌, not_built}
use Rattle.gb_goal.specs.Answers.Answer.{given, refused}
use Rattle.gb_names.specs.Environment.{Environment, program}
use Rattle.gb_elab.specs.Forms.{elaborated}
use Rattle.gb_names.specs.Names.{unit}
use Rattle.gb_names.specs.Types.{type_of}
use Rattle.gb_elab_stmt.specs.Statements.{all_stated, with_statings}

-- The definitions by head and parts have a last clause for what isn't built. Trees of another shape fall under it too, of
-- which the reader builds none, since each of its trees is well-sorted.

-- a global or a procedure of a module has this name
abbrev pub is_member : Module → List ℕ → Bool
is_member m n = list_any (λ v. bytes_eq v.name n) m.globals || list_any (λ p. bytes_eq p.name n) m.procs

-- a name that no member of the module has
abbrev pub untaken : Module → Node → Answer (Unit {0})
untaken m x = if is_member m (text_of x) then refused (DoubleName (text_of x)) (place_of x) else given tt

-- the type of a procedure's result; no type stands for `unit`
abbrev pub result_type : Declarations → List Node → Answer Ty
result_type ds [] = given unit_ty
result_type ds (t ∷ ts) = type_of ds t

-- a value of this type is to be returned, and none is
abbrev pub lacks_value : List Node → Ty → Bool
lacks_value [] t = not (ty_eq t unit_ty)
lacks_value (v ∷ vs) t = false

-- what a procedure returns: the value of `unit` where it has no `return`
abbrev pub value : Environment → List Node → Ty → Answer Term
value at [] t = given unit
value at (v ∷ vs) t = elaborated v at [] (Some t)

-- a name that none of these variables has
abbrev pub undeclared : List TypedName → Node → Answer (Unit {0})
undeclared vs x = if list_any (λ v. bytes_eq v.name (text_of x)) vs then refused (DoubleName (text_of x)) (place_of x) else given tt

-- a parameter beside those before it
abbrev pub formal : Declarations → List TypedName → Head → List Node → Place → Answer (List TypedName)
formal ds vs head.Formal (x ∷ t ∷ []) p = do
  _ ← undeclared vs x
  u ← type_of ds t
  given (vs ++ record { name = text_of x; ty = u } ∷ [])
formal ds vs _ _ p = not_built p

-- parameters, in order
abbrev pub formals : Declarations → List TypedName → List Node → Answer (List TypedName)
formals ds vs [] = given vs
formals ds vs (f ∷ fs) = formal ds vs (head_of f) (parts_of f) (place_of f) >>= λ ws. formals ds ws fs

-- Names of one type beside parameters and locals that are declared: none is declared twice.
abbrev pub declared : List TypedName → List TypedName → List Node → Ty → Answer (List TypedName)
declared ps vs [] t = given vs
declared ps vs (x ∷ xs) t = do
  _ ← undeclared ps x
  _ ← undeclared vs x
  declared ps (vs ++ record { name = text_of x; ty = t } ∷ []) xs t

-- a line of locals beside what is declared
abbrev pub variables : Declarations → List TypedName → List TypedName → Head → List Node → Place → Answer (List TypedName)
variables ds ps vs head.Variables (xs ∷ t ∷ []) p = type_of ds t >>= declared ps vs (parts_of xs)
variables ds ps vs _ _ p = not_built p

-- lines of locals, in order
abbrev pub locals : Declarations → List TypedName → List TypedName → List Node → Answer (List TypedName)
locals ds ps vs [] = given vs
locals ds ps vs (b ∷ bs) = variables ds ps vs (head_of b) (parts_of b) (place_of b) >>= λ ws. locals ds ps ws bs

-- a procedure of this name, these parameters and this result, from its locals, its statements and its value, in the order of the text
unfoldable pub with_result : Declarations → Sequent → Module → Node → List TypedName → List Node → List Node → List Node → Ty → Answer Proc
with_result ds s m x ps ls ss r t = do
  vs ← locals ds ps [] ls
  is ← all_stated (with_statings ss) (program ds m s (ps ++ vs))
  v ← value (program ds m s (ps ++ vs)) r t
  given (record { name = text_of x; params = ps; result = t; locals = vs; body = roll-Cmd (record { list = is }); value = v })

-- the result of a procedure of this name: where it is no `unit`, a value is to be returned
abbrev pub result_of : Declarations → Node → List Node → List Node → Answer Ty
result_of ds x r v = result_type ds r >>= λ t. if lacks_value v t then refused TypeMismatch (place_of x) else given t

-- a procedure of a module beside the members before it, by its head and its parts
abbrev pub procedure_by : Declarations → Sequent → Module → Head → List Node → Place → Answer Proc
procedure_by ds s m head.Procedure (x ∷ fs ∷ r ∷ ls ∷ ss ∷ v ∷ []) p = do
  _ ← untaken m x
  ps ← formals ds [] (parts_of fs)
  t ← result_of ds x (parts_of r) (parts_of v)
  with_result ds s m x ps (parts_of ls) (parts_of ss) (parts_of v) t
procedure_by ds s m _ _ p = not_built p
