-- The typing of modules.
use Rattle.std.specs.Prelude.{ℕ, List, [], ◌∷◌, ◌++◌, map, Option, Some, None, slice_get}
use Rattle.gb_core.specs.declared.place.Place.{Place}
use Rattle.gb_core.specs.declared.refusal.Why.TheVariants.{TooMany}
use Rattle.gb_terms.specs.declared.decl.Module.{Module}
use Rattle.gb_goal.specs.declared.sequent.Sequent.{Sequent}
use Rattle.gb_goal.specs.Scope.{Declarations}
use Rattle.gb_script.specs.declared.head.Head.{Head}
use Rattle.gb_script.specs.declared.head.Head.TheVariants as head
use Rattle.gb_script.specs.declared.tree.Node.{Node}
use Rattle.gb_script.specs.Tree.{head_of, text_of, parts_of, place_of}
use Rattle.gb_goal.specs.Answers.{Answer, ◌>>=◌, not_built}
use Rattle.gb_goal.specs.Answers.Answer.{given, refused}
use Rattle.gb_elab_prog.specs.Fresh.{free}
use Rattle.gb_elab_prog.specs.Contexts.{nothing_around, taken}
use Rattle.gb_names.specs.Binders.{of_type}
use Rattle.gb_names.specs.Types.{type_of}
use Rattle.gb_elab_prog.specs.Procedures.{procedure_by}
use Rattle.gb_elab_stmt.specs.Statements.{places}
use Rattle.gb_elab_prog.specs.Bound.{parameter_name}
use Rattle.gb_elab_prog.specs.ModuleTypes.{module_type_at, param}
use Rattle.gb_elab_prog.specs.Stated.{Stated, meets_stated, stated}
use Rattle.gb_elab_prog.specs.declared.stated.Where.{Where}
use Rattle.gb_elab_prog.specs.declared.stated.Where.TheVariants.{Front, Behind}

-- the names of the members of a module
abbrev pub member_names : Module → List (List ℕ)
member_names m = map (λ v. v.name) m.globals ++ map (λ p. p.name) m.procs

-- a line of globals, whose names no member of the module has
abbrev pub with_globals : Declarations → Module → List Node → Node → Answer Module
with_globals ds m xs t = do
  _ ← taken (member_names m) xs
  u ← type_of ds t
  given (record m { globals = m.globals ++ of_type xs u })

-- a procedure, which may name the members before it
abbrev pub with_procedure : Declarations → Sequent → Module → Head → List Node → Place → Answer Module
with_procedure ds s m h ps p = do
  q ← procedure_by ds s m h ps p
  given (record m { procs = m.procs ++ q ∷ [] })

-- a module with one member more
abbrev pub with_member : Declarations → Sequent → Module → Head → List Node → Place → Answer Module
with_member ds s m head.Globals (xs ∷ t ∷ []) p = with_globals ds m (parts_of xs) t
with_member ds s m h ps p = with_procedure ds s m h ps p

-- .. with several, in the order of the text
unfoldable pub with_members : Declarations → Sequent → Module → List Node → Answer Module
with_members ds s m [] = given m
with_members ds s m (t ∷ ts) = with_member ds s m (head_of t) (parts_of t) (place_of t) >>= λ n. with_members ds s n ts

-- a body of at most 512 statements, those in others counted, refused at the first one too many
abbrev pub within_limit : Option Place → Answer (Unit {0})
within_limit None = given tt
within_limit (Some p) = refused (TooMany 512) p

abbrev pub short : Head → List Node → Answer (Unit {0})
short head.Procedure (x ∷ fs ∷ r ∷ ls ∷ ss ∷ v ∷ []) = within_limit (slice_get (places ss) 512)
short _ _ = given tt

abbrev pub all_short : List Node → Answer (Unit {0})
all_short [] = given tt
all_short (t ∷ ts) = short (head_of t) (parts_of t) >>= λ _. all_short ts

-- a module of this name, without parameters and members
abbrev pub empty_module : List ℕ → Module
empty_module x = record { name = x; params = []; globals = []; procs = [] }

-- a module with one parameter more: it may have any module type
abbrev pub typed_parameter : Declarations → Module → Node → Node → Answer Module
typed_parameter ds m x t = do
  _ ← parameter_name ds (Some m.name) m.params x
  _ ← module_type_at ds t
  given (record m { params = m.params ++ param x t ∷ [] })

abbrev pub with_parameter : Declarations → Module → Head → List Node → Place → Answer Module
with_parameter ds m head.ModuleParameter (x ∷ t ∷ []) p = typed_parameter ds m x t
with_parameter ds m _ _ p = not_built p

-- .. with several, in the order of the text
abbrev pub with_parameters : Declarations → Module → List Node → Answer Module
with_parameters ds m [] = given m
with_parameters ds m (t ∷ ts) = with_parameter ds m (head_of t) (parts_of t) (place_of t) >>= λ n. with_parameters ds n ts

-- A module with its members: it meets the module type that it states, which is tested behind all types, and sizes behind that.
unfoldable pub with_body : Declarations → Module → Where → Option Stated → List Node → Answer Module
with_body ds m w o ts = do
  made ← with_members ds nothing_around m ts
  _ ← meets_stated ds w made o
  _ ← all_short ts
  given made

-- a module of this name with these parameters, behind which its type may stand
unfoldable pub plain : Declarations → Node → List Node → List Node → List Node → Answer Module
plain ds x qs u ts = do
  _ ← free ds x
  m ← with_parameters ds (empty_module (text_of x)) qs
  o ← stated ds u
  with_body ds m Behind o ts

-- .. whose type stands in front of them
unfoldable pub ascribed : Declarations → Node → Node → List Node → List Node → Answer Module
ascribed ds x t qs ts = do
  _ ← free ds x
  o ← stated ds (t ∷ [])
  m ← with_parameters ds (empty_module (text_of x)) qs
  with_body ds m Front o ts

-- a module by its head and its parts; the last clause takes what isn't built, with trees of another shape, of which the reader builds none,
-- since each of its trees is well-sorted
abbrev pub module_by : Declarations → Head → List Node → Place → Answer Module
module_by ds head.Module (x ∷ qs ∷ m ∷ ts ∷ []) p = plain ds x (parts_of qs) (parts_of m) (parts_of ts)
module_by ds head.AscribedModule (x ∷ t ∷ qs ∷ ts ∷ []) p = ascribed ds x t (parts_of qs) (parts_of ts)
module_by ds _ _ p = not_built p

-- the typed tree of a module
abbrev pub module_given : Declarations → Node → Answer Module
module_given ds t = module_by ds (head_of t) (parts_of t) (place_of t)
