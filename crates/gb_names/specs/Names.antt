-- What a name means where it stands.
use Rattle.std.specs.Prelude.{ℕ, suc, nat_lt, Bool, true, false, ◌||◌, if◌then◌else◌, List, [], ◌∷◌, ◌++◌, length, Option, Some, None, is_some, find, codes, bytes_eq}
use Rattle.std.specs.Option.{option_map, option_map_or}
use Rattle.std.specs.List.{list_any}
use Rattle.std.specs.Path.{dot, rsplit_once}
use Rattle.gb_core.specs.declared.place.Place.{Place}
use Rattle.gb_core.specs.declared.refusal.Why.{Why}
use Rattle.gb_core.specs.declared.refusal.Why.TheVariants.{UnknownName, Argument, UnprovedLoop}
use Rattle.gb_core.specs.declared.ty.Ty.TheVariants.{Unit as unit_ty}
use Rattle.gb_core.specs.declared.value.Value.TheVariants.{Num}
use Rattle.gb_core.specs.declared.ty.Ty.{Ty}
use Rattle.gb_core.specs.declared.var.Var.{Var}
use Rattle.gb_core.specs.declared.var.Var.TheVariants.{Local, Global}
use Rattle.gb_terms.specs.declared.decl.Module.{Module}
use Rattle.gb_terms.specs.declared.decl.Param.{Param}
use Rattle.gb_terms.specs.declared.decl.TypedName.{TypedName}
use Rattle.gb_terms.specs.declared.module.Mexp.{Mexp}
use Rattle.gb_terms.specs.declared.op.Side.{Side}
use Rattle.gb_terms.specs.declared.op.Side.TheVariants as side
use Rattle.gb_terms.specs.declared.op.Read.TheVariants as read
use Rattle.gb_terms.specs.declared.term.Term.{Term}
use Rattle.gb_terms.specs.declared.term.Head.TheVariants.{Lit, Read, Bound}
use Rattle.gb_terms.specs.Make.{node}
use Rattle.gb_goal.specs.declared.sequent.Sequent.{Sequent}
use Rattle.gb_goal.specs.declared.scope.Constant.{Constant}
use Rattle.gb_goal.specs.declared.scope.OperatorType.{OperatorType}
use Rattle.gb_goal.specs.Scope.{Declarations, constant_named, entry_of, module_of, operator_named, path_of}
use Rattle.gb_goal.specs.Instances.{name_of}
use Rattle.gb_goal.specs.Interfaces.{Interface, found, interface_of}
use Rattle.gb_goal.specs.declared.scope.ProcName.{ProcName}
use Rattle.gb_ended.specs.Ended.{first_unproved}
use Rattle.gb_script.specs.declared.head.Head.{Head}
use Rattle.gb_script.specs.declared.head.Head.TheVariants as head
use Rattle.gb_script.specs.declared.tree.Node.{Node}
use Rattle.gb_script.specs.Tree.{head_of, text_of, parts_of, place_of}
use Rattle.gb_names.specs.declared.setting.Language.{Language}
use Rattle.gb_names.specs.declared.setting.Language.TheVariants.{Formula, Function}
use Rattle.gb_names.specs.declared.setting.Variables.{Variables}
use Rattle.gb_names.specs.declared.setting.Variables.TheVariants.{Own}
use Rattle.gb_names.specs.declared.names.Known.{Known}
use Rattle.gb_names.specs.declared.names.Known.TheVariants as known
use Rattle.gb_goal.specs.Answers.{Answer, ◌>>=◌, not_built}
use Rattle.gb_names.specs.Wanted.{counted}
use Rattle.gb_goal.specs.Answers.Answer.{given, refused}
use Rattle.gb_names.specs.declared.bindings.Binding.{Binding}
use Rattle.gb_names.specs.declared.bindings.Kind.{Kind}
use Rattle.gb_names.specs.declared.bindings.Kind.TheVariants.{Value, Memory}
use Rattle.gb_names.specs.Bindings.{binders_inside, innermost}
use Rattle.gb_names.specs.Locals.{locals_in}
use Rattle.gb_names.specs.Environment.{Name, Environment, may_read, own, on_side}

-- a name with further words behind it, a dot before each
abbrev pub dotted : Name → List Node → Name
dotted x [] = x
dotted x (y ∷ ys) = dotted ((x ++ codes ".") ++ text_of y) ys

-- the name that some words are
abbrev pub path : List Node → Name
path [] = []
path (x ∷ xs) = dotted (text_of x) xs

-- the name that a path of one word or of several spells
abbrev pub spelled : Head → Name → List Node → Name
spelled head.Path x ps = path ps
spelled h x ps = x

abbrev pub spelled_by : Node → Name
spelled_by t = spelled (head_of t) (text_of t) (parts_of t)

-- the first thing of this name
abbrev pub first_named : List TypedName → Name → Option TypedName
first_named vs x = find (λ v. bytes_eq v.name x) vs

-- how many things stand before the first of this name
abbrev pub number_before : List TypedName → Name → ℕ
number_before [] x = 0
number_before (v ∷ vs) x = if bytes_eq v.name x then 0 else suc (number_before vs x)

-- the one value of `unit`
abbrev pub unit : Term
unit = node (Lit (Num 0)) [] unit_ty

-- the built-in thing of a name
unfoldable pub built_in : Name → Option Known
built_in x =
    if bytes_eq x (codes "true") then Some known.True
    else if bytes_eq x (codes "false") then Some known.False
    else if bytes_eq x (codes "tt") then Some known.Unit
    else if bytes_eq x (codes "None") then Some known.None
    else if bytes_eq x (codes "empty") then Some known.Empty
    else if bytes_eq x (codes "Some") then Some known.Some
    else if bytes_eq x (codes "oget") then Some known.Oget
    else if bytes_eq x (codes "dunit") then Some known.Dunit
    else if bytes_eq x (codes "dmap") then Some known.Dmap
    else if bytes_eq x (codes "drestrict") then Some known.Drestrict
    else if bytes_eq x (codes "mu") then Some known.Mu
    else if bytes_eq x (codes "mu1") then Some known.Mu1
    else if bytes_eq x (codes "sum") then Some known.Sum else None

-- a variable that is bound below so many other binders
abbrev pub bound_variable : ℕ → Ty → Answer Term
bound_variable n t = do
  i ← counted n
  given (node (Bound i) [] t)

-- what is bound there as a value, which a memory is none
abbrev pub bound_thing : ℕ → Place → Kind → Answer Term
bound_thing n p (Value t) = bound_variable n t
bound_thing n p Memory = refused Argument p

-- the logical variable at this place of the context
abbrev pub logical_variable : ℕ → TypedName → Answer Term
logical_variable n v = do
  i ← counted n
  given (node (Read (read.Logical i)) [] v.ty)

-- a read of a program variable through a memory
abbrev pub program_variable : Side → TypedName → Term
program_variable s v = node (Read (read.Program (Local v.name) s)) [] v.ty

-- a memory, an abstract module or a hypothesis of the context has this name
abbrev pub names_no_value : Sequent → Name → Bool
names_no_value s x =
    list_any (λ m. bytes_eq m x) s.memories
    || list_any (λ m. bytes_eq m.name x) s.modules
    || list_any (λ h. bytes_eq h.name x) s.hyps

-- a global: the name of its module, and the variable there
abbrev pub ModuleVariable : Type 0
ModuleVariable = Name × TypedName

-- the global of a module that has this name
abbrev pub global_in : Name → Option Module → Name → Option ModuleVariable
global_in n None x = None
global_in n (Some m) x = option_map (λ v. (n, v)) (first_named m.globals x)

-- the module of this name: the one around, or a declared one
abbrev pub module_if : Option Module → Declarations → Name → Option Module
module_if None ds n = module_of ds n
module_if (Some m) ds n = if bytes_eq n m.name then Some m else module_of ds n

-- a global of the module around, by its own name
abbrev pub own_global : Option Module → Name → Option ModuleVariable
own_global None x = None
own_global (Some m) x = global_in m.name (Some m) x

-- a variable of one of two programs has this name
abbrev pub is_on_side : Environment → Side → Name → Bool
is_on_side at s x = option_map_or (λ vs. is_some (first_named vs x)) (on_side at s) false

-- .. of either of them, which is read with its side alone
abbrev pub needs_side : Environment → Name → Bool
needs_side at x = is_on_side at side.Left x || is_on_side at side.Right x

-- what is bound in the form, or a logical variable of the context, has this name
abbrev pub is_variable : Environment → List Binding → Name → Bool
is_variable at bound x = is_some (innermost bound x) || is_some (first_named at.sequent.logical x)

-- a thing that is nearer than modules has this name
abbrev pub hidden : Environment → List Binding → Name → Bool
hidden at bound x =
    is_variable at bound x
    || (is_some (first_named (own at) x) || (needs_side at x || (names_no_value at.sequent x || is_some (own_global at.inside x))))

-- a thing that is nearer than modules has the name of the module in this path
unfoldable pub module_hidden : Environment → List Binding → Name → Bool
module_hidden at bound x = option_map_or (λ w. hidden at bound w.0) (rsplit_once dot x) false

-- the global of the module around, or of a declared one, that has these two names; nothing nearer has that of its module
abbrev pub global_of : Environment → List Binding → Name × Name → Option ModuleVariable
global_of at bound w = if hidden at bound w.0 then None else global_in w.0 (module_if at.inside at.declared w.0) w.1

-- A global is named by its module's name and its own, with a dot between, and inside of its module by its own name alone.
unfoldable pub global_at : Environment → List Binding → Name → Option ModuleVariable
global_at at bound x = option_map_or (global_of at bound) (rsplit_once dot x) (own_global at.inside x)

-- one of these parameters has this name
abbrev pub is_parameter : List Param → Name → Bool
is_parameter qs x = list_any (λ q. bytes_eq q.name x) qs

-- a parameter of the module around has this name
abbrev pub names_parameter : Option Module → Name → Bool
names_parameter None x = false
names_parameter (Some m) x = is_parameter m.params x

-- a module has a global of this name
abbrev pub has_global : Option Module → Name → Bool
has_global None x = false
has_global (Some m) x = is_some (first_named m.globals x)

-- .. or a procedure
abbrev pub has_procedure : Option Interface → Name → Bool
has_procedure None x = false
has_procedure (Some i) x = is_some (found i.procedures x)

-- a global or a procedure of the module around, or of a declared one, or a procedure of a parameter or of an abstract module has this name
unfoldable pub names_member : Option Module → Declarations → Name → Bool
names_member inside ds x = option_map_or (λ w. has_global (module_if inside ds w.0) w.1 || has_procedure (interface_of ds inside w.0) w.1) (rsplit_once dot x) false

-- why a name means nothing that is declared and of the kind that is asked for: another thing has it, or nothing
abbrev pub no_declared : Option Module → Declarations → Name → Why
no_declared inside ds x =
    if names_parameter inside x || is_some (entry_of ds x) || is_some (built_in x) || names_member inside ds x then Argument else UnknownName x

-- why a name is that of no procedure of a module: a global of it has the name, or nothing
abbrev pub no_procedure : Module → Name → Why
no_procedure m x = if is_some (first_named m.globals x) then Argument else UnknownName x

-- .. of a module that has globals, if it is there
abbrev pub no_procedure_if : Option Module → Name → Why
no_procedure_if None x = UnknownName x
no_procedure_if (Some m) x = no_procedure m x

abbrev pub no_procedure_of : Environment → Mexp → Name → Why
no_procedure_of at m x = no_procedure_if (module_if at.inside at.declared (name_of m)) x

-- a thing that is no variable has this name, or what has that of its module is none
abbrev pub names_other : Environment → List Binding → Name → Bool
names_other at bound x =
    names_parameter at.inside x
    || names_no_value at.sequent x
    || is_some (entry_of at.declared x)
    || module_hidden at bound x
    || names_member at.inside at.declared x

-- a name that no variable has
abbrev pub unbound : Environment → List Binding → Name → Place → Answer Term
unbound at bound x p = if names_other at bound x then refused Argument p else refused (UnknownName x) p

-- a read of a global through a memory
abbrev pub global_variable : Side → ModuleVariable → Term
global_variable s g = node (Read (read.Program (Global g.0 g.1.name) s)) [] g.1.ty

-- a program with a memory of its own is around
abbrev pub has_own : Variables → Bool
has_own (Own vs) = true
has_own _ = false

-- whether named memories may be read
abbrev pub has_memories : Language → Bool
has_memories Formula = true
has_memories Function = true
has_memories _ = false

-- the refusal of a procedure whose loops aren't proved
abbrev pub unless_unproved : Option ProcName → Place → Answer (Unit {0})
unless_unproved None p = given tt
unless_unproved (Some f) p = refused (UnprovedLoop (path_of f)) p

-- A form of a proof names only modules that are ended; programs name any.
unfoldable pub may_name : Environment → Name → Place → Answer (Unit {0})
may_name at n p = if has_memories at.language then unless_unproved (first_unproved at.declared n) p else given tt

-- a global in a memory
abbrev pub read_global : Environment → Side → Place → ModuleVariable → Answer Term
read_global at s p g = do
  _ ← may_name at g.0 p
  given (global_variable s g)

-- a global by its name alone, which the memory of the program around has
abbrev pub unsided : Environment → Place → ModuleVariable → Answer Term
unsided at p g = do
  _ ← may_name at g.0 p
  if has_own at.variables then given (global_variable side.Own g) else refused Argument p

-- why a name means no variable of a program: another thing has it, or nothing
abbrev pub no_variable : Environment → List Binding → Name → Why
no_variable at bound x =
    if is_some (first_named at.sequent.logical x) || is_some (built_in x) || names_other at bound x then Argument else UnknownName x

-- the name of a logical variable of the context, or of a global
abbrev pub named_around : Environment → List Binding → Name → Place → Answer Term
named_around at bound x p =
    option_map_or (logical_variable (number_before at.sequent.logical x))
    (first_named at.sequent.logical x)
    (option_map_or (unsided at p) (global_at at bound x) (unbound at bound x p))

-- A name without a side is that of a thing that is bound in the form, the innermost first, of a variable of the
-- program around, of a logical variable of the context, or of a global.
unfoldable pub named : Environment → List Binding → Name → Place → Answer Term
named at bound x p =
    option_map_or (λ b. bound_thing (binders_inside bound x) p b.kind)
    (innermost bound x)
    (option_map_or (λ v. given (program_variable side.Own v))
    (first_named (own at) x)
    (if needs_side at x then refused (no_variable at bound x) p else named_around at bound x p))

-- a thing that is nearer than modules has this name, or a parameter of the module around, which is nearer than the declarations
abbrev pub covered : Environment → List Binding → Name → Bool
covered at bound x = names_parameter at.inside x || hidden at bound x

-- the built-in thing that a name means, where nothing else has it
abbrev pub known_at : Environment → List Binding → Name → Option Known
known_at at bound x = if covered at bound x || is_some (entry_of at.declared x) then None else built_in x

-- the constant of an enumeration that a name means
abbrev pub constant_at : Environment → List Binding → Name → Option Constant
constant_at at bound x = if covered at bound x then None else constant_named at.declared x

-- the operator of the script that a name means
abbrev pub operator_at : Environment → List Binding → Name → Option OperatorType
operator_at at bound x = if covered at bound x then None else operator_named at.declared x

-- a variable that a statement writes, with its type
abbrev pub Target : Type 0
Target = Var × Ty

abbrev pub global_target : ModuleVariable → Answer Target
global_target g = given (Global g.0 g.1.name, g.1.ty)

-- the variable of the program around, or the global, that has this name
abbrev pub target : Environment → Name → Place → Answer Target
target at x p =
    option_map_or (λ v. given (Local v.name, v.ty))
    (first_named (own at) x)
    (option_map_or global_target (global_at at [] x) (refused (no_variable at [] x) p))

-- one of these variables in a memory, or a global there; what is bound stands in none
abbrev pub variable_on : Environment → List Binding → Name → Side → Place → List TypedName → Answer Term
variable_on at bound x s p vs =
    if is_some (innermost bound x) then refused Argument p
    else option_map_or (λ v. given (program_variable s v))
    (first_named vs x)
    (option_map_or (read_global at s p) (global_at at bound x) (refused (no_variable at bound x) p))

-- a name with a side
unfoldable pub sided : Environment → List Binding → Name → Side → Place → Answer Term
sided at bound x s p = option_map_or (variable_on at bound x s p) (on_side at s) (refused Argument p)

-- how many names stand before the first one that is this
abbrev pub names_before : List Name → Name → ℕ
names_before [] x = 0
names_before (m ∷ ms) x = if bytes_eq m x then 0 else suc (names_before ms x)

-- a name that no memory has: another thing has it, or nothing
abbrev pub no_memory : Environment → List Binding → Name → Place → Answer Side
no_memory at bound x p =
    if is_some (known_at at bound x) then refused Argument p
    else do
      _ ← named at bound x p
      refused Argument p

-- the memory of the context at a place
abbrev pub memory : ℕ → Answer Side
memory n = do
  i ← counted n
  given (side.Memory i)

-- what is bound below so many other binders as a memory, which a value is none
abbrev pub bound_memory : ℕ → Place → Kind → Answer Side
bound_memory n p (Value t) = refused Argument p
bound_memory n p Memory = do
  i ← counted n
  given (side.Bound i)

-- the memory of the context that has a name
abbrev pub context_memory : Environment → List Binding → Name → Place → Answer Side
context_memory at bound x p =
    if nat_lt (names_before at.sequent.memories x) (length at.sequent.memories) then memory (names_before at.sequent.memories x)
    else no_memory at bound x p

-- the memory of a name: what is bound in the form, the innermost first, hides those of the context
abbrev pub memory_at : Environment → List Binding → Name → Place → Answer Side
memory_at at bound x p = option_map_or (λ b. bound_memory (binders_inside bound x) p b.kind) (innermost bound x) (context_memory at bound x p)

-- a local or a global in a named memory
unfoldable pub in_memory : Environment → List Binding → Name → Node → Place → Answer Term
in_memory at bound x m p = do
  s ← memory_at at bound (text_of m) (place_of m)
  if may_read at.memories (text_of m) then variable_on at bound x s p (locals_in at.sequent s x) else refused Argument p

-- a name in a named memory, which no program has
abbrev pub remembered : Environment → List Binding → Name → Node → Place → Answer Term
remembered at bound x m p = if has_memories at.language then in_memory at bound x m p else refused Argument p

-- the side of a number
abbrev pub side_of : Name → Place → Answer Side
side_of x p =
    if bytes_eq x (codes "1") then given side.Left
    else if bytes_eq x (codes "2") then given side.Right else not_built p

-- a name with what stands behind it in braces: the number of a side, or the name of a memory
abbrev pub beside : Head → Node → Environment → List Binding → Name → Place → Answer Term
beside head.Number s at bound x p = do
  i ← side_of (text_of s) p
  sided at bound x i p
beside _ m at bound x p = remembered at bound x m p
