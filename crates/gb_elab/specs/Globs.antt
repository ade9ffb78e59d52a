-- All globals of a module, in equations of two memories.
use Rattle.std.specs.Prelude.{if◌then◌else◌, Bool, false, true, List, [], ◌∷◌, map, Option, Some, None, is_some, bytes_eq, codes}
use Rattle.std.specs.Option.{option_copied, option_map}
use Rattle.gb_core.specs.declared.place.Place.{Place}
use Rattle.gb_core.specs.declared.refusal.Why.TheVariants.{Argument, TypeMismatch}
use Rattle.gb_core.specs.declared.ty.Ty.{Ty}
use Rattle.gb_core.specs.declared.ty.Ty.TheVariants as ty
use Rattle.gb_core.specs.declared.ty.Ty.TheVariants.{Bool as bool_ty}
use Rattle.gb_core.specs.declared.var.Var.{Var}
use Rattle.gb_core.specs.declared.var.Var.TheVariants.{Global, Glob}
use Rattle.gb_terms.specs.declared.module.Mexp.{Mexp}
use Rattle.gb_terms.specs.declared.module.Mexp.TheVariants as mexp
use Rattle.gb_terms.specs.declared.op.Op.TheVariants as op
use Rattle.gb_terms.specs.declared.op.Side.{Side}
use Rattle.gb_terms.specs.declared.op.Side.TheVariants as side
use Rattle.gb_terms.specs.declared.op.Read.TheVariants.{Program}
use Rattle.gb_terms.specs.declared.term.Head.TheVariants.{Read}
use Rattle.gb_terms.specs.declared.term.Term.{Term}
use Rattle.gb_terms.specs.Make.{applied, node, truth_literal}
use Rattle.gb_terms.specs.SameModules.{mexp_eq}
use Rattle.gb_script.specs.declared.head.Head.{Head}
use Rattle.gb_script.specs.declared.head.Head.TheVariants as head
use Rattle.gb_script.specs.declared.tree.Node.{Node, para-Node}
use Rattle.gb_script.specs.Tree.{head_of, text_of, parts_of, place_of}
use Rattle.gb_goal.specs.Answers.{Answer, ◌>>=◌, not_built}
use Rattle.gb_goal.specs.Answers.Answer.{given, refused}
use Rattle.gb_goal.specs.Instances.{name_of}
use Rattle.gb_goal.specs.Scope.{Declarations, abstract_of, module_of}
use Rattle.gb_mods.specs.Footprint.{footprint}
use Rattle.gb_mods.specs.Meets.{Known}
use Rattle.gb_names.specs.declared.bindings.Binding.{Binding}
use Rattle.gb_names.specs.Environment.{Name, Environment, may_read, on_side}
use Rattle.gb_names.specs.Modules.{complete, module_at}
use Rattle.gb_names.specs.Names.{ModuleVariable, global_in, global_variable, has_memories, has_own, memory_at, side_of}
use Rattle.gb_names.specs.Wanted.{truth}
use Rattle.gb_elab.specs.declared.globs.Whole.{Whole}

-- the global that a variable is, as its module declares it
abbrev pub global_named : Declarations → Var → Option ModuleVariable
global_named ds (Global n x) = global_in n (module_of ds n) x
global_named ds _ = None

-- a global is the same in two memories
abbrev pub agrees : Side → Side → ModuleVariable → Term
agrees s r g = applied op.Equal (global_variable s g ∷ global_variable r g ∷ []) bool_ty

-- all that is an abstract module's own, as one value, read in a memory
abbrev pub whole_value : Side → Name → Term
whole_value s a = node (Read (Program (Glob a) s)) [] (ty.Glob a)

-- .. is the same in two memories
abbrev pub whole_agrees : Side → Side → Name → Term
whole_agrees s r a = applied op.Equal (whole_value s a ∷ whole_value r a ∷ []) bool_ty

-- a variable of a footprint is the same in two memories, if it is declared, or all globals of an abstract module that is
abbrev pub agreed : Declarations → Side → Side → Var → Option Term
agreed ds s r (Glob a) = option_map (λ b. whole_agrees s r a) (abstract_of ds a)
agreed ds s r x = option_map (agrees s r) (global_named ds x)

-- a form behind others, if there are any
abbrev pub behind_if : Option Term → Term → Term
behind_if None e = e
behind_if (Some f) e = applied op.And (f ∷ e ∷ []) bool_ty

abbrev pub with_agreement : Option Term → Option Term → Option Term
with_agreement o None = o
with_agreement o (Some f) = Some (behind_if o f)

-- behind other forms, if there are any: these variables are the same in two memories
abbrev pub agreements : Declarations → Side → Side → Option Term → List Var → Option Term
agreements ds s r o [] = o
agreements ds s r o (x ∷ xs) = agreements ds s r (with_agreement o (agreed ds s r x)) xs

abbrev pub true_if_none : Option Term → Term
true_if_none None = truth_literal true
true_if_none (Some f) = f

abbrev pub agreement_on : Declarations → Side → Side → Place → Option (List Var) → Answer Term
agreement_on ds s r p None = not_built p
agreement_on ds s r p (Some xs) = given (true_if_none (agreements ds s r None xs))

-- The globals of a module's footprint are the same in two memories: the conjunction of their equalities, in their order.
abbrev pub agreement : Declarations → Mexp → Side → Side → Place → Answer Term
agreement ds m s r p = agreement_on ds s r p (footprint ds m)

-- an abstract module by itself; with modules for its parameters it isn't one any more
abbrev pub is_abstract : Declarations → Mexp → Bool
is_abstract ds (mexp.Name a) = is_some (abstract_of ds a)
is_abstract ds _ = false

-- a module that lacks nothing, or an abstract one
abbrev pub owning : Declarations → Known → Place → Answer Mexp
owning ds k p = if is_abstract ds k.0 then given k.0 else complete k p

-- the module of which all globals are meant
abbrev pub owner : Environment → List Binding → Node → Answer Mexp
owner at bound t = module_at t at bound >>= λ k. owning at.declared k (place_of t)

-- `={glob M}`
abbrev pub same_globals : Environment → List Binding → Node → Answer Term
same_globals at bound t = do
  m ← owner at bound t
  agreement at.declared m side.Left side.Right (place_of t)

-- What is read as `(glob M)`, or with a memory behind it: the module expression, what stands in the braces, and its place.
abbrev pub Seen : Type 0
Seen = Node × Option Node × Place

-- the same, as the code has it
abbrev pub seen : Whole → Seen
seen w = (w.owner.now, option_copied w.behind, w.place)

abbrev pub bare_glob : List Node → Option Node → Place → Option Seen
bare_glob (m ∷ []) s p = Some (m, s, p)
bare_glob _ s p = None

abbrev pub sided_glob : Head → List Node → Node → Place → Option Seen
sided_glob head.Glob ms s p = bare_glob ms (Some s) p
sided_glob _ ms s p = None

abbrev pub with_braces : List Node → Option Seen
with_braces (a ∷ s ∷ []) = sided_glob (head_of a) (parts_of a) s (place_of a)
with_braces _ = None

abbrev pub inside : List (Node × Option Seen) → Option Seen
inside (a ∷ []) = a.1
inside _ = None

-- brackets may stand round it
unfoldable pub seeing : Head → List (Node × Option Seen) → Place → Option Seen
seeing head.Glob ps p = bare_glob (map (λ a. a.0) ps) None p
seeing head.Sided ps p = with_braces (map (λ a. a.0) ps)
seeing head.Bracketed ps p = inside ps
seeing _ ps p = None

-- the globals of a module that a form reads, if it reads all of one
unfoldable pub whole_in : Node → Option Seen
whole_in = para-Node (Option Seen) (λ l. seeing l.head l.parts l.place)

abbrev pub with_seen : List Node → List (Node × Option Seen)
with_seen ts = map (λ t. (t, whole_in t)) ts

abbrev pub paired : Option Seen → Option Seen → Option (Seen × Seen)
paired (Some a) (Some b) = Some (a, b)
paired _ _ = None

-- both sides of an equation
abbrev pub both_whole : Name → List Node → Option (Seen × Seen)
both_whole x (a ∷ b ∷ []) = if bytes_eq x (codes "=") then paired (whole_in a) (whole_in b) else None
both_whole x _ = None

-- the memory of one of two programs
abbrev pub side_read : Environment → Name → Place → Answer Side
side_read at x p = do
  i ← side_of x p
  if is_some (on_side at i) then given i else refused Argument p

-- the memory that braces name, by a side or by its name
abbrev pub memory_behind : Head → Node → Environment → List Binding → Place → Answer Side
memory_behind head.Number s at bound p = side_read at (text_of s) p
memory_behind _ m at bound p = do
  i ← memory_at at bound (text_of m) (place_of m)
  if may_read at.memories (text_of m) then given i else refused Argument p

-- .. or, where none is named, the own one
abbrev pub memory_read : Environment → List Binding → Option Node → Place → Answer Side
memory_read at bound None p = if has_own at.variables then given side.Own else refused Argument p
memory_read at bound (Some s) p = memory_behind (head_of s) s at bound p

abbrev pub module_and_memory : Environment → List Binding → Seen → Answer (Mexp × Side)
module_and_memory at bound w = do
  s ← memory_read at bound w.1 w.2
  m ← owner at bound w.0
  given (m, s)

-- of which module all globals are read, and in which memory; programs and operators read none
abbrev pub whole_read : Environment → List Binding → Seen → Answer (Mexp × Side)
whole_read at bound w = if has_memories at.language then module_and_memory at bound w else refused Argument w.2

-- all globals of a module as one value, which those of an abstract module are
abbrev pub as_value : Declarations → Mexp × Side → Place → Answer Term
as_value ds m p = if is_abstract ds m.0 then given (whole_value m.1 (name_of m.0)) else refused Argument p

-- All globals of another module stand in equations of two memories alone.
abbrev pub whole_alone : Environment → List Binding → Option Seen → Place → Answer Term
whole_alone at bound None p = not_built p
whole_alone at bound (Some w) p = do
  m ← whole_read at bound w
  as_value at.declared m p

-- an equation of all globals of two modules: those of abstract ones are of two types
abbrev pub two_owners : Declarations → Mexp × Side → Mexp × Side → Place → Place → Answer Term
two_owners ds l r p q = do
  _ ← as_value ds l p
  _ ← as_value ds r q
  refused TypeMismatch q

-- an equation of all globals of a module in two memories
abbrev pub whole_equation : Environment → List Binding → Option Ty → Place → Seen → Seen → Answer Term
whole_equation at bound w p a b = do
  _ ← truth w p
  l ← whole_read at bound a
  r ← whole_read at bound b
  if mexp_eq l.0 r.0 then agreement at.declared l.0 l.1 r.1 p else two_owners at.declared l r a.2 b.2
