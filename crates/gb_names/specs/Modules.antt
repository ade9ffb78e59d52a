-- Module expressions: the modules that they are, and what is known of these. A judgment has nodes of their own for them; in front of the
-- arguments of a call they are read as forms.
use Rattle.std.specs.Prelude.{Bool, true, false, if◌then◌else◌, List, [], ◌∷◌, ◌++◌, map}
use Rattle.gb_core.specs.declared.place.Place.{Place}
use Rattle.gb_core.specs.declared.refusal.Why.TheVariants.{Argument}
use Rattle.gb_terms.specs.declared.decl.Param.{Param}
use Rattle.gb_terms.specs.declared.module.Mexp.{Mexp}
use Rattle.gb_terms.specs.declared.module.Mexp.TheVariants as mexp
use Rattle.gb_goal.specs.Instances.{given_more}
use Rattle.gb_goal.specs.Interfaces.{Interface, interface_of}
use Rattle.gb_mods.specs.Meets.{Known, meets_named}
use Rattle.gb_script.specs.declared.head.Head.{Head}
use Rattle.gb_script.specs.declared.head.Head.TheVariants as head
use Rattle.gb_script.specs.declared.tree.Node.{Node, para-Node}
use Rattle.gb_script.specs.Tree.{head_of, place_of}
use Rattle.gb_goal.specs.Answers.{Answer, ◌>>=◌, given_or}
use Rattle.gb_goal.specs.Answers.Answer.{given, refused}
use Rattle.gb_names.specs.declared.bindings.Binding.{Binding}
use Rattle.gb_names.specs.Environment.{Name, Environment}
use Rattle.gb_names.specs.Names.{hidden, may_name, no_declared, path, spelled_by}
use Rattle.gb_names.specs.declared.modules.Given.{Given as Held}

-- what is known of the module of this name, where nothing nearer has it; modules of the context aren't built yet
unfoldable pub known_module : Environment → List Binding → Name → Place → Answer Interface
known_module at bound x p =
    if hidden at bound x then refused Argument p
    else given_or (interface_of at.declared at.inside x) (no_declared at.inside at.declared x) p

-- .. whose loops are proved to end, and those of all that it names, where that is asked for
unfoldable pub named_module : Environment → List Binding → Name → Place → Answer Interface
named_module at bound x p = do
  i ← known_module at bound x p
  _ ← may_name at x p
  given i

-- what a part of a text is as a module expression
abbrev pub Reading : Type 0
Reading = Environment → List Binding → Answer Known

-- modules that are given for parameters, and the parameters that are left
abbrev pub Given : Type 0
Given = List Mexp × List Param

-- a module that is given for a parameter meets its module type
abbrev pub fitting : Environment → Param → Known → Place → Answer Mexp
fitting at q k p = do
  _ ← meets_named at.declared at.inside k q.ty p
  given k.0

-- a module that is given for the first parameter that is left; one too many is refused
abbrev pub next_given : Environment → List Binding → List Mexp → List Param → Node × Reading → Answer Given
next_given at bound ms [] t = refused Argument (place_of t.0)
next_given at bound ms (q ∷ qs) t = do
  k ← t.1 at bound
  m ← fitting at q k (place_of t.0)
  given (ms ++ m ∷ [], qs)

-- the same of what the code holds
abbrev pub given_seen : Held → Given
given_seen g = (g.modules, g.left.now)

-- modules that are given behind others, from left to right
unfoldable pub all_given : Environment → List Binding → Given → List (Node × Reading) → Answer Given
all_given at bound g [] = given g
all_given at bound g (t ∷ ts) = next_given at bound g.0 g.1 t >>= λ h. all_given at bound h ts

abbrev pub with_given : Name → Interface → Given → Known
with_given x i g = (given_more (mexp.Name x) g.0, record i { lacks = g.1 })

-- the module of this name with these arguments
unfoldable pub applied : Name → Place → List (Node × Reading) → Reading
applied x p ts at bound = do
  i ← named_module at bound x p
  g ← all_given at bound ([], i.lacks) ts
  given (with_given x i g)

-- a name stands there
abbrev pub names : Head → Bool
names head.Name = true
names head.Path = true
names _ = false

abbrev pub brackets : Head → Bool
brackets head.Bracketed = true
brackets head.Tuple = true
brackets _ = false

-- What a part of a text is as a module expression, and what each part of it is.
pub record Read : Type 0 where
  pub whole : Reading
  pub parts : List (Node × Reading)

abbrev pub Part : Type 0
Part = Node × Read

abbrev pub wholes : List Part → List (Node × Reading)
wholes ts = map (λ t. (t.0, t.1.whole)) ts

-- the module of this name with what stands behind it, which is to stand in brackets
abbrev pub bracketed : Name → Head → List (Node × Reading) → Place → Reading
bracketed x h ts p at bound = if brackets h then applied x p ts at bound else refused Argument p

-- a form of a name with an argument
abbrev pub application : List Part → Place → Reading
application (m ∷ b ∷ []) p at bound =
    if names (head_of m.0) then bracketed (spelled_by m.0) (head_of b.0) b.1.parts p at bound else refused Argument p
application _ p at bound = refused Argument p

-- a module expression from its head, its text, its parts and its place; other forms are none
unfoldable pub expression : Head → Name → List Part → Place → Reading
expression head.Name x ts p at bound = applied x p [] at bound
expression head.Path x ts p at bound = applied (path (map (λ t. t.0) ts)) p [] at bound
expression head.ModuleExpression x (m ∷ ts) p at bound = applied (spelled_by m.0) (place_of m.0) (wholes ts) at bound
expression head.Apply x ts p at bound = application ts p at bound
expression _ x ts p at bound = refused Argument p

abbrev pub read_by : Head → Name → List Part → Place → Read
read_by h x ts p = record { whole = expression h x ts p; parts = wholes ts }

unfoldable pub read : Node → Read
read = para-Node Read (λ l. read_by l.head l.text l.parts l.place)

-- the module that a part of a text is, or its refusal
abbrev pub module_at : Node → Reading
module_at t = (read t).whole

-- nodes, each with what it and its parts are
abbrev pub with_readings : List Node → List Part
with_readings ts = map (λ t. (t, read t)) ts

-- .. each with what it is
abbrev pub with_modules : List Node → List (Node × Reading)
with_modules ts = map (λ t. (t, module_at t)) ts

-- A module that lacks nothing: modules are given for all its parameters.
abbrev pub lacks_none : List Param → Place → Answer (Unit {0})
lacks_none [] p = given tt
lacks_none (q ∷ qs) p = refused Argument p

abbrev pub complete : Known → Place → Answer Mexp
complete k p = do
  _ ← lacks_none k.1.lacks p
  given k.0

-- the module of a module expression that lacks nothing
abbrev pub whole_module : Environment → List Binding → Node → Answer Mexp
whole_module at bound t = module_at t at bound >>= λ k. complete k (place_of t)
