-- The trees of types, of modules and of procedures.
use Rattle.std.specs.Prelude.{Bool, if◌then◌else◌, List, [], ◌∷◌, ◌++◌, map, codes}
use Rattle.gb_core.specs.declared.ty.Ty.{Ty, fold-Ty}
use Rattle.gb_core.specs.declared.ty.Ty.TheOpen as layer
use Rattle.gb_core.specs.declared.var.Var.{Var}
use Rattle.gb_core.specs.declared.var.Var.TheVariants.{Global, Local, Glob}
use Rattle.gb_terms.specs.declared.module.Bind.{Bind}
use Rattle.gb_terms.specs.declared.module.Bound.{Bound}
use Rattle.gb_terms.specs.declared.module.Mexp.{Mexp, out-Mexp, fold-Mexp}
use Rattle.gb_terms.specs.declared.module.Mexp.TheOpen as mexp_layer
use Rattle.gb_terms.specs.declared.module.ProcRef.{ProcRef}
use Rattle.gb_script.specs.declared.head.Head.TheVariants as head
use Rattle.gb_script.specs.declared.tree.Node.{Node}
use Rattle.gb_print_names.specs.declared.bound_names.Known.{Known}
use Rattle.gb_print_names.specs.BoundNames.{Name}
use Rattle.gb_print_names.specs.Names.{module_name}
use Rattle.gb_print_names.specs.Types.{is_product}
use Rattle.gb_print.specs.Nodes.{tree, leaf, list, number, word, word_nodes, path}

-- how a thing stands under binders
abbrev pub Shown : Type 0
Shown = List Known → Node

-- whether a type is one of tuples, and its tree
abbrev pub Part : Type 0
Part = Bool × Shown

abbrev pub operand : Part → Shown
operand t bound = if t.0 then tree head.BracketedType (t.1 bound ∷ []) else t.1 bound

-- a module by its name, with the arguments of a functor
abbrev pub module_of : List Known → Name → List Node → Node
module_of bound x args = tree head.ModuleExpression (path (module_name bound x) ∷ args)

abbrev pub at_type : layer.Ty-F Part → Shown
at_type layer.Unit bound = leaf head.PlainType (codes "unit")
at_type layer.Bool bound = leaf head.PlainType (codes "bool")
at_type (layer.Bits n) bound = tree head.BitsType (number n ∷ [])
at_type (layer.Mod n) bound = tree head.IntType (number n ∷ [])
at_type (layer.Enumeration x n) bound = path x
at_type (layer.Tuple ts) bound = tree head.ProductType (map (λ t. operand t bound) ts)
at_type (layer.Opt t) bound = tree head.OptionType (operand t bound ∷ [])
at_type (layer.Map k v) bound = tree head.MapType (k.1 bound ∷ v.1 bound ∷ [])
at_type (layer.Abstract x) bound = path x
at_type (layer.Glob m) bound = tree head.GlobType (module_of bound m [] ∷ [])
at_type (layer.Distr t) bound = operand t bound
at_type layer.Int bound = tree head.IntType []
at_type layer.Real bound = leaf head.PlainType (codes "real")

abbrev pub type_part : Ty → Part
type_part = fold-Ty Part (λ l. (is_product l, at_type l))

-- the tree of a type
abbrev pub type_tree : Ty → Shown
type_tree t = (type_part t).1

-- .. where it stands behind `uniform`
abbrev pub type_operand : Ty → Shown
type_operand t = operand (type_part t)

-- Modules.

abbrev pub at_module : mexp_layer.Mexp-F Shown → Shown
at_module (mexp_layer.Name x) bound = module_of bound x []
at_module (mexp_layer.Apply x ms) bound = module_of bound x (map (λ m. m bound) ms)

abbrev pub module_tree : Mexp → Shown
module_tree = fold-Mexp Shown at_module

-- a functor's name, its arguments, and the name of a procedure
abbrev pub functor_parts : List Known → Name → List Node → Name → List Node
functor_parts bound x args f = word_nodes (module_name bound x) ++ list args ∷ word f ∷ []

abbrev pub procedure_at : List Known → Name → mexp_layer.Mexp-F Mexp → Node
procedure_at bound f (mexp_layer.Name x) = tree head.ProcedurePath (word_nodes (module_name bound x) ++ word f ∷ [])
procedure_at bound f (mexp_layer.Apply x ms) = tree head.FunctorPath (functor_parts bound x (map (λ m. module_tree m bound) ms) f)

-- the procedure of a judgment
abbrev pub procedure_tree : ProcRef → Shown
procedure_tree p bound = procedure_at bound p.name (out-Mexp p.module)

-- Arguments of a functor that is called are read as forms.
abbrev pub functor_arguments : List Node → Node
functor_arguments (m ∷ []) = tree head.Bracketed (m ∷ [])
functor_arguments ms = tree head.Tuple ms

abbrev pub at_called_module : mexp_layer.Mexp-F Shown → Shown
at_called_module (mexp_layer.Name x) bound = path (module_name bound x)
at_called_module (mexp_layer.Apply x ms) bound = tree head.Apply (path (module_name bound x) ∷ functor_arguments (map (λ m. m bound) ms) ∷ [])

abbrev pub called_module : Mexp → Shown
called_module = fold-Mexp Shown at_called_module

abbrev pub call_at : List Known → Name → List Node → mexp_layer.Mexp-F Mexp → Node
call_at bound f args (mexp_layer.Name x) = tree head.Call (word_nodes (module_name bound x) ++ word f ∷ list args ∷ [])
call_at bound f args (mexp_layer.Apply x ms) =
    tree head.FunctorCall (functor_parts bound x (map (λ m. called_module m bound) ms) f ++ list args ∷ [])

-- a procedure at its arguments
abbrev pub call_tree : ProcRef → List Node → Shown
call_tree p args bound = call_at bound p.name args (out-Mexp p.module)

-- Module binders.

abbrev pub oracle_words : List Known → Name → mexp_layer.Mexp-F Mexp → List Node
oracle_words bound f (mexp_layer.Name x) = word_nodes (module_name bound x) ++ word f ∷ []
oracle_words bound f (mexp_layer.Apply x ms) = word_nodes (module_name bound x) ++ word f ∷ []

-- the first two words of an oracle, and the others
abbrev pub limit_parts : List Node → List Node
limit_parts (m ∷ f ∷ more) = m ∷ f ∷ list more ∷ []
limit_parts ws = ws

-- a bound on calls
abbrev pub bound_tree : List Known → Bound → Node
bound_tree bound b =
    tree head.QueryBound
    (list (map word b.procs)
    ∷ list (tree head.Limit (limit_parts (oracle_words bound b.oracle.name (out-Mexp b.oracle.module)) ++ number b.most ∷ []) ∷ []) ∷ [])

-- an abstract module under a name
abbrev pub abstract_module : List Known → Name → Bind → Node
abstract_module bound x b =
    tree head.ModuleBind
    (word x ∷ path b.ty ∷ list (map (λ m. path (module_name bound m)) b.minus) ∷ list (map (bound_tree bound) b.bounds) ∷ [])

-- Variables.

-- the words of a variable
abbrev pub variable_words : List Known → Var → List Node
variable_words bound (Global m x) = word_nodes (module_name bound m) ++ word x ∷ []
variable_words bound (Local x) = word_nodes x
variable_words bound (Glob m) = tree head.Glob (module_of bound m [] ∷ []) ∷ []
