-- The setting that declarations make, where it is chosen what they leave open.
use Rattle.std.specs.Prelude.{ℕ, Bool, List, [], ◌∷◌, ◌++◌, map, reverse, None, if◌then◌else◌, bytes_eq}
use Rattle.std.specs.List.{list_any}
use Rattle.gb_core.specs.declared.var.Var.{Var}
use Rattle.gb_terms.specs.declared.decl.TypedName.{TypedName}
use Rattle.gb_terms.specs.declared.module.Bind.{Bind}
use Rattle.gb_meaning.specs.Names.{Name}
use Rattle.gb_meaning.specs.Values.{Global, World, Types}
use Rattle.gb_meaning.specs.Program.{Routine}
use Rattle.gb_meaning.specs.Setting.{Setting, Meaning}
use Rattle.gb_meaning.specs.State.{State, closed}
use Rattle.gb_meaning.specs.State.Binding.{value}
use Rattle.gb_meaning.specs.Terms.{quiet, val, denominator}
use Rattle.gb_meaning.specs.Declared.{Declarations, Declaration, operator, abstract_operator, concrete_module}
use Rattle.gb_meaning.specs.Modules.{Modules, no_module, with_module, modules_of, procedure_at}
use Rattle.gb_meaning.specs.Linking.{linked_procedure}
use Rattle.gb_meaning.specs.Footprints.{footprint, footprint_read, footprint_globals}
use Rattle.gb_meaning.specs.Adversary.{Adversary, type_named, with_oracles, abstract_footprint}

-- an abstract module, and the program that is chosen for it
pub record Chosen : Type 0 where
  pub bind : Bind
  pub program : Adversary

-- whether a program is chosen under this name; then the name is no declared module's
abbrev pub is_chosen : List Chosen → Name → Bool
is_chosen cs m = list_any (bytes_eq m) (map (λ c. c.bind.name) cs)

-- what an operator means: its results, and their denominator where they are distributions
pub record Function : Type 0 where
  pub result : List Meaning → Meaning
  pub denominator : ℕ

-- the functions of operators, by name
abbrev pub Table : Type 0
Table = Name → Function

-- What declarations leave open: the world, the sizes of abstract types, the functions of operators without a body, and the
-- programs of abstract modules, the last one first. Sizes and functions are chosen for names that aren't declared too:
-- programs may use what is declared later.
pub record Interpretation : Type 0 where
  pub world : World
  pub size : Name → ℕ
  pub table : Table
  pub programs : List Chosen

-- an interpretation with these programs
abbrev pub interpreted : World → (Name → ℕ) → Table → List Chosen → Interpretation
interpreted w size table cs = record { world = w; size = size; table = table; programs = cs }

-- the interpretation, and a program for a further abstract module
abbrev pub with_program : Interpretation → Bind → Adversary → Interpretation
with_program i b a = record i { programs = record { bind = b; program = a } ∷ i.programs }

-- the globals in the footprint of the program of this name
abbrev pub program_footprint : List Chosen → Name → List Global
program_footprint [] n = []
program_footprint (c ∷ cs) n = if bytes_eq n c.bind.name then c.program.footprint else program_footprint cs n

-- the footprints of the abstract modules, on top of others
abbrev pub with_abstract_footprints : Declarations → List Chosen → Modules (List Var) → Modules (List Var)
with_abstract_footprints ds [] ms = ms
with_abstract_footprints ds (c ∷ cs) ms =
    with_module (with_abstract_footprints ds cs ms) c.bind.name (abstract_footprint ds c.bind.name (type_named ds c.bind.ty))

-- The footprints of all modules. The name of an abstract module of the context hides that of a declared one.
abbrev pub footprints : Declarations → List Chosen → Modules (List Var)
footprints ds cs =
    with_abstract_footprints ds cs (modules_of footprint_read (with_abstract_footprints ds cs (λ n. no_module)) ds)

-- The values of types. A module expression's footprint has the globals that its programs touch.
abbrev pub types_of : Declarations → Interpretation → Types
types_of ds i = record {
  size = i.size;
  footprint = λ m. footprint_globals i.world (program_footprint i.programs) (footprint (footprints ds i.programs) (is_chosen i.programs) m);
}

-- a setting in which no operator and no procedure is declared: each operator means the function that is chosen for it
abbrev pub bare : Types → Table → Setting
bare ts table =
    record { types = ts; operator = λ n. (table n).result; denominator = λ n. (table n).denominator; procedure = λ p. None }

-- the state in which an operator's body is read: its parameters are bound, the last one innermost
abbrev pub at_arguments : List Meaning → State
at_arguments xs = record closed { bound = reverse (map value xs) }

-- the setting, and one operator more
abbrev pub with_operator : Setting → Name → (List Meaning → Meaning) → ℕ → Setting
with_operator g n f k = record g {
  operator = λ m xs. if bytes_eq m n then f xs else g.operator m xs;
  denominator = λ m. if bytes_eq m n then k else g.denominator m;
}

-- An operator with a body means its body; one without a body means the function that is chosen for it, and gives no
-- distribution.
abbrev pub with_declaration : Table → Setting → Name → Declaration → Setting
with_declaration table g n (operator o) = with_operator g n (λ xs. val g quiet o.body (at_arguments xs)) (denominator g o.body)
with_declaration table g n (abstract_operator o) = with_operator g n (table n).result 1
with_declaration table g n _ = g

-- the setting with the declared operators; a body sees those before it
abbrev pub with_operators : Table → Setting → Declarations → Setting
with_operators table g [] = g
with_operators table g (d ∷ ds) = with_operators table (with_declaration table g d.0 d.1) ds

-- the programs of the abstract modules, on top of others
abbrev pub with_abstract_programs : Declarations → List Chosen → Modules Routine → Modules Routine
with_abstract_programs ds [] ms = ms
with_abstract_programs ds (c ∷ cs) ms =
    with_module (with_abstract_programs ds cs ms) c.bind.name (with_oracles (type_named ds c.bind.ty) c.program)

-- all modules, linked
abbrev pub linked_modules : Declarations → Setting → List Chosen → Modules Routine
linked_modules ds g cs =
    with_abstract_programs ds cs (modules_of (linked_procedure g) (with_abstract_programs ds cs (λ n. no_module)) ds)

-- the setting, and the linked procedures
abbrev pub with_modules : Declarations → List Chosen → Setting → Setting
with_modules ds cs g = record g { procedure = procedure_at (linked_modules ds g cs) }

-- the setting of the declarations in an interpretation
abbrev pub setting : Declarations → Interpretation → Setting
setting ds i = with_modules ds i.programs (with_operators i.table (bare (types_of ds i) i.table) ds)

-- the globals that are declared
abbrev pub globals_from : Name → List TypedName → List Global
globals_from m [] = []
globals_from m (x ∷ xs) = record { parent = m; name = x.name; ty = x.ty } ∷ globals_from m xs

-- the globals of all declared modules
abbrev pub declared_globals : Declarations → List Global
declared_globals [] = []
declared_globals ((n, concrete_module m) ∷ ds) = globals_from n m.globals ++ declared_globals ds
declared_globals (d ∷ ds) = declared_globals ds
