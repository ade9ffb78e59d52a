-- What a law asks of a scope where modules are left open, and variables that have some globals among them.
use Rattle.std.specs.Prelude.{◌≡◌, ◌⊎◌, true, List, [], ◌∷◌, ◌++◌, Option, Some, None}
use Rattle.std.specs.List.{list_any}
use Rattle.gb_core.specs.declared.place.Place.{Place}
use Rattle.gb_core.specs.declared.var.Var.{Var}
use Rattle.gb_core.specs.declared.var.Var.TheVariants.{Glob}
use Rattle.gb_terms.specs.declared.decl.Module.{Module}
use Rattle.gb_terms.specs.declared.module.Bind.{Bind}
use Rattle.gb_terms.specs.declared.module.Mexp.{Mexp}
use Rattle.gb_terms.specs.declared.module.Mexp.TheVariants.{Name as named}
use Rattle.gb_goal.specs.Answers.Answer.{given}
use Rattle.gb_goal.specs.declared.scope.Entry.TheVariants as entry
use Rattle.gb_goal.specs.Interfaces.{Interface, interface_at, of_module}
use Rattle.gb_goal.specs.Scope as scope
use Rattle.gb_goal.specs.Scope.{entry_of, module_type_of}
use Rattle.gb_meaning.specs.Declared.{Declarations, ModuleType, declared}
use Rattle.gb_meaning.specs.Footprints.{footprint_globals, is_global, stands_for}
use Rattle.gb_meaning.specs.Names.{Name}
use Rattle.gb_meaning.specs.Programs.{AreFull, AreInOrder}
use Rattle.gb_meaning.specs.Setting.{Setting}
use Rattle.gb_meaning.specs.Settings.{Chosen, Interpretation, program_footprint, setting, types_of}
use Rattle.gb_meaning.specs.Values.{Global}
use Rattle.gb_meaning.specs.Within.{KeepsOff}
use Rattle.gb_typing.specs.Alike.{NameSigned}
use Rattle.gb_typing.specs.Chosen.{chosen_under}
use Rattle.gb_typing.specs.Scopes.{context_of}
use Rattle.gb_mods.specs.Meets.{open_name}
use Rattle.gb_arguments.specs.Opened.{open_program}
use Rattle.gb_arguments.specs.Programs.{AskNamed}
use Rattle.gb_instances.specs.Fits.{fits}
use Rattle.gb_instances.specs.Footprint.{footprint}
use Rattle.gb_arguments.specs.Members.{Has}

-- one of these variables stands for each of these globals: it is the global, or all of a module that has it
abbrev pub Covers : Setting → List Var → List Global → Type 0
Covers g ys xs = (x : Global) → list_any (is_global x) xs ≡ true → list_any (stands_for (λ m. g.types.footprint (named m)) x) ys ≡ true

-- no module is known under a name that stands for a parameter which is left open
abbrev pub IsUnspelt : scope.Declarations → Type 0
IsUnspelt ds = (x : Name) → (context_of (declared ds)).modules.interfaces (open_name x) ≡ None

-- nothing is declared under such a name
abbrev pub AreOpenFree : scope.Declarations → Type 0
AreOpenFree ds = (x : Name) → entry_of ds (open_name x) ≡ None

-- the oracles that procedures of module types name have signatures
abbrev pub AreTypesSigned : scope.Declarations → Type 0
AreTypesSigned ds = (n : Name) (t : ModuleType) → (context_of (declared ds)).modules.types n ≡ Some t → NameSigned (declared ds) t t.signatures

-- the globals of each program stand in the order of the world
abbrev pub AreProgramsInOrder : Interpretation → Type 0
AreProgramsInOrder i = (n : Name) (x : Chosen) → chosen_under i.programs n ≡ Some x → AreInOrder i.world x.program.footprint

-- A name of a restriction over the first declarations, where modules are put in by f and programs are chosen: that of a declared module, for which
-- nothing is put in; or one under which a program is chosen, which touches what the module touches that is put in.
abbrev pub IsPutName : scope.Declarations → scope.Declarations → Interpretation → List Chosen → (Name → Mexp) → Name → Type 0
IsPutName ds es i cs f n =
    ((m : Module) × (entry_of ds n ≡ Some (entry.Module m)) × (f n ≡ named n))
    ⊎ ((x : Chosen) × (chosen_under cs n ≡ Some x) × (x.program.footprint ≡ (types_of (declared (ds ++ es)) i).footprint (f n)))

-- each is such a name
abbrev pub ArePutNames : scope.Declarations → scope.Declarations → Interpretation → List Chosen → (Name → Mexp) → List Name → Type 0
ArePutNames ds es i cs f [] = Unit {0}
ArePutNames ds es i cs f (n ∷ ns) = IsPutName ds es i cs f n × ArePutNames ds es i cs f ns

-- what is chosen keeps off what modules of these names declare and touch, in the setting of all that is chosen
abbrev pub IsKeptIf : Declarations → Interpretation → List Name → Option Chosen → Type 0
IsKeptIf ds i ns None = ⊥
IsKeptIf ds i ns (Some x) = KeepsOff ds i.programs (setting ds i) x.program.footprint ns

-- the programs that are chosen for these modules keep to the restrictions
abbrev pub AreKept : Declarations → Interpretation → List Bind → Type 0
AreKept ds i [] = Unit {0}
AreKept ds i (b ∷ bs) = IsKeptIf ds i b.minus (chosen_under i.programs b.name) × AreKept ds i bs

-- What is computed of a declared module are the globals that it touches; and where it touches all that is an abstract module's own, these are the
-- globals of the module's program.
abbrev pub IsComputed : scope.Declarations → Interpretation → Type 0
IsComputed ds i = (n : Name) (m : Module) → entry_of ds n ≡ Some (entry.Module m) → (ys : List Var) → footprint ds (named n, of_module m) ≡ Some ys →
    ((setting (declared ds) i).types.footprint (named n) ≡ footprint_globals i.world (program_footprint i.programs) ys)
    × ((a : Name) → Has ys (Glob a) → (setting (declared ds) i).types.footprint (named a) ≡ footprint_globals i.world (program_footprint i.programs) (Glob a ∷ []))

-- Of a module that fits a binder it is known that the open program asks for the oracles that the signatures name alone, and loses no weight.
abbrev pub AskAndAreFull : scope.Declarations → Interpretation → Type 0
AskAndAreFull ds i = (m : Mexp) (k : Interface) → interface_at ds None m ≡ Some k → (b : Bind) (vs : Option (List Var)) (p : Place) → fits ds (m, k) b vs p ≡ given tt →
    (t : ModuleType) → module_type_of ds b.ty ≡ Some t →
    AskNamed (open_program (declared ds) i t m) t.signatures × AreFull (setting (declared ds) i) (open_program (declared ds) i t m) t.signatures
