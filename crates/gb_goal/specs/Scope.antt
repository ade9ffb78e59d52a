-- Look-up in the declarations of a script.
use Rattle.std.specs.Prelude.{◌≡◌, ℕ, ◌+◌, List, [], ◌∷◌, ◌++◌, Option, Some, None, Bool, true, false, ◌&&◌, if◌then◌else◌, bytes_eq}
use Rattle.std.specs.Option.{option_map}
use Rattle.gb_terms.specs.declared.decl.Module.{Module}
use Rattle.gb_terms.specs.declared.decl.Param.{Param}
use Rattle.gb_terms.specs.declared.decl.Proc.{Proc}
use Rattle.gb_terms.specs.declared.module.Mexp.{Mexp}
use Rattle.gb_terms.specs.declared.module.Mexp.TheVariants.{Name, Apply'}
use Rattle.gb_terms.specs.declared.module.ProcRef.{ProcRef}
use Rattle.gb_terms.specs.Rows.{mexps_in}
use Rattle.gb_goal.specs.declared.scope.ProcName.{ProcName}
use Rattle.gb_goal.specs.declared.scope.Entry.{Entry}
use Rattle.gb_goal.specs.declared.scope.Entry.TheVariants as entry
pub use Rattle.gb_goal.specs.Entries.{Declarations, entry_of, entry_at, as_module, as_module_type, as_abstract, as_lemma, as_binders, as_type, as_constant, as_operator, module_of, module_type_of, abstract_of, lemma_of, binders_of, type_named, constant_named, operator_named, proc_of}
use Rattle.gb_goal.specs.Instances.{instance}
use Rattle.gb_goal.specs.Interfaces.{suits}

-- what a script writes for a procedure of a module: both names, with a dot between
abbrev pub path_of : ProcName → List ℕ
path_of p = p.module ++ 46 ∷ p.name

abbrev pub is_the_same : ProcName → ProcName → Bool
is_the_same p q = bytes_eq p.module q.module && bytes_eq p.name q.name

abbrev pub is_proof_for : ProcName → Option Entry → Bool
is_proof_for p (Some (entry.Terminating q)) = is_the_same p q
is_proof_for p _ = false

-- The loops of this procedure are proved.
abbrev pub is_proved : Declarations → ProcName → Bool
is_proved ds p = is_proof_for p (entry_of ds (path_of p))

-- the procedure of this name in a module without parameters
abbrev pub proc_if_plain : List Param → List Proc → List ℕ → Option Proc
proc_if_plain [] ps n = proc_of ps n
proc_if_plain (x ∷ xs) ps n = None

abbrev pub proc_in : Option Module → List ℕ → Option Proc
proc_in None n = None
proc_in (Some m) n = proc_if_plain m.params m.procs n

-- the procedure of this name in a module with these modules for its parameters, if they suit these
abbrev pub instance_at : Declarations → Option Module → List Mexp → List ℕ → Option Proc
instance_at ds None es n = None
instance_at ds (Some m) es n = if suits ds m.params es then option_map (instance m.params es) (proc_of m.procs n) else None

abbrev pub proc_at : Declarations → Mexp → List ℕ → Option Proc
proc_at ds (Name m) n = proc_in (module_of ds m) n
proc_at ds (Apply' m k args) n = instance_at ds (module_of ds m) (mexps_in args) n

-- the procedure that a reference means, of a declared module that lacks none
abbrev pub procedure_of : Declarations → ProcRef → Option Proc
procedure_of ds p = proc_at ds p.module p.name

-- How many declarations a thing counts as: the constants of an enumeration are declared with their type, as one, and that loops
-- are proved declares nothing.
abbrev pub weight : Entry → ℕ
weight (entry.Constant c) = 0
weight (entry.Terminating p) = 0
weight _ = 1

-- how many declarations there are
abbrev pub declarations_in : Declarations → ℕ
declarations_in [] = 0
declarations_in (d ∷ ds) = weight d.1 + declarations_in ds

-- further things, each under a name that nothing before it has
abbrev pub AreNew : Declarations → Declarations → Type 0
AreNew ds [] = Unit {0}
AreNew ds (d ∷ more) = (entry_of ds d.0 ≡ None) × AreNew (ds ++ d ∷ []) more

-- a thing that claims something: that a lemma holds, or that loops are proved
abbrev pub is_claim : Entry → Bool
is_claim (entry.Lemma s bs) = true
is_claim (entry.Terminating p) = true
is_claim _ = false

-- things that claim nothing
abbrev pub ClaimNothing : Declarations → Type 0
ClaimNothing [] = Unit {0}
ClaimNothing (d ∷ ds) = (is_claim d.1 ≡ false) × ClaimNothing ds
