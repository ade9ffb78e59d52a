-- What holds of the modules of a scope.
use Rattle.std.specs.Prelude.{◌≡◌, false, List, [], Some, None}
use Rattle.gb_core.specs.declared.var.Var.{Var}
use Rattle.gb_terms.specs.declared.decl.Proc.{Proc}
use Rattle.gb_terms.specs.declared.module.Mexp.{Mexp}
use Rattle.gb_terms.specs.declared.module.ProcRef.{ProcRef}
use Rattle.gb_goal.specs.Interfaces.{Interface, interface_at}
use Rattle.gb_goal.specs.Scope.{Declarations, procedure_of}
use Rattle.gb_meaning.specs.Declared.{declared}
use Rattle.gb_meaning.specs.Footprints.{footprint_read}
use Rattle.gb_meaning.specs.Footprints as meant
use Rattle.gb_meaning.specs.Holds.{InEachModel}
use Rattle.gb_meaning.specs.Modules.{modules_of, no_module}
use Rattle.gb_meaning.specs.Naming.{EachName}
use Rattle.gb_meaning.specs.Settings.{setting}
use Rattle.gb_mods.specs.Footprint.{footprint}
use Rattle.gb_elab_laws.specs.Members.{Has}
use Rattle.gb_ended.specs.Ended.{first_unproved}
use Rattle.gb_prog.specs.Ends.{ReachesGoodLoops}

-- Each loop that a procedure of ended modules reaches, through all that it calls, is good in each model. A module with arguments is ended
-- where all modules are that its expression names.
abbrev pub EndedLoopsAreGood : Declarations → Type 0
EndedLoopsAreGood ds = (p : ProcRef) → EachName (λ n. first_unproved ds n ≡ None) p.«module» → (a : Proc) → procedure_of ds p ≡ Some a →
    InEachModel (declared ds) (λ i. ReachesGoodLoops (setting (declared ds) i) ((setting (declared ds) i).procedure p))

-- the footprint of a module expression in the meaning
abbrev pub footprint_meant : Declarations → Mexp → List Var
footprint_meant ds m = meant.footprint (modules_of footprint_read (λ k. no_module) (declared ds)) (λ k. false) m

-- The footprint of a module expression that lacks nothing, as it is computed, has the variables of its footprint in the meaning, and no
-- others.
abbrev pub FootprintsAreMeant : Declarations → Type 0
FootprintsAreMeant ds = (m : Mexp) (i : Interface) → interface_at ds None m ≡ Some i → i.lacks ≡ [] → (xs : List Var) → footprint ds m ≡ Some xs → (x : Var) →
    (Has xs x → Has (footprint_meant ds m) x) × (Has (footprint_meant ds m) x → Has xs x)
