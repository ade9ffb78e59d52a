-- A module with a loop that makes no turn, on which good loops are tried.
use Rattle.std.specs.Prelude.{[], ◌∷◌}
use Rattle.gb_core.specs.declared.ty.Ty.TheVariants as ty
use Rattle.gb_core.specs.declared.value.Value.TheVariants.{Num}
use Rattle.gb_terms.specs.declared.decl.Module.{Module}
use Rattle.gb_terms.specs.declared.term.Instr.{end_of-Instr}
use Rattle.gb_terms.specs.declared.term.Head.TheVariants.{Lit, While'}
use Rattle.gb_goal.specs.Scope.{path_of}
use Rattle.gb_goal.specs.declared.scope.ProcName.{ProcName}
use Rattle.gb_meaning.specs.Names.{Name}
use Rattle.gb_meaning.specs.Trees.{term}
use Rattle.gb_meaning.specs.Declared.{Declarations, concrete_module, terminating}
use Rattle.gb_meaning.specs.HoldingExamples.{main_name, true_literal}

-- The name L.
abbrev pub idling_name : Name
idling_name = 76 ∷ []

-- L.f
abbrev pub idling_proc : ProcName
idling_proc = record { «module» = idling_name; name = main_name }

-- module L = { proc f() : bool = { while (false) variant (0 : int[4]) { } return true; } }
abbrev pub idling : Module
idling = record {
  name = idling_name;
  params = [];
  globals = [];
  procs = record {
    name = main_name;
    params = [];
    result = ty.Bool;
    locals = [];
    body = record { list = While' (term (Lit (Num 0)) [] ty.Bool) (term (Lit (Num 0)) [] (ty.Mod 4)) [] end_of-Instr ∷ [] };
    value = true_literal;
  } ∷ [];
}

-- the module, and that the loops of L.f are proved
abbrev pub idling_is_proved : Declarations
idling_is_proved = (idling_name, concrete_module idling) ∷ (path_of idling_proc, terminating idling_proc) ∷ []
