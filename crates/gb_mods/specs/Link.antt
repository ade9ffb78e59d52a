-- Linking: what a reference to a procedure stands for.
use Rattle.std.specs.Option.{option_map}
use Rattle.gb_core.specs.declared.refusal.Why.TheVariants.{Shape}
use Rattle.gb_terms.specs.declared.decl.Proc.{Proc}
use Rattle.gb_terms.specs.declared.module.ProcRef.{ProcRef}
use Rattle.gb_goal.specs.Answers.{Answer, given_or, nowhere}
use Rattle.gb_goal.specs.Scope.{Declarations, procedure_of}
use Rattle.gb_mods.specs.declared.procedures.Linked.{Linked}

-- what a declared procedure is linked to
abbrev pub linked : Proc → Linked
linked f = record { params = f.params; locals = f.locals; body = f.body; result = f.value }

-- The procedure that a reference means. There is none to link where it means none of a declared module, as for an abstract one.
abbrev pub link : Declarations → ProcRef → Answer Linked
link ds p = given_or (option_map linked (procedure_of ds p)) Shape nowhere
