-- Modules that are left open, in a goal.
use Rattle.std.specs.Prelude.{◌≡◌, List, [], map, Some}
use Rattle.gb_terms.specs.declared.decl.Param.{Param}
use Rattle.gb_terms.specs.declared.term.Term.{Term}
use Rattle.gb_goal.specs.declared.sequent.Sequent.{Sequent}
use Rattle.gb_goal.specs.Interfaces as known
use Rattle.gb_goal.specs.Scope as scope
use Rattle.gb_meaning.specs.Declared.{declared}
use Rattle.gb_typing.specs.Context.{Context}
use Rattle.gb_typing.specs.Modules.{interface_at, left_over}
use Rattle.gb_typing.specs.Scopes.{context_of, IsTypedScope}
use Rattle.gb_typing.specs.Sequents.{AreBinders, of_sequent}
use Rattle.gb_typing.specs.Suits.{lacked}
use Rattle.gb_mods.specs.Meets.{left_open}
use Rattle.gb_arguments.specs.Collect.{open_binders}

-- a goal that has these modules alone
abbrev pub open_goal : Term → List Param → Sequent
open_goal f qs = record { logical = []; memories = []; modules = open_binders qs; hyps = []; conclusion = f }

module _ (ds : scope.Declarations) (scoped : IsTypedScope (declared ds)) (qs : List Param) (f0 : Term) (w : AreBinders (context_of (declared ds)) (open_binders qs)) where
  abbrev pub seen : Context
  seen = of_sequent (context_of (declared ds)) (open_goal f0 qs) []

  -- the modules that are left open fit what a module lacks
  abbrev pub AreOpenFit : known.Interface → Type 0
  AreOpenFit k = left_over (lacked seen.modules.types k.lacks) (map (interface_at seen.modules) (left_open qs)) ≡ Some []
