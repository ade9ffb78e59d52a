-- Small scripts.
use Rattle.std.specs.Prelude.{List, [], ◌∷◌, ◌++◌}
use Rattle.gb_core.specs.declared.ty.Ty.TheVariants as ty
use Rattle.gb_meaning.specs.Declared.{Declarations}
use Rattle.gb_terms.specs.declared.decl.Module.{Module}
use Rattle.gb_terms.specs.declared.decl.Param.{Param}
use Rattle.gb_terms.specs.declared.module.Bind.{Bind}
use Rattle.gb_terms.specs.declared.module.Mexp.{Mexp, end_of-Mexp, more_of-Mexp}
use Rattle.gb_terms.specs.declared.module.Mexp.TheVariants.{Name as named, Apply'}
use Rattle.gb_terms.specs.declared.term.Head.TheVariants.{AllModule, Hoare, Proc as of_procedure}
use Rattle.gb_goal.specs.declared.sequent.Sequent.{Sequent}
use Rattle.gb_meaning.specs.Names.{Name}
use Rattle.gb_meaning.specs.Trees.{term}
use Rattle.gb_meaning.specs.HoldingExamples.{any_oracle, game_name, param_name, oracle_name, nothing_said, true_literal, keeper_name, oracle_and_adversary, keeper_and_game}
use Rattle.gb_typing.specs.Modules.{ProcedureType}

-- module types T and U, the module S, and the functor G, which takes a module of type T
abbrev pub games : Declarations
games = oracle_and_adversary ++ keeper_and_game

-- the type of G(S).f
abbrev pub result_of_game : ProcedureType
result_of_game = record { params = []; result = ty.Bool }

-- A <: T, bound in a form: behind it no other module is bound, so its name is 0
abbrev pub any_bound_oracle : Bind
any_bound_oracle = record any_oracle { name = 48 ∷ [] }

-- forall (A <: T), hoare [A.o : true ==> true]
abbrev pub nothing_said_of_each : Sequent
nothing_said_of_each = record nothing_said {
  conclusion = term (AllModule any_bound_oracle)
      (term (Hoare (of_procedure (record { «module» = named any_bound_oracle.name; name = oracle_name }))) (true_literal ∷ true_literal ∷ []) ty.Bool ∷ []) ty.Bool;
}

-- module H (S : T) = {}, where S is a module
abbrev pub shadowing_name : Name
shadowing_name = 72 ∷ []

abbrev pub shadowing : Module
shadowing = record { name = shadowing_name; params = record { name = keeper_name; ty = 84 ∷ [] } ∷ []; globals = []; procs = [] }

-- G(O), for the parameter O of the functor G
abbrev pub game_with_parameter : Mexp
game_with_parameter = Apply' game_name (tt ∷ []) (more_of-Mexp (named param_name) end_of-Mexp)

-- (X : T, Y : T)
abbrev pub two_params : List Param
two_params = record { name = 88 ∷ []; ty = 84 ∷ [] } ∷ record { name = 89 ∷ []; ty = 84 ∷ [] } ∷ []

-- the modules Y and X, in this order
abbrev pub exchanged : List Mexp
exchanged = named (89 ∷ []) ∷ named (88 ∷ []) ∷ []

-- X(Y)
abbrev pub one_of_other : Mexp
one_of_other = Apply' (88 ∷ []) (tt ∷ []) (more_of-Mexp (named (89 ∷ [])) end_of-Mexp)
