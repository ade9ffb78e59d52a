-- Small scripts, on which the definitions are tried.
use Rattle.std.specs.Prelude.{ℕ, List, [], ◌∷◌, ◌++◌, Option, Some}
use Rattle.gb_core.specs.declared.ty.Ty.TheVariants as ty
use Rattle.gb_core.specs.declared.value.Value.TheVariants.{Num}
use Rattle.gb_core.specs.declared.var.Var.{Var}
use Rattle.gb_core.specs.declared.var.Var.TheVariants as var
use Rattle.gb_terms.specs.declared.decl.TypedName.{TypedName}
use Rattle.gb_terms.specs.declared.decl.Module.{Module}
use Rattle.gb_terms.specs.declared.module.Bind.{Bind}
use Rattle.gb_terms.specs.declared.module.Mexp.{Mexp, end_of-Mexp, more_of-Mexp}
use Rattle.gb_terms.specs.declared.module.Mexp.TheVariants.{Name as named, Apply'}
use Rattle.gb_terms.specs.declared.module.ProcRef.{ProcRef}
use Rattle.gb_terms.specs.declared.op.Read.TheVariants.{Program}
use Rattle.gb_terms.specs.declared.op.Side.TheVariants.{Own}
use Rattle.gb_terms.specs.declared.term.Term.{Term}
use Rattle.gb_terms.specs.declared.term.Instr.{Instr}
use Rattle.gb_terms.specs.declared.op.Op.TheVariants.{Coin}
use Rattle.gb_terms.specs.declared.term.Head.TheVariants.{Lit, Read, Builtin, AllModule, Hoare, Proc as of_procedure, Assign, Call'}
use Rattle.gb_goal.specs.declared.sequent.Sequent.{Sequent}
use Rattle.gb_meaning.specs.Names.{Name}
use Rattle.gb_meaning.specs.Values.{World}
use Rattle.gb_meaning.specs.Program.{Routine, Oracle}
use Rattle.gb_meaning.specs.Program.Program.{done, assign, sample, branch, call, ask}
use Rattle.gb_meaning.specs.Program.Routine.{routine}
use Rattle.gb_meaning.specs.Trees.{term, row, places, distributions}
use Rattle.gb_meaning.specs.Declared.{Declarations, ModuleType, Signature, those, concrete_module, module_type}
use Rattle.gb_meaning.specs.Adversary.{Adversary}

-- The names S, k, o, x, G, O, f and r.

abbrev pub keeper_name : Name
keeper_name = 83 ∷ []

abbrev pub kept : Var
kept = var.Global keeper_name (107 ∷ [])

abbrev pub oracle_name : Name
oracle_name = 111 ∷ []

abbrev pub input : Name
input = 120 ∷ []

abbrev pub game_name : Name
game_name = 71 ∷ []

abbrev pub param_name : Name
param_name = 79 ∷ []

abbrev pub main_name : Name
main_name = 102 ∷ []

abbrev pub reply : Name
reply = 114 ∷ []

abbrev pub truth_value : Name → TypedName
truth_value x = record { name = x; ty = ty.Bool }

-- the value of a variable of a program
abbrev pub read_of : Var → Term
read_of x = term (Read (Program x Own)) [] ty.Bool

abbrev pub true_literal : Term
true_literal = term (Lit (Num 1)) [] ty.Bool

abbrev pub call_of : Name → ProcRef → List Term → Instr
call_of x p es = Call' (var.Local x ∷ []) p (places es) (row es)

-- module S = { var k : bool  proc o(x : bool) : bool = { k <- x; return k; } }
abbrev pub keeper : Module
keeper = record {
  name = keeper_name;
  params = [];
  globals = truth_value (107 ∷ []) ∷ [];
  procs = record {
    name = oracle_name;
    params = truth_value input ∷ [];
    result = ty.Bool;
    locals = [];
    body = record { list = Assign (kept ∷ []) (read_of (var.Local input)) ∷ [] };
    value = read_of kept;
  } ∷ [];
}

-- module G (O : T) = { proc f() : bool = { var r : bool; r <@ O.o(true); return r; } }
abbrev pub game : Module
game = record {
  name = game_name;
  params = record { name = param_name; ty = 84 ∷ [] } ∷ [];
  globals = [];
  procs = record {
    name = main_name;
    params = [];
    result = ty.Bool;
    locals = truth_value reply ∷ [];
    body = record { list = call_of reply (record { «module» = named param_name; name = oracle_name }) (true_literal ∷ []) ∷ [] };
    value = read_of (var.Local reply);
  } ∷ [];
}

abbrev pub keeper_and_game : Declarations
keeper_and_game = (keeper_name, concrete_module keeper) ∷ (game_name, concrete_module game) ∷ []

-- G(S)
abbrev pub game_with_keeper : Mexp
game_with_keeper = Apply' game_name (tt ∷ []) (more_of-Mexp (named keeper_name) end_of-Mexp)

-- S.o, linked
abbrev pub linked_keeper : Routine
linked_keeper = routine (truth_value input ∷ []) [] (assign (kept ∷ []) (read_of (var.Local input)) done) (read_of kept)

-- G(S).f, linked
abbrev pub linked_game : Routine
linked_game =
    routine [] (truth_value reply ∷ [])
    (call (var.Local reply ∷ []) linked_keeper (true_literal ∷ []) done) (read_of (var.Local reply))

-- O.o
abbrev pub oracle : Oracle
oracle = record { parameter = param_name; name = oracle_name }

-- proc f() : bool = { var r : bool; r <@ O.o(true); if (r) { r <@ O.o(r); } return r; }
abbrev pub curious : Routine
curious = routine [] (truth_value reply ∷ [])
    (ask (var.Local reply ∷ []) oracle (true_literal ∷ [])
    (branch (read_of (var.Local reply))
    (ask (var.Local reply ∷ []) oracle (read_of (var.Local reply) ∷ []) done)
    done
    done))
    (read_of (var.Local reply))

-- S.o answers for O.o
abbrev pub asking_keeper : Oracle → Option Routine
asking_keeper o = Some linked_keeper

-- a procedure that tosses a coin
abbrev pub coin_toss : Routine
coin_toss = routine (truth_value input ∷ []) []
    (sample (var.Local input) (term (Builtin Coin) [] (distributions ty.Bool)) done) (read_of (var.Local input))

-- it answers for O.o
abbrev pub asking_coin : Oracle → Option Routine
asking_coin o = Some coin_toss

-- proc o(x : bool) : bool
abbrev pub oracle_signature : Signature
oracle_signature = record { name = oracle_name; params = truth_value input ∷ []; result = ty.Bool; oracles = those [] }

-- proc f() : bool {O.o}
abbrev pub asking_signature : Signature
asking_signature = record { name = main_name; params = []; result = ty.Bool; oracles = those (record { parameter = param_name; name = oracle_name } ∷ []) }

-- module type T = { proc o(x : bool) : bool }
abbrev pub oracle_type : ModuleType
oracle_type = record { params = []; signatures = oracle_signature ∷ [] }

-- module type U (O : T) = { proc f() : bool {O.o} }
abbrev pub asking_type : ModuleType
asking_type = record { params = record { name = param_name; ty = 84 ∷ [] } ∷ []; signatures = asking_signature ∷ [] }

abbrev pub oracle_and_adversary : Declarations
oracle_and_adversary = (84 ∷ [], module_type oracle_type) ∷ (85 ∷ [], module_type asking_type) ∷ []

-- A <: U [f : {O.o <= q}]
abbrev pub asking_at_most : ℕ → Bind
asking_at_most q = record {
  name = 65 ∷ [];
  ty = 85 ∷ [];
  minus = [];
  bounds = record { procs = main_name ∷ []; oracle = record { «module» = named param_name; name = oracle_name }; most = q } ∷ [];
}

-- a program for U without globals
abbrev pub curious_program : Adversary
curious_program = record { footprint = []; procedures = (main_name, curious) ∷ [] }

-- A <: T
abbrev pub any_oracle : Bind
any_oracle = record { name = 65 ∷ []; ty = 84 ∷ []; minus = []; bounds = [] }

-- forall (A <: T), hoare [A.o : true ==> true]
abbrev pub nothing_said : Sequent
nothing_said = record {
  logical = [];
  memories = [];
  modules = [];
  hyps = [];
  conclusion = term (AllModule any_oracle)
      (term (Hoare (of_procedure (record { «module» = named (65 ∷ []); name = oracle_name }))) (true_literal ∷ true_literal ∷ []) ty.Bool ∷ []) ty.Bool;
}

-- A(S), where A <: U
abbrev pub adversary_with_keeper : Mexp
adversary_with_keeper = Apply' (65 ∷ []) (tt ∷ []) (more_of-Mexp (named keeper_name) end_of-Mexp)

abbrev pub types_and_keeper : Declarations
types_and_keeper = oracle_and_adversary ++ (keeper_name, concrete_module keeper) ∷ []

-- module type E = {}
abbrev pub silent_type : Declarations
silent_type = (69 ∷ [], module_type (record { params = []; signatures = [] })) ∷ []

-- A <: E
abbrev pub silent : Bind
silent = record { name = 65 ∷ []; ty = 69 ∷ []; minus = []; bounds = [] }

-- the globals O.x and O.f of type `bool`, in this order
abbrev pub owned_world : World
owned_world =
    record { parent = param_name; name = input; ty = ty.Bool } ∷ record { parent = param_name; name = main_name; ty = ty.Bool } ∷ []

-- a program without procedures that owns both
abbrev pub owner : Adversary
owner = record { footprint = owned_world; procedures = [] }
