-- A lemma on two modules, on which truth and holding are tried.
use Rattle.std.specs.Prelude.{[], ◌∷◌}
use Rattle.gb_core.specs.declared.ty.Ty.TheVariants as ty
use Rattle.gb_core.specs.declared.var.Var.TheVariants as var
use Rattle.gb_terms.specs.declared.decl.Module.{Module}
use Rattle.gb_terms.specs.declared.module.Mexp.TheVariants.{Name as named}
use Rattle.gb_terms.specs.declared.module.ProcRef.{ProcRef}
use Rattle.gb_terms.specs.declared.op.Op.TheVariants.{Coin, Equal, Not}
use Rattle.gb_terms.specs.declared.op.Read.TheVariants.{Program}
use Rattle.gb_terms.specs.declared.op.Side.{Side}
use Rattle.gb_terms.specs.declared.op.Side.TheVariants.{Left, Right}
use Rattle.gb_terms.specs.declared.term.Term.{Term}
use Rattle.gb_terms.specs.declared.term.Head.TheVariants.{Read, Builtin, Equiv, Proc, Sample}
use Rattle.gb_goal.specs.declared.sequent.Sequent.{Sequent}
use Rattle.gb_meaning.specs.Names.{Name}
use Rattle.gb_meaning.specs.Memory.{result_name}
use Rattle.gb_meaning.specs.Trees.{term, distributions}
use Rattle.gb_meaning.specs.Declared.{Declarations, concrete_module}
use Rattle.gb_meaning.specs.HoldingExamples.{truth_value, true_literal, read_of}

-- The names M, N, f and x.

abbrev pub first_name : Name
first_name = 77 ∷ []

abbrev pub second_name : Name
second_name = 78 ∷ []

abbrev pub toss : Name
toss = 102 ∷ []

abbrev pub coin_name : Name
coin_name = 120 ∷ []

abbrev pub fair_coin : Term
fair_coin = term (Builtin Coin) [] (distributions ty.Bool)

-- a module with one procedure, which tosses a coin and answers with this term
abbrev pub tossing : Name → Term → Module
tossing m answer = record {
  name = m;
  params = [];
  globals = [];
  procs = record {
    name = toss;
    params = [];
    result = ty.Bool;
    locals = truth_value coin_name ∷ [];
    body = record { list = Sample (var.Local coin_name) fair_coin ∷ [] };
    value = answer;
  } ∷ [];
}

abbrev pub tossed : Term
tossed = read_of (var.Local coin_name)

-- module M = { proc f() : bool = { var x : bool; x <$ {0,1}; return x; } }
-- module N = { proc f() : bool = { var x : bool; x <$ {0,1}; return !x; } }
abbrev pub two_coins : Declarations
two_coins =
    (first_name, concrete_module (tossing first_name tossed)) ∷
    (second_name, concrete_module (tossing second_name (term (Builtin Not) (tossed ∷ []) ty.Bool))) ∷ []

abbrev pub toss_of : Name → ProcRef
toss_of m = record { «module» = named m; name = toss }

-- the result in the memory of a side
abbrev pub result_at : Side → Term
result_at s = term (Read (Program (var.Local result_name) s)) [] ty.Bool

-- equiv [M.f ~ N.f : true ==> res{1} = res{2}]
abbrev pub coins_are_alike : Term
coins_are_alike = term (Equiv (Proc (toss_of first_name)) (Proc (toss_of second_name)))
    (true_literal ∷ term (Builtin Equal) (result_at Left ∷ result_at Right ∷ []) ty.Bool ∷ []) ty.Bool

abbrev pub coin_sequent : Sequent
coin_sequent = record { logical = []; memories = []; modules = []; hyps = []; conclusion = coins_are_alike }
