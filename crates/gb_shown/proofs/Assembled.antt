-- The grounds, from the laws of the crates below.
use Rattle.std.proofs.Common.{ℕ, List}
use Rattle.std.specs.List.{AllByRecursion}
use Rattle.gb_core.specs.declared.place.Place.{Place}
use Rattle.gb_terms.specs.declared.decl.TypedName.{TypedName}
use Rattle.gb_terms.specs.declared.term.Instr.{Instr}
use Rattle.gb_script.specs.declared.tree.Node.{Node}
use Rattle.gb_script.proofs.Each.{each_so}
use Rattle.gb_goal.specs.Answers.Answer.{given}
use Rattle.gb_goal.specs.Scope as scope
use Rattle.gb_goal.specs.declared.sequent.Sequent.{Sequent}
use Rattle.gb_steps.specs.declared.step.Rule.{Rule}
use Rattle.gb_meaning.specs.Declared.{Declarations, declared}
use Rattle.gb_typing.specs.Context.{Context}
use Rattle.gb_typing.specs.Programs.{EachStatement}
use Rattle.gb_typing.specs.Scopes.{context_of}
use Rattle.gb_typing.specs.Sequents.{IsTypedSequent}
use Rattle.gb_print_names.specs.declared.bound_names.Enumeration.{Enumeration}
use Rattle.gb_print.specs.GoalText.{place_of_goal, printed_goal}
use Rattle.gb_print.specs.Goals.{IsGoalReadAs}
use Rattle.gb_shown.specs.Named.{IsNamedInstr, IsNamedSequent}
use Rattle.gb_shown.proofs.SpeltForms.{as_result}
use Rattle.gb_shown.specs.Rules.{AreNamedArguments, AreNamedGlobals, AreNamedOperators, AreNamedProcedures}
use Rattle.gb_shown.specs.Trees.{IsFull, IsFullTree}
use Rattle.gb_shown.specs.Words.{IsReadNode, IsReadTree}
use Rattle.gb_shown.proofs.FoundInScopes.{globals_named, operators_named}
use Rattle.gb_shown.proofs.KnownProcedures.{procedures_named}
use Rattle.gb_shown.proofs.Forms.{elaborated_named, function_named}
use Rattle.gb_shown.proofs.Leaves.{target_named}
use Rattle.gb_shown.proofs.Spelled.{measured_named, spelled_good}
use Rattle.gb_shown.proofs.Types.{written_named}
use Rattle.gb_shown.proofs.OfForms.{OfForms}
use Rattle.gb_shown.proofs.Lemmas.{statement_is_named}
use Rattle.gb_shown.proofs.Members.{module_named}
use Rattle.gb_shown.proofs.Rules.{step_named}
use Rattle.gb_loops.specs.Variants.{goals_of}
use Rattle.gb_theory.specs.Commands.{Applied}
use Rattle.gb_theory.specs.Outcome.{IsReadAs}
use Rattle.gb_shown.proofs.Declared.{entries_named}
use Rattle.gb_shown.proofs.Grounds.{Names}

-- the parts of the tuples of a tree that is read
full_tree : (t : Node) → IsReadTree t → IsFullTree t
full_tree t k = each_so IsReadNode IsFull (λ x n. (let m = n in m.full)) k

-- the typing of forms and types
pub forms : OfForms
forms = record {
  form = λ es at s bs b w v t r f e. elaborated_named es t (full_tree t r) at bs s b w v f e;
  function = λ es at s a b x y t r f e. function_named es t (full_tree t r) at s a b x (as_result b y) f e;
  type = λ es ds k t r u e. (let w = spelled_good es ds k t (full_tree t r) u e in record { named = written_named u w.0; written = w.0; first = w.1 });
  number = λ es ds k t r u e. measured_named es ds k t (full_tree t r) u e;
  target = λ es at s x p v e. target_named es at s x p v e;
}

pub names_given : ((piece : List ℕ) (at : Place) (c : Node) → IsReadAs piece at (given c) → IsReadTree c) →
    ((es : List Enumeration) (ds : scope.Declarations) → AreNamedGlobals ds → AreNamedProcedures es ds → AreNamedOperators es ds → (d : Declarations) (q : Sequent) → IsTypedSequent (context_of d) q → IsNamedSequent es q →
    (r : Rule) → AreNamedArguments es r → (place : Place) (qs : List Sequent) → Applied ds r place q (given qs) → AllByRecursion (IsNamedSequent es) qs) →
    ((es : List Enumeration) (c : Context) (ls : List TypedName) (is : List Instr) → EachStatement c ls is → AllByRecursion (IsNamedInstr es) is → AllByRecursion (IsNamedSequent es) (goals_of is)) →
    ((ds : Declarations) (ss : scope.Declarations) (es : List Enumeration) (q : Sequent) → IsTypedSequent (context_of ds) q → IsNamedSequent es q → IsGoalReadAs (printed_goal ss es q) (place_of_goal ss es q) q) → Names
names_given read steps termination printed = record {
  scripts = record {
    read = read;
    entries = λ es ds k l t r added e. entries_named forms es ds k l t r added e;
    modules = λ es ds k t r m e. module_named forms es ds k t r m e;
    statements = λ es ds k t r q e. statement_is_named forms es ds k t r q e;
    steps = λ es ds typed k q t n c r s e. step_named forms es ds k q t n c r s e;
  };
  goals = record {
    rules = λ es ds typed k q t n r a place qs x. steps es ds (globals_named es ds k) (procedures_named es ds k) (operators_named es ds k) (declared ds) q t n r a place qs x;
    loops = termination;
    printed = λ ds es q t n. printed (declared ds) ds es q t n;
  };
}
