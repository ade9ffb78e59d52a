-- What the crates below promise of names.
use Rattle.std.proofs.Common.{◌≡◌, ℕ, List, ◌++◌}
use Rattle.std.specs.List.{AllByRecursion}
use Rattle.gb_core.specs.declared.place.Place.{Place}
use Rattle.gb_terms.specs.declared.decl.Module.{Module}
use Rattle.gb_terms.specs.declared.decl.TypedName.{TypedName}
use Rattle.gb_terms.specs.declared.term.Instr.{Instr}
use Rattle.gb_script.specs.declared.tree.Node.{Node}
use Rattle.gb_script.specs.Tree.{head_of, parts_of}
use Rattle.gb_goal.specs.Answers.Answer.{given}
use Rattle.gb_goal.specs.Scope as scope
use Rattle.gb_goal.specs.declared.sequent.Sequent.{Sequent}
use Rattle.gb_steps.specs.declared.step.Rule.{Rule}
use Rattle.gb_steps.specs.declared.step.Step.{Step}
use Rattle.gb_typing.specs.Context.{Context}
use Rattle.gb_typing.specs.Programs.{EachStatement}
use Rattle.gb_print_names.specs.declared.bound_names.Enumeration.{Enumeration}
use Rattle.gb_print.specs.GoalText.{place_of_goal, printed_goal}
use Rattle.gb_print.specs.Goals.{IsGoalReadAs}
use Rattle.gb_shown.specs.Named.{IsNamedInstr, IsNamedSequent}
use Rattle.gb_shown.specs.Rules.{AreNamedArguments}
use Rattle.gb_shown.specs.Scopes.{IsNamedModule, IsNamedScope, IsNamedStatement}
use Rattle.gb_shown.specs.Words.{IsReadTree}
use Rattle.gb_elab_prog.specs.Entries.{entries_given}
use Rattle.gb_elab_prog.specs.Modules.{module_given}
use Rattle.gb_elab_mod.specs.Lemmas.{statement_given}
use Rattle.gb_elab_mod.specs.Steps.{step_given}
use Rattle.gb_loops.specs.Variants.{goals_of}
use Rattle.gb_theory.specs.Commands.{Applied}
use Rattle.gb_theory.specs.Outcome.{IsReadAs}
use Rattle.gb_session.specs.Commands.{enumerated}
use Rattle.gb_accepted.proofs.Grounds.{IsTyped, IsTypedGoalOf}
use Rattle.gb_shown.proofs.Stages.{AreDeclared}

-- What is read and typed is named.
pub record OfScripts : Type 0 where
  pub read : (piece : List ℕ) (at : Place) (c : Node) → IsReadAs piece at (given c) → IsReadTree c
  pub entries : (es : List Enumeration) (ds : scope.Declarations) → IsNamedScope es ds → AreDeclared es ds → (t : Node) → IsReadTree t → (added : scope.Declarations) → entries_given ds t ≡ given added →
      IsNamedScope (es ++ enumerated (head_of t) (parts_of t)) added × AreDeclared (enumerated (head_of t) (parts_of t)) added
  pub modules : (es : List Enumeration) (ds : scope.Declarations) → IsNamedScope es ds → (t : Node) → IsReadTree t → (m : Module) → module_given ds t ≡ given m → IsNamedModule es m
  pub statements : (es : List Enumeration) (ds : scope.Declarations) → IsNamedScope es ds → (t : Node) → IsReadTree t → (q : Sequent) → statement_given ds t ≡ given q → IsNamedStatement es q
  pub steps : (es : List Enumeration) (ds : scope.Declarations) → IsTyped ds → IsNamedScope es ds → (q : Sequent) → IsTypedGoalOf ds q → IsNamedSequent es q → (t : Node) → IsReadTree t →
      (s : Step) → step_given ds q t ≡ given s → AreNamedArguments es s.rule

-- Rules lead from named goals to named goals, and what is printed of these is read as they are.
pub record OfGoals : Type 0 where
  pub rules : (es : List Enumeration) (ds : scope.Declarations) → IsTyped ds → IsNamedScope es ds → (q : Sequent) → IsTypedGoalOf ds q → IsNamedSequent es q → (r : Rule) → AreNamedArguments es r →
      (place : Place) (qs : List Sequent) → Applied ds r place q (given qs) → AllByRecursion (IsNamedSequent es) qs
  pub loops : (es : List Enumeration) (c : Context) (ls : List TypedName) (is : List Instr) → EachStatement c ls is → AllByRecursion (IsNamedInstr es) is → AllByRecursion (IsNamedSequent es) (goals_of is)
  pub printed : (ds : scope.Declarations) (es : List Enumeration) (q : Sequent) → IsTypedGoalOf ds q → IsNamedSequent es q → IsGoalReadAs (printed_goal ds es q) (place_of_goal ds es q) q

pub record Names : Type 0 where
  pub scripts : OfScripts
  pub goals : OfGoals
