-- Statements about procedures.
use Rattle.std.specs.Prelude.{◌≡◌, false, List, [], Some}
use Rattle.gb_core.specs.declared.place.Place.{Place}
use Rattle.gb_terms.specs.declared.term.Term.{out-Term}
use Rattle.gb_goal.specs.Goal.{judges_bodies}
use Rattle.gb_goal.specs.declared.sequent.Sequent.{Sequent}
use Rattle.gb_goal.specs.Answers.Answer.{given}
use Rattle.gb_goal.specs.Scope as scope
use Rattle.gb_goal.specs.Scope.{lemma_of}
use Rattle.gb_meaning.specs.Truth.{has_module}
use Rattle.gb_instances.specs.Instance.{GivenModule, instance_of}
use Rattle.gb_typing.specs.Naming.{IsAmong}
use Rattle.gb_meaning.specs.Names.{Name}
use Rattle.gb_arguments.specs.Arguments.{names_of}
use Rattle.gb_arguments.specs.Instance.{AreModulesOf}
use Rattle.gb_arguments.specs.Facts.{IsFact}
use Rattle.gb_elab_laws.specs.Speaking.{GoalSpeaks}

-- A goal without hypotheses, whose conclusion is no judgment on bodies and quantifies over no module in front. Its context may have
-- modules: it speaks of the globals of these alone together.
pub record IsOfProcedures (q : Sequent) : Type 0 where
  pub hyps : q.hyps ≡ []
  pub bodies : judges_bodies (out-Term q.conclusion).head ≡ false
  pub speaks : GoalSpeaks (IsAmong (names_of q.modules)) q
  pub front : has_module q.conclusion ≡ false

-- The lemmas of a scope that bind no modules are such statements, and so is what the others say of modules.
pub record AreStated (ds : scope.Declarations) : Type 0 where
  pub plain : (n : Name) (q : Sequent) → lemma_of ds n ≡ Some q → q.modules ≡ [] → IsFact ds q
  pub instances : (n : Name) (q : Sequent) → lemma_of ds n ≡ Some q → (ks : List GivenModule) → AreModulesOf ds ks →
      (p : Place) (r : Sequent) → instance_of ds q ks p ≡ given r → (r.modules ≡ []) × IsFact ds r
