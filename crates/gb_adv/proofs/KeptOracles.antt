-- Judgments of oracles on one program: each keeps the property of globals that a form says.
use Rattle.std.proofs.Common.{◌≡◌, true, List, [], ◌∷◌, Some, None, sym, ◌∙◌, subst}
use Rattle.std.specs.List.{AllByRecursion}
use Rattle.gb_dist.specs.WeightedList.{Every}
use Rattle.gb_dist.proofs.Entries.{Every-weaken}
use Rattle.gb_terms.specs.declared.module.ProcRef.{ProcRef}
use Rattle.gb_terms.specs.declared.term.Term.{Term}
use Rattle.gb_goal.specs.Interfaces.{ProcedureType, procedure_type}
use Rattle.gb_goal.specs.Scope.{Declarations}
use Rattle.gb_meaning.specs.Judgments.{Judge, IsFair, IsTrueUnder, from_frame}
use Rattle.gb_meaning.specs.Program.{Routine}
use Rattle.gb_meaning.specs.Setting.{Setting}
use Rattle.gb_meaning.specs.State.{State, at}
use Rattle.gb_typing.specs.Context.{Context, procedure, reframed}
use Rattle.gb_typing.specs.Fits.{IsSettingOf}
use Rattle.gb_typing.specs.Meaning.{Stands}
use Rattle.gb_typing.specs.Rules.{outermost}
use Rattle.gb_typing.specs.Typing.{IsForm}
use Rattle.gb_prog.specs.OracleJudged.{IsJudgedToKeep}
use Rattle.gb_prog.specs.Kept.{IsKeeping, IsThere}
use Rattle.gb_adv.specs.Oracles.{each_keeps, keeps}
use Rattle.gb_adv.proofs.KeptPairs.{oracle_there}
use Rattle.gb_adv.proofs.OracleGoals.{IsKnownType}
use Rattle.gb_adv.proofs.Property.{property, property_is}

module _ (ds : Declarations) (b : Context) (g : Setting) (fits : IsSettingOf b g)
    (knows : (o : ProcRef) (t : ProcedureType) → procedure_type ds None o ≡ Some t → procedure b o ≡ Some t)
    (outer : IsSettingOf (outermost b) g) (j : Judge) (fair : IsFair g j) (v : State) (i : Term) (w : IsForm (reframed (outermost b) (Some []) None None) i) where
  one_kept : (o : ProcRef) (t : ProcedureType) → procedure_type ds None o ≡ Some t → Stands g j v (keeps i o) → IsKeeping ds g (property b g outer j fair v i w) o
  one_kept o t e stands = let x : IsThere ds g o = oracle_there ds b g fits knows o t e in record { there = x; judged = judged x.means x.there }
    where
      judged : (r : Routine) → g.procedure o ≡ Some r → IsJudgedToKeep g (property b g outer j fair v i w) r
      judged r there m is =
          subst (λ z. Every (λ a. property b g outer j fair v i w a.globals ≡ true) (from_frame g z m)) there
          (Every-weaken {P = λ n. IsTrueUnder g j i (at v n)} (from_frame g (g.procedure o) m) (λ n h. sym (property_is b g outer j fair v i w n) ∙ h) (stands m (property_is b g outer j fair v i w m ∙ is)))

  pub each_kept : (os : List ProcRef) → AllByRecursion (IsKnownType ds) os → AllByRecursion (Stands g j v) (each_keeps i os) → AllByRecursion (IsKeeping ds g (property b g outer j fair v i w)) os
  each_kept [] k h = tt
  each_kept (o ∷ os) k h = (one_kept o k.0.0 k.0.1 h.0, each_kept os k.1 h.1)
