-- What is refused where a variable clashes, step by step.
use Rattle.std.proofs.Common.{◌≡◌, ◌∙◌, List, Option, Some, None, refl, ap, sym, subst}
use Rattle.std.specs.Prelude.{Result}
use Rattle.gb_core.specs.declared.refusal.Refused.{Refused}
use Rattle.gb_core.specs.declared.refusal.Refused.TheVariants.{Script}
use Rattle.gb_core.specs.declared.refusal.Why.TheVariants.{SideCondition}
use Rattle.gb_core.specs.declared.var.Var.{Var}
use Rattle.gb_walk.specs.Clash.{Exclusions}
use Rattle.gb_goal.specs.Answers.{Answer, Answers, Fails, nowhere}
use Rattle.gb_goal.specs.Goal.{Goal}
use Rattle.gb_goal.specs.Rows.{each_concluding}
use Rattle.gb_goal.specs.declared.sequent.Sequent.{Sequent}
use Rattle.gb_call.specs.Call.{unless_clash}

-- a condition that holds, and one that fails
passes : (q : Sequent) (o : Option Var) (a : Answer (List Goal)) (r : Result (List Sequent) Refused) → ((x : Var) → o ≡ Some x → ⊥) → Answers (each_concluding q a) r →
    Answers (each_concluding q (unless_clash o a)) r
passes q None a r n h = h
passes q (Some x) a r n h = absurd (n x refl)

fails : (q : Sequent) (o : Option Var) (x : Var) (a : Answer (List Goal)) (r : Refused) → o ≡ Some x → r ≡ Script (SideCondition x) nowhere → Fails (each_concluding q (unless_clash o a)) r
fails q o x a r e f = subst (Fails (each_concluding q (unless_clash o a))) (sym f) (ap (λ u. each_concluding q (unless_clash u a)) e)

-- of exclusions that are known, where one was sought among these
module _ (q : Sequent) (xs ys : Exclusions) (e : xs ≡ ys) (m : Exclusions → Option Var) (a : Exclusions → Answer (List Goal)) (o : Option Var) (met : o ≡ m xs) where
  met_there : o ≡ m ys
  met_there = met ∙ ap m e

  pub clear_answers : (r : Result (List Sequent) Refused) → ((x : Var) → o ≡ Some x → ⊥) → Answers (each_concluding q (a xs)) r → Answers (each_concluding q (unless_clash (m ys) (a ys))) r
  clear_answers r n h = passes q (m ys) (a ys) r (λ x f. n x (met_there ∙ f)) (subst (λ z. Answers (each_concluding q (a z)) r) e h)

  pub clash_fails : (x : Var) (r : Refused) → o ≡ Some x → r ≡ Script (SideCondition x) nowhere → Fails (each_concluding q (unless_clash (m ys) (a ys))) r
  clash_fails x r f g = fails q (m ys) x (a ys) r (sym met_there ∙ f) g
