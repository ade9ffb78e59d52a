-- The loops that the subgoals of rules on judgments with a probability reach.
use Rattle.std.proofs.Common.{◌≡◌, zero, suc, ℤ, pos, negsuc, List, [], ◌∷◌, Option, Some, None, refl, subst}
use Rattle.std.specs.List.{AllByRecursion}
use Rattle.gb_core.specs.declared.refusal.Why.TheVariants.{NotLossless, Shape, SideCondition}
use Rattle.gb_core.specs.declared.var.Var.{Var}
use Rattle.gb_terms.specs.declared.decl.TypedName.{TypedName}
use Rattle.gb_terms.specs.declared.op.Rel.{Rel}
use Rattle.gb_terms.specs.declared.op.Rel.TheVariants.{AtMost, Equal, AtLeast}
use Rattle.gb_terms.specs.declared.op.Side.TheVariants.{Own}
use Rattle.gb_terms.specs.declared.term.Instr.{Instr}
use Rattle.gb_terms.specs.declared.term.Term.{Term}
use Rattle.gb_meaning.specs.Setting.{Setting}
use Rattle.gb_goal.specs.Answers.Answer.{given}
use Rattle.gb_goal.specs.Goal.{Code, Goal}
use Rattle.gb_goal.specs.Goal.Code.{body, procedure}
use Rattle.gb_goal.specs.Goal.Goal.{hoare, phoare, equiv, ambient}
use Rattle.gb_goal.specs.Scope.{Declarations}
use Rattle.gb_mods.specs.Exclusions.{exclusions}
use Rattle.gb_meaning.specs.Declared.{declared}
use Rattle.gb_steps.specs.declared.step.Rule.{Rule}
use Rattle.gb_steps.specs.declared.step.Rule.TheVariants.{OnBodies, Relational, Chance, Probability, Call, CallKnown, Abstract, While, Transform, Ambient, Use, Rewrite, Smt, Linear}
use Rattle.gb_steps.specs.declared.step.ChanceRule.TheVariants.{Rnd, Hoare}
use Rattle.gb_typing.specs.Context.{Context}
use Rattle.gb_typing.specs.Goals.{IsGoalOver}
use Rattle.gb_typing.specs.Programs.{IsBody}
use Rattle.gb_typing.specs.Samplings.{Sampling, last_sampling}
use Rattle.gb_typing.proofs.Given.{refused_given, same_given}
use Rattle.gb_prog.specs.Compared.{literal}
use Rattle.gb_full.specs.Loss.{Loss, nowhere, sampled, called, code_loss, first_loss}
use Rattle.gb_equiv.specs.Drawn.{clashing}
use Rattle.gb_full.specs.Lossless.{full, of_rest}
use Rattle.gb_pr.specs.Hoare.{at_least_goals, exactly, hoare_row}
use Rattle.gb_pr.specs.Rnd.{by_end, rnd_row, unless_clash, without_sampling}
use Rattle.gb_pr.specs.ChanceRows.{rule_row}
use Rattle.gb_prog.specs.Ends.{KeepsEnds, LoopsEnd}
use Rattle.gb_accepted.proofs.BodiesEnd.{given_bind}
use Rattle.gb_accepted.proofs.RelationalEnd.{sampled_ends}

module _ (g : Setting) where
  abbrev Leads : List Goal → Goal → Type 0
  Leads Gs G = LoopsEnd g G → AllByRecursion (LoopsEnd g) Gs

  pub rest_ends : (l : Loss) (r : Rel) (b : Term) (H G : Goal) (Gs : List Goal) → of_rest l r b H ≡ given Gs → (LoopsEnd g G → LoopsEnd g H) → Leads Gs G
  rest_ends nowhere r b H G Gs e f = subst (λ Gs. Leads Gs G) (same_given (H ∷ []) Gs e) (λ h. (f h, tt))
  rest_ends (sampled x) AtMost b H G Gs e f = subst (λ Gs. Leads Gs G) (same_given _ Gs e) (λ h. (f h, (tt, tt)))
  rest_ends called AtMost b H G Gs e f = subst (λ Gs. Leads Gs G) (same_given _ Gs e) (λ h. (f h, (tt, tt)))
  rest_ends (sampled x) Equal b H G Gs e f = refused_given (NotLossless x) Gs e
  rest_ends (sampled x) AtLeast b H G Gs e f = refused_given (NotLossless x) Gs e
  rest_ends called Equal b H G Gs e f = refused_given Shape Gs e
  rest_ends called AtLeast b H G Gs e f = refused_given Shape Gs e

  module _ (ds : Declarations) (c : Context) (ls rs : List TypedName) where
    by_sampling : (is : List Instr) (r : Rel) (p q b : Term) → IsBody c ls is → (Gs : List Goal) (o : Option Sampling) → last_sampling is ≡ o → by_end ds r p q b o ≡ given Gs → Leads Gs (phoare (body is) r p q b)
    by_sampling is r p q b w Gs None k e = refused_given Shape Gs e
    by_sampling is r p q b w Gs (Some x) k e = by_clash (clashing (exclusions ds) Own x.target q) e
      where
        by_clash : (o : Option Var) → unless_clash o (of_rest (first_loss ds x.before) r b (without_sampling x r p q b)) ≡ given Gs → Leads Gs (phoare (body is) r p q b)
        by_clash None e = rest_ends (first_loss ds x.before) r b (without_sampling x r p q b) (phoare (body is) r p q b) Gs e (sampled_ends g c ls is x w k)
        by_clash (Some z) e = refused_given (SideCondition z) Gs e

    rnd_ends : (G : Goal) → IsGoalOver c ls rs G → (Gs : List Goal) → rnd_row ds G ≡ given Gs → Leads Gs G
    rnd_ends (phoare (body is) r p q b) w Gs e = by_sampling is r p q b w.0 Gs (last_sampling is) refl e
    rnd_ends (phoare (procedure a) r p q b) w Gs e = refused_given Shape Gs e
    rnd_ends (hoare a p q) w Gs e = refused_given Shape Gs e
    rnd_ends (equiv a b p q) w Gs e = refused_given Shape Gs e
    rnd_ends (ambient f) w Gs e = refused_given Shape Gs e

  exactly_ends : (a : Code) (p q b : Term) (l : Loss) (n : Option ℤ) (Gs : List Goal) → exactly a p q l n ≡ given Gs → Leads Gs (phoare a Equal p q b)
  exactly_ends a p q b l (Some (pos zero)) Gs e = subst (λ Gs. Leads Gs (phoare a Equal p q b)) (same_given _ Gs e) (λ h. (h, tt))
  exactly_ends a p q b l (Some (pos (suc zero))) Gs e = let z = given_bind (full l) _ Gs e in subst (λ Gs. Leads Gs (phoare a Equal p q b)) (same_given _ Gs z.2) (λ h. (h, tt))
  exactly_ends a p q b l (Some (pos (suc (suc n)))) Gs e = refused_given Shape Gs e
  exactly_ends a p q b l (Some (negsuc n)) Gs e = refused_given Shape Gs e
  exactly_ends a p q b l None Gs e = refused_given Shape Gs e

  hoare_ends : (ds : Declarations) (G : Goal) (Gs : List Goal) → hoare_row ds G ≡ given Gs → Leads Gs G
  hoare_ends ds (phoare a AtMost p q b) Gs e = subst (λ Gs. Leads Gs (phoare a AtMost p q b)) (same_given _ Gs e) (λ h. (h, (tt, tt)))
  hoare_ends ds (phoare a AtLeast p q b) Gs e =
      let z = given_bind (full (code_loss ds a)) _ Gs e in subst (λ Gs. Leads Gs (phoare a AtLeast p q b)) (same_given (at_least_goals a p q b) Gs z.2) (λ h. (h, (tt, tt)))
  hoare_ends ds (phoare a Equal p q b) Gs e = exactly_ends a p q b (code_loss ds a) (literal b) Gs e
  hoare_ends ds (hoare a p q) Gs e = refused_given Shape Gs e
  hoare_ends ds (equiv a b p q) Gs e = refused_given Shape Gs e
  hoare_ends ds (ambient f) Gs e = refused_given Shape Gs e

pub chances_end : (ds : Declarations) (c : Context) (ls rs : List TypedName) (r : Rule) (G : Goal) → IsGoalOver c ls rs G → (Gs : List Goal) → rule_row ds r G ≡ given Gs → KeepsEnds (declared ds) Gs G
chances_end ds c ls rs (Chance Rnd) G w Gs e g over = rnd_ends g ds c ls rs G w Gs e
chances_end ds c ls rs (Chance Hoare) G w Gs e g over = hoare_ends g ds G Gs e
chances_end ds c ls rs (Probability r) G w Gs e g over = refused_given Shape Gs e
chances_end ds c ls rs (OnBodies r) G w Gs e g over = refused_given Shape Gs e
chances_end ds c ls rs (Relational r) G w Gs e g over = refused_given Shape Gs e
chances_end ds c ls rs (Call r) G w Gs e g over = refused_given Shape Gs e
chances_end ds c ls rs (CallKnown a r) G w Gs e g over = refused_given Shape Gs e
chances_end ds c ls rs (Abstract k) G w Gs e g over = refused_given Shape Gs e
chances_end ds c ls rs (While r) G w Gs e g over = refused_given Shape Gs e
chances_end ds c ls rs (Transform a r) G w Gs e g over = refused_given Shape Gs e
chances_end ds c ls rs (Ambient r) G w Gs e g over = refused_given Shape Gs e
chances_end ds c ls rs (Use r) G w Gs e g over = refused_given Shape Gs e
chances_end ds c ls rs (Rewrite r) G w Gs e g over = refused_given Shape Gs e
chances_end ds c ls rs (Smt fs) G w Gs e g over = refused_given Shape Gs e
chances_end ds c ls rs (Linear ms) G w Gs e g over = refused_given Shape Gs e
