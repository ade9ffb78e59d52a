-- Rules on judgments with a probability keep names.
use Rattle.std.proofs.Common.{◌≡◌, ℤ, zero, suc, pos, negsuc, List, [], ◌∷◌, Option, Some, None, refl, subst}
use Rattle.gb_core.specs.declared.refusal.Why.TheVariants.{Shape, NotLossless, SideCondition}
use Rattle.gb_core.specs.declared.ty.Ty.TheVariants as ty
use Rattle.gb_core.specs.declared.var.Var.{Var}
use Rattle.gb_terms.specs.declared.op.Rel.{Rel}
use Rattle.gb_terms.specs.declared.op.Rel.TheVariants.{AtMost, Equal, AtLeast}
use Rattle.gb_terms.specs.declared.op.Read.TheVariants.{Program}
use Rattle.gb_terms.specs.declared.op.Side.TheVariants.{Own}
use Rattle.gb_terms.specs.declared.term.Term.{Term}
use Rattle.gb_terms.specs.declared.term.Head.TheVariants.{Mu}
use Rattle.gb_walk.specs.declared.change.Change.TheVariants.{ToTerm}
use Rattle.gb_steps.specs.declared.step.ChanceRule.{ChanceRule}
use Rattle.gb_steps.specs.declared.step.ChanceRule.TheVariants.{Rnd, Hoare}
use Rattle.gb_goal.specs.Answers.{Answer}
use Rattle.gb_goal.specs.Answers.Answer.{given}
use Rattle.gb_goal.specs.Goal.{Code, Goal}
use Rattle.gb_goal.specs.Goal.Code.{body, procedure}
use Rattle.gb_goal.specs.Goal.Goal.{hoare, phoare, equiv, ambient}
use Rattle.gb_goal.specs.Scope.{Declarations}
use Rattle.gb_mods.specs.Exclusions.{exclusions}
use Rattle.gb_typing.specs.Samplings.{Sampling, last_sampling}
use Rattle.gb_typing.specs.Supports.{nearest}
use Rattle.gb_typing.proofs.Given.{refused_given, same_given}
use Rattle.gb_prog.specs.Compared as real
use Rattle.gb_prog.specs.Compared.{literal}
use Rattle.gb_full.specs.Loss.{Loss, nowhere, sampled, called, first_loss, code_loss}
use Rattle.gb_equiv.specs.Drawn.{clashing}
use Rattle.gb_full.specs.Lossless.{full, of_rest}
use Rattle.gb_pr.specs.Hoare.{never, at_most_goals, at_least_goals, exactly, hoare_row}
use Rattle.gb_pr.specs.Rnd.{measured, without_sampling, unless_clash, by_end, rnd_row}
use Rattle.gb_pr.specs.ChanceRows.{chance_row}
use Rattle.gb_print_names.specs.declared.bound_names.Enumeration.{Enumeration}
use Rattle.gb_shown.specs.Named.{IsNamed, IsNamedCode, IsNamedGoal}
use Rattle.gb_shown.specs.Rules.{KeepsNames}
use Rattle.gb_shown.proofs.SpeltTrees.{node_named}
use Rattle.gb_shown.proofs.Changed.{changed_named}
use Rattle.gb_shown.proofs.SpeltForms.{not_named, at_most_named, compared_named, number_named}
use Rattle.gb_shown.proofs.Programs.{AllOf, given_bind}
use Rattle.gb_shown.proofs.Samplings.{NamedSampling, last_named, nearest_named}

module _ (es : List Enumeration) where
  -- what is left of a body and a bound, where the rest may lose weight
  pub rest_keeps : (l : Loss) (r : Rel) (b : Term) (G : Goal) (Gs : List Goal) → IsNamed es b → IsNamedGoal es G → of_rest l r b G ≡ given Gs → AllOf es Gs
  rest_keeps nowhere r b G Gs x h e = subst (AllOf es) (same_given (G ∷ []) Gs e) (h, tt)
  rest_keeps (sampled v) AtMost b G Gs x h e = subst (AllOf es) (same_given _ Gs e) (h, (compared_named es AtMost real.zero b (number_named es 0 refl) x, tt))
  rest_keeps (sampled v) Equal b G Gs x h e = refused_given (NotLossless v) Gs e
  rest_keeps (sampled v) AtLeast b G Gs x h e = refused_given (NotLossless v) Gs e
  rest_keeps called AtMost b G Gs x h e = subst (AllOf es) (same_given _ Gs e) (h, (compared_named es AtMost real.zero b (number_named es 0 refl) x, tt))
  rest_keeps called Equal b G Gs x h e = refused_given Shape Gs e
  rest_keeps called AtLeast b G Gs x h e = refused_given Shape Gs e

  measured_named : (x : Sampling) (q : Term) → NamedSampling es x → IsNamed es q → IsNamed es (measured x q)
  measured_named x q m k = node_named es Mu _ ty.Real tt tt (m.from, (changed_named es q (ToTerm (Program x.target Own) (nearest x.ty) ∷ []) (nearest_named es x.ty m.ty, tt) k, tt))

  unless_keeps : (o : Option Var) (a : Answer (List Goal)) (Gs : List Goal) → unless_clash o a ≡ given Gs → a ≡ given Gs
  unless_keeps None a Gs e = e
  unless_keeps (Some z) a Gs e = refused_given (SideCondition z) Gs e

  end_keeps : (ds : Declarations) (r : Rel) (p q b : Term) (Gs : List Goal) → IsNamed es p → IsNamed es q → IsNamed es b → (s : Option Sampling) → ((x : Sampling) → s ≡ Some x → NamedSampling es x) → by_end ds r p q b s ≡ given Gs → AllOf es Gs
  end_keeps ds r p q b Gs u v w None f e = refused_given Shape Gs e
  end_keeps ds r p q b Gs u v w (Some x) f e =
      let m = f x refl in
      rest_keeps (first_loss ds x.before) r b (without_sampling x r p q b) Gs w (m.before, u, compared_named es r (measured x q) b (measured_named x q m v) w) (unless_keeps (clashing (exclusions ds) Own x.target q) _ Gs e)

  rnd_keeps : (ds : Declarations) → KeepsNames es (rnd_row ds)
  rnd_keeps ds (phoare (body is) r p q b) h Gs e = end_keeps ds r p q b Gs h.1 h.2 h.3 (last_sampling is) (λ x i. last_named es is h.0 x i) e
  rnd_keeps ds (phoare (procedure a) r p q b) h Gs e = refused_given Shape Gs e
  rnd_keeps ds (hoare a p q) h Gs e = refused_given Shape Gs e
  rnd_keeps ds (equiv a b p q) h Gs e = refused_given Shape Gs e
  rnd_keeps ds (ambient f) h Gs e = refused_given Shape Gs e

  never_named : (a : Code) (p q : Term) → IsNamedCode es a → IsNamed es p → IsNamed es q → IsNamedGoal es (never a p q)
  never_named a p q x y z = (x, y, not_named es q z)

  exactly_keep : (a : Code) (p q : Term) (l : Loss) (Gs : List Goal) → IsNamedCode es a → IsNamed es p → IsNamed es q → (n : Option ℤ) → exactly a p q l n ≡ given Gs → AllOf es Gs
  exactly_keep a p q l Gs x y z (Some (pos zero)) e = subst (AllOf es) (same_given _ Gs e) (never_named a p q x y z, tt)
  exactly_keep a p q l Gs x y z (Some (pos (suc zero))) e = let k = given_bind (full l) (λ _. given (hoare a p q ∷ [])) Gs e in subst (AllOf es) (same_given _ Gs k.2) ((x, y, z), tt)
  exactly_keep a p q l Gs x y z (Some (pos (suc (suc n)))) e = refused_given Shape Gs e
  exactly_keep a p q l Gs x y z (Some (negsuc n)) e = refused_given Shape Gs e
  exactly_keep a p q l Gs x y z None e = refused_given Shape Gs e

  hoare_keeps : (ds : Declarations) → KeepsNames es (hoare_row ds)
  hoare_keeps ds (phoare a AtMost p q b) h Gs e =
      subst (AllOf es) (same_given (at_most_goals a p q b) Gs e) (never_named a p q h.0 h.1 h.2, (at_most_named es real.zero b (number_named es 0 refl) h.3, tt))
  hoare_keeps ds (phoare a AtLeast p q b) h Gs e =
      let k = given_bind (full (code_loss ds a)) (λ _. given (at_least_goals a p q b)) Gs e in
      subst (AllOf es) (same_given (at_least_goals a p q b) Gs k.2) ((h.0, h.1, h.2), (at_most_named es b real.one h.3 (number_named es 1 refl), tt))
  hoare_keeps ds (phoare a Equal p q b) h Gs e = exactly_keep a p q (code_loss ds a) Gs h.0 h.1 h.2 (literal b) e
  hoare_keeps ds (hoare a p q) h Gs e = refused_given Shape Gs e
  hoare_keeps ds (equiv a b p q) h Gs e = refused_given Shape Gs e
  hoare_keeps ds (ambient f) h Gs e = refused_given Shape Gs e

  pub chances_keep : (ds : Declarations) (r : ChanceRule) → KeepsNames es (chance_row ds r)
  chances_keep ds Rnd = rnd_keeps ds
  chances_keep ds Hoare = hoare_keeps ds
