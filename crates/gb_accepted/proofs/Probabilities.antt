-- The rules on probabilities refuse goals in front of which a module is quantified, and what they give reaches no loops.
use Rattle.std.proofs.Common.{◌≡◌, Bool, true, false, ◌&&◌, if◌then◌else◌, List, [], Option, Some, None, ap, subst}
use Rattle.std.proofs.lemmas.Bool.{false≢true}
use Rattle.std.specs.List.{AllByRecursion}
use Rattle.gb_core.specs.declared.refusal.Why.TheVariants.{Shape}
use Rattle.gb_terms.specs.declared.decl.Proc.{Proc}
use Rattle.gb_terms.specs.declared.op.Op.TheVariants.{Implies}
use Rattle.gb_terms.specs.declared.op.Rel.{Rel}
use Rattle.gb_terms.specs.declared.term.Term.{Term, Term', end_of-Head, more_of-Head}
use Rattle.gb_terms.specs.declared.term.Head.TheVariants as head
use Rattle.gb_goal.specs.Answers.Answer.{given}
use Rattle.gb_goal.specs.Goal.{Goal}
use Rattle.gb_goal.specs.Goal.Goal.{hoare, phoare, equiv, ambient}
use Rattle.gb_goal.specs.Rows.{refusing}
use Rattle.gb_goal.specs.Scope.{Declarations, procedure_of}
use Rattle.gb_steps.specs.declared.step.Conditions.{Conditions}
use Rattle.gb_steps.specs.declared.step.ProbabilityRule.{ProbabilityRule}
use Rattle.gb_steps.specs.declared.step.ProbabilityRule.TheVariants.{ByEquiv, ByPhoare, ByEvents, Within}
use Rattle.gb_steps.specs.declared.step.Rule.TheVariants.{Probability}
use Rattle.gb_steps.specs.Chances.{Bounded, Compared, bounded_in, bounded_of, chances_in, chances_of, compared_at, compared_of}
use Rattle.gb_meaning.specs.Setting.{Setting}
use Rattle.gb_laws.proofs.Trees.{out_is}
use Rattle.gb_meaning.specs.Truth.{has_module}
use Rattle.gb_typing.proofs.Given.{refused_given, same_given}
use Rattle.gb_prog.specs.Compared.{literal}
use Rattle.gb_pr.specs.ByEquiv.{by_equiv_at, by_equiv_goals, by_equiv_of}
use Rattle.gb_pr.specs.ByEvents.{by_events_goals, by_events_of, is_kept, same_rel, same_start, within_of}
use Rattle.gb_pr.specs.ByPhoare.{by_phoare_at, by_phoare_goals, by_phoare_of}
use Rattle.gb_pr.specs.Rows.{rule_row}
use Rattle.gb_prog.specs.Ends.{LoopsEnd}

-- what begins with a quantifier or a premise compares nothing
none_compared : (f : Term) → has_module f ≡ true → compared_of f ≡ None
none_compared (Term' p (more_of-Head (head.AllModule b) end_of-Head) n ts t) e = ap (λ x. compared_at x.head x.args) (out_is (head.AllModule b) n ts t)
none_compared (Term' p (more_of-Head (head.All u) end_of-Head) n ts t) e = ap (λ x. compared_at x.head x.args) (out_is (head.All u) n ts t)
none_compared (Term' p (more_of-Head head.AllMemory end_of-Head) n ts t) e = ap (λ x. compared_at x.head x.args) (out_is head.AllMemory n ts t)
none_compared (Term' p (more_of-Head (head.Builtin Implies) end_of-Head) n ts t) e = ap (λ x. compared_at x.head x.args) (out_is (head.Builtin Implies) n ts t)
none_compared _ e = absurd (false≢true e)

pub probabilities_refuse : (ds : Declarations) (r : ProbabilityRule) (f : Term) → has_module f ≡ true → rule_row ds (Probability r) (ambient f) ≡ refusing Shape
probabilities_refuse ds (ByPhoare s) f e = ap (λ o. by_phoare_at ds s (bounded_in o)) (none_compared f e)
probabilities_refuse ds (ByEquiv s) f e = ap (λ o. by_equiv_at ds s (chances_in o)) (none_compared f e)
probabilities_refuse ds (ByEvents r) f e = ap (λ o. by_events_of r (chances_in o)) (none_compared f e)
probabilities_refuse ds (Within r) f e = ap (λ o. within_of r (bounded_in o)) (none_compared f e)

-- a judgment of procedures reaches no loops by itself, and a form on events has none
module _ (g : Setting) where
  abbrev End : List Goal → Type 0
  End Gs = AllByRecursion (LoopsEnd g) Gs

  by_phoare_ends : (s : Conditions) (b : Bounded) (o : Option Proc) (Gs : List Goal) → by_phoare_of s b o ≡ given Gs → End Gs
  by_phoare_ends s b None Gs e = refused_given Shape Gs e
  by_phoare_ends s b (Some p) Gs e = subst End (same_given (by_phoare_goals p.params s b) Gs e) (tt, (tt, (tt, tt)))

  by_equiv_ends : (s : Conditions) (k : Compared) (o u : Option Proc) (Gs : List Goal) → by_equiv_of s k o u ≡ given Gs → End Gs
  by_equiv_ends s k (Some p) (Some q) Gs e = subst End (same_given (by_equiv_goals p.params q.params s k) Gs e) ((tt, tt), (tt, (tt, tt)))
  by_equiv_ends s k None u Gs e = refused_given Shape Gs e
  by_equiv_ends s k (Some p) None Gs e = refused_given Shape Gs e

  bounded_ends : (ds : Declarations) (s : Conditions) (o : Option Bounded) (Gs : List Goal) → by_phoare_at ds s o ≡ given Gs → End Gs
  bounded_ends ds s None Gs e = refused_given Shape Gs e
  bounded_ends ds s (Some b) Gs e = by_phoare_ends s b (procedure_of ds b.chance.procedure) Gs e

  compared_ends : (ds : Declarations) (s : Conditions) (o : Option Compared) (Gs : List Goal) → by_equiv_at ds s o ≡ given Gs → End Gs
  compared_ends ds s None Gs e = refused_given Shape Gs e
  compared_ends ds s (Some k) Gs e = by_equiv_ends s k (procedure_of ds k.left.procedure) (procedure_of ds k.right.procedure) Gs e

  if_end : (b : Bool) (Hs Gs : List Goal) → End Hs → (if b then given Hs else refusing Shape) ≡ given Gs → End Gs
  if_end true Hs Gs h e = subst End (same_given Hs Gs e) h
  if_end false Hs Gs h e = refused_given Shape Gs e

  events_end : (r : Rel) (o : Option Compared) (Gs : List Goal) → by_events_of r o ≡ given Gs → End Gs
  events_end r None Gs e = refused_given Shape Gs e
  events_end r (Some k) Gs e = if_end (same_rel r k.rel && same_start k.left k.right) (by_events_goals k) Gs (tt, tt) e

  within_end : (r : Rel) (o : Option Bounded) (Gs : List Goal) → within_of r o ≡ given Gs → End Gs
  within_end r None Gs e = refused_given Shape Gs e
  within_end r (Some b) Gs e = if_end (is_kept r b.rel (literal b.bound)) [] Gs tt e

  pub probabilities_end : (ds : Declarations) (r : ProbabilityRule) (G : Goal) (Gs : List Goal) → rule_row ds (Probability r) G ≡ given Gs → End Gs
  probabilities_end ds (ByPhoare s) (ambient f) Gs e = bounded_ends ds s (bounded_of f) Gs e
  probabilities_end ds (ByPhoare s) (hoare a p q) Gs e = refused_given Shape Gs e
  probabilities_end ds (ByPhoare s) (phoare a r p q b) Gs e = refused_given Shape Gs e
  probabilities_end ds (ByPhoare s) (equiv a b p q) Gs e = refused_given Shape Gs e
  probabilities_end ds (ByEquiv s) (ambient f) Gs e = compared_ends ds s (chances_of f) Gs e
  probabilities_end ds (ByEquiv s) (hoare a p q) Gs e = refused_given Shape Gs e
  probabilities_end ds (ByEquiv s) (phoare a r p q b) Gs e = refused_given Shape Gs e
  probabilities_end ds (ByEquiv s) (equiv a b p q) Gs e = refused_given Shape Gs e
  probabilities_end ds (ByEvents r) (ambient f) Gs e = events_end r (chances_of f) Gs e
  probabilities_end ds (ByEvents r) (hoare a p q) Gs e = refused_given Shape Gs e
  probabilities_end ds (ByEvents r) (phoare a s p q b) Gs e = refused_given Shape Gs e
  probabilities_end ds (ByEvents r) (equiv a b p q) Gs e = refused_given Shape Gs e
  probabilities_end ds (Within r) (ambient f) Gs e = within_end r (bounded_of f) Gs e
  probabilities_end ds (Within r) (hoare a p q) Gs e = refused_given Shape Gs e
  probabilities_end ds (Within r) (phoare a s p q b) Gs e = refused_given Shape Gs e
  probabilities_end ds (Within r) (equiv a b p q) Gs e = refused_given Shape Gs e
