-- Conclusions in front of which modules are quantified are no judgments.
use Rattle.std.proofs.Common.{◌≡◌, true, refl, sym, subst}
use Rattle.std.proofs.lemmas.Bool.{false≢true}
use Rattle.gb_terms.specs.declared.op.Op.TheVariants.{Implies}
use Rattle.gb_terms.specs.declared.term.Term.{Term, Term', end_of-Head, more_of-Head}
use Rattle.gb_terms.specs.declared.term.Head.TheVariants as head
use Rattle.gb_meaning.specs.Truth.{has_module}
use Rattle.gb_goal.specs.Goal.{goal_at, goal_of}
use Rattle.gb_goal.specs.Goal.Goal.{ambient}
use Rattle.gb_laws.proofs.Trees.{out_is}

pub front_ambient : (f : Term) → has_module f ≡ true → goal_of f ≡ ambient f
front_ambient (Term' p (more_of-Head (head.AllModule b) end_of-Head) n ts t) e =
    let f : Term = Term' p (more_of-Head (head.AllModule b) end_of-Head) n ts t in
    subst (λ x. goal_at f x.head x.args ≡ ambient f) (sym (out_is (head.AllModule b) n ts t)) refl
front_ambient (Term' p (more_of-Head (head.All u) end_of-Head) n ts t) e =
    let f : Term = Term' p (more_of-Head (head.All u) end_of-Head) n ts t in
    subst (λ x. goal_at f x.head x.args ≡ ambient f) (sym (out_is (head.All u) n ts t)) refl
front_ambient (Term' p (more_of-Head head.AllMemory end_of-Head) n ts t) e =
    let f : Term = Term' p (more_of-Head head.AllMemory end_of-Head) n ts t in
    subst (λ x. goal_at f x.head x.args ≡ ambient f) (sym (out_is head.AllMemory n ts t)) refl
front_ambient (Term' p (more_of-Head (head.Builtin Implies) end_of-Head) n ts t) e =
    let f : Term = Term' p (more_of-Head (head.Builtin Implies) end_of-Head) n ts t in
    subst (λ x. goal_at f x.head x.args ≡ ambient f) (sym (out_is (head.Builtin Implies) n ts t)) refl
front_ambient _ e = absurd (false≢true e)
