-- The modules that the statement of a lemma binds stand under new names.
use Rattle.std.proofs.Common.{◌≡◌, List, ◌++◌, ap, sym, ◌∙◌, subst}
use Rattle.std.specs.Prelude.{Result, Ok, Err, IfOk}
use Rattle.gb_core.specs.declared.refusal.Refused.{Refused}
use Rattle.gb_goal.specs.Answers.{Answer, ◌>>=◌}
use Rattle.gb_goal.specs.Answers.Answer.{given}
use Rattle.gb_goal.specs.Binders.{binder_entries}
use Rattle.gb_goal.specs.Scope.{Declarations, AreNew}
use Rattle.gb_goal.specs.declared.sequent.Sequent.{Sequent}
use Rattle.gb_script.specs.declared.tree.Node.{Node}
use Rattle.gb_elab_prog.specs.Contexts.{all_bound, around, nothing_bound}
use Rattle.gb_elab_prog.specs.Fresh.{free}
use Rattle.gb_elab_prog.specs.declared.context.Bound.{Bound}
use Rattle.gb_elab_mod.specs.Lemmas.{claimed, stated}

pub new_modules : (ds : Declarations) (b : Bound) (r : Result Sequent Refused) → AreNew ds (binder_entries b.modules) → IfOk r (λ q. q.modules ≡ b.modules) → IfOk r (λ q. AreNew ds (binder_entries q.modules))
new_modules ds b (Ok q) n e = subst (λ ms. AreNew ds (binder_entries ms)) (sym e) n
new_modules ds b (Err e) n h = tt

-- under a new name, a lemma states its form in the context of its binders, where its modules are declared
pub stated_is : (ds : Declarations) (x : Node) (bs : List Node) (t : Node) (b : Bound) (all : Declarations) → free ds x ≡ given tt → all_bound ds nothing_bound bs ≡ given b → all ≡ ds ++ binder_entries b.modules →
    stated ds x bs t ≡ claimed all b t
unfolding stated
stated_is ds x bs t b all e f h =
    ap (λ (a : Answer (Unit {0})). a >>= λ _. all_bound ds nothing_bound bs >>= λ c. claimed (around ds c) c t) e
    ∙ ap (λ (a : Answer Bound). a >>= λ c. claimed (around ds c) c t) f
    ∙ ap (λ (z : Declarations). claimed z b t) (sym h)
