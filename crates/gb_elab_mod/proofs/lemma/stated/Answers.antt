-- While the form is typed, the modules that are bound are declared.
use Rattle.std.proofs.Common.{◌++◌, ap, sym, subst, ◌∙◌}
use Rattle.gb_goal.specs.Answers.{Answers}
use Rattle.gb_goal.specs.Binders.{binder_entries}
use Rattle.gb_goal.specs.Scope.{AreNew}
use Rattle.gb_elab_mod.proofs.NewModules.{new_modules, stated_is}
use Rattle.gb_elab_mod.proofs.lemma.stated.Goals as goal

pub declare_all-requires : goal.declare_all-requires
declare_all-requires c =
    let made = c.in_ok-modules.ensures ∙ ap binder_entries c.as_slice.ensures in
    subst (AreNew c.args.scope.now) (sym made) c.in_ok-bound.ensures.new

pub returns-clause-answer : goal.returns-clause-answer
returns-clause-answer c =
    let ds = c.args.scope.now in
    let made = c.in_ok-modules.ensures ∙ ap binder_entries c.as_slice.ensures in
    let declared = c.in_ok-declare_all.ensures ∙ ap (λ es. ds ++ es) made in
    subst (λ a. Answers a c.claimed-statement.result)
    (sym (stated_is ds c.args.name.now c.args.binders.now c.args.form.now c.in_ok-bound.bound c.declare_all.new.self c.in_ok-refuse_declared.ensures.answer c.in_ok-bound.ensures.answer declared))
    c.claimed-statement.ensures.answer

pub returns-clause-new : goal.returns-clause-new
returns-clause-new c = new_modules c.args.scope.now c.in_ok-bound.bound c.claimed-statement.result c.in_ok-bound.ensures.new c.claimed-statement.ensures.modules
