use Rattle.std.proofs.Common.{option_copied, sym, ap, ◌∙◌}
use Rattle.gb_goal.specs.Binders.{binder_entries}
use Rattle.gb_elab_prog.proofs.AbstractModules.{taken_before, taken_behind}
use Rattle.gb_elab_prog.proofs.context.is_taken.Goals as goal

pub returns-in-Some : goal.returns-in-Some
returns-in-Some c = sym (taken_before c.args.scope.now (binder_entries c.args.binds.now) c.args.name.now _ (sym c.entry.ensures ∙ ap option_copied c.in-Some.is))

pub returns-in-None : goal.returns-in-None
returns-in-None c =
    c.is_bound.ensures ∙ sym (taken_behind c.args.scope.now (binder_entries c.args.binds.now) c.args.name.now (sym c.entry.ensures ∙ ap option_copied c.in-None.is))
