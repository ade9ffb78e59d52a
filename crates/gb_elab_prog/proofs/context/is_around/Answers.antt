use Rattle.std.proofs.Common.{option_copied, sym, ap, ◌∙◌}
use Rattle.gb_elab_prog.proofs.AbstractModules.{declared_module, other_module}
use Rattle.gb_elab_prog.proofs.context.is_around.Goals as goal

pub returns-in-Some : goal.returns-in-Some
returns-in-Some c =
    c.is_module.ensures ∙ sym (declared_module c.args.scope.now c.args.binds.now c.args.name.now c.in-Some.entry.now (sym c.entry.ensures ∙ ap option_copied c.in-Some.is))

pub returns-in-None : goal.returns-in-None
returns-in-None c = c.is_bound.ensures ∙ sym (other_module c.args.scope.now c.args.binds.now c.args.name.now (sym c.entry.ensures ∙ ap option_copied c.in-None.is))
