use Rattle.std.proofs.Common.{sym, ◌∙◌}
use Rattle.gb_labels.proofs.Parts.{module_opt, module_opt_none}
use Rattle.gb_labels.proofs.types.module_of.Goals as goal

pub returns-in-Glob-get : goal.returns-in-Glob-get
returns-in-Glob-get c = sym (module_opt c.args.ty.now c.in-Opt.inner c.in-Glob-get.module c.in-Opt.is (sym c.get.ensures ∙ c.in-Glob-get.is))

pub returns-in_default-get : goal.returns-in_default-get
returns-in_default-get c = sym (module_opt_none c.args.ty.now c.in-Opt.inner c.in-Opt.is (λ m e. c.in_default-get.not-Glob m (c.get.ensures ∙ e)))
