use Rattle.std.proofs.Common.{rules, ap}
use Rattle.gb_script.specs.Tree.{text_of}
use Rattle.gb_terms.specs.declared.module.Bind.{Bind}
use Rattle.gb_elab_prog.proofs.AbstractModules.{module_new}
use Rattle.gb_elab_prog.proofs.context.bind_module.Goals as goal

pub returns-clause-new : goal.returns-clause-new
returns-clause-new c = module_new c.args.scope.now c.args.bound.now.modules c.push.new.self _ (text_of c.args.name.now) (search rules) (ap (λ (b : Bind). b.name) c.in_ok-made.ensures) c.in_ok-push.ensures.ok
