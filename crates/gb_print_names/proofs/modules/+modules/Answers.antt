use Rattle.std.proofs.Common.{codes, ap, ◌∙◌}
use Rattle.gb_print_names.specs.Text.{◌▸◌, word}
use Rattle.gb_print_names.specs.Modules.{module_text}
use Rattle.gb_print_names.proofs.Lists.{each_made_more}
use Rattle.gb_print_names.proofs.modules.+modules.Goals as goal

pub put_modules-loop-m-preserved : goal.put_modules-loop-m-preserved
put_modules-loop-m-preserved t c =
    each_made_more _ c.loop-m.m-index c.m-item.result c.loop-m-test.true c.m-item.is module_text (λ m. word (codes ", ") ▸ m c.args.bound.now) c.loop-m.text _ _
    (c.in_ok-put_module-2.ensures ∙ ap (module_text c.m-item.result c.args.bound.now) c.in_ok-put.ensures) c.loop-m.invariant
