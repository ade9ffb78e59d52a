use Rattle.std.proofs.Common.{sym, subst}
use Rattle.gb_print.specs.GoalText.{place_of_form}
use Rattle.gb_print.specs.Forms.{form_tree}
use Rattle.gb_print.specs.ReadBack.{IsReadAs}
use Rattle.gb_print.proofs.goal.print_form.Goals as goal

pub returns-clause-read : goal.returns-clause-read
returns-clause-read c = λ d.
    subst (λ bytes. IsReadAs bytes (form_tree c.args.t.now (place_of_form c.args.scope.now c.args.enumerations.now c.args.logical.now c.args.memories.now))) (sym c.in_ok-bytes.ensures)
    (c.printed_forms_are_read.ensures c.args.scope.now c.args.enumerations.now c.args.logical.now c.args.memories.now c.args.t.now d)
