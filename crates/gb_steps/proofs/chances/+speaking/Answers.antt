use Rattle.std.proofs.Common.{◌||◌, sym, ap, ◌∙◌}
use Rattle.std.specs.List.{list_any}
use Rattle.gb_terms.specs.declared.term.Term.{out-Term}
use Rattle.gb_steps.specs.Chances.{head_speaks, speaks}
use Rattle.gb_steps.proofs.Parts.{speaks_out}
use Rattle.gb_steps.proofs.chances.+speaking.Goals as goal

pub speaks-returns-else-head_speaks : goal.speaks-returns-else-head_speaks
speaks-returns-else-head_speaks t c =
    let term = c.args.term.now in
    let reads = c.args.reads in
    let head = sym c.if-head_speaks.false ∙ c.head_speaks.ensures ∙ ap (head_speaks reads) c.get.ensures in
    c.any_speaks.ensures
    ∙ ap (list_any (speaks reads)) c.as_slice.ensures
    ∙ ap (λ b. b || list_any (speaks reads) (out-Term term).args) head
    ∙ sym (speaks_out term reads)
