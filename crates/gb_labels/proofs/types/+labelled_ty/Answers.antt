use Rattle.std.proofs.Common.{◌≡◌, false, sym, ap, subst, IfOk, ◌∙◌}
use Rattle.gb_labels.specs.Things.{holds_glob}
use Rattle.gb_labels.proofs.Parts.{globless_kept}
use Rattle.gb_labels.proofs.types.+labelled_ty.Goals as goal

pub labelled_part-returns-else-holds_glob : goal.labelled_part-returns-else-holds_glob
labelled_part-returns-else-holds_glob t c =
    let none : holds_glob c.args.ty.now ≡ false = ap holds_glob (sym c.get.ensures) ∙ sym c.holds_glob.ensures ∙ c.if-holds_glob.false in
    subst (λ x. IfOk c.share.result (λ made. made ≡ x)) (sym (globless_kept c.args.list.now c.args.ty.now none)) c.share.ensures
