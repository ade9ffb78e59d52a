use Rattle.std.proofs.Common.{ap, sym, ◌∙◌}
use Rattle.gb_script.specs.Tree.{head_of, place_of}
use Rattle.gb_elab.specs.Globs.{seeing, with_seen}
use Rattle.gb_elab.proofs.Seen.{whole_in_is}
use Rattle.gb_elab.proofs.globs.+whole.Goals as goal

pub whole_in-returns : goal.whole_in-returns
whole_in-returns t c =
    c.seeing.ensures
    ∙ ap (λ ps. seeing (head_of c.args.t.now) (with_seen ps) (place_of c.args.t.now)) c.as_slice.ensures
    ∙ sym (whole_in_is c.args.t.now)
