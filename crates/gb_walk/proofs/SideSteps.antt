-- Whether a term reads a side, by its head and its arguments.
use Rattle.std.proofs.Common.{◌≡◌, Bool, ap, ◌∙◌}
use Rattle.std.specs.List.{list_any}
use Rattle.gb_terms.specs.declared.op.Side.{Side}
use Rattle.gb_terms.specs.declared.term.Term.{Term}
use Rattle.gb_terms.specs.declared.term.Head.TheViews.{out-Term}
use Rattle.gb_terms.specs.declared.term.Head.TheFolds.{fold_out-Term}
use Rattle.gb_walk.specs.Sides.{Reading, at_head, at_instr, at_subject, at_cmd, at_term, reads_side, head_reads_side}
use Rattle.gb_walk.proofs.Lists.{any_applied}

pub reads_side_out : (t : Term) (s : Side) → reads_side t s ≡ head_reads_side (out-Term t).head s (list_any (λ u. reads_side u s) (out-Term t).args)
reads_side_out t s =
    ap (λ f. f s) (fold_out-Term Reading (Unit {0}) (Unit {0}) (Unit {0}) (Side → Bool) at_head at_instr at_subject at_cmd at_term t)
    ∙ ap (head_reads_side (out-Term t).head s) (any_applied reads_side s (out-Term t).args)
