use Rattle.std.proofs.Common.{◌≡◌, ◌≤◌, ◌+◌, drop}
use Rattle.gb_lex.specs.Comment.{comment_end}
use Rattle.gb_lex.proofs.comment.comment_end.Given as goal

abbrev pub invariant-loop-at : goal.invariant-loop-at
invariant-loop-at l =
    (l.depth ≤ l.at + 1) × (comment_end l.depth l.last l.at (drop l.at l.text) ≡ comment_end 1 0 0 l.text)
