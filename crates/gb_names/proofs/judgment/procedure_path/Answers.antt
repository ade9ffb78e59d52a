use Rattle.std.proofs.Common.{◌+◌, ◌<◌, length, drop, string_bytes, ap, sym, ◌∙◌, arith}
use Rattle.gb_names.specs.Judgments.{procedure_path}
use Rattle.gb_names.proofs.Parts.{left}
use Rattle.gb_names.proofs.judgment.procedure_path.Goals as goal

pub loop-word-preserved : goal.loop-word-preserved
loop-word-preserved c =
    let ws = c.args.more.now in
    let i = c.loop-word.word-index in
    let w = c.word-item.result in
    let h : i < length ws = omega arith in
    ap (λ m. procedure_path m w (drop (i + 1) ws)) c.in_ok-append.ensures
    ∙ ap (procedure_path (string_bytes c.loop-word.module) c.loop-word.procedure.now) (sym (left ws i w h c.word-item.is))
    ∙ c.loop-word.invariant
