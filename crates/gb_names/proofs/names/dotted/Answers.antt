use Rattle.std.proofs.Common.{◌+◌, ◌<◌, length, drop, string_bytes, ap, sym, ◌∙◌, arith}
use Rattle.gb_names.specs.Names.{dotted}
use Rattle.gb_names.proofs.Parts.{left}
use Rattle.gb_names.proofs.names.dotted.Goals as goal

pub loop-word-preserved : goal.loop-word-preserved
loop-word-preserved c =
    let ws = c.args.more.now in
    let i = c.loop-word.word-index in
    let w = c.word-item.result in
    let h : i < length ws = omega arith in
    ap (λ m. dotted m (drop (i + 1) ws)) c.in_ok-append.ensures ∙ ap (dotted (string_bytes c.loop-word.text)) (sym (left ws i w h c.word-item.is)) ∙ c.loop-word.invariant
