-- The number of the refusal is laid out in two digits, and the line is its parts one behind the other.
use Rattle.std.proofs.Common.{◌≡◌, arith}
use Rattle.std.specs.Fmt.{styled_decimal}
use Rattle.std.specs.Prelude.{string_bytes}
use Rattle.gb_core.specs.Refusal.{code_of}
use Rattle.gb_app.specs.Report.{two_digits}
use Rattle.gb_app.proofs.Digits.{two_digits-padded, refused_line-laid_out}
use Rattle.gb_app.proofs.report.refused_line.Goals as goal

pub returns : goal.returns
returns c =
    let padded = two_digits-padded c.code-code.result (omega arith) in
    let number : styled_decimal c.laid_out.result c.code-code.result ≡ two_digits (code_of c.args.why.now) =
    rw (c.laid_out.ensures, ← c.code-code.ensures) padded in
    refused_line-laid_out string_bytes _ _ c.args.place c.args.file.now c.format.result number c.format.ensures.ok
