-- The line is its pieces one behind the other.
use Rattle.std.proofs.Common.{◌≡◌, ◌∙◌, refl}
use Rattle.std.specs.Fmt.{decimal}
use Rattle.std.proofs.lemmas.Result.{IfOk-weaker}
use Rattle.gb_app.specs.Generated.{module_pieces, width}
use Rattle.gb_app.proofs.generated.module_line.Goals as goal

pub returns : goal.returns
unfolding module_pieces
returns c =
    let number : c.as_str-number.result.now ≡ decimal c.args.i = c.as_str-number.ensures.value ∙ c.in_ok-number.ensures in
    let bits : c.as_str-width.result.now ≡ decimal (width c.args.i) = c.as_str-width.ensures.value ∙ c.in_ok-width.ensures in
    IfOk-weaker c.concat.result _ _ (λ s h. h ∙ rw (number, bits) refl) c.concat.ensures.ok
