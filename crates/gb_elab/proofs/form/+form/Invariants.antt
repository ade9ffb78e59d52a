use Rattle.std.proofs.Common.{◌≡◌, ◌+◌, ◌≤◌, [], drop, length}
use Rattle.std.specs.Option.{option_copied}
use Rattle.gb_names.specs.Environment.{environment}
use Rattle.gb_elab.specs.Forms.{arguments, by_rule, operands, with_meanings}
use Rattle.gb_elab.proofs.form.+form.Given as goal

abbrev pub invariant-by_rule-loop-part : goal.invariant-by_rule-loop-part
invariant-by_rule-loop-part l =
    operands l.rule l.place (environment l.at) l.bound (option_copied l.want) l.done (with_meanings (drop l.part-index l.parts))
    ≡ by_rule l.fn.rule (with_meanings l.parts) l.place (environment l.at) l.bound (option_copied l.want)

abbrev pub invariant-arguments-loop-part : goal.invariant-arguments-loop-part
invariant-arguments-loop-part l =
    (arguments l.fn.place (environment l.at) l.bound l.done l.rest (with_meanings (drop l.part-index l.parts))
    ≡ arguments l.fn.place (environment l.at) l.bound [] l.params (with_meanings l.parts))
    × (length l.rest + l.part-index ≤ length l.parts)
