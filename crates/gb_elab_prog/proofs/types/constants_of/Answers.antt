-- The constants past the most that an enumeration may have are the others.
use Rattle.std.proofs.Common.{◌-◌, length, take, drop, take_all, length-drop, arith, subst}
use Rattle.std.proofs.lemmas.List.{length-take-le}
use Rattle.gb_goal.specs.Answers.{Answers}
use Rattle.gb_elab_prog.specs.Types.{enumeration}
use Rattle.gb_elab_prog.proofs.types.constants_of.Goals as goal

pub slice_bounds-enumeration-end : goal.slice_bounds-enumeration-end
slice_bounds-enumeration-end c = omega (arith, length-take-le 256 c.args.words.now (omega arith))

pub enumeration-requires : goal.enumeration-requires
enumeration-requires c = omega (arith, length-take-le 256 c.args.words.now (omega arith))

pub returns-then-words-gt-CONSTANTS : goal.returns-then-words-gt-CONSTANTS
returns-then-words-gt-CONSTANTS c =
    let ws = c.args.words.now in
    let rest = take_all (length ws - 256) (drop 256 ws) (omega (arith, length-drop 256 ws)) in
    subst (λ ys. Answers (enumeration c.args.scope.now c.args.name.now (take 256 ws) ys) c.enumeration.result) rest c.enumeration.ensures
