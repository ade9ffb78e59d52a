use Rattle.std.proofs.Common.{Err, IfErr, Result, List, ◌<◌, length, get_or, ap, subst, sym, ◌∙◌, arith}
use Rattle.std.specs.List.{All}
use Rattle.std.proofs.lemmas.List.{take_all}
use Rattle.std.proofs.lemmas.List.Elements.{All-more}
use Rattle.std.proofs.lemmas.Result.{err_from_is_err_and}
use Rattle.gb_core.specs.declared.refusal.Refused.{Refused}
use Rattle.gb_read_script.specs.declared.goal_lines.ReadLine.{ReadLine}
use Rattle.gb_read_script.specs.GoalLines.{IsRefusedFor}
use Rattle.gb_read_script.specs.Goal.{all_lines, IsShort, IsTooMany}
use Rattle.gb_read_script.proofs.Firsts.{refused_at, refused_behind, short_behind}
use Rattle.gb_read_script.proofs.goal.check_lines.Goals as goal

pub returns-in_err-check_line-clause-long : goal.returns-in_err-check_line-clause-long
returns-in_err-check_line-clause-long c =
    let context = c.args.goal.now.context in
    let i = c.loop-line.line-index in
    let l = c.line-item.result in
    let same = c.as_slice-line-items.ensures in
    let within : i < length context = omega (arith, c.loop-line-test.true, ap length same) in
    let given = err_from_is_err_and c.from_residual.result c.from_residual.ensures.1 in
    subst (λ (r : Result (Unit {0}) Refused). IfErr r (IsRefusedFor (IsTooMany (all_lines c.args.goal.now)))) (sym (given.1 ∙ ap Err given.2))
    (refused_at c.in_err-check_line.field-0.0 c.args.goal.now i l c.in_err-check_line.ensures.long within (c.line-item.is ∙ ap (λ (ls : List ReadLine). get_or ls i l) same) c.loop-line.invariant)

pub loop-line-preserved : goal.loop-line-preserved
loop-line-preserved c =
    let context = c.args.goal.now.context in
    let i = c.loop-line.line-index in
    let l = c.line-item.result in
    let same = c.as_slice-line-items.ensures in
    let within : i < length context = omega (arith, c.loop-line-test.true, ap length same) in
    All-more IsShort context i l within c.loop-line.invariant
    (subst (λ (m : ReadLine). IsShort m) (c.line-item.is ∙ ap (λ (ls : List ReadLine). get_or ls i l) same) c.in_ok-check_line.ensures.short)

pub returns-clause-short : goal.returns-clause-short
returns-clause-short c =
    let context = c.args.goal.now.context in
    let whole = take_all c.loop-line.line-index context (omega (arith, ap length c.as_slice-line-items.ensures)) in
    short_behind c.check_line-2.result c.args.goal.now (subst (λ (ls : List ReadLine). All IsShort ls) whole c.loop-line.invariant) c.check_line-2.ensures.short

pub returns-clause-long : goal.returns-clause-long
returns-clause-long c =
    let context = c.args.goal.now.context in
    let whole = take_all c.loop-line.line-index context (omega (arith, ap length c.as_slice-line-items.ensures)) in
    refused_behind c.check_line-2.result c.args.goal.now c.check_line-2.ensures.long (subst (λ (ls : List ReadLine). All IsShort ls) whole c.loop-line.invariant)
