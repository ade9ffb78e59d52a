use Rattle.std.proofs.Common.{◌≡◌, ◌+◌, ◌++◌, List, Some, drop, refl, ap, ◌∙◌, rules}
use Rattle.std.specs.Option.{option_map}
use Rattle.gb_core.specs.declared.var.Var.{Var}
use Rattle.gb_mods.specs.Meant.{meant_by}
use Rattle.gb_mods.specs.Written.{written_by, written_itself}
use Rattle.gb_mods.proofs.FrontSteps.{front_next}
use Rattle.gb_mods.proofs.written.written_by.Goals as goal

pub loop-x-preserved : goal.loop-x-preserved
loop-x-preserved c =
    let ds = c.args.scope.now in
    let ps = c.args.list.now in
    let l = c.loop-x in
    let x = c.x-item.result in
    let own : written_itself (meant_by ds x) ≡ Some c.in-Some.own = search rules in
    let more : c.in_ok-all.all ≡ l.all ++ c.in-Some.own = search rules in
    ap (λ (xs : List Var). option_map (λ ys. xs ++ ys) (written_by ds (drop (l.x-index + 1) ps))) more
    ∙ front_next (written_by ds) ps l.x-index x l.all c.in-Some.own (written_itself (meant_by ds x)) c.loop-x-test.true c.x-item.is refl own ∙ l.invariant
