use Rattle.std.proofs.Common.{◌≡◌, filter, Option, None, List, [], ◌∷◌, ◌++◌, refl, ap, ◌∙◌}
use Rattle.gb_core.specs.declared.var.Var.{Var}
use Rattle.gb_terms.specs.declared.op.Side.TheVariants.{Left, Right}
use Rattle.gb_walk.specs.Clash.{least_from, lesser}
use Rattle.gb_prog.specs.Assigned.{is_clashing}
use Rattle.gb_loops.proofs.both_loops.clashing_both.Goals as goal

least_append : (o : Option Var) (xs ys : List Var) → least_from (least_from o xs) ys ≡ least_from o (xs ++ ys)
least_append o [] ys = refl
least_append o (x ∷ xs) ys = least_append (lesser o x) xs ys

pub returns : goal.returns
returns c =
    let f = c.args.form.now in
    let es = c.args.exclusions.now in
    let right = filter (is_clashing es Right f) c.args.right.now in
    c.clashing_from.ensures ∙ ap (λ o. least_from o right) c.clashing_from-found.ensures ∙ least_append None (filter (is_clashing es Left f) c.args.left.now) right
