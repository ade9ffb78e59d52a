use Rattle.std.proofs.Common.{◌++◌, [], ◌∷◌, rules, ap, sym, append_assoc, ◌∙◌}
use Rattle.gb_ended.specs.Named.{all_names_in, names_in}
use Rattle.gb_ended.proofs.NamedSteps.{names_applied}
use Rattle.gb_ended.proofs.named.+names_in.Goals as goal

pub names_in-returns-in_ok-found-in-Apply : goal.names_in-returns-in_ok-found-in-Apply
names_in-returns-in_ok-found-in-Apply t c =
    let x = c.in-Apply in
    let e =
    ap (λ l. c.args.found ++ l) (ap names_in x.is ∙ names_applied x.name x.args) ∙ sym (append_assoc c.args.found (x.name ∷ []) (all_names_in x.args)) in
    search (rules, e)
