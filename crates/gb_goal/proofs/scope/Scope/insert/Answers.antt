use Rattle.std.proofs.Common.{[], ◌∷◌, ◌++◌, string_bytes, ap, ◌∙◌}
use Rattle.gb_goal.specs.Scope.{entry_of}
use Rattle.gb_goal.proofs.Named.{named, declared_last}
use Rattle.gb_goal.proofs.scope.Scope.insert.Goals as goal

pub returns-clause-ok : goal.returns-clause-ok
returns-clause-ok c =
    let free = ap (λ ds. entry_of ds (string_bytes c.args.key)) c.self.view_is ∙ c.requires in
    ap named c.in_ok-insert.ensures.entries
    ∙ declared_last c.args.key c.args.entry c.self.inside.entries.entries free
    ∙ ap (λ ds. ds ++ (string_bytes c.args.key, c.args.entry) ∷ []) c.self.view_is
