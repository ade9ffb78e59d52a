use Rattle.std.proofs.Common.{string_bytes, take, ap, sym, ◌∙◌}
use Rattle.std.proofs.lemmas.List.{take-map}
use Rattle.gb_goal.proofs.Named.{named}
use Rattle.gb_goal.proofs.scope.Scope.truncate.Goals as goal

pub returns : goal.returns
returns c =
    ap named c.truncate.ensures.entries
    ∙ sym (take-map (λ p. (string_bytes p.0, p.1)) c.args.count c.self.inside.entries.entries)
    ∙ ap (take c.args.count) c.self.view_is
