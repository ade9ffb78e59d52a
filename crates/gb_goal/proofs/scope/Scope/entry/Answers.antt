use Rattle.std.proofs.Common.{Some, sym, ap, ◌∙◌}
use Rattle.std.specs.Option.{option_copied}
use Rattle.gb_goal.specs.Scope.{entry_of}
use Rattle.gb_goal.proofs.Named.{found_named}
use Rattle.gb_goal.proofs.scope.Scope.entry.Goals as goal

pub returns-in-Some : goal.returns-in-Some
returns-in-Some c =
    ap Some c.get-in-Some.ensures
    ∙ sym (ap option_copied c.in-Some.is)
    ∙ c.get.ensures.value
    ∙ found_named c.as_str.result.now c.self.inside.entries.entries
    ∙ ap (λ ds. entry_of ds c.as_str.result.now) c.self.view_is
    ∙ ap (entry_of c.args.self.now) c.as_str.ensures

pub returns-in-None : goal.returns-in-None
returns-in-None c =
    sym (ap option_copied c.in-None.is)
    ∙ c.get.ensures.value
    ∙ found_named c.as_str.result.now c.self.inside.entries.entries
    ∙ ap (λ ds. entry_of ds c.as_str.result.now) c.self.view_is
    ∙ ap (entry_of c.args.self.now) c.as_str.ensures
