use Rattle.std.proofs.Common.{length, sym, ap, ◌∙◌}
use Rattle.gb_session.specs.History.{History}
use Rattle.gb_session.proofs.Stages.{length_before}
use Rattle.gb_session.proofs.session.Session.kept.Goals as goal

pub returns : goal.returns
returns c = c.len.ensures ∙ sym (length_before c.self.inside.kept _) ∙ ap (λ (h : History). length h.earlier) c.self.view_is
