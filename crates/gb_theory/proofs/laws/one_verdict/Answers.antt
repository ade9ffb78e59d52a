use Rattle.std.proofs.Common.{refl, ap, sym, ◌∙◌}
use Rattle.gb_theory.specs.Verdicts.{verdict_of}
use Rattle.gb_theory.proofs.laws.one_verdict.Goals as goal

pub returns-clause-some : goal.returns-clause-some
returns-clause-some c = λ text. let o = c.each_text_has_an_outcome.ensures text in (verdict_of o.0, (o.0, o.1, refl))

pub returns-clause-only : goal.returns-clause-only
returns-clause-only c = λ text v w x y. x.2 ∙ (ap verdict_of (c.one_outcome.ensures text x.0 y.0 x.1 y.1) ∙ sym y.2)
