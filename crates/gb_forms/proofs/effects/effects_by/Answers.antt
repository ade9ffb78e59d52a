use Rattle.std.proofs.Common.{refl, sym, ◌∙◌}
use Rattle.gb_forms.proofs.effects.effects_by.Goals as goal

pub returns : goal.returns
returns c =
    let known = sym c.in_ok-others.ensures ∙ c.in-Some.is in
    rw (
      known,
      c.in_ok-written.ensures,
      c.as_slice.ensures,
      c.in_ok-own.ensures,
      c.new.ensures,
      c.in_ok-touched.ensures,
    ) refl
