use Rattle.std.proofs.Common.{ap, ◌∙◌}
use Rattle.gb_print.specs.GoalText.{place_of_form}
use Rattle.gb_print.specs.Nodes.{placeless}
use Rattle.gb_print.specs.ReadBack.{tokens_at}
use Rattle.gb_print.specs.GoalText.{printed_form}
use Rattle.gb_print.proofs.FormsBack.{form_back, form_kept}
use Rattle.gb_print.proofs.laws.printed_forms_are_read.Goals as goal

pub returns : goal.returns
returns c = λ ds es vs ms t d.
    let at = place_of_form ds es vs ms in
    let kept = form_kept at t d in
    record {
      some = λ place. let read = form_back at t d place in (read.tree, read.spells, read.same);
      only = λ place y s.
          let read = form_back at t d place in
          ap placeless (c.forms_are_unique.ensures (tokens_at (printed_form ds es vs ms t) place) y read.tree s read.spells) ∙ read.same;
      faultless = kept.0;
      allowed = λ place shallow.
          let read = form_back at t d place in
          let none = kept.1 place in
          (none.0, record { steps = read.spells.0; text = read.spells.1; deep = shallow read.spells.0 read.spells.1; long = read.short; numbers = none.1 });
    }
