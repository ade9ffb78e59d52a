use Rattle.std.proofs.Common.{◌≡◌, ◌++◌, ◌∷◌, ap, sym, subst, ◌∙◌, List}
use Rattle.std.specs.List.{All}
use Rattle.std.proofs.lemmas.List.Elements.{All-push}
use Rattle.gb_script.specs.declared.text.Text.{Text}
use Rattle.gb_read_script.specs.declared.goal_lines.Line.TheVariants.{Entry}
use Rattle.gb_read_script.specs.declared.goal_lines.ReadLine.{ReadLine}
use Rattle.gb_read_script.specs.GoalLines.{IsLine, IsEntry, texts}
use Rattle.gb_read_script.proofs.Walk.{one_more}
use Rattle.gb_read_script.proofs.goal_lines.context.Goals as goal

pub loop-text-preserved : goal.loop-text-preserved
loop-text-preserved c =
    let l = c.in-Entry.entry in
    let es = c.loop-text.entries in
    let line : IsLine c.in-Some.text (Entry l) = rw c.in-Entry.is at c.in_ok-entry.ensures.found in
    let whole : c.args.lines.now ≡ texts es ++ c.in-Some.text ∷ c.pop.new.self = c.loop-text.invariant.whole ∙ ap (λ (ts : List Text). texts es ++ ts) c.in-Some.ensures in
    record {
      whole = one_more c.args.lines.now es c.in-Some.text c.pop.new.self l whole line.0 ∙ ap (λ (ls : List ReadLine). texts ls ++ c.pop.new.self) (sym c.in_ok-push-in-Entry.ensures.ok);
      each = subst (λ (ls : List ReadLine). All IsEntry ls) (sym c.in_ok-push-in-Entry.ensures.ok) (All-push IsEntry es l c.loop-text.invariant.each line.1);
    }
