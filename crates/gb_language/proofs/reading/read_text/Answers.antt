use Rattle.std.proofs.Common.{◌≡◌, List, IfOk, IfErr, MatchResult, subst}
use Rattle.gb_script.specs.declared.error.ReadError.{ReadError}
use Rattle.gb_script.specs.declared.table.Step.{Step}
use Rattle.gb_script.specs.Grammar.{Grammar}
use Rattle.gb_script.specs.Parsing.{Spells, IsFault}
use Rattle.gb_language.specs.declared.rows.TheConstants.{SCRIPTS}
use Rattle.gb_script.specs.declared.action.Rule.{Rule}
use Rattle.gb_language.proofs.Language.{passes, passes_by, same_language, starts}
use Rattle.gb_language.proofs.reading.read_text.Goals as goal

pub read_by-requires-clause-checked : goal.read_by-requires-clause-checked
read_by-requires-clause-checked c =
    passes_by SCRIPTS c.all_places.result.now c.all_rows.result.now c.all_symbols.result.now c.all_places.ensures c.all_rows.ensures c.all_symbols.ensures passes

pub read_by-requires-clause-start : goal.read_by-requires-clause-start
read_by-requires-clause-start c = starts c.args.part c.requires.part

pub returns-clause-found : goal.returns-clause-found
returns-clause-found c =
    let same = same_language c.all_rows.result.now c.all_symbols.result.now c.all_rows.ensures c.all_symbols.ensures in
    subst (λ (g : Grammar Rule). IfOk c.read_by.result (λ steps. Spells g c.args.part c.args.kinds.now steps.items)) same c.read_by.ensures.found

pub returns-clause-only : goal.returns-clause-only
returns-clause-only c =
    let same = same_language c.all_rows.result.now c.all_symbols.result.now c.all_rows.ensures c.all_symbols.ensures in
    subst (λ (g : Grammar Rule). (steps : List (Step Rule)) → Spells g c.args.part c.args.kinds.now steps → MatchResult c.read_by.result (λ r. r.items ≡ steps) (λ e. e ≡ ReadError.Memory)) same c.read_by.ensures.only

pub returns-clause-fault : goal.returns-clause-fault
returns-clause-fault c =
    let same = same_language c.all_rows.result.now c.all_symbols.result.now c.all_rows.ensures c.all_symbols.ensures in
    subst (λ (g : Grammar Rule). IfErr c.read_by.result (λ e. IsFault g c.args.part c.args.kinds.now e)) same c.read_by.ensures.fault
