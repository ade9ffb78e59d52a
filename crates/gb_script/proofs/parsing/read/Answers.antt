use Rattle.std.proofs.Common.{ℕ, List}
use Rattle.std.proofs.lemmas.Option.{MatchOption-at_none, MatchOption-at_some}
use Rattle.gb_script.specs.declared.table.Step.{Step}
use Rattle.gb_script.specs.Grammar.{Grammar, grammar_of}
use Rattle.gb_script.specs.Parsing.{Spells, FirstFault, StepsBefore}
use Rattle.gb_script.proofs.Rows.{sound_table}
use Rattle.gb_script.proofs.Unique.{unique}
use Rattle.gb_script.proofs.parsing.read.Goals as goal

abbrev Stop : {R : Type 0} → Grammar R → ℕ → List ℕ → List (Step R) → ℕ → Type 0
Stop grammar part kinds steps at = FirstFault grammar part kinds at × StepsBefore grammar part kinds at steps

pub returns-in-None-clause-found : goal.returns-in-None-clause-found
returns-in-None-clause-found g c =
    let grammar = grammar_of c.args.stage c.args.rows.now c.args.symbols.now in
    let steps = c.run.new.steps.items in
    MatchOption-at_none (Spells grammar c.args.start c.args.kinds.now steps) (Stop grammar c.args.start c.args.kinds.now steps) c.in-None.is c.in_ok-stop.ensures

pub returns-in-None-clause-only : goal.returns-in-None-clause-only
returns-in-None-clause-only g c all d =
    let grammar = grammar_of c.args.stage c.args.rows.now c.args.symbols.now in
    let s = sound_table c.args.stage c.args.rows.now c.args.symbols.now g.claims c.args.places.now c.requires.1.0 in
    let steps = c.run.new.steps.items in
    let found = MatchOption-at_none (Spells grammar c.args.start c.args.kinds.now steps) (Stop grammar c.args.start c.args.kinds.now steps) c.in-None.is c.in_ok-stop.ensures in
    unique grammar g.claims s c.args.start c.requires.1.1.0 c.args.kinds.now steps all c.requires.1.1.1 found d

pub returns-clause-only : goal.returns-clause-only
returns-clause-only g c all d =
    let grammar = grammar_of c.args.stage c.args.rows.now c.args.symbols.now in
    let steps = c.run.new.steps.items in
    let fault = MatchOption-at_some (Spells grammar c.args.start c.args.kinds.now steps) (Stop grammar c.args.start c.args.kinds.now steps) c.in-Some.at c.in-Some.is c.in_ok-stop.ensures in
    absurd (fault.0.no_text all d)

pub returns-clause-fault : goal.returns-clause-fault
returns-clause-fault g c =
    let grammar = grammar_of c.args.stage c.args.rows.now c.args.symbols.now in
    let steps = c.run.new.steps.items in
    MatchOption-at_some (Spells grammar c.args.start c.args.kinds.now steps) (Stop grammar c.args.start c.args.kinds.now steps) c.in-Some.at c.in-Some.is c.in_ok-stop.ensures
