-- What is promised of the file that the words ask for, or of the session.
use Rattle.std.proofs.Common.{◌≡◌, true, None, Some, map, inl, sym, ◌∙◌}
use Rattle.std.specs.Prelude.{string_bytes}
use Rattle.std.proofs.lemmas.Bool.{false≢true}
use Rattle.gb_app.specs.Words.{file_of, asks_for_session, number_asked}
use Rattle.gb_app.proofs.Asked.{no_file, of_none, not_usage}
use Rattle.gb_app.proofs.Checked.{is_accepted, of_file, of_held_file}
use Rattle.gb_app.proofs.Numbered as numbered
use Rattle.gb_app.proofs.run.run.Given.{Over}
use Rattle.gb_app.proofs.run.run.Goals as goal
use Rattle.gb_app.proofs.run.run.Goals.{After-step, After-check_generated}

asked : (g : Over) (c : After-step g) → asks_for_session (map string_bytes c.args.words.now) ≡ true
asked g c = sym c.asks_for_session.ensures ∙ c.if-asks_for_session.true

unnamed : (g : Over) (c : After-step g) → file_of (map string_bytes c.args.words.now) ≡ None
unnamed g c = no_file (map string_bytes c.args.words.now) (asked g c)

pub returns-then-asks_for_session-clause-usage : goal.returns-then-asks_for_session-clause-usage
returns-then-asks_for_session-clause-usage g c = λ none no other. absurd (false≢true (sym no ∙ asked g c))

pub returns-then-asks_for_session-clause-usage_only : goal.returns-then-asks_for_session-clause-usage_only
returns-then-asks_for_session-clause-usage_only g c = λ e. not_usage c.step.result c.step.ensures.session.0 _ _ _ c.step.ensures.session.2 e

pub returns-then-asks_for_session-clause-usage_line : goal.returns-then-asks_for_session-clause-usage_line
returns-then-asks_for_session-clause-usage_line g c = λ e. not_usage c.step.result c.step.ensures.session.0 _ _ _ c.step.ensures.session.2 e

pub returns-then-asks_for_session-clause-reported : goal.returns-then-asks_for_session-clause-reported
returns-then-asks_for_session-clause-reported g c = λ e. rw (unnamed g c) tt

pub returns-then-asks_for_session-clause-verdict : goal.returns-then-asks_for_session-clause-verdict
returns-then-asks_for_session-clause-verdict g c = rw (unnamed g c) (of_none _)

pub returns-then-asks_for_session-clause-accepted : goal.returns-then-asks_for_session-clause-accepted
returns-then-asks_for_session-clause-accepted g c = λ e. rw (unnamed g c) tt

pub returns-then-asks_for_session-clause-missing : goal.returns-then-asks_for_session-clause-missing
returns-then-asks_for_session-clause-missing g c = λ e. rw (unnamed g c) (of_none _)

pub returns-then-asks_for_session-clause-not_held : goal.returns-then-asks_for_session-clause-not_held
returns-then-asks_for_session-clause-not_held g c = rw (unnamed g c) (of_none _)

pub returns-then-asks_for_session-clause-session : goal.returns-then-asks_for_session-clause-session
returns-then-asks_for_session-clause-session g c = λ is. c.step.ensures.session

pub returns-then-asks_for_session-clause-read_fault : goal.returns-then-asks_for_session-clause-read_fault
returns-then-asks_for_session-clause-read_fault g c = λ e no. absurd (false≢true (sym no ∙ asked g c))

pub returns-then-asks_for_session-clause-front : goal.returns-then-asks_for_session-clause-front
returns-then-asks_for_session-clause-front g c = λ e no other. absurd (false≢true (sym no ∙ asked g c))

pub returns-then-asks_for_session-clause-silent : goal.returns-then-asks_for_session-clause-silent
returns-then-asks_for_session-clause-silent g c = λ e no. absurd (false≢true (sym no ∙ asked g c))

pub returns-then-asks_for_session-clause-input : goal.returns-then-asks_for_session-clause-input
returns-then-asks_for_session-clause-input g c = λ no. absurd (false≢true (sym no ∙ asked g c))

-- a script that is made from a number
number : (g : Over) (c : After-check_generated g) → number_asked (map string_bytes c.args.words.now) ≡ Some c.in-Some.count
number g c = sym c.in-Some.ensures.number

no_name : (g : Over) (c : After-check_generated g) → file_of (map string_bytes c.args.words.now) ≡ None
no_name g c = numbered.no_file (map string_bytes c.args.words.now) c.in-Some.count (number g c)

pub returns-in-Some-clause-usage : goal.returns-in-Some-clause-usage
returns-in-Some-clause-usage g c = λ none no other. let e = number g c in absurd (cc)

pub returns-in-Some-clause-usage_only : goal.returns-in-Some-clause-usage_only
returns-in-Some-clause-usage_only g c = λ e. numbered.not_usage c.in-Some.count c.check_generated.result _ _ c.check_generated.ensures.summary e

pub returns-in-Some-clause-usage_line : goal.returns-in-Some-clause-usage_line
returns-in-Some-clause-usage_line g c = λ e. numbered.not_usage c.in-Some.count c.check_generated.result _ _ c.check_generated.ensures.summary e

pub returns-in-Some-clause-reported : goal.returns-in-Some-clause-reported
returns-in-Some-clause-reported g c = λ e. rw (no_name g c) tt

pub returns-in-Some-clause-verdict : goal.returns-in-Some-clause-verdict
returns-in-Some-clause-verdict g c = rw (no_name g c) (of_none _)

pub returns-in-Some-clause-accepted : goal.returns-in-Some-clause-accepted
returns-in-Some-clause-accepted g c = λ e. rw (no_name g c) tt

pub returns-in-Some-clause-missing : goal.returns-in-Some-clause-missing
returns-in-Some-clause-missing g c = λ e. rw (no_name g c) (of_none _)

pub returns-in-Some-clause-not_held : goal.returns-in-Some-clause-not_held
returns-in-Some-clause-not_held g c = rw (no_name g c) (of_none _)

pub returns-in-Some-clause-summary : goal.returns-in-Some-clause-summary
returns-in-Some-clause-summary g c = rw (number g c) c.check_generated.ensures.summary

pub returns-in-Some-clause-read_fault : goal.returns-in-Some-clause-read_fault
returns-in-Some-clause-read_fault g c = λ e no. numbered.not_read_fault c.in-Some.count c.check_generated.result _ _ c.check_generated.ensures.summary e

pub returns-in-Some-clause-front : goal.returns-in-Some-clause-front
returns-in-Some-clause-front g c = λ e no other. let is = number g c in absurd (cc)

pub returns-in-Some-clause-silent : goal.returns-in-Some-clause-silent
returns-in-Some-clause-silent g c = λ is no. numbered.silent c.in-Some.count c.check_generated.result _ _ c.check_generated.ensures.summary is

pub returns-in-Some-file_to_check-clause-verdict : goal.returns-in-Some-file_to_check-clause-verdict
returns-in-Some-file_to_check-clause-verdict g c = of_held_file _ _ _ _ c.in-Some-file_to_check.ensures c.check_file.ensures.verdict

pub returns-in-Some-file_to_check-clause-accepted : goal.returns-in-Some-file_to_check-clause-accepted
returns-in-Some-file_to_check-clause-accepted g c = λ ended.
    let r = c.check_file.ensures.reported (inl ended) in
    of_file _ _ _ c.in-Some-file_to_check.ensures (_, is_accepted c.accepted_scripts.ensures.promised _ _ _ r.0 r.1 r.2 ended, r.3)
