-- A piece adds its token to those found, or is the first fault.
use Rattle.std.proofs.Common.{sym, ◌∙◌, ap, arith, inr, ◌++◌, length, subst, List}
use Rattle.std.proofs.lemmas.List.{append-nil}
use Rattle.gb_core.specs.declared.refusal.Refused.TheVariants.{Script}
use Rattle.gb_core.specs.declared.refusal.Why.TheVariants.{Character}
use Rattle.gb_lex.specs.declared.token.Token.{Token}
use Rattle.gb_lex.specs.declared.token.What.TheVariants.{Token as IsToken, Faulty}
use Rattle.gb_lex.specs.Lex.{AreSpans}
use Rattle.gb_lex.proofs.LexLemmas.{found-append, tokens_among-is, tokens_among-blank, tokens_among-end, fault_among-is, fault_among-blank, AreSpans-tokens_of}
use Rattle.gb_lex.proofs.lexing.tokens.Goals as goal

pub returns-in-Faulty-clause-character : goal.returns-in-Faulty-clause-character
returns-in-Faulty-clause-character c =
    let fault = fault_among-is c.loop-from.from c.piece_at-piece.result _ _ c.piece_at-piece.ensures.next
    Faulty c.in-Faulty.is in
    inr (c.loop-from.from, sym c.loop-from.invariant.2 ∙ fault, ap (λ place. Script Character place) c.place_of.ensures)

pub loop-from-preserved-in-Ok : goal.loop-from-preserved-in-Ok
loop-from-preserved-in-Ok c =
    let more = tokens_among-is c.loop-from.from c.piece_at-piece.result _ _ c.piece_at-piece.ensures.next
    (IsToken c.in-Token.kind) c.in-Token.is in
    let fault = fault_among-is c.loop-from.from c.piece_at-piece.result _ _ c.piece_at-piece.ensures.next
    (IsToken c.in-Token.kind) c.in-Token.is in (
      omega arith,
      found-append c.loop-from.found c.push.new.self _ _ _ c.in-Ok.ensures.ok
          (ap (λ more. c.loop-from.found ++ more) (sym more) ∙ c.loop-from.invariant.1),
      sym fault ∙ c.loop-from.invariant.2,
    )

pub loop-from-preserved : goal.loop-from-preserved
loop-from-preserved c =
    let same = tokens_among-blank c.loop-from.from c.piece_at-piece.result _ _ c.piece_at-piece.ensures.next
    c.in-Blank.is in
    let fault = fault_among-blank c.loop-from.from c.piece_at-piece.result _ _ c.piece_at-piece.ensures.next
    c.in-Blank.is in (
      omega arith,
      ap (λ more. c.loop-from.found ++ more) (sym same) ∙ c.loop-from.invariant.1,
      sym fault ∙ c.loop-from.invariant.2,
    )

all-found : goal.returns-clause-tokens
all-found c =
    sym (append-nil c.loop-from.found)
    ∙ ap (λ more. c.loop-from.found ++ more)
    (sym (tokens_among-end c.args.text.now c.loop-from.from c.loop-from-test.false))
    ∙ c.loop-from.invariant.1

pub returns-clause-tokens : goal.returns-clause-tokens
returns-clause-tokens c = all-found c

pub returns-clause-spans : goal.returns-clause-spans
returns-clause-spans c =
    let P : List Token → Type 0 = λ found. AreSpans 0 found (length c.args.text.now) in
    subst P (sym (all-found c)) (AreSpans-tokens_of c.args.text.now)
