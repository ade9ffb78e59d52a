-- A piece that is the final dot ends the command; one that is blank leaves what was found so far.
use Rattle.std.proofs.Common.{◌≡◌, sym, ◌∙◌, ap, arith, drop, true, false}
use Rattle.std.specs.Prelude.{◌&&◌}
use Rattle.gb_lex.specs.Piece.{pieces_of}
use Rattle.gb_lex.specs.Lex.{cut_at, are_blank}
use Rattle.gb_lex.proofs.LexLemmas.{and-false, final_among-is, are_blank-is}
use Rattle.gb_lex.proofs.commands.cut.Goals as goal

pub returns-then-is_final : goal.returns-then-is_final
returns-then-is_final c =
    let found = final_among-is c.loop-at.at c.piece_at-piece.result _ _ c.piece_at-piece.ensures.next
    true (sym c.is_final.ensures ∙ c.if-is_final.true) in
    ap (λ o. cut_at o (are_blank (pieces_of (drop c.args.from c.args.text.now))))
    (sym found ∙ c.loop-at.invariant.1)

pub loop-at-preserved-then-not-is_blank : goal.loop-at-preserved-then-not-is_blank
loop-at-preserved-then-not-is_blank c =
    let passed = final_among-is c.loop-at.at c.piece_at-piece.result _ _ c.piece_at-piece.ensures.next
    false (sym c.is_final.ensures ∙ c.if-is_final.false) in
    let no : c.is_blank.result ≡ false = grind arith in
    let seen = are_blank-is c.loop-at.at c.piece_at-piece.result _ _ c.piece_at-piece.ensures.next
    false (sym c.is_blank.ensures ∙ no) in (
      omega arith,
      sym passed ∙ c.loop-at.invariant.1,
      sym (and-false c.loop-at.blank) ∙ ap (λ b. c.loop-at.blank && b) (sym seen) ∙ c.loop-at.invariant.2,
    )

pub loop-at-preserved : goal.loop-at-preserved
loop-at-preserved c =
    let passed = final_among-is c.loop-at.at c.piece_at-piece.result _ _ c.piece_at-piece.ensures.next
    false (sym c.is_final.ensures ∙ c.if-is_final.false) in
    let yes : c.is_blank.result ≡ true = grind arith in
    let seen = are_blank-is c.loop-at.at c.piece_at-piece.result _ _ c.piece_at-piece.ensures.next
    true (sym c.is_blank.ensures ∙ yes) in (
      omega arith,
      sym passed ∙ c.loop-at.invariant.1,
      ap (λ b. c.loop-at.blank && b) (sym seen) ∙ c.loop-at.invariant.2,
    )
