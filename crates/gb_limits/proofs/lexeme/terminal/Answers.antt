use Rattle.std.proofs.Common.{ap, sym, ◌∙◌, Option, unwrap_or}
use Rattle.gb_lex.specs.declared.token.Kind.{Kind}
use Rattle.gb_script.specs.declared.terminal.Terminal.{Terminal}
use Rattle.gb_limits.specs.declared.spelling.TheConstants.{SPELLINGS}
use Rattle.gb_limits.specs.Lexeme.{spelled_in, terminal_of}
use Rattle.gb_limits.proofs.lexeme.terminal.Goals.{in-Word, in-Number, in-Symbol}
use Rattle.gb_limits.proofs.lexeme.terminal.Goals as goal

pub returns : goal.returns
returns c =
    let bytes = c.args.bytes.now in
    let read = c.unwrap_or.ensures ∙ ap (λ (o : Option Terminal). unwrap_or o c.match-kind.unspelled) c.spelled_in.ensures in
    elim c.match-kind.branch [
      | in-Word w ↦ read ∙ (ap (unwrap_or (spelled_in SPELLINGS bytes)) w.unspelled-is ∙ sym (ap (λ (k : Kind). terminal_of k bytes) w.in-Word.is))
      | in-Number w ↦ read ∙ (ap (unwrap_or (spelled_in SPELLINGS bytes)) w.unspelled-is ∙ sym (ap (λ (k : Kind). terminal_of k bytes) w.in-Number.is))
      | in-Symbol w ↦ read ∙ (ap (unwrap_or (spelled_in SPELLINGS bytes)) w.unspelled-is ∙ sym (ap (λ (k : Kind). terminal_of k bytes) w.in-Symbol.is))
    ]
