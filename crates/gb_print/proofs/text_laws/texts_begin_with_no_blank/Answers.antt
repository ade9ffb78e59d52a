use Rattle.gb_lex.specs.Lex.{tokens_of}
use Rattle.gb_limits.specs.Lexeme.{kinds_of, text_at}
use Rattle.gb_print.proofs.Unblank.{all_unblank}
use Rattle.gb_print.proofs.text_laws.texts_begin_with_no_blank.Goals as goal

pub returns : goal.returns
returns c = λ part bytes at x d. all_unblank bytes at x (c.texts_are_spelled.ensures.texts part (kinds_of (text_at bytes at (tokens_of bytes))) (text_at bytes at (tokens_of bytes)) x d)
