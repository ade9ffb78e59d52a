-- The kinds of token of a text are kinds of the table.
use Rattle.std.proofs.Common.{List, map, arith}
use Rattle.std.specs.List.{All}
use Rattle.std.proofs.lemmas.List.Elements.{All-map}
use Rattle.gb_script.specs.Parsing.{IsKind}
use Rattle.gb_script.specs.declared.terminal.Terminal.{Terminal}
use Rattle.gb_script.specs.declared.text.Lexeme.{Lexeme}
use Rattle.gb_limits.specs.Kinds.{kind_of}

pub is_kind : (x : Terminal) → IsKind (kind_of x)
unfolding kind_of
is_kind x = grind arith

pub all_kinds : (ls : List Lexeme) → All IsKind (map (λ (l : Lexeme). kind_of l.terminal) ls)
all_kinds ls = All-map IsKind (λ (l : Lexeme). kind_of l.terminal) ls (λ i d h. is_kind _)
