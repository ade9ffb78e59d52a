use Rattle.std.proofs.Common.{◌≡◌, map, take}
use Rattle.gb_script.specs.declared.text.Lexeme.{Lexeme}
use Rattle.gb_limits.specs.Kinds.{kind_of}
use Rattle.gb_limits.proofs.lexeme.kinds.Given as goal

abbrev pub invariant-loop-lexeme : goal.invariant-loop-lexeme
invariant-loop-lexeme l =
    l.kinds.items ≡ map (λ (x : Lexeme). kind_of x.terminal) (take l.lexeme-index l.lexeme-items)
