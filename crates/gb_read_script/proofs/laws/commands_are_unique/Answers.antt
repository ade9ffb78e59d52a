use Rattle.std.proofs.Common.{inl, refl}
use Rattle.gb_language.specs.declared.rows.TheConstants.{COMMAND}
use Rattle.gb_limits.specs.Lexeme.{kinds_of}
use Rattle.gb_read_script.proofs.laws.commands_are_unique.Goals as goal

pub returns : goal.returns
returns c = λ t x y. c.trees_are_unique.ensures.texts COMMAND (kinds_of t) t x y (inl refl) (c.kinds_are_kinds.ensures t)
