use Rattle.std.proofs.Common.{inr, refl}
use Rattle.gb_language.specs.declared.rows.TheConstants.{FORM}
use Rattle.gb_limits.specs.Lexeme.{kinds_of}
use Rattle.gb_read_script.proofs.laws.forms_are_unique.Goals as goal

pub returns : goal.returns
returns c = λ t x y. c.trees_are_unique.ensures.texts FORM (kinds_of t) t x y (inr refl) (c.kinds_are_kinds.ensures t)
