-- What is known of steps of which a tree is built.
use Rattle.std.specs.Prelude.{ℕ, List}
use Rattle.gb_script.specs.Grammar.{Grammar}
use Rattle.gb_script.specs.declared.action.Rule.{Rule}
use Rattle.gb_script.specs.Sorts.{Language, Sort, ValueSort}

-- The grammar, the signatures of its heads and the sorts of its parts; the part whose text it is, the sort of its trees, and
-- its kinds of token.
pub record Derivation : Type 0 where
  pub grammar : Grammar Rule
  pub language : Language
  pub sorts : ℕ → List ValueSort
  pub part : ℕ
  pub sort : Sort
  pub kinds : List ℕ
