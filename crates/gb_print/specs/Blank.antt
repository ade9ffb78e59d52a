-- Bytes that begin with a blank.
use Rattle.std.specs.Prelude.{◌≡◌, ℕ, ◌==◌, Bool, false, List, [], ◌∷◌}
use Rattle.gb_script.specs.declared.tree.Node.{Node}
use Rattle.gb_script.specs.Tree.{text_of}

abbrev pub begins_blank : List ℕ → Bool
begins_blank [] = false
begins_blank (b ∷ bs) = b == 32

-- the text of a node doesn't
abbrev pub IsUnblank : Node → Type 0
IsUnblank x = begins_blank (text_of x) ≡ false
