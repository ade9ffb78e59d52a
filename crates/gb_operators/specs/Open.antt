-- Open forms, which take the type that is wanted of them.
use Rattle.std.specs.Prelude.{Bool, true, false, not, ◌&&◌, ◌||◌, List, [], ◌∷◌, map, codes, bytes_eq}
use Rattle.gb_script.specs.declared.head.Head.{Head}
use Rattle.gb_script.specs.declared.head.Head.TheVariants as head
use Rattle.gb_script.specs.declared.tree.Node.{Node, para-Node}
use Rattle.gb_script.specs.Tree.{head_of, text_of}
use Rattle.gb_names.specs.Environment.{Name}

abbrev pub is_some_name : Head → Name → Bool
is_some_name head.Name x = bytes_eq x (codes "Some")
is_some_name _ x = false

abbrev pub open_alone : List (Node × Bool) → Bool
open_alone (a ∷ []) = a.1
open_alone _ = false

abbrev pub open_both : List (Node × Bool) → Bool
open_both (a ∷ b ∷ []) = a.1 && b.1
open_both _ = false

abbrev pub open_applied : List (Node × Bool) → Bool
open_applied (f ∷ a ∷ []) = is_some_name (head_of f.0) (text_of f.0) && a.1
open_applied _ = false

-- A numeral, `None` and `empty`, `Some` of an open form, and a sum, a product or a negation of open forms are open. Brackets
-- pass it on.
unfoldable pub opens : Head → Name → List (Node × Bool) → Bool
opens head.Number x ps = true
opens head.Name x ps = bytes_eq x (codes "None") || bytes_eq x (codes "empty")
opens head.Bracketed x ps = open_alone ps
opens head.Negative x ps = open_alone ps
opens head.Sum x ps = open_both ps
opens head.Difference x ps = open_both ps
opens head.Xor x ps = open_both ps
opens head.Product x ps = open_both ps
opens head.Apply x ps = open_applied ps
opens _ x ps = false

unfoldable pub is_open : Node → Bool
is_open = para-Node Bool (λ l. opens l.head l.text l.parts)

-- nodes, each with whether it is open
abbrev pub with_openness : List Node → List (Node × Bool)
with_openness ts = map (λ t. (t, is_open t)) ts

-- the right side of an operator is typed first where the left one is open and it isn't
abbrev pub right_first : Node → Node → Bool
right_first a b = is_open a && not (is_open b)
