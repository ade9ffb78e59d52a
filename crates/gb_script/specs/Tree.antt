-- Trees put together.
use Rattle.std.specs.Prelude.{ℕ, if◌then◌else◌, List, [], ◌∷◌, ◌++◌, map}
use Rattle.gb_core.specs.declared.place.Place.{Place}
use Rattle.gb_script.specs.declared.head.Head.{Head}
use Rattle.gb_script.specs.declared.tree.Node.{Node, Node-F, roll-Node, out-Node, para-Node}
use Rattle.gb_script.specs.Head.{goes_under, joins}

abbrev pub node : Head → List ℕ → List Node → Place → Node
node h text parts place = roll-Node (record { head = h; text = text; parts = parts; place = place })

abbrev pub head_of : Node → Head
head_of x = (out-Node x).head

abbrev pub text_of : Node → List ℕ
text_of x = (out-Node x).text

abbrev pub parts_of : Node → List Node
parts_of x = (out-Node x).parts

abbrev pub place_of : Node → Place
place_of x = (out-Node x).place

abbrev pub fields_of : Node → Head × List ℕ × List Node × Place
fields_of x = ((out-Node x).head, (out-Node x).text, (out-Node x).parts, (out-Node x).place)

-- an item with an operand in front of its parts, at the operand's place; or, behind more arguments, its parts with them
abbrev pub behind : Node → Node → Node
behind x item =
    if joins (head_of item) (head_of x) then node (head_of x) (text_of x) (parts_of x ++ parts_of item) (place_of x)
    else node (head_of item) (text_of item) (x ∷ parts_of item) (place_of x)

-- the last part changed
abbrev pub last_changed : Node → List (Node × (Node → Node)) → List Node
last_changed item [] = []
last_changed item (x ∷ []) = x.1 item ∷ []
last_changed item (x ∷ y ∷ ys) = x.0 ∷ last_changed item (y ∷ ys)

abbrev pub attach_layer : Node-F (Node × (Node → Node)) → Node → Node
attach_layer l item =
    if goes_under (head_of item) l.head then node l.head l.text (last_changed item l.parts) l.place
    else behind (node l.head l.text (map (λ x. x.0) l.parts) l.place) item

-- an item behind what stands before it: behind the whole, or inside its last part where it binds tighter
unfoldable pub attach : Node → Node → Node
attach = para-Node (Node → Node) attach_layer

-- items behind an operand, from left to right
abbrev pub attached : Node → List Node → Node
attached x [] = x
attached x (i ∷ is) = attached (attach x i) is
