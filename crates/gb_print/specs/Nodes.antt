-- Nodes without places, and those of names and numbers.
use Rattle.std.specs.Prelude.{ℕ, ◌==◌, if◌then◌else◌, List, [], ◌∷◌, map}
use Rattle.std.specs.Fmt.{decimal}
use Rattle.gb_goal.specs.Answers.{nowhere}
use Rattle.gb_script.specs.declared.head.Head.{Head}
use Rattle.gb_script.specs.declared.head.Head.TheVariants as head
use Rattle.gb_script.specs.declared.tree.Node.{Node, fold-Node}
use Rattle.gb_script.specs.Tree.{node}
use Rattle.gb_print_names.specs.Text.{Text}

-- a tree without its places: what is printed is read as a tree that is this one but for its places
abbrev pub placeless : Node → Node
placeless = fold-Node Node (λ l. node l.head l.text l.parts nowhere)

abbrev pub tree : Head → List Node → Node
tree h parts = node h [] parts nowhere

-- a node with a text
abbrev pub spelled : Head → Text → List Node → Node
spelled h w parts = node h w parts nowhere

abbrev pub leaf : Head → Text → Node
leaf h w = spelled h w []

-- parts that stand together
abbrev pub list : List Node → Node
list = tree head.List

abbrev pub number : ℕ → Node
number n = leaf head.Number (decimal n)

abbrev pub word : Text → Node
word = leaf head.Name

-- the first word of a name with a byte more in front
abbrev pub with_byte : ℕ → List Text → List Text
with_byte b [] = (b ∷ []) ∷ []
with_byte b (w ∷ ws) = (b ∷ w) ∷ ws

-- the words of a name, between its dots
abbrev pub words : Text → List Text
words [] = [] ∷ []
words (b ∷ bs) = if b == 46 then [] ∷ words bs else with_byte b (words bs)

-- the nodes of these words
abbrev pub word_nodes : Text → List Node
word_nodes x = map word (words x)

-- one word is a name
abbrev pub of_words : List Node → Node
of_words (w ∷ []) = w
of_words ws = tree head.Path ws

abbrev pub path : Text → Node
path x = of_words (word_nodes x)
