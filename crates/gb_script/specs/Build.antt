-- The trees that the steps of a derivation build.
use Rattle.std.specs.Prelude.{◌≡◌, map, ℕ, List, [], ◌∷◌, ◌++◌, take, drop}
use Rattle.gb_core.specs.declared.place.Place.{Place}
use Rattle.gb_script.specs.declared.table.Step.{Step}
use Rattle.gb_script.specs.Grammar.{Grammar}
use Rattle.gb_script.specs.Parsing.{Spells}
use Rattle.gb_script.specs.declared.action.Action.{Action}
use Rattle.gb_script.specs.declared.action.Action.TheVariants.{Nothing, Pass, Make, Enclose, Spell, Graft, Flat, Extend, Many, Lead, Attach}
use Rattle.gb_script.specs.declared.action.Rule.{Rule}
use Rattle.gb_script.specs.declared.head.Head.{Head}
use Rattle.gb_script.specs.declared.head.Head.TheVariants as head
use Rattle.gb_script.specs.declared.text.Text.{Text}
use Rattle.gb_script.specs.declared.tree.Node.{Node}
use Rattle.gb_script.specs.Text.{name_at, place_at, place_before}
use Rattle.gb_script.specs.declared.value.Value.{Value}
use Rattle.gb_script.specs.declared.value.Value.TheVariants.{Tree, Trees}
use Rattle.gb_script.specs.Value.{part_of, trees_of, flattened}
use Rattle.gb_script.specs.Tree.{node, head_of, text_of, parts_of, attached}

-- the values as parts of a node
abbrev pub parts : Place → List Value → List Node
parts place vs = map (λ v. part_of place v) vs

-- a lone part itself, and a node of others
abbrev pub flat : Head → Place → List Node → Node
flat h place (x ∷ []) = x
flat h place xs = node h [] xs place

-- the first value as the parts of a node, and the others flattened
abbrev pub led : Head → Place → List Value → List Node
led h place [] = []
led h place (v ∷ vs) = node h [] (trees_of v) place ∷ flattened vs

-- a node that begins here, with these values in front of its parts
abbrev pub grown : Place → List Value → Node → Node
grown place front y = node (head_of y) (text_of y) (parts place front ++ parts_of y) place

-- .. or the first element of a list
abbrev pub into : Place → List Value → Value → Value
into place front (Tree y) = Tree (grown place front y)
into place front (Trees []) = Trees []
into place front (Trees (y ∷ ys)) = Trees (grown place front y ∷ ys)

-- .. where the values stand behind others in front
abbrev pub extended_behind : Place → List Value → List Value → Value
extended_behind place front [] = Trees []
extended_behind place front (v ∷ []) = into place front v
extended_behind place front (v ∷ w ∷ vs) = extended_behind place (front ++ v ∷ []) (w ∷ vs)

-- the last value, or the first of its elements, which begins here, with the others in front of its parts
abbrev pub extended : Place → List Value → Value
extended place vs = extended_behind place [] vs

abbrev pub all_attached : Place → List Node → Node
all_attached place [] = node head.List [] [] place
all_attached place (x ∷ xs) = attached x xs

-- what an action makes at a token of these values
abbrev pub made : Action → Text → ℕ → List Value → List Value
made Nothing t at vs = []
made Pass t at vs = vs
made (Make h) t at vs = Tree (node h [] (parts (place_at t at) vs) (place_at t at)) ∷ []
made (Enclose h) t at vs = Tree (node h [] (parts (place_before t at) vs) (place_before t at)) ∷ []
made (Spell h) t at vs = Tree (node h (name_at t at) (parts (place_at t at) vs) (place_at t at)) ∷ []
made (Graft h) t at vs = Tree (node h [] (flattened vs) (place_at t at)) ∷ []
made (Flat h) t at vs = Tree (flat h (place_at t at) (flattened vs)) ∷ []
made Extend t at vs = extended (place_at t at) vs ∷ []
made Many t at vs = Trees (flattened vs) ∷ []
made (Lead h) t at vs = Trees (led h (place_at t at) vs) ∷ []
made Attach t at vs = Tree (all_attached (place_at t at) (flattened vs)) ∷ []

-- The action makes one value.
abbrev pub makes_one : Action → Type 0
makes_one Nothing = ⊥
makes_one Pass = ⊥
makes_one _ = Unit {0}

-- the stack, the top first, after a step: its values are taken off, and what it makes put on
abbrev pub run : Text → Step Rule → List Value → List Value
run t s stack = made s.rule.action t s.at (take s.rule.takes stack) ++ drop s.rule.takes stack

-- the stack after these steps, from the last to the first
abbrev pub built : Text → List (Step Rule) → List Value
built t [] = []
built t (s ∷ ss) = run t s (built t ss)

-- These kinds of token spell this tree, as a text of this part.
abbrev pub IsTree : Grammar Rule → ℕ → List ℕ → Text → Node → Type 0
IsTree g n kinds t x = (steps : List (Step Rule)) × Spells g n kinds steps × (built t steps ≡ Tree x ∷ [])
