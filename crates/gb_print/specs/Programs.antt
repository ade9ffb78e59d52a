-- The trees of statements, from those of their forms.
use Rattle.std.specs.Prelude.{Bool, true, false, if◌then◌else◌, List, [], ◌∷◌, ◌++◌, map}
use Rattle.gb_core.specs.declared.var.Var.{Var}
use Rattle.gb_script.specs.declared.head.Head.{Head}
use Rattle.gb_script.specs.declared.head.Head.TheVariants as head
use Rattle.gb_script.specs.declared.tree.Node.{Node}
use Rattle.gb_script.specs.Tree.{head_of, parts_of}
use Rattle.gb_print_names.specs.declared.bound_names.Known.{Known}
use Rattle.gb_print.specs.Nodes.{tree, list, of_words}
use Rattle.gb_print.specs.Types.{variable_words}

-- what is written to variables: the words of a lone one stand in front, and several are a statement of their own
abbrev pub written : Head → List Known → List Var → Node → Node
written h bound [] call = call
written h bound (x ∷ []) e = tree h (variable_words bound x ++ e ∷ [])
written h bound xs e = tree head.TupleStatement (list (map (λ x. of_words (variable_words bound x)) xs) ∷ tree h (e ∷ []) ∷ [])

abbrev pub begins_with_word : Head → Bool
begins_with_word head.TupleStatement = false
begins_with_word head.If = false
begins_with_word head.While = false
begins_with_word _ = true

-- the body of a loop behind its variant, where its first statement begins with a word: this word stands apart
abbrev pub named_loop : Head → List Node → List Node → List Node
named_loop h [] ss = tree h [] ∷ ss
named_loop h (w ∷ ws) ss = w ∷ tree h ws ∷ ss

-- the variant of a loop, with its body
abbrev pub loop : Node → List Node → Node
loop v [] = tree head.Loop (v ∷ [])
loop v (s ∷ ss) =
    if begins_with_word (head_of s) then tree head.NamedLoop (v ∷ named_loop (head_of s) (parts_of s) ss) else tree head.Loop (v ∷ s ∷ ss)
