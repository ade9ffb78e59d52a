-- Written by tools/actions.py from script.txt: the kinds of token that spell the texts of nodes.
use Rattle.std.specs.Prelude.{ℕ, [], ◌∷◌, List}
use Rattle.gb_script.specs.declared.head.Head.{Head}
use Rattle.gb_script.specs.declared.head.Head.TheVariants as head

-- the kinds of each head that has a text
abbrev pub spelling : Head → List ℕ
spelling head.PlainType = 36 ∷ 37 ∷ []
spelling head.Quantified = 43 ∷ 44 ∷ []
spelling head.Compared = 102 ∷ 103 ∷ 104 ∷ 105 ∷ 106 ∷ []
spelling head.Bounded = 102 ∷ 105 ∷ 106 ∷ []
spelling head.Number = 3 ∷ 5 ∷ 6 ∷ 7 ∷ []
spelling head.Name = 2 ∷ 57 ∷ 58 ∷ 59 ∷ 60 ∷ 61 ∷ 62 ∷ 63 ∷ 64 ∷ 65 ∷ 66 ∷ 67 ∷ 68 ∷ 69 ∷ 70 ∷ 71 ∷ 72 ∷ 73 ∷ 74 ∷ 75 ∷ 76 ∷ 77 ∷ 78 ∷ 79 ∷ 80 ∷ 81 ∷ []
spelling head.PlainStep = 58 ∷ 59 ∷ 121 ∷ []
spelling head.BodyStep = 32 ∷ 49 ∷ 65 ∷ 66 ∷ []
spelling head.PositionStep = 72 ∷ []
spelling head.ByStep = 75 ∷ []
spelling head.RewriteLaw = 79 ∷ []
spelling _ = []
