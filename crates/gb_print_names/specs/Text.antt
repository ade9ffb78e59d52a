-- Text that is written piece by piece.
use Rattle.std.specs.Prelude.{ℕ, List, [], ◌∷◌, ◌++◌, if◌then◌else◌, nat_eq, codes}
use Rattle.std.specs.List.{ends_with}
use Rattle.std.specs.Fmt.{decimal}

abbrev pub Text : Type 0
Text = List ℕ

-- what a text becomes when a piece is written behind it
abbrev pub Writing : Type 0
Writing = Text → Text

infixl 10 ◌▸◌
-- one step, and then another
abbrev pub ◌▸◌ : {X : Type 0} → (X → X) → (X → X) → X → X
(f ▸ g) x = g (f x)

abbrev pub nothing : {X : Type 0} → X → X
nothing x = x

-- a step for each element, in order
abbrev pub each : {A X : Type 0} → (A → X → X) → List A → X → X
each f [] x = x
each f (a ∷ rest) x = each f rest (f a x)

abbrev pub word : Text → Writing
word w before = before ++ w

abbrev pub number : ℕ → Writing
number n = word (decimal n)

-- the elements, with a word between each two
abbrev pub separated : {A : Type 0} → Text → (A → Writing) → List A → Writing
separated s f [] = nothing
separated s f (a ∷ rest) = f a ▸ each (λ b. word s ▸ f b) rest

-- a bar; behind another bar, with which it would be one token, a space stands between them
abbrev pub bar : Writing
bar before = if ends_with nat_eq before (codes "|") then word (codes " |") before else word (codes "|") before
