-- How tight operators bind.
use Rattle.std.specs.Prelude.{ℕ, Bool, true, false, ◌&&◌, nat_le, List, [], ◌∷◌}
use Rattle.gb_script.specs.declared.head.Head.{Head}
use Rattle.gb_script.specs.declared.head.Head.TheVariants as head

-- how loosely an item binds to what stands before it
abbrev pub looseness : Head → ℕ
looseness head.Apply = 2
looseness head.Product = 4
looseness head.Quotient = 4
looseness head.PowerProduct = 4
looseness head.Sum = 5
looseness head.Difference = 5
looseness head.Xor = 5
looseness head.Compared = 6
looseness head.And = 8
looseness head.Or = 9
looseness head.Implies = 10
looseness head.Iff = 11
looseness head.Chosen = 12
looseness _ = 1

-- up to which looseness items behind such a node stand inside its last part; 0 where none do
abbrev pub hold : Head → ℕ
hold head.Apply = 1
hold head.Negative = 2
hold head.Product = 3
hold head.Quotient = 3
hold head.PowerProduct = 3
hold head.Sum = 4
hold head.Difference = 4
hold head.Xor = 4
hold head.Compared = 5
hold head.Not = 6
hold head.And = 7
hold head.Or = 8
hold head.Implies = 10
hold head.Iff = 10
hold _ = 0

-- An item of this head stands inside the last part of such a node, and not behind the whole node.
abbrev pub goes_under : Head → Head → Bool
goes_under item node = nat_le (looseness item) (hold node)

-- the heads inside whose last parts items may stand
abbrev pub holders : List Head
holders =
    head.Apply ∷ head.Negative ∷ head.Product ∷ head.Quotient ∷ head.PowerProduct ∷ head.Sum ∷ head.Difference ∷ head.Xor ∷ head.Compared ∷ head.Not ∷ head.And ∷ head.Or ∷ head.Implies ∷ head.Iff ∷ []

-- the head of arguments, which stand together: `f a b` is one node
abbrev pub joiner : Head
joiner = head.Apply

abbrev pub is_joiner : Head → Bool
is_joiner head.Apply = true
is_joiner _ = false

-- The parts of an item stand behind those of the node before it.
abbrev pub joins : Head → Head → Bool
joins item node = is_joiner item && is_joiner node
