-- What a rule says of nodes, from their heads and parts, and induction over nodes.
use Rattle.std.proofs.Common.{◌≡◌, ℕ, List, [], ◌∷◌, map, refl, ap, sym, ◌∙◌, subst}
use Rattle.gb_core.specs.declared.place.Place.{Place}
use Rattle.gb_script.specs.declared.head.Head.{Head}
use Rattle.gb_script.specs.declared.tree.Node.{Node, Node-F, roll-Node, out-Node, roll-out-Node, map-Node, para-Node, para-roll-Node, ind-Node}
use Rattle.gb_script.specs.Tree.{head_of, text_of, parts_of, place_of}

map_twice : {X Y Z : Type 0} (f : X → Y) (g : Y → Z) (xs : List X) → map g (map f xs) ≡ map (λ x. g (f x)) xs
map_twice f g [] = refl
map_twice f g (x ∷ xs) = ap (λ ys. g (f x) ∷ ys) (map_twice f g xs)

-- a rule says something of a node from its head, its text, its parts, each with what is said of it, and its place
module _ {A : Type 0} (rule : Head → List ℕ → List (Node × A) → Place → A) where
  abbrev pub said : Node → A
  said = para-Node A (λ l. rule l.head l.text l.parts l.place)

  module _ (Q : A → Type 0) where
    -- parts, with what is known of each
    abbrev pub Known : Type 0
    Known = (n : Node) × Q (said n)

    abbrev pub parts : List Known → List (Node × A)
    parts ks = map (λ k. (k.0, said k.0)) ks

    made : ((h : Head) (x : List ℕ) (ks : List Known) (p : Place) → Q (rule h x (parts ks) p)) → (y : Node-F Known) → Q (said (roll-Node (map-Node Known Node (λ k. k.0) y)))
    made step y =
        subst Q
        (ap (λ z. rule y.head y.text z y.place) (sym (map_twice (λ (k : Known). k.0) (λ n. (n, said n)) y.parts))
        ∙ sym (para-roll-Node A (λ l. rule l.head l.text l.parts l.place) (map-Node Known Node (λ k. k.0) y)))
        (step y.head y.text y.parts y.place)

    -- what follows for a node from its parts holds of each node
    pub by_parts : ((h : Head) (x : List ℕ) (ks : List Known) (p : Place) → Q (rule h x (parts ks) p)) → (n : Node) → Q (said n)
    by_parts step = ind-Node (λ n. Q (said n)) (λ x y is. subst (λ z. Q (said (roll-Node z))) is (made step y))

  -- what is said of a node, from its head, its text, its parts, each with what is said of it, and its place
  pub said_is : (t : Node) → said t ≡ rule (head_of t) (text_of t) (map (λ n. (n, said n)) (parts_of t)) (place_of t)
  said_is t = ap said (sym (roll-out-Node t)) ∙ para-roll-Node A (λ l. rule l.head l.text l.parts l.place) (out-Node t)
