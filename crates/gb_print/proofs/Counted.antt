-- How many operands stand in the lists among values.
use Rattle.std.specs.Prelude.{ℕ, ◌≡◌, ◌+◌, ◌≤◌, Bool, true, false, List, [], ◌∷◌, ◌++◌, length}
use Rattle.std.proofs.Common.{ap, ◌∙◌, subst, arith}
use Rattle.gb_core.specs.declared.place.Place.{Place}
use Rattle.gb_goal.specs.Answers.{nowhere}
use Rattle.gb_script.specs.declared.head.Head.{Head}
use Rattle.gb_script.specs.declared.tree.Node.{Node, Node-F, out-roll-Node}
use Rattle.gb_script.specs.declared.value.Value.{Value}
use Rattle.gb_script.specs.declared.value.Value.TheVariants.{Tree, Trees}
use Rattle.gb_script.specs.Tree.{node, head_of}
use Rattle.gb_print.proofs.Chains.{is_joined, one_if, joined_in, joined_behind, operands_in}

pub at_most_one : (t : Bool) → one_if t ≤ 1
at_most_one true = omega arith
at_most_one false = omega arith

pub joined_node : (h : Head) (t : List ℕ) (ps : List Node) (q : Place) → one_if (is_joined (head_of (node h t ps q))) ≡ one_if (is_joined h)
joined_node h t ps q = ap (λ (l : Node-F Node). one_if (is_joined l.head)) (out-roll-Node (record { head = h; text = t; parts = ps; place = q }))

pub joined_append : (xs ys : List Node) → joined_in (xs ++ ys) ≡ joined_in xs + joined_in ys
joined_append [] ys = omega arith
joined_append (x ∷ xs) ys = let h = joined_append xs ys in omega arith

pub few_joined : (xs : List Node) → joined_in xs ≤ length xs
few_joined [] = omega arith
few_joined (x ∷ xs) = let h = few_joined xs in let k = at_most_one (is_joined (head_of x)) in omega arith

behind_less : (vs : List Value) → operands_in vs ≤ joined_behind vs
behind_less [] = omega arith
behind_less (Tree x ∷ vs) = omega arith
behind_less (Trees xs ∷ vs) = omega arith

behind_more : (us vs : List Value) → joined_behind vs ≤ joined_behind (us ++ vs)
behind_more [] vs = omega arith
behind_more (u ∷ us) vs = let h = behind_more us vs in omega arith

more_of : (us vs : List Value) → operands_in vs ≤ operands_in (us ++ vs)
more_of [] vs = omega arith
more_of (Tree x ∷ us) vs = let h = behind_less vs in let k = behind_more us vs in omega arith
more_of (Trees xs ∷ us) vs = let h = behind_less vs in let k = behind_more us vs in omega arith

-- Values behind others have no more of them.
pub fewer_behind : (us vs ws : List Value) → us ++ vs ≡ ws → 0 + operands_in vs ≤ operands_in ws
fewer_behind us vs ws e = subst (λ xs. 0 + operands_in vs ≤ operands_in xs) e (let h = more_of us vs in omega arith)

behind_append : (us vs : List Value) → joined_behind (us ++ vs) ≡ joined_behind us + joined_behind vs
behind_append [] vs = omega arith
behind_append (u ∷ us) vs = let h = behind_append us vs in omega arith

both_of : (us vs : List Value) → operands_in us + operands_in vs ≤ operands_in (us ++ vs)
both_of [] vs = omega arith
both_of (Tree x ∷ us) vs = let h = behind_less vs in let k = behind_append us vs in omega arith
both_of (Trees xs ∷ us) vs = let h = behind_less vs in let k = behind_append us vs in omega arith

-- so many of them, with further values behind
pub more_followed : (m : ℕ) (us vs : List Value) → m + operands_in [] ≤ operands_in us → m + operands_in vs ≤ operands_in (us ++ vs)
more_followed m us vs h = let k = both_of us vs in omega arith

pub as_many : (vs : List Value) → operands_in vs + operands_in [] ≤ operands_in vs
as_many vs = omega arith

-- one item
pub one_item : (h : Head) (ps : List Node) → is_joined h ≡ true → 1 + operands_in [] ≤ operands_in (Trees (node h [] ps nowhere ∷ []) ∷ [])
one_item h ps e = let n = joined_node h [] ps nowhere ∙ ap one_if e in omega arith

pub one_more_item : (h : Head) (ps its : List Node) (n : ℕ) → is_joined h ≡ true → n ≤ joined_in its → (n + 1) + operands_in [] ≤ operands_in (Trees (node h [] ps nowhere ∷ its) ∷ [])
one_more_item h ps its n e l = let k = joined_node h [] ps nowhere ∙ ap one_if e in omega arith

pub one_listed : (a x : Node) → operands_in (Tree a ∷ Trees (x ∷ []) ∷ []) ≤ 50
one_listed a x = let h = at_most_one (is_joined (head_of x)) in omega arith
