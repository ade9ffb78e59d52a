-- Nodes that actions make: a type of tuples has two parts at least, and a statement that writes variables of a list has some.
use Rattle.std.specs.Prelude.{ℕ, zero, suc, ◌≡◌, Bool, true, false, List, [], ◌∷◌, ◌++◌, take, drop}
use Rattle.std.proofs.Common.{refl, sym, ◌∙◌, subst}
use Rattle.std.proofs.lemmas.Bool.{and_parts}
use Rattle.gb_core.specs.declared.place.Place.{Place}
use Rattle.gb_script.specs.declared.table.Step.{Step}
use Rattle.gb_script.specs.declared.action.Action.{Action}
use Rattle.gb_script.specs.declared.action.Action.TheVariants.{Nothing, Pass, Make, Enclose, Spell, Graft, Flat, Extend, Many, Lead, Attach}
use Rattle.gb_script.specs.declared.action.Rule.{Rule}
use Rattle.gb_script.specs.declared.head.Head.{Head}
use Rattle.gb_script.specs.declared.head.Head.TheVariants as head
use Rattle.gb_script.specs.declared.text.Text.{Text}
use Rattle.gb_script.specs.declared.tree.Node.{Node, Node-F, out-Node, out-roll-Node}
use Rattle.gb_script.specs.declared.value.Value.{Value}
use Rattle.gb_script.specs.declared.value.Value.TheVariants.{Tree, Trees}
use Rattle.gb_script.specs.Head.{goes_under, is_joiner, joins}
use Rattle.gb_script.specs.Text.{name_at, place_at}
use Rattle.gb_script.specs.Tree.{node, head_of, text_of, place_of, parts_of, behind, attach, attached, last_changed}
use Rattle.gb_script.specs.Value.{part_of, trees_of, flattened}
use Rattle.gb_script.specs.Build.{parts, flat, led, grown, into, extended_behind, extended, all_attached, made, run, built}
use Rattle.gb_script.specs.Each.{Each, each, EachOf, none, more}
use Rattle.gb_script.proofs.Attach.{paired, stays, inside}
use Rattle.gb_script.proofs.Sorts.{not_false}
use Rattle.gb_shown.specs.Trees.{HasTwoParts, HasPart}

abbrev pub is_product : Head → Bool
is_product head.ProductType = true
is_product _ = false

abbrev pub is_writing : Head → Bool
is_writing head.TupleStatement = true
is_writing _ = false

-- The last but one of these nodes has parts.
abbrev pub EndsWell : List Node → Type 0
EndsWell [] = ⊥
EndsWell (x ∷ []) = ⊥
EndsWell (x ∷ y ∷ []) = HasPart (parts_of x)
EndsWell (x ∷ y ∷ z ∷ zs) = EndsWell (y ∷ z ∷ zs)

-- A type of tuples has two parts; what a statement writes stands in front of its last part.
abbrev pub Keeps : Head → List Node → Type 0
Keeps h xs = (is_product h ≡ true → HasTwoParts xs) × (is_writing h ≡ true → EndsWell xs)

abbrev pub HasParts : Node → Type 0
HasParts x = Keeps (head_of x) (parts_of x)

-- Lists of parts.

two_behind : (ys xs : List Node) → HasTwoParts xs → HasTwoParts (ys ++ xs)
two_behind [] xs h = h
two_behind (y ∷ []) (x ∷ w ∷ xs) h = tt
two_behind (y ∷ []) [] h = absurd h
two_behind (y ∷ []) (x ∷ []) h = absurd h
two_behind (y ∷ z ∷ ys) xs h = tt

two_before : (xs ys : List Node) → HasTwoParts xs → HasTwoParts (xs ++ ys)
two_before (x ∷ w ∷ xs) ys h = tt
two_before [] ys h = absurd h
two_before (x ∷ []) ys h = absurd h

two_changed : (i : Node) (xs : List Node) → HasTwoParts xs → HasTwoParts (last_changed i (paired xs))
two_changed i (x ∷ w ∷ []) h = tt
two_changed i (x ∷ w ∷ z ∷ xs) h = tt
two_changed i [] h = absurd h
two_changed i (x ∷ []) h = absurd h

ends_more : (y : Node) (zs : List Node) → EndsWell zs → EndsWell (y ∷ zs)
ends_more y [] h = absurd h
ends_more y (a ∷ []) h = absurd h
ends_more y (a ∷ b ∷ zs) h = h

ends_behind : (ys xs : List Node) → EndsWell xs → EndsWell (ys ++ xs)
ends_behind [] xs h = h
ends_behind (y ∷ ys) xs h = ends_more y (ys ++ xs) (ends_behind ys xs h)

ends_changed : (i : Node) (xs : List Node) → EndsWell xs → EndsWell (last_changed i (paired xs))
ends_changed i [] h = absurd h
ends_changed i (x ∷ []) h = absurd h
ends_changed i (x ∷ y ∷ []) h = h
ends_changed i (x ∷ y ∷ z ∷ zs) h = ends_more x (last_changed i (paired (y ∷ z ∷ zs))) (ends_changed i (y ∷ z ∷ zs) h)

keeps_behind : (h : Head) (ys xs : List Node) → Keeps h xs → Keeps h (ys ++ xs)
keeps_behind h ys xs k = ((λ e. two_behind ys xs (k.0 e)), (λ e. ends_behind ys xs (k.1 e)))

keeps_changed : (h : Head) (i : Node) (xs : List Node) → Keeps h xs → Keeps h (last_changed i (paired xs))
keeps_changed h i xs k = ((λ e. two_changed i xs (k.0 e)), (λ e. ends_changed i xs (k.1 e)))

-- no such node takes further arguments
no_joiner : (h : Head) → is_joiner h ≡ true → is_writing h ≡ false
no_joiner head.Apply e = refl
no_joiner _ e = absurd (not_false e)

-- nodes of other heads
abbrev pub IsPlain : Head → Type 0
IsPlain h = (is_product h ≡ false) × (is_writing h ≡ false)

plain_keeps : (h : Head) (xs : List Node) → IsPlain h → Keeps h xs
plain_keeps h xs n = ((λ e. absurd (not_false (sym n.0 ∙ e))), (λ e. absurd (not_false (sym n.1 ∙ e))))

-- Nodes.

said : {x : Node} → Each HasParts x → HasParts x
said (each h d) = h

below : {x : Node} → Each HasParts x → EachOf HasParts (parts_of x)
below (each h d) = d

whole : (h : Head) (x : List ℕ) (xs : List Node) (p : Place) → Keeps h xs → EachOf HasParts xs → Each HasParts (node h x xs p)
whole h x xs p n d =
    let r : Node-F Node = record { head = h; text = x; parts = xs; place = p } in
    let o : r ≡ out-Node (node h x xs p) = sym (out-roll-Node r) in
    each (subst (λ (z : Node-F Node). Keeps z.head z.parts) o n) (subst (λ (z : Node-F Node). EachOf HasParts z.parts) o d)

together : {xs ys : List Node} → EachOf HasParts xs → EachOf HasParts ys → EachOf HasParts (xs ++ ys)
together none e = e
together (more d ds) e = more d (together ds e)

-- Items behind what stands before them.

-- further arguments of what stands before them
joined_keeps : (x i : Node) → joins (head_of i) (head_of x) ≡ true → Keeps (head_of x) (parts_of x) → Keeps (head_of x) (parts_of x ++ parts_of i)
joined_keeps x i h k =
    let j = and_parts (is_joiner (head_of i)) (is_joiner (head_of x)) h in
    ((λ e. two_before (parts_of x) (parts_of i) (k.0 e)), (λ e. absurd (not_false (sym (no_joiner (head_of x) j.1) ∙ e))))

behind_by : (x i : Node) (b : Bool) → joins (out-Node i).head (out-Node x).head ≡ b → Each HasParts x → Each HasParts i → Each HasParts (behind x i)
behind_by x i true h d e = rw h (whole (head_of x) (text_of x) (parts_of x ++ parts_of i) (place_of x) (joined_keeps x i h (said d)) (together (below d) (below e)))
behind_by x i false h d e = rw h (whole (head_of i) (text_of i) (x ∷ parts_of i) (place_of x) (keeps_behind (head_of i) (x ∷ []) (parts_of i) (said e)) (more d (below e)))

module _ (i : Node) (e : Each HasParts i) where
  attach_by : (x : Node) (b : Bool) → goes_under (out-Node i).head (out-Node x).head ≡ b → Each HasParts x → EachOf HasParts (last_changed i (paired (parts_of x))) → Each HasParts (attach x i)
  attach_by x true h d c =
      subst (λ (z : Node). Each HasParts z) (sym (inside x i h)) (whole (head_of x) (text_of x) (last_changed i (paired (parts_of x))) (place_of x) (keeps_changed (head_of x) i (parts_of x) (said d)) c)
  attach_by x false h d c = subst (λ (z : Node). Each HasParts z) (sym (stays x i h)) (behind_by x i (joins (out-Node i).head (out-Node x).head) refl d e)

  mutual
    attach_of : {x : Node} → Each HasParts x → Each HasParts (attach x i)
    attach_of {x = x} (each h d) = attach_by x (goes_under (out-Node i).head (out-Node x).head) refl (each h d) (last_of d)

    last_of : {xs : List Node} → EachOf HasParts xs → EachOf HasParts (last_changed i (paired xs))
    last_of none = none
    last_of (more d none) = more (attach_of d) none
    last_of (more d (more e ds)) = more d (last_of (more e ds))

attached_of : {is : List Node} → EachOf HasParts is → (x : Node) → Each HasParts x → Each HasParts (attached x is)
attached_of none x d = d
attached_of (more {x = i} e es) x d = attached_of es (attach x i) (attach_of i e d)

-- Values.

abbrev Of : List Value → Type 0
Of vs = EachOf HasParts (flattened vs)

front : (ys xs : List Node) → EachOf HasParts (ys ++ xs) → EachOf HasParts ys
front [] xs d = none
front (y ∷ ys) xs (more d ds) = more d (front ys xs ds)

back : {xs : List Node} (ys : List Node) → EachOf HasParts (ys ++ xs) → EachOf HasParts xs
back [] d = d
back (y ∷ ys) (more d ds) = back ys ds

of_front : (k : ℕ) (vs : List Value) → Of vs → Of (take k vs)
of_front zero vs d = none
of_front (suc k) [] d = none
of_front (suc k) (v ∷ vs) d = together (front (trees_of v) _ d) (of_front k vs (back (trees_of v) d))

of_back : (k : ℕ) (vs : List Value) → Of vs → Of (drop k vs)
of_back zero vs d = d
of_back (suc k) [] d = none
of_back (suc k) (v ∷ vs) d = of_back k vs (back (trees_of v) d)

of_both : (vs ws : List Value) → Of vs → Of ws → Of (vs ++ ws)
of_both [] ws d e = e
of_both (v ∷ vs) ws d e = together (front (trees_of v) _ d) (of_both vs ws (back (trees_of v) d) e)

of_one : (v : Value) → EachOf HasParts (trees_of v) → Of (v ∷ [])
of_one v d = together d none

tree_alone : (x : Node) → Each HasParts x → Of (Tree x ∷ [])
tree_alone x d = more d none

-- What actions make.

part : (p : Place) (v : Value) → EachOf HasParts (trees_of v) → Each HasParts (part_of p v)
part p (Tree x) (more d ds) = d
part p (Trees xs) d = whole head.List [] xs p (plain_keeps head.List xs (refl, refl)) d

all_parts : (p : Place) (vs : List Value) → Of vs → EachOf HasParts (parts p vs)
all_parts p [] d = none
all_parts p (v ∷ vs) d = more (part p v (front (trees_of v) _ d)) (all_parts p vs (back (trees_of v) d))

-- something stands in the list
abbrev pub HasSome : List Node → Type 0
HasSome [] = ⊥
HasSome (x ∷ xs) = Unit {0}

flat_of : (h : Head) (p : Place) (xs : List Node) → is_writing h ≡ false → HasSome xs → EachOf HasParts xs → Each HasParts (flat h p xs)
flat_of h p [] n s d = absurd s
flat_of h p (x ∷ []) n s (more d ds) = d
flat_of h p (x ∷ y ∷ xs) n s d = whole h [] (x ∷ y ∷ xs) p ((λ e. tt), (λ e. absurd (not_false (sym n ∙ e)))) d

led_of : (h : Head) (p : Place) (vs : List Value) → IsPlain h → Of vs → EachOf HasParts (led h p vs)
led_of h p [] n d = none
led_of h p (v ∷ vs) n d = more (whole h [] (trees_of v) p (plain_keeps h (trees_of v) n) (front (trees_of v) _ d)) (back (trees_of v) d)

grown_of : (p : Place) (vs : List Value) (y : Node) → Of vs → Each HasParts y → Each HasParts (grown p vs y)
grown_of p vs y d e = whole (head_of y) (text_of y) (parts p vs ++ parts_of y) p (keeps_behind (head_of y) (parts p vs) (parts_of y) (said e)) (together (all_parts p vs d) (below e))

into_of : (p : Place) (vs : List Value) (v : Value) → Of vs → EachOf HasParts (trees_of v) → EachOf HasParts (trees_of (into p vs v))
into_of p vs (Tree y) d (more e es) = more (grown_of p vs y d e) none
into_of p vs (Trees []) d e = none
into_of p vs (Trees (y ∷ ys)) d (more e es) = more (grown_of p vs y d e) es

behind_of : (p : Place) (before vs : List Value) → Of before → Of vs → EachOf HasParts (trees_of (extended_behind p before vs))
behind_of p before [] d e = none
behind_of p before (v ∷ []) d e = into_of p before v d (front (trees_of v) _ e)
behind_of p before (v ∷ w ∷ vs) d e = behind_of p (before ++ v ∷ []) (w ∷ vs) (of_both before (v ∷ []) d (of_one v (front (trees_of v) _ e))) (back (trees_of v) e)

all_attached_of : (p : Place) (xs : List Node) → EachOf HasParts xs → Each HasParts (all_attached p xs)
all_attached_of p [] d = whole head.List [] [] p (plain_keeps head.List [] (refl, refl)) none
all_attached_of p (x ∷ xs) (more d ds) = attached_of ds x d

-- the first of two values is a list with something in it
abbrev pub WritesSome : List Value → Type 0
WritesSome (Trees (x ∷ xs) ∷ v ∷ []) = Unit {0}
WritesSome _ = ⊥

-- An action makes no such nodes, or as they are to be.
abbrev pub Suits : Action → List Value → Type 0
Suits (Make h) vs = (is_product h ≡ false) × (is_writing h ≡ true → WritesSome vs)
Suits (Spell h) vs = IsPlain h
Suits (Enclose h) vs = IsPlain h
Suits (Graft h) vs = IsPlain h
Suits (Lead h) vs = IsPlain h
Suits (Flat h) vs = (is_writing h ≡ false) × HasSome (flattened vs)
Suits _ vs = Unit {0}

list_parts : (x : Node) (xs : List Node) (p : Place) → HasPart (parts_of (node head.List [] (x ∷ xs) p))
list_parts x xs p =
    let r : Node-F Node = record { head = head.List; text = []; parts = x ∷ xs; place = p } in
    let o : r ≡ out-Node (node head.List [] (x ∷ xs) p) = sym (out-roll-Node r) in subst (λ (z : Node-F Node). HasPart z.parts) o tt

written : (p : Place) (vs : List Value) → WritesSome vs → EndsWell (parts p vs)
written p (Trees (x ∷ xs) ∷ v ∷ []) h = list_parts x xs p
written p _ h = absurd h

made_keeps : (h : Head) (p : Place) (vs : List Value) → Suits (Make h) vs → Keeps h (parts p vs)
made_keeps h p vs n = ((λ e. absurd (not_false (sym n.0 ∙ e))), (λ e. written p vs (n.1 e)))

module _ (t : Text) where
  made_of : (a : Action) (at : ℕ) (vs : List Value) → Suits a vs → Of vs → Of (made a t at vs)
  made_of Nothing at vs n d = none
  made_of Pass at vs n d = d
  made_of (Make h) at vs n d = tree_alone _ (whole h [] _ _ (made_keeps h _ vs n) (all_parts _ vs d))
  made_of (Enclose h) at vs n d = tree_alone _ (whole h [] _ _ (plain_keeps h _ n) (all_parts _ vs d))
  made_of (Spell h) at vs n d = tree_alone _ (whole h (name_at t at) _ _ (plain_keeps h _ n) (all_parts _ vs d))
  made_of (Graft h) at vs n d = tree_alone _ (whole h [] _ _ (plain_keeps h _ n) d)
  made_of (Flat h) at vs n d = tree_alone _ (flat_of h _ _ n.0 n.1 d)
  made_of Extend at vs n d = of_one (extended (place_at t at) vs) (behind_of (place_at t at) [] vs none d)
  made_of Many at vs n d = of_one (Trees (flattened vs)) d
  made_of (Lead h) at vs n d = of_one (Trees (led h (place_at t at) vs)) (led_of h _ vs n d)
  made_of Attach at vs n d = tree_alone _ (all_attached_of _ _ d)

  run_of : (s : Step Rule) (vs : List Value) → Suits s.rule.action (take s.rule.takes vs) → Of vs → Of (run t s vs)
  run_of s vs n d =
      of_both (made s.rule.action t s.at (take s.rule.takes vs)) (drop s.rule.takes vs) (made_of s.rule.action s.at (take s.rule.takes vs) n (of_front s.rule.takes vs d)) (of_back s.rule.takes vs d)

  abbrev pub AllSuit : List (Step Rule) → Type 0
  AllSuit [] = Unit {0}
  AllSuit (s ∷ ss) = Suits s.rule.action (take s.rule.takes (built t ss)) × AllSuit ss

  built_of : (steps : List (Step Rule)) → AllSuit steps → EachOf HasParts (flattened (built t steps))
  built_of [] n = none
  built_of (s ∷ ss) n = run_of s (built t ss) n.0 (built_of ss n.1)

  first : {x : Node} {xs : List Node} → EachOf HasParts (x ∷ xs) → Each HasParts x
  first (more d ds) = d

  pub tree_of : (steps : List (Step Rule)) (x : Node) → built t steps ≡ Tree x ∷ [] → AllSuit steps → Each HasParts x
  tree_of steps x e n = first (subst (λ (ws : List Value). EachOf HasParts (flattened ws)) e (built_of steps n))
