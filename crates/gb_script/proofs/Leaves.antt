-- Texts and places of nodes come from tokens.
use Rattle.std.specs.Prelude.{ℕ, zero, suc, ◌≡◌, Bool, true, false, List, [], ◌∷◌, ◌++◌, take, drop}
use Rattle.std.proofs.Common.{refl, sym, subst, inl, inr}
use Rattle.gb_core.specs.declared.place.Place.{Place}
use Rattle.gb_script.specs.declared.table.Step.{Step}
use Rattle.gb_script.specs.Grammar.{Grammar}
use Rattle.gb_script.specs.declared.action.Action.{Action}
use Rattle.gb_script.specs.declared.action.Action.TheVariants.{Nothing, Pass, Make, Enclose, Spell, Graft, Flat, Extend, Many, Lead, Attach}
use Rattle.gb_script.specs.declared.action.Rule.{Rule}
use Rattle.gb_script.specs.declared.head.Head.{Head}
use Rattle.gb_script.specs.declared.head.Head.TheVariants as head
use Rattle.gb_script.specs.declared.text.Text.{Text}
use Rattle.gb_script.specs.declared.tree.Node.{Node, Node-F, out-Node, out-roll-Node}
use Rattle.gb_script.specs.declared.value.Value.{Value}
use Rattle.gb_script.specs.declared.value.Value.TheVariants.{Tree, Trees}
use Rattle.gb_script.specs.Head.{goes_under, joins}
use Rattle.gb_script.specs.Text.{name_at, place_at, place_before}
use Rattle.gb_script.specs.Tree.{node, head_of, text_of, place_of, parts_of, behind, attach, attached, last_changed}
use Rattle.gb_script.specs.Value.{part_of, trees_of, flattened}
use Rattle.gb_script.specs.Build.{parts, flat, led, grown, into, extended_behind, extended, all_attached, made, run, built, IsTree}
use Rattle.gb_script.specs.Each.{Each, each, EachOf, none, more}
use Rattle.gb_script.specs.Leaves.{IsNameOf, IsPlaceOf, IsOf}
use Rattle.gb_script.proofs.Attach.{paired, stays, inside}

-- Whatever holds of the heads, texts and places that actions give to nodes, and goes on to hold where nodes move that may.
module _ (t : Text) (N : Head → List ℕ → Place → Type 0) (list : (p : Place) → N head.List [] p) (Moves : Head → Type 0) (moved : (h : Head) (x : List ℕ) (p q : Place) → Moves h → N h x p → N h x q) where
  -- Nodes.

  abbrev pub Holds : Node → Type 0
  Holds x = N (head_of x) (text_of x) (place_of x) × IsPlaceOf t (place_of x)

  said : {x : Node} → Each Holds x → N (head_of x) (text_of x) (place_of x)
  said (each h d) = h.0

  place : {x : Node} → Each Holds x → IsPlaceOf t (place_of x)
  place (each h d) = h.1

  below : {x : Node} → Each Holds x → EachOf Holds (parts_of x)
  below (each h d) = d

  whole : (h : Head) (x : List ℕ) (xs : List Node) (p : Place) → N h x p → IsPlaceOf t p → EachOf Holds xs → Each Holds (node h x xs p)
  whole h x xs p n q d =
      let r : Node-F Node = record { head = h; text = x; parts = xs; place = p } in
      let o : r ≡ out-Node (node h x xs p) = sym (out-roll-Node r) in
      each (subst (λ (z : Node-F Node). N z.head z.text z.place × IsPlaceOf t z.place) o (n, q)) (subst (λ (z : Node-F Node). EachOf Holds z.parts) o d)

  together : {xs ys : List Node} → EachOf Holds xs → EachOf Holds ys → EachOf Holds (xs ++ ys)
  together none e = e
  together (more d ds) e = more d (together ds e)

  -- Items behind what stands before them.

  behind_by : (x i : Node) → Moves (head_of i) → (b : Bool) → joins (out-Node i).head (out-Node x).head ≡ b → Each Holds x → Each Holds i → Each Holds (behind x i)
  behind_by x i m true h d e =
      rw h (whole (out-Node x).head (text_of x) (parts_of x ++ parts_of i) (place_of x) (said d) (place d) (together (below d) (below e)))
  behind_by x i m false h d e =
      rw h (whole (out-Node i).head (text_of i) (x ∷ parts_of i) (place_of x) (moved (head_of i) (text_of i) (place_of i) (place_of x) m (said e)) (place d) (more d (below e)))

  module _ (i : Node) (m : Moves (head_of i)) (e : Each Holds i) where
    attach_by : (x : Node) (b : Bool) → goes_under (out-Node i).head (out-Node x).head ≡ b → Each Holds x → EachOf Holds (last_changed i (paired (parts_of x))) → Each Holds (attach x i)
    attach_by x true h d c =
        subst (λ (z : Node). Each Holds z) (sym (inside x i h)) (whole (out-Node x).head (text_of x) (last_changed i (paired (parts_of x))) (place_of x) (said d) (place d) c)
    attach_by x false h d c = subst (λ (z : Node). Each Holds z) (sym (stays x i h)) (behind_by x i m (joins (out-Node i).head (out-Node x).head) refl d e)

    mutual
      attach_of : {x : Node} → Each Holds x → Each Holds (attach x i)
      attach_of {x = x} (each h d) = attach_by x (goes_under (out-Node i).head (out-Node x).head) refl (each h d) (last_of d)

      last_of : {xs : List Node} → EachOf Holds xs → EachOf Holds (last_changed i (paired xs))
      last_of none = none
      last_of (more d none) = more (attach_of d) none
      last_of (more d (more e ds)) = more d (last_of (more e ds))

  abbrev pub AllMove : List Node → Type 0
  AllMove [] = Unit {0}
  AllMove (x ∷ xs) = Moves (head_of x) × AllMove xs

  attached_of : {is : List Node} → AllMove is → EachOf Holds is → (x : Node) → Each Holds x → Each Holds (attached x is)
  attached_of m none x d = d
  attached_of m (more {x = i} e es) x d = attached_of m.1 es (attach x i) (attach_of i m.0 e d)

  -- Values.

  abbrev pub Of : List Value → Type 0
  Of vs = EachOf Holds (flattened vs)

  front : (ys xs : List Node) → EachOf Holds (ys ++ xs) → EachOf Holds ys
  front [] xs d = none
  front (y ∷ ys) xs (more d ds) = more d (front ys xs ds)

  back : {xs : List Node} (ys : List Node) → EachOf Holds (ys ++ xs) → EachOf Holds xs
  back [] d = d
  back (y ∷ ys) (more d ds) = back ys ds

  of_front : (k : ℕ) (vs : List Value) → Of vs → Of (take k vs)
  of_front zero vs d = none
  of_front (suc k) [] d = none
  of_front (suc k) (v ∷ vs) d = together (front (trees_of v) _ d) (of_front k vs (back (trees_of v) d))

  of_back : (k : ℕ) (vs : List Value) → Of vs → Of (drop k vs)
  of_back zero vs d = d
  of_back (suc k) [] d = none
  of_back (suc k) (v ∷ vs) d = of_back k vs (back (trees_of v) d)

  of_both : (vs ws : List Value) → Of vs → Of ws → Of (vs ++ ws)
  of_both [] ws d e = e
  of_both (v ∷ vs) ws d e = together (front (trees_of v) _ d) (of_both vs ws (back (trees_of v) d) e)

  of_one : (v : Value) → EachOf Holds (trees_of v) → Of (v ∷ [])
  of_one v d = together d none

  tree_alone : (x : Node) → Each Holds x → Of (Tree x ∷ [])
  tree_alone x d = more d none

  -- What actions make.

  part : (p : Place) (v : Value) → IsPlaceOf t p → EachOf Holds (trees_of v) → Each Holds (part_of p v)
  part p (Tree x) q (more d ds) = d
  part p (Trees xs) q d = whole head.List [] xs p (list p) q d

  all_parts : (p : Place) (vs : List Value) → IsPlaceOf t p → Of vs → EachOf Holds (parts p vs)
  all_parts p [] q d = none
  all_parts p (v ∷ vs) q d = more (part p v q (front (trees_of v) _ d)) (all_parts p vs q (back (trees_of v) d))

  flat_of : (h : Head) (p : Place) (xs : List Node) → N h [] p → IsPlaceOf t p → EachOf Holds xs → Each Holds (flat h p xs)
  flat_of h p [] n q d = whole h [] [] p n q d
  flat_of h p (x ∷ []) n q (more d ds) = d
  flat_of h p (x ∷ y ∷ xs) n q d = whole h [] (x ∷ y ∷ xs) p n q d

  led_of : (h : Head) (p : Place) (vs : List Value) → N h [] p → IsPlaceOf t p → Of vs → EachOf Holds (led h p vs)
  led_of h p [] n q d = none
  led_of h p (v ∷ vs) n q d = more (whole h [] (trees_of v) p n q (front (trees_of v) _ d)) (back (trees_of v) d)

  -- what is extended: the first node of the last value
  abbrev pub FirstMoves : List Node → Type 0
  FirstMoves [] = Unit {0}
  FirstMoves (x ∷ xs) = Moves (head_of x)

  abbrev pub LastMoves : List Value → Type 0
  LastMoves [] = Unit {0}
  LastMoves (v ∷ []) = FirstMoves (trees_of v)
  LastMoves (v ∷ w ∷ vs) = LastMoves (w ∷ vs)

  grown_of : (p : Place) (vs : List Value) (y : Node) → Moves (head_of y) → IsPlaceOf t p → Of vs → Each Holds y → Each Holds (grown p vs y)
  grown_of p vs y m q d e =
      whole (out-Node y).head (text_of y) (parts p vs ++ parts_of y) p (moved (head_of y) (text_of y) (place_of y) p m (said e)) q (together (all_parts p vs q d) (below e))

  into_of : (p : Place) (vs : List Value) (v : Value) → FirstMoves (trees_of v) → IsPlaceOf t p → Of vs → EachOf Holds (trees_of v) → EachOf Holds (trees_of (into p vs v))
  into_of p vs (Tree y) m q d (more e es) = more (grown_of p vs y m q d e) none
  into_of p vs (Trees []) m q d e = none
  into_of p vs (Trees (y ∷ ys)) m q d (more e es) = more (grown_of p vs y m q d e) es

  behind_of : (p : Place) (before vs : List Value) → LastMoves vs → IsPlaceOf t p → Of before → Of vs → EachOf Holds (trees_of (extended_behind p before vs))
  behind_of p before [] m q d e = none
  behind_of p before (v ∷ []) m q d e = into_of p before v m q d (front (trees_of v) _ e)
  behind_of p before (v ∷ w ∷ vs) m q d e =
      behind_of p (before ++ v ∷ []) (w ∷ vs) m q (of_both before (v ∷ []) d (of_one v (front (trees_of v) _ e))) (back (trees_of v) e)

  abbrev pub OthersMove : List Node → Type 0
  OthersMove [] = Unit {0}
  OthersMove (x ∷ xs) = AllMove xs

  all_attached_of : (p : Place) (xs : List Node) → OthersMove xs → IsPlaceOf t p → EachOf Holds xs → Each Holds (all_attached p xs)
  all_attached_of p [] m q d = whole head.List [] [] p (list p) q none
  all_attached_of p (x ∷ xs) m q (more d ds) = attached_of m ds x d

  here : (at : ℕ) → IsPlaceOf t (place_at t at)
  here at = (at, refl)

  -- It holds of what an action gives to a node at a token, and what it moves among these values may move.
  abbrev pub Gives : Action → ℕ → List Value → Type 0
  Gives (Spell h) at vs = N h (name_at t at) (place_at t at)
  Gives (Make h) at vs = N h [] (place_at t at)
  Gives (Enclose h) at vs = N h [] (place_before t at)
  Gives (Graft h) at vs = N h [] (place_at t at)
  Gives (Flat h) at vs = N h [] (place_at t at)
  Gives (Lead h) at vs = N h [] (place_at t at)
  Gives Extend at vs = LastMoves vs
  Gives Attach at vs = OthersMove (flattened vs)
  Gives _ at vs = Unit {0}

  abbrev pub AllGive : List (Step Rule) → Type 0
  AllGive [] = Unit {0}
  AllGive (s ∷ ss) = Gives s.rule.action s.at (take s.rule.takes (built t ss)) × AllGive ss

  made_of : (a : Action) (at : ℕ) (vs : List Value) → Gives a at vs → Of vs → Of (made a t at vs)
  made_of Nothing at vs n d = none
  made_of Pass at vs n d = d
  made_of (Make h) at vs n d = tree_alone _ (whole h [] _ _ n (here at) (all_parts _ vs (here at) d))
  made_of (Enclose h) at vs n d = tree_alone _ (whole h [] _ _ n (here _) (all_parts _ vs (here _) d))
  made_of (Spell h) at vs n d = tree_alone _ (whole h (name_at t at) _ _ n (here at) (all_parts _ vs (here at) d))
  made_of (Graft h) at vs n d = tree_alone _ (whole h [] _ _ n (here at) d)
  made_of (Flat h) at vs n d = tree_alone _ (flat_of h _ _ n (here at) d)
  made_of Extend at vs n d = of_one (extended (place_at t at) vs) (behind_of (place_at t at) [] vs n (here at) none d)
  made_of Many at vs n d = of_one (Trees (flattened vs)) d
  made_of (Lead h) at vs n d = of_one (Trees (led h (place_at t at) vs)) (led_of h _ vs n (here at) d)
  made_of Attach at vs n d = tree_alone _ (all_attached_of _ _ n (here at) d)

  run_of : (s : Step Rule) (vs : List Value) → Gives s.rule.action s.at (take s.rule.takes vs) → Of vs → Of (run t s vs)
  run_of s vs n d =
      of_both (made s.rule.action t s.at (take s.rule.takes vs)) (drop s.rule.takes vs)
      (made_of s.rule.action s.at (take s.rule.takes vs) n (of_front s.rule.takes vs d)) (of_back s.rule.takes vs d)

  pub built_of : (steps : List (Step Rule)) → AllGive steps → EachOf Holds (flattened (built t steps))
  built_of [] n = none
  built_of (s ∷ ss) n = run_of s (built t ss) n.0 (built_of ss n.1)

  first : {x : Node} {xs : List Node} → EachOf Holds (x ∷ xs) → Each Holds x
  first (more d ds) = d

  one_of : (x : Node) (vs : List Value) → vs ≡ Tree x ∷ [] → EachOf Holds (flattened vs) → Each Holds x
  one_of x vs e d = first (subst (λ (ws : List Value). EachOf Holds (flattened ws)) e d)

  pub tree_of : (steps : List (Step Rule)) (x : Node) → built t steps ≡ Tree x ∷ [] → AllGive steps → Each Holds x
  tree_of steps x e n = one_of x (built t steps) e (built_of steps n)

-- Each action gives no text, or that of a token, wherever nodes move.
module _ (t : Text) where
  abbrev named : Head → List ℕ → Place → Type 0
  named h x p = IsNameOf t x

  empty : (p : Place) → named head.List [] p
  empty p = inl refl

  abbrev may : Head → Type 0
  may h = Unit {0}

  stays_named : (h : Head) (x : List ℕ) (p q : Place) → may h → named h x p → named h x q
  stays_named h x p q m n = n

  all_may : (xs : List Node) → AllMove t named empty may stays_named xs
  all_may [] = tt
  all_may (x ∷ xs) = (tt, all_may xs)

  others_may : (xs : List Node) → OthersMove t named empty may stays_named xs
  others_may [] = tt
  others_may (x ∷ xs) = all_may xs

  first_may : (xs : List Node) → FirstMoves t named empty may stays_named xs
  first_may [] = tt
  first_may (x ∷ xs) = tt

  last_may : (vs : List Value) → LastMoves t named empty may stays_named vs
  last_may [] = tt
  last_may (v ∷ []) = first_may (trees_of v)
  last_may (v ∷ w ∷ vs) = last_may (w ∷ vs)

  gives : (a : Action) (at : ℕ) (vs : List Value) → Gives t named empty may stays_named a at vs
  gives Nothing at vs = tt
  gives Pass at vs = tt
  gives (Make h) at vs = inl refl
  gives (Enclose h) at vs = inl refl
  gives (Spell h) at vs = inr (at, refl)
  gives (Graft h) at vs = inl refl
  gives (Flat h) at vs = inl refl
  gives Extend at vs = last_may vs
  gives Many at vs = tt
  gives (Lead h) at vs = inl refl
  gives Attach at vs = others_may (flattened vs)

  all_give : (steps : List (Step Rule)) → AllGive t named empty may stays_named steps
  all_give [] = tt
  all_give (s ∷ ss) = (gives s.rule.action s.at (take s.rule.takes (built t ss)), all_give ss)

  pub leaves_of : (steps : List (Step Rule)) → EachOf (IsOf t) (flattened (built t steps))
  leaves_of steps = built_of t named empty may stays_named steps (all_give steps)

pub tree_leaves : (g : Grammar Rule) (n : ℕ) (kinds : List ℕ) (t : Text) (x : Node) → IsTree g n kinds t x → Each (IsOf t) x
tree_leaves g n kinds t x d = tree_of t (named t) (empty t) (may t) (stays_named t) d.0 x d.2 (all_give t d.0)
