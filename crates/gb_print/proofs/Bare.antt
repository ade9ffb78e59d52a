-- What actions make of trees without their places.
use Rattle.std.specs.Prelude.{ℕ, zero, suc, ◌≡◌, Bool, true, false, List, [], ◌∷◌, ◌++◌, map, take, drop}
use Rattle.std.proofs.Common.{refl, ap, ap₂, sym, ◌∙◌, subst}
use Rattle.gb_core.specs.declared.place.Place.{Place}
use Rattle.gb_script.specs.declared.table.Step.{Step}
use Rattle.gb_goal.specs.Answers.{nowhere}
use Rattle.gb_script.specs.declared.action.Action.{Action}
use Rattle.gb_script.specs.declared.action.Action.TheVariants.{Nothing, Pass, Make, Enclose, Spell, Graft, Flat, Extend, Many, Lead, Attach}
use Rattle.gb_script.specs.declared.action.Rule.{Rule}
use Rattle.gb_script.specs.declared.head.Head.{Head}
use Rattle.gb_script.specs.declared.head.Head.TheVariants as head
use Rattle.gb_script.specs.declared.text.Text.{Text}
use Rattle.gb_script.specs.declared.tree.Node.{Node, Node-F, roll-Node, out-Node, roll-out-Node, out-roll-Node}
use Rattle.gb_script.specs.declared.tree.Node.TheFolds.{fold-roll-Node, ind-Node}
use Rattle.gb_script.specs.declared.value.Value.{Value}
use Rattle.gb_script.specs.declared.value.Value.TheVariants.{Tree, Trees}
use Rattle.gb_script.specs.Head.{goes_under, joins}
use Rattle.gb_script.specs.Text.{name_at}
use Rattle.gb_script.specs.Tree.{node, head_of, text_of, parts_of, place_of, behind, last_changed, attach, attached}
use Rattle.gb_script.specs.Value.{part_of, trees_of, flattened}
use Rattle.gb_script.specs.Build.{parts, flat, led, grown, into, extended_behind, all_attached, made, run}
use Rattle.gb_script.proofs.Attach.{paired, stays, inside}
use Rattle.gb_print.specs.Nodes.{placeless}
use Rattle.gb_print.proofs.Reading.{bare, ruled}

abbrev pub all_placeless : List Node → List Node
all_placeless xs = map placeless xs

abbrev pub bare_value : Value → Value
bare_value (Tree x) = Tree (placeless x)
bare_value (Trees xs) = Trees (all_placeless xs)

abbrev pub bare_values : List Value → List Value
bare_values vs = map bare_value vs

-- Nodes.

pub node_bare : (h : Head) (t : List ℕ) (xs : List Node) (p : Place) → placeless (node h t xs p) ≡ node h t (all_placeless xs) nowhere
node_bare h t xs p = fold-roll-Node Node (λ l. node l.head l.text l.parts nowhere) (record { head = h; text = t; parts = xs; place = p })

pub bare_is : (x : Node) → placeless x ≡ node (head_of x) (text_of x) (all_placeless (parts_of x)) nowhere
bare_is x = ap placeless (sym (roll-out-Node x)) ∙ node_bare (head_of x) (text_of x) (parts_of x) (place_of x)

fields : (x : Node) → out-Node (placeless x) ≡ record { head = head_of x; text = text_of x; parts = all_placeless (parts_of x); place = nowhere }
fields x = ap out-Node (bare_is x) ∙ out-roll-Node (record { head = head_of x; text = text_of x; parts = all_placeless (parts_of x); place = nowhere })

pub bare_head : (x : Node) → head_of (placeless x) ≡ head_of x
bare_head x = ap (λ (l : Node-F Node). l.head) (fields x)

pub bare_text : (x : Node) → text_of (placeless x) ≡ text_of x
bare_text x = ap (λ (l : Node-F Node). l.text) (fields x)

pub bare_parts : (x : Node) → parts_of (placeless x) ≡ all_placeless (parts_of x)
bare_parts x = ap (λ (l : Node-F Node). l.parts) (fields x)

pub bare_place : (x : Node) → place_of (placeless x) ≡ nowhere
bare_place x = ap (λ (l : Node-F Node). l.place) (fields x)

pub bare_append : (xs ys : List Node) → all_placeless (xs ++ ys) ≡ all_placeless xs ++ all_placeless ys
bare_append [] ys = refl
bare_append (x ∷ xs) ys = ap (λ l. placeless x ∷ l) (bare_append xs ys)

-- Attaching.

behind_by : (x i : Node) (b : Bool) → joins (head_of i) (head_of x) ≡ b → placeless (behind x i) ≡ behind (placeless x) (placeless i)
behind_by x i true h =
    let l : behind x i ≡ node (head_of x) (text_of x) (parts_of x ++ parts_of i) (place_of x) = rw h refl in
    let r : joins (head_of (placeless i)) (head_of (placeless x)) ≡ true = ap₂ (λ a c. joins a c) (bare_head i) (bare_head x) ∙ h in
    let m : behind (placeless x) (placeless i) ≡ node (head_of (placeless x)) (text_of (placeless x)) (parts_of (placeless x) ++ parts_of (placeless i)) (place_of (placeless x)) = rw r refl in
    ap placeless l ∙ node_bare (head_of x) (text_of x) (parts_of x ++ parts_of i) (place_of x)
    ∙ ap (λ xs. node (head_of x) (text_of x) xs nowhere) (bare_append (parts_of x) (parts_of i) ∙ ap₂ (λ a c. a ++ c) (sym (bare_parts x)) (sym (bare_parts i)))
    ∙ ap (λ (z : Head). node z (text_of x) (parts_of (placeless x) ++ parts_of (placeless i)) nowhere) (sym (bare_head x))
    ∙ ap (λ z. node (head_of (placeless x)) z (parts_of (placeless x) ++ parts_of (placeless i)) nowhere) (sym (bare_text x))
    ∙ ap (λ z. node (head_of (placeless x)) (text_of (placeless x)) (parts_of (placeless x) ++ parts_of (placeless i)) z) (sym (bare_place x))
    ∙ sym m
behind_by x i false h =
    let l : behind x i ≡ node (head_of i) (text_of i) (x ∷ parts_of i) (place_of x) = rw h refl in
    let r : joins (head_of (placeless i)) (head_of (placeless x)) ≡ false = ap₂ (λ a c. joins a c) (bare_head i) (bare_head x) ∙ h in
    let m : behind (placeless x) (placeless i) ≡ node (head_of (placeless i)) (text_of (placeless i)) (placeless x ∷ parts_of (placeless i)) (place_of (placeless x)) = rw r refl in
    ap placeless l ∙ node_bare (head_of i) (text_of i) (x ∷ parts_of i) (place_of x)
    ∙ ap (λ xs. node (head_of i) (text_of i) (placeless x ∷ xs) nowhere) (sym (bare_parts i))
    ∙ ap (λ (z : Head). node z (text_of i) (placeless x ∷ parts_of (placeless i)) nowhere) (sym (bare_head i))
    ∙ ap (λ z. node (head_of (placeless i)) z (placeless x ∷ parts_of (placeless i)) nowhere) (sym (bare_text i))
    ∙ ap (λ z. node (head_of (placeless i)) (text_of (placeless i)) (placeless x ∷ parts_of (placeless i)) z) (sym (bare_place x))
    ∙ sym m

abbrev Attaches : Node → Type 0
Attaches x = (i : Node) → placeless (attach x i) ≡ attach (placeless x) (placeless i)

last_bare : (i : Node) (ys : List ((x : Node) × Attaches x)) → all_placeless (last_changed i (paired (map (λ y. y.0) ys))) ≡ last_changed (placeless i) (paired (all_placeless (map (λ y. y.0) ys)))
last_bare i [] = refl
last_bare i (y ∷ []) = ap (λ z. z ∷ []) (y.1 i)
last_bare i (y ∷ z ∷ zs) = ap (λ l. placeless y.0 ∷ l) (last_bare i (z ∷ zs))

attach_by : (x i : Node) (b : Bool) → goes_under (head_of i) (head_of x) ≡ b
    → all_placeless (last_changed i (paired (parts_of x))) ≡ last_changed (placeless i) (paired (all_placeless (parts_of x)))
    → placeless (attach x i) ≡ attach (placeless x) (placeless i)
attach_by x i false h e =
    let r : goes_under (head_of (placeless i)) (head_of (placeless x)) ≡ false = ap₂ (λ a c. goes_under a c) (bare_head i) (bare_head x) ∙ h in
    ap placeless (stays x i h) ∙ behind_by x i (joins (head_of i) (head_of x)) refl ∙ sym (stays (placeless x) (placeless i) r)
attach_by x i true h e =
    let r : goes_under (head_of (placeless i)) (head_of (placeless x)) ≡ true = ap₂ (λ a c. goes_under a c) (bare_head i) (bare_head x) ∙ h in
    ap placeless (inside x i h) ∙ node_bare (head_of x) (text_of x) (last_changed i (paired (parts_of x))) (place_of x)
    ∙ ap (λ xs. node (head_of x) (text_of x) xs nowhere) (e ∙ ap (λ xs. last_changed (placeless i) (paired xs)) (sym (bare_parts x)))
    ∙ ap (λ (z : Head). node z (text_of x) (last_changed (placeless i) (paired (parts_of (placeless x)))) nowhere) (sym (bare_head x))
    ∙ ap (λ z. node (head_of (placeless x)) z (last_changed (placeless i) (paired (parts_of (placeless x)))) nowhere) (sym (bare_text x))
    ∙ ap (λ z. node (head_of (placeless x)) (text_of (placeless x)) (last_changed (placeless i) (paired (parts_of (placeless x)))) z) (sym (bare_place x))
    ∙ sym (inside (placeless x) (placeless i) r)

pub attach_bare : (x : Node) → Attaches x
attach_bare = ind-Node Attaches (λ x y is i.
    let z = roll-Node x in
    attach_by z i (goes_under (head_of i) (head_of z)) refl
    (subst (λ xs. all_placeless (last_changed i (paired xs)) ≡ last_changed (placeless i) (paired (all_placeless xs))) (ap (λ (l : Node-F Node). l.parts) (is ∙ sym (out-roll-Node x))) (last_bare i y.parts)))

pub attached_bare : (x : Node) (is : List Node) → placeless (attached x is) ≡ attached (placeless x) (all_placeless is)
attached_bare x [] = refl
attached_bare x (i ∷ is) = attached_bare (attach x i) is ∙ ap (λ z. attached z (all_placeless is)) (attach_bare x i)

-- Values.

part_bare : (p : Place) (v : Value) → placeless (part_of p v) ≡ part_of nowhere (bare_value v)
part_bare p (Tree x) = refl
part_bare p (Trees xs) = node_bare head.List [] xs p

pub parts_bare : (p : Place) (vs : List Value) → all_placeless (parts p vs) ≡ parts nowhere (bare_values vs)
parts_bare p [] = refl
parts_bare p (v ∷ vs) = ap₂ (λ a l. a ∷ l) (part_bare p v) (parts_bare p vs)

trees_bare : (v : Value) → all_placeless (trees_of v) ≡ trees_of (bare_value v)
trees_bare (Tree x) = refl
trees_bare (Trees xs) = refl

pub flattened_bare : (vs : List Value) → all_placeless (flattened vs) ≡ flattened (bare_values vs)
flattened_bare [] = refl
flattened_bare (v ∷ vs) = bare_append (trees_of v) (flattened vs) ∙ ap₂ (λ a c. a ++ c) (trees_bare v) (flattened_bare vs)

flat_bare : (h : Head) (p : Place) (xs : List Node) → placeless (flat h p xs) ≡ flat h nowhere (all_placeless xs)
flat_bare h p [] = node_bare h [] [] p
flat_bare h p (x ∷ []) = refl
flat_bare h p (x ∷ y ∷ xs) = node_bare h [] (x ∷ y ∷ xs) p

led_bare : (h : Head) (p : Place) (vs : List Value) → all_placeless (led h p vs) ≡ led h nowhere (bare_values vs)
led_bare h p [] = refl
led_bare h p (v ∷ vs) = ap₂ (λ a l. a ∷ l) (node_bare h [] (trees_of v) p ∙ ap (λ xs. node h [] xs nowhere) (trees_bare v)) (flattened_bare vs)

grown_bare : (p : Place) (front : List Value) (y : Node) → placeless (grown p front y) ≡ grown nowhere (bare_values front) (placeless y)
grown_bare p front y =
    node_bare (head_of y) (text_of y) (parts p front ++ parts_of y) p
    ∙ ap (λ xs. node (head_of y) (text_of y) xs nowhere) (bare_append (parts p front) (parts_of y) ∙ ap₂ (λ a c. a ++ c) (parts_bare p front) (sym (bare_parts y)))
    ∙ ap (λ (z : Head). node z (text_of y) (parts nowhere (bare_values front) ++ parts_of (placeless y)) nowhere) (sym (bare_head y))
    ∙ ap (λ z. node (head_of (placeless y)) z (parts nowhere (bare_values front) ++ parts_of (placeless y)) nowhere) (sym (bare_text y))

into_bare : (p : Place) (front : List Value) (v : Value) → bare_value (into p front v) ≡ into nowhere (bare_values front) (bare_value v)
into_bare p front (Tree y) = ap Tree (grown_bare p front y)
into_bare p front (Trees []) = refl
into_bare p front (Trees (y ∷ ys)) = ap (λ z. Trees (z ∷ all_placeless ys)) (grown_bare p front y)

values_append : (us vs : List Value) → bare_values (us ++ vs) ≡ bare_values us ++ bare_values vs
values_append [] vs = refl
values_append (u ∷ us) vs = ap (λ l. bare_value u ∷ l) (values_append us vs)

extended_bare : (p : Place) (front vs : List Value) → bare_value (extended_behind p front vs) ≡ extended_behind nowhere (bare_values front) (bare_values vs)
extended_bare p front [] = refl
extended_bare p front (v ∷ []) = into_bare p front v
extended_bare p front (v ∷ w ∷ vs) =
    extended_bare p (front ++ v ∷ []) (w ∷ vs) ∙ ap (λ f. extended_behind nowhere f (bare_values (w ∷ vs))) (values_append front (v ∷ []))

all_attached_bare : (p : Place) (xs : List Node) → placeless (all_attached p xs) ≡ all_attached nowhere (all_placeless xs)
all_attached_bare p [] = node_bare head.List [] [] p
all_attached_bare p (x ∷ xs) = attached_bare x xs

-- Actions make the same of what has no places.
made_bare : (a : Action) (t : Text) (at : ℕ) (vs : List Value) → bare_values (made a t at vs) ≡ made a (bare (name_at t at)) 0 (bare_values vs)
made_bare Nothing t at vs = refl
made_bare Pass t at vs = refl
made_bare (Make h) t at vs = ap (λ z. Tree z ∷ []) (node_bare h [] (parts _ vs) _ ∙ ap (λ xs. node h [] xs nowhere) (parts_bare _ vs))
made_bare (Enclose h) t at vs = ap (λ z. Tree z ∷ []) (node_bare h [] (parts _ vs) _ ∙ ap (λ xs. node h [] xs nowhere) (parts_bare _ vs))
made_bare (Spell h) t at vs = ap (λ z. Tree z ∷ []) (node_bare h (name_at t at) (parts _ vs) _ ∙ ap (λ xs. node h (name_at t at) xs nowhere) (parts_bare _ vs))
made_bare (Graft h) t at vs = ap (λ z. Tree z ∷ []) (node_bare h [] (flattened vs) _ ∙ ap (λ xs. node h [] xs nowhere) (flattened_bare vs))
made_bare (Flat h) t at vs = ap (λ z. Tree z ∷ []) (flat_bare h _ (flattened vs) ∙ ap (λ xs. flat h nowhere xs) (flattened_bare vs))
made_bare Extend t at vs = ap (λ z. z ∷ []) (extended_bare _ [] vs)
made_bare Many t at vs = ap (λ xs. Trees xs ∷ []) (flattened_bare vs)
made_bare (Lead h) t at vs = ap (λ xs. Trees xs ∷ []) (led_bare h _ vs)
made_bare Attach t at vs = ap (λ z. Tree z ∷ []) (all_attached_bare _ (flattened vs) ∙ ap (λ xs. all_attached nowhere xs) (flattened_bare vs))

take_bare : (k : ℕ) (vs : List Value) → bare_values (take k vs) ≡ take k (bare_values vs)
take_bare zero vs = refl
take_bare (suc k) [] = refl
take_bare (suc k) (v ∷ vs) = ap (λ l. bare_value v ∷ l) (take_bare k vs)

drop_bare : (k : ℕ) (vs : List Value) → bare_values (drop k vs) ≡ drop k (bare_values vs)
drop_bare zero vs = refl
drop_bare (suc k) [] = refl
drop_bare (suc k) (v ∷ vs) = drop_bare k vs

pub run_bare : (t : Text) (s : Step Rule) (stack : List Value) → bare_values (run t s stack) ≡ ruled s.rule (name_at t s.at) (bare_values stack)
run_bare t s stack =
    values_append (made s.rule.action t s.at (take s.rule.takes stack)) (drop s.rule.takes stack)
    ∙ ap₂ (λ a c. a ++ c) (made_bare s.rule.action t s.at (take s.rule.takes stack) ∙ ap (λ l. made s.rule.action (bare (name_at t s.at)) 0 l) (take_bare s.rule.takes stack)) (drop_bare s.rule.takes stack)
