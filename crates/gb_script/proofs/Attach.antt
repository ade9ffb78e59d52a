-- What attaching an item makes.
use Rattle.std.specs.Prelude.{ℕ, ◌≡◌, Bool, true, false, if◌then◌else◌, List, [], ◌∷◌, ◌++◌, map, Result, IfOk}
use Rattle.std.proofs.Common.{refl, ap, sym, ◌∙◌, subst}
use Rattle.gb_script.specs.declared.tree.Node.{Node, out-Node, roll-out-Node, para-roll-Node}
use Rattle.gb_script.specs.Head.{goes_under}
use Rattle.gb_script.specs.Tree.{node, fields_of, parts_of, behind, attach, attach_layer, last_changed}
use Rattle.gb_core.specs.declared.place.Place.{Place}
use Rattle.gb_script.specs.declared.head.Head.{Head}
use Rattle.std.specs.declared.alloc.AllocError.{AllocError}

-- each part with what attaching makes of it
abbrev pub paired : List Node → List (Node × (Node → Node))
paired xs = map (λ x. (x, attach x)) xs

map_firsts : (xs : List Node) → map (λ (x : Node × (Node → Node)). x.0) (paired xs) ≡ xs
map_firsts [] = refl
map_firsts (x ∷ xs) = ap (λ ys. x ∷ ys) (map_firsts xs)

last_of_paired : (item : Node) (front : List Node) (last : Node) → last_changed item (paired (front ++ last ∷ [])) ≡ front ++ attach last item ∷ []
last_of_paired item [] last = refl
last_of_paired item (x ∷ []) last = refl
last_of_paired item (x ∷ y ∷ ys) last = ap (λ l. x ∷ l) (last_of_paired item (y ∷ ys) last)

-- what attaching makes of a node's fields
abbrev attach_fields : Node → Node → Node
attach_fields x item =
    if goes_under (out-Node item).head (out-Node x).head then node (out-Node x).head (out-Node x).text (last_changed item (paired (parts_of x))) (out-Node x).place
    else behind x item

whole : (x item : Node) → behind (node (out-Node x).head (out-Node x).text (map (λ (y : Node × (Node → Node)). y.0) (paired (parts_of x))) (out-Node x).place) item ≡ behind x item
whole x item =
    ap (λ l. behind (node (out-Node x).head (out-Node x).text l (out-Node x).place) item) (map_firsts (parts_of x)) ∙ ap (λ y. behind y item) (roll-out-Node x)

pub attach_is : (x item : Node) → attach x item ≡ attach_fields x item
unfolding attach
attach_is x item =
    ap (λ y. attach y item) (sym (roll-out-Node x)) ∙ ap (λ f. f item) (para-roll-Node (Node → Node) attach_layer (out-Node x))
    ∙ ap (λ z. if goes_under (out-Node item).head (out-Node x).head then node (out-Node x).head (out-Node x).text (last_changed item (paired (parts_of x))) (out-Node x).place else z) (whole x item)

pub stays : (x item : Node) → goes_under (out-Node item).head (out-Node x).head ≡ false → attach x item ≡ behind x item
stays x item h = attach_is x item ∙ ap (λ (b : Bool). if b then node (out-Node x).head (out-Node x).text (last_changed item (paired (parts_of x))) (out-Node x).place else behind x item) h

pub inside : (x item : Node) → goes_under (out-Node item).head (out-Node x).head ≡ true → attach x item ≡ node (out-Node x).head (out-Node x).text (last_changed item (paired (parts_of x))) (out-Node x).place
inside x item h = attach_is x item ∙ ap (λ (b : Bool). if b then node (out-Node x).head (out-Node x).text (last_changed item (paired (parts_of x))) (out-Node x).place else behind x item) h

pub goes_inside : (x item : Node) (front : List Node) (last : Node) → goes_under (out-Node item).head (out-Node x).head ≡ true → parts_of x ≡ front ++ last ∷ []
    → attach x item ≡ node (out-Node x).head (out-Node x).text (front ++ attach last item ∷ []) (out-Node x).place
goes_inside x item front last h e =
    inside x item h
    ∙ ap (λ (l : List Node). node (out-Node x).head (out-Node x).text (last_changed item (paired l)) (out-Node x).place) e
    ∙ ap (λ (l : List Node). node (out-Node x).head (out-Node x).text l (out-Node x).place) (last_of_paired item front last)

pub no_parts : (x item : Node) → goes_under (out-Node item).head (out-Node x).head ≡ true → parts_of x ≡ [] → attach x item ≡ node (out-Node x).head (out-Node x).text [] (out-Node x).place
no_parts x item h e = inside x item h ∙ ap (λ (l : List Node). node (out-Node x).head (out-Node x).text (last_changed item (paired l)) (out-Node x).place) e

pub stayed : (x item : Node) (r : Result Node AllocError) → goes_under (out-Node item).head (out-Node x).head ≡ false → IfOk r (λ n. n ≡ behind x item) → IfOk r (λ n. n ≡ attach x item)
stayed x item r h o = subst (λ z. IfOk r (λ n. n ≡ z)) (sym (stays x item h)) o

pub went_inside : (x item last longer : Node) (r : Head × List ℕ × List Node × Place) (front all : List Node) → goes_under (out-Node item).head (out-Node x).head ≡ true
    → r ≡ fields_of x → r.2 ≡ front ++ last ∷ [] → longer ≡ attach last item → all ≡ front ++ longer ∷ [] → node r.0 r.1 all r.3 ≡ attach x item
went_inside x item last longer r front all h e p l a =
    ap (λ (q : Head × List ℕ × List Node × Place). node q.0 q.1 all q.3) e
    ∙ ap (λ (ys : List Node). node (out-Node x).head (out-Node x).text ys (out-Node x).place) (a ∙ ap (λ (y : Node). front ++ y ∷ []) l)
    ∙ sym (goes_inside x item front last h (ap (λ (q : Head × List ℕ × List Node × Place). q.2) (sym e) ∙ p))

pub went_nowhere : (x item : Node) (r : Head × List ℕ × List Node × Place) (all : List Node) → goes_under (out-Node item).head (out-Node x).head ≡ true
    → r ≡ fields_of x → r.2 ≡ [] → all ≡ [] → node r.0 r.1 all r.3 ≡ attach x item
went_nowhere x item r all h e p a =
    ap (λ (q : Head × List ℕ × List Node × Place). node q.0 q.1 all q.3) e
    ∙ ap (λ (ys : List Node). node (out-Node x).head (out-Node x).text ys (out-Node x).place) a
    ∙ sym (no_parts x item h (ap (λ (q : Head × List ℕ × List Node × Place). q.2) (sym e) ∙ p))
