-- Items behind operands.
use Rattle.std.specs.Prelude.{ℕ, ◌≡◌, Bool, true, false, ◌&&◌, if◌then◌else◌, nat_le, nat_eq, List, [], ◌∷◌, ◌++◌}
use Rattle.std.specs.List.{list_all}
use Rattle.std.proofs.Common.{refl, ap, ap₂, sym, ◌∙◌, append_assoc, arith}
use Rattle.std.proofs.lemmas.Bool.{eqb-true}
use Rattle.gb_core.specs.declared.place.Place.{Place}
use Rattle.gb_goal.specs.Answers.{nowhere}
use Rattle.gb_script.specs.declared.head.Head.{Head}
use Rattle.gb_script.specs.declared.head.Head.TheVariants as head
use Rattle.gb_script.specs.declared.tree.Node.{Node, Node-F, out-Node, out-roll-Node}
use Rattle.gb_script.specs.Head.{looseness, hold, goes_under, is_joiner, joins}
use Rattle.gb_script.specs.Tree.{node, head_of, text_of, parts_of, place_of, behind, attach, attached}
use Rattle.gb_script.proofs.Attach.{stays, goes_inside}
use Rattle.gb_script.proofs.Stacks.{append_nil}
use Rattle.gb_print.proofs.Chains.{joined_in}
use Rattle.gb_print.proofs.Counted.{joined_node, joined_append}
use Rattle.gb_print.proofs.Tokens.{both}

-- Nothing stands inside the last part of the node, which is no application and stands nowhere.
pub record Plain (x : Node) : Type 0 where
  pub loose : hold (head_of x) ≡ 0
  pub no_application : is_joiner (head_of x) ≡ false
  pub place : place_of x ≡ nowhere

node_fields : (h : Head) (t : List ℕ) (ps : List Node) (p : Place) → out-Node (node h t ps p) ≡ record { head = h; text = t; parts = ps; place = p }
node_fields h t ps p = out-roll-Node (record { head = h; text = t; parts = ps; place = p })

pub node_head : (h : Head) (t : List ℕ) (ps : List Node) (p : Place) → head_of (node h t ps p) ≡ h
node_head h t ps p = ap (λ (l : Node-F Node). l.head) (node_fields h t ps p)

pub node_parts : (h : Head) (t : List ℕ) (ps : List Node) (p : Place) → parts_of (node h t ps p) ≡ ps
node_parts h t ps p = ap (λ (l : Node-F Node). l.parts) (node_fields h t ps p)

pub node_place : (h : Head) (t : List ℕ) (ps : List Node) (p : Place) → place_of (node h t ps p) ≡ p
node_place h t ps p = ap (λ (l : Node-F Node). l.place) (node_fields h t ps p)

pub plain_node : (h : Head) (t : List ℕ) (ps : List Node) → hold h ≡ 0 → is_joiner h ≡ false → Plain (node h t ps nowhere)
plain_node h t ps l a = record {
  loose = ap hold (node_head h t ps nowhere) ∙ l;
  no_application = ap is_joiner (node_head h t ps nowhere) ∙ a;
  place = node_place h t ps nowhere;
}

and_false : (b : Bool) → (b && false) ≡ false
and_false true = refl
and_false false = refl

-- an item behind a node that stays whole
behind_is : (x : Node) (h : Head) (t : List ℕ) (ps : List Node) → joins h (head_of x) ≡ false → place_of x ≡ nowhere → behind x (node h t ps nowhere) ≡ node h t (x ∷ ps) nowhere
behind_is x h t ps j p =
    let l = node_fields h t ps nowhere in
    ap (λ (z : Node-F Node). if joins z.head (head_of x) then node (head_of x) (text_of x) (parts_of x ++ z.parts) (place_of x) else node z.head z.text (x ∷ z.parts) (place_of x)) l
    ∙ ap (λ (b : Bool). if b then node (head_of x) (text_of x) (parts_of x ++ ps) (place_of x) else node h t (x ∷ ps) (place_of x)) j
    ∙ ap (λ q. node h t (x ∷ ps) q) p

pub behind_plain : (x : Node) → Plain x → (h : Head) (t : List ℕ) (ps : List Node) → nat_le (looseness h) 0 ≡ false → attach x (node h t ps nowhere) ≡ node h t (x ∷ ps) nowhere
behind_plain x p h t ps l =
    let outside : goes_under (head_of (node h t ps nowhere)) (head_of x) ≡ false = ap₂ (λ a n. nat_le (looseness a) n) (node_head h t ps nowhere) p.loose ∙ l in
    let apart : joins h (head_of x) ≡ false = ap (λ b. is_joiner h && b) p.no_application ∙ and_false (is_joiner h) in
    stays x (node h t ps nowhere) outside ∙ behind_is x h t ps apart p.place

-- one more argument
pub one_argument : (ps : List Node) (a : Node) → attach (node head.Apply [] ps nowhere) (node head.Apply [] (a ∷ []) nowhere) ≡ node head.Apply [] (ps ++ a ∷ []) nowhere
one_argument ps a =
    let x = node head.Apply [] ps nowhere in
    let i = node head.Apply [] (a ∷ []) nowhere in
    let outside : goes_under (head_of i) (head_of x) ≡ false = ap₂ (λ b c. goes_under b c) (node_head head.Apply [] (a ∷ []) nowhere) (node_head head.Apply [] ps nowhere) in
    stays x i outside
    ∙ ap₂ (λ (y z : Node-F Node). if joins z.head y.head then node y.head y.text (y.parts ++ z.parts) y.place else node z.head z.text (x ∷ z.parts) y.place)
    (node_fields head.Apply [] ps nowhere) (node_fields head.Apply [] (a ∷ []) nowhere)

pub attached_append : (x : Node) (xs bs : List Node) → attached x (xs ++ bs) ≡ attached (attached x xs) bs
attached_append x [] bs = refl
attached_append x (a ∷ xs) bs = attached_append (attach x a) xs bs

-- Suffixes bind tighter than all else.
abbrev pub is_tight : Node → Bool
is_tight i = nat_eq (looseness (head_of i)) 1

pub tight_node : (h : Head) (t : List ℕ) (ps : List Node) → looseness h ≡ 1 → is_tight (node h t ps nowhere) ≡ true
tight_node h t ps e = ap (λ n. nat_eq n 1) (ap looseness (node_head h t ps nowhere) ∙ e)

pub tight_append : (xs bs : List Node) → list_all is_tight xs ≡ true → list_all is_tight bs ≡ true → list_all is_tight (xs ++ bs) ≡ true
tight_append [] bs h k = k
tight_append (a ∷ xs) bs h k = let parts = both (is_tight a) (list_all is_tight xs) h in ap₂ (λ x y. x && y) parts.0 (tight_append xs bs parts.1 k)

-- They stand inside the last part.
pub inside_last : (h : Head) (t : List ℕ) (front : List Node) (last : Node) (its : List Node) → nat_le 1 (hold h) ≡ true → list_all is_tight its ≡ true
    → attached (node h t (front ++ last ∷ []) nowhere) its ≡ node h t (front ++ attached last its ∷ []) nowhere
inside_last h t front last [] l a = refl
inside_last h t front last (i ∷ its) l a =
    let parts = both (is_tight i) (list_all is_tight its) a in
    let x = node h t (front ++ last ∷ []) nowhere in
    let one : looseness (head_of i) ≡ 1 = eqb-true (looseness (head_of i)) 1 parts.0 in
    let under : goes_under (head_of i) (head_of x) ≡ true = ap₂ (λ n b. nat_le n (hold b)) one (node_head h t (front ++ last ∷ []) nowhere) ∙ l in
    let step : attach x i ≡ node h t (front ++ attach last i ∷ []) nowhere =
    goes_inside x i front last under (node_parts h t (front ++ last ∷ []) nowhere)
    ∙ ap (λ (z : Node-F Node). node z.head z.text (front ++ attach last i ∷ []) z.place) (node_fields h t (front ++ last ∷ []) nowhere) in
    ap (λ z. attached z its) step ∙ inside_last h t front (attach last i) its l parts.1

-- An operator behind an operand, in front of another one with suffixes.
pub operated : (h : Head) (root x right : Node) (before its : List Node) → Plain x → attached root before ≡ x → nat_le (looseness h) 0 ≡ false → nat_le 1 (hold h) ≡ true
    → list_all is_tight its ≡ true → attached root (before ++ node h [] (right ∷ []) nowhere ∷ its) ≡ node h [] (x ∷ attached right its ∷ []) nowhere
operated h root x right before its p w l u a =
    attached_append root before (node h [] (right ∷ []) nowhere ∷ its)
    ∙ ap (λ z. attached (attach z (node h [] (right ∷ []) nowhere)) its) w
    ∙ ap (λ z. attached z its) (behind_plain x p h [] (right ∷ []) l)
    ∙ inside_last h [] (x ∷ []) right its u a

-- Arguments, each with its suffixes: the items behind a function.
pub record Argument : Type 0 where
  pub root : Node
  pub suffixes : List Node
  pub tight : list_all is_tight suffixes ≡ true
  pub single : joined_in suffixes ≡ 0

abbrev pub whole_of : Argument → Node
whole_of a = attached a.root a.suffixes

abbrev pub wholes_of : List Argument → List Node
wholes_of [] = []
wholes_of (a ∷ xs) = whole_of a ∷ wholes_of xs

abbrev pub items_of : List Argument → List Node
items_of [] = []
items_of (a ∷ xs) = node head.Apply [] (a.root ∷ []) nowhere ∷ (a.suffixes ++ items_of xs)

-- .. none of which an operator joins
pub items_single : (xs : List Argument) → joined_in (items_of xs) ≡ 0
items_single [] = refl
items_single (a ∷ xs) =
    let n = joined_node head.Apply [] (a.root ∷ []) nowhere in
    let h = items_single xs in
    let k = joined_append a.suffixes (items_of xs) in
    omega (arith, n, h, k, a.single)

more_arguments : (ps : List Node) (xs : List Argument) → attached (node head.Apply [] ps nowhere) (items_of xs) ≡ node head.Apply [] (ps ++ wholes_of xs) nowhere
more_arguments ps [] = ap (λ l. node head.Apply [] l nowhere) (sym (append_nil ps))
more_arguments ps (a ∷ xs) =
    ap (λ z. attached z (a.suffixes ++ items_of xs)) (one_argument ps a.root)
    ∙ attached_append (node head.Apply [] (ps ++ a.root ∷ []) nowhere) a.suffixes (items_of xs)
    ∙ ap (λ z. attached z (items_of xs)) (inside_last head.Apply [] ps a.root a.suffixes refl a.tight)
    ∙ more_arguments (ps ++ whole_of a ∷ []) xs
    ∙ ap (λ l. node head.Apply [] l nowhere) (append_assoc ps (whole_of a ∷ []) (wholes_of xs))

pub applied_to : (f : Node) → Plain f → (a : Argument) (xs : List Argument) → attached f (items_of (a ∷ xs)) ≡ node head.Apply [] (f ∷ wholes_of (a ∷ xs)) nowhere
applied_to f p a xs =
    ap (λ z. attached z (a.suffixes ++ items_of xs)) (behind_plain f p head.Apply [] (a.root ∷ []) refl)
    ∙ attached_append (node head.Apply [] (f ∷ a.root ∷ []) nowhere) a.suffixes (items_of xs)
    ∙ ap (λ z. attached z (items_of xs)) (inside_last head.Apply [] (f ∷ []) a.root a.suffixes refl a.tight)
    ∙ more_arguments (f ∷ whole_of a ∷ []) xs
