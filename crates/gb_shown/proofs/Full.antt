-- Trees that texts of the language and lines of goals spell have their parts.
use Rattle.std.specs.Prelude.{ℕ, ◌≡◌, Bool, true, false, nat_eq, if◌then◌else◌, List, [], ◌∷◌}
use Rattle.std.specs.List.{list_all}
use Rattle.std.proofs.Common.{refl, ap, sym}
use Rattle.gb_script.specs.declared.head.Head.{Head}
use Rattle.gb_script.specs.declared.head.Head.TheVariants as head
use Rattle.gb_script.specs.declared.text.Text.{Text}
use Rattle.gb_script.specs.declared.tree.Node.{Node}
use Rattle.gb_script.specs.Acts.{sorts_ok}
use Rattle.gb_script.specs.Each.{Each, each, EachOf, none, more}
use Rattle.gb_script.specs.Sorts.{Sort, ValueSort, many}
use Rattle.gb_script.specs.Tree.{head_of, parts_of}
use Rattle.gb_language.specs.declared.rows.TheConstants.{COMMAND, FORM, ENTRY}
use Rattle.gb_language.specs.Language.{all_rows, all_symbols, language, goal_language, IsPart, IsLine, IsTextTree, IsLineTree, IsSorted, node_signatures, tree_sort}
use Rattle.gb_language.specs.Sorts.{part_sorts, path_sort, signatures}
use Rattle.gb_language.proofs.Language.{text_sorted, line_sorted}
use Rattle.gb_shown.specs.Trees.{HasItsParts, IsFull, IsFullTree}
use Rattle.gb_shown.proofs.MadeTrees.{is_writing, EndsWell, HasParts, Keeps}
use Rattle.gb_shown.proofs.Derived.{row_well, parts_kept}
use Rattle.gb_shown.proofs.PartsBySorts.{is_tuple, is_loop, AreTwo, IsInSort, is_apart, in_sorts}

-- the sorts of the parts of the language, where a list of paths has one at least
abbrev sorts : ℕ → List ValueSort
sorts n = if nat_eq n 162 then many (record { first = path_sort ∷ []; rest = path_sort }) ∷ [] else part_sorts n

texts_act : sorts_ok signatures sorts language ≡ true
unfolding language all_rows all_symbols
texts_act = refl

texts_well : list_all (row_well sorts) language ≡ true
unfolding language all_rows all_symbols
texts_well = refl

lines_act : sorts_ok signatures sorts goal_language ≡ true
unfolding goal_language all_rows all_symbols
lines_act = refl

lines_well : list_all (row_well sorts) goal_language ≡ true
unfolding goal_language all_rows all_symbols
lines_well = refl

-- By the head of a node.

first_written : (xs : List Node) → AreTwo xs → EndsWell xs → HasItsParts head.TupleStatement xs
first_written (x ∷ y ∷ []) a h = h
first_written [] a h = absurd a
first_written (x ∷ []) a h = absurd a
first_written (x ∷ y ∷ z ∷ xs) a h = absurd a

full_at : (h : Head) (x : Node) → h ≡ head_of x → Keeps h (parts_of x) → IsInSort x → HasItsParts h (parts_of x)
full_at head.ProductType x e k s = k.0 refl
full_at head.Tuple x e k s = s.tuple (sym (ap is_tuple e))
full_at head.NamedLoop x e k s = s.loop (sym (ap is_loop e))
full_at head.TupleStatement x e k s = first_written (parts_of x) (s.writing (sym (ap is_writing e))) (k.1 refl)
full_at _ x e k s = tt

mutual
  both : {x : Node} → Each HasParts x → Each IsInSort x → Each IsFull x
  both {x} (each k d) (each s f) = each (full_at (head_of x) x refl k s) (both_of d f)

  both_of : {xs : List Node} → EachOf HasParts xs → EachOf IsInSort xs → EachOf IsFull xs
  both_of none none = none
  both_of (more d ds) (more e es) = more (both d e) (both_of ds es)

-- no part of a text or of a goal is of such a sort
one_of : (P : Sort → Type 0) (b : Bool) (s r : Sort) → P s → P r → P (if b then s else r)
one_of P true s r h k = h
one_of P false s r h k = k

sorts_apart : (part : ℕ) → is_apart (tree_sort part) ≡ true
sorts_apart part =
    one_of (λ s. is_apart s ≡ true) (nat_eq part COMMAND) _ _ refl (one_of (λ s. is_apart s ≡ true) (nat_eq part FORM) _ _ refl (one_of (λ s. is_apart s ≡ true) (nat_eq part ENTRY) _ _ refl refl))

sorted_in : (part : ℕ) (x : Node) → IsSorted part x → Each IsInSort x
unfolding node_signatures
sorted_in part x d = in_sorts (sorts_apart part) d

pub text_full : (part : ℕ) (kinds : List ℕ) (t : Text) (x : Node) → IsPart part → IsTextTree part kinds t x → IsFullTree x
text_full part kinds t x ready d = both (parts_kept signatures t sorts language texts_act texts_well part kinds x d) (sorted_in part x (text_sorted part kinds t x ready d))

pub line_full : (part : ℕ) (kinds : List ℕ) (t : Text) (x : Node) → IsLine part → IsLineTree part kinds t x → IsFullTree x
line_full part kinds t x ready d = both (parts_kept signatures t sorts goal_language lines_act lines_well part kinds x d) (sorted_in part x (line_sorted part kinds t x ready d))
