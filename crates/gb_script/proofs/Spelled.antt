-- The texts of nodes are those of tokens of the kinds of their heads, and so are the places of nodes that stay, where a table
-- passes the tests.
use Rattle.std.specs.Prelude.{ℕ, zero, suc, ◌≡◌, ◌+◌, Bool, true, false, not, ◌&&◌, nat_eq, List, [], ◌∷◌, ◌++◌, take, Some, slice_get}
use Rattle.std.specs.List.{list_all}
use Rattle.std.proofs.Common.{refl, ap, sym, ◌∙◌, subst, arith}
use Rattle.std.proofs.lemmas.Bool.{eqb-true}
use Rattle.gb_core.specs.declared.place.Place.{Place}
use Rattle.gb_script.specs.declared.table.Step.{Step}
use Rattle.gb_script.specs.declared.table.Symbol.{Symbol}
use Rattle.gb_script.specs.declared.table.Symbol.TheVariants.{Token, Part}
use Rattle.gb_script.specs.Grammar.{Grammar, Production, Derives, done, token, choose}
use Rattle.gb_script.proofs.Tests.{both}
use Rattle.gb_script.specs.declared.action.Action.{Action}
use Rattle.gb_script.specs.declared.action.Action.TheVariants.{Nothing, Pass, Make, Enclose, Spell, Graft, Flat, Extend, Many, Lead, Attach}
use Rattle.gb_script.specs.declared.action.Rule.{Rule}
use Rattle.gb_script.specs.declared.head.Head.{Head}
use Rattle.gb_script.specs.declared.head.Head.TheVariants as head
use Rattle.gb_script.specs.declared.text.Text.{Text}
use Rattle.gb_script.specs.declared.tree.Node.{Node}
use Rattle.gb_script.specs.declared.value.Value.{Value}
use Rattle.gb_script.specs.Acts.{flat_shape, shape_of, implies, is_whole, sorts_of, sorts_ok}
use Rattle.gb_script.specs.Build.{built, IsTree}
use Rattle.gb_script.specs.Each.{Each}
use Rattle.gb_script.specs.Sorts.{Sort, Language, ValueSort, is_nil, holds, whole, Is, formed, listed, Parts, own, longer, Fits, more, next, HaveSorts}
use Rattle.gb_script.specs.Spelled.{IsSpelledBy, stays, IsSpelled, is_empty, begins, action_spells, spellings_ok, apart, first_sort, others_sort, last_sort, leaves_still, still_ok}
use Rattle.gb_script.specs.Text.{name_at, place_at}
use Rattle.gb_script.specs.Tree.{head_of}
use Rattle.gb_script.specs.Value.{trees_of, flattened}
use Rattle.gb_script.proofs.Each.{each_so}
use Rattle.gb_script.proofs.Items.{whole_role, whole_or_item}
use Rattle.gb_script.proofs.Leaves.{Holds, AllMove, FirstMoves, LastMoves, OthersMove, Gives, AllGive, tree_of}
use Rattle.gb_script.proofs.Sorted.{front, sorts_together, row_sorts, leaving, builds_sorts}
use Rattle.gb_script.proofs.Sorts.{not_false, implied, is_false, if_or, loose, value_sorted, flat_sorted}
use Rattle.gb_script.proofs.Stacks.{append_nil}

-- Tests.

unless : (b : Bool) → (b ≡ true → ⊥) → b ≡ false
unless true f = absurd (f refl)
unless false f = refl

nil_if : {A : Type 0} (xs : List A) → is_nil xs ≡ true → xs ≡ []
nil_if [] e = refl
nil_if (x ∷ xs) e = absurd (not_false e)

same_part : (m n : ℕ) → m ≡ n → nat_eq m n ≡ true
same_part m n e = grind arith

-- what a test of all rows says of one
row_passes : (test : Production Rule → Bool) (g : Grammar Rule) → list_all test g ≡ true → (place : ℕ) (r : Production Rule) → slice_get g place ≡ Some r → test r ≡ true
row_passes test [] ok place r e = absurd cc
row_passes test (q ∷ g) ok zero r e = let same : q ≡ r = cc in subst (λ (x : Production Rule). test x ≡ true) same (both (test q) (list_all test g) ok).0
row_passes test (q ∷ g) ok (suc place) r e = row_passes test g (both (test q) (list_all test g) ok).1 place r e

kind_passes : (test : ℕ → Bool) (s : Sort) → list_all test s ≡ true → (k : ℕ) → holds s k ≡ true → test k ≡ true
kind_passes test [] ok k h = absurd (not_false h)
kind_passes test (j ∷ s) ok k h =
    let b = both (test j) (list_all test s) ok in
    if_or (test k ≡ true) (nat_eq j k) (holds s k) h (λ e. subst (λ (n : ℕ). test n ≡ true) (eqb-true j k e) b.0) (λ e. kind_passes test s b.1 k e)

apart_at : (s t : Sort) → apart s t ≡ true → (k : ℕ) → holds s k ≡ true → holds t k ≡ false
apart_at [] t a k h = absurd (not_false h)
apart_at (j ∷ s) t a k h =
    let b = both (not (holds t j)) (apart s t) a in
    if_or (holds t k ≡ false) (nat_eq j k) (holds s k) h (λ e. subst (λ (n : ℕ). holds t n ≡ false) (eqb-true j k e) (is_false (holds t j) b.0)) (λ e. apart_at s t b.1 k e)

-- The kinds from a position on are these.
abbrev From : List ℕ → ℕ → List ℕ → Type 0
From kinds at w = (i : ℕ) → slice_get kinds (at + i) ≡ slice_get w i

from_next : (kinds : List ℕ) (at k : ℕ) (w : List ℕ) → From kinds at (k ∷ w) → From kinds (at + 1) w
from_next kinds at k w h i = ap (λ (n : ℕ). slice_get kinds n) (let z : at + 1 + i ≡ at + suc i = omega arith in z) ∙ h (suc i)

from_here : (kinds : List ℕ) (at k : ℕ) (w : List ℕ) → From kinds at (k ∷ w) → slice_get kinds at ≡ Some k
from_here kinds at k w h = ap (λ (n : ℕ). slice_get kinds n) (let z : at ≡ at + 0 = omega arith in z) ∙ h 0

-- What is spelled.
module _ (kinds : List ℕ) (t : Text) where
  -- The token at the position is of one of the kinds.
  abbrev IsOneOf : List ℕ → ℕ → Type 0
  IsOneOf ks at = (kind : ℕ) × (slice_get kinds at ≡ Some kind) × (holds ks kind ≡ true)

  one_of : (g : Grammar Rule) (ks : List ℕ) (ss : List Symbol) {at : ℕ} {w : List ℕ} {ps : List (Step Rule)} (body : List Symbol) → begins g ks body ≡ true → Derives g (body ++ ss) at w ps → From kinds at w
      → IsOneOf ks at
  one_of g ks ss [] e d f = absurd (not_false e)
  one_of g ks ss {at = at} (Token k ∷ body) e (token {w = w} d) f = (k, from_here kinds at k w f, e)
  one_of g ks ss {at = at} {w = w} (Part n ∷ body) e (choose {ps = ps} r i al d) f =
      let h = both (is_empty g n) (begins g ks body) e in
      let o = row_passes (λ q. implies (nat_eq q.part n) (is_nil q.body)) g h.0 i.place r i.row_is in
      one_of g ks ss body h.1 (subst (λ (b : List Symbol). Derives g (b ++ (body ++ ss)) at w ps) (nil_if r.body (implied (nat_eq r.part n) (is_nil r.body) o (same_part r.part n i.part_is))) d) f

  spelled_at : (ks : List ℕ) (b : Bool) (at : ℕ) → IsOneOf ks at → IsSpelledBy kinds t ks b (name_at t at) (place_at t at)
  spelled_at [] b at (k, e, h) = absurd (not_false h)
  spelled_at (j ∷ ks) b at (k, e, h) = record { at = at; kind = k; kind_is = e; one_of = h; bytes = refl; place = λ s. refl }

  unspelled : (ks : List ℕ) (b : Bool) (p : Place) → is_nil ks ≡ true → IsSpelledBy kinds t ks b [] p
  unspelled [] b p e = refl
  unspelled (k ∷ ks) b p e = absurd (not_false e)

  moved_by : (ks : List ℕ) (b : Bool) (x : List ℕ) (p q : Place) → b ≡ false → IsSpelledBy kinds t ks b x p → IsSpelledBy kinds t ks b x q
  moved_by [] b x p q m n = n
  moved_by (k ∷ ks) b x p q m n = record { at = n.at; kind = n.kind; kind_is = n.kind_is; one_of = n.one_of; bytes = n.bytes; place = λ s. absurd (not_false (sym m ∙ s)) }

module _ (l : Language) (spelling : Head → List ℕ) (still : Sort) (kinds : List ℕ) (t : Text) (plain : is_nil (spelling head.List) ≡ true) where
  abbrev Spells : Head → List ℕ → Place → Type 0
  Spells h x p = IsSpelledBy kinds t (spelling h) (stays l still h) x p

  abbrev list : (p : Place) → Spells head.List [] p
  list p = unspelled kinds t (spelling head.List) (stays l still head.List) p plain

  abbrev Moves : Head → Type 0
  Moves h = stays l still h ≡ false

  abbrev moved : (h : Head) (x : List ℕ) (p q : Place) → Moves h → Spells h x p → Spells h x q
  moved h x p q m n = moved_by kinds t (spelling h) (stays l still h) x p q m n

  abbrev MayMove : List Node → Type 0
  MayMove xs = AllMove t Spells list Moves moved xs

  -- Nodes of other sorts may move.
  module _ (wholes : list_all (λ k. is_whole (l.role k)) still ≡ true) (loosened : stays l still head.List ≡ false) where
    parts_whole : {h : Head} {k : ℕ} {xs : List Node} → Parts l h k xs → l.role (l.signature h).kind ≡ whole → k ≡ (l.signature h).kind
    parts_whole (own f) w = refl
    parts_whole (longer {k = k} o j r e g) w = whole_or_item (l.role k) o j (ap (λ (n : ℕ). l.role n) (parts_whole g w) ∙ w) r

    not_still : (s : Sort) {x : Node} → apart s still ≡ true → Is l s x → stays l still (head_of x) ≡ true → ⊥
    not_still s {x} a (formed k m e d) q =
        let role = whole_role (l.role (l.signature (head_of x)).kind) (kind_passes (λ j. is_whole (l.role j)) still wholes (l.signature (head_of x)).kind q) in
        not_false (sym (apart_at s still a k m) ∙ subst (λ (n : ℕ). holds still n ≡ true) (sym (parts_whole d role)) q)
    not_still s {x} a (listed k e h r m n f) q = not_false (sym loosened ∙ subst (λ (z : Head). stays l still z ≡ true) h q)

    moves : (s : Sort) (x : Node) → apart s still ≡ true → Is l s x → Moves (head_of x)
    moves s x a d = unless (stays l still (head_of x)) (λ q. not_still s a d q)

    first_moves : (xs : List Node) (f : List Sort) (r : Sort) → apart (first_sort f r) still ≡ true → Fits l f r xs → FirstMoves t Spells list Moves moved xs
    first_moves [] f r a d = tt
    first_moves (x ∷ xs) [] r a (more d ds) = moves r x a d
    first_moves (x ∷ xs) (s ∷ f) r a (next d ds) = moves s x a d

    last_moves : (ts : List ValueSort) (vs : List Value) → apart (last_sort ts) still ≡ true → HaveSorts l ts vs → LastMoves t Spells list Moves moved vs
    last_moves [] [] a d = tt
    last_moves [] (v ∷ vs) a d = absurd d
    last_moves (u ∷ ts) [] a d = absurd d
    last_moves (u ∷ []) (v ∷ []) a d = first_moves (trees_of v) (shape_of u).first (shape_of u).rest a (value_sorted l u v d.0)
    last_moves (u ∷ []) (v ∷ w ∷ vs) a d = absurd d.1
    last_moves (u ∷ s ∷ ts) (v ∷ []) a d = absurd d.1
    last_moves (u ∷ s ∷ ts) (v ∷ w ∷ vs) a d = last_moves (s ∷ ts) (w ∷ vs) a d.1

    all_move : (r : Sort) (xs : List Node) → apart r still ≡ true → Fits l [] r xs → MayMove xs
    all_move r [] a d = tt
    all_move r (x ∷ xs) a (more d ds) = (moves r x a d, all_move r xs a ds)

    others_move : (xs : List Node) (f : List Sort) (r : Sort) → apart (others_sort f r) still ≡ true → Fits l f r xs → OthersMove t Spells list Moves moved xs
    others_move [] f r a d = tt
    others_move (x ∷ xs) [] r a (more d ds) = all_move r xs a ds
    others_move (x ∷ xs) (s ∷ f) r a (next d ds) = all_move _ xs a (loose l ds)

    -- What steps give.
    module _ (sorts : ℕ → List ValueSort) (g : Grammar Rule) (acting : sorts_ok l sorts g ≡ true) where
      gives : (ss : List Symbol) {at : ℕ} {w : List ℕ} {ps : List (Step Rule)} (a : Action) (body : List Symbol) (ts : List ValueSort) (vs : List Value)
          → action_spells spelling g a body ≡ true → leaves_still l sorts still a ts ≡ true → Derives g (body ++ ss) at w ps → From kinds at w → HaveSorts l ts vs → Gives t Spells list Moves moved a at vs
      gives ss {at = at} (Spell h) body ts vs e n d f y = spelled_at kinds t (spelling h) (stays l still h) at (one_of kinds t g (spelling h) ss body e d f)
      gives ss (Make h) body ts vs e n d f y = unspelled kinds t (spelling h) (stays l still h) _ e
      gives ss (Enclose h) body ts vs e n d f y = unspelled kinds t (spelling h) (stays l still h) _ e
      gives ss (Graft h) body ts vs e n d f y = unspelled kinds t (spelling h) (stays l still h) _ e
      gives ss (Flat h) body ts vs e n d f y = unspelled kinds t (spelling h) (stays l still h) _ e
      gives ss (Lead h) body ts vs e n d f y = unspelled kinds t (spelling h) (stays l still h) _ e
      gives ss Nothing body ts vs e n d f y = tt
      gives ss Pass body ts vs e n d f y = tt
      gives ss Extend body ts vs e n d f y = last_moves ts vs n y
      gives ss Many body ts vs e n d f y = tt
      gives ss Attach body ts vs e n d f y = others_move (flattened vs) (flat_shape ts).first (flat_shape ts).rest n (flat_sorted l ts vs y)

      -- the values that a production takes
      taken : (ss : List Symbol) {at : ℕ} {w : List ℕ} (ps : List (Step Rule)) (r : Production Rule) (place : ℕ) → slice_get g place ≡ Some r → Derives g (r.body ++ ss) at w ps
          → HaveSorts l (take r.rule.takes (sorts_of sorts r.body)) (take r.rule.takes (built t ps))
      taken ss ps r place e d =
          let b = builds_sorts l t sorts g acting d in
          let whole : built t ps ≡ b.values = ap (λ (z : List (Step Rule)). built t z) (sym (append_nil ps)) ∙ (b.frame [] ∙ append_nil b.values) in
          let few = (leaving l r.rule.action r.rule.takes (sorts_of sorts r.body) (sorts r.part) (row_sorts l sorts g acting place r e)).takes in
          subst (λ (z : List Value). HaveSorts l (take r.rule.takes (sorts_of sorts r.body)) (take r.rule.takes z)) (sym whole)
          (front l r.rule.takes (sorts_of sorts r.body) (sorts_of sorts ss) b.values few (subst (λ (z : List ValueSort). HaveSorts l z b.values) (sorts_together l sorts r.body ss) b.sorted))

      abbrev spelling_row : Production Rule → Bool
      spelling_row r = action_spells spelling g r.rule.action r.body

      abbrev leaving_row : Production Rule → Bool
      leaving_row r = leaves_still l sorts still r.rule.action (take r.rule.takes (sorts_of sorts r.body))

      steps_give : list_all spelling_row g ≡ true → list_all leaving_row g ≡ true → {ss : List Symbol} {at : ℕ} {w : List ℕ} {ps : List (Step Rule)} → Derives g ss at w ps → From kinds at w
          → AllGive t Spells list Moves moved ps
      steps_give e n done f = tt
      steps_give e n (token {k = k} {at = at} {w = w} d) f = steps_give e n d (from_next kinds at k w f)
      steps_give e n (choose {ss = ss} {ps = ps} r i al d) f = (
        gives ss r.rule.action r.body (take r.rule.takes (sorts_of sorts r.body)) (take r.rule.takes (built t ps))
            (row_passes spelling_row g e i.place r i.row_is) (row_passes leaving_row g n i.place r i.row_is) d f (taken ss ps r i.place i.row_is d),
        steps_give e n d f,
      )

pub tree_spelled : (l : Language) (sorts : ℕ → List ValueSort) (spelling : Head → List ℕ) (still : Sort) (g : Grammar Rule) → sorts_ok l sorts g ≡ true → spellings_ok spelling g ≡ true → still_ok l sorts still g ≡ true
    → (n : ℕ) (kinds : List ℕ) (t : Text) (x : Node) → IsTree g n kinds t x → Each (IsSpelled l spelling still kinds t) x
tree_spelled l sorts spelling still g acting spelled staying n kinds t x d =
    let e = both (is_nil (spelling head.List)) (list_all (λ r. action_spells spelling g r.rule.action r.body) g) spelled in
    let w = both (list_all (λ k. is_whole (l.role k)) still) (not (stays l still head.List) && list_all (λ r. leaves_still l sorts still r.rule.action (take r.rule.takes (sorts_of sorts r.body))) g) staying in
    let v = both (not (stays l still head.List)) (list_all (λ r. leaves_still l sorts still r.rule.action (take r.rule.takes (sorts_of sorts r.body))) g) w.1 in
    each_so (Holds t (Spells l spelling still kinds t e.0) (list l spelling still kinds t e.0) (Moves l spelling still kinds t e.0) (moved l spelling still kinds t e.0)) (IsSpelled l spelling still kinds t) (λ y p. p.0)
    (tree_of t (Spells l spelling still kinds t e.0) (list l spelling still kinds t e.0) (Moves l spelling still kinds t e.0) (moved l spelling still kinds t e.0) d.0 x d.2
    (steps_give l spelling still kinds t e.0 w.0 (is_false (stays l still head.List) v.0) sorts g acting e.1 v.1 d.1 (λ i. ap (λ (m : ℕ). slice_get kinds m) (let z : 0 + i ≡ i = omega arith in z))))
