-- Which kinds of token spell the texts of nodes, and which nodes stand where their tokens do. A spelling has these kinds for
-- each head, and none for a head without a text. Nodes of some kinds stay where they are made: others move to the place of what
-- is put in front of their parts.
use Rattle.std.specs.Prelude.{◌≡◌, ℕ, Bool, true, false, not, ◌&&◌, nat_eq, List, [], ◌∷◌, Some, slice_get, take}
use Rattle.std.specs.List.{list_all}
use Rattle.gb_core.specs.declared.place.Place.{Place}
use Rattle.gb_script.specs.declared.table.Symbol.{Symbol}
use Rattle.gb_script.specs.declared.table.Symbol.TheVariants.{Token, Part}
use Rattle.gb_script.specs.Grammar.{Grammar}
use Rattle.gb_script.specs.declared.action.Action.{Action}
use Rattle.gb_script.specs.declared.action.Action.TheVariants.{Make, Enclose, Spell, Graft, Flat, Extend, Lead, Attach}
use Rattle.gb_script.specs.declared.action.Rule.{Rule}
use Rattle.gb_script.specs.declared.head.Head.{Head}
use Rattle.gb_script.specs.declared.head.Head.TheVariants as head
use Rattle.gb_script.specs.declared.text.Text.{Text}
use Rattle.gb_script.specs.declared.tree.Node.{Node}
use Rattle.gb_script.specs.Acts.{all_sorts, flat_shape, shape_of, implies, is_whole, sorts_of}
use Rattle.gb_script.specs.Sorts.{Sort, holds, Language, is_nil, ValueSort}
use Rattle.gb_script.specs.Text.{name_at, place_at}
use Rattle.gb_script.specs.Tree.{head_of, text_of, place_of}

-- Trees.

module _ (kinds : List ℕ) (t : Text) where
  -- In a text with these kinds of token, the bytes are those of a token of one of some kinds; and the place is its place, where
  -- the node stays.
  pub record IsToken (ks : List ℕ) (stays : Bool) (x : List ℕ) (p : Place) : Type 0 where
    pub at : ℕ
    pub kind : ℕ
    pub kind_is : slice_get kinds at ≡ Some kind
    pub one_of : holds ks kind ≡ true
    pub bytes : x ≡ name_at t at
    pub place : stays ≡ true → p ≡ place_at t at

  -- Where there are no kinds there are no bytes.
  abbrev pub IsSpelledBy : List ℕ → Bool → List ℕ → Place → Type 0
  IsSpelledBy [] stays x p = x ≡ []
  IsSpelledBy (k ∷ ks) stays x p = IsToken (k ∷ ks) stays x p

-- Nodes of the head stay where they are made.
abbrev pub stays : Language → Sort → Head → Bool
stays l still h = holds still (l.signature h).kind

-- The node's text is that of a token of a kind of its head, and so is its place, where it is of a kind whose nodes stay.
abbrev pub IsSpelled : Language → (Head → List ℕ) → Sort → List ℕ → Text → Node → Type 0
IsSpelled l spelling still kinds t x = IsSpelledBy kinds t (spelling (head_of x)) (stays l still (head_of x)) (text_of x) (place_of x)

-- The test of a table: what begins with a token.

-- Each production of the part has an empty body.
abbrev pub is_empty : Grammar Rule → ℕ → Bool
is_empty g n = list_all (λ r. implies (nat_eq r.part n) (is_nil r.body)) g

-- The symbols begin with a token of one of the kinds, behind parts that are empty.
abbrev pub begins : Grammar Rule → List ℕ → List Symbol → Bool
begins g ks [] = false
begins g ks (Token k ∷ ss) = holds ks k
begins g ks (Part n ∷ ss) = is_empty g n && begins g ks ss

module _ (spelling : Head → List ℕ) (g : Grammar Rule) where
  -- An action gives a node of a head with a text the first token of the body, which is of a kind of the head.
  abbrev pub action_spells : Action → List Symbol → Bool
  action_spells (Spell h) ss = begins g (spelling h) ss
  action_spells (Make h) ss = is_nil (spelling h)
  action_spells (Enclose h) ss = is_nil (spelling h)
  action_spells (Graft h) ss = is_nil (spelling h)
  action_spells (Flat h) ss = is_nil (spelling h)
  action_spells (Lead h) ss = is_nil (spelling h)
  action_spells _ ss = true

  abbrev pub spellings_ok : Bool
  spellings_ok = is_nil (spelling head.List) && list_all (λ r. action_spells r.rule.action r.body) g

-- The test of a table: what stays where it is made.

abbrev pub apart : Sort → Sort → Bool
apart [] t = true
apart (k ∷ s) t = not (holds t k) && apart s t

-- the sort of the first node of a list, and that of all others
abbrev pub first_sort : List Sort → Sort → Sort
first_sort [] r = r
first_sort (s ∷ f) r = s

abbrev pub others_sort : List Sort → Sort → Sort
others_sort [] r = r
others_sort (s ∷ f) r = all_sorts f r

-- the sort of the last value, or of the first of its nodes
abbrev pub last_sort : List ValueSort → Sort
last_sort [] = []
last_sort (v ∷ []) = first_sort (shape_of v).first (shape_of v).rest
last_sort (v ∷ w ∷ vs) = last_sort (w ∷ vs)

module _ (l : Language) (sorts : ℕ → List ValueSort) (still : Sort) where
  -- The nodes that an action of such values moves are of no kind whose nodes stay.
  abbrev pub leaves_still : Action → List ValueSort → Bool
  leaves_still Extend ts = apart (last_sort ts) still
  leaves_still Attach ts = apart (others_sort (flat_shape ts).first (flat_shape ts).rest) still
  leaves_still _ ts = true

  -- The kinds are of whole nodes, and no production moves such a node.
  abbrev pub still_ok : Grammar Rule → Bool
  still_ok g =
      list_all (λ k. is_whole (l.role k)) still
      && (not (stays l still head.List) && list_all (λ r. leaves_still r.rule.action (take r.rule.takes (sorts_of sorts r.body))) g)
