-- The test that the actions of a grammar build values of the sorts of its parts.
use Rattle.std.specs.Prelude.{ℕ, zero, suc, ◌-◌, Bool, true, false, not, ◌&&◌, ◌||◌, nat_le, List, [], ◌∷◌, ◌++◌, length, take, drop}
use Rattle.gb_script.specs.declared.table.Symbol.{Symbol}
use Rattle.gb_script.specs.declared.table.Symbol.TheVariants.{Token, Part}
use Rattle.gb_script.specs.Grammar.{Grammar, Production}
use Rattle.gb_script.specs.declared.action.Action.{Action}
use Rattle.gb_script.specs.declared.action.Action.TheVariants.{Nothing, Pass, Make, Enclose, Spell, Graft, Flat, Extend, Many, Lead, Attach}
use Rattle.gb_script.specs.declared.action.Rule.{Rule}
use Rattle.gb_script.specs.declared.head.Head.{Head}
use Rattle.gb_script.specs.Head.{holders, joiner}
use Rattle.gb_script.specs.Sorts.{Sort, is_nil, holds, Shape, Role, whole, item, list, Signature, Language, ValueSort, one, many, some}

-- Sorts and shapes.

abbrev pub within : Sort → Sort → Bool
within [] t = true
within (k ∷ s) t = holds t k && within s t

abbrev pub same_sort : Sort → Sort → Bool
same_sort s t = within s t && within t s

abbrev pub all_sorts : List Sort → Sort → Sort
all_sorts [] r = r
all_sorts (s ∷ f) r = s ++ all_sorts f r

abbrev pub shape_within : List Sort → Sort → List Sort → Sort → Bool
shape_within [] r [] q = within r q
shape_within (s ∷ f) r [] q = within s q && shape_within f r [] q
shape_within [] r (t ∷ g) q = false
shape_within (s ∷ f) r (t ∷ g) q = within s t && shape_within f r g q

-- one list after another
abbrev pub rest_then : Sort → Shape → Shape
rest_then [] g = g
rest_then (k ∷ r) g = record { first = []; rest = (k ∷ r) ++ all_sorts g.first g.rest }

abbrev pub shape_then : List Sort → Sort → Shape → Shape
shape_then [] r g = rest_then r g
shape_then (s ∷ f) r g = record { first = s ∷ (shape_then f r g).first; rest = (shape_then f r g).rest }

abbrev pub sort_then : ValueSort → Shape → Shape
sort_then (one s) g = record { first = s ∷ g.first; rest = g.rest }
sort_then (many h) g = shape_then h.first h.rest g
sort_then (some h) g = shape_then h.first h.rest g

-- the shape of the values, and the elements of lists among them
abbrev pub flat_shape : List ValueSort → Shape
flat_shape [] = record { first = []; rest = [] }
flat_shape (v ∷ vs) = sort_then v (flat_shape vs)

-- the shape of a value, as a list
abbrev pub shape_of : ValueSort → Shape
shape_of v = sort_then v (record { first = []; rest = [] })

abbrev pub sort_within : ValueSort → ValueSort → Bool
sort_within (one s) (one t) = within s t
sort_within (one s) (some g) = shape_within (s ∷ []) [] g.first g.rest
sort_within (many f) (many g) = shape_within f.first f.rest g.first g.rest
sort_within (many f) (some g) = shape_within f.first f.rest g.first g.rest
sort_within (some f) (some g) = shape_within f.first f.rest g.first g.rest
sort_within _ _ = false

abbrev pub sorts_within : List ValueSort → List ValueSort → Bool
sorts_within [] [] = true
sorts_within (v ∷ vs) (w ∷ ws) = sort_within v w && sorts_within vs ws
sorts_within _ _ = false

abbrev pub implies : Bool → Bool → Bool
implies true b = b
implies false b = true

abbrev pub is_whole : Role → Bool
is_whole whole = true
is_whole _ = false

-- An item of this role becomes one of such a kind.
abbrev pub grows : (ℕ → Bool) → Role → Bool
grows f (item o j) = f j
grows f _ = false

abbrev pub list_takes : Role → Shape → Bool
list_takes (list e) g = shape_within g.first g.rest [] e
list_takes _ g = false

-- There is a last part, and it is of this sort.
abbrev pub ends : Sort → List Sort → Sort → Bool
ends s [] r = false
ends s (t ∷ []) r = same_sort t s && (is_nil r || same_sort r s)
ends s (t ∷ u ∷ f) r = ends s (u ∷ f) r

-- the sorts of the values of some symbols, from those of each part
abbrev pub sorts_of : (ℕ → List ValueSort) → List Symbol → List ValueSort
sorts_of sorts [] = []
sorts_of sorts (Token k ∷ ss) = sorts_of sorts ss
sorts_of sorts (Part n ∷ ss) = sorts n ++ sorts_of sorts ss

module _ (l : Language) where
  -- Parts.

  -- A list of this shape is of the sort.
  abbrev pub has_list : Sort → Shape → Bool
  has_list [] g = false
  has_list (k ∷ s) g = list_takes (l.role k) g || has_list s g

  abbrev pub part_fits : ValueSort → Sort → Bool
  part_fits (one s) t = within s t
  part_fits (many g) t = has_list t g
  part_fits (some g) t = false

  abbrev pub parts_fit : List ValueSort → List Sort → Sort → Bool
  parts_fit [] [] r = true
  parts_fit [] (s ∷ f) r = false
  parts_fit (v ∷ vs) [] r = part_fits v r && parts_fit vs [] r
  parts_fit (v ∷ vs) (s ∷ f) r = part_fits v s && parts_fit vs f r

  -- Items.

  -- Nodes of a kind take a first part of such a value, and are of the sort with it.
  abbrev pub completing : Role → ValueSort → Sort → Bool
  completing (item o k) v s = part_fits v o && holds s k
  completing _ v s = false

  abbrev pub all_complete : Sort → ValueSort → Sort → Bool
  all_complete [] v s = true
  all_complete (k ∷ items) v s = completing (l.role k) v s && all_complete items v s

  -- Nodes of a kind, with parts in front of them or not, may be of the sort; so much is said of chains of so many.
  abbrev pub reach : ℕ → Sort → ℕ → Bool
  reach zero s k = true
  reach (suc n) s k = holds s k || grows (λ j. reach n s j) (l.role k)

  -- The last parts of nodes of the sort, inside which items may stand, are of the sort.
  abbrev pub holder_ok : Sort → Signature → Bool
  holder_ok s g = implies (reach 3 s g.kind) (ends s g.parts.first g.parts.rest)

  abbrev pub holders_ok : List Head → Sort → Bool
  holders_ok [] s = true
  holders_ok (h ∷ hs) s = holder_ok s (l.signature h) && holders_ok hs s

  -- Items whose parts stand behind those of others lack their first part alone, and have parts of one sort.
  abbrev pub joined_ok : Sort → Role → Bool
  joined_ok items (item o j) = not (holds items j) && is_whole (l.role j)
  joined_ok items _ = true

  abbrev pub joiner_ok : Sort → Signature → Bool
  joiner_ok items g = within (all_sorts g.parts.first g.parts.rest) g.parts.rest && joined_ok items (l.role g.kind)

  abbrev pub attaches : List Sort → Sort → Sort → Bool
  attaches [] r s = false
  attaches (a ∷ f) r s = within a s && (all_complete (all_sorts f r) (one s) s && (holders_ok holders s && joiner_ok (all_sorts f r) (l.signature joiner)))

  -- Actions.

  abbrev pub kind_of : Head → Sort
  kind_of h = (l.signature h).kind ∷ []

  -- A node of the head, with a text or not, of the values as parts.
  abbrev pub makes : Bool → Head → List ValueSort → ValueSort → Bool
  makes true h ts u = (l.signature h).text && (parts_fit ts (l.signature h).parts.first (l.signature h).parts.rest && sort_within (one (kind_of h)) u)
  makes false h ts u = not (l.signature h).text && (parts_fit ts (l.signature h).parts.first (l.signature h).parts.rest && sort_within (one (kind_of h)) u)

  abbrev pub grafts : Head → Shape → ValueSort → Bool
  grafts h f u = not (l.signature h).text && (shape_within f.first f.rest (l.signature h).parts.first (l.signature h).parts.rest && sort_within (one (kind_of h)) u)

  abbrev pub flattens : Head → List Sort → Sort → Sort → Bool
  flattens h [] r s = false
  flattens h (a ∷ f) r s = within a s && grafts h (record { first = a ∷ f; rest = r }) (one s)

  abbrev pub leads : Head → List ValueSort → ValueSort → Bool
  leads h [] u = false
  leads h (t ∷ ts) u =
      not (l.signature h).text
      && (shape_within (shape_of t).first (shape_of t).rest (l.signature h).parts.first (l.signature h).parts.rest
      && sort_within (many (record { first = kind_of h ∷ (flat_shape ts).first; rest = (flat_shape ts).rest })) u)

  -- Each sort of the first element of a list, where it has one.
  abbrev pub extends_list : ValueSort → List Sort → Sort → List Sort → Sort → Bool
  extends_list v (b ∷ f) r (s ∷ g) q = all_complete b v s && shape_within f r g q
  extends_list v (b ∷ f) r [] q = all_complete b v q && shape_within f r [] q
  extends_list v [] r g q = false

  -- An action makes values of these sorts from such of those.
  abbrev pub acts : Action → List ValueSort → List ValueSort → Bool
  acts Nothing ts us = is_nil us
  acts Pass ts us = sorts_within ts us
  acts (Make h) ts (u ∷ []) = makes false h ts u
  acts (Enclose h) ts (u ∷ []) = makes false h ts u
  acts (Spell h) ts (u ∷ []) = makes true h ts u
  acts (Graft h) ts (u ∷ []) = grafts h (flat_shape ts) u
  acts (Flat h) ts (one s ∷ []) = flattens h (flat_shape ts).first (flat_shape ts).rest s
  acts Extend (one a ∷ []) (u ∷ []) = sort_within (one a) u
  acts Extend (v ∷ one b ∷ []) (one s ∷ []) = all_complete b v s
  acts Extend (v ∷ some f ∷ []) (some g ∷ []) = extends_list v f.first f.rest g.first g.rest
  acts Many ts (u ∷ []) = sort_within (many (flat_shape ts)) u
  acts (Lead h) ts (u ∷ []) = leads h ts u
  acts Attach ts (one s ∷ []) = attaches (flat_shape ts).first (flat_shape ts).rest s
  acts _ ts us = false

  -- A production makes the first values of its part of those that it takes, and leaves the others.
  abbrev pub leaves : Action → ℕ → List ValueSort → List ValueSort → Bool
  leaves a k ts us = nat_le k (length ts) && (acts a (take k ts) (take (length us - (length ts - k)) us) && sorts_within (drop k ts) (drop (length us - (length ts - k)) us))

  abbrev pub row_sorts_ok : (ℕ → List ValueSort) → Production Rule → Bool
  row_sorts_ok sorts r = leaves r.rule.action r.rule.takes (sorts_of sorts r.body) (sorts r.part)

  abbrev pub sorts_ok : (ℕ → List ValueSort) → Grammar Rule → Bool
  sorts_ok sorts [] = true
  sorts_ok sorts (r ∷ rs) = row_sorts_ok sorts r && sorts_ok sorts rs
