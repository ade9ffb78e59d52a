-- What the search for a labelling finds.
use Rattle.std.specs.Prelude.{◌≡◌, ◌≢◌, ◌⊎◌, ◌<◌, ◌≤◌, ℕ, Bool, true, false, max, min, List, length, sum, Some, slice_get}
use Rattle.gb_equality.specs.declared.table.Node.{Node}
use Rattle.gb_equality.specs.declared.closing.Progress.{Progress}
use Rattle.gb_equality.specs.declared.closing.Progress.TheVariants.{Clash, Changed, Settled}
use Rattle.gb_equality.specs.Connectives.{is_form}
use Rattle.gb_equality.specs.Labels.{IsLabelling}
use Rattle.gb_closing.specs.Labels.{label_at}
use Rattle.gb_equality.specs.Table.{terms, label_in, relabelled, HasNone, IsSettled, AreNarrowed}

-- Two labels are made one, the lesser one of them; or they are those of the two truths.
abbrev pub IsEquated : ℕ → ℕ → List ℕ → List ℕ → Bool → Type 0
IsEquated x y old new true = ((x ≡ y) ⊎ (1 < max x y)) × (new ≡ relabelled (max x y) (min x y) old)
IsEquated x y old new false = (x ≢ y) × (max x y ≤ 1)

-- no row implies anything more
abbrev pub AreSettled : List Node → List ℕ → Type 0
AreSettled nodes ls = (i : ℕ) → i < length nodes → IsSettled nodes ls i

-- what going over the rows before a place has come to
abbrev pub IsSweptTo : List Node → List ℕ → List ℕ → ℕ → Progress → Type 0
IsSweptTo nodes old new at Clash = HasNone nodes old
IsSweptTo nodes old new at Changed = AreNarrowed nodes old new × (sum new < sum old)
IsSweptTo nodes old new at Settled = (new ≡ old) × ((i : ℕ) → i < at → IsSettled nodes new i)

-- what going over all rows comes to
abbrev pub IsSwept : List Node → List ℕ → List ℕ → Progress → Type 0
IsSwept nodes old new Clash = HasNone nodes old
IsSwept nodes old new Changed = AreNarrowed nodes old new × (sum new < sum old)
IsSwept nodes old new Settled = (new ≡ old) × AreSettled nodes new

-- what closing labels comes to
abbrev pub IsClosed : List Node → List ℕ → List ℕ → Bool → Type 0
IsClosed nodes old new true = AreNarrowed nodes old new × AreSettled nodes new
IsClosed nodes old new false = HasNone nodes old

-- the label of a form that isn't known to be true or false
pub record IsOpen (nodes : List Node) (ls : List ℕ) (label : ℕ) : Type 0 where
  pub place : ℕ
  pub node : Node
  pub there : slice_get nodes place ≡ Some node
  pub form : is_form node.term ≡ true
  pub its : label_at ls place ≡ label
  pub free : 1 < label

-- The labels are a labelling, and keep the truths of those before.
pub record IsFound (nodes : List Node) (old new : List ℕ) : Type 0 where
  pub labelling : IsLabelling (label_in (terms nodes) new) (terms nodes)
  pub truths : (i : ℕ) → i < length old → label_at old i < 2 → label_at new i ≡ label_at old i
  pub rows : length new ≡ length old

-- what a search from labels comes to: a labelling, or that none is a reading of them
abbrev pub IsSearched : List Node → List ℕ → List ℕ → Bool → Type 0
IsSearched nodes old new true = IsFound nodes old new
IsSearched nodes old new false = HasNone nodes old
