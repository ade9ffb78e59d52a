-- The table of the terms of a leaf, and labels of its rows.
use Rattle.std.specs.Prelude.{◌≡◌, ◌≢◌, ◌⊎◌, ℕ, true, ◌<◌, ◌≤◌, ◌==◌, if◌then◌else◌, List, [], ◌∷◌, Option, Some, None, map, length, slice_get, sum}
use Rattle.std.specs.List.{AllPairs, Contains}
use Rattle.gb_terms.specs.declared.term.Term.{Term}
use Rattle.gb_closing.specs.Labels.{label_at, labels_at}
use Rattle.gb_equality.specs.declared.rules.Equation.{Equation}
use Rattle.gb_equality.specs.declared.table.Node.{Node}
use Rattle.gb_equality.specs.declared.table.Table.{Table}
use Rattle.gb_equality.specs.Parts.{is_same, noted, terms_of, arguments_of, operator_of}
use Rattle.gb_equality.specs.Connectives.{is_form, connective_of, label_by, AreDifferent}
use Rattle.gb_equality.specs.Labels.{Labels, IsLabelling}

-- the terms of the rows
abbrev pub terms : List Node → List Term
terms nodes = map (λ n. n.term) nodes

-- the terms stand at these places
abbrev pub StandAt : List Term → List ℕ → List Term → Type 0
StandAt ts places us = map (slice_get ts) places ≡ map Some us

-- each term stands once, and its arguments stand at the places that its row gives
pub record IsTable (nodes : List Node) : Type 0 where
  pub once : AllPairs (λ t u. t ≢ u) (terms nodes)
  pub arguments : (i : ℕ) (n : Node) → slice_get nodes i ≡ Some n → StandAt (terms nodes) n.args (arguments_of n.term)

-- the table has these terms more, each once
pub record IsAdded (before : List Node) (ts : List Term) (after : List Node) : Type 0 where
  pub table : IsTable after
  pub added : terms after ≡ noted (terms before) ts

-- the table of the terms in hypotheses and a conclusion, and where these stand
pub record IsTableOf (hyps : List Term) (t : Term) (made : Table) : Type 0 where
  pub table : IsTable made.nodes
  pub listed : terms made.nodes ≡ terms_of hyps t
  pub hyps_there : StandAt (terms made.nodes) made.hyps hyps
  pub conclusion_there : slice_get (terms made.nodes) made.conclusion ≡ Some t

-- The labelling is a reading of labels: it gives terms of equal labels equal ones, and those with the label of a truth this truth.
pub record Reads (nodes : List Node) (ls : List ℕ) (L : Labels) (read : ℕ → ℕ) : Type 0 where
  pub labelling : IsLabelling L (terms nodes)
  pub falsity : read 0 ≡ 0
  pub truth : read 1 ≡ 1
  pub each : map read ls ≡ map L (terms nodes)

-- no labelling is a reading of these labels
abbrev pub HasNone : List Node → List ℕ → Type 0
HasNone nodes ls = (L : Labels) (read : ℕ → ℕ) → Reads nodes ls L read → ⊥

-- the label of a truth, or of a row
abbrev pub IsLabel : List ℕ → ℕ → Type 0
IsLabel ls l = (l < 2) ⊎ Contains ls l

-- Two labels that no labelling reads differently.
pub record AreJoined (nodes : List Node) (ls : List ℕ) (x y : ℕ) : Type 0 where
  pub apart : x ≢ y
  pub first : IsLabel ls x
  pub second : IsLabel ls y
  pub joined : (L : Labels) (read : ℕ → ℕ) → Reads nodes ls L read → read x ≡ read y

abbrev pub IsJoining : List Node → List ℕ → Equation → Type 0
IsJoining nodes ls e = AreJoined nodes ls e.left e.right

-- each form is true or false
abbrev pub IsDecided : List Node → List ℕ → Type 0
IsDecided nodes ls = (i : ℕ) (n : Node) → slice_get nodes i ≡ Some n → is_form n.term ≡ true → label_at ls i < 2

-- where each form is true or false, a connective or an equation is labelled by its arguments
abbrev pub IsSettledAlone : List Node → List ℕ → ℕ → Type 0
IsSettledAlone nodes ls i =
    (n : Node) → slice_get nodes i ≡ Some n → IsDecided nodes ls → (l : ℕ) → label_by (connective_of n.term) (labels_at ls n.args) ≡ Some l → label_at ls i ≡ l

-- equal operators with equal labels of arguments have equal labels, and different literals have different ones
pub record ArePaired (ls : List ℕ) (i j : ℕ) (m n : Node) : Type 0 where
  pub congruent : operator_of m.term ≡ operator_of n.term → labels_at ls m.args ≡ labels_at ls n.args → label_at ls i ≡ label_at ls j
  pub literals : AreDifferent m.term n.term → label_at ls i ≢ label_at ls j

abbrev pub IsSettledPair : List Node → List ℕ → ℕ → ℕ → Type 0
IsSettledPair nodes ls i j = (m n : Node) → slice_get nodes i ≡ Some m → slice_get nodes j ≡ Some n → ArePaired ls i j m n

-- a row implies nothing more, with those before it
pub record IsSettled (nodes : List Node) (ls : List ℕ) (i : ℕ) : Type 0 where
  pub alone : IsSettledAlone nodes ls i
  pub pairs : (j : ℕ) → j < i → IsSettledPair nodes ls j i

-- What becomes of labels: each labelling that reads them reads the new ones, truths stay, and labels don't grow.
pub record AreNarrowed (nodes : List Node) (old new : List ℕ) : Type 0 where
  pub reads : (L : Labels) (read : ℕ → ℕ) → Reads nodes old L read → Reads nodes new L read
  pub truths : (i : ℕ) → i < length old → label_at old i < 2 → label_at new i ≡ label_at old i
  pub fewer : sum new ≤ sum old
  pub rows : length new ≡ length old

-- a label in place of another one
abbrev pub put : ℕ → ℕ → ℕ → ℕ
put x y l = if l == x then y else l

abbrev pub relabelled : ℕ → ℕ → List ℕ → List ℕ
relabelled x y ls = map (put x y) ls

-- the label of a term by those of the rows
abbrev pub label_in : List Term → List ℕ → Term → ℕ
label_in (u ∷ us) (l ∷ ls) t = if is_same u t then l else label_in us ls t
label_in _ _ t = 0
