-- What the equality procedure answers.
use Rattle.std.specs.Prelude.{◌≡◌, ◌+◌, ◌<◌, ℕ, Bool, true, false, Option, Some, None, List, [], ◌∷◌, map, length}
use Rattle.std.specs.List.{All}
use Rattle.gb_terms.specs.declared.term.Term.{Term}
use Rattle.gb_equality.specs.declared.table.Node.{Node}
use Rattle.gb_equality.specs.declared.table.Table.{Table}
use Rattle.gb_equality.specs.declared.equality.Labelled.{Labelled}
use Rattle.gb_equality.specs.Parts.{terms_of}
use Rattle.gb_equality.specs.Labels.{Labels, Refutes, EqualityValid}
use Rattle.gb_closing.specs.Labels.{label_at}
use Rattle.gb_equality.specs.Table.{IsTableOf}

-- a label of its own for each row, none of them that of a truth
pub record AreFresh (count : ℕ) (ls : List ℕ) : Type 0 where
  pub rows : length ls ≡ count
  pub own : (i : ℕ) → i < count → label_at ls i ≡ i + 2

-- a reading under which the labels at the places of hypotheses are 1 and that of the conclusion is 0
pub record ReadsSo (hyps : List ℕ) (conclusion : ℕ) (ls : List ℕ) (read : ℕ → ℕ) : Type 0 where
  pub falsity : read 0 ≡ 0
  pub truth : read 1 ≡ 1
  pub assumed : All (λ p. read (label_at ls p) ≡ 1) hyps
  pub concluded : read (label_at ls conclusion) ≡ 0

-- the labels with those of the hypotheses 1 and that of the conclusion 0: readings under which they are so stay the same
pub record AreAssumed (hyps : List ℕ) (conclusion : ℕ) (old new : List ℕ) : Type 0 where
  pub rows : length new ≡ length old
  pub assumed : All (λ p. label_at new p ≡ 1) hyps
  pub concluded : label_at new conclusion ≡ 0
  pub reads : (read : ℕ → ℕ) → ReadsSo hyps conclusion old read → map read new ≡ map read old

abbrev pub IsAssumed : List ℕ → ℕ → List ℕ → List ℕ → Bool → Type 0
IsAssumed hyps conclusion old new true = AreAssumed hyps conclusion old new
IsAssumed hyps conclusion old new false = (read : ℕ → ℕ) → ReadsSo hyps conclusion old read → ⊥

-- the terms of the rows with their labels
abbrev pub with_labels : List Node → List ℕ → List Labelled
with_labels (n ∷ ns) (l ∷ ls) = record { term = n.term; label = l } ∷ with_labels ns ls
with_labels _ _ = []

-- a labelling that makes the hypotheses true and the conclusion false, as a list: one label per term, in order of first
-- occurrence, the arguments of a term before it
pub record IsRefutation (hyps : List Term) (t : Term) (list : List Labelled) : Type 0 where
  pub labels : Labels
  pub refutes : Refutes labels hyps t
  pub listed : list ≡ map (λ u. record { term = u; label = labels u }) (terms_of hyps t)

-- none exactly where the leaf is valid by equality, and else labels of the rows that refute it
abbrev pub Comes : List Term → Term → Table → Option (List ℕ) → Type 0
Comes hyps t made None = EqualityValid hyps t
Comes hyps t made (Some ls) = (length ls ≡ length made.nodes) × IsRefutation hyps t (with_labels made.nodes ls)

-- the same for the leaf of a table
abbrev pub IsRefuting : Table → Option (List ℕ) → Type 0
IsRefuting made found = (hyps : List Term) (t : Term) → IsTableOf hyps t made → Comes hyps t made found

-- none exactly where the leaf is valid by equality, and else such a labelling
abbrev pub IsAnswer : List Term → Term → Option (List Labelled) → Type 0
IsAnswer hyps t None = EqualityValid hyps t
IsAnswer hyps t (Some list) = IsRefutation hyps t list
