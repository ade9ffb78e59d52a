-- The types of what is bound, and numbers of assignments.
use Rattle.std.specs.Prelude.{max, List, [], ◌∷◌, map}
use Rattle.gb_core.specs.declared.ty.Ty.{Ty}
use Rattle.gb_core.specs.declared.value.Card.{Card}
use Rattle.gb_core.specs.declared.value.Card.TheVariants.{Exact, Above}
use Rattle.gb_terms.specs.declared.term.Term.{Term}
use Rattle.gb_terms.specs.declared.term.Head.{Head}
use Rattle.gb_terms.specs.declared.term.Head.TheVariants as head
use Rattle.gb_labels.specs.Reads.{reads_of}

abbrev pub Tys : Type 0
Tys = List Ty

-- the types at which variables are read of the memory that a head binds, where its argument reads at these
abbrev pub of_memory : Head → Tys → Tys
of_memory head.AllMemory us = us
of_memory head.SomeMemory us = us
of_memory h us = []

-- the types at which an only argument reads of the memory that its head binds
abbrev pub read_by_only : List Term → Tys
read_by_only (t ∷ []) = map (λ x. x.ty) (reads_of t)
read_by_only _ = []

abbrev pub greater : Card → Card → Card
greater (Exact m) (Exact n) = Exact (max m n)
greater _ _ = Above
