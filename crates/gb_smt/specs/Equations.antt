-- Equations that are used up.
use Rattle.std.specs.Prelude.{ℕ, zero, suc, ◌+◌, Bool, true, false, if◌then◌else◌, Option, Some, None, List, [], ◌∷◌, ◌++◌, map, take, drop, length}
use Rattle.std.specs.List.{list_any}
use Rattle.gb_terms.specs.declared.op.Op.{Op}
use Rattle.gb_terms.specs.declared.op.Op.TheVariants.{Equal}
use Rattle.gb_terms.specs.declared.op.Read.{Read}
use Rattle.gb_terms.specs.declared.term.Term.{Term, out-Term}
use Rattle.gb_terms.specs.declared.term.Head.{Head}
use Rattle.gb_terms.specs.declared.term.Head.TheVariants as head
use Rattle.gb_terms.specs.Equal.{read_eq}
use Rattle.gb_terms.specs.Reads.{term_reads}
use Rattle.gb_walk.specs.declared.change.Change.{Change}
use Rattle.gb_walk.specs.declared.change.Change.TheVariants.{ToTerm}
use Rattle.gb_walk.specs.Change.{term_changed}
use Rattle.gb_smt.specs.declared.leaves.Leaf.{Leaf}
use Rattle.gb_smt.specs.declared.equations.Equation.{Equation}

abbrev pub occurs : Read → Term → Bool
occurs r t = list_any (λ q. read_eq q r) (term_reads t)

abbrev pub replacement_at : Head → Term → Option Change
replacement_at (head.Read r) s = if occurs r s then None else Some (ToTerm r s)
replacement_at _ s = None

-- the replacement of a variable or read by a term in which it doesn't occur
abbrev pub replacement : Term → Term → Option Change
replacement t s = replacement_at (out-Term t).head s

abbrev pub or_else : Option Change → Option Change → Option Change
or_else (Some c) o = Some c
or_else None o = o

abbrev pub is_equal : Op → Bool
is_equal Equal = true
is_equal _ = false

abbrev pub is_equality : Head → Bool
is_equality (head.Builtin op) = is_equal op
is_equality _ = false

-- what `s = t` is used for: t where it can be, else s
abbrev pub use_of_sides : Bool → List Term → Option Change
use_of_sides true (s ∷ t ∷ []) = or_else (replacement t s) (replacement s t)
use_of_sides _ _ = None

-- what a hypothesis is used for
abbrev pub use_of : Term → Option Change
use_of h = use_of_sides (is_equality (out-Term h).head) (out-Term h).args

abbrev pub one_further : Option Equation → Option Equation
one_further (Some e) = Some (record { place = e.place + 1; changes = e.changes })
one_further None = None

abbrev pub here_or_further : Option Change → Option Equation → Option Equation
here_or_further (Some c) o = Some (record { place = 0; changes = c ∷ [] })
here_or_further None o = one_further o

-- the first hypothesis that can be used
abbrev pub first_usable : List Term → Option Equation
first_usable [] = None
first_usable (h ∷ hs) = here_or_further (use_of h) (first_usable hs)

-- the hypotheses but the one at a place
abbrev pub others : List Term → ℕ → List Term
others hyps place = take place hyps ++ drop (place + 1) hyps

-- the leaf without the hypothesis, its replacement made everywhere
abbrev pub with_used : Equation → Leaf → Leaf
with_used e l = record {
  hyps = map (λ t. term_changed t e.changes) (others l.hyps e.place);
  conclusion = term_changed l.conclusion e.changes;
}

abbrev pub if_usable : Option Equation → Leaf → (Leaf → Leaf) → Leaf
if_usable None l f = l
if_usable (Some e) l f = f (with_used e l)

-- at most n hypotheses used, each time the first that can be
abbrev pub used_up_to : ℕ → Leaf → Leaf
used_up_to zero l = l
used_up_to (suc n) l = if_usable (first_usable l.hyps) l (used_up_to n)

abbrev pub used_up : Leaf → Leaf
used_up l = used_up_to (length l.hyps) l
