-- Simple terms: those of literals, variables, operators, distributions, and binders of values and of memories.
use Rattle.std.specs.Prelude.{Bool, true, false, ◌&&◌, List, [], ◌∷◌}
use Rattle.std.specs.List.{list_all}
use Rattle.gb_terms.specs.declared.term.Term.{Term, Term', Row_of-Term, end_of-Term, more_of-Term, end_of-Head, more_of-Head}
use Rattle.gb_terms.specs.declared.term.Head.{Head}
use Rattle.gb_terms.specs.declared.term.Head.TheVariants as head

abbrev pub only : List Bool → Bool
only (b ∷ []) = b
only _ = false

abbrev pub both : List Bool → Bool
both (b ∷ c ∷ []) = b && c
both _ = false

-- whether the term of a head is simple, where it is known of the arguments which are
abbrev pub is_simple_at : Head → List Bool → Bool
is_simple_at (head.Lit v) bs = true
is_simple_at (head.Whole n) bs = true
is_simple_at (head.Read r) bs = true
is_simple_at (head.Bound i) bs = true
is_simple_at (head.Builtin o) bs = list_all (λ b. b) bs
is_simple_at (head.User v) bs = list_all (λ b. b) bs
is_simple_at (head.Weights ps) bs = list_all (λ b. b) bs
is_simple_at (head.All ty) bs = only bs
is_simple_at (head.Some ty) bs = only bs
is_simple_at (head.Sum q) bs = only bs
is_simple_at head.AllMemory bs = only bs
is_simple_at head.SomeMemory bs = only bs
is_simple_at head.Mu bs = both bs
is_simple_at head.Map bs = both bs
is_simple_at head.Restrict bs = both bs
is_simple_at _ bs = false

abbrev mutual
  pub is_simple : Term → Bool
  is_simple (Term' p (more_of-Head h end_of-Head) n ts ty) = is_simple_at h (all_simple ts)

  pub all_simple : {n : _} → Row_of-Term n → List Bool
  all_simple end_of-Term = []
  all_simple (more_of-Term t ts) = is_simple t ∷ all_simple ts
