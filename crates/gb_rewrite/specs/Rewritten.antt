-- Terms with one term in place of another one.
use Rattle.std.specs.Prelude.{Bool, true, false, ◌||◌, if◌then◌else◌, List, [], ◌∷◌, map}
use Rattle.std.specs.List.{list_any}
use Rattle.gb_terms.specs.declared.term.Term.{Term, Term', Row_of-Term, end_of-Term, more_of-Term, end_of-Head, more_of-Head}
use Rattle.gb_terms.specs.Make.{node}
use Rattle.gb_steps.specs.First.{is_quotient}
use Rattle.gb_meaning.specs.Commands.{terms_in}
use Rattle.gb_prog.specs.Same.{is_same}

abbrev mutual
  -- A term with b in place of each a. Divisors stay as they are, and so do the programs of judgments, which stand in heads.
  pub rewritten : Term → Term → Term → Term
  rewritten a b (Term' p (more_of-Head h end_of-Head) n ts ty) =
      if is_same (Term' p (more_of-Head h end_of-Head) n ts ty) a then b else node h (parts_rewritten a b (is_quotient h) ts) ty

  -- it is told whether the first one is divided by others
  pub parts_rewritten : {n : _} → Term → Term → Bool → Row_of-Term n → List Term
  parts_rewritten a b d end_of-Term = []
  parts_rewritten a b true (more_of-Term t ts) = rewritten a b t ∷ terms_in ts
  parts_rewritten a b false (more_of-Term t ts) = rewritten a b t ∷ parts_rewritten a b false ts

abbrev mutual
  -- whether a stands in a term, where another one would take its place
  pub stands : Term → Term → Bool
  stands a (Term' p (more_of-Head h end_of-Head) n ts ty) =
      is_same (Term' p (more_of-Head h end_of-Head) n ts ty) a || stands_in_parts a (is_quotient h) ts

  pub stands_in_parts : {n : _} → Term → Bool → Row_of-Term n → Bool
  stands_in_parts a d end_of-Term = false
  stands_in_parts a true (more_of-Term t ts) = stands a t
  stands_in_parts a false (more_of-Term t ts) = stands a t || stands_in_parts a false ts

-- The same of lists.

abbrev pub first_rewritten : Term → Term → List Term → List Term
first_rewritten a b [] = []
first_rewritten a b (t ∷ ts) = rewritten a b t ∷ ts

abbrev pub list_rewritten : Term → Term → Bool → List Term → List Term
list_rewritten a b true ts = first_rewritten a b ts
list_rewritten a b false ts = map (rewritten a b) ts

abbrev pub stands_first : Term → List Term → Bool
stands_first a [] = false
stands_first a (t ∷ ts) = stands a t

abbrev pub stands_in_list : Term → Bool → List Term → Bool
stands_in_list a true ts = stands_first a ts
stands_in_list a false ts = list_any (stands a) ts
