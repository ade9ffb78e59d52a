-- How many assignments there are to the variables of a claim and to those bound in it.
use Rattle.std.specs.Prelude.{ℕ, Bool, ◌&&◌, if◌then◌else◌, Option, [], ◌∷◌, ◌++◌, length, map}
use Rattle.std.specs.List.{list_all, flat_map}
use Rattle.gb_core.specs.declared.ty.Ty.TheVariants.{Mod, Tuple}
use Rattle.gb_core.specs.declared.value.Card.{Card}
use Rattle.gb_core.specs.declared.value.Card.TheVariants.{Above}
use Rattle.gb_core.specs.Types.{card_of}
use Rattle.gb_terms.specs.declared.term.Term.{Term, Term', Row_of-Term, end_of-Term, more_of-Term, end_of-Head, more_of-Head}
use Rattle.gb_terms.specs.declared.term.Head.{Head}
use Rattle.gb_terms.specs.declared.term.Head.TheVariants as head
use Rattle.gb_meaning.specs.Operators.{outcome_type}
use Rattle.gb_laws.specs.Typing.{types_of}
use Rattle.gb_goal.specs.Scope.{Declarations}
use Rattle.gb_mods.specs.Exclusions.{exclusions}
use Rattle.gb_meaning.specs.Names.{Name}
use Rattle.gb_eval.specs.declared.script.Script.{Script}
use Rattle.gb_eval.specs.Script.{opened}
use Rattle.gb_labels.specs.Reads.{reads_of}
use Rattle.gb_eval.specs.Known.{is_known, known_of}
use Rattle.gb_equality.specs.Sizes.{Tys, of_memory}
use Rattle.gb_smt.specs.declared.claims.Claim.{Claim}
use Rattle.gb_labels.specs.Labels.{Labels}
use Rattle.gb_labels.specs.Things.{most_labels}

-- that of the outcomes of the first of these types, which is of a distribution
abbrev pub of_outcomes : Tys → Tys
of_outcomes [] = []
of_outcomes (d ∷ us) = outcome_type d ∷ []

-- The type of the variable that a head binds, where its arguments have these types. The variable of a sum is a number below
-- its bound. An operator of the script stands for its body.
abbrev pub bound_by : (Name → Tys) → Head → Tys → Tys
bound_by bs (head.User n) us = bs n
bound_by bs (head.All ty) us = ty ∷ []
bound_by bs (head.Some ty) us = ty ∷ []
bound_by bs (head.Sum q) us = Mod q ∷ []
bound_by bs head.Mu us = of_outcomes us
bound_by bs head.Map us = of_outcomes us
bound_by bs head.Restrict us = of_outcomes us
bound_by bs _ us = []

abbrev pub only_reads : {n : _} → Row_of-Term n → Tys
only_reads (more_of-Term t end_of-Term) = map (λ x. x.ty) (reads_of t)
only_reads _ = []

abbrev mutual
  -- the types of the variables that are bound in a term, and of what is read of memories that are bound in it
  pub bound_types : (Name → Tys) → Term → Tys
  bound_types bs (Term' p (more_of-Head h end_of-Head) n ts ty) = bound_by bs h (types_of ts) ++ (of_memory h (only_reads ts) ++ all_bound bs ts)

  pub all_bound : {n : _} → (Name → Tys) → Row_of-Term n → Tys
  all_bound bs end_of-Term = []
  all_bound bs (more_of-Term t ts) = bound_types bs t ++ all_bound bs ts

-- those in the bodies of the operators of a script, as far as these are opened
abbrev pub bound_at : Declarations → ℕ → Name → Tys
bound_at = opened [] bound_types

abbrev pub bound_of : Declarations → Name → Tys
bound_of ds = bound_at ds (length ds)

abbrev pub bound_in : Script → Name → Tys
bound_in s = bound_at s.scope.now s.depth

module _ (ds : Declarations) where
  -- the types of the variables of a claim, and of those bound in it
  abbrev pub types_in : Claim → Tys
  types_in c = map (λ v. v.ty) c.variables ++ (flat_map (bound_types (bound_of ds)) c.hyps ++ bound_types (bound_of ds) c.conclusion)

  -- the product of their sizes
  abbrev pub assignments_of : Claim → Card
  assignments_of c = card_of (Tuple (types_in c))

  -- evaluation knows each part of the claim
  abbrev pub is_known_claim : Claim → Bool
  is_known_claim c = list_all (is_known (known_of ds)) c.hyps && is_known (known_of ds) c.conclusion

  -- the width of a claim: above, where a part of it is opaque to evaluation
  abbrev pub width_of : Claim → Card
  width_of c = if is_known_claim c then assignments_of c else Above

  -- the greatest numbers of labels of a claim
  abbrev pub most_of : Claim → Option Labels
  most_of c = most_labels (exclusions ds) c.hyps c.conclusion
