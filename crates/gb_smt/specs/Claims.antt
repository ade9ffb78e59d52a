-- The claims of a leaf.
use Rattle.std.specs.Prelude.{ℕ, zero, suc, false, Option, Some, None, List, [], ◌∷◌, length}
use Rattle.gb_terms.specs.declared.term.Term.{Term}
use Rattle.gb_terms.specs.Make.{truth_literal}
use Rattle.gb_smt.specs.declared.leaves.Leaf.{Leaf}
use Rattle.gb_smt.specs.declared.claims.Claim.{Claim}
use Rattle.gb_closing.specs.Linked.{Vars}
use Rattle.gb_equality.specs.Variables.{variables, variables_in}
use Rattle.gb_equality.specs.Components.{inside, outside}

abbrev pub claim_of : List Term → Term → Claim
claim_of hyps t = record { hyps = hyps; conclusion = t; variables = variables_in hyps t }

-- the claim that the hypotheses can't all hold
abbrev pub contradiction : List Term → Claim
contradiction hyps = claim_of hyps (truth_literal false)

abbrev pub contradictions : List Term → List Claim
contradictions [] = []
contradictions (h ∷ hs) = contradiction (h ∷ hs) ∷ []

abbrev pub or_next : Vars → Option Vars → Option Vars
or_next [] o = o
or_next (v ∷ vs) o = Some (v ∷ vs)

-- the variables of the first hypothesis that has some
abbrev pub first_variables : List Term → Option Vars
first_variables [] = None
first_variables (h ∷ hs) = or_next (variables h) (first_variables hs)

abbrev pub component_and : Option Vars → List Term → (List Term → List Claim) → List Claim
component_and None hyps f = contradictions hyps
component_and (Some vs) hyps f = contradiction (inside hyps vs) ∷ f (outside hyps vs)

-- the claims of at most n components of the hypotheses, in the order of their first ones, and of what is left
abbrev pub components : ℕ → List Term → List Claim
components zero hyps = contradictions hyps
components (suc n) hyps = component_and (first_variables hyps) hyps (components n)

abbrev pub components_of : List Term → List Claim
components_of hyps = components (length hyps) hyps

-- the claims of a leaf
abbrev pub claims_of : Leaf → List Claim
claims_of l =
    claim_of (inside l.hyps (variables l.conclusion)) l.conclusion
    ∷ components_of (outside l.hyps (variables l.conclusion))
