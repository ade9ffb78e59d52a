-- Components one after another.
use Rattle.std.proofs.Common.{◌≡◌, ℕ, zero, suc, ◌+◌, ◌-◌, ◌<◌, ◌≤◌, Some, None, List, [], ◌∷◌, ◌++◌, Bool, false, IsTrue, ◌↔◌, refl, sym, ap, ◌∙◌, append_assoc, arith}
use Rattle.std.proofs.lemmas.Bool.{false≢true}
use Rattle.gb_terms.specs.declared.term.Term.{Term}
use Rattle.gb_smt.specs.declared.claims.Claim.{Claim}
use Rattle.gb_closing.specs.Linked.{Vars}
use Rattle.gb_equality.specs.Components.{inside, outside}
use Rattle.gb_terms.specs.Make.{truth_literal}
use Rattle.gb_smt.specs.Claims.{claim_of, contradiction, contradictions, first_variables, component_and, components}

pub components_some : (n turn : ℕ) (hyps : List Term) (vs : Vars) → turn < n → first_variables hyps ≡ Some vs → components (n - turn) hyps ≡ contradiction (inside hyps vs) ∷ components (n - (turn + 1)) (outside hyps vs)
components_some n turn hyps vs l e =
    let h : n - turn ≡ suc (n - (turn + 1)) = omega arith in
    ap (λ m. components m hyps) h ∙ ap (λ o. component_and o hyps (components (n - (turn + 1)))) e

pub components_none : (n : ℕ) (hyps : List Term) → first_variables hyps ≡ None → components n hyps ≡ contradictions hyps
components_none zero hyps e = refl
components_none (suc n) hyps e = ap (λ o. component_and o hyps (components n)) e

pub components_done : (n turn : ℕ) (hyps : List Term) → n ≤ turn → components (n - turn) hyps ≡ contradictions hyps
components_done n turn hyps l = let h : n - turn ≡ 0 = omega arith in ap (λ m. components m hyps) h

contradictions_some : (hyps : List Term) → (hyps ≡ [] → ⊥) → contradictions hyps ≡ contradiction hyps ∷ []
contradictions_some [] h = absurd (h refl)
contradictions_some (t ∷ ts) h = refl

-- a component added to the claims
pub component_added : (out more : List Claim) (total : List Claim) (n turn : ℕ) (hyps rest chosen : List Term) (vs : Vars) (claim : Claim) → turn < n → first_variables hyps ≡ Some vs → chosen ≡ inside hyps vs → rest ≡ outside hyps vs → claim ≡ contradiction chosen → more ≡ out ++ claim ∷ [] → out ++ components (n - turn) hyps ≡ total → more ++ components (n - (turn + 1)) rest ≡ total
component_added out more total n turn hyps rest chosen vs claim l f i o k m e =
    ap (λ xs. xs ++ components (n - (turn + 1)) rest) m
    ∙ append_assoc out (claim ∷ []) (components (n - (turn + 1)) rest)
    ∙ ap (λ x. out ++ x ∷ components (n - (turn + 1)) rest) (k ∙ ap contradiction i)
    ∙ ap (λ x. out ++ contradiction (inside hyps vs) ∷ components (n - (turn + 1)) x) o
    ∙ ap (λ x. out ++ x) (sym (components_some n turn hyps vs l f))
    ∙ e

not_nil : {X : Type 0} (b : Bool) (xs : List X) → IsTrue b ↔ (xs ≡ []) → b ≡ false → xs ≡ [] → ⊥
not_nil b xs h e q = false≢true (sym e ∙ h.1 q)

-- the claim of the hypotheses that are left, added
pub contradiction_added : (out more : List Claim) (hyps : List Term) (b : Bool) (never : Term) (claim : Claim) → IsTrue b ↔ (hyps ≡ []) → b ≡ false → never ≡ truth_literal false → claim ≡ claim_of hyps never → more ≡ out ++ claim ∷ [] → more ≡ out ++ contradictions hyps
contradiction_added out more hyps b never claim h e n k m =
    m ∙ ap (λ x. out ++ x ∷ []) (k ∙ ap (claim_of hyps) n) ∙ ap (λ x. out ++ x) (sym (contradictions_some hyps (not_nil b hyps h e)))
