-- The assignment at a place, variable by variable.
use Rattle.std.proofs.Common.{◌≡◌, ℕ, ◌+◌, ◌*◌, ◌/◌, ◌%◌, ◌^◌, ◌<◌, ◌≤◌, min, true, false, Bool, List, [], ◌∷◌, ◌++◌, length, get_or, map, drop, refl, sym, ap, ◌∙◌, append-nil, append_assoc, arith}
use Rattle.std.proofs.lemmas.Bool.{and_parts}
use Rattle.std.proofs.lemmas.List.{at_drop_more, drop_all}
use Rattle.gb_core.specs.declared.value.Value.{Value}
use Rattle.gb_core.specs.Numbering.{tuple_at, parts_in, parts_of}
use Rattle.gb_core.specs.Types.{IsPlaceBelow, is_finite, numbering, size_of, card_of, value_at}
use Rattle.gb_core.proofs.Equations.{numbering-Tuple}
use Rattle.gb_core.proofs.Lawful.{out-Many}
use Rattle.gb_core.proofs.Steps.{Digit, digit, factors}
use Rattle.gb_eval.specs.declared.env.ReadValue.{ReadValue}
use Rattle.gb_eval.specs.Findings.{Comes}
use Rattle.gb_eval.specs.Findings.Comes.{found}
use Rattle.gb_smt.specs.declared.claims.Claim.{Claim}
use Rattle.gb_closing.specs.declared.linked.Variable.{Variable}
use Rattle.gb_closing.specs.Linked.{Vars}
use Rattle.gb_smt.specs.declared.assign.Found.TheVariants.{False}
use Rattle.gb_goal.specs.Scope.{Declarations}
use Rattle.gb_smt.specs.Assign.{environment_of, assignment, with_values, implied, truth_under, truth_at, found_under}
use Rattle.gb_equality.proofs.Products.{product, are_finite, place_below}

-- the number of assignments to variables, and the values of the one at a place
abbrev pub count : Vars → ℕ
count vs = product (map (λ v. v.ty) vs)

abbrev pub values_at : Vars → ℕ → List Value
values_at vs i = tuple_at (map numbering (map (λ v. v.ty) vs)) i

pub record Step (vs : Vars) (i : ℕ) (v : Variable) (left r size : ℕ) : Type 0 where
  pub digit : Digit (size_of v.ty) (count (drop (i + 1) vs)) r left size
  pub place : IsPlaceBelow (r / (left / size)) (card_of v.ty)
  pub finite : are_finite (map (λ w. w.ty) (drop (i + 1) vs)) ≡ true
  pub pushed : (done all more : List ReadValue) (x : ReadValue) → x ≡ record { read = v.read; value = value_at v.ty (r / (left / size)) } → more ≡ done ++ x ∷ [] →
      done ++ with_values (drop i vs) (values_at (drop i vs) r) ≡ all → more ++ with_values (drop (i + 1) vs) (values_at (drop (i + 1) vs) (r % (left / size))) ≡ all

-- one variable more
pub step : (vs : Vars) (i : ℕ) (v : Variable) (left r size : ℕ) → i < length vs → v ≡ get_or vs i v → left ≡ count (drop i vs) → r < left → left < 2 ^ 63 → are_finite (map (λ w. w.ty) (drop i vs)) ≡ true → size ≡ min (size_of v.ty) (2 ^ 63) → Step vs i v left r size
step vs i v left r size l e p below exact f m =
    let rest = drop (i + 1) vs in
    let here : drop i vs ≡ v ∷ rest = at_drop_more (λ ws. ws) vs i v l ∙ ap (λ w. w ∷ rest) (sym e) in
    let both : left ≡ size_of v.ty * count rest = p ∙ ap count here in
    let d = digit (size_of v.ty) (count rest) r left size both below exact m in
    let parts = factors (size_of v.ty) (count rest) r (omega arith) in
    let finite = and_parts (is_finite v.ty) (are_finite (map (λ w. w.ty) rest)) (sym (ap (λ ws. are_finite (map (λ w. w.ty) ws)) here) ∙ f) in
    let small : size_of v.ty < 2 ^ 63 = omega arith in
    record {
      digit = d;
      place = place_below v.ty (r / (left / size)) finite.0 small d.digit;
      finite = finite.1;
      pushed = λ done all more x is push was.
          ap (λ xs. xs ++ with_values rest (values_at rest (r % (left / size)))) (push ∙ ap (λ y. done ++ y ∷ []) is)
          ∙ append_assoc done (record { read = v.read; value = value_at v.ty (r / (left / size)) } ∷ []) (with_values rest (values_at rest (r % (left / size))))
          ∙ ap (λ n. done ++ record { read = v.read; value = value_at v.ty (r / n) } ∷ with_values rest (values_at rest (r % n))) d.rest
          ∙ sym (ap (λ ws. done ++ with_values ws (values_at ws r)) here)
          ∙ was;
    }

pub values_spent : (reads : List ReadValue) (vs : Vars) (i r : ℕ) → length vs ≤ i → reads ++ with_values (drop i vs) (values_at (drop i vs) r) ≡ reads
values_spent reads vs i r h = ap (λ ws. reads ++ with_values ws (values_at ws r)) (drop_all i vs h) ∙ append-nil reads

-- the values of an assignment
pub assignment_at : (c : Claim) (i : ℕ) → assignment c i ≡ values_at c.variables i
assignment_at c i =
    ap (λ n. parts_of (n.at i)) (numbering-Tuple (map (λ v. v.ty) c.variables)) ∙ ap parts_in (out-Many (values_at c.variables i))

pub values_back : (vs : Vars) (i : ℕ) → map (λ r. r.value) (with_values vs (values_at vs i)) ≡ values_at vs i
values_back [] i = refl
values_back (v ∷ vs) i = ap (λ l. value_at v.ty (i / count vs) ∷ l) (values_back vs (i % count vs))

module _ (ds : Declarations) where
  -- what is found where a claim is false under the assignment at a place
  pub false_at : (c : Claim) (i : ℕ) (vs : Vars) (reads : List ReadValue) (values : List Value) → vs ≡ c.variables → reads ≡ with_values vs (values_at vs i) → implied (environment_of ds reads) c.hyps c.conclusion ≡ found false → values ≡ map (λ r. r.value) reads → False values ≡ found_under (truth_at ds c i) (assignment c i)
  false_at c i vs reads values e p f v =
      let all : reads ≡ with_values c.variables (values_at c.variables i) = p ∙ ap (λ us. with_values us (values_at us i)) e in
      let w : values ≡ assignment c i = v ∙ ap (map (λ r. r.value)) all ∙ values_back c.variables i ∙ sym (assignment_at c i) in
      let u : truth_at ds c i ≡ found false = ap (truth_under ds c) (assignment_at c i) ∙ sym (ap (λ l. implied (environment_of ds l) c.hyps c.conclusion) all) ∙ f in
      ap False w ∙ sym (ap (λ o. found_under o (assignment c i)) u)

  -- what is found there, whatever the truth of the claim
  pub found_there : (c : Claim) (i : ℕ) (vs : Vars) (reads : List ReadValue) (t : Comes Bool) → vs ≡ c.variables → reads ≡ with_values vs (values_at vs i) → implied (environment_of ds reads) c.hyps c.conclusion ≡ t → truth_at ds c i ≡ t
  found_there c i vs reads t e p f =
      let all : reads ≡ with_values c.variables (values_at c.variables i) = p ∙ ap (λ us. with_values us (values_at us i)) e in
      ap (truth_under ds c) (assignment_at c i) ∙ sym (ap (λ l. implied (environment_of ds l) c.hyps c.conclusion) all) ∙ f
