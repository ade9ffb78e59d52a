-- What forms mean, head by head.
use Rattle.std.proofs.Common.{◌≡◌, ◌⊎◌, inl, inr, ℕ, List, [], ◌∷◌, length, Option, Some, None, refl, ap, ◌∙◌}
use Rattle.gb_core.specs.declared.place.Place.{Place}
use Rattle.gb_core.specs.declared.refusal.Why.TheVariants.{TypeMismatch}
use Rattle.gb_core.specs.declared.ty.Ty.{Ty}
use Rattle.gb_core.specs.declared.ty.Ty.TheVariants.{Bool as bool_ty, Real as real_ty}
use Rattle.gb_names.specs.declared.bindings.Binding.{Binding}
use Rattle.gb_terms.specs.declared.op.Rel.{Rel}
use Rattle.gb_terms.specs.declared.term.Term.{Term}
use Rattle.gb_script.specs.declared.head.Head.{Head}
use Rattle.gb_script.specs.declared.head.Head.TheVariants as head
use Rattle.gb_script.specs.declared.tree.Node.{Node}
use Rattle.gb_goal.specs.Answers.{Answer, ◌>>=◌}
use Rattle.gb_goal.specs.Answers.Answer.{given, refused}
use Rattle.gb_names.specs.Allowed.{coin, judgment}
use Rattle.gb_names.specs.Environment.{Environment}
use Rattle.gb_names.specs.Judgments.{Named, both_procedures, one_procedure, before, after, equivalent}
use Rattle.gb_names.specs.Names.{path, unit}
use Rattle.gb_names.specs.Wanted.{wanted}
use Rattle.gb_names.proofs.Answers.{leads_on}
use Rattle.gb_operators.specs.declared.rules.Rule.TheVariants as rule
use Rattle.gb_operators.specs.Drawn.{uniform}
use Rattle.gb_operators.specs.Literals.{numeral}
use Rattle.gb_operators.specs.Operators.{operator_of}
use Rattle.gb_weights.specs.Weights.{weights}
use Rattle.gb_elab.specs.declared.contract.Contract.{Contract}
use Rattle.gb_elab.specs.OneProcedure.{after_one, around, before_one, lossless, relation, with_chance}
use Rattle.gb_elab.specs.Equalities.{equalities}
use Rattle.gb_elab.specs.Globs.{bare_glob, both_whole, whole_alone}
use Rattle.gb_elab.specs.Forms.{Part, annotated, applied_form, bounded, bracketed, by_rule, comparing, contract, contract_of, contracting, elaborated, equivalence, hoare, operation, probability, projection, quantified, simple, typing, with_meanings, with_side}
use Rattle.gb_elab.proofs.Elaborated.{bare_meanings, length_meanings}

module _ (h : Head) (x : List ℕ) (ts : List Node) (p : Place) (at : Environment) (bound : List Binding) (w : Option Ty) where
  abbrev pub meaning : Answer Term
  meaning = typing h x (with_meanings ts) p at bound w

  at_head : (k : Head) → h ≡ k → meaning ≡ typing k x (with_meanings ts) p at bound w
  at_head k e = ap (λ z. typing z x (with_meanings ts) p at bound w) e

  pub name_is : h ≡ head.Name → meaning ≡ simple x p at bound w
  unfolding typing
  name_is e = at_head head.Name e

  pub number_is : h ≡ head.Number → meaning ≡ numeral at x w p
  unfolding typing
  number_is e = at_head head.Number e

  pub unit_is : h ≡ head.Unit → meaning ≡ wanted w p unit
  unfolding typing
  unit_is e = at_head head.Unit e

  pub bracketed_is : h ≡ head.Bracketed → meaning ≡ bracketed (with_meanings ts) p at bound w
  unfolding typing
  bracketed_is e = at_head head.Bracketed e

  pub coin_is : h ≡ head.Coin → meaning ≡ coin at w p
  unfolding typing
  coin_is e = at_head head.Coin e

  pub typed_is : h ≡ head.Typed → meaning ≡ annotated (with_meanings ts) p at bound w
  unfolding typing
  typed_is e = at_head head.Typed e

  pub component_is : h ≡ head.Component → meaning ≡ projection (with_meanings ts) p at bound w
  unfolding typing
  component_is e = at_head head.Component e

  pub conditional_is : h ≡ head.Conditional → meaning ≡ by_rule rule.If (with_meanings ts) p at bound w
  unfolding typing
  conditional_is e = at_head head.Conditional e

  pub chosen_is : h ≡ head.Chosen → meaning ≡ by_rule rule.If (with_meanings ts) p at bound w
  unfolding typing
  chosen_is e = at_head head.Chosen e

  pub get_is : h ≡ head.Get → meaning ≡ by_rule rule.Get (with_meanings ts) p at bound w
  unfolding typing
  get_is e = at_head head.Get e

  pub set_is : h ≡ head.Set → meaning ≡ by_rule rule.Set (with_meanings ts) p at bound w
  unfolding typing
  set_is e = at_head head.Set e

  pub product_is : h ≡ head.PowerProduct → meaning ≡ by_rule rule.Product (with_meanings ts) p at bound w
  unfolding typing
  product_is e = at_head head.PowerProduct e

  pub apply_is : h ≡ head.Apply → meaning ≡ applied_form (with_meanings ts) p at bound w
  unfolding typing
  apply_is e = at_head head.Apply e

  pub quantified_is : h ≡ head.Quantified → meaning ≡ quantified x (with_meanings ts) p at bound w
  unfolding typing
  quantified_is e = at_head head.Quantified e

  pub equiv_is : h ≡ head.Equiv → meaning ≡ equivalence (with_meanings ts) p at bound w
  unfolding typing
  equiv_is e = at_head head.Equiv e

  pub hoare_is : h ≡ head.Hoare → meaning ≡ hoare (with_meanings ts) p at bound w
  unfolding typing
  hoare_is e = at_head head.Hoare e

  pub phoare_is : h ≡ head.Phoare → meaning ≡ (judgment at w p >>= λ _. refused TypeMismatch p)
  unfolding typing
  phoare_is e = at_head head.Phoare e

  pub bounded_is : h ≡ head.Bounded → meaning ≡ bounded x (with_meanings ts) p at bound w
  unfolding typing
  bounded_is e = at_head head.Bounded e

  pub lossless_is : h ≡ head.Lossless → meaning ≡ (judgment at w p >>= λ _. lossless at bound ts p)
  unfolding typing
  lossless_is e = at_head head.Lossless e ∙ ap (λ us. judgment at w p >>= λ _. lossless at bound us p) (bare_meanings ts)

  pub probability_is : h ≡ head.Probability → meaning ≡ probability (with_meanings ts) p at bound w
  unfolding typing
  probability_is e = at_head head.Probability e

  pub path_is : h ≡ head.Path → meaning ≡ simple (path ts) p at bound w
  unfolding typing
  path_is e = at_head head.Path e ∙ ap (λ us. simple (path us) p at bound w) (bare_meanings ts)

  pub tuple_is : h ≡ head.Tuple → meaning ≡ by_rule (rule.Tuple (length ts)) (with_meanings ts) p at bound w
  unfolding typing
  tuple_is e = at_head head.Tuple e ∙ ap (λ n. by_rule (rule.Tuple n) (with_meanings ts) p at bound w) (length_meanings ts)

  pub uniform_is : h ≡ head.Uniform → meaning ≡ uniform ts p at w
  unfolding typing
  uniform_is e = at_head head.Uniform e ∙ ap (λ us. uniform us p at w) (bare_meanings ts)

  pub weights_is : h ≡ head.Weights → meaning ≡ weights ts p at bound w
  unfolding typing
  weights_is e = at_head head.Weights e ∙ ap (λ us. weights us p at bound w) (bare_meanings ts)

  pub function_is : (h ≡ head.Function) ⊎ (h ≡ head.TypedFunction) → meaning ≡ refused TypeMismatch p
  unfolding typing
  function_is (inl e) = at_head head.Function e
  function_is (inr e) = at_head head.TypedFunction e

  pub branches_is : (h ≡ head.Conditional) ⊎ (h ≡ head.Chosen) → meaning ≡ by_rule rule.If (with_meanings ts) p at bound w
  branches_is (inl e) = conditional_is e
  branches_is (inr e) = chosen_is e

  pub equalities_is : h ≡ head.Equalities → meaning ≡ equalities at bound ts w p
  unfolding typing
  equalities_is e = at_head head.Equalities e ∙ ap (λ us. equalities at bound us w p) (bare_meanings ts)

  pub glob_is : h ≡ head.Glob → meaning ≡ (whole_alone at bound (bare_glob ts None p) p >>= wanted w p)
  unfolding typing
  glob_is e = at_head head.Glob e ∙ ap (λ us. whole_alone at bound (bare_glob us None p) p >>= wanted w p) (bare_meanings ts)

  pub compared_is : h ≡ head.Compared → meaning ≡ comparing (both_whole x ts) x (with_meanings ts) p at bound w
  unfolding typing
  compared_is e = at_head head.Compared e ∙ ap (λ us. comparing (both_whole x us) x (with_meanings ts) p at bound w) (bare_meanings ts)

  pub sided_is : h ≡ head.Sided → meaning ≡ with_side ts p at bound w
  unfolding typing
  sided_is e = at_head head.Sided e ∙ ap (λ us. with_side us p at bound w) (bare_meanings ts)

-- an equivalence with its precondition
pub equivalence_is : (f g a b : Node) (p : Place) (at : Environment) (bound : List Binding) (w : Option Ty) (x : Unit {0}) (m : Named × Named) (pre : Term)
    → judgment at w p ≡ given x → both_procedures at bound f g p ≡ given m → elaborated a (before at m.0.1 m.1.1) bound (Some bool_ty) ≡ given pre
    → equivalence (with_meanings (f ∷ g ∷ a ∷ b ∷ [])) p at bound w
    ≡ (elaborated b (after at m.0.1 m.1.1) bound (Some bool_ty) >>= λ post. given (equivalent m.0.0 m.1.0 pre post))
equivalence_is f g a b p at bound w x m pre h k e =
    let on_post = λ (both : Named × Named) (pre : Term). elaborated b (after at both.0.1 both.1.1) bound (Some bool_ty) >>= λ post. given (equivalent both.0.0 both.1.0 pre post) in
    let on_pre = λ (both : Named × Named). elaborated a (before at both.0.1 both.1.1) bound (Some bool_ty) >>= λ pre. on_post both pre in
    leads_on (judgment at w p) (λ _. both_procedures at bound f g p >>= on_pre) x h
    ∙ (leads_on (both_procedures at bound f g p) on_pre m k ∙ leads_on (elaborated a (before at m.0.1 m.1.1) bound (Some bool_ty)) (on_post m) pre e)

-- a contract with its precondition
pub contract_is : (f a b : Node) (p : Place) (at : Environment) (bound : List Binding) (m : Named) (pre : Term)
    → one_procedure at bound f p ≡ given m → elaborated a (before_one at m.1) bound (Some bool_ty) ≡ given pre
    → contract (with_meanings (f ∷ a ∷ b ∷ [])) p at bound
    ≡ (elaborated b (after_one at m.1) bound (Some bool_ty) >>= λ post. given (record { procedure = m.0; pre = pre; post = post }))
contract_is f a b p at bound m pre k e =
    let on_post = λ (m : Named) (pre : Term). elaborated b (after_one at m.1) bound (Some bool_ty) >>= λ post. given (record { procedure = m.0; pre = pre; post = post }) in
    leads_on (one_procedure at bound f p) (λ m. elaborated a (before_one at m.1) bound (Some bool_ty) >>= λ pre. on_post m pre) m k
    ∙ leads_on (elaborated a (before_one at m.1) bound (Some bool_ty)) (on_post m) pre e

-- a judgment with its relation and what it says but for its bound
pub bounded_is_by : (x : List ℕ) (a r : Node) (p : Place) (at : Environment) (bound : List Binding) (w : Option Ty) (y : Unit {0}) (s : Rel) (c : Contract)
    → judgment at w p ≡ given y → relation x p ≡ given s → contract_of a at bound ≡ given c
    → bounded x (with_meanings (a ∷ r ∷ [])) p at bound w ≡ (elaborated r (around at) bound (Some real_ty) >>= λ b. given (with_chance c s b))
bounded_is_by x a r p at bound w y s c h k e =
    let on_bound = λ (s : Rel) (c : Contract). elaborated r (around at) bound (Some real_ty) >>= λ b. given (with_chance c s b) in
    let on_contract = λ (s : Rel). contract_of a at bound >>= λ c. on_bound s c in
    leads_on (judgment at w p) (λ _. relation x p >>= on_contract) y h
    ∙ (leads_on (relation x p) on_contract s k ∙ leads_on (contract_of a at bound) (on_bound s) c e)

-- a form of another head is no judgment that needs a bound
pub other_contract : (k : Head) (ts : List Part) (p : Place) (at : Environment) (bound : List Binding) → (k ≡ head.Phoare → ⊥) → contracting k ts p at bound ≡ refused TypeMismatch p
other_contract head.Phoare ts p at bound n = absurd (n refl)
other_contract _ ts p at bound n = refl

-- a form of another head is one that an operator makes, or isn't built
pub other_form : (k : Head) (x : List ℕ) (ts : List Part) (p : Place) (at : Environment) (bound : List Binding) (w : Option Ty)
    → (k ≡ head.Name → ⊥) → (k ≡ head.Path → ⊥) → (k ≡ head.Number → ⊥) → (k ≡ head.Unit → ⊥) → (k ≡ head.Bracketed → ⊥) → (k ≡ head.Sided → ⊥) → (k ≡ head.Coin → ⊥) → (k ≡ head.Function → ⊥) → (k ≡ head.TypedFunction → ⊥) → (k ≡ head.Typed → ⊥) → (k ≡ head.Tuple → ⊥) → (k ≡ head.Component → ⊥) → (k ≡ head.Conditional → ⊥) → (k ≡ head.Chosen → ⊥) → (k ≡ head.Get → ⊥) → (k ≡ head.Set → ⊥) → (k ≡ head.PowerProduct → ⊥) → (k ≡ head.Uniform → ⊥) → (k ≡ head.Weights → ⊥) → (k ≡ head.Apply → ⊥) → (k ≡ head.Equalities → ⊥) → (k ≡ head.Glob → ⊥) → (k ≡ head.Compared → ⊥) → (k ≡ head.Quantified → ⊥) → (k ≡ head.Equiv → ⊥) → (k ≡ head.Hoare → ⊥) → (k ≡ head.Phoare → ⊥) → (k ≡ head.Bounded → ⊥) → (k ≡ head.Lossless → ⊥) → (k ≡ head.Probability → ⊥)
    → typing k x ts p at bound w ≡ operation (operator_of k x) ts p at bound w
unfolding typing
other_form head.Name x ts p at bound w n0 n1 n2 n3 n4 n5 n6 n7 n8 n9 n10 n11 n12 n13 n14 n15 n16 n17 n18 n19 n20 n21 n22 n23 n24 n25 n26 n27 n28 n29 = absurd (n0 refl)
other_form head.Path x ts p at bound w n0 n1 n2 n3 n4 n5 n6 n7 n8 n9 n10 n11 n12 n13 n14 n15 n16 n17 n18 n19 n20 n21 n22 n23 n24 n25 n26 n27 n28 n29 = absurd (n1 refl)
other_form head.Number x ts p at bound w n0 n1 n2 n3 n4 n5 n6 n7 n8 n9 n10 n11 n12 n13 n14 n15 n16 n17 n18 n19 n20 n21 n22 n23 n24 n25 n26 n27 n28 n29 = absurd (n2 refl)
other_form head.Unit x ts p at bound w n0 n1 n2 n3 n4 n5 n6 n7 n8 n9 n10 n11 n12 n13 n14 n15 n16 n17 n18 n19 n20 n21 n22 n23 n24 n25 n26 n27 n28 n29 = absurd (n3 refl)
other_form head.Bracketed x ts p at bound w n0 n1 n2 n3 n4 n5 n6 n7 n8 n9 n10 n11 n12 n13 n14 n15 n16 n17 n18 n19 n20 n21 n22 n23 n24 n25 n26 n27 n28 n29 = absurd (n4 refl)
other_form head.Sided x ts p at bound w n0 n1 n2 n3 n4 n5 n6 n7 n8 n9 n10 n11 n12 n13 n14 n15 n16 n17 n18 n19 n20 n21 n22 n23 n24 n25 n26 n27 n28 n29 = absurd (n5 refl)
other_form head.Coin x ts p at bound w n0 n1 n2 n3 n4 n5 n6 n7 n8 n9 n10 n11 n12 n13 n14 n15 n16 n17 n18 n19 n20 n21 n22 n23 n24 n25 n26 n27 n28 n29 = absurd (n6 refl)
other_form head.Function x ts p at bound w n0 n1 n2 n3 n4 n5 n6 n7 n8 n9 n10 n11 n12 n13 n14 n15 n16 n17 n18 n19 n20 n21 n22 n23 n24 n25 n26 n27 n28 n29 = absurd (n7 refl)
other_form head.TypedFunction x ts p at bound w n0 n1 n2 n3 n4 n5 n6 n7 n8 n9 n10 n11 n12 n13 n14 n15 n16 n17 n18 n19 n20 n21 n22 n23 n24 n25 n26 n27 n28 n29 = absurd (n8 refl)
other_form head.Typed x ts p at bound w n0 n1 n2 n3 n4 n5 n6 n7 n8 n9 n10 n11 n12 n13 n14 n15 n16 n17 n18 n19 n20 n21 n22 n23 n24 n25 n26 n27 n28 n29 = absurd (n9 refl)
other_form head.Tuple x ts p at bound w n0 n1 n2 n3 n4 n5 n6 n7 n8 n9 n10 n11 n12 n13 n14 n15 n16 n17 n18 n19 n20 n21 n22 n23 n24 n25 n26 n27 n28 n29 = absurd (n10 refl)
other_form head.Component x ts p at bound w n0 n1 n2 n3 n4 n5 n6 n7 n8 n9 n10 n11 n12 n13 n14 n15 n16 n17 n18 n19 n20 n21 n22 n23 n24 n25 n26 n27 n28 n29 = absurd (n11 refl)
other_form head.Conditional x ts p at bound w n0 n1 n2 n3 n4 n5 n6 n7 n8 n9 n10 n11 n12 n13 n14 n15 n16 n17 n18 n19 n20 n21 n22 n23 n24 n25 n26 n27 n28 n29 = absurd (n12 refl)
other_form head.Chosen x ts p at bound w n0 n1 n2 n3 n4 n5 n6 n7 n8 n9 n10 n11 n12 n13 n14 n15 n16 n17 n18 n19 n20 n21 n22 n23 n24 n25 n26 n27 n28 n29 = absurd (n13 refl)
other_form head.Get x ts p at bound w n0 n1 n2 n3 n4 n5 n6 n7 n8 n9 n10 n11 n12 n13 n14 n15 n16 n17 n18 n19 n20 n21 n22 n23 n24 n25 n26 n27 n28 n29 = absurd (n14 refl)
other_form head.Set x ts p at bound w n0 n1 n2 n3 n4 n5 n6 n7 n8 n9 n10 n11 n12 n13 n14 n15 n16 n17 n18 n19 n20 n21 n22 n23 n24 n25 n26 n27 n28 n29 = absurd (n15 refl)
other_form head.PowerProduct x ts p at bound w n0 n1 n2 n3 n4 n5 n6 n7 n8 n9 n10 n11 n12 n13 n14 n15 n16 n17 n18 n19 n20 n21 n22 n23 n24 n25 n26 n27 n28 n29 = absurd (n16 refl)
other_form head.Uniform x ts p at bound w n0 n1 n2 n3 n4 n5 n6 n7 n8 n9 n10 n11 n12 n13 n14 n15 n16 n17 n18 n19 n20 n21 n22 n23 n24 n25 n26 n27 n28 n29 = absurd (n17 refl)
other_form head.Weights x ts p at bound w n0 n1 n2 n3 n4 n5 n6 n7 n8 n9 n10 n11 n12 n13 n14 n15 n16 n17 n18 n19 n20 n21 n22 n23 n24 n25 n26 n27 n28 n29 = absurd (n18 refl)
other_form head.Apply x ts p at bound w n0 n1 n2 n3 n4 n5 n6 n7 n8 n9 n10 n11 n12 n13 n14 n15 n16 n17 n18 n19 n20 n21 n22 n23 n24 n25 n26 n27 n28 n29 = absurd (n19 refl)
other_form head.Equalities x ts p at bound w n0 n1 n2 n3 n4 n5 n6 n7 n8 n9 n10 n11 n12 n13 n14 n15 n16 n17 n18 n19 n20 n21 n22 n23 n24 n25 n26 n27 n28 n29 = absurd (n20 refl)
other_form head.Glob x ts p at bound w n0 n1 n2 n3 n4 n5 n6 n7 n8 n9 n10 n11 n12 n13 n14 n15 n16 n17 n18 n19 n20 n21 n22 n23 n24 n25 n26 n27 n28 n29 = absurd (n21 refl)
other_form head.Compared x ts p at bound w n0 n1 n2 n3 n4 n5 n6 n7 n8 n9 n10 n11 n12 n13 n14 n15 n16 n17 n18 n19 n20 n21 n22 n23 n24 n25 n26 n27 n28 n29 = absurd (n22 refl)
other_form head.Quantified x ts p at bound w n0 n1 n2 n3 n4 n5 n6 n7 n8 n9 n10 n11 n12 n13 n14 n15 n16 n17 n18 n19 n20 n21 n22 n23 n24 n25 n26 n27 n28 n29 = absurd (n23 refl)
other_form head.Equiv x ts p at bound w n0 n1 n2 n3 n4 n5 n6 n7 n8 n9 n10 n11 n12 n13 n14 n15 n16 n17 n18 n19 n20 n21 n22 n23 n24 n25 n26 n27 n28 n29 = absurd (n24 refl)
other_form head.Hoare x ts p at bound w n0 n1 n2 n3 n4 n5 n6 n7 n8 n9 n10 n11 n12 n13 n14 n15 n16 n17 n18 n19 n20 n21 n22 n23 n24 n25 n26 n27 n28 n29 = absurd (n25 refl)
other_form head.Phoare x ts p at bound w n0 n1 n2 n3 n4 n5 n6 n7 n8 n9 n10 n11 n12 n13 n14 n15 n16 n17 n18 n19 n20 n21 n22 n23 n24 n25 n26 n27 n28 n29 = absurd (n26 refl)
other_form head.Bounded x ts p at bound w n0 n1 n2 n3 n4 n5 n6 n7 n8 n9 n10 n11 n12 n13 n14 n15 n16 n17 n18 n19 n20 n21 n22 n23 n24 n25 n26 n27 n28 n29 = absurd (n27 refl)
other_form head.Lossless x ts p at bound w n0 n1 n2 n3 n4 n5 n6 n7 n8 n9 n10 n11 n12 n13 n14 n15 n16 n17 n18 n19 n20 n21 n22 n23 n24 n25 n26 n27 n28 n29 = absurd (n28 refl)
other_form head.Probability x ts p at bound w n0 n1 n2 n3 n4 n5 n6 n7 n8 n9 n10 n11 n12 n13 n14 n15 n16 n17 n18 n19 n20 n21 n22 n23 n24 n25 n26 n27 n28 n29 = absurd (n29 refl)
other_form _ x ts p at bound w n0 n1 n2 n3 n4 n5 n6 n7 n8 n9 n10 n11 n12 n13 n14 n15 n16 n17 n18 n19 n20 n21 n22 n23 n24 n25 n26 n27 n28 n29 = refl
