-- Equality of values.
use Rattle.std.proofs.Common.{◌↔◌, ◌≡◌, Bool, true, false, List, [], ◌∷◌, refl, ap, sym, ◌∙◌}
use Rattle.std.proofs.lemmas.Bool.{and_from, and_parts}
use Rattle.std.proofs.lemmas.Bool.Decides.{Decides-eqb}
use Rattle.sqlite_items.specs.formers.items.Items.{the_former}
use Rattle.gb_core.specs.declared.value.Value.{Value, Row_of-Value, end_of-Value, more_of-Value, items-the_row-Value, items_shown-the_row-Value-0}
use Rattle.gb_core.specs.declared.value.Value.TheVariants.{Num, Many, Many', rolls-Many}
use Rattle.gb_core.specs.declared.value.Value.TheOpen as v
use Rattle.gb_core.specs.declared.value.Value.TheViews.{out-Value, roll-Value, roll-out-Value}
use Rattle.gb_core.specs.declared.value.Value as X
use Rattle.gb_meaning.specs.Values.{value_eq, values_eq}
use mathlib.Core.Former.{arity, this, Count}

pub row_values : {n : Count} → Row_of-Value n → List Value
row_values end_of-Value = []
row_values (more_of-Value x r) = x ∷ row_values r

items_are : (n : Count) (r : Row_of-Value n) → items-the_row-Value n r ≡ row_values r
unfolding row_values
items_are n end_of-Value = refl
items_are n (more_of-Value x r) = ap (λ z. x ∷ z) (items_are _ r)

out_is : (n : List (Unit {0})) (r : Row_of-Value (arity (the_former (this {0})) n)) → out-Value (Many' n r) ≡ v.Many (items-the_row-Value _ r)
unfolding X.out-Value denote.Hole.Carrier.out
out_is n r = ap v.Many (items_shown-the_row-Value-0 n r)

pub many_is : (n : List (Unit {0})) (r : Row_of-Value (arity (the_former (this {0})) n)) → Many' n r ≡ Many (row_values r)
many_is n r = sym (roll-out-Value (Many' n r)) ∙ ap roll-Value (out_is n r) ∙ rolls-Many (items-the_row-Value _ r) ∙ ap Many (items_are _ r)

mutual
  unfolding row_values

  value_is : (x y : Value) → value_eq x y ≡ true → x ≡ y
  value_is (Num i) (Num j) e = ap Num ((Decides-eqb i j).0 e)
  value_is (Many' m r) (Many' n q) e = many_is m r ∙ ap Many (values_are r q e) ∙ sym (many_is n q)
  value_is (Num i) (Many' n q) e = cc
  value_is (Many' m r) (Num j) e = cc

  values_are : {m n : Count} (r : Row_of-Value m) (q : Row_of-Value n) → values_eq r q ≡ true → row_values r ≡ row_values q
  values_are end_of-Value end_of-Value e = refl
  values_are end_of-Value (more_of-Value y q) e = cc
  values_are (more_of-Value x r) end_of-Value e = cc
  values_are (more_of-Value x r) (more_of-Value y q) e =
      let p = and_parts (value_eq x y) (values_eq r q) e in
      λ i. value_is x y p.0 i ∷ values_are r q p.1 i

mutual
  value_same : (x : Value) → value_eq x x ≡ true
  value_same (Num i) = (Decides-eqb i i).1 refl
  value_same (Many' m r) = values_same r

  values_same : {m : Count} (r : Row_of-Value m) → values_eq r r ≡ true
  values_same end_of-Value = refl
  values_same (more_of-Value x r) = and_from _ _ (value_same x) (values_same r)

pub value_discrete : Discrete Value
value_discrete x y = step (value_eq x y) refl
  where
    step : (b : Bool) → value_eq x y ≡ b → Dec (x ≡ y)
    step true e = yes (value_is x y e)
    step false e = no (λ p. let k : value_eq x y ≡ true = ap (value_eq x) (sym p) ∙ value_same x in cc)

pub value_eq-true : (x y : Value) → (value_eq x y ≡ true) ↔ (x ≡ y)
value_eq-true x y = (value_is x y, λ p. ap (value_eq x) (sym p) ∙ value_same x)
