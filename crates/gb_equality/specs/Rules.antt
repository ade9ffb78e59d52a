-- What the labels of a form and of its arguments imply.
use Rattle.std.specs.Prelude.{◌≡◌, ◌≢◌, ◌⊎◌, ℕ, ◌<◌, Bool, true, false, Some}
use Rattle.gb_terms.specs.Make.{bit}
use Rattle.gb_equality.specs.declared.connectives.Connective.{Connective}
use Rattle.gb_equality.specs.declared.rules.Equation.{Equation}
use Rattle.gb_equality.specs.Connectives.{truth, is_over_forms, by_table}

-- a truth may have this label
abbrev pub Fits : ℕ → Bool → Type 0
Fits l p = l < 2 → l ≡ bit p

-- some truths that may have the labels are as a table says
pub record IsPossible (c : Connective) (own left right : ℕ) : Type 0 where
  pub first : Bool
  pub second : Bool
  pub first_fits : Fits left first
  pub second_fits : Fits right second
  pub own_fits : Fits own (truth c first second)

-- the label, which isn't that of a truth, has to be one of a truth: that which isn't ruled out
pub record IsForced (label : ℕ) (may_be_false may_be_true : Bool) (e : Equation) : Type 0 where
  pub free : 1 < label
  pub left : e.left ≡ label
  pub right : ((e.right ≡ 1) × (may_be_false ≡ false)) ⊎ ((e.right ≡ 0) × (may_be_true ≡ false))

-- What becomes of labels is as the table says: the arguments of a connective are true or false, and so is the form.
pub record IsRead (c : Connective) (own left right : ℕ) (read : ℕ → ℕ) : Type 0 where
  pub falsity : read 0 ≡ 0
  pub truth : read 1 ≡ 1
  pub own_truth : read own < 2
  pub left_truth : is_over_forms c ≡ true → read left < 2
  pub right_truth : is_over_forms c ≡ true → read right < 2
  pub table : by_table c (read left) (read right) ≡ Some (read own)

-- the label of a truth, or one of these
abbrev pub IsOneOf : ℕ → ℕ → ℕ → ℕ → Type 0
IsOneOf own left right l = (l < 2) ⊎ ((l ≡ own) ⊎ ((l ≡ left) ⊎ (l ≡ right)))

-- two labels that have to be one, where the table says something
pub record IsImplied (c : Connective) (own left right : ℕ) (e : Equation) : Type 0 where
  pub known : (l m : ℕ) → (n : ℕ) × (by_table c l m ≡ Some n)
  pub apart : e.left ≢ e.right
  pub first : IsOneOf own left right e.left
  pub second : IsOneOf own left right e.right
  pub joined : (read : ℕ → ℕ) → IsRead c own left right read → read e.left ≡ read e.right

-- the labels are as the table says, if the forms among them are true or false
abbrev pub IsComplete : Connective → ℕ → ℕ → ℕ → Type 0
IsComplete c own left right =
    own < 2 → (is_over_forms c ≡ true → left < 2) → (is_over_forms c ≡ true → right < 2) → (l : ℕ) → by_table c left right ≡ Some l → own ≡ l

-- Two labels that have to be one by an equation, which has the label `same` where its sides have one label: those of its sides, or
-- its own and this one.
abbrev pub IsEquated : ℕ → ℕ → ℕ → ℕ → Equation → Type 0
IsEquated same own left right e =
    ((own ≡ same) × (left ≢ right) × (e.left ≡ left) × (e.right ≡ right)) ⊎ ((left ≡ right) × (own ≢ same) × (e.left ≡ own) × (e.right ≡ same))

-- its own label says whether those of its sides are one
abbrev pub IsEven : ℕ → ℕ → ℕ → ℕ → Type 0
IsEven same own left right = (own ≡ same → left ≡ right) × (left ≡ right → own ≡ same)
