-- Leaves that close by equality alone.
use Rattle.std.specs.Prelude.{◌≡◌, ℕ, ◌≤◌, ◌||◌, Bool, true, false, List, [], ◌∷◌}
use Rattle.std.specs.List.{list_any}
use Rattle.gb_terms.specs.declared.op.Op.TheVariants as op
use Rattle.gb_terms.specs.declared.term.Term.{Term, out-Term}
use Rattle.gb_terms.specs.declared.term.Head.{Head}
use Rattle.gb_terms.specs.declared.term.Head.TheVariants as head
use Rattle.gb_goal.specs.Goal.{judges_bodies}
use Rattle.gb_meaning.specs.Truth.{has_module}
use Rattle.gb_equality.specs.Labels.{EqualityValid}
use Rattle.gb_smt.specs.declared.leaves.Leaf.{Leaf}
use Rattle.gb_smt.specs.Equations.{used_up}
use Rattle.gb_smt.specs.Atoms.{atoms_of, IsCount}

-- whether a form with this head quantifies over modules
abbrev pub is_over_modules : Head → Bool
is_over_modules (head.AllModule b) = true
is_over_modules _ = false

-- whether a quantifier over modules in front of the last argument is one of the whole form
abbrev pub goes_on : Head → Bool
goes_on (head.All u) = true
goes_on head.AllMemory = true
goes_on (head.Builtin op.Implies) = true
goes_on _ = false

-- whether one stands in front of the last of these
abbrev pub last_of : List Term → Bool
last_of [] = false
last_of (t ∷ []) = has_module t
last_of (t ∷ (u ∷ ts)) = last_of (u ∷ ts)

-- whether something in a leaf is no form: a quantifier over modules stands in front of a hypothesis or of the conclusion, or the
-- conclusion judges bodies
abbrev pub has_no_form : Leaf → Bool
has_no_form l = list_any has_module l.hyps || (has_module l.conclusion || judges_bodies (out-Term l.conclusion).head)

-- A leaf of forms that, with its equations used up, has at most 20 atoms and is valid by equality.
pub record ClosesByEquality (l : Leaf) : Type 0 where
  pub forms : has_no_form l ≡ false
  pub atoms : ℕ
  pub count : IsCount (atoms_of (used_up l)) atoms
  pub few : atoms ≤ 20
  pub valid : EqualityValid (used_up l).hyps (used_up l).conclusion
