-- Trees of distributions, and programs that sample from such trees alone: tests of trees, with no word of weights.
use Rattle.std.specs.Prelude.{◌≡◌, ◌<◌, ◌≤◌, Bool, true, false, ◌&&◌, nat_lt, List, [], ◌∷◌}
use Rattle.gb_core.specs.declared.ty.Ty.{Ty}
use Rattle.gb_dist.specs.WeightedList.{total, IsPositive}
use Rattle.gb_terms.specs.declared.op.Op.{Op}
use Rattle.gb_terms.specs.declared.op.Op.TheVariants as op
use Rattle.gb_terms.specs.declared.term.Pair.{Pair}
use Rattle.gb_terms.specs.declared.term.Term.{Term, Term', Row_of-Term, end_of-Term, more_of-Term, end_of-Head, more_of-Head}
use Rattle.gb_terms.specs.declared.term.Head.{Head}
use Rattle.gb_terms.specs.declared.term.Head.TheVariants as head
use Rattle.gb_meaning.specs.Names.{Name}
use Rattle.gb_meaning.specs.Values.{Types, values}
use Rattle.gb_meaning.specs.Program.{Program, Routine}
use Rattle.gb_meaning.specs.Program.Program.{done, assign, sample, branch, loop, call, ask}
use Rattle.gb_meaning.specs.Program.Routine.{routine}
use Rattle.gb_meaning.specs.Setting.{Meaning, Setting}
use Rattle.gb_meaning.specs.Meanings.{weights_in}
use Rattle.gb_meaning.specs.Operators.{outcome_type, is_distribution}

-- Which distributions are meant: whether `drestrict` may stand in them, and which operators of the script give one.
pub record Drawing : Type 0 where
  pub restricts : Bool
  pub operators : Name → Bool

abbrev pub each_weighs : List Pair → Bool
each_weighs [] = true
each_weighs (p ∷ ps) = nat_lt 0 p.weight && each_weighs ps

abbrev pub has_weights : List Pair → Bool
has_weights [] = false
has_weights (p ∷ ps) = each_weighs (p ∷ ps)

-- whether a built-in operator gives a distribution, where it is told which of its arguments are distributions
abbrev pub operator_draws : Types → Op → Ty → List Bool → Bool
operator_draws t op.Coin ty [] = true
operator_draws t op.Uniform ty [] = nat_lt 0 (values t (outcome_type ty)).size
operator_draws t op.Dunit ty (a ∷ []) = true
operator_draws t op.Product ty (a ∷ b ∷ []) = a && b
operator_draws t op.If ty (a ∷ b ∷ c ∷ []) = b && c
operator_draws t _ ty bs = false

abbrev pub first_draws : List Bool → Bool
first_draws (a ∷ b ∷ []) = a
first_draws _ = false

abbrev pub head_draws : Setting → Drawing → Head → Ty → List Bool → Bool
head_draws g d (head.Builtin o) ty bs = operator_draws g.types o ty bs
head_draws g d (head.User n) ty bs = is_distribution ty && d.operators n
head_draws g d (head.Weights ps) ty bs = has_weights ps
head_draws g d head.Map ty bs = first_draws bs
head_draws g d head.Restrict ty bs = d.restricts && first_draws bs
head_draws g d _ ty bs = false

abbrev mutual
  -- whether a tree is that of a distribution
  pub draws : Setting → Drawing → Term → Bool
  draws g d (Term' p (more_of-Head h end_of-Head) n ts ty) = head_draws g d h ty (each_draws g d ts)

  pub each_draws : {n : _} → Setting → Drawing → Row_of-Term n → List Bool
  each_draws g d end_of-Term = []
  each_draws g d (more_of-Term t ts) = draws g d t ∷ each_draws g d ts

abbrev mutual
  -- whether each sampling of a program is from such a tree
  pub program_draws : Setting → Drawing → Program → Bool
  program_draws g d done = true
  program_draws g d (assign xs e c) = program_draws g d c
  program_draws g d (sample x e c) = draws g d e && program_draws g d c
  program_draws g d (branch e a b c) = program_draws g d a && (program_draws g d b && program_draws g d c)
  program_draws g d (loop e v a c) = program_draws g d a && program_draws g d c
  program_draws g d (call xs r es c) = routine_draws g d r && program_draws g d c
  program_draws g d (ask xs o es c) = program_draws g d c

  pub routine_draws : Setting → Drawing → Routine → Bool
  routine_draws g d (routine ps ls c r) = program_draws g d c

-- an operator of the script gives distributions, full ones where nothing restricts
pub record OperatorDraws (g : Setting) (d : Drawing) (n : Name) : Type 0 where
  pub positive : 0 < g.denominator n
  pub entries : (xs : List Meaning) → IsPositive (weights_in (g.operator n xs))
  pub bounded : (xs : List Meaning) → total (weights_in (g.operator n xs)) ≤ g.denominator n
  pub full : d.restricts ≡ false → (xs : List Meaning) → total (weights_in (g.operator n xs)) ≡ g.denominator n

abbrev pub OperatorsDraw : Setting → Drawing → Type 0
OperatorsDraw g d = (n : Name) → d.operators n ≡ true → OperatorDraws g d n
