-- The terms that evaluation knows.
use Rattle.std.specs.Prelude.{ℕ, Bool, true, false, ◌&&◌, ◌||◌, ◌==◌, Option, Some, None, List, [], ◌∷◌, length}
use Rattle.std.specs.List.{list_all}
use Rattle.gb_core.specs.declared.ty.Ty.{Ty}
use Rattle.gb_core.specs.Types.{is_finite}
use Rattle.gb_terms.specs.declared.op.Op.{Op}
use Rattle.gb_terms.specs.declared.op.Op.TheVariants as op
use Rattle.gb_terms.specs.declared.op.Side.TheVariants.{Bound}
use Rattle.gb_terms.specs.declared.op.Read.{Read}
use Rattle.gb_terms.specs.declared.op.Read.TheVariants.{Program}
use Rattle.gb_terms.specs.declared.term.Term.{Term, Term', Row_of-Term, end_of-Term, more_of-Term, end_of-Head, more_of-Head}
use Rattle.gb_terms.specs.declared.term.Head.{Head}
use Rattle.gb_terms.specs.declared.term.Head.TheVariants as head
use Rattle.gb_goal.specs.Scope.{Declarations}
use Rattle.gb_meaning.specs.Names.{Name}
use Rattle.gb_meaning.specs.Operators.{is_distribution, outcome_type}
use Rattle.gb_laws.specs.Typing.{types_of}
use Rattle.gb_eval.specs.declared.script.Script.{Script}
use Rattle.gb_eval.specs.Script.{opened}

-- The number of arguments at which evaluation knows an operator. A tuple may have any.
abbrev pub arity : Op → Option ℕ
arity op.None = Some 0
arity op.Empty = Some 0
arity op.Coin = Some 0
arity op.Uniform = Some 0
arity op.Not = Some 1
arity op.Negate = Some 1
arity op.ToReal = Some 1
arity op.Abs = Some 1
arity (op.Part i) = Some 1
arity op.Some = Some 1
arity op.Oget = Some 1
arity op.Dunit = Some 1
arity op.If = Some 3
arity op.Set = Some 3
arity op.Tuple = None
arity _ = Some 2

abbrev pub is_arity : Option ℕ → ℕ → Bool
is_arity None n = false
is_arity (Some k) n = n == k

abbrev pub is_tuple : Op → Bool
is_tuple op.Tuple = true
is_tuple _ = false

-- an operator that evaluation knows, at its number of arguments
abbrev pub takes : Op → ℕ → Bool
takes o n = is_tuple o || is_arity (arity o) n

abbrev pub has_finite_outcomes : Ty → Bool
has_finite_outcomes d = is_distribution d && is_finite (outcome_type d)

-- a distribution over a finite type, and what is said of its outcomes
abbrev pub are_of_outcomes : List Ty → Bool
are_of_outcomes (d ∷ a ∷ []) = has_finite_outcomes d
are_of_outcomes _ = false

-- a read of a memory that a binder binds is known where its type is finite
abbrev pub is_read_known : Read → Ty → Bool
is_read_known (Program x (Bound i)) ty = is_finite ty
is_read_known _ ty = true

-- the value of an option is known where its type is finite
abbrev pub is_result_known : Op → Ty → Bool
is_result_known op.Oget ty = is_finite ty
is_result_known _ ty = true

-- whether evaluation knows a head of a type at arguments of these types, by whether it knows the operators of the script
abbrev pub is_head_known : (Name → Bool) → Head → Ty → List Ty → Bool
is_head_known ks (head.Lit v) ty us = length us == 0
is_head_known ks (head.Whole k) ty us = length us == 0
is_head_known ks (head.Bound i) ty us = length us == 0
is_head_known ks (head.Read r) ty us = (length us == 0) && is_read_known r ty
is_head_known ks (head.Builtin o) ty us = takes o (length us) && is_result_known o ty
is_head_known ks (head.User n) ty us = ks n
is_head_known ks (head.All u) ty us = (length us == 1) && is_finite u
is_head_known ks (head.Some u) ty us = (length us == 1) && is_finite u
is_head_known ks (head.Sum q) ty us = length us == 1
is_head_known ks head.AllMemory ty us = length us == 1
is_head_known ks head.SomeMemory ty us = length us == 1
is_head_known ks (head.Weights ps) ty us = length us == 0
is_head_known ks head.Mu ty us = are_of_outcomes us
is_head_known ks head.Map ty us = are_of_outcomes us
is_head_known ks head.Restrict ty us = are_of_outcomes us
is_head_known ks _ ty us = false

abbrev pub are_true : List Bool → Bool
are_true bs = list_all (λ b. b) bs

-- evaluation knows each part of the term
abbrev mutual
  pub is_known : (Name → Bool) → Term → Bool
  is_known ks (Term' p (more_of-Head h end_of-Head) n ts ty) = is_head_known ks h ty (types_of ts) && are_true (all_known ks ts)

  pub all_known : {n : _} → (Name → Bool) → Row_of-Term n → List Bool
  all_known ks end_of-Term = []
  all_known ks (more_of-Term t ts) = is_known ks t ∷ all_known ks ts

-- the operators of a script that evaluation knows, as far as they are opened: those with bodies that it knows
abbrev pub known_at : Declarations → ℕ → Name → Bool
known_at = opened false is_known

abbrev pub known_of : Declarations → Name → Bool
known_of ds = known_at ds (length ds)

abbrev pub known_in : Script → Name → Bool
known_in s = known_at s.scope.now s.depth
