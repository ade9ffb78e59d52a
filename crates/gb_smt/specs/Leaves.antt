-- The leaves of a goal.
use Rattle.std.specs.Prelude.{◌+◌, ◌==◌, Bool, true, false, ◌||◌, if◌then◌else◌, List, [], ◌∷◌, ◌++◌, length}
use Rattle.std.specs.List.{list_any, flat_map}
use Rattle.gb_core.specs.declared.ty.Ty.{Ty}
use Rattle.gb_core.specs.declared.value.Value.TheVariants.{Num}
use Rattle.gb_terms.specs.declared.op.Op.{Op}
use Rattle.gb_terms.specs.declared.op.Op.TheVariants.{And, Implies}
use Rattle.gb_terms.specs.declared.op.Read.TheVariants.{Logical}
use Rattle.gb_terms.specs.declared.op.Side.TheVariants.{Bound, Memory}
use Rattle.gb_terms.specs.declared.term.Term.{Term, Term', Row_of-Term, end_of-Term, more_of-Term, end_of-Head, more_of-Head, out-Term}
use Rattle.gb_terms.specs.declared.term.Head.{Head}
use Rattle.gb_terms.specs.declared.term.Head.TheVariants as head
use Rattle.gb_terms.specs.declared.term.Head.TheOpen as layer
use Rattle.gb_terms.specs.declared.term.Head.TheFolds.{fold-Term, fold-Head}
use Rattle.gb_terms.specs.Make.{node}
use Rattle.gb_walk.specs.declared.change.Change.TheVariants.{OfBound, ToSide}
use Rattle.gb_walk.specs.Change.{under_binder, term_changed}
use Rattle.gb_goal.specs.declared.sequent.Hyp.{Hyp}
use Rattle.gb_goal.specs.declared.sequent.Sequent.{Sequent}
use Rattle.gb_smt.specs.declared.leaves.Leaf.{Leaf}
use Rattle.gb_smt.specs.declared.leaves.Context.{Context}
use Rattle.gb_smt.specs.declared.leaves.Connective.{Connective}
use Rattle.gb_smt.specs.declared.leaves.Connective.TheVariants.{Implication, Conjunction, Other}

abbrev pub of_operator : Op → Connective
of_operator And = Conjunction
of_operator Implies = Implication
of_operator _ = Other

abbrev pub connective : Head → Connective
connective (head.Builtin op) = of_operator op
connective _ = Other

-- the context with one variable more: the innermost bound thing becomes this variable
abbrev pub with_variable : Context → Ty → Context
with_variable c ty = record {
  logical = c.logical + 1;
  memories = c.memories;
  changes = under_binder c.changes ++ OfBound 0 (node (head.Read (Logical c.logical)) [] ty) ∷ [];
}

-- the context with one memory more
abbrev pub with_memory : Context → Context
with_memory c = record {
  logical = c.logical;
  memories = c.memories + 1;
  changes = under_binder c.changes ++ ToSide (Bound 0) (Memory c.memories) ∷ [];
}

abbrev pub is_true : Head → Bool
is_true (head.Lit (Num n)) = n == 1
is_true _ = false

-- the form, unless it is the literal `true`
abbrev pub unless_true : Term → List Term
unless_true t = if is_true (out-Term t).head then [] else t ∷ []

abbrev pub assumed_by : Connective → List (List Term) → Term → List Term
assumed_by Conjunction (xs ∷ ys ∷ []) t = xs ++ ys
assumed_by _ _ t = unless_true t

-- the hypotheses that a form gives: those of both sides of a conjunction, none for `true`
abbrev mutual
  pub assumed : Term → List Term
  assumed (Term' p (more_of-Head h end_of-Head) n args ty) =
      assumed_by (connective h) (all_assumed args) (Term' p (more_of-Head h end_of-Head) n args ty)

  pub all_assumed : {n : _} → Row_of-Term n → List (List Term)
  all_assumed end_of-Term = []
  all_assumed (more_of-Term t r) = assumed t ∷ all_assumed r

-- an argument, and its leaves in each context and under each hypotheses
pub record Part : Type 0 where
  pub term : Term
  pub leaves : Context → List Term → List Leaf

-- the one leaf of a conclusion that isn't split
abbrev pub whole : Term → Context → List Term → List Leaf
whole t c hyps = record { hyps = hyps; conclusion = term_changed t c.changes } ∷ []

abbrev pub split_one : Head → Part → Term → Context → List Term → List Leaf
split_one (head.All ty) a t c hyps = a.leaves (with_variable c ty) hyps
split_one head.AllMemory a t c hyps = a.leaves (with_memory c) hyps
split_one _ a t c hyps = whole t c hyps

abbrev pub split_two : Connective → Part → Part → Term → Context → List Term → List Leaf
split_two Implication a b t c hyps = b.leaves c (hyps ++ assumed (term_changed a.term c.changes))
split_two Conjunction a b t c hyps = a.leaves c hyps ++ b.leaves c hyps
split_two Other a b t c hyps = whole t c hyps

abbrev pub split_by : Head → List Part → Term → Context → List Term → List Leaf
split_by h (a ∷ []) t c hyps = split_one h a t c hyps
split_by h (a ∷ b ∷ []) t c hyps = split_two (connective h) a b t c hyps
split_by h _ t c hyps = whole t c hyps

-- the leaves of a part of the conclusion
abbrev mutual
  pub split : Term → Context → List Term → List Leaf
  split (Term' p (more_of-Head h end_of-Head) n args ty) =
      split_by h (parts args) (Term' p (more_of-Head h end_of-Head) n args ty)

  pub parts : {n : _} → Row_of-Term n → List Part
  parts end_of-Term = []
  parts (more_of-Term t r) = record { term = t; leaves = split t } ∷ parts r

-- whether a judgment or a probability stands in a term

abbrev pub at_head : layer.Head-F Bool Bool Bool Bool Bool → Bool
at_head (layer.Hoare s) = true
at_head (layer.Phoare s r) = true
at_head (layer.Equiv s t) = true
at_head (layer.Pr p s) = true
at_head _ = false

abbrev pub at_instr : layer.Instr-F Bool Bool Bool Bool Bool → Bool
at_instr _ = false

abbrev pub at_subject : layer.Subject-F Bool Bool Bool Bool Bool → Bool
at_subject _ = false

abbrev pub at_cmd : layer.Cmd-F Bool Bool Bool Bool Bool → Bool
at_cmd _ = false

abbrev pub at_term : layer.Term-F Bool Bool Bool Bool Bool → Bool
at_term t = t.head || list_any (λ b. b) t.args

abbrev pub speaks_of_programs : Term → Bool
speaks_of_programs = fold-Term Bool Bool Bool Bool Bool at_head at_instr at_subject at_cmd at_term

abbrev pub head_speaks_of_programs : Head → Bool
head_speaks_of_programs = fold-Head Bool Bool Bool Bool Bool at_head at_instr at_subject at_cmd at_term

-- a hypothesis of the goal, unless it speaks of programs
abbrev pub assumed_of : Hyp → List Term
assumed_of h = if speaks_of_programs h.form then [] else assumed h.form

-- the context of a goal
abbrev pub context_of : Sequent → Context
context_of goal = record { logical = length goal.logical; memories = length goal.memories; changes = [] }

-- the hypotheses of a goal, and behind them forms that are known besides
abbrev pub hyps_with : List Term → Sequent → List Term
hyps_with known goal = flat_map assumed_of goal.hyps ++ flat_map assumed known

-- the leaves of a goal where these forms are known besides its hypotheses
abbrev pub leaves_of : List Term → Sequent → List Leaf
leaves_of known goal = split goal.conclusion (context_of goal) (hyps_with known goal)
