-- What is said before two calls of one procedure of an abstract module of what is to hold after both: they give one result, and all that
-- is the module's own is the same after them.
use Rattle.std.specs.Prelude.{ℕ, Bool, true, false, ◌||◌, List, [], ◌∷◌, ◌++◌, length}
use Rattle.gb_core.specs.declared.ty.Ty.TheVariants as ty
use Rattle.gb_core.specs.declared.var.Var.TheVariants.{Glob}
use Rattle.gb_terms.specs.declared.op.Read.TheVariants.{Program}
use Rattle.gb_terms.specs.declared.op.Side.TheVariants.{Left, Right}
use Rattle.gb_terms.specs.declared.term.Head.TheVariants.{Bound}
use Rattle.gb_terms.specs.declared.term.Term.{Term}
use Rattle.gb_terms.specs.Make.{node}
use Rattle.gb_walk.specs.declared.change.Change.TheVariants.{ToTerm}
use Rattle.gb_walk.specs.Change.{Changes, term_changed}
use Rattle.gb_typing.specs.Forms.{implies_form}
use Rattle.gb_prog.specs.AllValues.{Located, for_all, to_bound_values}
use Rattle.gb_call.specs.Outcomes.{Outcome, is_read, outcome_seen, reads_result}
use Rattle.gb_call_both.specs.BothOutcomes.{globals_of, left_side_of, result_of}
use Rattle.gb_adv.specs.declared.returns.Returns.{Returns as Seen}

-- What two calls may change: all that is the module's own, alike; the left sides, by one result; and what their oracles write.
pub record Returns : Type 0 where
  pub owner : List ℕ
  pub left : Outcome
  pub right : Outcome

-- the same, of references
abbrev pub returns_seen : Seen → Returns
returns_seen o = record { owner = o.owner.now; left = outcome_seen o.left; right = outcome_seen o.right }

-- what the oracles write, in each memory
abbrev pub oracle_writes : Returns → List Located
oracle_writes o = globals_of o.left o.right

-- whether one form, or the other, reads what the result goes to
abbrev pub reads_returned : Returns → Term → Term → Bool
reads_returned o i q = reads_result o.left i q || reads_result o.right i q

-- whether a form reads all that is the module's own
abbrev pub reads_owner : List ℕ → Term → Bool
reads_owner a q = is_read Left q (Glob a) || is_read Right q (Glob a)

-- all that is the module's own, where it occurs
abbrev pub owner_of : Bool → List ℕ → List Located
owner_of true a = (Left, record { variable = Glob a; ty = ty.Glob a }) ∷ []
owner_of false a = []

-- what is bound inside of the result
abbrev pub inside_result : Bool → Returns → List Located
inside_result d o = owner_of d o.owner ++ oracle_writes o

-- the values that are meant: one result, where it occurs, one value of what is the module's own, where that occurs, and what oracles write
abbrev pub values : Bool → Bool → Returns → List Located
values b d o = result_of b o.left ++ inside_result d o

-- the result goes to both left sides, where it occurs
abbrev pub result_changes : Bool → Bool → Returns → Changes
result_changes b d o = left_side_of b o.left (length (inside_result d o)) ++ left_side_of b o.right (length (inside_result d o))

-- The left value of all that is a module's own, with so many others bound inside of it, is the right one too, where it occurs.
abbrev pub owner_changes : Bool → List ℕ → ℕ → Changes
owner_changes true a n = ToTerm (Program (Glob a) Right) (node (Bound n) [] (ty.Glob a)) ∷ []
owner_changes false a n = []

-- what is said after the calls, of the bound values
abbrev pub of_returns : Bool → Bool → Returns → Term → Term
of_returns b d o q =
    term_changed q ((result_changes b d o ++ owner_changes d o.owner (length (oracle_writes o))) ++ to_bound_values (inside_result d o))

abbrev pub after_where : Bool → Bool → Returns → Term → Term → Term
after_where b d o i q = for_all (values b d o) (implies_form (term_changed i (to_bound_values (values b d o))) (of_returns b d o q))

-- For each result, each value of all that is the module's own, and all values of what the oracles write, left before right, what is kept
-- leads to what is said after the calls. A quantifier stands only where its variable occurs.
abbrev pub after_calls : Returns → Term → Term → Term
after_calls o i q = after_where (reads_returned o i q) (reads_owner o.owner q) o i q
