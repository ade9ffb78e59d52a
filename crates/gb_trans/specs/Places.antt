-- Statements at places of bodies.
use Rattle.std.specs.Prelude.{ℕ, ◌-◌, nat_lt, if◌then◌else◌, List, [], ◌∷◌, length, take, drop, Option, Some, None}
use Rattle.gb_core.specs.declared.refusal.Why.TheVariants.{Argument}
use Rattle.gb_goal.specs.Answers.{Answer}
use Rattle.gb_goal.specs.Rows.{refusing}
use Rattle.gb_terms.specs.declared.term.Instr.{Instr}
use Rattle.gb_trans.specs.declared.places.Placed.{Placed}

-- A statement of a body, what stands before it, and what stands behind it.
pub record At : Type 0 where
  pub before : List Instr
  pub statement : Instr
  pub rest : List Instr

abbrev pub cut_at : List Instr → List Instr → Option At
cut_at is [] = None
cut_at is (j ∷ js) = Some (record { before = is; statement = j; rest = js })

-- the statement at a place; the first one stands at 1
abbrev pub statement_at : ℕ → List Instr → Option At
statement_at n is =
    if nat_lt n 1 then None else if nat_lt (length is) n then None else cut_at (take (n - 1) is) (drop (n - 1) is)

-- what a step makes of the statement at a place that the body has
abbrev pub on_place : {A : Type 0} → (At → Answer A) → Option At → Answer A
on_place f None = refusing Argument
on_place f (Some k) = f k

-- the same as At, of references
abbrev pub placed_seen : Placed → At
placed_seen k = record { before = k.before.now; statement = k.statement.now; rest = k.rest.now }
