-- The operators of a script, by their bodies.
use Rattle.std.specs.Prelude.{ℕ, zero, suc, Option, Some, None}
use Rattle.gb_terms.specs.declared.term.Term.{Term}
use Rattle.gb_goal.specs.declared.scope.Entry.{Entry}
use Rattle.gb_goal.specs.declared.scope.Entry.TheVariants as entry
use Rattle.gb_goal.specs.Scope.{Declarations, entry_of}
use Rattle.gb_meaning.specs.Names.{Name}

abbrev pub body_in : Option Entry → Option Term
body_in (Some (entry.Operator o)) = Some o.body
body_in _ = None

-- the body of the operator of this name
abbrev pub body_named : Declarations → Name → Option Term
body_named ds n = body_in (entry_of ds n)

-- where an operator may still be opened
abbrev pub body_at : Declarations → ℕ → Name → Option Term
body_at ds zero n = None
body_at ds (suc k) n = body_named ds n

abbrev pub made_of : {A : Type 0} → A → (Term → A) → Option Term → A
made_of none f None = none
made_of none f (Some t) = f t

-- What is made of each operator by its body, in which operators are opened once less; nothing is made of one that isn't opened.
abbrev pub opened : {A : Type 0} → A → ((Name → A) → Term → A) → Declarations → ℕ → Name → A
opened none make ds zero n = none
opened none make ds (suc k) n = made_of none (make (opened none make ds k)) (body_named ds n)
