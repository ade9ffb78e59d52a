-- Names that the context of a goal has.
use Rattle.std.specs.Prelude.{ℕ, Bool, ◌||◌, if◌then◌else◌, List, bytes_eq, is_some}
use Rattle.std.specs.List.{list_any}
use Rattle.gb_core.specs.declared.place.Place.{Place}
use Rattle.gb_core.specs.declared.refusal.Why.TheVariants.{DoubleName}
use Rattle.gb_goal.specs.Scope.{Declarations, abstract_of}
use Rattle.gb_goal.specs.declared.sequent.Sequent.{Sequent}
use Rattle.gb_goal.specs.Answers.{Answer}
use Rattle.gb_goal.specs.Answers.Answer.{given, refused}

-- whether the name is that of a variable, a memory, a module or a hypothesis of the goal
abbrev pub is_taken : Sequent → List ℕ → Bool
is_taken g n =
    list_any (λ x. bytes_eq n x.name) g.logical
    || (list_any (λ m. bytes_eq n m) g.memories || (list_any (λ b. bytes_eq n b.name) g.modules || list_any (λ h. bytes_eq n h.name) g.hyps))

-- a name that no abstract module has which the lemma of a goal binds
abbrev pub unbound : Declarations → List ℕ → Place → Answer (Unit {0})
unbound ds n p = if is_some (abstract_of ds n) then refused (DoubleName n) p else given tt

-- a new name in the context of a goal
abbrev pub new_name : Declarations → Sequent → List ℕ → Place → Answer (Unit {0})
new_name ds g n p = if is_taken g n then refused (DoubleName n) p else unbound ds n p
