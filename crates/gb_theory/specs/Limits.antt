-- The limits on what a script builds: the first one that is passed.
use Rattle.std.specs.Prelude.{ℕ, Bool, ◌||◌, List, [], ◌∷◌, length, map, sum, Option, Some, None, Result, Ok, Err, nat_lt, if◌then◌else◌}
use Rattle.std.specs.List.{list_any}
use Rattle.std.specs.Option.{option_or}
use Rattle.gb_core.specs.declared.place.Place.{Place}
use Rattle.gb_core.specs.declared.refusal.Refused.{Refused}
use Rattle.gb_core.specs.declared.refusal.Refused.TheVariants.{Script}
use Rattle.gb_core.specs.declared.refusal.Why.TheVariants.{TooMany}
use Rattle.gb_terms.specs.declared.term.Term.{Term}
use Rattle.gb_terms.specs.Nodes.{term_nodes}
use Rattle.gb_goal.specs.declared.sequent.Sequent.{Sequent}
use Rattle.gb_goal.specs.Nodes.{sequent_nodes}

-- a script has 4,096 declarations at most
abbrev pub declaration_limit : ℕ → Option ℕ
declaration_limit declared = if nat_lt declared 4096 then None else Some 4096

-- a form with more than 65,536 nodes
abbrev pub is_large : Term → Bool
is_large form = nat_lt 65536 (term_nodes form)

abbrev pub has_large_form : Sequent → Bool
has_large_form goal = is_large goal.conclusion || list_any (λ h. is_large h.form) goal.hyps

-- a goal has 256 hypotheses at most, and no large form
abbrev pub goal_limit : Sequent → Option ℕ
goal_limit goal = if nat_lt 256 (length goal.hyps) then Some 256 else (if has_large_form goal then Some 65536 else None)

-- the same of each of these goals
abbrev pub each_limit : List Sequent → Option ℕ
each_limit [] = None
each_limit (goal ∷ more) = option_or (goal_limit goal) (each_limit more)

-- 1,024 goals at most are open, with 1,048,576 nodes at most together
abbrev pub all_limit : List Sequent → Option ℕ
all_limit goals =
    if nat_lt 1024 (length goals) then Some 1024
    else (if nat_lt 1048576 (sum (map sequent_nodes goals)) then Some 1048576 else None)

-- the refusal where a limit is passed
abbrev pub limited : Option ℕ → Place → Result (Unit {0}) Refused
limited None place = Ok tt
limited (Some limit) place = Err (Script (TooMany limit) place)
