-- What a proof step with its combinators makes of goals. A step works on one goal, of which some goals are left, or none. On several
-- goals it works on one after another, and the first refusal stands.
use Rattle.std.specs.Prelude.{ℕ, zero, suc, ◌==◌, ◌&&◌, nat_le, if◌then◌else◌, List, [], ◌∷◌, ◌++◌, length, map, Option, Some, None, codes}
use Rattle.std.specs.List.{zip}
use Rattle.gb_core.specs.declared.place.Place.{Place}
use Rattle.gb_core.specs.declared.refusal.Why.TheVariants.{Argument}
use Rattle.gb_goal.specs.Answers.{Answer, ◌>>=◌, not_built, nowhere, placed_at}
use Rattle.gb_goal.specs.Answers.Answer.{given, refused}
use Rattle.gb_goal.specs.Scope.{Declarations}
use Rattle.gb_goal.specs.declared.sequent.Sequent.{Sequent}
use Rattle.gb_script.specs.declared.head.Head.{Head}
use Rattle.gb_script.specs.declared.head.Head.TheVariants as head
use Rattle.gb_script.specs.declared.tree.Node.{Node, para-Node}
use Rattle.gb_script.specs.Tree.{node, head_of, text_of, place_of}
use Rattle.gb_theory.specs.Patterns.{is_pattern, all_new}
use Rattle.gb_limits.specs.Numbers.{number_of}

-- what a step makes of one goal, and of several
abbrev pub Stepping : Type 0
Stepping = Sequent → Answer (List Sequent)

abbrev pub Working : Type 0
Working = List Sequent → Answer (List Sequent)

-- all goals that answers give, in order, behind those that were left before
abbrev pub gathered_behind : List Sequent → List (Answer (List Sequent)) → Answer (List Sequent)
gathered_behind left [] = given left
gathered_behind left (x ∷ xs) = do
  more ← x
  gathered_behind (left ++ more) xs

-- a step on each goal
abbrev pub on_each : Stepping → Working
on_each f qs = gathered_behind [] (map f qs)

-- one after another
abbrev pub in_turn : List Working → Working
in_turn [] qs = given qs
in_turn (w ∷ ws) qs = do
  rs ← w qs
  in_turn ws rs

-- the first one on the first goal, the second one on the second goal, and so on: as many as there are goals
abbrev pub spread : List Working → Place → Working
spread ws place qs =
    if length ws == length qs then gathered_behind [] (map (λ x. x.0 (x.1 ∷ [])) (zip ws qs)) else refused Argument place

-- so many times
abbrev pub repeated : ℕ → Working → Working
repeated zero w qs = given qs
repeated (suc n) w qs = do
  rs ← w qs
  repeated n w rs

-- a number of rounds that may be asked for
abbrev pub times_allowed : ℕ → Option ℕ
times_allowed n = if nat_le 1 n && nat_le n 64 then Some n else None

-- 1 to 64 times
abbrev pub times : ℕ → Place → Working → Working
times n place w qs = if nat_le 1 n && nat_le n 64 then repeated n w qs else refused Argument place

-- a refusal leaves the goal
abbrev pub or_left : Answer (List Sequent) → Sequent → Answer (List Sequent)
or_left (given qs) q = given qs
or_left (refused why place) q = given (q ∷ [])

-- A pattern works on a goal as a rule. Where it doesn't fit the refusal has no place of its own, so it stands at the rule before the
-- pattern; `/#` is refused at its own place.
abbrev pub fitted : Head → Answer (List Sequent) → Answer (List Sequent)
fitted head.SmtPattern x = x
fitted head.TrivialPattern x = x
fitted h (given qs) = given qs
fitted h (refused why place) = refused why nowhere

-- what stands inside a pattern works on the goals that the pattern leaves
abbrev pub inside : Head → Working → Working
inside head.BothPatterns w qs = w qs
inside head.EitherPattern w qs = w qs
inside h w qs = given qs

-- a pattern works as a rule first
abbrev pub patterned : (Node → Stepping) → Head → Node → Working → Working
patterned f h t w = if is_pattern h then on_each (λ q. fitted h (f t q) >>= inside h w) else w

-- patterns on a goal, once all their names are new
abbrev pub introduced : Declarations → List (Node × Working) → Stepping
introduced ds ws q = do
  _ ← all_new ds q (map (λ x. x.0) ws)
  in_turn (map (λ x. x.1) ws) (q ∷ [])

-- a rule; `move` has none but its patterns
abbrev pub ruled : (Node → Stepping) → Head → Node × Working → Stepping
ruled f head.Move r q = r.1 (q ∷ [])
ruled f h r q = f r.0 q

-- `done`, as it is written
abbrev pub done_at : Place → Node
done_at place = node head.PlainStep (codes "done") [] place

-- What a step of this head, these parts and this place makes of a goal, where it is known what its rules make of goals, and its
-- parts. A leading sign is passed over.
abbrev pub stepped_by : Declarations → (Node → Stepping) → Head → List (Node × Working) → Place → Stepping
stepped_by ds f head.Tactic ws place q = in_turn (map (λ x. x.1) ws) (q ∷ [])
stepped_by ds f head.BothPatterns ws place q = in_turn (map (λ x. x.1) ws) (q ∷ [])
stepped_by ds f head.Group (w ∷ []) place q = w.1 (q ∷ [])
stepped_by ds f head.Try (w ∷ []) place q = or_left (w.1 (q ∷ [])) q
stepped_by ds f head.Repeat (n ∷ w ∷ []) place q = times (number_of (text_of n.0)) (place_of n.0) w.1 (q ∷ [])
stepped_by ds f head.By (w ∷ []) place q = w.1 (q ∷ []) >>= on_each (f (done_at place))
stepped_by ds f head.Rule (r ∷ i ∷ []) place q = placed_at place (ruled f (head_of r.0) r q >>= i.1)
stepped_by ds f head.NoIntroduction ws place q = given (q ∷ [])
stepped_by ds f head.Introduction ws place q = introduced ds ws q
stepped_by ds f head.Move ws place q = introduced ds ws q
stepped_by ds f h ws place q = not_built place

-- what a step, what stands behind a `;`, or what stands inside a pattern makes of goals
abbrev pub worked : Declarations → (Node → Stepping) → Head → List (Node × Working) → Place → Working
worked ds f head.Next (w ∷ []) place = w.1
worked ds f head.EitherPattern ws place = spread (map (λ x. x.1) ws) place
worked ds f head.Branches ws place = spread (map (λ x. x.1) ws) place
worked ds f h ws place = on_each (stepped_by ds f h ws place)

-- the same of a node, by its rules alone
unfoldable pub works : Declarations → (Node → Stepping) → Node → Working
works ds f = para-Node Working (λ l. patterned f l.head (node l.head l.text (map (λ x. x.0) l.parts) l.place) (worked ds f l.head l.parts l.place))
