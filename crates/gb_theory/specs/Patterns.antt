-- Patterns, and the names that they bring: each is new in the goal, among the modules that its lemma binds, and among those that come
-- before it.
use Rattle.std.specs.Prelude.{ℕ, ◌||◌, Bool, true, false, List, [], ◌∷◌, ◌++◌, map, if◌then◌else◌, bytes_eq, is_some}
use Rattle.std.specs.List.{list_any}
use Rattle.gb_core.specs.declared.place.Place.{Place}
use Rattle.gb_core.specs.declared.refusal.Why.TheVariants.{DoubleName}
use Rattle.gb_goal.specs.Answers.{Answer, ◌>>=◌}
use Rattle.gb_goal.specs.Answers.Answer.{given, refused}
use Rattle.gb_goal.specs.Scope.{Declarations, abstract_of}
use Rattle.gb_goal.specs.declared.sequent.Sequent.{Sequent}
use Rattle.gb_script.specs.declared.head.Head.{Head}
use Rattle.gb_script.specs.declared.head.Head.TheVariants as head
use Rattle.gb_script.specs.declared.tree.Node.{Node, para-Node}
use Rattle.gb_elab_mod.specs.Taken.{is_taken}

abbrev pub is_pattern : Head → Bool
is_pattern head.Name = true
is_pattern head.Memory = true
is_pattern head.Drop = true
is_pattern head.TrivialPattern = true
is_pattern head.SmtPattern = true
is_pattern head.BothPatterns = true
is_pattern head.EitherPattern = true
is_pattern _ = false

-- the names that a pattern adds to those in use, or the refusal of the first one that isn't new
abbrev pub Naming : Type 0
Naming = List (List ℕ) → Answer (List (List ℕ))

-- those of patterns one after another, behind those that were added before
abbrev pub all_added : List Naming → List (List ℕ) → List (List ℕ) → Answer (List (List ℕ))
all_added [] used added = given added
all_added (n ∷ ns) used added = do
  more ← n (used ++ added)
  all_added ns used (added ++ more)

-- The names of a pattern of this head, this text, these parts and this place. Names of one side of `[p | q]` may come on the other
-- side too.
abbrev pub added_by : Declarations → Sequent → Head → List ℕ → List (Node × Naming) → Place → Naming
added_by ds q head.Name x ns place used =
    if is_taken q x || (is_some (abstract_of ds x) || list_any (λ y. bytes_eq x y) used) then refused (DoubleName x) place else given (x ∷ [])
added_by ds q head.EitherPattern x (a ∷ b ∷ []) place used = do
  left ← a.1 used
  right ← b.1 used
  given (left ++ right)
added_by ds q h x ns place used = all_added (map (λ n. n.1) ns) used []

unfoldable pub added : Declarations → Sequent → Node → Naming
added ds q = para-Node Naming (λ l. added_by ds q l.head l.text l.parts l.place)

-- all names of patterns are new at a goal
abbrev pub all_new : Declarations → Sequent → List Node → Answer (Unit {0})
all_new ds q ts = do
  _ ← all_added (map (added ds q) ts) [] []
  given tt
