-- Each line comes to something.
use Rattle.std.proofs.Common.{ℕ, List, Option, Some, None, refl}
use Rattle.gb_core.specs.declared.place.Place.{Place}
use Rattle.gb_core.specs.declared.refusal.Why.TheVariants.{TooMany}
use Rattle.gb_goal.specs.Answers.{Answer, ◌>>=◌}
use Rattle.gb_goal.specs.Answers.Answer.{given, refused}
use Rattle.gb_script.specs.declared.tree.Node.{Node}
use Rattle.gb_script.specs.Tree.{head_of, parts_of, place_of}
use Rattle.gb_theory.specs.Built.{Session}
use Rattle.gb_theory.specs.Commands.{After, within, ComesTo}
use Rattle.gb_theory.specs.Outcome.{IsReadAs}
use Rattle.gb_session.specs.History.{History, moved_on, undone}
use Rattle.gb_session.specs.Commands.{stage_after, kept_limit, LeadsOn, taken_by, LineLeadsBy, LineLeads, EntryLeads}

-- where each command comes to something, and each text is read as something
module _
    (runs : (s : Session) (c : Node) → (r : Answer Session) × ComesTo s c r)
    (read : (text : List ℕ) (at : Place) → (r : Answer Node) × IsReadAs text at r) where
  leads : (h : History) (c : Node) → (r : Answer History) × LeadsOn h c r
  leads h c = let x = runs h.present.session c in ((x.0 >>= λ s. given (moved_on h (stage_after h.present c s))), (x.0, x.1, refl))

  by_limit : (o : Option ℕ) (h : History) (c : Node) → (r : Answer History) × After (within o (place_of c)) (λ _. LeadsOn h c) r
  by_limit None h c = leads h c
  by_limit (Some n) h c = (refused (TooMany n) (place_of c), refl)

  by_count : (o : Option ℕ) (h : History) (c : Node) → (r : Answer History) × LineLeadsBy o h c r
  by_count (Some n) h c = (given (undone n h), refl)
  by_count None h c = by_limit (kept_limit h) h c

  after : (x : Answer Node) (h : History) → (r : Answer History) × After x (LineLeads h) r
  after (given c) h = by_count (taken_by (head_of c) (parts_of c)) h c
  after (refused why place) h = (refused why place, refl)

  pub entry : (h : History) (text : List ℕ) (at : Place) → (r : Answer History) × EntryLeads h text at r
  entry h text at = let x = read text at in let y = after x.0 h in (y.0, (x.0, x.1, y.1))
