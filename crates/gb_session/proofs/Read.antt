-- What a text that is read leads to.
use Rattle.std.proofs.Common.{◌≡◌, ℕ, List, Some, None, refl, ap, subst}
use Rattle.std.specs.Prelude.{Result, Ok, Err}
use Rattle.gb_core.specs.declared.place.Place.{Place}
use Rattle.gb_core.specs.declared.refusal.Refused.{Refused}
use Rattle.gb_core.specs.declared.refusal.Refused.TheVariants.{NoMemory, ReadFault, Script}
use Rattle.gb_goal.specs.Answers.{Answer}
use Rattle.gb_goal.specs.Answers.Answer.{given, refused}
use Rattle.gb_script.specs.declared.tree.Node.{Node}
use Rattle.gb_script.specs.Tree.{head_of, parts_of}
use Rattle.gb_theory.specs.Outcome.{IsReadAs}
use Rattle.gb_theory.specs.Sessions.{IsDue, Meets}
use Rattle.gb_session.specs.History.{History, undone}
use Rattle.gb_session.specs.Commands.{CommandLeads, LineLeads, LineLeadsBy, Reads, taken_by}

-- a text that isn't read
pub unread : (P : Node → Answer History → Type 0) (text : List ℕ) (at : Place) (e : Refused) → IsDue (IsReadAs text at) e → IsDue (Reads P text at) e
unread P text at NoMemory h = tt
unread P text at ReadFault h = h
unread P text at (Script why place) h = (refused why place, h, refl)

-- a text that is read, of which the rest is refused
pub read_refused : (P : Node → Answer History → Type 0) (text : List ℕ) (at : Place) (c : Node) (e : Refused) → IsReadAs text at (given c) → IsDue (P c) e → IsDue (Reads P text at) e
read_refused P text at c NoMemory read h = tt
read_refused P text at c ReadFault read h = h
read_refused P text at c (Script why place) read h = (given c, read, h)

-- a text that is read leads to what is read
pub read_meets : {A : Type 0} (view : A → History) (P : Node → Answer History → Type 0) (text : List ℕ) (at : Place) (c : Node) (r : Result A Refused)
    → IsReadAs text at (given c) → Meets view (P c) r → Meets view (Reads P text at) r
read_meets view P text at c (Ok x) read h = (given c, read, h)
read_meets view P text at c (Err e) read h = read_refused P text at c e read h

-- a line that takes commands off
pub takes_off : (h next : History) (c : Node) (n : ℕ) → Some n ≡ taken_by (head_of c) (parts_of c) → next ≡ undone n h → LineLeads h c (given next)
takes_off h next c n e is = subst (λ o. LineLeadsBy o h c (given next)) e (ap given is)

-- a line that is a command
pub is_command : {A : Type 0} (view : A → History) (h : History) (c : Node) (r : Result A Refused) → None ≡ taken_by (head_of c) (parts_of c)
    → Meets view (CommandLeads h c) r → Meets view (LineLeads h c) r
is_command view h c r e m = subst (λ o. Meets view (LineLeadsBy o h c) r) e m
