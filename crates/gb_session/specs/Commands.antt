-- What a command of a session comes to.
use Rattle.std.specs.Prelude.{◌≡◌, ℕ, nat_lt, if◌then◌else◌, List, [], ◌∷◌, ◌++◌, length, map, Option, Some, None, Result, Err}
use Rattle.gb_core.specs.declared.place.Place.{Place}
use Rattle.gb_core.specs.declared.refusal.Why.{Why}
use Rattle.gb_core.specs.declared.refusal.Refused.{Refused}
use Rattle.gb_core.specs.declared.refusal.Refused.TheVariants.{Script}
use Rattle.gb_terms.specs.Nodes.{saturated}
use Rattle.gb_print_names.specs.declared.bound_names.Enumeration.{Enumeration}
use Rattle.gb_script.specs.declared.head.Head.{Head}
use Rattle.gb_script.specs.declared.head.Head.TheVariants as head
use Rattle.gb_script.specs.declared.tree.Node.{Node}
use Rattle.gb_script.specs.Tree.{head_of, text_of, parts_of, place_of}
use Rattle.gb_limits.specs.Numbers.{number_of}
use Rattle.gb_goal.specs.Answers.{Answer, ◌>>=◌}
use Rattle.gb_goal.specs.Answers.Answer.{given}
use Rattle.gb_theory.specs.Built.{Session}
use Rattle.gb_theory.specs.Commands.{After, ComesTo, within}
use Rattle.gb_theory.specs.Outcome.{IsReadAs}
use Rattle.gb_session.specs.History.{Stage, History, moved_on, undone}

-- a type of this name that is declared as an enumeration, if it is one
abbrev pub enumeration : Node → Head → List Node → List Enumeration
enumeration x head.Enumeration constants = record { name = text_of x; constants = map text_of constants } ∷ []
enumeration x _ constants = []

-- the enumeration that a command of this head and these parts declares
abbrev pub enumerated : Head → List Node → List Enumeration
enumerated head.TypeDeclaration (x ∷ d ∷ []) = enumeration x (head_of d) (parts_of d)
enumerated _ _ = []

-- what stands behind a command that leads to this session
abbrev pub stage_after : Stage → Node → Session → Stage
stage_after s c next = record { session = next; enumerations = s.enumerations ++ enumerated (head_of c) (parts_of c) }

-- 4,096 commands are kept at most
abbrev pub kept_limit : History → Option ℕ
kept_limit h = if h.keeps then (if nat_lt (length h.earlier) 4096 then None else Some 4096) else None

-- a command is run, and leads on
abbrev pub LeadsOn : History → Node → Answer History → Type 0
LeadsOn h c r =
    (x : Answer Session) × ComesTo h.present.session c x × (r ≡ (x >>= λ s. given (moved_on h (stage_after h.present c s))))

-- what a command comes to; here `undo` is none
abbrev pub CommandLeads : History → Node → Answer History → Type 0
CommandLeads h c r = After (within (kept_limit h) (place_of c)) (λ _. LeadsOn h c) r

-- a text is read, and what is read leads on
abbrev pub Reads : (Node → Answer History → Type 0) → List ℕ → Place → Answer History → Type 0
Reads P text at r = (x : Answer Node) × IsReadAs text at x × After x P r

-- what the text of a command comes to
abbrev pub TextLeads : History → List ℕ → Place → Answer History → Type 0
TextLeads h text at r = Reads (CommandLeads h) text at r

-- how many commands a line of this head and these parts takes off, if it is `undo N`: 2^64 - 1 for a greater N
abbrev pub taken_by : Head → List Node → Option ℕ
taken_by head.Undo (n ∷ []) = Some (saturated (number_of (text_of n)))
taken_by _ _ = None

-- what a line comes to: commands are taken off, or one is run
abbrev pub LineLeadsBy : Option ℕ → History → Node → Answer History → Type 0
LineLeadsBy (Some n) h c r = r ≡ given (undone n h)
LineLeadsBy None h c r = CommandLeads h c r

abbrev pub LineLeads : History → Node → Answer History → Type 0
LineLeads h c r = LineLeadsBy (taken_by (head_of c) (parts_of c)) h c r

-- what the text of a line comes to
abbrev pub EntryLeads : History → List ℕ → Place → Answer History → Type 0
EntryLeads h text at r = Reads (LineLeads h) text at r

-- A refusal leaves the session as it was. Where memory runs out nothing is said of it.
abbrev pub IsLeft : {A : Type 0} → History → History → Result A Refused → Type 0
IsLeft old new r = (why : Why) (place : Place) → r ≡ Err (Script why place) → new ≡ old
