-- A command that is kept.
use Rattle.std.proofs.Common.{◌≡◌, ℕ, ◌<◌, ◌≤◌, Bool, true, false, List, [], ◌∷◌, ◌++◌, length, take, Option, Some, None, if◌then◌else◌, nat_lt, refl, ap, sym, subst, ◌∙◌, arith}
use Rattle.std.specs.Prelude.{Err}
use Rattle.std.proofs.lemmas.Bool.Decides.{nat_tests}
use Rattle.gb_core.specs.declared.place.Place.{Place}
use Rattle.gb_core.specs.declared.refusal.Refused.{Refused}
use Rattle.gb_core.specs.declared.refusal.Refused.TheVariants.{NoMemory, ReadFault, Script}
use Rattle.gb_core.specs.declared.refusal.Why.{Why}
use Rattle.gb_core.specs.declared.refusal.Why.TheVariants.{TooMany}
use Rattle.gb_goal.specs.Answers.Answer.{given, refused}
use Rattle.gb_print_names.specs.declared.bound_names.Enumeration.{Enumeration}
use Rattle.gb_script.specs.declared.tree.Node.{Node}
use Rattle.gb_script.specs.Tree.{head_of, parts_of, place_of}
use Rattle.gb_state.specs.declared.state.State.{State}
use Rattle.gb_state.specs.Opened.{is_undeclared}
use Rattle.gb_theory.specs.Built.{Session}
use Rattle.gb_theory.specs.Sessions.{session_of, IsDue, IsKept}
use Rattle.gb_theory.specs.Commands.{After, within, ComesTo}
use Rattle.gb_session.specs.History.{Stage, History, moved_on}
use Rattle.gb_state.specs.Kept.{AreUndeclared, GoesBack, IsBefore, IsTakenBack, MayGoBack}
use Rattle.gb_session.specs.Kept.{stage_of, before, stages_before}
use Rattle.gb_state.specs.declared.kept.Kept.{Kept}
use Rattle.gb_session.specs.Commands.{enumerated, stage_after, kept_limit, LeadsOn, CommandLeads}
use Rattle.gb_session.proofs.Adds.{IsInFront, front, whole}
use Rattle.gb_session.proofs.Stages.{history}

-- what stands now, as it is kept
abbrev pub kept_of : State → List Enumeration → Kept
kept_of s es = record { declared = length s.scope; proved = length s.lemmas; enumerated = length es; proof = s.proof }

pub kept_count : (s : State) (es : List Enumeration) (n : ℕ) (k : Kept) → n ≡ length es
    → k ≡ record { declared = length s.scope; proved = length s.lemmas; enumerated = n; proof = s.proof } → k ≡ kept_of s es
kept_count s es n k e is = is ∙ ap (λ (m : ℕ). record { declared = length s.scope; proved = length s.lemmas; enumerated = m; proof = s.proof }) e

-- what is kept of a command leads back to what stood before it
pub leads_back : (s t : State) (es more : List Enumeration) → IsInFront (session_of s) (session_of t) → before (kept_of s es) (stage_of t (es ++ more)) ≡ stage_of s es
leads_back s t es more h = rw (h.scope, h.lemmas, front es more) refl

-- a session that keeps its commands goes on
pub moves_on : (file : List ℕ) (s t : State) (es more : List Enumeration) (ks : List Kept) → IsInFront (session_of s) (session_of t)
    → history file true (stage_of t (es ++ more)) (kept_of s es ∷ ks) ≡ moved_on (history file true (stage_of s es) ks) (stage_of t (es ++ more))
moves_on file s t es more ks h =
    ap (λ (x : Stage). record { file = file; keeps = true; present = stage_of t (es ++ more); earlier = x ∷ stages_before ks x }) (leads_back s t es more h)

-- under the name of the proof that was open nothing was declared then
pub undeclared_then : (s t : State) (es : List Enumeration) (ks js : List Kept) → js ≡ kept_of s es ∷ ks → take (length s.scope) t.scope ≡ s.scope
    → AreUndeclared ks s.scope → AreUndeclared js t.scope
undeclared_then s t es ks js is scope h =
    subst (λ x. AreUndeclared x t.scope) (sym is) (ap (λ ds. is_undeclared ds s.proof) scope ∙ s.undeclared, subst (AreUndeclared ks) (sym scope) h)

in_front : (s t : State) → session_of t ≡ session_of s → take (length s.scope) t.scope ≡ s.scope
in_front s t same = ap (λ (x : Session). take (length s.scope) x.scope) same ∙ whole s.scope

-- a command that is refused may be taken back
pub may_go_back : (e : Refused) (s t : State) (es : List Enumeration) (ks js : List Kept) → js ≡ kept_of s es ∷ ks → IsKept (session_of s) (session_of t) (Err e)
    → AreUndeclared ks s.scope → MayGoBack e js t.scope
may_go_back (Script why place) s t es ks js is kept h = undeclared_then s t es ks js is (in_front s t (kept why place refl)) h
may_go_back NoMemory s t es ks js is kept h = tt
may_go_back ReadFault s t es ks js is kept h = tt

-- the same state, where the counts are those of the state
stands_again : (s t u : State) (es : List Enumeration) → session_of t ≡ session_of s → IsBefore (kept_of s es) t u → stage_of u es ≡ stage_of s es
stands_again s t u es same b =
    let scope : u.scope ≡ s.scope = b.scope ∙ in_front s t same in
    let lemmas : u.lemmas ≡ s.lemmas = b.lemmas ∙ ap (λ (x : Session). take (length s.lemmas) x.lemmas) same ∙ whole s.lemmas in
    rw (scope, b.proof, lemmas) refl

-- a command that is refused leaves what stood before it
pub taken_back : (file : List ℕ) (keeps : Bool) (s t u : State) (es : List Enumeration) (ks js left : List Kept) (why : Why) (place : Place)
    → js ≡ kept_of s es ∷ ks → session_of t ≡ session_of s → IsTakenBack (Script why place) js left t u
    → history file keeps (stage_of u es) left ≡ history file keeps (stage_of s es) ks
taken_back file keeps s t u es ks js left why place is same (r, back) =
    let g = subst (λ x. GoesBack x left t u r) is back in
    ap (λ x. history file keeps (stage_of u es) x) g.0 ∙ ap (λ x. history file keeps x ks) (stands_again s t u es same g.1)

-- the limit that is met unless this test holds
abbrev limit : Bool → Option ℕ
limit t = if t then None else Some 4096

full_limit : (n : ℕ) (t : Bool) → nat_lt n 4096 ≡ t → 4096 ≤ n → limit t ≡ Some 4096
full_limit n true e h = absurd (let less : n < 4096 = grind (arith, nat_tests) in omega (arith, less, h))
full_limit n false e h = refl

free_limit : (n : ℕ) (t : Bool) → nat_lt n 4096 ≡ t → n < 4096 → limit t ≡ None
free_limit n true e h = refl
free_limit n false e h = absurd (let more : 4096 ≤ n = grind (arith, nat_tests) in omega (arith, more, h))

-- a session that has kept as many commands as it may
pub is_full : (h : History) (c : Node) → h.keeps ≡ true → 4096 ≤ length h.earlier → CommandLeads h c (refused (TooMany 4096) (place_of c))
is_full h c keeps full =
    let limit : kept_limit h ≡ Some 4096 = rw keeps (full_limit (length h.earlier) (nat_lt (length h.earlier) 4096) refl full) in
    subst (λ (o : Option ℕ). After (within o (place_of c)) (λ _. LeadsOn h c) (refused (TooMany 4096) (place_of c))) (sym limit) refl

-- a session that may keep a command more
pub has_room : (h : History) → h.keeps ≡ true → length h.earlier < 4096 → kept_limit h ≡ None
has_room h keeps few = rw keeps (free_limit (length h.earlier) (nat_lt (length h.earlier) 4096) refl few)

pub has_no_limit : (h : History) → h.keeps ≡ false → kept_limit h ≡ None
has_no_limit h keeps = rw keeps refl

pub next_kept : (file : List ℕ) (keeps : Bool) (s t : State) (es fs more : List Enumeration) (ks js : List Kept) (next : History) → keeps ≡ true → js ≡ kept_of s es ∷ ks → fs ≡ es ++ more
    → IsInFront (session_of s) (session_of t) → next ≡ history file keeps (stage_of t fs) js → next ≡ moved_on (history file keeps (stage_of s es) ks) (stage_of t fs)
next_kept file true s t es fs more ks js next k j f h is =
    is ∙ ap (λ x. history file true (stage_of t fs) x) j
    ∙ subst (λ z. history file true (stage_of t z) (kept_of s es ∷ ks) ≡ moved_on (history file true (stage_of s es) ks) (stage_of t z)) (sym f) (moves_on file s t es more ks h)
next_kept file false s t es fs more ks js next k j f h is = absurd (cc)

pub next_free : (file : List ℕ) (keeps : Bool) (s t : State) (es fs : List Enumeration) (ks js : List Kept) (next : History) → keeps ≡ false → js ≡ []
    → next ≡ history file keeps (stage_of t fs) js → next ≡ moved_on (history file keeps (stage_of s es) ks) (stage_of t fs)
next_free file true s t es fs ks js next k j is = absurd (cc)
next_free file false s t es fs ks js next k j is = is ∙ ap (λ x. history file false (stage_of t fs) x) j

-- a command that was refused
pub refused_by : (file : List ℕ) (keeps : Bool) (s : State) (es : List Enumeration) (ks : List Kept) (c : Node) (h : History) (why : Why) (place : Place)
    → history file keeps (stage_of s es) ks ≡ h → kept_limit (history file keeps (stage_of s es) ks) ≡ None
    → ComesTo (session_of s) c (refused why place) → CommandLeads h c (refused why place)
refused_by file keeps s es ks c h why place is none came =
    let before : History = history file keeps (stage_of s es) ks in
    subst (λ x. CommandLeads x c (refused why place)) is
    (subst (λ (o : Option ℕ). After (within o (place_of c)) (λ _. LeadsOn before c) (refused why place)) (sym none) (refused why place, came, refl))

pub due_by : (file : List ℕ) (keeps : Bool) (s : State) (es : List Enumeration) (ks : List Kept) (c : Node) (h : History) (e : Refused)
    → history file keeps (stage_of s es) ks ≡ h → kept_limit (history file keeps (stage_of s es) ks) ≡ None
    → IsDue (ComesTo (session_of s) c) e → IsDue (CommandLeads h c) e
due_by file keeps s es ks c h (Script why place) is none came = refused_by file keeps s es ks c h why place is none came
due_by file keeps s es ks c h NoMemory is none came = tt
due_by file keeps s es ks c h ReadFault is none came = came

-- a command that was run leads on
pub leads_on : (file : List ℕ) (keeps : Bool) (s t : State) (es fs more : List Enumeration) (ks : List Kept) (c : Node) (h next : History) → history file keeps (stage_of s es) ks ≡ h
    → kept_limit (history file keeps (stage_of s es) ks) ≡ None → ComesTo (session_of s) c (given (session_of t)) → more ≡ enumerated (head_of c) (parts_of c) → fs ≡ es ++ more
    → next ≡ moved_on (history file keeps (stage_of s es) ks) (stage_of t fs) → CommandLeads h c (given next)
leads_on file keeps s t es fs more ks c h next is none came are added goes =
    let before : History = history file keeps (stage_of s es) ks in
    let stage : stage_of t fs ≡ stage_after before.present c (session_of t) = ap (λ z. stage_of t z) (added ∙ ap (λ z. es ++ z) are) in
    subst (λ x. CommandLeads x c (given next)) is
    (subst (λ (o : Option ℕ). After (within o (place_of c)) (λ _. LeadsOn before c) (given next)) (sym none)
    (given (session_of t), came, ap given (goes ∙ ap (moved_on before) stage)))
