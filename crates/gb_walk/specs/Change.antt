-- Changes of a tree: terms put in place of reads and of bound variables, and reads led to other memories.
use Rattle.std.specs.Prelude.{ℕ, ◌+◌, ◌==◌, Bool, true, false, not, if◌then◌else◌, List, [], ◌∷◌, map, filter, Option, Some, None}
use Rattle.gb_terms.specs.declared.op.Side.{Side}
use Rattle.gb_terms.specs.declared.op.Side.TheVariants as side
use Rattle.gb_terms.specs.declared.op.Read.{Read}
use Rattle.gb_terms.specs.declared.op.Read.TheVariants.{Logical, Program}
use Rattle.gb_terms.specs.declared.term.Term.{Term, roll-Term}
use Rattle.gb_terms.specs.declared.term.Head.{Head}
use Rattle.gb_terms.specs.declared.term.Head.TheVariants as head
use Rattle.gb_terms.specs.declared.term.Head.TheOpen as layer
use Rattle.gb_terms.specs.declared.term.Head.TheFolds.{fold-Term, fold-Head, fold-Instr, fold-Subject, fold-Cmd}
use Rattle.gb_terms.specs.declared.term.Subject.{Subject, roll-Subject}
use Rattle.gb_terms.specs.declared.term.Instr.{Instr, roll-Instr}
use Rattle.gb_terms.specs.declared.term.Cmd.{Cmd, roll-Cmd}
use Rattle.gb_terms.specs.Equal.{read_eq, side_eq}
use Rattle.gb_core.specs.declared.ty.Ty.{Ty}
use Rattle.gb_walk.specs.declared.change.Change.{Change}
use Rattle.gb_walk.specs.declared.change.Change.TheVariants as change
use Rattle.gb_walk.specs.Layers.{head_of, is_binder, seen_by}
use Rattle.gb_walk.specs.Raise.{side_raised, read_raised, term_raised}

abbrev pub Changes : Type 0
Changes = List Change

-- a change under one binder more
abbrev pub change_raised : Change → Change
change_raised (change.ToTerm r t) = change.ToTerm (read_raised 0 r) (term_raised t 0)
change_raised (change.OfBound i t) = change.OfBound (i + 1) (term_raised t 0)
change_raised (change.ToSide s u) = change.ToSide (side_raised 0 s) (side_raised 0 u)

abbrev pub is_own : Side → Bool
is_own side.Own = true
is_own _ = false

abbrev pub is_left_or_right : Side → Bool
is_left_or_right side.Left = true
is_left_or_right side.Right = true
is_left_or_right _ = false

abbrev pub is_read_through : (Side → Bool) → Read → Bool
is_read_through p (Logical i) = false
is_read_through p (Program x s) = p s

-- the change is of reads through such a memory
abbrev pub is_through : (Side → Bool) → Change → Bool
is_through p (change.ToTerm r t) = is_read_through p r
is_through p (change.OfBound i t) = false
is_through p (change.ToSide s u) = p s

-- A judgment and a body bind the memories that they speak of: changes of reads through these end there.
abbrev pub without : (Side → Bool) → Changes → Changes
without p cs = filter (λ c. not (is_through p c)) cs

abbrev pub under_binder : Changes → Changes
under_binder cs = map change_raised cs

abbrev pub or_given : Option Changes → Changes → Changes
or_given (Some cs) given = cs
or_given None given = given

-- the changes that the arguments of a head see
abbrev pub seen_by_args : Head → Changes → Changes
seen_by_args (head.Hoare s) cs = without is_own cs
seen_by_args (head.Phoare s r) cs = without is_own cs
seen_by_args (head.Equiv s t) cs = without is_left_or_right cs
seen_by_args h cs = cs

abbrev pub event_or_args : Head → Changes → Changes
event_or_args (head.Pr p s) cs = without is_own cs
event_or_args h cs = seen_by_args h cs

-- those that its last argument sees
abbrev pub seen_by_last : Head → Changes → Changes
seen_by_last h cs = if is_binder h then under_binder cs else event_or_args h cs

abbrev pub or_later : Bool → Term → Option Term → Option Term
or_later true t o = Some t
or_later false t o = o

-- the term that takes the place of a read
abbrev pub found_for_read : Changes → Read → Option Term
found_for_read [] q = None
found_for_read (change.ToTerm r t ∷ cs) q = or_later (read_eq r q) t (found_for_read cs q)
found_for_read (change.OfBound i t ∷ cs) q = found_for_read cs q
found_for_read (change.ToSide s u ∷ cs) q = found_for_read cs q

-- the term that takes the place of a bound variable
abbrev pub found_for_bound : Changes → ℕ → Option Term
found_for_bound [] j = None
found_for_bound (change.ToTerm r t ∷ cs) j = found_for_bound cs j
found_for_bound (change.OfBound i t ∷ cs) j = or_later (i == j) t (found_for_bound cs j)
found_for_bound (change.ToSide s u ∷ cs) j = found_for_bound cs j

abbrev pub side_changed : Changes → Side → Side
side_changed [] s = s
side_changed (change.ToSide from to ∷ cs) s = if side_eq from s then to else side_changed cs s
side_changed (change.ToTerm r t ∷ cs) s = side_changed cs s
side_changed (change.OfBound i t ∷ cs) s = side_changed cs s

abbrev pub read_changed : Changes → Read → Read
read_changed cs (Program x s) = Program x (side_changed cs s)
read_changed cs r = r

-- what becomes of the head of a term: a term takes the place of the whole, or the head is kept
pub data Made : Type 0 where
  Put : Term → Made
  Kept : Head → Made

abbrev pub put_or : Option Term → Head → Made
put_or (Some t) h = Put t
put_or None h = Kept h

-- the term that takes the place of a whole term of this head
abbrev pub found : Changes → Head → Option Term
found cs (head.Read r) = found_for_read cs r
found cs (head.Bound i) = found_for_bound cs i
found cs h = None

abbrev pub at_head : layer.Head-F (Changes → Made) (Changes → Instr) (Changes → Subject) (Changes → Cmd) (Changes → Term) → Changes → Made
at_head (layer.Read r) cs = put_or (found_for_read cs r) (head.Read (read_changed cs r))
at_head (layer.Bound i) cs = put_or (found_for_bound cs i) (head.Bound i)
at_head (layer.Glob m s) cs = Kept (head.Glob m (side_changed cs s))
at_head (layer.Pr p s) cs = Kept (head.Pr p (side_changed cs s))
at_head h cs = Kept (head_of (λ s. s cs) h)

abbrev pub at_instr : layer.Instr-F (Changes → Made) (Changes → Instr) (Changes → Subject) (Changes → Cmd) (Changes → Term) → Changes → Instr
at_instr (layer.Assign xs e) cs = roll-Instr (layer.Assign xs (e cs))
at_instr (layer.Sample x d) cs = roll-Instr (layer.Sample x (d cs))
at_instr (layer.Call xs p args) cs = roll-Instr (layer.Call xs p (map (λ t. t cs) args))
at_instr (layer.If e a b) cs = roll-Instr (layer.If (e cs) (a cs) (b cs))
at_instr (layer.While e v a) cs = roll-Instr (layer.While (e cs) (v cs) (a cs))

abbrev pub at_subject : layer.Subject-F (Changes → Made) (Changes → Instr) (Changes → Subject) (Changes → Cmd) (Changes → Term) → Changes → Subject
at_subject (layer.Proc p) cs = roll-Subject (layer.Proc p)
at_subject (layer.Body c) cs = roll-Subject (layer.Body (c (without is_own cs)))

abbrev pub at_cmd : layer.Cmd-F (Changes → Made) (Changes → Instr) (Changes → Subject) (Changes → Cmd) (Changes → Term) → Changes → Cmd
at_cmd c cs = roll-Cmd (record { list = map (λ i. i cs) c.list })

-- the arguments of a head that is kept
abbrev pub args_changed : Head → Changes → List (Changes → Term) → List Term
args_changed h cs ts = seen_by (seen_by_args h cs) (seen_by_last h cs) ts

abbrev pub term_of : Made → Changes → List (Changes → Term) → Ty → Term
term_of (Put t) cs ts ty = t
term_of (Kept h) cs ts ty = roll-Term (record { head = h; args = args_changed h cs ts; ty = ty })

abbrev pub at_term : layer.Term-F (Changes → Made) (Changes → Instr) (Changes → Subject) (Changes → Cmd) (Changes → Term) → Changes → Term
at_term t cs = term_of (t.head cs) cs t.args t.ty

-- the tree with the changes made, all at once
abbrev pub term_changed : Term → Changes → Term
term_changed = fold-Term (Changes → Made) (Changes → Instr) (Changes → Subject) (Changes → Cmd) (Changes → Term) at_head at_instr at_subject at_cmd at_term

abbrev pub head_changed : Head → Changes → Made
head_changed = fold-Head (Changes → Made) (Changes → Instr) (Changes → Subject) (Changes → Cmd) (Changes → Term) at_head at_instr at_subject at_cmd at_term

abbrev pub subject_changed : Subject → Changes → Subject
subject_changed = fold-Subject (Changes → Made) (Changes → Instr) (Changes → Subject) (Changes → Cmd) (Changes → Term) at_head at_instr at_subject at_cmd at_term

abbrev pub instr_changed : Instr → Changes → Instr
instr_changed = fold-Instr (Changes → Made) (Changes → Instr) (Changes → Subject) (Changes → Cmd) (Changes → Term) at_head at_instr at_subject at_cmd at_term

abbrev pub cmd_changed : Cmd → Changes → Cmd
cmd_changed = fold-Cmd (Changes → Made) (Changes → Instr) (Changes → Subject) (Changes → Cmd) (Changes → Term) at_head at_instr at_subject at_cmd at_term
