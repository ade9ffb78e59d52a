-- A tree under one binder more: what is bound outside of it lies one binder further away.
use Rattle.std.specs.Prelude.{ℕ, ◌+◌, nat_le, if◌then◌else◌, map}
use Rattle.gb_terms.specs.declared.op.Side.{Side}
use Rattle.gb_terms.specs.declared.op.Side.TheVariants as side
use Rattle.gb_terms.specs.declared.op.Read.{Read}
use Rattle.gb_terms.specs.declared.op.Read.TheVariants.{Program}
use Rattle.gb_terms.specs.declared.term.Term.{Term, roll-Term}
use Rattle.gb_terms.specs.declared.term.Head.{Head}
use Rattle.gb_terms.specs.declared.term.Head.TheVariants as head
use Rattle.gb_terms.specs.declared.term.Head.TheOpen as layer
use Rattle.gb_terms.specs.declared.term.Head.TheFolds.{fold-Term, fold-Head, fold-Instr, fold-Subject, fold-Cmd}
use Rattle.gb_terms.specs.declared.term.Subject.{Subject, roll-Subject}
use Rattle.gb_terms.specs.declared.term.Instr.{Instr, roll-Instr}
use Rattle.gb_terms.specs.declared.term.Cmd.{Cmd, roll-Cmd}
use Rattle.gb_walk.specs.Layers.{head_of, is_binder, seen_by}

-- the places from k on move by one
abbrev pub index_raised : ℕ → ℕ → ℕ
index_raised k i = if nat_le k i then i + 1 else i

abbrev pub side_raised : ℕ → Side → Side
side_raised k (side.Bound i) = side.Bound (index_raised k i)
side_raised k s = s

abbrev pub read_raised : ℕ → Read → Read
read_raised k (Program x s) = Program x (side_raised k s)
read_raised k r = r

abbrev pub head_at : ℕ → Head → Head
head_at k (head.Bound i) = head.Bound (index_raised k i)
head_at k (head.Read r) = head.Read (read_raised k r)
head_at k (head.Glob m s) = head.Glob m (side_raised k s)
head_at k (head.Pr p s) = head.Pr p (side_raised k s)
head_at k h = h

-- where the last argument of a head begins to be raised
abbrev pub last_from : Head → ℕ → ℕ
last_from h k = if is_binder h then k + 1 else k

abbrev pub at_head : layer.Head-F (ℕ → Head) (ℕ → Instr) (ℕ → Subject) (ℕ → Cmd) (ℕ → Term) → ℕ → Head
at_head h k = head_at k (head_of (λ s. s k) h)

abbrev pub at_instr : layer.Instr-F (ℕ → Head) (ℕ → Instr) (ℕ → Subject) (ℕ → Cmd) (ℕ → Term) → ℕ → Instr
at_instr (layer.Assign xs e) k = roll-Instr (layer.Assign xs (e k))
at_instr (layer.Sample x d) k = roll-Instr (layer.Sample x (d k))
at_instr (layer.Call xs p args) k = roll-Instr (layer.Call xs p (map (λ t. t k) args))
at_instr (layer.If e a b) k = roll-Instr (layer.If (e k) (a k) (b k))
at_instr (layer.While e v a) k = roll-Instr (layer.While (e k) (v k) (a k))

abbrev pub at_subject : layer.Subject-F (ℕ → Head) (ℕ → Instr) (ℕ → Subject) (ℕ → Cmd) (ℕ → Term) → ℕ → Subject
at_subject (layer.Proc p) k = roll-Subject (layer.Proc p)
at_subject (layer.Body c) k = roll-Subject (layer.Body (c k))

abbrev pub at_cmd : layer.Cmd-F (ℕ → Head) (ℕ → Instr) (ℕ → Subject) (ℕ → Cmd) (ℕ → Term) → ℕ → Cmd
at_cmd c k = roll-Cmd (record { list = map (λ i. i k) c.list })

abbrev pub at_term : layer.Term-F (ℕ → Head) (ℕ → Instr) (ℕ → Subject) (ℕ → Cmd) (ℕ → Term) → ℕ → Term
at_term t k = roll-Term (record { head = t.head k; args = seen_by k (last_from (t.head k) k) t.args; ty = t.ty })

-- the tree, with what is bound k or more binders outside moved by one
abbrev pub term_raised : Term → ℕ → Term
term_raised = fold-Term (ℕ → Head) (ℕ → Instr) (ℕ → Subject) (ℕ → Cmd) (ℕ → Term) at_head at_instr at_subject at_cmd at_term

abbrev pub head_raised : Head → ℕ → Head
head_raised = fold-Head (ℕ → Head) (ℕ → Instr) (ℕ → Subject) (ℕ → Cmd) (ℕ → Term) at_head at_instr at_subject at_cmd at_term

abbrev pub subject_raised : Subject → ℕ → Subject
subject_raised = fold-Subject (ℕ → Head) (ℕ → Instr) (ℕ → Subject) (ℕ → Cmd) (ℕ → Term) at_head at_instr at_subject at_cmd at_term

abbrev pub instr_raised : Instr → ℕ → Instr
instr_raised = fold-Instr (ℕ → Head) (ℕ → Instr) (ℕ → Subject) (ℕ → Cmd) (ℕ → Term) at_head at_instr at_subject at_cmd at_term

abbrev pub cmd_raised : Cmd → ℕ → Cmd
cmd_raised = fold-Cmd (ℕ → Head) (ℕ → Instr) (ℕ → Subject) (ℕ → Cmd) (ℕ → Term) at_head at_instr at_subject at_cmd at_term
