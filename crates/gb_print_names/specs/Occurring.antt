-- The locals that occur in a judgment: in its programs, and in what its forms read of the memories that it speaks of.
use Rattle.std.specs.Prelude.{Bool, true, if◌then◌else◌, List, [], ◌∷◌, ◌++◌}
use Rattle.gb_core.specs.declared.var.Var.{Var}
use Rattle.gb_core.specs.declared.var.Var.TheVariants.{Local}
use Rattle.gb_terms.specs.declared.op.Side.TheVariants as side
use Rattle.gb_terms.specs.declared.op.Read.{Read}
use Rattle.gb_terms.specs.declared.op.Read.TheVariants.{Program}
use Rattle.gb_terms.specs.declared.term.Term.{Term}
use Rattle.gb_terms.specs.declared.term.Head.{Head}
use Rattle.gb_terms.specs.declared.term.Head.TheVariants as head
use Rattle.gb_terms.specs.declared.term.Head.TheOpen as layer
use Rattle.gb_terms.specs.declared.term.Head.TheFolds.{fold-Term, fold-Subject, fold-Cmd, fold-Instr, fold-Head}
use Rattle.gb_terms.specs.declared.term.Subject.{Subject}
use Rattle.gb_terms.specs.declared.term.Instr.{Instr}
use Rattle.gb_terms.specs.declared.term.Cmd.{Cmd}
use Rattle.gb_terms.specs.Heads.{is_judgment}
use Rattle.gb_print_names.specs.Text.{◌▸◌, nothing, each}
use Rattle.gb_print_names.specs.BoundNames.{Name, Place}

-- what a list of names becomes when further ones are put behind it
abbrev pub Noting : Type 0
Noting = List Name → List Name

-- the name of a local
abbrev pub local : Var → Noting
local (Local x) ns = ns ++ x ∷ []
local _ ns = ns

abbrev pub local_read : Read → Noting
local_read (Program x side.Own) = local x
local_read (Program x side.Left) = local x
local_read (Program x side.Right) = local x
local_read _ = nothing

-- A judgment and a probability have memories of their own.
abbrev pub is_closed : Head → Bool
is_closed (head.Pr p s) = true
is_closed h = is_judgment h

abbrev pub head_local : Head → Noting
head_local (head.Read r) = local_read r
head_local h = nothing

-- what a head notes, and its arguments
abbrev pub at_head : layer.Head-F (Noting → Noting) Noting Noting Noting Noting → Noting → Noting
at_head (layer.Read r) below = local_read r ▸ below
at_head (layer.Pr p s) below = nothing
at_head (layer.Hoare s) below = nothing
at_head (layer.Phoare s r) below = nothing
at_head (layer.Equiv s u) below = nothing
at_head _ below = below

abbrev pub at_instr : layer.Instr-F (Noting → Noting) Noting Noting Noting Noting → Noting
at_instr (layer.Assign xs e) = each local xs ▸ e
at_instr (layer.Sample x d) = local x ▸ d
at_instr (layer.Call xs p us) = each local xs ▸ each (λ a. a) us
at_instr (layer.If e a b) = e ▸ a ▸ b
at_instr (layer.While e v a) = e ▸ v ▸ a

abbrev pub at_subject : layer.Subject-F (Noting → Noting) Noting Noting Noting Noting → Noting
at_subject (layer.Proc p) = nothing
at_subject (layer.Body c) = c

abbrev pub at_cmd : layer.Cmd-F (Noting → Noting) Noting Noting Noting Noting → Noting
at_cmd c = each (λ i. i) c.list

abbrev pub at_term : layer.Term-F (Noting → Noting) Noting Noting Noting Noting → Noting
at_term t = t.head (each (λ a. a) t.args)

abbrev pub term_locals : Term → Noting
term_locals = fold-Term (Noting → Noting) Noting Noting Noting Noting at_head at_instr at_subject at_cmd at_term

abbrev pub head_locals : Head → Noting → Noting
head_locals = fold-Head (Noting → Noting) Noting Noting Noting Noting at_head at_instr at_subject at_cmd at_term

abbrev pub subject_locals : Subject → Noting
subject_locals = fold-Subject (Noting → Noting) Noting Noting Noting Noting at_head at_instr at_subject at_cmd at_term

abbrev pub cmd_locals : Cmd → Noting
cmd_locals = fold-Cmd (Noting → Noting) Noting Noting Noting Noting at_head at_instr at_subject at_cmd at_term

abbrev pub instr_locals : Instr → Noting
instr_locals = fold-Instr (Noting → Noting) Noting Noting Noting Noting at_head at_instr at_subject at_cmd at_term

-- those of the programs of a judgment
abbrev pub spoken_locals : Head → Noting
spoken_locals (head.Hoare s) = subject_locals s
spoken_locals (head.Phoare s r) = subject_locals s
spoken_locals (head.Equiv s u) = subject_locals s ▸ subject_locals u
spoken_locals h = nothing

-- those of a judgment
abbrev pub judgment_locals : Head → List Term → Noting
judgment_locals h ts = spoken_locals h ▸ each term_locals ts

-- where the parts of a form stand: in a judgment its locals are in scope
abbrev pub inside : Head → List Term → Place → Place
inside h ts at = if is_judgment h then record at { taken = judgment_locals h ts at.taken } else at
