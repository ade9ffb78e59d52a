-- Forms and programs.
use Rattle.std.specs.Prelude.{ℕ, ◌+◌, Bool, true, false, ◌&&◌, if◌then◌else◌, List, [], ◌∷◌, map, codes}
use Rattle.gb_core.specs.declared.ty.Ty.{Ty}
use Rattle.gb_core.specs.declared.var.Var.{Var}
use Rattle.gb_terms.specs.declared.term.Term.{Term, out-Term}
use Rattle.gb_terms.specs.declared.term.Head.{Head}
use Rattle.gb_terms.specs.declared.term.Head.TheVariants as head
use Rattle.gb_terms.specs.declared.term.Head.TheOpen as layer
use Rattle.gb_terms.specs.declared.term.Head.TheFolds.{para-Term, para-Subject, para-Cmd, para-Instr}
use Rattle.gb_terms.specs.declared.term.Subject.{Subject}
use Rattle.gb_terms.specs.declared.term.Instr.{Instr, out-Instr}
use Rattle.gb_terms.specs.declared.term.Cmd.{Cmd, out-Cmd}
use Rattle.gb_walk.specs.Layers.{is_binder}
use Rattle.gb_print_names.specs.Text.{Text, Writing, ◌▸◌, nothing, each, word, separated}
use Rattle.gb_terms.specs.declared.module.ProcRef.{ProcRef}
use Rattle.gb_print_names.specs.declared.bound_names.Known.{Known}
use Rattle.gb_print_names.specs.BoundNames.{Place, under, bound_name}
use Rattle.gb_print_names.specs.Names.{variable}
use Rattle.gb_print_names.specs.Types.{type_text}
use Rattle.gb_print_names.specs.Modules.{procedure}
use Rattle.gb_print_names.specs.Open.{type_of, needs_type, right_first, tells}
use Rattle.gb_print.specs.Layout.{opening, before, closing, letter, stands, binding}
use Rattle.gb_print_names.specs.Shapes.{shape, stands_alone, encloses, runs_on}
use Rattle.gb_print_names.specs.Occurring.{inside}

-- how a program is printed in its place
abbrev pub Placed : Type 0
Placed = Place → Writing

-- How a term is printed, whose type is known where it stands, or isn't.
abbrev pub Shown : Type 0
Shown = Bool → Placed

-- a term and how it is printed
abbrev pub Part : Type 0
Part = Term × Shown

abbrev pub trees : List Part → List Term
trees ts = map (λ t. t.0) ts

abbrev pub in_brackets : Writing → Writing
in_brackets w = word (codes "(") ▸ w ▸ word (codes ")")

-- a form with its type
abbrev pub annotated : Part → Placed
annotated t at = word (codes "(") ▸ t.1 true at ▸ word (codes " : ") ▸ type_text (type_of t.0) at.bound ▸ word (codes ")")

-- a form, with its type where it needs one
abbrev pub form : Part → Shown
form t known at = if needs_type known t.0 then annotated t at else t.1 known at

abbrev pub is_alone : Term → Bool
is_alone t = stands_alone (shape (out-Term t).head) (out-Term t).args

-- an operand: in brackets, unless it is an atom or a postfix form
abbrev pub operand : Part → Shown
operand t known at =
    if needs_type known t.0 then annotated t at
    else if is_alone t.0 then t.1 known at else in_brackets (t.1 known at)

-- a form in brackets
abbrev pub bracketed : Part → Shown
bracketed t known at = in_brackets (t.1 known at)

-- an argument of a head, under no binder
abbrev pub part : Head → ℕ → Part → Shown
part h i t =
    if encloses (shape h) i then form t
    else if runs_on (shape h) i (shape (out-Term t.0).head) then bracketed t else operand t

-- what a head binds, and the form in which it does
abbrev pub bound_part : Head → Part → Shown
bound_part h t known at =
    binding h t.0 (bound_name (letter h) at) at.bound ▸ form t known (under (stands h) (letter h) at)

abbrev pub argument : Head → ℕ → Bool → Part → Shown
argument h i last t known at =
    if last && is_binder h then bound_part h t known at else before h i last at ▸ part h i t known at

abbrev pub is_nil : List Part → Bool
is_nil [] = true
is_nil (t ∷ ts) = false

-- the arguments of a head from the i-th one on
abbrev pub arguments : Head → Bool → ℕ → List Part → Shown
arguments h first i [] known at = nothing
arguments h first i (t ∷ ts) known at =
    argument h i (is_nil ts) t (tells h first known i (is_nil ts)) at ▸ arguments h first (i + 1) ts known at

-- A form, from its head, the programs that it speaks of, its arguments and its type; `first` says that the right one of two operands
-- is typed first.
abbrev pub written : Head → Placed → Bool → List Part → Ty → Shown
written h programs first ts ty known at =
    opening h ty at ▸ programs at ▸ arguments h first 0 ts known at ▸ closing h

abbrev pub at_term : layer.Term-F (Head × Placed) (Instr × Placed) (Subject × Placed) (Cmd × Placed) Part → Shown
at_term t known at = written t.head.0 t.head.1 (right_first (trees t.args)) t.args t.ty known (inside t.head.0 (trees t.args) at)

abbrev pub at_head : layer.Head-F (Head × Placed) (Instr × Placed) (Subject × Placed) (Cmd × Placed) Part → Placed
at_head (layer.Hoare s) at = s.1 at
at_head (layer.Phoare s r) at = s.1 at
at_head (layer.Equiv s u) at = s.1 at ▸ word (codes " ~ ") ▸ u.1 at
at_head _ at = nothing

abbrev pub at_subject : layer.Subject-F (Head × Placed) (Instr × Placed) (Subject × Placed) (Cmd × Placed) Part → Placed
at_subject (layer.Proc p) at = procedure at.bound p
at_subject (layer.Body c) at = c.1 at

-- what a statement writes, with the arrow behind it
abbrev pub targets : Text → List Var → List Known → Writing
targets arrow [] bound = nothing
targets arrow (x ∷ []) bound = variable bound x ▸ word arrow
targets arrow (x ∷ y ∷ ys) bound = in_brackets (separated (codes ", ") (variable bound) (x ∷ y ∷ ys)) ▸ word arrow

abbrev pub test : Text → Part → Placed
test w t at = word w ▸ form t true at

-- a form behind another one
abbrev pub further : Place → Part → Writing
further at t = word (codes ", ") ▸ form t true at

abbrev pub forms : List Part → Placed
forms [] at = nothing
forms (t ∷ ts) at = form t true at ▸ each (further at) ts

abbrev pub call : ProcRef → List Part → Placed
call p ts at = procedure at.bound p ▸ word (codes "(") ▸ forms ts at ▸ word (codes ");")

abbrev pub where_any : List Instr → Writing → Writing
where_any [] w = nothing
where_any (i ∷ is) w = w

-- the branch behind `else`, where it has a statement
abbrev pub otherwise : Cmd × Placed → Placed
otherwise c at = where_any (out-Cmd c.0).list (word (codes " else ") ▸ c.1 at)

abbrev pub instr_opening_layer : layer.Instr-F Head Instr Subject Cmd Term → List Known → Writing
instr_opening_layer (layer.Assign xs e) bound = targets (codes " <- ") xs bound
instr_opening_layer (layer.Sample x d) bound = variable bound x ▸ word (codes " <$ ")
instr_opening_layer (layer.Call xs p ts) bound = targets (codes " <@ ") xs bound ▸ procedure bound p ▸ word (codes "(")
instr_opening_layer (layer.If e a b) bound = word (codes "if (")
instr_opening_layer (layer.While e v a) bound = word (codes "while (")

-- a statement begins with this; its forms and its bodies follow
abbrev pub instr_opening : Instr → List Known → Writing
instr_opening i bound = instr_opening_layer (out-Instr i) bound

abbrev pub at_instr : layer.Instr-F (Head × Placed) (Instr × Placed) (Subject × Placed) (Cmd × Placed) Part → Placed
at_instr (layer.Assign xs e) at = targets (codes " <- ") xs at.bound ▸ form e true at ▸ word (codes ";")
at_instr (layer.Sample x d) at = variable at.bound x ▸ word (codes " <$ ") ▸ form d true at ▸ word (codes ";")
at_instr (layer.Call xs p ts) at = targets (codes " <@ ") xs at.bound ▸ call p ts at
at_instr (layer.If e a b) at = test (codes "if (") e at ▸ word (codes ") ") ▸ a.1 at ▸ otherwise b at
at_instr (layer.While e v a) at =
    test (codes "while (") e at ▸ word (codes ") variant ") ▸ operand v false at ▸ word (codes " ") ▸ a.1 at

-- a body
abbrev pub at_cmd : layer.Cmd-F (Head × Placed) (Instr × Placed) (Subject × Placed) (Cmd × Placed) Part → Placed
at_cmd c at = word (codes "{") ▸ each (λ i. word (codes " ") ▸ i.1 at) c.list ▸ word (codes " }")

-- a term, from what stands where it does
unfoldable pub term_text : Term → Shown
term_text = para-Term Placed Placed Placed Placed Shown at_head at_instr at_subject at_cmd at_term

unfoldable pub subject_text : Subject → Placed
subject_text = para-Subject Placed Placed Placed Placed Shown at_head at_instr at_subject at_cmd at_term

unfoldable pub cmd_text : Cmd → Placed
cmd_text = para-Cmd Placed Placed Placed Placed Shown at_head at_instr at_subject at_cmd at_term

unfoldable pub instr_text : Instr → Placed
instr_text = para-Instr Placed Placed Placed Placed Shown at_head at_instr at_subject at_cmd at_term

-- the programs that a judgment speaks of
abbrev pub spoken : Head → Placed
spoken (head.Hoare s) at = subject_text s at
spoken (head.Phoare s r) at = subject_text s at
spoken (head.Equiv s u) at = subject_text s at ▸ word (codes " ~ ") ▸ subject_text u at
spoken h at = nothing

-- a term as a part
abbrev pub shown : Term → Part
shown t = (t, term_text t)

abbrev pub all_shown : List Term → List Part
all_shown ts = map shown ts

-- a term whose parts stand in this place
abbrev pub inside_text : Term → Shown
inside_text t known at =
    written (out-Term t).head (spoken (out-Term t).head) (right_first (out-Term t).args) (all_shown (out-Term t).args) (out-Term t).ty known at

-- a form, in its place
abbrev pub form_text : Term → Placed
form_text t at = form (shown t) true at
