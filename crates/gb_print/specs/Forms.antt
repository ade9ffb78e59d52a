-- The trees of forms and programs.
use Rattle.std.specs.Prelude.{◌≡◌, ℕ, ◌+◌, Bool, true, false, ◌&&◌, if◌then◌else◌, List, [], ◌∷◌, ◌++◌, map}
use Rattle.gb_core.specs.declared.ty.Ty.{Ty}
use Rattle.gb_terms.specs.declared.term.Term.{Term, out-Term}
use Rattle.gb_terms.specs.declared.term.Head.{Head}
use Rattle.gb_terms.specs.declared.term.Head.TheVariants as term
use Rattle.gb_terms.specs.declared.term.Head.TheOpen as layer
use Rattle.gb_terms.specs.declared.term.Head.TheFolds.{para-Term, para-Subject, para-Cmd, para-Instr}
use Rattle.gb_terms.specs.declared.term.Subject.{Subject}
use Rattle.gb_terms.specs.declared.term.Instr.{Instr}
use Rattle.gb_terms.specs.declared.term.Cmd.{Cmd}
use Rattle.gb_walk.specs.Layers.{is_binder}
use Rattle.gb_script.specs.declared.head.Head.TheVariants as head
use Rattle.gb_script.specs.declared.tree.Node.{Node}
use Rattle.gb_print_names.specs.BoundNames.{Place, under, bound_name}
use Rattle.gb_print_names.specs.Occurring.{inside}
use Rattle.gb_print_names.specs.Open.{type_of, needs_type, right_first, tells}
use Rattle.gb_print.specs.Layout.{letter, stands}
use Rattle.gb_print_names.specs.Shapes.{shape, stands_alone, encloses, runs_on}
use Rattle.gb_print.specs.Nodes.{tree, list}
use Rattle.gb_print.specs.Types.{procedure_tree, call_tree, type_tree}
use Rattle.gb_print.specs.Programs.{written, loop}
use Rattle.gb_print.specs.Heads.{made, in_binder}

-- the trees of statements in their place
abbrev pub Placed : Type 0
Placed = Place → List Node

-- the tree of a term, whose type is known where it stands, or isn't
abbrev pub Shown : Type 0
Shown = Bool → Place → Node

-- a term and its tree
abbrev pub Part : Type 0
Part = Term × Shown

abbrev pub terms : List Part → List Term
terms ts = map (λ t. t.0) ts

abbrev pub annotated : Part → Place → Node
annotated t at = tree head.Typed (t.1 true at ∷ type_tree (type_of t.0) at.bound ∷ [])

abbrev pub in_brackets : Node → Node
in_brackets x = tree head.Bracketed (x ∷ [])

-- a form, with its type where it needs one
abbrev pub form : Part → Shown
form t known at = if needs_type known t.0 then annotated t at else t.1 known at

-- an operand: in brackets, unless it is an atom or a postfix form
abbrev pub operand : Part → Shown
operand t known at =
    if needs_type known t.0 then annotated t at
    else if stands_alone (shape (out-Term t.0).head) (out-Term t.0).args then t.1 known at else in_brackets (t.1 known at)

-- an argument of a head, under no binder
abbrev pub part : Head → ℕ → Part → Shown
part h i t known at =
    if encloses (shape h) i then form t known at
    else if runs_on (shape h) i (shape (out-Term t.0).head) then in_brackets (t.1 known at) else operand t known at

-- what a head binds, and the form in which it does
abbrev pub bound_part : Head → Part → Shown
bound_part h t known at = in_binder h t.0 (bound_name (letter h) at) at.bound (form t known (under (stands h) (letter h) at))

abbrev pub argument : Head → ℕ → Bool → Part → Shown
argument h i last t known at = if last && is_binder h then bound_part h t known at else part h i t known at

abbrev pub is_nil : List Part → Bool
is_nil [] = true
is_nil (t ∷ ts) = false

-- the arguments of a head from the i-th one on
abbrev pub arguments : Head → Bool → ℕ → List Part → Bool → Place → List Node
arguments h first i [] known at = []
arguments h first i (t ∷ ts) known at =
    argument h i (is_nil ts) t (tells h first known i (is_nil ts)) at ∷ arguments h first (i + 1) ts known at

abbrev pub at_term : layer.Term-F (Head × Placed) (Instr × Placed) (Subject × Placed) (Cmd × Placed) Part → Shown
at_term t known around =
    let at = inside t.head.0 (terms t.args) around in
    made t.head.0 (bound_name (letter t.head.0) at) (t.head.1 at) t.ty at (arguments t.head.0 (right_first (terms t.args)) 0 t.args known at)

-- the programs that a judgment speaks of
abbrev pub at_head : layer.Head-F (Head × Placed) (Instr × Placed) (Subject × Placed) (Cmd × Placed) Part → Placed
at_head (layer.Hoare s) at = s.1 at
at_head (layer.Phoare s r) at = s.1 at
at_head (layer.Equiv s u) at = s.1 at ++ u.1 at
at_head _ at = []

abbrev pub at_subject : layer.Subject-F (Head × Placed) (Instr × Placed) (Subject × Placed) (Cmd × Placed) Part → Placed
at_subject (layer.Proc p) at = procedure_tree p at.bound ∷ []
at_subject (layer.Body c) at = tree head.Block (c.1 at) ∷ []

abbrev pub forms : List Part → Place → List Node
forms ts at = map (λ t. form t true at) ts

abbrev pub at_instr : layer.Instr-F (Head × Placed) (Instr × Placed) (Subject × Placed) (Cmd × Placed) Part → Placed
at_instr (layer.Assign xs e) at = written head.Assign at.bound xs (form e true at) ∷ []
at_instr (layer.Sample x d) at = written head.Sample at.bound (x ∷ []) (form d true at) ∷ []
at_instr (layer.Call xs p ts) at = written head.AssignCall at.bound xs (call_tree p (forms ts at) at.bound) ∷ []
at_instr (layer.If e a b) at = tree head.If (form e true at ∷ list (a.1 at) ∷ list (b.1 at) ∷ []) ∷ []
at_instr (layer.While e v a) at = tree head.While (form e true at ∷ loop (operand v false at) (a.1 at) ∷ []) ∷ []

-- statements, one after another
abbrev pub all_of : List (Instr × Placed) → Placed
all_of [] at = []
all_of (i ∷ is) at = i.1 at ++ all_of is at

abbrev pub at_cmd : layer.Cmd-F (Head × Placed) (Instr × Placed) (Subject × Placed) (Cmd × Placed) Part → Placed
at_cmd c = all_of c.list

-- the tree of a term, from what stands where it does
unfoldable pub term_tree : Term → Shown
term_tree = para-Term Placed Placed Placed Placed Shown at_head at_instr at_subject at_cmd at_term

unfoldable pub subject_trees : Subject → Placed
subject_trees = para-Subject Placed Placed Placed Placed Shown at_head at_instr at_subject at_cmd at_term

unfoldable pub cmd_trees : Cmd → Placed
cmd_trees = para-Cmd Placed Placed Placed Placed Shown at_head at_instr at_subject at_cmd at_term

unfoldable pub instr_trees : Instr → Placed
instr_trees = para-Instr Placed Placed Placed Placed Shown at_head at_instr at_subject at_cmd at_term

-- the trees of these statements
abbrev pub statements : List Instr → Placed
statements [] at = []
statements (i ∷ is) at = instr_trees i at ++ statements is at

-- the programs that a judgment speaks of
abbrev pub spoken : Head → Placed
spoken (term.Hoare s) at = subject_trees s at
spoken (term.Phoare s r) at = subject_trees s at
spoken (term.Equiv s u) at = subject_trees s at ++ subject_trees u at
spoken h at = []

-- a term as a part
abbrev pub shown : Term → Part
shown t = (t, term_tree t)

abbrev pub all_shown : List Term → List Part
all_shown ts = map shown ts

-- a term from its head, its arguments and its type, whose parts stand in this place
abbrev pub from_parts : Head → List Term → Ty → Shown
from_parts h ts ty known at = made h (bound_name (letter h) at) (spoken h at) ty at (arguments h (right_first ts) 0 (all_shown ts) known at)

-- The tree of a term is made of its parts.
abbrev pub IsMadeOfParts : Term → Type 0
IsMadeOfParts t =
    (known : Bool) (at : Place)
    → term_tree t known at ≡ from_parts (out-Term t).head (out-Term t).args (out-Term t).ty known (inside (out-Term t).head (out-Term t).args at)

-- the tree of a form, in its place
abbrev pub form_tree : Term → Place → Node
form_tree t at = form (shown t) true at
