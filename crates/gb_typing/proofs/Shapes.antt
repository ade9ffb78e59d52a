-- The goal of a form, and the form of a goal.
use Rattle.std.proofs.Common.{◌≡◌, List, [], ◌∷◌, refl, ap, sym, ◌∙◌}
use Rattle.gb_core.specs.declared.ty.Ty.{Ty}
use Rattle.gb_core.specs.declared.ty.Ty.TheVariants as ty
use Rattle.gb_terms.specs.declared.term.Term.{Term, Term', end_of-Head, more_of-Head, out-Term}
use Rattle.gb_terms.specs.declared.term.Head.{Head}
use Rattle.gb_terms.specs.declared.term.Head.TheVariants as head
use Rattle.gb_terms.specs.declared.term.Head.TheVariants.{Body', Proc}
use Rattle.gb_terms.specs.declared.term.Head.TheBlock as B
use Rattle.gb_terms.specs.declared.term.Head.TheBlock.{items_shown-the_row-Instr-1}
use Rattle.gb_terms.specs.declared.term.Head.TheOpen as layer
use Rattle.gb_terms.specs.declared.term.Head.TheViews.{roll-Subject, roll-out-Subject, outs-Body'}
use Rattle.gb_terms.specs.declared.term.Instr.{Instr}
use Rattle.gb_terms.specs.declared.term.Cmd.{Cmd, items-the_row-Instr, items_hidden-the_row-Instr-1}
use Rattle.gb_terms.specs.declared.term.Subject.{Subject, out-Subject}
use Rattle.gb_terms.specs.Make.{node}
use Rattle.gb_meaning.specs.Commands.{terms_in}
use Rattle.gb_meaning.specs.Trees.{row, places}
use Rattle.gb_meaning.specs.Written.{type_of}
use Rattle.gb_meaning.proofs.Nodes.{each_is_node, term_is_node}
use Rattle.gb_laws.proofs.Trees.{out_is}
use Rattle.gb_goal.specs.Goal.{Code, Goal, subject_of, form_of, code_at, code_of, goal_at, goal_of, IsJudgment}
use Rattle.gb_goal.specs.Goal.Code.{body, procedure}
use Rattle.gb_goal.specs.Goal.Goal.{hoare, phoare, equiv, ambient}

out_type : (t : Term) → (out-Term t).ty ≡ type_of t
out_type (Term' tt (more_of-Head h end_of-Head) n ts ty) = ap (λ z. z.ty) (out_is h n ts ty)

terms_of_row : (ts : List Term) → terms_in (row ts) ≡ ts
terms_of_row [] = refl
terms_of_row (t ∷ ts) = ap (λ z. t ∷ z) (terms_of_row ts)

pub node_out : (h : Head) (ts : List Term) (u : Ty) → out-Term (node h ts u) ≡ record { head = h; args = ts; ty = u }
node_out h ts u =
    ap out-Term (sym (term_is_node h ts u)) ∙ out_is h (places ts) (row ts) u ∙ (λ i. record { head = h; args = terms_of_row ts i; ty = u })

-- Subjects.

abbrev cmd_of : List Instr → Cmd
cmd_of l = record { list = l }

-- the code of a body, given by its row of statements
pub code_row : (k : _) (is : _) → code_of (Body' k is) ≡ body (items-the_row-Instr _ is)
code_row k is = ap code_at (outs-Body' k is) ∙ (λ i. body (items_shown-the_row-Instr-1 k is i))

pub code_back : (a : Code) → code_of (subject_of a) ≡ a
unfolding out-Subject denote.Hole.Carrier.out
code_back (body is) = code_row _ (B.hidden-the_row-Instr-1 is) ∙ (λ i. body (items_hidden-the_row-Instr-1 is i))
code_back (procedure p) = refl

subject_at : (s : Subject) (l : layer.Subject-F Head Instr Subject Cmd Term) → out-Subject s ≡ l → subject_of (code_at l) ≡ s
unfolding roll-Subject denote.Hole.Carrier.roll
subject_at s (layer.Body c) e = sym (ap roll-Subject e) ∙ roll-out-Subject s
subject_at s (layer.Proc p) e = sym (ap roll-Subject e) ∙ roll-out-Subject s

pub subject_back : (s : Subject) → subject_of (code_of s) ≡ s
subject_back s = subject_at s (out-Subject s) refl

-- Goals.

form_at : (f : Term) (h : Head) (ts : List Term) → node h ts ty.Bool ≡ f → form_of (goal_at f h ts) ≡ f
form_at f (head.Hoare s) (p ∷ q ∷ []) k = ap (λ s. node (head.Hoare s) (p ∷ q ∷ []) ty.Bool) (subject_back s) ∙ k
form_at f (head.Hoare s) [] k = refl
form_at f (head.Hoare s) (p ∷ []) k = refl
form_at f (head.Hoare s) (p ∷ q ∷ b ∷ ts) k = refl
form_at f (head.Phoare s r) (p ∷ q ∷ b ∷ []) k = ap (λ s. node (head.Phoare s r) (p ∷ q ∷ b ∷ []) ty.Bool) (subject_back s) ∙ k
form_at f (head.Phoare s r) [] k = refl
form_at f (head.Phoare s r) (p ∷ []) k = refl
form_at f (head.Phoare s r) (p ∷ q ∷ []) k = refl
form_at f (head.Phoare s r) (p ∷ q ∷ b ∷ t ∷ ts) k = refl
form_at f (head.Equiv s u) (p ∷ q ∷ []) k = (λ i. node (head.Equiv (subject_back s i) (subject_back u i)) (p ∷ q ∷ []) ty.Bool) ∙ k
form_at f (head.Equiv s u) [] k = refl
form_at f (head.Equiv s u) (p ∷ []) k = refl
form_at f (head.Equiv s u) (p ∷ q ∷ b ∷ ts) k = refl
form_at f _ ts k = refl

-- the form of a form's goal
pub goal_form : (f : Term) → type_of f ≡ ty.Bool → form_of (goal_of f) ≡ f
goal_form f e =
    form_at f (out-Term f).head (out-Term f).args
    (sym (each_is_node f ∙ ap (λ t. node (out-Term f).head (out-Term f).args t) (out_type f ∙ e)))

-- the goal of a judgment's form
pub form_goal : (G : Goal) → IsJudgment G → goal_of (form_of G) ≡ G
form_goal (hoare a p q) k =
    ap (λ x. goal_at (form_of (hoare a p q)) x.head x.args) (node_out (head.Hoare (subject_of a)) (p ∷ q ∷ []) ty.Bool) ∙ ap (λ a. hoare a p q) (code_back a)
form_goal (phoare a r p q b) k =
    ap (λ x. goal_at (form_of (phoare a r p q b)) x.head x.args) (node_out (head.Phoare (subject_of a) r) (p ∷ q ∷ b ∷ []) ty.Bool)
    ∙ ap (λ a. phoare a r p q b) (code_back a)
form_goal (equiv a b p q) k =
    ap (λ x. goal_at (form_of (equiv a b p q)) x.head x.args) (node_out (head.Equiv (subject_of a) (subject_of b)) (p ∷ q ∷ []) ty.Bool)
    ∙ (λ i. equiv (code_back a i) (code_back b i) p q)
form_goal (ambient f) k = absurd k
