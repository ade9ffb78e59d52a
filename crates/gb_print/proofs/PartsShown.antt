-- What is written of an argument reads as its tree: as a form, as an operand, or in brackets.
use Rattle.std.specs.Prelude.{ℕ, ◌≡◌, Bool, true, false, not, ◌&&◌, if◌then◌else◌, List}
use Rattle.std.proofs.Common.{refl, sym, subst}
use Rattle.gb_terms.specs.declared.term.Term.{Term, out-Term}
use Rattle.gb_terms.specs.declared.term.Head.{Head}
use Rattle.gb_terms.specs.declared.term.Head.TheVariants as term
use Rattle.gb_script.specs.declared.tree.Node.{Node}
use Rattle.gb_print_names.specs.Text.{Writing}
use Rattle.gb_print_names.specs.BoundNames.{Place}
use Rattle.gb_print_names.specs.Types as print
use Rattle.gb_print_names.specs.declared.shape.Shape.TheVariants.{Application, Sum}
use Rattle.gb_print_names.specs.Open.{type_of, is_open, is_int, needs_type}
use Rattle.gb_print_names.specs.Shapes.{shape, stands_alone, runs_on}
use Rattle.gb_print.specs.FormText as text
use Rattle.gb_print.specs.Types as type_tree
use Rattle.gb_print.specs.Forms as tree
use Rattle.gb_print.specs.Written.{is_phoare, is_front}
use Rattle.gb_print.proofs.Tokens.{both}
use Rattle.gb_print.proofs.TypesShown.{ShowsType}
use Rattle.gb_print.proofs.Pieces.{Shows, ShowsSummand, ShowsOperand, as_summand, as_form, operand_as_form}
use Rattle.gb_print.proofs.Shown.{bracketed, annotated}

-- What is written of a head with its arguments reads as an operand, or as one that ends with a bound, or as a form that stands
-- in brackets where it is an operand.
pub data HeadShows (stage : ℕ) (h : Head) (ts : List Term) (w : Writing) (x : Node) : Type 0 where
  as_one : ShowsOperand stage w x → HeadShows stage h ts w x
  with_bound : is_phoare h ≡ true → ShowsSummand stage w x → HeadShows stage h ts w x
  as_whole : stands_alone (shape h) ts ≡ false → Shows stage w x → HeadShows stage h ts w x

pub record ShownTerm (stage : ℕ) (at : Place) (t : Term) : Type 0 where
  pub term : (known : Bool) → HeadShows stage (out-Term t).head (out-Term t).args (text.term_text t known at) (tree.term_tree t known at)
  pub type : is_open t ≡ true → is_int (type_of t) ≡ false → ShowsType stage stage at.bound (print.type_part (type_of t)) (type_tree.type_part (type_of t))

form_of : {stage : ℕ} {h : Head} {ts : List Term} {w : Writing} {x : Node} → HeadShows stage h ts w x → Shows stage w x
form_of (as_one o) = operand_as_form o
form_of (with_bound p s) = as_form s
form_of (as_whole a s) = s

summand_of : {stage : ℕ} {h : Head} {ts : List Term} {w : Writing} {x : Node} → stands_alone (shape h) ts ≡ true → HeadShows stage h ts w x → ShowsSummand stage w x
summand_of e (as_one o) = as_summand o
summand_of e (with_bound p s) = s
summand_of e (as_whole a s) = absurd cc

operand_of : {stage : ℕ} {h : Head} {ts : List Term} {w : Writing} {x : Node} → stands_alone (shape h) ts ≡ true → is_phoare h ≡ false → HeadShows stage h ts w x → ShowsOperand stage w x
operand_of e f (as_one o) = o
operand_of e f (with_bound p s) = absurd cc
operand_of e f (as_whole a s) = absurd cc

not_true : (b : Bool) → not b ≡ true → b ≡ false
not_true true h = absurd cc
not_true false h = refl

-- Behind a function, a form that ends with a bound stands in brackets.
bound_runs : (i : ℕ) (h : Head) → runs_on Application i (shape h) ≡ false → is_phoare h ≡ false
bound_runs i (term.Phoare c r) e = absurd cc
bound_runs i (term.Lit v) e = refl
bound_runs i (term.Whole n) e = refl
bound_runs i (term.Read r) e = refl
bound_runs i (term.Bound j) e = refl
bound_runs i (term.Builtin o) e = refl
bound_runs i (term.User x) e = refl
bound_runs i (term.All u) e = refl
bound_runs i (term.Some u) e = refl
bound_runs i term.AllMemory e = refl
bound_runs i term.SomeMemory e = refl
bound_runs i (term.AllModule b) e = refl
bound_runs i term.Mu e = refl
bound_runs i (term.Sum q) e = refl
bound_runs i (term.Weights ps) e = refl
bound_runs i term.Map e = refl
bound_runs i term.Restrict e = refl
bound_runs i (term.Pr p s) e = refl
bound_runs i (term.Glob m s) e = refl
bound_runs i (term.Hoare c) e = refl
bound_runs i (term.Equiv c d) e = refl

-- .. and in front of a `+^` too
first_runs : (h : Head) → runs_on Sum 0 (shape h) ≡ false → is_phoare h ≡ false
first_runs (term.Phoare c r) e = absurd cc
first_runs (term.Lit v) e = refl
first_runs (term.Whole n) e = refl
first_runs (term.Read r) e = refl
first_runs (term.Bound i) e = refl
first_runs (term.Builtin o) e = refl
first_runs (term.User x) e = refl
first_runs (term.All u) e = refl
first_runs (term.Some u) e = refl
first_runs term.AllMemory e = refl
first_runs term.SomeMemory e = refl
first_runs (term.AllModule b) e = refl
first_runs term.Mu e = refl
first_runs (term.Sum q) e = refl
first_runs (term.Weights ps) e = refl
first_runs term.Map e = refl
first_runs term.Restrict e = refl
first_runs (term.Pr p s) e = refl
first_runs (term.Glob m s) e = refl
first_runs (term.Hoare c) e = refl
first_runs (term.Equiv c d) e = refl

needed : (t : Term) (known : Bool) → needs_type known t ≡ true → (is_open t ≡ true) × (is_int (type_of t) ≡ false)
needed t known h =
    let parts = both (is_open t && not known) (not (is_int (type_of t))) h in
    ((both (is_open t) (not known) parts.0).0, not_true (is_int (type_of t)) parts.1)

module _ {stage : ℕ} {at : Place} {t : Term} (s : ShownTerm stage at t) where
  typed_part : (known : Bool) → needs_type known t ≡ true → ShowsOperand stage (text.annotated (text.shown t) at) (tree.annotated (tree.shown t) at)
  typed_part known e = let n = needed t known e in annotated at (form_of (s.term true)) (s.type n.0 n.1)

  form_by : (known b : Bool) → needs_type known t ≡ b → Shows stage (text.form (text.shown t) known at) (tree.form (tree.shown t) known at)
  form_by known true e =
      let o = operand_as_form (typed_part known e) in
      subst (λ (b : Bool). Shows stage (if b then text.annotated (text.shown t) at else text.term_text t known at) (if b then tree.annotated (tree.shown t) at else tree.term_tree t known at)) (sym e) o
  form_by known false e =
      subst (λ (b : Bool). Shows stage (if b then text.annotated (text.shown t) at else text.term_text t known at) (if b then tree.annotated (tree.shown t) at else tree.term_tree t known at)) (sym e) (form_of (s.term known))

  pub part_form : (known : Bool) → Shows stage (text.form (text.shown t) known at) (tree.form (tree.shown t) known at)
  part_form known = form_by known (needs_type known t) refl

  pub part_bracketed : (known : Bool) → ShowsOperand stage (text.bracketed (text.shown t) known at) (tree.in_brackets (tree.term_tree t known at))
  part_bracketed known = bracketed (form_of (s.term known))

  -- the writing and the tree of an operand, by the two tests
  abbrev operand_writing : Bool → Bool → Bool → Writing
  operand_writing known b c = if b then text.annotated (text.shown t) at else if c then text.term_text t known at else text.in_brackets (text.term_text t known at)

  abbrev operand_tree : Bool → Bool → Bool → Node
  operand_tree known b c = if b then tree.annotated (tree.shown t) at else if c then tree.term_tree t known at else tree.in_brackets (tree.term_tree t known at)

  summand_by : (known b c : Bool) → needs_type known t ≡ b → text.is_alone t ≡ c → ShowsSummand stage (operand_writing known b c) (operand_tree known b c)
  summand_by known true c e f = as_summand (typed_part known e)
  summand_by known false true e f = summand_of f (s.term known)
  summand_by known false false e f = as_summand (part_bracketed known)

  pub part_summand : (known : Bool) → ShowsSummand stage (text.operand (text.shown t) known at) (tree.operand (tree.shown t) known at)
  part_summand known = summand_by known (needs_type known t) (text.is_alone t) refl refl

  operand_by : (known b c : Bool) → needs_type known t ≡ b → text.is_alone t ≡ c → is_phoare (out-Term t).head ≡ false → ShowsOperand stage (operand_writing known b c) (operand_tree known b c)
  operand_by known true c e f p = typed_part known e
  operand_by known false true e f p = operand_of f p (s.term known)
  operand_by known false false e f p = part_bracketed known

  pub part_operand : (known : Bool) → is_front t ≡ true → ShowsOperand stage (text.operand (text.shown t) known at) (tree.operand (tree.shown t) known at)
  part_operand known h = operand_by known (needs_type known t) (text.is_alone t) refl refl (not_true (is_phoare (out-Term t).head) h)

  -- an argument that stands in brackets where it ends with a bound
  argument_by : (known b : Bool) → (b ≡ false → is_phoare (out-Term t).head ≡ false)
      → ShowsOperand stage ((if b then text.bracketed (text.shown t) else text.operand (text.shown t)) known at)
      (if b then tree.in_brackets (tree.term_tree t known at) else tree.operand (tree.shown t) known at)
  argument_by known true f = part_bracketed known
  argument_by known false f = operand_by known (needs_type known t) (text.is_alone t) refl refl (f refl)

  -- an argument of a function
  pub part_argument : (i : ℕ) (known : Bool) → ShowsOperand stage ((if runs_on Application i (shape (out-Term t).head) then text.bracketed (text.shown t) else text.operand (text.shown t)) known at)
      (if runs_on Application i (shape (out-Term t).head) then tree.in_brackets (tree.term_tree t known at) else tree.operand (tree.shown t) known at)
  part_argument i known = argument_by known (runs_on Application i (shape (out-Term t).head)) (bound_runs i (out-Term t).head)

  -- the first operand of `+^`
  pub part_first : (known : Bool) → ShowsOperand stage ((if runs_on Sum 0 (shape (out-Term t).head) then text.bracketed (text.shown t) else text.operand (text.shown t)) known at)
      (if runs_on Sum 0 (shape (out-Term t).head) then tree.in_brackets (tree.term_tree t known at) else tree.operand (tree.shown t) known at)
  part_first known = argument_by known (runs_on Sum 0 (shape (out-Term t).head)) (first_runs (out-Term t).head)
