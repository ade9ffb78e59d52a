-- Programs with an operator unfolded, layer by layer.
use Rattle.std.proofs.Common.{◌≡◌, List, [], ◌∷◌, map, refl, ap, sym, ◌∙◌}
use Rattle.gb_core.specs.declared.ty.Ty.{Ty}
use Rattle.gb_core.specs.declared.var.Var.{Var}
use Rattle.gb_terms.specs.declared.module.ProcRef.{ProcRef}
use Rattle.gb_terms.specs.declared.term.Term.{Term, Term', Row_of-Term, end_of-Head, more_of-Head, out-Term, roll-Term, end_of-Term, more_of-Term, items-the_row-Term, items_shown-the_row-Term-0, items_hidden-the_row-Term-0}
use Rattle.gb_terms.specs.declared.term.Instr.{Instr, out-Instr, Row_of-Instr, end_of-Instr, more_of-Instr}
use Rattle.gb_terms.specs.declared.term.Subject.{Subject}
use Rattle.gb_terms.specs.declared.term.Cmd.{Cmd, items-the_row-Instr, items_hidden-the_row-Instr-1}
use Rattle.gb_terms.specs.declared.term.Head.{Head}
use Rattle.gb_terms.specs.declared.term.Head.TheBlock as B
use Rattle.gb_terms.specs.declared.term.Head.TheBlock.{items_shown-the_row-Instr-1}
use Rattle.gb_terms.specs.declared.term.Head.TheOpen as layer
use Rattle.gb_terms.specs.declared.term.Head.TheVariants.{Call, Call', If, If', While, While', Body, Body'}
use Rattle.gb_terms.specs.declared.term.Head.TheViews.{roll-Instr, roll-Subject, roll-out-Instr, roll-out-Subject, roll-out-Term, outs-Call', outs-If', outs-While', outs-Body'}
use Rattle.gb_terms.specs.Make.{node}
use Rattle.gb_meaning.specs.Commands.{terms_in}
use Rattle.gb_meaning.specs.Names.{Name}
use Rattle.gb_laws.proofs.Trees.{out_is}
use Rattle.gb_rewrite.specs.Unfolded.{head_unfolded, programs_unfolded, unfolded, row_unfolded, statement_unfolded, statement_at, body_unfolded, subject_unfolded, cmd_unfolded}
use Rattle.sqlite_items.specs.formers.items.Items.{the_former}
use mathlib.Core.Former.{Count, arity, this}

abbrev pub Places : Type 0
Places = List (Unit {0})

abbrev pub TermRow : Places → Type 0
TermRow n = Row_of-Term (arity (the_former (this {0})) n)

abbrev pub InstrRow : Places → Type 0
InstrRow n = Row_of-Instr (arity (the_former (this {0})) n)

abbrev cmd_of : List Instr → Cmd
cmd_of l = record { list = l }

-- a term from its layer
pub made_node : (h : Head) (n : Places) (ts : TermRow n) (ty : Ty) → node h (terms_in ts) ty ≡ Term' tt (more_of-Head h end_of-Head) n ts ty
made_node h n ts ty = sym (ap roll-Term (out_is h n ts ty)) ∙ roll-out-Term (Term' tt (more_of-Head h end_of-Head) n ts ty)

pub programs_out : (x : Name) (b t : Term) → programs_unfolded x b t ≡ node (head_unfolded x b (out-Term t).head) (out-Term t).args (out-Term t).ty
programs_out x b (Term' tt (more_of-Head h end_of-Head) n ts ty) =
    sym (made_node (head_unfolded x b h) n ts ty) ∙ ap (λ y. node (head_unfolded x b y.head) y.args y.ty) (sym (out_is h n ts ty))

-- statements and bodies from their lists

rolled_call : (xs : List Var) (p : ProcRef) (n : Places) (es : TermRow n) → Call' xs p n es ≡ roll-Instr (layer.Call xs p (items-the_row-Term _ es))
rolled_call xs p n es = sym (roll-out-Instr (Call' xs p n es)) ∙ ap roll-Instr (outs-Call' xs p n es ∙ ap (λ l. layer.Call xs p l) (items_shown-the_row-Term-0 n es))

rolled_if : (e : Term) (m : Places) (a : InstrRow m) (n : Places) (b : InstrRow n) → If' e m a n b ≡ roll-Instr (layer.If e (cmd_of (items-the_row-Instr _ a)) (cmd_of (items-the_row-Instr _ b)))
rolled_if e m a n b =
    sym (roll-out-Instr (If' e m a n b)) ∙ ap roll-Instr (outs-If' e m a n b ∙ (λ i. layer.If e (cmd_of (items_shown-the_row-Instr-1 m a i)) (cmd_of (items_shown-the_row-Instr-1 n b i))))

rolled_while : (e v : Term) (n : Places) (a : InstrRow n) → While' e v n a ≡ roll-Instr (layer.While e v (cmd_of (items-the_row-Instr _ a)))
rolled_while e v n a =
    sym (roll-out-Instr (While' e v n a)) ∙ ap roll-Instr (outs-While' e v n a ∙ (λ i. layer.While e v (cmd_of (items_shown-the_row-Instr-1 n a i))))

rolled_body : (n : Places) (is : InstrRow n) → Body' n is ≡ roll-Subject (layer.Body (cmd_of (items-the_row-Instr _ is)))
rolled_body n is = sym (roll-out-Subject (Body' n is)) ∙ ap roll-Subject (outs-Body' n is ∙ (λ i. layer.Body (cmd_of (items_shown-the_row-Instr-1 n is i))))

module _ (x : Name) (b : Term) where
  row_items : {n : Count} (ts : Row_of-Term n) → items-the_row-Term _ (row_unfolded x b ts) ≡ map (unfolded x b) (items-the_row-Term _ ts)
  row_items end_of-Term = refl
  row_items (more_of-Term t ts) = ap (λ z. unfolded x b t ∷ z) (row_items ts)

  body_items : {n : Count} (is : Row_of-Instr n) → items-the_row-Instr _ (body_unfolded x b is) ≡ map (statement_unfolded x b) (items-the_row-Instr _ is)
  body_items end_of-Instr = refl
  body_items (more_of-Instr i is) = ap (λ z. statement_unfolded x b i ∷ z) (body_items is)

  -- by rows

  call_row : (xs : List Var) (p : ProcRef) (n : Places) (es : TermRow n) →
      statement_unfolded x b (roll-Instr (layer.Call xs p (items-the_row-Term _ es))) ≡ roll-Instr (layer.Call xs p (map (unfolded x b) (items-the_row-Term _ es)))
  call_row xs p n es =
      ap (statement_unfolded x b) (sym (rolled_call xs p n es)) ∙ rolled_call xs p n (row_unfolded x b es) ∙ ap (λ l. roll-Instr (layer.Call xs p l)) (row_items es)

  if_row : (e : Term) (m : Places) (a : InstrRow m) (n : Places) (c : InstrRow n) →
      statement_unfolded x b (roll-Instr (layer.If e (cmd_of (items-the_row-Instr _ a)) (cmd_of (items-the_row-Instr _ c))))
      ≡ roll-Instr (layer.If (unfolded x b e) (cmd_unfolded x b (cmd_of (items-the_row-Instr _ a))) (cmd_unfolded x b (cmd_of (items-the_row-Instr _ c))))
  if_row e m a n c =
      ap (statement_unfolded x b) (sym (rolled_if e m a n c)) ∙ rolled_if (unfolded x b e) m (body_unfolded x b a) n (body_unfolded x b c)
      ∙ (λ i. roll-Instr (layer.If (unfolded x b e) (cmd_of (body_items a i)) (cmd_of (body_items c i))))

  while_row : (e v : Term) (n : Places) (a : InstrRow n) →
      statement_unfolded x b (roll-Instr (layer.While e v (cmd_of (items-the_row-Instr _ a))))
      ≡ roll-Instr (layer.While (unfolded x b e) (unfolded x b v) (cmd_unfolded x b (cmd_of (items-the_row-Instr _ a))))
  while_row e v n a =
      ap (statement_unfolded x b) (sym (rolled_while e v n a)) ∙ rolled_while (unfolded x b e) (unfolded x b v) n (body_unfolded x b a)
      ∙ (λ i. roll-Instr (layer.While (unfolded x b e) (unfolded x b v) (cmd_of (body_items a i))))

  body_row : (n : Places) (is : InstrRow n) →
      subject_unfolded x b (roll-Subject (layer.Body (cmd_of (items-the_row-Instr _ is)))) ≡ roll-Subject (layer.Body (cmd_unfolded x b (cmd_of (items-the_row-Instr _ is))))
  body_row n is =
      ap (subject_unfolded x b) (sym (rolled_body n is)) ∙ rolled_body n (body_unfolded x b is) ∙ (λ i. roll-Subject (layer.Body (cmd_of (body_items is i))))

  -- by lists

  call_unfolded : (xs : List Var) (p : ProcRef) (es : List Term) → statement_unfolded x b (Call xs p es) ≡ Call xs p (map (unfolded x b) es)
  unfolding roll-Instr denote.Hole.Carrier.roll
  call_unfolded xs p es =
      let y = items_hidden-the_row-Term-0 es in
      (λ i. statement_unfolded x b (roll-Instr (layer.Call xs p (sym y i))))
      ∙ call_row xs p _ (B.hidden-the_row-Term-0 es)
      ∙ (λ i. roll-Instr (layer.Call xs p (map (unfolded x b) (y i))))

  if_unfolded : (e : Term) (a c : Cmd) → statement_unfolded x b (If e a c) ≡ If (unfolded x b e) (cmd_unfolded x b a) (cmd_unfolded x b c)
  unfolding roll-Instr denote.Hole.Carrier.roll
  if_unfolded e a c =
      let y = items_hidden-the_row-Instr-1 a.list in
      let z = items_hidden-the_row-Instr-1 c.list in
      (λ i. statement_unfolded x b (roll-Instr (layer.If e (cmd_of (sym y i)) (cmd_of (sym z i)))))
      ∙ if_row e _ (B.hidden-the_row-Instr-1 a.list) _ (B.hidden-the_row-Instr-1 c.list)
      ∙ (λ i. roll-Instr (layer.If (unfolded x b e) (cmd_unfolded x b (cmd_of (y i))) (cmd_unfolded x b (cmd_of (z i)))))

  while_unfolded : (e v : Term) (a : Cmd) → statement_unfolded x b (While e v a) ≡ While (unfolded x b e) (unfolded x b v) (cmd_unfolded x b a)
  unfolding roll-Instr denote.Hole.Carrier.roll
  while_unfolded e v a =
      let y = items_hidden-the_row-Instr-1 a.list in
      (λ i. statement_unfolded x b (roll-Instr (layer.While e v (cmd_of (sym y i)))))
      ∙ while_row e v _ (B.hidden-the_row-Instr-1 a.list)
      ∙ (λ i. roll-Instr (layer.While (unfolded x b e) (unfolded x b v) (cmd_unfolded x b (cmd_of (y i)))))

  pub body_unfolded_is : (a : Cmd) → subject_unfolded x b (Body a) ≡ Body (cmd_unfolded x b a)
  unfolding roll-Subject denote.Hole.Carrier.roll
  body_unfolded_is a =
      let y = items_hidden-the_row-Instr-1 a.list in
      (λ i. subject_unfolded x b (roll-Subject (layer.Body (cmd_of (sym y i)))))
      ∙ body_row _ (B.hidden-the_row-Instr-1 a.list)
      ∙ (λ i. roll-Subject (layer.Body (cmd_unfolded x b (cmd_of (y i)))))

  at_layer : (y : layer.Instr-F Head Instr Subject Cmd Term) → statement_unfolded x b (roll-Instr y) ≡ statement_at x b y
  unfolding roll-Instr denote.Hole.Carrier.roll
  at_layer (layer.Assign xs e) = refl
  at_layer (layer.Sample y d) = refl
  at_layer (layer.Call xs p es) = call_unfolded xs p es
  at_layer (layer.If e a c) = if_unfolded e a c
  at_layer (layer.While e v a) = while_unfolded e v a

  statement_out : (i : Instr) → statement_unfolded x b i ≡ statement_at x b (out-Instr i)
  statement_out i = ap (statement_unfolded x b) (sym (roll-out-Instr i)) ∙ at_layer (out-Instr i)

  pub statements_out : (l : List Instr) → map (statement_unfolded x b) l ≡ map (λ i. statement_at x b (out-Instr i)) l
  statements_out [] = refl
  statements_out (i ∷ l) = λ n. statement_out i n ∷ statements_out l n
