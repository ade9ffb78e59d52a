-- Bodies with changes made, by their constructors.
use Rattle.std.proofs.Common.{◌≡◌, List, ◌∷◌, map, refl, ap, sym, ◌∙◌}
use Rattle.gb_core.specs.declared.var.Var.{Var}
use Rattle.gb_terms.specs.declared.module.ProcRef.{ProcRef}
use Rattle.gb_terms.specs.declared.term.Term.{Term, Row_of-Term, end_of-Term, more_of-Term, items-the_row-Term, items_shown-the_row-Term-0}
use Rattle.gb_terms.specs.declared.term.Instr.{Instr, Row_of-Instr, end_of-Instr, more_of-Instr}
use Rattle.gb_terms.specs.declared.term.Subject.{Subject}
use Rattle.gb_terms.specs.declared.term.Cmd.{Cmd, items-the_row-Instr}
use Rattle.gb_terms.specs.declared.term.Head.TheBlock.{items_shown-the_row-Instr-1}
use Rattle.gb_terms.specs.declared.term.Head.TheOpen as layer
use Rattle.gb_terms.specs.declared.term.Head.TheVariants.{Assign, Sample, Call', If', While', Body'}
use Rattle.gb_terms.specs.declared.term.Head.TheViews.{rolls-struct-Cmd, roll-Instr, roll-Subject, roll-Cmd, roll-out-Instr, roll-out-Subject, outs-Call', outs-If', outs-While', outs-Body'}
use Rattle.gb_terms.specs.declared.term.Head.TheFolds.{fold-roll-Instr, fold-roll-Subject}
use Rattle.gb_walk.specs.Change.{Made}
use Rattle.gb_walk.specs.Change.{Changes, is_own, without, at_head, at_instr, at_subject, at_cmd, at_term, term_changed, instr_changed, cmd_changed, subject_changed}
use Rattle.gb_walk.proofs.Lists.{applied_map}
use Rattle.gb_walk.proofs.ChangeSteps.{cmd_changed_list}
use Rattle.sqlite_items.specs.formers.items.Items.{the_former}
use mathlib.Core.Former.{Count, arity, this}

abbrev pub terms_changed : {n : Count} → Changes → Row_of-Term n → Row_of-Term n
terms_changed cs end_of-Term = end_of-Term
terms_changed cs (more_of-Term t ts) = more_of-Term (term_changed t cs) (terms_changed cs ts)

-- the body with changes of its terms
abbrev pub body_changed : {n : Count} → Changes → Row_of-Instr n → Row_of-Instr n
body_changed cs end_of-Instr = end_of-Instr
body_changed cs (more_of-Instr (Assign xs e) is) = more_of-Instr (Assign xs (term_changed e cs)) (body_changed cs is)
body_changed cs (more_of-Instr (Sample x d) is) = more_of-Instr (Sample x (term_changed d cs)) (body_changed cs is)
body_changed cs (more_of-Instr (Call' xs p n es) is) = more_of-Instr (Call' xs p n (terms_changed cs es)) (body_changed cs is)
body_changed cs (more_of-Instr (If' e m a n b) is) = more_of-Instr (If' (term_changed e cs) m (body_changed cs a) n (body_changed cs b)) (body_changed cs is)
body_changed cs (more_of-Instr (While' e v n a) is) = more_of-Instr (While' (term_changed e cs) (term_changed v cs) n (body_changed cs a)) (body_changed cs is)

abbrev Places : Type 0
Places = List (Unit {0})

abbrev TermRow : Places → Type 0
TermRow n = Row_of-Term (arity (the_former (this {0})) n)

abbrev InstrRow : Places → Type 0
InstrRow n = Row_of-Instr (arity (the_former (this {0})) n)

abbrev cmd_of : List Instr → Cmd
cmd_of l = record { list = l }

-- statements and bodies from their lists

rolled_call : (xs : List Var) (p : ProcRef) (n : Places) (es : TermRow n) → Call' xs p n es ≡ roll-Instr (layer.Call xs p (items-the_row-Term _ es))
rolled_call xs p n es = sym (roll-out-Instr (Call' xs p n es)) ∙ ap roll-Instr (outs-Call' xs p n es ∙ ap (λ l. layer.Call xs p l) (items_shown-the_row-Term-0 n es))

rolled_if : (e : Term) (m : Places) (a : InstrRow m) (n : Places) (b : InstrRow n) → If' e m a n b ≡ roll-Instr (layer.If e (cmd_of (items-the_row-Instr _ a)) (cmd_of (items-the_row-Instr _ b)))
rolled_if e m a n b =
    sym (roll-out-Instr (If' e m a n b)) ∙ ap roll-Instr (outs-If' e m a n b ∙ (λ i. layer.If e (cmd_of (items_shown-the_row-Instr-1 m a i)) (cmd_of (items_shown-the_row-Instr-1 n b i))))

rolled_while : (e v : Term) (n : Places) (a : InstrRow n) → While' e v n a ≡ roll-Instr (layer.While e v (cmd_of (items-the_row-Instr _ a)))
rolled_while e v n a =
    sym (roll-out-Instr (While' e v n a)) ∙ ap roll-Instr (outs-While' e v n a ∙ (λ i. layer.While e v (cmd_of (items_shown-the_row-Instr-1 n a i))))

rolled_body : (n : Places) (is : InstrRow n) → Body' n is ≡ roll-Subject (layer.Body (cmd_of (items-the_row-Instr _ is)))
rolled_body n is = sym (roll-out-Subject (Body' n is)) ∙ ap roll-Subject (outs-Body' n is ∙ (λ i. layer.Body (cmd_of (items_shown-the_row-Instr-1 n is i))))

roll_cmd : (l : List Instr) → roll-Cmd (record { list = l }) ≡ cmd_of l
roll_cmd l = rolls-struct-Cmd (record { list = l })

module _ (cs : Changes) where
  terms_items : {n : Count} (ts : Row_of-Term n) → items-the_row-Term _ (terms_changed cs ts) ≡ map (λ t. term_changed t cs) (items-the_row-Term _ ts)
  terms_items end_of-Term = refl
  terms_items (more_of-Term t ts) = ap (λ z. term_changed t cs ∷ z) (terms_items ts)

  cmd_changed_is : (l : List Instr) → cmd_changed (cmd_of l) cs ≡ cmd_of (map (λ i. instr_changed i cs) l)
  cmd_changed_is l = cmd_changed_list (cmd_of l) cs ∙ roll_cmd (map (λ i. instr_changed i cs) l)

  assign_changed : (xs : List Var) (e : Term) → instr_changed (Assign xs e) cs ≡ Assign xs (term_changed e cs)
  unfolding roll-Instr denote.Hole.Carrier.roll
  assign_changed xs e =
      ap (λ f. f cs) (fold-roll-Instr (Changes → Made) (Changes → Instr) (Changes → Subject) (Changes → Cmd) (Changes → Term) at_head at_instr at_subject at_cmd at_term (layer.Assign xs e))

  sample_changed : (x : Var) (d : Term) → instr_changed (Sample x d) cs ≡ Sample x (term_changed d cs)
  unfolding roll-Instr denote.Hole.Carrier.roll
  sample_changed x d =
      ap (λ f. f cs) (fold-roll-Instr (Changes → Made) (Changes → Instr) (Changes → Subject) (Changes → Cmd) (Changes → Term) at_head at_instr at_subject at_cmd at_term (layer.Sample x d))

  call_changed : (xs : List Var) (p : ProcRef) (n : Places) (es : TermRow n) → instr_changed (Call' xs p n es) cs ≡ Call' xs p n (terms_changed cs es)
  call_changed xs p n es =
      ap (λ z. instr_changed z cs) (rolled_call xs p n es)
      ∙ ap (λ f. f cs) (fold-roll-Instr (Changes → Made) (Changes → Instr) (Changes → Subject) (Changes → Cmd) (Changes → Term) at_head at_instr at_subject at_cmd at_term (layer.Call xs p (items-the_row-Term _ es)))
      ∙ ap (λ l. roll-Instr (layer.Call xs p l)) (applied_map term_changed cs (items-the_row-Term _ es) ∙ sym (terms_items es))
      ∙ sym (rolled_call xs p n (terms_changed cs es))

  if_changed : (e : Term) (l r : List Instr) → instr_changed (roll-Instr (layer.If e (cmd_of l) (cmd_of r))) cs
      ≡ roll-Instr (layer.If (term_changed e cs) (cmd_of (map (λ i. instr_changed i cs) l)) (cmd_of (map (λ i. instr_changed i cs) r)))
  if_changed e l r =
      ap (λ f. f cs) (fold-roll-Instr (Changes → Made) (Changes → Instr) (Changes → Subject) (Changes → Cmd) (Changes → Term) at_head at_instr at_subject at_cmd at_term (layer.If e (cmd_of l) (cmd_of r)))
      ∙ (λ i. roll-Instr (layer.If (term_changed e cs) (cmd_changed_is l i) (cmd_changed_is r i)))

  while_changed : (e v : Term) (l : List Instr) → instr_changed (roll-Instr (layer.While e v (cmd_of l))) cs
      ≡ roll-Instr (layer.While (term_changed e cs) (term_changed v cs) (cmd_of (map (λ i. instr_changed i cs) l)))
  while_changed e v l =
      ap (λ f. f cs) (fold-roll-Instr (Changes → Made) (Changes → Instr) (Changes → Subject) (Changes → Cmd) (Changes → Term) at_head at_instr at_subject at_cmd at_term (layer.While e v (cmd_of l)))
      ∙ (λ i. roll-Instr (layer.While (term_changed e cs) (term_changed v cs) (cmd_changed_is l i)))

  instrs_changed : {n : Count} (is : Row_of-Instr n) → map (λ i. instr_changed i cs) (items-the_row-Instr _ is) ≡ items-the_row-Instr _ (body_changed cs is)
  instrs_changed end_of-Instr = refl
  instrs_changed (more_of-Instr (Assign xs e) is) = λ i. assign_changed xs e i ∷ instrs_changed is i
  instrs_changed (more_of-Instr (Sample x d) is) = λ i. sample_changed x d i ∷ instrs_changed is i
  instrs_changed (more_of-Instr (Call' xs p n es) is) = λ i. call_changed xs p n es i ∷ instrs_changed is i
  instrs_changed (more_of-Instr (If' e m a n b) is) =
      let one = ap (λ z. instr_changed z cs) (rolled_if e m a n b) ∙ if_changed e (items-the_row-Instr _ a) (items-the_row-Instr _ b)
      ∙ (λ i. roll-Instr (layer.If (term_changed e cs) (cmd_of (instrs_changed a i)) (cmd_of (instrs_changed b i)))) ∙ sym (rolled_if (term_changed e cs) m (body_changed cs a) n (body_changed cs b)) in
      λ i. one i ∷ instrs_changed is i
  instrs_changed (more_of-Instr (While' e v n a) is) =
      let one = ap (λ z. instr_changed z cs) (rolled_while e v n a) ∙ while_changed e v (items-the_row-Instr _ a)
      ∙ (λ i. roll-Instr (layer.While (term_changed e cs) (term_changed v cs) (cmd_of (instrs_changed a i)))) ∙ sym (rolled_while (term_changed e cs) (term_changed v cs) n (body_changed cs a)) in
      λ i. one i ∷ instrs_changed is i

-- what becomes of a body
pub body_changed_is : (n : Places) (is : InstrRow n) (cs : Changes) → subject_changed (Body' n is) cs ≡ Body' n (body_changed (without is_own cs) is)
body_changed_is n is cs =
    ap (λ z. subject_changed z cs) (rolled_body n is)
    ∙ ap (λ f. f cs) (fold-roll-Subject (Changes → Made) (Changes → Instr) (Changes → Subject) (Changes → Cmd) (Changes → Term) at_head at_instr at_subject at_cmd at_term (layer.Body (cmd_of (items-the_row-Instr _ is))))
    ∙ (λ i. roll-Subject (layer.Body (cmd_changed_is (without is_own cs) (items-the_row-Instr _ is) i)))
    ∙ (λ i. roll-Subject (layer.Body (cmd_of (instrs_changed (without is_own cs) is i))))
    ∙ sym (rolled_body n (body_changed (without is_own cs) is))
