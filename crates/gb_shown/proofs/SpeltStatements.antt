-- Statements by their parts, and lists of them, in which names are names.
use Rattle.std.proofs.Common.{◌≡◌, true, ℕ, zero, suc, List, [], ◌∷◌, ◌++◌, take, drop, ap, sym, ◌∙◌, subst}
use Rattle.std.specs.List.{AllByRecursion, list_all}
use Rattle.sqlite_items.specs.formers.items.Items.{the_former}
use Rattle.gb_core.specs.declared.var.Var.{Var}
use Rattle.gb_terms.specs.declared.module.ProcRef.{ProcRef}
use Rattle.gb_terms.specs.declared.term.Term.{Term, Row_of-Term, end_of-Term, more_of-Term, items-the_row-Term, items_shown-the_row-Term-0, items_hidden-the_row-Term-0}
use Rattle.gb_terms.specs.declared.term.Cmd.{Cmd, items-the_row-Instr, items_hidden-the_row-Instr-1}
use Rattle.gb_terms.specs.declared.term.Instr.{Instr, Row_of-Instr, end_of-Instr, more_of-Instr, out-Instr}
use Rattle.gb_terms.specs.declared.term.Head.TheBlock as B
use Rattle.gb_terms.specs.declared.term.Head.TheBlock.{items_shown-the_row-Instr-1}
use Rattle.gb_terms.specs.declared.term.Head.TheOpen as layer
use Rattle.gb_terms.specs.declared.term.Head.TheVariants.{Call, If, While, Call', If', While'}
use Rattle.gb_terms.specs.declared.term.Head.TheViews.{roll-Instr, roll-out-Instr, outs-Call', outs-If', outs-While'}
use Rattle.gb_print_names.specs.declared.bound_names.Enumeration.{Enumeration}
use Rattle.gb_print.specs.Written.{is_target_here, IsWrittenProcedure}
use Rattle.gb_shown.specs.Named.{IsNamed, AreNamed, IsNamedInstr, AreNamedInstrs}
use mathlib.Core.Former.{Count, arity, this}

abbrev Places : Type 0
Places = List (Unit {0})

abbrev InstrRow : Places → Type 0
InstrRow n = Row_of-Instr (arity (the_former (this {0})) n)

abbrev pub cmd_of : List Instr → Cmd
cmd_of l = record { list = l }

pub call_is : (xs : List Var) (p : ProcRef) (n : Places) (es : Row_of-Term (arity (the_former (this {0})) n)) → Call xs p (items-the_row-Term _ es) ≡ Call' xs p n es
unfolding roll-Instr denote.Hole.Carrier.roll
call_is xs p n es = sym (sym (roll-out-Instr (Call' xs p n es)) ∙ ap roll-Instr (outs-Call' xs p n es ∙ ap (λ l. layer.Call xs p l) (items_shown-the_row-Term-0 n es)))

pub if_is : (e : Term) (m : Places) (a : InstrRow m) (n : Places) (b : InstrRow n) → If e (cmd_of (items-the_row-Instr _ a)) (cmd_of (items-the_row-Instr _ b)) ≡ If' e m a n b
unfolding roll-Instr denote.Hole.Carrier.roll
if_is e m a n b =
    sym (sym (roll-out-Instr (If' e m a n b)) ∙ ap roll-Instr (outs-If' e m a n b ∙ (λ i. layer.If e (cmd_of (items_shown-the_row-Instr-1 m a i)) (cmd_of (items_shown-the_row-Instr-1 n b i)))))

pub while_is : (e v : Term) (n : Places) (a : InstrRow n) → While e v (cmd_of (items-the_row-Instr _ a)) ≡ While' e v n a
unfolding roll-Instr denote.Hole.Carrier.roll
while_is e v n a =
    sym (sym (roll-out-Instr (While' e v n a)) ∙ ap roll-Instr (outs-While' e v n a ∙ (λ i. layer.While e v (cmd_of (items_shown-the_row-Instr-1 n a i)))))

-- a statement of which a loop is read is one
pub while_shape : (i : Instr) (e v : Term) (a : Cmd) → out-Instr i ≡ layer.While e v a → i ≡ While e v a
unfolding roll-Instr denote.Hole.Carrier.roll
while_shape i e v a k = sym (roll-out-Instr i) ∙ ap roll-Instr k

module _ (es : List Enumeration) where
  abbrev pub EachNamed : List Instr → Type 0
  EachNamed is = AllByRecursion (IsNamedInstr es) is

  pub row_each : {n : Count} (r : Row_of-Instr n) → AreNamedInstrs es r → EachNamed (items-the_row-Instr _ r)
  row_each end_of-Instr w = tt
  row_each (more_of-Instr i r) w = (w.0, row_each r w.1)

  pub each_row : {n : Count} (r : Row_of-Instr n) → EachNamed (items-the_row-Instr _ r) → AreNamedInstrs es r
  each_row end_of-Instr w = tt
  each_row (more_of-Instr i r) w = (w.0, each_row r w.1)

  each_hidden : (is : List Instr) → AreNamedInstrs es (B.hidden-the_row-Instr-1 is) → EachNamed is
  each_hidden is w = subst EachNamed (items_hidden-the_row-Instr-1 is) (row_each (B.hidden-the_row-Instr-1 is) w)

  hidden_each : (is : List Instr) → EachNamed is → AreNamedInstrs es (B.hidden-the_row-Instr-1 is)
  hidden_each is w = each_row (B.hidden-the_row-Instr-1 is) (subst EachNamed (sym (items_hidden-the_row-Instr-1 is)) w)

  -- a branch and a loop, by their lists
  pub if_named : (i : Instr) (e : Term) (a b : Cmd) → i ≡ If e a b → IsNamedInstr es i → IsNamed es e × EachNamed a.list × EachNamed b.list
  if_named i e a b k w = let x = subst (IsNamedInstr es) k w in (x.0, each_hidden a.list x.1, each_hidden b.list x.2)

  pub named_if : (e : Term) (a b : Cmd) → IsNamed es e → EachNamed a.list → EachNamed b.list → IsNamedInstr es (If e a b)
  named_if e a b x y z = (x, hidden_each a.list y, hidden_each b.list z)

  pub while_named : (i : Instr) (e v : Term) (a : Cmd) → i ≡ While e v a → IsNamedInstr es i → IsNamed es e × IsNamed es v × EachNamed a.list
  while_named i e v a k w = let x = subst (IsNamedInstr es) k w in (x.0, x.1, each_hidden a.list x.2)

  pub named_while : (e v : Term) (a : Cmd) → IsNamed es e → IsNamed es v → EachNamed a.list → IsNamedInstr es (While e v a)
  named_while e v a x y z = (x, y, hidden_each a.list z)

  terms_row : {n : Count} (r : Row_of-Term n) → AllByRecursion (IsNamed es) (items-the_row-Term _ r) → AreNamed es r
  terms_row end_of-Term w = tt
  terms_row (more_of-Term t r) w = (w.0, terms_row r w.1)

  pub named_call : (xs : List Var) (p : ProcRef) (ts : List Term) → list_all (is_target_here []) xs ≡ true → IsWrittenProcedure [] p → AllByRecursion (IsNamed es) ts → IsNamedInstr es (Call xs p ts)
  named_call xs p ts x y z = (x, y, terms_row (B.hidden-the_row-Term-0 ts) (subst (AllByRecursion (IsNamed es)) (sym (items_hidden-the_row-Term-0 ts)) z))

  pub append_named : (is js : List Instr) → EachNamed is → EachNamed js → EachNamed (is ++ js)
  append_named [] js v w = w
  append_named (i ∷ is) js v w = (v.0, append_named is js v.1 w)

  pub take_named : (k : ℕ) (is : List Instr) → EachNamed is → EachNamed (take k is)
  take_named zero is w = tt
  take_named (suc k) [] w = tt
  take_named (suc k) (i ∷ is) w = (w.0, take_named k is w.1)

  pub drop_named : (k : ℕ) (is : List Instr) → EachNamed is → EachNamed (drop k is)
  drop_named zero is w = w
  drop_named (suc k) [] w = tt
  drop_named (suc k) (i ∷ is) w = drop_named k is w.1
