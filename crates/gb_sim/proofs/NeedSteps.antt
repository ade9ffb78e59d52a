-- What is needed, step by step.
use Rattle.std.proofs.Common.{◌≡◌, ℕ, ◌+◌, ◌-◌, ◌<◌, List, [], ◌∷◌, ◌++◌, get_or, length, map, take, Option, Some, None, refl, ap, sym, ◌∙◌}
use Rattle.gb_terms.specs.declared.module.ProcRef.{ProcRef}
use Rattle.gb_core.specs.declared.var.Var.{Var}
use Rattle.gb_terms.specs.declared.term.Cmd.{Cmd, items-the_row-Instr, items_hidden-the_row-Instr-1}
use Rattle.gb_terms.specs.declared.term.Term.{Term, Term', Row_of-Term, end_of-Term, more_of-Term, end_of-Head, more_of-Head, out-Term}
use Rattle.gb_terms.specs.declared.term.Head.TheBlock as B
use Rattle.gb_terms.specs.declared.term.Head.TheVariants.{Call, If, While}
use Rattle.gb_terms.specs.declared.term.Instr.{Instr, Row_of-Instr, end_of-Instr, more_of-Instr}
use Rattle.gb_laws.proofs.Trees.{out_is}
use Rattle.gb_meaning.specs.Commands.{terms_in}
use Rattle.gb_walk.specs.Clash.{Exclusions}
use Rattle.gb_goal.specs.Scope.{Declarations}
use Rattle.gb_mods.specs.Called.{calls, row_calls, statement_calls}
use Rattle.gb_mods.proofs.OrderSteps.{front_last}
use Rattle.gb_labels.specs.Reads.{Vars}
use Rattle.gb_sim.specs.Need.{called_need, if_known, loop_need, need, of_branches, row_need, statement_need}
use Rattle.gb_sim.specs.Reads.{each_reads, list_reads, term_reads}
use Rattle.gb_sim.specs.Sim.{each_equal, equal_in, equated_at}
use Rattle.gb_sim.proofs.ReadSteps.{arguments_list, body_list}
use mathlib.Core.Former.{Count}

itself : {A : Type 0} (o : Option A) → if_known (λ x. Some x) o ≡ o
itself None = refl
itself (Some x) = refl

in_turn : {A B C : Type 0} (f : B → Option C) (h : A → Option B) (o : Option A) → if_known f (if_known h o) ≡ if_known (λ x. if_known f (h x)) o
in_turn f h None = refl
in_turn f h (Some x) = refl

module _ (ex : Exclusions) (ds : Declarations) where
  need_last : (is : List Instr) (i : Instr) (V : Vars) → need ex ds (is ++ (i ∷ [])) V ≡ if_known (λ W. need ex ds is W) (statement_need ex ds i V)
  need_last [] i V = sym (itself (statement_need ex ds i V))
  need_last (j ∷ is) i V = ap (if_known (λ W. statement_need ex ds j W)) (need_last is i V) ∙ in_turn (λ W. statement_need ex ds j W) (λ W. need ex ds is W) (statement_need ex ds i V)

  -- one statement less
  need_front : (list : List Instr) (k : ℕ) (i : Instr) (V : Vars) → k < length list → i ≡ get_or list ((length list - 1) - k) i →
      need ex ds (take (length list - k) list) V ≡ if_known (λ W. need ex ds (take (length list - (k + 1)) list) W) (statement_need ex ds i V)
  need_front list k i V h e = ap (λ l. need ex ds l V) (front_last list k i h e) ∙ need_last (take (length list - (k + 1)) list) i V

  pub none_needed : (list : List Instr) (k : ℕ) (i : Instr) (V after : Vars) → k < length list → i ≡ get_or list ((length list - 1) - k) i → statement_need ex ds i V ≡ None →
      need ex ds (take (length list - k) list) V ≡ need ex ds list after → None ≡ need ex ds list after
  none_needed list k i V after h e n all = sym (ap (if_known (λ W. need ex ds (take (length list - (k + 1)) list) W)) n) ∙ sym (need_front list k i V h e) ∙ all

  pub next_needed : (list : List Instr) (k : ℕ) (i : Instr) (V W after : Vars) → k < length list → i ≡ get_or list ((length list - 1) - k) i → statement_need ex ds i V ≡ Some W →
      need ex ds (take (length list - k) list) V ≡ need ex ds list after → need ex ds (take (length list - (k + 1)) list) W ≡ need ex ds list after
  next_needed list k i V W after h e n all = sym (ap (if_known (λ U. need ex ds (take (length list - (k + 1)) list) U)) n) ∙ sym (need_front list k i V h e) ∙ all

  need_row : {n : Count} (r : Row_of-Instr n) (V : Vars) → row_need ex ds r V ≡ need ex ds (items-the_row-Instr _ r) V
  need_row end_of-Instr V = refl
  need_row (more_of-Instr i r) V = ap (if_known (λ W. statement_need ex ds i W)) (need_row r V)

  need_list : (is : List Instr) (V : Vars) → row_need ex ds (B.hidden-the_row-Instr-1 is) V ≡ need ex ds is V
  need_list is V = need_row (B.hidden-the_row-Instr-1 is) V ∙ ap (λ l. need ex ds l V) (items_hidden-the_row-Instr-1 is)

  calls_row : {n : Count} (r : Row_of-Instr n) → row_calls r ≡ calls (items-the_row-Instr _ r)
  calls_row end_of-Instr = refl
  calls_row (more_of-Instr i r) = ap (λ l. statement_calls i ++ l) (calls_row r)

  calls_list : (is : List Instr) → row_calls (B.hidden-the_row-Instr-1 is) ≡ calls is
  calls_list is = calls_row (B.hidden-the_row-Instr-1 is) ∙ ap calls (items_hidden-the_row-Instr-1 is)

  pub call_needs : (xs : List Var) (p : ProcRef) (es : List Term) (V : Vars) → called_need ds xs p (each_reads es) V ≡ statement_need ex ds (Call xs p es) V
  call_needs xs p es V = ap (λ l. called_need ds xs p l V) (sym (arguments_list es))

  pub if_needs : (e : Term) (a b : Cmd) (V : Vars) → of_branches (term_reads e) (need ex ds a.list V) (need ex ds b.list V) ≡ statement_need ex ds (If e a b) V
  if_needs e a b V = λ i. of_branches (term_reads e) (sym (need_list a.list V) i) (sym (need_list b.list V) i)

  pub while_needs : (e v : Term) (a : Cmd) (V : Vars) → loop_need ds (term_reads e ++ (term_reads v ++ list_reads a.list)) (calls a.list) V ≡ statement_need ex ds (While e v a) V
  while_needs e v a V = λ i. loop_need ds (term_reads e ++ (term_reads v ++ sym (body_list a.list) i)) (sym (calls_list a.list) i) V

-- what a form says is equal, by its head and its arguments

each_row : {n : Count} (r : Row_of-Term n) → each_equal r ≡ map equal_in (terms_in r)
each_row end_of-Term = refl
each_row (more_of-Term t r) = ap (λ l. equal_in t ∷ l) (each_row r)

pub equal_out : (t : Term) → equated_at (out-Term t).head (out-Term t).args (map equal_in (out-Term t).args) ≡ equal_in t
equal_out (Term' tt (more_of-Head h end_of-Head) n ts ty) =
    ap (λ z. equated_at z.head z.args (map equal_in z.args)) (out_is h n ts ty) ∙ ap (equated_at h (terms_in ts)) (sym (each_row ts))
