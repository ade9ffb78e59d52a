-- The tree of a term, from its parts.
use Rattle.std.proofs.Common.{◌≡◌, true, false, List, ◌∷◌, [], ◌++◌, map, refl, ap, sym, ◌∙◌}
use Rattle.gb_core.specs.declared.var.Var.{Var}
use Rattle.gb_terms.specs.declared.module.ProcRef.{ProcRef}
use Rattle.gb_terms.specs.declared.term.Term.{Term}
use Rattle.gb_terms.specs.declared.term.Instr.{Instr}
use Rattle.gb_terms.specs.declared.term.Cmd.{Cmd}
use Rattle.gb_script.specs.declared.head.Head.TheVariants as script
use Rattle.gb_terms.specs.declared.term.Head.{Head}
use Rattle.gb_terms.specs.declared.term.Head.TheVariants as head
use Rattle.gb_terms.specs.declared.term.Head.TheOpen as layer
use Rattle.gb_terms.specs.declared.term.Head.TheVariants.{Assign, Sample, Call, If, While, Proc, Body}
use Rattle.gb_terms.specs.declared.term.Head.TheViews.{out-Term, roll-out-Term, out-Cmd, roll-out-Cmd}
use Rattle.gb_terms.specs.declared.term.Head.TheFolds.{para-Head, para-roll-Term, para-roll-Head, para-roll-Subject, para-roll-Instr, para-roll-Cmd}
use Rattle.gb_print_names.specs.BoundNames.{Place, bound_name}
use Rattle.gb_print_names.specs.Occurring.{inside}
use Rattle.gb_print.specs.Layout.{letter}
use Rattle.gb_print_names.specs.Open.{right_first}
use Rattle.gb_print.specs.Heads.{made}
use Rattle.gb_print.specs.Nodes.{tree, list}
use Rattle.gb_print.specs.Types.{procedure_tree, call_tree}
use Rattle.gb_print.specs.Programs.{written, loop}
use Rattle.gb_print.specs.Forms.{Placed, Shown, terms, form, operand, forms, shown, all_of, statements, arguments, at_term, at_head, at_subject, at_instr, at_cmd, term_tree, subject_trees, instr_trees, cmd_trees, spoken, all_shown, IsMadeOfParts}

terms_shown : (ts : List Term) → terms (all_shown ts) ≡ ts
terms_shown [] = refl
terms_shown (t ∷ ts) = ap (λ us. t ∷ us) (terms_shown ts)

-- the programs of a head
unfoldable programs : Head → Placed
programs = para-Head Placed Placed Placed Placed Shown at_head at_instr at_subject at_cmd at_term

programs_is : (h : Head) (at : Place) → programs h at ≡ spoken h at
unfolding Rattle.gb_terms.specs.declared.term.Head.TheViews.roll-Head denote.Hole.Carrier.roll programs term_tree subject_trees instr_trees cmd_trees
programs_is (head.Lit v) at = ap (λ f. f at) (para-roll-Head Placed Placed Placed Placed Shown at_head at_instr at_subject at_cmd at_term (layer.Lit v))
programs_is (head.Whole n) at = ap (λ f. f at) (para-roll-Head Placed Placed Placed Placed Shown at_head at_instr at_subject at_cmd at_term (layer.Whole n))
programs_is (head.Read r) at = ap (λ f. f at) (para-roll-Head Placed Placed Placed Placed Shown at_head at_instr at_subject at_cmd at_term (layer.Read r))
programs_is (head.Bound i) at = ap (λ f. f at) (para-roll-Head Placed Placed Placed Placed Shown at_head at_instr at_subject at_cmd at_term (layer.Bound i))
programs_is (head.Builtin o) at = ap (λ f. f at) (para-roll-Head Placed Placed Placed Placed Shown at_head at_instr at_subject at_cmd at_term (layer.Builtin o))
programs_is (head.User x) at = ap (λ f. f at) (para-roll-Head Placed Placed Placed Placed Shown at_head at_instr at_subject at_cmd at_term (layer.User x))
programs_is (head.All t) at = ap (λ f. f at) (para-roll-Head Placed Placed Placed Placed Shown at_head at_instr at_subject at_cmd at_term (layer.All t))
programs_is (head.Some t) at = ap (λ f. f at) (para-roll-Head Placed Placed Placed Placed Shown at_head at_instr at_subject at_cmd at_term (layer.Some t))
programs_is head.AllMemory at = ap (λ f. f at) (para-roll-Head Placed Placed Placed Placed Shown at_head at_instr at_subject at_cmd at_term layer.AllMemory)
programs_is head.SomeMemory at = ap (λ f. f at) (para-roll-Head Placed Placed Placed Placed Shown at_head at_instr at_subject at_cmd at_term layer.SomeMemory)
programs_is (head.AllModule b) at = ap (λ f. f at) (para-roll-Head Placed Placed Placed Placed Shown at_head at_instr at_subject at_cmd at_term (layer.AllModule b))
programs_is head.Mu at = ap (λ f. f at) (para-roll-Head Placed Placed Placed Placed Shown at_head at_instr at_subject at_cmd at_term layer.Mu)
programs_is (head.Sum q) at = ap (λ f. f at) (para-roll-Head Placed Placed Placed Placed Shown at_head at_instr at_subject at_cmd at_term (layer.Sum q))
programs_is (head.Weights ps) at = ap (λ f. f at) (para-roll-Head Placed Placed Placed Placed Shown at_head at_instr at_subject at_cmd at_term (layer.Weights ps))
programs_is head.Map at = ap (λ f. f at) (para-roll-Head Placed Placed Placed Placed Shown at_head at_instr at_subject at_cmd at_term layer.Map)
programs_is head.Restrict at = ap (λ f. f at) (para-roll-Head Placed Placed Placed Placed Shown at_head at_instr at_subject at_cmd at_term layer.Restrict)
programs_is (head.Pr p s) at = ap (λ f. f at) (para-roll-Head Placed Placed Placed Placed Shown at_head at_instr at_subject at_cmd at_term (layer.Pr p s))
programs_is (head.Glob m s) at = ap (λ f. f at) (para-roll-Head Placed Placed Placed Placed Shown at_head at_instr at_subject at_cmd at_term (layer.Glob m s))
programs_is (head.Hoare s) at = ap (λ f. f at) (para-roll-Head Placed Placed Placed Placed Shown at_head at_instr at_subject at_cmd at_term (layer.Hoare s))
programs_is (head.Phoare s r) at = ap (λ f. f at) (para-roll-Head Placed Placed Placed Placed Shown at_head at_instr at_subject at_cmd at_term (layer.Phoare s r))
programs_is (head.Equiv s u) at = ap (λ f. f at) (para-roll-Head Placed Placed Placed Placed Shown at_head at_instr at_subject at_cmd at_term (layer.Equiv s u))

pub made_of_parts : (t : Term) → IsMadeOfParts t
unfolding term_tree programs
made_of_parts t known at =
    let h = (out-Term t).head in
    let ts = (out-Term t).args in
    let ty = (out-Term t).ty in
    ap (λ y. term_tree y known at) (sym (roll-out-Term t))
    ∙ ap (λ f. f known at) (para-roll-Term Placed Placed Placed Placed Shown at_head at_instr at_subject at_cmd at_term (out-Term t))
    ∙ ap (λ us. made h (bound_name (letter h) (inside h us at)) (programs h (inside h us at)) ty (inside h us at) (arguments h (right_first us) 0 (all_shown ts) known (inside h us at))) (terms_shown ts)
    ∙ ap (λ ps. made h (bound_name (letter h) (inside h ts at)) ps ty (inside h ts at) (arguments h (right_first ts) 0 (all_shown ts) known (inside h ts at))) (programs_is h (inside h ts at))

pub procedure_is : (p : ProcRef) (at : Place) → subject_trees (Proc p) at ≡ procedure_tree p at.bound ∷ []
unfolding Rattle.gb_terms.specs.declared.term.Head.TheViews.roll-Subject denote.Hole.Carrier.roll term_tree subject_trees instr_trees cmd_trees
procedure_is p at = ap (λ f. f at) (para-roll-Subject Placed Placed Placed Placed Shown at_head at_instr at_subject at_cmd at_term (layer.Proc p))

pub program_is : (c : Cmd) (at : Place) → subject_trees (Body c) at ≡ tree script.Block (cmd_trees c at) ∷ []
unfolding Rattle.gb_terms.specs.declared.term.Head.TheViews.roll-Subject denote.Hole.Carrier.roll term_tree subject_trees instr_trees cmd_trees
program_is c at = ap (λ f. f at) (para-roll-Subject Placed Placed Placed Placed Shown at_head at_instr at_subject at_cmd at_term (layer.Body c))

pub assign_is : (xs : List Var) (e : Term) (at : Place) → instr_trees (Assign xs e) at ≡ written script.Assign at.bound xs (form (shown e) true at) ∷ []
unfolding Rattle.gb_terms.specs.declared.term.Head.TheViews.roll-Instr denote.Hole.Carrier.roll term_tree subject_trees instr_trees cmd_trees
assign_is xs e at = ap (λ f. f at) (para-roll-Instr Placed Placed Placed Placed Shown at_head at_instr at_subject at_cmd at_term (layer.Assign xs e))

pub sample_is : (x : Var) (d : Term) (at : Place) → instr_trees (Sample x d) at ≡ written script.Sample at.bound (x ∷ []) (form (shown d) true at) ∷ []
unfolding Rattle.gb_terms.specs.declared.term.Head.TheViews.roll-Instr denote.Hole.Carrier.roll term_tree subject_trees instr_trees cmd_trees
sample_is x d at = ap (λ f. f at) (para-roll-Instr Placed Placed Placed Placed Shown at_head at_instr at_subject at_cmd at_term (layer.Sample x d))

pub call_is : (xs : List Var) (p : ProcRef) (ts : List Term) (at : Place) → instr_trees (Call xs p ts) at ≡ written script.AssignCall at.bound xs (call_tree p (forms (all_shown ts) at) at.bound) ∷ []
unfolding Rattle.gb_terms.specs.declared.term.Head.TheViews.roll-Instr denote.Hole.Carrier.roll term_tree subject_trees instr_trees cmd_trees
call_is xs p ts at = ap (λ f. f at) (para-roll-Instr Placed Placed Placed Placed Shown at_head at_instr at_subject at_cmd at_term (layer.Call xs p ts))

pub if_is : (e : Term) (a b : Cmd) (at : Place) → instr_trees (If e a b) at ≡ tree script.If (form (shown e) true at ∷ list (cmd_trees a at) ∷ list (cmd_trees b at) ∷ []) ∷ []
unfolding Rattle.gb_terms.specs.declared.term.Head.TheViews.roll-Instr denote.Hole.Carrier.roll term_tree subject_trees instr_trees cmd_trees
if_is e a b at = ap (λ f. f at) (para-roll-Instr Placed Placed Placed Placed Shown at_head at_instr at_subject at_cmd at_term (layer.If e a b))

pub while_is : (e v : Term) (a : Cmd) (at : Place) → instr_trees (While e v a) at ≡ tree script.While (form (shown e) true at ∷ loop (operand (shown v) false at) (cmd_trees a at) ∷ []) ∷ []
unfolding Rattle.gb_terms.specs.declared.term.Head.TheViews.roll-Instr denote.Hole.Carrier.roll term_tree subject_trees instr_trees cmd_trees
while_is e v a at = ap (λ f. f at) (para-roll-Instr Placed Placed Placed Placed Shown at_head at_instr at_subject at_cmd at_term (layer.While e v a))

each_statement : (is : List Instr) (at : Place) → all_of (map (λ i. (i, instr_trees i)) is) at ≡ statements is at
each_statement [] at = refl
each_statement (i ∷ is) at = ap (λ xs. instr_trees i at ++ xs) (each_statement is at)

pub statements_are : (c : Cmd) (at : Place) → cmd_trees c at ≡ statements c.list at
unfolding term_tree subject_trees instr_trees cmd_trees
statements_are c at =
    ap (λ y. cmd_trees y at) (sym (roll-out-Cmd c))
    ∙ ap (λ f. f at) (para-roll-Cmd Placed Placed Placed Placed Shown at_head at_instr at_subject at_cmd at_term (out-Cmd c))
    ∙ each_statement c.list at
