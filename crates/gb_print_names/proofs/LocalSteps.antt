-- The locals of a tree, from its parts.
use Rattle.std.proofs.Common.{◌≡◌, if◌then◌else◌, List, map, ap, ◌∙◌}
use Rattle.gb_core.specs.declared.var.Var.{Var}
use Rattle.gb_terms.specs.declared.module.ProcRef.{ProcRef}
use Rattle.gb_terms.specs.declared.term.Term.{Term}
use Rattle.gb_terms.specs.declared.term.Head.{Head}
use Rattle.gb_terms.specs.declared.term.Cmd.{Cmd}
use Rattle.gb_terms.specs.declared.term.Head.TheVariants as head
use Rattle.gb_terms.specs.declared.term.Head.TheVariants.{Call, If, While}
use Rattle.gb_terms.specs.declared.term.Head.TheOpen as layer
use Rattle.gb_terms.specs.declared.term.Head.TheViews.{out-Term}
use Rattle.gb_terms.specs.declared.term.Head.TheFolds.{fold_out-Term, fold_out-Cmd, fold-roll-Head, fold-roll-Instr}
use Rattle.gb_print_names.specs.Text.{each}
use Rattle.gb_print_names.specs.BoundNames.{Name}
use Rattle.gb_print_names.specs.Occurring.{Noting, local, at_head, at_instr, at_subject, at_cmd, at_term, is_closed, head_local, head_locals, term_locals, cmd_locals, instr_locals}
use Rattle.gb_print_names.proofs.Lists.{each_made}

of_head : (h : Head) (below : Noting) (ns : List Name) → head_locals h below ns ≡ (if is_closed h then ns else below (head_local h ns))
unfolding Rattle.gb_terms.specs.declared.term.Head.TheViews.roll-Head denote.Hole.Carrier.roll
of_head (head.Lit v) below ns = ap (λ f. f below ns) (fold-roll-Head (Noting → Noting) Noting Noting Noting Noting at_head at_instr at_subject at_cmd at_term (layer.Lit v))
of_head (head.Whole n) below ns = ap (λ f. f below ns) (fold-roll-Head (Noting → Noting) Noting Noting Noting Noting at_head at_instr at_subject at_cmd at_term (layer.Whole n))
of_head (head.Read r) below ns = ap (λ f. f below ns) (fold-roll-Head (Noting → Noting) Noting Noting Noting Noting at_head at_instr at_subject at_cmd at_term (layer.Read r))
of_head (head.Bound i) below ns = ap (λ f. f below ns) (fold-roll-Head (Noting → Noting) Noting Noting Noting Noting at_head at_instr at_subject at_cmd at_term (layer.Bound i))
of_head (head.Builtin o) below ns = ap (λ f. f below ns) (fold-roll-Head (Noting → Noting) Noting Noting Noting Noting at_head at_instr at_subject at_cmd at_term (layer.Builtin o))
of_head (head.User x) below ns = ap (λ f. f below ns) (fold-roll-Head (Noting → Noting) Noting Noting Noting Noting at_head at_instr at_subject at_cmd at_term (layer.User x))
of_head (head.All t) below ns = ap (λ f. f below ns) (fold-roll-Head (Noting → Noting) Noting Noting Noting Noting at_head at_instr at_subject at_cmd at_term (layer.All t))
of_head (head.Some t) below ns = ap (λ f. f below ns) (fold-roll-Head (Noting → Noting) Noting Noting Noting Noting at_head at_instr at_subject at_cmd at_term (layer.Some t))
of_head head.AllMemory below ns = ap (λ f. f below ns) (fold-roll-Head (Noting → Noting) Noting Noting Noting Noting at_head at_instr at_subject at_cmd at_term layer.AllMemory)
of_head head.SomeMemory below ns = ap (λ f. f below ns) (fold-roll-Head (Noting → Noting) Noting Noting Noting Noting at_head at_instr at_subject at_cmd at_term layer.SomeMemory)
of_head (head.AllModule b) below ns = ap (λ f. f below ns) (fold-roll-Head (Noting → Noting) Noting Noting Noting Noting at_head at_instr at_subject at_cmd at_term (layer.AllModule b))
of_head head.Mu below ns = ap (λ f. f below ns) (fold-roll-Head (Noting → Noting) Noting Noting Noting Noting at_head at_instr at_subject at_cmd at_term layer.Mu)
of_head (head.Sum q) below ns = ap (λ f. f below ns) (fold-roll-Head (Noting → Noting) Noting Noting Noting Noting at_head at_instr at_subject at_cmd at_term (layer.Sum q))
of_head (head.Weights ps) below ns = ap (λ f. f below ns) (fold-roll-Head (Noting → Noting) Noting Noting Noting Noting at_head at_instr at_subject at_cmd at_term (layer.Weights ps))
of_head head.Map below ns = ap (λ f. f below ns) (fold-roll-Head (Noting → Noting) Noting Noting Noting Noting at_head at_instr at_subject at_cmd at_term layer.Map)
of_head head.Restrict below ns = ap (λ f. f below ns) (fold-roll-Head (Noting → Noting) Noting Noting Noting Noting at_head at_instr at_subject at_cmd at_term layer.Restrict)
of_head (head.Pr p s) below ns = ap (λ f. f below ns) (fold-roll-Head (Noting → Noting) Noting Noting Noting Noting at_head at_instr at_subject at_cmd at_term (layer.Pr p s))
of_head (head.Glob m s) below ns = ap (λ f. f below ns) (fold-roll-Head (Noting → Noting) Noting Noting Noting Noting at_head at_instr at_subject at_cmd at_term (layer.Glob m s))
of_head (head.Hoare s) below ns = ap (λ f. f below ns) (fold-roll-Head (Noting → Noting) Noting Noting Noting Noting at_head at_instr at_subject at_cmd at_term (layer.Hoare s))
of_head (head.Phoare s r) below ns = ap (λ f. f below ns) (fold-roll-Head (Noting → Noting) Noting Noting Noting Noting at_head at_instr at_subject at_cmd at_term (layer.Phoare s r))
of_head (head.Equiv s u) below ns = ap (λ f. f below ns) (fold-roll-Head (Noting → Noting) Noting Noting Noting Noting at_head at_instr at_subject at_cmd at_term (layer.Equiv s u))

pub locals_is : (t : Term) (ns : List Name)
    → term_locals t ns ≡ (if is_closed (out-Term t).head then ns else each term_locals (out-Term t).args (head_local (out-Term t).head ns))
locals_is t ns =
    ap (λ f. f ns) (fold_out-Term (Noting → Noting) Noting Noting Noting Noting at_head at_instr at_subject at_cmd at_term t)
    ∙ of_head (out-Term t).head (each (λ a. a) (map term_locals (out-Term t).args)) ns
    ∙ ap (λ ms. if is_closed (out-Term t).head then ns else ms) (each_made term_locals (out-Term t).args (head_local (out-Term t).head ns))

pub cmd_is : (c : Cmd) (ns : List Name) → cmd_locals c ns ≡ each instr_locals c.list ns
cmd_is c ns = ap (λ f. f ns) (fold_out-Cmd (Noting → Noting) Noting Noting Noting Noting at_head at_instr at_subject at_cmd at_term c) ∙ each_made instr_locals c.list ns

pub call_is : (xs : List Var) (p : ProcRef) (ts : List Term) (ns : List Name) → instr_locals (Call xs p ts) ns ≡ each term_locals ts (each local xs ns)
unfolding Rattle.gb_terms.specs.declared.term.Head.TheViews.roll-Instr denote.Hole.Carrier.roll
call_is xs p ts ns = ap (λ f. f ns) (fold-roll-Instr (Noting → Noting) Noting Noting Noting Noting at_head at_instr at_subject at_cmd at_term (layer.Call xs p ts)) ∙ each_made term_locals ts (each local xs ns)

pub if_is : (e : Term) (a b : Cmd) (ns : List Name) → instr_locals (If e a b) ns ≡ each instr_locals b.list (each instr_locals a.list (term_locals e ns))
unfolding Rattle.gb_terms.specs.declared.term.Head.TheViews.roll-Instr denote.Hole.Carrier.roll
if_is e a b ns =
    ap (λ f. f ns) (fold-roll-Instr (Noting → Noting) Noting Noting Noting Noting at_head at_instr at_subject at_cmd at_term (layer.If e a b))
    ∙ cmd_is b (cmd_locals a (term_locals e ns)) ∙ ap (each instr_locals b.list) (cmd_is a (term_locals e ns))

pub while_is : (e v : Term) (a : Cmd) (ns : List Name) → instr_locals (While e v a) ns ≡ each instr_locals a.list (term_locals v (term_locals e ns))
unfolding Rattle.gb_terms.specs.declared.term.Head.TheViews.roll-Instr denote.Hole.Carrier.roll
while_is e v a ns =
    ap (λ f. f ns) (fold-roll-Instr (Noting → Noting) Noting Noting Noting Noting at_head at_instr at_subject at_cmd at_term (layer.While e v a)) ∙ cmd_is a (term_locals v (term_locals e ns))
