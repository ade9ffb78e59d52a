-- What is printed of a tree, from its parts.
use Rattle.std.proofs.Common.{◌≡◌, ℕ, ◌+◌, ◌-◌, ◌<◌, ◌≤◌, Bool, true, false, take, take_all, drop, length, length-drop, get_or, le_of_eq, List, [], ◌∷◌, codes, map, refl, ap, sym, subst, ◌∙◌}
use Rattle.std.proofs.lemmas.List.{at_drop_more, drop_all}
use Rattle.gb_print_names.specs.declared.bound_names.Known.{Known}
use Rattle.gb_print_names.specs.declared.text.Page.{Page}
use Rattle.gb_terms.specs.declared.term.Term.{Term}
use Rattle.gb_terms.specs.declared.term.Head.{Head}
use Rattle.gb_terms.specs.declared.term.Instr.{Instr}
use Rattle.gb_terms.specs.declared.term.Cmd.{Cmd}
use Rattle.gb_core.specs.declared.var.Var.{Var}
use Rattle.gb_terms.specs.declared.module.ProcRef.{ProcRef}
use Rattle.gb_terms.specs.declared.term.Head.TheVariants as head
use Rattle.gb_terms.specs.declared.term.Head.TheVariants.{Assign, Sample, Call, If, While, Proc, Body}
use Rattle.gb_terms.specs.declared.term.Head.TheOpen as layer
use Rattle.gb_terms.specs.declared.term.Head.TheViews.{out-Term, roll-out-Term, out-Cmd, roll-out-Cmd, out-roll-Instr}
use Rattle.gb_terms.specs.declared.term.Head.TheFolds.{para-Head, para-roll-Term, para-roll-Head, para-roll-Subject, para-roll-Instr, para-roll-Cmd}
use Rattle.gb_print_names.specs.Text.{Text, ◌▸◌, each, word}
use Rattle.gb_print_names.specs.BoundNames.{Place}
use Rattle.gb_print_names.specs.Names.{variable}
use Rattle.gb_print_names.specs.Modules.{procedure}
use Rattle.gb_print_names.specs.Open.{right_first, tells}
use Rattle.gb_print.specs.Layout.{opening, closing}
use Rattle.gb_print_names.specs.Occurring.{inside}
use Rattle.gb_print.specs.FormText.{Placed, Shown, trees, arguments, argument, is_nil, written, form, operand, targets, test, call, forms, further, otherwise, instr_opening_layer, instr_opening, at_term, at_head, at_subject, at_instr, at_cmd, term_text, spoken, subject_text, instr_text, cmd_text, shown, all_shown, inside_text}

pub trees_shown : (ts : List Term) → trees (all_shown ts) ≡ ts
trees_shown [] = refl
trees_shown (t ∷ ts) = ap (λ us. t ∷ us) (trees_shown ts)

-- the programs of a head
unfoldable programs : Head → Placed
programs = para-Head Placed Placed Placed Placed Shown at_head at_instr at_subject at_cmd at_term

programs_is : (h : Head) (at : Place) (before : Text) → programs h at before ≡ spoken h at before
unfolding Rattle.gb_terms.specs.declared.term.Head.TheViews.roll-Head denote.Hole.Carrier.roll programs term_text subject_text instr_text cmd_text
programs_is (head.Lit v) at before = ap (λ f. f at before) (para-roll-Head Placed Placed Placed Placed Shown at_head at_instr at_subject at_cmd at_term (layer.Lit v))
programs_is (head.Whole n) at before = ap (λ f. f at before) (para-roll-Head Placed Placed Placed Placed Shown at_head at_instr at_subject at_cmd at_term (layer.Whole n))
programs_is (head.Read r) at before = ap (λ f. f at before) (para-roll-Head Placed Placed Placed Placed Shown at_head at_instr at_subject at_cmd at_term (layer.Read r))
programs_is (head.Bound i) at before = ap (λ f. f at before) (para-roll-Head Placed Placed Placed Placed Shown at_head at_instr at_subject at_cmd at_term (layer.Bound i))
programs_is (head.Builtin o) at before = ap (λ f. f at before) (para-roll-Head Placed Placed Placed Placed Shown at_head at_instr at_subject at_cmd at_term (layer.Builtin o))
programs_is (head.User x) at before = ap (λ f. f at before) (para-roll-Head Placed Placed Placed Placed Shown at_head at_instr at_subject at_cmd at_term (layer.User x))
programs_is (head.All t) at before = ap (λ f. f at before) (para-roll-Head Placed Placed Placed Placed Shown at_head at_instr at_subject at_cmd at_term (layer.All t))
programs_is (head.Some t) at before = ap (λ f. f at before) (para-roll-Head Placed Placed Placed Placed Shown at_head at_instr at_subject at_cmd at_term (layer.Some t))
programs_is head.AllMemory at before = ap (λ f. f at before) (para-roll-Head Placed Placed Placed Placed Shown at_head at_instr at_subject at_cmd at_term layer.AllMemory)
programs_is head.SomeMemory at before = ap (λ f. f at before) (para-roll-Head Placed Placed Placed Placed Shown at_head at_instr at_subject at_cmd at_term layer.SomeMemory)
programs_is (head.AllModule b) at before = ap (λ f. f at before) (para-roll-Head Placed Placed Placed Placed Shown at_head at_instr at_subject at_cmd at_term (layer.AllModule b))
programs_is head.Mu at before = ap (λ f. f at before) (para-roll-Head Placed Placed Placed Placed Shown at_head at_instr at_subject at_cmd at_term layer.Mu)
programs_is (head.Sum q) at before = ap (λ f. f at before) (para-roll-Head Placed Placed Placed Placed Shown at_head at_instr at_subject at_cmd at_term (layer.Sum q))
programs_is (head.Weights ps) at before = ap (λ f. f at before) (para-roll-Head Placed Placed Placed Placed Shown at_head at_instr at_subject at_cmd at_term (layer.Weights ps))
programs_is head.Map at before = ap (λ f. f at before) (para-roll-Head Placed Placed Placed Placed Shown at_head at_instr at_subject at_cmd at_term layer.Map)
programs_is head.Restrict at before = ap (λ f. f at before) (para-roll-Head Placed Placed Placed Placed Shown at_head at_instr at_subject at_cmd at_term layer.Restrict)
programs_is (head.Pr p s) at before = ap (λ f. f at before) (para-roll-Head Placed Placed Placed Placed Shown at_head at_instr at_subject at_cmd at_term (layer.Pr p s))
programs_is (head.Glob m s) at before = ap (λ f. f at before) (para-roll-Head Placed Placed Placed Placed Shown at_head at_instr at_subject at_cmd at_term (layer.Glob m s))
programs_is (head.Hoare s) at before = ap (λ f. f at before) (para-roll-Head Placed Placed Placed Placed Shown at_head at_instr at_subject at_cmd at_term (layer.Hoare s))
programs_is (head.Phoare s r) at before = ap (λ f. f at before) (para-roll-Head Placed Placed Placed Placed Shown at_head at_instr at_subject at_cmd at_term (layer.Phoare s r))
programs_is (head.Equiv s u) at before = ap (λ f. f at before) (para-roll-Head Placed Placed Placed Placed Shown at_head at_instr at_subject at_cmd at_term (layer.Equiv s u))

pub term_is : (t : Term) (known : Bool) (at : Place) (before : Text)
    → term_text t known at before ≡ inside_text t known (inside (out-Term t).head (out-Term t).args at) before
unfolding term_text programs
term_is t known at before =
    let h = (out-Term t).head in
    let ts = (out-Term t).args in
    let ty = (out-Term t).ty in
    ap (λ y. term_text y known at before) (sym (roll-out-Term t))
    ∙ ap (λ f. f known at before) (para-roll-Term Placed Placed Placed Placed Shown at_head at_instr at_subject at_cmd at_term (out-Term t))
    ∙ ap (λ us. written h (programs h) (right_first us) (all_shown ts) ty known (inside h us at) before) (trees_shown ts)
    ∙ ap (λ w. (arguments h (right_first ts) 0 (all_shown ts) known (inside h ts at) ▸ closing h) w) (programs_is h (inside h ts at) (opening h ty (inside h ts at) before))

pub subject_Proc : (p : ProcRef) (at : Place) (before : Text) → subject_text (Proc p) at before ≡ procedure at.bound p before
unfolding Rattle.gb_terms.specs.declared.term.Head.TheViews.roll-Subject denote.Hole.Carrier.roll term_text subject_text instr_text cmd_text
subject_Proc p at before = ap (λ f. f at before) (para-roll-Subject Placed Placed Placed Placed Shown at_head at_instr at_subject at_cmd at_term (layer.Proc p))

pub subject_Body : (c : Cmd) (at : Place) (before : Text) → subject_text (Body c) at before ≡ cmd_text c at before
unfolding Rattle.gb_terms.specs.declared.term.Head.TheViews.roll-Subject denote.Hole.Carrier.roll term_text subject_text instr_text cmd_text
subject_Body c at before = ap (λ f. f at before) (para-roll-Subject Placed Placed Placed Placed Shown at_head at_instr at_subject at_cmd at_term (layer.Body c))

pub instr_Assign : (xs : List Var) (e : Term) (at : Place) (before : Text) → instr_text (Assign xs e) at before ≡ (targets (codes " <- ") xs at.bound ▸ form (shown e) true at ▸ word (codes ";")) before
unfolding Rattle.gb_terms.specs.declared.term.Head.TheViews.roll-Instr denote.Hole.Carrier.roll term_text subject_text instr_text cmd_text
instr_Assign xs e at before = ap (λ f. f at before) (para-roll-Instr Placed Placed Placed Placed Shown at_head at_instr at_subject at_cmd at_term (layer.Assign xs e))

pub instr_Sample : (x : Var) (d : Term) (at : Place) (before : Text) → instr_text (Sample x d) at before ≡ (variable at.bound x ▸ word (codes " <$ ") ▸ form (shown d) true at ▸ word (codes ";")) before
unfolding Rattle.gb_terms.specs.declared.term.Head.TheViews.roll-Instr denote.Hole.Carrier.roll term_text subject_text instr_text cmd_text
instr_Sample x d at before = ap (λ f. f at before) (para-roll-Instr Placed Placed Placed Placed Shown at_head at_instr at_subject at_cmd at_term (layer.Sample x d))

pub instr_Call : (xs : List Var) (p : ProcRef) (ts : List Term) (at : Place) (before : Text) → instr_text (Call xs p ts) at before ≡ (targets (codes " <@ ") xs at.bound ▸ call p (all_shown ts) at) before
unfolding Rattle.gb_terms.specs.declared.term.Head.TheViews.roll-Instr denote.Hole.Carrier.roll term_text subject_text instr_text cmd_text
instr_Call xs p ts at before = ap (λ f. f at before) (para-roll-Instr Placed Placed Placed Placed Shown at_head at_instr at_subject at_cmd at_term (layer.Call xs p ts))

pub instr_If : (e : Term) (a b : Cmd) (at : Place) (before : Text) → instr_text (If e a b) at before ≡ (test (codes "if (") (shown e) at ▸ word (codes ") ") ▸ cmd_text a at ▸ otherwise (b, cmd_text b) at) before
unfolding Rattle.gb_terms.specs.declared.term.Head.TheViews.roll-Instr denote.Hole.Carrier.roll term_text subject_text instr_text cmd_text
instr_If e a b at before = ap (λ f. f at before) (para-roll-Instr Placed Placed Placed Placed Shown at_head at_instr at_subject at_cmd at_term (layer.If e a b))

pub instr_While : (e v : Term) (a : Cmd) (at : Place) (before : Text) → instr_text (While e v a) at before ≡ (test (codes "while (") (shown e) at ▸ word (codes ") variant ") ▸ operand (shown v) false at ▸ word (codes " ") ▸ cmd_text a at) before
unfolding Rattle.gb_terms.specs.declared.term.Head.TheViews.roll-Instr denote.Hole.Carrier.roll term_text subject_text instr_text cmd_text
instr_While e v a at before = ap (λ f. f at before) (para-roll-Instr Placed Placed Placed Placed Shown at_head at_instr at_subject at_cmd at_term (layer.While e v a))

pub opening_Assign : (xs : List Var) (e : Term) (bound : List Known) (before : Text) → instr_opening (Assign xs e) bound before ≡ targets (codes " <- ") xs bound before
unfolding Rattle.gb_terms.specs.declared.term.Head.TheViews.roll-Instr denote.Hole.Carrier.roll
opening_Assign xs e bound before = ap (λ l. instr_opening_layer l bound before) (out-roll-Instr (layer.Assign xs e))

pub opening_Sample : (x : Var) (d : Term) (bound : List Known) (before : Text) → instr_opening (Sample x d) bound before ≡ (variable bound x ▸ word (codes " <$ ")) before
unfolding Rattle.gb_terms.specs.declared.term.Head.TheViews.roll-Instr denote.Hole.Carrier.roll
opening_Sample x d bound before = ap (λ l. instr_opening_layer l bound before) (out-roll-Instr (layer.Sample x d))

pub opening_Call : (xs : List Var) (p : ProcRef) (ts : List Term) (bound : List Known) (before : Text)
    → instr_opening (Call xs p ts) bound before ≡ (targets (codes " <@ ") xs bound ▸ procedure bound p ▸ word (codes "(")) before
unfolding Rattle.gb_terms.specs.declared.term.Head.TheViews.roll-Instr denote.Hole.Carrier.roll
opening_Call xs p ts bound before = ap (λ l. instr_opening_layer l bound before) (out-roll-Instr (layer.Call xs p ts))

each_pair : (is : List Instr) (at : Place) (before : Text)
    → each (λ (i : Instr × Placed). word (codes " ") ▸ i.1 at) (map (λ i. (i, instr_text i)) is) before ≡ each (λ i. word (codes " ") ▸ instr_text i at) is before
each_pair [] at before = refl
each_pair (i ∷ is) at before = each_pair is at ((word (codes " ") ▸ instr_text i at) before)

pub cmd_is : (c : Cmd) (at : Place) (before : Text)
    → cmd_text c at before ≡ (word (codes "{") ▸ each (λ i. word (codes " ") ▸ instr_text i at) c.list ▸ word (codes " }")) before
unfolding term_text subject_text instr_text cmd_text
cmd_is c at before =
    ap (λ y. cmd_text y at before) (sym (roll-out-Cmd c))
    ∙ ap (λ f. f at before) (para-roll-Cmd Placed Placed Placed Placed Shown at_head at_instr at_subject at_cmd at_term (out-Cmd c))
    ∙ ap (word (codes " }")) (each_pair c.list at (word (codes "{") before))

-- a body, all of whose statements are written
pub body_done : (c : Cmd) (xs : List Instr) (i : ℕ) (at : Place) (start before text : Text) → xs ≡ c.list → length xs ≤ i → before ≡ word (codes "{") start
    → each (λ j. word (codes " ") ▸ instr_text j at) (drop i c.list) text ≡ each (λ j. word (codes " ") ▸ instr_text j at) c.list before
    → word (codes " }") text ≡ cmd_text c at start
body_done c xs i at start before text same end from all =
    ap (word (codes " }"))
    (sym (ap (λ ys. each (λ j. word (codes " ") ▸ instr_text j at) ys text) (drop_all i c.list (subst (λ ys. length ys ≤ i) same end)))
    ∙ all ∙ ap (each (λ j. word (codes " ") ▸ instr_text j at) c.list) from)
    ∙ sym (cmd_is c at start)

-- forms, all of which are written
pub forms_done : (list rest : List Term) (x : Term) (i : ℕ) (at : List Known → Place) (b : List Known) (before : Text) (p q : Page)
    → list ≡ x ∷ rest → length rest ≤ i → p ≡ record { text = form (shown x) true (at b) before; bound = b } → q.bound ≡ p.bound
    → each (further (at p.bound)) (all_shown (drop i rest)) q.text ≡ each (further (at p.bound)) (all_shown rest) p.text
    → q ≡ record { text = forms (all_shown list) (at b) before; bound = b }
forms_done list rest x i at b before p q split end from same all = λ j. record { text = all_written j; bound = (same ∙ ap (λ r. r.bound) from) j }
  where
    all_written : q.text ≡ forms (all_shown list) (at b) before
    all_written =
        sym (ap (λ ys. each (further (at p.bound)) (all_shown ys) q.text) (drop_all i rest end))
        ∙ all
        ∙ ap (λ r. each (further (at r.bound)) (all_shown rest) r.text) from
        ∙ sym (ap (λ ys. forms (all_shown ys) (at b) before) split)

-- one argument more
module _ (h : Head) (first known : Bool) (xs : List Term) (i : ℕ) (x : Term) (within : i < length xs) (here : x ≡ get_or xs i x) (at : List Known → Place) (b c : List Known) (same : c ≡ b) where
  more : (before : Text) → arguments h first i (all_shown (drop i xs)) known (at b) before
      ≡ arguments h first (i + 1) (all_shown (drop (i + 1) xs)) known (at b)
      (argument h i (is_nil (all_shown (drop (i + 1) xs))) (shown x) (tells h first known i (is_nil (all_shown (drop (i + 1) xs)))) (at b) before)
  more before =
      at_drop_more (λ ys. arguments h first i (all_shown ys) known (at b) before) xs i x within
      ∙ ap (λ y. arguments h first i (all_shown (y ∷ drop (i + 1) xs)) known (at b) before) (sym here)

  pub arguments_more : (p : Page) (last told : Bool) (start before : Text)
      → last ≡ is_nil (all_shown (take (length xs - (i + 1)) (drop (i + 1) xs))) → told ≡ tells h first known i last
      → p ≡ record { text = argument h i last (shown x) told (at c) before; bound = c }
      → arguments h first i (all_shown (drop i xs)) known (at b) before ≡ start
      → record { same : p.bound ≡ b; text : arguments h first (i + 1) (all_shown (drop (i + 1) xs)) known (at b) p.text ≡ start }
  arguments_more p last told start before ending telling is all = record {
    same = ap (λ q. q.bound) is ∙ same;
    text =
        ap (λ q. arguments h first (i + 1) (all_shown (drop (i + 1) xs)) known (at b) q.text) is
        ∙ ap (λ k. arguments h first (i + 1) (all_shown (drop (i + 1) xs)) known (at b) (argument h i last (shown x) told (at k) before)) same
        ∙ ap (λ k. arguments h first (i + 1) (all_shown (drop (i + 1) xs)) known (at b) (argument h i last (shown x) k (at b) before)) telling
        ∙ ap (λ k. arguments h first (i + 1) (all_shown (drop (i + 1) xs)) known (at b) (argument h i k (shown x) (tells h first known i k) (at b) before))
        (ending ∙ ap (λ ys. is_nil (all_shown ys)) (take_all (length xs - (i + 1)) (drop (i + 1) xs) (le_of_eq (length-drop (i + 1) xs))))
        ∙ sym (more before)
        ∙ all;
  }
