-- What is printed of statements and blocks reads as their trees.
use Rattle.std.specs.Prelude.{ℕ, ◌≡◌, true, false, nat_le, List, [], ◌∷◌, ◌++◌, map, codes}
use Rattle.std.specs.List.{list_all}
use Rattle.std.proofs.Common.{refl, ap, ap₂, sym, ◌∙◌, subst, append_assoc}
use Rattle.gb_core.specs.declared.var.Var.{Var}
use Rattle.gb_core.specs.declared.var.Var.TheVariants.{Global, Local, Glob}
use Rattle.gb_terms.specs.declared.module.ProcRef.{ProcRef}
use Rattle.gb_terms.specs.declared.term.Term.{Term}
use Rattle.gb_terms.specs.declared.term.Instr.{Instr}
use Rattle.gb_terms.specs.declared.term.Cmd.{Cmd}
use Rattle.gb_terms.specs.declared.term.Head.TheVariants.{Assign, Sample, Call, If, While, Body}
use Rattle.gb_script.specs.declared.head.Head.{Head}
use Rattle.gb_script.specs.declared.head.Head.TheVariants as head
use Rattle.gb_script.specs.declared.tree.Node.{Node}
use Rattle.gb_script.specs.declared.value.Value.TheVariants.{Tree}
use Rattle.gb_script.specs.declared.table.Symbol.TheVariants.{Part}
use Rattle.gb_print_names.specs.declared.bound_names.Known.{Known}
use Rattle.gb_print_names.specs.Text.{Text, Writing, ◌▸◌, each, word}
use Rattle.gb_print_names.specs.Names as names
use Rattle.gb_print_names.specs.BoundNames.{Place}
use Rattle.gb_print_names.specs.Names.{module_name}
use Rattle.gb_print.specs.FormText as text
use Rattle.gb_print.proofs.FormSteps.{subject_Body, instr_Assign, instr_Sample, instr_Call, instr_If, instr_While, cmd_is}
use Rattle.gb_print.specs.Nodes as nodes
use Rattle.gb_print.specs.Types as type_tree
use Rattle.gb_print.specs.Programs as programs
use Rattle.gb_print.specs.Forms as tree
use Rattle.gb_print.specs.Written.{is_path, is_name_text, IsWrittenProcedure, is_front, is_target_here, are_targets_here}
use Rattle.gb_print.proofs.Steps.{program_is, assign_is, sample_is, call_is, if_is, while_is, statements_are}
use Rattle.gb_print.proofs.Tokens.{both}
use Rattle.gb_print.proofs.Levels.{Before, Spelt}
use Rattle.gb_print.proofs.NameWords.{dotted, some_words, map_word_end, dotted_end, all_names_end}
use Rattle.gb_print.proofs.Atoms.{FormPart, more_forms, form_trees}
use Rattle.gb_print.proofs.Pieces.{Writes, literal, both_written, empty_written}
use Rattle.gb_print.proofs.Shown.{writes_same}
use Rattle.gb_print.proofs.PartsShown.{ShownTerm, part_form, part_operand}
use Rattle.gb_print.proofs.HeadsShown.{part_of}
use Rattle.gb_print.proofs.ProceduresShown.{arguments_text}
use Rattle.gb_print.proofs.JudgmentsShown.{ShowsSubject}
use Rattle.gb_print.proofs.CallsShown.{procedure_written}
use Rattle.gb_print.proofs.LoopsRead.{while}
use Rattle.gb_print.proofs.StatementsRead.{IsStatement, StatementPart, statements_text, statement_trees, IsSource, WordsPart, word_path, word_paths, more_paths, block_subject, assign_source, call_source, source_tail, sample_tail, words_statement, tuple_statement, branch, branches}

-- Variables that are written.

pub record ShowsWords (bound : List Known) (x : Var) : Type 0 where
  pub words : WordsPart
  pub writes : Writes (names.variable bound x) (λ mid. words.first ++ (dotted words.more ++ mid))
  pub trees : type_tree.variable_words bound x ≡ map nodes.word (words.first ∷ words.more)

words_of : (bound : List Known) (x : Var) → is_target_here bound x ≡ true → ShowsWords bound x
words_of bound (Global m x) h =
    let parts = both (is_path (module_name bound m)) (is_name_text x) h in
    let path = module_name bound m in
    let s = some_words path in
    let all : list_all is_name_text (s.first ∷ s.more) ≡ true = sym (ap (λ l. list_all is_name_text l) s.are) ∙ parts.0 in
    record {
      words = record { first = s.first; more = s.more ++ x ∷ []; names = all_names_end (s.first ∷ s.more) x all parts.1 };
      writes = record {
        same = λ before mid.
            (both_written (both_written (literal path) (literal (codes "."))) (literal x)).same before mid
            ∙ ap (λ l. before ++ l) (sym (ap (λ l. s.first ++ l) (dotted_end s.more x mid) ∙ sym (append_assoc s.first (dotted s.more) (46 ∷ (x ++ mid))) ∙ ap (λ l. l ++ (46 ∷ (x ++ mid))) s.whole));
      };
      trees = sym (sym (map_word_end (s.first ∷ s.more) x) ∙ ap (λ l. map nodes.word l ++ nodes.word x ∷ []) (sym s.are));
    }
words_of bound (Local x) h =
    let s = some_words x in
    let all : list_all is_name_text (s.first ∷ s.more) ≡ true = sym (ap (λ l. list_all is_name_text l) s.are) ∙ h in
    record {
      words = record { first = s.first; more = s.more; names = all };
      writes = record { same = λ before mid. append_assoc before x mid ∙ ap (λ l. before ++ l) (sym (sym (append_assoc s.first (dotted s.more) mid) ∙ ap (λ l. l ++ mid) s.whole)) };
      trees = ap (λ l. map nodes.word l) s.are;
    }
words_of bound (Glob m) h = absurd cc

-- further variables
pub record ShowsPaths (bound : List Known) (xs : List Var) : Type 0 where
  pub parts : List WordsPart
  pub writes : Writes (each (λ x. word (codes ", ") ▸ names.variable bound x) xs) (more_paths parts)
  pub trees : map (λ x. nodes.of_words (type_tree.variable_words bound x)) xs ≡ word_paths parts

paths_of : (bound : List Known) (xs : List Var) → list_all (is_target_here bound) xs ≡ true → ShowsPaths bound xs
paths_of bound [] h = record { parts = []; writes = empty_written; trees = refl }
paths_of bound (x ∷ xs) h =
    let parts = both (is_target_here bound x) (list_all (is_target_here bound) xs) h in
    let v = words_of bound x parts.0 in
    let vs = paths_of bound xs parts.1 in
    record {
      parts = v.words ∷ vs.parts;
      writes = both_written (both_written (literal (codes ", ")) v.writes) vs.writes;
      trees = ap₂ (λ y ys. nodes.of_words y ∷ ys) v.trees vs.trees;
    }

-- Statements.

-- what is written reads as this statement
pub record ShowsStatement (stage : ℕ) (w : Writing) (t : Node) : Type 0 where
  pub text : Before
  pub writes : Writes w text
  pub statement : IsStatement stage text t

pub record ShowsInstr (stage : ℕ) (at : Place) (i : Instr) : Type 0 where
  pub node_of : Node
  pub trees : tree.instr_trees i at ≡ node_of ∷ []
  pub shows : ShowsStatement stage (text.instr_text i at) node_of

same_statement : {stage : ℕ} {v w : Writing} {t : Node} → ((before : Text) → w before ≡ v before) → ShowsStatement stage v t → ShowsStatement stage w t
same_statement e s = record { text = s.text; writes = writes_same e s.writes; statement = s.statement }

-- what is written to variables, behind them
with_targets : {stage : ℕ} {h : Head} {w : Writing} {φ : Before} {e : Node} (arrow : Text) (bound : List Known) (x : Var) (xs : List Var) → programs.begins_with_word h ≡ true → list_all (is_target_here bound) (x ∷ xs) ≡ true
    → Writes w φ → IsSource stage h (λ mid. arrow ++ φ mid) (e ∷ []) → ShowsStatement stage (text.targets arrow (x ∷ xs) bound ▸ w) (programs.written h bound (x ∷ xs) e)
with_targets {stage} {h = h} {w = w} {φ = φ} {e = e} arrow bound x [] b k i s =
    let v = words_of bound x (both (is_target_here bound x) true k).0 in
    subst (λ l. ShowsStatement stage (text.targets arrow (x ∷ []) bound ▸ w) (nodes.tree h (l ++ e ∷ []))) (sym v.trees)
    (record {
      text = λ mid. v.words.first ++ (dotted v.words.more ++ (arrow ++ φ mid));
      writes = both_written (both_written v.writes (literal arrow)) i;
      statement = words_statement (source_tail b s) v.words.first v.words.more v.words.names;
    })
with_targets {stage} {h = h} {w = w} {φ = φ} {e = e} arrow bound x (y ∷ ys) b k i s =
    let parts = both (is_target_here bound x) (list_all (is_target_here bound) (y ∷ ys)) k in
    let others = both (is_target_here bound y) (list_all (is_target_here bound) ys) parts.1 in
    let v = words_of bound x parts.0 in
    let u = words_of bound y others.0 in
    let us = paths_of bound ys others.1 in
    let several : word_path v.words ∷ word_paths (u.words ∷ us.parts) ≡ map (λ z. nodes.of_words (type_tree.variable_words bound z)) (x ∷ y ∷ ys) =
    sym (ap₂ (λ z zs. nodes.of_words z ∷ zs) v.trees (ap₂ (λ z zs. nodes.of_words z ∷ zs) u.trees us.trees)) in
    subst (λ l. ShowsStatement stage (text.targets arrow (x ∷ y ∷ ys) bound ▸ w) (nodes.tree head.TupleStatement (nodes.list l ∷ nodes.tree h (e ∷ []) ∷ []))) several
    (record {
      text = λ mid. 40 ∷ (v.words.first ++ (dotted v.words.more ++ more_paths (u.words ∷ us.parts) (41 ∷ (arrow ++ φ mid))));
      writes = both_written (both_written (both_written (both_written (literal (codes "(")) (both_written v.writes (both_written (both_written (literal (codes ", ")) u.writes) us.writes))) (literal (codes ")"))) (literal arrow)) i;
      statement = tuple_statement s v.words u.words us.parts;
    })

-- Calls.

abbrev pub AllForms : ℕ → Place → List Term → Type 0
AllForms stage at [] = Unit {0}
AllForms stage at (t ∷ ts) = ShownTerm stage at t × AllForms stage at ts

pub record ShowsMore (stage : ℕ) (at : Place) (ts : List Term) : Type 0 where
  pub parts : List (FormPart stage)
  pub writes : Writes (each (text.further at) (text.all_shown ts)) (more_forms parts)
  pub trees : tree.forms (tree.all_shown ts) at ≡ form_trees parts

pub record ShowsArguments (stage : ℕ) (at : Place) (ts : List Term) : Type 0 where
  pub parts : List (FormPart stage)
  pub writes : Writes (text.forms (text.all_shown ts) at ▸ word (codes ");")) (λ mid. arguments_text parts (59 ∷ mid))
  pub trees : tree.forms (tree.all_shown ts) at ≡ form_trees parts

more_shown : (stage : ℕ) (at : Place) (ts : List Term) → AllForms stage at ts → ShowsMore stage at ts
more_shown stage at [] s = record { parts = []; writes = empty_written; trees = refl }
more_shown stage at (t ∷ ts) s =
    let f = part_form s.0 true in
    let fs = more_shown stage at ts s.1 in
    record {
      parts = part_of f ∷ fs.parts;
      writes = both_written (both_written (literal (codes ", ")) f.writes) fs.writes;
      trees = ap (λ l. tree.form (tree.shown t) true at ∷ l) fs.trees;
    }

arguments_of : (stage : ℕ) (at : Place) (ts : List Term) → AllForms stage at ts → ShowsArguments stage at ts
arguments_of stage at [] s = record { parts = []; writes = both_written empty_written (literal (codes ");")); trees = refl }
arguments_of stage at (t ∷ ts) s =
    let f = part_form s.0 true in
    let fs = more_shown stage at ts s.1 in
    record {
      parts = part_of f ∷ fs.parts;
      writes = both_written (both_written f.writes fs.writes) (literal (codes ");"));
      trees = ap (λ l. tree.form (tree.shown t) true at ∷ l) fs.trees;
    }

-- a call, alone or behind variables
call_by : {stage : ℕ} {w : Writing} {φ : Before} {x : Node} (bound : List Known) (xs : List Var) → list_all (is_target_here bound) xs ≡ true → ((mid : Text) → Spelt stage (Part 68 ∷ []) (φ mid) mid (Tree x ∷ []))
    → IsStatement stage (λ mid. φ (59 ∷ mid)) x → Writes w (λ mid. φ (59 ∷ mid)) → ShowsStatement stage (text.targets (codes " <@ ") xs bound ▸ w) (programs.written head.AssignCall bound xs x)
call_by {φ = φ} bound [] k reads alone i = record { text = λ mid. φ (59 ∷ mid); writes = both_written empty_written i; statement = alone }
call_by bound (y ∷ ys) k reads alone i = with_targets (codes " <@ ") bound y ys refl k i (call_source reads)

-- Blocks.

pub record ShowsInstrs (stage : ℕ) (at : Place) (is : List Instr) : Type 0 where
  pub parts : List (StatementPart stage)
  pub writes : Writes (each (λ i. word (codes " ") ▸ text.instr_text i at) is ▸ word (codes " }")) (statements_text parts)
  pub trees : tree.statements is at ≡ statement_trees parts

pub record ShowsCmd (stage : ℕ) (at : Place) (c : Cmd) : Type 0 where
  pub parts : List (StatementPart stage)
  pub writes : Writes (text.cmd_text c at) (λ mid. 123 ∷ statements_text parts mid)
  pub trees : tree.cmd_trees c at ≡ statement_trees parts

module _ (stage : ℕ) (at : Place) where
  pub assign_shown : (xs : List Var) (e : Term) → are_targets_here at.bound xs ≡ true → ShownTerm stage at e → ShowsInstr stage at (Assign xs e)
  assign_shown [] e k s = absurd cc
  assign_shown (x ∷ xs) e k s =
      let f = part_form s true in
      record {
        node_of = programs.written head.Assign at.bound (x ∷ xs) (tree.form (tree.shown e) true at);
        trees = assign_is (x ∷ xs) e at;
        shows = same_statement (λ before. instr_Assign (x ∷ xs) e at before) (with_targets (codes " <- ") at.bound x xs refl k (both_written f.writes (literal (codes ";"))) (assign_source f.form));
      }

  pub sample_shown : (x : Var) (d : Term) → is_target_here at.bound x ≡ true → ShownTerm stage at d → ShowsInstr stage at (Sample x d)
  sample_shown x d k s =
      let f = part_form s true in
      let v = words_of at.bound x k in
      record {
        node_of = nodes.tree head.Sample (type_tree.variable_words at.bound x ++ tree.form (tree.shown d) true at ∷ []);
        trees = sample_is x d at;
        shows = same_statement (λ before. instr_Sample x d at before)
            (subst (λ l. ShowsStatement stage (names.variable at.bound x ▸ word (codes " <$ ") ▸ text.form (text.shown d) true at ▸ word (codes ";")) (nodes.tree head.Sample (l ++ tree.form (tree.shown d) true at ∷ []))) (sym v.trees)
            (record {
              text = λ mid. v.words.first ++ (dotted v.words.more ++ (codes " <$ " ++ f.text (59 ∷ mid)));
              writes = both_written (both_written (both_written v.writes (literal (codes " <$ "))) f.writes) (literal (codes ";"));
              statement = words_statement (sample_tail f.form) v.words.first v.words.more v.words.names;
            }));
      }

  pub call_shown : (xs : List Var) (p : ProcRef) (ts : List Term) → list_all (is_target_here at.bound) xs ≡ true → IsWrittenProcedure at.bound p → AllForms stage at ts → ShowsInstr stage at (Call xs p ts)
  call_shown xs p ts k w s =
      let m = procedure_written stage at.bound p w in
      let a = arguments_of stage at ts s in
      record {
        node_of = programs.written head.AssignCall at.bound xs (type_tree.call_tree p (tree.forms (tree.all_shown ts) at) at.bound);
        trees = call_is xs p ts at;
        shows = same_statement (λ before. instr_Call xs p ts at before)
            (subst (λ y. ShowsStatement stage (text.targets (codes " <@ ") xs at.bound ▸ text.call p (text.all_shown ts) at) (programs.written head.AssignCall at.bound xs (type_tree.call_tree p y at.bound))) (sym a.trees)
            (call_by at.bound xs k (m.call a.parts) (m.statement a.parts) (both_written (both_written m.writes (literal (codes "("))) a.writes)));
      }

  pub no_instrs : ShowsInstrs stage at []
  no_instrs = record { parts = []; writes = both_written empty_written (literal (codes " }")); trees = refl }

  pub more_instrs : (i : Instr) (is : List Instr) → ShowsInstr stage at i → ShowsInstrs stage at is → ShowsInstrs stage at (i ∷ is)
  more_instrs i is s ss = record {
    parts = record { text = s.shows.text; tree = s.node_of; statement = s.shows.statement } ∷ ss.parts;
    writes = both_written (both_written (literal (codes " ")) s.shows.writes) ss.writes;
    trees = ap₂ (λ l ls. l ++ ls) s.trees ss.trees;
  }

  pub cmd_shown : (c : Cmd) → ShowsInstrs stage at c.list → ShowsCmd stage at c
  cmd_shown c ss = record {
    parts = ss.parts;
    writes = writes_same (λ before. cmd_is c at before) (both_written (literal (codes "{")) ss.writes);
    trees = statements_are c at ∙ ss.trees;
  }

  pub body_shown : (c : Cmd) → nat_le 1 stage ≡ true → ShowsInstrs stage at c.list → ShowsSubject stage at (Body c)
  body_shown c goal ss =
      let b = cmd_shown c ss in
      record {
        shown = λ mid. 123 ∷ statements_text b.parts mid;
        node_of = nodes.tree head.Block (statement_trees b.parts);
        writes = writes_same (λ before. subject_Body c at before) b.writes;
        trees = program_is c at ∙ ap (λ l. nodes.tree head.Block l ∷ []) b.trees;
        subject = block_subject goal b.parts;
      }

  -- the branch behind `else`, where it has statements
  if_by : (e : Term) (a b : Cmd) (is : List Instr) → b.list ≡ is → ShownTerm stage at e → ShowsCmd stage at a → ShowsInstrs stage at is → ShowsInstr stage at (If e a b)
  if_by e a b [] q s x y =
      let f = part_form s true in
      let front = λ (before : Text). text.cmd_text a at (word (codes ") ") (text.form (text.shown e) true at (word (codes "if (") before))) in
      record {
        node_of = nodes.tree head.If (tree.form (tree.shown e) true at ∷ nodes.list (statement_trees x.parts) ∷ nodes.list [] ∷ []);
        trees = if_is e a b at ∙ ap₂ (λ l r. nodes.tree head.If (tree.form (tree.shown e) true at ∷ nodes.list l ∷ nodes.list r ∷ []) ∷ []) x.trees (statements_are b at ∙ ap (λ l. tree.statements l at) q);
        shows = same_statement (λ before. instr_If e a b at before ∙ ap (λ l. text.where_any l (word (codes " else ") ▸ text.cmd_text b at) (front before)) q)
            (record {
              text = λ mid. codes "if (" ++ f.text (codes ") {" ++ statements_text x.parts mid);
              writes = both_written (literal (codes "if (")) (both_written f.writes (both_written (literal (codes ") ")) x.writes));
              statement = branch f.form x.parts;
            });
      }
  if_by e a b (i ∷ is) q s x y =
      let f = part_form s true in
      let front = λ (before : Text). text.cmd_text a at (word (codes ") ") (text.form (text.shown e) true at (word (codes "if (") before))) in
      let other : Writes (text.cmd_text b at) (λ mid. 123 ∷ statements_text y.parts mid) =
      writes_same (λ before. cmd_is b at before ∙ ap (λ l. (word (codes "{") ▸ each (λ j. word (codes " ") ▸ text.instr_text j at) l ▸ word (codes " }")) before) q) (both_written (literal (codes "{")) y.writes) in
      record {
        node_of = nodes.tree head.If (tree.form (tree.shown e) true at ∷ nodes.list (statement_trees x.parts) ∷ nodes.list (statement_trees y.parts) ∷ []);
        trees = if_is e a b at
            ∙ ap₂ (λ l r. nodes.tree head.If (tree.form (tree.shown e) true at ∷ nodes.list l ∷ nodes.list r ∷ []) ∷ []) x.trees (statements_are b at ∙ ap (λ l. tree.statements l at) q ∙ y.trees);
        shows = same_statement (λ before. instr_If e a b at before ∙ ap (λ l. text.where_any l (word (codes " else ") ▸ text.cmd_text b at) (front before)) q)
            (record {
              text = λ mid. codes "if (" ++ f.text (codes ") {" ++ statements_text x.parts (codes " else {" ++ statements_text y.parts mid));
              writes = both_written (literal (codes "if (")) (both_written f.writes (both_written (literal (codes ") ")) (both_written x.writes (both_written (literal (codes " else ")) other))));
              statement = branches f.form x.parts y.parts;
            });
      }

  pub if_shown : (e : Term) (a b : Cmd) → ShownTerm stage at e → ShowsInstrs stage at a.list → ShowsInstrs stage at b.list → ShowsInstr stage at (If e a b)
  if_shown e a b s x y = if_by e a b b.list refl s (cmd_shown a x) y

  pub while_shown : (e v : Term) (a : Cmd) → ShownTerm stage at e → is_front v ≡ true → ShownTerm stage at v → ShowsInstrs stage at a.list → ShowsInstr stage at (While e v a)
  while_shown e v a s front r x =
      let f = part_form s true in
      let o = part_operand r false front in
      let b = cmd_shown a x in
      record {
        node_of = nodes.tree head.While (tree.form (tree.shown e) true at ∷ programs.loop (tree.operand (tree.shown v) false at) (statement_trees b.parts) ∷ []);
        trees = while_is e v a at ∙ ap (λ l. nodes.tree head.While (tree.form (tree.shown e) true at ∷ programs.loop (tree.operand (tree.shown v) false at) l ∷ []) ∷ []) b.trees;
        shows = same_statement (λ before. instr_While e v a at before)
            (record {
              text = λ mid. codes "while (" ++ f.text (codes ") variant " ++ o.text (codes " {" ++ statements_text b.parts mid));
              writes = both_written (both_written (both_written (both_written (both_written (literal (codes "while (")) f.writes) (literal (codes ") variant "))) o.writes) (literal (codes " "))) b.writes;
              statement = while f.form o.operand b.parts;
            });
      }
