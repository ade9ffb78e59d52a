-- What loops read as: the variant, and behind it the body as a last item.
use Rattle.std.specs.Prelude.{ℕ, ◌≡◌, Bool, true, false, if◌then◌else◌, nat_le, List, [], ◌∷◌, ◌++◌, codes}
use Rattle.std.proofs.Common.{refl, ap, ap₂, sym, ◌∙◌, subst}
use Rattle.gb_goal.specs.Answers.{nowhere}
use Rattle.gb_script.specs.declared.table.Symbol.TheVariants.{Part}
use Rattle.gb_script.specs.declared.head.Head.{Head}
use Rattle.gb_script.specs.declared.head.Head.TheVariants as head
use Rattle.gb_script.specs.declared.tree.Node.{Node}
use Rattle.gb_script.specs.declared.value.Value.TheVariants.{Tree, Trees}
use Rattle.gb_script.specs.Head.{looseness}
use Rattle.gb_script.specs.Tree.{head_of, parts_of, attach, attached}
use Rattle.gb_script.proofs.Stacks.{append_nil}
use Rattle.gb_print_names.specs.Text.{Text}
use Rattle.gb_print.specs.Nodes as nodes
use Rattle.gb_print.specs.Programs.{begins_with_word, named_loop, loop}
use Rattle.gb_print.proofs.Tokens.{spaced}
use Rattle.gb_print.proofs.Symbols.{open_brace, close_brace, close_round, variant_word, while_word}
use Rattle.gb_print.proofs.Levels.{Before, Spelt, end, tok, skip, row, followed}
use Rattle.gb_print.proofs.Attaching.{node_head, node_parts, attached_append, behind_plain}
use Rattle.gb_print.proofs.Operands.{IsForm, IsOperand, VariantRun, grown_node, fits_close, fits_space, opens}
use Rattle.gb_print.proofs.NameWords.{name_reads}
use Rattle.gb_print.proofs.StatementsRead.{IsStatement, with_word, with_other, StatementPart, statements_text, statement_trees, statements_first, statements_read}
use Rattle.gb_print.proofs.Productions as p

-- The body of a loop as an item: what it makes of a variant, and how it reads.
record LoopItem (stage : ℕ) (ss : List (StatementPart stage)) : Type 0 where
  head_is : Head
  parts : List Node
  outside : nat_le (looseness head_is) 0 ≡ false
  loop_is : (v : Node) → loop v (statement_trees ss) ≡ nodes.tree head_is (v ∷ parts)
  reads : (mid : Text) → Spelt stage (Part 65 ∷ []) (statements_text ss mid) mid (Tree (nodes.tree head_is parts) ∷ [])

loop_by : (v s : Node) (ss : List Node) (b : Bool) → begins_with_word (head_of s) ≡ b
    → loop v (s ∷ ss) ≡ (if b then nodes.tree head.NamedLoop (v ∷ named_loop (head_of s) (parts_of s) ss) else nodes.tree head.Loop (v ∷ s ∷ ss))
loop_by v s ss b e = ap (λ (c : Bool). if c then nodes.tree head.NamedLoop (v ∷ named_loop (head_of s) (parts_of s) ss) else nodes.tree head.Loop (v ∷ s ∷ ss)) e

-- a body that begins with a word
named_is : (h : Head) (w : Text) (ps : List Node) (v s : Node) (ss : List Node) → s ≡ nodes.tree h (nodes.word w ∷ ps) → begins_with_word h ≡ true
    → loop v (s ∷ ss) ≡ nodes.tree head.NamedLoop (v ∷ nodes.word w ∷ nodes.tree h ps ∷ ss)
named_is h w ps v s ss e begins =
    let heads : head_of s ≡ h = ap head_of e ∙ node_head h [] (nodes.word w ∷ ps) nowhere in
    let parts : parts_of s ≡ nodes.word w ∷ ps = ap parts_of e ∙ node_parts h [] (nodes.word w ∷ ps) nowhere in
    loop_by v s ss true (ap begins_with_word heads ∙ begins)
    ∙ ap₂ (λ (k : Head) ws. nodes.tree head.NamedLoop (v ∷ named_loop k ws ss)) heads parts

module _ {stage : ℕ} where
  item_by : (s : StatementPart stage) (ss : List (StatementPart stage)) → IsStatement stage s.text s.tree → LoopItem stage (s ∷ ss)
  item_by s ss (with_other o) = record {
    head_is = head.Loop;
    parts = s.tree ∷ statement_trees ss;
    outside = refl;
    loop_is = λ v. loop_by v s.tree (statement_trees ss) false o.no_words;
    reads = λ mid. skip (row p.variant_brace_other_statements (p.is_variant_brace_other_statements stage) refl refl (ap (λ l. Tree (nodes.tree head.Loop l) ∷ []) (append_nil (s.tree ∷ statement_trees ss)))
        (followed (row p.other_statements_other_statement (p.is_other_statements_other_statement stage) refl refl (ap (λ l. Trees (s.tree ∷ l) ∷ []) (append_nil (statement_trees ss)))
        (followed (o.reads (statements_text ss mid) (statements_first ss mid)) (statements_read ss mid)) end)
        (tok (spaced (close_brace mid)) end)) end);
  }
  item_by s ss (with_word w) = record {
    head_is = head.NamedLoop;
    parts = nodes.word w.word ∷ nodes.tree w.head_is w.parts ∷ statement_trees ss;
    outside = refl;
    loop_is = λ v. named_is w.head_is w.word w.parts v s.tree (statement_trees ss) w.tree_is w.words;
    reads = λ mid.
        let rest = statements_text ss mid in
        skip (subst (λ l. Spelt stage (Part 65 ∷ []) l mid (Tree (nodes.tree head.NamedLoop (nodes.word w.word ∷ nodes.tree w.head_is w.parts ∷ statement_trees ss)) ∷ [])) (sym (w.whole rest))
        (row p.variant_brace_name (p.is_variant_brace_name stage) refl refl
        (ap (λ z. Tree z ∷ []) (grown_node (Tree (nodes.word w.word) ∷ []) head.NamedLoop [] (nodes.tree w.head_is w.parts ∷ statement_trees ss) nowhere))
        (followed (name_reads w.word (w.behind rest) w.is_name (w.apart rest))
        (row p.variant_name_statement_tail (p.is_variant_name_statement_tail stage) refl refl (ap (λ l. Tree (nodes.tree head.NamedLoop (nodes.tree w.head_is w.parts ∷ l)) ∷ []) (append_nil (statement_trees ss)))
        (followed (w.reads rest) (followed (statements_read ss mid) (tok (spaced (close_brace mid)) end))) end)) end));
  }

  item : (ss : List (StatementPart stage)) → LoopItem stage ss
  item [] = record {
    head_is = head.Loop;
    parts = [];
    outside = refl;
    loop_is = λ v. refl;
    reads = λ mid. row p.variant_brace_other_statements (p.is_variant_brace_other_statements stage) refl refl refl
        (followed (row p.other_statements_none (p.is_other_statements_none stage) refl refl refl end end) (tok (spaced (close_brace mid)) end)) end;
  }
  item (s ∷ ss) = item_by s ss s.statement

  -- the body of a loop behind its variant
  body_run : (ss : List (StatementPart stage)) (mid : Text) → VariantRun stage (codes " {" ++ statements_text ss mid) mid (nodes.tree (item ss).head_is (item ss).parts ∷ [])
  body_run ss mid = record {
    value = Tree (nodes.tree (item ss).head_is (item ss).parts);
    value_is = refl;
    reads = row p.variant_tail_open_brace (p.is_variant_tail_open_brace stage) refl refl refl (tok (spaced (open_brace (statements_text ss mid))) ((item ss).reads mid)) end;
  }

  variant_reads : {φ : Before} {bar : Bool} {v : Node} → IsOperand stage φ bar v → (ss : List (StatementPart stage)) (mid : Text)
      → Spelt stage (Part 62 ∷ []) (φ (codes " {" ++ statements_text ss mid)) mid (Tree (loop v (statement_trees ss)) ∷ [])
  variant_reads {φ = φ} {bar = bar} {v = v} o ss mid =
      let t = item ss in
      let body = nodes.tree t.head_is t.parts in
      let run = o.variant (codes " {" ++ statements_text ss mid) mid (body ∷ []) (fits_space bar (123 ∷ statements_text ss mid)) (body_run ss mid) in
      row p.variant_plain_head (p.is_variant_plain_head stage) refl refl
      (ap (λ l. Tree (attached o.root l) ∷ []) (append_nil _ ∙ run.value_is)
      ∙ ap (λ z. Tree z ∷ []) (attached_append o.root o.suffixes (body ∷ []) ∙ ap (λ z. attach z body) o.whole ∙ behind_plain v o.plain t.head_is [] t.parts t.outside ∙ sym (t.loop_is v)))
      run.reads end

  pub while : {φ ψ : Before} {c d : Bool} {e v : Node} → IsForm stage φ c e → IsOperand stage ψ d v → (ss : List (StatementPart stage))
      → IsStatement stage (λ mid. codes "while (" ++ φ (codes ") variant " ++ ψ (codes " {" ++ statements_text ss mid))) (nodes.tree head.While (e ∷ loop v (statement_trees ss) ∷ []))
  while {φ = φ} {ψ = ψ} {c = c} {e = e} {v = v} o w ss = with_other (record {
    no_words = ap begins_with_word (node_head head.While [] (e ∷ loop v (statement_trees ss) ∷ []) nowhere);
    first = λ mid. let rest = 40 ∷ φ (codes ") variant " ++ ψ (codes " {" ++ statements_text ss mid)) in record { kind = 34; name = codes "while"; more = rest; next = while_word rest; may = refl };
    reads = λ mid n.
        let last = ψ (codes " {" ++ statements_text ss mid) in
        let rest = codes " variant " ++ last in
        row p.other_statement_while (p.is_other_statement_while stage) refl refl refl
        (tok (while_word (40 ∷ φ (41 ∷ rest))) (tok (opens (o.starts (41 ∷ rest))) (followed (o.reads (41 ∷ rest) (fits_close c rest)) (tok (close_round rest) (tok (spaced (variant_word last)) (variant_reads w ss mid)))))) end;
  })
