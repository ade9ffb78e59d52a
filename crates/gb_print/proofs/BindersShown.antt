-- What is printed of quantifiers and of functions reads as their trees.
use Rattle.std.specs.Prelude.{ℕ, ◌≡◌, true, false, List, [], ◌∷◌, ◌++◌, codes, Some, None}
use Rattle.std.specs.Fmt.{decimal}
use Rattle.std.proofs.Common.{refl, sym, subst}
use Rattle.gb_core.specs.declared.ty.Ty.{Ty}
use Rattle.gb_script.specs.declared.table.Symbol.TheVariants.{Part}
use Rattle.gb_goal.specs.Answers.{nowhere}
use Rattle.gb_limits.specs.LeftOut.{is_word_of}
use Rattle.gb_limits.specs.Lexeme.{spells}
use Rattle.gb_script.specs.declared.head.Head.TheVariants as head
use Rattle.gb_script.specs.declared.tree.Node.{Node}
use Rattle.gb_script.specs.declared.value.Value.TheVariants.{Tree}
use Rattle.gb_script.specs.Tree.{node}
use Rattle.gb_print_names.specs.declared.bound_names.Known.{Known}
use Rattle.gb_print_names.specs.Text.{Text, Writing, word, number}
use Rattle.gb_print_names.specs.Types as print
use Rattle.gb_print.specs.Layout as print_layout
use Rattle.gb_print.specs.Nodes as nodes
use Rattle.gb_print.specs.Types as type_tree
use Rattle.gb_print.specs.Heads as tree
use Rattle.gb_print.specs.Written.{in_range, is_path, is_name_text}
use Rattle.gb_print.proofs.Tokens.{Next}
use Rattle.gb_print.proofs.Symbols.{forall_word, exists_word, comma_word, ampersand}
use Rattle.gb_print.proofs.Levels.{Spelt, end, tok, row, followed}
use Rattle.gb_print.proofs.NameWords.{name_reads, name_start}
use Rattle.gb_print.proofs.Atoms.{OperandPart, path_operand, applied, for_all, exists_one, values_bind, function, typed_function}
use Rattle.gb_print.proofs.TypesShown.{ShowsType}
use Rattle.gb_print.proofs.LeavesShown.{number_shown}
use Rattle.gb_print.proofs.Productions as p
use Rattle.gb_print.proofs.Pieces.{literal, both_written, ends_literal, Shows, ShowsOperand}

module _ {stage : ℕ} where
  memory_bind : (x mid : Text) → is_name_text x ≡ true → Spelt stage (Part 94 ∷ []) (38 ∷ (x ++ (44 ∷ mid))) (44 ∷ mid) (Tree (node head.Memory [] (nodes.word x ∷ []) nowhere) ∷ [])
  memory_bind x mid h =
      let s = name_start x h in
      let n : Next (38 ∷ (x ++ (44 ∷ mid))) 109 (codes "&") (x ++ (44 ∷ mid)) = subst (λ l. Next (38 ∷ (l ++ (44 ∷ mid))) 109 (codes "&") (l ++ (44 ∷ mid))) (sym s.2) (ampersand s.0 (s.1 ++ (44 ∷ mid)) s.3) in
      row p.bind_memory (p.is_bind_memory stage) refl refl refl
      (row p.memory_ampersand (p.is_memory_ampersand stage) refl refl refl (tok n (followed (name_reads x (44 ∷ mid) h refl) end)) end) end

  pub over_all : {f : Writing} {y : Node} (bound : List Known) {t : print.Part} {z : type_tree.Part} (x : Text) → is_name_text x ≡ true → ShowsType stage stage bound t z → Shows stage f y
      → Shows stage (λ before. f (word (codes "), ") (t.1 bound (word (codes " : ") (word x (word (codes " (") (word (codes "forall") before)))))))
      (tree.quantified (codes "forall") (nodes.tree head.Values (nodes.word x ∷ nodes.list [] ∷ z.1 bound ∷ [])) (y ∷ []))
  over_all {f = f} bound {t = t} x h q s = record {
    text = λ mid. codes "forall (" ++ (x ++ (codes " : " ++ q.text (codes "), " ++ s.text mid)));
    bar = s.bar;
    writes = both_written (literal (codes "forall")) (both_written (literal (codes " (")) (both_written (literal x) (both_written (literal (codes " : ")) (both_written q.writes (both_written (literal (codes "), ")) s.writes)))));
    ends = λ before. s.ends _;
    form = record {
      starts = λ mid. record { byte = 102; more = codes "orall (" ++ (x ++ (codes " : " ++ q.text (codes "), " ++ s.text mid))); is = refl; begins = refl };
      reads = λ mid f.
          let rest = codes ", " ++ s.text mid in
          for_all (values_bind x rest h q.type) (forall_word (40 ∷ (x ++ (codes " : " ++ q.text (41 ∷ rest))))) (comma_word (s.text mid)) s.form f;
    };
  }

  pub over_some : {f : Writing} {y : Node} (bound : List Known) {t : print.Part} {z : type_tree.Part} (x : Text) → is_name_text x ≡ true → ShowsType stage stage bound t z → Shows stage f y
      → Shows stage (λ before. f (word (codes "), ") (t.1 bound (word (codes " : ") (word x (word (codes " (") (word (codes "exists") before)))))))
      (tree.quantified (codes "exists") (nodes.tree head.Values (nodes.word x ∷ nodes.list [] ∷ z.1 bound ∷ [])) (y ∷ []))
  over_some {f = f} bound {t = t} x h q s = record {
    text = λ mid. codes "exists (" ++ (x ++ (codes " : " ++ q.text (codes "), " ++ s.text mid)));
    bar = s.bar;
    writes = both_written (literal (codes "exists")) (both_written (literal (codes " (")) (both_written (literal x) (both_written (literal (codes " : ")) (both_written q.writes (both_written (literal (codes "), ")) s.writes)))));
    ends = λ before. s.ends _;
    form = record {
      starts = λ mid. record { byte = 101; more = codes "xists (" ++ (x ++ (codes " : " ++ q.text (codes "), " ++ s.text mid))); is = refl; begins = refl };
      reads = λ mid f.
          let rest = codes ", " ++ s.text mid in
          exists_one (values_bind x rest h q.type) (exists_word (40 ∷ (x ++ (codes " : " ++ q.text (41 ∷ rest))))) (comma_word (s.text mid)) s.form f;
    };
  }

  pub over_all_memories : {f : Writing} {y : Node} (x : Text) → is_name_text x ≡ true → Shows stage f y
      → Shows stage (λ before. f (word (codes ", ") (word x (word (codes " &") (word (codes "forall") before)))))
      (tree.quantified (codes "forall") (nodes.tree head.Memory (nodes.word x ∷ [])) (y ∷ []))
  over_all_memories {f = f} x h s = record {
    text = λ mid. codes "forall &" ++ (x ++ (codes ", " ++ s.text mid));
    bar = s.bar;
    writes = both_written (literal (codes "forall")) (both_written (literal (codes " &")) (both_written (literal x) (both_written (literal (codes ", ")) s.writes)));
    ends = λ before. s.ends _;
    form = record {
      starts = λ mid. record { byte = 102; more = codes "orall &" ++ (x ++ (codes ", " ++ s.text mid)); is = refl; begins = refl };
      reads = λ mid f. for_all (memory_bind x (32 ∷ s.text mid) h) (forall_word (38 ∷ (x ++ (codes ", " ++ s.text mid)))) (comma_word (s.text mid)) s.form f;
    };
  }

  pub over_some_memory : {f : Writing} {y : Node} (x : Text) → is_name_text x ≡ true → Shows stage f y
      → Shows stage (λ before. f (word (codes ", ") (word x (word (codes " &") (word (codes "exists") before)))))
      (tree.quantified (codes "exists") (nodes.tree head.Memory (nodes.word x ∷ [])) (y ∷ []))
  over_some_memory {f = f} x h s = record {
    text = λ mid. codes "exists &" ++ (x ++ (codes ", " ++ s.text mid));
    bar = s.bar;
    writes = both_written (literal (codes "exists")) (both_written (literal (codes " &")) (both_written (literal x) (both_written (literal (codes ", ")) s.writes)));
    ends = λ before. s.ends _;
    form = record {
      starts = λ mid. record { byte = 101; more = codes "xists &" ++ (x ++ (codes ", " ++ s.text mid)); is = refl; begins = refl };
      reads = λ mid f. exists_one (memory_bind x (32 ∷ s.text mid) h) (exists_word (38 ∷ (x ++ (codes ", " ++ s.text mid)))) (comma_word (s.text mid)) s.form f;
    };
  }

  -- A function behind the other arguments of its head.

  abbrev function_part : {w : Writing} {y : Node} (x : Text) → is_name_text x ≡ true → Shows stage w y → OperandPart stage
  function_part {y = y} x h s = record {
    text = λ mid. codes "(fun " ++ (x ++ (codes " => " ++ s.text (41 ∷ mid)));
    bar = false;
    tree = nodes.tree head.Function (nodes.list (nodes.word x ∷ []) ∷ y ∷ []);
    operand = function x h s.form;
  }

  abbrev operand_part : {w : Writing} {x : Node} → ShowsOperand stage w x → OperandPart stage
  operand_part {x = x} s = record { text = s.text; bar = s.bar; tree = x; operand = s.operand }

  pub with_function : {d f : Writing} {z y : Node} (m : Text) → is_path m ≡ true → (bound : List Known) (x : Text) → is_name_text x ≡ true → ShowsOperand stage d z → Shows stage f y
      → Shows stage (λ before. word (codes ")") (f (word (codes " => ") (word x (word (codes " (fun ") (d (word (codes " ") (word m before))))))))
      (nodes.tree head.Apply (nodes.path m ∷ z ∷ tree.function None x bound y ∷ []))
  with_function {d = d} {f = f} m k bound x h o s = record {
    text = λ mid. m ++ (32 ∷ o.text (codes " (fun " ++ (x ++ (codes " => " ++ s.text (41 ∷ mid)))));
    bar = false;
    writes = both_written (literal m) (both_written (literal (codes " ")) (both_written o.writes (both_written (literal (codes " (fun ")) (both_written (literal x) (both_written (literal (codes " => ")) (both_written s.writes (literal (codes ")"))))))));
    ends = λ before. ends_literal (codes ")") refl refl (f (word (codes " => ") (word x (word (codes " (fun ") (d (word (codes " ") (word m before)))))));
    form = applied (path_operand m k) refl (operand_part o) (function_part x h s ∷ []);
  }

  pub summed : {f : Writing} {y : Node} (q : ℕ) → in_range q ≡ true → (bound : List Known) (x : Text) → is_name_text x ≡ true → Shows stage f y
      → Shows stage (λ before. word (codes ")") (f (print_layout.of_function x None bound (number q (word (codes "sum ") before)))))
      (nodes.tree head.Apply (nodes.word (codes "sum") ∷ nodes.number q ∷ tree.function None x bound y ∷ []))
  unfolding spells is_word_of
  summed {f = f} q r bound x h s = record {
    text = λ mid. codes "sum " ++ (decimal q ++ (codes " (fun " ++ (x ++ (codes " => " ++ s.text (41 ∷ mid)))));
    bar = false;
    writes = both_written (literal (codes "sum ")) (both_written (literal (decimal q)) (both_written (literal (codes " (fun ")) (both_written (literal x) (both_written (literal (codes " => ")) (both_written s.writes (literal (codes ")")))))));
    ends = λ before. ends_literal (codes ")") refl refl (f (print_layout.of_function x None bound (number q (word (codes "sum ") before))));
    form = applied (path_operand (codes "sum") refl) refl (operand_part (number_shown q r)) (function_part x h s ∷ []);
  }

  pub summed_typed : {f : Writing} {y : Node} (q : ℕ) → in_range q ≡ true → (bound : List Known) (t : Ty) (x : Text) → is_name_text x ≡ true → ShowsType stage stage bound (print.type_part t) (type_tree.type_part t) → Shows stage f y
      → Shows stage (λ before. word (codes ")") (f (print_layout.of_function x (Some t) bound (number q (word (codes "sum ") before)))))
      (nodes.tree head.Apply (nodes.word (codes "sum") ∷ nodes.number q ∷ tree.function (Some t) x bound y ∷ []))
  unfolding spells is_word_of
  summed_typed {f = f} {y = y} q r bound t x h c s = record {
    text = λ mid. codes "sum " ++ (decimal q ++ (codes " (fun (" ++ (x ++ (codes " : " ++ c.text (codes ") => " ++ s.text (41 ∷ mid))))));
    bar = false;
    writes = both_written (literal (codes "sum ")) (both_written (literal (decimal q)) (both_written (literal (codes " (fun (")) (both_written (literal x) (both_written (literal (codes " : ")) (both_written c.writes (both_written (literal (codes ") => ")) (both_written s.writes (literal (codes ")")))))))));
    ends = λ before. ends_literal (codes ")") refl refl (f (print_layout.of_function x (Some t) bound (number q (word (codes "sum ") before))));
    form = applied (path_operand (codes "sum") refl) refl (operand_part (number_shown q r)) (record {
      text = λ mid. codes "(fun (" ++ (x ++ (codes " : " ++ c.text (codes ") => " ++ s.text (41 ∷ mid))));
      bar = false;
      tree = tree.function (Some t) x bound y;
      operand = typed_function x h c.type s.form;
    } ∷ []);
  }
