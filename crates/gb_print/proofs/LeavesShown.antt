-- What is printed of literals, variables and binders reads as their trees.
use Rattle.std.specs.Prelude.{ℕ, suc, ◌≡◌, ◌+◌, ◌==◌, Bool, true, false, ◌&&◌, if◌then◌else◌, List, [], ◌∷◌, ◌++◌, map, codes, Option, Some, None}
use Rattle.std.specs.List.{slice_get, list_all}
use Rattle.std.specs.Char.{is_ascii_digit}
use Rattle.std.specs.Fmt.{decimal}
use Rattle.std.proofs.Common.{refl, ap, ap₂, sym, ◌∙◌, subst, arith}
use Rattle.std.proofs.lemmas.Bool.Decides.{nat_tests}
use Rattle.gb_core.specs.declared.ty.Ty.{Ty}
use Rattle.gb_core.specs.declared.ty.Ty.TheOpen as ty_layer
use Rattle.gb_core.specs.declared.var.Var.{Var}
use Rattle.gb_core.specs.declared.var.Var.TheVariants.{Global, Local, Glob}
use Rattle.gb_lex.specs.Byte.{is_word_start, is_word_byte}
use Rattle.gb_limits.specs.Kinds.{kind_of}
use Rattle.gb_limits.specs.LeftOut.{is_word_of}
use Rattle.gb_limits.specs.Lexeme.{spells}
use Rattle.gb_script.specs.declared.table.Symbol.TheVariants.{Part}
use Rattle.gb_goal.specs.Answers.{nowhere}
use Rattle.gb_script.specs.declared.head.Head.TheVariants as head
use Rattle.gb_script.specs.declared.terminal.Terminal.TheVariants as terminal
use Rattle.gb_script.specs.declared.tree.Node.{Node}
use Rattle.gb_script.specs.declared.value.Value.TheVariants.{Tree, Trees}
use Rattle.gb_script.specs.Value.{trees_of}
use Rattle.gb_script.proofs.Stacks.{append_nil}
use Rattle.gb_script.specs.Tree.{node}
use Rattle.gb_terms.specs.declared.op.Read.{Read}
use Rattle.gb_terms.specs.declared.op.Read.TheVariants.{Logical, Program}
use Rattle.gb_terms.specs.declared.op.Side.{Side}
use Rattle.gb_terms.specs.declared.op.Side.TheVariants as side
use Rattle.gb_print_names.specs.declared.bound_names.Enumeration.{Enumeration}
use Rattle.gb_print_names.specs.declared.bound_names.Known.{Known}
use Rattle.gb_print_names.specs.BoundNames.{Name, Place}
use Rattle.gb_print_names.specs.Text.{Text, Writing, ◌▸◌, word, number}
use Rattle.gb_print_names.specs.Names as print
use Rattle.gb_print.specs.Layout as print_layout
use Rattle.gb_print.specs.Nodes as nodes
use Rattle.gb_print.specs.Types as type_tree
use Rattle.gb_print.specs.Heads as tree
use Rattle.gb_print.specs.Written.{in_range, is_path, is_name_text, is_path_there, is_name_there, is_numeral_here, is_side_here, is_variable_here, is_read_here, is_word}
use Rattle.gb_print.proofs.Fine.{is_fine}
use Rattle.gb_print.proofs.Tokens.{Next, both, is_digits, next_number, begins_form}
use Rattle.gb_print.proofs.Symbols.{glob_word, close_round, close_brace, open_round}
use Rattle.gb_print.proofs.Levels.{Spelt, no_bracket, end, tok, named, row, followed, no_words}
use Rattle.gb_print.proofs.Attaching.{plain_node}
use Rattle.gb_print.proofs.Operands.{IsOperand, of_atom, grown_node, round}
use Rattle.gb_print.proofs.NameWords.{range_is, decimal_reads, decimal_digits, name_reads, path_start, start_begins, member_reads, plain_member}
use Rattle.gb_print.proofs.TypeWords.{no_digit}
use Rattle.gb_print.proofs.Atoms.{path_operand, IsSide, sided}
use Rattle.gb_print.proofs.ModuleWords.{ModulePart, named_module}
use Rattle.gb_print.proofs.Operators.{negative_form}
use Rattle.gb_print.proofs.Productions as p
use Rattle.gb_print.proofs.Pieces.{literal, both_written, ends_behind, ends_literal, Shows, ShowsOperand, name_ends, name_some, path_some, path_ends, number_some, number_ends}

digit_begins : (b : ℕ) → is_ascii_digit b ≡ true → begins_form b ≡ true
digit_begins b h = grind (arith, nat_tests)

digit_start : (x : Text) → is_digits x ≡ true → (b : ℕ) × (w : Text) × (x ≡ b ∷ w) × (begins_form b ≡ true)
digit_start [] h = absurd cc
digit_start (b ∷ w) h = (b, w, refl, digit_begins b (both (is_ascii_digit b) (list_all is_ascii_digit w) h).0)

-- A name of one word is its path.
no_dot : (b : ℕ) → is_word_byte b ≡ true → (b == 46) ≡ false
no_dot b h = grind (arith, nat_tests)

word_start_byte : (b : ℕ) → is_word_start b ≡ true → is_word_byte b ≡ true
word_start_byte b h = grind (arith, nat_tests)

pub one_word : (x : Text) → list_all is_word_byte x ≡ true → nodes.words x ≡ x ∷ []
one_word [] h = refl
one_word (b ∷ x) h =
    let parts = both (is_word_byte b) (list_all is_word_byte x) h in
    ap (λ (c : Bool). if c then [] ∷ nodes.words x else nodes.with_byte b (nodes.words x)) (no_dot b parts.0) ∙ ap (nodes.with_byte b) (one_word x parts.1)

pub all_bytes : (x : Text) → is_word x ≡ true → list_all is_word_byte x ≡ true
all_bytes [] h = absurd cc
all_bytes (b ∷ x) h = let parts = both (is_word_start b) (list_all is_word_byte x) h in ap₂ (λ c d. c && d) (word_start_byte b parts.0) parts.1

pub path_of_name : (x : Text) → is_name_text x ≡ true → nodes.path x ≡ nodes.word x
path_of_name x h = ap (λ ws. nodes.of_words (map nodes.word ws)) (one_word x (all_bytes x (both (is_word x) _ h).0))

one_next : (mid : Text) → Next (codes "1" ++ (125 ∷ mid)) 6 (codes "1") (125 ∷ mid)
unfolding spells kind_of is_fine is_word_of
one_next mid = next_number (codes "1") (125 ∷ mid) terminal.One 6 refl refl refl refl

two_next : (mid : Text) → Next (codes "2" ++ (125 ∷ mid)) 7 (codes "2") (125 ∷ mid)
unfolding spells kind_of is_fine is_word_of
two_next mid = next_number (codes "2") (125 ∷ mid) terminal.Two 7 refl refl refl refl

module _ {stage : ℕ} where
  pub number_operand : (n : ℕ) → in_range n ≡ true → IsOperand stage (λ mid. decimal n ++ mid) false (nodes.number n)
  number_operand n h =
      let digits = decimal_digits n (range_is n h) in
      of_atom (λ mid. let s = digit_start (decimal n) digits in record { byte = s.0; more = s.1 ++ mid; is = ap (λ l. l ++ mid) s.2; begins = s.3 }) (plain_node head.Number (decimal n) [] refl refl)
      (λ mid f. row p.atom_number (p.is_atom_number stage) refl refl refl (decimal_reads n mid h (no_digit mid f.word)) end)

  abbrev pub number_shown : (n : ℕ) → in_range n ≡ true → ShowsOperand stage (number n) (nodes.number n)
  number_shown n h = record {
    text = λ mid. decimal n ++ mid;
    bar = false;
    writes = literal (decimal n);
    ends = λ before. ends_behind before (decimal n) (number_some n h) ∙ number_ends n h;
    operand = number_operand n h;
  }

  pub path_shown : (x : Text) → is_path x ≡ true → ShowsOperand stage (word x) (nodes.path x)
  path_shown x h = record {
    text = λ mid. x ++ mid;
    bar = false;
    writes = literal x;
    ends = λ before. ends_behind before x (path_some x h) ∙ path_ends x h;
    operand = path_operand x h;
  }

  pub perhaps_shown : (o : Option Name) → is_path_there o ≡ true → ShowsOperand stage (print.perhaps o) (tree.perhaps o)
  perhaps_shown (Some x) h = path_shown x h
  perhaps_shown None h = absurd cc

  truth_by : (b : Bool) → ShowsOperand stage (word (if b then codes "false" else codes "true")) (nodes.word (if b then codes "false" else codes "true"))
  unfolding spells is_word_of
  truth_by true = path_shown (codes "false") refl
  truth_by false = path_shown (codes "true") refl

  pub numeral_shown : (es : List Enumeration) (k : ty_layer.Ty-F Ty) (n : ℕ) → is_numeral_here es k n ≡ true → ShowsOperand stage (print_layout.numeral_layer es k n) (tree.numeral_layer es k n)
  unfolding spells is_word_of
  numeral_shown es ty_layer.Unit n h = path_shown (codes "tt") refl
  numeral_shown es ty_layer.Bool n h = truth_by (n == 0)
  numeral_shown es (ty_layer.Enumeration x size) n h = perhaps_shown (slice_get (print.constants es x) n) h
  numeral_shown es (ty_layer.Bits m) n h = number_shown n h
  numeral_shown es (ty_layer.Mod m) n h = number_shown n h
  numeral_shown es (ty_layer.Tuple ts) n h = number_shown n h
  numeral_shown es (ty_layer.Opt t) n h = number_shown n h
  numeral_shown es (ty_layer.Map k v) n h = number_shown n h
  numeral_shown es (ty_layer.Abstract x) n h = number_shown n h
  numeral_shown es (ty_layer.Glob m) n h = number_shown n h
  numeral_shown es (ty_layer.Distr t) n h = number_shown n h
  numeral_shown es ty_layer.Int n h = number_shown n h
  numeral_shown es ty_layer.Real n h = number_shown n h

  pub natural_shown : (n : ℕ) → in_range n ≡ true → ShowsOperand stage (word (decimal n)) (nodes.number n)
  natural_shown n h = number_shown n h

  pub negative_shown : (n : ℕ) → in_range (n + 1) ≡ true → Shows stage (word (45 ∷ decimal (suc n))) (nodes.tree head.Negative (nodes.number (n + 1) ∷ []))
  negative_shown n h =
      let e : n + 1 ≡ suc n = omega arith in
      let r : in_range (suc n) ≡ true = sym (ap in_range e) ∙ h in
      subst (λ m. Shows stage (word (45 ∷ decimal (suc n))) (nodes.tree head.Negative (nodes.number m ∷ []))) (sym e)
      (record {
        text = λ mid. 45 ∷ (decimal (suc n) ++ mid);
        bar = false;
        writes = literal (45 ∷ decimal (suc n));
        ends = λ before. ends_behind before (45 ∷ decimal (suc n)) (let s = number_some (suc n) r in omega arith) ∙ ends_behind (45 ∷ []) (decimal (suc n)) (number_some (suc n) r) ∙ number_ends (suc n) r;
        form = negative_form (number_operand (suc n) r);
      })

  -- Variables.

  member_operand : (m x : Text) → is_path m ≡ true → is_name_text x ≡ true → IsOperand stage (λ mid. m ++ (46 ∷ (x ++ mid))) false (nodes.of_words (nodes.word_nodes m ++ nodes.word x ∷ []))
  member_operand m x h k =
      of_atom (λ mid. let s = path_start m h in record { byte = s.0; more = s.1 ++ (46 ∷ (x ++ mid)); is = ap (λ l. l ++ (46 ∷ (x ++ mid))) s.2; begins = start_begins s.0 s.3 }) (plain_member m x)
      (λ mid f. row p.atom_path (p.is_atom_path stage) refl refl refl (member_reads m x mid h k f.word) end)

  pub glob_operand : (m : ModulePart stage) → IsOperand stage (λ mid. codes "(glob " ++ m.text (41 ∷ mid)) false (nodes.tree head.Glob (m.tree ∷ []))
  glob_operand m =
      of_atom (λ mid. record { byte = 40; more = codes "glob " ++ m.text (41 ∷ mid); is = refl; begins = refl }) (plain_node head.Glob [] (m.tree ∷ []) refl refl)
      (λ mid f. round head.Glob (m.tree ∷ []) (open_round 103 (codes "lob " ++ m.text (41 ∷ mid)) refl)
      (row p.bracketed_glob (p.is_bracketed_glob stage) refl refl refl
      (tok (glob_word (m.text (41 ∷ mid))) (followed (m.expression (41 ∷ mid) refl (no_bracket (close_round mid) refl)) (tok (close_round mid) end))) end))

  variable_shown : (bound : List Known) (x : Var) → is_variable_here bound x ≡ true → ShowsOperand stage (print.variable bound x) (nodes.of_words (type_tree.variable_words bound x))
  variable_shown bound (Global m x) h =
      let parts = both (is_path (print.module_name bound m)) (is_name_text x) h in
      let n = print.module_name bound m in
      record {
        text = λ mid. n ++ (46 ∷ (x ++ mid));
        bar = false;
        writes = both_written (both_written (literal n) (literal (codes "."))) (literal x);
        ends = λ before. ends_behind ((before ++ n) ++ codes ".") x (name_some x parts.1) ∙ name_ends x parts.1;
        operand = member_operand n x parts.0 parts.1;
      }
  variable_shown bound (Local x) h = path_shown x h
  variable_shown bound (Glob m) h =
      let n = print.module_name bound m in
      record {
        text = λ mid. codes "(glob " ++ (n ++ (41 ∷ mid));
        bar = false;
        writes = both_written (both_written (literal (codes "(glob ")) (literal n)) (literal (codes ")"));
        ends = λ before. ends_literal (codes ")") refl refl ((before ++ codes "(glob ") ++ n);
        operand = glob_operand (named_module n h);
      }

  -- a memory behind a variable
  beside_name : {w : Writing} {x : Node} (m : Text) (t : Node) → IsSide stage m t → ShowsOperand stage w x
      → ShowsOperand stage (w ▸ (word (codes "{") ▸ word m ▸ word (codes "}"))) (nodes.tree head.Sided (x ∷ t ∷ []))
  beside_name {w = w} m t reads s = record {
    text = λ mid. s.text (123 ∷ (m ++ (125 ∷ mid)));
    bar = false;
    writes = both_written s.writes (both_written (both_written (literal (codes "{")) (literal m)) (literal (codes "}")));
    ends = λ before. ends_literal (codes "}") refl refl ((w before ++ codes "{") ++ m);
    operand = sided m t s.operand reads;
  }

  named_side : (x : Text) → is_name_text x ≡ true → IsSide stage x (nodes.word x)
  named_side x h = record {
    side = λ mid. row p.side_name (p.is_side_name stage) refl refl refl (name_reads x (125 ∷ mid) h refl) end;
    variant = λ mid j v d. row p.variant_brace_name (p.is_variant_brace_name stage) refl refl (ap (λ z. Trees (z ∷ trees_of v) ∷ []) (grown_node (Tree (nodes.word x) ∷ []) head.Sided [] [] nowhere))
        (followed (name_reads x (125 ∷ mid) h refl)
        (row p.variant_name_close_brace (p.is_variant_name_close_brace stage) refl refl (ap (λ l. Trees (node head.Sided [] [] nowhere ∷ l) ∷ []) (append_nil (trees_of v)))
        (followed no_words (tok (close_brace mid) d)) end)) end;
  }

  -- the number of a side
  number_side : (w : Text) → ((mid : Text) → Spelt stage (Part 146 ∷ []) (w ++ (125 ∷ mid)) (125 ∷ mid) (Tree (nodes.leaf head.Number w) ∷ []))
      → ((mid : Text) → Spelt stage (Part 179 ∷ []) (w ++ (125 ∷ mid)) (125 ∷ mid) (Tree (nodes.leaf head.Number w) ∷ [])) → IsSide stage w (nodes.leaf head.Number w)
  number_side w reads alone = record {
    side = reads;
    variant = λ mid j v d. row p.variant_brace_number_suffix (p.is_variant_brace_number_suffix stage) refl refl (ap (λ l. Trees (node head.Sided [] (nodes.leaf head.Number w ∷ []) nowhere ∷ l) ∷ []) (append_nil (trees_of v)))
        (followed (row p.number_suffix_side_number (p.is_number_suffix_side_number stage) refl refl (ap (λ z. Tree z ∷ []) (grown_node (Tree (nodes.leaf head.Number w) ∷ []) head.Sided [] [] nowhere))
        (followed (alone mid) (row p.side_behind_none (p.is_side_behind_none stage) refl refl refl end end)) end)
        (tok (close_brace mid) d)) end;
  }

  one_side : IsSide stage (codes "1") (nodes.leaf head.Number (codes "1"))
  one_side = number_side (codes "1")
      (λ mid. let n = one_next mid in row p.side_one (p.is_side_one stage) refl refl (ap (λ t. Tree (node head.Number t [] nowhere) ∷ []) (named n)) (tok n end) end)
      (λ mid. let n = one_next mid in row p.side_number_one (p.is_side_number_one stage) refl refl (ap (λ t. Tree (node head.Number t [] nowhere) ∷ []) (named n)) (tok n end) end)

  two_side : IsSide stage (codes "2") (nodes.leaf head.Number (codes "2"))
  two_side = number_side (codes "2")
      (λ mid. let n = two_next mid in row p.side_two (p.is_side_two stage) refl refl (ap (λ t. Tree (node head.Number t [] nowhere) ∷ []) (named n)) (tok n end) end)
      (λ mid. let n = two_next mid in row p.side_number_two (p.is_side_number_two stage) refl refl (ap (λ t. Tree (node head.Number t [] nowhere) ∷ []) (named n)) (tok n end) end)

  there_by : {w : Writing} {x : Node} (o : Option Name) → is_name_there o ≡ true → ShowsOperand stage w x → ShowsOperand stage (w ▸ (word (codes "{") ▸ print.perhaps o ▸ word (codes "}"))) (nodes.tree head.Sided (x ∷ tree.perhaps o ∷ []))
  there_by {w = w} {x = x} (Some y) h s =
      subst (λ t. ShowsOperand stage (w ▸ (word (codes "{") ▸ word y ▸ word (codes "}"))) (nodes.tree head.Sided (x ∷ t ∷ []))) (sym (path_of_name y h)) (beside_name y (nodes.word y) (named_side y h) s)
  there_by None h s = absurd cc

  pub beside_shown : {w : Writing} {x : Node} (at : Place) (s : Side) → is_side_here at s ≡ true → ShowsOperand stage w x → ShowsOperand stage (w ▸ print.beside at s) (tree.beside at s x)
  beside_shown at side.Own h o = o
  beside_shown at side.Left h o = beside_name (codes "1") (nodes.leaf head.Number (codes "1")) one_side o
  beside_shown at side.Right h o = beside_name (codes "2") (nodes.leaf head.Number (codes "2")) two_side o
  beside_shown at (side.Memory i) h o = there_by (slice_get at.memories i) h o
  beside_shown at (side.Bound i) h o = there_by (print.shown_name (slice_get at.bound i)) h o

  pub read_shown : (at : Place) (r : Read) → is_read_here at r ≡ true → ShowsOperand stage (print.read at r) (tree.read at r)
  read_shown at (Logical i) h = perhaps_shown (print.typed_name (slice_get at.logical i)) h
  read_shown at (Program x s) h =
      let parts = both (is_variable_here at.bound x) (is_side_here at s) h in
      beside_shown at s parts.1 (variable_shown at.bound x parts.0)
