-- Types.
use Rattle.std.specs.Prelude.{ℕ, ◌≡◌, true, false, nat_le, List, [], ◌∷◌, ◌++◌, map, codes}
use Rattle.std.specs.Char.{is_ascii_digit}
use Rattle.std.specs.Fmt.{decimal}
use Rattle.std.proofs.Common.{refl, ap, sym, ◌∙◌, subst, append_assoc, arith}
use Rattle.std.proofs.lemmas.Bool.Decides.{nat_tests}
use Rattle.gb_goal.specs.Answers.{nowhere}
use Rattle.gb_script.specs.declared.table.Symbol.TheVariants.{Part}
use Rattle.gb_script.specs.Grammar.{has}
use Rattle.gb_lex.specs.Byte.{is_word_byte}
use Rattle.gb_limits.specs.Kinds.{kind_of}
use Rattle.gb_limits.specs.LeftOut.{is_word_of}
use Rattle.gb_limits.specs.Lexeme.{spells}
use Rattle.gb_script.specs.declared.head.Head.{Head}
use Rattle.gb_script.specs.declared.head.Head.TheVariants as head
use Rattle.gb_script.specs.declared.terminal.Terminal.TheVariants as terminal
use Rattle.gb_script.specs.declared.tree.Node.{Node}
use Rattle.gb_script.specs.declared.value.Value.TheVariants.{Tree, Trees}
use Rattle.gb_script.specs.Build.{flat}
use Rattle.gb_script.specs.Tree.{node, attach, attached}
use Rattle.gb_script.proofs.Stacks.{append_nil}
use Rattle.gb_print.specs.Nodes.{path, number}
use Rattle.gb_print.specs.Written.{is_path, in_range}
use Rattle.gb_print.proofs.Fine.{is_fine}
use Rattle.gb_print.proofs.Lexed.{ahead}
use Rattle.gb_print.proofs.Tokens.{Next, next_word, spaced}
use Rattle.gb_print.proofs.Symbols.{close_round, open_square, close_square, bits_word, glob_word, comma_word, times_word}
use Rattle.gb_print.proofs.Attaching.{Plain, plain_node, behind_plain, attached_append}
use Rattle.gb_print.proofs.Levels.{Before, Starts, Spelt, NoBracket, no_bracket, end, tok, named, row, row_allowed, followed}
use Rattle.gb_print.proofs.Operands.{grown_node, opens}
use Rattle.gb_print.proofs.NameWords.{path_reads, plain_path, path_start, start_begins, decimal_reads}
use Rattle.gb_print.proofs.Productions as p

-- Bytes that may stand behind a type; where it may end with `glob M`, no bracket stands there.
pub record Closes (globs : ℕ) (mid : List ℕ) : Type 0 where
  pub word : ahead is_word_byte mid ≡ false
  pub bracket : nat_le 1 globs ≡ true → NoBracket mid

-- a symbol behind a type
pub closes : {globs : ℕ} {b k : ℕ} {i mid n : List ℕ} → Next (b ∷ i) k n mid → is_word_byte b ≡ false → has p.module_tail_none.stops k ≡ false → Closes globs (b ∷ i)
closes n w h = record { word = w; bracket = λ e. no_bracket n h }

-- Bytes that read as a type.
pub record IsType (stage globs : ℕ) (φ : Before) (x : Node) : Type 0 where
  pub starts : (mid : List ℕ) → Starts (φ mid)
  pub reads : (mid : List ℕ) → Closes globs mid → Spelt stage (Part 112 ∷ []) (φ mid) mid (Tree x ∷ [])

-- A type that is an atom, with `option`s behind it.
pub record IsTypeOperand (stage globs : ℕ) (φ : Before) (x : Node) : Type 0 where
  pub starts : (mid : List ℕ) → Starts (φ mid)
  pub root : Node
  pub options : List Node
  pub whole : attached root options ≡ x
  pub plain : Plain x
  pub first : (mid j : List ℕ) (its : List Node) → Closes globs mid → Spelt stage (Part 115 ∷ []) mid j (Trees its ∷ [])
      → Spelt stage (Part 117 ∷ Part 115 ∷ []) (φ mid) j (Tree root ∷ Trees (options ++ its) ∷ [])

digit_byte : (b : ℕ) → is_word_byte b ≡ false → is_ascii_digit b ≡ false
digit_byte b h = grind (arith, nat_tests)

-- What doesn't go on with a word doesn't go on with a digit.
pub no_digit : (mid : List ℕ) → ahead is_word_byte mid ≡ false → ahead is_ascii_digit mid ≡ false
no_digit [] f = refl
no_digit (b ∷ mid) f = digit_byte b f

pub option_tree : Node
option_tree = node head.OptionType [] [] nowhere

pub record TypePart (stage globs : ℕ) : Type 0 where
  pub text : Before
  pub tree : Node
  pub operand : IsTypeOperand stage globs text tree

-- operands behind others, each behind a `*`
abbrev pub factors : {stage globs : ℕ} → List (TypePart stage globs) → Before
factors [] mid = mid
factors (t ∷ ts) mid = codes " * " ++ t.text (factors ts mid)

abbrev pub factor_trees : {stage globs : ℕ} → List (TypePart stage globs) → List Node
factor_trees ts = map (λ t. t.tree) ts

behind_factors : {stage globs : ℕ} (ts : List (TypePart stage globs)) (mid : List ℕ) → Closes globs mid → Closes globs (factors ts mid)
behind_factors [] mid f = f
behind_factors (t ∷ ts) mid f = closes (times_word (t.text (factors ts mid))) refl refl

module _ {stage : ℕ} where
  no_options : {i : List ℕ} → Spelt stage (Part 115 ∷ []) i i (Trees [] ∷ [])
  no_options = row p.options_none (p.is_options_none stage) refl refl refl end end

  no_more : {i : List ℕ} → Spelt stage (Part 113 ∷ []) i i (Trees [] ∷ [])
  no_more = row p.more_factors_none (p.is_more_factors_none stage) refl refl refl end end

  round_type : {i mid j : List ℕ} {x : Node} (h : Head) (ps : List Node) → Next i 82 (codes "(") mid → Spelt stage (Part 112 ∷ Part 119 ∷ []) mid j (Tree x ∷ Tree (node h [] ps nowhere) ∷ [])
      → Spelt stage (Part 117 ∷ []) i j (Tree (node h [] (x ∷ ps) nowhere) ∷ [])
  round_type {x = x} h ps n d = row p.type_base_open_round (p.is_type_base_open_round stage) refl refl (ap (λ z. Tree z ∷ []) (grown_node (Tree x ∷ []) h [] ps nowhere)) (tok n d) end

module _ {stage globs : ℕ} where
  -- an operand as a part of the grammar
  pub operand_reads : {φ : Before} {x : Node} → IsTypeOperand stage globs φ x → (mid : List ℕ) → Closes globs mid → Spelt stage (Part 114 ∷ []) (φ mid) mid (Tree x ∷ [])
  operand_reads {φ = φ} {x = x} o mid f =
      row p.type_atom_type_base (p.is_type_atom_type_base stage) refl refl
      (ap (λ l. Tree (attached o.root l) ∷ []) (append_nil (o.options ++ []) ∙ append_nil o.options) ∙ ap (λ z. Tree z ∷ []) o.whole)
      (o.first mid mid [] f no_options) end

  pub type_of_operand : {φ : Before} {x : Node} → IsTypeOperand stage globs φ x → IsType stage globs φ x
  type_of_operand o = record {
    starts = o.starts;
    reads = λ mid f. row p.type_type_atom (p.is_type_type_atom stage) refl refl refl (followed (operand_reads o mid f) no_more) end;
  }

  of_type_atom : {φ : Before} {x : Node} → ((mid : List ℕ) → Starts (φ mid)) → Plain x → ((mid : List ℕ) → Closes globs mid → Spelt stage (Part 117 ∷ []) (φ mid) mid (Tree x ∷ []))
      → IsTypeOperand stage globs φ x
  of_type_atom {x = x} s plain reads = record {
    starts = s;
    root = x;
    options = [];
    whole = refl;
    plain = plain;
    first = λ mid j its f more. followed (reads mid f) more;
  }

  pub unit_type : IsTypeOperand stage globs (λ mid. codes "unit" ++ mid) (node head.PlainType (codes "unit") [] nowhere)
  unfolding spells kind_of is_fine is_word_of
  unit_type = of_type_atom (λ mid. record { byte = 117; more = codes "nit" ++ mid; is = refl; begins = refl }) (plain_node head.PlainType (codes "unit") [] refl refl)
      (λ mid f. let n = next_word (codes "unit") mid terminal.Unit 36 refl f.word refl refl in
      row p.type_base_plain_type (p.is_type_base_plain_type stage) refl refl (ap (λ t. Tree (node head.PlainType t [] nowhere) ∷ []) (named n)) (tok n end) end)

  pub bool_type : IsTypeOperand stage globs (λ mid. codes "bool" ++ mid) (node head.PlainType (codes "bool") [] nowhere)
  unfolding spells kind_of is_fine is_word_of
  bool_type = of_type_atom (λ mid. record { byte = 98; more = codes "ool" ++ mid; is = refl; begins = refl }) (plain_node head.PlainType (codes "bool") [] refl refl)
      (λ mid f. let n = next_word (codes "bool") mid terminal.Bool 36 refl f.word refl refl in
      row p.type_base_plain_type (p.is_type_base_plain_type stage) refl refl (ap (λ t. Tree (node head.PlainType t [] nowhere) ∷ []) (named n)) (tok n end) end)

  pub real_type : IsTypeOperand stage globs (λ mid. codes "real" ++ mid) (node head.PlainType (codes "real") [] nowhere)
  unfolding spells kind_of is_fine is_word_of
  real_type = of_type_atom (λ mid. record { byte = 114; more = codes "eal" ++ mid; is = refl; begins = refl }) (plain_node head.PlainType (codes "real") [] refl refl)
      (λ mid f. let n = next_word (codes "real") mid terminal.Real 37 refl f.word refl refl in
      row p.type_base_real (p.is_type_base_real stage) refl refl (ap (λ t. Tree (node head.PlainType t [] nowhere) ∷ []) (named n)) (tok n end) end)

  pub int_type : IsTypeOperand stage globs (λ mid. codes "int" ++ mid) (node head.IntType [] [] nowhere)
  unfolding spells kind_of is_fine is_word_of
  int_type = of_type_atom (λ mid. record { byte = 105; more = codes "nt" ++ mid; is = refl; begins = refl }) (plain_node head.IntType [] [] refl refl)
      (λ mid f. let n = next_word (codes "int") mid terminal.Int 38 refl f.word refl refl in
      row p.type_base_int (p.is_type_base_int stage) refl refl refl (tok n (row p.integer_tail_none (p.is_integer_tail_none stage) refl refl refl end end)) end)

  pub mod_type : (n : ℕ) → in_range n ≡ true → IsTypeOperand stage globs (λ mid. codes "int[" ++ (decimal n ++ (93 ∷ mid))) (node head.IntType [] (number n ∷ []) nowhere)
  unfolding spells kind_of is_fine is_word_of
  mod_type n l = of_type_atom (λ mid. record { byte = 105; more = codes "nt[" ++ (decimal n ++ (93 ∷ mid)); is = refl; begins = refl }) (plain_node head.IntType [] (number n ∷ []) refl refl)
      (λ mid f. let rest = decimal n ++ (93 ∷ mid) in
      let w = next_word (codes "int") (91 ∷ rest) terminal.Int 38 refl refl refl refl in
      row p.type_base_int (p.is_type_base_int stage) refl refl refl
      (tok w (row p.integer_tail_open_square (p.is_integer_tail_open_square stage) refl refl refl
      (tok (open_square rest) (followed (decimal_reads n (93 ∷ mid) l refl) (tok (close_square mid) end))) end)) end)

  pub bits_type : (n : ℕ) → in_range n ≡ true → IsTypeOperand stage globs (λ mid. codes "bits " ++ (decimal n ++ mid)) (node head.BitsType [] (number n ∷ []) nowhere)
  bits_type n l = of_type_atom (λ mid. record { byte = 98; more = codes "its " ++ (decimal n ++ mid); is = refl; begins = refl }) (plain_node head.BitsType [] (number n ∷ []) refl refl)
      (λ mid f. row p.type_base_bits (p.is_type_base_bits stage) refl refl refl
      (tok (bits_word (decimal n ++ mid)) (followed (decimal_reads n mid l (no_digit mid f.word)) end)) end)

  pub path_type : (x : List ℕ) → is_path x ≡ true → IsTypeOperand stage globs (λ mid. x ++ mid) (path x)
  path_type x h = of_type_atom (λ mid. let s = path_start x h in record { byte = s.0; more = s.1 ++ mid; is = ap (λ l. l ++ mid) s.2; begins = start_begins s.0 s.3 }) (plain_path x)
      (λ mid f. row p.type_base_path (p.is_type_base_path stage) refl refl refl (path_reads x mid h f.word) end)

  -- `glob`, in goals alone
  pub glob_type : (m : List ℕ) → nat_le 1 stage ≡ true → nat_le 1 globs ≡ true → is_path m ≡ true
      → IsTypeOperand stage globs (λ mid. codes "glob " ++ (m ++ mid)) (node head.GlobType [] (node head.ModuleExpression [] (path m ∷ []) nowhere ∷ []) nowhere)
  glob_type m goal with_globs h = of_type_atom (λ mid. record { byte = 103; more = codes "lob " ++ (m ++ mid); is = refl; begins = refl }) (plain_node head.GlobType [] (node head.ModuleExpression [] (path m ∷ []) nowhere ∷ []) refl refl)
      (λ mid f. row p.type_base_glob (p.is_type_base_glob stage goal) refl refl refl
      (tok (glob_word (m ++ mid)) (row p.module_expression_path (p.is_module_expression_path stage) refl refl refl
      (followed (path_reads m mid h f.word) (row_allowed p.module_tail_none (p.is_module_tail_none stage) (f.bracket with_globs) refl refl refl end end)) end)) end)

  pub type_in_round : {φ : Before} {x : Node} → IsType stage globs φ x → IsTypeOperand stage globs (λ mid. 40 ∷ φ (41 ∷ mid)) (node head.BracketedType [] (x ∷ []) nowhere)
  type_in_round {φ = φ} {x = x} o = of_type_atom (λ mid. record { byte = 40; more = φ (41 ∷ mid); is = refl; begins = refl }) (plain_node head.BracketedType [] (x ∷ []) refl refl)
      (λ mid f. round_type head.BracketedType [] (opens (o.starts (41 ∷ mid)))
      (followed (o.reads (41 ∷ mid) (closes (close_round mid) refl refl)) (row p.type_bracket_close_round (p.is_type_bracket_close_round stage) refl refl refl (tok (close_round mid) end) end)))

  pub map_type : {φ ψ : Before} {x y : Node} → IsType stage globs φ x → IsType stage globs ψ y
      → IsTypeOperand stage globs (λ mid. 40 ∷ φ (codes ", " ++ ψ (codes ") fmap" ++ mid))) (node head.MapType [] (x ∷ y ∷ []) nowhere)
  unfolding spells kind_of is_fine is_word_of
  map_type {φ = φ} {ψ = ψ} {x = x} {y = y} o q = of_type_atom (λ mid. record { byte = 40; more = φ (codes ", " ++ ψ (codes ") fmap" ++ mid)); is = refl; begins = refl }) (plain_node head.MapType [] (x ∷ y ∷ []) refl refl)
      (λ mid f. let last = codes ") fmap" ++ mid in
      let middle = codes ", " ++ ψ last in
      round_type head.MapType (y ∷ []) (opens (o.starts middle))
      (followed (o.reads middle (closes (comma_word (ψ last)) refl refl)) (row p.type_bracket_comma (p.is_type_bracket_comma stage) refl refl refl
      (tok (comma_word (ψ last)) (followed (q.reads last (closes (close_round (codes " fmap" ++ mid)) refl refl)) (tok (close_round (codes " fmap" ++ mid)) (tok (spaced (next_word (codes "fmap") mid terminal.Fmap 41 refl f.word refl refl)) end)))) end)))

  pub option_type : {φ : Before} {x : Node} → IsTypeOperand stage globs φ x → IsTypeOperand stage globs (λ mid. φ (codes " option" ++ mid)) (node head.OptionType [] (x ∷ []) nowhere)
  unfolding spells kind_of is_fine is_word_of option_tree
  option_type {φ = φ} {x = x} o = record {
    starts = λ mid. o.starts (codes " option" ++ mid);
    root = o.root;
    options = o.options ++ option_tree ∷ [];
    whole = attached_append o.root o.options (option_tree ∷ []) ∙ ap (λ z. attach z option_tree) o.whole ∙ behind_plain x o.plain head.OptionType [] [] refl;
    plain = plain_node head.OptionType [] (x ∷ []) refl refl;
    first = λ mid j its f more.
        subst (λ l. Spelt stage (Part 117 ∷ Part 115 ∷ []) (φ (codes " option" ++ mid)) j (Tree o.root ∷ Trees l ∷ [])) (sym (append_assoc o.options (option_tree ∷ []) its))
        (o.first (codes " option" ++ mid) j (option_tree ∷ its) (closes (spaced (next_word (codes "option") mid terminal.Option 40 refl f.word refl refl)) refl refl)
        (row p.options_option (p.is_options_option stage) refl refl (ap (λ l. Trees (option_tree ∷ l) ∷ []) (append_nil its))
        (followed (row p.option_option (p.is_option_option stage) refl refl refl (tok (spaced (next_word (codes "option") mid terminal.Option 40 refl f.word refl refl)) end) end) more) end));
  }

  -- Products.

  factors_read : (ts : List (TypePart stage globs)) (mid : List ℕ) → Closes globs mid → Spelt stage (Part 113 ∷ []) (factors ts mid) mid (Trees (factor_trees ts) ∷ [])
  factors_read [] mid f = no_more
  factors_read (t ∷ ts) mid f =
      row p.more_factors_times (p.is_more_factors_times stage) refl refl (ap (λ l. Trees (t.tree ∷ l) ∷ []) (append_nil (factor_trees ts)))
      (tok (times_word (t.text (factors ts mid))) (followed (operand_reads t.operand (factors ts mid) (behind_factors ts mid f)) (factors_read ts mid f))) end

  pub product_type : (a b : TypePart stage globs) (ts : List (TypePart stage globs)) → IsType stage globs (λ mid. a.text (factors (b ∷ ts) mid)) (node head.ProductType [] (factor_trees (a ∷ b ∷ ts)) nowhere)
  product_type a b ts = record {
    starts = λ mid. a.operand.starts (factors (b ∷ ts) mid);
    reads = λ mid f. row p.type_type_atom (p.is_type_type_atom stage) refl refl
        (ap (λ l. Tree (flat head.ProductType nowhere (a.tree ∷ b.tree ∷ l)) ∷ []) (append_nil (factor_trees ts)))
        (followed (operand_reads a.operand (factors (b ∷ ts) mid) (behind_factors (b ∷ ts) mid f)) (factors_read (b ∷ ts) mid f)) end;
  }
