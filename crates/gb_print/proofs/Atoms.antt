-- Suffixes, brackets, applications, functions and quantifiers.
use Rattle.std.specs.Prelude.{ℕ, ◌≡◌, Bool, true, false, if◌then◌else◌, nat_eq, List, [], ◌∷◌, ◌++◌, map, codes}
use Rattle.std.specs.Fmt.{decimal}
use Rattle.std.proofs.Common.{refl, ap, ap₂, sym, ◌∙◌, subst, arith}
use Rattle.gb_goal.specs.Answers.{nowhere}
use Rattle.gb_script.specs.declared.table.Symbol.TheVariants.{Part}
use Rattle.gb_lex.specs.Byte.{is_word_byte}
use Rattle.gb_limits.specs.Kinds.{kind_of}
use Rattle.gb_limits.specs.LeftOut.{is_word_of}
use Rattle.gb_limits.specs.Lexeme.{spells}
use Rattle.gb_script.specs.declared.head.Head.{Head}
use Rattle.gb_script.specs.declared.head.Head.TheVariants as head
use Rattle.gb_script.specs.declared.terminal.Terminal.TheVariants as terminal
use Rattle.gb_script.specs.declared.tree.Node.{Node}
use Rattle.gb_script.specs.declared.value.Value.{Value}
use Rattle.gb_script.specs.declared.value.Value.TheVariants.{Tree, Trees}
use Rattle.gb_script.specs.Head.{looseness, hold, is_joiner}
use Rattle.gb_script.specs.Value.{trees_of}
use Rattle.gb_script.specs.Tree.{node, attached}
use Rattle.gb_script.proofs.Stacks.{append_nil}
use Rattle.gb_print.specs.Nodes.{word, path, number, list}
use Rattle.gb_print.specs.Written.{is_name_text, is_path, in_range}
use Rattle.gb_print.proofs.Fine.{is_fine}
use Rattle.gb_print.proofs.Lexed.{ahead}
use Rattle.gb_print.proofs.Tokens.{Next, next_number, spaced}
use Rattle.gb_print.proofs.Symbols.{open_get, close_square, assign_word, dot_number, percent_real, open_brace, close_brace, bars, closing_bar, comma_word, close_round, colon_word, fun_word, implies_word, uniform_word, open_round, comma}
use Rattle.gb_print.proofs.Chains.{is_joined, operands_in}
use Rattle.gb_print.proofs.Counted.{joined_append, as_many}
use Rattle.gb_print.proofs.RunRows.{suffix_row, side_row, coin_row, open_brace_row}
use Rattle.gb_print.proofs.Attaching.{plain_node, Argument, wholes_of, items_of, applied_to, items_single}
use Rattle.gb_print.proofs.Levels.{Before, Fits, Spelt, end, tok, skip, named, row, row_in, followed, no_run, level, level_end, form_of_sum, sum_of}
use Rattle.gb_print.proofs.Operands.{IsForm, IsOperand, VariantRun, grown_node, opens, fits_close, fits_space, of_atom, suffixed, round, opened, headed, more_run}
use Rattle.gb_print.proofs.NameWords.{name_reads, name_start, path_reads, plain_path, path_start, start_begins, decimal_reads}
use Rattle.gb_print.proofs.TypeWords.{IsType, IsTypeOperand, closes, operand_reads, no_digit}
use Rattle.gb_print.proofs.Productions as p

pub fits_symbol : (bar : Bool) (b : ℕ) (mid : List ℕ) → is_word_byte b ≡ false → nat_eq 124 b ≡ false → Fits bar (b ∷ mid)
fits_symbol bar b mid w n = record { word = w; bars = λ e. n }

pub record FormPart (stage : ℕ) : Type 0 where
  pub text : Before
  pub bar : Bool
  pub tree : Node
  pub form : IsForm stage text bar tree

-- forms behind others, each behind a comma
abbrev pub more_forms : {stage : ℕ} → List (FormPart stage) → Before
more_forms [] mid = mid
more_forms (f ∷ fs) mid = codes ", " ++ f.text (more_forms fs mid)

abbrev pub form_trees : {stage : ℕ} → List (FormPart stage) → List Node
form_trees fs = map (λ f. f.tree) fs

pub fits_more : {stage : ℕ} (bar : Bool) (gs : List (FormPart stage)) (m : List ℕ) → Fits bar (more_forms gs (41 ∷ m))
fits_more bar [] m = fits_close bar m
fits_more bar (g ∷ gs) m = fits_symbol bar 44 (32 ∷ g.text (more_forms gs (41 ∷ m))) refl refl

pub record OperandPart (stage : ℕ) : Type 0 where
  pub text : Before
  pub bar : Bool
  pub tree : Node
  pub operand : IsOperand stage text bar tree

-- arguments, each behind a space
abbrev pub spaced_arguments : {stage : ℕ} → List (OperandPart stage) → Before
spaced_arguments [] mid = mid
spaced_arguments (a ∷ xs) mid = 32 ∷ a.text (spaced_arguments xs mid)

abbrev pub argument_of : {stage : ℕ} → OperandPart stage → Argument
argument_of a = record { root = a.operand.root; suffixes = a.operand.suffixes; tight = a.operand.tight; single = a.operand.single }

abbrev pub arguments_of : {stage : ℕ} → List (OperandPart stage) → List Argument
arguments_of [] = []
arguments_of (a ∷ xs) = argument_of a ∷ arguments_of xs

abbrev pub argument_trees : {stage : ℕ} → List (OperandPart stage) → List Node
argument_trees xs = map (λ a. a.tree) xs

wholes_are : {stage : ℕ} (xs : List (OperandPart stage)) → wholes_of (arguments_of xs) ≡ argument_trees xs
wholes_are [] = refl
wholes_are (a ∷ xs) = ap₂ (λ t ts. t ∷ ts) a.operand.whole (wholes_are xs)

-- what the last of some arguments ends with, or what stands before them
abbrev pub last_bar : {stage : ℕ} → Bool → List (OperandPart stage) → Bool
last_bar bar [] = bar
last_bar bar (a ∷ xs) = last_bar a.bar xs

fits_arguments : {stage : ℕ} (bar : Bool) (xs : List (OperandPart stage)) (mid : List ℕ) → Fits (last_bar bar xs) mid → Fits bar (spaced_arguments xs mid)
fits_arguments bar [] mid f = f
fits_arguments bar (a ∷ xs) mid f = fits_space bar (a.text (spaced_arguments xs mid))

item_more : (h : Head) (ps its : List Node) → Trees (node h [] ps nowhere ∷ (its ++ [])) ∷ [] ≡ Trees (node h [] ps nowhere ∷ its) ∷ []
item_more h ps its = ap (λ l. Trees (node h [] ps nowhere ∷ l) ∷ []) (append_nil its)

-- The name of a memory in front of the brace that closes: as a side, and behind the variant of a loop.
pub record IsSide (stage : ℕ) (m : List ℕ) (t : Node) : Type 0 where
  pub side : (mid : List ℕ) → Spelt stage (Part 146 ∷ []) (m ++ (125 ∷ mid)) (125 ∷ mid) (Tree t ∷ [])
  pub variant : (mid j : List ℕ) (v : Value) → Spelt stage (Part 63 ∷ []) mid j (v ∷ []) → Spelt stage (Part 65 ∷ []) (m ++ (125 ∷ mid)) j (Trees (node head.Sided [] (t ∷ []) nowhere ∷ trees_of v) ∷ [])

module _ {stage : ℕ} where
  -- Suffixes.

  suffix_run : {i mid j : List ℕ} {its : List Node} (h : Head) (ps : List Node) → Spelt stage (Part 141 ∷ []) i mid (Tree (node h [] ps nowhere) ∷ []) → Spelt stage (Part 135 ∷ []) mid j (Trees its ∷ [])
      → Spelt stage (Part 136 ∷ []) i j (Trees (node h [] ps nowhere ∷ its) ∷ [])
  suffix_run {its = its} h ps d more =
      let n = operands_in (Tree (node h [] ps nowhere) ∷ Trees its ∷ []) in
      row_in p.more_run_suffix (p.is_more_run_suffix stage) refl refl (item_more h ps its) (suffix_row n n (omega arith)) (omega arith) (followed d more) end

  -- the same in the variant of a loop
  suffix_variant : {i mid j : List ℕ} {its : List Node} (h : Head) (ps : List Node) → Spelt stage (Part 141 ∷ []) i mid (Tree (node h [] ps nowhere) ∷ []) → VariantRun stage mid j its
      → VariantRun stage i j (node h [] ps nowhere ∷ its)
  suffix_variant h ps d run = record {
    value = Trees (node h [] ps nowhere ∷ trees_of run.value);
    value_is = ap (λ l. node h [] ps nowhere ∷ l) run.value_is;
    reads = row p.variant_tail_suffix (p.is_variant_tail_suffix stage) refl refl (item_more h ps (trees_of run.value)) (followed d run.reads) end;
  }

  -- a suffix, in both places
  behind_operand : {φ ψ : Before} {bar : Bool} {a : Node} (h : Head) (ps : List Node) → IsOperand stage φ bar a → hold h ≡ 0 → is_joiner h ≡ false → looseness h ≡ 1 → is_joined h ≡ false → ((mid : List ℕ) → Fits bar (ψ mid))
      → ((mid : List ℕ) → Fits false mid → Spelt stage (Part 141 ∷ []) (ψ mid) mid (Tree (node h [] ps nowhere) ∷ [])) → IsOperand stage (λ mid. φ (ψ mid)) false (node h [] (a ∷ ps) nowhere)
  behind_operand h ps o l n t apart fits reads =
      suffixed h ps o l n t apart fits (λ mid j its f more. suffix_run h ps (reads mid f) more) (λ mid j its f run. suffix_variant h ps (reads mid f) run)

  pub at_key : {φ ψ : Before} {c d : Bool} {a k : Node} → IsOperand stage φ c a → IsForm stage ψ d k → IsOperand stage (λ mid. φ (codes ".[" ++ ψ (93 ∷ mid))) false (node head.Get [] (a ∷ k ∷ []) nowhere)
  at_key {ψ = ψ} {c = c} {d = d} {k = k} o f =
      behind_operand head.Get (k ∷ []) o refl refl refl refl (λ mid. fits_symbol c 46 (91 ∷ ψ (93 ∷ mid)) refl refl)
      (λ mid w. row p.suffix_open_get (p.is_suffix_open_get stage) refl refl (ap (λ z. Tree z ∷ []) (grown_node (Tree k ∷ []) head.Get [] [] nowhere))
      (tok (open_get (ψ (93 ∷ mid))) (followed (f.reads (93 ∷ mid) (fits_symbol d 93 mid refl refl))
      (row p.entry_tail_close_square (p.is_entry_tail_close_square stage) refl refl refl (tok (close_square mid) end) end))) end)

  pub updated : {φ ψ χ : Before} {c d e : Bool} {a k v : Node} → IsOperand stage φ c a → IsForm stage ψ d k → IsForm stage χ e v
      → IsOperand stage (λ mid. φ (codes ".[" ++ ψ (codes " <- " ++ χ (93 ∷ mid)))) false (node head.Set [] (a ∷ k ∷ v ∷ []) nowhere)
  updated {ψ = ψ} {χ = χ} {c = c} {d = d} {e = e} {k = k} {v = v} o f g =
      behind_operand head.Set (k ∷ v ∷ []) o refl refl refl refl (λ mid. fits_symbol c 46 (91 ∷ ψ (codes " <- " ++ χ (93 ∷ mid))) refl refl)
      (λ mid w. row p.suffix_open_get (p.is_suffix_open_get stage) refl refl (ap (λ z. Tree z ∷ []) (grown_node (Tree k ∷ []) head.Set [] (v ∷ []) nowhere))
      (tok (open_get (ψ (codes " <- " ++ χ (93 ∷ mid)))) (followed (f.reads (codes " <- " ++ χ (93 ∷ mid)) (fits_space d (codes "<- " ++ χ (93 ∷ mid))))
      (row p.entry_tail_assign (p.is_entry_tail_assign stage) refl refl refl
      (tok (assign_word (χ (93 ∷ mid))) (followed (g.reads (93 ∷ mid) (fits_symbol e 93 mid refl refl)) (tok (close_square mid) end))) end))) end)

  pub component : {φ : Before} {c : Bool} {a : Node} (k : ℕ) → in_range k ≡ true → IsOperand stage φ c a → IsOperand stage (λ mid. φ (codes ".`" ++ (decimal k ++ mid))) false (node head.Component [] (a ∷ number k ∷ []) nowhere)
  component {c = c} k l o =
      behind_operand head.Component (number k ∷ []) o refl refl refl refl (λ mid. fits_symbol c 46 (96 ∷ (decimal k ++ mid)) refl refl)
      (λ mid w. row p.suffix_dot_number (p.is_suffix_dot_number stage) refl refl refl
      (tok (dot_number (decimal k ++ mid)) (followed (decimal_reads k mid l (no_digit mid w.word)) end)) end)

  pub as_real : {φ : Before} {c : Bool} {a : Node} → IsOperand stage φ c a → IsOperand stage (λ mid. φ (codes "%r" ++ mid)) false (node head.ToReal [] (a ∷ []) nowhere)
  as_real {c = c} o =
      behind_operand head.ToReal [] o refl refl refl refl (λ mid. fits_symbol c 37 (114 ∷ mid) refl refl)
      (λ mid w. row p.suffix_percent_real (p.is_suffix_percent_real stage) refl refl refl (tok (percent_real mid) end) end)

  -- a memory behind an operand
  pub in_brace : {i mid j n : List ℕ} (its : List Node) → Next i 86 n mid → Spelt stage (Part 137 ∷ []) mid j (Trees its ∷ []) → Spelt stage (Part 136 ∷ []) i j (Trees its ∷ [])
  in_brace its w d =
      let n = operands_in (Trees its ∷ []) in
      row_in p.more_run_open_brace (p.is_more_run_open_brace stage) refl refl refl (open_brace_row n n (omega arith)) (as_many (Trees its ∷ [])) (tok w d) end

  pub sided : {φ : Before} {c : Bool} {a : Node} (m : List ℕ) (t : Node) → IsOperand stage φ c a → IsSide stage m t → IsOperand stage (λ mid. φ (123 ∷ (m ++ (125 ∷ mid)))) false (node head.Sided [] (a ∷ t ∷ []) nowhere)
  sided {c = c} m t o s =
      suffixed head.Sided (t ∷ []) o refl refl refl refl (λ mid. fits_symbol c 123 (m ++ (125 ∷ mid)) refl refl)
      (λ mid j its f more.
      let n = operands_in (Tree (node head.Sided [] (t ∷ []) nowhere) ∷ Trees its ∷ []) in
      in_brace (node head.Sided [] (t ∷ []) nowhere ∷ its) (open_brace (m ++ (125 ∷ mid)))
      (row_in p.brace_run_side_suffix (p.is_brace_run_side_suffix stage) refl refl (item_more head.Sided (t ∷ []) its) (side_row n n (omega arith)) (omega arith)
      (followed (row p.side_suffix_side (p.is_side_suffix_side stage) refl refl (ap (λ z. Tree z ∷ []) (grown_node (Tree t ∷ []) head.Sided [] [] nowhere))
      (followed (s.side mid) (row p.side_behind_none (p.is_side_behind_none stage) refl refl refl end end)) end)
      (tok (close_brace mid) more)) end))
      (λ mid j its f run. record {
        value = Trees (node head.Sided [] (t ∷ []) nowhere ∷ trees_of run.value);
        value_is = ap (λ l. node head.Sided [] (t ∷ []) nowhere ∷ l) run.value_is;
        reads = row p.variant_tail_open_brace (p.is_variant_tail_open_brace stage) refl refl refl (tok (open_brace (m ++ (125 ∷ mid))) (s.variant mid j run.value run.reads)) end;
      })

  -- Atoms.

  abbrev pub path_operand : (x : List ℕ) → is_path x ≡ true → IsOperand stage (λ mid. x ++ mid) false (path x)
  path_operand x h =
      of_atom (λ mid. let s = path_start x h in record { byte = s.0; more = s.1 ++ mid; is = ap (λ l. l ++ mid) s.2; begins = start_begins s.0 s.3 }) (plain_path x)
      (λ mid f. row p.atom_path (p.is_atom_path stage) refl refl refl (path_reads x mid h f.word) end)

  -- forms behind a comma, up to a bracket
  pub forms_read : (fs : List (FormPart stage)) (mid : List ℕ) → Spelt stage (Part 154 ∷ []) (more_forms fs (41 ∷ mid)) (41 ∷ mid) (Trees (form_trees fs) ∷ [])
  forms_read [] mid = row p.more_forms_none (p.is_more_forms_none stage) refl refl refl end end
  forms_read (f ∷ fs) mid =
      row p.more_forms_comma (p.is_more_forms_comma stage) refl refl (ap (λ l. Trees (f.tree ∷ l) ∷ []) (append_nil (form_trees fs)))
      (tok (comma_word (f.text (more_forms fs (41 ∷ mid)))) (followed (f.form.reads (more_forms fs (41 ∷ mid)) (fits_more f.bar fs mid)) (forms_read fs mid))) end

  pub typed : {φ ψ : Before} {bar : Bool} {x t : Node} → IsForm stage φ bar x → IsType stage stage ψ t → IsOperand stage (λ mid. 40 ∷ φ (codes " : " ++ ψ (41 ∷ mid))) false (node head.Typed [] (x ∷ t ∷ []) nowhere)
  typed {φ = φ} {ψ = ψ} {bar = bar} {x = x} {t = t} o q =
      of_atom (λ mid. record { byte = 40; more = φ (codes " : " ++ ψ (41 ∷ mid)); is = refl; begins = refl }) (plain_node head.Typed [] (x ∷ t ∷ []) refl refl)
      (λ mid f. let next = codes " : " ++ ψ (41 ∷ mid) in
      round head.Typed (x ∷ t ∷ []) (opens (o.starts next))
      (opened head.Typed (t ∷ []) (o.reads next (fits_space bar (codes ": " ++ ψ (41 ∷ mid))))
      (row p.bracket_tail_colon (p.is_bracket_tail_colon stage) refl refl refl (tok (colon_word (ψ (41 ∷ mid))) (followed (q.reads (41 ∷ mid) (closes (close_round mid) refl refl)) (tok (close_round mid) end))) end)))

  -- the trees of a tuple but the first
  pub tuple : {φ : Before} {bar : Bool} {x : Node} → IsForm stage φ bar x → (f : FormPart stage) (fs : List (FormPart stage))
      → IsOperand stage (λ mid. 40 ∷ φ (more_forms (f ∷ fs) (41 ∷ mid))) false (node head.Tuple [] (x ∷ form_trees (f ∷ fs)) nowhere)
  tuple {φ = φ} {bar = bar} {x = x} o g gs =
      of_atom (λ mid. record { byte = 40; more = φ (more_forms (g ∷ gs) (41 ∷ mid)); is = refl; begins = refl }) (plain_node head.Tuple [] (x ∷ form_trees (g ∷ gs)) refl refl)
      (λ mid f. let next = more_forms (g ∷ gs) (41 ∷ mid) in
      round head.Tuple (x ∷ form_trees (g ∷ gs)) (opens (o.starts next))
      (opened head.Tuple (form_trees (g ∷ gs)) (o.reads next (fits_symbol bar 44 (32 ∷ g.text (more_forms gs (41 ∷ mid))) refl refl))
      (row p.bracket_tail_comma (p.is_bracket_tail_comma stage) refl refl (ap (λ l. Tree (node head.Tuple [] (g.tree ∷ l) nowhere) ∷ []) (append_nil (form_trees gs)))
      (tok (comma_word (g.text (more_forms gs (41 ∷ mid))))
      (followed (row p.some_forms_form (p.is_some_forms_form stage) refl refl (ap (λ l. Trees (g.tree ∷ l) ∷ []) (append_nil (form_trees gs)))
      (followed (g.form.reads (more_forms gs (41 ∷ mid)) (fits_more g.bar gs mid)) (forms_read gs mid)) end)
      (tok (close_round mid) end))) end)))

  -- the text behind a form in bars, where it may be another bar
  pub absolute : {φ : Before} {bar : Bool} {x : Node} (b : Bool) → bar ≡ b → IsForm stage φ bar x → IsOperand stage (λ mid. codes "`|" ++ φ (if b then 32 ∷ 124 ∷ mid else 124 ∷ mid)) true (node head.Absolute [] (x ∷ []) nowhere)
  absolute {φ = φ} {bar = bar} {x = x} true e o =
      of_atom (λ mid. record { byte = 96; more = 124 ∷ φ (32 ∷ 124 ∷ mid); is = refl; begins = refl }) (plain_node head.Absolute [] (x ∷ []) refl refl)
      (λ mid f. row p.atom_bars (p.is_atom_bars stage) refl refl refl
      (level (tok (bars (φ (32 ∷ 124 ∷ mid))) (followed (o.reads (32 ∷ 124 ∷ mid) (fits_space bar (124 ∷ mid))) (followed level_end (tok (spaced (closing_bar mid (f.bars refl))) end))))) end)
  absolute {φ = φ} {bar = bar} {x = x} false e o =
      of_atom (λ mid. record { byte = 96; more = 124 ∷ φ (124 ∷ mid); is = refl; begins = refl }) (plain_node head.Absolute [] (x ∷ []) refl refl)
      (λ mid f. row p.atom_bars (p.is_atom_bars stage) refl refl refl
      (level (tok (bars (φ (124 ∷ mid))) (followed (o.reads (124 ∷ mid) (record { word = refl; bars = λ t. absurd cc })) (followed level_end (tok (closing_bar mid (f.bars refl)) end))))) end)

  pub uniform : {ψ : Before} {t : Node} → IsTypeOperand stage 0 ψ t → IsOperand stage (λ mid. codes "uniform " ++ ψ mid) false (node head.Uniform [] (t ∷ []) nowhere)
  uniform {ψ = ψ} {t = t} q =
      of_atom (λ mid. record { byte = 117; more = codes "niform " ++ ψ mid; is = refl; begins = refl }) (plain_node head.Uniform [] (t ∷ []) refl refl)
      (λ mid f. row p.atom_uniform (p.is_atom_uniform stage) refl refl refl (tok (uniform_word (ψ mid)) (followed (operand_reads q mid (record { word = f.word; bracket = λ e. absurd cc })) end)) end)

  coin_reads : (mid : List ℕ) → Spelt stage (Part 138 ∷ []) (codes "0,1}" ++ mid) (125 ∷ mid) (Tree (node head.Coin [] [] nowhere) ∷ [])
  unfolding spells kind_of is_fine is_word_of
  coin_reads mid =
      row p.coin_zero (p.is_coin_zero stage) refl refl refl
      (tok (next_number (codes "0") (44 ∷ 49 ∷ 125 ∷ mid) terminal.Zero 5 refl refl refl refl) (tok (comma (49 ∷ 125 ∷ mid)) (tok (next_number (codes "1") (125 ∷ mid) terminal.One 6 refl refl refl refl) end))) end

  pub coin : IsOperand stage (λ mid. codes "{0,1}" ++ mid) false (node head.Coin [] [] nowhere)
  coin = record {
    starts = λ mid. record { byte = 123; more = codes "0,1}" ++ mid; is = refl; begins = refl };
    root = node head.Coin [] [] nowhere;
    suffixes = [];
    whole = refl;
    tight = refl;
    single = refl;
    plain = plain_node head.Coin [] [] refl refl;
    first = λ mid j its f more. row p.head_open_brace (p.is_head_open_brace stage) refl refl refl (tok (open_brace (codes "0,1}" ++ mid)) (followed (coin_reads mid) (tok (close_brace mid) end))) more;
    argument = λ mid j its f more.
        let n = operands_in (Tree (node head.Coin [] [] nowhere) ∷ Trees its ∷ []) in
        in_brace (node head.Apply [] (node head.Coin [] [] nowhere ∷ []) nowhere ∷ its) (open_brace (codes "0,1}" ++ mid))
        (row_in p.brace_run_coin (p.is_brace_run_coin stage) refl refl (ap (λ l. Trees (node head.Apply [] (node head.Coin [] [] nowhere ∷ []) nowhere ∷ l) ∷ []) (append_nil its)) (coin_row n n (omega arith)) (omega arith)
        (followed (coin_reads mid) (tok (close_brace mid) more)) end);
    variant = λ mid j its f run. record {
      value = run.value;
      value_is = run.value_is;
      reads = row p.plain_head_head (p.is_plain_head_head stage) refl refl refl
          (row p.head_open_brace (p.is_head_open_brace stage) refl refl refl (tok (open_brace (codes "0,1}" ++ mid)) (followed (coin_reads mid) (tok (close_brace mid) end))) end) run.reads;
    };
  }

  -- Functions of one name.

  one_name : (x mid : List ℕ) → is_name_text x ≡ true → ahead is_word_byte mid ≡ false → Spelt stage (Part 110 ∷ []) (x ++ mid) mid (Trees (word x ∷ []) ∷ [])
  one_name x mid h f =
      row p.names_name (p.is_names_name stage) refl refl refl (followed (name_reads x mid h f) (row p.more_names_none (p.is_more_names_none stage) refl refl refl end end)) end

  pub function : {φ : Before} {bar : Bool} {f : Node} (x : List ℕ) → is_name_text x ≡ true → IsForm stage φ bar f
      → IsOperand stage (λ mid. codes "(fun " ++ (x ++ (codes " => " ++ φ (41 ∷ mid)))) false (node head.Function [] (list (word x ∷ []) ∷ f ∷ []) nowhere)
  function {φ = φ} {bar = bar} {f = f} x h o =
      of_atom (λ mid. record { byte = 40; more = codes "fun " ++ (x ++ (codes " => " ++ φ (41 ∷ mid))); is = refl; begins = refl }) (plain_node head.Function [] (list (word x ∷ []) ∷ f ∷ []) refl refl)
      (λ mid w. let body = φ (41 ∷ mid) in
      round head.Function (list (word x ∷ []) ∷ f ∷ []) (open_round 102 (codes "un " ++ (x ++ (codes " => " ++ body))) refl)
      (row p.bracketed_fun (p.is_bracketed_fun stage) refl refl refl
      (level (tok (fun_word (x ++ (codes " => " ++ body)))
      (row p.function_names (p.is_function_names stage) refl refl refl
      (followed (one_name x (codes " => " ++ body) h refl) (tok (implies_word body) (followed (o.reads (41 ∷ mid) (fits_close bar mid)) (followed level_end (tok (close_round mid) end))))) end))) end))

  pub typed_function : {φ ψ : Before} {bar : Bool} {f t : Node} (x : List ℕ) → is_name_text x ≡ true → IsType stage stage ψ t → IsForm stage φ bar f
      → IsOperand stage (λ mid. codes "(fun (" ++ (x ++ (codes " : " ++ ψ (codes ") => " ++ φ (41 ∷ mid))))) false (node head.TypedFunction [] (list (word x ∷ []) ∷ t ∷ f ∷ []) nowhere)
  typed_function {φ = φ} {ψ = ψ} {bar = bar} {f = f} {t = t} x h q o =
      of_atom (λ mid. record { byte = 40; more = codes "fun (" ++ (x ++ (codes " : " ++ ψ (codes ") => " ++ φ (41 ∷ mid)))); is = refl; begins = refl })
      (plain_node head.TypedFunction [] (list (word x ∷ []) ∷ t ∷ f ∷ []) refl refl)
      (λ mid w. let body = φ (41 ∷ mid) in
      let type = ψ (codes ") => " ++ body) in
      let s = name_start x h in
      round head.TypedFunction (list (word x ∷ []) ∷ t ∷ f ∷ []) (open_round 102 (codes "un (" ++ (x ++ (codes " : " ++ type))) refl)
      (row p.bracketed_fun (p.is_bracketed_fun stage) refl refl refl
      (level (tok (fun_word (40 ∷ (x ++ (codes " : " ++ type))))
      (row p.function_open_round (p.is_function_open_round stage) refl refl refl
      (tok (opens (record { byte = s.0; more = s.1 ++ (codes " : " ++ type); is = ap (λ l. l ++ (codes " : " ++ type)) s.2; begins = start_begins s.0 s.3 }))
      (followed (one_name x (codes " : " ++ type) h refl) (tok (colon_word type) (followed (q.reads (codes ") => " ++ body) (closes (close_round (codes " => " ++ body)) refl refl))
      (tok (close_round (codes " => " ++ body)) (tok (implies_word body) (followed (o.reads (41 ∷ mid) (fits_close bar mid)) (followed level_end (tok (close_round mid) end))))))))) end))) end))

  -- Applications.

  run_of : (xs : List (OperandPart stage)) (bar : Bool) (mid : List ℕ) → Fits (last_bar bar xs) mid → Spelt stage (Part 135 ∷ []) (spaced_arguments xs mid) mid (Trees (items_of (arguments_of xs)) ∷ [])
  run_of [] bar mid f = no_run
  run_of (a ∷ xs) bar mid f =
      skip (more_run (items_of (arguments_of (a ∷ xs)))
      (a.operand.argument (spaced_arguments xs mid) mid (items_of (arguments_of xs)) (fits_arguments a.bar xs mid f) (run_of xs a.bar mid f)))

  -- arguments that read as a run behind a function
  applied_run : {φ ψ : Before} {bar : Bool} {f : Node} (o : IsOperand stage φ bar f) → o.suffixes ≡ [] → (a : OperandPart stage) (xs : List (OperandPart stage)) → ((mid : List ℕ) → Fits bar (ψ mid))
      → ((mid : List ℕ) → Fits (last_bar bar (a ∷ xs)) mid → Spelt stage (Part 135 ∷ []) (ψ mid) mid (Trees (items_of (arguments_of (a ∷ xs))) ∷ []))
      → IsForm stage (λ mid. φ (ψ mid)) (last_bar bar (a ∷ xs)) (node head.Apply [] (f ∷ argument_trees (a ∷ xs)) nowhere)
  applied_run {φ = φ} {ψ = ψ} {f = f} o none a xs fits run =
      let root : o.root ≡ f = sym (ap (λ l. attached o.root l) none) ∙ o.whole in
      record {
        starts = λ mid. o.starts (ψ mid);
        reads = λ mid w.
            let items = items_of (arguments_of (a ∷ xs)) in
            let whole : attached o.root (o.suffixes ++ items) ≡ node head.Apply [] (f ∷ argument_trees (a ∷ xs)) nowhere =
            ap₂ (λ r l. attached r (l ++ items)) root none ∙ applied_to f o.plain (argument_of a) (arguments_of xs) ∙ ap (λ l. node head.Apply [] (f ∷ l) nowhere) (wholes_are (a ∷ xs)) in
            form_of_sum (subst (λ z. Spelt stage (Part 133 ∷ []) (φ (ψ mid)) mid (Tree z ∷ [])) whole
            (sum_of (omega (arith, joined_append o.suffixes items, o.single, items_single (arguments_of (a ∷ xs)))) (headed o.root (o.suffixes ++ items) (o.first (ψ mid) mid items (fits mid) (run mid w)))));
      }

  pub applied : {φ : Before} {bar : Bool} {f : Node} (o : IsOperand stage φ bar f) → o.suffixes ≡ [] → (a : OperandPart stage) (xs : List (OperandPart stage))
      → IsForm stage (λ mid. φ (spaced_arguments (a ∷ xs) mid)) (last_bar bar (a ∷ xs)) (node head.Apply [] (f ∷ argument_trees (a ∷ xs)) nowhere)
  applied {bar = bar} o none a xs = applied_run o none a xs (λ mid. fits_space bar (a.text (spaced_arguments xs mid))) (λ mid w. run_of (a ∷ xs) bar mid w)

  -- one argument, with no space in front
  pub called : {φ : Before} {bar : Bool} {f : Node} (o : IsOperand stage φ bar f) → o.suffixes ≡ [] → (a : OperandPart stage) → ((mid : List ℕ) → Fits bar (a.text mid))
      → IsForm stage (λ mid. φ (a.text mid)) a.bar (node head.Apply [] (f ∷ a.tree ∷ []) nowhere)
  called o none a fits = applied_run o none a [] fits (λ mid w. more_run (items_of (arguments_of (a ∷ []))) (a.operand.argument mid mid [] w no_run))

  -- Quantifiers.

  one_bind : {i mid : List ℕ} {b : Node} → Spelt stage (Part 94 ∷ []) i mid (Tree b ∷ []) → Spelt stage (Part 93 ∷ []) i mid (Trees (b ∷ []) ∷ [])
  one_bind d = row p.some_binds_bind (p.is_some_binds_bind stage) refl refl refl (followed d (row p.binds_none (p.is_binds_none stage) refl refl refl end end)) end

  pub for_all : {i mid : List ℕ} {φ : Before} {bar : Bool} {b f : Node} → Spelt stage (Part 94 ∷ []) i mid (Tree b ∷ []) → {j : List ℕ} {n m : List ℕ} → Next m 43 n i → Next mid 91 (codes ",") (φ j) → IsForm stage φ bar f → Fits bar j
      → Spelt stage (Part 120 ∷ []) m j (Tree (node head.Quantified n (list (b ∷ []) ∷ f ∷ []) nowhere) ∷ [])
  for_all {b = b} {f = f} d {j} q c o w =
      row p.form_open_form (p.is_form_open_form stage) refl refl refl
      (row p.open_form_forall (p.is_open_form_forall stage) refl refl (ap (λ t. Tree (node head.Quantified t (list (b ∷ []) ∷ f ∷ []) nowhere) ∷ []) (named q))
      (level (tok q (followed (one_bind d) (tok c (followed (o.reads j w) level_end))))) end) end

  pub exists_one : {i mid : List ℕ} {φ : Before} {bar : Bool} {b f : Node} → Spelt stage (Part 94 ∷ []) i mid (Tree b ∷ []) → {j : List ℕ} {n m : List ℕ} → Next m 44 n i → Next mid 91 (codes ",") (φ j) → IsForm stage φ bar f → Fits bar j
      → Spelt stage (Part 120 ∷ []) m j (Tree (node head.Quantified n (list (b ∷ []) ∷ f ∷ []) nowhere) ∷ [])
  exists_one {b = b} {f = f} d {j} q c o w =
      row p.form_open_form (p.is_form_open_form stage) refl refl refl
      (row p.open_form_exists (p.is_open_form_exists stage) refl refl (ap (λ t. Tree (node head.Quantified t (list (b ∷ []) ∷ f ∷ []) nowhere) ∷ []) (named q))
      (level (tok q (followed (one_bind d) (tok c (followed (o.reads j w) level_end))))) end) end

  pub values_bind : {ψ : Before} {t : Node} (x mid : List ℕ) → is_name_text x ≡ true → IsType stage stage ψ t → Spelt stage (Part 94 ∷ []) (40 ∷ (x ++ (codes " : " ++ ψ (41 ∷ mid)))) mid (Tree (node head.Values [] (word x ∷ list [] ∷ t ∷ []) nowhere) ∷ [])
  values_bind {ψ = ψ} {t = t} x mid h q =
      let type = ψ (41 ∷ mid) in
      let s = name_start x h in
      row p.bind_open_round (p.is_bind_open_round stage) refl refl (ap (λ z. Tree z ∷ []) (grown_node (Tree (word x) ∷ []) head.Values [] (list [] ∷ t ∷ []) nowhere))
      (tok (opens (record { byte = s.0; more = s.1 ++ (codes " : " ++ type); is = ap (λ l. l ++ (codes " : " ++ type)) s.2; begins = start_begins s.0 s.3 }))
      (followed (name_reads x (codes " : " ++ type) h refl)
      (row p.bind_rest_more_names (p.is_bind_rest_more_names stage) refl refl refl
      (followed (row p.more_names_none (p.is_more_names_none stage) refl refl refl end end) (tok (colon_word type) (followed (q.reads (41 ∷ mid) (closes (close_round mid) refl refl)) (tok (close_round mid) end)))) end))) end
