-- What module expressions read as: as modules, and as forms where they are arguments of a functor that is called.
use Rattle.std.specs.Prelude.{ℕ, ◌≡◌, true, false, List, [], ◌∷◌, ◌++◌, map, codes}
use Rattle.std.proofs.Common.{refl, ap}
use Rattle.gb_goal.specs.Answers.{nowhere}
use Rattle.gb_script.specs.declared.table.Symbol.TheVariants.{Part}
use Rattle.gb_lex.specs.Byte.{is_word_byte}
use Rattle.gb_script.specs.declared.head.Head.{Head}
use Rattle.gb_script.specs.declared.head.Head.TheVariants as head
use Rattle.gb_script.specs.declared.tree.Node.{Node}
use Rattle.gb_script.specs.declared.value.Value.TheVariants.{Tree, Trees}
use Rattle.gb_script.proofs.Stacks.{append_nil}
use Rattle.gb_print_names.specs.Text.{Text}
use Rattle.gb_print.specs.Nodes as nodes
use Rattle.gb_print.specs.Types as type_tree
use Rattle.gb_print.specs.Written.{is_path}
use Rattle.gb_print.proofs.Lexed.{ahead}
use Rattle.gb_print.proofs.Tokens.{Next}
use Rattle.gb_print.proofs.Symbols.{close_round, comma_word}
use Rattle.gb_print.proofs.Levels.{Before, NoBracket, Starts, Spelt, end, tok, row, row_allowed, followed}
use Rattle.gb_print.proofs.Attaching.{behind_plain}
use Rattle.gb_print.proofs.Operands.{IsForm, IsOperand, form_of_operand, grown_node, opens, in_round}
use Rattle.gb_print.proofs.NameWords.{path_reads, path_start, start_begins, plain_path}
use Rattle.gb_print.proofs.Atoms.{FormPart, more_forms, form_trees, forms_read, fits_more, path_operand, tuple, called, fits_symbol}
use Rattle.gb_print.proofs.Productions as p

-- A module: its text, its tree, and its tree where it is read as a form.
pub record ModulePart (stage : ℕ) : Type 0 where
  pub text : Before
  pub tree : Node
  pub called : Node
  pub starts : (mid : Text) → Starts (text mid)
  pub expression : (mid : Text) → ahead is_word_byte mid ≡ false → NoBracket mid → Spelt stage (Part 86 ∷ []) (text mid) mid (Tree tree ∷ [])
  pub argument : (mid : Text) → ahead is_word_byte mid ≡ false → Spelt stage (Part 90 ∷ []) (text mid) mid (Tree tree ∷ [])
  pub module_form : (mid : Text) → ahead is_word_byte mid ≡ false → Spelt stage (Part 78 ∷ []) (text mid) mid (Tree called ∷ [])
  pub form : IsForm stage text false called

abbrev pub form_part : {stage : ℕ} → ModulePart stage → FormPart stage
form_part m = record { text = m.text; bar = false; tree = m.called; form = m.form }

abbrev pub form_parts : {stage : ℕ} → List (ModulePart stage) → List (FormPart stage)
form_parts ms = map form_part ms

abbrev pub module_trees : {stage : ℕ} → List (ModulePart stage) → List Node
module_trees ms = map (λ m. m.tree) ms

-- modules up to the bracket that closes
abbrev pub modules_text : {stage : ℕ} → ModulePart stage → List (ModulePart stage) → Before
modules_text m ms mid = m.text (more_forms (form_parts ms) (41 ∷ mid))

abbrev pub called_trees : {stage : ℕ} → ModulePart stage → List (ModulePart stage) → List Node
called_trees m ms = form_trees (form_part m ∷ form_parts ms)

modules_ahead : {stage : ℕ} (ms : List (ModulePart stage)) (mid : Text) → ahead is_word_byte (more_forms (form_parts ms) (41 ∷ mid)) ≡ false
modules_ahead [] mid = refl
modules_ahead (m ∷ ms) mid = refl

pub path_starts : (x mid : Text) → is_path x ≡ true → Starts (x ++ mid)
path_starts x mid h = let s = path_start x h in record { byte = s.0; more = s.1 ++ mid; is = ap (λ l. l ++ mid) s.2; begins = start_begins s.0 s.3 }

module _ {stage : ℕ} where
  -- Modules in brackets.

  more_arguments : (ms : List (ModulePart stage)) (mid : Text) → Spelt stage (Part 89 ∷ []) (more_forms (form_parts ms) (41 ∷ mid)) (41 ∷ mid) (Trees (module_trees ms) ∷ [])
  more_arguments [] mid = row p.more_modules_none (p.is_more_modules_none stage) refl refl refl end end
  more_arguments (m ∷ ms) mid =
      let rest = more_forms (form_parts ms) (41 ∷ mid) in
      row p.more_modules_comma (p.is_more_modules_comma stage) refl refl (ap (λ l. Trees (m.tree ∷ l) ∷ []) (append_nil (module_trees ms)))
      (tok (comma_word (m.text rest)) (followed (m.argument rest (modules_ahead ms mid)) (more_arguments ms mid))) end

  pub arguments_read : (m : ModulePart stage) (ms : List (ModulePart stage)) (mid : Text) → Spelt stage (Part 88 ∷ []) (modules_text m ms mid) (41 ∷ mid) (Trees (m.tree ∷ module_trees ms) ∷ [])
  arguments_read m ms mid =
      row p.modules_module_argument (p.is_modules_module_argument stage) refl refl (ap (λ l. Trees (m.tree ∷ l) ∷ []) (append_nil (module_trees ms)))
      (followed (m.argument (more_forms (form_parts ms) (41 ∷ mid)) (modules_ahead ms mid)) (more_arguments ms mid)) end

  more_module_forms : (ms : List (ModulePart stage)) (mid : Text) → Spelt stage (Part 77 ∷ []) (more_forms (form_parts ms) (41 ∷ mid)) (41 ∷ mid) (Trees (form_trees (form_parts ms)) ∷ [])
  more_module_forms [] mid = row p.more_module_forms_none (p.is_more_module_forms_none stage) refl refl refl end end
  more_module_forms (m ∷ ms) mid =
      let rest = more_forms (form_parts ms) (41 ∷ mid) in
      row p.more_module_forms_comma (p.is_more_module_forms_comma stage) refl refl (ap (λ l. Trees (m.called ∷ l) ∷ []) (append_nil (form_trees (form_parts ms))))
      (tok (comma_word (m.text rest)) (followed (m.module_form rest (modules_ahead ms mid)) (more_module_forms ms mid))) end

  pub module_forms_read : (m : ModulePart stage) (ms : List (ModulePart stage)) (mid : Text) → Spelt stage (Part 76 ∷ []) (modules_text m ms mid) (41 ∷ mid) (Trees (called_trees m ms) ∷ [])
  module_forms_read m ms mid =
      row p.module_forms_module_form (p.is_module_forms_module_form stage) refl refl (ap (λ l. Trees (m.called ∷ l) ∷ []) (append_nil (form_trees (form_parts ms))))
      (followed (m.module_form (more_forms (form_parts ms) (41 ∷ mid)) (modules_ahead ms mid)) (more_module_forms ms mid)) end

  -- the same, as forms
  pub called_forms_read : (m : ModulePart stage) (ms : List (ModulePart stage)) (mid : Text) → Spelt stage (Part 153 ∷ []) (modules_text m ms mid) (41 ∷ mid) (Trees (called_trees m ms) ∷ [])
  called_forms_read m ms mid =
      row p.some_forms_form (p.is_some_forms_form stage) refl refl (ap (λ l. Trees (m.called ∷ l) ∷ []) (append_nil (form_trees (form_parts ms))))
      (followed (m.form.reads (more_forms (form_parts ms) (41 ∷ mid)) (fits_more false (form_parts ms) mid)) (forms_read (form_parts ms) mid)) end

  -- a bracket in front of modules
  pub opens_modules : (m : ModulePart stage) (ms : List (ModulePart stage)) (mid : Text) → Next (40 ∷ modules_text m ms mid) 82 (codes "(") (modules_text m ms mid)
  opens_modules m ms mid = opens (m.starts (more_forms (form_parts ms) (41 ∷ mid)))

  -- A module by its name.

  abbrev pub named_module : (x : Text) → is_path x ≡ true → ModulePart stage
  named_module x h = record {
    text = λ mid. x ++ mid;
    tree = nodes.tree head.ModuleExpression (nodes.path x ∷ []);
    called = nodes.path x;
    starts = λ mid. path_starts x mid h;
    expression = λ mid f n. row p.module_expression_path (p.is_module_expression_path stage) refl refl refl
        (followed (path_reads x mid h f) (row_allowed p.module_tail_none (p.is_module_tail_none stage) n refl refl refl end end)) end;
    argument = λ mid f. row p.module_argument_path (p.is_module_argument_path stage) refl refl refl
        (followed (path_reads x mid h f) (row p.argument_tail_none (p.is_argument_tail_none stage) refl refl refl end end)) end;
    module_form = λ mid f. row p.module_form_path (p.is_module_form_path stage) refl refl refl
        (followed (path_reads x mid h f) (row p.module_brackets_none (p.is_module_brackets_none stage) refl refl refl end end)) end;
    form = form_of_operand (path_operand x h);
  }

  -- A functor with its arguments.

  -- the arguments in their bracket, which are one form
  pub record Bracket (m : ModulePart stage) (ms : List (ModulePart stage)) : Type 0 where
    pub head_is : Head
    pub parts : List Node
    pub tree_is : type_tree.functor_arguments (called_trees m ms) ≡ nodes.tree head_is parts
    pub operand : IsOperand stage (λ mid. 40 ∷ modules_text m ms mid) false (nodes.tree head_is parts)
    pub reads : (mid : Text) → Spelt stage (Part 81 ∷ []) (modules_text m ms mid) mid (Tree (nodes.tree head_is parts) ∷ [])

  pub bracket : (m : ModulePart stage) (ms : List (ModulePart stage)) → Bracket m ms
  bracket m [] = record {
    head_is = head.Bracketed;
    parts = m.called ∷ [];
    tree_is = refl;
    operand = in_round m.form;
    reads = λ mid.
        row p.bracketed_modules_module_form (p.is_bracketed_modules_module_form stage) refl refl (ap (λ z. Tree z ∷ []) (grown_node (Tree m.called ∷ []) head.Bracketed [] [] nowhere))
        (followed (m.module_form (41 ∷ mid) refl) (row p.module_bracket_tail_close_round (p.is_module_bracket_tail_close_round stage) refl refl refl (tok (close_round mid) end) end)) end;
  }
  bracket m (n ∷ ms) = record {
    head_is = head.Tuple;
    parts = called_trees m (n ∷ ms);
    tree_is = refl;
    operand = tuple m.form (form_part n) (form_parts ms);
    reads = λ mid.
        row p.bracketed_modules_module_form (p.is_bracketed_modules_module_form stage) refl refl (ap (λ z. Tree z ∷ []) (grown_node (Tree m.called ∷ []) head.Tuple [] (called_trees n ms) nowhere))
        (followed (m.module_form (codes ", " ++ modules_text n ms mid) refl)
        (row p.module_bracket_tail_comma (p.is_module_bracket_tail_comma stage) refl refl (ap (λ l. Tree (nodes.tree head.Tuple l) ∷ []) (append_nil (called_trees n ms)))
        (tok (comma_word (modules_text n ms mid)) (followed (module_forms_read n ms mid) (tok (close_round mid) end))) end)) end;
  }

  abbrev pub applied_module : (x : Text) → is_path x ≡ true → ModulePart stage → List (ModulePart stage) → ModulePart stage
  applied_module x h m ms =
      let b = bracket m ms in
      let args = nodes.tree b.head_is b.parts in
      record {
        text = λ mid. x ++ (40 ∷ modules_text m ms mid);
        tree = nodes.tree head.ModuleExpression (nodes.path x ∷ m.tree ∷ module_trees ms);
        called = nodes.tree head.Apply (nodes.path x ∷ args ∷ []);
        starts = λ mid. path_starts x (40 ∷ modules_text m ms mid) h;
        expression = λ mid f n. row p.module_expression_path (p.is_module_expression_path stage) refl refl (ap (λ l. Tree (nodes.tree head.ModuleExpression (nodes.path x ∷ l)) ∷ []) (append_nil (m.tree ∷ module_trees ms)))
            (followed (path_reads x (40 ∷ modules_text m ms mid) h refl)
            (row p.module_tail_open_round (p.is_module_tail_open_round stage) refl refl refl (tok (opens_modules m ms mid) (followed (arguments_read m ms mid) (tok (close_round mid) end))) end)) end;
        argument = λ mid f. row p.module_argument_path (p.is_module_argument_path stage) refl refl (ap (λ l. Tree (nodes.tree head.ModuleExpression (nodes.path x ∷ l)) ∷ []) (append_nil (m.tree ∷ module_trees ms)))
            (followed (path_reads x (40 ∷ modules_text m ms mid) h refl)
            (row p.argument_tail_open_round (p.is_argument_tail_open_round stage) refl refl refl (tok (opens_modules m ms mid) (followed (arguments_read m ms mid) (tok (close_round mid) end))) end)) end;
        module_form = λ mid f. row p.module_form_path (p.is_module_form_path stage) refl refl (ap (λ z. Tree z ∷ []) (behind_plain (nodes.path x) (plain_path x) head.Apply [] (args ∷ []) refl))
            (followed (path_reads x (40 ∷ modules_text m ms mid) h refl)
            (row p.module_brackets_module_bracket (p.is_module_brackets_module_bracket stage) refl refl refl
            (row p.module_bracket_open_round (p.is_module_bracket_open_round stage) refl refl (ap (λ z. Tree z ∷ []) (grown_node [] b.head_is [] b.parts nowhere)) (tok (opens_modules m ms mid) (b.reads mid)) end) end)) end;
        form = called (path_operand x h) refl (record { text = λ mid. 40 ∷ modules_text m ms mid; bar = false; tree = args; operand = b.operand }) (λ mid. fits_symbol false 40 (modules_text m ms mid) refl refl);
      }

  -- the tree of a functor with its arguments, as a form
  pub bracket_called : (x : Text) (h : is_path x ≡ true) (m : ModulePart stage) (ms : List (ModulePart stage))
      → nodes.tree head.Apply (nodes.path x ∷ type_tree.functor_arguments (called_trees m ms) ∷ []) ≡ (applied_module x h m ms).called
  bracket_called x h m ms = ap (λ z. nodes.tree head.Apply (nodes.path x ∷ z ∷ [])) (bracket m ms).tree_is
