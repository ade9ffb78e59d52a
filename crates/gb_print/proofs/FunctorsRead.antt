-- What procedures of functors at their arguments read as, and calls of them.
use Rattle.std.specs.Prelude.{ℕ, ◌≡◌, true, false, List, [], ◌∷◌, ◌++◌}
use Rattle.std.proofs.Common.{refl, ap}
use Rattle.gb_goal.specs.Answers.{nowhere}
use Rattle.gb_script.specs.declared.table.Symbol.TheVariants.{Token, Part}
use Rattle.gb_lex.specs.Byte.{is_word_byte}
use Rattle.gb_script.specs.declared.head.Head.TheVariants as head
use Rattle.gb_script.specs.declared.tree.Node.{Node}
use Rattle.gb_script.specs.declared.value.Value.TheVariants.{Tree, Trees}
use Rattle.gb_script.proofs.Stacks.{append_nil}
use Rattle.gb_print_names.specs.Text.{Text}
use Rattle.gb_print.specs.Nodes as nodes
use Rattle.gb_print.specs.Written.{is_path, is_name_text}
use Rattle.gb_print.proofs.Lexed.{ahead}
use Rattle.gb_print.proofs.Symbols.{semicolon, close_round}
use Rattle.gb_print.proofs.Levels.{Before, Spelt, end, tok, row, followed}
use Rattle.gb_print.proofs.Operands.{grown_node}
use Rattle.gb_print.proofs.NameWords.{name_reads, dot_before}
use Rattle.gb_print.proofs.Atoms.{FormPart, more_forms, form_trees, forms_read, fits_more}
use Rattle.gb_print.proofs.WordsInFront.{path_in_front}
use Rattle.gb_print.proofs.ModuleWords.{ModulePart, module_trees, modules_text, called_trees, arguments_read, module_forms_read, called_forms_read, opens_modules}
use Rattle.gb_print.proofs.ProceduresShown.{arguments_text, opens_call, path_words, call_words}
use Rattle.gb_print.proofs.StatementsRead.{IsStatement, path_statement}
use Rattle.gb_print.proofs.Productions as p

-- arguments of a call, up to the bracket that closes
forms_in_call : {stage : ℕ} (fs : List (FormPart stage)) (mid : Text) → Spelt stage (Part 152 ∷ []) (arguments_text fs mid) (41 ∷ mid) (Trees (form_trees fs) ∷ [])
forms_in_call {stage} [] mid = row p.arguments_none (p.is_arguments_none stage) refl refl refl end end
forms_in_call {stage} (f ∷ fs) mid =
    row p.arguments_form (p.is_arguments_form stage) refl refl (ap (λ l. Trees (f.tree ∷ l) ∷ []) (append_nil (form_trees fs)))
    (followed (f.form.reads (more_forms fs (41 ∷ mid)) (fits_more f.bar fs mid)) (forms_read fs mid)) end

-- A functor at its arguments, and the name of a procedure.
module _ {stage : ℕ} (m : ModulePart stage) (ms : List (ModulePart stage)) (g : Text) (k : is_name_text g ≡ true) where
  abbrev pub functor_text : Before
  functor_text mid = 40 ∷ modules_text m ms (46 ∷ (g ++ mid))

  -- Its path.

  abbrev pub path_parts : List Node
  path_parts = nodes.list (m.tree ∷ module_trees ms) ∷ nodes.word g ∷ []

  inner : (mid : Text) → ahead is_word_byte mid ≡ false → Spelt stage (Token 82 ∷ Part 88 ∷ Token 83 ∷ Token 125 ∷ Part 165 ∷ []) (functor_text mid) mid (Trees (m.tree ∷ module_trees ms) ∷ Tree (nodes.word g) ∷ [])
  inner mid f =
      let rest = 46 ∷ (g ++ mid) in
      tok (opens_modules m ms rest) (followed (arguments_read m ms rest) (tok (close_round rest) (tok (dot_before g mid k) (followed (name_reads g mid k f) end))))

  pub functor_reads : (x mid : Text) → is_path x ≡ true → ahead is_word_byte mid ≡ false → Spelt stage (Part 83 ∷ []) (x ++ functor_text mid) mid (Tree (nodes.tree head.FunctorPath (nodes.word_nodes x ++ path_parts)) ∷ [])
  functor_reads x mid h f =
      path_in_front path_words head.FunctorPath path_parts (functor_text mid) refl (row p.dotted_procedure_open_round (p.is_dotted_procedure_open_round stage) refl refl refl (inner mid f) end)
      (row p.procedure_tail_open_round (p.is_procedure_tail_open_round stage) refl refl refl (inner mid f) end) x h

  -- Calls.

  abbrev pub call_parts : List (FormPart stage) → List Node
  call_parts fs = nodes.list (called_trees m ms) ∷ nodes.word g ∷ nodes.list (form_trees fs) ∷ []

  called : (fs : List (FormPart stage)) (mid : Text) → Spelt stage (Part 75 ∷ []) (46 ∷ (g ++ (40 ∷ arguments_text fs mid))) mid (Tree (nodes.tree head.FunctorCall (nodes.word g ∷ nodes.list (form_trees fs) ∷ [])) ∷ [])
  called fs mid =
      row p.functor_dot (p.is_functor_dot stage) refl refl refl
      (tok (dot_before g (40 ∷ arguments_text fs mid) k) (followed (name_reads g (40 ∷ arguments_text fs mid) k refl) (tok (opens_call fs mid) (followed (forms_in_call fs mid) (tok (close_round mid) end))))) end

  -- behind one word
  once : (fs : List (FormPart stage)) (mid : Text) → Spelt stage (Part 71 ∷ []) (functor_text (40 ∷ arguments_text fs mid)) mid (Tree (nodes.tree head.FunctorCall (call_parts fs)) ∷ [])
  once fs mid =
      let rest = 46 ∷ (g ++ (40 ∷ arguments_text fs mid)) in
      row p.functor_call_open_round (p.is_functor_call_open_round stage) refl refl (ap (λ z. Tree z ∷ []) (grown_node (Trees (called_trees m ms) ∷ []) head.FunctorCall [] (nodes.word g ∷ nodes.list (form_trees fs) ∷ []) nowhere))
      (tok (opens_modules m ms rest) (followed (module_forms_read m ms rest) (tok (close_round rest) (called fs mid)))) end

  -- behind more words, where the modules are read as forms
  again : (fs : List (FormPart stage)) (mid : Text) → Spelt stage (Part 72 ∷ []) (modules_text m ms (46 ∷ (g ++ (40 ∷ arguments_text fs mid)))) mid (Tree (nodes.tree head.FunctorCall (call_parts fs)) ∷ [])
  again fs mid =
      let rest = 46 ∷ (g ++ (40 ∷ arguments_text fs mid)) in
      row p.call_arguments_some_forms (p.is_call_arguments_some_forms stage) refl refl (ap (λ z. Tree z ∷ []) (grown_node (Trees (called_trees m ms) ∷ []) head.FunctorCall [] (nodes.word g ∷ nodes.list (form_trees fs) ∷ []) nowhere))
      (followed (called_forms_read m ms rest) (tok (close_round rest) (row p.functor_tail_functor (p.is_functor_tail_functor stage) refl refl refl (called fs mid) end))) end

  pub functor_call_reads : (x : Text) (fs : List (FormPart stage)) (mid : Text) → is_path x ≡ true → Spelt stage (Part 68 ∷ []) (x ++ functor_text (40 ∷ arguments_text fs mid)) mid (Tree (nodes.tree head.FunctorCall (nodes.word_nodes x ++ call_parts fs)) ∷ [])
  functor_call_reads x fs mid h =
      let rest = 46 ∷ (g ++ (40 ∷ arguments_text fs mid)) in
      path_in_front call_words head.FunctorCall (call_parts fs) (functor_text (40 ∷ arguments_text fs mid)) refl (row p.dotted_call_open_round (p.is_dotted_call_open_round stage) refl refl refl (tok (opens_modules m ms rest) (again fs mid)) end)
      (row p.call_tail_functor_call (p.is_call_tail_functor_call stage) refl refl refl (once fs mid) end) x h

  -- such a call alone
  pub functor_statement : (x : Text) (fs : List (FormPart stage)) → is_path x ≡ true → IsStatement stage (λ mid. x ++ functor_text (40 ∷ arguments_text fs (59 ∷ mid))) (nodes.tree head.FunctorCall (nodes.word_nodes x ++ call_parts fs))
  functor_statement x fs h =
      path_statement (record {
        apart = λ mid. refl;
        words = refl;
        once = λ mid. row p.statement_tail_functor_call (p.is_statement_tail_functor_call stage) refl refl refl (followed (once fs (59 ∷ mid)) (tok (semicolon mid) end)) end;
        again = λ mid.
            let rest = 46 ∷ (g ++ (40 ∷ arguments_text fs (59 ∷ mid))) in
            row p.dotted_statement_open_round (p.is_dotted_statement_open_round stage) refl refl refl (tok (opens_modules m ms rest) (followed (again fs (59 ∷ mid)) (tok (semicolon mid) end))) end;
      }) x h
