-- What statements and blocks read as.
use Rattle.std.specs.Prelude.{ℕ, ◌≡◌, Bool, true, false, nat_le, List, [], ◌∷◌, ◌++◌, map, codes}
use Rattle.std.specs.List.{list_all}
use Rattle.std.proofs.Common.{refl, ap, sym, ◌∙◌, subst, append_assoc}
use Rattle.std.proofs.lemmas.Bool.{false≢true}
use Rattle.gb_goal.specs.Answers.{nowhere}
use Rattle.gb_script.specs.declared.table.Symbol.TheVariants.{Part}
use Rattle.gb_script.specs.Grammar.{has}
use Rattle.gb_lex.specs.Byte.{is_word_byte}
use Rattle.gb_lex.specs.declared.token.Kind.TheVariants.{Word}
use Rattle.gb_limits.specs.Kinds.{kind_of}
use Rattle.gb_limits.specs.Lexeme.{terminal_of}
use Rattle.gb_read_script.specs.Words.{is_name}
use Rattle.gb_script.specs.declared.head.Head.{Head}
use Rattle.gb_script.specs.declared.head.Head.TheVariants as head
use Rattle.gb_script.specs.declared.terminal.Terminal.{Terminal}
use Rattle.gb_script.specs.declared.terminal.Terminal.TheVariants as terminal
use Rattle.gb_script.specs.declared.tree.Node.{Node}
use Rattle.gb_script.specs.declared.value.Value.TheVariants.{Tree, Trees}
use Rattle.gb_script.specs.Tree.{head_of}
use Rattle.gb_script.proofs.Stacks.{append_nil}
use Rattle.gb_print_names.specs.Text.{Text}
use Rattle.gb_print.specs.Nodes as nodes
use Rattle.gb_print.specs.Programs.{begins_with_word}
use Rattle.gb_print.specs.Written.{is_name_text, is_path}
use Rattle.gb_print.proofs.Lexed.{ahead}
use Rattle.gb_print.proofs.Attaching.{node_head}
use Rattle.gb_print.proofs.Tokens.{Next, both, spaced}
use Rattle.gb_print.proofs.Symbols.{open_round, close_round, open_brace, close_brace, comma_word, semicolon, assign_word, sample_word, call_word, else_word, if_word}
use Rattle.gb_print.proofs.Levels.{Before, Spelt, NoBracket, no_bracket, end, tok, skip, row, row_before, followed}
use Rattle.gb_print.proofs.Operands.{IsForm, grown_node, fits_close, opens}
use Rattle.gb_print.proofs.NameWords.{dotted, some_words, name_facts, name_next, name_reads, name_start, start_begins, behind_dots, words_read, map_word_end, dotted_end, all_names_end}
use Rattle.gb_print.proofs.WordsInFront.{Words, words_behind, member_behind}
use Rattle.gb_print.proofs.Atoms.{FormPart, form_trees, fits_symbol}
use Rattle.gb_print.proofs.ProceduresShown.{IsSubject, arguments_text, close_call, opens_call}
use Rattle.gb_print.proofs.Productions as p

-- A token that may stand behind a branch without another one.
pub record NoElse (mid : List ℕ) : Type 0 where
  pub kind : ℕ
  pub name : List ℕ
  pub more : List ℕ
  pub next : Next mid kind name more
  pub may : has p.alternative_none.stops kind ≡ false

pub behind_space : {mid : List ℕ} → NoElse mid → NoElse (32 ∷ mid)
behind_space n = record { kind = n.kind; name = n.name; more = n.more; next = spaced n.next; may = n.may }

-- A statement that begins with a word: what stands behind the word.
pub record WordStatement (stage : ℕ) (φ : Before) (x : Node) : Type 0 where
  pub word : Text
  pub is_name : is_name_text word ≡ true
  pub behind : Before
  pub head_is : Head
  pub parts : List Node
  pub apart : (mid : Text) → ahead is_word_byte (behind mid) ≡ false
  pub whole : (mid : Text) → φ mid ≡ word ++ behind mid
  pub tree_is : x ≡ nodes.tree head_is (nodes.word word ∷ parts)
  pub words : begins_with_word head_is ≡ true
  pub reads : (mid : Text) → Spelt stage (Part 57 ∷ []) (behind mid) mid (Tree (nodes.tree head_is parts) ∷ [])

-- A statement that begins with another token, in front of what is no `else`.
pub record OtherStatement (stage : ℕ) (φ : Before) (x : Node) : Type 0 where
  pub first : (mid : Text) → NoElse (φ mid)
  pub no_words : begins_with_word (head_of x) ≡ false
  pub reads : (mid : Text) → NoElse mid → Spelt stage (Part 56 ∷ []) (φ mid) mid (Tree x ∷ [])

pub data IsStatement (stage : ℕ) (φ : Before) (x : Node) : Type 0 where
  with_word : WordStatement stage φ x → IsStatement stage φ x
  with_other : OtherStatement stage φ x → IsStatement stage φ x

-- names are no `else` and no bracket
name_may : (t : Terminal) → is_name t ≡ true → (has p.alternative_none.stops (kind_of t) ≡ false) × (has p.module_tail_none.stops (kind_of t) ≡ false)
unfolding kind_of
name_may terminal.Name h = (refl, refl)
name_may terminal.Move h = (refl, refl)
name_may terminal.Split h = (refl, refl)
name_may terminal.Left h = (refl, refl)
name_may terminal.Right h = (refl, refl)
name_may terminal.Assumption h = (refl, refl)
name_may terminal.Trivial h = (refl, refl)
name_may terminal.Done h = (refl, refl)
name_may terminal.Apply h = (refl, refl)
name_may terminal.Have h = (refl, refl)
name_may terminal.Rewrite h = (refl, refl)
name_may terminal.Case h = (refl, refl)
name_may terminal.Subst h = (refl, refl)
name_may terminal.Skip h = (refl, refl)
name_may terminal.Wp h = (refl, refl)
name_may terminal.Sim h = (refl, refl)
name_may terminal.Symmetry h = (refl, refl)
name_may terminal.Seq h = (refl, refl)
name_may terminal.Rnd h = (refl, refl)
name_may terminal.Call h = (refl, refl)
name_may terminal.Inline h = (refl, refl)
name_may terminal.Swap h = (refl, refl)
name_may terminal.RcondTrue h = (refl, refl)
name_may terminal.RcondFalse h = (refl, refl)
name_may terminal.Unroll h = (refl, refl)
name_may terminal.Kill h = (refl, refl)
name_may terminal.Conseq h = (refl, refl)
name_may terminal.Transitivity h = (refl, refl)
name_may terminal.ByEquiv h = (refl, refl)
name_may terminal.ByPhoare h = (refl, refl)
name_may terminal.Fel h = (refl, refl)
name_may terminal.Smt h = (refl, refl)
name_may terminal.Linear h = (refl, refl)
name_may terminal.LawOfOr h = (refl, refl)
name_may terminal.LawOfNot h = (refl, refl)
name_may terminal.LawOfFalse h = (refl, refl)
name_may terminal.LawOfEqual h = (refl, refl)
name_may terminal.LawOfSubset h = (refl, refl)
name_may terminal.LawOfLeast h = (refl, refl)
name_may terminal.LawOfMost h = (refl, refl)
name_may terminal.SplitLaw h = (refl, refl)
name_may terminal.Eager h = (refl, refl)
name_may _ h = absurd (false≢true h)

-- a name is no `else`
pub name_first : (x mid : Text) → is_name_text x ≡ true → ahead is_word_byte mid ≡ false → NoElse (x ++ mid)
name_first x mid h f =
    record {
      kind = kind_of (terminal_of Word x);
      name = x;
      more = mid;
      next = name_next x mid h f;
      may = (name_may (terminal_of Word x) (name_facts x h).1).0;
    }

pub name_no_bracket : (x mid : Text) → is_name_text x ≡ true → ahead is_word_byte mid ≡ false → NoBracket (x ++ mid)
name_no_bracket x mid h f =
    no_bracket (name_next x mid h f) (name_may (terminal_of Word x) (name_facts x h).1).1

pub brace_first : (mid : Text) → NoElse (125 ∷ mid)
brace_first mid = record { kind = 87; name = codes "}"; more = mid; next = close_brace mid; may = refl }

pub statement_first : {stage : ℕ} {φ : Before} {x : Node} → IsStatement stage φ x → (mid : Text) → NoElse (φ mid)
statement_first (with_word s) mid = subst NoElse (sym (s.whole mid)) (name_first s.word (s.behind mid) s.is_name (s.apart mid))
statement_first (with_other s) mid = s.first mid

pub statement_reads : {stage : ℕ} {φ : Before} {x : Node} → IsStatement stage φ x → (mid : Text) → NoElse mid → Spelt stage (Part 55 ∷ []) (φ mid) mid (Tree x ∷ [])
statement_reads {stage} {φ} {x} (with_word s) mid n =
    subst (λ z. Spelt stage (Part 55 ∷ []) (φ mid) mid (Tree z ∷ [])) (sym s.tree_is)
    (subst (λ l. Spelt stage (Part 55 ∷ []) l mid (Tree (nodes.tree s.head_is (nodes.word s.word ∷ s.parts)) ∷ [])) (sym (s.whole mid))
    (row p.statement_name (p.is_statement_name stage) refl refl (ap (λ z. Tree z ∷ []) (grown_node (Tree (nodes.word s.word) ∷ []) s.head_is [] s.parts nowhere))
    (followed (name_reads s.word (s.behind mid) s.is_name (s.apart mid)) (s.reads mid)) end))
statement_reads {stage} (with_other s) mid n = row p.statement_other_statement (p.is_statement_other_statement stage) refl refl refl (s.reads mid n) end

pub record StatementPart (stage : ℕ) : Type 0 where
  pub text : Before
  pub tree : Node
  pub statement : IsStatement stage text tree

-- statements, each behind a space, and the end of their block
abbrev pub statements_text : {stage : ℕ} → List (StatementPart stage) → Before
statements_text [] mid = 32 ∷ 125 ∷ mid
statements_text (s ∷ ss) mid = 32 ∷ s.text (statements_text ss mid)

abbrev pub statement_trees : {stage : ℕ} → List (StatementPart stage) → List Node
statement_trees ss = map (λ s. s.tree) ss

pub statements_first : {stage : ℕ} (ss : List (StatementPart stage)) (mid : Text) → NoElse (statements_text ss mid)
statements_first [] mid = behind_space (brace_first mid)
statements_first (s ∷ ss) mid = behind_space (statement_first s.statement (statements_text ss mid))

-- What stands behind the variables that are written.
pub record IsSource (stage : ℕ) (h : Head) (φ : Before) (ps : List Node) : Type 0 where
  pub apart : (mid : Text) → ahead is_word_byte (φ mid) ≡ false
  pub reads : (mid : Text) → Spelt stage (Part 59 ∷ []) (φ mid) mid (Tree (nodes.tree h ps) ∷ [])

-- A statement that begins with a path: what stands behind its first word, and behind others.
pub record IsTail (stage : ℕ) (h : Head) (φ : Before) (ps : List Node) : Type 0 where
  pub words : begins_with_word h ≡ true
  pub apart : (mid : Text) → ahead is_word_byte (φ mid) ≡ false
  pub once : (mid : Text) → Spelt stage (Part 57 ∷ []) (φ mid) mid (Tree (nodes.tree h ps) ∷ [])
  pub again : (mid : Text) → Spelt stage (Part 58 ∷ []) (φ mid) mid (Tree (nodes.tree h ps) ∷ [])

-- the words of a variable
pub record WordsPart : Type 0 where
  pub first : Text
  pub more : List Text
  pub names : list_all is_name_text (first ∷ more) ≡ true

abbrev pub word_path : WordsPart → Node
word_path v = nodes.of_words (map nodes.word (v.first ∷ v.more))

abbrev pub word_paths : List WordsPart → List Node
word_paths vs = map word_path vs

-- variables, each behind a comma
abbrev pub more_paths : List WordsPart → Before
more_paths [] mid = mid
more_paths (v ∷ vs) mid = codes ", " ++ (v.first ++ (dotted v.more ++ more_paths vs mid))

paths_ahead : (vs : List WordsPart) (mid : Text) → ahead is_word_byte (more_paths vs (41 ∷ mid)) ≡ false
paths_ahead [] mid = refl
paths_ahead (v ∷ vs) mid = refl

opens_name : (x mid : Text) → is_name_text x ≡ true → Next (40 ∷ (x ++ mid)) 82 (codes "(") (x ++ mid)
opens_name x mid h =
    let s = name_start x h in
    subst (λ l. Next (40 ∷ (l ++ mid)) 82 (codes "(") (l ++ mid)) (sym s.2) (open_round s.0 (s.1 ++ mid) (start_begins s.0 s.3))

module _ {stage : ℕ} where
  -- Blocks.

  pub statements_read : (ss : List (StatementPart stage)) (mid : Text) → Spelt stage (Part 54 ∷ []) (statements_text ss mid) (32 ∷ 125 ∷ mid) (Trees (statement_trees ss) ∷ [])
  statements_read [] mid = row p.statements_none (p.is_statements_none stage) refl refl refl end end
  statements_read (s ∷ ss) mid =
      skip (row p.statements_statement (p.is_statements_statement stage) refl refl (ap (λ l. Trees (s.tree ∷ l) ∷ []) (append_nil (statement_trees ss)))
      (followed (statement_reads s.statement (statements_text ss mid) (statements_first ss mid)) (statements_read ss mid)) end)

  pub block_subject : nat_le 1 stage ≡ true → (ss : List (StatementPart stage)) → IsSubject stage (λ mid. 123 ∷ statements_text ss mid) (nodes.tree head.Block (statement_trees ss))
  block_subject goal ss = record {
    reads = λ mid f e. row p.subject_open_brace (p.is_subject_open_brace stage goal) refl refl (ap (λ l. Tree (nodes.tree head.Block l) ∷ []) (append_nil (statement_trees ss)))
        (tok (open_brace (statements_text ss mid)) (followed (statements_read ss mid) (tok (spaced (close_brace mid)) end))) end;
  }

  branch_reads : (ss : List (StatementPart stage)) (mid : Text) → Spelt stage (Part 60 ∷ []) (123 ∷ statements_text ss mid) mid (Trees (statement_trees ss) ∷ [])
  branch_reads ss mid = row p.block_open_brace (p.is_block_open_brace stage) refl refl refl (tok (open_brace (statements_text ss mid)) (followed (statements_read ss mid) (tok (spaced (close_brace mid)) end))) end

  -- What stands behind the variables that are written.

  pub assign_source : {φ : Before} {bar : Bool} {e : Node} → IsForm stage φ bar e → IsSource stage head.Assign (λ mid. codes " <- " ++ φ (59 ∷ mid)) (e ∷ [])
  assign_source {φ = φ} {bar = bar} o = record {
    apart = λ mid. refl;
    reads = λ mid. row p.written_assign (p.is_written_assign stage) refl refl refl (tok (assign_word (φ (59 ∷ mid))) (followed (o.reads (59 ∷ mid) (fits_symbol bar 59 mid refl refl)) (tok (semicolon mid) end))) end;
  }

  -- a call that reads as a node
  pub call_source : {φ : Before} {x : Node} → ((mid : Text) → Spelt stage (Part 68 ∷ []) (φ mid) mid (Tree x ∷ [])) → IsSource stage head.AssignCall (λ mid. codes " <@ " ++ φ (59 ∷ mid)) (x ∷ [])
  call_source {φ = φ} reads = record {
    apart = λ mid. refl;
    reads = λ mid. row p.written_calls (p.is_written_calls stage) refl refl refl (tok (call_word (φ (59 ∷ mid))) (followed (reads (59 ∷ mid)) (tok (semicolon mid) end))) end;
  }

  pub source_tail : {h : Head} {φ : Before} {ps : List Node} → begins_with_word h ≡ true → IsSource stage h φ ps → IsTail stage h φ ps
  source_tail w s = record {
    words = w;
    apart = s.apart;
    once = λ mid. row p.statement_tail_written (p.is_statement_tail_written stage) refl refl refl (s.reads mid) end;
    again = λ mid. row p.dotted_statement_written (p.is_dotted_statement_written stage) refl refl refl (s.reads mid) end;
  }

  pub sample_tail : {φ : Before} {bar : Bool} {d : Node} → IsForm stage φ bar d → IsTail stage head.Sample (λ mid. codes " <$ " ++ φ (59 ∷ mid)) (d ∷ [])
  sample_tail {φ = φ} {bar = bar} o = record {
    words = refl;
    apart = λ mid. refl;
    once = λ mid. row p.statement_tail_samples (p.is_statement_tail_samples stage) refl refl refl (tok (sample_word (φ (59 ∷ mid))) (followed (o.reads (59 ∷ mid) (fits_symbol bar 59 mid refl refl)) (tok (semicolon mid) end))) end;
    again = λ mid. row p.dotted_statement_samples (p.is_dotted_statement_samples stage) refl refl refl (tok (sample_word (φ (59 ∷ mid))) (followed (o.reads (59 ∷ mid) (fits_symbol bar 59 mid refl refl)) (tok (semicolon mid) end))) end;
  }

  statement_words : Words stage 55 57 58
  statement_words = record {
    name_then = λ w h ps d. row p.statement_name (p.is_statement_name stage) refl refl (ap (λ z. Tree z ∷ []) (grown_node (Tree (nodes.word w) ∷ []) h [] ps nowhere)) d end;
    first_dot = λ w h ps d. row p.statement_tail_dot (p.is_statement_tail_dot stage) refl refl (ap (λ z. Tree z ∷ []) (grown_node (Tree (nodes.word w) ∷ []) h [] ps nowhere)) d end;
    further_dot = λ w h ps d. row p.dotted_statement_dot (p.is_dotted_statement_dot stage) refl refl (ap (λ z. Tree z ∷ []) (grown_node (Tree (nodes.word w) ∷ []) h [] ps nowhere)) d end;
  }

  pub words_statement : {h : Head} {φ : Before} {ps : List Node} → IsTail stage h φ ps → (w : Text) (ws : List Text) → list_all is_name_text (w ∷ ws) ≡ true
      → IsStatement stage (λ mid. w ++ (dotted ws ++ φ mid)) (nodes.tree h (map nodes.word (w ∷ ws) ++ ps))
  words_statement {h = h} {φ = φ} {ps = ps} t w ws k =
      let facts = both (is_name_text w) (list_all is_name_text ws) k in
      with_word (record {
        word = w;
        is_name = facts.0;
        behind = λ mid. dotted ws ++ φ mid;
        head_is = h;
        parts = map nodes.word ws ++ ps;
        apart = λ mid. behind_dots ws (φ mid) (t.apart mid);
        whole = λ mid. refl;
        tree_is = refl;
        words = t.words;
        reads = λ mid. words_behind statement_words h ps (φ mid) (t.apart mid) (t.again mid) (t.once mid) ws facts.1;
      })

  pub path_statement : {h : Head} {φ : Before} {ps : List Node} → IsTail stage h φ ps → (m : Text) → is_path m ≡ true → IsStatement stage (λ mid. m ++ φ mid) (nodes.tree h (nodes.word_nodes m ++ ps))
  path_statement {h = h} {φ = φ} {ps = ps} t m e =
      let s = some_words m in
      let all : list_all is_name_text (s.first ∷ s.more) ≡ true = sym (ap (λ l. list_all is_name_text l) s.are) ∙ e in
      let facts = both (is_name_text s.first) (list_all is_name_text s.more) all in
      with_word (record {
        word = s.first;
        is_name = facts.0;
        behind = λ mid. dotted s.more ++ φ mid;
        head_is = h;
        parts = map nodes.word s.more ++ ps;
        apart = λ mid. behind_dots s.more (φ mid) (t.apart mid);
        whole = λ mid. ap (λ l. l ++ φ mid) (sym s.whole) ∙ append_assoc s.first (dotted s.more) (φ mid);
        tree_is = ap (λ l. nodes.tree h (map nodes.word l ++ ps)) s.are;
        words = t.words;
        reads = λ mid. words_behind statement_words h ps (φ mid) (t.apart mid) (t.again mid) (t.once mid) s.more facts.1;
      })

  -- A call alone.

  pub call_statement : (m x : Text) (fs : List (FormPart stage)) → is_path m ≡ true → is_name_text x ≡ true
      → IsStatement stage (λ mid. m ++ (46 ∷ (x ++ (40 ∷ arguments_text fs (59 ∷ mid))))) (nodes.tree head.Call ((nodes.word_nodes m ++ nodes.word x ∷ []) ++ nodes.list (form_trees fs) ∷ []))
  call_statement m x fs h k =
      let s = some_words m in
      let all : list_all is_name_text (s.first ∷ s.more) ≡ true = sym (ap (λ l. list_all is_name_text l) s.are) ∙ h in
      let ps = nodes.list (form_trees fs) ∷ [] in
      let facts = both (is_name_text s.first) (list_all is_name_text (s.more ++ x ∷ [])) (all_names_end (s.first ∷ s.more) x all k) in
      with_word (record {
        word = s.first;
        is_name = facts.0;
        behind = λ mid. dotted (s.more ++ x ∷ []) ++ (40 ∷ arguments_text fs (59 ∷ mid));
        head_is = head.Call;
        parts = map nodes.word (s.more ++ x ∷ []) ++ ps;
        apart = λ mid. behind_dots (s.more ++ x ∷ []) (40 ∷ arguments_text fs (59 ∷ mid)) refl;
        whole = λ mid.
            let rest = 40 ∷ arguments_text fs (59 ∷ mid) in
            sym (ap (λ l. s.first ++ l) (dotted_end s.more x rest) ∙ sym (append_assoc s.first (dotted s.more) (46 ∷ (x ++ rest))) ∙ ap (λ l. l ++ (46 ∷ (x ++ rest))) s.whole);
        tree_is = ap (λ l. nodes.tree head.Call ((map nodes.word l ++ nodes.word x ∷ []) ++ ps)) s.are ∙ ap (λ l. nodes.tree head.Call (l ++ ps)) (map_word_end (s.first ∷ s.more) x);
        words = refl;
        reads = λ mid.
            member_behind statement_words head.Call ps (40 ∷ arguments_text fs (59 ∷ mid)) refl (row p.dotted_statement_open_round (p.is_dotted_statement_open_round stage) refl refl refl (tok (opens_call fs (59 ∷ mid)) (followed (close_call fs (59 ∷ mid)) (tok (semicolon mid) end))) end)
            s.more x facts.1;
      })

  -- Several variables.

  more_paths_read : (vs : List WordsPart) (mid : Text) → Spelt stage (Part 163 ∷ []) (more_paths vs (41 ∷ mid)) (41 ∷ mid) (Trees (word_paths vs) ∷ [])
  more_paths_read [] mid = row p.more_paths_none (p.is_more_paths_none stage) refl refl refl end end
  more_paths_read (v ∷ vs) mid =
      let rest = more_paths vs (41 ∷ mid) in
      row p.more_paths_comma (p.is_more_paths_comma stage) refl refl (ap (λ l. Trees (word_path v ∷ l) ∷ []) (append_nil (word_paths vs)))
      (tok (comma_word (v.first ++ (dotted v.more ++ rest))) (followed (words_read v.first v.more rest v.names (paths_ahead vs mid)) (more_paths_read vs mid))) end

  pub tuple_statement : {h : Head} {φ : Before} {ps : List Node} → IsSource stage h φ ps → (v w : WordsPart) (vs : List WordsPart)
      → IsStatement stage (λ mid. 40 ∷ (v.first ++ (dotted v.more ++ more_paths (w ∷ vs) (41 ∷ φ mid)))) (nodes.tree head.TupleStatement (nodes.list (word_path v ∷ word_paths (w ∷ vs)) ∷ nodes.tree h ps ∷ []))
  tuple_statement {h = h} {φ = φ} {ps = ps} s v w vs = with_other (record {
    no_words = ap begins_with_word (node_head head.TupleStatement [] (nodes.list (word_path v ∷ word_paths (w ∷ vs)) ∷ nodes.tree h ps ∷ []) nowhere);
    first = λ mid.
        let rest = dotted v.more ++ more_paths (w ∷ vs) (41 ∷ φ mid) in
        record { kind = 82; name = codes "("; more = v.first ++ rest; next = opens_name v.first rest (both (is_name_text v.first) (list_all is_name_text v.more) v.names).0; may = refl };
    reads = λ mid n.
        let behind = more_paths (w ∷ vs) (41 ∷ φ mid) in
        let rest = dotted v.more ++ behind in
        row p.other_statement_open_round (p.is_other_statement_open_round stage) refl refl refl
        (tok (opens_name v.first rest (both (is_name_text v.first) (list_all is_name_text v.more) v.names).0)
        (followed (row p.paths_path (p.is_paths_path stage) refl refl (ap (λ l. Trees (word_path v ∷ l) ∷ []) (append_nil (word_paths (w ∷ vs))))
        (followed (words_read v.first v.more behind v.names (paths_ahead (w ∷ vs) (φ mid))) (more_paths_read (w ∷ vs) (φ mid))) end)
        (tok (close_round (φ mid)) (s.reads mid)))) end;
  })

  -- Branches.

  pub branch : {φ : Before} {bar : Bool} {e : Node} → IsForm stage φ bar e → (a : List (StatementPart stage)) → IsStatement stage (λ mid. codes "if (" ++ φ (codes ") {" ++ statements_text a mid)) (nodes.tree head.If (e ∷ nodes.list (statement_trees a) ∷ nodes.list [] ∷ []))
  branch {φ = φ} {bar = bar} {e = e} o a = with_other (record {
    no_words = ap begins_with_word (node_head head.If [] (e ∷ nodes.list (statement_trees a) ∷ nodes.list [] ∷ []) nowhere);
    first = λ mid. record { kind = 32; name = codes "if"; more = 40 ∷ φ (codes ") {" ++ statements_text a mid); next = if_word (40 ∷ φ (codes ") {" ++ statements_text a mid)); may = refl };
    reads = λ mid n.
        let rest = codes " {" ++ statements_text a mid in
        row p.other_statement_if (p.is_other_statement_if stage) refl refl refl
        (tok (if_word (40 ∷ φ (41 ∷ rest))) (tok (opens (o.starts (41 ∷ rest))) (followed (o.reads (41 ∷ rest) (fits_close bar rest)) (tok (close_round rest)
        (followed (skip (branch_reads a mid)) (row_before p.alternative_none (p.is_alternative_none stage) n.next n.may refl refl refl end end)))))) end;
  })

  pub branches : {φ : Before} {bar : Bool} {e : Node} → IsForm stage φ bar e → (a b : List (StatementPart stage))
      → IsStatement stage (λ mid. codes "if (" ++ φ (codes ") {" ++ statements_text a (codes " else {" ++ statements_text b mid))) (nodes.tree head.If (e ∷ nodes.list (statement_trees a) ∷ nodes.list (statement_trees b) ∷ []))
  branches {φ = φ} {bar = bar} {e = e} o a b = with_other (record {
    no_words = ap begins_with_word (node_head head.If [] (e ∷ nodes.list (statement_trees a) ∷ nodes.list (statement_trees b) ∷ []) nowhere);
    first = λ mid. let rest = codes ") {" ++ statements_text a (codes " else {" ++ statements_text b mid) in
        record { kind = 32; name = codes "if"; more = 40 ∷ φ rest; next = if_word (40 ∷ φ rest); may = refl };
    reads = λ mid n.
        let other = 123 ∷ statements_text b mid in
        let rest = codes " {" ++ statements_text a (codes " else " ++ other) in
        row p.other_statement_if (p.is_other_statement_if stage) refl refl refl
        (tok (if_word (40 ∷ φ (41 ∷ rest))) (tok (opens (o.starts (41 ∷ rest))) (followed (o.reads (41 ∷ rest) (fits_close bar rest)) (tok (close_round rest)
        (followed (skip (branch_reads a (codes " else " ++ other))) (row p.alternative_else (p.is_alternative_else stage) refl refl refl (tok (spaced (else_word other)) (branch_reads b mid)) end)))))) end;
  })
