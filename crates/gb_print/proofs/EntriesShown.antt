-- The lines of a goal, and what each of them reads as.
use Rattle.std.specs.Prelude.{ℕ, ◌≡◌, Bool, true, List, [], ◌∷◌, ◌++◌, map, codes}
use Rattle.std.proofs.Common.{refl, ap, ap₂, sym, ◌∙◌, subst}
use Rattle.gb_goal.specs.Answers.{nowhere}
use Rattle.gb_script.specs.declared.table.Symbol.TheVariants.{Token, Part}
use Rattle.gb_script.specs.Grammar.{Allowed}
use Rattle.gb_lex.specs.Piece.{first_piece}
use Rattle.gb_script.specs.declared.text.Lexeme.{Lexeme}
use Rattle.gb_script.specs.declared.head.Head.TheVariants as head
use Rattle.gb_script.specs.declared.tree.Node.{Node}
use Rattle.gb_script.specs.declared.value.Value.TheVariants.{Tree}
use Rattle.gb_print_names.specs.declared.bound_names.Known.{Known}
use Rattle.gb_print_names.specs.Text.{Text, Writing, ◌▸◌, each}
use Rattle.gb_print_names.specs.Types as print
use Rattle.gb_print_names.specs.BoundNames.{Name, Place}
use Rattle.gb_print.specs.GoalText as print_goals
use Rattle.gb_terms.specs.declared.decl.TypedName.{TypedName}
use Rattle.gb_terms.specs.declared.module.Bind.{Bind}
use Rattle.gb_goal.specs.declared.sequent.Hyp.{Hyp}
use Rattle.gb_print.specs.Nodes as nodes
use Rattle.gb_print.specs.Types as type_tree
use Rattle.gb_print.specs.Written.{is_name_text}
use Rattle.gb_print.specs.Goals as goals
use Rattle.gb_print.specs.Goals.{Entry, binder, hypothesis, AreWrittenVariables, no_variables, one_variable, AreWrittenMemories, no_memories, one_memory, AreWrittenBinds, no_binds, one_bind, AreWrittenHyps, no_hyps, one_hyp}
use Rattle.gb_print.proofs.Tokens.{Next}
use Rattle.gb_print.proofs.Symbols.{ampersand, colon_word, dash}
use Rattle.gb_print.proofs.Levels.{Before, Fits, Spelt, NoBracket, no_bracket, end, tok, row, followed, no_words}
use Rattle.gb_print.proofs.Operands.{grown_node}
use Rattle.gb_print.proofs.NameWords.{name_reads, name_start}
use Rattle.gb_print.proofs.StatementsRead.{name_no_bracket}
use Rattle.gb_print.proofs.Reading.{lexeme_kinds}
use Rattle.gb_print.proofs.Lexed.{lexed, lexed_after}
use Rattle.gb_print.proofs.TypesShown.{ShowsType, type_shown}
use Rattle.gb_print.proofs.ModulesShown.{ShowsModule, module_shown}
use Rattle.gb_print.proofs.PartsShown.{part_form}
use Rattle.gb_print.proofs.TermsShown.{term_shown}
use Rattle.gb_print.proofs.Pieces.{Shows, Writes, literal, both_written, empty_written}
use Rattle.gb_print.proofs.Productions as p

abbrev pub part_of : Entry → ℕ
part_of (binder x) = 251
part_of (hypothesis x) = 253

abbrev pub tree_of : Entry → Node
tree_of (binder x) = x
tree_of (hypothesis x) = x

-- a line of a context, in front of its line feed
pub record ContextLine : Type 0 where
  pub text : Before
  pub entry : Entry
  pub first : (r : List ℕ) → NoBracket (text (10 ∷ r))
  pub reads : (r : List ℕ) → NoBracket r → Spelt 1 (Part (part_of entry) ∷ []) (text (10 ∷ r)) (10 ∷ r) (Tree (tree_of entry) ∷ [])

-- lines, each with its line feed
abbrev pub lines_text : List ContextLine → Before
lines_text [] r = r
lines_text (l ∷ ls) r = l.text (10 ∷ lines_text ls r)

-- Nothing but another token stands in front of a line feed's line.
feed_lexed : (r : List ℕ) → lexed (10 ∷ r) ≡ lexed r
unfolding lexed lexed_after first_piece
feed_lexed r = refl

pub behind_feed : (r : List ℕ) → NoBracket r → NoBracket (10 ∷ r)
behind_feed r n = subst (λ (ls : List Lexeme). Allowed p.module_tail_none (lexeme_kinds ls)) (sym (feed_lexed r)) n

pub lines_first : (ls : List ContextLine) (r : List ℕ) → NoBracket r → NoBracket (lines_text ls r)
lines_first [] r n = n
lines_first (l ∷ ls) r n = l.first (lines_text ls r)

abbrev pub feed : Before
feed r = 10 ∷ r

pub fits_feed : (bar : Bool) (r : List ℕ) → Fits bar (10 ∷ r)
fits_feed bar r = record { word = refl; bars = λ e. refl }

abbrev pub variable_line : (bound : List Known) {t : print.Part} {z : type_tree.Part} (x : Text) → is_name_text x ≡ true → ShowsType 1 1 bound t z → ContextLine
variable_line bound {z = z} x h q = record {
  text = λ mid. x ++ (codes " : " ++ q.text mid);
  entry = binder (nodes.tree head.Values (nodes.word x ∷ nodes.list [] ∷ z.1 bound ∷ []));
  first = λ r. name_no_bracket x (codes " : " ++ q.text (10 ∷ r)) h refl;
  reads = λ r n.
      row p.entry_name (p.is_entry_name 1 refl) refl refl (ap (λ y. Tree y ∷ []) (grown_node (Tree (nodes.word x) ∷ []) head.Values [] (nodes.list [] ∷ z.1 bound ∷ []) nowhere))
      (followed (name_reads x (codes " : " ++ q.text (10 ∷ r)) h refl)
      (row p.entry_rest_colon (p.is_entry_rest_colon 1 refl) refl refl refl (followed no_words (tok (colon_word (q.text (10 ∷ r))) (followed (q.type.reads (10 ∷ r) (record { word = refl; bracket = λ e. behind_feed r n })) end))) end)) end;
}

pub memory_next : (x mid : Text) → is_name_text x ≡ true → Next (38 ∷ (x ++ mid)) 109 (codes "&") (x ++ mid)
memory_next x mid h = let s = name_start x h in subst (λ l. Next (38 ∷ (l ++ mid)) 109 (codes "&") (l ++ mid)) (sym s.2) (ampersand s.0 (s.1 ++ mid) s.3)

abbrev pub memory_line : (x : Text) → is_name_text x ≡ true → ContextLine
memory_line x h = record {
  text = λ mid. 38 ∷ (x ++ mid);
  entry = binder (nodes.tree head.Memory (nodes.word x ∷ []));
  first = λ r. no_bracket (memory_next x (10 ∷ r) h) refl;
  reads = λ r n.
      row p.entry_memory (p.is_entry_memory 1 refl) refl refl refl
      (row p.memory_ampersand (p.is_memory_ampersand 1) refl refl refl (tok (memory_next x (10 ∷ r) h) (followed (name_reads x (10 ∷ r) h refl) end)) end) end;
}

abbrev pub hypothesis_line : {w : Writing} {y : Node} (x : Text) → is_name_text x ≡ true → Shows 1 w y → ContextLine
hypothesis_line {y = y} x h s = record {
  text = λ mid. x ++ (codes " : " ++ s.text mid);
  entry = hypothesis (nodes.tree head.Hypothesis (nodes.word x ∷ y ∷ []));
  first = λ r. name_no_bracket x (codes " : " ++ s.text (10 ∷ r)) h refl;
  reads = λ r n.
      row p.hypothesis_name (p.is_hypothesis_name 1 refl) refl refl refl
      (followed (name_reads x (codes " : " ++ s.text (10 ∷ r)) h refl) (tok (colon_word (s.text (10 ∷ r))) (followed (s.form.reads (10 ∷ r) (fits_feed s.bar r)) end))) end;
}

abbrev pub module_line : {bound : List Known} {b : Bind} (x : Text) → is_name_text x ≡ true → ShowsModule 1 bound x b → ContextLine
module_line x h m = record {
  text = λ mid. x ++ m.behind mid;
  entry = binder (nodes.tree head.ModuleBind (nodes.word x ∷ m.parts));
  first = λ r. name_no_bracket x (m.behind (10 ∷ r)) h (m.apart (10 ∷ r));
  reads = λ r n.
      row p.entry_name (p.is_entry_name 1 refl) refl refl (ap (λ y. Tree y ∷ []) (grown_node (Tree (nodes.word x) ∷ []) head.ModuleBind [] m.parts nowhere))
      (followed (name_reads x (m.behind (10 ∷ r)) h (m.apart (10 ∷ r)))
      (row p.entry_rest_module_bound (p.is_entry_rest_module_bound 1 refl) refl refl refl (m.reads (10 ∷ r) refl) end)) end;
}

-- `---`
pub ruler : (r : List ℕ) → Spelt 1 (Token 99 ∷ Token 99 ∷ Token 99 ∷ []) (codes "---" ++ (10 ∷ r)) (10 ∷ r) []
ruler r = tok (dash 45 (45 ∷ 10 ∷ r) refl) (tok (dash 45 (10 ∷ r) refl) (tok (dash 10 r refl) end))

pub conclusion_reads : {w : Writing} {y : Node} (s : Shows 1 w y) (r : List ℕ) → Spelt 1 (Part 120 ∷ []) (s.text (10 ∷ r)) (10 ∷ r) (Tree y ∷ [])
conclusion_reads s r = s.form.reads (10 ∷ r) (fits_feed s.bar r)

-- Lines that are written, one for each entry.
pub record ShowsLines (w : Writing) (es : List Entry) : Type 0 where
  pub lines : List ContextLine
  pub writes : Writes w (lines_text lines)
  pub entries : map (λ (l : ContextLine). l.entry) lines ≡ es

pub variables_shown : (at : Place) {vs : List TypedName} → AreWrittenVariables at vs → ShowsLines (each (print_goals.variable_line at.bound) vs) (map (λ v. binder (goals.variable_tree at v)) vs)
variables_shown at no_variables = record { lines = []; writes = empty_written; entries = refl }
variables_shown at (one_variable {v = v} h t ds) =
    let q = type_shown 1 1 (λ e. e) at.bound t in
    let rest = variables_shown at ds in
    record {
      lines = variable_line at.bound v.name h q ∷ rest.lines;
      writes = both_written (both_written (both_written (both_written (literal v.name) (literal (codes " : "))) q.writes) (literal (codes "\n"))) rest.writes;
      entries = ap (λ es. binder (goals.variable_tree at v) ∷ es) rest.entries;
    }

pub memories_shown : {ms : List Name} → AreWrittenMemories ms → ShowsLines (each print_goals.memory_line ms) (map (λ m. binder (goals.memory_tree m)) ms)
memories_shown no_memories = record { lines = []; writes = empty_written; entries = refl }
memories_shown (one_memory {m = m} h ds) =
    let rest = memories_shown ds in
    record {
      lines = memory_line m h ∷ rest.lines;
      writes = both_written (both_written (both_written (literal (codes "&")) (literal m)) (literal (codes "\n"))) rest.writes;
      entries = ap (λ es. binder (goals.memory_tree m) ∷ es) rest.entries;
    }

pub modules_shown : (at : Place) {bs : List Bind} → AreWrittenBinds at bs → ShowsLines (each (print_goals.module_line at.bound) bs) (map (λ (b : Bind). binder (type_tree.abstract_module at.bound b.name b)) bs)
modules_shown at no_binds = record { lines = []; writes = empty_written; entries = refl }
modules_shown at (one_bind {b = b} n h ds) =
    let m = module_shown 1 at.bound b.name b h in
    let rest = modules_shown at ds in
    record {
      lines = module_line b.name n m ∷ rest.lines;
      writes = both_written (both_written m.writes (literal (codes "\n"))) rest.writes;
      entries = ap₂ (λ y es. binder y ∷ es) (sym m.tree_is) rest.entries;
    }

pub hyps_shown : (at : Place) {hs : List Hyp} → AreWrittenHyps at hs → ShowsLines (each (print_goals.hypothesis_line at) hs) (map (λ h. hypothesis (goals.hypothesis_tree at h)) hs)
hyps_shown at no_hyps = record { lines = []; writes = empty_written; entries = refl }
hyps_shown at (one_hyp {h = h} n d ds) =
    let f = part_form (term_shown 1 d) true in
    let rest = hyps_shown at ds in
    record {
      lines = hypothesis_line h.name n f ∷ rest.lines;
      writes = both_written (both_written (both_written (both_written (literal h.name) (literal (codes " : "))) f.writes) (literal (codes "\n"))) rest.writes;
      entries = ap (λ es. hypothesis (goals.hypothesis_tree at h) ∷ es) rest.entries;
    }

pub lines_together : (xs ys : List ContextLine) (r : List ℕ) → lines_text (xs ++ ys) r ≡ lines_text xs (lines_text ys r)
lines_together [] ys r = refl
lines_together (x ∷ xs) ys r = ap (λ l. x.text (10 ∷ l)) (lines_together xs ys r)

pub entries_together : (xs ys : List ContextLine) → map (λ (l : ContextLine). l.entry) (xs ++ ys) ≡ map (λ (l : ContextLine). l.entry) xs ++ map (λ (l : ContextLine). l.entry) ys
entries_together [] ys = refl
entries_together (x ∷ xs) ys = ap (λ l. x.entry ∷ l) (entries_together xs ys)

-- lines behind others
pub more_lines : {v w : Writing} {es fs : List Entry} → ShowsLines v es → ShowsLines w fs → ShowsLines (v ▸ w) (es ++ fs)
more_lines a b = record {
  lines = a.lines ++ b.lines;
  writes = record { same = λ before mid. (both_written a.writes b.writes).same before mid ∙ ap (λ l. before ++ l) (sym (lines_together a.lines b.lines mid)) };
  entries = entries_together a.lines b.lines ∙ ap₂ (λ x y. x ++ y) a.entries b.entries;
}
