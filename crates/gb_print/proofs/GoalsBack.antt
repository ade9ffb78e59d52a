-- What is printed of a goal is read back.
use Rattle.std.specs.Prelude.{ℕ, suc, ◌≡◌, ◌<◌, true, List, [], ◌∷◌, ◌++◌, length, map, codes}
use Rattle.std.specs.List.{All, AllZip, prefix_len}
use Rattle.std.proofs.Common.{refl, ap, ap₂, sym, ◌∙◌, subst, arith, inl, inr}
use Rattle.std.proofs.lemmas.List.Elements.{All-cons, All-append}
use Rattle.gb_core.specs.declared.place.Place.{Place as TextPlace}
use Rattle.gb_script.specs.declared.table.Symbol.{Symbol}
use Rattle.gb_script.specs.declared.table.Symbol.TheVariants.{Token, Part}
use Rattle.gb_script.specs.Grammar.{Grammar}
use Rattle.gb_script.specs.Parsing.{IsKind, Spells, IsTextOrFault}
use Rattle.gb_language.specs.declared.rows.TheConstants.{ENTRY, HYPOTHESIS}
use Rattle.gb_language.specs.Language.{goal_language, IsLineTree}
use Rattle.gb_language.proofs.Language.{line_or_fault, line_spells}
use Rattle.gb_limits.specs.Kinds.{kind_of}
use Rattle.gb_limits.specs.Lexeme.{kinds_of}
use Rattle.gb_limits.specs.Limits.{NoneLong}
use Rattle.gb_read_script.specs.declared.line.Line.{Line}
use Rattle.gb_read_script.specs.declared.goal_lines.LineSort.TheVariants as sort
use Rattle.gb_read_script.specs.declared.goal_lines.ReadLine.{ReadLine}
use Rattle.gb_read_script.specs.declared.goal_lines.ReadGoal.{ReadGoal}
use Rattle.gb_read_script.specs.declared.goal_tree.SequentTree.{SequentTree}
use Rattle.gb_read_script.specs.Line.{text_of, lines_before}
use Rattle.gb_read_script.specs.GoalLines.{is_dash, is_minus, texts, IsEntry, IsRuler, IsGoal}
use Rattle.gb_read_script.specs.Goal.{IsTreeOf as IsLineTreeOf, AreTreesOf, SpellsGoal, goal_text, goal_lines, beginning, IsShort, all_lines, IsGoalAllowed}
use Rattle.gb_script.specs.declared.action.Rule.{Rule}
use Rattle.gb_script.specs.declared.terminal.Terminal.{Terminal}
use Rattle.gb_script.specs.declared.terminal.Terminal.TheVariants as terminal
use Rattle.gb_script.specs.declared.text.Lexeme.{Lexeme}
use Rattle.gb_script.specs.declared.text.Text.{Text}
use Rattle.gb_script.specs.declared.tree.Node.{Node}
use Rattle.gb_script.specs.declared.value.Value.{Value}
use Rattle.gb_script.specs.declared.value.Value.TheVariants.{Tree}
use Rattle.gb_script.specs.Build.{IsTree}
use Rattle.gb_lex.specs.Piece.{pieces_after}
use Rattle.gb_lex.specs.PlaceAfter.{place_after}
use Rattle.gb_goal.specs.declared.sequent.Sequent.{Sequent}
use Rattle.gb_script.proofs.Stacks.{append_nil}
use Rattle.gb_print_names.specs.Text.{Writing}
use Rattle.gb_print_names.specs.BoundNames.{Place}
use Rattle.gb_print.specs.GoalText as print_goals
use Rattle.gb_print.specs.Nodes.{placeless}
use Rattle.gb_print.specs.Goals.{Entry, binder, hypothesis, IsEntryTree, IsTreeOf, IsWrittenGoal}
use Rattle.gb_print.proofs.Reading.{lexeme_kind, lexeme_kinds, Reads, done, token}
use Rattle.gb_print.proofs.Sound.{bare_lexeme, bare_lexemes}
use Rattle.gb_print.proofs.Chains.{Known, new, low, is_low, Effects, nothing, over_part}
use Rattle.gb_print.proofs.ChainRows.{becomes_here}
use Rattle.gb_print.proofs.PlainSteps.{entry_short}
use Rattle.gb_print.proofs.Walked.{spelled_short}
use Rattle.gb_print.proofs.Faultless.{Whole, whole_cut, whole_none, whole_more, whole_feed, faultless}
use Rattle.gb_print.proofs.Kept.{begins_otherwise, braces_ok, is_kept, kept, kept_so, kept_append, goal_braces, entry_begins, hypothesis_begins, conclusion_begins, none_left_out, none_overflows}
use Rattle.gb_print.proofs.Lexed.{lexed}
use Rattle.gb_print.proofs.LexemesAre.{behind_are}
use Rattle.gb_print.proofs.Shorter.{shorter}
use Rattle.gb_print.proofs.Taking.{takes, takes_some, avoided, entry_avoids, hypothesis_avoids, entry_takes, hypothesis_takes, form_takes}
use Rattle.gb_print.proofs.Cut.{Cut}
use Rattle.gb_print.proofs.LinesAre.{lexemes_behind, line_lexemes, parted, parted_at, part_line}
use Rattle.gb_print.proofs.Levels.{Spelt, NoBracket, no_bracket}
use Rattle.gb_print.proofs.Symbols.{dash}
use Rattle.gb_print.proofs.Productions.{grammar}
use Rattle.gb_print.proofs.FormsBack.{goals}
use Rattle.gb_print.proofs.Pieces.{Shows, both_written, literal}
use Rattle.gb_print.proofs.PartsShown.{part_form}
use Rattle.gb_print.proofs.TermsShown.{term_shown}
use Rattle.gb_print.proofs.EntriesShown.{ContextLine, part_of, tree_of, lines_text, lines_first, ruler, conclusion_reads, variables_shown, memories_shown, modules_shown, hyps_shown, more_lines}

bare_together : (xs ys : List Lexeme) → bare_lexemes (xs ++ ys) ≡ bare_lexemes xs ++ bare_lexemes ys
bare_together [] ys = refl
bare_together (x ∷ xs) ys = ap (λ l. bare_lexeme x ∷ l) (bare_together xs ys)

bare_length : (xs : List Lexeme) → length (bare_lexemes xs) ≡ length xs
bare_length [] = refl
bare_length (x ∷ xs) = ap suc (bare_length xs)

bare_kinds : (ls : List Lexeme) → lexeme_kinds (bare_lexemes ls) ≡ map lexeme_kind ls
bare_kinds [] = refl
bare_kinds (l ∷ ls) = ap (λ ks. lexeme_kind l ∷ ks) (bare_kinds ls)

dash_kinds : {ls : List Lexeme} {vs : List Value} → Reads (grammar 1) (Token 99 ∷ Token 99 ∷ Token 99 ∷ []) ls [] vs → lexeme_kinds ls ≡ 99 ∷ 99 ∷ 99 ∷ []
dash_kinds (token a _ (token b _ (token c _ done))) = ap₂ (λ x l. x ∷ l) a (ap₂ (λ x l. x ∷ l) b (ap (λ x. x ∷ []) c))

minus_of : (t : Terminal) → kind_of t ≡ 99 → is_minus t ≡ true
unfolding kind_of is_minus
minus_of terminal.Minus h = refl
minus_of _ h = absurd (omega arith)

three_dashes : (ls : List Lexeme) → map lexeme_kind ls ≡ 99 ∷ 99 ∷ 99 ∷ [] → (prefix_len is_dash ls ≡ 3) × (length ls ≡ 3)
three_dashes [] e = absurd cc
three_dashes (a ∷ []) e = absurd cc
three_dashes (a ∷ b ∷ []) e = absurd cc
three_dashes (a ∷ b ∷ c ∷ []) e =
    let x = minus_of a.terminal cc in
    let y = minus_of b.terminal cc in
    let z = minus_of c.terminal cc in
    (rw (x, y, z) refl, refl)
three_dashes (a ∷ b ∷ c ∷ d ∷ ls) e = absurd cc

whole_line : {i r : List ℕ} → Cut i (10 ∷ r) → Whole i r
whole_line {r = r} c = whole_more (whole_cut c) (whole_feed r)

module _ (start end : TextPlace) (kinds : (t : Text) → All IsKind (kinds_of t)) where
  -- the tokens of a line, and those of what follows
  line_bare : (front : List ℕ) {i j : List ℕ} (c : Cut i j) → lexed i ≡ bare_lexemes (line_lexemes start front c) ++ lexed j
  line_bare front {i} {j} c =
      sym (behind_are start front i)
      ∙ ap bare_lexemes (parted_at start front c)
      ∙ bare_together (line_lexemes start front c) (lexemes_behind start (front ++ c.front) j)
      ∙ ap (λ l. bare_lexemes (line_lexemes start front c) ++ l) (behind_are start (front ++ c.front) j)

  -- what a line reads, alone
  line_reads : (front : List ℕ) {i j : List ℕ} {ss : List Symbol} {vs : List Value} (d : Spelt 1 ss i j vs) → Reads (grammar 1) ss (bare_lexemes (line_lexemes start front d.cut)) [] vs
  line_reads front {j = j} d = shorter (grammar 1) (lexed j) d.reads (bare_lexemes (line_lexemes start front d.cut)) [] (line_bare front d.cut) refl

  line_some : (front : List ℕ) {i j : List ℕ} {ss : List Symbol} {vs : List Value} (d : Spelt 1 ss i j vs) (f : ℕ) → takes f (grammar 1) ss ≡ true → 0 < length (line_lexemes start front d.cut)
  line_some front d f h = subst (λ n. 0 < n) (bare_length (line_lexemes start front d.cut)) (takes_some (grammar 1) (line_reads front d) f h)

  -- the tree of a line with these tokens, which has short chains
  record LineTree (part : ℕ) (x : Node) (t : Text) : Type 0 where
    tree : Node
    is_tree : IsLineTree part (kinds_of t) t tree
    same : placeless tree ≡ x
    short : NoneLong t is_tree.0

  line_spelled : (part : ℕ) (x : Node) (t : Text) → ((g : Grammar Rule) → grammar 1 ≡ g → (y : Node) × (d : IsTree g part (kinds_of t) t y) × (placeless y ≡ x) × NoneLong t d.0) → LineTree part x t
  line_spelled part x t h = let s = h goal_language goals in record { tree = s.0; is_tree = s.1; same = s.2; short = s.3 }

  line_tree : (part : ℕ) (x : Node) (bs : List Known) → Effects 0 (Part part ∷ []) (new true ∷ []) bs → (line : Line) (ls : List Lexeme) → line.tokens ≡ ls → Reads (grammar 1) (Part part ∷ []) (bare_lexemes ls) [] (Tree x ∷ [])
      → LineTree part x (text_of line)
  line_tree part x bs effects line ls e d =
      let t = text_of line in
      let own : Reads (grammar 1) (Part part ∷ []) (bare_lexemes line.tokens) [] (Tree x ∷ []) = subst (λ l. Reads (grammar 1) (Part part ∷ []) (bare_lexemes l) [] (Tree x ∷ [])) (sym e) d in
      let s = spelled_short (grammar 1) t part x bs effects own in
      line_spelled part x t (λ g q. subst (λ (g : Grammar Rule). (y : Node) × (d : IsTree g part (kinds_of t) t y) × (placeless y ≡ x) × NoneLong t d.0) q (s.tree, s.is_tree, s.same, s.short))

  -- Entries.

  record Read (e : Entry) (t : Text) : Type 0 where
    read : ReadLine
    text : read.text ≡ t
    is_entry : IsEntry read
    short : IsShort read
    tree : Node
    spelled : IsLineTreeOf read tree
    entry : IsEntryTree e tree

  hypothesis_by : (x : Node) (t : Text) → LineTree HYPOTHESIS x t → IsTextOrFault goal_language ENTRY (kinds_of t) → Read (hypothesis x) t
  hypothesis_by x t h (inl d) =
      let z = line_spells ENTRY (kinds_of t) t d.0 (inl refl) d.1 in
      record {
        read = record { sort = sort.Binder; text = t; steps = d.0 };
        text = refl;
        is_entry = (d.1, tt);
        short = entry_short t d.1;
        tree = z.0;
        spelled = z.1;
        entry = inr (record { line = t; spelled = (h.tree, h.is_tree, h.same); variable = z.1 });
      }
  hypothesis_by x t h (inr f) =
      record {
        read = record { sort = sort.Hypothesis; text = t; steps = h.is_tree.0 };
        text = refl;
        is_entry = (h.is_tree.1, f.2.no_text);
        short = h.short;
        tree = h.tree;
        spelled = h.is_tree;
        entry = inl h.same;
      }

  read_entry : (e : Entry) (t : Text) → LineTree (part_of e) (tree_of e) t → Read e t
  read_entry (binder x) t h =
      record {
        read = record { sort = sort.Binder; text = t; steps = h.is_tree.0 };
        text = refl;
        is_entry = (h.is_tree.1, tt);
        short = h.short;
        tree = h.tree;
        spelled = h.is_tree;
        entry = h.same;
      }
  read_entry (hypothesis x) t h = hypothesis_by x t h (line_or_fault ENTRY (kinds_of t) (inl refl) (kinds t))

  entry_some : (e : Entry) → takes 6 (grammar 1) (Part (part_of e) ∷ []) ≡ true
  entry_some (binder x) = entry_takes
  entry_some (hypothesis x) = hypothesis_takes

  -- The tokens of a line are kept, and those of the lines behind it.
  line_kept : (front : List ℕ) {i r : List ℕ} (c : Cut i (10 ∷ r)) → ((k : ℕ) → is_kept k (line_lexemes start front c) ≡ true)
      → ((k : ℕ) → is_kept k (lexemes_behind start ((front ++ c.front) ++ 10 ∷ []) r) ≡ true) → (k : ℕ) → is_kept k (lexemes_behind start front i) ≡ true
  line_kept front {r = r} c a b k =
      subst (λ ls. is_kept k ls ≡ true) (sym (parted start front c)) (kept_append k (line_lexemes start front c) (lexemes_behind start ((front ++ c.front) ++ 10 ∷ []) r) (a k) b)

  part_kept : (front : List ℕ) {i j : List ℕ} {ss : List Symbol} {vs : List Value} (d : Spelt 1 ss i j vs) (f : ℕ) → begins_otherwise f 98 (grammar 1) ss ≡ true → braces_ok (grammar 1) ss ≡ true
      → (k : ℕ) → is_kept k (line_lexemes start front d.cut) ≡ true
  part_kept front d f h b k = kept_so k (line_lexemes start front d.cut) (kept (grammar 1) goal_braces f h b (line_reads front d) k)

  entry_kept : (front : List ℕ) (e : Entry) {i j : List ℕ} {vs : List Value} (d : Spelt 1 (Part (part_of e) ∷ []) i j vs) → (k : ℕ) → is_kept k (line_lexemes start front d.cut) ≡ true
  entry_kept front (binder x) d = part_kept front d 12 entry_begins refl
  entry_kept front (hypothesis x) d = part_kept front d 12 hypothesis_begins refl

  -- what the part of an entry does to the level of a line
  entry_levels : Entry → List Known
  entry_levels (binder x) = new true ∷ []
  entry_levels (hypothesis x) = low true ∷ []

  entry_effects : (e : Entry) → Effects 0 (Part (part_of e) ∷ []) (new true ∷ []) (entry_levels e)
  unfolding entry_levels
  entry_effects (binder x) = over_part refl nothing
  entry_effects (hypothesis x) = over_part (becomes_here is_low (λ a. low a.bracket) (new true) [] refl) nothing

  -- the lines of a context, and what is behind them
  record Contexts (front : List ℕ) (ls : List ContextLine) (r : List ℕ) : Type 0 where
    lines : List Line
    behind : List ℕ
    parted : lines_before end (lexemes_behind start front (lines_text ls r)) [] ≡ lines ++ lines_before end (lexemes_behind start behind r) []
    read : List ReadLine
    texts_are : map text_of lines ≡ texts read
    entries_are : All IsEntry read
    short : All IsShort read
    trees : List Node
    spelled : AllZip IsLineTreeOf read trees
    are : AllZip IsEntryTree (map (λ (l : ContextLine). l.entry) ls) trees
    whole : Whole (lines_text ls r) r
    kept_lines : ((k : ℕ) → is_kept k (lexemes_behind start behind r) ≡ true) → (k : ℕ) → is_kept k (lexemes_behind start front (lines_text ls r)) ≡ true

  contexts : (front : List ℕ) (ls : List ContextLine) (r : List ℕ) → NoBracket r → Contexts front ls r
  contexts front [] r n = record { lines = []; behind = front; parted = refl; read = []; texts_are = refl; entries_are = λ k d h. absurd (omega arith); short = λ k d h. absurd (omega arith); trees = []; spelled = tt; are = tt; whole = whole_none r; kept_lines = λ h. h }
  contexts front (l ∷ ls) r n =
      let rest = lines_text ls r in
      let d = l.reads rest (lines_first ls r n) in
      let first = part_line start end front d.cut (line_some front d 6 (entry_some l.entry)) in
      let tree = line_tree (part_of l.entry) (tree_of l.entry) (entry_levels l.entry) (entry_effects l.entry) first.line (line_lexemes start front d.cut) first.tokens (line_reads front d) in
      let one = read_entry l.entry (text_of first.line) tree in
      let more = contexts ((front ++ d.cut.front) ++ 10 ∷ []) ls r n in
      record {
        lines = first.line ∷ more.lines;
        behind = more.behind;
        parted = first.parted_lines ∙ ap (λ x. first.line ∷ x) more.parted;
        read = one.read ∷ more.read;
        texts_are = ap₂ (λ t ts. t ∷ ts) (sym one.text) more.texts_are;
        entries_are = All-cons IsEntry one.read more.read one.is_entry more.entries_are;
        short = All-cons IsShort one.read more.read one.short more.short;
        trees = one.tree ∷ more.trees;
        spelled = (one.spelled, more.spelled);
        are = (one.entry, more.are);
        whole = whole_more (whole_line d.cut) more.whole;
        kept_lines = λ h. line_kept front d.cut (entry_kept front l.entry d) (more.kept_lines h);
      }

  -- A line that reads as `---` is no entry.

  ruler_kinds : (ls : List Lexeme) (vs : List Value) → Reads (grammar 1) (Token 99 ∷ Token 99 ∷ Token 99 ∷ []) (bare_lexemes ls) [] vs → map lexeme_kind ls ≡ 99 ∷ 99 ∷ 99 ∷ []
  ruler_kinds ls vs d = sym (bare_kinds ls) ∙ dash_kinds d

  ruler_line : (front : List ℕ) (r : List ℕ) (line : Line) → line.tokens ≡ line_lexemes start front (ruler r).cut → IsRuler (text_of line)
  ruler_line front r line e =
      let ks : map lexeme_kind line.tokens ≡ 99 ∷ 99 ∷ 99 ∷ [] = ap (λ l. map lexeme_kind l) e ∙ ruler_kinds (line_lexemes start front (ruler r).cut) [] (line_reads front (ruler r)) in
      let counts = three_dashes line.tokens ks in (
        counts.0,
        counts.1,
        (
          λ steps d. avoided goal_language 4 (subst (λ (w : List ℕ). Spells goal_language ENTRY w steps) ks d) entry_avoids,
          λ steps d. avoided goal_language 4 (subst (λ (w : List ℕ). Spells goal_language HYPOTHESIS w steps) ks d) hypothesis_avoids,
        ),
      )

  nothing_behind : (front : List ℕ) → lines_before end (lexemes_behind start front []) [] ≡ []
  unfolding pieces_after
  nothing_behind front = refl

  none_behind : (front : List ℕ) → lexemes_behind start front [] ≡ []
  unfolding pieces_after
  none_behind front = refl

  mapped_lines : (xs ys : List Line) → map text_of (xs ++ ys) ≡ map text_of xs ++ map text_of ys
  mapped_lines [] ys = refl
  mapped_lines (x ∷ xs) ys = ap (λ l. text_of x ∷ l) (mapped_lines xs ys)

  -- a goal of these lines and this conclusion
  pub record ReadGoalOf (ls : List ContextLine) (x : Node) (bytes : List ℕ) : Type 0 where
    pub goal : ReadGoal
    pub is_goal : IsGoal (map text_of (lines_before end (lexemes_behind start [] bytes) [])) goal
    pub tree : SequentTree
    pub spelled : AreTreesOf goal tree
    pub entries : AllZip IsEntryTree (map (λ (l : ContextLine). l.entry) ls) tree.context
    pub conclusion : placeless tree.conclusion ≡ x
    pub short : All IsShort (all_lines goal)
    pub whole : Whole bytes []
    pub kept_all : (k : ℕ) → is_kept k (lexemes_behind start [] bytes) ≡ true

  pub read_goal : {w : Writing} (ls : List ContextLine) {x : Node} (s : Shows 1 w x) → ReadGoalOf ls x (lines_text ls (codes "---" ++ (10 ∷ s.text (10 ∷ []))))
  read_goal ls {x} s =
      let last = s.text (10 ∷ []) in
      let rest = codes "---" ++ (10 ∷ last) in
      let context = contexts [] ls rest (no_bracket (dash 45 (45 ∷ 10 ∷ last) refl) refl) in
      let dashes = ruler last in
      let middle = part_line start end context.behind dashes.cut (line_some context.behind dashes 6 refl) in
      let next = (context.behind ++ dashes.cut.front) ++ 10 ∷ [] in
      let d = conclusion_reads s [] in
      let final = part_line start end next d.cut (line_some next d 20 form_takes) in
      let tree = line_tree 120 x (low true ∷ []) (over_part (becomes_here is_low (λ a. low a.bracket) (new true) [] refl) nothing) final.line (line_lexemes start next d.cut) final.tokens (line_reads next d) in
      let lines : lines_before end (lexemes_behind start [] (lines_text ls rest)) [] ≡ context.lines ++ middle.line ∷ final.line ∷ [] =
      context.parted ∙ ap (λ l. context.lines ++ l) (middle.parted_lines ∙ ap (λ l. middle.line ∷ l) (final.parted_lines ∙ ap (λ l. final.line ∷ l) (nothing_behind ((next ++ d.cut.front) ++ 10 ∷ [])))) in
      let conclusion : ReadLine = record { sort = sort.Conclusion; text = text_of final.line; steps = tree.is_tree.0 } in
      record {
        goal = record { context = context.read; conclusion = conclusion };
        is_goal = (
          record {
            ruler = text_of middle.line;
            whole = ap (λ l. map text_of l) lines ∙ mapped_lines context.lines (middle.line ∷ final.line ∷ []) ∙ ap (λ ts. ts ++ text_of middle.line ∷ text_of final.line ∷ []) context.texts_are;
            each = context.entries_are;
            dashes = ruler_line context.behind last middle.line middle.tokens;
          },
          (refl, tree.is_tree.1),
        );
        tree = record { context = context.trees; conclusion = tree.tree };
        spelled = (context.spelled, tree.is_tree);
        entries = context.are;
        conclusion = tree.same;
        short = All-append IsShort context.read (conclusion ∷ []) context.short (All-cons IsShort conclusion [] tree.short (λ k d h. absurd (omega arith)));
        whole = whole_more context.whole (whole_more (whole_line dashes.cut) (whole_line d.cut));
        kept_all = context.kept_lines (line_kept context.behind dashes.cut (part_kept context.behind dashes 0 refl refl)
            (line_kept next d.cut (part_kept next d 20 conclusion_begins refl) (λ k. ap (λ ls. is_kept k ls) (none_behind ((next ++ d.cut.front) ++ 10 ∷ [])))));
      }

-- What is printed of a goal is read as it, without faults.
pub record GoalBack (bytes : List ℕ) (at : Place) (s : Sequent) : Type 0 where
  pub tree : SequentTree
  pub spells : SpellsGoal bytes tree
  pub is_tree : IsTreeOf at s tree
  pub allowed : IsGoalAllowed bytes

pub goal_back : ((t : Text) → All IsKind (kinds_of t)) → (at : Place) (s : Sequent) → IsWrittenGoal at s → GoalBack (print_goals.goal_text at s []) at s
goal_back kinds at s d =
    let context = more_lines (more_lines (more_lines (variables_shown at d.variables) (memories_shown d.memories)) (modules_shown at d.modules)) (hyps_shown at d.hyps) in
    let conclusion = part_form (term_shown 1 d.conclusion) true in
    let bytes = print_goals.goal_text at s [] in
    let shown = lines_text context.lines (codes "---" ++ (10 ∷ conclusion.text (10 ∷ []))) in
    let same : bytes ≡ shown =
    sym (append_nil bytes)
    ∙ (both_written (both_written (both_written context.writes (literal (codes "---\n"))) conclusion.writes) (literal (codes "\n"))).same [] [] in
    let read = read_goal beginning (place_after beginning bytes) kinds context.lines conclusion in
    let is_goal : IsGoal (goal_lines bytes) read.goal = subst (λ b. IsGoal (map text_of (lines_before (place_after beginning bytes) (lexemes_behind beginning [] b) [])) read.goal) (sym same) read.is_goal in
    let are : is_kept 0 (goal_text bytes).lexemes ≡ true = subst (λ b. is_kept 0 (lexemes_behind beginning [] b) ≡ true) (sym same) (read.kept_all 0) in
    record {
      tree = read.tree;
      spells = (read.goal, is_goal, read.spelled);
      is_tree = (subst (λ es. AllZip IsEntryTree es read.tree.context) context.entries read.entries, read.conclusion);
      allowed = record {
        faultless = faultless (subst (λ b. Whole b []) (sym same) read.whole);
        left_out = none_left_out (goal_text bytes) are;
        goal = read.goal;
        within = record { lines = is_goal; short = read.short; numbers = none_overflows (goal_text bytes) are };
      };
    }
