-- Names with dots between them in front of what makes a node: they are put in front of its parts.
use Rattle.std.specs.Prelude.{ℕ, ◌≡◌, true, false, List, [], ◌∷◌, ◌++◌, map}
use Rattle.std.specs.List.{list_all}
use Rattle.std.proofs.Common.{ap, sym, ◌∙◌, subst, append_assoc}
use Rattle.gb_script.specs.declared.table.Symbol.TheVariants.{Token, Part}
use Rattle.gb_lex.specs.Byte.{is_word_byte}
use Rattle.gb_script.specs.declared.head.Head.{Head}
use Rattle.gb_script.specs.declared.tree.Node.{Node}
use Rattle.gb_script.specs.declared.value.Value.TheVariants.{Tree}
use Rattle.gb_print_names.specs.Text.{Text}
use Rattle.gb_print.specs.Nodes as nodes
use Rattle.gb_print.specs.Written.{is_path, is_name_text}
use Rattle.gb_print.proofs.Lexed.{ahead}
use Rattle.gb_print.proofs.Tokens.{both}
use Rattle.gb_print.proofs.Levels.{Spelt, tok, followed}
use Rattle.gb_print.proofs.NameWords.{dotted, some_words, name_reads, dot_before, behind_dots, member_from}

-- The part `a` is a name in front of `b`, which is a dot and a name in front of `c`, which may go on so itself.
pub record Words (stage a b c : ℕ) : Type 0 where
  pub name_then : {i j : Text} (w : Text) (h : Head) (ps : List Node) → Spelt stage (Part 165 ∷ Part b ∷ []) i j (Tree (nodes.word w) ∷ Tree (nodes.tree h ps) ∷ [])
      → Spelt stage (Part a ∷ []) i j (Tree (nodes.tree h (nodes.word w ∷ ps)) ∷ [])
  pub first_dot : {i j : Text} (w : Text) (h : Head) (ps : List Node) → Spelt stage (Token 125 ∷ Part 165 ∷ Part c ∷ []) i j (Tree (nodes.word w) ∷ Tree (nodes.tree h ps) ∷ [])
      → Spelt stage (Part b ∷ []) i j (Tree (nodes.tree h (nodes.word w ∷ ps)) ∷ [])
  pub further_dot : {i j : Text} (w : Text) (h : Head) (ps : List Node) → Spelt stage (Token 125 ∷ Part 165 ∷ Part c ∷ []) i j (Tree (nodes.word w) ∷ Tree (nodes.tree h ps) ∷ [])
      → Spelt stage (Part c ∷ []) i j (Tree (nodes.tree h (nodes.word w ∷ ps)) ∷ [])

module _ {stage a b c : ℕ} (r : Words stage a b c) (h : Head) (ps : List Node) (i : Text) {j : Text} (apart : ahead is_word_byte i ≡ false) where
  -- a dot and a name, in front of what is behind it
  dotted_name : (w : Text) (ws : List Text) → list_all is_name_text (w ∷ ws) ≡ true → Spelt stage (Part c ∷ []) (dotted ws ++ i) j (Tree (nodes.tree h (map nodes.word ws ++ ps)) ∷ [])
      → Spelt stage (Token 125 ∷ Part 165 ∷ Part c ∷ []) (dotted (w ∷ ws) ++ i) j (Tree (nodes.word w) ∷ Tree (nodes.tree h (map nodes.word ws ++ ps)) ∷ [])
  dotted_name w ws k d =
      let facts = both (is_name_text w) (list_all is_name_text ws) k in
      subst (λ l. Spelt stage (Token 125 ∷ Part 165 ∷ Part c ∷ []) (46 ∷ l) j (Tree (nodes.word w) ∷ Tree (nodes.tree h (map nodes.word ws ++ ps)) ∷ [])) (sym (append_assoc w (dotted ws) i))
      (tok (dot_before w (dotted ws ++ i) facts.0) (followed (name_reads w (dotted ws ++ i) facts.0 (behind_dots ws i apart)) d))

  module _ (again : Spelt stage (Part c ∷ []) i j (Tree (nodes.tree h ps) ∷ [])) where
    pub further_words : (ws : List Text) → list_all is_name_text ws ≡ true → Spelt stage (Part c ∷ []) (dotted ws ++ i) j (Tree (nodes.tree h (map nodes.word ws ++ ps)) ∷ [])
    further_words [] k = again
    further_words (w ∷ ws) k = r.further_dot w h (map nodes.word ws ++ ps) (dotted_name w ws k (further_words ws (both (is_name_text w) (list_all is_name_text ws) k).1))

    -- behind a first word
    pub some_words_behind : (w : Text) (ws : List Text) → list_all is_name_text (w ∷ ws) ≡ true → Spelt stage (Part b ∷ []) (dotted (w ∷ ws) ++ i) j (Tree (nodes.tree h (map nodes.word (w ∷ ws) ++ ps)) ∷ [])
    some_words_behind w ws k = r.first_dot w h (map nodes.word ws ++ ps) (dotted_name w ws k (further_words ws (both (is_name_text w) (list_all is_name_text ws) k).1))

    -- words and a last one behind a first word
    pub member_behind : (ws : List Text) (x : Text) → list_all is_name_text (ws ++ x ∷ []) ≡ true → Spelt stage (Part b ∷ []) (dotted (ws ++ x ∷ []) ++ i) j (Tree (nodes.tree h (map nodes.word (ws ++ x ∷ []) ++ ps)) ∷ [])
    member_behind [] x k = some_words_behind x [] k
    member_behind (v ∷ ws) x k = some_words_behind v (ws ++ x ∷ []) k

    -- a path and a name in front
    pub member_in_front : (m x : Text) → is_path m ≡ true → is_name_text x ≡ true → Spelt stage (Part a ∷ []) (m ++ (46 ∷ (x ++ i))) j (Tree (nodes.tree h ((nodes.word_nodes m ++ nodes.word x ∷ []) ++ ps)) ∷ [])
    member_in_front m x e k =
        member_from a (λ l. nodes.tree h (l ++ ps)) m x i j e k
        (λ w ws all.
        let facts = both (is_name_text w) (list_all is_name_text (ws ++ x ∷ [])) all in
        r.name_then w h (map nodes.word (ws ++ x ∷ []) ++ ps) (followed (name_reads w (dotted (ws ++ x ∷ []) ++ i) facts.0 (behind_dots (ws ++ x ∷ []) i apart)) (member_behind ws x facts.1)))

    module _ (once : Spelt stage (Part b ∷ []) i j (Tree (nodes.tree h ps) ∷ [])) where
      pub words_behind : (ws : List Text) → list_all is_name_text ws ≡ true → Spelt stage (Part b ∷ []) (dotted ws ++ i) j (Tree (nodes.tree h (map nodes.word ws ++ ps)) ∷ [])
      words_behind [] k = once
      words_behind (w ∷ ws) k = some_words_behind w ws k

      words_in_front : (w : Text) (ws : List Text) → list_all is_name_text (w ∷ ws) ≡ true → Spelt stage (Part a ∷ []) (w ++ (dotted ws ++ i)) j (Tree (nodes.tree h (map nodes.word (w ∷ ws) ++ ps)) ∷ [])
      words_in_front w ws k =
          let facts = both (is_name_text w) (list_all is_name_text ws) k in
          r.name_then w h (map nodes.word ws ++ ps) (followed (name_reads w (dotted ws ++ i) facts.0 (behind_dots ws i apart)) (words_behind ws facts.1))

      -- a path in front
      pub path_in_front : (m : Text) → is_path m ≡ true → Spelt stage (Part a ∷ []) (m ++ i) j (Tree (nodes.tree h (nodes.word_nodes m ++ ps)) ∷ [])
      path_in_front m e =
          let s = some_words m in
          let all : list_all is_name_text (s.first ∷ s.more) ≡ true = sym (ap (λ l. list_all is_name_text l) s.are) ∙ e in
          subst (λ l. Spelt stage (Part a ∷ []) (l ++ i) j (Tree (nodes.tree h (nodes.word_nodes m ++ ps)) ∷ [])) s.whole
          (subst (λ l. Spelt stage (Part a ∷ []) l j (Tree (nodes.tree h (nodes.word_nodes m ++ ps)) ∷ [])) (sym (append_assoc s.first (dotted s.more) i))
          (subst (λ l. Spelt stage (Part a ∷ []) (s.first ++ (dotted s.more ++ i)) j (Tree (nodes.tree h (map nodes.word l ++ ps)) ∷ [])) (sym s.are) (words_in_front s.first s.more all)))
