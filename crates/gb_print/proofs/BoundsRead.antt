-- What module binders read as: a module type, a restriction and bounds on calls.
use Rattle.std.specs.Prelude.{ℕ, ◌≡◌, true, false, List, [], ◌∷◌, ◌++◌, map, codes}
use Rattle.std.specs.List.{list_all}
use Rattle.std.specs.Fmt.{decimal}
use Rattle.std.proofs.Common.{refl, ap, sym, subst, append_assoc}
use Rattle.gb_script.specs.declared.table.Symbol.TheVariants.{Token, Part}
use Rattle.gb_lex.specs.Byte.{is_word_byte}
use Rattle.gb_script.specs.declared.head.Head.TheVariants as head
use Rattle.gb_script.specs.declared.tree.Node.{Node}
use Rattle.gb_script.specs.declared.value.Value.TheVariants.{Tree, Trees}
use Rattle.gb_script.proofs.Stacks.{append_nil}
use Rattle.gb_print_names.specs.Text.{Text}
use Rattle.gb_print.specs.Nodes as nodes
use Rattle.gb_print.specs.Types as type_tree
use Rattle.gb_print.specs.Written.{is_path, is_name_text, in_range}
use Rattle.gb_print.proofs.Lexed.{ahead}
use Rattle.gb_print.proofs.Tokens.{Next, both, spaced}
use Rattle.gb_print.proofs.Symbols.{open_brace, close_brace, open_square, close_square, minus, comma_word, colon_word, plus_word, at_most_word, below_word}
use Rattle.gb_print.proofs.Levels.{Before, Spelt, end, tok, row, followed}
use Rattle.gb_print.proofs.NameWords.{dotted, name_reads, path_reads, path_start, start_begins, decimal_reads, member_from, more_words, dot_before, behind_dots}
use Rattle.gb_print.proofs.Productions as p

-- Excluded modules.

-- names of modules, each behind `-`
abbrev pub more_excluded : List Text → Before
more_excluded [] mid = mid
more_excluded (m ∷ ms) mid = codes ", -" ++ (m ++ more_excluded ms mid)

abbrev pub excluded_text : List Text → Before
excluded_text [] mid = mid
excluded_text (m ∷ ms) mid = codes " {-" ++ (m ++ more_excluded ms (125 ∷ mid))

minus_path : (m mid : Text) → is_path m ≡ true → Next (45 ∷ (m ++ mid)) 99 (codes "-") (m ++ mid)
minus_path m mid h =
    let s = path_start m h in
    subst (λ l. Next (45 ∷ (l ++ mid)) 99 (codes "-") (l ++ mid)) (sym s.2) (minus s.0 (s.1 ++ mid) (start_begins s.0 s.3))

excluded_ahead : (ms : List Text) (mid : Text) → ahead is_word_byte (more_excluded ms (125 ∷ mid)) ≡ false
excluded_ahead [] mid = refl
excluded_ahead (m ∷ ms) mid = refl

-- Bounds on calls.

pub record LimitPart : Type 0 where
  pub first : Text
  pub others : List Text
  pub names : list_all is_name_text (first ∷ others) ≡ true
  pub path : Text
  pub is_path_there : is_path path ≡ true
  pub name : Text
  pub is_name_there : is_name_text name ≡ true
  pub most : ℕ
  pub range : in_range most ≡ true

abbrev pub more_names : List Text → Before
more_names [] mid = mid
more_names (x ∷ xs) mid = codes " + " ++ (x ++ more_names xs mid)

abbrev pub oracle_text : LimitPart → Before
oracle_text l mid = l.path ++ (46 ∷ (l.name ++ (codes " <= " ++ (decimal l.most ++ mid))))

abbrev pub limit_text : LimitPart → Before
limit_text l mid = l.first ++ more_names l.others (codes " : {" ++ oracle_text l (125 ∷ mid))

abbrev pub oracle_node : LimitPart → Node
oracle_node l = nodes.tree head.Limit (type_tree.limit_parts (nodes.word_nodes l.path ++ nodes.word l.name ∷ []) ++ nodes.number l.most ∷ [])

abbrev pub limit_node : LimitPart → Node
limit_node l = nodes.tree head.QueryBound (nodes.list (map nodes.word (l.first ∷ l.others)) ∷ nodes.list (oracle_node l ∷ []) ∷ [])

abbrev pub limit_nodes : List LimitPart → List Node
limit_nodes ls = map limit_node ls

abbrev pub more_limits : List LimitPart → Before
more_limits [] mid = mid
more_limits (l ∷ ls) mid = codes ", " ++ limit_text l (more_limits ls mid)

abbrev pub limits_text : List LimitPart → Before
limits_text [] mid = mid
limits_text (l ∷ ls) mid = codes " [" ++ limit_text l (more_limits ls (93 ∷ mid))

names_ahead : (xs : List Text) (mid : Text) → ahead is_word_byte (more_names xs (codes " : {" ++ mid)) ≡ false
names_ahead [] mid = refl
names_ahead (x ∷ xs) mid = refl

-- a text that ends a name
limits_ahead : (ls : List LimitPart) (mid : Text) → ahead is_word_byte mid ≡ false → ahead is_word_byte (limits_text ls mid) ≡ false
limits_ahead [] mid h = h
limits_ahead (l ∷ ls) mid h = refl

restriction_ahead : (ms : List Text) (ls : List LimitPart) (mid : Text) → ahead is_word_byte mid ≡ false → ahead is_word_byte (excluded_text ms (limits_text ls mid)) ≡ false
restriction_ahead [] ls mid h = limits_ahead ls mid h
restriction_ahead (m ∷ ms) ls mid h = refl

module _ {stage : ℕ} where
  excluded_reads : (m mid : Text) → is_path m ≡ true → ahead is_word_byte mid ≡ false → Spelt stage (Part 101 ∷ []) (45 ∷ (m ++ mid)) mid (Tree (nodes.path m) ∷ [])
  excluded_reads m mid h f = row p.excluded_minus (p.is_excluded_minus stage) refl refl refl (tok (minus_path m mid h) (followed (path_reads m mid h f) end)) end

  more_excluded_read : (ms : List Text) (mid : Text) → list_all is_path ms ≡ true → Spelt stage (Part 100 ∷ []) (more_excluded ms (125 ∷ mid)) (125 ∷ mid) (Trees (map nodes.path ms) ∷ [])
  more_excluded_read [] mid h = row p.more_excluded_none (p.is_more_excluded_none stage) refl refl refl end end
  more_excluded_read (m ∷ ms) mid h =
      let parts = both (is_path m) (list_all is_path ms) h in
      let rest = more_excluded ms (125 ∷ mid) in
      row p.more_excluded_comma (p.is_more_excluded_comma stage) refl refl (ap (λ l. Trees (nodes.path m ∷ l) ∷ []) (append_nil (map nodes.path ms)))
      (tok (comma_word (45 ∷ (m ++ rest))) (followed (excluded_reads m rest parts.0 (excluded_ahead ms mid)) (more_excluded_read ms mid parts.1))) end

  restriction_reads : (ms : List Text) (mid : Text) → list_all is_path ms ≡ true → Spelt stage (Part 99 ∷ []) (excluded_text ms mid) mid (Trees (map nodes.path ms) ∷ [])
  restriction_reads [] mid h = row p.restriction_none (p.is_restriction_none stage) refl refl refl end end
  restriction_reads (m ∷ ms) mid h =
      let parts = both (is_path m) (list_all is_path ms) h in
      let rest = more_excluded ms (125 ∷ mid) in
      row p.restriction_open_brace (p.is_restriction_open_brace stage) refl refl (ap (λ l. Trees (nodes.path m ∷ l) ∷ []) (append_nil (map nodes.path ms)))
      (tok (spaced (open_brace (45 ∷ (m ++ rest)))) (followed (excluded_reads m rest parts.0 (excluded_ahead ms mid)) (followed (more_excluded_read ms mid parts.1) (tok (close_brace mid) end)))) end

  more_names_read : (xs : List Text) (mid : Text) → list_all is_name_text xs ≡ true → Spelt stage (Part 106 ∷ []) (more_names xs (codes " : {" ++ mid)) (codes " : {" ++ mid) (Trees (map nodes.word xs) ∷ [])
  more_names_read [] mid h = row p.more_members_none (p.is_more_members_none stage) refl refl refl end end
  more_names_read (x ∷ xs) mid h =
      let parts = both (is_name_text x) (list_all is_name_text xs) h in
      let rest = more_names xs (codes " : {" ++ mid) in
      row p.more_members_plus (p.is_more_members_plus stage) refl refl (ap (λ l. Trees (nodes.word x ∷ l) ∷ []) (append_nil (map nodes.word xs)))
      (tok (plus_word (x ++ rest)) (followed (name_reads x rest parts.0 (names_ahead xs mid)) (more_names_read xs mid parts.1))) end

  oracle_from : (w v : Text) (ws : List Text) (n : ℕ) (mid : Text) → list_all is_name_text (w ∷ v ∷ ws) ≡ true → in_range n ≡ true
      → Spelt stage (Part 109 ∷ []) (w ++ (dotted (v ∷ ws) ++ (codes " <= " ++ (decimal n ++ (125 ∷ mid))))) (125 ∷ mid)
      (Tree (nodes.tree head.Limit (nodes.word w ∷ nodes.word v ∷ nodes.list (map nodes.word ws) ∷ nodes.number n ∷ [])) ∷ [])
  oracle_from w v ws n mid h r =
      let one = both (is_name_text w) (list_all is_name_text (v ∷ ws)) h in
      let two = both (is_name_text v) (list_all is_name_text ws) one.1 in
      let last = decimal n ++ (125 ∷ mid) in
      let rest = codes " <= " ++ last in
      row p.limit_name (p.is_limit_name stage) refl refl refl
      (followed (name_reads w (dotted (v ∷ ws) ++ rest) one.0 refl)
      (subst (λ l. Spelt stage (Token 125 ∷ Part 165 ∷ Part 161 ∷ Token 105 ∷ Part 164 ∷ []) (46 ∷ l) (125 ∷ mid) (Tree (nodes.word v) ∷ Trees (map nodes.word ws) ∷ Tree (nodes.number n) ∷ [])) (sym (append_assoc v (dotted ws) rest))
      (tok (dot_before v (dotted ws ++ rest) two.0) (followed (name_reads v (dotted ws ++ rest) two.0 (behind_dots ws rest refl))
      (followed (more_words ws rest two.1 refl) (tok (at_most_word last) (followed (decimal_reads n (125 ∷ mid) r refl) end))))))) end

  -- the words of an oracle, and its bound
  oracle_words : (w : Text) (ws : List Text) (x : Text) (n : ℕ) (mid : Text) → list_all is_name_text (w ∷ (ws ++ x ∷ [])) ≡ true → in_range n ≡ true
      → Spelt stage (Part 109 ∷ []) (w ++ (dotted (ws ++ x ∷ []) ++ (codes " <= " ++ (decimal n ++ (125 ∷ mid))))) (125 ∷ mid)
      (Tree (nodes.tree head.Limit (type_tree.limit_parts (map nodes.word (w ∷ (ws ++ x ∷ []))) ++ nodes.number n ∷ [])) ∷ [])
  oracle_words w [] x n mid h r = oracle_from w x [] n mid h r
  oracle_words w (v ∷ ws) x n mid h r = oracle_from w v (ws ++ x ∷ []) n mid h r

  oracle_reads : (l : LimitPart) (mid : Text) → Spelt stage (Part 109 ∷ []) (oracle_text l (125 ∷ mid)) (125 ∷ mid) (Tree (oracle_node l) ∷ [])
  oracle_reads l mid =
      member_from 109 (λ ws. nodes.tree head.Limit (type_tree.limit_parts ws ++ nodes.number l.most ∷ [])) l.path l.name (codes " <= " ++ (decimal l.most ++ (125 ∷ mid))) (125 ∷ mid) l.is_path_there l.is_name_there
      (λ w ws all. oracle_words w ws l.name l.most mid all l.range)

  limit_reads : (l : LimitPart) (mid : Text) → Spelt stage (Part 104 ∷ []) (limit_text l mid) mid (Tree (limit_node l) ∷ [])
  limit_reads l mid =
      let parts = both (is_name_text l.first) (list_all is_name_text l.others) l.names in
      let oracle = oracle_text l (125 ∷ mid) in
      let rest = more_names l.others (codes " : {" ++ oracle) in
      row p.bound_members (p.is_bound_members stage) refl refl refl
      (followed (row p.members_name (p.is_members_name stage) refl refl (ap (λ ws. Trees (nodes.word l.first ∷ ws) ∷ []) (append_nil (map nodes.word l.others)))
      (followed (name_reads l.first rest parts.0 (names_ahead l.others oracle)) (more_names_read l.others oracle parts.1)) end)
      (tok (colon_word (123 ∷ oracle)) (tok (open_brace oracle)
      (followed (row p.limits_limit (p.is_limits_limit stage) refl refl refl (followed (oracle_reads l mid) (row p.more_limits_none (p.is_more_limits_none stage) refl refl refl end end)) end)
      (tok (close_brace mid) end))))) end

  more_limits_read : (ls : List LimitPart) (mid : Text) → Spelt stage (Part 103 ∷ []) (more_limits ls (93 ∷ mid)) (93 ∷ mid) (Trees (limit_nodes ls) ∷ [])
  more_limits_read [] mid = row p.more_bounds_none (p.is_more_bounds_none stage) refl refl refl end end
  more_limits_read (l ∷ ls) mid =
      row p.more_bounds_comma (p.is_more_bounds_comma stage) refl refl (ap (λ k. Trees (limit_node l ∷ k) ∷ []) (append_nil (limit_nodes ls)))
      (tok (comma_word (limit_text l (more_limits ls (93 ∷ mid)))) (followed (limit_reads l (more_limits ls (93 ∷ mid))) (more_limits_read ls mid))) end

  limits_read : (ls : List LimitPart) (mid : Text) → Spelt stage (Part 102 ∷ []) (limits_text ls mid) mid (Trees (limit_nodes ls) ∷ [])
  limits_read [] mid = row p.bounds_none (p.is_bounds_none stage) refl refl refl end end
  limits_read (l ∷ ls) mid =
      let rest = more_limits ls (93 ∷ mid) in
      row p.bounds_open_square (p.is_bounds_open_square stage) refl refl (ap (λ k. Trees (limit_node l ∷ k) ∷ []) (append_nil (limit_nodes ls)))
      (tok (spaced (open_square (limit_text l rest))) (followed (limit_reads l rest) (followed (more_limits_read ls mid) (tok (close_square mid) end)))) end

  -- what stands behind the name of a module
  pub module_reads : (t : Text) (ms : List Text) (ls : List LimitPart) (mid : Text) → is_path t ≡ true → list_all is_path ms ≡ true → ahead is_word_byte mid ≡ false
      → Spelt stage (Part 97 ∷ []) (codes " <: " ++ (t ++ excluded_text ms (limits_text ls mid))) mid (Tree (nodes.tree head.ModuleBind (nodes.path t ∷ nodes.list (map nodes.path ms) ∷ nodes.list (limit_nodes ls) ∷ [])) ∷ [])
  module_reads t ms ls mid h k f =
      let rest = excluded_text ms (limits_text ls mid) in
      row p.module_bound_below (p.is_module_bound_below stage) refl refl refl
      (tok (below_word (t ++ rest)) (followed (path_reads t rest h (restriction_ahead ms ls mid f)) (followed (restriction_reads ms (limits_text ls mid) k) (limits_read ls mid)))) end
