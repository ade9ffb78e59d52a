-- What is printed of literals and of weights reads as their trees.
use Rattle.std.specs.Prelude.{ℕ, ◌≡◌, ◌==◌, Bool, true, false, if◌then◌else◌, List, [], ◌∷◌, ◌++◌, map, codes, Option, Some, None}
use Rattle.std.specs.List.{slice_get, list_all}
use Rattle.std.specs.Char.{is_ascii_digit}
use Rattle.std.specs.Fmt.{decimal}
use Rattle.std.proofs.Common.{refl, ap, ap₂, sym, ◌∙◌, subst}
use Rattle.std.proofs.lemmas.Bool.{false≢true}
use Rattle.gb_core.specs.declared.ty.Ty.{Ty, out-Ty}
use Rattle.gb_core.specs.declared.ty.Ty.TheOpen as ty_layer
use Rattle.gb_core.specs.declared.value.Value.{Value, out-Value, roll-Value, roll-out-Value, fold-Value}
use Rattle.gb_core.specs.declared.value.Value.TheOpen as value_layer
use Rattle.gb_core.specs.declared.value.Value.TheFolds.{fold-roll-Value}
use Rattle.gb_terms.specs.declared.term.Pair.{Pair}
use Rattle.gb_script.specs.declared.table.Symbol.TheVariants.{Part}
use Rattle.gb_limits.specs.LeftOut.{is_word_of}
use Rattle.gb_limits.specs.Lexeme.{spells}
use Rattle.gb_script.specs.declared.head.Head.TheVariants as head
use Rattle.gb_script.specs.declared.tree.Node.{Node}
use Rattle.gb_script.specs.declared.value.Value.TheVariants.{Tree, Trees}
use Rattle.gb_script.proofs.Stacks.{append_nil}
use Rattle.gb_print_names.specs.declared.bound_names.Enumeration.{Enumeration}
use Rattle.gb_print_names.specs.BoundNames.{Name}
use Rattle.gb_print_names.specs.Text.{Text, Writing, ◌▸◌, each, word, number, separated}
use Rattle.gb_print_names.specs.Names as print
use Rattle.gb_print.specs.Layout as print_layout
use Rattle.gb_print.specs.Nodes as nodes
use Rattle.gb_print.specs.Heads as tree
use Rattle.gb_print.specs.Written.{in_range, is_name_text, is_name_there, IsWrittenValue, AreWrittenValues, numeral, parts, no_value, more_value, IsWrittenLiteral, is_word_here, has_word, is_weight_here, are_weights_here}
use Rattle.gb_print.proofs.Lexed.{ahead}
use Rattle.gb_print.proofs.Tokens.{both}
use Rattle.gb_print.proofs.Symbols.{open_square, close_square, colon_word, semicolon_word, weights_word}
use Rattle.gb_print.proofs.Levels.{Before, Spelt, end, tok, row, followed}
use Rattle.gb_print.proofs.Attaching.{plain_node}
use Rattle.gb_print.proofs.Operands.{IsOperand, of_atom}
use Rattle.gb_print.proofs.NameWords.{decimal_reads, name_reads}
use Rattle.gb_print.proofs.Atoms.{FormPart, more_forms, form_trees, tuple}
use Rattle.gb_print.proofs.Pieces.{Writes, literal, both_written, empty_written, ends_literal, Shows, ShowsOperand, operand_as_form}
use Rattle.gb_print.proofs.LeavesShown.{path_of_name, number_shown, numeral_shown}
use Rattle.gb_print.proofs.Shown.{operand_same}
use Rattle.gb_print.proofs.Productions as p

-- Values.

text_layer : (v : Value) (l : value_layer.Value-F Value) → out-Value v ≡ l → print_layout.value_text v ≡ print_layout.value_text (roll-Value l)
text_layer v l e = ap print_layout.value_text (sym (roll-out-Value v) ∙ ap roll-Value e)

number_text : (v : Value) (n : ℕ) → out-Value v ≡ value_layer.Num n → print_layout.value_text v ≡ number n
number_text v n e = text_layer v (value_layer.Num n) e ∙ fold-roll-Value Writing print_layout.at_value (value_layer.Num n)

parts_text : (v : Value) (vs : List Value) → out-Value v ≡ value_layer.Many vs → print_layout.value_text v ≡ (word (codes "(") ▸ separated (codes ", ") (λ w. w) (map print_layout.value_text vs) ▸ word (codes ")"))
parts_text v vs e = text_layer v (value_layer.Many vs) e ∙ fold-roll-Value Writing print_layout.at_value (value_layer.Many vs)

abbrev value_tree : Value → Node
value_tree = fold-Value Node tree.at_value

number_tree : (v : Value) (n : ℕ) → out-Value v ≡ value_layer.Num n → value_tree v ≡ nodes.number n
number_tree v n e = ap value_tree (sym (roll-out-Value v) ∙ ap roll-Value e) ∙ fold-roll-Value Node tree.at_value (value_layer.Num n)

parts_tree : (v : Value) (vs : List Value) → out-Value v ≡ value_layer.Many vs → value_tree v ≡ nodes.tree head.Tuple (map value_tree vs)
parts_tree v vs e = ap value_tree (sym (roll-out-Value v) ∙ ap roll-Value e) ∙ fold-roll-Value Node tree.at_value (value_layer.Many vs)

abbrev part_of : {stage : ℕ} {w : Writing} {x : Node} → Shows stage w x → FormPart stage
part_of {x = x} s = record { text = s.text; bar = s.bar; tree = x; form = s.form }

-- further parts, each behind a comma
record ShowsParts (stage : ℕ) (vs : List Value) : Type 0 where
  values : List (FormPart stage)
  writes : Writes (each (λ w. word (codes ", ") ▸ w) (map print_layout.value_text vs)) (more_forms values)
  trees : map value_tree vs ≡ form_trees values

module _ {stage : ℕ} where
  mutual
    value_shown : {v : Value} → IsWrittenValue v → ShowsOperand stage (print_layout.value_text v) (value_tree v)
    value_shown {v = v} (numeral {n = n} e h) =
        subst (λ t. ShowsOperand stage (print_layout.value_text v) t) (sym (number_tree v n e)) (operand_same (λ before. ap (λ w. w before) (number_text v n e)) (number_shown n h))
    value_shown {v = v} (parts {a = a} {b = b} {vs = vs} e (more_value c (more_value d ds))) =
        let x = operand_as_form (value_shown c) in
        let y = operand_as_form (value_shown d) in
        let zs = values_shown ds in
        let front = λ (before : Text). separated (codes ", ") (λ w. w) (map print_layout.value_text (a ∷ b ∷ vs)) (before ++ codes "(") in
        subst (λ t. ShowsOperand stage (print_layout.value_text v) t) (sym (parts_tree v (a ∷ b ∷ vs) e))
        (operand_same (λ before. ap (λ w. w before) (parts_text v (a ∷ b ∷ vs) e))
        (record {
          text = λ mid. 40 ∷ x.text (more_forms (part_of y ∷ zs.values) (41 ∷ mid));
          bar = false;
          writes = both_written (both_written (literal (codes "(")) (both_written x.writes (both_written (both_written (literal (codes ", ")) y.writes) zs.writes))) (literal (codes ")"));
          ends = λ before. ends_literal (codes ")") refl refl (front before);
          operand = subst (λ ts. IsOperand stage (λ mid. 40 ∷ x.text (more_forms (part_of y ∷ zs.values) (41 ∷ mid))) false (nodes.tree head.Tuple (value_tree a ∷ value_tree b ∷ ts))) (sym zs.trees) (tuple x.form (part_of y) zs.values);
        }))

    values_shown : {vs : List Value} → AreWrittenValues vs → ShowsParts stage vs
    values_shown no_value = record { values = []; writes = empty_written; trees = refl }
    values_shown (more_value {v = v} d ds) =
        let x = operand_as_form (value_shown d) in
        let xs = values_shown ds in
        record {
          values = part_of x ∷ xs.values;
          writes = both_written (both_written (literal (codes ", ")) x.writes) xs.writes;
          trees = ap (λ l. value_tree v ∷ l) xs.trees;
        }

  pub literal_shown : (es : List Enumeration) (t : Ty) (v : Value) (l : value_layer.Value-F Value) → IsWrittenLiteral es t v l
      → ShowsOperand stage (print_layout.literal_layer es t v l) (tree.literal_layer es t v l)
  literal_shown es t v (value_layer.Num n) h = numeral_shown es (out-Ty t) n h
  literal_shown es t v (value_layer.Many vs) h = value_shown h

-- Weights.

record WeightPart : Type 0 where
  name : Text
  is_name : is_name_text name ≡ true
  weight : ℕ
  range : in_range weight ≡ true

abbrev weight_text : WeightPart → Before
weight_text w mid = w.name ++ (codes " : " ++ (decimal w.weight ++ mid))

abbrev weight_tree : WeightPart → Node
weight_tree w = nodes.tree head.Weight (nodes.word w.name ∷ nodes.number w.weight ∷ [])

abbrev weight_trees : List WeightPart → List Node
weight_trees ws = map weight_tree ws

abbrev more_weights : List WeightPart → Before
more_weights [] mid = mid
more_weights (w ∷ ws) mid = codes "; " ++ weight_text w (more_weights ws mid)

-- the word of a value
record Worded (w : Writing) (x : Node) : Type 0 where
  name : Text
  is_name : is_name_text name ≡ true
  written : w ≡ word name
  node_is : x ≡ nodes.word name

truth_worded : (b : Bool) → Worded (word (if b then codes "false" else codes "true")) (nodes.word (if b then codes "false" else codes "true"))
unfolding spells is_word_of
truth_worded true = record { name = codes "false"; is_name = refl; written = refl; node_is = refl }
truth_worded false = record { name = codes "true"; is_name = refl; written = refl; node_is = refl }

constant_worded : (o : Option Name) → is_name_there o ≡ true → Worded (print.perhaps o) (tree.perhaps o)
constant_worded (Some x) h = record { name = x; is_name = h; written = refl; node_is = path_of_name x h }
constant_worded None h = absurd cc

numeral_worded : (es : List Enumeration) (k : ty_layer.Ty-F Ty) (n : ℕ) → is_word_here es k n ≡ true → Worded (print_layout.numeral_layer es k n) (tree.numeral_layer es k n)
unfolding spells is_word_of
numeral_worded es ty_layer.Unit n h = record { name = codes "tt"; is_name = refl; written = refl; node_is = refl }
numeral_worded es ty_layer.Bool n h = truth_worded (n == 0)
numeral_worded es (ty_layer.Enumeration x size) n h = constant_worded (slice_get (print.constants es x) n) h
numeral_worded es _ n h = absurd (false≢true h)

value_worded : (es : List Enumeration) (t : Ty) (v : Value) (l : value_layer.Value-F Value) → has_word es t l ≡ true → Worded (print_layout.literal_layer es t v l) (tree.literal_layer es t v l)
value_worded es t v (value_layer.Num n) h = numeral_worded es (out-Ty t) n h
value_worded es t v (value_layer.Many vs) h = absurd cc

record ShowsWeight (es : List Enumeration) (t : Ty) (q : Pair) : Type 0 where
  part : WeightPart
  writes : Writes (print_layout.weighted es t q) (weight_text part)
  tree_is : tree.weight es t q ≡ weight_tree part

weight_shown : (es : List Enumeration) (t : Ty) (q : Pair) → is_weight_here es t q ≡ true → ShowsWeight es t q
weight_shown es t q h =
    let facts = both (has_word es t (out-Value q.value)) (in_range q.weight) h in
    let w = value_worded es t q.value (out-Value q.value) facts.0 in
    record {
      part = record { name = w.name; is_name = w.is_name; weight = q.weight; range = facts.1 };
      writes = subst (λ u. Writes (u ▸ word (codes " : ") ▸ number q.weight) (λ mid. w.name ++ (codes " : " ++ (decimal q.weight ++ mid)))) (sym w.written)
          (both_written (both_written (literal w.name) (literal (codes " : "))) (literal (decimal q.weight)));
      tree_is = ap (λ x. nodes.tree head.Weight (x ∷ nodes.number q.weight ∷ [])) w.node_is;
    }

record ShowsWeights (es : List Enumeration) (t : Ty) (qs : List Pair) : Type 0 where
  weights : List WeightPart
  writes : Writes (each (λ q. word (codes "; ") ▸ print_layout.weighted es t q) qs) (more_weights weights)
  trees : map (tree.weight es t) qs ≡ weight_trees weights

more_weights_shown : (es : List Enumeration) (t : Ty) (qs : List Pair) → list_all (is_weight_here es t) qs ≡ true → ShowsWeights es t qs
more_weights_shown es t [] h = record { weights = []; writes = empty_written; trees = refl }
more_weights_shown es t (q ∷ qs) h =
    let facts = both (is_weight_here es t q) (list_all (is_weight_here es t) qs) h in
    let w = weight_shown es t q facts.0 in
    let ws = more_weights_shown es t qs facts.1 in
    record {
      weights = w.part ∷ ws.weights;
      writes = both_written (both_written (literal (codes "; ")) w.writes) ws.writes;
      trees = ap₂ (λ x xs. x ∷ xs) w.tree_is ws.trees;
    }

weights_ahead : (ws : List WeightPart) (mid : Text) → ahead is_ascii_digit (more_weights ws (93 ∷ mid)) ≡ false
weights_ahead [] mid = refl
weights_ahead (w ∷ ws) mid = refl

module _ {stage : ℕ} where
  weight_reads : (w : WeightPart) (mid : Text) → ahead is_ascii_digit mid ≡ false → Spelt stage (Part 156 ∷ []) (weight_text w mid) mid (Tree (weight_tree w) ∷ [])
  weight_reads w mid f =
      let rest = decimal w.weight ++ mid in
      row p.weight_name (p.is_weight_name stage) refl refl refl
      (followed (name_reads w.name (codes " : " ++ rest) w.is_name refl) (tok (colon_word rest) (followed (decimal_reads w.weight mid w.range f) end))) end

  more_weights_read : (ws : List WeightPart) (mid : Text) → Spelt stage (Part 155 ∷ []) (more_weights ws (93 ∷ mid)) (93 ∷ mid) (Trees (weight_trees ws) ∷ [])
  more_weights_read [] mid = row p.more_weights_none (p.is_more_weights_none stage) refl refl refl end end
  more_weights_read (w ∷ ws) mid =
      let rest = more_weights ws (93 ∷ mid) in
      row p.more_weights_semicolon (p.is_more_weights_semicolon stage) refl refl (ap (λ l. Trees (weight_tree w ∷ l) ∷ []) (append_nil (weight_trees ws)))
      (tok (semicolon_word (weight_text w rest)) (followed (weight_reads w rest (weights_ahead ws mid)) (more_weights_read ws mid))) end

  weights_operand : (w : WeightPart) (ws : List WeightPart) → IsOperand stage (λ mid. codes "weights [" ++ weight_text w (more_weights ws (93 ∷ mid))) false (nodes.tree head.Weights (weight_tree w ∷ weight_trees ws))
  weights_operand w ws =
      of_atom (λ mid. record { byte = 119; more = codes "eights [" ++ weight_text w (more_weights ws (93 ∷ mid)); is = refl; begins = refl }) (plain_node head.Weights [] (weight_tree w ∷ weight_trees ws) refl refl)
      (λ mid f.
      let rest = more_weights ws (93 ∷ mid) in
      row p.atom_weights (p.is_atom_weights stage) refl refl (ap (λ l. Tree (nodes.tree head.Weights (weight_tree w ∷ l)) ∷ []) (append_nil (weight_trees ws)))
      (tok (weights_word (91 ∷ weight_text w rest)) (tok (open_square (weight_text w rest)) (followed (weight_reads w rest (weights_ahead ws mid)) (followed (more_weights_read ws mid) (tok (close_square mid) end))))) end)

  pub weights_shown : (es : List Enumeration) (t : Ty) (qs : List Pair) → are_weights_here es t qs ≡ true
      → ShowsOperand stage (word (codes "weights [") ▸ separated (codes "; ") (print_layout.weighted es t) qs ▸ word (codes "]")) (nodes.tree head.Weights (map (tree.weight es t) qs))
  weights_shown es t [] h = absurd cc
  weights_shown es t (q ∷ qs) h =
      let facts = both (is_weight_here es t q) (list_all (is_weight_here es t) qs) h in
      let w = weight_shown es t q facts.0 in
      let ws = more_weights_shown es t qs facts.1 in
      subst (λ ts. ShowsOperand stage (word (codes "weights [") ▸ separated (codes "; ") (print_layout.weighted es t) (q ∷ qs) ▸ word (codes "]")) (nodes.tree head.Weights ts)) (sym (ap₂ (λ x xs. x ∷ xs) w.tree_is ws.trees))
      (record {
        text = λ mid. codes "weights [" ++ weight_text w.part (more_weights ws.weights (93 ∷ mid));
        bar = false;
        writes = both_written (both_written (literal (codes "weights [")) (both_written w.writes ws.writes)) (literal (codes "]"));
        ends = λ before. ends_literal (codes "]") refl refl (separated (codes "; ") (print_layout.weighted es t) (q ∷ qs) (before ++ codes "weights ["));
        operand = weights_operand w.part ws.weights;
      })
