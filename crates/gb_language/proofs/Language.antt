-- The languages pass the test of grammars.
use Rattle.std.specs.Prelude.{◌≡◌, ℕ, List, [], ◌∷◌, true}
use Rattle.std.specs.List.{All}
use Rattle.std.proofs.Common.{refl, ap, sym, subst, inl, inr, ◌∙◌}
use Rattle.gb_script.specs.declared.table.Row.{Row}
use Rattle.gb_script.specs.declared.table.Step.{Step}
use Rattle.gb_script.specs.declared.table.Symbol.{Symbol}
use Rattle.gb_script.specs.Check.{grammar_ok, is_start}
use Rattle.gb_script.specs.Grammar.{grammar_of}
use Rattle.gb_script.specs.Parsing.{IsKind, Spells, IsTextOrFault}
use Rattle.gb_script.proofs.Rows.{sound_table}
use Rattle.gb_script.proofs.Outcomes.{outcome}
use Rattle.gb_script.proofs.Unique.{unique}
use Rattle.gb_language.specs.declared.rows.TheConstants.{SCRIPTS, GOALS, COMMAND, FORM, ENTRY, HYPOTHESIS}
use Rattle.gb_script.specs.declared.action.Rule.{Rule}
use Rattle.gb_language.specs.Language.{all_rows, all_symbols, all_places, claimed, language, goal_language, IsPart, IsLine, IsTextTree, IsLineTree, tree_sort, node_signatures, node_spelling, still_kinds, value_sorts, IsSorted, IsTreeSpelled}
use Rattle.gb_language.proofs.Checked.{scripts_pass, goals_pass, scripts_sorted, goals_sorted, scripts_spelled, goals_spelled, scripts_still, goals_still}
use Rattle.gb_script.specs.declared.text.Text.{Text}
use Rattle.gb_script.specs.declared.tree.Node.{Node}
use Rattle.gb_script.specs.Build.{built}
use Rattle.gb_script.specs.Sorts.{one}
use Rattle.gb_script.specs.Acts.{sorts_ok}
use Rattle.gb_script.specs.Spelled.{spellings_ok, still_ok}
use Rattle.gb_script.proofs.Sorted.{one_sorted, same_tree, trees_sorted}
use Rattle.gb_script.proofs.Spelled.{tree_spelled}

-- The table passes the test of a stage.
abbrev pub Passes : ℕ → List ℕ → List (Row Rule) → List Symbol → Type 0
Passes stage p r s = grammar_ok stage (claimed stage) p r s ≡ true

pub passes : Passes SCRIPTS all_places all_rows all_symbols
unfolding all_rows all_symbols all_places claimed
passes = scripts_pass

pub goals_passed : Passes GOALS all_places all_rows all_symbols
unfolding all_rows all_symbols all_places claimed
goals_passed = goals_pass

pub passes_by : (stage : ℕ) (p : List ℕ) (r : List (Row Rule)) (s : List Symbol) → p ≡ all_places → r ≡ all_rows → s ≡ all_symbols
    → Passes stage all_places all_rows all_symbols → Passes stage p r s
passes_by stage p r s same_places same_rows same_symbols passed =
    subst (λ (x : List ℕ). Passes stage x r s) (sym same_places)
    (subst (λ (x : List (Row Rule)). Passes stage all_places x s) (sym same_rows)
    (subst (λ (x : List Symbol). Passes stage all_places all_rows x) (sym same_symbols) passed))

same_grammar : (stage : ℕ) (r : List (Row Rule)) (s : List Symbol) → r ≡ all_rows → s ≡ all_symbols
    → grammar_of stage r s ≡ grammar_of stage all_rows all_symbols
same_grammar stage r s same_rows same_symbols =
    ap (λ (x : List (Row Rule)). grammar_of stage x s) same_rows ∙ ap (λ (x : List Symbol). grammar_of stage all_rows x) same_symbols

pub same_language : (r : List (Row Rule)) (s : List Symbol) → r ≡ all_rows → s ≡ all_symbols → grammar_of SCRIPTS r s ≡ language
unfolding language
same_language = same_grammar SCRIPTS

pub same_goal_language : (r : List (Row Rule)) (s : List Symbol) → r ≡ all_rows → s ≡ all_symbols → grammar_of GOALS r s ≡ goal_language
unfolding goal_language
same_goal_language = same_grammar GOALS

starts_command : is_start (claimed SCRIPTS) COMMAND ≡ true
unfolding claimed
starts_command = refl

starts_form : is_start (claimed SCRIPTS) FORM ≡ true
unfolding claimed
starts_form = refl

starts_entry : is_start (claimed GOALS) ENTRY ≡ true
unfolding claimed
starts_entry = refl

starts_hypothesis : is_start (claimed GOALS) HYPOTHESIS ≡ true
unfolding claimed
starts_hypothesis = refl

starts_conclusion : is_start (claimed GOALS) FORM ≡ true
unfolding claimed
starts_conclusion = refl

start_at : (stage part n : ℕ) → part ≡ n → is_start (claimed stage) n ≡ true → is_start (claimed stage) part ≡ true
start_at stage part n e h = subst (λ (x : ℕ). is_start (claimed stage) x ≡ true) (sym e) h

pub starts : (part : ℕ) → IsPart part → is_start (claimed SCRIPTS) part ≡ true
starts part (inl e) = start_at SCRIPTS part COMMAND e starts_command
starts part (inr e) = start_at SCRIPTS part FORM e starts_form

pub starts_line : (part : ℕ) → IsLine part → is_start (claimed GOALS) part ≡ true
starts_line part (inl e) = start_at GOALS part ENTRY e starts_entry
starts_line part (inr (inl e)) = start_at GOALS part HYPOTHESIS e starts_hypothesis
starts_line part (inr (inr e)) = start_at GOALS part FORM e starts_conclusion

pub text_or_fault : (part : ℕ) (kinds : List ℕ) → IsPart part → All IsKind kinds → IsTextOrFault language part kinds
unfolding language
text_or_fault part kinds p = outcome language (claimed SCRIPTS) (sound_table SCRIPTS all_rows all_symbols (claimed SCRIPTS) all_places passes) part (starts part p) kinds

pub line_or_fault : (part : ℕ) (kinds : List ℕ) → IsLine part → All IsKind kinds → IsTextOrFault goal_language part kinds
unfolding goal_language
line_or_fault part kinds p = outcome goal_language (claimed GOALS) (sound_table GOALS all_rows all_symbols (claimed GOALS) all_places goals_passed) part (starts_line part p) kinds

pub one_derivation : (part : ℕ) (kinds : List ℕ) (a b : List (Step Rule)) → IsPart part → All IsKind kinds
    → Spells language part kinds a → Spells language part kinds b → a ≡ b
unfolding language
one_derivation part kinds a b ready h x y =
    unique language (claimed SCRIPTS) (sound_table SCRIPTS all_rows all_symbols (claimed SCRIPTS) all_places passes) part (starts part ready) kinds a b h x y

pub one_line_derivation : (part : ℕ) (kinds : List ℕ) (a b : List (Step Rule)) → IsLine part → All IsKind kinds
    → Spells goal_language part kinds a → Spells goal_language part kinds b → a ≡ b
unfolding goal_language
one_line_derivation part kinds a b ready h x y =
    unique goal_language (claimed GOALS) (sound_table GOALS all_rows all_symbols (claimed GOALS) all_places goals_passed) part (starts_line part ready) kinds a b h x y

-- The trees are of the sorts that are said.

text_acts : sorts_ok node_signatures value_sorts language ≡ true
unfolding language all_rows all_symbols node_signatures value_sorts
text_acts = scripts_sorted

line_acts : sorts_ok node_signatures value_sorts goal_language ≡ true
unfolding goal_language all_rows all_symbols node_signatures value_sorts
line_acts = goals_sorted

sort_at : (part n : ℕ) → part ≡ n → value_sorts n ≡ one (tree_sort n) ∷ [] → value_sorts part ≡ one (tree_sort part) ∷ []
sort_at part n e h = subst (λ (x : ℕ). value_sorts x ≡ one (tree_sort x) ∷ []) (sym e) h

command_tree : value_sorts COMMAND ≡ one (tree_sort COMMAND) ∷ []
unfolding value_sorts
command_tree = refl

form_tree : value_sorts FORM ≡ one (tree_sort FORM) ∷ []
unfolding value_sorts
form_tree = refl

entry_tree : value_sorts ENTRY ≡ one (tree_sort ENTRY) ∷ []
unfolding value_sorts
entry_tree = refl

hypothesis_tree : value_sorts HYPOTHESIS ≡ one (tree_sort HYPOTHESIS) ∷ []
unfolding value_sorts
hypothesis_tree = refl

text_tree : (part : ℕ) → IsPart part → value_sorts part ≡ one (tree_sort part) ∷ []
text_tree part (inl e) = sort_at part COMMAND e command_tree
text_tree part (inr e) = sort_at part FORM e form_tree

line_tree : (part : ℕ) → IsLine part → value_sorts part ≡ one (tree_sort part) ∷ []
line_tree part (inl e) = sort_at part ENTRY e entry_tree
line_tree part (inr (inl e)) = sort_at part HYPOTHESIS e hypothesis_tree
line_tree part (inr (inr e)) = sort_at part FORM e form_tree

pub text_sorts : (part : ℕ) → IsPart part → (sorts_ok node_signatures value_sorts language ≡ true) × (value_sorts part ≡ one (tree_sort part) ∷ [])
text_sorts part ready = (text_acts, text_tree part ready)

pub line_sorts : (part : ℕ) → IsLine part → (sorts_ok node_signatures value_sorts goal_language ≡ true) × (value_sorts part ≡ one (tree_sort part) ∷ [])
line_sorts part ready = (line_acts, line_tree part ready)

pub one_text_tree : (part : ℕ) (kinds : List ℕ) (t : Text) (x y : Node) → IsPart part → All IsKind kinds → IsTextTree part kinds t x → IsTextTree part kinds t y → x ≡ y
one_text_tree part kinds t x y ready h p q = same_tree (built t q.0) x y (ap (λ (l : List (Step Rule)). built t l) (sym (one_derivation part kinds p.0 q.0 ready h p.1 q.1)) ∙ p.2) q.2

pub one_line_tree : (part : ℕ) (kinds : List ℕ) (t : Text) (x y : Node) → IsLine part → All IsKind kinds → IsLineTree part kinds t x → IsLineTree part kinds t y → x ≡ y
one_line_tree part kinds t x y ready h p q = same_tree (built t q.0) x y (ap (λ (l : List (Step Rule)). built t l) (sym (one_line_derivation part kinds p.0 q.0 ready h p.1 q.1)) ∙ p.2) q.2

pub text_spells : (part : ℕ) (kinds : List ℕ) (t : Text) (steps : List (Step Rule)) → IsPart part → Spells language part kinds steps → (x : Node) × IsTextTree part kinds t x
text_spells part kinds t steps ready d =
    let o = one_sorted node_signatures t value_sorts language text_acts part (tree_sort part) (text_tree part ready) kinds steps d in
    (o.0, (steps, d, o.1))

pub line_spells : (part : ℕ) (kinds : List ℕ) (t : Text) (steps : List (Step Rule)) → IsLine part → Spells goal_language part kinds steps → (x : Node) × IsLineTree part kinds t x
line_spells part kinds t steps ready d =
    let o = one_sorted node_signatures t value_sorts goal_language line_acts part (tree_sort part) (line_tree part ready) kinds steps d in
    (o.0, (steps, d, o.1))

pub text_sorted : (part : ℕ) (kinds : List ℕ) (t : Text) (x : Node) → IsPart part → IsTextTree part kinds t x → IsSorted part x
text_sorted part kinds t x ready d = trees_sorted node_signatures value_sorts language text_acts part (tree_sort part) (text_tree part ready) kinds t x d

pub line_sorted : (part : ℕ) (kinds : List ℕ) (t : Text) (x : Node) → IsLine part → IsLineTree part kinds t x → IsSorted part x
line_sorted part kinds t x ready d = trees_sorted node_signatures value_sorts goal_language line_acts part (tree_sort part) (line_tree part ready) kinds t x d

-- The texts of nodes are those of tokens of the kinds that are said, and so are the places of nodes that stay.

spells_texts : spellings_ok node_spelling language ≡ true
unfolding language all_rows all_symbols node_spelling
spells_texts = scripts_spelled

spells_lines : spellings_ok node_spelling goal_language ≡ true
unfolding goal_language all_rows all_symbols node_spelling
spells_lines = goals_spelled

text_stays : still_ok node_signatures value_sorts still_kinds language ≡ true
unfolding language all_rows all_symbols node_signatures value_sorts
text_stays = scripts_still

line_stays : still_ok node_signatures value_sorts still_kinds goal_language ≡ true
unfolding goal_language all_rows all_symbols node_signatures value_sorts
line_stays = goals_still

pub text_spelled : (part : ℕ) (kinds : List ℕ) (t : Text) (x : Node) → IsTextTree part kinds t x → IsTreeSpelled kinds t x
text_spelled = tree_spelled node_signatures value_sorts node_spelling still_kinds language text_acts spells_texts text_stays

pub line_spelled : (part : ℕ) (kinds : List ℕ) (t : Text) (x : Node) → IsLineTree part kinds t x → IsTreeSpelled kinds t x
line_spelled = tree_spelled node_signatures value_sorts node_spelling still_kinds goal_language line_acts spells_lines line_stays
