-- Written by tools/productions.py from script.txt: productions of forms, up to sums.
use Rattle.std.specs.Prelude.{ℕ, [], ◌∷◌}
use Rattle.std.proofs.Common.{refl}
use Rattle.std.proofs.Math.Dec.{leb-zero}
use Rattle.gb_script.specs.declared.table.Symbol.TheVariants.{Token, Part}
use Rattle.gb_script.specs.Grammar.{Production, IsProduction}
use Rattle.gb_language.specs.Language.{all_rows, all_symbols}
use Rattle.gb_script.specs.declared.action.Action.TheVariants.{Pass, Make, Spell, Many, Lead, Attach}
use Rattle.gb_script.specs.declared.action.Mark.TheVariants as mark
use Rattle.gb_script.specs.declared.action.Rule.{Rule}
use Rattle.gb_script.specs.declared.head.Head.TheVariants as head
use Rattle.gb_print.proofs.Productions.Table.{grammar, listed}

abbrev pub form_open_form : Production Rule
form_open_form = record { part = 120; rule = record { takes = 1; action = Pass; mark = mark.Plain }; starts = 26392574033920; stops = 0; body = Part 121 ∷ [] }

pub is_form_open_form : (stage : ℕ) → IsProduction (grammar stage) 120 form_open_form
unfolding all_rows all_symbols
is_form_open_form stage = listed stage 231 0 form_open_form refl (leb-zero stage)

abbrev pub form_condition : Production Rule
form_condition = record { part = 120; rule = record { takes = 1; action = Pass; mark = mark.Plain }; starts = 675073849079239606662271598828; stops = 0; body = Part 122 ∷ [] }

pub is_form_condition : (stage : ℕ) → IsProduction (grammar stage) 120 form_condition
unfolding all_rows all_symbols
is_form_condition stage = listed stage 232 0 form_condition refl (leb-zero stage)

abbrev pub open_form_forall : Production Rule
open_form_forall = record { part = 121; rule = record { takes = 2; action = Spell head.Quantified; mark = mark.Plain }; starts = 8796093022208; stops = 0; body = Part 249 ∷ Token 43 ∷ Part 93 ∷ Token 91 ∷ Part 120 ∷ Part 250 ∷ [] }

pub is_open_form_forall : (stage : ℕ) → IsProduction (grammar stage) 121 open_form_forall
unfolding all_rows all_symbols
is_open_form_forall stage = listed stage 233 0 open_form_forall refl (leb-zero stage)

abbrev pub open_form_exists : Production Rule
open_form_exists = record { part = 121; rule = record { takes = 2; action = Spell head.Quantified; mark = mark.Plain }; starts = 17592186044416; stops = 0; body = Part 249 ∷ Token 44 ∷ Part 93 ∷ Token 91 ∷ Part 120 ∷ Part 250 ∷ [] }

pub is_open_form_exists : (stage : ℕ) → IsProduction (grammar stage) 121 open_form_exists
unfolding all_rows all_symbols
is_open_form_exists stage = listed stage 234 0 open_form_exists refl (leb-zero stage)

abbrev pub condition_disjunction : Production Rule
condition_disjunction = record { part = 122; rule = record { takes = 2; action = Attach; mark = mark.Implication }; starts = 675073849079239606662271598828; stops = 0; body = Part 127 ∷ Part 123 ∷ [] }

pub is_condition_disjunction : (stage : ℕ) → IsProduction (grammar stage) 122 condition_disjunction
unfolding all_rows all_symbols
is_condition_disjunction stage = listed stage 236 0 condition_disjunction refl (leb-zero stage)

abbrev pub tail_none : Production Rule
tail_none = record { part = 123; rule = record { takes = 0; action = Many; mark = mark.Plain }; starts = 1331824181400741498064136099741171715; stops = 0; body = [] }

pub is_tail_none : (stage : ℕ) → IsProduction (grammar stage) 123 tail_none
unfolding all_rows all_symbols
is_tail_none stage = listed stage 237 0 tail_none refl (leb-zero stage)

abbrev pub tail_arrow : Production Rule
tail_arrow = record { part = 123; rule = record { takes = 1; action = Pass; mark = mark.Plain }; starts = 332306998946228968225951765070086144; stops = 0; body = Token 118 ∷ Part 124 ∷ [] }

pub is_tail_arrow : (stage : ℕ) → IsProduction (grammar stage) 123 tail_arrow
unfolding all_rows all_symbols
is_tail_arrow stage = listed stage 238 0 tail_arrow refl (leb-zero stage)

abbrev pub tail_double_arrow : Production Rule
tail_double_arrow = record { part = 123; rule = record { takes = 2; action = Lead head.Iff; mark = mark.Implication }; starts = 664613997892457936451903530140172288; stops = 0; body = Token 119 ∷ Part 127 ∷ Part 125 ∷ [] }

pub is_tail_double_arrow : (stage : ℕ) → IsProduction (grammar stage) 123 tail_double_arrow
unfolding all_rows all_symbols
is_tail_double_arrow stage = listed stage 239 0 tail_double_arrow refl (leb-zero stage)

abbrev pub tail_question : Production Rule
tail_question = record { part = 123; rule = record { takes = 2; action = Make head.Chosen; mark = mark.Plain }; starts = 79228162514264337593543950336; stops = 0; body = Part 249 ∷ Token 96 ∷ Part 122 ∷ Token 93 ∷ Part 122 ∷ Part 250 ∷ [] }

pub is_tail_question : (stage : ℕ) → IsProduction (grammar stage) 123 tail_question
unfolding all_rows all_symbols
is_tail_question stage = listed stage 240 0 tail_question refl (leb-zero stage)

abbrev pub conclusion_disjunction : Production Rule
conclusion_disjunction = record { part = 124; rule = record { takes = 2; action = Lead head.Implies; mark = mark.Plain }; starts = 675073849079239606662271598828; stops = 0; body = Part 127 ∷ Part 123 ∷ [] }

pub is_conclusion_disjunction : (stage : ℕ) → IsProduction (grammar stage) 124 conclusion_disjunction
unfolding all_rows all_symbols
is_conclusion_disjunction stage = listed stage 242 0 conclusion_disjunction refl (leb-zero stage)

abbrev pub last_tail_none : Production Rule
last_tail_none = record { part = 125; rule = record { takes = 0; action = Many; mark = mark.Plain }; starts = 1331824181400741498064136099741171715; stops = 0; body = [] }

pub is_last_tail_none : (stage : ℕ) → IsProduction (grammar stage) 125 last_tail_none
unfolding all_rows all_symbols
is_last_tail_none stage = listed stage 243 0 last_tail_none refl (leb-zero stage)

abbrev pub disjunction_conjunction : Production Rule
disjunction_conjunction = record { part = 127; rule = record { takes = 2; action = Attach; mark = mark.Disjunction }; starts = 675073849079239606662271598828; stops = 0; body = Part 129 ∷ Part 128 ∷ [] }

pub is_disjunction_conjunction : (stage : ℕ) → IsProduction (grammar stage) 127 disjunction_conjunction
unfolding all_rows all_symbols
is_disjunction_conjunction stage = listed stage 248 0 disjunction_conjunction refl (leb-zero stage)

abbrev pub more_conjunctions_none : Production Rule
more_conjunctions_none = record { part = 128; rule = record { takes = 0; action = Many; mark = mark.Plain }; starts = 2328745257467590917006328988495380483; stops = 0; body = [] }

pub is_more_conjunctions_none : (stage : ℕ) → IsProduction (grammar stage) 128 more_conjunctions_none
unfolding all_rows all_symbols
is_more_conjunctions_none stage = listed stage 249 0 more_conjunctions_none refl (leb-zero stage)

abbrev pub more_conjunctions_or : Production Rule
more_conjunctions_or = record { part = 128; rule = record { takes = 2; action = Lead head.Or; mark = mark.Plain }; starts = 166153499473114484112975882535043072; stops = 0; body = Token 117 ∷ Part 129 ∷ Part 128 ∷ [] }

pub is_more_conjunctions_or : (stage : ℕ) → IsProduction (grammar stage) 128 more_conjunctions_or
unfolding all_rows all_symbols
is_more_conjunctions_or stage = listed stage 250 0 more_conjunctions_or refl (leb-zero stage)

abbrev pub conjunction_negation : Production Rule
conjunction_negation = record { part = 129; rule = record { takes = 2; action = Attach; mark = mark.Conjunction }; starts = 675073849079239606662271598828; stops = 0; body = Part 131 ∷ Part 130 ∷ [] }

pub is_conjunction_negation : (stage : ℕ) → IsProduction (grammar stage) 129 conjunction_negation
unfolding all_rows all_symbols
is_conjunction_negation stage = listed stage 251 0 conjunction_negation refl (leb-zero stage)

abbrev pub more_negations_none : Production Rule
more_negations_none = record { part = 130; rule = record { takes = 0; action = Many; mark = mark.Plain }; starts = 2494898756940705401119304871030423555; stops = 0; body = [] }

pub is_more_negations_none : (stage : ℕ) → IsProduction (grammar stage) 130 more_negations_none
unfolding all_rows all_symbols
is_more_negations_none stage = listed stage 252 0 more_negations_none refl (leb-zero stage)

abbrev pub more_negations_and : Production Rule
more_negations_and = record { part = 130; rule = record { takes = 2; action = Lead head.And; mark = mark.Plain }; starts = 83076749736557242056487941267521536; stops = 0; body = Token 116 ∷ Part 131 ∷ Part 130 ∷ [] }

pub is_more_negations_and : (stage : ℕ) → IsProduction (grammar stage) 130 more_negations_and
unfolding all_rows all_symbols
is_more_negations_and stage = listed stage 253 0 more_negations_and refl (leb-zero stage)

abbrev pub negation_exclamation : Production Rule
negation_exclamation = record { part = 131; rule = record { takes = 1; action = Make head.Not; mark = mark.Conjunct }; starts = 39614081257132168796771975168; stops = 0; body = Part 249 ∷ Token 95 ∷ Part 131 ∷ Part 250 ∷ [] }

pub is_negation_exclamation : (stage : ℕ) → IsProduction (grammar stage) 131 negation_exclamation
unfolding all_rows all_symbols
is_negation_exclamation stage = listed stage 254 0 negation_exclamation refl (leb-zero stage)

abbrev pub negation_sum : Production Rule
negation_sum = record { part = 131; rule = record { takes = 2; action = Attach; mark = mark.Conjunct }; starts = 635459767822107437865499623660; stops = 0; body = Part 133 ∷ Part 132 ∷ [] }

pub is_negation_sum : (stage : ℕ) → IsProduction (grammar stage) 131 negation_sum
unfolding all_rows all_symbols
is_negation_sum stage = listed stage 255 0 negation_sum refl (leb-zero stage)

abbrev pub compared_none : Production Rule
compared_none = record { part = 132; rule = record { takes = 0; action = Many; mark = mark.Plain }; starts = 2577975506677262643175792812297945091; stops = 0; body = [] }

pub is_compared_none : (stage : ℕ) → IsProduction (grammar stage) 132 compared_none
unfolding all_rows all_symbols
is_compared_none stage = listed stage 256 0 compared_none refl (leb-zero stage)

abbrev pub compared_equals : Production Rule
compared_equals = record { part = 132; rule = record { takes = 1; action = Spell head.Compared; mark = mark.Plain }; starts = 5070602400912917605986812821504; stops = 0; body = Token 102 ∷ Part 133 ∷ [] }

pub is_compared_equals : (stage : ℕ) → IsProduction (grammar stage) 132 compared_equals
unfolding all_rows all_symbols
is_compared_equals stage = listed stage 257 0 compared_equals refl (leb-zero stage)

abbrev pub compared_different : Production Rule
compared_different = record { part = 132; rule = record { takes = 1; action = Spell head.Compared; mark = mark.Plain }; starts = 10141204801825835211973625643008; stops = 0; body = Token 103 ∷ Part 133 ∷ [] }

pub is_compared_different : (stage : ℕ) → IsProduction (grammar stage) 132 compared_different
unfolding all_rows all_symbols
is_compared_different stage = listed stage 258 0 compared_different refl (leb-zero stage)

abbrev pub compared_comparator : Production Rule
compared_comparator = record { part = 132; rule = record { takes = 1; action = Spell head.Compared; mark = mark.Plain }; starts = 20282409603651670423947251286016; stops = 0; body = Token 104 ∷ Part 133 ∷ [] }

pub is_compared_comparator : (stage : ℕ) → IsProduction (grammar stage) 132 compared_comparator
unfolding all_rows all_symbols
is_compared_comparator stage = listed stage 259 0 compared_comparator refl (leb-zero stage)

abbrev pub compared_less_equal : Production Rule
compared_less_equal = record { part = 132; rule = record { takes = 1; action = Spell head.Compared; mark = mark.Plain }; starts = 40564819207303340847894502572032; stops = 0; body = Token 105 ∷ Part 133 ∷ [] }

pub is_compared_less_equal : (stage : ℕ) → IsProduction (grammar stage) 132 compared_less_equal
unfolding all_rows all_symbols
is_compared_less_equal stage = listed stage 260 0 compared_less_equal refl (leb-zero stage)

abbrev pub sum_operand : Production Rule
sum_operand = record { part = 133; rule = record { takes = 2; action = Attach; mark = mark.Sum }; starts = 635459767822107437865499623660; stops = 0; body = Part 134 ∷ [] }

pub is_sum_operand : (stage : ℕ) → IsProduction (grammar stage) 133 sum_operand
unfolding all_rows all_symbols
is_sum_operand stage = listed stage 262 0 sum_operand refl (leb-zero stage)
