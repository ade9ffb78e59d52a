-- Written by tools/productions.py from script.txt: productions of statements, calls and modules.
use Rattle.std.specs.Prelude.{ℕ, [], ◌∷◌}
use Rattle.std.proofs.Common.{refl}
use Rattle.std.proofs.Math.Dec.{leb-zero}
use Rattle.gb_script.specs.declared.table.Symbol.TheVariants.{Token, Part}
use Rattle.gb_script.specs.Grammar.{Production, IsProduction}
use Rattle.gb_language.specs.Language.{all_rows, all_symbols}
use Rattle.gb_script.specs.declared.action.Action.TheVariants.{Pass, Make, Graft, Extend, Many, Lead, Attach}
use Rattle.gb_script.specs.declared.action.Mark.TheVariants as mark
use Rattle.gb_script.specs.declared.action.Rule.{Rule}
use Rattle.gb_script.specs.declared.head.Head.TheVariants as head
use Rattle.gb_print.proofs.Productions.Table.{grammar, listed}

abbrev pub statements_none : Production Rule
statements_none = record { part = 54; rule = record { takes = 0; action = Many; mark = mark.Plain }; starts = 154742504910672536509874176; stops = 0; body = [] }

pub is_statements_none : (stage : ℕ) → IsProduction (grammar stage) 54 statements_none
unfolding all_rows all_symbols
is_statements_none stage = listed stage 110 0 statements_none refl (leb-zero stage)

abbrev pub statements_statement : Production Rule
statements_statement = record { part = 54; rule = record { takes = 2; action = Many; mark = mark.Plain }; starts = 9671406412801866796630020; stops = 0; body = Part 55 ∷ Part 54 ∷ [] }

pub is_statements_statement : (stage : ℕ) → IsProduction (grammar stage) 54 statements_statement
unfolding all_rows all_symbols
is_statements_statement stage = listed stage 111 0 statements_statement refl (leb-zero stage)

abbrev pub statement_name : Production Rule
statement_name = record { part = 55; rule = record { takes = 2; action = Extend; mark = mark.Plain }; starts = 4835703134343328622968836; stops = 0; body = Part 165 ∷ Part 57 ∷ [] }

pub is_statement_name : (stage : ℕ) → IsProduction (grammar stage) 55 statement_name
unfolding all_rows all_symbols
is_statement_name stage = listed stage 112 0 statement_name refl (leb-zero stage)

abbrev pub statement_other_statement : Production Rule
statement_other_statement = record { part = 55; rule = record { takes = 1; action = Pass; mark = mark.Plain }; starts = 4835703278458538173661184; stops = 0; body = Part 56 ∷ [] }

pub is_statement_other_statement : (stage : ℕ) → IsProduction (grammar stage) 55 statement_other_statement
unfolding all_rows all_symbols
is_statement_other_statement stage = listed stage 113 0 statement_other_statement refl (leb-zero stage)

abbrev pub other_statement_open_round : Production Rule
other_statement_open_round = record { part = 56; rule = record { takes = 2; action = Make head.TupleStatement; mark = mark.Plain }; starts = 4835703278458516698824704; stops = 0; body = Token 82 ∷ Part 162 ∷ Token 83 ∷ Part 59 ∷ [] }

pub is_other_statement_open_round : (stage : ℕ) → IsProduction (grammar stage) 56 other_statement_open_round
unfolding all_rows all_symbols
is_other_statement_open_round stage = listed stage 114 0 other_statement_open_round refl (leb-zero stage)

abbrev pub other_statement_if : Production Rule
other_statement_if = record { part = 56; rule = record { takes = 3; action = Make head.If; mark = mark.Plain }; starts = 4294967296; stops = 0; body = Token 32 ∷ Token 82 ∷ Part 120 ∷ Token 83 ∷ Part 60 ∷ Part 61 ∷ [] }

pub is_other_statement_if : (stage : ℕ) → IsProduction (grammar stage) 56 other_statement_if
unfolding all_rows all_symbols
is_other_statement_if stage = listed stage 115 0 other_statement_if refl (leb-zero stage)

abbrev pub other_statement_while : Production Rule
other_statement_while = record { part = 56; rule = record { takes = 2; action = Make head.While; mark = mark.Plain }; starts = 17179869184; stops = 0; body = Token 34 ∷ Token 82 ∷ Part 120 ∷ Token 83 ∷ Token 35 ∷ Part 62 ∷ [] }

pub is_other_statement_while : (stage : ℕ) → IsProduction (grammar stage) 56 other_statement_while
unfolding all_rows all_symbols
is_other_statement_while stage = listed stage 116 0 other_statement_while refl (leb-zero stage)

abbrev pub statement_tail_dot : Production Rule
statement_tail_dot = record { part = 57; rule = record { takes = 2; action = Extend; mark = mark.Plain }; starts = 42535295865117307932921825928971026432; stops = 0; body = Token 125 ∷ Part 165 ∷ Part 58 ∷ [] }

pub is_statement_tail_dot : (stage : ℕ) → IsProduction (grammar stage) 57 statement_tail_dot
unfolding all_rows all_symbols
is_statement_tail_dot stage = listed stage 117 0 statement_tail_dot refl (leb-zero stage)

abbrev pub statement_tail_samples : Production Rule
statement_tail_samples = record { part = 57; rule = record { takes = 1; action = Make head.Sample; mark = mark.Plain }; starts = 5192296858534827628530496329220096; stops = 0; body = Token 112 ∷ Part 120 ∷ Token 92 ∷ [] }

pub is_statement_tail_samples : (stage : ℕ) → IsProduction (grammar stage) 57 statement_tail_samples
unfolding all_rows all_symbols
is_statement_tail_samples stage = listed stage 118 0 statement_tail_samples refl (leb-zero stage)

abbrev pub statement_tail_written : Production Rule
statement_tail_written = record { part = 57; rule = record { takes = 1; action = Pass; mark = mark.Plain }; starts = 12980742146337069071326240823050240; stops = 0; body = Part 59 ∷ [] }

pub is_statement_tail_written : (stage : ℕ) → IsProduction (grammar stage) 57 statement_tail_written
unfolding all_rows all_symbols
is_statement_tail_written stage = listed stage 119 0 statement_tail_written refl (leb-zero stage)

abbrev pub statement_tail_functor_call : Production Rule
statement_tail_functor_call = record { part = 57; rule = record { takes = 1; action = Pass; mark = mark.Plain }; starts = 4835703278458516698824704; stops = 0; body = Part 71 ∷ Token 92 ∷ [] }

pub is_statement_tail_functor_call : (stage : ℕ) → IsProduction (grammar stage) 57 statement_tail_functor_call
unfolding all_rows all_symbols
is_statement_tail_functor_call stage = listed stage 121 0 statement_tail_functor_call refl (leb-zero stage)

abbrev pub dotted_statement_dot : Production Rule
dotted_statement_dot = record { part = 58; rule = record { takes = 2; action = Extend; mark = mark.Plain }; starts = 42535295865117307932921825928971026432; stops = 0; body = Token 125 ∷ Part 165 ∷ Part 58 ∷ [] }

pub is_dotted_statement_dot : (stage : ℕ) → IsProduction (grammar stage) 58 dotted_statement_dot
unfolding all_rows all_symbols
is_dotted_statement_dot stage = listed stage 122 0 dotted_statement_dot refl (leb-zero stage)

abbrev pub dotted_statement_samples : Production Rule
dotted_statement_samples = record { part = 58; rule = record { takes = 1; action = Make head.Sample; mark = mark.Plain }; starts = 5192296858534827628530496329220096; stops = 0; body = Token 112 ∷ Part 120 ∷ Token 92 ∷ [] }

pub is_dotted_statement_samples : (stage : ℕ) → IsProduction (grammar stage) 58 dotted_statement_samples
unfolding all_rows all_symbols
is_dotted_statement_samples stage = listed stage 123 0 dotted_statement_samples refl (leb-zero stage)

abbrev pub dotted_statement_written : Production Rule
dotted_statement_written = record { part = 58; rule = record { takes = 1; action = Pass; mark = mark.Plain }; starts = 12980742146337069071326240823050240; stops = 0; body = Part 59 ∷ [] }

pub is_dotted_statement_written : (stage : ℕ) → IsProduction (grammar stage) 58 dotted_statement_written
unfolding all_rows all_symbols
is_dotted_statement_written stage = listed stage 124 0 dotted_statement_written refl (leb-zero stage)

abbrev pub dotted_statement_open_round : Production Rule
dotted_statement_open_round = record { part = 58; rule = record { takes = 1; action = Pass; mark = mark.Plain }; starts = 4835703278458516698824704; stops = 0; body = Token 82 ∷ Part 72 ∷ Token 92 ∷ [] }

pub is_dotted_statement_open_round : (stage : ℕ) → IsProduction (grammar stage) 58 dotted_statement_open_round
unfolding all_rows all_symbols
is_dotted_statement_open_round stage = listed stage 126 0 dotted_statement_open_round refl (leb-zero stage)

abbrev pub written_assign : Production Rule
written_assign = record { part = 59; rule = record { takes = 1; action = Make head.Assign; mark = mark.Plain }; starts = 2596148429267413814265248164610048; stops = 0; body = Token 111 ∷ Part 120 ∷ Token 92 ∷ [] }

pub is_written_assign : (stage : ℕ) → IsProduction (grammar stage) 59 written_assign
unfolding all_rows all_symbols
is_written_assign stage = listed stage 127 0 written_assign refl (leb-zero stage)

abbrev pub written_calls : Production Rule
written_calls = record { part = 59; rule = record { takes = 1; action = Make head.AssignCall; mark = mark.Plain }; starts = 10384593717069655257060992658440192; stops = 0; body = Token 113 ∷ Part 68 ∷ Token 92 ∷ [] }

pub is_written_calls : (stage : ℕ) → IsProduction (grammar stage) 59 written_calls
unfolding all_rows all_symbols
is_written_calls stage = listed stage 128 0 written_calls refl (leb-zero stage)

abbrev pub block_open_brace : Production Rule
block_open_brace = record { part = 60; rule = record { takes = 1; action = Pass; mark = mark.Plain }; starts = 77371252455336267181195264; stops = 0; body = Token 86 ∷ Part 54 ∷ Token 87 ∷ [] }

pub is_block_open_brace : (stage : ℕ) → IsProduction (grammar stage) 60 block_open_brace
unfolding all_rows all_symbols
is_block_open_brace stage = listed stage 129 0 block_open_brace refl (leb-zero stage)

abbrev pub alternative_none : Production Rule
alternative_none = record { part = 61; rule = record { takes = 0; action = Many; mark = mark.Plain }; starts = 164413911323474403306504196; stops = 8589934592; body = [] }

pub is_alternative_none : (stage : ℕ) → IsProduction (grammar stage) 61 alternative_none
unfolding all_rows all_symbols
is_alternative_none stage = listed stage 131 0 alternative_none refl (leb-zero stage)

abbrev pub alternative_else : Production Rule
alternative_else = record { part = 61; rule = record { takes = 1; action = Pass; mark = mark.Plain }; starts = 8589934592; stops = 0; body = Token 33 ∷ Part 60 ∷ [] }

pub is_alternative_else : (stage : ℕ) → IsProduction (grammar stage) 61 alternative_else
unfolding all_rows all_symbols
is_alternative_else stage = listed stage 132 0 alternative_else refl (leb-zero stage)

abbrev pub variant_plain_head : Production Rule
variant_plain_head = record { part = 62; rule = record { takes = 2; action = Attach; mark = mark.Plain }; starts = 1634467707992737117148020972; stops = 0; body = Part 195 ∷ Part 63 ∷ [] }

pub is_variant_plain_head : (stage : ℕ) → IsProduction (grammar stage) 62 variant_plain_head
unfolding all_rows all_symbols
is_variant_plain_head stage = listed stage 133 0 variant_plain_head refl (leb-zero stage)

abbrev pub variant_tail_suffix : Production Rule
variant_tail_suffix = record { part = 63; rule = record { takes = 2; action = Many; mark = mark.Plain }; starts = 31901471899456950969334059584177831936; stops = 0; body = Part 141 ∷ Part 63 ∷ [] }

pub is_variant_tail_suffix : (stage : ℕ) → IsProduction (grammar stage) 63 variant_tail_suffix
unfolding all_rows all_symbols
is_variant_tail_suffix stage = listed stage 134 0 variant_tail_suffix refl (leb-zero stage)

abbrev pub variant_tail_open_brace : Production Rule
variant_tail_open_brace = record { part = 63; rule = record { takes = 1; action = Pass; mark = mark.Plain }; starts = 77371252455336267181195264; stops = 0; body = Token 86 ∷ Part 65 ∷ [] }

pub is_variant_tail_open_brace : (stage : ℕ) → IsProduction (grammar stage) 63 variant_tail_open_brace
unfolding all_rows all_symbols
is_variant_tail_open_brace stage = listed stage 135 0 variant_tail_open_brace refl (leb-zero stage)

abbrev pub variant_brace_number_suffix : Production Rule
variant_brace_number_suffix = record { part = 65; rule = record { takes = 2; action = Many; mark = mark.Plain }; starts = 192; stops = 0; body = Part 144 ∷ Token 87 ∷ Part 63 ∷ [] }

pub is_variant_brace_number_suffix : (stage : ℕ) → IsProduction (grammar stage) 65 variant_brace_number_suffix
unfolding all_rows all_symbols
is_variant_brace_number_suffix stage = listed stage 138 0 variant_brace_number_suffix refl (leb-zero stage)

abbrev pub variant_brace_name : Production Rule
variant_brace_name = record { part = 65; rule = record { takes = 2; action = Extend; mark = mark.Plain }; starts = 4835703134343328622968836; stops = 0; body = Part 165 ∷ Part 67 ∷ [] }

pub is_variant_brace_name : (stage : ℕ) → IsProduction (grammar stage) 65 variant_brace_name
unfolding all_rows all_symbols
is_variant_brace_name stage = listed stage 139 0 variant_brace_name refl (leb-zero stage)

abbrev pub variant_brace_other_statements : Production Rule
variant_brace_other_statements = record { part = 65; rule = record { takes = 1; action = Graft head.Loop; mark = mark.Plain }; starts = 159578208189131072536051712; stops = 0; body = Part 66 ∷ Token 87 ∷ [] }

pub is_variant_brace_other_statements : (stage : ℕ) → IsProduction (grammar stage) 65 variant_brace_other_statements
unfolding all_rows all_symbols
is_variant_brace_other_statements stage = listed stage 140 0 variant_brace_other_statements refl (leb-zero stage)

abbrev pub other_statements_none : Production Rule
other_statements_none = record { part = 66; rule = record { takes = 0; action = Many; mark = mark.Plain }; starts = 154742504910672534362390528; stops = 0; body = [] }

pub is_other_statements_none : (stage : ℕ) → IsProduction (grammar stage) 66 other_statements_none
unfolding all_rows all_symbols
is_other_statements_none stage = listed stage 141 0 other_statements_none refl (leb-zero stage)

abbrev pub other_statements_other_statement : Production Rule
other_statements_other_statement = record { part = 66; rule = record { takes = 2; action = Many; mark = mark.Plain }; starts = 4835703278458538173661184; stops = 0; body = Part 56 ∷ Part 54 ∷ [] }

pub is_other_statements_other_statement : (stage : ℕ) → IsProduction (grammar stage) 66 other_statements_other_statement
unfolding all_rows all_symbols
is_other_statements_other_statement stage = listed stage 142 0 other_statements_other_statement refl (leb-zero stage)

abbrev pub variant_name_close_brace : Production Rule
variant_name_close_brace = record { part = 67; rule = record { takes = 2; action = Lead head.Sided; mark = mark.Plain }; starts = 154742504910672534362390528; stops = 0; body = Part 1 ∷ Token 87 ∷ Part 63 ∷ [] }

pub is_variant_name_close_brace : (stage : ℕ) → IsProduction (grammar stage) 67 variant_name_close_brace
unfolding all_rows all_symbols
is_variant_name_close_brace stage = listed stage 143 0 variant_name_close_brace refl (leb-zero stage)

abbrev pub variant_name_statement_tail : Production Rule
variant_name_statement_tail = record { part = 67; rule = record { takes = 2; action = Graft head.NamedLoop; mark = mark.Plain }; starts = 42553468904745985552542831320271683584; stops = 0; body = Part 57 ∷ Part 54 ∷ Token 87 ∷ [] }

pub is_variant_name_statement_tail : (stage : ℕ) → IsProduction (grammar stage) 67 variant_name_statement_tail
unfolding all_rows all_symbols
is_variant_name_statement_tail stage = listed stage 144 0 variant_name_statement_tail refl (leb-zero stage)

abbrev pub call_name : Production Rule
call_name = record { part = 68; rule = record { takes = 2; action = Extend; mark = mark.Plain }; starts = 4835703134343328622968836; stops = 0; body = Part 165 ∷ Part 69 ∷ [] }

pub is_call_name : (stage : ℕ) → IsProduction (grammar stage) 68 call_name
unfolding all_rows all_symbols
is_call_name stage = listed stage 145 0 call_name refl (leb-zero stage)

abbrev pub call_tail_dot : Production Rule
call_tail_dot = record { part = 69; rule = record { takes = 2; action = Extend; mark = mark.Plain }; starts = 42535295865117307932921825928971026432; stops = 0; body = Token 125 ∷ Part 165 ∷ Part 70 ∷ [] }

pub is_call_tail_dot : (stage : ℕ) → IsProduction (grammar stage) 69 call_tail_dot
unfolding all_rows all_symbols
is_call_tail_dot stage = listed stage 146 0 call_tail_dot refl (leb-zero stage)

abbrev pub call_tail_functor_call : Production Rule
call_tail_functor_call = record { part = 69; rule = record { takes = 1; action = Pass; mark = mark.Plain }; starts = 4835703278458516698824704; stops = 0; body = Part 71 ∷ [] }

pub is_call_tail_functor_call : (stage : ℕ) → IsProduction (grammar stage) 69 call_tail_functor_call
unfolding all_rows all_symbols
is_call_tail_functor_call stage = listed stage 147 0 call_tail_functor_call refl (leb-zero stage)

abbrev pub dotted_call_dot : Production Rule
dotted_call_dot = record { part = 70; rule = record { takes = 2; action = Extend; mark = mark.Plain }; starts = 42535295865117307932921825928971026432; stops = 0; body = Token 125 ∷ Part 165 ∷ Part 70 ∷ [] }

pub is_dotted_call_dot : (stage : ℕ) → IsProduction (grammar stage) 70 dotted_call_dot
unfolding all_rows all_symbols
is_dotted_call_dot stage = listed stage 148 0 dotted_call_dot refl (leb-zero stage)

abbrev pub dotted_call_open_round : Production Rule
dotted_call_open_round = record { part = 70; rule = record { takes = 1; action = Pass; mark = mark.Plain }; starts = 4835703278458516698824704; stops = 0; body = Token 82 ∷ Part 72 ∷ [] }

pub is_dotted_call_open_round : (stage : ℕ) → IsProduction (grammar stage) 70 dotted_call_open_round
unfolding all_rows all_symbols
is_dotted_call_open_round stage = listed stage 149 0 dotted_call_open_round refl (leb-zero stage)

abbrev pub functor_call_open_round : Production Rule
functor_call_open_round = record { part = 71; rule = record { takes = 2; action = Extend; mark = mark.Plain }; starts = 4835703278458516698824704; stops = 0; body = Token 82 ∷ Part 76 ∷ Token 83 ∷ Part 75 ∷ [] }

pub is_functor_call_open_round : (stage : ℕ) → IsProduction (grammar stage) 71 functor_call_open_round
unfolding all_rows all_symbols
is_functor_call_open_round stage = listed stage 150 0 functor_call_open_round refl (leb-zero stage)

abbrev pub call_arguments_close_round : Production Rule
call_arguments_close_round = record { part = 72; rule = record { takes = 2; action = Extend; mark = mark.Plain }; starts = 9671406556917033397649408; stops = 0; body = Part 1 ∷ Token 83 ∷ Part 73 ∷ [] }

pub is_call_arguments_close_round : (stage : ℕ) → IsProduction (grammar stage) 72 call_arguments_close_round
unfolding all_rows all_symbols
is_call_arguments_close_round stage = listed stage 151 0 call_arguments_close_round refl (leb-zero stage)

abbrev pub call_arguments_some_forms : Production Rule
call_arguments_some_forms = record { part = 72; rule = record { takes = 2; action = Extend; mark = mark.Plain }; starts = 675073849079239633054845632748; stops = 0; body = Part 153 ∷ Token 83 ∷ Part 74 ∷ [] }

pub is_call_arguments_some_forms : (stage : ℕ) → IsProduction (grammar stage) 72 call_arguments_some_forms
unfolding all_rows all_symbols
is_call_arguments_some_forms stage = listed stage 152 0 call_arguments_some_forms refl (leb-zero stage)

abbrev pub no_functor_none : Production Rule
no_functor_none = record { part = 73; rule = record { takes = 0; action = Make head.Call; mark = mark.Plain }; starts = 324523505418583868304255617073152; stops = 0; body = [] }

pub is_no_functor_none : (stage : ℕ) → IsProduction (grammar stage) 73 no_functor_none
unfolding all_rows all_symbols
is_no_functor_none stage = listed stage 153 0 no_functor_none refl (leb-zero stage)

abbrev pub functor_tail_no_functor : Production Rule
functor_tail_no_functor = record { part = 74; rule = record { takes = 1; action = Pass; mark = mark.Plain }; starts = 324523505418583868304255617073152; stops = 0; body = Part 73 ∷ [] }

pub is_functor_tail_no_functor : (stage : ℕ) → IsProduction (grammar stage) 74 functor_tail_no_functor
unfolding all_rows all_symbols
is_functor_tail_no_functor stage = listed stage 154 0 functor_tail_no_functor refl (leb-zero stage)

abbrev pub functor_tail_functor : Production Rule
functor_tail_functor = record { part = 74; rule = record { takes = 1; action = Pass; mark = mark.Plain }; starts = 42535295865117307932921825928971026432; stops = 0; body = Part 75 ∷ [] }

pub is_functor_tail_functor : (stage : ℕ) → IsProduction (grammar stage) 74 functor_tail_functor
unfolding all_rows all_symbols
is_functor_tail_functor stage = listed stage 155 0 functor_tail_functor refl (leb-zero stage)

abbrev pub functor_dot : Production Rule
functor_dot = record { part = 75; rule = record { takes = 2; action = Make head.FunctorCall; mark = mark.Plain }; starts = 42535295865117307932921825928971026432; stops = 0; body = Token 125 ∷ Part 165 ∷ Token 82 ∷ Part 152 ∷ Token 83 ∷ [] }

pub is_functor_dot : (stage : ℕ) → IsProduction (grammar stage) 75 functor_dot
unfolding all_rows all_symbols
is_functor_dot stage = listed stage 156 0 functor_dot refl (leb-zero stage)

abbrev pub module_forms_module_form : Production Rule
module_forms_module_form = record { part = 76; rule = record { takes = 2; action = Many; mark = mark.Plain }; starts = 4835703134343328622968836; stops = 0; body = Part 78 ∷ Part 77 ∷ [] }

pub is_module_forms_module_form : (stage : ℕ) → IsProduction (grammar stage) 76 module_forms_module_form
unfolding all_rows all_symbols
is_module_forms_module_form stage = listed stage 157 0 module_forms_module_form refl (leb-zero stage)

abbrev pub more_module_forms_none : Production Rule
more_module_forms_none = record { part = 77; rule = record { takes = 0; action = Many; mark = mark.Plain }; starts = 9671406556917033397649408; stops = 0; body = [] }

pub is_more_module_forms_none : (stage : ℕ) → IsProduction (grammar stage) 77 more_module_forms_none
unfolding all_rows all_symbols
is_more_module_forms_none stage = listed stage 158 0 more_module_forms_none refl (leb-zero stage)

abbrev pub more_module_forms_comma : Production Rule
more_module_forms_comma = record { part = 77; rule = record { takes = 2; action = Many; mark = mark.Plain }; starts = 2475880078570760549798248448; stops = 0; body = Token 91 ∷ Part 78 ∷ Part 77 ∷ [] }

pub is_more_module_forms_comma : (stage : ℕ) → IsProduction (grammar stage) 77 more_module_forms_comma
unfolding all_rows all_symbols
is_more_module_forms_comma stage = listed stage 159 0 more_module_forms_comma refl (leb-zero stage)

abbrev pub module_form_path : Production Rule
module_form_path = record { part = 78; rule = record { takes = 2; action = Attach; mark = mark.Plain }; starts = 4835703134343328622968836; stops = 0; body = Part 160 ∷ Part 79 ∷ [] }

pub is_module_form_path : (stage : ℕ) → IsProduction (grammar stage) 78 module_form_path
unfolding all_rows all_symbols
is_module_form_path stage = listed stage 160 0 module_form_path refl (leb-zero stage)

abbrev pub module_brackets_none : Production Rule
module_brackets_none = record { part = 79; rule = record { takes = 0; action = Many; mark = mark.Plain }; starts = 2485551485127677583195897856; stops = 0; body = [] }

pub is_module_brackets_none : (stage : ℕ) → IsProduction (grammar stage) 79 module_brackets_none
unfolding all_rows all_symbols
is_module_brackets_none stage = listed stage 161 0 module_brackets_none refl (leb-zero stage)

abbrev pub module_brackets_module_bracket : Production Rule
module_brackets_module_bracket = record { part = 79; rule = record { takes = 1; action = Lead head.Apply; mark = mark.Plain }; starts = 4835703278458516698824704; stops = 0; body = Part 80 ∷ [] }

pub is_module_brackets_module_bracket : (stage : ℕ) → IsProduction (grammar stage) 79 module_brackets_module_bracket
unfolding all_rows all_symbols
is_module_brackets_module_bracket stage = listed stage 162 0 module_brackets_module_bracket refl (leb-zero stage)

abbrev pub module_bracket_open_round : Production Rule
module_bracket_open_round = record { part = 80; rule = record { takes = 1; action = Extend; mark = mark.Plain }; starts = 4835703278458516698824704; stops = 0; body = Token 82 ∷ Part 81 ∷ [] }

pub is_module_bracket_open_round : (stage : ℕ) → IsProduction (grammar stage) 80 module_bracket_open_round
unfolding all_rows all_symbols
is_module_bracket_open_round stage = listed stage 163 0 module_bracket_open_round refl (leb-zero stage)

abbrev pub bracketed_modules_module_form : Production Rule
bracketed_modules_module_form = record { part = 81; rule = record { takes = 2; action = Extend; mark = mark.Plain }; starts = 4835703134343328622968836; stops = 0; body = Part 78 ∷ Part 82 ∷ [] }

pub is_bracketed_modules_module_form : (stage : ℕ) → IsProduction (grammar stage) 81 bracketed_modules_module_form
unfolding all_rows all_symbols
is_bracketed_modules_module_form stage = listed stage 164 0 bracketed_modules_module_form refl (leb-zero stage)

abbrev pub module_bracket_tail_close_round : Production Rule
module_bracket_tail_close_round = record { part = 82; rule = record { takes = 0; action = Make head.Bracketed; mark = mark.Plain }; starts = 9671406556917033397649408; stops = 0; body = Token 83 ∷ [] }

pub is_module_bracket_tail_close_round : (stage : ℕ) → IsProduction (grammar stage) 82 module_bracket_tail_close_round
unfolding all_rows all_symbols
is_module_bracket_tail_close_round stage = listed stage 165 0 module_bracket_tail_close_round refl (leb-zero stage)

abbrev pub module_bracket_tail_comma : Production Rule
module_bracket_tail_comma = record { part = 82; rule = record { takes = 1; action = Graft head.Tuple; mark = mark.Plain }; starts = 2475880078570760549798248448; stops = 0; body = Token 91 ∷ Part 76 ∷ Token 83 ∷ [] }

pub is_module_bracket_tail_comma : (stage : ℕ) → IsProduction (grammar stage) 82 module_bracket_tail_comma
unfolding all_rows all_symbols
is_module_bracket_tail_comma stage = listed stage 166 0 module_bracket_tail_comma refl (leb-zero stage)

abbrev pub procedure_name : Production Rule
procedure_name = record { part = 83; rule = record { takes = 2; action = Extend; mark = mark.Plain }; starts = 4835703134343328622968836; stops = 0; body = Part 165 ∷ Part 84 ∷ [] }

pub is_procedure_name : (stage : ℕ) → IsProduction (grammar stage) 83 procedure_name
unfolding all_rows all_symbols
is_procedure_name stage = listed stage 167 0 procedure_name refl (leb-zero stage)

abbrev pub procedure_tail_dot : Production Rule
procedure_tail_dot = record { part = 84; rule = record { takes = 2; action = Extend; mark = mark.Plain }; starts = 42535295865117307932921825928971026432; stops = 0; body = Token 125 ∷ Part 165 ∷ Part 85 ∷ [] }

pub is_procedure_tail_dot : (stage : ℕ) → IsProduction (grammar stage) 84 procedure_tail_dot
unfolding all_rows all_symbols
is_procedure_tail_dot stage = listed stage 168 0 procedure_tail_dot refl (leb-zero stage)

abbrev pub procedure_tail_open_round : Production Rule
procedure_tail_open_round = record { part = 84; rule = record { takes = 2; action = Make head.FunctorPath; mark = mark.Plain }; starts = 4835703278458516698824704; stops = 0; body = Token 82 ∷ Part 88 ∷ Token 83 ∷ Token 125 ∷ Part 165 ∷ [] }

pub is_procedure_tail_open_round : (stage : ℕ) → IsProduction (grammar stage) 84 procedure_tail_open_round
unfolding all_rows all_symbols
is_procedure_tail_open_round stage = listed stage 169 0 procedure_tail_open_round refl (leb-zero stage)

abbrev pub dotted_procedure_none : Production Rule
dotted_procedure_none = record { part = 85; rule = record { takes = 0; action = Make head.ProcedurePath; mark = mark.Plain }; starts = 34481718879183129575782937923455942895; stops = 42535295865122143636200284445669851136; body = [] }

pub is_dotted_procedure_none : (stage : ℕ) → IsProduction (grammar stage) 85 dotted_procedure_none
unfolding all_rows all_symbols
is_dotted_procedure_none stage = listed stage 170 0 dotted_procedure_none refl (leb-zero stage)

abbrev pub dotted_procedure_dot : Production Rule
dotted_procedure_dot = record { part = 85; rule = record { takes = 2; action = Extend; mark = mark.Plain }; starts = 42535295865117307932921825928971026432; stops = 0; body = Token 125 ∷ Part 165 ∷ Part 85 ∷ [] }

pub is_dotted_procedure_dot : (stage : ℕ) → IsProduction (grammar stage) 85 dotted_procedure_dot
unfolding all_rows all_symbols
is_dotted_procedure_dot stage = listed stage 171 0 dotted_procedure_dot refl (leb-zero stage)

abbrev pub dotted_procedure_open_round : Production Rule
dotted_procedure_open_round = record { part = 85; rule = record { takes = 2; action = Make head.FunctorPath; mark = mark.Plain }; starts = 4835703278458516698824704; stops = 0; body = Token 82 ∷ Part 88 ∷ Token 83 ∷ Token 125 ∷ Part 165 ∷ [] }

pub is_dotted_procedure_open_round : (stage : ℕ) → IsProduction (grammar stage) 85 dotted_procedure_open_round
unfolding all_rows all_symbols
is_dotted_procedure_open_round stage = listed stage 172 0 dotted_procedure_open_round refl (leb-zero stage)

abbrev pub module_expression_path : Production Rule
module_expression_path = record { part = 86; rule = record { takes = 2; action = Graft head.ModuleExpression; mark = mark.Plain }; starts = 4835703134343328622968836; stops = 0; body = Part 160 ∷ Part 87 ∷ [] }

pub is_module_expression_path : (stage : ℕ) → IsProduction (grammar stage) 86 module_expression_path
unfolding all_rows all_symbols
is_module_expression_path stage = listed stage 173 0 module_expression_path refl (leb-zero stage)

abbrev pub module_tail_none : Production Rule
module_tail_none = record { part = 87; rule = record { takes = 0; action = Many; mark = mark.Plain }; starts = 34523094994929321488358463951564046575; stops = 4835703278458516698824704; body = [] }

pub is_module_tail_none : (stage : ℕ) → IsProduction (grammar stage) 87 module_tail_none
unfolding all_rows all_symbols
is_module_tail_none stage = listed stage 174 0 module_tail_none refl (leb-zero stage)

abbrev pub module_tail_open_round : Production Rule
module_tail_open_round = record { part = 87; rule = record { takes = 1; action = Pass; mark = mark.Plain }; starts = 4835703278458516698824704; stops = 0; body = Token 82 ∷ Part 88 ∷ Token 83 ∷ [] }

pub is_module_tail_open_round : (stage : ℕ) → IsProduction (grammar stage) 87 module_tail_open_round
unfolding all_rows all_symbols
is_module_tail_open_round stage = listed stage 175 0 module_tail_open_round refl (leb-zero stage)

abbrev pub modules_module_argument : Production Rule
modules_module_argument = record { part = 88; rule = record { takes = 2; action = Many; mark = mark.Plain }; starts = 4835703134343328622968836; stops = 0; body = Part 90 ∷ Part 89 ∷ [] }

pub is_modules_module_argument : (stage : ℕ) → IsProduction (grammar stage) 88 modules_module_argument
unfolding all_rows all_symbols
is_modules_module_argument stage = listed stage 176 0 modules_module_argument refl (leb-zero stage)

abbrev pub more_modules_none : Production Rule
more_modules_none = record { part = 89; rule = record { takes = 0; action = Many; mark = mark.Plain }; starts = 9671406556917033397649408; stops = 0; body = [] }

pub is_more_modules_none : (stage : ℕ) → IsProduction (grammar stage) 89 more_modules_none
unfolding all_rows all_symbols
is_more_modules_none stage = listed stage 177 0 more_modules_none refl (leb-zero stage)

abbrev pub more_modules_comma : Production Rule
more_modules_comma = record { part = 89; rule = record { takes = 2; action = Many; mark = mark.Plain }; starts = 2475880078570760549798248448; stops = 0; body = Token 91 ∷ Part 90 ∷ Part 89 ∷ [] }

pub is_more_modules_comma : (stage : ℕ) → IsProduction (grammar stage) 89 more_modules_comma
unfolding all_rows all_symbols
is_more_modules_comma stage = listed stage 178 0 more_modules_comma refl (leb-zero stage)

abbrev pub module_argument_path : Production Rule
module_argument_path = record { part = 90; rule = record { takes = 2; action = Graft head.ModuleExpression; mark = mark.Plain }; starts = 4835703134343328622968836; stops = 0; body = Part 160 ∷ Part 91 ∷ [] }

pub is_module_argument_path : (stage : ℕ) → IsProduction (grammar stage) 90 module_argument_path
unfolding all_rows all_symbols
is_module_argument_path stage = listed stage 179 0 module_argument_path refl (leb-zero stage)

abbrev pub argument_tail_none : Production Rule
argument_tail_none = record { part = 91; rule = record { takes = 0; action = Many; mark = mark.Plain }; starts = 2485551485127677583195897856; stops = 0; body = [] }

pub is_argument_tail_none : (stage : ℕ) → IsProduction (grammar stage) 91 argument_tail_none
unfolding all_rows all_symbols
is_argument_tail_none stage = listed stage 180 0 argument_tail_none refl (leb-zero stage)

abbrev pub argument_tail_open_round : Production Rule
argument_tail_open_round = record { part = 91; rule = record { takes = 1; action = Pass; mark = mark.Plain }; starts = 4835703278458516698824704; stops = 0; body = Token 82 ∷ Part 88 ∷ Token 83 ∷ [] }

pub is_argument_tail_open_round : (stage : ℕ) → IsProduction (grammar stage) 91 argument_tail_open_round
unfolding all_rows all_symbols
is_argument_tail_open_round stage = listed stage 181 0 argument_tail_open_round refl (leb-zero stage)
