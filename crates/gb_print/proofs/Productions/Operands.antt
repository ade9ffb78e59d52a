-- Written by tools/productions.py from script.txt: productions of operands and what stands in them.
use Rattle.std.specs.Prelude.{ℕ, ◌≡◌, true, [], ◌∷◌, nat_le}
use Rattle.std.proofs.Common.{refl}
use Rattle.std.proofs.Math.Dec.{leb-zero}
use Rattle.gb_script.specs.declared.table.Symbol.TheVariants.{Token, Part}
use Rattle.gb_script.specs.Grammar.{Production, IsProduction}
use Rattle.gb_language.specs.Language.{all_rows, all_symbols}
use Rattle.gb_script.specs.declared.action.Action.TheVariants.{Pass, Make, Enclose, Spell, Graft, Extend, Many, Lead}
use Rattle.gb_script.specs.declared.action.Mark.TheVariants as mark
use Rattle.gb_script.specs.declared.action.Rule.{Rule}
use Rattle.gb_script.specs.declared.head.Head.TheVariants as head
use Rattle.gb_print.proofs.Productions.Table.{grammar, listed}

abbrev pub operand_minus : Production Rule
operand_minus = record { part = 134; rule = record { takes = 1; action = Make head.Negative; mark = mark.Negative }; starts = 633825300114114700748351602688; stops = 0; body = Token 99 ∷ Part 134 ∷ [] }

pub is_operand_minus : (stage : ℕ) → IsProduction (grammar stage) 134 operand_minus
unfolding all_rows all_symbols
is_operand_minus stage = listed stage 263 0 operand_minus refl (leb-zero stage)

abbrev pub operand_head : Production Rule
operand_head = record { part = 134; rule = record { takes = 2; action = Pass; mark = mark.Operand }; starts = 1634467707991611217241178348; stops = 0; body = Part 140 ∷ Part 135 ∷ [] }

pub is_operand_head : (stage : ℕ) → IsProduction (grammar stage) 134 operand_head
unfolding all_rows all_symbols
is_operand_head stage = listed stage 264 0 operand_head refl (leb-zero stage)

abbrev pub operand_phoare : Production Rule
operand_phoare = record { part = 134; rule = record { takes = 2; action = Pass; mark = mark.Operand }; starts = 1125899906842624; stops = 0; body = Part 148 ∷ Part 139 ∷ [] }

pub is_operand_phoare : (stage : ℕ) → IsProduction (grammar stage) 134 operand_phoare
unfolding all_rows all_symbols
is_operand_phoare stage = listed stage 265 0 operand_phoare refl (leb-zero stage)

abbrev pub run_none : Production Rule
run_none = record { part = 135; rule = record { takes = 0; action = Many; mark = mark.SumEnd }; starts = 2578132695351690943621578403495411715; stops = 0; body = [] }

pub is_run_none : (stage : ℕ) → IsProduction (grammar stage) 135 run_none
unfolding all_rows all_symbols
is_run_none stage = listed stage 266 0 run_none refl (leb-zero stage)

abbrev pub run_more_run : Production Rule
run_more_run = record { part = 135; rule = record { takes = 1; action = Pass; mark = mark.Plain }; starts = 31902774887452128268622860125133078764; stops = 0; body = Part 136 ∷ [] }

pub is_run_more_run : (stage : ℕ) → IsProduction (grammar stage) 135 run_more_run
unfolding all_rows all_symbols
is_run_more_run stage = listed stage 267 0 run_more_run refl (leb-zero stage)

abbrev pub more_run_suffix : Production Rule
more_run_suffix = record { part = 136; rule = record { takes = 2; action = Many; mark = mark.Plain }; starts = 31901471899456950969334059584177831936; stops = 0; body = Part 141 ∷ Part 135 ∷ [] }

pub is_more_run_suffix : (stage : ℕ) → IsProduction (grammar stage) 136 more_run_suffix
unfolding all_rows all_symbols
is_more_run_suffix stage = listed stage 268 0 more_run_suffix refl (leb-zero stage)

abbrev pub more_run_open_brace : Production Rule
more_run_open_brace = record { part = 136; rule = record { takes = 1; action = Pass; mark = mark.Plain }; starts = 77371252455336267181195264; stops = 0; body = Token 86 ∷ Part 137 ∷ [] }

pub is_more_run_open_brace : (stage : ℕ) → IsProduction (grammar stage) 136 more_run_open_brace
unfolding all_rows all_symbols
is_more_run_open_brace stage = listed stage 269 0 more_run_open_brace refl (leb-zero stage)

abbrev pub more_run_atom : Production Rule
more_run_atom = record { part = 136; rule = record { takes = 2; action = Lead head.Apply; mark = mark.Plain }; starts = 1557096455536274950059983084; stops = 0; body = Part 147 ∷ Part 135 ∷ [] }

pub is_more_run_atom : (stage : ℕ) → IsProduction (grammar stage) 136 more_run_atom
unfolding all_rows all_symbols
is_more_run_atom stage = listed stage 270 0 more_run_atom refl (leb-zero stage)

abbrev pub more_run_times : Production Rule
more_run_times = record { part = 136; rule = record { takes = 2; action = Lead head.Product; mark = mark.Operator }; starts = 158456325028528675187087900672; stops = 0; body = Token 97 ∷ Part 134 ∷ [] }

pub is_more_run_times : (stage : ℕ) → IsProduction (grammar stage) 136 more_run_times
unfolding all_rows all_symbols
is_more_run_times stage = listed stage 272 0 more_run_times refl (leb-zero stage)

abbrev pub more_run_slash : Production Rule
more_run_slash = record { part = 136; rule = record { takes = 2; action = Lead head.Quotient; mark = mark.Operator }; starts = 1267650600228229401496703205376; stops = 0; body = Token 100 ∷ Part 134 ∷ [] }

pub is_more_run_slash : (stage : ℕ) → IsProduction (grammar stage) 136 more_run_slash
unfolding all_rows all_symbols
is_more_run_slash stage = listed stage 273 0 more_run_slash refl (leb-zero stage)

abbrev pub more_run_power_times : Production Rule
more_run_power_times = record { part = 136; rule = record { takes = 2; action = Lead head.PowerProduct; mark = mark.Operator }; starts = 2535301200456458802993406410752; stops = 0; body = Token 101 ∷ Part 134 ∷ [] }

pub is_more_run_power_times : (stage : ℕ) → IsProduction (grammar stage) 136 more_run_power_times
unfolding all_rows all_symbols
is_more_run_power_times stage = listed stage 274 0 more_run_power_times refl (leb-zero stage)

abbrev pub more_run_plus : Production Rule
more_run_plus = record { part = 136; rule = record { takes = 2; action = Lead head.Sum; mark = mark.Operator }; starts = 316912650057057350374175801344; stops = 0; body = Token 98 ∷ Part 134 ∷ [] }

pub is_more_run_plus : (stage : ℕ) → IsProduction (grammar stage) 136 more_run_plus
unfolding all_rows all_symbols
is_more_run_plus stage = listed stage 275 0 more_run_plus refl (leb-zero stage)

abbrev pub more_run_minus : Production Rule
more_run_minus = record { part = 136; rule = record { takes = 2; action = Lead head.Difference; mark = mark.Operator }; starts = 633825300114114700748351602688; stops = 0; body = Token 99 ∷ Part 134 ∷ [] }

pub is_more_run_minus : (stage : ℕ) → IsProduction (grammar stage) 136 more_run_minus
unfolding all_rows all_symbols
is_more_run_minus stage = listed stage 276 0 more_run_minus refl (leb-zero stage)

abbrev pub more_run_xor : Production Rule
more_run_xor = record { part = 136; rule = record { takes = 2; action = Lead head.Xor; mark = mark.Operator }; starts = 1298074214633706907132624082305024; stops = 0; body = Token 110 ∷ Part 134 ∷ [] }

pub is_more_run_xor : (stage : ℕ) → IsProduction (grammar stage) 136 more_run_xor
unfolding all_rows all_symbols
is_more_run_xor stage = listed stage 277 0 more_run_xor refl (leb-zero stage)

abbrev pub brace_run_side_suffix : Production Rule
brace_run_side_suffix = record { part = 137; rule = record { takes = 2; action = Many; mark = mark.Plain }; starts = 4835703134343328622969028; stops = 0; body = Part 143 ∷ Token 87 ∷ Part 135 ∷ [] }

pub is_brace_run_side_suffix : (stage : ℕ) → IsProduction (grammar stage) 137 brace_run_side_suffix
unfolding all_rows all_symbols
is_brace_run_side_suffix stage = listed stage 278 0 brace_run_side_suffix refl (leb-zero stage)

abbrev pub brace_run_coin : Production Rule
brace_run_coin = record { part = 137; rule = record { takes = 2; action = Lead head.Apply; mark = mark.Plain }; starts = 32; stops = 0; body = Part 138 ∷ Token 87 ∷ Part 135 ∷ [] }

pub is_brace_run_coin : (stage : ℕ) → IsProduction (grammar stage) 137 brace_run_coin
unfolding all_rows all_symbols
is_brace_run_coin stage = listed stage 279 0 brace_run_coin refl (leb-zero stage)

abbrev pub coin_zero : Production Rule
coin_zero = record { part = 138; rule = record { takes = 0; action = Enclose head.Coin; mark = mark.Plain }; starts = 32; stops = 0; body = Token 5 ∷ Token 91 ∷ Token 6 ∷ [] }

pub is_coin_zero : (stage : ℕ) → IsProduction (grammar stage) 138 coin_zero
unfolding all_rows all_symbols
is_coin_zero stage = listed stage 280 0 coin_zero refl (leb-zero stage)

abbrev pub phoare_run_equals : Production Rule
phoare_run_equals = record { part = 139; rule = record { takes = 1; action = Spell head.Bounded; mark = mark.Bounded }; starts = 5070602400912917605986812821504; stops = 0; body = Token 102 ∷ Part 133 ∷ [] }

pub is_phoare_run_equals : (stage : ℕ) → IsProduction (grammar stage) 139 phoare_run_equals
unfolding all_rows all_symbols
is_phoare_run_equals stage = listed stage 282 0 phoare_run_equals refl (leb-zero stage)

abbrev pub phoare_run_less_equal : Production Rule
phoare_run_less_equal = record { part = 139; rule = record { takes = 1; action = Spell head.Bounded; mark = mark.Bounded }; starts = 40564819207303340847894502572032; stops = 0; body = Token 105 ∷ Part 133 ∷ [] }

pub is_phoare_run_less_equal : (stage : ℕ) → IsProduction (grammar stage) 139 phoare_run_less_equal
unfolding all_rows all_symbols
is_phoare_run_less_equal stage = listed stage 283 0 phoare_run_less_equal refl (leb-zero stage)

abbrev pub phoare_run_greater_equal : Production Rule
phoare_run_greater_equal = record { part = 139; rule = record { takes = 1; action = Spell head.Bounded; mark = mark.Bounded }; starts = 81129638414606681695789005144064; stops = 0; body = Token 106 ∷ Part 133 ∷ [] }

pub is_phoare_run_greater_equal : (stage : ℕ) → IsProduction (grammar stage) 139 phoare_run_greater_equal
unfolding all_rows all_symbols
is_phoare_run_greater_equal stage = listed stage 284 0 phoare_run_greater_equal refl (leb-zero stage)

abbrev pub head_atom : Production Rule
head_atom = record { part = 140; rule = record { takes = 1; action = Pass; mark = mark.Plain }; starts = 1557096455536274950059983084; stops = 0; body = Part 147 ∷ [] }

pub is_head_atom : (stage : ℕ) → IsProduction (grammar stage) 140 head_atom
unfolding all_rows all_symbols
is_head_atom stage = listed stage 285 0 head_atom refl (leb-zero stage)

abbrev pub head_open_brace : Production Rule
head_open_brace = record { part = 140; rule = record { takes = 1; action = Pass; mark = mark.Plain }; starts = 77371252455336267181195264; stops = 0; body = Token 86 ∷ Part 138 ∷ Token 87 ∷ [] }

pub is_head_open_brace : (stage : ℕ) → IsProduction (grammar stage) 140 head_open_brace
unfolding all_rows all_symbols
is_head_open_brace stage = listed stage 286 0 head_open_brace refl (leb-zero stage)

abbrev pub suffix_open_get : Production Rule
suffix_open_get = record { part = 141; rule = record { takes = 2; action = Extend; mark = mark.Plain }; starts = 618970019642690137449562112; stops = 0; body = Token 89 ∷ Part 120 ∷ Part 142 ∷ [] }

pub is_suffix_open_get : (stage : ℕ) → IsProduction (grammar stage) 141 suffix_open_get
unfolding all_rows all_symbols
is_suffix_open_get stage = listed stage 287 0 suffix_open_get refl (leb-zero stage)

abbrev pub suffix_dot_number : Production Rule
suffix_dot_number = record { part = 141; rule = record { takes = 1; action = Make head.Component; mark = mark.Plain }; starts = 21267647932558653966460912964485513216; stops = 0; body = Token 124 ∷ Part 164 ∷ [] }

pub is_suffix_dot_number : (stage : ℕ) → IsProduction (grammar stage) 141 suffix_dot_number
unfolding all_rows all_symbols
is_suffix_dot_number stage = listed stage 288 0 suffix_dot_number refl (leb-zero stage)

abbrev pub suffix_percent_real : Production Rule
suffix_percent_real = record { part = 141; rule = record { takes = 0; action = Make head.ToReal; mark = mark.Plain }; starts = 10633823966279326983230456482242756608; stops = 0; body = Token 123 ∷ [] }

pub is_suffix_percent_real : (stage : ℕ) → IsProduction (grammar stage) 141 suffix_percent_real
unfolding all_rows all_symbols
is_suffix_percent_real stage = listed stage 289 0 suffix_percent_real refl (leb-zero stage)

abbrev pub entry_tail_close_square : Production Rule
entry_tail_close_square = record { part = 142; rule = record { takes = 0; action = Make head.Get; mark = mark.Plain }; starts = 38685626227668133590597632; stops = 0; body = Token 85 ∷ [] }

pub is_entry_tail_close_square : (stage : ℕ) → IsProduction (grammar stage) 142 entry_tail_close_square
unfolding all_rows all_symbols
is_entry_tail_close_square stage = listed stage 290 0 entry_tail_close_square refl (leb-zero stage)

abbrev pub entry_tail_assign : Production Rule
entry_tail_assign = record { part = 142; rule = record { takes = 1; action = Make head.Set; mark = mark.Plain }; starts = 2596148429267413814265248164610048; stops = 0; body = Token 111 ∷ Part 120 ∷ Token 85 ∷ [] }

pub is_entry_tail_assign : (stage : ℕ) → IsProduction (grammar stage) 142 entry_tail_assign
unfolding all_rows all_symbols
is_entry_tail_assign stage = listed stage 291 0 entry_tail_assign refl (leb-zero stage)

abbrev pub side_suffix_side : Production Rule
side_suffix_side = record { part = 143; rule = record { takes = 2; action = Extend; mark = mark.Plain }; starts = 4835703134343328622969028; stops = 0; body = Part 146 ∷ Part 145 ∷ [] }

pub is_side_suffix_side : (stage : ℕ) → IsProduction (grammar stage) 143 side_suffix_side
unfolding all_rows all_symbols
is_side_suffix_side stage = listed stage 292 0 side_suffix_side refl (leb-zero stage)

abbrev pub number_suffix_side_number : Production Rule
number_suffix_side_number = record { part = 144; rule = record { takes = 2; action = Extend; mark = mark.Plain }; starts = 192; stops = 0; body = Part 179 ∷ Part 145 ∷ [] }

pub is_number_suffix_side_number : (stage : ℕ) → IsProduction (grammar stage) 144 number_suffix_side_number
unfolding all_rows all_symbols
is_number_suffix_side_number stage = listed stage 293 0 number_suffix_side_number refl (leb-zero stage)

abbrev pub side_behind_none : Production Rule
side_behind_none = record { part = 145; rule = record { takes = 0; action = Make head.Sided; mark = mark.Plain }; starts = 154742504910672534362390528; stops = 0; body = [] }

pub is_side_behind_none : (stage : ℕ) → IsProduction (grammar stage) 145 side_behind_none
unfolding all_rows all_symbols
is_side_behind_none stage = listed stage 294 0 side_behind_none refl (leb-zero stage)

abbrev pub side_one : Production Rule
side_one = record { part = 146; rule = record { takes = 0; action = Spell head.Number; mark = mark.Plain }; starts = 64; stops = 0; body = Token 6 ∷ [] }

pub is_side_one : (stage : ℕ) → IsProduction (grammar stage) 146 side_one
unfolding all_rows all_symbols
is_side_one stage = listed stage 295 0 side_one refl (leb-zero stage)

abbrev pub side_two : Production Rule
side_two = record { part = 146; rule = record { takes = 0; action = Spell head.Number; mark = mark.Plain }; starts = 128; stops = 0; body = Token 7 ∷ [] }

pub is_side_two : (stage : ℕ) → IsProduction (grammar stage) 146 side_two
unfolding all_rows all_symbols
is_side_two stage = listed stage 296 0 side_two refl (leb-zero stage)

abbrev pub side_name : Production Rule
side_name = record { part = 146; rule = record { takes = 1; action = Pass; mark = mark.Plain }; starts = 4835703134343328622968836; stops = 0; body = Part 165 ∷ [] }

pub is_side_name : (stage : ℕ) → IsProduction (grammar stage) 146 side_name
unfolding all_rows all_symbols
is_side_name stage = listed stage 297 0 side_name refl (leb-zero stage)

abbrev pub atom_number : Production Rule
atom_number = record { part = 147; rule = record { takes = 1; action = Pass; mark = mark.Plain }; starts = 232; stops = 0; body = Part 164 ∷ [] }

pub is_atom_number : (stage : ℕ) → IsProduction (grammar stage) 147 atom_number
unfolding all_rows all_symbols
is_atom_number stage = listed stage 298 0 atom_number refl (leb-zero stage)

abbrev pub atom_path : Production Rule
atom_path = record { part = 147; rule = record { takes = 1; action = Pass; mark = mark.Plain }; starts = 4835703134343328622968836; stops = 0; body = Part 160 ∷ [] }

pub is_atom_path : (stage : ℕ) → IsProduction (grammar stage) 147 atom_path
unfolding all_rows all_symbols
is_atom_path stage = listed stage 299 0 atom_path refl (leb-zero stage)

abbrev pub atom_open_round : Production Rule
atom_open_round = record { part = 147; rule = record { takes = 1; action = Extend; mark = mark.Plain }; starts = 4835703278458516698824704; stops = 0; body = Token 82 ∷ Part 149 ∷ [] }

pub is_atom_open_round : (stage : ℕ) → IsProduction (grammar stage) 147 atom_open_round
unfolding all_rows all_symbols
is_atom_open_round stage = listed stage 300 0 atom_open_round refl (leb-zero stage)

abbrev pub atom_uniform : Production Rule
atom_uniform = record { part = 147; rule = record { takes = 1; action = Make head.Uniform; mark = mark.Plain }; starts = 140737488355328; stops = 0; body = Token 47 ∷ Part 114 ∷ [] }

pub is_atom_uniform : (stage : ℕ) → IsProduction (grammar stage) 147 atom_uniform
unfolding all_rows all_symbols
is_atom_uniform stage = listed stage 301 0 atom_uniform refl (leb-zero stage)

abbrev pub atom_weights : Production Rule
atom_weights = record { part = 147; rule = record { takes = 2; action = Graft head.Weights; mark = mark.Plain }; starts = 281474976710656; stops = 0; body = Token 48 ∷ Token 84 ∷ Part 156 ∷ Part 155 ∷ Token 85 ∷ [] }

pub is_atom_weights : (stage : ℕ) → IsProduction (grammar stage) 147 atom_weights
unfolding all_rows all_symbols
is_atom_weights stage = listed stage 302 0 atom_weights refl (leb-zero stage)

abbrev pub atom_bars : Production Rule
atom_bars = record { part = 147; rule = record { takes = 1; action = Make head.Absolute; mark = mark.Plain }; starts = 1237940039285380274899124224; stops = 0; body = Part 249 ∷ Token 90 ∷ Part 120 ∷ Part 250 ∷ Token 94 ∷ [] }

pub is_atom_bars : (stage : ℕ) → IsProduction (grammar stage) 147 atom_bars
unfolding all_rows all_symbols
is_atom_bars stage = listed stage 304 0 atom_bars refl (leb-zero stage)

abbrev pub atom_hoare : Production Rule
atom_hoare = record { part = 147; rule = record { takes = 3; action = Make head.Hoare; mark = mark.Plain }; starts = 562949953421312; stops = 0; body = Token 49 ∷ Token 84 ∷ Part 159 ∷ Token 93 ∷ Part 120 ∷ Token 120 ∷ Part 120 ∷ Token 85 ∷ [] }

pub is_atom_hoare : (stage : ℕ) → IsProduction (grammar stage) 147 atom_hoare
unfolding all_rows all_symbols
is_atom_hoare stage = listed stage 305 0 atom_hoare refl (leb-zero stage)

abbrev pub atom_equiv : Production Rule
atom_equiv = record { part = 147; rule = record { takes = 4; action = Make head.Equiv; mark = mark.Plain }; starts = 2251799813685248; stops = 0; body = Token 51 ∷ Token 84 ∷ Part 159 ∷ Token 107 ∷ Part 159 ∷ Token 93 ∷ Part 120 ∷ Token 120 ∷ Part 120 ∷ Token 85 ∷ [] }

pub is_atom_equiv : (stage : ℕ) → IsProduction (grammar stage) 147 atom_equiv
unfolding all_rows all_symbols
is_atom_equiv stage = listed stage 306 0 atom_equiv refl (leb-zero stage)

abbrev pub atom_pr : Production Rule
atom_pr = record { part = 147; rule = record { takes = 3; action = Make head.Probability; mark = mark.Plain }; starts = 9007199254740992; stops = 0; body = Token 53 ∷ Token 84 ∷ Part 68 ∷ Token 108 ∷ Token 109 ∷ Part 165 ∷ Token 93 ∷ Part 120 ∷ Token 85 ∷ [] }

pub is_atom_pr : (stage : ℕ) → IsProduction (grammar stage) 147 atom_pr
unfolding all_rows all_symbols
is_atom_pr stage = listed stage 308 0 atom_pr refl (leb-zero stage)

abbrev pub phoare_phoare : Production Rule
phoare_phoare = record { part = 148; rule = record { takes = 3; action = Make head.Phoare; mark = mark.Plain }; starts = 1125899906842624; stops = 0; body = Token 50 ∷ Token 84 ∷ Part 159 ∷ Token 93 ∷ Part 120 ∷ Token 120 ∷ Part 120 ∷ Token 85 ∷ [] }

pub is_phoare_phoare : (stage : ℕ) → IsProduction (grammar stage) 148 phoare_phoare
unfolding all_rows all_symbols
is_phoare_phoare stage = listed stage 309 0 phoare_phoare refl (leb-zero stage)

abbrev pub bracketed_form : Production Rule
bracketed_form = record { part = 149; rule = record { takes = 2; action = Extend; mark = mark.Plain }; starts = 675073849079239633054845632748; stops = 0; body = Part 120 ∷ Part 150 ∷ [] }

pub is_bracketed_form : (stage : ℕ) → IsProduction (grammar stage) 149 bracketed_form
unfolding all_rows all_symbols
is_bracketed_form stage = listed stage 311 0 bracketed_form refl (leb-zero stage)

abbrev pub bracketed_fun : Production Rule
bracketed_fun = record { part = 149; rule = record { takes = 1; action = Pass; mark = mark.Plain }; starts = 35184372088832; stops = 0; body = Part 249 ∷ Token 45 ∷ Part 151 ∷ [] }

pub is_bracketed_fun : (stage : ℕ) → IsProduction (grammar stage) 149 bracketed_fun
unfolding all_rows all_symbols
is_bracketed_fun stage = listed stage 312 0 bracketed_fun refl (leb-zero stage)

abbrev pub bracketed_glob : Production Rule
bracketed_glob = record { part = 149; rule = record { takes = 1; action = Make head.Glob; mark = mark.Plain }; starts = 4398046511104; stops = 0; body = Token 42 ∷ Part 86 ∷ Token 83 ∷ [] }

pub is_bracketed_glob : (stage : ℕ) → IsProduction (grammar stage) 149 bracketed_glob
unfolding all_rows all_symbols
is_bracketed_glob stage = listed stage 313 0 bracketed_glob refl (leb-zero stage)

abbrev pub bracket_tail_close_round : Production Rule
bracket_tail_close_round = record { part = 150; rule = record { takes = 0; action = Make head.Bracketed; mark = mark.Plain }; starts = 9671406556917033397649408; stops = 0; body = Token 83 ∷ [] }

pub is_bracket_tail_close_round : (stage : ℕ) → IsProduction (grammar stage) 150 bracket_tail_close_round
unfolding all_rows all_symbols
is_bracket_tail_close_round stage = listed stage 314 0 bracket_tail_close_round refl (leb-zero stage)

abbrev pub bracket_tail_colon : Production Rule
bracket_tail_colon = record { part = 150; rule = record { takes = 1; action = Make head.Typed; mark = mark.Plain }; starts = 9903520314283042199192993792; stops = 0; body = Token 93 ∷ Part 112 ∷ Token 83 ∷ [] }

pub is_bracket_tail_colon : (stage : ℕ) → IsProduction (grammar stage) 150 bracket_tail_colon
unfolding all_rows all_symbols
is_bracket_tail_colon stage = listed stage 315 0 bracket_tail_colon refl (leb-zero stage)

abbrev pub bracket_tail_comma : Production Rule
bracket_tail_comma = record { part = 150; rule = record { takes = 1; action = Graft head.Tuple; mark = mark.Plain }; starts = 2475880078570760549798248448; stops = 0; body = Token 91 ∷ Part 153 ∷ Token 83 ∷ [] }

pub is_bracket_tail_comma : (stage : ℕ) → IsProduction (grammar stage) 150 bracket_tail_comma
unfolding all_rows all_symbols
is_bracket_tail_comma stage = listed stage 316 0 bracket_tail_comma refl (leb-zero stage)

abbrev pub function_names : Production Rule
function_names = record { part = 151; rule = record { takes = 2; action = Make head.Function; mark = mark.Plain }; starts = 4835703134343328622968836; stops = 0; body = Part 110 ∷ Token 118 ∷ Part 120 ∷ Part 250 ∷ Token 83 ∷ [] }

pub is_function_names : (stage : ℕ) → IsProduction (grammar stage) 151 function_names
unfolding all_rows all_symbols
is_function_names stage = listed stage 317 0 function_names refl (leb-zero stage)

abbrev pub function_open_round : Production Rule
function_open_round = record { part = 151; rule = record { takes = 3; action = Make head.TypedFunction; mark = mark.Plain }; starts = 4835703278458516698824704; stops = 0; body = Token 82 ∷ Part 110 ∷ Token 93 ∷ Part 112 ∷ Token 83 ∷ Token 118 ∷ Part 120 ∷ Part 250 ∷ Token 83 ∷ [] }

pub is_function_open_round : (stage : ℕ) → IsProduction (grammar stage) 151 function_open_round
unfolding all_rows all_symbols
is_function_open_round stage = listed stage 318 0 function_open_round refl (leb-zero stage)

abbrev pub arguments_none : Production Rule
arguments_none = record { part = 152; rule = record { takes = 0; action = Many; mark = mark.Plain }; starts = 9671406556917033397649408; stops = 0; body = [] }

pub is_arguments_none : (stage : ℕ) → IsProduction (grammar stage) 152 arguments_none
unfolding all_rows all_symbols
is_arguments_none stage = listed stage 319 0 arguments_none refl (leb-zero stage)

abbrev pub arguments_form : Production Rule
arguments_form = record { part = 152; rule = record { takes = 2; action = Many; mark = mark.Plain }; starts = 675073849079239633054845632748; stops = 0; body = Part 120 ∷ Part 154 ∷ [] }

pub is_arguments_form : (stage : ℕ) → IsProduction (grammar stage) 152 arguments_form
unfolding all_rows all_symbols
is_arguments_form stage = listed stage 320 0 arguments_form refl (leb-zero stage)

abbrev pub some_forms_form : Production Rule
some_forms_form = record { part = 153; rule = record { takes = 2; action = Many; mark = mark.Plain }; starts = 675073849079239633054845632748; stops = 0; body = Part 120 ∷ Part 154 ∷ [] }

pub is_some_forms_form : (stage : ℕ) → IsProduction (grammar stage) 153 some_forms_form
unfolding all_rows all_symbols
is_some_forms_form stage = listed stage 321 0 some_forms_form refl (leb-zero stage)

abbrev pub more_forms_none : Production Rule
more_forms_none = record { part = 154; rule = record { takes = 0; action = Many; mark = mark.Plain }; starts = 9671406556917033397649408; stops = 0; body = [] }

pub is_more_forms_none : (stage : ℕ) → IsProduction (grammar stage) 154 more_forms_none
unfolding all_rows all_symbols
is_more_forms_none stage = listed stage 322 0 more_forms_none refl (leb-zero stage)

abbrev pub more_forms_comma : Production Rule
more_forms_comma = record { part = 154; rule = record { takes = 2; action = Many; mark = mark.Plain }; starts = 2475880078570760549798248448; stops = 0; body = Token 91 ∷ Part 120 ∷ Part 154 ∷ [] }

pub is_more_forms_comma : (stage : ℕ) → IsProduction (grammar stage) 154 more_forms_comma
unfolding all_rows all_symbols
is_more_forms_comma stage = listed stage 323 0 more_forms_comma refl (leb-zero stage)

abbrev pub more_weights_none : Production Rule
more_weights_none = record { part = 155; rule = record { takes = 0; action = Many; mark = mark.Plain }; starts = 38685626227668133590597632; stops = 0; body = [] }

pub is_more_weights_none : (stage : ℕ) → IsProduction (grammar stage) 155 more_weights_none
unfolding all_rows all_symbols
is_more_weights_none stage = listed stage 324 0 more_weights_none refl (leb-zero stage)

abbrev pub more_weights_semicolon : Production Rule
more_weights_semicolon = record { part = 155; rule = record { takes = 2; action = Many; mark = mark.Plain }; starts = 4951760157141521099596496896; stops = 0; body = Token 92 ∷ Part 156 ∷ Part 155 ∷ [] }

pub is_more_weights_semicolon : (stage : ℕ) → IsProduction (grammar stage) 155 more_weights_semicolon
unfolding all_rows all_symbols
is_more_weights_semicolon stage = listed stage 325 0 more_weights_semicolon refl (leb-zero stage)

abbrev pub weight_name : Production Rule
weight_name = record { part = 156; rule = record { takes = 2; action = Make head.Weight; mark = mark.Plain }; starts = 4835703134343328622968836; stops = 0; body = Part 165 ∷ Token 93 ∷ Part 164 ∷ [] }

pub is_weight_name : (stage : ℕ) → IsProduction (grammar stage) 156 weight_name
unfolding all_rows all_symbols
is_weight_name stage = listed stage 326 0 weight_name refl (leb-zero stage)

abbrev pub subject_procedure : Production Rule
subject_procedure = record { part = 159; rule = record { takes = 1; action = Pass; mark = mark.Plain }; starts = 4835703134343328622968836; stops = 0; body = Part 83 ∷ [] }

pub is_subject_procedure : (stage : ℕ) → IsProduction (grammar stage) 159 subject_procedure
unfolding all_rows all_symbols
is_subject_procedure stage = listed stage 331 0 subject_procedure refl (leb-zero stage)

abbrev pub subject_open_brace : Production Rule
subject_open_brace = record { part = 159; rule = record { takes = 1; action = Graft head.Block; mark = mark.Plain }; starts = 77371252455336267181195264; stops = 0; body = Token 86 ∷ Part 54 ∷ Token 87 ∷ [] }

pub is_subject_open_brace : (stage : ℕ) → nat_le 1 stage ≡ true → IsProduction (grammar stage) 159 subject_open_brace
unfolding all_rows all_symbols
is_subject_open_brace stage h = listed stage 332 1 subject_open_brace refl h
