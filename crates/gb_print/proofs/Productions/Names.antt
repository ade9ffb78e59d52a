-- Written by tools/productions.py from script.txt: productions of names, numbers and paths.
use Rattle.std.specs.Prelude.{ℕ, [], ◌∷◌}
use Rattle.std.proofs.Common.{refl}
use Rattle.std.proofs.Math.Dec.{leb-zero}
use Rattle.gb_script.specs.declared.table.Symbol.TheVariants.{Token, Part}
use Rattle.gb_script.specs.Grammar.{Production, IsProduction}
use Rattle.gb_language.specs.Language.{all_rows, all_symbols}
use Rattle.gb_script.specs.declared.action.Action.TheVariants.{Pass, Spell, Flat, Many}
use Rattle.gb_script.specs.declared.action.Mark.TheVariants as mark
use Rattle.gb_script.specs.declared.action.Rule.{Rule}
use Rattle.gb_script.specs.declared.head.Head.TheVariants as head
use Rattle.gb_print.proofs.Productions.Table.{grammar, listed}

abbrev pub none_none : Production Rule
none_none = record { part = 1; rule = record { takes = 0; action = Many; mark = mark.Plain }; starts = 8308324049758152296537655165098918126; stops = 0; body = [] }

pub is_none_none : (stage : ℕ) → IsProduction (grammar stage) 1 none_none
unfolding all_rows all_symbols
is_none_none stage = listed stage 3 0 none_none refl (leb-zero stage)

abbrev pub path_name : Production Rule
path_name = record { part = 160; rule = record { takes = 2; action = Flat head.Path; mark = mark.Plain }; starts = 4835703134343328622968836; stops = 0; body = Part 165 ∷ Part 161 ∷ [] }

pub is_path_name : (stage : ℕ) → IsProduction (grammar stage) 160 path_name
unfolding all_rows all_symbols
is_path_name stage = listed stage 333 0 path_name refl (leb-zero stage)

abbrev pub more_dotted_none : Production Rule
more_dotted_none = record { part = 161; rule = record { takes = 0; action = Many; mark = mark.Plain }; starts = 34523094994953500004750756535091724527; stops = 0; body = [] }

pub is_more_dotted_none : (stage : ℕ) → IsProduction (grammar stage) 161 more_dotted_none
unfolding all_rows all_symbols
is_more_dotted_none stage = listed stage 334 0 more_dotted_none refl (leb-zero stage)

abbrev pub more_dotted_dot : Production Rule
more_dotted_dot = record { part = 161; rule = record { takes = 2; action = Many; mark = mark.Plain }; starts = 42535295865117307932921825928971026432; stops = 0; body = Token 125 ∷ Part 165 ∷ Part 161 ∷ [] }

pub is_more_dotted_dot : (stage : ℕ) → IsProduction (grammar stage) 161 more_dotted_dot
unfolding all_rows all_symbols
is_more_dotted_dot stage = listed stage 335 0 more_dotted_dot refl (leb-zero stage)

abbrev pub paths_path : Production Rule
paths_path = record { part = 162; rule = record { takes = 2; action = Many; mark = mark.Plain }; starts = 4835703134343328622968836; stops = 0; body = Part 160 ∷ Part 163 ∷ [] }

pub is_paths_path : (stage : ℕ) → IsProduction (grammar stage) 162 paths_path
unfolding all_rows all_symbols
is_paths_path stage = listed stage 336 0 paths_path refl (leb-zero stage)

abbrev pub more_paths_none : Production Rule
more_paths_none = record { part = 163; rule = record { takes = 0; action = Many; mark = mark.Plain }; starts = 9671406556917033397649408; stops = 0; body = [] }

pub is_more_paths_none : (stage : ℕ) → IsProduction (grammar stage) 163 more_paths_none
unfolding all_rows all_symbols
is_more_paths_none stage = listed stage 337 0 more_paths_none refl (leb-zero stage)

abbrev pub more_paths_comma : Production Rule
more_paths_comma = record { part = 163; rule = record { takes = 2; action = Many; mark = mark.Plain }; starts = 2475880078570760549798248448; stops = 0; body = Token 91 ∷ Part 160 ∷ Part 163 ∷ [] }

pub is_more_paths_comma : (stage : ℕ) → IsProduction (grammar stage) 163 more_paths_comma
unfolding all_rows all_symbols
is_more_paths_comma stage = listed stage 338 0 more_paths_comma refl (leb-zero stage)

abbrev pub number_number : Production Rule
number_number = record { part = 164; rule = record { takes = 0; action = Spell head.Number; mark = mark.Plain }; starts = 8; stops = 0; body = Token 3 ∷ [] }

pub is_number_number : (stage : ℕ) → IsProduction (grammar stage) 164 number_number
unfolding all_rows all_symbols
is_number_number stage = listed stage 339 0 number_number refl (leb-zero stage)

abbrev pub number_zero : Production Rule
number_zero = record { part = 164; rule = record { takes = 0; action = Spell head.Number; mark = mark.Plain }; starts = 32; stops = 0; body = Token 5 ∷ [] }

pub is_number_zero : (stage : ℕ) → IsProduction (grammar stage) 164 number_zero
unfolding all_rows all_symbols
is_number_zero stage = listed stage 340 0 number_zero refl (leb-zero stage)

abbrev pub number_one : Production Rule
number_one = record { part = 164; rule = record { takes = 0; action = Spell head.Number; mark = mark.Plain }; starts = 64; stops = 0; body = Token 6 ∷ [] }

pub is_number_one : (stage : ℕ) → IsProduction (grammar stage) 164 number_one
unfolding all_rows all_symbols
is_number_one stage = listed stage 341 0 number_one refl (leb-zero stage)

abbrev pub number_two : Production Rule
number_two = record { part = 164; rule = record { takes = 0; action = Spell head.Number; mark = mark.Plain }; starts = 128; stops = 0; body = Token 7 ∷ [] }

pub is_number_two : (stage : ℕ) → IsProduction (grammar stage) 164 number_two
unfolding all_rows all_symbols
is_number_two stage = listed stage 342 0 number_two refl (leb-zero stage)

abbrev pub name_name : Production Rule
name_name = record { part = 165; rule = record { takes = 0; action = Spell head.Name; mark = mark.Plain }; starts = 4; stops = 0; body = Token 2 ∷ [] }

pub is_name_name : (stage : ℕ) → IsProduction (grammar stage) 165 name_name
unfolding all_rows all_symbols
is_name_name stage = listed stage 343 0 name_name refl (leb-zero stage)

abbrev pub name_move : Production Rule
name_move = record { part = 165; rule = record { takes = 0; action = Spell head.Name; mark = mark.Plain }; starts = 144115188075855872; stops = 0; body = Token 57 ∷ [] }

pub is_name_move : (stage : ℕ) → IsProduction (grammar stage) 165 name_move
unfolding all_rows all_symbols
is_name_move stage = listed stage 344 0 name_move refl (leb-zero stage)

abbrev pub name_split : Production Rule
name_split = record { part = 165; rule = record { takes = 0; action = Spell head.Name; mark = mark.Plain }; starts = 288230376151711744; stops = 0; body = Token 58 ∷ [] }

pub is_name_split : (stage : ℕ) → IsProduction (grammar stage) 165 name_split
unfolding all_rows all_symbols
is_name_split stage = listed stage 345 0 name_split refl (leb-zero stage)

abbrev pub name_plain_step : Production Rule
name_plain_step = record { part = 165; rule = record { takes = 0; action = Spell head.Name; mark = mark.Plain }; starts = 576460752303423488; stops = 0; body = Token 59 ∷ [] }

pub is_name_plain_step : (stage : ℕ) → IsProduction (grammar stage) 165 name_plain_step
unfolding all_rows all_symbols
is_name_plain_step stage = listed stage 346 0 name_plain_step refl (leb-zero stage)

abbrev pub name_apply : Production Rule
name_apply = record { part = 165; rule = record { takes = 0; action = Spell head.Name; mark = mark.Plain }; starts = 1152921504606846976; stops = 0; body = Token 60 ∷ [] }

pub is_name_apply : (stage : ℕ) → IsProduction (grammar stage) 165 name_apply
unfolding all_rows all_symbols
is_name_apply stage = listed stage 347 0 name_apply refl (leb-zero stage)

abbrev pub name_have : Production Rule
name_have = record { part = 165; rule = record { takes = 0; action = Spell head.Name; mark = mark.Plain }; starts = 2305843009213693952; stops = 0; body = Token 61 ∷ [] }

pub is_name_have : (stage : ℕ) → IsProduction (grammar stage) 165 name_have
unfolding all_rows all_symbols
is_name_have stage = listed stage 348 0 name_have refl (leb-zero stage)

abbrev pub name_rewrite : Production Rule
name_rewrite = record { part = 165; rule = record { takes = 0; action = Spell head.Name; mark = mark.Plain }; starts = 4611686018427387904; stops = 0; body = Token 62 ∷ [] }

pub is_name_rewrite : (stage : ℕ) → IsProduction (grammar stage) 165 name_rewrite
unfolding all_rows all_symbols
is_name_rewrite stage = listed stage 349 0 name_rewrite refl (leb-zero stage)

abbrev pub name_case : Production Rule
name_case = record { part = 165; rule = record { takes = 0; action = Spell head.Name; mark = mark.Plain }; starts = 9223372036854775808; stops = 0; body = Token 63 ∷ [] }

pub is_name_case : (stage : ℕ) → IsProduction (grammar stage) 165 name_case
unfolding all_rows all_symbols
is_name_case stage = listed stage 350 0 name_case refl (leb-zero stage)

abbrev pub name_subst : Production Rule
name_subst = record { part = 165; rule = record { takes = 0; action = Spell head.Name; mark = mark.Plain }; starts = 18446744073709551616; stops = 0; body = Token 64 ∷ [] }

pub is_name_subst : (stage : ℕ) → IsProduction (grammar stage) 165 name_subst
unfolding all_rows all_symbols
is_name_subst stage = listed stage 351 0 name_subst refl (leb-zero stage)

abbrev pub name_skip : Production Rule
name_skip = record { part = 165; rule = record { takes = 0; action = Spell head.Name; mark = mark.Plain }; starts = 36893488147419103232; stops = 0; body = Token 65 ∷ [] }

pub is_name_skip : (stage : ℕ) → IsProduction (grammar stage) 165 name_skip
unfolding all_rows all_symbols
is_name_skip stage = listed stage 352 0 name_skip refl (leb-zero stage)

abbrev pub name_body_step : Production Rule
name_body_step = record { part = 165; rule = record { takes = 0; action = Spell head.Name; mark = mark.Plain }; starts = 73786976294838206464; stops = 0; body = Token 66 ∷ [] }

pub is_name_body_step : (stage : ℕ) → IsProduction (grammar stage) 165 name_body_step
unfolding all_rows all_symbols
is_name_body_step stage = listed stage 353 0 name_body_step refl (leb-zero stage)

abbrev pub name_seq : Production Rule
name_seq = record { part = 165; rule = record { takes = 0; action = Spell head.Name; mark = mark.Plain }; starts = 147573952589676412928; stops = 0; body = Token 67 ∷ [] }

pub is_name_seq : (stage : ℕ) → IsProduction (grammar stage) 165 name_seq
unfolding all_rows all_symbols
is_name_seq stage = listed stage 354 0 name_seq refl (leb-zero stage)

abbrev pub name_rnd : Production Rule
name_rnd = record { part = 165; rule = record { takes = 0; action = Spell head.Name; mark = mark.Plain }; starts = 295147905179352825856; stops = 0; body = Token 68 ∷ [] }

pub is_name_rnd : (stage : ℕ) → IsProduction (grammar stage) 165 name_rnd
unfolding all_rows all_symbols
is_name_rnd stage = listed stage 355 0 name_rnd refl (leb-zero stage)

abbrev pub name_call : Production Rule
name_call = record { part = 165; rule = record { takes = 0; action = Spell head.Name; mark = mark.Plain }; starts = 590295810358705651712; stops = 0; body = Token 69 ∷ [] }

pub is_name_call : (stage : ℕ) → IsProduction (grammar stage) 165 name_call
unfolding all_rows all_symbols
is_name_call stage = listed stage 356 0 name_call refl (leb-zero stage)

abbrev pub name_inline : Production Rule
name_inline = record { part = 165; rule = record { takes = 0; action = Spell head.Name; mark = mark.Plain }; starts = 1180591620717411303424; stops = 0; body = Token 70 ∷ [] }

pub is_name_inline : (stage : ℕ) → IsProduction (grammar stage) 165 name_inline
unfolding all_rows all_symbols
is_name_inline stage = listed stage 357 0 name_inline refl (leb-zero stage)

abbrev pub name_swap : Production Rule
name_swap = record { part = 165; rule = record { takes = 0; action = Spell head.Name; mark = mark.Plain }; starts = 2361183241434822606848; stops = 0; body = Token 71 ∷ [] }

pub is_name_swap : (stage : ℕ) → IsProduction (grammar stage) 165 name_swap
unfolding all_rows all_symbols
is_name_swap stage = listed stage 358 0 name_swap refl (leb-zero stage)

abbrev pub name_position_step : Production Rule
name_position_step = record { part = 165; rule = record { takes = 0; action = Spell head.Name; mark = mark.Plain }; starts = 4722366482869645213696; stops = 0; body = Token 72 ∷ [] }

pub is_name_position_step : (stage : ℕ) → IsProduction (grammar stage) 165 name_position_step
unfolding all_rows all_symbols
is_name_position_step stage = listed stage 359 0 name_position_step refl (leb-zero stage)

abbrev pub name_conseq : Production Rule
name_conseq = record { part = 165; rule = record { takes = 0; action = Spell head.Name; mark = mark.Plain }; starts = 9444732965739290427392; stops = 0; body = Token 73 ∷ [] }

pub is_name_conseq : (stage : ℕ) → IsProduction (grammar stage) 165 name_conseq
unfolding all_rows all_symbols
is_name_conseq stage = listed stage 360 0 name_conseq refl (leb-zero stage)

abbrev pub name_transitivity : Production Rule
name_transitivity = record { part = 165; rule = record { takes = 0; action = Spell head.Name; mark = mark.Plain }; starts = 18889465931478580854784; stops = 0; body = Token 74 ∷ [] }

pub is_name_transitivity : (stage : ℕ) → IsProduction (grammar stage) 165 name_transitivity
unfolding all_rows all_symbols
is_name_transitivity stage = listed stage 361 0 name_transitivity refl (leb-zero stage)

abbrev pub name_by_step : Production Rule
name_by_step = record { part = 165; rule = record { takes = 0; action = Spell head.Name; mark = mark.Plain }; starts = 37778931862957161709568; stops = 0; body = Token 75 ∷ [] }

pub is_name_by_step : (stage : ℕ) → IsProduction (grammar stage) 165 name_by_step
unfolding all_rows all_symbols
is_name_by_step stage = listed stage 362 0 name_by_step refl (leb-zero stage)

abbrev pub name_fel : Production Rule
name_fel = record { part = 165; rule = record { takes = 0; action = Spell head.Name; mark = mark.Plain }; starts = 75557863725914323419136; stops = 0; body = Token 76 ∷ [] }

pub is_name_fel : (stage : ℕ) → IsProduction (grammar stage) 165 name_fel
unfolding all_rows all_symbols
is_name_fel stage = listed stage 363 0 name_fel refl (leb-zero stage)

abbrev pub name_smt : Production Rule
name_smt = record { part = 165; rule = record { takes = 0; action = Spell head.Name; mark = mark.Plain }; starts = 151115727451828646838272; stops = 0; body = Token 77 ∷ [] }

pub is_name_smt : (stage : ℕ) → IsProduction (grammar stage) 165 name_smt
unfolding all_rows all_symbols
is_name_smt stage = listed stage 364 0 name_smt refl (leb-zero stage)

abbrev pub name_linear : Production Rule
name_linear = record { part = 165; rule = record { takes = 0; action = Spell head.Name; mark = mark.Plain }; starts = 302231454903657293676544; stops = 0; body = Token 78 ∷ [] }

pub is_name_linear : (stage : ℕ) → IsProduction (grammar stage) 165 name_linear
unfolding all_rows all_symbols
is_name_linear stage = listed stage 365 0 name_linear refl (leb-zero stage)

abbrev pub name_law : Production Rule
name_law = record { part = 165; rule = record { takes = 0; action = Spell head.Name; mark = mark.Plain }; starts = 604462909807314587353088; stops = 0; body = Token 79 ∷ [] }

pub is_name_law : (stage : ℕ) → IsProduction (grammar stage) 165 name_law
unfolding all_rows all_symbols
is_name_law stage = listed stage 366 0 name_law refl (leb-zero stage)

abbrev pub name_split_law : Production Rule
name_split_law = record { part = 165; rule = record { takes = 0; action = Spell head.Name; mark = mark.Plain }; starts = 1208925819614629174706176; stops = 0; body = Token 80 ∷ [] }

pub is_name_split_law : (stage : ℕ) → IsProduction (grammar stage) 165 name_split_law
unfolding all_rows all_symbols
is_name_split_law stage = listed stage 367 0 name_split_law refl (leb-zero stage)

abbrev pub name_eager : Production Rule
name_eager = record { part = 165; rule = record { takes = 0; action = Spell head.Name; mark = mark.Plain }; starts = 2417851639229258349412352; stops = 0; body = Token 81 ∷ [] }

pub is_name_eager : (stage : ℕ) → IsProduction (grammar stage) 165 name_eager
unfolding all_rows all_symbols
is_name_eager stage = listed stage 368 0 name_eager refl (leb-zero stage)

abbrev pub side_number_one : Production Rule
side_number_one = record { part = 179; rule = record { takes = 0; action = Spell head.Number; mark = mark.Plain }; starts = 64; stops = 0; body = Token 6 ∷ [] }

pub is_side_number_one : (stage : ℕ) → IsProduction (grammar stage) 179 side_number_one
unfolding all_rows all_symbols
is_side_number_one stage = listed stage 429 0 side_number_one refl (leb-zero stage)

abbrev pub side_number_two : Production Rule
side_number_two = record { part = 179; rule = record { takes = 0; action = Spell head.Number; mark = mark.Plain }; starts = 128; stops = 0; body = Token 7 ∷ [] }

pub is_side_number_two : (stage : ℕ) → IsProduction (grammar stage) 179 side_number_two
unfolding all_rows all_symbols
is_side_number_two stage = listed stage 430 0 side_number_two refl (leb-zero stage)

abbrev pub plain_head_head : Production Rule
plain_head_head = record { part = 195; rule = record { takes = 1; action = Pass; mark = mark.Plain }; starts = 1634467707991611217241178348; stops = 0; body = Part 140 ∷ [] }

pub is_plain_head_head : (stage : ℕ) → IsProduction (grammar stage) 195 plain_head_head
unfolding all_rows all_symbols
is_plain_head_head stage = listed stage 467 0 plain_head_head refl (leb-zero stage)
