-- Written by tools/productions.py from script.txt: productions of binders and types, and lines of goals.
use Rattle.std.specs.Prelude.{ℕ, ◌≡◌, true, [], ◌∷◌, nat_le}
use Rattle.std.proofs.Common.{refl}
use Rattle.std.proofs.Math.Dec.{leb-zero}
use Rattle.gb_script.specs.declared.table.Symbol.TheVariants.{Token, Part}
use Rattle.gb_script.specs.Grammar.{Production, IsProduction}
use Rattle.gb_language.specs.Language.{all_rows, all_symbols}
use Rattle.gb_script.specs.declared.action.Action.TheVariants.{Nothing, Pass, Make, Spell, Graft, Flat, Extend, Many, Attach}
use Rattle.gb_script.specs.declared.action.Mark.TheVariants as mark
use Rattle.gb_script.specs.declared.action.Rule.{Rule}
use Rattle.gb_script.specs.declared.head.Head.TheVariants as head
use Rattle.gb_print.proofs.Productions.Table.{grammar, listed}

abbrev pub binds_none : Production Rule
binds_none = record { part = 92; rule = record { takes = 0; action = Many; mark = mark.Plain }; starts = 12379400392853802748991242240; stops = 0; body = [] }

pub is_binds_none : (stage : ℕ) → IsProduction (grammar stage) 92 binds_none
unfolding all_rows all_symbols
is_binds_none stage = listed stage 182 0 binds_none refl (leb-zero stage)

abbrev pub some_binds_bind : Production Rule
some_binds_bind = record { part = 93; rule = record { takes = 2; action = Many; mark = mark.Plain }; starts = 649037112152556732024828739977216; stops = 0; body = Part 94 ∷ Part 92 ∷ [] }

pub is_some_binds_bind : (stage : ℕ) → IsProduction (grammar stage) 93 some_binds_bind
unfolding all_rows all_symbols
is_some_binds_bind stage = listed stage 184 0 some_binds_bind refl (leb-zero stage)

abbrev pub bind_open_round : Production Rule
bind_open_round = record { part = 94; rule = record { takes = 2; action = Extend; mark = mark.Plain }; starts = 4835703278458516698824704; stops = 0; body = Token 82 ∷ Part 165 ∷ Part 96 ∷ [] }

pub is_bind_open_round : (stage : ℕ) → IsProduction (grammar stage) 94 bind_open_round
unfolding all_rows all_symbols
is_bind_open_round stage = listed stage 185 0 bind_open_round refl (leb-zero stage)

abbrev pub bind_memory : Production Rule
bind_memory = record { part = 94; rule = record { takes = 1; action = Pass; mark = mark.Plain }; starts = 649037107316853453566312041152512; stops = 0; body = Part 95 ∷ [] }

pub is_bind_memory : (stage : ℕ) → IsProduction (grammar stage) 94 bind_memory
unfolding all_rows all_symbols
is_bind_memory stage = listed stage 186 0 bind_memory refl (leb-zero stage)

abbrev pub memory_ampersand : Production Rule
memory_ampersand = record { part = 95; rule = record { takes = 1; action = Make head.Memory; mark = mark.Plain }; starts = 649037107316853453566312041152512; stops = 0; body = Token 109 ∷ Part 165 ∷ [] }

pub is_memory_ampersand : (stage : ℕ) → IsProduction (grammar stage) 95 memory_ampersand
unfolding all_rows all_symbols
is_memory_ampersand stage = listed stage 187 0 memory_ampersand refl (leb-zero stage)

abbrev pub bind_rest_more_names : Production Rule
bind_rest_more_names = record { part = 96; rule = record { takes = 2; action = Make head.Values; mark = mark.Plain }; starts = 9908356017417385527815962628; stops = 0; body = Part 111 ∷ Token 93 ∷ Part 112 ∷ Token 83 ∷ [] }

pub is_bind_rest_more_names : (stage : ℕ) → IsProduction (grammar stage) 96 bind_rest_more_names
unfolding all_rows all_symbols
is_bind_rest_more_names stage = listed stage 188 0 bind_rest_more_names refl (leb-zero stage)

abbrev pub bind_rest_module_bound : Production Rule
bind_rest_module_bound = record { part = 96; rule = record { takes = 1; action = Pass; mark = mark.Plain }; starts = 20769187434139310514121985316880384; stops = 0; body = Part 97 ∷ Token 83 ∷ [] }

pub is_bind_rest_module_bound : (stage : ℕ) → IsProduction (grammar stage) 96 bind_rest_module_bound
unfolding all_rows all_symbols
is_bind_rest_module_bound stage = listed stage 189 0 bind_rest_module_bound refl (leb-zero stage)

abbrev pub module_bound_below : Production Rule
module_bound_below = record { part = 97; rule = record { takes = 3; action = Make head.ModuleBind; mark = mark.Plain }; starts = 20769187434139310514121985316880384; stops = 0; body = Token 114 ∷ Part 160 ∷ Part 99 ∷ Part 102 ∷ [] }

pub is_module_bound_below : (stage : ℕ) → IsProduction (grammar stage) 97 module_bound_below
unfolding all_rows all_symbols
is_module_bound_below stage = listed stage 190 0 module_bound_below refl (leb-zero stage)

abbrev pub restriction_none : Production Rule
restriction_none = record { part = 99; rule = record { takes = 0; action = Many; mark = mark.Plain }; starts = 29014219670751100192948227; stops = 0; body = [] }

pub is_restriction_none : (stage : ℕ) → IsProduction (grammar stage) 99 restriction_none
unfolding all_rows all_symbols
is_restriction_none stage = listed stage 192 0 restriction_none refl (leb-zero stage)

abbrev pub restriction_open_brace : Production Rule
restriction_open_brace = record { part = 99; rule = record { takes = 2; action = Many; mark = mark.Plain }; starts = 77371252455336267181195264; stops = 0; body = Token 86 ∷ Part 101 ∷ Part 100 ∷ Token 87 ∷ [] }

pub is_restriction_open_brace : (stage : ℕ) → IsProduction (grammar stage) 99 restriction_open_brace
unfolding all_rows all_symbols
is_restriction_open_brace stage = listed stage 193 0 restriction_open_brace refl (leb-zero stage)

abbrev pub more_excluded_none : Production Rule
more_excluded_none = record { part = 100; rule = record { takes = 0; action = Many; mark = mark.Plain }; starts = 154742504910672534362390528; stops = 0; body = [] }

pub is_more_excluded_none : (stage : ℕ) → IsProduction (grammar stage) 100 more_excluded_none
unfolding all_rows all_symbols
is_more_excluded_none stage = listed stage 194 0 more_excluded_none refl (leb-zero stage)

abbrev pub more_excluded_comma : Production Rule
more_excluded_comma = record { part = 100; rule = record { takes = 2; action = Many; mark = mark.Plain }; starts = 2475880078570760549798248448; stops = 0; body = Token 91 ∷ Part 101 ∷ Part 100 ∷ [] }

pub is_more_excluded_comma : (stage : ℕ) → IsProduction (grammar stage) 100 more_excluded_comma
unfolding all_rows all_symbols
is_more_excluded_comma stage = listed stage 195 0 more_excluded_comma refl (leb-zero stage)

abbrev pub excluded_minus : Production Rule
excluded_minus = record { part = 101; rule = record { takes = 1; action = Pass; mark = mark.Plain }; starts = 633825300114114700748351602688; stops = 0; body = Token 99 ∷ Part 160 ∷ [] }

pub is_excluded_minus : (stage : ℕ) → IsProduction (grammar stage) 101 excluded_minus
unfolding all_rows all_symbols
is_excluded_minus stage = listed stage 197 0 excluded_minus refl (leb-zero stage)

abbrev pub bounds_none : Production Rule
bounds_none = record { part = 102; rule = record { takes = 0; action = Many; mark = mark.Plain }; starts = 9671406556917033397649411; stops = 0; body = [] }

pub is_bounds_none : (stage : ℕ) → IsProduction (grammar stage) 102 bounds_none
unfolding all_rows all_symbols
is_bounds_none stage = listed stage 198 0 bounds_none refl (leb-zero stage)

abbrev pub bounds_open_square : Production Rule
bounds_open_square = record { part = 102; rule = record { takes = 2; action = Many; mark = mark.Plain }; starts = 19342813113834066795298816; stops = 0; body = Token 84 ∷ Part 104 ∷ Part 103 ∷ Token 85 ∷ [] }

pub is_bounds_open_square : (stage : ℕ) → IsProduction (grammar stage) 102 bounds_open_square
unfolding all_rows all_symbols
is_bounds_open_square stage = listed stage 199 0 bounds_open_square refl (leb-zero stage)

abbrev pub more_bounds_none : Production Rule
more_bounds_none = record { part = 103; rule = record { takes = 0; action = Many; mark = mark.Plain }; starts = 38685626227668133590597632; stops = 0; body = [] }

pub is_more_bounds_none : (stage : ℕ) → IsProduction (grammar stage) 103 more_bounds_none
unfolding all_rows all_symbols
is_more_bounds_none stage = listed stage 200 0 more_bounds_none refl (leb-zero stage)

abbrev pub more_bounds_comma : Production Rule
more_bounds_comma = record { part = 103; rule = record { takes = 2; action = Many; mark = mark.Plain }; starts = 2475880078570760549798248448; stops = 0; body = Token 91 ∷ Part 104 ∷ Part 103 ∷ [] }

pub is_more_bounds_comma : (stage : ℕ) → IsProduction (grammar stage) 103 more_bounds_comma
unfolding all_rows all_symbols
is_more_bounds_comma stage = listed stage 201 0 more_bounds_comma refl (leb-zero stage)

abbrev pub bound_members : Production Rule
bound_members = record { part = 104; rule = record { takes = 2; action = Make head.QueryBound; mark = mark.Plain }; starts = 4835703134343328622968836; stops = 0; body = Part 105 ∷ Token 93 ∷ Token 86 ∷ Part 107 ∷ Token 87 ∷ [] }

pub is_bound_members : (stage : ℕ) → IsProduction (grammar stage) 104 bound_members
unfolding all_rows all_symbols
is_bound_members stage = listed stage 202 0 bound_members refl (leb-zero stage)

abbrev pub members_name : Production Rule
members_name = record { part = 105; rule = record { takes = 2; action = Many; mark = mark.Plain }; starts = 4835703134343328622968836; stops = 0; body = Part 165 ∷ Part 106 ∷ [] }

pub is_members_name : (stage : ℕ) → IsProduction (grammar stage) 105 members_name
unfolding all_rows all_symbols
is_members_name stage = listed stage 203 0 members_name refl (leb-zero stage)

abbrev pub more_members_none : Production Rule
more_members_none = record { part = 106; rule = record { takes = 0; action = Many; mark = mark.Plain }; starts = 9903520314283042199192993792; stops = 0; body = [] }

pub is_more_members_none : (stage : ℕ) → IsProduction (grammar stage) 106 more_members_none
unfolding all_rows all_symbols
is_more_members_none stage = listed stage 204 0 more_members_none refl (leb-zero stage)

abbrev pub more_members_plus : Production Rule
more_members_plus = record { part = 106; rule = record { takes = 2; action = Many; mark = mark.Plain }; starts = 316912650057057350374175801344; stops = 0; body = Token 98 ∷ Part 165 ∷ Part 106 ∷ [] }

pub is_more_members_plus : (stage : ℕ) → IsProduction (grammar stage) 106 more_members_plus
unfolding all_rows all_symbols
is_more_members_plus stage = listed stage 205 0 more_members_plus refl (leb-zero stage)

abbrev pub limits_limit : Production Rule
limits_limit = record { part = 107; rule = record { takes = 2; action = Many; mark = mark.Plain }; starts = 4835703134343328622968836; stops = 0; body = Part 109 ∷ Part 108 ∷ [] }

pub is_limits_limit : (stage : ℕ) → IsProduction (grammar stage) 107 limits_limit
unfolding all_rows all_symbols
is_limits_limit stage = listed stage 206 0 limits_limit refl (leb-zero stage)

abbrev pub more_limits_none : Production Rule
more_limits_none = record { part = 108; rule = record { takes = 0; action = Many; mark = mark.Plain }; starts = 154742504910672534362390528; stops = 0; body = [] }

pub is_more_limits_none : (stage : ℕ) → IsProduction (grammar stage) 108 more_limits_none
unfolding all_rows all_symbols
is_more_limits_none stage = listed stage 207 0 more_limits_none refl (leb-zero stage)

abbrev pub limit_name : Production Rule
limit_name = record { part = 109; rule = record { takes = 4; action = Make head.Limit; mark = mark.Plain }; starts = 4835703134343328622968836; stops = 0; body = Part 165 ∷ Token 125 ∷ Part 165 ∷ Part 161 ∷ Token 105 ∷ Part 164 ∷ [] }

pub is_limit_name : (stage : ℕ) → IsProduction (grammar stage) 109 limit_name
unfolding all_rows all_symbols
is_limit_name stage = listed stage 209 0 limit_name refl (leb-zero stage)

abbrev pub names_name : Production Rule
names_name = record { part = 110; rule = record { takes = 2; action = Many; mark = mark.Plain }; starts = 4835703134343328622968836; stops = 0; body = Part 165 ∷ Part 111 ∷ [] }

pub is_names_name : (stage : ℕ) → IsProduction (grammar stage) 110 names_name
unfolding all_rows all_symbols
is_names_name stage = listed stage 210 0 names_name refl (leb-zero stage)

abbrev pub more_names_none : Production Rule
more_names_none = record { part = 111; rule = record { takes = 0; action = Many; mark = mark.Plain }; starts = 332307008849749282508993964263079938; stops = 0; body = [] }

pub is_more_names_none : (stage : ℕ) → IsProduction (grammar stage) 111 more_names_none
unfolding all_rows all_symbols
is_more_names_none stage = listed stage 211 0 more_names_none refl (leb-zero stage)

abbrev pub type_type_atom : Production Rule
type_type_atom = record { part = 112; rule = record { takes = 2; action = Flat head.ProductType; mark = mark.Plain }; starts = 9671406412807274160455684; stops = 0; body = Part 114 ∷ Part 113 ∷ [] }

pub is_type_type_atom : (stage : ℕ) → IsProduction (grammar stage) 112 type_type_atom
unfolding all_rows all_symbols
is_type_type_atom stage = listed stage 213 0 type_type_atom refl (leb-zero stage)

abbrev pub more_factors_none : Production Rule
more_factors_none = record { part = 113; rule = record { takes = 0; action = Many; mark = mark.Plain }; starts = 41543453140104933581057443393306627; stops = 0; body = [] }

pub is_more_factors_none : (stage : ℕ) → IsProduction (grammar stage) 113 more_factors_none
unfolding all_rows all_symbols
is_more_factors_none stage = listed stage 214 0 more_factors_none refl (leb-zero stage)

abbrev pub more_factors_times : Production Rule
more_factors_times = record { part = 113; rule = record { takes = 2; action = Many; mark = mark.Plain }; starts = 158456325028528675187087900672; stops = 0; body = Token 97 ∷ Part 114 ∷ Part 113 ∷ [] }

pub is_more_factors_times : (stage : ℕ) → IsProduction (grammar stage) 113 more_factors_times
unfolding all_rows all_symbols
is_more_factors_times stage = listed stage 215 0 more_factors_times refl (leb-zero stage)

abbrev pub type_atom_type_base : Production Rule
type_atom_type_base = record { part = 114; rule = record { takes = 2; action = Attach; mark = mark.Plain }; starts = 9671406412807274160455684; stops = 0; body = Part 117 ∷ Part 115 ∷ [] }

pub is_type_atom_type_base : (stage : ℕ) → IsProduction (grammar stage) 114 type_atom_type_base
unfolding all_rows all_symbols
is_type_atom_type_base stage = listed stage 216 0 type_atom_type_base refl (leb-zero stage)

abbrev pub options_none : Production Rule
options_none = record { part = 115; rule = record { takes = 0; action = Many; mark = mark.Plain }; starts = 34523094994934157191636921368751243503; stops = 0; body = [] }

pub is_options_none : (stage : ℕ) → IsProduction (grammar stage) 115 options_none
unfolding all_rows all_symbols
is_options_none stage = listed stage 217 0 options_none refl (leb-zero stage)

abbrev pub options_option : Production Rule
options_option = record { part = 115; rule = record { takes = 2; action = Many; mark = mark.Plain }; starts = 1099511627776; stops = 0; body = Part 116 ∷ Part 115 ∷ [] }

pub is_options_option : (stage : ℕ) → IsProduction (grammar stage) 115 options_option
unfolding all_rows all_symbols
is_options_option stage = listed stage 218 0 options_option refl (leb-zero stage)

abbrev pub option_option : Production Rule
option_option = record { part = 116; rule = record { takes = 0; action = Make head.OptionType; mark = mark.Plain }; starts = 1099511627776; stops = 0; body = Token 40 ∷ [] }

pub is_option_option : (stage : ℕ) → IsProduction (grammar stage) 116 option_option
unfolding all_rows all_symbols
is_option_option stage = listed stage 219 0 option_option refl (leb-zero stage)

abbrev pub type_base_plain_type : Production Rule
type_base_plain_type = record { part = 117; rule = record { takes = 0; action = Spell head.PlainType; mark = mark.Plain }; starts = 68719476736; stops = 0; body = Token 36 ∷ [] }

pub is_type_base_plain_type : (stage : ℕ) → IsProduction (grammar stage) 117 type_base_plain_type
unfolding all_rows all_symbols
is_type_base_plain_type stage = listed stage 220 0 type_base_plain_type refl (leb-zero stage)

abbrev pub type_base_real : Production Rule
type_base_real = record { part = 117; rule = record { takes = 0; action = Spell head.PlainType; mark = mark.Plain }; starts = 137438953472; stops = 0; body = Token 37 ∷ [] }

pub is_type_base_real : (stage : ℕ) → IsProduction (grammar stage) 117 type_base_real
unfolding all_rows all_symbols
is_type_base_real stage = listed stage 221 0 type_base_real refl (leb-zero stage)

abbrev pub type_base_int : Production Rule
type_base_int = record { part = 117; rule = record { takes = 1; action = Graft head.IntType; mark = mark.Plain }; starts = 274877906944; stops = 0; body = Token 38 ∷ Part 118 ∷ [] }

pub is_type_base_int : (stage : ℕ) → IsProduction (grammar stage) 117 type_base_int
unfolding all_rows all_symbols
is_type_base_int stage = listed stage 222 0 type_base_int refl (leb-zero stage)

abbrev pub type_base_bits : Production Rule
type_base_bits = record { part = 117; rule = record { takes = 1; action = Make head.BitsType; mark = mark.Plain }; starts = 549755813888; stops = 0; body = Token 39 ∷ Part 164 ∷ [] }

pub is_type_base_bits : (stage : ℕ) → IsProduction (grammar stage) 117 type_base_bits
unfolding all_rows all_symbols
is_type_base_bits stage = listed stage 223 0 type_base_bits refl (leb-zero stage)

abbrev pub type_base_path : Production Rule
type_base_path = record { part = 117; rule = record { takes = 1; action = Pass; mark = mark.Plain }; starts = 4835703134343328622968836; stops = 0; body = Part 160 ∷ [] }

pub is_type_base_path : (stage : ℕ) → IsProduction (grammar stage) 117 type_base_path
unfolding all_rows all_symbols
is_type_base_path stage = listed stage 224 0 type_base_path refl (leb-zero stage)

abbrev pub type_base_open_round : Production Rule
type_base_open_round = record { part = 117; rule = record { takes = 2; action = Extend; mark = mark.Plain }; starts = 4835703278458516698824704; stops = 0; body = Token 82 ∷ Part 112 ∷ Part 119 ∷ [] }

pub is_type_base_open_round : (stage : ℕ) → IsProduction (grammar stage) 117 type_base_open_round
unfolding all_rows all_symbols
is_type_base_open_round stage = listed stage 225 0 type_base_open_round refl (leb-zero stage)

abbrev pub type_base_glob : Production Rule
type_base_glob = record { part = 117; rule = record { takes = 1; action = Make head.GlobType; mark = mark.Plain }; starts = 4398046511104; stops = 0; body = Token 42 ∷ Part 86 ∷ [] }

pub is_type_base_glob : (stage : ℕ) → nat_le 1 stage ≡ true → IsProduction (grammar stage) 117 type_base_glob
unfolding all_rows all_symbols
is_type_base_glob stage h = listed stage 226 1 type_base_glob refl h

abbrev pub integer_tail_none : Production Rule
integer_tail_none = record { part = 118; rule = record { takes = 0; action = Many; mark = mark.Plain }; starts = 34523094994934157191636922468262871279; stops = 0; body = [] }

pub is_integer_tail_none : (stage : ℕ) → IsProduction (grammar stage) 118 integer_tail_none
unfolding all_rows all_symbols
is_integer_tail_none stage = listed stage 227 0 integer_tail_none refl (leb-zero stage)

abbrev pub integer_tail_open_square : Production Rule
integer_tail_open_square = record { part = 118; rule = record { takes = 1; action = Many; mark = mark.Plain }; starts = 19342813113834066795298816; stops = 0; body = Token 84 ∷ Part 164 ∷ Token 85 ∷ [] }

pub is_integer_tail_open_square : (stage : ℕ) → IsProduction (grammar stage) 118 integer_tail_open_square
unfolding all_rows all_symbols
is_integer_tail_open_square stage = listed stage 228 0 integer_tail_open_square refl (leb-zero stage)

abbrev pub type_bracket_close_round : Production Rule
type_bracket_close_round = record { part = 119; rule = record { takes = 0; action = Make head.BracketedType; mark = mark.Plain }; starts = 9671406556917033397649408; stops = 0; body = Token 83 ∷ [] }

pub is_type_bracket_close_round : (stage : ℕ) → IsProduction (grammar stage) 119 type_bracket_close_round
unfolding all_rows all_symbols
is_type_bracket_close_round stage = listed stage 229 0 type_bracket_close_round refl (leb-zero stage)

abbrev pub type_bracket_comma : Production Rule
type_bracket_comma = record { part = 119; rule = record { takes = 1; action = Make head.MapType; mark = mark.Plain }; starts = 2475880078570760549798248448; stops = 0; body = Token 91 ∷ Part 112 ∷ Token 83 ∷ Token 41 ∷ [] }

pub is_type_bracket_comma : (stage : ℕ) → IsProduction (grammar stage) 119 type_bracket_comma
unfolding all_rows all_symbols
is_type_bracket_comma stage = listed stage 230 0 type_bracket_comma refl (leb-zero stage)

abbrev pub level_none : Production Rule
level_none = record { part = 249; rule = record { takes = 0; action = Nothing; mark = mark.Begin }; starts = 120080183810681948242161172480; stops = 0; body = [] }

pub is_level_none : (stage : ℕ) → IsProduction (grammar stage) 249 level_none
unfolding all_rows all_symbols
is_level_none stage = listed stage 574 0 level_none refl (leb-zero stage)

abbrev pub level_end_none : Production Rule
level_end_none = record { part = 250; rule = record { takes = 0; action = Nothing; mark = mark.End }; starts = 2577975506677262643175792812297945091; stops = 0; body = [] }

pub is_level_end_none : (stage : ℕ) → IsProduction (grammar stage) 250 level_end_none
unfolding all_rows all_symbols
is_level_end_none stage = listed stage 575 0 level_end_none refl (leb-zero stage)

abbrev pub entry_memory : Production Rule
entry_memory = record { part = 251; rule = record { takes = 1; action = Pass; mark = mark.Plain }; starts = 649037107316853453566312041152512; stops = 0; body = Part 95 ∷ [] }

pub is_entry_memory : (stage : ℕ) → nat_le 1 stage ≡ true → IsProduction (grammar stage) 251 entry_memory
unfolding all_rows all_symbols
is_entry_memory stage h = listed stage 576 1 entry_memory refl h

abbrev pub entry_name : Production Rule
entry_name = record { part = 251; rule = record { takes = 2; action = Extend; mark = mark.Plain }; starts = 4835703134343328622968836; stops = 0; body = Part 165 ∷ Part 252 ∷ [] }

pub is_entry_name : (stage : ℕ) → nat_le 1 stage ≡ true → IsProduction (grammar stage) 251 entry_name
unfolding all_rows all_symbols
is_entry_name stage h = listed stage 577 1 entry_name refl h

abbrev pub entry_rest_colon : Production Rule
entry_rest_colon = record { part = 252; rule = record { takes = 2; action = Make head.Values; mark = mark.Plain }; starts = 9903520314283042199192993792; stops = 0; body = Part 1 ∷ Token 93 ∷ Part 112 ∷ [] }

pub is_entry_rest_colon : (stage : ℕ) → nat_le 1 stage ≡ true → IsProduction (grammar stage) 252 entry_rest_colon
unfolding all_rows all_symbols
is_entry_rest_colon stage h = listed stage 578 1 entry_rest_colon refl h

abbrev pub entry_rest_module_bound : Production Rule
entry_rest_module_bound = record { part = 252; rule = record { takes = 1; action = Pass; mark = mark.Plain }; starts = 20769187434139310514121985316880384; stops = 0; body = Part 97 ∷ [] }

pub is_entry_rest_module_bound : (stage : ℕ) → nat_le 1 stage ≡ true → IsProduction (grammar stage) 252 entry_rest_module_bound
unfolding all_rows all_symbols
is_entry_rest_module_bound stage h = listed stage 579 1 entry_rest_module_bound refl h

abbrev pub hypothesis_name : Production Rule
hypothesis_name = record { part = 253; rule = record { takes = 2; action = Make head.Hypothesis; mark = mark.Plain }; starts = 4835703134343328622968836; stops = 0; body = Part 165 ∷ Token 93 ∷ Part 120 ∷ [] }

pub is_hypothesis_name : (stage : ℕ) → nat_le 1 stage ≡ true → IsProduction (grammar stage) 253 hypothesis_name
unfolding all_rows all_symbols
is_hypothesis_name stage h = listed stage 580 1 hypothesis_name refl h
