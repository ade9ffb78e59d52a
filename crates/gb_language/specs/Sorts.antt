-- Written by tools/actions.py from sorts.txt: the kinds of node, the signatures of heads and the sorts of parts.
use Rattle.std.specs.Prelude.{ℕ, true, false, [], ◌∷◌, List, nat_lt, if◌then◌else◌}
use Rattle.gb_script.specs.declared.head.Head.{Head}
use Rattle.gb_script.specs.declared.head.Head.TheVariants as head
use Rattle.gb_script.specs.Sorts.{Sort, Role, whole, item, list, Signature, Language, ValueSort, one, many, some}

-- Kinds of node.

abbrev pub name_kind : ℕ
name_kind = 0

abbrev pub number_kind : ℕ
number_kind = 1

abbrev pub path_kind : ℕ
path_kind = 2

abbrev pub memory_kind : ℕ
memory_kind = 3

abbrev pub type_kind : ℕ
type_kind = 4

abbrev pub bind_kind : ℕ
bind_kind = 5

abbrev pub module_bind_kind : ℕ
module_bind_kind = 6

abbrev pub query_bound_kind : ℕ
query_bound_kind = 7

abbrev pub limit_kind : ℕ
limit_kind = 8

abbrev pub form_kind : ℕ
form_kind = 9

abbrev pub loop_kind : ℕ
loop_kind = 10

abbrev pub weight_kind : ℕ
weight_kind = 11

abbrev pub equated_glob_kind : ℕ
equated_glob_kind = 12

abbrev pub block_kind : ℕ
block_kind = 13

abbrev pub module_expression_kind : ℕ
module_expression_kind = 14

abbrev pub statement_kind : ℕ
statement_kind = 15

abbrev pub declaration_kind : ℕ
declaration_kind = 16

abbrev pub lemma_kind : ℕ
lemma_kind = 17

abbrev pub module_kind : ℕ
module_kind = 18

abbrev pub imported_kind : ℕ
imported_kind = 19

abbrev pub type_definition_kind : ℕ
type_definition_kind = 20

abbrev pub operator_kind : ℕ
operator_kind = 21

abbrev pub variables_kind : ℕ
variables_kind = 22

abbrev pub formal_kind : ℕ
formal_kind = 23

abbrev pub global_kind : ℕ
global_kind = 24

abbrev pub procedure_kind : ℕ
procedure_kind = 25

abbrev pub signature_kind : ℕ
signature_kind = 26

abbrev pub oracles_kind : ℕ
oracles_kind = 27

abbrev pub oracle_kind : ℕ
oracle_kind = 28

abbrev pub module_parameter_kind : ℕ
module_parameter_kind = 29

abbrev pub substitution_kind : ℕ
substitution_kind = 30

abbrev pub realisation_kind : ℕ
realisation_kind = 31

abbrev pub tactic_kind : ℕ
tactic_kind = 32

abbrev pub continuation_kind : ℕ
continuation_kind = 33

abbrev pub step_kind : ℕ
step_kind = 34

abbrev pub introduction_kind : ℕ
introduction_kind = 35

abbrev pub pattern_kind : ℕ
pattern_kind = 36

abbrev pub rule_kind : ℕ
rule_kind = 37

abbrev pub bodies_kind : ℕ
bodies_kind = 38

abbrev pub call_rule_kind : ℕ
call_rule_kind = 39

abbrev pub distance_kind : ℕ
distance_kind = 40

abbrev pub contract_kind : ℕ
contract_kind = 41

abbrev pub guard_kind : ℕ
guard_kind = 42

abbrev pub lemma_hint_kind : ℕ
lemma_hint_kind = 43

abbrev pub summand_kind : ℕ
summand_kind = 44

abbrev pub hypothesis_kind : ℕ
hypothesis_kind = 45

abbrev pub option_item_kind : ℕ
option_item_kind = 46

abbrev pub type_bracket_kind : ℕ
type_bracket_kind = 47

abbrev pub bind_item_kind : ℕ
bind_item_kind = 48

abbrev pub module_bind_item_kind : ℕ
module_bind_item_kind = 49

abbrev pub suffix_kind : ℕ
suffix_kind = 50

abbrev pub entry_kind : ℕ
entry_kind = 51

abbrev pub sided_kind : ℕ
sided_kind = 52

abbrev pub apply_kind : ℕ
apply_kind = 53

abbrev pub arithmetic_kind : ℕ
arithmetic_kind = 54

abbrev pub bounded_kind : ℕ
bounded_kind = 55

abbrev pub compared_kind : ℕ
compared_kind = 56

abbrev pub and_item_kind : ℕ
and_item_kind = 57

abbrev pub or_item_kind : ℕ
or_item_kind = 58

abbrev pub implies_item_kind : ℕ
implies_item_kind = 59

abbrev pub iff_item_kind : ℕ
iff_item_kind = 60

abbrev pub chosen_kind : ℕ
chosen_kind = 61

abbrev pub bracket_kind : ℕ
bracket_kind = 62

abbrev pub loop_item_kind : ℕ
loop_item_kind = 63

abbrev pub named_loop_kind : ℕ
named_loop_kind = 64

abbrev pub operator_item_kind : ℕ
operator_item_kind = 65

abbrev pub module_item_kind : ℕ
module_item_kind = 66

abbrev pub alias_item_kind : ℕ
alias_item_kind = 67

abbrev pub pattern_item_kind : ℕ
pattern_item_kind = 68

abbrev pub have_item_kind : ℕ
have_item_kind = 69

abbrev pub fel_item_kind : ℕ
fel_item_kind = 70

abbrev pub call_item_kind : ℕ
call_item_kind = 71

abbrev pub action_kind : ℕ
action_kind = 72

abbrev pub writing_kind : ℕ
writing_kind = 73

abbrev pub worded_kind : ℕ
worded_kind = 74

abbrev pub call_end_kind : ℕ
call_end_kind = 75

abbrev pub call0_kind : ℕ
call0_kind = 76

abbrev pub call1_kind : ℕ
call1_kind = 77

abbrev pub call2_kind : ℕ
call2_kind = 78

abbrev pub functor_call_end_kind : ℕ
functor_call_end_kind = 79

abbrev pub functor_call0_kind : ℕ
functor_call0_kind = 80

abbrev pub functor_call1_kind : ℕ
functor_call1_kind = 81

abbrev pub procedure_path0_kind : ℕ
procedure_path0_kind = 82

abbrev pub procedure_path1_kind : ℕ
procedure_path1_kind = 83

abbrev pub procedure_path2_kind : ℕ
procedure_path2_kind = 84

abbrev pub functor_path0_kind : ℕ
functor_path0_kind = 85

abbrev pub functor_path1_kind : ℕ
functor_path1_kind = 86

abbrev pub contracts_kind : ℕ
contracts_kind = 87

abbrev pub transitivity0_kind : ℕ
transitivity0_kind = 88

abbrev pub transitivity1_kind : ℕ
transitivity1_kind = 89

abbrev pub transitivity2_kind : ℕ
transitivity2_kind = 90

abbrev pub functor_contracts_kind : ℕ
functor_contracts_kind = 91

abbrev pub functor_transitivity0_kind : ℕ
functor_transitivity0_kind = 92

abbrev pub functor_transitivity1_kind : ℕ
functor_transitivity1_kind = 93

abbrev pub names_kind : ℕ
names_kind = 94

abbrev pub numbers_kind : ℕ
numbers_kind = 95

abbrev pub paths_kind : ℕ
paths_kind = 96

abbrev pub types_kind : ℕ
types_kind = 97

abbrev pub forms_kind : ℕ
forms_kind = 98

abbrev pub binds_kind : ℕ
binds_kind = 99

abbrev pub query_bounds_kind : ℕ
query_bounds_kind = 100

abbrev pub limits_kind : ℕ
limits_kind = 101

abbrev pub module_expressions_kind : ℕ
module_expressions_kind = 102

abbrev pub statements_kind : ℕ
statements_kind = 103

abbrev pub imports_kind : ℕ
imports_kind = 104

abbrev pub all_variables_kind : ℕ
all_variables_kind = 105

abbrev pub formals_kind : ℕ
formals_kind = 106

abbrev pub items_kind : ℕ
items_kind = 107

abbrev pub signatures_kind : ℕ
signatures_kind = 108

abbrev pub module_parameters_kind : ℕ
module_parameters_kind = 109

abbrev pub substitutions_kind : ℕ
substitutions_kind = 110

abbrev pub realisations_kind : ℕ
realisations_kind = 111

abbrev pub procedures_kind : ℕ
procedures_kind = 112

abbrev pub guards_kind : ℕ
guards_kind = 113

-- Sorts.

abbrev pub name_sort : Sort
name_sort = name_kind ∷ []

abbrev pub number_sort : Sort
number_sort = number_kind ∷ []

abbrev pub path_sort : Sort
path_sort = name_kind ∷ path_kind ∷ []

abbrev pub memory_sort : Sort
memory_sort = memory_kind ∷ []

abbrev pub side_sort : Sort
side_sort = name_kind ∷ number_kind ∷ []

abbrev pub type_sort : Sort
type_sort = name_kind ∷ path_kind ∷ type_kind ∷ []

abbrev pub option_sort : Sort
option_sort = option_item_kind ∷ []

abbrev pub type_bracket_sort : Sort
type_bracket_sort = type_bracket_kind ∷ []

abbrev pub bind_sort : Sort
bind_sort = memory_kind ∷ bind_kind ∷ module_bind_kind ∷ []

abbrev pub bind_item_sort : Sort
bind_item_sort = bind_item_kind ∷ module_bind_item_kind ∷ []

abbrev pub module_bind_item_sort : Sort
module_bind_item_sort = module_bind_item_kind ∷ []

abbrev pub module_bind_sort : Sort
module_bind_sort = module_bind_kind ∷ []

abbrev pub query_bound_sort : Sort
query_bound_sort = query_bound_kind ∷ []

abbrev pub limit_sort : Sort
limit_sort = limit_kind ∷ []

abbrev pub form_sort : Sort
form_sort = name_kind ∷ number_kind ∷ path_kind ∷ memory_kind ∷ form_kind ∷ loop_kind ∷ []

abbrev pub bracketed_sort : Sort
bracketed_sort = form_kind ∷ []

abbrev pub tail_sort : Sort
tail_sort = implies_item_kind ∷ iff_item_kind ∷ chosen_kind ∷ []

abbrev pub last_tail_sort : Sort
last_tail_sort = implies_item_kind ∷ chosen_kind ∷ []

abbrev pub or_sort : Sort
or_sort = or_item_kind ∷ []

abbrev pub and_sort : Sort
and_sort = and_item_kind ∷ []

abbrev pub compared_sort : Sort
compared_sort = compared_kind ∷ []

abbrev pub run_sort : Sort
run_sort = suffix_kind ∷ apply_kind ∷ arithmetic_kind ∷ bounded_kind ∷ []

abbrev pub apply_sort : Sort
apply_sort = apply_kind ∷ []

abbrev pub suffix_sort : Sort
suffix_sort = suffix_kind ∷ []

abbrev pub sided_sort : Sort
sided_sort = sided_kind ∷ []

abbrev pub entry_sort : Sort
entry_sort = entry_kind ∷ []

abbrev pub argument_sort : Sort
argument_sort = suffix_kind ∷ apply_kind ∷ []

abbrev pub bracket_sort : Sort
bracket_sort = bracket_kind ∷ []

abbrev pub variant_sort : Sort
variant_sort = suffix_kind ∷ loop_item_kind ∷ []

abbrev pub named_sort : Sort
named_sort = sided_kind ∷ named_loop_kind ∷ []

abbrev pub weight_sort : Sort
weight_sort = weight_kind ∷ []

abbrev pub equated_sort : Sort
equated_sort = name_kind ∷ path_kind ∷ equated_glob_kind ∷ []

abbrev pub module_expression_sort : Sort
module_expression_sort = module_expression_kind ∷ []

abbrev pub subject_sort : Sort
subject_sort = procedure_path2_kind ∷ functor_path1_kind ∷ block_kind ∷ []

abbrev pub statement_sort : Sort
statement_sort = statement_kind ∷ worded_kind ∷ call2_kind ∷ functor_call1_kind ∷ []

abbrev pub statement_tail_sort : Sort
statement_tail_sort = action_kind ∷ writing_kind ∷ worded_kind ∷ call1_kind ∷ call2_kind ∷ functor_call0_kind ∷ functor_call1_kind ∷ []

abbrev pub dotted_statement_sort : Sort
dotted_statement_sort = action_kind ∷ writing_kind ∷ worded_kind ∷ call0_kind ∷ call1_kind ∷ call2_kind ∷ functor_call0_kind ∷ functor_call1_kind ∷ []

abbrev pub writing_sort : Sort
writing_sort = writing_kind ∷ []

abbrev pub call_sort : Sort
call_sort = call2_kind ∷ functor_call1_kind ∷ []

abbrev pub call_tail_sort : Sort
call_tail_sort = call1_kind ∷ call2_kind ∷ functor_call0_kind ∷ functor_call1_kind ∷ []

abbrev pub dotted_call_sort : Sort
dotted_call_sort = call0_kind ∷ call1_kind ∷ call2_kind ∷ functor_call0_kind ∷ functor_call1_kind ∷ []

abbrev pub call_arguments_sort : Sort
call_arguments_sort = call0_kind ∷ functor_call0_kind ∷ []

abbrev pub functor_call_sort : Sort
functor_call_sort = functor_call0_kind ∷ []

abbrev pub call_end_sort : Sort
call_end_sort = call_end_kind ∷ []

abbrev pub functor_call_end_sort : Sort
functor_call_end_sort = functor_call_end_kind ∷ []

abbrev pub any_call_end_sort : Sort
any_call_end_sort = call_end_kind ∷ functor_call_end_kind ∷ []

abbrev pub procedure_sort : Sort
procedure_sort = procedure_path2_kind ∷ functor_path1_kind ∷ []

abbrev pub procedure_tail_sort : Sort
procedure_tail_sort = procedure_path1_kind ∷ procedure_path2_kind ∷ functor_path0_kind ∷ functor_path1_kind ∷ []

abbrev pub dotted_procedure_sort : Sort
dotted_procedure_sort = procedure_path0_kind ∷ procedure_path1_kind ∷ procedure_path2_kind ∷ functor_path0_kind ∷ functor_path1_kind ∷ []

abbrev pub transitivity_sort : Sort
transitivity_sort = transitivity2_kind ∷ functor_transitivity1_kind ∷ []

abbrev pub transitivity_tail_sort : Sort
transitivity_tail_sort = transitivity1_kind ∷ transitivity2_kind ∷ functor_transitivity0_kind ∷ functor_transitivity1_kind ∷ []

abbrev pub dotted_transitivity_sort : Sort
dotted_transitivity_sort = transitivity0_kind ∷ transitivity1_kind ∷ transitivity2_kind ∷ functor_transitivity0_kind ∷ functor_transitivity1_kind ∷ []

abbrev pub contracts_sort : Sort
contracts_sort = contracts_kind ∷ functor_contracts_kind ∷ []

abbrev pub functor_contracts_sort : Sort
functor_contracts_sort = functor_contracts_kind ∷ []

abbrev pub names_sort : Sort
names_sort = names_kind ∷ []

abbrev pub numbers_sort : Sort
numbers_sort = numbers_kind ∷ []

abbrev pub paths_sort : Sort
paths_sort = paths_kind ∷ []

abbrev pub types_sort : Sort
types_sort = types_kind ∷ []

abbrev pub forms_sort : Sort
forms_sort = forms_kind ∷ []

abbrev pub binds_sort : Sort
binds_sort = binds_kind ∷ []

abbrev pub query_bounds_sort : Sort
query_bounds_sort = query_bounds_kind ∷ []

abbrev pub limits_sort : Sort
limits_sort = limits_kind ∷ []

abbrev pub module_expressions_sort : Sort
module_expressions_sort = module_expressions_kind ∷ []

abbrev pub statements_sort : Sort
statements_sort = statements_kind ∷ []

abbrev pub imports_sort : Sort
imports_sort = imports_kind ∷ []

abbrev pub all_variables_sort : Sort
all_variables_sort = all_variables_kind ∷ []

abbrev pub formals_sort : Sort
formals_sort = formals_kind ∷ []

abbrev pub items_sort : Sort
items_sort = items_kind ∷ []

abbrev pub signatures_sort : Sort
signatures_sort = signatures_kind ∷ []

abbrev pub module_parameters_sort : Sort
module_parameters_sort = module_parameters_kind ∷ []

abbrev pub substitutions_sort : Sort
substitutions_sort = substitutions_kind ∷ []

abbrev pub realisations_sort : Sort
realisations_sort = realisations_kind ∷ []

abbrev pub procedures_sort : Sort
procedures_sort = procedures_kind ∷ []

abbrev pub guards_sort : Sort
guards_sort = guards_kind ∷ []

abbrev pub command_sort : Sort
command_sort = declaration_kind ∷ lemma_kind ∷ module_kind ∷ tactic_kind ∷ []

abbrev pub declaration_sort : Sort
declaration_sort = declaration_kind ∷ lemma_kind ∷ module_kind ∷ []

abbrev pub local_sort : Sort
local_sort = lemma_kind ∷ module_kind ∷ []

abbrev pub module_sort : Sort
module_sort = module_kind ∷ []

abbrev pub module_item_sort : Sort
module_item_sort = module_item_kind ∷ []

abbrev pub module_rest_sort : Sort
module_rest_sort = module_item_kind ∷ alias_item_kind ∷ []

abbrev pub imported_sort : Sort
imported_sort = imported_kind ∷ []

abbrev pub type_definition_sort : Sort
type_definition_sort = type_definition_kind ∷ []

abbrev pub operator_sort : Sort
operator_sort = operator_kind ∷ []

abbrev pub operator_item_sort : Sort
operator_item_sort = operator_item_kind ∷ []

abbrev pub variables_sort : Sort
variables_sort = variables_kind ∷ []

abbrev pub formal_sort : Sort
formal_sort = formal_kind ∷ []

abbrev pub item_sort : Sort
item_sort = global_kind ∷ procedure_kind ∷ []

abbrev pub signature_sort : Sort
signature_sort = signature_kind ∷ []

abbrev pub oracles_sort : Sort
oracles_sort = oracles_kind ∷ []

abbrev pub oracle_sort : Sort
oracle_sort = oracle_kind ∷ []

abbrev pub module_parameter_sort : Sort
module_parameter_sort = module_parameter_kind ∷ []

abbrev pub substitution_sort : Sort
substitution_sort = substitution_kind ∷ []

abbrev pub realisation_sort : Sort
realisation_sort = realisation_kind ∷ []

abbrev pub tactic_sort : Sort
tactic_sort = tactic_kind ∷ []

abbrev pub continuation_sort : Sort
continuation_sort = continuation_kind ∷ []

abbrev pub step_sort : Sort
step_sort = step_kind ∷ []

abbrev pub introduction_sort : Sort
introduction_sort = introduction_kind ∷ []

abbrev pub pattern_sort : Sort
pattern_sort = name_kind ∷ memory_kind ∷ pattern_kind ∷ []

abbrev pub pattern_item_sort : Sort
pattern_item_sort = pattern_item_kind ∷ []

abbrev pub rule_sort : Sort
rule_sort = rule_kind ∷ []

abbrev pub have_item_sort : Sort
have_item_sort = have_item_kind ∷ []

abbrev pub fel_item_sort : Sort
fel_item_sort = fel_item_kind ∷ []

abbrev pub bodies_sort : Sort
bodies_sort = bodies_kind ∷ []

abbrev pub call_rule_sort : Sort
call_rule_sort = call_rule_kind ∷ []

abbrev pub call_item_sort : Sort
call_item_sort = call_item_kind ∷ []

abbrev pub distance_sort : Sort
distance_sort = distance_kind ∷ []

abbrev pub contract_sort : Sort
contract_sort = contract_kind ∷ []

abbrev pub guard_sort : Sort
guard_sort = guard_kind ∷ []

abbrev pub hint_sort : Sort
hint_sort = name_kind ∷ lemma_hint_kind ∷ []

abbrev pub summand_sort : Sort
summand_sort = name_kind ∷ summand_kind ∷ []

abbrev pub hypothesis_sort : Sort
hypothesis_sort = hypothesis_kind ∷ []

-- what the nodes of each head are
abbrev pub signature : Head → Signature
signature head.Name = record { kind = name_kind; text = true; parts = record { first = []; rest = [] } }
signature head.Number = record { kind = number_kind; text = true; parts = record { first = []; rest = [] } }
signature head.Path = record { kind = path_kind; text = false; parts = record { first = name_sort ∷ []; rest = name_sort } }
signature head.Memory = record { kind = memory_kind; text = false; parts = record { first = name_sort ∷ []; rest = [] } }
signature head.PlainType = record { kind = type_kind; text = true; parts = record { first = []; rest = [] } }
signature head.IntType = record { kind = type_kind; text = false; parts = record { first = []; rest = number_sort } }
signature head.BitsType = record { kind = type_kind; text = false; parts = record { first = number_sort ∷ []; rest = [] } }
signature head.BracketedType = record { kind = type_bracket_kind; text = false; parts = record { first = []; rest = [] } }
signature head.MapType = record { kind = type_bracket_kind; text = false; parts = record { first = type_sort ∷ []; rest = [] } }
signature head.ProductType = record { kind = type_kind; text = false; parts = record { first = type_sort ∷ []; rest = type_sort } }
signature head.OptionType = record { kind = option_item_kind; text = false; parts = record { first = []; rest = [] } }
signature head.GlobType = record { kind = type_kind; text = false; parts = record { first = module_expression_sort ∷ []; rest = [] } }
signature head.Values = record { kind = bind_item_kind; text = false; parts = record { first = names_sort ∷ type_sort ∷ []; rest = [] } }
signature head.ModuleBind = record { kind = module_bind_item_kind; text = false; parts = record { first = path_sort ∷ paths_sort ∷ query_bounds_sort ∷ []; rest = [] } }
signature head.QueryBound = record { kind = query_bound_kind; text = false; parts = record { first = names_sort ∷ limits_sort ∷ []; rest = [] } }
signature head.Limit = record { kind = limit_kind; text = false; parts = record { first = name_sort ∷ name_sort ∷ names_sort ∷ number_sort ∷ []; rest = [] } }
signature head.Unit = record { kind = form_kind; text = false; parts = record { first = []; rest = [] } }
signature head.Coin = record { kind = form_kind; text = false; parts = record { first = []; rest = [] } }
signature head.Bracketed = record { kind = bracket_kind; text = false; parts = record { first = []; rest = [] } }
signature head.Typed = record { kind = bracket_kind; text = false; parts = record { first = type_sort ∷ []; rest = [] } }
signature head.Tuple = record { kind = bracket_kind; text = false; parts = record { first = form_sort ∷ []; rest = form_sort } }
signature head.Absolute = record { kind = form_kind; text = false; parts = record { first = form_sort ∷ []; rest = [] } }
signature head.Uniform = record { kind = form_kind; text = false; parts = record { first = type_sort ∷ []; rest = [] } }
signature head.Weights = record { kind = form_kind; text = false; parts = record { first = weight_sort ∷ []; rest = weight_sort } }
signature head.Weight = record { kind = weight_kind; text = false; parts = record { first = name_sort ∷ number_sort ∷ []; rest = [] } }
signature head.Equalities = record { kind = form_kind; text = false; parts = record { first = equated_sort ∷ []; rest = equated_sort } }
signature head.EquatedGlob = record { kind = equated_glob_kind; text = false; parts = record { first = module_expression_sort ∷ []; rest = [] } }
signature head.Glob = record { kind = form_kind; text = false; parts = record { first = module_expression_sort ∷ []; rest = [] } }
signature head.Function = record { kind = form_kind; text = false; parts = record { first = names_sort ∷ form_sort ∷ []; rest = [] } }
signature head.TypedFunction = record { kind = form_kind; text = false; parts = record { first = names_sort ∷ type_sort ∷ form_sort ∷ []; rest = [] } }
signature head.Quantified = record { kind = form_kind; text = true; parts = record { first = binds_sort ∷ form_sort ∷ []; rest = [] } }
signature head.Conditional = record { kind = form_kind; text = false; parts = record { first = form_sort ∷ form_sort ∷ form_sort ∷ []; rest = [] } }
signature head.Hoare = record { kind = form_kind; text = false; parts = record { first = subject_sort ∷ form_sort ∷ form_sort ∷ []; rest = [] } }
signature head.Phoare = record { kind = form_kind; text = false; parts = record { first = subject_sort ∷ form_sort ∷ form_sort ∷ []; rest = [] } }
signature head.Equiv = record { kind = form_kind; text = false; parts = record { first = subject_sort ∷ subject_sort ∷ form_sort ∷ form_sort ∷ []; rest = [] } }
signature head.Lossless = record { kind = form_kind; text = false; parts = record { first = procedure_sort ∷ []; rest = [] } }
signature head.Probability = record { kind = form_kind; text = false; parts = record { first = call_sort ∷ name_sort ∷ form_sort ∷ []; rest = [] } }
signature head.Block = record { kind = block_kind; text = false; parts = record { first = []; rest = statement_sort } }
signature head.Bounded = record { kind = bounded_kind; text = true; parts = record { first = form_sort ∷ []; rest = [] } }
signature head.Get = record { kind = entry_kind; text = false; parts = record { first = []; rest = [] } }
signature head.Set = record { kind = entry_kind; text = false; parts = record { first = form_sort ∷ []; rest = [] } }
signature head.Component = record { kind = suffix_kind; text = false; parts = record { first = number_sort ∷ []; rest = [] } }
signature head.ToReal = record { kind = suffix_kind; text = false; parts = record { first = []; rest = [] } }
signature head.Sided = record { kind = sided_kind; text = false; parts = record { first = []; rest = [] } }
signature head.Apply = record { kind = apply_kind; text = false; parts = record { first = form_sort ∷ []; rest = form_sort } }
signature head.Negative = record { kind = form_kind; text = false; parts = record { first = form_sort ∷ []; rest = [] } }
signature head.Product = record { kind = arithmetic_kind; text = false; parts = record { first = form_sort ∷ []; rest = [] } }
signature head.Quotient = record { kind = arithmetic_kind; text = false; parts = record { first = form_sort ∷ []; rest = [] } }
signature head.PowerProduct = record { kind = arithmetic_kind; text = false; parts = record { first = form_sort ∷ []; rest = [] } }
signature head.Sum = record { kind = arithmetic_kind; text = false; parts = record { first = form_sort ∷ []; rest = [] } }
signature head.Difference = record { kind = arithmetic_kind; text = false; parts = record { first = form_sort ∷ []; rest = [] } }
signature head.Xor = record { kind = arithmetic_kind; text = false; parts = record { first = form_sort ∷ []; rest = [] } }
signature head.Compared = record { kind = compared_kind; text = true; parts = record { first = form_sort ∷ []; rest = [] } }
signature head.Not = record { kind = form_kind; text = false; parts = record { first = form_sort ∷ []; rest = [] } }
signature head.And = record { kind = and_item_kind; text = false; parts = record { first = form_sort ∷ []; rest = [] } }
signature head.Or = record { kind = or_item_kind; text = false; parts = record { first = form_sort ∷ []; rest = [] } }
signature head.Implies = record { kind = implies_item_kind; text = false; parts = record { first = form_sort ∷ []; rest = [] } }
signature head.Iff = record { kind = iff_item_kind; text = false; parts = record { first = form_sort ∷ []; rest = [] } }
signature head.Chosen = record { kind = chosen_kind; text = false; parts = record { first = form_sort ∷ form_sort ∷ []; rest = [] } }
signature head.ModuleExpression = record { kind = module_expression_kind; text = false; parts = record { first = path_sort ∷ []; rest = module_expression_sort } }
signature head.ProcedurePath = record { kind = procedure_path0_kind; text = false; parts = record { first = []; rest = [] } }
signature head.FunctorPath = record { kind = functor_path0_kind; text = false; parts = record { first = module_expressions_sort ∷ name_sort ∷ []; rest = [] } }
signature head.Call = record { kind = call_end_kind; text = false; parts = record { first = []; rest = [] } }
signature head.FunctorCall = record { kind = functor_call_end_kind; text = false; parts = record { first = name_sort ∷ forms_sort ∷ []; rest = [] } }
signature head.Sample = record { kind = action_kind; text = false; parts = record { first = form_sort ∷ []; rest = [] } }
signature head.Store = record { kind = action_kind; text = false; parts = record { first = form_sort ∷ form_sort ∷ []; rest = [] } }
signature head.Assign = record { kind = writing_kind; text = false; parts = record { first = form_sort ∷ []; rest = [] } }
signature head.AssignCall = record { kind = writing_kind; text = false; parts = record { first = call_sort ∷ []; rest = [] } }
signature head.TupleStatement = record { kind = statement_kind; text = false; parts = record { first = paths_sort ∷ writing_sort ∷ []; rest = [] } }
signature head.If = record { kind = statement_kind; text = false; parts = record { first = form_sort ∷ statements_sort ∷ statements_sort ∷ []; rest = [] } }
signature head.While = record { kind = statement_kind; text = false; parts = record { first = form_sort ∷ form_sort ∷ []; rest = [] } }
signature head.Loop = record { kind = loop_item_kind; text = false; parts = record { first = []; rest = statement_sort } }
signature head.NamedLoop = record { kind = named_loop_kind; text = false; parts = record { first = statement_tail_sort ∷ []; rest = statement_sort } }
signature head.Require = record { kind = declaration_kind; text = false; parts = record { first = imports_sort ∷ names_sort ∷ []; rest = [] } }
signature head.Imported = record { kind = imported_kind; text = false; parts = record { first = []; rest = [] } }
signature head.TypeDeclaration = record { kind = declaration_kind; text = false; parts = record { first = name_sort ∷ type_definition_sort ∷ []; rest = [] } }
signature head.AbstractType = record { kind = type_definition_kind; text = false; parts = record { first = []; rest = [] } }
signature head.TypeAlias = record { kind = type_definition_kind; text = false; parts = record { first = type_sort ∷ []; rest = [] } }
signature head.Enumeration = record { kind = type_definition_kind; text = false; parts = record { first = name_sort ∷ []; rest = name_sort } }
signature head.OperatorDeclaration = record { kind = declaration_kind; text = false; parts = record { first = name_sort ∷ operator_sort ∷ []; rest = [] } }
signature head.DefinedOperator = record { kind = operator_kind; text = false; parts = record { first = all_variables_sort ∷ types_sort ∷ form_sort ∷ []; rest = [] } }
signature head.Constant = record { kind = operator_kind; text = false; parts = record { first = form_sort ∷ []; rest = [] } }
signature head.TypedConstant = record { kind = operator_item_kind; text = false; parts = record { first = form_sort ∷ []; rest = [] } }
signature head.AbstractOperator = record { kind = operator_item_kind; text = false; parts = record { first = []; rest = type_sort } }
signature head.Axiom = record { kind = declaration_kind; text = false; parts = record { first = name_sort ∷ binds_sort ∷ form_sort ∷ []; rest = [] } }
signature head.Lemma = record { kind = lemma_kind; text = false; parts = record { first = name_sort ∷ binds_sort ∷ form_sort ∷ []; rest = [] } }
signature head.Local = record { kind = declaration_kind; text = false; parts = record { first = local_sort ∷ []; rest = [] } }
signature head.Module = record { kind = module_item_kind; text = false; parts = record { first = module_parameters_sort ∷ paths_sort ∷ items_sort ∷ []; rest = [] } }
signature head.AscribedModule = record { kind = module_item_kind; text = false; parts = record { first = path_sort ∷ module_parameters_sort ∷ items_sort ∷ []; rest = [] } }
signature head.ModuleAlias = record { kind = alias_item_kind; text = false; parts = record { first = module_expression_sort ∷ []; rest = [] } }
signature head.ModuleType = record { kind = declaration_kind; text = false; parts = record { first = name_sort ∷ module_parameters_sort ∷ signatures_sort ∷ []; rest = [] } }
signature head.ModuleParameter = record { kind = module_parameter_kind; text = false; parts = record { first = name_sort ∷ path_sort ∷ []; rest = [] } }
signature head.Signature = record { kind = signature_kind; text = false; parts = record { first = name_sort ∷ formals_sort ∷ types_sort ∷ oracles_sort ∷ []; rest = [] } }
signature head.AllOracles = record { kind = oracles_kind; text = false; parts = record { first = []; rest = [] } }
signature head.Oracles = record { kind = oracles_kind; text = false; parts = record { first = []; rest = oracle_sort } }
signature head.Oracle = record { kind = oracle_kind; text = false; parts = record { first = name_sort ∷ name_sort ∷ []; rest = [] } }
signature head.Globals = record { kind = global_kind; text = false; parts = record { first = names_sort ∷ type_sort ∷ []; rest = [] } }
signature head.Procedure = record { kind = procedure_kind; text = false; parts = record { first = name_sort ∷ formals_sort ∷ types_sort ∷ all_variables_sort ∷ statements_sort ∷ forms_sort ∷ []; rest = [] } }
signature head.Formal = record { kind = formal_kind; text = false; parts = record { first = name_sort ∷ type_sort ∷ []; rest = [] } }
signature head.Variables = record { kind = variables_kind; text = false; parts = record { first = names_sort ∷ type_sort ∷ []; rest = [] } }
signature head.Termination = record { kind = declaration_kind; text = false; parts = record { first = path_sort ∷ []; rest = [] } }
signature head.Proof = record { kind = declaration_kind; text = false; parts = record { first = []; rest = [] } }
signature head.Qed = record { kind = declaration_kind; text = false; parts = record { first = []; rest = [] } }
signature head.Section = record { kind = declaration_kind; text = false; parts = record { first = []; rest = [] } }
signature head.EndSection = record { kind = declaration_kind; text = false; parts = record { first = []; rest = [] } }
signature head.Declare = record { kind = declaration_kind; text = false; parts = record { first = module_bind_sort ∷ []; rest = [] } }
signature head.AbstractTheory = record { kind = declaration_kind; text = false; parts = record { first = name_sort ∷ []; rest = [] } }
signature head.Theory = record { kind = declaration_kind; text = false; parts = record { first = name_sort ∷ []; rest = [] } }
signature head.EndTheory = record { kind = declaration_kind; text = false; parts = record { first = name_sort ∷ []; rest = [] } }
signature head.Clone = record { kind = declaration_kind; text = false; parts = record { first = imports_sort ∷ path_sort ∷ name_sort ∷ substitutions_sort ∷ realisations_sort ∷ []; rest = [] } }
signature head.TypeSubstitution = record { kind = substitution_kind; text = false; parts = record { first = name_sort ∷ type_sort ∷ []; rest = [] } }
signature head.OperatorSubstitution = record { kind = substitution_kind; text = false; parts = record { first = name_sort ∷ form_sort ∷ []; rest = [] } }
signature head.Realisation = record { kind = realisation_kind; text = false; parts = record { first = name_sort ∷ tactic_sort ∷ []; rest = [] } }
signature head.Undo = record { kind = declaration_kind; text = false; parts = record { first = number_sort ∷ []; rest = [] } }
signature head.Tactic = record { kind = tactic_kind; text = false; parts = record { first = step_sort ∷ []; rest = continuation_sort } }
signature head.Next = record { kind = continuation_kind; text = false; parts = record { first = step_sort ∷ []; rest = [] } }
signature head.Branches = record { kind = continuation_kind; text = false; parts = record { first = tactic_sort ∷ []; rest = tactic_sort } }
signature head.By = record { kind = step_kind; text = false; parts = record { first = step_sort ∷ []; rest = [] } }
signature head.Try = record { kind = step_kind; text = false; parts = record { first = step_sort ∷ []; rest = [] } }
signature head.Repeat = record { kind = step_kind; text = false; parts = record { first = number_sort ∷ step_sort ∷ []; rest = [] } }
signature head.Group = record { kind = step_kind; text = false; parts = record { first = tactic_sort ∷ []; rest = [] } }
signature head.Rule = record { kind = step_kind; text = false; parts = record { first = rule_sort ∷ introduction_sort ∷ []; rest = [] } }
signature head.NoIntroduction = record { kind = introduction_kind; text = false; parts = record { first = []; rest = [] } }
signature head.Introduction = record { kind = introduction_kind; text = false; parts = record { first = []; rest = pattern_sort } }
signature head.Drop = record { kind = pattern_kind; text = false; parts = record { first = []; rest = [] } }
signature head.TrivialPattern = record { kind = pattern_kind; text = false; parts = record { first = []; rest = [] } }
signature head.SmtPattern = record { kind = pattern_kind; text = false; parts = record { first = []; rest = [] } }
signature head.BothPatterns = record { kind = pattern_item_kind; text = false; parts = record { first = pattern_sort ∷ []; rest = [] } }
signature head.EitherPattern = record { kind = pattern_item_kind; text = false; parts = record { first = pattern_sort ∷ []; rest = [] } }
signature head.PlainStep = record { kind = rule_kind; text = true; parts = record { first = []; rest = [] } }
signature head.Move = record { kind = rule_kind; text = false; parts = record { first = []; rest = pattern_sort } }
signature head.Witness = record { kind = rule_kind; text = false; parts = record { first = form_sort ∷ []; rest = [] } }
signature head.ApplyLemma = record { kind = rule_kind; text = false; parts = record { first = form_sort ∷ []; rest = [] } }
signature head.HaveForm = record { kind = have_item_kind; text = false; parts = record { first = form_sort ∷ []; rest = [] } }
signature head.HaveLemma = record { kind = have_item_kind; text = false; parts = record { first = form_sort ∷ []; rest = [] } }
signature head.RewriteLemma = record { kind = rule_kind; text = false; parts = record { first = form_sort ∷ []; rest = [] } }
signature head.RewriteBack = record { kind = rule_kind; text = false; parts = record { first = form_sort ∷ []; rest = [] } }
signature head.RewriteHypothesis = record { kind = rule_kind; text = false; parts = record { first = name_sort ∷ []; rest = [] } }
signature head.RewriteOperator = record { kind = rule_kind; text = false; parts = record { first = path_sort ∷ []; rest = [] } }
signature head.RewriteLaw = record { kind = rule_kind; text = true; parts = record { first = []; rest = [] } }
signature head.RewriteSplit = record { kind = rule_kind; text = false; parts = record { first = form_sort ∷ []; rest = [] } }
signature head.Subst = record { kind = rule_kind; text = false; parts = record { first = name_sort ∷ []; rest = [] } }
signature head.CaseStep = record { kind = rule_kind; text = false; parts = record { first = bodies_sort ∷ form_sort ∷ []; rest = [] } }
signature head.Proc = record { kind = rule_kind; text = false; parts = record { first = bodies_sort ∷ forms_sort ∷ []; rest = [] } }
signature head.BodyStep = record { kind = rule_kind; text = true; parts = record { first = bodies_sort ∷ []; rest = [] } }
signature head.Seq = record { kind = rule_kind; text = false; parts = record { first = bodies_sort ∷ number_sort ∷ numbers_sort ∷ form_sort ∷ forms_sort ∷ []; rest = [] } }
signature head.WhileStep = record { kind = rule_kind; text = false; parts = record { first = bodies_sort ∷ form_sort ∷ []; rest = [] } }
signature head.Rnd = record { kind = rule_kind; text = false; parts = record { first = bodies_sort ∷ []; rest = form_sort } }
signature head.CallStep = record { kind = rule_kind; text = false; parts = record { first = bodies_sort ∷ call_rule_sort ∷ []; rest = [] } }
signature head.CallLemma = record { kind = call_rule_kind; text = false; parts = record { first = form_sort ∷ []; rest = [] } }
signature head.CallInvariant = record { kind = call_item_kind; text = false; parts = record { first = []; rest = [] } }
signature head.CallUpto = record { kind = call_item_kind; text = false; parts = record { first = form_sort ∷ []; rest = [] } }
signature head.CallContract = record { kind = call_item_kind; text = false; parts = record { first = form_sort ∷ []; rest = [] } }
signature head.Inline = record { kind = rule_kind; text = false; parts = record { first = bodies_sort ∷ procedures_sort ∷ []; rest = [] } }
signature head.Swap = record { kind = rule_kind; text = false; parts = record { first = bodies_sort ∷ number_sort ∷ distance_sort ∷ []; rest = [] } }
signature head.Forward = record { kind = distance_kind; text = false; parts = record { first = number_sort ∷ []; rest = [] } }
signature head.Backward = record { kind = distance_kind; text = false; parts = record { first = number_sort ∷ []; rest = [] } }
signature head.PositionStep = record { kind = rule_kind; text = true; parts = record { first = bodies_sort ∷ number_sort ∷ []; rest = [] } }
signature head.Conseq = record { kind = rule_kind; text = false; parts = record { first = bodies_sort ∷ forms_sort ∷ forms_sort ∷ forms_sort ∷ []; rest = [] } }
signature head.Transitivity = record { kind = rule_kind; text = false; parts = record { first = bodies_sort ∷ transitivity_sort ∷ []; rest = [] } }
signature head.PlainTransitivity = record { kind = contracts_kind; text = false; parts = record { first = form_sort ∷ contract_sort ∷ []; rest = [] } }
signature head.FunctorTransitivity = record { kind = functor_contracts_kind; text = false; parts = record { first = forms_sort ∷ name_sort ∷ contract_sort ∷ contract_sort ∷ []; rest = [] } }
signature head.Contract = record { kind = contract_kind; text = false; parts = record { first = form_sort ∷ form_sort ∷ []; rest = [] } }
signature head.ByStep = record { kind = rule_kind; text = true; parts = record { first = form_sort ∷ form_sort ∷ []; rest = [] } }
signature head.FelCounter = record { kind = fel_item_kind; text = false; parts = record { first = form_sort ∷ name_sort ∷ form_sort ∷ number_sort ∷ form_sort ∷ guards_sort ∷ form_sort ∷ []; rest = [] } }
signature head.FelBounds = record { kind = fel_item_kind; text = false; parts = record { first = procedures_sort ∷ form_sort ∷ form_sort ∷ form_sort ∷ []; rest = [] } }
signature head.Guard = record { kind = guard_kind; text = false; parts = record { first = procedure_sort ∷ form_sort ∷ []; rest = [] } }
signature head.Smt = record { kind = rule_kind; text = false; parts = record { first = []; rest = hint_sort } }
signature head.LemmaHint = record { kind = lemma_hint_kind; text = false; parts = record { first = form_sort ∷ []; rest = [] } }
signature head.Linear = record { kind = rule_kind; text = false; parts = record { first = []; rest = summand_sort } }
signature head.Scaled = record { kind = summand_kind; text = false; parts = record { first = number_sort ∷ numbers_sort ∷ name_sort ∷ []; rest = [] } }
signature head.ScaledBack = record { kind = summand_kind; text = false; parts = record { first = number_sort ∷ numbers_sort ∷ name_sort ∷ []; rest = [] } }
signature head.EagerCall = record { kind = rule_kind; text = false; parts = record { first = number_sort ∷ form_sort ∷ []; rest = [] } }
signature head.EagerWhile = record { kind = rule_kind; text = false; parts = record { first = number_sort ∷ form_sort ∷ []; rest = [] } }
signature head.Bodies = record { kind = bodies_kind; text = false; parts = record { first = []; rest = number_sort } }
signature head.Hypothesis = record { kind = hypothesis_kind; text = false; parts = record { first = name_sort ∷ form_sort ∷ []; rest = [] } }
signature head.List = record { kind = 114; text = false; parts = record { first = []; rest = [] } }

abbrev roles0 : ℕ → Role
roles0 n =
    (if nat_lt n 8 then (if nat_lt n 4 then (if nat_lt n 2 then (if nat_lt n 1 then whole
    else whole)
    else (if nat_lt n 3 then whole
    else whole))
    else (if nat_lt n 6 then (if nat_lt n 5 then whole
    else whole)
    else (if nat_lt n 7 then whole
    else whole)))
    else (if nat_lt n 12 then (if nat_lt n 10 then (if nat_lt n 9 then whole
    else whole)
    else (if nat_lt n 11 then whole
    else whole))
    else (if nat_lt n 14 then (if nat_lt n 13 then whole
    else whole)
    else (if nat_lt n 15 then whole
    else whole))))

abbrev roles1 : ℕ → Role
roles1 n =
    (if nat_lt n 24 then (if nat_lt n 20 then (if nat_lt n 18 then (if nat_lt n 17 then whole
    else whole)
    else (if nat_lt n 19 then whole
    else whole))
    else (if nat_lt n 22 then (if nat_lt n 21 then whole
    else whole)
    else (if nat_lt n 23 then whole
    else whole)))
    else (if nat_lt n 28 then (if nat_lt n 26 then (if nat_lt n 25 then whole
    else whole)
    else (if nat_lt n 27 then whole
    else whole))
    else (if nat_lt n 30 then (if nat_lt n 29 then whole
    else whole)
    else (if nat_lt n 31 then whole
    else whole))))

abbrev roles2 : ℕ → Role
roles2 n =
    (if nat_lt n 40 then (if nat_lt n 36 then (if nat_lt n 34 then (if nat_lt n 33 then whole
    else whole)
    else (if nat_lt n 35 then whole
    else whole))
    else (if nat_lt n 38 then (if nat_lt n 37 then whole
    else whole)
    else (if nat_lt n 39 then whole
    else whole)))
    else (if nat_lt n 44 then (if nat_lt n 42 then (if nat_lt n 41 then whole
    else whole)
    else (if nat_lt n 43 then whole
    else whole))
    else (if nat_lt n 46 then (if nat_lt n 45 then whole
    else whole)
    else (if nat_lt n 47 then item type_sort type_kind
    else item type_sort type_kind))))

abbrev roles3 : ℕ → Role
roles3 n =
    (if nat_lt n 56 then (if nat_lt n 52 then (if nat_lt n 50 then (if nat_lt n 49 then item name_sort bind_kind
    else item name_sort module_bind_kind)
    else (if nat_lt n 51 then item form_sort form_kind
    else item form_sort suffix_kind))
    else (if nat_lt n 54 then (if nat_lt n 53 then item side_sort suffix_kind
    else item form_sort form_kind)
    else (if nat_lt n 55 then item form_sort form_kind
    else item form_sort form_kind)))
    else (if nat_lt n 60 then (if nat_lt n 58 then (if nat_lt n 57 then item form_sort form_kind
    else item form_sort form_kind)
    else (if nat_lt n 59 then item form_sort form_kind
    else item form_sort form_kind))
    else (if nat_lt n 62 then (if nat_lt n 61 then item form_sort form_kind
    else item form_sort form_kind)
    else (if nat_lt n 63 then item form_sort form_kind
    else item form_sort loop_kind))))

abbrev roles4 : ℕ → Role
roles4 n =
    (if nat_lt n 72 then (if nat_lt n 68 then (if nat_lt n 66 then (if nat_lt n 65 then item name_sort loop_item_kind
    else item type_sort operator_kind)
    else (if nat_lt n 67 then item name_sort module_kind
    else item name_sort declaration_kind))
    else (if nat_lt n 70 then (if nat_lt n 69 then item pattern_sort pattern_kind
    else item name_sort rule_kind)
    else (if nat_lt n 71 then item number_sort rule_kind
    else item form_sort call_rule_kind)))
    else (if nat_lt n 76 then (if nat_lt n 74 then (if nat_lt n 73 then item name_sort worded_kind
    else item name_sort worded_kind)
    else (if nat_lt n 75 then item name_sort worded_kind
    else item forms_sort call0_kind))
    else (if nat_lt n 78 then (if nat_lt n 77 then item name_sort call1_kind
    else item name_sort call2_kind)
    else (if nat_lt n 79 then item name_sort call2_kind
    else item forms_sort functor_call0_kind))))

abbrev roles5 : ℕ → Role
roles5 n =
    (if nat_lt n 88 then (if nat_lt n 84 then (if nat_lt n 82 then (if nat_lt n 81 then item name_sort functor_call1_kind
    else item name_sort functor_call1_kind)
    else (if nat_lt n 83 then item name_sort procedure_path1_kind
    else item name_sort procedure_path2_kind))
    else (if nat_lt n 86 then (if nat_lt n 85 then item name_sort procedure_path2_kind
    else item name_sort functor_path1_kind)
    else (if nat_lt n 87 then item name_sort functor_path1_kind
    else item form_sort transitivity0_kind)))
    else (if nat_lt n 92 then (if nat_lt n 90 then (if nat_lt n 89 then item name_sort transitivity1_kind
    else item name_sort transitivity2_kind)
    else (if nat_lt n 91 then item name_sort transitivity2_kind
    else item form_sort functor_transitivity0_kind))
    else (if nat_lt n 94 then (if nat_lt n 93 then item name_sort functor_transitivity1_kind
    else item name_sort functor_transitivity1_kind)
    else (if nat_lt n 95 then list name_sort
    else list number_sort))))

abbrev roles6 : ℕ → Role
roles6 n =
    (if nat_lt n 104 then (if nat_lt n 100 then (if nat_lt n 98 then (if nat_lt n 97 then list path_sort
    else list type_sort)
    else (if nat_lt n 99 then list form_sort
    else list bind_sort))
    else (if nat_lt n 102 then (if nat_lt n 101 then list query_bound_sort
    else list limit_sort)
    else (if nat_lt n 103 then list module_expression_sort
    else list statement_sort)))
    else (if nat_lt n 108 then (if nat_lt n 106 then (if nat_lt n 105 then list imported_sort
    else list variables_sort)
    else (if nat_lt n 107 then list formal_sort
    else list item_sort))
    else (if nat_lt n 110 then (if nat_lt n 109 then list signature_sort
    else list module_parameter_sort)
    else (if nat_lt n 111 then list substitution_sort
    else list realisation_sort))))

abbrev roles7 : ℕ → Role
roles7 n =
    (if nat_lt n 113 then list procedure_sort
    else list guard_sort)

-- what the nodes of each kind are
abbrev pub role : ℕ → Role
role n = (if nat_lt n 64 then (if nat_lt n 32 then (if nat_lt n 16 then roles0 n else roles1 n) else (if nat_lt n 48 then roles2 n else roles3 n)) else (if nat_lt n 96 then (if nat_lt n 80 then roles4 n else roles5 n) else (if nat_lt n 112 then roles6 n else roles7 n)))

abbrev sorts0 : ℕ → List ValueSort
sorts0 n =
    (if nat_lt n 8 then (if nat_lt n 4 then (if nat_lt n 2 then (if nat_lt n 1 then one command_sort ∷ []
    else many (record { first = []; rest = [] }) ∷ [])
    else (if nat_lt n 3 then one declaration_sort ∷ []
    else many (record { first = []; rest = imported_sort }) ∷ []))
    else (if nat_lt n 6 then (if nat_lt n 5 then one imported_sort ∷ []
    else one declaration_sort ∷ [])
    else (if nat_lt n 7 then one type_definition_sort ∷ []
    else one type_definition_sort ∷ [])))
    else (if nat_lt n 12 then (if nat_lt n 10 then (if nat_lt n 9 then many (record { first = []; rest = name_sort }) ∷ []
    else one operator_sort ∷ [])
    else (if nat_lt n 11 then many (record { first = []; rest = variables_sort }) ∷ []
    else many (record { first = []; rest = variables_sort }) ∷ []))
    else (if nat_lt n 14 then (if nat_lt n 13 then one variables_sort ∷ []
    else one operator_item_sort ∷ [])
    else (if nat_lt n 15 then many (record { first = []; rest = type_sort }) ∷ []
    else one local_sort ∷ []))))

abbrev sorts1 : ℕ → List ValueSort
sorts1 n =
    (if nat_lt n 24 then (if nat_lt n 20 then (if nat_lt n 18 then (if nat_lt n 17 then one module_sort ∷ []
    else one module_item_sort ∷ [])
    else (if nat_lt n 19 then one declaration_sort ∷ []
    else one module_sort ∷ []))
    else (if nat_lt n 22 then (if nat_lt n 21 then one module_item_sort ∷ []
    else one module_rest_sort ∷ [])
    else (if nat_lt n 23 then one module_rest_sort ∷ []
    else many (record { first = []; rest = module_parameter_sort }) ∷ [])))
    else (if nat_lt n 28 then (if nat_lt n 26 then (if nat_lt n 25 then many (record { first = []; rest = module_parameter_sort }) ∷ []
    else many (record { first = []; rest = module_parameter_sort }) ∷ [])
    else (if nat_lt n 27 then one module_parameter_sort ∷ []
    else many (record { first = []; rest = module_parameter_sort }) ∷ []))
    else (if nat_lt n 30 then (if nat_lt n 29 then many (record { first = []; rest = module_parameter_sort }) ∷ []
    else many (record { first = []; rest = path_sort }) ∷ [])
    else (if nat_lt n 31 then many (record { first = []; rest = path_sort }) ∷ []
    else many (record { first = []; rest = signature_sort }) ∷ []))))

abbrev sorts2 : ℕ → List ValueSort
sorts2 n =
    (if nat_lt n 40 then (if nat_lt n 36 then (if nat_lt n 34 then (if nat_lt n 33 then one signature_sort ∷ []
    else one oracles_sort ∷ [])
    else (if nat_lt n 35 then many (record { first = []; rest = oracle_sort }) ∷ []
    else many (record { first = []; rest = oracle_sort }) ∷ []))
    else (if nat_lt n 38 then (if nat_lt n 37 then one oracle_sort ∷ []
    else many (record { first = []; rest = item_sort }) ∷ [])
    else (if nat_lt n 39 then one item_sort ∷ []
    else many (record { first = []; rest = formal_sort }) ∷ [])))
    else (if nat_lt n 44 then (if nat_lt n 42 then (if nat_lt n 41 then many (record { first = []; rest = formal_sort }) ∷ []
    else one formal_sort ∷ [])
    else (if nat_lt n 43 then many (record { first = []; rest = type_sort }) ∷ []
    else many (record { first = []; rest = variables_sort }) ∷ []))
    else (if nat_lt n 46 then (if nat_lt n 45 then one variables_sort ∷ []
    else many (record { first = []; rest = name_sort }) ∷ [])
    else (if nat_lt n 47 then many (record { first = []; rest = name_sort }) ∷ []
    else many (record { first = []; rest = form_sort }) ∷ []))))

abbrev sorts3 : ℕ → List ValueSort
sorts3 n =
    (if nat_lt n 56 then (if nat_lt n 52 then (if nat_lt n 50 then (if nat_lt n 49 then many (record { first = []; rest = substitution_sort }) ∷ []
    else many (record { first = []; rest = substitution_sort }) ∷ [])
    else (if nat_lt n 51 then one substitution_sort ∷ []
    else many (record { first = []; rest = realisation_sort }) ∷ []))
    else (if nat_lt n 54 then (if nat_lt n 53 then many (record { first = []; rest = realisation_sort }) ∷ []
    else one realisation_sort ∷ [])
    else (if nat_lt n 55 then many (record { first = []; rest = statement_sort }) ∷ []
    else one statement_sort ∷ [])))
    else (if nat_lt n 60 then (if nat_lt n 58 then (if nat_lt n 57 then one statement_sort ∷ []
    else one statement_tail_sort ∷ [])
    else (if nat_lt n 59 then one dotted_statement_sort ∷ []
    else one writing_sort ∷ []))
    else (if nat_lt n 62 then (if nat_lt n 61 then many (record { first = []; rest = statement_sort }) ∷ []
    else many (record { first = []; rest = statement_sort }) ∷ [])
    else (if nat_lt n 63 then one form_sort ∷ []
    else some (record { first = []; rest = variant_sort }) ∷ []))))

abbrev sorts4 : ℕ → List ValueSort
sorts4 n =
    (if nat_lt n 72 then (if nat_lt n 68 then (if nat_lt n 66 then (if nat_lt n 65 then many (record { first = []; rest = statement_sort }) ∷ []
    else some (record { first = []; rest = variant_sort }) ∷ [])
    else (if nat_lt n 67 then many (record { first = []; rest = statement_sort }) ∷ []
    else some (record { first = named_sort ∷ []; rest = variant_sort }) ∷ []))
    else (if nat_lt n 70 then (if nat_lt n 69 then one call_sort ∷ []
    else one call_tail_sort ∷ [])
    else (if nat_lt n 71 then one dotted_call_sort ∷ []
    else one functor_call_sort ∷ [])))
    else (if nat_lt n 76 then (if nat_lt n 74 then (if nat_lt n 73 then one call_arguments_sort ∷ []
    else one call_end_sort ∷ [])
    else (if nat_lt n 75 then one any_call_end_sort ∷ []
    else one functor_call_end_sort ∷ []))
    else (if nat_lt n 78 then (if nat_lt n 77 then many (record { first = form_sort ∷ []; rest = form_sort }) ∷ []
    else many (record { first = []; rest = form_sort }) ∷ [])
    else (if nat_lt n 79 then one form_sort ∷ []
    else many (record { first = []; rest = apply_sort }) ∷ []))))

abbrev sorts5 : ℕ → List ValueSort
sorts5 n =
    (if nat_lt n 88 then (if nat_lt n 84 then (if nat_lt n 82 then (if nat_lt n 81 then one form_sort ∷ []
    else one bracketed_sort ∷ [])
    else (if nat_lt n 83 then one bracket_sort ∷ []
    else one procedure_sort ∷ []))
    else (if nat_lt n 86 then (if nat_lt n 85 then one procedure_tail_sort ∷ []
    else one dotted_procedure_sort ∷ [])
    else (if nat_lt n 87 then one module_expression_sort ∷ []
    else many (record { first = []; rest = module_expression_sort }) ∷ [])))
    else (if nat_lt n 92 then (if nat_lt n 90 then (if nat_lt n 89 then many (record { first = []; rest = module_expression_sort }) ∷ []
    else many (record { first = []; rest = module_expression_sort }) ∷ [])
    else (if nat_lt n 91 then one module_expression_sort ∷ []
    else many (record { first = []; rest = module_expression_sort }) ∷ []))
    else (if nat_lt n 94 then (if nat_lt n 93 then many (record { first = []; rest = bind_sort }) ∷ []
    else many (record { first = []; rest = bind_sort }) ∷ [])
    else (if nat_lt n 95 then one bind_sort ∷ []
    else one memory_sort ∷ []))))

abbrev sorts6 : ℕ → List ValueSort
sorts6 n =
    (if nat_lt n 104 then (if nat_lt n 100 then (if nat_lt n 98 then (if nat_lt n 97 then one bind_item_sort ∷ []
    else one module_bind_item_sort ∷ [])
    else (if nat_lt n 99 then one module_bind_sort ∷ []
    else many (record { first = []; rest = path_sort }) ∷ []))
    else (if nat_lt n 102 then (if nat_lt n 101 then many (record { first = []; rest = path_sort }) ∷ []
    else one path_sort ∷ [])
    else (if nat_lt n 103 then many (record { first = []; rest = query_bound_sort }) ∷ []
    else many (record { first = []; rest = query_bound_sort }) ∷ [])))
    else (if nat_lt n 108 then (if nat_lt n 106 then (if nat_lt n 105 then one query_bound_sort ∷ []
    else many (record { first = []; rest = name_sort }) ∷ [])
    else (if nat_lt n 107 then many (record { first = []; rest = name_sort }) ∷ []
    else many (record { first = []; rest = limit_sort }) ∷ []))
    else (if nat_lt n 110 then (if nat_lt n 109 then many (record { first = []; rest = limit_sort }) ∷ []
    else one limit_sort ∷ [])
    else (if nat_lt n 111 then many (record { first = []; rest = name_sort }) ∷ []
    else many (record { first = []; rest = name_sort }) ∷ []))))

abbrev sorts7 : ℕ → List ValueSort
sorts7 n =
    (if nat_lt n 120 then (if nat_lt n 116 then (if nat_lt n 114 then (if nat_lt n 113 then one type_sort ∷ []
    else many (record { first = []; rest = type_sort }) ∷ [])
    else (if nat_lt n 115 then one type_sort ∷ []
    else many (record { first = []; rest = option_sort }) ∷ []))
    else (if nat_lt n 118 then (if nat_lt n 117 then one option_sort ∷ []
    else one type_sort ∷ [])
    else (if nat_lt n 119 then many (record { first = []; rest = number_sort }) ∷ []
    else one type_bracket_sort ∷ [])))
    else (if nat_lt n 124 then (if nat_lt n 122 then (if nat_lt n 121 then one form_sort ∷ []
    else one form_sort ∷ [])
    else (if nat_lt n 123 then one form_sort ∷ []
    else some (record { first = []; rest = tail_sort }) ∷ []))
    else (if nat_lt n 126 then (if nat_lt n 125 then some (record { first = []; rest = tail_sort }) ∷ []
    else some (record { first = []; rest = last_tail_sort }) ∷ [])
    else (if nat_lt n 127 then some (record { first = []; rest = last_tail_sort }) ∷ []
    else one form_sort ∷ []))))

abbrev sorts8 : ℕ → List ValueSort
sorts8 n =
    (if nat_lt n 136 then (if nat_lt n 132 then (if nat_lt n 130 then (if nat_lt n 129 then many (record { first = []; rest = or_sort }) ∷ []
    else one form_sort ∷ [])
    else (if nat_lt n 131 then many (record { first = []; rest = and_sort }) ∷ []
    else one form_sort ∷ []))
    else (if nat_lt n 134 then (if nat_lt n 133 then some (record { first = []; rest = compared_sort }) ∷ []
    else one form_sort ∷ [])
    else (if nat_lt n 135 then one form_sort ∷ some (record { first = []; rest = run_sort }) ∷ []
    else some (record { first = []; rest = run_sort }) ∷ [])))
    else (if nat_lt n 140 then (if nat_lt n 138 then (if nat_lt n 137 then some (record { first = []; rest = run_sort }) ∷ []
    else some (record { first = []; rest = run_sort }) ∷ [])
    else (if nat_lt n 139 then one form_sort ∷ []
    else some (record { first = []; rest = run_sort }) ∷ []))
    else (if nat_lt n 142 then (if nat_lt n 141 then one form_sort ∷ []
    else one suffix_sort ∷ [])
    else (if nat_lt n 143 then one entry_sort ∷ []
    else one suffix_sort ∷ []))))

abbrev sorts9 : ℕ → List ValueSort
sorts9 n =
    (if nat_lt n 152 then (if nat_lt n 148 then (if nat_lt n 146 then (if nat_lt n 145 then one suffix_sort ∷ []
    else one sided_sort ∷ [])
    else (if nat_lt n 147 then one side_sort ∷ []
    else one form_sort ∷ []))
    else (if nat_lt n 150 then (if nat_lt n 149 then one form_sort ∷ []
    else one bracketed_sort ∷ [])
    else (if nat_lt n 151 then one bracket_sort ∷ []
    else one bracketed_sort ∷ [])))
    else (if nat_lt n 156 then (if nat_lt n 154 then (if nat_lt n 153 then many (record { first = []; rest = form_sort }) ∷ []
    else many (record { first = form_sort ∷ []; rest = form_sort }) ∷ [])
    else (if nat_lt n 155 then many (record { first = []; rest = form_sort }) ∷ []
    else many (record { first = []; rest = weight_sort }) ∷ []))
    else (if nat_lt n 158 then (if nat_lt n 157 then one weight_sort ∷ []
    else many (record { first = []; rest = equated_sort }) ∷ [])
    else (if nat_lt n 159 then one equated_sort ∷ []
    else one subject_sort ∷ []))))

abbrev sorts10 : ℕ → List ValueSort
sorts10 n =
    (if nat_lt n 168 then (if nat_lt n 164 then (if nat_lt n 162 then (if nat_lt n 161 then one path_sort ∷ []
    else many (record { first = []; rest = name_sort }) ∷ [])
    else (if nat_lt n 163 then many (record { first = []; rest = path_sort }) ∷ []
    else many (record { first = []; rest = path_sort }) ∷ []))
    else (if nat_lt n 166 then (if nat_lt n 165 then one number_sort ∷ []
    else one name_sort ∷ [])
    else (if nat_lt n 167 then one tactic_sort ∷ []
    else many (record { first = []; rest = continuation_sort }) ∷ [])))
    else (if nat_lt n 172 then (if nat_lt n 170 then (if nat_lt n 169 then one continuation_sort ∷ []
    else many (record { first = []; rest = tactic_sort }) ∷ [])
    else (if nat_lt n 171 then one step_sort ∷ []
    else one introduction_sort ∷ []))
    else (if nat_lt n 174 then (if nat_lt n 173 then one introduction_sort ∷ []
    else many (record { first = []; rest = pattern_sort }) ∷ [])
    else (if nat_lt n 175 then one pattern_sort ∷ []
    else one pattern_sort ∷ []))))

abbrev sorts11 : ℕ → List ValueSort
sorts11 n =
    (if nat_lt n 184 then (if nat_lt n 180 then (if nat_lt n 178 then (if nat_lt n 177 then one pattern_item_sort ∷ []
    else one rule_sort ∷ [])
    else (if nat_lt n 179 then one bodies_sort ∷ []
    else one number_sort ∷ []))
    else (if nat_lt n 182 then (if nat_lt n 181 then one rule_sort ∷ one introduction_sort ∷ []
    else one have_item_sort ∷ one introduction_sort ∷ [])
    else (if nat_lt n 183 then one form_sort ∷ one introduction_sort ∷ []
    else one form_sort ∷ one introduction_sort ∷ [])))
    else (if nat_lt n 188 then (if nat_lt n 186 then (if nat_lt n 185 then some (record { first = []; rest = tail_sort }) ∷ one introduction_sort ∷ []
    else one form_sort ∷ one introduction_sort ∷ [])
    else (if nat_lt n 187 then some (record { first = []; rest = tail_sort }) ∷ one introduction_sort ∷ []
    else some (record { first = []; rest = last_tail_sort }) ∷ one introduction_sort ∷ []))
    else (if nat_lt n 190 then (if nat_lt n 189 then some (record { first = []; rest = last_tail_sort }) ∷ one introduction_sort ∷ []
    else one introduction_sort ∷ [])
    else (if nat_lt n 191 then many (record { first = []; rest = pattern_sort }) ∷ []
    else one form_sort ∷ []))))

abbrev sorts12 : ℕ → List ValueSort
sorts12 n =
    (if nat_lt n 200 then (if nat_lt n 196 then (if nat_lt n 194 then (if nat_lt n 193 then many (record { first = []; rest = argument_sort }) ∷ []
    else many (record { first = []; rest = argument_sort }) ∷ [])
    else (if nat_lt n 195 then many (record { first = []; rest = argument_sort }) ∷ []
    else one form_sort ∷ []))
    else (if nat_lt n 198 then (if nat_lt n 197 then one form_sort ∷ []
    else one form_sort ∷ [])
    else (if nat_lt n 199 then many (record { first = []; rest = suffix_sort }) ∷ []
    else some (record { first = bodies_sort ∷ []; rest = form_sort }) ∷ [])))
    else (if nat_lt n 204 then (if nat_lt n 202 then (if nat_lt n 201 then some (record { first = bodies_sort ∷ []; rest = form_sort }) ∷ []
    else some (record { first = []; rest = form_sort }) ∷ [])
    else (if nat_lt n 203 then one form_sort ∷ []
    else one form_sort ∷ []))
    else (if nat_lt n 206 then (if nat_lt n 205 then one form_sort ∷ []
    else many (record { first = []; rest = argument_sort }) ∷ [])
    else (if nat_lt n 207 then many (record { first = []; rest = argument_sort }) ∷ []
    else many (record { first = []; rest = form_sort }) ∷ []))))

abbrev sorts13 : ℕ → List ValueSort
sorts13 n =
    (if nat_lt n 216 then (if nat_lt n 212 then (if nat_lt n 210 then (if nat_lt n 209 then one form_sort ∷ one form_sort ∷ []
    else many (record { first = []; rest = argument_sort }) ∷ one form_sort ∷ [])
    else (if nat_lt n 211 then many (record { first = []; rest = argument_sort }) ∷ one form_sort ∷ []
    else many (record { first = []; rest = argument_sort }) ∷ one form_sort ∷ []))
    else (if nat_lt n 214 then (if nat_lt n 213 then many (record { first = []; rest = argument_sort }) ∷ one form_sort ∷ []
    else many (record { first = []; rest = argument_sort }) ∷ one form_sort ∷ [])
    else (if nat_lt n 215 then many (record { first = []; rest = argument_sort }) ∷ one form_sort ∷ []
    else many (record { first = []; rest = argument_sort }) ∷ one form_sort ∷ [])))
    else (if nat_lt n 220 then (if nat_lt n 218 then (if nat_lt n 217 then many (record { first = []; rest = argument_sort }) ∷ one form_sort ∷ []
    else one form_sort ∷ [])
    else (if nat_lt n 219 then one rule_sort ∷ []
    else one rule_sort ∷ []))
    else (if nat_lt n 222 then (if nat_lt n 221 then many (record { first = []; rest = form_sort }) ∷ []
    else many (record { first = []; rest = number_sort }) ∷ one form_sort ∷ many (record { first = []; rest = form_sort }) ∷ [])
    else (if nat_lt n 223 then one call_rule_sort ∷ []
    else one call_rule_sort ∷ []))))

abbrev sorts14 : ℕ → List ValueSort
sorts14 n =
    (if nat_lt n 232 then (if nat_lt n 228 then (if nat_lt n 226 then (if nat_lt n 225 then one call_item_sort ∷ []
    else many (record { first = []; rest = procedure_sort }) ∷ [])
    else (if nat_lt n 227 then one distance_sort ∷ []
    else many (record { first = []; rest = form_sort }) ∷ []))
    else (if nat_lt n 230 then (if nat_lt n 229 then many (record { first = []; rest = form_sort }) ∷ []
    else one contract_sort ∷ [])
    else (if nat_lt n 231 then one transitivity_sort ∷ []
    else one transitivity_tail_sort ∷ [])))
    else (if nat_lt n 236 then (if nat_lt n 234 then (if nat_lt n 233 then one functor_contracts_sort ∷ []
    else one dotted_transitivity_sort ∷ [])
    else (if nat_lt n 235 then one contracts_sort ∷ []
    else one name_sort ∷ []))
    else (if nat_lt n 238 then (if nat_lt n 237 then one fel_item_sort ∷ []
    else many (record { first = []; rest = guard_sort }) ∷ [])
    else (if nat_lt n 239 then many (record { first = []; rest = guard_sort }) ∷ []
    else one guard_sort ∷ []))))

abbrev sorts15 : ℕ → List ValueSort
sorts15 n =
    (if nat_lt n 247 then (if nat_lt n 243 then (if nat_lt n 241 then many (record { first = []; rest = procedure_sort }) ∷ []
    else (if nat_lt n 242 then many (record { first = []; rest = procedure_sort }) ∷ []
    else many (record { first = []; rest = hint_sort }) ∷ []))
    else (if nat_lt n 245 then (if nat_lt n 244 then one hint_sort ∷ []
    else many (record { first = []; rest = summand_sort }) ∷ [])
    else (if nat_lt n 246 then many (record { first = []; rest = summand_sort }) ∷ []
    else one summand_sort ∷ [])))
    else (if nat_lt n 250 then (if nat_lt n 248 then many (record { first = []; rest = number_sort }) ∷ []
    else (if nat_lt n 249 then one rule_sort ∷ []
    else []))
    else (if nat_lt n 252 then (if nat_lt n 251 then []
    else one bind_sort ∷ [])
    else (if nat_lt n 253 then one bind_item_sort ∷ []
    else one hypothesis_sort ∷ []))))

-- the sorts of the values of each part, which is found by its number
abbrev pub part_sorts : ℕ → List ValueSort
part_sorts n = (if nat_lt n 128 then (if nat_lt n 64 then (if nat_lt n 32 then (if nat_lt n 16 then sorts0 n else sorts1 n) else (if nat_lt n 48 then sorts2 n else sorts3 n)) else (if nat_lt n 96 then (if nat_lt n 80 then sorts4 n else sorts5 n) else (if nat_lt n 112 then sorts6 n else sorts7 n))) else (if nat_lt n 192 then (if nat_lt n 160 then (if nat_lt n 144 then sorts8 n else sorts9 n) else (if nat_lt n 176 then sorts10 n else sorts11 n)) else (if nat_lt n 224 then (if nat_lt n 208 then sorts12 n else sorts13 n) else (if nat_lt n 240 then sorts14 n else sorts15 n))))

abbrev pub signatures : Language
signatures = record { signature = signature; role = role }
