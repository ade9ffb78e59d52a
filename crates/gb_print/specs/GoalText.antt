-- Goals: the context by kind, one entry a line, and the conclusion.
use Rattle.std.specs.Prelude.{List, [], ◌∷◌, ◌++◌, map, codes}
use Rattle.gb_terms.specs.declared.decl.TypedName.{TypedName}
use Rattle.gb_terms.specs.declared.module.Bind.{Bind}
use Rattle.gb_terms.specs.declared.term.Term.{Term}
use Rattle.gb_goal.specs.declared.sequent.Hyp.{Hyp}
use Rattle.gb_goal.specs.declared.sequent.Sequent.{Sequent}
use Rattle.gb_goal.specs.Scope.{Declarations}
use Rattle.gb_print_names.specs.declared.bound_names.Enumeration.{Enumeration}
use Rattle.gb_print_names.specs.declared.bound_names.Known.{Known}
use Rattle.gb_print_names.specs.Text.{Text, Writing, ◌▸◌, each, word}
use Rattle.gb_print_names.specs.BoundNames.{Name, Place}
use Rattle.gb_print_names.specs.Types.{type_text}
use Rattle.gb_print_names.specs.Modules.{abstract_module}
use Rattle.gb_print.specs.FormText.{form_text}

abbrev pub end_of_line : Writing
end_of_line = word (codes "\n")

abbrev pub typed_names : List TypedName → List Name
typed_names vs = map (λ v. v.name) vs

-- these names, and behind them those of an enumeration: its own, and its constants
abbrev pub with_enumeration : Enumeration → List Name → List Name
with_enumeration e ns = (ns ++ e.name ∷ []) ++ e.constants

abbrev pub with_enumerations : List Enumeration → List Name → List Name
with_enumerations es = each with_enumeration es

-- the place of a form that stands by itself
abbrev pub place_of_form : Declarations → List Enumeration → List TypedName → List Name → Place
place_of_form ds es vs ms = record { declared = ds; enumerations = es; logical = vs; memories = ms; taken = with_enumerations es (typed_names vs ++ ms); bound = [] }

-- the names of a context
abbrev pub context_names : Sequent → List Name
context_names s = ((typed_names s.logical ++ s.memories) ++ map (λ b. b.name) s.modules) ++ map (λ h. h.name) s.hyps

-- the place of the forms of a goal
abbrev pub place_of_goal : Declarations → List Enumeration → Sequent → Place
place_of_goal ds es s = record { declared = ds; enumerations = es; logical = s.logical; memories = s.memories; taken = with_enumerations es (context_names s); bound = [] }

abbrev pub variable_line : List Known → TypedName → Writing
variable_line bound v = word v.name ▸ word (codes " : ") ▸ type_text v.ty bound ▸ end_of_line

abbrev pub memory_line : Name → Writing
memory_line m = word (codes "&") ▸ word m ▸ end_of_line

abbrev pub module_line : List Known → Bind → Writing
module_line bound b = abstract_module bound b.name b ▸ end_of_line

abbrev pub hypothesis_line : Place → Hyp → Writing
hypothesis_line at h = word h.name ▸ word (codes " : ") ▸ form_text h.form at ▸ end_of_line

-- a goal
abbrev pub goal_text : Place → Sequent → Writing
goal_text at s =
    each (variable_line at.bound) s.logical ▸ each memory_line s.memories ▸ each (module_line at.bound) s.modules
    ▸ each (hypothesis_line at) s.hyps ▸ word (codes "---\n") ▸ form_text s.conclusion at ▸ end_of_line

-- the bytes of a form
abbrev pub printed_form : Declarations → List Enumeration → List TypedName → List Name → Term → Text
printed_form ds es vs ms t = form_text t (place_of_form ds es vs ms) []

-- the bytes of a goal
abbrev pub printed_goal : Declarations → List Enumeration → Sequent → Text
printed_goal ds es s = goal_text (place_of_goal ds es s) s []
