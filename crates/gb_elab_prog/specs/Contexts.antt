-- The context that the binders of a lemma make.
use Rattle.std.specs.Prelude.{ℕ, true, if◌then◌else◌, List, [], ◌∷◌, ◌++◌, None, bytes_eq}
use Rattle.std.specs.List.{list_any}
use Rattle.gb_core.specs.declared.place.Place.{Place}
use Rattle.gb_core.specs.declared.refusal.Why.TheVariants.{DoubleName}
use Rattle.gb_terms.specs.declared.module.Bind.{Bind}
use Rattle.gb_terms.specs.declared.term.Term.{Term}
use Rattle.gb_terms.specs.Make.{truth_literal}
use Rattle.gb_goal.specs.Answers.{Answer, ◌>>=◌, not_built}
use Rattle.gb_goal.specs.Answers.Answer.{given, refused}
use Rattle.gb_goal.specs.Binders.{binder_entries, with_declared_modules}
use Rattle.gb_goal.specs.Scope.{Declarations, entry_of}
use Rattle.gb_goal.specs.declared.sequent.Sequent.{Sequent}
use Rattle.gb_script.specs.declared.head.Head.{Head}
use Rattle.gb_script.specs.declared.head.Head.TheVariants as head
use Rattle.gb_script.specs.declared.tree.Node.{Node}
use Rattle.gb_script.specs.Tree.{head_of, text_of, parts_of, place_of}
use Rattle.gb_names.specs.Binders.{of_type}
use Rattle.gb_names.specs.Names.{no_declared, spelled_by}
use Rattle.gb_names.specs.Types.{type_of}
use Rattle.gb_elab_prog.specs.declared.context.Bound.{Bound}
use Rattle.gb_elab_prog.specs.Bound.{is_module}
use Rattle.gb_elab_prog.specs.Fresh.{free}
use Rattle.gb_elab_prog.specs.ModuleTypes.{module_type_at}

-- a name that none of these is
abbrev pub untaken : List (List ℕ) → Node → Answer (Unit {0})
untaken ns x = if list_any (bytes_eq (text_of x)) ns then refused (DoubleName (text_of x)) (place_of x) else given tt

-- names that are taken, and behind them these words, none of which is taken before it
abbrev pub taken : List (List ℕ) → List Node → Answer (List (List ℕ))
taken ns [] = given ns
taken ns (x ∷ xs) = do
  _ ← untaken ns x
  taken (ns ++ text_of x ∷ []) xs

-- values of one type, beside what is bound: their names are tested first
abbrev pub values_bound : Declarations → Bound → Node → List Node → Node → Answer Bound
values_bound ds b x xs t = do
  ns ← taken b.names (x ∷ [])
  all ← taken ns xs
  u ← type_of ds t
  given (record b { names = all; values = b.values ++ of_type (x ∷ xs) u })

-- a memory, beside what is bound
abbrev pub memory_bound : Bound → Node → Answer Bound
memory_bound b x = do
  ns ← taken b.names (x ∷ [])
  given (record b { names = ns; memories = b.memories ++ text_of x ∷ [] })

-- the declarations, and the abstract modules that are bound
abbrev pub around : Declarations → Bound → Declarations
around ds b = ds ++ binder_entries b.modules

-- a module whose globals an abstract one doesn't touch: a declared one, or one that is bound before
abbrev pub excluded : Declarations → List Bind → Node → Answer (List ℕ)
excluded ds bs m =
    if is_module (entry_of (ds ++ binder_entries bs) (spelled_by m)) then given (spelled_by m) else refused (no_declared None ds (spelled_by m)) (place_of m)

-- .. behind others
abbrev pub all_excluded : Declarations → List Bind → List (List ℕ) → List Node → Answer (List (List ℕ))
all_excluded ds bs ns [] = given ns
all_excluded ds bs ns (m ∷ ms) = excluded ds bs m >>= λ n. all_excluded ds bs (ns ++ n ∷ []) ms

-- bounds on calls aren't built yet
abbrev pub unbounded : List Node → Answer (Unit {0})
unbounded [] = given tt
unbounded (q ∷ qs) = not_built (place_of q)

-- an abstract module, which excludes these modules
abbrev pub binder : Node → Node → List (List ℕ) → Bind
binder x t ns = record { name = text_of x; ty = spelled_by t; minus = ns; bounds = [] }

-- an abstract module, beside what is bound, under a name that nothing has
abbrev pub module_bound : Declarations → Bound → Node → Node → List Node → List Node → Answer Bound
module_bound ds b x t ms qs = do
  ns ← taken b.names (x ∷ [])
  _ ← free (around ds b) x
  _ ← module_type_at ds t
  es ← all_excluded ds b.modules [] ms
  _ ← unbounded qs
  given (record b { names = ns; modules = b.modules ++ binder x t es ∷ [] })

-- what a binder binds beside others
abbrev pub bound_by : Declarations → Bound → Head → List Node → Place → Answer Bound
bound_by ds b head.Values (x ∷ xs ∷ t ∷ []) p = values_bound ds b x (parts_of xs) t
bound_by ds b head.Memory (x ∷ []) p = memory_bound b x
bound_by ds b head.ModuleBind (x ∷ t ∷ ms ∷ qs ∷ []) p = module_bound ds b x t (parts_of ms) (parts_of qs)
bound_by ds b _ ps p = not_built p

-- what several binders bind, in the order of the text
unfoldable pub all_bound : Declarations → Bound → List Node → Answer Bound
all_bound ds b [] = given b
all_bound ds b (x ∷ xs) = bound_by ds b (head_of x) (parts_of x) (place_of x) >>= λ c. all_bound ds c xs

-- nothing is bound
abbrev pub nothing_bound : Bound
nothing_bound = record { names = []; values = []; memories = []; modules = [] }

-- a conclusion in the context of what is bound
abbrev pub in_context : Bound → Term → Sequent
in_context b t = record { logical = b.values; memories = b.memories; modules = b.modules; hyps = []; conclusion = t }

-- the context of what is bound, with no claim, where its modules are declared
abbrev pub context_of : Bound → Sequent
context_of b = with_declared_modules (in_context b (truth_literal true))

-- a conclusion in the empty context
abbrev pub alone : Term → Sequent
alone t = record { logical = []; memories = []; modules = []; hyps = []; conclusion = t }

-- the empty context, with no claim
abbrev pub nothing_around : Sequent
nothing_around = alone (truth_literal true)
