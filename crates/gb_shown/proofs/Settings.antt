-- Settings of forms that are named: those of programs, of operators, of lemmas and of proof steps.
use Rattle.std.proofs.Common.{◌≡◌, true, List, [], ◌∷◌, ◌++◌, refl}
use Rattle.std.specs.List.{AllByRecursion}
use Rattle.gb_core.specs.declared.ty.Ty as X
use Rattle.gb_core.specs.declared.ty.Ty.TheVariants as ty
use Rattle.gb_core.specs.declared.value.Value as V
use Rattle.gb_core.specs.declared.value.Value.{out-Value}
use Rattle.gb_core.specs.declared.value.Value.TheVariants as value
use Rattle.gb_terms.specs.declared.decl.Module.{Module}
use Rattle.gb_terms.specs.declared.decl.TypedName.{TypedName}
use Rattle.gb_terms.specs.declared.module.Bind.{Bind}
use Rattle.gb_terms.specs.declared.term.Head.TheVariants as head
use Rattle.gb_terms.specs.declared.term.Term.{Term}
use Rattle.gb_terms.specs.Make.{truth_literal}
use Rattle.gb_goal.specs.Binders.{binder_entries}
use Rattle.gb_goal.specs.Scope.{Declarations}
use Rattle.gb_goal.specs.declared.sequent.Sequent.{Sequent}
use Rattle.gb_names.specs.Environment.{ambient, of_function, of_operator, program, relational, statement, unary}
use Rattle.gb_names.specs.Names.{unit}
use Rattle.gb_elab_prog.specs.declared.context.Bound.{Bound}
use Rattle.gb_elab_prog.specs.Contexts.{context_of, in_context, nothing_around}
use Rattle.gb_print_names.specs.declared.bound_names.Enumeration.{Enumeration}
use Rattle.gb_print.specs.Written.{is_name_text, is_path, IsWrittenLiteral}
use Rattle.gb_shown.specs.Named.{IsNamed, IsNamedVariable, IsNamedBind, IsNamedSequent}
use Rattle.gb_shown.proofs.Rows.{goal_named}
use Rattle.gb_shown.proofs.Sequents.{all_append}
use Rattle.gb_shown.proofs.SpeltTrees.{node_named}
use Rattle.gb_shown.specs.Scopes.{IsNamedLocal, IsNamedModule, IsNamedEntry, IsNamedScope, IsNamedSetting}
use Rattle.gb_shown.proofs.Later.{all_so}
use Rattle.gb_shown.proofs.Paths.{name_is_path}

-- variables of named types and names may be read
pub as_locals : (vs : List TypedName) → AllByRecursion IsNamedVariable vs → AllByRecursion IsNamedLocal vs
as_locals vs k = all_so IsNamedVariable IsNamedLocal (λ v h. (name_is_path v.name h.0, h.1)) vs k

-- what is bound by the binders of a lemma
pub record IsNamedBound (b : Bound) : Type 0 where
  pub values : AllByRecursion IsNamedVariable b.values
  pub memories : AllByRecursion (λ m. is_name_text m ≡ true) b.memories
  pub modules : AllByRecursion IsNamedBind b.modules

module _ (es : List Enumeration) where
  truth_here : IsWrittenLiteral es ty.Bool (value.Num 1) (out-Value (value.Num 1))
  unfolding X.out-Ty V.out-Value denote.Hole.Carrier.out
  truth_here = refl

  unit_here : IsWrittenLiteral es ty.Unit (value.Num 0) (out-Value (value.Num 0))
  unfolding X.out-Ty V.out-Value denote.Hole.Carrier.out
  unit_here = refl

  truth_named : IsNamed es (truth_literal true)
  truth_named = node_named es (head.Lit (value.Num 1)) [] ty.Bool (tt, truth_here) tt tt

  pub unit_named : IsNamed es unit
  unit_named = node_named es (head.Lit (value.Num 0)) [] ty.Unit (tt, unit_here) tt tt

  pub in_context_named : (b : Bound) → IsNamedBound b → (f : Term) → IsNamed es f → IsNamedSequent es (in_context b f)
  in_context_named b k f h = record { variables = k.values; memories = k.memories; modules = k.modules; hyps = tt; conclusion = goal_named es f h }

  pub context_named : (b : Bound) → IsNamedBound b → IsNamedSequent es (context_of b)
  context_named b k = record { variables = k.values; memories = k.memories; modules = tt; hyps = tt; conclusion = goal_named es (truth_literal true) truth_named }

  pub nothing_named : IsNamedSequent es nothing_around
  nothing_named = record { variables = tt; memories = tt; modules = tt; hyps = tt; conclusion = goal_named es (truth_literal true) truth_named }

  binders_named : (bs : List Bind) → AllByRecursion IsNamedBind bs → IsNamedScope es (binder_entries bs)
  binders_named [] l = tt
  binders_named (b ∷ bs) l = let n = l.0 in ((name_is_path b.name n.name, n), binders_named bs l.1)

  module _ (ds : Declarations) (k : IsNamedScope es ds) where
    -- what is declared, and the abstract modules that are bound
    pub seen_named : (bs : List Bind) → AllByRecursion IsNamedBind bs → IsNamedScope es (ds ++ binder_entries bs)
    seen_named bs l = all_append (λ d. (is_path d.0 ≡ true) × IsNamedEntry es d.1) ds (binder_entries bs) k (binders_named bs l)

    pub program_named : (m : Module) → IsNamedModule es m → (q : Sequent) → IsNamedSequent es q → (vs : List TypedName) → AllByRecursion IsNamedVariable vs → IsNamedSetting es (program ds m q vs)
    program_named m h q n vs l = record { scope = k; around = h; context = n; variables = as_locals vs l }

    pub operator_named : (q : Sequent) → IsNamedSequent es q → IsNamedSetting es (of_operator ds q)
    operator_named q n = record { scope = k; around = tt; context = n; variables = tt }

    pub statement_named : (q : Sequent) → IsNamedSequent es q → IsNamedSetting es (statement ds q)
    statement_named q n = record { scope = k; around = tt; context = n; variables = tt }

    pub ambient_named : (q : Sequent) → IsNamedSequent es q → IsNamedSetting es (ambient ds q)
    ambient_named q n = record { scope = k; around = tt; context = n; variables = tt }

    pub unary_named : (q : Sequent) → IsNamedSequent es q → (vs : List TypedName) → AllByRecursion IsNamedLocal vs → IsNamedSetting es (unary ds q vs)
    unary_named q n vs l = record { scope = k; around = tt; context = n; variables = l }

    pub relational_named : (q : Sequent) → IsNamedSequent es q → (ls rs : List TypedName) → AllByRecursion IsNamedLocal ls → AllByRecursion IsNamedLocal rs → IsNamedSetting es (relational ds q ls rs)
    relational_named q n ls rs l r = record { scope = k; around = tt; context = n; variables = (l, r) }

    pub function_named : (q : Sequent) → IsNamedSequent es q → (ls rs : List TypedName) → AllByRecursion IsNamedLocal ls → AllByRecursion IsNamedLocal rs → IsNamedSetting es (of_function ds q ls rs)
    function_named q n ls rs l r = record { scope = k; around = tt; context = n; variables = (l, r) }
