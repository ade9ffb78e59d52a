-- What the typing of a lemma's statement gives is typed.
use Rattle.std.proofs.Common.{◌≡◌, ℕ, suc, Bool, false, nat_lt, List, [], ◌∷◌, ◌++◌, length, map, Some, refl, ap, ◌∙◌, subst}
use Rattle.gb_core.specs.declared.place.Place.{Place}
use Rattle.gb_core.specs.declared.refusal.Why.TheVariants.{TooMany}
use Rattle.gb_core.specs.declared.ty.Ty.TheVariants as ty
use Rattle.gb_terms.specs.declared.decl.TypedName.{TypedName}
use Rattle.gb_terms.specs.declared.term.Term.{Term}
use Rattle.gb_terms.specs.Nodes.{term_nodes}
use Rattle.gb_goal.specs.declared.sequent.Sequent.{Sequent}
use Rattle.gb_goal.specs.Goal.Goal.{ambient as of_form}
use Rattle.gb_goal.specs.Binders.{binder_entries, with_declared_modules}
use Rattle.gb_goal.specs.Scope.{Declarations}
use Rattle.gb_script.specs.declared.head.Head.{Head}
use Rattle.gb_script.specs.declared.head.Head.TheVariants as head
use Rattle.gb_script.specs.declared.tree.Node.{Node}
use Rattle.gb_script.specs.Tree.{head_of, text_of, parts_of, place_of}
use Rattle.gb_meaning.specs.Names.{Name}
use Rattle.gb_meaning.specs.Written.{type_of}
use Rattle.gb_typing.specs.Programs.{HaveVariableTypes}
use Rattle.gb_meaning.specs.Naming.{AnyName}
use Rattle.gb_typing.specs.Naming.{IsAmong, EachGlobOf, TermNames}
use Rattle.gb_names.specs.declared.setting.Language.TheVariants.{Formula}
use Rattle.gb_elab_laws.specs.Speaking.{IsFirmScope}
use Rattle.gb_meaning.specs.Declared.{declared}
use Rattle.gb_meaning.specs.Truth.{has_module}
use Rattle.gb_typing.specs.Context.{Context}
use Rattle.gb_typing.specs.Typing.{IsForm}
use Rattle.gb_typing.specs.Sequents.{of_sequent, IsTypedSequent}
use Rattle.gb_typing.specs.Scopes.{context_of, is_declared, IsTypedScope}
use Rattle.gb_typing.proofs.TypedGoals.{goal_conclusion, goal_front}
use Rattle.gb_goal.specs.Answers.Answer.{given}
use Rattle.gb_names.specs.Environment.{ambient, statement}
use Rattle.gb_names.specs.Environment.Memories.{outside}
use Rattle.gb_elab.specs.Forms.{elaborated}
use Rattle.gb_elab_mod.specs.Lemmas.{claimed, lemma_name, name_in, stated, statement_by, statement_given}
use Rattle.gb_elab_prog.specs.Fresh.{free}
use Rattle.gb_elab_prog.specs.Sizes.{small}
use Rattle.gb_elab_prog.specs.declared.context.Bound.{Bound}
use Rattle.gb_elab_prog.specs.Contexts.{all_bound, around, in_context, nothing_bound}
use Rattle.gb_elab_prog.specs.Contexts.{context_of as bound_context}
use Rattle.gb_elab_laws.proofs.Given.{given_bind, given_is, if_refused, not_given}
use Rattle.gb_elab_laws.specs.Fitting.{Allows, MayStand, IsGiven, of_each_module}
use Rattle.gb_arguments.specs.Arguments.{names_of}
use Rattle.gb_elab_laws.specs.Procedures.{IsOfProcedures}
use Rattle.gb_elab_laws.proofs.BoundModules.{IsBound, all_typed, none_typed}
use Rattle.gb_elab_laws.proofs.Fits.{bound_stand, context_fits, is_bound, nothing_read, reading_fits}
use Rattle.gb_elab_laws.proofs.Forms.{elaborated_typed}
use Rattle.gb_elab_laws.proofs.Members.{free_is}
use Rattle.gb_elab_laws.proofs.Types.{have_finite}
use Rattle.gb_elab_laws.proofs.Procedures.{bodies_speak, judges_procedures}
use Rattle.gb_elab_laws.proofs.Quantified.{variables_with}
use Rattle.gb_elab_laws.proofs.Shapes.{form_names, variable_form}

-- What a lemma states: a typed goal, which is a truth without a quantifier over modules in front, under a free name. Its modules may be
-- declared behind the others, and then it is a typed goal without them.
pub record IsStated (ds : Declarations) (n : List ℕ) (q : Sequent) : Type 0 where
  pub scope : IsTypedScope (declared ds) → IsTypedScope (declared (ds ++ binder_entries q.modules))
  pub goal : IsTypedScope (declared ds) → IsTypedSequent (context_of (declared (ds ++ binder_entries q.modules))) (with_declared_modules q)
  pub truth : IsTypedScope (declared ds) → type_of q.conclusion ≡ ty.Bool
  pub front : IsTypedScope (declared ds) → has_module q.conclusion ≡ false
  pub free : is_declared (declared ds) n ≡ false
  pub speaks : IsTypedScope (declared ds) → IsFirmScope ds → IsOfProcedures q

-- no local of a memory is read
abbrev no_locals : List Name → List (List TypedName)
no_locals ms = map (λ (m : Name). []) ms

as_many : (ms : List Name) → length (no_locals ms) ≡ length ms
as_many [] = refl
as_many (m ∷ ms) = ap suc (as_many ms)

-- the context of what is bound, where its modules are declared
abbrev within : Context → Bound → Context
within c b = of_sequent c (bound_context b) (no_locals b.memories)

-- a form in a context is a typed goal
form_typed : (c : Context) (b : Bound) (f : Term) → HaveVariableTypes b.values → IsForm (within c b) f → IsTypedSequent c (with_declared_modules (in_context b f))
form_typed c b f h w = record {
  modules = tt;
  logical = have_finite b.values h;
  frames = no_locals b.memories;
  memories = as_many b.memories;
  hyps = tt;
  conclusion = goal_conclusion (within c b) [] [] (of_form f) w;
}

-- variables of such types speak of no globals but of those that may stand together
values_named : (globs : Name → Bool) (vs : List TypedName) → HaveVariableTypes vs → EachGlobOf (Allows globs) vs
values_named globs [] h = tt
values_named globs (v ∷ vs) h = (form_names globs v.ty (variable_form globs v.ty h.0), values_named globs vs h.1)

of_procedures : (c : Context) (b : Bound) (f : Term) → HaveVariableTypes b.values → IsForm (within c b) f → TermNames (IsAmong (names_of b.modules)) AnyName f → IsOfProcedures (in_context b f)
of_procedures c b f h w k = record {
  hyps = refl;
  bodies = judges_procedures (within c b) f w.typed;
  front = goal_front (within c b) [] [] (of_form f) w;
  speaks = record {
    logical = values_named (is_bound b.modules) b.values h;
    hyps = tt;
    conclusion = k;
    bodies = bodies_speak (IsAmong (names_of b.modules)) (within c b) f w.typed;
  };
}

-- a form in the context of what is bound, where its modules are declared
module _ (ds : Declarations) (b : Bound) (t : Node) (f : Term) (e : elaborated t (statement (around ds b) (bound_context b)) [] (Some ty.Bool) ≡ given f) where
  abbrev c : Context
  c = context_of (declared (around ds b))

  claim_typed : (globs : Name → Bool) → MayStand globs (around ds b) → IsBound ds b → IsGiven globs (within c b) Formula (Some ty.Bool) f
  claim_typed globs stand h =
      let at = bound_context b in
      let fits = context_fits globs (around ds b) at (no_locals b.memories) (as_many b.memories) refl nothing_read (variables_with globs b.values h.values) stand h.scope in
      elaborated_typed t (within c b) (statement (around ds b) at) [] (reading_fits outside (within c b) (ambient (around ds b) at) [] fits) (Some ty.Bool) tt f e

  claim_form : IsBound ds b → IsForm (within c b) f
  claim_form h = let g = claim_typed of_each_module (λ a k. refl) h in record { typed = g.typed; truth = g.wanted }

  -- it speaks of the globals of the modules that are bound alone
  claim_speaks : IsFirmScope ds → IsBound ds b → TermNames (IsAmong (names_of b.modules)) AnyName f
  claim_speaks firm h = let g = claim_typed (is_bound b.modules) (bound_stand ds b.modules firm) h in g.apart

  claim_stated : (n : List ℕ) → is_declared (declared ds) n ≡ false → (IsTypedScope (declared ds) → IsBound ds b) → IsStated ds n (in_context b f)
  claim_stated n free h = record {
    scope = λ w. (let k = h w in k.scope);
    goal = λ w. (let k = h w in form_typed c b f k.values (claim_form k));
    truth = λ w. (let k = claim_form (h w) in k.truth);
    front = λ w. goal_front (within c b) [] [] (of_form f) (claim_form (h w));
    free = free;
    speaks = λ w firm. (let k = h w in of_procedures c b f k.values (claim_form k) (claim_speaks firm k));
  }

stated_typed : (ds : Declarations) (x : Node) (bs : List Node) (t : Node) (q : Sequent) → stated ds x bs t ≡ given q → IsStated ds (text_of x) q
unfolding stated claimed
stated_typed ds x bs t q h =
    let n = given_bind (free ds x) _ q h in
    let a = given_bind (all_bound ds nothing_bound bs) _ q n.2 in
    let b : Bound = a.0 in
    let f = given_bind (elaborated t (statement (around ds b) (bound_context b)) [] (Some ty.Bool)) _ q a.2 in
    let s = given_bind (small f.0) (λ (y : Term). given (in_context b y)) q f.2 in
    let k = if_refused (nat_lt 65536 (term_nodes f.0)) (TooMany 65536) (record { file = 0; line = 0; col = 0 }) (given f.0) s.0 s.1 in
    let e : in_context b f.0 ≡ q = ap (in_context b) (given_is f.0 s.0 k.1) ∙ given_is (in_context b s.0) q s.2 in
    subst (IsStated ds (text_of x)) e (claim_stated ds b t f.0 f.1 (text_of x) (free_is ds x n.0 n.1) (λ w. all_typed ds w nothing_bound b bs a.1 (none_typed ds w)))

of_parts : (ds : Declarations) (h : Head) (xs : List Node) (p : Place) (q : Sequent) → statement_by ds h xs p ≡ given q → IsStated ds (name_in xs) q
of_parts ds head.Lemma (x ∷ bs ∷ t ∷ []) p q h = stated_typed ds x (parts_of bs) t q h
of_parts ds _ _ p q h = absurd (not_given _ _ q h)

pub statement_is : (ds : Declarations) (t : Node) (q : Sequent) → statement_given ds t ≡ given q → IsStated ds (lemma_name t) q
statement_is ds t q h = of_parts ds (head_of t) (parts_of t) (place_of t) q h
