-- Typed forms under quantifiers.
use Rattle.std.proofs.Common.{◌≡◌, ℕ, zero, suc, Bool, true, List, [], ◌∷◌, ◌++◌, reverse, None, Some, refl, ap, sym, ◌∙◌, subst}
use Rattle.std.proofs.lemmas.List.{append_assoc, reverse-append}
use Rattle.gb_core.specs.declared.place.Place.{Place}
use Rattle.gb_core.specs.declared.refusal.Why.TheVariants.{Argument}
use Rattle.gb_core.specs.declared.ty.Ty.{Ty}
use Rattle.gb_core.specs.declared.ty.Ty.TheVariants as ty
use Rattle.gb_terms.specs.declared.decl.TypedName.{TypedName}
use Rattle.gb_terms.specs.declared.term.Term.{Term}
use Rattle.gb_meaning.specs.Names.{Name}
use Rattle.gb_names.specs.declared.binders.Quantifier.{Quantifier}
use Rattle.gb_names.specs.declared.binders.Quantifier.TheVariants.{Forall, Exists}
use Rattle.gb_names.specs.declared.bindings.Binding.{Binding}
use Rattle.gb_names.specs.declared.bindings.Kind.{Kind}
use Rattle.gb_names.specs.declared.bindings.Kind.TheVariants.{Value, Memory}
use Rattle.gb_script.specs.declared.head.Head.{Head}
use Rattle.gb_script.specs.declared.head.Head.TheVariants as head
use Rattle.gb_script.specs.declared.tree.Node.{Node}
use Rattle.gb_script.specs.Tree.{head_of, parts_of, place_of, text_of}
use Rattle.gb_laws.specs.Finite.{IsVariableType}
use Rattle.gb_goal.specs.Answers.Answer.{given}
use Rattle.gb_names.specs.Environment.{Environment}
use Rattle.gb_names.specs.Allowed.{has_judgments, memory_here}
use Rattle.gb_names.specs.Binders.{new_names, values, memory_bound, bound_by, bound_in, over, over_all}
use Rattle.gb_names.specs.Bindings.{memory as memory_named}
use Rattle.gb_names.specs.Types.{type_of}
use Rattle.gb_names.specs.declared.setting.Language.{Language}
use Rattle.gb_names.specs.declared.setting.Variables.{Variables}
use Rattle.gb_names.specs.declared.setting.Variables.TheVariants.{Absent, Own, Sides}
use Rattle.gb_laws.specs.Typing.{Binder, binder, IsMemory}
use Rattle.gb_laws.specs.Typing.Binder.{value, memory}
use Rattle.gb_typing.specs.Context.{Frame, Context, erased, frame_of, within}
use Rattle.gb_typing.specs.Typing.{IsFrame}
use Rattle.gb_typing.specs.Programs.{HaveVariableTypes}
use Rattle.gb_terms.specs.declared.op.Side.TheVariants as side
use Rattle.gb_elab_laws.specs.Fitting.{reads_globals, AllFiniteIn, AreTypes, IsBoundTo, IsBoundName, AreReadable, IsFitting}
use Rattle.gb_elab_laws.proofs.Given.{given_bind, given_is, if_allowed, not_given}
use Rattle.gb_elab_laws.proofs.Types.{no_distribution, spelled_typed}
use Rattle.gb_elab_laws.proofs.Shapes.{with_globs, variable_with, finite_form}
use Rattle.gb_elab_laws.proofs.Typed.{Typed}
use Rattle.gb_elab_laws.proofs.Binding.{for_all, for_some, for_all_memories, for_some_memory}

reversed : (w : Binding) (ws vs : List Binding) → reverse (w ∷ ws) ++ vs ≡ reverse ws ++ (w ∷ vs)
reversed w ws vs = ap (λ z. z ++ vs) (reverse-append (w ∷ []) ws) ∙ append_assoc (reverse ws) (w ∷ []) vs

pub have_front : (ls ms : List TypedName) → HaveVariableTypes (ls ++ ms) → HaveVariableTypes ls
have_front [] ms h = tt
have_front (l ∷ ls) ms h = (h.0, have_front ls ms h.1)

-- types of variables are of forms
pub variables_with : (globs : Name → Bool) (vs : List TypedName) → HaveVariableTypes vs → AllFiniteIn globs vs
variables_with globs [] h = tt
variables_with globs (v ∷ vs) h = (variable_with globs v.ty h.0, variables_with globs vs h.1)

-- what quantifiers of a language bind: values of types of variables, and memories where judgments may stand
abbrev pub MayBeBound : Language → Kind → Type 0
MayBeBound l (Value t) = IsVariableType t
MayBeBound l Memory = has_judgments l ≡ true

abbrev pub AllMayBeBound : Language → List Binding → Type 0
AllMayBeBound l [] = Unit {0}
AllMayBeBound l (v ∷ vs) = MayBeBound l v.kind × AllMayBeBound l vs

both_may : (l : Language) (us vs : List Binding) → AllMayBeBound l us → AllMayBeBound l vs → AllMayBeBound l (us ++ vs)
both_may l [] vs h k = k
both_may l (u ∷ us) vs h k = (h.0, both_may l us vs h.1 k)

values_may : (l : Language) (xs : List Node) (t : Ty) → IsVariableType t → AllMayBeBound l (values xs t)
values_may l [] t v = tt
values_may l (x ∷ xs) t v = (v, values_may l xs t v)

module _ (at : Environment) (names : AreTypes at.declared) where
  memory_may : (ws : List Binding) (x : Node) (p : Place) (vs : List Binding) → memory_bound at ws x p ≡ given vs → AllMayBeBound at.language vs
  memory_may ws x p vs h =
      let n = given_bind (memory_here at p) _ vs h in
      let k = if_allowed (has_judgments at.language) (given tt) Argument p n.0 n.1 in
      let u = given_bind (new_names ws [] (x ∷ [])) (λ _. given (memory_named (text_of x) ∷ [])) vs n.2 in
      subst (AllMayBeBound at.language) (given_is (memory_named (text_of x) ∷ []) vs u.2) (k.0, tt)

  bind_may : (ws : List Binding) (k : Head) (xs : List Node) (p : Place) (vs : List Binding) → bound_in at ws k xs p ≡ given vs → AllMayBeBound at.language vs
  bind_may ws head.Values (x ∷ xs ∷ t ∷ []) p vs h =
      let n = given_bind (new_names ws [] (x ∷ parts_of xs)) _ vs h in
      let u = given_bind (type_of at.declared t) (λ u. given (values (x ∷ parts_of xs) u)) vs n.2 in
      subst (AllMayBeBound at.language) (given_is (values (x ∷ parts_of xs) u.0) vs u.2)
      (values_may at.language (x ∷ parts_of xs) u.0 (spelled_typed at.declared names t u.0 u.1))
  bind_may ws head.Memory (x ∷ []) p vs h = memory_may ws x p vs h
  bind_may ws head.ModuleBind (x ∷ xs) p vs h = absurd (not_given _ _ vs h)
  bind_may ws _ _ p vs h = absurd (not_given _ _ vs h)

  pub binders_may : (vs : List Binding) (bs : List Node) (ws : List Binding) → AllMayBeBound at.language vs → bound_by at vs bs ≡ given ws → AllMayBeBound at.language ws
  unfolding bound_by
  binders_may vs [] ws k h = subst (AllMayBeBound at.language) (given_is vs ws h) k
  binders_may vs (b ∷ bs) ws k h =
      let us = given_bind (bound_in at vs (head_of b) (parts_of b) (place_of b)) (λ us. bound_by at (vs ++ us) bs) ws h in
      binders_may (vs ++ us.0) bs ws (both_may at.language vs us.0 k (bind_may vs (head_of b) (parts_of b) (place_of b) us.0 us.1)) us.2

-- the context under one thing: of a bound memory no local is read
abbrev pub under_one : Context → Kind → Context
under_one c (Value t) = within c (value t) None
under_one c Memory = within c memory (Some [])

-- the context under all of these, the first one outermost
abbrev pub under_all : Context → List Binding → Context
under_all c [] = c
under_all c (w ∷ ws) = under_all (under_one c w.kind) ws

module _ {globs : Name → Bool} (at : Environment) where
  -- under one binder more, which has locals where it binds a memory
  pub inner_fits : (c : Context) (vs : List Binding) → IsFitting globs c at vs → (b : Binder) (f : Frame) → (IsMemory b → IsFrame f) → (v : Binding) → IsBoundName globs b v →
      IsFitting globs (within c b f) at (v ∷ vs)
  inner_fits c vs fit b f m v h = record {
    logical = fit.logical;
    values = fit.values;
    bound = (h, fit.bound);
    variables = readable at.variables fit.variables;
    declared = fit.declared;
    around = fit.around;
    globals = fit.globals;
    outside = fit.outside;
    procedures = fit.procedures;
    memories = fit.memories;
    locals = fit.locals;
    frames = λ e i. framed i (fit.frames e);
    sides = fit.sides;
    together = fit.together;
    stand = fit.stand;
  }
    where
      readable : (vars : Variables) → AreReadable globs (reads_globals at.language) c vars → AreReadable globs (reads_globals at.language) (within c b f) vars
      readable Absent k = tt
      readable (Own ls) k = k
      readable (Sides ls rs) k = k

      framed : (i : ℕ) → ((j : ℕ) → IsMemory (binder (erased c) j) → IsFrame (frame_of c (side.Bound j))) → IsMemory (binder (erased (within c b f)) i) →
          IsFrame (frame_of (within c b f) (side.Bound i))
      framed zero k = m
      framed (suc i) k = k i

  one_fits : (c : Context) (vs : List Binding) → IsFitting globs c at vs → (v : Binding) → MayBeBound at.language v.kind → IsFitting globs (under_one c v.kind) at (v ∷ vs)
  one_fits c vs fit v h = step v.kind refl h
    where
      step : (k : Kind) → v.kind ≡ k → MayBeBound at.language k → IsFitting globs (under_one c k) at (v ∷ vs)
      step (Value t) e h =
          let finite = variable_with globs t h in
          inner_fits c vs fit (value t) None (λ m. m) v
          (subst (IsBoundTo globs (value t)) (sym e) ((no_distribution t (with_globs globs t finite), refl), finite_form globs t finite))
      step Memory e h = inner_fits c vs fit memory (Some []) (λ m. tt) v (subst (IsBoundTo globs memory) (sym e) tt)

  pub under_all_fits : (ws vs : List Binding) (c : Context) → AllMayBeBound at.language ws → IsFitting globs c at vs → IsFitting globs (under_all c ws) at (reverse ws ++ vs)
  under_all_fits [] vs c h fit = fit
  under_all_fits (w ∷ ws) vs c h fit =
      subst (IsFitting globs (under_all c (w ∷ ws)) at) (sym (reversed w ws vs)) (under_all_fits ws (w ∷ vs) (under_one c w.kind) h.1 (one_fits c vs fit w h.0))

module _ {globs : Name → Bool} (l : Language) where
  over_typed : (c : Context) (q : Quantifier) (k : Kind) (f : Term) → MayBeBound l k → Typed globs (under_one c k) l ty.Bool f → Typed globs c l ty.Bool (over q k f)
  over_typed c Forall (Value t) f h m = for_all c l t f (variable_with globs t h) m
  over_typed c Exists (Value t) f h m = for_some c l t f (variable_with globs t h) m
  over_typed c Forall Memory f h m = for_all_memories c l h [] f m
  over_typed c Exists Memory f h m = for_some_memory c l h [] f m

  pub over_all_typed : (c : Context) (q : Quantifier) (ws : List Binding) (f : Term) → AllMayBeBound l ws → Typed globs (under_all c ws) l ty.Bool f → Typed globs c l ty.Bool (over_all q ws f)
  over_all_typed c q [] f h m = m
  over_all_typed c q (w ∷ ws) f h m = over_typed c q w.kind (over_all q ws f) h.0 (over_all_typed (under_one c w.kind) q ws f h.1 m)
