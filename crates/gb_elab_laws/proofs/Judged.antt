-- Judgments of procedures that are known by declarations are typed.
use Rattle.std.proofs.lemmas.Bool.{false≢true}
use Rattle.std.proofs.Common.{◌≡◌, ◌-◌, true, List, [], ◌∷◌, length, take, drop, Option, Some, refl, ap, sym, ◌∙◌, subst, Bool}
use Rattle.gb_core.specs.declared.place.Place.{Place}
use Rattle.gb_core.specs.declared.ty.Ty.TheVariants as ty
use Rattle.gb_terms.specs.declared.decl.Param.{Param}
use Rattle.gb_terms.specs.declared.decl.TypedName.{TypedName}
use Rattle.gb_meaning.specs.Names.{Name}
use Rattle.gb_names.specs.declared.bindings.Binding.{Binding}
use Rattle.gb_terms.specs.declared.module.ProcRef.{ProcRef}
use Rattle.gb_terms.specs.declared.term.Term.{Term}
use Rattle.gb_terms.specs.declared.term.Head.TheVariants.{Equiv, Proc as procedure_subject}
use Rattle.gb_goal.specs.Interfaces.{found, interface_at, of_complete, procedure_in, procedure_type}
use Rattle.gb_mods.specs.Meets.{Known}
use Rattle.gb_script.specs.declared.head.Head.{Head}
use Rattle.gb_script.specs.declared.head.Head.TheVariants as head
use Rattle.gb_script.specs.declared.tree.Node.{Node}
use Rattle.gb_script.specs.Tree.{head_of, text_of, parts_of, place_of}
use Rattle.gb_goal.specs.Answers.{given_or}
use Rattle.gb_goal.specs.Answers.Answer.{given}
use Rattle.gb_names.specs.declared.setting.Language.{Language}
use Rattle.gb_names.specs.declared.setting.Language.TheVariants.{Formula, Function, Program, Sampled, Operator}
use Rattle.gb_names.specs.Environment.{Environment, in_judgments, reading, relational}
use Rattle.gb_names.specs.Allowed.{has_judgments}
use Rattle.gb_names.specs.Judgments.{Path, procedure_path, Named, procedure_of_module, procedure_at, functor_procedure, of_functor, procedure_by, named_procedure, in_front, procedure_called, called, about_procedure, one_procedure, both_procedures, before, after, result_of, equivalent}
use Rattle.gb_names.specs.Modules.{Reading, applied, complete, lacks_none, with_modules}
use Rattle.gb_names.specs.Names.{no_procedure_of}
use Rattle.gb_names.proofs.KnownModules.{AreRight, applied_right, module_known}
use Rattle.gb_typing.specs.Modules.{ProcedureType}
use Rattle.gb_typing.specs.Context.{Frame, Context, local_in, procedure, with_sides}
use Rattle.gb_typing.specs.Typing.{IsFrame, IsThere}
use Rattle.gb_typing.specs.Typing as typed
use Rattle.gb_typing.proofs.Made.{made_node}
use Rattle.gb_elab_laws.specs.Fitting.{reads_globals, AreIn, IsTypeOf, IsFitting, IsGiven}
use Rattle.gb_elab_laws.proofs.Given.{given_bind, given_is, some_given, not_given}
use Rattle.gb_elab_laws.proofs.Quantified.{variables_with}
use Rattle.gb_elab_laws.proofs.Shapes.{variable_with}
use Rattle.gb_elab_laws.proofs.Remembered.{remembering}
use Rattle.gb_elab_laws.proofs.Typed.{Typed, apart_node}

-- where judgments may stand, globals may be read
pub judging : (l : Language) → has_judgments l ≡ true → reads_globals l ≡ true
judging Formula h = refl
judging Function h = refl
judging Program h = refl
judging Sampled h = refl
judging Operator h = cc

none_lacking : (qs : List Param) (p : Place) (y : Unit {0}) → lacks_none qs p ≡ given y → qs ≡ []
none_lacking [] p y h = refl
none_lacking (q ∷ qs) p y h = absurd (not_given _ _ y h)

-- a procedure that is named is known where it stands, and is of this type
abbrev pub IsKnownAs : Environment → Named → Type 0
IsKnownAs at n = procedure_type at.declared at.inside n.0 ≡ Some n.1

module _ (at : Environment) (bound : List Binding) where
  abbrev IsRight : Named → Type 0
  IsRight n = IsKnownAs at n

  of_module : (k : Known) → interface_at at.declared at.inside k.0 ≡ Some k.1 → (f : Node) (p : Place) (n : Named) → procedure_of_module at k f p ≡ given n → IsRight n
  unfolding procedure_of_module
  of_module k w f p n h =
      let x = text_of f in
      let m = given_bind (complete k p) _ n h in
      let t = given_bind (given_or (found k.1.procedures x) (no_procedure_of at m.0 x) (place_of f)) (λ (t : ProcedureType). given (record { «module» = m.0; name = x }, t)) n m.2 in
      let l = given_bind (lacks_none k.1.lacks p) (λ _. given k.0) m.0 m.1 in
      subst IsRight {x = (record { «module» = m.0; name = x }, t.0)} (given_is (record { «module» = m.0; name = x }, t.0) n t.2)
      (ap (λ z. procedure_in (interface_at at.declared at.inside z) x) (sym (given_is k.0 m.0 l.2)) ∙ ap (λ o. procedure_in o x) w
      ∙ ap (λ qs. of_complete qs k.1.procedures x) (none_lacking k.1.lacks p l.0 l.1)
      ∙ some_given (found k.1.procedures x) (no_procedure_of at m.0 x) (place_of f) t.0 t.1)

  procedure_is : (f : Path) (ts : List (Node × Reading)) → AreRight at bound ts → (p : Place) (n : Named) → procedure_at at bound f ts p ≡ given n → IsRight n
  unfolding procedure_at
  procedure_is f ts r p n h =
      let k = given_bind (applied f.0 p ts at bound) (λ (k : Known). procedure_of_module at k f.1 p) n h in
      of_module k.0 (applied_right at bound f.0 p ts r k.0 k.1) f.1 p n k.2

  modules_right : (ts : List Node) → AreRight at bound (with_modules ts)
  modules_right [] = tt
  modules_right (t ∷ ts) = (module_known at bound t, modules_right ts)

  pub functor_is : (x : Node) (xs ms : List Node) (f : Node) (p : Place) (n : Named) → functor_procedure at bound x xs ms f p ≡ given n → IsKnownAs at n
  functor_is x xs ms f p n h = procedure_is _ (with_modules ms) (modules_right ms) p n h

  with_arguments_is : (x : Node) (xs ps : List Node) (p : Place) (n : Named) → of_functor at bound x xs ps p ≡ given n → IsRight n
  with_arguments_is x xs (ms ∷ f ∷ []) p n h = functor_is x xs (parts_of ms) f p n h
  with_arguments_is x xs _ p n h = absurd (not_given _ _ n h)

  by_parts_is : (k : Head) (x : Node) (ps : List Node) (p : Place) (n : Named) → procedure_by at bound k x ps p ≡ given n → IsRight n
  by_parts_is head.ProcedurePath x (y ∷ ys) p n h = procedure_is (procedure_path (text_of x) y ys) [] tt p n h
  by_parts_is head.FunctorPath x ps p n h = with_arguments_is x (take (length ps - 2) ps) (drop (length ps - 2) ps) p n h
  by_parts_is _ x ps p n h = absurd (not_given _ _ n h)

  -- the procedure that a judgment names
  pub named_is : (k : Head) (xs : List Node) (p : Place) (n : Named) → named_procedure at bound k xs p ≡ given n → IsKnownAs at n
  named_is k (x ∷ ps) p n h = by_parts_is k x ps p n h
  named_is k [] p n h = absurd (not_given _ _ n h)

  -- the one that a call names
  pub callee_is : (k : Head) (x : Node) (ps : List Node) (p : Place) (n : Named) → procedure_called at bound k x ps p ≡ given n → IsKnownAs at n
  callee_is head.Call x ps p n h = by_parts_is head.ProcedurePath x (in_front ps) p n h
  callee_is head.FunctorCall x ps p n h = by_parts_is head.FunctorPath x (in_front ps) p n h
  callee_is _ x ps p n h = absurd (not_given _ _ n h)

  pub called_is : (k : Head) (ps : List Node) (p : Place) (n : Named) → called at bound k ps p ≡ given n → IsKnownAs at n
  called_is k (x ∷ ps) p n h = callee_is k x ps p n h
  called_is k [] p n h = absurd (not_given _ _ n h)

  -- the procedures that a judgment is about
  pub both_are : (f g : Node) (p : Place) (n : Named × Named) → both_procedures at bound f g p ≡ given n → IsKnownAs at n.0 × IsKnownAs at n.1
  both_are f g p n h =
      let a = given_bind (about_procedure (head_of f) p) _ n h in
      let b = given_bind (about_procedure (head_of g) p) _ n a.2 in
      let l = given_bind (named_procedure at bound (head_of f) (parts_of f) (place_of f)) _ n b.2 in
      let r = given_bind (named_procedure at bound (head_of g) (parts_of g) (place_of g)) (λ (r : Named). given (l.0, r)) n l.2 in
      subst (λ (z : Named × Named). IsRight z.0 × IsRight z.1) (given_is (l.0, r.0) n r.2)
      (named_is (head_of f) (parts_of f) (place_of f) l.0 l.1, named_is (head_of g) (parts_of g) (place_of g) r.0 r.1)

  -- .. and the one
  pub one_is : (f : Node) (p : Place) (n : Named) → one_procedure at bound f p ≡ given n → IsKnownAs at n
  one_is f p n h = let a = given_bind (about_procedure (head_of f) p) _ n h in named_is (head_of f) (parts_of f) (place_of f) n a.2

-- the parameters of a procedure are read before it, and its result after it
pub params_in : {globs : Name → Bool} (t : Option ProcedureType) (f : ProcedureType) → IsTypeOf t f → AreIn globs (typed.before t) f.params
params_in {globs} t f w = record { memory = subst (λ z. IsFrame (typed.before z)) (sym w.there) tt; there = λ x u e. subst (λ z. local_in (typed.before z) x ≡ Some u) (sym w.there) e; finite = variables_with globs f.params w.params }

pub result_in : {globs : Name → Bool} (t : Option ProcedureType) (f : ProcedureType) → IsTypeOf t f → AreIn globs (typed.after t) (result_of f)
result_in {globs} t f w = record { memory = subst (λ z. IsFrame (typed.after z)) (sym w.there) tt; there = λ x u e. subst (λ z. local_in (typed.after z) x ≡ Some u) (sym w.there) e; finite = (variable_with globs f.result w.result, tt) }

module _ {globs : Name → Bool} (c : Context) (at : Environment) (vs : List Binding) (fit : IsFitting globs c at vs) (judges : has_judgments at.language ≡ true) where
  -- conditions on two programs over these variables
  pub condition : (F G : Frame) (ls rs : List TypedName) → AreIn globs F ls → AreIn globs G rs → IsFitting globs (with_sides c F G) (reading (in_judgments at.memories) (relational at.declared at.sequent ls rs)) vs
  condition F G ls rs h k = record {
    logical = fit.logical;
    values = fit.values;
    bound = fit.bound;
    variables = (refl, h, k);
    declared = fit.declared;
    around = tt;
    globals = λ e. fit.globals (judging at.language judges);
    outside = λ e. refl;
    procedures = λ e. fit.procedures judges;
    memories = λ e. fit.memories (remembering at.language judges);
    locals = λ e. fit.locals (remembering at.language judges);
    frames = λ e. fit.frames (remembering at.language judges);
    sides = λ e. refl;
    together = λ e. fit.together (remembering at.language judges);
    stand = λ e. fit.stand (remembering at.language judges);
  }

  -- a procedure that is known there is of its type
  pub known_there : (f : ProcRef) (a : ProcedureType) → procedure_type at.declared at.inside f ≡ Some a → IsTypeOf (procedure c f) a
  known_there f a e = fit.procedures judges f a (ap (λ i. procedure_type at.declared i f) (sym (fit.outside judges)) ∙ e)

  module _ (f g : ProcRef) (a b : ProcedureType) (ea : procedure_type at.declared at.inside f ≡ Some a) (eb : procedure_type at.declared at.inside g ≡ Some b) where
    left : IsTypeOf (procedure c f) a
    left = known_there f a ea

    right : IsTypeOf (procedure c g) b
    right = known_there g b eb

    -- the environments of the conditions fit
    pub before_fits : IsFitting globs (with_sides c (typed.before (procedure c f)) (typed.before (procedure c g))) (before at a b) vs
    before_fits = condition _ _ a.params b.params (params_in _ a left) (params_in _ b right)

    pub after_fits : IsFitting globs (with_sides c (typed.after (procedure c f)) (typed.after (procedure c g))) (after at a b) vs
    after_fits = condition _ _ (result_of a) (result_of b) (result_in _ a left) (result_in _ b right)

    pub equivalence_typed : (p q : Term) →
        IsGiven globs (with_sides c (typed.before (procedure c f)) (typed.before (procedure c g))) Formula (Some ty.Bool) p →
        IsGiven globs (with_sides c (typed.after (procedure c f)) (typed.after (procedure c g))) Formula (Some ty.Bool) q →
        Typed globs c at.language ty.Bool (equivalent f g p q)
    equivalence_typed p q x y = record {
      made =
          made_node c (Equiv (procedure_subject f) (procedure_subject g)) (ty.Bool ∷ ty.Bool ∷ []) (p ∷ q ∷ []) ty.Bool (refl, (refl, (refl, tt)))
          (subst IsThere (sym left.there) tt, subst IsThere (sym right.there) tt) []
          (record { typed = x.typed; written = x.wanted }, record { typed = y.typed; written = y.wanted });
      type = tt;
      apart = apart_node globs (Equiv (procedure_subject f) (procedure_subject g)) (p ∷ q ∷ []) ty.Bool tt (x.apart, (y.apart, tt));
      plain = λ k. absurd (false≢true (sym k ∙ judges));
    }
