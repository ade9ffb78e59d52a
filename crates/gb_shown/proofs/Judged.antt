-- Procedures that judgments speak of are named, and so are their conditions.
use Rattle.std.proofs.Common.{◌≡◌, ◌-◌, true, List, [], ◌∷◌, drop, length, take, refl, subst}
use Rattle.std.specs.Prelude.{codes}
use Rattle.std.specs.List.{AllByRecursion}
use Rattle.gb_core.specs.declared.place.Place.{Place}
use Rattle.gb_core.specs.declared.ty.Ty.TheVariants as ty
use Rattle.gb_terms.specs.declared.module.ProcRef.{ProcRef}
use Rattle.gb_terms.specs.declared.op.Rel.{Rel}
use Rattle.gb_terms.specs.declared.term.Term.{Term}
use Rattle.gb_terms.specs.declared.term.Head.TheVariants.{Equiv, Hoare, Phoare, Proc as procedure}
use Rattle.gb_goal.specs.Answers.{given_or}
use Rattle.gb_goal.specs.Answers.Answer.{given}
use Rattle.gb_goal.specs.Interfaces.{ProcedureType, found}
use Rattle.gb_mods.specs.Meets.{Known}
use Rattle.gb_script.specs.declared.head.Head.{Head}
use Rattle.gb_script.specs.declared.head.Head.TheVariants as head
use Rattle.gb_script.specs.declared.tree.Node.{Node}
use Rattle.gb_script.specs.Tree.{head_of, text_of, parts_of, place_of}
use Rattle.gb_limits.specs.Lexeme.{spells}
use Rattle.gb_limits.specs.LeftOut.{is_word_of}
use Rattle.gb_names.specs.declared.bindings.Binding.{Binding}
use Rattle.gb_names.specs.Environment.{Name, Environment}
use Rattle.gb_names.specs.Judgments.{Path, procedure_path, Named, procedure_of_module, procedure_at, functor_procedure, of_functor, procedure_by, named_procedure, in_front, procedure_called, called, about_procedure, one_procedure, both_procedures, before, after, result_of, equivalent}
use Rattle.gb_names.specs.Modules.{applied, complete, with_modules}
use Rattle.gb_names.specs.Names.{dotted, no_procedure_of}
use Rattle.gb_elab.specs.declared.contract.Contract.{Contract}
use Rattle.gb_elab.specs.OneProcedure.{after_one, always, around, before_one, ends, lossless, one, with_chance}
use Rattle.gb_elab.specs.Probability.{before_call}
use Rattle.gb_print_names.specs.declared.bound_names.Enumeration.{Enumeration}
use Rattle.gb_print.specs.Written.{is_name_text, IsWrittenProcedure}
use Rattle.gb_shown.specs.Named.{IsNamed}
use Rattle.gb_shown.proofs.SpeltTrees.{node_named}
use Rattle.gb_terms.specs.declared.op.Op.TheVariants as op
use Rattle.gb_terms.specs.declared.op.Rel.TheVariants as rel
use Rattle.gb_terms.specs.declared.term.Head.TheVariants.{Whole}
use Rattle.gb_terms.specs.Make.{node, truth_literal}
use Rattle.std.proofs.Common.{pos}
use Rattle.gb_shown.specs.Scopes.{IsNamedLocal, IsNamedProcedureType, IsNamedSetting}
use Rattle.gb_shown.specs.Laws.{IsNamedReference}
use Rattle.gb_shown.proofs.Given.{given_bind, given_is, some_given, not_given}
use Rattle.gb_shown.proofs.FoundInForms.{locals_of_variables, path_of}
use Rattle.gb_shown.proofs.Interfaces.{found_named}
use Rattle.gb_shown.proofs.NamedModules.{IsNamedKnown, applied_named, complete_written, each_named}
use Rattle.gb_shown.proofs.Constants.{truth_named}
use Rattle.gb_shown.proofs.MadeForms.{operated}

res_is_name : is_name_text (codes "res") ≡ true
unfolding spells is_word_of
res_is_name = refl

module _ (es : List Enumeration) where
  module _ (at : Environment) (fit : IsNamedSetting es at) (bs : List Binding) where
    procedure_of_named : (k : Known) → IsNamedKnown k → (f : Node) (p : Place) (n : Named) → procedure_of_module at k f p ≡ given n → IsNamedReference n
    unfolding procedure_of_module
    procedure_of_named k h f p n e =
        let x = text_of f in
        let m = given_bind (complete k p) _ n e in
        let t = given_bind (given_or (found k.1.procedures x) (no_procedure_of at m.0 x) (place_of f)) (λ (t : ProcedureType). given (record { «module» = m.0; name = x }, t)) n m.2 in
        let there = found_named k.1.procedures h.typed x t.0 (some_given (found k.1.procedures x) (no_procedure_of at m.0 x) (place_of f) t.0 t.1) in
        subst IsNamedReference (given_is (record { «module» = m.0; name = x }, t.0) n t.2)
        (record { written = record { module_is = complete_written es at fit bs k p h m.0 m.1; name_is = there.0 }; typed = there.1 })

    procedure_is : (f : Path) (ts : List Node) (p : Place) (n : Named) → procedure_at at bs f (with_modules ts) p ≡ given n → IsNamedReference n
    unfolding procedure_at
    procedure_is f ts p n e =
        let k = given_bind (applied f.0 p (with_modules ts) at bs) (λ (k : Known). procedure_of_module at k f.1 p) n e in
        procedure_of_named k.0 (applied_named es at fit bs f.0 p (with_modules ts) (each_named es at fit bs ts) k.0 k.1) f.1 p n k.2

    pub functor_is : (x : Node) (xs ms : List Node) (f : Node) (p : Place) (n : Named) → functor_procedure at bs x xs ms f p ≡ given n → IsNamedReference n
    functor_is x xs ms f p n e = procedure_is (dotted (text_of x) xs, f) ms p n e

    of_functor_is : (x : Node) (xs ps : List Node) (p : Place) (n : Named) → of_functor at bs x xs ps p ≡ given n → IsNamedReference n
    of_functor_is x xs (ms ∷ f ∷ []) p n e = functor_is x xs (parts_of ms) f p n e
    of_functor_is x xs _ p n e = absurd (not_given _ _ n e)

    by_is : (k : Head) (x : Node) (ps : List Node) (p : Place) (n : Named) → procedure_by at bs k x ps p ≡ given n → IsNamedReference n
    by_is head.ProcedurePath x (y ∷ ys) p n e = procedure_is (procedure_path (text_of x) y ys) [] p n e
    by_is head.FunctorPath x ps p n e = of_functor_is x (take (length ps - 2) ps) (drop (length ps - 2) ps) p n e
    by_is _ x ps p n e = absurd (not_given _ _ n e)

    pub named_is : (k : Head) (xs : List Node) (p : Place) (n : Named) → named_procedure at bs k xs p ≡ given n → IsNamedReference n
    named_is k (x ∷ ps) p n e = by_is k x ps p n e
    named_is k [] p n e = absurd (not_given _ _ n e)

    -- the procedure that a call names
    pub procedure_called_is : (k : Head) (x : Node) (ps : List Node) (p : Place) (n : Named) → procedure_called at bs k x ps p ≡ given n → IsNamedReference n
    procedure_called_is head.Call x ps p n e = by_is head.ProcedurePath x (in_front ps) p n e
    procedure_called_is head.FunctorCall x ps p n e = by_is head.FunctorPath x (in_front ps) p n e
    procedure_called_is _ x ps p n e = absurd (not_given _ _ n e)

    pub called_is : (k : Head) (xs : List Node) (p : Place) (n : Named) → called at bs k xs p ≡ given n → IsNamedReference n
    called_is k (x ∷ ps) p n e = procedure_called_is k x ps p n e
    called_is k [] p n e = absurd (not_given _ _ n e)

    -- the procedures that a judgment is about
    pub one_is : (f : Node) (p : Place) (n : Named) → one_procedure at bs f p ≡ given n → IsNamedReference n
    one_is f p n h = let a = given_bind (about_procedure (head_of f) p) _ n h in named_is (head_of f) (parts_of f) (place_of f) n a.2

    pub both_are : (f g : Node) (p : Place) (n : Named × Named) → both_procedures at bs f g p ≡ given n → IsNamedReference n.0 × IsNamedReference n.1
    both_are f g p n h =
        let a = given_bind (about_procedure (head_of f) p) _ n h in
        let b = given_bind (about_procedure (head_of g) p) _ n a.2 in
        let l = given_bind (named_procedure at bs (head_of f) (parts_of f) (place_of f)) _ n b.2 in
        let r = given_bind (named_procedure at bs (head_of g) (parts_of g) (place_of g)) (λ (r : Named). given (l.0, r)) n l.2 in
        subst (λ (z : Named × Named). IsNamedReference z.0 × IsNamedReference z.1) (given_is (l.0, r.0) n r.2)
        (named_is (head_of f) (parts_of f) (place_of f) l.0 l.1, named_is (head_of g) (parts_of g) (place_of g) r.0 r.1)

  -- Where conditions stand.

  result_named : (f : ProcedureType) → IsNamedProcedureType f → AllByRecursion IsNamedLocal (result_of f)
  result_named f h = ((path_of (codes "res") res_is_name, h.result), tt)

  -- the parameters of a procedure are locals
  pub parameters_named : (f : ProcedureType) → IsNamedProcedureType f → AllByRecursion IsNamedLocal f.params
  parameters_named f h = locals_of_variables f.params h.params

  module _ (at : Environment) (fit : IsNamedSetting es at) where
    pub before_one_named : (f : ProcedureType) → IsNamedProcedureType f → IsNamedSetting es (before_one at f)
    before_one_named f h = record { scope = fit.scope; around = tt; context = fit.context; variables = parameters_named f h }

    pub after_one_named : (f : ProcedureType) → IsNamedProcedureType f → IsNamedSetting es (after_one at f)
    after_one_named f h = record { scope = fit.scope; around = tt; context = fit.context; variables = result_named f h }

    pub around_named : IsNamedSetting es (around at)
    around_named = record { scope = fit.scope; around = tt; context = fit.context; variables = tt }

    pub before_call_named : (x : Name) → IsNamedSetting es (before_call at x)
    before_call_named x = record { scope = fit.scope; around = tt; context = fit.context; variables = tt }

    pub before_named : (f g : ProcedureType) → IsNamedProcedureType f → IsNamedProcedureType g → IsNamedSetting es (before at f g)
    before_named f g h k = record { scope = fit.scope; around = tt; context = fit.context; variables = (parameters_named f h, parameters_named g k) }

    pub after_named : (f g : ProcedureType) → IsNamedProcedureType f → IsNamedProcedureType g → IsNamedSetting es (after at f g)
    after_named f g h k = record { scope = fit.scope; around = tt; context = fit.context; variables = (result_named f h, result_named g k) }

  -- Judgments.

  pub equivalent_named : (f g : ProcRef) (p q : Term) → IsWrittenProcedure [] f → IsWrittenProcedure [] g → IsNamed es p → IsNamed es q → IsNamed es (equivalent f g p q)
  equivalent_named f g p q h k x y = node_named es (Equiv (procedure f) (procedure g)) (p ∷ q ∷ []) ty.Bool (h, k) tt (x, (y, tt))

  -- what a judgment says but for its bound
  pub record IsNamedContract (c : Contract) : Type 0 where
    pub procedure : IsWrittenProcedure [] c.procedure
    pub pre : IsNamed es c.pre
    pub post : IsNamed es c.post

  pub always_named : (c : Contract) → IsNamedContract c → IsNamed es (always c)
  always_named c h = node_named es (Hoare (procedure c.procedure)) (c.pre ∷ c.post ∷ []) ty.Bool h.procedure tt (h.pre, (h.post, tt))

  pub with_chance_named : (c : Contract) (r : Rel) (b : Term) → IsNamedContract c → IsNamed es b → IsNamed es (with_chance c r b)
  with_chance_named c r b h x = node_named es (Phoare (procedure c.procedure) r) (c.pre ∷ c.post ∷ b ∷ []) ty.Bool h.procedure tt (h.pre, (h.post, (x, tt)))

  one_named : IsNamed es one
  one_named = operated es op.ToReal (node (Whole (pos 1)) [] ty.Int ∷ []) ty.Real tt tt (node_named es (Whole (pos 1)) [] ty.Int (tt, refl) tt tt, tt)

  pub lossless_named : (at : Environment) → IsNamedSetting es at → (bs : List Binding) (ns : List Node) (p : Place) (u : Term) → lossless at bs ns p ≡ given u → IsNamed es u
  lossless_named at fit bs (f ∷ []) p u h =
      let m = given_bind (one_procedure at bs f p) (λ (m : Named). given (ends m.0)) u h in
      let k = one_is at fit bs f p m.0 m.1 in
      subst (IsNamed es) (given_is (ends m.0.0) u m.2)
      (with_chance_named (record { procedure = m.0.0; pre = truth_literal true; post = truth_literal true }) rel.Equal one (record { procedure = k.written; pre = truth_named es true; post = truth_named es true }) one_named)
  lossless_named at fit bs _ p u h = absurd (not_given _ _ u h)
