-- What the typing of a form, and of a function, gives is typed.
use Rattle.std.proofs.Common.{◌≡◌, ℕ, zero, suc, ◌-◌, ◌<◌, ◌≤◌, slice_get, nat_lt, ◌==◌, eqb-true, length, Bool, true, false, if◌then◌else◌, List, [], ◌∷◌, ◌++◌, map, reverse, Option, Some, None, bytes_eq, refl, ap, sym, ◌∙◌, subst, arith}
use Rattle.std.specs.Prelude.{codes}
use Rattle.std.specs.Option.{option_map, option_map_or}
use Rattle.std.proofs.lemmas.List.{append_assoc, append-nil}
use Rattle.std.proofs.lemmas.Bool.{and_parts, ltb-true}
use Rattle.gb_core.specs.declared.place.Place.{Place}
use Rattle.gb_core.specs.declared.refusal.Why.TheVariants.{TypeMismatch, Argument, Syntax}
use Rattle.gb_core.specs.declared.ty.Ty.{Ty}
use Rattle.gb_core.specs.declared.ty.Ty.TheVariants as ty
use Rattle.gb_core.specs.SameTypes.{ty_eq}
use Rattle.gb_core.proofs.SameTypes.{ty_eq-Decides}
use Rattle.gb_terms.specs.declared.decl.TypedName.{TypedName}
use Rattle.gb_names.specs.declared.bindings.Binding.{Binding}
use Rattle.gb_names.specs.Bindings.{value as value_named}
use Rattle.gb_terms.specs.declared.term.Term.{Term}
use Rattle.gb_script.specs.declared.head.Head.{Head}
use Rattle.gb_script.specs.declared.head.Head.TheVariants as head
use Rattle.gb_script.specs.declared.tree.Node.{Node}
use Rattle.gb_script.specs.Tree.{head_of, text_of, parts_of, place_of}
use Rattle.gb_goal.specs.Answers.{◌>>=◌, given_or}
use Rattle.gb_goal.specs.Answers.Answer.{given, refused}
use Rattle.gb_goal.specs.declared.scope.Constant.{Constant}
use Rattle.gb_goal.specs.declared.scope.OperatorType.{OperatorType}
use Rattle.gb_goal.specs.Scope.{Declarations, constant_named, operator_named}
use Rattle.gb_terms.specs.declared.term.Head.TheVariants.{User}
use Rattle.gb_terms.specs.Make.{node}
use Rattle.gb_typing.specs.Programs.{HaveVariableTypes}
use Rattle.gb_laws.specs.Typing.{IsMemory}
use Rattle.gb_laws.specs.Typing.Binder.{value, index}
use Rattle.gb_typing.specs.Context.{Context, with_own, within}
use Rattle.gb_names.specs.declared.names.Known.{Known as BuiltIn}
use Rattle.gb_names.specs.declared.names.Known.TheVariants as known
use Rattle.gb_names.specs.declared.setting.Language.{Language}
use Rattle.gb_names.specs.declared.setting.Language.TheVariants.{Formula, Function, Program, Sampled, Operator}
use Rattle.gb_names.specs.Allowed.{formula, has_judgments, is_program, judgment, stands}
use Rattle.gb_names.specs.Binders.{bound_by, over_all, quantifier_of}
use Rattle.gb_names.specs.Environment.{Name, Environment, sampled, sampled_in, speaking, valued, valued_in}
use Rattle.gb_names.specs.Judgments.{both_procedures, called, one_procedure, before, after, equivalent}
use Rattle.gb_names.specs.Names.{constant_at, covered, has_memories, known_at, memory_at, named, operator_at, path, unit}
use Rattle.gb_names.specs.Types.{type_of, type_or_number}
use Rattle.gb_names.specs.Wanted.{truth, wanted}
use Rattle.gb_names.proofs.Nodes.{by_parts}
use Rattle.gb_operators.specs.declared.domain.Domain.{Domain}
use Rattle.gb_operators.specs.declared.domain.Domain.TheVariants.{Exactly, Below}
use Rattle.gb_operators.specs.declared.drawn.Drawn.TheVariants.{Measure, Image, Restriction}
use Rattle.gb_operators.specs.declared.operators.Prefix.TheVariants as prefix
use Rattle.gb_operators.specs.declared.operators.Operator.{Operator as Operation}
use Rattle.gb_operators.specs.declared.operators.Operator.TheVariants as operator
use Rattle.gb_operators.specs.declared.rules.Asked.{Asked}
use Rattle.gb_operators.specs.declared.rules.Asked.TheVariants as as_asked
use Rattle.gb_operators.specs.declared.rules.Rule.{Rule}
use Rattle.gb_operators.specs.declared.rules.Rule.TheVariants as rule
use Rattle.gb_operators.specs.Constants.{constant, literal}
use Rattle.gb_operators.specs.Domain.{counts_to, type_in, written_as}
use Rattle.gb_operators.specs.Literals.{bound_of, is_bound, number_in, part_number, place_inside}
use Rattle.gb_operators.specs.Open.{right_first}
use Rattle.gb_operators.specs.Operators.{comparison, operator_of}
use Rattle.gb_operators.specs.Rules.{asked, made, rule_for, rule_of, user_made}
use Rattle.gb_elab.specs.declared.contract.Contract.{Contract}
use Rattle.gb_elab.specs.OneProcedure.{after_one, always, around, before_one, relation, with_chance}
use Rattle.gb_elab.specs.Probability.{before_call, chance, chance_here}
use Rattle.gb_elab.specs.Globs.{Seen, bare_glob, both_whole, whole_alone}
use Rattle.gb_elab.specs.Forms.{Arguing, Contracting, Typing, Meaning, Part, annotated, applied, applied_form, application, arguing, arguments, arguments_of, bare, bounded, bracketed, by_rule, call, comparing, contract, contracting, contract_of, declared, elaborated, equivalence, function, hoare, function_typing, last_arguments, meaning, meant, only, operand, operands, operation, operator_alone, probability, projection, quantified, read, simple, summed, typing, under, user_call, value_of, with_side}
use Rattle.gb_elab_laws.specs.Fitting.{reads_globals, IsFormType, IsFormTypeIf, IsBoundName, IsUsable, AreReadable, IsFitting, IsGiven, IsFiniteIn}
use Rattle.gb_elab_laws.proofs.Given.{given_bind, given_is, if_allowed, if_given, if_none, if_refused, if_some, none_some, not_given, some_given}
use Rattle.gb_elab_laws.proofs.Types.{no_distribution}
use Rattle.gb_elab_laws.proofs.Shapes.{finite_form, variable_with, with_globs, form_with}
use Rattle.gb_elab_laws.proofs.Tested.{counting}
use Rattle.gb_elab_laws.proofs.Measured.{measured, measured_form}
use Rattle.gb_elab_laws.proofs.Typed.{EachTyped, given_from, of_script, truth_given, wanted_given, of_given}
use Rattle.gb_elab_laws.proofs.Globs.{read_typed, whole_alone_typed, whole_equation_typed}
use Rattle.gb_elab_laws.proofs.Leaves.{named_typed, unit_typed}
use Rattle.gb_elab_laws.proofs.Constants.{coin_typed, constant_typed, literal_typed, numeral_typed, stands_is, uniform_typed}
use Rattle.gb_elab_laws.proofs.Weighed.{weights_typed}
use Rattle.gb_elab_laws.proofs.Equations.{equalities_typed}
use Rattle.gb_elab_laws.proofs.Quantified.{inner_fits, under_all, under_all_fits, binders_may, over_all_typed}
use Rattle.gb_elab_laws.proofs.Judged.{both_are, called_is, known_there, one_is, before_fits, after_fits, equivalence_typed}
use Rattle.gb_elab_laws.proofs.OneProcedure.{IsContract, is_there, before_fits as before_one_fits, after_fits as after_one_fits, around_fits, always_typed, with_chance_typed, lossless_typed}
use Rattle.gb_elab_laws.proofs.Probable.{AreArguments, call_fits, chance_typed}
use Rattle.gb_elab_laws.proofs.Remembered.{memory_is, remembering}
use Rattle.gb_elab_laws.proofs.Asked.{Suits, binder_of, IsDomain, IsRule, IsAskable, IsOperand, AreOperands, behind}
use Rattle.gb_elab_laws.proofs.Askable.{askable}
use Rattle.gb_elab_laws.proofs.Rules.{made_typed}

module _ (globs : Name → Bool) where
  -- a typing gives typed terms, where the wanted type is one that a form may have
  abbrev pub GivesTyped : Typing → Type 0
  GivesTyped f = (c : Context) (at : Environment) (vs : List Binding) → IsFitting globs c at vs → (w : Option Ty) → IsFormTypeIf globs w → (u : Term) → f at vs w ≡ given u →
      IsGiven globs c at.language w u

  -- a function gives typed values, under a binder of its variable
  abbrev pub GivesValues : (Domain → Typing) → Type 0
  GivesValues f = (c : Context) (at : Environment) (vs : List Binding) → IsFitting globs c at vs → (d : Domain) → IsDomain globs d → (w : Option Ty) →
      IsFormTypeIf globs w → (u : Term) → f d at vs w ≡ given u → IsGiven globs (within c (binder_of d) None) at.language w u

  -- a judgment without its bound gives typed conditions
  abbrev pub GivesContracts : Contracting → Type 0
  GivesContracts f = (c : Context) (at : Environment) (vs : List Binding) → IsFitting globs c at vs → has_judgments at.language ≡ true → (k : Contract) → f at vs ≡ given k → IsContract globs c k

  -- a call gives typed arguments, where its parameters are of types of values
  abbrev pub GivesArguments : Arguing → Type 0
  GivesArguments f = (c : Context) (at : Environment) (vs : List Binding) → IsFitting globs c at vs → (xs : List TypedName) → HaveVariableTypes xs → (p : Place) (ts : List Term) →
      f xs p at vs ≡ given ts → AreArguments globs c xs ts

  abbrev pub IsTyped : Meaning → Type 0
  IsTyped m = GivesTyped m.form × GivesValues m.function × GivesContracts m.contract × GivesArguments m.arguments

  -- a form, with what is known of what it means
  abbrev Known : Type 0
  Known = (t : Node) × IsTyped (meant t)

  abbrev parts : List Known → List Part
  parts ks = map (λ k. (k.0, meant k.0)) ks

  -- languages that differ in their distributions alone
  abbrev pub AreAlike : Language → Language → Type 0
  AreAlike l k = (reads_globals l ≡ reads_globals k) × (has_judgments l ≡ has_judgments k) × (has_memories l ≡ has_memories k)

  pub sampled_alike : (l : Language) → AreAlike (sampled_in l) l
  sampled_alike Formula = (refl, refl, refl)
  sampled_alike Function = (refl, refl, refl)
  sampled_alike Program = (refl, refl, refl)
  sampled_alike Sampled = (refl, refl, refl)
  sampled_alike Operator = (refl, refl, refl)

  valued_alike : (l : Language) → AreAlike (valued_in l) l
  valued_alike Formula = (refl, refl, refl)
  valued_alike Function = (refl, refl, refl)
  valued_alike Program = (refl, refl, refl)
  valued_alike Sampled = (refl, refl, refl)
  valued_alike Operator = (refl, refl, refl)

  pub speaking_fits : (c : Context) (at : Environment) (vs : List Binding) (l : Language) → AreAlike l at.language → IsFitting globs c at vs → IsFitting globs c (speaking l at) vs
  speaking_fits c at vs l same fit = record {
    logical = fit.logical;
    values = fit.values;
    bound = fit.bound;
    variables = subst (λ b. AreReadable globs b c at.variables) (sym same.0) fit.variables;
    declared = fit.declared;
    around = fit.around;
    globals = λ e. fit.globals (sym same.0 ∙ e);
    outside = λ e. fit.outside (sym same.1 ∙ e);
    procedures = λ e. fit.procedures (sym same.1 ∙ e);
    memories = λ e. fit.memories (sym same.2 ∙ e);
    locals = λ e. fit.locals (sym same.2 ∙ e);
    frames = λ e. fit.frames (sym same.2 ∙ e);
    sides = λ e. same.2 ∙ fit.sides e;
    together = λ e. fit.together (sym same.2 ∙ e);
    stand = λ e. fit.stand (sym same.2 ∙ e);
  }

  pub given_alike : (c : Context) (l k : Language) → AreAlike l k → (w : Option Ty) (t : Term) → IsGiven globs c l w t → IsGiven globs c k w t
  given_alike c l k same w t g = record {
    typed = g.typed;
    type = g.type;
    wanted = g.wanted;
    plain = λ e. g.plain (same.1 ∙ e);
    apart = g.apart;
  }

  -- The parts of a form, one after another, and what is made of them.
  module _ (c : Context) (at : Environment) (vs : List Binding) (fit : IsFitting globs c at vs) where
    operand_typed : (k : Asked) → IsAskable globs k → (a : Known) (t : Term) → operand k (a.0, meant a.0) at vs ≡ given t → IsOperand globs c at k t
    operand_typed (as_asked.Form w) f a t e =
        let same = valued_alike at.language in
        given_alike c (valued_in at.language) at.language same w t (a.1.0 c (valued at) vs (speaking_fits c at vs (valued_in at.language) same fit) w f t e)
    operand_typed (as_asked.Branch w) f a t e = a.1.0 c at vs fit w f t e
    operand_typed (as_asked.Source w) f a t e =
        let same = sampled_alike at.language in
        given_alike c (sampled_in at.language) at.language same w t (a.1.0 c (sampled at) vs (speaking_fits c at vs (sampled_in at.language) same fit) w f t e)
    operand_typed (as_asked.Function d w) f a t e =
        let same = valued_alike at.language in
        given_alike (within c (binder_of d) None) (valued_in at.language) at.language same w t
        (a.1.1 c (valued at) vs (speaking_fits c at vs (valued_in at.language) same fit) d f.0 w f.1 t e)

    module _ (r : Rule) (n : IsRule c globs r) (p : Place) (w : Option Ty) (f : IsFormTypeIf globs w) where
      operands_typed : (ks : List Known) (ts : List Term) → AreOperands globs c at r w p [] ts → (u : Term) → operands r p at vs w ts (parts ks) ≡ given u → IsGiven globs c at.language w u
      unfolding operands
      operands_typed [] ts h u e =
          let k = given_bind (made r p ts) (wanted w p) u e in wanted_given c at.language w p k.0 u (made_typed globs c at w p f r n ts h k.0 k.1) k.2
      operands_typed (a ∷ ks) ts h u e =
          let k = given_bind (asked r at w p (place_of a.0) ts) _ u e in
          let t = given_bind (operand k.0 (a.0, meant a.0) at vs) (λ t. operands r p at vs w (ts ++ t ∷ []) (parts ks)) u k.2 in
          let o = operand_typed k.0 (askable globs c at w p f r n ts (place_of a.0) h k.0 k.1) a t.0 t.1 in
          operands_typed ks (ts ++ t.0 ∷ []) (behind globs c at r w p [] ts t.0 h (place_of a.0, k.0, k.1, o)) u t.2

  -- a form that a rule makes
  rule_typed : (r : Rule) → ((c : Context) (globs : Name → Bool) → IsRule c globs r) → (ks : List Known) (p : Place) → GivesTyped (by_rule r (parts ks) p)
  rule_typed r n ks p c at vs fit w f u e = operands_typed c at vs fit r (n c globs) p w f ks [] tt u e

  -- what is known of operators
  abbrev IsOperation : Option Operation → Type 0
  IsOperation (Some (operator.Two i)) = Suits i.op i.operands
  IsOperation _ = Unit {0}

  chosen : (P : Option Operation → Type 0) (b : Bool) (x y : Option Operation) → P x → P y → P (if b then x else y)
  chosen P true x y h k = h
  chosen P false x y h k = k

  comparison_known : (x : Name) → IsOperation (comparison x)
  comparison_known x =
      chosen IsOperation (bytes_eq x (codes "=")) _ _ tt
      (chosen IsOperation (bytes_eq x (codes "<>")) _ _ tt
      (chosen IsOperation (bytes_eq x (codes "<")) _ _ tt
      (chosen IsOperation (bytes_eq x (codes "<=")) _ _ tt
      (chosen IsOperation (bytes_eq x (codes ">")) _ _ tt
      (chosen IsOperation (bytes_eq x (codes ">=")) _ _ tt
      (chosen IsOperation (bytes_eq x (codes "\\in")) _ _ tt tt))))))

  operator_known : (h : Head) (x : Name) → IsOperation (operator_of h x)
  unfolding operator_of
  operator_known head.Compared x = comparison_known x
  operator_known head.Not x = tt
  operator_known head.Negative x = tt
  operator_known head.ToReal x = tt
  operator_known head.Absolute x = tt
  operator_known head.And x = tt
  operator_known head.Or x = tt
  operator_known head.Implies x = tt
  operator_known head.Iff x = tt
  operator_known head.Sum x = tt
  operator_known head.Difference x = tt
  operator_known head.Product x = tt
  operator_known head.Xor x = tt
  operator_known head.Quotient x = tt
  operator_known _ x = tt

  rule_known : (o : Operation) → IsOperation (Some o) → (b : Bool) (n : Node) (c : Context) (globs : Name → Bool) → IsRule c globs (rule_for o b n)
  rule_known (operator.One o) h b n c globs = tt
  rule_known (operator.Two i) h b n c globs = h
  rule_known operator.Quotient h b n c globs = tt
  rule_known operator.Member h b n c globs = tt

  operation_typed : (o : Option Operation) → IsOperation o → (ks : List Known) (p : Place) → GivesTyped (operation o (parts ks) p)
  operation_typed (Some o) n (a ∷ []) p c at vs fit w f u e = rule_typed (rule_for o false a.0) (rule_known o n false a.0) (a ∷ []) p c at vs fit w f u e
  operation_typed (Some o) n (a ∷ b ∷ []) p c at vs fit w f u e = step (right_first a.0 b.0) e
    where
      step : (t : Bool) →
          (if t then by_rule (rule_for o true b.0) (parts (b ∷ a ∷ [])) p at vs w else by_rule (rule_for o false b.0) (parts (a ∷ b ∷ [])) p at vs w) ≡ given u → IsGiven globs c at.language w u
      step true k = rule_typed (rule_for o true b.0) (rule_known o n true b.0) (b ∷ a ∷ []) p c at vs fit w f u k
      step false k = rule_typed (rule_for o false b.0) (rule_known o n false b.0) (a ∷ b ∷ []) p c at vs fit w f u k
  operation_typed (Some o) n [] p c at vs fit w f u e = absurd (not_given Syntax p u e)
  operation_typed (Some o) n (a ∷ b ∷ d ∷ ks) p c at vs fit w f u e = absurd (not_given Syntax p u e)
  operation_typed None n ks p c at vs fit w f u e = absurd (not_given Syntax p u e)

  -- a comparison
  comparing_typed : (o : Option (Seen × Seen)) (x : Name) (ks : List Known) (p : Place) → GivesTyped (comparing o x (parts ks) p)
  comparing_typed (Some s) x ks p c at vs fit w f u e = whole_equation_typed c at vs fit w p s.0 s.1 u e
  comparing_typed None x ks p c at vs fit w f u e = operation_typed (operator_of head.Compared x) (operator_known head.Compared x) ks p c at vs fit w f u e

  -- operators of the script that a name is found to mean
  found_operator : (c : Context) (at : Environment) (vs : List Binding) → IsFitting globs c at vs → (x : Name) (o : OperatorType) → operator_at at vs x ≡ Some o → IsUsable (c.operator x) o
  found_operator c at vs fit x o e = let names = fit.declared in names.usable x o (if_none (covered at vs x) (operator_named at.declared x) o e)

  no_arguments : (c : Context) (l : Language) (us : List Ty) → 0 ≡ length us → EachTyped globs c l us []
  no_arguments c l [] e = tt
  no_arguments c l (u ∷ us) e = absurd (omega (arith, e))

  alone_typed : (x : Name) (o : OperatorType) (p : Place) (c : Context) (at : Environment) (w : Option Ty) → IsUsable (c.operator x) o → (u : Term) → operator_alone x o p at w ≡ given u →
      IsGiven globs c at.language w u
  alone_typed x o p c at w n u e =
      let k = given_bind (stands at w p o.result) (λ _. user_made x o p []) u e in
      let r = if_given (0 == length o.params) (node (User x) [] o.result) TypeMismatch p u k.2 in
      let form = form_with globs o.result n.result in
      let made = of_script globs c at.language x o.params o.result [] form n.there (no_arguments c at.language o.params (eqb-true 0 (length o.params) r.0)) in
      subst (IsGiven globs c at.language w) r.1 (given_from c at.language w o.result (node (User x) [] o.result) made (stands_is at w p o.result k.0 k.1))

  simple_typed : (x : Name) (p : Place) → GivesTyped (simple x p)
  simple_typed x p c at vs fit w f u e = step (known_at at vs x) e
    where
      of_script_name : (k : Option Constant) (o : Option OperatorType) → constant_at at vs x ≡ k → operator_at at vs x ≡ o → declared k o x p at vs w ≡ given u → IsGiven globs c at.language w u
      of_script_name (Some k) o i j h =
          let names = fit.declared in
          let known = names.constants x k (if_none (covered at vs x) (constant_named at.declared x) k i) in
          wanted_given c at.language w p (literal k) u (k.ty, literal_typed globs c at k known) h
      of_script_name None (Some o) i j h = alone_typed x o p c at w (found_operator c at vs fit x o j) u h
      of_script_name None None i j h =
          let q = given_bind (named at vs x p) (wanted w p) u h in wanted_given c at.language w p q.0 u (named_typed c at vs fit x p q.0 q.1) q.2

      step : (o : Option BuiltIn) → option_map_or (λ k. constant k w p) o (declared (constant_at at vs x) (operator_at at vs x) x p at vs w) ≡ given u → IsGiven globs c at.language w u
      step (Some k) h = constant_typed globs c at vs fit k w p f u h
      step None h = of_script_name (constant_at at vs x) (operator_at at vs x) refl refl h

  annotated_typed : (ks : List Known) (p : Place) → GivesTyped (annotated (parts ks) p)
  annotated_typed (a ∷ s ∷ []) p c at vs fit w f u e =
      let names = fit.declared in
      let t = given_bind (type_or_number at.declared s.0) (λ t. by_rule (rule.Annotated t) (parts (a ∷ [])) p at vs w) u e in
      rule_typed (rule.Annotated t.0) (λ c globs. (measured_form globs t.0 (measured at.declared names.types s.0 t.0 t.1)).1) (a ∷ []) p c at vs fit w f u t.2
  annotated_typed [] p c at vs fit w f u e = absurd (not_given Syntax p u e)
  annotated_typed (a ∷ []) p c at vs fit w f u e = absurd (not_given Syntax p u e)
  annotated_typed (a ∷ s ∷ b ∷ ks) p c at vs fit w f u e = absurd (not_given Syntax p u e)

  projection_typed : (ks : List Known) (p : Place) → GivesTyped (projection (parts ks) p)
  projection_typed (a ∷ n ∷ []) p c at vs fit w f u e = rule_typed (rule.Part (part_number (text_of n.0)) (place_of n.0)) (λ c globs. tt) (a ∷ []) p c at vs fit w f u e
  projection_typed [] p c at vs fit w f u e = absurd (not_given Syntax p u e)
  projection_typed (a ∷ []) p c at vs fit w f u e = absurd (not_given Syntax p u e)
  projection_typed (a ∷ n ∷ b ∷ ks) p c at vs fit w f u e = absurd (not_given Syntax p u e)

  bound_above : (q : Node) (n : ℕ) → bound_of q ≡ given n → 0 < n
  bound_above q n e = step (number_in q) e
    where
      step : (o : Option ℕ) → option_map_or (λ m. if is_bound m then given m else refused Argument (place_inside q)) o (refused Argument (place_inside q)) ≡ given n → 0 < n
      step (Some m) h =
          let k = if_given (is_bound m) m Argument (place_inside q) n h in
          let j = and_parts (nat_lt 0 m) (nat_lt m 65537) k.0 in subst (λ z. 0 < z) k.1 (ltb-true 0 m j.0)
      step None h = absurd (not_given Argument (place_inside q) n h)

  summed_typed : (ks : List Known) (p : Place) → GivesTyped (summed (parts ks) p)
  summed_typed (q ∷ g ∷ []) p c at vs fit w f u e =
      let k = given_bind (stands at w p ty.Real) _ u e in
      let n = given_bind (bound_of q.0) (λ n. by_rule (rule.Sum n) (parts (g ∷ [])) p at vs w) u k.2 in
      rule_typed (rule.Sum n.0) (λ c globs. bound_above q.0 n.0 n.1) (g ∷ []) p c at vs fit w f u n.2
  summed_typed [] p c at vs fit w f u e = absurd (not_given TypeMismatch p u e)
  summed_typed (a ∷ []) p c at vs fit w f u e = absurd (not_given TypeMismatch p u e)
  summed_typed (a ∷ s ∷ b ∷ ks) p c at vs fit w f u e = absurd (not_given TypeMismatch p u e)

  -- built-in operators at arguments
  rule_good : (k : BuiltIn) (n : ℕ) (r : Rule) → rule_of k n ≡ Some r → (c : Context) (globs : Name → Bool) → IsRule c globs r
  rule_good known.Some n r e c globs = let k = if_some (n == 1) (rule.One prefix.Some) r e in subst (IsRule c globs) k.1 tt
  rule_good known.Oget n r e c globs = let k = if_some (n == 1) (rule.One prefix.Oget) r e in subst (IsRule c globs) k.1 tt
  rule_good known.Dunit n r e c globs = let k = if_some (n == 1) (rule.One prefix.Dunit) r e in subst (IsRule c globs) k.1 tt
  rule_good known.Mu n r e c globs = let k = if_some (n == 2) (rule.Drawn Measure) r e in subst (IsRule c globs) k.1 tt
  rule_good known.Dmap n r e c globs = let k = if_some (n == 2) (rule.Drawn Image) r e in subst (IsRule c globs) k.1 tt
  rule_good known.Drestrict n r e c globs = let k = if_some (n == 2) (rule.Drawn Restriction) r e in subst (IsRule c globs) k.1 tt
  rule_good known.Mu1 n r e c globs = let k = if_some (n == 2) rule.Mass r e in subst (IsRule c globs) k.1 tt
  rule_good _ n r e c globs = none_some r e

  built_in_typed : (k : BuiltIn) (ks : List Known) (p : Place) → GivesTyped (λ at vs w. given_or (rule_of k (length (parts ks))) TypeMismatch p >>= λ r. by_rule r (parts ks) p at vs w)
  built_in_typed k ks p c at vs fit w f u e =
      let r = given_bind (given_or (rule_of k (length (parts ks))) TypeMismatch p) (λ r. by_rule r (parts ks) p at vs w) u e in
      rule_typed r.0 (rule_good k (length (parts ks)) r.0 (some_given (rule_of k (length (parts ks))) TypeMismatch p r.0 r.1)) ks p c at vs fit w f u r.2

  call_typed : (k : BuiltIn) (ks : List Known) (p : Place) → GivesTyped (call k (parts ks) p)
  call_typed known.Sum ks p c at vs fit w f u e = summed_typed ks p c at vs fit w f u e
  call_typed k ks p c at vs fit w f u e = built_in_typed k ks p c at vs fit w f u e

  -- an operator of the script at arguments
  user_call_typed : (o : Option OperatorType) (x : Name) (ks : List Known) (p : Place) (c : Context) (at : Environment) (vs : List Binding) → IsFitting globs c at vs → operator_at at vs x ≡ o →
      (w : Option Ty) → IsFormTypeIf globs w → (u : Term) → user_call o x (parts ks) p at vs w ≡ given u → IsGiven globs c at.language w u
  user_call_typed (Some o) x ks p c at vs fit i w f u e =
      let k = given_bind (stands at w p o.result) _ u e in
      let r = if_allowed (length (parts ks) == length o.params) (by_rule (rule.User x o) (parts ks) p at vs w) TypeMismatch p u k.2 in
      operands_typed c at vs fit (rule.User x o) (found_operator c at vs fit x o i) p w f ks [] tt u r.1
  user_call_typed None x ks p c at vs fit i w f u e =
      let q = given_bind (simple x p at vs None) (λ _. refused TypeMismatch p) u e in absurd (not_given TypeMismatch p u q.2)

  applied_typed : (x : Name) (ks : List Known) (p : Place) → GivesTyped (applied x (parts ks) p)
  applied_typed x ks p c at vs fit w f u e = step (known_at at vs x) e
    where
      step : (o : Option BuiltIn) → option_map_or (λ k. call k (parts ks) p at vs w) o (user_call (operator_at at vs x) x (parts ks) p at vs w) ≡ given u → IsGiven globs c at.language w u
      step (Some k) h = call_typed k ks p c at vs fit w f u h
      step None h = user_call_typed (operator_at at vs x) x ks p c at vs fit refl w f u h

  application_typed : (h : Head) (x : Name) (ns : List Node) (ks : List Known) (p : Place) → GivesTyped (application h x ns (parts ks) p)
  application_typed head.Name x ns ks p c at vs fit w f u e = applied_typed x ks p c at vs fit w f u e
  application_typed head.Path x ns ks p c at vs fit w f u e = applied_typed (path ns) ks p c at vs fit w f u e
  application_typed _ x ns ks p c at vs fit w f u e = absurd (not_given TypeMismatch p u e)

  applied_form_typed : (ks : List Known) (p : Place) → GivesTyped (applied_form (parts ks) p)
  applied_form_typed (a ∷ ks) p c at vs fit w f u e = application_typed (head_of a.0) (text_of a.0) (parts_of a.0) ks p c at vs fit w f u e
  applied_form_typed [] p c at vs fit w f u e = absurd (not_given Syntax p u e)

  quantified_typed : (x : Name) (ks : List Known) (p : Place) → GivesTyped (quantified x (parts ks) p)
  quantified_typed x (bs ∷ a ∷ []) p c at vs fit w f u h =
      let q = given_bind (quantifier_of x p) _ u h in
      let d = given_bind (formula at w p) (λ _. bound_by at [] (parts_of bs.0) >>= λ ws. under q.0 ws vs (elaborated a.0 at)) u q.2 in
      let k = if_refused (is_program at.language) Argument p (truth w p) d.0 d.1 in
      let b = given_bind (bound_by at [] (parts_of bs.0)) (λ ws. under q.0 ws vs (elaborated a.0 at)) u d.2 in
      let names = fit.declared in
      let bound = binders_may at names.types [] (parts_of bs.0) b.0 tt b.1 in
      let ws = reverse b.0 ++ vs in
      let r = given_bind (elaborated a.0 at ws (Some ty.Bool)) (λ t. given (over_all q.0 b.0 t)) u b.2 in
      let inner = under_all c b.0 in
      let body = of_given inner at.language ty.Bool r.0 (a.1.0 inner at ws (under_all_fits at b.0 vs c bound fit) (Some ty.Bool) tt r.0 r.1) in
      subst (IsGiven globs c at.language w) (given_is _ u r.2)
      (truth_given c at.language w p d.0 (over_all q.0 b.0 r.0) k.1 (over_all_typed at.language c q.0 b.0 r.0 bound body))
  quantified_typed x _ p c at vs fit w f u h = absurd (not_given Syntax p u h)

  equiv_typed : (ks : List Known) (p : Place) → GivesTyped (equivalence (parts ks) p)
  equiv_typed (m ∷ g ∷ a ∷ b ∷ []) p c at vs fit w f u h =
      let x = given_bind (judgment at w p) _ u h in
      let k = if_allowed (has_judgments at.language) (truth w p) Argument p x.0 x.1 in
      let n = given_bind (both_procedures at vs m.0 g.0 p) _ u x.2 in
      let l = n.0.0 in
      let r = n.0.1 in
      let pre = given_bind (elaborated a.0 (before at l.1 r.1) vs (Some ty.Bool)) _ u n.2 in
      let post = given_bind (elaborated b.0 (after at l.1 r.1) vs (Some ty.Bool)) (λ (t : Term). given (equivalent l.0 r.0 pre.0 t)) u pre.2 in
      let there = both_are at vs m.0 g.0 p n.0 n.1 in
      subst (IsGiven globs c at.language w) {x = equivalent l.0 r.0 pre.0 post.0} (given_is (equivalent l.0 r.0 pre.0 post.0) u post.2)
      (truth_given c at.language w p x.0 (equivalent l.0 r.0 pre.0 post.0) k.1
      (equivalence_typed c at vs fit k.0 l.0 r.0 l.1 r.1 there.0 there.1 pre.0 post.0
      (a.1.0 _ (before at l.1 r.1) vs (before_fits c at vs fit k.0 l.0 r.0 l.1 r.1 there.0 there.1) (Some ty.Bool) tt pre.0 pre.1)
      (b.1.0 _ (after at l.1 r.1) vs (after_fits c at vs fit k.0 l.0 r.0 l.1 r.1 there.0 there.1) (Some ty.Bool) tt post.0 post.1)))
  equiv_typed _ p c at vs fit w f u h = absurd (not_given Syntax p u h)

  contract_typed : (ks : List Known) (p : Place) → GivesContracts (contract (parts ks) p)
  contract_typed (f ∷ a ∷ b ∷ []) p c at vs fit j k h =
      let m = given_bind (one_procedure at vs f.0 p) _ k h in
      let pre = given_bind (elaborated a.0 (before_one at m.0.1) vs (Some ty.Bool)) _ k m.2 in
      let end = λ (t : Term). given (record { procedure = m.0.0; pre = pre.0; post = t }) in
      let post = given_bind (elaborated b.0 (after_one at m.0.1) vs (Some ty.Bool)) end k pre.2 in
      let there = one_is at vs f.0 p m.0 m.1 in
      subst (IsContract globs c) (given_is _ k post.2)
      (record {
        there = is_there c at vs fit j m.0.0 m.0.1 there;
        pre = a.1.0 _ (before_one at m.0.1) vs (before_one_fits c at vs fit j m.0.0 m.0.1 there) (Some ty.Bool) tt pre.0 pre.1;
        post = b.1.0 _ (after_one at m.0.1) vs (after_one_fits c at vs fit j m.0.0 m.0.1 there) (Some ty.Bool) tt post.0 post.1;
      })
  contract_typed _ p c at vs fit j k h = absurd (not_given Syntax p k h)

  -- a judgment may stand, and is of the wanted type
  judged : (c : Context) (at : Environment) (w : Option Ty) (p : Place) (x : Unit {0}) → judgment at w p ≡ given x → (has_judgments at.language ≡ true) × (truth w p ≡ given x)
  judged c at w p x e = if_allowed (has_judgments at.language) (truth w p) Argument p x e

  hoare_typed : (ks : List Known) (p : Place) → GivesTyped (hoare (parts ks) p)
  hoare_typed ks p c at vs fit w f u h =
      let x = given_bind (judgment at w p) _ u h in
      let j = judged c at w p x.0 x.1 in
      let k = given_bind (contract (parts ks) p at vs) (λ (k : Contract). given (always k)) u x.2 in
      subst (IsGiven globs c at.language w) (given_is _ u k.2)
      (truth_given c at.language w p x.0 (always k.0) j.1 (always_typed c at vs fit j.0 k.0 (contract_typed ks p c at vs fit j.0 k.0 k.1)))

  bounded_typed : (x : Name) (ks : List Known) (p : Place) → GivesTyped (bounded x (parts ks) p)
  bounded_typed x (a ∷ r ∷ []) p c at vs fit w f u h =
      let y = given_bind (judgment at w p) _ u h in
      let j = judged c at w p y.0 y.1 in
      let s = given_bind (relation x p) _ u y.2 in
      let k = given_bind (contract_of a.0 at vs) _ u s.2 in
      let b = given_bind (elaborated r.0 (around at) vs (Some ty.Real)) (λ (t : Term). given (with_chance k.0 s.0 t)) u k.2 in
      subst (IsGiven globs c at.language w) (given_is _ u b.2)
      (truth_given c at.language w p y.0 (with_chance k.0 s.0 b.0) j.1
      (with_chance_typed c at vs fit j.0 k.0 s.0 b.0 (a.1.2 c at vs fit j.0 k.0 k.1)
      (r.1.0 (with_own c None) (around at) vs (around_fits c at vs fit j.0) (Some ty.Real) tt b.0 b.1)))
  bounded_typed x _ p c at vs fit w f u h = absurd (not_given Syntax p u h)

  probability_typed : (ks : List Known) (p : Place) → GivesTyped (probability (parts ks) p)
  probability_typed (k ∷ m ∷ b ∷ []) p c at vs fit w f u h =
      let x = given_bind (chance_here at w p) _ u h in
      let j = if_allowed (has_judgments at.language) (stands at w p ty.Real) Argument p x.0 x.1 in
      let n = given_bind (called at vs (head_of k.0) (parts_of k.0) (place_of k.0)) _ u x.2 in
      let ts = given_bind (arguments_of k.0 n.0.1.params (place_of k.0) (before_call at (text_of m.0)) vs) _ u n.2 in
      let s = given_bind (memory_at at vs (text_of m.0) (place_of m.0)) _ u ts.2 in
      let e = given_bind (elaborated b.0 (after_one at n.0.1) vs (Some ty.Bool)) (λ (t : Term). given (chance n.0.0 s.0 ts.0 t)) u s.2 in
      let there = called_is at vs (head_of k.0) (parts_of k.0) (place_of k.0) n.0 n.1 in
      let known = known_there c at vs fit j.0 n.0.0 n.0.1 there in
      subst (IsGiven globs c at.language w) {x = chance n.0.0 s.0 ts.0 e.0} (given_is (chance n.0.0 s.0 ts.0 e.0) u e.2)
      (given_from c at.language w ty.Real (chance n.0.0 s.0 ts.0 e.0)
      (chance_typed c at vs fit j.0 n.0.0 n.0.1 there s.0 (memory_is c at vs fit (remembering at.language j.0) (text_of m.0) (place_of m.0) s.0 s.1) ts.0
      (k.1.3 c (before_call at (text_of m.0)) vs (call_fits c at vs fit j.0 (text_of m.0)) n.0.1.params known.params (place_of k.0) ts.0 ts.1) e.0
      (b.1.0 _ (after_one at n.0.1) vs (after_one_fits c at vs fit j.0 n.0.0 n.0.1 there) (Some ty.Bool) tt e.0 e.1))
      (stands_is at w p ty.Real x.0 j.1))
  probability_typed _ p c at vs fit w f u h = absurd (not_given Syntax p u h)

  -- a form with a side
  with_side_typed : (ns : List Node) (p : Place) → GivesTyped (with_side ns p)
  with_side_typed (a ∷ s ∷ []) p c at vs fit w f u e =
      let q = given_bind (read at vs (head_of a) (text_of a) (parts_of a) (place_of a) s) (wanted w p) u e in
      wanted_given c at.language w p q.0 u (read_typed c at vs fit (head_of a) (text_of a) (parts_of a) (place_of a) s q.0 q.1) q.2
  with_side_typed [] p c at vs fit w f u e = absurd (not_given Syntax p u e)
  with_side_typed (a ∷ []) p c at vs fit w f u e = absurd (not_given Syntax p u e)
  with_side_typed (a ∷ s ∷ b ∷ ns) p c at vs fit w f u e = absurd (not_given Syntax p u e)

  bracketed_typed : (ks : List Known) (p : Place) → GivesTyped (bracketed (parts ks) p)
  bracketed_typed (a ∷ []) p c at vs fit w f u e = a.1.0 c at vs fit w f u e
  bracketed_typed [] p c at vs fit w f u e = absurd (not_given Syntax p u e)
  bracketed_typed (a ∷ b ∷ ks) p c at vs fit w f u e = absurd (not_given Syntax p u e)

  form_parts : (h : Head) (x : Name) (ks : List Known) (p : Place) → GivesTyped (typing h x (parts ks) p)
  unfolding typing
  form_parts head.Name x ks p c at vs fit w f u e = simple_typed x p c at vs fit w f u e
  form_parts head.Path x ks p c at vs fit w f u e = simple_typed (path (bare (parts ks))) p c at vs fit w f u e
  form_parts head.Number x ks p c at vs fit w f u e = numeral_typed globs c at x w p u e
  form_parts head.Unit x ks p c at vs fit w f u e = wanted_given c at.language w p unit u (ty.Unit, unit_typed c at vs fit) e
  form_parts head.Bracketed x ks p c at vs fit w f u e = bracketed_typed ks p c at vs fit w f u e
  form_parts head.Sided x ks p c at vs fit w f u e = with_side_typed (bare (parts ks)) p c at vs fit w f u e
  form_parts head.Coin x ks p c at vs fit w f u e = coin_typed globs c at w p u e
  form_parts head.Function x ks p c at vs fit w f u e = absurd (not_given TypeMismatch p u e)
  form_parts head.TypedFunction x ks p c at vs fit w f u e = absurd (not_given TypeMismatch p u e)
  form_parts head.Typed x ks p c at vs fit w f u e = annotated_typed ks p c at vs fit w f u e
  form_parts head.Tuple x ks p c at vs fit w f u e = rule_typed (rule.Tuple (length (parts ks))) (λ c globs. tt) ks p c at vs fit w f u e
  form_parts head.Component x ks p c at vs fit w f u e = projection_typed ks p c at vs fit w f u e
  form_parts head.Conditional x ks p c at vs fit w f u e = rule_typed rule.If (λ c globs. tt) ks p c at vs fit w f u e
  form_parts head.Chosen x ks p c at vs fit w f u e = rule_typed rule.If (λ c globs. tt) ks p c at vs fit w f u e
  form_parts head.Get x ks p c at vs fit w f u e = rule_typed rule.Get (λ c globs. tt) ks p c at vs fit w f u e
  form_parts head.Set x ks p c at vs fit w f u e = rule_typed rule.Set (λ c globs. tt) ks p c at vs fit w f u e
  form_parts head.PowerProduct x ks p c at vs fit w f u e = rule_typed rule.Product (λ c globs. tt) ks p c at vs fit w f u e
  form_parts head.Uniform x ks p c at vs fit w f u e = let names = fit.declared in uniform_typed globs c at names.types (bare (parts ks)) w p u e
  form_parts head.Weights x ks p c at vs fit w f u e = weights_typed c at vs fit (bare (parts ks)) p w u e
  form_parts head.Apply x ks p c at vs fit w f u e = applied_form_typed ks p c at vs fit w f u e
  form_parts head.Equalities x ks p c at vs fit w f u e = equalities_typed c at vs fit (bare (parts ks)) w p u e
  form_parts head.Glob x ks p c at vs fit w f u e =
      let q = given_bind (whole_alone at vs (bare_glob (bare (parts ks)) None p) p) (wanted w p) u e in
      wanted_given c at.language w p q.0 u (whole_alone_typed c at vs fit (bare_glob (bare (parts ks)) None p) p q.0 q.1) q.2
  form_parts head.Compared x ks p c at vs fit w f u e = comparing_typed (both_whole x (bare (parts ks))) x ks p c at vs fit w f u e
  form_parts head.Quantified x ks p c at vs fit w f u e = quantified_typed x ks p c at vs fit w f u e
  form_parts head.Equiv x ks p c at vs fit w f u e = equiv_typed ks p c at vs fit w f u e
  form_parts head.Hoare x ks p c at vs fit w f u e = hoare_typed ks p c at vs fit w f u e
  form_parts head.Phoare x ks p c at vs fit w f u e = let q = given_bind (judgment at w p) (λ _. refused TypeMismatch p) u e in absurd (not_given TypeMismatch p u q.2)
  form_parts head.Bounded x ks p c at vs fit w f u e = bounded_typed x ks p c at vs fit w f u e
  form_parts head.Lossless x ks p c at vs fit w f u e =
      let q = given_bind (judgment at w p) _ u e in
      let j = judged c at w p q.0 q.1 in truth_given c at.language w p q.0 u j.1 (lossless_typed c at vs fit j.0 (bare (parts ks)) p u q.2)
  form_parts head.Probability x ks p c at vs fit w f u e = probability_typed ks p c at vs fit w f u e
  form_parts h x ks p c at vs fit w f u e = operation_typed (operator_of h x) (operator_known h x) ks p c at vs fit w f u e

  -- the name of a function's variable
  domain_name : (globs : Name → Bool) (d : Domain) → IsDomain globs d → (x : Name) → IsBoundName globs (binder_of d) (value_named x (type_in d))
  domain_name globs (Exactly t) h x = ((no_distribution t (with_globs globs t h), refl), finite_form globs t h)
  domain_name globs (Below n) h x = (omega arith, h)

  written_name : (ds : Declarations) (globs : Name → Bool) (d : Domain) → IsDomain globs d → (x : Name) (s : Node) (t : Ty) → written_as ds d s ≡ given t → IsBoundName globs (binder_of d) (value_named x t)
  written_name ds globs (Exactly v) h x s t e =
      let k = given_bind (type_of ds s) (λ z. if ty_eq z v then given z else refused TypeMismatch (place_of s)) t e in
      let j = if_given (ty_eq k.0 v) k.0 TypeMismatch (place_of s) t k.2 in
      subst (λ z. IsBoundName globs (value v) (value_named x z)) (sym ((ty_eq-Decides k.0 v).0 j.0) ∙ j.1) (domain_name globs (Exactly v) h x)
  written_name ds globs (Below n) h x s t e =
      let k = given_bind (type_of ds s) (λ z. if counts_to n z then given z else refused Argument (place_of s)) t e in
      let j = if_given (counts_to n k.0) k.0 Argument (place_of s) t k.2 in
      let m = counting n k.0 j.0 in
      let below : n ≤ m.0 = m.1 in
      subst (λ z. IsBoundName globs (index n) (value_named x z)) (sym m.2 ∙ j.1) (below, omega (arith, h, below))

  -- a function binds no memory
  no_memory : (d : Domain) → IsMemory (binder_of d) → ⊥
  no_memory (Exactly t) m = m
  no_memory (Below n) m = m

  -- the value of a function, under its variable
  value_typed : (a : Known) (d : Domain) (x : Name) (t : Ty) (c : Context) (at : Environment) (vs : List Binding) → IsFitting globs c at vs →
      IsBoundName globs (binder_of d) (value_named x t) → (w : Option Ty) → IsFormTypeIf globs w → (u : Term) →
      value_of x t (a.0, meant a.0) at vs w ≡ given u → IsGiven globs (within c (binder_of d) None) at.language w u
  value_typed a d x t c at vs fit h w f u e =
      let v = value_named x t in a.1.0 (within c (binder_of d) None) at (v ∷ vs) (inner_fits at c vs fit (binder_of d) None (no_memory d) v h) w f u e

  function_parts : (h : Head) (ks : List Known) (p : Place) → GivesValues (function_typing h (parts ks) p)
  unfolding function_typing
  function_parts head.Bracketed (a ∷ []) p c at vs fit d n w f u e = a.1.1 c at vs fit d n w f u e
  function_parts head.Function (xs ∷ a ∷ []) p c at vs fit d n w f u e =
      let x = given_bind (only (parts_of xs.0) p) (λ x. value_of (text_of x) (type_in d) (a.0, meant a.0) at vs w) u e in
      value_typed a d (text_of x.0) (type_in d) c at vs fit (domain_name globs d n (text_of x.0)) w f u x.2
  function_parts head.TypedFunction (xs ∷ s ∷ a ∷ []) p c at vs fit d n w f u e =
      let x = given_bind (only (parts_of xs.0) p) _ u e in
      let t = given_bind (written_as at.declared d s.0) (λ t. value_of (text_of x.0) t (a.0, meant a.0) at vs w) u x.2 in
      value_typed a d (text_of x.0) t.0 c at vs fit (written_name at.declared globs d n (text_of x.0) s.0 t.0 t.1) w f u t.2
  function_parts _ _ p c at vs fit d n w f u e = absurd (not_given _ p u e)

  -- arguments behind those that are typed
  module _ (c : Context) (at : Environment) (vs : List Binding) (fit : IsFitting globs c at vs) (p : Place) where
    abbrev Behind : List Term → List TypedName → List Term → Type 0
    Behind ds xs ts = (us : List Term) × (ds ++ us ≡ ts) × AreArguments globs c xs us

    behind_typed : (ds : List Term) (xs : List TypedName) (ks : List Known) (ts : List Term) → HaveVariableTypes xs → arguments p at vs ds xs (parts ks) ≡ given ts → Behind ds xs ts
    unfolding arguments
    behind_typed ds [] [] ts h e = ([], append-nil ds ∙ given_is ds ts e, tt)
    behind_typed ds (x ∷ xs) [] ts h e = absurd (not_given TypeMismatch p ts e)
    behind_typed ds [] (a ∷ ks) ts h e = absurd (not_given TypeMismatch (place_of a.0) ts e)
    behind_typed ds (x ∷ xs) (a ∷ ks) ts h e =
        let t = given_bind (elaborated a.0 at vs (Some x.ty)) (λ t. arguments p at vs (ds ++ t ∷ []) xs (parts ks)) ts e in
        let g = a.1.0 c at vs fit (Some x.ty) (finite_form globs x.ty (variable_with globs x.ty h.0)) t.0 t.1 in
        let r = behind_typed (ds ++ t.0 ∷ []) xs ks ts h.1 t.2 in
        (t.0 ∷ r.0, sym (append_assoc ds (t.0 ∷ []) r.0) ∙ r.1, ((record { typed = g.typed; written = g.wanted }, g.apart), r.2))

  last_typed : (o : Option Known) → GivesArguments (last_arguments (option_map (λ k. (k.0, meant k.0)) o))
  last_typed (Some a) c at vs fit xs h p ts e = a.1.3 c at vs fit xs h p ts e
  last_typed None c at vs fit xs h p ts e = absurd (not_given Syntax p ts e)

  part_at : (ks : List Known) (i : ℕ) → slice_get (parts ks) i ≡ option_map (λ k. (k.0, meant k.0)) (slice_get ks i)
  part_at [] i = refl
  part_at (k ∷ ks) zero = refl
  part_at (k ∷ ks) (suc i) = part_at ks i

  -- the arguments of a call are its last part
  in_last_typed : (ks : List Known) → GivesArguments (last_arguments (slice_get (parts ks) (length (parts ks) - 1)))
  in_last_typed ks c at vs fit xs h p ts e =
      last_typed (slice_get ks (length (parts ks) - 1)) c at vs fit xs h p ts (ap (λ o. last_arguments o xs p at vs) (sym (part_at ks (length (parts ks) - 1))) ∙ e)

  argument_parts : (h : Head) (ks : List Known) → GivesArguments (arguing h (parts ks))
  argument_parts head.Call ks c at vs fit xs h p ts e = in_last_typed ks c at vs fit xs h p ts e
  argument_parts head.FunctorCall ks c at vs fit xs h p ts e = in_last_typed ks c at vs fit xs h p ts e
  argument_parts head.List ks c at vs fit xs h p ts e =
      let k = if_refused (nat_lt (length (parts ks)) (length xs)) TypeMismatch p (arguments p at vs [] xs (parts ks)) ts e in
      let r = behind_typed c at vs fit p [] xs ks ts h k.1 in subst (AreArguments globs c xs) r.1 r.2
  argument_parts _ ks c at vs fit xs h p ts e = absurd (not_given Syntax p ts e)

  contract_parts : (h : Head) (ks : List Known) (p : Place) → GivesContracts (contracting h (parts ks) p)
  contract_parts head.Phoare ks p c at vs fit j k e = contract_typed ks p c at vs fit j k e
  contract_parts _ ks p c at vs fit j k e = absurd (not_given TypeMismatch p k e)

  all_parts : (h : Head) (x : Name) (ks : List Known) (p : Place) → IsTyped (meaning h x (parts ks) p)
  all_parts h x ks p = (form_parts h x ks p, function_parts h ks p, contract_parts h ks p, argument_parts h ks)

  pub meant_typed : (t : Node) → IsTyped (meant t)
  unfolding meant
  meant_typed = by_parts meaning IsTyped all_parts

pub elaborated_typed : {globs : Name → Bool} (t : Node) (c : Context) (at : Environment) (vs : List Binding) → IsFitting globs c at vs → (w : Option Ty) → IsFormTypeIf globs w → (u : Term) →
    elaborated t at vs w ≡ given u → IsGiven globs c at.language w u
elaborated_typed {globs} t = (meant_typed globs t).0

-- functions from a type of values
pub function_typed : {globs : Name → Bool} (t : Node) (c : Context) (at : Environment) → IsFitting globs c at [] → (a b : Ty) → IsFiniteIn globs a → IsFormType globs b → (u : Term) →
    function t at a b ≡ given u → IsGiven globs (within c (value a) None) at.language (Some b) u
function_typed {globs} t c at fit a b h k u e = (meant_typed globs t).1 c at [] fit (Exactly a) h (Some b) k u e
