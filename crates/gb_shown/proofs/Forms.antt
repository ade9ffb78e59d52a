-- What the typing of a form, and of a function, gives is named, in a named setting.
use Rattle.std.proofs.Common.{◌≡◌, ℕ, zero, suc, ◌-◌, slice_get, nat_lt, ◌==◌, length, Bool, true, false, if◌then◌else◌, List, [], ◌∷◌, ◌++◌, reverse, Option, Some, None, bytes_eq, refl, sym, subst, arith}
use Rattle.std.specs.Prelude.{◌^◌, codes}
use Rattle.std.specs.List.{AllByRecursion}
use Rattle.std.proofs.lemmas.Bool.{and_parts, ltb-true, lt-ltb}
use Rattle.gb_core.specs.declared.place.Place.{Place}
use Rattle.gb_core.specs.declared.refusal.Why.TheVariants.{TypeMismatch, Argument}
use Rattle.gb_core.specs.declared.ty.Ty.{Ty}
use Rattle.gb_core.specs.declared.ty.Ty.TheVariants as ty
use Rattle.gb_core.specs.SameTypes.{ty_eq}
use Rattle.gb_terms.specs.declared.decl.TypedName.{TypedName}
use Rattle.gb_terms.specs.declared.module.ProcRef.{ProcRef}
use Rattle.gb_terms.specs.declared.op.Side.{Side}
use Rattle.gb_terms.specs.declared.term.Term.{Term}
use Rattle.gb_terms.specs.declared.term.Head.TheVariants.{Pr, User}
use Rattle.gb_terms.specs.Make.{node}
use Rattle.gb_script.specs.declared.head.Head.{Head}
use Rattle.gb_script.specs.declared.head.Head.TheVariants as head
use Rattle.gb_script.specs.declared.tree.Node.{Node}
use Rattle.gb_script.specs.Each.{Each, each, EachOf, none, more}
use Rattle.gb_script.specs.Tree.{head_of, text_of, parts_of, place_of}
use Rattle.gb_limits.specs.Numbers.{number_of}
use Rattle.gb_goal.specs.Answers.{◌>>=◌, given_or}
use Rattle.gb_goal.specs.Answers.Answer.{given, refused}
use Rattle.gb_goal.specs.Scope.{Declarations, constant_named, operator_named}
use Rattle.gb_goal.specs.declared.scope.Constant.{Constant}
use Rattle.gb_goal.specs.declared.scope.OperatorType.{OperatorType}
use Rattle.gb_names.specs.declared.bindings.Binding.{Binding}
use Rattle.gb_names.specs.declared.names.Known.{Known as BuiltIn}
use Rattle.gb_names.specs.declared.names.Known.TheVariants as known
use Rattle.gb_names.specs.declared.setting.Language.{Language}
use Rattle.gb_names.specs.Allowed.{formula, judgment, stands}
use Rattle.gb_names.specs.Binders.{bound_by, over_all, quantifier_of}
use Rattle.gb_names.specs.Bindings.{value as value_named}
use Rattle.gb_names.specs.Environment.{Name, Environment, sampled, speaking, valued}
use Rattle.gb_names.specs.Judgments.{both_procedures, called, one_procedure, before, after, equivalent}
use Rattle.gb_names.specs.Names.{constant_at, covered, known_at, memory_at, named, operator_at, path, unit}
use Rattle.gb_names.specs.Types.{type_of, type_or_number}
use Rattle.gb_names.specs.Wanted.{wanted}
use Rattle.gb_names.proofs.Nodes.{said_is}
use Rattle.gb_operators.specs.declared.domain.Domain.{Domain}
use Rattle.gb_operators.specs.declared.domain.Domain.TheVariants.{Exactly, Below}
use Rattle.gb_operators.specs.declared.drawn.Drawn.TheVariants.{Measure, Image, Restriction}
use Rattle.gb_operators.specs.declared.operators.Prefix.TheVariants as prefix
use Rattle.gb_operators.specs.declared.operators.Operator.{Operator as Operation}
use Rattle.gb_operators.specs.declared.operators.Operator.TheVariants as operator
use Rattle.gb_operators.specs.declared.rules.Asked.{Asked}
use Rattle.gb_operators.specs.declared.rules.Asked.TheVariants as as_asked
use Rattle.gb_operators.specs.declared.rules.Rule.{Rule}
use Rattle.gb_operators.specs.declared.rules.Rule.TheVariants as rule
use Rattle.gb_operators.specs.Constants.{constant, literal}
use Rattle.gb_operators.specs.Domain.{counts_to, type_in, written_as}
use Rattle.gb_operators.specs.Literals.{bound_of, is_bound, number_in, part_number, place_inside}
use Rattle.gb_operators.specs.Open.{right_first}
use Rattle.gb_operators.specs.Operators.{comparison, operator_of}
use Rattle.gb_operators.specs.Rules.{asked, made, rule_for, rule_of, user_made}
use Rattle.gb_elab.specs.declared.contract.Contract.{Contract}
use Rattle.gb_elab.specs.OneProcedure.{after_one, always, around, before_one, relation, with_chance}
use Rattle.gb_elab.specs.Probability.{before_call, chance, chance_here}
use Rattle.gb_elab.specs.Globs.{Seen, bare_glob, both_whole, whole_alone}
use Rattle.gb_elab.specs.Forms.{Arguing, Contracting, Typing, Meaning, annotated, applied, applied_form, application, arguing, arguments, arguments_of, bare, bounded, bracketed, by_rule, call, comparing, contract, contracting, contract_of, declared, elaborated, equivalence, function, hoare, function_typing, last_arguments, meaning, meant, only, operand, operands, operation, operator_alone, probability, projection, quantified, read, simple, summed, typing, under, user_call, value_of, with_meanings, with_side}
use Rattle.gb_print_names.specs.declared.bound_names.Enumeration.{Enumeration}
use Rattle.gb_print.specs.Written.{in_range, IsWrittenProcedure}
use Rattle.gb_shown.specs.Named.{IsNamedType, IsNamedResult, IsNamed}
use Rattle.gb_shown.proofs.SpeltTrees.{AllNamed, node_named}
use Rattle.gb_shown.specs.Scopes.{IsNamedLocal, IsNamedScope, IsNamedSetting, AreNamedBindings, IsNamedWanted}
use Rattle.gb_shown.specs.Trees.{HasItsParts, IsFull}
use Rattle.gb_elab_laws.proofs.Given.{none_some}
use Rattle.gb_shown.proofs.Given.{given_bind, given_is, not_given, if_allowed, if_none, if_refused, if_some, some_given, chosen, either}
use Rattle.gb_shown.proofs.Types.{as_result}
use Rattle.gb_shown.proofs.FoundInForms.{constant_found, operator_found}
use Rattle.gb_shown.proofs.Spelled.{measured_named, spelled_named}
use Rattle.gb_shown.proofs.MadeForms.{Suits, IsNamedDomain, IsNamedRule, IsNamedAsked, AreReady, ready_behind, asked_named, made_named}
use Rattle.gb_shown.proofs.Leaves.{named_read, whole_alone_named, form_read}
use Rattle.gb_shown.proofs.Constants.{coin_named, constant_named as built_in_named, literal_named, numeral_named, uniform_named, unit_named, wanted_named}
use Rattle.gb_shown.proofs.Weighed.{weights_named}
use Rattle.gb_shown.proofs.Equations.{equalities_named, whole_equation_named}
use Rattle.gb_shown.proofs.Quantified.{inner_bound, binders_named, over_all_named}
use Rattle.gb_shown.proofs.Judged.{IsNamedContract, always_named, after_named, after_one_named, around_named, before_call_named, before_named, before_one_named, both_are, called_is, equivalent_named, lossless_named, one_is, parameters_named, with_chance_named}

-- what is known of operators
abbrev IsOperation : Option Operation → Type 0
IsOperation (Some (operator.Two i)) = Suits i.op i.operands
IsOperation _ = Unit {0}

comparison_known : (x : Name) → IsOperation (comparison x)
comparison_known x =
    either IsOperation (bytes_eq x (codes "=")) _ _ tt
    (either IsOperation (bytes_eq x (codes "<>")) _ _ tt
    (either IsOperation (bytes_eq x (codes "<")) _ _ tt
    (either IsOperation (bytes_eq x (codes "<=")) _ _ tt
    (either IsOperation (bytes_eq x (codes ">")) _ _ tt
    (either IsOperation (bytes_eq x (codes ">=")) _ _ tt
    (either IsOperation (bytes_eq x (codes "\\in")) _ _ tt tt))))))

operator_known : (h : Head) (x : Name) → IsOperation (operator_of h x)
unfolding operator_of
operator_known head.Compared x = comparison_known x
operator_known head.Not x = tt
operator_known head.Negative x = tt
operator_known head.ToReal x = tt
operator_known head.Absolute x = tt
operator_known head.And x = tt
operator_known head.Or x = tt
operator_known head.Implies x = tt
operator_known head.Iff x = tt
operator_known head.Sum x = tt
operator_known head.Difference x = tt
operator_known head.Product x = tt
operator_known head.Xor x = tt
operator_known head.Quotient x = tt
operator_known _ x = tt

rule_known : (o : Operation) → IsOperation (Some o) → (b : Bool) (n : Node) → IsNamedRule (rule_for o b n)
rule_known (operator.One o) h b n = tt
rule_known (operator.Two i) h b n = h
rule_known operator.Quotient h b n = tt
rule_known operator.Member h b n = tt

rule_ready : (o : Operation) (b : Bool) (n : Node) (k : ℕ) → AreReady (rule_for o b n) [] k
rule_ready (operator.One o) b n k = tt
rule_ready (operator.Two i) b n k = tt
rule_ready operator.Quotient b n k = tt
rule_ready operator.Member b n k = tt

-- numbers of parts, and bounds of sums
part_range : (x : Name) → in_range (part_number x) ≡ true
part_range x = step (number_of x) (nat_lt (number_of x) 256) refl
  where
    step : (n : ℕ) (b : Bool) → nat_lt n 256 ≡ b → in_range (if b then n else 0) ≡ true
    step n true e = let k = ltb-true n 256 e in lt-ltb n (2 ^ 127) (omega (arith, k))
    step n false e = refl

bound_range : (q : Node) (n : ℕ) → bound_of q ≡ given n → in_range n ≡ true
bound_range q n e =
    chosen (λ z. in_range z ≡ true) (λ m. if is_bound m then given m else refused Argument (place_inside q)) (number_in q) (refused Argument (place_inside q)) n
    (λ m i h.
    let k = if_allowed (is_bound m) (given m) Argument (place_inside q) n h in
    let j = and_parts (nat_lt 0 m) (nat_lt m 65537) k.0 in
    let l = ltb-true m 65537 j.1 in
    subst (λ z. in_range z ≡ true) (given_is m n k.1) (lt-ltb m (2 ^ 127) (omega (arith, l))))
    (λ h. absurd (not_given Argument (place_inside q) n h)) e

module _ (es : List Enumeration) where
  -- a typing gives named terms, where the wanted type is named
  abbrev pub GivesNamed : Typing → Type 0
  GivesNamed f = (at : Environment) (bs : List Binding) → IsNamedSetting es at → AreNamedBindings bs → (w : Option Ty) → IsNamedWanted w → (u : Term) → f at bs w ≡ given u → IsNamed es u

  -- a function gives named values
  abbrev pub GivesValues : (Domain → Typing) → Type 0
  GivesValues f = (d : Domain) → IsNamedDomain d → GivesNamed (f d)

  -- a judgment without its bound gives named conditions
  abbrev pub GivesContracts : Contracting → Type 0
  GivesContracts f = (at : Environment) (bs : List Binding) → IsNamedSetting es at → AreNamedBindings bs → (k : Contract) → f at bs ≡ given k → IsNamedContract es k

  -- a call gives named arguments
  abbrev pub GivesArguments : Arguing → Type 0
  GivesArguments f = (at : Environment) (bs : List Binding) → IsNamedSetting es at → AreNamedBindings bs → (xs : List TypedName) → AllByRecursion IsNamedLocal xs → (p : Place) (ts : List Term) →
      f xs p at bs ≡ given ts → AllNamed es ts

  abbrev pub IsNamedMeaning : Meaning → Type 0
  IsNamedMeaning m = GivesNamed m.form × GivesValues m.function × GivesContracts m.contract × GivesArguments m.arguments

  -- nodes, with what is known of what they mean
  abbrev AreKnown : List Node → Type 0
  AreKnown ns = AllByRecursion (λ n. Each IsFull n × IsNamedMeaning (meant n)) ns

  bare_full : (ns : List Node) → AreKnown ns → EachOf IsFull (bare (with_meanings ns))
  bare_full [] k = none
  bare_full (n ∷ ns) k = more k.0.0 (bare_full ns k.1)

  parts_full : (x : Node) → Each IsFull x → EachOf IsFull (parts_of x)
  parts_full x (each f g) = g

  speaking_named : (l : Language) (at : Environment) → IsNamedSetting es at → IsNamedSetting es (speaking l at)
  speaking_named l at fit = record { scope = fit.scope; around = fit.around; context = fit.context; variables = fit.variables }

  all_behind : (ts : List Term) (t : Term) → AllNamed es ts → IsNamed es t → AllNamed es (ts ++ t ∷ [])
  all_behind [] t h k = (k, tt)
  all_behind (s ∷ ts) t h k = (h.0, all_behind ts t h.1 k)

  given_named : (t u : Term) → IsNamed es t → given t ≡ given u → IsNamed es u
  given_named t u h e = subst (IsNamed es) (given_is t u e) h

  -- The parts of a form, one after another, and what is made of them.
  module _ (at : Environment) (bs : List Binding) (fit : IsNamedSetting es at) (bound : AreNamedBindings bs) where
    operand_named : (k : Asked) → IsNamedAsked k → (n : Node) → IsNamedMeaning (meant n) → (t : Term) → operand k (n, meant n) at bs ≡ given t → IsNamed es t
    operand_named (as_asked.Form w) f n m t e = m.0 (valued at) bs (speaking_named _ at fit) bound w f t e
    operand_named (as_asked.Branch w) f n m t e = m.0 at bs fit bound w f t e
    operand_named (as_asked.Source w) f n m t e = m.0 (sampled at) bs (speaking_named _ at fit) bound w f t e
    operand_named (as_asked.Function d w) f n m t e = m.1 d f.0 (valued at) bs (speaking_named _ at fit) bound w f.1 t e

    module _ (r : Rule) (n : IsNamedRule r) (p : Place) (w : Option Ty) (f : IsNamedWanted w) where
      operands_named : (ns : List Node) → AreKnown ns → (ts : List Term) → AllNamed es ts → AreReady r ts (length ns) → (u : Term) → operands r p at bs w ts (with_meanings ns) ≡ given u → IsNamed es u
      unfolding operands
      operands_named [] k ts h y u e = let t = given_bind (made r p ts) (wanted w p) u e in wanted_named es w p t.0 u (made_named es r n ts h y p t.0 t.1) t.2
      operands_named (a ∷ ns) k ts h y u e =
          let q = given_bind (asked r at w p (place_of a) ts) _ u e in
          let t = given_bind (operand q.0 (a, meant a) at bs) (λ t. operands r p at bs w (ts ++ t ∷ []) (with_meanings ns)) u q.2 in
          let x = operand_named q.0 (asked_named es at w p f r n ts (place_of a) h q.0 q.1) a k.0.1 t.0 t.1 in
          operands_named ns k.1 (ts ++ t.0 ∷ []) (all_behind ts t.0 h x) (ready_behind r at w p (place_of a) ts (length ns) q.0 t.0 y q.1) u t.2

  -- a form that a rule makes
  rule_named : (r : Rule) → IsNamedRule r → (ns : List Node) → AreKnown ns → AreReady r [] (length ns) → (p : Place) → GivesNamed (by_rule r (with_meanings ns) p)
  rule_named r n ns k y p at bs fit bound w f u e = operands_named at bs fit bound r n p w f ns k [] tt y u e

  operation_named : (o : Option Operation) → IsOperation o → (ns : List Node) → AreKnown ns → (p : Place) → GivesNamed (operation o (with_meanings ns) p)
  operation_named (Some o) n (a ∷ []) k p at bs fit bound w f u e = rule_named (rule_for o false a) (rule_known o n false a) (a ∷ []) k (rule_ready o false a 1) p at bs fit bound w f u e
  operation_named (Some o) n (a ∷ b ∷ []) k p at bs fit bound w f u e = step (right_first a b) e
    where
      step : (t : Bool) →
          (if t then by_rule (rule_for o true b) (with_meanings (b ∷ a ∷ [])) p at bs w else by_rule (rule_for o false b) (with_meanings (a ∷ b ∷ [])) p at bs w) ≡ given u → IsNamed es u
      step true h = rule_named (rule_for o true b) (rule_known o n true b) (b ∷ a ∷ []) (k.1.0, (k.0, tt)) (rule_ready o true b 2) p at bs fit bound w f u h
      step false h = rule_named (rule_for o false b) (rule_known o n false b) (a ∷ b ∷ []) k (rule_ready o false b 2) p at bs fit bound w f u h
  operation_named _ n _ k p at bs fit bound w f u e = absurd (not_given _ _ u e)

  -- a comparison
  comparing_named : (o : Option (Seen × Seen)) (x : Name) (ns : List Node) → AreKnown ns → (p : Place) → GivesNamed (comparing o x (with_meanings ns) p)
  comparing_named (Some s) x ns k p at bs fit bound w f u e = whole_equation_named es at fit bs bound w p s.0 s.1 u e
  comparing_named None x ns k p at bs fit bound w f u e = operation_named (operator_of head.Compared x) (operator_known head.Compared x) ns k p at bs fit bound w f u e

  -- operators of the script that a name is found to mean
  found_operator : (at : Environment) (bs : List Binding) → IsNamedSetting es at → (x : Name) (o : OperatorType) → operator_at at bs x ≡ Some o → IsNamedRule (rule.User x o)
  found_operator at bs fit x o e = operator_found es at.declared fit.scope x o (if_none (covered at bs x) (operator_named at.declared x) o e)

  alone_named : (x : Name) (o : OperatorType) (p : Place) (at : Environment) (w : Option Ty) → IsNamedRule (rule.User x o) → (u : Term) → operator_alone x o p at w ≡ given u → IsNamed es u
  alone_named x o p at w n u e =
      let k = given_bind (stands at w p o.result) (λ _. user_made x o p []) u e in
      let r = if_allowed (0 == length o.params) (given (node (User x) [] o.result)) TypeMismatch p u k.2 in
      given_named (node (User x) [] o.result) u (node_named es (User x) [] o.result n.0 n.2 tt) r.1

  simple_named : (x : Name) (p : Place) → GivesNamed (simple x p)
  simple_named x p at bs fit bound w f u e =
      chosen (IsNamed es) (λ k. constant k w p) (known_at at bs x) _ u (λ k i h. built_in_named es k w p f u h) (of_script (constant_at at bs x) (operator_at at bs x) refl refl) e
    where
      of_script : (k : Option Constant) (o : Option OperatorType) → constant_at at bs x ≡ k → operator_at at bs x ≡ o → declared k o x p at bs w ≡ given u → IsNamed es u
      of_script (Some k) o i j h = wanted_named es w p (literal k) u (literal_named es k (constant_found es at.declared fit.scope x k (if_none (covered at bs x) (constant_named at.declared x) k i))) h
      of_script None (Some o) i j h = alone_named x o p at w (found_operator at bs fit x o j) u h
      of_script None None i j h = let q = given_bind (named at bs x p) (wanted w p) u h in wanted_named es w p q.0 u (named_read es at fit bs bound x p q.0 q.1) q.2

  annotated_named : (ns : List Node) → AreKnown ns → (p : Place) → GivesNamed (annotated (with_meanings ns) p)
  annotated_named (a ∷ s ∷ []) k p at bs fit bound w f u e =
      let t = given_bind (type_or_number at.declared s) (λ t. by_rule (rule.Annotated t) (with_meanings (a ∷ [])) p at bs w) u e in
      rule_named (rule.Annotated t.0) (as_result t.0 (measured_named es at.declared fit.scope s k.1.0.0 t.0 t.1)) (a ∷ []) (k.0, tt) tt p at bs fit bound w f u t.2
  annotated_named _ k p at bs fit bound w f u e = absurd (not_given _ _ u e)

  projection_named : (ns : List Node) → AreKnown ns → (p : Place) → GivesNamed (projection (with_meanings ns) p)
  projection_named (a ∷ n ∷ []) k p at bs fit bound w f u e = rule_named (rule.Part (part_number (text_of n)) (place_of n)) (part_range (text_of n)) (a ∷ []) (k.0, tt) tt p at bs fit bound w f u e
  projection_named _ k p at bs fit bound w f u e = absurd (not_given _ _ u e)

  summed_named : (ns : List Node) → AreKnown ns → (p : Place) → GivesNamed (summed (with_meanings ns) p)
  summed_named (q ∷ g ∷ []) k p at bs fit bound w f u e =
      let x = given_bind (stands at w p ty.Real) _ u e in
      let n = given_bind (bound_of q) (λ n. by_rule (rule.Sum n) (with_meanings (g ∷ [])) p at bs w) u x.2 in
      rule_named (rule.Sum n.0) (bound_range q n.0 n.1) (g ∷ []) k.1 tt p at bs fit bound w f u n.2
  summed_named _ k p at bs fit bound w f u e = absurd (not_given _ _ u e)

  -- built-in operators at arguments
  abbrev IsReadyRule : Rule → Type 0
  IsReadyRule r = IsNamedRule r × ((n : ℕ) → AreReady r [] n)

  rule_good : (k : BuiltIn) (n : ℕ) (r : Rule) → rule_of k n ≡ Some r → IsReadyRule r
  rule_good known.Some n r e = let k = if_some (n == 1) (rule.One prefix.Some) r e in subst IsReadyRule k.1 (tt, λ n. tt)
  rule_good known.Oget n r e = let k = if_some (n == 1) (rule.One prefix.Oget) r e in subst IsReadyRule k.1 (tt, λ n. tt)
  rule_good known.Dunit n r e = let k = if_some (n == 1) (rule.One prefix.Dunit) r e in subst IsReadyRule k.1 (tt, λ n. tt)
  rule_good known.Mu n r e = let k = if_some (n == 2) (rule.Drawn Measure) r e in subst IsReadyRule k.1 (tt, λ n. tt)
  rule_good known.Dmap n r e = let k = if_some (n == 2) (rule.Drawn Image) r e in subst IsReadyRule k.1 (tt, λ n. tt)
  rule_good known.Drestrict n r e = let k = if_some (n == 2) (rule.Drawn Restriction) r e in subst IsReadyRule k.1 (tt, λ n. tt)
  rule_good known.Mu1 n r e = let k = if_some (n == 2) rule.Mass r e in subst IsReadyRule k.1 (tt, λ n. tt)
  rule_good _ n r e = none_some r e

  by_built_in : (b : BuiltIn) (ns : List Node) → AreKnown ns → (p : Place) → GivesNamed (λ at bs w. given_or (rule_of b (length (with_meanings ns))) TypeMismatch p >>= λ r. by_rule r (with_meanings ns) p at bs w)
  by_built_in b ns k p at bs fit bound w f u e =
      let r = given_bind (given_or (rule_of b (length (with_meanings ns))) TypeMismatch p) (λ r. by_rule r (with_meanings ns) p at bs w) u e in
      let g = rule_good b (length (with_meanings ns)) r.0 (some_given (rule_of b (length (with_meanings ns))) TypeMismatch p r.0 r.1) in
      rule_named r.0 g.0 ns k (g.1 (length ns)) p at bs fit bound w f u r.2

  call_named : (b : BuiltIn) (ns : List Node) → AreKnown ns → (p : Place) → GivesNamed (call b (with_meanings ns) p)
  call_named known.Sum ns k p at bs fit bound w f u e = summed_named ns k p at bs fit bound w f u e
  call_named b ns k p at bs fit bound w f u e = by_built_in b ns k p at bs fit bound w f u e

  -- an operator of the script at arguments
  user_call_named : (o : Option OperatorType) (x : Name) (ns : List Node) → AreKnown ns → (p : Place) (at : Environment) (bs : List Binding) → IsNamedSetting es at → AreNamedBindings bs →
      operator_at at bs x ≡ o → (w : Option Ty) → IsNamedWanted w → (u : Term) → user_call o x (with_meanings ns) p at bs w ≡ given u → IsNamed es u
  user_call_named (Some o) x ns k p at bs fit bound i w f u e =
      let y = given_bind (stands at w p o.result) _ u e in
      let r = if_allowed (length (with_meanings ns) == length o.params) (by_rule (rule.User x o) (with_meanings ns) p at bs w) TypeMismatch p u y.2 in
      rule_named (rule.User x o) (found_operator at bs fit x o i) ns k tt p at bs fit bound w f u r.1
  user_call_named None x ns k p at bs fit bound i w f u e = let q = given_bind (simple x p at bs None) (λ _. refused TypeMismatch p) u e in absurd (not_given TypeMismatch p u q.2)

  applied_named : (x : Name) (ns : List Node) → AreKnown ns → (p : Place) → GivesNamed (applied x (with_meanings ns) p)
  applied_named x ns k p at bs fit bound w f u e =
      chosen (IsNamed es) (λ b. call b (with_meanings ns) p at bs w) (known_at at bs x) _ u (λ b i h. call_named b ns k p at bs fit bound w f u h)
      (user_call_named (operator_at at bs x) x ns k p at bs fit bound refl w f u) e

  application_named : (h : Head) (x : Name) (ms ns : List Node) → AreKnown ns → (p : Place) → GivesNamed (application h x ms (with_meanings ns) p)
  application_named head.Name x ms ns k p at bs fit bound w f u e = applied_named x ns k p at bs fit bound w f u e
  application_named head.Path x ms ns k p at bs fit bound w f u e = applied_named (path ms) ns k p at bs fit bound w f u e
  application_named _ x ms ns k p at bs fit bound w f u e = absurd (not_given _ _ u e)

  applied_form_named : (ns : List Node) → AreKnown ns → (p : Place) → GivesNamed (applied_form (with_meanings ns) p)
  applied_form_named (a ∷ ns) k p at bs fit bound w f u e = application_named (head_of a) (text_of a) (parts_of a) ns k.1 p at bs fit bound w f u e
  applied_form_named [] k p at bs fit bound w f u e = absurd (not_given _ _ u e)

  quantified_named : (x : Name) (ns : List Node) → AreKnown ns → (p : Place) → GivesNamed (quantified x (with_meanings ns) p)
  quantified_named x (b ∷ a ∷ []) k p at bs fit bound w f u h =
      let q = given_bind (quantifier_of x p) _ u h in
      let d = given_bind (formula at w p) (λ _. bound_by at [] (parts_of b) >>= λ ws. under q.0 ws bs (elaborated a at)) u q.2 in
      let c = given_bind (bound_by at [] (parts_of b)) (λ ws. under q.0 ws bs (elaborated a at)) u d.2 in
      let named = binders_named es at fit.scope [] (parts_of b) (parts_full b k.0.0) c.0 tt c.1 in
      let r = given_bind (elaborated a at (reverse c.0 ++ bs) (Some ty.Bool)) (λ t. given (over_all q.0 c.0 t)) u c.2 in
      given_named (over_all q.0 c.0 r.0) u (over_all_named es q.0 c.0 r.0 named (k.1.0.1.0 at (reverse c.0 ++ bs) fit (inner_bound c.0 bs named bound) (Some ty.Bool) tt r.0 r.1)) r.2
  quantified_named x _ k p at bs fit bound w f u h = absurd (not_given _ _ u h)

  equivalence_named : (ns : List Node) → AreKnown ns → (p : Place) → GivesNamed (equivalence (with_meanings ns) p)
  equivalence_named (m ∷ g ∷ a ∷ b ∷ []) k p at bs fit bound w f u h =
      let x = given_bind (judgment at w p) _ u h in
      let n = given_bind (both_procedures at bs m g p) _ u x.2 in
      let l = n.0.0 in
      let r = n.0.1 in
      let pre = given_bind (elaborated a (before at l.1 r.1) bs (Some ty.Bool)) _ u n.2 in
      let post = given_bind (elaborated b (after at l.1 r.1) bs (Some ty.Bool)) (λ (t : Term). given (equivalent l.0 r.0 pre.0 t)) u pre.2 in
      let there = both_are es at fit bs m g p n.0 n.1 in
      let left = there.0 in
      let right = there.1 in
      given_named (equivalent l.0 r.0 pre.0 post.0) u
      (equivalent_named es l.0 r.0 pre.0 post.0 left.written right.written
      (k.1.1.0.1.0 (before at l.1 r.1) bs (before_named es at fit l.1 r.1 left.typed right.typed) bound (Some ty.Bool) tt pre.0 pre.1)
      (k.1.1.1.0.1.0 (after at l.1 r.1) bs (after_named es at fit l.1 r.1 left.typed right.typed) bound (Some ty.Bool) tt post.0 post.1)) post.2
  equivalence_named _ k p at bs fit bound w f u h = absurd (not_given _ _ u h)

  contract_named : (ns : List Node) → AreKnown ns → (p : Place) → GivesContracts (contract (with_meanings ns) p)
  contract_named (m ∷ a ∷ b ∷ []) k p at bs fit bound c h =
      let n = given_bind (one_procedure at bs m p) _ c h in
      let pre = given_bind (elaborated a (before_one at n.0.1) bs (Some ty.Bool)) _ c n.2 in
      let end = λ (t : Term). given (record { procedure = n.0.0; pre = pre.0; post = t }) in
      let post = given_bind (elaborated b (after_one at n.0.1) bs (Some ty.Bool)) end c pre.2 in
      let there = one_is es at fit bs m p n.0 n.1 in
      subst (IsNamedContract es) (given_is _ c post.2)
      (record {
        procedure = there.written;
        pre = k.1.0.1.0 (before_one at n.0.1) bs (before_one_named es at fit n.0.1 there.typed) bound (Some ty.Bool) tt pre.0 pre.1;
        post = k.1.1.0.1.0 (after_one at n.0.1) bs (after_one_named es at fit n.0.1 there.typed) bound (Some ty.Bool) tt post.0 post.1;
      })
  contract_named _ k p at bs fit bound c h = absurd (not_given _ _ c h)

  hoare_named : (ns : List Node) → AreKnown ns → (p : Place) → GivesNamed (hoare (with_meanings ns) p)
  hoare_named ns k p at bs fit bound w f u h =
      let x = given_bind (judgment at w p) _ u h in
      let c = given_bind (contract (with_meanings ns) p at bs) (λ (c : Contract). given (always c)) u x.2 in
      given_named (always c.0) u (always_named es c.0 (contract_named ns k p at bs fit bound c.0 c.1)) c.2

  bounded_named : (x : Name) (ns : List Node) → AreKnown ns → (p : Place) → GivesNamed (bounded x (with_meanings ns) p)
  bounded_named x (a ∷ r ∷ []) k p at bs fit bound w f u h =
      let y = given_bind (judgment at w p) _ u h in
      let s = given_bind (relation x p) _ u y.2 in
      let c = given_bind (contract_of a at bs) _ u s.2 in
      let b = given_bind (elaborated r (around at) bs (Some ty.Real)) (λ (t : Term). given (with_chance c.0 s.0 t)) u c.2 in
      given_named (with_chance c.0 s.0 b.0) u
      (with_chance_named es c.0 s.0 b.0 (k.0.1.2 at bs fit bound c.0 c.1) (k.1.0.1.0 (around at) bs (around_named es at fit) bound (Some ty.Real) tt b.0 b.1)) b.2
  bounded_named x _ k p at bs fit bound w f u h = absurd (not_given _ _ u h)

  chance_named : (g : ProcRef) (s : Side) (ts : List Term) (e : Term) → IsWrittenProcedure [] g → AllNamed es ts → IsNamed es e → IsNamed es (chance g s ts e)
  chance_named g s ts e h k x = node_named es (Pr g s) (ts ++ e ∷ []) ty.Real h tt (all_behind ts e k x)

  probability_named : (ns : List Node) → AreKnown ns → (p : Place) → GivesNamed (probability (with_meanings ns) p)
  probability_named (c ∷ m ∷ b ∷ []) k p at bs fit bound w f u h =
      let x = given_bind (chance_here at w p) _ u h in
      let n = given_bind (called at bs (head_of c) (parts_of c) (place_of c)) _ u x.2 in
      let ts = given_bind (arguments_of c n.0.1.params (place_of c) (before_call at (text_of m)) bs) _ u n.2 in
      let s = given_bind (memory_at at bs (text_of m) (place_of m)) _ u ts.2 in
      let e = given_bind (elaborated b (after_one at n.0.1) bs (Some ty.Bool)) (λ (t : Term). given (chance n.0.0 s.0 ts.0 t)) u s.2 in
      let there = called_is es at fit bs (head_of c) (parts_of c) (place_of c) n.0 n.1 in
      let args = k.0.1.3 (before_call at (text_of m)) bs (before_call_named es at fit (text_of m)) bound n.0.1.params (parameters_named es n.0.1 there.typed) (place_of c) ts.0 ts.1 in
      let event = k.1.1.0.1.0 (after_one at n.0.1) bs (after_one_named es at fit n.0.1 there.typed) bound (Some ty.Bool) tt e.0 e.1 in
      given_named (chance n.0.0 s.0 ts.0 e.0) u (chance_named n.0.0 s.0 ts.0 e.0 there.written args event) e.2
  probability_named _ k p at bs fit bound w f u h = absurd (not_given _ _ u h)

  -- a form with a side
  with_side_named : (ns : List Node) (p : Place) → GivesNamed (with_side ns p)
  with_side_named (a ∷ s ∷ []) p at bs fit bound w f u e =
      let q = given_bind (read at bs (head_of a) (text_of a) (parts_of a) (place_of a) s) (wanted w p) u e in
      wanted_named es w p q.0 u (form_read es at fit bs bound (head_of a) (text_of a) (parts_of a) (place_of a) s q.0 q.1) q.2
  with_side_named _ p at bs fit bound w f u e = absurd (not_given _ _ u e)

  bracketed_named : (ns : List Node) → AreKnown ns → (p : Place) → GivesNamed (bracketed (with_meanings ns) p)
  bracketed_named (a ∷ []) k p at bs fit bound w f u e = k.0.1.0 at bs fit bound w f u e
  bracketed_named _ k p at bs fit bound w f u e = absurd (not_given _ _ u e)

  tuple_ready : (n : ℕ) (ns : List Node) → HasItsParts head.Tuple ns → AreReady (rule.Tuple n) [] (length ns)
  tuple_ready n (a ∷ b ∷ ns) h = omega arith
  tuple_ready n [] h = absurd h
  tuple_ready n (a ∷ []) h = absurd h

  form_parts : (h : Head) (x : Name) (ns : List Node) → HasItsParts h ns → AreKnown ns → (p : Place) → GivesNamed (typing h x (with_meanings ns) p)
  unfolding typing
  form_parts head.Name x ns y k p at bs fit bound w f u e = simple_named x p at bs fit bound w f u e
  form_parts head.Path x ns y k p at bs fit bound w f u e = simple_named (path (bare (with_meanings ns))) p at bs fit bound w f u e
  form_parts head.Number x ns y k p at bs fit bound w f u e = numeral_named es at x w f p u e
  form_parts head.Unit x ns y k p at bs fit bound w f u e = wanted_named es w p unit u (unit_named es) e
  form_parts head.Bracketed x ns y k p at bs fit bound w f u e = bracketed_named ns k p at bs fit bound w f u e
  form_parts head.Sided x ns y k p at bs fit bound w f u e = with_side_named (bare (with_meanings ns)) p at bs fit bound w f u e
  form_parts head.Coin x ns y k p at bs fit bound w f u e = coin_named es at w p u e
  form_parts head.Function x ns y k p at bs fit bound w f u e = absurd (not_given _ _ u e)
  form_parts head.TypedFunction x ns y k p at bs fit bound w f u e = absurd (not_given _ _ u e)
  form_parts head.Typed x ns y k p at bs fit bound w f u e = annotated_named ns k p at bs fit bound w f u e
  form_parts head.Tuple x ns y k p at bs fit bound w f u e =
      rule_named (rule.Tuple (length (with_meanings ns))) tt ns k (tuple_ready (length (with_meanings ns)) ns y) p at bs fit bound w f u e
  form_parts head.Component x ns y k p at bs fit bound w f u e = projection_named ns k p at bs fit bound w f u e
  form_parts head.Conditional x ns y k p at bs fit bound w f u e = rule_named rule.If tt ns k tt p at bs fit bound w f u e
  form_parts head.Chosen x ns y k p at bs fit bound w f u e = rule_named rule.If tt ns k tt p at bs fit bound w f u e
  form_parts head.Get x ns y k p at bs fit bound w f u e = rule_named rule.Get tt ns k tt p at bs fit bound w f u e
  form_parts head.Set x ns y k p at bs fit bound w f u e = rule_named rule.Set tt ns k tt p at bs fit bound w f u e
  form_parts head.PowerProduct x ns y k p at bs fit bound w f u e = rule_named rule.Product tt ns k tt p at bs fit bound w f u e
  form_parts head.Uniform x ns y k p at bs fit bound w f u e = uniform_named es at fit.scope (bare (with_meanings ns)) (bare_full ns k) w p u e
  form_parts head.Weights x ns y k p at bs fit bound w f u e = weights_named es at fit.scope bs (bare (with_meanings ns)) p w u e
  form_parts head.Apply x ns y k p at bs fit bound w f u e = applied_form_named ns k p at bs fit bound w f u e
  form_parts head.Equalities x ns y k p at bs fit bound w f u e = equalities_named es at fit bs bound (bare (with_meanings ns)) w p u e
  form_parts head.Glob x ns y k p at bs fit bound w f u e =
      let q = given_bind (whole_alone at bs (bare_glob (bare (with_meanings ns)) None p) p) (wanted w p) u e in
      wanted_named es w p q.0 u (whole_alone_named es at fit bs bound (bare_glob (bare (with_meanings ns)) None p) p q.0 q.1) q.2
  form_parts head.Compared x ns y k p at bs fit bound w f u e = comparing_named (both_whole x (bare (with_meanings ns))) x ns k p at bs fit bound w f u e
  form_parts head.Quantified x ns y k p at bs fit bound w f u e = quantified_named x ns k p at bs fit bound w f u e
  form_parts head.Equiv x ns y k p at bs fit bound w f u e = equivalence_named ns k p at bs fit bound w f u e
  form_parts head.Hoare x ns y k p at bs fit bound w f u e = hoare_named ns k p at bs fit bound w f u e
  form_parts head.Phoare x ns y k p at bs fit bound w f u e = let q = given_bind (judgment at w p) (λ _. refused TypeMismatch p) u e in absurd (not_given TypeMismatch p u q.2)
  form_parts head.Bounded x ns y k p at bs fit bound w f u e = bounded_named x ns k p at bs fit bound w f u e
  form_parts head.Lossless x ns y k p at bs fit bound w f u e = let q = given_bind (judgment at w p) _ u e in lossless_named es at fit bs (bare (with_meanings ns)) p u q.2
  form_parts head.Probability x ns y k p at bs fit bound w f u e = probability_named ns k p at bs fit bound w f u e
  form_parts h x ns y k p at bs fit bound w f u e = operation_named (operator_of h x) (operator_known h x) ns k p at bs fit bound w f u e

  -- the type of a function's variable
  domain_named : (d : Domain) → IsNamedDomain d → IsNamedType (type_in d)
  domain_named (Exactly t) h = h
  domain_named (Below n) h = h

  written_named : (ds : Declarations) → IsNamedScope es ds → (d : Domain) (s : Node) → Each IsFull s → (t : Ty) → written_as ds d s ≡ given t → IsNamedType t
  written_named ds scope (Exactly v) s full t e =
      let k = given_bind (type_of ds s) (λ z. if ty_eq z v then given z else refused TypeMismatch (place_of s)) t e in
      let j = if_allowed (ty_eq k.0 v) (given k.0) TypeMismatch (place_of s) t k.2 in subst IsNamedType (given_is k.0 t j.1) (spelled_named es ds scope s full k.0 k.1)
  written_named ds scope (Below n) s full t e =
      let k = given_bind (type_of ds s) (λ z. if counts_to n z then given z else refused Argument (place_of s)) t e in
      let j = if_allowed (counts_to n k.0) (given k.0) Argument (place_of s) t k.2 in subst IsNamedType (given_is k.0 t j.1) (spelled_named es ds scope s full k.0 k.1)

  function_parts : (h : Head) (ns : List Node) → AreKnown ns → (p : Place) → GivesValues (function_typing h (with_meanings ns) p)
  unfolding function_typing
  function_parts head.Bracketed (a ∷ []) k p d n at bs fit bound w f u e = k.0.1.1 d n at bs fit bound w f u e
  function_parts head.Function (xs ∷ a ∷ []) k p d n at bs fit bound w f u e =
      let x = given_bind (only (parts_of xs) p) (λ x. value_of (text_of x) (type_in d) (a, meant a) at bs w) u e in
      k.1.0.1.0 at (value_named (text_of x.0) (type_in d) ∷ bs) fit (domain_named d n, bound) w f u x.2
  function_parts head.TypedFunction (xs ∷ s ∷ a ∷ []) k p d n at bs fit bound w f u e =
      let x = given_bind (only (parts_of xs) p) _ u e in
      let t = given_bind (written_as at.declared d s) (λ t. value_of (text_of x.0) t (a, meant a) at bs w) u x.2 in
      k.1.1.0.1.0 at (value_named (text_of x.0) t.0 ∷ bs) fit (written_named at.declared fit.scope d s k.1.0.0 t.0 t.1, bound) w f u t.2
  function_parts _ _ k p d n at bs fit bound w f u e = absurd (not_given _ _ u e)

  -- arguments behind those that are typed
  module _ (at : Environment) (bs : List Binding) (fit : IsNamedSetting es at) (bound : AreNamedBindings bs) (p : Place) where
    behind_named : (ds : List Term) → AllNamed es ds → (xs : List TypedName) → AllByRecursion IsNamedLocal xs → (ns : List Node) → AreKnown ns → (ts : List Term) →
        arguments p at bs ds xs (with_meanings ns) ≡ given ts → AllNamed es ts
    unfolding arguments
    behind_named ds h [] n [] k ts e = subst (AllNamed es) (given_is ds ts e) h
    behind_named ds h (x ∷ xs) n [] k ts e = absurd (not_given _ _ ts e)
    behind_named ds h [] n (a ∷ ns) k ts e = absurd (not_given _ _ ts e)
    behind_named ds h (x ∷ xs) n (a ∷ ns) k ts e =
        let t = given_bind (elaborated a at bs (Some x.ty)) (λ t. arguments p at bs (ds ++ t ∷ []) xs (with_meanings ns)) ts e in
        let g = k.0.1.0 at bs fit bound (Some x.ty) (as_result x.ty n.0.1) t.0 t.1 in
        behind_named (ds ++ t.0 ∷ []) (all_behind ds t.0 h g) xs n.1 ns k.1 ts t.2

  last_named : (ns : List Node) → AreKnown ns → (i : ℕ) → GivesArguments (last_arguments (slice_get (with_meanings ns) i))
  last_named [] k i at bs fit bound xs n p ts e = absurd (not_given _ _ ts e)
  last_named (a ∷ ns) k zero at bs fit bound xs n p ts e = k.0.1.3 at bs fit bound xs n p ts e
  last_named (a ∷ ns) k (suc i) at bs fit bound xs n p ts e = last_named ns k.1 i at bs fit bound xs n p ts e

  argument_parts : (h : Head) (ns : List Node) → AreKnown ns → GivesArguments (arguing h (with_meanings ns))
  argument_parts head.Call ns k at bs fit bound xs n p ts e = last_named ns k (length (with_meanings ns) - 1) at bs fit bound xs n p ts e
  argument_parts head.FunctorCall ns k at bs fit bound xs n p ts e = last_named ns k (length (with_meanings ns) - 1) at bs fit bound xs n p ts e
  argument_parts head.List ns k at bs fit bound xs n p ts e =
      let r = if_refused (nat_lt (length (with_meanings ns)) (length xs)) TypeMismatch p (arguments p at bs [] xs (with_meanings ns)) ts e in
      behind_named at bs fit bound p [] tt xs n ns k ts r.1
  argument_parts _ ns k at bs fit bound xs n p ts e = absurd (not_given _ _ ts e)

  contract_parts : (h : Head) (ns : List Node) → AreKnown ns → (p : Place) → GivesContracts (contracting h (with_meanings ns) p)
  contract_parts head.Phoare ns k p at bs fit bound c e = contract_named ns k p at bs fit bound c e
  contract_parts _ ns k p at bs fit bound c e = absurd (not_given _ _ c e)

  all_parts : (h : Head) (x : Name) (ns : List Node) → HasItsParts h ns → AreKnown ns → (p : Place) → IsNamedMeaning (meaning h x (with_meanings ns) p)
  all_parts h x ns y k p = (form_parts h x ns y k p, function_parts h ns k p, contract_parts h ns k p, argument_parts h ns k)

  mutual
    unfolding meant

    pub meant_named : (t : Node) → Each IsFull t → IsNamedMeaning (meant t)
    meant_named t (each h hs) = subst IsNamedMeaning (sym (said_is meaning t)) (all_parts (head_of t) (text_of t) (parts_of t) h (all_known (parts_of t) hs) (place_of t))

    all_known : (ns : List Node) → EachOf IsFull ns → AreKnown ns
    all_known [] none = tt
    all_known (n ∷ ns) (more h hs) = ((h, meant_named n h), all_known ns hs)

  -- forms, and functions from a type to a type
  pub elaborated_named : (t : Node) → Each IsFull t → GivesNamed (elaborated t)
  elaborated_named t full = (meant_named t full).0

  pub function_named : (t : Node) → Each IsFull t → (at : Environment) → IsNamedSetting es at → (a b : Ty) → IsNamedType a → IsNamedResult b → (u : Term) → function t at a b ≡ given u → IsNamed es u
  function_named t full at fit a b h k u e = (meant_named t full).1 (Exactly a) h at [] fit tt (Some b) k u e
