-- `call` and `proc` on procedures of abstract modules keep names.
use Rattle.std.proofs.Common.{◌≡◌, ℕ, Bool, true, false, ◌&&◌, if◌then◌else◌, List, [], ◌∷◌, ◌++◌, length, Option, Some, None, refl, subst}
use Rattle.std.proofs.lemmas.Option.{same_Some, none-some}
use Rattle.std.specs.List.{AllByRecursion}
use Rattle.std.specs.Option.{option_map}
use Rattle.gb_core.specs.declared.refusal.Why.TheVariants.{NotLossless, Shape}
use Rattle.gb_core.specs.declared.ty.Ty.{Ty}
use Rattle.gb_core.specs.declared.ty.Ty.TheVariants as ty
use Rattle.gb_core.specs.declared.var.Var.{Var}
use Rattle.gb_core.specs.declared.var.Var.TheVariants.{Glob, Local}
use Rattle.gb_terms.specs.declared.decl.TypedName.{TypedName}
use Rattle.gb_terms.specs.declared.module.ProcRef.{ProcRef}
use Rattle.gb_terms.specs.declared.op.Read.TheVariants.{Program}
use Rattle.gb_terms.specs.declared.op.Rel.TheVariants.{AtLeast}
use Rattle.gb_terms.specs.declared.op.Side.{Side}
use Rattle.gb_terms.specs.declared.op.Side.TheVariants.{Own, Left, Right}
use Rattle.gb_terms.specs.declared.term.Head.TheVariants as head
use Rattle.gb_terms.specs.declared.term.Instr.{Instr}
use Rattle.gb_terms.specs.declared.term.Term.{Term}
use Rattle.gb_walk.specs.Clash.{variables_read}
use Rattle.gb_limits.specs.LeftOut.{is_word_of}
use Rattle.gb_limits.specs.Lexeme.{spells}
use Rattle.gb_steps.specs.declared.step.AbstractRule.{AbstractRule}
use Rattle.gb_steps.specs.declared.step.AbstractRule.TheVariants as abstract_rule
use Rattle.gb_goal.specs.Answers.{Answer}
use Rattle.gb_goal.specs.Answers.Answer.{given, refused}
use Rattle.gb_goal.specs.Goal.{Goal}
use Rattle.gb_goal.specs.Goal.Code.{body, procedure}
use Rattle.gb_goal.specs.Goal.Goal.{hoare, phoare, equiv, ambient}
use Rattle.gb_goal.specs.Interfaces.{ProcedureType, procedure_type}
use Rattle.gb_goal.specs.Rows.{refusing}
use Rattle.gb_goal.specs.Scope.{Declarations}
use Rattle.gb_mods.specs.Exclusions.{exclusions}
use Rattle.gb_mods.specs.Meant.{meant_by}
use Rattle.gb_mods.specs.Written.{written}
use Rattle.gb_mods.specs.declared.meant.Meant.{Meant}
use Rattle.gb_mods.specs.declared.meant.Meant.TheVariants.{Unknown, Declared, Any}
use Rattle.gb_typing.proofs.Given.{refused_at, refused_given, same_given}
use Rattle.gb_typing.specs.Forms.{and_form}
use Rattle.gb_meaning.specs.Memory.{result_name}
use Rattle.gb_prog.specs.AllValues.{to_bound_values, Located}
use Rattle.gb_prog.specs.Writes.{TypedVariable}
use Rattle.gb_bodies.specs.Conseq.{leads, pair_leads}
use Rattle.gb_call.specs.Call.{in_front, unless_clash}
use Rattle.gb_call.specs.LastCall.{LastCall, last_call}
use Rattle.gb_call.specs.Outcomes.{clash_after, is_left, reads_result, Outcome}
use Rattle.gb_call.specs.Written.{with_types}
use Rattle.gb_call_both.specs.BothOutcomes.{after_among, result_of, results_among, values_among}
use Rattle.gb_adv.specs.Abstract.{AbstractCall, AbstractProcedure, abstract_call, abstract_procedure, any_one, calling, same_abstract}
use Rattle.gb_adv.specs.Call as calls_of
use Rattle.gb_adv.specs.Call.{before_call, before_calls, by_calls, by_written, call_row, clash_of_both, outcome, read_after, returns}
use Rattle.gb_adv.specs.Equations.{and_each, followed_by, led_by, reading, same_arguments, same_in_both, same_owner, same_params, same_result}
use Rattle.gb_adv.specs.Oracles.{behind, each_keep_both, each_keeps, keep_both, meeting, meeting_both, with_both, writes_of, keeps}
use Rattle.gb_adv.specs.OwnNames.{own_names}
use Rattle.gb_adv.specs.Proc as procedures_of
use Rattle.gb_adv.specs.Proc.{end_alike, one_goals, proc_row, start_alike}
use Rattle.gb_adv.specs.Returns.{Returns, after_where, inside_result, of_returns, oracle_writes, owner_changes, owner_of, reads_owner, reads_returned, result_changes, values}
use Rattle.gb_adv.specs.Rows.{abstract_row}
use Rattle.gb_print_names.specs.declared.bound_names.Enumeration.{Enumeration}
use Rattle.gb_print.specs.Written.{is_path, is_variable_here, IsWrittenProcedure}
use Rattle.gb_shown.specs.Named.{IsNamedType, IsNamed, IsNamedGoal}
use Rattle.gb_shown.specs.Rules.{AreNamedGlobals, AreNamedProcedures, HasNamedTypes, IsNamedKept, KeepsNames}
use Rattle.gb_shown.proofs.AllValues.{AreOfTypes, HaveTypes, bound_values_named, for_all_named, have_append}
use Rattle.gb_shown.proofs.BothCalls.{globals_have, left_named, result_have}
use Rattle.gb_shown.proofs.SpeltCalls as one
use Rattle.gb_shown.proofs.SpeltCalls.{NamedCall, NamedOutcome, few_keeps, last_named, types_named}
use Rattle.gb_shown.proofs.Changed.{PutNamed, changed_named}
use Rattle.gb_shown.proofs.SpeltForms.{and_named, as_result, equal_named, every_named, every_pair_named, implies_named, located_named, puts_append, not_named}
use Rattle.gb_shown.proofs.Loops.{unless_keeps}
use Rattle.gb_shown.proofs.Programs.{AllOf}
use Rattle.gb_shown.proofs.SpeltStatements.{EachNamed}
use Rattle.gb_shown.proofs.SpeltTrees.{AllNamed, node_named}
use Rattle.gb_adv.specs.Until.{after_until, as_long, before_until, by_full, by_writes_until, changed_in, each_keep_until, end_until, keep_until, not_yet, on_both_until, start_until, until_goals, until_row, with_until}
use Rattle.gb_call_both.specs.OneSide.{speaks, where_full}
use Rattle.gb_full.specs.Loss.{Loss, nowhere, sampled, called, code_loss}
use Rattle.gb_steps.specs.declared.step.Until.{Until}

abbrev AreWritten : List ProcRef → Type 0
AreWritten os = AllByRecursion (IsWrittenProcedure []) os

-- the result of a procedure has a name
result_read : is_variable_here [] (Local result_name) ≡ true
unfolding spells is_word_of
result_read = refl

module _ (es : List Enumeration) where
  -- Equations.

  read_named : (r : Side) (x : Var) (t : Ty) → is_variable_here [] x ≡ true → IsNamedType t → IsNamed es (reading r x t)
  read_named r x t h k = node_named es (head.Read (Program x r)) [] t (h, k) (as_result t k) tt

  same_named : (x : Var) (t : Ty) → is_variable_here [] x ≡ true → IsNamedType t → IsNamed es (same_in_both x t)
  same_named x t h k = equal_named es _ _ (read_named Left x t h k) (read_named Right x t h k)

  owner_named : (a : List ℕ) → is_path a ≡ true → IsNamed es (same_owner a)
  owner_named a h = same_named (Glob a) (ty.Glob a) h h

  result_named : (t : Ty) → IsNamedType t → IsNamed es (same_result t)
  result_named t h = same_named (Local result_name) t result_read h

  abbrev AreParams : List TypedName → Type 0
  AreParams xs = AllByRecursion (λ (x : TypedName). (is_path x.name ≡ true) × IsNamedType x.ty) xs

  params_named : (xs ys : List TypedName) → AreParams xs → AreParams ys → AllNamed es (same_params xs ys)
  params_named [] ys h k = tt
  params_named (x ∷ xs) [] h k = tt
  params_named (x ∷ xs) (y ∷ ys) h k = (equal_named es _ _ (read_named Left (Local x.name) x.ty h.0.0 h.0.1) (read_named Right (Local y.name) y.ty k.0.0 k.0.1), params_named xs ys h.1 k.1)

  arguments_named : (ts us : List Term) → AllNamed es ts → AllNamed es us → AllNamed es (same_arguments ts us)
  arguments_named [] us h k = tt
  arguments_named (t ∷ ts) [] h k = tt
  arguments_named (t ∷ ts) (u ∷ us) h k = (equal_named es _ _ (located_named es Left t h.0) (located_named es Right u k.0), arguments_named ts us h.1 k.1)

  each_named : (f : Term) (fs : List Term) → IsNamed es f → AllNamed es fs → IsNamed es (and_each f fs)
  each_named f [] h k = h
  each_named f (g ∷ gs) h k = each_named (and_form f g) gs (and_named es f g h k.0) k.1

  led_named : (fs : List Term) (f : Term) → AllNamed es fs → IsNamed es f → IsNamed es (led_by fs f)
  led_named [] f h k = k
  led_named (g ∷ gs) f h k = and_named es (and_each g gs) f (each_named g gs h.0 h.1) k

  followed_named : (f : Term) (fs : List Term) → IsNamed es f → AllNamed es fs → IsNamed es (followed_by f fs)
  followed_named f [] h k = h
  followed_named f (g ∷ gs) h k = and_named es f (and_each g gs) h (each_named g gs k.0 k.1)

  -- What is said of both calls before them.

  record NamedReturns (o : Returns) : Type 0 where
    owner : is_path o.owner ≡ true
    left : NamedOutcome es o.left
    right : NamedOutcome es o.right

  owner_have : (d : Bool) (a : List ℕ) → is_path a ≡ true → HaveTypes (owner_of d a)
  owner_have true a h = (h, tt)
  owner_have false a h = tt

  inside_have : (d : Bool) (o : Returns) → NamedReturns o → HaveTypes (inside_result d o)
  inside_have d o n = have_append (owner_of d o.owner) (oracle_writes o) (owner_have d o.owner n.owner) (globals_have es o.left o.right n.left n.right)

  values_have : (b d : Bool) (o : Returns) → NamedReturns o → HaveTypes (values b d o)
  values_have b d o n = have_append (result_of b o.left) (inside_result d o) (result_have es b o.left n.left) (inside_have d o n)

  owner_put : (d : Bool) (a : List ℕ) (n : ℕ) → is_path a ≡ true → PutNamed es (owner_changes d a n)
  owner_put true a n h = (node_named es (head.Bound n) [] (ty.Glob a) h (as_result (ty.Glob a) h) tt, tt)
  owner_put false a n h = tt

  returns_named : (b d : Bool) (o : Returns) (q : Term) → NamedReturns o → IsNamed es q → IsNamed es (of_returns b d o q)
  returns_named b d o q n x =
      let left = left_named es b o.left (length (inside_result d o)) n.left in
      let right = left_named es b o.right (length (inside_result d o)) n.right in
      changed_named es q ((result_changes b d o ++ owner_changes d o.owner (length (oracle_writes o))) ++ to_bound_values (inside_result d o))
      (puts_append es (result_changes b d o ++ owner_changes d o.owner (length (oracle_writes o))) (to_bound_values (inside_result d o))
      (puts_append es (result_changes b d o) (owner_changes d o.owner (length (oracle_writes o))) (puts_append es _ _ left right) (owner_put d o.owner (length (oracle_writes o)) n.owner))
      (bound_values_named es (inside_result d o) (inside_have d o n))) x

  where_named : (b d : Bool) (o : Returns) (i q : Term) → NamedReturns o → IsNamed es i → IsNamed es q → IsNamed es (after_where b d o i q)
  where_named b d o i q n x y =
      let have = values_have b d o n in
      for_all_named es (values b d o) _ have
      (implies_named es _ _ (changed_named es i (to_bound_values (values b d o)) (bound_values_named es (values b d o) have) x) (returns_named b d o q n y))

  -- Goals.

  abbrev All : List Goal → Type 0
  All Gs = AllOf es Gs

  goals_append : (Gs Hs : List Goal) → All Gs → All Hs → All (Gs ++ Hs)
  goals_append [] Hs h k = k
  goals_append (G ∷ Gs) Hs h k = (h.0, goals_append Gs Hs h.1 k)

  front_keeps : (G : Goal) (a : Answer (List Goal)) (Gs : List Goal) → IsNamedGoal es G → ((Hs : List Goal) → a ≡ given Hs → All Hs) → in_front G a ≡ given Gs → All Gs
  front_keeps G (given Hs) Gs h f e = subst All (same_given (G ∷ Hs) Gs e) (h, f Hs refl)
  front_keeps G (refused w p) Gs h f e = refused_at w p Gs e

  behind_keep : (a : Answer (List Goal)) (Hs Gs : List Goal) → ((Fs : List Goal) → a ≡ given Fs → All Fs) → All Hs → behind a Hs ≡ given Gs → All Gs
  behind_keep (given Fs) Hs Gs f h e = subst All (same_given (Fs ++ Hs) Gs e) (goals_append Fs Hs (f Fs refl) h)
  behind_keep (refused w p) Hs Gs f h e = refused_at w p Gs e

  -- what is given where a test holds
  tested : (b : Bool) (a : Answer (List Goal)) (Gs : List Goal) → (if b then a else refusing Shape) ≡ given Gs → a ≡ given Gs
  tested true a Gs e = e
  tested false a Gs e = refused_given Shape Gs e

  oracles_keep : (i : Term) → IsNamed es i → (os : List ProcRef) → AreWritten os → All (each_keeps i os)
  oracles_keep i n [] w = tt
  oracles_keep i n (o ∷ os) w = ((w.0, n, n), oracles_keep i n os w.1)

  -- a procedure of an abstract module
  record NamedAbstract (f : AbstractProcedure) : Type 0 where
    owner : is_path f.owner ≡ true
    types : HasNamedTypes f.type
    oracles : AreWritten f.oracles

  -- a call of one
  record NamedAbstractCall (k : AbstractCall) : Type 0 where
    call : NamedCall es k.call
    called : NamedAbstract k.called

  outcome_named : (r : Side) (k : AbstractCall) (W : List TypedVariable) → NamedAbstractCall k → AreOfTypes W → NamedOutcome es (outcome r k W)
  outcome_named r k W n w = record { result = let f = n.called in let t = f.types in t.1; globals = w }

  module _ (ds : Declarations) (globals : AreNamedGlobals ds) (procedures : AreNamedProcedures es ds) where
    found_named : (p : ProcRef) → IsWrittenProcedure [] p → (f : AbstractProcedure) → abstract_procedure ds p ≡ Some f → NamedAbstract f
    found_named p w f e = by (procedure_type ds None p) refl (meant_by ds p) refl e
      where
        by : (o : Option ProcedureType) → procedure_type ds None p ≡ o → (m : Meant) → meant_by ds p ≡ m → any_one p o m ≡ Some f → NamedAbstract f
        by (Some t) h (Any a qs) k e = let z = procedures.asked p w a qs k in subst NamedAbstract (same_Some _ f e) (record { owner = z.0; types = procedures.types p t h; oracles = z.1 })
        by (Some t) h Unknown k e = absurd (none-some f e)
        by (Some t) h (Declared d) k e = absurd (none-some f e)
        by None h m k e = absurd (none-some f e)

    call_found : (o : Option LastCall) → ((k : LastCall) → o ≡ Some k → NamedCall es k) → (c : AbstractCall) → abstract_call ds o ≡ Some c → NamedAbstractCall c
    call_found None f c e = absurd (none-some c e)
    call_found (Some k) f c e = by (abstract_procedure ds k.procedure) refl e
      where
        by : (o : Option AbstractProcedure) → abstract_procedure ds k.procedure ≡ o → abstract_call ds (Some k) ≡ Some c → NamedAbstractCall c
        by None h e = absurd (none-some c (subst (λ o. option_map (calling k) o ≡ Some c) h e))
        by (Some p) h e =
            let n = f k refl in
            subst NamedAbstractCall (same_Some _ c (subst (λ o. option_map (calling k) o ≡ Some c) h e)) (record { call = n; called = found_named k.procedure n.procedure p h })

    last_found : (is : List Instr) → EachNamed es is → (c : AbstractCall) → abstract_call ds (last_call is) ≡ Some c → NamedAbstractCall c
    last_found is w c e = call_found (last_call is) (λ k h. last_named es is w k h) c e

    module _ (i : Term) (n : IsNamed es i) where
      both_named : (o p : ProcRef) (t u : ProcedureType) → IsWrittenProcedure [] o → IsWrittenProcedure [] p → HasNamedTypes t → HasNamedTypes u → IsNamedGoal es (keep_both i o t p u)
      both_named o p t u v w h k =
          (v, w, led_named (same_params t.params u.params) i (params_named t.params u.params h.0 k.0) n, and_named es (same_result t.result) i (result_named t.result h.1) n)

      pairs_keep : (os ps : List ProcRef) → AreWritten os → AreWritten ps → (Gs : List Goal) → each_keep_both ds i os ps ≡ given Gs → All Gs
      pairs_keep [] ps v w Gs e = subst All (same_given [] Gs e) tt
      pairs_keep (o ∷ os) [] v w Gs e = subst All (same_given [] Gs e) tt
      pairs_keep (o ∷ os) (p ∷ ps) v w Gs e = by (λ Hs f. pairs_keep os ps v.1 w.1 Hs f) (procedure_type ds None o) refl (procedure_type ds None p) refl e
        where
          by : ((Hs : List Goal) → each_keep_both ds i os ps ≡ given Hs → All Hs) → (t : Option ProcedureType) → procedure_type ds None o ≡ t → (u : Option ProcedureType) → procedure_type ds None p ≡ u → with_both i o t p u (each_keep_both ds i os ps) ≡ given Gs → All Gs
          by rest (Some t) h (Some u) k e =
              front_keeps (keep_both i o t p u) (each_keep_both ds i os ps) Gs (both_named o p t u v.0 w.0 (procedures.types o t h) (procedures.types p u k)) rest
              (tested (own_names t.params && own_names u.params) (in_front (keep_both i o t p u) (each_keep_both ds i os ps)) Gs e)
          by rest (Some t) h None k e = refused_given Shape Gs e
          by rest None h u k e = refused_given Shape Gs e

      -- Calls.

      before_named : (k l : AbstractCall) (W U : List TypedVariable) (q : Term) → NamedAbstractCall k → NamedAbstractCall l → AreOfTypes W → AreOfTypes U → IsNamed es q → IsNamed es (before_calls k W l U i q)
      before_named k l W U q a b w u y =
          let f = a.called in
          let c = a.call in
          let d = b.call in
          and_named es _ _
          (and_named es _ _ (followed_named i (same_arguments k.call.arguments l.call.arguments) n (arguments_named k.call.arguments l.call.arguments c.arguments d.arguments)) (owner_named k.called.owner f.owner))
          (where_named (reads_returned (returns k W l U) i q) (reads_owner k.called.owner q) (returns k W l U) i q
          (record { owner = f.owner; left = outcome_named Left k W a w; right = outcome_named Right l U b u }) n y)

      both_keep : (k l : AbstractCall) (p q : Term) (Gs : List Goal) → NamedAbstractCall k → NamedAbstractCall l → IsNamed es p → IsNamed es q → (x y : Option (List TypedVariable)) →
          ((W : List TypedVariable) → x ≡ Some W → AreOfTypes W) → ((U : List TypedVariable) → y ≡ Some U → AreOfTypes U) → calls_of.both_goals ds k l i p q x y ≡ given Gs → All Gs
      both_keep k l p q Gs a b c d (Some W) (Some U) f g e =
          let left = a.called in
          let right = b.called in
          let here = a.call in
          let there = b.call in
          behind_keep (each_keep_both ds i k.called.oracles l.called.oracles) (equiv (body k.call.before) (body l.call.before) p (before_calls k W l U i q) ∷ []) Gs
          (λ Fs h. pairs_keep k.called.oracles l.called.oracles left.oracles right.oracles Fs h)
          ((here.before, there.before, c, before_named k l W U q a b (f W refl) (g U refl) d), tt) e
      both_keep k l p q Gs a b c d (Some W) None f g e = refused_given Shape Gs e
      both_keep k l p q Gs a b c d None y f g e = refused_given Shape Gs e

      writes_keep : (k l : AbstractCall) (p q : Term) (Gs : List Goal) → NamedAbstractCall k → NamedAbstractCall l → IsNamed es p → IsNamed es q → (x y : Option (List Var)) → calls_of.by_writes ds k l i p q x y ≡ given Gs → All Gs
      writes_keep k l p q Gs a b c d (Some W) (Some U) e =
          let V = read_after ds Left k i q W in
          let T = read_after ds Right l i q U in
          let goals = calls_of.both_goals ds k l i p q V T in
          let clash = clash_of_both (exclusions ds) k l i q W U in
          both_keep k l p q Gs a b c d V T (λ S h. types_named ds globals _ S h) (λ S h. types_named ds globals _ S h)
          (unless_keeps clash goals Gs (unless_keeps (meeting_both (exclusions ds) k.called.owner i W U) (unless_clash clash goals) Gs e))
      writes_keep k l p q Gs a b c d (Some W) None e = refused_given Shape Gs e
      writes_keep k l p q Gs a b c d None y e = refused_given Shape Gs e

      on_both_keep : (p q : Term) (Gs : List Goal) → IsNamed es p → IsNamed es q → (x y : Option AbstractCall) → ((k : AbstractCall) → x ≡ Some k → NamedAbstractCall k) → ((l : AbstractCall) → y ≡ Some l → NamedAbstractCall l) →
          calls_of.on_both ds i p q x y ≡ given Gs → All Gs
      on_both_keep p q Gs c d (Some k) (Some l) f g e =
          let few = tested (same_abstract k.called l.called) _ Gs e in
          writes_keep k l p q Gs (f k refl) (g l refl) c d (writes_of ds k.called.oracles) (writes_of ds l.called.oracles) (few_keeps l.call.targets _ Gs (few_keeps k.call.targets _ Gs few))
      on_both_keep p q Gs c d (Some k) None f g e = refused_given Shape Gs e
      on_both_keep p q Gs c d None y f g e = refused_given Shape Gs e

      one_named : (k : AbstractCall) (W : List TypedVariable) (q : Term) → NamedAbstractCall k → AreOfTypes W → IsNamed es q → IsNamed es (before_call k W i q)
      one_named k W q a w y = and_named es i _ n (one.where_named es AtLeast (reads_result (outcome Own k W) i q) (outcome Own k W) i q (outcome_named Own k W a w) n y)

      one_keeps : (k : AbstractCall) (p q : Term) (Gs : List Goal) → NamedAbstractCall k → IsNamed es p → IsNamed es q → (x : Option (List TypedVariable)) → ((W : List TypedVariable) → x ≡ Some W → AreOfTypes W) →
          calls_of.one_goals k i p q x ≡ given Gs → All Gs
      one_keeps k p q Gs a c d None f e = refused_given Shape Gs e
      one_keeps k p q Gs a c d (Some W) f e =
          let called = a.called in
          let call = a.call in
          subst All (same_given _ Gs e) (goals_append (each_keeps i k.called.oracles) _ (oracles_keep i n k.called.oracles called.oracles) ((call.before, c, one_named k W q a (f W refl) d), tt))

      written_keeps : (k : AbstractCall) (p q : Term) (Gs : List Goal) → NamedAbstractCall k → IsNamed es p → IsNamed es q → (x : Option (List Var)) → by_written ds k i p q x ≡ given Gs → All Gs
      written_keeps k p q Gs a c d None e = refused_given Shape Gs e
      written_keeps k p q Gs a c d (Some W) e =
          let V = read_after ds Own k i q W in
          let goals = calls_of.one_goals k i p q V in
          let clash = clash_after (exclusions ds) Own k.call.targets W i q in
          one_keeps k p q Gs a c d V (λ S h. types_named ds globals _ S h)
          (unless_keeps clash goals Gs (unless_keeps (meeting (exclusions ds) k.called.owner (variables_read Own i)) (unless_clash clash goals) Gs e))

      on_one_keeps : (p q : Term) (Gs : List Goal) → IsNamed es p → IsNamed es q → (x : Option AbstractCall) → ((k : AbstractCall) → x ≡ Some k → NamedAbstractCall k) → calls_of.on_one ds i p q x ≡ given Gs → All Gs
      on_one_keeps p q Gs c d None f e = refused_given Shape Gs e
      on_one_keeps p q Gs c d (Some k) f e = written_keeps k p q Gs (f k refl) c d (written ds k.call.procedure) (few_keeps k.call.targets _ Gs e)

      calls_keep : KeepsNames es (call_row ds i)
      calls_keep (equiv (body is) (body js) p q) h Gs e =
          on_both_keep p q Gs h.2 h.3 (abstract_call ds (last_call is)) (abstract_call ds (last_call js)) (λ k f. last_found is h.0 k f) (λ l f. last_found js h.1 l f) e
      calls_keep (hoare (body is) p q) h Gs e = on_one_keeps p q Gs h.1 h.2 (abstract_call ds (last_call is)) (λ k f. last_found is h.0 k f) e
      calls_keep (equiv (body is) (procedure f) p q) h Gs e = refused_given Shape Gs e
      calls_keep (equiv (procedure f) b p q) h Gs e = refused_given Shape Gs e
      calls_keep (hoare (procedure f) p q) h Gs e = refused_given Shape Gs e
      calls_keep (phoare a r p q b) h Gs e = refused_given Shape Gs e
      calls_keep (ambient f) h Gs e = refused_given Shape Gs e

      -- Procedures.

      leads_named : (p q : Term) → IsNamed es p → IsNamed es q → IsNamedGoal es (leads p q)
      leads_named p q x y = every_named es Own _ (implies_named es p q x y)

      pair_named : (p q : Term) → IsNamed es p → IsNamed es q → IsNamedGoal es (pair_leads p q)
      pair_named p q x y = every_pair_named es _ (implies_named es p q x y)

      starts_named : (f h : AbstractProcedure) → NamedAbstract f → NamedAbstract h → IsNamed es (start_alike f h i)
      starts_named f h a b =
          let t = a.types in
          let u = b.types in
          and_named es _ _ (followed_named i (same_params f.type.params h.type.params) n (params_named f.type.params h.type.params t.0 u.0)) (owner_named f.owner a.owner)

      ends_named : (f : AbstractProcedure) → NamedAbstract f → IsNamed es (end_alike f i)
      ends_named f a = let t = a.types in and_named es _ _ (and_named es i _ n (result_named f.type.result t.1)) (owner_named f.owner a.owner)

      procedures_keep : (f h : AbstractProcedure) (p q : Term) (Gs : List Goal) → NamedAbstract f → NamedAbstract h → IsNamed es p → IsNamed es q → (x y : Option (List Var)) → procedures_of.by_writes ds f h i p q x y ≡ given Gs → All Gs
      procedures_keep f h p q Gs a b c d (Some W) (Some U) e =
          behind_keep (each_keep_both ds i f.oracles h.oracles) (pair_leads p (start_alike f h i) ∷ pair_leads (end_alike f i) q ∷ []) Gs
          (λ Fs k. pairs_keep f.oracles h.oracles a.oracles b.oracles Fs k) (pair_named p _ c (starts_named f h a b), (pair_named _ q (ends_named f a) d, tt))
          (unless_keeps (meeting_both (exclusions ds) f.owner i W U) (procedures_of.both_goals ds f h i p q) Gs e)
      procedures_keep f h p q Gs a b c d (Some W) None e = refused_given Shape Gs e
      procedures_keep f h p q Gs a b c d None y e = refused_given Shape Gs e

      of_both_keep : (p q : Term) (Gs : List Goal) → IsNamed es p → IsNamed es q → (x y : Option AbstractProcedure) → ((f : AbstractProcedure) → x ≡ Some f → NamedAbstract f) → ((h : AbstractProcedure) → y ≡ Some h → NamedAbstract h) →
          procedures_of.on_both ds i p q x y ≡ given Gs → All Gs
      of_both_keep p q Gs c d (Some f) (Some h) k l e =
          procedures_keep f h p q Gs (k f refl) (l h refl) c d (writes_of ds f.oracles) (writes_of ds h.oracles) (tested (same_abstract f h && own_names f.type.params) _ Gs e)
      of_both_keep p q Gs c d (Some f) None k l e = refused_given Shape Gs e
      of_both_keep p q Gs c d None y k l e = refused_given Shape Gs e

      of_one_keeps : (p q : Term) (Gs : List Goal) → IsNamed es p → IsNamed es q → (x : Option AbstractProcedure) → ((f : AbstractProcedure) → x ≡ Some f → NamedAbstract f) → procedures_of.on_one ds i p q x ≡ given Gs → All Gs
      of_one_keeps p q Gs c d None k e = refused_given Shape Gs e
      of_one_keeps p q Gs c d (Some f) k e =
          let a = k f refl in
          subst All (same_given (one_goals f i p q) Gs (unless_keeps (meeting (exclusions ds) f.owner (variables_read Own i)) (given (one_goals f i p q)) Gs e))
          (goals_append (each_keeps i f.oracles) _ (oracles_keep i n f.oracles a.oracles) (leads_named p i c n, (leads_named i q n d, tt)))

      proc_keeps : KeepsNames es (proc_row ds i)
      proc_keeps (equiv (procedure f) (procedure h) p q) w Gs e =
          of_both_keep p q Gs w.2 w.3 (abstract_procedure ds f) (abstract_procedure ds h) (λ a k. found_named f w.0 a k) (λ a k. found_named h w.1 a k) e
      proc_keeps (hoare (procedure f) p q) w Gs e = of_one_keeps p q Gs w.1 w.2 (abstract_procedure ds f) (λ a k. found_named f w.0 a k) e
      proc_keeps (equiv (procedure f) (body is) p q) w Gs e = refused_given Shape Gs e
      proc_keeps (equiv (body is) b p q) w Gs e = refused_given Shape Gs e
      proc_keeps (hoare (body is) p q) w Gs e = refused_given Shape Gs e
      proc_keeps (phoare a r p q b) w Gs e = refused_given Shape Gs e
      proc_keeps (ambient f) w Gs e = refused_given Shape Gs e

    -- Calls, by what is kept until an event has come about.

    full_keeps : (l : Loss) (a : Answer (List Goal)) (Gs : List Goal) → where_full l a ≡ given Gs → a ≡ given Gs
    full_keeps nowhere a Gs e = e
    full_keeps (sampled x) a Gs e = refused_given (NotLossless x) Gs e
    full_keeps called a Gs e = refused_given Shape Gs e

    -- what is given where a test doesn't hold
    untested : (b : Bool) (a : Answer (List Goal)) (Gs : List Goal) → (if b then refusing Shape else a) ≡ given Gs → a ≡ given Gs
    untested true a Gs e = refused_given Shape Gs e
    untested false a Gs e = e

    module _ (u : Until) (m : IsNamed es u.event) (n : IsNamed es u.kept) where
      long_named : (f : Term) → IsNamed es f → IsNamed es (as_long u f)
      long_named f x = implies_named es (not_yet u) f (not_named es _ (located_named es Right u.event m)) x

      until_named : (o p : ProcRef) (t v : ProcedureType) → IsWrittenProcedure [] o → IsWrittenProcedure [] p → HasNamedTypes t → HasNamedTypes v → IsNamedGoal es (keep_until u o t p v)
      until_named o p t v w x h k = (
        w,
        x,
        and_named es _ u.kept
            (followed_named (not_yet u) (same_params t.params v.params) (not_named es _ (located_named es Right u.event m)) (params_named t.params v.params h.0 k.0)) n,
        long_named _ (and_named es (same_result t.result) u.kept (result_named t.result h.1) n),
      )

      untils_keep : (os ps : List ProcRef) → AreWritten os → AreWritten ps → (Gs : List Goal) → each_keep_until ds u os ps ≡ given Gs → All Gs
      untils_keep [] ps v w Gs e = subst All (same_given [] Gs e) tt
      untils_keep (o ∷ os) [] v w Gs e = subst All (same_given [] Gs e) tt
      untils_keep (o ∷ os) (p ∷ ps) v w Gs e = by (λ Hs f. untils_keep os ps v.1 w.1 Hs f) (procedure_type ds None o) refl (procedure_type ds None p) refl e
        where
          by : ((Hs : List Goal) → each_keep_until ds u os ps ≡ given Hs → All Hs) → (t : Option ProcedureType) → procedure_type ds None o ≡ t → (z : Option ProcedureType) → procedure_type ds None p ≡ z → with_until u o t p z (each_keep_until ds u os ps) ≡ given Gs → All Gs
          by rest (Some t) h (Some z) k e =
              front_keeps (keep_until u o t p z) (in_front (keeps u.event p) (each_keep_until ds u os ps)) Gs (until_named o p t z v.0 w.0 (procedures.types o t h) (procedures.types p z k))
              (λ Hs f. front_keeps (keeps u.event p) (each_keep_until ds u os ps) Hs (w.0, m, m) rest f)
              (tested (own_names t.params && own_names z.params) (in_front (keep_until u o t p z) (in_front (keeps u.event p) (each_keep_until ds u os ps))) Gs e)
          by rest (Some t) h None k e = refused_given Shape Gs e
          by rest None h z k e = refused_given Shape Gs e

      start_named : (k l : AbstractCall) → NamedAbstractCall k → NamedAbstractCall l → IsNamed es (start_until u k l)
      start_named k l a b =
          let f = a.called in
          let c = a.call in
          let d = b.call in
          long_named _ (and_named es _ _ (followed_named u.kept (same_arguments k.call.arguments l.call.arguments) n (arguments_named k.call.arguments l.call.arguments c.arguments d.arguments)) (owner_named k.called.owner f.owner))

      end_named : (f : AbstractProcedure) → NamedAbstract f → IsNamed es (end_until u f)
      end_named f a = let t = a.types in long_named _ (and_named es _ u.kept (and_named es _ _ (result_named f.type.result t.1) (owner_named f.owner a.owner)) n)

      values_named : (a : List ℕ) (o p : Outcome) (said q : Term) → is_path a ≡ true → NamedOutcome es o → NamedOutcome es p → IsNamed es said → IsNamed es q → IsNamed es (after_among true true o p (changed_in a o p) said q)
      values_named a o p said q h v w x y =
          let G : List Located = changed_in a o p in
          let changed : HaveTypes G = (h, (h, globals_have es o p v w)) in
          let have : HaveTypes (values_among true true o p G) = have_append (result_of true o) (result_of true p ++ G) (result_have es true o v) (have_append (result_of true p) G (result_have es true p w) changed) in
          let left = left_named es true o (length (result_of true p ++ G)) v in
          let right = left_named es true p (length G) w in
          for_all_named es (values_among true true o p G) _ have
          (implies_named es _ _ (changed_named es said (to_bound_values (values_among true true o p G)) (bound_values_named es (values_among true true o p G) have) x)
          (changed_named es q (results_among true true o p G ++ to_bound_values G) (puts_append es (results_among true true o p G) (to_bound_values G) (puts_append es _ _ left right) (bound_values_named es G changed)) y))

      start_and_end : (k l : AbstractCall) (W V : List TypedVariable) (q : Term) → NamedAbstractCall k → NamedAbstractCall l → AreOfTypes W → AreOfTypes V → IsNamed es q → IsNamed es (before_until u k W l V q)
      start_and_end k l W V q a b w v y =
          let f = a.called in
          and_named es (start_until u k l) (after_until u k W l V q) (start_named k l a b)
          (values_named k.called.owner (outcome Left k W) (outcome Right l V) (end_until u k.called) q f.owner (outcome_named Left k W a w) (outcome_named Right l V b v) (end_named k.called f) y)

      until_both_keep : (k l : AbstractCall) (p q : Term) (Gs : List Goal) → NamedAbstractCall k → NamedAbstractCall l → IsNamed es p → IsNamed es q → (x y : Option (List TypedVariable)) →
          ((W : List TypedVariable) → x ≡ Some W → AreOfTypes W) → ((V : List TypedVariable) → y ≡ Some V → AreOfTypes V) → until_goals ds u k l p q x y ≡ given Gs → All Gs
      until_both_keep k l p q Gs a b c d (Some W) (Some V) f g e =
          let left = a.called in
          let right = b.called in
          let here = a.call in
          let there = b.call in
          behind_keep (each_keep_until ds u k.called.oracles l.called.oracles) (equiv (body k.call.before) (body l.call.before) p (before_until u k W l V q) ∷ []) Gs
          (λ Fs h. untils_keep k.called.oracles l.called.oracles left.oracles right.oracles Fs h)
          ((here.before, there.before, c, start_and_end k l W V q a b (f W refl) (g V refl) d), tt) e
      until_both_keep k l p q Gs a b c d (Some W) None f g e = refused_given Shape Gs e
      until_both_keep k l p q Gs a b c d None y f g e = refused_given Shape Gs e

      until_writes_keep : (k l : AbstractCall) (p q : Term) (Gs : List Goal) → NamedAbstractCall k → NamedAbstractCall l → IsNamed es p → IsNamed es q → (x y : Option (List Var)) → by_writes_until ds u k l p q x y ≡ given Gs → All Gs
      until_writes_keep k l p q Gs a b c d (Some T) (Some U) e =
          let said = end_until u k.called in
          let x = read_after ds Left k said q T in
          let y = read_after ds Right l said q U in
          let goals = until_goals ds u k l p q x y in
          let clash = clash_of_both (exclusions ds) k l said q T U in
          let full = unless_keeps clash (by_full ds u said k l p q T U) Gs (unless_keeps (meeting_both (exclusions ds) k.called.owner (as_long u u.kept) T U) (unless_clash clash (by_full ds u said k l p q T U)) Gs e) in
          until_both_keep k l p q Gs a b c d x y (λ S h. types_named ds globals _ S h) (λ S h. types_named ds globals _ S h)
          (full_keeps (code_loss ds (procedure l.call.procedure)) goals Gs (full_keeps (code_loss ds (procedure k.call.procedure)) (where_full (code_loss ds (procedure l.call.procedure)) goals) Gs full))
      until_writes_keep k l p q Gs a b c d (Some T) None e = refused_given Shape Gs e
      until_writes_keep k l p q Gs a b c d None y e = refused_given Shape Gs e

      on_both_until_keep : (p q : Term) (Gs : List Goal) → IsNamed es p → IsNamed es q → (x y : Option AbstractCall) → ((k : AbstractCall) → x ≡ Some k → NamedAbstractCall k) → ((l : AbstractCall) → y ≡ Some l → NamedAbstractCall l) →
          on_both_until ds u p q x y ≡ given Gs → All Gs
      on_both_until_keep p q Gs c d (Some k) (Some l) f g e =
          let few = tested (same_abstract k.called l.called) _ Gs e in
          until_writes_keep k l p q Gs (f k refl) (g l refl) c d (writes_of ds k.called.oracles) (writes_of ds l.called.oracles)
          (untested (speaks u.event) _ Gs (few_keeps l.call.targets _ Gs (few_keeps k.call.targets _ Gs few)))
      on_both_until_keep p q Gs c d (Some k) None f g e = refused_given Shape Gs e
      on_both_until_keep p q Gs c d None y f g e = refused_given Shape Gs e

      until_keeps : KeepsNames es (until_row ds u)
      until_keeps (equiv (body is) (body js) p q) h Gs e =
          on_both_until_keep p q Gs h.2 h.3 (abstract_call ds (last_call is)) (abstract_call ds (last_call js)) (λ k f. last_found is h.0 k f) (λ l f. last_found js h.1 l f) e
      until_keeps (equiv (body is) (procedure f) p q) h Gs e = refused_given Shape Gs e
      until_keeps (equiv (procedure f) b p q) h Gs e = refused_given Shape Gs e
      until_keeps (hoare a p q) h Gs e = refused_given Shape Gs e
      until_keeps (phoare a r p q b) h Gs e = refused_given Shape Gs e
      until_keeps (ambient f) h Gs e = refused_given Shape Gs e

    pub abstract_keep : (r : AbstractRule) → IsNamedKept es r → KeepsNames es (abstract_row ds r)
    abstract_keep (abstract_rule.Call i) n = calls_keep i n
    abstract_keep (abstract_rule.CallUntil u) n = until_keeps u n.0 n.1
    abstract_keep (abstract_rule.Proc i) n = proc_keeps i n
