-- The loops that the subgoals of rules on calls reach.
use Rattle.std.proofs.Common.{◌≡◌, Bool, true, false, if◌then◌else◌, nat_lt, List, [], ◌∷◌, length, Option, Some, None, refl, ap, subst}
use Rattle.std.proofs.lemmas.Option.{same_Some, none-some}
use Rattle.std.specs.List.{AllByRecursion}
use Rattle.gb_core.specs.declared.refusal.Why.TheVariants.{Shape, SideCondition}
use Rattle.gb_core.specs.declared.var.Var.{Var}
use Rattle.gb_terms.specs.declared.decl.Proc.{Proc}
use Rattle.gb_terms.specs.declared.decl.TypedName.{TypedName}
use Rattle.gb_terms.specs.declared.module.ProcRef.{ProcRef}
use Rattle.gb_terms.specs.declared.op.Rel.{Rel}
use Rattle.gb_terms.specs.declared.op.Side.TheVariants.{Own, Left, Right}
use Rattle.gb_terms.specs.declared.term.Instr.{Instr}
use Rattle.gb_terms.specs.declared.term.Term.{Term}
use Rattle.gb_meaning.specs.Commands.{statements}
use Rattle.gb_meaning.specs.Setting.{Setting}
use Rattle.gb_goal.specs.Answers.{Answer}
use Rattle.gb_goal.specs.Answers.Answer.{given, refused}
use Rattle.gb_goal.specs.Goal.{Goal}
use Rattle.gb_goal.specs.Goal.Code.{body, procedure}
use Rattle.gb_goal.specs.Goal.Goal.{hoare, phoare, equiv, ambient}
use Rattle.gb_goal.specs.Rows.{refusing}
use Rattle.gb_goal.specs.Scope.{Declarations, procedure_of}
use Rattle.gb_mods.specs.Exclusions.{exclusions}
use Rattle.gb_meaning.specs.Declared.{declared}
use Rattle.gb_meaning.specs.Holds.{LoopsAreGood}
use Rattle.gb_mods.specs.Written.{written}
use Rattle.gb_steps.specs.declared.step.Acts.{Acts}
use Rattle.gb_steps.specs.declared.step.Acts.TheVariants as on
use Rattle.gb_steps.specs.declared.step.Contract.{Contract}
use Rattle.gb_steps.specs.declared.step.Rule.{Rule}
use Rattle.gb_steps.specs.declared.step.Rule.TheVariants.{OnBodies, Relational, Chance, Probability, Call, CallKnown, Abstract, While, Transform, Ambient, Use, Rewrite, Smt, Linear}
use Rattle.gb_typing.specs.Context.{Context}
use Rattle.gb_typing.specs.Goals.{IsGoalOver}
use Rattle.gb_typing.specs.Programs.{IsBody}
use Rattle.gb_typing.proofs.Given.{refused_at, refused_given, same_given}
use Rattle.gb_prog.specs.Writes.{TypedVariable}
use Rattle.gb_full.specs.Loss.{first_loss}
use Rattle.gb_full.specs.Lossless.{of_rest}
use Rattle.gb_call.specs.Call.{Callee, before_call, by_globals, call_goals, callee, callee_of, chances_by_globals, chances_of_callee, if_few, in_front, left_of, of_callee, unless_clash}
use Rattle.gb_call.specs.LastCall.{LastCall, last_call}
use Rattle.gb_call.specs.Outcomes.{clash_after}
use Rattle.gb_call.specs.Written.{with_types}
use Rattle.gb_call.proofs.LastCalls.{called_typed}
use Rattle.gb_call_both.specs.Call.{both_goals, by_both_globals, clash_after_both, of_callees, on_programs}
use Rattle.gb_call_both.specs.OneSide.{judged, on_one_side}
use Rattle.gb_call_both.specs.Rows.{rule_row}
use Rattle.gb_call_both.proofs.SideGoals.{callee_given}
use Rattle.gb_prog.specs.Ends.{KeepsEnds, LoopsEnd}
use Rattle.gb_accepted.proofs.ChancesEnd.{rest_ends}
use Rattle.gb_prog.proofs.Own.{good_append}

pub few : (xs : List Var) (a : Answer (List Goal)) (Gs : List Goal) → if_few xs a ≡ given Gs → a ≡ given Gs
few xs a Gs e = by_test (nat_lt (length xs) 9) e
  where
    by_test : (b : Bool) → (if b then a else refusing Shape) ≡ given Gs → a ≡ given Gs
    by_test true e = e
    by_test false e = refused_given Shape Gs e

pub unclashing : (r : Option Var) (a : Answer (List Goal)) (Gs : List Goal) → unless_clash r a ≡ given Gs → a ≡ given Gs
unclashing None a Gs e = e
unclashing (Some x) a Gs e = refused_given (SideCondition x) Gs e

-- goals of which one is put in front
record IsBehind (G : Goal) (a : Answer (List Goal)) (Gs : List Goal) : Type 0 where
  rest : List Goal
  there : a ≡ given rest
  whole : G ∷ rest ≡ Gs

behind : (G : Goal) (a : Answer (List Goal)) (Gs : List Goal) → in_front G a ≡ given Gs → IsBehind G a Gs
behind G (given Hs) Gs e = record { rest = Hs; there = refl; whole = same_given (G ∷ Hs) Gs e }
behind G (refused why p) Gs e = refused_at why p Gs e

module _ (ds : Declarations) where
  -- the callee of the call that ends a body
  call_of : (o : Option LastCall) (k : Callee) → callee_of ds o ≡ Some k → o ≡ Some k.call
  call_of None k e = absurd (none-some k e)
  call_of (Some l) k e = by_parts (procedure_of ds l.procedure) (written ds l.procedure) e
    where
      by_parts : (a : Option Proc) (x : Option (List Var)) → callee l a x ≡ Some k → Some l ≡ Some k.call
      by_parts (Some a) (Some xs) e = ap (λ (z : Callee). Some z.call) (same_Some (record { call = l; declared = a; written = xs }) k e)
      by_parts None x e = absurd (none-some k e)
      by_parts (Some a) None e = absurd (none-some k e)

  module _ (g : Setting) (c : Context) where
    abbrev Good : List Instr → Type 0
    Good is = LoopsAreGood g (statements g is)

    -- what stands before a call
    called_ends : (ls : List TypedName) (is : List Instr) → IsBody c ls is → (k : Callee) → callee_of ds (last_call is) ≡ Some k → Good is → Good k.call.before
    called_ends ls is w k e h =
        let x = called_typed c ls is k.call w (call_of (last_call is) k e) in
        ((good_append g (let l = k.call in l.before) (x.last ∷ [])).0 (subst Good x.shape h)).0

    abbrev Leads : List Goal → Type 0 → Type 0
    Leads Gs X = X → AllByRecursion (LoopsEnd g) Gs

    -- on one of two bodies
    module _ (b : Option Term) (s : Contract) where
      judged_ends : (f : ProcRef) → LoopsEnd g (judged b f s)
      judged_ends f = by_bound b
        where
          by_bound : (d : Option Term) → LoopsEnd g (judged d f s)
          by_bound None = tt
          by_bound (Some d) = tt

      pub left_ends : (ls : List TypedName) (is js : List Instr) (p q : Term) → IsBody c ls is → (Gs : List Goal) → on_one_side ds b s on.Left (equiv (body is) (body js) p q) ≡ given Gs → Leads Gs (Good is × Good js)
      left_ends ls is js p q w Gs e =
          let x = callee_given ds b s (record { side = Left; list = is; pre = p; post = q; goal = λ is p q. equiv (body is) (body js) p q }) Gs (callee_of ds (last_call is)) e in
          let z = x.2 in
          subst (λ Gs. Leads Gs (Good is × Good js)) z.goals (λ h. (judged_ends x.0.call.procedure, ((called_ends ls is w x.0 x.1 h.0, h.1), tt)))

      pub right_ends : (rs : List TypedName) (is js : List Instr) (p q : Term) → IsBody c rs js → (Gs : List Goal) → on_one_side ds b s on.Right (equiv (body is) (body js) p q) ≡ given Gs → Leads Gs (Good is × Good js)
      right_ends rs is js p q w Gs e =
          let x = callee_given ds b s (record { side = Right; list = js; pre = p; post = q; goal = λ js p q. equiv (body is) (body js) p q }) Gs (callee_of ds (last_call js)) e in
          let z = x.2 in
          subst (λ Gs. Leads Gs (Good is × Good js)) z.goals (λ h. (judged_ends x.0.call.procedure, ((h.0, called_ends rs js w x.0 x.1 h.1), tt)))

      pub side_ends : (ls rs : List TypedName) (a : Acts) (G : Goal) → IsGoalOver c ls rs G → (Gs : List Goal) → on_one_side ds b s a G ≡ given Gs → Leads Gs (LoopsEnd g G)
      side_ends ls rs on.Left (equiv (body is) (body js) p q) w Gs e = left_ends ls is js p q w.1 Gs e
      side_ends ls rs on.Right (equiv (body is) (body js) p q) w Gs e = right_ends rs is js p q w.2 Gs e
      side_ends ls rs on.All G w Gs e = refused_given Shape Gs e
      side_ends ls rs on.Left (equiv (body is) (procedure f) p q) w Gs e = refused_given Shape Gs e
      side_ends ls rs on.Left (equiv (procedure f) d p q) w Gs e = refused_given Shape Gs e
      side_ends ls rs on.Left (hoare d p q) w Gs e = refused_given Shape Gs e
      side_ends ls rs on.Left (phoare d r p q z) w Gs e = refused_given Shape Gs e
      side_ends ls rs on.Left (ambient f) w Gs e = refused_given Shape Gs e
      side_ends ls rs on.Right (equiv (body is) (procedure f) p q) w Gs e = refused_given Shape Gs e
      side_ends ls rs on.Right (equiv (procedure f) d p q) w Gs e = refused_given Shape Gs e
      side_ends ls rs on.Right (hoare d p q) w Gs e = refused_given Shape Gs e
      side_ends ls rs on.Right (phoare d r p q z) w Gs e = refused_given Shape Gs e
      side_ends ls rs on.Right (ambient f) w Gs e = refused_given Shape Gs e

    module _ (s : Contract) where
      of_globals : (k : Callee) (p q : Term) (Gs : List Goal) (o : Option (List TypedVariable)) → by_globals k s p q o ≡ given Gs → Leads Gs (Good k.call.before)
      of_globals k p q Gs None e = refused_given Shape Gs e
      of_globals k p q Gs (Some W) e = subst (λ Gs. Leads Gs (Good k.call.before)) (same_given (call_goals k W s p q) Gs e) (λ h. (tt, (h, tt)))

      chance_of_globals : (k : Callee) (r : Rel) (p q b : Term) (Gs : List Goal) (o : Option (List TypedVariable)) → chances_by_globals ds k s r p q b o ≡ given Gs → Leads Gs (Good k.call.before)
      chance_of_globals k r p q b Gs None e = refused_given Shape Gs e
      chance_of_globals k r p q b Gs (Some W) e =
          let H : Goal = hoare (body (let l = k.call in l.before)) p (before_call r Own k W s q) in
          let x = behind (phoare (procedure (let l = k.call in l.procedure)) r s.pre s.post b) (of_rest (first_loss ds (let l = k.call in l.before)) r b H) Gs e in
          subst (λ Gs. Leads Gs (Good k.call.before)) x.whole (λ h. (tt, rest_ends g (first_loss ds (let l = k.call in l.before)) r b H H x.rest x.there (λ z. z) h))

      both_of_globals : (k l : Callee) (p q : Term) (Gs : List Goal) (o u : Option (List TypedVariable)) → by_both_globals k l s p q o u ≡ given Gs → Leads Gs (Good k.call.before × Good l.call.before)
      both_of_globals k l p q Gs (Some W) (Some V) e = subst (λ Gs. Leads Gs (Good k.call.before × Good l.call.before)) (same_given (both_goals k W l V s p q) Gs e) (λ h. ((tt, tt), (h, tt)))
      both_of_globals k l p q Gs None u e = refused_given Shape Gs e
      both_of_globals k l p q Gs (Some W) None e = refused_given Shape Gs e

      by_one : (ls : List TypedName) (is : List Instr) (p q : Term) → IsBody c ls is → (Gs : List Goal) (o : Option Callee) → callee_of ds (last_call is) ≡ o → of_callee ds s p q o ≡ given Gs → Leads Gs (Good is)
      by_one ls is p q w Gs None k e = refused_given Shape Gs e
      by_one ls is p q w Gs (Some x) k e =
          λ h. of_globals x p q Gs (with_types ds (left_of Own x s q))
          (unclashing (clash_after (exclusions ds) Own (let l = x.call in l.targets) x.written s.post q) (by_globals x s p q (with_types ds (left_of Own x s q))) Gs
          (few (let l = x.call in l.targets) (unless_clash (clash_after (exclusions ds) Own (let l = x.call in l.targets) x.written s.post q) (by_globals x s p q (with_types ds (left_of Own x s q)))) Gs e))
          (called_ends ls is w x k h)

      by_chance : (ls : List TypedName) (is : List Instr) (r : Rel) (p q b : Term) → IsBody c ls is → (Gs : List Goal) (o : Option Callee) → callee_of ds (last_call is) ≡ o → chances_of_callee ds s r p q b o ≡ given Gs → Leads Gs (Good is)
      by_chance ls is r p q b w Gs None k e = refused_given Shape Gs e
      by_chance ls is r p q b w Gs (Some x) k e =
          λ h. chance_of_globals x r p q b Gs (with_types ds (left_of Own x s q))
          (unclashing (clash_after (exclusions ds) Own (let l = x.call in l.targets) x.written s.post q) (chances_by_globals ds x s r p q b (with_types ds (left_of Own x s q))) Gs
          (few (let l = x.call in l.targets) (unless_clash (clash_after (exclusions ds) Own (let l = x.call in l.targets) x.written s.post q) (chances_by_globals ds x s r p q b (with_types ds (left_of Own x s q)))) Gs e))
          (called_ends ls is w x k h)

      by_two : (ls rs : List TypedName) (is js : List Instr) (p q : Term) → IsBody c ls is → IsBody c rs js → (Gs : List Goal) (o u : Option Callee) → callee_of ds (last_call is) ≡ o → callee_of ds (last_call js) ≡ u →
          of_callees ds s p q o u ≡ given Gs → Leads Gs (Good is × Good js)
      by_two ls rs is js p q w v Gs (Some x) (Some y) k l e =
          let globals = by_both_globals x y s p q (with_types ds (left_of Left x s q)) (with_types ds (left_of Right y s q)) in
          let clear = unless_clash (clash_after_both (exclusions ds) x y s q) globals in
          λ h. both_of_globals x y p q Gs (with_types ds (left_of Left x s q)) (with_types ds (left_of Right y s q))
          (unclashing (clash_after_both (exclusions ds) x y s q) globals Gs (few (let z = y.call in z.targets) clear Gs (few (let z = x.call in z.targets) (if_few (let z = y.call in z.targets) clear) Gs e)))
          (called_ends ls is w x k h.0, called_ends rs js v y l h.1)
      by_two ls rs is js p q w v Gs None u k l e = refused_given Shape Gs e
      by_two ls rs is js p q w v Gs (Some x) None k l e = refused_given Shape Gs e

      acts_end : (ls rs : List TypedName) (a : Acts) (G : Goal) → IsGoalOver c ls rs G → (Gs : List Goal) → on_programs ds s a G ≡ given Gs → Leads Gs (LoopsEnd g G)
      acts_end ls rs on.All (hoare (body is) p q) w Gs e = by_one ls is p q w.0 Gs (callee_of ds (last_call is)) refl e
      acts_end ls rs on.All (phoare (body is) r p q b) w Gs e = by_chance ls is r p q b w.0 Gs (callee_of ds (last_call is)) refl e
      acts_end ls rs on.All (equiv (body is) (body js) p q) w Gs e = by_two ls rs is js p q w.1 w.2 Gs (callee_of ds (last_call is)) (callee_of ds (last_call js)) refl refl e
      acts_end ls rs on.Left (equiv (body is) (body js) p q) w Gs e = left_ends None s ls is js p q w.1 Gs e
      acts_end ls rs on.Right (equiv (body is) (body js) p q) w Gs e = right_ends None s rs is js p q w.2 Gs e
      acts_end ls rs on.All (hoare (procedure f) p q) w Gs e = refused_given Shape Gs e
      acts_end ls rs on.Left (hoare a p q) w Gs e = refused_given Shape Gs e
      acts_end ls rs on.Right (hoare a p q) w Gs e = refused_given Shape Gs e
      acts_end ls rs on.All (phoare (procedure f) r p q b) w Gs e = refused_given Shape Gs e
      acts_end ls rs on.Left (phoare a r p q b) w Gs e = refused_given Shape Gs e
      acts_end ls rs on.Right (phoare a r p q b) w Gs e = refused_given Shape Gs e
      acts_end ls rs on.All (equiv (procedure f) b p q) w Gs e = refused_given Shape Gs e
      acts_end ls rs on.Left (equiv (procedure f) b p q) w Gs e = refused_given Shape Gs e
      acts_end ls rs on.Right (equiv (procedure f) b p q) w Gs e = refused_given Shape Gs e
      acts_end ls rs on.All (equiv (body is) (procedure f) p q) w Gs e = refused_given Shape Gs e
      acts_end ls rs on.Left (equiv (body is) (procedure f) p q) w Gs e = refused_given Shape Gs e
      acts_end ls rs on.Right (equiv (body is) (procedure f) p q) w Gs e = refused_given Shape Gs e
      acts_end ls rs on.All (ambient f) w Gs e = refused_given Shape Gs e
      acts_end ls rs on.Left (ambient f) w Gs e = refused_given Shape Gs e
      acts_end ls rs on.Right (ambient f) w Gs e = refused_given Shape Gs e

pub calls_end : (ds : Declarations) (c : Context) (ls rs : List TypedName) (r : Rule) (G : Goal) → IsGoalOver c ls rs G → (Gs : List Goal) → rule_row ds r G ≡ given Gs → KeepsEnds (declared ds) Gs G
calls_end ds c ls rs (Call s) G w Gs e g over = acts_end ds g c s ls rs s.acts G w Gs e
calls_end ds c ls rs (OnBodies r) G w Gs e g over = refused_given Shape Gs e
calls_end ds c ls rs (CallKnown a r) G w Gs e g over = refused_given Shape Gs e
calls_end ds c ls rs (Abstract k) G w Gs e g over = refused_given Shape Gs e
calls_end ds c ls rs (While r) G w Gs e g over = refused_given Shape Gs e
calls_end ds c ls rs (Transform a r) G w Gs e g over = refused_given Shape Gs e
calls_end ds c ls rs (Relational r) G w Gs e g over = refused_given Shape Gs e
calls_end ds c ls rs (Chance r) G w Gs e g over = refused_given Shape Gs e
calls_end ds c ls rs (Probability r) G w Gs e g over = refused_given Shape Gs e
calls_end ds c ls rs (Ambient r) G w Gs e g over = refused_given Shape Gs e
calls_end ds c ls rs (Use r) G w Gs e g over = refused_given Shape Gs e
calls_end ds c ls rs (Rewrite r) G w Gs e g over = refused_given Shape Gs e
calls_end ds c ls rs (Smt fs) G w Gs e g over = refused_given Shape Gs e
calls_end ds c ls rs (Linear ms) G w Gs e g over = refused_given Shape Gs e
