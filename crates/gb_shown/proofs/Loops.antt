-- `while` keeps names.
use Rattle.std.proofs.Common.{◌≡◌, Bool, true, false, List, [], ◌∷◌, Option, Some, None, refl, subst}
use Rattle.std.proofs.lemmas.Option.{same_Some, none-some}
use Rattle.std.specs.Option.{option_map}
use Rattle.gb_core.specs.declared.refusal.Why.TheVariants.{Shape, SideCondition}
use Rattle.gb_core.specs.declared.var.Var.{Var}
use Rattle.gb_terms.specs.declared.op.Side.{Side}
use Rattle.gb_terms.specs.declared.op.Side.TheVariants as side
use Rattle.gb_terms.specs.declared.term.Cmd.{Cmd}
use Rattle.gb_terms.specs.declared.term.Head.{Head}
use Rattle.gb_terms.specs.declared.term.Head.TheOpen as layer
use Rattle.gb_terms.specs.declared.term.Instr.{Instr, out-Instr}
use Rattle.gb_terms.specs.declared.term.Subject.{Subject}
use Rattle.gb_terms.specs.declared.term.Term.{Term}
use Rattle.gb_steps.specs.declared.step.Acts.{Acts}
use Rattle.gb_steps.specs.declared.step.Acts.TheVariants as on
use Rattle.gb_goal.specs.Answers.{Answer, ◌>>=◌}
use Rattle.gb_goal.specs.Answers.Answer.{given}
use Rattle.gb_goal.specs.Goal.{Goal}
use Rattle.gb_goal.specs.Goal.Code.{body, procedure}
use Rattle.gb_goal.specs.Goal.Goal.{hoare, phoare, equiv, ambient}
use Rattle.gb_goal.specs.Scope.{Declarations}
use Rattle.gb_mods.specs.Exclusions.{exclusions}
use Rattle.gb_typing.proofs.Given.{refused_given, same_given}
use Rattle.gb_prog.specs.OneBody.{OneBody}
use Rattle.gb_prog.specs.Assigned.{clashing}
use Rattle.gb_call.specs.Call.{unless_clash}
use Rattle.gb_loops.specs.LastLoop.{LastLoop, loop_at, behind, last_loop}
use Rattle.gb_forms.specs.Loops.{written}
use Rattle.gb_loops.specs.Read.{read_in}
use Rattle.gb_loops.specs.While.{turning, at_end, before_loop, loop_goals, kept_weight, by_written, by_loop, is_certain, where_certain, one_loop, in_step, at_both_ends, read_both, both_goals, clashing_both, both_written, by_both, both_loops, while_row}
use Rattle.gb_forms.specs.Loops.{turn_goal}
use Rattle.gb_print_names.specs.declared.bound_names.Enumeration.{Enumeration}
use Rattle.gb_shown.specs.Named.{IsNamed, IsNamedInstr, IsNamedGoal}
use Rattle.gb_shown.specs.Rules.{KeepsNames}
use Rattle.gb_shown.proofs.SpeltForms.{and_named, implies_named, not_named, equal_named, located_named}
use Rattle.gb_shown.proofs.Programs.{AllOf, Leads, Around, by_one, given_bind}
use Rattle.gb_shown.proofs.SpeltStatements.{EachNamed, while_shape, while_named}
use Rattle.gb_shown.proofs.AllValues.{have_append, all_values_named, read_in_has}

-- a condition on what is replaced
pub unless_keeps : (o : Option Var) (a : Answer (List Goal)) (Gs : List Goal) → unless_clash o a ≡ given Gs → a ≡ given Gs
unless_keeps None a Gs e = e
unless_keeps (Some x) a Gs e = refused_given (SideCondition x) Gs e

module _ (es : List Enumeration) where
  record NamedLoop (k : LastLoop) : Type 0 where
    pub before : EachNamed es k.before
    pub guard : IsNamed es k.guard
    pub body : EachNamed es k.body.list

  loop_named : (i : Instr) → IsNamedInstr es i → (l : layer.Instr-F Head Instr Subject Cmd Term) → out-Instr i ≡ l → (k : LastLoop) → loop_at l [] ≡ Some k → NamedLoop k
  loop_named i n (layer.While e v b) s k h =
      let parts = while_named es i e v b (while_shape i e v b s) n in
      subst NamedLoop (same_Some (record { before = []; guard = e; variant = v; body = b }) k h) (record { before = tt; guard = parts.0; body = parts.2 })
  loop_named i n (layer.Assign xs e) s k h = absurd (none-some k h)
  loop_named i n (layer.Sample x d) s k h = absurd (none-some k h)
  loop_named i n (layer.Call xs p ts) s k h = absurd (none-some k h)
  loop_named i n (layer.If e a b) s k h = absurd (none-some k h)

  behind_named : (i : Instr) → IsNamedInstr es i → (k : LastLoop) (o : Option LastLoop) → ((l : LastLoop) → o ≡ Some l → NamedLoop l) → option_map (behind i) o ≡ Some k → NamedLoop k
  behind_named i n k None f h = absurd (none-some k h)
  behind_named i n k (Some l) f h = let m = f l refl in subst NamedLoop (same_Some _ k h) (record { before = (n, m.before); guard = m.guard; body = m.body })

  last_named : (is : List Instr) → EachNamed es is → (k : LastLoop) → last_loop is ≡ Some k → NamedLoop k
  last_named [] n k h = absurd (none-some k h)
  last_named (i ∷ []) n k h = loop_named i n.0 (out-Instr i) refl k h
  last_named (i ∷ j ∷ is) n k h = behind_named i n.0 k (last_loop (j ∷ is)) (λ l e. last_named (j ∷ is) n.1 l e) h

  -- One loop.

  turning_named : (r : Side) (v : Term) (k : LastLoop) → IsNamed es v → NamedLoop k → IsNamed es (turning r v k)
  turning_named r v k x m = and_named es v _ x (located_named es r k.guard m.guard)

  end_named : (r : Side) (v : Term) (k : LastLoop) (q : Term) → IsNamed es v → NamedLoop k → IsNamed es q → IsNamed es (at_end r v k q)
  end_named r v k q x m y = implies_named es _ q (and_named es v _ x (not_named es _ (located_named es r k.guard m.guard))) y

  before_named : (r : Side) (v : Term) (k : LastLoop) (q : Term) (U : List Var) → IsNamed es v → NamedLoop k → IsNamed es q → IsNamed es (before_loop r v k q U)
  before_named r v k q U x m y =
      let end = end_named r v k q x m y in
      and_named es v _ x (all_values_named es (read_in r (at_end r v k q) U) (at_end r v k q) (read_in_has es r (at_end r v k q) end U) end)

  turn_named : (r : Side) (v : Term) (is : List Instr) (p : Term) → IsNamed es v → EachNamed es is → IsNamed es p → IsNamedGoal es (turn_goal r v is p)
  turn_named side.Left v is p x y z = (y, tt, z, x)
  turn_named side.Right v is p x y z = (tt, y, z, x)
  turn_named side.Own v is p x y z = (y, z, x)
  turn_named (side.Memory i) v is p x y z = (y, z, x)
  turn_named (side.Bound i) v is p x y z = (y, z, x)

  goals_named : (o : OneBody) (v : Term) (k : LastLoop) (U : List Var) → Around es o → IsNamed es v → NamedLoop k → AllOf es (loop_goals o v k U)
  goals_named o v k U a x m =
      (turn_named o.side v k.body.list (turning o.side v k) x m.body (turning_named o.side v k x m), (a.goal k.before o.pre _ m.before a.pre (before_named o.side v k o.post U x m a.post), tt))

  module _ (ds : Declarations) where
    written_keep : (b : Bool) (o : OneBody) (v : Term) (k : LastLoop) (Gs : List Goal) → Around es o → IsNamed es v → NamedLoop k → (U : Option (List Var)) → by_written ds b o v k U ≡ given Gs → AllOf es Gs
    written_keep b o v k Gs a x m None e = refused_given Shape Gs e
    written_keep b o v k Gs a x m (Some U) e =
        let w = unless_keeps (clashing (exclusions ds) o.side U (at_end o.side v k o.post)) (kept_weight ds b k >>= λ _. given (loop_goals o v k U)) Gs e in
        let g = given_bind (kept_weight ds b k) (λ _. given (loop_goals o v k U)) Gs w in
        subst (AllOf es) (same_given (loop_goals o v k U) Gs g.2) (goals_named o v k U a x m)

    loop_keeps : (b : Bool) (o : OneBody) (v : Term) (Gs : List Goal) → Around es o → IsNamed es v → (l : Option LastLoop) → ((k : LastLoop) → l ≡ Some k → NamedLoop k) → by_loop ds b o v l ≡ given Gs → AllOf es Gs
    loop_keeps b o v Gs a x None f e = refused_given Shape Gs e
    loop_keeps b o v Gs a x (Some k) f e = written_keep b o v k Gs a x (f k refl) (written ds k.body.list) e

    one_keeps : (v : Term) → IsNamed es v → (b : Bool) (Gs : List Goal) (o : OneBody) → by_loop ds b o v (last_loop o.list) ≡ given Gs → Around es o → AllOf es Gs
    one_keeps v x b Gs o e a = loop_keeps b o v Gs a x (last_loop o.list) (λ k i. last_named o.list a.list k i) e

    certain_keeps : (b : Bool) (a : Answer (List Goal)) (Gs : List Goal) → where_certain b a ≡ given Gs → a ≡ given Gs
    certain_keeps true a Gs e = e
    certain_keeps false a Gs e = refused_given Shape Gs e

    body_keeps : (v : Term) → IsNamed es v → (G : Goal) (Gs : List Goal) (o : OneBody) → one_loop ds v G o ≡ given Gs → Around es o → AllOf es Gs
    body_keeps v x (phoare a r p q b) Gs o e k = one_keeps v x true Gs o (certain_keeps (is_certain r b) (by_loop ds true o v (last_loop o.list)) Gs e) k
    body_keeps v x (hoare a p q) Gs o e k = one_keeps v x false Gs o e k
    body_keeps v x (equiv a b p q) Gs o e k = one_keeps v x false Gs o e k
    body_keeps v x (ambient f) Gs o e k = one_keeps v x false Gs o e k

    -- Two loops.

    ends_named : (v : Term) (k l : LastLoop) (q : Term) → IsNamed es v → NamedLoop k → NamedLoop l → IsNamed es q → IsNamed es (at_both_ends v k l q)
    ends_named v k l q x m n y =
        implies_named es _ q (and_named es _ _ (and_named es v _ x (not_named es _ (located_named es side.Left k.guard m.guard))) (not_named es _ (located_named es side.Right l.guard n.guard))) y

    step_named : (v : Term) (k l : LastLoop) → IsNamed es v → NamedLoop k → NamedLoop l → IsNamed es (in_step v k l)
    step_named v k l x m n = and_named es v _ x (equal_named es _ _ (located_named es side.Left k.guard m.guard) (located_named es side.Right l.guard n.guard))

    both_named : (v p q : Term) (k l : LastLoop) (T U : List Var) → IsNamed es v → IsNamed es p → IsNamed es q → NamedLoop k → NamedLoop l → AllOf es (both_goals v p q k l T U)
    both_named v p q k l T U x y z m n =
        let f = at_both_ends v k l q in
        let end = ends_named v k l q x m n z in
        let step = step_named v k l x m n in
        let turns = and_named es _ _ (and_named es v _ x (located_named es side.Left k.guard m.guard)) (located_named es side.Right l.guard n.guard) in
        let types = have_append (read_in side.Left f T) (read_in side.Right f U) (read_in_has es side.Left f end T) (read_in_has es side.Right f end U) in
        ((m.body, n.body, turns, step), ((m.before, n.before, y, and_named es (in_step v k l) _ step (all_values_named es (read_both f T U) f types end)), tt))

    both_written_keep : (v p q : Term) (k l : LastLoop) (Gs : List Goal) → IsNamed es v → IsNamed es p → IsNamed es q → NamedLoop k → NamedLoop l → (T U : Option (List Var)) → both_written (exclusions ds) v p q k l T U ≡ given Gs → AllOf es Gs
    both_written_keep v p q k l Gs x y z m n (Some T) (Some U) e =
        subst (AllOf es) (same_given (both_goals v p q k l T U) Gs (unless_keeps (clashing_both (exclusions ds) T U (at_both_ends v k l q)) _ Gs e)) (both_named v p q k l T U x y z m n)
    both_written_keep v p q k l Gs x y z m n (Some T) None e = refused_given Shape Gs e
    both_written_keep v p q k l Gs x y z m n None U e = refused_given Shape Gs e

    by_both_keeps : (v p q : Term) (Gs : List Goal) → IsNamed es v → IsNamed es p → IsNamed es q → (a b : Option LastLoop) → ((k : LastLoop) → a ≡ Some k → NamedLoop k) → ((k : LastLoop) → b ≡ Some k → NamedLoop k) →
        by_both ds v p q a b ≡ given Gs → AllOf es Gs
    by_both_keeps v p q Gs x y z (Some k) (Some l) f g e = both_written_keep v p q k l Gs x y z (f k refl) (g l refl) (written ds k.body.list) (written ds l.body.list) e
    by_both_keeps v p q Gs x y z (Some k) None f g e = refused_given Shape Gs e
    by_both_keeps v p q Gs x y z None b f g e = refused_given Shape Gs e

    both_keep : (a : Acts) (v : Term) → IsNamed es v → (G : Goal) (Gs : List Goal) → both_loops ds a v G ≡ given Gs → Leads es Gs G
    both_keep on.All v x (equiv (body is) (body js) p q) Gs e h = by_both_keeps v p q Gs x h.2 h.3 (last_loop is) (last_loop js) (λ k i. last_named is h.0 k i) (λ k i. last_named js h.1 k i) e
    both_keep on.All v x (equiv (body is) (procedure b) p q) Gs e h = refused_given Shape Gs e
    both_keep on.All v x (equiv (procedure a) b p q) Gs e h = refused_given Shape Gs e
    both_keep on.All v x (hoare a p q) Gs e h = refused_given Shape Gs e
    both_keep on.All v x (phoare a r p q b) Gs e h = refused_given Shape Gs e
    both_keep on.All v x (ambient f) Gs e h = refused_given Shape Gs e
    both_keep on.Left v x G Gs e h = refused_given Shape Gs e
    both_keep on.Right v x G Gs e h = refused_given Shape Gs e

    pub while_keeps : (a : Acts) (v : Term) → IsNamed es v → KeepsNames es (while_row ds a v)
    while_keeps a v x G h Gs e = by_one es (one_loop ds v G) (both_loops ds a v G) G Gs (body_keeps v x G Gs) (both_keep a v x G Gs) a e h
