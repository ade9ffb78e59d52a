-- Rules on programs give named goals of named goals.
use Rattle.std.proofs.Common.{◌≡◌, ◌&&◌, nat_le, List, [], ◌∷◌, ◌++◌, length, Option, Some, None, refl, subst}
use Rattle.std.proofs.lemmas.Option.{same_Some, none-some}
use Rattle.std.specs.Option.{option_zip}
use Rattle.std.specs.List.{AllByRecursion}
use Rattle.gb_core.specs.declared.refusal.Why.TheVariants.{Argument, Shape, SideCondition}
use Rattle.gb_core.specs.declared.var.Var.{Var}
use Rattle.gb_terms.specs.declared.decl.Proc.{Proc}
use Rattle.gb_terms.specs.declared.module.ProcRef.{ProcRef}
use Rattle.gb_terms.specs.declared.op.Rel.{Rel}
use Rattle.gb_terms.specs.declared.op.Side.{Side}
use Rattle.gb_terms.specs.declared.op.Side.TheVariants.{Own, Left, Right}
use Rattle.gb_terms.specs.declared.term.Term.{Term}
use Rattle.gb_terms.specs.declared.term.Cmd.{Cmd}
use Rattle.gb_terms.specs.declared.term.Head.{Head}
use Rattle.gb_terms.specs.declared.term.Head.TheOpen as layer
use Rattle.gb_terms.specs.declared.term.Head.TheVariants.{Assign, Sample, Call', If', While'}
use Rattle.gb_terms.specs.declared.term.Instr.{Instr, Row_of-Instr, end_of-Instr, more_of-Instr, out-Instr}
use Rattle.gb_terms.specs.declared.term.Subject.{Subject}
use Rattle.gb_goal.specs.Answers.{Answer, ◌>>=◌}
use Rattle.gb_goal.specs.Answers.Answer.{given, refused}
use Rattle.gb_goal.specs.Goal.{Goal}
use Rattle.gb_goal.specs.Goal.Code.{body, procedure}
use Rattle.gb_goal.specs.Goal.Goal.{hoare, phoare, equiv, ambient}
use Rattle.gb_goal.specs.Rows.{refusing}
use Rattle.gb_goal.specs.Scope.{Declarations, procedure_of}
use Rattle.gb_walk.specs.Clash.{Exclusions}
use Rattle.gb_mods.specs.Exclusions.{exclusions}
use Rattle.gb_steps.specs.declared.step.Acts.{Acts}
use Rattle.gb_steps.specs.declared.step.Acts.TheVariants as on
use Rattle.gb_steps.specs.declared.step.BodyRule.{BodyRule}
use Rattle.gb_steps.specs.declared.step.BodyRule.TheVariants as rule
use Rattle.gb_steps.specs.declared.step.Cut.{Cut}
use Rattle.gb_steps.specs.declared.step.Cut.TheVariants.{One, Two}
use Rattle.gb_steps.specs.declared.step.Weakened.{Weakened}
use Rattle.gb_typing.specs.Calls.{returned}
use Rattle.gb_typing.specs.Forms.{located}
use Rattle.gb_typing.proofs.Given.{given_if, refused_at, refused_given, same_given}
use Rattle.gb_typing.proofs.Lists.{if_shape}
use Rattle.gb_bodies.specs.Case.{case_one}
use Rattle.gb_bodies.specs.Conseq as conseq
use Rattle.gb_bodies.specs.Conseq.{or_old}
use Rattle.gb_bodies.specs.If.{Branch, branch_at, first_branch, where_true, where_false, of_one, of_both, if_both}
use Rattle.gb_prog.specs.OneBody.{OneBody, on_one, one_body}
use Rattle.gb_prog.specs.Assigned.{clashing, assigned_form}
use Rattle.gb_bodies.specs.Proc as proc
use Rattle.gb_bodies.specs.Rows.{body_row}
use Rattle.gb_bodies.specs.Seq.{seq_row}
use Rattle.gb_bodies.specs.Skip.{skip_row}
use Rattle.gb_bodies.specs.Wp.{unless_clash, before, before_row, before_all, ending, front, staying, wp_both, wp_one}
use Rattle.gb_forms.specs.Branches.{by_test}
use Rattle.gb_print_names.specs.declared.bound_names.Enumeration.{Enumeration}
use Rattle.gb_shown.specs.Named.{IsNamed, IsNamedInstr, AreNamedInstrs, IsNamedGoal}
use Rattle.gb_shown.specs.Rules.{IsNamedProcedure, AreNamedProcedures, IsNamedIfAny, IsNamedRule, KeepsNames}
use Rattle.gb_shown.proofs.Changed.{changed_named}
use Rattle.gb_shown.proofs.SpeltForms.{and_named, implies_named, not_named, equal_named, compared_named, certain_or_not_named, as_likely_named, located_named, every_named, every_pair_named, assigned_named}
use Rattle.gb_shown.proofs.SpeltStatements.{EachNamed, if_named, append_named, take_named, drop_named}
use mathlib.Core.Former.{Count}

-- what was given before an answer, and what follows from it
pub given_bind : {A B : Type 0} (a : Answer A) (f : A → Answer B) (y : B) → (a >>= f) ≡ given y → (x : A) × (a ≡ given x) × (f x ≡ given y)
given_bind (given x) f y e = (x, refl, e)
given_bind (refused w p) f y e = refused_at w p y e

module _ (es : List Enumeration) where
  abbrev pub AllOf : List Goal → Type 0
  AllOf Gs = AllByRecursion (IsNamedGoal es) Gs

  -- from a goal to its subgoals
  abbrev pub Leads : List Goal → Goal → Type 0
  Leads Gs G = IsNamedGoal es G → AllOf Gs

  seq_keeps : (k : Cut) (r : Term) → IsNamed es r → (G : Goal) (Gs : List Goal) → seq_row k r G ≡ given Gs → Leads Gs G
  seq_keeps (One k) r n (hoare (body is) p q) Gs e =
      subst (λ Gs. Leads Gs (hoare (body is) p q)) (given_if (nat_le k (length is)) Argument _ Gs e)
      (λ h. ((take_named es k is h.0, h.1, n), ((drop_named es k is h.0, n, h.2), tt)))
  seq_keeps (Two k l) r n (equiv (body is) (body js) p q) Gs e =
      subst (λ Gs. Leads Gs (equiv (body is) (body js) p q)) (given_if (nat_le k (length is) && nat_le l (length js)) Argument _ Gs e)
      (λ h. ((take_named es k is h.0, take_named es l js h.1, h.2, n), ((drop_named es k is h.0, drop_named es l js h.1, n, h.3), tt)))
  seq_keeps (One k) r n (hoare (procedure a) p q) Gs e = refused_given Shape Gs e
  seq_keeps (One k) r n (phoare a o p q b) Gs e = refused_given Shape Gs e
  seq_keeps (One k) r n (equiv a b p q) Gs e = refused_given Shape Gs e
  seq_keeps (One k) r n (ambient f) Gs e = refused_given Shape Gs e
  seq_keeps (Two k l) r n (hoare a p q) Gs e = refused_given Shape Gs e
  seq_keeps (Two k l) r n (phoare a o p q b) Gs e = refused_given Shape Gs e
  seq_keeps (Two k l) r n (equiv (procedure a) b p q) Gs e = refused_given Shape Gs e
  seq_keeps (Two k l) r n (equiv (body is) (procedure b) p q) Gs e = refused_given Shape Gs e
  seq_keeps (Two k l) r n (ambient f) Gs e = refused_given Shape Gs e

  skip_keeps : (G : Goal) (Gs : List Goal) → skip_row G ≡ given Gs → Leads Gs G
  skip_keeps (hoare (body []) p q) Gs e h = subst AllOf (same_given _ Gs e) (every_named es Own _ (implies_named es p q h.1 h.2), tt)
  skip_keeps (phoare (body []) r p q b) Gs e h = subst AllOf (same_given _ Gs e) (every_named es Own _ (implies_named es p _ h.1 (certain_or_not_named es r q b h.2 h.3)), tt)
  skip_keeps (equiv (body []) (body []) p q) Gs e h = subst AllOf (same_given _ Gs e) (every_pair_named es _ (implies_named es p q h.2 h.3), tt)
  skip_keeps (hoare (body (i ∷ is)) p q) Gs e h = refused_given Shape Gs e
  skip_keeps (hoare (procedure a) p q) Gs e h = refused_given Shape Gs e
  skip_keeps (phoare (body (i ∷ is)) r p q b) Gs e h = refused_given Shape Gs e
  skip_keeps (phoare (procedure a) r p q b) Gs e h = refused_given Shape Gs e
  skip_keeps (equiv (body (i ∷ is)) b p q) Gs e h = refused_given Shape Gs e
  skip_keeps (equiv (body []) (body (i ∷ is)) p q) Gs e h = refused_given Shape Gs e
  skip_keeps (equiv (body []) (procedure b) p q) Gs e h = refused_given Shape Gs e
  skip_keeps (equiv (procedure a) b p q) Gs e h = refused_given Shape Gs e
  skip_keeps (ambient f) Gs e h = refused_given Shape Gs e

  -- One body, what is said of it, and the goal with others in its place.
  pub record Around (o : OneBody) : Type 0 where
    pub list : EachNamed es o.list
    pub pre : IsNamed es o.pre
    pub post : IsNamed es o.post
    pub goal : (is : List Instr) (p q : Term) → EachNamed es is → IsNamed es p → IsNamed es q → IsNamedGoal es (o.goal is p q)

  pub around : (a : Acts) (G : Goal) (o : OneBody) → one_body a G ≡ Some o → IsNamedGoal es G → Around o
  around on.All (hoare (body is) p q) o e h = subst Around (same_Some _ o e) (record { list = h.0; pre = h.1; post = h.2; goal = λ is p q k x y. (k, x, y) })
  around on.All (phoare (body is) r p q b) o e h = subst Around (same_Some _ o e) (record { list = h.0; pre = h.1; post = h.2; goal = λ is p q k x y. (k, x, y, h.3) })
  around on.Left (equiv (body is) (body js) p q) o e h = subst Around (same_Some _ o e) (record { list = h.0; pre = h.2; post = h.3; goal = λ is p q k x y. (k, h.1, x, y) })
  around on.Right (equiv (body is) (body js) p q) o e h = subst Around (same_Some _ o e) (record { list = h.1; pre = h.2; post = h.3; goal = λ js p q k x y. (h.0, k, x, y) })
  around on.All (hoare (procedure a) p q) o e h = absurd (none-some o e)
  around on.All (phoare (procedure a) r p q b) o e h = absurd (none-some o e)
  around on.All (equiv a b p q) o e h = absurd (none-some o e)
  around on.All (ambient f) o e h = absurd (none-some o e)
  around on.Left (hoare a p q) o e h = absurd (none-some o e)
  around on.Left (phoare a r p q b) o e h = absurd (none-some o e)
  around on.Left (equiv (procedure a) b p q) o e h = absurd (none-some o e)
  around on.Left (equiv (body is) (procedure b) p q) o e h = absurd (none-some o e)
  around on.Left (ambient f) o e h = absurd (none-some o e)
  around on.Right (hoare a p q) o e h = absurd (none-some o e)
  around on.Right (phoare a r p q b) o e h = absurd (none-some o e)
  around on.Right (equiv (procedure a) b p q) o e h = absurd (none-some o e)
  around on.Right (equiv (body is) (procedure b) p q) o e h = absurd (none-some o e)
  around on.Right (ambient f) o e h = absurd (none-some o e)

  -- a rule that works on one body, or else on two
  pub by_one : (f : OneBody → Answer (List Goal)) (x : Answer (List Goal)) (G : Goal) (Gs : List Goal) → ((o : OneBody) → f o ≡ given Gs → Around o → AllOf Gs) → (x ≡ given Gs → Leads Gs G) →
      (a : Acts) → on_one f (one_body a G) x ≡ given Gs → Leads Gs G
  by_one f x G Gs one both a e = of (one_body a G) refl e
    where
      of : (r : Option OneBody) → one_body a G ≡ r → on_one f r x ≡ given Gs → Leads Gs G
      of (Some o) k e = λ h. one o e (around a G o k h)
      of None k e = both e

  case_keeps : (f : Term) → IsNamed es f → (Gs : List Goal) (o : OneBody) → case_one f o ≡ given Gs → Around o → AllOf Gs
  case_keeps f n Gs o e k =
      subst AllOf (same_given _ Gs e)
      (k.goal o.list _ o.post k.list (and_named es o.pre f k.pre n) k.post, (k.goal o.list _ o.post k.list (and_named es o.pre _ k.pre (not_named es f n)) k.post, tt))

  -- Branches.

  pub record NamedBranch (b : Branch) : Type 0 where
    pub test : IsNamed es b.test
    pub if_true : EachNamed es (where_true b)
    pub if_false : EachNamed es (where_false b)

  begins_at : (i : Instr) (is : List Instr) → IsNamedInstr es i → EachNamed es is → (l : layer.Instr-F Head Instr Subject Cmd Term) → out-Instr i ≡ l → (b : Branch) → branch_at l is ≡ Some b → NamedBranch b
  begins_at i is x xs (layer.If e y z) k b h =
      let parts = if_named es i e y z (if_shape i e y z k) x in
      subst NamedBranch (same_Some (record { test = e; if_true = y; if_false = z; rest = is }) b h) (record {
        test = parts.0;
        if_true = append_named es y.list is parts.1 xs;
        if_false = append_named es z.list is parts.2 xs;
      })
  begins_at i is x xs (layer.Assign ys e) k b h = absurd (none-some b h)
  begins_at i is x xs (layer.Sample y d) k b h = absurd (none-some b h)
  begins_at i is x xs (layer.Call ys o ts) k b h = absurd (none-some b h)
  begins_at i is x xs (layer.While e v y) k b h = absurd (none-some b h)

  branch_named : (is : List Instr) (b : Branch) → first_branch is ≡ Some b → EachNamed es is → NamedBranch b
  branch_named [] b h x = absurd (none-some b h)
  branch_named (i ∷ is) b h x = begins_at i is x.0 x.1 (out-Instr i) refl b h

  if_keeps : (Gs : List Goal) (o : OneBody) → of_one (λ is p. o.goal is p o.post) o.side o.pre (first_branch o.list) ≡ given Gs → Around o → AllOf Gs
  if_keeps Gs o e k = by_branch (first_branch o.list) refl e
    where
      by_branch : (r : Option Branch) → first_branch o.list ≡ r → of_one (λ is p. o.goal is p o.post) o.side o.pre r ≡ given Gs → AllOf Gs
      by_branch None h e = refused_given Shape Gs e
      by_branch (Some b) h e =
          let z = branch_named o.list b h k.list in
          let t = located_named es o.side b.test z.test in
          subst AllOf (same_given _ Gs e)
          (k.goal (where_true b) _ o.post z.if_true (and_named es o.pre _ k.pre t) k.post, (k.goal (where_false b) _ o.post z.if_false (and_named es o.pre _ k.pre (not_named es _ t)) k.post, tt))

  both_keeps : (a : Acts) (G : Goal) (Gs : List Goal) → if_both a G ≡ given Gs → Leads Gs G
  both_keeps on.All (equiv (body is) (body js) p q) Gs e = by_branches (first_branch is) (first_branch js) refl refl e
    where
      by_branches : (x y : Option Branch) → first_branch is ≡ x → first_branch js ≡ y → of_both p q (option_zip x y) ≡ given Gs → Leads Gs (equiv (body is) (body js) p q)
      by_branches (Some a) (Some b) i j e h =
          let x = branch_named is a i h.0 in
          let y = branch_named js b j h.1 in
          let l = located_named es Left a.test x.test in
          let r = located_named es Right b.test y.test in
          subst AllOf (same_given _ Gs e) (
            every_pair_named es _ (implies_named es p _ h.2 (equal_named es _ _ l r)),
            ((x.if_true, y.if_true, and_named es p _ h.2 l, h.3), ((x.if_false, y.if_false, and_named es p _ h.2 (not_named es _ l), h.3), tt)),
          )
      by_branches None y i j e h = refused_given Shape Gs e
      by_branches (Some a) None i j e h = refused_given Shape Gs e
  both_keeps on.All (equiv (procedure a) b p q) Gs e = refused_given Shape Gs e
  both_keeps on.All (equiv (body is) (procedure b) p q) Gs e = refused_given Shape Gs e
  both_keeps on.All (hoare a p q) Gs e = refused_given Shape Gs e
  both_keeps on.All (phoare a r p q b) Gs e = refused_given Shape Gs e
  both_keeps on.All (ambient f) Gs e = refused_given Shape Gs e
  both_keeps on.Left G Gs e = refused_given Shape Gs e
  both_keeps on.Right G Gs e = refused_given Shape Gs e

  -- Without their ends.

  clash_named : (o : Option Var) (f q : Term) → IsNamed es f → unless_clash o f ≡ given q → IsNamed es q
  clash_named None f q x e = subst (IsNamed es) (same_given f q e) x
  clash_named (Some v) f q x e = refused_given (SideCondition v) q e

  mutual
    before_named : (ex : Exclusions) (r : Side) (i : Instr) (q f : Term) → IsNamedInstr es i → IsNamed es q → before ex r i q ≡ given f → IsNamed es f
    before_named ex r (Assign xs e) q f x y k = clash_named (clashing ex r xs q) (assigned_form r xs e q) f (assigned_named es r xs e q x.1 y) k
    before_named ex r (If' e m a n b) q f x y k =
        let u = given_bind (before_row ex r a q) (λ s. before_row ex r b q >>= λ t. given (by_test (located r e) s t)) f k in
        let v = given_bind (before_row ex r b q) (λ t. given (by_test (located r e) u.0 t)) f u.2 in
        let s = row_named ex r a q u.0 x.1 y u.1 in
        let t = row_named ex r b q v.0 x.2 y v.1 in
        let l = located_named es r e x.0 in
        subst (IsNamed es) (same_given _ f v.2) (and_named es _ _ (implies_named es _ _ l s) (implies_named es _ _ (not_named es _ l) t))
    before_named ex r (Sample v d) q f x y k = refused_given Shape f k
    before_named ex r (Call' xs p n ts) q f x y k = refused_given Shape f k
    before_named ex r (While' e v n a) q f x y k = refused_given Shape f k

    row_named : {n : Count} (ex : Exclusions) (r : Side) (is : Row_of-Instr n) (q f : Term) → AreNamedInstrs es is → IsNamed es q → before_row ex r is q ≡ given f → IsNamed es f
    row_named ex r end_of-Instr q f x y k = subst (IsNamed es) (same_given q f k) y
    row_named ex r (more_of-Instr i is) q f x y k =
        let u = given_bind (before_row ex r is q) (before ex r i) f k in before_named ex r i u.0 f x.0 (row_named ex r is q u.0 x.1 y u.1) u.2

  all_before_named : (ex : Exclusions) (r : Side) (is : List Instr) (q f : Term) → EachNamed es is → IsNamed es q → before_all ex r is q ≡ given f → IsNamed es f
  all_before_named ex r [] q f x y k = subst (IsNamed es) (same_given q f k) y
  all_before_named ex r (i ∷ is) q f x y k =
      let u = given_bind (before_all ex r is q) (before ex r i) f k in before_named ex r i u.0 f x.0 (all_before_named ex r is q u.0 x.1 y u.1) u.2

  wp_keeps : (ex : Exclusions) (Gs : List Goal) (o : OneBody) → wp_one ex o ≡ given Gs → Around o → AllOf Gs
  wp_keeps ex Gs o e k =
      let z = given_bind (before_all ex o.side (ending o.list) o.post) _ Gs e in
      subst AllOf (same_given _ Gs z.2)
      (k.goal (front o.list) o.pre z.0 (take_named es (staying o.list) o.list k.list) k.pre (all_before_named ex o.side (ending o.list) o.post z.0 (drop_named es (staying o.list) o.list k.list) k.post z.1), tt)

  wp_both_keeps : (ex : Exclusions) (a : Acts) (G : Goal) (Gs : List Goal) → wp_both ex a G ≡ given Gs → Leads Gs G
  wp_both_keeps ex on.All (equiv (body is) (body js) p q) Gs e h =
      let y = given_bind (before_all ex Left (ending is) q) _ Gs e in
      let z = given_bind (before_all ex Right (ending js) y.0) _ Gs y.2 in
      let l = all_before_named ex Left (ending is) q y.0 (drop_named es (staying is) is h.0) h.3 y.1 in
      let r = all_before_named ex Right (ending js) y.0 z.0 (drop_named es (staying js) js h.1) l z.1 in
      subst AllOf (same_given _ Gs z.2) ((take_named es (staying is) is h.0, take_named es (staying js) js h.1, h.2, r), tt)
  wp_both_keeps ex on.All (equiv (procedure a) b p q) Gs e h = refused_given Shape Gs e
  wp_both_keeps ex on.All (equiv (body is) (procedure b) p q) Gs e h = refused_given Shape Gs e
  wp_both_keeps ex on.All (hoare a p q) Gs e h = refused_given Shape Gs e
  wp_both_keeps ex on.All (phoare a r p q b) Gs e h = refused_given Shape Gs e
  wp_both_keeps ex on.All (ambient f) Gs e h = refused_given Shape Gs e
  wp_both_keeps ex on.Left G Gs e h = refused_given Shape Gs e
  wp_both_keeps ex on.Right G Gs e h = refused_given Shape Gs e

  -- Other conditions.

  or_old_named : (o : Option Term) (old : Term) → IsNamedIfAny es o → IsNamed es old → IsNamed es (or_old o old)
  or_old_named None old x y = y
  or_old_named (Some f) old x y = x

  bound_named : (o : Rel) (r : Option Term) (b : Term) (Gs : List Goal) → IsNamedIfAny es r → IsNamed es b → AllOf Gs → AllOf (conseq.bound_goals o r b ++ Gs)
  bound_named o None b Gs x y h = h
  bound_named o (Some c) b Gs x y h = (compared_named es o c b x y, h)

  unless_keeps : (r : Option Term) (Hs Gs : List Goal) → conseq.unless_bound r Hs ≡ given Gs → AllOf Hs → AllOf Gs
  unless_keeps None Hs Gs e f = subst AllOf (same_given Hs Gs e) f
  unless_keeps (Some b) Hs Gs e f = refused_given Shape Gs e

  conseq_keeps : (w : Weakened) → IsNamedRule es (rule.Conseq w) → (G : Goal) (Gs : List Goal) → conseq.conseq_row w G ≡ given Gs → Leads Gs G
  conseq_keeps w n (hoare a p q) Gs e h =
      let x = or_old_named w.pre p n.0 h.1 in
      let y = or_old_named w.post q n.1 h.2 in
      unless_keeps w.bound (conseq.of_one w a p q) Gs e (every_named es Own _ (implies_named es p _ h.1 x), (every_named es Own _ (implies_named es _ q y h.2), ((h.0, x, y), tt)))
  conseq_keeps w n (phoare a r p q b) Gs e h =
      let x = or_old_named w.pre p n.0 h.1 in
      let y = or_old_named w.post q n.1 h.2 in
      subst AllOf (same_given _ Gs e)
      (bound_named r w.bound b _ n.2 h.3 (every_named es Own _ (implies_named es p _ h.1 x), (every_named es Own _ (as_likely_named es r q _ h.2 y), ((h.0, x, y, or_old_named w.bound b n.2 h.3), tt))))
  conseq_keeps w n (equiv a b p q) Gs e h =
      let x = or_old_named w.pre p n.0 h.2 in
      let y = or_old_named w.post q n.1 h.3 in
      unless_keeps w.bound (conseq.of_two w a b p q) Gs e (every_pair_named es _ (implies_named es p _ h.2 x), (every_pair_named es _ (implies_named es _ q y h.3), ((h.0, h.1, x, y), tt)))
  conseq_keeps w n (ambient f) Gs e h = refused_given Shape Gs e

  -- From procedures to their bodies.
  module _ (ds : Declarations) (procedures : AreNamedProcedures es ds) where
    result_named : (r : Side) (a : Proc) → IsNamedProcedure es a → IsNamed es (located r a.value)
    result_named r a n = located_named es r a.value n.value

    hoare_keeps : (f : ProcRef) (p q : Term) (Gs : List Goal) (r : Option Proc) → procedure_of ds f ≡ r → proc.of_one p q r ≡ given Gs → Leads Gs (hoare (procedure f) p q)
    hoare_keeps f p q Gs None k e h = refused_given Shape Gs e
    hoare_keeps f p q Gs (Some a) k e h =
        let n = procedures.declared f h.0 a k in subst AllOf (same_given _ Gs e) ((n.body, h.1, changed_named es q (returned Own a ∷ []) (result_named Own a n, tt) h.2), tt)

    chance_keeps : (f : ProcRef) (o : Rel) (p q b : Term) (Gs : List Goal) (r : Option Proc) → procedure_of ds f ≡ r → proc.of_chance o p q b r ≡ given Gs → Leads Gs (phoare (procedure f) o p q b)
    chance_keeps f o p q b Gs None k e h = refused_given Shape Gs e
    chance_keeps f o p q b Gs (Some a) k e h =
        let n = procedures.declared f h.0 a k in subst AllOf (same_given _ Gs e) ((n.body, h.1, changed_named es q (returned Own a ∷ []) (result_named Own a n, tt) h.2, h.3), tt)

    equiv_keeps : (f g : ProcRef) (p q : Term) (Gs : List Goal) (x y : Option Proc) → procedure_of ds f ≡ x → procedure_of ds g ≡ y → proc.of_two p q (option_zip x y) ≡ given Gs → Leads Gs (equiv (procedure f) (procedure g) p q)
    equiv_keeps f g p q Gs (Some a) (Some b) i j e h =
        let m = procedures.declared f h.0 a i in
        let n = procedures.declared g h.1 b j in
        subst AllOf (same_given _ Gs e) ((m.body, n.body, h.2, changed_named es q (returned Left a ∷ returned Right b ∷ []) (result_named Left a m, (result_named Right b n, tt)) h.3), tt)
    equiv_keeps f g p q Gs None y i j e h = refused_given Shape Gs e
    equiv_keeps f g p q Gs (Some a) None i j e h = refused_given Shape Gs e

    proc_keeps : (G : Goal) (Gs : List Goal) → proc.proc_row ds G ≡ given Gs → Leads Gs G
    proc_keeps (hoare (procedure f) p q) Gs e = hoare_keeps f p q Gs (procedure_of ds f) refl e
    proc_keeps (phoare (procedure f) o p q b) Gs e = chance_keeps f o p q b Gs (procedure_of ds f) refl e
    proc_keeps (equiv (procedure f) (procedure g) p q) Gs e = equiv_keeps f g p q Gs (procedure_of ds f) (procedure_of ds g) refl refl e
    proc_keeps (hoare (body is) p q) Gs e = refused_given Shape Gs e
    proc_keeps (phoare (body is) o p q b) Gs e = refused_given Shape Gs e
    proc_keeps (equiv (body is) b p q) Gs e = refused_given Shape Gs e
    proc_keeps (equiv (procedure f) (body js) p q) Gs e = refused_given Shape Gs e
    proc_keeps (ambient f) Gs e = refused_given Shape Gs e

pub programs_keep : (es : List Enumeration) (ds : Declarations) → AreNamedProcedures es ds → (r : BodyRule) → IsNamedRule es r → KeepsNames es (body_row ds r)
programs_keep es ds n rule.Proc x G h Gs e = proc_keeps es ds n G Gs e h
programs_keep es ds n rule.Skip x G h Gs e = skip_keeps es G Gs e h
programs_keep es ds n (rule.Seq k r) x G h Gs e = seq_keeps es k r x G Gs e h
programs_keep es ds n (rule.If a) x G h Gs e = by_one es (λ o. of_one (λ is p. o.goal is p o.post) o.side o.pre (first_branch o.list)) (if_both a G) G Gs (if_keeps es Gs) (both_keeps es a G Gs) a e h
programs_keep es ds n (rule.Wp a) x G h Gs e = by_one es (wp_one (exclusions ds)) (wp_both (exclusions ds) a G) G Gs (wp_keeps es (exclusions ds) Gs) (wp_both_keeps es (exclusions ds) a G Gs) a e h
programs_keep es ds n (rule.Case f) x G h Gs e =
    by_one es (case_one f) (on_one (case_one f) (one_body on.Left G) (refusing Shape)) G Gs (case_keeps es f x Gs) (by_one es (case_one f) (refusing Shape) G Gs (case_keeps es f x Gs) (λ e. refused_given Shape Gs e) on.Left) on.All e h
programs_keep es ds n (rule.Conseq w) x G h Gs e = conseq_keeps es w x G Gs e h
programs_keep es ds n rule.Unfit x G h Gs e = refused_given Shape Gs e
