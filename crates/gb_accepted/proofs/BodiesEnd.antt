-- The loops that the subgoals of rules on programs reach.
use Rattle.std.proofs.Common.{◌≡◌, ℕ, ◌&&◌, nat_le, List, [], ◌∷◌, ◌++◌, length, take, drop, Option, Some, None, refl, ap, sym, subst}
use Rattle.std.proofs.lemmas.List.{take-append-drop}
use Rattle.std.proofs.lemmas.Option.{same_Some, none-some}
use Rattle.std.specs.Option.{option_zip}
use Rattle.std.specs.List.{AllByRecursion}
use Rattle.gb_core.specs.declared.refusal.Why.TheVariants.{Argument, Shape}
use Rattle.gb_terms.specs.declared.decl.Proc.{Proc}
use Rattle.gb_terms.specs.declared.module.ProcRef.{ProcRef}
use Rattle.gb_terms.specs.declared.op.Rel.{Rel}
use Rattle.gb_terms.specs.declared.op.Side.TheVariants.{Left, Right}
use Rattle.gb_terms.specs.declared.term.Term.{Term}
use Rattle.gb_terms.specs.declared.term.Cmd.{Cmd}
use Rattle.gb_terms.specs.declared.term.Head.{Head}
use Rattle.gb_terms.specs.declared.term.Head.TheOpen as layer
use Rattle.gb_terms.specs.declared.term.Head.TheVariants.{If}
use Rattle.gb_terms.specs.declared.term.Instr.{Instr, out-Instr}
use Rattle.gb_terms.specs.declared.term.Subject.{Subject}
use Rattle.gb_meaning.specs.Commands.{statements}
use Rattle.gb_meaning.specs.Setting.{Setting}
use Rattle.gb_goal.specs.Answers.{Answer, ◌>>=◌}
use Rattle.gb_goal.specs.Answers.Answer.{given, refused}
use Rattle.gb_goal.specs.Goal.{Goal}
use Rattle.gb_goal.specs.Goal.Code.{body, procedure}
use Rattle.gb_goal.specs.Goal.Goal.{hoare, phoare, equiv, ambient}
use Rattle.gb_goal.specs.Rows.{refusing}
use Rattle.gb_goal.specs.Scope.{Declarations, procedure_of}
use Rattle.gb_walk.specs.Clash.{Exclusions}
use Rattle.gb_mods.specs.Exclusions.{exclusions}
use Rattle.gb_meaning.specs.Declared.{declared}
use Rattle.gb_steps.specs.declared.step.Acts.{Acts}
use Rattle.gb_steps.specs.declared.step.Acts.TheVariants as on
use Rattle.gb_steps.specs.declared.step.BodyRule.TheVariants as rule
use Rattle.gb_steps.specs.declared.step.Cut.{Cut}
use Rattle.gb_steps.specs.declared.step.Cut.TheVariants.{One, Two}
use Rattle.gb_steps.specs.declared.step.Rule.{Rule}
use Rattle.gb_steps.specs.declared.step.Rule.TheVariants.{OnBodies, Relational, Chance, Probability, Call, CallKnown, Abstract, While, Transform, Ambient, Use, Rewrite, Smt, Linear}
use Rattle.gb_steps.specs.declared.step.Weakened.{Weakened}
use Rattle.gb_typing.specs.Rules.{IsSettingOver}
use Rattle.gb_typing.specs.Scopes.{IsTypedScope}
use Rattle.gb_typing.proofs.Given.{given_if, refused_at, refused_given, same_given}
use Rattle.gb_typing.proofs.Lists.{if_shape}
use Rattle.gb_meaning.specs.Holds.{LoopsAreGood}
use Rattle.gb_bodies.specs.Case.{case_one}
use Rattle.gb_bodies.specs.Conseq as conseq
use Rattle.gb_bodies.specs.If.{Branch, branch_at, first_branch, where_true, where_false, of_one, of_both, if_both}
use Rattle.gb_prog.specs.OneBody.{OneBody, on_one, one_body}
use Rattle.gb_bodies.specs.Proc as proc
use Rattle.gb_bodies.specs.Rows.{rule_row}
use Rattle.gb_bodies.specs.Seq.{seq_row}
use Rattle.gb_bodies.specs.Skip.{skip_row}
use Rattle.gb_bodies.specs.Wp.{before_all, ending, front, wp_both, wp_one}
use Rattle.gb_prog.specs.Ends.{Entered, LoopsEnd, ProceduresEnd}
use Rattle.gb_prog.proofs.Own.{good_append, good_if}

-- what was given before an answer, and what follows from it
pub given_bind : {A B : Type 0} (a : Answer A) (f : A → Answer B) (y : B) → (a >>= f) ≡ given y → (x : A) × (a ≡ given x) × (f x ≡ given y)
given_bind (given x) f y e = (x, refl, e)
given_bind (refused w p) f y e = refused_at w p y e

module _ (g : Setting) where
  abbrev Good : List Instr → Type 0
  Good is = LoopsAreGood g (statements g is)

  -- from a goal to its subgoals
  abbrev Leads : List Goal → Goal → Type 0
  Leads Gs G = LoopsEnd g G → AllByRecursion (LoopsEnd g) Gs

  cut_ends : (k : ℕ) (is : List Instr) → Good is → Good (take k is) × Good (drop k is)
  cut_ends k is h = (good_append g (take k is) (drop k is)).0 (subst Good (sym (take-append-drop k is)) h)

  seq_ends : (k : Cut) (r : Term) (G : Goal) (Gs : List Goal) → seq_row k r G ≡ given Gs → Leads Gs G
  seq_ends (One k) r (hoare (body is) p q) Gs e =
      subst (λ Gs. Leads Gs (hoare (body is) p q)) (given_if (nat_le k (length is)) Argument _ Gs e) (λ h. (let z = cut_ends k is h in (z.0, (z.1, tt))))
  seq_ends (Two k l) r (equiv (body is) (body js) p q) Gs e =
      subst (λ Gs. Leads Gs (equiv (body is) (body js) p q)) (given_if (nat_le k (length is) && nat_le l (length js)) Argument _ Gs e)
      (λ h. (let y = cut_ends k is h.0 in let z = cut_ends l js h.1 in ((y.0, z.0), ((y.1, z.1), tt))))
  seq_ends (One k) r (hoare (procedure a) p q) Gs e = refused_given Shape Gs e
  seq_ends (One k) r (phoare a o p q b) Gs e = refused_given Shape Gs e
  seq_ends (One k) r (equiv a b p q) Gs e = refused_given Shape Gs e
  seq_ends (One k) r (ambient f) Gs e = refused_given Shape Gs e
  seq_ends (Two k l) r (hoare a p q) Gs e = refused_given Shape Gs e
  seq_ends (Two k l) r (phoare a o p q b) Gs e = refused_given Shape Gs e
  seq_ends (Two k l) r (equiv (procedure a) b p q) Gs e = refused_given Shape Gs e
  seq_ends (Two k l) r (equiv (body is) (procedure b) p q) Gs e = refused_given Shape Gs e
  seq_ends (Two k l) r (ambient f) Gs e = refused_given Shape Gs e

  skip_ends : (G : Goal) (Gs : List Goal) → skip_row G ≡ given Gs → AllByRecursion (LoopsEnd g) Gs
  skip_ends (hoare (body []) p q) Gs e = subst (AllByRecursion (LoopsEnd g)) (same_given _ Gs e) (tt, tt)
  skip_ends (phoare (body []) r p q b) Gs e = subst (AllByRecursion (LoopsEnd g)) (same_given _ Gs e) (tt, tt)
  skip_ends (equiv (body []) (body []) p q) Gs e = subst (AllByRecursion (LoopsEnd g)) (same_given _ Gs e) (tt, tt)
  skip_ends (hoare (body (i ∷ is)) p q) Gs e = refused_given Shape Gs e
  skip_ends (hoare (procedure a) p q) Gs e = refused_given Shape Gs e
  skip_ends (phoare (body (i ∷ is)) r p q b) Gs e = refused_given Shape Gs e
  skip_ends (phoare (procedure a) r p q b) Gs e = refused_given Shape Gs e
  skip_ends (equiv (body (i ∷ is)) b p q) Gs e = refused_given Shape Gs e
  skip_ends (equiv (body []) (body (i ∷ is)) p q) Gs e = refused_given Shape Gs e
  skip_ends (equiv (body []) (procedure b) p q) Gs e = refused_given Shape Gs e
  skip_ends (equiv (procedure a) b p q) Gs e = refused_given Shape Gs e
  skip_ends (ambient f) Gs e = refused_given Shape Gs e

  -- One body: its loops, and those of the goal with others in its place.
  pub record Around (o : OneBody) : Type 0 where
    pub list : Good o.list
    pub goal : (is : List Instr) (p q : Term) → Good is → LoopsEnd g (o.goal is p q)

  around : (a : Acts) (G : Goal) (o : OneBody) → one_body a G ≡ Some o → LoopsEnd g G → Around o
  around on.All (hoare (body is) p q) o e h = subst Around (same_Some _ o e) (record { list = h; goal = λ is p q k. k })
  around on.All (phoare (body is) r p q b) o e h = subst Around (same_Some _ o e) (record { list = h; goal = λ is p q k. k })
  around on.Left (equiv (body is) (body js) p q) o e h = subst Around (same_Some _ o e) (record { list = h.0; goal = λ is p q k. (k, h.1) })
  around on.Right (equiv (body is) (body js) p q) o e h = subst Around (same_Some _ o e) (record { list = h.1; goal = λ js p q k. (h.0, k) })
  around on.All (hoare (procedure a) p q) o e h = absurd (none-some o e)
  around on.All (phoare (procedure a) r p q b) o e h = absurd (none-some o e)
  around on.All (equiv a b p q) o e h = absurd (none-some o e)
  around on.All (ambient f) o e h = absurd (none-some o e)
  around on.Left (hoare a p q) o e h = absurd (none-some o e)
  around on.Left (phoare a r p q b) o e h = absurd (none-some o e)
  around on.Left (equiv (procedure a) b p q) o e h = absurd (none-some o e)
  around on.Left (equiv (body is) (procedure b) p q) o e h = absurd (none-some o e)
  around on.Left (ambient f) o e h = absurd (none-some o e)
  around on.Right (hoare a p q) o e h = absurd (none-some o e)
  around on.Right (phoare a r p q b) o e h = absurd (none-some o e)
  around on.Right (equiv (procedure a) b p q) o e h = absurd (none-some o e)
  around on.Right (equiv (body is) (procedure b) p q) o e h = absurd (none-some o e)
  around on.Right (ambient f) o e h = absurd (none-some o e)

  -- a rule that works on one body, or else on two
  pub by_body : (f : OneBody → Answer (List Goal)) (x : Answer (List Goal)) (G : Goal) (Gs : List Goal) (a : Acts) →
      ((o : OneBody) → one_body a G ≡ Some o → f o ≡ given Gs → Around o → AllByRecursion (LoopsEnd g) Gs) → (x ≡ given Gs → Leads Gs G) → on_one f (one_body a G) x ≡ given Gs → Leads Gs G
  by_body f x G Gs a one both e = of (one_body a G) refl e
    where
      of : (r : Option OneBody) → one_body a G ≡ r → on_one f r x ≡ given Gs → Leads Gs G
      of (Some o) k e = λ h. one o k e (around a G o k h)
      of None k e = both e

  by_one : (f : OneBody → Answer (List Goal)) (x : Answer (List Goal)) (G : Goal) (Gs : List Goal) → ((o : OneBody) → f o ≡ given Gs → Around o → AllByRecursion (LoopsEnd g) Gs) → (x ≡ given Gs → Leads Gs G) →
      (a : Acts) → on_one f (one_body a G) x ≡ given Gs → Leads Gs G
  by_one f x G Gs one both a e = by_body f x G Gs a (λ o k. one o) both e

  case_ends : (f : Term) (Gs : List Goal) (o : OneBody) → case_one f o ≡ given Gs → Around o → AllByRecursion (LoopsEnd g) Gs
  case_ends f Gs o e k = subst (AllByRecursion (LoopsEnd g)) (same_given _ Gs e) (k.goal o.list _ o.post k.list, (k.goal o.list _ o.post k.list, tt))

  -- Branches.

  begins_at : (i : Instr) (is : List Instr) (l : layer.Instr-F Head Instr Subject Cmd Term) → out-Instr i ≡ l → (b : Branch) → branch_at l is ≡ Some b → i ∷ is ≡ If b.test b.if_true b.if_false ∷ b.rest
  begins_at i is (layer.If e x y) k b h =
      subst (λ b. i ∷ is ≡ If b.test b.if_true b.if_false ∷ b.rest) (same_Some (record { test = e; if_true = x; if_false = y; rest = is }) b h) (ap (λ j. j ∷ is) (if_shape i e x y k))
  begins_at i is (layer.Assign xs e) k b h = absurd (none-some b h)
  begins_at i is (layer.Sample x d) k b h = absurd (none-some b h)
  begins_at i is (layer.Call xs o es) k b h = absurd (none-some b h)
  begins_at i is (layer.While e v x) k b h = absurd (none-some b h)

  begins : (is : List Instr) (b : Branch) → first_branch is ≡ Some b → is ≡ If b.test b.if_true b.if_false ∷ b.rest
  begins [] b h = absurd (none-some b h)
  begins (i ∷ is) b h = begins_at i is (out-Instr i) refl b h

  branch_ends : (is : List Instr) (b : Branch) → first_branch is ≡ Some b → Good is → Good (where_true b) × Good (where_false b)
  branch_ends is b e h =
      let z = (good_if g b.test b.if_true b.if_false b.rest).0 (subst Good (begins is b e) h) in
      let x = b.if_true in
      let y = b.if_false in
      ((good_append g x.list b.rest).1 (z.0, z.2), (good_append g y.list b.rest).1 (z.1, z.2))

  if_ends : (Gs : List Goal) (o : OneBody) → of_one (λ is p. o.goal is p o.post) o.side o.pre (first_branch o.list) ≡ given Gs → Around o → AllByRecursion (LoopsEnd g) Gs
  if_ends Gs o e k = by_branch (first_branch o.list) refl e
    where
      by_branch : (r : Option Branch) → first_branch o.list ≡ r → of_one (λ is p. o.goal is p o.post) o.side o.pre r ≡ given Gs → AllByRecursion (LoopsEnd g) Gs
      by_branch None h e = refused_given Shape Gs e
      by_branch (Some b) h e =
          let z = branch_ends o.list b h k.list in
          subst (AllByRecursion (LoopsEnd g)) (same_given _ Gs e) (k.goal (where_true b) _ o.post z.0, (k.goal (where_false b) _ o.post z.1, tt))

  both_ends : (a : Acts) (G : Goal) (Gs : List Goal) → if_both a G ≡ given Gs → Leads Gs G
  both_ends on.All (equiv (body is) (body js) p q) Gs e = by_branches (first_branch is) (first_branch js) refl refl e
    where
      by_branches : (x y : Option Branch) → first_branch is ≡ x → first_branch js ≡ y → of_both p q (option_zip x y) ≡ given Gs → Leads Gs (equiv (body is) (body js) p q)
      by_branches (Some a) (Some b) i j e =
          subst (λ Gs. Leads Gs (equiv (body is) (body js) p q)) (same_given _ Gs e)
          (λ h. (let x = branch_ends is a i h.0 in let y = branch_ends js b j h.1 in (tt, ((x.0, y.0), ((x.1, y.1), tt)))))
      by_branches None y i j e = refused_given Shape Gs e
      by_branches (Some a) None i j e = refused_given Shape Gs e
  both_ends on.All (equiv (procedure a) b p q) Gs e = refused_given Shape Gs e
  both_ends on.All (equiv (body is) (procedure b) p q) Gs e = refused_given Shape Gs e
  both_ends on.All (hoare a p q) Gs e = refused_given Shape Gs e
  both_ends on.All (phoare a r p q b) Gs e = refused_given Shape Gs e
  both_ends on.All (ambient f) Gs e = refused_given Shape Gs e
  both_ends on.Left G Gs e = refused_given Shape Gs e
  both_ends on.Right G Gs e = refused_given Shape Gs e

  -- Without their ends.

  front_ends : (is : List Instr) → Good is → Good (front is)
  front_ends is h = (cut_ends _ is h).0

  wp_ends : (ex : Exclusions) (Gs : List Goal) (o : OneBody) → wp_one ex o ≡ given Gs → Around o → AllByRecursion (LoopsEnd g) Gs
  wp_ends ex Gs o e k =
      let z = given_bind (before_all ex o.side (ending o.list) o.post) _ Gs e in
      subst (AllByRecursion (LoopsEnd g)) (same_given _ Gs z.2) (k.goal (front o.list) o.pre z.0 (front_ends o.list k.list), tt)

  wp_both_ends : (ex : Exclusions) (a : Acts) (G : Goal) (Gs : List Goal) → wp_both ex a G ≡ given Gs → Leads Gs G
  wp_both_ends ex on.All (equiv (body is) (body js) p q) Gs e =
      let y = given_bind (before_all ex Left (ending is) q) _ Gs e in
      let z = given_bind (before_all ex Right (ending js) y.0) _ Gs y.2 in
      subst (λ Gs. Leads Gs (equiv (body is) (body js) p q)) (same_given _ Gs z.2) (λ h. ((front_ends is h.0, front_ends js h.1), tt))
  wp_both_ends ex on.All (equiv (procedure a) b p q) Gs e = refused_given Shape Gs e
  wp_both_ends ex on.All (equiv (body is) (procedure b) p q) Gs e = refused_given Shape Gs e
  wp_both_ends ex on.All (hoare a p q) Gs e = refused_given Shape Gs e
  wp_both_ends ex on.All (phoare a r p q b) Gs e = refused_given Shape Gs e
  wp_both_ends ex on.All (ambient f) Gs e = refused_given Shape Gs e
  wp_both_ends ex on.Left G Gs e = refused_given Shape Gs e
  wp_both_ends ex on.Right G Gs e = refused_given Shape Gs e

  -- Other conditions.

  bound_ends : (o : Rel) (r : Option Term) (b : Term) (Gs : List Goal) → AllByRecursion (LoopsEnd g) Gs → AllByRecursion (LoopsEnd g) (conseq.bound_goals o r b ++ Gs)
  bound_ends o None b Gs h = h
  bound_ends o (Some c) b Gs h = (tt, h)

  unless_ends : (r : Option Term) (Hs Gs : List Goal) (G : Goal) → conseq.unless_bound r Hs ≡ given Gs → Leads Hs G → Leads Gs G
  unless_ends None Hs Gs G e f = subst (λ Gs. Leads Gs G) (same_given Hs Gs e) f
  unless_ends (Some b) Hs Gs G e f = refused_given Shape Gs e

  conseq_ends : (w : Weakened) (G : Goal) (Gs : List Goal) → conseq.conseq_row w G ≡ given Gs → Leads Gs G
  conseq_ends w (hoare a p q) Gs e = unless_ends w.bound (conseq.of_one w a p q) Gs (hoare a p q) e (λ h. (tt, (tt, (h, tt))))
  conseq_ends w (phoare a r p q b) Gs e =
      subst (λ Gs. Leads Gs (phoare a r p q b)) (same_given _ Gs e) (λ h. bound_ends r w.bound b _ (tt, (tt, (h, tt))))
  conseq_ends w (equiv a b p q) Gs e = unless_ends w.bound (conseq.of_two w a b p q) Gs (equiv a b p q) e (λ h. (tt, (tt, (h, tt))))
  conseq_ends w (ambient f) Gs e = refused_given Shape Gs e

  -- From procedures to their bodies.
  module _ (ds : Declarations) where
    abbrev Enters : List Goal → Goal → Type 0
    Enters Gs G = ProceduresEnd ds g G → AllByRecursion (LoopsEnd g) Gs

    hoare_ends : (f : ProcRef) (p q : Term) (Gs : List Goal) (r : Option Proc) → procedure_of ds f ≡ r → proc.of_one p q r ≡ given Gs → Enters Gs (hoare (procedure f) p q)
    hoare_ends f p q Gs None k e = refused_given Shape Gs e
    hoare_ends f p q Gs (Some a) k e = subst (λ Gs. Enters Gs (hoare (procedure f) p q)) (same_given _ Gs e) (λ h. (h a k, tt))

    chance_ends : (f : ProcRef) (o : Rel) (p q b : Term) (Gs : List Goal) (r : Option Proc) → procedure_of ds f ≡ r → proc.of_chance o p q b r ≡ given Gs → Enters Gs (phoare (procedure f) o p q b)
    chance_ends f o p q b Gs None k e = refused_given Shape Gs e
    chance_ends f o p q b Gs (Some a) k e = subst (λ Gs. Enters Gs (phoare (procedure f) o p q b)) (same_given _ Gs e) (λ h. (h a k, tt))

    equiv_ends : (f h : ProcRef) (p q : Term) (Gs : List Goal) (x y : Option Proc) → procedure_of ds f ≡ x → procedure_of ds h ≡ y → proc.of_two p q (option_zip x y) ≡ given Gs → Enters Gs (equiv (procedure f) (procedure h) p q)
    equiv_ends f h p q Gs (Some a) (Some b) i j e = subst (λ Gs. Enters Gs (equiv (procedure f) (procedure h) p q)) (same_given _ Gs e) (λ z. ((z.0 a i, z.1 b j), tt))
    equiv_ends f h p q Gs None y i j e = refused_given Shape Gs e
    equiv_ends f h p q Gs (Some a) None i j e = refused_given Shape Gs e

    proc_ends : (G : Goal) (Gs : List Goal) → proc.proc_row ds G ≡ given Gs → Enters Gs G
    proc_ends (hoare (procedure f) p q) Gs e = hoare_ends f p q Gs (procedure_of ds f) refl e
    proc_ends (phoare (procedure f) o p q b) Gs e = chance_ends f o p q b Gs (procedure_of ds f) refl e
    proc_ends (equiv (procedure f) (procedure h) p q) Gs e = equiv_ends f h p q Gs (procedure_of ds f) (procedure_of ds h) refl refl e
    proc_ends (hoare (body is) p q) Gs e = refused_given Shape Gs e
    proc_ends (phoare (body is) o p q b) Gs e = refused_given Shape Gs e
    proc_ends (equiv (body is) b p q) Gs e = refused_given Shape Gs e
    proc_ends (equiv (procedure f) (body js) p q) Gs e = refused_given Shape Gs e
    proc_ends (ambient f) Gs e = refused_given Shape Gs e

pub bodies_end : (ds : Declarations) → IsTypedScope (declared ds) → (r : Rule) (G : Goal) (Gs : List Goal) → rule_row ds r G ≡ given Gs → (g : Setting) → IsSettingOver (declared ds) g → Entered ds g r G → LoopsEnd g G →
    AllByRecursion (LoopsEnd g) Gs
bodies_end ds scoped (OnBodies rule.Proc) G Gs e g over n h = proc_ends g ds G Gs e n
bodies_end ds scoped (OnBodies rule.Skip) G Gs e g over n h = skip_ends g G Gs e
bodies_end ds scoped (OnBodies (rule.Seq k r)) G Gs e g over n h = seq_ends g k r G Gs e h
bodies_end ds scoped (OnBodies (rule.If a)) G Gs e g over n h = by_one g (λ o. of_one (λ is p. o.goal is p o.post) o.side o.pre (first_branch o.list)) (if_both a G) G Gs (if_ends g Gs) (both_ends g a G Gs) a e h
bodies_end ds scoped (OnBodies (rule.Wp a)) G Gs e g over n h = by_one g (wp_one (exclusions ds)) (wp_both (exclusions ds) a G) G Gs (wp_ends g (exclusions ds) Gs) (wp_both_ends g (exclusions ds) a G Gs) a e h
bodies_end ds scoped (OnBodies (rule.Case f)) G Gs e g over n h =
    by_one g (case_one f) (on_one (case_one f) (one_body on.Left G) (refusing Shape)) G Gs (case_ends g f Gs) (by_one g (case_one f) (refusing Shape) G Gs (case_ends g f Gs) (λ e. refused_given Shape Gs e) on.Left) on.All e h
bodies_end ds scoped (OnBodies (rule.Conseq w)) G Gs e g over n h = conseq_ends g w G Gs e h
bodies_end ds scoped (OnBodies rule.Unfit) G Gs e g over n h = refused_given Shape Gs e
bodies_end ds scoped (Relational r) G Gs e g over n h = refused_given Shape Gs e
bodies_end ds scoped (Chance r) G Gs e g over n h = refused_given Shape Gs e
bodies_end ds scoped (Probability r) G Gs e g over n h = refused_given Shape Gs e
bodies_end ds scoped (Call r) G Gs e g over n h = refused_given Shape Gs e
bodies_end ds scoped (CallKnown a r) G Gs e g over n h = refused_given Shape Gs e
bodies_end ds scoped (Abstract k) G Gs e g over n h = refused_given Shape Gs e
bodies_end ds scoped (While r) G Gs e g over n h = refused_given Shape Gs e
bodies_end ds scoped (Transform a r) G Gs e g over n h = refused_given Shape Gs e
bodies_end ds scoped (Ambient r) G Gs e g over n h = refused_given Shape Gs e
bodies_end ds scoped (Use r) G Gs e g over n h = refused_given Shape Gs e
bodies_end ds scoped (Rewrite r) G Gs e g over n h = refused_given Shape Gs e
bodies_end ds scoped (Smt fs) G Gs e g over n h = refused_given Shape Gs e
bodies_end ds scoped (Linear ms) G Gs e g over n h = refused_given Shape Gs e
