-- Rules that go from probabilities to judgments keep names.
use Rattle.std.proofs.Common.{◌≡◌, Bool, true, false, ◌&&◌, if◌then◌else◌, List, [], ◌∷◌, ◌++◌, Option, Some, None, refl, subst}
use Rattle.std.proofs.lemmas.Option.{same_Some, none-some}
use Rattle.gb_core.specs.declared.refusal.Why.TheVariants.{Shape}
use Rattle.gb_core.specs.declared.ty.Ty.{Ty}
use Rattle.gb_terms.specs.declared.decl.Proc.{Proc}
use Rattle.gb_terms.specs.declared.decl.TypedName.{TypedName}
use Rattle.gb_terms.specs.declared.op.Op.TheVariants as op
use Rattle.gb_terms.specs.declared.op.Rel.{Rel}
use Rattle.gb_terms.specs.declared.op.Rel.TheVariants.{AtMost, Equal, AtLeast}
use Rattle.gb_terms.specs.declared.op.Side.{Side}
use Rattle.gb_terms.specs.declared.op.Side.TheVariants.{Own, Left, Right}
use Rattle.gb_terms.specs.declared.term.Head.{Head}
use Rattle.gb_terms.specs.declared.term.Head.TheVariants as head
use Rattle.gb_terms.specs.declared.term.Term.{Term, out-Term}
use Rattle.gb_walk.specs.declared.change.Change.TheVariants.{ToSide}
use Rattle.gb_steps.specs.declared.step.Conditions.{Conditions}
use Rattle.gb_steps.specs.declared.step.ProbabilityRule.{ProbabilityRule}
use Rattle.gb_steps.specs.declared.step.ProbabilityRule.TheVariants.{ByEquiv, ByPhoare, ByEvents, Within}
use Rattle.gb_goal.specs.Answers.Answer.{given}
use Rattle.gb_goal.specs.Goal.{Goal}
use Rattle.gb_goal.specs.Goal.Goal.{hoare, phoare, equiv, ambient}
use Rattle.gb_goal.specs.Rows.{refusing}
use Rattle.gb_goal.specs.Scope.{Declarations, procedure_of}
use Rattle.gb_steps.specs.Chances.{Chance, Bounded, Compared, last, before_last, chance_at, chance_of, compared_at, compared_of, unless, bounded_if, bounded_by, bounded_in, bounded_of, chances_by, chances_in, chances_of}
use Rattle.gb_typing.specs.Forms.{located}
use Rattle.gb_typing.proofs.Given.{refused_given, same_given}
use Rattle.gb_prog.specs.Compared.{literal}
use Rattle.gb_pr.specs.ByEquiv.{beside, by_equiv_goals, by_equiv_of, by_equiv_at, by_equiv_row}
use Rattle.gb_pr.specs.ByEvents.{same_rel, same_start, by_events_goals, by_events_of, by_events_row, is_kept, within_of, within_row}
use Rattle.gb_pr.specs.ByPhoare.{by_phoare_goals, by_phoare_of, by_phoare_at, by_phoare_row}
use Rattle.gb_pr.specs.Rows.{probability_row}
use Rattle.gb_pr.specs.Started.{given_for, started}
use Rattle.gb_print_names.specs.declared.bound_names.Enumeration.{Enumeration}
use Rattle.gb_print.specs.Written.{IsWrittenProcedure}
use Rattle.gb_shown.specs.Named.{IsNamedHead, IsNamed}
use Rattle.gb_shown.specs.Rules.{AreNamedConditions, IsNamedProbability, KeepsNames}
use Rattle.gb_shown.proofs.SpeltTrees.{AllNamed, parts_named}
use Rattle.gb_shown.proofs.Changed.{PutNamed, changed_named}
use Rattle.gb_shown.proofs.SpeltForms.{implies_named, as_likely_named, located_named, every_named, every_pair_named, puts_append}
use Rattle.gb_shown.proofs.Programs.{AllOf}

-- what is seen unless something is the case
seen : {A : Type 0} (P : A → Type 0) (b : Bool) (x y : A) → P x → unless b x ≡ Some y → P y
seen P true x y h e = absurd (none-some y e)
seen P false x y h e = subst P (same_Some x y e) h

module _ (es : List Enumeration) where
  -- Parts of comparisons.

  -- a probability whose procedure can be written, and in whose forms names are names
  record NamedChance (k : Chance) : Type 0 where
    written : IsWrittenProcedure [] k.procedure
    arguments : AllNamed es k.arguments
    event : IsNamed es k.event

  pub last_named : (t : Term) (ts : List Term) → IsNamed es t → AllNamed es ts → IsNamed es (last t ts)
  last_named t [] x y = x
  last_named t (u ∷ ts) x y = last_named u ts y.0 y.1

  pub before_named : (t : Term) (ts : List Term) → IsNamed es t → AllNamed es ts → AllNamed es (before_last t ts)
  before_named t [] x y = tt
  before_named t (u ∷ ts) x y = (x, before_named u ts y.0 y.1)

  head_named : (h : Head) (ts : List Term) (t : Ty) → IsNamedHead es h t → AllNamed es ts → (k : Chance) → chance_at h ts ≡ Some k → NamedChance k
  head_named (head.Pr p r) (t ∷ ts) u x y k e = seen NamedChance _ _ k (record { written = x; arguments = before_named t ts y.0 y.1; event = last_named t ts y.0 y.1 }) e
  head_named (head.Pr p r) [] u x y k e = absurd (none-some k e)
  head_named _ ts u x y k e = absurd (none-some k e)

  chance_named : (t : Term) → IsNamed es t → (k : Chance) → chance_of t ≡ Some k → NamedChance k
  chance_named t x k e = let p = parts_named es t x in head_named (out-Term t).head (out-Term t).args (out-Term t).ty p.0 p.2 k e

  -- both sides of a comparison
  abbrev Sides : Rel × Term × Term → Type 0
  Sides z = IsNamed es z.1 × IsNamed es z.2

  sides_named : (h : Head) (ts : List Term) → AllNamed es ts → (z : Rel × Term × Term) → compared_at h ts ≡ Some z → Sides z
  sides_named (head.Builtin op.AtMost) (a ∷ b ∷ []) x z e = subst Sides (same_Some _ z e) (x.0, x.1.0)
  sides_named (head.Builtin op.Equal) (a ∷ b ∷ []) x z e = subst Sides (same_Some _ z e) (x.0, x.1.0)
  sides_named _ ts x z e = absurd (none-some z e)

  compared_named : (f : Term) → IsNamed es f → (z : Rel × Term × Term) → compared_of f ≡ Some z → Sides z
  compared_named f x z e = let p = parts_named es f x in sides_named (out-Term f).head (out-Term f).args p.2 z e

  record NamedBounded (b : Bounded) : Type 0 where
    chance : NamedChance b.chance
    bound : IsNamed es b.bound

  if_named : (k : Chance) (r : Rel) (t : Term) → NamedChance k → IsNamed es t → (b : Bounded) → bounded_if k r t ≡ Some b → NamedBounded b
  if_named k r t x y b e = seen NamedBounded _ _ b (record { chance = x; bound = y }) e

  abbrev NamedIfAny : Option Chance → Type 0
  NamedIfAny o = (k : Chance) → o ≡ Some k → NamedChance k

  by_named : (r : Rel) (o u : Option Chance) (s t : Term) → NamedIfAny o → NamedIfAny u → IsNamed es s → IsNamed es t → (b : Bounded) → bounded_by r o u s t ≡ Some b → NamedBounded b
  by_named r (Some k) u s t f g x y b e = if_named k r t (f k refl) y b e
  by_named AtMost None (Some k) s t f g x y b e = if_named k AtLeast s (g k refl) x b e
  by_named AtMost None None s t f g x y b e = absurd (none-some b e)
  by_named Equal None u s t f g x y b e = absurd (none-some b e)
  by_named AtLeast None u s t f g x y b e = absurd (none-some b e)

  bounded_named : (f : Term) → IsNamed es f → (b : Bounded) → bounded_of f ≡ Some b → NamedBounded b
  bounded_named f x b e = step (compared_of f) (compared_named f x) e
    where
      step : (o : Option (Rel × Term × Term)) → ((z : Rel × Term × Term) → o ≡ Some z → Sides z) → bounded_in o ≡ Some b → NamedBounded b
      step (Some (r, s, t)) h e = let k = h (r, s, t) refl in by_named r (chance_of s) (chance_of t) s t (chance_named s k.0) (chance_named t k.1) k.0 k.1 b e
      step None h e = absurd (none-some b e)

  record NamedCompared (c : Compared) : Type 0 where
    left : NamedChance c.left
    right : NamedChance c.right

  both_named : (r : Rel) (o u : Option Chance) → NamedIfAny o → NamedIfAny u → (c : Compared) → chances_by r o u ≡ Some c → NamedCompared c
  both_named r (Some k) (Some l) f g c e = seen NamedCompared _ _ c (record { left = f k refl; right = g l refl }) e
  both_named r (Some k) None f g c e = absurd (none-some c e)
  both_named r None u f g c e = absurd (none-some c e)

  chances_named : (f : Term) → IsNamed es f → (c : Compared) → chances_of f ≡ Some c → NamedCompared c
  chances_named f x c e = step (compared_of f) (compared_named f x) e
    where
      step : (o : Option (Rel × Term × Term)) → ((z : Rel × Term × Term) → o ≡ Some z → Sides z) → chances_in o ≡ Some c → NamedCompared c
      step (Some (r, s, t)) h e = let k = h (r, s, t) refl in both_named r (chance_of s) (chance_of t) (chance_named s k.0) (chance_named t k.1) c e
      step None h e = absurd (none-some c e)

  -- What is said of arguments, and the goals.

  given_named : (r : Side) (xs : List TypedName) (ts : List Term) → AllNamed es ts → PutNamed es (given_for r xs ts)
  given_named r [] ts h = tt
  given_named r (x ∷ xs) [] h = tt
  given_named r (x ∷ xs) (t ∷ ts) h = (h.0, given_named r xs ts h.1)

  started_named : (r : Side) (xs : List TypedName) (k : Chance) → NamedChance k → PutNamed es (started r xs k)
  started_named r xs k m = puts_append es (given_for r xs k.arguments) (ToSide r k.memory ∷ []) (given_named r xs k.arguments m.arguments) (tt, tt)

  phoare_goals_named : (xs : List TypedName) (s : Conditions) (b : Bounded) → AreNamedConditions es s → NamedBounded b → AllOf es (by_phoare_goals xs s b)
  phoare_goals_named xs s b n m =
      let k = m.chance in
      ((k.written, n.0, n.1, m.bound), (changed_named es s.pre (started Own xs b.chance) (started_named Own xs b.chance k) n.0, (every_named es Own _ (as_likely_named es b.rel b.chance.event s.post k.event n.1), tt)))

  beside_named : (c : Compared) → NamedCompared c → IsNamed es (beside c)
  beside_named c m =
      let k = m.left in
      let l = m.right in
      as_likely_named es c.rel (located Left c.left.event) (located Right c.right.event) (located_named es Left c.left.event k.event) (located_named es Right c.right.event l.event)

  equiv_goals_named : (xs ys : List TypedName) (s : Conditions) (c : Compared) → AreNamedConditions es s → NamedCompared c → AllOf es (by_equiv_goals xs ys s c)
  equiv_goals_named xs ys s c n m =
      let k = m.left in
      let l = m.right in
      let at_left = started Left xs c.left in
      let at_right = started Right ys c.right in (
        (k.written, l.written, n.0, n.1),
        (
          changed_named es s.pre (at_left ++ at_right) (puts_append es at_left at_right (started_named Left xs c.left k) (started_named Right ys c.right l)) n.0,
          (every_pair_named es _ (implies_named es s.post (beside c) n.1 (beside_named c m)), tt),
        ),
      )

  module _ (ds : Declarations) (s : Conditions) (n : AreNamedConditions es s) where
    phoare_keeps : (o : Option Bounded) → ((b : Bounded) → o ≡ Some b → NamedBounded b) → (Gs : List Goal) → by_phoare_at ds s o ≡ given Gs → AllOf es Gs
    phoare_keeps None h Gs e = refused_given Shape Gs e
    phoare_keeps (Some b) h Gs e = step (procedure_of ds b.chance.procedure) e
      where
        step : (o : Option Proc) → by_phoare_of s b o ≡ given Gs → AllOf es Gs
        step (Some p) e = subst (AllOf es) (same_given _ Gs e) (phoare_goals_named p.params s b n (h b refl))
        step None e = refused_given Shape Gs e

    by_phoare_keeps : KeepsNames es (by_phoare_row ds s)
    by_phoare_keeps (ambient f) h Gs e = phoare_keeps (bounded_of f) (bounded_named f h) Gs e
    by_phoare_keeps (hoare a p q) h Gs e = refused_given Shape Gs e
    by_phoare_keeps (phoare a r p q b) h Gs e = refused_given Shape Gs e
    by_phoare_keeps (equiv a b p q) h Gs e = refused_given Shape Gs e

    equiv_keeps : (o : Option Compared) → ((c : Compared) → o ≡ Some c → NamedCompared c) → (Gs : List Goal) → by_equiv_at ds s o ≡ given Gs → AllOf es Gs
    equiv_keeps None h Gs e = refused_given Shape Gs e
    equiv_keeps (Some c) h Gs e = step (procedure_of ds c.left.procedure) (procedure_of ds c.right.procedure) e
      where
        step : (o u : Option Proc) → by_equiv_of s c o u ≡ given Gs → AllOf es Gs
        step (Some p) (Some q) e = subst (AllOf es) (same_given _ Gs e) (equiv_goals_named p.params q.params s c n (h c refl))
        step (Some p) None e = refused_given Shape Gs e
        step None u e = refused_given Shape Gs e

    by_equiv_keeps : KeepsNames es (by_equiv_row ds s)
    by_equiv_keeps (ambient f) h Gs e = equiv_keeps (chances_of f) (chances_named f h) Gs e
    by_equiv_keeps (hoare a p q) h Gs e = refused_given Shape Gs e
    by_equiv_keeps (phoare a r p q b) h Gs e = refused_given Shape Gs e
    by_equiv_keeps (equiv a b p q) h Gs e = refused_given Shape Gs e

  -- Events of one procedure, and bounds.

  module _ (r : Rel) where
    events_keep : (o : Option Compared) → ((c : Compared) → o ≡ Some c → NamedCompared c) → (Gs : List Goal) → by_events_of r o ≡ given Gs → AllOf es Gs
    events_keep None h Gs e = refused_given Shape Gs e
    events_keep (Some c) h Gs e = step (same_rel r c.rel && same_start c.left c.right) e
      where
        goals_named : NamedCompared c → AllOf es (by_events_goals c)
        goals_named m =
            let k = m.left in
            let l = m.right in
            (every_named es Own _ (as_likely_named es c.rel c.left.event c.right.event k.event l.event), tt)

        step : (b : Bool) → (if b then given (by_events_goals c) else refusing Shape) ≡ given Gs → AllOf es Gs
        step true e = subst (AllOf es) (same_given _ Gs e) (goals_named (h c refl))
        step false e = refused_given Shape Gs e

    by_events_keep : KeepsNames es (by_events_row r)
    by_events_keep (ambient f) h Gs e = events_keep (chances_of f) (chances_named f h) Gs e
    by_events_keep (hoare a p q) h Gs e = refused_given Shape Gs e
    by_events_keep (phoare a s p q b) h Gs e = refused_given Shape Gs e
    by_events_keep (equiv a b p q) h Gs e = refused_given Shape Gs e

    bound_keeps : (o : Option Bounded) (Gs : List Goal) → within_of r o ≡ given Gs → AllOf es Gs
    bound_keeps None Gs e = refused_given Shape Gs e
    bound_keeps (Some b) Gs e = step (is_kept r b.rel (literal b.bound)) e
      where
        step : (b : Bool) → (if b then given [] else refusing Shape) ≡ given Gs → AllOf es Gs
        step true e = subst (AllOf es) (same_given [] Gs e) tt
        step false e = refused_given Shape Gs e

    within_keeps : KeepsNames es (within_row r)
    within_keeps (ambient f) h Gs e = bound_keeps (bounded_of f) Gs e
    within_keeps (hoare a p q) h Gs e = refused_given Shape Gs e
    within_keeps (phoare a s p q b) h Gs e = refused_given Shape Gs e
    within_keeps (equiv a b p q) h Gs e = refused_given Shape Gs e

  pub probabilities_keep : (ds : Declarations) (r : ProbabilityRule) → IsNamedProbability es r → KeepsNames es (probability_row ds r)
  probabilities_keep ds (ByEquiv s) n = by_equiv_keeps ds s n
  probabilities_keep ds (ByPhoare s) n = by_phoare_keeps ds s n
  probabilities_keep ds (ByEvents r) n = by_events_keep r
  probabilities_keep ds (Within r) n = within_keeps r
