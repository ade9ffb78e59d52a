-- `rnd` on one of two bodies, and transitivity, keep names.
use Rattle.std.proofs.Common.{◌≡◌, Bool, true, false, if◌then◌else◌, List, [], ◌∷◌, Option, Some, None, refl, subst}
use Rattle.gb_core.specs.declared.refusal.Why.TheVariants.{Shape}
use Rattle.gb_core.specs.declared.ty.Ty.TheVariants as ty
use Rattle.gb_terms.specs.declared.op.Rel.TheVariants.{Equal}
use Rattle.gb_terms.specs.declared.op.Read.TheVariants.{Program}
use Rattle.gb_terms.specs.declared.op.Side.{Side}
use Rattle.gb_terms.specs.declared.op.Side.TheVariants.{Left, Right}
use Rattle.gb_terms.specs.declared.term.Term.{Term}
use Rattle.gb_terms.specs.declared.term.Head.TheVariants.{Mu, AllMemory, SomeMemory}
use Rattle.gb_terms.specs.Make.{node}
use Rattle.gb_walk.specs.declared.change.Change.TheVariants.{ToTerm}
use Rattle.gb_steps.specs.declared.step.Acts.{Acts}
use Rattle.gb_steps.specs.declared.step.Acts.TheVariants as on
use Rattle.gb_steps.specs.declared.step.Between.{Between}
use Rattle.gb_steps.specs.declared.step.RelationalRule.{RelationalRule}
use Rattle.gb_steps.specs.declared.step.RelationalRule.TheVariants.{Rnd, Symmetry, Drawn, Transitivity, Sim}
use Rattle.gb_steps.specs.declared.step.Rule.TheVariants.{Relational}
use Rattle.gb_goal.specs.Goal.{Goal}
use Rattle.gb_goal.specs.Goal.Code.{body, procedure}
use Rattle.gb_goal.specs.Goal.Goal.{hoare, phoare, equiv, ambient}
use Rattle.gb_goal.specs.Rows.{refusing}
use Rattle.gb_goal.specs.Answers.Answer.{given}
use Rattle.gb_goal.specs.Scope.{Declarations}
use Rattle.gb_mods.specs.Exclusions.{exclusions}
use Rattle.gb_typing.specs.Forms.{and_form, implies_form, located, to_bound}
use Rattle.gb_typing.specs.Samplings.{Sampling, last_sampling}
use Rattle.gb_typing.specs.Supports.{nearest}
use Rattle.gb_typing.proofs.Given.{refused_given, same_given}
use Rattle.gb_prog.specs.OneBody.{OneBody}
use Rattle.gb_prog.specs.Compared.{one}
use Rattle.gb_full.specs.Loss.{may_lose}
use Rattle.gb_equiv.specs.Drawn.{clashing}
use Rattle.gb_equiv.specs.OneSide.{with_value, each_drawn, before_drawing, by_end, drawn_row}
use Rattle.gb_forms.specs.Surely.{drawing, surely_drawn}
use Rattle.gb_equiv.specs.Rows.{rule_row}
use Rattle.gb_forms.specs.Between.{from_left, to_right, reads_between, some_between}
use Rattle.gb_equiv.specs.Transitivity.{every_between, through, transitivity_row}
use Rattle.gb_print_names.specs.declared.bound_names.Enumeration.{Enumeration}
use Rattle.gb_shown.specs.Named.{IsNamed}
use Rattle.gb_shown.specs.Rules.{IsNamedBetween, IsNamedRelational, KeepsNames}
use Rattle.gb_shown.proofs.SpeltTrees.{node_named}
use Rattle.gb_shown.proofs.Changed.{changed_named}
use Rattle.gb_shown.proofs.SpeltForms.{and_named, implies_named, truth_named, compared_named, number_named, located_named, every_pair_named}
use Rattle.gb_shown.proofs.Programs.{AllOf, Around, by_one}
use Rattle.gb_shown.proofs.Samplings.{NamedSampling, last_named, nearest_named, for_support_named, clash_keeps, rnd_keeps, symmetry_keeps}

module _ (es : List Enumeration) where
  -- A sampling at the end of one of two bodies.

  drawn_named : (r : Side) (x : Sampling) (q : Term) → NamedSampling es x → IsNamed es q → IsNamed es (each_drawn r x q)
  drawn_named r x q m k =
      for_support_named es x.ty (located r x.from) (with_value r x q) m.ty (located_named es r x.from m.from) (changed_named es q (ToTerm (Program x.target r) (nearest x.ty) ∷ []) (nearest_named es x.ty m.ty, tt) k)

  surely_named : (r : Side) (x : Sampling) → NamedSampling es x → IsNamed es (surely_drawn r x)
  surely_named r x m = compared_named es Equal (drawing r x) one (node_named es Mu _ ty.Real tt tt (located_named es r x.from m.from, (truth_named es, tt))) (number_named es 1 refl)

  module _ (ds : Declarations) where
    before_named : (r : Side) (x : Sampling) (q : Term) → NamedSampling es x → IsNamed es q → IsNamed es (before_drawing ds r x q)
    before_named r x q m k = step (may_lose ds x.from)
      where
        step : (b : Bool) → IsNamed es (if b then and_form (surely_drawn r x) (each_drawn r x q) else each_drawn r x q)
        step true = and_named es (surely_drawn r x) (each_drawn r x q) (surely_named r x m) (drawn_named r x q m k)
        step false = drawn_named r x q m k

    end_drawn : (Gs : List Goal) (o : OneBody) → Around es o → (s : Option Sampling) → ((x : Sampling) → s ≡ Some x → NamedSampling es x) → by_end ds o s ≡ given Gs → AllOf es Gs
    end_drawn Gs o k None f e = refused_given Shape Gs e
    end_drawn Gs o k (Some x) f e =
        let m = f x refl in
        clash_keeps es (clashing (exclusions ds) o.side x.target o.post) (o.goal x.before o.pre (before_drawing ds o.side x o.post)) Gs (k.goal x.before o.pre _ m.before k.pre (before_named o.side x o.post m k.post)) e

    body_drawn : (Gs : List Goal) (o : OneBody) → by_end ds o (last_sampling o.list) ≡ given Gs → Around es o → AllOf es Gs
    body_drawn Gs o e k = end_drawn Gs o k (last_sampling o.list) (λ x i. last_named es o.list k.list x i) e

    pub drawn_keeps : (a : Acts) → KeepsNames es (drawn_row ds a)
    drawn_keeps on.All G h Gs e = refused_given Shape Gs e
    drawn_keeps on.Left G h Gs e = by_one es (λ o. by_end ds o (last_sampling o.list)) (refusing Shape) G Gs (body_drawn Gs) (λ e. refused_given Shape Gs e) on.Left e h
    drawn_keeps on.Right G h Gs e = by_one es (λ o. by_end ds o (last_sampling o.list)) (refusing Shape) G Gs (body_drawn Gs) (λ e. refused_given Shape Gs e) on.Right e h

  -- By way of a third procedure.

  left_named : (f : Term) → IsNamed es f → IsNamed es (from_left f)
  left_named f x = changed_named es f (to_bound Right) (tt, tt) x

  right_named : (f : Term) → IsNamed es f → IsNamed es (to_right f)
  right_named f x = changed_named es f (to_bound Left) (tt, tt) x

  some_named : (f h : Term) → IsNamed es f → IsNamed es h → IsNamed es (some_between f h)
  some_named f h x y = step (reads_between f h)
    where
      step : (b : Bool) → IsNamed es (if b then node SomeMemory (and_form (from_left f) (to_right h) ∷ []) ty.Bool else and_form f h)
      step true = node_named es SomeMemory _ ty.Bool tt tt (and_named es (from_left f) (to_right h) (left_named f x) (right_named h y), tt)
      step false = and_named es f h x y

  every_named : (f h q : Term) → IsNamed es f → IsNamed es h → IsNamed es q → IsNamed es (every_between f h q)
  every_named f h q x y z = step (reads_between f h)
    where
      step : (b : Bool) → IsNamed es (if b then node AllMemory (implies_form (from_left f) (implies_form (to_right h) q) ∷ []) ty.Bool else implies_form f (implies_form h q))
      step true = node_named es AllMemory _ ty.Bool tt tt (implies_named es (from_left f) _ (left_named f x) (implies_named es (to_right h) q (right_named h y) z), tt)
      step false = implies_named es f _ x (implies_named es h q y z)

  pub transitivity_keeps : (t : Between) → IsNamedBetween es t → KeepsNames es (transitivity_row t)
  transitivity_keeps t n (equiv (procedure f) (procedure h) p q) k Gs e =
      subst (AllOf es) (same_given (through t (procedure f) (procedure h) p q) Gs e) (
        every_pair_named es _ (implies_named es p _ k.2 (some_named t.left_pre t.right_pre n.left_pre n.right_pre)),
        (
          every_pair_named es _ (every_named t.left_post t.right_post q n.left_post n.right_post k.3),
          ((k.0, n.procedure, n.left_pre, n.left_post), ((n.procedure, k.1, n.right_pre, n.right_post), tt)),
        ),
      )
  transitivity_keeps t n (equiv (procedure f) (body js) p q) k Gs e = refused_given Shape Gs e
  transitivity_keeps t n (equiv (body is) d p q) k Gs e = refused_given Shape Gs e
  transitivity_keeps t n (hoare a p q) k Gs e = refused_given Shape Gs e
  transitivity_keeps t n (phoare a r p q b) k Gs e = refused_given Shape Gs e
  transitivity_keeps t n (ambient f) k Gs e = refused_given Shape Gs e

  pub relational_keep : (ds : Declarations) (r : RelationalRule) → IsNamedRelational es r → KeepsNames es (rule_row ds (Relational r))
  relational_keep ds (Rnd fs) n = rnd_keeps es ds fs n
  relational_keep ds Symmetry n = symmetry_keeps es
  relational_keep ds (Drawn a) n = drawn_keeps ds a
  relational_keep ds (Transitivity t) n = transitivity_keeps t n
  relational_keep ds Sim n = λ G h Gs e. refused_given Shape Gs e
