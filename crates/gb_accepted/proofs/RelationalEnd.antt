-- The loops that the subgoals of rules on equivalences reach.
use Rattle.std.proofs.Common.{◌≡◌, List, [], ◌∷◌, Option, Some, None, refl, subst}
use Rattle.std.proofs.lemmas.Option.{same_Some, none-some}
use Rattle.std.specs.Option.{option_zip}
use Rattle.std.specs.List.{AllByRecursion}
use Rattle.gb_core.specs.declared.refusal.Why.TheVariants.{Shape, SideCondition}
use Rattle.gb_core.specs.declared.var.Var.{Var}
use Rattle.gb_terms.specs.declared.decl.TypedName.{TypedName}
use Rattle.gb_terms.specs.declared.op.Side.TheVariants.{Own}
use Rattle.gb_terms.specs.declared.term.Instr.{Instr}
use Rattle.gb_terms.specs.declared.term.Term.{Term}
use Rattle.gb_meaning.specs.Holds.{LoopsAreGood}
use Rattle.gb_meaning.specs.Commands.{statements}
use Rattle.gb_meaning.specs.Setting.{Setting}
use Rattle.gb_goal.specs.Answers.Answer.{given}
use Rattle.gb_goal.specs.Goal.{Goal}
use Rattle.gb_goal.specs.Goal.Code.{body, procedure}
use Rattle.gb_goal.specs.Goal.Goal.{hoare, phoare, equiv, ambient}
use Rattle.gb_goal.specs.Rows.{refusing}
use Rattle.gb_goal.specs.Scope.{Declarations}
use Rattle.gb_walk.specs.Clash.{Exclusions}
use Rattle.gb_mods.specs.Exclusions.{exclusions}
use Rattle.gb_meaning.specs.Declared.{declared}
use Rattle.gb_steps.specs.declared.step.Rule.{Rule}
use Rattle.gb_steps.specs.declared.step.Rule.TheVariants.{OnBodies, Relational, Chance, Probability, Call, CallKnown, Abstract, While, Transform, Ambient, Use, Rewrite, Smt, Linear}
use Rattle.gb_steps.specs.declared.step.RelationalRule.TheVariants.{Rnd, Symmetry, Drawn, Transitivity, Sim}
use Rattle.gb_steps.specs.declared.step.Acts.{Acts}
use Rattle.gb_steps.specs.declared.step.Acts.TheVariants as on
use Rattle.gb_steps.specs.declared.step.Between.{Between}
use Rattle.gb_typing.specs.Context.{Context}
use Rattle.gb_typing.specs.Goals.{IsGoalOver}
use Rattle.gb_typing.specs.Programs.{IsBody}
use Rattle.gb_typing.specs.Samplings.{Sampling, last_sampling}
use Rattle.gb_typing.proofs.Given.{refused_given, same_given}
use Rattle.gb_typing.proofs.LastSampling.{drawn, last_one}
use Rattle.gb_prog.specs.OneBody.{OneBody, on_one, one_body}
use Rattle.gb_equiv.specs.Drawn.{by_end, clashing, unless_clash, without_sampling}
use Rattle.gb_equiv.specs.Rnd.{by_ends, by_maps, clash_of, maps, rnd_row, without_samplings}
use Rattle.gb_equiv.specs.Symmetry.{symmetry_row}
use Rattle.gb_forms.specs.declared.coupled.Maps.{Maps}
use Rattle.gb_equiv.specs.OneSide as one_side
use Rattle.gb_equiv.specs.OneSide.{drawn_row}
use Rattle.gb_equiv.specs.Rows.{rule_row}
use Rattle.gb_equiv.specs.Transitivity.{transitivity_row}
use Rattle.gb_prog.specs.Ends.{KeepsEnds, LoopsEnd}
use Rattle.gb_accepted.proofs.BodiesEnd.{Around, by_body}
use Rattle.gb_prog.proofs.Own.{good_append}

module _ (g : Setting) where
  abbrev Good : List Instr → Type 0
  Good is = LoopsAreGood g (statements g is)

  abbrev Leads : List Goal → Goal → Type 0
  Leads Gs G = LoopsEnd g G → AllByRecursion (LoopsEnd g) Gs

  -- what stands before a sampling
  pub sampled_ends : (c : Context) (ls : List TypedName) (is : List Instr) (x : Sampling) → IsBody c ls is → last_sampling is ≡ Some x → Good is → Good x.before
  sampled_ends c ls is x w e h = let k = drawn c ls is x w e in ((good_append g x.before (last_one x)).0 (subst Good k.shape h)).0

  by_clash : (r : Option Var) (H G : Goal) (Gs : List Goal) → unless_clash r H ≡ given Gs → (LoopsEnd g G → LoopsEnd g H) → Leads Gs G
  by_clash None H G Gs e f = subst (λ Gs. Leads Gs G) (same_given (H ∷ []) Gs e) (λ h. (f h, tt))
  by_clash (Some x) H G Gs e f = refused_given (SideCondition x) Gs e

  module _ (c : Context) (ls rs : List TypedName) where
    one_sampling : (ex : Exclusions) (is : List Instr) (p q : Term) → IsBody c ls is → (Gs : List Goal) (o : Option Sampling) → last_sampling is ≡ o → by_end ex p q o ≡ given Gs → Leads Gs (hoare (body is) p q)
    one_sampling ex is p q w Gs None k e = refused_given Shape Gs e
    one_sampling ex is p q w Gs (Some x) k e = by_clash (clashing ex Own x.target q) (without_sampling x p q) (hoare (body is) p q) Gs e (sampled_ends c ls is x w k)

    two_samplings : (ex : Exclusions) (fs : List Term) (is js : List Instr) (p q : Term) → IsBody c ls is → IsBody c rs js → (Gs : List Goal) (x y : Option Sampling) → last_sampling is ≡ x → last_sampling js ≡ y →
        by_ends ex fs p q (option_zip x y) ≡ given Gs → Leads Gs (equiv (body is) (body js) p q)
    two_samplings ex fs is js p q w v Gs (Some x) (Some y) k l e = of_maps (maps fs x.ty y.ty) e
      where
        of_maps : (r : Option Maps) → by_maps ex x y p q r ≡ given Gs → Leads Gs (equiv (body is) (body js) p q)
        of_maps None e = refused_given Shape Gs e
        of_maps (Some ms) e =
            by_clash (clash_of ex x y q) (without_samplings x y ms p q) (equiv (body is) (body js) p q) Gs e (λ h. (sampled_ends c ls is x w k h.0, sampled_ends c rs js y v l h.1))
    two_samplings ex fs is js p q w v Gs None y k l e = refused_given Shape Gs e
    two_samplings ex fs is js p q w v Gs (Some x) None k l e = refused_given Shape Gs e

    rnd_ends : (ds : Declarations) (fs : List Term) (G : Goal) → IsGoalOver c ls rs G → (Gs : List Goal) → rnd_row ds fs G ≡ given Gs → Leads Gs G
    rnd_ends ds fs (equiv (body is) (body js) p q) w Gs e = two_samplings (exclusions ds) fs is js p q w.1 w.2 Gs (last_sampling is) (last_sampling js) refl refl e
    rnd_ends ds [] (hoare (body is) p q) w Gs e = one_sampling (exclusions ds) is p q w.0 Gs (last_sampling is) refl e
    rnd_ends ds (f ∷ fs) (hoare a p q) w Gs e = refused_given Shape Gs e
    rnd_ends ds [] (hoare (procedure a) p q) w Gs e = refused_given Shape Gs e
    rnd_ends ds fs (phoare a r p q b) w Gs e = refused_given Shape Gs e
    rnd_ends ds fs (equiv (procedure a) b p q) w Gs e = refused_given Shape Gs e
    rnd_ends ds fs (equiv (body is) (procedure b) p q) w Gs e = refused_given Shape Gs e
    rnd_ends ds fs (ambient f) w Gs e = refused_given Shape Gs e

    -- the body on which a rule acts is typed
    body_typed : (a : Acts) (G : Goal) (o : OneBody) → one_body a G ≡ Some o → IsGoalOver c ls rs G → (ms : List TypedName) × IsBody c ms o.list
    body_typed on.All (hoare (body is) p q) o e w = (ls, subst (λ (o : OneBody). IsBody c ls o.list) (same_Some _ o e) w.0)
    body_typed on.All (phoare (body is) r p q b) o e w = (ls, subst (λ (o : OneBody). IsBody c ls o.list) (same_Some _ o e) w.0)
    body_typed on.Left (equiv (body is) (body js) p q) o e w = (ls, subst (λ (o : OneBody). IsBody c ls o.list) (same_Some _ o e) w.1)
    body_typed on.Right (equiv (body is) (body js) p q) o e w = (rs, subst (λ (o : OneBody). IsBody c rs o.list) (same_Some _ o e) w.2)
    body_typed on.All (hoare (procedure a) p q) o e w = absurd (none-some o e)
    body_typed on.All (phoare (procedure a) r p q b) o e w = absurd (none-some o e)
    body_typed on.All (equiv a b p q) o e w = absurd (none-some o e)
    body_typed on.All (ambient f) o e w = absurd (none-some o e)
    body_typed on.Left (hoare a p q) o e w = absurd (none-some o e)
    body_typed on.Left (phoare a r p q b) o e w = absurd (none-some o e)
    body_typed on.Left (equiv (procedure a) b p q) o e w = absurd (none-some o e)
    body_typed on.Left (equiv (body is) (procedure b) p q) o e w = absurd (none-some o e)
    body_typed on.Left (ambient f) o e w = absurd (none-some o e)
    body_typed on.Right (hoare a p q) o e w = absurd (none-some o e)
    body_typed on.Right (phoare a r p q b) o e w = absurd (none-some o e)
    body_typed on.Right (equiv (procedure a) b p q) o e w = absurd (none-some o e)
    body_typed on.Right (equiv (body is) (procedure b) p q) o e w = absurd (none-some o e)
    body_typed on.Right (ambient f) o e w = absurd (none-some o e)

    -- one body, with the loops of the goal around it
    drawn_from : (ds : Declarations) (ms : List TypedName) (o : OneBody) → IsBody c ms o.list → Around g o → (Gs : List Goal) (x : Option Sampling) → last_sampling o.list ≡ x → one_side.by_end ds o x ≡ given Gs → AllByRecursion (LoopsEnd g) Gs
    drawn_from ds ms o w k Gs None e r = refused_given Shape Gs r
    drawn_from ds ms o w k Gs (Some x) e r =
        let before = one_side.before_drawing ds o.side x o.post in
        by_clash (clashing (exclusions ds) o.side x.target o.post) (o.goal x.before o.pre before) (o.goal o.list o.pre o.post) Gs r (λ h. k.goal x.before o.pre before (sampled_ends c ms o.list x w e k.list)) (k.goal o.list o.pre o.post k.list)

    on_body : (ds : Declarations) (a : Acts) (G : Goal) → IsGoalOver c ls rs G → (Gs : List Goal) → on_one (λ o. one_side.by_end ds o (last_sampling o.list)) (one_body a G) (refusing Shape) ≡ given Gs → Leads Gs G
    on_body ds a G w Gs e =
        by_body g (λ o. one_side.by_end ds o (last_sampling o.list)) (refusing Shape) G Gs a
        (λ o k r h. (let t = body_typed a G o k w in drawn_from ds t.0 o t.1 h Gs (last_sampling o.list) refl r)) (λ e. refused_given Shape Gs e) e

    drawn_ends : (ds : Declarations) (a : Acts) (G : Goal) → IsGoalOver c ls rs G → (Gs : List Goal) → drawn_row ds a G ≡ given Gs → Leads Gs G
    drawn_ends ds on.All G w Gs e = refused_given Shape Gs e
    drawn_ends ds on.Left G w Gs e = on_body ds on.Left G w Gs e
    drawn_ends ds on.Right G w Gs e = on_body ds on.Right G w Gs e

  transitivity_ends : (t : Between) (G : Goal) (Gs : List Goal) → transitivity_row t G ≡ given Gs → Leads Gs G
  transitivity_ends t (equiv (procedure f) (procedure h) p q) Gs e = subst (λ Gs. Leads Gs (equiv (procedure f) (procedure h) p q)) (same_given _ Gs e) (λ k. (tt, (tt, ((tt, tt), ((tt, tt), tt)))))
  transitivity_ends t (equiv (procedure f) (body js) p q) Gs e = refused_given Shape Gs e
  transitivity_ends t (equiv (body is) b p q) Gs e = refused_given Shape Gs e
  transitivity_ends t (hoare a p q) Gs e = refused_given Shape Gs e
  transitivity_ends t (phoare a r p q b) Gs e = refused_given Shape Gs e
  transitivity_ends t (ambient f) Gs e = refused_given Shape Gs e

  symmetry_ends : (G : Goal) (Gs : List Goal) → symmetry_row G ≡ given Gs → Leads Gs G
  symmetry_ends (equiv a b p q) Gs e = subst (λ Gs. Leads Gs (equiv a b p q)) (same_given _ Gs e) (λ h. ((h.1, h.0), tt))
  symmetry_ends (hoare a p q) Gs e = refused_given Shape Gs e
  symmetry_ends (phoare a r p q b) Gs e = refused_given Shape Gs e
  symmetry_ends (ambient f) Gs e = refused_given Shape Gs e

pub relational_end : (ds : Declarations) (c : Context) (ls rs : List TypedName) (r : Rule) (G : Goal) → IsGoalOver c ls rs G → (Gs : List Goal) → rule_row ds r G ≡ given Gs → KeepsEnds (declared ds) Gs G
relational_end ds c ls rs (Relational (Rnd fs)) G w Gs e g over = rnd_ends g c ls rs ds fs G w Gs e
relational_end ds c ls rs (Relational Symmetry) G w Gs e g over = symmetry_ends g G Gs e
relational_end ds c ls rs (Relational (Drawn a)) G w Gs e g over = drawn_ends g c ls rs ds a G w Gs e
relational_end ds c ls rs (Relational (Transitivity t)) G w Gs e g over = transitivity_ends g t G Gs e
relational_end ds c ls rs (Relational Sim) G w Gs e g over = refused_given Shape Gs e
relational_end ds c ls rs (OnBodies r) G w Gs e g over = refused_given Shape Gs e
relational_end ds c ls rs (Chance r) G w Gs e g over = refused_given Shape Gs e
relational_end ds c ls rs (Probability r) G w Gs e g over = refused_given Shape Gs e
relational_end ds c ls rs (Call r) G w Gs e g over = refused_given Shape Gs e
relational_end ds c ls rs (CallKnown a r) G w Gs e g over = refused_given Shape Gs e
relational_end ds c ls rs (Abstract k) G w Gs e g over = refused_given Shape Gs e
relational_end ds c ls rs (While r) G w Gs e g over = refused_given Shape Gs e
relational_end ds c ls rs (Transform a r) G w Gs e g over = refused_given Shape Gs e
relational_end ds c ls rs (Ambient r) G w Gs e g over = refused_given Shape Gs e
relational_end ds c ls rs (Use r) G w Gs e g over = refused_given Shape Gs e
relational_end ds c ls rs (Rewrite r) G w Gs e g over = refused_given Shape Gs e
relational_end ds c ls rs (Smt fs) G w Gs e g over = refused_given Shape Gs e
relational_end ds c ls rs (Linear ms) G w Gs e g over = refused_given Shape Gs e
