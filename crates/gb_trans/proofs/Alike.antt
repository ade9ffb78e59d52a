-- A body that runs alike may stand in the place of another one, in goals of every kind.
use Rattle.std.proofs.Common.{◌≡◌, List, [], ◌∷◌, Option, Some, None, refl, sym, ◌∙◌, subst}
use Rattle.std.specs.List.{AllByRecursion}
use Rattle.gb_core.specs.declared.refusal.Why.TheVariants.{Shape}
use Rattle.gb_terms.specs.declared.decl.TypedName.{TypedName}
use Rattle.gb_terms.specs.declared.op.Side.TheVariants as side
use Rattle.gb_terms.specs.declared.term.Instr.{Instr}
use Rattle.gb_meaning.specs.Commands.{statements}
use Rattle.gb_meaning.specs.Judgments.{Judge, IsFair, IsTrueUnder, den, speaking}
use Rattle.gb_meaning.specs.Meanings.{fraction_in}
use Rattle.gb_meaning.specs.Setting.{Setting}
use Rattle.gb_meaning.specs.Sound.{IsSound}
use Rattle.gb_meaning.specs.State.{State, at, between}
use Rattle.gb_meaning.specs.Terms.{val}
use Rattle.gb_meaning.proofs.Runs.{run_positive}
use Rattle.gb_meaning.specs.Declared.{Declarations}
use Rattle.gb_meaning.specs.Holds.{LoopsAreGood}
use Rattle.gb_goal.specs.Answers.{Answer, ◌>>=◌}
use Rattle.gb_goal.specs.Answers.Answer.{given, refused}
use Rattle.gb_goal.specs.Goal.{Goal}
use Rattle.gb_goal.specs.Goal.Code.{body, procedure}
use Rattle.gb_goal.specs.Goal.Goal.{hoare, phoare, equiv, ambient}
use Rattle.gb_steps.specs.declared.step.Acts.{Acts}
use Rattle.gb_steps.specs.declared.step.Acts.TheVariants as on
use Rattle.gb_typing.specs.Context.{Context}
use Rattle.gb_typing.specs.Fits.{IsSettingOf, IsStateOf}
use Rattle.gb_typing.specs.Goals.{IsGoalOver, IsTypedGoal}
use Rattle.gb_typing.specs.Meaning.{run, denominator, Stands}
use Rattle.gb_typing.specs.Programs.{IsBody}
use Rattle.gb_typing.specs.Rules.{IsSettingOver, IsSoundRuleIn, no_arguments}
use Rattle.gb_typing.proofs.Drawing.{body_sound}
use Rattle.gb_typing.proofs.Given.{refused_given, same_given}
use Rattle.gb_prog.specs.OneBody.{OneBody, one_body}
use Rattle.gb_prog.specs.Ends.{KeepsEnds, LoopsEnd, IsSoundLoopRule}
use Rattle.gb_prog.specs.Loops.{RunAlike}
use Rattle.gb_prog.proofs.Couplings.{alike_ends, alike_chances, alike_left, alike_right}
use Rattle.gb_trans.specs.Transformed.{with_body, transforming}

pub given_bind : {A B : Type 0} (a : Answer A) (k : A → Answer B) (y : B) → (a >>= k) ≡ given y → (x : A) × (a ≡ given x) × (k x ≡ given y)
given_bind (given x) k y e = (x, refl, e)
given_bind (refused w p) k y e = cc

-- K is what is known of the body on which a step acts.
abbrev pub knowing : (List Instr → Type 0) → Option OneBody → Type 0
knowing K None = Unit {0}
knowing K (Some o) = K o.list

abbrev pub KnownIn : (Setting → List Instr → Type 0) → Acts → Goal → Setting → Type 0
KnownIn K a G g = knowing (K g) (one_body a G)

-- its loops end
abbrev pub Ending : Setting → List Instr → Type 0
Ending g is = LoopsAreGood g (statements g is)

-- nothing is known
abbrev pub Nothing : Setting → List Instr → Type 0
Nothing g is = Unit {0}

module _ (ds : Declarations) (c : Context) (K : Setting → List Instr → Type 0) where
  -- Typed subgoals, whose loops end where those of the goal do, and which imply the goal where this is known of its body. Where the
  -- loops of the goal end, those of the body do.
  pub record AreSoundKnowing (a : Acts) (G : Goal) (Gs : List Goal) : Type 0 where
    pub typed : AllByRecursion (IsTypedGoal c) Gs
    pub ends : KeepsEnds ds Gs G
    pub loops : (g : Setting) → LoopsEnd g G → KnownIn Ending a G g
    pub implies : (g : Setting) → IsSettingOf c g → IsSettingOver ds g → KnownIn K a G g → (j : Judge) → IsFair g j → (s : State) → IsStateOf c g s → AllByRecursion (Stands g j s) Gs → Stands g j s G

  -- What is made of a body is typed where the body is, has good loops where the body has, and runs like it.
  pub record IsAlike (f : OneBody → Answer (List Instr)) : Type 0 where
    pub typed : (o : OneBody) (js : List Instr) → f o ≡ given js → (ls : List TypedName) → IsBody c ls o.list → IsBody c ls js
    pub alike : (o : OneBody) (js : List Instr) → f o ≡ given js → (ls : List TypedName) → IsBody c ls o.list → (g : Setting) → IsSettingOf c g → IsSettingOver ds g → K g o.list →
        (s : State) → RunAlike g s (statements g js) (statements g o.list)
    pub ends : (o : OneBody) (js : List Instr) → f o ≡ given js → (g : Setting) → Ending g o.list → Ending g js

  module _ (f : OneBody → Answer (List Instr)) (k : IsAlike f) where
    sound_body : (ls : List TypedName) (is : List Instr) → IsBody c ls is → (g : Setting) → IsSettingOf c g → IsSound g (statements g is)
    sound_body ls is w g fits = body_sound c g fits ls is w.statements

    -- what the row gives of a goal with this body
    given_goal : (o : OneBody) (a : Acts) (G : Goal) → ((js : List Instr) → f o ≡ given js → AreSoundKnowing a G (o.goal js o.pre o.post ∷ [])) → (Gs : List Goal) → with_body f o ≡ given Gs → AreSoundKnowing a G Gs
    given_goal o a G h Gs e =
        let z = given_bind (f o) (λ is. given (o.goal is o.pre o.post ∷ [])) Gs e in
        subst (AreSoundKnowing a G) (same_given (o.goal z.0 o.pre o.post ∷ []) Gs z.2) (h z.0 z.1)

    pub transformed : (a : Acts) (ls rs : List TypedName) (G : Goal) → IsGoalOver c ls rs G → (Gs : List Goal) → transforming f a G ≡ given Gs → AreSoundKnowing a G Gs
    transformed on.All ls rs (hoare (body is) p q) w Gs e =
        let o : OneBody = record { side = side.Own; list = is; pre = p; post = q; goal = λ is p q. hoare (body is) p q } in
        given_goal o on.All (hoare (body is) p q) (λ js h. record {
          typed = ((ls, rs, (k.typed o js h ls w.0, w.1, w.2)), tt);
          ends = λ g over e. (k.ends o js h g e, tt);
          loops = λ g e. e;
          implies = λ g fits over known j fair s fit x m y.
              alike_ends g s (statements g js) (statements g is) (sound_body ls js (k.typed o js h ls w.0) g fits) (sound_body ls is w.0 g fits) (k.alike o js h ls w.0 g fits over known s)
              (λ n. den g j q (at s n)) m (x.0 m y);
        }) Gs e
    transformed on.All ls rs (phoare (body is) r p q b) w Gs e =
        let o : OneBody = record { side = side.Own; list = is; pre = p; post = q; goal = λ is p q. phoare (body is) r p q b } in
        given_goal o on.All (phoare (body is) r p q b) (λ js h. record {
          typed = ((ls, rs, (k.typed o js h ls w.0, w.1, w.2, w.3, w.4)), tt);
          ends = λ g over e. (k.ends o js h g e, tt);
          loops = λ g e. e;
          implies = λ g fits over known j fair s fit x m y.
              sym (alike_chances g s (statements g js) (statements g is) (sound_body ls js (k.typed o js h ls w.0) g fits) (sound_body ls is w.0 g fits) (k.alike o js h ls w.0 g fits over known s)
              m (λ n. den g j q (at s n)) r (fraction_in (val g (speaking g j) b s))) ∙ x.0 m y;
        }) Gs e
    transformed on.Left ls rs (equiv (body is) (body js) p q) w Gs e =
        let o : OneBody = record { side = side.Left; list = is; pre = p; post = q; goal = λ is p q. equiv (body is) (body js) p q } in
        given_goal o on.Left (equiv (body is) (body js) p q) (λ ks h. record {
          typed = ((ls, rs, (tt, k.typed o ks h ls w.1, w.2, w.3, w.4)), tt);
          ends = λ g over e. ((k.ends o ks h g e.0, e.1), tt);
          loops = λ g e. e.0;
          implies = λ g fits over known j fair s fit x m n y.
              alike_left g s (statements g ks) (statements g is) (sound_body ls ks (k.typed o ks h ls w.1) g fits) (sound_body ls is w.1 g fits) (k.alike o ks h ls w.1 g fits over known s)
              (λ a b. IsTrueUnder g j q (between s a b)) (run g s js n) (denominator g js) (run_positive g (statements g js) (sound_body rs js w.2 g fits)) m (x.0 m n y);
        }) Gs e
    transformed on.Right ls rs (equiv (body is) (body js) p q) w Gs e =
        let o : OneBody = record { side = side.Right; list = js; pre = p; post = q; goal = λ js p q. equiv (body is) (body js) p q } in
        given_goal o on.Right (equiv (body is) (body js) p q) (λ ks h. record {
          typed = ((ls, rs, (tt, w.1, k.typed o ks h rs w.2, w.3, w.4)), tt);
          ends = λ g over e. ((e.0, k.ends o ks h g e.1), tt);
          loops = λ g e. e.1;
          implies = λ g fits over known j fair s fit x m n y.
              alike_right g s (statements g ks) (statements g js) (sound_body rs ks (k.typed o ks h rs w.2) g fits) (sound_body rs js w.2 g fits) (k.alike o ks h rs w.2 g fits over known s)
              (λ a b. IsTrueUnder g j q (between s a b)) (run g s is m) (denominator g is) (run_positive g (statements g is) (sound_body ls is w.1 g fits)) n (x.0 m n y);
        }) Gs e
    transformed on.All ls rs (equiv a b p q) w Gs e = refused_given Shape Gs e
    transformed on.All ls rs (hoare (procedure a) p q) w Gs e = refused_given Shape Gs e
    transformed on.Left ls rs (hoare a p q) w Gs e = refused_given Shape Gs e
    transformed on.Right ls rs (hoare a p q) w Gs e = refused_given Shape Gs e
    transformed on.All ls rs (phoare (procedure a) r p q b) w Gs e = refused_given Shape Gs e
    transformed on.Left ls rs (phoare a r p q b) w Gs e = refused_given Shape Gs e
    transformed on.Right ls rs (phoare a r p q b) w Gs e = refused_given Shape Gs e
    transformed on.Left ls rs (equiv (procedure a) b p q) w Gs e = refused_given Shape Gs e
    transformed on.Right ls rs (equiv (procedure a) b p q) w Gs e = refused_given Shape Gs e
    transformed on.Left ls rs (equiv (body is) (procedure b) p q) w Gs e = refused_given Shape Gs e
    transformed on.Right ls rs (equiv (body is) (procedure b) p q) w Gs e = refused_given Shape Gs e
    transformed on.All ls rs (ambient f) w Gs e = refused_given Shape Gs e
    transformed on.Left ls rs (ambient f) w Gs e = refused_given Shape Gs e
    transformed on.Right ls rs (ambient f) w Gs e = refused_given Shape Gs e

nothing_known : (g : Setting) (r : Option OneBody) → knowing (Nothing g) r
nothing_known g None = tt
nothing_known g (Some o) = tt

-- the law of a rule for which nothing has to be known
pub transformed_always : (ds : Declarations) (c : Context) (f : OneBody → Answer (List Instr)) → IsAlike ds c Nothing f → (a : Acts) → IsSoundRuleIn ds c (transforming f a) no_arguments
transformed_always ds c f k a outer ls rs G w y Gs e =
    let z = transformed ds c Nothing f k a ls rs G w Gs e in
    (z.typed, λ g fits over. z.implies g fits over (nothing_known g (one_body a G)))

pub loops_always : (ds : Declarations) (c : Context) (f : OneBody → Answer (List Instr)) → IsAlike ds c Nothing f → (a : Acts) → IsSoundLoopRule ds c (transforming f a) no_arguments
loops_always ds c f k a outer ls rs G w y Gs e =
    let z = transformed ds c Nothing f k a ls rs G w Gs e in
    record { typed = z.typed; implies = λ g fits over h. z.implies g fits over (nothing_known g (one_body a G)); ends = z.ends }

-- the law of a rule for which the loops of the body have to end
pub loops_ending : (ds : Declarations) (c : Context) (f : OneBody → Answer (List Instr)) → IsAlike ds c Ending f → (a : Acts) → IsSoundLoopRule ds c (transforming f a) no_arguments
loops_ending ds c f k a outer ls rs G w y Gs e =
    let z = transformed ds c Ending f k a ls rs G w Gs e in
    record { typed = z.typed; implies = λ g fits over h. z.implies g fits over (z.loops g h); ends = z.ends }
