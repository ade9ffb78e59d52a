-- `kill` is sound: the statement that goes makes no difference to what the postcondition reads.
use Rattle.std.proofs.Common.{◌≡◌, ℕ, ◌*◌, ◌<◌, Bool, false, List, [], ◌∷◌, ◌++◌, Option, Some, None, refl, sym, ◌∙◌, subst}
use Rattle.std.proofs.lemmas.Option.{same_Some, none-some}
use Rattle.std.specs.List.{filter}
use Rattle.std.specs.Option.{option_map}
use Rattle.gb_core.specs.declared.refusal.Why.TheVariants.{Shape, NotLossless}
use Rattle.gb_core.specs.declared.var.Var.{Var}
use Rattle.gb_dist.specs.WeightedList.{weight}
use Rattle.gb_dist.specs.Coupling.{Coupling}
use Rattle.gb_dist.proofs.Basic.{coupling_symmetry}
use Rattle.gb_dist.proofs.CoupledEvents.{coupled_event}
use Rattle.gb_terms.specs.declared.decl.Proc.{Proc}
use Rattle.gb_terms.specs.declared.decl.TypedName.{TypedName}
use Rattle.gb_terms.specs.declared.module.ProcRef.{ProcRef}
use Rattle.gb_terms.specs.declared.op.Rel.{Rel}
use Rattle.gb_terms.specs.declared.op.Side.TheVariants as side
use Rattle.gb_terms.specs.declared.term.Instr.{Instr}
use Rattle.gb_terms.specs.declared.term.Term.{Term}
use Rattle.gb_walk.specs.Clash.{Exclusions, least, variables_read}
use Rattle.gb_meaning.specs.Commands.{statements}
use Rattle.gb_meaning.specs.Judgments.{IsTrueUnder, den, speaking}
use Rattle.gb_meaning.specs.Meanings.{fraction_in}
use Rattle.gb_meaning.specs.Memory.{Memory}
use Rattle.gb_meaning.specs.Setting.{Setting}
use Rattle.gb_meaning.specs.Sound.{IsSound}
use Rattle.gb_meaning.specs.State.{State, at, between}
use Rattle.gb_meaning.specs.Terms.{val}
use Rattle.gb_meaning.proofs.Runs.{run_positive, run_entries}
use Rattle.gb_laws.specs.Cells.{Key, get_at}
use Rattle.gb_meaning.specs.Declared.{declared}
use Rattle.gb_goal.specs.Answers.Answer.{given}
use Rattle.gb_goal.specs.Goal.{Goal}
use Rattle.gb_goal.specs.Goal.Code.{body, procedure}
use Rattle.gb_goal.specs.Goal.Goal.{hoare, phoare, equiv, ambient}
use Rattle.gb_goal.specs.Scope.{Declarations, procedure_of}
use Rattle.gb_goal.specs.declared.sequent.Sequent.{Sequent}
use Rattle.gb_steps.specs.declared.step.Acts.{Acts}
use Rattle.gb_steps.specs.declared.step.Acts.TheVariants as on
use Rattle.gb_typing.specs.Context.{Context, with_own, with_sides}
use Rattle.gb_typing.specs.Fits.{IsSettingOf}
use Rattle.gb_typing.specs.Goals.{IsGoalOver}
use Rattle.gb_typing.specs.Meaning.{run, denominator}
use Rattle.gb_typing.specs.Programs.{EachStatement, IsBody, IsProcedure}
use Rattle.gb_typing.specs.Rules.{IsSettingOver, no_arguments}
use Rattle.gb_typing.specs.Scopes.{context_of, IsTypedScope}
use Rattle.gb_typing.specs.Sequents.{of_sequent, IsTypedSequent}
use Rattle.gb_typing.proofs.Drawing.{body_sound}
use Rattle.gb_typing.proofs.Fitting.{fits_reframed}
use Rattle.gb_typing.proofs.Given.{refused_given, same_given}
use Rattle.gb_typing.proofs.Lists.{typed_append}
use Rattle.gb_typing.proofs.Located.{typed_there}
use Rattle.gb_full.specs.Loss.{Loss, nowhere, sampled, called, first_loss}
use Rattle.gb_full.proofs.Full.{total_full}
use Rattle.gb_prog.specs.OneBody.{OneBody}
use Rattle.gb_full.specs.Lossless.{full}
use Rattle.gb_prog.proofs.Meanings.{means_there}
use Rattle.gb_prog.specs.Ends.{IsSoundLoopRule, IsSoundOnLoops}
use Rattle.gb_prog.proofs.Couplings.{runs_gluing}
use Rattle.gb_prog.proofs.Own.{Good, good_append}
use Rattle.gb_forms.specs.declared.effects.Effects.{Effects}
use Rattle.gb_mods.specs.Exclusions.{exclusions}
use Rattle.gb_prog.proofs.KeptOff.{kept_off}
use Rattle.gb_trans.specs.Effects.{effects_of, meets}
use Rattle.gb_trans.specs.Places.{At, statement_at}
use Rattle.gb_trans.specs.Swap.{unless_crossing}
use Rattle.gb_trans.specs.Transformed.{with_body}
use Rattle.gb_trans.proofs.Alike.{given_bind}
use Rattle.gb_trans.proofs.Apart.{naming, uncrossed, unmet_unnamed, unnamed_spared}
use Rattle.gb_trans.proofs.Known.{leave_spared}
use Rattle.gb_trans.proofs.Named.{EachNamed, named_append, named_weaken}
use Rattle.gb_trans.proofs.Placed.{place_given, placed, whole}
use Rattle.gb_trans.proofs.Shapes.{split_typed}
use Rattle.gb_trans.specs.Events.{ReadsAlone}
use Rattle.gb_trans.specs.Kill.{kill_row, killed, killed_at, may_go, read_behind, reads_of, unread}
use Rattle.gb_trans.proofs.Coupled.{coupled_chances, coupled_ends}
use Rattle.gb_trans.proofs.Killed.{killed_coupled}
use Rattle.gb_trans.proofs.Reading.{known_within}
use Rattle.gb_trans.proofs.Unread.{SameBut, others_of_left, others_of_own, others_of_right, same_said}

-- what is known where nothing that is written is read
record IsUnread (es : Exclusions) (r : Option (List Var)) (w : Option Effects) : Type 0 where
  read : List Var
  effects : Effects
  is_read : r ≡ Some read
  is_known : w ≡ Some effects
  unmet : least (filter (meets es read) effects.written) ≡ None

unread_given : (es : Exclusions) (r : Option (List Var)) (w : Option Effects) (u : Unit {0}) → unread es r w ≡ given u → IsUnread es r w
unread_given es None w u e = refused_given Shape u e
unread_given es (Some xs) None u e = refused_given Shape u e
unread_given es (Some xs) (Some a) u e = by_least (least (filter (meets es xs) a.written)) refl e
  where
    by_least : (x : Option Var) → least (filter (meets es xs) a.written) ≡ x → unless_crossing x ≡ given u → IsUnread es (Some xs) (Some a)
    by_least None d e = record { read = xs; effects = a; is_read = refl; is_known = refl; unmet = d }
    by_least (Some x) d e = cc

full_given : (l : Loss) (u : Unit {0}) → full l ≡ given u → l ≡ nowhere
full_given nowhere u e = refl
full_given (sampled x) u e = refused_given (NotLossless x) u e
full_given called u e = refused_given Shape u e

-- what is known of a body of which a statement may go
record IsKilled (ds : Declarations) (o : OneBody) (js : List Instr) : Type 0 where
  place : At
  was : whole place ≡ o.list
  becomes : place.before ++ place.rest ≡ js
  dead : IsUnread (exclusions ds) (read_behind ds place.rest o.side o.post) (effects_of ds (place.statement ∷ []))
  full : first_loss ds (place.statement ∷ []) ≡ nowhere

killed_given : (ds : Declarations) (n : ℕ) (o : OneBody) (js : List Instr) → killed ds n o ≡ given js → IsKilled ds o js
killed_given ds n o js e =
    let z = place_given (killed_at ds o) (statement_at n o.list) js e in
    let k = z.0 in
    let x = given_bind (may_go ds o k) (λ _. given (k.before ++ k.rest)) js z.2 in
    let y = given_bind (unread (exclusions ds) (read_behind ds k.rest o.side o.post) (effects_of ds (k.statement ∷ []))) (λ _. full (first_loss ds (k.statement ∷ []))) x.0 x.1 in
    record {
      place = k;
      was = placed n o.list k z.1;
      becomes = same_given (k.before ++ k.rest) js x.2;
      dead = unread_given (exclusions ds) (read_behind ds k.rest o.side o.post) (effects_of ds (k.statement ∷ [])) y.0 y.1;
      full = full_given (first_loss ds (k.statement ∷ [])) x.0 y.2;
    }

-- what is read by statements and a form behind them
read_parts : (o : Option (List Var)) (ys xs : List Var) → option_map (λ zs. zs ++ ys) o ≡ Some xs → (zs : List Var) × (o ≡ Some zs) × (zs ++ ys ≡ xs)
read_parts None ys xs e = absurd (none-some xs e)
read_parts (Some zs) ys xs e = (zs, refl, same_Some (zs ++ ys) xs e)

module _ (ds : Declarations) (scoped : IsTypedScope (declared ds)) (q : Sequent) (t : IsTypedSequent (context_of (declared ds)) q) where
  abbrev c : Context
  c = of_sequent (context_of (declared ds)) q t.frames

  typed : (p : ProcRef) (a : Proc) → procedure_of ds p ≡ Some a → IsProcedure c a
  typed p a e = (typed_there ds scoped q t.modules t.frames p a e).typed

  module _ (o : OneBody) (js : List Instr) (k : IsKilled ds o js) where
    abbrev K : At
    K = k.place

    -- a body without the statement
    kept_typed : (ls : List TypedName) → IsBody c ls o.list → IsBody c ls js
    kept_typed ls w =
        let x = split_typed c ls K.before (K.statement ∷ K.rest) (subst (EachStatement c ls) (sym k.was) w.statements) in
        record { locals = w.locals; statements = subst (EachStatement c ls) k.becomes (typed_append c ls K.before K.rest x.0 x.1.1) }

    kept_ends : (g : Setting) → Good g o.list → Good g js
    kept_ends g h =
        let x = (good_append g K.before (K.statement ∷ K.rest)).0 (subst (Good g) (sym k.was) h) in
        let y = (good_append g (K.statement ∷ []) K.rest).0 x.1 in
        subst (Good g) k.becomes ((good_append g K.before K.rest).1 (x.0, y.1))

    module _ (g : Setting) (fits : IsSettingOf c g) (over : IsSettingOver (declared ds) g) (ls : List TypedName) (w : IsBody c ls o.list) where
      dead : IsUnread (exclusions ds) (read_behind ds K.rest o.side o.post) (effects_of ds (K.statement ∷ []))
      dead = k.dead

      -- the places that the statement may write
      abbrev W : Key → Bool
      W = naming g.types (let x = dead in let y = x.effects in y.written)

      sound_was : IsSound g (statements g o.list)
      sound_was = body_sound c g fits ls o.list w.statements

      sound_kept : IsSound g (statements g js)
      sound_kept = let x = kept_typed ls w in body_sound c g fits ls js x.statements

      -- what is read behind it names none of them
      unnamed : EachNamed g.types (λ p. W p ≡ false) (variables_read o.side o.post) × (xs : List Var) × (reads_of ds K.rest ≡ Some xs) × EachNamed g.types (λ p. W p ≡ false) xs
      unnamed =
          let d = dead in
          let e = d.effects in
          let z = read_parts (reads_of ds K.rest) (variables_read o.side o.post) d.read d.is_read in
          let all = unmet_unnamed g (exclusions ds) (kept_off ds scoped g over) e.written d.read (uncrossed (exclusions ds) (record { written = e.written; touched = [] }) (record { written = []; touched = d.read }) d.unmet).0 in
          let parts = named_append g.types (λ p. W p ≡ false) z.0 (variables_read o.side o.post) (subst (EachNamed g.types (λ p. W p ≡ false)) (sym z.2) all) in
          (parts.1, z.0, z.1, parts.0)

      -- with it and without it the body ends alike, but at these places
      coupled : (s : State) (m : Memory) → Coupling (SameBut W) (run g s js m) (denominator g js) (run g s o.list m) (denominator g o.list)
      coupled s m =
          let d = dead in
          let e = d.effects in
          let u = unnamed in
          let x = split_typed c ls K.before (K.statement ∷ K.rest) (subst (EachStatement c ls) (sym k.was) w.statements) in
          subst (λ z. z) (λ i. Coupling (SameBut W) (run g s (k.becomes i) m) (denominator g (k.becomes i)) (run g s (k.was i) m) (denominator g (k.was i)))
          (killed_coupled g s W K.before (K.statement ∷ []) K.rest (body_sound c g fits ls K.before x.0) (body_sound c g fits ls (K.statement ∷ []) (x.1.0, tt)) (body_sound c g fits ls K.rest x.1.1)
          (λ p h. leave_spared g ds c typed (means_there ds scoped g over) (K.statement ∷ []) e d.is_known p (unnamed_spared g.types e.written p h))
          (known_within g ds c typed (means_there ds scoped g over) ls K.rest x.1.1 u.1 u.2 (λ p. W p ≡ false) u.3)
          (λ n. total_full ds scoped q t g fits over ls (K.statement ∷ []) (record { locals = w.locals; statements = (x.1.0, tt) }) k.full s n) m)

      positive_was : 0 < denominator g o.list
      positive_was = run_positive g (statements g o.list) sound_was

      positive_kept : 0 < denominator g js
      positive_kept = run_positive g (statements g js) sound_kept

      same_event : (s : State) (m : Memory) (event : Memory → Bool) → ReadsAlone g.types (variables_read o.side o.post) event →
          weight (run g s js m) event * denominator g o.list ≡ weight (run g s o.list m) event * denominator g js
      same_event s m event h =
          coupled_event (coupled s m) event event
          (λ x y e. h x y (named_weaken g.types (λ p. W p ≡ false) (λ p. get_at x p ≡ get_at y p) (λ p f. e p f) (variables_read o.side o.post) unnamed.0))

  -- what is given of a goal with this body
  given_goal : (n : ℕ) (o : OneBody) (G : Goal) → ((js : List Instr) → IsKilled ds o js → IsSoundOnLoops (declared ds) c (o.goal js o.pre o.post ∷ []) G) →
      (Gs : List Goal) → with_body (killed ds n) o ≡ given Gs → IsSoundOnLoops (declared ds) c Gs G
  given_goal n o G h Gs e =
      let z = given_bind (killed ds n o) (λ is. given (o.goal is o.pre o.post ∷ [])) Gs e in
      subst (λ Gs. IsSoundOnLoops (declared ds) c Gs G) (same_given (o.goal z.0 o.pre o.post ∷ []) Gs z.2) (h z.0 (killed_given ds n o z.0 z.1))

  module _ (n : ℕ) (ls rs : List TypedName) where
    of_hoare : (is : List Instr) (p f : Term) → IsGoalOver c ls rs (hoare (body is) p f) → (Gs : List Goal) → kill_row ds on.All n (hoare (body is) p f) ≡ given Gs →
        IsSoundOnLoops (declared ds) c Gs (hoare (body is) p f)
    of_hoare is p f w Gs e =
        let o : OneBody = record { side = side.Own; list = is; pre = p; post = f; goal = λ is p q. hoare (body is) p q } in
        given_goal n o (hoare (body is) p f) (λ js k. record {
          typed = ((ls, rs, (kept_typed o js k ls w.0, w.1, w.2)), tt);
          implies = λ g fits over h j fair s fit x m y.
              coupled_ends (SameBut (W o js k g fits over ls w.0)) (run g s js m) (denominator g js) (run g s is m) (denominator g is) (positive_kept o js k g fits over ls w.0) (positive_was o js k g fits over ls w.0)
              (coupled o js k g fits over ls w.0 s m) (λ m. den g j f (at s m))
              (λ a b e. same_said (with_own c (Some ls)) g (fits_reframed c g fits (Some ls) c.left c.right) j fair (W o js k g fits over ls w.0) side.Own tt (at s a) (at s b) refl refl (others_of_own s a b) e f w.2
              (unnamed o js k g fits over ls w.0).0) (run_entries g s (statements g is) (sound_was o js k g fits over ls w.0) m) (x.0 m y);
          ends = λ g over h. (kept_ends o js k g h, tt);
        }) Gs e

    of_phoare : (is : List Instr) (r : Rel) (p f b : Term) → IsGoalOver c ls rs (phoare (body is) r p f b) → (Gs : List Goal) → kill_row ds on.All n (phoare (body is) r p f b) ≡ given Gs →
        IsSoundOnLoops (declared ds) c Gs (phoare (body is) r p f b)
    of_phoare is r p f b w Gs e =
        let o : OneBody = record { side = side.Own; list = is; pre = p; post = f; goal = λ is p q. phoare (body is) r p q b } in
        given_goal n o (phoare (body is) r p f b) (λ js k. record {
          typed = ((ls, rs, (kept_typed o js k ls w.0, w.1, w.2, w.3, w.4)), tt);
          implies = λ g fits over h j fair s fit x m y.
              sym (coupled_chances (SameBut (W o js k g fits over ls w.0)) (run g s js m) (denominator g js) (run g s is m) (denominator g is) (positive_kept o js k g fits over ls w.0) (positive_was o js k g fits over ls w.0)
              (coupled o js k g fits over ls w.0 s m) (λ m. den g j f (at s m))
              (λ a b e. same_said (with_own c (Some ls)) g (fits_reframed c g fits (Some ls) c.left c.right) j fair (W o js k g fits over ls w.0) side.Own tt (at s a) (at s b) refl refl (others_of_own s a b) e f w.2
              (unnamed o js k g fits over ls w.0).0) r (fraction_in (val g (speaking g j) b s))) ∙ x.0 m y;
          ends = λ g over h. (kept_ends o js k g h, tt);
        }) Gs e

    of_left : (is js : List Instr) (p f : Term) → IsGoalOver c ls rs (equiv (body is) (body js) p f) → (Gs : List Goal) → kill_row ds on.Left n (equiv (body is) (body js) p f) ≡ given Gs →
        IsSoundOnLoops (declared ds) c Gs (equiv (body is) (body js) p f)
    of_left is js p f w Gs e =
        let o : OneBody = record { side = side.Left; list = is; pre = p; post = f; goal = λ is p q. equiv (body is) (body js) p q } in
        given_goal n o (equiv (body is) (body js) p f) (λ ks k. record {
          typed = ((ls, rs, (tt, kept_typed o ks k ls w.1, w.2, w.3, w.4)), tt);
          implies = λ g fits over h j fair s fit x m y z.
              runs_gluing g s (statements g is) (statements g ks) (statements g js) (sound_kept o ks k g fits over ls w.1) (λ a b. SameBut (W o ks k g fits over ls w.1) b a)
              (λ a b. IsTrueUnder g j f (between s a b)) (λ a b. IsTrueUnder g j f (between s a b))
              (λ a b d e u. sym (same_said (with_sides c (Some ls) (Some rs)) g (fits_reframed c g fits c.own (Some ls) (Some rs)) j fair (W o ks k g fits over ls w.1) side.Left tt (between s b d) (between s a d) refl refl
              (others_of_left s b a d) e f w.4 (unnamed o ks k g fits over ls w.1).0) ∙ u) m m y (coupling_symmetry (coupled o ks k g fits over ls w.1 s m)) (x.0 m y z);
          ends = λ g over h. ((kept_ends o ks k g h.0, h.1), tt);
        }) Gs e

    of_right : (is js : List Instr) (p f : Term) → IsGoalOver c ls rs (equiv (body is) (body js) p f) → (Gs : List Goal) → kill_row ds on.Right n (equiv (body is) (body js) p f) ≡ given Gs →
        IsSoundOnLoops (declared ds) c Gs (equiv (body is) (body js) p f)
    of_right is js p f w Gs e =
        let o : OneBody = record { side = side.Right; list = js; pre = p; post = f; goal = λ js p q. equiv (body is) (body js) p q } in
        given_goal n o (equiv (body is) (body js) p f) (λ ks k. record {
          typed = ((ls, rs, (tt, w.1, kept_typed o ks k rs w.2, w.3, w.4)), tt);
          implies = λ g fits over h j fair s fit x m y z.
              runs_gluing g s (statements g is) (statements g ks) (statements g js) (sound_kept o ks k g fits over rs w.2) (λ a b. IsTrueUnder g j f (between s a b))
              (SameBut (W o ks k g fits over rs w.2)) (λ a b. IsTrueUnder g j f (between s a b))
              (λ a b d u e. sym (same_said (with_sides c (Some ls) (Some rs)) g (fits_reframed c g fits c.own (Some ls) (Some rs)) j fair (W o ks k g fits over rs w.2) side.Right tt (between s a b) (between s a d) refl refl
              (others_of_right s b d a) e f w.4 (unnamed o ks k g fits over rs w.2).0) ∙ u) m y y (x.0 m y z) (coupled o ks k g fits over rs w.2 s y);
          ends = λ g over h. ((h.0, kept_ends o ks k g h.1), tt);
        }) Gs e

  pub kill_sound : (a : Acts) (n : ℕ) → IsSoundLoopRule (declared ds) c (kill_row ds a n) no_arguments
  kill_sound on.All n outer ls rs (hoare (body is) p f) w y Gs e = of_hoare n ls rs is p f w Gs e
  kill_sound on.All n outer ls rs (phoare (body is) r p f b) w y Gs e = of_phoare n ls rs is r p f b w Gs e
  kill_sound on.Left n outer ls rs (equiv (body is) (body js) p f) w y Gs e = of_left n ls rs is js p f w Gs e
  kill_sound on.Right n outer ls rs (equiv (body is) (body js) p f) w y Gs e = of_right n ls rs is js p f w Gs e
  kill_sound on.All n outer ls rs (equiv a b p f) w y Gs e = refused_given Shape Gs e
  kill_sound on.All n outer ls rs (hoare (procedure a) p f) w y Gs e = refused_given Shape Gs e
  kill_sound on.Left n outer ls rs (hoare a p f) w y Gs e = refused_given Shape Gs e
  kill_sound on.Right n outer ls rs (hoare a p f) w y Gs e = refused_given Shape Gs e
  kill_sound on.All n outer ls rs (phoare (procedure a) r p f b) w y Gs e = refused_given Shape Gs e
  kill_sound on.Left n outer ls rs (phoare a r p f b) w y Gs e = refused_given Shape Gs e
  kill_sound on.Right n outer ls rs (phoare a r p f b) w y Gs e = refused_given Shape Gs e
  kill_sound on.Left n outer ls rs (equiv (procedure a) b p f) w y Gs e = refused_given Shape Gs e
  kill_sound on.Right n outer ls rs (equiv (procedure a) b p f) w y Gs e = refused_given Shape Gs e
  kill_sound on.Left n outer ls rs (equiv (body is) (procedure b) p f) w y Gs e = refused_given Shape Gs e
  kill_sound on.Right n outer ls rs (equiv (body is) (procedure b) p f) w y Gs e = refused_given Shape Gs e
  kill_sound on.All n outer ls rs (ambient f) w y Gs e = refused_given Shape Gs e
  kill_sound on.Left n outer ls rs (ambient f) w y Gs e = refused_given Shape Gs e
  kill_sound on.Right n outer ls rs (ambient f) w y Gs e = refused_given Shape Gs e

-- The same events, with the statement and without it.
pub same_events : (ds : Declarations) → IsTypedScope (declared ds) → (q : Sequent) (t : IsTypedSequent (context_of (declared ds)) q) (g : Setting) →
    IsSettingOf (of_sequent (context_of (declared ds)) q t.frames) g → IsSettingOver (declared ds) g → (ls : List TypedName) (o : OneBody) →
    IsBody (of_sequent (context_of (declared ds)) q t.frames) ls o.list → (n : ℕ) (js : List Instr) → killed ds n o ≡ given js →
    (s : State) (m : Memory) (event : Memory → Bool) → ReadsAlone g.types (variables_read o.side o.post) event →
    weight (run g s js m) event * denominator g o.list ≡ weight (run g s o.list m) event * denominator g js
same_events ds scoped q t g fits over ls o w n js e s m event h = same_event ds scoped q t o js (killed_given ds n o js e) g fits over ls w s m event h
