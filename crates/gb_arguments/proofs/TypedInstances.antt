-- What a statement says of modules is typed.
use Rattle.std.proofs.Common.{◌≡◌, ℕ, zero, suc, Bool, true, false, List, [], ◌∷◌, map, Some, refl, ap, sym, ◌∙◌, subst}
use Rattle.std.specs.Option.{option_map}
use Rattle.std.proofs.lemmas.Bool.{false≢true}
use Rattle.std.proofs.lemmas.List.{length-map}
use Rattle.std.proofs.lemmas.Option.{none-some}
use Rattle.gb_core.specs.declared.ty.Ty.{Ty}
use Rattle.gb_terms.specs.declared.decl.Param.{Param}
use Rattle.gb_terms.specs.declared.decl.TypedName.{TypedName}
use Rattle.gb_terms.specs.declared.module.Mexp.{Mexp}
use Rattle.gb_terms.specs.declared.op.Op.TheVariants.{Implies}
use Rattle.gb_terms.specs.declared.term.Head.TheVariants as head
use Rattle.gb_terms.specs.declared.term.Head.TheVariants.{Body'}
use Rattle.gb_terms.specs.declared.term.Term.{Term, Term', end_of-Head, more_of-Head}
use Rattle.gb_goal.specs.Scope as scope
use Rattle.gb_goal.specs.declared.sequent.Hyp.{Hyp}
use Rattle.gb_goal.specs.declared.sequent.Sequent.{Sequent}
use Rattle.gb_meaning.specs.Declared.{declared}
use Rattle.gb_meaning.specs.Names.{Name}
use Rattle.gb_meaning.specs.Truth.{Choice, has_module, last_has_module}
use Rattle.gb_laws.specs.Operators.{item}
use Rattle.gb_laws.specs.Programs.{HaveFiniteTypes}
use Rattle.gb_typing.specs.Context.{Context, Frame}
use Rattle.gb_typing.specs.Rules.{outermost}
use Rattle.gb_typing.specs.Scopes.{context_of}
use Rattle.gb_typing.specs.Sequents.{AreHypotheses, IsConclusion, IsTypedSequent, of_sequent, with_modules}
use Rattle.gb_typing.specs.Typing.{IsForm}
use Rattle.gb_typing.proofs.Lifted.{sequent_outermost}
use Rattle.gb_arguments.specs.Led.{IsLed, led, led_binder, led_frame, led_name}
use Rattle.gb_instances.specs.Put.{name_put, put}
use Rattle.gb_arguments.proofs.Facts.{judged_form}
use Rattle.gb_arguments.proofs.LedEquations.{put_typed}
use Rattle.gb_arguments.proofs.LedTypes.{finite_led, truth_led}
use Rattle.gb_arguments.specs.Facts.{IsAboutModules}
use Rattle.gb_instances.specs.Instance.{GivenModule, logical_put, modules_of, params_of, put_in_statement}
use Rattle.gb_arguments.specs.LedScopes.{IsLedScope, StatementMayStand, context_put}
use Rattle.gb_arguments.proofs.Bare.{bare_put}

second : (A B : Type 0) (b : Bool) → b ≡ false → B → Choice b A B
second A B true e w = absurd (false≢true (sym e))
second A B false e w = w

-- a form is a conclusion
form_conclusion : (c : Context) (f : Term) → IsForm c f → has_module f ≡ false → IsConclusion c f
form_conclusion c (Term' p (more_of-Head (head.Hoare (Body' k is)) end_of-Head) n ts t) w e = absurd w.typed.1
form_conclusion c (Term' p (more_of-Head (head.Phoare (Body' k is) r) end_of-Head) n ts t) w e = absurd w.typed.1
form_conclusion c (Term' p (more_of-Head (head.Equiv (Body' k is) (Body' l js)) end_of-Head) n ts t) w e = absurd w.typed.1.0
form_conclusion c (Term' p (more_of-Head (head.AllModule b) end_of-Head) n ts t) w e = absurd w.typed.1
form_conclusion c (Term' p (more_of-Head (head.All u) end_of-Head) n ts t) w e = second _ _ (last_has_module ts) e w
form_conclusion c (Term' p (more_of-Head head.AllMemory end_of-Head) n ts t) w e = second _ _ (last_has_module ts) e w
form_conclusion c (Term' p (more_of-Head (head.Builtin Implies) end_of-Head) n ts t) w e = second _ _ (last_has_module ts) e w
form_conclusion c f w e = w

module _ (ps : List Param) (es : List Mexp) where
  item_put : (xs : List TypedName) (i : ℕ) (t : Ty) → item (map (λ x. x.ty) xs) i ≡ Some t → item (map (λ x. x.ty) (map (logical_put ps es) xs)) i ≡ Some (led ps es t)
  item_put [] i t e = absurd (none-some t e)
  item_put (x ∷ xs) zero t e = ap (option_map (led ps es)) e
  item_put (x ∷ xs) (suc i) t e = item_put xs i t e

  frames_put : (fs : List (List TypedName)) → ◌≡◌ {A = List Frame} (map Some (map (map (led_name ps es)) fs)) (map (led_frame ps es) (map Some fs))
  frames_put [] = refl
  frames_put (f ∷ fs) = ap (λ (z : List Frame). Some (map (led_name ps es) f) ∷ z) (frames_put fs)

  logical_finite : (xs : List TypedName) → HaveFiniteTypes xs → HaveFiniteTypes (map (logical_put ps es) xs)
  logical_finite [] w = tt
  logical_finite (x ∷ xs) w = (finite_led (name_put ps es) x.ty w.0, logical_finite xs w.1)

no_hypotheses : (c : Context) (hs : List Hyp) → hs ≡ [] → AreHypotheses c hs
no_hypotheses c hs e = subst (AreHypotheses c) (sym e) tt

module _ (ds all : scope.Declarations) (q : Sequent) (typed : IsTypedSequent (context_of (declared ds)) q) (about : IsAboutModules q) (ks : List GivenModule) where
  abbrev ps : List Param
  ps = params_of q.modules

  abbrev ms : List Mexp
  ms = modules_of ks

  abbrev its : Sequent
  its = put_in_statement all ps ms q

  abbrev d : Context
  d = of_sequent (context_of (declared ds)) q typed.frames

  abbrev e : Context
  e = context_put ds all q typed ks

  abbrev W : Name → Type 0
  W a = (context_of (declared all)).has_globals (name_put ps ms a) ≡ true

  outer_d : d ≡ outermost d
  outer_d = sequent_outermost (declared ds) q typed.frames

  outer_e : e ≡ outermost e
  outer_e = sequent_outermost (declared all) its (map (map (led_name ps ms)) typed.frames)

  leads : IsLedScope ps ms (with_modules (context_of (declared ds)) q.modules) (context_of (declared all)) → IsLed ps ms W d e
  leads l = record {
    logical = λ i t k. item_put ps ms q.logical i t k;
    global = l.global;
    operator = l.operator;
    procedure = l.procedure;
    whole = λ a w. w;
    own = ap (λ (c : Context). c.own) outer_e ∙ sym (ap (λ (c : Context). led_frame ps ms c.own) outer_d);
    left = ap (λ (c : Context). c.left) outer_e ∙ sym (ap (λ (c : Context). led_frame ps ms c.left) outer_d);
    right = ap (λ (c : Context). c.right) outer_e ∙ sym (ap (λ (c : Context). led_frame ps ms c.right) outer_d);
    named = frames_put ps ms typed.frames;
    bound = ap (λ (c : Context). c.bound) outer_e ∙ sym (ap (λ (c : Context). map (led_binder ps ms) c.bound) outer_d);
    frames = ap (λ (c : Context). c.frames) outer_e ∙ sym (ap (λ (c : Context). map (led_frame ps ms) c.frames) outer_d);
  }

  -- what the statement says of the modules is typed
  pub instance_typed : IsLedScope ps ms (with_modules (context_of (declared ds)) q.modules) (context_of (declared all)) → StatementMayStand ds all q typed ks → IsTypedSequent (context_of (declared all)) its
  instance_typed l m =
      let form = judged_form d q.conclusion typed.conclusion about.bodies about.front in
      let x = put_typed all ps ms W d e (leads l) q.conclusion form.typed m in
      record {
        modules = tt;
        logical = logical_finite ps ms q.logical typed.logical;
        frames = map (map (led_name ps ms)) typed.frames;
        memories = length-map typed.frames (map (led_name ps ms)) ∙ typed.memories;
        hyps = no_hypotheses e q.hyps about.hyps;
        conclusion = form_conclusion e (put all ps ms q.conclusion) (record { typed = x.0; truth = x.1 ∙ truth_led (name_put ps ms) _ form.truth })
            (bare_put all ps ms q.conclusion about.front about.bodies).0;
      }
