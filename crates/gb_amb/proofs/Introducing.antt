-- Quantifiers that are taken into the context.
use Rattle.std.proofs.Common.{◌≡◌, ℕ, true, false, List, [], ◌∷◌, ◌++◌, length, map, Some, None, refl, ap, sym, ◌∙◌, subst, arith}
use Rattle.std.proofs.lemmas.List.{length-append, length-map}
use Rattle.gb_core.specs.declared.ty.Ty.{Ty}
use Rattle.gb_core.specs.declared.value.Value.{Value}
use Rattle.gb_terms.specs.declared.decl.TypedName.{TypedName}
use Rattle.gb_terms.specs.declared.op.Read.TheVariants.{Logical}
use Rattle.gb_terms.specs.declared.op.Side.TheVariants as side
use Rattle.gb_terms.specs.declared.term.Term.{Term, out-Term}
use Rattle.gb_terms.specs.declared.term.Head.TheVariants as head
use Rattle.gb_terms.specs.Make.{node}
use Rattle.gb_walk.specs.declared.change.Change.TheVariants.{OfBound, ToSide}
use Rattle.gb_walk.specs.Change.{term_changed}
use Rattle.gb_goal.specs.Goal.{judges_bodies}
use Rattle.gb_goal.specs.declared.sequent.Hyp.{Hyp}
use Rattle.gb_goal.specs.declared.sequent.Sequent.{Sequent}
use Rattle.gb_meaning.specs.Meanings.{truth}
use Rattle.gb_meaning.specs.Memory.{Memory}
use Rattle.gb_meaning.specs.Setting.Meaning.{finite}
use Rattle.gb_meaning.specs.State.{State, under}
use Rattle.gb_meaning.specs.State.Binding.{value as value_bound, memory as memory_bound}
use Rattle.gb_meaning.specs.Written.{type_of}
use Rattle.gb_meaning.specs.Judgments.{Judge, IsFair, IsTrueIn, den}
use Rattle.gb_meaning.specs.Values.{Types, has}
use Rattle.gb_meaning.proofs.Truths.{true_all, true_all_memory}
use Rattle.gb_meaning.specs.Declared.{Declarations}
use Rattle.gb_meaning.specs.Settings.{Interpretation, setting, types_of}
use Rattle.gb_meaning.specs.Truth.{has_module, Truth}
use Rattle.gb_meaning.specs.Holds.{AreValues, context, AreTrue, Holds}
use Rattle.gb_meaning.proofs.Fronts.{without_modules}
use Rattle.gb_meaning.proofs.SettingTypes.{setting-types}
use Rattle.gb_laws.specs.Finite.{IsFinite}
use Rattle.gb_laws.specs.Programs.{HaveFiniteTypes}
use Rattle.gb_laws.specs.Typing.Binder.{value, memory}
use Rattle.gb_typing.specs.Context.{Context, Frame, within}
use Rattle.gb_typing.specs.Typing.{IsForm}
use Rattle.gb_typing.specs.Fits.{IsSettingOf}
use Rattle.gb_typing.specs.Sequents.{with_modules, AreHypotheses, IsConclusion, of_sequent, IsTypedSequent}
use Rattle.gb_typing.specs.Scopes.{context_of, IsTypedScope}
use Rattle.gb_typing.proofs.Conclusions.{formula_form}
use Rattle.gb_typing.proofs.Made.{IsNode, parts_typed}
use Rattle.gb_typing.proofs.Models.{each_setting}
use Rattle.gb_goal.specs.Goal.Goal.{ambient}
use Rattle.gb_typing.proofs.TypedGoals.{goal_conclusion, goal_front, no_module as front_of}
use Rattle.gb_typing.proofs.Lifted.{InEachSequent, joined, sequent_outermost}
use Rattle.gb_amb.specs.Quantified.{quantifies_modules, goal_quantifies_modules}
use Rattle.gb_amb.specs.Introduced.{with_variable, with_memory}
use Rattle.gb_amb.specs.Steps.{LeadTo}
use Rattle.gb_amb.proofs.Around.{hypotheses_to}
use Rattle.gb_amb.proofs.Cases.{conclusion_formula}
use Rattle.gb_amb.proofs.Fronts.{first, none_in_front}
use Rattle.gb_amb.proofs.Wider.{More, more_variable, more_memory, small, large, wider, variable_typed, memory_typed, to_memory}
use Rattle.gb_amb.proofs.States.{memory_at, variable_agrees, variable_means, memory_agrees, memory_means}

form_conclusion : (c : Context) (f : Term) → IsForm c f → IsConclusion c f
form_conclusion c f w = goal_conclusion c [] [] (ambient f) w

-- Lists.

types_with : (xs : List TypedName) (x : TypedName) → map (λ y. y.ty) (xs ++ x ∷ []) ≡ map (λ y. y.ty) xs ++ x.ty ∷ []
types_with [] x = refl
types_with (y ∷ ys) x = ap (λ ts. y.ty ∷ ts) (types_with ys x)

frames_with : (fs : List (List TypedName)) (ls : List TypedName) → map (λ l. Some l) (fs ++ ls ∷ []) ≡ map (λ l. Some l) fs ++ Some ls ∷ []
frames_with [] ls = refl
frames_with (f ∷ fs) ls = ap (λ ns. Some f ∷ ns) (frames_with fs ls)

finite_with : (xs : List TypedName) (x : TypedName) → HaveFiniteTypes xs → IsFinite x.ty → HaveFiniteTypes (xs ++ x ∷ [])
finite_with [] x w f = (f, tt)
finite_with (y ∷ ys) x w f = (w.0, finite_with ys x w.1 f)

longer : {A B : Type 0} (xs : List A) (ys : List B) (a : A) (b : B) → length xs ≡ length ys → length (xs ++ a ∷ []) ≡ length (ys ++ b ∷ [])
longer xs ys a b e = omega (arith, e, length-append xs (a ∷ []), length-append ys (b ∷ []))

pub values_with : (T : Types) (us : List Ty) (vs : List Value) (u : Ty) (v : Value) → AreValues T us vs → has T u v ≡ true → AreValues T (us ++ u ∷ []) (vs ++ v ∷ [])
values_with T [] [] u v w h = (h, tt)
values_with T [] (x ∷ vs) u v w h = absurd w
values_with T (t ∷ us) [] u v w h = absurd w
values_with T (t ∷ us) (x ∷ vs) u v w h = (w.0, values_with T us vs u v w.1 h)

pub as_many : (T : Types) (us : List Ty) (vs : List Value) → AreValues T us vs → length vs ≡ length us
as_many T [] [] w = refl
as_many T [] (x ∷ vs) w = absurd w
as_many T (t ∷ us) [] w = absurd w
as_many T (t ∷ us) (x ∷ vs) w = let k = as_many T us vs w.1 in omega (arith, k)

module _ (ds : Declarations) (scope : IsTypedScope ds) (q : Sequent) (t : IsTypedSequent (context_of ds) q) (plain : goal_quantifies_modules q ≡ false) where
  abbrev c : Context
  c = of_sequent (context_of ds) q t.frames

  abbrev base : Context
  base = with_modules (context_of ds) q.modules

  abbrev us : List Ty
  us = map (λ x. x.ty) q.logical

  abbrev ns : List Frame
  ns = map (λ l. Some l) t.frames

  here : c ≡ small base us ns
  here = sequent_outermost ds q t.frames

  no_module : has_module q.conclusion ≡ false
  no_module = none_in_front q.conclusion (first (quantifies_modules q.conclusion) _ plain)

  conclusion_form : judges_bodies (out-Term q.conclusion).head ≡ false → IsForm c q.conclusion
  conclusion_form e = formula_form c q.conclusion (conclusion_formula c q.conclusion t.conclusion e) no_module

  -- a form of the goal is one of a wider goal
  to_wider : (vs : List Ty) (ms : List Frame) → More us vs ns ms → (f : Term) → IsForm c f → IsForm (large base us ns vs ms) f
  to_wider vs ms m f w = wider base us ns vs ms m f (subst (λ d. IsForm d f) here w)

  -- the hypotheses stay true in a state in which forms of the goal mean the same
  stay_true : (k : Interpretation) (s z : State) → ((f : Term) → IsForm c f → IsTrueIn (setting ds k) f s → IsTrueIn (setting ds k) f z) →
      (hs : List Hyp) → AreHypotheses c hs → AreTrue ds hs k s → AreTrue ds hs k z
  stay_true k s z m [] w h = tt
  stay_true k s z m (x ∷ hs) w h =
      let n = goal_front c [] [] (ambient x.form) w.0 in
      ((without_modules ds x.form k z n).1 (m x.form w.0 ((without_modules ds x.form k s n).0 h.0)), stay_true k s z m hs w.1 h.1)

  abbrev Says : Interpretation → Type 0
  Says k = (vs : List Value) → AreValues (types_of ds k) us vs → (ms : List Memory) → AreTrue ds q.hyps k (context vs ms) → Truth ds q.conclusion k (context vs ms)

  holds_by : (P : Interpretation → Type 0) → ((k : Interpretation) → IsSettingOf (small base us ns) (setting ds k) → P k → Says k) → InEachSequent ds q P → Holds ds q
  holds_by P f h =
      joined ds q (λ k. IsSettingOf c (setting ds k)) P Says (λ k fits p. f k (subst (λ d. IsSettingOf d (setting ds k)) here fits) p)
      (each_setting ds scope q t.modules t.frames) h

  -- A value.
  module _ (name : List ℕ) (u : Ty) (f : Term) (r : Ty) (is : q.conclusion ≡ node (head.All u) (f ∷ []) r) (e : judges_bodies (out-Term q.conclusion).head ≡ false) where
    abbrev one : Sequent
    one = with_variable q name u f

    whole : IsForm (small base us ns) (node (head.All u) (f ∷ []) r)
    whole = subst (λ d. IsForm d (node (head.All u) (f ∷ []) r)) here (subst (IsForm c) is (conclusion_form e))

    parts : IsNode (small base us ns) (head.All u) (type_of f ∷ []) (f ∷ []) r
    parts = parts_typed (small base us ns) (head.All u) (f ∷ []) r (let w = whole in w.typed)

    body : IsForm (within (small base us ns) (value u) None) f
    body = record { typed = parts.3; truth = parts.0.1.0 }

    abbrev place : Term
    place = node (head.Read (Logical (length us))) [] u

    moved : term_changed f (OfBound 0 place ∷ []) ≡ one.conclusion
    moved = ap (λ n. term_changed f (OfBound 0 (node (head.Read (Logical n)) [] u) ∷ [])) (length-map q.logical (λ x. x.ty))

    context_one : large base us ns (us ++ u ∷ []) ns ≡ of_sequent (context_of ds) one t.frames
    context_one =
        ap (λ ts. large base us ns ts ns) (sym (types_with q.logical (record { name = name; ty = u })))
        ∙ sym (sequent_outermost ds one t.frames)

    form_one : IsForm (large base us ns (us ++ u ∷ []) ns) one.conclusion
    form_one = subst (IsForm (large base us ns (us ++ u ∷ []) ns)) moved (variable_typed base us ns u parts.0.0 f body)

    typed_one : IsTypedSequent (context_of ds) one
    typed_one = record {
      modules = t.modules;
      logical = finite_with q.logical (record { name = name; ty = u }) t.logical parts.0.0;
      frames = t.frames;
      memories = t.memories;
      hyps = subst (λ d. AreHypotheses d q.hyps) context_one (hypotheses_to c (large base us ns (us ++ u ∷ []) ns) (to_wider (us ++ u ∷ []) ns (more_variable us ns u)) q.hyps t.hyps);
      conclusion = subst (λ d. IsConclusion d one.conclusion) context_one (form_conclusion (large base us ns (us ++ u ∷ []) ns) one.conclusion form_one);
    }

    abbrev SaysOne : Interpretation → Type 0
    SaysOne k = (vs : List Value) → AreValues (types_of ds k) (map (λ x. x.ty) one.logical) vs → (ms : List Memory) → AreTrue ds q.hyps k (context vs ms) → Truth ds one.conclusion k (context vs ms)

    module _ (k : Interpretation) (fits : IsSettingOf (small base us ns) (setting ds k)) (h : SaysOne k) (vs : List Value) (w : AreValues (types_of ds k) us vs)
        (ms : List Memory) (a : AreTrue ds q.hyps k (context vs ms)) (j : Judge) (fair : IsFair (setting ds k) j) (v : Value) (held : has (setting ds k).types u v ≡ true) where
      many : length vs ≡ length us
      many = as_many (types_of ds k) us vs w

      values_one : AreValues (types_of ds k) (map (λ x. x.ty) one.logical) (vs ++ v ∷ [])
      values_one =
          subst (λ ts. AreValues (types_of ds k) ts (vs ++ v ∷ [])) (sym (types_with q.logical (record { name = name; ty = u })))
          (values_with (types_of ds k) us vs u v w (subst (λ T. has T u v ≡ true) (setting-types ds k) held))

      hyps_one : AreTrue ds q.hyps k (context (vs ++ v ∷ []) ms)
      hyps_one =
          stay_true k (context vs ms) (context (vs ++ v ∷ []) ms)
          (λ f z h i good. sym (ap truth (variable_agrees base us ns (setting ds k) fits i good u vs many v ms f (subst (λ d. IsForm d f) here z))) ∙ h i good)
          q.hyps t.hyps a

      body_true : den (setting ds k) j f (under (context vs ms) (value_bound (finite v))) ≡ true
      body_true =
          sym (ap truth (variable_means base us ns (setting ds k) fits j fair u vs many v ms f body))
          ∙ ap (λ z. den (setting ds k) j z (context (vs ++ v ∷ []) ms)) moved
          ∙ (without_modules ds one.conclusion k (context (vs ++ v ∷ []) ms) (front_of _ one.conclusion (let w = form_one in w.typed))).0 (h (vs ++ v ∷ []) values_one ms hyps_one) j fair

    truth_one : (k : Interpretation) → IsSettingOf (small base us ns) (setting ds k) → SaysOne k → Says k
    truth_one k fits h vs w ms a =
        (without_modules ds q.conclusion k (context vs ms) no_module).1
        (subst (λ z. IsTrueIn (setting ds k) z (context vs ms)) (sym is)
        (λ j fair. subst (λ r. den (setting ds k) j (node (head.All u) (f ∷ []) r) (context vs ms) ≡ true) (sym parts.0.1.1.0)
        ((true_all (setting ds k) j u f (context vs ms)).1 (body_true k fits h vs w ms a j fair))))

    pub value_leads : LeadTo ds q (one ∷ [])
    value_leads = record { typed = (typed_one, tt); leads = λ h. holds_by SaysOne truth_one h.0 }

  -- A memory.
  module _ (name : List ℕ) (f : Term) (r : Ty) (is : q.conclusion ≡ node head.AllMemory (f ∷ []) r) (e : judges_bodies (out-Term q.conclusion).head ≡ false) where
    abbrev other : Sequent
    other = with_memory q name f

    every_one : IsForm (small base us ns) (node head.AllMemory (f ∷ []) r)
    every_one = subst (λ d. IsForm d (node head.AllMemory (f ∷ []) r)) here (subst (IsForm c) is (conclusion_form e))

    split : IsNode (small base us ns) head.AllMemory (type_of f ∷ []) (f ∷ []) r
    split = parts_typed (small base us ns) head.AllMemory (f ∷ []) r (let w = every_one in w.typed)

    abbrev ls : List TypedName
    ls = split.2

    inner : IsForm (within (small base us ns) memory (Some ls)) f
    inner = record { typed = split.3; truth = split.0.0 }

    named : term_changed f (to_memory base us ns ls) ≡ other.conclusion
    named = ap (λ n. term_changed f (ToSide (side.Bound 0) (side.Memory n) ∷ [])) (length-map t.frames (λ l. Some l) ∙ t.memories)

    context_other : large base us ns us (ns ++ Some ls ∷ []) ≡ of_sequent (context_of ds) other (t.frames ++ ls ∷ [])
    context_other = ap (λ ms. large base us ns us ms) (sym (frames_with t.frames ls)) ∙ sym (sequent_outermost ds other (t.frames ++ ls ∷ []))

    form_other : IsForm (large base us ns us (ns ++ Some ls ∷ [])) other.conclusion
    form_other = subst (IsForm (large base us ns us (ns ++ Some ls ∷ []))) named (memory_typed base us ns ls f inner)

    typed_other : IsTypedSequent (context_of ds) other
    typed_other = record {
      modules = t.modules;
      logical = t.logical;
      frames = t.frames ++ ls ∷ [];
      memories = longer t.frames q.memories ls name t.memories;
      hyps = subst (λ d. AreHypotheses d q.hyps) context_other (hypotheses_to c (large base us ns us (ns ++ Some ls ∷ [])) (to_wider us (ns ++ Some ls ∷ []) (more_memory us ns (Some ls))) q.hyps t.hyps);
      conclusion = subst (λ d. IsConclusion d other.conclusion) context_other (form_conclusion (large base us ns us (ns ++ Some ls ∷ [])) other.conclusion form_other);
    }

    abbrev SaysOther : Interpretation → Type 0
    SaysOther k = (vs : List Value) → AreValues (types_of ds k) us vs → (ms : List Memory) → AreTrue ds q.hyps k (context vs ms) → Truth ds other.conclusion k (context vs ms)

    module _ (k : Interpretation) (fits : IsSettingOf (small base us ns) (setting ds k)) (h : SaysOther k) (vs : List Value) (w : AreValues (types_of ds k) us vs)
        (ms : List Memory) (a : AreTrue ds q.hyps k (context vs ms)) (j : Judge) (fair : IsFair (setting ds k) j) (m : Memory) where
      abbrev longer_ms : List Memory
      longer_ms = memory_at (length ns) m ms

      hyps_other : AreTrue ds q.hyps k (context vs longer_ms)
      hyps_other =
          stay_true k (context vs ms) (context vs longer_ms)
          (λ f z h i good. sym (ap truth (memory_agrees base us ns (setting ds k) fits i good vs ms m f (subst (λ d. IsForm d f) here z))) ∙ h i good)
          q.hyps t.hyps a

      inner_true : den (setting ds k) j f (under (context vs ms) (memory_bound m)) ≡ true
      inner_true =
          sym (ap truth (memory_means base us ns (setting ds k) fits j fair vs ms m ls f inner))
          ∙ ap (λ z. den (setting ds k) j z (context vs longer_ms)) named
          ∙ (without_modules ds other.conclusion k (context vs longer_ms) (front_of _ other.conclusion (let w = form_other in w.typed))).0 (h vs w longer_ms hyps_other) j fair

    truth_other : (k : Interpretation) → IsSettingOf (small base us ns) (setting ds k) → SaysOther k → Says k
    truth_other k fits h vs w ms a =
        (without_modules ds q.conclusion k (context vs ms) no_module).1
        (subst (λ z. IsTrueIn (setting ds k) z (context vs ms)) (sym is)
        (λ j fair. subst (λ r. den (setting ds k) j (node head.AllMemory (f ∷ []) r) (context vs ms) ≡ true) (sym split.0.1.0)
        ((true_all_memory (setting ds k) j fair f (context vs ms)).1 (inner_true k fits h vs w ms a j fair))))

    pub memory_leads : LeadTo ds q (other ∷ [])
    memory_leads = record { typed = (typed_other, tt); leads = λ h. holds_by SaysOther truth_other h.0 }
