-- A goal is true where each of its leaves holds.
use Rattle.std.proofs.Common.{◌≡◌, Bool, true, false, if◌then◌else◌, List, [], ◌∷◌, ◌++◌, map, length, refl, sym, subst}
use Rattle.std.specs.List.{All, AllByRecursion, flat_map}
use Rattle.std.proofs.lemmas.Bool.{false≢true}
use Rattle.gb_core.specs.declared.ty.Ty.{Ty}
use Rattle.gb_core.specs.declared.value.Value.{Value}
use Rattle.gb_terms.specs.declared.op.Op.TheVariants as op
use Rattle.gb_terms.specs.declared.module.Bind.{Bind}
use Rattle.gb_terms.specs.declared.term.Term.{Term, Term', Row_of-Term, end_of-Term, more_of-Term, end_of-Head, more_of-Head}
use Rattle.gb_terms.specs.declared.term.Head.TheVariants as head
use Rattle.gb_walk.specs.Change.{term_changed}
use Rattle.gb_goal.specs.declared.sequent.Hyp.{Hyp}
use Rattle.gb_goal.specs.declared.sequent.Sequent.{Sequent}
use Rattle.gb_meaning.specs.Values.{has}
use Rattle.gb_meaning.specs.Memory.{Memory}
use Rattle.gb_meaning.specs.Setting.{Setting}
use Rattle.gb_meaning.specs.Setting.Meaning.{finite}
use Rattle.gb_meaning.specs.State.{State, under}
use Rattle.gb_meaning.specs.State.Binding.{value, memory}
use Rattle.gb_meaning.specs.Terms.{Speaks}
use Rattle.gb_meaning.specs.Judgments.{Judge, speaking, IsFair}
use Rattle.gb_laws.proofs.Exact.{trying}
use Rattle.gb_laws.proofs.Fair.{is_fair}
use Rattle.gb_meaning.specs.Declared.{Declarations}
use Rattle.gb_meaning.specs.Settings.{Interpretation, with_program, types_of, setting}
use Rattle.gb_meaning.specs.Truth.{Choice, has_module, last_has_module, IsFirstTrue, Truth, TruthOfLast}
use Rattle.gb_meaning.specs.Holds.{EachProgram, AreValues, AreTrue, context, Holds, declared_modules, interpretation}
use Rattle.gb_meaning.proofs.Fronts.{without_modules}
use Rattle.gb_meaning.proofs.SettingTypes.{setting-types}
use Rattle.gb_typing.proofs.Lifted.{InEachSequent, each, joined}
use Rattle.gb_goal.specs.Scope as scope
use Rattle.gb_eval.specs.Eval.{operators_of}
use Rattle.gb_eval.specs.Meant.{AreOperators}
use Rattle.gb_eval.proofs.Environments.{of_is}
use Rattle.gb_eval.proofs.Operated.{operators_sound}
use Rattle.gb_smt.specs.declared.leaves.Leaf.{Leaf}
use Rattle.gb_smt.specs.Leaves as leaves
use Rattle.gb_smt.specs.Leaves.{whole, with_variable, with_memory, assumed, assumed_of, split, context_of, hyps_with, speaks_of_programs, leaves_of}
use Rattle.gb_smt.specs.Meant.{IsRight}
use Rattle.gb_smt_laws.specs.Reading.{Variables, AreHeld, Reading, no_variables, inner}
use Rattle.gb_smt_laws.specs.Fits.{Fits, AllFit, OnlyFits}
use Rattle.gb_smt_laws.specs.Closing.{IsAssumed, AreAssumed, LeafHolds}
use Rattle.gb_smt_laws.specs.Ready.{UsedFit, SmtIsReady, reading_of}
use Rattle.gb_smt_laws.proofs.Used.{each_together}
use Rattle.gb_smt_laws.proofs.Modules.{not_simple, module_whole}
use Rattle.gb_smt_laws.proofs.Premises.{whole_assumed, form_assumed}
use Rattle.gb_smt_laws.proofs.Later.{Later, reading_with, reading_at, state_with, state_at}
use Rattle.gb_smt_laws.proofs.Split.{IsContext, context_with_variable, context_with_memory, context_with_premise, leaf_true, unsplit, split_true}
use mathlib.Core.Former.{Count}
use Rattle.gb_smt_laws.proofs.Right.{fair_is_right}
use Rattle.gb_smt_laws.proofs.Start.{start_valid, start_opens, start_keeps}

-- each of the forms is true
abbrev pub AreTrueForms : Declarations → List Term → Interpretation → State → Type 0
AreTrueForms ds fs k s = AllByRecursion (λ f. Truth ds f k s) fs

chosen : (b : Bool) (A B : Type 0) → b ≡ true → A → Choice b A B
chosen true A B e a = a
chosen false A B e a = absurd (false≢true e)

module _ (ds : Declarations) (k : Interpretation) where
  abbrev g : Setting
  g = setting ds k

  module _ (i : Judge) (fair : IsFair g i) where
    abbrev j : Speaks
    j = speaking g i

    right : IsRight g j
    right = fair_is_right g i fair

    abbrev Hold : List Leaf → Type 0
    Hold ls = AllByRecursion (LeafHolds g j) ls

    -- a conclusion with a quantifier over modules in front: a leaf of it holds by a contradiction alone
    mutual
      split_modules : (t : Term) → has_module t ≡ true → (c : _) (hs : List Term) → Hold (split t c hs) → (T W : Reading) (s q : State) → Fits g T t → IsContext g j c.logical c.memories c.changes T W s q hs →
          Truth ds t k q
      split_modules (Term' p (more_of-Head (head.All u) end_of-Head) n ts ty) m c hs a T W s q w x =
          let t : Term = Term' p (more_of-Head (head.All u) end_of-Head) n ts ty in
          chosen (last_has_module ts) _ _ m
          (modules_of_all ts m u t c hs a T W s q w x (λ b. not_simple t m (leaf_true g j right c.logical c.memories c.changes T W s q hs x t w b.0).0))
      split_modules (Term' p (more_of-Head head.AllMemory end_of-Head) n ts ty) m c hs a T W s q w x =
          let t : Term = Term' p (more_of-Head head.AllMemory end_of-Head) n ts ty in
          chosen (last_has_module ts) _ _ m
          (modules_of_memory ts m t c hs a T W s q w.0 w.1 w.2 x (λ b. not_simple t m (leaf_true g j right c.logical c.memories c.changes T W s q hs x t w b.0).0))
      split_modules (Term' p (more_of-Head (head.Builtin op.Implies) end_of-Head) n ts ty) m c hs a T W s q w x =
          let t : Term = Term' p (more_of-Head (head.Builtin op.Implies) end_of-Head) n ts ty in
          chosen (last_has_module ts) _ _ m
          (modules_of_premise ts m t c hs a T W s q w.1 x (λ b. not_simple t m (leaf_true g j right c.logical c.memories c.changes T W s q hs x t w b.0).0))
      split_modules (Term' p (more_of-Head (head.Builtin op.And) end_of-Head) n ts ty) m c hs a T W s q w x = absurd (false≢true m)
      split_modules (Term' p (more_of-Head h end_of-Head) n ts ty) m c hs a T W s q w x =
          let t : Term = Term' p (more_of-Head h end_of-Head) n ts ty in
          absurd (not_simple t m (leaf_true g j right c.logical c.memories c.changes T W s q hs x t w (subst Hold (unsplit h (leaves.parts ts) t c hs refl) a).0).0)

      modules_of_all : {n : Count} (ts : Row_of-Term n) → last_has_module ts ≡ true → (u : Ty) (t : Term) (c : _) (hs : List Term) → Hold (leaves.split_by (head.All u) (leaves.parts ts) t c hs) →
          (T W : Reading) (s q : State) → OnlyFits g (inner no_variables T) ts → IsContext g j c.logical c.memories c.changes T W s q hs → (Hold (whole t c hs) → ⊥) →
          (v : Value) → has g.types u v ≡ true → TruthOfLast ds ts k (under q (value (finite v)))
      modules_of_all end_of-Term m u t c hs a T W s q w x f = absurd (false≢true m)
      modules_of_all (more_of-Term y end_of-Term) m u t c hs a T W s q w x f = λ v h.
          split_modules y m (with_variable c u) hs a (inner no_variables T) (reading_with c.logical u W) (state_with c.logical (finite v) s) (under q (value (finite v))) w
          (context_with_variable g j c.logical c.memories c.changes T W s q hs x u v h)
      modules_of_all (more_of-Term y (more_of-Term z end_of-Term)) m u t c hs a T W s q w x f = absurd (f a)
      modules_of_all (more_of-Term y (more_of-Term z (more_of-Term o ts))) m u t c hs a T W s q w x f = absurd (f a)

      modules_of_memory : {n : Count} (ts : Row_of-Term n) → last_has_module ts ≡ true → (t : Term) (c : _) (hs : List Term) → Hold (leaves.split_by head.AllMemory (leaves.parts ts) t c hs) →
          (T W : Reading) (s q : State) → (v : Variables) → AreHeld g v → OnlyFits g (inner v T) ts → IsContext g j c.logical c.memories c.changes T W s q hs → (Hold (whole t c hs) → ⊥) →
          (d : Memory) → TruthOfLast ds ts k (under q (memory d))
      modules_of_memory end_of-Term m t c hs a T W s q v h w x f = absurd (false≢true m)
      modules_of_memory (more_of-Term y end_of-Term) m t c hs a T W s q v h w x f = λ d.
          split_modules y m (with_memory c) hs a (inner v T) (reading_at c.memories v W) (state_at c.memories d s) (under q (memory d)) w
          (context_with_memory g j c.logical c.memories c.changes T W s q hs x v h d)
      modules_of_memory (more_of-Term y (more_of-Term z end_of-Term)) m t c hs a T W s q v h w x f = absurd (f a)
      modules_of_memory (more_of-Term y (more_of-Term z (more_of-Term o ts))) m t c hs a T W s q v h w x f = absurd (f a)

      modules_of_premise : {n : Count} (ts : Row_of-Term n) → last_has_module ts ≡ true → (t : Term) (c : _) (hs : List Term) → Hold (leaves.split_by (head.Builtin op.Implies) (leaves.parts ts) t c hs) →
          (T W : Reading) (s q : State) → AllFit g T ts → IsContext g j c.logical c.memories c.changes T W s q hs → (Hold (whole t c hs) → ⊥) →
          IsFirstTrue ds ts k q → TruthOfLast ds ts k q
      modules_of_premise end_of-Term m t c hs a T W s q w x f = absurd (false≢true m)
      modules_of_premise (more_of-Term y end_of-Term) m t c hs a T W s q w x f = absurd (f a)
      modules_of_premise (more_of-Term y (more_of-Term z end_of-Term)) m t c hs a T W s q w x f = λ e.
          split_modules z m c (hs ++ assumed (term_changed y c.changes)) a T W s q w.1.0 (context_with_premise g j right c.logical c.memories c.changes T W s q hs x y w.0 (e i fair))
      modules_of_premise (more_of-Term y (more_of-Term z (more_of-Term o ts))) m t c hs a T W s q w x f = absurd (f a)

  module _ (es : scope.Declarations) (known : List Term) (q : Sequent) (ready : SmtIsReady es g known q) (vs : List Value) (typed : AreValues (types_of ds k) (map (λ x. x.ty) q.logical) vs) (ms : List Memory) where
    abbrev T : Reading
    T = reading_of q ready.variables

    abbrev s : State
    s = context vs ms

    module _ (i : Judge) (fair : IsFair g i) where
      abbrev speaks : Speaks
      speaks = speaking g i

      right_here : IsRight g speaks
      right_here = fair_is_right g i fair

      module _ (V : Reading) (z : State) (l : Later (length q.logical) (length q.memories) T s V z) where
        form_true : (f : Term) → Fits g T f → Truth ds f k s → AreAssumed g speaks V z (assumed f)
        form_true f w t = by_front (has_module f) refl
          where
            by_front : (b : Bool) → has_module f ≡ b → AreAssumed g speaks V z (assumed f)
            by_front false m = form_assumed g speaks right_here T V s z (start_keeps g q ready.variables vs ms V z l) f w ((without_modules ds f k s m).0 t i fair)
            by_front true m = whole_assumed g speaks right_here V z f (module_whole f m) (λ b. absurd (not_simple f m b))

        hyp_assumed : (h : Hyp) → (speaks_of_programs h.form ≡ false → Fits g T h.form) → Truth ds h.form k s → AreAssumed g speaks V z (assumed_of h)
        hyp_assumed h w t = step (speaks_of_programs h.form) refl
          where
            step : (b : Bool) → speaks_of_programs h.form ≡ b → AreAssumed g speaks V z (if b then [] else assumed h.form)
            step true e = tt
            step false e = form_true h.form (w e) t

        hyps_assumed : (hs : List Hyp) → UsedFit g T hs → AreTrue ds hs k s → AreAssumed g speaks V z (flat_map assumed_of hs)
        hyps_assumed [] w t = tt
        hyps_assumed (h ∷ hs) w t = each_together (IsAssumed g speaks V z) (assumed_of h) (flat_map assumed_of hs) (hyp_assumed h w.0 t.0) (hyps_assumed hs w.1 t.1)

        known_assumed : (fs : List Term) → AllByRecursion (Fits g T) fs → AreTrueForms ds fs k s → AreAssumed g speaks V z (flat_map assumed fs)
        known_assumed [] w t = tt
        known_assumed (f ∷ fs) w t = each_together (IsAssumed g speaks V z) (assumed f) (flat_map assumed fs) (form_true f w.0 t.0) (known_assumed fs w.1 t.1)

      start_context : AreTrue ds q.hyps k s → AreTrueForms ds known k s → IsContext g speaks (length q.logical) (length q.memories) [] T T s s (hyps_with known q)
      start_context t u = record {
        opens = start_opens g q ready.variables vs ms;
        outside = refl;
        valid = start_valid g q ready.variables vs ms ready.held (subst (λ ts. AreValues ts (map (λ x. x.ty) q.logical) vs) (sym (setting-types ds k)) typed);
        assumed = λ V z l. each_together (IsAssumed g speaks V z) (flat_map assumed_of q.hyps) (flat_map assumed known) (hyps_assumed V z l q.hyps ready.hyps t) (known_assumed V z l known ready.known_forms u);
      }

    pub conclusion_true : ((j : Judge) → IsFair g j → AllByRecursion (LeafHolds g (speaking g j)) (leaves_of known q)) → AreTrue ds q.hyps k s → AreTrueForms ds known k s → Truth ds q.conclusion k s
    conclusion_true held t u = step (has_module q.conclusion) refl
      where
        step : (b : Bool) → has_module q.conclusion ≡ b → Truth ds q.conclusion k s
        step false m =
            (without_modules ds q.conclusion k s m).1
            (λ i fair. split_true g i fair q.conclusion (context_of q) (hyps_with known q) (held i fair) T T s s ready.conclusion (start_context i fair t u))
        step true m =
            let i : Judge = trying g in
            split_modules i (is_fair g) q.conclusion m (context_of q) (hyps_with known q) (held i (is_fair g)) T T s s ready.conclusion (start_context i (is_fair g) t u)

-- what is known for all programs gives something else for them
pub each_program : (ds : Declarations) (bs : List Bind) (i : Interpretation) (P Q : Interpretation → Type 0) → ((k : Interpretation) → P k → Q k) → EachProgram ds bs i P → EachProgram ds bs i Q
each_program ds [] i P Q f x = f i x
each_program ds (b ∷ bs) i P Q f x = λ a w. each_program ds bs (with_program i b a) P Q f (x a w)

-- what is said of forms under the hypotheses of a sequent
abbrev pub AreKnown : Declarations → Sequent → List Term → Interpretation → Type 0
AreKnown ds q fs k =
    (vs : List Value) → AreValues (types_of ds k) (map (λ x. x.ty) q.logical) vs → (ms : List Memory) → AreTrue ds q.hyps k (context vs ms) → AreTrueForms ds fs k (context vs ms)

abbrev pub IsConcluded : Declarations → Sequent → Term → Interpretation → Type 0
IsConcluded ds q f k =
    (vs : List Value) → AreValues (types_of ds k) (map (λ x. x.ty) q.logical) vs → (ms : List Memory) → AreTrue ds q.hyps k (context vs ms) → Truth ds f k (context vs ms)

pub all_known : (ds : Declarations) (q : Sequent) (fs : List Term) → AllByRecursion (λ f. Holds ds (record q { conclusion = f })) fs → InEachSequent ds q (AreKnown ds q fs)
all_known ds q [] h = λ w size table m. each ds (declared_modules ds) (interpretation w size table) _ (λ i. each ds q.modules i (AreKnown ds q []) (λ k vs v ms t. tt))
all_known ds q (f ∷ fs) h =
    joined ds q (IsConcluded ds q f) (AreKnown ds q fs) (AreKnown ds q (f ∷ fs)) (λ k x y vs v ms t. (x vs v ms t, y vs v ms t)) h.0 (all_known ds q fs h.1)

module _ (es : scope.Declarations) (ds : Declarations) (known : List Term) (q : Sequent) where
  pub operators_meant : (k : Interpretation) → SmtIsReady es (setting ds k) known q → AreOperators (setting ds k) (operators_of es)
  operators_meant k r = subst (AreOperators (setting ds k)) (sym (of_is es)) (operators_sound (setting ds k) es r.operators (length es))
