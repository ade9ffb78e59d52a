-- Leaves that are closed are true.
use Rattle.std.proofs.Common.{◌≡◌, ℕ, zero, suc, Bool, true, false, List, [], ◌∷◌, ◌<◌, map, length, get_or, Some, refl, ap, sym, ◌∙◌, subst, arith}
use Rattle.std.specs.List.{list_all, Any, AllByRecursion}
use Rattle.std.proofs.lemmas.Bool.{and_parts}
use Rattle.std.proofs.lemmas.List.{length-map}
use Rattle.gb_core.specs.declared.ty.Ty.{Ty}
use Rattle.gb_core.specs.declared.ty.Ty.TheVariants.{Bool as bool_ty}
use Rattle.gb_core.specs.declared.value.Value.{Value}
use Rattle.gb_core.specs.declared.value.Value.TheVariants.{Num}
use Rattle.gb_terms.specs.declared.decl.TypedName.{TypedName}
use Rattle.gb_terms.specs.declared.module.Bind.{Bind}
use Rattle.gb_terms.specs.declared.module.Mexp.TheVariants as mexp
use Rattle.gb_terms.specs.declared.op.Read.TheVariants.{Logical, Program}
use Rattle.gb_terms.specs.declared.term.Term.{Term}
use Rattle.gb_terms.specs.declared.term.Head.TheVariants as head
use Rattle.gb_terms.specs.Make.{truth_literal}
use Rattle.gb_goal.specs.Goal.Goal.{ambient}
use Rattle.gb_goal.specs.Scope as scope
use Rattle.gb_goal.specs.declared.sequent.Sequent.{Sequent}
use Rattle.gb_meaning.specs.Meanings.{truth}
use Rattle.gb_meaning.specs.Names.{Name}
use Rattle.gb_meaning.specs.Values.{Types, has}
use Rattle.gb_meaning.specs.Memory.{Memory}
use Rattle.gb_meaning.specs.Setting.{Setting}
use Rattle.gb_meaning.specs.State.{State}
use Rattle.gb_meaning.specs.Terms.{Speaks, val}
use Rattle.gb_meaning.specs.Judgments.{Judge, IsFair, speaking, den}
use Rattle.gb_laws.proofs.Fair.{is_fair}
use Rattle.gb_meaning.specs.Declared.{Declarations, declared}
use Rattle.gb_meaning.specs.Holds.{AreValues, context}
use Rattle.gb_meaning.specs.Programs.{AreOnce}
use Rattle.gb_meaning.specs.Truth.{has_module}
use Rattle.gb_laws.specs.Finite.{IsFinite, IsInhabited}
use Rattle.gb_laws.specs.Operators.{item}
use Rattle.gb_laws.specs.Programs.{HaveFiniteTypes}
use Rattle.gb_laws.proofs.Denominators.{denominator_one}
use Rattle.gb_typing.specs.Context.{Context, Frame, erased}
use Rattle.gb_typing.specs.Formulas.{with_module}
use Rattle.gb_typing.specs.Typing.{IsForm}
use Rattle.gb_typing.specs.Fits.{IsSettingOf, IsStateOf}
use Rattle.gb_typing.specs.Scopes.{context_of, IsTypedScope}
use Rattle.gb_typing.specs.Sequents.{AreBinders, with_modules, of_sequent, IsConclusion, IsTypedSequent}
use Rattle.gb_typing.proofs.Erased.{erased_typed}
use Rattle.gb_typing.proofs.Literals.{bool_literal}
use Rattle.gb_typing.proofs.Made.{made_node}
use Rattle.gb_typing.proofs.TypedGoals.{goal_conclusion}
use Rattle.gb_typing.proofs.Lifted.{sequent_outermost}
use Rattle.gb_amb.proofs.Itself.{meaning_is_of}
use Rattle.gb_amb.proofs.Wider.{small}
use Rattle.gb_mods.specs.Exclusions.{exclusions}
use Rattle.gb_labels.specs.Memories.{AreKeptApart}
use Rattle.gb_eval.specs.Eval.{operators_of}
use Rattle.gb_eval.specs.Known.{is_known, known_of}
use Rattle.gb_eval.specs.Meant.{AreBodies, AreOperators}
use Rattle.gb_eval.proofs.Environments.{of_is}
use Rattle.gb_eval.proofs.Operated.{operators_sound}
use Rattle.gb_labels.specs.Labels.{Labels, choices, choice_at}
use Rattle.gb_labels.specs.Labelled.{labelled}
use Rattle.gb_closing_laws.specs.Model.{AreApart, IsOfValues, Reads, OfClaim, HasReadValues, IsAsTrue}
use Rattle.gb_closing_laws.specs.Chosen.{chosen}
use Rattle.gb_closing_laws.proofs.ScopeOperators.{scope_apart}
use Rattle.gb_closing_laws.proofs.Models as models
use Rattle.gb_smt.specs.declared.leaves.Leaf.{Leaf}
use Rattle.gb_smt.specs.Assign.{labelled_claim}
use Rattle.gb_smt.specs.Equations.{used_up}
use Rattle.gb_smt.specs.Claims.{claim_of, claims_of}
use Rattle.gb_smt.specs.Apply.{Closes, ClosesByClaim}
use Rattle.gb_smt.specs.Meant.{IsRight}
use Rattle.gb_smt_laws.specs.Labels.{AreLabels}
use Rattle.gb_smt_laws.specs.Reading.{Reading, IsReadingOf}
use Rattle.gb_smt_laws.specs.Fits.{Fits}
use Rattle.gb_smt_laws.specs.Closing.{FitsIfSimple, IsAssumed, AreAssumed, IsConcluded, IsImplied, LeafHolds}
use Rattle.gb_smt_laws.specs.Ready.{reading_of, SmtIsReady}
use Rattle.gb_smt_laws.specs.Simple.{is_simple}
use Rattle.gb_smt_laws.proofs.Claimed.{known_if_tried}
use Rattle.gb_smt_laws.proofs.Components.{claims_give, false_fits, false_refuted}
use Rattle.gb_smt_laws.proofs.Known.{known_simple}
use Rattle.gb_smt_laws.proofs.Labelled.{labelled_simple}
use Rattle.gb_smt_laws.proofs.LabelledClaims.{closed_claim}
use Rattle.gb_smt_laws.proofs.Modules.{not_simple}
use Rattle.gb_smt_laws.proofs.Right.{fair_is_right}
use Rattle.gb_smt_laws.proofs.Start.{start_valid}
use Rattle.gb_smt_laws.proofs.Typed.{goal_ready}
use Rattle.gb_smt_laws.proofs.Used.{used_holds}
use Rattle.gb_equality.specs.Labels.{EqualityValid}
use Rattle.gb_smt_laws.specs.Alike.{RespectAlike}
use Rattle.gb_smt_laws.proofs.EqualityIsSound.{holds}
use Rattle.gb_closing_laws.proofs.LabelBodies.{label_bodies}
use Rattle.gb_closing_laws.proofs.Places.{AreForms, AreTrueIn, IsTrueLeaf, setting_moved}
use Rattle.gb_closing_laws.proofs.Simple.{read_types, itself, term_claimed, judges_none}
use Rattle.gb_closing_laws.proofs.TypedLeaves.{IsFormOrNone, IsTypedLeaf, used_typed}

-- the values of variables are of their types
has_item : (t : Types) (us : List Ty) (vs : List Value) → AreValues t us vs → (i : ℕ) (u : Ty) → item us i ≡ Some u → has t u (get_or vs i (Num 0)) ≡ true
has_item t [] [] w i u e = cc
has_item t [] (v ∷ vs) w i u e = absurd w
has_item t (x ∷ us) [] w i u e = absurd w
has_item t (x ∷ us) (v ∷ vs) w zero u e = let q : x ≡ u = cc in subst (λ u. has t u v ≡ true) q w.0
has_item t (x ∷ us) (v ∷ vs) w (suc i) u e = has_item t us vs w.1 i u e

pub state_fits : (b : Context) (g : Setting) (us : List Ty) (ns : List Frame) (vs : List Value) (ms : List Memory) → AreValues g.types us vs → IsStateOf (small b us ns) g (context vs ms)
state_fits b g us ns vs ms w = record { logical = λ i u e. has_item g.types us vs w i u e; bound = tt }

-- A leaf that is valid by equality is true.
pub valid_is_true : (b : Context) (g : Setting) (i : Judge) (l : Leaf) → ((us : List Ty) (ns : List Frame) → RespectAlike (small b us ns) g) → EqualityValid l.hyps l.conclusion → IsTrueLeaf b g i l
valid_is_true b g i l respects valid us fin ns fr fits forms form vs w ms assumed =
    let fit = state_fits b g us ns vs ms w in
    holds (small b us ns) g (speaking g i) (context vs ms) (respects us ns) (λ u k. meaning_is_of (small b us ns) g fits i (context vs ms) fit u k)
    (λ u k n. denominator_one g (erased (small b us ns)) u (erased_typed (small b us ns) u k) n) l.hyps l.conclusion forms form valid assumed

-- A leaf that a claim closes is true: as a goal it reads each variable at its type.

named : List Ty → List TypedName
named [] = []
named (u ∷ us) = record { name = []; ty = u } ∷ named us

named_types : (us : List Ty) → map (λ x. x.ty) (named us) ≡ us
unfolding named
named_types [] = refl
named_types (u ∷ us) = ap (λ ts. u ∷ ts) (named_types us)

named_finite : (us : List Ty) → AllByRecursion IsFinite us → HaveFiniteTypes (named us)
unfolding named
named_finite [] w = tt
named_finite (u ∷ us) w = (w.0, named_finite us w.1)

abbrev nameless : List (List TypedName) → List (List ℕ)
nameless fs = map (λ l. []) fs

abbrev goal_of : List Bind → List Ty → List (List TypedName) → Term → Sequent
goal_of bs us fs t = record { logical = named us; memories = nameless fs; modules = bs; hyps = []; conclusion = t }

-- the modules of a goal are no operators
pub operators_stay : (bs : List Bind) (c : Context) → (with_modules c bs).operator ≡ c.operator
operators_stay [] c = refl
operators_stay (b ∷ bs) c = operators_stay bs (with_module c b)

module _ (es : scope.Declarations) (scoped : IsTypedScope (declared es)) (bs : List Bind) (binders : AreBinders (context_of (declared es)) bs) where
  abbrev ds : Declarations
  ds = declared es

  abbrev b : Context
  b = with_modules (context_of ds) bs

  apart : AreApart (erased b)
  apart n o e = scope_apart ds scoped n o (ap (λ f. f n) (sym (operators_stay bs (context_of ds))) ∙ e)

  module _ (us : List Ty) (fin : AllByRecursion IsFinite us) (fs : List (List TypedName)) where
    abbrev ns : List Frame
    ns = map (λ l. Some l) fs

    abbrev c : Context
    c = small b us ns

    there : (t : Term) → of_sequent (context_of ds) (goal_of bs us fs t) fs ≡ c
    there t = sequent_outermost ds (goal_of bs us fs t) fs ∙ ap (λ ts. small b ts ns) (named_types us)

    abbrev goal_typed : (t : Term) → IsForm c t → IsTypedSequent (context_of ds) (goal_of bs us fs t)
    goal_typed t w = record {
      modules = binders;
      logical = named_finite us fin;
      frames = fs;
      memories = sym (length-map fs (λ l. []));
      hyps = tt;
      conclusion = subst (λ d. IsConclusion d t) (sym (there t)) (goal_conclusion c [] [] (ambient t) w);
    }

    -- What is typed there reads each variable at its type, in each setting in which operators mean their bodies.
    module _ (h : Setting) (inhabited : IsInhabited h.types) (once : (a : Name) → AreOnce (h.types.footprint (mexp.Name a))) (bodies : AreBodies h es) (hs : List Term) (t : Term) (forms : AreForms c hs) (form : IsForm c t) where
      abbrev q : Sequent
      q = goal_of bs us fs t

      ready : SmtIsReady es h hs q
      ready = goal_ready ds h inhabited once q (goal_typed t form) es bodies hs (subst (λ d. AllByRecursion (IsForm d) hs) (sym (there t)) forms)

      abbrev reads_at : Reading
      reads_at = reading_of q ready.variables

      valid : (vs : List Value) → AreValues h.types us vs → (ms : List Memory) → IsReadingOf h reads_at (context vs ms)
      valid vs w ms = start_valid h q ready.variables vs ms ready.held (subst (λ ts. AreValues h.types ts vs) (sym (named_types us)) w)

      all_assumed : (j : Speaks) (s : State) (gs : List Term) → AllByRecursion (Fits h reads_at) gs → AllByRecursion (λ f. truth (val h j f s) ≡ true) gs → AreAssumed h j reads_at s gs
      all_assumed j s [] w e = tt
      all_assumed j s (g ∷ gs) w e = ((λ simple. (w.0, e.0)), all_assumed j s gs w.1 e.1)

      -- what is assumed and fits there is concluded
      concluded : (j : Speaks) (vs : List Value) (ms : List Memory) → IsImplied h j reads_at (context vs ms) hs t → AllByRecursion (λ f. truth (val h j f (context vs ms)) ≡ true) hs → IsConcluded h j (context vs ms) t
      concluded j vs ms x e = x (all_assumed j (context vs ms) hs ready.known_forms e) (λ simple. ready.conclusion)

    -- A claim that closes is true: labels stand for the globals of modules.
    module _ (g : Setting) (fits : IsSettingOf c g) (bodies : AreBodies g es) (kept : AreKeptApart (exclusions es) g.types) (i : Judge) (fair : IsFair g i) (T : Reading) (s : State) (valid_here : IsReadingOf g T s) where
      abbrev j : Speaks
      j = speaking g i

      hyps_simple : (ls : Labels) (hs : List Term) → list_all (is_known (known_of es)) (map (labelled ls) hs) ≡ true → AllByRecursion (λ h. is_simple h ≡ true) hs
      hyps_simple ls [] k = tt
      hyps_simple ls (h ∷ hs) k =
          let both = and_parts (is_known (known_of es) (labelled ls h)) (list_all (is_known (known_of es)) (map (labelled ls) hs)) k in
          (sym (labelled_simple ls h) ∙ known_simple (known_of es) (labelled ls h) both.0, hyps_simple ls hs both.1)

      -- a form that is simple, fits and is true
      record IsGiven (f : Term) : Type 0 where
        simple : is_simple f ≡ true
        form : IsForm c f
        fitting : Fits g T f

      given : (hs : List Term) → AllByRecursion (λ h. is_simple h ≡ true) hs → AllByRecursion (λ h. is_simple h ≡ true → IsForm c h) hs → AreAssumed g j T s hs →
          AllByRecursion IsGiven hs × AllByRecursion (λ h. truth (val g j h s) ≡ true) hs
      given [] k w a = (tt, tt)
      given (h ∷ hs) k w a =
          let r = given hs k.1 w.1 a.1 in
          let x = a.0 k.0 in
          ((record { simple = k.0; form = w.0 k.0; fitting = x.0 }, r.0), (x.1, r.1))

      each_given : (P : Term → Type 0) → ((f : Term) → IsGiven f → P f) → (hs : List Term) → AllByRecursion IsGiven hs → AllByRecursion P hs
      each_given P f [] a = tt
      each_given P f (h ∷ hs) a = (f h a.0, each_given P f hs a.1)

      of_values : (f : Term) → IsGiven f → IsOfValues f
      of_values f x = (term_claimed g T T (itself g T) (erased c) f (erased_typed c f x.form.typed) x.simple x.fitting).0

      reads_of : (f : Term) → IsGiven f → Reads (λ r a. read_types T r ≡ Some a) f
      reads_of f x = (term_claimed g T T (itself g T) (erased c) f (erased_typed c f x.form.typed) x.simple x.fitting).1

      read_values : HasReadValues g (read_types T) s
      read_values (Logical n) a e = valid_here.1 (Logical n) a e
      read_values (Program x r) a e = valid_here.1 (Program x r) a e

      module _ (hs : List Term) (t : Term) (closes : Closes es (claim_of hs t)) (hyps : AllByRecursion IsGiven hs) (conclusion : IsGiven t) where
        abbrev typed : OfClaim (IsForm c) hs t
        typed = (each_given (IsForm c) (λ f x. x.form) hs hyps, conclusion.form)

        abbrev valued : OfClaim IsOfValues hs t
        valued = (each_given IsOfValues of_values hs hyps, of_values t conclusion)

        abbrev reads : OfClaim (Reads (λ r a. read_types T r ≡ Some a)) hs t
        reads = (each_given (Reads (λ r a. read_types T r ≡ Some a)) reads_of hs hyps, reads_of t conclusion)

        abbrev h : Setting
        h = models.h b g us fin ns fits apart (exclusions es) kept i fair (read_types T) hs t typed valued reads closes.most closes.counted

        abbrev k : Speaks
        k = speaking h (models.k b g us fin ns fits apart (exclusions es) kept i fair (read_types T) hs t typed valued reads closes.most closes.counted)

        inhabited_there : IsInhabited h.types
        inhabited_there = models.inhabited_there b g us fin ns fits apart (exclusions es) kept i fair (read_types T) hs t typed valued reads closes.most closes.counted

        once_there : (a : Name) → AreOnce (h.types.footprint (mexp.Name a))
        once_there a = (refl, tt)

        bodies_there : AreBodies h es
        bodies_there = label_bodies es scoped g bodies _ _

        operators_there : AreOperators h (operators_of es)
        operators_there = subst (AreOperators h) (sym (of_is es)) (operators_sound h es bodies_there (length es))

        apart_there : AreKeptApart (exclusions es) h.types
        apart_there = models.right_apart b g us fin ns fits apart (exclusions es) kept i fair (read_types T) hs t typed valued reads closes.most closes.counted

        abbrev choice : (n : ℕ) × (n < choices closes.most) × (choice_at closes.most n ≡ chosen g.types closes.most)
        choice = models.choice b g us fin ns fits apart (exclusions es) kept i fair (read_types T) hs t typed valued reads closes.most closes.counted

        are_labels : AreLabels h.types (choice_at closes.most choice.0)
        are_labels = subst (AreLabels h.types) (sym choice.2) (models.are_labels b g us fin ns fits apart (exclusions es) kept i fair (read_types T) hs t typed valued reads closes.most closes.counted)

        abbrev vs : List Value
        vs = models.vs b g us fin ns fits apart (exclusions es) kept i fair (read_types T) hs t typed valued reads closes.most closes.counted s read_values

        abbrev ms : List Memory
        ms = models.ms b g us fin ns fits apart (exclusions es) kept i fair (read_types T) hs t typed valued reads closes.most closes.counted s read_values

        of_types : AreValues h.types us vs
        of_types = models.are_values b g us fin ns fits apart (exclusions es) kept i fair (read_types T) hs t typed valued reads closes.most closes.counted s read_values

        as_true : OfClaim (IsAsTrue g j s h k (context vs ms)) hs t
        as_true = models.as_true b g us fin ns fits apart (exclusions es) kept i fair (read_types T) hs t typed valued reads closes.most closes.counted s read_values

        both_true : (gs : List Term) → AllByRecursion (IsAsTrue g j s h k (context vs ms)) gs → AllByRecursion (λ f. truth (val g j f s) ≡ true) gs → AllByRecursion (λ f. truth (val h k f (context vs ms)) ≡ true) gs
        both_true [] a e = tt
        both_true (f ∷ gs) a e = (sym a.0 ∙ e.0, both_true gs a.1 e.1)

        claim_true : AllByRecursion (λ f. truth (val g j f s) ≡ true) hs → truth (val g j t s) ≡ true
        claim_true e =
            as_true.1
            ∙ (concluded h inhabited_there once_there bodies_there hs t typed.0 conclusion.form k vs ms
            (closed_claim es h operators_there apart_there k (fair_is_right h _ (is_fair h)) (context vs ms) (T_there) (valid h inhabited_there once_there bodies_there hs t typed.0 conclusion.form vs of_types ms) hs t closes choice.0 choice.1 are_labels)
            (both_true hs as_true.0 e)).1
          where
            T_there : Reading
            T_there = reads_at h inhabited_there once_there bodies_there hs t typed.0 conclusion.form

      pub claim_implied : (hs : List Term) (t : Term) → Closes es (claim_of hs t) → AllByRecursion (λ h. is_simple h ≡ true → IsForm c h) hs → (is_simple t ≡ true → IsForm c t) → IsImplied g j T s hs t
      claim_implied hs t closes w f a fit =
          let known = known_if_tried es (labelled_claim closes.most (claim_of hs t)) closes.tried in
          let both = and_parts (list_all (is_known (known_of es)) (map (labelled closes.most) hs)) (is_known (known_of es) (labelled closes.most t)) known in
          let simple = sym (labelled_simple closes.most t) ∙ known_simple (known_of es) (labelled closes.most t) both.1 in
          let x = given hs (hyps_simple closes.most hs both.0) w a in
          (simple, claim_true hs t closes x.0 (record { simple = simple; form = f simple; fitting = fit simple }) x.1)

    -- A claim of forms that closes is true in each state of the context.
    module _ (g : Setting) (fits : IsSettingOf c g) (bodies : AreBodies g es) (kept : AreKeptApart (exclusions es) g.types) (i : Judge) (fair : IsFair g i) (hs : List Term) (t : Term) (closes : Closes es (claim_of hs t)) (forms : AreForms c hs) (form : IsForm c t) where
      each_form : (gs : List Term) → AreForms c gs → AllByRecursion (λ h. is_simple h ≡ true → IsForm c h) gs
      each_form [] w = tt
      each_form (h ∷ gs) w = ((λ k. w.0), each_form gs w.1)

      pub claim_holds : (vs : List Value) → AreValues g.types us vs → (ms : List Memory) → AreTrueIn g i (context vs ms) hs → den g i t (context vs ms) ≡ true
      claim_holds vs w ms e =
          (concluded g fits.types.inhabited fits.once bodies hs t forms form (speaking g i) vs ms
          (claim_implied g fits bodies kept i fair (reads_at g fits.types.inhabited fits.once bodies hs t forms form) (context vs ms) (valid g fits.types.inhabited fits.once bodies hs t forms form vs w ms) hs t closes (each_form hs forms) (λ k. form)) e).1

  -- a simple form is neither a quantifier over modules nor a judgment on bodies
  form_if_simple : (d : Context) (f : Term) → IsFormOrNone d f → is_simple f ≡ true → IsForm d f
  form_if_simple d f w k = w (step (has_module f) refl) (judges_none f k)
    where
      step : (m : Bool) → has_module f ≡ m → has_module f ≡ false
      step true e = absurd (not_simple f e k)
      step false e = e

  false_form : (d : Context) → IsForm d (truth_literal false)
  false_form d = let m = made_node d (head.Lit (Num 0)) [] [] bool_ty (bool_literal 0 (omega arith)) tt [] tt in record { typed = m.typed; truth = m.written }

  module _ (g : Setting) (bodies : AreBodies g es) (kept : AreKeptApart (exclusions es) g.types) (i : Judge) (fair : IsFair g i) (us0 : List Ty) (ns0 : List Frame) (fits : IsSettingOf (small b us0 ns0) g) where
    right : IsRight g (speaking g i)
    right = fair_is_right g i fair

    module _ (l : Leaf) (w : IsTypedLeaf b l) (closes : Any (Closes es) (claims_of l)) where
      abbrev d : Context
      d = small b w.variables w.memories

      -- a typed leaf of which a claim closes holds
      claims_hold : LeafHolds g (speaking g i) l
      claims_hold T s valid_here a f =
          claims_give (λ h. IsForm d h × IsAssumed g (speaking g i) T s h) (λ t. (is_simple t ≡ true → IsForm d t) × FitsIfSimple g T t) (IsConcluded g (speaking g i) s) (Closes es) gives
          ((λ k. false_form d), false_fits g T) (false_refuted g (speaking g i) s) l closes (both l.hyps w.hyps a) (sought, f)
        where
          both : (hs : List Term) → AllByRecursion (IsForm d) hs → AreAssumed g (speaking g i) T s hs → AllByRecursion (λ h. IsForm d h × IsAssumed g (speaking g i) T s h) hs
          both [] w a = tt
          both (h ∷ hs) w a = ((w.0, a.0), both hs w.1 a.1)

          sought : is_simple l.conclusion ≡ true → IsForm d l.conclusion
          sought k = form_if_simple d l.conclusion w.conclusion k

          forms : (hs : List Term) → AllByRecursion (λ h. IsForm d h × IsAssumed g (speaking g i) T s h) hs → AllByRecursion (λ h. is_simple h ≡ true → IsForm d h) hs
          forms [] w = tt
          forms (h ∷ hs) w = ((λ k. w.0.0), forms hs w.1)

          assumed : (hs : List Term) → AllByRecursion (λ h. IsForm d h × IsAssumed g (speaking g i) T s h) hs → AreAssumed g (speaking g i) T s hs
          assumed [] w = tt
          assumed (h ∷ hs) w = (w.0.1, assumed hs w.1)

          fits_at : (ns : List Frame) → ns ≡ map (λ l. Some l) w.frames.0 → IsSettingOf (small b w.variables ns) g
          fits_at ns e = setting_moved b g us0 w.variables ns0 ns fits

          gives : (hs : List Term) (t : Term) → AllByRecursion (λ h. IsForm d h × IsAssumed g (speaking g i) T s h) hs → (is_simple t ≡ true → IsForm d t) × FitsIfSimple g T t → Closes es (claim_of hs t) → IsConcluded g (speaking g i) s t
          gives hs t p q c =
              claim_implied w.variables w.finite w.frames.0 g (setting_moved b g us0 w.variables ns0 (map (λ l. Some l) w.frames.0) fits) bodies kept i fair T s valid_here hs t c
              (subst (λ ns. AllByRecursion (λ h. is_simple h ≡ true → IsForm (small b w.variables ns) h) hs) w.frames.1 (forms hs p)) (subst (λ ns. is_simple t ≡ true → IsForm (small b w.variables ns) t) w.frames.1 q.0) (assumed hs p) q.1

    pub leaf_holds : (l : Leaf) → IsTypedLeaf b l → ClosesByClaim es l → LeafHolds g (speaking g i) l
    leaf_holds l w closes = used_holds g (speaking g i) right (length l.hyps) l (claims_hold (used_up l) (used_typed b (length l.hyps) l w) closes)

  pub claimed_is_true : (g : Setting) → AreBodies g es → AreKeptApart (exclusions es) g.types → (i : Judge) → IsFair g i → (l : Leaf) → ClosesByClaim es l → IsTrueLeaf b g i l
  claimed_is_true g bodies kept i fair l closes us fin ns fr fits forms form vs w ms assumed =
      let e : ns ≡ map (λ l. Some l) fr.0 = fr.1 in
      let fits_in : IsSettingOf (small b us (map (λ l. Some l) fr.0)) g = subst (λ n. IsSettingOf (small b us n) g) e fits in
      let forms_in : AreForms (small b us (map (λ l. Some l) fr.0)) l.hyps = subst (λ n. AreForms (small b us n) l.hyps) e forms in
      let form_in : IsForm (small b us (map (λ l. Some l) fr.0)) l.conclusion = subst (λ n. IsForm (small b us n) l.conclusion) e form in
      let typed : IsTypedLeaf b l = record { variables = us; finite = fin; memories = ns; frames = fr; hyps = forms; conclusion = λ m j. form } in
      (concluded us fin fr.0 g fits_in.types.inhabited fits_in.once bodies l.hyps l.conclusion forms_in form_in (speaking g i) vs ms
      (leaf_holds g bodies kept i fair us ns fits l typed closes _ (context vs ms) (valid us fin fr.0 g fits_in.types.inhabited fits_in.once bodies l.hyps l.conclusion forms_in form_in vs w ms)) assumed).1
