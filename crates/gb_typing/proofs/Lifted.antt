-- The law of a rule on goals is one on sequents.
use Rattle.std.proofs.Common.{◌≡◌, ℕ, zero, suc, Bool, true, false, List, [], ◌∷◌, map, get_or, Option, Some, None, refl, ap, sym, subst}
use Rattle.std.specs.List.{AllByRecursion}
use Rattle.std.proofs.lemmas.Bool.{false≢true}
use Rattle.gb_core.specs.declared.ty.Ty.{Ty}
use Rattle.gb_core.specs.declared.ty.Ty.TheVariants as ty
use Rattle.gb_core.specs.declared.value.Value.{Value}
use Rattle.gb_core.specs.declared.value.Value.TheVariants.{Num}
use Rattle.gb_terms.specs.declared.decl.TypedName.{TypedName}
use Rattle.gb_terms.specs.declared.module.Bind.{Bind}
use Rattle.gb_terms.specs.declared.term.Term.{Term}
use Rattle.gb_goal.specs.declared.sequent.Sequent.{Sequent}
use Rattle.gb_meaning.specs.Names.{Name}
use Rattle.gb_meaning.specs.Values.{Types, has}
use Rattle.gb_meaning.specs.Memory.{Memory}
use Rattle.gb_meaning.specs.State.{State}
use Rattle.gb_meaning.specs.Judgments.{Judge, IsFair}
use Rattle.gb_meaning.specs.Written.{type_of}
use Rattle.gb_laws.specs.Operators.{item}
use Rattle.gb_meaning.specs.Declared.{Declarations, Declaration, abstract_type, abbreviation, operator, abstract_operator, module_type, concrete_module, abstract_module, axiom_of, lemma, terminating}
use Rattle.gb_meaning.specs.Settings.{Interpretation, with_program, setting, types_of}
use Rattle.gb_meaning.specs.Truth.{Truth}
use Rattle.gb_meaning.specs.Holds.{EachProgram, AreValues, context, AreTrue, declared_modules, interpretation, InEachModel, InEachSetting, Holds}
use Rattle.gb_meaning.proofs.Fronts.{without_modules}
use Rattle.gb_meaning.proofs.SettingTypes.{setting-types}
use Rattle.gb_typing.specs.Context.{Context}
use Rattle.gb_typing.specs.Formulas.{with_module}
use Rattle.gb_typing.specs.Sequents.{with_modules, of_sequent, IsTypedSequent}
use Rattle.gb_typing.specs.Scopes.{nothing, with_declared, with_each, context_of}
use Rattle.gb_typing.specs.Fits.{IsSettingOf, IsStateOf}
use Rattle.gb_typing.specs.Chosen.{IsChosenOver}
use Rattle.gb_goal.specs.Goal.{Goal, form_of, goal_of}
use Rattle.gb_typing.specs.Goals.{IsGoalOver, IsTypedGoal}
use Rattle.gb_typing.specs.Meaning.{Stands}
use Rattle.gb_goal.specs.Answers.{Answer}
use Rattle.gb_goal.specs.Rows.{Row}
use Rattle.gb_typing.specs.Rules.{ImpliesIn, outermost, IsSoundIn}
use Rattle.gb_goal.specs.Answers.Answer.{given, refused}
use Rattle.gb_goal.specs.Rows.{concluding, each_concluding, answered}
use Rattle.gb_typing.proofs.TypedGoals.{goal_conclusion, goal_front}
use Rattle.gb_typing.proofs.Exact.{exact}
use Rattle.gb_typing.proofs.Given.{refused_at, same_given}
use Rattle.gb_typing.proofs.Shapes.{goal_form}

-- No binder is around a goal, and no memory but named ones.

declared_outermost : (c : Context) (n : Name) (d : Declaration) → c ≡ outermost c → with_declared c n d ≡ outermost (with_declared c n d)
declared_outermost c n (operator o) e = ap (λ c. with_declared c n (operator o)) e
declared_outermost c n (abstract_operator o) e = ap (λ c. with_declared c n (abstract_operator o)) e
declared_outermost c n (module_type t) e = ap (λ c. with_declared c n (module_type t)) e
declared_outermost c n (concrete_module m) e = ap (λ c. with_declared c n (concrete_module m)) e
declared_outermost c n (abstract_module b) e = ap (λ c. with_declared c n (abstract_module b)) e
declared_outermost c n abstract_type e = e
declared_outermost c n (abbreviation stood) e = e
declared_outermost c n (axiom_of q) e = e
declared_outermost c n (lemma q) e = e
declared_outermost c n (terminating f) e = e

each_outermost : (ds : Declarations) (c : Context) → c ≡ outermost c → with_each c ds ≡ outermost (with_each c ds)
each_outermost [] c e = e
each_outermost (d ∷ ds) c e = each_outermost ds (with_declared c d.0 d.1) (declared_outermost c d.0 d.1 e)

modules_outermost : (bs : List Bind) (c : Context) → c ≡ outermost c → with_modules c bs ≡ outermost (with_modules c bs)
modules_outermost [] c e = e
modules_outermost (b ∷ bs) c e = modules_outermost bs (with_module c b) (ap (λ c. with_module c b) e)

-- a context with the logical variables and the memories of a goal
abbrev placed : Sequent → List (List TypedName) → Context → Context
placed q fs c = record c { logical = λ i. item (map (λ x. x.ty) q.logical) i; named = map Some fs }

pub sequent_outermost : (ds : Declarations) (q : Sequent) (fs : List (List TypedName)) → of_sequent (context_of ds) q fs ≡ outermost (of_sequent (context_of ds) q fs)
sequent_outermost ds q fs =
    ap (placed q fs) (modules_outermost q.modules (context_of ds) (each_outermost ds nothing refl))

-- Facts for all programs.

pub each : (ds : Declarations) (bs : List Bind) (i : Interpretation) (P : Interpretation → Type 0) → ((k : Interpretation) → P k) → EachProgram ds bs i P
each ds [] i P f = f i
each ds (b ∷ bs) i P f = λ a w. each ds bs (with_program i b a) P f

pub both : (ds : Declarations) (bs : List Bind) (i : Interpretation) (P Q R : Interpretation → Type 0) → ((k : Interpretation) → P k → Q k → R k) →
    EachProgram ds bs i P → EachProgram ds bs i Q → EachProgram ds bs i R
both ds [] i P Q R f x y = f i x y
both ds (b ∷ bs) i P Q R f x y = λ a w. both ds bs (with_program i b a) P Q R f (x a w) (y a w)

abbrev pub InEachSequent : Declarations → Sequent → (Interpretation → Type 0) → Type 0
InEachSequent ds q P = InEachModel ds (λ i. EachProgram ds q.modules i P)

pub joined : (ds : Declarations) (q : Sequent) (P Q R : Interpretation → Type 0) → ((k : Interpretation) → P k → Q k → R k) → InEachSequent ds q P → InEachSequent ds q Q → InEachSequent ds q R
joined ds q P Q R f x y w size table m =
    both ds (declared_modules ds) (interpretation w size table) (λ i. EachProgram ds q.modules i P) (λ i. EachProgram ds q.modules i Q) (λ i. EachProgram ds q.modules i R)
    (λ i u v. both ds q.modules i P Q R f u v) (x w size table m) (y w size table m)

-- what a sequent with this conclusion says of an interpretation
abbrev pub Says : Declarations → Sequent → Term → Interpretation → Type 0
Says ds q f k = (vs : List Value) → AreValues (types_of ds k) (map (λ x. x.ty) q.logical) vs → (ms : List Memory) → AreTrue ds q.hyps k (context vs ms) → Truth ds f k (context vs ms)

pub gathered : (ds : Declarations) (q : Sequent) (Gs : List Goal) → AllByRecursion (Holds ds) (map (concluding q) Gs) → InEachSequent ds q (λ k. AllByRecursion (λ G. Says ds q (form_of G) k) Gs)
gathered ds q [] h = λ w size table m. each ds (declared_modules ds) (interpretation w size table) _ (λ i. each ds q.modules i (λ k. AllByRecursion (λ G. Says ds q (form_of G) k) []) (λ k. tt))
gathered ds q (G ∷ Gs) h =
    joined ds q (Says ds q (form_of G)) (λ k. AllByRecursion (λ G. Says ds q (form_of G) k) Gs) (λ k. AllByRecursion (λ G. Says ds q (form_of G) k) (G ∷ Gs)) (λ k x y. (x, y)) h.0 (gathered ds q Gs h.1)

-- The state of a context fits.

has_item : (t : Types) (us : List Ty) (vs : List Value) → AreValues t us vs → (i : ℕ) (u : Ty) → item us i ≡ Some u → has t u (get_or vs i (Num 0)) ≡ true
has_item t [] [] w i u e = absurd (false≢true (ap is_some e))
  where
    is_some : Option Ty → Bool
    is_some None = false
    is_some (Some t) = true
has_item t [] (v ∷ vs) w i u e = absurd w
has_item t (x ∷ us) [] w i u e = absurd w
has_item t (x ∷ us) (v ∷ vs) w zero u e = subst (λ u. has t u v ≡ true) (ap (λ (o : Option Ty). or_else o) e) w.0
  where
    or_else : Option Ty → Ty
    or_else None = x
    or_else (Some y) = y
has_item t (x ∷ us) (v ∷ vs) w (suc i) u e = has_item t us vs w.1 i u e

module _ (ds : Declarations) (q : Sequent) (fs : List (List TypedName)) where
  abbrev c : Context
  c = of_sequent (context_of ds) q fs

  pub state_fits : (k : Interpretation) (vs : List Value) (ms : List Memory) → AreValues (types_of ds k) (map (λ x. x.ty) q.logical) vs → IsStateOf c (setting ds k) (context vs ms)
  state_fits k vs ms w =
      subst (λ c. IsStateOf c (setting ds k) (context vs ms)) (sym (sequent_outermost ds q fs))
      (record {
        logical = λ i u e. subst (λ t. has t u (get_or vs i (Num 0)) ≡ true) (sym (setting-types ds k)) (has_item (types_of ds k) (map (λ x. x.ty) q.logical) vs w i u e);
        bound = tt;
      })

  module _ (k : Interpretation) (fits : IsSettingOf c (setting ds k)) (chosen : IsChosenOver ds k) (s : State) where
    all_stand : (j : Judge) → IsFair (setting ds k) j → (Gs : List Goal) → AllByRecursion (IsTypedGoal c) Gs → AllByRecursion (λ G. Truth ds (form_of G) k s) Gs → AllByRecursion (Stands (setting ds k) j s) Gs
    all_stand j fair [] w h = tt
    all_stand j fair (G ∷ Gs) w h =
        ((exact c (setting ds k) fits j fair s w.0.0 w.0.1 G w.0.2).0 ((without_modules ds (form_of G) k s (goal_front c w.0.0 w.0.1 G w.0.2)).0 h.0 j fair), all_stand j fair Gs w.1 h.1)

    concluded : (ls rs : List TypedName) (G : Goal) → IsGoalOver c ls rs G → (Gs : List Goal) → AllByRecursion (IsTypedGoal c) Gs → ImpliesIn ds c Gs G → IsStateOf c (setting ds k) s →
        AllByRecursion (λ G. Truth ds (form_of G) k s) Gs → Truth ds (form_of G) k s
    concluded ls rs G w Gs ws f fit h =
        (without_modules ds (form_of G) k s (goal_front c ls rs G w)).1
        (λ j fair. (exact c (setting ds k) fits j fair s ls rs G w).1 (f (setting ds k) fits (record { interpretation = k; chosen = chosen; meant = refl }) j fair s fit (all_stand j fair Gs ws h)))

  pub said : (k : Interpretation) (vs : List Value) (ms : List Memory) (Gs : List Goal) → AreValues (types_of ds k) (map (λ x. x.ty) q.logical) vs → AreTrue ds q.hyps k (context vs ms) →
      AllByRecursion (λ G. Says ds q (form_of G) k) Gs → AllByRecursion (λ G. Truth ds (form_of G) k (context vs ms)) Gs
  said k vs ms [] v t h = tt
  said k vs ms (G ∷ Gs) v t h = (h.0 vs v ms t, said k vs ms Gs v t h.1)

  -- the setting fits, and programs of their types are chosen
  abbrev IsFitting : Interpretation → Type 0
  IsFitting k = IsSettingOf c (setting ds k) × IsChosenOver ds k

  holds_by_rule : InEachSequent ds q IsFitting → (ls rs : List TypedName) (G : Goal) → form_of G ≡ q.conclusion → IsGoalOver c ls rs G → (Gs : List Goal) → AllByRecursion (IsTypedGoal c) Gs →
      ImpliesIn ds c Gs G → AllByRecursion (Holds ds) (map (concluding q) Gs) → Holds ds q
  holds_by_rule settings ls rs G e w Gs ws f h =
      joined ds q IsFitting (λ k. AllByRecursion (λ G. Says ds q (form_of G) k) Gs) (λ k. Says ds q q.conclusion k)
      (λ k fits says vs v ms t. subst (λ z. Truth ds z k (context vs ms)) e (concluded k fits.0 fits.1 (context vs ms) ls rs G w Gs ws f (state_fits k vs ms v) (said k vs ms Gs v t says)))
      settings (gathered ds q Gs h)

module _ (ds : Declarations) (q : Sequent) (t : IsTypedSequent (context_of ds) q) where
  pub typed_subgoals : (Gs : List Goal) → AllByRecursion (IsTypedGoal (of_sequent (context_of ds) q t.frames)) Gs → AllByRecursion (IsTypedSequent (context_of ds)) (map (concluding q) Gs)
  typed_subgoals [] w = tt
  typed_subgoals (G ∷ Gs) w = (
    record {
      modules = t.modules;
      logical = t.logical;
      frames = t.frames;
      memories = t.memories;
      hyps = t.hyps;
      conclusion = goal_conclusion (of_sequent (context_of ds) q t.frames) w.0.0 w.0.1 G w.0.2;
    },
    typed_subgoals Gs w.1,
  )

  pub by_rule : InEachSetting ds q (IsSettingOf (of_sequent (context_of ds) q t.frames)) → InEachSequent ds q (IsChosenOver ds) → type_of q.conclusion ≡ ty.Bool → (ls rs : List TypedName) →
      IsGoalOver (of_sequent (context_of ds) q t.frames) ls rs (goal_of q.conclusion) → (row : Row) → IsSoundIn ds (of_sequent (context_of ds) q t.frames) row (goal_of q.conclusion) →
      (qs : List Sequent) → answered row q ≡ given qs → AllByRecursion (IsTypedSequent (context_of ds)) qs × (AllByRecursion (Holds ds) qs → Holds ds q)
  by_rule settings programs truth ls rs w row law qs e = step_of (row (goal_of q.conclusion)) refl e
    where
      fitting : InEachSequent ds q (IsFitting ds q t.frames)
      fitting =
          joined ds q (λ k. IsSettingOf (of_sequent (context_of ds) q t.frames) (setting ds k)) (IsChosenOver ds) (IsFitting ds q t.frames) (λ k x y. (x, y)) settings programs

      step_of : (a : Answer (List Goal)) → row (goal_of q.conclusion) ≡ a → each_concluding q a ≡ given qs → AllByRecursion (IsTypedSequent (context_of ds)) qs × (AllByRecursion (Holds ds) qs → Holds ds q)
      step_of (given Gs) r e =
          let k = law Gs r in
          let same : map (concluding q) Gs ≡ qs = same_given (map (concluding q) Gs) qs e in (
            subst (AllByRecursion (IsTypedSequent (context_of ds))) same (typed_subgoals Gs k.0),
            λ h. holds_by_rule ds q t.frames fitting ls rs (goal_of q.conclusion) (goal_form q.conclusion truth) w Gs k.0 k.1 (subst (AllByRecursion (Holds ds)) (sym same) h),
          )
      step_of (refused v p) r e = refused_at v p qs e
