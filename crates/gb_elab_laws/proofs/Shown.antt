-- The loops of a declared procedure: their goals are typed, and where they hold, they are good in each model.
use Rattle.std.proofs.Common.{◌≡◌, ℕ, ◌<◌, true, List, [], ◌∷◌, Some, refl, ap, sym, subst, ltb-true, arith}
use Rattle.std.proofs.lemmas.Bool.{false≢true}
use Rattle.std.specs.List.{AllByRecursion}
use Rattle.gb_core.specs.declared.ty.Ty.{Ty}
use Rattle.gb_core.specs.declared.ty.Ty.TheVariants as ty
use Rattle.gb_core.specs.declared.value.Value.{Value, out-Value}
use Rattle.gb_core.specs.declared.value.Value.TheOpen as value_layer
use Rattle.gb_core.specs.Numbering.{is_below_in}
use Rattle.gb_terms.specs.declared.decl.Proc.{Proc}
use Rattle.gb_terms.specs.declared.decl.TypedName.{TypedName}
use Rattle.gb_terms.specs.declared.module.ProcRef.{ProcRef}
use Rattle.gb_goal.specs.Goal.{Goal, form_of}
use Rattle.gb_goal.specs.Goal.Code.{body}
use Rattle.gb_goal.specs.Goal.Goal.{ambient, hoare}
use Rattle.gb_goal.specs.Scope as scope
use Rattle.gb_goal.specs.Scope.{procedure_of}
use Rattle.gb_goal.specs.declared.sequent.Sequent.{Sequent}
use Rattle.gb_meaning.specs.Commands.{statements}
use Rattle.gb_meaning.specs.Meanings.{value_in}
use Rattle.gb_meaning.specs.Memory.{Memory}
use Rattle.gb_meaning.specs.Runs.{is_true, variant_value}
use Rattle.gb_meaning.specs.Setting.{Meaning, Setting}
use Rattle.gb_meaning.specs.Setting.Meaning.{finite, whole, fraction, weights}
use Rattle.gb_meaning.specs.State.{State, closed, inside}
use Rattle.gb_meaning.specs.Terms.{quiet, val}
use Rattle.gb_meaning.specs.Names.{Name}
use Rattle.gb_meaning.specs.Values.{Types, World, has}
use Rattle.gb_meaning.specs.Written.{type_of, IsModulo}
use Rattle.gb_meaning.proofs.Endings.{good_of_falling}
use Rattle.gb_laws.proofs.Exact.{trying}
use Rattle.gb_laws.proofs.Fair.{is_fair}
use Rattle.gb_meaning.specs.Declared.{Declarations, declared}
use Rattle.gb_meaning.specs.Holds.{context, declared_modules, interpretation, EachProgram, IsModel, IsTrueSequent}
use Rattle.gb_meaning.specs.Settings.{Interpretation, Table, setting, types_of}
use Rattle.gb_meaning.proofs.Fronts.{without_modules}
use Rattle.gb_meaning.proofs.SettingTypes.{setting-types}
use Rattle.gb_laws.specs.Finite.{IsFinite}
use Rattle.gb_laws.specs.Meant.{IsOf}
use Rattle.gb_laws.proofs.Terms.{typed_has, typed_meaning}
use Rattle.gb_typing.specs.Context.{Context, erased, of_program}
use Rattle.gb_typing.specs.Fits.{IsSettingOf}
use Rattle.gb_typing.specs.Goals.{IsGoalOver}
use Rattle.gb_typing.specs.Programs.{HaveVariableTypes, locals_of}
use Rattle.gb_typing.specs.Scopes.{context_of, IsTypedScope}
use Rattle.gb_typing.specs.Sequents.{of_sequent, AreBinders, IsTypedSequent}
use Rattle.gb_typing.proofs.Erased.{erased_typed}
use Rattle.gb_typing.proofs.Exact.{exact}
use Rattle.gb_typing.proofs.Fitting.{fits_program, state_inside}
use Rattle.gb_typing.proofs.Lifted.{both, sequent_outermost}
use Rattle.gb_typing.proofs.Located.{IsTypedThere, typed_there}
use Rattle.gb_elab_laws.specs.Speaking.{IsFirmScope}
use Rattle.gb_elab_laws.proofs.Models.{no_section}
use Rattle.gb_typing.proofs.Models.{each_setting}
use Rattle.gb_typing.proofs.Substituted.{quiet_fractional}
use Rattle.gb_typing.proofs.TypedGoals.{goal_conclusion, goal_front}
use Rattle.gb_loops.specs.Loops.{Loop, loops}
use Rattle.gb_loops.specs.Variants.{above_zero, fallen, falling_goal, loop_goals, over_none, over_one, turning, variant_type, zero_of}
use Rattle.gb_elab_laws.specs.Good.{LoopIsGood, IsShownBy}
use Rattle.gb_elab_laws.proofs.LoopGoals.{type_is, above_form, falling_typed, falls_from, stays_above, value_has}
use Rattle.gb_elab_laws.proofs.TypedLoops.{IsTypedLoop, loops_typed}

-- A type of numbers modulo a bound that means something has a value.

below_positive : (n : ℕ) (x : value_layer.Value-F Value) → is_below_in n x ≡ true → 0 < n
below_positive n (value_layer.Num k) h = let l = ltb-true k n h in omega (arith, l)
below_positive n (value_layer.Many vs) h = absurd (false≢true h)

finite_modulo : (ts : Types) (t : Ty) → IsModulo t → (x : Meaning) → IsOf ts t x → IsFinite t
finite_modulo ts (ty.Mod n) m (finite v) h = below_positive n (out-Value v) h
finite_modulo ts (ty.Mod n) m (whole i) h = absurd h
finite_modulo ts (ty.Mod n) m (fraction a) h = absurd h.0
finite_modulo ts (ty.Mod n) m (weights d) h = absurd h.0
finite_modulo ts _ m x h = absurd m

module _ {X Y : Type 0} (P : Y → X → Type 0) (f : X → Y) where
  -- what holds of a list at each parameter holds of each element at its own
  own : (xs : List X) → ((y : Y) → AllByRecursion (P y) xs) → AllByRecursion (λ x. P (f x) x) xs
  own [] h = tt
  own (x ∷ xs) h = ((h (f x)).0, own xs (λ y. (h y).1))

module _ {X : Type 0} (P Q R : X → Type 0) (step : (x : X) → P x → Q x → R x) where
  paired : (xs : List X) → AllByRecursion P xs → AllByRecursion Q xs → AllByRecursion R xs
  paired [] h k = tt
  paired (x ∷ xs) h k = (step x h.0 k.0, paired xs h.1 k.1)

module _ (ds : scope.Declarations) (scoped : IsTypedScope (declared ds)) (firm : IsFirmScope ds) where
  abbrev D : Declarations
  D = declared ds

  abbrev around : Sequent → Context
  around q = of_sequent (context_of D) q []

  module _ (ls : List TypedName) (vars : HaveVariableTypes ls) (l : Loop) where
    abbrev first : Sequent
    first = over_none (above_zero l)

    abbrev second : Sequent
    second = falling_goal l

    abbrev turn : Goal
    turn = hoare (body l.body) (turning l) (fallen l)

    known : (around second).logical 0 ≡ Some (type_of l.variant)
    known = ap Some (type_is l.variant)

    module _ (w : IsTypedLoop (around first) ls l) (v : IsTypedLoop (around second) ls l) (fin : IsFinite (type_of l.variant)) where
      above_over : IsGoalOver (around first) ls ls (ambient (above_zero l))
      above_over = above_form (around first) (sequent_outermost D first []) ls l w fin

      turn_over : IsGoalOver (around second) ls ls turn
      turn_over = falling_typed (around second) (sequent_outermost D second []) ls l v fin known vars

      goals_typed : AllByRecursion (IsTypedSequent (context_of D)) (loop_goals l)
      goals_typed = (
        record { modules = tt; logical = tt; frames = []; memories = refl; hyps = tt; conclusion = goal_conclusion (around first) ls ls (ambient (above_zero l)) above_over },
        (
          record {
            modules = tt;
            logical = (subst IsFinite (sym (type_is l.variant)) fin, tt);
            frames = [];
            memories = refl;
            hyps = tt;
            conclusion = goal_conclusion (around second) ls ls turn turn_over;
          },
          tt,
        ),
      )

      -- in an interpretation in which both goals are true
      module _ (k : Interpretation) (fits : IsSettingOf (around first) (setting D k)) (suits : IsSettingOf (around second) (setting D k)) (low : IsTrueSequent D first k) (falls : IsTrueSequent D second k) where
        abbrev g : Setting
        g = setting D k

        abbrev value : Memory → Value
        value m = value_in (val g quiet l.variant (inside closed m))

        valued : (m : Memory) → has g.types (type_of l.variant) (value m) ≡ true
        valued m =
            let c = of_program (around first) ls in
            let e = w.variant in
            let f = fits_program (around first) g fits ls in
            typed_has (erased c) g f.types quiet quiet_fractional l.variant (erased_typed c l.variant e.typed) fin (inside closed m) (state_inside (around first) g ls closed m)

        above : (m : Memory) → is_true g closed l.guard m ≡ true → 0 < variant_value g closed l.variant m
        above =
            let s : State = context [] [] in
            stays_above (around first) (sequent_outermost D first []) ls l w fin g fits s
            ((without_modules D (above_zero l) k s (goal_front (around first) ls ls (ambient (above_zero l)) above_over)).0 (low [] tt [] tt) (trying g) (is_fair g))

        is_value : (m : Memory) → has (types_of D k) (variant_type l) (value m) ≡ true
        is_value m = subst (λ ts. has ts (variant_type l) (value m) ≡ true) (setting-types D k) (subst (λ t. has g.types t (value m) ≡ true) (sym (type_is l.variant)) (valued m))

        good_there : LoopIsGood g l
        good_there =
            good_of_falling g closed l.guard l.variant (statements g l.body)
            (λ m. value_has (around first) (sequent_outermost D first []) ls l w fin g fits m (valued m)) above
            (λ m e.
            let s : State = context (value m ∷ []) [] in
            let said = (without_modules D (form_of turn) k s (goal_front (around second) ls ls turn turn_over)).0 (falls (value m ∷ []) (is_value m, tt) [] tt) (trying g) (is_fair g) in
            let stands = (exact (around second) g suits (trying g) (is_fair g) s ls ls turn turn_over).0 said in
            falls_from (around second) (sequent_outermost D second []) ls l v fin g suits s m refl stands e)

      shown : IsShownBy D l
      shown = record {
        typed = goals_typed;
        good = λ h w size table m.
            let i = interpretation w size table in
            let bs = declared_modules D in
            let fits = each_setting D scoped first tt [] w size table m in
            let suits = each_setting D scoped second tt [] w size table m in
            let one = both D bs i (λ k. IsSettingOf (around first) (setting D k)) (IsTrueSequent D first) (λ k. IsSettingOf (around first) (setting D k) × IsTrueSequent D first k) (λ k x y. (x, y)) fits (h.0 w size table m) in
            let two = both D bs i (λ k. IsSettingOf (around second) (setting D k)) (IsTrueSequent D second) (λ k. IsSettingOf (around second) (setting D k) × IsTrueSequent D second k) (λ k x y. (x, y)) suits (h.1.0 w size table m) in
            both D bs i _ _ (λ k. LoopIsGood (setting D k) l) (λ k x y. good_there k x.0 y.0 x.1 y.1) one two;
      }

  -- where the declarations have a model
  module _ (world : World) (size : Name → ℕ) (table : Table) (model : IsModel D (interpretation world size table)) (r : ProcRef) (a : Proc) (there : procedure_of ds r ≡ Some a) where
    typed_at : (q : Sequent) → AreBinders (context_of D) q.modules → IsTypedThere (around q) r a
    typed_at q w = typed_there ds scoped q w [] r a there

    abbrev at_type : Ty → Sequent
    at_type t = over_one (record { name = []; ty = t }) (zero_of t)

    finite_variant : (l : Loop) → IsTypedLoop (around (over_none (zero_of ty.Bool))) (locals_of a) l → IsFinite (type_of l.variant)
    finite_variant l w =
        let q = over_none (zero_of ty.Bool) in
        let i = interpretation world size table in
        let g = setting D i in
        let fits : IsSettingOf (around q) g =
        subst (λ bs. EachProgram D bs i (λ k. IsSettingOf (around q) (setting D k))) (no_section ds firm) (each_setting D scoped q tt [] world size table model) in
        let c = of_program (around q) (locals_of a) in
        let e = w.variant in
        let f = fits_program (around q) g fits (locals_of a) in
        finite_modulo g.types (type_of l.variant) w.modulo (val g quiet l.variant (inside closed closed.own))
        (typed_meaning (erased c) g f.types quiet quiet_fractional l.variant (erased_typed c l.variant e.typed) (inside closed closed.own) (state_inside (around q) g (locals_of a) closed closed.own))

    -- each loop of a declared procedure is shown to be good by its goals
    pub each_shown : AllByRecursion (IsShownBy D) (loops a.body.list)
    each_shown =
        let ls = locals_of a in
        let none = over_none (zero_of ty.Bool) in
        let b = typed_at none tt in
        let p = b.typed in
        let t = p.body in
        paired (IsTypedLoop (around none) ls) (λ l. IsTypedLoop (around (at_type (variant_type l))) ls l) (IsShownBy D)
        (λ l w v. shown ls t.locals l w v (finite_variant l w)) (loops a.body.list)
        (loops_typed (around none) ls a.body.list t.statements)
        (own (λ u l. IsTypedLoop (around (at_type u)) ls l) variant_type (loops a.body.list)
        (λ u. let x = typed_at (at_type u) tt in let y = x.typed in let z = y.body in loops_typed (around (at_type u)) ls a.body.list z.statements))
