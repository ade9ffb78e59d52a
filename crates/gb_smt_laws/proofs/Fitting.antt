-- Typed forms and formulas fit a reading that gives what they read its type in their context.
use Rattle.std.proofs.Common.{◌≡◌, ℕ, zero, suc, Bool, true, false, if◌then◌else◌, Option, Some, None, List, [], ◌∷◌, refl, ap, sym, ◌∙◌, subst}
use Rattle.gb_core.specs.declared.ty.Ty.{Ty}
use Rattle.gb_core.specs.declared.ty.Ty.TheVariants as ty
use Rattle.gb_core.specs.declared.value.Value.{Value}
use Rattle.gb_core.specs.declared.var.Var.{Var}
use Rattle.gb_core.specs.declared.var.Var.TheVariants as var
use Rattle.gb_terms.specs.declared.op.Op.{Op}
use Rattle.gb_terms.specs.declared.op.Op.TheVariants as op
use Rattle.gb_terms.specs.declared.op.Side.{Side}
use Rattle.gb_terms.specs.declared.op.Side.TheVariants as side
use Rattle.gb_terms.specs.declared.op.Read.{Read}
use Rattle.gb_terms.specs.declared.op.Read.TheVariants.{Logical, Program}
use Rattle.gb_terms.specs.declared.term.Term.{Term, Term', Row_of-Term, end_of-Term, more_of-Term, end_of-Head, more_of-Head}
use Rattle.gb_terms.specs.declared.term.Head.TheVariants as head
use Rattle.gb_terms.specs.declared.module.Mexp.TheVariants.{Name as named}
use Rattle.gb_meaning.specs.Names.{Name, get}
use Rattle.gb_meaning.specs.Memory.{Memory, read}
use Rattle.gb_meaning.specs.Setting.{Setting}
use Rattle.gb_meaning.specs.Terms.{denominators}
use Rattle.gb_meaning.specs.Values.{Types, values, first, has, fit}
use Rattle.gb_meaning.specs.Operators.{outcome_type}
use Rattle.gb_meaning.specs.Written.{local_type, type_of}
use Rattle.gb_laws.specs.Finite.{IsFinite, IsInhabited}
use Rattle.gb_laws.specs.Operators.{IsNoDistribution, IsOperator}
use Rattle.gb_laws.specs.Typing.{Binder, types_of, IsHead}
use Rattle.gb_laws.specs.Typing.Binder.{value, index, memory}
use Rattle.gb_laws.proofs.Denominators.{denominator_one}
use Rattle.gb_laws.proofs.Sizes.{first_has, glob_in}
use Rattle.gb_meaning.specs.Programs.{AreOnce}
use Rattle.gb_meaning.specs.Truth.{last_has_module, Choice}
use Rattle.gb_typing.specs.Context.{Frame, Context, erased, frame_of, within}
use Rattle.gb_typing.specs.Typing.{IsIn, IsNamed, last, IsTyped, AreTyped}
use Rattle.gb_typing.specs.Formulas.{IsFirstForm, IsFormula, IsLastFormula}
use Rattle.gb_typing.specs.Sequents.{IsConclusion}
use Rattle.gb_typing.proofs.Erased.{erased_typed}
use Rattle.gb_labels.specs.Memories.{IsReadable}
use Rattle.gb_smt_laws.specs.Reading.{Variables, no_variables, Reading, IsReadAt, inner, AreHeld}
use Rattle.gb_smt_laws.specs.Fits.{IsOfValues, Fits, AllFit, OnlyFits, BothFit}
use Rattle.gb_smt_laws.proofs.Equations.{none_some, some_some}
use Rattle.gb_smt_laws.proofs.Globless.{are_globless}
use mathlib.Core.Former.{Count}

-- The reading of a context.

-- the type of a variable in a memory with these locals
abbrev type_in : Context → Frame → Var → Option Ty
type_in c None x = None
type_in c (Some ls) (var.Local x) = local_type ls x
type_in c (Some ls) (var.Global m x) = c.global m x
type_in c (Some ls) (var.Glob a) = if c.has_globals a then Some (ty.Glob a) else None

-- the type, if it has values
abbrev with_values : Types → Option Ty → Option Ty
with_values t None = None
with_values t (Some u) = if has t u (first t u) then Some u else None

-- the variables of a memory with these locals, each at its type if that has values
abbrev pub variables_in : Setting → Context → Frame → Variables
variables_in g c f x = with_values g.types (type_in c f x)

-- a variable that stands in a memory has its type there
pub in_type : (c : Context) (f : Frame) (x : Var) (u : Ty) → IsIn c f x u → type_in c f x ≡ Some u
in_type c None (var.Local x) u s = s
in_type c None (var.Global m x) u s = absurd s.0
in_type c None (var.Glob a) u s = absurd s.0
in_type c (Some ls) (var.Local x) u s = s
in_type c (Some ls) (var.Global m x) u s = s.1
in_type c (Some ls) (var.Glob a) u s = ap (λ (b : Bool). if b then Some (ty.Glob a) else None) s.1 ∙ ap Some (sym s.2)

-- it stands in it also outside of a binder
in_within : (c : Context) (b : Binder) (e f : Frame) (x : Var) (u : Ty) → IsIn (within c b e) f x u → IsIn c f x u
in_within c b e f (var.Local x) u s = s
in_within c b e f (var.Global m x) u s = s
in_within c b e f (var.Glob a) u s = s

-- what a type with values gives
with_values_some : (t : Types) (o : Option Ty) (u : Ty) → with_values t o ≡ Some u → (o ≡ Some u) × (has t u (first t u) ≡ true)
with_values_some t None u e = none_some u e
with_values_some t (Some v) u e = step (has t v (first t v)) refl e
  where
    step : (b : Bool) → has t v (first t v) ≡ b → (if b then Some v else None) ≡ Some u → (Some v ≡ Some u) × (has t u (first t u) ≡ true)
    step true h e = (e, subst (λ w. has t w (first t w) ≡ true) (some_some v u e) h)
    step false h e = none_some u e

-- what fits has the type, where its first value has
fitted : (t : Types) (u : Ty) → has t u (first t u) ≡ true → (v : Option Value) → has t u (fit t u v) ≡ true
fitted t u h None = h
fitted t u h (Some v) = step (has t u v) refl
  where
    step : (b : Bool) → has t u v ≡ b → has t u (if b then v else first t u) ≡ true
    step true e = e
    step false e = h

-- The reading gives each variable of the context its type.
pub record Agrees (c : Context) (T : Reading) : Type 0 where
  pub logical : (i : ℕ) (u : Ty) → c.logical i ≡ Some u → T.logical i ≡ Some u
  pub memory : (r : Side) (x : Var) (u : Ty) → IsIn c (frame_of c r) x u → IsFinite u → T.memory r x ≡ Some u

by_choice : {A B C : Type 0} (b : Bool) → (A → C) → (B → C) → Choice b A B → C
by_choice true f h x = f x
by_choice false f h x = h x

module _ (g : Setting) (inhabited : IsInhabited g.types) (once : (a : Name) → AreOnce (g.types.footprint (named a))) where
  read_whole : (c : Context) (ls : _) (x : Var) (u : Ty) → type_in c (Some ls) x ≡ Some u → IsReadable g.types x u
  read_whole c ls (var.Local x) u e = tt
  read_whole c ls (var.Global p x) u e = tt
  read_whole c ls (var.Glob a) u e = (once a, are_globless (g.types.footprint (named a)) (inhabited.globals (named a)), step (c.has_globals a) e)
    where
      step : (b : Bool) → (if b then Some (ty.Glob a) else None) ≡ Some u → values g.types u ≡ values g.types (ty.Glob a)
      step true e = ap (values g.types) (sym (some_some (ty.Glob a) u e))
      step false e = none_some u e

  read_held : (c : Context) (ls : _) (x : Var) (u : Ty) → type_in c (Some ls) x ≡ Some u → has g.types u (first g.types u) ≡ true → (m : Memory) →
      has g.types u (read g.types m x u) ≡ true
  read_held c ls (var.Local x) u e h m = fitted g.types u h (get m.frame (x ∷ []))
  read_held c ls (var.Global p x) u e h m = fitted g.types u h (get m.globals (p ∷ x ∷ []))
  read_held c ls (var.Glob a) u e h m = step (c.has_globals a) e
    where
      step : (b : Bool) → (if b then Some (ty.Glob a) else None) ≡ Some u → has g.types u (read g.types m (var.Glob a) u) ≡ true
      step true e = subst (λ w. has g.types w (read g.types m (var.Glob a) w) ≡ true) (some_some (ty.Glob a) u e) (glob_in g.types inhabited m a)
      step false e = none_some u e

  -- memories give each variable of a frame the values of its type
  pub held : (c : Context) (f : Frame) → AreHeld g (variables_in g c f)
  held c None x u e = none_some u e
  held c (Some ls) x u e = let w = with_values_some g.types (type_in c (Some ls) x) u e in (read_whole c ls x u w.0, read_held c ls x u w.0 w.1)

  -- a variable of a frame is read at its type
  pub in_frame : (c : Context) (f : Frame) (x : Var) (u : Ty) → IsIn c f x u → IsFinite u → variables_in g c f x ≡ Some u
  in_frame c f x u s k =
      ap (with_values g.types) (in_type c f x u s) ∙ ap (λ (b : Bool). if b then Some u else None) (first_has g.types inhabited u k)

  module _ (c : Context) (T : Reading) (a : Agrees c T) where
    memory_under : (b : Binder) (f : Frame) (r : Side) (x : Var) (u : Ty) → IsIn (within c b f) (frame_of (within c b f) r) x u → IsFinite u →
        (inner (variables_in g c f) T).memory r x ≡ Some u
    memory_under b f side.Own x u s k = a.memory side.Own x u (in_within c b f _ x u s) k
    memory_under b f side.Left x u s k = a.memory side.Left x u (in_within c b f _ x u s) k
    memory_under b f side.Right x u s k = a.memory side.Right x u (in_within c b f _ x u s) k
    memory_under b f (side.Memory i) x u s k = a.memory (side.Memory i) x u (in_within c b f _ x u s) k
    memory_under b f (side.Bound zero) x u s k = in_frame c f x u (in_within c b f _ x u s) k
    memory_under b f (side.Bound (suc i)) x u s k = a.memory (side.Bound i) x u (in_within c b f _ x u s) k

    agrees_under : (b : Binder) (f : Frame) → Agrees (within c b f) (inner (variables_in g c f) T)
    agrees_under b f = record { logical = a.logical; memory = memory_under b f }

    read_fits : (r : Read) (us : _) (u : Ty) → IsHead (erased c) (head.Read r) us u → IsNamed c (head.Read r) u → IsReadAt T r u
    read_fits (Logical i) [] u w s = a.logical i u w.1
    read_fits (Program (var.Local x) r) [] u w s = a.memory r (var.Local x) u s w.1
    read_fits (Program (var.Global m x) r) [] u w s = a.memory r (var.Global m x) u s w.1
    read_fits (Program (var.Glob m) r) [] u w s = a.memory r (var.Glob m) u s (subst IsFinite (sym w.1) refl)
    read_fits r (t ∷ us) u w s = absurd w

  of_values : {n : Count} (c : Context) (o : Op) (ts : Row_of-Term n) (u : Ty) → IsOperator o (types_of ts) u → AreTyped c c c ts →
      IsOfValues o (denominators g ts)
  of_values c op.Equal (more_of-Term t (more_of-Term v end_of-Term)) u w k = (
    denominator_one g (erased c) t (erased_typed c t k.0) w.0,
    denominator_one g (erased c) v (erased_typed c v k.1) (subst IsNoDistribution w.1 w.0),
  )
  of_values c op.Equal end_of-Term u w k = tt
  of_values c op.Equal (more_of-Term t end_of-Term) u w k = tt
  of_values c op.Equal (more_of-Term t (more_of-Term v (more_of-Term x ts))) u w k = tt
  of_values c _ ts u w k = tt

  mutual
    pub fits : (c : Context) (T : Reading) → Agrees c T → (t : Term) → IsTyped c t → Fits g T t
    fits c T a (Term' p (more_of-Head (head.Read r) end_of-Head) n ts u) w = read_fits c T a r (types_of ts) u w.0 w.1
    fits c T a (Term' p (more_of-Head (head.Builtin o) end_of-Head) n ts u) w = (of_values c o ts u w.0 w.3, all_fit c T a ts w.3)
    fits c T a (Term' p (more_of-Head (head.All v) end_of-Head) n ts u) w =
        only_fits c c (within c (value v) None) (inner no_variables T) (agrees_under c T a (value v) None) ts w.3
    fits c T a (Term' p (more_of-Head (head.Some v) end_of-Head) n ts u) w =
        only_fits c c (within c (value v) None) (inner no_variables T) (agrees_under c T a (value v) None) ts w.3
    fits c T a (Term' p (more_of-Head (head.User v) end_of-Head) n ts u) w = all_fit c T a ts w.3
    fits c T a (Term' p (more_of-Head (head.Weights ps) end_of-Head) n ts u) w = all_fit c T a ts w.3
    fits c T a (Term' p (more_of-Head (head.Sum q) end_of-Head) n ts u) w =
        only_fits c c (within c (index q) None) (inner no_variables T) (agrees_under c T a (index q) None) ts w.3
    fits c T a (Term' p (more_of-Head head.Mu end_of-Head) n ts u) w = outcomes_fit c T a (last c w.2 head.Mu) (λ v vs. refl) ts w.3
    fits c T a (Term' p (more_of-Head head.Map end_of-Head) n ts u) w = outcomes_fit c T a (last c w.2 head.Map) (λ v vs. refl) ts w.3
    fits c T a (Term' p (more_of-Head head.Restrict end_of-Head) n ts u) w = outcomes_fit c T a (last c w.2 head.Restrict) (λ v vs. refl) ts w.3
    fits c T a (Term' p (more_of-Head head.AllMemory end_of-Head) n ts u) w = (
      variables_in g c (Some w.2),
      held c (Some w.2),
      only_fits c c (within c memory (Some w.2)) (inner (variables_in g c (Some w.2)) T) (agrees_under c T a memory (Some w.2)) ts w.3,
    )
    fits c T a (Term' p (more_of-Head head.SomeMemory end_of-Head) n ts u) w = (
      variables_in g c (Some w.2),
      held c (Some w.2),
      only_fits c c (within c memory (Some w.2)) (inner (variables_in g c (Some w.2)) T) (agrees_under c T a memory (Some w.2)) ts w.3,
    )
    fits c T a (Term' p (more_of-Head _ end_of-Head) n ts u) w = tt

    all_fit : {n : Count} (c : Context) (T : Reading) → Agrees c T → (ts : Row_of-Term n) → AreTyped c c c ts → AllFit g T ts
    all_fit c T a end_of-Term w = tt
    all_fit c T a (more_of-Term t end_of-Term) w = (fits c T a t w, tt)
    all_fit c T a (more_of-Term t (more_of-Term v ts)) w = (fits c T a t w.0, all_fit c T a (more_of-Term v ts) w.1)

    only_fits : {n : Count} (a b d : Context) (T : Reading) → Agrees d T → (ts : Row_of-Term n) → AreTyped a b d ts → OnlyFits g T ts
    only_fits a b d T k end_of-Term w = tt
    only_fits a b d T k (more_of-Term t end_of-Term) w = fits d T k t w
    only_fits a b d T k (more_of-Term t (more_of-Term v ts)) w = tt

    -- a distribution, and what is said of its outcomes
    outcomes_fit : {n : Count} (c : Context) (T : Reading) → Agrees c T → (d : List Ty → Context) →
        ((v : Ty) (vs : List Ty) → d (v ∷ vs) ≡ within c (value (outcome_type v)) None) → (ts : Row_of-Term n) → AreTyped c c (d (types_of ts)) ts → BothFit g T ts
    outcomes_fit c T a d e end_of-Term w = tt
    outcomes_fit c T a d e (more_of-Term t end_of-Term) w = tt
    outcomes_fit c T a d e (more_of-Term t (more_of-Term v end_of-Term)) w = (
      fits c T a t w.0,
      fits (within c (value (outcome_type (type_of t))) None) (inner no_variables T) (agrees_under c T a (value (outcome_type (type_of t))) None) v
          (subst (λ b. IsTyped b v) (e (type_of t) (type_of v ∷ [])) w.1),
    )
    outcomes_fit c T a d e (more_of-Term t (more_of-Term v (more_of-Term z ts))) w = tt

  -- Formulas.
  mutual
    formula_fits : (c : Context) (T : Reading) → Agrees c T → (t : Term) → IsFormula c t → Fits g T t
    formula_fits c T a (Term' p (more_of-Head (head.AllModule b) end_of-Head) n ts u) w = tt
    formula_fits c T a (Term' p (more_of-Head (head.All v) end_of-Head) n ts u) w =
        by_choice (last_has_module ts) (λ w. last_fits (within c (value v) None) (inner no_variables T) (agrees_under c T a (value v) None) ts w.1)
        (λ w. fits c T a (Term' p (more_of-Head (head.All v) end_of-Head) n ts u) w.typed) w
    formula_fits c T a (Term' p (more_of-Head head.AllMemory end_of-Head) n ts u) w =
        by_choice (last_has_module ts)
        (λ w. (
          variables_in g c (Some w.1),
          held c (Some w.1),
          last_fits (within c memory (Some w.1)) (inner (variables_in g c (Some w.1)) T) (agrees_under c T a memory (Some w.1)) ts w.2,
        ))
        (λ w. fits c T a (Term' p (more_of-Head head.AllMemory end_of-Head) n ts u) w.typed) w
    formula_fits c T a (Term' p (more_of-Head (head.Builtin op.Implies) end_of-Head) n ts u) w =
        by_choice (last_has_module ts) (λ w. (tt, both_fit c T a ts u w.0 w.1 w.2))
        (λ w. fits c T a (Term' p (more_of-Head (head.Builtin op.Implies) end_of-Head) n ts u) w.typed) w
    formula_fits c T a (Term' p (more_of-Head h end_of-Head) n ts u) w = fits c T a (Term' p (more_of-Head h end_of-Head) n ts u) w.typed

    last_fits : {n : Count} (c : Context) (T : Reading) → Agrees c T → (ts : Row_of-Term n) → IsLastFormula c ts → OnlyFits g T ts
    last_fits c T a end_of-Term w = tt
    last_fits c T a (more_of-Term t end_of-Term) w = formula_fits c T a t w
    last_fits c T a (more_of-Term t (more_of-Term v ts)) w = tt

    -- a premise, and what it is one of
    both_fit : {n : Count} (c : Context) (T : Reading) → Agrees c T → (ts : Row_of-Term n) (u : Ty) → IsOperator op.Implies (types_of ts) u →
        IsFirstForm c ts → IsLastFormula c ts → AllFit g T ts
    both_fit c T a end_of-Term u w x y = tt
    both_fit c T a (more_of-Term t end_of-Term) u w x y = absurd w
    both_fit c T a (more_of-Term t (more_of-Term v end_of-Term)) u w x y = (fits c T a t x.typed, (formula_fits c T a v y, tt))
    both_fit c T a (more_of-Term t (more_of-Term v (more_of-Term z ts))) u w x y = absurd w

  -- evaluation knows nothing of judgments
  pub conclusion_fits : (c : Context) (T : Reading) → Agrees c T → (t : Term) → IsConclusion c t → Fits g T t
  conclusion_fits c T a (Term' p (more_of-Head (head.Hoare s) end_of-Head) n ts u) w = tt
  conclusion_fits c T a (Term' p (more_of-Head (head.Phoare s r) end_of-Head) n ts u) w = tt
  conclusion_fits c T a (Term' p (more_of-Head (head.Equiv s v) end_of-Head) n ts u) w = tt
  conclusion_fits c T a (Term' p (more_of-Head h end_of-Head) n ts u) w = formula_fits c T a (Term' p (more_of-Head h end_of-Head) n ts u) w
