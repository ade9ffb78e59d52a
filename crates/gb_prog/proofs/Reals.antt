-- A typed real is a fraction, also where it speaks of probabilities.
use Rattle.std.proofs.Common.{◌≡◌, ◌<◌, ℕ, zero, suc, Bool, Option, Some, None, List, ◌∷◌, refl, ap, sym, ◌∙◌, subst, arith}
use Rattle.std.proofs.Math.Path.{fun_ext}
use Rattle.std.proofs.lemmas.Bool.{false≢true}
use Rattle.gb_core.specs.declared.ty.Ty.{Ty}
use Rattle.gb_core.specs.declared.ty.Ty.TheVariants as ty
use Rattle.gb_core.specs.declared.value.Value.{Value}
use Rattle.gb_terms.specs.declared.module.ProcRef.{ProcRef}
use Rattle.gb_terms.specs.declared.term.Term.{Term, Term', Row_of-Term, end_of-Term, more_of-Term, end_of-Head, more_of-Head}
use Rattle.gb_terms.specs.declared.term.Head.{Head}
use Rattle.gb_terms.specs.declared.term.Head.TheVariants as head
use Rattle.gb_meaning.specs.Fractions.{Fraction}
use Rattle.gb_meaning.specs.Memory.{Memory}
use Rattle.gb_meaning.specs.Program.{Routine}
use Rattle.gb_meaning.specs.Setting.{Meaning, Setting}
use Rattle.gb_meaning.specs.Setting.Meaning.{finite, whole, fraction, weights}
use Rattle.gb_meaning.specs.Meanings.{fraction_in}
use Rattle.gb_meaning.specs.State.{State}
use Rattle.gb_meaning.specs.Terms.{Speaks, Part, at_head, denominator, val, parts}
use Rattle.gb_meaning.specs.Judgments.{Judge, speaking, probability, outcome_denominator, IsSoundIfThere, is_sound_at, IsSoundForm, AllSound}
use Rattle.gb_meaning.specs.Values.{Types}
use Rattle.gb_meaning.specs.Written.{type_of}
use Rattle.gb_meaning.proofs.Runs.{routine_positive}
use Rattle.gb_laws.specs.Context.{IsFractional}
use Rattle.gb_laws.specs.Meant.{IsOf}
use Rattle.gb_laws.proofs.Terms.{typed_meaning}
use Rattle.gb_typing.specs.Context.{Context, erased}
use Rattle.gb_typing.specs.Typing.{IsTyped}
use Rattle.gb_typing.specs.Fits.{IsSettingOf, IsStateOf}
use Rattle.gb_typing.proofs.Erased.{erased_typed}
use Rattle.gb_typing.proofs.Sound.{procedures_sound, sound_form}
use mathlib.Core.Former.{Count}

-- with a denominator above 0
abbrev above : Fraction → Fraction
above (n, zero) = (n, 1)
above (n, suc d) = (n, suc d)

above_positive : (a : Fraction) → 0 < (above a).1
above_positive (n, zero) = omega arith
above_positive (n, suc d) = omega arith

above_same : (a : Fraction) → 0 < a.1 → above a ≡ a
above_same (n, zero) h = absurd (none h)
  where
    none : 0 < 0 → ⊥
    none h = omega arith
above_same (n, suc d) h = refl

of_routine : (g : Setting) (o : Option Routine) → IsSoundIfThere g o → 0 < outcome_denominator g o
of_routine g (Some r) w = routine_positive g r w
of_routine g None w = absurd w

module _ (g : Setting) (j : Judge) where
  -- all probabilities have a denominator above 0, also those after procedures that there aren't
  abbrev guarded : Speaks
  guarded = record { judged = j; probability = λ p vs m e. above (probability g p vs m e) }

  guarded_fractional : IsFractional guarded
  guarded_fractional p vs m e = above_positive (probability g p vs m e)

  same_probability : (p : ProcRef) → IsSoundIfThere g (g.procedure p) → (vs : List Value) (m : Memory) (e : Memory → Bool) → above (probability g p vs m e) ≡ probability g p vs m e
  same_probability p w vs m e = above_same (probability g p vs m e) (of_routine g (g.procedure p) w)

  same_head : (t : Term) (h : Head) (xs : List Part) (u : Ty) (s : State) → is_sound_at g h → at_head g guarded t h xs u s ≡ at_head g (speaking g j) t h xs u s
  same_head t (head.Pr p r) xs u s w = ap fraction (same_probability p w _ _ _)
  same_head t (head.Lit v) xs u s w = refl
  same_head t (head.Whole n) xs u s w = refl
  same_head t (head.Read r) xs u s w = refl
  same_head t (head.Bound i) xs u s w = refl
  same_head t (head.Builtin o) xs u s w = refl
  same_head t (head.User n) xs u s w = refl
  same_head t (head.All v) xs u s w = refl
  same_head t (head.Some v) xs u s w = refl
  same_head t head.AllMemory xs u s w = refl
  same_head t head.SomeMemory xs u s w = refl
  same_head t (head.AllModule b) xs u s w = refl
  same_head t head.Mu xs u s w = refl
  same_head t (head.Sum q) xs u s w = refl
  same_head t (head.Weights ps) xs u s w = refl
  same_head t head.Map xs u s w = refl
  same_head t head.Restrict xs u s w = refl
  same_head t (head.Glob m r) xs u s w = refl
  same_head t (head.Hoare c) xs u s w = refl
  same_head t (head.Phoare c r) xs u s w = refl
  same_head t (head.Equiv c d) xs u s w = refl

  mutual
    same_val : (t : Term) → IsSoundForm g t → (s : State) → val g guarded t s ≡ val g (speaking g j) t s
    same_val (Term' p (more_of-Head h end_of-Head) n ts u) w s =
        ap (λ xs. at_head g guarded (Term' p (more_of-Head h end_of-Head) n ts u) h xs u s) (same_parts ts w.1)
        ∙ same_head (Term' p (more_of-Head h end_of-Head) n ts u) h (parts g (speaking g j) ts) u s w.0

    same_parts : {n : Count} (ts : Row_of-Term n) → AllSound g ts → parts g guarded ts ≡ parts g (speaking g j) ts
    same_parts end_of-Term w = refl
    same_parts (more_of-Term t ts) w =
        let e : (λ s. val g guarded t s) ≡ (λ s. val g (speaking g j) t s) = fun_ext (λ s. same_val t w.0 s) in
        (λ i. record { meaning = e i; denominator = denominator g t } ∷ same_parts ts w.1 i)

a_fraction : (t : Types) (x : Meaning) → IsOf t ty.Real x → x ≡ fraction (fraction_in x)
a_fraction t (fraction a) w = refl
a_fraction t (whole n) w = absurd w
a_fraction t (weights d) w = absurd w.0
a_fraction t (finite v) w = absurd (false≢true w)

above_of : (t : Types) (x : Meaning) → IsOf t ty.Real x → 0 < (fraction_in x).1
above_of t (fraction a) w = w.1
above_of t (whole n) w = absurd w
above_of t (weights d) w = absurd w.0
above_of t (finite v) w = absurd (false≢true w)

-- what a typed real means
module _ (c : Context) (g : Setting) (fits : IsSettingOf c g) (j : Judge) (s : State) (fit : IsStateOf c g s) where
  pub real_is : (b : Term) → IsTyped c b → type_of b ≡ ty.Real → val g (speaking g j) b s ≡ fraction (fraction_in (val g (speaking g j) b s))
  real_is b w r =
      let e = same_val g j b (sound_form g c (procedures_sound c g fits) b w) s in
      let m = typed_meaning (erased c) g fits.types (guarded g j) (guarded_fractional g j) b (erased_typed c b w) s fit in
      subst (λ x. x ≡ fraction (fraction_in x)) e (a_fraction g.types (val g (guarded g j) b s) (subst (λ u. IsOf g.types u (val g (guarded g j) b s)) r m))

  -- its denominator is above 0
  pub real_above : (b : Term) → IsTyped c b → type_of b ≡ ty.Real → 0 < (fraction_in (val g (speaking g j) b s)).1
  real_above b w r =
      let e = same_val g j b (sound_form g c (procedures_sound c g fits) b w) s in
      let m = typed_meaning (erased c) g fits.types (guarded g j) (guarded_fractional g j) b (erased_typed c b w) s fit in
      subst (λ (x : Meaning). 0 < (fraction_in x).1) e (above_of g.types (val g (guarded g j) b s) (subst (λ u. IsOf g.types u (val g (guarded g j) b s)) r m))
