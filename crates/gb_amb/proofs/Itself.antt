-- An equation or an equivalence of a typed term with itself is true, and typed terms mean values of their types.
use Rattle.std.proofs.Common.{◌≡◌, ℕ, zero, suc, pred, ◌<◌, Bool, true, false, List, [], ◌∷◌, Option, Some, None, refl, ap, sym, ◌∙◌, subst, arith}
use Rattle.std.proofs.Math.Path.{fun_ext}
use Rattle.std.proofs.lemmas.Bool.{false≢true}
use Rattle.std.proofs.lemmas.Bool.Decides.{Decides-int_eq}
use Rattle.gb_core.specs.declared.ty.Ty.{Ty}
use Rattle.gb_core.specs.declared.ty.Ty.TheVariants as ty
use Rattle.gb_core.specs.declared.value.Value.{Value}
use Rattle.gb_terms.specs.declared.module.ProcRef.{ProcRef}
use Rattle.gb_terms.specs.declared.op.Op.TheVariants as op
use Rattle.gb_terms.specs.declared.term.Term.{Term, Term', Row_of-Term, end_of-Term, more_of-Term, end_of-Head, more_of-Head}
use Rattle.gb_terms.specs.declared.term.Head.{Head}
use Rattle.gb_terms.specs.declared.term.Head.TheVariants as head
use Rattle.gb_terms.specs.Make.{node}
use Rattle.gb_meaning.specs.Fractions.{Fraction, crossed}
use Rattle.gb_meaning.specs.Program.{Routine}
use Rattle.gb_meaning.specs.Setting.{Meaning, Setting}
use Rattle.gb_meaning.specs.Setting.Meaning.{finite, whole, fraction, weights}
use Rattle.gb_meaning.specs.Meanings.{truth, same, value_in}
use Rattle.gb_meaning.specs.Operators.{alike}
use Rattle.gb_meaning.specs.State.{State}
use Rattle.gb_meaning.specs.Terms.{Part, Speaks, at_head, val, parts, denominator}
use Rattle.gb_meaning.specs.Written.{type_of}
use Rattle.gb_meaning.specs.Judgments.{Judge, speaking, probability, outcome_denominator, den, is_sound_at, IsSoundForm, IsSoundIfThere, AllSound}
use Rattle.gb_meaning.specs.Values.{Types, has}
use Rattle.gb_meaning.proofs.Nodes.{val_node}
use Rattle.gb_meaning.proofs.Runs.{routine_positive}
use Rattle.gb_meaning.proofs.Values.{value_eq-true}
use Rattle.gb_meaning.proofs.Truths.{truth_of}
use Rattle.gb_laws.specs.Context.{IsFractional}
use Rattle.gb_laws.specs.Finite.{IsFinite}
use Rattle.gb_laws.specs.Meant.{IsOf, IsOfDistributions}
use Rattle.gb_laws.specs.Operators.{IsNoDistribution}
use Rattle.gb_laws.proofs.Terms.{typed_meaning, typed_value, typed_has}
use Rattle.gb_typing.specs.Context.{Context, erased}
use Rattle.gb_typing.specs.Typing.{IsTyped, IsForm}
use Rattle.gb_typing.specs.Fits.{IsSettingOf, IsStateOf}
use Rattle.gb_typing.proofs.Erased.{erased_typed}
use Rattle.gb_typing.proofs.Made.{parts_typed}
use Rattle.gb_typing.proofs.Sound.{procedures_sound, sound_form}
use mathlib.Core.Former.{Count}

-- a fraction with a denominator above 0, which is the same where it has one
abbrev steady : Fraction → Fraction
steady a = (a.0, suc (pred a.1))

steady_is : (a : Fraction) → 0 < a.1 → a ≡ steady a
steady_is a h = ap (λ n. (a.0, n)) (counted a.1 h)
  where
    counted : (n : ℕ) → 0 < n → n ≡ suc (pred n)
    counted zero h = omega (arith, h)
    counted (suc n) h = refl

module _ (g : Setting) (j : Judge) where
  -- what programs say, with probabilities that are fractions in any case
  abbrev said : Speaks
  said = record { judged = j; probability = λ p vs m e. steady (probability g p vs m e) }

  said_fractional : IsFractional said
  said_fractional p vs m e = omega arith

  there : (p : ProcRef) → IsSoundIfThere g (g.procedure p) → 0 < outcome_denominator g (g.procedure p)
  there p w = step (g.procedure p) w
    where
      step : (o : Option Routine) → IsSoundIfThere g o → 0 < outcome_denominator g o
      step None w = absurd w
      step (Some r) w = routine_positive g r w

  at_head_said : (t : Term) (h : Head) (xs : List Part) (ty : Ty) (s : State) → is_sound_at g h → at_head g (speaking g j) t h xs ty s ≡ at_head g said t h xs ty s
  at_head_said t (head.Pr p r) xs ty s w = ap fraction (steady_is _ (there p w))
  at_head_said t _ xs ty s w = refl

  mutual
    -- a form of sound procedures means the same by them
    val_said : (t : Term) → IsSoundForm g t → (s : State) → val g (speaking g j) t s ≡ val g said t s
    val_said (Term' p (more_of-Head h end_of-Head) n ts ty) u s =
        ap (λ xs. at_head g (speaking g j) (Term' p (more_of-Head h end_of-Head) n ts ty) h xs ty s) (parts_said ts u.1)
        ∙ at_head_said (Term' p (more_of-Head h end_of-Head) n ts ty) h (parts g said ts) ty s u.0

    parts_said : {n : Count} (ts : Row_of-Term n) → AllSound g ts → parts g (speaking g j) ts ≡ parts g said ts
    parts_said end_of-Term u = refl
    parts_said (more_of-Term t ts) u =
        let one : ◌≡◌ {A = State → Meaning} (λ s. val g (speaking g j) t s) (λ s. val g said t s) = fun_ext (λ s. val_said t u.0 s) in
        let two = parts_said ts u.1 in
        λ k. (let x : Part = record { meaning = one k; denominator = denominator g t } in x) ∷ two k

-- a meaning of no type of distributions is the same as itself
same_itself : (ts : Types) (t : Ty) (x : Meaning) → IsOf ts t x → IsNoDistribution t → same x x ≡ true
same_itself ts t (finite v) w n = (value_eq-true v v).1 refl
same_itself ts t (whole i) w n = (Decides-int_eq i i).1 refl
same_itself ts t (fraction a) w n = (Decides-int_eq (crossed a a) (crossed a a)).1 refl
same_itself ts t (weights d) w n = none t w.0 n
  where
    none : (t : Ty) → IsOfDistributions t → IsNoDistribution t → same (weights d) (weights d) ≡ true
    none (ty.Distr' p x) w n = absurd n
    none _ w n = absurd w

fraction_of : (ts : Types) (x : Meaning) → IsOf ts ty.Real x → (a : Fraction) × (x ≡ fraction a)
fraction_of ts (finite v) w = absurd (false≢true w)
fraction_of ts (whole n) w = absurd w
fraction_of ts (fraction a) w = (a, refl)
fraction_of ts (weights d) w = absurd w.0

alike_itself : (b : Bool) → alike b b ≡ true
alike_itself true = refl
alike_itself false = refl

pub equivalence_true : (g : Setting) (j : Judge) (s : State) (a : Term) (t : Ty) → den g j (node (head.Builtin op.Iff) (a ∷ a ∷ []) t) s ≡ true
equivalence_true g j s a t =
    ap truth (val_node g (speaking g j) (head.Builtin op.Iff) (a ∷ a ∷ []) t s)
    ∙ truth_of (alike (den g j a s) (den g j a s)) ∙ alike_itself (den g j a s)

module _ (c : Context) (g : Setting) (fits : IsSettingOf c g) (j : Judge) (s : State) (fit : IsStateOf c g s) (a : Term) where
  pub equation_true : (t : Ty) → IsForm c (node (head.Builtin op.Equal) (a ∷ a ∷ []) t) → den g j (node (head.Builtin op.Equal) (a ∷ a ∷ []) t) s ≡ true
  equation_true t w =
      let k = parts_typed c (head.Builtin op.Equal) (a ∷ a ∷ []) t w.typed in
      let m = typed_meaning (erased c) g fits.types (said g j) (said_fractional g j) a (erased_typed c a k.3.0) s fit in
      let e = val_said g j a (sound_form g c (procedures_sound c g fits) a k.3.0) s in
      ap truth (val_node g (speaking g j) (head.Builtin op.Equal) (a ∷ a ∷ []) t s)
      ∙ truth_of (same (val g (speaking g j) a s) (val g (speaking g j) a s))
      ∙ ap (λ x. same x x) e ∙ same_itself g.types (type_of a) (val g (said g j) a s) m k.0.0

  -- a term of a finite type means a value of it
  pub finite_value : IsTyped c a → IsFinite (type_of a) → (v : Value) × (val g (speaking g j) a s ≡ finite v) × (has g.types (type_of a) v ≡ true)
  finite_value w n =
      let e = val_said g j a (sound_form g c (procedures_sound c g fits) a w) s in
      let k = erased_typed c a w in (
        value_in (val g (said g j) a s),
        e ∙ typed_value (erased c) g fits.types (said g j) (said_fractional g j) a k n s fit,
        typed_has (erased c) g fits.types (said g j) (said_fractional g j) a k n s fit,
      )

  -- a typed term means something of its type
  pub meaning_is_of : IsTyped c a → IsOf g.types (type_of a) (val g (speaking g j) a s)
  meaning_is_of w =
      subst (IsOf g.types (type_of a)) (sym (val_said g j a (sound_form g c (procedures_sound c g fits) a w) s))
      (typed_meaning (erased c) g fits.types (said g j) (said_fractional g j) a (erased_typed c a w) s fit)

  -- a real means a fraction
  pub real_value : IsTyped c a → type_of a ≡ ty.Real → (x : Fraction) × (val g (speaking g j) a s ≡ fraction x)
  real_value w n = fraction_of g.types (val g (speaking g j) a s) (subst (λ t. IsOf g.types t (val g (speaking g j) a s)) n (meaning_is_of w))
