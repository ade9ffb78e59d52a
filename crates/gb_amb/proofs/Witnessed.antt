-- A term of a value's type makes an `exists` true.
use Rattle.std.proofs.Common.{◌≡◌, ℕ, zero, suc, true, List, [], ◌∷◌, None, refl, ap, sym, ◌∙◌, subst}
use Rattle.gb_core.specs.declared.ty.Ty.{Ty}
use Rattle.gb_core.specs.declared.value.Value.{Value}
use Rattle.gb_terms.specs.declared.op.Side.{Side}
use Rattle.gb_terms.specs.declared.op.Side.TheVariants as side
use Rattle.gb_terms.specs.declared.term.Term.{Term}
use Rattle.gb_terms.specs.declared.term.Head.TheVariants as head
use Rattle.gb_terms.specs.Make.{node}
use Rattle.gb_walk.specs.declared.change.Change.TheVariants.{OfBound}
use Rattle.gb_walk.specs.Change.{Changes, found_for_bound, term_changed}
use Rattle.gb_meaning.specs.Meanings.{truth}
use Rattle.gb_meaning.specs.Setting.{Setting}
use Rattle.gb_meaning.specs.Setting.Meaning.{finite}
use Rattle.gb_meaning.specs.State.{State, binding, meaning_in, memory_of, under}
use Rattle.gb_meaning.specs.State.Binding.{value as value_bound}
use Rattle.gb_meaning.specs.Terms.{val}
use Rattle.gb_meaning.specs.Values.{has}
use Rattle.gb_meaning.specs.Written.{type_of}
use Rattle.gb_meaning.specs.Judgments.{Judge, IsFair, speaking, den}
use Rattle.gb_meaning.proofs.Truths.{true_some}
use Rattle.gb_laws.specs.Led.{put}
use Rattle.gb_meaning.specs.Declared.{Declarations}
use Rattle.gb_meaning.specs.Settings.{setting}
use Rattle.gb_meaning.proofs.Fronts.{without_modules}
use Rattle.gb_laws.specs.Finite.{IsFinite}
use Rattle.gb_laws.specs.Typing.{IsBoundAt, IsSide}
use Rattle.gb_laws.specs.Typing.Binder.{value}
use Rattle.gb_laws.proofs.Denominators.{denominator_one}
use Rattle.gb_typing.specs.Context.{Context, Frame, erased, frame_of, within}
use Rattle.gb_typing.specs.Typing.{IsFrame, IsTyped, IsForm}
use Rattle.gb_typing.specs.Fits.{IsSettingOf}
use Rattle.gb_typing.specs.Changes.{binder, IsMemoryIn}
use Rattle.gb_typing.proofs.Erased.{erased_typed}
use Rattle.gb_typing.proofs.Fitting.{fits_within}
use Rattle.gb_typing.proofs.Formed.{formed}
use Rattle.gb_typing.proofs.Made.{parts_typed}
use Rattle.gb_typing.proofs.Sound.{procedures_sound, sound_form}
use Rattle.gb_typing.proofs.Substituted.{finite_no_distribution}
use Rattle.gb_goal.specs.Goal.Goal.{ambient}
use Rattle.gb_typing.proofs.TypedGoals.{goal_conclusion, no_module as front_of}
use Rattle.gb_amb.proofs.Filled.{Filled, Fills, filled}
use Rattle.gb_amb.proofs.Itself.{finite_value}
use Rattle.gb_amb.proofs.Meant.{IsFit, Meets, means_filled}
use Rattle.gb_amb.proofs.Premises.{Follows}
use Rattle.gb_amb.proofs.Wider.{small}

-- A term of a goal in place of what is bound.
module _ (b : Context) (us : List Ty) (ns : List Frame) (e : Term) (w : IsTyped (small b us ns) e) (u : Ty) (is : type_of e ≡ u) where
  abbrev c : Context
  c = small b us ns

  abbrev inner : Context
  inner = within c (value u) None

  abbrev to_term : Changes
  to_term = OfBound 0 e ∷ []

  fills : Fills to_term inner c
  fills = record {
    puts = (tt, tt);
    logical = λ i t k. k;
    global = λ m x t k. k;
    operator = λ n o k. k;
    procedure = λ p k. refl;
    has_globals = λ a k. k;
    sides = each;
    bounds = each_bound;
  }
    where
      each : (r : Side) → IsMemoryIn inner r → IsSide (erased c) r × (frame_of inner r ≡ frame_of c r)
      each side.Own k = (tt, refl)
      each side.Left k = (tt, refl)
      each side.Right k = (tt, refl)
      each (side.Memory i) k = (k.0, refl)
      each (side.Bound zero) k = absurd k.0
      each (side.Bound (suc i)) k = absurd k.0

      each_bound : (i : ℕ) (t : Ty) → IsBoundAt (binder inner i) t → Filled c t i (found_for_bound to_term i)
      each_bound zero t k = record { typed = w; written = is ∙ k.1 }
      each_bound (suc i) t k = absurd k

  pub body_typed : (f : Term) → IsForm inner f → IsForm c (term_changed f to_term)
  body_typed f z = let m = filled to_term inner c fills f z.typed in record { typed = m.typed; truth = m.written ∙ z.truth }

  module _ (g : Setting) (fits : IsSettingOf c g) (j : Judge) (fair : IsFair g j) (fin : IsFinite (type_of e)) (s : State) (v : Value) (means : val g (speaking g j) e s ≡ finite v) where
    meets : Meets g j fair inner to_term s (under s (value_bound (finite v)))
    meets = record { logical = λ i t k. refl; memories = each; bounds = each_bound }
      where
        each : (r : Side) → IsFrame (frame_of inner r) → memory_of s r ≡ memory_of (under s (value_bound (finite v))) r
        each side.Own k = refl
        each side.Left k = refl
        each side.Right k = refl
        each (side.Memory i) k = refl
        each (side.Bound zero) k = absurd k
        each (side.Bound (suc i)) k = absurd k

        each_bound : (i : ℕ) (t : Ty) → IsBoundAt (binder inner i) t →
            put g (speaking g j) (found_for_bound to_term i) (meaning_in (binding s i)) s ≡ meaning_in (binding (under s (value_bound (finite v))) i)
        each_bound zero t k = means
        each_bound (suc i) t k = absurd k

    fit : IsFit g c e
    fit = record { typed = w; denominator = denominator_one g (erased c) e (erased_typed c e w) (finite_no_distribution (type_of e) fin) }

    pub body_means : (f : Term) → IsForm inner f → val g (speaking g j) (term_changed f to_term) s ≡ val g (speaking g j) f (under s (value_bound (finite v)))
    body_means f z =
        means_filled g j fair f (formed inner f z.typed) (sound_form g inner (procedures_sound inner g (fits_within c g fits (value u) None)) f z.typed) inner c (procedures_sound c g fits) to_term (fit, tt) s
        (under s (value_bound (finite v))) meets z.typed

  -- The `exists` follows.
  module _ (ds : Declarations) (f : Term) (r : Ty) (whole : IsForm c (node (head.Some u) (f ∷ []) r)) where
    pub witness_follows : Follows ds c (node (head.Some u) (f ∷ []) r) (term_changed f to_term ∷ [])
    witness_follows =
        let p = parts_typed c (head.Some u) (f ∷ []) r whole.typed in
        let z : IsForm inner f = record { typed = p.3; truth = p.0.1.0 } in
        let made = body_typed f z in
        let fin = subst IsFinite (sym is) p.0.0 in
        record {
          typed = (goal_conclusion c [] [] (ambient (term_changed f to_term)) made, tt);
          leads = λ k fits s fit h.
              let g = setting ds k in
              (without_modules ds (node (head.Some u) (f ∷ []) r) k s (front_of c (node (head.Some u) (f ∷ []) r) whole.typed)).1
              (λ j fair.
              let v = finite_value c g fits j s fit e w fin in
              subst (λ r. den g j (node (head.Some u) (f ∷ []) r) s ≡ true) (sym p.0.1.1.0)
              ((true_some g j u f s).1 (
                v.0,
                subst (λ t. has g.types t v.0 ≡ true) is v.2,
                sym (ap truth (body_means g fits j fair fin s v.0 v.1 f z))
                    ∙ (without_modules ds (term_changed f to_term) k s (front_of c (term_changed f to_term) made.typed)).0 h.0 j fair,
              )));
        }
