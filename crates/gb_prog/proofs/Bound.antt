-- A term that reads nothing of the own memory means the same whatever that memory is, and is typed where it has locals.
use Rattle.std.proofs.Common.{◌≡◌, ◌<◌, Bool, true, false, not, ◌&&◌, pos, List, [], ◌∷◌, inl, inr, Option, Some, None, refl, ap, sym, ◌∙◌}
use Rattle.std.proofs.lemmas.Bool.{false≢true}
use Rattle.gb_core.specs.declared.ty.Ty.{Ty}
use Rattle.gb_core.specs.declared.ty.Ty.TheVariants as ty
use Rattle.gb_dist.specs.WeightedList.{unit}
use Rattle.gb_terms.specs.declared.decl.TypedName.{TypedName}
use Rattle.gb_terms.specs.declared.op.Op.TheVariants as op
use Rattle.gb_terms.specs.declared.op.Rel.{Rel}
use Rattle.gb_terms.specs.declared.op.Rel.TheVariants.{AtMost}
use Rattle.gb_terms.specs.declared.term.Head.TheVariants.{Builtin}
use Rattle.gb_terms.specs.declared.op.Read.TheVariants.{Logical, Program}
use Rattle.gb_terms.specs.declared.term.Term.{Term}
use Rattle.gb_walk.specs.Change.{is_own}
use Rattle.gb_meaning.specs.Memory.{Memory, read, read_globals}
use Rattle.gb_meaning.specs.Setting.{Setting}
use Rattle.gb_meaning.specs.Setting.Meaning.{finite, fraction}
use Rattle.gb_meaning.specs.Fractions.{Fraction}
use Rattle.gb_meaning.specs.Meanings.{fraction_in}
use Rattle.gb_meaning.specs.State.{State, at}
use Rattle.gb_meaning.specs.Terms.{val}
use Rattle.gb_meaning.specs.Judgments.{Judge, IsFair, speaking, den, chance, compares}
use Rattle.gb_meaning.specs.Written.{type_of}
use Rattle.gb_laws.specs.Agree.{Agree}
use Rattle.gb_laws.specs.Uses.{besides_own, every_use}
use Rattle.gb_laws.specs.Uses.Use.{read as reads, bound, globals, starts, binds_own, binds_sides}
use Rattle.gb_laws.proofs.Agreeing.{form_agrees}
use Rattle.gb_laws.proofs.Entering.{at_other}
use Rattle.gb_typing.specs.Context.{Context, with_own}
use Rattle.gb_typing.specs.Typing.{IsTyped}
use Rattle.gb_typing.specs.Changes.{Made}
use Rattle.gb_typing.specs.Fits.{IsSettingOf, IsStateOf}
use Rattle.gb_typing.proofs.Fitting.{fits_reframed}
use Rattle.gb_typing.proofs.Formed.{formed}
use Rattle.gb_typing.proofs.Sound.{procedures_sound, sound_form}
use Rattle.gb_typing.proofs.Made.{parts_typed}
use Rattle.gb_typing.proofs.Uses.{term_within, admits_besides_own}
use Rattle.gb_typing.specs.Forms.{implies_form, not_form}
use Rattle.gb_typing.proofs.Forms.{and_use, implies_use, not_make}
use Rattle.gb_typing.proofs.Widened.{Widens, same_frame, widened}
use Rattle.gb_prog.specs.Compared.{one, zero, compared, certain_or_not}
use Rattle.gb_prog.proofs.Chances.{after_nothing}
use Rattle.gb_prog.proofs.Comparing.{number_made, real_made, compared_typed, number_is, compared_is}
use Rattle.gb_prog.proofs.Reals.{real_is, real_above}

not_bound : (a b : Bool) → (not a && b) ≡ true → a ≡ false
not_bound false b e = refl
not_bound true b e = absurd (false≢true e)

agree : (g : Setting) (s : State) (m : Memory) → Agree g (besides_own every_use) (at s m) s
agree g s m (reads (Logical i) ty) k = refl
agree g s m (reads (Program x r) ty) k = ap (λ n. finite (read g.types n x ty)) (at_other s m r (not_bound (is_own r) _ k))
agree g s m (bound i) k = refl
agree g s m (globals x r) k = ap (λ n. read_globals g.types n (g.types.footprint x)) (at_other s m r (not_bound (is_own r) _ k))
agree g s m (starts r) k = at_other s m r (not_bound (is_own r) _ k)
agree g s m binds_own k = tt
agree g s m binds_sides k = tt

module _ (c : Context) (t : Term) (w : IsTyped (with_own c None) t) where
  pub bound_same : (g : Setting) → IsSettingOf c g → (j : Judge) → IsFair g j → (s : State) (m : Memory) → val g (speaking g j) t (at s m) ≡ val g (speaking g j) t s
  bound_same g fits j fair s m =
      form_agrees g j fair t (formed (with_own c None) t w) (sound_form g (with_own c None) (procedures_sound (with_own c None) g (fits_reframed c g fits None c.left c.right)) t w)
      (besides_own every_use) (at s m) s (agree g s m) (term_within true (besides_own every_use) (with_own c None) (admits_besides_own c) t (inr refl) w)

-- A bound: a real that reads nothing of the own memory.
module _ (c : Context) (b : Term) (w : IsTyped (with_own c None) b) (e : type_of b ≡ ty.Real) where
  widens : (ls : List TypedName) → Widens (with_own c None) (record { own = Some ls; left = c.left; right = c.right })
  widens ls = record { own = record { there = λ w. absurd w; locals = λ x t f. absurd (false≢true (ap is_some f)) }; left = same_frame c.left; right = same_frame c.right }
    where
      is_some : Option Ty → Bool
      is_some None = false
      is_some (Some t) = true

  pub bound_made : (ls : List TypedName) → Made (with_own c (Some ls)) ty.Real b
  bound_made ls =
      let f = compared_typed (with_own c None) AtMost zero b (number_made (with_own c None) (pos 0)) (real_made (with_own c None) b w e) in
      let k = widened (with_own c None) (record { own = Some ls; left = c.left; right = c.right }) (widens ls) (compared AtMost zero b) f in
      let x = parts_typed (with_own c (Some ls)) (Builtin op.AtMost) (zero ∷ b ∷ []) ty.Bool k.typed in
      record { typed = x.3.1; written = e }

  module _ (g : Setting) (fits : IsSettingOf c g) (j : Judge) (fair : IsFair g j) (s : State) (fit : IsStateOf c g s) where
    -- what it means
    pub bound_value : val g (speaking g j) b s ≡ fraction (fraction_in (val g (speaking g j) b s))
    bound_value = real_is (with_own c None) g (fits_reframed c g fits None c.left c.right) j s (record { logical = fit.logical; bound = fit.bound }) b w e

    pub bound_above : 0 < (fraction_in (val g (speaking g j) b s)).1
    bound_above = real_above (with_own c None) g (fits_reframed c g fits None c.left c.right) j s (record { logical = fit.logical; bound = fit.bound }) b w e

    pub bound_is : (m : Memory) → val g (speaking g j) b (at s m) ≡ fraction (fraction_in (val g (speaking g j) b s))
    bound_is m = bound_same c b w g fits j fair s m ∙ bound_value

    -- Where an event is certain 1 stands so to the bound, and 0 where it is impossible: so does its chance after nothing.
    pub met : (r : Rel) (q : Term) (m : Memory) → den g j (certain_or_not r q b) (at s m) ≡ true →
        compares r (chance (unit m) 1 (λ n. den g j q (at s n))) (fraction_in (val g (speaking g j) b s)) ≡ true
    met r q m h =
        let y : Fraction = fraction_in (val g (speaking g j) b s) in
        let k = and_use g j (implies_form q (compared r one b)) (implies_form (not_form q) (compared r zero b)) (at s m) h in
        after_nothing m (λ n. den g j q (at s n)) r y
        (λ e. sym (compared_is g j (at s m) r one b (pos 1, 1) y (number_is g j (at s m) (pos 1)) (bound_is m)) ∙ implies_use g j q (compared r one b) (at s m) k.0 e)
        (λ e. sym (compared_is g j (at s m) r zero b (pos 0, 1) y (number_is g j (at s m) (pos 0)) (bound_is m)) ∙ implies_use g j (not_form q) (compared r zero b) (at s m) k.1 (not_make g j q (at s m) e))
