-- What rules say of every memory, in the context of a goal: typing and meaning.
use Rattle.std.proofs.Common.{◌≡◌, true, List, Some, None, sym, subst}
use Rattle.gb_terms.specs.declared.decl.TypedName.{TypedName}
use Rattle.gb_terms.specs.declared.op.Side.TheVariants as side
use Rattle.gb_terms.specs.declared.term.Term.{Term}
use Rattle.gb_meaning.specs.Memory.{Memory}
use Rattle.gb_meaning.specs.Setting.{Setting}
use Rattle.gb_meaning.specs.State.{State, at, between}
use Rattle.gb_meaning.specs.Judgments.{Judge, IsFair, den}
use Rattle.gb_typing.specs.Context.{Context, Frame, reframed, with_own, with_sides}
use Rattle.gb_typing.specs.Typing.{IsForm}
use Rattle.gb_typing.specs.Fits.{IsSettingOf}
use Rattle.gb_typing.proofs.Fitting.{fits_reframed}
use Rattle.gb_typing.specs.Forms.{every, every_pair}
use Rattle.gb_typing.specs.Rules.{outermost}
use Rattle.gb_typing.proofs.Every.{every_typed, every_meaning}

module _ (c : Context) (outer : c ≡ outermost c) where
  fits_outermost : (g : Setting) → IsSettingOf c g → IsSettingOf (outermost c) g
  fits_outermost g w = subst (λ c. IsSettingOf c g) outer w

  module _ (F : Frame) (ls : List TypedName) (e : F ≡ Some ls) (f : Term) (w : IsForm (with_own c F) f) where
    of_one : IsForm (with_own (outermost c) F) f
    of_one = subst (λ c. IsForm (with_own c F) f) outer w

    pub one_typed : IsForm c (every side.Own f)
    one_typed = subst (λ c. IsForm c (every side.Own f)) (sym outer) (every_typed c F None None side.Own ls tt e f of_one)

    pub one_meaning : (g : Setting) → IsSettingOf c g → (j : Judge) → IsFair g j → (s : State) → den g j (every side.Own f) s ≡ true → (m : Memory) → den g j f (at s m) ≡ true
    one_meaning g fits j fair s h m =
        every_meaning c F None None g (fits_reframed (outermost c) g (fits_outermost g fits) F None None) j fair side.Own tt f of_one s h m

  module _ (F G : Frame) (ls rs : List TypedName) (e : F ≡ Some ls) (k : G ≡ Some rs) (f : Term) (w : IsForm (with_sides c F G) f) where
    of_two : IsForm (with_sides (outermost c) F G) f
    of_two = subst (λ c. IsForm (with_sides c F G) f) outer w

    right_typed : IsForm (reframed (outermost c) None F None) (every side.Right f)
    right_typed = every_typed c None F G side.Right rs tt k f of_two

    pub pair_typed : IsForm c (every_pair f)
    pair_typed = subst (λ c. IsForm c (every_pair f)) (sym outer) (every_typed c None F None side.Left ls tt e (every side.Right f) right_typed)

    pub pair_meaning : (g : Setting) → IsSettingOf c g → (j : Judge) → IsFair g j → (s : State) → den g j (every_pair f) s ≡ true → (m n : Memory) → den g j f (between s m n) ≡ true
    pair_meaning g fits j fair s h m n =
        let base = fits_outermost g fits in
        every_meaning c None F G g (fits_reframed (outermost c) g base None F G) j fair side.Right tt f of_two (record s { left = m })
        (every_meaning c None F None g (fits_reframed (outermost c) g base None F None) j fair side.Left tt (every side.Right f) right_typed s h m) n
