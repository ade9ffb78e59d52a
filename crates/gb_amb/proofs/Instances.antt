-- Where a form is true, so is what it says of terms and memories.
use Rattle.std.proofs.Common.{◌≡◌, true, List, [], ◌∷◌, subst}
use Rattle.gb_core.specs.declared.ty.Ty.{Ty}
use Rattle.gb_terms.specs.declared.term.Term.{Term}
use Rattle.gb_meaning.specs.Setting.{Setting}
use Rattle.gb_meaning.specs.State.{State}
use Rattle.gb_meaning.specs.Judgments.{Judge, IsFair, den}
use Rattle.gb_typing.specs.Context.{Context, Frame}
use Rattle.gb_typing.specs.Typing.{IsForm}
use Rattle.gb_typing.specs.Fits.{IsSettingOf, IsStateOf}
use Rattle.gb_amb.proofs.Wider.{small}
use Rattle.gb_amb.specs.Witness.{at_memory}
use Rattle.gb_amb.specs.Instances.{Argument, at_argument, Says}
use Rattle.gb_amb.specs.Instances.Argument.{of_value, of_memory}
use Rattle.gb_amb.proofs.ForallMemories.{memory_true}
use Rattle.gb_amb.proofs.Foralls.{argument_typed, argument_true}

module _ (b : Context) (us : List Ty) (ns : List Frame) where
  abbrev c : Context
  c = small b us ns

  pub says_typed : (es : List Argument) (f h : Term) → Says c f es h → IsForm c f → IsForm c h
  says_typed [] f h e w = subst (IsForm c) e w
  says_typed (of_value a ∷ es) f h s w = says_typed es (at_argument s.1 a) h s.5 (argument_typed b us ns s.0 a s.4 s.1 s.2 (subst (IsForm c) s.3 w))
  says_typed (of_memory i ∷ es) f h s w = says_typed es (at_memory s.0 i) h s.4 s.3

  module _ (g : Setting) (fits : IsSettingOf c g) (j : Judge) (fair : IsFair g j) (s : State) (fit : IsStateOf c g s) where
    pub says_true : (es : List Argument) (f h : Term) → Says c f es h → IsForm c f → den g j f s ≡ true → den g j h s ≡ true
    says_true [] f h e w t = subst (λ x. den g j x s ≡ true) e t
    says_true (of_value a ∷ es) f h y w t =
        let v = subst (IsForm c) y.3 w in
        says_true es (at_argument y.1 a) h y.5 (argument_typed b us ns y.0 a y.4 y.1 y.2 v)
        (argument_true b us ns y.0 a y.4 y.1 y.2 v g fits j fair s fit (subst (λ x. den g j x s ≡ true) y.3 t))
    says_true (of_memory i ∷ es) f h y w t =
        says_true es (at_memory y.0 i) h y.4 y.3 (memory_true b us ns g fits j fair s i y.0 y.1 (subst (IsForm c) y.2 w) (subst (λ x. den g j x s ≡ true) y.2 t))
