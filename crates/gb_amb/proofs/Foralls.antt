-- What a form says of each value of a type it says of a term.
use Rattle.std.proofs.Common.{◌≡◌, true, List, [], ◌∷◌, None, ap, sym, ◌∙◌, subst}
use Rattle.gb_core.specs.declared.ty.Ty.{Ty}
use Rattle.gb_terms.specs.declared.term.Term.{Term}
use Rattle.gb_terms.specs.declared.term.Head.TheVariants as head
use Rattle.gb_terms.specs.Make.{node}
use Rattle.gb_meaning.specs.Meanings.{truth}
use Rattle.gb_meaning.specs.Setting.{Setting}
use Rattle.gb_meaning.specs.State.{State}
use Rattle.gb_meaning.specs.Values.{has}
use Rattle.gb_meaning.specs.Judgments.{Judge, IsFair, den}
use Rattle.gb_meaning.specs.Written.{type_of}
use Rattle.gb_meaning.proofs.Truths.{true_all}
use Rattle.gb_laws.specs.Finite.{IsFinite}
use Rattle.gb_laws.specs.Typing.Binder.{value}
use Rattle.gb_typing.specs.Context.{Context, Frame, within}
use Rattle.gb_typing.specs.Typing.{IsForm}
use Rattle.gb_typing.specs.Fits.{IsSettingOf, IsStateOf}
use Rattle.gb_typing.proofs.Made.{IsNode, parts_typed}
use Rattle.gb_amb.proofs.Itself.{finite_value}
use Rattle.gb_amb.proofs.Wider.{small}
use Rattle.gb_amb.proofs.Witnessed.{body_typed, body_means}
use Rattle.gb_amb.specs.Instances.{IsArgument, at_argument}

module _ (b : Context) (us : List Ty) (ns : List Frame) (u : Ty) (a : Term) (w : IsArgument (small b us ns) u a) where
  abbrev c : Context
  c = small b us ns

  module _ (f : Term) (r : Ty) (whole : IsForm c (node (head.All u) (f ∷ []) r)) where
    parts : IsNode c (head.All u) (type_of f ∷ []) (f ∷ []) r
    parts = parts_typed c (head.All u) (f ∷ []) r whole.typed

    body : IsForm (within c (value u) None) f
    body = record { typed = parts.3; truth = parts.0.1.0 }

    pub argument_typed : IsForm c (at_argument f a)
    argument_typed = body_typed b us ns a w.typed u w.type f body

    module _ (g : Setting) (fits : IsSettingOf c g) (j : Judge) (fair : IsFair g j) (s : State) (fit : IsStateOf c g s) where
      pub argument_true : den g j (node (head.All u) (f ∷ []) r) s ≡ true → den g j (at_argument f a) s ≡ true
      argument_true h =
          let fin : IsFinite (type_of a) = subst IsFinite (sym w.type) parts.0.0 in
          let v = finite_value c g fits j s fit a w.typed fin in
          ap truth (body_means b us ns a w.typed u w.type g fits j fair fin s v.0 v.1 f body)
          ∙ (true_all g j u f s).0 (subst (λ r. den g j (node (head.All u) (f ∷ []) r) s ≡ true) parts.0.1.1.0 h) v.0 (subst (λ t. has g.types t v.0 ≡ true) w.type v.2)
