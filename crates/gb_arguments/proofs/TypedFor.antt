-- The open programs of module expressions that may be given for binders are typed.
use Rattle.std.proofs.Common.{◌≡◌, true, List, [], ◌∷◌, ◌++◌, Some, sym, ap, subst}
use Rattle.gb_terms.specs.declared.module.Bind.{Bind}
use Rattle.gb_terms.specs.declared.module.Mexp.{Mexp}
use Rattle.gb_meaning.specs.Adversary.{or_none, type_named}
use Rattle.gb_meaning.specs.Declared.{Declarations, ModuleType}
use Rattle.gb_meaning.specs.Holds.{declared_modules}
use Rattle.gb_meaning.specs.Programs.{AreIn, HasProcedures}
use Rattle.gb_meaning.specs.Setting.{Setting}
use Rattle.gb_meaning.specs.Settings.{Chosen, Interpretation, declared_globals, setting}
use Rattle.gb_typing.specs.Chosen.{FitAt, IsChosenOver}
use Rattle.gb_typing.specs.Context.{Context}
use Rattle.gb_typing.specs.Formulas.{IsKnown, with_module}
use Rattle.gb_typing.specs.Modules.{fits, functor_type, interface_at}
use Rattle.gb_typing.specs.Naming.{NoName}
use Rattle.gb_typing.specs.Scopes.{nothing, context_of, IsTypedScope}
use Rattle.gb_typing.specs.Sequents.{AreBinders}
use Rattle.gb_typing.specs.Speaking.{ScopeSpeaks}
use Rattle.gb_arguments.specs.Arguments.{AreFit, AreGivenFor, AreTypedFor, chosen_for}
use Rattle.gb_arguments.specs.Opened.{open_program}
use Rattle.gb_arguments.specs.Programs.{AskNamed}
use Rattle.gb_arguments.proofs.Given.{known_fit, more, types_agree}
use Rattle.gb_arguments.proofs.OpenTyped.{open_is_typed}

module _ (before later : Declarations) (scoped : IsTypedScope (before ++ later)) (none : declared_modules before ≡ []) (speaks : ScopeSpeaks NoName (before ++ later))
    (i : Interpretation) (chosen : IsChosenOver (before ++ later) i) (fit : FitAt (setting (before ++ later) i) nothing (before ++ later))
    (known : AreIn i.world (declared_globals (before ++ later))) where
  abbrev all : Declarations
  all = before ++ later

  abbrev g : Setting
  g = setting all i

  abbrev first : Context
  first = context_of before

  -- the open program is typed by the type of a binder
  abbrev IsTypedAs : ModuleType → Mexp → Type 0
  IsTypedAs t e = HasProcedures all g t (open_program all i t e) t.signatures

  one_typed : (b : Bind) (e : Mexp) (t : ModuleType) → first.modules.types b.ty ≡ Some t → fits (interface_at (context_of all).modules e) (functor_type (context_of all).modules.types (Some t)) ≡ true →
      AskNamed (open_program all i (type_named before b.ty) e) (type_named before b.ty).signatures → IsTypedAs (type_named before b.ty) e
  one_typed b e t k w asks =
      subst (λ z. IsTypedAs z e) (sym same)
      (open_is_typed all scoped speaks i chosen fit known e b.ty t (let z = (more before later scoped none i chosen g g).modules in z.types b.ty t k) w
      (subst (λ z. AskNamed (open_program all i z e) z.signatures) same asks))
    where
      same : type_named before b.ty ≡ t
      same = ap or_none (let a = types_agree before later scoped none i chosen g g in a.declared b.ty t k)

  pub all_typed : (bs : List Bind) (es : List Mexp) (c : Context) → c.modules.types ≡ first.modules.types → AreBinders c bs → AreFit (context_of all) bs es → (cs : List Chosen) →
      AreGivenFor before all i cs bs es → AreTypedFor before all i bs es
  all_typed [] [] c same w fits cs given = tt
  all_typed [] (e ∷ es) c same w fits cs given = absurd fits
  all_typed (b ∷ bs) [] c same w fits cs given = absurd fits
  all_typed (b ∷ bs) (e ∷ es) c same w fits cs given =
      let z = known_fit before later scoped none i chosen g g b e (subst (λ y. IsKnown (y b.ty)) same (let x = w.0 in x.known)) fits.0 in (
        one_typed b e z.0 z.1 z.2 (let x = given.0 in x.asks),
        all_typed bs es (with_module c b) same w.1 fits.1 (chosen_for before all i b e ∷ cs) given.1,
      )
