-- Modules that fit the binders of a statement may be given for them, in each model and for all programs within what is declared.
use Rattle.std.proofs.Common.{◌≡◌, ℕ, List, [], ◌++◌, map, refl}
use Rattle.std.proofs.lemmas.Option.{none-some}
use Rattle.gb_terms.specs.declared.module.Bind.{Bind}
use Rattle.gb_goal.specs.Scope as scope
use Rattle.gb_meaning.specs.Names.{Name}
use Rattle.gb_meaning.specs.Declared.{Declarations, declared}
use Rattle.gb_meaning.specs.Holds.{IsModel, declared_modules, interpretation}
use Rattle.gb_meaning.specs.Settings.{Chosen, Interpretation, Table, interpreted, setting}
use Rattle.gb_meaning.specs.Values.{World}
use Rattle.gb_typing.specs.Chosen.{IsChosenOver, IsFittingWorld}
use Rattle.gb_typing.specs.Fits.{IsSettingOf}
use Rattle.gb_typing.specs.Forms.{IsKeptOff}
use Rattle.gb_typing.specs.Scopes.{IsTypedScope, context_of, nothing}
use Rattle.gb_typing.specs.Sequents.{AreBinders}
use Rattle.gb_mods.specs.Meets.{open_name}
use Rattle.gb_arguments.specs.Arguments.{AreGivenFor, InEachChoice, IsChoiceFor, param_of}
use Rattle.gb_arguments.proofs.Choices.{all_ordered, none_chosen}
use Rattle.gb_arguments.specs.Covers.{AreOpenFree, AreProgramsInOrder, AreTypesSigned, AskAndAreFull, IsComputed}
use Rattle.gb_instances.specs.Fits.{restrictions}
use Rattle.gb_instances.specs.Instance.{GivenModule, modules_of}
use Rattle.gb_arguments.specs.Instance.{AreModulesOf, EachFits}
use Rattle.gb_arguments.proofs.AsksNamed.{program_asks}
use Rattle.gb_arguments.proofs.ChosenKept.{all_kept}
use Rattle.gb_arguments.proofs.Computed.{are_computed, other_binders, unspelt}
use Rattle.gb_arguments.proofs.FullProgram.{program_full}
use Rattle.gb_arguments.proofs.GivenBinders.{all_given}
use Rattle.gb_arguments.proofs.Parts.{all_found, all_met}
use Rattle.gb_arguments.proofs.RestrictionsKept.{restrictions_kept}
use Rattle.gb_arguments.proofs.TypesSigned.{types_signed}

module _ (ds : scope.Declarations) (scoped : IsTypedScope (declared ds)) (free : AreOpenFree ds) (w : World) (size : Name → ℕ) (table : Table) (model : IsModel (declared ds) (interpretation w size table))
    (cs : List Chosen) (chosen : IsChosenOver (declared ds) (interpreted w size table cs)) (world : IsFittingWorld (interpreted w size table cs))
    (fitting : IsSettingOf (context_of (declared ds)) (setting (declared ds) (interpreted w size table cs)))
    (choice : IsChoiceFor (declared ds) (declared_modules (declared ds)) (interpretation w size table) (interpreted w size table cs)) where
  abbrev D : Declarations
  D = declared ds

  abbrev i : Interpretation
  i = interpreted w size table cs

  pub signed : AreTypesSigned ds
  signed = types_signed ds scoped

  pub ordered : AreProgramsInOrder i
  ordered = all_ordered D (declared_modules D) (interpretation w size table) i choice (λ n x e. absurd (none-some x e))

  computed : IsComputed ds i
  computed =
      are_computed ds scoped free i chosen world.once model.known
      (λ x. none_chosen D (declared_modules D) (interpretation w size table) i choice (open_name x) (other_binders ds [] nothing scoped (open_name x) (free x)) refl)

  pub kept : IsKeptOff (restrictions ds) (setting D i)
  kept = restrictions_kept ds scoped i chosen computed (all_kept ds scoped signed w size table cs chosen choice)

  pub known_more : AskAndAreFull ds i
  known_more m k there b vs p fit t e =
      let x = all_found ds (m, k) b vs p fit in (
        program_asks ds scoped (unspelt ds scoped free) signed i chosen m k there b.ty t e p (all_met ds (m, k) b.ty t p e x.meets),
        program_full ds scoped (unspelt ds scoped free) signed i chosen fitting.types m k there b.ty t e p x.meets x.lossless,
      )

pub given_where_fit : (ds es : scope.Declarations) → IsTypedScope (declared (ds ++ es)) → declared_modules (declared ds) ≡ [] → AreOpenFree (ds ++ es) → (bs : List Bind) → AreBinders (context_of (declared ds)) bs →
    (ks : List GivenModule) → AreModulesOf (ds ++ es) ks → EachFits (ds ++ es) (map param_of bs) (modules_of ks) bs ks →
    InEachChoice (declared (ds ++ es)) (λ i. AreGivenFor (declared ds) (declared (ds ++ es)) i [] bs (modules_of ks))
given_where_fit ds es scoped none free bs binders ks m fit w size table model cs chosen world results fitting choice =
    all_given ds es scoped none (unspelt (ds ++ es) scoped free) (signed (ds ++ es) scoped free w size table model cs chosen world fitting choice) (interpreted w size table cs) chosen
    (ordered (ds ++ es) scoped free w size table model cs chosen world fitting choice) (kept (ds ++ es) scoped free w size table model cs chosen world fitting choice)
    (known_more (ds ++ es) scoped free w size table model cs chosen world fitting choice) bs binders ks m fit
