-- Forms with modules put in, in settings of declarations.
use Rattle.std.proofs.Common.{◌≡◌, ◌⊎◌, ◌↔◌, false, true, List, Some, ap, sym, subst}
use Rattle.std.specs.List.{list_any}
use Rattle.gb_terms.specs.declared.decl.Param.{Param}
use Rattle.gb_terms.specs.declared.module.Mexp.{Mexp}
use Rattle.gb_terms.specs.declared.module.ProcRef.{ProcRef}
use Rattle.gb_terms.specs.declared.term.Term.{Term}
use Rattle.gb_goal.specs.Instances.{put_in_reference, stands_for}
use Rattle.gb_goal.specs.Scope as scope
use Rattle.gb_meaning.specs.Declared.{Declarations}
use Rattle.gb_meaning.specs.Footprints as meant
use Rattle.gb_meaning.specs.Footprints.{footprint}
use Rattle.gb_meaning.specs.Holds.{HaveVariableTypes}
use Rattle.gb_meaning.specs.Judgments.{IsSoundForm, IsTrueIn}
use Rattle.gb_meaning.specs.Names.{Name}
use Rattle.gb_meaning.specs.Naming.{AnyName}
use Rattle.gb_meaning.specs.Settings.{Interpretation, footprints, is_chosen, program_footprint, setting, types_of}
use Rattle.gb_meaning.specs.State.{State}
use Rattle.gb_meaning.specs.Values.{Types}
use Rattle.gb_meaning.proofs.SettingTypes.{setting-types}
use Rattle.gb_typing.specs.Context.{Context, procedure}
use Rattle.gb_typing.specs.Modules.{ProcedureType}
use Rattle.gb_typing.specs.Naming.{NamesIfThere, NoName}
use Rattle.gb_typing.specs.Typing.{IsTyped}
use Rattle.gb_typing.proofs.PlainGlobals.{EachPlain, plain_kept, plain_world}
use Rattle.gb_arguments.specs.Arguments.{standing}
use Rattle.gb_instances.specs.Put.{put, stands_alone}
use Rattle.gb_arguments.specs.Said.{equates, IsAgreed, IsName, IsValue}
use Rattle.gb_arguments.proofs.PutClear.{clear_term}
use Rattle.gb_arguments.proofs.PutForms.{truth_led}

-- the globals of a module have types of variables
pub footprints_plain : (all : Declarations) (i : Interpretation) → HaveVariableTypes (types_of all i) i.world → (m : Mexp) → EachPlain ((setting all i).types.footprint m)
footprints_plain all i h m =
    subst EachPlain (sym (ap (λ (t : Types). t.footprint m) (setting-types all i)))
    (plain_kept (λ y. list_any (meant.stands_for (program_footprint i.programs) y) (footprint (footprints all i.programs) (is_chosen i.programs) m)) i.world (plain_world (types_of all i) i.world h))

pub statements : (ds : scope.Declarations) (ps : List Param) (es : List Mexp) (all : Declarations) (i : Interpretation) → HaveVariableTypes (types_of all i) i.world →
    (c : Context) → ((r : ProcRef) (t : ProcedureType) → procedure c r ≡ Some t → NamesIfThere NoName AnyName ((setting all i).procedure (put_in_reference (stands_for ps es) r))) →
    (t : Term) → ((a : Name) → c.has_globals a ≡ true → equates a t ≡ true → IsValue ds (stands_for ps es a) ⊎ IsAgreed ds (setting all i) (stands_for ps es a)) →
    IsTyped c t → ((a : Name) → IsName (stands_for ps es a) ⊎ (stands_alone a t ≡ false)) → IsSoundForm (standing (stands_for ps es) (setting all i)) t →
    (s : State) → IsTrueIn (standing (stands_for ps es) (setting all i)) t s ↔ IsTrueIn (setting all i) (put ds ps es t) s
statements ds ps es all i types c procedures t kinds w u k s =
    truth_led ds ps es (setting all i) (footprints_plain all i types) c procedures t w (clear_term ds (setting all i) (stands_for ps es) c t kinds w u) k s
