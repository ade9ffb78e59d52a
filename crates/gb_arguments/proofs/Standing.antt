-- A statement says the same where the open programs of modules are chosen for what it binds, and where the modules stand for that.
use Rattle.std.proofs.Common.{◌≡◌, ◌↔◌, List, [], ◌++◌, Option, Some, None, refl, ap, sym, ◌∙◌, subst}
use Rattle.std.specs.List.{list_any}
use Rattle.gb_core.specs.declared.ty.Ty.{Ty}
use Rattle.gb_terms.specs.declared.decl.TypedName.{TypedName}
use Rattle.gb_terms.specs.declared.module.Mexp.{Mexp}
use Rattle.gb_terms.specs.declared.module.Mexp.TheVariants.{Name as named}
use Rattle.gb_terms.specs.declared.module.ProcRef.{ProcRef}
use Rattle.gb_terms.specs.declared.term.Term.{Term}
use Rattle.gb_goal.specs.declared.sequent.Sequent.{Sequent}
use Rattle.gb_meaning.specs.Judgments.{IsSoundForm, IsTrueIn}
use Rattle.gb_meaning.specs.Names.{Name}
use Rattle.gb_meaning.specs.Program.{Routine}
use Rattle.gb_meaning.specs.Setting.{Setting}
use Rattle.gb_meaning.specs.State.{State}
use Rattle.gb_meaning.specs.Values.{Types}
use Rattle.gb_meaning.specs.Adversary.{Adversary}
use Rattle.gb_meaning.specs.Declared.{Declarations}
use Rattle.gb_meaning.specs.Footprints.{footprint, stands_for}
use Rattle.gb_meaning.specs.Globs.{EachGlob}
use Rattle.gb_meaning.specs.Holds.{declared_modules}
use Rattle.gb_meaning.specs.Naming.{AnyName}
use Rattle.gb_meaning.specs.Programs.{AreInOrder}
use Rattle.gb_meaning.specs.Settings.{Chosen, Interpretation, bare, footprints, is_chosen, program_footprint, setting, types_of, with_operators}
use Rattle.gb_meaning.proofs.SettingTypes.{setting-types}
use Rattle.gb_typing.specs.Agreement.{SameFootprint, SameIfThere, SameProcedure, SameValues}
use Rattle.gb_typing.specs.Chosen.{chosen_under, AreUnchosen, IsChosenOver}
use Rattle.gb_typing.specs.Context.{procedure}
use Rattle.gb_typing.specs.Formulas.{IsKnown}
use Rattle.gb_typing.specs.Modules.{ProcedureType}
use Rattle.gb_typing.specs.Naming.{AgreeOn, NamesIfThere, NoName, TermNames}
use Rattle.gb_typing.specs.Scopes.{context_of, IsTypedScope}
use Rattle.gb_typing.specs.Sequents.{AreBinders, of_sequent}
use Rattle.gb_typing.specs.Typing.{IsTyped}
use Rattle.gb_typing.proofs.Agreeing.{routine_agrees}
use Rattle.gb_typing.proofs.OwnFootprint.{own_footprint}
use Rattle.gb_typing.proofs.PlainGlobals.{EachPlain, plain_kept, plain-globals}
use Rattle.gb_arguments.specs.Arguments.{AreFit, all_chosen_for, first_with, given_for, standing}
use Rattle.gb_arguments.proofs.Basis.{first_basis, no_footprint, no_procedure}
use Rattle.gb_arguments.proofs.Chosen.{are_same}
use Rattle.gb_arguments.proofs.Filtered.{footprint_ordered}
use Rattle.gb_arguments.proofs.Given.{arguments_same, program_put}
use Rattle.gb_arguments.proofs.Said.{sound_same, true_same, values_same}

module _ (before later : Declarations) (scoped : IsTypedScope (before ++ later)) (none : declared_modules before ≡ []) (i : Interpretation) (chosen : IsChosenOver (before ++ later) i)
    (plain : EachPlain i.world) (q : Sequent) (binders : AreBinders (context_of before) q.modules) (es : List Mexp) (fit : AreFit (context_of (before ++ later)) q.modules es)
    (free : AreUnchosen (all_chosen_for before (before ++ later) i [] q.modules es) before) where
  abbrev all : Declarations
  all = before ++ later

  abbrev cs : List Chosen
  cs = all_chosen_for before all i [] q.modules es

  abbrev first : Interpretation
  first = first_with all i cs

  abbrev put : Name → Mexp
  put = given_for q.modules es

  abbrev g : Setting
  g = setting before first

  abbrev h : Setting
  h = standing put (setting all i)

  abbrev basis : AgreeOn NoName AnyName g (setting all i)
  basis = first_basis before later scoped i cs

  agrees : AgreeOn NoName AnyName g h
  agrees = record {
    sizes = let b = basis in b.sizes;
    footprints = no_footprint g.types h.types;
    operators = let b = basis in b.operators;
    procedures = λ p e. no_procedure g h p.«module» (g.procedure p ≡ h.procedure p) e;
  }

  there_same : (r : Option Routine) → NamesIfThere NoName AnyName r → SameIfThere g h r
  there_same None e = tt
  there_same (Some r) e = routine_agrees NoName AnyName g h agrees r e

  -- procedures that have a type
  pub procedures : (fs : List (List TypedName)) → ((r : ProcRef) (t : ProcedureType) → procedure (of_sequent (context_of before) q fs) r ≡ Some t → NamesIfThere NoName AnyName (g.procedure r)) →
      (r : ProcRef) (t : ProcedureType) → procedure (of_sequent (context_of before) q fs) r ≡ Some t → SameProcedure g h r
  procedures fs names r t e = (
    are_same t (g.procedure r) (h.procedure r)
        (arguments_same before later scoped none i chosen (with_operators first.table (bare (types_of before first) first.table) before)
        (with_operators i.table (bare (types_of all i) i.table) all) q.modules binders es fit free r t e),
    there_same (g.procedure r) (names r t e),
  )

  -- the globals of a module for which a program is chosen
  module _ (a : Name) (x : Chosen) (e : chosen_under cs a ≡ Some x) where
    abbrev entries : Types
    entries = types_of all i

    its_globals : x.program.footprint ≡ entries.footprint (put a)
    its_globals = ap (λ (p : Adversary). p.footprint) (program_put before later scoped none i chosen g h q.modules binders es a x e)

    ordered : AreInOrder i.world x.program.footprint
    ordered =
        subst (AreInOrder i.world) (sym its_globals)
        (footprint_ordered i.world (program_footprint i.programs) (footprint (footprints all i.programs) (is_chosen i.programs) (put a)))

    same_globals : g.types.footprint (named a) ≡ h.types.footprint (named a)
    same_globals = own_footprint before first a x e ordered ∙ its_globals ∙ sym (ap (λ (t : Types). t.footprint (put a)) (setting-types all i))

    are_plain : EachPlain (g.types.footprint (named a))
    are_plain =
        subst EachPlain (sym (own_footprint before first a x e ordered ∙ its_globals))
        (plain_kept (λ y. list_any (stands_for (program_footprint i.programs) y) (footprint (footprints all i.programs) (is_chosen i.programs) (put a))) i.world plain)

    pub footprint_same : SameFootprint g.types h.types (named a)
    footprint_same = (same_globals, plain-globals g.types h.types (let b = agrees in b.sizes) (g.types.footprint (named a)) are_plain)

  footprints_same : (a : Name) → IsKnown (chosen_under cs a) → SameFootprint g.types h.types (named a)
  footprints_same a k = step (chosen_under cs a) refl k
    where
      step : (o : Option Chosen) → chosen_under cs a ≡ o → IsKnown o → SameFootprint g.types h.types (named a)
      step None e k = absurd k
      step (Some x) e k = footprint_same a x e

  -- a type of the statement has the same values
  pub same_values : (t : Ty) → EachGlob (λ a. IsKnown (chosen_under cs a)) t → SameValues g.types h.types t
  same_values t e = values_same (λ a. IsKnown (chosen_under cs a)) g h (let b = agrees in b.sizes) (λ n. (let b = basis in b.operators n tt)) footprints_same t e

  -- a form over the declarations and the modules of the statement
  pub said_same : (fs : List (List TypedName)) →
      ((r : ProcRef) (t : ProcedureType) → procedure (of_sequent (context_of before) q fs) r ≡ Some t → NamesIfThere NoName AnyName (g.procedure r)) →
      (f : Term) → IsTyped (of_sequent (context_of before) q fs) f → TermNames (λ a. IsKnown (chosen_under cs a)) AnyName f → IsSoundForm g f →
      (s : State) → IsTrueIn g f s ↔ IsTrueIn h f s
  said_same fs names f w e k s =
      true_same (λ a. IsKnown (chosen_under cs a)) g h (let b = agrees in b.sizes) (λ n. (let b = basis in b.operators n tt)) footprints_same
      (of_sequent (context_of before) q fs) (procedures fs names) f w e k s

  -- .. judges sound procedures in both
  pub said_sound : (fs : List (List TypedName)) →
      ((r : ProcRef) (t : ProcedureType) → procedure (of_sequent (context_of before) q fs) r ≡ Some t → NamesIfThere NoName AnyName (g.procedure r)) →
      (f : Term) → IsTyped (of_sequent (context_of before) q fs) f → TermNames (λ a. IsKnown (chosen_under cs a)) AnyName f → IsSoundForm g f → IsSoundForm h f
  said_sound fs names f w e k =
      sound_same (λ a. IsKnown (chosen_under cs a)) g h (let b = agrees in b.sizes) (λ n. (let b = basis in b.operators n tt)) footprints_same
      (of_sequent (context_of before) q fs) (procedures fs names) f w e k
