-- Modules as arguments for the modules that a statement binds: what the statement says where the open programs of the arguments are chosen,
-- and where the arguments stand for the names. The statement is one over the first of some declarations, and the arguments may name all.
use Rattle.std.specs.Prelude.{◌≡◌, ◌↔◌, ℕ, true, List, [], ◌∷◌, map, Some}
use Rattle.gb_terms.specs.declared.decl.Param.{Param}
use Rattle.gb_terms.specs.declared.decl.TypedName.{TypedName}
use Rattle.gb_terms.specs.declared.module.Bind.{Bind}
use Rattle.gb_terms.specs.declared.module.Mexp.{Mexp}
use Rattle.gb_terms.specs.declared.module.ProcRef.{ProcRef}
use Rattle.gb_core.specs.declared.value.Value.{Value}
use Rattle.gb_goal.specs.declared.sequent.Sequent.{Sequent}
use Rattle.gb_meaning.specs.Judgments.{IsSoundForm, IsTrueIn}
use Rattle.gb_meaning.specs.State.{State}
use Rattle.gb_goal.specs.Instances.{stands_for, put_in, put_in_reference}
use Rattle.gb_meaning.specs.Names.{Name}
use Rattle.gb_meaning.specs.Naming.{AnyName}
use Rattle.gb_meaning.specs.Setting.{Setting}
use Rattle.gb_meaning.specs.Adversary.{Adversary, type_named}
use Rattle.gb_meaning.specs.Declared.{Declarations}
use Rattle.gb_meaning.specs.Settings.{Chosen, Interpretation, Table, interpreted, setting, types_of, with_program}
use Rattle.gb_meaning.specs.Holds.{AreValues, GiveResults, IsModel, declared_modules, interpretation}
use Rattle.gb_meaning.specs.Programs.{HasProcedures}
use Rattle.gb_meaning.specs.Values.{World}
use Rattle.gb_meaning.specs.Within.{IsWithin}
use Rattle.gb_typing.specs.Chosen.{IsChosenOver, IsFittingWorld}
use Rattle.gb_typing.specs.Context.{Context, procedure}
use Rattle.gb_typing.specs.Fits.{IsSettingOf}
use Rattle.gb_typing.specs.Modules.{ProcedureType, functor_type, fits, interface_at}
use Rattle.gb_typing.specs.Naming.{NamesIfThere, NoName}
use Rattle.gb_typing.specs.Scopes.{context_of}
use Rattle.gb_typing.specs.Sequents.{of_sequent}
use Rattle.gb_arguments.specs.Opened.{open_program}
use Rattle.gb_arguments.specs.Programs.{IsGivenFor}

-- the binder of a module, as a parameter
abbrev pub param_of : Bind → Param
param_of b = record { name = b.name; ty = b.ty }

-- what stands for each name, where these modules are given for those that are bound
abbrev pub given_for : List Bind → List Mexp → Name → Mexp
given_for bs es = stands_for (map param_of bs) es

-- a setting, where module expressions stand for names
abbrev pub standing : (Name → Mexp) → Setting → Setting
standing f g = record g {
  types = record g.types { footprint = λ m. g.types.footprint (put_in f m) };
  procedure = λ r. g.procedure (put_in_reference f r);
}

-- what operators mean in a setting
abbrev pub functions_of : Setting → Table
functions_of g n = record { result = g.operator n; denominator = g.denominator n }

-- The interpretation of the first declarations that goes with one of all, with these programs: the same world and sizes; and operators mean
-- what they mean by all declarations, also those that are declared later.
abbrev pub first_with : Declarations → Interpretation → List Chosen → Interpretation
first_with ds i cs = interpreted i.world i.size (functions_of (setting ds i)) cs

-- what is chosen for a binder: the open program that a module expression has in the interpretation i of all declarations
abbrev pub chosen_for : Declarations → Declarations → Interpretation → Bind → Mexp → Chosen
chosen_for before ds i b e = record { bind = b; program = open_program ds i (type_named before b.ty) e }

-- .. for all binders, one after another, the last one first
abbrev pub all_chosen_for : Declarations → Declarations → Interpretation → List Chosen → List Bind → List Mexp → List Chosen
all_chosen_for before ds i cs [] es = cs
all_chosen_for before ds i cs (b ∷ bs) [] = cs
all_chosen_for before ds i cs (b ∷ bs) (e ∷ es) = all_chosen_for before ds i (chosen_for before ds i b e ∷ cs) bs es

-- one module for each binder, which fits its module type
abbrev pub AreFit : Context → List Bind → List Mexp → Type 0
AreFit c [] [] = Unit {0}
AreFit c (b ∷ bs) (e ∷ es) = (fits (interface_at c.modules e) (functor_type c.modules.types (c.modules.types b.ty)) ≡ true) × AreFit c bs es
AreFit c _ _ = ⊥

-- One module for each binder, which may be given for it. The restriction of a binder may name one that is bound before, and then means what
-- is given for that: so it is looked at where this is chosen.
abbrev pub AreGivenFor : Declarations → Declarations → Interpretation → List Chosen → List Bind → List Mexp → Type 0
AreGivenFor before ds i cs [] [] = Unit {0}
AreGivenFor before ds i cs (b ∷ bs) (e ∷ es) =
    IsGivenFor before ds i (first_with ds i (chosen_for before ds i b e ∷ cs)) b e × AreGivenFor before ds i (chosen_for before ds i b e ∷ cs) bs es
AreGivenFor before ds i cs _ _ = ⊥

-- each of the programs that are chosen so is within its binder
abbrev pub AreWithin : Declarations → Declarations → Interpretation → List Chosen → List Bind → List Mexp → Type 0
AreWithin before ds i cs [] [] = Unit {0}
AreWithin before ds i cs (b ∷ bs) (e ∷ es) =
    IsWithin before (first_with ds i (chosen_for before ds i b e ∷ cs)) b (open_program ds i (type_named before b.ty) e)
    × AreWithin before ds i (chosen_for before ds i b e ∷ cs) bs es
AreWithin before ds i cs _ _ = ⊥

-- the open programs are typed, by all declarations
abbrev pub AreTypedFor : Declarations → Declarations → Interpretation → List Bind → List Mexp → Type 0
AreTypedFor before ds i [] [] = Unit {0}
AreTypedFor before ds i (b ∷ bs) (e ∷ es) =
    HasProcedures ds (setting ds i) (type_named before b.ty) (open_program ds i (type_named before b.ty) e) (type_named before b.ty).signatures × AreTypedFor before ds i bs es
AreTypedFor before ds i _ _ = ⊥

-- From the first interpretation programs are chosen for binders, one after another, each within its binder, which gives the second one.
abbrev pub IsChoiceFor : Declarations → List Bind → Interpretation → Interpretation → Type 0
IsChoiceFor ds [] i k = i ≡ k
IsChoiceFor ds (b ∷ bs) i k = (a : Adversary) × IsWithin ds (with_program i b a) b a × IsChoiceFor ds bs (with_program i b a) k

-- In each model, and for all programs that are chosen for the abstract modules that are declared, each within its binder: they are of their types,
-- and the setting fits.
abbrev pub InEachChoice : Declarations → (Interpretation → Type 0) → Type 0
InEachChoice ds P = (w : World) (size : Name → ℕ) (table : Table) → IsModel ds (interpretation w size table) → (cs : List Chosen) → IsChosenOver ds (interpreted w size table cs) →
    IsFittingWorld (interpreted w size table cs) → GiveResults ds (types_of ds (interpreted w size table cs)) table → IsSettingOf (context_of ds) (setting ds (interpreted w size table cs)) →
    IsChoiceFor ds (declared_modules ds) (interpretation w size table) (interpreted w size table cs) → P (interpreted w size table cs)

-- the names of binders
abbrev pub names_of : List Bind → List Name
names_of bs = map (λ b. b.name) bs

-- What a statement says of modules that are given for those that it binds is what another goal says, which binds none: of the same values for
-- variables, in each state.
pub record SaysOf (ds : Declarations) (es : List Mexp) (q r : Sequent) (i : Interpretation) : Type 0 where
  pub values : (vs : List Value) → AreValues (types_of ds i) (map (λ x. x.ty) r.logical) vs →
      AreValues (let h = standing (given_for q.modules es) (setting ds i) in h.types) (map (λ x. x.ty) q.logical) vs
  pub truth : (s : State) → IsTrueIn (standing (given_for q.modules es) (setting ds i)) q.conclusion s ↔ IsTrueIn (setting ds i) r.conclusion s

-- What is known of a statement where modules are given for those that it binds: the procedures that it judges speak of no module's globals
-- together, and its judgments are of sound procedures.
pub record IsSaid (before ds : Declarations) (es : List Mexp) (q : Sequent) (fs : List (List TypedName)) (i : Interpretation) : Type 0 where
  pub names : (r : ProcRef) (t : ProcedureType) → procedure (of_sequent (context_of before) q fs) r ≡ Some t →
      NamesIfThere NoName AnyName ((setting ds i).procedure (put_in_reference (given_for q.modules es) r))
  pub sound : IsSoundForm (standing (given_for q.modules es) (setting ds i)) q.conclusion
