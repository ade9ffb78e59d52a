-- The open programs of module expressions that may be given for binders are within the binders, where they are typed.
use Rattle.std.proofs.Common.{◌≡◌, Bool, true, false, ◌||◌, if◌then◌else◌, List, [], ◌∷◌, ◌++◌, Option, Some, None, bytes_eq, refl, ap, sym, subst}
use Rattle.std.proofs.lemmas.Bool.{false≢true}
use Rattle.std.proofs.lemmas.Option.{none-some}
use Rattle.gb_terms.specs.declared.decl.Param.{Param}
use Rattle.gb_terms.specs.declared.module.Bind.{Bind}
use Rattle.gb_terms.specs.declared.module.Mexp.{Mexp}
use Rattle.gb_meaning.specs.Names.{Name}
use Rattle.gb_meaning.specs.Adversary.{Adversary, or_none, type_named}
use Rattle.gb_meaning.specs.Bounds.{IsBounded}
use Rattle.gb_meaning.specs.Declared.{Declarations, ModuleType, module_type_in, module_type_of}
use Rattle.gb_meaning.specs.Footprints.{footprint}
use Rattle.gb_meaning.specs.Naming.{EachParam}
use Rattle.gb_meaning.specs.Programs.{AreOnce, HasProcedures, IsProgramFor}
use Rattle.gb_meaning.specs.Settings.{Chosen, Interpretation, footprints, is_chosen, program_footprint, setting}
use Rattle.gb_meaning.specs.Within.{IsWithin}
use Rattle.gb_meaning.proofs.SameScope.{SameTypes, program-to}
use Rattle.gb_typing.specs.Formulas.{IsKnown, with_module}
use Rattle.gb_typing.specs.Context.{Context}
use Rattle.gb_typing.specs.Scopes.{nothing, context_of, is_declared, AreTypedAfter, IsTypedScope}
use Rattle.gb_typing.specs.Sequents.{AreBinders}
use Rattle.gb_typing.proofs.Declaring.{KnowsDeclared, knows_each, knows_nothing, split}
use Rattle.gb_typing.proofs.PlainGlobals.{EachPlain}
use Rattle.gb_typing.proofs.Settings.{AreKnown, agree_at}
use Rattle.gb_typing.proofs.Settings as settings
use Rattle.gb_typing.proofs.TypedAlike.{SameBasis, turned-basis}
use Rattle.gb_typing.proofs.WithinAlike.{full-alike, program-alike}
use Rattle.gb_arguments.specs.Arguments.{AreGivenFor, AreTypedFor, AreWithin, chosen_for, first_with}
use Rattle.gb_arguments.specs.Opened.{open_program}
use Rattle.gb_arguments.specs.Programs.{IsGivenFor}
use Rattle.gb_arguments.proofs.Basis.{first_basis}
use Rattle.gb_arguments.proofs.Filtered.{footprint_in, footprint_ordered}

-- the first declarations have their module types
type_front : (xs ys : Declarations) (n : Name) → is_declared xs n ≡ true → module_type_of (xs ++ ys) n ≡ module_type_of xs n
type_front [] ys n e = absurd (false≢true e)
type_front (d ∷ xs) ys n e = step (bytes_eq n d.0) (type_front xs ys n) e
  where
    step : (b : Bool) → (is_declared xs n ≡ true → module_type_of (xs ++ ys) n ≡ module_type_of xs n) → (b || is_declared xs n) ≡ true →
        (if b then module_type_in d.1 else module_type_of (xs ++ ys) n) ≡ (if b then module_type_in d.1 else module_type_of xs n)
    step true later e = refl
    step false later e = later e

module _ (before later : Declarations) (scoped : IsTypedScope (before ++ later)) (i : Interpretation) (plain : EachPlain i.world) (once : AreOnce i.world) where
  abbrev all : Declarations
  all = before ++ later

  parts : AreTypedAfter nothing [] before × AreTypedAfter (context_of before) before later
  parts = split before later [] nothing scoped

  knows : KnowsDeclared before (context_of before)
  knows = knows_each before [] nothing parts.0 knows_nothing

  abbrev types : Name → Option ModuleType
  types = (context_of before).modules.types

  type_declared : (n : Name) → IsKnown (types n) → is_declared before n ≡ true
  type_declared n k = step (is_declared before n) refl
    where
      step : (b : Bool) → is_declared before n ≡ b → b ≡ true
      step true h = refl
      step false h = absurd (subst IsKnown (let z = knows in z.types n h) k)

  abbrev IsFirst : Name → Type 0
  IsFirst n = is_declared before n ≡ true

  same_types : SameTypes IsFirst all before
  same_types n e = ap or_none (type_front before later n e)

  no_types : settings.Agree before (nothing.modules).types
  no_types = record { declared = λ n t e. absurd (none-some t e); params = λ n t e. absurd (none-some t e) }

  types_agree : settings.Agree before types
  types_agree = agree_at before i before [] nothing refl parts.0 no_types

  each_first : (ps : List Param) → AreKnown types ps → EachParam IsFirst ps
  each_first [] k = tt
  each_first (p ∷ ps) k = (type_declared p.ty k.0, each_first ps k.1)

  params_first : (n : Name) → IsKnown (types n) → EachParam IsFirst (let t = type_named before n in t.params)
  params_first n k = step (types n) refl k
    where
      step : (o : Option ModuleType) → types n ≡ o → IsKnown o → EachParam IsFirst (let t = type_named before n in t.params)
      step None e k = absurd k
      step (Some t) e k =
          subst (λ z. EachParam IsFirst z.params) (sym (ap or_none (let a = types_agree in a.declared n t e))) (each_first t.params (let a = types_agree in a.params n t e))

  module _ (b : Bind) (known : IsKnown (types b.ty)) (e : Mexp) (cs : List Chosen) where
    abbrev t : ModuleType
    t = type_named before b.ty

    abbrev a : Adversary
    a = open_program all i t e

    abbrev k : Interpretation
    k = first_with all i (chosen_for before all i b e ∷ cs)

    basis : SameBasis (setting all i) (setting before k)
    basis = turned-basis (setting before k) (setting all i) (first_basis before later scoped i (chosen_for before all i b e ∷ cs))

    pub one_within : HasProcedures all (setting all i) t a t.signatures → IsGivenFor before all i k b e → IsWithin before k b a
    one_within typed given = record {
      program = program-to IsFirst all before same_types t (params_first b.ty known) (setting before k) i.world a (program-alike (setting all i) (setting before k) basis i.world plain all t a program);
      named = given.named;
      full = full-alike (setting all i) (setting before k) basis i.world plain all t a program given.full;
      apart = given.apart;
      bounded = subst (IsBounded before (setting before k) i.world t a) (sym given.unbounded) tt;
    }
      where
        program : IsProgramFor all (setting all i) i.world t a
        program = record {
          ordered = footprint_ordered i.world (program_footprint i.programs) (footprint (footprints all i.programs) (is_chosen i.programs) e);
          known = footprint_in i.world once (program_footprint i.programs) (footprint (footprints all i.programs) (is_chosen i.programs) e);
          procedures = typed;
        }

  pub all_within : (bs : List Bind) (es : List Mexp) (c : Context) → c.modules.types ≡ types → AreBinders c bs → AreTypedFor before all i bs es → (cs : List Chosen) → AreGivenFor before all i cs bs es →
      AreWithin before all i cs bs es
  all_within [] [] c same w typed cs given = tt
  all_within [] (e ∷ es) c same w typed cs given = absurd typed
  all_within (b ∷ bs) [] c same w typed cs given = absurd typed
  all_within (b ∷ bs) (e ∷ es) c same w typed cs given = (
    one_within b (subst (λ y. IsKnown (y b.ty)) same (let x = w.0 in x.known)) e cs typed.0 given.0,
    all_within bs es (with_module c b) same w.1 typed.1 (chosen_for before all i b e ∷ cs) given.1,
  )
