-- When a form says of the modules that are put in what it says where they stand for names.
use Rattle.std.specs.Prelude.{◌≡◌, ◌⊎◌, Bool, true, false, ◌||◌, List, [], ◌∷◌, Option, Some, None, bytes_eq}
use Rattle.gb_core.specs.declared.var.Var.{Var}
use Rattle.gb_core.specs.declared.var.Var.TheVariants as var
use Rattle.gb_terms.specs.declared.module.Bind.{Bind}
use Rattle.gb_terms.specs.declared.module.Mexp.{Mexp}
use Rattle.gb_terms.specs.declared.module.Mexp.TheVariants.{Name as named, Apply'}
use Rattle.gb_terms.specs.declared.op.Side.{Side}
use Rattle.gb_terms.specs.declared.term.Head.{Head}
use Rattle.gb_terms.specs.declared.term.Head.TheVariants as head
use Rattle.gb_terms.specs.declared.term.Term.{Term, Term', Row_of-Term, end_of-Term, more_of-Term, end_of-Head, more_of-Head}
use Rattle.gb_terms.specs.Rows.{terms_in}
use Rattle.gb_goal.specs.Interfaces.{Interface, interface_at}
use Rattle.gb_goal.specs.Scope.{Declarations, abstract_of, entry_of}
use Rattle.gb_names.specs.Names.{ModuleVariable}
use Rattle.gb_elab.specs.Globs.{agreements, global_named, is_abstract, true_if_none}
use Rattle.gb_meaning.specs.Footprints.{footprint_globals}
use Rattle.gb_meaning.specs.Globs.{EachGlob}
use Rattle.gb_meaning.specs.Typing.{global_type}
use Rattle.gb_meaning.specs.Names.{Name}
use Rattle.gb_meaning.specs.Setting.{Setting}
use Rattle.gb_meaning.specs.Setting.Meaning.{finite}
use Rattle.gb_meaning.specs.Meanings.{of_truth, same}
use Rattle.gb_meaning.specs.Memory.{read_globals}
use Rattle.gb_meaning.specs.Values.{Global, World}
use Rattle.gb_meaning.specs.State.{State, memory_of}
use Rattle.gb_meaning.specs.Terms.{Speaks, denominator, val}
use Rattle.gb_meaning.specs.Settings.{Chosen}
use Rattle.gb_typing.specs.Chosen.{chosen_under}
use Rattle.gb_terms.specs.declared.decl.Param.{Param}
use Rattle.gb_mods.specs.Meets.{open_name}
use Rattle.gb_instances.specs.Footprint.{footprint_at}
use Rattle.gb_instances.specs.Put.{Equation, equated, is_of}

-- a module by its name alone
abbrev pub IsName : Mexp → Type 0
IsName (named n) = Unit {0}
IsName (Apply' n k args) = ⊥

abbrev pub IsOneOr : Type 0 → Bool → Type 0
IsOneOr A true = Unit {0}
IsOneOr A false = A

abbrev pub IsUnknown : Option (List Var) → Type 0
IsUnknown None = Unit {0}
IsUnknown (Some xs) = ⊥

-- an equation of all globals of the module stays one of values
abbrev pub IsValue : Declarations → Mexp → Type 0
IsValue ds e = IsName e × IsOneOr (IsUnknown (footprint_at ds e)) (is_abstract ds e)

-- whether all these globals are the same in two memories
abbrev pub equal_globals : Setting → List Global → Side → Side → State → Bool
equal_globals g xs r s q = same (finite (read_globals g.types (memory_of q r) xs)) (finite (read_globals g.types (memory_of q s) xs))

-- Variables of a footprint, each the same in two memories, say that all its globals are.
pub record IsEquation (ds : Declarations) (g : Setting) (e : Mexp) (xs : List Var) : Type 0 where
  pub means : (r s : Side) (j : Speaks) (q : State) →
      val g j (true_if_none (agreements ds r s None xs)) q ≡ of_truth (equal_globals g (g.types.footprint e) r s q)
  pub denominator : (r s : Side) → denominator g (true_if_none (agreements ds r s None xs)) ≡ 1

-- What an equation of a variable of a footprint says: a global is declared at the type that it has in the world, and all that is an abstract
-- module's own is what the module stands for.
abbrev pub IsMeant : Declarations → Setting → World → (Name → List Global) → Var → Type 0
IsMeant ds g w F (var.Global m n) =
    (v : ModuleVariable) × (global_named ds (var.Global m n) ≡ Some v) × (v.0 ≡ m) × (v.1.name ≡ n) × (global_type w m n ≡ Some v.1.ty)
IsMeant ds g w F (var.Local x) = ⊥
IsMeant ds g w F (var.Glob a) = (b : Bind) × (abstract_of ds a ≡ Some b) × (g.types.footprint (named a) ≡ footprint_globals w F (var.Glob a ∷ []))

-- the same of these variables
abbrev pub AreMeant : Declarations → Setting → World → (Name → List Global) → List Var → Type 0
AreMeant ds g w F [] = Unit {0}
AreMeant ds g w F (x ∷ xs) = IsMeant ds g w F x × AreMeant ds g w F xs

-- the same of a footprint that is known
abbrev pub IsEquationOf : Declarations → Setting → Mexp → Option (List Var) → Type 0
IsEquationOf ds g e None = ⊥
IsEquationOf ds g e (Some xs) = IsEquation ds g e xs

abbrev mutual
  -- whether a form has an equation of all globals of the module of this name in two memories
  pub equates : Name → Term → Bool
  equates a (Term' p (more_of-Head h end_of-Head) n ts t) = is_of a (equated h (terms_in ts)) || any_equates a ts

  pub any_equates : {n : _} → Name → Row_of-Term n → Bool
  any_equates a end_of-Term = false
  any_equates a (more_of-Term t ts) = equates a t || any_equates a ts

-- an equation of all globals of the module becomes one of the variables of its footprint
abbrev pub IsAgreed : Declarations → Setting → Mexp → Type 0
IsAgreed ds g e = (is_abstract ds e ≡ false) × IsEquationOf ds g e (footprint_at ds e)

-- types and quantifiers over values speak of these modules' globals alone
abbrev pub QuantifiedNames : (Name → Type 0) → Head → Type 0
QuantifiedNames P (head.All u) = EachGlob P u
QuantifiedNames P (head.Some u) = EachGlob P u
QuantifiedNames P _ = Unit {0}

-- An equation of all globals of a module stays one of values, and then all that it says is X; or becomes one of the variables of a footprint.
abbrev pub IsClearAt : Declarations → Setting → (Name → Mexp) → Type 0 → Option Equation → Type 0
IsClearAt ds g f X None = X
IsClearAt ds g f X (Some e) = (IsValue ds (f e.0) × X) ⊎ IsAgreed ds g (f e.0)

abbrev mutual
  -- Where what stands for a module isn't a name, the form speaks of its globals in equations of two memories alone, and these become
  -- equations of the variables of its footprint.
  pub IsClear : Declarations → Setting → (Name → Mexp) → Term → Type 0
  IsClear ds g f (Term' p (more_of-Head h end_of-Head) n ts t) =
      IsClearAt ds g f (EachGlob (λ a. IsName (f a)) t × QuantifiedNames (λ a. IsName (f a)) h × AllClear ds g f ts) (equated h (terms_in ts))

  pub AllClear : {n : _} → Declarations → Setting → (Name → Mexp) → Row_of-Term n → Type 0
  AllClear ds g f end_of-Term = Unit {0}
  AllClear ds g f (more_of-Term t ts) = IsClear ds g f t × AllClear ds g f ts

-- nothing is declared under the names of these parameters that are left open, and nothing chosen
abbrev pub AreFree : Declarations → List Chosen → List Param → Type 0
AreFree ds cs [] = Unit {0}
AreFree ds cs (q ∷ qs) = ((entry_of ds (open_name q.name) ≡ None) × (chosen_under cs (open_name q.name) ≡ None)) × AreFree ds cs qs

-- these parameters have other names than one
abbrev pub AllOther : Param → List Param → Type 0
AllOther q [] = Unit {0}
AllOther q (p ∷ ps) = (bytes_eq (open_name p.name) (open_name q.name) ≡ false) × AllOther q ps

-- .. than each other
abbrev pub AreApart : List Param → Type 0
AreApart [] = Unit {0}
AreApart (q ∷ qs) = AllOther q qs × AreApart qs

-- It is known what the module touches. Parameters that it lacks are left open: their names are free, and different.
pub record IsComplete (ds : Declarations) (cs : List Chosen) (e : Mexp) : Type 0 where
  pub interface : Interface
  pub there : interface_at ds None e ≡ Some interface
  pub free : AreFree ds cs interface.lacks
  pub apart : AreApart interface.lacks
  pub footprint : List Var
  pub found : footprint_at ds e ≡ Some footprint
