-- Settings and states that fit a context.
use Rattle.std.specs.Prelude.{◌≡◌, ◌<◌, ℕ, Bool, true, false, List, [], ◌∷◌, Option, Some, None}
use Rattle.gb_core.specs.declared.ty.Ty.{Ty}
use Rattle.gb_core.specs.declared.ty.Ty.TheVariants as ty
use Rattle.gb_core.specs.declared.value.Value.{Value}
use Rattle.gb_terms.specs.declared.module.ProcRef.{ProcRef}
use Rattle.gb_terms.specs.declared.term.Term.{Term, Term', Row_of-Term, end_of-Term, more_of-Term, end_of-Head, more_of-Head}
use Rattle.gb_terms.specs.declared.term.Head.{Head}
use Rattle.gb_terms.specs.declared.term.Head.TheVariants.{User, Restrict}
use Rattle.gb_dist.specs.WeightedList.{total}
use Rattle.gb_meaning.specs.Names.{Name}
use Rattle.gb_meaning.specs.Memory.{Memory}
use Rattle.gb_meaning.specs.Terms.{Speaks}
use Rattle.gb_meaning.specs.Values.{Types}
use Rattle.gb_meaning.specs.Setting.{Meaning, Setting}
use Rattle.gb_meaning.specs.Meanings.{weights_in}
use Rattle.gb_meaning.specs.Operators.{is_distribution}
use Rattle.gb_meaning.specs.State.{State, Binding, meaning_in}
use Rattle.gb_meaning.specs.Drawn.{Drawing, OperatorsDraw}
use Rattle.gb_laws.specs.Finite.{IsInhabited}
use Rattle.gb_laws.specs.Typing.{OperatorType, Binder, Context}
use Rattle.gb_laws.specs.Typing.Binder.{value, index, memory, program}
use Rattle.gb_laws.specs.Meant.{IsOf}

-- one meaning for each type
abbrev pub AreOf : Types → List Ty → List Meaning → Type 0
AreOf t [] [] = Unit {0}
AreOf t (u ∷ us) (x ∷ xs) = IsOf t u x × AreOf t us xs
AreOf t _ _ = ⊥

-- whether an operator of the script gives distributions
abbrev pub gives_distributions : Option OperatorType → Bool
gives_distributions (Some o) = is_distribution o.result
gives_distributions None = false

-- the trees of sub-distributions: those operators of the script may stand in them that give distributions by their types
abbrev pub drawing : Context → Drawing
drawing c = record { restricts = true; operators = λ n. gives_distributions (c.operator n) }

abbrev pub IsUnrestrictedHead : Head → Type 0
IsUnrestrictedHead Restrict = ⊥
IsUnrestrictedHead _ = Unit {0}

abbrev mutual
  -- no `drestrict` stands in the term
  pub IsUnrestricted : Term → Type 0
  IsUnrestricted (Term' b (more_of-Head h end_of-Head) n ts t) = IsUnrestrictedHead h × AreUnrestricted ts

  pub AreUnrestricted : {n : _} → Row_of-Term n → Type 0
  AreUnrestricted end_of-Term = Unit {0}
  AreUnrestricted (more_of-Term t ts) = IsUnrestricted t × AreUnrestricted ts

-- the operator of the script gives distributions of full weight
abbrev pub IsFullOperator : Setting → Name → Type 0
IsFullOperator g n = (xs : List Meaning) → total (weights_in (g.operator n xs)) ≡ g.denominator n

abbrev pub IsFullHead : Setting → Head → Ty → Type 0
IsFullHead g (User n) t = is_distribution t ≡ true → IsFullOperator g n
IsFullHead g _ t = Unit {0}

abbrev mutual
  -- each operator of the script that gives a distribution in the term gives full ones
  pub NamesFull : Setting → Term → Type 0
  NamesFull g (Term' b (more_of-Head h end_of-Head) n ts t) = IsFullHead g h t × AllNameFull g ts

  pub AllNameFull : {n : _} → Setting → Row_of-Term n → Type 0
  AllNameFull g end_of-Term = Unit {0}
  AllNameFull g (more_of-Term t ts) = NamesFull g t × AllNameFull g ts

-- The types have values; each operator of the script gives, from arguments of its types, a result of its type, and one
-- that gives distributions gives weights over its denominator.
pub record IsSettingOf (c : Context) (g : Setting) : Type 0 where
  pub inhabited : IsInhabited g.types
  pub operators : (n : Name) (o : OperatorType) → c.operator n ≡ Some o → (xs : List Meaning) → AreOf g.types o.params xs →
      IsOf g.types o.result (g.operator n xs)
  pub distributions : OperatorsDraw g (drawing c)

-- what is bound is of the binder's type; of a memory or a module nothing is asked
abbrev pub FitsBinder : Types → Binder → Binding → Type 0
FitsBinder t (value u) x = IsOf t u (meaning_in x)
FitsBinder t (index q) x = IsOf t (ty.Mod q) (meaning_in x)
FitsBinder t memory x = Unit {0}
FitsBinder t program x = Unit {0}

abbrev pub FitBinders : Types → List Binder → List Binding → Type 0
FitBinders t [] xs = Unit {0}
FitBinders t (b ∷ bs) (x ∷ xs) = FitsBinder t b x × FitBinders t bs xs
FitBinders t (b ∷ bs) [] = ⊥

-- The values of logical variables and of what is bound are of their types. Memories are any: a read fits.
pub record IsStateOf (t : Types) (c : Context) (s : State) : Type 0 where
  pub logical : (i : ℕ) (u : Ty) → c.logical i ≡ Some u → IsOf t u (s.logical i)
  pub bound : FitBinders t c.bound s.bound

-- all probabilities have a denominator above 0
abbrev pub IsFractional : Speaks → Type 0
IsFractional j = (p : ProcRef) (xs : List Value) (m : Memory) (event : Memory → Bool) → 0 < (j.probability p xs m event).1
