-- A claim about modules' globals is true wherever it is true of labels: the claim, and two settings.
use Rattle.std.specs.Prelude.{◌≡◌, ◌↔◌, ◌⊎◌, ◌≤◌, ℕ, true, Some, List}
use Rattle.std.specs.List.{AllByRecursion}
use Rattle.sqlite_items.specs.formers.items.Items.{the_former}
use Rattle.gb_core.specs.declared.ty.Ty.{Ty}
use Rattle.gb_core.specs.declared.ty.Ty.TheVariants as ty
use Rattle.gb_core.specs.declared.value.Value.{Value}
use Rattle.gb_terms.specs.declared.op.Read.{Read}
use Rattle.gb_terms.specs.declared.term.Term.{Term, Term', Row_of-Term, end_of-Term, more_of-Term, end_of-Head, more_of-Head}
use Rattle.gb_terms.specs.declared.term.Head.{Head}
use Rattle.gb_terms.specs.declared.term.Head.TheVariants as head
use Rattle.gb_terms.specs.declared.module.Mexp.TheVariants.{Name as named}
use Rattle.gb_meaning.specs.Names.{Name}
use Rattle.gb_meaning.specs.Memory.{Memory}
use Rattle.gb_meaning.specs.Values.{Types, values, has}
use Rattle.gb_meaning.specs.Setting.{Setting}
use Rattle.gb_meaning.specs.Setting.Meaning.{finite}
use Rattle.gb_meaning.specs.Meanings.{truth}
use Rattle.gb_meaning.specs.State.{State, under}
use Rattle.gb_meaning.specs.State.Binding.{memory}
use Rattle.gb_meaning.specs.Written.{type_of}
use Rattle.gb_meaning.specs.Terms.{Speaks, last_of, read_at, val, parts}
use Rattle.gb_meaning.specs.Globs.{IsGlobless}
use Rattle.gb_meaning.specs.Programs.{AreOnce}
use Rattle.gb_typing.specs.Agreement.{SameOperator}
use Rattle.gb_typing.specs.Naming.{EachGlobAmong}
use Rattle.gb_laws.specs.Finite.{IsInhabited}
use Rattle.gb_laws.specs.Typing.{OperatorType, Context, IsTyped}
use Rattle.gb_walk.specs.Clash.{Exclusions}
use Rattle.gb_labels.specs.Memories.{AreKeptApart}
use Rattle.gb_labels.specs.Labels.{Labels, count_of}
use Rattle.gb_closing_laws.specs.Related.{ReadTypes, ReadIs}
use mathlib.Core.Former.{arity, this}

-- Settings that differ in the modules' globals alone, each of which stands once in its footprint; types have values in the second one. In
-- both variables that don't clash are kept apart.
pub record AreAlike (es : Exclusions) (g h : Setting) : Type 0 where
  pub sizes : g.types.size ≡ h.types.size
  pub inhabited : IsInhabited h.types
  pub left_once : (a : Name) → AreOnce (g.types.footprint (named a))
  pub right_once : (a : Name) → AreOnce (h.types.footprint (named a))
  pub operators : (n : Name) → SameOperator g h n
  pub left_apart : AreKeptApart es g.types
  pub right_apart : AreKeptApart es h.types

-- the operators' types speak of no modules' globals
abbrev pub AreApart : Context → Type 0
AreApart c = (n : Name) (o : OperatorType) → c.operator n ≡ Some o → EachGlobAmong (λ m. ⊥) o.params × IsGlobless o.result

-- Quantifiers over memories say what they say.
pub record SaysOfMemories (g : Setting) (j : Speaks) : Type 0 where
  pub all : (p : _) (n : List (Unit {0})) (ts : Row_of-Term (arity (the_former (this {0})) n)) (a : Ty) (s : State) →
      (j.judged (Term' p (more_of-Head head.AllMemory end_of-Head) n ts a) s ≡ true) ↔ ((m : Memory) → truth ((last_of (parts g j ts)).meaning (under s (memory m))) ≡ true)
  pub some : (p : _) (n : List (Unit {0})) (ts : Row_of-Term (arity (the_former (this {0})) n)) (a : Ty) (s : State) →
      (j.judged (Term' p (more_of-Head head.SomeMemory end_of-Head) n ts a) s ≡ true) ↔ ((m : Memory) × (truth ((last_of (parts g j ts)).meaning (under s (memory m))) ≡ true))

-- as many values of each module's globals, or this greatest number of labels, where there are as many values
abbrev pub HaveLabels : Types → Types → Labels → Type 0
HaveLabels t u most = (m : Name) (k : ℕ) → count_of most m ≡ Some k →
    ((values t (ty.Glob m)).size ≡ (values u (ty.Glob m)).size) ⊎ (((values u (ty.Glob m)).size ≡ k) × (k ≤ (values t (ty.Glob m)).size))

-- Heads that speak of no program, and not of all globals of a module expression.
abbrev pub IsOfValuesAt : Head → Type 0
IsOfValuesAt (head.AllModule b) = ⊥
IsOfValuesAt (head.Pr p r) = ⊥
IsOfValuesAt (head.Glob m r) = ⊥
IsOfValuesAt (head.Hoare c) = ⊥
IsOfValuesAt (head.Phoare c r) = ⊥
IsOfValuesAt (head.Equiv c d) = ⊥
IsOfValuesAt _ = Unit {0}

abbrev mutual
  pub IsOfValues : Term → Type 0
  IsOfValues (Term' p (more_of-Head h end_of-Head) n ts a) = IsOfValuesAt h × AreOfValues ts

  pub AreOfValues : {n : _} → Row_of-Term n → Type 0
  AreOfValues end_of-Term = Unit {0}
  AreOfValues (more_of-Term t ts) = IsOfValues t × AreOfValues ts

abbrev pub HeadReads : (Read → Ty → Type 0) → Head → Ty → Type 0
HeadReads Q (head.Read r) a = ReadIs Q r a
HeadReads Q _ a = Unit {0}

abbrev mutual
  -- each read of the term, but for those of bound memories, is in Q with its type
  pub Reads : (Read → Ty → Type 0) → Term → Type 0
  Reads Q (Term' p (more_of-Head h end_of-Head) n ts a) = HeadReads Q h a × AllRead Q ts

  pub AllRead : {n : _} → (Read → Ty → Type 0) → Row_of-Term n → Type 0
  AllRead Q end_of-Term = Unit {0}
  AllRead Q (more_of-Term t ts) = Reads Q t × AllRead Q ts

-- hypotheses and a conclusion are all in P
abbrev pub OfClaim : (Term → Type 0) → List Term → Term → Type 0
OfClaim P hyps t = AllByRecursion P hyps × P t

-- a well-typed form of values, which reads each variable at its type
pub record IsClaimed (c : Context) (T : ReadTypes) (t : Term) : Type 0 where
  pub typed : IsTyped c t
  pub truth : type_of t ≡ ty.Bool
  pub of_values : IsOfValues t
  pub reads : Reads (λ r a. T r ≡ Some a) t

-- each variable has a value of the type at which it is read
abbrev pub HasReadValues : Setting → ReadTypes → State → Type 0
HasReadValues g T s = (r : Read) (a : Ty) → T r ≡ Some a → (v : Value) × (read_at g r a s ≡ finite v) × (has g.types a v ≡ true)

-- A term is as true in one setting and state as in another.
abbrev pub IsAsTrue : Setting → Speaks → State → Setting → Speaks → State → Term → Type 0
IsAsTrue g j s h k r t = truth (val g j t s) ≡ truth (val h k t r)

-- Values of the claim's variables in the second setting, under which each of its forms is as true as it is in the first one.
pub record IsModelled (g : Setting) (j : Speaks) (s : State) (h : Setting) (k : Speaks) (hyps : List Term) (t : Term) : Type 0 where
  pub labels : Read → Value
  pub values : OfClaim (Reads (λ r a. has h.types a (labels r) ≡ true)) hyps t
  pub truths : (r : State) → OfClaim (Reads (λ x a. read_at h x a r ≡ finite (labels x))) hyps t → OfClaim (IsAsTrue g j s h k r) hyps t
