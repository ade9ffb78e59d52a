-- Truth of formulas that quantify over modules.
use Rattle.std.specs.Prelude.{◌≡◌, Bool, true, false}
use Rattle.gb_core.specs.declared.value.Value.{Value}
use Rattle.gb_terms.specs.declared.op.Op.TheVariants as op
use Rattle.gb_terms.specs.declared.term.Term.{Term, Term', Row_of-Term, end_of-Term, more_of-Term, end_of-Head, more_of-Head}
use Rattle.gb_terms.specs.declared.term.Head.TheVariants as head
use Rattle.gb_meaning.specs.Values.{has}
use Rattle.gb_meaning.specs.Memory.{Memory}
use Rattle.gb_meaning.specs.Setting.Meaning.{finite}
use Rattle.gb_meaning.specs.State.{State, under}
use Rattle.gb_meaning.specs.State.Binding.{value, memory, program}
use Rattle.gb_meaning.specs.Judgments.{IsTrueIn}
use Rattle.gb_meaning.specs.Declared.{Declarations}
use Rattle.gb_meaning.specs.Adversary.{Adversary}
use Rattle.gb_meaning.specs.Settings.{Interpretation, with_program, setting}
use Rattle.gb_meaning.specs.Within.{IsWithin}

abbrev mutual
  -- whether a quantifier over modules stands in front, behind other quantifiers and premises
  pub has_module : Term → Bool
  has_module (Term' p (more_of-Head (head.AllModule b) end_of-Head) n ts ty) = true
  has_module (Term' p (more_of-Head (head.All u) end_of-Head) n ts ty) = last_has_module ts
  has_module (Term' p (more_of-Head head.AllMemory end_of-Head) n ts ty) = last_has_module ts
  has_module (Term' p (more_of-Head (head.Builtin op.Implies) end_of-Head) n ts ty) = last_has_module ts
  has_module _ = false

  pub last_has_module : {n : _} → Row_of-Term n → Bool
  last_has_module end_of-Term = false
  last_has_module (more_of-Term t end_of-Term) = has_module t
  last_has_module (more_of-Term t (more_of-Term u ts)) = last_has_module (more_of-Term u ts)

-- the first or the second
abbrev pub Choice : Bool → Type 0 → Type 0 → Type 0
Choice true A B = A
Choice false A B = B

-- the first argument, a premise, is true
abbrev pub IsFirstTrue : {n : _} → Declarations → Row_of-Term n → Interpretation → State → Type 0
IsFirstTrue ds end_of-Term i s = Unit {0}
IsFirstTrue ds (more_of-Term t ts) i s = IsTrueIn (setting ds i) t s

-- A formula is true in an interpretation and a state. Quantifiers over modules, and quantifiers and premises before
-- them, are those of this definition: a module is any program within its binder. The rest is true under each fair judge.
abbrev mutual
  pub Truth : Declarations → Term → Interpretation → State → Type 0
  Truth ds (Term' p (more_of-Head (head.AllModule b) end_of-Head) n ts ty) i s =
      (a : Adversary) → IsWithin ds (with_program i b a) b a → TruthOfLast ds ts (with_program i b a) (under s program)
  Truth ds (Term' p (more_of-Head (head.All u) end_of-Head) n ts ty) i s =
      Choice (last_has_module ts)
      ((v : Value) → has (setting ds i).types u v ≡ true → TruthOfLast ds ts i (under s (value (finite v))))
      (IsTrueIn (setting ds i) (Term' p (more_of-Head (head.All u) end_of-Head) n ts ty) s)
  Truth ds (Term' p (more_of-Head head.AllMemory end_of-Head) n ts ty) i s =
      Choice (last_has_module ts)
      ((m : Memory) → TruthOfLast ds ts i (under s (memory m)))
      (IsTrueIn (setting ds i) (Term' p (more_of-Head head.AllMemory end_of-Head) n ts ty) s)
  Truth ds (Term' p (more_of-Head (head.Builtin op.Implies) end_of-Head) n ts ty) i s =
      Choice (last_has_module ts)
      (IsFirstTrue ds ts i s → TruthOfLast ds ts i s)
      (IsTrueIn (setting ds i) (Term' p (more_of-Head (head.Builtin op.Implies) end_of-Head) n ts ty) s)
  Truth ds f i s = IsTrueIn (setting ds i) f s

  pub TruthOfLast : {n : _} → Declarations → Row_of-Term n → Interpretation → State → Type 0
  TruthOfLast ds end_of-Term i s = Unit {0}
  TruthOfLast ds (more_of-Term t end_of-Term) i s = Truth ds t i s
  TruthOfLast ds (more_of-Term t (more_of-Term u ts)) i s = TruthOfLast ds (more_of-Term u ts) i s
