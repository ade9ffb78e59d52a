-- An expression of a program has the same value in each state in which it runs: it speaks of no logical variable.
use Rattle.std.proofs.Common.{◌≡◌, ℕ, zero, suc, Bool, true, false, List, [], ◌∷◌, Option, Some, None, refl, ap}
use Rattle.std.proofs.lemmas.Bool.{false≢true, and_parts}
use Rattle.gb_core.specs.declared.ty.Ty.{Ty}
use Rattle.gb_core.specs.declared.var.Var.{Var}
use Rattle.gb_terms.specs.declared.decl.TypedName.{TypedName}
use Rattle.gb_terms.specs.declared.op.Side.TheVariants as side
use Rattle.gb_terms.specs.declared.op.Side.{Side}
use Rattle.gb_terms.specs.declared.op.Read.TheVariants.{Logical, Program}
use Rattle.gb_terms.specs.declared.term.Term.{Term, Term', Row_of-Term, end_of-Term, more_of-Term, end_of-Head, more_of-Head}
use Rattle.gb_terms.specs.declared.term.Head.{Head}
use Rattle.gb_terms.specs.declared.term.Head.TheVariants as head
use Rattle.gb_meaning.specs.Memory.{Memory}
use Rattle.gb_meaning.specs.Setting.{Setting}
use Rattle.gb_meaning.specs.State.{State, inside}
use Rattle.gb_meaning.specs.Terms.{quiet, val}
use Rattle.gb_laws.specs.Agree.{Agree}
use Rattle.gb_laws.specs.Plain.{HeadIsPlain, IsPlain, AllPlain}
use Rattle.gb_laws.specs.Uses.{Uses, beneath, of_arguments, of_last, HeadIsWithin, IsWithin, AreWithin}
use Rattle.gb_laws.specs.Uses.Use.{read as reads, bound, globals, starts, binds_own, binds_sides}
use Rattle.gb_laws.proofs.Agreeing.{term_agrees}
use Rattle.gb_laws.specs.Typing.{types_of, IsHead}
use Rattle.gb_typing.specs.Context.{Context, erased, of_program}
use Rattle.gb_typing.specs.Programs.{IsExpression}
use Rattle.gb_typing.specs.Typing.{IsNamed, first, middle, last, IsTyped, AreTyped}
use Rattle.gb_typing.proofs.Both.{both, within_both}
use Rattle.gb_typing.proofs.Expressions.{K, not_in}
use Rattle.gb_typing.proofs.Formed.{formed}
use Rattle.gb_typing.proofs.Uses.{plain_typed}
use mathlib.Core.Former.{Count}

-- every use but that of logical variables
abbrev unlogical : Uses
unlogical (reads (Logical i) ty) = false
unlogical u = true

abbrev HasNoLogical : Context → Type 0
HasNoLogical c = (i : ℕ) (ty : Ty) → c.logical i ≡ Some ty → ⊥

-- variables of programs and bound ones may be used
record AdmitsOthers (L : Uses) : Type 0 where
  pub variables : (x : Var) (r : Side) (ty : Ty) → L (reads (Program x r) ty) ≡ true
  pub bounds : (i : ℕ) → L (bound i) ≡ true

module _ (L : Uses) (a : AdmitsOthers L) where
  variables_beneath : (x : Var) (r : Side) (ty : Ty) → beneath L (reads (Program x r) ty) ≡ true
  variables_beneath x side.Own ty = a.variables x side.Own ty
  variables_beneath x side.Left ty = a.variables x side.Left ty
  variables_beneath x side.Right ty = a.variables x side.Right ty
  variables_beneath x (side.Memory i) ty = a.variables x (side.Memory i) ty
  variables_beneath x (side.Bound zero) ty = refl
  variables_beneath x (side.Bound (suc i)) ty = a.variables x (side.Bound i) ty

  bounds_beneath : (i : ℕ) → beneath L (bound i) ≡ true
  bounds_beneath zero = refl
  bounds_beneath (suc i) = a.bounds i

  others_beneath : AdmitsOthers (beneath L)
  others_beneath = record { variables = variables_beneath; bounds = bounds_beneath }

  head_within : (c : Context) → HasNoLogical c → (h : Head) (us : List Ty) (ty : Ty) → HeadIsPlain h → IsHead (erased c) h us ty → IsNamed c h ty → HeadIsWithin L h ty
  head_within c n (head.Read (Logical i)) [] ty x w s = absurd (n i ty w.1)
  head_within c n (head.Read (Logical i)) (u ∷ us) ty x w s = absurd w
  head_within c n (head.Read (Program y r)) us ty x w s = a.variables y r ty
  head_within c n (head.Bound i) us ty x w s = a.bounds i
  head_within c n (head.Glob m r) us ty x w s = absurd s
  head_within c n (head.Pr p r) us ty x w s = absurd x
  head_within c n (head.Hoare b) us ty x w s = absurd x
  head_within c n (head.Phoare b r) us ty x w s = absurd x
  head_within c n (head.Equiv b d) us ty x w s = absurd x
  head_within c n _ us ty x w s = tt

  others_arguments : (h : Head) → HeadIsPlain h → AdmitsOthers (of_arguments L h)
  others_arguments (head.Hoare b) x = absurd x
  others_arguments (head.Phoare b r) x = absurd x
  others_arguments (head.Equiv b d) x = absurd x
  others_arguments _ x = a

  others_last : (h : Head) → HeadIsPlain h → AdmitsOthers (of_last L h)
  others_last (head.All u) x = others_beneath
  others_last (head.Some u) x = others_beneath
  others_last head.AllMemory x = absurd x
  others_last head.SomeMemory x = absurd x
  others_last (head.AllModule b) x = others_beneath
  others_last head.Mu x = others_beneath
  others_last (head.Sum q) x = others_beneath
  others_last head.Map x = others_beneath
  others_last head.Restrict x = others_beneath
  others_last (head.Pr p r) x = absurd x
  others_last (head.Hoare b) x = absurd x
  others_last (head.Phoare b r) x = absurd x
  others_last (head.Equiv b d) x = absurd x
  others_last _ x = a

module _ (c : Context) (n : HasNoLogical c) where
  none_first : (h : Head) → HeadIsPlain h → HasNoLogical (first c h)
  none_first (head.Hoare b) x = absurd x
  none_first (head.Phoare b r) x = absurd x
  none_first (head.Equiv b d) x = absurd x
  none_first _ x = n

  none_middle : (h : Head) → HeadIsPlain h → HasNoLogical (middle c h)
  none_middle (head.Hoare b) x = absurd x
  none_middle (head.Phoare b r) x = absurd x
  none_middle (head.Equiv b d) x = absurd x
  none_middle _ x = n

  none_last : (ls : List TypedName) (h : Head) (us : List Ty) → HeadIsPlain h → HasNoLogical (last c ls h us)
  none_last ls (head.All u) us x = n
  none_last ls (head.Some u) us x = n
  none_last ls head.AllMemory us x = absurd x
  none_last ls head.SomeMemory us x = absurd x
  none_last ls (head.AllModule b) us x = n
  none_last ls head.Mu [] x = n
  none_last ls head.Mu (u ∷ us) x = n
  none_last ls (head.Sum q) us x = n
  none_last ls head.Map [] x = n
  none_last ls head.Map (u ∷ us) x = n
  none_last ls head.Restrict [] x = n
  none_last ls head.Restrict (u ∷ us) x = n
  none_last ls (head.Pr p r) us x = absurd x
  none_last ls (head.Hoare b) us x = absurd x
  none_last ls (head.Phoare b r) us x = absurd x
  none_last ls (head.Equiv b d) us x = absurd x
  none_last ls _ us x = n

mutual
  without_logical : (L : Uses) → AdmitsOthers L → (c : Context) → HasNoLogical c → (t : Term) → IsPlain t → IsTyped c t → IsWithin L t
  without_logical L a c n (Term' p (more_of-Head h end_of-Head) m ts ty) x w = (
    head_within L a c n h (types_of ts) ty x.0 w.0 w.1,
    all_without (of_arguments L h) (of_last L h) (others_arguments L a h x.0) (others_last L a h x.0) (first c h) (middle c h) (last c w.2 h (types_of ts))
        (none_first c n h x.0) (none_middle c n h x.0) (none_last c n w.2 h (types_of ts) x.0) ts x.1 w.3,
  )

  all_without : {m : Count} (L M : Uses) → AdmitsOthers L → AdmitsOthers M → (a b d : Context) → HasNoLogical a → HasNoLogical b → HasNoLogical d → (ts : Row_of-Term m) → AllPlain ts → AreTyped a b d ts →
      AreWithin L M ts
  all_without L M k l a b d i j o end_of-Term x w = tt
  all_without L M k l a b d i j o (more_of-Term t end_of-Term) x w = without_logical M l d o t x.0 w
  all_without L M k l a b d i j o (more_of-Term t (more_of-Term u ts)) x w =
      (without_logical L k a i t x.0 w.0, all_without L M k l b b d j j o (more_of-Term u ts) x.1 w.1)

module _ (c : Context) (ls : List TypedName) where
  abbrev U : Uses
  U = both (K c ls) unlogical

  no_logical : HasNoLogical (of_program c ls)
  no_logical i ty e = false≢true (ap is_some e)
    where
      is_some : Option Ty → Bool
      is_some None = false
      is_some (Some t) = true

  -- an expression has one value, whatever is around of its program
  pub value_anywhere : (e : Term) → IsExpression c ls e → (g : Setting) (s q : State) (m : Memory) → val g quiet e (inside s m) ≡ val g quiet e (inside q m)
  value_anywhere e x g s q m =
      term_agrees g quiet e (formed (of_program c ls) e x.typed) x.plain U (inside s m) (inside q m) agree
      (within_both (K c ls) unlogical e (plain_typed (of_program c ls) e x.plain x.typed)
      (without_logical unlogical (record { variables = λ y r ty. refl; bounds = λ i. refl }) (of_program c ls) no_logical e x.plain x.typed))
    where
      agree : Agree g U (inside s m) (inside q m)
      agree (reads (Logical i) ty) k = absurd (false≢true k)
      agree (reads (Program x side.Own) ty) k = refl
      agree (reads (Program x side.Left) ty) k = refl
      agree (reads (Program x side.Right) ty) k = refl
      agree (reads (Program x (side.Memory i)) ty) k = absurd (not_in c ls x ty (and_parts _ true k).0)
      agree (reads (Program x (side.Bound i)) ty) k = absurd (not_in c ls x ty (and_parts _ true k).0)
      agree (bound i) k = absurd (false≢true k)
      agree (globals x side.Own) k = refl
      agree (globals x side.Left) k = refl
      agree (globals x side.Right) k = refl
      agree (globals x (side.Memory i)) k = absurd (false≢true k)
      agree (globals x (side.Bound i)) k = absurd (false≢true k)
      agree (starts side.Own) k = absurd (false≢true k)
      agree (starts side.Left) k = absurd (false≢true k)
      agree (starts side.Right) k = absurd (false≢true k)
      agree (starts (side.Memory i)) k = absurd (false≢true k)
      agree (starts (side.Bound i)) k = absurd (false≢true k)
      agree binds_own k = tt
      agree binds_sides k = tt
