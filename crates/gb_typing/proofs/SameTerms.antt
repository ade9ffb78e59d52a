-- Terms mean the same in settings that agree on what they name.
use Rattle.std.proofs.Common.{◌≡◌, ℕ, if◌then◌else◌, List, [], ◌∷◌, map, Option, Some, None, refl, ap, ◌∙◌}
use Rattle.std.proofs.Math.Path.{fun_ext}
use mathlib.Core.Former.{Count}
use Rattle.gb_core.specs.declared.ty.Ty.{Ty}
use Rattle.gb_core.specs.declared.value.Value.{Value}
use Rattle.gb_core.specs.declared.value.Value.TheVariants.{Many}
use Rattle.gb_core.specs.declared.var.Var.{Var}
use Rattle.gb_core.specs.declared.var.Var.TheVariants as var
use Rattle.gb_core.specs.Numbering.{Numbering, parts_of, first_or}
use Rattle.gb_terms.specs.declared.op.Op.{Op}
use Rattle.gb_terms.specs.declared.op.Op.TheVariants as op
use Rattle.gb_terms.specs.declared.op.Read.TheVariants as read
use Rattle.gb_terms.specs.declared.module.Mexp.TheVariants.{Name as named}
use Rattle.gb_terms.specs.declared.term.Term.{Term, Term', Row_of-Term, end_of-Term, more_of-Term, end_of-Head, more_of-Head}
use Rattle.gb_terms.specs.declared.term.Head.{Head}
use Rattle.gb_terms.specs.declared.term.Head.TheVariants as head
use Rattle.gb_meaning.specs.Values.{Global, Types, fit}
use Rattle.gb_meaning.specs.Names.{get}
use Rattle.gb_meaning.specs.Memory.{Memory, read_global, read_globals, read as read_var}
use Rattle.gb_meaning.specs.Setting.{Meaning, Setting}
use Rattle.gb_meaning.specs.Setting.Meaning.{finite, weights, fraction}
use Rattle.gb_meaning.specs.Meanings.{of_truth, value_in, truth}
use Rattle.gb_meaning.specs.Distributions.{uniform}
use Rattle.gb_meaning.specs.Operators.{Argument, operated, nullary, unary, binary, ternary, denominator_at, denominator_over, entry_set}
use Rattle.gb_meaning.specs.State.{State, memory_of, at}
use Rattle.gb_meaning.specs.Terms.{Speaks, Part, last_of, before_last, argument, at_value, each_value, some_value, at_head, val, parts, denominator_of, denominator, denominators, quiet}
use Rattle.gb_typing.specs.Agreement.{SameValues, SameType, SameGlobals, SameRead, SameLeaf, SameTerm, SameTerms}

module _ (t u : Types) where
  pub fit_same : (ty : Ty) → SameValues t u ty → (o : Option Value) → fit t ty o ≡ fit u ty o
  fit_same ty e None = ap (λ (z : Numbering). z.at 0) e
  fit_same ty e (Some v) = ap (λ (z : Numbering). if z.has v then v else z.at 0) e

  each-read : (m : Memory) (xs : List Global) → SameGlobals t u xs → map (read_global t m) xs ≡ map (read_global u m) xs
  each-read m [] e = refl
  each-read m (x ∷ xs) e = λ i. fit_same x.ty e.0 (get m.globals (x.parent ∷ x.name ∷ [])) i ∷ each-read m xs e.1 i

  pub globals_same : (m : Memory) (xs ys : List Global) → xs ≡ ys → SameGlobals t u xs → read_globals t m xs ≡ read_globals u m ys
  globals_same m xs ys e k = ap Many (each-read m xs k) ∙ ap (read_globals u m) e

  pub read_same : (m : Memory) (x : Var) (ty : Ty) → SameRead t u x ty → read_var t m x ty ≡ read_var u m x ty
  read_same m (var.Global parent name) ty e = fit_same ty e (get m.globals (parent ∷ name ∷ []))
  read_same m (var.Local x) ty e = fit_same ty e (get m.frame (x ∷ []))
  read_same m (var.Glob a) ty e = globals_same m (t.footprint (named a)) (u.footprint (named a)) e.0 e.1

  nullary_same : (o : Op) (ty : Ty) → SameType t u ty → nullary t o ty ≡ nullary u o ty
  nullary_same op.Uniform ty e = ap (λ z. weights (uniform z)) e.1
  nullary_same _ ty e = refl

  unary_same : (o : Op) (ty : Ty) (a : Meaning) → SameType t u ty → unary t o ty a ≡ unary u o ty a
  unary_same op.Oget ty a e = ap (λ (z : Numbering). finite (first_or (parts_of (value_in a)) (z.at 0))) e.0
  unary_same _ ty a e = refl

  ternary_same : (o : Op) (ty : Ty) (a b c : Argument) → SameType t u ty → ternary t o ty a b c ≡ ternary u o ty a b c
  ternary_same op.Set ty a b c e = ap (λ z. finite (Many (entry_set z (parts_of (value_in a.meaning)) (value_in b.meaning) (value_in c.meaning)))) e.2
  ternary_same _ ty a b c e = refl

  binary_same : (o : Op) (ty : Ty) (a b : Argument) → binary t o ty a b ≡ binary u o ty a b
  binary_same _ ty a b = refl

  operated_same : (o : Op) (ty : Ty) (xs : List Argument) → SameType t u ty → operated t o ty xs ≡ operated u o ty xs
  operated_same op.Tuple ty xs e = refl
  operated_same o ty [] e = nullary_same o ty e
  operated_same o ty (a ∷ []) e = unary_same o ty a.meaning e
  operated_same o ty (a ∷ b ∷ []) e = binary_same o ty a b
  operated_same o ty (a ∷ b ∷ c ∷ []) e = ternary_same o ty a b c e
  operated_same o ty (a ∷ b ∷ c ∷ d ∷ xs) e = refl

  size_same : (o : Op) (ty : Ty) (ks : List ℕ) → SameType t u ty → denominator_at t o ty ks ≡ denominator_at u o ty ks
  size_same op.Uniform ty ks e = ap (λ (z : Numbering). z.size) e.1
  size_same _ ty ks e = refl

module _ (g h : Setting) where
  tree_same : (hd : Head) (ks : List ℕ) (ty : Ty) → SameLeaf g h hd ty → denominator_of g hd ks ty ≡ denominator_of h hd ks ty
  tree_same (head.Builtin o) ks ty e = size_same g.types h.types o ty ks e
  tree_same (head.User n) ks ty e = ap (denominator_over ty) e.1
  tree_same _ ks ty e = refl

  mutual
    pub denominator_same : (t : Term) → SameTerm g h t → denominator g t ≡ denominator h t
    denominator_same (Term' p (more_of-Head hd end_of-Head) n ts ty) e =
        ap (λ z. denominator_of g hd z ty) (denominators_same ts e.1) ∙ tree_same hd (denominators h ts) ty e.0

    denominators_same : {n : Count} (ts : Row_of-Term n) → SameTerms g h ts → denominators g ts ≡ denominators h ts
    denominators_same end_of-Term e = refl
    denominators_same (more_of-Term t ts) e = λ i. denominator_same t e.0 i ∷ denominators_same ts e.1 i

  -- what is said of a head is the same
  abbrev pub SaysSame : Speaks → Speaks → Term → Head → State → Type 0
  SaysSame j k u head.AllMemory s = j.judged u s ≡ k.judged u s
  SaysSame j k u head.SomeMemory s = j.judged u s ≡ k.judged u s
  SaysSame j k u (head.Hoare c) s = j.judged u s ≡ k.judged u s
  SaysSame j k u (head.Phoare c r) s = j.judged u s ≡ k.judged u s
  SaysSame j k u (head.Equiv c d) s = j.judged u s ≡ k.judged u s
  SaysSame j k u (head.Pr p r) s = j.probability p ≡ k.probability p
  SaysSame j k u _ s = Unit {0}

  pub head_same : (j k : Speaks) (u : Term) (hd : Head) (xs : List Part) (ty : Ty) (s : State) → SameLeaf g h hd ty → SaysSame j k u hd s →
      at_head g j u hd xs ty s ≡ at_head h k u hd xs ty s
  head_same j k u (head.Read (read.Program x r)) xs ty s e f = ap finite (read_same g.types h.types (memory_of s r) x ty e)
  head_same j k u (head.Builtin o) xs ty s e f = operated_same g.types h.types o ty (map (argument s) xs) e
  head_same j k u (head.User n) xs ty s e f = ap (λ z. z (map (λ (x : Part). x.meaning s) xs)) e.0
  head_same j k u (head.All w) xs ty s e f = ap (λ z. of_truth (each_value z (λ v. truth (at_value (last_of xs) s v)))) e
  head_same j k u (head.Some w) xs ty s e f = ap (λ z. of_truth (some_value z (λ v. truth (at_value (last_of xs) s v)))) e
  head_same j k u (head.Glob m r) xs ty s e f = ap finite (globals_same g.types h.types (memory_of s r) (g.types.footprint m) (h.types.footprint m) e.0 e.1)
  head_same j k u (head.Pr p r) xs ty s e f =
      ap (λ z. fraction (z (map (λ (x : Part). value_in (x.meaning s)) (before_last xs)) (memory_of s r) (λ n. truth ((last_of xs).meaning (at s n))))) f
  head_same j k u head.AllMemory xs ty s e f = ap of_truth f
  head_same j k u head.SomeMemory xs ty s e f = ap of_truth f
  head_same j k u (head.Hoare c) xs ty s e f = ap of_truth f
  head_same j k u (head.Phoare c r) xs ty s e f = ap of_truth f
  head_same j k u (head.Equiv c d) xs ty s e f = ap of_truth f
  head_same j k u _ xs ty s e f = refl

  quiet_same : (u : Term) (hd : Head) (s : State) → SaysSame quiet quiet u hd s
  quiet_same u head.AllMemory s = refl
  quiet_same u head.SomeMemory s = refl
  quiet_same u (head.Hoare c) s = refl
  quiet_same u (head.Phoare c r) s = refl
  quiet_same u (head.Equiv c d) s = refl
  quiet_same u (head.Pr p r) s = refl
  quiet_same u _ s = tt

  pub part_same : (j k : Speaks) (t : Term) → ((s : State) → val g j t s ≡ val h k t s) → denominator g t ≡ denominator h t →
      ◌≡◌ {A = Part} (record { meaning = λ s. val g j t s; denominator = denominator g t }) (record { meaning = λ s. val h k t s; denominator = denominator h t })
  part_same j k t e d =
      let one : ◌≡◌ {A = State → Meaning} (λ s. val g j t s) (λ s. val h k t s) = fun_ext e in
      λ i. record { meaning = one i; denominator = d i }

  mutual
    pub term_same : (t : Term) → SameTerm g h t → (s : State) → val g quiet t s ≡ val h quiet t s
    term_same (Term' p (more_of-Head hd end_of-Head) n ts ty) e s =
        ap (λ xs. at_head g quiet (Term' p (more_of-Head hd end_of-Head) n ts ty) hd xs ty s) (terms_same ts e.1)
        ∙ head_same quiet quiet (Term' p (more_of-Head hd end_of-Head) n ts ty) hd (parts h quiet ts) ty s e.0
        (quiet_same (Term' p (more_of-Head hd end_of-Head) n ts ty) hd s)

    terms_same : {n : Count} (ts : Row_of-Term n) → SameTerms g h ts → parts g quiet ts ≡ parts h quiet ts
    terms_same end_of-Term e = refl
    terms_same (more_of-Term t ts) e =
        λ i. part_same quiet quiet t (term_same t e.0) (denominator_same t e.0) i ∷ terms_same ts e.1 i
