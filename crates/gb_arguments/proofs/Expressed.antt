-- Expressions of programs are typed within the globals that they read, where they take no module's globals together.
use Rattle.std.proofs.Common.{◌≡◌, ℕ, zero, suc, true, false, List, [], ◌∷◌, Option, Some, None, option_map, get_or, refl, ap, sym, ◌∙◌, subst, arith}
use Rattle.std.proofs.lemmas.Bool.{false≢true}
use Rattle.std.proofs.lemmas.Option.{none-some}
use mathlib.Core.Former.{Count}
use Rattle.gb_core.specs.declared.ty.Ty.{Ty, end_of-Ty, more_of-Ty}
use Rattle.gb_core.specs.declared.ty.Ty.TheVariants as ty
use Rattle.gb_core.specs.declared.var.Var.{Var}
use Rattle.gb_core.specs.declared.var.Var.TheVariants as var
use Rattle.gb_dist.specs.WeightedList.{Every}
use Rattle.gb_terms.specs.declared.decl.TypedName.{TypedName}
use Rattle.gb_terms.specs.declared.op.Read.TheVariants as read
use Rattle.gb_terms.specs.declared.op.Side.TheVariants as side
use Rattle.gb_terms.specs.declared.term.Term.{Term, Term', Row_of-Term, end_of-Term, more_of-Term, end_of-Head, more_of-Head}
use Rattle.gb_terms.specs.declared.term.Head.{Head}
use Rattle.gb_terms.specs.declared.term.Head.TheVariants as head
use Rattle.gb_terms.specs.declared.term.Head.TheVariants.{Sample}
use Rattle.gb_meaning.specs.Footprints.{head_variables, variables, variables_in}
use Rattle.gb_meaning.specs.Globs.{IsGlobless}
use Rattle.gb_meaning.specs.Meanings.{weights_in}
use Rattle.gb_meaning.specs.Names.{Name}
use Rattle.gb_meaning.specs.Naming.{AnyName}
use Rattle.gb_meaning.specs.Operators.{outcome_type}
use Rattle.gb_meaning.specs.Program.{Oracle}
use Rattle.gb_meaning.specs.Setting.{Setting, Meaning}
use Rattle.gb_meaning.specs.Setting.Meaning.{finite, whole, fraction, weights}
use Rattle.gb_meaning.specs.State.{State}
use Rattle.gb_meaning.specs.Terms.{quiet, val}
use Rattle.gb_meaning.specs.Values.{Global, World, Types, has}
use Rattle.gb_meaning.specs.Written.{IsModulo, type_of}
use Rattle.gb_meaning.specs.Declared.{Signature}
use Rattle.gb_meaning.specs.Typing.{AreLocals, IsDistributionOver, IsProgramHead, IsTypedTerm, IsValueOf, Takes, global_type}
use Rattle.gb_meaning.specs.Typing as holds
use Rattle.gb_laws.specs.Context as laws
use Rattle.gb_laws.specs.Context.{IsFractional}
use Rattle.gb_laws.specs.Finite.{IsFinite, IsInhabited}
use Rattle.gb_laws.specs.Meant.{IsInt, IsReal, IsOf, IsOfDistributions}
use Rattle.gb_laws.specs.Operators.{IsDistributionType, items, parts_in}
use Rattle.gb_laws.specs.Plain.{HeadIsPlain, IsPlain, AllPlain}
use Rattle.gb_laws.specs.Programs.{HaveTypes, Take, closed_in, variable_type}
use Rattle.gb_laws.specs.Typing.{Binder, IsHead, OperatorType, types_of}
use Rattle.gb_laws.proofs.Constructors.{distribution_is}
use Rattle.gb_laws.proofs.Drawn.{typed_distribution}
use Rattle.gb_laws.proofs.Running.{closed_meaning}
use Rattle.gb_laws.proofs.Sizes.{finite_sized}
use Rattle.gb_typing.specs.Context.{Context, erased, of_program, within}
use Rattle.gb_typing.specs.Naming.{NoName, HeadNames, TermNames, TermsName}
use Rattle.gb_typing.specs.Programs.{HaveVariableTypes, IsExpression, IsStatement}
use Rattle.gb_typing.specs.Typing.{IsIn, IsNamed, IsTyped, AreTyped, first, last, middle}
use Rattle.gb_typing.proofs.Erased.{erased_typed}
use Rattle.gb_typing.proofs.Variables.{variable_finite, variable_plain}
use Rattle.gb_arguments.specs.Typed.{AreExpressed, AreWithin, IsKnownIn, IsWithin, names}
use Rattle.gb_arguments.proofs.Literals.{finite_globless, tuple_of}
use Rattle.gb_arguments.proofs.Typed.{front_within, rest_within}

-- A context inside of an expression of a program: its own memory, with these locals, is the only one, and there are no logical variables.
record IsAlone (a : Context) (ls : List TypedName) (c : Context) : Type 0 where
  logical : (i : ℕ) → c.logical i ≡ None
  globals : (m x : Name) (u : Ty) → c.global m x ≡ Some u → a.global m x ≡ Some u
  together : (n : Name) → c.has_globals n ≡ false
  own : c.own ≡ Some ls
  left : c.left ≡ None
  right : c.right ≡ None
  named : c.named ≡ []
  frames : (i : ℕ) → get_or c.frames i None ≡ None

module _ (a : Context) (ls : List TypedName) where
  program_alone : IsAlone a ls (of_program a ls)
  program_alone = record {
    logical = λ i. refl;
    globals = λ m x u e. e;
    together = λ n. refl;
    own = refl;
    left = refl;
    right = refl;
    named = refl;
    frames = λ i. refl;
  }

  alone_within : (c : Context) → IsAlone a ls c → (b : Binder) → IsAlone a ls (within c b None)
  alone_within c k b = record {
    logical = k.logical;
    globals = k.globals;
    together = k.together;
    own = k.own;
    left = k.left;
    right = k.right;
    named = k.named;
    frames = outer;
  }
    where
      outer : (i : ℕ) → get_or (within c b None).frames i None ≡ None
      outer zero = refl
      outer (suc i) = k.frames i

  alone_first : (c : Context) → IsAlone a ls c → (h : Head) → HeadIsPlain h → IsAlone a ls (first c h)
  alone_first c k (head.Hoare s) p = absurd p
  alone_first c k (head.Phoare s r) p = absurd p
  alone_first c k (head.Equiv s u) p = absurd p
  alone_first c k _ p = k

  alone_middle : (c : Context) → IsAlone a ls c → (h : Head) → HeadIsPlain h → IsAlone a ls (middle c h)
  alone_middle c k (head.Hoare s) p = absurd p
  alone_middle c k (head.Phoare s r) p = absurd p
  alone_middle c k (head.Equiv s u) p = absurd p
  alone_middle c k _ p = k

  alone_last : (c : Context) → IsAlone a ls c → (qs : List TypedName) (h : Head) (us : List Ty) → HeadIsPlain h → IsAlone a ls (last c qs h us)
  alone_last c k qs (head.All u) us p = alone_within c k _
  alone_last c k qs (head.Some u) us p = alone_within c k _
  alone_last c k qs head.AllMemory us p = absurd p
  alone_last c k qs head.SomeMemory us p = absurd p
  alone_last c k qs (head.AllModule b) us p = alone_within c k _
  alone_last c k qs (head.Sum q) us p = alone_within c k _
  alone_last c k qs head.Mu [] p = k
  alone_last c k qs head.Mu (u ∷ us) p = alone_within c k _
  alone_last c k qs head.Map [] p = k
  alone_last c k qs head.Map (u ∷ us) p = alone_within c k _
  alone_last c k qs head.Restrict [] p = k
  alone_last c k qs head.Restrict (u ∷ us) p = alone_within c k _
  alone_last c k qs (head.Pr q r) us p = absurd p
  alone_last c k qs (head.Hoare s) us p = absurd p
  alone_last c k qs (head.Phoare s r) us p = absurd p
  alone_last c k qs (head.Equiv s u) us p = absurd p
  alone_last c k qs _ us p = k

-- nothing is read in a memory that there isn't
nowhere : {A : Type 0} (c : Context) (x : Var) (t : Ty) → IsIn c None x t → A
nowhere c (var.Global m x) t i = absurd i.0
nowhere c (var.Local x) t i = absurd (none-some t i)
nowhere c (var.Glob b) t i = absurd i.0

module _ (g : Setting) (ss : Oracle → Option Signature) (w : World) (pf : Name → List Global) (gs : List Global) (a : Context)
    (known : (m x : Name) (u : Ty) → a.global m x ≡ Some u → global_type w m x ≡ Some u) (ls : List TypedName) where
  read_own : (c : Context) → IsAlone a ls c → (x : Var) (t : Ty) → IsIn c c.own x t → IsWithin w pf gs x → holds.type_of (names gs ls) x ≡ Some t
  read_own c k (var.Global m x) t i h = h t (known m x t (k.globals m x t i.1))
  read_own c k (var.Local x) t i h = subst (λ f. IsIn c f (var.Local x) t) k.own i
  read_own c k (var.Glob b) t i h = absurd (false≢true (sym (k.together b) ∙ i.1))

  head_expressed : (c : Context) → IsAlone a ls c → (h : Head) (us : List Ty) (t : Ty) → IsHead (erased c) h us t → IsNamed c h t → HeadIsPlain h → HeadNames NoName AnyName h t →
      AreWithin w pf gs (head_variables h) → IsProgramHead (names gs ls) h t
  head_expressed c k (head.Lit v) us t e i p n v' = tt
  head_expressed c k (head.Whole z) us t e i p n v = tt
  head_expressed c k (head.Read (read.Logical j)) [] t e i p n v = absurd (none-some t (sym (k.logical j) ∙ e.1))
  head_expressed c k (head.Read (read.Logical j)) (u ∷ us) t e i p n v = absurd e
  head_expressed c k (head.Read (read.Program x side.Own)) us t e i p n v = (n.1, read_own c k x t i v.0)
  head_expressed c k (head.Read (read.Program x side.Left)) us t e i p n v = nowhere c x t (subst (λ f. IsIn c f x t) k.left i)
  head_expressed c k (head.Read (read.Program x side.Right)) us t e i p n v = nowhere c x t (subst (λ f. IsIn c f x t) k.right i)
  head_expressed c k (head.Read (read.Program x (side.Memory j))) us t e i p n v = nowhere c x t (subst (λ fs. IsIn c (get_or fs j None) x t) k.named i)
  head_expressed c k (head.Read (read.Program x (side.Bound j))) us t e i p n v = nowhere c x t (subst (λ f. IsIn c f x t) (k.frames j) i)
  head_expressed c k (head.Bound j) us t e i p n v = tt
  head_expressed c k (head.Builtin o) us t e i p n v = n
  head_expressed c k (head.User o) us t e i p n v = tt
  head_expressed c k (head.All u) us t e i p n v = n
  head_expressed c k (head.Some u) us t e i p n v = n
  head_expressed c k head.AllMemory us t e i p n v = absurd p
  head_expressed c k head.SomeMemory us t e i p n v = absurd p
  head_expressed c k (head.AllModule b) us t e i p n v = absurd i
  head_expressed c k head.Mu us t e i p n v = tt
  head_expressed c k (head.Sum q) us t e i p n v = tt
  head_expressed c k (head.Weights ps) us t e i p n v = tt
  head_expressed c k head.Map us t e i p n v = tt
  head_expressed c k head.Restrict us t e i p n v = tt
  head_expressed c k (head.Pr q r) us t e i p n v = absurd p
  head_expressed c k (head.Glob m r) us t e i p n v = absurd i
  head_expressed c k (head.Hoare s) us t e i p n v = absurd p
  head_expressed c k (head.Phoare s r) us t e i p n v = absurd p
  head_expressed c k (head.Equiv s u) us t e i p n v = absurd p

  abbrev Alone : Context → Type 0
  Alone c = IsAlone a ls c

  mutual
    term_expressed : (c : Context) → Alone c → (t : Term) → IsTyped c t → IsPlain t → TermNames NoName AnyName t → AreWithin w pf gs (variables t) → holds.IsExpression (names gs ls) t
    term_expressed c k (Term' q (more_of-Head h end_of-Head) n ts t) e p s v = (
      head_expressed c k h (types_of ts) t e.0 e.1 p.0 s.0 (front_within g ss w pf gs (head_variables h) (variables_in ts) v),
      terms_expressed (first c h) (middle c h) (last c e.2 h (types_of ts)) (alone_first a ls c k h p.0) (alone_middle a ls c k h p.0) (alone_last a ls c k e.2 h (types_of ts) p.0)
          ts e.3 p.1 s.1 (rest_within g ss w pf gs (head_variables h) (variables_in ts) v),
    )

    terms_expressed : {n : Count} (c d b : Context) → Alone c → Alone d → Alone b → (ts : Row_of-Term n) → AreTyped c d b ts → AllPlain ts → TermsName NoName AnyName ts →
        AreWithin w pf gs (variables_in ts) → holds.AreExpressions (names gs ls) ts
    terms_expressed c d b x y z end_of-Term e p s v = tt
    terms_expressed c d b x y z (more_of-Term t end_of-Term) e p s v = (term_expressed b z t e p.0 s.0 (front_within g ss w pf gs (variables t) [] v), tt)
    terms_expressed c d b x y z (more_of-Term t (more_of-Term u ts)) e p s v = (
      term_expressed c x t e.0 p.0 s.0 (front_within g ss w pf gs (variables t) (variables_in (more_of-Term u ts)) v),
      terms_expressed d d b y y z (more_of-Term u ts) e.1 p.1 s.1 (rest_within g ss w pf gs (variables t) (variables_in (more_of-Term u ts)) v),
    )

  -- an expression of a program
  pub expressed : (e : Term) → IsExpression a ls e → TermNames NoName AnyName e → AreWithin w pf gs (variables e) → holds.IsExpression (names gs ls) e
  expressed e k s v = term_expressed (of_program a ls) (program_alone a ls) e k.typed k.plain s v

  -- Left sides.

  variable_within : (x : Var) (t : Ty) → variable_type (erased a) ls x ≡ Some t → IsWithin w pf gs x → holds.type_of (names gs ls) x ≡ Some t
  variable_within (var.Global m x) t e h = h t (known m x t e)
  variable_within (var.Local x) t e h = e
  variable_within (var.Glob b) t e h = e

  types_within : (xs : List Var) (ts : List Ty) → HaveTypes (erased a) ls xs ts → AreWithin w pf gs xs → holds.types_of (names gs ls) xs ≡ Some ts
  types_within [] [] e h = refl
  types_within [] (t ∷ ts) e h = absurd e
  types_within (x ∷ xs) [] e h = absurd e
  types_within (x ∷ xs) (t ∷ ts) e h = λ i. holds.with_type (variable_within x t e.0 h.0 i) (types_within xs ts e.1 h.1 i)

  tuple_within : (x y : Var) (xs : List Var) (t : Ty) → HaveTypes (erased a) ls (x ∷ y ∷ xs) (parts_in t) → AreWithin w pf gs (x ∷ y ∷ xs) →
      option_map ty.Tuple (holds.types_of (names gs ls) (x ∷ y ∷ xs)) ≡ Some t
  tuple_within x y xs (ty.Tuple' n r) e h = ap (option_map ty.Tuple) (types_within (x ∷ y ∷ xs) (items r) e h) ∙ ap Some (tuple_of n r)
  tuple_within x y xs _ e h = absurd e

  pub left_within : (xs : List Var) (t : Ty) → Take (erased a) ls xs t → AreWithin w pf gs xs → Takes (names gs ls) xs t
  left_within [] t e h = tt
  left_within (x ∷ []) t e h = variable_within x t e h.0
  left_within (x ∷ y ∷ xs) t e h = tuple_within x y xs t e h

-- Meanings.

finite_value : (ts : Types) (t : Ty) (m : Meaning) → IsFinite t → IsOf ts t m → IsValueOf ts t m
finite_value ts t (finite v) f k = k
finite_value ts t (whole n) f k = no_int t f k
  where
    no_int : (t : Ty) → IsFinite t → IsInt t → ⊥
    no_int ty.Int f i = f
    no_int _ f i = absurd i
finite_value ts t (fraction q) f k = no_real t f k.0
  where
    no_real : (t : Ty) → IsFinite t → IsReal t → ⊥
    no_real ty.Real f i = f
    no_real _ f i = absurd i
finite_value ts t (weights d) f k = no_weights t f k.0
  where
    no_weights : (t : Ty) → IsFinite t → IsOfDistributions t → ⊥
    no_weights (ty.Distr' p x) f i = f
    no_weights _ f i = absurd i

modulo_value : (ts : Types) (t : Ty) (m : Meaning) → IsModulo t → IsOf ts t m → IsValueOf ts t m
modulo_value ts (ty.Mod n) (finite v) f k = k
modulo_value ts (ty.Mod n) (whole z) f k = absurd k
modulo_value ts (ty.Mod n) (fraction q) f k = absurd k.0
modulo_value ts (ty.Mod n) (weights d) f k = absurd k.0
modulo_value ts _ m f k = absurd f

modulo_globless : (t : Ty) → IsModulo t → IsGlobless t
modulo_globless (ty.Mod n) f = tt
modulo_globless _ f = absurd f

drawn_values : (ts : Types) (t : Ty) (m : Meaning) → IsOf ts t m → Every (λ v. has ts (outcome_type t) v ≡ true) (weights_in m)
drawn_values ts t (finite v) k = tt
drawn_values ts t (whole n) k = tt
drawn_values ts t (fraction q) k = tt
drawn_values ts t (weights d) k = k.1

distribution_of : (t : Ty) → IsDistributionType t → t ≡ ty.Distr (outcome_type t)
distribution_of (ty.Distr' p (more_of-Ty t end_of-Ty)) k = sym (distribution_is t)
distribution_of _ k = absurd k

-- The type of an expression with a value.

abbrev pub GivesGlobless : Context → Type 0
GivesGlobless c = (n : Name) (o : OperatorType) → c.operator n ≡ Some o → IsFinite o.result → IsGlobless o.result

undrawn : (t : Ty) → IsFinite t → IsDistributionType t → ⊥
undrawn (ty.Distr' p x) f d = f
undrawn _ f d = absurd d

of_bool : (t : Ty) → t ≡ ty.Bool → IsGlobless t
of_bool t e = subst IsGlobless (sym e) tt

head_globless : (a : Context) (ls : List TypedName) → GivesGlobless a → (h : Head) (us : List Ty) (t : Ty) → IsHead (erased (of_program a ls)) h us t → IsNamed (of_program a ls) h t → HeadIsPlain h →
    HeadNames NoName AnyName h t → IsFinite t → IsGlobless t
head_globless a ls r (head.Lit v) [] t e i p n f = finite_globless t e.0
head_globless a ls r (head.Lit v) (u ∷ us) t e i p n f = absurd e
head_globless a ls r (head.Whole z) [] t e i p n f = absurd (subst IsFinite e f)
head_globless a ls r (head.Whole z) (u ∷ us) t e i p n f = absurd e
head_globless a ls r (head.Read (read.Logical j)) [] t e i p n f = absurd (none-some t e.1)
head_globless a ls r (head.Read (read.Logical j)) (u ∷ us) t e i p n f = absurd e
head_globless a ls r (head.Read (read.Program x s)) us t e i p n f = n.1
head_globless a ls r (head.Bound j) [] t e i p n f = absurd e
head_globless a ls r (head.Bound j) (u ∷ us) t e i p n f = absurd e
head_globless a ls r (head.Builtin o) us t e i p n f = n
head_globless a ls r (head.User o) us t e i p n f = r o (record { params = us; result = t }) e f
head_globless a ls r (head.All u) [] t e i p n f = absurd e
head_globless a ls r (head.All u) (x ∷ []) t e i p n f = of_bool t e.1.1.0
head_globless a ls r (head.All u) (x ∷ y ∷ us) t e i p n f = absurd e
head_globless a ls r (head.Some u) [] t e i p n f = absurd e
head_globless a ls r (head.Some u) (x ∷ []) t e i p n f = of_bool t e.1.1.0
head_globless a ls r (head.Some u) (x ∷ y ∷ us) t e i p n f = absurd e
head_globless a ls r head.AllMemory us t e i p n f = absurd p
head_globless a ls r head.SomeMemory us t e i p n f = absurd p
head_globless a ls r (head.AllModule b) us t e i p n f = absurd i
head_globless a ls r head.Mu [] t e i p n f = absurd e
head_globless a ls r head.Mu (x ∷ []) t e i p n f = absurd e
head_globless a ls r head.Mu (x ∷ y ∷ []) t e i p n f = absurd (subst IsFinite e.2 f)
head_globless a ls r head.Mu (x ∷ y ∷ z ∷ us) t e i p n f = absurd e
head_globless a ls r (head.Sum q) [] t e i p n f = absurd e
head_globless a ls r (head.Sum q) (x ∷ []) t e i p n f = absurd (subst IsFinite e.1.1.0 f)
head_globless a ls r (head.Sum q) (x ∷ y ∷ us) t e i p n f = absurd e
head_globless a ls r (head.Weights ps) [] t e i p n f = absurd (undrawn t f e.0)
head_globless a ls r (head.Weights ps) (u ∷ us) t e i p n f = absurd e
head_globless a ls r head.Map [] t e i p n f = absurd e
head_globless a ls r head.Map (x ∷ []) t e i p n f = absurd e
head_globless a ls r head.Map (x ∷ y ∷ []) t e i p n f = absurd (subst IsFinite e.2 f)
head_globless a ls r head.Map (x ∷ y ∷ z ∷ us) t e i p n f = absurd e
head_globless a ls r head.Restrict [] t e i p n f = absurd e
head_globless a ls r head.Restrict (x ∷ []) t e i p n f = absurd e
head_globless a ls r head.Restrict (x ∷ y ∷ []) t e i p n f = absurd (undrawn t f e.0)
head_globless a ls r head.Restrict (x ∷ y ∷ z ∷ us) t e i p n f = absurd e
head_globless a ls r (head.Pr q s) us t e i p n f = absurd p
head_globless a ls r (head.Glob m s) us t e i p n f = absurd i
head_globless a ls r (head.Hoare s) us t e i p n f = absurd p
head_globless a ls r (head.Phoare s q) us t e i p n f = absurd p
head_globless a ls r (head.Equiv s u) us t e i p n f = absurd p

type_globless : (a : Context) (ls : List TypedName) → GivesGlobless a → (t : Term) → IsTyped (of_program a ls) t → IsPlain t → TermNames NoName AnyName t → IsFinite (type_of t) → IsGlobless (type_of t)
type_globless a ls r (Term' q (more_of-Head h end_of-Head) n ts t) e p s f = head_globless a ls r h (types_of ts) t e.0 e.1 p.0 s.0 f

-- Expressions are typed.

quiet_fractional : IsFractional quiet
quiet_fractional p xs m e = omega arith

module _ (g : Setting) (ss : Oracle → Option Signature) (w : World) (pf : Name → List Global) (gs : List Global) where
  meaning_of : (c : Context) → laws.IsSettingOf (erased c) g → (ls : List TypedName) (e : Term) → IsTyped (of_program c ls) e → (s : State) → IsOf g.types (type_of e) (val g quiet e s)
  meaning_of c k ls e t = closed_meaning g (erased c) k quiet quiet_fractional e (erased_typed (of_program c ls) e t)

  locals_typed : IsInhabited g.types → (ls : List TypedName) → HaveVariableTypes ls → AreLocals g.types ls
  locals_typed h [] v = tt
  locals_typed h (l ∷ ls) v = ((variable_plain l.ty v.0, finite_sized g.types h l.ty (variable_finite l.ty v.0)), locals_typed h ls v.1)

  module _ (c : Context) (k : IsKnownIn g w c) (ls : List TypedName) where
    value_typed : (e : Term) → IsExpression c ls e → IsFinite (type_of e) → TermNames NoName AnyName e → AreWithin w pf gs (variables e) → IsTypedTerm g (names gs ls) e
    value_typed e x f s v = (
      expressed g ss w pf gs c k.globals ls e x s v,
      (λ q. finite_value g.types (type_of e) (val g quiet e q) f (meaning_of c k.operators ls e x.typed q)),
      type_globless c ls k.results e x.typed x.plain s f,
    )

    variant_typed : (e : Term) → IsExpression c ls e → IsModulo (type_of e) → TermNames NoName AnyName e → AreWithin w pf gs (variables e) → IsTypedTerm g (names gs ls) e
    variant_typed e x f s v = (
      expressed g ss w pf gs c k.globals ls e x s v,
      (λ q. modulo_value g.types (type_of e) (val g quiet e q) f (meaning_of c k.operators ls e x.typed q)),
      modulo_globless (type_of e) f,
    )

    drawn_typed : (x : Var) (d : Term) → IsStatement c ls (Sample x d) → TermNames NoName AnyName d → IsWithin w pf gs x → AreWithin w pf gs (variables d) →
        IsDistributionOver g (names gs ls) (holds.type_of (names gs ls) x) d
    drawn_typed x d e s h v =
        subst (λ z. IsDistributionOver g (names gs ls) z d) (sym (variable_within g ss w pf gs c k.globals ls x (outcome_type (type_of d)) e.2 h)) (
          expressed g ss w pf gs c k.globals ls d e.0 s v,
          typed_distribution (closed_in (erased c)) g (record { inhabited = let o = k.operators in o.inhabited; operators = let o = k.operators in o.operators; distributions = let o = k.operators in o.distributions })
              d (closed_in (erased c)) refl (erased_typed (of_program c ls) d (let o = e.0 in o.typed)) e.1,
          distribution_of (type_of d) e.1,
          (λ q. drawn_values g.types (type_of d) (val g quiet d q) (meaning_of c k.operators ls d (let o = e.0 in o.typed) q)),
        )

  pub all_expressed : IsInhabited g.types → AreExpressed g ss w pf gs (IsKnownIn g w)
  all_expressed h = record {
    locals = locals_typed h;
    value = λ c k ls e x s v. value_typed c k ls e x.expression x.finite s v;
    test = λ c k ls e x b s v. (value_typed c k ls e x (subst IsFinite (sym b) tt) s v, b);
    variant = λ c k ls e x m s v. (variant_typed c k ls e x m s v, m);
    draw = drawn_typed;
    takes = λ c k ls xs t e v. left_within g ss w pf gs c k.globals ls xs t e v;
  }
