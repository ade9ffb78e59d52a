-- Typed programs are typed alike, and name the same, in settings with the same sizes of types and the same operators.
use Rattle.std.proofs.Common.{◌≡◌, ◌<◌, Bool, true, false, ◌&&◌, if◌then◌else◌, List, [], ◌∷◌, ◌++◌, Option, Some, None, bytes_eq, refl, sym, subst}
use Rattle.std.proofs.lemmas.Option.{none-some, cond_some}
use Rattle.gb_core.specs.declared.ty.Ty.{Ty}
use Rattle.gb_core.specs.declared.var.Var.{Var}
use Rattle.gb_core.specs.declared.var.Var.TheVariants as var
use Rattle.gb_core.specs.Numbering.{Numbering}
use Rattle.gb_terms.specs.declared.decl.TypedName.{TypedName}
use Rattle.gb_terms.specs.declared.module.Mexp.{Mexp}
use Rattle.gb_terms.specs.declared.module.Mexp.TheVariants.{Name as named, Apply'}
use Rattle.gb_terms.specs.declared.term.Term.{Term}
use Rattle.gb_dist.specs.WeightedList.{Every}
use Rattle.gb_meaning.specs.Names.{Name}
use Rattle.gb_meaning.specs.Values.{Global, has}
use Rattle.gb_meaning.specs.Program.{Program, Routine, Oracle}
use Rattle.gb_meaning.specs.Program.Program.{done, assign, sample, branch, loop, call, ask}
use Rattle.gb_meaning.specs.Program.Routine.{routine}
use Rattle.gb_meaning.specs.Setting.{Setting, Meaning}
use Rattle.gb_meaning.specs.Setting.Meaning.{finite, whole, fraction, weights}
use Rattle.gb_meaning.specs.Terms.{val, quiet, distribution}
use Rattle.gb_meaning.specs.Declared.{Signature}
use Rattle.gb_meaning.specs.Globs.{IsGlobless}
use Rattle.gb_meaning.specs.Typing.{Names, global_type, type_of, IsExpression, IsValueOf, IsTypedTerm, IsDistributionOver, AreArguments, AreLocals, FitsSignature, IsTyped, IsTypedRoutine}
use Rattle.gb_meaning.specs.Written.{local_type, type_of as written_type, params_of}
use Rattle.gb_meaning.specs.Naming.{AnyName, EachName}
use Rattle.gb_typing.specs.Agreement.{SameFootprint, SameValues, SameTerm, SameLocals}
use Rattle.gb_typing.proofs.SameTerms.{term_same}
use Rattle.gb_typing.proofs.SamePrograms.{distribution_same}
use Rattle.gb_typing.proofs.SameForms.{distribution-to}
use Rattle.gb_typing.specs.Naming.{NoName, AgreeOn}
use Rattle.gb_typing.proofs.Agreeing.{term_agrees}
use Rattle.gb_typing.proofs.TypedNames.{expression-names, over-names}
use Rattle.gb_typing.proofs.PlainGlobals.{EachPlain, globless_values, plain_values}

-- two settings with the same sizes of types and the same operators
abbrev pub SameBasis : Setting → Setting → Type 0
SameBasis g h = AgreeOn NoName AnyName g h

nowhere : (m : Mexp) (A : Type 0) → EachName NoName m → A
nowhere (named m) A e = absurd e
nowhere (Apply' m n args) A e = absurd e.0

-- what agrees on some modules and on every operator agrees on none and on every operator
pub basis-of : (P : Name → Type 0) (g h : Setting) → AgreeOn P AnyName g h → SameBasis g h
basis-of P g h a = record {
  sizes = a.sizes;
  footprints = λ m e. nowhere m (SameFootprint g.types h.types m) e;
  operators = a.operators;
  procedures = λ p e. nowhere p.«module» (g.procedure p ≡ h.procedure p) e;
}

pub turned-basis : (g h : Setting) → SameBasis g h → SameBasis h g
turned-basis g h a = record {
  sizes = sym a.sizes;
  footprints = λ m e. nowhere m (SameFootprint h.types g.types m) e;
  operators = λ n e. (sym (a.operators n e).0, sym (a.operators n e).1);
  procedures = λ p e. nowhere p.«module» (h.procedure p ≡ g.procedure p) e;
}

module _ (g h : Setting) (a : SameBasis g h) where
  values-alike : (t : Ty) → IsGlobless t → SameValues g.types h.types t
  values-alike t e = globless_values g.types h.types a.sizes t e

  expression-alike : (c : Names) (e : Term) → IsExpression c e → SameTerm g h e
  expression-alike c e k = term_agrees NoName AnyName g h a e (expression-names NoName c e k)

  value-to : (t : Ty) (m : Meaning) → SameValues g.types h.types t → IsValueOf g.types t m → IsValueOf h.types t m
  value-to t (finite v) e k = subst (λ (z : Numbering). z.has v ≡ true) e k
  value-to t (whole i) e k = absurd k
  value-to t (fraction q) e k = absurd k
  value-to t (weights l) e k = absurd k

  typed-term-to : (c : Names) (e : Term) → IsTypedTerm g c e → IsTypedTerm h c e
  typed-term-to c e k = (
    k.0,
    λ s. subst (IsValueOf h.types (written_type e)) (term_same g h e (expression-alike c e k.0) s)
        (value-to (written_type e) (val g quiet e s) (values-alike (written_type e) k.2) (k.1 s)),
    k.2,
  )

  arguments-to : (c : Names) (es : List Term) (ps : List TypedName) → AreArguments g c es ps → AreArguments h c es ps
  arguments-to c [] [] k = tt
  arguments-to c (e ∷ es) (p ∷ ps) k = (typed-term-to c e k.0, k.1, arguments-to c es ps k.2)
  arguments-to c [] (p ∷ ps) k = absurd k
  arguments-to c (e ∷ es) [] k = absurd k

  signature-to : (c : Names) (s : Option Signature) (xs : List Var) (es : List Term) → FitsSignature g c s xs es → FitsSignature h c s xs es
  signature-to c None xs es k = absurd k
  signature-to c (Some s) xs es k = (arguments-to c es s.params k.0, k.1)

  pub over-alike : (c : Names) (o : Option Ty) (d : Term) → IsDistributionOver g c o d → SameTerm g h d
  over-alike c o d k = term_agrees NoName AnyName g h a d (over-names NoName g c o d k)

  over-to : (c : Names) (o : Option Ty) (d : Term) → ((t : Ty) → o ≡ Some t → SameValues g.types h.types t) →
      IsDistributionOver g c o d → IsDistributionOver h c o d
  over-to c None d f k = absurd k
  over-to c (Some t) d f k =
      let e : SameTerm g h d = expression-alike c d k.0 in (
        k.0,
        distribution-to g h d e k.1,
        k.2,
        λ s. subst (Every (λ v. has h.types t v ≡ true)) (distribution_same g h d e s)
            (subst (λ (z : Numbering). Every (λ v. z.has v ≡ true) (distribution g d s)) (f t refl) (k.3 s)),
      )

  locals-to : (ls : List TypedName) → AreLocals g.types ls → AreLocals h.types ls
  locals-to [] k = tt
  locals-to (l ∷ ls) k =
      ((k.0.0, subst (λ (z : Numbering). 0 < z.size) (plain_values g.types h.types a.sizes l.ty k.0.0) k.0.1), locals-to ls k.1)

  pub locals-alike : (ls : List TypedName) → AreLocals g.types ls → SameLocals g.types h.types ls
  locals-alike [] k = tt
  locals-alike (l ∷ ls) k = (plain_values g.types h.types a.sizes l.ty k.0.0, locals-alike ls k.1)

  -- the variables of plain names have types with the same values

  some-if : (P : Ty → Type 0) (b : Bool) (y t : Ty) (o : Option Ty) → P y → (o ≡ Some t → P t) → (if b then Some y else o) ≡ Some t → P t
  some-if P true y t o p q e = subst P (cond_some true y t e).1 p
  some-if P false y t o p q e = q e

  global-alike : (gs : List Global) → EachPlain gs → (m x : Name) (t : Ty) → global_type gs m x ≡ Some t → SameValues g.types h.types t
  global-alike [] p m x t e = absurd (none-some t e)
  global-alike (y ∷ gs) p m x t e =
      some-if (SameValues g.types h.types) (bytes_eq m y.parent && bytes_eq x y.name) y.ty t (global_type gs m x)
      (plain_values g.types h.types a.sizes y.ty p.0) (global-alike gs p.1 m x t) e

  local-alike : (ls : List TypedName) → SameLocals g.types h.types ls → (x : Name) (t : Ty) → local_type ls x ≡ Some t → SameValues g.types h.types t
  local-alike [] p x t e = absurd (none-some t e)
  local-alike (l ∷ ls) p x t e = some-if (SameValues g.types h.types) (bytes_eq x l.name) l.ty t (local_type ls x) p.0 (local-alike ls p.1 x t) e

  variable-alike : (gs : List Global) → EachPlain gs → (ls : List TypedName) → SameLocals g.types h.types ls → (x : Var) (t : Ty) →
      type_of (record { globals = gs; locals = ls }) x ≡ Some t → SameValues g.types h.types t
  variable-alike gs p ls q (var.Global m x) t e = global-alike gs p m x t e
  variable-alike gs p ls q (var.Local x) t e = local-alike ls q x t e
  variable-alike gs p ls q (var.Glob b) t e = absurd (none-some t e)

module _ (g h : Setting) (a : SameBasis g h) where
  module _ (ss : Oracle → Option Signature) (gs : List Global) (p : EachPlain gs) where
    mutual
      -- a typed program is typed in the other setting
      pub typed-to : (ls : List TypedName) → SameLocals g.types h.types ls → (c : Program) →
          IsTyped g ss (record { globals = gs; locals = ls }) c → IsTyped h ss (record { globals = gs; locals = ls }) c
      typed-to ls q done k = tt
      typed-to ls q (assign xs e c) k = (typed-term-to g h a _ e k.0, k.1, typed-to ls q c k.2)
      typed-to ls q (sample x d c) k = (over-to g h a _ _ d (variable-alike g h a gs p ls q x) k.0, typed-to ls q c k.1)
      typed-to ls q (branch e b d c) k = ((typed-term-to g h a _ e k.0.0, k.0.1), typed-to ls q b k.1, typed-to ls q d k.2, typed-to ls q c k.3)
      typed-to ls q (loop e v b c) k =
          ((typed-term-to g h a _ e k.0.0, k.0.1), (typed-term-to g h a _ v k.1.0, k.1.1), typed-to ls q b k.2, typed-to ls q c k.3)
      typed-to ls q (call xs r es c) k = (typed-routine-to r k.0, arguments-to g h a _ es (params_of r) k.1, k.2, typed-to ls q c k.3)
      typed-to ls q (ask xs o es c) k = (signature-to g h a _ (ss o) xs es k.0, typed-to ls q c k.1)

      pub typed-routine-to : (r : Routine) → IsTypedRoutine g ss gs r → IsTypedRoutine h ss gs r
      typed-routine-to (routine ps ls c r) k =
          (locals-to g h a (ps ++ ls) k.0, typed-to (ps ++ ls) (locals-alike g h a (ps ++ ls) k.0) c k.1, typed-term-to g h a _ r k.2)
