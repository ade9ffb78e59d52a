-- A program that is well typed within a footprint is well typed within all globals of a world that has it.
use Rattle.std.proofs.Common.{◌≡◌, Bool, true, false, ◌&&◌, if◌then◌else◌, List, [], ◌∷◌, ◌++◌, Option, Some, None, option_map, bytes_eq, refl, sym, ap, subst, ◌∙◌}
use Rattle.std.proofs.lemmas.Bool.{and_parts}
use Rattle.std.proofs.lemmas.Option.{none-some}
use Rattle.std.proofs.lemmas.Slice.Eq.{bytes_eq-Decides}
use mathlib.Core.Former.{Count}
use Rattle.gb_core.specs.declared.ty.Ty.{Ty}
use Rattle.gb_core.specs.declared.ty.Ty.TheVariants as ty
use Rattle.gb_core.specs.declared.var.Var.{Var}
use Rattle.gb_core.specs.declared.var.Var.TheVariants as var
use Rattle.gb_terms.specs.declared.decl.TypedName.{TypedName}
use Rattle.gb_terms.specs.declared.op.Read.TheVariants as read
use Rattle.gb_terms.specs.declared.op.Side.TheVariants.{Own}
use Rattle.gb_terms.specs.declared.term.Term.{Term, Term', Row_of-Term, end_of-Term, more_of-Term, end_of-Head, more_of-Head}
use Rattle.gb_terms.specs.declared.term.Head.{Head}
use Rattle.gb_terms.specs.declared.term.Head.TheVariants as head
use Rattle.gb_meaning.specs.Names.{Name}
use Rattle.gb_meaning.specs.Values.{Global, World}
use Rattle.gb_meaning.specs.Program.{Program, Routine, Oracle}
use Rattle.gb_meaning.specs.Program.Program.{done, assign, sample, branch, loop, call, ask}
use Rattle.gb_meaning.specs.Program.Routine.{routine}
use Rattle.gb_meaning.specs.Setting.{Setting}
use Rattle.gb_meaning.specs.Declared.{Signature}
use Rattle.gb_meaning.specs.Typing.{Names, global_type, type_of, with_type, types_of, Takes, IsProgramHead, IsExpression, AreExpressions, IsTypedTerm, IsDistributionOver, AreArguments, FitsSignature, IsTyped, IsTypedRoutine}
use Rattle.gb_meaning.specs.Programs.{AreIn}

global-if : (w : World) (g : Global) (m x : Name) (t : Ty) (b : Bool) (r : Option Ty) → (bytes_eq m g.parent && bytes_eq x g.name) ≡ b →
    global_type w g.parent g.name ≡ Some g.ty → (r ≡ Some t → global_type w m x ≡ Some t) →
    (if b then Some g.ty else r) ≡ Some t → global_type w m x ≡ Some t
global-if w g m x t true r e k h q =
    let both : (bytes_eq m g.parent ≡ true) × (bytes_eq x g.name ≡ true) = and_parts _ _ e in
    ap (λ z. global_type w z x) ((bytes_eq-Decides m g.parent).0 both.0) ∙ ap (global_type w g.parent) ((bytes_eq-Decides x g.name).0 both.1) ∙ k ∙ q
global-if w g m x t false r e k h q = h q

global-more : (w : World) (gs : List Global) → AreIn w gs → (m x : Name) (t : Ty) → global_type gs m x ≡ Some t → global_type w m x ≡ Some t
global-more w [] a m x t e = absurd (none-some t e)
global-more w (g ∷ gs) a m x t e =
    global-if w g m x t (bytes_eq m g.parent && bytes_eq x g.name) (global_type gs m x) refl a.0 (global-more w gs a.1 m x t) e

module _ (w : World) (gs : List Global) (a : AreIn w gs) (ls : List TypedName) where
  abbrev few : Names
  few = record { globals = gs; locals = ls }

  abbrev many : Names
  many = record { globals = w; locals = ls }

  type-more : (x : Var) (t : Ty) → type_of few x ≡ Some t → type_of many x ≡ Some t
  type-more (var.Global m x) t e = global-more w gs a m x t e
  type-more (var.Local x) t e = e
  type-more (var.Glob m) t e = e

  with-more : (o p : Option Ty) (l r : Option (List Ty)) (t : List Ty) → ((u : Ty) → o ≡ Some u → p ≡ Some u) → ((us : List Ty) → l ≡ Some us → r ≡ Some us) →
      with_type o l ≡ Some t → with_type p r ≡ Some t
  with-more None p l r t f h e = absurd (none-some t e)
  with-more (Some u) p None r t f h e = absurd (none-some t e)
  with-more (Some u) p (Some us) r t f h e = (λ i. with_type (f u refl i) (h us refl i)) ∙ e

  types-more : (xs : List Var) (t : List Ty) → types_of few xs ≡ Some t → types_of many xs ≡ Some t
  types-more [] t e = e
  types-more (x ∷ xs) t e = with-more (type_of few x) (type_of many x) (types_of few xs) (types_of many xs) t (type-more x) (types-more xs) e

  tuple-more : (l r : Option (List Ty)) (t : Ty) → ((us : List Ty) → l ≡ Some us → r ≡ Some us) → option_map ty.Tuple l ≡ Some t → option_map ty.Tuple r ≡ Some t
  tuple-more None r t h e = absurd (none-some t e)
  tuple-more (Some us) r t h e = ap (option_map ty.Tuple) (h us refl) ∙ e

  takes-more : (xs : List Var) (t : Ty) → Takes few xs t → Takes many xs t
  takes-more [] t h = tt
  takes-more (x ∷ []) t h = type-more x t h
  takes-more (x ∷ y ∷ xs) t h = tuple-more (types_of few (x ∷ y ∷ xs)) (types_of many (x ∷ y ∷ xs)) t (types-more (x ∷ y ∷ xs)) h

  head-more : (h : Head) (t : Ty) → IsProgramHead few h t → IsProgramHead many h t
  head-more (head.Lit v) t e = tt
  head-more (head.Whole n) t e = tt
  head-more (head.Read (read.Program x Own)) t e = (e.0, type-more x t e.1)
  head-more (head.Bound i) t e = tt
  head-more (head.Builtin op) t e = e
  head-more (head.User n) t e = tt
  head-more (head.All u) t e = e
  head-more (head.Some u) t e = e
  head-more head.Mu t e = tt
  head-more (head.Sum q) t e = tt
  head-more (head.Weights ps) t e = tt
  head-more head.Map t e = tt
  head-more head.Restrict t e = tt
  head-more _ t e = absurd e

  mutual
    expression-more : (e : Term) → IsExpression few e → IsExpression many e
    expression-more (Term' b (more_of-Head h end_of-Head) n args t) k = (head-more h t k.0, expressions-more args k.1)

    expressions-more : {n : Count} (r : Row_of-Term n) → AreExpressions few r → AreExpressions many r
    expressions-more end_of-Term k = tt
    expressions-more (more_of-Term t r) k = (expression-more t k.0, expressions-more r k.1)

  module _ (g : Setting) where
    term-more : (e : Term) → IsTypedTerm g few e → IsTypedTerm g many e
    term-more e k = (expression-more e k.0, k.1, k.2)

    distribution-if : (o p : Option Ty) (d : Term) → ((u : Ty) → o ≡ Some u → p ≡ Some u) → IsDistributionOver g few o d → IsDistributionOver g many p d
    distribution-if None p d f h = absurd h
    distribution-if (Some u) p d f h = subst (λ z. IsDistributionOver g many z d) (sym (f u refl)) (expression-more d h.0, h.1, h.2, h.3)

    arguments-more : (es : List Term) (ps : List TypedName) → AreArguments g few es ps → AreArguments g many es ps
    arguments-more [] [] h = tt
    arguments-more (e ∷ es) (p ∷ ps) h = (term-more e h.0, h.1, arguments-more es ps h.2)
    arguments-more [] (p ∷ ps) h = absurd h
    arguments-more (e ∷ es) [] h = absurd h

    signature-more : (s : Option Signature) (xs : List Var) (es : List Term) → FitsSignature g few s xs es → FitsSignature g many s xs es
    signature-more None xs es h = absurd h
    signature-more (Some s) xs es h = (arguments-more es s.params h.0, takes-more xs s.result h.1)

module _ (g : Setting) (os : Oracle → Option Signature) (w : World) (gs : List Global) (a : AreIn w gs) where
  mutual
    program-more : (ls : List TypedName) (c : Program) → IsTyped g os (record { globals = gs; locals = ls }) c → IsTyped g os (record { globals = w; locals = ls }) c
    program-more ls done h = tt
    program-more ls (assign xs e c) h = (term-more w gs a ls g e h.0, takes-more w gs a ls xs _ h.1, program-more ls c h.2)
    program-more ls (sample x d c) h = (distribution-if w gs a ls g _ _ d (type-more w gs a ls x) h.0, program-more ls c h.1)
    program-more ls (branch e b d c) h = ((term-more w gs a ls g e h.0.0, h.0.1), program-more ls b h.1, program-more ls d h.2, program-more ls c h.3)
    program-more ls (loop e v b c) h = ((term-more w gs a ls g e h.0.0, h.0.1), (term-more w gs a ls g v h.1.0, h.1.1), program-more ls b h.2, program-more ls c h.3)
    program-more ls (call xs r es c) h = (routine-more r h.0, arguments-more w gs a ls g es _ h.1, takes-more w gs a ls xs _ h.2, program-more ls c h.3)
    program-more ls (ask xs o es c) h = (signature-more w gs a ls g (os o) xs es h.0, program-more ls c h.1)

    pub routine-more : (r : Routine) → IsTypedRoutine g os gs r → IsTypedRoutine g os w r
    routine-more (routine ps ls c r) h = (h.0, program-more (ps ++ ls) c h.1, term-more w gs a (ps ++ ls) g r h.2)
