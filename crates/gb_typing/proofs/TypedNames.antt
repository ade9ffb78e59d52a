-- Typed programs name no module.
use Rattle.std.proofs.Common.{◌≡◌, List, [], ◌∷◌, ◌++◌, Option, Some, None, option_map, refl}
use Rattle.std.proofs.lemmas.Option.{none-some}
use mathlib.Core.Former.{Count}
use Rattle.gb_core.specs.declared.ty.Ty.{Ty, Row_of-Ty, end_of-Ty, more_of-Ty}
use Rattle.gb_core.specs.declared.ty.Ty.TheVariants as ty
use Rattle.gb_core.specs.declared.var.Var.{Var}
use Rattle.gb_core.specs.declared.var.Var.TheVariants as var
use Rattle.gb_terms.specs.declared.decl.TypedName.{TypedName}
use Rattle.gb_terms.specs.declared.op.Read.TheVariants as read
use Rattle.gb_terms.specs.declared.op.Side.TheVariants.{Own}
use Rattle.gb_terms.specs.declared.term.Term.{Term, Term', Row_of-Term, end_of-Term, more_of-Term, end_of-Head, more_of-Head}
use Rattle.gb_terms.specs.declared.term.Head.{Head}
use Rattle.gb_terms.specs.declared.term.Head.TheVariants as head
use Rattle.gb_meaning.specs.Names.{Name}
use Rattle.gb_meaning.specs.Values.{Types, Global}
use Rattle.gb_meaning.specs.Program.{Program, Routine, Oracle}
use Rattle.gb_meaning.specs.Program.Program.{done, assign, sample, branch, loop, call, ask}
use Rattle.gb_meaning.specs.Program.Routine.{routine}
use Rattle.gb_meaning.specs.Setting.{Setting}
use Rattle.gb_meaning.specs.Declared.{Signature}
use Rattle.gb_meaning.specs.Globs.{EachGlob, EachGlobIn, IsGlobless}
use Rattle.gb_meaning.specs.Linking.{Oracles, link, link_routine, answered}
use Rattle.gb_meaning.specs.Typing.{Names, type_of, with_type, types_of, Takes, IsProgramHead, IsExpression, AreExpressions, IsDistributionOver, AreArguments, AreLocals, FitsSignature, IsTyped, IsTypedRoutine}
use Rattle.gb_meaning.specs.Written.{params_of}
use Rattle.gb_meaning.proofs.PlainTypes.{plain_glob}
use Rattle.gb_meaning.specs.Naming.{AnyName}
use Rattle.gb_typing.specs.Naming.{EachGlobOf, VariableNames, VariablesName, HeadNames, TermNames, TermsName, EachTermNames, ProgramNames, RoutineNames, NamesIfThere}

module _ (P : Name → Type 0) where
  mutual
    globless-names : (t : Ty) → IsGlobless t → EachGlob P t
    globless-names (ty.Tuple' n ts) h = globless-each ts h
    globless-names (ty.Opt' p x) h = globless-each x h
    globless-names (ty.Map' p k q x) h = (globless-each k h.0, globless-each x h.1)
    globless-names (ty.Distr' p x) h = globless-each x h
    globless-names (ty.Glob a) h = absurd h
    globless-names _ h = tt

    globless-each : {n : Count} (ts : Row_of-Ty n) → EachGlobIn (λ m. ⊥) ts → EachGlobIn P ts
    globless-each end_of-Ty h = tt
    globless-each (more_of-Ty t ts) h = (globless-names t h.0, globless-each ts h.1)

  variable-names : (c : Names) (x : Var) (t : Ty) → type_of c x ≡ Some t → VariableNames P x
  variable-names c (var.Global m x) t e = tt
  variable-names c (var.Local x) t e = tt
  variable-names c (var.Glob b) t e = absurd (none-some t e)

  head-names : (c : Names) (hd : Head) (t : Ty) → IsProgramHead c hd t → HeadNames P AnyName hd t
  head-names c (head.Lit v) t k = tt
  head-names c (head.Whole n) t k = tt
  head-names c (head.Read (read.Program x Own)) t k = (variable-names c x t k.1, globless-names t k.0)
  head-names c (head.Bound i) t k = tt
  head-names c (head.Builtin o) t k = globless-names t k
  head-names c (head.User n) t k = tt
  head-names c (head.All u) t k = globless-names u k
  head-names c (head.Some u) t k = globless-names u k
  head-names c head.Mu t k = tt
  head-names c (head.Sum q) t k = tt
  head-names c (head.Weights ps) t k = tt
  head-names c head.Map t k = tt
  head-names c head.Restrict t k = tt
  head-names c _ t k = absurd k

  mutual
    pub expression-names : (c : Names) (e : Term) → IsExpression c e → TermNames P AnyName e
    expression-names c (Term' b (more_of-Head hd end_of-Head) n ts t) k = (head-names c hd t k.0, expressions-name c ts k.1)

    expressions-name : {n : Count} (c : Names) (ts : Row_of-Term n) → AreExpressions c ts → TermsName P AnyName ts
    expressions-name c end_of-Term k = tt
    expressions-name c (more_of-Term t ts) k = (expression-names c t k.0, expressions-name c ts k.1)

  -- the left side of a sampling, and of an assignment

  sampled-names : (g : Setting) (c : Names) (x : Var) (o : Option Ty) (d : Term) → type_of c x ≡ o → IsDistributionOver g c o d → VariableNames P x
  sampled-names g c x None d e k = absurd k
  sampled-names g c x (Some t) d e k = variable-names c x t e

  pub over-names : (g : Setting) (c : Names) (o : Option Ty) (d : Term) → IsDistributionOver g c o d → TermNames P AnyName d
  over-names g c None d k = absurd k
  over-names g c (Some t) d k = expression-names c d k.0

  both-some : (o : Option Ty) (p : Option (List Ty)) (us : List Ty) → with_type o p ≡ Some us →
      ((t : Ty) × (o ≡ Some t)) × ((ts : List Ty) × (p ≡ Some ts))
  both-some None p us e = absurd (none-some us e)
  both-some (Some t) None us e = absurd (none-some us e)
  both-some (Some t) (Some ts) us e = ((t, refl), (ts, refl))

  each-variable : (c : Names) (xs : List Var) (us : List Ty) → types_of c xs ≡ Some us → VariablesName P xs
  each-variable c [] us e = tt
  each-variable c (x ∷ xs) us e =
      let b = both-some (type_of c x) (types_of c xs) us e in (variable-names c x b.0.0 b.0.1, each-variable c xs b.1.0 b.1.1)

  tupled : (o : Option (List Ty)) (t : Ty) → option_map ty.Tuple o ≡ Some t → (us : List Ty) × (o ≡ Some us)
  tupled None t e = absurd (none-some t e)
  tupled (Some us) t e = (us, refl)

  taken-names : (c : Names) (xs : List Var) (t : Ty) → Takes c xs t → VariablesName P xs
  taken-names c [] t k = tt
  taken-names c (x ∷ []) t k = (variable-names c x t k, tt)
  taken-names c (x ∷ y ∷ xs) t k = let u = tupled (types_of c (x ∷ y ∷ xs)) t k in each-variable c (x ∷ y ∷ xs) u.0 u.1

  arguments-name : (g : Setting) (c : Names) (es : List Term) (ps : List TypedName) → AreArguments g c es ps → EachTermNames P AnyName es
  arguments-name g c [] [] k = tt
  arguments-name g c (e ∷ es) (p ∷ ps) k = (expression-names c e k.0.0, arguments-name g c es ps k.2)
  arguments-name g c [] (p ∷ ps) k = absurd k
  arguments-name g c (e ∷ es) [] k = absurd k

  locals-name : (t : Types) (ls : List TypedName) → AreLocals t ls → EachGlobOf P ls
  locals-name t [] k = tt
  locals-name t (l ∷ ls) k = (plain_glob P l.ty k.0.0, locals-name t ls k.1)

  locals-split : (ps ls : List TypedName) → EachGlobOf P (ps ++ ls) → EachGlobOf P ps × EachGlobOf P ls
  locals-split [] ls k = (tt, k)
  locals-split (p ∷ ps) ls k = let r = locals-split ps ls k.1 in ((k.0, r.0), r.1)

  module _ (g : Setting) (ss : Oracle → Option Signature) (os : Oracles) (f : (o : Oracle) (s : Signature) → ss o ≡ Some s → NamesIfThere P AnyName (os o)) where
    answered-names : (c : Names) (s : Option Signature) (r : Option Routine) (xs : List Var) (o : Oracle) (es : List Term) (d : Program) →
        FitsSignature g c s xs es → ((t : Signature) → s ≡ Some t → NamesIfThere P AnyName r) → ProgramNames P AnyName d →
        ProgramNames P AnyName (answered r xs o es d)
    answered-names c s None xs o es d k e z = z
    answered-names c None (Some r) xs o es d k e z = absurd k
    answered-names c (Some t) (Some r) xs o es d k e z = (taken-names c xs t.result k.1, e t refl, arguments-name g c es t.params k.0, z)

    mutual
      pub linked-names : (n : Names) (c : Program) → IsTyped g ss n c → ProgramNames P AnyName (link os c)
      linked-names n done k = tt
      linked-names n (assign xs e c) k = (taken-names n xs _ k.1, expression-names n e k.0.0, linked-names n c k.2)
      linked-names n (sample x d c) k = (sampled-names g n x _ d refl k.0, over-names g n _ d k.0, linked-names n c k.1)
      linked-names n (branch e b d c) k = (expression-names n e k.0.0.0, linked-names n b k.1, linked-names n d k.2, linked-names n c k.3)
      linked-names n (loop e v b c) k =
          (expression-names n e k.0.0.0, expression-names n v k.1.0.0, linked-names n b k.2, linked-names n c k.3)
      linked-names n (call xs r es c) k =
          (taken-names n xs _ k.2, linked-routine-names n.globals r k.0, arguments-name g n es (params_of r) k.1, linked-names n c k.3)
      linked-names n (ask xs o es c) k = answered-names n (ss o) (os o) xs o es (link os c) k.0 (f o) (linked-names n c k.1)

      -- a typed procedure, linked with procedures that name P, names P
      pub linked-routine-names : (gs : List Global) (r : Routine) → IsTypedRoutine g ss gs r → RoutineNames P AnyName (link_routine os r)
      linked-routine-names gs (routine ps ls c r) k =
          let q = locals-split ps ls (locals-name g.types (ps ++ ls) k.0) in
          (q.0, q.1, linked-names _ c k.1, expression-names _ r k.2.0)
