-- A well-typed open program, linked with procedures of its oracles' types, is a well-typed linked program.
use Rattle.std.proofs.Common.{◌≡◌, suc, List, [], ◌∷◌, ◌++◌, map, length, Option, Some, None, refl, sym, ap, subst, ◌∙◌, arith}
use Rattle.gb_core.specs.declared.ty.Ty.{Ty}
use Rattle.gb_core.specs.declared.var.Var.{Var}
use Rattle.gb_terms.specs.declared.decl.TypedName.{TypedName}
use Rattle.gb_terms.specs.declared.term.Term.{Term}
use Rattle.gb_meaning.specs.Values.{Global, World}
use Rattle.gb_meaning.specs.Program.{Program, Routine, Oracle, IsLinked, IsLinkedRoutine}
use Rattle.gb_meaning.specs.Program.Program.{done, assign, sample, branch, loop, call, ask}
use Rattle.gb_meaning.specs.Program.Routine.{routine}
use Rattle.gb_meaning.specs.Setting.{Setting}
use Rattle.gb_meaning.specs.Declared.{Signature}
use Rattle.gb_meaning.specs.Linking.{Oracles, link, link_routine, answered}
use Rattle.gb_meaning.specs.Typing.{Names, Takes, AreArguments, FitsSignature, IsTyped, IsTypedRoutine}
use Rattle.gb_meaning.specs.Written.{params_of, result_type}
use Rattle.gb_meaning.specs.Programs.{AreIn, HasTypes}
use Rattle.gb_meaning.specs.Bounds.{IsAnswer}
use Rattle.gb_meaning.proofs.MoreGlobals.{routine-more}

head_or : Ty → List Ty → Ty
head_or d [] = d
head_or d (t ∷ ts) = t

rest_of : List Ty → List Ty
rest_of [] = []
rest_of (t ∷ ts) = ts

first_same : (t u : Ty) (ts us : List Ty) → t ∷ ts ≡ u ∷ us → t ≡ u
unfolding head_or
first_same t u ts us e = ap (head_or t) e

rest_same : (t u : Ty) (ts us : List Ty) → t ∷ ts ≡ u ∷ us → ts ≡ us
unfolding rest_of
rest_same t u ts us e = ap rest_of e

none-more : (t : Ty) (ts : List Ty) → [] ≡ t ∷ ts → ⊥
none-more t ts e = absurd (lengths (ap length e))
  where
    lengths : 0 ≡ suc (length ts) → ⊥
    lengths q = omega arith

-- arguments fit parameters of the same types
arguments-same : (g : Setting) (n : Names) (es : List Term) (ps qs : List TypedName) → map (λ (x : TypedName). x.ty) qs ≡ map (λ (x : TypedName). x.ty) ps →
    AreArguments g n es ps → AreArguments g n es qs
arguments-same g n [] [] [] e h = tt
arguments-same g n [] [] (q ∷ qs) e h = absurd (none-more _ _ (sym e))
arguments-same g n (x ∷ xs) (p ∷ ps) [] e h = absurd (none-more _ _ e)
arguments-same g n (x ∷ xs) (p ∷ ps) (q ∷ qs) e h =
    (h.0, h.1 ∙ sym (first_same q.ty p.ty _ _ e), arguments-same g n xs ps qs (rest_same q.ty p.ty _ _ e) h.2)
arguments-same g n [] (p ∷ ps) qs e h = absurd h
arguments-same g n (x ∷ xs) [] qs e h = absurd h

module _ (g : Setting) (w : World) (n : Names) (here : n.globals ≡ w) where
  answered-typed : (s : Option Signature) (r : Option Routine) (xs : List Var) (o : Oracle) (es : List Term) (c : Program) →
      IsAnswer g w s r → FitsSignature g n s xs es → IsTyped g (λ o. None) n c → IsTyped g (λ o. None) n (answered r xs o es c)
  answered-typed None r xs o es c a f h = absurd f
  answered-typed (Some s) None xs o es c a f h = absurd a
  answered-typed (Some s) (Some r) xs o es c a f h = (
    subst (λ z. IsTypedRoutine g (λ o. None) z r) (sym here) a.2,
    arguments-same g n es s.params (params_of r) a.0.0 f.0,
    subst (Takes n xs) (sym a.0.1) f.1,
    h,
  )

  answered-linked : (s : Option Signature) (r : Option Routine) (xs : List Var) (o : Oracle) (es : List Term) (c : Program) →
      IsAnswer g w s r → FitsSignature g n s xs es → IsLinked c → IsLinked (answered r xs o es c)
  answered-linked None r xs o es c a f h = absurd f
  answered-linked (Some s) None xs o es c a f h = absurd a
  answered-linked (Some s) (Some r) xs o es c a f h = (a.1, h)

params-link : (os : Oracles) (r : Routine) → params_of (link_routine os r) ≡ params_of r
params-link os (routine ps ls c r) = refl

result-link : (os : Oracles) (r : Routine) → result_type (link_routine os r) ≡ result_type r
result-link os (routine ps ls c r) = refl

module _ (g : Setting) (ss : Oracle → Option Signature) (w : World) (os : Oracles) (all : (o : Oracle) → IsAnswer g w (ss o) (os o)) where
  mutual
    link-typed : (ls : List TypedName) (c : Program) → IsTyped g ss (record { globals = w; locals = ls }) c →
        IsTyped g (λ o. None) (record { globals = w; locals = ls }) (link os c)
    link-typed ls done h = tt
    link-typed ls (assign xs e c) h = (h.0, h.1, link-typed ls c h.2)
    link-typed ls (sample x d c) h = (h.0, link-typed ls c h.1)
    link-typed ls (branch e a b c) h = (h.0, link-typed ls a h.1, link-typed ls b h.2, link-typed ls c h.3)
    link-typed ls (loop e v a c) h = (h.0, h.1, link-typed ls a h.2, link-typed ls c h.3)
    link-typed ls (call xs r es c) h = (
      link-typed_routine r h.0,
      subst (AreArguments g (record { globals = w; locals = ls }) es) (sym (params-link os r)) h.1,
      subst (Takes (record { globals = w; locals = ls }) xs) (sym (result-link os r)) h.2,
      link-typed ls c h.3,
    )
    link-typed ls (ask xs o es c) h =
        answered-typed g w (record { globals = w; locals = ls }) refl (ss o) (os o) xs o es (link os c) (all o) h.0 (link-typed ls c h.1)

    pub link-typed_routine : (r : Routine) → IsTypedRoutine g ss w r → IsTypedRoutine g (λ o. None) w (link_routine os r)
    link-typed_routine (routine ps ls c r) h = (h.0, link-typed (ps ++ ls) c h.1, h.2)

  mutual
    typed-linked : (ls : List TypedName) (c : Program) → IsTyped g ss (record { globals = w; locals = ls }) c → IsLinked (link os c)
    typed-linked ls done h = tt
    typed-linked ls (assign xs e c) h = typed-linked ls c h.2
    typed-linked ls (sample x d c) h = typed-linked ls c h.1
    typed-linked ls (branch e a b c) h = (typed-linked ls a h.1, typed-linked ls b h.2, typed-linked ls c h.3)
    typed-linked ls (loop e v a c) h = (typed-linked ls a h.2, typed-linked ls c h.3)
    typed-linked ls (call xs r es c) h = (typed-linked_routine r h.0, typed-linked ls c h.3)
    typed-linked ls (ask xs o es c) h =
        answered-linked g w (record { globals = w; locals = ls }) refl (ss o) (os o) xs o es (link os c) (all o) h.0 (typed-linked ls c h.1)

    pub typed-linked_routine : (r : Routine) → IsTypedRoutine g ss w r → IsLinkedRoutine (link_routine os r)
    typed-linked_routine (routine ps ls c r) h = typed-linked (ps ++ ls) c h.1

  pub types-link : (s : Signature) (r : Routine) → HasTypes s r → HasTypes s (link_routine os r)
  types-link s r h = (ap (map (λ (x : TypedName). x.ty)) (params-link os r) ∙ h.0, result-link os r ∙ h.1)

pub is_answer : (g : Setting) (ss : Oracle → Option Signature) (w : World) (os : Oracles) → ((o : Oracle) → IsAnswer g w (ss o) (os o)) →
    (s : Signature) (gs : List Global) → AreIn w gs → (r : Routine) → HasTypes s r → IsTypedRoutine g ss gs r →
    IsAnswer g w (Some s) (Some (link_routine os r))
is_answer g ss w os all s gs a r t h =
    let k : IsTypedRoutine g ss w r = routine-more g ss w gs a r h in
    (types-link g ss w os all s r t, typed-linked_routine g ss w os all r k, link-typed_routine g ss w os all r k)
