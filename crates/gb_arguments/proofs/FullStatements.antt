-- Statements that lose no weight, nor what they call, with open parameters: each sampling is from a full distribution.
use Rattle.std.proofs.Common.{◌≡◌, Bool, true, false, if◌then◌else◌, List, [], ◌∷◌, Option, Some, None, refl, ap}
use Rattle.std.proofs.lemmas.Bool.{false≢true}
use Rattle.gb_core.specs.declared.var.Var.{Var}
use Rattle.gb_terms.specs.declared.decl.TypedName.{TypedName}
use Rattle.gb_terms.specs.declared.module.ProcRef.{ProcRef}
use Rattle.gb_terms.specs.declared.term.Term.{Term}
use Rattle.gb_terms.specs.declared.term.Head.TheVariants.{Assign, Sample, Call', If', While'}
use Rattle.gb_terms.specs.declared.term.Instr.{Instr, Row_of-Instr, end_of-Instr, more_of-Instr}
use Rattle.gb_terms.specs.Rows.{terms_in}
use Rattle.gb_goal.specs.Scope.{Declarations}
use Rattle.gb_meaning.specs.Names.{Name}
use Rattle.gb_meaning.specs.Program.{Program, Routine, Oracle}
use Rattle.gb_meaning.specs.Program.Program.{done, assign, sample, branch, loop, call, ask}
use Rattle.gb_meaning.specs.Program.Routine.{routine}
use Rattle.gb_meaning.specs.Setting.{Setting}
use Rattle.gb_meaning.specs.Sound.{IsFull, Full, FullRoutine}
use Rattle.gb_meaning.specs.Values.{Global}
use Rattle.gb_meaning.specs.Declared.{Signature}
use Rattle.gb_meaning.specs.Typing.{FitsSignature, IsTyped, IsTypedRoutine, Names}
use Rattle.gb_meaning.specs.Written.{type_of}
use Rattle.gb_laws.specs.Context as laws
use Rattle.gb_laws.specs.Operators.{IsDistributionType}
use Rattle.gb_laws.proofs.Drawn.{typed_full}
use Rattle.gb_typing.specs.Context.{Context, erased, of_program, procedure}
use Rattle.gb_typing.specs.Modules.{ProcedureType}
use Rattle.gb_typing.specs.Programs.{AreStatements, EachStatement, IsCall, IsExpression}
use Rattle.gb_typing.proofs.Erased.{erased_typed}
use Rattle.gb_full.specs.Loss.{Loss, Losses, body_loss, called, full_operators, known_of, loses_by, may_lose, nowhere, operator_loses, or_after, row_loss, sampled}
use Rattle.gb_full.proofs.Operators.{AreFullOperators, names_full, unrestricted}
use Rattle.gb_arguments.specs.Opened.{Callee, linked, open_to, answered_by, carried, program_over, relink, relink_routine, statements_over}
use mathlib.Core.Former.{Count}

-- what is called loses no weight; oracles of open parameters aren't counted
abbrev pub FullCallee : Setting → Option Callee → Type 0
FullCallee g (Some (linked r)) = FullRoutine g r
FullCallee g _ = Unit {0}

abbrev pub is_nowhere : Loss → Bool
is_nowhere nowhere = true
is_nowhere _ = false

pub both_nowhere : (k l : Loss) → or_after k l ≡ nowhere → (k ≡ nowhere) × (l ≡ nowhere)
both_nowhere nowhere l e = (refl, e)
both_nowhere (sampled x) l e = absurd (false≢true (ap is_nowhere e))
both_nowhere called l e = absurd (false≢true (ap is_nowhere e))

-- A routine that loses no weight loses none with what answers for its oracles.
module _ (g : Setting) (ss : Oracle → Option Signature) (f : Oracle → Option Callee) (full : (o : Oracle) (s : Signature) → ss o ≡ Some s → FullCallee g (f o)) where
  answer_full : (xs : List Var) (o : Oracle) (es : List Term) (c : Program) (y : Option Callee) → FullCallee g y → Full g c → Full g (answered_by y xs o es c)
  answer_full xs o es c None k h = h
  answer_full xs o es c (Some (linked r)) k h = (k, h)
  answer_full xs o es c (Some (open_to p)) k h = h

  ask_full : (n : Names) (xs : List Var) (o : Oracle) (es : List Term) (c : Program) (s : Option Signature) → ss o ≡ s → FitsSignature g n s xs es → Full g c → Full g (answered_by (f o) xs o es c)
  ask_full n xs o es c None e w h = absurd w
  ask_full n xs o es c (Some s) e w h = answer_full xs o es c (f o) (full o s e) h

  mutual
    relinked_full : (n : Names) (c : Program) → IsTyped g ss n c → Full g c → Full g (relink f c)
    relinked_full n done w h = tt
    relinked_full n (assign xs e c) w h = relinked_full n c w.2 h
    relinked_full n (sample x d c) w h = (h.0, relinked_full n c w.1 h.1)
    relinked_full n (branch e a b c) w h = (relinked_full n a w.1 h.0, relinked_full n b w.2 h.1, relinked_full n c w.3 h.2)
    relinked_full n (loop e v a c) w h = (relinked_full n a w.2 h.0, relinked_full n c w.3 h.1)
    relinked_full n (call xs r es c) w h = (relinked_routine_full n.globals r w.0 h.0, relinked_full n c w.3 h.1)
    relinked_full n (ask xs o es c) w h = ask_full n xs o es (relink f c) (ss o) refl w.0 (relinked_full n c w.1 h)

    pub relinked_routine_full : (gs : List Global) (r : Routine) → IsTypedRoutine g ss gs r → FullRoutine g r → FullRoutine g (relink_routine f r)
    relinked_routine_full gs (routine ps ls c v) w h = relinked_full _ c w.1 h

-- Where the operators of the context that may lose no weight give full distributions.
module _ (ds : Declarations) (c : Context) (g : Setting) (fits : laws.IsSettingOf (erased c) g) (operators : AreFullOperators ds g c) where
  abbrev lost : Name → Bool
  lost = operator_loses ds (full_operators ds)

  abbrev full : List Name
  full = full_operators ds

  inside : (ls : List TypedName) → laws.IsSettingOf (erased (of_program c ls)) g
  inside ls = record { inhabited = fits.inhabited; operators = fits.operators; distributions = fits.distributions }

  -- a distribution that may lose no weight is full
  full_term : (ls : List TypedName) (d : Term) → IsExpression c ls d → IsDistributionType (type_of d) → may_lose ds d ≡ false → IsFull g d
  unfolding loses_by
  full_term ls d w k e =
      let t = erased_typed (of_program c ls) d w.typed in
      typed_full (erased (of_program c ls)) g (inside ls) d t (unrestricted lost d e) (names_full lost g (erased (of_program c ls)) operators d t e) k

  not_lost : (x : Var) (d : Term) (b : Bool) → may_lose ds d ≡ b → (if b then sampled x else nowhere) ≡ nowhere → may_lose ds d ≡ false
  not_lost x d true h e = absurd (false≢true (ap is_nowhere e))
  not_lost x d false h e = h

  carried_full : (x : Option Callee) (xs : List Var) (es : List Term) (k : Program) → FullCallee g x → Full g k → Full g (carried xs x es k)
  carried_full None xs es k h u = u
  carried_full (Some (linked r)) xs es k h u = (h, u)
  carried_full (Some (open_to o)) xs es k h u = u

  -- what is known to lose no weight loses none
  module _ (ks : Losses) (f : ProcRef → Option Callee) (good : (p : ProcRef) (t : ProcedureType) → procedure c p ≡ Some t → known_of ks p ≡ nowhere → FullCallee g (f p)) (ls : List TypedName) where
    call_full : (p : ProcRef) (o : Option ProcedureType) → procedure c p ≡ o → (xs : List Var) (es : List Term) → IsCall c ls xs o es → known_of ks p ≡ nowhere → (k : Program) → Full g k → Full g (carried xs (f p) es k)
    call_full p None q xs es w e k u = absurd w
    call_full p (Some t) q xs es w e k u = carried_full (f p) xs es k (good p t q e) u

    row_full : {n : Count} (is : Row_of-Instr n) → AreStatements c ls is → row_loss ds full ks is ≡ nowhere → Full g (program_over f is)
    row_full end_of-Instr w e = tt
    row_full (more_of-Instr (Assign xs t) is) w e = row_full is w.1 e
    row_full (more_of-Instr (Sample x d) is) w e =
        let z = both_nowhere (if may_lose ds d then sampled x else nowhere) (row_loss ds full ks is) e in
        (full_term ls d w.0.0 w.0.1 (not_lost x d (may_lose ds d) refl z.0), row_full is w.1 z.1)
    row_full (more_of-Instr (Call' xs p n es) is) w e =
        let z = both_nowhere (known_of ks p) (row_loss ds full ks is) e in call_full p (procedure c p) refl xs (terms_in es) w.0 z.0 (program_over f is) (row_full is w.1 z.1)
    row_full (more_of-Instr (If' t m a n b) is) w e =
        let z = both_nowhere (or_after (row_loss ds full ks a) (row_loss ds full ks b)) (row_loss ds full ks is) e in
        let l = both_nowhere (row_loss ds full ks a) (row_loss ds full ks b) z.0 in
        (row_full a w.0.1 l.0, row_full b w.0.2 l.1, row_full is w.1 z.1)
    row_full (more_of-Instr (While' t v n a) is) w e =
        let z = both_nowhere (row_loss ds full ks a) (row_loss ds full ks is) e in (row_full a w.0.2 z.0, row_full is w.1 z.1)

    pub each_full : (is : List Instr) → EachStatement c ls is → body_loss ds full ks is ≡ nowhere → Full g (statements_over f is)
    each_full [] w e = tt
    each_full (Assign xs t ∷ is) w e = each_full is w.1 e
    each_full (Sample x d ∷ is) w e =
        let z = both_nowhere (if may_lose ds d then sampled x else nowhere) (body_loss ds full ks is) e in
        (full_term ls d w.0.0 w.0.1 (not_lost x d (may_lose ds d) refl z.0), each_full is w.1 z.1)
    each_full (Call' xs p n es ∷ is) w e =
        let z = both_nowhere (known_of ks p) (body_loss ds full ks is) e in call_full p (procedure c p) refl xs (terms_in es) w.0 z.0 (statements_over f is) (each_full is w.1 z.1)
    each_full (If' t m a n b ∷ is) w e =
        let z = both_nowhere (or_after (row_loss ds full ks a) (row_loss ds full ks b)) (body_loss ds full ks is) e in
        let l = both_nowhere (row_loss ds full ks a) (row_loss ds full ks b) z.0 in
        (row_full a w.0.1 l.0, row_full b w.0.2 l.1, each_full is w.1 z.1)
    each_full (While' t v n a ∷ is) w e =
        let z = both_nowhere (row_loss ds full ks a) (body_loss ds full ks is) e in (row_full a w.0.2 z.0, each_full is w.1 z.1)
