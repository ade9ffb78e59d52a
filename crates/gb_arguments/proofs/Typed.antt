-- Reading with open parameters gives typed procedures, where expressions are typed: those of a procedure whose footprint is within some globals.
use Rattle.std.proofs.Common.{◌≡◌, ℕ, Bool, true, false, List, [], ◌∷◌, ◌++◌, Option, Some, None, if◌then◌else◌, refl, ap, sym, ◌∙◌, subst}
use Rattle.std.specs.Ordering.{nat_cmp, ordering_then}
use Rattle.std.specs.declared.cmp.Ordering.{Ordering}
use Rattle.std.specs.declared.cmp.Ordering.TheVariants.{Less, Equal, Greater}
use Rattle.std.proofs.lemmas.Bool.{false≢true, and_parts}
use mathlib.Core.Former.{Count}
use Rattle.gb_core.specs.SameTypes.{ty_eq}
use Rattle.gb_core.proofs.SameTypes.{ty_eq-Decides}
use Rattle.gb_core.specs.declared.ty.Ty.{Ty}
use Rattle.gb_core.specs.declared.var.Var.{Var}
use Rattle.gb_core.specs.declared.var.Var.TheVariants as var
use Rattle.gb_terms.specs.declared.decl.Proc.{Proc}
use Rattle.gb_terms.specs.declared.decl.TypedName.{TypedName}
use Rattle.gb_terms.specs.declared.module.ProcRef.{ProcRef}
use Rattle.gb_terms.specs.declared.term.Instr.{Instr, Row_of-Instr, end_of-Instr, more_of-Instr}
use Rattle.gb_terms.specs.declared.term.Head.TheVariants.{Assign, Sample, Call', If', While'}
use Rattle.gb_terms.specs.declared.term.Term.{Term, Row_of-Term, end_of-Term, more_of-Term}
use Rattle.gb_terms.specs.Rows.{terms_in}
use Rattle.gb_meaning.specs.Names.{Name, path_order}
use Rattle.gb_meaning.proofs.Maps.{path_order-same}
use Rattle.gb_meaning.specs.Program.{Program, Routine, Oracle}
use Rattle.gb_meaning.specs.Program.Program.{done, assign, sample, branch, loop, call, ask}
use Rattle.gb_meaning.specs.Program.Routine.{routine}
use Rattle.gb_meaning.specs.Setting.{Setting}
use Rattle.gb_meaning.specs.Values.{Global, World}
use Rattle.gb_meaning.specs.Written.{params_of, type_of}
use Rattle.gb_laws.specs.Finite.{IsFinite}
use Rattle.gb_laws.specs.Programs.{Take}
use Rattle.gb_meaning.specs.Adversary.{callable, may_call, oracle_signature}
use Rattle.gb_meaning.specs.Declared.{Declarations, ModuleType, Signature}
use Rattle.gb_meaning.specs.Naming.{AnyName}
use Rattle.gb_meaning.specs.Footprints.{body_touched, footprint_read, globals_among, in_order, inserted, of_callee, placed, touched, touched_in, var_order, variables, variables_in}
use Rattle.gb_meaning.specs.Typing.{FitsSignature, IsTyped, Names, IsTypedRoutine, IsTypedTerm, Takes}
use Rattle.gb_meaning.specs.Typing as holds
use Rattle.gb_typing.specs.Context.{Context, erased, procedure}
use Rattle.gb_typing.specs.Modules.{ProcedureType, same_params}
use Rattle.gb_typing.specs.Naming.{NoName, TermsName}
use Rattle.gb_typing.specs.Programs.{AreArguments, AreStatements, EachStatement, IsCall, IsStatement, locals_of}
use Rattle.gb_typing.specs.Speaking.{BodySpeaks, ProcedureSpeaks, StatementSpeaks, StatementsSpeak}
use Rattle.gb_typing.proofs.Variables.{variable_finite}
use Rattle.gb_arguments.specs.Opened.{Callee, linked, open_to, answered_by, carried, open_procedure, program_over, relink, relink_routine, statement_over, statements_over}
use Rattle.gb_arguments.specs.Programs.{Asks, RoutineAsks}
use Rattle.gb_arguments.specs.Reading.{CallsAreAlike, KeepAlike}
use Rattle.gb_arguments.specs.Related.{IsNarrow}
use Rattle.gb_arguments.specs.Typed.{AnswersTyped, AreExpressed, AreWithin, IsTypedBy, IsWithin, names, types_in}

same_types : (xs ys : List TypedName) → same_params xs ys ≡ true → types_in xs ≡ types_in ys
same_types [] [] e = refl
same_types [] (y ∷ ys) e = absurd (false≢true e)
same_types (x ∷ xs) [] e = absurd (false≢true e)
same_types (x ∷ xs) (y ∷ ys) e =
    let k = and_parts (ty_eq x.ty y.ty) (same_params xs ys) e in
    λ i. (ty_eq-Decides x.ty y.ty).0 k.0 i ∷ same_types xs ys k.1 i

module _ (g : Setting) (ss : Oracle → Option Signature) (w : World) (pf : Name → List Global) (gs : List Global) where
  abbrev R : ProcedureType → Option Callee → Option (List Var) → Type 0
  R = IsTypedBy g ss w pf gs

  abbrev W : List Var → Type 0
  W = AreWithin w pf gs

  pub typed_narrow : IsNarrow R
  typed_narrow s t e x y = step x y
    where
      k : (same_params s.params t.params ≡ true) × (ty_eq s.result t.result ≡ true)
      k = and_parts (same_params s.params t.params) (ty_eq s.result t.result) e

      p : types_in s.params ≡ types_in t.params
      p = same_types s.params t.params k.0

      r : s.result ≡ t.result
      r = (ty_eq-Decides s.result t.result).0 k.1

      step : (x : Option Callee) (y : Option (List Var)) → R s x y → R t x y
      step (Some (linked q)) (Some xs) f = λ z. let h = f z in (h.0 ∙ p, h.1 ∙ r, h.2)
      step (Some (linked q)) None f = absurd f
      step (Some (open_to o)) y f = (f.0, f.1, f.2 ∙ p, f.3 ∙ r)
      step None y f = absurd f

  -- Variables within the globals.

  pub front_within : (xs ys : List Var) → W (xs ++ ys) → W xs
  front_within [] ys h = tt
  front_within (x ∷ xs) ys h = (h.0, front_within xs ys h.1)

  pub rest_within : (xs ys : List Var) → W (xs ++ ys) → W ys
  rest_within [] ys h = h
  rest_within (x ∷ xs) ys h = rest_within xs ys h.1

  either_equal : (k r : Ordering) → ordering_then k r ≡ Equal → (k ≡ Equal) × (r ≡ Equal)
  either_equal Less r e = cc
  either_equal Equal r e = (refl, e)
  either_equal Greater r e = cc

  same_two : (m x n y : List ℕ) → m ∷ x ∷ [] ≡ n ∷ y ∷ [] → (m ≡ n) × (x ≡ y)
  same_two m x n y e = (cc, cc)

  same_one : (m n : List ℕ) → m ∷ [] ≡ n ∷ [] → m ≡ n
  same_one m n e = cc

  -- variables that no order tells apart are one
  order_same : (x y : Var) → var_order x y ≡ Equal → x ≡ y
  order_same (var.Global m x) (var.Global n y) e =
      let p = same_two m x n y (path_order-same (m ∷ x ∷ []) (n ∷ y ∷ []) (either_equal (nat_cmp 0 0) (path_order (m ∷ x ∷ []) (n ∷ y ∷ [])) e).1) in λ i. var.Global (p.0 i) (p.1 i)
  order_same (var.Local x) (var.Local y) e = ap var.Local (same_one x y (path_order-same (x ∷ []) (y ∷ []) (either_equal (nat_cmp 1 1) (path_order (x ∷ []) (y ∷ [])) e).1))
  order_same (var.Glob m) (var.Glob n) e = ap var.Glob (same_one m n (path_order-same (m ∷ []) (n ∷ []) (either_equal (nat_cmp 2 2) (path_order (m ∷ []) (n ∷ [])) e).1))
  order_same _ _ e = cc

  inserted_within : (x : Var) (ys : List Var) → W (inserted var_order x ys) → IsWithin w pf gs x × W ys
  inserted_within x [] h = (h.0, tt)
  inserted_within x (y ∷ ys) h = step (var_order x y) refl h (inserted_within x ys)
    where
      step : (o : Ordering) → var_order x y ≡ o → W (placed o x y ys (inserted var_order x ys)) → (W (inserted var_order x ys) → IsWithin w pf gs x × W ys) → IsWithin w pf gs x × W (y ∷ ys)
      step Less e h rest = (h.0, h.1)
      step Equal e h rest = (subst (IsWithin w pf gs) (sym (order_same x y e)) h.0, h)
      step Greater e h rest = let r = rest h.1 in (r.0, (h.0, r.1))

  pub ordered_within : (xs : List Var) → W (in_order var_order xs) → W xs
  ordered_within [] h = tt
  ordered_within (x ∷ xs) h = let r = inserted_within x (in_order var_order xs) h in (r.0, ordered_within xs r.1)

  globals_within : (xs : List Var) → W (globals_among xs) → W xs
  globals_within [] h = tt
  globals_within (var.Local x ∷ xs) h = (tt, globals_within xs h)
  globals_within (var.Global m x ∷ xs) h = (h.0, globals_within xs h.1)
  globals_within (var.Glob a ∷ xs) h = (h.0, globals_within xs h.1)

  -- Lists of types.

  abbrev first_or : Ty → List Ty → Ty
  first_or t [] = t
  first_or t (u ∷ us) = u

  abbrev rest_of : List Ty → List Ty
  rest_of [] = []
  rest_of (u ∷ us) = us

  abbrev has_one : List Ty → Bool
  has_one [] = false
  has_one (u ∷ us) = true

  module _ (K : Context → Type 0) (x : AreExpressed g ss w pf gs K) (c : Context) (kind : K c) (ls : List TypedName)
      (f : ProcRef → Option Callee) (q : ProcRef → Option (List Var)) (calls : CallsAreAlike R c f q) where
    arguments_typed : {n : Count} (es : Row_of-Term n) (ps : List TypedName) → AreArguments c ls (terms_in es) ps → TermsName NoName AnyName es → W (variables_in es) → (qs : List TypedName) →
        types_in qs ≡ types_in ps → holds.AreArguments g (names gs ls) (terms_in es) qs
    arguments_typed end_of-Term [] k s h [] e = tt
    arguments_typed end_of-Term [] k s h (r ∷ qs) e = absurd (false≢true (sym (ap has_one e)))
    arguments_typed end_of-Term (p ∷ ps) k s h qs e = absurd k
    arguments_typed (more_of-Term t es) [] k s h qs e = absurd k
    arguments_typed (more_of-Term t es) (p ∷ ps) k s h [] e = absurd (false≢true (ap has_one e))
    arguments_typed (more_of-Term t es) (p ∷ ps) k s h (r ∷ qs) e = (
      x.value c kind ls t k.0.0 s.0 (front_within (variables t) (variables_in es) h),
      k.0.1 ∙ sym (ap (first_or p.ty) e),
      arguments_typed es ps k.1 s.1 (rest_within (variables t) (variables_in es) h) qs (ap rest_of e),
    )

    called_typed : (u : ProcedureType) (m : Option Callee) (y : Option (List Var)) → R u m y → W (of_callee y) → (xs : List Var) → W xs → {n : Count} (es : Row_of-Term n) → TermsName NoName AnyName es →
        W (variables_in es) → AreArguments c ls (terms_in es) u.params → Take (erased c) ls xs u.result → (d : Program) → IsTyped g ss (names gs ls) d →
        IsTyped g ss (names gs ls) (carried xs m (terms_in es) d)
    called_typed u (Some (linked r)) (Some ys) rel h xs hx es s he args take d k =
        let z = rel h in
        (z.2, arguments_typed es u.params args s he (params_of r) z.0, subst (Takes (names gs ls) xs) (sym z.1) (x.takes c kind ls xs u.result take hx), k)
    called_typed u (Some (linked r)) None rel h xs hx es s he args take d k = absurd rel
    called_typed u (Some (open_to o)) y rel h xs hx es s he args take d k = (
      subst (λ z. FitsSignature g (names gs ls) z xs (terms_in es)) (sym rel.1)
          (arguments_typed es u.params args s he (let t = rel.0 in t.params) rel.2, subst (Takes (names gs ls) xs) (sym rel.3) (x.takes c kind ls xs u.result take hx)),
      k,
    )
    called_typed u None y rel h xs hx es s he args take d k = absurd rel

    call_typed : (p : ProcRef) (o : Option ProcedureType) → procedure c p ≡ o → (xs : List Var) → {n : Count} (es : Row_of-Term n) → IsCall c ls xs o (terms_in es) → TermsName NoName AnyName es →
        W (xs ++ variables_in es ++ of_callee (q p)) → (d : Program) → IsTyped g ss (names gs ls) d → IsTyped g ss (names gs ls) (carried xs (f p) (terms_in es) d)
    call_typed p None e xs es k s h d z = absurd k
    call_typed p (Some u) e xs es k s h d z =
        let r = front_within (xs ++ variables_in es) (of_callee (q p)) h in
        called_typed u (f p) (q p) (calls p u e) (rest_within (xs ++ variables_in es) (of_callee (q p)) h) xs (front_within xs (variables_in es) r)
        es s (rest_within xs (variables_in es) r) k.0 k.1 d z

    mutual
      row_typed : {n : Count} (is : Row_of-Instr n) → AreStatements c ls is → StatementsSpeak NoName is → W (touched_in q is) → IsTyped g ss (names gs ls) (program_over f is)
      row_typed end_of-Instr k s h = tt
      row_typed (more_of-Instr (Assign xs e) is) k s h =
          let a = front_within (xs ++ variables e) (touched_in q is) h in (
            x.value c kind ls e k.0.0 s.0 (rest_within xs (variables e) a),
            x.takes c kind ls xs (type_of e) k.0.1 (front_within xs (variables e) a),
            row_typed is k.1 s.1 (rest_within (xs ++ variables e) (touched_in q is) h),
          )
      row_typed (more_of-Instr (Sample y d) is) k s h =
          let a = front_within (y ∷ variables d) (touched_in q is) h in
          (x.draw c kind ls y d k.0 s.0 a.0 a.1, row_typed is k.1 s.1 (rest_within (y ∷ variables d) (touched_in q is) h))
      row_typed (more_of-Instr (Call' xs p n es) is) k s h =
          let t = xs ++ variables_in es ++ of_callee (q p) in
          call_typed p (procedure c p) refl xs es k.0 s.0 (front_within t (touched_in q is) h) (program_over f is) (row_typed is k.1 s.1 (rest_within t (touched_in q is) h))
      row_typed (more_of-Instr (If' e m a n b) is) k s h =
          let t = variables e ++ touched_in q a ++ touched_in q b in
          let z = front_within t (touched_in q is) h in
          let r = front_within (variables e ++ touched_in q a) (touched_in q b) z in (
            x.test c kind ls e k.0.0.0 k.0.0.1 s.0.0 (front_within (variables e) (touched_in q a) r),
            row_typed a k.0.1 s.0.1 (rest_within (variables e) (touched_in q a) r),
            row_typed b k.0.2 s.0.2 (rest_within (variables e ++ touched_in q a) (touched_in q b) z),
            row_typed is k.1 s.1 (rest_within t (touched_in q is) h),
          )
      row_typed (more_of-Instr (While' e v n a) is) k s h =
          let t = variables e ++ variables v ++ touched_in q a in
          let z = front_within t (touched_in q is) h in
          let r = front_within (variables e ++ variables v) (touched_in q a) z in (
            x.test c kind ls e k.0.0.0 k.0.0.1 s.0.0 (front_within (variables e) (variables v) r),
            x.variant c kind ls v k.0.1.0 k.0.1.1 s.0.1 (rest_within (variables e) (variables v) r),
            row_typed a k.0.2 s.0.2 (rest_within (variables e ++ variables v) (touched_in q a) z),
            row_typed is k.1 s.1 (rest_within t (touched_in q is) h),
          )

    statement_typed : (i : Instr) (d : Program) → IsStatement c ls i → StatementSpeaks NoName i → W (touched q i) → IsTyped g ss (names gs ls) d → IsTyped g ss (names gs ls) (statement_over f i d)
    statement_typed (Assign xs e) d k s h z =
        (x.value c kind ls e k.0 s (rest_within xs (variables e) h), x.takes c kind ls xs (type_of e) k.1 (front_within xs (variables e) h), z)
    statement_typed (Sample y u) d k s h z = (x.draw c kind ls y u k s h.0 h.1, z)
    statement_typed (Call' xs p n es) d k s h z = call_typed p (procedure c p) refl xs es k s h d z
    statement_typed (If' e m a n b) d k s h z =
        let r = front_within (variables e ++ touched_in q a) (touched_in q b) h in (
          x.test c kind ls e k.0.0 k.0.1 s.0 (front_within (variables e) (touched_in q a) r),
          row_typed a k.1 s.1 (rest_within (variables e) (touched_in q a) r),
          row_typed b k.2 s.2 (rest_within (variables e ++ touched_in q a) (touched_in q b) h),
          z,
        )
    statement_typed (While' e v n a) d k s h z =
        let r = front_within (variables e ++ variables v) (touched_in q a) h in (
          x.test c kind ls e k.0.0 k.0.1 s.0 (front_within (variables e) (variables v) r),
          x.variant c kind ls v k.1.0 k.1.1 s.1 (rest_within (variables e) (variables v) r),
          row_typed a k.2 s.2 (rest_within (variables e ++ variables v) (touched_in q a) h),
          z,
        )

    pub body_typed : (is : List Instr) → EachStatement c ls is → BodySpeaks NoName is → W (body_touched q is) → IsTyped g ss (names gs ls) (statements_over f is)
    body_typed [] k s h = tt
    body_typed (i ∷ is) k s h =
        statement_typed i (statements_over f is) k.0 s.0 (front_within (touched q i) (body_touched q is) h) (body_typed is k.1 s.1 (rest_within (touched q i) (body_touched q is) h))

  -- a procedure that takes no module's globals together, in a context of a kind
  abbrev pub IsPlainOf : (Context → Type 0) → Context → Proc → Type 0
  IsPlainOf K c p = K c × ProcedureSpeaks NoName p

  -- Reading with open parameters gives typed procedures, where footprints are within the globals.
  pub reading_typed : (K : Context → Type 0) → AreExpressed g ss w pf gs K → KeepAlike R (IsPlainOf K) open_procedure footprint_read
  reading_typed K x c p kind k f q calls = λ h.
      let b = k.body in
      let n = globals_within (body_touched q p.body.list ++ variables p.value) (ordered_within (globals_among (body_touched q p.body.list ++ variables p.value)) h) in (
        refl,
        k.returned,
        (
          x.locals (locals_of p) b.locals,
          body_typed K x c kind.0 (locals_of p) f q calls p.body.list b.statements kind.1.0 (front_within (body_touched q p.body.list) (variables p.value) n),
          x.value c kind.0 (locals_of p) p.value (record { expression = k.value; finite = subst IsFinite (sym k.returned) (variable_finite p.result k.result) }) kind.1.1
              (rest_within (body_touched q p.body.list) (variables p.value) n),
        ),
      )

-- An open program whose oracles are answered by typed procedures, which may ask in their turn, is typed.
module _ (g : Setting) (few ss : Oracle → Option Signature) (gs : List Global) (f : Oracle → Option Callee) where
  abbrev first_type : Ty → List Ty → Ty
  first_type t [] = t
  first_type t (u ∷ us) = u

  abbrev later_types : List Ty → List Ty
  later_types [] = []
  later_types (u ∷ us) = us

  abbrev is_one : List Ty → Bool
  is_one [] = false
  is_one (u ∷ us) = true

  arguments_as : (n : Names) (es : List Term) (ps qs : List TypedName) → types_in qs ≡ types_in ps → holds.AreArguments g n es ps → holds.AreArguments g n es qs
  arguments_as n [] [] [] e k = tt
  arguments_as n [] [] (q ∷ qs) e k = absurd (false≢true (sym (ap is_one e)))
  arguments_as n [] (p ∷ ps) qs e k = absurd k
  arguments_as n (t ∷ es) [] qs e k = absurd k
  arguments_as n (t ∷ es) (p ∷ ps) [] e k = absurd (false≢true (ap is_one e))
  arguments_as n (t ∷ es) (p ∷ ps) (q ∷ qs) e k = (k.0, k.1 ∙ sym (ap (first_type p.ty) e), arguments_as n es ps qs (ap later_types e) k.2)

  module _ (all : (o : Oracle) (u : Signature) → few o ≡ Some u → AnswersTyped g ss gs u (f o)) where
    answer_typed : (n : Names) → n.globals ≡ gs → (u : Signature) (m : Option Callee) → AnswersTyped g ss gs u m → (xs : List Var) (o : Oracle) (es : List Term) (d : Program) →
        FitsSignature g n (Some u) xs es → IsTyped g ss n d → IsTyped g ss n (answered_by m xs o es d)
    answer_typed n e u (Some (linked r)) a xs o es d k z =
        (subst (λ y. IsTypedRoutine g ss y r) (sym e) a.2, arguments_as n es u.params (params_of r) a.0 k.0, subst (Takes n xs) (sym a.1) k.1, z)
    answer_typed n e u (Some (open_to p)) a xs o es d k z =
        (subst (λ y. FitsSignature g n y xs es) (sym a.1) (arguments_as n es u.params (let s = a.0 in s.params) a.2 k.0, subst (Takes n xs) (sym a.3) k.1), z)
    answer_typed n e u None a xs o es d k z = absurd a

    ask_typed : (n : Names) → n.globals ≡ gs → (s : Option Signature) (xs : List Var) (o : Oracle) (es : List Term) (d : Program) → few o ≡ s → FitsSignature g n s xs es → IsTyped g ss n d →
        IsTyped g ss n (answered_by (f o) xs o es d)
    ask_typed n e None xs o es d h k z = absurd k
    ask_typed n e (Some u) xs o es d h k z = answer_typed n e u (f o) (all o u h) xs o es d k z

    mutual
      relinked_typed : (ls : List TypedName) (c : Program) → IsTyped g few (names gs ls) c → IsTyped g ss (names gs ls) (relink f c)
      relinked_typed ls done k = tt
      relinked_typed ls (assign xs e c) k = (k.0, k.1, relinked_typed ls c k.2)
      relinked_typed ls (sample x d c) k = (k.0, relinked_typed ls c k.1)
      relinked_typed ls (branch e a b c) k = (k.0, relinked_typed ls a k.1, relinked_typed ls b k.2, relinked_typed ls c k.3)
      relinked_typed ls (loop e v a c) k = (k.0, k.1, relinked_typed ls a k.2, relinked_typed ls c k.3)
      relinked_typed ls (call xs (routine ps qs b r) es c) k = (relinked_routine_typed (routine ps qs b r) k.0, k.1, k.2, relinked_typed ls c k.3)
      relinked_typed ls (ask xs o es c) k = ask_typed (names gs ls) refl (few o) xs o es (relink f c) refl k.0 (relinked_typed ls c k.1)

      pub relinked_routine_typed : (r : Routine) → IsTypedRoutine g few gs r → IsTypedRoutine g ss gs (relink_routine f r)
      relinked_routine_typed (routine ps ls c r) k = (k.0, relinked_typed (ps ++ ls) c k.1, k.2)

-- An open program that asks some oracles alone is typed by the signatures of these.
module _ (g : Setting) (ss few : Oracle → Option Signature) (P : Oracle → Type 0) (same : (o : Oracle) → P o → few o ≡ ss o) where
  mutual
    fewer_typed : (n : Names) (c : Program) → IsTyped g ss n c → Asks P c → IsTyped g few n c
    fewer_typed n done k a = tt
    fewer_typed n (assign xs e c) k a = (k.0, k.1, fewer_typed n c k.2 a)
    fewer_typed n (sample x d c) k a = (k.0, fewer_typed n c k.1 a)
    fewer_typed n (branch e b d c) k a = (k.0, fewer_typed n b k.1 a.0, fewer_typed n d k.2 a.1, fewer_typed n c k.3 a.2)
    fewer_typed n (loop e v b c) k a = (k.0, k.1, fewer_typed n b k.2 a.0, fewer_typed n c k.3 a.1)
    fewer_typed n (call xs r es c) k a = (fewer_routine_typed n.globals r k.0 a.0, k.1, k.2, fewer_typed n c k.3 a.1)
    fewer_typed n (ask xs o es c) k a = (subst (λ z. FitsSignature g n z xs es) (sym (same o a.0)) k.0, fewer_typed n c k.1 a.1)

    pub fewer_routine_typed : (gs : List Global) (r : Routine) → IsTypedRoutine g ss gs r → RoutineAsks P r → IsTypedRoutine g few gs r
    fewer_routine_typed gs (routine ps ls c r) k a = (k.0, fewer_typed (record { globals = gs; locals = ps ++ ls }) c k.1 a, k.2)

-- .. those that a signature names
pub called_typed_by : (ds : Declarations) (t : ModuleType) (s : Signature) (g : Setting) (gs : List Global) (r : Routine) → IsTypedRoutine g (oracle_signature ds t.params) gs r →
    RoutineAsks (λ o. may_call s.oracles o ≡ true) r → IsTypedRoutine g (callable ds t s) gs r
called_typed_by ds t s g gs r k a =
    fewer_routine_typed g (oracle_signature ds t.params) (callable ds t s) (λ o. may_call s.oracles o ≡ true)
    (λ o e. ap (λ (b : Bool). if b then oracle_signature ds t.params o else None) e) gs r k a
