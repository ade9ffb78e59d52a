-- Each oracle that an open program asks is collected by a reading in which parameters that are left open have their oracles.
use Rattle.std.proofs.Common.{◌≡◌, inl, inr, Bool, true, false, ◌||◌, List, [], ◌∷◌, ◌++◌, map, Option, Some, None, option_map, if◌then◌else◌, bytes_eq, refl, ap, sym, ◌∙◌, subst}
use Rattle.std.proofs.lemmas.Bool.{false≢true, and_parts}
use Rattle.std.proofs.lemmas.Option.{none-some}
use Rattle.std.proofs.lemmas.Slice.Eq.{bytes_eq-Decides}
use mathlib.Core.Former.{Count}
use Rattle.gb_core.specs.declared.var.Var.{Var}
use Rattle.gb_core.specs.declared.var.Var.TheVariants.{Global, Glob}
use Rattle.gb_terms.specs.declared.decl.Param.{Param}
use Rattle.gb_terms.specs.declared.decl.Proc.{Proc}
use Rattle.gb_terms.specs.declared.module.ProcRef.{ProcRef}
use Rattle.gb_terms.specs.declared.term.Instr.{Instr, Row_of-Instr, end_of-Instr, more_of-Instr}
use Rattle.gb_terms.specs.declared.term.Head.TheVariants.{Assign, Sample, Call', If', While'}
use Rattle.gb_terms.specs.declared.term.Term.{Term}
use Rattle.gb_terms.specs.Rows.{terms_in}
use Rattle.gb_goal.specs.declared.module_type.Oracle.{Oracle as OracleName}
use Rattle.gb_meaning.specs.Names.{Name}
use Rattle.gb_meaning.specs.Program.{Program, Routine, Oracle}
use Rattle.gb_meaning.specs.Program.Program.{done, assign, sample, branch, loop, call, ask}
use Rattle.gb_meaning.specs.Program.Routine.{routine}
use Rattle.gb_meaning.specs.Setting.{Setting}
use Rattle.gb_meaning.specs.Values.{World}
use Rattle.gb_meaning.specs.Values as values_of
use Rattle.gb_meaning.specs.Adversary.{Adversary, abstract_footprint, as_asked, callable, may_call, oracle_eq, oracle_footprints, oracle_signature, oracles_among, oracles_called, oracles_in, oracles_named, signature_footprints, type_named}
use Rattle.gb_meaning.specs.Declared.{Declarations, MayCall, ModuleType, Signature, every, signature_in, those}
use Rattle.gb_meaning.specs.Footprints.{of_callee}
use Rattle.gb_meaning.specs.Linking.{oracle_of}
use Rattle.gb_meaning.specs.Modules.{Procedures, closed, found}
use Rattle.gb_meaning.specs.Programs.{HasProcedures, IsProcedureFor, IsProgramFor}
use Rattle.gb_meaning.specs.Typing.{IsTyped, IsTypedRoutine, Names}
use Rattle.gb_typing.specs.Alike.{SameParams}
use Rattle.gb_typing.specs.Modules.{ProcedureType, functor_type, of_functor_type, signature_types, signatures_of, without_lacks}
use Rattle.gb_typing.specs.Programs.{locals_of}
use Rattle.gb_typing.proofs.Calls.{each_call}
use Rattle.gb_mods.specs.Called.{calls, row_calls, statement_calls}
use Rattle.gb_arguments.specs.Opened.{Callee, linked, open_to, answered_by, asked_in, asked_modules, carried, each_relinked, open_procedure, over_oracles, program_over, relink, relink_routine, statement_over, statements_over}
use Rattle.gb_arguments.specs.Programs.{Asks, RoutineAsks}
use Rattle.gb_arguments.specs.Reading.{KeepAlike}
use Rattle.gb_arguments.specs.Related.{Agree, AreAlike, IsAlike, IsNarrow, StandAlike}
use Rattle.gb_arguments.proofs.Asked.{asked_of, found_asked}
use Rattle.gb_arguments.proofs.Chosen.{answers, signed_called, typed_as}
use Rattle.gb_arguments.proofs.Linked.{AnyContext, found_relinked, linked_with}
use Rattle.gb_arguments.proofs.Readings.{given_each}
use Rattle.gb_arguments.specs.Collect.{Each, collect, values}
use Rattle.gb_arguments.proofs.Collecting.{each_called}
use Rattle.gb_arguments.proofs.FootprintMembers.{has_behind, has_front}
use Rattle.gb_arguments.proofs.Members.{Has}

-- an oracle, as what is collected
abbrev pub asked_as : Oracle → Var
asked_as o = Global o.parameter o.name

-- What asks some oracles alone asks others alone.
module _ (P Q : Oracle → Type 0) (more : (o : Oracle) → P o → Q o) where
  mutual
    asks_more : (c : Program) → Asks P c → Asks Q c
    asks_more done w = tt
    asks_more (assign xs e c) w = asks_more c w
    asks_more (sample x d c) w = asks_more c w
    asks_more (branch e a b c) w = (asks_more a w.0, asks_more b w.1, asks_more c w.2)
    asks_more (loop e v a c) w = (asks_more a w.0, asks_more c w.1)
    asks_more (call xs r es c) w = (routine_asks_more r w.0, asks_more c w.1)
    asks_more (ask xs o es c) w = (more o w.0, asks_more c w.1)

    pub routine_asks_more : (r : Routine) → RoutineAsks P r → RoutineAsks Q r
    routine_asks_more (routine ps ls c r) w = asks_more c w

-- what is called asks these oracles alone
abbrev CalleeAsks : (Oracle → Type 0) → Option Callee → Type 0
CalleeAsks P (Some (linked r)) = RoutineAsks P r
CalleeAsks P (Some (open_to o)) = P o
CalleeAsks P None = ⊥

-- .. those that are collected of it
abbrev pub Collected : Option Callee → Option (List Var) → Type 0
Collected (Some (linked r)) (Some xs) = RoutineAsks (λ o. Has xs (asked_as o)) r
Collected (Some (open_to o)) (Some xs) = Has xs (asked_as o)
Collected _ _ = ⊥

-- .. of a procedure of any type
abbrev pub IsCollected : ProcedureType → Option Callee → Option (List Var) → Type 0
IsCollected t x y = Collected x y

pub collected_narrow : IsNarrow IsCollected
collected_narrow s t e x y w = w

collected_asks : (xs : List Var) (m : Option Callee) (y : Option (List Var)) → Collected m y → ((z : Var) → Has (of_callee y) z → Has xs z) → CalleeAsks (λ o. Has xs (asked_as o)) m
collected_asks xs (Some (linked r)) (Some ys) w h = routine_asks_more (λ o. Has ys (asked_as o)) (λ o. Has xs (asked_as o)) (λ o. h (asked_as o)) r w
collected_asks xs (Some (open_to o)) (Some ys) w h = h (asked_as o) w
collected_asks xs (Some (linked r)) None w h = absurd w
collected_asks xs (Some (open_to o)) None w h = absurd w
collected_asks xs None y w h = absurd w

-- A declared procedure.

each_split : (Q : ProcRef → Type 0) (ps qs : List ProcRef) → Each Q (ps ++ qs) → Each Q ps × Each Q qs
each_split Q [] qs h = (tt, h)
each_split Q (p ∷ ps) qs h = let k = each_split Q ps qs h.1 in ((h.0, k.0), k.1)

module _ (P : Oracle → Type 0) (f : ProcRef → Option Callee) where
  abbrev Q : ProcRef → Type 0
  Q r = CalleeAsks P (f r)

  call_asks : (m : Option Callee) → CalleeAsks P m → (xs : List Var) (es : List Term) (c : Program) → Asks P c → Asks P (carried xs m es c)
  call_asks (Some (linked r)) w xs es c k = (w, k)
  call_asks (Some (open_to o)) w xs es c k = (w, k)
  call_asks None w xs es c k = absurd w

  row_asks : {n : Count} (is : Row_of-Instr n) → Each Q (row_calls is) → Asks P (program_over f is)
  row_asks end_of-Instr w = tt
  row_asks (more_of-Instr (Assign xs e) is) w = row_asks is w
  row_asks (more_of-Instr (Sample x d) is) w = row_asks is w
  row_asks (more_of-Instr (Call' xs p n es) is) w = call_asks (f p) w.0 xs (terms_in es) (program_over f is) (row_asks is w.1)
  row_asks (more_of-Instr (If' e m a n b) is) w =
      let k = each_split Q (row_calls a ++ row_calls b) (row_calls is) w in
      let l = each_split Q (row_calls a) (row_calls b) k.0 in
      (row_asks a l.0, row_asks b l.1, row_asks is k.1)
  row_asks (more_of-Instr (While' e v n a) is) w = let k = each_split Q (row_calls a) (row_calls is) w in (row_asks a k.0, row_asks is k.1)

  statement_asks : (s : Instr) (c : Program) → Each Q (statement_calls s) → Asks P c → Asks P (statement_over f s c)
  statement_asks (Assign xs e) c w k = k
  statement_asks (Sample x d) c w k = k
  statement_asks (Call' xs p n es) c w k = call_asks (f p) w.0 xs (terms_in es) c k
  statement_asks (If' e m a n b) c w k = let l = each_split Q (row_calls a) (row_calls b) w in (row_asks a l.0, row_asks b l.1, k)
  statement_asks (While' e v n a) c w k = (row_asks a w, k)

  -- statements ask what the procedures ask that they call
  pub statements_ask : (is : List Instr) → Each Q (calls is) → Asks P (statements_over f is)
  statements_ask [] w = tt
  statements_ask (s ∷ is) w = let k = each_split Q (statement_calls s) (calls is) w in statement_asks s (statements_over f is) k.0 (statements_ask is k.1)

abbrev pub none_own : Proc → List Var
none_own p = []

each_collected : (f : ProcRef → Option Callee) (g : ProcRef → Option (List Var)) (xs : List Var) (qs : List ProcRef) → Each (λ r. Collected (f r) (g r)) qs → ((z : Var) → Has (values g qs) z → Has xs z) →
    Each (λ r. CalleeAsks (λ o. Has xs (asked_as o)) (f r)) qs
each_collected f g xs [] w h = tt
each_collected f g xs (q ∷ qs) w h = (
  collected_asks xs (f q) (g q) w.0 (λ z k. h z (has_front (of_callee (g q)) (values g qs) z k)),
  each_collected f g xs qs w.1 (λ z k. h z (has_behind (of_callee (g q)) (values g qs) z k)),
)

pub reading_collected : KeepAlike IsCollected AnyContext open_procedure (collect none_own)
reading_collected c p kind k f g related =
    statements_ask (λ o. Has (values g (calls p.body.list)) (asked_as o)) f p.body.list
    (each_collected f g (values g (calls p.body.list)) (calls p.body.list)
    (each_called (λ r. Collected (f r) (g r)) p.body.list (each_call c (locals_of p) (λ r. Collected (f r) (g r)) related p.body.list (let b = k.body in b.statements))) (λ z h. h))

-- The program of an abstract module asks what is asked by what answers for its oracles.

module _ (g : Setting) (ss : Oracle → Option Signature) (P : Oracle → Type 0) (f : Oracle → Option Callee) (all : (o : Oracle) (u : Signature) → ss o ≡ Some u → CalleeAsks P (f o)) where
  answer_asks : (m : Option Callee) → CalleeAsks P m → (xs : List Var) (o : Oracle) (es : List Term) (c : Program) → Asks P c → Asks P (answered_by m xs o es c)
  answer_asks (Some (linked r)) w xs o es c k = (w, k)
  answer_asks (Some (open_to p)) w xs o es c k = (w, k)
  answer_asks None w xs o es c k = absurd w

  known : (n : Names) (xs : List Var) (o : Oracle) (es : List Term) (s : Option Signature) → ss o ≡ s → IsTyped g (λ p. s) n (ask xs o es done) → CalleeAsks P (f o)
  known n xs o es None e w = absurd w.0
  known n xs o es (Some u) e w = all o u e

  mutual
    relinked_asks : (n : Names) (c : Program) → IsTyped g ss n c → Asks P (relink f c)
    relinked_asks n done w = tt
    relinked_asks n (assign xs e c) w = relinked_asks n c w.2
    relinked_asks n (sample x d c) w = relinked_asks n c w.1
    relinked_asks n (branch e a b c) w = (relinked_asks n a w.1, relinked_asks n b w.2, relinked_asks n c w.3)
    relinked_asks n (loop e v a c) w = (relinked_asks n a w.2, relinked_asks n c w.3)
    relinked_asks n (call xs r es c) w = (relinked_routine_asks n.globals r w.0, relinked_asks n c w.3)
    relinked_asks n (ask xs o es c) w = answer_asks (f o) (known n xs o es (ss o) refl (w.0, tt)) xs o es (relink f c) (relinked_asks n c w.1)

    pub relinked_routine_asks : (gs : List values_of.Global) (r : Routine) → IsTypedRoutine g ss gs r → RoutineAsks P (relink_routine f r)
    relinked_routine_asks gs (routine ps ls c r) w = relinked_asks _ c w.1

-- An oracle that may be called is among those that are.

same_oracle : (q o : Oracle) → q.parameter ≡ o.parameter → q.name ≡ o.name → q ≡ o
same_oracle q o e f = λ i. record { parameter = e i; name = f i }

oracles_front : (us vs : List Oracle) (o : Oracle) → Has us o → Has (us ++ vs) o
oracles_front [] vs o h = absurd h
oracles_front (u ∷ us) vs o (inl e) = inl e
oracles_front (u ∷ us) vs o (inr h) = inr (oracles_front us vs o h)

oracles_behind : (us vs : List Oracle) (o : Oracle) → Has vs o → Has (us ++ vs) o
oracles_behind [] vs o h = h
oracles_behind (u ∷ us) vs o h = inr (oracles_behind us vs o h)

in_param : (x : Name) (us : List Signature) (o : Oracle) (s : Signature) → x ≡ o.parameter → signature_in us o.name ≡ Some s → Has (oracles_in x us) o
in_param x [] o s p e = absurd (none-some s e)
in_param x (u ∷ us) o s p e = step (bytes_eq o.name u.name) refl e (in_param x us o s p)
  where
    step : (b : Bool) → bytes_eq o.name u.name ≡ b → (if b then Some u else signature_in us o.name) ≡ Some s → (signature_in us o.name ≡ Some s → Has (oracles_in x us) o) → Has (oracles_in x (u ∷ us)) o
    step true q e go = inl (same_oracle (record { parameter = x; name = u.name }) o p (sym ((bytes_eq-Decides o.name u.name).0 q)))
    step false q e go = inr (go e)

in_params : (ds : Declarations) (ps : List Param) (o : Oracle) (s : Signature) → oracle_signature ds ps o ≡ Some s → Has (oracles_among ds ps) o
in_params ds [] o s e = absurd (none-some s e)
in_params ds (p ∷ ps) o s e = step (bytes_eq o.parameter p.name) refl e (in_params ds ps o s)
  where
    step : (b : Bool) → bytes_eq o.parameter p.name ≡ b → (if b then signature_in (type_named ds p.ty).signatures o.name else oracle_signature ds ps o) ≡ Some s →
        (oracle_signature ds ps o ≡ Some s → Has (oracles_among ds ps) o) → Has (oracles_in p.name (type_named ds p.ty).signatures ++ oracles_among ds ps) o
    step true q e go =
        oracles_front (oracles_in p.name (type_named ds p.ty).signatures) (oracles_among ds ps) o
        (in_param p.name (type_named ds p.ty).signatures o s (sym ((bytes_eq-Decides o.parameter p.name).0 q)) e)
    step false q e go = oracles_behind (oracles_in p.name (type_named ds p.ty).signatures) (oracles_among ds ps) o (go e)

in_those : (us : List OracleName) (o : Oracle) → may_call (those us) o ≡ true → Has (map as_asked us) o
in_those [] o e = absurd (false≢true e)
in_those (u ∷ us) o e = step (oracle_eq o (as_asked u)) refl e (in_those us o)
  where
    step : (b : Bool) → oracle_eq o (as_asked u) ≡ b → (b || may_call (those us) o) ≡ true → (may_call (those us) o ≡ true → Has (map as_asked us) o) → Has (map as_asked (u ∷ us)) o
    step true q e go =
        let k = and_parts (bytes_eq o.parameter u.parameter) (bytes_eq o.name u.name) q in
        inl (same_oracle (as_asked u) o (sym ((bytes_eq-Decides o.parameter u.parameter).0 k.0)) (sym ((bytes_eq-Decides o.name u.name).0 k.1)))
    step false q e go = inr (go e)

in_named : (ds : Declarations) (ps : List Param) (m : MayCall) (o : Oracle) (s : Signature) → may_call m o ≡ true → oracle_signature ds ps o ≡ Some s → Has (oracles_named ds ps m) o
in_named ds ps every o s c e = in_params ds ps o s e
in_named ds ps (those us) o s c e = in_those us o c

pub in_called : (ds : Declarations) (t : ModuleType) (s : Signature) (o : Oracle) (u : Signature) → callable ds t s o ≡ Some u → Has (oracles_called ds t s) o
in_called ds t s o u e = step (may_call s.oracles o) refl e
  where
    step : (b : Bool) → may_call s.oracles o ≡ b → (if b then oracle_signature ds t.params o else None) ≡ Some u → Has (oracles_called ds t s) o
    step true c e = in_named ds t.params s.oracles o u c e
    step false c e = absurd (none-some u e)

oracle_has : (os : Oracle → Option (List Var)) (us : List Oracle) (o : Oracle) → Has us o → (z : Var) → Has (of_callee (os o)) z → Has (oracle_footprints os us) z
oracle_has os [] o h z k = absurd h
oracle_has os (u ∷ us) o (inl e) z k = has_front (of_callee (os u)) (oracle_footprints os us) z (subst (λ x. Has (of_callee (os x)) z) (sym e) k)
oracle_has os (u ∷ us) o (inr h) z k = has_behind (of_callee (os u)) (oracle_footprints os us) z (oracle_has os us o h z k)

module _ (g : Setting) (ds : Declarations) (types : Name → Option ModuleType) where
  pub program_collected : (t : ModuleType) → SameParams ds types t.params → (n : Name) (w : World) (a : Adversary) → IsProgramFor ds g w t a →
      StandAlike IsCollected (of_functor_type (functor_type types (Some t))) (over_oracles t a) (abstract_footprint ds n t)
  program_collected t same n w a p fs qs k = each t.signatures p.procedures
    where
      f : Oracle → Option Callee
      f = oracle_of t.params (map (λ m. m []) fs)

      os : Oracle → Option (List Var)
      os = oracle_of t.params (map (λ m. m []) qs)

      has : Signature → List Var
      has s = Glob n ∷ oracle_footprints os (oracles_called ds t s)

      answered : (s : Signature) (o : Oracle) (u : Signature) → callable ds t s o ≡ Some u → CalleeAsks (λ o. Has (has s) (asked_as o)) (f o)
      answered s o u c =
          collected_asks (has s) (f o) (os o)
          (answers IsCollected ds types t.params (map (λ m. m []) fs) (map (λ m. m []) qs) same
          (given_each IsCollected collected_narrow (map (λ q. signature_types (signatures_of (types q.ty))) t.params) fs qs k) o u (signed_called ds t s o u c))
          (λ z h. inr (oracle_has os (oracles_called ds t s) o (in_called ds t s o u c) z h))

      both : (s : Signature) (r : Option Routine) → IsProcedureFor g (callable ds t s) a.footprint s r → Collected (option_map (linked_with f) r) (Some (has s))
      both s None x = absurd x
      both s (Some r) x = relinked_routine_asks g (callable ds t s) (λ o. Has (has s) (asked_as o)) f (answered s) a.footprint r x.1

      each : (us : List Signature) → HasProcedures ds g t a us → Agree IsCollected (signature_types us) (each_relinked f a.procedures) (signature_footprints ds n t os us)
      each [] x m u i = absurd (none-some u i)
      each (s ∷ us) x m u i = step (bytes_eq m s.name) refl i (each us x.1 m u)
        where
          step : (b : Bool) → bytes_eq m s.name ≡ b → (if b then Some (typed_as s) else found (signature_types us) m) ≡ Some u →
              (found (signature_types us) m ≡ Some u → Collected (found (each_relinked f a.procedures) m) (found (signature_footprints ds n t os us) m)) →
              Collected (found (each_relinked f a.procedures) m) (if b then Some (has s) else found (signature_footprints ds n t os us) m)
          step true h i later =
              subst (λ z. Collected (found (each_relinked f a.procedures) z) (Some (has s))) (sym ((bytes_eq-Decides m s.name).0 h))
              (subst (λ z. Collected z (Some (has s))) (sym (found_relinked f a.procedures s.name)) (both s (found a.procedures s.name) x.0))
          step false h i later = later i

-- Parameters that stay open.

-- the oracles of a parameter, each as what is collected of it
abbrev pub collected_in : Name → List Signature → Procedures (List Var)
collected_in p [] = []
collected_in p (s ∷ ss) = (s.name, Global p s.name ∷ []) ∷ collected_in p ss

abbrev pub collected_of : Declarations → Param → Procedures (List Var)
collected_of ds q = collected_in q.name (type_named ds q.ty).signatures

found_collected : (p : Name) (us : List Signature) (n : Name) (t : ProcedureType) → found (signature_types us) n ≡ Some t → found (collected_in p us) n ≡ Some (Global p n ∷ [])
found_collected p [] n t e = absurd (none-some t e)
found_collected p (s ∷ us) n t e = step (bytes_eq n s.name) refl (found_collected p us n t) e
  where
    step : (b : Bool) → bytes_eq n s.name ≡ b → (found (signature_types us) n ≡ Some t → found (collected_in p us) n ≡ Some (Global p n ∷ [])) →
        (if b then Some (typed_as s) else found (signature_types us) n) ≡ Some t → (if b then Some (Global p s.name ∷ []) else found (collected_in p us) n) ≡ Some (Global p n ∷ [])
    step true k later e = ap (λ z. Some (Global p z ∷ [])) (sym ((bytes_eq-Decides n s.name).0 k))
    step false k later e = later e

-- nothing else is collected of it
pub only_collected : (p : Name) (us : List Signature) (n : Name) (z : Var) → Has (of_callee (found (collected_in p us) n)) z → Global p n ≡ z
only_collected p [] n z h = absurd h
only_collected p (s ∷ us) n z h = step (bytes_eq n s.name) refl (only_collected p us n z) h
  where
    here : Global p n ≡ Global p s.name → Has (Global p s.name ∷ []) z → Global p n ≡ z
    here q (inl e) = q ∙ e
    here q (inr h) = absurd h

    step : (b : Bool) → bytes_eq n s.name ≡ b → (Has (of_callee (found (collected_in p us) n)) z → Global p n ≡ z) →
        Has (of_callee (if b then Some (Global p s.name ∷ []) else found (collected_in p us) n)) z → Global p n ≡ z
    step true k later h = here (ap (λ x. Global p x) ((bytes_eq-Decides n s.name).0 k)) h
    step false k later h = later h

module _ (ds : Declarations) (types : Name → Option ModuleType) where
  one_collected : (p : Name) (us : List Signature) → Agree IsCollected (signature_types us) (asked_in p us) (collected_in p us)
  one_collected p us n t e =
      subst (λ z. Collected z (found (collected_in p us) n)) (sym (found_asked p us n t e))
      (subst (λ z. Collected (Some (open_to (record { parameter = p; name = n }))) z) (sym (found_collected p us n t e)) (inl refl))

  pub params_collected : (ps : List Param) → SameParams ds types ps →
      AreAlike IsCollected (map without_lacks (asked_of types ps)) (map closed (asked_modules ds ps)) (map closed (map (collected_of ds) ps))
  params_collected [] same = tt
  params_collected (p ∷ ps) same = (one, params_collected ps same.1)
    where
      here : Agree IsCollected (signature_types (signatures_of (types p.ty))) (asked_in p.name (type_named ds p.ty).signatures) (collected_of ds p)
      here =
          subst (λ z. Agree IsCollected (signature_types z) (asked_in p.name (type_named ds p.ty).signatures) (collected_of ds p)) (sym same.0)
          (one_collected p.name (type_named ds p.ty).signatures)

      one : IsAlike IsCollected (without_lacks (signature_types (signatures_of (types p.ty)))) (closed (asked_in p.name (type_named ds p.ty).signatures)) (closed (collected_of ds p))
      one [] [] h = here
      one [] (y ∷ ys) h = absurd h
      one (x ∷ xs) ys h = absurd h
