-- Open programs, read with the footprints of abstract modules, are typed: those of abstract modules, and those of parameters that stay open.
use Rattle.std.proofs.Common.{◌≡◌, Bool, true, false, ◌||◌, List, [], ◌∷◌, ◌++◌, map, Option, Some, None, option_map, if◌then◌else◌, bytes_eq, refl, ap, sym, ◌∙◌, subst}
use Rattle.std.specs.List.{list_any}
use Rattle.std.proofs.lemmas.Bool.{false≢true, and_parts}
use Rattle.std.proofs.lemmas.Option.{none-some, same_Some}
use Rattle.std.proofs.lemmas.Slice.Eq.{bytes_eq-Decides}
use Rattle.gb_core.specs.declared.ty.Ty.{Ty}
use Rattle.gb_core.specs.declared.var.Var.{Var}
use Rattle.gb_core.specs.declared.var.Var.TheVariants as var
use Rattle.gb_terms.specs.declared.decl.Param.{Param}
use Rattle.gb_goal.specs.declared.module_type.Oracle.{Oracle as OracleName}
use Rattle.gb_meaning.specs.Adversary.{Adversary, abstract_footprint, as_asked, callable, may_call, oracle_eq, oracle_footprints, oracle_signature, oracles_among, oracles_called, oracles_in, oracles_named, signature_footprints, type_named}
use Rattle.gb_meaning.specs.Declared.{Declarations, MayCall, ModuleType, Signature, every, signature_in, those}
use Rattle.gb_meaning.specs.Footprints.{is_global, of_callee}
use Rattle.gb_meaning.specs.Linking.{oracle_of}
use Rattle.gb_meaning.specs.Modules.{closed, found}
use Rattle.gb_meaning.specs.Names.{Name}
use Rattle.gb_meaning.specs.Program.{Oracle, Routine}
use Rattle.gb_meaning.specs.Program.Routine.{routine}
use Rattle.gb_meaning.specs.Programs.{AreIn, HasProcedures, IsProcedureFor, IsProgramFor}
use Rattle.gb_meaning.specs.Setting.{Setting}
use Rattle.gb_meaning.specs.Typing.{global_type}
use Rattle.gb_meaning.specs.Values.{Global, World}
use Rattle.gb_meaning.proofs.MoreGlobals.{routine-more}
use Rattle.gb_typing.specs.Alike.{SameParams}
use Rattle.gb_typing.specs.Modules.{ProcedureType, functor_type, of_functor_type, signature_types, signatures_of, without_lacks}
use Rattle.gb_typing.proofs.Programs.{found_type}
use Rattle.gb_arguments.specs.Opened.{Callee, linked, open_to, asked_in, asked_modules, each_relinked, over_oracles}
use Rattle.gb_arguments.specs.Related.{Agree, AreAlike, IsAlike, StandAlike}
use Rattle.gb_arguments.specs.Typed.{AnswersTyped, AreWithin, IsTypedBy, IsWithin}
use Rattle.gb_arguments.proofs.Asked.{HaveOwnNames, ParamIsFresh, asked_of, found_asked}
use Rattle.gb_arguments.proofs.Chosen.{answers, signed_called, typed_as}
use Rattle.gb_arguments.proofs.Filtered.{itself, or_true}
use Rattle.gb_arguments.proofs.Lacking.{none_for}
use Rattle.gb_arguments.proofs.Linked.{found_relinked, linked_with}
use Rattle.gb_arguments.proofs.Readings.{given_each}
use Rattle.gb_arguments.proofs.Typed.{front_within, relinked_routine_typed, rest_within, typed_narrow}

same_oracle : (q o : Oracle) → q.parameter ≡ o.parameter → q.name ≡ o.name → q ≡ o
same_oracle q o e f = λ i. record { parameter = e i; name = f i }

module _ (g : Setting) (ss : Oracle → Option Signature) (w : World) (pf : Name → List Global) (gs : List Global) where
  abbrev R : ProcedureType → Option Callee → Option (List Var) → Type 0
  R = IsTypedBy g ss w pf gs

  abbrev W : List Var → Type 0
  W = AreWithin w pf gs

  -- The footprint of an oracle that may be called is within the globals where those of all that may be called are.
  module _ (ds : Declarations) (os : Oracle → Option (List Var)) where
    split_called : (qs rs : List Oracle) → W (oracle_footprints os (qs ++ rs)) → W (oracle_footprints os qs) × W (oracle_footprints os rs)
    split_called [] rs h = (tt, h)
    split_called (q ∷ qs) rs h =
        let k = split_called qs rs (rest_within g ss w pf gs (of_callee (os q)) (oracle_footprints os (qs ++ rs)) h) in
        (joined (of_callee (os q)) (oracle_footprints os qs) (front_within g ss w pf gs (of_callee (os q)) (oracle_footprints os (qs ++ rs)) h) k.0, k.1)
      where
        joined : (xs ys : List Var) → W xs → W ys → W (xs ++ ys)
        joined [] ys a b = b
        joined (x ∷ xs) ys a b = (a.0, joined xs ys a.1 b)

    first_called : (q o : Oracle) (rest : List Oracle) → q ≡ o → W (oracle_footprints os (q ∷ rest)) → W (of_callee (os o))
    first_called q o rest e h = subst (λ z. W (of_callee (os z))) e (front_within g ss w pf gs (of_callee (os q)) (oracle_footprints os rest) h)

    one_called : (x : Name) (us : List Signature) (o : Oracle) (s : Signature) → x ≡ o.parameter → signature_in us o.name ≡ Some s → W (oracle_footprints os (oracles_in x us)) → W (of_callee (os o))
    one_called x [] o s p e h = absurd (none-some s e)
    one_called x (u ∷ us) o s p e h = step (bytes_eq o.name u.name) refl e (one_called x us o s p)
      where
        step : (b : Bool) → bytes_eq o.name u.name ≡ b → (if b then Some u else signature_in us o.name) ≡ Some s →
            (signature_in us o.name ≡ Some s → W (oracle_footprints os (oracles_in x us)) → W (of_callee (os o))) → W (of_callee (os o))
        step true q e go = first_called (record { parameter = x; name = u.name }) o (oracles_in x us) (same_oracle (record { parameter = x; name = u.name }) o p (sym ((bytes_eq-Decides o.name u.name).0 q))) h
        step false q e go = go e (rest_within g ss w pf gs (of_callee (os (record { parameter = x; name = u.name }))) (oracle_footprints os (oracles_in x us)) h)

    all_called : (ps : List Param) (o : Oracle) (s : Signature) → oracle_signature ds ps o ≡ Some s → W (oracle_footprints os (oracles_among ds ps)) → W (of_callee (os o))
    all_called [] o s e h = absurd (none-some s e)
    all_called (p ∷ ps) o s e h = step (bytes_eq o.parameter p.name) refl e (all_called ps o s)
      where
        k : W (oracle_footprints os (oracles_in p.name (type_named ds p.ty).signatures)) × W (oracle_footprints os (oracles_among ds ps))
        k = split_called (oracles_in p.name (type_named ds p.ty).signatures) (oracles_among ds ps) h

        step : (b : Bool) → bytes_eq o.parameter p.name ≡ b → (if b then signature_in (type_named ds p.ty).signatures o.name else oracle_signature ds ps o) ≡ Some s →
            (oracle_signature ds ps o ≡ Some s → W (oracle_footprints os (oracles_among ds ps)) → W (of_callee (os o))) → W (of_callee (os o))
        step true q e go = one_called p.name (type_named ds p.ty).signatures o s (sym ((bytes_eq-Decides o.parameter p.name).0 q)) e k.0
        step false q e go = go e k.1

    those_called : (us : List OracleName) (o : Oracle) → may_call (those us) o ≡ true → W (oracle_footprints os (map as_asked us)) → W (of_callee (os o))
    those_called [] o e h = absurd (false≢true e)
    those_called (u ∷ us) o e h = step (oracle_eq o (as_asked u)) refl e (those_called us o)
      where
        step : (b : Bool) → oracle_eq o (as_asked u) ≡ b → (b || may_call (those us) o) ≡ true →
            (may_call (those us) o ≡ true → W (oracle_footprints os (map as_asked us)) → W (of_callee (os o))) → W (of_callee (os o))
        step true q e go =
            let k = and_parts (bytes_eq o.parameter u.parameter) (bytes_eq o.name u.name) q in
            first_called (as_asked u) o (map as_asked us) (same_oracle (as_asked u) o (sym ((bytes_eq-Decides o.parameter u.parameter).0 k.0)) (sym ((bytes_eq-Decides o.name u.name).0 k.1))) h
        step false q e go = go e (rest_within g ss w pf gs (of_callee (os (as_asked u))) (oracle_footprints os (map as_asked us)) h)

    named_called : (ps : List Param) (m : MayCall) (o : Oracle) (s : Signature) → may_call m o ≡ true → oracle_signature ds ps o ≡ Some s → W (oracle_footprints os (oracles_named ds ps m)) →
        W (of_callee (os o))
    named_called ps every o s c e h = all_called ps o s e h
    named_called ps (those us) o s c e h = those_called us o c h

    called_within : (t : ModuleType) (s : Signature) (o : Oracle) (u : Signature) → callable ds t s o ≡ Some u → W (oracle_footprints os (oracles_called ds t s)) → W (of_callee (os o))
    called_within t s o u e h = step (may_call s.oracles o) refl e
      where
        step : (b : Bool) → may_call s.oracles o ≡ b → (if b then oracle_signature ds t.params o else None) ≡ Some u → W (of_callee (os o))
        step true c e = named_called t.params s.oracles o u c e h
        step false c e = absurd (none-some u e)

  -- the globals of a program that is chosen, where its entry is within the globals
  in_footprint : (ys : List Global) → ((x : Global) → list_any (is_global x) ys ≡ true → (u : Ty) → global_type w x.parent x.name ≡ Some u → global_type gs x.parent x.name ≡ Some u) →
      AreIn w ys → AreIn gs ys
  in_footprint [] h k = tt
  in_footprint (y ∷ ys) h k = (
    h y (ap (λ b. b || list_any (is_global y) ys) (itself y)) y.ty k.0,
    in_footprint ys (λ x e. h x (or_true (is_global x y) (list_any (is_global x) ys) e)) k.1,
  )

  answer_typed : (u : Signature) (m : Option Callee) (y : Option (List Var)) → R (typed_as u) m y → W (of_callee y) → AnswersTyped g ss gs u m
  answer_typed u (Some (linked r)) (Some xs) k h = k h
  answer_typed u (Some (linked r)) None k h = absurd k
  answer_typed u (Some (open_to o)) y k h = k
  answer_typed u None y k h = absurd k

  module _ (ds : Declarations) (types : Name → Option ModuleType) where
    -- the program of an abstract module, with modules for its parameters
    pub program_typed : (t : ModuleType) → SameParams ds types t.params → (n : Name) (a : Adversary) → pf n ≡ a.footprint → IsProgramFor ds g w t a →
        StandAlike R (of_functor_type (functor_type types (Some t))) (over_oracles t a) (abstract_footprint ds n t)
    program_typed t same n a e p fs qs k = each t.signatures p.procedures
      where
        f : Oracle → Option Callee
        f = oracle_of t.params (map (λ m. m []) fs)

        os : Oracle → Option (List Var)
        os = oracle_of t.params (map (λ m. m []) qs)

        answered : (s : Signature) → W (oracle_footprints os (oracles_called ds t s)) → (o : Oracle) (u : Signature) → callable ds t s o ≡ Some u → AnswersTyped g ss gs u (f o)
        answered s h o u c =
            answer_typed u (f o) (os o)
            (answers R ds types t.params (map (λ m. m []) fs) (map (λ m. m []) qs) same
            (given_each R (typed_narrow g ss w pf gs) (map (λ q. signature_types (signatures_of (types q.ty))) t.params) fs qs k) o u (signed_called ds t s o u c))
            (called_within ds os t s o u c h)

        inside : IsWithin w pf gs (var.Glob n) → AreIn gs a.footprint
        inside h = in_footprint a.footprint (λ x i. h x (subst (λ z. list_any (is_global x) z ≡ true) (sym e) i)) p.known

        both : (s : Signature) (r : Option Routine) → IsProcedureFor g (callable ds t s) a.footprint s r →
            R (typed_as s) (option_map (linked_with f) r) (Some (var.Glob n ∷ oracle_footprints os (oracles_called ds t s)))
        both s None x = absurd x
        both s (Some (routine ps ls c v)) x = λ h. (
          x.0.0,
          x.0.1,
          relinked_routine_typed g (callable ds t s) ss gs f (answered s h.1) (routine ps ls c v) (routine-more g (callable ds t s) gs a.footprint (inside h.0) (routine ps ls c v) x.1),
        )

        each : (us : List Signature) → HasProcedures ds g t a us → Agree R (signature_types us) (each_relinked f a.procedures) (signature_footprints ds n t os us)
        each [] x m u i = absurd (none-some u i)
        each (s ∷ us) x m u i = step (bytes_eq m s.name) refl i (each us x.1 m u)
          where
            step : (b : Bool) → bytes_eq m s.name ≡ b → (if b then Some (typed_as s) else found (signature_types us) m) ≡ Some u →
                (found (signature_types us) m ≡ Some u → R u (found (each_relinked f a.procedures) m) (found (signature_footprints ds n t os us) m)) →
                R u (found (each_relinked f a.procedures) m) (if b then Some (var.Glob n ∷ oracle_footprints os (oracles_called ds t s)) else found (signature_footprints ds n t os us) m)
            step true h i later =
                subst (λ z. R u (found (each_relinked f a.procedures) z) (Some (var.Glob n ∷ oracle_footprints os (oracles_called ds t s)))) (sym ((bytes_eq-Decides m s.name).0 h))
                (subst (λ z. R z (found (each_relinked f a.procedures) s.name) (Some (var.Glob n ∷ oracle_footprints os (oracles_called ds t s)))) (same_Some (typed_as s) u i)
                (subst (λ z. R (typed_as s) z (Some (var.Glob n ∷ oracle_footprints os (oracles_called ds t s)))) (sym (found_relinked f a.procedures s.name))
                (both s (found a.procedures s.name) x.0)))
            step false h i later = later i

    -- Parameters that stay open.

    abbrev pub AreSigned : List Param → Type 0
    AreSigned [] = Unit {0}
    AreSigned (p ∷ ps) = ((n : Name) → ss (record { parameter = p.name; name = n }) ≡ signature_in (type_named ds p.ty).signatures n) × AreSigned ps

    signed_of : (o : Option Signature) (t : ProcedureType) → option_map typed_as o ≡ Some t → (s : Signature) × (o ≡ Some s) × (typed_as s ≡ t)
    signed_of None t e = absurd (none-some t e)
    signed_of (Some s) t e = (s, refl, same_Some (typed_as s) t e)

    one_asked : (p : Name) (us : List Signature) → ((n : Name) → ss (record { parameter = p; name = n }) ≡ signature_in us n) → Agree R (signature_types us) (asked_in p us) []
    one_asked p us k n t e =
        subst (λ z. R t z None) (sym (found_asked p us n t e))
        (let s = signed_of (signature_in us n) t (sym (found_type us n) ∙ e) in (s.0, k n ∙ s.1, ap (λ z. map (λ x. x.ty) z.params) s.2, ap (λ z. z.result) s.2))

    pub params_typed : (ps : List Param) → AreSigned ps → SameParams ds types ps → AreAlike R (map without_lacks (asked_of types ps)) (map closed (asked_modules ds ps)) (map closed (none_for ps))
    params_typed [] k same = tt
    params_typed (p ∷ ps) k same = (one, params_typed ps k.1 same.1)
      where
        here : Agree R (signature_types (signatures_of (types p.ty))) (asked_in p.name (type_named ds p.ty).signatures) []
        here = subst (λ z. Agree R (signature_types z) (asked_in p.name (type_named ds p.ty).signatures) []) (sym same.0) (one_asked p.name (type_named ds p.ty).signatures k.0)

        one : IsAlike R (without_lacks (signature_types (signatures_of (types p.ty)))) (closed (asked_in p.name (type_named ds p.ty).signatures)) (closed [])
        one [] [] h = here
        one [] (y ∷ ys) h = absurd h
        one (x ∷ xs) ys h = absurd h

-- each parameter's oracles have the signatures of its type, where parameters have names of their own
module _ (g : Setting) (w : World) (pf : Name → List Global) (gs : List Global) (ds : Declarations) (types : Name → Option ModuleType) where
  abbrev Signed : (Oracle → Option Signature) → List Param → Type 0
  Signed ss ps = AreSigned g ss w pf gs ds types ps

  signed_later : (q : Param) (qs ps : List Param) → ParamIsFresh q.name ps → Signed (oracle_signature ds qs) ps → Signed (oracle_signature ds (q ∷ qs)) ps
  signed_later q qs [] f k = tt
  signed_later q qs (p ∷ ps) f k = (
    (λ n. ap (λ (b : Bool). if b then signature_in (type_named ds q.ty).signatures n else oracle_signature ds qs (record { parameter = p.name; name = n })) f.0 ∙ k.0 n),
    signed_later q qs ps f.1 k.1,
  )

  pub signed_own : (ps : List Param) → HaveOwnNames ps → Signed (oracle_signature ds ps) ps
  signed_own [] h = tt
  signed_own (p ∷ ps) h = (
    (λ n. ap (λ (b : Bool). if b then signature_in (type_named ds p.ty).signatures n else oracle_signature ds ps (record { parameter = p.name; name = n })) ((bytes_eq-Decides p.name p.name).1 refl)),
    signed_later p ps ps h.0 (signed_own ps h.1),
  )
