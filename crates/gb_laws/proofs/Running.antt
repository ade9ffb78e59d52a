-- Runs of well-typed programs write values of the variables' types.
use Rattle.std.proofs.Common.{◌≡◌, ℕ, zero, suc, ◌-◌, ◌^◌, Bool, true, false, bytes_eq, if◌then◌else◌, List, [], ◌∷◌, ◌++◌, map, Option, Some, None, refl, ap, sym, ◌∙◌, subst, arith}
use Rattle.std.proofs.lemmas.Bool.{false≢true, and_parts}
use Rattle.std.proofs.lemmas.Slice.Eq.{bytes_eq-Decides}
use Rattle.gb_core.specs.declared.ty.Ty.{Ty, Row_of-Ty, end_of-Ty, more_of-Ty}
use Rattle.gb_core.specs.declared.ty.Ty.TheVariants as ty
use Rattle.gb_core.specs.declared.value.Value.{Value}
use Rattle.gb_core.specs.declared.value.Value.TheVariants.{Many}
use Rattle.gb_core.specs.declared.var.Var.{Var}
use Rattle.gb_core.specs.declared.var.Var.TheVariants as var
use Rattle.gb_core.specs.Numbering.{Numbering, numbers, is_tuple, parts_of}
use Rattle.gb_dist.specs.WeightedList.{WeightedList, Every}
use Rattle.gb_dist.proofs.Entries.{Every-bind, Every-dmap, Every-scale}
use Rattle.gb_terms.specs.declared.module.Mexp.TheVariants.{Name as named}
use Rattle.gb_terms.specs.declared.decl.TypedName.{TypedName}
use Rattle.gb_terms.specs.declared.term.Term.{Term}
use Rattle.gb_meaning.specs.Names.{Name, Path, Map, empty, get, set}
use Rattle.gb_meaning.specs.Values.{Types, footprint_values, all_values_by, has}
use Rattle.gb_meaning.specs.Memory.{Memory, read, write, write_each, assigned, first_values, arguments, value_or, result_name, result_in}
use Rattle.gb_meaning.specs.Meanings.{value_in}
use Rattle.gb_meaning.specs.Operators.{outcome_type}
use Rattle.gb_meaning.specs.Program.{Program, Routine}
use Rattle.gb_meaning.specs.Program.Program.{done, assign, sample, branch, loop, call, ask}
use Rattle.gb_meaning.specs.Program.Routine.{routine}
use Rattle.gb_meaning.specs.Setting.{Setting}
use Rattle.gb_meaning.specs.State.{State, inside, closed}
use Rattle.gb_meaning.specs.Terms.{Speaks, quiet, val, distribution}
use Rattle.gb_meaning.specs.Runs.{turns, most_turns, turns_at, is_true, valued, run_denominator, out, outcomes, returned}
use Rattle.gb_meaning.proofs.Maps.{path_discrete, get-set_same, get-set_other}
use Rattle.gb_meaning.proofs.Memories.{read-write_global, read-write_local}
use Rattle.gb_meaning.proofs.Runs.{cases_of}
use Rattle.gb_laws.specs.Finite.{IsInhabited}
use Rattle.gb_laws.specs.Operators.{items, parts_in}
use Rattle.gb_laws.specs.Typing.{Context, IsTyped}
use Rattle.gb_meaning.specs.Written.{type_of, local_type, params_of, result_type}
use Rattle.gb_laws.specs.Context.{IsSettingOf, IsStateOf, IsFractional}
use Rattle.gb_laws.specs.Meant.{IsOf}
use Rattle.gb_laws.specs.Programs.{variable_type, HaveTypes, Take, IsValued, HaveFiniteTypes, AreArguments, closed_in, IsTypedProgram, IsTypedRoutine, IsHeld, HoldsGlobals, HoldsLocals, Holds, AreValuesOf, IsOutcome}
use Rattle.gb_laws.proofs.Sizes.{first_has}
use Rattle.gb_laws.proofs.Meanings.{parts_have, finite_has, weights_have}
use Rattle.gb_laws.proofs.Terms.{typed_meaning}
use mathlib.Core.Former.{Count}

abbrev head_of : Path → Name
head_of [] = []
head_of (x ∷ xs) = x

abbrev rest_of : Path → Path
rest_of [] = []
rest_of (x ∷ xs) = xs

module _ (t : Types) where
  -- what stands at a path after a write
  held_after : (P : Option Value → Type 0) (m : Map) (x : Path) (v : Value) (y : Path) → (y ≡ x → P (Some v)) → P (get m y) → P (get (set m x v) y)
  held_after P m x v y h k = step (path_discrete y x)
    where
      step : Dec (y ≡ x) → P (get (set m x v) y)
      step (yes e) = subst (λ z. P (get (set m x v) z)) (sym e) (subst P (sym (get-set_same m x v)) (h e))
      step (no n) = subst P (sym (get-set_other m x v y n)) k

  global_held : (c : Context) (m : Map) (p x : Name) (v : Value) → IsHeld t (c.global p x) (Some v) → HoldsGlobals t c m → HoldsGlobals t c (set m (p ∷ x ∷ []) v)
  global_held c m p x v h k = λ q y. held_after (IsHeld t (c.global q y)) m (p ∷ x ∷ []) v (q ∷ y ∷ [])
      (λ e. let a : q ≡ p = ap head_of e in let b : y ≡ x = ap (λ z. head_of (rest_of z)) e in
      subst (λ z. IsHeld t z (Some v)) (sym (λ i. c.global (a i) (b i))) h) (k q y)

  local_held : (ls : List TypedName) (m : Map) (x : Name) (v : Value) → IsHeld t (local_type ls x) (Some v) → HoldsLocals t ls m → HoldsLocals t ls (set m (x ∷ []) v)
  local_held ls m x v h k = λ y. held_after (IsHeld t (local_type ls y)) m (x ∷ []) v (y ∷ [])
      (λ e. let a : y ≡ x = ap head_of e in subst (λ z. IsHeld t (local_type ls z) (Some v)) (sym a) h) (k y)

  written : (c : Context) (ls : List TypedName) (m : Memory) (x : Var) (u : Ty) (v : Value) → variable_type c ls x ≡ Some u → has t u v ≡ true →
      Holds t c ls m → Holds t c ls (write t m x v)
  written c ls m (var.Global p x) u v e h k = (global_held c m.globals p x v (subst (λ z. IsHeld t z (Some v)) (sym e) h) k.0, k.1)
  written c ls m (var.Local x) u v e h k = (k.0, local_held ls m.frame x v (subst (λ z. IsHeld t z (Some v)) (sym e) h) k.1)
  written c ls m (var.Glob a) u v e h k = cc

  -- a variable reads as it was written
  pub read_back : (c : Context) (ls : List TypedName) (m : Memory) (x : Var) (u : Ty) (v : Value) → variable_type c ls x ≡ Some u → has t u v ≡ true →
      read t (write t m x v) x u ≡ v
  read_back c ls m (var.Global p x) u v e h = read-write_global t m (record { parent = p; name = x; ty = u }) v h
  read_back c ls m (var.Local x) u v e h = read-write_local t m x u v h
  read_back c ls m (var.Glob a) u v e h = cc

  abbrev rows : {n : Count} → Row_of-Ty n → List Numbering
  rows r = all_values_by (λ n. numbers (t.size n)) (λ n. footprint_values t.size (t.footprint (named n))) r

  each_written : {n : Count} (c : Context) (ls : List TypedName) (r : Row_of-Ty n) (m : Memory) (xs : List Var) (vs : List Value) → HaveTypes c ls xs (items r) →
      is_tuple (rows r) vs ≡ true → Holds t c ls m → Holds t c ls (write_each t m xs vs)
  each_written c ls r m [] vs e h k = k
  each_written c ls end_of-Ty m (x ∷ xs) vs e h k = absurd e
  each_written c ls (more_of-Ty u r) m (x ∷ xs) [] e h k = k
  each_written c ls (more_of-Ty u r) m (x ∷ xs) (v ∷ vs) e h k =
      let p = and_parts (has t u v) (is_tuple (rows r) vs) h in
      each_written c ls r (write t m x v) xs vs e.1 p.1 (written c ls m x u v e.0 p.0 k)

  tuple_written : (c : Context) (ls : List TypedName) (m : Memory) (x y : Var) (xs : List Var) (u : Ty) (v : Value) → HaveTypes c ls (x ∷ y ∷ xs) (parts_in u) →
      has t u v ≡ true → Holds t c ls m → Holds t c ls (write_each t m (x ∷ y ∷ xs) (parts_of v))
  tuple_written c ls m x y xs (ty.Tuple' n r) v e h k = each_written c ls r m (x ∷ y ∷ xs) (parts_of v) e (parts_have (is_tuple (rows r)) v h) k
  tuple_written c ls m x y xs _ v e h k = absurd e

  pub all_written : (c : Context) (ls : List TypedName) (m : Memory) (xs : List Var) (u : Ty) (v : Value) → Take c ls xs u → has t u v ≡ true →
      Holds t c ls m → Holds t c ls (assigned t m xs v)
  all_written c ls m [] u v e h k = k
  all_written c ls m (x ∷ []) u v e h k = written c ls m x u v e h k
  all_written c ls m (x ∷ y ∷ xs) u v e h k = tuple_written c ls m x y xs u v e h k

  -- a local more, with a value of its type
  local_more : (l : TypedName) (ls : List TypedName) (m : Map) (v : Value) → has t l.ty v ≡ true → HoldsLocals t ls m → HoldsLocals t (l ∷ ls) (set m (l.name ∷ []) v)
  local_more l ls m v h k = λ x. step x (bytes_eq x l.name) refl
    where
      step : (x : Name) (b : Bool) → bytes_eq x l.name ≡ b → IsHeld t (if b then Some l.ty else local_type ls x) (get (set m (l.name ∷ []) v) (x ∷ []))
      step x true e =
          let a : x ≡ l.name = (bytes_eq-Decides x l.name).0 e in
          subst (λ z. IsHeld t (Some l.ty) (get (set m (l.name ∷ []) v) (z ∷ []))) (sym a) (subst (IsHeld t (Some l.ty)) (sym (get-set_same m (l.name ∷ []) v)) h)
      step x false e =
          subst (IsHeld t (local_type ls x)) (sym (get-set_other m (l.name ∷ []) v (x ∷ [])
          (λ a. false≢true (sym e ∙ (bytes_eq-Decides x l.name).1 (ap head_of a))))) (k x)

  no_locals : (x : Name) → IsHeld t None (get empty (x ∷ []))
  no_locals x = tt

  firsts_held : IsInhabited t → (ls : List TypedName) → HaveFiniteTypes ls → HoldsLocals t ls (first_values t ls)
  firsts_held i [] h = no_locals
  firsts_held i (l ∷ ls) h = local_more l ls (first_values t ls) _ (first_has t i l.ty h.0) (firsts_held i ls h.1)

  arguments_held : (ps ls : List TypedName) (vs : List Value) (m : Map) → AreValuesOf t ps vs → HoldsLocals t ls m → HoldsLocals t (ps ++ ls) (arguments m ps vs)
  arguments_held [] ls vs m h k = k
  arguments_held (p ∷ ps) ls [] m h k = absurd h
  arguments_held (p ∷ ps) ls (v ∷ vs) m h k = local_more p (ps ++ ls) (arguments m ps vs) v h.0 (arguments_held ps ls vs m h.1 k)

module _ (g : Setting) where
  quiet_fractional : IsFractional quiet
  quiet_fractional p xs m e = omega arith

  closed_setting : (c : Context) → IsSettingOf c g → IsSettingOf (closed_in c) g
  closed_setting c i = record { inhabited = i.inhabited; operators = i.operators; distributions = i.distributions }

  none_logical : (c : Context) (n : ℕ) (u : Ty) → (closed_in c).logical n ≡ Some u → ⊥
  none_logical c n u e = cc

  -- every state fits the context of a procedure's body
  any_state : (c : Context) (s : State) → IsStateOf g.types (closed_in c) s
  any_state c s = record { logical = λ n u e. absurd (none_logical c n u e); bound = tt }

  closed_state : (c : Context) → IsStateOf g.types (closed_in c) closed
  closed_state c = any_state c closed

  pub closed_meaning : (c : Context) → IsSettingOf c g → (j : Speaks) → IsFractional j → (e : Term) → IsTyped (closed_in c) e → (s : State) →
      IsOf g.types (type_of e) (val g j e s)
  closed_meaning c i j f e w s = typed_meaning (closed_in c) g (closed_setting c i) j f e w s (any_state c s)

  pub closed_has : (c : Context) → IsSettingOf c g → (e : Term) → IsValued (closed_in c) e → (s : State) → has g.types (type_of e) (value_in (val g quiet e s)) ≡ true
  closed_has c i e w s = finite_has g.types (type_of e) (val g quiet e s) w.1 (closed_meaning c i quiet quiet_fractional e w.0 s)

  inside_state : (c : Context) (s : State) (m : Memory) → IsStateOf g.types c s → IsStateOf g.types c (inside s m)
  inside_state c s m q = record { logical = q.logical; bound = q.bound }

  valued_has : (c : Context) → IsSettingOf c g → (s : State) → IsStateOf g.types c s → (e : Term) → IsValued c e → (m : Memory) → has g.types (type_of e) (valued g s e m) ≡ true
  valued_has c i s q e w m = finite_has g.types (type_of e) (val g quiet e (inside s m)) w.1 (typed_meaning c g i quiet quiet_fractional e w.0 (inside s m) (inside_state c s m q))

  drawn_have : (c : Context) → IsSettingOf c g → (s : State) → IsStateOf g.types c s → (d : Term) → IsTyped c d → (m : Memory) →
      Every (λ v. has g.types (outcome_type (type_of d)) v ≡ true) (distribution g d (inside s m))
  drawn_have c i s q d w m = weights_have g.types (type_of d) (val g quiet d (inside s m)) (typed_meaning c g i quiet quiet_fractional d w (inside s m) (inside_state c s m q))

  arguments_have : (c : Context) → IsSettingOf c g → (s : State) → IsStateOf g.types c s → (es : List Term) (ps : List TypedName) → AreArguments c es ps → (m : Memory) →
      AreValuesOf g.types ps (map (λ e. valued g s e m) es)
  arguments_have c i s q [] [] w m = tt
  arguments_have c i s q [] (p ∷ ps) w m = absurd w
  arguments_have c i s q (e ∷ es) [] w m = absurd w
  arguments_have c i s q (e ∷ es) (p ∷ ps) w m =
      (subst (λ z. has g.types z (valued g s e m) ≡ true) w.0.1 (valued_has c i s q e w.0.0 m), arguments_have c i s q es ps w.1 m)

  turns_hold : (P : Memory → Type 0) (guard : Memory → Bool) (body : Memory → WeightedList Memory) (k : ℕ) → ((m : Memory) → P m → Every P (body m)) →
      (n : ℕ) (m : Memory) → P m → Every P (turns guard body k n m)
  turns_hold P guard body k h zero m p = (p, tt)
  turns_hold P guard body k h (suc n) m p = cases_of (Every P) (guard m) _ _
      (Every-bind P P (body m) (turns guard body k n) (h m p) (λ q r. turns_hold P guard body k h n q r)) (p, tt)

  mutual
    pub run_holds : (c : Context) → IsSettingOf c g → (s : State) → IsStateOf g.types c s → (ls : List TypedName) (p : Program) → IsTypedProgram c ls p →
        (m : Memory) → Holds g.types c ls m → Every (Holds g.types c ls) (out g s p m)
    run_holds c i s q ls done w m h = (h, tt)
    run_holds c i s q ls (assign xs e p) w m h =
        run_holds c i s q ls p w.2 _ (all_written g.types c ls m xs (type_of e) (valued g s e m) w.1 (valued_has c i s q e w.0 m) h)
    run_holds c i s q ls (sample x d p) w m h =
        Every-bind (Holds g.types c ls) (Holds g.types c ls) _ (λ n. out g s p n)
        (Every-dmap {P = λ v. has g.types (outcome_type (type_of d)) v ≡ true} (Holds g.types c ls) (write g.types m x) (distribution g d (inside s m))
        (λ v k. written g.types c ls m x (outcome_type (type_of d)) v w.1 k h) (drawn_have c i s q d w.0.0 m))
        (λ n k. run_holds c i s q ls p w.2 n k)
    run_holds c i s q ls (branch e a b p) w m h =
        Every-bind (Holds g.types c ls) (Holds g.types c ls) _ (λ n. out g s p n)
        (cases_of (Every (Holds g.types c ls)) (is_true g s e m) _ _
        (Every-scale (Holds g.types c ls) (run_denominator g b) (out g s a m) (run_holds c i s q ls a w.1 m h))
        (Every-scale (Holds g.types c ls) (run_denominator g a) (out g s b m) (run_holds c i s q ls b w.2 m h)))
        (λ n k. run_holds c i s q ls p w.3 n k)
    run_holds c i s q ls (loop e v a p) w m h =
        Every-bind (Holds g.types c ls) (Holds g.types c ls) _ (λ n. out g s p n)
        (Every-scale (Holds g.types c ls) (run_denominator g a ^ (most_turns v - turns_at g s v m)) _
        (turns_hold (Holds g.types c ls) (is_true g s e) (λ n. out g s a n) (run_denominator g a) (λ n k. run_holds c i s q ls a w.2 n k) (turns_at g s v m) m h))
        (λ n k. run_holds c i s q ls p w.3 n k)
    run_holds c i s q ls (call xs r es p) w m h =
        Every-bind (Holds g.types c ls) (Holds g.types c ls) _ (λ n. out g s p n)
        (Every-dmap {P = IsOutcome g.types c r} (Holds g.types c ls) (returned g xs m) (outcomes g r (map (λ e. valued g s e m) es) m.globals)
        (λ n k. all_written g.types c ls (record { globals = n.globals; frame = m.frame }) xs (result_type r) (result_in n) w.2 k.1 (k.0, h.1))
        (routine_holds c i r w.0 (map (λ e. valued g s e m) es) (arguments_have c i s q es (params_of r) w.1 m) m.globals h.0))
        (λ n k. run_holds c i s q ls p w.3 n k)
    run_holds c i s q ls (ask xs o es p) w m h = absurd w

    pub routine_holds : (c : Context) → IsSettingOf c g → (r : Routine) → IsTypedRoutine c r → (vs : List Value) → AreValuesOf g.types (params_of r) vs →
        (globals : Map) → HoldsGlobals g.types c globals → Every (IsOutcome g.types c r) (outcomes g r vs globals)
    routine_holds c i (routine ps ls p r) w vs h globals k =
        Every-dmap {P = Holds g.types (closed_in c) (ps ++ ls)} (IsOutcome g.types c (routine ps ls p r)) _ (out g closed p _)
        (λ n l. (
          l.0,
          subst (λ z. has g.types (type_of r) (value_or z (Many [])) ≡ true) (sym (get-set_same empty (result_name ∷ []) (valued g closed r n)))
              (valued_has (closed_in c) (closed_setting c i) closed (closed_state c) r w.3 n),
        ))
        (run_holds (closed_in c) (closed_setting c i) closed (closed_state c) (ps ++ ls) p w.2 _
        (k, arguments_held g.types ps ls vs _ h (firsts_held g.types i.inhabited ls w.1)))
