-- Judgments of procedures that answer for an oracle.
use Rattle.std.proofs.Common.{◌≡◌, ◌≢◌, Bool, true, false, if◌then◌else◌, List, [], ◌∷◌, map, Some, None, bytes_eq, refl, ap, sym, ◌∙◌, subst}
use Rattle.std.proofs.lemmas.Bool.{false≢true, and_parts}
use Rattle.std.proofs.lemmas.Option.{none-some}
use Rattle.std.proofs.lemmas.Slice.Eq.{bytes_eq-Decides}
use Rattle.gb_core.specs.declared.ty.Ty.{Ty}
use Rattle.gb_core.specs.declared.value.Value.{Value}
use Rattle.gb_core.specs.declared.value.Value.TheVariants.{Many}
use Rattle.gb_core.specs.SameTypes.{ty_eq}
use Rattle.gb_core.proofs.SameTypes.{ty_eq-Decides}
use Rattle.gb_terms.specs.declared.decl.TypedName.{TypedName}
use Rattle.gb_dist.specs.Coupling.{Coupling}
use Rattle.gb_dist.specs.WeightedList.{Every}
use Rattle.gb_dist.proofs.Basic.{coupling_weakening}
use Rattle.gb_dist.proofs.Entries.{Every-dmap, On_of_Every}
use Rattle.gb_dist.proofs.Facts.{coupling_facts}
use Rattle.gb_meaning.specs.Judgments.{from_frame}
use Rattle.gb_meaning.specs.Memory.{Memory, arguments, outcome, read_local, result_in, result_name, value_or}
use Rattle.gb_meaning.specs.Names.{Name, Path, Map, empty, get, set}
use Rattle.gb_meaning.specs.Program.{Routine}
use Rattle.gb_meaning.specs.Program.Routine.{routine}
use Rattle.gb_meaning.specs.Runs.{out, outcomes, parameter_values, routine_denominator, valued}
use Rattle.gb_meaning.specs.Setting.{Setting}
use Rattle.gb_meaning.specs.State.{closed}
use Rattle.gb_meaning.specs.Values.{Global, Types, fit, has}
use Rattle.gb_meaning.specs.Sound.{IsSoundRoutine}
use Rattle.gb_meaning.specs.Written.{local_type, params_of}
use Rattle.gb_meaning.proofs.Maps.{get-set_other, get-set_same}
use Rattle.gb_meaning.proofs.Numberings.{fit_has}
use Rattle.gb_meaning.proofs.Runs.{routine_entries, routine_positive}
use Rattle.gb_laws.specs.Programs.{AreValuesOf}
use Rattle.gb_laws.proofs.Fair.{memory_discrete}
use Rattle.gb_meaning.specs.Declared.{Signature}
use Rattle.gb_typing.specs.Modules.{same_params}
use Rattle.gb_typing.specs.Scopes.{HaveOwnNames}
use Rattle.gb_prog.specs.Calls.{called_from}
use Rattle.gb_prog.proofs.Calls.{called_outcomes}
use Rattle.gb_prog.proofs.Turns.{every_both}
use Rattle.gb_prog.specs.Coupled.{SameResult, AreCoupled}
use Rattle.gb_prog.specs.OracleJudged.{IsFor, HasOwnNames, AreJudgedAlike, IsJudgedToKeep, AreJudgedUntil}
use Rattle.gb_prog.specs.KeptProperty.{Keeps}
use Rattle.gb_prog.proofs.Answering.{every_any}
use Rattle.gb_prog.specs.Until.{AreCoupledUntil, Until}

-- the frame of an outcome is its result
abbrev pub IsFramed : Memory → Type 0
IsFramed a = a.frame ≡ set empty (result_name ∷ []) (result_in a)

pub framed : (g : Setting) (r : Routine) (vs : List Value) (G : Map) → Every IsFramed (outcomes g r vs G)
framed g (routine ps ls c r) vs G =
    Every-dmap {P = λ n. Unit {0}} IsFramed (λ n. outcome n.globals (valued g closed r n)) (out g closed c _)
    (λ n u. ap (set empty (result_name ∷ [])) (sym (result_held (valued g closed r n)))) (every_any (out g closed c _))
  where
    result_held : (v : Value) → value_or (get (set empty (result_name ∷ []) v) (result_name ∷ [])) (Many []) ≡ v
    result_held v = ap (λ z. value_or z (Many [])) (get-set_same empty (result_name ∷ []) v)

-- what is read of a result of its type
pub read_result : (t : Types) (u : Ty) (a : Memory) → IsFramed a → has t u (result_in a) ≡ true → read_local t a result_name u ≡ result_in a
read_result t u a e h =
    ap (λ f. fit t u (get f (result_name ∷ []))) e ∙ ap (fit t u) (get-set_same empty (result_name ∷ []) (result_in a)) ∙ fit_has t u (result_in a) h

-- Parameters of the same types take the same values.
types_same : (t : Types) (ps qs : List TypedName) → same_params ps qs ≡ true → (vs : List Value) → AreValuesOf t qs vs → AreValuesOf t ps vs
types_same t [] [] e vs h = h
types_same t [] (q ∷ qs) e vs h = absurd (false≢true e)
types_same t (p ∷ ps) [] e vs h = absurd (false≢true e)
types_same t (p ∷ ps) (q ∷ qs) e [] h = absurd h
types_same t (p ∷ ps) (q ∷ qs) e (v ∷ vs) h =
    let k = and_parts (ty_eq p.ty q.ty) (same_params ps qs) e in
    (subst (λ u. has t u v ≡ true) (sym ((ty_eq-Decides p.ty q.ty).0 k.0)) h.0, types_same t ps qs k.1 vs h.1)

-- Where parameters have names of their own, the frame of a call gives back the arguments.
module _ (t : Types) where
  abbrev read_in : Map → List TypedName → List Value
  read_in M ps = map (λ (x : TypedName). fit t x.ty (get M (x.name ∷ []))) ps

  other_name : (n k : Name) → bytes_eq n k ≡ false → (k ∷ []) ≢ (n ∷ [])
  other_name n k e f = false≢true (sym e ∙ (bytes_eq-Decides n k).1 (sym (first_same f)))
    where
      first_of : Path → Name
      first_of [] = []
      first_of (x ∷ xs) = x

      first_same : (k ∷ []) ≡ (n ∷ []) → k ≡ n
      first_same f = ap first_of f

  beside : (n : Name) (v : Value) (M : Map) (ps : List TypedName) → local_type ps n ≡ None → read_in (set M (n ∷ []) v) ps ≡ read_in M ps
  beside n v M [] e = refl
  beside n v M (p ∷ ps) e = step (bytes_eq n p.name) refl e (beside n v M ps)
    where
      step : (b : Bool) → bytes_eq n p.name ≡ b → (if b then Some p.ty else local_type ps n) ≡ None →
          (local_type ps n ≡ None → read_in (set M (n ∷ []) v) ps ≡ read_in M ps) → read_in (set M (n ∷ []) v) (p ∷ ps) ≡ read_in M (p ∷ ps)
      step true f h go = absurd (none-some p.ty (sym h))
      step false f h go = λ i. fit t p.ty (get-set_other M (n ∷ []) v (p.name ∷ []) (other_name n p.name f) i) ∷ go h i

  arguments_read : (ps : List TypedName) (vs : List Value) → HaveOwnNames ps → AreValuesOf t ps vs → read_in (arguments empty ps vs) ps ≡ vs
  arguments_read [] [] h w = refl
  arguments_read [] (v ∷ vs) h w = absurd w
  arguments_read (p ∷ ps) [] h w = absurd w
  arguments_read (p ∷ ps) (v ∷ vs) h w = λ i.
      (ap (fit t p.ty) (get-set_same (arguments empty ps vs) (p.name ∷ []) v) ∙ fit_has t p.ty v w.0) i
      ∷ (beside p.name v (arguments empty ps vs) ps h.0 ∙ arguments_read ps vs h.1 w.1) i

called_with : (g : Setting) (r : Routine) (vs : List Value) (G : Map) → HaveOwnNames (params_of r) → AreValuesOf g.types (params_of r) vs → parameter_values g r (called_from r vs G) ≡ vs
called_with g (routine ps ls c e) vs G h w = arguments_read g.types ps vs h w

module _ (g : Setting) (s : Signature) where
  -- an outcome with a result of the signature's type
  abbrev HasResult : Memory → Type 0
  HasResult a = IsFramed a × (has g.types s.result (result_in a) ≡ true)

  results : (r : Routine) → IsFor g s r → (vs : List Value) (G : Map) → Every HasResult (outcomes g r vs G)
  results r w vs G =
      every_both IsFramed (λ a. has g.types s.result (result_in a) ≡ true) (outcomes g r vs G) (framed g r vs G)
      (subst (λ u. Every (λ a. has g.types u (result_in a) ≡ true) (outcomes g r vs G)) w.result (let z = w.typed in z.results vs G))

  same_frames : (a b : Memory) → HasResult a → HasResult b → read_local g.types a result_name s.result ≡ read_local g.types b result_name s.result → a.frame ≡ b.frame
  same_frames a b h k e =
      h.0 ∙ ap (set empty (result_name ∷ [])) (sym (read_result g.types s.result a h.0 h.1) ∙ e ∙ read_result g.types s.result b k.0 k.1) ∙ sym k.0

  valued_by : (r : Routine) → IsFor g s r → (vs : List Value) → AreValuesOf g.types s.params vs → AreValuesOf g.types (params_of r) vs
  valued_by r w vs h = let z = w.typed in let e : params_of r ≡ (let y = w.type in y.params) = z.params in subst (λ ps. AreValuesOf g.types ps vs) (sym e) (types_same g.types (let y = w.type in y.params) s.params w.params vs h)

  held : (r : Routine) → IsFor g s r → HasOwnNames r → (vs : List Value) → AreValuesOf g.types s.params vs → (G : Map) → parameter_values g r (called_from r vs G) ≡ vs
  held r w n vs h G = called_with g r vs G n (valued_by r w vs h)

  draws : (r : Routine) → IsFor g s r → IsSoundRoutine g r
  draws r w = let z = w.typed in z.sound

  pub judged_coupled : (gs : List Global) (R : Map → Map → Bool) (r q : Routine) → IsFor g s r → IsFor g s q → HasOwnNames r → HasOwnNames q → AreJudgedAlike g R s.result r q → AreCoupled g gs R s r q
  judged_coupled gs R r q w k l n judged vs h G H own related =
      coupling_weakening {Q = λ a b. J a b × HasResult a × HasResult b} {R = SameResult R} (λ a b z. (same_frames a b z.1 z.2 z.0.0, z.0.1))
      (coupling_facts memory_discrete memory_discrete {Q = J} {l1 = outcomes g r vs G} {k1 = routine_denominator g r} {l2 = outcomes g q vs H} {k2 = routine_denominator g q}
      HasResult HasResult (routine_positive g r (draws r w)) (routine_positive g q (draws q k))
      (On_of_Every HasResult (outcomes g r vs G) (routine_entries g r (draws r w) vs G) (results r w vs G))
      (On_of_Every HasResult (outcomes g q vs H) (routine_entries g q (draws q k) vs H) (results q k vs H))
      start)
    where
      J : Memory → Memory → Type 0
      J a b = (read_local g.types a result_name s.result ≡ read_local g.types b result_name s.result) × (R a.globals b.globals ≡ true)

      left : from_frame g (Some r) (called_from r vs G) ≡ outcomes g r vs G
      left = called_outcomes g r vs (valued_by r w vs h) G

      right : from_frame g (Some q) (called_from q vs H) ≡ outcomes g q vs H
      right = called_outcomes g q vs (valued_by q k vs h) H

      start : Coupling J (outcomes g r vs G) (routine_denominator g r) (outcomes g q vs H) (routine_denominator g q)
      start = subst (λ z. z) (λ i. Coupling J (left i) (routine_denominator g r) (right i) (routine_denominator g q))
          (judged (called_from r vs G) (called_from q vs H) (held r w l vs h G ∙ sym (held q k n vs h H)) related)

  pub judged_until : (gs : List Global) (B : Map → Bool) (R : Map → Map → Bool) (r q : Routine) → IsFor g s r → IsFor g s q → HasOwnNames r → HasOwnNames q → AreJudgedUntil g B R s.result r q → AreCoupledUntil g gs B R s r q
  judged_until gs B R r q w k l n judged vs h G H own event related =
      coupling_weakening {Q = λ a b. Until B J a b × HasResult a × HasResult b} {R = Until B (SameResult R)} (λ a b z e. let y = z.0 e in (same_frames a b z.1 z.2 y.0, y.1))
      (coupling_facts memory_discrete memory_discrete {Q = Until B J} {l1 = outcomes g r vs G} {k1 = routine_denominator g r} {l2 = outcomes g q vs H} {k2 = routine_denominator g q}
      HasResult HasResult (routine_positive g r (draws r w)) (routine_positive g q (draws q k))
      (On_of_Every HasResult (outcomes g r vs G) (routine_entries g r (draws r w) vs G) (results r w vs G))
      (On_of_Every HasResult (outcomes g q vs H) (routine_entries g q (draws q k) vs H) (results q k vs H))
      start)
    where
      J : Memory → Memory → Type 0
      J a b = (read_local g.types a result_name s.result ≡ read_local g.types b result_name s.result) × (R a.globals b.globals ≡ true)

      left : from_frame g (Some r) (called_from r vs G) ≡ outcomes g r vs G
      left = called_outcomes g r vs (valued_by r w vs h) G

      right : from_frame g (Some q) (called_from q vs H) ≡ outcomes g q vs H
      right = called_outcomes g q vs (valued_by q k vs h) H

      start : Coupling (Until B J) (outcomes g r vs G) (routine_denominator g r) (outcomes g q vs H) (routine_denominator g q)
      start = subst (λ z. z) (λ i. Coupling (Until B J) (left i) (routine_denominator g r) (right i) (routine_denominator g q))
          (judged (called_from r vs G) (called_from q vs H) (held r w l vs h G ∙ sym (held q k n vs h H)) event related)

  pub judged_kept : (I : Map → Bool) (r : Routine) → IsFor g s r → IsJudgedToKeep g I r → Keeps g I s r
  judged_kept I r w judged vs h G i =
      subst (Every (λ a. I a.globals ≡ true)) (called_outcomes g r vs (valued_by r w vs h) G) (judged (called_from r vs G) i)
