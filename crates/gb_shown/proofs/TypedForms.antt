-- Typed forms in which names are names can be written in the language.
use Rattle.std.proofs.Common.{◌≡◌, ℕ, zero, suc, ◌<◌, Bool, true, false, if◌then◌else◌, ◌&&◌, List, [], ◌∷◌, ◌++◌, map, get_or, Option, Some, None, refl, ap, ap₂, ◌∙◌}
use Rattle.std.specs.List.{list_all, slice_get}
use Rattle.gb_core.specs.declared.ty.Ty.{Ty}
use Rattle.gb_core.specs.declared.var.Var.TheVariants as var
use Rattle.gb_terms.specs.declared.op.Read.{Read}
use Rattle.gb_terms.specs.declared.op.Read.TheVariants.{Logical, Program}
use Rattle.gb_terms.specs.declared.op.Side.{Side}
use Rattle.gb_terms.specs.declared.op.Side.TheVariants as side
use Rattle.gb_terms.specs.declared.module.ProcRef.{ProcRef}
use Rattle.gb_terms.specs.declared.term.Term.{Term, out-Term}
use Rattle.gb_terms.specs.declared.term.Head.{Head}
use Rattle.gb_terms.specs.declared.term.Head.TheVariants as head
use Rattle.gb_terms.specs.Heads.{is_judgment}
use Rattle.gb_meaning.specs.Names.{Name}
use Rattle.gb_meaning.specs.Written.{type_of}
use Rattle.gb_laws.specs.Typing.{OperatorType, Binder, IsBoundAt, IsMemory, IsSide, IsRead, IsHead, bound_by}
use Rattle.gb_laws.specs.Typing.Binder.{program}
use Rattle.gb_laws.specs.Typing as typed
use Rattle.gb_print_names.specs.declared.bound_names.Known.{Known}
use Rattle.gb_print_names.specs.BoundNames.{Place}
use Rattle.gb_print_names.specs.Names.{shown_name, typed_name}
use Rattle.gb_print_names.specs.Occurring.{inside, judgment_locals}
use Rattle.gb_print.specs.Written.{is_word, is_name_text, is_path, is_path_there, is_name_there, is_side_here, is_read_here, is_memory_here, below, IsWrittenProcedure, IsWrittenHead, IsWritten, AreWritten}
use Rattle.gb_print.specs.Written as w
use Rattle.gb_print.proofs.LeavesShown.{one_word, all_bytes}
use Rattle.gb_print.proofs.NamesMade.{bound_is_name}
use Rattle.gb_print.proofs.Tokens.{both}
use Rattle.gb_shown.specs.Spelt.{is_spelt_read, is_named_side, IsSpeltHead, IsSpelt, AreSpelt}
use Rattle.gb_shown.specs.Spelt as s
use Rattle.gb_shown.proofs.Headed.{among, Headed, headed, AllHeaded, no_term, last_term, next_term}
use Rattle.gb_shown.proofs.Operators.{operands}

-- a name is a path of one word
pub name_path : (x : Name) → is_name_text x ≡ true → is_path x ≡ true
name_path x h = ap (list_all is_name_text) (one_word x (all_bytes x (both (is_word x) _ h).0)) ∙ ap (λ b. b && true) h

-- what is bound is printed under names
pub data AreShown : List Binder → List Known → Type 0 where
  none_shown : {ks : List Known} → AreShown [] ks
  one_shown : {b : Binder} {bs : List Binder} {k : Known} {ks : List Known} → is_name_text k.shown ≡ true → AreShown bs ks → AreShown (b ∷ bs) (k ∷ ks)

-- A place has names for these logical variables, for so many memories, and for what is bound.
pub record Agrees (L : ℕ → Option Ty) (m : ℕ) (bs : List Binder) (at : Place) : Type 0 where
  pub logical : (i : ℕ) (t : Ty) → L i ≡ Some t → is_path_there (typed_name (slice_get at.logical i)) ≡ true
  pub memories : (i : ℕ) → i < m → is_name_there (slice_get at.memories i) ≡ true
  pub bound : AreShown bs at.bound

bound_read : (bs : List Binder) (ks : List Known) → AreShown bs ks → (i : ℕ) (t : Ty) → IsBoundAt (get_or bs i program) t → is_path_there (shown_name (slice_get ks i)) ≡ true
bound_read [] ks none_shown zero t h = absurd h
bound_read [] ks none_shown (suc i) t h = absurd h
bound_read (b ∷ bs) [] x i t h = elim x [ ]
bound_read (b ∷ bs) (k ∷ ks) (one_shown n s) zero t h = name_path k.shown n
bound_read (b ∷ bs) (k ∷ ks) (one_shown n s) (suc i) t h = bound_read bs ks s i t h

bound_memory : (bs : List Binder) (ks : List Known) → AreShown bs ks → (i : ℕ) → IsMemory (get_or bs i program) → is_name_there (shown_name (slice_get ks i)) ≡ true
bound_memory [] ks none_shown zero h = absurd h
bound_memory [] ks none_shown (suc i) h = absurd h
bound_memory (b ∷ bs) [] x i h = elim x [ ]
bound_memory (b ∷ bs) (k ∷ ks) (one_shown n s) zero h = n
bound_memory (b ∷ bs) (k ∷ ks) (one_shown n s) (suc i) h = bound_memory bs ks s i h

module _ {L : ℕ → Option Ty} {m : ℕ} {bs : List Binder} where
  taken_by : {at : Place} (b : Bool) (ns : List Name) → Agrees L m bs at → Agrees L m bs (if b then record at { taken = ns } else at)
  taken_by true ns a = record { logical = a.logical; memories = a.memories; bound = a.bound }
  taken_by false ns a = a

  pub agrees_inside : {at : Place} (h : Head) (ts : List Term) → Agrees L m bs at → Agrees L m bs (inside h ts at)
  agrees_inside {at = at} h ts a = taken_by (is_judgment h) (judgment_locals h ts at.taken) a

  more_bound : {b : Binder} {at : Place} (k : Known) → is_name_text k.shown ≡ true → Agrees L m bs at → Agrees L m (b ∷ bs) (record at { bound = k ∷ at.bound })
  more_bound k n a = record { logical = a.logical; memories = a.memories; bound = one_shown n a.bound }

  pub agrees_below : {at : Place} (k : typed.Context) (h : Head) (us : List Ty) (t : Ty) → IsHead k h us t → Agrees L m bs at → Agrees L m (bound_by h us ++ bs) (below h at)
  agrees_below {at} k (head.All u) us t w a = more_bound _ (bound_is_name (head.All u) at) a
  agrees_below {at} k (head.Some u) us t w a = more_bound _ (bound_is_name (head.Some u) at) a
  agrees_below {at} k head.AllMemory us t w a = more_bound _ (bound_is_name head.AllMemory at) a
  agrees_below {at} k head.SomeMemory us t w a = more_bound _ (bound_is_name head.SomeMemory at) a
  agrees_below {at} k (head.AllModule b) us t w a = more_bound _ (bound_is_name (head.AllModule b) at) a
  agrees_below {at} k (head.Sum q) us t w a = more_bound _ (bound_is_name (head.Sum q) at) a
  agrees_below {at} k head.Mu [] t w a = absurd w
  agrees_below {at} k head.Mu (d ∷ us) t w a = more_bound _ (bound_is_name head.Mu at) a
  agrees_below {at} k head.Map [] t w a = absurd w
  agrees_below {at} k head.Map (d ∷ us) t w a = more_bound _ (bound_is_name head.Map at) a
  agrees_below {at} k head.Restrict [] t w a = absurd w
  agrees_below {at} k head.Restrict (d ∷ us) t w a = more_bound _ (bound_is_name head.Restrict at) a
  agrees_below {at} k _ us t w a = a

  module _ (g : Name → Name → Option Ty) (o : Name → Option OperatorType) (p : ProcRef → Option (List Ty)) where
    side_here : {at : Place} → Agrees L m bs at → (r : Side) → IsSide (among L m bs g o p) r → is_side_here at r ≡ true
    side_here a side.Own h = refl
    side_here a side.Left h = refl
    side_here a side.Right h = refl
    side_here a (side.Memory i) h = a.memories i h
    side_here {at} a (side.Bound i) h = bound_memory bs at.bound a.bound i h

    memory_here : {at : Place} → Agrees L m bs at → (r : Side) → is_named_side r ≡ true → IsSide (among L m bs g o p) r → is_memory_here at r ≡ true
    memory_here a (side.Memory i) n h = a.memories i h
    memory_here {at} a (side.Bound i) n h = bound_memory bs at.bound a.bound i h
    memory_here a side.Own n h = n
    memory_here a side.Left n h = n
    memory_here a side.Right n h = n

    read_here : {at : Place} → Agrees L m bs at → (r : Read) (t : Ty) → is_spelt_read at r ≡ true → IsRead (among L m bs g o p) r t → is_read_here at r ≡ true
    read_here a (Logical i) t n h = a.logical i t h.1
    read_here a (Program (var.Global y x) r) t n h = ap₂ (λ b c. b && c) n (side_here a r h.0)
    read_here a (Program (var.Local x) r) t n h = ap₂ (λ b c. b && c) n (side_here a r h.0)
    read_here a (Program (var.Glob y) r) t n h = ap₂ (λ b c. b && c) n (side_here a r h.0)

    head_written : {stage : ℕ} {at : Place} → Agrees L m bs at → {cs : List Binder} {h : Head} (ts : List Term) {ty : Ty} → IsSpeltHead stage at h ts ty → IsHead (among L m bs g o p) h (map type_of ts) ty → AllHeaded L m bs cs ts
        → IsWrittenHead stage at h ts ty
    head_written a [] (s.literal e) h k = w.literal e
    head_written a (t ∷ ts) (s.literal e) h k = absurd h
    head_written a [] (s.weights e) h k = w.weights e
    head_written a (t ∷ ts) (s.weights e) h k = absurd h
    head_written a [] (s.whole_number e) h k = w.whole_number e
    head_written a (t ∷ ts) (s.whole_number e) h k = absurd h
    head_written a [] (s.variable {r = r} e) h k = w.variable (read_here a r _ e h)
    head_written a (t ∷ ts) (s.variable e) h k = absurd h
    head_written {at = at} a [] (s.bound {i = i}) h k = w.bound (bound_read bs at.bound a.bound i _ h)
    head_written a (t ∷ ts) s.bound h k = absurd h
    head_written a ts (s.operator {o = x} e) h k = w.operator (operands x ts _ e h k)
    head_written a [] (s.uniform d) h k = w.uniform d
    head_written a (t ∷ ts) (s.uniform d) h k = absurd h
    head_written a ts (s.user e) h k = w.user e
    head_written a (t ∷ []) (s.all_values d) h k = w.all_values d
    head_written a [] (s.all_values d) h k = absurd h
    head_written a (t ∷ u ∷ ts) (s.all_values d) h k = absurd h
    head_written a (t ∷ []) (s.some_value d) h k = w.some_value d
    head_written a [] (s.some_value d) h k = absurd h
    head_written a (t ∷ u ∷ ts) (s.some_value d) h k = absurd h
    head_written a (t ∷ []) s.all_memories h k = w.all_memories
    head_written a [] s.all_memories h k = absurd h
    head_written a (t ∷ u ∷ ts) s.all_memories h k = absurd h
    head_written a (t ∷ []) s.some_memory h k = w.some_memory
    head_written a [] s.some_memory h k = absurd h
    head_written a (t ∷ u ∷ ts) s.some_memory h k = absurd h
    head_written a (t ∷ []) (s.all_modules e) h k = w.all_modules e
    head_written a [] (s.all_modules e) h k = absurd h
    head_written a (t ∷ u ∷ ts) (s.all_modules e) h k = absurd h
    head_written a (t ∷ u ∷ []) s.measure h k = w.measure
    head_written a [] s.measure h k = absurd h
    head_written a (t ∷ []) s.measure h k = absurd h
    head_written a (t ∷ u ∷ v ∷ ts) s.measure h k = absurd h
    head_written a (t ∷ u ∷ []) s.image h k = w.image
    head_written a [] s.image h k = absurd h
    head_written a (t ∷ []) s.image h k = absurd h
    head_written a (t ∷ u ∷ v ∷ ts) s.image h k = absurd h
    head_written a (t ∷ u ∷ []) s.restriction h k = w.restriction
    head_written a [] s.restriction h k = absurd h
    head_written a (t ∷ []) s.restriction h k = absurd h
    head_written a (t ∷ u ∷ v ∷ ts) s.restriction h k = absurd h
    head_written a (t ∷ []) (s.sum r d) h k = w.sum r d
    head_written a (t ∷ u ∷ ts) (s.sum r d) h k = absurd h
    head_written a [] (s.module_values {s = r} d) h k = w.module_values d (side_here a r h.0)
    head_written a (t ∷ ts) (s.module_values d) h k = absurd h
    head_written a ts (s.probability {p = q} {s = r} d n) h k = probability_written ts (p q) h.0 d (memory_here a r n h.1)
      where
        probability_written : {stage : ℕ} {at : Place} {q : ProcRef} {r : Side} (ts : List Term) {ty : Ty} (ps : Option (List Ty)) → typed.IsProbability ps (map type_of ts) → IsWrittenProcedure at.bound q → is_memory_here at r ≡ true → IsWrittenHead stage at (head.Pr q r) ts ty
        probability_written (t ∷ ts) ps h d n = w.probability d n
        probability_written [] None h d n = absurd h
        probability_written [] (Some []) h d n = absurd cc
        probability_written [] (Some (u ∷ us)) h d n = absurd cc
    head_written a (t ∷ u ∷ []) (s.one_procedure d) h k = w.one_program (w.procedure d)
    head_written a [] (s.one_procedure d) h k = absurd h
    head_written a (t ∷ []) (s.one_procedure d) h k = absurd h
    head_written a (t ∷ u ∷ v ∷ ts) (s.one_procedure d) h k = absurd h
    head_written a (t ∷ u ∷ v ∷ []) (s.with_bound d) h k = w.with_bound (w.procedure d)
    head_written a [] (s.with_bound d) h k = absurd h
    head_written a (t ∷ []) (s.with_bound d) h k = absurd h
    head_written a (t ∷ u ∷ []) (s.with_bound d) h k = absurd h
    head_written a (t ∷ u ∷ v ∷ x ∷ ts) (s.with_bound d) h k = absurd h
    head_written a (t ∷ u ∷ []) (s.two_procedures d e) h k = w.two_programs (w.procedure d) (w.procedure e)
    head_written a [] (s.two_procedures d e) h k = absurd h
    head_written a (t ∷ []) (s.two_procedures d e) h k = absurd h
    head_written a (t ∷ u ∷ v ∷ ts) (s.two_procedures d e) h k = absurd h

mutual
  pub form_written : {L : ℕ → Option Ty} {m : ℕ} {bs : List Binder} {stage : ℕ} {at : Place} {t : Term} → Agrees L m bs at → Headed L m bs t → IsSpelt stage at t → IsWritten stage at t
  form_written {t = t} a (headed g o p k ks) (s.spelt h type ts) =
      let here = agrees_inside (out-Term t).head (out-Term t).args a in
      w.written (head_written g o p here (out-Term t).args h k ks) type (parts_written here (agrees_below _ (out-Term t).head (map type_of (out-Term t).args) (out-Term t).ty k here) ks ts)

  pub parts_written : {L : ℕ → Option Ty} {m : ℕ} {bs cs : List Binder} {stage : ℕ} {at : Place} {h : Head} {ts : List Term} → Agrees L m bs at → Agrees L m cs (below h at) → AllHeaded L m bs cs ts → AreSpelt stage at h ts
      → AreWritten stage at h ts
  parts_written a b no_term s.none = w.none
  parts_written a b (last_term k) (s.last d) = w.last (form_written b k d)
  parts_written a b (next_term k ks) (s.more d ds) = w.more (form_written a k d) (parts_written a b ks ds)
