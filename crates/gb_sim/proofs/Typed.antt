-- The variables that statements need stand in the memories of both sides.
use Rattle.std.proofs.Common.{◌≡◌, ℕ, zero, suc, Bool, true, false, ◌||◌, not, if◌then◌else◌, List, [], ◌∷◌, ◌++◌, Option, Some, None, refl, subst, get_or}
use Rattle.std.proofs.lemmas.Bool.{false≢true}
use Rattle.std.proofs.lemmas.Option.{same_Some}
use Rattle.std.specs.List.{AllByRecursion}
use Rattle.gb_core.specs.declared.ty.Ty.{Ty}
use Rattle.gb_core.specs.declared.var.Var.{Var}
use Rattle.gb_core.specs.declared.var.Var.TheVariants as var
use Rattle.gb_terms.specs.declared.decl.Proc.{Proc}
use Rattle.gb_terms.specs.declared.decl.TypedName.{TypedName}
use Rattle.gb_terms.specs.declared.module.ProcRef.{ProcRef}
use Rattle.gb_terms.specs.declared.op.Read.TheVariants.{Program}
use Rattle.gb_terms.specs.declared.op.Side.{Side}
use Rattle.gb_terms.specs.declared.op.Side.TheVariants as side
use Rattle.gb_terms.specs.declared.term.Head.{Head}
use Rattle.gb_terms.specs.declared.term.Head.TheVariants as head
use Rattle.gb_terms.specs.declared.term.Head.TheVariants.{Assign, Sample, Call', If', While'}
use Rattle.gb_terms.specs.declared.term.Instr.{Instr, Row_of-Instr, end_of-Instr, more_of-Instr}
use Rattle.gb_terms.specs.declared.term.Term.{Term, Term', Row_of-Term, end_of-Term, more_of-Term, end_of-Head, more_of-Head}
use Rattle.gb_walk.specs.Clash.{Exclusions, comes_before}
use Rattle.gb_meaning.specs.Commands.{terms_in}
use Rattle.gb_meaning.specs.Names.{Name}
use Rattle.gb_laws.specs.Plain.{IsPlain, AllPlain, HeadIsPlain}
use Rattle.gb_goal.specs.Scope.{Declarations, procedure_of}
use Rattle.gb_mods.specs.Called.{row_calls}
use Rattle.gb_mods.specs.Meant.{in_front, meant_by}
use Rattle.gb_mods.specs.declared.meant.Meant.{Meant}
use Rattle.gb_mods.specs.declared.meant.Meant.TheVariants.{Unknown, Declared, Any}
use Rattle.gb_prog.proofs.Meanings.{declared_there}
use Rattle.gb_full.specs.Loss.{may_lose}
use Rattle.gb_laws.specs.Typing.{Binder, IsRead, IsHead, types_of}
use Rattle.gb_laws.specs.Typing.Binder.{value, index}
use Rattle.gb_typing.specs.Context.{Context, erased, frame_of, of_program, procedure, within}
use Rattle.gb_typing.specs.Modules.{ProcedureType}
use Rattle.gb_typing.specs.Programs.{AreArguments, AreStatements, EachStatement, IsCall, IsExpression, IsProcedure, IsStatement, locals_of}
use Rattle.gb_typing.specs.Typing.{AreTyped, IsIn, IsNamed, IsTyped, first, middle, last}
use Rattle.gb_typing.proofs.Uses.{nothing_in}
use Rattle.gb_labels.specs.declared.reads.TypedVar.{TypedVar}
use Rattle.gb_labels.specs.Reads.{Vars}
use Rattle.gb_forms.specs.Ordered.{is_same, joined, placed}
use Rattle.gb_sim.specs.Need.{before, concern, is_among, need, row_need, statement_need, without, written_need}
use Rattle.gb_sim.specs.Reads.{body_reads, globals_among, head_reads, list_reads, reached_reads, reads_by, reads_itself, row_reads, statement_reads, term_reads, unless_local}
use Rattle.gb_sim.proofs.Slices.{are_reached, both_known, known, mapped}
use mathlib.Core.Former.{Count}

module _ (c : Context) where
  -- The variable may be read in a memory with these locals, at its type.
  abbrev pub IsReadable : List TypedName → TypedVar → Type 0
  IsReadable ls x = IsRead (erased c) (Program x.var side.Left) x.ty × IsIn c (Some ls) x.var x.ty

  abbrev pub AreReadable : List TypedName → Vars → Type 0
  AreReadable ls V = AllByRecursion (IsReadable ls) V

module _ (P : TypedVar → Type 0) where
  abbrev All : Vars → Type 0
  All V = AllByRecursion P V

  pub all_append : (V W : Vars) → All V → All W → All (V ++ W)
  all_append [] W h k = k
  all_append (x ∷ V) W h k = (h.0, all_append V W h.1 k)

  all_placed : (x : TypedVar) (V : Vars) → P x → All V → All (placed x V)
  all_placed x [] p h = (p, tt)
  all_placed x (y ∷ V) p h = by_tests (comes_before x.var y.var) (is_same x y) (all_placed x V p h.1)
    where
      by_tests : (b s : Bool) → All (placed x V) → All (if b then x ∷ y ∷ V else if s then y ∷ V else y ∷ placed x V)
      by_tests true s k = (p, h)
      by_tests false true k = h
      by_tests false false k = (h.0, k)

  pub all_joined : (W V : Vars) → All W → All V → All (joined W V)
  all_joined [] V h k = k
  all_joined (x ∷ W) V h k = all_placed x (joined W V) h.0 (all_joined W V h.1 k)

  all_without : (xs : List Var) (V : Vars) → All V → All (without xs V)
  all_without xs [] h = tt
  all_without xs (y ∷ V) h = by_test (is_among xs y) (all_without xs V h.1)
    where
      by_test : (b : Bool) → All (without xs V) → All (if not b then y ∷ without xs V else without xs V)
      by_test true k = k
      by_test false k = (h.0, k)

-- An expression of a program reads its own memory alone.
module _ (c : Context) (ls : List TypedName) where
  -- what may be read in this context stands in that memory
  Sees : Context → Type 0
  Sees d = (x : Var) (r : Side) (t : Ty) → IsIn d (frame_of d r) x t → IsIn c (Some ls) x t

  sees_within : (d : Context) (b : Binder) → Sees d → Sees (within d b None)
  unfolding Sees
  sees_within d b h x side.Own t i = h x side.Own t i
  sees_within d b h x side.Left t i = h x side.Left t i
  sees_within d b h x side.Right t i = h x side.Right t i
  sees_within d b h x (side.Memory k) t i = h x (side.Memory k) t i
  sees_within d b h x (side.Bound zero) t i = absurd (nothing_in (within d b None) x t i)
  sees_within d b h x (side.Bound (suc k)) t i = h x (side.Bound k) t i

  own_in : (x : Var) (t : Ty) → IsIn (of_program c ls) (Some ls) x t → IsIn c (Some ls) x t
  own_in (var.Global m x) t i = i
  own_in (var.Local x) t i = i
  own_in (var.Glob a) t i = absurd (false≢true i.1)

  nowhere : {A : Type 0} (k : ℕ) (P : Option A → Type 0) → P (get_or [] k None) → P None
  nowhere zero P h = h
  nowhere (suc k) P h = h

  sees_program : Sees (of_program c ls)
  unfolding Sees
  sees_program x side.Own t i = own_in x t i
  sees_program x side.Left t i = absurd (nothing_in (of_program c ls) x t i)
  sees_program x side.Right t i = absurd (nothing_in (of_program c ls) x t i)
  sees_program x (side.Memory k) t i = absurd (nothing_in (of_program c ls) x t (nowhere k (λ f. IsIn (of_program c ls) f x t) i))
  sees_program x (side.Bound k) t i = absurd (nothing_in (of_program c ls) x t (nowhere k (λ f. IsIn (of_program c ls) f x t) i))

  -- the parts of a head that is no judgment and binds no memory
  sees_first : (d : Context) (h : Head) → HeadIsPlain h → Sees d → Sees (first d h)
  sees_first d (head.Hoare s) p k = absurd p
  sees_first d (head.Phoare s r) p k = absurd p
  sees_first d (head.Equiv s u) p k = absurd p
  sees_first d _ p k = k

  sees_middle : (d : Context) (h : Head) → HeadIsPlain h → Sees d → Sees (middle d h)
  sees_middle d (head.Hoare s) p k = absurd p
  sees_middle d (head.Phoare s r) p k = absurd p
  sees_middle d (head.Equiv s u) p k = absurd p
  sees_middle d _ p k = k

  sees_last : (d : Context) (ks : List TypedName) (h : Head) (us : List Ty) (t : Ty) → HeadIsPlain h → IsNamed d h t → Sees d → Sees (last d ks h us)
  sees_last d ks (head.All u) us t p n k = sees_within d (value u) k
  sees_last d ks (head.Some u) us t p n k = sees_within d (value u) k
  sees_last d ks (head.Sum q) us t p n k = sees_within d (index q) k
  sees_last d ks head.Mu (u ∷ us) t p n k = sees_within d (value _) k
  sees_last d ks head.Mu [] t p n k = k
  sees_last d ks head.Map (u ∷ us) t p n k = sees_within d (value _) k
  sees_last d ks head.Map [] t p n k = k
  sees_last d ks head.Restrict (u ∷ us) t p n k = sees_within d (value _) k
  sees_last d ks head.Restrict [] t p n k = k
  sees_last d ks head.AllMemory us t p n k = absurd p
  sees_last d ks head.SomeMemory us t p n k = absurd p
  sees_last d ks (head.AllModule b) us t p n k = absurd n
  sees_last d ks (head.Pr f r) us t p n k = absurd p
  sees_last d ks (head.Hoare s) us t p n k = absurd p
  sees_last d ks (head.Phoare s r) us t p n k = absurd p
  sees_last d ks (head.Equiv s u) us t p n k = absurd p
  sees_last d ks (head.Lit v) us t p n k = k
  sees_last d ks (head.Whole v) us t p n k = k
  sees_last d ks (head.Read v) us t p n k = k
  sees_last d ks (head.Bound v) us t p n k = k
  sees_last d ks (head.Builtin v) us t p n k = k
  sees_last d ks (head.User v) us t p n k = k
  sees_last d ks (head.Weights v) us t p n k = k
  sees_last d ks (head.Glob m r) us t p n k = k

  -- what such an expression reads stands there, at its type
  read_left : (d : Context) (x : Var) (r : Side) (t : Ty) → IsRead (erased d) (Program x r) t → IsIn c (Some ls) x t → IsRead (erased c) (Program x side.Left) t
  read_left d (var.Global m x) r t k i = (tt, k.1, i.1)
  read_left d (var.Local x) r t k i = (tt, k.1)
  read_left d (var.Glob a) r t k i = (tt, i.2)

  head_readable : (d : Context) (h : Head) (us : List Ty) (t : Ty) → IsHead (erased d) h us t → IsNamed d h t → Sees d → AreReadable c ls (head_reads h t)
  unfolding Sees
  head_readable d (head.Read (Program x r)) [] t k n s = ((read_left d x r t k (s x r t n), s x r t n), tt)
  head_readable d (head.Read (Program x r)) (u ∷ us) t k n s = absurd k
  head_readable d _ us t k n s = tt

  mutual
    term_readable : (d : Context) (e : Term) → IsTyped d e → IsPlain e → Sees d → AreReadable c ls (term_reads e)
    term_readable d (Term' b (more_of-Head h end_of-Head) n ts t) w p s =
        all_append (IsReadable c ls) (head_reads h t) (row_reads ts) (head_readable d h (types_of ts) t w.0 w.1 s)
        (row_readable (first d h) (middle d h) (last d w.2 h (types_of ts)) ts w.3 p.1 (sees_first d h p.0 s) (sees_middle d h p.0 s) (sees_last d w.2 h (types_of ts) t p.0 w.1 s))

    row_readable : {n : Count} (a b d : Context) (ts : Row_of-Term n) → AreTyped a b d ts → AllPlain ts → Sees a → Sees b → Sees d → AreReadable c ls (row_reads ts)
    row_readable a b d end_of-Term w p s u v = tt
    row_readable a b d (more_of-Term t end_of-Term) w p s u v = all_append (IsReadable c ls) (term_reads t) [] (term_readable d t w p.0 v) tt
    row_readable a b d (more_of-Term t (more_of-Term z ts)) w p s u v =
        all_append (IsReadable c ls) (term_reads t) (row_reads (more_of-Term z ts)) (term_readable a t w.0 p.0 s) (row_readable b b d (more_of-Term z ts) w.1 p.1 u u v)

  expression_readable : (e : Term) → IsExpression c ls e → AreReadable c ls (term_reads e)
  expression_readable e w = term_readable (of_program c ls) e w.typed w.plain sees_program

  arguments_readable : {n : Count} (es : Row_of-Term n) (ps : List TypedName) → AreArguments c ls (terms_in es) ps → AreReadable c ls (row_reads es)
  arguments_readable end_of-Term ps w = tt
  arguments_readable (more_of-Term e es) [] w = absurd w
  arguments_readable (more_of-Term e es) (p ∷ ps) w =
      all_append (IsReadable c ls) (term_reads e) (row_reads es) (expression_readable e w.0.0.expression) (arguments_readable es ps w.1)

  call_readable : {n : Count} (xs : List Var) (o : Option ProcedureType) (es : Row_of-Term n) → IsCall c ls xs o (terms_in es) → AreReadable c ls (row_reads es)
  call_readable xs None es w = absurd w
  call_readable xs (Some p) es w = arguments_readable es p.params w.0

  mutual
    statement_readable : (i : Instr) → IsStatement c ls i → AreReadable c ls (statement_reads i)
    statement_readable (Assign xs e) w = expression_readable e w.0.expression
    statement_readable (Sample x d) w = expression_readable d w.0
    statement_readable (Call' xs p n es) w = call_readable xs (procedure c p) es w
    statement_readable (If' e m a n b) w =
        all_append (IsReadable c ls) (term_reads e) (body_reads a ++ body_reads b) (expression_readable e w.0.0)
        (all_append (IsReadable c ls) (body_reads a) (body_reads b) (body_readable a w.1) (body_readable b w.2))
    statement_readable (While' e v n a) w =
        all_append (IsReadable c ls) (term_reads e) (term_reads v ++ body_reads a) (expression_readable e w.0.0)
        (all_append (IsReadable c ls) (term_reads v) (body_reads a) (expression_readable v w.1.0) (body_readable a w.2))

    body_readable : {n : Count} (is : Row_of-Instr n) → AreStatements c ls is → AreReadable c ls (body_reads is)
    body_readable end_of-Instr w = tt
    body_readable (more_of-Instr i is) w = all_append (IsReadable c ls) (statement_reads i) (body_reads is) (statement_readable i w.0) (body_readable is w.1)

  list_readable : (is : List Instr) → EachStatement c ls is → AreReadable c ls (list_reads is)
  list_readable [] w = tt
  list_readable (i ∷ is) w = all_append (IsReadable c ls) (statement_reads i) (list_reads is) (statement_readable i w.0) (list_readable is w.1)

-- globals stand in every memory
module _ (c : Context) (ks ls : List TypedName) where
  globals_readable : (V : Vars) → AreReadable c ks V → AreReadable c ls (globals_among V)
  globals_readable [] h = tt
  globals_readable (x ∷ V) h = by_kind x.var h.0 (globals_readable V h.1)
    where
      by_kind : (y : Var) → IsRead (erased c) (Program y side.Left) x.ty × IsIn c (Some ks) y x.ty → AreReadable c ls (globals_among V) →
          AreReadable c ls (unless_local y (record { var = y; ty = x.ty } ∷ globals_among V) (globals_among V))
      by_kind (var.Local n) k r = r
      by_kind (var.Global m n) k r = (k, r)
      by_kind (var.Glob a) k r = (k, r)

-- declared procedures are typed, and all globals of abstract modules may be read together
module _ (ds : Declarations) (c : Context) (typed : (p : ProcRef) (a : Proc) → procedure_of ds p ≡ Some a → IsProcedure c a)
    (together : (p : ProcRef) (a : Name) (qs : List ProcRef) → meant_by ds p ≡ Any a qs → c.has_globals a ≡ true) (ls : List TypedName) where
  abbrev IfReadable : Option Vars → Type 0
  IfReadable None = Unit {0}
  IfReadable (Some V) = AreReadable c ls V

  readable_front : (o r : Option Vars) → IfReadable o → IfReadable r → IfReadable (in_front o r)
  readable_front None r h k = tt
  readable_front (Some V) None h k = tt
  readable_front (Some V) (Some W) h k = all_append (IsReadable c ls) V W h k

  itself_readable : (p : ProcRef) → IfReadable (reads_itself (meant_by ds p))
  itself_readable p = by_meaning (meant_by ds p) refl
    where
      by_meaning : (m : Meant) → meant_by ds p ≡ m → IfReadable (reads_itself m)
      by_meaning Unknown e = tt
      by_meaning (Declared a) e =
          let w = typed p a (declared_there ds p a e) in
          globals_readable c (locals_of a) ls (list_reads a.body.list ++ term_reads a.value)
          (all_append (IsReadable c (locals_of a)) (list_reads a.body.list) (term_reads a.value) (list_readable c (locals_of a) a.body.list w.body.statements) (expression_readable c (locals_of a) a.value w.value))
      by_meaning (Any a qs) e = (((tt, refl), (tt, together p a qs e, refl)), tt)

  each_readable : (ps : List ProcRef) → IfReadable (reads_by ds ps)
  each_readable [] = tt
  each_readable (p ∷ ps) = readable_front (reads_itself (meant_by ds p)) (reads_by ds ps) (itself_readable p) (each_readable ps)

  procedures_readable : (ps : List ProcRef) (V : Vars) → reads_by ds ps ≡ Some V → AreReadable c ls V
  procedures_readable ps V e = subst IfReadable e (each_readable ps)

  reached_readable : (ps : List ProcRef) (V : Vars) → reached_reads ds ps ≡ Some V → AreReadable c ls V
  reached_readable ps V e = let r = are_reached ds ps V e in procedures_readable r.all V r.found

  abbrev R : Vars → Type 0
  R V = AreReadable c ls V

  written_readable : (b : Bool) (xs : List Var) (e : Term) → IsExpression c ls e → (V : Vars) → R V → R (written_need b xs e V)
  written_readable true xs e w V h = all_joined (IsReadable c ls) (term_reads e) (without xs V) (expression_readable c ls e w) (all_without (IsReadable c ls) xs V h)
  written_readable false xs e w V h = h

  mutual
    statement_need_readable : (ex : Exclusions) (i : Instr) → IsStatement c ls i → (V W : Vars) → statement_need ex ds i V ≡ Some W → R V → R W
    statement_need_readable ex (Assign xs e) w V W k h =
        subst R (same_Some (written_need (concern ex xs V) xs e V) W k) (written_readable (concern ex xs V) xs e w.0.expression V h)
    statement_need_readable ex (Sample x d) w V W k h =
        subst R (same_Some (written_need (may_lose ds d || concern ex (x ∷ []) V) (x ∷ []) d V) W k) (written_readable (may_lose ds d || concern ex (x ∷ []) V) (x ∷ []) d w.0 V h)
    statement_need_readable ex (Call' xs p n es) w V W k h =
        let z = mapped (λ os. before xs (row_reads es ++ os) V) (reached_reads ds (p ∷ [])) W k in
        subst R z.is
        (all_joined (IsReadable c ls) (row_reads es ++ z.value) (without xs V)
        (all_append (IsReadable c ls) (row_reads es) z.value (call_readable c ls xs (procedure c p) es w) (reached_readable (p ∷ []) z.value z.is_known)) (all_without (IsReadable c ls) xs V h))
    statement_need_readable ex (If' e m a n b) w V W k h =
        let z = both_known (term_reads e) (row_need ex ds a V) (row_need ex ds b V) W k in
        subst R z.is
        (all_joined (IsReadable c ls) (term_reads e) (joined z.yes_need z.no_need) (expression_readable c ls e w.0.0)
        (all_joined (IsReadable c ls) z.yes_need z.no_need (row_need_readable ex a w.1 V z.yes_need z.is_yes h) (row_need_readable ex b w.2 V z.no_need z.is_no h)))
    statement_need_readable ex (While' e v n a) w V W k h =
        let own = term_reads e ++ (term_reads v ++ body_reads a) in
        let z = mapped (λ os. joined ((term_reads e ++ (term_reads v ++ body_reads a)) ++ os) V) (reached_reads ds (row_calls a)) W k in
        subst R z.is
        (all_joined (IsReadable c ls) (own ++ z.value) V
        (all_append (IsReadable c ls) own z.value (statement_readable c ls (While' e v n a) w) (reached_readable (row_calls a) z.value z.is_known)) h)

    row_need_readable : {n : Count} (ex : Exclusions) (is : Row_of-Instr n) → AreStatements c ls is → (V W : Vars) → row_need ex ds is V ≡ Some W → R V → R W
    row_need_readable ex end_of-Instr w V W k h = subst R (same_Some V W k) h
    row_need_readable ex (more_of-Instr i is) w V W k h =
        let z = known (λ U. statement_need ex ds i U) (row_need ex ds is V) W k in
        statement_need_readable ex i w.0 z.value W z.leads (row_need_readable ex is w.1 V z.value z.is_known h)

  pub need_readable : (ex : Exclusions) (is : List Instr) → EachStatement c ls is → (V W : Vars) → need ex ds is V ≡ Some W → R V → R W
  need_readable ex [] w V W k h = subst R (same_Some V W k) h
  need_readable ex (i ∷ is) w V W k h =
      let z = known (λ U. statement_need ex ds i U) (need ex ds is V) W k in
      statement_need_readable ex i w.0 z.value W z.leads (need_readable ex is w.1 V z.value z.is_known h)
