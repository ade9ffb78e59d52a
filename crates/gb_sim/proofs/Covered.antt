-- What statements, and the procedures that they reach, read are the cells of the variables that they are found to read.
use Rattle.std.proofs.Common.{◌≡◌, inl, inr, List, [], ◌∷◌, ◌++◌, Option, Some, None, refl, sym, ◌∙◌, subst}
use Rattle.std.proofs.lemmas.Option.{same_Some}
use Rattle.std.specs.List.{AllByRecursion}
use Rattle.gb_core.specs.declared.ty.Ty.{Ty}
use Rattle.gb_core.specs.declared.ty.Ty.TheVariants as ty
use Rattle.gb_core.specs.declared.var.Var.{Var}
use Rattle.gb_core.specs.declared.var.Var.TheVariants as var
use Rattle.gb_terms.specs.declared.decl.Proc.{Proc}
use Rattle.gb_terms.specs.declared.decl.TypedName.{TypedName}
use Rattle.gb_terms.specs.declared.module.ProcRef.{ProcRef}
use Rattle.gb_terms.specs.declared.op.Read.TheVariants.{Program as of_program}
use Rattle.gb_terms.specs.declared.term.Head.{Head}
use Rattle.gb_terms.specs.declared.term.Head.TheVariants as head
use Rattle.gb_terms.specs.declared.term.Head.TheVariants.{Assign, Sample, Call', If', While'}
use Rattle.gb_terms.specs.declared.term.Instr.{Instr, Row_of-Instr, end_of-Instr, more_of-Instr}
use Rattle.gb_terms.specs.declared.term.Term.{Term, Term', Row_of-Term, end_of-Term, more_of-Term, end_of-Head, more_of-Head}
use Rattle.gb_meaning.specs.Commands.{called, program_of, statements, terms_in}
use Rattle.gb_meaning.specs.Program.{Program, Routine}
use Rattle.gb_meaning.specs.Program.Program.{done, assign, sample, branch, loop, call, ask}
use Rattle.gb_meaning.specs.Program.Routine.{routine}
use Rattle.gb_meaning.specs.Setting.{Setting}
use Rattle.gb_laws.specs.Cells.{Cell, Cells, Covers, In, cells_of}
use Rattle.gb_laws.specs.Cells.Key.{global, local}
use Rattle.gb_laws.specs.Cells.{Key}
use Rattle.gb_laws.specs.Reads.{leaf_cells, program_cells, routine_cells, row_cells, term_cells, terms_cells}
use Rattle.gb_laws.proofs.Cells.{in_left, in_right}
use Rattle.gb_laws.proofs.NearRuns.{InFrame, with_frame, with_frame_covers}
use Rattle.gb_goal.specs.Scope.{Declarations, procedure_of}
use Rattle.gb_mods.specs.Called.{called_by, row_calls, calls}
use Rattle.gb_mods.specs.Meant.{in_front, meant_by}
use Rattle.gb_mods.specs.declared.meant.Meant.{Meant}
use Rattle.gb_mods.specs.declared.meant.Meant.TheVariants.{Unknown, Declared, Any}
use Rattle.gb_mods.proofs.Closed.{AreFollowed, IsIn}
use Rattle.gb_prog.specs.AnyOf.{IfOneOf}
use Rattle.gb_prog.specs.Carried.{EachCarried, EachCarriedBy}
use Rattle.gb_prog.specs.Means.{IfDeclared, Means}
use Rattle.gb_prog.proofs.Carried.{each_carried, each_procedure}
use Rattle.gb_prog.proofs.Meanings.{if_declared}
use Rattle.gb_prog.proofs.Reading.{reads_of_any}
use Rattle.gb_typing.specs.Context.{Context, procedure}
use Rattle.gb_typing.specs.Modules.{ProcedureType}
use Rattle.gb_typing.specs.Programs.{AreArguments, AreStatements, EachStatement, IsCall, IsProcedure}
use Rattle.gb_typing.specs.Typing.{AreTyped, IsNamed, IsTyped, first, middle, last}
use Rattle.gb_laws.specs.Typing.{types_of}
use Rattle.gb_labels.specs.Reads.{Vars}
use Rattle.gb_trans.proofs.Within.{ReadsWithin}
use Rattle.gb_sim.specs.Reads.{term_reads, row_reads, body_reads, list_reads, globals_among, head_reads, reads_by, reads_itself, unless_local}
use Rattle.gb_sim.proofs.Agreeing.{cells, cells_append}
use mathlib.Core.Former.{Count}

pub covers_both : (F : Cell → Type 0) (l r : Cells) → Covers F l → Covers F r → Covers F (l ++ r)
covers_both F [] r h k c i = k c i
covers_both F (d ∷ l) r h k c (inl e) = h c (inl e)
covers_both F (d ∷ l) r h k c (inr i) = covers_both F l r (λ c i. h c (inr i)) k c i

module _ (g : Setting) (F : Cell → Type 0) where
  -- all cells of these variables are in F
  abbrev pub Reads : Vars → Type 0
  Reads V = Covers F (cells g.types V)

  pub parts : (V W : Vars) → Reads (V ++ W) → Reads V × Reads W
  parts V W h = (
    λ c i. h c (subst (In c) (sym (cells_append g.types V W)) (in_left c (cells g.types V) (cells g.types W) i)),
    λ c i. h c (subst (In c) (sym (cells_append g.types V W)) (in_right c (cells g.types V) (cells g.types W) i)),
  )

  leaf_read : (c : Context) (h : Head) (t : Ty) → IsNamed c h t → Reads (head_reads h t) → Covers F (leaf_cells g h t)
  leaf_read c (head.Read (of_program x r)) t n w d i = w d (in_left d (cells_of g.types x t) [] i)
  leaf_read c (head.Glob m r) t n w d i = absurd n
  leaf_read c _ t n w d i = absurd i

  mutual
    pub term_read : (c : Context) (e : Term) → IsTyped c e → Reads (term_reads e) → Covers F (term_cells g e)
    term_read c (Term' b (more_of-Head h end_of-Head) n ts t) w v =
        let z = parts (head_reads h t) (row_reads ts) v in
        covers_both F (leaf_cells g h t) (row_cells g ts) (leaf_read c h t w.1 z.0) (row_read (first c h) (middle c h) (last c w.2 h (types_of ts)) ts w.3 z.1)

    row_read : {n : Count} (a b d : Context) (ts : Row_of-Term n) → AreTyped a b d ts → Reads (row_reads ts) → Covers F (row_cells g ts)
    row_read a b d end_of-Term w v = λ c i. absurd i
    row_read a b d (more_of-Term t end_of-Term) w v =
        covers_both F (term_cells g t) [] (term_read d t w (parts (term_reads t) [] v).0) (λ c i. absurd i)
    row_read a b d (more_of-Term t (more_of-Term u ts)) w v =
        let z = parts (term_reads t) (row_reads (more_of-Term u ts)) v in
        covers_both F (term_cells g t) (row_cells g (more_of-Term u ts)) (term_read a t w.0 z.0) (row_read b b d (more_of-Term u ts) w.1 z.1)

  module _ (c : Context) (ls : List TypedName) where
    pub arguments_read : {n : Count} (es : Row_of-Term n) (ps : List TypedName) → AreArguments c ls (terms_in es) ps → Reads (row_reads es) → Covers F (terms_cells g (terms_in es))
    arguments_read end_of-Term ps w v = λ d i. absurd i
    arguments_read (more_of-Term e es) [] w v = absurd w
    arguments_read (more_of-Term e es) (p ∷ ps) w v =
        let z = parts (term_reads e) (row_reads es) v in
        covers_both F (term_cells g e) (terms_cells g (terms_in es)) (term_read _ e w.0.0.expression.typed z.0) (arguments_read es ps w.1 z.1)

    pub call_read : {n : Count} (xs : List Var) (o : Option ProcedureType) (es : Row_of-Term n) → IsCall c ls xs o (terms_in es) → Reads (row_reads es) → Covers F (terms_cells g (terms_in es))
    call_read xs None es w v = absurd w
    call_read xs (Some p) es w v = arguments_read es p.params w.0 v

-- S are procedures of the declarations, with all that they call. F has the globals that they read.
module _ (g : Setting) (S : List ProcRef) (F : Cell → Type 0) where
  -- a routine that stands for one of them reads within F, but for its frame
  abbrev pub IsGood : Routine → Type 0
  IsGood = IfOneOf g S (λ r. Covers (with_frame F) (routine_cells g r))

  -- so does each that a program carries
  abbrev pub CallsGood : Program → Type 0
  CallsGood = EachCarried IsGood

  abbrev pub AreThere : List ProcRef → Type 0
  AreThere ps = AllByRecursion (IsIn S) ps

  there_append : (ps qs : List ProcRef) → AreThere (ps ++ qs) → AreThere ps × AreThere qs
  there_append [] qs h = (tt, h)
  there_append (p ∷ ps) qs h = let z = there_append ps qs h.1 in ((h.0, z.0), z.1)

  pub each_there : (ps : List ProcRef) → ((p : ProcRef) → IsIn ps p → IsIn S p) → AreThere ps
  each_there [] h = tt
  each_there (p ∷ ps) h = (h p (inl refl), each_there ps (λ q i. h q (inr i)))

  module _ (P : Cell → Type 0) (same : (l : Cells) → Covers (with_frame F) l → Covers (with_frame P) l) (c : Context) (ls : List TypedName) where
    call_within : (p : ProcRef) → IsIn S p → (xs : List Var) (o : Option Routine) (es : List Term) (d : Program) → g.procedure p ≡ o → Covers P (terms_cells g es) → CallsGood (called xs o es d) →
        (CallsGood d → ReadsWithin g P d) → ReadsWithin g P (called xs o es d)
    call_within p i xs (Some r) es d e s h u = (s, same (routine_cells g r) (h.0 p i e), u h.2)
    call_within p i xs None es d e s h u = u h

    pub row_within : {n : Count} (is : Row_of-Instr n) → AreStatements c ls is → Reads g P (body_reads is) → AreThere (row_calls is) → CallsGood (program_of g is) → ReadsWithin g P (program_of g is)
    row_within end_of-Instr w v h k = tt
    row_within (more_of-Instr (Assign xs e) is) w v h k =
        let z = parts g P (term_reads e) (body_reads is) v in
        (term_read g P _ e w.0.0.expression.typed z.0, row_within is w.1 z.1 h k)
    row_within (more_of-Instr (Sample x d) is) w v h k =
        let z = parts g P (term_reads d) (body_reads is) v in
        (term_read g P _ d w.0.0.typed z.0, row_within is w.1 z.1 h k)
    row_within (more_of-Instr (Call' xs p n es) is) w v h k =
        let z = parts g P (row_reads es) (body_reads is) v in
        call_within p h.0 xs (g.procedure p) (terms_in es) (program_of g is) refl (call_read g P c ls xs (procedure c p) es w.0 z.0) k (λ j. row_within is w.1 z.1 h.1 j)
    row_within (more_of-Instr (If' e m a n b) is) w v h k =
        let z = parts g P (term_reads e ++ (body_reads a ++ body_reads b)) (body_reads is) v in
        let y = parts g P (term_reads e) (body_reads a ++ body_reads b) z.0 in
        let x = parts g P (body_reads a) (body_reads b) y.1 in
        let i = there_append (row_calls a ++ row_calls b) (row_calls is) h in
        let j = there_append (row_calls a) (row_calls b) i.0 in
        (term_read g P _ e w.0.0.0.typed y.0, row_within a w.0.1 x.0 j.0 k.0, row_within b w.0.2 x.1 j.1 k.1, row_within is w.1 z.1 i.1 k.2)
    row_within (more_of-Instr (While' e t n a) is) w v h k =
        let z = parts g P (term_reads e ++ (term_reads t ++ body_reads a)) (body_reads is) v in
        let y = parts g P (term_reads e) (term_reads t ++ body_reads a) z.0 in
        let x = parts g P (term_reads t) (body_reads a) y.1 in
        let i = there_append (row_calls a) (row_calls is) h in
        (term_read g P _ e w.0.0.0.typed y.0, term_read g P _ t w.0.1.0.typed x.0, row_within a w.0.2 x.1 i.0 k.0, row_within is w.1 z.1 i.1 k.1)

    statements_within : (is : List Instr) → EachStatement c ls is → Reads g P (list_reads is) → AreThere (calls is) → CallsGood (statements g is) → ReadsWithin g P (statements g is)
    statements_within [] w v h k = tt
    statements_within (Assign xs e ∷ is) w v h k =
        let z = parts g P (term_reads e) (list_reads is) v in
        (term_read g P _ e w.0.0.expression.typed z.0, statements_within is w.1 z.1 h k)
    statements_within (Sample x d ∷ is) w v h k =
        let z = parts g P (term_reads d) (list_reads is) v in
        (term_read g P _ d w.0.0.typed z.0, statements_within is w.1 z.1 h k)
    statements_within (Call' xs p n es ∷ is) w v h k =
        let z = parts g P (row_reads es) (list_reads is) v in
        call_within p h.0 xs (g.procedure p) (terms_in es) (statements g is) refl (call_read g P c ls xs (procedure c p) es w.0 z.0) k (λ j. statements_within is w.1 z.1 h.1 j)
    statements_within (If' e m a n b ∷ is) w v h k =
        let z = parts g P (term_reads e ++ (body_reads a ++ body_reads b)) (list_reads is) v in
        let y = parts g P (term_reads e) (body_reads a ++ body_reads b) z.0 in
        let x = parts g P (body_reads a) (body_reads b) y.1 in
        let i = there_append (row_calls a ++ row_calls b) (calls is) h in
        let j = there_append (row_calls a) (row_calls b) i.0 in
        (term_read g P _ e w.0.0.0.typed y.0, row_within a w.0.1 x.0 j.0 k.0, row_within b w.0.2 x.1 j.1 k.1, statements_within is w.1 z.1 i.1 k.2)
    statements_within (While' e t n a ∷ is) w v h k =
        let z = parts g P (term_reads e ++ (term_reads t ++ body_reads a)) (list_reads is) v in
        let y = parts g P (term_reads e) (term_reads t ++ body_reads a) z.0 in
        let x = parts g P (term_reads t) (body_reads a) y.1 in
        let i = there_append (row_calls a) (calls is) h in
        (term_read g P _ e w.0.0.0.typed y.0, term_read g P _ t w.0.1.0.typed x.0, row_within a w.0.2 x.1 i.0 k.0, statements_within is w.1 z.1 i.1 k.1)

-- what a program reads within F, where F has all places of frames, is in F, with all that its procedures read
framed : (F : Cell → Type 0) (l : Cells) → Covers (with_frame (with_frame F)) l → Covers (with_frame F) l
framed F l h d i = by_place d.key (h d i)
  where
    by_place : (k : Key) → InFrame k (InFrame k (F d)) → InFrame k (F d)
    by_place (global p) f = f
    by_place (local p) f = tt

within_covers : (g : Setting) (F : Cell → Type 0) (c : Program) → ReadsWithin g (with_frame F) c → Covers (with_frame F) (program_cells g c)
within_covers g F done h = λ d i. absurd i
within_covers g F (assign xs e c) h = covers_both (with_frame F) (term_cells g e) (program_cells g c) h.0 (within_covers g F c h.1)
within_covers g F (sample x d c) h = covers_both (with_frame F) (term_cells g d) (program_cells g c) h.0 (within_covers g F c h.1)
within_covers g F (branch e a b c) h =
    covers_both (with_frame F) (term_cells g e) (program_cells g a ++ (program_cells g b ++ program_cells g c)) h.0
    (covers_both (with_frame F) (program_cells g a) (program_cells g b ++ program_cells g c) (within_covers g F a h.1)
    (covers_both (with_frame F) (program_cells g b) (program_cells g c) (within_covers g F b h.2) (within_covers g F c h.3)))
within_covers g F (loop e v a c) h =
    covers_both (with_frame F) (term_cells g e) (term_cells g v ++ (program_cells g a ++ program_cells g c)) h.0
    (covers_both (with_frame F) (term_cells g v) (program_cells g a ++ program_cells g c) h.1
    (covers_both (with_frame F) (program_cells g a) (program_cells g c) (within_covers g F a h.2) (within_covers g F c h.3)))
within_covers g F (call xs r es c) h =
    covers_both (with_frame F) (terms_cells g es) (routine_cells g r ++ program_cells g c) h.0
    (covers_both (with_frame F) (routine_cells g r) (program_cells g c) (framed F (routine_cells g r) h.1) (within_covers g F c h.2))
within_covers g F (ask xs o es c) h = within_covers g F c h

-- the cells of locals are those of a frame
module _ (g : Setting) (F : Cell → Type 0) where
  framing : (d : Cell) → F d → with_frame F d
  framing d f = by_place d.key
    where
      by_place : (k : Key) → InFrame k (F d)
      by_place (global p) = f
      by_place (local p) = tt

  one_framed : (x : Var) (t : Ty) (V : Vars) → Reads g F (unless_local x (record { var = x; ty = t } ∷ V) V) → Covers (with_frame F) (cells_of g.types x t) × Reads g F V
  one_framed (var.Local x) t V h = ((λ d i. elim i [ inl e ↦ subst (with_frame F) (sym e) tt | inr j ↦ absurd j ]), h)
  one_framed (var.Global p x) t V h = let z = parts g F (record { var = var.Global p x; ty = t } ∷ []) V h in ((λ d i. framing d (z.0 d (in_left d (cells_of g.types (var.Global p x) t) [] i))), z.1)
  one_framed (var.Glob a) t V h =
      ((λ d i. framing d (h d (in_left d (cells_of g.types (var.Glob a) t) (cells g.types V) i))), λ d i. h d (in_right d (cells_of g.types (var.Glob a) t) (cells g.types V) i))

  pub with_locals : (V : Vars) → Reads g F (globals_among V) → Reads g (with_frame F) V
  with_locals [] h = λ d i. absurd i
  with_locals (x ∷ V) h =
      let z = one_framed x.var x.ty (globals_among V) h in
      covers_both (with_frame F) (cells_of g.types x.var x.ty) (cells g.types V) z.0 (with_locals V z.1)

module _ (g : Setting) (F : Cell → Type 0) where
  -- it is known what is read, and F has its cells
  abbrev AreRead : Option Vars → Type 0
  AreRead None = ⊥
  AreRead (Some V) = Reads g F V

  read_front : (o r : Option Vars) → AreRead (in_front o r) → AreRead o × AreRead r
  read_front None r h = absurd h
  read_front (Some V) None h = absurd h
  read_front (Some V) (Some W) h = parts g F V W h

  -- what each of these procedures reads itself, where all that they read is known
  each_itself : (ds : Declarations) (ps : List ProcRef) → AreRead (reads_by ds ps) → (p : ProcRef) → IsIn ps p → AreRead (reads_itself (meant_by ds p))
  each_itself ds [] v p i = absurd i
  each_itself ds (q ∷ ps) v p i = let z = read_front (reads_itself (meant_by ds q)) (reads_by ds ps) v in by_place z.0 (each_itself ds ps z.1 p) i
    where
      by_place : AreRead (reads_itself (meant_by ds q)) → (IsIn ps p → AreRead (reads_itself (meant_by ds p))) → IsIn (q ∷ ps) p → AreRead (reads_itself (meant_by ds p))
      by_place h behind (inl f) = subst (λ z. AreRead (reads_itself (meant_by ds z))) f h
      by_place h behind (inr f) = behind f

-- declared procedures are typed, references mean what they stand for, and S are procedures of the declarations, with all that they call
module _ (g : Setting) (ds : Declarations) (c : Context) (typed : (p : ProcRef) (a : Proc) → procedure_of ds p ≡ Some a → IsProcedure c a) (means : (p : ProcRef) → Means g p (meant_by ds p))
    (S : List ProcRef) (closed : AreFollowed ds S S) (R : Vars) (found : reads_by ds S ≡ Some R) (F : Cell → Type 0) (all : Reads g F R) where
  again : (l : Cells) → Covers (with_frame F) l → Covers (with_frame (with_frame F)) l
  again l h x i = by_place x.key (h x i)
    where
      by_place : (k : Key) → InFrame k (F x) → InFrame k (InFrame k (F x))
      by_place (global p) f = f
      by_place (local p) f = tt

  by_meaning : (r : Routine) → EachCarriedBy (IsGood g S F) r → (p : ProcRef) → g.procedure p ≡ Some r → (m : Meant) → IfDeclared (IsProcedure c) m → Means g p m → AreRead g F (reads_itself m) →
      ((q : ProcRef) → IsIn (called_by m) q → IsIn S q) → Covers (with_frame F) (routine_cells g r)
  by_meaning r k p e Unknown w is v h = absurd v
  by_meaning r k p e (Declared a) w is v h =
      let same : routine a.params a.locals (statements g a.body.list) a.value ≡ r = same_Some (routine a.params a.locals (statements g a.body.list) a.value) r (sym is ∙ e) in
      let both = parts g (with_frame F) (list_reads a.body.list) (term_reads a.value) (with_locals g F (list_reads a.body.list ++ term_reads a.value) v) in
      let body : ReadsWithin g (with_frame F) (statements g a.body.list) =
      statements_within g S F (with_frame F) again c _ a.body.list w.body.statements both.0 (each_there g S F (calls a.body.list) h) (subst (EachCarriedBy (IsGood g S F)) (sym same) k) in
      subst (λ z. Covers (with_frame F) (routine_cells g z)) same
      (covers_both (with_frame F) (term_cells g a.value) (program_cells g (statements g a.body.list)) (term_read g (with_frame F) _ a.value w.value.typed both.1)
      (within_covers g F (statements g a.body.list) body))
  by_meaning r k p e (Any a qs) w is v h =
      reads_of_any g a qs p is S h (with_frame F) (λ x t. tt)
      (with_frame_covers F (cells_of g.types (var.Glob a) (ty.Glob a)) (λ d i. v d (in_left d (cells_of g.types (var.Glob a) (ty.Glob a)) [] i))) r e k

  from_carried : (r : Routine) → EachCarriedBy (IsGood g S F) r → IsGood g S F r
  from_carried r k p i e =
      by_meaning r k p e (meant_by ds p) (if_declared ds p (IsProcedure c) (typed p)) (means p) (each_itself g F ds S (subst (AreRead g F) (sym found) all) p i) (closed p i)

  pub all_good : (d : Program) → CallsGood g S F d
  all_good = each_carried (IsGood g S F) from_carried

  pub routine_good : (r : Routine) → IsGood g S F r
  routine_good = each_procedure (IsGood g S F) from_carried
