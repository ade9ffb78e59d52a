-- Statements read no places but those that they, and the procedures that they reach, are found to read.
use Rattle.std.proofs.Common.{◌≡◌, inl, inr, List, [], ◌∷◌, ◌++◌, map, Option, Some, None, refl, sym, ◌∙◌, subst}
use Rattle.std.proofs.lemmas.Option.{same_Some}
use Rattle.std.specs.List.{AllByRecursion}
use Rattle.gb_core.specs.declared.ty.Ty.{Ty}
use Rattle.gb_core.specs.declared.var.Var.{Var}
use Rattle.gb_core.specs.declared.var.Var.TheVariants as var
use Rattle.gb_terms.specs.declared.decl.Proc.{Proc}
use Rattle.gb_terms.specs.declared.decl.TypedName.{TypedName}
use Rattle.gb_terms.specs.declared.module.Mexp.TheVariants.{Name as named}
use Rattle.gb_terms.specs.declared.module.ProcRef.{ProcRef}
use Rattle.gb_terms.specs.declared.op.Read.TheVariants.{Program as of_program}
use Rattle.gb_terms.specs.declared.term.Head.{Head}
use Rattle.gb_terms.specs.declared.term.Head.TheVariants as head
use Rattle.gb_terms.specs.declared.term.Head.TheVariants.{Assign, Sample, Call', If', While'}
use Rattle.gb_terms.specs.declared.term.Instr.{Instr, Row_of-Instr, end_of-Instr, more_of-Instr}
use Rattle.gb_terms.specs.declared.term.Term.{Term, Term', Row_of-Term, end_of-Term, more_of-Term, end_of-Head, more_of-Head}
use Rattle.gb_meaning.specs.Commands.{called, program_of, statements, terms_in}
use Rattle.gb_meaning.specs.Program.{Program, Routine}
use Rattle.gb_meaning.specs.Program.Program.{done, assign, sample, branch, loop, call, ask}
use Rattle.gb_meaning.specs.Program.Routine.{routine}
use Rattle.gb_meaning.specs.Setting.{Setting}
use Rattle.gb_meaning.specs.Values.{Global}
use Rattle.gb_laws.specs.Cells.{Key, Cell, Cells, Covers, cells_of, global_cell}
use Rattle.gb_laws.specs.Cells.Key.{global, local}
use Rattle.gb_laws.specs.Reads.{leaf_cells, program_cells, routine_cells, row_cells, term_cells, terms_cells}
use Rattle.gb_laws.specs.Writes.{key_of_global, keys_of}
use Rattle.gb_laws.proofs.NearRuns.{InFrame, with_frame, with_frame_covers}
use Rattle.gb_meaning.specs.Footprints.{globals_among, head_variables, variables, variables_in}
use Rattle.gb_goal.specs.Scope.{Declarations, procedure_of}
use Rattle.gb_mods.specs.Called.{called_by, row_calls, calls}
use Rattle.gb_mods.specs.Meant.{in_front, meant_by}
use Rattle.gb_mods.specs.Read.{each_read, read_by, read_itself, row_read}
use Rattle.gb_mods.specs.declared.meant.Meant.{Meant}
use Rattle.gb_mods.specs.declared.meant.Meant.TheVariants.{Unknown, Declared, Any}
use Rattle.gb_mods.proofs.Closed.{AreFollowed, IsIn}
use Rattle.gb_prog.specs.AnyOf.{IfOneOf}
use Rattle.gb_prog.specs.Carried.{EachCarried, EachCarriedBy}
use Rattle.gb_prog.specs.Means.{IfDeclared, Means}
use Rattle.gb_prog.proofs.Carried.{each_carried, each_procedure}
use Rattle.gb_prog.proofs.Meanings.{if_declared}
use Rattle.gb_prog.proofs.Reading.{reads_of_any}
use Rattle.gb_typing.specs.Context.{Context, procedure}
use Rattle.gb_typing.specs.Modules.{ProcedureType}
use Rattle.gb_typing.specs.Programs.{AreArguments, AreStatements, EachStatement, IsCall, IsProcedure}
use Rattle.gb_typing.specs.Typing.{AreTyped, IsNamed, IsTyped, first, middle, last}
use Rattle.gb_laws.specs.Typing.{types_of}
use Rattle.gb_trans.proofs.Named.{EachNamed, named_append}
use Rattle.gb_trans.proofs.Within.{ReadsWithin}
use mathlib.Core.Former.{Count}

covers_both : (F : Cell → Type 0) (l r : Cells) → Covers F l → Covers F r → Covers F (l ++ r)
covers_both F [] r h k c i = k c i
covers_both F (d ∷ l) r h k c (inl e) = h c (inl e)
covers_both F (d ∷ l) r h k c (inr i) = covers_both F l r (λ c i. h c (inr i)) k c i

-- of cells by their places
abbrev pub At : (Key → Type 0) → Cell → Type 0
At P c = P c.key

module _ (g : Setting) (P : Key → Type 0) where
  abbrev Names : List Var → Type 0
  Names xs = EachNamed g.types P xs

  globals_read : (xs : List Global) → AllByRecursion P (map key_of_global xs) → Covers (At P) (map global_cell xs)
  globals_read [] h c i = absurd i
  globals_read (x ∷ xs) h c (inl e) = subst (At P) (sym e) h.0
  globals_read (x ∷ xs) h c (inr i) = globals_read xs h.1 c i

  read_there : (x : Var) (t : Ty) → AllByRecursion P (keys_of g.types x) → Covers (At P) (cells_of g.types x t)
  read_there (var.Global p n) t h c (inl e) = subst (At P) (sym e) h.0
  read_there (var.Global p n) t h c (inr i) = absurd i
  read_there (var.Local x) t h c (inl e) = subst (At P) (sym e) h.0
  read_there (var.Local x) t h c (inr i) = absurd i
  read_there (var.Glob a) t h c i = globals_read (g.types.footprint (named a)) h c i

  leaf_read : (c : Context) (h : Head) (t : Ty) → IsNamed c h t → Names (head_variables h) → Covers (At P) (leaf_cells g h t)
  leaf_read c (head.Read (of_program x r)) t n w d i = read_there x t w.0 d i
  leaf_read c (head.Glob m r) t n w d i = absurd n
  leaf_read c _ t n w d i = absurd i

  mutual
    term_read : (c : Context) (e : Term) → IsTyped c e → Names (variables e) → Covers (At P) (term_cells g e)
    term_read c (Term' b (more_of-Head h end_of-Head) n ts t) w v =
        let z = named_append g.types P (head_variables h) (variables_in ts) v in
        covers_both (At P) (leaf_cells g h t) (row_cells g ts) (leaf_read c h t w.1 z.0) (terms_read (first c h) (middle c h) (last c w.2 h (types_of ts)) ts w.3 z.1)

    terms_read : {n : Count} (a b d : Context) (ts : Row_of-Term n) → AreTyped a b d ts → Names (variables_in ts) → Covers (At P) (row_cells g ts)
    terms_read a b d end_of-Term w v = λ c i. absurd i
    terms_read a b d (more_of-Term t end_of-Term) w v =
        covers_both (At P) (term_cells g t) [] (term_read d t w (named_append g.types P (variables t) [] v).0) (λ c i. absurd i)
    terms_read a b d (more_of-Term t (more_of-Term u ts)) w v =
        let z = named_append g.types P (variables t) (variables_in (more_of-Term u ts)) v in
        covers_both (At P) (term_cells g t) (row_cells g (more_of-Term u ts)) (term_read a t w.0 z.0) (terms_read b b d (more_of-Term u ts) w.1 z.1)

  module _ (c : Context) (ls : List TypedName) where
    arguments_read : {n : Count} (es : Row_of-Term n) (ps : List TypedName) → AreArguments c ls (terms_in es) ps → Names (variables_in es) → Covers (At P) (terms_cells g (terms_in es))
    arguments_read end_of-Term ps w v = λ d i. absurd i
    arguments_read (more_of-Term e es) [] w v = absurd w
    arguments_read (more_of-Term e es) (p ∷ ps) w v =
        let z = named_append g.types P (variables e) (variables_in es) v in
        covers_both (At P) (term_cells g e) (terms_cells g (terms_in es)) (term_read _ e w.0.0.expression.typed z.0) (arguments_read es ps w.1 z.1)

    call_read : {n : Count} (xs : List Var) (o : Option ProcedureType) (es : Row_of-Term n) → IsCall c ls xs o (terms_in es) → Names (variables_in es) → Covers (At P) (terms_cells g (terms_in es))
    call_read xs None es w v = absurd w
    call_read xs (Some p) es w v = arguments_read es p.params w.0 v

-- S are procedures of the declarations, with all that they call. Q are places of memories of theirs, P those of the caller's memory.
module _ (g : Setting) (S : List ProcRef) (G : Key → Type 0) where
  -- what a routine reads that stands for one of them
  abbrev pub IsGood : Routine → Type 0
  IsGood = IfOneOf g S (λ r. Covers (with_frame (At G)) (routine_cells g r))

  -- .. and each that a program carries
  abbrev CallsGood : Program → Type 0
  CallsGood = EachCarried IsGood

  abbrev AreThere : List ProcRef → Type 0
  AreThere ps = AllByRecursion (IsIn S) ps

  there_append : (ps qs : List ProcRef) → AreThere (ps ++ qs) → AreThere ps × AreThere qs
  there_append [] qs h = (tt, h)
  there_append (p ∷ ps) qs h = let z = there_append ps qs h.1 in ((h.0, z.0), z.1)

  each_there : (ps : List ProcRef) → ((p : ProcRef) → IsIn ps p → IsIn S p) → AreThere ps
  each_there [] h = tt
  each_there (p ∷ ps) h = (h p (inl refl), each_there ps (λ q i. h q (inr i)))

  module _ (P : Key → Type 0) (same : (l : Cells) → Covers (with_frame (At G)) l → Covers (with_frame (At P)) l) (c : Context) (ls : List TypedName) where
    call_within : (p : ProcRef) → IsIn S p → (xs : List Var) (o : Option Routine) (es : List Term) (d : Program) → g.procedure p ≡ o → Covers (At P) (terms_cells g es) → CallsGood (called xs o es d) →
        (CallsGood d → ReadsWithin g (At P) d) → ReadsWithin g (At P) (called xs o es d)
    call_within p i xs (Some r) es d e s h u = (s, same (routine_cells g r) (h.0 p i e), u h.2)
    call_within p i xs None es d e s h u = u h

    row_within : {n : Count} (is : Row_of-Instr n) → AreStatements c ls is → EachNamed g.types P (row_read is) → AreThere (row_calls is) → CallsGood (program_of g is) → ReadsWithin g (At P) (program_of g is)
    row_within end_of-Instr w v h k = tt
    row_within (more_of-Instr (Assign xs e) is) w v h k =
        let z = named_append g.types P (variables e) (row_read is) v in
        (term_read g P _ e w.0.0.expression.typed z.0, row_within is w.1 z.1 h k)
    row_within (more_of-Instr (Sample x d) is) w v h k =
        let z = named_append g.types P (variables d) (row_read is) v in
        (term_read g P _ d w.0.0.typed z.0, row_within is w.1 z.1 h k)
    row_within (more_of-Instr (Call' xs p n es) is) w v h k =
        let z = named_append g.types P (variables_in es) (row_read is) v in
        call_within p h.0 xs (g.procedure p) (terms_in es) (program_of g is) refl (call_read g P c ls xs (procedure c p) es w.0 z.0) k (λ j. row_within is w.1 z.1 h.1 j)
    row_within (more_of-Instr (If' e m a n b) is) w v h k =
        let z = named_append g.types P ((variables e ++ row_read a) ++ row_read b) (row_read is) v in
        let y = named_append g.types P (variables e ++ row_read a) (row_read b) z.0 in
        let x = named_append g.types P (variables e) (row_read a) y.0 in
        let i = there_append (row_calls a ++ row_calls b) (row_calls is) h in
        let j = there_append (row_calls a) (row_calls b) i.0 in
        (term_read g P _ e w.0.0.0.typed x.0, row_within a w.0.1 x.1 j.0 k.0, row_within b w.0.2 y.1 j.1 k.1, row_within is w.1 z.1 i.1 k.2)
    row_within (more_of-Instr (While' e t n a) is) w v h k =
        let z = named_append g.types P ((variables e ++ variables t) ++ row_read a) (row_read is) v in
        let y = named_append g.types P (variables e ++ variables t) (row_read a) z.0 in
        let x = named_append g.types P (variables e) (variables t) y.0 in
        let i = there_append (row_calls a) (row_calls is) h in
        (term_read g P _ e w.0.0.0.typed x.0, term_read g P _ t w.0.1.0.typed x.1, row_within a w.0.2 y.1 i.0 k.0, row_within is w.1 z.1 i.1 k.1)

    statements_within : (is : List Instr) → EachStatement c ls is → EachNamed g.types P (each_read is) → AreThere (calls is) → CallsGood (statements g is) → ReadsWithin g (At P) (statements g is)
    statements_within [] w v h k = tt
    statements_within (Assign xs e ∷ is) w v h k =
        let z = named_append g.types P (variables e) (each_read is) v in
        (term_read g P _ e w.0.0.expression.typed z.0, statements_within is w.1 z.1 h k)
    statements_within (Sample x d ∷ is) w v h k =
        let z = named_append g.types P (variables d) (each_read is) v in
        (term_read g P _ d w.0.0.typed z.0, statements_within is w.1 z.1 h k)
    statements_within (Call' xs p n es ∷ is) w v h k =
        let z = named_append g.types P (variables_in es) (each_read is) v in
        call_within p h.0 xs (g.procedure p) (terms_in es) (statements g is) refl (call_read g P c ls xs (procedure c p) es w.0 z.0) k (λ j. statements_within is w.1 z.1 h.1 j)
    statements_within (If' e m a n b ∷ is) w v h k =
        let z = named_append g.types P ((variables e ++ row_read a) ++ row_read b) (each_read is) v in
        let y = named_append g.types P (variables e ++ row_read a) (row_read b) z.0 in
        let x = named_append g.types P (variables e) (row_read a) y.0 in
        let i = there_append (row_calls a ++ row_calls b) (calls is) h in
        let j = there_append (row_calls a) (row_calls b) i.0 in
        (term_read g P _ e w.0.0.0.typed x.0, row_within a w.0.1 x.1 j.0 k.0, row_within b w.0.2 y.1 j.1 k.1, statements_within is w.1 z.1 i.1 k.2)
    statements_within (While' e t n a ∷ is) w v h k =
        let z = named_append g.types P ((variables e ++ variables t) ++ row_read a) (each_read is) v in
        let y = named_append g.types P (variables e ++ variables t) (row_read a) z.0 in
        let x = named_append g.types P (variables e) (variables t) y.0 in
        let i = there_append (row_calls a) (calls is) h in
        (term_read g P _ e w.0.0.0.typed x.0, term_read g P _ t w.0.1.0.typed x.1, row_within a w.0.2 y.1 i.0 k.0, statements_within is w.1 z.1 i.1 k.1)

-- what a program reads within F, where F has all places of frames, is in F, with all that its procedures read
framed : (F : Cell → Type 0) (l : Cells) → Covers (with_frame (with_frame F)) l → Covers (with_frame F) l
framed F l h d i = by_place d.key (h d i)
  where
    by_place : (k : Key) → InFrame k (InFrame k (F d)) → InFrame k (F d)
    by_place (global p) f = f
    by_place (local p) f = tt

within_covers : (g : Setting) (F : Cell → Type 0) (c : Program) → ReadsWithin g (with_frame F) c → Covers (with_frame F) (program_cells g c)
within_covers g F done h = λ d i. absurd i
within_covers g F (assign xs e c) h = covers_both (with_frame F) (term_cells g e) (program_cells g c) h.0 (within_covers g F c h.1)
within_covers g F (sample x d c) h = covers_both (with_frame F) (term_cells g d) (program_cells g c) h.0 (within_covers g F c h.1)
within_covers g F (branch e a b c) h =
    covers_both (with_frame F) (term_cells g e) (program_cells g a ++ (program_cells g b ++ program_cells g c)) h.0
    (covers_both (with_frame F) (program_cells g a) (program_cells g b ++ program_cells g c) (within_covers g F a h.1)
    (covers_both (with_frame F) (program_cells g b) (program_cells g c) (within_covers g F b h.2) (within_covers g F c h.3)))
within_covers g F (loop e v a c) h =
    covers_both (with_frame F) (term_cells g e) (term_cells g v ++ (program_cells g a ++ program_cells g c)) h.0
    (covers_both (with_frame F) (term_cells g v) (program_cells g a ++ program_cells g c) h.1
    (covers_both (with_frame F) (program_cells g a) (program_cells g c) (within_covers g F a h.2) (within_covers g F c h.3)))
within_covers g F (call xs r es c) h =
    covers_both (with_frame F) (terms_cells g es) (routine_cells g r ++ program_cells g c) h.0
    (covers_both (with_frame F) (routine_cells g r) (program_cells g c) (framed F (routine_cells g r) h.1) (within_covers g F c h.2))
within_covers g F (ask xs o es c) h = within_covers g F c h

-- the places of a procedure's memory: all of its frame
abbrev pub Framed : (Key → Type 0) → Key → Type 0
Framed G k = InFrame k (G k)

module _ (g : Setting) (G : Key → Type 0) where
  global_places : (fs : List Global) → AllByRecursion G (map key_of_global fs) → AllByRecursion (Framed G) (map key_of_global fs)
  global_places [] h = tt
  global_places (f ∷ fs) h = (h.0, global_places fs h.1)

  places_global : (fs : List Global) → AllByRecursion (Framed G) (map key_of_global fs) → AllByRecursion G (map key_of_global fs)
  places_global [] h = tt
  places_global (f ∷ fs) h = (h.0, places_global fs h.1)

  pub with_locals : (xs : List Var) → EachNamed g.types G (globals_among xs) → EachNamed g.types (Framed G) xs
  with_locals [] h = tt
  with_locals (var.Local x ∷ xs) h = ((tt, tt), with_locals xs h)
  with_locals (var.Global m x ∷ xs) h = (h.0, with_locals xs h.1)
  with_locals (var.Glob a ∷ xs) h = (global_places (g.types.footprint (named a)) h.0, with_locals xs h.1)

  pub without_locals : (xs : List Var) → EachNamed g.types (Framed G) xs → EachNamed g.types G (globals_among xs)
  without_locals [] h = tt
  without_locals (var.Local x ∷ xs) h = without_locals xs h.1
  without_locals (var.Global m x ∷ xs) h = (h.0, without_locals xs h.1)
  without_locals (var.Glob a ∷ xs) h = (places_global (g.types.footprint (named a)) h.0, without_locals xs h.1)

module _ (g : Setting) (G : Key → Type 0) where
  -- it is known what is read, and G has its places
  abbrev pub AreRead : Option (List Var) → Type 0
  AreRead None = ⊥
  AreRead (Some xs) = EachNamed g.types G xs

  read_front : (o r : Option (List Var)) → AreRead (in_front o r) → AreRead o × AreRead r
  read_front None r h = absurd h
  read_front (Some xs) None h = absurd h
  read_front (Some xs) (Some ys) h = named_append g.types G xs ys h

module _ (g : Setting) (ds : Declarations) (G : Key → Type 0) where
  -- what each of these procedures reads itself, where all that they read is known
  each_itself : (ps : List ProcRef) → AreRead g G (read_by ds ps) → (p : ProcRef) → IsIn ps p → AreRead g G (read_itself (meant_by ds p))
  each_itself [] v p i = absurd i
  each_itself (q ∷ ps) v p i = let z = read_front g G (read_itself (meant_by ds q)) (read_by ds ps) v in by_place z.0 (each_itself ps z.1 p) i
    where
      by_place : AreRead g G (read_itself (meant_by ds q)) → (IsIn ps p → AreRead g G (read_itself (meant_by ds p))) → IsIn (q ∷ ps) p → AreRead g G (read_itself (meant_by ds p))
      by_place h behind (inl f) = subst (λ z. AreRead g G (read_itself (meant_by ds z))) f h
      by_place h behind (inr f) = behind f

  pub read_each : (ps : List ProcRef) (xs : List Var) → read_by ds ps ≡ Some xs → EachNamed g.types G xs → (p : ProcRef) → IsIn ps p → AreRead g G (read_itself (meant_by ds p))
  read_each ps xs e v = each_itself ps (subst (AreRead g G) (sym e) v)

-- declared procedures are typed, references mean what they stand for, and S are procedures of the declarations, with all that they call
module _ (g : Setting) (ds : Declarations) (c : Context) (typed : (p : ProcRef) (a : Proc) → procedure_of ds p ≡ Some a → IsProcedure c a) (means : (p : ProcRef) → Means g p (meant_by ds p))
    (S : List ProcRef) (closed : AreFollowed ds S S) (G : Key → Type 0) (there : (p : ProcRef) → IsIn S p → AreRead g G (read_itself (meant_by ds p))) where
  again : (l : Cells) → Covers (with_frame (At G)) l → Covers (with_frame (At (Framed G))) l
  again l h x i = by_place x.key (h x i)
    where
      by_place : (k : Key) → InFrame k (G k) → InFrame k (InFrame k (G k))
      by_place (global p) f = f
      by_place (local p) f = tt

  by_meaning : (r : Routine) → EachCarriedBy (IsGood g S G) r → (p : ProcRef) → g.procedure p ≡ Some r → (m : Meant) → IfDeclared (IsProcedure c) m → Means g p m → AreRead g G (read_itself m) →
      ((q : ProcRef) → IsIn (called_by m) q → IsIn S q) → Covers (with_frame (At G)) (routine_cells g r)
  by_meaning r k p e Unknown w is v h = absurd v
  by_meaning r k p e (Declared a) w is v h =
      let same : routine a.params a.locals (statements g a.body.list) a.value ≡ r = same_Some (routine a.params a.locals (statements g a.body.list) a.value) r (sym is ∙ e) in
      let parts = named_append g.types (Framed G) (each_read a.body.list) (variables a.value) (with_locals g G (each_read a.body.list ++ variables a.value) v) in
      let body : ReadsWithin g (At (Framed G)) (statements g a.body.list) =
      statements_within g S G (Framed G) again c _ a.body.list w.body.statements parts.0 (each_there g S G (calls a.body.list) h) (subst (EachCarriedBy (IsGood g S G)) (sym same) k) in
      subst (λ z. Covers (with_frame (At G)) (routine_cells g z)) same
      (covers_both (with_frame (At G)) (term_cells g a.value) (program_cells g (statements g a.body.list)) (term_read g (Framed G) _ a.value w.value.typed parts.1)
      (within_covers g (At G) (statements g a.body.list) body))
  by_meaning r k p e (Any a qs) w is v h =
      reads_of_any g a qs p is S h (with_frame (At G)) (λ x t. tt)
      (with_frame_covers (At G) (map global_cell (g.types.footprint (named a))) (globals_read g G (g.types.footprint (named a)) v.0)) r e k

  from_carried : (r : Routine) → EachCarriedBy (IsGood g S G) r → IsGood g S G r
  from_carried r k p i e = by_meaning r k p e (meant_by ds p) (if_declared ds p (IsProcedure c) (typed p)) (means p) (there p i) (closed p i)

  pub routine_good : (r : Routine) → IsGood g S G r
  routine_good = each_procedure (IsGood g S G) from_carried

  -- statements read what they and those procedures are found to read
  pub read_within : (ls : List TypedName) (is : List Instr) → EachStatement c ls is → ((q : ProcRef) → IsIn (calls is) q → IsIn S q) → EachNamed g.types G (each_read is) →
      ReadsWithin g (At G) (statements g is)
  read_within ls is w i v =
      statements_within g S G G (λ l h. h) c ls is w v (each_there g S G (calls is) i) (each_carried (IsGood g S G) from_carried (statements g is))
