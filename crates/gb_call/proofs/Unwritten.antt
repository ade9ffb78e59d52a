-- A procedure of the declarations writes no global but those that it is found to write.
use Rattle.std.proofs.Common.{◌≡◌, ◌≢◌, inl, inr, Bool, true, false, if◌then◌else◌, List, [], ◌∷◌, ◌++◌, Option, Some, None, refl, ap, sym, ◌∙◌, subst}
use Rattle.std.proofs.lemmas.Bool.{false≢true}
use Rattle.std.proofs.lemmas.Option.{same_Some, none-some}
use Rattle.std.specs.List.{AllByRecursion}
use Rattle.std.specs.Option.{option_map}
use Rattle.gb_core.specs.declared.var.Var.{Var}
use Rattle.gb_core.specs.declared.var.Var.TheVariants as var
use Rattle.gb_terms.specs.declared.module.ProcRef.{ProcRef}
use Rattle.gb_terms.specs.declared.term.Head.TheVariants.{Assign, Sample, Call', If', While'}
use Rattle.gb_terms.specs.declared.term.Instr.{Instr, Row_of-Instr, end_of-Instr, more_of-Instr}
use Rattle.gb_terms.specs.declared.term.Term.{Term}
use Rattle.gb_terms.specs.Equal.{var_eq}
use Rattle.gb_terms.proofs.Equality.{var_eq-Decides}
use Rattle.gb_walk.specs.Clash.{comes_before}
use Rattle.gb_meaning.specs.Commands.{called, program_of, statements}
use Rattle.gb_meaning.specs.Names.{Path}
use Rattle.gb_meaning.specs.Program.{Program, Routine}
use Rattle.gb_meaning.specs.Program.Routine.{routine}
use Rattle.gb_meaning.specs.Setting.{Setting}
use Rattle.gb_meaning.specs.Values.{Types}
use Rattle.gb_laws.specs.Cells.{Key}
use Rattle.gb_laws.specs.Cells.Key.{global, local}
use Rattle.gb_laws.specs.Writes.{keys_of, IsNone, Spares, Unwritten, UnwrittenBy}
use Rattle.gb_meaning.specs.Footprints.{globals_among}
use Rattle.gb_goal.specs.Scope.{Declarations}
use Rattle.gb_mods.specs.Called.{all_reached, called_by, row_calls, calls}
use Rattle.gb_mods.specs.Order.{placed, joined}
use Rattle.gb_mods.specs.Meant.{in_front, meant_by}
use Rattle.gb_mods.specs.Written.{row_targets, targets, written, written_by, written_if, written_itself}
use Rattle.gb_mods.specs.declared.meant.Meant.{Meant}
use Rattle.gb_mods.specs.declared.meant.Meant.TheVariants.{Unknown, Declared, Any}
use Rattle.gb_mods.proofs.Closed.{AreFollowed, IsIn, all_closed}
use Rattle.gb_prog.specs.AnyOf.{IfOneOf}
use Rattle.gb_prog.specs.Carried.{EachCarried, EachCarriedBy}
use Rattle.gb_prog.specs.Means.{Means}
use Rattle.gb_prog.proofs.Carried.{each_procedure}
use Rattle.gb_prog.proofs.Writing.{writes_of_any}
use mathlib.Core.Former.{Count}

-- what is spared by several lists of variables
module _ (t : Types) (k : Key) where
  pub spares_append : (xs ys : List Var) → Spares t (xs ++ ys) k → Spares t xs k × Spares t ys k
  spares_append [] ys h = (tt, h)
  spares_append (x ∷ xs) ys h = let z = spares_append xs ys h.1 in ((h.0, z.0), z.1)

  spares_placed : (x : Var) (ys : List Var) → Spares t (placed x ys) k → IsNone k (keys_of t x) × Spares t ys k
  spares_placed x [] h = (h.0, tt)
  spares_placed x (y ∷ ys) h = by_order (comes_before x y) (var_eq x y) refl (spares_placed x ys) h
    where
      by_order : (c d : Bool) → var_eq x y ≡ d → (Spares t (placed x ys) k → IsNone k (keys_of t x) × Spares t ys k) →
          Spares t (if c then x ∷ y ∷ ys else if d then y ∷ ys else y ∷ placed x ys) k → IsNone k (keys_of t x) × Spares t (y ∷ ys) k
      by_order true d e go h = (h.0, h.1)
      by_order false true e go h = (subst (λ z. IsNone k (keys_of t z)) (sym ((var_eq-Decides x y).0 e)) h.0, h)
      by_order false false e go h = let z = go h.1 in (z.0, (h.0, z.1))

  pub spares_joined : (xs ys : List Var) → Spares t (joined xs ys) k → Spares t xs k × Spares t ys k
  spares_joined [] ys h = (tt, h)
  spares_joined (x ∷ xs) ys h = let z = spares_placed x (joined xs ys) h in let w = spares_joined xs ys z.1 in ((z.0, w.0), w.1)

  -- it is known what is written, and the place is spared
  abbrev AreSpared : Option (List Var) → Type 0
  AreSpared None = ⊥
  AreSpared (Some xs) = Spares t xs k

  spared_front : (o r : Option (List Var)) → AreSpared (in_front o r) → AreSpared o × AreSpared r
  spared_front None r h = absurd h
  spared_front (Some xs) None h = absurd h
  spared_front (Some xs) (Some ys) h = spares_append xs ys h

  -- what each of these procedures writes itself is spared where all that they write is
  written_each : (ds : Declarations) (ps : List ProcRef) → AreSpared (written_by ds ps) → (p : ProcRef) → IsIn ps p → AreSpared (written_itself (meant_by ds p))
  written_each ds [] s p i = absurd i
  written_each ds (q ∷ ps) s p i = let z = spared_front (written_itself (meant_by ds q)) (written_by ds ps) s in by_place z.0 (written_each ds ps z.1 p) i
    where
      by_place : AreSpared (written_itself (meant_by ds q)) → (IsIn ps p → AreSpared (written_itself (meant_by ds p))) → IsIn (q ∷ ps) p → AreSpared (written_itself (meant_by ds p))
      by_place h behind (inl f) = subst (λ z. AreSpared (written_itself (meant_by ds z))) f h
      by_place h behind (inr f) = behind f

-- A place of a global that no statement of a list names.
module _ (g : Setting) (x : Path) where
  abbrev k : Key
  k = global x

  abbrev Unnamed : List Var → Type 0
  Unnamed ys = Spares g.types ys k

  -- S are procedures of the declarations, with all that they call.
  module _ (S : List ProcRef) where
    -- a routine that stands for one of them leaves the place
    abbrev IsGood : Routine → Type 0
    IsGood = IfOneOf g S (λ r. UnwrittenBy g r k)

    -- so does each that a program carries
    abbrev CallsGood : Program → Type 0
    CallsGood = EachCarried IsGood

    abbrev AreThere : List ProcRef → Type 0
    AreThere ps = AllByRecursion (IsIn S) ps

    there_append : (ps qs : List ProcRef) → AreThere (ps ++ qs) → AreThere ps × AreThere qs
    there_append [] qs h = (tt, h)
    there_append (p ∷ ps) qs h = let z = there_append ps qs h.1 in ((h.0, z.0), z.1)

    call_left : (p : ProcRef) → IsIn S p → (xs : List Var) (o : Option Routine) (es : List Term) (c : Program) → g.procedure p ≡ o → Unnamed xs → CallsGood (called xs o es c) →
        (CallsGood c → Unwritten g c k) → Unwritten g (called xs o es c) k
    call_left p i xs (Some r) es c e s h u = (s, h.0 p i e, u h.2)
    call_left p i xs None es c e s h u = u h

    row_left : {n : Count} (is : Row_of-Instr n) → Unnamed (row_targets is) → AreThere (row_calls is) → CallsGood (program_of g is) → Unwritten g (program_of g is) k
    row_left end_of-Instr s h c = tt
    row_left (more_of-Instr (Assign xs e) is) s h c = let z = spares_append g.types k xs (row_targets is) s in (z.0, row_left is z.1 h c)
    row_left (more_of-Instr (Sample y d) is) s h c = (s.0, row_left is s.1 h c)
    row_left (more_of-Instr (Call' xs p n es) is) s h c =
        let z = spares_append g.types k xs (row_targets is) s in call_left p h.0 xs (g.procedure p) _ (program_of g is) refl z.0 c (λ d. row_left is z.1 h.1 d)
    row_left (more_of-Instr (If' e m a n b) is) s h c =
        let z = spares_append g.types k (row_targets a ++ row_targets b) (row_targets is) s in
        let y = spares_append g.types k (row_targets a) (row_targets b) z.0 in
        let w = there_append (row_calls a ++ row_calls b) (row_calls is) h in
        let v = there_append (row_calls a) (row_calls b) w.0 in
        (row_left a y.0 v.0 c.0, row_left b y.1 v.1 c.1, row_left is z.1 w.1 c.2)
    row_left (more_of-Instr (While' e v n a) is) s h c =
        let z = spares_append g.types k (row_targets a) (row_targets is) s in
        let w = there_append (row_calls a) (row_calls is) h in
        (row_left a z.0 w.0 c.0, row_left is z.1 w.1 c.1)

    statements_left : (is : List Instr) → Unnamed (targets is) → AreThere (calls is) → CallsGood (statements g is) → Unwritten g (statements g is) k
    statements_left [] s h c = tt
    statements_left (Assign xs e ∷ is) s h c = let z = spares_append g.types k xs (targets is) s in (z.0, statements_left is z.1 h c)
    statements_left (Sample y d ∷ is) s h c = (s.0, statements_left is s.1 h c)
    statements_left (Call' xs p n es ∷ is) s h c =
        let z = spares_append g.types k xs (targets is) s in call_left p h.0 xs (g.procedure p) _ (statements g is) refl z.0 c (λ d. statements_left is z.1 h.1 d)
    statements_left (If' e m a n b ∷ is) s h c =
        let z = spares_append g.types k (row_targets a ++ row_targets b) (targets is) s in
        let y = spares_append g.types k (row_targets a) (row_targets b) z.0 in
        let w = there_append (row_calls a ++ row_calls b) (calls is) h in
        let v = there_append (row_calls a) (row_calls b) w.0 in
        (row_left a y.0 v.0 c.0, row_left b y.1 v.1 c.1, statements_left is z.1 w.1 c.2)
    statements_left (While' e v n a ∷ is) s h c =
        let z = spares_append g.types k (row_targets a) (targets is) s in
        let w = there_append (row_calls a) (calls is) h in
        (row_left a z.0 w.0 c.0, statements_left is z.1 w.1 c.1)

    each_there : (ps : List ProcRef) → ((p : ProcRef) → IsIn ps p → IsIn S p) → AreThere ps
    each_there [] h = tt
    each_there (p ∷ ps) h = (h p (inl refl), each_there ps (λ q i. h q (inr i)))

  abbrev is_local : Key → Bool
  is_local (local y) = true
  is_local (global y) = false

  no_local : (y : Path) → k ≢ local y
  no_local y e = false≢true (ap is_local e)

  globals_left : (ys : List Var) → Unnamed (globals_among ys) → Unnamed ys
  globals_left [] s = tt
  globals_left (var.Local y ∷ ys) s = ((no_local (y ∷ []), tt), globals_left ys s)
  globals_left (var.Global m y ∷ ys) s = (s.0, globals_left ys s.1)
  globals_left (var.Glob a ∷ ys) s = (s.0, globals_left ys s.1)

  -- references mean what they stand for
  module _ (ds : Declarations) (means : (p : ProcRef) → Means g p (meant_by ds p)) where
    -- each procedure of S leaves the place, where all that it carries do
    module _ (S : List ProcRef) (closed : AreFollowed ds S S) (spared : AreSpared g.types k (written_by ds S)) where
      by_meaning : (r : Routine) → EachCarriedBy (IsGood S) r → (p : ProcRef) → g.procedure p ≡ Some r → (m : Meant) → Means g p m → AreSpared g.types k (written_itself m) →
          ((q : ProcRef) → IsIn (called_by m) q → IsIn S q) → UnwrittenBy g r k
      by_meaning r c p e Unknown w s h = absurd s
      by_meaning r c p e (Declared f) w s h =
          let is : routine f.params f.locals (statements g f.body.list) f.value ≡ r = same_Some (routine f.params f.locals (statements g f.body.list) f.value) r (sym w ∙ e) in
          subst (λ z. UnwrittenBy g z k) is
          (statements_left S f.body.list (globals_left (targets f.body.list) s) (each_there S (calls f.body.list) h) (subst (EachCarriedBy (IsGood S)) (sym is) c))
      by_meaning r c p e (Any a qs) w s h = writes_of_any g a qs p w S h k s.0 r e c

      routine_good : (r : Routine) → IsGood S r
      routine_good = each_procedure (IsGood S) (λ r c p i e. by_meaning r c p e (meant_by ds p) (means p) (written_each g.types k ds S spared p i) (closed p i))

    -- procedures, and what they call, leave what isn't found to be written
    pub reached_left : (ps : List ProcRef) (U : List Var) → written_if ds (all_reached ds ps) ≡ Some U → Unnamed U → (p : ProcRef) → IsIn ps p → (r : Routine) → g.procedure p ≡ Some r → UnwrittenBy g r k
    reached_left ps U e s p i r c = by_reach (all_reached ds ps) refl e
      where
        by_written : (S : List ProcRef) → all_reached ds ps ≡ Some S → (o : Option (List Var)) → written_by ds S ≡ o → option_map (λ xs. joined xs []) o ≡ Some U → UnwrittenBy g r k
        by_written S d None f e = absurd (none-some U e)
        by_written S d (Some xs) f e =
            let reach = all_closed ds ps S d in
            let spared : Unnamed xs = (spares_joined g.types k xs [] (subst Unnamed (sym (same_Some (joined xs []) U e)) s)).0 in
            routine_good S reach.closed (subst (AreSpared g.types k) (sym f) spared) r p (reach.there p i) c

        by_reach : (o : Option (List ProcRef)) → all_reached ds ps ≡ o → written_if ds o ≡ Some U → UnwrittenBy g r k
        by_reach None d e = absurd (none-some U e)
        by_reach (Some S) d e = by_written S d (written_by ds S) refl e

    -- a procedure leaves what it isn't found to write
    pub procedure_left : (p : ProcRef) (U : List Var) → written ds p ≡ Some U → Unnamed U → (r : Routine) → g.procedure p ≡ Some r → UnwrittenBy g r k
    unfolding written
    procedure_left p U e s r c = reached_left (p ∷ []) U e s p (inl refl) r c
