-- A procedure that is linked reads no global but those that it may touch, and what its oracles read.
use Rattle.std.proofs.Common.{◌≡◌, inl, inr, Bool, true, false, ◌&&◌, if◌then◌else◌, List, [], ◌∷◌, ◌++◌, map, Option, Some, None, bytes_eq, refl, sym, ◌∙◌, subst}
use Rattle.std.proofs.lemmas.Bool.{and_parts}
use Rattle.std.proofs.lemmas.Option.{none-some, same_Some}
use Rattle.std.proofs.lemmas.Slice.Eq.{bytes_eq-Decides}
use Rattle.gb_core.specs.declared.ty.Ty.{Ty}
use Rattle.gb_core.specs.declared.var.Var.{Var}
use Rattle.gb_core.specs.declared.var.Var.TheVariants as var
use Rattle.gb_terms.specs.declared.decl.TypedName.{TypedName}
use Rattle.gb_terms.specs.declared.module.Mexp.TheVariants.{Name as named}
use Rattle.gb_terms.specs.declared.module.ProcRef.{ProcRef}
use Rattle.gb_terms.specs.declared.op.Read.TheVariants.{Program as of_program}
use Rattle.gb_terms.specs.declared.op.Side.TheVariants.{Own}
use Rattle.gb_terms.specs.declared.term.Head.{Head}
use Rattle.gb_terms.specs.declared.term.Head.TheVariants as head
use Rattle.gb_terms.specs.declared.term.Term.{Term, Term', Row_of-Term, end_of-Term, more_of-Term, end_of-Head, more_of-Head}
use Rattle.gb_meaning.specs.Names.{Name, Path}
use Rattle.gb_meaning.specs.Program.{Program, Routine, Oracle}
use Rattle.gb_meaning.specs.Program.Program.{done, assign, sample, branch, loop, call, ask}
use Rattle.gb_meaning.specs.Program.Routine.{routine}
use Rattle.gb_meaning.specs.Setting.{Setting}
use Rattle.gb_meaning.specs.Values.{Global}
use Rattle.gb_laws.specs.Cells.{Cell, Cells, Covers, cells_of, global_cell}
use Rattle.gb_laws.specs.Cells.Key.{local}
use Rattle.gb_laws.specs.Reads.{leaf_cells, program_cells, routine_cells, row_cells, term_cells, terms_cells}
use Rattle.gb_meaning.specs.Declared.{Signature}
use Rattle.gb_meaning.specs.Linking.{Oracles, answered, link, link_routine}
use Rattle.gb_meaning.specs.Typing.{AreArguments, AreExpressions, FitsSignature, IsDistributionOver, IsExpression, IsProgramHead, IsTyped, IsTypedRoutine, Names, global_type, type_of}
use Rattle.gb_mods.proofs.Closed.{IsIn}
use Rattle.gb_prog.specs.AnyOf.{IfOneOf, IsAnyOf, IsOneOf}
use Rattle.gb_prog.specs.Carried.{EachCarried, EachCarriedBy}
use mathlib.Core.Former.{Count}

covers_both : (F : Cell → Type 0) (l r : Cells) → Covers F l → Covers F r → Covers F (l ++ r)
covers_both F [] r h k c i = k c i
covers_both F (d ∷ l) r h k c (inl e) = h c (inl e)
covers_both F (d ∷ l) r h k c (inr i) = covers_both F l r (λ c i. h c (inr i)) k c i

same_global : (z : Global) (m y : Name) (t : Ty) → z.parent ≡ m → z.name ≡ y → z.ty ≡ t → z ≡ record { parent = m; name = y; ty = t }
same_global z m y t e f g = λ i. record { parent = e i; name = f i; ty = g i }

-- F has the cells of all frames
module _ (g : Setting) (F : Cell → Type 0) (frames : (x : Path) (t : Ty) → F (record { key = local x; ty = t })) where
  -- .. and those of these globals
  abbrev Has : List Global → Type 0
  Has gs = Covers F (map global_cell gs)

  global_read : (gs : List Global) → Has gs → (m y : Name) (t : Ty) → global_type gs m y ≡ Some t → F (global_cell (record { parent = m; name = y; ty = t }))
  global_read [] h m y t e = absurd (none-some t e)
  global_read (z ∷ gs) h m y t e = step (bytes_eq m z.parent && bytes_eq y z.name) refl e (global_read gs (λ c i. h c (inr i)) m y t)
    where
      step : (b : Bool) → (bytes_eq m z.parent && bytes_eq y z.name) ≡ b → (if b then Some z.ty else global_type gs m y) ≡ Some t →
          (global_type gs m y ≡ Some t → F (global_cell (record { parent = m; name = y; ty = t }))) → F (global_cell (record { parent = m; name = y; ty = t }))
      step true q e go =
          let p = and_parts (bytes_eq m z.parent) (bytes_eq y z.name) q in
          subst (λ (u : Global). F (global_cell u))
          (same_global z m y t (sym ((bytes_eq-Decides m z.parent).0 p.0)) (sym ((bytes_eq-Decides y z.name).0 p.1)) (same_Some z.ty t e)) (h (global_cell z) (inl refl))
      step false q e go = go e

  module _ (n : Names) (has : Has n.globals) where
    variable_read : (y : Var) (t : Ty) → type_of n y ≡ Some t → Covers F (cells_of g.types y t)
    variable_read (var.Global m y) t e c (inl f) = subst F (sym f) (global_read n.globals has m y t e)
    variable_read (var.Global m y) t e c (inr i) = absurd i
    variable_read (var.Local y) t e c (inl f) = subst F (sym f) (frames (y ∷ []) t)
    variable_read (var.Local y) t e c (inr i) = absurd i
    variable_read (var.Glob a) t e c i = absurd (none-some t e)

    leaf_read : (h : Head) (t : Ty) → IsProgramHead n h t → Covers F (leaf_cells g h t)
    leaf_read (head.Read (of_program y Own)) t w = variable_read y t w.1
    leaf_read (head.Read r) t w = absurd w
    leaf_read (head.Glob m r) t w = absurd w
    leaf_read _ t w = λ c i. absurd i

    mutual
      term_read : (e : Term) → IsExpression n e → Covers F (term_cells g e)
      term_read (Term' b (more_of-Head h end_of-Head) k ts t) w = covers_both F (leaf_cells g h t) (row_cells g ts) (leaf_read h t w.0) (row_read ts w.1)

      row_read : {k : Count} (ts : Row_of-Term k) → AreExpressions n ts → Covers F (row_cells g ts)
      row_read end_of-Term w = λ c i. absurd i
      row_read (more_of-Term t ts) w = covers_both F (term_cells g t) (row_cells g ts) (term_read t w.0) (row_read ts w.1)

    arguments_read : (es : List Term) (ps : List TypedName) → AreArguments g n es ps → Covers F (terms_cells g es)
    arguments_read [] ps w = λ c i. absurd i
    arguments_read (e ∷ es) [] w = absurd w
    arguments_read (e ∷ es) (p ∷ ps) w = covers_both F (term_cells g e) (terms_cells g es) (term_read e w.0.0) (arguments_read es ps w.2)

    drawn_read : (o : Option Ty) (d : Term) → IsDistributionOver g n o d → Covers F (term_cells g d)
    drawn_read None d w = absurd w
    drawn_read (Some t) d w = term_read d w.0

  module _ (ss : Oracle → Option Signature) (os : Oracles) (S : List ProcRef) (answers : (o : Oracle) (s : Signature) → ss o ≡ Some s → (r : Routine) → os o ≡ Some r → IsOneOf g S r) where
    -- where one of the references means it, it reads within F
    abbrev IsWithin : Routine → Type 0
    IsWithin = IfOneOf g S (λ r. Covers F (routine_cells g r))

    asked_read : (n : Names) → Has n.globals → (xs : List Var) (o : Oracle) (es : List Term) (c : Program) (s : Option Signature) → ss o ≡ s → FitsSignature g n s xs es →
        (r : Option Routine) → os o ≡ r → EachCarried IsWithin (answered r xs o es c) → (EachCarried IsWithin c → Covers F (program_cells g c)) →
        Covers F (program_cells g (answered r xs o es c))
    asked_read n has xs o es c None e w r q h go = absurd w
    asked_read n has xs o es c (Some s) e w None q h go = go h
    asked_read n has xs o es c (Some s) e w (Some r) q h go =
        let z = answers o s e r q in
        covers_both F (terms_cells g es) (routine_cells g r ++ program_cells g c) (arguments_read n has es s.params w.0)
        (covers_both F (routine_cells g r) (program_cells g c) (h.0 z.0 z.1 z.2) (go h.2))

    mutual
      linked_read : (n : Names) → Has n.globals → (c : Program) → IsTyped g ss n c → EachCarried IsWithin (link os c) → Covers F (program_cells g (link os c))
      linked_read n has done w h = λ c i. absurd i
      linked_read n has (assign xs e c) w h = covers_both F (term_cells g e) (program_cells g (link os c)) (term_read n has e w.0.0) (linked_read n has c w.2 h)
      linked_read n has (sample x d c) w h = covers_both F (term_cells g d) (program_cells g (link os c)) (drawn_read n has (type_of n x) d w.0) (linked_read n has c w.1 h)
      linked_read n has (branch e a b c) w h =
          covers_both F (term_cells g e) (program_cells g (link os a) ++ (program_cells g (link os b) ++ program_cells g (link os c))) (term_read n has e w.0.0.0)
          (covers_both F (program_cells g (link os a)) (program_cells g (link os b) ++ program_cells g (link os c)) (linked_read n has a w.1 h.0)
          (covers_both F (program_cells g (link os b)) (program_cells g (link os c)) (linked_read n has b w.2 h.1) (linked_read n has c w.3 h.2)))
      linked_read n has (loop e v a c) w h =
          covers_both F (term_cells g e) (term_cells g v ++ (program_cells g (link os a) ++ program_cells g (link os c))) (term_read n has e w.0.0.0)
          (covers_both F (term_cells g v) (program_cells g (link os a) ++ program_cells g (link os c)) (term_read n has v w.1.0.0)
          (covers_both F (program_cells g (link os a)) (program_cells g (link os c)) (linked_read n has a w.2 h.0) (linked_read n has c w.3 h.1)))
      linked_read n has (call xs r es c) w h =
          covers_both F (terms_cells g es) (routine_cells g (link_routine os r) ++ program_cells g (link os c)) (arguments_read n has es _ w.1)
          (covers_both F (routine_cells g (link_routine os r)) (program_cells g (link os c)) (routine_read n.globals has r w.0 h.1) (linked_read n has c w.3 h.2))
      linked_read n has (ask xs o es c) w h = asked_read n has xs o es (link os c) (ss o) refl w.0 (os o) refl h (λ z. linked_read n has c w.1 z)

      pub routine_read : (gs : List Global) → Has gs → (r : Routine) → IsTypedRoutine g ss gs r → EachCarriedBy IsWithin (link_routine os r) → Covers F (routine_cells g (link_routine os r))
      routine_read gs has (routine ps ls c v) w h =
          let n : Names = record { globals = gs; locals = ps ++ ls } in
          covers_both F (term_cells g v) (program_cells g (link os c)) (term_read n has v w.2.0) (linked_read n has c w.1 h)

-- what means a procedure of an abstract module reads within F, where F has the module's globals and its oracles read within it
pub reads_of_any : (g : Setting) (a : Name) (qs : List ProcRef) (p : ProcRef) → IsAnyOf g a qs p → (S : List ProcRef) → ((q : ProcRef) → IsIn qs q → IsIn S q) →
    (F : Cell → Type 0) → ((x : Path) (t : Ty) → F (record { key = local x; ty = t })) → Covers F (map global_cell (g.types.footprint (named a))) →
    (r : Routine) → g.procedure p ≡ Some r → EachCarriedBy (IfOneOf g S (λ s. Covers F (routine_cells g s))) r → Covers F (routine_cells g r)
reads_of_any g a qs p w S among F frames has r e h =
    let same = same_Some (link_routine w.oracles w.own) r (sym w.there ∙ e) in
    subst (λ s. Covers F (routine_cells g s)) same
    (routine_read g F frames w.callable w.oracles S (λ o s k u f. (let z = w.answers o s k u f in (z.0, among z.0 z.1, z.2))) (g.types.footprint (named a)) has w.own w.typed
    (subst (EachCarriedBy (IfOneOf g S (λ s. Covers F (routine_cells g s)))) (sym same) h))
