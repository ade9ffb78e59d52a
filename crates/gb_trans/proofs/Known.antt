-- What statements do to memories whose effects are known.
use Rattle.std.proofs.Common.{◌≡◌, ◌≢◌, inl, inr, true, false, List, [], ◌∷◌, ◌++◌, Option, Some, None, refl, ap, sym, ◌∙◌, subst}
use Rattle.std.proofs.lemmas.Bool.{false≢true}
use Rattle.std.proofs.lemmas.Option.{same_Some, none-some}
use Rattle.std.specs.Option.{option_map}
use Rattle.gb_core.specs.declared.var.Var.{Var}
use Rattle.gb_terms.specs.declared.decl.Proc.{Proc}
use Rattle.gb_terms.specs.declared.decl.TypedName.{TypedName}
use Rattle.gb_terms.specs.declared.module.ProcRef.{ProcRef}
use Rattle.gb_terms.specs.declared.term.Head.TheVariants.{Assign, Sample, Call', If', While'}
use Rattle.gb_terms.specs.declared.term.Instr.{Instr, Row_of-Instr, end_of-Instr, more_of-Instr}
use Rattle.gb_meaning.specs.Commands.{statements}
use Rattle.gb_meaning.specs.Setting.{Setting}
use Rattle.gb_meaning.specs.State.{State}
use Rattle.gb_laws.specs.Cells.{Key}
use Rattle.gb_laws.specs.Writes.{Spares, Unwritten}
use Rattle.gb_meaning.specs.Footprints as own
use Rattle.gb_meaning.specs.Footprints.{touched_in, variables, variables_in}
use Rattle.gb_goal.specs.Scope.{Declarations, procedure_of}
use Rattle.gb_mods.specs.Called.{all_reached, calls}
use Rattle.gb_mods.specs.Footprint.{touched}
use Rattle.gb_mods.specs.Meant.{in_front, meant_by}
use Rattle.gb_mods.specs.Read.{each_read, read_itself, row_read, statement_read}
use Rattle.gb_mods.specs.Touched.{apart, each_touched, touched_itself}
use Rattle.gb_mods.specs.Written.{row_targets, statement_targets, targets, written_by, written_itself}
use Rattle.gb_mods.specs.declared.meant.Meant.{Meant}
use Rattle.gb_mods.specs.declared.meant.Meant.TheVariants.{Unknown, Declared, Any}
use Rattle.gb_mods.proofs.Closed.{AreFollowed, IsIn, all_closed}
use Rattle.gb_prog.specs.Means.{Means}
use Rattle.gb_typing.specs.Context.{Context}
use Rattle.gb_typing.specs.Forms.{IsKeptOff}
use Rattle.gb_typing.specs.Programs.{EachStatement, IsProcedure}
use Rattle.gb_walk.specs.Clash.{Exclusions}
use Rattle.gb_prog.specs.Loops.{RunAlike}
use Rattle.gb_forms.specs.declared.effects.Effects.{Effects}
use Rattle.gb_trans.specs.Effects.{crossing, effects_if, effects_of}
use Rattle.gb_trans.proofs.Apart.{naming, uncrossed, unmet_unnamed, unnamed_spared}
use Rattle.gb_trans.proofs.Crossing as alike
use Rattle.gb_trans.proofs.Named.{EachNamed, named_append, named_both, named_spares, named_weaken}
use Rattle.gb_trans.proofs.ReadPlaces.{AreRead, At, Framed, read_within, with_locals, without_locals}
use Rattle.gb_trans.proofs.Unwritten.{leave}
use Rattle.gb_trans.proofs.Within.{ReadsWithin}
use mathlib.Core.Former.{Count}

-- what is written is touched, and what is read
module _ (g : Setting) (P : Key → Type 0) where
  abbrev Names : List Var → Type 0
  Names xs = EachNamed g.types P xs

  mutual
    statement_names : (i : Instr) → Names (own.touched apart i) → Names (statement_targets i)
    statement_names (Assign xs e) v = (named_append g.types P xs (variables e) v).0
    statement_names (Sample x d) v = (v.0, tt)
    statement_names (Call' xs p n es) v = (named_append g.types P xs (variables_in es) (named_append g.types P (xs ++ variables_in es) [] v).0).0
    statement_names (If' e m a n b) v =
        let y = named_append g.types P (variables e ++ touched_in apart a) (touched_in apart b) v in
        named_both g.types P (row_targets a) (row_targets b) (row_names a (named_append g.types P (variables e) (touched_in apart a) y.0).1) (row_names b y.1)
    statement_names (While' e t n a) v = row_names a (named_append g.types P (variables e ++ variables t) (touched_in apart a) v).1

    row_names : {n : Count} (is : Row_of-Instr n) → Names (touched_in apart is) → Names (row_targets is)
    row_names end_of-Instr v = tt
    row_names (more_of-Instr i is) v =
        let z = named_append g.types P (own.touched apart i) (touched_in apart is) v in
        named_both g.types P (statement_targets i) (row_targets is) (statement_names i z.0) (row_names is z.1)

  list_names : (is : List Instr) → Names (each_touched is) → Names (targets is)
  list_names [] v = tt
  list_names (i ∷ is) v =
      let z = named_append g.types P (own.touched apart i) (each_touched is) v in
      named_both g.types P (statement_targets i) (targets is) (statement_names i z.0) (list_names is z.1)

  mutual
    statement_reads : (i : Instr) → Names (own.touched apart i) → Names (statement_read i)
    statement_reads (Assign xs e) v = (named_append g.types P xs (variables e) v).1
    statement_reads (Sample x d) v = v.1
    statement_reads (Call' xs p n es) v = (named_append g.types P xs (variables_in es) (named_append g.types P (xs ++ variables_in es) [] v).0).1
    statement_reads (If' e m a n b) v =
        let y = named_append g.types P (variables e ++ touched_in apart a) (touched_in apart b) v in
        let x = named_append g.types P (variables e) (touched_in apart a) y.0 in
        named_both g.types P (variables e ++ row_read a) (row_read b) (named_both g.types P (variables e) (row_read a) x.0 (row_reads a x.1)) (row_reads b y.1)
    statement_reads (While' e t n a) v =
        let y = named_append g.types P (variables e ++ variables t) (touched_in apart a) v in
        named_both g.types P (variables e ++ variables t) (row_read a) y.0 (row_reads a y.1)

    row_reads : {n : Count} (is : Row_of-Instr n) → Names (touched_in apart is) → Names (row_read is)
    row_reads end_of-Instr v = tt
    row_reads (more_of-Instr i is) v =
        let z = named_append g.types P (own.touched apart i) (touched_in apart is) v in
        named_both g.types P (statement_read i) (row_read is) (statement_reads i z.0) (row_reads is z.1)

  list_reads : (is : List Instr) → Names (each_touched is) → Names (each_read is)
  list_reads [] v = tt
  list_reads (i ∷ is) v =
      let z = named_append g.types P (own.touched apart i) (each_touched is) v in
      named_both g.types P (statement_read i) (each_read is) (statement_reads i z.0) (list_reads is z.1)

-- it is known what is written
abbrev AreThere : Option (List Var) → Type 0
AreThere None = ⊥
AreThere (Some xs) = Unit {0}

there_front : (o r : Option (List Var)) → AreThere (in_front o r) → AreThere o × AreThere r
there_front None r h = absurd h
there_front (Some xs) None h = absurd h
there_front (Some xs) (Some ys) h = (tt, tt)

each_there : (ds : Declarations) (ps : List ProcRef) → AreThere (written_by ds ps) → (p : ProcRef) → IsIn ps p → AreThere (written_itself (meant_by ds p))
each_there ds [] h p i = absurd i
each_there ds (q ∷ ps) h p i = let z = there_front (written_itself (meant_by ds q)) (written_by ds ps) h in by_place z.0 (each_there ds ps z.1 p) i
  where
    by_place : AreThere (written_itself (meant_by ds q)) → (IsIn ps p → AreThere (written_itself (meant_by ds p))) → IsIn (q ∷ ps) p → AreThere (written_itself (meant_by ds p))
    by_place h behind (inl f) = subst (λ z. AreThere (written_itself (meant_by ds z))) f h
    by_place h behind (inr j) = behind j

module _ (g : Setting) (G : Key → Type 0) where
  -- what a procedure touches itself it reads, and what it writes is among it
  touched_read : (m : Meant) → EachNamed g.types G (touched_itself m) → AreThere (written_itself m) → AreRead g G (read_itself m)
  touched_read Unknown v h = absurd h
  touched_read (Declared a) v h =
      let all = with_locals g G (each_touched a.body.list ++ variables a.value) v in
      let parts = named_append g.types (Framed G) (each_touched a.body.list) (variables a.value) all in
      without_locals g G (each_read a.body.list ++ variables a.value)
      (named_both g.types (Framed G) (each_read a.body.list) (variables a.value) (list_reads g (Framed G) a.body.list parts.0) parts.1)
  touched_read (Any a qs) v h = v

  abbrev IfNamed : Option (List Var) → Type 0
  IfNamed None = Unit {0}
  IfNamed (Some xs) = EachNamed g.types G xs

  touched_written : (m : Meant) → EachNamed g.types G (touched_itself m) → IfNamed (written_itself m)
  touched_written Unknown v = tt
  touched_written (Declared a) v =
      let all = with_locals g G (each_touched a.body.list ++ variables a.value) v in
      without_locals g G (targets a.body.list) (list_names g (Framed G) a.body.list (named_append g.types (Framed G) (each_touched a.body.list) (variables a.value) all).0)
  touched_written (Any a qs) v = v

  named_front : (o r : Option (List Var)) → IfNamed o → IfNamed r → IfNamed (in_front o r)
  named_front None r h k = tt
  named_front (Some xs) None h k = tt
  named_front (Some xs) (Some ys) h k = named_both g.types G xs ys h k

module _ (g : Setting) (ds : Declarations) (G : Key → Type 0) where
  each_named : (ps : List ProcRef) → EachNamed g.types G (touched ds ps) → (p : ProcRef) → IsIn ps p → EachNamed g.types G (touched_itself (meant_by ds p))
  each_named [] v p i = absurd i
  each_named (q ∷ ps) v p (inl e) = subst (λ z. EachNamed g.types G (touched_itself (meant_by ds z))) e (named_append g.types G (touched_itself (meant_by ds q)) (touched ds ps) v).0
  each_named (q ∷ ps) v p (inr i) = each_named ps (named_append g.types G (touched_itself (meant_by ds q)) (touched ds ps) v).1 p i

  procedures_read : (ps : List ProcRef) → EachNamed g.types G (touched ds ps) → (xs : List Var) → written_by ds ps ≡ Some xs → (p : ProcRef) → IsIn ps p → AreRead g G (read_itself (meant_by ds p))
  procedures_read ps v xs e p i = touched_read g G (meant_by ds p) (each_named ps v p i) (each_there ds ps (subst AreThere (sym e) tt) p i)

  names_written : (ps : List ProcRef) → EachNamed g.types G (touched ds ps) → IfNamed g G (written_by ds ps)
  names_written [] v = tt
  names_written (p ∷ ps) v =
      let z = named_append g.types G (touched_itself (meant_by ds p)) (touched ds ps) v in
      named_front g G (written_itself (meant_by ds p)) (written_by ds ps) (touched_written g G (meant_by ds p) z.0) (names_written ps z.1)

  procedures_name : (ps : List ProcRef) → EachNamed g.types G (touched ds ps) → (xs : List Var) → written_by ds ps ≡ Some xs → EachNamed g.types G xs
  procedures_name ps v xs e = subst (IfNamed g G) e (names_written ps v)

-- how effects are known
record IsKnown (ds : Declarations) (is : List Instr) (e : Effects) : Type 0 where
  reached : List ProcRef
  closed : AreFollowed ds reached reached
  there : (q : ProcRef) → IsIn (calls is) q → IsIn reached q
  others : List Var
  found : written_by ds reached ≡ Some others
  effects : e ≡ record { written = targets is ++ others; touched = each_touched is ++ touched ds reached }

known : (ds : Declarations) (is : List Instr) (e : Effects) → effects_of ds is ≡ Some e → IsKnown ds is e
unfolding effects_of
known ds is e f = by_reached (all_reached ds (calls is)) refl f
  where
    by_others : (S : List ProcRef) → all_reached ds (calls is) ≡ Some S → (o : Option (List Var)) → written_by ds S ≡ o →
        option_map (λ xs. record { written = targets is ++ xs; touched = each_touched is ++ touched ds S }) o ≡ Some e → IsKnown ds is e
    by_others S r None w f = absurd (none-some e f)
    by_others S r (Some xs) w f =
        let z = all_closed ds (calls is) S r in
        record { reached = S; closed = z.closed; there = z.there; others = xs; found = w; effects = sym (same_Some _ e f) }

    by_reached : (o : Option (List ProcRef)) → all_reached ds (calls is) ≡ o → effects_if ds is o ≡ Some e → IsKnown ds is e
    by_reached None r f = absurd (none-some e f)
    by_reached (Some S) r f = by_others S r (written_by ds S) refl f

-- declared procedures are typed, and references mean what they stand for
module _ (g : Setting) (ds : Declarations) (c : Context) (typed : (p : ProcRef) (a : Proc) → procedure_of ds p ≡ Some a → IsProcedure c a)
    (means : (p : ProcRef) → Means g p (meant_by ds p)) where
  module _ (is : List Instr) (e : Effects) (k : IsKnown ds is e) where
    writes : (q : Key) → Spares g.types e.written q → Unwritten g (statements g is) q
    writes q s = leave g ds means k.reached k.closed is k.there k.others k.found q (subst (λ z. Spares g.types z.written q) k.effects s)

    touches : (G : Key → Type 0) → EachNamed g.types G e.touched → EachNamed g.types G (each_touched is) × EachNamed g.types G (touched ds k.reached)
    touches G v = named_append g.types G (each_touched is) (touched ds k.reached) (subst (λ z. EachNamed g.types G z.touched) k.effects v)

    reads : (ls : List TypedName) → EachStatement c ls is → (G : Key → Type 0) → EachNamed g.types G e.touched → ReadsWithin g (At G) (statements g is)
    reads ls w G v =
        let z = touches G v in
        read_within g ds c typed means k.reached k.closed G (procedures_read g ds G k.reached z.1 k.others k.found) ls is w k.there (list_reads g G is z.0)

    untouched : (q : Key) → EachNamed g.types (λ r. q ≢ r) e.touched → Unwritten g (statements g is) q
    untouched q v =
        let z = touches (λ r. q ≢ r) v in
        writes q (subst (λ z. Spares g.types z.written q) (sym k.effects)
        (named_spares g.types q (targets is ++ k.others)
        (named_both g.types (λ r. q ≢ r) (targets is) k.others (list_names g (λ r. q ≢ r) is z.0) (procedures_name g ds (λ r. q ≢ r) k.reached z.1 k.others k.found))))

    -- where none of these variables clashes with what they touch
    outside : (xs : List Var) → EachNamed g.types (λ q. naming g.types xs q ≡ false) e.touched → (q : Key) → naming g.types xs q ≡ true → Unwritten g (statements g is) q
    outside xs v q t = untouched q (named_weaken g.types (λ q. naming g.types xs q ≡ false) (λ r. q ≢ r) (λ r f p. false≢true (sym f ∙ ap (naming g.types xs) (sym p) ∙ t)) e.touched v)

  -- statements leave each place that they aren't found to write
  pub leave_spared : (is : List Instr) (e : Effects) → effects_of ds is ≡ Some e → (q : Key) → Spares g.types e.written q → Unwritten g (statements g is) q
  leave_spared is e x = writes is e (known ds is e x)

  -- statements of which nothing crosses run alike in either order
  pub uncrossed_alike : (es : Exclusions) → IsKeptOff es g → (ls : List TypedName) (is js : List Instr) → EachStatement c ls is → EachStatement c ls js → (a b : Effects) → effects_of ds is ≡ Some a → effects_of ds js ≡ Some b →
      crossing es a b ≡ None → (s : State) → RunAlike g s (statements g (is ++ js)) (statements g (js ++ is))
  uncrossed_alike es off ls is js w v a b x y e s =
      let k = known ds is a x in
      let l = known ds js b y in
      let u = uncrossed es a b e in
      let on_is = unmet_unnamed g es off b.written a.touched u.1 in
      let on_js = unmet_unnamed g es off a.written b.touched u.0 in
      alike.crossing g s is js (naming g.types a.written) (naming g.types b.written)
      (λ q t. writes is a k q (unnamed_spared g.types a.written q t)) (λ q t. writes js b l q (unnamed_spared g.types b.written q t))
      (reads is a k ls w (λ q. naming g.types b.written q ≡ false) on_is) (reads js b l ls v (λ q. naming g.types a.written q ≡ false) on_js)
      (outside is a k b.written on_is) (outside js b l a.written on_js)
