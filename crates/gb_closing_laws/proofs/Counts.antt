-- Terms by their things.
use Rattle.std.proofs.Common.{◌≡◌, ◌≢◌, ◌⊎◌, inl, inr, ℕ, ◌+◌, ◌≤◌, ◌==◌, Bool, true, false, if◌then◌else◌, Option, Some, None, List, [], ◌∷◌, ◌++◌, map, get_or, refl, ap, sym, ◌∙◌, arith}
use Rattle.std.specs.List.{flat_map}
use Rattle.std.proofs.lemmas.Bool.{and_parts, false≢true}
use Rattle.std.proofs.lemmas.Bool.Decides.{eqb_tells}
use Rattle.gb_core.specs.declared.ty.Ty.{Ty}
use Rattle.gb_core.specs.declared.ty.Ty.TheVariants as ty
use Rattle.gb_core.specs.declared.var.Var.{Var}
use Rattle.gb_core.specs.declared.var.Var.TheVariants as var
use Rattle.gb_terms.specs.declared.op.Op.{Op}
use Rattle.gb_terms.specs.declared.op.Op.TheVariants as op
use Rattle.gb_terms.specs.declared.op.Read.{Read}
use Rattle.gb_terms.specs.declared.op.Read.TheVariants.{Logical, Program}
use Rattle.gb_terms.specs.declared.op.Side.TheVariants as side
use Rattle.gb_terms.specs.declared.term.Term.{Term, Term', Row_of-Term, end_of-Term, more_of-Term, end_of-Head, more_of-Head}
use Rattle.gb_terms.specs.declared.term.Head.{Head}
use Rattle.gb_terms.specs.declared.term.Head.TheVariants as head
use Rattle.gb_meaning.specs.Names.{Name}
use Rattle.gb_meaning.specs.Written.{type_of}
use Rattle.gb_walk.specs.Layers.{seen_by}
use Rattle.gb_laws.specs.Operators.{IsDistributionType, IsOperator}
use Rattle.gb_laws.specs.Typing.{Context, types_of, IsHead, IsMemory, binder, inner, IsTyped, AreTyped}
use Rattle.gb_walk.specs.Clash.{Exclusions}
use Rattle.gb_labels.specs.Reads.{Vars, are_free, each_reads, head_reads, inside, is_among, joined, reads_at}
use Rattle.gb_labels.specs.declared.things.Source.{Source}
use Rattle.gb_labels.specs.declared.things.Source.TheVariants.{Variable, Opened, Place}
use Rattle.gb_labels.specs.declared.things.Thing.{Thing}
use Rattle.gb_labels.specs.Things.{holds_glob, modules_of, of_types, bound_by, reads_inside, thing_of, things_at, all_things_at, reads_freely, all_read_freely}
use Rattle.gb_meaning.specs.Globs.{IsGlobless}
use Rattle.gb_closing_laws.specs.Related.{ReadTypes}
use Rattle.gb_closing_laws.specs.Needs.{names_in, times, quantified_at, quantified, all_quantified, opened_at, opened, all_opened, IsCountedType, AreCountedTypes, IsMadeOf, CountsAt, Counts, AllCount, inside as inside_of}
use Rattle.gb_closing_laws.specs.Model.{IsOfValuesAt, IsOfValues, AreOfValues, HeadReads, Reads, AllRead}
use Rattle.gb_closing_laws.proofs.Globless.{globless}
use Rattle.gb_closing_laws.proofs.Room.{times_append}
use Rattle.gb_closing_laws.proofs.Noted.{Each, each_append, each_left, each_right, is_opened, is_place, names_of, names_append}
use Rattle.gb_closing_laws.proofs.Seen.{AllAmong, among_left, among_right, AreSeen, BindsMemory, LastAmong, own_among, seen_under}
use mathlib.Core.Former.{Count}

-- what is said of the reads among things, and of the values of options
abbrev pub SourceIs : (Read → Ty → Type 0) → Source → Ty → Type 0
SourceIs Q (Variable r) a = Q r a
SourceIs Q (Opened t) a = a ≡ type_of t
SourceIs Q Place a = Unit {0}

module _ (Q : Read → Ty → Type 0) where
  abbrev pub ThingIs : Thing → Type 0
  ThingIs x = SourceIs Q x.source x.ty

  types_are : (us : List Ty) → Each ThingIs (of_types us)
  types_are [] = tt
  types_are (u ∷ us) = (tt, types_are us)

  head_things : (d : Head) (t : Term) (a : Ty) → a ≡ type_of t → HeadReads Q d a → Each ThingIs (thing_of d t a)
  head_things (head.Read (Logical i)) t a e k = (k, tt)
  head_things (head.Read (Program x side.Own)) t a e k = (k, tt)
  head_things (head.Read (Program x side.Left)) t a e k = (k, tt)
  head_things (head.Read (Program x side.Right)) t a e k = (k, tt)
  head_things (head.Read (Program x (side.Memory i))) t a e k = (k, tt)
  head_things (head.Read (Program x (side.Bound i))) t a e k = tt
  head_things (head.Builtin op.Oget) t a e k = (e, tt)
  head_things (head.Builtin op.Uniform) t a e k = (tt, tt)
  head_things _ t a e k = tt

  things_head : (d : Head) (t : Term) (a : Ty) → Each ThingIs (thing_of d t a) → HeadReads Q d a
  things_head (head.Read (Logical i)) t a k = k.0
  things_head (head.Read (Program x side.Own)) t a k = k.0
  things_head (head.Read (Program x side.Left)) t a k = k.0
  things_head (head.Read (Program x side.Right)) t a k = k.0
  things_head (head.Read (Program x (side.Memory i))) t a k = k.0
  things_head (head.Read (Program x (side.Bound i))) t a k = tt
  things_head _ t a k = tt

  mutual
    -- the reads of a term are those among its things
    pub term_things : (t : Term) → Reads Q t → Each ThingIs (things_at t)
    term_things (Term' p (more_of-Head d end_of-Head) n ts a) k =
        let t : Term = Term' p (more_of-Head d end_of-Head) n ts a in
        let us = bound_by d (types_of ts) (reads_inside d ts) in
        each_append ThingIs (thing_of d t a) (of_types us ++ all_things_at ts) (head_things d t a refl k.0) (each_append ThingIs (of_types us) (all_things_at ts) (types_are us) (row_things ts k.1))

    row_things : {n : Count} (ts : Row_of-Term n) → AllRead Q ts → Each ThingIs (all_things_at ts)
    row_things end_of-Term k = tt
    row_things (more_of-Term t ts) k = each_append ThingIs (things_at t) (all_things_at ts) (term_things t k.0) (row_things ts k.1)

  mutual
    pub things_term : (t : Term) → Each ThingIs (things_at t) → Reads Q t
    things_term (Term' p (more_of-Head d end_of-Head) n ts a) k =
        let t : Term = Term' p (more_of-Head d end_of-Head) n ts a in
        let bound = of_types (bound_by d (types_of ts) (reads_inside d ts)) in (
          things_head d t a (each_left ThingIs (thing_of d t a) (bound ++ all_things_at ts) k),
          things_row ts (each_right ThingIs bound (all_things_at ts) (each_right ThingIs (thing_of d t a) (bound ++ all_things_at ts) k)),
        )

    things_row : {n : Count} (ts : Row_of-Term n) → Each ThingIs (all_things_at ts) → AllRead Q ts
    things_row end_of-Term k = tt
    things_row (more_of-Term t ts) k =
        (things_term t (each_left ThingIs (things_at t) (all_things_at ts) k), things_row ts (each_right ThingIs (things_at t) (all_things_at ts) k))

-- A counted thing: its type's parts are counted, and a read is one at its type.

abbrev pub ReadCounts : ReadTypes → Source → Ty → Type 0
ReadCounts T (Variable r) a = T r ≡ Some a
ReadCounts T _ a = Unit {0}

no_modules : (ms : List Name) → ◌≡◌ {A = Option (List Name)} None (Some ms) → ⊥
no_modules ms e = cc

module _ (T : ReadTypes) where
  abbrev pub ThingCounts : Thing → Type 0
  ThingCounts x = IsCountedType x.ty × ReadCounts T x.source x.ty

  drawn_globless : (a : Ty) → IsDistributionType a → IsCountedType a → IsGlobless a
  drawn_globless (ty.Distr' p x) m c = globless (ty.Distr' p x) (without (holds_glob (ty.Distr' p x)) refl c.1)
    where
      without : (b : Bool) → holds_glob (ty.Distr' p x) ≡ b → modules_of (ty.Distr' p x) ≡ Some c.0 → holds_glob (ty.Distr' p x) ≡ false
      without false h e = h
      without true h e = absurd (no_modules c.0 (sym (ap (λ (b : Bool). if b then None else Some []) h) ∙ e))
  drawn_globless _ m c = absurd m

  made_counts : (o : Op) (t : Term) (a : Ty) (us : List Ty) → IsOperator o us a → Each ThingCounts (thing_of (head.Builtin o) t a) → IsMadeOf o a
  made_counts op.Oget t a us w k = k.0.0
  made_counts op.Uniform t a [] w k = drawn_globless a w k.0.0
  made_counts op.Uniform t a (u ∷ us) w k = absurd w
  made_counts _ t a us w k = tt

  -- a read of a bound memory is of the memory that its binder binds
  bound_side : (c : Context) (x : Var) (i : ℕ) (us : List Ty) (a : Ty) → IsHead c (head.Read (Program x (side.Bound i))) us a → IsMemory (binder c i)
  bound_side c (var.Global m n) i [] a w = w.0
  bound_side c (var.Local n) i [] a w = w.0
  bound_side c (var.Glob m) i [] a w = w.0
  bound_side c x i (u ∷ us) a w = absurd w

  bound_read : (x : Var) (i : ℕ) (vs : Vars) (a : Ty) → AllAmong (head_reads (head.Read (Program x (side.Bound i))) a i) vs → is_among vs x a ≡ true
  bound_read x i vs a k = step (i == i) (own (eqb_tells i i)) k
    where
      own : (((i == i) ≡ true) × (i ≡ i)) ⊎ (((i == i) ≡ false) × (i ≢ i)) → (i == i) ≡ true
      own (inl p) = p.0
      own (inr p) = absurd (p.1 refl)

      step : (b : Bool) → b ≡ true → AllAmong (if b then record { var = x; ty = a } ∷ [] else []) vs → is_among vs x a ≡ true
      step true e k = k.0
      step false e k = absurd (false≢true e)

  counted_types : (vs : Vars) → Each ThingCounts (of_types (map (λ v. v.ty) vs)) → AreCountedTypes vs
  counted_types [] k = tt
  counted_types (v ∷ vs) k = (k.0.0, counted_types vs k.1)

  module _ (es : Exclusions) where
    module _ (c : Context) (vss : List Vars) (t : Term) (a : Ty) {n : Count} (ts : Row_of-Term n) where
      head_counts : (d : Head) → IsHead c d (types_of ts) a → IsOfValuesAt d → Each ThingCounts (thing_of d t a) → Each ThingCounts (of_types (bound_by d (types_of ts) (reads_inside d ts))) →
          are_free es (reads_inside d ts) ≡ true → AreSeen c vss (head_reads d a) → CountsAt es T vss d (reads_inside d ts) a
      head_counts (head.Read (Logical i)) w v k l f s = k.0.1
      head_counts (head.Read (Program x side.Own)) w v k l f s = k.0.1
      head_counts (head.Read (Program x side.Left)) w v k l f s = k.0.1
      head_counts (head.Read (Program x side.Right)) w v k l f s = k.0.1
      head_counts (head.Read (Program x (side.Memory i))) w v k l f s = k.0.1
      head_counts (head.Read (Program x (side.Bound i))) w v k l f s = bound_read x i (get_or vss i []) a (s i (bound_side c x i (types_of ts) a w))
      head_counts (head.Builtin o) w v k l f s = made_counts o t a (types_of ts) w k
      head_counts (head.All u) w v k l f s = l.0.0
      head_counts (head.Some u) w v k l f s = l.0.0
      head_counts head.AllMemory w v k l f s = (f, counted_types (reads_inside head.AllMemory ts) l)
      head_counts head.SomeMemory w v k l f s = (f, counted_types (reads_inside head.SomeMemory ts) l)
      head_counts _ w v k l f s = v

    mutual
      -- a well-typed term of values whose things are counted, and whose reads are among those of their binders, is counted
      pub term_counts : (c : Context) (vss : List Vars) (t : Term) → IsTyped c t → IsOfValues t → reads_freely es t ≡ true → AreSeen c vss (reads_at t) → Each ThingCounts (things_at t) → Counts es T vss t
      term_counts c vss (Term' p (more_of-Head d end_of-Head) n ts a) w v f s k =
          let t : Term = Term' p (more_of-Head d end_of-Head) n ts a in
          let vs : Vars = reads_inside d ts in
          let bound = of_types (bound_by d (types_of ts) vs) in
          let free = and_parts (are_free es vs) (all_read_freely es ts) f in
          let behind = each_right ThingCounts (thing_of d t a) (bound ++ all_things_at ts) k in (
            head_counts c vss t a ts d w.0 v.0 (each_left ThingCounts (thing_of d t a) (bound ++ all_things_at ts) k) (each_left ThingCounts bound (all_things_at ts) behind) free.0
                (λ i m. among_left (head_reads d a i) (joined (seen_by i (inside d i) (each_reads ts))) (get_or vss i []) (s i m)),
            row_counts c (inner c d (types_of ts)) d vs vss (inside_of d vs vss) (seen_under c d (types_of ts) a w.0 vs vss) ts w.1 v.1 free.1
                (λ i m. among_right (head_reads d a i) (joined (seen_by i (inside d i) (each_reads ts))) (get_or vss i []) (s i m)) (own_among c d ts a w.0)
                (each_right ThingCounts bound (all_things_at ts) behind),
          )

      row_counts : {n : Count} (c e : Context) (d : Head) (vs : Vars) (vss wss : List Vars) →
          ((t : Term) → (BindsMemory d → AllAmong (reads_at t 0) vs) → ((i : ℕ) → IsMemory (binder c i) → AllAmong (reads_at t (inside d i)) (get_or vss i [])) → AreSeen e wss (reads_at t)) →
          (ts : Row_of-Term n) → AreTyped c e ts → AreOfValues ts → all_read_freely es ts ≡ true → AreSeen c vss (λ i. joined (seen_by i (inside d i) (each_reads ts))) →
          (BindsMemory d → LastAmong vs ts) → Each ThingCounts (all_things_at ts) → AllCount es T vss wss ts
      row_counts c e d vs vss wss under end_of-Term w v f s own k = tt
      row_counts c e d vs vss wss under (more_of-Term t end_of-Term) w v f s own k =
          term_counts e wss t w v.0 (and_parts (reads_freely es t) true f).0 (under t own (λ i m. among_left (reads_at t (inside d i)) [] (get_or vss i []) (s i m)))
          (each_left ThingCounts (things_at t) [] k)
      row_counts c e d vs vss wss under (more_of-Term t (more_of-Term u ts)) w v f s own k =
          let others = more_of-Term u ts in
          let free = and_parts (reads_freely es t) (all_read_freely es others) f in (
            term_counts c vss t w.0 v.0 free.0 (λ i m. among_left (reads_at t i) (joined (seen_by i (inside d i) (each_reads others))) (get_or vss i []) (s i m))
                (each_left ThingCounts (things_at t) (all_things_at others) k),
            row_counts c e d vs vss wss under (more_of-Term u ts) w.1 v.1 free.1 (λ i m. among_right (reads_at t i) (joined (seen_by i (inside d i) (each_reads others))) (get_or vss i []) (s i m)) own
                (each_right ThingCounts (things_at t) (all_things_at others) k),
          )

-- Quantified variables, and those of quantified memories, are among the things at their places; the values of options are things too.
module _ (m : Name) where
  one_thing : (ns : List Name) → times m ns + 0 ≤ times m (ns ++ [])
  one_thing ns = let a = times_append m ns [] in omega (arith, a)

  variables_needs : (vs : Vars) → times m (flat_map (λ v. names_in (modules_of v.ty)) vs) ≤ times m (names_of is_place (of_types (map (λ v. v.ty) vs)))
  variables_needs [] = omega arith
  variables_needs (v ∷ vs) =
      let a = times_append m (names_in (modules_of v.ty)) (flat_map (λ v. names_in (modules_of v.ty)) vs) in
      let b = times_append m (names_in (modules_of v.ty)) (names_of is_place (of_types (map (λ v. v.ty) vs))) in
      let rest = variables_needs vs in
      omega (arith, a, b, rest)

  bound_needs : {n : Count} (d : Head) (us : List Ty) (ts : Row_of-Term n) → times m (quantified_at d (reads_inside d ts)) ≤ times m (names_of is_place (of_types (bound_by d us (reads_inside d ts))))
  bound_needs (head.All u) us ts = let a = one_thing (names_in (modules_of u)) in omega (arith, a)
  bound_needs (head.Some u) us ts = let a = one_thing (names_in (modules_of u)) in omega (arith, a)
  bound_needs head.AllMemory us ts = variables_needs (reads_inside head.AllMemory ts)
  bound_needs head.SomeMemory us ts = variables_needs (reads_inside head.SomeMemory ts)
  bound_needs _ us ts = omega arith

  opened_needs : (d : Head) (t : Term) (a : Ty) → times m (opened_at d a) ≤ times m (names_of is_opened (thing_of d t a))
  opened_needs (head.Builtin op.Oget) t a = let k = one_thing (names_in (modules_of a)) in omega (arith, k)
  opened_needs _ t a = omega arith

  mutual
    pub term_places : (t : Term) → times m (quantified t) ≤ times m (names_of is_place (things_at t))
    term_places (Term' p (more_of-Head d end_of-Head) n ts a) =
        let t : Term = Term' p (more_of-Head d end_of-Head) n ts a in
        let bound = of_types (bound_by d (types_of ts) (reads_inside d ts)) in
        let q = times_append m (quantified_at d (reads_inside d ts)) (all_quantified ts) in
        let u = names_append m is_place (thing_of d t a) (bound ++ all_things_at ts) in
        let v = names_append m is_place bound (all_things_at ts) in
        let one = bound_needs d (types_of ts) ts in
        let rest = row_places ts in
        omega (arith, q, u, v, one, rest)

    row_places : {n : Count} (ts : Row_of-Term n) → times m (all_quantified ts) ≤ times m (names_of is_place (all_things_at ts))
    row_places end_of-Term = omega arith
    row_places (more_of-Term t ts) =
        let q = times_append m (quantified t) (all_quantified ts) in
        let u = names_append m is_place (things_at t) (all_things_at ts) in
        let one = term_places t in
        let rest = row_places ts in
        omega (arith, q, u, one, rest)

  mutual
    pub term_opens : (t : Term) → times m (opened t) ≤ times m (names_of is_opened (things_at t))
    term_opens (Term' p (more_of-Head d end_of-Head) n ts a) =
        let t : Term = Term' p (more_of-Head d end_of-Head) n ts a in
        let bound = of_types (bound_by d (types_of ts) (reads_inside d ts)) in
        let o = times_append m (opened_at d a) (all_opened ts) in
        let u = names_append m is_opened (thing_of d t a) (bound ++ all_things_at ts) in
        let v = names_append m is_opened bound (all_things_at ts) in
        let one = opened_needs d t a in
        let rest = row_opens ts in
        omega (arith, o, u, v, one, rest)

    row_opens : {n : Count} (ts : Row_of-Term n) → times m (all_opened ts) ≤ times m (names_of is_opened (all_things_at ts))
    row_opens end_of-Term = omega arith
    row_opens (more_of-Term t ts) =
        let o = times_append m (opened t) (all_opened ts) in
        let u = names_append m is_opened (things_at t) (all_things_at ts) in
        let one = term_opens t in
        let rest = row_opens ts in
        omega (arith, o, u, one, rest)

  -- and so in a claim
  module _ (need : Term → List Name) (kind : Source → Bool) (each : (t : Term) → times m (need t) ≤ times m (names_of kind (things_at t))) where
    needs_in : (hyps : List Term) (t : Term) → times m (flat_map need hyps ++ need t) ≤ times m (names_of kind (flat_map things_at hyps ++ things_at t))
    needs_in [] t = each t
    needs_in (f ∷ hyps) t =
        let q = times_append m (need f ++ flat_map need hyps) (need t) in
        let q1 = times_append m (need f) (flat_map need hyps) in
        let q2 = times_append m (flat_map need hyps) (need t) in
        let u = names_append m kind (things_at f ++ flat_map things_at hyps) (things_at t) in
        let u1 = names_append m kind (things_at f) (flat_map things_at hyps) in
        let u2 = names_append m kind (flat_map things_at hyps) (things_at t) in
        let one = each f in
        let rest = needs_in hyps t in
        omega (arith, q, q1, q2, u, u1, u2, one, rest)

  pub claim_places : (hyps : List Term) (t : Term) → times m (flat_map quantified hyps ++ quantified t) ≤ times m (names_of is_place (flat_map things_at hyps ++ things_at t))
  claim_places = needs_in quantified is_place term_places

  pub claim_opens : (hyps : List Term) (t : Term) → times m (flat_map opened hyps ++ opened t) ≤ times m (names_of is_opened (flat_map things_at hyps ++ things_at t))
  claim_opens = needs_in opened is_opened term_opens
