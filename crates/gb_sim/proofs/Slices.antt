-- From memories that agree on what the same statements need, these end in memories that agree on what is asked for, in a coupling.
use Rattle.std.proofs.Common.{◌≡◌, ℕ, ◌*◌, ◌^◌, ◌-◌, inl, inr, Bool, true, false, ◌||◌, if◌then◌else◌, List, [], ◌∷◌, ◌++◌, map, Option, Some, None, refl, ap, sym, ◌∙◌, subst, arith}
use Rattle.std.proofs.Math.Nat.{mul-one}
use Rattle.std.proofs.lemmas.Bool.{or_parts}
use Rattle.std.proofs.lemmas.Option.{same_Some, none-some}
use Rattle.std.specs.Option.{option_map}
use Rattle.gb_core.specs.declared.ty.Ty.TheVariants as ty
use Rattle.gb_core.specs.declared.value.Value.{Value}
use Rattle.gb_core.specs.declared.var.Var.{Var}
use Rattle.gb_dist.specs.WeightedList.{WeightedList, Every, IsPositive, On, bind, dmap, scale, total, unit}
use Rattle.gb_dist.specs.Coupling.{Coupling}
use Rattle.gb_dist.proofs.Basic.{coupling_product, coupling_rescaling}
use Rattle.gb_dist.proofs.Entries.{On-dmap}
use Rattle.gb_dist.proofs.Masses.{mass-dmap}
use Rattle.gb_dist.proofs.Monad.{bind-unit_right}
use Rattle.gb_dist.proofs.Sequence.{coupling_sequence}
use Rattle.gb_terms.specs.declared.decl.Proc.{Proc}
use Rattle.gb_terms.specs.declared.decl.TypedName.{TypedName}
use Rattle.gb_terms.specs.declared.module.ProcRef.{ProcRef}
use Rattle.gb_terms.specs.declared.term.Head.TheVariants.{Assign, Sample, Call', If', While'}
use Rattle.gb_terms.specs.declared.term.Instr.{Instr, Row_of-Instr, end_of-Instr, more_of-Instr}
use Rattle.gb_terms.specs.declared.term.Term.{Term, Row_of-Term}
use Rattle.gb_meaning.specs.Commands.{called, program_of, statement, statements, terms_in}
use Rattle.gb_meaning.specs.Meanings.{truth, value_in, weights_in}
use Rattle.gb_meaning.specs.Memory.{Memory, assigned, result_in, write}
use Rattle.gb_meaning.specs.Names.{Map}
use Rattle.gb_meaning.specs.Operators.{outcome_type}
use Rattle.gb_meaning.specs.Program.{Program, Routine}
use Rattle.gb_meaning.specs.Program.Program.{done, sample, loop, call}
use Rattle.gb_meaning.specs.Runs.{is_true, most_turns, out, outcomes, returned, routine_denominator, run_denominator, turns, turns_at, valued}
use Rattle.gb_meaning.specs.Setting.{Setting}
use Rattle.gb_meaning.specs.Sound.{IsSound, IsSoundRoutine}
use Rattle.gb_meaning.specs.State.{State, closed, inside}
use Rattle.gb_meaning.specs.Terms.{denominator, distribution, quiet, val}
use Rattle.gb_meaning.specs.Written.{type_of, IsModulo}
use Rattle.gb_meaning.proofs.Runs.{routine_entries, routine_positive, run_entries, run_positive}
use Rattle.gb_laws.specs.Cells.{Cell, Agree, Among, Covers}
use Rattle.gb_laws.specs.Cells.Key.{global, local}
use Rattle.gb_laws.specs.Pairs.{SameOrKept, SameOutcome, Zip}
use Rattle.gb_laws.specs.Reads.{terms_cells}
use Rattle.gb_laws.proofs.Cells.{front, rest}
use Rattle.gb_laws.proofs.Kept.{kept_agrees}
use Rattle.gb_laws.proofs.Near.{near_quiet}
use Rattle.gb_laws.proofs.NearRuns.{globals_of, kept_outcomes, with_frame}
use Rattle.gb_laws.proofs.States.{near_inside, near_self}
use Rattle.gb_laws.proofs.Zips.{zip_weaken, zip-dmap, zip-equal}
use Rattle.gb_laws.specs.Programs.{Take}
use Rattle.gb_goal.specs.Scope.{Declarations, procedure_of}
use Rattle.gb_mods.specs.Called.{all_reached, row_calls}
use Rattle.gb_mods.specs.Meant.{meant_by}
use Rattle.gb_mods.proofs.Closed.{AreFollowed, IsIn, all_closed}
use Rattle.gb_prog.specs.Means.{Means}
use Rattle.gb_full.specs.Loss.{may_lose}
use Rattle.gb_full.proofs.Full.{full_term}
use Rattle.gb_full.proofs.Operators.{AreFullOperators}
use Rattle.gb_walk.specs.Clash.{Exclusions}
use Rattle.gb_typing.specs.Context.{Context, erased, of_program, procedure}
use Rattle.gb_typing.specs.Fits.{HasResult, IsOfType, IsSettingOf}
use Rattle.gb_typing.specs.Forms.{IsKeptOff}
use Rattle.gb_typing.specs.Modules.{ProcedureType}
use Rattle.gb_typing.specs.Programs.{AreStatements, EachStatement, IsCall, IsExpression, IsProcedure, IsStatement}
use Rattle.gb_typing.specs.Typing.{IsTyped}
use Rattle.gb_typing.proofs.Fitting.{fits_program, state_inside}
use Rattle.gb_typing.proofs.Substituted.{term_has}
use Rattle.gb_labels.specs.Reads.{Vars}
use Rattle.gb_trans.proofs.Within.{ReadsWithin, run_within}
use Rattle.gb_forms.specs.Ordered.{joined}
use Rattle.gb_sim.specs.Need.{before, concern, if_known, need, of_branches, row_need, statement_need, without, written_need}
use Rattle.gb_sim.specs.Reads.{body_reads, reached_reads, reads_by, reads_if, row_reads, term_reads}
use Rattle.gb_sim.proofs.Agreeing.{AgreeOn, agree_new, agree_old, cells}
use Rattle.gb_sim.proofs.Covered.{Reads, all_good, call_read, each_there, parts, routine_good, row_within, term_read}
use Rattle.gb_sim.proofs.Writing.{enough, unwritten_agree, written_agree}
use Rattle.gb_sim.proofs.Zipped.{zip_coupled}
use mathlib.Core.Former.{Count}

-- what holds of each entry of one list may be added
zip_every : {A B : Type 0} (R : A → B → Type 0) (P : A → Type 0) (l : WeightedList A) (r : WeightedList B) → Zip R l r → Every P l → Zip (λ a b. R a b × P a) l r
zip_every R P [] [] z h = tt
zip_every R P [] (f ∷ r) z h = absurd z
zip_every R P (e ∷ l) [] z h = absurd z
zip_every R P (e ∷ l) (f ∷ r) z h = (z.0, (z.1, h.0), zip_every R P l r z.2 h.1)

single : (Q : Memory → Memory → Type 0) (m n : Memory) → Q m n → Coupling Q (unit m) 1 (unit n) 1
single Q m n q = record { denominator = 1; positive = omega arith; pairs = unit (m, n); related = (omega arith, q, tt); left = λ f. refl; right = λ f. refl }

-- the program of a row of statements
program_more : {n : Count} (g : Setting) (i : Instr) (is : Row_of-Instr n) → statement g i (program_of g is) ≡ program_of g (more_of-Instr i is)
program_more g (Assign xs e) is = refl
program_more g (Sample x d) is = refl
program_more g (Call' xs p n es) is = refl
program_more g (If' e m a n b) is = refl
program_more g (While' e v n a) is = refl

behind_call : (g : Setting) (xs : List Var) (r : Option Routine) (es : List Term) (d : Program) → IsSound g (called xs r es d) → IsSound g d
behind_call g xs None es d h = h
behind_call g xs (Some r) es d h = h.1

-- what stands behind a statement draws from distributions where both do
behind : (g : Setting) (i : Instr) (d : Program) → IsSound g (statement g i d) → IsSound g d
behind g (Assign xs e) d h = h
behind g (Sample x t) d h = h.1
behind g (Call' xs p n es) d h = behind_call g xs (g.procedure p) (terms_in es) d h
behind g (If' e m a n b) d h = h.2
behind g (While' e v n a) d h = h.1

-- what is known in a row is known of its parts
pub record IsKnown {A B : Type 0} (f : A → Option B) (o : Option A) (y : B) : Type 0 where
  pub value : A
  pub is_known : o ≡ Some value
  pub leads : f value ≡ Some y

pub known : {A B : Type 0} (f : A → Option B) (o : Option A) (y : B) → if_known f o ≡ Some y → IsKnown f o y
known f None y e = absurd (none-some y e)
known f (Some x) y e = record { value = x; is_known = refl; leads = e }

pub record IsMapped {A B : Type 0} (f : A → B) (o : Option A) (y : B) : Type 0 where
  pub value : A
  pub is_known : o ≡ Some value
  pub is : f value ≡ y

pub mapped : {A B : Type 0} (f : A → B) (o : Option A) (y : B) → option_map f o ≡ Some y → IsMapped f o y
mapped f None y e = absurd (none-some y e)
mapped f (Some x) y e = record { value = x; is_known = refl; is = same_Some (f x) y e }

pub record AreBoth (rs : Vars) (a b : Option Vars) (W : Vars) : Type 0 where
  pub yes_need : Vars
  pub no_need : Vars
  pub is_yes : a ≡ Some yes_need
  pub is_no : b ≡ Some no_need
  pub is : joined rs (joined yes_need no_need) ≡ W

pub both_known : (rs : Vars) (a b : Option Vars) (W : Vars) → of_branches rs a b ≡ Some W → AreBoth rs a b W
both_known rs None b W e = absurd (none-some W e)
both_known rs (Some V) None W e = absurd (none-some W e)
both_known rs (Some V) (Some U) W e = record { yes_need = V; no_need = U; is_yes = refl; is_no = refl; is = same_Some (joined rs (joined V U)) W e }

-- a call is typed by the type of its procedure
record IsCalledAt (c : Context) (ls : List TypedName) (xs : List Var) (o : Option ProcedureType) (es : List Term) : Type 0 where
  type : ProcedureType
  there : o ≡ Some type
  call : IsCall c ls xs (Some type) es

called_at : (c : Context) (ls : List TypedName) (xs : List Var) (o : Option ProcedureType) (es : List Term) → IsCall c ls xs o es → IsCalledAt c ls xs o es
called_at c ls xs None es w = absurd w
called_at c ls xs (Some t) es w = record { type = t; there = refl; call = w }

-- what procedures read is known
pub record AreReached (ds : Declarations) (ps : List ProcRef) (R : Vars) : Type 0 where
  pub all : List ProcRef
  pub closed : AreFollowed ds all all
  pub there : (p : ProcRef) → IsIn ps p → IsIn all p
  pub found : reads_by ds all ≡ Some R

pub are_reached : (ds : Declarations) (ps : List ProcRef) (R : Vars) → reached_reads ds ps ≡ Some R → AreReached ds ps R
unfolding reached_reads
are_reached ds ps R e = by_reach (all_reached ds ps) refl e
  where
    by_reach : (o : Option (List ProcRef)) → all_reached ds ps ≡ o → reads_if ds o ≡ Some R → AreReached ds ps R
    by_reach None d e = absurd (none-some R e)
    by_reach (Some S) d e = let k = all_closed ds ps S d in record { all = S; closed = k.closed; there = k.there; found = e }

module _ (ex : Exclusions) (ds : Declarations) (c : Context) (g : Setting) (off : IsKeptOff ex g) (fits : IsSettingOf c g) (operators : AreFullOperators ds g c)
    (typed : (p : ProcRef) (a : Proc) → procedure_of ds p ≡ Some a → IsProcedure c a) (means : (p : ProcRef) → Means g p (meant_by ds p))
    (s : State) (ls : List TypedName) where
  abbrev Same : Vars → Memory → Memory → Type 0
  Same V m n = AgreeOn g.types V m n

  abbrev Coupled : (Memory → Memory → Type 0) → Program → Memory → Memory → Type 0
  Coupled Q d m n = Coupling Q (out g s d m) (run_denominator g d) (out g s d n) (run_denominator g d)

  same_value : (e : Term) → IsTyped (of_program c ls) e → (m n : Memory) → Same (term_reads e) m n → val g quiet e (inside s m) ≡ val g quiet e (inside s n)
  same_value e w m n a =
      let F = Among (cells g.types (term_reads e)) in
      near_quiet g F e (term_read g F (of_program c ls) e w (λ d i. i)) _ _ (near_inside g.types F s s (near_self g.types F s) m n a)

  -- what follows lists that are coupled
  following : (V : Vars) (d : Program) (Q : Memory → Memory → Type 0) → ((x y : Memory) → Same V x y → Coupled Q d x y) → (l : WeightedList Memory) (k : ℕ) (r : WeightedList Memory) →
      Coupling (Same V) l k r k → Coupling Q (bind l (λ x. out g s d x)) (k * run_denominator g d) (bind r (λ y. out g s d y)) (k * run_denominator g d)
  following V d Q next l k r h = coupling_sequence Q (λ x. out g s d x) (run_denominator g d) (λ y. out g s d y) (run_denominator g d) (Same V) h next

  -- An assignment.
  module _ (xs : List Var) (e : Term) (w : IsStatement c ls (Assign xs e)) (V : Vars) (m n : Memory) where
    assigned_same : (b : Bool) → concern ex xs V ≡ b → Same (written_need b xs e V) m n → Same V (assigned g.types m xs (valued g s e m)) (assigned g.types n xs (valued g s e n))
    assigned_same true k a =
        let v = valued g s e m in
        let x = w.0.expression in
        let h = term_has (of_program c ls) g (fits_program c g fits ls) e x.typed w.0.finite (inside s m) (state_inside c g ls s m) in
        subst (λ z. Same V (assigned g.types m xs v) (assigned g.types n xs z)) (ap value_in (same_value e x.typed m n (agree_new g.types m n (term_reads e) (without xs V) a)))
        (written_agree g c ls xs (type_of e) w.1 v (enough g s m c ls xs (type_of e) w.1 v h) V m n (agree_old g.types m n (term_reads e) (without xs V) a))
    assigned_same false k a = unwritten_agree g ex off xs V k (valued g s e m) (valued g s e n) m n a

  -- A sampling.
  module _ (x : Var) (d : Term) (w : IsStatement c ls (Sample x d)) (sound : IsSound g (sample x d done)) (V : Vars) (m n : Memory) where
    abbrev D : Memory → WeightedList Value
    D y = distribution g d (inside s y)

    abbrev drawn : Memory → WeightedList Memory
    drawn y = dmap (write g.types y x) (D y)

    drawn_needed : Same (before (x ∷ []) (term_reads d) V) m n → Coupling (Same V) (drawn m) (denominator g d) (drawn n) (denominator g d)
    drawn_needed a =
        let z = sound.0 in
        zip_coupled (Same V) (drawn m) (drawn n) (denominator g d) z.positive
        (On-dmap {P = λ v. Unit {0}} (λ y. Unit {0}) (write g.types m x) (D m) (λ v u. u) (z.entries (inside s m)))
        (zip-dmap (λ v u. v ≡ u) (Same V) (D m) (D n) (write g.types m x) (write g.types n x)
        (zip-equal (D m) (D n) (ap weights_in (same_value d w.0.typed m n (agree_new g.types m n (term_reads d) (without (x ∷ []) V) a))))
        (λ v u e. subst (λ z. Same V (write g.types m x v) (write g.types n x z)) e
        (written_agree g c ls (x ∷ []) (outcome_type (type_of d)) w.2 v tt V m n (agree_old g.types m n (term_reads d) (without (x ∷ []) V) a))))

    abbrev IsDrawn : Memory → Memory → Type 0
    IsDrawn y z = (v : Value) × (z ≡ write g.types y x v)

    drawn_unneeded : may_lose ds d ≡ false → concern ex (x ∷ []) V ≡ false → Same V m n → Coupling (Same V) (drawn m) (denominator g d) (drawn n) (denominator g d)
    drawn_unneeded f k a =
        let z = sound.0 in
        coupling_product (IsDrawn m) (IsDrawn n) (Same V)
        (λ y q h i. subst (λ u. u) (λ j. Same V (sym h.1 j) (sym i.1 j)) (unwritten_agree g ex off (x ∷ []) V k h.0 i.0 m n a))
        (drawn m) (denominator g d) (drawn n) (denominator g d) (each m z.entries) (each n z.entries) ((λ j. whole m j * denominator g d) ∙ sym (λ j. whole n j * denominator g d)) z.positive z.positive
      where
        each : (y : Memory) → ((q : State) → IsPositive (distribution g d q)) → On (IsDrawn y) (drawn y)
        each y h = On-dmap {P = λ v. Unit {0}} (IsDrawn y) (write g.types y x) (D y) (λ v u. (v, refl)) (h (inside s y))

        whole : (y : Memory) → total (drawn y) ≡ denominator g d
        whole y = mass-dmap (write g.types y x) (D y) (λ a. 1) ∙ full_term ds c g fits operators ls d w.0 w.1 f (inside s y)

    drawn_same : (b : Bool) → (may_lose ds d || concern ex (x ∷ []) V) ≡ b → Same (written_need b (x ∷ []) d V) m n → Coupling (Same V) (drawn m) (denominator g d) (drawn n) (denominator g d)
    drawn_same true k a = drawn_needed a
    drawn_same false k a = let z = or_parts (may_lose ds d) (concern ex (x ∷ []) V) k in drawn_unneeded z.0 z.1 a

  -- A loop.
  module _ (e v : Term) {o : Count} (a : Row_of-Instr o) (w : (IsExpression c ls e × (type_of e ≡ ty.Bool)) × (IsExpression c ls v × IsModulo (type_of v)) × AreStatements c ls a) (sound : IsSound g (loop e v (program_of g a) done)) (V R : Vars) (r : AreReached ds (row_calls a) R) (m n : Memory) where
    abbrev own : Vars
    own = term_reads e ++ (term_reads v ++ body_reads a)

    abbrev F : Cell → Type 0
    F = Among (cells g.types (own ++ R))

    abbrev again : Program
    again = loop e v (program_of g a) done

    within : ReadsWithin g F again
    within =
        let z = parts g F own R (λ d i. i) in
        let y = parts g F (term_reads e) (term_reads v ++ body_reads a) z.0 in
        let x = parts g F (term_reads v) (body_reads a) y.1 in (
          term_read g F _ e w.0.0.typed y.0,
          term_read g F _ v w.1.0.typed x.0,
          row_within g r.all F F (λ l h. h) c ls a w.2 x.1 (each_there g r.all F (row_calls a) r.there) (all_good g ds c typed means r.all r.closed R r.found F z.1 (program_of g a)),
          tt,
        )

    abbrev turned : Memory → WeightedList Memory
    turned y = scale (run_denominator g (program_of g a) ^ (most_turns v - turns_at g s v y))
        (turns (is_true g s e) (λ q. out g s (program_of g a) q) (run_denominator g (program_of g a)) (turns_at g s v y) y)

    looped : Same (joined (own ++ R) V) m n → Coupled (Same V) again m n
    looped h =
        zip_coupled (Same V) (out g s again m) (out g s again n) (run_denominator g again) (run_positive g again sound) (run_entries g s again sound m)
        (zip_weaken (SameOrKept m n) (Same V) (λ y z j. kept_agrees g.types (Among (cells g.types V)) m n y z (agree_old g.types m n (own ++ R) V h) j) (out g s again m) (out g s again n)
        (run_within g F s again within m n (agree_new g.types m n (own ++ R) V h)))

    turns_coupled : Same (joined (own ++ R) V) m n → Coupling (Same V) (turned m) (run_denominator g (program_of g a) ^ most_turns v) (turned n) (run_denominator g (program_of g a) ^ most_turns v)
    turns_coupled h =
        let k = run_denominator g (program_of g a) ^ most_turns v in
        subst (λ z. z) (λ i. Coupling (Same V) (bind-unit_right (turned m) i) (mul-one k i) (bind-unit_right (turned n) i) (mul-one k i)) (looped h)

  -- A call.
  module _ (xs : List Var) (p : ProcRef) {o : Count} (es : Row_of-Term o) (w : IsCall c ls xs (procedure c p) (terms_in es)) (V R : Vars) (r : AreReached ds (p ∷ []) R) (m n : Memory) where
    abbrev args : List Term
    args = terms_in es

    abbrev G : Cell → Type 0
    G = Among (cells g.types (row_reads es ++ R))

    halves : Reads g G (row_reads es) × Reads g G R
    halves = parts g G (row_reads es) R (λ d i. i)

    call_type : IsCalledAt c ls xs (procedure c p) args
    call_type = called_at c ls xs (procedure c p) args w

    abbrev type : ProcedureType
    type = let x = call_type in x.type

    it : (r : Routine) × (g.procedure p ≡ Some r) × IsOfType g type r
    it = let x = call_type in fits.procedures p x.type x.there

    abbrev body : Routine
    body = let x = it in x.0

    is : g.procedure p ≡ Some body
    is = let x = it in x.1

    takes : Take (erased c) ls xs type.result
    takes = let x = call_type in let y = x.call in y.1

    abbrev values : Memory → List Value
    values y = map (λ e. valued g s e y) args

    all_same : (ts : List Term) → Covers G (terms_cells g ts) → Agree g.types G m n → map (λ e. valued g s e m) ts ≡ map (λ e. valued g s e n) ts
    all_same [] k h = refl
    all_same (e ∷ ts) k h =
        let one : valued g s e m ≡ valued g s e n = ap value_in (near_quiet g G e (front G _ (terms_cells g ts) k) _ _ (near_inside g.types G s s (near_self g.types G s) m n h)) in
        let two = all_same ts (rest G _ (terms_cells g ts) k) h in
        λ i. one i ∷ two i

    abbrev ends : Memory → WeightedList Memory
    ends y = outcomes g body (values y) y.globals

    abbrev IsTypedEnd : Memory → Type 0
    IsTypedEnd = HasResult g type

    every_typed : (vs : List Value) (globals : Map) → Every IsTypedEnd (outcomes g body vs globals)
    every_typed vs globals = let x = it in let y = x.2 in y.results vs globals

    returned_same : Same (without xs V) m n → (y z : Memory) → SameOutcome m.globals n.globals y z → IsTypedEnd y → Same V (returned g xs m y) (returned g xs n z)
    returned_same h y z k v =
        let M : Memory = record { globals = y.globals; frame = m.frame } in
        let N : Memory = record { globals = z.globals; frame = n.frame } in
        let result : result_in y ≡ result_in z = ap (λ f. result_in (record { globals = y.globals; frame = f })) k.frame in
        subst (λ u. Same V (assigned g.types M xs (result_in y)) (assigned g.types N xs u)) result
        (written_agree g c ls xs type.result takes (result_in y) (enough g s m c ls xs type.result takes (result_in y) v) V M N
        (kept_agrees g.types (Among (cells g.types (without xs V))) m n M N h (back M N)))
      where
        back : (M N : Memory) → SameOrKept m n (record { globals = y.globals; frame = m.frame }) (record { globals = z.globals; frame = n.frame })
        back M N (global x) = k.globals x
        back M N (local x) = inr (refl, refl)

    called_same : IsSoundRoutine g body → Same (before xs (row_reads es ++ R) V) m n →
        Coupling (Same V) (dmap (returned g xs m) (ends m)) (routine_denominator g body) (dmap (returned g xs n) (ends n)) (routine_denominator g body)
    called_same sound h =
        let reads = agree_new g.types m n (row_reads es ++ R) (without xs V) h in
        let others = agree_old g.types m n (row_reads es ++ R) (without xs V) h in
        zip_coupled (Same V) (dmap (returned g xs m) (ends m)) (dmap (returned g xs n) (ends n)) (routine_denominator g body) (routine_positive g body sound)
        (On-dmap {P = λ y. Unit {0}} (λ y. Unit {0}) (returned g xs m) (ends m) (λ y u. u) (routine_entries g body sound (values m) m.globals))
        (zip-dmap (λ y z. SameOutcome m.globals n.globals y z × IsTypedEnd y) (Same V) (ends m) (ends n) (returned g xs m) (returned g xs n)
        (zip_every (SameOutcome m.globals n.globals) IsTypedEnd (ends m) (ends n)
        (kept_outcomes g (with_frame G) body (routine_good g ds c typed means r.all r.closed R r.found G halves.1 body p (r.there p (inl refl)) is)
        (values m) (values n) (all_same args (call_read g G c ls xs (procedure c p) es w halves.0) reads) m.globals n.globals (globals_of g.types G m n reads))
        (every_typed (values m) m.globals))
        (λ y z k. returned_same others y z k.0 k.1))

  -- the two sides of a branch
  sides : (R : Memory → Memory → Type 0) (t u : Bool) → t ≡ u → (l1 l2 r1 r2 : WeightedList Memory) (j k : ℕ) → Coupling R l1 j r1 j → Coupling R l2 k r2 k →
      Coupling R (if t then scale k l1 else scale j l2) (j * k) (if u then scale k r1 else scale j r2) (j * k)
  sides R true true e l1 l2 r1 r2 j k h i =
      let turned : k * j ≡ j * k = omega arith in
      subst (λ z. Coupling R (scale k l1) z (scale k r1) z) turned (coupling_rescaling {Q = R} {l1 = l1} {k1 = j} {l2 = r1} {k2 = j} k k h)
  sides R true false e l1 l2 r1 r2 j k h i = cc
  sides R false true e l1 l2 r1 r2 j k h i = cc
  sides R false false e l1 l2 r1 r2 j k h i = coupling_rescaling {Q = R} {l1 = l2} {k1 = k} {l2 = r2} {k2 = k} j j i

  mutual
    statement_coupled : (i : Instr) → IsStatement c ls i → (V W : Vars) → statement_need ex ds i V ≡ Some W → (d : Program) → IsSound g (statement g i d) → (Q : Memory → Memory → Type 0) →
        ((x y : Memory) → Same V x y → Coupled Q d x y) → (m n : Memory) → Same W m n → Coupled Q (statement g i d) m n
    statement_coupled (Assign xs e) w V W k d sound Q next m n h =
        next (assigned g.types m xs (valued g s e m)) (assigned g.types n xs (valued g s e n))
        (assigned_same xs e w V m n (concern ex xs V) refl (subst (λ U. Same U m n) (sym (same_Some (written_need (concern ex xs V) xs e V) W k)) h))
    statement_coupled (Sample x e) w V W k d sound Q next m n h =
        following V d Q next (drawn x e w (sound.0, tt) V m n m) (denominator g e) (drawn x e w (sound.0, tt) V m n n)
        (drawn_same x e w (sound.0, tt) V m n (may_lose ds e || concern ex (x ∷ []) V) refl
        (subst (λ U. Same U m n) (sym (same_Some (written_need (may_lose ds e || concern ex (x ∷ []) V) (x ∷ []) e V) W k)) h))
    statement_coupled (Call' xs p o es) w V W k d sound Q next m n h =
        let z = mapped (λ os. before xs (row_reads es ++ os) V) (reached_reads ds (p ∷ [])) W k in
        let r = are_reached ds (p ∷ []) z.value z.is_known in
        let rt = body xs p es w V z.value r m n in
        let e : called xs (g.procedure p) (terms_in es) d ≡ call xs rt (terms_in es) d = ap (λ u. called xs u (terms_in es) d) (is xs p es w V z.value r m n) in
        let known = subst (IsSound g) e sound in
        subst (λ b. Coupled Q b m n) (sym e)
        (following V d Q next (dmap (returned g xs m) (ends xs p es w V z.value r m n m)) (routine_denominator g rt) (dmap (returned g xs n) (ends xs p es w V z.value r m n n))
        (called_same xs p es w V z.value r m n known.0 (subst (λ U. Same U m n) (sym z.is) h)))
    statement_coupled (If' e o a q b) w V W k d sound Q next m n h =
        let z = both_known (term_reads e) (row_need ex ds a V) (row_need ex ds b V) W k in
        let all = subst (λ U. Same U m n) (sym z.is) h in
        let behind = agree_old g.types m n (term_reads e) (joined z.yes_need z.no_need) all in
        following V d Q next _ (run_denominator g (program_of g a) * run_denominator g (program_of g b)) _
        (sides (Same V) (is_true g s e m) (is_true g s e n) (ap truth (same_value e w.0.0.typed m n (agree_new g.types m n (term_reads e) (joined z.yes_need z.no_need) all)))
        (out g s (program_of g a) m) (out g s (program_of g b) m) (out g s (program_of g a) n) (out g s (program_of g b) n) (run_denominator g (program_of g a)) (run_denominator g (program_of g b))
        (row_coupled a w.1 V z.yes_need z.is_yes sound.0 (Same V) (λ x y j. j) m n (agree_new g.types m n z.yes_need z.no_need behind))
        (row_coupled b w.2 V z.no_need z.is_no sound.1 (Same V) (λ x y j. j) m n (agree_old g.types m n z.yes_need z.no_need behind)))
    statement_coupled (While' e v o a) w V W k d sound Q next m n h =
        let z = mapped (λ os. joined ((term_reads e ++ (term_reads v ++ body_reads a)) ++ os) V) (reached_reads ds (row_calls a)) W k in
        let r = are_reached ds (row_calls a) z.value z.is_known in
        following V d Q next (turned e v a w (sound.0, tt) V z.value r m n m) (run_denominator g (program_of g a) ^ most_turns v) (turned e v a w (sound.0, tt) V z.value r m n n)
        (turns_coupled e v a w (sound.0, tt) V z.value r m n (subst (λ U. Same U m n) (sym z.is) h))

    row_coupled : {o : Count} (is : Row_of-Instr o) → AreStatements c ls is → (V W : Vars) → row_need ex ds is V ≡ Some W → IsSound g (program_of g is) → (Q : Memory → Memory → Type 0) →
        ((x y : Memory) → Same V x y → Q x y) → (m n : Memory) → Same W m n → Coupled Q (program_of g is) m n
    row_coupled end_of-Instr w V W k sound Q last m n h = single Q m n (last m n (subst (λ U. Same U m n) (sym (same_Some V W k)) h))
    row_coupled (more_of-Instr i is) w V W k sound Q last m n h =
        let z = known (λ U. statement_need ex ds i U) (row_need ex ds is V) W k in
        subst (λ b. Coupled Q b m n) (program_more g i is)
        (let all = subst (IsSound g) (sym (program_more g i is)) sound in
        statement_coupled i w.0 z.value W z.leads (program_of g is) all Q (λ x y j. row_coupled is w.1 V z.value z.is_known (behind g i (program_of g is) all) Q last x y j) m n h)

  pub each_coupled : (is : List Instr) → EachStatement c ls is → (V W : Vars) → need ex ds is V ≡ Some W → IsSound g (statements g is) → (m n : Memory) → Same W m n → Coupled (Same V) (statements g is) m n
  each_coupled [] w V W k sound m n h = single (Same V) m n (subst (λ U. Same U m n) (sym (same_Some V W k)) h)
  each_coupled (i ∷ is) w V W k sound m n h =
      let z = known (λ U. statement_need ex ds i U) (need ex ds is V) W k in
      statement_coupled i w.0 z.value W z.leads (statements g is) sound (Same V) (λ x y j. each_coupled is w.1 V z.value z.is_known (behind g i (statements g is) sound) x y j) m n h
