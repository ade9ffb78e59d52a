-- A body that loses no weight, nor what it calls, draws from full distributions alone.
use Rattle.std.proofs.Common.{◌≡◌, inl, inr, ℕ, zero, suc, length, Bool, true, false, if◌then◌else◌, List, [], ◌∷◌, Option, Some, None, refl, ap, sym, ◌∙◌, subst}
use Rattle.std.proofs.lemmas.Bool.{false≢true}
use Rattle.std.proofs.lemmas.Option.{same_Some}
use Rattle.gb_core.specs.declared.value.Value.{Value}
use Rattle.gb_core.specs.declared.var.Var.{Var}
use Rattle.gb_dist.specs.WeightedList.{total}
use Rattle.gb_terms.specs.declared.decl.Proc.{Proc}
use Rattle.gb_terms.specs.declared.decl.TypedName.{TypedName}
use Rattle.gb_terms.specs.declared.module.ProcRef.{ProcRef}
use Rattle.gb_terms.specs.declared.term.Term.{Term}
use Rattle.gb_terms.specs.declared.term.Head.TheVariants.{Assign, Sample, Call', If', While'}
use Rattle.gb_terms.specs.declared.term.Instr.{Instr, Row_of-Instr, end_of-Instr, more_of-Instr}
use Rattle.gb_meaning.specs.Commands.{called as called_program, program_of, statements}
use Rattle.gb_meaning.specs.Memory.{Memory}
use Rattle.gb_meaning.specs.Names.{Name, Map}
use Rattle.gb_meaning.specs.Setting.{Setting}
use Rattle.gb_meaning.specs.Program.{Program, Routine}
use Rattle.gb_meaning.specs.Program.Routine.{routine}
use Rattle.gb_meaning.specs.Runs.{outcomes, routine_denominator}
use Rattle.gb_meaning.specs.Sound.{IsFull, Full, FullRoutine}
use Rattle.gb_meaning.specs.State.{State}
use Rattle.gb_meaning.specs.Written.{type_of}
use Rattle.gb_meaning.proofs.Totals.{routine_total, run_total}
use Rattle.gb_laws.specs.Operators.{IsDistributionType}
use Rattle.gb_laws.proofs.Drawn.{typed_full}
use Rattle.gb_typing.specs.Context.{Context, erased, of_program}
use Rattle.gb_typing.specs.Fits.{IsSettingOf}
use Rattle.gb_typing.specs.Programs.{IsExpression, IsBody, AreStatements, EachStatement, locals_of}
use Rattle.gb_typing.specs.Rules.{IsSettingOver}
use Rattle.gb_typing.specs.Scopes.{context_of, IsTypedScope}
use Rattle.gb_typing.specs.Sequents.{of_sequent, IsTypedSequent}
use Rattle.gb_typing.proofs.Located.{IsTypedThere, typed_there}
use Rattle.gb_typing.proofs.Erased.{erased_typed}
use Rattle.gb_typing.proofs.Fitting.{fits_program}
use Rattle.gb_typing.specs.Meaning.{run, denominator}
use Rattle.gb_goal.specs.Scope.{Declarations, procedure_of}
use Rattle.gb_goal.specs.declared.sequent.Sequent.{Sequent}
use Rattle.gb_meaning.specs.Declared.{declared}
use Rattle.gb_meaning.specs.Linking.{link_routine}
use Rattle.gb_goal.specs.Goal.Code.{procedure}
use Rattle.gb_mods.specs.Called.{all_reached, calls, same_procedure}
use Rattle.gb_mods.specs.Meant.{meant_by}
use Rattle.gb_mods.specs.declared.meant.Meant.{Meant}
use Rattle.gb_mods.specs.declared.meant.Meant.TheVariants.{Unknown, Declared, Any}
use Rattle.gb_mods.proofs.Closed.{IsIn, procedure_same}
use Rattle.gb_prog.specs.Means.{IfDeclared, Means}
use Rattle.gb_prog.proofs.Meanings.{if_declared, means_there}
use Rattle.gb_prog.proofs.Weights.{full_of_any}
use Rattle.gb_full.specs.Loss.{operator_loses, full_operators, loses_by, may_lose, Loss, nowhere, sampled, called, or_after, Losses, Reached, known_of, row_loss, body_loss, procedure_loss, oracles_loss, round, rounds, losses, meant_each, meant_if, table, first_loss, code_loss}
use Rattle.gb_full.proofs.Operators.{AreFullOperators, names_full, scope_full, unrestricted}
use mathlib.Core.Former.{Count}

-- Bodies.

abbrev is_nowhere : Loss → Bool
is_nowhere nowhere = true
is_nowhere _ = false

both_nowhere : (k l : Loss) → or_after k l ≡ nowhere → (k ≡ nowhere) × (l ≡ nowhere)
both_nowhere nowhere l e = (refl, e)
both_nowhere (sampled x) l e = absurd (false≢true (ap is_nowhere e))
both_nowhere called l e = absurd (false≢true (ap is_nowhere e))

-- Procedures that are known to lose no weight, by what is known of those that they call, where these operators are full.
module _ (ds : Declarations) where
  -- each stands with what it stands for
  abbrev AreMeant : Reached → Type 0
  AreMeant [] = Unit {0}
  AreMeant (f ∷ fs) = (meant_by ds f.0 ≡ f.1) × AreMeant fs

  each_meant : (ps : List ProcRef) → AreMeant (meant_each ds ps)
  each_meant [] = tt
  each_meant (p ∷ ps) = (refl, each_meant ps)

  all_meant : (o : Option (List ProcRef)) → AreMeant (meant_if ds o)
  all_meant None = tt
  all_meant (Some ps) = each_meant ps

  module _ (ns : List Name) where
    round_known : (ks : Losses) (fs : Reached) → AreMeant fs → (p : ProcRef) → known_of (round ds ns ks fs) p ≡ nowhere → procedure_loss ds ns ks (meant_by ds p) ≡ nowhere
    round_known ks [] h p e = absurd (false≢true (ap is_nowhere e))
    round_known ks (f ∷ fs) h p e = step (same_procedure f.0 p) refl e (round_known ks fs h.1 p)
      where
        step : (b : Bool) → same_procedure f.0 p ≡ b → (if b then procedure_loss ds ns ks f.1 else known_of (round ds ns ks fs) p) ≡ nowhere →
            (known_of (round ds ns ks fs) p ≡ nowhere → procedure_loss ds ns ks (meant_by ds p) ≡ nowhere) → procedure_loss ds ns ks (meant_by ds p) ≡ nowhere
        step true g k go = subst (λ q. procedure_loss ds ns ks (meant_by ds q) ≡ nowhere) (procedure_same f.0 p g) (ap (procedure_loss ds ns ks) h.0 ∙ k)
        step false g k go = go k

-- each of the oracles of a procedure that loses no weight is known to lose none
oracles_known : (ks : Losses) (qs : List ProcRef) → oracles_loss ks qs ≡ nowhere → (q : ProcRef) → IsIn qs q → known_of ks q ≡ nowhere
oracles_known ks [] e q i = absurd i
oracles_known ks (p ∷ qs) e q (inl h) = subst (λ z. known_of ks z ≡ nowhere) h (both_nowhere (known_of ks p) (oracles_loss ks qs) e).0
oracles_known ks (p ∷ qs) e q (inr i) = oracles_known ks qs (both_nowhere (known_of ks p) (oracles_loss ks qs) e).1 q i

-- Where the operators of the context that may lose no weight give full distributions.
module _ (ds : Declarations) (c : Context) (g : Setting) (fits : IsSettingOf c g) (operators : AreFullOperators ds g c) where
  abbrev lost : Name → Bool
  lost = operator_loses ds (full_operators ds)

  -- a distribution that may lose no weight is full
  pub full_term : (ls : List TypedName) (d : Term) → IsExpression c ls d → IsDistributionType (type_of d) → may_lose ds d ≡ false → IsFull g d
  unfolding loses_by
  full_term ls d w k e =
      let p : IsSettingOf (of_program c ls) g = fits_program c g fits ls in
      let t = erased_typed (of_program c ls) d w.typed in
      typed_full (erased (of_program c ls)) g p.types d t (unrestricted lost d e) (names_full lost g (erased (of_program c ls)) operators d t e) k

  sampled_full : (ls : List TypedName) (x : Var) (d : Term) (b : Bool) → may_lose ds d ≡ b → (if b then sampled x else nowhere) ≡ nowhere → may_lose ds d ≡ false
  sampled_full ls x d true h e = absurd (false≢true (ap is_nowhere e))
  sampled_full ls x d false h e = h

  abbrev full : List Name
  full = full_operators ds

  -- what means a procedure that is known to lose no weight loses none
  module _ (ks : Losses) (good : (p : ProcRef) → known_of ks p ≡ nowhere → (r : Routine) → g.procedure p ≡ Some r → FullRoutine g r) where
    call_full : (p : ProcRef) → known_of ks p ≡ nowhere → (xs : List Var) (o : Option Routine) (es : List Term) (k : Program) → g.procedure p ≡ o → Full g k → Full g (called_program xs o es k)
    call_full p i xs (Some r) es k e u = (good p i r e, u)
    call_full p i xs None es k e u = u

    module _ (ls : List TypedName) where
      row_full : {n : Count} (is : Row_of-Instr n) → AreStatements c ls is → row_loss ds full ks is ≡ nowhere → Full g (program_of g is)
      row_full end_of-Instr w e = tt
      row_full (more_of-Instr (Assign xs t) is) w e = row_full is w.1 e
      row_full (more_of-Instr (Sample x d) is) w e =
          let z = both_nowhere (if may_lose ds d then sampled x else nowhere) (row_loss ds full ks is) e in
          (full_term ls d w.0.0 w.0.1 (sampled_full ls x d (may_lose ds d) refl z.0), row_full is w.1 z.1)
      row_full (more_of-Instr (Call' xs p n es) is) w e =
          let z = both_nowhere (known_of ks p) (row_loss ds full ks is) e in call_full p z.0 xs (g.procedure p) _ (program_of g is) refl (row_full is w.1 z.1)
      row_full (more_of-Instr (If' t m a n b) is) w e =
          let z = both_nowhere (or_after (row_loss ds full ks a) (row_loss ds full ks b)) (row_loss ds full ks is) e in
          let l = both_nowhere (row_loss ds full ks a) (row_loss ds full ks b) z.0 in
          (row_full a w.0.1 l.0, row_full b w.0.2 l.1, row_full is w.1 z.1)
      row_full (more_of-Instr (While' t v n a) is) w e =
          let z = both_nowhere (row_loss ds full ks a) (row_loss ds full ks is) e in (row_full a w.0.2 z.0, row_full is w.1 z.1)

      each_full : (is : List Instr) → EachStatement c ls is → body_loss ds full ks is ≡ nowhere → Full g (statements g is)
      each_full [] w e = tt
      each_full (Assign xs t ∷ is) w e = each_full is w.1 e
      each_full (Sample x d ∷ is) w e =
          let z = both_nowhere (if may_lose ds d then sampled x else nowhere) (body_loss ds full ks is) e in
          (full_term ls d w.0.0 w.0.1 (sampled_full ls x d (may_lose ds d) refl z.0), each_full is w.1 z.1)
      each_full (Call' xs p n es ∷ is) w e =
          let z = both_nowhere (known_of ks p) (body_loss ds full ks is) e in call_full p z.0 xs (g.procedure p) _ (statements g is) refl (each_full is w.1 z.1)
      each_full (If' t m a n b ∷ is) w e =
          let z = both_nowhere (or_after (row_loss ds full ks a) (row_loss ds full ks b)) (body_loss ds full ks is) e in
          let l = both_nowhere (row_loss ds full ks a) (row_loss ds full ks b) z.0 in
          (row_full a w.0.1 l.0, row_full b w.0.2 l.1, each_full is w.1 z.1)
      each_full (While' t v n a ∷ is) w e =
          let z = both_nowhere (row_loss ds full ks a) (body_loss ds full ks is) e in (row_full a w.0.2 z.0, each_full is w.1 z.1)

  -- declared procedures are typed, and references mean what they stand for
  module _ (typed : (p : ProcRef) (a : Proc) → procedure_of ds p ≡ Some a → IsBody c (locals_of a) a.body.list) (means : (p : ProcRef) → Means g p (meant_by ds p)) where
    record IsFullProcedure (p : ProcRef) : Type 0 where
      found : Routine
      there : g.procedure p ≡ Some found
      full : FullRoutine g found

    stands_full : (p : ProcRef) → IsFullProcedure p → (r : Routine) → g.procedure p ≡ Some r → FullRoutine g r
    stands_full p x r e = subst (FullRoutine g) (same_Some x.found r (sym x.there ∙ e)) x.full

    -- a procedure of an abstract module loses none where its oracles lose none
    meant_full : (ks : Losses) → ((p : ProcRef) → known_of ks p ≡ nowhere → IsFullProcedure p) → (p : ProcRef) (m : Meant) → IfDeclared (λ a. IsBody c (locals_of a) a.body.list) m → Means g p m →
        procedure_loss ds full ks m ≡ nowhere → IsFullProcedure p
    meant_full ks known p Unknown t w e = absurd (false≢true (ap is_nowhere e))
    meant_full ks known p (Declared a) t w e = record {
      found = routine a.params a.locals (statements g a.body.list) a.value;
      there = w;
      full = each_full ks (λ q i. stands_full q (known q i)) (locals_of a) a.body.list t.statements e;
    }
    meant_full ks known p (Any a qs) t w e = record {
      found = link_routine w.oracles w.own;
      there = w.there;
      full = full_of_any g a qs p w (λ q i. stands_full q (known q (oracles_known ks qs e q i))) (link_routine w.oracles w.own) w.there;
    }

    -- each round is right by the one before
    module _ (fs : Reached) (are : AreMeant ds fs) where
      known_full : (n : ℕ) (p : ProcRef) → known_of (rounds ds full n fs) p ≡ nowhere → IsFullProcedure p
      known_full zero p e = absurd (false≢true (ap is_nowhere e))
      known_full (suc n) p e =
          meant_full (rounds ds full n fs) (λ q i. known_full n q i) p (meant_by ds p) (if_declared ds p (λ a. IsBody c (locals_of a) a.body.list) (typed p)) (means p)
          (round_known ds full (rounds ds full n fs) fs are p e)

    body_full : (ls : List TypedName) (is : List Instr) → IsBody c ls is → first_loss ds is ≡ nowhere → Full g (statements g is)
    unfolding losses
    body_full ls is w e =
        let o = all_reached ds (calls is) in
        let fs = meant_if ds o in
        each_full (table ds (calls is)) (λ q i. stands_full q (known_full fs (all_meant ds o) (length fs) q i)) ls is w.statements e

    procedure_full : (p : ProcRef) → known_of (table ds (p ∷ [])) p ≡ nowhere → IsFullProcedure p
    unfolding losses
    procedure_full p e = let o = all_reached ds (p ∷ []) in let fs = meant_if ds o in known_full fs (all_meant ds o) (length fs) p e

-- Over a typed scope.
module _ (ds : Declarations) (scoped : IsTypedScope (declared ds)) (q : Sequent) (t : IsTypedSequent (context_of (declared ds)) q) (g : Setting)
    (fits : IsSettingOf (of_sequent (context_of (declared ds)) q t.frames) g) (over : IsSettingOver (declared ds) g) where
  abbrev goal : Context
  goal = of_sequent (context_of (declared ds)) q t.frames

  there : (p : ProcRef) (a : Proc) → procedure_of ds p ≡ Some a → IsTypedThere goal p a
  there p a e = typed_there ds scoped q t.modules t.frames p a e

  typed_body : (p : ProcRef) (a : Proc) → procedure_of ds p ≡ Some a → IsBody goal (locals_of a) a.body.list
  typed_body p a e = let x = there p a e in let y = x.typed in y.body

  operators : AreFullOperators ds g goal
  operators = scope_full ds scoped q t.frames g fits.types over

  -- the run of a body that loses no weight has the whole weight
  pub total_full : (ls : List TypedName) (is : List Instr) → IsBody goal ls is → first_loss ds is ≡ nowhere → (s : State) (m : Memory) → total (run g s is m) ≡ denominator g is
  total_full ls is w e s m = run_total g s (statements g is) (body_full ds goal g fits operators typed_body (means_there ds scoped g over) ls is w e) m

  -- so have the outcomes of a procedure
  pub record IsWholeProcedure (p : ProcRef) : Type 0 where
    pub found : Routine
    pub there : g.procedure p ≡ Some found
    pub total : (vs : List Value) (m : Map) → total (outcomes g found vs m) ≡ routine_denominator g found

  pub procedure_whole : (p : ProcRef) → code_loss ds (procedure p) ≡ nowhere → IsWholeProcedure p
  procedure_whole p e =
      let x = procedure_full ds goal g fits operators typed_body (means_there ds scoped g over) p e in
      record { found = x.found; there = x.there; total = λ vs m. routine_total g x.found x.full vs m }

  -- What a reference means loses no weight where the procedure may lose none.
  pub routine_full : (p : ProcRef) → code_loss ds (procedure p) ≡ nowhere → (r : Routine) → g.procedure p ≡ Some r → FullRoutine g r
  routine_full p e r f =
      stands_full ds goal g fits operators typed_body (means_there ds scoped g over) p (procedure_full ds goal g fits operators typed_body (means_there ds scoped g over) p e) r f
