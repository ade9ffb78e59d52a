-- Programs see nothing of a state but the memory in which they run.
use Rattle.std.proofs.Common.{◌≡◌, ℕ, zero, suc, ◌-◌, ◌^◌, min, Bool, true, false, if◌then◌else◌, List, [], ◌∷◌, map, Option, Some, None, refl, ap, sym, ◌∙◌}
use Rattle.std.proofs.lemmas.Bool.{false≢true}
use Rattle.gb_core.specs.declared.ty.Ty.{Ty}
use Rattle.gb_core.specs.declared.var.Var.{Var}
use Rattle.gb_terms.specs.declared.decl.TypedName.{TypedName}
use Rattle.gb_terms.specs.declared.op.Side.TheVariants as side
use Rattle.gb_terms.specs.declared.op.Read.TheVariants.{Logical, Program as of_program_variable}
use Rattle.gb_terms.specs.declared.term.Term.{Term, Term', Row_of-Term, end_of-Term, more_of-Term, end_of-Head, more_of-Head}
use Rattle.gb_terms.specs.declared.term.Head.{Head}
use Rattle.gb_terms.specs.declared.term.Head.TheBlock as B
use Rattle.gb_terms.specs.declared.term.Head.TheVariants as head
use Rattle.gb_terms.specs.declared.term.Head.TheVariants.{Assign, Sample, Call', If', While, While'}
use Rattle.gb_terms.specs.declared.term.Instr.{Instr, Row_of-Instr, end_of-Instr, more_of-Instr}
use Rattle.gb_dist.specs.WeightedList.{bind, dmap, scale}
use Rattle.gb_meaning.specs.Commands.{terms_in, called, program_of}
use Rattle.gb_meaning.specs.Memory.{Memory, assigned, write}
use Rattle.gb_meaning.specs.Meanings.{truth, value_in, number_in, weights_in}
use Rattle.gb_meaning.specs.Program.{Program, Routine}
use Rattle.gb_meaning.specs.Runs.{out, outcomes, run_denominator, valued, returned, turns, most_turns}
use Rattle.gb_meaning.specs.Setting.{Setting}
use Rattle.gb_meaning.specs.State.{State, inside}
use Rattle.gb_meaning.specs.Terms.{quiet, val}
use Rattle.gb_meaning.proofs.Bodies.{run_of_body}
use Rattle.gb_laws.specs.Agree.{Agree}
use Rattle.gb_laws.specs.Plain.{HeadIsPlain, IsPlain, AllPlain}
use Rattle.gb_laws.specs.Uses.{Use, Uses, beneath, HeadIsWithin, IsWithin, AreWithin, of_arguments, of_last}
use Rattle.gb_laws.specs.Uses.Use.{read as reads, bound, globals, starts, binds_own, binds_sides}
use Rattle.gb_laws.proofs.Agreeing.{term_agrees}
use Rattle.gb_laws.specs.Typing as typed
use Rattle.gb_laws.specs.Typing.{types_of}
use Rattle.gb_typing.specs.Context.{Context, procedure, erased, of_program}
use Rattle.gb_typing.specs.Modules.{ProcedureType}
use Rattle.gb_typing.specs.Programs.{IsExpression, AreArguments, IsCall, AreStatements, EachStatement, IsBody}
use Rattle.gb_typing.proofs.Erased.{erased_typed}
use Rattle.gb_typing.proofs.Expressions.{same_program}
use Rattle.gb_typing.proofs.Formed.{formed}
use Rattle.gb_typing.specs.Meaning.{run}
use Rattle.gb_typing.proofs.Lists.{hidden_each}
use mathlib.Core.Former.{Count}

-- all uses but logical variables
abbrev unlogical : Uses
unlogical (reads (Logical i) ty) = false
unlogical _ = true

abbrev Sees : Uses → Type 0
Sees K = (u : Use) → unlogical u ≡ true → K u ≡ true

module _ (K : Uses) (f : Sees K) where
  sees_beneath : Sees (beneath K)
  sees_beneath (reads (Logical i) ty) e = absurd (false≢true e)
  sees_beneath (reads (of_program_variable x side.Own) ty) e = f (reads (of_program_variable x side.Own) ty) refl
  sees_beneath (reads (of_program_variable x side.Left) ty) e = f (reads (of_program_variable x side.Left) ty) refl
  sees_beneath (reads (of_program_variable x side.Right) ty) e = f (reads (of_program_variable x side.Right) ty) refl
  sees_beneath (reads (of_program_variable x (side.Memory i)) ty) e = f (reads (of_program_variable x (side.Memory i)) ty) refl
  sees_beneath (reads (of_program_variable x (side.Bound zero)) ty) e = refl
  sees_beneath (reads (of_program_variable x (side.Bound (suc i))) ty) e = f (reads (of_program_variable x (side.Bound i)) ty) refl
  sees_beneath (bound zero) e = refl
  sees_beneath (bound (suc i)) e = f (bound i) refl
  sees_beneath (globals m side.Own) e = f (globals m side.Own) refl
  sees_beneath (globals m side.Left) e = f (globals m side.Left) refl
  sees_beneath (globals m side.Right) e = f (globals m side.Right) refl
  sees_beneath (globals m (side.Memory i)) e = f (globals m (side.Memory i)) refl
  sees_beneath (globals m (side.Bound zero)) e = refl
  sees_beneath (globals m (side.Bound (suc i))) e = f (globals m (side.Bound i)) refl
  sees_beneath (starts side.Own) e = f (starts side.Own) refl
  sees_beneath (starts side.Left) e = f (starts side.Left) refl
  sees_beneath (starts side.Right) e = f (starts side.Right) refl
  sees_beneath (starts (side.Memory i)) e = f (starts (side.Memory i)) refl
  sees_beneath (starts (side.Bound zero)) e = refl
  sees_beneath (starts (side.Bound (suc i))) e = f (starts (side.Bound i)) refl
  sees_beneath binds_own e = f binds_own refl
  sees_beneath binds_sides e = f binds_sides refl

  sees_arguments : (h : Head) → HeadIsPlain h → Sees (of_arguments K h)
  sees_arguments (head.Hoare c) p = absurd p
  sees_arguments (head.Phoare c r) p = absurd p
  sees_arguments (head.Equiv c d) p = absurd p
  sees_arguments _ p = f

  sees_last : (h : Head) → HeadIsPlain h → Sees (of_last K h)
  sees_last (head.All u) p = sees_beneath
  sees_last (head.Some u) p = sees_beneath
  sees_last head.AllMemory p = absurd p
  sees_last head.SomeMemory p = absurd p
  sees_last (head.AllModule b) p = sees_beneath
  sees_last head.Mu p = sees_beneath
  sees_last (head.Sum q) p = sees_beneath
  sees_last head.Map p = sees_beneath
  sees_last head.Restrict p = sees_beneath
  sees_last (head.Pr m r) p = absurd p
  sees_last (head.Hoare c) p = absurd p
  sees_last (head.Phoare c r) p = absurd p
  sees_last (head.Equiv c d) p = absurd p
  sees_last _ p = f

  some_none : {P : Type 0} (t : Ty) → None ≡ Some t → P
  some_none t e = absurd (false≢true (ap is_some e))
    where
      is_some : Option Ty → Bool
      is_some None = false
      is_some (Some t) = true

  head_within : (c : typed.Context) → ((i : ℕ) → c.logical i ≡ None) → (h : Head) → HeadIsPlain h → (us : List Ty) (ty : Ty) → typed.IsHead c h us ty → HeadIsWithin K h ty
  head_within c l (head.Read (Logical i)) p [] ty w = some_none ty (sym (l i) ∙ w.1)
  head_within c l (head.Read (Logical i)) p (u ∷ us) ty w = absurd w
  head_within c l (head.Read (of_program_variable x r)) p us ty w = f (reads (of_program_variable x r) ty) refl
  head_within c l (head.Bound i) p us ty w = f (bound i) refl
  head_within c l (head.Glob m r) p us ty w = f (globals m r) refl
  head_within c l (head.Pr m r) p us ty w = absurd p
  head_within c l (head.Hoare b) p us ty w = absurd p
  head_within c l (head.Phoare b r) p us ty w = absurd p
  head_within c l (head.Equiv a b) p us ty w = absurd p
  head_within c l _ p us ty w = tt

mutual
  term_within : (K : Uses) → Sees K → (c : typed.Context) → ((i : ℕ) → c.logical i ≡ None) → (t : Term) → IsPlain t → typed.IsTyped c t → IsWithin K t
  term_within K f c l (Term' p (more_of-Head h end_of-Head) n ts ty) x w = (
    head_within K f c l h x.0 (types_of ts) ty w.0,
    all_within (of_arguments K h) (of_last K h) (sees_arguments K f h x.0) (sees_last K f h x.0) c (typed.inner c h (types_of ts)) l l ts x.1 w.1,
  )

  all_within : {n : Count} (K L : Uses) → Sees K → Sees L → (c d : typed.Context) → ((i : ℕ) → c.logical i ≡ None) → ((i : ℕ) → d.logical i ≡ None) → (ts : Row_of-Term n) → AllPlain ts → typed.AreTyped c d ts →
      AreWithin K L ts
  all_within K L f h c d l k end_of-Term x w = tt
  all_within K L f h c d l k (more_of-Term t end_of-Term) x w = term_within L h d k t x.0 w
  all_within K L f h c d l k (more_of-Term t (more_of-Term u ts)) x w = (term_within K f c l t x.0 w.0, all_within K L f h c d l k (more_of-Term u ts) x.1 w.1)

-- states that differ in logical variables alone
agree : (g : Setting) (s : State) (f : _) (m : Memory) → Agree g unlogical (inside s m) (inside (record s { logical = f }) m)
agree g s f m (reads (Logical i) ty) e = absurd (false≢true e)
agree g s f m (reads (of_program_variable x side.Own) ty) e = refl
agree g s f m (reads (of_program_variable x side.Left) ty) e = refl
agree g s f m (reads (of_program_variable x side.Right) ty) e = refl
agree g s f m (reads (of_program_variable x (side.Memory i)) ty) e = refl
agree g s f m (reads (of_program_variable x (side.Bound i)) ty) e = refl
agree g s f m (bound i) e = refl
agree g s f m (globals x side.Own) e = refl
agree g s f m (globals x side.Left) e = refl
agree g s f m (globals x side.Right) e = refl
agree g s f m (globals x (side.Memory i)) e = refl
agree g s f m (globals x (side.Bound i)) e = refl
agree g s f m (starts side.Own) e = refl
agree g s f m (starts side.Left) e = refl
agree g s f m (starts side.Right) e = refl
agree g s f m (starts (side.Memory i)) e = refl
agree g s f m (starts (side.Bound i)) e = refl
agree g s f m binds_own e = tt
agree g s f m binds_sides e = tt

module _ (c : Context) (ls : List TypedName) (g : Setting) (s q : State) where
  -- an expression means the same in each state
  pub blind_value : (e : Term) → IsExpression c ls e → (m : Memory) → val g quiet e (inside s m) ≡ val g quiet e (inside q m)
  blind_value e x m =
      term_agrees g quiet e (formed (of_program c ls) e x.typed) x.plain unlogical (inside s m) (inside (record s { logical = q.logical }) m) (agree g s q.logical m)
      (term_within unlogical (λ u e. e) (erased (of_program c ls)) (λ i. refl) e x.plain (erased_typed (of_program c ls) e x.typed))
      ∙ same_program c ls g e x (record s { logical = q.logical }) q m refl

  blind_arguments : (es : List Term) (ps : List TypedName) → AreArguments c ls es ps → (m : Memory) → map (λ e. valued g s e m) es ≡ map (λ e. valued g q e m) es
  blind_arguments [] ps w m = refl
  blind_arguments (e ∷ es) [] w m = absurd w
  blind_arguments (e ∷ es) (p ∷ ps) w m =
      let k = blind_value e w.0.0.expression m in
      let r = blind_arguments es ps w.1 m in
      λ i. value_in (k i) ∷ r i

  call_arguments : (xs : List Var) (p : Option ProcedureType) (es : List Term) → IsCall c ls xs p es → (m : Memory) → map (λ e. valued g s e m) es ≡ map (λ e. valued g q e m) es
  call_arguments xs None es w m = absurd w
  call_arguments xs (Some p) es w m = blind_arguments es p.params w.0 m

  blind_call : (xs : List Var) (r : Option Routine) (es : List Term) (d : Program) → ((m : Memory) → map (λ e. valued g s e m) es ≡ map (λ e. valued g q e m) es) →
      ((m : Memory) → out g s d m ≡ out g q d m) → (m : Memory) → out g s (called xs r es d) m ≡ out g q (called xs r es d) m
  blind_call xs None es d a h m = h m
  blind_call xs (Some r) es d a h m = λ i. bind (dmap (returned g xs m) (outcomes g r (a m i) m.globals)) (λ n. h n i)

  blind_row : {n : Count} (r : Row_of-Instr n) → AreStatements c ls r → (m : Memory) → out g s (program_of g r) m ≡ out g q (program_of g r) m
  blind_row end_of-Instr w m = refl
  blind_row (more_of-Instr (Assign xs e) r) w m =
      blind_row r w.1 (assigned g.types m xs (valued g s e m)) ∙ ap (λ v. out g q (program_of g r) (assigned g.types m xs (value_in v))) (blind_value e w.0.0.expression m)
  blind_row (more_of-Instr (Sample x d) r) w m =
      let k = blind_value d w.0.0 m in
      let h = blind_row r w.1 in
      λ i. bind (dmap (write g.types m x) (weights_in (k i))) (λ n. h n i)
  blind_row (more_of-Instr (Call' xs p n es) r) w m =
      blind_call xs (g.procedure p) (terms_in es) (program_of g r) (call_arguments xs (procedure c p) (terms_in es) w.0) (blind_row r w.1) m
  blind_row (more_of-Instr (If' e k a j b) r) w m =
      let t = blind_value e w.0.0.0 m in
      let x = blind_row a w.0.1 m in
      let y = blind_row b w.0.2 m in
      let h = blind_row r w.1 in
      λ i. bind (if truth (t i) then scale (run_denominator g (program_of g b)) (x i) else scale (run_denominator g (program_of g a)) (y i)) (λ n. h n i)
  blind_row (more_of-Instr (While' e v k a) r) w m =
      let t = blind_value e w.0.0.0 in
      let u = blind_value v w.0.1.0 m in
      let x = blind_row a w.0.2 in
      let h = blind_row r w.1 in
      λ i. bind (scale (run_denominator g (program_of g a) ^ (most_turns v - min (number_in (u i)) (most_turns v)))
      (turns (λ n. truth (t n i)) (λ n. x n i) (run_denominator g (program_of g a)) (min (number_in (u i)) (most_turns v)) m)) (λ n. h n i)

  pub blind_each : (is : List Instr) → EachStatement c ls is → (m : Memory) → run g s is m ≡ run g q is m
  blind_each is w m =
      sym (run_of_body g s (record { list = is }) m) ∙ blind_row (B.hidden-the_row-Instr-1 is) (hidden_each c ls is w) m ∙ run_of_body g q (record { list = is }) m

  pub blind_run : (is : List Instr) → IsBody c ls is → (m : Memory) → run g s is m ≡ run g q is m
  blind_run is w m = blind_each is w.statements m
