-- A form says of modules that are put in what it says where they stand for names.
use Rattle.std.proofs.Common.{◌≡◌, inl, inr, ◌↔◌, ℕ, if◌then◌else◌, Bool, true, false, List, [], ◌∷◌, map, Option, Some, None, refl, ap, sym, ◌∙◌, subst}
use Rattle.std.specs.Prelude.{bytes_eq}
use Rattle.std.proofs.lemmas.Bool.{false≢true}
use Rattle.std.proofs.Math.Path.{fun_ext}
use mathlib.Core.Former.{Count}
use Rattle.gb_core.specs.declared.ty.Ty.{Ty}
use Rattle.gb_core.specs.declared.value.Value.{Value}
use Rattle.gb_core.specs.declared.var.Var.{Var}
use Rattle.gb_core.specs.declared.var.Var.TheVariants as var
use Rattle.gb_terms.specs.declared.decl.Param.{Param}
use Rattle.gb_terms.specs.declared.decl.TypedName.{TypedName}
use Rattle.gb_terms.specs.declared.module.Mexp.{Mexp}
use Rattle.gb_terms.specs.declared.module.Mexp.TheVariants.{Name as named}
use Rattle.gb_terms.specs.declared.module.ProcRef.{ProcRef}
use Rattle.gb_terms.specs.declared.op.Op.TheVariants as op
use Rattle.gb_terms.specs.declared.op.Side.{Side}
use Rattle.gb_terms.specs.declared.op.Read.TheVariants as read
use Rattle.gb_terms.specs.declared.term.Head.{Head}
use Rattle.gb_terms.specs.declared.term.Head.TheVariants as head
use Rattle.gb_terms.specs.declared.term.Head.TheVariants.{Proc, Body'}
use Rattle.gb_terms.specs.declared.term.Subject.{Subject}
use Rattle.gb_terms.specs.declared.term.Term.{Term, Term', Row_of-Term, end_of-Term, more_of-Term, end_of-Head, more_of-Head, out-Term}
use Rattle.gb_terms.specs.Rows.{terms_in}
use Rattle.gb_goal.specs.Instances.{stands_for}
use Rattle.gb_goal.specs.Scope as scope
use Rattle.gb_dist.specs.WeightedList.{WeightedList, Every}
use Rattle.gb_dist.specs.Coupling.{Coupling}
use Rattle.gb_elab.specs.Globs.{is_abstract}
use Rattle.gb_meaning.specs.Fractions.{Fraction}
use Rattle.gb_meaning.specs.Memory.{Memory, read_globals}
use Rattle.gb_meaning.specs.Names.{Name}
use Rattle.gb_meaning.specs.Naming.{AnyName}
use Rattle.gb_meaning.specs.Program.{Program, Routine}
use Rattle.gb_meaning.specs.Program.Program.{done, assign, sample, branch, loop, call, ask}
use Rattle.gb_meaning.specs.Program.Routine.{routine}
use Rattle.gb_meaning.specs.Sound.{IsSound, IsSoundRoutine}
use Rattle.gb_meaning.specs.Globs.{EachGlob}
use Rattle.gb_meaning.specs.Setting.{Meaning, Setting}
use Rattle.gb_meaning.specs.Setting.Meaning.{finite}
use Rattle.gb_meaning.specs.Meanings.{fraction_in, of_truth, same, truth}
use Rattle.gb_meaning.specs.Runs.{outcomes, parameter_values}
use Rattle.gb_meaning.specs.State.{State, at, between, memory_of}
use Rattle.gb_meaning.specs.Terms.{Part, Speaks, at_head, denominator, denominator_of, denominators, part_of, parts, val}
use Rattle.gb_meaning.specs.Judgments.{AllSound, Holds, IsFair, IsSoundForm, IsSoundIfThere, IsSoundSubject, IsTrueIn, Judge, chance, compares, from_frame, is_judged_at, is_sound_at, outcome_denominator, outcomes_of, part, probability, run_of, speaking, stands_at, subject_denominator}
use Rattle.gb_meaning.proofs.Bools.{same_truth}
use Rattle.gb_meaning.proofs.Nodes.{denominator_node, each_is_node, judged_node, stands_node, val_node}
use Rattle.gb_laws.proofs.Exact.{trying}
use Rattle.gb_laws.proofs.Fair.{is_fair}
use Rattle.gb_laws.specs.Typing.{types_of}
use Rattle.gb_typing.specs.Agreement.{SameIfThere, SameProgram, SameRoutine}
use Rattle.gb_typing.specs.Context.{Context, procedure}
use Rattle.gb_typing.specs.Modules.{ProcedureType}
use Rattle.gb_typing.specs.Naming.{AgreeOn, NamesIfThere, NoName}
use Rattle.gb_typing.specs.Typing.{AreTyped, IsNamed, IsThere, IsTyped, first, last, middle, procedure_in}
use Rattle.gb_typing.proofs.Agreeing.{routine_agrees}
use Rattle.gb_typing.proofs.Interfaces.{none_some, same_name, same_some}
use Rattle.gb_typing.proofs.PlainGlobals.{EachPlain}
use Rattle.gb_typing.proofs.SameForms.{distribution-to}
use Rattle.gb_typing.proofs.SamePrograms.{outcomes_same, parameters_same, routine_size_same}
use Rattle.gb_arguments.specs.Arguments.{standing}
use Rattle.gb_instances.specs.Footprint.{footprint_at}
use Rattle.gb_instances.specs.Put.{Equation, agreement_of, agreement_or, all_put, equated, equation_put, head_put, name_put, node_put, of_one, procedure_put, put, subject_put, type_put, whole_in, whole_read}
use Rattle.gb_arguments.specs.Said.{AllClear, IsClear, IsClearAt, IsEquationOf, IsName, IsOneOr, IsUnknown, IsValue, QuantifiedNames, equal_globals}
use Rattle.gb_arguments.proofs.Basis.{no_footprint, no_procedure}
use Rattle.gb_arguments.proofs.PutHeads.{SaysLed, globals_led, head_led, tree_led}

-- parts of a row and of a list
parts_listed : {n : Count} (g : Setting) (j : Speaks) (ts : Row_of-Term n) → parts g j ts ≡ map (part_of g j) (terms_in ts)
parts_listed g j end_of-Term = refl
parts_listed g j (more_of-Term t ts) = ap (λ z. part_of g j t ∷ z) (parts_listed g j ts)

-- an equation of two terms that read all globals of a module
pub record IsPair (hd : Head) (ts : List Term) (e : Equation) : Type 0 where
  pub left : Term
  pub right : Term
  pub head : hd ≡ head.Builtin op.Equal
  pub terms : ts ≡ left ∷ right ∷ []
  pub reads_left : whole_read left ≡ Some (e.0, e.1)
  pub reads_right : whole_read right ≡ Some (e.0, e.2)

reads_one : (l r : Option (Name × Side)) (t u : Term) (e : Equation) → whole_read t ≡ l → whole_read u ≡ r → of_one l r ≡ Some e → IsPair (head.Builtin op.Equal) (t ∷ u ∷ []) e
reads_one None r t u e a b k = none_some e k
reads_one (Some x) None t u e a b k = none_some e k
reads_one (Some x) (Some y) t u e a b k = step (bytes_eq x.0 y.0) refl k
  where
    step : (z : Bool) → bytes_eq x.0 y.0 ≡ z → (if z then Some (let q : Equation = (x.0, x.1, y.1) in q) else None) ≡ Some e → IsPair (head.Builtin op.Equal) (t ∷ u ∷ []) e
    step false q k = none_some e k
    step true q k =
        let m : ◌≡◌ {A = Equation} (x.0, x.1, y.1) e = same_some _ e k in
        record {
          left = t;
          right = u;
          head = refl;
          terms = refl;
          reads_left = a ∙ ap (λ (w : Equation). Some (let v : Name × Side = (w.0, w.1) in v)) m;
          reads_right = b ∙ ap (λ n. Some (let v : Name × Side = (n, y.1) in v)) (sym (same_name x.0 y.0 q)) ∙ ap (λ (w : Equation). Some (let v : Name × Side = (w.0, w.2) in v)) m;
        }

pub pair_of : (hd : Head) (ts : List Term) (e : Equation) → equated hd ts ≡ Some e → IsPair hd ts e
pair_of (head.Builtin op.Equal) (t ∷ u ∷ []) e k = reads_one (whole_read t) (whole_read u) t u e refl refl k
pair_of (head.Builtin op.Equal) [] e k = none_some e k
pair_of (head.Builtin op.Equal) (t ∷ []) e k = none_some e k
pair_of (head.Builtin op.Equal) (t ∷ u ∷ v ∷ ts) e k = none_some e k
pair_of _ ts e k = none_some e k

-- what a head that reads all globals of a module means
whole_head : (g : Setting) (j : Speaks) (u : Term) (hd : Head) (xs : List Part) (t : Ty) (s : State) (a : Name) (r : Side) → whole_in hd ≡ Some (a, r) →
    at_head g j u hd xs t s ≡ finite (read_globals g.types (memory_of s r) (g.types.footprint (named a)))
whole_head g j u (head.Read (read.Program (var.Glob b) q)) xs t s a r e =
    ap (λ (z : Name × Side). finite (read_globals g.types (memory_of s z.1) (g.types.footprint (named z.0)))) (same_some _ (a, r) e)
whole_head g j u (head.Read (read.Program (var.Global m x) q)) xs t s a r e = none_some _ e
whole_head g j u (head.Read (read.Program (var.Local x) q)) xs t s a r e = none_some _ e
whole_head g j u (head.Read (read.Logical i)) xs t s a r e = none_some _ e
whole_head g j u _ xs t s a r e = none_some _ e

whole_means : (g : Setting) (j : Speaks) (t : Term) (s : State) (a : Name) (r : Side) → whole_read t ≡ Some (a, r) →
    val g j t s ≡ finite (read_globals g.types (memory_of s r) (g.types.footprint (named a)))
whole_means g j t s a r e =
    ap (λ z. val g j z s) (each_is_node t) ∙ val_node g j (out-Term t).head (out-Term t).args (out-Term t).ty s
    ∙ whole_head g j _ (out-Term t).head _ (out-Term t).ty s a r e

-- what an equation of all globals of a module means
pair_means : (g : Setting) (j : Speaks) (u : Term) (hd : Head) (ts : List Term) (t : Ty) (s : State) (e : Equation) → IsPair hd ts e →
    at_head g j u hd (map (part_of g j) ts) t s ≡ of_truth (equal_globals g (g.types.footprint (named e.0)) e.1 e.2 s)
pair_means g j u hd ts t s e p =
    ap (λ h. at_head g j u h (map (part_of g j) ts) t s) p.head
    ∙ ap (λ z. at_head g j u (head.Builtin op.Equal) (map (part_of g j) z) t s) p.terms
    ∙ (λ i. of_truth (same (whole_means g j p.left s e.0 e.1 p.reads_left i) (whole_means g j p.right s e.0 e.2 p.reads_right i)))

module _ (ds : scope.Declarations) (ps : List Param) (es : List Mexp) (g : Setting) (plain : (m : Mexp) → EachPlain (g.types.footprint m)) where
  abbrev f : Name → Mexp
  f = stands_for ps es

  abbrev h : Setting
  h = standing f g

  -- equations that stay
  stays : (t : Term) (r s : Side) (b : Bool) (o : Option (List Var)) → IsOneOr (IsUnknown o) b → (if b then t else agreement_or ds t r s o) ≡ t
  stays t r s true o w = refl
  stays t r s false None w = refl
  stays t r s false (Some xs) w = absurd w

  value_stays : (t : Term) (r s : Side) (e : Mexp) → IsValue ds e → agreement_of ds t r s e ≡ t
  value_stays t r s e w = stays t r s (is_abstract ds e) (footprint_at ds e) w.1

  -- .. and those that become others
  module _ (t : Term) (r s : Side) (e : Mexp) where
    abbrev Becomes : Bool → Option (List Var) → Term
    Becomes b o = if b then t else agreement_or ds t r s o

    agreed_val : (j : Speaks) (q : State) (b : Bool) (o : Option (List Var)) → b ≡ false → IsEquationOf ds g e o →
        val g j (Becomes b o) q ≡ of_truth (equal_globals g (g.types.footprint e) r s q)
    agreed_val j q true o k w = absurd (false≢true (sym k))
    agreed_val j q false None k w = absurd w
    agreed_val j q false (Some xs) k w = w.means r s j q

    agreed_denominator : (b : Bool) (o : Option (List Var)) → b ≡ false → IsEquationOf ds g e o → denominator g (Becomes b o) ≡ 1
    agreed_denominator true o k w = absurd (false≢true (sym k))
    agreed_denominator false None k w = absurd w
    agreed_denominator false (Some xs) k w = w.denominator r s

  -- all globals of what stands for a module
  equal_led : (a : Name) (r s : Side) (q : State) → equal_globals h (h.types.footprint (named a)) r s q ≡ equal_globals g (g.types.footprint (f a)) r s q
  equal_led a r s q =
      λ i. same (finite (globals_led ps es g plain (memory_of q r) (f a) i)) (finite (globals_led ps es g plain (memory_of q s) (f a) i))

  -- procedures

  agrees : AgreeOn NoName AnyName h g
  agrees = record {
    sizes = refl;
    footprints = no_footprint h.types g.types;
    operators = λ n e. (refl, refl);
    procedures = λ p e. no_procedure h g p.«module» (h.procedure p ≡ g.procedure p) e;
  }

  there_same : (r : Option Routine) → NamesIfThere NoName AnyName r → SameIfThere h g r
  there_same None e = tt
  there_same (Some r) e = routine_agrees NoName AnyName h g agrees r e

  ends-led : (r : Option Routine) → SameIfThere h g r → (vs : List Value) (m : Memory) → outcomes_of h r vs m ≡ outcomes_of g r vs m
  ends-led None k vs m = refl
  ends-led (Some r) k vs m = outcomes_same h g r k vs m.globals

  sizes-led : (r : Option Routine) → SameIfThere h g r → outcome_denominator h r ≡ outcome_denominator g r
  sizes-led None k = refl
  sizes-led (Some r) k = routine_size_same h g r k

  start-led : (r : Option Routine) → SameIfThere h g r → (m : Memory) → from_frame h r m ≡ from_frame g r m
  start-led None k m = refl
  start-led (Some (routine ps ls c r)) k m =
      outcomes_same h g (routine ps ls c r) k (parameter_values h (routine ps ls c r) m) m.globals
      ∙ ap (λ vs. outcomes g (routine ps ls c r) vs m.globals) (parameters_same h.types g.types ps k.0 m)

  abbrev SameAt : ProcRef → Type 0
  SameAt p = SameIfThere h g (g.procedure (procedure_put ps es p))

  probability_led : (p : ProcRef) → SameAt p → ◌≡◌ {A = List Value → Memory → (Memory → Bool) → Fraction} (probability h p) (probability g (procedure_put ps es p))
  probability_led p k = fun_ext (λ vs. fun_ext (λ m. fun_ext (λ e.
      λ i. chance (ends-led (g.procedure (procedure_put ps es p)) k vs m i) (sizes-led (g.procedure (procedure_put ps es p)) k i) e)))

  -- what a judgment speaks of

  mutual
    sound_program : (c : Program) → SameProgram h g c → IsSound h c → IsSound g c
    sound_program done k w = tt
    sound_program (assign xs e c) k w = sound_program c k.2 w
    sound_program (sample x d c) k w = (distribution-to h g d k.1 w.0, sound_program c k.2 w.1)
    sound_program (branch e a b c) k w = (sound_program a k.1 w.0, sound_program b k.2 w.1, sound_program c k.3 w.2)
    sound_program (loop e v a c) k w = (sound_program a k.2 w.0, sound_program c k.3 w.1)
    sound_program (call xs r es c) k w = (sound_routine r k.1 w.0, sound_program c k.3 w.1)
    sound_program (ask xs o es c) k w = sound_program c k w

    sound_routine : (r : Routine) → SameRoutine h g r → IsSoundRoutine h r → IsSoundRoutine g r
    sound_routine (routine ps ls c r) k w = sound_program c k.2 w

  sound_there : (r : Option Routine) → SameIfThere h g r → IsSoundIfThere h r → IsSoundIfThere g r
  sound_there None k w = w
  sound_there (Some r) k w = sound_routine r k w

  abbrev SameSubject : Subject → Type 0
  SameSubject (Proc p) = SameAt p
  SameSubject (Body' n is) = ⊥

  subject_sound : (c : Subject) → SameSubject c → IsSoundSubject h c → IsSoundSubject g (subject_put ps es c)
  subject_sound (Proc p) k w = sound_there (g.procedure (procedure_put ps es p)) k w
  subject_sound (Body' n is) k w = absurd k

  subject_run : (c : Subject) → SameSubject c → (s : State) → ◌≡◌ {A = Memory → WeightedList Memory} (run_of h s c) (run_of g s (subject_put ps es c))
  subject_run (Proc p) k s = fun_ext (start-led (g.procedure (procedure_put ps es p)) k)
  subject_run (Body' n is) k s = absurd k

  subject_size : (c : Subject) → SameSubject c → subject_denominator h c ≡ subject_denominator g (subject_put ps es c)
  subject_size (Proc p) k = sizes-led (g.procedure (procedure_put ps es p)) k
  subject_size (Body' n is) k = absurd k

  -- the programs of a head
  abbrev SameJudged : Head → Type 0
  SameJudged (head.Pr p r) = SameAt p
  SameJudged (head.Hoare c) = SameSubject c
  SameJudged (head.Phoare c r) = SameSubject c
  SameJudged (head.Equiv c d) = SameSubject c × SameSubject d
  SameJudged _ = Unit {0}

  stands_led : (hd : Head) → SameJudged hd → (xs : List Part) (s : State) → stands_at h hd xs s ≡ stands_at g (head_put ps es hd) xs s
  stands_led (head.Hoare c) k xs s =
      λ i. (m : Memory) → Holds (part xs 0) (at s m) → Every (λ n. Holds (part xs 1) (at s n)) (subject_run c k s i m)
  stands_led (head.Phoare c r) k xs s =
      λ i. (m : Memory) → Holds (part xs 0) (at s m) → compares r (chance (subject_run c k s i m) (subject_size c k i) (λ n. truth ((part xs 1).meaning (at s n)))) (fraction_in ((part xs 2).meaning s)) ≡ true
  stands_led (head.Equiv c d) k xs s =
      λ i. (m n : Memory) → Holds (part xs 0) (between s m n) →
      Coupling (λ a b. Holds (part xs 1) (between s a b)) (subject_run c k.0 s i m) (subject_size c k.0 i) (subject_run d k.1 s i n) (subject_size d k.1 i)
  stands_led head.AllMemory k xs s = refl
  stands_led head.SomeMemory k xs s = refl
  stands_led (head.Read (read.Program x r)) k xs s = refl
  stands_led (head.Read (read.Logical i)) k xs s = refl
  stands_led _ k xs s = refl

  -- the answers are equal, where the head is judged in both
  says_led : (j i : Judge) (u w : Term) (hd : Head) (s : State) → SameJudged hd → is_sound_at h hd →
      (is_judged_at h hd → is_judged_at g (head_put ps es hd) → j u s ≡ i w s) → SaysLed ps es g plain (speaking h j) (speaking g i) u w hd s
  says_led j i u w head.AllMemory s k z e = e tt tt
  says_led j i u w head.SomeMemory s k z e = e tt tt
  says_led j i u w (head.Hoare c) s k z e = e z (subject_sound c k z)
  says_led j i u w (head.Phoare c r) s k z e = e z (subject_sound c k z)
  says_led j i u w (head.Equiv c d) s k z e = e z (subject_sound c k.0 z.0, subject_sound d k.1 z.1)
  says_led j i u w (head.Pr p r) s k z e = probability_led p k
  says_led j i u w _ s k z e = tt

  -- procedures that have a type name no module for its globals
  abbrev pub Procedures : Context → Type 0
  Procedures c = (r : ProcRef) (t : ProcedureType) → procedure c r ≡ Some t → NamesIfThere NoName AnyName (g.procedure (procedure_put ps es r))

  procedure_there : (c : Context) → Procedures c → (r : ProcRef) → IsThere (procedure c r) → SameAt r
  procedure_there c k r w = step (procedure c r) refl w
    where
      step : (o : Option ProcedureType) → procedure c r ≡ o → IsThere o → SameAt r
      step None e w = absurd w
      step (Some t) e w = there_same (g.procedure (procedure_put ps es r)) (k r t e)

  subject_there : (c : Context) → Procedures c → (s : Subject) → IsThere (procedure_in c s) → SameSubject s
  subject_there c k (Proc r) w = procedure_there c k r w
  subject_there c k (Body' n is) w = absurd w

  judged_there : (c : Context) → Procedures c → (hd : Head) (t : Ty) → IsNamed c hd t → SameJudged hd
  judged_there c k (head.Pr p r) t w = procedure_there c k p w.2
  judged_there c k (head.Hoare s) t w = subject_there c k s w
  judged_there c k (head.Phoare s r) t w = subject_there c k s w
  judged_there c k (head.Equiv s u) t w = (subject_there c k s w.0, subject_there c k u w.1)
  judged_there c k _ t w = tt

  in_first : (c : Context) → Procedures c → (hd : Head) → Procedures (first c hd)
  in_first c k (head.Hoare s) = k
  in_first c k (head.Phoare s r) = k
  in_first c k (head.Equiv s u) = k
  in_first c k _ = k

  in_middle : (c : Context) → Procedures c → (hd : Head) → Procedures (middle c hd)
  in_middle c k (head.Hoare s) = k
  in_middle c k (head.Phoare s r) = k
  in_middle c k (head.Equiv s u) = k
  in_middle c k _ = k

  in_last : (c : Context) → Procedures c → (ls : List TypedName) (hd : Head) (us : List Ty) → Procedures (last c ls hd us)
  in_last c k ls (head.All u) us = k
  in_last c k ls (head.Some u) us = k
  in_last c k ls head.AllMemory us = k
  in_last c k ls head.SomeMemory us = k
  in_last c k ls (head.AllModule b) us = k
  in_last c k ls (head.Sum q) us = k
  in_last c k ls head.Mu [] = k
  in_last c k ls head.Mu (u ∷ us) = k
  in_last c k ls head.Map [] = k
  in_last c k ls head.Map (u ∷ us) = k
  in_last c k ls head.Restrict [] = k
  in_last c k ls head.Restrict (u ∷ us) = k
  in_last c k ls (head.Pr p r) us = k
  in_last c k ls (head.Hoare s) us = k
  in_last c k ls (head.Phoare s r) us = k
  in_last c k ls (head.Equiv s u) us = k
  in_last c k ls _ us = k

  -- a node, whose parts mean the same
  abbrev ClearHere : {n : Count} → Head → Ty → Row_of-Term n → Type 0
  ClearHere hd t ts = EachGlob (λ a. IsName (f a)) t × QuantifiedNames (λ a. IsName (f a)) hd × AllClear ds g f ts

  abbrev SameSize : {n : Count} → Row_of-Term n → Type 0
  SameSize ts = denominators h ts ≡ map (denominator g) (all_put ds ps es ts)

  node_size : {n : Count} (hd : Head) (ts : Row_of-Term n) (t : Ty) → EachGlob (λ a. IsName (f a)) t → SameSize ts →
      denominator_of h hd (denominators h ts) t ≡ denominator g (node_put ps es hd (all_put ds ps es ts) t)
  node_size hd ts t w e =
      ap (λ ks. denominator_of h hd ks t) e ∙ tree_led ps es g plain hd (map (denominator g) (all_put ds ps es ts)) t w
      ∙ sym (denominator_node g (head_put ps es hd) (all_put ds ps es ts) (type_put (name_put ps es) t))

  pair_size : (hd : Head) (ts : List Term) (ks : List ℕ) (t : Ty) (e : Equation) → IsPair hd ts e → denominator_of h hd ks t ≡ 1
  pair_size hd ts ks t e p = ap (λ z. denominator_of h z ks t) p.head

  size_at : {n : Count} (hd : Head) (ts : Row_of-Term n) (t : Ty) → ((w : AllClear ds g f ts) → SameSize ts) → (o : Option Equation) → equated hd (terms_in ts) ≡ o →
      IsClearAt ds g f (ClearHere hd t ts) o → denominator_of h hd (denominators h ts) t ≡ denominator g (equation_put ds ps es (node_put ps es hd (all_put ds ps es ts) t) o)
  size_at hd ts t e None q w = node_size hd ts t w.0 (e w.2)
  size_at hd ts t e (Some a) q (inl w) =
      node_size hd ts t w.1.0 (e w.1.2) ∙ ap (denominator g) (sym (value_stays (node_put ps es hd (all_put ds ps es ts) t) a.1 a.2 (f a.0) w.0))
  size_at hd ts t e (Some a) q (inr w) =
      pair_size hd (terms_in ts) (denominators h ts) t a (pair_of hd (terms_in ts) a q)
      ∙ sym (agreed_denominator (node_put ps es hd (all_put ds ps es ts) t) a.1 a.2 (f a.0) (is_abstract ds (f a.0)) (footprint_at ds (f a.0)) w.0 w.1)

  mutual
    pub denominator_led : (t : Term) → IsClear ds g f t → denominator h t ≡ denominator g (put ds ps es t)
    denominator_led (Term' p (more_of-Head hd end_of-Head) n ts t) w =
        size_at hd ts t (denominators_led ts) (equated hd (terms_in ts)) refl w

    denominators_led : {n : Count} (ts : Row_of-Term n) → AllClear ds g f ts → denominators h ts ≡ map (denominator g) (all_put ds ps es ts)
    denominators_led end_of-Term w = refl
    denominators_led (more_of-Term t ts) w = λ i. denominator_led t w.0 i ∷ denominators_led ts w.1 i

  part_led : (j k : Speaks) (t u : Term) → ((s : State) → val h j t s ≡ val g k u s) → denominator h t ≡ denominator g u → part_of h j t ≡ part_of g k u
  part_led j k t u e d =
      let one : ◌≡◌ {A = State → Meaning} (λ s. val h j t s) (λ s. val g k u s) = fun_ext e in
      λ i. record { meaning = one i; denominator = d i }

  module _ (j i : Judge) (fj : IsFair h j) (fi : IsFair g i) where
    abbrev J : Speaks
    J = speaking h j

    abbrev I : Speaks
    I = speaking g i

    node_led : (c : Context) (p : _) (k : _) (hd : Head) (ts : _) (t : Ty) → SameJudged hd → IsNamed c hd t → is_sound_at h hd → EachGlob (λ a. IsName (f a)) t →
        QuantifiedNames (λ a. IsName (f a)) hd → parts h J ts ≡ map (part_of g I) (all_put ds ps es ts) → (s : State) →
        at_head h J (Term' p (more_of-Head hd end_of-Head) k ts t) hd (parts h J ts) t s ≡ val g I (node_put ps es hd (all_put ds ps es ts) t) s
    node_led c p k hd ts t a b d w q e s =
        let u : Term = Term' p (more_of-Head hd end_of-Head) k ts t in
        let v : Term = node_put ps es hd (all_put ds ps es ts) t in
        let xs : List Part = map (part_of g I) (all_put ds ps es ts) in
        let k2 = stands_node g i (head_put ps es hd) (all_put ds ps es ts) (type_put (name_put ps es) t) s in
        ap (λ z. at_head h J u hd z t s) e
        ∙ head_led ps es g plain c J I u v hd xs t s b w q
        (says_led j i u v hd s a d (λ x y. same_truth _ _
        (λ z. (fi v s (judged_node g (head_put ps es hd) (all_put ds ps es ts) (type_put (name_put ps es) t) y)).1 (k2.1 (subst (λ x. x) (stands_led hd a xs s)
        (subst (λ xs. stands_at h hd xs s) e ((fj u s x).0 z)))))
        (λ z. (fj u s x).1 (subst (λ xs. stands_at h hd xs s) (sym e)
        (subst (λ x. x) (sym (stands_led hd a xs s)) (k2.0 ((fi v s (judged_node g (head_put ps es hd) (all_put ds ps es ts) (type_put (name_put ps es) t) y)).0 z)))))))
        ∙ sym (val_node g I (head_put ps es hd) (all_put ds ps es ts) (type_put (name_put ps es) t) s)

    val_at : (c : Context) (p : _) (k : _) (hd : Head) (ts : _) (t : Ty) → SameJudged hd → IsNamed c hd t → is_sound_at h hd →
        ((w : AllClear ds g f ts) → parts h J ts ≡ map (part_of g I) (all_put ds ps es ts)) → (o : Option Equation) → equated hd (terms_in ts) ≡ o →
        IsClearAt ds g f (ClearHere hd t ts) o → (s : State) →
        at_head h J (Term' p (more_of-Head hd end_of-Head) k ts t) hd (parts h J ts) t s ≡ val g I (equation_put ds ps es (node_put ps es hd (all_put ds ps es ts) t) o) s
    val_at c p k hd ts t a b d e None q w s = node_led c p k hd ts t a b d w.0 w.1 (e w.2) s
    val_at c p k hd ts t a b d e (Some x) q (inl w) s =
        node_led c p k hd ts t a b d w.1.0 w.1.1 (e w.1.2) s ∙ ap (λ z. val g I z s) (sym (value_stays (node_put ps es hd (all_put ds ps es ts) t) x.1 x.2 (f x.0) w.0))
    val_at c p k hd ts t a b d e (Some x) q (inr w) s =
        ap (λ z. at_head h J (Term' p (more_of-Head hd end_of-Head) k ts t) hd z t s) (parts_listed h J ts)
        ∙ pair_means h J (Term' p (more_of-Head hd end_of-Head) k ts t) hd (terms_in ts) t s x (pair_of hd (terms_in ts) x q)
        ∙ ap of_truth (equal_led x.0 x.1 x.2 s)
        ∙ sym (agreed_val (node_put ps es hd (all_put ds ps es ts) t) x.1 x.2 (f x.0) I s (is_abstract ds (f x.0)) (footprint_at ds (f x.0)) w.0 w.1)

    mutual
      pub form_led : (c : Context) → Procedures c → (t : Term) → IsTyped c t → IsClear ds g f t → IsSoundForm h t → (s : State) → val h J t s ≡ val g I (put ds ps es t) s
      form_led c k (Term' p (more_of-Head hd end_of-Head) n ts t) w q z s =
          val_at c p n hd ts t (judged_there c k hd t w.1) w.1 z.0
          (λ r. forms_led (first c hd) (middle c hd) (last c w.2 hd (types_of ts)) (in_first c k hd) (in_middle c k hd) (in_last c k w.2 hd (types_of ts)) ts w.3 r z.1)
          (equated hd (terms_in ts)) refl q s

      forms_led : {n : Count} (a b d : Context) → Procedures a → Procedures b → Procedures d → (ts : Row_of-Term n) → AreTyped a b d ts → AllClear ds g f ts → AllSound h ts →
          parts h J ts ≡ map (part_of g I) (all_put ds ps es ts)
      forms_led a b d x y z end_of-Term w q v = refl
      forms_led a b d x y z (more_of-Term t end_of-Term) w q v =
          λ l. part_led J I t (put ds ps es t) (form_led d z t w q.0 v.0) (denominator_led t q.0) l ∷ []
      forms_led a b d x y z (more_of-Term t (more_of-Term u ts)) w q v =
          λ l. part_led J I t (put ds ps es t) (form_led a x t w.0 q.0 v.0) (denominator_led t q.0) l ∷ forms_led b b d y y z (more_of-Term u ts) w.1 q.1 v.1 l

  pub truth_led : (c : Context) → Procedures c → (t : Term) → IsTyped c t → IsClear ds g f t → IsSoundForm h t → (s : State) → IsTrueIn h t s ↔ IsTrueIn g (put ds ps es t) s
  truth_led c k t w q z s = (
    λ e i fi. sym (ap truth (form_led (trying h) i (is_fair h) fi c k t w q z s)) ∙ e (trying h) (is_fair h),
    λ e j fj. ap truth (form_led j (trying g) fj (is_fair g) c k t w q z s) ∙ e (trying g) (is_fair g),
  )
