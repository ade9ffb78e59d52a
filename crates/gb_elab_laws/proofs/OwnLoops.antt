-- The own loops of a procedure that isn't unproved are good.
use Rattle.std.proofs.Common.{◌≡◌, Bool, true, false, not, ◌&&◌, ◌||◌, if◌then◌else◌, List, [], ◌∷◌, ◌++◌, Option, Some, None, bytes_eq, refl, ap, sym, ◌∙◌, subst}
use Rattle.std.proofs.lemmas.Bool.{false≢true}
use Rattle.std.proofs.lemmas.Option.{same_Some}
use Rattle.std.proofs.lemmas.Slice.Eq.{bytes_eq-Decides}
use Rattle.gb_core.specs.declared.var.Var.{Var}
use Rattle.gb_terms.specs.declared.decl.Module.{Module}
use Rattle.gb_terms.specs.declared.decl.Proc.{Proc}
use Rattle.gb_terms.specs.declared.module.Bind.{Bind}
use Rattle.gb_terms.specs.declared.module.Mexp.{Mexp, Row_of-Mexp, end_of-Mexp, more_of-Mexp}
use Rattle.gb_terms.specs.declared.module.Mexp.TheVariants.{Name as named_module, Apply'}
use Rattle.gb_terms.specs.declared.module.ProcRef.{ProcRef}
use Rattle.gb_terms.specs.Rows.{mexps_in}
use Rattle.gb_terms.specs.declared.term.Head.TheVariants.{Assign, Sample, Call', If', While'}
use Rattle.gb_terms.specs.declared.term.Instr.{Instr, Row_of-Instr, end_of-Instr, more_of-Instr}
use Rattle.gb_terms.specs.declared.term.Term.{Term}
use Rattle.gb_ended.specs.Loops.{first, has_loop, loops, named, row_loops, unproved_code, unproved_if, unproved_in, unproved_of}
use Rattle.gb_goal.specs.declared.scope.ProcName.{ProcName}
use Rattle.gb_goal.specs.declared.sequent.Sequent.{Sequent}
use Rattle.gb_goal.specs.Goal.{Code, Goal, goal_of}
use Rattle.gb_goal.specs.Goal.Code.{body as code_body, procedure as code_procedure}
use Rattle.gb_goal.specs.Goal.Goal.{hoare, phoare, equiv, ambient}
use Rattle.gb_goal.specs.Instances.{name_of}
use Rattle.gb_goal.specs.Interfaces.{suits}
use Rattle.gb_goal.specs.Scope.{Declarations, instance_at, is_proved, module_of, proc_at, proc_if_plain, proc_in, proc_of, procedure_of}
use Rattle.gb_meaning.specs.Declared as holds
use Rattle.gb_meaning.specs.Declared.{declared}
use Rattle.gb_meaning.specs.Holds.{EachProgram, InEachModel, InEachSetting, LoopsAreGood, declared_modules, interpretation}
use Rattle.gb_meaning.specs.Modules.{Modules, found, modules_at, procedure_at}
use Rattle.gb_meaning.specs.Settings.{Interpretation, bare, linked_modules, setting, types_of, with_operators, with_program}
use Rattle.gb_meaning.specs.Commands.{called, program_of, statement, statements}
use Rattle.gb_meaning.specs.Names.{Name}
use Rattle.gb_meaning.specs.Program.{Program, Routine}
use Rattle.gb_meaning.specs.Program.Routine.{routine}
use Rattle.gb_meaning.specs.Setting.{Setting}
use Rattle.gb_elab_laws.specs.Falsehood.{falsehood}
use Rattle.gb_elab_laws.proofs.LinkedNames.{none_some}
use Rattle.gb_elab_laws.proofs.StayingLoops.{IsOf, module_there}
use Rattle.gb_prog.specs.Ends.{ProcedureEnds, ProceduresEnd}
use Rattle.gb_typing.specs.Chosen.{IsChosenOver}
use Rattle.gb_typing.specs.Scopes.{IsTypedScope}
use Rattle.gb_typing.proofs.Globals.{or_false}
use Rattle.gb_typing.proofs.Lifted.{both, each}
use Rattle.gb_typing.proofs.LinkedProcedures.{linked_there}
use Rattle.gb_typing.proofs.Models.{each_chosen}
use Rattle.gb_typing.proofs.Standing.{IsInstance, of_instance}
use mathlib.Core.Former.{Count}

-- Statements without loops have good ones.

module _ (g : Setting) where
  called_good : (xs : List Var) (o : Option Routine) (es : List Term) (c : Program) → LoopsAreGood g c → LoopsAreGood g (called xs o es c)
  called_good xs None es c h = h
  called_good xs (Some r) es c h = h

  mutual
    statement_good : (i : Instr) (c : Program) → loops i ≡ false → LoopsAreGood g c → LoopsAreGood g (statement g i c)
    statement_good (Assign xs e) c f h = h
    statement_good (Sample x d) c f h = h
    statement_good (Call' xs p n es) c f h = called_good xs (g.procedure p) _ c h
    statement_good (If' e m a n b) c f h = let k = or_false (row_loops a) (row_loops b) f in (row_good a k.0, row_good b k.1, h)
    statement_good (While' e v n a) c f h = absurd (cc)

    row_good : {n : Count} (is : Row_of-Instr n) → row_loops is ≡ false → LoopsAreGood g (program_of g is)
    row_good end_of-Instr f = tt
    row_good (more_of-Instr (Assign xs e) is) f = row_good is f
    row_good (more_of-Instr (Sample x d) is) f = row_good is f
    row_good (more_of-Instr (Call' xs p n es) is) f = called_good xs (g.procedure p) _ (program_of g is) (row_good is f)
    row_good (more_of-Instr (If' e m a n b) is) f =
        let k = or_false (row_loops a || row_loops b) (row_loops is) f in
        let l = or_false (row_loops a) (row_loops b) k.0 in
        (row_good a l.0, row_good b l.1, row_good is k.1)
    row_good (more_of-Instr (While' e v n a) is) f = absurd (cc)

  no_loop_good : (is : List Instr) → has_loop is ≡ false → LoopsAreGood g (statements g is)
  no_loop_good [] f = tt
  no_loop_good (i ∷ is) f = let k = or_false (loops i) (has_loop is) f in statement_good i (statements g is) k.0 (no_loop_good is k.1)

-- the name under which a procedure is found is its own
own_name : (ps : List Proc) (f : Name) (a : Proc) → proc_of ps f ≡ Some a → f ≡ a.name
own_name [] f a e = none_some a e
own_name (p ∷ ps) f a e = step (bytes_eq f p.name) refl e (own_name ps f a)
  where
    step : (b : Bool) → bytes_eq f p.name ≡ b → (if b then Some p else proc_of ps f) ≡ Some a → (proc_of ps f ≡ Some a → f ≡ a.name) → f ≡ a.name
    step true q e go = (bytes_eq-Decides f p.name).0 q ∙ ap (λ (z : Proc). z.name) (same_Some p a e)
    step false q e go = go e

pub first_none_of : (x y : Option ProcName) → first x y ≡ None → (x ≡ None) × (y ≡ None)
first_none_of None y e = (refl, e)
first_none_of (Some p) y e = none_some p (sym e)

-- the body of a routine, if there is one
abbrev body_if : Program → Option Routine → Program
body_if c None = c
body_if c (Some (routine ps ls d r)) = d

-- what is so of each thing of a kind, for all programs that are chosen, is so of all of them together
for_each : {X : Type 0} (ds : holds.Declarations) (bs : List Bind) (i : Interpretation) (P : Interpretation → X → Type 0) (Q : Interpretation → Type 0) → ((k : Interpretation) → ((x : X) → P k x) → Q k) →
    ((x : X) → EachProgram ds bs i (λ k. P k x)) → EachProgram ds bs i Q
for_each ds [] i P Q f h = f i h
for_each ds (b ∷ bs) i P Q f h = λ a w. for_each ds bs (with_program i b a) P Q f (λ x. h x a w)

-- the own loops of a procedure are good
abbrev pub IsGoodIn : Declarations → Proc → Interpretation → Type 0
IsGoodIn ds a i = LoopsAreGood (setting (declared ds) i) (statements (setting (declared ds) i) a.body.list)

module _ (ds : Declarations) where
  abbrev pub bound : List Bind
  bound = declared_modules (declared ds)

  pub everywhere : (P : Interpretation → Type 0) → ((i : Interpretation) → P i) → InEachModel (declared ds) P
  everywhere P f w size table model = each (declared ds) bound (interpretation w size table) P f

  pub mapped : (P Q : Interpretation → Type 0) → ((i : Interpretation) → P i → Q i) → InEachModel (declared ds) P → InEachModel (declared ds) Q
  mapped P Q f h w size table model = both (declared ds) bound (interpretation w size table) P P Q (λ i x y. f i x) (h w size table model) (h w size table model)

  pub paired : (P Q R : Interpretation → Type 0) → ((i : Interpretation) → P i → Q i → R i) → InEachModel (declared ds) P → InEachModel (declared ds) Q → InEachModel (declared ds) R
  paired P Q R f h k w size table model = both (declared ds) bound (interpretation w size table) P Q R f (h w size table model) (k w size table model)

-- in each model of a typed scope programs are chosen for the abstract modules
pub chosen_over : (ds : Declarations) → IsTypedScope (declared ds) → InEachModel (declared ds) (IsChosenOver (declared ds))
chosen_over ds scoped w size table model = each_chosen (declared ds) scoped falsehood tt [] w size table model

-- Where loops that are proved are good, and procedures whose loops are proved are of modules without parameters.
module _ (ds : Declarations) (scoped : IsTypedScope (declared ds))
    (good : (p : ProcName) (a : Proc) → proc_in (module_of ds p.module) p.name ≡ Some a → is_proved ds p ≡ true → InEachModel (declared ds) (IsGoodIn ds a))
    (lone : (p : ProcName) → is_proved ds p ≡ true → (m : Module) → module_of ds p.module ≡ Some m → m.params ≡ []) where
  abbrev IsGoodHere : Proc → Interpretation → Type 0
  IsGoodHere a i = IsGoodIn ds a i

  -- a procedure of the module m
  pub of_module : (m f : Name) (a : Proc) → proc_in (module_of ds m) f ≡ Some a → (if has_loop a.body.list && not (is_proved ds (named m a)) then Some (named m a) else None) ≡ None →
      InEachModel (declared ds) (IsGoodHere a)
  of_module m f a there e = step (has_loop a.body.list) (is_proved ds (named m a)) refl refl e
    where
      x : IsOf (module_of ds m) f a
      x = module_there (module_of ds m) f a there

      step : (b c : Bool) → has_loop a.body.list ≡ b → is_proved ds (named m a) ≡ c → (if b && not c then Some (named m a) else None) ≡ None → InEachModel (declared ds) (IsGoodHere a)
      step false c k l e = everywhere ds (IsGoodHere a) (λ i. no_loop_good (setting (declared ds) i) a.body.list k)
      step true true k l e = good (named m a) a (subst (λ z. proc_in (module_of ds m) z ≡ Some a) (own_name x.owner.procs f a x.procedure) there) l
      step true false k l e = none_some (named m a) (sym e)

  -- A reference that means in all modules what a procedure of a module without parameters does.
  meant_same : (r q : ProcRef) (a b : Proc) → ((ms : Modules Routine) → procedure_at ms r ≡ procedure_at ms q) → procedure_of ds r ≡ Some a → procedure_of ds q ≡ Some b →
      InEachModel (declared ds) (IsGoodHere b) → InEachModel (declared ds) (IsGoodHere a)
  meant_same r q a b same there other h =
      paired ds (IsChosenOver (declared ds)) (IsGoodHere b) (IsGoodHere a)
      (λ i k x.
      let g = setting (declared ds) i in
      let ms : Modules Routine = linked_modules (declared ds) (with_operators i.table (bare (types_of (declared ds) i) i.table) (declared ds)) i.programs in
      let one = linked_there ds scoped i k r a there in
      let two = linked_there ds scoped i k q b other in
      subst (LoopsAreGood g) (ap (body_if (statements g b.body.list)) (sym two ∙ sym (same ms) ∙ one)) x)
      (chosen_over ds scoped) h

  -- where no modules are given
  none_given : {n : Count} (args : Row_of-Mexp n) → suits ds [] (mexps_in args) ≡ true → (ms : Modules Routine) → modules_at ms args ≡ []
  none_given end_of-Mexp w ms = refl
  none_given (more_of-Mexp e r) w ms = absurd (false≢true w)

  -- a procedure of the module m with arguments: where it has loops, and these are proved, m has no parameters
  module _ (m f : Name) (es : List Mexp) (a : Proc) (there : instance_at ds (module_of ds m) es f ≡ Some a) (r : ProcRef) (means : procedure_of ds r ≡ Some a)
      (same : suits ds [] es ≡ true → (ms : Modules Routine) → procedure_at ms r ≡ procedure_at ms (record { «module» = named_module m; name = f })) where
    x : IsInstance ds m f es a
    x = of_instance ds m f es a there

    -- the procedure as it is declared has the same name
    own_named : x.own.name ≡ a.name
    own_named = ap (λ (z : Proc). z.name) x.is

    proved_one : is_proved ds (named m a) ≡ true → InEachModel (declared ds) (IsGoodHere a)
    proved_one l =
        let plain : x.found.params ≡ [] = lone (named m a) l x.found x.there in
        let own : proc_in (module_of ds m) f ≡ Some x.own = ap (λ o. proc_in o f) x.there ∙ ap (λ ps. proc_if_plain ps x.found.procs f) plain ∙ x.procedure in
        let at_name : proc_in (module_of ds m) a.name ≡ Some x.own = subst (λ z. proc_in (module_of ds m) z ≡ Some x.own) (own_name x.found.procs f x.own x.procedure ∙ own_named) own in
        meant_same r (record { «module» = named_module m; name = f }) a x.own (same (subst (λ ps. suits ds ps es ≡ true) plain x.fit)) means own
        (good (named m a) x.own at_name l)

    of_arguments : (if has_loop a.body.list && not (is_proved ds (named m a)) then Some (named m a) else None) ≡ None → InEachModel (declared ds) (IsGoodHere a)
    of_arguments e = step (has_loop a.body.list) (is_proved ds (named m a)) refl refl e
      where
        step : (b c : Bool) → has_loop a.body.list ≡ b → is_proved ds (named m a) ≡ c → (if b && not c then Some (named m a) else None) ≡ None → InEachModel (declared ds) (IsGoodHere a)
        step false c k l e = everywhere ds (IsGoodHere a) (λ i. no_loop_good (setting (declared ds) i) a.body.list k)
        step true true k l e = proved_one l
        step true false k l e = none_some (named m a) (sym e)

  by_module : (m : Mexp) (f : Name) (a : Proc) → proc_at ds m f ≡ Some a → unproved_if ds (name_of m) (Some a) ≡ None → InEachModel (declared ds) (IsGoodHere a)
  by_module (named_module m) f a there e = of_module m f a there e
  by_module (Apply' m n args) f a there e =
      of_arguments m f (mexps_in args) a there (record { «module» = Apply' m n args; name = f }) there (λ w ms. ap (λ xs. found (ms m (xs ++ [])) f) (none_given args w ms)) e

  pub own_loops : (p : ProcRef) (a : Proc) → procedure_of ds p ≡ Some a → unproved_of ds p ≡ None → InEachModel (declared ds) (IsGoodHere a)
  own_loops p a there e = by_module p.«module» p.name a there (subst (λ o. unproved_if ds (name_of p.«module») o ≡ None) there e)

  -- those of the procedures of a goal
  abbrev Found : ProcRef → Type 0
  Found p = (a : Proc) × (procedure_of ds p ≡ Some a)

  code_ends : (a : Code) → unproved_code ds a ≡ None → InEachModel (declared ds) (λ i. ProcedureEnds ds (setting (declared ds) i) a)
  code_ends (code_body is) e = everywhere ds (λ i. Unit {0}) (λ i. tt)
  code_ends (code_procedure p) e = λ w size table model.
      for_each {X = Found p} (declared ds) (bound ds) (interpretation w size table) (λ k x. IsGoodHere x.0 k)
      (λ k. ProcedureEnds ds (setting (declared ds) k) (code_procedure p)) (λ k h a there. h (a, there)) (λ x. own_loops p x.0 x.1 e w size table model)

  goal_ends : (G : Goal) → unproved_in ds G ≡ None → InEachModel (declared ds) (λ i. ProceduresEnd ds (setting (declared ds) i) G)
  goal_ends (hoare a p q) e = code_ends a e
  goal_ends (phoare a r p q b) e = code_ends a e
  goal_ends (equiv a b p q) e =
      let k = first_none_of (unproved_code ds a) (unproved_code ds b) e in
      paired ds (λ i. ProcedureEnds ds (setting (declared ds) i) a) (λ i. ProcedureEnds ds (setting (declared ds) i) b) (λ i. ProceduresEnd ds (setting (declared ds) i) (equiv a b p q)) (λ i x y. (x, y))
      (code_ends a k.0) (code_ends b k.1)
  goal_ends (ambient f) e = everywhere ds (λ i. Unit {0}) (λ i. tt)

  -- what is so in each model is so in each setting of a goal without modules
  alone : (q : Sequent) → q.modules ≡ [] → (P : Setting → Type 0) → InEachModel (declared ds) (λ i. P (setting (declared ds) i)) → InEachSetting (declared ds) q P
  alone q none P h =
      mapped ds (λ i. P (setting (declared ds) i)) (λ i. EachProgram (declared ds) q.modules i (λ k. P (setting (declared ds) k)))
      (λ i x. subst (λ bs. EachProgram (declared ds) bs i (λ k. P (setting (declared ds) k))) (sym none) x) h

  pub sequent_ends : (q : Sequent) → q.modules ≡ [] → unproved_in ds (goal_of q.conclusion) ≡ None →
      InEachSetting (declared ds) q (λ g. ProceduresEnd ds g (goal_of q.conclusion))
  sequent_ends q none e = alone q none (λ g. ProceduresEnd ds g (goal_of q.conclusion)) (goal_ends (goal_of q.conclusion) e)

  -- those of each procedure that isn't unproved
  abbrev AreProved : Setting → Type 0
  AreProved g = (p : ProcRef) (a : Proc) → procedure_of ds p ≡ Some a → unproved_of ds p ≡ None → LoopsAreGood g (statements g a.body.list)

  abbrev Provable : Type 0
  Provable = (p : ProcRef) × ((a : Proc) × ((procedure_of ds p ≡ Some a) × (unproved_of ds p ≡ None)))

  pub all_proved : (q : Sequent) → q.modules ≡ [] → InEachSetting (declared ds) q AreProved
  all_proved q none =
      alone q none AreProved
      (λ w size table model.
      for_each {X = Provable} (declared ds) (bound ds) (interpretation w size table) (λ k x. IsGoodHere x.1.0 k) (λ k. AreProved (setting (declared ds) k))
      (λ k h p a there e. h (p, (a, (there, e)))) (λ x. own_loops x.0 x.1.0 x.1.1.0 x.1.1.1 w size table model))
