-- Typed goals in which names are names can be written in the language.
use Rattle.std.proofs.Common.{◌≡◌, ℕ, zero, suc, ◌<◌, true, false, List, [], ◌∷◌, length, map, Option, Some, None, is_some, refl, ap, sym, ◌∙◌, subst, arith}
use Rattle.std.proofs.lemmas.Bool.{false≢true}
use Rattle.std.specs.List.{slice_get}
use Rattle.gb_core.specs.declared.ty.Ty.{Ty}
use Rattle.gb_terms.specs.declared.decl.TypedName.{TypedName}
use Rattle.gb_terms.specs.declared.term.Term.{Term, Term', end_of-Head, more_of-Head, out-Term, items_hidden-the_row-Term-0}
use Rattle.gb_terms.specs.declared.term.Head.TheBlock as B
use Rattle.gb_terms.specs.declared.term.Head.{Head}
use Rattle.gb_terms.specs.declared.term.Head.TheVariants.{Body, If}
use Rattle.gb_terms.specs.declared.term.Instr.{Instr}
use Rattle.gb_terms.specs.declared.term.Subject.{out-Subject}
use Rattle.gb_terms.specs.declared.term.Cmd.{Cmd}
use Rattle.gb_meaning.specs.Commands.{terms_in}
use Rattle.gb_meaning.specs.Written.{type_of, IsModulo}
use Rattle.gb_laws.proofs.Trees.{terms_row, out_is}
use Rattle.gb_goal.specs.Goal.{goal_at, code_of, judges_bodies}
use Rattle.gb_goal.specs.Goal.Code.{body}
use Rattle.gb_goal.specs.declared.sequent.Hyp.{Hyp}
use Rattle.gb_goal.specs.declared.sequent.Sequent.{Sequent}
use Rattle.gb_goal.specs.Scope as scope
use Rattle.gb_meaning.specs.Truth.{has_module}
use Rattle.gb_meaning.specs.Declared.{Declarations}
use Rattle.gb_laws.specs.Operators.{item}
use Rattle.gb_laws.specs.Typing.{IsHead}
use Rattle.gb_laws.specs.Typing as typed
use Rattle.gb_typing.specs.Context.{Context, procedure, of_program}
use Rattle.gb_typing.specs.Modules.{ProcedureType}
use Rattle.gb_typing.specs.Goals.{IsCode, IsTypedGoal}
use Rattle.gb_typing.specs.Programs.{IsExpression, AreArguments, IsCall, IsStatement, EachStatement}
use Rattle.gb_typing.specs.Sequents.{IsConclusion, of_sequent, AreHypotheses, IsTypedSequent}
use Rattle.gb_typing.specs.Scopes.{context_of}
use Rattle.gb_typing.proofs.Lifted.{sequent_outermost}
use Rattle.gb_typing.proofs.Lists.{each_hidden, typed_if}
use Rattle.gb_typing.proofs.Shapes.{code_back}
use Rattle.gb_typing.proofs.TypedGoals.{conclusion_goal}
use Rattle.gb_print_names.specs.declared.bound_names.Enumeration.{Enumeration}
use Rattle.gb_print_names.specs.BoundNames.{Name, Place}
use Rattle.gb_print_names.specs.Names.{typed_name}
use Rattle.gb_print.specs.GoalText.{place_of_goal}
use Rattle.gb_print.specs.Written.{is_path_there, is_name_there, AreWritten, IsWritten, IsWrittenHead, IsWrittenInstr, AreWrittenInstrs, AreWrittenForms}
use Rattle.gb_print.specs.Written as w
use Rattle.gb_print.specs.Goals.{AreWrittenVariables, no_variables, one_variable, AreWrittenMemories, no_memories, one_memory, AreWrittenHyps, IsWrittenGoal}
use Rattle.gb_print.specs.Goals as goals
use Rattle.gb_shown.specs.Spelt.{IsSpeltHead, IsSpelt, AreSpelt, EachSpelt, IsSpeltInstr, AreSpeltInstrs, AreSpeltBodies, IsSpeltConclusion, AreSpeltHyps, IsSpeltGoal}
use Rattle.gb_shown.specs.Spelt as s
use Rattle.gb_shown.proofs.Headed.{last_term, next_term, of_term, of_formula, conclusion_head, conclusion_formula}
use Rattle.gb_shown.proofs.Operators.{front}
use Rattle.gb_shown.proofs.TypedForms.{name_path, AreShown, none_shown, Agrees, agrees_inside, form_written, parts_written}

terms_list : (ts : List Term) → terms_in (B.hidden-the_row-Term-0 ts) ≡ ts
terms_list ts = terms_row (B.hidden-the_row-Term-0 ts) ∙ items_hidden-the_row-Term-0 ts

nothing_below : (i : ℕ) → i < 0 → ⊥
nothing_below i h = omega arith

one_less : (i n : ℕ) → suc i < suc n → i < n
one_less i n h = omega arith

-- Programs: their forms speak of the memory alone in which they run.

nothing_agrees : (at : Place) → Agrees (λ i. None) 0 [] at
nothing_agrees at = record { logical = λ i t e. absurd (false≢true (ap is_some e)); memories = λ i h. absurd (nothing_below i h); bound = none_shown }

module _ (stage : ℕ) (at : Place) (c : Context) (ls : List TypedName) where
  expression_written : (e : Term) → IsExpression c ls e → IsSpelt stage at e → IsWritten stage at e
  expression_written e k d = form_written (nothing_agrees at) (of_term (of_program c ls) e k.typed) d

  forms_written : (ts : List Term) (ps : List TypedName) → AreArguments c ls ts ps → EachSpelt stage at ts → AreWrittenForms stage at ts
  forms_written [] ps k s.no_form = w.no_form
  forms_written (t ∷ ts) [] k (s.more_form d ds) = absurd k
  forms_written (t ∷ ts) (p ∷ ps) k (s.more_form d ds) = let one = k.0.0 in w.more_form (expression_written t one.expression d) (forms_written ts ps k.1 ds)

  call_written : (xs : List _) (o : Option ProcedureType) (ts : List Term) → IsCall c ls xs o ts → EachSpelt stage at ts → AreWrittenForms stage at ts
  call_written xs None ts k ds = absurd k
  call_written xs (Some p) ts k ds = forms_written ts p.params k.0 ds

  mutual
    instr_written : {i : Instr} → IsStatement c ls i → IsSpeltInstr stage at i → IsWrittenInstr stage at i
    instr_written k (s.assign {xs = xs} {e = e} h d) = let v = k.0 in w.assign h (expression_written e v.expression d)
    instr_written k (s.sample {x = x} {d = e} h d) = w.sample h (expression_written e k.0 d)
    instr_written k (s.call {xs = xs} {p = p} {ts = ts} h q ds) = w.call h q (call_written xs (procedure c p) ts (subst (IsCall c ls xs (procedure c p)) (terms_list ts) k) ds)
    instr_written k (s.branch {e = e} {a = a} {b = b} d x y) =
        let parts = typed_if c ls (If e a b) e a b refl k in
        let test = parts.0 in
        w.branch (expression_written e test.0 d) (instrs_written a.list parts.1 x) (instrs_written b.list parts.2 y)
    instr_written k (s.repeat {e = e} {v = v} {a = a} d r x) =
        let test = k.0 in
        let variant = k.1 in
        let number = variant.0 in
        w.repeat (expression_written e test.0 d) (front (of_term (of_program c ls) v number.typed) (λ n. subst IsModulo n variant.1)) (expression_written v number r)
        (instrs_written a.list (each_hidden c ls a.list k.2) x)

    instrs_written : (is : List Instr) → EachStatement c ls is → AreSpeltInstrs stage at is → AreWrittenInstrs stage at is
    instrs_written [] k s.no_instr = w.no_instr
    instrs_written (i ∷ is) k (s.more_instr d ds) = w.more_instr (instr_written k.0 d) (instrs_written is k.1 ds)

-- Conclusions.

-- a judgment of bodies has no quantifier over modules in front
no_front : (at : Place) (f : Term) → AreSpeltBodies at (out-Term f).head → has_module f ≡ false
no_front at (Term' tt (more_of-Head h end_of-Head) n ts ty) d = by (subst (λ l. AreSpeltBodies at l.head) (out_is h n ts ty) d)
  where
    by : {h : Head} → AreSpeltBodies at h → has_module (Term' tt (more_of-Head h end_of-Head) n ts ty) ≡ false
    by (s.one_body x) = refl
    by (s.bounded_body x) = refl
    by (s.two_bodies x y) = refl

body_code : (k : Cmd) → code_of (Body k) ≡ body k.list
body_code k = code_back (body k.list)

no_bodies : {stage : ℕ} {at : Place} {h : Head} {ts : List Term} {t : Ty} → IsSpeltHead stage at h ts t → judges_bodies h ≡ false
unfolding out-Subject denote.Hole.Carrier.out
no_bodies (s.one_procedure {p = p} d) = refl
no_bodies (s.with_bound {p = p} d) = refl
no_bodies (s.two_procedures {p = p} d e) = refl
no_bodies _ = refl

module _ (c : Context) (at : Place) (a : Agrees c.logical (length c.named) c.bound at) where
  body_written : (ls : List TypedName) (k : Cmd) → IsCode c ls (code_of (Body k)) → AreSpeltInstrs 1 at k.list → AreWrittenInstrs 1 at k.list
  body_written ls k code is = let b = subst (IsCode c ls) (body_code k) code in instrs_written 1 at c ls k.list b.statements is

  judged : (f : Term) {h : Head} (ts : List Term) (t : Ty) (k : typed.Context) → IsHead k h (map type_of ts) t → IsTypedGoal c (goal_at f h ts) → AreSpeltBodies at h → AreSpelt 1 at h ts
      → IsWrittenHead 1 at h ts t × AreWritten 1 at h ts
  judged f (p ∷ q ∷ []) t k x g (s.one_body {c = b} is) ds =
      let parts = g.2 in
      (w.one_program (w.body refl (body_written g.0 b parts.0 is)), parts_written a a (next_term (of_term _ p parts.1.typed) (last_term (of_term _ q parts.2.typed))) ds)
  judged f [] t k x g (s.one_body is) ds = absurd x
  judged f (p ∷ []) t k x g (s.one_body is) ds = absurd x
  judged f (p ∷ q ∷ r ∷ ts) t k x g (s.one_body is) ds = absurd x
  judged f (p ∷ q ∷ r ∷ []) t k x g (s.bounded_body {c = b} is) ds =
      let parts = g.2 in
      (w.with_bound (w.body refl (body_written g.0 b parts.0 is)), parts_written a a (next_term (of_term _ p parts.1.typed) (next_term (of_term _ q parts.2.typed) (last_term (of_term _ r parts.3)))) ds)
  judged f [] t k x g (s.bounded_body is) ds = absurd x
  judged f (p ∷ []) t k x g (s.bounded_body is) ds = absurd x
  judged f (p ∷ q ∷ []) t k x g (s.bounded_body is) ds = absurd x
  judged f (p ∷ q ∷ r ∷ v ∷ ts) t k x g (s.bounded_body is) ds = absurd x
  judged f (p ∷ q ∷ []) t k x g (s.two_bodies {c = b} {d = d} is js) ds =
      let parts = g.2 in
      (w.two_programs (w.body refl (body_written g.0 b parts.1 is)) (w.body refl (body_written g.1 d parts.2 js)), parts_written a a (next_term (of_term _ p parts.3.typed) (last_term (of_term _ q parts.4.typed))) ds)
  judged f [] t k x g (s.two_bodies is js) ds = absurd x
  judged f (p ∷ []) t k x g (s.two_bodies is js) ds = absurd x
  judged f (p ∷ q ∷ r ∷ ts) t k x g (s.two_bodies is js) ds = absurd x

conclusion_written : (c : Context) (at : Place) (f : Term) → Agrees c.logical (length c.named) c.bound at → IsConclusion c f → IsSpeltConclusion at f → IsWritten 1 at f
conclusion_written c at f a k (s.form (s.spelt h type ts)) = form_written a (of_formula c f (conclusion_formula c f k (no_bodies h))) (s.spelt h type ts)
conclusion_written c at f a k (s.judgment bs type ts) =
    let here = agrees_inside (out-Term f).head (out-Term f).args a in
    let top = conclusion_head c f k in
    let both = judged c _ here f (out-Term f).args (out-Term f).ty top.0 top.1 (conclusion_goal c f k (no_front _ f bs)).0 bs ts in
    w.written both.0 type both.1

-- Goals.

hyps_written : (c : Context) (at : Place) (hs : List Hyp) → Agrees c.logical (length c.named) c.bound at → AreHypotheses c hs → AreSpeltHyps at hs → AreWrittenHyps at hs
hyps_written c at [] a k s.no_hyps = goals.no_hyps
hyps_written c at (h ∷ hs) a k (s.one_hyp n d ds) = goals.one_hyp n (form_written a (of_term c h.form k.0.typed) d) (hyps_written c at hs a k.1 ds)

variable_named : (at : Place) (vs : List TypedName) → AreWrittenVariables at vs → (i : ℕ) (t : Ty) → item (map (λ x. x.ty) vs) i ≡ Some t → is_path_there (typed_name (slice_get vs i)) ≡ true
variable_named at [] no_variables i t e = absurd (false≢true (ap is_some e))
variable_named at (v ∷ vs) (one_variable n d ds) zero t e = name_path v.name n
variable_named at (v ∷ vs) (one_variable n d ds) (suc i) t e = variable_named at vs ds i t e

memory_named : (ms : List Name) → AreWrittenMemories ms → (i : ℕ) → i < length ms → is_name_there (slice_get ms i) ≡ true
memory_named [] no_memories i h = absurd (nothing_below i h)
memory_named (m ∷ ms) (one_memory n ns) zero h = n
memory_named (m ∷ ms) (one_memory n ns) (suc i) h = memory_named ms ns i (one_less i (length ms) h)

frames_length : (fs : List (List TypedName)) → length (map Some fs) ≡ length fs
frames_length [] = refl
frames_length (f ∷ fs) = ap suc (frames_length fs)

sequent_agrees : (ds : Declarations) (ss : scope.Declarations) (es : List Enumeration) (q : Sequent) (k : IsTypedSequent (context_of ds) q) → AreWrittenVariables (place_of_goal ss es q) q.logical → AreWrittenMemories q.memories
    → (let c = of_sequent (context_of ds) q k.frames in Agrees c.logical (length c.named) c.bound (place_of_goal ss es q))
sequent_agrees ds ss es q k vs ms = record {
  logical = variable_named (place_of_goal ss es q) q.logical vs;
  memories = λ i h. memory_named q.memories ms i (subst (λ n. i < n) (frames_length k.frames ∙ k.memories) h);
  bound = subst (λ bs. AreShown bs []) (sym (ap (λ c. c.bound) (sequent_outermost ds q k.frames))) none_shown;
}

pub goal_written : (ds : Declarations) (ss : scope.Declarations) (es : List Enumeration) (q : Sequent) → IsTypedSequent (context_of ds) q → IsSpeltGoal (place_of_goal ss es q) q → IsWrittenGoal (place_of_goal ss es q) q
goal_written ds ss es q k d =
    let a = sequent_agrees ds ss es q k d.variables d.memories in
    let c = of_sequent (context_of ds) q k.frames in
    record {
      variables = d.variables;
      memories = d.memories;
      modules = d.modules;
      hyps = hyps_written c (place_of_goal ss es q) q.hyps a k.hyps d.hyps;
      conclusion = conclusion_written c (place_of_goal ss es q) q.conclusion a k.conclusion d.conclusion;
    }
