-- Typed conclusions are typed goals, and the other way round.
use Rattle.std.proofs.Common.{◌≡◌, Bool, true, false, List, [], ◌∷◌, Some, None, refl, ap, sym, subst}
use Rattle.std.proofs.lemmas.Bool.{false≢true}
use Rattle.gb_core.specs.declared.ty.Ty.{Ty}
use Rattle.gb_core.specs.declared.ty.Ty.TheVariants as ty
use Rattle.gb_terms.specs.declared.decl.TypedName.{TypedName}
use Rattle.gb_terms.specs.declared.op.Op.TheVariants.{Implies}
use Rattle.gb_terms.specs.declared.op.Rel.{Rel}
use Rattle.gb_terms.specs.declared.term.Term.{Term, Term', Row_of-Term, end_of-Term, more_of-Term, end_of-Head, more_of-Head}
use Rattle.gb_terms.specs.declared.term.Head.{Head}
use Rattle.gb_terms.specs.declared.term.Head.TheVariants as head
use Rattle.gb_terms.specs.declared.term.Head.TheVariants.{Body', Proc}
use Rattle.gb_terms.specs.declared.term.Subject.{Subject}
use Rattle.gb_meaning.specs.Commands.{terms_in}
use Rattle.gb_meaning.specs.Written.{type_of}
use Rattle.gb_meaning.proofs.Nodes.{term_is_node}
use Rattle.gb_laws.proofs.Trees.{out_is}
use Rattle.gb_meaning.specs.Truth.{has_module, last_has_module, Choice}
use Rattle.gb_laws.specs.Typing.{types_of, IsHead}
use Rattle.gb_laws.specs.Typing.Binder.{value, memory}
use Rattle.gb_typing.specs.Context.{Context, erased, with_own, with_sides, within}
use Rattle.gb_typing.specs.Typing.{IsTyped, AreTyped, IsForm}
use Rattle.gb_typing.specs.Formulas.{IsFirstForm, IsFormula, IsLastFormula}
use Rattle.gb_typing.specs.Sequents.{IsConclusion}
use Rattle.gb_typing.proofs.Conclusions.{formula_form}
use Rattle.gb_goal.specs.Goal.{Code, Goal, subject_of, form_of, code_of, goal_at, goal_of}
use Rattle.gb_goal.specs.Goal.Code.{body, procedure}
use Rattle.gb_goal.specs.Goal.Goal.{hoare, phoare, equiv, ambient}
use Rattle.gb_typing.specs.Goals.{AreAlike, IsCode, frame_before, frame_after, IsGoalOver, IsTypedGoal}
use Rattle.gb_typing.proofs.Lists.{row_each, hidden_each}
use Rattle.gb_typing.proofs.Shapes.{code_row, code_back}
use mathlib.Core.Former.{Count}

-- From conclusions to goals.

module _ (c : Context) (f : Term) where
  abbrev Typed : Head → List Term → Ty → Type 0
  Typed h ts t = IsTypedGoal c (goal_at f h ts) × (t ≡ ty.Bool)

  of_hoare : {n : Count} (s : Subject) (a : Code) → code_of s ≡ a → (ls : List TypedName) → IsCode c ls a → (ts : Row_of-Term n) (t : Ty) → IsHead (erased c) (head.Hoare s) (types_of ts) t →
      AreTyped (with_own c (frame_before c ls a)) (with_own c (frame_after c ls a)) (with_own c (frame_after c ls a)) ts → Typed (head.Hoare s) (terms_in ts) t
  of_hoare s a e ls u (more_of-Term p (more_of-Term q end_of-Term)) t h w =
      (subst (λ a. IsTypedGoal c (hoare a p q)) (sym e) (ls, ls, (u, record { typed = w.0; truth = h.0 }, record { typed = w.1; truth = h.1.0 })), h.1.1.0)
  of_hoare s a e ls u end_of-Term t h w = absurd h
  of_hoare s a e ls u (more_of-Term p end_of-Term) t h w = absurd h
  of_hoare s a e ls u (more_of-Term p (more_of-Term q (more_of-Term x ts))) t h w = absurd h

  of_phoare : {n : Count} (s : Subject) (r : Rel) (a : Code) → code_of s ≡ a → (ls : List TypedName) → IsCode c ls a → (ts : Row_of-Term n) (t : Ty) → IsHead (erased c) (head.Phoare s r) (types_of ts) t →
      AreTyped (with_own c (frame_before c ls a)) (with_own c (frame_after c ls a)) (with_own c None) ts → Typed (head.Phoare s r) (terms_in ts) t
  of_phoare s r a e ls u (more_of-Term p (more_of-Term q (more_of-Term b end_of-Term))) t h w =
      (subst (λ a. IsTypedGoal c (phoare a r p q b)) (sym e) (ls, ls, (u, record { typed = w.0; truth = h.0.0 }, record { typed = w.1.0; truth = h.0.1.0 }, w.1.1, h.1)), h.0.1.1.0)
  of_phoare s r a e ls u end_of-Term t h w = absurd h
  of_phoare s r a e ls u (more_of-Term p end_of-Term) t h w = absurd h
  of_phoare s r a e ls u (more_of-Term p (more_of-Term q end_of-Term)) t h w = absurd h
  of_phoare s r a e ls u (more_of-Term p (more_of-Term q (more_of-Term b (more_of-Term x ts)))) t h w = absurd h

  of_equiv : {n : Count} (s v : Subject) (a b : Code) → code_of s ≡ a → code_of v ≡ b → AreAlike a b → (ls rs : List TypedName) → IsCode c ls a → IsCode c rs b → (ts : Row_of-Term n) (t : Ty) →
      IsHead (erased c) (head.Equiv s v) (types_of ts) t →
      AreTyped (with_sides c (frame_before c ls a) (frame_before c rs b)) (with_sides c (frame_after c ls a) (frame_after c rs b)) (with_sides c (frame_after c ls a) (frame_after c rs b)) ts →
      Typed (head.Equiv s v) (terms_in ts) t
  of_equiv s v a b e k y ls rs u x (more_of-Term p (more_of-Term q end_of-Term)) t h w =
      (subst (IsTypedGoal c) (λ i. equiv (sym e i) (sym k i) p q) (ls, rs, (y, u, x, record { typed = w.0; truth = h.0 }, record { typed = w.1; truth = h.1.0 })), h.1.1.0)
  of_equiv s v a b e k y ls rs u x end_of-Term t h w = absurd h
  of_equiv s v a b e k y ls rs u x (more_of-Term p end_of-Term) t h w = absurd h
  of_equiv s v a b e k y ls rs u x (more_of-Term p (more_of-Term q (more_of-Term z ts))) t h w = absurd h

module _ (c : Context) where
  of_form : (f : Term) → IsForm c f → IsTypedGoal c (ambient f) × (type_of f ≡ ty.Bool)
  of_form f w = (([], [], w), w.truth)

  pub conclusion_goal : (f : Term) → IsConclusion c f → has_module f ≡ false → IsTypedGoal c (goal_of f) × (type_of f ≡ ty.Bool)
  conclusion_goal (Term' tt (more_of-Head (head.Hoare (Body' k is)) end_of-Head) n ts t) w e =
      subst (λ x. IsTypedGoal c (goal_at (Term' tt (more_of-Head (head.Hoare (Body' k is)) end_of-Head) n ts t) x.head x.args) × (t ≡ ty.Bool)) (sym (out_is (head.Hoare (Body' k is)) n ts t))
      (of_hoare c _ (Body' k is) _ (code_row k is) w.1 (record { locals = w.2.0; statements = row_each c w.1 is w.2.1 }) ts t w.0 w.3)
  conclusion_goal (Term' tt (more_of-Head (head.Hoare (Proc p)) end_of-Head) n ts t) w e =
      subst (λ x. IsTypedGoal c (goal_at (Term' tt (more_of-Head (head.Hoare (Proc p)) end_of-Head) n ts t) x.head x.args) × (t ≡ ty.Bool)) (sym (out_is (head.Hoare (Proc p)) n ts t))
      (of_hoare c _ (Proc p) (procedure p) (code_back (procedure p)) [] w.typed.1 ts t w.typed.0 w.typed.3)
  conclusion_goal (Term' tt (more_of-Head (head.Phoare (Body' k is) r) end_of-Head) n ts t) w e =
      subst (λ x. IsTypedGoal c (goal_at (Term' tt (more_of-Head (head.Phoare (Body' k is) r) end_of-Head) n ts t) x.head x.args) × (t ≡ ty.Bool)) (sym (out_is (head.Phoare (Body' k is) r) n ts t))
      (of_phoare c _ (Body' k is) r _ (code_row k is) w.1 (record { locals = w.2.0; statements = row_each c w.1 is w.2.1 }) ts t w.0 w.3)
  conclusion_goal (Term' tt (more_of-Head (head.Phoare (Proc p) r) end_of-Head) n ts t) w e =
      subst (λ x. IsTypedGoal c (goal_at (Term' tt (more_of-Head (head.Phoare (Proc p) r) end_of-Head) n ts t) x.head x.args) × (t ≡ ty.Bool)) (sym (out_is (head.Phoare (Proc p) r) n ts t))
      (of_phoare c _ (Proc p) r (procedure p) (code_back (procedure p)) [] w.typed.1 ts t w.typed.0 w.typed.3)
  conclusion_goal (Term' tt (more_of-Head (head.Equiv (Body' k is) (Body' l js)) end_of-Head) n ts t) w e =
      subst (λ x. IsTypedGoal c (goal_at (Term' tt (more_of-Head (head.Equiv (Body' k is) (Body' l js)) end_of-Head) n ts t) x.head x.args) × (t ≡ ty.Bool)) (sym (out_is (head.Equiv (Body' k is) (Body' l js)) n ts t))
      (of_equiv c _ (Body' k is) (Body' l js) _ _ (code_row k is) (code_row l js) tt w.1 w.2 (record { locals = w.3.0; statements = row_each c w.1 is w.3.1 })
      (record { locals = w.4.0; statements = row_each c w.2 js w.4.1 }) ts t w.0 w.5)
  conclusion_goal (Term' tt (more_of-Head (head.Equiv (Proc p) (Proc q)) end_of-Head) n ts t) w e =
      subst (λ x. IsTypedGoal c (goal_at (Term' tt (more_of-Head (head.Equiv (Proc p) (Proc q)) end_of-Head) n ts t) x.head x.args) × (t ≡ ty.Bool)) (sym (out_is (head.Equiv (Proc p) (Proc q)) n ts t))
      (of_equiv c _ (Proc p) (Proc q) (procedure p) (procedure q) (code_back (procedure p)) (code_back (procedure q)) tt [] [] w.typed.1.0 w.typed.1.1 ts t w.typed.0 w.typed.3)
  conclusion_goal (Term' tt (more_of-Head (head.Equiv (Body' k is) (Proc q)) end_of-Head) n ts t) w e = absurd w.typed.1.0
  conclusion_goal (Term' tt (more_of-Head (head.Equiv (Proc p) (Body' l js)) end_of-Head) n ts t) w e = absurd w.typed.1.1
  conclusion_goal (Term' tt (more_of-Head h end_of-Head) n ts t) w e =
      subst (λ x. IsTypedGoal c (goal_at (Term' tt (more_of-Head h end_of-Head) n ts t) x.head x.args) × (t ≡ ty.Bool)) (sym (out_is h n ts t))
      (of_form (Term' tt (more_of-Head h end_of-Head) n ts t) (formula_form c (Term' tt (more_of-Head h end_of-Head) n ts t) w e))

-- No module is quantified in front of a form.
mutual
  pub no_module : (c : Context) (f : Term) → IsTyped c f → has_module f ≡ false
  no_module c (Term' p (more_of-Head (head.AllModule b) end_of-Head) n ts ty) w = absurd w.1
  no_module c (Term' p (more_of-Head (head.All u) end_of-Head) n ts ty) w = last_module _ _ _ ts w.3
  no_module c (Term' p (more_of-Head head.AllMemory end_of-Head) n ts ty) w = last_module _ _ _ ts w.3
  no_module c (Term' p (more_of-Head (head.Builtin Implies) end_of-Head) n ts ty) w = last_module _ _ _ ts w.3
  no_module c _ w = refl

  last_module : {n : Count} (a b d : Context) (ts : Row_of-Term n) → AreTyped a b d ts → last_has_module ts ≡ false
  last_module a b d end_of-Term w = refl
  last_module a b d (more_of-Term t end_of-Term) w = no_module d t w
  last_module a b d (more_of-Term t (more_of-Term u ts)) w = last_module b b d (more_of-Term u ts) w.1

-- From goals to conclusions.

other : (A B : Type 0) (b : Bool) → b ≡ false → B → Choice b A B
other A B true e w = absurd (false≢true (sym e))
other A B false e w = w

module _ (c : Context) where
  form_formula : (f : Term) → IsForm c f → IsFormula c f
  form_formula (Term' p (more_of-Head (head.AllModule b) end_of-Head) n ts t) w = absurd w.typed.1
  form_formula (Term' p (more_of-Head (head.All u) end_of-Head) n ts t) w =
      other (IsHead (erased c) (head.All u) (types_of ts) t × IsLastFormula (within c (value u) None) ts) (IsForm c (Term' p (more_of-Head (head.All u) end_of-Head) n ts t)) (last_has_module ts)
      (last_module _ _ _ ts w.typed.3) w
  form_formula (Term' p (more_of-Head head.AllMemory end_of-Head) n ts t) w =
      other (IsHead (erased c) head.AllMemory (types_of ts) t × (ls : List TypedName) × IsLastFormula (within c memory (Some ls)) ts) (IsForm c (Term' p (more_of-Head head.AllMemory end_of-Head) n ts t))
      (last_has_module ts) (last_module _ _ _ ts w.typed.3) w
  form_formula (Term' p (more_of-Head (head.Builtin Implies) end_of-Head) n ts t) w =
      other (IsHead (erased c) (head.Builtin Implies) (types_of ts) t × IsFirstForm c ts × IsLastFormula c ts) (IsForm c (Term' p (more_of-Head (head.Builtin Implies) end_of-Head) n ts t)) (last_has_module ts)
      (last_module _ _ _ ts w.typed.3) w
  form_formula _ w = w

  form_conclusion : (f : Term) → IsForm c f → IsConclusion c f
  form_conclusion (Term' p (more_of-Head (head.Hoare (Body' k is)) end_of-Head) n ts t) w = absurd w.typed.1
  form_conclusion (Term' p (more_of-Head (head.Phoare (Body' k is) r) end_of-Head) n ts t) w = absurd w.typed.1
  form_conclusion (Term' p (more_of-Head (head.Equiv (Body' k is) (Body' l js)) end_of-Head) n ts t) w = absurd w.typed.1.0
  form_conclusion f w = form_formula f w

  pub goal_conclusion : (ls rs : List TypedName) (G : Goal) → IsGoalOver c ls rs G → IsConclusion c (form_of G)
  goal_conclusion ls rs (hoare (body is) p q) w =
      subst (IsConclusion c) (term_is_node (head.Hoare (subject_of (body is))) (p ∷ q ∷ []) ty.Bool)
      ((w.1.truth, (w.2.truth, (refl, tt))), ls, (w.0.locals, hidden_each c ls is w.0.statements), (w.1.typed, w.2.typed))
  goal_conclusion ls rs (hoare (procedure a) p q) w =
      subst (IsConclusion c) (term_is_node (head.Hoare (Proc a)) (p ∷ q ∷ []) ty.Bool)
      (record { typed = ((w.1.truth, (w.2.truth, (refl, tt))), w.0, [], (w.1.typed, w.2.typed)); truth = refl })
  goal_conclusion ls rs (phoare (body is) r p q b) w =
      subst (IsConclusion c) (term_is_node (head.Phoare (subject_of (body is)) r) (p ∷ q ∷ b ∷ []) ty.Bool)
      (((w.1.truth, (w.2.truth, (refl, tt))), w.4), ls, (w.0.locals, hidden_each c ls is w.0.statements), (w.1.typed, (w.2.typed, w.3)))
  goal_conclusion ls rs (phoare (procedure a) r p q b) w =
      subst (IsConclusion c) (term_is_node (head.Phoare (Proc a) r) (p ∷ q ∷ b ∷ []) ty.Bool)
      (record { typed = (((w.1.truth, (w.2.truth, (refl, tt))), w.4), w.0, [], (w.1.typed, (w.2.typed, w.3))); truth = refl })
  goal_conclusion ls rs (equiv (body is) (body js) p q) w =
      subst (IsConclusion c) (term_is_node (head.Equiv (subject_of (body is)) (subject_of (body js))) (p ∷ q ∷ []) ty.Bool)
      ((w.3.truth, (w.4.truth, (refl, tt))), ls, rs, (w.1.locals, hidden_each c ls is w.1.statements), (w.2.locals, hidden_each c rs js w.2.statements), (w.3.typed, w.4.typed))
  goal_conclusion ls rs (equiv (procedure a) (procedure b) p q) w =
      subst (IsConclusion c) (term_is_node (head.Equiv (Proc a) (Proc b)) (p ∷ q ∷ []) ty.Bool)
      (record { typed = ((w.3.truth, (w.4.truth, (refl, tt))), (w.1, w.2), [], (w.3.typed, w.4.typed)); truth = refl })
  goal_conclusion ls rs (equiv (body is) (procedure b) p q) w = absurd w.0
  goal_conclusion ls rs (equiv (procedure a) (body js) p q) w = absurd w.0
  goal_conclusion ls rs (ambient f) w = form_conclusion f w

  pub goal_front : (ls rs : List TypedName) (G : Goal) → IsGoalOver c ls rs G → has_module (form_of G) ≡ false
  goal_front ls rs (hoare a p q) w = ap has_module (sym (term_is_node (head.Hoare (subject_of a)) (p ∷ q ∷ []) ty.Bool))
  goal_front ls rs (phoare a r p q b) w = ap has_module (sym (term_is_node (head.Phoare (subject_of a) r) (p ∷ q ∷ b ∷ []) ty.Bool))
  goal_front ls rs (equiv a b p q) w = ap has_module (sym (term_is_node (head.Equiv (subject_of a) (subject_of b)) (p ∷ q ∷ []) ty.Bool))
  goal_front ls rs (ambient f) w = no_module c f w.typed
