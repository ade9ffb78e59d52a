-- Conclusions by cases on a form.
use Rattle.std.proofs.Common.{◌≡◌, Bool, true, false, not, ◌||◌, [], ◌∷◌, refl, ap, sym, ◌∙◌, subst}
use Rattle.std.proofs.lemmas.Bool.{false≢true}
use Rattle.gb_core.specs.declared.ty.Ty.TheVariants as ty
use Rattle.gb_terms.specs.declared.op.Op.TheVariants.{Implies}
use Rattle.gb_core.specs.declared.ty.Ty.{Ty}
use Rattle.gb_terms.specs.declared.module.Bind.{Bind}
use Rattle.gb_terms.specs.declared.term.Term.{Term, Term', Row_of-Term, end_of-Term, more_of-Term, end_of-Head, more_of-Head, out-Term}
use Rattle.gb_terms.specs.declared.term.Head.TheVariants as head
use Rattle.gb_terms.specs.declared.term.Head.TheVariants.{Body', Proc}
use Rattle.gb_terms.specs.declared.term.Head.TheViews.{outs-Body'}
use Rattle.gb_meaning.specs.Trees.{places, row}
use Rattle.gb_meaning.specs.Setting.{Setting}
use Rattle.gb_meaning.specs.State.{State}
use Rattle.gb_meaning.specs.Judgments.{Judge, IsFair, IsSoundForm, IsTrueIn, den}
use Rattle.gb_meaning.proofs.Nodes.{term_is_node}
use Rattle.gb_laws.proofs.Exact.{trying}
use Rattle.gb_meaning.proofs.Truths.{true_implies}
use Rattle.gb_laws.proofs.Fair.{is_fair}
use Rattle.gb_laws.proofs.Unique.{true_under_each}
use Rattle.gb_laws.proofs.Trees.{out_is}
use Rattle.gb_meaning.specs.Declared.{Declarations}
use Rattle.gb_meaning.specs.Settings.{Interpretation, setting}
use Rattle.gb_meaning.specs.Truth.{Choice, has_module, last_has_module, Truth}
use Rattle.gb_meaning.proofs.Fronts.{without_modules}
use Rattle.gb_meaning.specs.Written.{type_of}
use Rattle.gb_laws.specs.Typing.{types_of, IsHead}
use Rattle.gb_typing.specs.Context.{Context, erased}
use Rattle.gb_typing.specs.Typing.{IsForm}
use Rattle.gb_typing.specs.Formulas.{IsFormula}
use Rattle.gb_typing.specs.Sequents.{IsConclusion}
use Rattle.gb_typing.proofs.Conclusions.{formula_form}
use Rattle.gb_typing.specs.Forms.{implies_form, not_form}
use Rattle.gb_typing.proofs.TypedGoals.{no_module}
use Rattle.gb_typing.proofs.Forms.{implies_typed, implies_use, not_make}
use Rattle.gb_goal.specs.Goal.{is_body_at, judges_bodies}
use mathlib.Core.Former.{Count}

chosen : (b : Bool) (A B : Type 0) → (b ≡ true → A) → (b ≡ false → B) → Choice b A B
chosen true A B f h = f refl
chosen false A B f h = h refl

follows : (a b : Bool) → (a ≡ true → b ≡ true) → (not a || b) ≡ true
follows true b f = f refl
follows false b f = refl

first_of : (b : Bool) (A B : Type 0) → b ≡ true → Choice b A B → A
first_of true A B e x = x
first_of false A B e x = absurd (false≢true e)

second_of : (b : Bool) (A B : Type 0) → b ≡ false → B → Choice b A B
second_of true A B e x = absurd (false≢true (sym e))
second_of false A B e x = x

-- a form is a formula
pub form_formula : (c : Context) (f : Term) → IsForm c f → IsFormula c f
form_formula c (Term' p (more_of-Head (head.AllModule b) end_of-Head) n ts t) w = absurd w.typed.1
form_formula c (Term' p (more_of-Head (head.All u) end_of-Head) n ts t) w =
    second_of (last_has_module ts) _ _ (no_module c (Term' p (more_of-Head (head.All u) end_of-Head) n ts t) w.typed) w
form_formula c (Term' p (more_of-Head head.AllMemory end_of-Head) n ts t) w =
    second_of (last_has_module ts) _ _ (no_module c (Term' p (more_of-Head head.AllMemory end_of-Head) n ts t) w.typed) w
form_formula c (Term' p (more_of-Head (head.Builtin Implies) end_of-Head) n ts t) w =
    second_of (last_has_module ts) _ _ (no_module c (Term' p (more_of-Head (head.Builtin Implies) end_of-Head) n ts t) w.typed) w
form_formula c _ w = w

-- a conclusion that is no judgment on bodies is a formula
pub conclusion_formula : (c : Context) (f : Term) → IsConclusion c f → judges_bodies (out-Term f).head ≡ false → IsFormula c f
conclusion_formula c (Term' tt (more_of-Head (head.Hoare (Body' k is)) end_of-Head) n ts t) w e =
    absurd (false≢true (sym e ∙ ap (λ x. judges_bodies x.head) (out_is (head.Hoare (Body' k is)) n ts t) ∙ ap is_body_at (outs-Body' k is)))
conclusion_formula c (Term' tt (more_of-Head (head.Phoare (Body' k is) r) end_of-Head) n ts t) w e =
    absurd (false≢true (sym e ∙ ap (λ x. judges_bodies x.head) (out_is (head.Phoare (Body' k is) r) n ts t) ∙ ap is_body_at (outs-Body' k is)))
conclusion_formula c (Term' tt (more_of-Head (head.Equiv (Body' k is) (Body' l js)) end_of-Head) n ts t) w e =
    absurd (false≢true (sym e ∙ ap (λ x. judges_bodies x.head) (out_is (head.Equiv (Body' k is) (Body' l js)) n ts t) ∙ ap is_body_at (outs-Body' k is)))
conclusion_formula c _ w e = w

-- formulas with a quantifier over modules in front are of type `bool`
module _ (c : Context) where
  all_truth : {n : Count} (u : Ty) (ts : Row_of-Term n) (t : Ty) → IsHead (erased c) (head.All u) (types_of ts) t → t ≡ ty.Bool
  all_truth u end_of-Term t w = absurd w
  all_truth u (more_of-Term a end_of-Term) t w = w.1.1.0
  all_truth u (more_of-Term a (more_of-Term b ts)) t w = absurd w

  memory_truth : {n : Count} (ts : Row_of-Term n) (t : Ty) → IsHead (erased c) head.AllMemory (types_of ts) t → t ≡ ty.Bool
  memory_truth end_of-Term t w = absurd w
  memory_truth (more_of-Term a end_of-Term) t w = w.1.0
  memory_truth (more_of-Term a (more_of-Term b ts)) t w = absurd w

  module_truth : {n : Count} (b : Bind) (ts : Row_of-Term n) (t : Ty) → IsHead (erased c) (head.AllModule b) (types_of ts) t → t ≡ ty.Bool
  module_truth b end_of-Term t w = absurd w
  module_truth b (more_of-Term a end_of-Term) t w = w.1.0
  module_truth b (more_of-Term a (more_of-Term x ts)) t w = absurd w

  implies_truth : {n : Count} (ts : Row_of-Term n) (t : Ty) → IsHead (erased c) (head.Builtin Implies) (types_of ts) t → t ≡ ty.Bool
  implies_truth end_of-Term t w = absurd w
  implies_truth (more_of-Term a end_of-Term) t w = absurd w
  implies_truth (more_of-Term a (more_of-Term b end_of-Term)) t w = w.1.1.0
  implies_truth (more_of-Term a (more_of-Term b (more_of-Term x ts))) t w = absurd w

  formula_truth : (f : Term) → IsFormula c f → has_module f ≡ true → type_of f ≡ ty.Bool
  formula_truth (Term' p (more_of-Head (head.AllModule b) end_of-Head) n ts t) w e = module_truth b ts t w.0
  formula_truth (Term' p (more_of-Head (head.All u) end_of-Head) n ts t) w e = all_truth u ts t (first_of (last_has_module ts) _ _ e w).0
  formula_truth (Term' p (more_of-Head head.AllMemory end_of-Head) n ts t) w e = memory_truth ts t (first_of (last_has_module ts) _ _ e w).0
  formula_truth (Term' p (more_of-Head (head.Builtin Implies) end_of-Head) n ts t) w e = implies_truth ts t (first_of (last_has_module ts) _ _ e w).0
  formula_truth _ w e = absurd (false≢true e)

module _ (c : Context) (a : Term) (w : IsForm c a) where
  -- a form in front of a formula
  implied : (f : Term) → IsFormula c f → IsFormula c (Term' tt (more_of-Head (head.Builtin Implies) end_of-Head) (places (a ∷ f ∷ [])) (row (a ∷ f ∷ [])) ty.Bool)
  implied f v =
      chosen (has_module f) _ _
      (λ e. ((w.truth, (formula_truth c f v e, (refl, tt))), w, v))
      (λ e. subst (IsForm c) (sym (term_is_node (head.Builtin Implies) (a ∷ f ∷ []) ty.Bool)) (implies_typed c a f w (formula_form c f v e)))

  pub implication_formula : (f : Term) → IsFormula c f → IsFormula c (implies_form a f)
  implication_formula f v = subst (IsFormula c) (term_is_node (head.Builtin Implies) (a ∷ f ∷ []) ty.Bool) (implied f v)

  pub implication_typed : (f : Term) → IsFormula c f → IsConclusion c (implies_form a f)
  implication_typed f v = subst (IsConclusion c) (term_is_node (head.Builtin Implies) (a ∷ f ∷ []) ty.Bool) (implied f v)

module _ (ds : Declarations) (k : Interpretation) (s : State) where
  abbrev g : Setting
  g = setting ds k

  -- a formula that follows from a premise, and the premise
  pub implication_used : (a f : Term) → Truth ds (implies_form a f) k s → IsTrueIn g a s → Truth ds f k s
  implication_used a f h p = step (has_module f) refl
    where
      same : has_module (implies_form a f) ≡ has_module f
      same = ap has_module (sym (term_is_node (head.Builtin Implies) (a ∷ f ∷ []) ty.Bool))

      step : (b : Bool) → has_module f ≡ b → Truth ds f k s
      step true e =
          first_of (has_module f) (IsTrueIn g a s → Truth ds f k s) _ e
          (subst (λ x. Truth ds x k s) (sym (term_is_node (head.Builtin Implies) (a ∷ f ∷ []) ty.Bool)) h) p
      step false e =
          (without_modules ds f k s e).1
          (λ j fair. implies_use g j a f s ((without_modules ds (implies_form a f) k s (same ∙ e)).0 h j fair) (p j fair))

  -- a formula under a premise, if it follows from it
  pub implication_made : (a f : Term) → IsSoundForm g a → (IsTrueIn g a s → Truth ds f k s) → Truth ds (implies_form a f) k s
  implication_made a f sound h =
      subst (λ x. Truth ds x k s) (term_is_node (head.Builtin Implies) (a ∷ f ∷ []) ty.Bool)
      (chosen (has_module f) _ _ (λ e. h)
      (λ e. subst (λ x. IsTrueIn g x s) (sym (term_is_node (head.Builtin Implies) (a ∷ f ∷ []) ty.Bool))
      (λ j fair. true_implies g j a f s ∙ follows (den g j a s) (den g j f s)
      (λ u. (without_modules ds f k s e).0 (h ((true_under_each g j fair a sound s).1 u)) j fair))))

  -- a formula that follows from a form, and from its negation
  pub cases_used : (a f : Term) → IsSoundForm g a → Truth ds (implies_form a f) k s → Truth ds (implies_form (not_form a) f) k s → Truth ds f k s
  cases_used a f sound x y = step (den g (trying g) a s) refl
    where
      step : (b : Bool) → den g (trying g) a s ≡ b → Truth ds f k s
      step true e = implication_used a f x ((true_under_each g (trying g) (is_fair g) a sound s).1 e)
      step false e = implication_used (not_form a) f y (λ j fair. not_make g j a s (false_under j fair e))
        where
          false_under : (j : Judge) → IsFair g j → den g (trying g) a s ≡ false → den g j a s ≡ false
          false_under j fair e = by (den g j a s) refl
            where
              by : (b : Bool) → den g j a s ≡ b → den g j a s ≡ false
              by false u = u
              by true u = absurd (false≢true (sym e ∙ (true_under_each g j fair a sound s).1 u (trying g) (is_fair g)))
