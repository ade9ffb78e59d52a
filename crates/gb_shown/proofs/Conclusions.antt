-- Steps on conclusions lead from named goals to named goals.
use Rattle.std.proofs.Common.{◌≡◌, inl, inr, ℕ, Bool, true, false, if◌then◌else◌, List, [], ◌∷◌, length, map, refl, ap, sym, ◌∙◌, subst}
use Rattle.std.proofs.lemmas.Bool.{false≢true}
use Rattle.std.specs.List.{AllByRecursion}
use Rattle.gb_core.specs.declared.place.Place.{Place}
use Rattle.gb_core.specs.declared.refusal.Why.TheVariants.{Shape}
use Rattle.gb_core.specs.declared.ty.Ty.{Ty}
use Rattle.gb_core.specs.declared.ty.Ty.TheVariants as ty
use Rattle.gb_terms.specs.declared.decl.TypedName.{TypedName}
use Rattle.gb_terms.specs.declared.term.Subject.{out-Subject}
use Rattle.gb_terms.specs.declared.op.Op.TheVariants as op
use Rattle.gb_terms.specs.declared.op.Read.TheVariants.{Logical}
use Rattle.gb_terms.specs.declared.op.Side.TheVariants.{Bound, Memory}
use Rattle.gb_terms.specs.declared.term.Head.{Head}
use Rattle.gb_terms.specs.declared.term.Head.TheVariants as head
use Rattle.gb_terms.specs.declared.term.Head.TheVariants.{Proc}
use Rattle.gb_terms.specs.declared.term.Head.TheBlock as B
use Rattle.gb_terms.specs.declared.term.Head.TheViews.{outs-Body'}
use Rattle.gb_terms.specs.declared.term.Term.{Term, out-Term}
use Rattle.gb_terms.specs.declared.term.Instr.{Instr}
use Rattle.gb_terms.specs.Make.{node}
use Rattle.gb_walk.specs.declared.change.Change.TheVariants.{OfBound, ToSide}
use Rattle.gb_walk.specs.Change.{term_changed}
use Rattle.gb_goal.specs.Answers.{Answer}
use Rattle.gb_goal.specs.Answers.Answer.{given, refused}
use Rattle.gb_goal.specs.Goal.{Goal, subject_of, form_of, goal_at, goal_of, is_body_at, judges_bodies}
use Rattle.gb_goal.specs.Goal.Code.{body, procedure}
use Rattle.gb_goal.specs.Goal.Goal.{hoare, phoare, equiv, ambient}
use Rattle.gb_goal.specs.declared.sequent.Sequent.{Sequent}
use Rattle.gb_steps.specs.declared.step.AmbientRule.{AmbientRule}
use Rattle.gb_steps.specs.declared.step.AmbientRule.TheVariants.{Split, Left, Right, Assumption, Case, Have, Introduce, IntroduceMemory, Discard, Unpack, Branch, Witness, WitnessMemory, Trivial, Done}
use Rattle.gb_meaning.specs.Declared.{Declarations}
use Rattle.gb_typing.specs.Context.{Context}
use Rattle.gb_typing.specs.Forms.{implies_form, not_form}
use Rattle.gb_typing.specs.Goals.{IsGoalOver}
use Rattle.gb_typing.specs.Scopes.{context_of}
use Rattle.gb_typing.specs.Sequents.{of_sequent, IsTypedSequent}
use Rattle.gb_typing.proofs.Given.{refused_at, same_given}
use Rattle.gb_typing.proofs.Shapes.{goal_form, node_out}
use Rattle.gb_typing.proofs.TypedGoals.{conclusion_goal}
use Rattle.gb_amb.specs.Introduced.{introduced_at, next_variable, unless_modules, with_memory, with_premise, with_variable}
use Rattle.gb_amb.specs.Parts.{at_most_form, bounded_at, by_premise, by_shape, concluding, each_concluding, parts_at, parts_of}
use Rattle.gb_amb.specs.Quantified.{goal_quantifies_modules, quantifies_modules}
use Rattle.gb_amb.specs.Steps.{IsAnswer, assuming, by_cases}
use Rattle.gb_amb.specs.Witness.{at_memory, memory_witnessed_at, witnessed_at}
use Rattle.gb_print_names.specs.declared.bound_names.Enumeration.{Enumeration}
use Rattle.gb_print.specs.Written.{is_name_text}
use Rattle.gb_shown.specs.Named.{IsNamedHead, IsNamed, IsNamedGoal, IsNamedVariable, IsNamedHyp, IsNamedSequent}
use Rattle.gb_shown.specs.Rules.{IsNamedStep}
use Rattle.gb_shown.proofs.SpeltTrees.{AllNamed, node_named, parts_named}
use Rattle.gb_shown.proofs.Changed.{changed_named}
use Rattle.gb_shown.proofs.SpeltForms.{as_result, implies_named, not_named}
use Rattle.gb_shown.proofs.NamedGoals.{no_front}
use Rattle.gb_shown.proofs.Rows.{goal_named}
use Rattle.gb_shown.proofs.Sequents.{all_append, concluding_named, all_concluding_named, assuming_named}

-- a judgment of a body is one
judges : (is : List Instr) → is_body_at (out-Subject (subject_of (body is))) ≡ true
unfolding out-Subject denote.Hole.Carrier.out
judges is = ap is_body_at (outs-Body' _ (B.hidden-the_row-Instr-1 is))

module _ (es : List Enumeration) where
  -- a judgment of procedures, and another form, as forms
  form_whole : (c : Context) (ls rs : List TypedName) (G : Goal) → IsGoalOver c ls rs G → IsNamedGoal es G → judges_bodies (let z = out-Term (form_of G) in z.head) ≡ false → IsNamed es (form_of G)
  form_whole c ls rs (hoare (procedure f) p q) w h j = node_named es (head.Hoare (Proc f)) (p ∷ q ∷ []) ty.Bool h.0 tt (h.1, (h.2, tt))
  form_whole c ls rs (phoare (procedure f) r p q b) w h j = node_named es (head.Phoare (Proc f) r) (p ∷ q ∷ b ∷ []) ty.Bool h.0 tt (h.1, (h.2, (h.3, tt)))
  form_whole c ls rs (equiv (procedure f) (procedure g) p q) w h j = node_named es (head.Equiv (Proc f) (Proc g)) (p ∷ q ∷ []) ty.Bool (h.0, h.1) tt (h.2, (h.3, tt))
  form_whole c ls rs (hoare (body is) p q) w h j =
      absurd (false≢true (sym j ∙ ap (λ z. judges_bodies z.head) (node_out (head.Hoare (subject_of (body is))) (p ∷ q ∷ []) ty.Bool) ∙ judges is))
  form_whole c ls rs (phoare (body is) r p q b) w h j =
      absurd (false≢true (sym j ∙ ap (λ z. judges_bodies z.head) (node_out (head.Phoare (subject_of (body is)) r) (p ∷ q ∷ b ∷ []) ty.Bool) ∙ judges is))
  form_whole c ls rs (equiv (body is) (body js) p q) w h j =
      absurd (false≢true (sym j ∙ ap (λ z. judges_bodies z.head) (node_out (head.Equiv (subject_of (body is)) (subject_of (body js))) (p ∷ q ∷ []) ty.Bool) ∙ judges is))
  form_whole c ls rs (equiv (body is) (procedure g) p q) w h j = absurd w.0
  form_whole c ls rs (equiv (procedure f) (body js) p q) w h j = absurd w.0
  form_whole c ls rs (ambient f) w h j = h

  -- Parts of conclusions.

  absolute_named : (r b : Term) → IsNamed es r → IsNamed es b → AllNamed es (at_most_form r b ∷ at_most_form (node (head.Builtin op.Negate) (r ∷ []) ty.Real) b ∷ [])
  absolute_named r b x y = (
    node_named es (head.Builtin op.AtMost) (r ∷ b ∷ []) ty.Bool tt tt (x, (y, tt)),
    (node_named es (head.Builtin op.AtMost) (_ ∷ b ∷ []) ty.Bool tt tt (node_named es (head.Builtin op.Negate) (r ∷ []) ty.Real tt tt (x, tt), (y, tt)), tt),
  )

  bounded_named : (place : Place) (h : Head) (ts : List Term) (b : Term) (fs : List Term) → AllNamed es ts → IsNamed es b → bounded_at place h ts b ≡ given fs → AllNamed es fs
  bounded_named place (head.Builtin op.Abs) (r ∷ []) b fs x y e = subst (AllNamed es) (same_given _ fs e) (absolute_named r b x.0 y)
  bounded_named place h ts b fs x y e = refused_at Shape place fs e

  premise_named : (r : AmbientRule) (place : Place) (h : Head) (ts : List Term) (t : Ty) (d : Term) (fs : List Term) → IsNamedHead es h t → AllNamed es ts → IsNamed es d → by_premise r place h ts d ≡ given fs → AllNamed es fs
  premise_named Discard place h ts t d fs x y w e = subst (AllNamed es) (same_given (d ∷ []) fs e) (w, tt)
  premise_named Unpack place (head.Builtin op.And) (a ∷ b ∷ []) t d fs x y w e = subst (AllNamed es) (same_given _ fs e) (implies_named es a _ y.0 (implies_named es b d y.1.0 w), tt)
  premise_named Unpack place (head.Some u) (a ∷ []) t d fs x y w e = quantified (quantifies_modules d) e
    where
      quantified : (b : Bool) → (if b then refused Shape place else given (node (head.All u) (implies_form a d ∷ []) ty.Bool ∷ [])) ≡ given fs → AllNamed es fs
      quantified true e = refused_at Shape place fs e
      quantified false e = subst (AllNamed es) (same_given _ fs e) (node_named es (head.All u) _ ty.Bool x tt (implies_named es a d y.0 w, tt), tt)
  premise_named Unpack place head.SomeMemory (a ∷ []) t d fs x y w e = quantified (quantifies_modules d) e
    where
      quantified : (b : Bool) → (if b then refused Shape place else given (node head.AllMemory (implies_form a d ∷ []) ty.Bool ∷ [])) ≡ given fs → AllNamed es fs
      quantified true e = refused_at Shape place fs e
      quantified false e = subst (AllNamed es) (same_given _ fs e) (node_named es head.AllMemory _ ty.Bool tt tt (implies_named es a d y.0 w, tt), tt)
  premise_named Branch place (head.Builtin op.Or) (a ∷ b ∷ []) t d fs x y w e = subst (AllNamed es) (same_given _ fs e) (implies_named es a d y.0 w, (implies_named es b d y.1.0 w, tt))
  premise_named r place h ts t d fs x y w e = refused_at Shape place fs e

  bound_parts : (place : Place) (a b : Term) (fs : List Term) → IsNamed es a → IsNamed es b → bounded_at place (let z = out-Term a in z.head) (let z = out-Term a in z.args) b ≡ given fs → AllNamed es fs
  bound_parts place a b fs x y e = let k = parts_named es a x in bounded_named place (let z = out-Term a in z.head) (let z = out-Term a in z.args) b fs k.2 y e

  module _ (f : Term) where
    -- what is known of a conclusion with this head and these arguments
    abbrev Known : Head → List Term → Type 0
    Known h ts = IsNamedGoal es (goal_at f h ts) × (IsNamed es f → AllNamed es ts)

    at_parts : (r : AmbientRule) (place : Place) (h : Head) (ts : List Term) (fs : List Term) → Known h ts → parts_at r place h ts ≡ given fs → AllNamed es fs
    at_parts Split place (head.Builtin op.And) (a ∷ b ∷ []) fs k e = let x = k.1 k.0 in subst (AllNamed es) (same_given _ fs e) (x.0, (x.1.0, tt))
    at_parts Split place (head.Builtin op.Iff) (a ∷ b ∷ []) fs k e =
        let x = k.1 k.0 in subst (AllNamed es) (same_given _ fs e) (implies_named es a b x.0 x.1.0, (implies_named es b a x.1.0 x.0, tt))
    at_parts Split place (head.Builtin op.AtMost) (a ∷ b ∷ []) fs k e = let x = k.1 k.0 in bound_parts place a b fs x.0 x.1.0 e
    at_parts Left place (head.Builtin op.Or) (a ∷ b ∷ []) fs k e = let x = k.1 k.0 in subst (AllNamed es) (same_given _ fs e) (x.0, tt)
    at_parts Right place (head.Builtin op.Or) (a ∷ b ∷ []) fs k e = let x = k.1 k.0 in subst (AllNamed es) (same_given _ fs e) (x.1.0, tt)
    at_parts r place h ts fs k e = refused_at Shape place fs e

    under_premise : (r : AmbientRule) (place : Place) (a d : Term) (fs : List Term) → IsNamed es a → IsNamed es d → by_premise r place (let z = out-Term a in z.head) (let z = out-Term a in z.args) d ≡ given fs → AllNamed es fs
    under_premise r place a d fs x y e =
        let k = parts_named es a x in premise_named r place (let z = out-Term a in z.head) (let z = out-Term a in z.args) (let z = out-Term a in z.ty) d fs k.0 k.2 y e

    shape_named : (r : AmbientRule) (place : Place) (h : Head) (ts : List Term) (fs : List Term) → Known h ts → by_shape r place h ts ≡ given fs → AllNamed es fs
    shape_named r place (head.Builtin op.Implies) (a ∷ d ∷ []) fs k e = let x = k.1 k.0 in under_premise r place a d fs x.0 x.1.0 e
    shape_named r place h ts fs k e = at_parts r place h ts fs k e

module _ (es : List Enumeration) (ds : Declarations) (q : Sequent) (t : IsTypedSequent (context_of ds) q) (n : IsNamedSequent es q) where
  abbrev c : Context
  c = of_sequent (context_of ds) q t.frames

  abbrev Keeps : List Sequent → Type 0
  Keeps qs = AllByRecursion (IsNamedSequent es) qs

  concluded : (f : Term) → IsNamed es f → IsNamedSequent es (concluding q f)
  concluded f h = concluding_named es q n f h

  one_kept : (r : Sequent) (qs : List Sequent) → IsNamedSequent es r → given qs ≡ given (r ∷ []) → Keeps qs
  one_kept r qs w e = subst Keeps (sym (same_given qs (r ∷ []) e)) (w, tt)

  -- the parts of a conclusion
  known : (h : Head) (ts : List Term) → (let z = out-Term q.conclusion in z.head) ≡ h → (let z = out-Term q.conclusion in z.args) ≡ ts → Known es q.conclusion h ts
  known h ts hs xs = (subst (IsNamedGoal es) (λ i. goal_at q.conclusion (hs i) (xs i)) n.conclusion, λ k. subst (AllNamed es) xs (let z = parts_named es q.conclusion k in z.2))

  value_of : (h : Head) → (let z = out-Term q.conclusion in z.head) ≡ h → IsNamed es q.conclusion → IsNamedHead es h (let z = out-Term q.conclusion in z.ty)
  value_of h hs k = subst (λ h. IsNamedHead es h (let z = out-Term q.conclusion in z.ty)) hs (let z = parts_named es q.conclusion k in z.0)

  unless_kept : (place : Place) (wider : Sequent) (qs : List Sequent) → IsNamedSequent es wider → given qs ≡ unless_modules place q wider → Keeps qs
  unless_kept place wider qs w e = step (goal_quantifies_modules q) e
    where
      step : (b : Bool) → given qs ≡ (if b then refused Shape place else given (wider ∷ [])) → Keeps qs
      step true e = refused_at Shape place qs (sym e)
      step false e = one_kept wider qs w e

  introduced_kept : (r : AmbientRule) → IsNamedStep es r → (place : Place) (h : Head) (ts : List Term) → (let z = out-Term q.conclusion in z.head) ≡ h → (let z = out-Term q.conclusion in z.args) ≡ ts → (qs : List Sequent) →
      given qs ≡ introduced_at r place q h ts → Keeps qs
  introduced_kept (Introduce x) w place (head.All u) (f ∷ []) hs xs qs e =
      let k = known (head.All u) (f ∷ []) hs xs in
      let typed = value_of (head.All u) hs k.0 in
      let parts = k.1 k.0 in
      let new = node_named es (head.Read (Logical (length q.logical))) [] u tt (as_result u typed) tt in
      unless_kept place (with_variable q x u f) qs (record {
        variables = all_append IsNamedVariable q.logical _ n.variables ((w, typed), tt);
        memories = n.memories;
        modules = n.modules;
        hyps = n.hyps;
        conclusion = goal_named es _ (changed_named es f (OfBound 0 (next_variable q u) ∷ []) (new, tt) parts.0);
      }) e
  introduced_kept (Introduce x) w place (head.Builtin op.Implies) (a ∷ f ∷ []) hs xs qs e =
      let k = known (head.Builtin op.Implies) (a ∷ f ∷ []) hs xs in
      let parts = k.1 k.0 in
      one_kept (with_premise q x a f) qs (record {
        variables = n.variables;
        memories = n.memories;
        modules = n.modules;
        hyps = all_append (IsNamedHyp es) q.hyps _ n.hyps ((w, parts.0), tt);
        conclusion = goal_named es f parts.1.0;
      }) e
  introduced_kept (IntroduceMemory x) w place head.AllMemory (f ∷ []) hs xs qs e =
      let k = known head.AllMemory (f ∷ []) hs xs in
      let parts = k.1 k.0 in
      unless_kept place (with_memory q x f) qs (record {
        variables = n.variables;
        memories = all_append (λ m. is_name_text m ≡ true) q.memories _ n.memories (w, tt);
        modules = n.modules;
        hyps = n.hyps;
        conclusion = goal_named es _ (changed_named es f (ToSide (Bound 0) (Memory (length q.memories)) ∷ []) (tt, tt) parts.0);
      }) e
  introduced_kept r w place h ts hs xs qs e = refused_at Shape place qs (sym e)

  witness_keeps : (x : Term) → IsNamed es x → (place : Place) (h : Head) (ts : List Term) → (let z = out-Term q.conclusion in z.head) ≡ h → (let z = out-Term q.conclusion in z.args) ≡ ts → (qs : List Sequent) →
      given qs ≡ witnessed_at x place q h ts → Keeps qs
  witness_keeps x w place (head.Some u) (f ∷ []) hs xs qs e =
      let k = known (head.Some u) (f ∷ []) hs xs in
      let parts = k.1 k.0 in
      one_kept (concluding q (term_changed f (OfBound 0 x ∷ []))) qs (concluded _ (changed_named es f (OfBound 0 x ∷ []) (w, tt) parts.0)) e
  witness_keeps x w place h ts hs xs qs e = refused_at Shape place qs (sym e)

  memory_keeps : (i : ℕ) (place : Place) (h : Head) (ts : List Term) → (let z = out-Term q.conclusion in z.head) ≡ h → (let z = out-Term q.conclusion in z.args) ≡ ts → (qs : List Sequent) →
      given qs ≡ memory_witnessed_at i place q h ts → Keeps qs
  memory_keeps i place head.SomeMemory (f ∷ []) hs xs qs e =
      let k = known head.SomeMemory (f ∷ []) hs xs in
      let parts = k.1 k.0 in
      one_kept (concluding q (at_memory f i)) qs (concluded _ (changed_named es f (ToSide (Bound 0) (Memory i) ∷ []) (tt, tt) parts.0)) e
  memory_keeps i place h ts hs xs qs e = refused_at Shape place qs (sym e)

  parts_keep : (r : AmbientRule) (place : Place) (qs : List Sequent) → given qs ≡ each_concluding q (parts_of r place q.conclusion) → Keeps qs
  parts_keep r place qs e = step (parts_of r place q.conclusion) refl e
    where
      step : (x : Answer (List Term)) → parts_of r place q.conclusion ≡ x → given qs ≡ each_concluding q x → Keeps qs
      step (given fs) u e = subst Keeps (sym (same_given qs (map (concluding q) fs) e)) (all_concluding_named es q n fs (let z = out-Term q.conclusion in shape_named es q.conclusion r place z.head z.args fs (known z.head z.args refl refl) u))
      step (refused w p) u e = refused_at w p qs (sym e)

  -- a conclusion that is no judgment of a body
  whole : judges_bodies (let z = out-Term q.conclusion in z.head) ≡ false → IsNamed es q.conclusion
  whole j =
      let k = conclusion_goal c q.conclusion t.conclusion (no_front es q.conclusion n.conclusion) in
      let typed = k.0 in
      let back = goal_form q.conclusion k.1 in
      subst (IsNamed es) back (form_whole es c typed.0 typed.1 (goal_of q.conclusion) typed.2 n.conclusion (ap (λ f. judges_bodies (let z = out-Term f in z.head)) back ∙ j))

  cases_keep : (f : Term) → IsNamed es f → (place : Place) (qs : List Sequent) → given qs ≡ by_cases f place q → Keeps qs
  cases_keep f x place qs e = step (judges_bodies (let z = out-Term q.conclusion in z.head)) refl e
    where
      step : (b : Bool) → judges_bodies (let z = out-Term q.conclusion in z.head) ≡ b →
          given qs ≡ (if b then refused Shape place else given (concluding q (implies_form f q.conclusion) ∷ concluding q (implies_form (not_form f) q.conclusion) ∷ [])) → Keeps qs
      step true j e = refused_at Shape place qs (sym e)
      step false j e =
          subst Keeps (sym (same_given qs _ e)) (concluded _ (implies_named es f q.conclusion x (whole j)), (concluded _ (implies_named es (not_form f) q.conclusion (not_named es f x) (whole j)), tt))

  none_kept : (qs : List Sequent) → given qs ≡ given [] → Keeps qs
  none_kept qs e = subst Keeps (sym (same_given qs [] e)) tt

  pub conclusions_keep : (r : AmbientRule) → IsNamedStep es r → (place : Place) (qs : List Sequent) → IsAnswer r place q (given qs) → Keeps qs
  conclusions_keep Assumption w place qs (inl (m, e)) = none_kept qs e
  conclusions_keep Assumption w place qs (inr (m, e)) = refused_at Shape place qs (sym e)
  conclusions_keep (Case f) w place qs e = cases_keep f w place qs e
  conclusions_keep (Have x f) w place qs e = subst Keeps (sym (same_given qs (concluding q f ∷ assuming q x f ∷ []) e)) (concluded f w.1, (assuming_named es q n x f w.0 w.1, tt))
  conclusions_keep (Introduce x) w place qs e = introduced_kept (Introduce x) w place _ _ refl refl qs e
  conclusions_keep (IntroduceMemory x) w place qs e = introduced_kept (IntroduceMemory x) w place _ _ refl refl qs e
  conclusions_keep (Witness x) w place qs e = witness_keeps x w place _ _ refl refl qs e
  conclusions_keep (WitnessMemory i) w place qs e = memory_keeps i place _ _ refl refl qs e
  conclusions_keep Trivial w place qs (inl (m, e)) = none_kept qs e
  conclusions_keep Trivial w place qs (inr (m, e)) = subst Keeps (sym (same_given qs (q ∷ []) e)) (n, tt)
  conclusions_keep Done w place qs (inl (m, e)) = none_kept qs e
  conclusions_keep Done w place qs (inr (m, e)) = refused_at Shape place qs (sym e)
  conclusions_keep Split w place qs e = parts_keep Split place qs e
  conclusions_keep Left w place qs e = parts_keep Left place qs e
  conclusions_keep Right w place qs e = parts_keep Right place qs e
  conclusions_keep Discard w place qs e = parts_keep Discard place qs e
  conclusions_keep Unpack w place qs e = parts_keep Unpack place qs e
  conclusions_keep Branch w place qs e = parts_keep Branch place qs e
