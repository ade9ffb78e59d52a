-- Equals for equals, and unfolding, keep names.
use Rattle.std.proofs.Common.{◌≡◌, ℕ, zero, suc, Bool, true, false, if◌then◌else◌, List, [], ◌∷◌, map, slice_get, Option, Some, None, refl, sym, subst}
use Rattle.std.proofs.lemmas.Option.{same_Some, none-some}
use Rattle.std.specs.List.{AllByRecursion}
use Rattle.std.specs.Option.{option_map}
use Rattle.gb_core.specs.declared.place.Place.{Place}
use Rattle.gb_core.specs.declared.refusal.Why.TheVariants.{Shape}
use Rattle.gb_core.specs.declared.ty.Ty.{Ty}
use Rattle.gb_terms.specs.declared.op.Op.TheVariants.{Equal, Iff}
use Rattle.gb_terms.specs.declared.term.Term.{Term, Term', Row_of-Term, end_of-Term, more_of-Term, end_of-Head, more_of-Head, out-Term}
use Rattle.gb_terms.specs.declared.term.Head.{Head}
use Rattle.gb_terms.specs.declared.term.Head.TheVariants as head
use Rattle.gb_terms.specs.declared.term.Head.TheVariants.{Proc, Body', Assign, Sample, Call', If', While'}
use Rattle.gb_terms.specs.declared.term.Instr.{Instr, Row_of-Instr, end_of-Instr, more_of-Instr}
use Rattle.gb_terms.specs.declared.term.Subject.{Subject}
use Rattle.gb_terms.specs.Make.{node}
use Rattle.gb_walk.specs.Change.{term_changed}
use Rattle.gb_meaning.specs.Commands.{terms_in}
use Rattle.gb_laws.proofs.Trees.{out_is}
use Rattle.gb_steps.specs.declared.step.EventLaw.{EventLaw}
use Rattle.gb_steps.specs.declared.step.RewriteRule.{RewriteRule}
use Rattle.gb_steps.specs.declared.step.RewriteRule.TheVariants.{Forward, Back, Subst, Unfold, Law}
use Rattle.gb_goal.specs.Answers.Answer.{given, refused}
use Rattle.gb_goal.specs.Goal.{code_of, goal_at, goal_of}
use Rattle.gb_goal.specs.Scope.{Declarations, entry_of}
use Rattle.gb_goal.specs.declared.scope.Entry.{Entry}
use Rattle.gb_goal.specs.declared.scope.Entry.TheVariants as entry
use Rattle.gb_goal.specs.declared.sequent.Hyp.{Hyp}
use Rattle.gb_goal.specs.declared.sequent.Sequent.{Sequent}
use Rattle.gb_typing.proofs.Given.{refused_at, same_given}
use Rattle.gb_typing.proofs.Shapes.{code_row}
use Rattle.gb_amb.specs.Parts.{concluding}
use Rattle.gb_amb.specs.Quantified.{quantifies_modules, goal_quantifies_modules}
use Rattle.gb_eval.specs.Script.{body_in, body_named}
use Rattle.gb_rewrite.specs.Equations.{Pair, exchanged, equation_at, equivalence_at, equation_of, equivalence_of, is_variable_apart, used_up_of}
use Rattle.gb_steps.specs.First.{is_quotient}
use Rattle.gb_prog.specs.Same.{is_same}
use Rattle.gb_rewrite.specs.Rewritten.{rewritten, parts_rewritten, list_rewritten, stands}
use Rattle.gb_rewrite.specs.Events.{by_first}
use Rattle.gb_rewrite.specs.Rewriting.{rewriting, others, hypothesis_rewritten, without, using_up, using_up_hypothesis, unfolded_everywhere, opening_by, concluding_by, by_event_law, rewrite_answer}
use Rattle.gb_rewrite.specs.Unfolded.{names, is_operator, unfolded, all_unfolded, row_unfolded, statement_unfolded, body_unfolded, subject_unfolded, head_unfolded, programs_unfolded}
use Rattle.gb_forms.specs.Arguments.{in_places}
use Rattle.gb_rewrite.proofs.Layers.{unfolded_out}
use Rattle.gb_rewrite.proofs.Parts.{rewritten_out}
use Rattle.gb_print_names.specs.declared.bound_names.Enumeration.{Enumeration}
use Rattle.gb_shown.specs.Named.{IsNamed, AreNamed, IsNamedInstr, AreNamedInstrs, IsNamedSubject, IsNamedHead, IsNamedCode, IsNamedGoal, IsNamedHyp, IsNamedSequent}
use Rattle.gb_shown.specs.Rules.{AreNamedOperators, IsNamedLaw, IsNamedRewrite}
use Rattle.gb_shown.proofs.SpeltTrees.{AllNamed, node_named, parts_named, terms_named}
use Rattle.gb_shown.proofs.Changed.{PutNamed, changed_named}
use Rattle.gb_shown.proofs.Rows.{goal_named, goal_of_node}
use Rattle.gb_shown.proofs.SpeltStatements.{row_each, each_row}
use Rattle.gb_shown.proofs.Events.{first_goal}
use mathlib.Core.Former.{Count}

module _ (es : List Enumeration) where
  either : (z : Bool) (b x : Term) → IsNamed es b → IsNamed es x → IsNamed es (if z then b else x)
  either true b x v w = v
  either false b x v w = w

  either_goal : (z : Bool) (b x : Term) → IsNamedGoal es (goal_of b) → IsNamedGoal es (goal_of x) → IsNamedGoal es (goal_of (if z then b else x))
  either_goal true b x v w = v
  either_goal false b x v w = w

  -- A judgment with other conditions, or another form in place of a form.
  at_mapped : (m : Term → Term) → ((t : Term) → IsNamed es t → IsNamed es (m t)) → (f g : Term) → (IsNamed es f → IsNamed es g) → (h : Head) (ts : List Term) → IsNamedGoal es (goal_at f h ts) → IsNamedGoal es (goal_at g h (map m ts))
  at_mapped m k f g w (head.Hoare c) (p ∷ q ∷ []) x = (x.0, k p x.1, k q x.2)
  at_mapped m k f g w (head.Hoare c) [] x = w x
  at_mapped m k f g w (head.Hoare c) (p ∷ []) x = w x
  at_mapped m k f g w (head.Hoare c) (p ∷ q ∷ b ∷ ts) x = w x
  at_mapped m k f g w (head.Phoare c r) (p ∷ q ∷ b ∷ []) x = (x.0, k p x.1, k q x.2, k b x.3)
  at_mapped m k f g w (head.Phoare c r) [] x = w x
  at_mapped m k f g w (head.Phoare c r) (p ∷ []) x = w x
  at_mapped m k f g w (head.Phoare c r) (p ∷ q ∷ []) x = w x
  at_mapped m k f g w (head.Phoare c r) (p ∷ q ∷ b ∷ u ∷ ts) x = w x
  at_mapped m k f g w (head.Equiv c d) (p ∷ q ∷ []) x = (x.0, x.1, k p x.2, k q x.3)
  at_mapped m k f g w (head.Equiv c d) [] x = w x
  at_mapped m k f g w (head.Equiv c d) (p ∷ []) x = w x
  at_mapped m k f g w (head.Equiv c d) (p ∷ q ∷ b ∷ ts) x = w x
  at_mapped m k f g w _ ts x = w x

  all_mapped : (m : Term → Term) → ((t : Term) → IsNamed es t → IsNamed es (m t)) → (ts : List Term) → AllNamed es ts → AllNamed es (map m ts)
  all_mapped m k [] x = tt
  all_mapped m k (t ∷ ts) x = (k t x.0, all_mapped m k ts x.1)

  -- One term in place of another one.

  module _ (a b : Term) (n : IsNamed es b) where
    mutual
      rewritten_named : (t : Term) → IsNamed es t → IsNamed es (rewritten a b t)
      rewritten_named (Term' p (more_of-Head h end_of-Head) k ts ty) x =
          either (is_same (Term' p (more_of-Head h end_of-Head) k ts ty) a) b _ n (node_named es h _ ty x.0 x.1 (parts_rewritten_named (is_quotient h) ts x.2))

      parts_rewritten_named : {k : Count} (d : Bool) (ts : Row_of-Term k) → AreNamed es ts → AllNamed es (parts_rewritten a b d ts)
      parts_rewritten_named d end_of-Term x = tt
      parts_rewritten_named true (more_of-Term t ts) x = (rewritten_named t x.0, terms_named es ts x.1)
      parts_rewritten_named false (more_of-Term t ts) x = (rewritten_named t x.0, parts_rewritten_named false ts x.1)

    list_named : (d : Bool) (ts : List Term) → AllNamed es ts → AllNamed es (list_rewritten a b d ts)
    list_named true [] x = tt
    list_named true (t ∷ ts) x = (rewritten_named t x.0, x.1)
    list_named false ts x = all_mapped (rewritten a b) rewritten_named ts x

    at_rewritten : (f g : Term) → (IsNamed es f → IsNamed es g) → (h : Head) (ts : List Term) → IsNamedGoal es (goal_at f h ts) → IsNamedGoal es (goal_at g h (list_rewritten a b (is_quotient h) ts))
    at_rewritten f g w (head.Builtin o) ts x = w x
    at_rewritten f g w h ts x = at_mapped (rewritten a b) rewritten_named f g w h ts x

    goal_rewritten : (f : Term) → IsNamedGoal es (goal_of f) → IsNamedGoal es (goal_of (rewritten a b f))
    goal_rewritten f x = subst (λ g. IsNamedGoal es (goal_of g)) (sym (rewritten_out a b f)) (either_goal (is_same f a) b g (goal_named es b n) (goal_of_node es h us t (at_rewritten f g whole h ts x)))
      where
        h : Head
        h = let z = out-Term f in z.head

        ts : List Term
        ts = let z = out-Term f in z.args

        t : Ty
        t = let z = out-Term f in z.ty

        us : List Term
        us = list_rewritten a b (is_quotient h) ts

        g : Term
        g = node h us t

        whole : IsNamed es f → IsNamed es g
        whole k = let z = parts_named es f k in node_named es h us t z.0 z.1 (list_named (is_quotient h) ts z.2)

  -- An operator, opened.

  module _ (x : List ℕ) (b : Term) (n : IsNamed es b) where
    places_named : (ts : List Term) → AllNamed es ts → PutNamed es (in_places ts)
    places_named [] h = tt
    places_named (t ∷ ts) h = (h.0, places_named ts h.1)

    mutual
      unfolded_named : (t : Term) → IsNamed es t → IsNamed es (unfolded x b t)
      unfolded_named (Term' p (more_of-Head h end_of-Head) k ts ty) w =
          let us = all_unfolded_named ts w.2 in
          either (is_operator x h) (term_changed b (in_places (all_unfolded x b ts))) _ (changed_named es b (in_places (all_unfolded x b ts)) (places_named (all_unfolded x b ts) us) n) (node_named es h (all_unfolded x b ts) ty w.0 w.1 us)

      all_unfolded_named : {k : Count} (ts : Row_of-Term k) → AreNamed es ts → AllNamed es (all_unfolded x b ts)
      all_unfolded_named end_of-Term w = tt
      all_unfolded_named (more_of-Term t ts) w = (unfolded_named t w.0, all_unfolded_named ts w.1)

    goal_unfolded : (f : Term) → IsNamedGoal es (goal_of f) → IsNamedGoal es (goal_of (unfolded x b f))
    goal_unfolded f w = subst (λ g. IsNamedGoal es (goal_of g)) (sym (unfolded_out x b f)) (by_operator (is_operator x h) refl)
      where
        h : Head
        h = let z = out-Term f in z.head

        ts : List Term
        ts = let z = out-Term f in z.args

        t : Ty
        t = let z = out-Term f in z.ty

        us : List Term
        us = map (unfolded x b) ts

        whole : IsNamed es f → IsNamed es (node h us t)
        whole k = let z = parts_named es f k in node_named es h us t z.0 z.1 (all_mapped (unfolded x b) unfolded_named ts z.2)

        opened : (h : Head) (ts : List Term) → is_operator x h ≡ true → IsNamedGoal es (goal_at f h ts) → IsNamed es f
        opened (head.User y) ts e k = k
        opened _ ts e k = cc

        by_operator : (z : Bool) → is_operator x h ≡ z → IsNamedGoal es (goal_of (if z then term_changed b (in_places us) else node h us t))
        by_operator true e =
            let k = parts_named es f (opened h ts e w) in
            goal_named es _ (changed_named es b (in_places us) (places_named us (all_mapped (unfolded x b) unfolded_named ts k.2)) n)
        by_operator false e = goal_of_node es h us t (at_mapped (unfolded x b) unfolded_named f (node h us t) whole h ts w)

    -- The same in programs.

    row_named : {k : Count} (ts : Row_of-Term k) → AreNamed es ts → AreNamed es (row_unfolded x b ts)
    row_named end_of-Term w = tt
    row_named (more_of-Term t ts) w = (unfolded_named t w.0, row_named ts w.1)

    mutual
      statement_named : (i : Instr) → IsNamedInstr es i → IsNamedInstr es (statement_unfolded x b i)
      statement_named (Assign xs e) w = (w.0, unfolded_named e w.1)
      statement_named (Sample y d) w = (w.0, unfolded_named d w.1)
      statement_named (Call' xs p k ts) w = (w.0, w.1, row_named ts w.2)
      statement_named (If' e m a k c) w = (unfolded_named e w.0, row_kept a w.1, row_kept c w.2)
      statement_named (While' e v k a) w = (unfolded_named e w.0, unfolded_named v w.1, row_kept a w.2)

      row_kept : {k : Count} (is : Row_of-Instr k) → AreNamedInstrs es is → AreNamedInstrs es (body_unfolded x b is)
      row_kept end_of-Instr w = tt
      row_kept (more_of-Instr i is) w = (statement_named i w.0, row_kept is w.1)

    code_unfolded : (s : Subject) → IsNamedCode es (code_of s) → IsNamedCode es (code_of (subject_unfolded x b s))
    code_unfolded (Proc p) w = w
    code_unfolded (Body' k is) w =
        subst (IsNamedCode es) (sym (code_row k (body_unfolded x b is))) (row_each es (body_unfolded x b is) (row_kept is (each_row es is (subst (IsNamedCode es) (code_row k is) w))))

    subject_named : (s : Subject) → IsNamedSubject s → IsNamedSubject (subject_unfolded x b s)
    subject_named (Proc p) w = w
    subject_named (Body' k is) w = absurd w

    head_named : (h : Head) (t : Ty) → IsNamedHead es h t → IsNamedHead es (head_unfolded x b h) t
    head_named (head.Hoare s) t w = subject_named s w
    head_named (head.Phoare s r) t w = subject_named s w
    head_named (head.Equiv s u) t w = (subject_named s w.0, subject_named u w.1)
    head_named _ t w = w

    at_unfolded : (f g : Term) → (IsNamed es f → IsNamed es g) → (h : Head) (ts : List Term) → IsNamedGoal es (goal_at f h ts) → IsNamedGoal es (goal_at g (head_unfolded x b h) ts)
    at_unfolded f g w (head.Hoare c) (p ∷ q ∷ []) k = (code_unfolded c k.0, k.1, k.2)
    at_unfolded f g w (head.Hoare c) [] k = w k
    at_unfolded f g w (head.Hoare c) (p ∷ []) k = w k
    at_unfolded f g w (head.Hoare c) (p ∷ q ∷ r ∷ ts) k = w k
    at_unfolded f g w (head.Phoare c r) (p ∷ q ∷ d ∷ []) k = (code_unfolded c k.0, k.1, k.2, k.3)
    at_unfolded f g w (head.Phoare c r) [] k = w k
    at_unfolded f g w (head.Phoare c r) (p ∷ []) k = w k
    at_unfolded f g w (head.Phoare c r) (p ∷ q ∷ []) k = w k
    at_unfolded f g w (head.Phoare c r) (p ∷ q ∷ d ∷ u ∷ ts) k = w k
    at_unfolded f g w (head.Equiv c d) (p ∷ q ∷ []) k = (code_unfolded c k.0, code_unfolded d k.1, k.2, k.3)
    at_unfolded f g w (head.Equiv c d) [] k = w k
    at_unfolded f g w (head.Equiv c d) (p ∷ []) k = w k
    at_unfolded f g w (head.Equiv c d) (p ∷ q ∷ r ∷ ts) k = w k
    at_unfolded f g w _ ts k = w k

    programs_named : (f : Term) → IsNamedGoal es (goal_of f) → IsNamedGoal es (goal_of (programs_unfolded x b f))
    programs_named (Term' p (more_of-Head h end_of-Head) k ts ty) w =
        let f = Term' p (more_of-Head h end_of-Head) k ts ty in
        let g = Term' p (more_of-Head (head_unfolded x b h) end_of-Head) k ts ty in
        let here = subst (λ l. IsNamedGoal es (goal_at f l.head l.args)) (out_is h k ts ty) w in
        subst (λ l. IsNamedGoal es (goal_at g l.head l.args)) (sym (out_is (head_unfolded x b h) k ts ty)) (at_unfolded f g (λ z. (head_named h ty z.0, z.1, z.2)) h (terms_in ts) here)

    pub everywhere_named : (f : Term) → IsNamedGoal es (goal_of f) → IsNamedGoal es (goal_of (unfolded_everywhere x b f))
    everywhere_named f w = programs_named (unfolded x b f) (goal_unfolded f w)

  -- Equations.

  abbrev PairNamed : Pair → Type 0
  PairNamed p = IsNamed es p.0 × IsNamed es p.1

  equation_named : (h : Head) (ts : List Term) → AllNamed es ts → (p : Pair) → equation_at h ts ≡ Some p → PairNamed p
  equation_named (head.Builtin Equal) (a ∷ b ∷ []) x p e = subst PairNamed (same_Some (a, b) p e) (x.0, x.1.0)
  equation_named h ts x p e = absurd (none-some p e)

  equivalence_named : (h : Head) (ts : List Term) → AllNamed es ts → (p : Pair) → equivalence_at h ts ≡ Some p → PairNamed p
  equivalence_named (head.Builtin Iff) (a ∷ b ∷ []) x p e = subst PairNamed (same_Some (a, b) p e) (x.0, x.1.0)
  equivalence_named h ts x p e = equation_named h ts x p e

  of_equivalence : (f : Term) → IsNamed es f → (p : Pair) → equivalence_of f ≡ Some p → PairNamed p
  of_equivalence f x p e = let k = parts_named es f x in equivalence_named (let z = out-Term f in z.head) (let z = out-Term f in z.args) k.2 p e

  of_equation : (f : Term) → IsNamed es f → (p : Pair) → equation_of f ≡ Some p → PairNamed p
  of_equation f x p e = let k = parts_named es f x in equation_named (let z = out-Term f in z.head) (let z = out-Term f in z.args) k.2 p e

  back_named : (o : Option Pair) → ((p : Pair) → o ≡ Some p → PairNamed p) → (r : Pair) → option_map exchanged o ≡ Some r → PairNamed r
  back_named None f r e = absurd (none-some r e)
  back_named (Some p) f r e = let k = f p refl in subst PairNamed (same_Some (exchanged p) r e) (k.1, k.0)

  used_named : (o : Option Pair) → ((p : Pair) → o ≡ Some p → PairNamed p) → (r : Pair) → used_up_of o ≡ Some r → PairNamed r
  used_named None f r e = absurd (none-some r e)
  used_named (Some (s, t)) f r e = step (is_variable_apart t s) (is_variable_apart s t) e
    where
      k : PairNamed (s, t)
      k = f (s, t) refl

      step : (y z : Bool) → (if y then Some (t, s) else if z then Some (s, t) else None) ≡ Some r → PairNamed r
      step true z e = subst PairNamed (same_Some (t, s) r e) (k.1, k.0)
      step false true e = subst PairNamed (same_Some (s, t) r e) k
      step false false e = absurd (none-some r e)

  -- The rules.

  module _ (q : Sequent) (n : IsNamedSequent es q) where
    abbrev Keeps : List Sequent → Type 0
    Keeps qs = AllByRecursion (IsNamedSequent es) qs

    concluded : (f : Term) → IsNamedGoal es (goal_of f) → IsNamedSequent es (concluding q f)
    concluded f h = record { variables = n.variables; memories = n.memories; modules = n.modules; hyps = n.hyps; conclusion = h }

    rewriting_keeps : (place : Place) (o : Option Pair) → ((p : Pair) → o ≡ Some p → PairNamed p) → (qs : List Sequent) → rewriting place q o ≡ given qs → Keeps qs
    rewriting_keeps place None f qs e = refused_at Shape place qs e
    rewriting_keeps place (Some p) f qs e = step (quantifies_modules q.conclusion) (stands p.0 q.conclusion) e
      where
        step : (y z : Bool) → (if y then refused Shape place else if z then given (concluding q (rewritten p.0 p.1 q.conclusion) ∷ []) else refused Shape place) ≡ given qs → Keeps qs
        step true z e = refused_at Shape place qs e
        step false true e = let k = f p refl in subst Keeps (same_given _ qs e) (concluded _ (goal_rewritten p.0 p.1 k.1 q.conclusion n.conclusion), tt)
        step false false e = refused_at Shape place qs e

    others_named : (i : ℕ) (hs : List Hyp) → AllByRecursion (IsNamedHyp es) hs → AllByRecursion (IsNamedHyp es) (others i hs)
    others_named i [] h = tt
    others_named zero (k ∷ hs) h = h.1
    others_named (suc i) (k ∷ hs) h = (h.0, others_named i hs h.1)

    hyps_named : (p : Pair) → PairNamed p → (hs : List Hyp) → AllByRecursion (IsNamedHyp es) hs → AllByRecursion (IsNamedHyp es) (map (hypothesis_rewritten p) hs)
    hyps_named p k [] h = tt
    hyps_named p k (x ∷ hs) h = ((h.0.0, rewritten_named p.0 p.1 k.1 x.form h.0.1), hyps_named p k hs h.1)

    using_up_keeps : (i : ℕ) (place : Place) (o : Option Pair) → ((p : Pair) → o ≡ Some p → PairNamed p) → (qs : List Sequent) → using_up i place q o ≡ given qs → Keeps qs
    using_up_keeps i place None f qs e = refused_at Shape place qs e
    using_up_keeps i place (Some p) f qs e = step (goal_quantifies_modules q) e
      where
        k : PairNamed p
        k = f p refl

        step : (y : Bool) → (if y then refused Shape place else given (without i q p ∷ [])) ≡ given qs → Keeps qs
        step true e = refused_at Shape place qs e
        step false e =
            subst Keeps (same_given (without i q p ∷ []) qs e)
            (record { variables = n.variables; memories = n.memories; modules = n.modules; hyps = hyps_named p k (others i q.hyps) (others_named i q.hyps n.hyps); conclusion = goal_rewritten p.0 p.1 k.1 q.conclusion n.conclusion }, tt)

    one_of : (hs : List Hyp) → AllByRecursion (IsNamedHyp es) hs → (i : ℕ) (h : Hyp) → slice_get hs i ≡ Some h → IsNamedHyp es h
    one_of [] n i h e = absurd (none-some h e)
    one_of (x ∷ hs) n zero h e = subst (IsNamedHyp es) (same_Some x h e) n.0
    one_of (x ∷ hs) n (suc i) h e = one_of hs n.1 i h e

    hypothesis_keeps : (i : ℕ) (place : Place) (o : Option Hyp) → slice_get q.hyps i ≡ o → (qs : List Sequent) → using_up_hypothesis i place q o ≡ given qs → Keeps qs
    hypothesis_keeps i place None s qs e = refused_at Shape place qs e
    hypothesis_keeps i place (Some h) s qs e =
        let k = one_of q.hyps n.hyps i h s in using_up_keeps i place (used_up_of (equation_of h.form)) (λ p u. used_named (equation_of h.form) (λ r v. of_equation h.form k.1 r v) p u) qs e

    module _ (ds : Declarations) (operators : AreNamedOperators es ds) where
      in_scope : (x : List ℕ) (o : Option Entry) → entry_of ds x ≡ o → (b : Term) → body_in o ≡ Some b → IsNamed es b
      in_scope x (Some (entry.Operator o)) i b e = subst (IsNamed es) (same_Some o.body b e) (operators x o i)
      in_scope x _ i b e = absurd (none-some b e)

      opening_keeps : (x : List ℕ) (place : Place) (o : Option Term) → ((b : Term) → o ≡ Some b → IsNamed es b) → (qs : List Sequent) → opening_by x place q o ≡ given qs → Keeps qs
      opening_keeps x place None f qs e = refused_at Shape place qs e
      opening_keeps x place (Some b) f qs e = step (quantifies_modules q.conclusion) (names x q.conclusion) e
        where
          step : (y z : Bool) → (if y then refused Shape place else if z then given (concluding q (unfolded_everywhere x b q.conclusion) ∷ []) else refused Shape place) ≡ given qs → Keeps qs
          step true z e = refused_at Shape place qs e
          step false true e = subst Keeps (same_given _ qs e) (concluded _ (everywhere_named x b (f b refl) q.conclusion n.conclusion), tt)
          step false false e = refused_at Shape place qs e

      concluding_keeps : (place : Place) (o : Option Term) → ((f : Term) → o ≡ Some f → IsNamedGoal es (goal_of f)) → (qs : List Sequent) → concluding_by place q o ≡ given qs → Keeps qs
      concluding_keeps place None k qs e = refused_at Shape place qs e
      concluding_keeps place (Some f) k qs e = subst Keeps (same_given _ qs e) (concluded f (k f refl), tt)

      law_keeps : (l : EventLaw) → IsNamedLaw es l → (place : Place) (qs : List Sequent) → by_event_law ds l place q ≡ given qs → Keeps qs
      law_keeps l w place qs e = step (quantifies_modules q.conclusion) e
        where
          step : (y : Bool) → (if y then refused Shape place else concluding_by place q (by_first ds l q.conclusion)) ≡ given qs → Keeps qs
          step true e = refused_at Shape place qs e
          step false e = concluding_keeps place (by_first ds l q.conclusion) (λ f i. first_goal es ds l w q.conclusion n.conclusion f i) qs e

      pub rewriting_kept : (r : RewriteRule) → IsNamedRewrite es r → (place : Place) (qs : List Sequent) → rewrite_answer ds r place q ≡ given qs → Keeps qs
      rewriting_kept (Forward f) w place qs e = rewriting_keeps place (equivalence_of f) (λ p u. of_equivalence f w p u) qs e
      rewriting_kept (Back f) w place qs e = rewriting_keeps place (option_map exchanged (equivalence_of f)) (λ p u. back_named (equivalence_of f) (λ r v. of_equivalence f w r v) p u) qs e
      rewriting_kept (Subst i) w place qs e = hypothesis_keeps i place (slice_get q.hyps i) refl qs e
      rewriting_kept (Unfold x) w place qs e = opening_keeps x place (body_named ds x) (λ b u. in_scope x (entry_of ds x) refl b u) qs e
      rewriting_kept (Law l) w place qs e = law_keeps l w place qs e
