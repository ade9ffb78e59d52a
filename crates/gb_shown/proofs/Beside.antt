-- `rcondt` and `rcondf` on one of two programs keep names: the memory that they add has a name.
use Rattle.std.proofs.Common.{◌≡◌, ℕ, Bool, true, false, if◌then◌else◌, List, [], ◌∷◌, ◌++◌, length, Option, Some, None, refl, subst}
use Rattle.std.proofs.lemmas.Option.{none-some}
use Rattle.std.specs.List.{AllByRecursion}
use Rattle.gb_core.specs.declared.place.Place.{Place}
use Rattle.gb_core.specs.declared.refusal.Why.TheVariants.{Shape}
use Rattle.gb_terms.specs.declared.op.Side.TheVariants as side
use Rattle.gb_terms.specs.declared.term.Instr.{out-Instr}
use Rattle.gb_terms.specs.declared.term.Term.{out-Term}
use Rattle.gb_walk.specs.declared.change.Change.TheVariants.{ToSide}
use Rattle.gb_steps.specs.declared.step.Acts.{Acts}
use Rattle.gb_steps.specs.declared.step.Acts.TheVariants as on
use Rattle.gb_goal.specs.Answers.{Answer, placed_at}
use Rattle.gb_goal.specs.Answers.Answer.{given, refused}
use Rattle.gb_goal.specs.Goal.{Goal, goal_of}
use Rattle.gb_goal.specs.Goal.Code.{body}
use Rattle.gb_goal.specs.Goal.Goal.{hoare}
use Rattle.gb_goal.specs.Rows.{refusing}
use Rattle.gb_goal.specs.Scope.{Declarations}
use Rattle.gb_goal.specs.declared.sequent.Sequent.{Sequent}
use Rattle.gb_typing.proofs.Given.{refused_at, refused_given, same_given}
use Rattle.gb_prog.specs.OneBody.{OneBody}
use Rattle.gb_amb.specs.Quantified.{goal_quantifies_modules}
use Rattle.gb_call_both.specs.OneSide.{speaks}
use Rattle.gb_trans.specs.Places.{At, statement_at}
use Rattle.gb_forms.specs.Decided.{deciding}
use Rattle.gb_trans.specs.Decided.{Decision, decision}
use Rattle.gb_trans.specs.Beside.{other, beside, memory_name, names_around, known_beside, by_decision, at_place, on_body, one_of_two, beside_answer}
use Rattle.gb_print_names.specs.declared.bound_names.Enumeration.{Enumeration}
use Rattle.gb_print_names.specs.BoundNames.{Name, is_among}
use Rattle.gb_print_names.specs.Occurring.{judgment_locals}
use Rattle.gb_print.specs.Written.{is_name_text}
use Rattle.gb_shown.specs.Named.{IsNamedGoal, IsNamedSequent}
use Rattle.gb_shown.proofs.Marked.{primed_name, name_m}
use Rattle.gb_shown.proofs.Changed.{changed_named}
use Rattle.gb_shown.proofs.Programs.{Around, around}
use Rattle.gb_shown.proofs.Rows.{form_named, all_concluding}
use Rattle.gb_shown.proofs.Sequents.{all_append}
use Rattle.gb_shown.proofs.Transformed.{NamedAt, NamedDecision, at_named, place_keeps, decision_named, deciding_named, left_named}

module _ (es : List Enumeration) (ds : Declarations) (q : Sequent) (n : IsNamedSequent es q) where
  abbrev Keeps : List Sequent → Type 0
  Keeps qs = AllByRecursion (IsNamedSequent es) qs

  abbrev taken : List Name
  taken = judgment_locals (out-Term q.conclusion).head (out-Term q.conclusion).args (names_around ds q)

  module _ (t : Bool) (o : OneBody) (a : Around es o) where
    known_named : (k : At) (d : Decision) → NamedAt es k → NamedDecision es d → IsNamedSequent es (known_beside ds t q o k d)
    known_named k d m x = record {
      variables = n.variables;
      memories = all_append (λ m. is_name_text m ≡ true) q.memories (memory_name ds q ∷ []) n.memories (primed_name 109 refl name_m (length taken) (is_among taken), tt);
      modules = n.modules;
      hyps = n.hyps;
      conclusion =
          form_named es (hoare (body k.before) (beside o.side (length q.memories) o.pre) (deciding t d.guard))
          (m.before, changed_named es o.pre (ToSide o.side side.Own ∷ ToSide (other o.side) (side.Memory (length q.memories)) ∷ []) (tt, (tt, tt)) a.pre, deciding_named es t d.guard x.guard);
    }

    decision_keeps : (k : At) → NamedAt es k → (qs : List Sequent) (r : Option Decision) → ((d : Decision) → r ≡ Some d → NamedDecision es d) → by_decision ds t q o k r ≡ given qs → Keeps qs
    decision_keeps k m qs None f e = refused_given Shape qs e
    decision_keeps k m qs (Some d) f e =
        let x = f d refl in
        let rest = all_concluding es q n (o.goal (k.before ++ (d.left ++ k.rest)) o.pre o.post ∷ []) (a.goal (k.before ++ (d.left ++ k.rest)) o.pre o.post (left_named es k d m x) a.pre a.post, tt) in
        subst Keeps (same_given _ qs e) (known_named k d m x, rest)

    place_keep : (i : ℕ) (qs : List Sequent) → at_place ds i t q o ≡ given qs → Keeps qs
    place_keep i qs e =
        place_keeps es Keeps (λ k. by_decision ds t q o k (decision t k.statement (out-Instr k.statement))) qs
        (λ k m h. decision_keeps k m qs (decision t k.statement (out-Instr k.statement)) (λ d u. decision_named es t k.statement m.statement (out-Instr k.statement) refl d u) h) (statement_at i o.list) (λ k u. at_named es i o.list a.list k u) e

    unless_speaking : (b : Bool) (i : ℕ) (qs : List Sequent) → (if b then refusing Shape else at_place ds i t q o) ≡ given qs → Keeps qs
    unless_speaking true i qs e = refused_given Shape qs e
    unless_speaking false i qs e = place_keep i qs e

  body_keeps : (i : ℕ) (t : Bool) (r : Option OneBody) → ((o : OneBody) → r ≡ Some o → Around es o) → (qs : List Sequent) → on_body ds i t q r ≡ given qs → Keeps qs
  body_keeps i t None f qs e = refused_given Shape qs e
  body_keeps i t (Some o) f qs e = unless_speaking t o (f o refl) (speaks o.pre) i qs e

  one_around : (a : Acts) (G : Goal) → IsNamedGoal es G → (o : OneBody) → one_of_two a G ≡ Some o → Around es o
  one_around on.All G h o e = absurd (none-some o e)
  one_around on.Left G h o e = around es on.Left G o e h
  one_around on.Right G h o e = around es on.Right G o e h

  placed_keeps : (place : Place) (qs : List Sequent) (x : Answer (List Sequent)) → ((rs : List Sequent) → x ≡ given rs → Keeps rs) → placed_at place x ≡ given qs → Keeps qs
  placed_keeps place qs (given rs) f e = subst Keeps (same_given rs qs e) (f rs refl)
  placed_keeps place qs (refused w p) f e = refused_at w _ qs e

  pub beside_keeps : (i : ℕ) (t : Bool) (a : Acts) (place : Place) (qs : List Sequent) → beside_answer ds i t a place q ≡ given qs → Keeps qs
  beside_keeps i t a place qs e = step (goal_quantifies_modules q) e
    where
      answer : Answer (List Sequent)
      answer = on_body ds i t q (one_of_two a (goal_of q.conclusion))

      step : (b : Bool) → (if b then refused Shape place else placed_at place answer) ≡ given qs → Keeps qs
      step true e = refused_at Shape place qs e
      step false e = placed_keeps place qs answer (λ rs h. body_keeps i t (one_of_two a (goal_of q.conclusion)) (λ o u. one_around a (goal_of q.conclusion) n.conclusion o u) rs h) e
