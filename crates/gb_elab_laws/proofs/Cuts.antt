-- The form between the parts of bodies that are cut is typed over the locals of the bodies.
use Rattle.std.proofs.Common.{◌≡◌, ℕ, Bool, true, false, if◌then◌else◌, List, [], ◌∷◌, Option, Some, None, refl, ap, sym, ◌∙◌, subst}
use Rattle.std.specs.Prelude.{bytes_eq, codes}
use Rattle.gb_core.specs.declared.place.Place.{Place}
use Rattle.gb_core.specs.declared.ty.Ty.TheVariants as ty
use Rattle.gb_terms.specs.declared.decl.TypedName.{TypedName}
use Rattle.gb_terms.specs.declared.op.Side.TheVariants as side
use Rattle.gb_terms.specs.declared.term.Term.{Term, out-Term}
use Rattle.gb_terms.specs.declared.term.Instr.{Instr}
use Rattle.gb_goal.specs.Scope as scope
use Rattle.gb_goal.specs.Goal.{Goal, goal_of, judges_bodies}
use Rattle.gb_goal.specs.Goal.Code.{body, procedure}
use Rattle.gb_goal.specs.Goal.Goal.{hoare, phoare, equiv, ambient}
use Rattle.gb_goal.specs.declared.sequent.Sequent.{Sequent}
use Rattle.gb_steps.specs.declared.step.Acts.{Acts}
use Rattle.gb_steps.specs.declared.step.Acts.TheVariants as on
use Rattle.gb_steps.specs.declared.step.AmbientRule.{AmbientRule}
use Rattle.gb_steps.specs.declared.step.AmbientRule.TheVariants as conclusion
use Rattle.gb_steps.specs.declared.step.BodyRule.{BodyRule}
use Rattle.gb_steps.specs.declared.step.BodyRule.TheVariants as on_bodies
use Rattle.gb_steps.specs.declared.step.Cut.{Cut}
use Rattle.gb_steps.specs.declared.step.Cut.TheVariants as cut
use Rattle.gb_steps.specs.declared.step.RelationalRule.{RelationalRule}
use Rattle.gb_steps.specs.declared.step.RelationalRule.TheVariants as relational_rule
use Rattle.gb_steps.specs.declared.step.Rule.{Rule}
use Rattle.gb_steps.specs.declared.step.Rule.TheVariants as rule
use Rattle.gb_steps.specs.declared.step.Multiple.{Multiple}
use Rattle.gb_steps.specs.declared.step.Step.{Step}
use Rattle.gb_steps.specs.declared.step.RewriteRule.TheVariants as rewrite_rule
use Rattle.gb_steps.specs.declared.step.UseRule.TheVariants as use_rule
use Rattle.gb_script.specs.declared.head.Head.{Head as Kind}
use Rattle.gb_script.specs.declared.head.Head.TheVariants as text
use Rattle.gb_script.specs.declared.tree.Node.{Node}
use Rattle.gb_script.specs.Tree.{head_of, text_of, parts_of, place_of}
use Rattle.gb_meaning.specs.Declared.{declared}
use Rattle.gb_typing.specs.Context.{Context}
use Rattle.gb_typing.specs.Programs.{IsBody}
use Rattle.gb_typing.specs.Typing.{IsForm}
use Rattle.gb_typing.specs.Sequents.{one, two, of_sequent, IsTypedSequent}
use Rattle.gb_typing.specs.Scopes.{context_of, IsTypedScope}
use Rattle.gb_typing.specs.Goals.{IsGoalOver}
use Rattle.gb_goal.specs.Answers.{not_built}
use Rattle.gb_goal.specs.Answers.Answer.{given}
use Rattle.gb_names.specs.Environment.{relational, unary}
use Rattle.gb_elab.specs.Forms.{elaborated}
use Rattle.gb_elab_mod.specs.Occurring.{occurring}
use Rattle.gb_elab_mod.specs.OnPrograms.{acts, case_by, case_of_bodies, conseq_rule, coupling_rule, couplings, drawing_rule, cut_of, cut_rule, functions_of, of_bodies_rule, on_all, plain_rule, seq_rule, both_rule, chance_rule, judges_chance, kept_by, said_of_bodies, while_rule}
use Rattle.gb_elab_mod.specs.Steps.{case_of_conclusion, case_rule, conclusion_rule, formed, sided_case_rule, step_given, typed_rule, witness_rule}
use Rattle.gb_elab_mod.specs.Multiples.{hypothesis_at, multiples, position}
use Rattle.gb_elab_mod.specs.Uses.{all_hinted, defined_operator, hypothesis, used}
use Rattle.gb_elab_mod.specs.Taken.{new_name}
use Rattle.gb_elab_prog.specs.Unbuilt.{absent}
use Rattle.gb_bodies.specs.Case.{IsTypedCase}
use Rattle.gb_bodies.specs.Rows.{IsTypedRule}
use Rattle.gb_elab_laws.proofs.Betweens.{of_transitive}
use Rattle.gb_elab_laws.proofs.Anew.{conseq_rule_typed}
use Rattle.gb_elab_laws.proofs.Contracts.{of_call}
use Rattle.gb_elab_laws.proofs.Keeping.{of_entering}
use Rattle.gb_elab_laws.proofs.Conditions.{of_by}
use Rattle.gb_elab_laws.proofs.Transformings.{of_inlining, of_passing, of_placed}
use Rattle.gb_elab_laws.proofs.EventLaws.{of_event_law, of_splitting}
use Rattle.gb_elab_laws.proofs.Given.{given_bind, given_is, not_given}
use Rattle.gb_elab_laws.proofs.Ends.{AreOfTheirTypes, occurring_in}
use Rattle.gb_elab_laws.proofs.Fits.{goal_fits, one_fits, two_fit}
use Rattle.gb_elab_laws.proofs.Forms.{elaborated_typed}
use Rattle.gb_elab_laws.proofs.Occurring.{reads_stand}

module _ (ds : scope.Declarations) (scoped : IsTypedScope (declared ds)) (q : Sequent) (t : IsTypedSequent (context_of (declared ds)) q) (ls rs : List TypedName) where
  abbrev here : Context
  here = of_sequent (context_of (declared ds)) q t.frames

  abbrev Typed : Goal → BodyRule → Type 0
  Typed G r = IsTypedRule here (rule.OnBodies r) ls rs G

  known : AreOfTheirTypes here ds
  known = (goal_fits ds scoped q t).procedures refl

  -- a form over the locals that occur in a judgment of bodies is typed over those of the bodies
  said_of_one : (is : List Instr) (p g : Term) → IsBody here ls is → IsForm (one here ls) p → IsForm (one here ls) g → (n : Node) (f : Term) →
      elaborated n (unary ds q (occurring ds (p ∷ g ∷ []) side.Own is)) [] (Some ty.Bool) ≡ given f → IsForm (one here ls) f
  said_of_one is p g over before after n f h =
      let xs = occurring ds (p ∷ g ∷ []) side.Own is in
      let fits = one_fits ds scoped q t ls xs (occurring_in ls here ds known side.Own p g is (reads_stand (one here ls) p before.typed side.Own tt) (reads_stand (one here ls) g after.typed side.Own tt) over) in
      let e = elaborated_typed n (one here ls) (unary ds q xs) [] fits (Some ty.Bool) tt f h in
      record { typed = e.typed; truth = e.wanted }

  said_of_two : (is js : List Instr) (p g : Term) → IsBody here ls is → IsBody here rs js → IsForm (two here ls rs) p → IsForm (two here ls rs) g → (n : Node) (f : Term) →
      elaborated n (relational ds q (occurring ds (p ∷ g ∷ []) side.Left is) (occurring ds (p ∷ g ∷ []) side.Right js)) [] (Some ty.Bool) ≡ given f → IsForm (two here ls rs) f
  said_of_two is js p g left right before after n f h =
      let xs = occurring ds (p ∷ g ∷ []) side.Left is in
      let ys = occurring ds (p ∷ g ∷ []) side.Right js in
      let fits =
      two_fit ds scoped q t ls rs xs ys
      (occurring_in ls here ds known side.Left p g is (reads_stand (two here ls rs) p before.typed side.Left tt) (reads_stand (two here ls rs) g after.typed side.Left tt) left)
      (occurring_in rs here ds known side.Right p g js (reads_stand (two here ls rs) p before.typed side.Right tt) (reads_stand (two here ls rs) g after.typed side.Right tt) right) in
      let e = elaborated_typed n (two here ls rs) (relational ds q xs ys) [] fits (Some ty.Bool) tt f h in
      record { typed = e.typed; truth = e.wanted }

  cut_typed : (G : Goal) → IsGoalOver here ls rs G → (k : Cut) (n : Node) (r : BodyRule) → cut_rule ds q k n G ≡ given r → Typed G r
  unfolding cut_rule
  cut_typed (hoare (body is) p g) w (cut.One k) n r h =
      let f = given_bind (elaborated n (unary ds q (occurring ds (p ∷ g ∷ []) side.Own is)) [] (Some ty.Bool)) (λ f. given (on_bodies.Seq (cut.One k) f)) r h in
      subst (Typed (hoare (body is) p g)) {x = on_bodies.Seq (cut.One k) f.0} (given_is (on_bodies.Seq (cut.One k) f.0) r f.2) (said_of_one is p g w.0 w.1 w.2 n f.0 f.1)
  cut_typed (equiv (body is) (body js) p g) w (cut.Two k l) n r h =
      let f = given_bind (elaborated n (relational ds q (occurring ds (p ∷ g ∷ []) side.Left is) (occurring ds (p ∷ g ∷ []) side.Right js)) [] (Some ty.Bool)) (λ f. given (on_bodies.Seq (cut.Two k l) f)) r h in
      subst (Typed (equiv (body is) (body js) p g)) {x = on_bodies.Seq (cut.Two k l) f.0} (given_is (on_bodies.Seq (cut.Two k l) f.0) r f.2) (said_of_two is js p g w.1 w.2 w.3 w.4 n f.0 f.1)
  cut_typed (hoare (body is) p g) w (cut.Two k l) n r h = subst (Typed (hoare (body is) p g)) (given_is on_bodies.Unfit r h) tt
  cut_typed (hoare (procedure a) p g) w (cut.One k) n r h = subst (Typed (hoare (procedure a) p g)) (given_is on_bodies.Unfit r h) tt
  cut_typed (hoare (procedure a) p g) w (cut.Two k l) n r h = subst (Typed (hoare (procedure a) p g)) (given_is on_bodies.Unfit r h) tt
  cut_typed (phoare a o p g b) w (cut.One k) n r h = subst (Typed (phoare a o p g b)) (given_is on_bodies.Unfit r h) tt
  cut_typed (phoare a o p g b) w (cut.Two k l) n r h = subst (Typed (phoare a o p g b)) (given_is on_bodies.Unfit r h) tt
  cut_typed (equiv (procedure a) b p g) w (cut.One k) n r h = subst (Typed (equiv (procedure a) b p g)) (given_is on_bodies.Unfit r h) tt
  cut_typed (equiv (procedure a) b p g) w (cut.Two k l) n r h = subst (Typed (equiv (procedure a) b p g)) (given_is on_bodies.Unfit r h) tt
  cut_typed (equiv (body is) (procedure b) p g) w (cut.One k) n r h = subst (Typed (equiv (body is) (procedure b) p g)) (given_is on_bodies.Unfit r h) tt
  cut_typed (equiv (body is) (procedure b) p g) w (cut.Two k l) n r h = subst (Typed (equiv (body is) (procedure b) p g)) (given_is on_bodies.Unfit r h) tt
  cut_typed (ambient f) w (cut.One k) n r h = subst (Typed (ambient f)) (given_is on_bodies.Unfit r h) tt
  cut_typed (ambient f) w (cut.Two k l) n r h = subst (Typed (ambient f)) (given_is on_bodies.Unfit r h) tt
  cut_typed (equiv (body is) (body js) p g) w (cut.One k) n r h = subst (Typed (equiv (body is) (body js) p g)) (given_is on_bodies.Unfit r h) tt

  -- what is said of the bodies of a judgment is typed over their locals
  abbrev IsSaid : Goal → Option Term → Type 0
  IsSaid G (Some f) = IsTypedCase here f ls rs G
  IsSaid G None = Unit {0}

  said_typed : (G : Goal) → IsGoalOver here ls rs G → (n : Node) (o : Option Term) → said_of_bodies ds q n G ≡ given o → IsSaid G o
  unfolding said_of_bodies
  said_typed (hoare (body is) p g) w n o h =
      let f = given_bind (elaborated n (unary ds q (occurring ds (p ∷ g ∷ []) side.Own is)) [] (Some ty.Bool)) (λ (f : Term). given (Some f)) o h in
      subst (IsSaid (hoare (body is) p g)) {x = Some f.0} (given_is (Some f.0) o f.2) (said_of_one is p g w.0 w.1 w.2 n f.0 f.1)
  said_typed (phoare (body is) r p g b) w n o h =
      let f = given_bind (elaborated n (unary ds q (occurring ds (p ∷ g ∷ []) side.Own is)) [] (Some ty.Bool)) (λ (f : Term). given (Some f)) o h in
      subst (IsSaid (phoare (body is) r p g b)) {x = Some f.0} (given_is (Some f.0) o f.2) (said_of_one is p g w.0 w.1 w.2 n f.0 f.1)
  said_typed (equiv (body is) (body js) p g) w n o h =
      let f = given_bind (elaborated n (relational ds q (occurring ds (p ∷ g ∷ []) side.Left is) (occurring ds (p ∷ g ∷ []) side.Right js)) [] (Some ty.Bool)) (λ (f : Term). given (Some f)) o h in
      subst (IsSaid (equiv (body is) (body js) p g)) {x = Some f.0} (given_is (Some f.0) o f.2) (said_of_two is js p g w.1 w.2 w.3 w.4 n f.0 f.1)
  said_typed (hoare (procedure a) p g) w n o h = subst (IsSaid (hoare (procedure a) p g)) (given_is None o h) tt
  said_typed (phoare (procedure a) r p g b) w n o h = subst (IsSaid (phoare (procedure a) r p g b)) (given_is None o h) tt
  said_typed (equiv (procedure a) b p g) w n o h = subst (IsSaid (equiv (procedure a) b p g)) (given_is None o h) tt
  said_typed (equiv (body is) (procedure b) p g) w n o h = subst (IsSaid (equiv (body is) (procedure b) p g)) (given_is None o h) tt
  said_typed (ambient f) w n o h = subst (IsSaid (ambient f)) (given_is None o h) tt

  case_made : (G : Goal) (o : Option Term) → IsSaid G o → Typed G (case_by o)
  case_made G (Some f) w = w
  case_made G None w = tt

  bodies_typed : (G : Goal) → IsGoalOver here ls rs G → (n : Node) (r : BodyRule) → case_of_bodies ds q n G ≡ given r → Typed G r
  bodies_typed G w n r h =
      let o = given_bind (said_of_bodies ds q n G) (λ f. given (case_by f)) r h in
      subst (Typed G) (given_is (case_by o.0) r o.2) (case_made G o.0 (said_typed G w n o.0 o.1))

  seq_typed : (G : Goal) → IsGoalOver here ls rs G → goal_of q.conclusion ≡ G → (a : Acts) (k : Cut) (n : Node) (r : BodyRule) → seq_rule ds q a k n ≡ given r → Typed G r
  seq_typed G w e on.All k n r h = cut_typed G w k n r (sym (ap (cut_rule ds q k n) e) ∙ h)
  seq_typed G w e on.Left k n r h = subst (Typed G) (given_is on_bodies.Unfit r h) tt
  seq_typed G w e on.Right k n r h = subst (Typed G) (given_is on_bodies.Unfit r h) tt

  -- rules without a form
  all_typed : (G : Goal) (a : Acts) (r : BodyRule) → Typed G r → Typed G (on_all a r)
  all_typed G on.All r h = h
  all_typed G on.Left r h = tt
  all_typed G on.Right r h = tt

  plain_typed : (G : Goal) (x : List ℕ) (a : Acts) (p : Place) (r : BodyRule) → plain_rule x a p ≡ given r → Typed G r
  plain_typed G x a p r h = step (bytes_eq x (codes "skip")) (bytes_eq x (codes "if")) (bytes_eq x (codes "wp")) h
    where
      step : (s i v : Bool) → (if s then given (on_all a on_bodies.Skip) else if i then given (on_bodies.If a) else if v then given (on_bodies.Wp a) else not_built p) ≡ given r → Typed G r
      step true i v k = subst (Typed G) (given_is (on_all a on_bodies.Skip) r k) (all_typed G a on_bodies.Skip tt)
      step false true v k = subst (Typed G) (given_is (on_bodies.If a) r k) tt
      step false false true k = subst (Typed G) (given_is (on_bodies.Wp a) r k) tt
      step false false false k = cc

  abbrev TypedAt : Rule → Type 0
  TypedAt k = IsTypedRule here k ls rs (goal_of q.conclusion)

  -- whether the goal has a probability
  abbrev with_chance : Bool
  with_chance = judges_chance (out-Term q.conclusion).head

  coupling_typed : (b : Bool) (fs : List Node) (us : List Term) → TypedAt (coupling_rule b fs us)
  coupling_typed true [] us = tt
  coupling_typed false [] us = tt
  coupling_typed true (f ∷ fs) [] = tt
  coupling_typed false (f ∷ fs) [] = tt
  coupling_typed true (f ∷ fs) (u ∷ us) = tt
  coupling_typed false (f ∷ fs) (u ∷ us) = tt

  chance_typed : (a : Acts) → TypedAt (chance_rule a)
  chance_typed on.All = tt
  chance_typed on.Left = tt
  chance_typed on.Right = tt

  both_typed : (r : RelationalRule) (a : Acts) → TypedAt (both_rule r a)
  both_typed r on.All = tt
  both_typed r on.Left = tt
  both_typed r on.Right = tt

  name_typed : (x : List ℕ) (a : Acts) (p : Place) (k : Rule) (b d e : Bool) →
      (if b then given (chance_rule a) else if d then given (both_rule relational_rule.Symmetry a) else if e then given (both_rule relational_rule.Sim a) else of_bodies_rule (plain_rule x a p)) ≡ given k → TypedAt k
  name_typed x a p k true d e h = subst TypedAt (given_is (chance_rule a) k h) (chance_typed a)
  name_typed x a p k false true e h = subst TypedAt (given_is (both_rule relational_rule.Symmetry a) k h) (both_typed relational_rule.Symmetry a)
  name_typed x a p k false false true h = subst TypedAt (given_is (both_rule relational_rule.Sim a) k h) (both_typed relational_rule.Sim a)
  name_typed x a p k false false false h =
      let y = given_bind (plain_rule x a p) (λ z. given (rule.OnBodies z)) k h in
      subst TypedAt (given_is (rule.OnBodies y.0) k y.2) (plain_typed (goal_of q.conclusion) x a p y.0 y.1)

  kept_typed : (a : Acts) (o : Option Term) → IsSaid (goal_of q.conclusion) o → TypedAt (kept_by a o)
  kept_typed a (Some f) w = w
  kept_typed a None w = tt

  module _ (w : IsGoalOver here ls rs (goal_of q.conclusion)) where
    while_typed : (a : Acts) (n : Node) (k : Rule) → while_rule ds q a n ≡ given k → TypedAt k
    while_typed a n k h =
        let o = given_bind (said_of_bodies ds q n (goal_of q.conclusion)) (λ f. given (kept_by a f)) k h in
        subst TypedAt (given_is (kept_by a o.0) k o.2) (kept_typed a o.0 (said_typed (goal_of q.conclusion) w n o.0 o.1))

    case_typed : (f : Node) (k : Rule) → case_rule ds q f ≡ given k → TypedAt k
    case_typed f k h = step (judges_bodies (out-Term q.conclusion).head) h
      where
        step : (b : Bool) → (if b then of_bodies_rule (case_of_bodies ds q f (goal_of q.conclusion)) else case_of_conclusion ds q f) ≡ given k → TypedAt k
        step true h =
            let y = given_bind (case_of_bodies ds q f (goal_of q.conclusion)) (λ z. given (rule.OnBodies z)) k h in
            subst TypedAt (given_is (rule.OnBodies y.0) k y.2) (bodies_typed (goal_of q.conclusion) w f y.0 y.1)
        step false h =
            let z = given_bind (formed ds q f) (λ (t : Term). given (rule.Ambient (conclusion.Case t))) k h in
            subst TypedAt (given_is (rule.Ambient (conclusion.Case z.0)) k z.2) tt

    sides_typed : (a : Acts) (f : Node) (k : Rule) → sided_case_rule ds q a f ≡ given k → TypedAt k
    sides_typed on.All f k h = case_typed f k h
    sides_typed on.Left f k h = subst TypedAt (given_is (rule.OnBodies on_bodies.Unfit) k h) tt
    sides_typed on.Right f k h = subst TypedAt (given_is (rule.OnBodies on_bodies.Unfit) k h) tt

    of_drawing : (a : Acts) (fs : List Node) (k : Rule) → drawing_rule ds q a fs ≡ given k → TypedAt k
    unfolding drawing_rule
    of_drawing on.All fs k h =
        let y = given_bind (couplings ds q fs) (λ us. given (coupling_rule with_chance fs us)) k h in
        subst TypedAt (given_is (coupling_rule with_chance fs y.0) k y.2) (coupling_typed with_chance fs y.0)
    of_drawing on.Left [] k h = subst TypedAt (given_is (rule.Relational (relational_rule.Drawn on.Left)) k h) tt
    of_drawing on.Left (f ∷ fs) k h = subst TypedAt (given_is (rule.OnBodies on_bodies.Unfit) k h) tt
    of_drawing on.Right [] k h = subst TypedAt (given_is (rule.Relational (relational_rule.Drawn on.Right)) k h) tt
    of_drawing on.Right (f ∷ fs) k h = subst TypedAt (given_is (rule.OnBodies on_bodies.Unfit) k h) tt

    of_rule : (n : Kind) (x : List ℕ) (xs : List Node) (p : Place) (k : Rule) → typed_rule ds q n x xs p ≡ given k → TypedAt k
    of_rule text.Transitivity x (b ∷ n ∷ []) p k h = of_transitive ds q TypedAt (λ u. tt) tt (acts (parts_of b)) (head_of n) (parts_of n) p k h
    of_rule text.Rnd x (b ∷ fs) p k h = of_drawing (acts (parts_of b)) (functions_of fs) k h
    of_rule text.Proc x (b ∷ i ∷ []) p k h =
        of_entering ds q TypedAt (λ a. all_typed (goal_of q.conclusion) a on_bodies.Proc tt) (λ n f e. tt) tt (acts (parts_of b)) (parts_of i) p k h
    of_rule text.BodyStep x (b ∷ []) p k h = name_typed x (acts (parts_of b)) p k (bytes_eq x (codes "hoare")) (bytes_eq x (codes "symmetry")) (bytes_eq x (codes "sim")) h
    of_rule text.Seq x (b ∷ n ∷ ns ∷ f ∷ bounds ∷ []) p k h =
        let o = given_bind (absent (parts_of bounds) p) (λ _. of_bodies_rule (seq_rule ds q (acts (parts_of b)) (cut_of n (parts_of ns)) f)) k h in
        let y = given_bind (seq_rule ds q (acts (parts_of b)) (cut_of n (parts_of ns)) f) (λ z. given (rule.OnBodies z)) k o.2 in
        subst TypedAt (given_is (rule.OnBodies y.0) k y.2) (seq_typed (goal_of q.conclusion) w refl (acts (parts_of b)) (cut_of n (parts_of ns)) f y.0 y.1)
    of_rule text.Conseq x (b ∷ f ∷ g ∷ d ∷ []) p k h =
        let y = given_bind (conseq_rule ds q (acts (parts_of b)) (parts_of f) (parts_of g) (parts_of d)) (λ z. given (rule.OnBodies z)) k h in
        subst TypedAt (given_is (rule.OnBodies y.0) k y.2) (conseq_rule_typed ds scoped q t ls rs (goal_of q.conclusion) w refl (acts (parts_of b)) (parts_of f) (parts_of g) (parts_of d) y.0 y.1)
    of_rule text.CallStep x (b ∷ n ∷ []) p k h = of_call ds q TypedAt (λ s. tt) (λ a n f e. tt) (λ n f e. tt) (λ m n u e. tt) tt (acts (parts_of b)) (head_of n) (parts_of n) p k h
    of_rule text.PlainStep x [] p k h =
        let o = given_bind (conclusion_rule x p) (λ (a : AmbientRule). given (rule.Ambient a)) k h in subst TypedAt (given_is (rule.Ambient o.0) k o.2) tt
    of_rule text.WhileStep x (b ∷ f ∷ []) p k h = while_typed (acts (parts_of b)) f k h
    of_rule text.Inline x (b ∷ n ∷ []) p k h = of_inlining TypedAt (λ a t. tt) ds q (acts (parts_of b)) (parts_of n) p k h
    of_rule text.ByStep x (m ∷ n ∷ []) p k h = of_by ds q m n TypedAt (λ b e z g. tt) (λ b e z g. tt) tt x p k h
    of_rule text.CaseStep x (b ∷ f ∷ []) p k h =
        sides_typed (acts (parts_of b)) f k h
    of_rule text.HaveForm x (n ∷ f ∷ []) p k h =
        let o = given_bind (new_name ds q (text_of n) (place_of n)) _ k h in
        let z = given_bind (formed ds q f) (λ (t : Term). given (rule.Ambient (conclusion.Have (text_of n) t))) k o.2 in
        subst TypedAt (given_is (rule.Ambient (conclusion.Have (text_of n) z.0)) k z.2) tt
    of_rule text.ApplyLemma x (n ∷ []) p k h =
        let z = given_bind (used ds q n) (λ (f : Term). given (rule.Use (use_rule.Apply f))) k h in
        subst TypedAt (given_is (rule.Use (use_rule.Apply z.0)) k z.2) tt
    of_rule text.HaveLemma x (m ∷ n ∷ []) p k h =
        let o = given_bind (new_name ds q (text_of m) (place_of m)) _ k h in
        let z = given_bind (used ds q n) (λ (f : Term). given (rule.Use (use_rule.Have (text_of m) f))) k o.2 in
        subst TypedAt (given_is (rule.Use (use_rule.Have (text_of m) z.0)) k z.2) tt
    of_rule text.RewriteLemma x (n ∷ []) p k h =
        let z = given_bind (used ds q n) (λ (f : Term). given (rule.Rewrite (rewrite_rule.Forward f))) k h in
        subst TypedAt (given_is (rule.Rewrite (rewrite_rule.Forward z.0)) k z.2) tt
    of_rule text.RewriteBack x (n ∷ []) p k h =
        let z = given_bind (used ds q n) (λ (f : Term). given (rule.Rewrite (rewrite_rule.Back f))) k h in
        subst TypedAt (given_is (rule.Rewrite (rewrite_rule.Back z.0)) k z.2) tt
    of_rule text.RewriteHypothesis x (n ∷ []) p k h =
        let z = given_bind (hypothesis ds q (text_of n) (place_of n)) (λ (f : Term). given (rule.Rewrite (rewrite_rule.Forward f))) k h in
        subst TypedAt (given_is (rule.Rewrite (rewrite_rule.Forward z.0)) k z.2) tt
    of_rule text.Subst x (n ∷ []) p k h =
        let z = given_bind (hypothesis_at ds q (text_of n) (place_of n)) (λ (i : ℕ). given (rule.Rewrite (rewrite_rule.Subst i))) k h in
        subst TypedAt (given_is (rule.Rewrite (rewrite_rule.Subst z.0)) k z.2) tt
    of_rule text.RewriteOperator x (n ∷ []) p k h =
        let z = given_bind (defined_operator ds q n) (λ (y : List ℕ). given (rule.Rewrite (rewrite_rule.Unfold y))) k h in
        subst TypedAt (given_is (rule.Rewrite (rewrite_rule.Unfold z.0)) k z.2) tt
    of_rule text.RewriteLaw x [] p k h = of_event_law TypedAt (λ l n. tt) (λ r. tt) (λ r. tt) x p k h
    of_rule text.RewriteSplit x (e ∷ []) p k h = of_splitting ds q e TypedAt (λ f i u g. tt) tt k h
    of_rule text.Smt x hints p k h =
        let o = given_bind (all_hinted ds q hints) (λ (fs : List Term). given (rule.Smt fs)) k h in subst TypedAt (given_is (rule.Smt o.0) k o.2) tt
    of_rule text.Linear x hs p k h =
        let o = given_bind (multiples ds q hs) (λ (ms : List Multiple). given (rule.Linear ms)) k h in subst TypedAt (given_is (rule.Linear o.0) k o.2) tt
    of_rule text.Name x [] p k h = subst TypedAt (given_is (rule.Ambient (conclusion.Introduce x)) k h) tt
    of_rule text.Memory x (n ∷ []) p k h = subst TypedAt (given_is (rule.Ambient (conclusion.IntroduceMemory (text_of n))) k h) tt
    of_rule text.Drop x [] p k h = subst TypedAt (given_is (rule.Ambient conclusion.Discard) k h) tt
    of_rule text.BothPatterns x ps p k h = subst TypedAt (given_is (rule.Ambient conclusion.Unpack) k h) tt
    of_rule text.EitherPattern x ps p k h = subst TypedAt (given_is (rule.Ambient conclusion.Branch) k h) tt
    of_rule text.Witness x (e ∷ []) p k h =
        let o = given_bind (witness_rule ds q e) (λ (a : AmbientRule). given (rule.Ambient a)) k h in subst TypedAt (given_is (rule.Ambient o.0) k o.2) tt
    of_rule text.TrivialPattern x [] p k h = subst TypedAt (given_is (rule.Ambient conclusion.Trivial) k h) tt
    of_rule text.SmtPattern x [] p k h = subst TypedAt (given_is (rule.Smt []) k h) tt
    of_rule text.Swap x (b ∷ n ∷ d ∷ []) p k h = of_passing TypedAt (λ a t. tt) (acts (parts_of b)) n (head_of d) (parts_of d) p k h
    of_rule text.PositionStep x (b ∷ n ∷ []) p k h = of_placed TypedAt (λ a t. tt) x (acts (parts_of b)) (position n) p k h
    of_rule _ x _ p k h = absurd (not_given _ _ k h)

-- The arguments of a typed step of a rule on programs are typed.
pub body_typed : (ds : scope.Declarations) → IsTypedScope (declared ds) → (q : Sequent) (t : IsTypedSequent (context_of (declared ds)) q) → (n : Node) (s : Step) → step_given ds q n ≡ given s →
    (ls rs : List TypedName) → IsGoalOver (of_sequent (context_of (declared ds)) q t.frames) ls rs (goal_of q.conclusion) →
    IsTypedRule (of_sequent (context_of (declared ds)) q t.frames) s.rule ls rs (goal_of q.conclusion)
unfolding step_given
body_typed ds scoped q t n s h ls rs w =
    let x = given_bind (typed_rule ds q (head_of n) (text_of n) (parts_of n) (place_of n)) (λ (k : Rule). given (record { rule = k; place = place_of n })) s h in
    subst (λ (s : Step). IsTypedRule (of_sequent (context_of (declared ds)) q t.frames) s.rule ls rs (goal_of q.conclusion)) (given_is (record { rule = x.0; place = place_of n }) s x.2)
    (of_rule ds scoped q t ls rs w (head_of n) (text_of n) (parts_of n) (place_of n) x.0 x.1)
