use Rattle.std.proofs.Common.{rules, ◌≡◌, ℕ, ◌<◌, List, [], ◌∷◌, length, refl, sym, subst, arith}
use Rattle.gb_core.specs.declared.place.Place.{Place}
use Rattle.gb_goal.specs.Answers.{Answers}
use Rattle.gb_goal.specs.Scope.{Declarations}
use Rattle.gb_goal.specs.declared.sequent.Sequent.{Sequent}
use Rattle.gb_script.specs.declared.head.Head.{Head as Kind}
use Rattle.gb_script.specs.declared.head.Head.TheVariants as text
use Rattle.gb_script.specs.declared.tree.Node.{Node}
use Rattle.gb_elab_mod.specs.Steps.{looping_rule, typed_rule}
use Rattle.gb_elab_mod.proofs.step.typed_rule.Goals as goal
use Rattle.gb_elab_mod.proofs.step.typed_rule.Goals.{in_default-via-in-Proc+then-parts-lt2, in_default-via-in-Proc+else-parts-lt2+else-this-lt3, in_default-via-in-Rnd+then-this-lt1, in_default-via-in-BodyStep+then-this-lt1-2, in_default-via-in-BodyStep+else-this-lt1-2+else-this-lt2, in_default-via-in-Seq+then-this-lt5, in_default-via-in-Seq+else-this-lt5+else-this-lt6, in_default-via-in-Conseq+then-this-lt4, in_default-via-in-Conseq+else-this-lt4+else-this-lt5-2, in_default-via-in-CallStep+then-this-lt2-2, in_default-via-in-CallStep+else-this-lt2-2+else-this-lt3-2, in_default-via-in-Transitivity+then-this-lt2-3, in_default-via-in-Transitivity+else-this-lt2-3+else-this-lt3-3, in_default-via-in-PlainStep+else-this-lt1-3, in_default-via-in-CaseStep+then-this-lt2-4, in_default-via-in-CaseStep+else-this-lt2-4+else-this-lt3-4, in_default-via-in-HaveForm+then-this-lt2-5, in_default-via-in-HaveForm+else-this-lt2-5+else-this-lt3-5, in_default-via-in-Witness+then-this-lt1-4, in_default-via-in-Witness+else-this-lt1-4+else-this-lt2-6, in_default-via-in_default}

-- a step of another shape is as `looping_rule` has it
module _ (ds : Declarations) (q : Sequent) (x : List ℕ) (p : Place) where
  abbrev Falls : Kind → List Node → Type 0
  Falls k ps = typed_rule ds q k x ps p ≡ looping_rule ds q k x ps p

  entering : (ps : List Node) → (length ps ≡ 2 → ⊥) → Falls text.Proc ps
  entering [] n = refl
  entering (a ∷ []) n = refl
  entering (a ∷ b ∷ []) n = absurd (n refl)
  entering (a ∷ b ∷ c ∷ ps) n = refl

  named : (ps : List Node) → (length ps ≡ 1 → ⊥) → Falls text.BodyStep ps
  named [] n = refl
  named (a ∷ []) n = absurd (n refl)
  named (a ∷ b ∷ ps) n = refl

  cutting : (ps : List Node) → (length ps ≡ 5 → ⊥) → Falls text.Seq ps
  cutting [] n = refl
  cutting (a ∷ []) n = refl
  cutting (a ∷ b ∷ []) n = refl
  cutting (a ∷ b ∷ c ∷ []) n = refl
  cutting (a ∷ b ∷ c ∷ d ∷ []) n = refl
  cutting (a ∷ b ∷ c ∷ d ∷ e ∷ []) n = absurd (n refl)
  cutting (a ∷ b ∷ c ∷ d ∷ e ∷ f ∷ ps) n = refl

  weakening : (ps : List Node) → (length ps ≡ 4 → ⊥) → Falls text.Conseq ps
  weakening [] n = refl
  weakening (a ∷ []) n = refl
  weakening (a ∷ b ∷ []) n = refl
  weakening (a ∷ b ∷ c ∷ []) n = refl
  weakening (a ∷ b ∷ c ∷ d ∷ []) n = absurd (n refl)
  weakening (a ∷ b ∷ c ∷ d ∷ e ∷ ps) n = refl

  calling : (ps : List Node) → (length ps ≡ 2 → ⊥) → Falls text.CallStep ps
  calling [] n = refl
  calling (a ∷ []) n = refl
  calling (a ∷ b ∷ []) n = absurd (n refl)
  calling (a ∷ b ∷ c ∷ ps) n = refl

  between : (ps : List Node) → (length ps ≡ 2 → ⊥) → Falls text.Transitivity ps
  between [] n = refl
  between (a ∷ []) n = refl
  between (a ∷ b ∷ []) n = absurd (n refl)
  between (a ∷ b ∷ c ∷ ps) n = refl

  plain : (ps : List Node) → (length ps ≡ 0 → ⊥) → Falls text.PlainStep ps
  plain [] n = absurd (n refl)
  plain (a ∷ ps) n = refl

  by_cases : (ps : List Node) → (length ps ≡ 2 → ⊥) → Falls text.CaseStep ps
  by_cases [] n = refl
  by_cases (a ∷ []) n = refl
  by_cases (a ∷ b ∷ []) n = absurd (n refl)
  by_cases (a ∷ b ∷ c ∷ ps) n = refl

  showing : (ps : List Node) → (length ps ≡ 2 → ⊥) → Falls text.HaveForm ps
  showing [] n = refl
  showing (a ∷ []) n = refl
  showing (a ∷ b ∷ []) n = absurd (n refl)
  showing (a ∷ b ∷ c ∷ ps) n = refl

  taking : (ps : List Node) → (length ps ≡ 1 → ⊥) → Falls text.Witness ps
  taking [] n = refl
  taking (a ∷ []) n = absurd (n refl)
  taking (a ∷ b ∷ ps) n = refl

  drawing : (ps : List Node) → length ps < 1 → Falls text.Rnd ps
  drawing [] h = refl
  drawing (a ∷ ps) h = absurd (omega (arith, h))

  -- the other steps are on loops, use what is known, or are patterns
  other : (n : Kind) (ps : List Node) →
      (n ≡ text.Proc → ⊥) → (n ≡ text.Rnd → ⊥) → (n ≡ text.BodyStep → ⊥) → (n ≡ text.Seq → ⊥) → (n ≡ text.Conseq → ⊥) → (n ≡ text.CallStep → ⊥) → (n ≡ text.Transitivity → ⊥) →
      (n ≡ text.PlainStep → ⊥) → (n ≡ text.CaseStep → ⊥) → (n ≡ text.HaveForm → ⊥) → (n ≡ text.Witness → ⊥) → (n ≡ text.Smt → ⊥) → (n ≡ text.Linear → ⊥) →
      Falls n ps
  other text.Proc ps a b c d e f m g h i j k l = absurd (a refl)
  other text.Rnd ps a b c d e f m g h i j k l = absurd (b refl)
  other text.BodyStep ps a b c d e f m g h i j k l = absurd (c refl)
  other text.Seq ps a b c d e f m g h i j k l = absurd (d refl)
  other text.Conseq ps a b c d e f m g h i j k l = absurd (e refl)
  other text.CallStep ps a b c d e f m g h i j k l = absurd (f refl)
  other text.Transitivity ps a b c d e f m g h i j k l = absurd (m refl)
  other text.PlainStep ps a b c d e f m g h i j k l = absurd (g refl)
  other text.CaseStep ps a b c d e f m g h i j k l = absurd (h refl)
  other text.HaveForm ps a b c d e f m g h i j k l = absurd (i refl)
  other text.Witness ps a b c d e f m g h i j k l = absurd (j refl)
  other text.Smt ps a b c d e f m g h i j k l = absurd (k refl)
  other text.Linear ps a b c d e f m g h i j k l = absurd (l refl)
  other _ ps a b c d e f m g h i j k l = refl

pub returns-in_default : goal.returns-in_default
returns-in_default c =
    let ds = c.args.scope.now in
    let q = c.args.goal.now in
    let k = c.args.head in
    let x = c.args.text.now in
    let ps = c.args.parts.now in
    let p = c.args.place in
    let falls : (j : Kind) → k ≡ j → Falls ds q x p j ps → Falls ds q x p k ps = λ j e h. subst (λ z. Falls ds q x p z ps) (sym e) h in
    let is : Falls ds q x p k ps =
    elim c.in_default.branch [ in_default-via-in-Proc+then-parts-lt2 w ↦ falls text.Proc (search rules) (entering ds q x p ps (λ e. search (rules, e))) | in_default-via-in-Proc+else-parts-lt2+else-this-lt3 w ↦ falls text.Proc (search rules) (entering ds q x p ps (λ e. search (rules, e))) | in_default-via-in-Rnd+then-this-lt1 w ↦ falls text.Rnd (search rules) (drawing ds q x p ps (search rules)) | in_default-via-in-BodyStep+then-this-lt1-2 w ↦ falls text.BodyStep (search rules) (named ds q x p ps (λ e. search (rules, e))) | in_default-via-in-BodyStep+else-this-lt1-2+else-this-lt2 w ↦ falls text.BodyStep (search rules) (named ds q x p ps (λ e. search (rules, e))) | in_default-via-in-Seq+then-this-lt5 w ↦ falls text.Seq (search rules) (cutting ds q x p ps (λ e. search (rules, e))) | in_default-via-in-Seq+else-this-lt5+else-this-lt6 w ↦ falls text.Seq (search rules) (cutting ds q x p ps (λ e. search (rules, e))) | in_default-via-in-Conseq+then-this-lt4 w ↦ falls text.Conseq (search rules) (weakening ds q x p ps (λ e. search (rules, e))) | in_default-via-in-Conseq+else-this-lt4+else-this-lt5-2 w ↦ falls text.Conseq (search rules) (weakening ds q x p ps (λ e. search (rules, e))) | in_default-via-in-CallStep+then-this-lt2-2 w ↦ falls text.CallStep (search rules) (calling ds q x p ps (λ e. search (rules, e))) | in_default-via-in-CallStep+else-this-lt2-2+else-this-lt3-2 w ↦ falls text.CallStep (search rules) (calling ds q x p ps (λ e. search (rules, e))) | in_default-via-in-Transitivity+then-this-lt2-3 w ↦ falls text.Transitivity (search rules) (between ds q x p ps (λ e. search (rules, e))) | in_default-via-in-Transitivity+else-this-lt2-3+else-this-lt3-3 w ↦ falls text.Transitivity (search rules) (between ds q x p ps (λ e. search (rules, e))) | in_default-via-in-PlainStep+else-this-lt1-3 w ↦ falls text.PlainStep (search rules) (plain ds q x p ps (λ e. search (rules, e))) | in_default-via-in-CaseStep+then-this-lt2-4 w ↦ falls text.CaseStep (search rules) (by_cases ds q x p ps (λ e. search (rules, e))) | in_default-via-in-CaseStep+else-this-lt2-4+else-this-lt3-4 w ↦ falls text.CaseStep (search rules) (by_cases ds q x p ps (λ e. search (rules, e))) | in_default-via-in-HaveForm+then-this-lt2-5 w ↦ falls text.HaveForm (search rules) (showing ds q x p ps (λ e. search (rules, e))) | in_default-via-in-HaveForm+else-this-lt2-5+else-this-lt3-5 w ↦ falls text.HaveForm (search rules) (showing ds q x p ps (λ e. search (rules, e))) | in_default-via-in-Witness+then-this-lt1-4 w ↦ falls text.Witness (search rules) (taking ds q x p ps (λ e. search (rules, e))) | in_default-via-in-Witness+else-this-lt1-4+else-this-lt2-6 w ↦ falls text.Witness (search rules) (taking ds q x p ps (λ e. search (rules, e))) | in_default-via-in_default w ↦ other ds q x p k ps (λ e. search (rules, e)) (λ e. search (rules, e)) (λ e. search (rules, e)) (λ e. search (rules, e)) (λ e. search (rules, e)) (λ e. search (rules, e)) (λ e. search (rules, e)) (λ e. search (rules, e)) (λ e. search (rules, e)) (λ e. search (rules, e)) (λ e. search (rules, e)) (λ e. search (rules, e)) (λ e. search (rules, e)) ] in
    subst (λ r. Answers r c.looping_rule.result) (sym is) c.looping_rule.ensures
