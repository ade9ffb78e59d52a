-- Conclusions that are changed by what keeps types and meanings: they are typed, and true where they were.
use Rattle.std.proofs.Common.{◌≡◌, false, List, [], ◌∷◌, map, Some, None, refl, ap, sym, ◌∙◌, subst}
use Rattle.gb_core.specs.declared.ty.Ty.TheVariants as ty
use Rattle.gb_terms.specs.declared.decl.TypedName.{TypedName}
use Rattle.gb_terms.specs.declared.op.Rel.{Rel}
use Rattle.gb_terms.specs.declared.term.Instr.{Instr}
use Rattle.gb_terms.specs.declared.term.Term.{Term}
use Rattle.gb_terms.specs.declared.term.Head.{Head}
use Rattle.gb_terms.specs.declared.term.Head.TheVariants as head
use Rattle.gb_terms.specs.declared.term.Head.TheVariants.{Proc}
use Rattle.gb_terms.specs.Make.{node}
use Rattle.gb_goal.specs.Goal.{Goal, subject_of, form_of, goal_of}
use Rattle.gb_goal.specs.Goal.Code.{body, procedure}
use Rattle.gb_goal.specs.Goal.Goal.{hoare, phoare, equiv, ambient}
use Rattle.gb_meaning.specs.Meanings.{of_truth, truth}
use Rattle.gb_meaning.specs.Setting.{Setting}
use Rattle.gb_meaning.specs.State.{State}
use Rattle.gb_meaning.specs.Terms.{val}
use Rattle.gb_meaning.specs.Judgments.{Judge, IsFair, speaking, den}
use Rattle.gb_meaning.specs.Written.{type_of}
use Rattle.gb_meaning.proofs.Nodes.{term_is_node, val_node}
use Rattle.gb_meaning.specs.Truth.{has_module}
use Rattle.gb_typing.specs.Changes.{Made}
use Rattle.gb_typing.specs.Context.{Context, with_own, with_sides}
use Rattle.gb_typing.specs.Typing.{IsTyped, IsForm}
use Rattle.gb_typing.specs.Fits.{IsSettingOf, IsStateOf}
use Rattle.gb_typing.specs.Sequents.{IsConclusion}
use Rattle.gb_typing.proofs.Made.{parts_typed}
use Rattle.gb_typing.proofs.Sound.{Procedures, procedures_sound}
use Rattle.gb_typing.specs.Rules.{outermost}
use Rattle.gb_typing.specs.Goals.{IsGoalOver}
use Rattle.gb_typing.proofs.TypedGoals.{conclusion_goal, goal_conclusion, goal_front}
use Rattle.gb_typing.proofs.Exact.{code_sound}
use Rattle.gb_typing.proofs.Shapes.{goal_form}
use Rattle.gb_rewrite.proofs.Kept.{IsInside}
use Rattle.gb_smt_laws.proofs.Alike.{truth_alike}
use Rattle.gb_rewrite.proofs.Deep.{IsAt, AreDeep, hoare_same, phoare_same, equiv_same}

-- a typed conclusion that is as true as another one, in each setting and state of a kind
pub record IsMoved (c : Context) (At : Setting → Judge → State → Type 0) (x y : Term) : Type 0 where
  pub typed : IsConclusion c y
  pub front : has_module y ≡ false
  pub same : (g : Setting) → IsSettingOf c g → (j : Judge) → IsFair g j → (s : State) → IsStateOf c g s → At g j s → den g j y s ≡ den g j x s

abbrev pub IsJudgment : Head → Type 0
IsJudgment (head.Hoare s) = Unit {0}
IsJudgment (head.Phoare s r) = Unit {0}
IsJudgment (head.Equiv s u) = Unit {0}
IsJudgment h = ⊥

-- Terms in a relation to those of a list
abbrev pub AllBecome : (Term → Term → Type 0) → List Term → List Term → Type 0
AllBecome R [] [] = Unit {0}
AllBecome R (t ∷ ts) (x ∷ xs) = R t x × AllBecome R ts xs
AllBecome R _ _ = ⊥

-- What terms become, of the same types, which means the same in settings and states of a kind. Of judgments of bodies, which are no
-- typed terms, the parts become others.
pub record Keeps (o : Context) (Becomes : Term → Term → Type 0) (At : Setting → Judge → State → Type 0) : Type 0 where
  pub made : (d : Context) → IsInside o d → (t x : Term) → Becomes t x → IsTyped d t → Made d (type_of t) x
  pub deep : (g : Setting) → IsSettingOf (outermost o) g → (j : Judge) → IsFair g j → (s : State) → At g j s → (d : Context) → IsInside o d → Procedures g d →
      (t x : Term) → Becomes t x → IsTyped d t → AreDeep o g j s d x t
  pub judgment : (h : Head) (ts : List Term) → IsJudgment h → (IsTyped (outermost o) (node h ts ty.Bool) → ⊥) → (x : Term) → Becomes (node h ts ty.Bool) x →
      (us : List Term) × (x ≡ node h us ty.Bool) × AllBecome Becomes ts us

module _ (o : Context) (Becomes : Term → Term → Type 0) (At : Setting → Judge → State → Type 0) (kept : Keeps o Becomes At) where
  abbrev c : Context
  c = outermost o

  abbrev Moves : Term → Term → Type 0
  Moves t x = IsMoved c At t x

  form_inside : (d : Context) → outermost d ≡ c → (f x : Term) → Becomes f x → IsForm d f → IsForm d x
  form_inside d i f x b w =
      let m = kept.made d i f x b w.typed in
      record { typed = m.typed; truth = m.written ∙ w.truth }

  -- a state of the goal is one of its context
  here : (g : Setting) → IsSettingOf c g → (j : Judge) (s : State) → IsStateOf c g s → IsAt o g j s c s
  here g fits j s fit = record { inside = refl; setting = fits; state = fit; like = (refl, refl) }

  pub form_becomes : (f x : Term) → Becomes f x → IsForm c f → Moves f x
  form_becomes f x b w =
      let v = form_inside c refl f x b w in
      record {
        typed = goal_conclusion c [] [] (ambient x) v;
        front = goal_front c [] [] (ambient x) v;
        same = λ g fits j fair s placed e.
            truth_alike (val g (speaking g j) x s) (val g (speaking g j) f s)
            ((kept.deep g fits j fair s e c refl (procedures_sound c g fits) f x b w.typed).alike s (here g fits j s placed));
      }

  -- Judgments of bodies, which are no typed forms.
  module _ (h : Head) (ts us : List Term) where
    judgment_becomes : (y : Term) → y ≡ node h us ty.Bool → IsConclusion c (node h us ty.Bool) → has_module (node h us ty.Bool) ≡ false →
        ((g : Setting) → IsSettingOf c g → (j : Judge) → IsFair g j → (s : State) → IsStateOf c g s → At g j s →
        val g (speaking g j) (node h us ty.Bool) s ≡ val g (speaking g j) (node h ts ty.Bool) s) →
        Moves (node h ts ty.Bool) y
    judgment_becomes y is w n same = record {
      typed = subst (IsConclusion c) (sym is) w;
      front = ap has_module is ∙ n;
      same = λ g fits j fair s placed e.
          ap (λ x. den g j x s) is ∙ ap truth (same g fits j fair s placed e);
    }

  hoare_becomes : (ls : List TypedName) (is : List Instr) (p q : Term) → IsGoalOver c ls ls (hoare (body is) p q) → (y : Term) (us : List Term) →
      y ≡ node (head.Hoare (subject_of (body is))) us ty.Bool → AllBecome Becomes (p ∷ q ∷ []) us → Moves (form_of (hoare (body is) p q)) y
  hoare_becomes ls is p q w y [] e b = absurd b
  hoare_becomes ls is p q w y (v ∷ []) e b = absurd b.1
  hoare_becomes ls is p q w y (v ∷ z ∷ x ∷ us) e b = absurd b.1.1
  hoare_becomes ls is p q w y (a ∷ k ∷ []) e b =
      let h = head.Hoare (subject_of (body is)) in
      let x = with_own c (Some ls) in
      let G = hoare (body is) a k in
      let v : IsGoalOver c ls ls G = (w.0, form_inside x refl p a b.0 w.1, form_inside x refl q k b.1.0 w.2) in
      judgment_becomes h (p ∷ q ∷ []) (a ∷ k ∷ []) y e (goal_conclusion c ls ls G v) (goal_front c ls ls G v)
      (λ g fits j fair s placed e.
      let deep = kept.deep g fits j fair s e x refl (procedures_sound c g fits) in
      val_node g (speaking g j) h (a ∷ k ∷ []) ty.Bool s
      ∙ ap of_truth
      (hoare_same o g j s fair c s (here g fits j s placed) (subject_of (body is)) (Some ls) (Some ls) (Some ls) (a ∷ k ∷ []) (p ∷ q ∷ []) ty.Bool
      (code_sound c g fits ls (body is) w.0) (w.1.truth, (w.2.truth, tt)) (deep p a b.0 w.1.typed, deep q k b.1.0 w.2.typed))
      ∙ sym (val_node g (speaking g j) h (p ∷ q ∷ []) ty.Bool s))

  phoare_becomes : (ls : List TypedName) (is : List Instr) (r : Rel) (p q d : Term) → IsGoalOver c ls ls (phoare (body is) r p q d) → (y : Term) (us : List Term) →
      y ≡ node (head.Phoare (subject_of (body is)) r) us ty.Bool → AllBecome Becomes (p ∷ q ∷ d ∷ []) us → Moves (form_of (phoare (body is) r p q d)) y
  phoare_becomes ls is r p q d w y [] e b = absurd b
  phoare_becomes ls is r p q d w y (v ∷ []) e b = absurd b.1
  phoare_becomes ls is r p q d w y (v ∷ z ∷ []) e b = absurd b.1.1
  phoare_becomes ls is r p q d w y (v ∷ z ∷ x ∷ t ∷ us) e b = absurd b.1.1.1
  phoare_becomes ls is r p q d w y (a ∷ k ∷ z ∷ []) e b =
      let h = head.Phoare (subject_of (body is)) r in
      let x = with_own c (Some ls) in
      let n = with_own c None in
      let G = phoare (body is) r a k z in
      let m = kept.made n refl d z b.1.1.0 w.3 in
      let v : IsGoalOver c ls ls G = (w.0, form_inside x refl p a b.0 w.1, form_inside x refl q k b.1.0 w.2, m.typed, m.written ∙ w.4) in
      judgment_becomes h (p ∷ q ∷ d ∷ []) (a ∷ k ∷ z ∷ []) y e (goal_conclusion c ls ls G v) (goal_front c ls ls G v)
      (λ g fits j fair s placed e.
      let deep = kept.deep g fits j fair s e x refl (procedures_sound c g fits) in
      val_node g (speaking g j) h (a ∷ k ∷ z ∷ []) ty.Bool s
      ∙ ap of_truth
      (phoare_same o g j s fair c s (here g fits j s placed) (subject_of (body is)) r (Some ls) (Some ls) None a k z p q d ty.Bool
      (code_sound c g fits ls (body is) w.0) w.1.truth w.2.truth (deep p a b.0 w.1.typed) (deep q k b.1.0 w.2.typed)
      (kept.deep g fits j fair s e n refl (procedures_sound c g fits) d z b.1.1.0 w.3))
      ∙ sym (val_node g (speaking g j) h (p ∷ q ∷ d ∷ []) ty.Bool s))

  equiv_becomes : (ls rs : List TypedName) (is js : List Instr) (p q : Term) → IsGoalOver c ls rs (equiv (body is) (body js) p q) → (y : Term) (us : List Term) →
      y ≡ node (head.Equiv (subject_of (body is)) (subject_of (body js))) us ty.Bool → AllBecome Becomes (p ∷ q ∷ []) us → Moves (form_of (equiv (body is) (body js) p q)) y
  equiv_becomes ls rs is js p q w y [] e b = absurd b
  equiv_becomes ls rs is js p q w y (v ∷ []) e b = absurd b.1
  equiv_becomes ls rs is js p q w y (v ∷ z ∷ x ∷ us) e b = absurd b.1.1
  equiv_becomes ls rs is js p q w y (a ∷ k ∷ []) e b =
      let h = head.Equiv (subject_of (body is)) (subject_of (body js)) in
      let x = with_sides c (Some ls) (Some rs) in
      let G = equiv (body is) (body js) a k in
      let v : IsGoalOver c ls rs G = (w.0, w.1, w.2, form_inside x refl p a b.0 w.3, form_inside x refl q k b.1.0 w.4) in
      judgment_becomes h (p ∷ q ∷ []) (a ∷ k ∷ []) y e (goal_conclusion c ls rs G v) (goal_front c ls rs G v)
      (λ g fits j fair s placed e.
      let deep = kept.deep g fits j fair s e x refl (procedures_sound c g fits) in
      val_node g (speaking g j) h (a ∷ k ∷ []) ty.Bool s
      ∙ ap of_truth
      (equiv_same o g j s fair c s (here g fits j s placed) (subject_of (body is)) (subject_of (body js)) (Some ls) (Some ls) (Some ls) (Some rs) (Some rs) (Some rs)
      (a ∷ k ∷ []) (p ∷ q ∷ []) ty.Bool (code_sound c g fits ls (body is) w.1, code_sound c g fits rs (body js) w.2) (w.3.truth, (w.4.truth, tt))
      (deep p a b.0 w.3.typed, deep q k b.1.0 w.4.typed))
      ∙ sym (val_node g (speaking g j) h (p ∷ q ∷ []) ty.Bool s))

  goal_becomes : (ls rs : List TypedName) (G : Goal) → IsGoalOver c ls rs G → (y : Term) → Becomes (form_of G) y → Moves (form_of G) y
  goal_becomes ls rs (hoare (body is) p q) w y b =
      let h = head.Hoare (subject_of (body is)) in
      let k = kept.judgment h (p ∷ q ∷ []) tt (λ u. (parts_typed c h (p ∷ q ∷ []) ty.Bool u).1) y b in
      hoare_becomes ls is p q w y k.0 k.1 k.2
  goal_becomes ls rs (phoare (body is) r p q d) w y b =
      let h = head.Phoare (subject_of (body is)) r in
      let k = kept.judgment h (p ∷ q ∷ d ∷ []) tt (λ u. (parts_typed c h (p ∷ q ∷ d ∷ []) ty.Bool u).1) y b in
      phoare_becomes ls is r p q d w y k.0 k.1 k.2
  goal_becomes ls rs (equiv (body is) (body js) p q) w y b =
      let h = head.Equiv (subject_of (body is)) (subject_of (body js)) in
      let k = kept.judgment h (p ∷ q ∷ []) tt (λ u. (parts_typed c h (p ∷ q ∷ []) ty.Bool u).1.0) y b in
      equiv_becomes ls rs is js p q w y k.0 k.1 k.2
  goal_becomes ls rs (hoare (procedure f) p q) w y b =
      form_becomes (form_of (hoare (procedure f) p q)) y b (subst (IsForm c) (term_is_node (head.Hoare (Proc f)) (p ∷ q ∷ []) ty.Bool)
      (record { typed = ((w.1.truth, (w.2.truth, (refl, tt))), w.0, [], (w.1.typed, w.2.typed)); truth = refl }))
  goal_becomes ls rs (phoare (procedure f) r p q d) w y b =
      form_becomes (form_of (phoare (procedure f) r p q d)) y b (subst (IsForm c) (term_is_node (head.Phoare (Proc f) r) (p ∷ q ∷ d ∷ []) ty.Bool)
      (record { typed = (((w.1.truth, (w.2.truth, (refl, tt))), w.4), w.0, [], (w.1.typed, (w.2.typed, w.3))); truth = refl }))
  goal_becomes ls rs (equiv (procedure f) (procedure k) p q) w y b =
      form_becomes (form_of (equiv (procedure f) (procedure k) p q)) y b (subst (IsForm c) (term_is_node (head.Equiv (Proc f) (Proc k)) (p ∷ q ∷ []) ty.Bool)
      (record { typed = ((w.3.truth, (w.4.truth, (refl, tt))), (w.1, w.2), [], (w.3.typed, w.4.typed)); truth = refl }))
  goal_becomes ls rs (equiv (body is) (procedure k) p q) w y b = absurd w.0
  goal_becomes ls rs (equiv (procedure f) (body js) p q) w y b = absurd w.0
  goal_becomes ls rs (ambient f) w y b = form_becomes f y b w

  pub conclusion_becomes : (x y : Term) → Becomes x y → IsConclusion c x → has_module x ≡ false → Moves x y
  conclusion_becomes x y b w n =
      let k = conclusion_goal c x w n in
      let is = goal_form x k.1 in
      subst (λ z. Moves z y) is (goal_becomes k.0.0 k.0.1 (goal_of x) k.0.2 y (subst (λ z. Becomes z y) (sym is) b))

-- A change of terms that keeps the types of terms, and what they mean in settings and states of a kind. Of judgments of
-- bodies, which are no typed terms, it changes the parts.
pub record Preserves (o : Context) (moved : Term → Term) (At : Setting → Judge → State → Type 0) : Type 0 where
  pub made : (d : Context) → IsInside o d → (t : Term) → IsTyped d t → Made d (type_of t) (moved t)
  pub deep : (g : Setting) → IsSettingOf (outermost o) g → (j : Judge) → IsFair g j → (s : State) → At g j s → (d : Context) → IsInside o d → Procedures g d → (t : Term) → IsTyped d t →
      AreDeep o g j s d (moved t) t
  pub judgment : (h : Head) (ts : List Term) → IsJudgment h → (IsTyped (outermost o) (node h ts ty.Bool) → ⊥) → moved (node h ts ty.Bool) ≡ node h (map moved ts) ty.Bool

module _ (o : Context) (moved : Term → Term) (At : Setting → Judge → State → Type 0) (kept : Preserves o moved At) where
  abbrev IsChanged : Term → Term → Type 0
  IsChanged t x = moved t ≡ x

  all_changed : (ts : List Term) → AllBecome IsChanged ts (map moved ts)
  all_changed [] = tt
  all_changed (t ∷ ts) = (refl, all_changed ts)

  keeps : Keeps o IsChanged At
  keeps = record {
    made = λ d i t x e w. subst (Made d (type_of t)) e (kept.made d i t w);
    deep = λ g fits j fair s a d i k t x e w. subst (λ y. AreDeep o g j s d y t) e (kept.deep g fits j fair s a d i k t w);
    judgment = λ h ts is untyped x e. (map moved ts, sym e ∙ kept.judgment h ts is untyped, all_changed ts);
  }

  pub form_moved : (f : Term) → IsForm (outermost o) f → IsMoved (outermost o) At f (moved f)
  form_moved f w = form_becomes o IsChanged At keeps f (moved f) refl w

  pub conclusion_moved : (x : Term) → IsConclusion (outermost o) x → has_module x ≡ false → IsMoved (outermost o) At x (moved x)
  conclusion_moved x w n = conclusion_becomes o IsChanged At keeps x (moved x) refl w n
