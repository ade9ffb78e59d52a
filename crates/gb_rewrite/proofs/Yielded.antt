-- Terms whose first probability that a law of events speaks of gave way keep types and meanings.
use Rattle.std.proofs.Common.{◌≡◌, inl, inr, List, [], ◌∷◌, ◌++◌, Some, refl, ap, sym, ◌∙◌, subst}
use Rattle.std.specs.Option.{option_map}
use Rattle.std.proofs.lemmas.Option.{none-some}
use Rattle.gb_core.specs.declared.ty.Ty.{Ty}
use Rattle.gb_core.specs.declared.ty.Ty.TheVariants as ty
use Rattle.gb_terms.specs.declared.term.Term.{Term, Term', Row_of-Term, end_of-Term, more_of-Term, end_of-Head, more_of-Head}
use Rattle.gb_terms.specs.declared.term.Head.{Head}
use Rattle.gb_terms.specs.declared.term.Head.TheVariants as head
use Rattle.gb_terms.specs.declared.term.Head.TheViews.{out-roll-Term}
use Rattle.gb_terms.specs.Make.{node}
use Rattle.gb_goal.specs.Scope.{Declarations}
use Rattle.gb_steps.specs.declared.step.EventLaw.{EventLaw}
use Rattle.gb_steps.specs.First.{is_quotient, or_else}
use Rattle.gb_meaning.specs.Commands.{terms_in}
use Rattle.gb_meaning.specs.Judgments.{Judge, IsFair, IsSoundForm, AllSound}
use Rattle.gb_meaning.specs.Setting.{Setting}
use Rattle.gb_meaning.specs.State.{State}
use Rattle.gb_meaning.specs.Written.{type_of}
use Rattle.gb_laws.specs.Operators.{IsNoDistribution}
use Rattle.gb_laws.specs.Typing.{types_of, IsHead}
use Rattle.gb_laws.proofs.Denominators.{denominator_one}
use Rattle.gb_laws.proofs.Nodes.{type_of_node}
use Rattle.gb_typing.specs.Changes.{Made}
use Rattle.gb_typing.specs.Context.{Context, erased}
use Rattle.gb_typing.specs.Rules.{outermost}
use Rattle.gb_typing.specs.Typing.{first, middle, last, IsTyped, AreTyped}
use Rattle.gb_typing.proofs.Erased.{erased_typed}
use Rattle.gb_typing.proofs.Made.{EachMade, made_node}
use Rattle.gb_typing.proofs.Sound.{sound_form}
use Rattle.gb_smt_laws.specs.Alike.{RespectAlike}
use Rattle.gb_rewrite.specs.Events.{chance, law_at, by_first, parts_by_first, list_by_law, IsTypedLaw}
use Rattle.gb_rewrite.proofs.AtNode.{node_is, node_deep}
use Rattle.gb_rewrite.proofs.Deep.{AreDeep, AllDeep, itself}
use Rattle.gb_rewrite.proofs.Kept.{IsInside, inside_first, inside_middle, inside_last}
use Rattle.gb_rewrite.proofs.Layered.{IsSpokenOf, spoken_of, parts_are, by_first_out, Becomes, all_stay, node_becomes}
use Rattle.gb_rewrite.proofs.Moved.{IsJudgment, AllBecome, Keeps}
use Rattle.gb_rewrite.proofs.Spoken.{law_made}
use Rattle.gb_rewrite.proofs.Weighing.{HasWhole, law_alike}
use mathlib.Core.Former.{Count}

single : (t : Term) → type_of t ≡ ty.Real → IsNoDistribution (type_of t)
single t e = subst IsNoDistribution (sym e) tt

module _ (ds : Declarations) (l : EventLaw) (o : Context) (v : IsTypedLaw (outermost o) l) where
  abbrev B : Term → Term → Type 0
  B = Becomes ds l

  -- the probability of which the law speaks
  module _ (d : Context) (i : IsInside o d) (h : Head) (n : _) (ts : _) (u : Ty) (w : IsTyped d (Term' tt (more_of-Head h end_of-Head) n ts u)) (x : Term) (e : law_at ds l h (terms_in ts) ≡ Some x) where
    abbrev k : IsSpokenOf ds l h (terms_in ts) x
    k = spoken_of ds l h (terms_in ts) x e

    abbrev spoken : Term
    spoken = chance k.procedure k.memory k.arguments k.event

    real : u ≡ ty.Real
    real = (subst (λ f. IsHead (erased d) f (types_of ts) u) k.head w.0).2

    is : spoken ≡ Term' tt (more_of-Head h end_of-Head) n ts u
    is = let f = k.head in let us = k.parts in sym (λ z. node (f z) (us z) (real z)) ∙ node_is h n ts u

    typed : IsTyped d spoken
    typed = subst (IsTyped d) (sym is) w

    made : Made d ty.Real x
    made = law_made ds o d i k.procedure k.memory k.arguments k.event typed l v x k.by

    here_made : Made d u x
    here_made = subst (λ t. Made d t x) (sym real) made

    here_deep : (g : Setting) → HasWhole ds g → (j : Judge) (s : State) → AreDeep o g j s d x (Term' tt (more_of-Head h end_of-Head) n ts u)
    here_deep g whole j s =
        let m = made in
        let written : type_of spoken ≡ ty.Real = type_of_node (head.Pr k.procedure k.memory) (k.arguments ++ k.event ∷ []) ty.Real in
        subst (AreDeep o g j s d x) is
        (record {
          new = m.typed;
          old = typed;
          written = m.written ∙ sym written;
          alike = λ q a. law_alike g j q k.procedure k.memory k.arguments ds whole o d i k.event typed l v x k.by;
          denominator = denominator_one g (erased d) x (erased_typed d x m.typed) (single x m.written) ∙ sym (denominator_one g (erased d) spoken (erased_typed d spoken typed) (single spoken written));
        })

  by_either : (P : Term → Type 0) (t x : Term) → B t x → P t → (by_first ds l t ≡ Some x → P x) → P x
  by_either P t x (inl e) p f = subst P e p
  by_either P t x (inr e) p f = f e

  -- what it becomes, by its layer
  layer_of : {n : Count} (h : Head) (ts : Row_of-Term n) (u : Ty) (x : Term) → or_else (law_at ds l h (terms_in ts)) (option_map (λ us. node h us u) (parts_by_first ds l (is_quotient h) ts)) ≡ Some x →
      or_else (law_at ds l h (terms_in ts)) (option_map (λ us. node h us u) (list_by_law ds l (is_quotient h) (terms_in ts))) ≡ Some x
  layer_of h ts u x e = sym (ap (λ z. or_else (law_at ds l h (terms_in ts)) (option_map (λ us. node h us u) z)) (parts_are ds l (is_quotient h) ts)) ∙ e

  mutual
    first_made : (d : Context) → IsInside o d → (t x : Term) → by_first ds l t ≡ Some x → IsTyped d t → Made d (type_of t) x
    first_made d i (Term' tt (more_of-Head h end_of-Head) n ts u) x e w =
        node_becomes ds l (Made d u) h (terms_in ts) (λ us. node h us u) (is_quotient h) (λ y k. here_made d i h n ts u w y k)
        (λ us b. made_node d h (types_of ts) us u w.0 w.1 w.2
        (all_made (first d h) (middle d h) (last d w.2 h (types_of ts)) (inside_first o d h i) (inside_middle o d h i) (inside_last o d w.2 h (types_of ts) i) ts w.3 us b))
        x (layer_of h ts u x e)

    all_made : {n : Count} (c m r : Context) → IsInside o c → IsInside o m → IsInside o r → (ts : Row_of-Term n) → AreTyped c m r ts → (us : List Term) → AllBecome B (terms_in ts) us →
        EachMade c m r (types_of ts) us
    all_made c m r i j k end_of-Term w [] b = tt
    all_made c m r i j k end_of-Term w (x ∷ us) b = absurd b
    all_made c m r i j k (more_of-Term t end_of-Term) w [] b = absurd b
    all_made c m r i j k (more_of-Term t (more_of-Term v ts)) w [] b = absurd b
    all_made c m r i j k (more_of-Term t end_of-Term) w (x ∷ []) b = by_either (Made r (type_of t)) t x b.0 (record { typed = w; written = refl }) (λ e. first_made r k t x e w)
    all_made c m r i j k (more_of-Term t end_of-Term) w (x ∷ y ∷ us) b = absurd b.1
    all_made c m r i j k (more_of-Term t (more_of-Term v ts)) w (x ∷ []) b = absurd b.1
    all_made c m r i j k (more_of-Term t (more_of-Term v ts)) w (x ∷ y ∷ us) b =
        (by_either (Made c (type_of t)) t x b.0 (record { typed = w.0; written = refl }) (λ e. first_made c i t x e w.0), all_made m m r j j k (more_of-Term v ts) w.1 (y ∷ us) b.1)

  module _ (g : Setting) (whole : HasWhole ds g) (j : Judge) (fair : IsFair g j) (respects : RespectAlike (outermost o) g) (s : State) where
    mutual
      first_deep : (d : Context) → IsInside o d → (t x : Term) → by_first ds l t ≡ Some x → IsTyped d t → IsSoundForm g t → AreDeep o g j s d x t
      first_deep d i (Term' tt (more_of-Head h end_of-Head) n ts u) x e w z =
          node_becomes ds l (λ y. AreDeep o g j s d y (Term' tt (more_of-Head h end_of-Head) n ts u)) h (terms_in ts) (λ us. node h us u) (is_quotient h) (λ y k. here_deep d i h n ts u w y k g whole j s)
          (λ us b. node_deep o g j fair respects s d h n ts u w z.0 us
          (made_node d h (types_of ts) us u w.0 w.1 w.2
          (all_made (first d h) (middle d h) (last d w.2 h (types_of ts)) (inside_first o d h i) (inside_middle o d h i) (inside_last o d w.2 h (types_of ts) i) ts w.3 us b))
          (all_deep (first d h) (middle d h) (last d w.2 h (types_of ts)) (inside_first o d h i) (inside_middle o d h i) (inside_last o d w.2 h (types_of ts) i) ts w.3 z.1 us b))
          x (layer_of h ts u x e)

      all_deep : {n : Count} (c m r : Context) → IsInside o c → IsInside o m → IsInside o r → (ts : Row_of-Term n) → AreTyped c m r ts → AllSound g ts → (us : List Term) → AllBecome B (terms_in ts) us →
          AllDeep o g j s c m r us (terms_in ts)
      all_deep c m r i f k end_of-Term w z [] b = tt
      all_deep c m r i f k end_of-Term w z (x ∷ us) b = absurd b
      all_deep c m r i f k (more_of-Term t end_of-Term) w z [] b = absurd b
      all_deep c m r i f k (more_of-Term t (more_of-Term v ts)) w z [] b = absurd b
      all_deep c m r i f k (more_of-Term t end_of-Term) w z (x ∷ []) b = by_either (λ y. AreDeep o g j s r y t) t x b.0 (itself o g j s r t w) (λ e. first_deep r k t x e w z.0)
      all_deep c m r i f k (more_of-Term t end_of-Term) w z (x ∷ y ∷ us) b = absurd b.1
      all_deep c m r i f k (more_of-Term t (more_of-Term v ts)) w z (x ∷ []) b = absurd b.1
      all_deep c m r i f k (more_of-Term t (more_of-Term v ts)) w z (x ∷ y ∷ us) b =
          (by_either (λ y. AreDeep o g j s c y t) t x b.0 (itself o g j s c t w.0) (λ e. first_deep c i t x e w.0 z.0), all_deep m m r f f k (more_of-Term v ts) w.1 z.1 (y ∷ us) b.1)

  -- of a judgment one part gives way

  abbrev HasParts : Head → List Term → Term → Type 0
  HasParts h ts x = (us : List Term) × (x ≡ node h us ty.Bool) × AllBecome B ts us

  no_chance : (h : Head) → IsJudgment h → (ts : List Term) (y : Term) → law_at ds l h ts ≡ Some y → ⊥
  no_chance (head.Pr p r) given ts y e = absurd given
  no_chance _ given ts y e = none-some y e

  judgment_parts : (h : Head) (ts : List Term) → IsJudgment h → (x : Term) → B (node h ts ty.Bool) x → HasParts h ts x
  judgment_parts h ts given x (inl e) = (ts, sym e, all_stay ds l ts)
  judgment_parts h ts given x (inr e) =
      node_becomes ds l (HasParts h ts) h ts (λ us. node h us ty.Bool) (is_quotient h) (λ y k. absurd (no_chance h given ts y k)) (λ us b. (us, refl, b)) x
      (sym (by_first_out ds l (node h ts ty.Bool)
      ∙ ap (λ z. or_else (law_at ds l z.head z.args) (option_map (λ us. node z.head us z.ty) (list_by_law ds l (is_quotient z.head) z.args))) (out-roll-Term (record { head = h; args = ts; ty = ty.Bool })))
      ∙ e)

  -- settings in which operators of the script give the same from the same, and procedures that lose no weight have the whole weight
  abbrev pub AreKnown : Setting → Judge → State → Type 0
  AreKnown g j s = RespectAlike (outermost o) g × HasWhole ds g

  pub law_keeps : Keeps o B AreKnown
  law_keeps = record {
    made = λ d i t x b w. by_either (Made d (type_of t)) t x b (record { typed = w; written = refl }) (λ e. first_made d i t x e w);
    deep = λ g fits j fair s a d i k t x b w. by_either (λ y. AreDeep o g j s d y t) t x b (itself o g j s d t w) (λ e. first_deep g a.1 j fair a.0 s d i t x e w (sound_form g d k t w));
    judgment = λ h ts is untyped x b. judgment_parts h ts is x b;
  }
