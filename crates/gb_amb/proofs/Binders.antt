-- What a statement says of its variables and memories, whatever they are, it says with a leading `forall` for each binder.
use Rattle.std.proofs.Common.{◌≡◌, ℕ, ◌+◌, true, List, [], ◌∷◌, ◌++◌, length, map, Some, refl, ap, sym, subst}
use Rattle.std.proofs.lemmas.List.{append-nil, append_assoc, length-append, length-map}
use Rattle.gb_core.specs.declared.ty.Ty.{Ty}
use Rattle.gb_core.specs.declared.value.Value.{Value as AnyValue}
use Rattle.gb_terms.specs.declared.decl.TypedName.{TypedName}
use Rattle.gb_terms.specs.declared.term.Term.{Term}
use Rattle.gb_goal.specs.declared.scope.Binder.{Binder}
use Rattle.gb_goal.specs.declared.scope.Binder.TheVariants.{Value, Memory, Module}
use Rattle.gb_meaning.specs.Memory.{Memory as AnyMemory}
use Rattle.gb_meaning.specs.Setting.{Setting}
use Rattle.gb_meaning.specs.Judgments.{Judge, IsFair, den}
use Rattle.gb_meaning.specs.Holds.{AreValues, context}
use Rattle.gb_typing.specs.Context.{Context, Frame}
use Rattle.gb_typing.specs.Typing.{IsForm}
use Rattle.gb_typing.specs.Fits.{IsSettingOf}
use Rattle.gb_amb.proofs.Introducing.{as_many, values_with}
use Rattle.gb_amb.proofs.Wider.{small}
use Rattle.gb_amb.specs.Lemmas.{AreBindersOf, AreFinite, for_binders, for_each_memory}
use Rattle.gb_amb.proofs.EachMemory.{memory_typed, memory_true}
use Rattle.gb_amb.proofs.EachValue.{value_typed, value_true}

abbrev pub framed : List (List TypedName) → List Frame
framed fs = map (λ l. Some l) fs

framed_with : (fs : List (List TypedName)) (ls : List TypedName) → framed (fs ++ ls ∷ []) ≡ framed fs ++ Some ls ∷ []
framed_with [] ls = refl
framed_with (f ∷ fs) ls = ap (λ ns. Some f ∷ ns) (framed_with fs ls)

module _ (b : Context) where
  -- the last variable, and the last memory
  value_step : (us : List Ty) (u : Ty) (ns : List Frame) (n : ℕ) (h : ℕ → Term) → length (us ++ u ∷ []) ≡ n → IsForm (small b (us ++ u ∷ []) ns) (h (length (us ++ u ∷ []))) → IsForm (small b (us ++ u ∷ []) ns) (h n)
  value_step us u ns n h e w = subst (λ i. IsForm (small b (us ++ u ∷ []) ns) (h i)) e w

  memory_step : (us : List Ty) (fs : List (List TypedName)) (ls : List TypedName) (h : ℕ → Term) → IsForm (small b us (framed (fs ++ ls ∷ []))) (h (length (fs ++ ls ∷ []))) →
      IsForm (small b us (framed fs ++ Some ls ∷ [])) (h (length fs + 1))
  memory_step us fs ls h w =
      subst (λ ns. IsForm (small b us ns) (h (length fs + 1))) (framed_with fs ls) (subst (λ i. IsForm (small b us (framed (fs ++ ls ∷ []))) (h i)) (length-append fs (ls ∷ [])) w)

  as_many_frames : (fs : List (List TypedName)) → length (framed fs) ≡ length fs
  as_many_frames fs = length-map fs (λ l. Some l)

  pub binders_typed : (ks : List Binder) (us ws : List Ty) (fs gs : List (List TypedName)) → AreBindersOf ks ws gs → AreFinite ws → (f : Term) →
      IsForm (small b (us ++ ws) (framed (fs ++ gs))) f → IsForm (small b us (framed fs)) (for_binders ks ws (length us) (length fs) f)
  binders_typed [] us [] fs [] w n f v = subst (λ xs. IsForm (small b xs (framed fs)) f) (append-nil us) (subst (λ ls. IsForm (small b (us ++ []) (framed ls)) f) (append-nil fs) v)
  binders_typed [] us [] fs (l ∷ gs) w n f v = absurd w
  binders_typed [] us (u ∷ ws) fs gs w n f v = absurd w
  binders_typed (Module ∷ ks) us ws fs gs w n f v = absurd w
  binders_typed (Value ∷ ks) us [] fs gs w n f v = absurd w
  binders_typed (Value ∷ ks) us (u ∷ ws) fs gs w n f v =
      let inner = binders_typed ks (us ++ u ∷ []) ws fs gs w n.1 f (subst (λ xs. IsForm (small b xs (framed (fs ++ gs))) f) (sym (append_assoc us (u ∷ []) ws)) v) in
      value_typed b us u (framed fs) n.0 (for_binders ks ws (length us + 1) (length fs) f)
      (value_step us u (framed fs) (length us + 1) (λ i. for_binders ks ws i (length fs) f) (length-append us (u ∷ [])) inner)
  binders_typed (Memory ∷ ks) us ws fs [] w n f v = absurd w
  binders_typed (Memory ∷ ks) us ws fs (l ∷ gs) w n f v =
      let inner = binders_typed ks us ws (fs ++ l ∷ []) gs w n f (subst (λ ls. IsForm (small b (us ++ ws) (framed ls)) f) (sym (append_assoc fs (l ∷ []) gs)) v) in
      let body = memory_step us fs l (λ m. for_binders ks ws (length us) m f) inner in
      subst (λ m. IsForm (small b us (framed fs)) (for_each_memory m (for_binders ks ws (length us) (length fs + 1) f))) (as_many_frames fs)
      (memory_typed b us (framed fs) l (for_binders ks ws (length us) (length fs + 1) f) body)

  module _ (g : Setting) (fits : IsSettingOf (small b [] []) g) (j : Judge) (fair : IsFair g j) where
    fits_in : (us : List Ty) (ns : List Frame) → IsSettingOf (small b us ns) g
    fits_in us ns = record { types = record { inhabited = fits.types.inhabited; operators = fits.types.operators; distributions = fits.types.distributions }; once = fits.once; procedures = fits.procedures }

    -- a form is true for all values of these types and all memories
    abbrev pub IsTrueForAll : List Ty → Term → Type 0
    IsTrueForAll us f = (vs : List AnyValue) → AreValues g.types us vs → (ms : List AnyMemory) → den g j f (context vs ms) ≡ true

    pub binders_true : (ks : List Binder) (us ws : List Ty) (fs gs : List (List TypedName)) → AreBindersOf ks ws gs → AreFinite ws → (f : Term) →
        IsForm (small b (us ++ ws) (framed (fs ++ gs))) f → IsTrueForAll (us ++ ws) f → IsTrueForAll us (for_binders ks ws (length us) (length fs) f)
    binders_true [] us [] fs [] w n f v h vs a ms = h vs (subst (λ xs. AreValues g.types xs vs) (sym (append-nil us)) a) ms
    binders_true [] us [] fs (l ∷ gs) w n f v h vs a ms = absurd w
    binders_true [] us (u ∷ ws) fs gs w n f v h vs a ms = absurd w
    binders_true (Module ∷ ks) us ws fs gs w n f v h vs a ms = absurd w
    binders_true (Value ∷ ks) us [] fs gs w n f v h vs a ms = absurd w
    binders_true (Value ∷ ks) us (u ∷ ws) fs gs w n f v h vs a ms =
        let x = subst (λ xs. IsForm (small b xs (framed (fs ++ gs))) f) (sym (append_assoc us (u ∷ []) ws)) v in
        let y = subst (λ xs. IsTrueForAll xs f) (sym (append_assoc us (u ∷ []) ws)) h in
        let inner = binders_typed ks (us ++ u ∷ []) ws fs gs w n.1 f x in
        let body = value_step us u (framed fs) (length us + 1) (λ i. for_binders ks ws i (length fs) f) (length-append us (u ∷ [])) inner in
        value_true b us u (framed fs) n.0 g (fits_in us (framed fs)) j fair (for_binders ks ws (length us + 1) (length fs) f) body vs (as_many g.types us vs a) ms
        (λ c k.
        subst (λ i. den g j (for_binders ks ws i (length fs) f) (context (vs ++ c ∷ []) ms) ≡ true) (length-append us (u ∷ []))
        (binders_true ks (us ++ u ∷ []) ws fs gs w n.1 f x y (vs ++ c ∷ []) (values_with g.types us vs u c a k) ms))
    binders_true (Memory ∷ ks) us ws fs [] w n f v h vs a ms = absurd w
    binders_true (Memory ∷ ks) us ws fs (l ∷ gs) w n f v h vs a ms =
        let x = subst (λ ls. IsForm (small b (us ++ ws) (framed ls)) f) (sym (append_assoc fs (l ∷ []) gs)) v in
        let inner = binders_typed ks us ws (fs ++ l ∷ []) gs w n f x in
        let body = memory_step us fs l (λ m. for_binders ks ws (length us) m f) inner in
        subst (λ m. den g j (for_each_memory m (for_binders ks ws (length us) (length fs + 1) f)) (context vs ms) ≡ true) (as_many_frames fs)
        (memory_true b us (framed fs) l g (fits_in us (framed fs)) j fair (for_binders ks ws (length us) (length fs + 1) f) body vs
        (λ ms.
        subst (λ m. den g j (for_binders ks ws (length us) m f) (context vs ms) ≡ true) (length-append fs (l ∷ []))
        (binders_true ks us ws (fs ++ l ∷ []) gs w n f x h vs a ms))
        ms)
