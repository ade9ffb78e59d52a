-- Operators of typed parts are typed, one lemma for each row of the table of operators that asks for the shape of a type.
use Rattle.std.proofs.Common.{◌≡◌, ℕ, pred, ◌<◌, Bool, List, [], ◌∷◌, Some, refl, ap, sym, ◌∙◌}
use Rattle.gb_core.specs.declared.ty.Ty.{Ty}
use Rattle.gb_core.specs.declared.ty.Ty.TheVariants as ty
use Rattle.gb_terms.specs.declared.op.Op.TheVariants as op
use Rattle.gb_terms.specs.declared.term.Term.{Term}
use Rattle.gb_terms.specs.declared.term.Head.TheVariants.{Builtin}
use Rattle.gb_terms.specs.Make.{applied}
use Rattle.gb_meaning.specs.Names.{Name}
use Rattle.gb_meaning.specs.Operators.{outcome_type}
use Rattle.gb_meaning.specs.Trees.{distributions, options}
use Rattle.gb_laws.specs.Operators.{item, tuples}
use Rattle.gb_laws.proofs.Constructors.{distribution_is, map_is, option_is, tuple_is}
use Rattle.gb_typing.specs.Context.{Context}
use Rattle.gb_names.specs.declared.setting.Language.{Language}
use Rattle.gb_elab_laws.specs.Fitting.{IsFiniteIn}
use Rattle.gb_elab_laws.proofs.Shapes.{EachFiniteIn, each_finite, with_globs, finite_form, pair_finite, is_drawn, drawn_form, outcome_finite, outcome_is, option_form, some_finite, is_option, map_form, entries_finite, is_map, key_is, entry_is, tuple_form, parts_are}
use Rattle.gb_elab_laws.proofs.Typed.{Typed, EachTyped, leaf, operated, combined, of_three, of_many}

module _ {globs : Name → Bool} (c : Context) (l : Language) where
  -- a conditional, of any type
  pub conditional : (t : Ty) (a x y : Term) → Typed globs c l ty.Bool a → Typed globs c l t x → Typed globs c l t y → Typed globs c l t (applied op.If (a ∷ x ∷ y ∷ []) t)
  conditional t a x y k m n = of_three c l op.If ty.Bool t t t a x y m.type (refl, (refl, (refl, tt))) k m n

  -- Tuples and their parts, which are counted from 1.
  pub tuple : (us : List Ty) (ts : List Term) → EachFiniteIn globs us → EachTyped globs c l us ts → Typed globs c l (ty.Tuple us) (applied op.Tuple ts (ty.Tuple us))
  tuple us ts h m = of_many globs c l op.Tuple us (ty.Tuple us) ts (tuple_form globs us h) (each_finite globs us h, tuple_is us) m

  pub part : (us : List Ty) (k : ℕ) (t : Ty) (x : Term) → 0 < k → IsFiniteIn globs t → item us (pred k) ≡ Some t → Typed globs c l (ty.Tuple us) x → Typed globs c l t (applied (op.Part k) (x ∷ []) t)
  part us k t x o f h m = operated c l (op.Part k) (ty.Tuple us) t x (finite_form globs t f) (o, ap (λ ts. item ts (pred k)) (parts_are us) ∙ h, with_globs globs t f) m

  -- options
  pub some : (t : Ty) (x : Term) → IsFiniteIn globs t → Typed globs c l t x → Typed globs c l (ty.Opt t) (applied op.Some (x ∷ []) (ty.Opt t))
  some t x f m = operated c l op.Some t (ty.Opt t) x (option_form globs t f) (with_globs globs t f, option_is t) m

  pub none : (t : Ty) → IsFiniteIn globs t → Typed globs c l (ty.Opt t) (applied op.None [] (ty.Opt t))
  none t f = leaf c l (Builtin op.None) (ty.Opt t) (option_form globs t f) (is_option t (with_globs globs t f)) tt tt (λ e. e)

  pub content : (t : Ty) (x : Term) → Typed globs c l (ty.Opt t) x → Typed globs c l t (applied op.Oget (x ∷ []) t)
  content t x m = let f = some_finite globs t m.type in operated c l op.Oget (ty.Opt t) t x (finite_form globs t f) (with_globs globs t f, option_is t) m

  -- maps
  pub empty : (k t : Ty) → IsFiniteIn globs k → IsFiniteIn globs t → Typed globs c l (ty.Map k t) (applied op.Empty [] (ty.Map k t))
  empty k t f g = leaf c l (Builtin op.Empty) (ty.Map k t) (map_form globs k t f g) (is_map k t (with_globs globs k f) (with_globs globs t g)) tt tt (λ e. e)

  pub entry : (k t : Ty) (x y : Term) → Typed globs c l (ty.Map k t) x → Typed globs c l k y → Typed globs c l (ty.Opt t) (applied op.Get (x ∷ y ∷ []) (ty.Opt t))
  entry k t x y m n =
      let f = entries_finite globs k t m.type in
      combined c l op.Get (ty.Map k t) k (ty.Opt t) x y (option_form globs t f.1) (is_map k t (with_globs globs k f.0) (with_globs globs t f.1), sym (key_is k t), option_is t ∙ ap options (sym (entry_is k t))) m n

  pub changed : (k t : Ty) (x y z : Term) → Typed globs c l (ty.Map k t) x → Typed globs c l k y → Typed globs c l t z → Typed globs c l (ty.Map k t) (applied op.Set (x ∷ y ∷ z ∷ []) (ty.Map k t))
  changed k t x y z m n r =
      let f = entries_finite globs k t m.type in
      of_three c l op.Set (ty.Map k t) k t (ty.Map k t) x y z m.type (with_globs globs k f.0, with_globs globs t f.1, (map_is k t, (map_is k t, tt))) m n r

  pub in_map : (k t : Ty) (x y : Term) → Typed globs c l k x → Typed globs c l (ty.Map k t) y → Typed globs c l ty.Bool (applied op.InMap (x ∷ y ∷ []) ty.Bool)
  in_map k t x y m n = let f = entries_finite globs k t n.type in combined c l op.InMap k (ty.Map k t) ty.Bool x y tt (is_map k t (with_globs globs k f.0) (with_globs globs t f.1), sym (key_is k t), refl) m n

  -- distributions
  pub in_support : (t : Ty) (x d : Term) → Typed globs c l t x → Typed globs c l (ty.Distr t) d → Typed globs c l ty.Bool (applied op.InSupport (x ∷ d ∷ []) ty.Bool)
  in_support t x d m n = combined c l op.InSupport t (ty.Distr t) ty.Bool x d tt (with_globs globs t (outcome_finite globs t n.type), distribution_is t, refl) m n

  pub weight : (t : Ty) (d x : Term) → Typed globs c l (ty.Distr t) d → Typed globs c l t x → Typed globs c l ty.Real (applied op.Mu1 (d ∷ x ∷ []) ty.Real)
  weight t d x m n = combined c l op.Mu1 (ty.Distr t) t ty.Real d x tt (with_globs globs t (outcome_finite globs t m.type), distribution_is t, refl) m n

  pub uniform : (t : Ty) → IsFiniteIn globs t → Typed globs c l (ty.Distr t) (applied op.Uniform [] (ty.Distr t))
  uniform t f = leaf c l (Builtin op.Uniform) (ty.Distr t) (drawn_form globs t f) (is_drawn t (with_globs globs t f)) tt tt (λ e. e)

  pub certain : (t : Ty) (x : Term) → IsFiniteIn globs t → Typed globs c l t x → Typed globs c l (ty.Distr t) (applied op.Dunit (x ∷ []) (ty.Distr t))
  certain t x f m = operated c l op.Dunit t (ty.Distr t) x (drawn_form globs t f) (with_globs globs t f, distribution_is t) m

  pub product : (t u : Ty) (d e : Term) → Typed globs c l (ty.Distr t) d → Typed globs c l (ty.Distr u) e →
      Typed globs c l (ty.Distr (ty.Tuple (t ∷ u ∷ []))) (applied op.Product (d ∷ e ∷ []) (ty.Distr (ty.Tuple (t ∷ u ∷ []))))
  product t u d e m n =
      let f = outcome_finite globs t m.type in
      let g = outcome_finite globs u n.type in
      let pairs : ty.Distr (ty.Tuple (t ∷ u ∷ [])) ≡ distributions (tuples (outcome_type (ty.Distr t) ∷ outcome_type (ty.Distr u) ∷ [])) =
      distribution_is (ty.Tuple (t ∷ u ∷ [])) ∙ ap distributions (tuple_is (t ∷ u ∷ [])) ∙ (λ i. distributions (tuples (sym (outcome_is t) i ∷ sym (outcome_is u) i ∷ []))) in
      combined c l op.Product (ty.Distr t) (ty.Distr u) (ty.Distr (ty.Tuple (t ∷ u ∷ []))) d e (drawn_form globs (ty.Tuple (t ∷ u ∷ [])) (pair_finite globs t u f g))
      (is_drawn t (with_globs globs t f), is_drawn u (with_globs globs u g), pairs) m n
