-- A statement that can be read with modules put in speaks of all globals of those alone that are given by their names, but for equations.
use Rattle.std.proofs.Common.{◌≡◌, ◌⊎◌, inl, inr, Bool, true, false, ◌||◌, if◌then◌else◌, List, [], ◌∷◌, map, bytes_eq, refl, sym, subst}
use Rattle.std.specs.List.{list_any}
use Rattle.std.proofs.lemmas.Slice.Eq.{bytes_eq-Decides}
use Rattle.gb_core.specs.declared.place.Place.{Place}
use Rattle.gb_core.specs.declared.refusal.Why.TheVariants.{Argument}
use Rattle.gb_core.specs.declared.value.Value.{Value}
use Rattle.gb_core.specs.Numbering.{Numbering}
use Rattle.gb_terms.specs.declared.decl.Param.{Param}
use Rattle.gb_terms.specs.declared.decl.TypedName.{TypedName}
use Rattle.gb_terms.specs.declared.module.Bind.{Bind}
use Rattle.gb_terms.specs.declared.module.Mexp.{Mexp}
use Rattle.gb_terms.specs.declared.module.Mexp.TheVariants.{Name as named, Apply'}
use Rattle.gb_goal.specs.Answers.{Answer}
use Rattle.gb_goal.specs.Answers.Answer.{given, refused}
use Rattle.gb_goal.specs.Instances.{stands_for}
use Rattle.gb_goal.specs.Scope.{Declarations}
use Rattle.gb_goal.specs.declared.sequent.Sequent.{Sequent}
use Rattle.gb_meaning.specs.Holds.{AreValues}
use Rattle.gb_meaning.specs.Names.{Name}
use Rattle.gb_meaning.specs.Values.{Types}
use Rattle.gb_instances.specs.Put.{stands_alone, type_speaks}
use Rattle.gb_arguments.specs.Said.{IsName}
use Rattle.gb_arguments.proofs.PutTypes.{glob_unless, or_false, standing_types, values_put}
use Rattle.gb_arguments.specs.Facts.{EachFits}
use Rattle.gb_instances.specs.Instance.{GivenModule, logical_put, modules_of, params_of, readable, speaks_alone}
use Rattle.gb_arguments.proofs.Fitting.{not_refused}

abbrev IsOr : Mexp → Bool → Type 0
IsOr e b = IsName e ⊎ (b ≡ false)

-- a module that is given by its name, or of which the statement doesn't speak
one_alone : (ds : Declarations) (e : Mexp) (a : Name) (q : Sequent) (p : Place) → readable ds e a q p ≡ given tt → IsOr e (speaks_alone a q)
one_alone ds (named n) a q p w = inl tt
one_alone ds (Apply' n k args) a q p w = step (speaks_alone a q) w
  where
    step : (b : Bool) → ◌≡◌ {A = Answer (Unit {0})} (if b then refused Argument p else given tt) (given tt) → IsName (Apply' n k args) ⊎ (b ≡ false)
    step true w = not_refused Argument p tt w
    step false w = inr refl

module _ (ds : Declarations) (ps : List Param) (es : List Mexp) (q : Sequent) (p : Place) where
  -- of each module
  pub each_alone : (bs : List Bind) (ks : List GivenModule) → EachFits ds ps es q p bs ks → (a : Name) → IsOr (stands_for (params_of bs) (modules_of ks) a) (speaks_alone a q)
  each_alone [] ks w a = inl tt
  each_alone (b ∷ bs) [] w a = absurd w
  each_alone (b ∷ bs) (k ∷ ks) w a = step (bytes_eq a b.name) refl (each_alone bs ks w.2 a)
    where
      step : (t : Bool) → bytes_eq a b.name ≡ t → IsOr (stands_for (params_of bs) (modules_of ks) a) (speaks_alone a q) →
          IsOr (if t then k.0.0 else stands_for (params_of bs) (modules_of ks) a) (speaks_alone a q)
      step true e later = subst (λ z. IsOr k.0.0 (speaks_alone z q)) (sym ((bytes_eq-Decides a b.name).0 e)) (one_alone ds k.0.0 b.name q k.1 w.1)
      step false e later = later

-- in its conclusion
pub alone_said : (f : Name → Mexp) (q : Sequent) → ((a : Name) → IsOr (f a) (speaks_alone a q)) → (a : Name) → IsOr (f a) (stands_alone a q.conclusion)
alone_said f q w a = step (w a)
  where
    step : IsOr (f a) (speaks_alone a q) → IsOr (f a) (stands_alone a q.conclusion)
    step (inl x) = inl x
    step (inr e) = inr (or_false (list_any (λ x. type_speaks a x.ty) q.logical) (stands_alone a q.conclusion) e).1

-- in the types of its variables
abbrev NoneSpeaks : (Name → Mexp) → List TypedName → Type 0
NoneSpeaks f [] = Unit {0}
NoneSpeaks f (x ∷ xs) = ((a : Name) → IsOr (f a) (type_speaks a x.ty)) × NoneSpeaks f xs

types_alone : (f : Name → Mexp) (xs : List TypedName) → ((a : Name) → IsOr (f a) (list_any (λ x. type_speaks a x.ty) xs)) → NoneSpeaks f xs
types_alone f [] w = tt
types_alone f (x ∷ xs) w = ((λ a. front a (w a)), types_alone f xs (λ a. rest a (w a)))
  where
    front : (a : Name) → IsOr (f a) (type_speaks a x.ty || list_any (λ x. type_speaks a x.ty) xs) → IsOr (f a) (type_speaks a x.ty)
    front a (inl z) = inl z
    front a (inr e) = inr (or_false (type_speaks a x.ty) (list_any (λ x. type_speaks a x.ty) xs) e).0

    rest : (a : Name) → IsOr (f a) (type_speaks a x.ty || list_any (λ x. type_speaks a x.ty) xs) → IsOr (f a) (list_any (λ x. type_speaks a x.ty) xs)
    rest a (inl z) = inl z
    rest a (inr e) = inr (or_false (type_speaks a x.ty) (list_any (λ x. type_speaks a x.ty) xs) e).1

module _ (ps : List Param) (es : List Mexp) (t : Types) where
  abbrev f : Name → Mexp
  f = stands_for ps es

  values_back : (xs : List TypedName) → NoneSpeaks f xs → (vs : List Value) → AreValues t (map (λ x. x.ty) (map (logical_put ps es) xs)) vs → AreValues (standing_types f t) (map (λ x. x.ty) xs) vs
  values_back [] w [] v = tt
  values_back [] w (x ∷ vs) v = absurd v
  values_back (x ∷ xs) w [] v = absurd v
  values_back (x ∷ xs) w (y ∷ vs) v = (
    subst (λ (z : Numbering). z.has y ≡ true) (sym (values_put f t x.ty (glob_unless (λ a. IsName (f a)) x.ty w.0))) v.0,
    values_back xs w.1 vs v.1,
  )

  -- values of variables are values of them where the modules stand for names
  pub logical_values : (q : Sequent) → ((a : Name) → IsOr (f a) (speaks_alone a q)) → (vs : List Value) → AreValues t (map (λ x. x.ty) (map (logical_put ps es) q.logical)) vs →
      AreValues (standing_types f t) (map (λ x. x.ty) q.logical) vs
  logical_values q w = values_back q.logical (types_alone f q.logical (λ a. step a (w a)))
    where
      step : (a : Name) → IsOr (f a) (speaks_alone a q) → IsOr (f a) (list_any (λ x. type_speaks a x.ty) q.logical)
      step a (inl x) = inl x
      step a (inr e) = inr (or_false (list_any (λ x. type_speaks a x.ty) q.logical) (stands_alone a q.conclusion) e).0
