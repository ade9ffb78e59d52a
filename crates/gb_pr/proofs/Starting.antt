-- What the changes find that put terms in the places of parameters, and a memory in the place of one from which a procedure starts.
use Rattle.std.proofs.Common.{◌≡◌, ◌≢◌, ◌&&◌, ℕ, Bool, true, false, if◌then◌else◌, List, [], ◌∷◌, ◌++◌, map, get_or, Option, Some, bytes_eq, refl, ap, sym, ◌∙◌, subst}
use Rattle.std.proofs.lemmas.Bool.{false≢true}
use Rattle.std.proofs.lemmas.Slice.Eq.{bytes_eq-Decides}
use Rattle.gb_core.specs.declared.ty.Ty.{Ty}
use Rattle.gb_core.specs.declared.value.Value.{Value}
use Rattle.gb_core.specs.declared.var.Var.{Var}
use Rattle.gb_core.specs.declared.var.Var.TheVariants as var
use Rattle.gb_terms.specs.Equal.{var_eq, side_eq}
use Rattle.gb_terms.specs.declared.decl.TypedName.{TypedName}
use Rattle.gb_terms.specs.declared.op.Read.TheVariants.{Logical, Program}
use Rattle.gb_terms.specs.declared.op.Side.{Side}
use Rattle.gb_terms.specs.declared.term.Term.{Term}
use Rattle.gb_walk.specs.declared.change.Change.TheVariants.{ToSide}
use Rattle.gb_walk.specs.Change.{Changes, or_later, found_for_read, side_changed}
use Rattle.gb_meaning.specs.Meanings.{value_in}
use Rattle.gb_meaning.specs.Memory.{arguments}
use Rattle.gb_meaning.specs.Names.{Name, Map, get}
use Rattle.gb_meaning.specs.Setting.{Setting}
use Rattle.gb_meaning.specs.Setting.Meaning.{finite}
use Rattle.gb_meaning.specs.State.{State}
use Rattle.gb_meaning.specs.Terms.{Speaks, val}
use Rattle.gb_meaning.specs.Values.{has, fit}
use Rattle.gb_meaning.specs.Written.{type_of, local_type}
use Rattle.gb_meaning.proofs.Maps.{get-set_same, get-set_other}
use Rattle.gb_meaning.proofs.Numberings.{fit_has}
use Rattle.gb_laws.specs.Finite.{IsFinite}
use Rattle.gb_laws.specs.Led.{IsPut, ArePut, Enters}
use Rattle.gb_laws.specs.Plain.{IsPlain}
use Rattle.gb_laws.specs.Programs.{AreValuesOf}
use Rattle.gb_laws.proofs.Denominators.{denominator_one}
use Rattle.gb_laws.proofs.Quiet.{plain_quiet}
use Rattle.gb_typing.specs.Context.{Context, erased}
use Rattle.gb_typing.specs.Fits.{IsSettingOf, IsStateOf}
use Rattle.gb_typing.specs.Typing.{IsTyped}
use Rattle.gb_typing.proofs.Erased.{erased_typed}
use Rattle.gb_typing.proofs.Formed.{formed}
use Rattle.gb_typing.proofs.Scripts.{none_some, same_some}
use Rattle.gb_typing.proofs.Substituted.{finite_no_distribution, term_value, term_has}
use Rattle.gb_pr.specs.Started.{given_for}

-- a term for a parameter: of its type, which has values, and it speaks of no program
pub record IsGiven (c : Context) (x : TypedName) (e : Term) : Type 0 where
  pub typed : IsTyped c e
  pub plain : IsPlain e
  pub type : type_of e ≡ x.ty
  pub finite : IsFinite x.ty

-- one for each
abbrev pub AreGiven : Context → List TypedName → List Term → Type 0
AreGiven c [] [] = Unit {0}
AreGiven c (x ∷ xs) (e ∷ es) = IsGiven c x e × AreGiven c xs es
AreGiven c _ _ = ⊥

abbrev pub starting : Side → List TypedName → List Term → Side → Changes → Changes
starting r xs es m rest = given_for r xs es ++ ToSide r m ∷ rest

skipped : (b : Bool) (t : Term) (o : Option Term) → or_later (b && false) t o ≡ o
skipped true t o = refl
skipped false t o = refl

module _ (r m : Side) (rest : Changes) where
  abbrev cs : List TypedName → List Term → Changes
  cs xs es = starting r xs es m rest

  pub logical_found : (xs : List TypedName) (es : List Term) (i : ℕ) → found_for_read (cs xs es) (Logical i) ≡ found_for_read rest (Logical i)
  logical_found [] es i = refl
  logical_found (x ∷ xs) [] i = refl
  logical_found (x ∷ xs) (e ∷ es) i = logical_found xs es i

  pub other_found : (s : Side) → side_eq r s ≡ false → (xs : List TypedName) (es : List Term) (y : Var) → found_for_read (cs xs es) (Program y s) ≡ found_for_read rest (Program y s)
  other_found s h [] es y = refl
  other_found s h (x ∷ xs) [] y = refl
  other_found s h (x ∷ xs) (e ∷ es) y =
      ap (λ b. or_later (var_eq (var.Local x.name) y && b) e (found_for_read (cs xs es) (Program y s))) h
      ∙ skipped (var_eq (var.Local x.name) y) e (found_for_read (cs xs es) (Program y s)) ∙ other_found s h xs es y

  pub global_found : (s : Side) (xs : List TypedName) (es : List Term) (p z : Name) → found_for_read (cs xs es) (Program (var.Global p z) s) ≡ found_for_read rest (Program (var.Global p z) s)
  global_found s [] es p z = refl
  global_found s (x ∷ xs) [] p z = refl
  global_found s (x ∷ xs) (e ∷ es) p z = global_found s xs es p z

  pub globals_found : (s : Side) (xs : List TypedName) (es : List Term) (a : Name) → found_for_read (cs xs es) (Program (var.Glob a) s) ≡ found_for_read rest (Program (var.Glob a) s)
  globals_found s [] es a = refl
  globals_found s (x ∷ xs) [] a = refl
  globals_found s (x ∷ xs) (e ∷ es) a = globals_found s xs es a

  pub side_here : side_eq r r ≡ true → (xs : List TypedName) (es : List Term) → side_changed (cs xs es) r ≡ m
  side_here h [] es = ap (λ b. if b then m else side_changed rest r) h
  side_here h (x ∷ xs) [] = ap (λ b. if b then m else side_changed rest r) h
  side_here h (x ∷ xs) (e ∷ es) = side_here h xs es

  pub side_other : (s : Side) → side_eq r s ≡ false → (xs : List TypedName) (es : List Term) → side_changed (cs xs es) s ≡ side_changed rest s
  side_other s h [] es = ap (λ b. if b then m else side_changed rest s) h
  side_other s h (x ∷ xs) [] = ap (λ b. if b then m else side_changed rest s) h
  side_other s h (x ∷ xs) (e ∷ es) = side_other s h xs es

  -- what is put in is not captured where what P holds of is not
  pub enters : (P : Term → Type 0) (p : Side → Bool) → p m ≡ false → (c : Context) → ((e : Term) → IsTyped c e → IsPlain e → P e) → Enters P p rest →
      (xs : List TypedName) (es : List Term) → AreGiven c xs es → Enters P p (cs xs es)
  enters P p h c f k [] es w = ((λ e. h), k)
  enters P p h c f k (x ∷ xs) [] w = ((λ e. h), k)
  enters P p h c f k (x ∷ xs) (e ∷ es) w = ((λ q. f e w.0.typed w.0.plain), enters P p h c f k xs es w.1)

  pub are_put : (g : Setting) (c : Context) → ArePut g rest → (xs : List TypedName) (es : List Term) → AreGiven c xs es → ArePut g (cs xs es)
  are_put g c k [] es w = (tt, k)
  are_put g c k (x ∷ xs) [] w = (tt, k)
  are_put g c k (x ∷ xs) (e ∷ es) w = (is_put, are_put g c k xs es w.1)
    where
      is_put : IsPut g e
      is_put = record {
        formed = formed c e w.0.typed;
        plain = w.0.plain;
        denominator = denominator_one g (erased c) e (erased_typed c e w.0.typed) (finite_no_distribution (type_of e) (subst IsFinite (sym w.0.type) w.0.finite));
      }

same_name : (x y : Name) → bytes_eq x y ≡ true → bytes_eq y x ≡ true
same_name x y e = (bytes_eq-Decides y x).1 (sym ((bytes_eq-Decides x y).0 e))

other_name : (x y : Name) → bytes_eq x y ≡ false → bytes_eq y x ≡ false
other_name x y e = step (bytes_eq y x) refl
  where
    step : (b : Bool) → bytes_eq y x ≡ b → bytes_eq y x ≡ false
    step true k = absurd (false≢true (sym e ∙ same_name y x k))
    step false k = k

other_path : (x y : Name) → bytes_eq x y ≡ false → (x ∷ []) ≢ (y ∷ [])
other_path x y e w = false≢true (sym e ∙ (bytes_eq-Decides x y).1 (ap (λ l. get_or l 0 []) w))

module _ (c : Context) where
  -- a term that is given has a value of its type
  module _ (g : Setting) (fits : IsSettingOf c g) (j : Speaks) (s : State) (fit : IsStateOf c g s) (x : TypedName) (e : Term) (w : IsGiven c x e) where
    finite_type : IsFinite (type_of e)
    finite_type = subst IsFinite (sym w.type) w.finite

    pub given_value : val g j e s ≡ finite (value_in (val g j e s))
    given_value =
        plain_quiet g j e w.plain s ∙ term_value c g fits e w.typed finite_type s fit ∙ ap (λ v. finite (value_in v)) (sym (plain_quiet g j e w.plain s))

    pub given_has : has g.types x.ty (value_in (val g j e s)) ≡ true
    given_has =
        subst (λ u. has g.types u (value_in (val g j e s)) ≡ true) w.type
        (subst (λ v. has g.types (type_of e) (value_in v) ≡ true) (sym (plain_quiet g j e w.plain s)) (term_has c g fits e w.typed finite_type s fit))

  abbrev pub values : Setting → Speaks → State → List Term → List Value
  values g j s es = map (λ e. value_in (val g j e s)) es

  pub given_values : (g : Setting) → IsSettingOf c g → (j : Speaks) (s : State) → IsStateOf c g s → (xs : List TypedName) (es : List Term) → AreGiven c xs es → AreValuesOf g.types xs (values g j s es)
  given_values g fits j s fit [] [] w = tt
  given_values g fits j s fit [] (e ∷ es) w = absurd w
  given_values g fits j s fit (x ∷ xs) [] w = absurd w
  given_values g fits j s fit (x ∷ xs) (e ∷ es) w = (given_has g fits j s fit x e w.0, given_values g fits j s fit xs es w.1)

  module _ (r m : Side) (rest : Changes) (here : side_eq r r ≡ true) where
    -- the term for a parameter
    pub record IsArgument (xs : List TypedName) (es : List Term) (y : Name) (t : Ty) : Type 0 where
      pub term : Term
      pub found : found_for_read (starting r xs es m rest) (Program (var.Local y) r) ≡ Some term
      pub typed : IsTyped c term
      pub plain : IsPlain term
      pub type : type_of term ≡ t
      pub value : (g : Setting) → IsSettingOf c g → (j : Speaks) (s : State) → IsStateOf c g s → (E : Map) →
          val g j term s ≡ finite (fit g.types t (get (arguments E xs (values g j s es)) (y ∷ [])))

    pub found_argument : (xs : List TypedName) (es : List Term) → AreGiven c xs es → (y : Name) (t : Ty) → local_type xs y ≡ Some t → IsArgument xs es y t
    found_argument [] es w y t h = none_some t h
    found_argument (x ∷ xs) [] w y t h = absurd w
    found_argument (x ∷ xs) (e ∷ es) w y t h = step (bytes_eq y x.name) refl (found_argument xs es w.1 y t) h
      where
        step : (v : Bool) → bytes_eq y x.name ≡ v → (local_type xs y ≡ Some t → IsArgument xs es y t) → (if v then Some x.ty else local_type xs y) ≡ Some t → IsArgument (x ∷ xs) (e ∷ es) y t
        step true q behind h =
            let k : x.ty ≡ t = same_some x.ty t h in
            record {
              term = e;
              found = λ i. or_later (same_name y x.name q i && here i) e (found_for_read (starting r xs es m rest) (Program (var.Local y) r));
              typed = w.0.typed;
              plain = w.0.plain;
              type = w.0.type ∙ k;
              value = λ g fits j s ok E.
                  let v : Value = value_in (val g j e s) in
                  given_value g fits j s ok x e w.0
                  ∙ sym (ap finite (
                  (λ i. fit g.types (sym k i) (get (arguments E (x ∷ xs) (values g j s (e ∷ es))) ((bytes_eq-Decides y x.name).0 q i ∷ [])))
                  ∙ ap (fit g.types x.ty) (get-set_same (arguments E xs (values g j s es)) (x.name ∷ []) v)
                  ∙ fit_has g.types x.ty v (given_has g fits j s ok x e w.0)
                  ));
            }
        step false q behind h =
            let a = behind h in
            record {
              term = a.term;
              found = (λ i. or_later (other_name y x.name q i && here i) e (found_for_read (starting r xs es m rest) (Program (var.Local y) r))) ∙ a.found;
              typed = a.typed;
              plain = a.plain;
              type = a.type;
              value = λ g fits j s ok E.
                  a.value g fits j s ok E
                  ∙ sym (ap (λ o. finite (fit g.types t o)) (get-set_other (arguments E xs (values g j s es)) (x.name ∷ []) (value_in (val g j e s)) (y ∷ []) (other_path y x.name q)));
            }
