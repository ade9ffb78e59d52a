-- Types that a script spells, and types of distributions.
use Rattle.std.proofs.Common.{◌≡◌, ℕ, zero, suc, ◌<◌, nat_lt, ◌==◌, ◌||◌, Bool, true, false, if◌then◌else◌, List, [], ◌∷◌, map, take, drop, None, bytes_eq, refl, ap, sym, ◌∙◌, subst, arith}
use Rattle.std.specs.Prelude.{codes}
use Rattle.std.specs.List.{AllByRecursion}
use Rattle.std.proofs.lemmas.Bool.{false≢true}
use Rattle.gb_core.specs.declared.place.Place.{Place}
use Rattle.gb_core.specs.declared.refusal.Why.TheVariants.{Argument, TypeMismatch}
use Rattle.gb_core.specs.declared.ty.Ty.{Ty, out-Ty, end_of-Ty, more_of-Ty}
use Rattle.gb_core.specs.declared.ty.Ty.TheVariants as ty
use Rattle.gb_core.specs.declared.ty.Ty.TheOpen as layer
use Rattle.gb_core.specs.declared.ty.Ty.TheViews.{out-roll-Ty}
use Rattle.gb_script.specs.declared.head.Head.{Head}
use Rattle.gb_script.specs.declared.head.Head.TheVariants as head
use Rattle.gb_script.specs.declared.tree.Node.{Node}
use Rattle.gb_script.specs.Tree.{place_of, text_of}
use Rattle.gb_limits.specs.Numbers.{number_of}
use Rattle.gb_meaning.specs.Operators.{outcome_type}
use Rattle.gb_meaning.specs.Trees.{distributions}
use Rattle.gb_laws.specs.Finite.{AreFiniteWith, IsFinite, IsVariableType}
use Rattle.gb_laws.specs.Operators.{row, IsNoDistribution, IsDistributionType}
use Rattle.gb_laws.specs.Programs.{HaveFiniteTypes}
use Rattle.gb_laws.proofs.Constructors.{distribution_is, map_is, option_is, tuple_is}
use Rattle.gb_typing.specs.Programs.{HaveVariableTypes}
use Rattle.gb_typing.proofs.Variables.{variable_finite}
use Rattle.gb_terms.specs.declared.decl.TypedName.{TypedName}
use Rattle.gb_goal.specs.Answers.{Answer, ◌>>=◌}
use Rattle.gb_goal.specs.Scope.{Declarations, type_named}
use Rattle.gb_goal.specs.Answers.Answer.{given, refused}
use Rattle.gb_names.specs.Allowed.{is_distribution, is_distribution_layer}
use Rattle.gb_names.specs.Names.{no_declared, path}
use Rattle.gb_names.specs.Types.{Spelling, plain_type, up_to, bits_type, int_type, option_type, map_type, all_spelled, tuple_of, tuple_type, declared_type, words, spelling, spelled, type_of}
use Rattle.gb_elab_laws.specs.Fitting.{AreTypes}
use Rattle.gb_elab_laws.proofs.Given.{given_bind, given_is, if_refused, some_given, not_given}
use Rattle.gb_names.proofs.Nodes.{by_parts}

pub have_finite : (vs : List TypedName) → HaveVariableTypes vs → HaveFiniteTypes vs
have_finite [] h = tt
have_finite (v ∷ vs) h = (variable_finite v.ty h.0, have_finite vs h.1)

-- a type of values is none of distributions
pub no_distribution : (t : Ty) → IsFinite t → IsNoDistribution t
no_distribution (ty.Distr' p x) v = absurd v
no_distribution _ v = tt

pub distribution_layer : (t : Ty) → out-Ty (distributions t) ≡ layer.Distr t
distribution_layer t = ap out-Ty (sym (ty.rolls-Distr t ∙ distribution_is t)) ∙ out-roll-Ty (layer.Distr t)

pub no_distribution_from : (t : Ty) → is_distribution t ≡ false → IsNoDistribution t
no_distribution_from (ty.Distr' p (more_of-Ty t end_of-Ty)) e = absurd (false≢true (sym e ∙ ap is_distribution_layer (distribution_layer t)))
no_distribution_from ty.Unit e = tt
no_distribution_from ty.Bool e = tt
no_distribution_from (ty.Bits n) e = tt
no_distribution_from (ty.Mod n) e = tt
no_distribution_from (ty.Enumeration x n) e = tt
no_distribution_from (ty.Tuple' n ts) e = tt
no_distribution_from (ty.Opt' p x) e = tt
no_distribution_from (ty.Map' p k q x) e = tt
no_distribution_from (ty.Abstract x) e = tt
no_distribution_from (ty.Glob x) e = tt
no_distribution_from ty.Int e = tt
no_distribution_from ty.Real e = tt

-- the distributions over a type of variables
pub distributions_over : (t u : Ty) → IsFinite t → u ≡ ty.Distr t → IsDistributionType u × (outcome_type u ≡ t)
distributions_over t u v e =
    subst (λ z. IsDistributionType z × (outcome_type z ≡ t)) (sym (e ∙ distribution_is t)) (v, refl)

-- what is given is a type of variables, or each of what is given
abbrev GivesVariable : Answer Ty → Type 0
GivesVariable a = (u : Ty) → a ≡ given u → IsVariableType u

abbrev IsOfVariables : Spelling → Type 0
IsOfVariables f = (ds : Declarations) → AreTypes ds → (p : Place) → GivesVariable (f ds p)

-- a type, with what is known of it
abbrev Known : Type 0
Known = (t : Node) × IsOfVariables (spelled t)

abbrev parts : List Known → List (Node × Spelling)
parts ks = map (λ k. (k.0, spelled k.0)) ks

-- types of variables make types of variables
option_typed : (t : Ty) → IsVariableType t → IsVariableType (ty.Opt t)
option_typed t h = subst IsVariableType (sym (option_is t)) (h, tt)

map_typed : (t u : Ty) → IsVariableType t → IsVariableType u → IsVariableType (ty.Map t u)
map_typed t u h k = subst IsVariableType (sym (map_is t u)) ((h, tt), (k, tt))

row_typed : (ts : List Ty) → AllByRecursion IsVariableType ts → AreFiniteWith false (row ts)
row_typed [] h = tt
row_typed (t ∷ ts) h = (h.0, row_typed ts h.1)

pub tuple_typed : (ts : List Ty) → AllByRecursion IsVariableType ts → IsVariableType (ty.Tuple ts)
tuple_typed ts h = subst IsVariableType (sym (tuple_is ts)) (row_typed ts h)

plain_typed : (x : List ℕ) (p : Place) → GivesVariable (plain_type x p)
plain_typed x p u h = step (bytes_eq x (codes "unit")) (bytes_eq x (codes "bool")) h
  where
    step : (b c : Bool) → (if b then given ty.Unit else if c then given ty.Bool else refused TypeMismatch p) ≡ given u → IsVariableType u
    step true c e = subst IsVariableType (given_is ty.Unit u e) tt
    step false true e = subst IsVariableType (given_is ty.Bool u e) tt
    step false false e = cc

-- a number up to a bound is above 0
above_none : (most : ℕ) (n : Node) (k : ℕ) → up_to most n ≡ given k → 0 < k
above_none most n k h = step (number_of (text_of n)) h
  where
    step : (m : ℕ) → (if m == 0 || nat_lt most m then refused Argument (place_of n) else given m) ≡ given k → 0 < k
    step zero e = cc
    step (suc m) e =
        let f = if_refused (suc m == 0 || nat_lt most (suc m)) Argument (place_of n) (given (suc m)) k e in
        subst (λ z. 0 < z) (given_is (suc m) k f.1) (omega arith)

bits_typed : (ks : List (Node × Spelling)) (p : Place) → GivesVariable (bits_type ks p)
bits_typed [] p u h = cc
bits_typed (n ∷ []) p u h =
    let k = given_bind (up_to 16 n.0) (λ k. given (ty.Bits k)) u h in
    subst IsVariableType (given_is (ty.Bits k.0) u k.2) tt
bits_typed (n ∷ m ∷ ks) p u h = cc

int_typed : (ks : List (Node × Spelling)) (p : Place) → GivesVariable (int_type ks p)
int_typed [] p u h = cc
int_typed (n ∷ []) p u h =
    let k = given_bind (up_to 65536 n.0) (λ k. given (ty.Mod k)) u h in
    subst IsVariableType (given_is (ty.Mod k.0) u k.2) (above_none 65536 n.0 k.0 k.1)
int_typed (n ∷ m ∷ ks) p u h = cc

module _ (ds : Declarations) (names : AreTypes ds) where
  options_typed : (ks : List Known) (p : Place) → GivesVariable (option_type (parts ks) ds p)
  options_typed [] p u h = cc
  options_typed (k ∷ []) p u h =
      let t = given_bind (spelled k.0 ds p) (λ t. given (ty.Opt t)) u h in
      subst IsVariableType (given_is (ty.Opt t.0) u t.2) (option_typed t.0 (k.1 ds names p t.0 t.1))
  options_typed (k ∷ l ∷ ks) p u h = cc

  maps_typed : (ks : List Known) (p : Place) → GivesVariable (map_type (parts ks) ds p)
  maps_typed [] p u h = cc
  maps_typed (k ∷ []) p u h = cc
  maps_typed (k ∷ l ∷ []) p u h =
      let t = given_bind (spelled k.0 ds p) (λ t. spelled l.0 ds p >>= λ v. given (ty.Map t v)) u h in
      let v = given_bind (spelled l.0 ds p) (λ v. given (ty.Map t.0 v)) u t.2 in
      subst IsVariableType (given_is (ty.Map t.0 v.0) u v.2) (map_typed t.0 v.0 (k.1 ds names p t.0 t.1) (l.1 ds names p v.0 v.1))
  maps_typed (k ∷ l ∷ m ∷ ks) p u h = cc

  all_typed : (n : ℕ) (ks : List Known) (p : Place) (ts : List Ty) → all_spelled (take n (parts ks)) ds p ≡ given ts → AllByRecursion IsVariableType ts
  all_typed zero ks p ts h = subst (AllByRecursion IsVariableType) (given_is [] ts h) tt
  all_typed (suc n) [] p ts h = subst (AllByRecursion IsVariableType) (given_is [] ts h) tt
  all_typed (suc n) (k ∷ ks) p ts h =
      let t = given_bind (spelled k.0 ds p) (λ t. all_spelled (take n (parts ks)) ds p >>= λ us. given (t ∷ us)) ts h in
      let us = given_bind (all_spelled (take n (parts ks)) ds p) (λ us. given (t.0 ∷ us)) ts t.2 in
      subst (AllByRecursion IsVariableType) (given_is (t.0 ∷ us.0) ts us.2) (k.1 ds names p t.0 t.1, all_typed n ks p us.0 us.1)

  tuples_typed : (ks : List Known) (p : Place) → GivesVariable (tuple_type (parts ks) ds p)
  tuples_typed ks p u h =
      let ts = given_bind (all_spelled (take 8 (parts ks)) ds p) (λ ts. tuple_of ts (drop 8 (parts ks))) u h in
      last (drop 8 (parts ks)) ts.0 (all_typed 8 ks p ts.0 ts.1) ts.2
    where
      last : (more : List (Node × Spelling)) (ts : List Ty) → AllByRecursion IsVariableType ts → tuple_of ts more ≡ given u → IsVariableType u
      last [] ts k e = subst IsVariableType (given_is (ty.Tuple ts) u e) (tuple_typed ts k)
      last (a ∷ more) ts k e = cc

  -- a name of a type
  named_typed : (x : List ℕ) (q : Place) → GivesVariable (declared_type ds x q)
  named_typed x q u h = names x u (some_given (type_named ds x) (no_declared None ds x) q u h)

of_parts : (k : Head) (x : List ℕ) (ks : List Known) (q : Place) → IsOfVariables (spelling k x (parts ks) q)
unfolding spelling
of_parts head.PlainType x ks q ds n at u h = plain_typed x at u h
of_parts head.BitsType x ks q ds n at u h = bits_typed (parts ks) at u h
of_parts head.IntType x ks q ds n at u h = int_typed (parts ks) at u h
of_parts head.BracketedType x (k ∷ []) q ds n at u h = k.1 ds n at u h
of_parts head.OptionType x ks q ds n at u h = options_typed ds n ks at u h
of_parts head.MapType x ks q ds n at u h = maps_typed ds n ks at u h
of_parts head.ProductType x ks q ds n at u h = tuples_typed ds n ks at u h
of_parts head.Name x ks q ds n at u h = named_typed ds n x q u h
of_parts head.Path x ks q ds n at u h = named_typed ds n (path (words (parts ks))) q u h
of_parts _ x _ q ds n at u h = absurd (not_given _ _ u h)

all_of_variables : (t : Node) → IsOfVariables (spelled t)
unfolding spelled
all_of_variables = by_parts (λ k x ys q. spelling k x ys q) IsOfVariables of_parts

-- a script spells types of variables
pub spelled_typed : (ds : Declarations) → AreTypes ds → (t : Node) (u : Ty) → type_of ds t ≡ given u → IsVariableType u
spelled_typed ds names t u h = all_of_variables t ds names (place_of t) u h
