-- Types that a script spells are written in the language, where what is declared is named.
use Rattle.std.proofs.Common.{◌≡◌, ℕ, ◌≤◌, zero, suc, nat_lt, ◌==◌, ◌||◌, Bool, true, false, if◌then◌else◌, List, [], ◌∷◌, take, drop, Option, Some, None, bytes_eq, refl, ap, sym, ◌∙◌, subst, arith}
use Rattle.std.specs.Prelude.{◌^◌, codes}
use Rattle.std.specs.List.{AllByRecursion}
use Rattle.std.proofs.lemmas.Bool.{lt-ltb, ltb-false}
use Rattle.gb_core.specs.declared.place.Place.{Place}
use Rattle.gb_core.specs.declared.refusal.Why.TheVariants.{Argument, TypeMismatch}
use Rattle.gb_core.specs.declared.ty.Ty.{Ty, out-Ty}
use Rattle.gb_core.specs.declared.ty.Ty.TheVariants as ty
use Rattle.gb_core.specs.declared.ty.Ty.TheOpen as layer
use Rattle.gb_core.specs.declared.ty.Ty.TheViews.{out-roll-Ty}
use Rattle.gb_laws.proofs.Constructors.{map_is, option_is, tuple_is}
use Rattle.gb_script.specs.declared.head.Head.{Head}
use Rattle.gb_script.specs.declared.head.Head.TheVariants as head
use Rattle.gb_script.specs.declared.tree.Node.{Node}
use Rattle.gb_script.specs.Each.{Each, each, EachOf, none, more}
use Rattle.gb_script.specs.Tree.{head_of, parts_of, place_of, text_of}
use Rattle.gb_limits.specs.Numbers.{number_of}
use Rattle.gb_goal.specs.Answers.{Answer, ◌>>=◌}
use Rattle.gb_goal.specs.Answers.Answer.{given, refused}
use Rattle.gb_goal.specs.Scope.{Declarations, type_named}
use Rattle.gb_names.specs.Names.{no_declared, path}
use Rattle.gb_names.specs.Types.{Spelling, plain_type, up_to, bits_type, int_type, bracketed_type, option_type, map_type, all_spelled, tuple_of, tuple_type, declared_type, words, spelling, spelled, with_spellings, type_of, number_typing, number_type, with_number_types, type_or_number}
use Rattle.gb_names.proofs.Nodes.{said_is}
use Rattle.gb_print_names.specs.declared.bound_names.Enumeration.{Enumeration}
use Rattle.gb_print.specs.Written.{in_range, IsWrittenType, AreWrittenTypes}
use Rattle.gb_print.specs.Written as w
use Rattle.gb_shown.specs.Named.{IsNamedType}
use Rattle.gb_shown.specs.Rules.{HasFirst}
use Rattle.gb_shown.specs.Scopes.{IsNamedScope}
use Rattle.gb_shown.specs.Trees.{HasItsParts, IsFull}
use Rattle.gb_shown.proofs.Given.{given_bind, given_is, if_refused, some_given, chosen, either}
use Rattle.gb_shown.proofs.Types.{written_named}
use Rattle.gb_shown.proofs.FoundInForms.{type_found}

-- a number up to a bound is in range
up_to_bound : (most : ℕ) → most ≤ 65536 → (n : Node) (k : ℕ) → up_to most n ≡ given k → in_range k ≡ true
up_to_bound most b n k h =
    let m = number_of (text_of n) in
    let f = if_refused (m == 0 || nat_lt most m) Argument (place_of n) (given m) k h in
    subst (λ z. in_range z ≡ true) (given_is m k f.1) (step m (m == 0) (nat_lt most m) refl f.0)
  where
    step : (m : ℕ) (a c : Bool) → nat_lt most m ≡ c → (a || c) ≡ false → in_range m ≡ true
    step m false false e i = let l = ltb-false most m e in lt-ltb m (2 ^ 127) (omega (arith, l, b))
    step m _ _ e i = cc

module _ (es : List Enumeration) (ds : Declarations) (scope : IsNamedScope es ds) where
  -- a type that is written where no module is bound
  abbrev IsGood : Ty → Type 0
  IsGood t = IsWrittenType 0 [] t × HasFirst es t

  abbrev Gives : Answer Ty → Type 0
  Gives a = (u : Ty) → a ≡ given u → IsGood u

  abbrev IsOfNames : Spelling → Type 0
  IsOfNames f = (p : Place) → Gives (f ds p)

  abbrev AllOfNames : List Node → Type 0
  AllOfNames ns = AllByRecursion (λ n. IsOfNames (spelled n)) ns

  option_good : (t : Ty) → IsGood t → IsGood (ty.Opt t)
  option_good t h = (w.option (ap out-Ty (sym (ty.rolls-Opt t)) ∙ out-roll-Ty (layer.Opt t)) h.0, subst (HasFirst es) (sym (option_is t)) tt)

  map_good : (t u : Ty) → IsGood t → IsGood u → IsGood (ty.Map t u)
  map_good t u h k = (w.maps (ap out-Ty (sym (ty.rolls-Map t u)) ∙ out-roll-Ty (layer.Map t u)) h.0 k.0, subst (HasFirst es) (sym (map_is t u)) tt)

  all_good : (ts : List Ty) → AllByRecursion IsGood ts → AreWrittenTypes 0 [] ts
  all_good [] h = w.none
  all_good (t ∷ ts) h = w.more h.0.0 (all_good ts h.1)

  tuple_good : (t u : Ty) (ts : List Ty) → AllByRecursion IsGood (t ∷ u ∷ ts) → IsGood (ty.Tuple (t ∷ u ∷ ts))
  tuple_good t u ts h =
      (w.product (ap out-Ty (sym (ty.rolls-Tuple (t ∷ u ∷ ts))) ∙ out-roll-Ty (layer.Tuple (t ∷ u ∷ ts))) (all_good (t ∷ u ∷ ts) h), subst (HasFirst es) (sym (tuple_is (t ∷ u ∷ ts))) tt)

  unit_good : IsGood ty.Unit
  unit_good = (w.unit (ap out-Ty (sym ty.rolls-Unit) ∙ out-roll-Ty layer.Unit), tt)

  bool_good : IsGood ty.Bool
  bool_good = (w.bool (ap out-Ty (sym ty.rolls-Bool) ∙ out-roll-Ty layer.Bool), tt)

  plain_good : (x : List ℕ) (p : Place) → Gives (plain_type x p)
  plain_good x p u h = step (bytes_eq x (codes "unit")) (bytes_eq x (codes "bool")) h
    where
      step : (b c : Bool) → (if b then given ty.Unit else if c then given ty.Bool else refused TypeMismatch p) ≡ given u → IsGood u
      step true c e = subst IsGood (given_is ty.Unit u e) unit_good
      step false true e = subst IsGood (given_is ty.Bool u e) bool_good
      step false false e = cc

  bits_good : (ns : List Node) (p : Place) → Gives (bits_type (with_spellings ns) p)
  bits_good [] p u h = cc
  bits_good (n ∷ []) p u h =
      let k = given_bind (up_to 16 n) (λ k. given (ty.Bits k)) u h in
      subst IsGood (given_is (ty.Bits k.0) u k.2) (w.bits (ap out-Ty (sym (ty.rolls-Bits k.0)) ∙ out-roll-Ty (layer.Bits k.0)) (up_to_bound 16 (omega arith) n k.0 k.1), tt)
  bits_good (n ∷ m ∷ ns) p u h = cc

  int_good : (ns : List Node) (p : Place) → Gives (int_type (with_spellings ns) p)
  int_good [] p u h = cc
  int_good (n ∷ []) p u h =
      let k = given_bind (up_to 65536 n) (λ k. given (ty.Mod k)) u h in
      subst IsGood (given_is (ty.Mod k.0) u k.2) (w.numbers (ap out-Ty (sym (ty.rolls-Mod k.0)) ∙ out-roll-Ty (layer.Mod k.0)) (up_to_bound 65536 (omega arith) n k.0 k.1), tt)
  int_good (n ∷ m ∷ ns) p u h = cc

  bracketed_good : (ns : List Node) → AllOfNames ns → (p : Place) → Gives (bracketed_type (with_spellings ns) ds p)
  bracketed_good [] a p u h = cc
  bracketed_good (n ∷ []) a p u h = a.0 p u h
  bracketed_good (n ∷ m ∷ ns) a p u h = cc

  options_good : (ns : List Node) → AllOfNames ns → (p : Place) → Gives (option_type (with_spellings ns) ds p)
  options_good [] a p u h = cc
  options_good (n ∷ []) a p u h =
      let t = given_bind (spelled n ds p) (λ t. given (ty.Opt t)) u h in subst IsGood (given_is (ty.Opt t.0) u t.2) (option_good t.0 (a.0 p t.0 t.1))
  options_good (n ∷ m ∷ ns) a p u h = cc

  maps_good : (ns : List Node) → AllOfNames ns → (p : Place) → Gives (map_type (with_spellings ns) ds p)
  maps_good [] a p u h = cc
  maps_good (n ∷ []) a p u h = cc
  maps_good (n ∷ m ∷ []) a p u h =
      let t = given_bind (spelled n ds p) (λ t. spelled m ds p >>= λ v. given (ty.Map t v)) u h in
      let v = given_bind (spelled m ds p) (λ v. given (ty.Map t.0 v)) u t.2 in
      subst IsGood (given_is (ty.Map t.0 v.0) u v.2) (map_good t.0 v.0 (a.0 p t.0 t.1) (a.1.0 p v.0 v.1))
  maps_good (n ∷ m ∷ l ∷ ns) a p u h = cc

  each_good : (k : ℕ) (ns : List Node) → AllOfNames ns → (p : Place) (ts : List Ty) → all_spelled (take k (with_spellings ns)) ds p ≡ given ts → AllByRecursion IsGood ts
  each_good zero ns a p ts h = subst (AllByRecursion IsGood) (given_is [] ts h) tt
  each_good (suc k) [] a p ts h = subst (AllByRecursion IsGood) (given_is [] ts h) tt
  each_good (suc k) (n ∷ ns) a p ts h =
      let t = given_bind (spelled n ds p) (λ t. all_spelled (take k (with_spellings ns)) ds p >>= λ us. given (t ∷ us)) ts h in
      let us = given_bind (all_spelled (take k (with_spellings ns)) ds p) (λ us. given (t.0 ∷ us)) ts t.2 in
      subst (AllByRecursion IsGood) (given_is (t.0 ∷ us.0) ts us.2) (a.0 p t.0 t.1, each_good k ns a.1 p us.0 us.1)

  joined : (t v : Ty) (vs us ts : List Ty) → v ∷ vs ≡ us → t ∷ us ≡ ts → IsGood (ty.Tuple (t ∷ v ∷ vs)) → IsGood (ty.Tuple ts)
  joined t v vs us ts e f h = subst (λ z. IsGood (ty.Tuple z)) (ap (λ z. t ∷ z) e ∙ f) h

  -- two parts at least
  tuples_good : (ns : List Node) → HasItsParts head.ProductType ns → AllOfNames ns → (p : Place) → Gives (tuple_type (with_spellings ns) ds p)
  tuples_good (n ∷ m ∷ ns) two a p u h =
      let ts = given_bind (all_spelled (take 8 (with_spellings (n ∷ m ∷ ns))) ds p) (λ ts. tuple_of ts (drop 6 (with_spellings ns))) u h in
      let t = given_bind (spelled n ds p) _ ts.0 ts.1 in
      let us = given_bind (all_spelled (take 7 (with_spellings (m ∷ ns))) ds p) (λ us. given (t.0 ∷ us)) ts.0 t.2 in
      let v = given_bind (spelled m ds p) _ us.0 us.1 in
      let vs = given_bind (all_spelled (take 6 (with_spellings ns)) ds p) (λ us. given (v.0 ∷ us)) us.0 v.2 in
      last (drop 6 (with_spellings ns)) ts.0
      (joined t.0 v.0 vs.0 us.0 ts.0 (given_is (v.0 ∷ vs.0) us.0 vs.2) (given_is (t.0 ∷ us.0) ts.0 us.2)
      (tuple_good t.0 v.0 vs.0 (a.0 p t.0 t.1, (a.1.0 p v.0 v.1, each_good 6 ns a.1.1 p vs.0 vs.1)))) ts.2
    where
      last : (rest : List (Node × Spelling)) (ts : List Ty) → IsGood (ty.Tuple ts) → tuple_of ts rest ≡ given u → IsGood u
      last [] ts k e = subst IsGood (given_is (ty.Tuple ts) u e) k
      last (b ∷ rest) ts k e = cc
  tuples_good [] two a p u h = absurd two
  tuples_good (n ∷ []) two a p u h = absurd two

  -- a name of a type
  declared_good : (x : List ℕ) (q : Place) → Gives (declared_type ds x q)
  declared_good x q u h = type_found es ds scope x u (some_given (type_named ds x) (no_declared None ds x) q u h)

  of_parts : (k : Head) (x : List ℕ) (ns : List Node) (q : Place) → HasItsParts k ns → AllOfNames ns → IsOfNames (spelling k x (with_spellings ns) q)
  unfolding spelling
  of_parts head.PlainType x ns q two a p u h = plain_good x p u h
  of_parts head.BitsType x ns q two a p u h = bits_good ns p u h
  of_parts head.IntType x ns q two a p u h = int_good ns p u h
  of_parts head.BracketedType x ns q two a p u h = bracketed_good ns a p u h
  of_parts head.OptionType x ns q two a p u h = options_good ns a p u h
  of_parts head.MapType x ns q two a p u h = maps_good ns a p u h
  of_parts head.ProductType x ns q two a p u h = tuples_good ns two a p u h
  of_parts head.Name x ns q two a p u h = declared_good x q u h
  of_parts head.Path x ns q two a p u h = declared_good (path (words (with_spellings ns))) q u h
  of_parts _ x ns q two a p u h = cc

  mutual
    unfolding spelled

    all_of_names : (t : Node) → Each IsFull t → IsOfNames (spelled t)
    all_of_names t (each h hs) = subst IsOfNames (sym (said_is (λ k x ys q. spelling k x ys q) t)) (of_parts (head_of t) (text_of t) (parts_of t) (place_of t) h (each_of_names (parts_of t) hs))

    each_of_names : (ns : List Node) → EachOf IsFull ns → AllOfNames ns
    each_of_names [] none = tt
    each_of_names (n ∷ ns) (more h hs) = (all_of_names n h, each_of_names ns hs)

  -- a script spells types that are written
  pub spelled_good : (t : Node) → Each IsFull t → (u : Ty) → type_of ds t ≡ given u → IsWrittenType 0 [] u × HasFirst es u
  spelled_good t full u h = all_of_names t full (place_of t) u h

  pub spelled_named : (t : Node) → Each IsFull t → (u : Ty) → type_of ds t ≡ given u → IsNamedType u
  spelled_named t full u h = written_named u (spelled_good t full u h).0

  -- the same where numbers may stand too
  abbrev IsNumber : Option Ty → Type 0
  IsNumber None = Unit {0}
  IsNumber (Some t) = IsNamedType t

  number_parts : (k : Head) (x : List ℕ) (ns : List Node) → AllByRecursion (λ n. IsNumber (number_type n)) ns → IsNumber (number_typing k x (with_number_types ns))
  unfolding number_typing
  number_parts head.PlainType x ns a = either IsNumber (bytes_eq x (codes "real")) (Some ty.Real) None tt tt
  number_parts head.IntType x [] a = tt
  number_parts head.IntType x (n ∷ ns) a = tt
  number_parts head.BracketedType x [] a = tt
  number_parts head.BracketedType x (n ∷ []) a = a.0
  number_parts head.BracketedType x (n ∷ m ∷ ns) a = tt
  number_parts _ x ns a = tt

  mutual
    unfolding number_type

    numbers : (t : Node) → Each IsFull t → IsNumber (number_type t)
    numbers t (each h hs) = subst IsNumber (sym (said_is (λ k x ys q. number_typing k x ys) t)) (number_parts (head_of t) (text_of t) (parts_of t) (each_number (parts_of t) hs))

    each_number : (ns : List Node) → EachOf IsFull ns → AllByRecursion (λ n. IsNumber (number_type n)) ns
    each_number [] none = tt
    each_number (n ∷ ns) (more h hs) = (numbers n h, each_number ns hs)

  pub measured_named : (t : Node) → Each IsFull t → (u : Ty) → type_or_number ds t ≡ given u → IsNamedType u
  measured_named t full u h =
      chosen IsNamedType given (number_type t) (type_of ds t) u (λ v e i. subst IsNamedType (given_is v u i) (subst IsNumber e (numbers t full))) (spelled_named t full u) h
