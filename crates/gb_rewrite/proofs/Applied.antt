-- A typed term stays typed with an operator unfolded.
use Rattle.std.proofs.Common.{◌≡◌, ℕ, zero, suc, ◌==◌, Bool, true, false, ◌&&◌, if◌then◌else◌, List, [], ◌∷◌, ◌++◌, length, map, reverse, get_or, Option, Some, None, refl, ap, sym, ◌∙◌, subst}
use Rattle.std.specs.List.{AllByRecursion}
use Rattle.std.proofs.Math.Dec.{eqb-suc-suc, eqb-suc-zero, eqb-zero-suc}
use Rattle.std.proofs.lemmas.Bool.{false≢true}
use Rattle.std.proofs.lemmas.List.{length-map, length-reverse, reverse-append}
use Rattle.std.proofs.lemmas.Slice.Eq.{bytes_eq-Decides}
use Rattle.gb_core.specs.declared.ty.Ty.{Ty}
use Rattle.gb_terms.specs.declared.op.Side.{Side}
use Rattle.gb_terms.specs.declared.term.Term.{Term, Term', Row_of-Term, end_of-Term, more_of-Term, end_of-Head, more_of-Head}
use Rattle.gb_terms.specs.declared.term.Head.{Head}
use Rattle.gb_terms.specs.declared.term.Head.TheVariants as head
use Rattle.gb_terms.specs.Make.{node}
use Rattle.gb_walk.specs.Change.{or_later, found_for_bound, side_changed, term_changed}
use Rattle.gb_meaning.specs.Names.{Name}
use Rattle.gb_meaning.specs.Trees.{row}
use Rattle.gb_meaning.specs.Written.{type_of}
use Rattle.gb_meaning.proofs.Nodes.{term_is_node}
use Rattle.gb_laws.specs.Plain.{HeadIsPlain, IsPlain, AllPlain}
use Rattle.gb_laws.specs.Uses.{Uses}
use Rattle.gb_laws.specs.Uses.Use.{bound}
use Rattle.gb_typing.proofs.Uses.{is_value}
use Rattle.gb_laws.specs.Typing.{OperatorType, Binder, types_of, IsBoundAt, IsHead}
use Rattle.gb_laws.specs.Typing.Binder.{value, index, memory, program}
use Rattle.gb_typing.specs.Changes.{Made}
use Rattle.gb_typing.specs.Context.{Context, erased}
use Rattle.gb_typing.specs.Rules.{outermost}
use Rattle.gb_typing.specs.Scopes.{of_operator}
use Rattle.gb_typing.specs.Typing.{first, middle, last, IsTyped, AreTyped}
use Rattle.gb_typing.proofs.Made.{EachMade, made_node}
use Rattle.gb_typing.proofs.Plain.{ArePlain, plain_changed}
use Rattle.gb_forms.specs.Arguments.{in_places}
use Rattle.gb_rewrite.specs.Unfolded.{is_operator, unfolded, all_unfolded}
use Rattle.gb_rewrite.proofs.Closed.{IsClosed}
use Rattle.gb_rewrite.proofs.Filled.{Filled, Fills, filled}
use Rattle.gb_rewrite.proofs.Kept.{IsInside, inside_first, inside_middle, inside_last}
use Rattle.gb_rewrite.proofs.Standing.{IsStanding, no_frames}
use mathlib.Core.Former.{Count}

-- Lists, the last one first.

module _ {A : Type 0} (d : A) where
  after : (ys : List A) (x : A) (i : ℕ) → get_or (ys ++ x ∷ []) i d ≡ (if length ys == i then x else get_or ys i d)
  after [] x zero = refl
  after [] x (suc i) = sym (ap (λ t. if t then x else d) (eqb-zero-suc i))
  after (y ∷ ys) x zero = sym (ap (λ t. if t then x else y) (eqb-suc-zero (length ys)))
  after (y ∷ ys) x (suc i) = after ys x i ∙ sym (ap (λ t. if t then x else get_or ys i d) (eqb-suc-suc (length ys) i))

  -- the first of a list is the last of the list turned round
  pub from_last : (x : A) (xs : List A) (i : ℕ) → get_or (reverse (x ∷ xs)) i d ≡ (if length xs == i then x else get_or (reverse xs) i d)
  from_last x xs i =
      ap (λ ys. get_or ys i d) (reverse-append (x ∷ []) xs) ∙ after (reverse xs) x i
      ∙ ap (λ (n : ℕ). if n == i then x else get_or (reverse xs) i d) (length-reverse xs)

-- Plain terms.

pub both : (a b : Bool) → (a && b) ≡ true → (a ≡ true) × (b ≡ true)
both true b e = (refl, e)
both false b e = absurd (false≢true e)

plain_row : (us : List Term) → AllByRecursion IsPlain us → AllPlain (row us)
plain_row [] w = tt
plain_row (u ∷ us) w = (w.0, plain_row us w.1)

plain_places : (us : List Term) → AllByRecursion IsPlain us → ArePlain (in_places us)
plain_places [] w = tt
plain_places (u ∷ us) w = (w.0, plain_places us w.1)

places_stay : (us : List Term) (r : Side) → side_changed (in_places us) r ≡ r
places_stay [] r = refl
places_stay (u ∷ us) r = places_stay us r

-- terms of these types, one for each
abbrev pub ArePlaced : Context → List Ty → List Term → Type 0
ArePlaced d [] [] = Unit {0}
ArePlaced d (p ∷ ps) (u ∷ us) = Made d p u × ArePlaced d ps us
ArePlaced d _ _ = ⊥

pub as_many : (d : Context) (ps : List Ty) (us : List Term) → ArePlaced d ps us → length ps ≡ length us
as_many d [] [] w = refl
as_many d [] (u ∷ us) w = absurd w
as_many d (p ∷ ps) [] w = absurd w
as_many d (p ∷ ps) (u ∷ us) w = ap suc (as_many d ps us w.1)

placed : (d : Context) (ps : List Ty) (us : List Term) → EachMade d d d ps us → ArePlaced d ps us
placed d [] [] m = tt
placed d [] (u ∷ us) m = absurd m
placed d (p ∷ []) [] m = absurd m
placed d (p ∷ []) (u ∷ []) m = (m, tt)
placed d (p ∷ []) (u ∷ v ∷ us) m = absurd m
placed d (p ∷ q ∷ ps) [] m = absurd m
placed d (p ∷ q ∷ ps) (u ∷ []) m = absurd m
placed d (p ∷ q ∷ ps) (u ∷ v ∷ us) m = (m.0, placed d (q ∷ ps) (v ∷ us) m.1)

-- a parameter becomes the term in its place
found : (d : Context) (ps : List Ty) (us : List Term) → ArePlaced d ps us → (i : ℕ) (t : Ty) → IsBoundAt (get_or (reverse (map value ps)) i program) t →
    Filled d t i (found_for_bound (in_places us) i)
found d [] [] w i t b = absurd b
found d [] (u ∷ us) w i t b = absurd w
found d (p ∷ ps) [] w i t b = absurd w
found d (p ∷ ps) (u ∷ us) w i t b =
    step (λ v. found d ps us w.1 i t v) (length us == i)
    (subst (λ z. IsBoundAt z t)
    (from_last program (value p) (map value ps) i
    ∙ ap (λ (n : ℕ). if n == i then value p else get_or (reverse (map value ps)) i program) (length-map ps value ∙ as_many d ps us w.1)) b)
  where
    step : (IsBoundAt (get_or (reverse (map value ps)) i program) t → Filled d t i (found_for_bound (in_places us) i)) → (z : Bool) → IsBoundAt (if z then value p else get_or (reverse (map value ps)) i program) t → Filled d t i (or_later z u (found_for_bound (in_places us) i))
    step rest true v = subst (λ q. Made d q u) v.1 w.0
    step rest false v = rest v

-- the variables that a body binds
abbrev pub bound_alone : List Ty → Uses
bound_alone ps (bound i) = is_value (get_or (reverse (map value ps)) i program)
bound_alone ps u = false

bound_is_value : (b : Binder) (t : Ty) → IsBoundAt b t → is_value b ≡ true
bound_is_value (value u) t w = refl
bound_is_value (index q) t w = refl
bound_is_value memory t w = absurd w
bound_is_value program t w = absurd w

no_some : {X : Type 0} (c : Context) (ps : List Ty) (i : ℕ) (t : Ty) → (of_operator c ps).logical i ≡ Some t → X
no_some c ps i t e = cc

pub body_closed : (c : Context) (ps : List Ty) → IsClosed (bound_alone ps) (of_operator c ps)
body_closed c ps = record {
  logical = λ i t e. no_some c ps i t e;
  frames = no_frames c ps;
  bounds = λ i t w. bound_is_value (get_or (reverse (map value ps)) i program) t w;
}

module _ (o : Context) (x : Name) (b : Term) (s : IsStanding (outermost o) x b) where
  module _ (d : Context) (i : IsInside o d) where
    fills : (us : List Term) → ArePlaced d s.params us → Fills (in_places us) (of_operator (outermost o) s.params) d
    fills us w = record { operator = λ n u e. ap (λ z. z.operator n) i ∙ e; bounds = λ k t v. found d s.params us w k t v }

    -- the body with terms in the places of its parameters
    at_body : (us : List Term) → ArePlaced d s.params us → Made d (type_of b) (term_changed b (in_places us))
    at_body us w = filled (bound_alone s.params) (in_places us) (of_operator (outermost o) s.params) d (body_closed (outermost o) s.params) (fills us w) b s.plain s.typed

  -- an application of the operator to terms
  pub record IsApplied (d : Context) (h : Head) (us : List Term) (ty : Ty) : Type 0 where
    pub is : h ≡ head.User x
    pub terms : ArePlaced d s.params us
    pub result : type_of b ≡ ty

  some_one : (u v : OperatorType) → ◌≡◌ {A = Option OperatorType} (Some u) (Some v) → u ≡ v
  some_one u v e = ap or_this e
    where
      or_this : Option OperatorType → OperatorType
      or_this None = u
      or_this (Some w) = w

  applied : (d : Context) → IsInside o d → (h : Head) (vs : List Ty) (us : List Term) (ty : Ty) → IsHead (erased d) h vs ty → is_operator x h ≡ true →
      (ls : _) → EachMade (first d h) (middle d h) (last d ls h vs) vs us → IsApplied d h us ty
  applied d i (head.User n) vs us ty w q ls m =
      let same = (bytes_eq-Decides x n).0 q in
      let one = some_one (record { params = s.params; result = type_of b }) (record { params = vs; result = ty })
      (sym s.known ∙ sym (ap (λ z. z.operator x) i) ∙ ap d.operator same ∙ w) in
      record {
        is = sym (ap head.User same);
        terms = subst (λ ps. ArePlaced d ps us) (sym (ap (λ u. u.params) one)) (placed d vs us m);
        result = ap (λ u. u.result) one;
      }
  applied d i _ vs us ty w q ls m = absurd (false≢true q)

  -- plain terms stay plain

  plain_at : (z : Bool) (h : Head) (us : List Term) (ty : Ty) → HeadIsPlain h → AllByRecursion IsPlain us → IsPlain (if z then term_changed b (in_places us) else node h us ty)
  plain_at true h us ty w k = plain_changed b (in_places us) (plain_places us k) s.plain
  plain_at false h us ty w k = subst IsPlain (term_is_node h us ty) (w, plain_row us k)

  mutual
    pub plain_stays : (t : Term) → IsPlain t → IsPlain (unfolded x b t)
    plain_stays (Term' p (more_of-Head h end_of-Head) n ts ty) w = plain_at (is_operator x h) h (all_unfolded x b ts) ty w.0 (plain_stay ts w.1)

    pub plain_stay : {n : Count} (ts : Row_of-Term n) → AllPlain ts → AllByRecursion IsPlain (all_unfolded x b ts)
    plain_stay end_of-Term w = tt
    plain_stay (more_of-Term t ts) w = (plain_stays t w.0, plain_stay ts w.1)

  -- typed terms stay typed

  module _ {n : Count} (d : Context) (i : IsInside o d) (h : Head) (ts : Row_of-Term n) (ty : Ty) (w : IsHead (erased d) h (types_of ts) ty) (ls : _)
      (m : EachMade (first d h) (middle d h) (last d ls h (types_of ts)) (types_of ts) (all_unfolded x b ts)) where
    pub application : is_operator x h ≡ true → IsApplied d h (all_unfolded x b ts) ty
    application q = applied d i h (types_of ts) (all_unfolded x b ts) ty w q ls m

    node_made : Made d ty (node h (all_unfolded x b ts) ty) → (z : Bool) → is_operator x h ≡ z → Made d ty (if z then term_changed b (in_places (all_unfolded x b ts)) else node h (all_unfolded x b ts) ty)
    node_made y true q = let a = application q in subst (λ u. Made d u (term_changed b (in_places (all_unfolded x b ts)))) a.result (at_body d i (all_unfolded x b ts) a.terms)
    node_made y false q = y

  mutual
    pub unfolded_made : (d : Context) → IsInside o d → (t : Term) → IsTyped d t → Made d (type_of t) (unfolded x b t)
    unfolded_made d i (Term' p (more_of-Head h end_of-Head) n ts ty) w =
        let m = parts_made (first d h) (middle d h) (last d w.2 h (types_of ts)) (inside_first o d h i) (inside_middle o d h i) (inside_last o d w.2 h (types_of ts) i) ts w.3 in
        node_made d i h ts ty w.0 w.2 m (made_node d h (types_of ts) (all_unfolded x b ts) ty w.0 w.1 w.2 m) (is_operator x h) refl

    pub parts_made : {n : Count} (c d e : Context) → IsInside o c → IsInside o d → IsInside o e → (ts : Row_of-Term n) → AreTyped c d e ts →
        EachMade c d e (types_of ts) (all_unfolded x b ts)
    parts_made c d e i j l end_of-Term w = tt
    parts_made c d e i j l (more_of-Term t end_of-Term) w = unfolded_made e l t w
    parts_made c d e i j l (more_of-Term t (more_of-Term u ts)) w = (unfolded_made c i t w.0, parts_made d d e j j l (more_of-Term u ts) w.1)
