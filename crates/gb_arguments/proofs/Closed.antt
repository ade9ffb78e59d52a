-- What procedures reach is closed: it has them, and with each procedure those that it calls.
use Rattle.std.proofs.Common.{◌≡◌, ◌⊎◌, inl, inr, if◌then◌else◌, ℕ, zero, suc, ◌==◌, Bool, true, false, ◌||◌, List, [], ◌∷◌, ◌++◌, drop, length, length-append, append-nil, append_assoc, Some, None, bytes_eq, refl, ap, sym, ◌∙◌, subst, arith, ◌^◌}
use Rattle.std.proofs.lemmas.Bool.{and_parts}
use Rattle.std.proofs.lemmas.Bool.Decides.{Decides-eqb}
use Rattle.std.proofs.lemmas.Option.{same_Some, none-some}
use Rattle.std.proofs.lemmas.Slice.Eq.{bytes_eq-Decides}
use Rattle.gb_terms.specs.declared.module.ProcRef.{ProcRef}
use Rattle.gb_terms.specs.SameModules.{mexp_eq}
use Rattle.gb_terms.proofs.SameModules.{mexp_eq-Decides}
use Rattle.gb_goal.specs.Scope.{Declarations}
use Rattle.gb_mods.specs.Called.{added, is_among, reached, same_procedure}
use Rattle.gb_mods.specs.Reach.{called_from, called_from_all}
use Rattle.gb_mods.proofs.Closed.{IsIn}

pub in_front : (ps qs : List ProcRef) (q : ProcRef) → IsIn ps q → IsIn (ps ++ qs) q
in_front [] qs q h = absurd h
in_front (p ∷ ps) qs q (inl e) = inl e
in_front (p ∷ ps) qs q (inr h) = inr (in_front ps qs q h)

in_behind : (ps qs : List ProcRef) (q : ProcRef) → IsIn qs q → IsIn (ps ++ qs) q
in_behind [] qs q h = h
in_behind (p ∷ ps) qs q h = inr (in_behind ps qs q h)

in_either : (ps qs : List ProcRef) (q : ProcRef) → IsIn (ps ++ qs) q → IsIn ps q ⊎ IsIn qs q
in_either [] qs q h = inr h
in_either (p ∷ ps) qs q (inl e) = inl (inl e)
in_either (p ∷ ps) qs q (inr h) = later (in_either ps qs q h)
  where
    later : IsIn ps q ⊎ IsIn qs q → IsIn (p ∷ ps) q ⊎ IsIn qs q
    later (inl k) = inl (inr k)
    later (inr k) = inr k

pub procedure_same : (p q : ProcRef) → same_procedure p q ≡ true → p ≡ q
procedure_same p q e =
    let k = and_parts (mexp_eq p.module q.module) (bytes_eq p.name q.name) e in
    λ i. record { «module» = (mexp_eq-Decides p.module q.module).0 k.0 i; name = (bytes_eq-Decides p.name q.name).0 k.1 i }

among_in : (ps : List ProcRef) (q : ProcRef) → is_among ps q ≡ true → IsIn ps q
among_in [] q e = cc
among_in (p ∷ ps) q e = step (same_procedure p q) refl e (among_in ps q)
  where
    step : (b : Bool) → same_procedure p q ≡ b → (b || is_among ps q) ≡ true → (is_among ps q ≡ true → IsIn ps q) → IsIn (p ∷ ps) q
    step true f h go = inl (procedure_same p q f)
    step false f h go = inr (go h)

-- those that were there are there, and so are those that are added
added_front : (ps qs : List ProcRef) (q : ProcRef) → IsIn ps q → IsIn (added ps qs) q
added_front ps [] q h = h
added_front ps (x ∷ xs) q h = step (is_among ps x) (added_front ps xs q h) (added_front (ps ++ x ∷ []) xs q (in_front ps (x ∷ []) q h))
  where
    step : (b : Bool) → IsIn (added ps xs) q → IsIn (added (ps ++ x ∷ []) xs) q → IsIn (added (if b then ps else ps ++ x ∷ []) xs) q
    step true k l = k
    step false k l = l

added_all : (ps qs : List ProcRef) (q : ProcRef) → IsIn qs q → IsIn (added ps qs) q
added_all ps [] q h = absurd h
added_all ps (x ∷ xs) q (inr h) = added_all (if is_among ps x then ps else ps ++ x ∷ []) xs q h
added_all ps (x ∷ xs) q (inl e) = added_front (if is_among ps x then ps else ps ++ x ∷ []) xs q (step (is_among ps x) refl)
  where
    step : (b : Bool) → is_among ps x ≡ b → IsIn (if b then ps else ps ++ x ∷ []) q
    step true f = subst (IsIn ps) e (among_in ps x f)
    step false f = in_behind ps (x ∷ []) q (inl e)

-- what is added stands behind
added_behind : (ps qs : List ProcRef) → (ys : List ProcRef) × (added ps qs ≡ ps ++ ys)
added_behind ps [] = ([], sym (append-nil ps))
added_behind ps (x ∷ xs) = step (is_among ps x) (added_behind ps xs) (added_behind (ps ++ x ∷ []) xs)
  where
    step : (b : Bool) → (ys : List ProcRef) × (added ps xs ≡ ps ++ ys) → (ys : List ProcRef) × (added (ps ++ x ∷ []) xs ≡ (ps ++ x ∷ []) ++ ys) →
        (ys : List ProcRef) × (added (if b then ps else ps ++ x ∷ []) xs ≡ ps ++ ys)
    step true k l = k
    step false k l = (x ∷ l.0, l.1 ∙ append_assoc ps (x ∷ []) l.0)

drop_front : (ps qs : List ProcRef) → drop (length ps) (ps ++ qs) ≡ qs
drop_front [] qs = refl
drop_front (p ∷ ps) qs = drop_front ps qs

none_behind : (ps qs : List ProcRef) → length ps ≡ length (ps ++ qs) → qs ≡ []
none_behind ps [] e = refl
none_behind ps (q ∷ qs) e = let l = length-append ps (q ∷ qs) in absurd (omega (arith, e, l))

module _ (ds : Declarations) where
  in_called : (ps : List ProcRef) (p q : ProcRef) → IsIn ps p → IsIn (called_from ds None p) q → IsIn (called_from_all ds None ps) q
  in_called [] p q i h = absurd i
  in_called (x ∷ ps) p q (inl e) h = in_front (called_from ds None x) (called_from_all ds None ps) q (subst (λ z. IsIn (called_from ds None z) q) (sym e) h)
  in_called (x ∷ ps) p q (inr k) h = in_behind (called_from ds None x) (called_from_all ds None ps) q (in_called ps p q k h)

  -- with each of some procedures, those that it calls are among others
  abbrev pub AreFollowed : List ProcRef → List ProcRef → Type 0
  AreFollowed ps qs = (p : ProcRef) → IsIn ps p → (q : ProcRef) → IsIn (called_from ds None p) q → IsIn qs q

  -- the procedures are there, and closed under calls
  pub record AreReached (ps qs : List ProcRef) : Type 0 where
    pub closed : AreFollowed qs qs
    pub there : (p : ProcRef) → IsIn ps p → IsIn qs p

  pub reached_closed : (n : ℕ) (fs ws : List ProcRef) → AreFollowed fs (fs ++ ws) → (qs : List ProcRef) → reached n (called_from_all ds None) (length fs) (fs ++ ws) ≡ Some qs → AreReached (fs ++ ws) qs
  unfolding reached
  reached_closed zero fs ws h qs e = absurd (none-some qs e)
  reached_closed (suc n) fs ws h qs e = step (length fs == length (fs ++ ws)) refl e (reached_closed n (fs ++ ws))
    where
      ps : List ProcRef
      ps = fs ++ ws

      more : List ProcRef
      more = called_from_all ds None (drop (length fs) ps)

      followed : AreFollowed ps (added ps more)
      followed p i q k = by_place (in_either fs ws p i)
        where
          by_place : IsIn fs p ⊎ IsIn ws p → IsIn (added ps more) q
          by_place (inl j) = added_front ps more q (h p j q k)
          by_place (inr j) = added_all ps more q (subst (λ z. IsIn (called_from_all ds None z) q) (sym (drop_front fs ws)) (in_called ws p q j k))

      step : (b : Bool) → (length fs == length ps) ≡ b → (if b then Some ps else reached n (called_from_all ds None) (length ps) (added ps more)) ≡ Some qs →
          ((cs : List ProcRef) → AreFollowed ps (ps ++ cs) → (zs : List ProcRef) → reached n (called_from_all ds None) (length ps) (ps ++ cs) ≡ Some zs → AreReached (ps ++ cs) zs) → AreReached ps qs
      step true f g go =
          let none : ws ≡ [] = none_behind fs ws ((Decides-eqb (length fs) (length ps)).0 f) in
          let same : fs ≡ ps = sym (append-nil fs) ∙ ap (λ z. fs ++ z) (sym none) in
          subst (AreReached ps) (same_Some ps qs g) (record { closed = subst (λ z. AreFollowed z ps) same h; there = λ p i. i })
      step false f g go =
          let k = added_behind ps more in
          let r = go k.0 (subst (AreFollowed ps) k.1 followed) qs (ap (reached n (called_from_all ds None) (length ps)) (sym k.1) ∙ g) in
          record { closed = r.closed; there = λ p i. r.there p (in_front ps k.0 p i) }

  -- what procedures reach
  pub all_closed : (ps qs : List ProcRef) → reached (2 ^ 32) (called_from_all ds None) 0 ps ≡ Some qs → AreReached ps qs
  all_closed ps qs e = reached_closed (2 ^ 32) [] ps (λ p i. absurd i) qs e

  -- What is so of procedures, and of each that one of which it is so calls, is so of all that they reach.
  module _ (P : ProcRef → Type 0) (on : (r q : ProcRef) → P r → IsIn (called_from ds None r) q → P q) where
    abbrev All : List ProcRef → Type 0
    All ps = (q : ProcRef) → IsIn ps q → P q

    all_called : (ps : List ProcRef) → All ps → All (called_from_all ds None ps)
    all_called [] h q i = absurd i
    all_called (p ∷ ps) h q i = step (called_from ds None p) (λ k. on p q (h p (inl refl)) k) (all_called ps (λ x k. h x (inr k)) q) i
      where
        step : (xs : List ProcRef) → (IsIn xs q → P q) → (IsIn (called_from_all ds None ps) q → P q) → IsIn (xs ++ called_from_all ds None ps) q → P q
        step [] f g j = g j
        step (x ∷ xs) f g (inl e) = f (inl e)
        step (x ∷ xs) f g (inr j) = step xs (λ k. f (inr k)) g j

    all_added : (ps qs : List ProcRef) → All ps → All qs → All (added ps qs)
    all_added ps [] f g = f
    all_added ps (x ∷ xs) f g = all_added (if is_among ps x then ps else ps ++ x ∷ []) xs (step (is_among ps x)) (λ q i. g q (inr i))
      where
        more : (ys : List ProcRef) → All ys → All (ys ++ x ∷ [])
        more [] h q (inl e) = subst P e (g x (inl refl))
        more [] h q (inr i) = absurd i
        more (y ∷ ys) h q (inl e) = h q (inl e)
        more (y ∷ ys) h q (inr i) = more ys (λ z k. h z (inr k)) q i

        step : (b : Bool) → All (if b then ps else ps ++ x ∷ [])
        step true = f
        step false = more ps f

    all_dropped : (k : ℕ) (ps : List ProcRef) → All ps → All (drop k ps)
    all_dropped zero ps h = h
    all_dropped (suc k) [] h = h
    all_dropped (suc k) (p ∷ ps) h = all_dropped k ps (λ q i. h q (inr i))

    pub all_reached : (n k : ℕ) (ps qs : List ProcRef) → All ps → reached n (called_from_all ds None) k ps ≡ Some qs → All qs
    unfolding reached
    all_reached zero k ps qs h e = absurd (none-some qs e)
    all_reached (suc n) k ps qs h e = step (k == length ps) e (all_reached n (length ps) (added ps (called_from_all ds None (drop k ps))) qs (all_added ps (called_from_all ds None (drop k ps)) h (all_called (drop k ps) (all_dropped k ps h))))
      where
        step : (b : Bool) → (if b then Some ps else reached n (called_from_all ds None) (length ps) (added ps (called_from_all ds None (drop k ps)))) ≡ Some qs →
            (reached n (called_from_all ds None) (length ps) (added ps (called_from_all ds None (drop k ps))) ≡ Some qs → All qs) → All qs
        step true g go = subst All (same_Some ps qs g) h
        step false g go = go g
