-- A term with other terms in it that mean the same means the same, and means the same fraction where it is real.
use Rattle.std.specs.Prelude.{◌↔◌}
use Rattle.std.proofs.Common.{◌≡◌, ◌<◌, Bool, true, false, pos, List, [], ◌∷◌, map, Some, None, refl, ap, sym, ◌∙◌, subst}
use Rattle.std.proofs.Math.Path.{fun_ext}
use Rattle.gb_core.specs.declared.ty.Ty.{Ty}
use Rattle.gb_core.specs.declared.ty.Ty.TheVariants as ty
use Rattle.gb_terms.specs.declared.op.Rel.{Rel}
use Rattle.gb_terms.specs.declared.op.Rel.TheVariants as rel
use Rattle.gb_terms.specs.declared.decl.TypedName.{TypedName}
use Rattle.gb_terms.specs.declared.term.Term.{Term}
use Rattle.gb_terms.specs.declared.term.Subject.{Subject}
use Rattle.gb_terms.specs.declared.term.Head.{Head}
use Rattle.gb_terms.specs.declared.term.Head.TheVariants as head
use Rattle.gb_terms.specs.Make.{node}
use Rattle.gb_dist.specs.WeightedList.{weight, dmap}
use Rattle.gb_meaning.specs.Distributions.{restricted}
use Rattle.gb_meaning.specs.Fractions.{Fraction}
use Rattle.gb_meaning.specs.Meanings.{of_truth, of_number, value_in, truth, fraction_in, weights_in}
use Rattle.gb_meaning.specs.Memory.{Memory}
use Rattle.gb_meaning.specs.Operators.{outcome_type}
use Rattle.gb_meaning.specs.Setting.{Meaning, Setting}
use Rattle.gb_meaning.specs.Setting.Meaning.{finite, fraction, weights}
use Rattle.gb_meaning.specs.State.{State, Binding, binding, meaning_in, memory_of, under, at, between}
use Rattle.gb_meaning.specs.State.Binding.{value as bound_value}
use Rattle.gb_meaning.specs.Terms.{Part, argument, at_head, val, parts, part_of, last_of, before_last, read_at, denominator, sum_below}
use Rattle.gb_meaning.specs.Judgments.{Judge, IsFair, speaking, chance, probability, run_of, subject_denominator, compares, PhoareStands, is_sound_at, IsSoundSubject}
use Rattle.gb_meaning.specs.Values.{values, has}
use Rattle.gb_meaning.specs.Written.{type_of}
use Rattle.gb_meaning.specs.Trees.{places, row}
use Rattle.gb_meaning.proofs.Nodes.{judged_node, stands_node, term_is_node}
use Rattle.gb_meaning.proofs.Numberings.{lawful}
use Rattle.gb_meaning.proofs.Bools.{same_truth}
use Rattle.gb_laws.proofs.Fair.{subject_positive}
use Rattle.gb_laws.proofs.Heads.{Moved, Here, Under, At, Between}
use Rattle.gb_laws.proofs.Judged.{answers_same}
use Rattle.gb_laws.specs.Context.{AreOf, FitsBinder}
use Rattle.gb_laws.specs.Meant.{IsOf}
use Rattle.gb_laws.specs.Typing.{Binder, IsHead}
use Rattle.gb_laws.specs.Typing.Binder.{value, index, memory}
use Rattle.gb_laws.proofs.Meanings.{number_has, weights_have}
use Rattle.gb_typing.specs.Context.{Frame, Context, procedure, erased, with_own, with_sides, within}
use Rattle.gb_typing.specs.Typing.{procedure_in, IsNamed, before, after, first, middle, last, IsTyped}
use Rattle.gb_typing.specs.Fits.{IsSettingOf, IsStateOf}
use Rattle.gb_typing.specs.Rules.{outermost}
use Rattle.gb_amb.proofs.Itself.{meaning_is_of}
use Rattle.gb_smt_laws.specs.Alike.{Alike, AllAlike, RespectAlike}
use Rattle.gb_smt_laws.proofs.Alike.{IsProper, alike_itself, alike_of, alike_turned, truth_alike, value_alike, weights_alike, fraction_same, fraction_proper}
use Rattle.gb_smt_laws.proofs.Congruent.{proper}
use Rattle.gb_smt_laws.proofs.Fractions.{Same, same_made, same_refl, same_at_most, same_same}
use Rattle.gb_smt_laws.proofs.Operated.{AreOne, AllOne, operated_alike}
use Rattle.gb_smt_laws.proofs.States.{each_same, some_same, sum_same, weight_same, image_same, restricted_same}
use Rattle.gb_rewrite.proofs.Kept.{IsInside}
use Rattle.gb_rewrite.proofs.Placed.{IsLike}
use Rattle.gb_rewrite.proofs.Values.{is_real, alike_one}

module _ (o : Context) (g : Setting) (j : Judge) (s : State) where
  abbrev V : Term → State → Meaning
  V t q = val g (speaking g j) t q

  -- a state of a context inside of binders, with the variables and the named memories of s
  pub record IsAt (d : Context) (q : State) : Type 0 where
    pub inside : IsInside o d
    pub setting : IsSettingOf d g
    pub state : IsStateOf d g q
    pub like : IsLike s q

  at_own : (d : Context) (q : State) → IsAt d q → (f : Frame) (m : Memory) → IsAt (with_own d f) (at q m)
  at_own d q a f m = record {
    inside = a.inside;
    setting = record {
      types = record { inhabited = a.setting.types.inhabited; operators = a.setting.types.operators; distributions = a.setting.types.distributions };
      once = a.setting.once;
      procedures = a.setting.procedures;
    };
    state = record { logical = a.state.logical; bound = a.state.bound };
    like = a.like;
  }

  -- a bound is read outside
  at_bound : (d : Context) (q : State) → IsAt d q → (f : Frame) → IsAt (with_own d f) q
  at_bound d q a f = at_own d q a f q.own

  at_sides : (d : Context) (q : State) → IsAt d q → (f k : Frame) (m n : Memory) → IsAt (with_sides d f k) (between q m n)
  at_sides d q a f k m n = record {
    inside = a.inside;
    setting = record {
      types = record { inhabited = a.setting.types.inhabited; operators = a.setting.types.operators; distributions = a.setting.types.distributions };
      once = a.setting.once;
      procedures = a.setting.procedures;
    };
    state = record { logical = a.state.logical; bound = a.state.bound };
    like = a.like;
  }

  at_under : (d : Context) (q : State) → IsAt d q → (b : Binder) (f : Frame) (z : Binding) → FitsBinder g.types b z → IsAt (within d b f) (under q z)
  at_under d q a b f z h = record {
    inside = a.inside;
    setting = record {
      types = record { inhabited = a.setting.types.inhabited; operators = a.setting.types.operators; distributions = a.setting.types.distributions };
      once = a.setting.once;
      procedures = a.setting.procedures;
    };
    state = record { logical = a.state.logical; bound = (h, a.state.bound) };
    like = a.like;
  }

  -- one typed term means in these states what the other one means
  pub record AreDeep (d : Context) (x t : Term) : Type 0 where
    pub new : IsTyped d x
    pub old : IsTyped d t
    pub written : type_of x ≡ type_of t
    pub alike : (q : State) → IsAt d q → Alike (V x q) (V t q)
    pub denominator : denominator g x ≡ denominator g t

  pub itself : (d : Context) (t : Term) → IsTyped d t → AreDeep d t t
  itself d t w = record { new = w; old = w; written = refl; alike = λ q a. alike_itself (V t q); denominator = refl }

  -- terms, each in its context: the first, those between, and the last
  abbrev pub AllDeep : Context → Context → Context → List Term → List Term → Type 0
  AllDeep c m l [] [] = Unit {0}
  AllDeep c m l (x ∷ xs) [] = ⊥
  AllDeep c m l (x ∷ []) (t ∷ []) = AreDeep l x t
  AllDeep c m l (x ∷ y ∷ xs) (t ∷ u ∷ ts) = AreDeep c x t × AllDeep m m l (y ∷ xs) (u ∷ ts)
  AllDeep c m l _ _ = ⊥

  module _ (d : Context) (x t : Term) (e : AreDeep d x t) (q : State) (a : IsAt d q) where
    of_type : IsOf g.types (type_of t) (V x q)
    of_type = subst (λ u. IsOf g.types u (V x q)) e.written (meaning_is_of d g a.setting j q a.state x e.new)

    one : AreOne (argument q (part_of g (speaking g j) x)) (argument q (part_of g (speaking g j) t))
    one = record {
      alike = e.alike q a;
      denominator = e.denominator;
      first = proper g.types (type_of t) (V x q) of_type;
      second = proper g.types (type_of t) (V t q) (meaning_is_of d g a.setting j q a.state t e.old);
    }

    -- they mean one thing, where they are no reals
    equal : is_real (type_of t) ≡ false → V x q ≡ V t q
    equal n = alike_one g.types (type_of t) (V x q) (V t q) of_type n (e.alike q a)

  pub all_over : (c m l : Context) (xs : List Term) (ts : List Term) → AllDeep c m l xs ts → map (denominator g) xs ≡ map (denominator g) ts
  all_over c m l [] [] e = refl
  all_over c m l [] (t ∷ ts) e = absurd e
  all_over c m l (x ∷ xs) [] e = absurd e
  all_over c m l (x ∷ []) (t ∷ []) e = ap (λ k. k ∷ []) e.denominator
  all_over c m l (x ∷ y ∷ xs) (t ∷ []) e = absurd e
  all_over c m l (x ∷ []) (t ∷ u ∷ ts) e = absurd e
  all_over c m l (x ∷ y ∷ xs) (t ∷ u ∷ ts) e =
      let k = e.0.denominator in let rest = all_over m m l (y ∷ xs) (u ∷ ts) e.1 in λ i. k i ∷ rest i

  -- arguments that are read where their term is

  module _ (d : Context) (q : State) (a : IsAt d q) where
    ones : (xs : List Term) (ts : List Term) → AllDeep d d d xs ts → AllOne (map (argument q) (map (part_of g (speaking g j)) xs)) (map (argument q) (map (part_of g (speaking g j)) ts))
    ones [] [] e = tt
    ones [] (t ∷ ts) e = absurd e
    ones (x ∷ xs) [] e = absurd e
    ones (x ∷ []) (t ∷ []) e = (one d x t e q a, tt)
    ones (x ∷ y ∷ xs) (t ∷ []) e = absurd e
    ones (x ∷ []) (t ∷ u ∷ ts) e = absurd e
    ones (x ∷ y ∷ xs) (t ∷ u ∷ ts) e = (one d x t e.0 q a, ones (y ∷ xs) (u ∷ ts) e.1)

    new_of : (xs : List Term) (ts : List Term) → AllDeep d d d xs ts → AreOf g.types (map type_of ts) (map (λ x. x.meaning q) (map (part_of g (speaking g j)) xs))
    new_of [] [] e = tt
    new_of [] (t ∷ ts) e = absurd e
    new_of (x ∷ xs) [] e = absurd e
    new_of (x ∷ []) (t ∷ []) e = (of_type d x t e q a, tt)
    new_of (x ∷ y ∷ xs) (t ∷ []) e = absurd e
    new_of (x ∷ []) (t ∷ u ∷ ts) e = absurd e
    new_of (x ∷ y ∷ xs) (t ∷ u ∷ ts) e = (of_type d x t e.0 q a, new_of (y ∷ xs) (u ∷ ts) e.1)

    old_of : (xs : List Term) (ts : List Term) → AllDeep d d d xs ts → AreOf g.types (map type_of ts) (map (λ x. x.meaning q) (map (part_of g (speaking g j)) ts))
    old_of [] [] e = tt
    old_of [] (t ∷ ts) e = absurd e
    old_of (x ∷ xs) [] e = absurd e
    old_of (x ∷ []) (t ∷ []) e = (meaning_is_of d g a.setting j q a.state t e.old, tt)
    old_of (x ∷ y ∷ xs) (t ∷ []) e = absurd e
    old_of (x ∷ []) (t ∷ u ∷ ts) e = absurd e
    old_of (x ∷ y ∷ xs) (t ∷ u ∷ ts) e = (meaning_is_of d g a.setting j q a.state t e.0.old, old_of (y ∷ xs) (u ∷ ts) e.1)

    meanings : (xs : List Term) (ts : List Term) → AllDeep d d d xs ts → AllAlike (map (λ x. x.meaning q) (map (part_of g (speaking g j)) xs)) (map (λ x. x.meaning q) (map (part_of g (speaking g j)) ts))
    meanings [] [] e = tt
    meanings [] (t ∷ ts) e = absurd e
    meanings (x ∷ xs) [] e = absurd e
    meanings (x ∷ []) (t ∷ []) e = (e.alike q a, tt)
    meanings (x ∷ y ∷ xs) (t ∷ []) e = absurd e
    meanings (x ∷ []) (t ∷ u ∷ ts) e = absurd e
    meanings (x ∷ y ∷ xs) (t ∷ u ∷ ts) e = (e.0.alike q a, meanings (y ∷ xs) (u ∷ ts) e.1)

  -- the arguments of a procedure, and an event
  module _ (d l : Context) (q : State) (a : IsAt d q) where
    arguments_before : (xs : List Term) (ts : List Term) → AllDeep d d l xs ts →
        map (λ x. value_in (x.meaning q)) (before_last (map (part_of g (speaking g j)) xs)) ≡ map (λ x. value_in (x.meaning q)) (before_last (map (part_of g (speaking g j)) ts))
    arguments_before [] [] e = refl
    arguments_before [] (t ∷ ts) e = absurd e
    arguments_before (x ∷ xs) [] e = absurd e
    arguments_before (x ∷ []) (t ∷ []) e = refl
    arguments_before (x ∷ y ∷ xs) (t ∷ []) e = absurd e
    arguments_before (x ∷ []) (t ∷ u ∷ ts) e = absurd e
    arguments_before (x ∷ y ∷ xs) (t ∷ u ∷ ts) e =
        let k = value_alike (V x q) (V t q) (e.0.alike q a) in let rest = arguments_before (y ∷ xs) (u ∷ ts) e.1 in λ i. k i ∷ rest i

    event : (xs : List Term) (ts : List Term) → AllDeep d d l xs ts → (r : State) → IsAt l r →
        truth ((last_of (map (part_of g (speaking g j)) xs)).meaning r) ≡ truth ((last_of (map (part_of g (speaking g j)) ts)).meaning r)
    event [] [] e r k = refl
    event [] (t ∷ ts) e r k = absurd e
    event (x ∷ xs) [] e r k = absurd e
    event (x ∷ []) (t ∷ []) e r k = truth_alike (V x r) (V t r) (e.alike r k)
    event (x ∷ y ∷ xs) (t ∷ []) e r k = absurd e
    event (x ∷ []) (t ∷ u ∷ ts) e r k = absurd e
    event (x ∷ y ∷ xs) (t ∷ u ∷ ts) e r k = event (y ∷ xs) (u ∷ ts) e.1 r k

  -- judgments, whose conditions are truth values

  abbrev AreTruths : List Term → Type 0
  AreTruths [] = Unit {0}
  AreTruths (t ∷ ts) = (type_of t ≡ ty.Bool) × AreTruths ts

  no_real : (u : Ty) → u ≡ ty.Bool → is_real u ≡ false
  no_real u e = ap is_real e

  module _ (d : Context) (q : State) (a : IsAt d q) where
    related_own : (f k l : Frame) (xs : List Term) (ts : List Term) → AllDeep (with_own d f) (with_own d k) (with_own d l) xs ts → AreTruths ts →
        Moved (At q q) (At q q) (map (part_of g (speaking g j)) xs) (parts g (speaking g j) (row ts))
    related_own f k l [] [] e w = tt
    related_own f k l [] (t ∷ ts) e w = absurd e
    related_own f k l (x ∷ xs) [] e w = absurd e
    related_own f k l (x ∷ []) (t ∷ []) e w = λ m. equal (with_own d l) x t e (at q m) (at_own d q a l m) (no_real (type_of t) w.0)
    related_own f k l (x ∷ y ∷ xs) (t ∷ []) e w = absurd e
    related_own f k l (x ∷ []) (t ∷ u ∷ ts) e w = absurd e
    related_own f k l (x ∷ y ∷ xs) (t ∷ u ∷ ts) e w =
        (λ m. equal (with_own d f) x t e.0 (at q m) (at_own d q a f m) (no_real (type_of t) w.0), related_own k k l (y ∷ xs) (u ∷ ts) e.1 w.1)

    related_sides : (f k l i m o : Frame) (xs : List Term) (ts : List Term) → AllDeep (with_sides d f i) (with_sides d k m) (with_sides d l o) xs ts → AreTruths ts →
        Moved (Between q q) (Between q q) (map (part_of g (speaking g j)) xs) (parts g (speaking g j) (row ts))
    related_sides f k l i m o [] [] e w = tt
    related_sides f k l i m o [] (t ∷ ts) e w = absurd e
    related_sides f k l i m o (x ∷ xs) [] e w = absurd e
    related_sides f k l i m o (x ∷ []) (t ∷ []) e w = λ b c. equal (with_sides d l o) x t e (between q b c) (at_sides d q a l o b c) (no_real (type_of t) w.0)
    related_sides f k l i m o (x ∷ y ∷ xs) (t ∷ []) e w = absurd e
    related_sides f k l i m o (x ∷ []) (t ∷ u ∷ ts) e w = absurd e
    related_sides f k l i m o (x ∷ y ∷ xs) (t ∷ u ∷ ts) e w =
        (λ b c. equal (with_sides d f i) x t e.0 (between q b c) (at_sides d q a f i b c) (no_real (type_of t) w.0), related_sides k k l m m o (y ∷ xs) (u ∷ ts) e.1 w.1)

    related_memories : (ls : List TypedName) (xs : List Term) (ts : List Term) → AllDeep d d (within d memory (Some ls)) xs ts → AreTruths ts →
        Moved (Here q q) (Under q q) (map (part_of g (speaking g j)) xs) (parts g (speaking g j) (row ts))
    related_memories ls [] [] e w = tt
    related_memories ls [] (t ∷ ts) e w = absurd e
    related_memories ls (x ∷ xs) [] e w = absurd e
    related_memories ls (x ∷ []) (t ∷ []) e w =
        λ z. equal (within d memory (Some ls)) x t e (under q z) (at_under d q a memory (Some ls) z tt) (no_real (type_of t) w.0)
    related_memories ls (x ∷ y ∷ xs) (t ∷ []) e w = absurd e
    related_memories ls (x ∷ []) (t ∷ u ∷ ts) e w = absurd e
    related_memories ls (x ∷ y ∷ xs) (t ∷ u ∷ ts) e w =
        ((equal d x t e.0 q a (no_real (type_of t) w.0), e.0.denominator), related_memories ls (y ∷ xs) (u ∷ ts) e.1 w.1)

  -- a probability stands alike in a relation to fractions that are the same
  compares_alike : (r : Rel) (c a b : Fraction) → 0 < c.1 → 0 < a.1 → 0 < b.1 → Same a b → compares r c a ≡ compares r c b
  compares_alike rel.AtMost c a b h k l e = same_at_most c a c b h k h l (same_refl c) e
  compares_alike rel.Equal c a b h k l e = same_same c a c b h k h l (same_refl c) e
  compares_alike rel.AtLeast c a b h k l e = same_at_most a c b c k h l h e (same_refl c)

  -- the bound of a judgment gives way to one that is the same
  bound_stands : (c : Subject) (r : Rel) → IsSoundSubject g c → (q : State) (P Q x y : Part) → IsProper (x.meaning q) → IsProper (y.meaning q) → Alike (x.meaning q) (y.meaning q) →
      PhoareStands g c r P Q x q → PhoareStands g c r P Q y q
  bound_stands c r u q P Q x y k l e h =
      λ m p. sym (compares_alike r (chance (run_of g q c m) (subject_denominator g c) (λ n. truth (Q.meaning (at q n)))) (fraction_in (x.meaning q)) (fraction_in (y.meaning q))
      (subject_positive g c u) (fraction_proper (x.meaning q) k) (fraction_proper (y.meaning q) l) (fraction_same (x.meaning q) (y.meaning q) e)) ∙ h m p

  module _ (fair : IsFair g j) where
    module _ (c : Subject) (r : Rel) (sound : IsSoundSubject g c) (q : State) (p t : Term) (u : Ty) where
      abbrev bounded : Term → Term
      bounded x = node (head.Phoare c r) (p ∷ t ∷ x ∷ []) u

      stands : (x : Term) → (j (bounded x) q ≡ true) ↔ PhoareStands g c r (part_of g (speaking g j) p) (part_of g (speaking g j) t) (part_of g (speaking g j) x) q
      stands x =
          let k = fair (bounded x) q (judged_node g (head.Phoare c r) (p ∷ t ∷ x ∷ []) u sound) in
          let l = stands_node g j (head.Phoare c r) (p ∷ t ∷ x ∷ []) u q in
          (λ e. l.0 (k.0 e), λ e. k.1 (l.1 e))

      bound_same : (x y : Term) → IsProper (V x q) → IsProper (V y q) → Alike (V x q) (V y q) → j (bounded x) q ≡ j (bounded y) q
      bound_same x y k l e =
          let P = part_of g (speaking g j) p in
          let Q = part_of g (speaking g j) t in
          let X = part_of g (speaking g j) x in
          let Y = part_of g (speaking g j) y in
          same_truth _ _
          (λ h. (stands y).1 (bound_stands c r sound q P Q X Y k l e ((stands x).0 h)))
          (λ h. (stands x).1 (bound_stands c r sound q P Q Y X l k (alike_turned (V x q) (V y q) e) ((stands y).0 h)))

    -- Judgments mean the same with conditions and a bound that do, over any locals of their memories.
    module _ (d : Context) (q : State) (a : IsAt d q) where
      pub hoare_same : (c : Subject) (f h l : Frame) (xs : List Term) (ts : List Term) (u : Ty) → IsSoundSubject g c → AreTruths ts → AllDeep (with_own d f) (with_own d h) (with_own d l) xs ts →
          j (node (head.Hoare c) xs u) q ≡ j (node (head.Hoare c) ts u) q
      hoare_same c f h l xs ts u sound w e =
          answers_same g j fair (λ c. c) q q (head.Hoare c) xs (places ts) (row ts) u sound (record { runs = λ m. refl; denominators = refl; sound = sound }) tt (related_own d q a f h l xs ts e w)
          ∙ ap (λ z. j z q) (term_is_node (head.Hoare c) ts u)

      pub equiv_same : (b c : Subject) (f h l i m o : Frame) (xs : List Term) (ts : List Term) (u : Ty) → IsSoundSubject g b × IsSoundSubject g c → AreTruths ts →
          AllDeep (with_sides d f i) (with_sides d h m) (with_sides d l o) xs ts → j (node (head.Equiv b c) xs u) q ≡ j (node (head.Equiv b c) ts u) q
      equiv_same b c f h l i m o xs ts u sound w e =
          answers_same g j fair (λ c. c) q q (head.Equiv b c) xs (places ts) (row ts) u sound
          (record { runs = λ m. refl; denominators = refl; sound = sound.0 }, record { runs = λ m. refl; denominators = refl; sound = sound.1 }) tt (related_sides d q a f h l i m o xs ts e w)
          ∙ ap (λ z. j z q) (term_is_node (head.Equiv b c) ts u)

      pub phoare_same : (c : Subject) (r : Rel) (f h l : Frame) (x y z : Term) (p t v : Term) (u : Ty) → IsSoundSubject g c → type_of p ≡ ty.Bool → type_of t ≡ ty.Bool →
          AreDeep (with_own d f) x p → AreDeep (with_own d h) y t → AreDeep (with_own d l) z v →
          j (node (head.Phoare c r) (x ∷ y ∷ z ∷ []) u) q ≡ j (node (head.Phoare c r) (p ∷ t ∷ v ∷ []) u) q
      phoare_same c r f h l x y z p t v u sound e i one_deep two_deep three_deep =
          let b = one (with_own d l) z v three_deep q (at_bound d q a l) in
          bound_same c r sound q x y u z v b.first b.second b.alike
          ∙ answers_same g j fair (λ c. c) q q (head.Phoare c r) (x ∷ y ∷ v ∷ []) (places (p ∷ t ∷ v ∷ [])) (row (p ∷ t ∷ v ∷ [])) u sound
          (record { runs = λ m. refl; denominators = refl; sound = sound }) tt (
            λ m. equal (with_own d f) x p one_deep (at q m) (at_own d q a f m) (no_real (type_of p) e),
            (λ m. equal (with_own d h) y t two_deep (at q m) (at_own d q a h m) (no_real (type_of t) i), (refl, refl)),
          )
          ∙ ap (λ z. j z q) (term_is_node (head.Phoare c r) (p ∷ t ∷ v ∷ []) u)

      memories_same : (ls : List TypedName) (xs : List Term) (ts : List Term) (u : Ty) → AreTruths ts → AllDeep d d (within d memory (Some ls)) xs ts →
          (j (node head.AllMemory xs u) q ≡ j (node head.AllMemory ts u) q)
          × (j (node head.SomeMemory xs u) q ≡ j (node head.SomeMemory ts u) q)
      memories_same ls xs ts u w e = (
        answers_same g j fair (λ c. c) q q head.AllMemory xs (places ts) (row ts) u tt tt tt (related_memories d q a ls xs ts e w) ∙ ap (λ z. j z q) (term_is_node head.AllMemory ts u),
        answers_same g j fair (λ c. c) q q head.SomeMemory xs (places ts) (row ts) u tt tt tt (related_memories d q a ls xs ts e w) ∙ ap (λ z. j z q) (term_is_node head.SomeMemory ts u),
      )

      module _ (respects : RespectAlike (outermost o) g) where
        -- under a binder of a value
        under_one : (b : Binder) (x t : Term) → AreDeep (within d b None) x t → (z : Meaning) → FitsBinder g.types b (bound_value z) → Alike (V x (under q (bound_value z))) (V t (under q (bound_value z)))
        under_one b x t e z h = e.alike (under q (bound_value z)) (at_under d q a b None (bound_value z) h)

        -- a node means the same with arguments that do
        pub head_alike : (h : Head) (ls : List TypedName) (xs : List Term) (ts : List Term) (u : Ty) → IsHead (erased d) h (map type_of ts) u → IsNamed d h u → is_sound_at g h →
            AllDeep (first d h) (middle d h) (last d ls h (map type_of ts)) xs ts →
            Alike (at_head g (speaking g j) (node h xs u) h (map (part_of g (speaking g j)) xs) u q)
            (at_head g (speaking g j) (node h ts u) h (map (part_of g (speaking g j)) ts) u q)
        head_alike (head.Lit v) ls xs ts u w n s e = refl
        head_alike (head.Whole v) ls xs ts u w n s e = refl
        head_alike (head.Read r) ls xs ts u w n s e = alike_itself (read_at g r u q)
        head_alike (head.Bound i) ls xs ts u w n s e = alike_itself (meaning_in (binding q i))
        head_alike (head.Builtin p) ls xs ts u w n s e =
            operated_alike g.types u p (map (argument q) (map (part_of g (speaking g j)) xs)) (map (argument q) (map (part_of g (speaking g j)) ts)) (ones d q a xs ts e)
        head_alike (head.User m) ls xs ts u w n s e =
            respects m (record { params = map type_of ts; result = u }) (sym (ap (λ z. z.operator m) a.inside) ∙ w) (map (λ x. x.meaning q) (map (part_of g (speaking g j)) xs))
            (map (λ x. x.meaning q) (map (part_of g (speaking g j)) ts)) (new_of d q a xs ts e) (old_of d q a xs ts e) (meanings d q a xs ts e)
        head_alike (head.Weights x) ls xs ts u w n s e = refl
        head_alike (head.Glob m r) ls xs ts u w n s e = absurd n
        head_alike (head.Pr p r) ls xs ts u w n s e =
            let front = arguments_before d (with_own d (after (procedure d p))) q a xs ts e in
            let events : ◌≡◌ {A = Memory → Bool} (λ m. truth ((last_of (map (part_of g (speaking g j)) xs)).meaning (at q m))) (λ m. truth ((last_of (map (part_of g (speaking g j)) ts)).meaning (at q m))) =
            fun_ext (λ m. event d (with_own d (after (procedure d p))) q a xs ts e (at q m) (at_own d q a (after (procedure d p)) m)) in
            alike_of (at_head g (speaking g j) (node (head.Pr p r) xs u) (head.Pr p r) (map (part_of g (speaking g j)) xs) u q) (at_head g (speaking g j) (node (head.Pr p r) ts u) (head.Pr p r) (map (part_of g (speaking g j)) ts) u q) (λ i. fraction (probability g p (front i) (memory_of q r) (events i)))
        head_alike (head.AllModule b) ls xs ts u w n s e = absurd n
        head_alike h ls [] (t ∷ ts) u w n s e = absurd e
        head_alike h ls (x ∷ xs) [] u w n s e = absurd e
        head_alike h ls (x ∷ y ∷ xs) (t ∷ []) u w n s e = absurd e
        head_alike h ls (x ∷ []) (t ∷ v ∷ ts) u w n s e = absurd e
        head_alike h ls (x ∷ y ∷ z ∷ xs) (t ∷ v ∷ []) u w n s e = absurd e.1
        head_alike h ls (x ∷ y ∷ []) (t ∷ v ∷ p ∷ ts) u w n s e = absurd e.1
        head_alike h ls (x ∷ y ∷ z ∷ o ∷ xs) (t ∷ v ∷ p ∷ []) u w n s e = absurd e.1.1
        head_alike (head.All v) ls (x ∷ []) (t ∷ []) u w n s e =
            ap of_truth (each_same (values g.types v).size (λ m. truth (V x (under q (bound_value (finite ((values g.types v).at m)))))) (λ m. truth (V t (under q (bound_value (finite ((values g.types v).at m))))))
            (λ m l. truth_alike (V x (under q (bound_value (finite ((values g.types v).at m))))) (V t (under q (bound_value (finite ((values g.types v).at m))))) (under_one (value v) x t e (finite ((values g.types v).at m)) ((lawful g.types v).has_at m l))))
        head_alike (head.Some v) ls (x ∷ []) (t ∷ []) u w n s e =
            ap of_truth (some_same (values g.types v).size (λ m. truth (V x (under q (bound_value (finite ((values g.types v).at m)))))) (λ m. truth (V t (under q (bound_value (finite ((values g.types v).at m))))))
            (λ m l. truth_alike (V x (under q (bound_value (finite ((values g.types v).at m))))) (V t (under q (bound_value (finite ((values g.types v).at m))))) (under_one (value v) x t e (finite ((values g.types v).at m)) ((lawful g.types v).has_at m l))))
        head_alike (head.Sum p) ls (x ∷ []) (t ∷ []) u w n s e =
            same_made (sum_below p (λ m. fraction_in (V x (under q (bound_value (of_number m)))))) (sum_below p (λ m. fraction_in (V t (under q (bound_value (of_number m))))))
            (sum_same p (λ m. fraction_in (V x (under q (bound_value (of_number m))))) (λ m. fraction_in (V t (under q (bound_value (of_number m)))))
            (λ m l. fraction_same (V x (under q (bound_value (of_number m)))) (V t (under q (bound_value (of_number m)))) (under_one (index p) x t e (of_number m) (number_has p m l))))
        head_alike head.Mu ls (y ∷ x ∷ []) (v ∷ t ∷ []) u w n s e =
            let same = weights_alike (V y q) (V v q) (e.0.alike q a) in
            alike_of (at_head g (speaking g j) (node head.Mu (y ∷ x ∷ []) u) head.Mu (map (part_of g (speaking g j)) (y ∷ x ∷ [])) u q) (at_head g (speaking g j) (node head.Mu (v ∷ t ∷ []) u) head.Mu (map (part_of g (speaking g j)) (v ∷ t ∷ [])) u q)
            ((λ i. fraction (pos (weight (same i) (λ r. truth (V x (under q (bound_value (finite r)))))), e.0.denominator i))
            ∙ ap (λ z. fraction (pos z, denominator g v)) (weight_same (λ r. has g.types (outcome_type (type_of v)) r ≡ true) (weights_in (V v q)) (λ r. truth (V x (under q (bound_value (finite r))))) (λ r. truth (V t (under q (bound_value (finite r))))) (weights_have g.types (type_of v) (V v q) (meaning_is_of d g a.setting j q a.state v e.0.old)) (λ r l. truth_alike (V x (under q (bound_value (finite r)))) (V t (under q (bound_value (finite r)))) (under_one (value (outcome_type (type_of v))) x t e.1 (finite r) l))))
        head_alike head.Map ls (y ∷ x ∷ []) (v ∷ t ∷ []) u w n s e =
            let same = weights_alike (V y q) (V v q) (e.0.alike q a) in
            ap (λ l. weights (dmap (λ r. value_in (V x (under q (bound_value (finite r))))) l)) same ∙ ap weights (image_same (λ r. has g.types (outcome_type (type_of v)) r ≡ true) (weights_in (V v q)) (λ r. value_in (V x (under q (bound_value (finite r))))) (λ r. value_in (V t (under q (bound_value (finite r))))) (weights_have g.types (type_of v) (V v q) (meaning_is_of d g a.setting j q a.state v e.0.old)) (λ r l. value_alike (V x (under q (bound_value (finite r)))) (V t (under q (bound_value (finite r)))) (under_one (value (outcome_type (type_of v))) x t e.1 (finite r) l)))
        head_alike head.Restrict ls (y ∷ x ∷ []) (v ∷ t ∷ []) u w n s e =
            let same = weights_alike (V y q) (V v q) (e.0.alike q a) in
            ap (λ l. weights (restricted l (λ r. truth (V x (under q (bound_value (finite r))))))) same ∙ ap weights (restricted_same (λ r. has g.types (outcome_type (type_of v)) r ≡ true) (weights_in (V v q)) (λ r. truth (V x (under q (bound_value (finite r))))) (λ r. truth (V t (under q (bound_value (finite r))))) (weights_have g.types (type_of v) (V v q) (meaning_is_of d g a.setting j q a.state v e.0.old)) (λ r l. truth_alike (V x (under q (bound_value (finite r)))) (V t (under q (bound_value (finite r)))) (under_one (value (outcome_type (type_of v))) x t e.1 (finite r) l)))
        head_alike head.AllMemory ls (x ∷ []) (t ∷ []) u w n s e =
            ap of_truth (memories_same ls (x ∷ []) (t ∷ []) u (w.0, tt) e).0
        head_alike head.SomeMemory ls (x ∷ []) (t ∷ []) u w n s e =
            ap of_truth (memories_same ls (x ∷ []) (t ∷ []) u (w.0, tt) e).1
        head_alike (head.Hoare c) ls xs (p ∷ t ∷ []) u w n s e =
            ap of_truth (hoare_same c (before (procedure_in d c)) (after (procedure_in d c)) (after (procedure_in d c)) xs (p ∷ t ∷ []) u s (w.0, (w.1.0, tt)) e)
        head_alike (head.Phoare c r) ls (x ∷ y ∷ z ∷ []) (p ∷ t ∷ v ∷ []) u w n s e =
            ap of_truth (phoare_same c r (before (procedure_in d c)) (after (procedure_in d c)) None x y z p t v u s w.0.0 w.0.1.0 e.0 e.1.0 e.1.1)
        head_alike (head.Equiv b c) ls xs (p ∷ t ∷ []) u w n s e =
            ap of_truth (equiv_same b c (before (procedure_in d b)) (after (procedure_in d b)) (after (procedure_in d b)) (before (procedure_in d c)) (after (procedure_in d c)) (after (procedure_in d c)) xs (p ∷ t ∷ []) u s (w.0, (w.1.0, tt)) e)
        head_alike _ ls xs ts u w n s e = absurd w
