-- What a term comes to is what it means.
use Rattle.std.proofs.Common.{◌≡◌, ℕ, zero, suc, ◌*◌, ◌<◌, ◌^◌, ◌↔◌, Bool, true, false, not, nat_lt, nat_le, if◌then◌else◌, pos, Option, Some, None, List, [], ◌∷◌, ◌++◌, map, get_or, refl, sym, ap, ◌∙◌, subst, arith}
use Rattle.std.proofs.Math.Nat.{mul_comm}
use Rattle.std.proofs.lemmas.Bool.{false≢true, ltb-true}
use Rattle.std.proofs.lemmas.List.{append-nil, append_assoc}
use Rattle.gb_core.specs.declared.ty.Ty.{Ty}
use Rattle.gb_core.specs.declared.value.Value.{Value}
use Rattle.gb_core.specs.declared.value.Value.TheVariants.{Num, Many}
use Rattle.gb_core.specs.declared.value.Card.{Card}
use Rattle.gb_core.specs.declared.value.Card.TheVariants.{Exact, Above}
use Rattle.gb_core.specs.declared.var.Var.{Var}
use Rattle.gb_core.specs.Numbering.{parts_of}
use Rattle.gb_core.specs.Types.{value_at, card_of}
use Rattle.gb_labels.specs.Reads.{are_free}
use Rattle.gb_labels.specs.Held as held
use Rattle.gb_labels.specs.Memories.{AreKeptApart, AreReadable, IsHeldBy, read_all}
use Rattle.gb_labels.proofs.Memories.{all_held, known_value}
use Rattle.gb_terms.specs.declared.op.Op.{Op}
use Rattle.gb_terms.specs.declared.op.Op.TheVariants as op
use Rattle.gb_terms.specs.declared.op.Side.TheVariants as side
use Rattle.gb_terms.specs.declared.op.Read.{Read}
use Rattle.gb_terms.specs.declared.op.Read.TheVariants.{Logical, Program}
use Rattle.gb_terms.specs.declared.term.Term.{Term, Term', Row_of-Term, end_of-Term, more_of-Term, end_of-Head, more_of-Head}
use Rattle.gb_terms.specs.declared.term.Head.{Head}
use Rattle.gb_terms.specs.declared.term.Head.TheVariants as head
use Rattle.gb_dist.specs.WeightedList.{WeightedList, dmap, mass, weight, total, bit, scale}
use Rattle.gb_dist.proofs.Masses.{mass-scale}
use Rattle.gb_dist.specs.Fractions.{Fraction, IsSame, plus}
use Rattle.gb_dist.specs.Operations.{product_of, plus_steps}
use Rattle.gb_dist.specs.Lists as lists
use Rattle.gb_dist.specs.Places.{outcomes}
use Rattle.gb_dist.proofs.Events.{kept_is, kept_mass}
use Rattle.gb_meaning.specs.Setting.{Setting, Meaning}
use Rattle.gb_meaning.specs.Setting.{Meaning as meaning}
use Rattle.gb_meaning.specs.Values.{Types, values}
use Rattle.gb_meaning.specs.Memory.{Memory, read}
use Rattle.gb_meaning.specs.Fractions as mf
use Rattle.gb_meaning.specs.Meanings as m
use Rattle.gb_meaning.specs.Distributions as distributions
use Rattle.gb_meaning.specs.Operators as o
use Rattle.gb_meaning.specs.Operators.{Argument, denominator_at, denominator_over, is_distribution, outcome_type}
use Rattle.gb_meaning.specs.State.{State, Binding, meaning_in}
use Rattle.gb_meaning.specs.State as st
use Rattle.gb_meaning.specs.State.{Binding as binding}
use Rattle.gb_meaning.specs.Terms as mt
use Rattle.gb_meaning.specs.Terms.{Speaks, val, parts, argument, at_value, last_of, first_of, each_value, some_value, each_below, some_below, sum_below, read_at, denominator, denominators, denominator_of}
use Rattle.gb_meaning.specs.Names.{Name}
use Rattle.gb_eval.specs.declared.env.Bound.{Bound}
use Rattle.gb_eval.specs.declared.env.Bound.TheVariants as to
use Rattle.gb_eval.specs.Findings.{Finding, Comes, ◌>>=◌, argument_of, finding_of, of_truth, value_in, fraction_in, collected, over, table_in}
use Rattle.gb_eval.specs.Findings.Finding.{value, whole, fraction, table}
use Rattle.gb_eval.specs.Findings.Comes.{found, unknown, overflow}
use Rattle.gb_eval.specs.Operators as e
use Rattle.gb_eval.specs.Operators.{connective, is_connective, zero_fraction, chance}
use Rattle.gb_eval.specs.Totals.{total_of, totals_of, head_total, operator_total, multiplied}
use Rattle.gb_eval.specs.Known.{is_tuple}
use Rattle.gb_eval.specs.Eval as ev
use Rattle.gb_eval.specs.Meant as given
use Rattle.gb_eval.specs.Eval.{Environment, Part, eval, eval_all, value_of, value_bound, over_values, event, images}
use Rattle.gb_eval.specs.Meant.{IsFraction, IsTable, IsFound, Means, Binds, AreOperators, AreGiven}
use Rattle.gb_eval.proofs.Truths.{Finds, IsTruth, then_finds, after_finds, if_finds, means_finds, finds_means, comes_truth, answer_meant, and_meant, or_meant, implies_meant, iff_meant, each_meant, some_meant}
use Rattle.gb_eval.proofs.Tables.{behind_none, one_collected, chance_meant, restricted_mass, each_collected, imaged_is, image_same, exact, IsTotal, outcomes_total, stated_total, stated_meant}
use Rattle.gb_eval.proofs.Fractions.{above_product, same_plus, reduced_meant}
use Rattle.gb_eval.proofs.AtFindings.{binary_meant, unary_meant, nullary_meant}
use Rattle.gb_eval.proofs.Updates.{updated_meant}
use Rattle.gb_eval.proofs.Served.{Serves, IsServed, AllServed, served_given}
use Rattle.gb_eval.proofs.Remembered.{each_says, one_says, place_of_memory, memory_of_place}

-- a side of a conditional, over the product of both denominators
side_meant : (x : Finding) (a : Meaning) (i j k : ℕ) (c : Comes ℕ) → IsFound x a i → Finds (IsTotal j) c → i * j ≡ k → Means (ev.scaled c x) (m.scaled j a) k
side_meant (value v) a i j k c h l e = ap (m.scaled j) h
side_meant (whole n) a i j k c h l e = ap (m.scaled j) h
side_meant (fraction p) a i j k c h l e = record { meant = h.meant; is = ap (m.scaled j) h.is; above = h.above; found_above = h.found_above; same = h.same }
side_meant (table n d) a i j k c h l e =
    finds_means _ _ k
    (then_finds (IsTotal j) (λ f. IsFound f (m.scaled j a) k) c _ l
    (λ z q r. after_finds (λ f. IsFound f (m.scaled j a) k) _ _ (record {
      meant = scale j h.meant;
      is = ap (m.scaled j) h.is;
      same = λ f. mass-scale z d f ∙ (λ y. r.is y * h.same f y) ∙ sym (mass-scale j h.meant f);
      total = (λ y. h.total y * r.is y) ∙ e;
    })))

-- operators that make no tuple, by the number of their arguments
abbrev plainly : Types → Op → Ty → List Argument → Meaning
plainly t p ty [] = o.nullary t p ty
plainly t p ty (a ∷ []) = o.unary t p ty a.meaning
plainly t p ty (a ∷ b ∷ []) = o.binary t p ty a b
plainly t p ty (a ∷ b ∷ c ∷ []) = o.ternary t p ty a b c
plainly t p ty _ = m.nothing

operated_plainly : (t : Types) (ty : Ty) (p : Op) (xs : List Argument) → is_tuple p ≡ false → o.operated t p ty xs ≡ plainly t p ty xs
operated_plainly t ty op.Tuple xs h = absurd (false≢true (sym h))
operated_plainly t ty _ [] h = refl
operated_plainly t ty _ (a ∷ []) h = refl
operated_plainly t ty _ (a ∷ b ∷ []) h = refl
operated_plainly t ty _ (a ∷ b ∷ c ∷ []) h = refl
operated_plainly t ty _ (a ∷ b ∷ c ∷ d ∷ xs) h = refl

-- denominators

multiplied_total : (c d : Comes ℕ) (j k : ℕ) → Finds (IsTotal j) c → Finds (IsTotal k) d → Finds (IsTotal (j * k)) (multiplied (c ∷ d ∷ []))
multiplied_total c d j k h l =
    then_finds (IsTotal j) (IsTotal (j * k)) c _ h (λ m e q.
    then_finds (IsTotal k) (IsTotal (j * k)) d _ l (λ n w r.
    after_finds (IsTotal (j * k)) (product_of (pos m) (pos n) ∷ []) (m * n) (record { is = λ i. q.is i * r.is i; above = above_product m n q.above r.above })))

-- one argument more
one_more : (bs : List Bound) (ms : List Meaning) (b : Bound) (m : Meaning) → given.AreMeant bs ms → given.Stands b m → given.AreMeant (bs ++ b ∷ []) (ms ++ m ∷ [])
one_more [] [] b m w h = (h, tt)
one_more [] (x ∷ ms) b m w h = absurd w
one_more (a ∷ bs) [] b m w h = absurd w
one_more (a ∷ bs) (x ∷ ms) b m w h = (w.0, one_more bs ms b m w.1 h)

argument_collected : (c : Comes Bound) (m : Meaning) (rest : List (Comes Bound)) (done : List Bound) (ms ns : List Meaning) → Finds (λ a. given.Stands a m) c → given.AreMeant done ms →
    ((gs : List Bound) (ls : List Meaning) → given.AreMeant gs ls → Finds (λ ws. given.AreMeant ws (ls ++ ns)) (collected gs rest)) →
    Finds (λ ws. given.AreMeant ws (ms ++ m ∷ ns)) (collected done (c ∷ rest))
argument_collected (found a) m rest done ms ns k w f =
    subst (λ l. Finds (λ ws. given.AreMeant ws l) (collected (done ++ a ∷ []) rest)) (append_assoc ms (m ∷ []) ns) (f (done ++ a ∷ []) (ms ++ m ∷ []) (one_more done ms a m w k))
argument_collected unknown m rest done ms ns k w f = tt
argument_collected (overflow o) m rest done ms ns k w f = tt

module _ (g : Setting) (j : Speaks) (s : State) (env : Environment) (ops : AreOperators g env.operators) (apart : AreKeptApart env.exclusions g.types) where
  -- the state inside of binders
  abbrev inner : List Binding → State
  inner bs = record s { bound = bs }

  -- a part means what its term comes to, inside of binders too
  record IsMeant (x : Part) (p : mt.Part) : Type 0 where
    means : (bs : List Binding) (vs : List Bound) → Binds g.types bs vs → Means (x.comes vs) (p.meaning (inner bs)) p.denominator
    total : Finds (IsTotal p.denominator) x.total

  abbrev AreMeant : List Part → List mt.Part → Type 0
  AreMeant [] [] = Unit {0}
  AreMeant (x ∷ xs) (p ∷ ps) = IsMeant x p × AreMeant xs ps
  AreMeant _ _ = ⊥

  stands_found : (b : Binding) (v : Bound) → given.BindsOne g.types b v → Means (finding_of v) (meaning_in b) 1
  stands_found (binding.value m) (to.Value v) h = h
  stands_found (binding.value m) (to.Whole n) h = h
  stands_found (binding.value m) (to.Fraction a) h = h
  stands_found (binding.value m) (to.Memory hs) h = absurd h
  stands_found (binding.memory m) (to.Memory hs) h = tt
  stands_found (binding.memory m) _ h = absurd h
  stands_found binding.program _ h = absurd h

  bound_meant : (bs : List Binding) (vs : List Bound) (i : ℕ) → Binds g.types bs vs → Means (value_bound vs i) (meaning_in (get_or bs i binding.program)) 1
  bound_meant bs [] i h = tt
  bound_meant [] (v ∷ vs) i h = absurd h
  bound_meant (b ∷ bs) (v ∷ vs) zero h = stands_found b v h.0
  bound_meant (b ∷ bs) (v ∷ vs) (suc i) h = bound_meant bs vs i h.1

  -- a read of a memory that is bound
  one_held : (b : Binding) (v : Bound) (x : Var) (ty : Ty) → given.BindsOne g.types b v → Means (ev.held_in (Some v) x ty) (meaning.finite (read g.types (st.memory_in b) x ty)) 1
  one_held (binding.memory m) (to.Memory hs) x ty h = by (held.value_of hs x ty) refl
    where
      by : (o : Option Value) → held.value_of hs x ty ≡ o → Means (ev.found_value o) (meaning.finite (read g.types m x ty)) 1
      by None e = tt
      by (Some v) e = ap meaning.finite (known_value g.types m hs h x ty v e)
  one_held (binding.value m) (to.Memory hs) x ty h = absurd h
  one_held binding.program (to.Memory hs) x ty h = absurd h
  one_held b _ x ty h = tt

  held_meant : (bs : List Binding) (vs : List Bound) (i : ℕ) (x : Var) (ty : Ty) → Binds g.types bs vs → Means (ev.held_in (ev.bound_at vs i) x ty) (meaning.finite (read g.types (st.memory_in (get_or bs i binding.program)) x ty)) 1
  held_meant bs [] i x ty h = tt
  held_meant [] (v ∷ vs) i x ty h = absurd h
  held_meant (b ∷ bs) (v ∷ vs) zero x ty h = one_held b v x ty h.0
  held_meant (b ∷ bs) (v ∷ vs) (suc i) x ty h = held_meant bs vs i x ty h.1

  -- a read of a memory that no binder binds is the same inside of binders
  read_meant : (r : Read) (xs : List Part) (ty : Ty) (bs : List Binding) (vs : List Bound) → Binds g.types bs vs → Serves g s env (head.Read r) xs ty → Means (value_of env.reads vs r ty) (read_at g r ty (inner bs)) 1
  read_meant (Logical i) xs ty bs vs b h = h
  read_meant (Program x side.Own) xs ty bs vs b h = h
  read_meant (Program x side.Left) xs ty bs vs b h = h
  read_meant (Program x side.Right) xs ty bs vs b h = h
  read_meant (Program x (side.Memory i)) xs ty bs vs b h = h
  read_meant (Program x (side.Bound i)) xs ty bs vs b h = held_meant bs vs i x ty b

  -- the truth of a part where a binder binds a value
  body_meant : (x : Part) (p : mt.Part) → IsMeant x p → (bs : List Binding) (vs : List Bound) → Binds g.types bs vs → (v : Value) → IsTruth (ev.truth_under x (to.Value v ∷ vs)) (m.truth (at_value p (inner bs) v))
  body_meant x p h bs vs b v = comes_truth (x.comes (to.Value v ∷ vs)) _ p.denominator (h.means (binding.value (meaning.finite v) ∷ bs) (to.Value v ∷ vs) (refl, b))

  truth_meant : (x : Part) (p : mt.Part) → IsMeant x p → (bs : List Binding) (vs : List Bound) → Binds g.types bs vs → IsTruth (ev.truth_under x vs) (m.truth (p.meaning (inner bs)))
  truth_meant x p h bs vs b = comes_truth (x.comes vs) _ p.denominator (h.means bs vs b)

  -- quantifiers

  all_values_meant : (u : Ty) (c : Card) (f : Value → Comes Bool) (h : Value → Bool) → card_of u ≡ c → ((v : Value) → IsTruth (f v) (h v)) → IsTruth (over_values false c u f) (each_value (values g.types u) h)
  all_values_meant u Above f h c k = tt
  all_values_meant u (Exact n) f h c k =
      subst (λ t. IsTruth (over_values false (Exact n) u f) (each_value t h)) (sym (exact g.types u n c).0)
      (subst (λ i. IsTruth (over_values false (Exact n) u f) (each_below i (λ i. h (value_at u i)))) (exact g.types u n c).1
      (each_meant n (λ i. f (value_at u i)) (λ i. h (value_at u i)) (λ i. k (value_at u i))))

  some_value_meant : (u : Ty) (c : Card) (f : Value → Comes Bool) (h : Value → Bool) → card_of u ≡ c → ((v : Value) → IsTruth (f v) (h v)) → IsTruth (over_values true c u f) (some_value (values g.types u) h)
  some_value_meant u Above f h c k = tt
  some_value_meant u (Exact n) f h c k =
      subst (λ t. IsTruth (over_values true (Exact n) u f) (some_value t h)) (sym (exact g.types u n c).0)
      (subst (λ i. IsTruth (over_values true (Exact n) u f) (some_below i (λ i. h (value_at u i)))) (exact g.types u n c).1
      (some_meant n (λ i. f (value_at u i)) (λ i. h (value_at u i)) (λ i. k (value_at u i))))

  forall_meant : (u : Ty) (xs : List Part) (ps : List mt.Part) (bs : List Binding) (vs : List Bound) → AreMeant xs ps → Binds g.types bs vs → Means (ev.quantified false u xs vs) (m.of_truth (each_value (values g.types u) (λ v. m.truth (at_value (last_of ps) (inner bs) v)))) 1
  forall_meant u [] ps bs vs h b = tt
  forall_meant u (x ∷ []) (p ∷ []) bs vs h b = answer_meant _ _ 1 (all_values_meant u (card_of u) _ _ refl (body_meant x p h.0 bs vs b))
  forall_meant u (x ∷ []) [] bs vs h b = absurd h
  forall_meant u (x ∷ []) (p ∷ q ∷ ps) bs vs h b = absurd h.1
  forall_meant u (x ∷ y ∷ xs) ps bs vs h b = tt

  exists_meant : (u : Ty) (xs : List Part) (ps : List mt.Part) (bs : List Binding) (vs : List Bound) → AreMeant xs ps → Binds g.types bs vs → Means (ev.quantified true u xs vs) (m.of_truth (some_value (values g.types u) (λ v. m.truth (at_value (last_of ps) (inner bs) v)))) 1
  exists_meant u [] ps bs vs h b = tt
  exists_meant u (x ∷ []) (p ∷ []) bs vs h b = answer_meant _ _ 1 (some_value_meant u (card_of u) _ _ refl (body_meant x p h.0 bs vs b))
  exists_meant u (x ∷ []) [] bs vs h b = absurd h
  exists_meant u (x ∷ []) (p ∷ q ∷ ps) bs vs h b = absurd h.1
  exists_meant u (x ∷ y ∷ xs) ps bs vs h b = tt

  -- quantifiers over memories

  module _ (x : Part) (p : mt.Part) (h : IsMeant x p) (bs : List Binding) (vs : List Bound) (b : Binds g.types bs vs) where
    abbrev here : Memory → Bool
    here mem = m.truth (p.meaning (st.under (inner bs) (binding.memory mem)))

    abbrev place : ℕ → Comes Bool
    place i = ev.in_memory x.reads x vs (value_at (ev.memories_of x.reads) i)

    place_meant : (mem : Memory) (i : ℕ) → parts_of (value_at (ev.memories_of x.reads) i) ≡ read_all g.types mem x.reads → IsTruth (place i) (here mem)
    place_meant mem i e =
        let known = held.with_values x.reads (parts_of (value_at (ev.memories_of x.reads) i)) in
        let holds : IsHeldBy g.types mem known = subst (λ us. IsHeldBy g.types mem (held.with_values x.reads us)) (sym e) (all_held g.types mem x.reads) in
        comes_truth (x.comes (to.Memory known ∷ vs)) _ p.denominator (h.means (binding.memory mem ∷ bs) (to.Memory known ∷ vs) (holds, b))

    said : (mem : Memory) (i : ℕ) (d : Bool) → parts_of (value_at (ev.memories_of x.reads) i) ≡ read_all g.types mem x.reads → place i ≡ found d → here mem ≡ d
    said mem i d e f = subst (λ c. IsTruth c (here mem)) f (place_meant mem i e)

    module _ (readable : AreReadable g.types x.reads) (free : are_free env.exclusions x.reads ≡ true) (n : ℕ) (c : card_of (ev.memories_of x.reads) ≡ Exact n) (some : 0 < n) where
      -- where each place says so, each memory does; and where one does, some memory
      each_memory : (d : Bool) → over (ev.next_truth d place) (not d) n ≡ found (not d) → (mem : Memory) → here mem ≡ not d
      each_memory d e mem = let q = place_of_memory g.types env.exclusions apart x.reads free readable n c some mem in said mem q.0 (not d) q.2 (each_says d place n e q.0 q.1)

      one_memory : (d : Bool) → over (ev.next_truth d place) (not d) n ≡ found d → (mem : Memory) × (here mem ≡ d)
      one_memory d e =
          let q = one_says d place n e in
          let mem = memory_of_place g.types env.exclusions apart x.reads free readable n c some q.0 q.1 in
          (mem.0, said mem.0 q.0 d mem.1 q.2)

      -- what is said of all memories, and of some memory

      of_all : (z : Bool) → (z ≡ true) ↔ ((mem : Memory) → here mem ≡ true) → (k : Comes Bool) → over (ev.next_truth false place) true n ≡ k → IsTruth k z
      of_all z w unknown e = tt
      of_all z w (overflow o) e = tt
      of_all z w (found true) e = w.1 (each_memory false e)
      of_all z w (found false) e = not_all z refl
        where
          not_all : (y : Bool) → z ≡ y → z ≡ false
          not_all false q = q
          not_all true q = let one = one_memory false e in absurd (false≢true (sym one.1 ∙ w.0 q one.0))

      of_some : (z : Bool) → (z ≡ true) ↔ ((mem : Memory) × (here mem ≡ true)) → (k : Comes Bool) → over (ev.next_truth true place) false n ≡ k → IsTruth k z
      of_some z w unknown e = tt
      of_some z w (overflow o) e = tt
      of_some z w (found true) e = w.1 (one_memory true e)
      of_some z w (found false) e = none z refl
        where
          none : (y : Bool) → z ≡ y → z ≡ false
          none false q = q
          none true q = let one = w.0 q in absurd (false≢true (sym (each_memory true e one.0) ∙ one.1))

    -- a quantifier, where it is known
    module _ (d z : Bool) (w : are_free env.exclusions x.reads ≡ true → (n : ℕ) → card_of (ev.memories_of x.reads) ≡ Exact n → 0 < n → IsTruth (over (ev.next_truth d place) (not d) n) z) where
      by_count : are_free env.exclusions x.reads ≡ true → (n : ℕ) → card_of (ev.memories_of x.reads) ≡ Exact n → (y : Bool) → nat_lt 0 n ≡ y →
          Means ((if y then found n else unknown) >>= λ k. over (ev.next_truth d place) (not d) k >>= λ a. found (of_truth a)) (m.of_truth z) 1
      by_count f n c true l = answer_meant _ _ 1 (w f n c (ltb-true 0 n l))
      by_count f n c false l = tt

      by_card : are_free env.exclusions x.reads ≡ true → (k : Card) → card_of (ev.memories_of x.reads) ≡ k →
          Means (ev.number_of_memories k >>= λ k. over (ev.next_truth d place) (not d) k >>= λ a. found (of_truth a)) (m.of_truth z) 1
      by_card f (Exact n) c = by_count f n c (nat_lt 0 n) refl
      by_card f Above c = tt

      by_free : (y : Bool) → are_free env.exclusions x.reads ≡ y → Means (if y then ev.in_memories d x.reads x vs else unknown) (m.of_truth z) 1
      by_free true f = by_card f (card_of (ev.memories_of x.reads)) refl
      by_free false f = tt

      remembered_meant : Means (ev.remembered env.exclusions d (x ∷ []) vs) (m.of_truth z) 1
      remembered_meant = by_free (are_free env.exclusions x.reads) refl

  all_memories_meant : (t : Term) (xs : List Part) (ps : List mt.Part) (ty : Ty) → AreMeant xs ps → Serves g s env head.AllMemory xs ty → given.is_judged_at g j t head.AllMemory ps → (bs : List Binding) (vs : List Bound) → Binds g.types bs vs →
      Means (ev.remembered env.exclusions false xs vs) (m.of_truth (j.judged t (inner bs))) 1
  all_memories_meant t [] ps ty h k w bs vs b = tt
  all_memories_meant t (x ∷ []) (p ∷ []) ty h k w bs vs b = remembered_meant x p h.0 bs vs b false (j.judged t (inner bs)) (λ f n c l. of_all x p h.0 bs vs b k f n c l (j.judged t (inner bs)) (w (inner bs)) _ refl)
  all_memories_meant t (x ∷ []) [] ty h k w bs vs b = absurd h
  all_memories_meant t (x ∷ []) (p ∷ q ∷ ps) ty h k w bs vs b = absurd h.1
  all_memories_meant t (x ∷ y ∷ xs) ps ty h k w bs vs b = tt

  some_memory_meant : (t : Term) (xs : List Part) (ps : List mt.Part) (ty : Ty) → AreMeant xs ps → Serves g s env head.SomeMemory xs ty → given.is_judged_at g j t head.SomeMemory ps → (bs : List Binding) (vs : List Bound) → Binds g.types bs vs →
      Means (ev.remembered env.exclusions true xs vs) (m.of_truth (j.judged t (inner bs))) 1
  some_memory_meant t [] ps ty h k w bs vs b = tt
  some_memory_meant t (x ∷ []) (p ∷ []) ty h k w bs vs b = remembered_meant x p h.0 bs vs b true (j.judged t (inner bs)) (λ f n c l. of_some x p h.0 bs vs b k f n c l (j.judged t (inner bs)) (w (inner bs)) _ refl)
  some_memory_meant t (x ∷ []) [] ty h k w bs vs b = absurd h
  some_memory_meant t (x ∷ []) (p ∷ q ∷ ps) ty h k w bs vs b = absurd h.1
  some_memory_meant t (x ∷ y ∷ xs) ps ty h k w bs vs b = tt

  -- distributions and events

  event_at : (x : Part) (p : mt.Part) → IsMeant x p → (bs : List Binding) (vs : List Bound) → Binds g.types bs vs → (l : WeightedList Value) →
      Finds (λ ts. ts ≡ map (λ v. m.truth (at_value p (inner bs) v)) (outcomes l)) (event x l vs)
  event_at x p h bs vs b l = each_collected (λ v. ev.truth_under x (to.Value v ∷ vs)) (λ v. m.truth (at_value p (inner bs) v)) (body_meant x p h bs vs b) l []

  -- a distribution that is found
  table_meant : (x : Part) (p : mt.Part) → IsMeant x p → (bs : List Binding) (vs : List Bound) → Binds g.types bs vs → Finds (λ d. IsTable d.0 d.1 (p.meaning (inner bs)) p.denominator) (ev.table_under x vs)
  table_meant x p h bs vs b =
      then_finds (λ f. IsFound f (p.meaning (inner bs)) p.denominator) (λ d. IsTable d.0 d.1 (p.meaning (inner bs)) p.denominator) (x.comes vs) table_in (means_finds _ _ _ (h.means bs vs b)) (λ f e i. step f i)
    where
      step : (f : Finding) → IsFound f (p.meaning (inner bs)) p.denominator → Finds (λ d. IsTable d.0 d.1 (p.meaning (inner bs)) p.denominator) (table_in f)
      step (value v) i = tt
      step (whole v) i = tt
      step (fraction v) i = tt
      step (table n l) i = i

  measured_meant : (x y : Part) (p q : mt.Part) (bs : List Binding) (vs : List Bound) → IsMeant x p → IsMeant y q → Binds g.types bs vs →
      Means (ev.measured (x ∷ y ∷ []) vs) (meaning.fraction (pos (weight (m.weights_in (p.meaning (inner bs))) (λ v. m.truth (at_value q (inner bs) v))), p.denominator)) 1
  measured_meant x y p q bs vs h k b =
      finds_means _ _ 1 (then_finds (λ d. IsTable d.0 d.1 (p.meaning (inner bs)) p.denominator) (λ f. IsFound f (meaning.fraction (pos (weight (m.weights_in (p.meaning (inner bs))) test), p.denominator)) 1) (ev.table_under x vs) (λ d. ev.weighed y d vs) (table_meant x p h bs vs b)
      (λ d e i. then_finds (λ ts. ts ≡ map test (outcomes d.1)) (λ f. IsFound f (meaning.fraction (pos (weight (m.weights_in (p.meaning (inner bs))) test), p.denominator)) 1) (event y d.1 vs) (λ ts. chance (total (lists.kept ts d.1)) d.0) (event_at y q k bs vs b d.1)
      (λ ts w r. means_finds _ _ 1 (chance_meant _ _ d.0 p.denominator 1
      (ap (λ z. total (lists.kept z d.1)) r ∙ kept_mass test d.1 ∙ i.same (λ v. bit (test v)) ∙ sym (ap (λ z. weight (m.weights_in z) test) i.is)) i.total))))
    where
      test : Value → Bool
      test v = m.truth (at_value q (inner bs) v)

  restricted_meant : (x y : Part) (p q : mt.Part) (bs : List Binding) (vs : List Bound) → IsMeant x p → IsMeant y q → Binds g.types bs vs →
      Means (ev.restricted (x ∷ y ∷ []) vs) (meaning.weights (distributions.restricted (m.weights_in (p.meaning (inner bs))) (λ v. m.truth (at_value q (inner bs) v)))) p.denominator
  restricted_meant x y p q bs vs h k b =
      finds_means _ _ p.denominator (then_finds (λ d. IsTable d.0 d.1 (p.meaning (inner bs)) p.denominator) (λ f. IsFound f (meaning.weights (distributions.restricted (m.weights_in (p.meaning (inner bs))) test)) p.denominator) (ev.table_under x vs) (λ d. ev.narrowed y d vs) (table_meant x p h bs vs b)
      (λ d e i. then_finds (λ ts. ts ≡ map test (outcomes d.1)) (λ f. IsFound f (meaning.weights (distributions.restricted (m.weights_in (p.meaning (inner bs))) test)) p.denominator) (event y d.1 vs) (λ ts. found (table d.0 (lists.kept ts d.1))) (event_at y q k bs vs b d.1)
      (λ ts w r. record {
        meant = distributions.restricted i.meant test;
        is = ap (λ z. meaning.weights (distributions.restricted (m.weights_in z) test)) i.is;
        same = λ f. ap (λ z. mass (lists.kept z d.1) f) r ∙ ap (λ z. mass z f) (kept_is test d.1) ∙ restricted_mass test d.1 f ∙ i.same (λ v. bit (test v) * f v) ∙ sym (restricted_mass test i.meant f);
        total = i.total;
      })))
    where
      test : Value → Bool
      test v = m.truth (at_value q (inner bs) v)

  -- sums

  fraction_found : (c : Comes Finding) (x : Meaning) (k : ℕ) → Means c x k → Finds (λ a. IsFraction a (meaning.fraction (m.fraction_in x))) (c >>= fraction_in)
  fraction_found (found (fraction a)) x k h = record { meant = h.meant; is = ap (λ z. meaning.fraction (m.fraction_in z)) h.is; above = h.above; found_above = h.found_above; same = h.same }
  fraction_found (found (value v)) x k h = tt
  fraction_found (found (whole v)) x k h = tt
  fraction_found (found (table n l)) x k h = tt
  fraction_found unknown x k h = tt
  fraction_found (overflow v) x k h = tt

  -- a sum of fractions that are found for others
  record IsSum (a b : Fraction) : Type 0 where
    above : 0 < a.1
    meant_above : 0 < b.1
    same : IsSame a b

  of_fraction : (a b : Fraction) → IsFraction a (meaning.fraction b) → IsSum a b
  of_fraction a b f =
      let e : f.meant ≡ b = sym (ap m.fraction_in f.is) in
      record { above = f.found_above; meant_above = subst (λ z. 0 < z.1) e f.above; same = subst (λ z. IsSame a z) e f.same }

  sum_meant : (f : ℕ → Comes Fraction) (h : ℕ → Fraction) → ((i : ℕ) → Finds (λ a. IsFraction a (meaning.fraction (h i))) (f i)) → (n : ℕ) → Finds (λ a. IsSum a (sum_below n h)) (over (ev.next_sum f) zero_fraction n)
  sum_meant f h k zero = record { above = omega arith; meant_above = omega arith; same = refl }
  sum_meant f h k (suc n) =
      then_finds (λ a. IsSum a (sum_below n h)) (λ a. IsSum a (sum_below (suc n) h)) (over (ev.next_sum f) zero_fraction n) (λ a. ev.next_sum f a n) (sum_meant f h k n)
      (λ a e i. then_finds (λ b. IsFraction b (meaning.fraction (h n))) (λ a. IsSum a (sum_below (suc n) h)) (f n) _ (k n)
      (λ b q r. let c = of_fraction b (h n) r in
      after_finds (λ a. IsSum a (sum_below (suc n) h)) (plus_steps a b) _
      (of_fraction _ _ (reduced_meant (plus a b) (mf.plus (sum_below n h) (h n)) (above_product _ _ i.above c.above) (above_product _ _ i.meant_above c.meant_above) (same_plus a (sum_below n h) b (h n) i.same c.same)))))

  summed_meant : (q : ℕ) (x : Part) (p : mt.Part) (bs : List Binding) (vs : List Bound) → IsMeant x p → Binds g.types bs vs →
      Means (ev.summed q (x ∷ []) vs) (meaning.fraction (sum_below q (λ i. m.fraction_in (p.meaning (st.under (inner bs) (binding.value (m.of_number i))))))) 1
  summed_meant q x p bs vs h b =
      finds_means _ _ 1
      (if_finds (λ f. IsFound f _ 1) (nat_le q (2 ^ 32)) _ (λ e.
      then_finds (λ a. IsSum a (sum_below q value)) (λ f. IsFound f (meaning.fraction (sum_below q value)) 1) (over (ev.next_sum body) zero_fraction q) _
      (sum_meant body value (λ i. fraction_found (x.comes (to.Value (Num i) ∷ vs)) _ p.denominator (h.means (binding.value (m.of_number i) ∷ bs) (to.Value (Num i) ∷ vs) (refl, b))) q)
      (λ a w r. record { meant = sum_below q value; is = refl; above = r.meant_above; found_above = r.above; same = r.same })))
    where
      body : ℕ → Comes Fraction
      body i = x.comes (to.Value (Num i) ∷ vs) >>= fraction_in

      value : ℕ → Fraction
      value i = m.fraction_in (p.meaning (st.under (inner bs) (binding.value (m.of_number i))))

  -- operators

  value_found : (c : Comes Finding) (x : Meaning) (k : ℕ) → Means c x k → Finds (λ v. m.value_in x ≡ v) (c >>= value_in)
  value_found (found (value v)) x k h = ap m.value_in h
  value_found (found (whole v)) x k h = tt
  value_found (found (fraction v)) x k h = tt
  value_found (found (table n l)) x k h = tt
  value_found unknown x k h = tt
  value_found (overflow v) x k h = tt

  tuple_meant : (xs : List Part) (ps : List mt.Part) (bs : List Binding) (vs : List Bound) → AreMeant xs ps → Binds g.types bs vs → (out : List Value) →
      Finds (λ ws. ws ≡ out ++ map (λ p. m.value_in (p.meaning (inner bs))) ps) (collected out (map (λ x. x.comes vs >>= value_in) xs))
  tuple_meant [] [] bs vs h b out = behind_none out
  tuple_meant [] (p ∷ ps) bs vs h b out = absurd h
  tuple_meant (x ∷ xs) [] bs vs h b out = absurd h
  tuple_meant (x ∷ xs) (p ∷ ps) bs vs h b out =
      one_collected out (x.comes vs >>= value_in) (m.value_in (p.meaning (inner bs))) (map (λ x. x.comes vs >>= value_in) xs) (map (λ p. m.value_in (p.meaning (inner bs))) ps)
      (value_found (x.comes vs) (p.meaning (inner bs)) p.denominator (h.0.means bs vs b)) (tuple_meant xs ps bs vs h.1 b)

  same_parts : (ps : List mt.Part) (bs : List Binding) → map (λ a. m.value_in a.meaning) (map (argument (inner bs)) ps) ≡ map (λ p. m.value_in (p.meaning (inner bs))) ps
  same_parts [] bs = refl
  same_parts (p ∷ ps) bs = ap (λ l. m.value_in (p.meaning (inner bs)) ∷ l) (same_parts ps bs)

  -- images

  images_at : (x : Part) (p : mt.Part) → IsMeant x p → (bs : List Binding) (vs : List Bound) → Binds g.types bs vs → (l : WeightedList Value) →
      Finds (λ ws. ws ≡ map (λ v. m.value_in (at_value p (inner bs) v)) (outcomes l)) (images x l vs)
  images_at x p h bs vs b l =
      each_collected (λ v. x.comes (to.Value v ∷ vs) >>= value_in) (λ v. m.value_in (at_value p (inner bs) v))
      (λ v. value_found (x.comes (to.Value v ∷ vs)) (at_value p (inner bs) v) p.denominator (h.means (binding.value (meaning.finite v) ∷ bs) (to.Value v ∷ vs) (refl, b))) l []

  mapped_meant : (x y : Part) (p q : mt.Part) (bs : List Binding) (vs : List Bound) → IsMeant x p → IsMeant y q → Binds g.types bs vs →
      Means (ev.mapped (x ∷ y ∷ []) vs) (meaning.weights (dmap (λ v. m.value_in (at_value q (inner bs) v)) (m.weights_in (p.meaning (inner bs))))) p.denominator
  mapped_meant x y p q bs vs h k b =
      finds_means _ _ p.denominator (then_finds (λ d. IsTable d.0 d.1 (p.meaning (inner bs)) p.denominator) P (ev.table_under x vs) (λ d. ev.image_of y d vs) (table_meant x p h bs vs b)
      (λ d e i. then_finds (λ ws. ws ≡ map image (outcomes d.1)) P (images y d.1 vs) (λ ws. found (table d.0 (lists.imaged ws d.1))) (images_at y q k bs vs b d.1)
      (λ ws w r. record {
        meant = dmap image i.meant;
        is = ap (λ z. meaning.weights (dmap image (m.weights_in z))) i.is;
        same = λ f. ap (λ z. mass (lists.imaged z d.1) f) r ∙ ap (λ z. mass z f) (imaged_is image d.1) ∙ image_same image d.1 i.meant i.same f;
        total = i.total;
      })))
    where
      image : Value → Value
      image v = m.value_in (at_value q (inner bs) v)

      P : Finding → Type 0
      P f = IsFound f (meaning.weights (dmap image (m.weights_in (p.meaning (inner bs))))) p.denominator

  -- operators at their numbers of arguments, but those of tuples
  module _ (ty : Ty) (bs : List Binding) (vs : List Bound) (b : Binds g.types bs vs) where
    one_meant : (p : Op) (x : Part) (q : mt.Part) → IsMeant x q → Means (x.comes vs >>= λ a. e.unary p ty a) (o.unary g.types p ty (q.meaning (inner bs))) (denominator_at g.types p ty (q.denominator ∷ []))
    one_meant p x q h =
        finds_means _ _ _ (then_finds (λ f. IsFound f (q.meaning (inner bs)) q.denominator) _ (x.comes vs) _ (means_finds _ _ _ (h.means bs vs b))
        (λ f w i. means_finds _ _ _ (unary_meant g.types ty p f (argument (inner bs) q) i)))

    two_meant : (p : Op) (x y : Part) (q r : mt.Part) → IsMeant x q → IsMeant y r →
        Means (x.comes vs >>= λ a. y.comes vs >>= λ c. e.binary p ty a c) (o.binary g.types p ty (argument (inner bs) q) (argument (inner bs) r)) (denominator_at g.types p ty (q.denominator ∷ r.denominator ∷ []))
    two_meant p x y q r h k =
        finds_means _ _ _ (then_finds (λ f. IsFound f (q.meaning (inner bs)) q.denominator) _ (x.comes vs) _ (means_finds _ _ _ (h.means bs vs b))
        (λ f w i. then_finds (λ f. IsFound f (r.meaning (inner bs)) r.denominator) _ (y.comes vs) _ (means_finds _ _ _ (k.means bs vs b))
        (λ f2 w2 i2. means_finds _ _ _ (binary_meant g.types ty p f f2 (argument (inner bs) q) (argument (inner bs) r) i i2))))

    chosen_meant : (c : Comes Bool) (d : Bool) (y z : Part) (r u : mt.Part) → IsTruth c d → IsMeant y r → IsMeant z u →
        Means (c >>= λ a. ev.chosen a y z vs) (o.chosen d (argument (inner bs) r) (argument (inner bs) u)) (r.denominator * u.denominator)
    chosen_meant c d y z r u h k l =
        finds_means _ _ _ (then_finds (λ a. d ≡ a) (λ f. IsFound f (o.chosen d (argument (inner bs) r) (argument (inner bs) u)) (r.denominator * u.denominator)) c (λ a. ev.chosen a y z vs) h (λ a w i. by a d i))
      where
        by : (a d : Bool) → d ≡ a → Finds (λ f. IsFound f (o.chosen d (argument (inner bs) r) (argument (inner bs) u)) (r.denominator * u.denominator)) (ev.chosen a y z vs)
        by true true i =
            then_finds (λ f. IsFound f (r.meaning (inner bs)) r.denominator) _ (y.comes vs) _ (means_finds _ _ _ (k.means bs vs b))
            (λ f w q. means_finds _ _ _ (side_meant f _ r.denominator u.denominator _ z.total q l.total refl))
        by false false i =
            then_finds (λ f. IsFound f (u.meaning (inner bs)) u.denominator) _ (z.comes vs) _ (means_finds _ _ _ (l.means bs vs b))
            (λ f w q. means_finds _ _ _ (side_meant f _ u.denominator r.denominator _ y.total q k.total (mul_comm u.denominator r.denominator)))
        by true false i = absurd (false≢true i)
        by false true i = absurd (false≢true (sym i))

    connected_meant : (p : Op) (x y : Part) (q r : mt.Part) → IsMeant x q → IsMeant y r → is_connective p ≡ true →
        Means (connective p (ev.truth_under x vs) (ev.truth_under y vs) >>= λ a. found (of_truth a)) (o.binary g.types p ty (argument (inner bs) q) (argument (inner bs) r)) (denominator_at g.types p ty (q.denominator ∷ r.denominator ∷ []))
    connected_meant op.And x y q r h k w = answer_meant _ _ 1 (and_meant _ _ _ _ (truth_meant x q h bs vs b) (truth_meant y r k bs vs b))
    connected_meant op.Or x y q r h k w = answer_meant _ _ 1 (or_meant _ _ _ _ (truth_meant x q h bs vs b) (truth_meant y r k bs vs b))
    connected_meant op.Implies x y q r h k w = answer_meant _ _ 1 (implies_meant _ _ _ _ (truth_meant x q h bs vs b) (truth_meant y r k bs vs b))
    connected_meant op.Iff x y q r h k w = answer_meant _ _ 1 (iff_meant _ _ _ _ (truth_meant x q h bs vs b) (truth_meant y r k bs vs b))
    connected_meant _ x y q r h k w = absurd (false≢true w)

    at_two_meant : (p : Op) (x y : Part) (q r : mt.Part) → IsMeant x q → IsMeant y r → (c : Bool) → is_connective p ≡ c →
        Means (if c then (connective p (ev.truth_under x vs) (ev.truth_under y vs) >>= λ a. found (of_truth a)) else (x.comes vs >>= λ a. y.comes vs >>= λ d. e.binary p ty a d))
        (o.binary g.types p ty (argument (inner bs) q) (argument (inner bs) r)) (denominator_at g.types p ty (q.denominator ∷ r.denominator ∷ []))
    at_two_meant p x y q r h k true w = connected_meant p x y q r h k w
    at_two_meant p x y q r h k false w = two_meant p x y q r h k

    conditional_meant : (p : Op) (x y z : Part) (q r u : mt.Part) → IsMeant x q → IsMeant y r → IsMeant z u →
        Means (ev.at_three p ty (x ∷ y ∷ z ∷ []) vs) (o.ternary g.types p ty (argument (inner bs) q) (argument (inner bs) r) (argument (inner bs) u)) (denominator_at g.types p ty (q.denominator ∷ r.denominator ∷ u.denominator ∷ []))
    conditional_meant op.Set x y z q r u h k l =
        finds_means _ _ 1 (then_finds (λ f. IsFound f (q.meaning (inner bs)) q.denominator) _ (x.comes vs) _ (means_finds _ _ _ (h.means bs vs b))
        (λ f1 w1 i1. then_finds (λ f. IsFound f (r.meaning (inner bs)) r.denominator) _ (y.comes vs) _ (means_finds _ _ _ (k.means bs vs b))
        (λ f2 w2 i2. then_finds (λ f. IsFound f (u.meaning (inner bs)) u.denominator) _ (z.comes vs) _ (means_finds _ _ _ (l.means bs vs b))
        (λ f3 w3 i3. means_finds _ _ 1 (updated_meant g.types ty f1 f2 f3 _ _ _ _ _ _ i1 i2 i3)))))
    conditional_meant op.If x y z q r u h k l = chosen_meant (ev.truth_under x vs) _ y z r u (truth_meant x q h bs vs b) k l
    conditional_meant _ x y z q r u h k l = tt

    plainly_meant : (p : Op) (xs : List Part) (ps : List mt.Part) → AreMeant xs ps → Means (ev.at_arguments p ty xs vs) (plainly g.types p ty (map (argument (inner bs)) ps)) (denominator_at g.types p ty (map (λ p. p.denominator) ps))
    plainly_meant p [] [] h = nullary_meant g.types ty p
    plainly_meant p [] (q ∷ ps) h = absurd h
    plainly_meant p (x ∷ xs) [] h = absurd h
    plainly_meant p (x ∷ []) (q ∷ []) h = one_meant p x q h.0
    plainly_meant p (x ∷ []) (q ∷ r ∷ ps) h = absurd h.1
    plainly_meant p (x ∷ y ∷ xs) (q ∷ []) h = absurd h.1
    plainly_meant p (x ∷ y ∷ []) (q ∷ r ∷ []) h = at_two_meant p x y q r h.0 h.1.0 (is_connective p) refl
    plainly_meant p (x ∷ y ∷ []) (q ∷ r ∷ u ∷ ps) h = absurd h.1.1
    plainly_meant p (x ∷ y ∷ z ∷ xs) (q ∷ r ∷ []) h = absurd h.1.1
    plainly_meant p (x ∷ y ∷ z ∷ []) (q ∷ r ∷ u ∷ []) h = conditional_meant p x y z q r u h.0 h.1.0 h.1.1.0
    plainly_meant p (x ∷ y ∷ z ∷ []) (q ∷ r ∷ u ∷ w ∷ ps) h = absurd h.1.1.1
    plainly_meant p (x ∷ y ∷ z ∷ w ∷ xs) ps h = tt

    operated_meant : (p : Op) (xs : List Part) (ps : List mt.Part) → AreMeant xs ps → (c : Bool) → is_tuple p ≡ c →
        Means (if c then ev.tuple xs vs else ev.at_arguments p ty xs vs) (o.operated g.types p ty (map (argument (inner bs)) ps)) (denominator_at g.types p ty (map (λ p. p.denominator) ps))
    operated_meant p xs ps h false e = subst (λ z. Means (ev.at_arguments p ty xs vs) z (denominator_at g.types p ty (map (λ p. p.denominator) ps))) (sym (operated_plainly g.types ty p (map (argument (inner bs)) ps) e)) (plainly_meant p xs ps h)
    operated_meant op.Tuple xs ps h true e =
        finds_means _ _ 1
        (then_finds (λ ws. ws ≡ map (λ p. m.value_in (p.meaning (inner bs))) ps) _ (collected [] (map (λ x. x.comes vs >>= value_in) xs)) (λ ws. found (value (Many ws))) (tuple_meant xs ps bs vs h b [])
        (λ ws w q. ap (λ l. meaning.finite (Many l)) (same_parts ps bs ∙ sym q)))
    operated_meant _ xs ps h true e = absurd (false≢true e)

  -- operators of the script

  argument_meant : (c : Comes Finding) (x : Meaning) (k : ℕ) → Means c x k → Finds (λ a. given.Stands a x) (c >>= argument_of)
  argument_meant (found (value v)) x k h = h
  argument_meant (found (whole v)) x k h = h
  argument_meant (found (fraction v)) x k h = record { meant = h.meant; is = h.is; above = h.above; found_above = h.found_above; same = h.same }
  argument_meant (found (table n l)) x k h = tt
  argument_meant unknown x k h = tt
  argument_meant (overflow v) x k h = tt

  arguments_meant : (xs : List Part) (ps : List mt.Part) (bs : List Binding) (vs : List Bound) → AreMeant xs ps → Binds g.types bs vs → (done : List Bound) (ms : List Meaning) → given.AreMeant done ms →
      Finds (λ ws. given.AreMeant ws (ms ++ map (λ p. p.meaning (inner bs)) ps)) (collected done (map (λ x. x.comes vs >>= argument_of) xs))
  arguments_meant [] [] bs vs h b done ms w = subst (given.AreMeant done) (sym (append-nil ms)) w
  arguments_meant [] (p ∷ ps) bs vs h b done ms w = absurd h
  arguments_meant (x ∷ xs) [] bs vs h b done ms w = absurd h
  arguments_meant (x ∷ xs) (p ∷ ps) bs vs h b done ms w =
      argument_collected (x.comes vs >>= argument_of) (p.meaning (inner bs)) (map (λ x. x.comes vs >>= argument_of) xs) done ms (map (λ p. p.meaning (inner bs)) ps)
      (argument_meant (x.comes vs) (p.meaning (inner bs)) p.denominator (h.0.means bs vs b)) w (arguments_meant xs ps bs vs h.1 b)

  result_meant : (f : Finding) (x : Meaning) (k : ℕ) (ty : Ty) (b : Bool) → ev.may_have ty f ≡ b → IsFound f x k → Finds (λ f. IsFound f x (denominator_over ty k)) (if b then found f else unknown)
  result_meant f x k ty false q h = tt
  result_meant (value v) x k ty true q h = h
  result_meant (whole v) x k ty true q h = h
  result_meant (fraction v) x k ty true q h = record { meant = h.meant; is = h.is; above = h.above; found_above = h.found_above; same = h.same }
  result_meant (table n l) x k ty true q h = record { meant = h.meant; is = h.is; same = h.same; total = h.total ∙ ap (λ b. if b then k else 1) (sym q) }

  called_meant : (n : Name) (ty : Ty) (xs : List Part) (ps : List mt.Part) (bs : List Binding) (vs : List Bound) → AreMeant xs ps → Binds g.types bs vs →
      Means (ev.called (env.operators n) ty xs vs) (g.operator n (map (λ p. p.meaning (inner bs)) ps)) (denominator_over ty (g.denominator n))
  called_meant n ty xs ps bs vs h b =
      finds_means _ _ _ (then_finds (λ ws. given.AreMeant ws (map (λ p. p.meaning (inner bs)) ps)) _ (ev.arguments xs vs) _ (arguments_meant xs ps bs vs h b [] [] tt)
      (λ ws w q. then_finds (λ f. IsFound f (g.operator n (map (λ p. p.meaning (inner bs)) ps)) (g.denominator n)) _ ((env.operators n).comes ws) _ (means_finds _ _ _ ((ops n).results ws (map (λ p. p.meaning (inner bs)) ps) q))
      (λ f w2 k. result_meant f _ (g.denominator n) ty (ev.may_have ty f) refl k)))

  part_denominators : {n : _} (r : Row_of-Term n) → denominators g r ≡ map (λ p. p.denominator) (parts g j r)
  part_denominators end_of-Term = refl
  part_denominators (more_of-Term t r) = ap (λ l. denominator g t ∷ l) (part_denominators r)

  head_meant : (t : Term) (h : Head) (xs : List Part) (ps : List mt.Part) (ty : Ty) → AreMeant xs ps → Serves g s env h xs ty → given.is_judged_at g j t h ps → (bs : List Binding) (vs : List Bound) → Binds g.types bs vs → Means (ev.at_head env h ty xs vs) (mt.at_head g j t h ps ty (inner bs)) (denominator_of g h (map (λ p. p.denominator) ps) ty)
  head_meant t (head.Lit v) xs ps ty h w u bs vs b = refl
  head_meant t (head.Whole n) xs ps ty h w u bs vs b = refl
  head_meant t (head.Bound i) xs ps ty h w u bs vs b = bound_meant bs vs i b
  head_meant t (head.Read r) xs ps ty h w u bs vs b = read_meant r xs ty bs vs b w
  head_meant t (head.Builtin o) xs ps ty h w u bs vs b = operated_meant ty bs vs b o xs ps h (is_tuple o) refl
  head_meant t (head.User n) xs ps ty h w u bs vs b = called_meant n ty xs ps bs vs h b
  head_meant t (head.All v) xs ps ty h w u bs vs b = forall_meant v xs ps bs vs h b
  head_meant t (head.Some v) xs ps ty h w u bs vs b = exists_meant v xs ps bs vs h b
  head_meant t head.AllMemory xs ps ty h w u bs vs b = all_memories_meant t xs ps ty h w u bs vs b
  head_meant t head.SomeMemory xs ps ty h w u bs vs b = some_memory_meant t xs ps ty h w u bs vs b
  head_meant t head.Mu (x ∷ y ∷ []) (p ∷ q ∷ []) ty h w u bs vs b = measured_meant x y p q bs vs h.0 h.1.0 b
  head_meant t head.Mu (x ∷ y ∷ []) (p ∷ q ∷ r ∷ ps) ty h w u bs vs b = absurd h.1.1
  head_meant t head.Mu (x ∷ y ∷ []) (p ∷ []) ty h w u bs vs b = absurd h.1
  head_meant t head.Mu (x ∷ y ∷ []) [] ty h w u bs vs b = absurd h
  head_meant t head.Restrict (x ∷ y ∷ []) (p ∷ q ∷ []) ty h w u bs vs b = restricted_meant x y p q bs vs h.0 h.1.0 b
  head_meant t head.Restrict (x ∷ y ∷ []) (p ∷ q ∷ r ∷ ps) ty h w u bs vs b = absurd h.1.1
  head_meant t head.Restrict (x ∷ y ∷ []) (p ∷ []) ty h w u bs vs b = absurd h.1
  head_meant t head.Restrict (x ∷ y ∷ []) [] ty h w u bs vs b = absurd h
  head_meant t head.Map (x ∷ y ∷ []) (p ∷ q ∷ []) ty h w u bs vs b = mapped_meant x y p q bs vs h.0 h.1.0 b
  head_meant t head.Map (x ∷ y ∷ []) (p ∷ q ∷ r ∷ ps) ty h w u bs vs b = absurd h.1.1
  head_meant t head.Map (x ∷ y ∷ []) (p ∷ []) ty h w u bs vs b = absurd h.1
  head_meant t head.Map (x ∷ y ∷ []) [] ty h w u bs vs b = absurd h
  head_meant t (head.Weights qs) xs ps ty h w u bs vs b = stated_meant qs
  head_meant t (head.Sum q) (x ∷ []) (p ∷ []) ty h w u bs vs b = summed_meant q x p bs vs h.0 b
  head_meant t (head.Sum q) (x ∷ []) (p ∷ r ∷ ps) ty h w u bs vs b = absurd h.1
  head_meant t (head.Sum q) (x ∷ []) [] ty h w u bs vs b = absurd h
  head_meant t _ xs ps ty h w u bs vs b = tt

  operator_total_meant : (p : Op) (xs : List Part) (ps : List mt.Part) (ty : Ty) → AreMeant xs ps → Finds (IsTotal (denominator_at g.types p ty (map (λ p. p.denominator) ps))) (operator_total p ty (map (λ x. x.total) xs))
  operator_total_meant op.Coin xs ps ty h = record { is = refl; above = omega arith }
  operator_total_meant op.Uniform xs ps ty h = outcomes_total g.types (outcome_type ty) (card_of (outcome_type ty)) refl
  operator_total_meant op.Dunit xs ps ty h = record { is = refl; above = omega arith }
  operator_total_meant op.Product [] ps ty h = tt
  operator_total_meant op.Product (x ∷ []) ps ty h = tt
  operator_total_meant op.Product (x ∷ y ∷ []) (p ∷ q ∷ []) ty h = multiplied_total x.total y.total _ _ h.0.total h.1.0.total
  operator_total_meant op.Product (x ∷ y ∷ []) (p ∷ q ∷ r ∷ ps) ty h = absurd h.1.1
  operator_total_meant op.Product (x ∷ y ∷ []) (p ∷ []) ty h = absurd h.1
  operator_total_meant op.Product (x ∷ y ∷ []) [] ty h = absurd h
  operator_total_meant op.Product (x ∷ y ∷ z ∷ xs) ps ty h = tt
  operator_total_meant op.If [] ps ty h = tt
  operator_total_meant op.If (x ∷ []) ps ty h = tt
  operator_total_meant op.If (x ∷ y ∷ []) ps ty h = tt
  operator_total_meant op.If (x ∷ y ∷ z ∷ []) (p ∷ q ∷ r ∷ []) ty h = multiplied_total y.total z.total _ _ h.1.0.total h.1.1.0.total
  operator_total_meant op.If (x ∷ y ∷ z ∷ []) (p ∷ q ∷ r ∷ u ∷ ps) ty h = absurd h.1.1.1
  operator_total_meant op.If (x ∷ y ∷ z ∷ []) (p ∷ q ∷ []) ty h = absurd h.1.1
  operator_total_meant op.If (x ∷ y ∷ z ∷ []) (p ∷ []) ty h = absurd h.1
  operator_total_meant op.If (x ∷ y ∷ z ∷ []) [] ty h = absurd h
  operator_total_meant op.If (x ∷ y ∷ z ∷ w ∷ xs) ps ty h = tt
  operator_total_meant _ xs ps ty h = tt

  denominator_found : (c : Comes ℕ) (k : ℕ) → given.IsDenominator c k → Finds (IsTotal k) c
  denominator_found (found n) k h = record { is = h.0; above = h.1 }
  denominator_found unknown k h = tt
  denominator_found (overflow o) k h = tt

  user_total_meant : (n : Name) (ty : Ty) (b : Bool) → Finds (IsTotal (if b then g.denominator n else 1)) (if b then (env.operators n).total else unknown)
  user_total_meant n ty true = denominator_found (env.operators n).total (g.denominator n) (ops n).total
  user_total_meant n ty false = tt

  head_total_meant : (h : Head) (xs : List Part) (ps : List mt.Part) (ty : Ty) → AreMeant xs ps → Finds (IsTotal (denominator_of g h (map (λ p. p.denominator) ps) ty)) (head_total env.operators h ty (map (λ x. x.total) xs))
  head_total_meant (head.Builtin o) xs ps ty h = operator_total_meant o xs ps ty h
  head_total_meant (head.User n) xs ps ty h = user_total_meant n ty (is_distribution ty)
  head_total_meant (head.Weights qs) xs ps ty h = stated_total qs
  head_total_meant head.Map [] ps ty h = tt
  head_total_meant head.Map (x ∷ []) ps ty h = tt
  head_total_meant head.Map (x ∷ y ∷ z ∷ xs) ps ty h = tt
  head_total_meant head.Map (x ∷ y ∷ []) (p ∷ q ∷ []) ty h = h.0.total
  head_total_meant head.Map (x ∷ y ∷ []) (p ∷ q ∷ r ∷ ps) ty h = absurd h.1.1
  head_total_meant head.Map (x ∷ y ∷ []) (p ∷ []) ty h = absurd h.1
  head_total_meant head.Map (x ∷ y ∷ []) [] ty h = absurd h
  head_total_meant head.Restrict [] ps ty h = tt
  head_total_meant head.Restrict (x ∷ []) ps ty h = tt
  head_total_meant head.Restrict (x ∷ y ∷ z ∷ xs) ps ty h = tt
  head_total_meant head.Restrict (x ∷ y ∷ []) (p ∷ q ∷ []) ty h = h.0.total
  head_total_meant head.Restrict (x ∷ y ∷ []) (p ∷ q ∷ r ∷ ps) ty h = absurd h.1.1
  head_total_meant head.Restrict (x ∷ y ∷ []) (p ∷ []) ty h = absurd h.1
  head_total_meant head.Restrict (x ∷ y ∷ []) [] ty h = absurd h
  head_total_meant _ xs ps ty h = tt

  part_totals : {n : _} (r : Row_of-Term n) → totals_of env.operators r ≡ map (λ x. x.total) (eval_all env r)
  part_totals end_of-Term = refl
  part_totals (more_of-Term t r) = ap (λ l. total_of env.operators t ∷ l) (part_totals r)

  mutual
    term_meant : (t : Term) → IsServed g s env t → given.AreJudged g j t → IsMeant (ev.part_of env t) (mt.part_of g j t)
    term_meant (Term' p (more_of-Head h end_of-Head) n ts ty) w u =
        let inside = row_meant ts w.1 u.1 in
        record {
          means = λ bs vs b.
              subst (λ ks. Means (ev.at_head env h ty (eval_all env ts) vs) (mt.at_head g j (Term' p (more_of-Head h end_of-Head) n ts ty) h (parts g j ts) ty (inner bs)) (denominator_of g h ks ty)) (sym (part_denominators ts))
              (head_meant (Term' p (more_of-Head h end_of-Head) n ts ty) h (eval_all env ts) (parts g j ts) ty inside w.0 u.0 bs vs b);
          total = subst (λ ks. Finds (IsTotal (denominator_of g h ks ty)) (head_total env.operators h ty (totals_of env.operators ts))) (sym (part_denominators ts))
              (subst (λ us. Finds (IsTotal (denominator_of g h (map (λ p. p.denominator) (parts g j ts)) ty)) (head_total env.operators h ty us)) (sym (part_totals ts))
              (head_total_meant h (eval_all env ts) (parts g j ts) ty inside));
        }

    row_meant : {n : _} (r : Row_of-Term n) → AllServed g s env r → given.AllJudged g j r → AreMeant (eval_all env r) (parts g j r)
    row_meant end_of-Term w u = tt
    row_meant (more_of-Term t r) w u = (term_meant t w.0 u.0, row_meant r w.1 u.1)

pub served_sound : (g : Setting) (j : Speaks) (s : State) (env : Environment) (t : Term) (bound : List Bound) → AreOperators g env.operators → AreKeptApart env.exclusions g.types → IsServed g s env t → given.AreJudged g j t → Binds g.types s.bound bound → Means (eval env t bound) (val g j t s) (denominator g t)
served_sound g j s env t bound o k w u b = (term_meant g j s env o k t w u).means s.bound bound b

pub answer_sound : (g : Setting) (j : Speaks) (s : State) (env : Environment) (t : Term) (bound : List Bound) → AreOperators g env.operators → AreKeptApart env.exclusions g.types → AreGiven g s env.reads t → given.AreJudged g j t → Binds g.types s.bound bound → Means (eval env t bound) (val g j t s) (denominator g t)
answer_sound g j s env t bound o k w u b = served_sound g j s env t bound o k (served_given g s env t w) u b

pub truth_sound : (g : Setting) (j : Speaks) (s : State) (env : Environment) (t : Term) (b : Bool) → AreOperators g env.operators → AreKeptApart env.exclusions g.types → AreGiven g s env.reads t → given.AreJudged g j t → ev.truth_at env t [] ≡ found b → m.truth (val g j t s) ≡ b
truth_sound g j s env t b o k w u h = subst (λ c. IsTruth c (m.truth (val g j t s))) h (comes_truth (eval env t []) (val g j t s) (denominator g t) (answer_sound g j s env t [] o k w u tt))

pub total_sound : (g : Setting) (s : State) (env : Environment) (t : Term) → AreOperators g env.operators → AreKeptApart env.exclusions g.types → IsServed g s env t → given.AreJudged g mt.quiet t → given.IsDenominator (total_of env.operators t) (denominator g t)
total_sound g s env t o k w u = step (total_of env.operators t) (term_meant g mt.quiet s env o k t w u).total
  where
    step : (c : Comes ℕ) → Finds (IsTotal (denominator g t)) c → given.IsDenominator c (denominator g t)
    step (found n) h = (h.is, h.above)
    step unknown h = tt
    step (overflow v) h = tt
