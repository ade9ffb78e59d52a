-- Equations that are true in a state may be used up there.
use Rattle.std.proofs.Common.{◌≡◌, ℕ, zero, suc, ◌+◌, Bool, true, false, ◌&&◌, inl, inr, ◌⊎◌, Option, Some, None, List, [], ◌∷◌, ◌++◌, map, take, drop, refl, ap, sym, ◌∙◌, subst}
use Rattle.std.specs.List.{AllByRecursion}
use Rattle.std.proofs.lemmas.Bool.{false≢true, and_from}
use Rattle.gb_core.specs.declared.ty.Ty.{Ty}
use Rattle.gb_core.specs.declared.value.Value.{Value}
use Rattle.gb_terms.specs.declared.op.Op.TheVariants.{Equal}
use Rattle.gb_terms.specs.declared.op.Read.{Read}
use Rattle.gb_terms.specs.declared.op.Read.TheVariants.{Logical, Program}
use Rattle.gb_terms.specs.declared.term.Term.{Term, out-Term}
use Rattle.gb_terms.specs.declared.term.Head.TheVariants as head
use Rattle.gb_terms.specs.Equal.{read_eq}
use Rattle.gb_terms.proofs.Equality.{read_eq-Decides}
use Rattle.gb_terms.specs.Make.{node}
use Rattle.gb_walk.specs.declared.change.Change.{Change}
use Rattle.gb_walk.specs.declared.change.Change.TheVariants.{ToTerm}
use Rattle.gb_walk.specs.Change.{Changes, or_later, read_changed, term_changed}
use Rattle.gb_meaning.specs.Setting.{Meaning, Setting}
use Rattle.gb_meaning.specs.Setting.Meaning.{finite, whole, fraction, weights}
use Rattle.gb_meaning.specs.Meanings.{truth, same}
use Rattle.gb_meaning.specs.State.{State}
use Rattle.gb_meaning.specs.Terms.{Speaks, read_at, val, denominator}
use Rattle.gb_meaning.proofs.Nodes.{each_is_node, val_node}
use Rattle.gb_meaning.proofs.Values.{value_eq-true}
use Rattle.gb_meaning.proofs.Truths.{truth_of}
use Rattle.gb_smt.specs.declared.leaves.Leaf.{Leaf}
use Rattle.gb_smt.specs.Meant.{IsRight}
use Rattle.gb_smt.specs.Equations.{use_of, one_further, here_or_further, first_usable, others, with_used, if_usable, used_up_to}
use Rattle.gb_smt_laws.specs.Simple.{is_simple}
use Rattle.gb_smt_laws.specs.Reading.{Reading, IsReadAt, IsReadingOf}
use Rattle.gb_smt_laws.specs.Fits.{Fits}
use Rattle.gb_smt_laws.specs.Closing.{FitsIfSimple, IsAssumed, AreAssumed, IsConcluded, LeafHolds}
use Rattle.gb_smt_laws.proofs.Nodes.{simple_node, read_in, operator_in}
use Rattle.gb_smt_laws.proofs.Given.{one_type}
use Rattle.gb_smt_laws.proofs.Led.{OnFound, IsPutFor, Leading}
use Rattle.gb_smt_laws.proofs.Followed.{simple_before, followed}
use Rattle.gb_smt_laws.proofs.Equations.{IsUse, IsEquation, equation_used, none_some, some_some}

pub same_left : (v : Value) (m : Meaning) → same (finite v) m ≡ true → m ≡ finite v
same_left v (finite w) e = ap finite (sym ((value_eq-true v w).0 e))
same_left v (whole n) e = absurd (false≢true e)
same_left v (fraction a) e = absurd (false≢true e)
same_left v (weights d) e = absurd (false≢true e)

pub same_right : (v : Value) (m : Meaning) → same m (finite v) ≡ true → m ≡ finite v
same_right v (finite w) e = ap finite ((value_eq-true w v).0 e)
same_right v (whole n) e = absurd (false≢true e)
same_right v (fraction a) e = absurd (false≢true e)
same_right v (weights d) e = absurd (false≢true e)

-- a variable and a term that mean the same
record Sides (g : Setting) (j : Speaks) (T : Reading) (s : State) (x u : Term) : Type 0 where
  fits_read : Fits g T x
  fits : Fits g T u
  one : denominator g u ≡ 1
  equal : (v : Value) → val g j x s ≡ finite v → val g j u s ≡ finite v

module _ (g : Setting) (j : Speaks) (T : Reading) (s : State) (valid : IsReadingOf g T s) where
  read_side : (x : Term) (r : Read) → (out-Term x).head ≡ head.Read r → x ≡ node (head.Read r) (out-Term x).args (out-Term x).ty
  read_side x r e = each_is_node x ∙ ap (λ h. node h (out-Term x).args (out-Term x).ty) e

  read_simple : (x : Term) (r : Read) → (out-Term x).head ≡ head.Read r → is_simple x ≡ true
  read_simple x r e = ap is_simple (read_side x r e) ∙ simple_node (head.Read r) (out-Term x).args (out-Term x).ty

  put_for : (x u : Term) (c : Change) (k : IsUse x u c) → (is_simple u ≡ true → Sides g j T s x u) → (q : Read) → k.read ≡ q → (ty : Ty) → IsReadAt T q ty → IsPutFor g j T s (read_at g q ty s) u
  put_for x u c k f q e ty a simple =
      let w = f simple in
      let typed : IsReadAt T q (out-Term x).ty =
      subst (λ o. IsReadAt T o (out-Term x).ty) e (read_in g T k.read (out-Term x).args (out-Term x).ty (subst (Fits g T) (read_side x k.read k.is_read) w.fits_read)) in
      let there = valid.1 q (out-Term x).ty typed in
      let means : val g j x s ≡ finite there.0 =
      ap (λ t. val g j t s) (read_side x k.read k.is_read) ∙ val_node g j (head.Read k.read) (out-Term x).args (out-Term x).ty s ∙ ap (λ o. read_at g o (out-Term x).ty s) e ∙ there.1 in
      (w.fits, w.one, w.equal there.0 means ∙ sym there.1 ∙ ap (λ t. read_at g q t s) (one_type T q (out-Term x).ty ty typed a))

  kept : (r : Read) (u : Term) (q : Read) (ty : Ty) → IsReadAt T q ty → IsReadAt T (read_changed (ToTerm r u ∷ []) q) ty × (read_at g (read_changed (ToTerm r u ∷ []) q) ty s ≡ read_at g q ty s)
  kept r u (Logical i) ty a = (a, refl)
  kept r u (Program x o) ty a = (a, refl)

  use_leads : (x u : Term) (c : Change) → IsUse x u c → (is_simple u ≡ true → Sides g j T s x u) → Leading g j (c ∷ []) T T s s
  use_leads x u c k f = subst (λ c. Leading g j (c ∷ []) T T s s) (sym k.change) (record { reads = reads; bound = λ i. refl })
    where
      reads : (q : Read) (ty : Ty) → IsReadAt T q ty → OnFound (or_later (read_eq k.read q) u None) (IsPutFor g j T s (read_at g q ty s))
          (IsReadAt T (read_changed (ToTerm k.read u ∷ []) q) ty × (read_at g (read_changed (ToTerm k.read u ∷ []) q) ty s ≡ read_at g q ty s))
      reads q ty a = step (read_eq k.read q) refl
        where
          step : (b : Bool) → read_eq k.read q ≡ b → OnFound (or_later b u None) (IsPutFor g j T s (read_at g q ty s))
              (IsReadAt T (read_changed (ToTerm k.read u ∷ []) q) ty × (read_at g (read_changed (ToTerm k.read u ∷ []) q) ty s ≡ read_at g q ty s))
          step true e = put_for x u c k f q ((read_eq-Decides k.read q).0 e) ty a
          step false e = kept k.read u q ty a

  module _ (h : Term) (c : Change) (q : IsEquation h c) (a : IsAssumed g j T s h) where
    simple_sides : is_simple q.left ≡ true → is_simple q.right ≡ true → is_simple h ≡ true
    simple_sides l r =
        ap is_simple q.is_node ∙ simple_node (head.Builtin Equal) (q.left ∷ q.right ∷ []) q.ty
        ∙ and_from (is_simple q.left) (is_simple q.right && true) l (and_from (is_simple q.right) true r refl)

    both_same : truth (val g j h s) ≡ true → same (val g j q.left s) (val g j q.right s) ≡ true
    both_same e =
        sym (truth_of (same (val g j q.left s) (val g j q.right s)))
        ∙ sym (ap truth (ap (λ t. val g j t s) q.is_node ∙ val_node g j (head.Builtin Equal) (q.left ∷ q.right ∷ []) q.ty s)) ∙ e

    left_sides : is_simple q.left ≡ true → is_simple q.right ≡ true → Sides g j T s q.left q.right
    left_sides l r =
        let p = a (simple_sides l r) in
        let f = operator_in g T Equal (q.left ∷ q.right ∷ []) q.ty (subst (Fits g T) q.is_node p.0) in
        record { fits_read = f.1.0; fits = f.1.1.0; one = f.0.1; equal = λ v e. same_left v (val g j q.right s) (ap (λ m. same m (val g j q.right s)) (sym e) ∙ both_same p.1) }

    right_sides : is_simple q.left ≡ true → is_simple q.right ≡ true → Sides g j T s q.right q.left
    right_sides l r =
        let p = a (simple_sides l r) in
        let f = operator_in g T Equal (q.left ∷ q.right ∷ []) q.ty (subst (Fits g T) q.is_node p.0) in
        record { fits_read = f.1.1.0; fits = f.1.0; one = f.0.0; equal = λ v e. same_right v (val g j q.left s) (ap (same (val g j q.left s)) (sym e) ∙ both_same p.1) }

    equation_leads : Leading g j (c ∷ []) T T s s
    equation_leads = step q.used
      where
        step : IsUse q.left q.right c ⊎ IsUse q.right q.left c → Leading g j (c ∷ []) T T s s
        step (inl k) = use_leads q.left q.right c k (left_sides (read_simple q.left k.read k.is_read))
        step (inr k) = use_leads q.right q.left c k (λ b. right_sides b (read_simple q.right k.read k.is_read))

  usable_leads : (hs : List Term) (e : _) → AreAssumed g j T s hs → first_usable hs ≡ Some e → Leading g j e.changes T T s s
  usable_leads [] e a p = none_some e p
  usable_leads (h ∷ hs) e a p = here (use_of h) refl p (λ d q. usable_leads hs d a.1 q)
    where
      further : (o : _) → one_further o ≡ Some e → ((d : _) → o ≡ Some d → Leading g j d.changes T T s s) → Leading g j e.changes T T s s
      further None p f = none_some e p
      further (Some d) p f = subst (λ cs. Leading g j cs T T s s) (λ i. (some_some _ e p i).changes) (f d refl)

      here : (o : Option Change) → use_of h ≡ o → here_or_further o (first_usable hs) ≡ Some e → ((d : _) → first_usable hs ≡ Some d → Leading g j d.changes T T s s) → Leading g j e.changes T T s s
      here (Some c) k p f = subst (λ cs. Leading g j cs T T s s) (λ i. (some_some _ e p i).changes) (equation_leads h c (equation_used h c k) a.0)
      here None k p f = further (first_usable hs) p f

  module _ (right : IsRight g j) (cs : Changes) (l : Leading g j cs T T s s) where
    assumed_changed : (h : Term) → IsAssumed g j T s h → IsAssumed g j T s (term_changed h cs)
    assumed_changed h a b =
        let before = simple_before h cs b in
        let p = a before in
        let f = followed g j right h cs T T s s l p.0 before b in
        (f.0, ap truth f.1 ∙ p.1)

    each_changed : (hs : List Term) → AreAssumed g j T s hs → AreAssumed g j T s (map (λ t. term_changed t cs) hs)
    each_changed [] a = tt
    each_changed (h ∷ hs) a = (assumed_changed h a.0, each_changed hs a.1)

    fits_changed : (t : Term) → FitsIfSimple g T t → FitsIfSimple g T (term_changed t cs)
    fits_changed t f b = let before = simple_before t cs b in (followed g j right t cs T T s s l (f before) before b).0

    concluded_before : (t : Term) → FitsIfSimple g T t → IsConcluded g j s (term_changed t cs) → IsConcluded g j s t
    concluded_before t f c =
        let before = simple_before t cs c.0 in
        (before, sym (ap truth (followed g j right t cs T T s s l (f before) before c.0).1) ∙ c.1)

pub each_taken : {X : Type 0} (P : X → Type 0) (n : ℕ) (xs : List X) → AllByRecursion P xs → AllByRecursion P (take n xs)
each_taken P zero xs a = tt
each_taken P (suc n) [] a = tt
each_taken P (suc n) (x ∷ xs) a = (a.0, each_taken P n xs a.1)

pub each_dropped : {X : Type 0} (P : X → Type 0) (n : ℕ) (xs : List X) → AllByRecursion P xs → AllByRecursion P (drop n xs)
each_dropped P zero xs a = a
each_dropped P (suc n) [] a = tt
each_dropped P (suc n) (x ∷ xs) a = each_dropped P n xs a.1

pub each_together : {X : Type 0} (P : X → Type 0) (xs ys : List X) → AllByRecursion P xs → AllByRecursion P ys → AllByRecursion P (xs ++ ys)
each_together P [] ys a b = b
each_together P (x ∷ xs) ys a b = (a.0, each_together P xs ys a.1 b)

module _ (g : Setting) (j : Speaks) (right : IsRight g j) where
  used_once : (l : Leaf) (e : _) → first_usable l.hyps ≡ Some e → LeafHolds g j (with_used e l) → LeafHolds g j l
  used_once l e p h T s valid a f =
      let led = usable_leads g j T s valid l.hyps e a p in
      let left = each_together (IsAssumed g j T s) (take e.place l.hyps) (drop (e.place + 1) l.hyps) (each_taken (IsAssumed g j T s) e.place l.hyps a) (each_dropped (IsAssumed g j T s) (e.place + 1) l.hyps a) in
      concluded_before g j T s valid right e.changes led l.conclusion f
      (h T s valid (each_changed g j T s valid right e.changes led (others l.hyps e.place) left) (fits_changed g j T s valid right e.changes led l.conclusion f))

  pub used_holds : (n : ℕ) (l : Leaf) → LeafHolds g j (used_up_to n l) → LeafHolds g j l
  used_holds zero l h = h
  used_holds (suc n) l h = step (first_usable l.hyps) refl (λ e p k. used_once l e p (used_holds n (with_used e l) k)) h
    where
      step : (o : _) → first_usable l.hyps ≡ o → ((e : _) → first_usable l.hyps ≡ Some e → LeafHolds g j (used_up_to n (with_used e l)) → LeafHolds g j l) →
          LeafHolds g j (if_usable o l (used_up_to n)) → LeafHolds g j l
      step None p f h = h
      step (Some e) p f h = f e p h
