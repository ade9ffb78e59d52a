-- The leaves of a typed goal are typed: what isn't a form in them quantifies over modules, or judges bodies.
use Rattle.std.proofs.Common.{◌≡◌, ℕ, zero, suc, ◌+◌, Bool, true, false, if◌then◌else◌, ◌⊎◌, inl, inr, Option, Some, None, List, [], ◌∷◌, ◌++◌, map, take, drop, length, refl, ap, sym, ◌∙◌, subst}
use Rattle.std.specs.List.{AllByRecursion, flat_map}
use Rattle.std.proofs.lemmas.Bool.{false≢true}
use Rattle.gb_core.specs.declared.ty.Ty.{Ty}
use Rattle.gb_terms.specs.declared.decl.TypedName.{TypedName}
use Rattle.gb_terms.specs.declared.op.Op.TheVariants as op
use Rattle.gb_terms.specs.declared.op.Read.{Read}
use Rattle.gb_terms.specs.declared.term.Term.{Term, Term', Row_of-Term, end_of-Term, more_of-Term, end_of-Head, more_of-Head, out-Term}
use Rattle.gb_terms.specs.declared.term.Head.TheVariants as head
use Rattle.gb_terms.specs.Make.{node}
use Rattle.gb_walk.specs.declared.change.Change.{Change}
use Rattle.gb_walk.specs.Change.{Changes, term_changed}
use Rattle.gb_goal.specs.Goal.{judges_bodies}
use Rattle.gb_goal.specs.declared.sequent.Hyp.{Hyp}
use Rattle.gb_goal.specs.declared.sequent.Sequent.{Sequent}
use Rattle.gb_meaning.specs.Written.{type_of}
use Rattle.gb_meaning.proofs.Nodes.{each_is_node}
use Rattle.gb_meaning.specs.Truth.{has_module, last_has_module, Choice}
use Rattle.gb_laws.specs.Finite.{IsFinite}
use Rattle.gb_laws.specs.Operators.{item, IsOperator}
use Rattle.gb_laws.specs.Typing.{Binder, types_of, IsHead}
use Rattle.gb_laws.specs.Typing.Binder.{value, memory}
use Rattle.gb_laws.proofs.Nodes.{type_of_node}
use Rattle.gb_typing.specs.Context.{Context, Frame, erased}
use Rattle.gb_typing.specs.Typing.{IsTyped, IsForm, AreTyped}
use Rattle.gb_typing.specs.Formulas.{IsFirstForm, IsFormula, IsLastFormula}
use Rattle.gb_typing.specs.Sequents.{AreHypotheses, IsConclusion}
use Rattle.gb_typing.proofs.Conclusions.{formula_form}
use Rattle.gb_typing.proofs.Made.{IsNode, parts_typed}
use Rattle.gb_amb.proofs.Cases.{form_formula, conclusion_formula}
use Rattle.gb_amb.proofs.Wider.{small, more_variable, more_memory, wider}
use Rattle.gb_smt.specs.declared.leaves.Leaf.{Leaf}
use Rattle.gb_smt.specs.declared.leaves.Context.{Context as LeafContext}
use Rattle.gb_smt.specs.Equations.{use_of, one_further, here_or_further, first_usable, others, with_used, if_usable, used_up_to}
use Rattle.gb_smt.specs.Leaves as leaves
use Rattle.gb_smt.specs.Leaves.{with_variable, with_memory, connective, assumed, assumed_of, all_assumed, assumed_by, unless_true, is_true, whole, split, speaks_of_programs}
use Rattle.gb_smt_laws.proofs.Equations.{IsUse, IsEquation, equation_used, none_some, some_some}
use Rattle.gb_smt_laws.proofs.Split.{unsplit}
use Rattle.gb_smt_laws.proofs.Used.{each_taken, each_dropped, each_together}
use Rattle.gb_closing_laws.proofs.Carried.{IsCarried, from, form_carried, carried_value, carried_memory, carried_start}
use Rattle.gb_closing_laws.proofs.NoForms.{modules_stay, body_stays_at, judged_whole}
use Rattle.gb_closing_laws.proofs.Places.{AreForms, AreFrames, one_more, frames_more}
use Rattle.gb_closing_laws.proofs.Put.{form_changed}
use mathlib.Core.Former.{Count}

-- a form, unless it quantifies over modules or judges bodies
abbrev pub IsFormOrNone : Context → Term → Type 0
IsFormOrNone c f = has_module f ≡ false → judges_bodies (out-Term f).head ≡ false → IsForm c f

-- a leaf in a context over a base, whose hypotheses are forms
pub record IsTypedLeaf (b : Context) (l : Leaf) : Type 0 where
  pub variables : List Ty
  pub finite : AllByRecursion IsFinite variables
  pub memories : List Frame
  pub frames : AreFrames memories
  pub hyps : AreForms (small b variables memories) l.hyps
  pub conclusion : IsFormOrNone (small b variables memories) l.conclusion

-- Equations that are used up leave typed leaves typed.

module _ (b : Context) (us : List Ty) (ns : List Frame) where
  abbrev c : Context
  c = small b us ns

  abbrev Keeps : Changes → Type 0
  Keeps cs = (f : Term) → IsForm c f → IsForm c (term_changed f cs)

  no_arguments : (r : Read) (ts : List Term) (ty : Ty) → IsHead (erased c) (head.Read r) (map type_of ts) ty → ts ≡ []
  no_arguments r [] ty w = refl
  no_arguments r (t ∷ ts) ty w = absurd w

  -- a variable is a read without arguments
  pub variable_is : (x : Term) (r : Read) → (out-Term x).head ≡ head.Read r → IsTyped c x → x ≡ node (head.Read r) [] (out-Term x).ty
  variable_is x r e w =
      let is = each_is_node x ∙ ap (λ h. node h (out-Term x).args (out-Term x).ty) e in
      is ∙ ap (λ ts. node (head.Read r) ts (out-Term x).ty) (no_arguments r (out-Term x).args (out-Term x).ty (parts_typed c (head.Read r) (out-Term x).args (out-Term x).ty (subst (IsTyped c) is w)).0)

  use_keeps : (x u : Term) (d : Change) → IsUse x u d → IsTyped c x → IsTyped c u → type_of x ≡ type_of u → Keeps (d ∷ [])
  use_keeps x u d k w z e = subst (λ d. Keeps (d ∷ [])) (sym k.change) (λ f form. form_changed c k.read ty u (parts.0, parts.1) z written f form)
    where
      ty : Ty
      ty = (out-Term x).ty

      is : x ≡ node (head.Read k.read) [] ty
      is = variable_is x k.read k.is_read w

      parts : IsNode c (head.Read k.read) [] [] ty
      parts = parts_typed c (head.Read k.read) [] ty (subst (IsTyped c) is w)

      written : type_of u ≡ ty
      written = sym e ∙ ap type_of is ∙ type_of_node (head.Read k.read) [] ty

  equation_keeps : (h : Term) (d : Change) → IsEquation h d → IsForm c h → Keeps (d ∷ [])
  equation_keeps h d q w = step q.used
    where
      parts : IsNode c (head.Builtin op.Equal) (type_of q.left ∷ type_of q.right ∷ []) (q.left ∷ q.right ∷ []) q.ty
      parts =
          parts_typed c (head.Builtin op.Equal) (q.left ∷ q.right ∷ []) q.ty
          (subst (IsTyped c) q.is_node w.typed)

      step : IsUse q.left q.right d ⊎ IsUse q.right q.left d → Keeps (d ∷ [])
      step (inl k) = use_keeps q.left q.right d k parts.3.0 parts.3.1 parts.0.1
      step (inr k) = use_keeps q.right q.left d k parts.3.1 parts.3.0 (sym parts.0.1)

  usable_keeps : (hs : List Term) (e : _) → AreForms c hs → first_usable hs ≡ Some e → Keeps e.changes
  usable_keeps [] e w p = none_some e p
  usable_keeps (h ∷ hs) e w p = here (use_of h) refl p (λ d q. usable_keeps hs d w.1 q)
    where
      further : (o : _) → one_further o ≡ Some e → ((d : _) → o ≡ Some d → Keeps d.changes) → Keeps e.changes
      further None p f = none_some e p
      further (Some d) p f = subst Keeps (λ k. (some_some _ e p k).changes) (f d refl)

      here : (o : Option Change) → use_of h ≡ o → here_or_further o (first_usable hs) ≡ Some e → ((d : _) → first_usable hs ≡ Some d → Keeps d.changes) → Keeps e.changes
      here (Some d) k p f = subst Keeps (λ j. (some_some _ e p j).changes) (equation_keeps h d (equation_used h d k) w.0)
      here None k p f = further (first_usable hs) p f

  -- what isn't a form isn't one with the changes
  still_false : (x y : Bool) → (x ≡ true → y ≡ true) → y ≡ false → x ≡ false
  still_false true y f e = absurd (false≢true (sym e ∙ f refl))
  still_false false y f e = refl

  module _ (cs : Changes) (keeps : Keeps cs) where
    hyps_kept : (hs : List Term) → AreForms c hs → AreForms c (map (λ t. term_changed t cs) hs)
    hyps_kept [] w = tt
    hyps_kept (h ∷ hs) w = (keeps h w.0, hyps_kept hs w.1)

    conclusion_kept : (t : Term) → IsFormOrNone c t → IsFormOrNone c (term_changed t cs)
    conclusion_kept t w m j =
        keeps t
        (w (still_false (has_module t) (has_module (term_changed t cs)) (λ e. modules_stay t e cs) m)
        (still_false (judges_bodies (out-Term t).head) (judges_bodies (out-Term (term_changed t cs)).head) (λ e. body_stays_at t e cs) j))

once_typed : (b : Context) (l : Leaf) (e : _) → first_usable l.hyps ≡ Some e → IsTypedLeaf b l → IsTypedLeaf b (with_used e l)
once_typed b l e p w =
    let c = small b w.variables w.memories in
    let keeps = usable_keeps b w.variables w.memories l.hyps e w.hyps p in
    record {
      variables = w.variables;
      finite = w.finite;
      memories = w.memories;
      frames = w.frames;
      hyps =
          hyps_kept b w.variables w.memories e.changes keeps (others l.hyps e.place)
          (each_together (IsForm c) (take e.place l.hyps) (drop (e.place + 1) l.hyps) (each_taken (IsForm c) e.place l.hyps w.hyps) (each_dropped (IsForm c) (e.place + 1) l.hyps w.hyps));
      conclusion = conclusion_kept b w.variables w.memories e.changes keeps l.conclusion w.conclusion;
    }

pub used_typed : (b : Context) (n : ℕ) (l : Leaf) → IsTypedLeaf b l → IsTypedLeaf b (used_up_to n l)
used_typed b zero l w = w
used_typed b (suc n) l w = step (first_usable l.hyps) refl (λ e p. used_typed b n (with_used e l) (once_typed b l e p w))
  where
    step : (o : _) → first_usable l.hyps ≡ o → ((e : _) → first_usable l.hyps ≡ Some e → IsTypedLeaf b (used_up_to n (with_used e l))) → IsTypedLeaf b (if_usable o l (used_up_to n))
    step None p f = w
    step (Some e) p f = f e p

-- What a form gives as hypotheses is forms.
module _ (c : Context) where
  alone : (t : Term) → IsForm c t → AreForms c (unless_true t)
  alone t w = by_test (is_true (out-Term t).head)
    where
      by_test : (x : Bool) → AreForms c (if x then [] else t ∷ [])
      by_test true = tt
      by_test false = (w, tt)

  mutual
    assumed_forms : (t : Term) → IsForm c t → AreForms c (assumed t)
    assumed_forms (Term' p (more_of-Head (head.Builtin op.And) end_of-Head) n ts ty) w =
        let k = w.typed in and_forms ts (Term' p (more_of-Head (head.Builtin op.And) end_of-Head) n ts ty) ty w k.0 k.3
    assumed_forms (Term' p (more_of-Head h end_of-Head) n ts ty) w = alone (Term' p (more_of-Head h end_of-Head) n ts ty) w

    and_forms : {n : Count} (ts : Row_of-Term n) (t : Term) (r : Ty) → IsForm c t → IsOperator op.And (types_of ts) r → AreTyped c c c ts → AreForms c (assumed_by (connective (head.Builtin op.And)) (all_assumed ts) t)
    and_forms end_of-Term t r w o k = alone t w
    and_forms (more_of-Term x end_of-Term) t r w o k = alone t w
    and_forms (more_of-Term x (more_of-Term y end_of-Term)) t r w o k =
        each_together (IsForm c) (assumed x) (assumed y) (assumed_forms x (record { typed = k.0; truth = o.0 })) (assumed_forms y (record { typed = k.1; truth = o.1.0 }))
    and_forms (more_of-Term x (more_of-Term y (more_of-Term z ts))) t r w o k = alone t w

-- A conclusion that is split.
module _ (b : Context) (L : ℕ → Option Ty) (n : List Frame) where
  -- the context of leaves behind quantifiers, in which hypotheses are forms
  record IsPlace (c : LeafContext) (bs : List Binder) (fs : List Frame) (us : List Ty) (ms : List Frame) (hs : List Term) : Type 0 where
    carried : IsCarried b L n c.changes bs fs us ms
    variables : c.logical ≡ length us
    memories : c.memories ≡ length ms
    finite : AllByRecursion IsFinite us
    frames : AreFrames ms
    hyps : AreForms (small b us ms) hs

  module _ (c : LeafContext) (bs : List Binder) (fs : List Frame) (us : List Ty) (ms : List Frame) (hs : List Term) (k : IsPlace c bs fs us ms hs) where
    each_moved : (P Q : Term → Type 0) → ((h : Term) → P h → Q h) → (xs : List Term) → AllByRecursion P xs → AllByRecursion Q xs
    each_moved P Q f [] a = tt
    each_moved P Q f (x ∷ xs) a = (f x a.0, each_moved P Q f xs a.1)

    with_value : (u : Ty) → IsFinite u → IsPlace (with_variable c u) (value u ∷ bs) (None ∷ fs) (us ++ u ∷ []) ms hs
    with_value u fin = record {
      carried = carried_value b L n c.changes bs fs us ms k.carried c.logical k.variables u fin;
      variables = ap (λ n. n + 1) k.variables ∙ sym (one_more us u);
      memories = k.memories;
      finite = each_together IsFinite us (u ∷ []) k.finite (fin, tt);
      frames = k.frames;
      hyps = each_moved (IsForm (small b us ms)) (IsForm (small b (us ++ u ∷ []) ms)) (λ h w. wider b us ms (us ++ u ∷ []) ms (more_variable us ms u) h w) hs k.hyps;
    }

    with_bound : (ls : List TypedName) → IsPlace (with_memory c) (memory ∷ bs) (Some ls ∷ fs) us (ms ++ Some ls ∷ []) hs
    with_bound ls = record {
      carried = carried_memory b L n c.changes bs fs us ms k.carried c.memories k.memories ls;
      variables = k.variables;
      memories = ap (λ n. n + 1) k.memories ∙ sym (one_more ms (Some ls));
      finite = k.finite;
      frames = (k.frames.0 ++ ls ∷ [], ap (λ xs. xs ++ Some ls ∷ []) k.frames.1 ∙ frames_more k.frames.0 ls);
      hyps = each_moved (IsForm (small b us ms)) (IsForm (small b us (ms ++ Some ls ∷ []))) (λ h w. wider b us ms us (ms ++ Some ls ∷ []) (more_memory us ms (Some ls)) h w) hs k.hyps;
    }

    with_premise : (x : Term) → IsForm (from b L n bs fs) x → IsPlace c bs fs us ms (hs ++ assumed (term_changed x c.changes))
    with_premise x w = record {
      carried = k.carried;
      variables = k.variables;
      memories = k.memories;
      finite = k.finite;
      frames = k.frames;
      hyps =
          each_together (IsForm (small b us ms)) hs (assumed (term_changed x c.changes)) k.hyps
          (assumed_forms (small b us ms) (term_changed x c.changes) (form_carried b L n c.changes bs fs us ms k.carried x w));
    }

    whole_typed : (t : Term) → IsFormOrNone (small b us ms) (term_changed t c.changes) → AllByRecursion (IsTypedLeaf b) (whole t c hs)
    whole_typed t w = (record { variables = us; finite = k.finite; memories = ms; frames = k.frames; hyps = k.hyps; conclusion = w }, tt)

    -- a formula that isn't split
    formula_whole : (t : Term) → IsFormula (from b L n bs fs) t → AllByRecursion (IsTypedLeaf b) (whole t c hs)
    formula_whole t w =
        whole_typed t
        (λ m j. form_carried b L n c.changes bs fs us ms k.carried t
        (formula_form (from b L n bs fs) t w (still_false b us ms (has_module t) (has_module (term_changed t c.changes)) (λ e. modules_stay t e c.changes) m)))

  abbrev AllTyped : List Leaf → Type 0
  AllTyped ls = AllByRecursion (IsTypedLeaf b) ls

  -- what is said where there is a quantifier over modules behind, and where there is none
  by_choice : (m : Bool) {A B : Type 0} (X : Type 0) → Choice m A B → (A → X) → (B → X) → X
  by_choice true X w f g = f w
  by_choice false X w f g = g w

  mutual
    split_typed : (t : Term) (c : LeafContext) (bs : List Binder) (fs : List Frame) (us : List Ty) (ms : List Frame) (hs : List Term) → IsPlace c bs fs us ms hs → IsFormula (from b L n bs fs) t → AllTyped (split t c hs)
    split_typed (Term' p (more_of-Head (head.All u) end_of-Head) a ts ty) c bs fs us ms hs k w =
        let t : Term = Term' p (more_of-Head (head.All u) end_of-Head) a ts ty in
        all_typed ts u ty t c bs fs us ms hs k (formula_whole c bs fs us ms hs k t w) w (λ f. (f.typed.0, f.typed.3))
    split_typed (Term' p (more_of-Head head.AllMemory end_of-Head) a ts ty) c bs fs us ms hs k w =
        let t : Term = Term' p (more_of-Head head.AllMemory end_of-Head) a ts ty in
        memory_typed ts ty t c bs fs us ms hs k (formula_whole c bs fs us ms hs k t w) w (λ f. (f.typed.0, f.typed.2, f.typed.3))
    split_typed (Term' p (more_of-Head (head.Builtin op.Implies) end_of-Head) a ts ty) c bs fs us ms hs k w =
        let t : Term = Term' p (more_of-Head (head.Builtin op.Implies) end_of-Head) a ts ty in
        implies_typed ts ty t c bs fs us ms hs k (formula_whole c bs fs us ms hs k t w) w (λ f. (f.typed.0, f.typed.3))
    split_typed (Term' p (more_of-Head (head.Builtin op.And) end_of-Head) a ts ty) c bs fs us ms hs k w =
        let t : Term = Term' p (more_of-Head (head.Builtin op.And) end_of-Head) a ts ty in
        and_typed ts ty t c bs fs us ms hs k (formula_whole c bs fs us ms hs k t w) (w.typed.0, w.typed.3)
    split_typed (Term' p (more_of-Head h end_of-Head) a ts ty) c bs fs us ms hs k w =
        let t : Term = Term' p (more_of-Head h end_of-Head) a ts ty in
        subst AllTyped (sym (unsplit h (leaves.parts ts) t c hs refl)) (formula_whole c bs fs us ms hs k t w)

    all_typed : {m : Count} (ts : Row_of-Term m) (u : Ty) (ty : Ty) (t : Term) (c : LeafContext) (bs : List Binder) (fs : List Frame) (us : List Ty) (ms : List Frame) (hs : List Term) → IsPlace c bs fs us ms hs → AllTyped (whole t c hs) →
        Choice (last_has_module ts) (IsHead (erased (from b L n bs fs)) (head.All u) (types_of ts) ty × IsLastFormula (from b L n (value u ∷ bs) (None ∷ fs)) ts) (IsForm (from b L n bs fs) t) →
        (IsForm (from b L n bs fs) t → IsHead (erased (from b L n bs fs)) (head.All u) (types_of ts) ty × AreTyped (from b L n bs fs) (from b L n bs fs) (from b L n (value u ∷ bs) (None ∷ fs)) ts) →
        AllTyped (leaves.split_by (head.All u) (leaves.parts ts) t c hs)
    all_typed end_of-Term u ty t c bs fs us ms hs k x w f = x
    all_typed (more_of-Term y end_of-Term) u ty t c bs fs us ms hs k x w f =
        let e = from b L n (value u ∷ bs) (None ∷ fs) in
        let parts = by_choice (has_module y) (IsFinite u × IsFormula e y) w (λ x. (x.0.0, x.1)) (λ z. let q = f z in (q.0.0, form_formula e y (record { typed = q.1; truth = q.0.1.0 }))) in
        split_typed y (with_variable c u) (value u ∷ bs) (None ∷ fs) (us ++ u ∷ []) ms hs (with_value c bs fs us ms hs k u parts.0) parts.1
    all_typed (more_of-Term y (more_of-Term z end_of-Term)) u ty t c bs fs us ms hs k x w f = x
    all_typed (more_of-Term y (more_of-Term z (more_of-Term o ts))) u ty t c bs fs us ms hs k x w f = x

    memory_typed : {m : Count} (ts : Row_of-Term m) (ty : Ty) (t : Term) (c : LeafContext) (bs : List Binder) (fs : List Frame) (us : List Ty) (ms : List Frame) (hs : List Term) → IsPlace c bs fs us ms hs → AllTyped (whole t c hs) →
        Choice (last_has_module ts) (IsHead (erased (from b L n bs fs)) head.AllMemory (types_of ts) ty × (ls : List TypedName) × IsLastFormula (from b L n (memory ∷ bs) (Some ls ∷ fs)) ts) (IsForm (from b L n bs fs) t) →
        (IsForm (from b L n bs fs) t → IsHead (erased (from b L n bs fs)) head.AllMemory (types_of ts) ty × (ls : List TypedName) × AreTyped (from b L n bs fs) (from b L n bs fs) (from b L n (memory ∷ bs) (Some ls ∷ fs)) ts) →
        AllTyped (leaves.split_by head.AllMemory (leaves.parts ts) t c hs)
    memory_typed end_of-Term ty t c bs fs us ms hs k x w f = x
    memory_typed (more_of-Term y end_of-Term) ty t c bs fs us ms hs k x w f =
        let parts = by_choice (has_module y) ((ls : List TypedName) × IsFormula (from b L n (memory ∷ bs) (Some ls ∷ fs)) y) w (λ x. (x.1, x.2))
        (λ z. let q = f z in (q.1, form_formula (from b L n (memory ∷ bs) (Some q.1 ∷ fs)) y (record { typed = q.2; truth = q.0.0 }))) in
        split_typed y (with_memory c) (memory ∷ bs) (Some parts.0 ∷ fs) us (ms ++ Some parts.0 ∷ []) hs (with_bound c bs fs us ms hs k parts.0) parts.1
    memory_typed (more_of-Term y (more_of-Term z end_of-Term)) ty t c bs fs us ms hs k x w f = x
    memory_typed (more_of-Term y (more_of-Term z (more_of-Term o ts))) ty t c bs fs us ms hs k x w f = x

    implies_typed : {m : Count} (ts : Row_of-Term m) (ty : Ty) (t : Term) (c : LeafContext) (bs : List Binder) (fs : List Frame) (us : List Ty) (ms : List Frame) (hs : List Term) → IsPlace c bs fs us ms hs → AllTyped (whole t c hs) →
        Choice (last_has_module ts) (IsHead (erased (from b L n bs fs)) (head.Builtin op.Implies) (types_of ts) ty × IsFirstForm (from b L n bs fs) ts × IsLastFormula (from b L n bs fs) ts) (IsForm (from b L n bs fs) t) →
        (IsForm (from b L n bs fs) t → IsHead (erased (from b L n bs fs)) (head.Builtin op.Implies) (types_of ts) ty × AreTyped (from b L n bs fs) (from b L n bs fs) (from b L n bs fs) ts) →
        AllTyped (leaves.split_by (head.Builtin op.Implies) (leaves.parts ts) t c hs)
    implies_typed end_of-Term ty t c bs fs us ms hs k x w f = x
    implies_typed (more_of-Term y end_of-Term) ty t c bs fs us ms hs k x w f = x
    implies_typed (more_of-Term y (more_of-Term z end_of-Term)) ty t c bs fs us ms hs k x w f =
        let e = from b L n bs fs in
        let parts = by_choice (has_module z) (IsForm e y × IsFormula e z) w (λ x. (x.1, x.2))
        (λ o. let q = f o in (record { typed = q.1.0; truth = q.0.0 }, form_formula e z (record { typed = q.1.1; truth = q.0.1.0 }))) in
        split_typed z c bs fs us ms (hs ++ assumed (term_changed y c.changes)) (with_premise c bs fs us ms hs k y parts.0) parts.1
    implies_typed (more_of-Term y (more_of-Term z (more_of-Term o ts))) ty t c bs fs us ms hs k x w f = x

    and_typed : {m : Count} (ts : Row_of-Term m) (ty : Ty) (t : Term) (c : LeafContext) (bs : List Binder) (fs : List Frame) (us : List Ty) (ms : List Frame) (hs : List Term) → IsPlace c bs fs us ms hs → AllTyped (whole t c hs) →
        IsHead (erased (from b L n bs fs)) (head.Builtin op.And) (types_of ts) ty × AreTyped (from b L n bs fs) (from b L n bs fs) (from b L n bs fs) ts → AllTyped (leaves.split_by (head.Builtin op.And) (leaves.parts ts) t c hs)
    and_typed end_of-Term ty t c bs fs us ms hs k x w = x
    and_typed (more_of-Term y end_of-Term) ty t c bs fs us ms hs k x w = x
    and_typed (more_of-Term y (more_of-Term z end_of-Term)) ty t c bs fs us ms hs k x w =
        let e = from b L n bs fs in
        each_together (IsTypedLeaf b) (split y c hs) (split z c hs)
        (split_typed y c bs fs us ms hs k (form_formula e y (record { typed = w.1.0; truth = w.0.0 })))
        (split_typed z c bs fs us ms hs k (form_formula e z (record { typed = w.1.1; truth = w.0.1.0 })))
    and_typed (more_of-Term y (more_of-Term z (more_of-Term o ts))) ty t c bs fs us ms hs k x w = x

-- A typed goal.
module _ (b : Context) (q : Sequent) (us : List Ty) (finite : AllByRecursion IsFinite us) (ns : List Frame) (frames : AreFrames ns) (variables : length q.logical ≡ length us) (memories : length q.memories ≡ length ns) where
  hyp_typed : (h : Hyp) → IsForm (small b us ns) h.form → AreForms (small b us ns) (assumed_of h)
  hyp_typed h w = step (speaks_of_programs h.form)
    where
      step : (p : Bool) → AreForms (small b us ns) (if p then [] else assumed h.form)
      step true = tt
      step false = assumed_forms (small b us ns) h.form w

  hyps_typed : (hs : List Hyp) → AreHypotheses (small b us ns) hs → AreForms (small b us ns) (flat_map assumed_of hs)
  hyps_typed [] w = tt
  hyps_typed (h ∷ hs) w = each_together (IsForm (small b us ns)) (assumed_of h) (flat_map assumed_of hs) (hyp_typed h w.0) (hyps_typed hs w.1)

  forms_typed : (fs : List Term) → AreForms (small b us ns) fs → AreForms (small b us ns) (flat_map assumed fs)
  forms_typed [] w = tt
  forms_typed (f ∷ fs) w = each_together (IsForm (small b us ns)) (assumed f) (flat_map assumed fs) (assumed_forms (small b us ns) f w.0) (forms_typed fs w.1)

  module _ (hs : List Term) (typed : AreForms (small b us ns) hs) where
    place : IsPlace b (λ i. item us i) ns (leaves.context_of q) [] [] us ns hs
    place = record { carried = carried_start b us ns; variables = variables; memories = memories; finite = finite; frames = frames; hyps = typed }

    conclusion_typed : (t : Term) → IsConclusion (small b us ns) t → AllByRecursion (IsTypedLeaf b) (split t (leaves.context_of q) hs)
    conclusion_typed t w = step (judges_bodies (out-Term t).head) refl
      where
        step : (j : Bool) → judges_bodies (out-Term t).head ≡ j → AllByRecursion (IsTypedLeaf b) (split t (leaves.context_of q) hs)
        step true j =
            subst (AllByRecursion (IsTypedLeaf b)) (sym (judged_whole (leaves.context_of q) hs t j))
            (whole_typed b (λ i. item us i) ns (leaves.context_of q) [] [] us ns hs place t (λ m e. absurd (false≢true (sym e ∙ body_stays_at t j []))))
        step false j = split_typed b (λ i. item us i) ns t (leaves.context_of q) [] [] us ns hs place (conclusion_formula (small b us ns) t w j)

  pub leaves_typed : (known : List Term) → AreForms (small b us ns) known → AreHypotheses (small b us ns) q.hyps → IsConclusion (small b us ns) q.conclusion → AllByRecursion (IsTypedLeaf b) (leaves.leaves_of known q)
  leaves_typed known forms hyps w =
      conclusion_typed (leaves.hyps_with known q) (each_together (IsForm (small b us ns)) (flat_map assumed_of q.hyps) (flat_map assumed known) (hyps_typed q.hyps hyps) (forms_typed known forms)) q.conclusion w
