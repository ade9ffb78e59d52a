-- A form is true where each of its leaves is.
use Rattle.std.proofs.Common.{◌≡◌, Bool, true, false, not, ◌||◌, List, [], ◌∷◌, ◌++◌, map, length, Some, None, refl, ap, sym, ◌∙◌, subst}
use Rattle.std.specs.List.{AllByRecursion}
use Rattle.std.proofs.lemmas.Bool.{and_from}
use Rattle.gb_core.specs.declared.ty.Ty.{Ty}
use Rattle.gb_core.specs.declared.ty.Ty.TheVariants as ty
use Rattle.gb_core.specs.declared.value.Value.{Value}
use Rattle.gb_terms.specs.declared.op.Op.TheVariants as op
use Rattle.gb_terms.specs.declared.op.Side.TheVariants as side
use Rattle.gb_terms.specs.declared.term.Term.{Term, Term', Row_of-Term, end_of-Term, more_of-Term, end_of-Head, more_of-Head}
use Rattle.gb_terms.specs.declared.term.Head.TheVariants as head
use Rattle.gb_terms.specs.Make.{node}
use Rattle.gb_walk.specs.declared.change.Change.TheVariants.{OfBound, ToSide}
use Rattle.gb_walk.specs.Change.{under_binder, args_changed, term_changed}
use Rattle.gb_meaning.specs.Commands.{terms_in}
use Rattle.gb_meaning.specs.Meanings.{truth}
use Rattle.gb_meaning.specs.Memory.{Memory}
use Rattle.gb_meaning.specs.Setting.{Setting}
use Rattle.gb_meaning.specs.Values.{has}
use Rattle.gb_meaning.specs.Written.{type_of}
use Rattle.gb_meaning.specs.Judgments.{Judge, IsFair, den}
use Rattle.gb_meaning.proofs.Truths.{true_and, true_implies, true_all, true_all_memory}
use Rattle.gb_laws.proofs.Changed.{term_changed_is}
use Rattle.gb_meaning.specs.Holds.{context}
use Rattle.gb_laws.specs.Typing.Binder.{value, memory}
use Rattle.gb_typing.specs.Context.{Context, Frame, within}
use Rattle.gb_typing.specs.Typing.{IsTyped, IsForm, AreTyped}
use Rattle.gb_typing.proofs.Made.{IsNode, parts_typed}
use Rattle.gb_smt.specs.declared.leaves.Leaf.{Leaf}
use Rattle.gb_smt.specs.declared.leaves.Context.{Context as LeafContext}
use Rattle.gb_smt.specs.Leaves as leaves
use Rattle.gb_smt.specs.Leaves.{with_variable, with_memory, assumed, whole, split}
use Rattle.gb_amb.proofs.Wider.{small, variable_typed, memory_typed}
use Rattle.gb_amb.proofs.States.{memory_at, variable_means, memory_means}
use Rattle.gb_smt_laws.proofs.Finding.{variable}
use Rattle.gb_smt_laws.proofs.Split.{each_left, unsplit}
use Rattle.gb_closing_laws.proofs.Twice.{twice}
use Rattle.gb_closing_laws.proofs.Opening.{variable_at_once, memory_at_once}
use Rattle.gb_closing_laws.proofs.Places.{IsTrueLeaf, as_many, Place, place_with_variable, place_with_memory, place_with_premise, assumed_given}
use mathlib.Core.Former.{Count}

implied : (a b : Bool) → (a ≡ true → b ≡ true) → (not a || b) ≡ true
implied true b f = f refl
implied false b f = refl

module _ (b : Context) (g : Setting) (i : Judge) (fair : IsFair g i) where
  abbrev Hold : List Leaf → Type 0
  Hold ls = AllByRecursion (IsTrueLeaf b g i) ls

  module _ (c : LeafContext) (us : List Ty) (ns : List Frame) (hs : List Term) (vs : List Value) (ms : List Memory) (k : Place b g i fair c us ns hs vs ms) where
    abbrev IsTrue : Term → Type 0
    IsTrue t = den g i t (context vs ms) ≡ true

    whole_true : (t : Term) → Hold (whole t c hs) → IsForm (small b us ns) (term_changed t c.changes) → IsTrue (term_changed t c.changes)
    whole_true t a f = a.0 us k.finite ns k.frames k.fits k.forms f vs k.values ms k.assumed

    -- a quantifier over values: what is said of the new variable of the context is said of what is bound
    module _ (u : Ty) (x : Term) (r : Ty) (form : IsForm (small b us ns) (node (head.All u) (term_changed x (under_binder c.changes) ∷ []) r)) (d : Context) (typed : IsTyped d x) where
      abbrev body : Term
      body = term_changed x (under_binder c.changes)

      all_parts : IsNode (small b us ns) (head.All u) (type_of body ∷ []) (body ∷ []) r
      all_parts = parts_typed (small b us ns) (head.All u) (body ∷ []) r form.typed

      all_body : IsForm (within (small b us ns) (value u) None) body
      all_body = record { typed = all_parts.3; truth = all_parts.0.1.0 }

      value_moved : term_changed body (OfBound 0 (variable (length us) u) ∷ []) ≡ term_changed x (with_variable c u).changes
      value_moved =
          ap (λ n. term_changed body (OfBound 0 (variable n u) ∷ [])) (sym k.variables)
          ∙ twice d x typed (under_binder c.changes) (OfBound 0 (variable c.logical u) ∷ []) (under_binder c.changes ++ OfBound 0 (variable c.logical u) ∷ []) (variable_at_once c.changes k.opening c.logical u)

      value_form : IsForm (small b (us ++ u ∷ []) ns) (term_changed x (with_variable c u).changes)
      value_form = subst (IsForm (small b (us ++ u ∷ []) ns)) value_moved (variable_typed b us ns u all_parts.0.0 body all_body)

      all_true : ((v : Value) → has g.types u v ≡ true → den g i (term_changed x (with_variable c u).changes) (context (vs ++ v ∷ []) ms) ≡ true) → IsTrue (node (head.All u) (body ∷ []) r)
      all_true f =
          subst (λ r. IsTrue (node (head.All u) (body ∷ []) r)) (sym all_parts.0.1.1.0)
          ((true_all g i u body (context vs ms)).1 (λ v h.
          sym (ap truth (variable_means b us ns g k.fits i fair u vs (as_many g.types us vs k.values) v ms body all_body))
          ∙ ap (λ z. den g i z (context (vs ++ v ∷ []) ms)) value_moved ∙ f v h))

    -- one over memories
    module _ (x : Term) (r : Ty) (form : IsForm (small b us ns) (node head.AllMemory (term_changed x (under_binder c.changes) ∷ []) r)) (d : Context) (typed : IsTyped d x) where
      abbrev inside : Term
      inside = term_changed x (under_binder c.changes)

      memory_parts : IsNode (small b us ns) head.AllMemory (type_of inside ∷ []) (inside ∷ []) r
      memory_parts = parts_typed (small b us ns) head.AllMemory (inside ∷ []) r form.typed

      memory_body : IsForm (within (small b us ns) memory (Some memory_parts.2)) inside
      memory_body = record { typed = memory_parts.3; truth = memory_parts.0.0 }

      memory_moved : term_changed inside (ToSide (side.Bound 0) (side.Memory (length ns)) ∷ []) ≡ term_changed x (with_memory c).changes
      memory_moved =
          ap (λ n. term_changed inside (ToSide (side.Bound 0) (side.Memory n) ∷ [])) (sym k.memories)
          ∙ twice d x typed (under_binder c.changes) (ToSide (side.Bound 0) (side.Memory c.memories) ∷ []) (under_binder c.changes ++ ToSide (side.Bound 0) (side.Memory c.memories) ∷ []) (memory_at_once c.changes k.opening c.memories)

      memory_form : IsForm (small b us (ns ++ Some memory_parts.2 ∷ [])) (term_changed x (with_memory c).changes)
      memory_form = subst (IsForm (small b us (ns ++ Some memory_parts.2 ∷ []))) memory_moved (memory_typed b us ns memory_parts.2 inside memory_body)

      all_memories_true : ((m : Memory) → den g i (term_changed x (with_memory c).changes) (context vs (memory_at (length ns) m ms)) ≡ true) → IsTrue (node head.AllMemory (inside ∷ []) r)
      all_memories_true f =
          subst (λ r. IsTrue (node head.AllMemory (inside ∷ []) r)) (sym memory_parts.0.1.0)
          ((true_all_memory g i fair inside (context vs ms)).1 (λ m.
          sym (ap truth (memory_means b us ns g k.fits i fair vs ms m memory_parts.2 inside memory_body))
          ∙ ap (λ z. den g i z (context vs (memory_at (length ns) m ms))) memory_moved ∙ f m))

    -- an operator at two forms
    module _ (x y : Term) (r : Ty) where
      abbrev left : Term
      left = term_changed x c.changes

      abbrev right : Term
      right = term_changed y c.changes

      implies_parts : IsForm (small b us ns) (node (head.Builtin op.Implies) (left ∷ right ∷ []) r) → IsForm (small b us ns) left × IsForm (small b us ns) right × (r ≡ ty.Bool)
      implies_parts f = let p = parts_typed (small b us ns) (head.Builtin op.Implies) (left ∷ right ∷ []) r f.typed in (record { typed = p.3.0; truth = p.0.0 }, record { typed = p.3.1; truth = p.0.1.0 }, p.0.1.1.0)

      and_parts : IsForm (small b us ns) (node (head.Builtin op.And) (left ∷ right ∷ []) r) → IsForm (small b us ns) left × IsForm (small b us ns) right × (r ≡ ty.Bool)
      and_parts f = let p = parts_typed (small b us ns) (head.Builtin op.And) (left ∷ right ∷ []) r f.typed in (record { typed = p.3.0; truth = p.0.0 }, record { typed = p.3.1; truth = p.0.1.0 }, p.0.1.1.0)

      implies_true : r ≡ ty.Bool → (IsTrue left → IsTrue right) → IsTrue (node (head.Builtin op.Implies) (left ∷ right ∷ []) r)
      implies_true e f =
          subst (λ r. IsTrue (node (head.Builtin op.Implies) (left ∷ right ∷ []) r)) (sym e)
          (true_implies g i left right (context vs ms) ∙ implied (den g i left (context vs ms)) (den g i right (context vs ms)) f)

      and_true : r ≡ ty.Bool → IsTrue left → IsTrue right → IsTrue (node (head.Builtin op.And) (left ∷ right ∷ []) r)
      and_true e l m =
          subst (λ r. IsTrue (node (head.Builtin op.And) (left ∷ right ∷ []) r)) (sym e)
          (true_and g i left right (context vs ms) ∙ and_from (den g i left (context vs ms)) (den g i right (context vs ms)) l m)

  mutual
    pub split_true : (t : Term) (c : LeafContext) (hs : List Term) → Hold (split t c hs) → (d : Context) → IsTyped d t → (us : List Ty) (ns : List Frame) (vs : List Value) (ms : List Memory) →
        Place b g i fair c us ns hs vs ms → IsForm (small b us ns) (term_changed t c.changes) → den g i (term_changed t c.changes) (context vs ms) ≡ true
    split_true (Term' tt (more_of-Head (head.All u) end_of-Head) n ts ty) c hs a d w us ns vs ms k f =
        split_all ts u ty (Term' tt (more_of-Head (head.All u) end_of-Head) n ts ty) c (term_changed_is (head.All u) n ts ty c.changes) hs a _ _ _ w.3 us ns vs ms k f
    split_true (Term' tt (more_of-Head head.AllMemory end_of-Head) n ts ty) c hs a d w us ns vs ms k f =
        split_memory ts ty (Term' tt (more_of-Head head.AllMemory end_of-Head) n ts ty) c (term_changed_is head.AllMemory n ts ty c.changes) hs a _ _ _ w.3 us ns vs ms k f
    split_true (Term' tt (more_of-Head (head.Builtin op.Implies) end_of-Head) n ts ty) c hs a d w us ns vs ms k f =
        split_implies ts ty (Term' tt (more_of-Head (head.Builtin op.Implies) end_of-Head) n ts ty) c (term_changed_is (head.Builtin op.Implies) n ts ty c.changes) hs a _ _ _ w.3 us ns vs ms k f
    split_true (Term' tt (more_of-Head (head.Builtin op.And) end_of-Head) n ts ty) c hs a d w us ns vs ms k f =
        split_and ts ty (Term' tt (more_of-Head (head.Builtin op.And) end_of-Head) n ts ty) c (term_changed_is (head.Builtin op.And) n ts ty c.changes) hs a _ _ _ w.3 us ns vs ms k f
    split_true (Term' tt (more_of-Head h end_of-Head) n ts ty) c hs a d w us ns vs ms k f =
        let t : Term = Term' tt (more_of-Head h end_of-Head) n ts ty in
        whole_true c us ns hs vs ms k t (subst Hold (unsplit h (leaves.parts ts) t c hs refl) a) f

    split_all : {n : Count} (ts : Row_of-Term n) (u : Ty) (r : Ty) (t : Term) (c : LeafContext) → term_changed t c.changes ≡ node (head.All u) (args_changed (head.All u) c.changes (map term_changed (terms_in ts))) r →
        (hs : List Term) → Hold (leaves.split_by (head.All u) (leaves.parts ts) t c hs) → (p q d : Context) → AreTyped p q d ts → (us : List Ty) (ns : List Frame) (vs : List Value) (ms : List Memory) →
        Place b g i fair c us ns hs vs ms → IsForm (small b us ns) (term_changed t c.changes) → den g i (term_changed t c.changes) (context vs ms) ≡ true
    split_all end_of-Term u r t c e hs a p q d w us ns vs ms k f = whole_true c us ns hs vs ms k t a f
    split_all (more_of-Term x end_of-Term) u r t c e hs a p q d w us ns vs ms k f =
        let form = subst (IsForm (small b us ns)) e f in
        ap (λ z. den g i z (context vs ms)) e ∙ all_true c us ns hs vs ms k u x r form d w (λ v h.
        split_true x (with_variable c u) hs a d w (us ++ u ∷ []) ns (vs ++ v ∷ []) ms
        (place_with_variable b g i fair c us ns hs vs ms k u (all_parts c us ns hs vs ms k u x r form d w).0.0 v h) (value_form c us ns hs vs ms k u x r form d w))
    split_all (more_of-Term x (more_of-Term y end_of-Term)) u r t c e hs a p q d w us ns vs ms k f = whole_true c us ns hs vs ms k t a f
    split_all (more_of-Term x (more_of-Term y (more_of-Term z ts))) u r t c e hs a p q d w us ns vs ms k f = whole_true c us ns hs vs ms k t a f

    split_memory : {n : Count} (ts : Row_of-Term n) (r : Ty) (t : Term) (c : LeafContext) → term_changed t c.changes ≡ node head.AllMemory (args_changed head.AllMemory c.changes (map term_changed (terms_in ts))) r →
        (hs : List Term) → Hold (leaves.split_by head.AllMemory (leaves.parts ts) t c hs) → (p q d : Context) → AreTyped p q d ts → (us : List Ty) (ns : List Frame) (vs : List Value) (ms : List Memory) →
        Place b g i fair c us ns hs vs ms → IsForm (small b us ns) (term_changed t c.changes) → den g i (term_changed t c.changes) (context vs ms) ≡ true
    split_memory end_of-Term r t c e hs a p q d w us ns vs ms k f = whole_true c us ns hs vs ms k t a f
    split_memory (more_of-Term x end_of-Term) r t c e hs a p q d w us ns vs ms k f =
        let form = subst (IsForm (small b us ns)) e f in
        let ls = (memory_parts c us ns hs vs ms k x r form d w).2 in
        ap (λ z. den g i z (context vs ms)) e ∙ all_memories_true c us ns hs vs ms k x r form d w (λ m.
        split_true x (with_memory c) hs a d w us (ns ++ Some ls ∷ []) vs (memory_at (length ns) m ms)
        (place_with_memory b g i fair c us ns hs vs ms k ls m) (memory_form c us ns hs vs ms k x r form d w))
    split_memory (more_of-Term x (more_of-Term y end_of-Term)) r t c e hs a p q d w us ns vs ms k f = whole_true c us ns hs vs ms k t a f
    split_memory (more_of-Term x (more_of-Term y (more_of-Term z ts))) r t c e hs a p q d w us ns vs ms k f = whole_true c us ns hs vs ms k t a f

    split_implies : {n : Count} (ts : Row_of-Term n) (r : Ty) (t : Term) (c : LeafContext) → term_changed t c.changes ≡ node (head.Builtin op.Implies) (args_changed (head.Builtin op.Implies) c.changes (map term_changed (terms_in ts))) r →
        (hs : List Term) → Hold (leaves.split_by (head.Builtin op.Implies) (leaves.parts ts) t c hs) → (p q d : Context) → AreTyped p q d ts → (us : List Ty) (ns : List Frame) (vs : List Value) (ms : List Memory) →
        Place b g i fair c us ns hs vs ms → IsForm (small b us ns) (term_changed t c.changes) → den g i (term_changed t c.changes) (context vs ms) ≡ true
    split_implies end_of-Term r t c e hs a p q d w us ns vs ms k f = whole_true c us ns hs vs ms k t a f
    split_implies (more_of-Term x end_of-Term) r t c e hs a p q d w us ns vs ms k f = whole_true c us ns hs vs ms k t a f
    split_implies (more_of-Term x (more_of-Term y end_of-Term)) r t c e hs a p q d w us ns vs ms k f =
        let o = implies_parts c us ns hs vs ms k x y r (subst (IsForm (small b us ns)) e f) in
        ap (λ z. den g i z (context vs ms)) e ∙ implies_true c us ns hs vs ms k x y r o.2 (λ l.
        let given = assumed_given (small b us ns) g i (context vs ms) (term_changed x c.changes) o.0 l in
        split_true y c (hs ++ assumed (term_changed x c.changes)) a d w.1 us ns vs ms
        (place_with_premise b g i fair c us ns hs vs ms k (assumed (term_changed x c.changes)) given.0 given.1) o.1)
    split_implies (more_of-Term x (more_of-Term y (more_of-Term z ts))) r t c e hs a p q d w us ns vs ms k f = whole_true c us ns hs vs ms k t a f

    split_and : {n : Count} (ts : Row_of-Term n) (r : Ty) (t : Term) (c : LeafContext) → term_changed t c.changes ≡ node (head.Builtin op.And) (args_changed (head.Builtin op.And) c.changes (map term_changed (terms_in ts))) r →
        (hs : List Term) → Hold (leaves.split_by (head.Builtin op.And) (leaves.parts ts) t c hs) → (p q d : Context) → AreTyped p q d ts → (us : List Ty) (ns : List Frame) (vs : List Value) (ms : List Memory) →
        Place b g i fair c us ns hs vs ms → IsForm (small b us ns) (term_changed t c.changes) → den g i (term_changed t c.changes) (context vs ms) ≡ true
    split_and end_of-Term r t c e hs a p q d w us ns vs ms k f = whole_true c us ns hs vs ms k t a f
    split_and (more_of-Term x end_of-Term) r t c e hs a p q d w us ns vs ms k f = whole_true c us ns hs vs ms k t a f
    split_and (more_of-Term x (more_of-Term y end_of-Term)) r t c e hs a p q d w us ns vs ms k f =
        let o = and_parts c us ns hs vs ms k x y r (subst (IsForm (small b us ns)) e f) in
        let each = each_left (IsTrueLeaf b g i) (split x c hs) (split y c hs) a in
        ap (λ z. den g i z (context vs ms)) e
        ∙ and_true c us ns hs vs ms k x y r o.2 (split_true x c hs each.0 p w.0 us ns vs ms k o.0) (split_true y c hs each.1 d w.1 us ns vs ms k o.1)
    split_and (more_of-Term x (more_of-Term y (more_of-Term z ts))) r t c e hs a p q d w us ns vs ms k f = whole_true c us ns hs vs ms k t a f
