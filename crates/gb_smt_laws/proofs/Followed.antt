-- A simple term with changes made means what the term means where the changes lead.
use Rattle.std.proofs.Common.{◌≡◌, ℕ, true, false, Option, Some, None, List, [], ◌∷◌, map, refl, ap, sym, ◌∙◌, subst}
use Rattle.std.specs.List.{AllByRecursion, list_all}
use Rattle.std.proofs.lemmas.Bool.{false≢true, and_parts, and_from}
use Rattle.gb_core.specs.declared.ty.Ty.{Ty}
use Rattle.gb_terms.specs.declared.op.Read.{Read}
use Rattle.gb_terms.specs.declared.term.Term.{Term, Term', Row_of-Term, end_of-Term, more_of-Term, end_of-Head, more_of-Head}
use Rattle.gb_terms.specs.declared.term.Head.{Head}
use Rattle.gb_terms.specs.declared.term.Head.TheVariants as head
use Rattle.gb_terms.specs.Make.{node}
use Rattle.gb_walk.specs.Layers.{seen_by}
use Rattle.gb_walk.specs.Change.{Changes, under_binder, put_or, found_for_read, found_for_bound, read_changed, side_changed, term_of, term_changed, subject_changed}
use Rattle.gb_meaning.specs.Setting.{Meaning, Setting}
use Rattle.gb_meaning.specs.Meanings.{of_truth}
use Rattle.gb_meaning.specs.State.{State, Binding, binding, meaning_in, under}
use Rattle.gb_meaning.specs.State.Binding.{program}
use Rattle.gb_meaning.specs.Terms.{Speaks, read_at, val, parts, part_of, denominator, denominators, denominator_of}
use Rattle.gb_meaning.specs.Commands.{terms_in}
use Rattle.gb_meaning.proofs.Nodes.{val_node, denominator_node}
use Rattle.gb_laws.specs.Formed.{HasArguments}
use Rattle.gb_laws.proofs.Heads.{Moved, Here, Under, IsInner, Related, inner_same}
use Rattle.gb_laws.proofs.Raising.{has_parts}
use Rattle.gb_laws.proofs.Changed.{term_changed_is}
use Rattle.gb_laws.proofs.Changing.{arguments_of}
use Rattle.gb_smt_laws.specs.Simple.{is_simple, all_simple, is_simple_at, only, both}
use Rattle.gb_smt_laws.specs.Reading.{Variables, no_variables, Reading, IsReadAt, inner}
use Rattle.gb_smt_laws.specs.Fits.{IsOfValues, Fits, AllFit, OnlyFits, BothFit}
use Rattle.gb_smt_laws.proofs.Nodes.{OnlyFit, BothAreFit, only_row, both_row, fits_row, two_simple, simple_node, node_fits, literal_fits, whole_fits, bound_fits, read_fits, operator_fits}
use Rattle.gb_smt_laws.proofs.Led.{OnFound, IsPutFor, Leading, leading_under}
use Rattle.gb_smt.specs.Meant.{IsRight}
use Rattle.gb_smt_laws.proofs.Right.{said, every_memory, some_memory}
use Rattle.sqlite_items.specs.formers.items.Items.{the_former}
use mathlib.Core.Former.{Count, arity, this}

abbrev pub changed_row : {n : Count} → Changes → Row_of-Term n → List Term
changed_row cs ts = seen_by cs cs (map term_changed (terms_in ts))

never : (t : Term) (h : Head) (args : List Term) (ty : Ty) (A : Type 0) → t ≡ node h args ty → is_simple t ≡ true → is_simple_at h (map is_simple args) ≡ false → A
never t h args ty A e b f = absurd (false≢true (sym f ∙ sym (simple_node h args ty) ∙ sym (ap is_simple e) ∙ b))

abbrev changed_under : {n : Count} → Changes → Row_of-Term n → List Term
changed_under cs ts = seen_by cs (under_binder cs) (map term_changed (terms_in ts))

at_node : (t : Term) (h : Head) (args : List Term) (ty : Ty) → t ≡ node h args ty → is_simple t ≡ true → is_simple_at h (map is_simple args) ≡ true
at_node t h args ty e b = sym (simple_node h args ty) ∙ sym (ap is_simple e) ∙ b

mutual
  -- a term is simple where it is with changes made
  pub simple_before : (t : Term) (cs : Changes) → is_simple (term_changed t cs) ≡ true → is_simple t ≡ true
  simple_before (Term' p (more_of-Head (head.Lit v) end_of-Head) n ts ty) cs b = refl
  simple_before (Term' p (more_of-Head (head.Whole v) end_of-Head) n ts ty) cs b = refl
  simple_before (Term' p (more_of-Head (head.Read r) end_of-Head) n ts ty) cs b = refl
  simple_before (Term' p (more_of-Head (head.Bound i) end_of-Head) n ts ty) cs b = refl
  simple_before (Term' p (more_of-Head (head.Builtin o) end_of-Head) n ts ty) cs b = row_before ts cs (at_node (term_changed (Term' p (more_of-Head (head.Builtin o) end_of-Head) n ts ty) cs) (head.Builtin o) (changed_row cs ts) ty (term_changed_is (head.Builtin o) n ts ty cs) b)
  simple_before (Term' p (more_of-Head (head.All u) end_of-Head) n ts ty) cs b = only_before ts cs (at_node (term_changed (Term' p (more_of-Head (head.All u) end_of-Head) n ts ty) cs) (head.All u) (changed_under cs ts) ty (term_changed_is (head.All u) n ts ty cs) b)
  simple_before (Term' p (more_of-Head (head.Some u) end_of-Head) n ts ty) cs b = only_before ts cs (at_node (term_changed (Term' p (more_of-Head (head.Some u) end_of-Head) n ts ty) cs) (head.Some u) (changed_under cs ts) ty (term_changed_is (head.Some u) n ts ty cs) b)
  simple_before (Term' p (more_of-Head (head.Glob m r) end_of-Head) n ts ty) cs b = never (term_changed (Term' p (more_of-Head (head.Glob m r) end_of-Head) n ts ty) cs) (head.Glob m (side_changed cs r)) (arguments_of (head.Glob m r) cs ts) ty _ (term_changed_is (head.Glob m r) n ts ty cs) b refl
  simple_before (Term' p (more_of-Head (head.Pr m r) end_of-Head) n ts ty) cs b = never (term_changed (Term' p (more_of-Head (head.Pr m r) end_of-Head) n ts ty) cs) (head.Pr m (side_changed cs r)) (arguments_of (head.Pr m r) cs ts) ty _ (term_changed_is (head.Pr m r) n ts ty cs) b refl
  simple_before (Term' p (more_of-Head (head.Hoare c) end_of-Head) n ts ty) cs b = never (term_changed (Term' p (more_of-Head (head.Hoare c) end_of-Head) n ts ty) cs) (head.Hoare (subject_changed c cs)) (arguments_of (head.Hoare c) cs ts) ty _ (term_changed_is (head.Hoare c) n ts ty cs) b refl
  simple_before (Term' p (more_of-Head (head.Phoare c r) end_of-Head) n ts ty) cs b = never (term_changed (Term' p (more_of-Head (head.Phoare c r) end_of-Head) n ts ty) cs) (head.Phoare (subject_changed c cs) r) (arguments_of (head.Phoare c r) cs ts) ty _ (term_changed_is (head.Phoare c r) n ts ty cs) b refl
  simple_before (Term' p (more_of-Head (head.Equiv c d) end_of-Head) n ts ty) cs b = never (term_changed (Term' p (more_of-Head (head.Equiv c d) end_of-Head) n ts ty) cs) (head.Equiv (subject_changed c cs) (subject_changed d cs)) (arguments_of (head.Equiv c d) cs ts) ty _ (term_changed_is (head.Equiv c d) n ts ty cs) b refl
  simple_before (Term' p (more_of-Head (head.User v) end_of-Head) n ts ty) cs b = row_before ts cs (at_node (term_changed (Term' p (more_of-Head (head.User v) end_of-Head) n ts ty) cs) (head.User v) (changed_row cs ts) ty (term_changed_is (head.User v) n ts ty cs) b)
  simple_before (Term' p (more_of-Head (head.AllModule v) end_of-Head) n ts ty) cs b = never (term_changed (Term' p (more_of-Head (head.AllModule v) end_of-Head) n ts ty) cs) (head.AllModule v) (arguments_of (head.AllModule v) cs ts) ty _ (term_changed_is (head.AllModule v) n ts ty cs) b refl
  simple_before (Term' p (more_of-Head (head.Sum v) end_of-Head) n ts ty) cs b = only_before ts cs (at_node (term_changed (Term' p (more_of-Head (head.Sum v) end_of-Head) n ts ty) cs) (head.Sum v) (changed_under cs ts) ty (term_changed_is (head.Sum v) n ts ty cs) b)
  simple_before (Term' p (more_of-Head (head.Weights v) end_of-Head) n ts ty) cs b = row_before ts cs (at_node (term_changed (Term' p (more_of-Head (head.Weights v) end_of-Head) n ts ty) cs) (head.Weights v) (changed_row cs ts) ty (term_changed_is (head.Weights v) n ts ty cs) b)
  simple_before (Term' p (more_of-Head head.AllMemory end_of-Head) n ts ty) cs b = only_before ts cs (at_node (term_changed (Term' p (more_of-Head head.AllMemory end_of-Head) n ts ty) cs) head.AllMemory (changed_under cs ts) ty (term_changed_is head.AllMemory n ts ty cs) b)
  simple_before (Term' p (more_of-Head head.SomeMemory end_of-Head) n ts ty) cs b = only_before ts cs (at_node (term_changed (Term' p (more_of-Head head.SomeMemory end_of-Head) n ts ty) cs) head.SomeMemory (changed_under cs ts) ty (term_changed_is head.SomeMemory n ts ty cs) b)
  simple_before (Term' p (more_of-Head head.Mu end_of-Head) n ts ty) cs b = both_before ts cs (at_node (term_changed (Term' p (more_of-Head head.Mu end_of-Head) n ts ty) cs) head.Mu (changed_under cs ts) ty (term_changed_is head.Mu n ts ty cs) b)
  simple_before (Term' p (more_of-Head head.Map end_of-Head) n ts ty) cs b = both_before ts cs (at_node (term_changed (Term' p (more_of-Head head.Map end_of-Head) n ts ty) cs) head.Map (changed_under cs ts) ty (term_changed_is head.Map n ts ty cs) b)
  simple_before (Term' p (more_of-Head head.Restrict end_of-Head) n ts ty) cs b = both_before ts cs (at_node (term_changed (Term' p (more_of-Head head.Restrict end_of-Head) n ts ty) cs) head.Restrict (changed_under cs ts) ty (term_changed_is head.Restrict n ts ty cs) b)

  row_before : {n : Count} (ts : Row_of-Term n) (cs : Changes) → list_all (λ b. b) (map is_simple (changed_row cs ts)) ≡ true → list_all (λ b. b) (all_simple ts) ≡ true
  row_before end_of-Term cs b = refl
  row_before (more_of-Term t end_of-Term) cs b = and_from (is_simple t) true (simple_before t cs (and_parts (is_simple (term_changed t cs)) true b).0) refl
  row_before (more_of-Term t (more_of-Term u ts)) cs b =
      let c = and_parts (is_simple (term_changed t cs)) (list_all (λ b. b) (map is_simple (changed_row cs (more_of-Term u ts)))) b in
      and_from (is_simple t) (list_all (λ b. b) (all_simple (more_of-Term u ts))) (simple_before t cs c.0) (row_before (more_of-Term u ts) cs c.1)

  only_before : {n : Count} (ts : Row_of-Term n) (cs : Changes) → only (map is_simple (changed_under cs ts)) ≡ true → only (all_simple ts) ≡ true
  only_before end_of-Term cs b = b
  only_before (more_of-Term t end_of-Term) cs b = simple_before t (under_binder cs) b
  only_before (more_of-Term t (more_of-Term u ts)) cs b = b

  both_before : {n : Count} (ts : Row_of-Term n) (cs : Changes) → both (map is_simple (changed_under cs ts)) ≡ true → both (all_simple ts) ≡ true
  both_before end_of-Term cs b = b
  both_before (more_of-Term t end_of-Term) cs b = b
  both_before (more_of-Term t (more_of-Term u end_of-Term)) cs b =
      let c = and_parts (is_simple (term_changed t cs)) (is_simple (term_changed u (under_binder cs))) b in
      and_from (is_simple t) (is_simple u) (simple_before t cs c.0) (simple_before u (under_binder cs) c.1)
  both_before (more_of-Term t (more_of-Term u (more_of-Term v ts))) cs b = b

module _ (g : Setting) (j : Speaks) where
  -- what is made of a read or of a bound variable
  abbrev Replaced : Reading → State → Meaning → Term → Type 0
  Replaced W s x t = Fits g W t × (val g j t s ≡ x) × (denominator g t ≡ 1)

  read_replaced : (o : Option Term) (r : Read) (cs : Changes) (fs : List (Changes → Term)) (ty : Ty) (W : Reading) (s : State) (x : Meaning) →
      OnFound o (IsPutFor g j W s x) (IsReadAt W r ty × (read_at g r ty s ≡ x)) → is_simple (term_of (put_or o (head.Read r)) cs fs ty) ≡ true →
      Replaced W s x (term_of (put_or o (head.Read r)) cs fs ty)
  read_replaced (Some t) r cs fs ty W s x k b = let p = k b in (p.0, p.2, p.1)
  read_replaced None r cs fs ty W s x k b = (
    read_fits g W r (seen_by cs cs fs) ty k.0,
    val_node g j (head.Read r) (seen_by cs cs fs) ty s ∙ k.1,
    denominator_node g (head.Read r) (seen_by cs cs fs) ty,
  )

  bound_replaced : (o : Option Term) (i : ℕ) (cs : Changes) (fs : List (Changes → Term)) (ty : Ty) (W : Reading) (s : State) (x : Meaning) →
      OnFound o (IsPutFor g j W s x) (meaning_in (binding s i) ≡ x) → is_simple (term_of (put_or o (head.Bound i)) cs fs ty) ≡ true →
      Replaced W s x (term_of (put_or o (head.Bound i)) cs fs ty)
  bound_replaced (Some t) i cs fs ty W s x k b = let p = k b in (p.0, p.2, p.1)
  bound_replaced None i cs fs ty W s x k b = (
    bound_fits g W i (seen_by cs cs fs) ty,
    val_node g j (head.Bound i) (seen_by cs cs fs) ty s ∙ k,
    denominator_node g (head.Bound i) (seen_by cs cs fs) ty,
  )

  -- with the changes made it fits, and means in s what the term means in q
  abbrev pub Follows : Changes → Reading → State → State → Term → Type 0
  Follows cs W s q t =
      Fits g W (term_changed t cs) × (val g j (term_changed t cs) s ≡ val g j t q) × (denominator g (term_changed t cs) ≡ denominator g t)

  abbrev RowFollows : {n : Count} → Changes → Reading → State → State → Row_of-Term n → Type 0
  RowFollows cs W s q ts =
      AllByRecursion (Fits g W) (changed_row cs ts)
      × Moved (Here s q) (Here s q) (map (part_of g j) (changed_row cs ts)) (parts g j ts) × (map (denominator g) (changed_row cs ts) ≡ denominators g ts)

  abbrev OnlyFollows : {n : Count} → Variables → Changes → Reading → State → State → Row_of-Term n → Type 0
  OnlyFollows vs cs W s q ts =
      OnlyFit g (inner vs W) (changed_under cs ts)
      × Moved (Here s q) (Under s q) (map (part_of g j) (changed_under cs ts)) (parts g j ts) × (map (denominator g) (changed_under cs ts) ≡ denominators g ts)

  abbrev BothFollow : {n : Count} → Changes → Reading → State → State → Row_of-Term n → Type 0
  BothFollow cs W s q ts =
      BothAreFit g W (changed_under cs ts)
      × Moved (Here s q) (Under s q) (map (part_of g j) (changed_under cs ts)) (parts g j ts) × (map (denominator g) (changed_under cs ts) ≡ denominators g ts)

  from_node : (h : Head) (args : List Term) (ty : Ty) (W : Reading) (s : State) (x : Meaning) (k : ℕ) (t : Term) → t ≡ node h args ty → Fits g W (node h args ty) →
      val g j (node h args ty) s ≡ x → denominator g (node h args ty) ≡ k → Fits g W t × (val g j t s ≡ x) × (denominator g t ≡ k)
  from_node h args ty W s x k t e f v d = (subst (Fits g W) (sym e) f, ap (λ t. val g j t s) e ∙ v, ap (denominator g) e ∙ d)

  -- a term whose changed node fits, with arguments that mean what they meant
  made : (h : Head) (n : List (Unit {0})) (ts : Row_of-Term (arity (the_former (this {0})) n)) (ty : Ty) (cs : Changes) (W : Reading) (s q : State) (args : List Term) →
      term_changed (Term' tt (more_of-Head h end_of-Head) n ts ty) cs ≡ node h args ty → Fits g W (node h args ty) → IsInner s q h → HasArguments h (parts g j ts) →
      Related s q h (map (part_of g j) args) (parts g j ts) → map (denominator g) args ≡ denominators g ts → Follows cs W s q (Term' tt (more_of-Head h end_of-Head) n ts ty)
  made h n ts ty cs W s q args e f i a r d =
      from_node h args ty W s _ _ _ e f
      (val_node g j h args ty s ∙ inner_same s q g j (node h args ty) (Term' tt (more_of-Head h end_of-Head) n ts ty) h (map (part_of g j) args) (parts g j ts) ty i a r)
      (denominator_node g h args ty ∙ ap (λ ks. denominator_of g h ks ty) d)

  -- where quantifiers over memories say what they say
  module _ (right : IsRight g j) where
    mutual
      pub followed : (t : Term) (cs : Changes) (T W : Reading) (s q : State) → Leading g j cs T W s q → Fits g T t → is_simple t ≡ true → is_simple (term_changed t cs) ≡ true → Follows cs W s q t
      followed (Term' p (more_of-Head (head.Lit v) end_of-Head) n ts ty) cs T W s q l w b d =
          let args = changed_row cs ts in
          from_node (head.Lit v) args ty W s _ 1 _ (term_changed_is (head.Lit v) n ts ty cs) (literal_fits g W v args ty) (val_node g j (head.Lit v) args ty s) (denominator_node g (head.Lit v) args ty)
      followed (Term' p (more_of-Head (head.Whole v) end_of-Head) n ts ty) cs T W s q l w b d =
          let args = changed_row cs ts in
          from_node (head.Whole v) args ty W s _ 1 _ (term_changed_is (head.Whole v) n ts ty cs) (whole_fits g W v args ty) (val_node g j (head.Whole v) args ty s) (denominator_node g (head.Whole v) args ty)
      followed (Term' p (more_of-Head (head.Read r) end_of-Head) n ts ty) cs T W s q l w b d =
          let e = term_changed_is (head.Read r) n ts ty cs in
          let x = read_replaced (found_for_read cs r) (read_changed cs r) cs (map term_changed (terms_in ts)) ty W s (read_at g r ty q) (l.reads r ty w) (sym (ap is_simple e) ∙ d) in
          (subst (Fits g W) (sym e) x.0, ap (λ t. val g j t s) e ∙ x.1, ap (denominator g) e ∙ x.2)
      followed (Term' p (more_of-Head (head.Bound i) end_of-Head) n ts ty) cs T W s q l w b d =
          let e = term_changed_is (head.Bound i) n ts ty cs in
          let x = bound_replaced (found_for_bound cs i) i cs (map term_changed (terms_in ts)) ty W s (meaning_in (binding q i)) (l.bound i) (sym (ap is_simple e) ∙ d) in
          (subst (Fits g W) (sym e) x.0, ap (λ t. val g j t s) e ∙ x.1, ap (denominator g) e ∙ x.2)
      followed (Term' p (more_of-Head (head.Builtin o) end_of-Head) n ts ty) cs T W s q l w b d =
          let args = changed_row cs ts in
          let e = term_changed_is (head.Builtin o) n ts ty cs in
          let r = row_followed ts cs T W s q l w.1 b (at_node _ (head.Builtin o) args ty e d) in
          made (head.Builtin o) n ts ty cs W s q args e (operator_fits g W o args ty (subst (IsOfValues o) (sym r.2) w.0) r.0) tt tt r.1 r.2
      followed (Term' p (more_of-Head (head.User v) end_of-Head) n ts ty) cs T W s q l w b d =
          let args = changed_row cs ts in
          let e = term_changed_is (head.User v) n ts ty cs in
          let r = row_followed ts cs T W s q l w b (at_node _ (head.User v) args ty e d) in
          made (head.User v) n ts ty cs W s q args e (node_fits g W (head.User v) args ty (fits_row g W args r.0)) tt tt r.1 r.2
      followed (Term' p (more_of-Head (head.Weights ps) end_of-Head) n ts ty) cs T W s q l w b d =
          let args = changed_row cs ts in
          let e = term_changed_is (head.Weights ps) n ts ty cs in
          let r = row_followed ts cs T W s q l w b (at_node _ (head.Weights ps) args ty e d) in
          made (head.Weights ps) n ts ty cs W s q args e (node_fits g W (head.Weights ps) args ty (fits_row g W args r.0)) tt tt r.1 r.2
      followed (Term' p (more_of-Head (head.All u) end_of-Head) n ts ty) cs T W s q l w b d =
          let args = changed_under cs ts in
          let e = term_changed_is (head.All u) n ts ty cs in
          let r = only_followed ts no_variables cs T W s q l w b (at_node _ (head.All u) args ty e d) in
          made (head.All u) n ts ty cs W s q args e (node_fits g W (head.All u) args ty (only_row g (inner no_variables W) args r.0)) tt tt r.1 r.2
      followed (Term' p (more_of-Head (head.Some u) end_of-Head) n ts ty) cs T W s q l w b d =
          let args = changed_under cs ts in
          let e = term_changed_is (head.Some u) n ts ty cs in
          let r = only_followed ts no_variables cs T W s q l w b (at_node _ (head.Some u) args ty e d) in
          made (head.Some u) n ts ty cs W s q args e (node_fits g W (head.Some u) args ty (only_row g (inner no_variables W) args r.0)) tt tt r.1 r.2
      followed (Term' p (more_of-Head (head.Sum m) end_of-Head) n ts ty) cs T W s q l w b d =
          let args = changed_under cs ts in
          let e = term_changed_is (head.Sum m) n ts ty cs in
          let r = only_followed ts no_variables cs T W s q l w b (at_node _ (head.Sum m) args ty e d) in
          made (head.Sum m) n ts ty cs W s q args e (node_fits g W (head.Sum m) args ty (only_row g (inner no_variables W) args r.0)) tt tt r.1 r.2
      followed (Term' p (more_of-Head head.AllMemory end_of-Head) n ts ty) cs T W s q l w b d =
          let args = changed_under cs ts in
          let e = term_changed_is head.AllMemory n ts ty cs in
          let r = only_followed ts w.0 cs T W s q l w.2 b (at_node _ head.AllMemory args ty e d) in
          let t : Term = Term' p (more_of-Head head.AllMemory end_of-Head) n ts ty in
          from_node head.AllMemory args ty W s _ _ _ e (node_fits g W head.AllMemory args ty (w.0, w.1, only_row g (inner w.0 W) args r.0))
          (val_node g j head.AllMemory args ty s
          ∙ ap of_truth (every_memory s q (map (part_of g j) args) (parts g j ts) r.1 (j.judged (node head.AllMemory args ty) s) (j.judged t q) (said g j right head.AllMemory args ty s) ((right t).0 q)))
          (denominator_node g head.AllMemory args ty ∙ ap (λ ks. denominator_of g head.AllMemory ks ty) r.2)
      followed (Term' p (more_of-Head head.SomeMemory end_of-Head) n ts ty) cs T W s q l w b d =
          let args = changed_under cs ts in
          let e = term_changed_is head.SomeMemory n ts ty cs in
          let r = only_followed ts w.0 cs T W s q l w.2 b (at_node _ head.SomeMemory args ty e d) in
          let t : Term = Term' p (more_of-Head head.SomeMemory end_of-Head) n ts ty in
          from_node head.SomeMemory args ty W s _ _ _ e (node_fits g W head.SomeMemory args ty (w.0, w.1, only_row g (inner w.0 W) args r.0))
          (val_node g j head.SomeMemory args ty s
          ∙ ap of_truth (some_memory s q (map (part_of g j) args) (parts g j ts) r.1 (j.judged (node head.SomeMemory args ty) s) (j.judged t q) (said g j right head.SomeMemory args ty s) ((right t).0 q)))
          (denominator_node g head.SomeMemory args ty ∙ ap (λ ks. denominator_of g head.SomeMemory ks ty) r.2)
      followed (Term' p (more_of-Head head.Mu end_of-Head) n ts ty) cs T W s q l w b d =
          let args = changed_under cs ts in
          let e = term_changed_is head.Mu n ts ty cs in
          let r = both_followed ts cs T W s q l w b (at_node _ head.Mu args ty e d) in
          made head.Mu n ts ty cs W s q args e (node_fits g W head.Mu args ty (both_row g W args r.0)) tt (has_parts g j head.Mu ts (two_simple ts b)) r.1 r.2
      followed (Term' p (more_of-Head head.Map end_of-Head) n ts ty) cs T W s q l w b d =
          let args = changed_under cs ts in
          let e = term_changed_is head.Map n ts ty cs in
          let r = both_followed ts cs T W s q l w b (at_node _ head.Map args ty e d) in
          made head.Map n ts ty cs W s q args e (node_fits g W head.Map args ty (both_row g W args r.0)) tt (has_parts g j head.Map ts (two_simple ts b)) r.1 r.2
      followed (Term' p (more_of-Head head.Restrict end_of-Head) n ts ty) cs T W s q l w b d =
          let args = changed_under cs ts in
          let e = term_changed_is head.Restrict n ts ty cs in
          let r = both_followed ts cs T W s q l w b (at_node _ head.Restrict args ty e d) in
          made head.Restrict n ts ty cs W s q args e (node_fits g W head.Restrict args ty (both_row g W args r.0)) tt (has_parts g j head.Restrict ts (two_simple ts b)) r.1 r.2
      followed (Term' p (more_of-Head h end_of-Head) n ts ty) cs T W s q l w b d = absurd (false≢true b)

      row_followed : {n : Count} (ts : Row_of-Term n) (cs : Changes) (T W : Reading) (s q : State) → Leading g j cs T W s q → AllFit g T ts → list_all (λ b. b) (all_simple ts) ≡ true →
          list_all (λ b. b) (map is_simple (changed_row cs ts)) ≡ true → RowFollows cs W s q ts
      row_followed end_of-Term cs T W s q l w b d = (tt, tt, refl)
      row_followed (more_of-Term t end_of-Term) cs T W s q l w b d =
          let one = followed t cs T W s q l w.0 (and_parts (is_simple t) true b).0 (and_parts (is_simple (term_changed t cs)) true d).0 in
          ((one.0, tt), (one.1, one.2), ap (λ k. k ∷ []) one.2)
      row_followed (more_of-Term t (more_of-Term u ts)) cs T W s q l w b d =
          let before = and_parts (is_simple t) (list_all (λ b. b) (all_simple (more_of-Term u ts))) b in
          let after = and_parts (is_simple (term_changed t cs)) (list_all (λ b. b) (map is_simple (changed_row cs (more_of-Term u ts)))) d in
          let one = followed t cs T W s q l w.0 before.0 after.0 in
          let rest = row_followed (more_of-Term u ts) cs T W s q l w.1 before.1 after.1 in
          ((one.0, rest.0), ((one.1, one.2), rest.1), λ i. one.2 i ∷ rest.2 i)

      only_followed : {n : Count} (ts : Row_of-Term n) (vs : Variables) (cs : Changes) (T W : Reading) (s q : State) → Leading g j cs T W s q → OnlyFits g (inner vs T) ts → only (all_simple ts) ≡ true →
          only (map is_simple (changed_under cs ts)) ≡ true → OnlyFollows vs cs W s q ts
      only_followed end_of-Term vs cs T W s q l w b d = absurd (false≢true b)
      only_followed (more_of-Term t end_of-Term) vs cs T W s q l w b d =
          let below = λ (c : Binding). followed t (under_binder cs) (inner vs T) (inner vs W) (under s c) (under q c) (leading_under g j right cs T W s q l vs c) w b d in
          ((below program).0, (λ c. (below c).1), ap (λ k. k ∷ []) (below program).2)
      only_followed (more_of-Term t (more_of-Term u ts)) vs cs T W s q l w b d = absurd (false≢true b)

      both_followed : {n : Count} (ts : Row_of-Term n) (cs : Changes) (T W : Reading) (s q : State) → Leading g j cs T W s q → BothFit g T ts → both (all_simple ts) ≡ true →
          both (map is_simple (changed_under cs ts)) ≡ true → BothFollow cs W s q ts
      both_followed end_of-Term cs T W s q l w b d = absurd (false≢true b)
      both_followed (more_of-Term t end_of-Term) cs T W s q l w b d = absurd (false≢true b)
      both_followed (more_of-Term t (more_of-Term u end_of-Term)) cs T W s q l w b d =
          let before = and_parts (is_simple t) (is_simple u) b in
          let after = and_parts (is_simple (term_changed t cs)) (is_simple (term_changed u (under_binder cs))) d in
          let one = followed t cs T W s q l w.0 before.0 after.0 in
          let below = λ (c : Binding). followed u (under_binder cs) (inner no_variables T) (inner no_variables W) (under s c) (under q c) (leading_under g j right cs T W s q l no_variables c) w.1 before.1 after.1 in
          ((one.0, (below program).0), ((one.1, one.2), λ c. (below c).1), λ i. one.2 i ∷ (below program).2 i ∷ [])
      both_followed (more_of-Term t (more_of-Term u (more_of-Term v ts))) cs T W s q l w b d = absurd (false≢true b)
