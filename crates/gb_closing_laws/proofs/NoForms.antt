-- Goals whose conclusion is no form: claims close their leaves.
use Rattle.std.proofs.Common.{◌≡◌, Bool, true, false, ◌||◌, inl, inr, List, [], ◌∷◌, ◌++◌, map, refl, ap, sym, ◌∙◌, subst}
use Rattle.std.specs.List.{list_any, All, AllByRecursion}
use Rattle.std.proofs.lemmas.Bool.{false≢true}
use Rattle.std.proofs.lemmas.List.Elements.{All-head, All-tail}
use Rattle.gb_core.specs.declared.ty.Ty.{Ty}
use Rattle.gb_terms.specs.declared.op.Op.TheVariants as op
use Rattle.gb_terms.specs.declared.term.Term.{Term, Term', Row_of-Term, end_of-Term, more_of-Term, end_of-Head, more_of-Head, out-Term}
use Rattle.gb_terms.specs.declared.term.Head.TheVariants as head
use Rattle.gb_terms.specs.declared.term.Head.{Head}
use Rattle.gb_terms.specs.declared.term.Subject.{Subject}
use Rattle.gb_terms.specs.declared.term.Head.TheVariants.{Body', Proc}
use Rattle.gb_terms.specs.declared.term.Head.TheViews.{out-Subject, outs-Body', out-roll-Term}
use Rattle.gb_walk.specs.Layers.{seen_by}
use Rattle.gb_walk.specs.Change.{Changes, args_changed, term_changed, subject_changed}
use Rattle.gb_meaning.specs.Commands.{terms_in}
use Rattle.gb_meaning.specs.Trees.{row}
use Rattle.gb_meaning.proofs.Nodes.{term_is_node}
use Rattle.gb_laws.proofs.Trees.{out_is}
use Rattle.gb_laws.proofs.Changed.{term_changed_is}
use Rattle.gb_laws.proofs.Bodies.{body_changed_is}
use Rattle.gb_laws.proofs.Forms.{procedure_stays}
use Rattle.gb_meaning.specs.Truth.{has_module, last_has_module}
use Rattle.gb_goal.specs.Goal.{is_body_at, judges_bodies}
use Rattle.gb_goal.specs.Scope.{Declarations}
use Rattle.gb_smt.specs.declared.leaves.Leaf.{Leaf}
use Rattle.gb_smt.specs.declared.leaves.Context.{Context as LeafContext}
use Rattle.gb_smt.specs.Leaves as leaves
use Rattle.gb_smt.specs.Leaves.{assumed, whole, split, with_variable, with_memory}
use Rattle.gb_smt.specs.ByEquality.{has_no_form}
use Rattle.gb_smt.specs.Apply.{ClosesByClaim, IsClosed}
use Rattle.gb_smt_laws.proofs.Split.{unsplit}
use Rattle.gb_smt_laws.proofs.Used.{each_together}
use Rattle.sqlite_items.specs.formers.items.Items.{the_former}
use mathlib.Core.Former.{Count, arity, this}

-- A quantifier over modules stays in front where changes are made.
mutual
  pub modules_stay : (t : Term) → has_module t ≡ true → (cs : Changes) → has_module (term_changed t cs) ≡ true
  modules_stay (Term' tt (more_of-Head (head.AllModule b) end_of-Head) n ts ty) m cs =
      ap has_module (term_changed_is (head.AllModule b) n ts ty cs)
      ∙ ap has_module (sym (term_is_node (head.AllModule b) (args_changed (head.AllModule b) cs (map term_changed (terms_in ts))) ty))
  modules_stay (Term' tt (more_of-Head (head.All u) end_of-Head) n ts ty) m cs =
      ap has_module (term_changed_is (head.All u) n ts ty cs)
      ∙ ap has_module (sym (term_is_node (head.All u) (args_changed (head.All u) cs (map term_changed (terms_in ts))) ty))
      ∙ last_stays ts m _ _
  modules_stay (Term' tt (more_of-Head head.AllMemory end_of-Head) n ts ty) m cs =
      ap has_module (term_changed_is head.AllMemory n ts ty cs)
      ∙ ap has_module (sym (term_is_node head.AllMemory (args_changed head.AllMemory cs (map term_changed (terms_in ts))) ty))
      ∙ last_stays ts m _ _
  modules_stay (Term' tt (more_of-Head (head.Builtin op.Implies) end_of-Head) n ts ty) m cs =
      ap has_module (term_changed_is (head.Builtin op.Implies) n ts ty cs)
      ∙ ap has_module (sym (term_is_node (head.Builtin op.Implies) (args_changed (head.Builtin op.Implies) cs (map term_changed (terms_in ts))) ty))
      ∙ last_stays ts m _ _
  modules_stay (Term' tt (more_of-Head h end_of-Head) n ts ty) m cs = absurd (false≢true m)

  last_stays : {n : Count} (ts : Row_of-Term n) → last_has_module ts ≡ true → (a d : Changes) → last_has_module (row (seen_by a d (map term_changed (terms_in ts)))) ≡ true
  last_stays end_of-Term m a d = absurd (false≢true m)
  last_stays (more_of-Term t end_of-Term) m a d = modules_stay t m d
  last_stays (more_of-Term t (more_of-Term u ts)) m a d = last_stays (more_of-Term u ts) m a d

-- The leaves of a part of the conclusion have a quantifier over modules in front where it has one.
abbrev IsOf : Bool → Leaf → Type 0
IsOf m l = m ≡ true → has_module l.conclusion ≡ true

abbrev AreOf : Bool → List Leaf → Type 0
AreOf m ls = AllByRecursion (IsOf m) ls

whole_is : (t : Term) (c : _) (hs : List Term) → AreOf (has_module t) (whole t c hs)
whole_is t c hs = ((λ m. modules_stay t m c.changes), tt)

of_any : (m : Bool) (ls : List Leaf) → AreOf m ls → AreOf false ls
of_any m [] a = tt
of_any m (l ∷ ls) a = ((λ e. absurd (false≢true e)), of_any m ls a.1)

mutual
  split_is : (t : Term) (c : _) (hs : List Term) → AreOf (has_module t) (split t c hs)
  split_is (Term' p (more_of-Head (head.All u) end_of-Head) n ts ty) c hs = all_is ts u (Term' p (more_of-Head (head.All u) end_of-Head) n ts ty) c hs refl
  split_is (Term' p (more_of-Head head.AllMemory end_of-Head) n ts ty) c hs = memory_is ts (Term' p (more_of-Head head.AllMemory end_of-Head) n ts ty) c hs refl
  split_is (Term' p (more_of-Head (head.Builtin op.Implies) end_of-Head) n ts ty) c hs = premise_is ts (Term' p (more_of-Head (head.Builtin op.Implies) end_of-Head) n ts ty) c hs refl
  split_is (Term' p (more_of-Head (head.Builtin op.And) end_of-Head) n ts ty) c hs = both_are ts (Term' p (more_of-Head (head.Builtin op.And) end_of-Head) n ts ty) c hs refl
  split_is (Term' p (more_of-Head h end_of-Head) n ts ty) c hs =
      let t : Term = Term' p (more_of-Head h end_of-Head) n ts ty in
      subst (AreOf (has_module t)) (sym (unsplit h (leaves.parts ts) t c hs refl)) (whole_is t c hs)

  all_is : {n : Count} (ts : Row_of-Term n) (u : Ty) (t : Term) (c : _) (hs : List Term) → has_module t ≡ last_has_module ts → AreOf (last_has_module ts) (leaves.split_by (head.All u) (leaves.parts ts) t c hs)
  all_is end_of-Term u t c hs e = subst (λ m. AreOf m (whole t c hs)) e (whole_is t c hs)
  all_is (more_of-Term x end_of-Term) u t c hs e = split_is x (with_variable c u) hs
  all_is (more_of-Term x (more_of-Term y end_of-Term)) u t c hs e = subst (λ m. AreOf m (whole t c hs)) e (whole_is t c hs)
  all_is (more_of-Term x (more_of-Term y (more_of-Term z ts))) u t c hs e = subst (λ m. AreOf m (whole t c hs)) e (whole_is t c hs)

  memory_is : {n : Count} (ts : Row_of-Term n) (t : Term) (c : _) (hs : List Term) → has_module t ≡ last_has_module ts → AreOf (last_has_module ts) (leaves.split_by head.AllMemory (leaves.parts ts) t c hs)
  memory_is end_of-Term t c hs e = subst (λ m. AreOf m (whole t c hs)) e (whole_is t c hs)
  memory_is (more_of-Term x end_of-Term) t c hs e = split_is x (with_memory c) hs
  memory_is (more_of-Term x (more_of-Term y end_of-Term)) t c hs e = subst (λ m. AreOf m (whole t c hs)) e (whole_is t c hs)
  memory_is (more_of-Term x (more_of-Term y (more_of-Term z ts))) t c hs e = subst (λ m. AreOf m (whole t c hs)) e (whole_is t c hs)

  premise_is : {n : Count} (ts : Row_of-Term n) (t : Term) (c : _) (hs : List Term) → has_module t ≡ last_has_module ts → AreOf (last_has_module ts) (leaves.split_by (head.Builtin op.Implies) (leaves.parts ts) t c hs)
  premise_is end_of-Term t c hs e = subst (λ m. AreOf m (whole t c hs)) e (whole_is t c hs)
  premise_is (more_of-Term x end_of-Term) t c hs e = subst (λ m. AreOf m (whole t c hs)) e (whole_is t c hs)
  premise_is (more_of-Term x (more_of-Term y end_of-Term)) t c hs e = split_is y c (hs ++ assumed (term_changed x c.changes))
  premise_is (more_of-Term x (more_of-Term y (more_of-Term z ts))) t c hs e = subst (λ m. AreOf m (whole t c hs)) e (whole_is t c hs)

  both_are : {n : Count} (ts : Row_of-Term n) (t : Term) (c : _) (hs : List Term) → has_module t ≡ false → AreOf false (leaves.split_by (head.Builtin op.And) (leaves.parts ts) t c hs)
  both_are end_of-Term t c hs e = subst (λ m. AreOf m (whole t c hs)) e (whole_is t c hs)
  both_are (more_of-Term x end_of-Term) t c hs e = subst (λ m. AreOf m (whole t c hs)) e (whole_is t c hs)
  both_are (more_of-Term x (more_of-Term y end_of-Term)) t c hs e =
      each_together (IsOf false) (split x c hs) (split y c hs) (of_any (has_module x) (split x c hs) (split_is x c hs)) (of_any (has_module y) (split y c hs) (split_is y c hs))
  both_are (more_of-Term x (more_of-Term y (more_of-Term z ts))) t c hs e = subst (λ m. AreOf m (whole t c hs)) e (whole_is t c hs)

-- A judgment on bodies stays one where changes are made, and is one leaf.
body_stays : (s : Subject) → is_body_at (out-Subject s) ≡ true → (cs : Changes) → is_body_at (out-Subject (subject_changed s cs)) ≡ true
body_stays (Proc p) m cs = ap (λ z. is_body_at (out-Subject z)) (procedure_stays p cs) ∙ m
body_stays (Body' k is) m cs = ap (λ z. is_body_at (out-Subject z)) (body_changed_is k is cs) ∙ ap is_body_at (outs-Body' k _)

-- what the test of a head says
pub head_judges : (h : Head) (n : List (Unit {0})) (ts : Row_of-Term (arity (the_former (this {0})) n)) (ty : Ty) → judges_bodies (out-Term (Term' tt (more_of-Head h end_of-Head) n ts ty)).head ≡ judges_bodies h
head_judges h n ts ty = ap (λ z. judges_bodies z.head) (out_is h n ts ty)

pub body_stays_at : (t : Term) → judges_bodies (out-Term t).head ≡ true → (cs : Changes) → judges_bodies (out-Term (term_changed t cs)).head ≡ true
body_stays_at (Term' tt (more_of-Head (head.Hoare s) end_of-Head) n ts ty) m cs =
    ap (λ z. judges_bodies (out-Term z).head) (term_changed_is (head.Hoare s) n ts ty cs)
    ∙ ap (λ z. judges_bodies z.head) (out-roll-Term _) ∙ body_stays s (sym (head_judges (head.Hoare s) n ts ty) ∙ m) cs
body_stays_at (Term' tt (more_of-Head (head.Phoare s r) end_of-Head) n ts ty) m cs =
    ap (λ z. judges_bodies (out-Term z).head) (term_changed_is (head.Phoare s r) n ts ty cs)
    ∙ ap (λ z. judges_bodies z.head) (out-roll-Term _) ∙ body_stays s (sym (head_judges (head.Phoare s r) n ts ty) ∙ m) cs
body_stays_at (Term' tt (more_of-Head (head.Equiv s u) end_of-Head) n ts ty) m cs =
    ap (λ z. judges_bodies (out-Term z).head) (term_changed_is (head.Equiv s u) n ts ty cs)
    ∙ ap (λ z. judges_bodies z.head) (out-roll-Term _) ∙ body_stays s (sym (head_judges (head.Equiv s u) n ts ty) ∙ m) cs
body_stays_at (Term' tt (more_of-Head h end_of-Head) n ts ty) m cs = absurd (false≢true (sym (head_judges h n ts ty) ∙ m))

abbrev IsJudged : Leaf → Type 0
IsJudged l = judges_bodies (out-Term l.conclusion).head ≡ true

module _ (c : LeafContext) (hs : List Term) where
  -- a judgment on bodies isn't split
  pub judged_whole : (t : Term) → judges_bodies (out-Term t).head ≡ true → split t c hs ≡ whole t c hs
  judged_whole (Term' tt (more_of-Head (head.Hoare s) end_of-Head) n ts ty) m = unsplit (head.Hoare s) (leaves.parts ts) (Term' tt (more_of-Head (head.Hoare s) end_of-Head) n ts ty) c hs refl
  judged_whole (Term' tt (more_of-Head (head.Phoare s r) end_of-Head) n ts ty) m = unsplit (head.Phoare s r) (leaves.parts ts) (Term' tt (more_of-Head (head.Phoare s r) end_of-Head) n ts ty) c hs refl
  judged_whole (Term' tt (more_of-Head (head.Equiv s u) end_of-Head) n ts ty) m = unsplit (head.Equiv s u) (leaves.parts ts) (Term' tt (more_of-Head (head.Equiv s u) end_of-Head) n ts ty) c hs refl
  judged_whole (Term' tt (more_of-Head h end_of-Head) n ts ty) m = absurd (false≢true (sym (head_judges h n ts ty) ∙ m))

  judged_split : (t : Term) → judges_bodies (out-Term t).head ≡ true → AllByRecursion IsJudged (split t c hs)
  judged_split t m = subst (AllByRecursion IsJudged) (sym (judged_whole t m)) (body_stays_at t m c.changes, tt)

-- Claims close leaves that aren't of forms.
module _ (ds : Declarations) where
  by_claim : (l : Leaf) → has_no_form l ≡ true → IsClosed ds l → ClosesByClaim ds l
  by_claim l n (inl e) = absurd (false≢true (sym e.forms ∙ n))
  by_claim l n (inr c) = c

  by_claims : (P : Leaf → Type 0) → ((l : Leaf) → P l → has_no_form l ≡ true) → (ls : List Leaf) → AllByRecursion P ls → All (IsClosed ds) ls → AllByRecursion (ClosesByClaim ds) ls
  by_claims P f [] a c = tt
  by_claims P f (l ∷ ls) a c = (by_claim l (f l a.0) (All-head (IsClosed ds) l ls c), by_claims P f ls a.1 (All-tail (IsClosed ds) l ls c))

  second_of_three : (a b c : Bool) → b ≡ true → (a || (b || c)) ≡ true
  second_of_three true b c e = refl
  second_of_three false b c e = ap (λ b. b || c) e

  third_of_three : (a b c : Bool) → c ≡ true → (a || (b || c)) ≡ true
  third_of_three true b c e = refl
  third_of_three false true c e = refl
  third_of_three false false c e = e

  module _ (t : Term) (c : LeafContext) (hs : List Term) (closed : All (IsClosed ds) (split t c hs)) where
    -- a conclusion that quantifies over modules
    pub module_conclusion : has_module t ≡ true → AllByRecursion (ClosesByClaim ds) (split t c hs)
    module_conclusion e =
        by_claims (IsOf (has_module t))
        (λ l k. second_of_three (list_any has_module l.hyps) (has_module l.conclusion) (judges_bodies (out-Term l.conclusion).head) (k e))
        (split t c hs) (split_is t c hs) closed

    -- one that judges bodies
    pub judged_conclusion : judges_bodies (out-Term t).head ≡ true → AllByRecursion (ClosesByClaim ds) (split t c hs)
    judged_conclusion e =
        by_claims IsJudged
        (λ l k. third_of_three (list_any has_module l.hyps) (has_module l.conclusion) (judges_bodies (out-Term l.conclusion).head) k)
        (split t c hs) (judged_split c hs t e) closed
