-- A leaf is true where it is with its equations used up.
use Rattle.std.proofs.Common.{◌≡◌, ℕ, zero, suc, ◌+◌, true, ◌⊎◌, inl, inr, Option, Some, None, List, [], ◌∷◌, map, take, drop, get_or, refl, ap, sym, ◌∙◌, subst}
use Rattle.gb_core.specs.declared.ty.Ty.{Ty}
use Rattle.gb_core.specs.declared.value.Value.{Value}
use Rattle.gb_core.specs.declared.value.Value.TheVariants.{Num}
use Rattle.gb_terms.specs.declared.op.Op.TheVariants.{Equal}
use Rattle.gb_terms.specs.declared.op.Read.{Read}
use Rattle.gb_terms.specs.declared.op.Read.TheVariants.{Logical, Program}
use Rattle.gb_terms.specs.declared.term.Term.{Term, out-Term}
use Rattle.gb_terms.specs.declared.term.Head.TheVariants as head
use Rattle.gb_terms.specs.Make.{node}
use Rattle.gb_walk.specs.declared.change.Change.{Change}
use Rattle.gb_walk.specs.declared.change.Change.TheVariants.{ToTerm}
use Rattle.gb_walk.specs.Change.{Changes, term_changed}
use Rattle.gb_meaning.specs.Memory.{Memory, read}
use Rattle.gb_meaning.specs.Setting.{Setting}
use Rattle.gb_meaning.specs.Setting.Meaning.{finite}
use Rattle.gb_meaning.specs.Meanings.{truth, same}
use Rattle.gb_meaning.specs.State.{State, memory_of}
use Rattle.gb_meaning.specs.Terms.{read_at, val}
use Rattle.gb_meaning.specs.Judgments.{Judge, IsFair, speaking, den}
use Rattle.gb_meaning.specs.Written.{type_of}
use Rattle.gb_meaning.proofs.Nodes.{val_node}
use Rattle.gb_meaning.proofs.Truths.{truth_of}
use Rattle.gb_meaning.specs.Holds.{context}
use Rattle.gb_laws.specs.Operators.{IsNoDistribution}
use Rattle.gb_laws.proofs.Nodes.{type_of_node}
use Rattle.gb_typing.specs.Context.{Context, Frame}
use Rattle.gb_typing.specs.Typing.{IsTyped, IsForm}
use Rattle.gb_typing.specs.Fits.{IsSettingOf}
use Rattle.gb_typing.proofs.Made.{IsNode, parts_typed}
use Rattle.gb_amb.proofs.Wider.{small}
use Rattle.gb_rewrite.proofs.Sides.{AreSides}
use Rattle.gb_smt.specs.declared.leaves.Leaf.{Leaf}
use Rattle.gb_smt.specs.Equations.{use_of, one_further, here_or_further, first_usable, others, with_used, if_usable, used_up_to}
use Rattle.gb_smt_laws.proofs.Equations.{IsUse, IsEquation, equation_used, none_some, some_some}
use Rattle.gb_smt_laws.proofs.Used.{same_left, same_right, each_taken, each_dropped, each_together}
use Rattle.gb_closing_laws.proofs.Places.{AreForms, AreTrueIn, IsTrueLeaf}
use Rattle.gb_closing_laws.proofs.Put.{form_changed, form_means}
use Rattle.gb_closing_laws.proofs.TypedLeaves.{variable_is}

module _ (b : Context) (us : List Ty) (ns : List Frame) (g : Setting) (fits : IsSettingOf (small b us ns) g) (i : Judge) (fair : IsFair g i) (vs : List Value) (ms : List Memory) where
  abbrev c : Context
  c = small b us ns

  abbrev s : State
  s = context vs ms

  -- forms stay typed with the changes, and mean what they meant
  abbrev Keeps : Changes → Type 0
  Keeps cs = (f : Term) → IsForm c f → IsForm c (term_changed f cs) × (val g (speaking g i) (term_changed f cs) s ≡ val g (speaking g i) f s)

  -- variables have values
  read_finite : (r : Read) (ty : Ty) → (v : Value) × (read_at g r ty s ≡ finite v)
  read_finite (Logical k) ty = (get_or vs k (Num 0), refl)
  read_finite (Program x r) ty = (read g.types (memory_of s r) x ty, refl)

  variable_value : (x : Term) (r : Read) → (out-Term x).head ≡ head.Read r → IsTyped c x → (v : Value) × (val g (speaking g i) x s ≡ finite v)
  variable_value x r e w =
      let v = read_finite r (out-Term x).ty in
      (v.0, ap (λ t. val g (speaking g i) t s) (variable_is b us ns x r e w) ∙ val_node g (speaking g i) (head.Read r) [] (out-Term x).ty s ∙ v.1)

  -- a term in place of a variable that has its value
  use_keeps : (x u : Term) (d : Change) → IsUse x u d → IsTyped c x → IsTyped c u → type_of x ≡ type_of u → IsNoDistribution (type_of x) →
      val g (speaking g i) x s ≡ val g (speaking g i) u s → Keeps (d ∷ [])
  use_keeps x u d k w z e n same_value = subst (λ d. Keeps (d ∷ [])) (sym k.change) keeps
    where
      ty : Ty
      ty = (out-Term x).ty

      is : x ≡ node (head.Read k.read) [] ty
      is = variable_is b us ns x k.read k.is_read w

      there : IsTyped c (node (head.Read k.read) [] ty)
      there = subst (IsTyped c) is w

      parts : IsNode c (head.Read k.read) [] [] ty
      parts = parts_typed c (head.Read k.read) [] ty there

      written : type_of u ≡ ty
      written = sym e ∙ ap type_of is ∙ type_of_node (head.Read k.read) [] ty

      sides : AreSides c (node (head.Read k.read) [] ty) u
      sides = record { left = there; right = z; type = sym (ap type_of is) ∙ e; single = subst (λ t. IsNoDistribution (type_of t)) is n }

      keeps : Keeps (ToTerm k.read u ∷ [])
      keeps f form = (
        form_changed c k.read ty u (parts.0, parts.1) z written f form,
        form_means c k.read ty u (parts.0, parts.1) z written g fits i fair s sides (sym (ap (λ t. val g (speaking g i) t s) is) ∙ same_value) f form,
      )

  equation_keeps : (h : Term) (d : Change) → IsEquation h d → IsForm c h → den g i h s ≡ true → Keeps (d ∷ [])
  equation_keeps h d q w e = step q.used
    where
      parts : IsNode c (head.Builtin Equal) (type_of q.left ∷ type_of q.right ∷ []) (q.left ∷ q.right ∷ []) q.ty
      parts = parts_typed c (head.Builtin Equal) (q.left ∷ q.right ∷ []) q.ty (subst (IsTyped c) q.is_node w.typed)

      are_same : same (val g (speaking g i) q.left s) (val g (speaking g i) q.right s) ≡ true
      are_same =
          sym (truth_of (same (val g (speaking g i) q.left s) (val g (speaking g i) q.right s)))
          ∙ sym (ap truth (ap (λ t. val g (speaking g i) t s) q.is_node ∙ val_node g (speaking g i) (head.Builtin Equal) (q.left ∷ q.right ∷ []) q.ty s)) ∙ e

      step : IsUse q.left q.right d ⊎ IsUse q.right q.left d → Keeps (d ∷ [])
      step (inl k) =
          let v = variable_value q.left k.read k.is_read parts.3.0 in
          use_keeps q.left q.right d k parts.3.0 parts.3.1 parts.0.1 parts.0.0
          (v.1 ∙ sym (same_left v.0 (val g (speaking g i) q.right s) (ap (λ m. same m (val g (speaking g i) q.right s)) (sym v.1) ∙ are_same)))
      step (inr k) =
          let v = variable_value q.right k.read k.is_read parts.3.1 in
          use_keeps q.right q.left d k parts.3.1 parts.3.0 (sym parts.0.1) (subst IsNoDistribution parts.0.1 parts.0.0)
          (v.1 ∙ sym (same_right v.0 (val g (speaking g i) q.left s) (ap (same (val g (speaking g i) q.left s)) (sym v.1) ∙ are_same)))

  usable_keeps : (hs : List Term) (e : _) → AreForms c hs → AreTrueIn g i s hs → first_usable hs ≡ Some e → Keeps e.changes
  usable_keeps [] e w t p = none_some e p
  usable_keeps (h ∷ hs) e w t p = here (use_of h) refl p (λ d q. usable_keeps hs d w.1 t.1 q)
    where
      further : (o : _) → one_further o ≡ Some e → ((d : _) → o ≡ Some d → Keeps d.changes) → Keeps e.changes
      further None p f = none_some e p
      further (Some d) p f = subst Keeps (λ k. (some_some _ e p k).changes) (f d refl)

      here : (o : Option Change) → use_of h ≡ o → here_or_further o (first_usable hs) ≡ Some e → ((d : _) → first_usable hs ≡ Some d → Keeps d.changes) → Keeps e.changes
      here (Some d) k p f = subst Keeps (λ j. (some_some _ e p j).changes) (equation_keeps h d (equation_used h d k) w.0 t.0)
      here None k p f = further (first_usable hs) p f

  module _ (cs : Changes) (keeps : Keeps cs) where
    forms_kept : (hs : List Term) → AreForms c hs → AreForms c (map (λ t. term_changed t cs) hs)
    forms_kept [] w = tt
    forms_kept (h ∷ hs) w = ((keeps h w.0).0, forms_kept hs w.1)

    truths_kept : (hs : List Term) → AreForms c hs → AreTrueIn g i s hs → AreTrueIn g i s (map (λ t. term_changed t cs) hs)
    truths_kept [] w t = tt
    truths_kept (h ∷ hs) w t = (ap truth (keeps h w.0).1 ∙ t.0, truths_kept hs w.1 t.1)

module _ (b : Context) (g : Setting) (i : Judge) (fair : IsFair g i) where
  once_true : (l : Leaf) (e : _) → first_usable l.hyps ≡ Some e → IsTrueLeaf b g i (with_used e l) → IsTrueLeaf b g i l
  once_true l e p h us fin ns fr fits forms form vs w ms assumed =
      let c = small b us ns in
      let s = context vs ms in
      let keeps = usable_keeps b us ns g fits i fair vs ms l.hyps e forms assumed p in
      let left = each_together (IsForm c) (take e.place l.hyps) (drop (e.place + 1) l.hyps) (each_taken (IsForm c) e.place l.hyps forms) (each_dropped (IsForm c) (e.place + 1) l.hyps forms) in
      let true_left =
      each_together (λ t. den g i t s ≡ true) (take e.place l.hyps) (drop (e.place + 1) l.hyps) (each_taken (λ t. den g i t s ≡ true) e.place l.hyps assumed) (each_dropped (λ t. den g i t s ≡ true) (e.place + 1) l.hyps assumed) in
      sym (ap truth (keeps l.conclusion form).1)
      ∙ h us fin ns fr fits (forms_kept b us ns g fits i fair vs ms e.changes keeps (others l.hyps e.place) left) (keeps l.conclusion form).0 vs w ms
      (truths_kept b us ns g fits i fair vs ms e.changes keeps (others l.hyps e.place) left true_left)

  pub used_true : (n : ℕ) (l : Leaf) → IsTrueLeaf b g i (used_up_to n l) → IsTrueLeaf b g i l
  used_true zero l h = h
  used_true (suc n) l h = step (first_usable l.hyps) refl (λ e p k. once_true l e p (used_true n (with_used e l) k)) h
    where
      step : (o : _) → first_usable l.hyps ≡ o → ((e : _) → first_usable l.hyps ≡ Some e → IsTrueLeaf b g i (used_up_to n (with_used e l)) → IsTrueLeaf b g i l) →
          IsTrueLeaf b g i (if_usable o l (used_up_to n)) → IsTrueLeaf b g i l
      step None p f h = h
      step (Some e) p f h = f e p h
