-- Terms from their parts.
use Rattle.std.proofs.Common.{◌≡◌, ◌↔◌, List, [], ◌∷◌, map, refl, ap, sym, ◌∙◌, subst}
use Rattle.gb_core.specs.declared.ty.Ty.{Ty}
use Rattle.gb_terms.specs.declared.term.Term.{Term, end_of-Head, more_of-Head, out-Term, roll-Term, items-the_row-Term, items_shown-the_row-Term-0, outs-Term'}
use Rattle.gb_terms.specs.declared.term.Head.{Head}
use Rattle.gb_terms.specs.declared.term.Head.TheBlock as B
use Rattle.gb_terms.specs.declared.term.Head.TheViews.{roll-out-Term}
use Rattle.gb_terms.specs.Make.{node}
use Rattle.gb_meaning.specs.Trees.{term, places, row}
use Rattle.gb_meaning.specs.Setting.{Setting}
use Rattle.gb_meaning.specs.State.{State}
use Rattle.gb_meaning.specs.Terms.{Speaks, at_head, val, parts, part_of, denominator, denominators, denominator_of}
use Rattle.gb_meaning.specs.Judgments.{Judge, speaking, Stands, stands_at, IsJudged, is_judged_at, IsSoundForm, AllSound, is_sound_at}

shown_head : (h : Head) → B.shown-the_row-Head-2 tt (more_of-Head h end_of-Head) ≡ h
unfolding B.shown-the_row-Head-2 denote.Hole.Carrier.shown
shown_head h = refl

out_term : (h : Head) (ts : List Term) (ty : Ty) → (out-Term (term h ts ty)).head ≡ h
out_term h ts ty = ap (λ z. z.head) (outs-Term' tt (more_of-Head h end_of-Head) (places ts) (row ts) ty) ∙ shown_head h

row_items : (ts : List Term) → items-the_row-Term _ (row ts) ≡ ts
row_items [] = refl
row_items (t ∷ ts) = ap (λ z. t ∷ z) (row_items ts)

out_is : (h : Head) (ts : List Term) (ty : Ty) → out-Term (term h ts ty) ≡ record { head = h; args = ts; ty = ty }
out_is h ts ty =
    let args = items_shown-the_row-Term-0 (places ts) (row ts) ∙ row_items ts in
    outs-Term' tt (more_of-Head h end_of-Head) (places ts) (row ts) ty ∙ (λ i. record { head = shown_head h i; args = args i; ty = ty })

-- the tree by its constructors is the tree of these parts
pub term_is_node : (h : Head) (ts : List Term) (ty : Ty) → term h ts ty ≡ node h ts ty
term_is_node h ts ty = sym (roll-out-Term (term h ts ty)) ∙ ap roll-Term (out_is h ts ty)

-- each tree is that of its parts
pub each_is_node : (t : Term) → t ≡ node (out-Term t).head (out-Term t).args (out-Term t).ty
each_is_node t = sym (roll-out-Term t)

module _ (g : Setting) (j : Speaks) where
  parts_are : (ts : List Term) → parts g j (row ts) ≡ map (part_of g j) ts
  parts_are [] = refl
  parts_are (t ∷ ts) = ap (λ z. part_of g j t ∷ z) (parts_are ts)

  val_term : (h : Head) (ts : List Term) (ty : Ty) (s : State) → val g j (term h ts ty) s ≡ at_head g j (term h ts ty) h (map (part_of g j) ts) ty s
  val_term h ts ty s = ap (λ xs. at_head g j (term h ts ty) h xs ty s) (parts_are ts)

  -- the meaning of a term from its parts
  pub val_node : (h : Head) (ts : List Term) (ty : Ty) (s : State) → val g j (node h ts ty) s ≡ at_head g j (node h ts ty) h (map (part_of g j) ts) ty s
  val_node h ts ty s = subst (λ t. val g j t s ≡ at_head g j t h (map (part_of g j) ts) ty s) (term_is_node h ts ty) (val_term h ts ty s)

denominators_are : (g : Setting) (ts : List Term) → denominators g (row ts) ≡ map (denominator g) ts
denominators_are g [] = refl
denominators_are g (t ∷ ts) = ap (λ z. denominator g t ∷ z) (denominators_are g ts)

pub denominator_node : (g : Setting) (h : Head) (ts : List Term) (ty : Ty) → denominator g (node h ts ty) ≡ denominator_of g h (map (denominator g) ts) ty
denominator_node g h ts ty = ap (denominator g) (sym (term_is_node h ts ty)) ∙ ap (λ ks. denominator_of g h ks ty) (denominators_are g ts)

-- what is said of judgments at a node
pub stands_node : (g : Setting) (j : Judge) (h : Head) (ts : List Term) (ty : Ty) (s : State) → Stands g j (node h ts ty) s ↔ stands_at g h (map (part_of g (speaking g j)) ts) s
stands_node g j h ts ty s = (
  λ x. subst (λ xs. stands_at g h xs s) (parts_are g (speaking g j) ts) (subst (λ t. Stands g j t s) (sym (term_is_node h ts ty)) x),
  λ x. subst (λ t. Stands g j t s) (term_is_node h ts ty) (subst (λ xs. stands_at g h xs s) (sym (parts_are g (speaking g j) ts)) x),
)

pub judged_node : (g : Setting) (h : Head) (ts : List Term) (ty : Ty) → is_judged_at g h → IsJudged g (node h ts ty)
judged_node g h ts ty x = subst (λ t. IsJudged g t) (term_is_node h ts ty) x

abbrev pub EachSound : Setting → List Term → Type 0
EachSound g [] = Unit {0}
EachSound g (t ∷ ts) = IsSoundForm g t × EachSound g ts

sound_row : (g : Setting) (ts : List Term) → EachSound g ts → AllSound g (row ts)
sound_row g [] x = tt
sound_row g (t ∷ ts) x = (x.0, sound_row g ts x.1)

pub sound_node : (g : Setting) (h : Head) (ts : List Term) (ty : Ty) → is_sound_at g h → EachSound g ts → IsSoundForm g (node h ts ty)
sound_node g h ts ty x y = subst (λ t. IsSoundForm g t) (term_is_node h ts ty) (x, sound_row g ts y)
