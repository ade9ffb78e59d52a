-- A term that speaks of no program is plain.
use Rattle.std.proofs.Common.{◌≡◌, Bool, true, false, ◌||◌, List, refl, ap, sym, ◌∙◌}
use Rattle.std.proofs.lemmas.Bool.{false≢true, or_parts}
use Rattle.std.specs.List.{list_any}
use Rattle.gb_core.specs.declared.ty.Ty.{Ty}
use Rattle.gb_terms.specs.declared.op.Read.TheVariants.{Logical, Program}
use Rattle.gb_terms.specs.declared.term.Term.{Term, Term', Row_of-Term, end_of-Term, more_of-Term, end_of-Head, more_of-Head}
use Rattle.gb_terms.specs.declared.term.Head.{Head}
use Rattle.gb_terms.specs.declared.term.Head.TheVariants as head
use Rattle.gb_terms.specs.declared.term.Head.TheOpen as layer
use Rattle.gb_terms.specs.declared.term.Head.TheViews.{the_lemmas, out-Head, roll-Head, roll-out-Head}
use Rattle.gb_terms.specs.declared.term.Head.TheFolds.{map-Head, fold-Instr, fold-Subject, fold-Cmd, fold_out-Head}
use Rattle.gb_meaning.specs.Commands.{terms_in}
use Rattle.gb_laws.specs.Plain.{HeadIsPlain, IsPlain, AllPlain}
use Rattle.gb_laws.proofs.Trees.{out_is, HeadLayer}
use Rattle.gb_steps.specs.Chances.{at_head, at_term, speaks, head_speaks}
use Rattle.gb_steps.proofs.Parts.{speaks_out}
use Rattle.sqlite_items.specs.formers.items.Items.{the_former}
use mathlib.Core.Former.{Count, arity, this}

abbrev speaks_at : Head → Bool
speaks_at head.AllMemory = true
speaks_at head.SomeMemory = true
speaks_at (head.Pr p r) = true
speaks_at (head.Hoare s) = true
speaks_at (head.Phoare s r) = true
speaks_at (head.Equiv s u) = true
speaks_at _ = false

speaks_layer : (x : HeadLayer) →
    at_head false (map-Head _ _ _ _ _ Bool (Unit {0}) (Unit {0}) (Unit {0}) Bool (head_speaks false)
    (fold-Instr Bool (Unit {0}) (Unit {0}) (Unit {0}) Bool (at_head false) (λ i. tt) (λ s. tt) (λ c. tt) at_term)
    (fold-Subject Bool (Unit {0}) (Unit {0}) (Unit {0}) Bool (at_head false) (λ i. tt) (λ s. tt) (λ c. tt) at_term)
    (fold-Cmd Bool (Unit {0}) (Unit {0}) (Unit {0}) Bool (at_head false) (λ i. tt) (λ s. tt) (λ c. tt) at_term)
    (speaks false) x) ≡ speaks_at (roll-Head x)
speaks_layer (layer.Read (Logical i)) = simp the_lemmas refl
speaks_layer (layer.Read (Program x r)) = simp the_lemmas refl
speaks_layer layer.AllMemory = simp the_lemmas refl
speaks_layer layer.SomeMemory = simp the_lemmas refl
speaks_layer (layer.Pr p r) = simp the_lemmas refl
speaks_layer (layer.Hoare s) = simp the_lemmas refl
speaks_layer (layer.Phoare s r) = simp the_lemmas refl
speaks_layer (layer.Equiv s u) = simp the_lemmas refl
speaks_layer _ = simp the_lemmas refl

head_speaks_is : (h : Head) → head_speaks false h ≡ speaks_at h
head_speaks_is h =
    fold_out-Head Bool (Unit {0}) (Unit {0}) (Unit {0}) Bool (at_head false) (λ i. tt) (λ s. tt) (λ c. tt) at_term h
    ∙ speaks_layer (out-Head h)
    ∙ ap speaks_at (roll-out-Head h)

term_speaks : (h : Head) (n : List (Unit {0})) (ts : Row_of-Term (arity (the_former (this {0})) n)) (t : Ty) →
    speaks false (Term' tt (more_of-Head h end_of-Head) n ts t) ≡ (speaks_at h || list_any (speaks false) (terms_in ts))
term_speaks h n ts t =
    speaks_out (Term' tt (more_of-Head h end_of-Head) n ts t) false
    ∙ ap (λ z. head_speaks false z.head || list_any (speaks false) z.args) (out_is h n ts t)
    ∙ ap (λ b. b || list_any (speaks false) (terms_in ts)) (head_speaks_is h)

plain_head : (h : Head) → speaks_at h ≡ false → HeadIsPlain h
plain_head head.AllMemory e = false≢true (sym e)
plain_head head.SomeMemory e = false≢true (sym e)
plain_head (head.Pr p r) e = false≢true (sym e)
plain_head (head.Hoare s) e = false≢true (sym e)
plain_head (head.Phoare s r) e = false≢true (sym e)
plain_head (head.Equiv s u) e = false≢true (sym e)
plain_head _ e = tt

mutual
  pub plain_term : (t : Term) → speaks false t ≡ false → IsPlain t
  plain_term (Term' tt (more_of-Head h end_of-Head) n ts t) e = let k = or_parts _ _ (sym (term_speaks h n ts t) ∙ e) in (plain_head h k.0, all_plain ts k.1)

  all_plain : {n : Count} (ts : Row_of-Term n) → list_any (speaks false) (terms_in ts) ≡ false → AllPlain ts
  all_plain end_of-Term e = tt
  all_plain (more_of-Term t ts) e = let k = or_parts _ _ e in (plain_term t k.0, all_plain ts k.1)
