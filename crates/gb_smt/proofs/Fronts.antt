-- Quantifiers over modules in front, by the parts of a term.
use Rattle.std.proofs.Common.{◌≡◌, ℕ, zero, suc, ◌+◌, ◌-◌, ◌<◌, ◌≤◌, false, ◌&&◌, ◌||◌, List, [], ◌∷◌, length, get_or, refl, sym, ap, ◌∙◌, arith}
use Rattle.gb_terms.specs.declared.op.Op.TheVariants as op
use Rattle.gb_terms.specs.declared.term.Term.{Term, Term', Row_of-Term, end_of-Term, more_of-Term, end_of-Head, more_of-Head, items-the_row-Term, items_shown-the_row-Term-0}
use Rattle.gb_terms.specs.declared.term.Head.{Head}
use Rattle.gb_terms.specs.declared.term.Head.TheVariants as head
use Rattle.gb_terms.specs.declared.term.Head.TheViews.{out-Term, outs-struct-Term}
use Rattle.gb_meaning.specs.Truth.{has_module, last_has_module}
use Rattle.gb_smt.specs.ByEquality.{is_over_modules, goes_on, last_of}

last_row : (n : _) (r : Row_of-Term n) → last_has_module r ≡ last_of (items-the_row-Term n r)
last_row n end_of-Term = refl
last_row n (more_of-Term t end_of-Term) = refl
last_row n (more_of-Term t (more_of-Term u r)) = last_row _ (more_of-Term u r)

pub module_out : (t : Term) → has_module t ≡ (is_over_modules (out-Term t).head || (goes_on (out-Term t).head && last_of (out-Term t).args))
unfolding Rattle.gb_terms.specs.declared.term.Head.TheBlock.shown-the_row-Head-2 denote.Hole.Carrier.shown
module_out (Term' p (more_of-Head h end_of-Head) n r ty) =
    at_parts h
    ∙ ap (λ b. is_over_modules h || (goes_on h && b)) (last_row _ r)
    ∙ ap (λ l. is_over_modules h || (goes_on h && last_of l)) (sym (items_shown-the_row-Term-0 n r))
    ∙ sym (ap (λ z. is_over_modules z.head || (goes_on z.head && last_of z.args)) (outs-struct-Term p (more_of-Head h end_of-Head) n r ty))
  where
    at_parts : (h : Head) → has_module (Term' p (more_of-Head h end_of-Head) n r ty) ≡ (is_over_modules h || (goes_on h && last_has_module r))
    at_parts (head.AllModule b) = refl
    at_parts (head.All u) = refl
    at_parts head.AllMemory = refl
    at_parts (head.Builtin op.Implies) = refl
    at_parts h = refl

pub none_last : (ts : List Term) → length ts < 1 → false ≡ last_of ts
none_last [] e = refl
none_last (t ∷ ts) e = absurd (omega (arith, e))

pub one_last : (ts : List Term) → ts ≡ [] → false ≡ last_of ts
one_last ts e = sym (ap last_of e)

last_at : (ts : List Term) (n : ℕ) (x : Term) → length ts ≡ n + 1 → x ≡ get_or ts n x → has_module x ≡ last_of ts
last_at [] n x e h = absurd (omega (arith, e))
last_at (t ∷ []) zero x e h = ap has_module h
last_at (t ∷ []) (suc n) x e h = absurd (omega (arith, e))
last_at (t ∷ (u ∷ ts)) zero x e h = absurd (omega (arith, e))
last_at (t ∷ (u ∷ ts)) (suc n) x e h = last_at (u ∷ ts) n x (omega (arith, e)) h

pub more_last : (ts : List Term) (x : Term) → 1 ≤ length ts → x ≡ get_or ts (length ts - 1) x → has_module x ≡ last_of ts
more_last ts x e h = last_at ts (length ts - 1) x (omega (arith, e)) h
