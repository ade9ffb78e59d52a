-- Forms in which no quantifier over modules stands.
use Rattle.std.proofs.Common.{◌≡◌, Bool, true, false, ◌||◌, List, [], ◌∷◌, map, refl, ap, sym, ◌∙◌}
use Rattle.std.proofs.lemmas.Bool.{false≢true}
use Rattle.std.specs.List.{list_any}
use Rattle.gb_core.specs.declared.ty.Ty.{Ty}
use Rattle.gb_terms.specs.declared.module.Bind.{Bind}
use Rattle.gb_terms.specs.declared.op.Op.TheVariants.{Implies}
use Rattle.gb_terms.specs.declared.term.Term.{Term, Term', Row_of-Term, end_of-Term, more_of-Term, end_of-Head, more_of-Head, out-Term}
use Rattle.gb_terms.specs.declared.term.Head.{Head}
use Rattle.gb_terms.specs.declared.term.Head.TheVariants as head
use Rattle.gb_terms.specs.declared.term.Head.TheOpen as layer
use Rattle.gb_terms.specs.declared.term.Head.TheFolds.{fold_out-Term, fold-roll-Head}
use Rattle.gb_meaning.specs.Commands.{terms_in}
use Rattle.gb_laws.proofs.Trees.{out_is}
use Rattle.gb_meaning.specs.Truth.{has_module, last_has_module}
use Rattle.gb_amb.specs.Quantified.{is_module_quantifier, at_head, at_instr, at_subject, at_cmd, at_term, quantifies_modules}
use mathlib.Core.Former.{Count}

any_of : {X : Type 0} (f : X → Bool) (xs : List X) → list_any (λ b. b) (map f xs) ≡ list_any f xs
any_of f [] = refl
any_of f (x ∷ xs) = ap (λ b. f x || b) (any_of f xs)

pub modules_out : (t : Term) → quantifies_modules t ≡ (is_module_quantifier (out-Term t).head || list_any quantifies_modules (out-Term t).args)
modules_out t =
    fold_out-Term Bool Bool Bool Bool Bool at_head at_instr at_subject at_cmd at_term t
    ∙ ap (λ b. is_module_quantifier (out-Term t).head || b) (any_of quantifies_modules (out-Term t).args)

pub second : (a b : Bool) → (a || b) ≡ false → b ≡ false
second true b e = absurd (false≢true (sym e))
second false b e = e

pub first : (a b : Bool) → (a || b) ≡ false → a ≡ false
first true b e = absurd (false≢true (sym e))
first false b e = refl

module_stands : (b : Bind) → is_module_quantifier (head.AllModule b) ≡ true
unfolding Rattle.gb_terms.specs.declared.term.Head.TheViews.roll-Head denote.Hole.Carrier.roll
module_stands b = fold-roll-Head Bool Bool Bool Bool Bool at_head at_instr at_subject at_cmd at_term (layer.AllModule b)

below : (h : Head) (n : _) (ts : _) (ty : Ty) → quantifies_modules (Term' tt (more_of-Head h end_of-Head) n ts ty) ≡ false → list_any quantifies_modules (terms_in ts) ≡ false
below h n ts ty e =
    second (is_module_quantifier h) (list_any quantifies_modules (terms_in ts))
    (ap (λ x. is_module_quantifier x.head || list_any quantifies_modules x.args) (sym (out_is h n ts ty)) ∙ sym (modules_out (Term' tt (more_of-Head h end_of-Head) n ts ty)) ∙ e)

mutual
  -- so none stands in front
  pub none_in_front : (t : Term) → quantifies_modules t ≡ false → has_module t ≡ false
  none_in_front (Term' tt (more_of-Head (head.AllModule b) end_of-Head) n ts ty) e =
      absurd (false≢true (sym e ∙ modules_out (Term' tt (more_of-Head (head.AllModule b) end_of-Head) n ts ty)
      ∙ ap (λ x. is_module_quantifier x.head || list_any quantifies_modules x.args) (out_is (head.AllModule b) n ts ty)
      ∙ ap (λ z. z || list_any quantifies_modules (terms_in ts)) (module_stands b)))
  none_in_front (Term' tt (more_of-Head (head.All u) end_of-Head) n ts ty) e = none_last ts (below (head.All u) n ts ty e)
  none_in_front (Term' tt (more_of-Head head.AllMemory end_of-Head) n ts ty) e = none_last ts (below head.AllMemory n ts ty e)
  none_in_front (Term' tt (more_of-Head (head.Builtin Implies) end_of-Head) n ts ty) e = none_last ts (below (head.Builtin Implies) n ts ty e)
  none_in_front _ e = refl

  none_last : {n : Count} (ts : Row_of-Term n) → list_any quantifies_modules (terms_in ts) ≡ false → last_has_module ts ≡ false
  none_last end_of-Term e = refl
  none_last (more_of-Term t end_of-Term) e = none_in_front t (first (quantifies_modules t) false e)
  none_last (more_of-Term t (more_of-Term u ts)) e = none_last (more_of-Term u ts) (second (quantifies_modules t) (list_any quantifies_modules (terms_in (more_of-Term u ts))) e)
