-- What a plain term means doesn't depend on judges.
use Rattle.std.proofs.Common.{◌≡◌, List, ◌∷◌, refl, ap, ◌∙◌}
use Rattle.gb_core.specs.declared.ty.Ty.{Ty}
use Rattle.gb_terms.specs.declared.term.Term.{Term, Term', Row_of-Term, end_of-Term, more_of-Term, end_of-Head, more_of-Head}
use Rattle.gb_terms.specs.declared.term.Head.{Head}
use Rattle.gb_terms.specs.declared.term.Head.TheVariants as head
use Rattle.gb_meaning.specs.Setting.{Setting}
use Rattle.gb_meaning.specs.State.{State}
use Rattle.gb_meaning.specs.Terms.{Speaks, Part, quiet, at_head, val, parts, denominator}
use Rattle.gb_laws.specs.Plain.{HeadIsPlain, IsPlain, AllPlain}
use mathlib.Core.Former.{Count}

module _ (g : Setting) (j : Speaks) where
  plain_head : (t : Term) (h : Head) (xs : List Part) (ty : Ty) (s : State) → HeadIsPlain h → at_head g j t h xs ty s ≡ at_head g quiet t h xs ty s
  plain_head t head.AllMemory xs ty s p = absurd p
  plain_head t head.SomeMemory xs ty s p = absurd p
  plain_head t (head.Pr q r) xs ty s p = absurd p
  plain_head t (head.Hoare c) xs ty s p = absurd p
  plain_head t (head.Phoare c r) xs ty s p = absurd p
  plain_head t (head.Equiv c d) xs ty s p = absurd p
  plain_head t _ xs ty s p = refl

  mutual
    pub plain_quiet : (t : Term) → IsPlain t → (s : State) → val g j t s ≡ val g quiet t s
    plain_quiet (Term' tt (more_of-Head h end_of-Head) n ts ty) p s =
        plain_head (Term' tt (more_of-Head h end_of-Head) n ts ty) h (parts g j ts) ty s p.0
        ∙ ap (λ xs. at_head g quiet (Term' tt (more_of-Head h end_of-Head) n ts ty) h xs ty s) (plain_parts ts p.1)

    plain_parts : {n : Count} (ts : Row_of-Term n) → AllPlain ts → parts g j ts ≡ parts g quiet ts
    plain_parts end_of-Term p = refl
    plain_parts (more_of-Term t ts) p = λ i. record { meaning = λ s. plain_quiet t p.0 s i; denominator = denominator g t } ∷ plain_parts ts p.1 i
