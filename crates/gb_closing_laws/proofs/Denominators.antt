-- A counted term has one denominator in both settings.
use Rattle.std.proofs.Common.{◌≡◌, ℕ, List, [], ◌∷◌, refl, ap, ◌∙◌}
use Rattle.gb_core.specs.declared.ty.Ty.{Ty}
use Rattle.gb_core.specs.Numbering.{Numbering}
use Rattle.gb_terms.specs.declared.op.Op.{Op}
use Rattle.gb_terms.specs.declared.op.Op.TheVariants as op
use Rattle.gb_terms.specs.declared.term.Term.{Term, Term', Row_of-Term, end_of-Term, more_of-Term, end_of-Head, more_of-Head}
use Rattle.gb_terms.specs.declared.term.Head.{Head}
use Rattle.gb_terms.specs.declared.term.Head.TheVariants as head
use Rattle.gb_meaning.specs.Setting.{Setting}
use Rattle.gb_meaning.specs.Operators.{denominator_at, denominator_over, outcome_type}
use Rattle.gb_meaning.specs.Terms.{denominator, denominators, denominator_of}
use Rattle.gb_typing.proofs.PlainGlobals.{globless_values}
use Rattle.gb_labels.specs.Reads.{Vars}
use Rattle.gb_labels.specs.Things.{reads_inside}
use Rattle.gb_closing_laws.specs.Related.{ReadTypes}
use Rattle.gb_closing_laws.specs.Needs.{IsMadeOf, CountsAt, inside, Counts, AllCount}
use Rattle.gb_walk.specs.Clash.{Exclusions}
use Rattle.gb_closing_laws.specs.Model.{AreAlike}
use Rattle.gb_closing_laws.proofs.LabelMeanings.{outcome_globless}
use mathlib.Core.Former.{Count}

module _ {es : Exclusions} (g h : Setting) (alike : AreAlike es g h) (T : ReadTypes) where
  operator_same : (o : Op) (a : Ty) (ks : List ℕ) → IsMadeOf o a → denominator_at g.types o a ks ≡ denominator_at h.types o a ks
  operator_same op.Uniform a ks k = ap (λ (z : Numbering). z.size) (globless_values g.types h.types alike.sizes (outcome_type a) (outcome_globless a k))
  operator_same _ a ks k = refl

  head_same : (vss : List Vars) (d : Head) (vs : Vars) (a : Ty) (ks : List ℕ) → CountsAt es T vss d vs a → denominator_of g d ks a ≡ denominator_of h d ks a
  head_same vss (head.Builtin o) vs a ks k = operator_same o a ks k
  head_same vss (head.User n) vs a ks k = ap (denominator_over a) (alike.operators n).1
  head_same vss _ vs a ks k = refl

  mutual
    pub denominator_same : (t : Term) (vss : List Vars) → Counts es T vss t → denominator g t ≡ denominator h t
    denominator_same (Term' p (more_of-Head d end_of-Head) n ts a) vss k =
        ap (λ z. denominator_of g d z a) (denominators_same ts vss (inside d (reads_inside d ts) vss) k.1) ∙ head_same vss d (reads_inside d ts) a (denominators h ts) k.0

    denominators_same : {n : Count} (ts : Row_of-Term n) (vss wss : List Vars) → AllCount es T vss wss ts → denominators g ts ≡ denominators h ts
    denominators_same end_of-Term vss wss k = refl
    denominators_same (more_of-Term t end_of-Term) vss wss k = λ i. denominator_same t wss k i ∷ []
    denominators_same (more_of-Term t (more_of-Term u ts)) vss wss k = λ i. denominator_same t vss k.0 i ∷ denominators_same (more_of-Term u ts) vss wss k.1 i
