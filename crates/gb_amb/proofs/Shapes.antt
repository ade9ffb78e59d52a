-- The forms that are implications.
use Rattle.std.proofs.Common.{◌≡◌, ◌<◌, ◌≤◌, List, [], ◌∷◌, length, get_or, true, false, Some, None, refl, sym, arith}
use Rattle.std.proofs.lemmas.Bool.{false≢true}
use Rattle.gb_terms.specs.declared.op.Op.TheVariants.{Implies}
use Rattle.gb_terms.specs.declared.term.Term.{Term, out-Term}
use Rattle.gb_terms.specs.declared.term.Head.{Head}
use Rattle.gb_terms.specs.declared.term.Head.TheVariants.{Builtin}
use Rattle.gb_amb.specs.Uses.{implication_at, implication_of, is_implication}

pub two_parts : (h : Head) (ts : List Term) (a b : Term) → is_implication h ≡ true → 2 ≤ length ts → length ts < 3 → a ≡ get_or ts 0 a → b ≡ get_or ts 1 b → implication_at h ts ≡ Some (a, b)
two_parts (Builtin Implies) (x ∷ y ∷ []) a b i m l e f = λ k. Some (sym e k, sym f k)
two_parts (Builtin Implies) [] a b i m l e f = absurd (omega (arith, m))
two_parts (Builtin Implies) (x ∷ []) a b i m l e f = absurd (omega (arith, m))
two_parts (Builtin Implies) (x ∷ y ∷ z ∷ ts) a b i m l e f = absurd (omega (arith, l))
two_parts h ts a b i m l e f = absurd (false≢true i)

pub other_parts : (h : Head) (ts : List Term) → (length ts ≡ 2 → ⊥) → implication_at h ts ≡ None
other_parts (Builtin Implies) [] n = refl
other_parts (Builtin Implies) (x ∷ []) n = refl
other_parts (Builtin Implies) (x ∷ y ∷ []) n = absurd (n refl)
other_parts (Builtin Implies) (x ∷ y ∷ z ∷ ts) n = refl
other_parts h ts n = refl

pub no_implication : (h : Head) (ts : List Term) → is_implication h ≡ false → implication_at h ts ≡ None
no_implication (Builtin Implies) ts e = absurd (false≢true (sym e))
no_implication h ts e = refl

-- a form is an implication as its head and its parts are
pub of_layer : (f : Term) (h : Head) (ts : List Term) → h ≡ (out-Term f).head → ts ≡ (out-Term f).args → implication_of f ≡ implication_at h ts
of_layer f h ts a b = λ i. implication_at (sym a i) (sym b i)
