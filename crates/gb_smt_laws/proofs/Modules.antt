-- Forms with a quantifier over modules in front aren't simple.
use Rattle.std.proofs.Common.{◌≡◌, true, refl}
use Rattle.std.specs.List.{list_all}
use Rattle.std.proofs.lemmas.Bool.{false≢true, and_parts}
use Rattle.gb_terms.specs.declared.op.Op.TheVariants as op
use Rattle.gb_terms.specs.declared.term.Term.{Term, Term', Row_of-Term, end_of-Term, more_of-Term, end_of-Head, more_of-Head}
use Rattle.gb_terms.specs.declared.term.Head.TheVariants as head
use Rattle.gb_meaning.specs.Truth.{has_module, last_has_module}
use Rattle.gb_smt.specs.Leaves.{unless_true, assumed}
use Rattle.gb_smt_laws.specs.Simple.{is_simple, all_simple, only}
use mathlib.Core.Former.{Count}

mutual
  pub not_simple : (t : Term) → has_module t ≡ true → is_simple t ≡ true → ⊥
  not_simple (Term' p (more_of-Head (head.AllModule c) end_of-Head) n ts ty) m b = false≢true b
  not_simple (Term' p (more_of-Head head.AllMemory end_of-Head) n ts ty) m b = only_not_simple ts m b
  not_simple (Term' p (more_of-Head (head.All u) end_of-Head) n ts ty) m b = only_not_simple ts m b
  not_simple (Term' p (more_of-Head (head.Builtin op.Implies) end_of-Head) n ts ty) m b = last_not_simple ts m b
  not_simple (Term' p (more_of-Head h end_of-Head) n ts ty) m b = false≢true m

  only_not_simple : {n : Count} (ts : Row_of-Term n) → last_has_module ts ≡ true → only (all_simple ts) ≡ true → ⊥
  only_not_simple end_of-Term m b = false≢true b
  only_not_simple (more_of-Term t end_of-Term) m b = not_simple t m b
  only_not_simple (more_of-Term t (more_of-Term u ts)) m b = false≢true b

  last_not_simple : {n : Count} (ts : Row_of-Term n) → last_has_module ts ≡ true → list_all (λ b. b) (all_simple ts) ≡ true → ⊥
  last_not_simple end_of-Term m b = false≢true m
  last_not_simple (more_of-Term t end_of-Term) m b = not_simple t m (and_parts (is_simple t) true b).0
  last_not_simple (more_of-Term t (more_of-Term u ts)) m b = last_not_simple (more_of-Term u ts) m (and_parts (is_simple t) (list_all (λ b. b) (all_simple (more_of-Term u ts))) b).1

pub module_whole : (t : Term) → has_module t ≡ true → assumed t ≡ unless_true t
module_whole (Term' p (more_of-Head (head.AllModule c) end_of-Head) n ts ty) m = refl
module_whole (Term' p (more_of-Head head.AllMemory end_of-Head) n ts ty) m = refl
module_whole (Term' p (more_of-Head (head.All u) end_of-Head) n ts ty) m = refl
module_whole (Term' p (more_of-Head (head.Builtin op.Implies) end_of-Head) n ts ty) m = refl
module_whole (Term' p (more_of-Head h end_of-Head) n ts ty) m = absurd (false≢true m)
