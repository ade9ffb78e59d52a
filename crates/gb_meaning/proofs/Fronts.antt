-- Formulas without a quantifier over modules in front.
use Rattle.std.proofs.Common.{◌≡◌, ◌↔◌, Bool, true, false, sym}
use Rattle.std.proofs.lemmas.Bool.{false≢true}
use Rattle.gb_terms.specs.declared.op.Op.TheVariants as op
use Rattle.gb_terms.specs.declared.term.Term.{Term, Term', end_of-Head, more_of-Head}
use Rattle.gb_terms.specs.declared.term.Head.TheVariants as head
use Rattle.gb_meaning.specs.State.{State}
use Rattle.gb_meaning.specs.Judgments.{IsTrueIn}
use Rattle.gb_meaning.specs.Declared.{Declarations}
use Rattle.gb_meaning.specs.Settings.{Interpretation, setting}
use Rattle.gb_meaning.specs.Truth.{Choice, has_module, Truth}

same : (A : Type 0) → A ↔ A
same A = (λ x. x, λ x. x)

second : (t : Bool) (A B : Type 0) → t ≡ false → Choice t A B ↔ B
second true A B h = absurd (false≢true (sym h))
second false A B h = same B

pub without_modules : (ds : Declarations) (f : Term) (i : Interpretation) (s : State) → has_module f ≡ false →
    Truth ds f i s ↔ IsTrueIn (setting ds i) f s
without_modules ds (Term' p (more_of-Head (head.AllModule b) end_of-Head) n ts ty) i s h = absurd (false≢true (sym h))
without_modules ds (Term' p (more_of-Head (head.All u) end_of-Head) n ts ty) i s h = second _ _ _ h
without_modules ds (Term' p (more_of-Head head.AllMemory end_of-Head) n ts ty) i s h = second _ _ _ h
without_modules ds (Term' p (more_of-Head (head.Builtin op.Implies) end_of-Head) n ts ty) i s h = second _ _ _ h
without_modules ds f i s h = same _
