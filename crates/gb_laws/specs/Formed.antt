-- Trees whose nodes have the arguments that their heads take.
use Rattle.std.specs.Prelude.{List, [], ◌∷◌}
use Rattle.gb_terms.specs.declared.term.Term.{Term, Term', Row_of-Term, end_of-Term, more_of-Term, end_of-Head, more_of-Head}
use Rattle.gb_terms.specs.declared.term.Instr.{Row_of-Instr, end_of-Instr, more_of-Instr}
use Rattle.gb_terms.specs.declared.term.Subject.{Subject}
use Rattle.gb_terms.specs.declared.term.Head.{Head}
use Rattle.gb_terms.specs.declared.term.Head.TheVariants as head
use Rattle.gb_terms.specs.declared.term.Head.TheVariants.{Assign, Sample, Call', If', While', Proc, Body'}
use Rattle.gb_meaning.specs.Commands.{terms_in}

abbrev pub AreTwo : {X : Type 0} → List X → Type 0
AreTwo (x ∷ y ∷ []) = Unit {0}
AreTwo _ = ⊥

abbrev pub AreThree : {X : Type 0} → List X → Type 0
AreThree (x ∷ y ∷ z ∷ []) = Unit {0}
AreThree _ = ⊥

-- A distribution with what is said of its outcomes; a judgment with its pre- and postcondition and its bound. The other
-- heads leave surplus arguments out.
abbrev pub HasArguments : {X : Type 0} → Head → List X → Type 0
HasArguments head.Mu xs = AreTwo xs
HasArguments head.Map xs = AreTwo xs
HasArguments head.Restrict xs = AreTwo xs
HasArguments (head.Phoare c r) xs = AreThree xs
HasArguments _ xs = Unit {0}

abbrev mutual
  pub IsFormed : Term → Type 0
  IsFormed (Term' p (more_of-Head h end_of-Head) n ts ty) = HasArguments h (terms_in ts) × HeadIsFormed h × AllFormed ts

  pub AllFormed : {n : _} → Row_of-Term n → Type 0
  AllFormed end_of-Term = Unit {0}
  AllFormed (more_of-Term t ts) = IsFormed t × AllFormed ts

  pub HeadIsFormed : Head → Type 0
  HeadIsFormed (head.Hoare c) = SubjectIsFormed c
  HeadIsFormed (head.Phoare c r) = SubjectIsFormed c
  HeadIsFormed (head.Equiv c d) = SubjectIsFormed c × SubjectIsFormed d
  HeadIsFormed _ = Unit {0}

  pub SubjectIsFormed : Subject → Type 0
  SubjectIsFormed (Proc p) = Unit {0}
  SubjectIsFormed (Body' n is) = AreFormed is

  pub AreFormed : {n : _} → Row_of-Instr n → Type 0
  AreFormed end_of-Instr = Unit {0}
  AreFormed (more_of-Instr (Assign xs e) is) = IsFormed e × AreFormed is
  AreFormed (more_of-Instr (Sample x d) is) = IsFormed d × AreFormed is
  AreFormed (more_of-Instr (Call' xs p n es) is) = AllFormed es × AreFormed is
  AreFormed (more_of-Instr (If' e m a n b) is) = IsFormed e × AreFormed a × AreFormed b × AreFormed is
  AreFormed (more_of-Instr (While' e v n a) is) = IsFormed e × IsFormed v × AreFormed a × AreFormed is
