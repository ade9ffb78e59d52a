-- Terms that speak of no program and quantify over no memory.
use Rattle.gb_terms.specs.declared.term.Term.{Term, Term', Row_of-Term, end_of-Term, more_of-Term, end_of-Head, more_of-Head}
use Rattle.gb_terms.specs.declared.term.Head.{Head}
use Rattle.gb_terms.specs.declared.term.Head.TheVariants as head

abbrev pub HeadIsPlain : Head → Type 0
HeadIsPlain head.AllMemory = ⊥
HeadIsPlain head.SomeMemory = ⊥
HeadIsPlain (head.Pr p r) = ⊥
HeadIsPlain (head.Hoare c) = ⊥
HeadIsPlain (head.Phoare c r) = ⊥
HeadIsPlain (head.Equiv c d) = ⊥
HeadIsPlain _ = Unit {0}

abbrev mutual
  pub IsPlain : Term → Type 0
  IsPlain (Term' p (more_of-Head h end_of-Head) n ts ty) = HeadIsPlain h × AllPlain ts

  pub AllPlain : {n : _} → Row_of-Term n → Type 0
  AllPlain end_of-Term = Unit {0}
  AllPlain (more_of-Term t ts) = IsPlain t × AllPlain ts
