-- Terms that read each variable at its type.
use Rattle.std.specs.Prelude.{◌≡◌, ℕ, List, [], ◌∷◌}
use Rattle.gb_terms.specs.declared.op.Op.{Op}
use Rattle.gb_terms.specs.declared.op.Op.TheVariants.{Equal}
use Rattle.gb_terms.specs.declared.term.Term.{Term, Term', Row_of-Term, end_of-Term, more_of-Term, end_of-Head, more_of-Head}
use Rattle.gb_terms.specs.declared.term.Head.TheVariants as head
use Rattle.gb_meaning.specs.Setting.{Setting}
use Rattle.gb_meaning.specs.Terms.{denominators}
use Rattle.gb_smt_laws.specs.Reading.{Variables, no_variables, Reading, IsReadAt, inner, AreHeld}

-- the sides of an equation are no distributions
abbrev pub IsOfValues : Op → List ℕ → Type 0
IsOfValues Equal (k ∷ l ∷ []) = (k ≡ 1) × (l ≡ 1)
IsOfValues _ ks = Unit {0}

-- In what evaluation may know of the term, behind quantifiers over memories, each variable is read at its type, and the
-- sides of equations are no distributions.
abbrev mutual
  pub Fits : Setting → Reading → Term → Type 0
  Fits g T (Term' p (more_of-Head (head.Read r) end_of-Head) n ts ty) = IsReadAt T r ty
  Fits g T (Term' p (more_of-Head (head.Builtin o) end_of-Head) n ts ty) = IsOfValues o (denominators g ts) × AllFit g T ts
  Fits g T (Term' p (more_of-Head (head.User v) end_of-Head) n ts ty) = AllFit g T ts
  Fits g T (Term' p (more_of-Head (head.Weights ps) end_of-Head) n ts ty) = AllFit g T ts
  Fits g T (Term' p (more_of-Head (head.All u) end_of-Head) n ts ty) = OnlyFits g (inner no_variables T) ts
  Fits g T (Term' p (more_of-Head (head.Some u) end_of-Head) n ts ty) = OnlyFits g (inner no_variables T) ts
  Fits g T (Term' p (more_of-Head (head.Sum q) end_of-Head) n ts ty) = OnlyFits g (inner no_variables T) ts
  Fits g T (Term' p (more_of-Head head.Mu end_of-Head) n ts ty) = BothFit g T ts
  Fits g T (Term' p (more_of-Head head.Map end_of-Head) n ts ty) = BothFit g T ts
  Fits g T (Term' p (more_of-Head head.Restrict end_of-Head) n ts ty) = BothFit g T ts
  Fits g T (Term' p (more_of-Head head.AllMemory end_of-Head) n ts ty) =
      (f : Variables) × AreHeld g f × OnlyFits g (inner f T) ts
  Fits g T (Term' p (more_of-Head head.SomeMemory end_of-Head) n ts ty) =
      (f : Variables) × AreHeld g f × OnlyFits g (inner f T) ts
  Fits g T _ = Unit {0}

  pub AllFit : {n : _} → Setting → Reading → Row_of-Term n → Type 0
  AllFit g T end_of-Term = Unit {0}
  AllFit g T (more_of-Term t ts) = Fits g T t × AllFit g T ts

  pub OnlyFits : {n : _} → Setting → Reading → Row_of-Term n → Type 0
  OnlyFits g T (more_of-Term t end_of-Term) = Fits g T t
  OnlyFits g T _ = Unit {0}

  -- a distribution, and what is said of its outcomes
  pub BothFit : {n : _} → Setting → Reading → Row_of-Term n → Type 0
  BothFit g T (more_of-Term t (more_of-Term u end_of-Term)) = Fits g T t × Fits g (inner no_variables T) u
  BothFit g T _ = Unit {0}
