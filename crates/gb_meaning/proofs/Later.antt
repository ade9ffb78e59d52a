-- Later declarations change no module expression that doesn't name them, and a body's program depends on the procedures
-- that it calls alone.
use Rattle.std.proofs.Common.{◌≡◌, Bool, if◌then◌else◌, List, [], ◌∷◌, ◌++◌, map, refl, ap, ◌∙◌}
use mathlib.Core.Former.{Count}
use Rattle.gb_terms.specs.declared.module.Mexp.{Mexp, Row_of-Mexp, end_of-Mexp, more_of-Mexp}
use Rattle.gb_terms.specs.declared.module.Mexp.TheVariants.{Name as named, Apply'}
use Rattle.gb_terms.specs.declared.term.Instr.{Instr, Row_of-Instr, end_of-Instr, more_of-Instr}
use Rattle.gb_terms.specs.declared.term.Head.TheVariants.{Assign, Sample, Call', If', While'}
use Rattle.gb_meaning.specs.Names.{Name}
use Rattle.gb_meaning.specs.Program.{Program}
use Rattle.gb_meaning.specs.Program.Program.{assign, sample, branch, loop}
use Rattle.gb_meaning.specs.Setting.{Setting}
use Rattle.gb_meaning.specs.Commands.{program_of, called, terms_in, statement, statements}
use Rattle.gb_meaning.specs.Declared.{Declarations, abstract_type, abbreviation, operator, abstract_operator, module_type, concrete_module, abstract_module, axiom_of, lemma, terminating}
use Rattle.gb_meaning.specs.Modules.{Modules, closed, module_at, modules_at, with_module, Reading, module_read, modules_of}
use Rattle.gb_meaning.specs.Naming.{EachName, EachNameIn, EachCall, EachCallIn, EachCallOf, IsFresh}

module _ {X : Type 0} where
  -- expressions whose names stand for the same
  module _ (ms ks : Modules X) where
    mutual
      pub same_module : (m : Mexp) → EachName (λ n. ms n ≡ ks n) m → module_at ms m ≡ module_at ks m
      same_module (named m) h = λ i lacking. h i (map closed lacking)
      same_module (Apply' m n args) h = λ i lacking. h.0 i (same_modules args h.1 i ++ map closed lacking)

      same_modules : {n : Count} (r : Row_of-Mexp n) → EachNameIn (λ n. ms n ≡ ks n) r → modules_at ms r ≡ modules_at ks r
      same_modules end_of-Mexp h = refl
      same_modules (more_of-Mexp m r) h = λ i. same_module m h.0 i ∷ same_modules r h.1 i

  module _ (read : Reading X) where
    pub declared_after : (ms : Modules X) (ds es : Declarations) → modules_of read ms (ds ++ es) ≡ modules_of read (modules_of read ms ds) es
    declared_after ms [] es = refl
    declared_after ms ((n, concrete_module m) ∷ ds) es = declared_after (with_module ms n (module_read read ms m)) ds es
    declared_after ms ((n, abstract_type) ∷ ds) es = declared_after ms ds es
    declared_after ms ((n, abbreviation stood) ∷ ds) es = declared_after ms ds es
    declared_after ms ((n, operator o) ∷ ds) es = declared_after ms ds es
    declared_after ms ((n, abstract_operator o) ∷ ds) es = declared_after ms ds es
    declared_after ms ((n, module_type t) ∷ ds) es = declared_after ms ds es
    declared_after ms ((n, abstract_module b) ∷ ds) es = declared_after ms ds es
    declared_after ms ((n, axiom_of q) ∷ ds) es = declared_after ms ds es
    declared_after ms ((n, lemma q) ∷ ds) es = declared_after ms ds es
    declared_after ms ((n, terminating f) ∷ ds) es = declared_after ms ds es

    pub fresh_same : (ms : Modules X) (es : Declarations) (k : Name) → IsFresh es k → modules_of read ms es k ≡ ms k
    fresh_same ms [] k h = refl
    fresh_same ms ((n, concrete_module m) ∷ es) k h =
        fresh_same (with_module ms n (module_read read ms m)) es k h.1 ∙ ap (λ (b : Bool). if b then module_read read ms m else ms k) h.0
    fresh_same ms ((n, abstract_type) ∷ es) k h = fresh_same ms es k h.1
    fresh_same ms ((n, abbreviation stood) ∷ es) k h = fresh_same ms es k h.1
    fresh_same ms ((n, operator o) ∷ es) k h = fresh_same ms es k h.1
    fresh_same ms ((n, abstract_operator o) ∷ es) k h = fresh_same ms es k h.1
    fresh_same ms ((n, module_type t) ∷ es) k h = fresh_same ms es k h.1
    fresh_same ms ((n, abstract_module b) ∷ es) k h = fresh_same ms es k h.1
    fresh_same ms ((n, axiom_of q) ∷ es) k h = fresh_same ms es k h.1
    fresh_same ms ((n, lemma q) ∷ es) k h = fresh_same ms es k h.1
    fresh_same ms ((n, terminating f) ∷ es) k h = fresh_same ms es k h.1

    mutual
      agree_later : (ms : Modules X) (ds es : Declarations) (m : Mexp) → EachName (IsFresh es) m →
          EachName (λ n. modules_of read ms (ds ++ es) n ≡ modules_of read ms ds n) m
      agree_later ms ds es (named m) h = (λ i. declared_after ms ds es i m) ∙ fresh_same (modules_of read ms ds) es m h
      agree_later ms ds es (Apply' m n args) h =
          ((λ i. declared_after ms ds es i m) ∙ fresh_same (modules_of read ms ds) es m h.0, agree_later_in ms ds es args h.1)

      agree_later_in : {n : Count} (ms : Modules X) (ds es : Declarations) (r : Row_of-Mexp n) → EachNameIn (IsFresh es) r →
          EachNameIn (λ n. modules_of read ms (ds ++ es) n ≡ modules_of read ms ds n) r
      agree_later_in ms ds es end_of-Mexp h = tt
      agree_later_in ms ds es (more_of-Mexp m r) h = (agree_later ms ds es m h.0, agree_later_in ms ds es r h.1)

    pub later : (ms : Modules X) (ds es : Declarations) (m : Mexp) → EachName (IsFresh es) m →
        module_at (modules_of read ms (ds ++ es)) m ≡ module_at (modules_of read ms ds) m
    later ms ds es m h = same_module (modules_of read ms (ds ++ es)) (modules_of read ms ds) m (agree_later ms ds es m h)

module _ (g h : Setting) where
  pub same_row : {n : Count} (is : Row_of-Instr n) → EachCallIn (λ p. g.procedure p ≡ h.procedure p) is → program_of g is ≡ program_of h is
  same_row end_of-Instr e = refl
  same_row (more_of-Instr (Assign xs t) is) e = ap (assign xs t) (same_row is e.1)
  same_row (more_of-Instr (Sample x d) is) e = ap (sample x d) (same_row is e.1)
  same_row (more_of-Instr (Call' xs p n es) is) e = λ i. called xs (e.0 i) (terms_in es) (same_row is e.1 i)
  same_row (more_of-Instr (If' t m a n b) is) e = λ i. branch t (same_row a e.0.0 i) (same_row b e.0.1 i) (same_row is e.1 i)
  same_row (more_of-Instr (While' t v n a) is) e = λ i. loop t v (same_row a e.0 i) (same_row is e.1 i)

  same_statement : (i : Instr) (c d : Program) → EachCall (λ p. g.procedure p ≡ h.procedure p) i → c ≡ d → statement g i c ≡ statement h i d
  same_statement (Assign xs t) c d e q = ap (assign xs t) q
  same_statement (Sample x t) c d e q = ap (sample x t) q
  same_statement (Call' xs p n es) c d e q = λ i. called xs (e i) (terms_in es) (q i)
  same_statement (If' t m a n b) c d e q = λ i. branch t (same_row a e.0 i) (same_row b e.1 i) (q i)
  same_statement (While' t v n a) c d e q = λ i. loop t v (same_row a e i) (q i)

  pub same_body : (is : List Instr) → EachCallOf (λ p. g.procedure p ≡ h.procedure p) is → statements g is ≡ statements h is
  same_body [] e = refl
  same_body (i ∷ is) e = same_statement i (statements g is) (statements h is) e.0 (same_body is e.1)
