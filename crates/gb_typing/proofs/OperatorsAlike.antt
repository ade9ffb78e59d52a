-- Linking and operators, in settings that agree.
use Rattle.std.proofs.Common.{◌≡◌, if◌then◌else◌, List, [], ◌∷◌, bytes_eq, refl, ap}
use Rattle.std.proofs.Math.Path.{fun_ext}
use mathlib.Core.Former.{Count}
use Rattle.gb_terms.specs.declared.module.ProcRef.{ProcRef}
use Rattle.gb_terms.specs.declared.term.Instr.{Instr, Row_of-Instr, end_of-Instr, more_of-Instr}
use Rattle.gb_terms.specs.declared.term.Head.TheVariants.{Assign, Sample, Call', If', While'}
use Rattle.gb_meaning.specs.Names.{Name}
use Rattle.gb_meaning.specs.Program.{Routine}
use Rattle.gb_meaning.specs.Program.Routine.{routine}
use Rattle.gb_meaning.specs.Setting.{Setting, Meaning}
use Rattle.gb_meaning.specs.Terms.{val, quiet}
use Rattle.gb_meaning.specs.Declared.{Declarations, Declaration, abstract_type, abbreviation, operator, abstract_operator, module_type, concrete_module, abstract_module, axiom_of, lemma, terminating}
use Rattle.gb_meaning.specs.Modules.{Reading}
use Rattle.gb_meaning.specs.Linking.{calling, linked_procedure}
use Rattle.gb_meaning.specs.Settings.{Table, at_arguments, with_declaration, with_operators}
use Rattle.gb_meaning.specs.Naming.{EachCall, EachCallIn, EachCallOf}
use Rattle.gb_meaning.proofs.Later.{same_body}
use Rattle.gb_typing.specs.Naming.{AgreeOn, OperatorNames, OperatorsName}
use Rattle.gb_typing.proofs.SameTerms.{term_same, denominator_same}
use Rattle.gb_typing.proofs.Agreeing.{term_agrees}

mutual
  each-call : (P : ProcRef → Type 0) → ((p : ProcRef) → P p) → (i : Instr) → EachCall P i
  each-call P f (Assign xs t) = tt
  each-call P f (Sample x d) = tt
  each-call P f (Call' xs p n es) = f p
  each-call P f (If' t m a n b) = (each-call-in P f a, each-call-in P f b)
  each-call P f (While' t v n a) = each-call-in P f a

  each-call-in : {n : Count} (P : ProcRef → Type 0) → ((p : ProcRef) → P p) → (is : Row_of-Instr n) → EachCallIn P is
  each-call-in P f end_of-Instr = tt
  each-call-in P f (more_of-Instr i is) = (each-call P f i, each-call-in P f is)

each-call-of : (P : ProcRef → Type 0) → ((p : ProcRef) → P p) → (is : List Instr) → EachCallOf P is
each-call-of P f [] = tt
each-call-of P f (i ∷ is) = (each-call P f i, each-call-of P f is)

-- linking looks at procedures alone
pub linking_same : (g h : Setting) → ◌≡◌ {A = Reading Routine} (linked_procedure g) (linked_procedure h)
linking_same g h = fun_ext (λ callee. fun_ext (λ p.
    ap (λ c. routine p.params p.locals c p.value)
    (same_body (calling g callee) (calling h callee) p.body.list (each-call-of (λ q. (calling g callee).procedure q ≡ (calling h callee).procedure q) (λ q. refl) p.body.list))))

module _ (P Q : Name → Type 0) (t : Table) where
  declaration-agrees : (g h : Setting) → AgreeOn P Q g h → (n : Name) (d : Declaration) → OperatorNames P Q d →
      AgreeOn P Q (with_declaration t g n d) (with_declaration t h n d)
  declaration-agrees g h a n (operator o) e =
      let f : ◌≡◌ {A = List Meaning → Meaning} (λ xs. val g quiet o.body (at_arguments xs)) (λ xs. val h quiet o.body (at_arguments xs)) =
      fun_ext (λ xs. term_same g h o.body (term_agrees P Q g h a o.body e) (at_arguments xs)) in
      record {
        sizes = a.sizes;
        footprints = a.footprints;
        operators = λ m p. (
          λ k xs. if bytes_eq m n then f k xs else (a.operators m p).0 k xs,
          λ k. if bytes_eq m n then denominator_same g h o.body (term_agrees P Q g h a o.body e) k else (a.operators m p).1 k,
        );
        procedures = a.procedures;
      }
  declaration-agrees g h a n (abstract_operator o) e = record {
    sizes = a.sizes;
    footprints = a.footprints;
    operators = λ m p. (
      λ k xs. if bytes_eq m n then (t n).result xs else (a.operators m p).0 k xs,
      λ k. if bytes_eq m n then 1 else (a.operators m p).1 k,
    );
    procedures = a.procedures;
  }
  declaration-agrees g h a n abstract_type e = a
  declaration-agrees g h a n (abbreviation stood) e = a
  declaration-agrees g h a n (module_type y) e = a
  declaration-agrees g h a n (concrete_module m) e = a
  declaration-agrees g h a n (abstract_module b) e = a
  declaration-agrees g h a n (axiom_of q) e = a
  declaration-agrees g h a n (lemma q) e = a
  declaration-agrees g h a n (terminating f) e = a

  pub operators-agree : (g h : Setting) → AgreeOn P Q g h → (ds : Declarations) → OperatorsName P Q ds →
      AgreeOn P Q (with_operators t g ds) (with_operators t h ds)
  operators-agree g h a [] e = a
  operators-agree g h a (d ∷ ds) e =
      operators-agree (with_declaration t g d.0 d.1) (with_declaration t h d.0 d.1) (declaration-agrees g h a d.0 d.1 e.0) ds e.1
