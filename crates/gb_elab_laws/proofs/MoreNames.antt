-- What speaks of the globals of modules in P speaks of those of modules in R, where P is within R.
use Rattle.std.proofs.Common.{◌≡◌, ◌↔◌, List, [], ◌∷◌, ◌++◌, subst}
use Rattle.std.proofs.lemmas.Bool.{false≢true}
use Rattle.gb_core.specs.declared.ty.Ty.{Ty, Row_of-Ty, end_of-Ty, more_of-Ty}
use Rattle.gb_core.specs.declared.ty.Ty.TheVariants as ty
use Rattle.gb_core.specs.declared.var.Var.{Var}
use Rattle.gb_core.specs.declared.var.Var.TheVariants as var
use Rattle.gb_terms.specs.declared.decl.Proc.{Proc}
use Rattle.gb_terms.specs.declared.decl.TypedName.{TypedName}
use Rattle.gb_terms.specs.declared.op.Read.TheVariants as read
use Rattle.gb_terms.specs.declared.term.Term.{Term, Term', Row_of-Term, end_of-Term, more_of-Term, end_of-Head, more_of-Head}
use Rattle.gb_terms.specs.declared.term.Head.{Head}
use Rattle.gb_terms.specs.declared.term.Head.TheVariants as head
use Rattle.gb_terms.specs.declared.term.Head.TheVariants.{Assign, Sample, Call', If', While', Proc as procedure, Body'}
use Rattle.gb_terms.specs.declared.term.Instr.{Instr, Row_of-Instr, end_of-Instr, more_of-Instr}
use Rattle.gb_terms.specs.declared.term.Subject.{Subject}
use Rattle.gb_goal.specs.declared.sequent.Hyp.{Hyp}
use Rattle.gb_goal.specs.declared.sequent.Sequent.{Sequent}
use Rattle.gb_goal.specs.Scope as scope
use Rattle.gb_meaning.specs.Names.{Name}
use Rattle.gb_meaning.specs.Declared.{Declarations, Declaration, declared, concrete_module}
use Rattle.gb_meaning.specs.Globs.{EachGlob, EachGlobIn}
use Rattle.gb_meaning.specs.Naming.{AnyName}
use Rattle.gb_typing.specs.Naming.{IsAmong, NoName, EachGlobOf, VariableNames, HeadNames, TermNames, TermsName}
use Rattle.gb_typing.proofs.KeptNames.{each-name}
use Rattle.gb_elab_laws.specs.Speaking.{StatementSpeaks, StatementsSpeak, BodySpeaks, ProceduresSpeak, DeclarationSpeaks, ScopeSpeaks, SubjectSpeaks, HeadSpeaks, BodiesSpeak, HypsSpeak, GoalSpeaks}
use Rattle.gb_elab_laws.specs.Fitting.{Allows, of_no_module}
use Rattle.gb_arguments.specs.Arguments.{names_of}
use mathlib.Core.Former.{Count}

module _ (P R : Name → Type 0) (f : (n : Name) → P n → R n) where
  mutual
    more_globs : (t : Ty) → EachGlob P t → EachGlob R t
    more_globs (ty.Tuple' n ts) k = more_globs_in ts k
    more_globs (ty.Opt' p x) k = more_globs_in x k
    more_globs (ty.Map' p x q y) k = (more_globs_in x k.0, more_globs_in y k.1)
    more_globs (ty.Distr' p x) k = more_globs_in x k
    more_globs (ty.Glob a) k = f a k
    more_globs _ k = tt

    more_globs_in : {n : Count} (ts : Row_of-Ty n) → EachGlobIn P ts → EachGlobIn R ts
    more_globs_in end_of-Ty k = tt
    more_globs_in (more_of-Ty t ts) k = (more_globs t k.0, more_globs_in ts k.1)

  more_globs_of : (xs : List TypedName) → EachGlobOf P xs → EachGlobOf R xs
  more_globs_of [] k = tt
  more_globs_of (x ∷ xs) k = (more_globs x.ty k.0, more_globs_of xs k.1)

  more_variable : (x : Var) → VariableNames P x → VariableNames R x
  more_variable (var.Glob a) k = f a k
  more_variable _ k = tt

  more_head : (h : Head) (t : Ty) → HeadNames P AnyName h t → HeadNames R AnyName h t
  more_head (head.Read (read.Program x r)) t k = (more_variable x k.0, more_globs t k.1)
  more_head (head.Builtin o) t k = more_globs t k
  more_head (head.All u) t k = more_globs u k
  more_head (head.Some u) t k = more_globs u k
  more_head (head.Glob m r) t k = each-name P R f m k
  more_head _ t k = tt

  mutual
    pub more_term : (t : Term) → TermNames P AnyName t → TermNames R AnyName t
    more_term (Term' p (more_of-Head h end_of-Head) n ts t) k = (more_head h t k.0, more_terms ts k.1)

    more_terms : {n : Count} (ts : Row_of-Term n) → TermsName P AnyName ts → TermsName R AnyName ts
    more_terms end_of-Term k = tt
    more_terms (more_of-Term t ts) k = (more_term t k.0, more_terms ts k.1)

  mutual
    more_statement : (i : Instr) → StatementSpeaks P i → StatementSpeaks R i
    more_statement (Assign xs e) k = more_term e k
    more_statement (Sample x d) k = more_term d k
    more_statement (Call' xs p n es) k = more_terms es k
    more_statement (If' e m a n b) k = (more_term e k.0, more_statements a k.1, more_statements b k.2)
    more_statement (While' e v n a) k = (more_term e k.0, more_term v k.1, more_statements a k.2)

    more_statements : {n : Count} (is : Row_of-Instr n) → StatementsSpeak P is → StatementsSpeak R is
    more_statements end_of-Instr k = tt
    more_statements (more_of-Instr i is) k = (more_statement i k.0, more_statements is k.1)

  more_body : (is : List Instr) → BodySpeaks P is → BodySpeaks R is
  more_body [] k = tt
  more_body (i ∷ is) k = (more_statement i k.0, more_body is k.1)

  more_procedures : (ps : List Proc) → ProceduresSpeak P ps → ProceduresSpeak R ps
  more_procedures [] k = tt
  more_procedures (p ∷ ps) k = ((more_body p.body.list k.0.0, more_term p.value k.0.1), more_procedures ps k.1)

  more_declaration : (d : Declaration) → DeclarationSpeaks P d → DeclarationSpeaks R d
  more_declaration (concrete_module m) k = more_procedures m.procs k
  more_declaration _ k = tt

  pub more_scope : (ds : Declarations) → ScopeSpeaks P ds → ScopeSpeaks R ds
  more_scope [] k = tt
  more_scope (d ∷ ds) k = (more_declaration d.1 k.0, more_scope ds k.1)

  more_subject : (s : Subject) → SubjectSpeaks P s → SubjectSpeaks R s
  more_subject (procedure r) k = tt
  more_subject (Body' n is) k = more_statements is k

  more_heads : (h : Head) → HeadSpeaks P h → HeadSpeaks R h
  more_heads (head.Hoare s) k = more_subject s k
  more_heads (head.Phoare s r) k = more_subject s k
  more_heads (head.Equiv s u) k = (more_subject s k.0, more_subject u k.1)
  more_heads _ k = tt

  more_bodies : (t : Term) → BodiesSpeak P t → BodiesSpeak R t
  more_bodies (Term' p (more_of-Head h end_of-Head) n ts t) k = more_heads h k

  more_hyps : (hs : List Hyp) → HypsSpeak P hs → HypsSpeak R hs
  more_hyps [] k = tt
  more_hyps (h ∷ hs) k = (more_term h.form k.0, more_hyps hs k.1)

  pub more_goal : (q : Sequent) → GoalSpeaks P q → GoalSpeaks R q
  more_goal q k = record {
    logical = more_globs_of q.logical k.logical;
    hyps = more_hyps q.hyps k.hyps;
    conclusion = more_term q.conclusion k.conclusion;
    bodies = more_bodies q.conclusion k.bodies;
  }

-- a term that may speak of the globals of none
pub none_named : (t : Term) → TermNames (Allows of_no_module) AnyName t → TermNames NoName AnyName t
none_named t k = more_term (Allows of_no_module) NoName (λ n e. false≢true e) t k

-- a goal that speaks of the globals of the modules that it binds, where it binds none
pub alone_speaks : (q : Sequent) → q.modules ≡ [] → GoalSpeaks (IsAmong (names_of q.modules)) q → GoalSpeaks NoName q
alone_speaks q none k = more_goal (IsAmong (names_of q.modules)) NoName (λ n e. false≢true (subst (λ bs. IsAmong (names_of bs) n) none e)) q k

pub parts : (P : Name → Type 0) (ds es : scope.Declarations) → ScopeSpeaks P (declared (ds ++ es)) ↔ ScopeSpeaks P (declared ds) × ScopeSpeaks P (declared es)
parts P [] es = (λ k. (tt, k), λ k. k.1)
parts P (d ∷ ds) es = let r = parts P ds es in (λ k. let x = r.0 k.1 in ((k.0, x.0), x.1), λ k. (k.0.0, r.1 (k.0.1, k.1)))
