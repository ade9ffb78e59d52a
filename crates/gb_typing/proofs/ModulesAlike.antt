-- Declared modules that name nothing that is added are read alike over modules that agree.
use Rattle.std.proofs.Common.{◌≡◌, inl, inr, if◌then◌else◌, List, [], ◌∷◌, ◌++◌, Option, bytes_eq, refl, ap}
use Rattle.std.proofs.Math.Path.{fun_ext}
use Rattle.std.proofs.lemmas.Bool.{false≢true}
use mathlib.Core.Former.{Count}
use Rattle.gb_core.specs.declared.var.Var.{Var}
use Rattle.gb_terms.specs.declared.decl.Module.{Module}
use Rattle.gb_terms.specs.declared.decl.Param.{Param}
use Rattle.gb_terms.specs.declared.decl.Proc.{Proc}
use Rattle.gb_terms.specs.declared.module.ProcRef.{ProcRef}
use Rattle.gb_terms.specs.declared.term.Instr.{Instr, Row_of-Instr, end_of-Instr, more_of-Instr}
use Rattle.gb_terms.specs.declared.term.Head.TheVariants.{Assign, Sample, Call', If', While'}
use Rattle.gb_meaning.specs.Names.{Name}
use Rattle.gb_meaning.specs.Program.Routine.{routine}
use Rattle.gb_meaning.specs.Setting.{Setting}
use Rattle.gb_meaning.specs.Declared.{Declarations, abstract_type, abbreviation, operator, abstract_operator, module_type, concrete_module, abstract_module, axiom_of, lemma, terminating}
use Rattle.gb_meaning.specs.Modules.{Applied, Functor, Modules, Reading, no_module, found, argument, procedure_at, with_module, with_params, with_procedures, module_read, modules_of}
use Rattle.gb_meaning.specs.Linking.{calling, linked_procedure}
use Rattle.gb_meaning.specs.Footprints.{of_callee, variables, variables_in, touched, touched_in, body_touched, globals_among, in_order, var_order, footprint_read}
use Rattle.gb_meaning.specs.Naming.{EachName, EachCall, EachCallIn, EachCallOf, IsFresh}
use Rattle.gb_meaning.proofs.Later.{same_module, same_body}
pub use Rattle.gb_typing.specs.Alike.{LooksAtCalls}
use Rattle.gb_typing.specs.Naming.{IsKept}
use Rattle.gb_typing.specs.Added.{param_names, CodesName, ModulesName}
use Rattle.gb_typing.proofs.KeptNames.{unless, kept-behind, each-name}

module _ (P Q : ProcRef → Type 0) (f : (r : ProcRef) → P r → Q r) where
  mutual
    call-map : (i : Instr) → EachCall P i → EachCall Q i
    call-map (Assign xs e) h = tt
    call-map (Sample x d) h = tt
    call-map (Call' xs p n es) h = f p h
    call-map (If' e m a n b) h = (calls-map a h.0, calls-map b h.1)
    call-map (While' e v n a) h = calls-map a h

    calls-map : {n : Count} (is : Row_of-Instr n) → EachCallIn P is → EachCallIn Q is
    calls-map end_of-Instr h = tt
    calls-map (more_of-Instr i is) h = (call-map i h.0, calls-map is h.1)

  pub body-map : (is : List Instr) → EachCallOf P is → EachCallOf Q is
  body-map [] h = tt
  body-map (i ∷ is) h = (call-map i h.0, body-map is h.1)

pub linking-looks : (g : Setting) → LooksAtCalls (linked_procedure g)
linking-looks g e f p h = ap (λ c. routine p.params p.locals c p.value) (same_body (calling g e) (calling g f) p.body.list h)

module _ (f g : ProcRef → Option (List Var)) where
  mutual
    touched-same : (i : Instr) → EachCall (λ r. f r ≡ g r) i → touched f i ≡ touched g i
    touched-same (Assign xs e) h = refl
    touched-same (Sample x d) h = refl
    touched-same (Call' xs p n es) h = λ i. xs ++ variables_in es ++ of_callee (h i)
    touched-same (If' e m a n b) h = λ i. variables e ++ row-same a h.0 i ++ row-same b h.1 i
    touched-same (While' e v n a) h = λ i. variables e ++ variables v ++ row-same a h i

    row-same : {n : Count} (is : Row_of-Instr n) → EachCallIn (λ r. f r ≡ g r) is → touched_in f is ≡ touched_in g is
    row-same end_of-Instr h = refl
    row-same (more_of-Instr x is) h = λ i. touched-same x h.0 i ++ row-same is h.1 i

  body-same : (is : List Instr) → EachCallOf (λ r. f r ≡ g r) is → body_touched f is ≡ body_touched g is
  body-same [] h = refl
  body-same (x ∷ is) h = λ i. touched-same x h.0 i ++ body-same is h.1 i

pub footprint-looks : LooksAtCalls footprint_read
footprint-looks f g p h = λ i. in_order var_order (globals_among (body-same f g p.body.list h i ++ variables p.value))

module _ {X : Type 0} (read : Reading X) (looks : LooksAtCalls read) (es : Declarations) (P : Name → Type 0) (sub : (n : Name) → IsFresh es n → P n) where
  module _ (ms ks : Modules X) (h : (n : Name) → P n → ms n ≡ ks n) where
    params-alike : (ps : List Param) (args : List (Functor X)) (n : Name) → IsKept es (param_names ps) n → with_params ms ps args n ≡ with_params ks ps args n
    params-alike [] args n (inl f) = h n (sub n f)
    params-alike [] args n (inr x) = absurd (false≢true x)
    params-alike (p ∷ ps) [] n k =
        unless (bytes_eq n p.name) no_module (with_params ms ps [] n) (with_params ks ps [] n)
        (λ b. params-alike ps [] n (kept-behind es p.name (param_names ps) n k b))
    params-alike (p ∷ ps) (a ∷ args) n k =
        unless (bytes_eq n p.name) (argument a) (with_params ms ps args n) (with_params ks ps args n)
        (λ b. params-alike ps args n (kept-behind es p.name (param_names ps) n k b))

  module _ (ms ks : Modules X) (h : (n : Name) → P n → ms n ≡ ks n) (m : Module) where
    earlier-alike : (d e : Applied X) → d ≡ e → (n : Name) → P n → with_module ms m.name d n ≡ with_module ks m.name e n
    earlier-alike d e q n p = λ i. if bytes_eq n m.name then q i else h n p i

    procedure-alike : (p : Proc) → EachCallOf (λ r. EachName (IsKept es (param_names m.params)) r.«module») p.body.list →
        (d e : Applied X) → d ≡ e → (args : List (Functor X)) →
        read (procedure_at (with_params (with_module ms m.name d) m.params args)) p ≡ read (procedure_at (with_params (with_module ks m.name e) m.params args)) p
    procedure-alike p c d e q args =
        let a : Modules X = with_params (with_module ms m.name d) m.params args in
        let b : Modules X = with_params (with_module ks m.name e) m.params args in
        looks (procedure_at a) (procedure_at b) p
        (body-map (λ r. EachName (IsKept es (param_names m.params)) r.«module») (λ r. procedure_at a r ≡ procedure_at b r)
        (λ r k i. found (same_module a b r.«module»
        (each-name (IsKept es (param_names m.params)) (λ n. a n ≡ b n)
        (params-alike (with_module ms m.name d) (with_module ks m.name e) (earlier-alike d e q) m.params args) r.«module» k) i []) r.name)
        p.body.list c)

    procedures-alike : (ps : List Proc) → CodesName (IsFresh es) m.params ps → (d e : Applied X) → d ≡ e → with_procedures read ms m d ps ≡ with_procedures read ks m e ps
    procedures-alike [] c d e q = q
    procedures-alike (p ∷ ps) c d e q =
        procedures-alike ps c.1 _ _ (fun_ext (λ args i. q i args ++ (p.name, procedure-alike p c.0.0 d e q args i) ∷ []))

    module-alike : CodesName (IsFresh es) m.params m.procs → module_read read ms m ≡ module_read read ks m
    module-alike c = procedures-alike m.procs c no_module no_module refl

  -- over modules that agree on names, declared modules do so too
  pub modules-alike : (ds : Declarations) → ModulesName (IsFresh es) ds → (ms ks : Modules X) → ((n : Name) → P n → ms n ≡ ks n) → (n : Name) → P n →
      modules_of read ms ds n ≡ modules_of read ks ds n
  modules-alike [] a ms ks h n p = h n p
  modules-alike ((k, concrete_module m) ∷ ds) a ms ks h n p =
      modules-alike ds a.1 (with_module ms k (module_read read ms m)) (with_module ks k (module_read read ks m))
      (λ x q i. if bytes_eq x k then module-alike ms ks h m a.0 i else h x q i) n p
  modules-alike ((k, abstract_type) ∷ ds) a ms ks h n p = modules-alike ds a ms ks h n p
  modules-alike ((k, abbreviation stood) ∷ ds) a ms ks h n p = modules-alike ds a ms ks h n p
  modules-alike ((k, operator o) ∷ ds) a ms ks h n p = modules-alike ds a ms ks h n p
  modules-alike ((k, abstract_operator o) ∷ ds) a ms ks h n p = modules-alike ds a ms ks h n p
  modules-alike ((k, module_type t) ∷ ds) a ms ks h n p = modules-alike ds a ms ks h n p
  modules-alike ((k, abstract_module b) ∷ ds) a ms ks h n p = modules-alike ds a ms ks h n p
  modules-alike ((k, axiom_of q) ∷ ds) a ms ks h n p = modules-alike ds a ms ks h n p
  modules-alike ((k, lemma q) ∷ ds) a ms ks h n p = modules-alike ds a ms ks h n p
  modules-alike ((k, terminating f) ∷ ds) a ms ks h n p = modules-alike ds a ms ks h n p
