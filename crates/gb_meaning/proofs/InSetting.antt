-- The procedures of a declared module without parameters, in a setting.
use Rattle.std.proofs.Common.{◌≡◌, inl, inr, Bool, false, if◌then◌else◌, List, [], ◌∷◌, ◌++◌, Option, Some, bytes_eq, refl, sym, ap, ◌∙◌}
use mathlib.Core.Former.{Count}
use Rattle.std.proofs.lemmas.Slice.Eq.{bytes_eq-Decides}
use Rattle.gb_terms.specs.declared.decl.Proc.{Proc}
use Rattle.gb_terms.specs.declared.decl.Module.{Module}
use Rattle.gb_terms.specs.declared.module.Mexp.{Mexp, Row_of-Mexp, end_of-Mexp, more_of-Mexp}
use Rattle.gb_terms.specs.declared.module.Mexp.TheVariants.{Name as named, Apply'}
use Rattle.gb_terms.specs.declared.module.ProcRef.{ProcRef}
use Rattle.gb_terms.specs.declared.term.Instr.{Instr, Row_of-Instr, end_of-Instr, more_of-Instr}
use Rattle.gb_terms.specs.declared.term.Head.TheVariants.{Assign, Sample, Call', If', While'}
use Rattle.gb_meaning.specs.Names.{Name}
use Rattle.gb_meaning.specs.Program.{Routine}
use Rattle.gb_meaning.specs.Program.Routine.{routine}
use Rattle.gb_meaning.specs.Setting.{Setting}
use Rattle.gb_meaning.specs.Commands.{statements}
use Rattle.gb_meaning.specs.Declared.{Declarations, concrete_module}
use Rattle.gb_meaning.specs.Modules.{Applied, Modules, found, module_at, procedure_at, no_module, with_module, with_params, with_procedures, module_read, modules_of}
use Rattle.gb_meaning.specs.Linking.{calling, linked_procedure}
use Rattle.gb_meaning.specs.Settings.{Chosen, Interpretation, types_of, bare, with_operators, with_abstract_programs, linked_modules, setting}
use Rattle.gb_meaning.specs.Naming.{EachName, EachNameIn, EachCallIn, EachCallOf, IsFresh, IsFreshAmong, IsUnchosen, IsBefore, IsEarlier}
use Rattle.gb_meaning.proofs.Later.{same_module, declared_after, fresh_same, same_body}
use Rattle.gb_meaning.proofs.Procedures.{in_module, in_parts, stays, known}

mutual
  name_map : (P Q : Name → Type 0) → ((n : Name) → P n → Q n) → (m : Mexp) → EachName P m → EachName Q m
  name_map P Q f (named m) h = f m h
  name_map P Q f (Apply' m n args) h = (f m h.0, name_map_in P Q f args h.1)

  name_map_in : {n : Count} (P Q : Name → Type 0) → ((n : Name) → P n → Q n) → (r : Row_of-Mexp n) → EachNameIn P r → EachNameIn Q r
  name_map_in P Q f end_of-Mexp h = tt
  name_map_in P Q f (more_of-Mexp m r) h = (name_map P Q f m h.0, name_map_in P Q f r h.1)

call_map : {n : Count} (P Q : ProcRef → Type 0) → ((p : ProcRef) → P p → Q p) → (r : Row_of-Instr n) → EachCallIn P r → EachCallIn Q r
call_map P Q f end_of-Instr h = tt
call_map P Q f (more_of-Instr (Assign xs e) r) h = (tt, call_map P Q f r h.1)
call_map P Q f (more_of-Instr (Sample x d) r) h = (tt, call_map P Q f r h.1)
call_map P Q f (more_of-Instr (Call' xs p n es) r) h = (f p h.0, call_map P Q f r h.1)
call_map P Q f (more_of-Instr (If' e m a n b) r) h = ((call_map P Q f a h.0.0, call_map P Q f b h.0.1), call_map P Q f r h.1)
call_map P Q f (more_of-Instr (While' e v n a) r) h = (call_map P Q f a h.0, call_map P Q f r h.1)

calls_map : (P Q : ProcRef → Type 0) → ((p : ProcRef) → P p → Q p) → (is : List Instr) → EachCallOf P is → EachCallOf Q is
calls_map P Q f [] h = tt
calls_map P Q f (i ∷ is) h = ((call_map P Q f (more_of-Instr i end_of-Instr) (h.0, tt)).0, calls_map P Q f is h.1)

other : (ms : Modules Routine) (n k : Name) (m : Applied Routine) → bytes_eq k n ≡ false → with_module ms n m k ≡ ms k
other ms n k m e = ap (λ (b : Bool). if b then m else ms k) e

itself : (ms : Modules Routine) (n : Name) (m : Applied Routine) → with_module ms n m n ≡ m
itself ms n m = ap (λ (b : Bool). if b then m else ms n) ((bytes_eq-Decides n n).1 refl)

unchosen_same : (ds : Declarations) (cs : List Chosen) (ms : Modules Routine) (k : Name) → IsUnchosen cs k → with_abstract_programs ds cs ms k ≡ ms k
unchosen_same ds [] ms k h = refl
unchosen_same ds (c ∷ cs) ms k h = other (with_abstract_programs ds cs ms) c.bind.name k _ h.0 ∙ unchosen_same ds cs ms k h.1

-- the declarations, with a module between others
abbrev between : Declarations → Module → Declarations → Declarations
between before m after = before ++ (m.name, concrete_module m) ∷ after

module _ (g : Setting) (cs : List Chosen) (before after : Declarations) (m : Module) (plain : m.params ≡ []) (ps qs : List Proc) (p : Proc)
    (place : m.procs ≡ ps ++ p ∷ qs) (fresh : IsFreshAmong ps p.name) (last : IsFresh after m.name) (free : IsUnchosen cs m.name) where
  abbrev base : Modules Routine
  base = with_abstract_programs (between before m after) cs (λ k. no_module)

  abbrev env : Modules Routine
  env = modules_of (linked_procedure g) base before

  abbrev earlier : Applied Routine
  earlier = with_procedures (linked_procedure g) env m no_module ps

  abbrev callee : ProcRef → Option Routine
  callee = procedure_at (with_params (with_module env m.name earlier) m.params [])

  abbrev all : Modules Routine
  all = linked_modules (between before m after) g cs

  all-here : all m.name ≡ module_read (linked_procedure g) env m
  all-here =
      unchosen_same (between before m after) cs _ m.name free
      ∙ (λ i. declared_after (linked_procedure g) base before ((m.name, concrete_module m) ∷ after) i m.name)
      ∙ fresh_same (linked_procedure g) (with_module env m.name (module_read (linked_procedure g) env m)) after m.name last
      ∙ itself env m.name (module_read (linked_procedure g) env m)

  all-other : (k : Name) → IsBefore after cs m.name k → all k ≡ env k
  all-other k b =
      unchosen_same (between before m after) cs _ k b.unchosen
      ∙ (λ i. declared_after (linked_procedure g) base before ((m.name, concrete_module m) ∷ after) i k)
      ∙ fresh_same (linked_procedure g) (with_module env m.name (module_read (linked_procedure g) env m)) after k b.fresh
      ∙ other env m.name k (module_read (linked_procedure g) env m) b.other

  all-procedures : (k : Name) (x : Routine) → found (earlier []) k ≡ Some x → found (all m.name []) k ≡ Some x
  all-procedures k x h =
      ap (λ (f : Applied Routine). found (f []) k) all-here
      ∙ ap (λ z. found (with_procedures (linked_procedure g) env m no_module z []) k) place
      ∙ ap (λ (f : Applied Routine). found (f []) k) (in_parts (linked_procedure g) env m no_module ps (p ∷ qs))
      ∙ stays (linked_procedure g) env m earlier (p ∷ qs) [] k x h

  callee-same : (r : ProcRef) → IsEarlier after cs m.name ps r → callee r ≡ procedure_at all r
  callee-same r (inl h) =
      (λ i. procedure_at (with_params (with_module env m.name earlier) (plain i) []) r)
      ∙ (λ i. found (same_module (with_module env m.name earlier) all r.«module»
      (name_map (IsBefore after cs m.name) (λ k. with_module env m.name earlier k ≡ all k)
      (λ k b. other env m.name k earlier b.other ∙ sym (all-other k b)) r.«module» h) i []) r.name)
  callee-same r (inr h) =
      let x : (x : Routine) × (found (earlier []) r.name ≡ Some x) = known (linked_procedure g) env m no_module ps [] r.name refl h.1 in
      (λ i. procedure_at (with_params (with_module env m.name earlier) (plain i) []) r)
      ∙ ap (λ (e : Mexp). found (module_at (with_module env m.name earlier) e []) r.name) h.0
      ∙ ap (λ (f : Applied Routine). found (f []) r.name) (itself env m.name earlier)
      ∙ x.1
      ∙ sym (all-procedures r.name x.0 x.1)
      ∙ sym (ap (λ (e : Mexp). found (module_at all e []) r.name) h.0)

  pub linked_body : (s : Setting) → s.procedure ≡ procedure_at all → EachCallOf (IsEarlier after cs m.name ps) p.body.list →
      s.procedure (record { «module» = named m.name; name = p.name }) ≡ Some (routine p.params p.locals (statements s p.body.list) p.value)
  linked_body s e h =
      (λ i. e i (record { «module» = named m.name; name = p.name }))
      ∙ ap (λ (f : Applied Routine). found (f []) p.name) all-here
      ∙ in_module (linked_procedure g) env m ps qs p place fresh []
      ∙ ap (λ c. Some (routine p.params p.locals c p.value))
      (same_body (calling g callee) s p.body.list
      (calls_map (IsEarlier after cs m.name ps) (λ r. callee r ≡ s.procedure r) (λ r k. callee-same r k ∙ sym (λ i. e i r)) p.body.list h))

pub in_setting : (before after : Declarations) (m : Module) (ps qs : List Proc) (p : Proc) (i : Interpretation) →
    m.params ≡ [] → m.procs ≡ ps ++ p ∷ qs → IsFreshAmong ps p.name → IsFresh after m.name → IsUnchosen i.programs m.name →
    EachCallOf (IsEarlier after i.programs m.name ps) p.body.list →
    (setting (before ++ (m.name, concrete_module m) ∷ after) i).procedure (record { «module» = named m.name; name = p.name })
    ≡ Some (routine p.params p.locals (statements (setting (before ++ (m.name, concrete_module m) ∷ after) i) p.body.list) p.value)
in_setting before after m ps qs p i plain place fresh last free calls =
    linked_body (with_operators i.table (bare (types_of (between before m after) i) i.table) (between before m after)) i.programs before after m plain ps qs p place fresh last free
    (setting (between before m after) i) refl calls
