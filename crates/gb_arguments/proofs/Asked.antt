-- Parameters that are left open are asked as oracles; and what else a module expression stands for are procedures.
use Rattle.std.proofs.Common.{◌≡◌, Bool, true, false, List, [], ◌∷◌, ◌++◌, map, Option, Some, None, option_map, if◌then◌else◌, bytes_eq, refl, ap, sym, ◌∙◌, subst}
use Rattle.std.proofs.lemmas.Option.{none-some}
use Rattle.std.proofs.lemmas.Slice.Eq.{bytes_eq-Decides}
use Rattle.gb_terms.specs.declared.decl.Module.{Module}
use Rattle.gb_terms.specs.declared.decl.Param.{Param}
use Rattle.gb_terms.specs.declared.decl.Proc.{Proc}
use Rattle.gb_terms.specs.declared.module.Mexp.{Mexp}
use Rattle.gb_terms.specs.declared.module.Mexp.TheVariants.{Name as named, Apply'}
use Rattle.gb_meaning.specs.Names.{Name}
use Rattle.gb_meaning.specs.Program.{Routine, Oracle}
use Rattle.gb_meaning.specs.Adversary.{type_named}
use Rattle.gb_meaning.specs.Declared.{Declarations, ModuleType, Signature, abstract_type, abbreviation, operator, abstract_operator, module_type, concrete_module, abstract_module, axiom_of, lemma, terminating}
use Rattle.gb_meaning.specs.Linking.{Oracles, oracle_of}
use Rattle.gb_meaning.specs.Modules.{Procedures, Functor, Applied, found, closed, module_at, no_module, with_module, with_procedure, with_procedures, module_read, modules_of}
use Rattle.gb_meaning.specs.Modules as linked
use Rattle.gb_meaning.specs.Settings.{Chosen}
use Rattle.gb_typing.specs.Alike.{SameParams}
use Rattle.gb_typing.specs.Modules.{ProcedureType, signature_types, signatures_of, without_lacks}
use Rattle.gb_arguments.specs.Opened.{Callee, linked, open_to, each_relinked, over_oracles, with_open_programs, open_modules, open_procedure, asked_in, asked_modules, routines_in}
use Rattle.gb_arguments.specs.Programs.{AreSame, IsLinkedBy}
use Rattle.gb_arguments.specs.Related.{Agree, IsAlike, AreAlike}

-- Each thing of a module is a procedure.

abbrev AreRoutines : Procedures Callee → Type 0
AreRoutines [] = Unit {0}
AreRoutines ((n, linked r) ∷ ps) = AreRoutines ps
AreRoutines ((n, open_to o) ∷ ps) = ⊥

abbrev GivesRoutines : Applied Callee → Type 0
GivesRoutines a = (fs : List (Functor Callee)) → AreRoutines (a fs)

routines_more : (ps : Procedures Callee) (n : Name) (r : Routine) → AreRoutines ps → AreRoutines (ps ++ (n, linked r) ∷ [])
routines_more [] n r w = tt
routines_more ((k, linked q) ∷ ps) n r w = routines_more ps n r w
routines_more ((k, open_to o) ∷ ps) n r w = absurd w

module _ (ms : linked.Modules Callee) (m : Module) where
  each_read : (a : Applied Callee) → GivesRoutines a → (ps : List Proc) → GivesRoutines (with_procedures open_procedure ms m a ps)
  each_read a w [] = w
  each_read a w (p ∷ ps) = each_read (with_procedure open_procedure ms m a p) (λ fs. routines_more (a fs) p.name _ (w fs)) ps

  pub module_routines : GivesRoutines (module_read open_procedure ms m)
  module_routines = each_read no_module (λ fs. tt) m.procs

chosen_of : (b : Bool) (a c : Applied Callee) → GivesRoutines a → GivesRoutines c → GivesRoutines (if b then a else c)
chosen_of true a c w k = w
chosen_of false a c w k = k

all_routines : (ds : Declarations) (ms : linked.Modules Callee) → ((n : Name) → GivesRoutines (ms n)) → (n : Name) → GivesRoutines (modules_of open_procedure ms ds n)
all_routines [] ms w n = w n
all_routines ((k, concrete_module m) ∷ ds) ms w n =
    all_routines ds (with_module ms k (module_read open_procedure ms m))
    (λ j. chosen_of (bytes_eq j k) (module_read open_procedure ms m) (ms j) (module_routines ms m) (w j)) n
all_routines ((k, abstract_type) ∷ ds) ms w n = all_routines ds ms w n
all_routines ((k, abbreviation a) ∷ ds) ms w n = all_routines ds ms w n
all_routines ((k, operator o) ∷ ds) ms w n = all_routines ds ms w n
all_routines ((k, abstract_operator o) ∷ ds) ms w n = all_routines ds ms w n
all_routines ((k, module_type t) ∷ ds) ms w n = all_routines ds ms w n
all_routines ((k, abstract_module b) ∷ ds) ms w n = all_routines ds ms w n
all_routines ((k, axiom_of q) ∷ ds) ms w n = all_routines ds ms w n
all_routines ((k, lemma q) ∷ ds) ms w n = all_routines ds ms w n
all_routines ((k, terminating f) ∷ ds) ms w n = all_routines ds ms w n

relinked_routines : (f : Oracle → Option Callee) (ps : Procedures Routine) → AreRoutines (each_relinked f ps)
relinked_routines f [] = tt
relinked_routines f (p ∷ ps) = relinked_routines f ps

program_routines : (ds : Declarations) (cs : List Chosen) (ms : linked.Modules Callee) → ((n : Name) → GivesRoutines (ms n)) → (n : Name) → GivesRoutines (with_open_programs ds cs ms n)
program_routines ds [] ms w n = w n
program_routines ds (c ∷ cs) ms w n =
    chosen_of (bytes_eq n c.bind.name) (over_oracles (type_named ds c.bind.ty) c.program) (with_open_programs ds cs ms n) (λ fs. relinked_routines (oracle_of (let t = type_named ds c.bind.ty in t.params) (map (λ m. m []) fs)) (let a = c.program in a.procedures)) (program_routines ds cs ms w n)

open_routines : (ds : Declarations) (cs : List Chosen) (n : Name) → GivesRoutines (open_modules ds cs n)
open_routines ds cs =
    program_routines ds cs (modules_of open_procedure (with_open_programs ds cs (λ n. no_module)) ds)
    (all_routines ds (with_open_programs ds cs (λ n. no_module)) (program_routines ds cs (λ n. no_module) (λ n fs. tt)))

-- what a module expression stands for are procedures
pub expression_routines : (ds : Declarations) (cs : List Chosen) (m : Mexp) (xs : List (Procedures Callee)) → AreRoutines (module_at (open_modules ds cs) m xs)
expression_routines ds cs (named n) xs = open_routines ds cs n (map closed xs)
expression_routines ds cs (Apply' n k args) xs = open_routines ds cs n _

abbrev pub as_callee : Option Routine → Option Callee
as_callee o = option_map linked o

pub found_routine : (ps : Procedures Callee) → AreRoutines ps → (n : Name) → found ps n ≡ as_callee (found (routines_in ps) n)
found_routine [] w n = refl
found_routine ((k, linked r) ∷ ps) w n = step (bytes_eq n k) (found_routine ps w n)
  where
    step : (b : Bool) → found ps n ≡ as_callee (found (routines_in ps) n) →
        (if b then Some (linked r) else found ps n) ≡ as_callee (if b then Some r else found (routines_in ps) n)
    step true e = refl
    step false e = e
found_routine ((k, open_to o) ∷ ps) w n = absurd w

-- Parameters that are left open.

-- no parameter has the name
abbrev pub ParamIsFresh : Name → List Param → Type 0
ParamIsFresh n [] = Unit {0}
ParamIsFresh n (p ∷ ps) = (bytes_eq p.name n ≡ false) × ParamIsFresh n ps

-- no two parameters have the same name
abbrev pub HaveOwnNames : List Param → Type 0
HaveOwnNames [] = Unit {0}
HaveOwnNames (p ∷ ps) = ParamIsFresh p.name ps × HaveOwnNames ps

-- an oracle of a parameter is asked of what is given for the parameter
oracle_found : (p : Param) (ps : List Param) (x : Procedures Routine) (xs : List (Procedures Routine)) (n : Name) →
    oracle_of (p ∷ ps) (x ∷ xs) (record { parameter = p.name; name = n }) ≡ found x n
oracle_found p ps x xs n = ap (λ (b : Bool). if b then found x n else oracle_of ps xs (record { parameter = p.name; name = n })) ((bytes_eq-Decides p.name p.name).1 refl)

oracle_later : (q : Name) (p : Param) (ps : List Param) (x : Procedures Routine) (xs : List (Procedures Routine)) (n : Name) → bytes_eq q p.name ≡ false →
    oracle_of (p ∷ ps) (x ∷ xs) (record { parameter = q; name = n }) ≡ oracle_of ps xs (record { parameter = q; name = n })
oracle_later q p ps x xs n e = ap (λ (b : Bool). if b then found x n else oracle_of ps xs (record { parameter = q; name = n })) e

-- what a parameter is asked for is an oracle of it
pub found_asked : (p : Name) (us : List Signature) (n : Name) (t : ProcedureType) → found (signature_types us) n ≡ Some t →
    found (asked_in p us) n ≡ Some (open_to (record { parameter = p; name = n }))
found_asked p [] n t e = absurd (none-some t e)
found_asked p (s ∷ us) n t e = step (bytes_eq n s.name) refl (found_asked p us n t) e
  where
    step : (b : Bool) → bytes_eq n s.name ≡ b →
        (found (signature_types us) n ≡ Some t → found (asked_in p us) n ≡ Some (open_to (record { parameter = p; name = n }))) →
        (if b then Some (record { params = s.params; result = s.result }) else found (signature_types us) n) ≡ Some t →
        (if b then Some (open_to (record { parameter = p; name = s.name })) else found (asked_in p us) n) ≡ Some (open_to (record { parameter = p; name = n }))
    step true k later e = ap (λ z. Some (open_to (record { parameter = p; name = z }))) (sym ((bytes_eq-Decides n s.name).0 k))
    step false k later e = later e

-- The procedures that a parameter is asked for are those that are given for it.
module _ (os : Oracles) (p : Name) (x : Procedures Routine) (given : (n : Name) → os (record { parameter = p; name = n }) ≡ found x n) (y : Procedures Routine) where
  one_asked : (n : Name) (t : ProcedureType) (a b : Option Routine) → found x n ≡ a → AreSame t a b → IsLinkedBy os t (Some (open_to (record { parameter = p; name = n }))) b
  one_asked n t (Some r) (Some s) e w = given n ∙ e ∙ ap Some w
  one_asked n t (Some r) None e w = absurd w
  one_asked n t None b e w = absurd w

  asked_agree : (ss : List Signature) → Agree AreSame (signature_types ss) x y → Agree (IsLinkedBy os) (signature_types ss) (asked_in p ss) y
  asked_agree ss w = each ss (λ n t e. one_asked n t (found x n) (found y n) refl (w n t e))
    where
      each : (us : List Signature) → ((n : Name) (t : ProcedureType) → found (signature_types us) n ≡ Some t →
          IsLinkedBy os t (Some (open_to (record { parameter = p; name = n }))) (found y n)) → Agree (IsLinkedBy os) (signature_types us) (asked_in p us) y
      each us h n t e = subst (λ z. IsLinkedBy os t z (found y n)) (sym (found_asked p us n t e)) (h n t e)

-- what answers for the oracles of parameters is what is given for these
abbrev Answers : Oracles → List Param → List (Procedures Routine) → Type 0
Answers os [] xs = Unit {0}
Answers os (p ∷ ps) [] = Unit {0}
Answers os (p ∷ ps) (x ∷ xs) = ((n : Name) → os (record { parameter = p.name; name = n }) ≡ found x n) × Answers os ps xs

answers_later : (q : Param) (y : Procedures Routine) (qs : List Param) (ys : List (Procedures Routine)) (ps : List Param) (xs : List (Procedures Routine)) → ParamIsFresh q.name ps →
    Answers (oracle_of qs ys) ps xs → Answers (oracle_of (q ∷ qs) (y ∷ ys)) ps xs
answers_later q y qs ys [] xs f w = tt
answers_later q y qs ys (p ∷ ps) [] f w = tt
answers_later q y qs ys (p ∷ ps) (x ∷ xs) f w = ((λ n. oracle_later p.name q qs y ys n f.0 ∙ w.0 n), answers_later q y qs ys ps xs f.1 w.1)

answers_own : (ps : List Param) (xs : List (Procedures Routine)) → HaveOwnNames ps → Answers (oracle_of ps xs) ps xs
answers_own [] xs h = tt
answers_own (p ∷ ps) [] h = tt
answers_own (p ∷ ps) (x ∷ xs) h = ((λ n. oracle_found p ps x xs n), answers_later p x ps xs ps xs h.0 (answers_own ps xs h.1))

-- what module types of parameters ask for
abbrev pub asked_of : (Name → Option ModuleType) → List Param → List (Procedures ProcedureType)
asked_of types ps = map (λ p. signature_types (signatures_of (types p.ty))) ps

module _ (ds : Declarations) (types : Name → Option ModuleType) (os : Oracles) where
  each_asked : (ps : List Param) (fs gs : List (Functor Routine)) → Answers os ps (map (λ m. m []) fs) → SameParams ds types ps →
      AreAlike AreSame (map without_lacks (asked_of types ps)) fs gs → AreAlike (IsLinkedBy os) (map without_lacks (asked_of types ps)) (map closed (asked_modules ds ps)) gs
  each_asked [] [] [] a same w = tt
  each_asked [] [] (g ∷ gs) a same w = absurd w
  each_asked [] (f ∷ fs) gs a same w = absurd w
  each_asked (p ∷ ps) [] gs a same w = absurd w
  each_asked (p ∷ ps) (f ∷ fs) [] a same w = absurd w
  each_asked (p ∷ ps) (f ∷ fs) (g ∷ gs) a same w = (one, each_asked ps fs gs a.1 same.1 w.1)
    where
      here : Agree (IsLinkedBy os) (signature_types (signatures_of (types p.ty))) (asked_in p.name (type_named ds p.ty).signatures) (g [])
      here =
          subst (λ z. Agree (IsLinkedBy os) (signature_types (signatures_of (types p.ty))) (asked_in p.name z) (g [])) same.0
          (asked_agree os p.name (f []) a.0 (g []) (signatures_of (types p.ty)) (w.0 [] [] tt))

      one : IsAlike (IsLinkedBy os) (without_lacks (signature_types (signatures_of (types p.ty)))) (closed (asked_in p.name (type_named ds p.ty).signatures)) g
      one [] [] k = here
      one [] (y ∷ ys) k = absurd k
      one (x ∷ xs) ys k = absurd k

-- Open parameters, linked with what is given for them, are what is given.
pub params_asked : (ds : Declarations) (types : Name → Option ModuleType) (ps : List Param) → SameParams ds types ps → HaveOwnNames ps → (fs gs : List (Functor Routine)) →
    AreAlike AreSame (map without_lacks (asked_of types ps)) fs gs →
    AreAlike (IsLinkedBy (oracle_of ps (map (λ m. m []) fs))) (map without_lacks (asked_of types ps)) (map closed (asked_modules ds ps)) gs
params_asked ds types ps same own fs gs w =
    each_asked ds types (oracle_of ps (map (λ m. m []) fs)) ps fs gs (answers_own ps (map (λ m. m []) fs) own) same w
