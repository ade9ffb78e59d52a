-- The module types of a scope name oracles that have signatures.
use Rattle.std.proofs.Common.{◌≡◌, Bool, true, false, List, [], ◌∷◌, ◌++◌, map, Option, Some, None, if◌then◌else◌, bytes_eq, refl, ap, sym, ◌∙◌, subst}
use Rattle.std.proofs.lemmas.Option.{none-some}
use Rattle.std.proofs.lemmas.Slice.Eq.{bytes_eq-Decides}
use Rattle.gb_core.specs.declared.var.Var.{Var}
use Rattle.gb_core.specs.declared.var.Var.TheVariants as var
use Rattle.gb_terms.specs.declared.decl.Param.{Param}
use Rattle.gb_terms.specs.declared.module.Bind.{Bind}
use Rattle.gb_goal.specs.declared.module_type.Oracle.{Oracle as OracleName}
use Rattle.gb_meaning.specs.Names.{Name}
use Rattle.gb_meaning.specs.Program.{Oracle}
use Rattle.gb_meaning.specs.Adversary.{or_none, type_named, as_asked, oracle_signature, oracles_in, oracles_among, oracles_named, oracles_called, oracle_footprints, signature_footprints, abstract_footprint}
use Rattle.gb_meaning.specs.Declared.{Declarations, ModuleType, Signature, MayCall, every, those, signature_in, abstract_type, abbreviation, operator, abstract_operator, module_type, concrete_module, abstract_module, axiom_of, lemma, terminating}
use Rattle.gb_meaning.specs.Footprints.{of_callee, footprint_read}
use Rattle.gb_meaning.specs.Holds.{declared_modules}
use Rattle.gb_meaning.specs.Linking.{oracle_of}
use Rattle.gb_meaning.specs.Modules.{Procedures, found, no_module, modules_of}
use Rattle.gb_meaning.specs.Modules as linked
use Rattle.gb_meaning.specs.Settings.{Chosen, Interpretation, with_abstract_footprints, footprints, setting}
use Rattle.gb_typing.specs.Chosen.{chosen_under, IsChosenIf, AreChosen, IsChosenOver}
use Rattle.gb_typing.specs.Context.{Context}
use Rattle.gb_typing.specs.Formulas.{IsKnown, oracle_in, with_module as with_bound}
use Rattle.gb_typing.specs.Modules.{Modules, signature_types, signatures_of, functor_type, of_functor_type}
use Rattle.gb_typing.specs.Scopes.{nothing, with_param, AreParams, AreOracles, AreSignatures, IsModuleType, with_declared, with_each, context_of, AreTypedAfter, IsTypedScope}
use Rattle.gb_typing.specs.Sequents.{AreBinders, with_modules}
use Rattle.gb_typing.proofs.ModulesAlike.{footprint-looks}
use Rattle.gb_typing.proofs.Settings as settings
use Rattle.gb_typing.proofs.Settings.{type_or, are_known, same_params, next, with_next_type}
use Rattle.gb_typing.specs.Alike.{StandAlike, AreAbstractAlike, AreClosed, SameParams, AreSigned, NameSigned}
use Rattle.gb_typing.proofs.ProgramsAlike.{answers}
use Rattle.gb_typing.proofs.ReadingsAlike.{given_each, named_alike}
use Rattle.gb_typing.proofs.ScopesAlike.{scope_closed}
use Rattle.gb_typing.proofs.ClosedSettings.{touched_is, chosen_footprint}

-- Oracles that answer the same for all that have a signature leave the same footprints.

module _ (ds : Declarations) (t : ModuleType) (os qs : Oracle → Option (List Var)) (all : (o : Oracle) (s : Signature) → oracle_signature ds t.params o ≡ Some s → os o ≡ qs o) where
  one_same : (o : Oracle) → IsKnown (oracle_signature ds t.params o) → os o ≡ qs o
  one_same o k = step (oracle_signature ds t.params o) refl k
    where
      step : (s : Option Signature) → oracle_signature ds t.params o ≡ s → IsKnown s → os o ≡ qs o
      step None e k = absurd k
      step (Some s) e k = all o s e

  oracles_same : (us : List Oracle) → AreSigned ds t.params us → oracle_footprints os us ≡ oracle_footprints qs us
  oracles_same [] w = refl
  oracles_same (o ∷ us) w = λ i. of_callee (one_same o w.0 i) ++ oracles_same us w.1 i

  signatures_same : (a : Name) (ss : List Signature) → NameSigned ds t ss → signature_footprints ds a t os ss ≡ signature_footprints ds a t qs ss
  signatures_same a [] w = refl
  signatures_same a (s ∷ ss) w = λ i. (s.name, var.Glob a ∷ oracles_same (oracles_called ds t s) w.0 i) ∷ signatures_same a ss w.1 i

pub footprint_alike : (ds : Declarations) (types : Name → Option ModuleType) (t : ModuleType) → SameParams ds types t.params → NameSigned ds t t.signatures → (a : Name) →
    StandAlike (of_functor_type (functor_type types (Some t))) (abstract_footprint ds a t) (abstract_footprint ds a t)
footprint_alike ds types t same w a fs gs k n u e =
    ap (λ (z : Procedures (List Var)). found z n)
    (signatures_same ds t (oracle_of t.params (map (λ m. m []) fs)) (oracle_of t.params (map (λ m. m []) gs))
    (answers ds types t.params (map (λ m. m []) fs) (map (λ m. m []) gs) same (given_each (map (λ q. signature_types (signatures_of (types q.ty))) t.params) fs gs k))
    a t.signatures w)

-- The oracles of a typed module type have signatures.

signed_append : (ds : Declarations) (ps : List Param) (us vs : List Oracle) → AreSigned ds ps us → AreSigned ds ps vs → AreSigned ds ps (us ++ vs)
signed_append ds ps [] vs w k = k
signed_append ds ps (u ∷ us) vs w k = (w.0, signed_append ds ps us vs w.1 k)

known_if : {A : Type 0} (b : Bool) (x : A) (o : Option A) → IsKnown o → IsKnown (if b then Some x else o)
known_if true x o k = tt
known_if false x o k = k

-- parameters that stand behind others of other names
abbrev Behind : Modules → List Oracle → Type 0
Behind ms [] = Unit {0}
Behind ms (o ∷ os) = (ms.interfaces o.parameter ≡ None) × Behind ms os

behind_append : (ms : Modules) (us vs : List Oracle) → Behind ms us → Behind ms vs → Behind ms (us ++ vs)
behind_append ms [] vs w k = k
behind_append ms (u ∷ us) vs w k = (w.0, behind_append ms us vs w.1 k)

behind_in : (ms : Modules) (p : Name) → ms.interfaces p ≡ None → (ss : List Signature) → Behind ms (oracles_in p ss)
behind_in ms p e [] = tt
behind_in ms p e (s ∷ ss) = (e, behind_in ms p e ss)

other_param : (ms : Modules) (p : Param) (n : Name) → (with_param ms p).interfaces n ≡ None → (bytes_eq n p.name ≡ false) × (ms.interfaces n ≡ None)
other_param ms p n e = step (bytes_eq n p.name) refl e
  where
    step : (b : Bool) → bytes_eq n p.name ≡ b → (if b then Some (of_functor_type (functor_type ms.types (ms.types p.ty))) else ms.interfaces n) ≡ None → (bytes_eq n p.name ≡ false) × (ms.interfaces n ≡ None)
    step true h e = absurd (none-some (of_functor_type (functor_type ms.types (ms.types p.ty))) (sym e))
    step false h e = (h, e)

behind_less : (ms : Modules) (p : Param) (us : List Oracle) → Behind (with_param ms p) us → Behind ms us
behind_less ms p [] w = tt
behind_less ms p (u ∷ us) w = ((other_param ms p u.parameter w.0).1, behind_less ms p us w.1)

behind_all : (ds : Declarations) (ms : Modules) (ps : List Param) → AreParams ms ps → Behind ms (oracles_among ds ps)
behind_all ds ms [] w = tt
behind_all ds ms (p ∷ ps) w =
    behind_append ms (oracles_in p.name (type_named ds p.ty).signatures) (oracles_among ds ps) (behind_in ms p.name w.0.2 (type_named ds p.ty).signatures)
    (behind_less ms p (oracles_among ds ps) (behind_all ds (with_param ms p) ps w.1))

module _ (ds : Declarations) (p : Param) (ps : List Param) where
  -- those of the first parameter
  first_signed : (ss : List Signature) → ((n : Name) → IsKnown (signature_in ss n) → IsKnown (signature_in (type_named ds p.ty).signatures n)) → AreSigned ds (p ∷ ps) (oracles_in p.name ss)
  first_signed [] h = tt
  first_signed (s ∷ ss) h = (
    subst (λ b. IsKnown (if b then signature_in (type_named ds p.ty).signatures s.name else oracle_signature ds ps (record { parameter = p.name; name = s.name }))) (sym ((bytes_eq-Decides p.name p.name).1 refl))
        (h s.name (subst (λ b. IsKnown (if b then Some s else signature_in ss s.name)) (sym ((bytes_eq-Decides s.name s.name).1 refl)) tt)),
    first_signed ss (λ n k. h n (known_if (bytes_eq n s.name) s (signature_in ss n) k)),
  )

  -- those of the parameters behind, which have other names
  more_signed : (ms : Modules) (us : List Oracle) → Behind (with_param ms p) us → AreSigned ds ps us → AreSigned ds (p ∷ ps) us
  more_signed ms [] w k = tt
  more_signed ms (u ∷ us) w k =
      (subst (λ b. IsKnown (if b then signature_in (type_named ds p.ty).signatures u.name else oracle_signature ds ps u)) (sym (other_param ms p u.parameter w.0).0) k.0, more_signed ms us w.1 k.1)

all_signed : (ds : Declarations) (ms : Modules) (ps : List Param) → AreParams ms ps → AreSigned ds ps (oracles_among ds ps)
all_signed ds ms [] w = tt
all_signed ds ms (p ∷ ps) w =
    signed_append ds (p ∷ ps) (oracles_in p.name (type_named ds p.ty).signatures) (oracles_among ds ps) (first_signed ds p ps (type_named ds p.ty).signatures (λ n k. k))
    (more_signed ds p ps ms (oracles_among ds ps) (behind_all ds (with_param ms p) ps w.1) (all_signed ds (with_param ms p) ps w.1))

module _ (ds : Declarations) (ms : Modules) where
  oracle_is : (ps : List Param) → SameParams ds ms.types ps → (o : Oracle) → oracle_in ms ps o.parameter o.name ≡ oracle_signature ds ps o
  oracle_is [] k o = refl
  oracle_is (q ∷ qs) k o = λ i. if bytes_eq o.parameter q.name then signature_in (k.0 i) o.name else oracle_is qs k.1 o i

  those_signed : (ps : List Param) → SameParams ds ms.types ps → (os : List OracleName) → AreOracles ms ps (those os) → AreSigned ds ps (map as_asked os)
  those_signed ps k [] w = tt
  those_signed ps k (o ∷ os) w = (subst IsKnown (oracle_is ps k (as_asked o)) w.0, those_signed ps k os w.1)

  named_signed : (ps : List Param) → AreParams ms ps → SameParams ds ms.types ps → (m : MayCall) → AreOracles ms ps m → AreSigned ds ps (oracles_named ds ps m)
  named_signed ps w k every h = all_signed ds ms ps w
  named_signed ps w k (those os) h = those_signed ps k os h

  each_signed : (t : ModuleType) → AreParams ms t.params → SameParams ds ms.types t.params → (ss : List Signature) → AreSignatures ms t.params ss → NameSigned ds t ss
  each_signed t w k [] h = tt
  each_signed t w k (s ∷ ss) h = (named_signed t.params w k s.oracles h.0.2, each_signed t w k ss h.2)

-- Scopes.

module _ (all : Declarations) (i : Interpretation) where
  abbrev base : linked.Modules (List Var)
  base = with_abstract_footprints all i.programs (λ k. no_module)

  -- the module types of a context name oracles that have signatures
  abbrev Signed : Context → Type 0
  Signed c = (n : Name) (t : ModuleType) → c.modules.types n ≡ Some t → NameSigned all t t.signatures

  one_type : (c : Context) (n : Name) (t : ModuleType) → settings.Agree all c.modules.types → IsModuleType c t → Signed c → Signed (with_declared c n (module_type t))
  one_type c n t a w s k u = step (bytes_eq k n)
    where
      new : NameSigned all t t.signatures
      new = each_signed all c.modules t w.params (same_params all i c.modules.types a t.params (are_known c.modules t.params w.params)) t.signatures w.signatures

      step : (b : Bool) → (if b then Some t else c.modules.types k) ≡ Some u → NameSigned all u u.signatures
      step true e = subst (λ z. NameSigned all z z.signatures) (ap (type_or t) e) new
      step false e = s k u e

  module _ (types : Name → Option ModuleType) (a : settings.Agree all types) (s : (n : Name) (t : ModuleType) → types n ≡ Some t → NameSigned all t t.signatures) (b : Bind) where
    of_type : (t : ModuleType) → types b.ty ≡ Some t → (x : Chosen) → chosen_under i.programs b.name ≡ Some x → x.bind ≡ b → (ms : linked.Modules (List Var)) →
        StandAlike (of_functor_type (functor_type types (types b.ty))) (with_abstract_footprints all i.programs ms b.name) (with_abstract_footprints all i.programs ms b.name)
    of_type t e x c w ms =
        let same : type_named all b.ty ≡ t = ap or_none (a.declared b.ty t e) in
        subst (λ z. StandAlike (of_functor_type (functor_type types (types b.ty))) z z)
        (sym (chosen_footprint all i.programs ms b.name x c ∙ ap (λ (z : Bind). abstract_footprint all z.name (type_named all z.ty)) w ∙ ap (abstract_footprint all b.name) same))
        (subst (λ o. StandAlike (of_functor_type (functor_type types o)) (abstract_footprint all b.name t) (abstract_footprint all b.name t)) (sym e)
        (footprint_alike all types t (same_params all i types a t.params (a.params b.ty t e)) (s b.ty t e) b.name))

    binder_alike : (ms : linked.Modules (List Var)) → IsKnown (types b.ty) → IsChosenIf all i.programs (setting all i) i.world b (chosen_under i.programs b.name) →
        StandAlike (of_functor_type (functor_type types (types b.ty))) (with_abstract_footprints all i.programs ms b.name) (with_abstract_footprints all i.programs ms b.name)
    binder_alike ms k w = step (types b.ty) refl k (chosen_under i.programs b.name) refl w
      where
        step : (o : Option ModuleType) → types b.ty ≡ o → IsKnown o → (p : Option Chosen) → chosen_under i.programs b.name ≡ p → IsChosenIf all i.programs (setting all i) i.world b p →
            StandAlike (of_functor_type (functor_type types (types b.ty))) (with_abstract_footprints all i.programs ms b.name) (with_abstract_footprints all i.programs ms b.name)
        step None e k p c w = absurd k
        step (Some t) e k None c w = absurd w
        step (Some t) e k (Some x) c w = of_type t e x c w.0 ms

  -- the footprints of abstract modules are alike, and the module types name oracles that have signatures in the end
  footprints_alike : (ds before : Declarations) (c : Context) → before ++ ds ≡ all → AreTypedAfter c before ds → settings.Agree all c.modules.types → Signed c → AreChosen all i (declared_modules ds) →
      AreAbstractAlike c ds base base × Signed (with_each c ds)
  footprints_alike [] before c e w a s k = (tt, s)
  footprints_alike ((n, module_type t) ∷ ds) before c e w a s k =
      footprints_alike ds (before ++ (n, module_type t) ∷ []) (with_declared c n (module_type t)) (next all i before (n, module_type t) ds e) w.2
      (let x = w.1 in with_next_type all i before n t ds e c a w.0 x.params) (one_type c n t a w.1 s) k
  footprints_alike ((n, abstract_module b) ∷ ds) before c e w a s k =
      let r = footprints_alike ds (before ++ (n, abstract_module b) ∷ []) (with_declared c n (abstract_module b)) (next all i before (n, abstract_module b) ds e) w.2 a s k.1 in
      (((let x = w.1.1 in binder_alike c.modules.types a s b (λ k. no_module) x.known k.0), r.0), r.1)
  footprints_alike ((n, abstract_type) ∷ ds) before c e w a s k = footprints_alike ds (before ++ (n, abstract_type) ∷ []) (with_declared c n abstract_type) (next all i before (n, abstract_type) ds e) w.2 a s k
  footprints_alike ((n, abbreviation x) ∷ ds) before c e w a s k = footprints_alike ds (before ++ (n, abbreviation x) ∷ []) (with_declared c n (abbreviation x)) (next all i before (n, abbreviation x) ds e) w.2 a s k
  footprints_alike ((n, operator o) ∷ ds) before c e w a s k = footprints_alike ds (before ++ (n, operator o) ∷ []) (with_declared c n (operator o)) (next all i before (n, operator o) ds e) w.2 a s k
  footprints_alike ((n, abstract_operator o) ∷ ds) before c e w a s k = footprints_alike ds (before ++ (n, abstract_operator o) ∷ []) (with_declared c n (abstract_operator o)) (next all i before (n, abstract_operator o) ds e) w.2 a s k
  footprints_alike ((n, concrete_module m) ∷ ds) before c e w a s k = footprints_alike ds (before ++ (n, concrete_module m) ∷ []) (with_declared c n (concrete_module m)) (next all i before (n, concrete_module m) ds e) w.2 a s k
  footprints_alike ((n, axiom_of q) ∷ ds) before c e w a s k = footprints_alike ds (before ++ (n, axiom_of q) ∷ []) (with_declared c n (axiom_of q)) (next all i before (n, axiom_of q) ds e) w.2 a s k
  footprints_alike ((n, lemma q) ∷ ds) before c e w a s k = footprints_alike ds (before ++ (n, lemma q) ∷ []) (with_declared c n (lemma q)) (next all i before (n, lemma q) ds e) w.2 a s k
  footprints_alike ((n, terminating f) ∷ ds) before c e w a s k = footprints_alike ds (before ++ (n, terminating f) ∷ []) (with_declared c n (terminating f)) (next all i before (n, terminating f) ds e) w.2 a s k

  module _ (scoped : IsTypedScope all) (chosen : IsChosenOver all i) where
    none_agree : settings.Agree all (nothing.modules).types
    none_agree = record { declared = λ n t e. absurd (none-some t e); params = λ n t e. absurd (none-some t e) }

    pub ends : AreAbstractAlike nothing all base base × Signed (context_of all)
    ends = footprints_alike all [] nothing refl scoped none_agree (λ n t e. absurd (none-some t e)) chosen.chosen

    -- abstract modules touch the same for arguments that are alike
    pub touched_alike : AreAbstractAlike nothing all base base
    touched_alike = ends.0

    pub touched_closed : AreClosed (context_of all).modules (footprints all i.programs)
    touched_closed = scope_closed footprint_read footprint-looks all scoped base touched_alike (footprints all i.programs) (λ k j e. touched_is all i.programs chosen.unchosen k)

    binders_closed : (bs : List Bind) (c : Context) → settings.Agree all c.modules.types → Signed c → AreClosed c.modules (footprints all i.programs) → AreBinders c bs → AreChosen all i bs →
        AreClosed (with_modules c bs).modules (footprints all i.programs)
    binders_closed [] c a s h w k = h
    binders_closed (b ∷ bs) c a s h w k =
        binders_closed bs (with_bound c b) a s
        (named_alike c.modules (footprints all i.programs) (footprints all i.programs) h b.name (of_functor_type (functor_type c.modules.types (c.modules.types b.ty)))
        (let y = w.0 in binder_alike c.modules.types a s b (modules_of footprint_read base all) y.known k.0)) w.1 k.1

    pub goal_touched_closed : (bs : List Bind) → AreBinders (context_of all) bs → AreChosen all i bs → AreClosed (with_modules (context_of all) bs).modules (footprints all i.programs)
    goal_touched_closed bs w k = binders_closed bs (context_of all) (settings.agree_at all i all [] nothing refl scoped none_agree) ends.1 touched_closed w k
