-- Programs that are chosen one after another within binders are programs for their module types in the setting of all of them.
use Rattle.std.proofs.Common.{◌≡◌, ℕ, Bool, true, false, ◌||◌, List, [], ◌∷◌, ◌++◌, Option, Some, None, if◌then◌else◌, bytes_eq, refl, ap, sym, ◌∙◌, subst}
use Rattle.std.proofs.lemmas.Bool.{false≢true}
use Rattle.std.proofs.lemmas.List.{append_assoc, append-nil}
use Rattle.std.proofs.lemmas.Slice.Eq.{bytes_eq-Decides}
use Rattle.gb_terms.specs.declared.decl.Module.{Module}
use Rattle.gb_terms.specs.declared.module.Bind.{Bind}
use Rattle.gb_terms.specs.declared.module.Mexp.{Mexp}
use Rattle.gb_terms.specs.declared.module.Mexp.TheVariants.{Name as named, Apply'}
use Rattle.gb_meaning.specs.Names.{Name}
use Rattle.gb_meaning.specs.Values.{World}
use Rattle.gb_meaning.specs.Declared.{Declarations, Declaration, abstract_type, abbreviation, operator, abstract_operator, module_type, concrete_module, abstract_module, axiom_of, lemma, terminating}
use Rattle.gb_meaning.specs.Adversary.{Adversary, type_named}
use Rattle.gb_meaning.specs.Naming.{AnyName, EachName}
use Rattle.gb_meaning.specs.Settings.{Chosen, Table, Interpretation, interpreted, with_program, types_of, bare, setting}
use Rattle.gb_meaning.specs.Holds.{EachProgram, declared_modules}
use Rattle.gb_meaning.specs.Within.{IsWithin}
use Rattle.gb_typing.specs.Naming.{NoName, OperatorsName}
use Rattle.gb_typing.proofs.KeptApart.{AreOther, apart_more, off_apart}
use Rattle.gb_typing.proofs.OperatorsAlike.{operators-agree}
use Rattle.gb_typing.proofs.PlainGlobals.{EachPlain}
use Rattle.gb_typing.proofs.TypedAlike.{SameBasis}
use Rattle.gb_typing.proofs.WithinAlike.{program-alike, full-alike}
use Rattle.gb_typing.specs.Modules.{Interface, functor_type, of_functor_type, with_interface}
use Rattle.gb_typing.specs.Context.{Context}
use Rattle.gb_typing.specs.Formulas.{AreModules, IsKnown, IsBinder, with_module}
use Rattle.gb_typing.specs.Sequents.{AreBinders}
use Rattle.gb_typing.specs.Scopes.{interface_with, procedure_types, with_declared, with_each, is_declared, AreTypedAfter}
use Rattle.gb_typing.specs.Chosen.{chosen_under, IsChosenIf, AreChosen, AreUnchosen}

-- no module expression names no module
none_named : (m : Mexp) (A : Type 0) → EachName NoName m → A
none_named (named m) A e = absurd e
none_named (Apply' m n args) A e = absurd e.0

module _ (ds : Declarations) (apart : OperatorsName NoName AnyName ds) (w : World) (plain : EachPlain w) (size : Name → ℕ) (table : Table) where
  abbrev with_chosen : List Chosen → Interpretation
  with_chosen cs = interpreted w size table cs

  -- the setting, whatever programs are chosen
  same_basis : (cs es : List Chosen) → SameBasis (setting ds (with_chosen cs)) (setting ds (with_chosen es))
  same_basis cs es =
      let a = operators-agree NoName AnyName table (bare (types_of ds (with_chosen cs)) table) (bare (types_of ds (with_chosen es)) table)
      (record { sizes = refl; footprints = λ m e. none_named m _ e; operators = λ n e. (refl, refl); procedures = λ p e. refl }) ds apart in
      record { sizes = a.sizes; footprints = λ m e. none_named m _ e; operators = a.operators; procedures = λ p e. none_named p.«module» _ e }

  moved_program : (cs : List Chosen) (c : Chosen) (b : Bind) → AreOther b.minus c.bind.name → (o p : Option Chosen) → p ≡ o → IsChosenIf ds cs (setting ds (with_chosen cs)) w b o →
      IsChosenIf ds (c ∷ cs) (setting ds (with_chosen (c ∷ cs))) w b p
  moved_program cs c b f None p e k = absurd k
  moved_program cs c b f (Some x) p e k =
      let g = setting ds (with_chosen cs) in
      let h = setting ds (with_chosen (c ∷ cs)) in
      subst (IsChosenIf ds (c ∷ cs) h w b) (sym e) (
        k.0,
        record {
          program = program-alike g h (same_basis cs (c ∷ cs)) w plain ds (type_named ds b.ty) x.program k.1.program;
          named = k.1.named;
          full = full-alike g h (same_basis cs (c ∷ cs)) w plain ds (type_named ds b.ty) x.program k.1.program k.1.full;
        },
        apart_more ds cs c x.program.footprint b.minus f k.2,
      )

  -- each of these binders has another name, and so has each module of its restriction
  abbrev Apart : List Bind → Name → Type 0
  Apart [] n = Unit {0}
  Apart (b ∷ bs) n = ((bytes_eq b.name n ≡ false) × AreOther b.minus n) × Apart bs n

  stay_chosen : (cs : List Chosen) (x : Chosen) (bs : List Bind) → Apart bs x.bind.name → AreChosen ds (with_chosen cs) bs → AreChosen ds (with_chosen (x ∷ cs)) bs
  stay_chosen cs x [] p k = tt
  stay_chosen cs x (b ∷ bs) p k =
      (moved_program cs x b p.0.1 (chosen_under cs b.name) (chosen_under (x ∷ cs) b.name) (ap (λ z. if z then Some x else chosen_under cs b.name) p.0.0) k.0, stay_chosen cs x bs p.1 k.1)

  both_chosen : (i : Interpretation) (bs cs : List Bind) → AreChosen ds i bs → AreChosen ds i cs → AreChosen ds i (bs ++ cs)
  both_chosen i [] cs k l = l
  both_chosen i (b ∷ bs) cs k l = (k.0, both_chosen i bs cs k.1 l)

  -- one more program
  more_chosen : (cs : List Chosen) (b : Bind) (a : Adversary) (bs : List Bind) → Apart bs b.name → AreChosen ds (with_chosen cs) bs → IsWithin ds (with_program (with_chosen cs) b a) b a →
      AreChosen ds (with_program (with_chosen cs) b a) (bs ++ b ∷ [])
  more_chosen cs b a bs p k v =
      both_chosen (with_program (with_chosen cs) b a) bs (b ∷ []) (stay_chosen cs (record { bind = b; program = a }) bs p k) (
        subst (IsChosenIf ds (record { bind = b; program = a } ∷ cs) (setting ds (with_program (with_chosen cs) b a)) w b)
            (sym (ap (λ z. if z then Some (record { bind = b; program = a }) else chosen_under cs b.name) ((bytes_eq-Decides b.name b.name).1 refl))) (
              refl,
              record { program = v.program; named = v.named; full = v.full },
              off_apart ds (with_program (with_chosen cs) b a) a.footprint (let y = v.program in y.known) b.minus v.apart,
            ),
        tt,
      )

  -- Names.

  known_other : (c : Context) (n k : Name) → IsKnown (c.modules.interfaces n) → c.modules.interfaces k ≡ None → bytes_eq n k ≡ false
  known_other c n k y e = step (bytes_eq n k) refl
    where
      step : (b : Bool) → bytes_eq n k ≡ b → b ≡ false
      step false h = refl
      step true h = absurd (subst IsKnown (ap c.modules.interfaces ((bytes_eq-Decides n k).0 h) ∙ e) y)

  all_other : (c : Context) (ms : List Name) (n : Name) → AreModules c.modules ms → c.modules.interfaces n ≡ None → AreOther ms n
  all_other c [] n k e = tt
  all_other c (m ∷ ms) n k e = (known_other c m n k.0 e, all_other c ms n k.1 e)

  abbrev AllKnown : Context → List Bind → Type 0
  AllKnown c [] = Unit {0}
  AllKnown c (b ∷ bs) = (IsKnown (c.modules.interfaces b.name) × AreModules c.modules b.minus) × AllKnown c bs

  all_apart : (c : Context) (bs : List Bind) (n : Name) → AllKnown c bs → c.modules.interfaces n ≡ None → Apart bs n
  all_apart c [] n k e = tt
  all_apart c (b ∷ bs) n k e = ((known_other c b.name n k.0.0 e, all_other c b.minus n k.0.1 e), all_apart c bs n k.1 e)

  known_if : (b : Bool) (i : Interface) (o : Option Interface) → IsKnown o → IsKnown (if b then Some i else o)
  known_if true i o k = tt
  known_if false i o k = k

  names_with : (c : Context) (k : Name) (i : Interface) (ms : List Name) → AreModules c.modules ms → AreModules (with_interface c.modules k (Some i)) ms
  names_with c k i [] w = tt
  names_with c k i (m ∷ ms) w = (known_if (bytes_eq m k) i (c.modules.interfaces m) w.0, names_with c k i ms w.1)

  stay_known : (c : Context) (b : Bind) (bs : List Bind) → AllKnown c bs → AllKnown (with_module c b) bs
  stay_known c b [] k = tt
  stay_known c b (d ∷ bs) k = ((known_if (bytes_eq d.name b.name) _ (c.modules.interfaces d.name) k.0.0, names_with c b.name _ d.minus k.0.1), stay_known c b bs k.1)

  both_known : (c : Context) (bs cs : List Bind) → AllKnown c bs → AllKnown c cs → AllKnown c (bs ++ cs)
  both_known c [] cs k l = l
  both_known c (b ∷ bs) cs k l = (k.0, both_known c bs cs k.1 l)

  last_known : (c : Context) (b : Bind) → AreModules c.modules b.minus → AllKnown (with_module c b) (b ∷ [])
  last_known c b m = ((subst IsKnown (sym (ap (λ z. if z then Some (of_functor_type (functor_type c.modules.types (c.modules.types b.ty))) else c.modules.interfaces b.name) ((bytes_eq-Decides b.name b.name).1 refl))) tt, names_with c b.name _ b.minus m), tt)

  -- the declared modules among these are in the context
  abbrev ModulesKnown : Context → Declarations → Type 0
  ModulesKnown c [] = Unit {0}
  ModulesKnown c ((n, concrete_module m) ∷ es) = IsKnown (c.modules.interfaces n) × ModulesKnown c es
  ModulesKnown c (e ∷ es) = ModulesKnown c es

  -- what is chosen under a free name leaves declared modules unchosen
  stay_unchosen : (c : Context) (cs : List Chosen) (x : Chosen) → c.modules.interfaces x.bind.name ≡ None → (es : Declarations) → ModulesKnown c es → AreUnchosen cs es → AreUnchosen (x ∷ cs) es
  stay_unchosen c cs x e [] k u = tt
  stay_unchosen c cs x e ((n, concrete_module m) ∷ es) k u =
      (ap (λ z. if z then Some x else chosen_under cs n) (known_other c n x.bind.name k.0 e) ∙ u.0, stay_unchosen c cs x e es k.1 u.1)
  stay_unchosen c cs x e ((n, abstract_type) ∷ es) k u = stay_unchosen c cs x e es k u
  stay_unchosen c cs x e ((n, abbreviation stood) ∷ es) k u = stay_unchosen c cs x e es k u
  stay_unchosen c cs x e ((n, operator o) ∷ es) k u = stay_unchosen c cs x e es k u
  stay_unchosen c cs x e ((n, abstract_operator o) ∷ es) k u = stay_unchosen c cs x e es k u
  stay_unchosen c cs x e ((n, module_type t) ∷ es) k u = stay_unchosen c cs x e es k u
  stay_unchosen c cs x e ((n, abstract_module b) ∷ es) k u = stay_unchosen c cs x e es k u
  stay_unchosen c cs x e ((n, axiom_of q) ∷ es) k u = stay_unchosen c cs x e es k u
  stay_unchosen c cs x e ((n, lemma q) ∷ es) k u = stay_unchosen c cs x e es k u
  stay_unchosen c cs x e ((n, terminating f) ∷ es) k u = stay_unchosen c cs x e es k u

  modules_stay : (c : Context) (b : Bind) (es : Declarations) → ModulesKnown c es → ModulesKnown (with_module c b) es
  modules_stay c b [] k = tt
  modules_stay c b ((n, concrete_module m) ∷ es) k = (known_if (bytes_eq n b.name) _ (c.modules.interfaces n) k.0, modules_stay c b es k.1)
  modules_stay c b ((n, abstract_type) ∷ es) k = modules_stay c b es k
  modules_stay c b ((n, abbreviation stood) ∷ es) k = modules_stay c b es k
  modules_stay c b ((n, operator o) ∷ es) k = modules_stay c b es k
  modules_stay c b ((n, abstract_operator o) ∷ es) k = modules_stay c b es k
  modules_stay c b ((n, module_type t) ∷ es) k = modules_stay c b es k
  modules_stay c b ((n, abstract_module d) ∷ es) k = modules_stay c b es k
  modules_stay c b ((n, axiom_of q) ∷ es) k = modules_stay c b es k
  modules_stay c b ((n, lemma q) ∷ es) k = modules_stay c b es k
  modules_stay c b ((n, terminating f) ∷ es) k = modules_stay c b es k

  -- the binders of a goal
  pub goal_programs : (bs : List Bind) (c : Context) → AreBinders c bs → (done : List Bind) → AllKnown c done → ModulesKnown c ds → (cs : List Chosen) → AreChosen ds (with_chosen cs) done → AreUnchosen cs ds →
      (Q : Interpretation → Type 0) → ((es : List Chosen) → AreChosen ds (with_chosen es) (done ++ bs) → AreUnchosen es ds → Q (with_chosen es)) → EachProgram ds bs (with_chosen cs) Q
  goal_programs [] c v done k m cs h u Q f = f cs (subst (AreChosen ds (with_chosen cs)) (sym (append-nil done)) h) u
  goal_programs (b ∷ bs) c v done k m cs h u Q f = λ a within.
      goal_programs bs (with_module c b) v.1 (done ++ b ∷ []) (both_known (with_module c b) done (b ∷ []) (stay_known c b done k) (last_known c b (let x = v.0 in x.minus))) (modules_stay c b ds m)
      (record { bind = b; program = a } ∷ cs) (more_chosen cs b a done (all_apart c done b.name k (let x = v.0 in x.free)) h within)
      (stay_unchosen c cs (record { bind = b; program = a }) (let x = v.0 in x.free) ds m u) Q
      (λ es y z. f es (subst (AreChosen ds (with_chosen es)) (append_assoc done (b ∷ []) bs) y) z)

  -- Declarations, one after another.

  unchosen_both : (cs : List Chosen) (xs ys : Declarations) → AreUnchosen cs xs → AreUnchosen cs ys → AreUnchosen cs (xs ++ ys)
  unchosen_both cs [] ys u k = k
  unchosen_both cs ((n, abstract_type) ∷ xs) ys u k = unchosen_both cs xs ys u k
  unchosen_both cs ((n, abbreviation stood) ∷ xs) ys u k = unchosen_both cs xs ys u k
  unchosen_both cs ((n, operator o) ∷ xs) ys u k = unchosen_both cs xs ys u k
  unchosen_both cs ((n, abstract_operator o) ∷ xs) ys u k = unchosen_both cs xs ys u k
  unchosen_both cs ((n, module_type t) ∷ xs) ys u k = unchosen_both cs xs ys u k
  unchosen_both cs ((n, concrete_module m) ∷ xs) ys u k = (u.0, unchosen_both cs xs ys u.1 k)
  unchosen_both cs ((n, abstract_module b) ∷ xs) ys u k = unchosen_both cs xs ys u k
  unchosen_both cs ((n, axiom_of q) ∷ xs) ys u k = unchosen_both cs xs ys u k
  unchosen_both cs ((n, lemma q) ∷ xs) ys u k = unchosen_both cs xs ys u k
  unchosen_both cs ((n, terminating f) ∷ xs) ys u k = unchosen_both cs xs ys u k

  modules_both : (c : Context) (xs ys : Declarations) → ModulesKnown c xs → ModulesKnown c ys → ModulesKnown c (xs ++ ys)
  modules_both c [] ys u k = k
  modules_both c ((n, abstract_type) ∷ xs) ys u k = modules_both c xs ys u k
  modules_both c ((n, abbreviation stood) ∷ xs) ys u k = modules_both c xs ys u k
  modules_both c ((n, operator o) ∷ xs) ys u k = modules_both c xs ys u k
  modules_both c ((n, abstract_operator o) ∷ xs) ys u k = modules_both c xs ys u k
  modules_both c ((n, module_type t) ∷ xs) ys u k = modules_both c xs ys u k
  modules_both c ((n, concrete_module m) ∷ xs) ys u k = (u.0, modules_both c xs ys u.1 k)
  modules_both c ((n, abstract_module b) ∷ xs) ys u k = modules_both c xs ys u k
  modules_both c ((n, axiom_of q) ∷ xs) ys u k = modules_both c xs ys u k
  modules_both c ((n, lemma q) ∷ xs) ys u k = modules_both c xs ys u k
  modules_both c ((n, terminating f) ∷ xs) ys u k = modules_both c xs ys u k

  known_with : (c : Context) (k : Name) (i : Interface) (bs : List Bind) → AllKnown c bs → AllKnown (record c { modules = with_interface c.modules k (Some i) }) bs
  known_with c k i [] w = tt
  known_with c k i (d ∷ bs) w = ((known_if (bytes_eq d.name k) i (c.modules.interfaces d.name) w.0.0, names_with c k i d.minus w.0.1), known_with c k i bs w.1)

  modules_with : (c : Context) (k : Name) (i : Interface) (es : Declarations) → ModulesKnown c es → ModulesKnown (record c { modules = with_interface c.modules k (Some i) }) es
  modules_with c k i [] w = tt
  modules_with c k i ((n, abstract_type) ∷ es) w = modules_with c k i es w
  modules_with c k i ((n, abbreviation stood) ∷ es) w = modules_with c k i es w
  modules_with c k i ((n, operator o) ∷ es) w = modules_with c k i es w
  modules_with c k i ((n, abstract_operator o) ∷ es) w = modules_with c k i es w
  modules_with c k i ((n, module_type t) ∷ es) w = modules_with c k i es w
  modules_with c k i ((n, concrete_module m) ∷ es) w = (known_if (bytes_eq n k) i (c.modules.interfaces n) w.0, modules_with c k i es w.1)
  modules_with c k i ((n, abstract_module b) ∷ es) w = modules_with c k i es w
  modules_with c k i ((n, axiom_of q) ∷ es) w = modules_with c k i es w
  modules_with c k i ((n, lemma q) ∷ es) w = modules_with c k i es w
  modules_with c k i ((n, terminating f) ∷ es) w = modules_with c k i es w

  -- a name that is free behind a declaration is free before it, and another one
  free_before : (before : Declarations) (d : Name × Declaration) (n : Name) → is_declared (before ++ d ∷ []) n ≡ false → is_declared before n ≡ false
  free_before [] d n e = refl
  free_before (x ∷ xs) d n e = step (bytes_eq n x.0) (free_before xs d n) e
    where
      step : (b : Bool) → (is_declared (xs ++ d ∷ []) n ≡ false → is_declared xs n ≡ false) → (b || is_declared (xs ++ d ∷ []) n) ≡ false → (b || is_declared xs n) ≡ false
      step true later e = e
      step false later e = later e

  other_last : (before : Declarations) (d : Name × Declaration) (n : Name) → is_declared (before ++ d ∷ []) n ≡ false → bytes_eq n d.0 ≡ false
  other_last [] d n e = step (bytes_eq n d.0) e
    where
      step : (b : Bool) → (b || false) ≡ false → b ≡ false
      step true e = e
      step false e = refl
  other_last (x ∷ xs) d n e = step (bytes_eq n x.0) (other_last xs d n) e
    where
      step : (b : Bool) → (is_declared (xs ++ d ∷ []) n ≡ false → bytes_eq n d.0 ≡ false) → (b || is_declared (xs ++ d ∷ []) n) ≡ false → bytes_eq n d.0 ≡ false
      step true later e = absurd (false≢true (sym e))
      step false later e = later e

  -- what is known when some declarations are gone through: chosen programs, for the binders among them
  pub record Gone (c : Context) (before : Declarations) (done : List Bind) (cs : List Chosen) : Type 0 where
    pub known : AllKnown c done
    pub modules : ModulesKnown c before
    pub free : (n : Name) → is_declared before n ≡ false → chosen_under cs n ≡ None
    pub chosen : AreChosen ds (with_chosen cs) done
    pub unchosen : AreUnchosen cs before

  quiet : (c : Context) (before : Declarations) (d : Name × Declaration) (done : List Bind) (cs : List Chosen) → Gone c before done cs → ModulesKnown c (d ∷ []) → AreUnchosen cs (d ∷ []) →
      Gone c (before ++ d ∷ []) done cs
  quiet c before d done cs x k u = record {
    known = x.known;
    modules = modules_both c before (d ∷ []) x.modules k;
    free = λ n e. x.free n (free_before before d n e);
    chosen = x.chosen;
    unchosen = unchosen_both cs before (d ∷ []) x.unchosen u;
  }

  new_module : (c : Context) (before : Declarations) (n : Name) (m : Module) (done : List Bind) (cs : List Chosen) → Gone c before done cs → is_declared before n ≡ false →
      Gone (with_declared c n (concrete_module m)) (before ++ (n, concrete_module m) ∷ []) done cs
  new_module c before n m done cs x e = record {
    known = known_with c n (interface_with c.modules.types m.params (procedure_types m.procs)) done x.known;
    modules = modules_both (with_declared c n (concrete_module m)) before ((n, concrete_module m) ∷ [])
        (modules_with c n (interface_with c.modules.types m.params (procedure_types m.procs)) before x.modules)
        (subst IsKnown (sym (ap (λ z. if z then Some (interface_with c.modules.types m.params (procedure_types m.procs)) else c.modules.interfaces n) ((bytes_eq-Decides n n).1 refl))) tt, tt);
    free = λ k h. x.free k (free_before before (n, concrete_module m) k h);
    chosen = x.chosen;
    unchosen = unchosen_both cs before ((n, concrete_module m) ∷ []) x.unchosen (x.free n e, tt);
  }

  new_binder : (c : Context) (before : Declarations) (n : Name) (b : Bind) (done : List Bind) (cs : List Chosen) → Gone c before done cs → b.name ≡ n → IsBinder c b → (a : Adversary) →
      IsWithin ds (with_program (with_chosen cs) b a) b a → Gone (with_module c b) (before ++ (n, abstract_module b) ∷ []) (done ++ b ∷ []) (record { bind = b; program = a } ∷ cs)
  new_binder c before n b done cs x e w a v = record {
    known = both_known (with_module c b) done (b ∷ []) (stay_known c b done x.known) (last_known c b w.minus);
    modules = modules_both (with_module c b) before ((n, abstract_module b) ∷ []) (modules_stay c b before x.modules) tt;
    free = λ k h. ap (λ z. if z then Some (record { bind = b; program = a }) else chosen_under cs k) (ap (bytes_eq k) e ∙ other_last before (n, abstract_module b) k h) ∙ x.free k (free_before before (n, abstract_module b) k h);
    chosen = more_chosen cs b a done (all_apart c done b.name x.known w.free) x.chosen v;
    unchosen = unchosen_both (record { bind = b; program = a } ∷ cs) before ((n, abstract_module b) ∷ [])
        (stay_unchosen c cs (record { bind = b; program = a }) w.free before x.modules x.unchosen) tt;
  }

  -- what has the same modules
  names_same : (c e : Context) → c.modules.interfaces ≡ e.modules.interfaces → (ms : List Name) → AreModules c.modules ms → AreModules e.modules ms
  names_same c e q [] k = tt
  names_same c e q (m ∷ ms) k = (subst (λ f. IsKnown (f m)) q k.0, names_same c e q ms k.1)

  known_same : (c e : Context) → c.modules.interfaces ≡ e.modules.interfaces → (bs : List Bind) → AllKnown c bs → AllKnown e bs
  known_same c e q [] k = tt
  known_same c e q (b ∷ bs) k = ((subst (λ f. IsKnown (f b.name)) q k.0.0, names_same c e q b.minus k.0.1), known_same c e q bs k.1)

  modules_same : (c e : Context) → c.modules.interfaces ≡ e.modules.interfaces → (es : Declarations) → ModulesKnown c es → ModulesKnown e es
  modules_same c e p [] w = tt
  modules_same c e p ((n, abstract_type) ∷ es) w = modules_same c e p es w
  modules_same c e p ((n, abbreviation stood) ∷ es) w = modules_same c e p es w
  modules_same c e p ((n, operator o) ∷ es) w = modules_same c e p es w
  modules_same c e p ((n, abstract_operator o) ∷ es) w = modules_same c e p es w
  modules_same c e p ((n, module_type t) ∷ es) w = modules_same c e p es w
  modules_same c e p ((n, concrete_module m) ∷ es) w = (subst (λ f. IsKnown (f n)) p w.0, modules_same c e p es w.1)
  modules_same c e p ((n, abstract_module b) ∷ es) w = modules_same c e p es w
  modules_same c e p ((n, axiom_of q) ∷ es) w = modules_same c e p es w
  modules_same c e p ((n, lemma q) ∷ es) w = modules_same c e p es w
  modules_same c e p ((n, terminating f) ∷ es) w = modules_same c e p es w

  same_interfaces : (c e : Context) → c.modules.interfaces ≡ e.modules.interfaces → (before : Declarations) (done : List Bind) (cs : List Chosen) → Gone c before done cs → Gone e before done cs
  same_interfaces c e q before done cs x = record { known = known_same c e q done x.known; modules = modules_same c e q before x.modules; free = x.free; chosen = x.chosen; unchosen = x.unchosen }

  -- the binders of open sections
  pub scope_programs : (rest before : Declarations) (c : Context) → AreTypedAfter c before rest → (done : List Bind) (cs : List Chosen) → Gone c before done cs →
      (Q : Interpretation → Type 0) → ((es : List Chosen) → Gone (with_each c rest) (before ++ rest) (done ++ declared_modules rest) es → Q (with_chosen es)) → EachProgram ds (declared_modules rest) (with_chosen cs) Q
  scope_programs [] before c w done cs x Q f =
      f cs (subst (λ z. Gone c z (done ++ []) cs) (sym (append-nil before)) (subst (λ z. Gone c before z cs) (sym (append-nil done)) x))
  scope_programs ((n, abstract_type) ∷ rest) before c w done cs x Q f =
      scope_programs rest (before ++ (n, abstract_type) ∷ []) (with_declared c n abstract_type) w.2 done cs (quiet c before (n, abstract_type) done cs x tt tt) Q
      (λ es y. f es (subst (λ z. Gone (with_each (with_declared c n abstract_type) rest) z (done ++ declared_modules rest) es) (append_assoc before ((n, abstract_type) ∷ []) rest) y))
  scope_programs ((n, abbreviation stood) ∷ rest) before c w done cs x Q f =
      scope_programs rest (before ++ (n, abbreviation stood) ∷ []) (with_declared c n (abbreviation stood)) w.2 done cs (quiet c before (n, abbreviation stood) done cs x tt tt) Q
      (λ es y. f es (subst (λ z. Gone (with_each (with_declared c n (abbreviation stood)) rest) z (done ++ declared_modules rest) es) (append_assoc before ((n, abbreviation stood) ∷ []) rest) y))
  scope_programs ((n, operator o) ∷ rest) before c w done cs x Q f =
      scope_programs rest (before ++ (n, operator o) ∷ []) (with_declared c n (operator o)) w.2 done cs (same_interfaces c (with_declared c n (operator o)) refl (before ++ (n, operator o) ∷ []) done cs (quiet c before (n, operator o) done cs x tt tt)) Q
      (λ es y. f es (subst (λ z. Gone (with_each (with_declared c n (operator o)) rest) z (done ++ declared_modules rest) es) (append_assoc before ((n, operator o) ∷ []) rest) y))
  scope_programs ((n, abstract_operator o) ∷ rest) before c w done cs x Q f =
      scope_programs rest (before ++ (n, abstract_operator o) ∷ []) (with_declared c n (abstract_operator o)) w.2 done cs (same_interfaces c (with_declared c n (abstract_operator o)) refl (before ++ (n, abstract_operator o) ∷ []) done cs (quiet c before (n, abstract_operator o) done cs x tt tt)) Q
      (λ es y. f es (subst (λ z. Gone (with_each (with_declared c n (abstract_operator o)) rest) z (done ++ declared_modules rest) es) (append_assoc before ((n, abstract_operator o) ∷ []) rest) y))
  scope_programs ((n, module_type t) ∷ rest) before c w done cs x Q f =
      scope_programs rest (before ++ (n, module_type t) ∷ []) (with_declared c n (module_type t)) w.2 done cs (same_interfaces c (with_declared c n (module_type t)) refl (before ++ (n, module_type t) ∷ []) done cs (quiet c before (n, module_type t) done cs x tt tt)) Q
      (λ es y. f es (subst (λ z. Gone (with_each (with_declared c n (module_type t)) rest) z (done ++ declared_modules rest) es) (append_assoc before ((n, module_type t) ∷ []) rest) y))
  scope_programs ((n, concrete_module m) ∷ rest) before c w done cs x Q f =
      scope_programs rest (before ++ (n, concrete_module m) ∷ []) (with_declared c n (concrete_module m)) w.2 done cs (new_module c before n m done cs x w.0) Q
      (λ es y. f es (subst (λ z. Gone (with_each (with_declared c n (concrete_module m)) rest) z (done ++ declared_modules rest) es) (append_assoc before ((n, concrete_module m) ∷ []) rest) y))
  scope_programs ((n, abstract_module b) ∷ rest) before c w done cs x Q f = λ a within.
      scope_programs rest (before ++ (n, abstract_module b) ∷ []) (with_declared c n (abstract_module b)) w.2 (done ++ b ∷ []) (record { bind = b; program = a } ∷ cs)
      (new_binder c before n b done cs x w.1.0 w.1.1 a within) Q
      (λ es y. f es (subst (λ z. Gone (with_each (with_declared c n (abstract_module b)) rest) z (done ++ b ∷ declared_modules rest) es) (append_assoc before ((n, abstract_module b) ∷ []) rest)
      (subst (λ z. Gone (with_each (with_declared c n (abstract_module b)) rest) ((before ++ (n, abstract_module b) ∷ []) ++ rest) z es) (append_assoc done (b ∷ []) (declared_modules rest)) y)))
  scope_programs ((n, axiom_of q) ∷ rest) before c w done cs x Q f =
      scope_programs rest (before ++ (n, axiom_of q) ∷ []) (with_declared c n (axiom_of q)) w.2 done cs (quiet c before (n, axiom_of q) done cs x tt tt) Q
      (λ es y. f es (subst (λ z. Gone (with_each (with_declared c n (axiom_of q)) rest) z (done ++ declared_modules rest) es) (append_assoc before ((n, axiom_of q) ∷ []) rest) y))
  scope_programs ((n, lemma q) ∷ rest) before c w done cs x Q f =
      scope_programs rest (before ++ (n, lemma q) ∷ []) (with_declared c n (lemma q)) w.2 done cs (quiet c before (n, lemma q) done cs x tt tt) Q
      (λ es y. f es (subst (λ z. Gone (with_each (with_declared c n (lemma q)) rest) z (done ++ declared_modules rest) es) (append_assoc before ((n, lemma q) ∷ []) rest) y))
  scope_programs ((n, terminating l) ∷ rest) before c w done cs x Q f =
      scope_programs rest (before ++ (n, terminating l) ∷ []) (with_declared c n (terminating l)) w.2 done cs (quiet c before (n, terminating l) done cs x tt tt) Q
      (λ es y. f es (subst (λ z. Gone (with_each (with_declared c n (terminating l)) rest) z (done ++ declared_modules rest) es) (append_assoc before ((n, terminating l) ∷ []) rest) y))
