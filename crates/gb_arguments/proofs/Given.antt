-- Where the open programs of module expressions are chosen for binders over the first declarations, each reference means what it means in all
-- declarations where the expressions are put for the binders.
use Rattle.std.proofs.Common.{◌≡◌, ◌⊎◌, inl, inr, Bool, true, false, List, [], ◌∷◌, ◌++◌, map, Option, Some, None, if◌then◌else◌, bytes_eq, refl, ap, sym, ◌∙◌, subst}
use Rattle.std.proofs.Math.Path.{fun_ext}
use Rattle.std.proofs.lemmas.Option.{none-some, same_Some}
use Rattle.std.proofs.lemmas.Slice.Eq.{bytes_eq-Decides}
use Rattle.gb_terms.specs.declared.decl.Param.{Param}
use Rattle.gb_terms.specs.declared.module.Bind.{Bind}
use Rattle.gb_terms.specs.declared.module.Mexp.{Mexp}
use Rattle.gb_terms.specs.declared.module.Mexp.TheVariants.{Name as named}
use Rattle.gb_terms.specs.declared.module.ProcRef.{ProcRef}
use Rattle.gb_goal.specs.Instances.{put_in_reference}
use Rattle.gb_meaning.specs.Names.{Name}
use Rattle.gb_meaning.specs.Program.{Routine}
use Rattle.gb_meaning.specs.Program.Routine.{routine}
use Rattle.gb_meaning.specs.Setting.{Setting}
use Rattle.gb_meaning.specs.Adversary.{or_none, type_named, with_oracles}
use Rattle.gb_meaning.specs.Declared.{Declarations, ModuleType, abstract_type, abbreviation, operator, abstract_operator, module_type, concrete_module, abstract_module, axiom_of, lemma, terminating}
use Rattle.gb_meaning.specs.Holds.{declared_modules}
use Rattle.gb_meaning.specs.Linking.{calling, linked_procedure}
use Rattle.gb_meaning.specs.Modules.{modules_of, no_module, procedure_at}
use Rattle.gb_meaning.specs.Modules as linked
use Rattle.gb_meaning.specs.Settings.{Chosen, Interpretation, linked_modules, with_abstract_programs}
use Rattle.gb_meaning.proofs.Later.{declared_after, fresh_same, same_body}
use Rattle.gb_typing.specs.Alike.{applied_at}
use Rattle.gb_typing.specs.Chosen.{chosen_under, AreUnchosen, IsChosenOver}
use Rattle.gb_typing.specs.Context.{Context, procedure}
use Rattle.gb_typing.specs.Formulas.{IsKnown, with_module}
use Rattle.gb_typing.specs.Modules.{Interface, ProcedureType, fits, functor_type, interface_at, of_functor_type, signature_types, signatures_of}
use Rattle.gb_typing.specs.Programs.{locals_of}
use Rattle.gb_typing.specs.Scopes.{nothing, context_of, AreTypedAfter, IsTypedScope}
use Rattle.gb_typing.specs.Sequents.{AreBinders, with_modules}
use Rattle.gb_typing.proofs.Calls.{each_call}
use Rattle.gb_typing.proofs.Declaring.{KnowsDeclared, KnowsMore, declared_if, each_append, knows_each, knows_nothing, more_each, split}
use Rattle.gb_typing.proofs.Interfaces.{cons_nil}
use Rattle.gb_typing.proofs.Known.{fresh_later}
use Rattle.gb_typing.proofs.KeptPrograms.{linked_is}
use Rattle.gb_typing.proofs.Settings.{AreKnown, agree_at, chosen_program}
use Rattle.gb_typing.proofs.Settings as settings
use Rattle.gb_arguments.specs.Arguments.{AreFit, all_chosen_for, chosen_for, given_for}
use Rattle.gb_arguments.specs.Opened.{open_program}
use Rattle.gb_arguments.specs.Programs.{AreSame}
use Rattle.gb_arguments.specs.Reading.{KeepAlike}
use Rattle.gb_arguments.specs.Related.{AreAbstractAlike, StandAlike}
use Rattle.gb_arguments.proofs.Chosen.{are_same, same_narrow}
use Rattle.gb_arguments.proofs.Linked.{AnyContext, anywhere}
use Rattle.gb_arguments.proofs.OpenPrograms.{open_is_linked}
use Rattle.gb_arguments.proofs.Puts.{procedure_put}
use Rattle.gb_arguments.proofs.Scopes.{scope_alike}

-- linking in two settings gives the same where what is called is the same
linking_kept : (g h : Setting) → KeepAlike AreSame AnyContext (linked_procedure g) (linked_procedure h)
linking_kept g h c p k w f q calls =
    ap (λ b. routine p.params p.locals b p.value)
    (same_body (calling g f) (calling h q) p.body.list
    (each_call c (locals_of p) (λ r. f r ≡ q r) (λ r t e. are_same t (f r) (q r) (calls r t e)) p.body.list (let b = w.body in b.statements)))

-- without abstract modules nothing has to be the same
none_alike : (ds : Declarations) → declared_modules ds ≡ [] → (c : Context) (ks ls : linked.Modules Routine) → AreAbstractAlike AreSame c ds ks ls
none_alike [] e c ks ls = tt
none_alike ((n, abstract_module b) ∷ ds) e c ks ls = cons_nil b (declared_modules ds) e
none_alike ((n, abstract_type) ∷ ds) e c ks ls = none_alike ds e _ ks ls
none_alike ((n, abbreviation a) ∷ ds) e c ks ls = none_alike ds e _ ks ls
none_alike ((n, operator o) ∷ ds) e c ks ls = none_alike ds e _ ks ls
none_alike ((n, abstract_operator o) ∷ ds) e c ks ls = none_alike ds e _ ks ls
none_alike ((n, module_type t) ∷ ds) e c ks ls = none_alike ds e _ ks ls
none_alike ((n, concrete_module m) ∷ ds) e c ks ls = none_alike ds e _ ks ls
none_alike ((n, axiom_of q) ∷ ds) e c ks ls = none_alike ds e _ ks ls
none_alike ((n, lemma q) ∷ ds) e c ks ls = none_alike ds e _ ks ls
none_alike ((n, terminating f) ∷ ds) e c ks ls = none_alike ds e _ ks ls

module _ (before later : Declarations) (scoped : IsTypedScope (before ++ later)) (none : declared_modules before ≡ [])
    (i : Interpretation) (chosen : IsChosenOver (before ++ later) i) (g h : Setting) where
  abbrev all : Declarations
  all = before ++ later

  abbrev first : Context
  first = context_of before

  parts : AreTypedAfter nothing [] before × AreTypedAfter first before later
  parts = split before later [] nothing scoped

  knows : KnowsDeclared before first
  knows = knows_each before [] nothing parts.0 knows_nothing

  pub more : KnowsMore first (context_of all)
  more = subst (KnowsMore first) (sym (each_append before later nothing)) (more_each later before first parts.1 knows)

  -- all modules, as they are linked in the setting of all declarations
  abbrev whole : linked.Modules Routine
  whole = linked_modules all h i.programs

  abbrev base : linked.Modules Routine
  base = with_abstract_programs all i.programs (λ k. no_module)

  -- a module of the first declarations is in the end what it is there
  whole_is : (k : Name) (j : Interface) → first.modules.interfaces k ≡ Some j → whole k ≡ modules_of (linked_procedure h) base before k
  whole_is k j e =
      linked_is all h i.programs chosen.unchosen k
      ∙ (λ z. declared_after (linked_procedure h) base before later z k)
      ∙ fresh_same (linked_procedure h) (modules_of (linked_procedure h) base before) later k (fresh_later later before first parts.1 k (declared_if before first knows k j e))

  -- .. and in the setting of the first declarations, whatever is chosen there beside them
  pub first_same : (cs : List Chosen) → AreUnchosen cs before → (k : Name) (j : Interface) → first.modules.interfaces k ≡ Some j →
      StandAlike AreSame j (linked_modules before g cs k) (whole k)
  first_same cs u k j e =
      subst (λ z. StandAlike AreSame j z (whole k)) (sym (linked_is before g cs u k))
      (subst (StandAlike AreSame j (modules_of (linked_procedure g) (with_abstract_programs before cs (λ n. no_module)) before k)) (sym (whole_is k j e))
      (scope_alike AreSame same_narrow AnyContext (linked_procedure g) (linked_procedure h) (linking_kept g h) before parts.0 (anywhere before nothing)
      (with_abstract_programs before cs (λ n. no_module)) base (none_alike before none nothing _ _) k j e))

  -- Module types mean the same.

  no_types : settings.Agree before (nothing.modules).types
  no_types = record { declared = λ n t e. absurd (none-some t e); params = λ n t e. absurd (none-some t e) }

  pub types_agree : settings.Agree before first.modules.types
  types_agree = agree_at before i before [] nothing refl parts.0 no_types

  abbrev types : Name → Option ModuleType
  types = first.modules.types

  abbrev all_types : Name → Option ModuleType
  all_types = (context_of all).modules.types

  signatures_same : (ps : List Param) → AreKnown types ps →
      map (λ p. signature_types (signatures_of (types p.ty))) ps ≡ map (λ p. signature_types (signatures_of (all_types p.ty))) ps
  signatures_same [] k = refl
  signatures_same (p ∷ ps) k = λ z. one (types p.ty) refl k.0 z ∷ signatures_same ps k.1 z
    where
      one : (o : Option ModuleType) → types p.ty ≡ o → IsKnown o → signature_types (signatures_of (types p.ty)) ≡ signature_types (signatures_of (all_types p.ty))
      one None e k = absurd k
      one (Some t) e k = ap (λ z. signature_types (signatures_of z)) (e ∙ sym (let m = more.modules in m.types p.ty t e))

  type_same : (n : Name) (t : ModuleType) → types n ≡ Some t → functor_type types (Some t) ≡ functor_type all_types (Some t)
  type_same n t e = ap (λ z. record { lacks = z; procedures = signature_types t.signatures }) (signatures_same t.params (let a = types_agree in a.params n t e))

  -- What each name of a context stands for: a module of the first declarations, or one for which a program is chosen.
  abbrev pub IsAt : Context → List Chosen → (Name → Mexp) → Type 0
  IsAt c cs f = (n : Name) (j : Interface) → c.modules.interfaces n ≡ Some j →
      ((chosen_under cs n ≡ None) × (f n ≡ named n) × (first.modules.interfaces n ≡ Some j))
      ⊎ ((x : Chosen) × (chosen_under cs n ≡ Some x) × StandAlike AreSame j (with_oracles (type_named before x.bind.ty) x.program) (applied_at whole (f n)))

  pub nothing_chosen : IsAt first [] named
  nothing_chosen n j e = inl (refl, refl, e)

  -- what stands for a name, where a module is given for another one
  abbrev pub given_under : Bind → Mexp → (Name → Mexp) → Name → Mexp
  given_under b e f n = if bytes_eq n b.name then e else f n

  module _ (c : Context) (known : c.modules.types ≡ types) (b : Bind) (e : Mexp) where
    here : (t : ModuleType) → types b.ty ≡ Some t → fits (interface_at (context_of all).modules e) (functor_type all_types (Some t)) ≡ true →
        StandAlike AreSame (of_functor_type (functor_type c.modules.types (c.modules.types b.ty)))
        (with_oracles (type_named before b.ty) (open_program all i (type_named before b.ty) e)) (applied_at whole e)
    here t k fit =
        subst (λ z. StandAlike AreSame (of_functor_type (functor_type z (z b.ty))) (with_oracles (type_named before b.ty) (open_program all i (type_named before b.ty) e)) (applied_at whole e)) (sym known)
        (subst (λ o. StandAlike AreSame (of_functor_type (functor_type types o)) (with_oracles (type_named before b.ty) (open_program all i (type_named before b.ty) e)) (applied_at whole e)) (sym k)
        (subst (λ z. StandAlike AreSame (of_functor_type (functor_type types (Some t))) (with_oracles z (open_program all i z e)) (applied_at whole e))
        (sym (ap or_none (let a = types_agree in a.declared b.ty t k)))
        (subst (λ z. StandAlike AreSame (of_functor_type z) (with_oracles t (open_program all i t e)) (applied_at whole e)) (sym (type_same b.ty t k))
        (open_is_linked all scoped i chosen h e b.ty t (let m = more.modules in m.types b.ty t k) fit))))

    pub one_chosen : (cs : List Chosen) (f : Name → Mexp) → IsAt c cs f → (t : ModuleType) → types b.ty ≡ Some t →
        fits (interface_at (context_of all).modules e) (functor_type all_types (Some t)) ≡ true →
        IsAt (with_module c b) (chosen_for before all i b e ∷ cs) (given_under b e f)
    one_chosen cs f w t k fit n j = step (bytes_eq n b.name) (w n j)
      where
        step : (z : Bool) →
            (c.modules.interfaces n ≡ Some j → ((chosen_under cs n ≡ None) × (f n ≡ named n) × (first.modules.interfaces n ≡ Some j))
            ⊎ ((x : Chosen) × (chosen_under cs n ≡ Some x) × StandAlike AreSame j (with_oracles (type_named before x.bind.ty) x.program) (applied_at whole (f n)))) →
            (if z then Some (of_functor_type (functor_type c.modules.types (c.modules.types b.ty))) else c.modules.interfaces n) ≡ Some j →
            (((if z then Some (chosen_for before all i b e) else chosen_under cs n) ≡ None) × ((if z then e else f n) ≡ named n) × (first.modules.interfaces n ≡ Some j))
            ⊎ ((x : Chosen) × ((if z then Some (chosen_for before all i b e) else chosen_under cs n) ≡ Some x)
            × StandAlike AreSame j (with_oracles (type_named before x.bind.ty) x.program) (applied_at whole (if z then e else f n)))
        step true later q =
            inr (
              chosen_for before all i b e,
              refl,
              subst (λ z. StandAlike AreSame z (with_oracles (type_named before b.ty) (open_program all i (type_named before b.ty) e)) (applied_at whole e))
                  (same_Some (of_functor_type (functor_type c.modules.types (c.modules.types b.ty))) j q) (here t k fit),
            )
        step false later q = later q

  -- a program is the open program of a module expression
  abbrev pub IsPut : Chosen → Mexp → Type 0
  IsPut x e = x.program ≡ open_program all i (type_named before x.bind.ty) e

  -- each program that is chosen is that of what stands for the name
  abbrev pub ArePut : List Chosen → (Name → Mexp) → Type 0
  ArePut cs f = (n : Name) (x : Chosen) → chosen_under cs n ≡ Some x → IsPut x (f n)

  one_put : (b : Bind) (e : Mexp) (cs : List Chosen) (f : Name → Mexp) → ArePut cs f → ArePut (chosen_for before all i b e ∷ cs) (given_under b e f)
  one_put b e cs f w n x = step (bytes_eq n b.name) (w n x)
    where
      step : (z : Bool) → (chosen_under cs n ≡ Some x → IsPut x (f n)) → (if z then Some (chosen_for before all i b e) else chosen_under cs n) ≡ Some x → IsPut x (if z then e else f n)
      step true later q = subst (λ y. IsPut y e) (same_Some (chosen_for before all i b e) x q) refl
      step false later q = later q

  -- All binders, one after another.

  abbrev pub given_after : List Bind → List Mexp → (Name → Mexp) → Name → Mexp
  given_after [] es f = f
  given_after (b ∷ bs) [] f = f
  given_after (b ∷ bs) (e ∷ es) f = given_after bs es (given_under b e f)

  pub all_put : (bs : List Bind) (es : List Mexp) (cs : List Chosen) (f : Name → Mexp) → ArePut cs f →
      ArePut (all_chosen_for before all i cs bs es) (given_after bs es f)
  all_put [] es cs f a = a
  all_put (b ∷ bs) [] cs f a = a
  all_put (b ∷ bs) (e ∷ es) cs f a = all_put bs es (chosen_for before all i b e ∷ cs) (given_under b e f) (one_put b e cs f a)

  pub known_fit : (b : Bind) (e : Mexp) → IsKnown (types b.ty) → fits (interface_at (context_of all).modules e) (functor_type all_types (all_types b.ty)) ≡ true →
      (t : ModuleType) × (types b.ty ≡ Some t) × (fits (interface_at (context_of all).modules e) (functor_type all_types (Some t)) ≡ true)
  known_fit b e k w = step (types b.ty) refl k
    where
      step : (o : Option ModuleType) → types b.ty ≡ o → IsKnown o →
          (t : ModuleType) × (types b.ty ≡ Some t) × (fits (interface_at (context_of all).modules e) (functor_type all_types (Some t)) ≡ true)
      step None q k = absurd k
      step (Some t) q k =
          (t, q, subst (λ o. fits (interface_at (context_of all).modules e) (functor_type all_types o) ≡ true) (let m = more.modules in m.types b.ty t q) w)

  pub all_chosen : (bs : List Bind) (es : List Mexp) (c : Context) → c.modules.types ≡ types → AreBinders c bs → AreFit (context_of all) bs es →
      (cs : List Chosen) (f : Name → Mexp) → IsAt c cs f → IsAt (with_modules c bs) (all_chosen_for before all i cs bs es) (given_after bs es f)
  all_chosen [] [] c known w fit cs f a = a
  all_chosen [] (e ∷ es) c known w fit cs f a = absurd fit
  all_chosen (b ∷ bs) [] c known w fit cs f a = absurd fit
  all_chosen (b ∷ bs) (e ∷ es) c known w fit cs f a =
      let z = known_fit b e (subst (λ y. IsKnown (y b.ty)) known (let x = w.0 in x.known)) fit.0 in
      all_chosen bs es (with_module c b) known w.1 fit.1 (chosen_for before all i b e ∷ cs) (given_under b e f)
      (one_chosen c known b e cs f a z.0 z.1 z.2)

  -- What stands for a name: what is given for the first binder of the name, as no other one has it.

  abbrev stands_or : List Bind → List Mexp → Mexp → Name → Mexp
  stands_or [] es x n = x
  stands_or (b ∷ bs) [] x n = x
  stands_or (b ∷ bs) (e ∷ es) x n = if bytes_eq n b.name then e else stands_or bs es x n

  stands_is : (bs : List Bind) (es : List Mexp) (n : Name) → given_for bs es n ≡ stands_or bs es (named n) n
  stands_is [] es n = refl
  stands_is (b ∷ bs) [] n = refl
  stands_is (b ∷ bs) (e ∷ es) n = ap (λ z. if bytes_eq n b.name then e else z) (stands_is bs es n)

  -- a name that is known before binders is none of theirs
  unbound : (bs : List Bind) (es : List Mexp) (c : Context) → AreBinders c bs → (n : Name) (j : Interface) → c.modules.interfaces n ≡ Some j → (x : Mexp) → stands_or bs es x n ≡ x
  unbound [] es c w n j e x = refl
  unbound (b ∷ bs) [] c w n j e x = refl
  unbound (b ∷ bs) (u ∷ es) c w n j e x = step (bytes_eq n b.name) refl (unbound bs es (with_module c b) w.1 n)
    where
      step : (z : Bool) → bytes_eq n b.name ≡ z → ((k : Interface) → (with_module c b).modules.interfaces n ≡ Some k → (y : Mexp) → stands_or bs es y n ≡ y) →
          (if z then u else stands_or bs es x n) ≡ x
      step true h rest = absurd (none-some j (sym (let y = w.0 in y.free) ∙ ap c.modules.interfaces (sym ((bytes_eq-Decides n b.name).0 h)) ∙ e))
      step false h rest = rest j (ap (λ (z : Bool). if z then Some (of_functor_type (functor_type c.modules.types (c.modules.types b.ty))) else c.modules.interfaces n) h ∙ e) x

  given_is : (bs : List Bind) (es : List Mexp) (c : Context) → AreBinders c bs → (f : Name → Mexp) (n : Name) → given_after bs es f n ≡ stands_or bs es (f n) n
  given_is [] es c w f n = refl
  given_is (b ∷ bs) [] c w f n = refl
  given_is (b ∷ bs) (e ∷ es) c w f n = given_is bs es (with_module c b) w.1 (given_under b e f) n ∙ step (bytes_eq n b.name) refl
    where
      step : (z : Bool) → bytes_eq n b.name ≡ z → stands_or bs es (if z then e else f n) n ≡ (if z then e else stands_or bs es (f n) n)
      step true h =
          unbound bs es (with_module c b) w.1 n (of_functor_type (functor_type c.modules.types (c.modules.types b.ty)))
          (ap (λ (z : Bool). if z then Some (of_functor_type (functor_type c.modules.types (c.modules.types b.ty))) else c.modules.interfaces n) h) e
      step false h = refl

  pub given_same : (bs : List Bind) (es : List Mexp) (c : Context) → AreBinders c bs → (n : Name) → given_after bs es named n ≡ given_for bs es n
  given_same bs es c w n = given_is bs es c w named n ∙ sym (stands_is bs es n)

  module _ (c : Context) (cs : List Chosen) (f : Name → Mexp) (w : IsAt c cs f) (u : AreUnchosen cs before) where
    each_stands : (n : Name) (j : Interface) → c.modules.interfaces n ≡ Some j → StandAlike AreSame j (linked_modules before g cs n) (applied_at whole (f n))
    each_stands n j e = step (w n j e)
      where
        step : ((chosen_under cs n ≡ None) × (f n ≡ named n) × (first.modules.interfaces n ≡ Some j))
            ⊎ ((x : Chosen) × (chosen_under cs n ≡ Some x) × StandAlike AreSame j (with_oracles (type_named before x.bind.ty) x.program) (applied_at whole (f n))) →
            StandAlike AreSame j (linked_modules before g cs n) (applied_at whole (f n))
        step (inl z) = subst (λ m. StandAlike AreSame j (linked_modules before g cs n) (applied_at whole m)) (sym z.1) (first_same cs u n j z.2)
        step (inr z) =
            subst (λ (y : linked.Applied Routine). StandAlike AreSame j y (applied_at whole (f n)))
            (sym (chosen_program before cs (modules_of (linked_procedure g) (with_abstract_programs before cs (λ k. no_module)) before) n z.0 z.1)) z.2

    -- each reference that has a type means the same
    pub procedure_same : (r : ProcRef) (t : ProcedureType) → procedure c r ≡ Some t →
        AreSame t (procedure_at (linked_modules before g cs) r) (procedure_at whole (put_in_reference f r))
    procedure_same r t e = procedure_put AreSame same_narrow c.modules (linked_modules before g cs) whole f each_stands r t e

  -- each reference of a statement means the same where the open programs of modules are chosen for what it binds, and where the modules are put
  pub arguments_same : (bs : List Bind) → AreBinders first bs → (es : List Mexp) → AreFit (context_of all) bs es →
      AreUnchosen (all_chosen_for before all i [] bs es) before → (r : ProcRef) (t : ProcedureType) → procedure (with_modules first bs) r ≡ Some t →
      AreSame t (procedure_at (linked_modules before g (all_chosen_for before all i [] bs es)) r) (procedure_at whole (put_in_reference (given_for bs es) r))
  arguments_same bs w es fit u r t e =
      subst (λ f. AreSame t (procedure_at (linked_modules before g (all_chosen_for before all i [] bs es)) r) (procedure_at whole (put_in_reference f r)))
      (fun_ext (given_same bs es first w))
      (procedure_same (with_modules first bs) (all_chosen_for before all i [] bs es) (given_after bs es named)
      (all_chosen bs es first refl w fit [] named nothing_chosen) u r t e)

  -- A program that is chosen for a binder has the globals of what is given for the binder, in the setting of all declarations.
  pub program_put : (bs : List Bind) → AreBinders first bs → (es : List Mexp) (n : Name) (x : Chosen) →
      chosen_under (all_chosen_for before all i [] bs es) n ≡ Some x → IsPut x (given_for bs es n)
  program_put bs w es n x e = subst (IsPut x) (given_same bs es first w n) (all_put bs es [] named (λ n x e. absurd (none-some x e)) n x e)
