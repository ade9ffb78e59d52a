-- In a setting of a typed scope a reference to a procedure of an abstract module means a procedure of the program that is chosen for it.
use Rattle.std.proofs.Common.{◌≡◌, Bool, true, false, if◌then◌else◌, List, [], ◌∷◌, Option, Some, None, is_some, option_map, bytes_eq, refl, ap, sym, ◌∙◌, subst}
use Rattle.std.proofs.lemmas.Bool.{false≢true}
use Rattle.std.proofs.lemmas.Option.{none-some, same_Some}
use Rattle.gb_terms.specs.declared.decl.Param.{Param}
use Rattle.gb_terms.specs.declared.decl.Proc.{Proc}
use Rattle.gb_terms.specs.declared.module.Bind.{Bind}
use Rattle.gb_terms.specs.declared.module.Mexp.{Mexp}
use Rattle.gb_terms.specs.declared.module.Mexp.TheVariants.{Name as named, Apply'}
use Rattle.gb_terms.specs.declared.module.ProcRef.{ProcRef}
use Rattle.gb_goal.specs.declared.scope.Entry.{Entry}
use Rattle.gb_goal.specs.declared.scope.Entry.TheVariants as entry
use Rattle.gb_goal.specs.Instances.{arguments_of, name_of}
use Rattle.gb_goal.specs.Interfaces.{Interface, ProcedureType, given as given_interfaces, interface_at, interfaces_at, lacking, left_over, of_complete, of_entry, of_type, procedure_in, procedure_type, signature_types}
use Rattle.gb_goal.specs.Scope as scope
use Rattle.gb_goal.specs.Scope.{abstract_of, as_abstract, entry_of, procedure_of}
use Rattle.gb_meaning.specs.Names.{Name}
use Rattle.gb_meaning.specs.Program.{Routine, Oracle}
use Rattle.gb_meaning.specs.Setting.{Setting}
use Rattle.gb_meaning.specs.Adversary.{callable, or_none, type_named, with_oracles}
use Rattle.gb_meaning.specs.Declared.{Declarations, ModuleType, Signature, declared}
use Rattle.gb_meaning.specs.Holds.{declared_modules}
use Rattle.gb_meaning.specs.Linking.{linked_procedure, link_routine}
use Rattle.gb_meaning.specs.Modules.{Modules, found, modules_of, no_module}
use Rattle.gb_meaning.specs.Programs.{AreFull, HasProcedures}
use Rattle.gb_meaning.specs.Settings.{Chosen, Interpretation, bare, linked_modules, setting, types_of, with_abstract_programs, with_operators}
use Rattle.gb_meaning.specs.Typing.{IsTypedRoutine}
use Rattle.gb_meaning.proofs.EachProgram.{found-each_linked}
use Rattle.gb_typing.specs.Chosen.{AreChosen, IsChosenIf, IsChosenOver, IsProgramOf, chosen_under}
use Rattle.gb_typing.specs.Scopes.{IsTypedScope}
use Rattle.gb_typing.proofs.AbstractModules.{abstract_in_scope}
use Rattle.gb_typing.proofs.DeclaredTypes.{declared_type}
use Rattle.gb_typing.proofs.OwnFootprint.{own_footprint}
use Rattle.gb_typing.proofs.Settings.{chosen_program}
use Rattle.gb_mods.specs.Asked.{asked_by, asked_for, asked_of, oracles_if, oracles_named, signature_of}
use Rattle.gb_mods.specs.Meant.{any_of, meant_by, or_any}
use Rattle.gb_mods.specs.declared.meant.Meant.{Meant}
use Rattle.gb_mods.specs.declared.meant.Meant.TheVariants.{Any}
use Rattle.gb_mods.proofs.Closed.{IsIn}
use Rattle.gb_prog.specs.AnyOf.{IsAnyOf}
use Rattle.gb_prog.specs.BothAnyOf.{AreAnswers, AreBothAnyOf, IsPairIn}
use Rattle.gb_prog.proofs.Oracles.{IsFilled, answers, answers_is, applied_is, as_named, callable_asked, callable_named, callable_pair, filled_answers, given}
use Rattle.gb_prog.proofs.Signed.{IsSigned, signed_there}

-- What a reference means by declarations.

abbrev is_any : Meant → Bool
is_any (Any a qs) = true
is_any _ = false

abbrev name_in : Meant → Name
name_in (Any a qs) = a
name_in _ = []

abbrev asked_in : Meant → List ProcRef
asked_in (Any a qs) = qs
asked_in _ = []

module _ (ds : scope.Declarations) (p : ProcRef) where
  -- the abstract module, and the type of its procedure
  pub record IsAbstract (a : Name) (qs : List ProcRef) : Type 0 where
    pub bind : Bind
    pub bound : entry_of ds (name_of p.«module») ≡ Some (entry.AbstractModule bind)
    pub types : ProcedureType
    pub typed : procedure_type ds None p ≡ Some types
    pub name : name_of p.«module» ≡ a
    pub asked : asked_by ds (scope.module_type_of ds bind.ty) (arguments_of p.«module») p.name ≡ qs

  entry_there : (o : Option Entry) (b : Bind) → as_abstract o ≡ Some b → o ≡ Some (entry.AbstractModule b)
  entry_there (Some (entry.AbstractModule c)) b e = ap (λ (z : Bind). Some (entry.AbstractModule z)) (same_Some c b e)
  entry_there _ b e = absurd (none-some b e)

  pub abstract_there : (a : Name) (qs : List ProcRef) → meant_by ds p ≡ Any a qs → IsAbstract a qs
  abstract_there a qs e = by_procedure (procedure_of ds p) e
    where
      by_bind : (o : Option Bind) → abstract_of ds (name_of p.«module») ≡ o → (t : Option ProcedureType) → procedure_type ds None p ≡ t → any_of ds p o t ≡ Any a qs → IsAbstract a qs
      by_bind None f t g e = absurd (false≢true (ap is_any e))
      by_bind (Some b) f None g e = absurd (false≢true (ap is_any e))
      by_bind (Some b) f (Some t) g e = record {
        bind = b;
        bound = entry_there (entry_of ds (name_of p.«module»)) b f;
        types = t;
        typed = g;
        name = ap name_in e;
        asked = ap asked_in e;
      }

      by_procedure : (o : Option Proc) → or_any ds p o ≡ Any a qs → IsAbstract a qs
      by_procedure (Some f) e = absurd (false≢true (ap is_any e))
      by_procedure None e = by_bind (abstract_of ds (name_of p.«module»)) refl (procedure_type ds None p) refl e

  -- it is declared
  pub abstract_named : (a : Name) (qs : List ProcRef) → meant_by ds p ≡ Any a qs → is_some (abstract_of ds a) ≡ true
  abstract_named a qs e =
      let w = abstract_there a qs e in
      ap (λ n. is_some (abstract_of ds n)) (sym w.name) ∙ ap (λ o. is_some (as_abstract o)) w.bound

-- The signature of the procedure.

module _ (f : Name) (u : ProcedureType) where
  own_procedure : (i : Interface) (ps : List Param) → of_complete ps i.procedures f ≡ Some u → found i.procedures f ≡ Some u
  own_procedure i [] e = e
  own_procedure i (p ∷ ps) e = absurd (none-some u e)

  lacking_procedure : (i : Interface) (o : Option (List Param)) → procedure_in (lacking i o) f ≡ Some u → found i.procedures f ≡ Some u
  lacking_procedure i None e = absurd (none-some u e)
  lacking_procedure i (Some ps) e = own_procedure i ps e

  nothing_lacks : (ps : List Param) (qs : List (Name × ProcedureType)) → of_complete ps qs f ≡ Some u → ps ≡ []
  nothing_lacks [] qs e = refl
  nothing_lacks (p ∷ ps) qs e = absurd (none-some u e)

  all_given : (i : Interface) (o : Option (List Param)) → procedure_in (lacking i o) f ≡ Some u → o ≡ Some []
  all_given i None e = absurd (none-some u e)
  all_given i (Some ps) e = ap (λ (z : List Param). Some z) (nothing_lacks ps i.procedures e)

  -- a module of a module type that lacks nothing is given modules for all parameters of the type
  filled : (ds : scope.Declarations) (b : Bind) (t : ModuleType) → scope.module_type_of ds b.ty ≡ Some t → (m : Mexp) → entry_of ds (name_of m) ≡ Some (entry.AbstractModule b) →
      procedure_in (interface_at ds None m) f ≡ Some u → IsFilled ds t.params m
  filled ds b t k (named n) e h =
      nothing_lacks t.params (signature_types t.signatures)
      (ap (λ (z : Option Interface). procedure_in z f) (sym (ap (of_entry ds) e ∙ ap (option_map of_type) k)) ∙ h)
  filled ds b t k (Apply' n c args) e h =
      all_given (of_type t) (left_over ds t.params (interfaces_at ds None args))
      (ap (λ (z : Option Interface). procedure_in (given_interfaces ds z (interfaces_at ds None args)) f) (sym (ap (of_entry ds) e ∙ ap (option_map of_type) k)) ∙ h)

  -- a procedure of an abstract module has a signature
  module _ (ds : scope.Declarations) (b : Bind) where
    pub record HasSignature : Type 0 where
      pub asks : ModuleType
      pub asked_so : scope.module_type_of ds b.ty ≡ Some asks
      pub there : found (signature_types asks.signatures) f ≡ Some u

    named_signature : (o : Option ModuleType) → scope.module_type_of ds b.ty ≡ o → procedure_in (option_map of_type o) f ≡ Some u → HasSignature
    named_signature None q h = absurd (none-some u h)
    named_signature (Some t) q h = record { asks = t; asked_so = q; there = own_procedure (of_type t) t.params h }

    applied_signature : (is : List (Option Interface)) (o : Option ModuleType) → scope.module_type_of ds b.ty ≡ o → procedure_in (given_interfaces ds (option_map of_type o) is) f ≡ Some u → HasSignature
    applied_signature is None q h = absurd (none-some u h)
    applied_signature is (Some t) q h = record { asks = t; asked_so = q; there = lacking_procedure (of_type t) (left_over ds t.params is) h }

    pub signature_there : (m : Mexp) → entry_of ds (name_of m) ≡ Some (entry.AbstractModule b) → procedure_in (interface_at ds None m) f ≡ Some u → HasSignature
    signature_there (named n) e h =
        named_signature (scope.module_type_of ds b.ty) refl (ap (λ (z : Option Interface). procedure_in z f) (sym (ap (of_entry ds) e)) ∙ h)
    signature_there (Apply' n k args) e h =
        applied_signature (interfaces_at ds None args) (scope.module_type_of ds b.ty) refl
        (ap (λ (z : Option Interface). procedure_in (given_interfaces ds z (interfaces_at ds None args)) f) (sym (ap (of_entry ds) e)) ∙ h)

-- The program that is chosen.

module _ (all : Declarations) (i : Interpretation) where
  abbrev Is : Bind → Type 0
  Is b = IsChosenIf all i.programs (setting all i) i.world b (chosen_under i.programs b.name)

  rest_chosen : (h : Name) (x : Entry) (ds : scope.Declarations) → AreChosen all i (declared_modules (declared ((h, x) ∷ ds))) → AreChosen all i (declared_modules (declared ds))
  rest_chosen h (entry.AbstractModule b) ds k = k.1
  rest_chosen h (entry.Module m) ds k = k
  rest_chosen h (entry.Lemma s bs) ds k = k
  rest_chosen h (entry.Type t) ds k = k
  rest_chosen h entry.AbstractType ds k = k
  rest_chosen h (entry.Constant c) ds k = k
  rest_chosen h (entry.Operator o) ds k = k
  rest_chosen h (entry.ModuleType t) ds k = k
  rest_chosen h (entry.AbstractOperator o) ds k = k
  rest_chosen h (entry.Terminating f) ds k = k

  pub chosen_for : (ds : scope.Declarations) → AreChosen all i (declared_modules (declared ds)) → (n : Name) (b : Bind) → entry_of ds n ≡ Some (entry.AbstractModule b) → Is b
  chosen_for [] k n b e = absurd (none-some (entry.AbstractModule b) e)
  chosen_for ((h, x) ∷ ds) k n b e = step (bytes_eq n h) e (chosen_for ds (rest_chosen h x ds k) n b)
    where
      step : (t : Bool) → (if t then Some x else entry_of ds n) ≡ Some (entry.AbstractModule b) → (entry_of ds n ≡ Some (entry.AbstractModule b) → Is b) → Is b
      step true e go = let y = subst (λ (z : Entry). AreChosen all i (declared_modules (declared ((h, z) ∷ ds)))) (same_Some x (entry.AbstractModule b) e) k in y.0
      step false e go = go e

module _ (ds : scope.Declarations) (scoped : IsTypedScope (declared ds)) (i : Interpretation) (over : IsChosenOver (declared ds) i) (p : ProcRef) (a : Name) (qs : List ProcRef) where
  abbrev g : Setting
  g = setting (declared ds) i

  abbrev h : Setting
  h = with_operators i.table (bare (types_of (declared ds) i) i.table) (declared ds)

  abbrev ms : Modules Routine
  ms = linked_modules (declared ds) h i.programs

  module _ (w : IsAbstract ds p a qs) (s : HasSignature p.name w.types ds w.bind) (x : Chosen) (chosen : chosen_under i.programs w.bind.name ≡ Some x) (bind : x.bind ≡ w.bind)
      (fits : IsProgramOf (declared ds) g i.world (type_named (declared ds) w.bind.ty) x.program) where
    abbrev t : ModuleType
    t = s.asks

    same_type : type_named (declared ds) w.bind.ty ≡ t
    same_type = ap or_none (declared_type ds w.bind.ty ∙ s.asked_so)

    name : w.bind.name ≡ a
    name = (let y = abstract_in_scope ds scoped (name_of p.«module») w.bind w.bound in y.name) ∙ w.name

    under : chosen_under i.programs a ≡ Some x
    under = subst (λ n. chosen_under i.programs n ≡ Some x) name chosen

    signed : IsSigned (declared ds) g t x.program t.signatures p.name
    signed =
        signed_there (declared ds) g t x.program t.signatures
        (subst (λ (z : ModuleType). HasProcedures (declared ds) g z x.program z.signatures) same_type (let y = fits.program in y.procedures))
        (subst (λ (z : ModuleType). AreFull g x.program z.signatures) same_type fits.full) p.name w.types s.there

    -- the module is the program, with oracles
    linked_module : ms (name_of p.«module») ≡ with_oracles t x.program
    linked_module =
        ap ms w.name
        ∙ chosen_program (declared ds) i.programs (modules_of (linked_procedure h) (with_abstract_programs (declared ds) i.programs (λ n. no_module)) (declared ds)) a x under
        ∙ ap (λ (z : Bind). with_oracles (type_named (declared ds) z.ty) x.program) bind ∙ ap (λ z. with_oracles z x.program) same_type

    linked_body : g.procedure p ≡ Some (link_routine (answers ms t.params p.«module») signed.body)
    linked_body =
        (λ j. found (applied_is ms p.«module» j) p.name) ∙ (λ j. found (linked_module j (given ms p.«module»)) p.name)
        ∙ found-each_linked (answers ms t.params p.«module») x.program.procedures p.name ∙ ap (option_map (link_routine (answers ms t.params p.«module»))) signed.there

    asked_is : asked_for t.params (arguments_of p.«module») (oracles_named ds t.params signed.signature.oracles) ≡ qs
    asked_is =
        sym (ap (λ o. asked_by ds o (arguments_of p.«module») p.name) s.asked_so ∙ ap (λ o. asked_for t.params (arguments_of p.«module») (oracles_if ds t.params o)) signed.named_so) ∙ w.asked

    is_any_of : IsAnyOf g a qs p
    is_any_of = record {
      callable = callable (declared ds) t signed.signature;
      oracles = answers ms t.params p.«module»;
      own = signed.body;
      there = linked_body;
      typed = subst (λ gs. IsTypedRoutine g (callable (declared ds) t signed.signature) gs signed.body) (sym (own_footprint (declared ds) i a x under (let y = fits.program in y.ordered))) signed.typed;
      full = signed.full;
      answers = λ o u e r f. (
        asked_of t.params (arguments_of p.«module») (as_named o),
        subst (λ z. IsIn z (asked_of t.params (arguments_of p.«module») (as_named o))) asked_is (callable_asked ds t signed.signature o u e (arguments_of p.«module»)),
        answers_is ms t.params p.«module» o r f,
      );
    }

    -- another reference to the procedure
    module _ (q : ProcRef) (us : List ProcRef) (v : IsAbstract ds q a us) (same : q.name ≡ p.name) where
      same_bind : v.bind ≡ w.bind
      same_bind = same_Some v.bind w.bind (sym (ap as_abstract v.bound) ∙ ap (λ n. as_abstract (entry_of ds n)) (v.name ∙ sym w.name) ∙ ap as_abstract w.bound)

      type_there : scope.module_type_of ds (let b = v.bind in b.ty) ≡ Some t
      type_there = ap (λ (b : Bind). scope.module_type_of ds b.ty) same_bind ∙ s.asked_so

      same_body : g.procedure q ≡ Some (link_routine (answers ms t.params q.«module») signed.body)
      same_body =
          (λ j. found (applied_is ms q.«module» j) q.name)
          ∙ (λ j. found ((ap ms (v.name ∙ sym w.name) ∙ linked_module) j (given ms q.«module»)) (same j))
          ∙ found-each_linked (answers ms t.params q.«module») x.program.procedures p.name ∙ ap (option_map (link_routine (answers ms t.params q.«module»))) signed.there

      same_asked : asked_for t.params (arguments_of q.«module») (oracles_named ds t.params signed.signature.oracles) ≡ us
      same_asked =
          sym (ap (λ o. asked_by ds o (arguments_of q.«module») q.name) type_there
          ∙ ap (λ o. asked_for t.params (arguments_of q.«module») (oracles_if ds t.params o)) (ap (signature_of t.signatures) same ∙ signed.named_so)) ∙ v.asked

      same_filled : IsFilled ds t.params q.«module»
      same_filled = filled q.name v.types ds v.bind t type_there q.«module» v.bound v.typed

    -- by two references
    module _ (q : ProcRef) (us : List ProcRef) (v : IsAbstract ds q a us) (same : p.name ≡ q.name) where
      are_answers : (o : Oracle) (u : Signature) → callable (declared ds) t signed.signature o ≡ Some u →
          AreAnswers ds g qs us u (answers ms t.params p.«module» o) (answers ms t.params q.«module» o)
      are_answers o u e =
          let k = callable_named ds t signed.signature o u e in
          let l = filled_answers ds ms o u t.params p.«module» (same_filled p qs w refl) k.1 in
          let r = filled_answers ds ms o u t.params q.«module» (same_filled q us v (sym same)) k.1 in
          record {
            first = asked_of t.params (arguments_of p.«module») (as_named o);
            second = asked_of t.params (arguments_of q.«module») (as_named o);
            paired = subst (λ z. z) (λ j. IsPairIn (same_asked p qs w refl j) (same_asked q us v (sym same) j) (asked_of t.params (arguments_of p.«module») (as_named o)) (asked_of t.params (arguments_of q.«module») (as_named o)))
                (callable_pair ds t signed.signature o u e (arguments_of p.«module») (arguments_of q.«module»));
            left_meant = l.0;
            right_meant = r.0;
            left_serves = l.1;
            right_serves = r.1;
          }

      are_both_any_of : AreBothAnyOf ds g a qs us p q
      are_both_any_of = record {
        callable = callable (declared ds) t signed.signature;
        left = answers ms t.params p.«module»;
        right = answers ms t.params q.«module»;
        own = signed.body;
        left_there = same_body p qs w refl;
        right_there = same_body q us v (sym same);
        typed = subst (λ gs. IsTypedRoutine g (callable (declared ds) t signed.signature) gs signed.body) (sym (own_footprint (declared ds) i a x under (let y = fits.program in y.ordered))) signed.typed;
        answers = are_answers;
      }

  by_choice : (w : IsAbstract ds p a qs) → HasSignature p.name w.types ds w.bind → (o : Option Chosen) → chosen_under i.programs w.bind.name ≡ o →
      IsChosenIf (declared ds) i.programs g i.world w.bind o → IsAnyOf g a qs p
  by_choice w s None e k = absurd k
  by_choice w s (Some x) e k = is_any_of w s x e k.0 k.1

  pub any_there : meant_by ds p ≡ Any a qs → IsAnyOf g a qs p
  any_there e =
      let w = abstract_there ds p a qs e in
      by_choice w (signature_there p.name w.types ds w.bind p.«module» w.bound w.typed) (chosen_under i.programs w.bind.name) refl
      (chosen_for (declared ds) i ds over.chosen (name_of p.«module») w.bind w.bound)

  -- one procedure, by two references
  both_by_choice : (w : IsAbstract ds p a qs) → HasSignature p.name w.types ds w.bind → (q : ProcRef) (us : List ProcRef) → IsAbstract ds q a us → p.name ≡ q.name →
      (o : Option Chosen) → chosen_under i.programs w.bind.name ≡ o → IsChosenIf (declared ds) i.programs g i.world w.bind o → AreBothAnyOf ds g a qs us p q
  both_by_choice w s q us v same None e k = absurd k
  both_by_choice w s q us v same (Some x) e k = are_both_any_of w s x e k.0 k.1 q us v same

  pub both_there : (q : ProcRef) (us : List ProcRef) → meant_by ds p ≡ Any a qs → meant_by ds q ≡ Any a us → p.name ≡ q.name → AreBothAnyOf ds g a qs us p q
  both_there q us e f same =
      let w = abstract_there ds p a qs e in
      both_by_choice w (signature_there p.name w.types ds w.bind p.«module» w.bound w.typed) q us (abstract_there ds q a us f) same (chosen_under i.programs w.bind.name) refl
      (chosen_for (declared ds) i ds over.chosen (name_of p.«module») w.bind w.bound)
