-- The parameters that a module lacks may be left open: modules of their types, under names that nothing is declared under, fit what it lacks.
use Rattle.std.proofs.Common.{◌≡◌, inl, inr, Bool, true, false, if◌then◌else◌, ℕ, List, [], ◌∷◌, map, Option, Some, None, option_map, bytes_eq, refl, ap, sym, ◌∙◌, subst}
use Rattle.std.proofs.lemmas.Bool.{false≢true, and_from}
use Rattle.std.proofs.lemmas.Option.{none-some, same_Some}
use Rattle.std.proofs.lemmas.Slice.Eq.{bytes_eq-Decides}
use Rattle.gb_terms.specs.declared.decl.Module.{Module}
use Rattle.gb_terms.specs.declared.decl.Param.{Param}
use Rattle.gb_terms.specs.declared.module.Bind.{Bind}
use Rattle.gb_terms.specs.declared.module.Mexp.{Mexp}
use Rattle.gb_terms.specs.declared.module.Mexp.TheVariants.{Name as named, Apply'}
use Rattle.gb_terms.specs.declared.term.Term.{Term}
use Rattle.gb_goal.specs.declared.scope.Entry.{Entry}
use Rattle.gb_goal.specs.declared.scope.Entry.TheVariants as entry
use Rattle.gb_goal.specs.Interfaces as known
use Rattle.gb_goal.specs.Interfaces.{interface_of, of_entry, of_module, of_type, params_in, signature_types, signatures_of}
use Rattle.gb_goal.specs.Scope as scope
use Rattle.gb_goal.specs.Scope.{as_module, entry_of, module_of, module_type_of}
use Rattle.gb_meaning.specs.Names.{Name}
use Rattle.gb_meaning.specs.Declared.{ModuleType, Signature, declared, signature_in}
use Rattle.gb_meaning.specs.Modules.{found}
use Rattle.gb_typing.specs.Context.{Context}
use Rattle.gb_typing.specs.Formulas.{IsKnown, with_module as with_bound}
use Rattle.gb_typing.specs.Modules.{Modules, ProcedureType, fits, functor_type, has_type, interface_at, left_over, of_functor_type, provides, serve, without_lacks}
use Rattle.gb_typing.specs.Scopes.{AreParams, AreSignatures, AreTaken, context_of, with_param, IsTypedScope}
use Rattle.gb_typing.specs.Sequents.{AreBinders, with_modules}
use Rattle.gb_typing.specs.Suits.{lacked}
use Rattle.gb_typing.proofs.DeclaredTypes.{scope_types}
use Rattle.gb_typing.proofs.Growing.{AreKnown, goal_keeps, keeps_itself, params_later}
use Rattle.gb_typing.proofs.Located.{placed_at}
use Rattle.gb_typing.proofs.ParameterTypes.{params_there, type_in_scope}
use Rattle.gb_typing.proofs.Provides.{type_itself}
use Rattle.gb_typing.proofs.Standing.{module_place, stands}
use Rattle.gb_mods.specs.Meets.{left_open, open_name}
use Rattle.gb_arguments.specs.Collect.{open_binder, open_binders}
use Rattle.gb_arguments.specs.OpenGoals.{AreOpenFit, open_goal}
use Rattle.gb_arguments.proofs.Members.{Has}

-- Names of parameters differ.

abbrev pub AreOwn : List Param → Type 0
AreOwn [] = Unit {0}
AreOwn (p ∷ ps) = ((q : Param) → Has ps q → bytes_eq q.name p.name ≡ false) × AreOwn ps

free_before : (ms : Modules) (p : Param) (n : Name) → (with_param ms p).interfaces n ≡ None → (ms.interfaces n ≡ None) × (bytes_eq n p.name ≡ false)
free_before ms p n e = step (bytes_eq n p.name) refl e
  where
    step : (b : Bool) → bytes_eq n p.name ≡ b → (if b then Some (of_functor_type (functor_type ms.types (ms.types p.ty))) else ms.interfaces n) ≡ None → (ms.interfaces n ≡ None) × (b ≡ false)
    step true q e = absurd (none-some _ (sym e))
    step false q e = (e, refl)

taken_free : (ms : Modules) (ps : List Param) → AreTaken ms ps → (q : Param) → Has ps q → ms.interfaces q.name ≡ None
taken_free ms [] w q h = absurd h
taken_free ms (p ∷ ps) w q (inl e) = subst (λ (z : Param). ms.interfaces z.name ≡ None) e w.0.1
taken_free ms (p ∷ ps) w q (inr h) = (free_before ms p q.name (taken_free (with_param ms p) ps w.1 q h)).0

pub taken_own : (ms : Modules) (ps : List Param) → AreTaken ms ps → AreOwn ps
taken_own ms [] w = tt
taken_own ms (p ∷ ps) w = ((λ q h. (free_before ms p q.name (taken_free (with_param ms p) ps w.1 q h)).1), taken_own (with_param ms p) ps w.1)

pub params_taken : (ms : Modules) (ps : List Param) → AreParams ms ps → AreTaken ms ps
params_taken ms [] w = tt
params_taken ms (p ∷ ps) w = ((w.0.0, w.0.2), params_taken (with_param ms p) ps w.1)

-- Module types have what they ask for.

not_missing : (ss : List Signature) (s : Signature) → Has ss s → signature_in ss s.name ≡ None → ⊥
not_missing [] s h e = h
not_missing (u ∷ us) s (inl q) e =
    absurd (none-some u (sym e ∙ ap (λ (b : Bool). if b then Some u else signature_in us s.name) ((bytes_eq-Decides s.name u.name).1 (ap (λ (z : Signature). z.name) (sym q)))))
not_missing (u ∷ us) s (inr h) e = step (bytes_eq s.name u.name) e (not_missing us s h)
  where
    step : (b : Bool) → (if b then Some u else signature_in us s.name) ≡ None → (signature_in us s.name ≡ None → ⊥) → ⊥
    step true e go = absurd (none-some u (sym e))
    step false e go = go e

found_own : (ms : Modules) (ps : List Param) (ss : List Signature) → AreSignatures ms ps ss → (s : Signature) → Has ss s → found (signature_types ss) s.name ≡ Some (record { params = s.params; result = s.result })
found_own ms ps [] w s h = absurd h
found_own ms ps (u ∷ us) w s (inl q) =
    ap (λ (b : Bool). if b then Some (record { params = u.params; result = u.result }) else found (signature_types us) s.name) ((bytes_eq-Decides s.name u.name).1 (ap (λ (z : Signature). z.name) (sym q)))
    ∙ ap (λ (z : Signature). Some (record { params = z.params; result = z.result })) q
found_own ms ps (u ∷ us) w s (inr h) = step (bytes_eq s.name u.name) refl (found_own ms ps us w.2 s h)
  where
    step : (b : Bool) → bytes_eq s.name u.name ≡ b → found (signature_types us) s.name ≡ Some (record { params = s.params; result = s.result }) →
        (if b then Some (record { params = u.params; result = u.result }) else found (signature_types us) s.name) ≡ Some (record { params = s.params; result = s.result })
    step true q go = absurd (not_missing us s h (ap (signature_in us) ((bytes_eq-Decides s.name u.name).0 q) ∙ w.1))
    step false q go = go

provides_each : (all ss : List Signature) → ((s : Signature) → Has ss s → found (signature_types all) s.name ≡ Some (record { params = s.params; result = s.result })) → provides (signature_types all) (signature_types ss) ≡ true
provides_each all [] h = refl
provides_each all (s ∷ ss) h =
    and_from (has_type (found (signature_types all) s.name) (record { params = s.params; result = s.result })) (provides (signature_types all) (signature_types ss))
    (ap (λ o. has_type o (record { params = s.params; result = s.result })) (h s (inl refl)) ∙ type_itself (record { params = s.params; result = s.result }))
    (provides_each all ss (λ u k. h u (inr k)))

module _ (ds : scope.Declarations) (scoped : IsTypedScope (declared ds)) where
  abbrev c : Context
  c = context_of (declared ds)

  abbrev T : Name → Option ModuleType
  T = c.modules.types

  known_type : (n : Name) → IsKnown (T n) → (t : ModuleType) × ((T n ≡ Some t) × (module_type_of ds n ≡ Some t))
  known_type n k = step (T n) refl k
    where
      step : (o : Option ModuleType) → T n ≡ o → IsKnown o → (t : ModuleType) × ((T n ≡ Some t) × (module_type_of ds n ≡ Some t))
      step None e k = absurd k
      step (Some t) e k = (t, (e, sym (scope_types ds scoped n) ∙ e))

  provides_itself : (n : Name) → IsKnown (T n) → provides (signature_types (signatures_of (T n))) (signature_types (signatures_of (T n))) ≡ true
  provides_itself n k =
      let t = known_type n k in
      let s = type_in_scope ds scoped n t.0 t.1.1 in
      subst (λ o. provides (signature_types (signatures_of o)) (signature_types (signatures_of o)) ≡ true) (sym t.1.0)
      (provides_each (let u = t.0 in u.signatures) (let u = t.0 in u.signatures)
      (found_own (let b = s.before in b.modules) (let u = t.0 in u.params) (let u = t.0 in u.signatures) (let y = s.typed in y.signatures)))

  abbrev asked : Param → List (Name × ProcedureType)
  asked p = signature_types (signatures_of (T p.ty))

  serve_itself : (ps : List Param) → AreKnown T ps → serve (map asked ps) (map without_lacks (map asked ps)) ≡ true
  serve_itself [] k = refl
  serve_itself (p ∷ ps) k = and_from (provides (asked p) (asked p)) (serve (map asked ps) (map without_lacks (map asked ps))) (provides_itself p.ty k.0) (serve_itself ps k.1)

  fits_itself : (n : Name) → IsKnown (T n) → fits (Some (of_functor_type (functor_type T (T n)))) (functor_type T (T n)) ≡ true
  fits_itself n k =
      and_from (serve (map asked (params_in (T n))) (map without_lacks (map asked (params_in (T n))))) (provides (signature_types (signatures_of (T n))) (signature_types (signatures_of (T n))))
      (serve_itself (params_in (T n)) params) (provides_itself n k)
    where
      params : AreKnown T (params_in (T n))
      params = let t = known_type n k in subst (λ o. AreKnown T (params_in o)) (sym t.1.0) (params_there c t.0 (type_in_scope ds scoped n t.0 t.1.1))

  -- Parameters that are lacking.

  abbrev pub Good : List Param → Type 0
  Good ps = AreKnown T ps × AreOwn ps

  good_name : (n : Name) (j : known.Interface) → interface_of ds None n ≡ Some j → Good j.lacks
  good_name n j e = by_found (entry_of ds n) refl e
    where
      of_found : (m : Module) → module_of ds n ≡ Some m → Good m.params
      of_found m h =
          let l = stands ds n m h in
          let p = placed_at ds scoped c (keeps_itself c) (scope_types ds scoped) n m l.front l.after (module_place ds n m l) in
          (params_later (context_of (declared l.front)) n m c p, taken_own _ m.params (let y = p.typed in y.params))

      of_abstract : (b : Bind) (o : Option ModuleType) → module_type_of ds b.ty ≡ o → option_map of_type o ≡ Some j → Good j.lacks
      of_abstract b None k e = absurd (none-some j e)
      of_abstract b (Some t) k e =
          let s = type_in_scope ds scoped b.ty t k in
          subst (λ (z : known.Interface). Good z.lacks) (same_Some (of_type t) j e)
          (params_there c t s, taken_own (let d = s.before in d.modules) t.params (params_taken (let d = s.before in d.modules) t.params (let y = s.typed in y.params)))

      by_entry : (x : Entry) → entry_of ds n ≡ Some x → of_entry ds (Some x) ≡ Some j → Good j.lacks
      by_entry (entry.Module m) h e = subst (λ (z : known.Interface). Good z.lacks) (same_Some (of_module m) j e) (of_found m (ap as_module h))
      by_entry (entry.AbstractModule b) h e = of_abstract b (module_type_of ds b.ty) refl e
      by_entry _ h e = absurd (none-some j e)

      by_found : (o : Option Entry) → entry_of ds n ≡ o → of_entry ds o ≡ Some j → Good j.lacks
      by_found None h e = absurd (none-some j e)
      by_found (Some x) h e = by_entry x h e

  good_left : (ps : List Param) (os : List (Option known.Interface)) (ls : List Param) → known.left_over ds ps os ≡ Some ls → Good ps → Good ls
  good_left ps [] ls e g = subst Good (same_Some ps ls e) g
  good_left [] (o ∷ os) ls e g = absurd (none-some ls e)
  good_left (p ∷ ps) (o ∷ os) ls e g = step (known.fits ds o (module_type_of ds p.ty)) e (λ e. good_left ps os ls e (g.0.1, g.1.1))
    where
      step : (b : Bool) → (if b then known.left_over ds ps os else None) ≡ Some ls → (known.left_over ds ps os ≡ Some ls → Good ls) → Good ls
      step true e go = go e
      step false e go = absurd (none-some ls e)

  good_at : (m : Mexp) (k : known.Interface) → known.interface_at ds None m ≡ Some k → Good k.lacks
  good_at (named n) k e = good_name n k e
  good_at (Apply' n c args) k e = step (interface_of ds None n) refl e
    where
      lacks : (j : known.Interface) → interface_of ds None n ≡ Some j → (o : Option (List Param)) → known.left_over ds j.lacks (known.interfaces_at ds None args) ≡ o → known.lacking j o ≡ Some k → Good k.lacks
      lacks j q None l e = absurd (none-some k e)
      lacks j q (Some ls) l e = subst (λ (z : known.Interface). Good z.lacks) (same_Some (record j { lacks = ls }) k e) (good_left j.lacks (known.interfaces_at ds None args) ls l (good_name n j q))

      step : (o : Option known.Interface) → interface_of ds None n ≡ o → known.given ds o (known.interfaces_at ds None args) ≡ Some k → Good k.lacks
      step None q e = absurd (none-some k e)
      step (Some j) q e = lacks j q (known.left_over ds j.lacks (known.interfaces_at ds None args)) refl e

  -- They are binders of a goal.

  abbrev tail : List ℕ → List ℕ
  tail [] = []
  tail (x ∷ xs) = xs

  open_differs : (x y : Name) → bytes_eq x y ≡ false → (b : Bool) → bytes_eq (open_name x) (open_name y) ≡ b → b ≡ false
  open_differs x y e true q = absurd (false≢true (sym e ∙ (bytes_eq-Decides x y).1 (ap tail ((bytes_eq-Decides (open_name x) (open_name y)).0 q))))
  open_differs x y e false q = refl

  pub binders : (qs : List Param) → Good qs → (d : Context) → d.modules.types ≡ T → ((q : Param) → Has qs q → d.modules.interfaces (open_name q.name) ≡ None) → AreBinders d (open_binders qs)
  binders [] g d same free = tt
  binders (p ∷ qs) g d same free = (
    record { free = free p (inl refl); known = subst (λ f. IsKnown (f p.ty)) (sym same) g.0.0; minus = tt; bounds = tt },
    binders qs (g.0.1, g.1.1) (with_bound d (open_binder p)) same
        (λ q h. ap (λ (b : Bool). if b then Some (of_functor_type (functor_type d.modules.types (d.modules.types p.ty))) else d.modules.interfaces (open_name q.name))
        (open_differs q.name p.name (g.1.0 q h) (bytes_eq (open_name q.name) (open_name p.name)) refl) ∙ free q (inr h)),
  )

  -- .. and fit what is lacking.

  pub types_stay : (d : Context) (qs : List Param) → (with_modules d (open_binders qs)).modules.types ≡ d.modules.types
  types_stay d [] = refl
  types_stay d (q ∷ qs) = types_stay (with_bound d (open_binder q)) qs

  pub open_known : (f0 : Term) (d : Context) (qs : List Param) → AreBinders d (open_binders qs) → (q : Param) → Has qs q →
      (with_modules d (open_binders qs)).modules.interfaces (open_name q.name) ≡ Some (of_functor_type (functor_type d.modules.types (d.modules.types q.ty)))
  open_known f0 d [] w q h = absurd h
  open_known f0 d (p ∷ qs) w q (inr h) = open_known f0 (with_bound d (open_binder p)) qs w.1 q h
  open_known f0 d (p ∷ qs) w q (inl e) =
      subst (λ (z : Param). (with_modules (with_bound d (open_binder p)) (open_binders qs)).modules.interfaces (open_name z.name) ≡ Some (of_functor_type (functor_type d.modules.types (d.modules.types z.ty)))) e
      (let k = goal_keeps (with_bound d (open_binder p)) (open_goal f0 qs) [] w.1 in
      k.interfaces (open_name p.name) (of_functor_type (functor_type d.modules.types (d.modules.types p.ty)))
      (ap (λ (b : Bool). if b then Some (of_functor_type (functor_type d.modules.types (d.modules.types p.ty))) else d.modules.interfaces (open_name p.name)) ((bytes_eq-Decides (open_name p.name) (open_name p.name)).1 refl)))

  all_fit : (ms : Modules) (ps : List Param) → AreKnown T ps → ((q : Param) → Has ps q → ms.interfaces (open_name q.name) ≡ Some (of_functor_type (functor_type T (T q.ty)))) →
      left_over (lacked T ps) (map (interface_at ms) (left_open ps)) ≡ Some []
  all_fit ms [] k h = refl
  all_fit ms (p ∷ ps) k h =
      ap (λ (b : Bool). if b then left_over (lacked T ps) (map (interface_at ms) (left_open ps)) else None) (ap (λ o. fits o (functor_type T (T p.ty))) (h p (inl refl)) ∙ fits_itself p.ty k.0)
      ∙ all_fit ms ps k.1 (λ q z. h q (inr z))

  module _ (unspelt : (x : Name) → c.modules.interfaces (open_name x) ≡ None) (m : Mexp) (k : known.Interface) (e : known.interface_at ds None m ≡ Some k) where
    pub open_binders_are : AreBinders c (open_binders k.lacks)
    open_binders_are = binders k.lacks (good_at m k e) c refl (λ q h. unspelt q.name)

    pub open_fit : (f0 : Term) → AreOpenFit ds scoped k.lacks f0 open_binders_are k
    open_fit f0 =
        subst (λ f. left_over (lacked f k.lacks) (map (interface_at (with_modules c (open_binders k.lacks)).modules) (left_open k.lacks)) ≡ Some []) (sym (types_stay c k.lacks))
        (all_fit (with_modules c (open_binders k.lacks)).modules k.lacks (good_at m k e).0 (open_known f0 c k.lacks open_binders_are))
