-- A module whose parameters are left open, as a module expression beside modules that are left open.
use Rattle.std.proofs.Common.{◌≡◌, inl, inr, Bool, true, false, if◌then◌else◌, List, [], ◌∷◌, ◌++◌, map, Option, Some, None, bytes_eq, refl, ap, sym, ◌∙◌, subst}
use Rattle.std.proofs.lemmas.List.{append-nil}
use Rattle.std.proofs.lemmas.Option.{none-some}
use Rattle.std.proofs.lemmas.Slice.Eq.{bytes_eq-Decides}
use Rattle.gb_terms.specs.declared.decl.Param.{Param}
use Rattle.gb_terms.specs.declared.module.Mexp.{Mexp, Row_of-Mexp, end_of-Mexp, more_of-Mexp}
use Rattle.gb_terms.specs.declared.module.Mexp.TheVariants.{Name as named, Apply'}
use Rattle.gb_terms.specs.declared.term.Term.{Term}
use Rattle.gb_goal.specs.Instances.{arguments_of, given_more, name_of}
use Rattle.gb_goal.specs.Interfaces as known
use Rattle.gb_goal.specs.Interfaces.{interface_of}
use Rattle.gb_goal.specs.Scope as scope
use Rattle.gb_goal.specs.Scope.{module_type_of}
use Rattle.gb_meaning.specs.Names.{Name}
use Rattle.gb_meaning.specs.Declared.{declared}
use Rattle.gb_meaning.specs.Modules.{Functor, Procedures, closed, found, module_at, modules_at, procedure_at}
use Rattle.gb_meaning.specs.Modules as linked
use Rattle.gb_typing.specs.Context.{Context}
use Rattle.gb_typing.specs.Formulas.{with_module as with_bound}
use Rattle.gb_typing.specs.Modules.{ProcedureType, functor_type, given, interface_at, lacking, of_functor_type, procedure_of}
use Rattle.gb_typing.specs.Scopes.{context_of, IsTypedScope}
use Rattle.gb_typing.specs.Sequents.{AreBinders}
use Rattle.gb_typing.proofs.Agreed.{interface_agrees, resolved}
use Rattle.gb_typing.proofs.DeclaredTypes.{goal_types}
use Rattle.gb_typing.proofs.Growing.{goal_keeps}
use Rattle.gb_typing.proofs.Located.{known_in_scope, known_there}
use Rattle.gb_typing.proofs.OpenAlike.{modules_in}
use Rattle.gb_typing.proofs.PutIn.{arguments_are, given_more_is}
use Rattle.gb_mods.specs.Footprint.{reference}
use Rattle.gb_mods.specs.Meets.{left_open, open_name}
use Rattle.gb_arguments.specs.Collect.{open_binder, open_binders, with_open}
use Rattle.gb_arguments.specs.OpenGoals.{AreOpenFit}
use Rattle.gb_arguments.proofs.AbstractThere.{at_name, gives}
use Rattle.gb_arguments.proofs.Members.{Has}
use Rattle.gb_arguments.proofs.OpenScope.{AreFree, IsTyped, are_free, known_stays, open_goal, seen as seen_of}
use mathlib.Core.Former.{Count}

given_name : (m : Mexp) (es : List Mexp) → name_of (given_more m es) ≡ name_of m
given_name m [] = refl
given_name m (e ∷ es) = refl

given_arguments : (m : Mexp) (es : List Mexp) → arguments_of (given_more m es) ≡ arguments_of m ++ es
given_arguments m [] = sym (append-nil (arguments_of m))
given_arguments m (e ∷ es) = arguments_are (name_of m) (arguments_of m ++ e ∷ es)

map_both : {A B : Type 0} (f : A → B) (xs ys : List A) → map f (xs ++ ys) ≡ map f xs ++ map f ys
map_both f [] ys = refl
map_both f (x ∷ xs) ys = ap (λ z. f x ∷ z) (map_both f xs ys)

gives_is : {X : Type 0} (ms : linked.Modules X) (m : Mexp) → gives ms m ≡ map (module_at ms) (arguments_of m)
gives_is ms (named n) = refl
gives_is ms (Apply' n k args) = append-nil (modules_at ms args) ∙ modules_in ms args

-- Names of modules that are left open differ.
abbrev pub HaveNames : List Param → Type 0
HaveNames [] = Unit {0}
HaveNames (p ∷ ps) = ((q : Param) → Has ps q → bytes_eq (open_name q.name) (open_name p.name) ≡ false) × HaveNames ps

other_name : (c : Context) (p : Param) (qs : List Param) → AreFree (with_bound c (open_binder p)) qs → (q : Param) → Has qs q → bytes_eq (open_name q.name) (open_name p.name) ≡ false
other_name c p [] f q h = absurd h
other_name c p (x ∷ qs) f q (inr h) = other_name c p qs f.1 q h
other_name c p (x ∷ qs) f q (inl e) = subst (λ (z : Param). bytes_eq (open_name z.name) (open_name p.name) ≡ false) e (step (bytes_eq (open_name x.name) (open_name p.name)) f.0)
  where
    step : (b : Bool) → (if b then Some (of_functor_type (functor_type c.modules.types (c.modules.types p.ty))) else c.modules.interfaces (open_name x.name)) ≡ None → b ≡ false
    step true e = absurd (none-some _ (sym e))
    step false e = refl

pub have_names : (c : Context) (qs : List Param) → AreBinders c (open_binders qs) → HaveNames qs
have_names c [] w = tt
have_names c (p ∷ qs) w = (other_name c p qs (are_free (with_bound c (open_binder p)) qs w.1), have_names (with_bound c (open_binder p)) qs w.1)

module _ {X : Type 0} (v : Param → Procedures X) (ms : linked.Modules X) where
  at_open : (qs : List Param) → HaveNames qs → (q : Param) → Has qs q → (fs : List (Functor X)) → with_open v qs ms (open_name q.name) fs ≡ v q
  at_open [] w q h fs = absurd h
  at_open (p ∷ qs) w q (inl e) fs =
      ap (λ (b : Bool). (if b then (λ args. v p) else with_open v qs ms (open_name q.name)) fs) ((bytes_eq-Decides (open_name q.name) (open_name p.name)).1 (ap (λ (z : Param). open_name z.name) (sym e))) ∙ ap v e
  at_open (p ∷ qs) w q (inr h) fs =
      ap (λ (b : Bool). (if b then (λ args. v p) else with_open v qs ms (open_name q.name)) fs) (w.0 q h) ∙ at_open qs w.1 q h fs

  opened_are : (all qs : List Param) → HaveNames all → ((q : Param) → Has qs q → Has all q) → map (module_at (with_open v all ms)) (left_open qs) ≡ map (λ q. closed (v q)) qs
  opened_are all [] w h = refl
  opened_are all (q ∷ qs) w h = λ i. (λ lacking. at_open all w q (h q (inl refl)) (map closed lacking) i) ∷ opened_are all qs w (λ p k. h p (inr k)) i

module _ (ds : scope.Declarations) (scoped : IsTypedScope (declared ds)) (qs : List Param) (f0 : Term) (w : AreBinders (context_of (declared ds)) (open_binders qs)) where
  abbrev c : Context
  c = context_of (declared ds)

  abbrev seen : Context
  seen = seen_of ds scoped qs f0 w

  types : (k : Name) → seen.modules.types k ≡ module_type_of ds k
  types k = goal_types ds scoped (open_goal f0 qs) [] k

  names : (n : Name) (i : known.Interface) → interface_of ds None n ≡ Some i → seen.modules.interfaces n ≡ Some (resolved seen.modules.types i)
  names = known_there ds scoped seen (goal_keeps c (open_goal f0 qs) [] w) types

  pub opened_typed : (m : Mexp) (k : known.Interface) → known.interface_at ds None m ≡ Some k → AreOpenFit ds scoped qs f0 w k → (f : Name) (u : ProcedureType) → found k.procedures f ≡ Some u →
      IsTyped ds scoped qs f0 w (reference (given_more m (left_open qs)) f)
  opened_typed m k e fit f u h = (
    u,
    ap (λ o. procedure_of o f) (given_more_is seen.modules m (left_open qs) ∙ ap (λ o. given o (map (interface_at seen.modules) (left_open qs))) (interface_agrees ds None seen.modules types names m k e)
        ∙ ap (lacking (resolved seen.modules.types k)) fit) ∙ h,
  )

  module _ {X : Type 0} (v : Param → Procedures X) (ms : linked.Modules X) where
    abbrev final : linked.Modules X
    final = with_open v qs ms

    same_at : (n : Name) (j : known.Interface) → interface_of ds None n ≡ Some j → final n ≡ ms n
    same_at n j e = known_stays v c qs (are_free c qs w) ms n _ (known_in_scope ds scoped n j e)

    -- module expressions of the scope mean what they mean without modules that are left open
    mutual
      same_module : (m : Mexp) (k : known.Interface) → known.interface_at ds None m ≡ Some k → module_at final m ≡ module_at ms m
      same_module (named n) k e = λ i xs. same_at n k e i (map closed xs)
      same_module (Apply' n j args) k e = by_name (interface_of ds None n) refl e (λ ps ls h. same_row args ps ls h)
        where
          by_name : (o : Option known.Interface) → interface_of ds None n ≡ o → known.given ds o (known.interfaces_at ds None args) ≡ Some k →
              ((ps ls : List Param) → known.left_over ds ps (known.interfaces_at ds None args) ≡ Some ls → modules_at final args ≡ modules_at ms args) → module_at final (Apply' n j args) ≡ module_at ms (Apply' n j args)
          by_name None h e go = absurd (none-some k e)
          by_name (Some x) h e go = by_left (known.left_over ds x.lacks (known.interfaces_at ds None args)) refl e
            where
              by_left : (o : Option (List Param)) → known.left_over ds x.lacks (known.interfaces_at ds None args) ≡ o → known.lacking x o ≡ Some k → module_at final (Apply' n j args) ≡ module_at ms (Apply' n j args)
              by_left None q e = absurd (none-some k e)
              by_left (Some ls) q e = λ i xs. same_at n x h i (go x.lacks ls q i ++ map closed xs)

      same_row : {n : Count} (args : Row_of-Mexp n) (ps ls : List Param) → known.left_over ds ps (known.interfaces_at ds None args) ≡ Some ls → modules_at final args ≡ modules_at ms args
      same_row end_of-Mexp ps ls e = refl
      same_row (more_of-Mexp m args) [] ls e = absurd (none-some ls e)
      same_row (more_of-Mexp m args) (p ∷ ps) ls e =
          step (known.interface_at ds None m) refl e (λ k h. same_module m k h) (λ h. same_row args ps ls h)
        where
          step : (o : Option known.Interface) → known.interface_at ds None m ≡ o →
              (if known.fits ds o (module_type_of ds p.ty) then known.left_over ds ps (known.interfaces_at ds None args) else None) ≡ Some ls →
              ((k : known.Interface) → known.interface_at ds None m ≡ Some k → module_at final m ≡ module_at ms m) →
              (known.left_over ds ps (known.interfaces_at ds None args) ≡ Some ls → modules_at final args ≡ modules_at ms args) → modules_at final (more_of-Mexp m args) ≡ modules_at ms (more_of-Mexp m args)
          step None h e one rest = absurd (none-some ls e)
          step (Some k) h e one rest = by_fit (known.fits ds (Some k) (module_type_of ds p.ty)) e
            where
              by_fit : (b : Bool) → (if b then known.left_over ds ps (known.interfaces_at ds None args) else None) ≡ Some ls → modules_at final (more_of-Mexp m args) ≡ modules_at ms (more_of-Mexp m args)
              by_fit true e = λ i. one k h i ∷ rest e i
              by_fit false e = absurd (none-some ls e)

    named_interface : (m : Mexp) (k : known.Interface) → known.interface_at ds None m ≡ Some k → (j : known.Interface) × (interface_of ds None (name_of m) ≡ Some j)
    named_interface (named n) k e = (k, e)
    named_interface (Apply' n j args) k e = step (interface_of ds None n) refl e
      where
        step : (o : Option known.Interface) → interface_of ds None n ≡ o → known.given ds o (known.interfaces_at ds None args) ≡ Some k → (j : known.Interface) × (interface_of ds None n ≡ Some j)
        step None h e = absurd (none-some k e)
        step (Some x) h e = (x, h)

    same_gives : (m : Mexp) (k : known.Interface) → known.interface_at ds None m ≡ Some k → gives final m ≡ gives ms m
    same_gives (named n) k e = refl
    same_gives (Apply' n j args) k e = by_name (interface_of ds None n) e
      where
        by_name : (o : Option known.Interface) → known.given ds o (known.interfaces_at ds None args) ≡ Some k → gives final (Apply' n j args) ≡ gives ms (Apply' n j args)
        by_name None e = absurd (none-some k e)
        by_name (Some x) e = by_left (known.left_over ds x.lacks (known.interfaces_at ds None args)) refl e
          where
            by_left : (o : Option (List Param)) → known.left_over ds x.lacks (known.interfaces_at ds None args) ≡ o → known.lacking x o ≡ Some k → gives final (Apply' n j args) ≡ gives ms (Apply' n j args)
            by_left None q e = absurd (none-some k e)
            by_left (Some ls) q e = λ i. same_row args x.lacks ls q i ++ []

    pub closed_each : (ps : List Param) → map closed (map v ps) ≡ map (λ q. closed (v q)) ps
    closed_each [] = refl
    closed_each (p ∷ ps) = ap (λ z. closed (v p) ∷ z) (closed_each ps)

    pub module_is : (m : Mexp) (xs : List (Procedures X)) → module_at ms m xs ≡ ms (name_of m) (gives ms m ++ map closed xs)
    module_is (named n) xs = refl
    module_is (Apply' n k args) xs = ap (λ z. ms n (z ++ map closed xs)) (sym (append-nil (modules_at ms args)))

    -- a procedure of the module with open parameters is that of the module expression
    pub opened_value : (m : Mexp) (k : known.Interface) → known.interface_at ds None m ≡ Some k → (f : Name) →
        found (module_at ms m (map v qs)) f ≡ procedure_at final (reference (given_more m (left_open qs)) f)
    opened_value m k e f =
        let j = named_interface m k e in
        ap (λ z. found z f) (module_is m (map v qs))
        ∙ (λ i. found (sym (same_at (name_of m) j.0 j.1) i (sym (same_gives m k e) i ++ closed_each qs i)) f)
        ∙ (λ i. found (final (name_of m) (gives_is final m i ++ sym (opened_are v ms qs qs (have_names c qs w) (λ q h. h)) i)) f)
        ∙ (λ i. found (final (sym (given_name m (left_open qs)) i) ((sym (map_both (module_at final) (arguments_of m) (left_open qs)) ∙ ap (map (module_at final)) (sym (given_arguments m (left_open qs))) ∙ sym (gives_is final (given_more m (left_open qs)))) i)) f)
        ∙ sym (at_name final (reference (given_more m (left_open qs)) f))
