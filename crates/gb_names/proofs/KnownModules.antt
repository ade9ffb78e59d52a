-- What is known of a module expression that is typed is what the declarations and the module around say of it.
use Rattle.std.proofs.Common.{◌≡◌, Bool, true, false, if◌then◌else◌, List, [], ◌∷◌, ◌++◌, map, Option, Some, None, refl, ap, sym, subst, ◌∙◌}
use Rattle.std.proofs.lemmas.List.{map-append}
use Rattle.gb_core.specs.declared.place.Place.{Place}
use Rattle.gb_core.specs.declared.refusal.Why.{Why}
use Rattle.gb_core.specs.declared.refusal.Why.TheVariants.{Argument}
use Rattle.gb_terms.specs.declared.decl.Param.{Param}
use Rattle.gb_terms.specs.declared.module.Mexp.{Mexp, Row_of-Mexp, end_of-Mexp, more_of-Mexp, items-the_row-Mexp, items_hidden-the_row-Mexp-0}
use Rattle.gb_terms.specs.declared.module.Mexp.TheBlock as M
use Rattle.gb_goal.specs.Answers.{Answer, ◌>>=◌, given_or}
use Rattle.gb_goal.specs.Answers.Answer.{given, refused}
use Rattle.gb_goal.specs.Interfaces as interfaces
use Rattle.gb_goal.specs.Interfaces.{Interface, fits, interface_at, interface_of, interfaces_at, lacking, left_over}
use Rattle.gb_goal.specs.Scope.{Declarations, module_type_of}
use Rattle.gb_mods.specs.Meets.{Known, meets_named}
use Rattle.gb_mods.proofs.Meeting.{meeting_fits}
use Rattle.gb_script.specs.declared.head.Head.{Head}
use Rattle.gb_script.specs.declared.head.Head.TheVariants as head
use Rattle.gb_script.specs.declared.tree.Node.{Node}
use Rattle.gb_script.specs.Tree.{head_of, place_of}
use Rattle.gb_names.specs.declared.bindings.Binding.{Binding}
use Rattle.gb_names.specs.Environment.{Name, Environment}
use Rattle.gb_names.specs.Modules.{Given, Read, Reading, all_given, application, applied, bracketed, brackets, expression, fitting, known_module, module_at, named_module, names, next_given, read, read_by, with_given, wholes}
use Rattle.gb_names.specs.Names.{hidden, may_name, no_declared, path, spelled_by}
use Rattle.gb_names.proofs.Nodes.{Known as KnownNode, by_parts, parts, said}
use mathlib.Core.Former.{Count}

given_bind : {A B : Type 0} (a : Answer A) (k : A → Answer B) (y : B) → (a >>= k) ≡ given y → (x : A) × (a ≡ given x) × (k x ≡ given y)
given_bind (given x) k y h = (x, refl, h)
given_bind (refused w p) k y h = cc

given_is : {A : Type 0} (x y : A) → given x ≡ given y → x ≡ y
given_is x y h = cc

given_some : {A : Type 0} (o : Option A) (w : Why) (p : Place) (x : A) → given_or o w p ≡ given x → o ≡ Some x
given_some None w p x h = cc
given_some (Some y) w p x h = ap Some (given_is y x h)

else_given : {A : Type 0} (b : Bool) (w : Why) (p : Place) (a : Answer A) (x : A) → (if b then refused w p else a) ≡ given x → a ≡ given x
else_given true w p a x h = cc
else_given false w p a x h = h

then_given : {A : Type 0} (b : Bool) (w : Why) (p : Place) (a : Answer A) (x : A) → (if b then a else refused w p) ≡ given x → a ≡ given x
then_given true w p a x h = h
then_given false w p a x h = cc

-- what several modules leave
left_more : (ds : Declarations) (ps qs : List Param) (is js : List (Option Interface)) → left_over ds ps is ≡ Some qs → left_over ds ps (is ++ js) ≡ left_over ds qs js
left_more ds ps qs [] js e = ap (λ o. rest o) e
  where
    rest : Option (List Param) → Option (List Param)
    rest None = None
    rest (Some rs) = left_over ds rs js
left_more ds [] qs (i ∷ is) js e = cc
left_more ds (p ∷ ps) qs (i ∷ is) js e = step (fits ds i (module_type_of ds p.ty)) (left_more ds ps qs is js) e
  where
    step : (b : Bool) → (left_over ds ps is ≡ Some qs → left_over ds ps (is ++ js) ≡ left_over ds qs js) → (if b then left_over ds ps is else None) ≡ Some qs →
        (if b then left_over ds ps (is ++ js) else None) ≡ left_over ds qs js
    step true later h = later h
    step false later h = cc

module _ (at : Environment) (bound : List Binding) where
  abbrev known_of : Mexp → Option Interface
  known_of e = interface_at at.declared at.inside e

  -- what is known of a module expression is what it is
  abbrev pub IsKnown : Known → Type 0
  IsKnown k = known_of k.0 ≡ Some k.1

  abbrev pub IsRight : Reading → Type 0
  IsRight r = (k : Known) → r at bound ≡ given k → IsKnown k

  abbrev pub AreRight : List (Node × Reading) → Type 0
  AreRight [] = Unit {0}
  AreRight (t ∷ ts) = IsRight t.1 × AreRight ts

  row_known : {n : Count} (r : Row_of-Mexp n) → interfaces_at at.declared at.inside r ≡ map known_of (items-the_row-Mexp _ r)
  row_known end_of-Mexp = refl
  row_known (more_of-Mexp m r) = ap (λ z. known_of m ∷ z) (row_known r)

  list_known : (es : List Mexp) → interfaces_at at.declared at.inside (M.hidden-the_row-Mexp-0 es) ≡ map known_of es
  list_known es = row_known (M.hidden-the_row-Mexp-0 es) ∙ ap (map known_of) (items_hidden-the_row-Mexp-0 es)

  -- a module that is given for a parameter fits it
  fitting_fits : (q : Param) (k : Known) (p : Place) (m : Mexp) → fitting at q k p ≡ given m → (m ≡ k.0) × (fits at.declared (Some k.1) (module_type_of at.declared q.ty) ≡ true)
  fitting_fits q k p m e =
      let z = given_bind (meets_named at.declared at.inside k q.ty p) (λ _. given k.0) m e in
      (sym (given_is k.0 m z.2), meeting_fits at.declared at.inside k q.ty p z.1)

  module _ (ps : List Param) where
    -- modules that are given for the first of these parameters, and those that are left
    abbrev Leaves : Given → Type 0
    Leaves g = left_over at.declared ps (map known_of g.0) ≡ Some g.1

    next_leaves : (ms : List Mexp) (qs : List Param) (t : Node × Reading) → IsRight t.1 → Leaves (ms, qs) → (g : Given) → next_given at bound ms qs t ≡ given g → Leaves g
    next_leaves ms [] t r l g e = cc
    next_leaves ms (q ∷ qs) t r l g e =
        let z = given_bind (t.1 at bound) (λ k. fitting at q k (place_of t.0) >>= λ m. given (ms ++ m ∷ [], qs)) g e in
        let y = given_bind (fitting at q z.0 (place_of t.0)) (λ m. given (ms ++ m ∷ [], qs)) g z.2 in
        let f = fitting_fits q z.0 (place_of t.0) y.0 y.1 in
        let i = r z.0 z.1 in
        let h : left_over at.declared (q ∷ qs) (known_of y.0 ∷ []) ≡ Some qs = λ j. if ((ap (λ m. fits at.declared (known_of m) (module_type_of at.declared q.ty)) f.0 ∙ (ap (λ o. fits at.declared o (module_type_of at.declared q.ty)) i ∙ f.1)) j) then Some qs else None in
        subst Leaves (given_is (ms ++ y.0 ∷ [], qs) g y.2)
        (ap (left_over at.declared ps) (map-append known_of ms (y.0 ∷ [])) ∙ (left_more at.declared ps (q ∷ qs) (map known_of ms) (known_of y.0 ∷ []) l ∙ h))

    all_leave : (g : Given) (ts : List (Node × Reading)) → AreRight ts → Leaves g → (h : Given) → all_given at bound g ts ≡ given h → Leaves h
    unfolding all_given
    all_leave g [] r l h e = subst Leaves (given_is g h e) l
    all_leave g (t ∷ ts) r l h e =
        let z = given_bind (next_given at bound g.0 g.1 t) (λ f. all_given at bound f ts) h e in
        all_leave z.0 ts r.1 (next_leaves g.0 g.1 t r.0 l z.0 z.1) h z.2

  -- a name with modules that are given for parameters
  given_known : (x : Name) (i : Interface) (g : Given) → interface_of at.declared at.inside x ≡ Some i → left_over at.declared i.lacks (map known_of g.0) ≡ Some g.1 → IsKnown (with_given x i g)
  given_known x i ([], qs) e l = e ∙ ap Some (λ j. record i { lacks = (some_is i.lacks qs l j) })
    where
      some_is : (ls ms : List Param) → Some ls ≡ Some ms → ls ≡ ms
      some_is ls ms h = cc
  given_known x i (m ∷ ms, qs) e l =
      ap (interfaces.given at.declared (interface_of at.declared at.inside x)) (list_known (m ∷ ms))
      ∙ (ap (λ o. interfaces.given at.declared o (map known_of (m ∷ ms))) e ∙ ap (lacking i) l)

  named_known : (x : Name) (p : Place) (i : Interface) → named_module at bound x p ≡ given i → interface_of at.declared at.inside x ≡ Some i
  unfolding named_module known_module
  named_known x p i e =
      let z = given_bind (known_module at bound x p) (λ j. may_name at x p >>= λ _. given j) i e in
      let y = given_bind (may_name at x p) (λ _. given z.0) i z.2 in
      let k = else_given (hidden at bound x) Argument p (given_or (interface_of at.declared at.inside x) (no_declared at.inside at.declared x) p) z.0 z.1 in
      given_some (interface_of at.declared at.inside x) (no_declared at.inside at.declared x) p i (k ∙ y.2)

  pub applied_right : (x : Name) (p : Place) (ts : List (Node × Reading)) → AreRight ts → IsRight (applied x p ts)
  unfolding applied
  applied_right x p ts r k e =
      let z = given_bind (named_module at bound x p) (λ i. all_given at bound ([], i.lacks) ts >>= λ g. given (with_given x i g)) k e in
      let y = given_bind (all_given at bound ([], z.0.lacks) ts) (λ g. given (with_given x z.0 g)) k z.2 in
      subst IsKnown (given_is (with_given x z.0 y.0) k y.2)
      (given_known x z.0 y.0 (named_known x p z.0 z.1) (all_leave z.0.lacks ([], z.0.lacks) ts r refl y.0 y.1))

  -- what a part of a text and its parts are as module expressions
  abbrev pub AreKnown : Read → Type 0
  AreKnown r = IsRight r.whole × AreRight r.parts

  refused_right : (p : Place) → IsRight (λ a b. refused Argument p)
  refused_right p k e = cc

  bracketed_right : (x : Name) (h : Head) (ts : List (Node × Reading)) (p : Place) → AreRight ts → IsRight (bracketed x h ts p)
  bracketed_right x h ts p r k e = applied_right x p ts r k (then_given (brackets h) Argument p (applied x p ts at bound) k e)

  module _ (ks : List (KnownNode read_by AreKnown)) where
    all_right : AreRight (wholes (parts read_by AreKnown ks))
    all_right = each ks
      where
        each : (ks : List (KnownNode read_by AreKnown)) → AreRight (wholes (parts read_by AreKnown ks))
        each [] = tt
        each (k ∷ ks) = (k.1.0, each ks)

  application_right : (ks : List (KnownNode read_by AreKnown)) (p : Place) → IsRight (application (parts read_by AreKnown ks) p)
  application_right [] p k e = cc
  application_right (m ∷ []) p k e = cc
  application_right (m ∷ b ∷ []) p k e =
      bracketed_right (spelled_by m.0) (head_of b.0) (said read_by b.0).parts p b.1.1 k
      (then_given (names (head_of m.0)) Argument p (bracketed (spelled_by m.0) (head_of b.0) (said read_by b.0).parts p at bound) k e)
  application_right (m ∷ b ∷ c ∷ ks) p k e = cc

  expression_right : (h : Head) (x : Name) (ks : List (KnownNode read_by AreKnown)) (p : Place) → IsRight (expression h x (parts read_by AreKnown ks) p)
  unfolding expression
  expression_right head.Name x ks p k e = applied_right x p [] tt k e
  expression_right head.Path x ks p k e = applied_right (path (map (λ t. t.0) (parts read_by AreKnown ks))) p [] tt k e
  expression_right head.ModuleExpression x [] p k e = cc
  expression_right head.ModuleExpression x (m ∷ ks) p k e = applied_right (spelled_by m.0) (place_of m.0) (wholes (parts read_by AreKnown ks)) (all_right ks) k e
  expression_right head.Apply x ks p k e = application_right ks p k e
  expression_right _ x ks p k e = refused_right p k e

  -- what is known of a module expression that is typed
  pub module_known : (t : Node) → IsRight (module_at t)
  unfolding read
  module_known t = (by_parts read_by AreKnown (λ h x ks p. (expression_right h x ks p, all_right ks)) t).0
