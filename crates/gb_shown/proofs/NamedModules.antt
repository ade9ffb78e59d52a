-- Module expressions that a text writes can be written again, and what is known of their modules is named.
use Rattle.std.proofs.Common.{◌≡◌, true, List, [], ◌∷◌, ◌++◌, map, subst}
use Rattle.gb_core.specs.declared.place.Place.{Place}
use Rattle.gb_core.specs.declared.refusal.Why.TheVariants.{Argument}
use Rattle.gb_terms.specs.declared.decl.Param.{Param}
use Rattle.gb_terms.specs.declared.module.Mexp.{Mexp}
use Rattle.gb_goal.specs.Answers.{◌>>=◌, given_or}
use Rattle.gb_goal.specs.Answers.Answer.{given}
use Rattle.gb_goal.specs.Interfaces.{Interface, interface_of}
use Rattle.gb_mods.specs.Meets.{Known, meets_named}
use Rattle.gb_script.specs.declared.head.Head.{Head}
use Rattle.gb_script.specs.declared.head.Head.TheVariants as head
use Rattle.gb_script.specs.declared.tree.Node.{Node}
use Rattle.gb_script.specs.Tree.{head_of, place_of}
use Rattle.gb_names.specs.declared.bindings.Binding.{Binding}
use Rattle.gb_names.specs.Environment.{Name, Environment}
use Rattle.gb_names.specs.Modules.{Given, Read, Reading, all_given, application, applied, bracketed, brackets, complete, expression, fitting, known_module, lacks_none, module_at, named_module, names, next_given, read, read_by, whole_module, with_given, with_modules, wholes}
use Rattle.gb_names.specs.Names.{hidden, may_name, no_declared, path, spelled_by}
use Rattle.gb_names.proofs.Nodes.{Known as KnownNode, by_parts, parts, said}
use Rattle.gb_print_names.specs.declared.bound_names.Enumeration.{Enumeration}
use Rattle.gb_print.specs.Written.{is_path, IsWrittenModule}
use Rattle.gb_shown.specs.Scopes.{IsNamedInterface, IsNamedSetting}
use Rattle.gb_shown.proofs.Given.{given_bind, given_is, if_allowed, if_refused, some_given, not_given}
use Rattle.gb_shown.proofs.Instances.{EachWritten, both_written, more_written, name_written}
use Rattle.gb_shown.proofs.Interfaces.{name_known}

-- a module expression, and what is known of the module
pub record IsNamedKnown (k : Known) : Type 0 where
  pub written : IsWrittenModule [] k.0
  pub typed : IsNamedInterface k.1

module _ (es : List Enumeration) (at : Environment) (fit : IsNamedSetting es at) (bound : List Binding) where
  abbrev IsRight : Reading → Type 0
  IsRight r = (k : Known) → r at bound ≡ given k → IsNamedKnown k

  abbrev AreRight : List (Node × Reading) → Type 0
  AreRight [] = Unit {0}
  AreRight (t ∷ ts) = IsRight t.1 × AreRight ts

  -- a module that is given for a parameter is the one that is named
  fitting_written : (q : Param) (k : Known) (p : Place) → IsNamedKnown k → (m : Mexp) → fitting at q k p ≡ given m → IsWrittenModule [] m
  fitting_written q k p n m e = let z = given_bind (meets_named at.declared at.inside k q.ty p) (λ _. given k.0) m e in subst (IsWrittenModule []) (given_is k.0 m z.2) n.written

  next_written : (ms : List Mexp) (qs : List Param) (t : Node × Reading) → IsRight t.1 → EachWritten ms → (g : Given) → next_given at bound ms qs t ≡ given g → EachWritten g.0
  next_written ms [] t r w g e = absurd (not_given _ _ g e)
  next_written ms (q ∷ qs) t r w g e =
      let z = given_bind (t.1 at bound) (λ k. fitting at q k (place_of t.0) >>= λ m. given (ms ++ m ∷ [], qs)) g e in
      let y = given_bind (fitting at q z.0 (place_of t.0)) (λ m. given (ms ++ m ∷ [], qs)) g z.2 in
      subst (λ (h : Given). EachWritten h.0) (given_is (ms ++ y.0 ∷ [], qs) g y.2) (both_written ms (y.0 ∷ []) w (fitting_written q z.0 (place_of t.0) (r z.0 z.1) y.0 y.1, tt))

  all_written : (g : Given) (ts : List (Node × Reading)) → AreRight ts → EachWritten g.0 → (h : Given) → all_given at bound g ts ≡ given h → EachWritten h.0
  unfolding all_given
  all_written g [] r w h e = subst (λ (z : Given). EachWritten z.0) (given_is g h e) w
  all_written g (t ∷ ts) r w h e =
      let z = given_bind (next_given at bound g.0 g.1 t) (λ f. all_given at bound f ts) h e in all_written z.0 ts r.1 (next_written g.0 g.1 t r.0 w z.0 z.1) h z.2

  module_named : (x : Name) (p : Place) (i : Interface) → named_module at bound x p ≡ given i → (is_path x ≡ true) × IsNamedInterface i
  unfolding named_module known_module
  module_named x p i e =
      let z = given_bind (known_module at bound x p) (λ j. may_name at x p >>= λ _. given j) i e in
      let y = given_bind (may_name at x p) (λ _. given z.0) i z.2 in
      let k = if_refused (hidden at bound x) Argument p (given_or (interface_of at.declared at.inside x) (no_declared at.inside at.declared x) p) z.0 z.1 in
      let there = some_given (interface_of at.declared at.inside x) (no_declared at.inside at.declared x) p z.0 k.1 in
      subst (λ (j : Interface). (is_path x ≡ true) × IsNamedInterface j) (given_is z.0 i y.2) (name_known es at.declared fit.scope at.inside fit.around x z.0 there)

  pub applied_named : (x : Name) (p : Place) (ts : List (Node × Reading)) → AreRight ts → IsRight (applied x p ts)
  unfolding applied
  applied_named x p ts r k e =
      let z = given_bind (named_module at bound x p) (λ i. all_given at bound ([], i.lacks) ts >>= λ g. given (with_given x i g)) k e in
      let y = given_bind (all_given at bound ([], z.0.lacks) ts) (λ g. given (with_given x z.0 g)) k z.2 in
      let n = module_named x p z.0 z.1 in
      subst IsNamedKnown (given_is (with_given x z.0 y.0) k y.2)
      (record { written = more_written _ (name_written x n.0) y.0.0 (all_written ([], z.0.lacks) ts r tt y.0 y.1); typed = n.1 })

  -- what a part of a text and its parts are as module expressions
  abbrev AreKnown : Read → Type 0
  AreKnown r = IsRight r.whole × AreRight r.parts

  all_right : (ks : List (KnownNode read_by AreKnown)) → AreRight (wholes (parts read_by AreKnown ks))
  all_right [] = tt
  all_right (k ∷ ks) = (k.1.0, all_right ks)

  bracketed_right : (x : Name) (h : Head) (ts : List (Node × Reading)) (p : Place) → AreRight ts → IsRight (bracketed x h ts p)
  bracketed_right x h ts p r k e = applied_named x p ts r k (if_allowed (brackets h) (applied x p ts at bound) Argument p k e).1

  application_right : (ks : List (KnownNode read_by AreKnown)) (p : Place) → IsRight (application (parts read_by AreKnown ks) p)
  application_right [] p k e = cc
  application_right (m ∷ []) p k e = cc
  application_right (m ∷ b ∷ []) p k e =
      bracketed_right (spelled_by m.0) (head_of b.0) (said read_by b.0).parts p b.1.1 k
      (if_allowed (names (head_of m.0)) (bracketed (spelled_by m.0) (head_of b.0) (said read_by b.0).parts p at bound) Argument p k e).1
  application_right (m ∷ b ∷ c ∷ ks) p k e = cc

  expression_right : (h : Head) (x : Name) (ks : List (KnownNode read_by AreKnown)) (p : Place) → IsRight (expression h x (parts read_by AreKnown ks) p)
  unfolding expression
  expression_right head.Name x ks p k e = applied_named x p [] tt k e
  expression_right head.Path x ks p k e = applied_named (path (map (λ t. t.0) (parts read_by AreKnown ks))) p [] tt k e
  expression_right head.ModuleExpression x [] p k e = cc
  expression_right head.ModuleExpression x (m ∷ ks) p k e = applied_named (spelled_by m.0) (place_of m.0) (wholes (parts read_by AreKnown ks)) (all_right ks) k e
  expression_right head.Apply x ks p k e = application_right ks p k e
  expression_right _ x ks p k e = cc

  pub expression_named : (t : Node) → IsRight (module_at t)
  unfolding read
  expression_named t = (by_parts read_by AreKnown (λ h x ks p. (expression_right h x ks p, all_right ks)) t).0

  pub each_named : (ts : List Node) → AreRight (with_modules ts)
  each_named [] = tt
  each_named (t ∷ ts) = (expression_named t, each_named ts)

  -- a module that lacks nothing
  pub complete_written : (k : Known) (p : Place) → IsNamedKnown k → (m : Mexp) → complete k p ≡ given m → IsWrittenModule [] m
  complete_written k p n m e = let z = given_bind (lacks_none k.1.lacks p) (λ _. given k.0) m e in subst (IsWrittenModule []) (given_is k.0 m z.2) n.written

  pub whole_written : (t : Node) (m : Mexp) → whole_module at bound t ≡ given m → IsWrittenModule [] m
  whole_written t m e =
      let k = given_bind (module_at t at bound) (λ k. complete k (place_of t)) m e in complete_written k.0 (place_of t) (expression_named t k.0 k.1) m k.2
