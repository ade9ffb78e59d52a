-- The modules that are given may be put in a statement's conclusion.
use Rattle.std.proofs.Common.{◌≡◌, ◌⊎◌, inl, inr, Bool, true, false, ◌||◌, if◌then◌else◌, List, [], ◌∷◌, bytes_eq, refl, ap, sym, ◌∙◌, subst}
use Rattle.std.specs.List.{list_any}
use Rattle.std.proofs.lemmas.Bool.{false≢true}
use Rattle.std.proofs.lemmas.Slice.Eq.{bytes_eq-Decides}
use Rattle.gb_core.specs.declared.place.Place.{Place}
use Rattle.gb_core.specs.declared.refusal.Why.TheVariants.{Argument}
use Rattle.gb_terms.specs.declared.decl.Param.{Param}
use Rattle.gb_terms.specs.declared.module.Bind.{Bind}
use Rattle.gb_terms.specs.declared.module.Mexp.{Mexp}
use Rattle.gb_terms.specs.declared.module.Mexp.TheVariants.{Name as named, Apply'}
use Rattle.gb_goal.specs.Answers.{Answer}
use Rattle.gb_goal.specs.Answers.Answer.{given, refused}
use Rattle.gb_goal.specs.Instances.{name_of, stands_for}
use Rattle.gb_goal.specs.Scope as scope
use Rattle.gb_goal.specs.declared.sequent.Sequent.{Sequent}
use Rattle.gb_elab.specs.Globs.{is_abstract}
use Rattle.gb_meaning.specs.Declared.{Declarations, abstract_type, abbreviation, operator, abstract_operator, module_type, concrete_module, abstract_module, axiom_of, lemma, terminating, declared}
use Rattle.gb_meaning.specs.Holds.{EachDeclared}
use Rattle.gb_meaning.specs.Names.{Name}
use Rattle.gb_typing.specs.Context.{Context}
use Rattle.gb_typing.specs.Formulas.{with_module}
use Rattle.gb_typing.specs.Naming.{IsAmong}
use Rattle.gb_typing.specs.Scopes.{IsTypedScope, nothing, context_of, with_declared, with_each}
use Rattle.gb_typing.specs.Sequents.{IsTypedSequent, of_sequent, with_modules}
use Rattle.gb_typing.proofs.Together.{goal_together}
use Rattle.gb_arguments.specs.Arguments.{names_of}
use Rattle.gb_arguments.specs.Led.{IsTypedAgreement, Stays}
use Rattle.gb_instances.specs.Put.{agreement_or, name_put, stands_alone, type_speaks}
use Rattle.gb_arguments.specs.Firm.{IsFirm}
use Rattle.gb_instances.specs.Footprint.{footprint_at}
use Rattle.gb_arguments.proofs.Facts.{judged_form}
use Rattle.gb_arguments.proofs.PutTypes.{or_false}
use Rattle.gb_arguments.proofs.Standable.{may_stand}
use Rattle.gb_arguments.specs.Facts.{EachFits, IsAboutModules}
use Rattle.gb_instances.specs.Instance.{GivenModule, modules_of, params_of, readable, speaks_alone}
use Rattle.gb_arguments.specs.LedScopes.{StatementMayStand, context_put}
use Rattle.gb_arguments.proofs.Fitting.{not_refused}

-- In a firm scope no module's globals may be read together, but those of binders.

none_whole : (ds : Declarations) (c : Context) → EachDeclared IsFirm ds → (a : Name) → c.has_globals a ≡ false → (with_each c ds).has_globals a ≡ false
none_whole [] c w a e = e
none_whole ((n, abstract_module b) ∷ ds) c w a e = absurd w.0
none_whole ((n, axiom_of q) ∷ ds) c w a e = absurd w.0
none_whole ((n, concrete_module m) ∷ ds) c w a e = none_whole ds (with_declared c n (concrete_module m)) w.1 a e
none_whole ((n, abstract_type) ∷ ds) c w a e = none_whole ds c w.1 a e
none_whole ((n, abbreviation x) ∷ ds) c w a e = none_whole ds c w.1 a e
none_whole ((n, operator o) ∷ ds) c w a e = none_whole ds (with_declared c n (operator o)) w.1 a e
none_whole ((n, abstract_operator o) ∷ ds) c w a e = none_whole ds (with_declared c n (abstract_operator o)) w.1 a e
none_whole ((n, module_type t) ∷ ds) c w a e = none_whole ds (with_declared c n (module_type t)) w.1 a e
none_whole ((n, lemma q) ∷ ds) c w a e = none_whole ds c w.1 a e
none_whole ((n, terminating f) ∷ ds) c w a e = none_whole ds c w.1 a e

bound_whole : (bs : List Bind) (c : Context) (a : Name) → (with_modules c bs).has_globals a ≡ true → (c.has_globals a ≡ true) ⊎ IsAmong (names_of bs) a
bound_whole [] c a e = inl e
bound_whole (b ∷ bs) c a e = step (bytes_eq a b.name) refl (bound_whole bs (with_module c b) a e)
  where
    step : (z : Bool) → bytes_eq a b.name ≡ z → ((if z then true else c.has_globals a) ≡ true) ⊎ IsAmong (names_of bs) a → (c.has_globals a ≡ true) ⊎ ((z || list_any (bytes_eq a) (names_of bs)) ≡ true)
    step true h w = inr refl
    step false h w = w

-- each binder is given an abstract module by its name, or isn't spoken of but in equations
abbrev IsAbstractOr : scope.Declarations → Mexp → Bool → Type 0
IsAbstractOr ds e b = (is_abstract ds e ≡ true) ⊎ (b ≡ false)

one_abstract : (ds : scope.Declarations) (e : Mexp) (a : Name) (q : Sequent) (p : Place) → readable ds e a q p ≡ given tt → IsAbstractOr ds e (speaks_alone a q)
one_abstract ds e a q p w = step (is_abstract ds e) refl w
  where
    alone : (b : Bool) → ◌≡◌ {A = Answer (Unit {0})} (if b then refused Argument p else given tt) (given tt) → b ≡ false
    alone true w = not_refused Argument p tt w
    alone false w = refl

    step : (z : Bool) → is_abstract ds e ≡ z → ◌≡◌ {A = Answer (Unit {0})} (if z then given tt else if speaks_alone a q then refused Argument p else given tt) (given tt) → IsAbstractOr ds e (speaks_alone a q)
    step true h w = inl h
    step false h w = inr (alone (speaks_alone a q) w)

module _ (ds : scope.Declarations) (ps : List Param) (es : List Mexp) (q : Sequent) (p : Place) where
  pub each_abstract : (bs : List Bind) (ks : List GivenModule) → EachFits ds ps es q p bs ks → (a : Name) → IsAmong (names_of bs) a →
      IsAbstractOr ds (stands_for (params_of bs) (modules_of ks) a) (speaks_alone a q)
  each_abstract [] ks w a i = absurd (false≢true i)
  each_abstract (b ∷ bs) [] w a i = absurd w
  each_abstract (b ∷ bs) (k ∷ ks) w a i = step (bytes_eq a b.name) refl (each_abstract bs ks w.2 a) i
    where
      step : (t : Bool) → bytes_eq a b.name ≡ t → (IsAmong (names_of bs) a → IsAbstractOr ds (stands_for (params_of bs) (modules_of ks) a) (speaks_alone a q)) →
          (t || list_any (bytes_eq a) (names_of bs)) ≡ true → IsAbstractOr ds (if t then k.0.0 else stands_for (params_of bs) (modules_of ks) a) (speaks_alone a q)
      step true e later i = subst (λ z. IsAbstractOr ds k.0.0 (speaks_alone z q)) (sym ((bytes_eq-Decides a b.name).0 e)) (one_abstract ds k.0.0 b.name q k.1 w.1)
      step false e later i = later i

-- all globals of an abstract module may be read together
pub abstract_whole : (all : scope.Declarations) → IsTypedScope (declared all) → (q : Sequent) (e : Mexp) → is_abstract all e ≡ true → (context_of (declared all)).has_globals (name_of e) ≡ true
abstract_whole all scoped q (named n) k = goal_together all scoped n (record q { modules = [] }) [] k
abstract_whole all scoped q (Apply' n m args) k = absurd (false≢true k)

module _ (ds all : scope.Declarations) (firm : EachDeclared IsFirm (declared ds)) (q : Sequent) (typed : IsTypedSequent (context_of (declared ds)) q) (about : IsAboutModules q)
    (ks : List GivenModule) (p : Place) (fits : EachFits all (params_of q.modules) (modules_of ks) q p q.modules ks) where
  abbrev f : Name → Mexp
  f = stands_for (params_of q.modules) (modules_of ks)

  abbrev H : Name → Type 0
  H a = IsAmong (names_of q.modules) a

  abbrev P : Name → Type 0
  P a = is_abstract all (f a) ≡ true

  abbrev W : Name → Type 0
  W a = (context_of (declared all)).has_globals (name_put (params_of q.modules) (modules_of ks) a) ≡ true

  pub among : (a : Name) → (with_modules (context_of (declared ds)) q.modules).has_globals a ≡ true → H a
  among a e = step (bound_whole q.modules (context_of (declared ds)) a e)
    where
      step : ((context_of (declared ds)).has_globals a ≡ true) ⊎ H a → H a
      step (inl k) = absurd (false≢true (sym (none_whole (declared ds) nothing firm a refl) ∙ k))
      step (inr i) = i

  stays : (e : Mexp) → is_abstract all e ≡ true → Stays all e
  stays e k s r g = ap (λ (b : Bool). if b then g else agreement_or all g s r (footprint_at all e)) k

  -- The modules may be put in, where all globals of abstract ones may be read together, and equations of those of others are typed.
  pub stands : ((a : Name) → P a → W a) → ((a : Name) → H a → is_abstract all (f a) ≡ false → IsTypedAgreement all (context_put ds all q typed ks) (f a)) → StatementMayStand ds all q typed ks
  stands whole agreements =
      may_stand all f (context_put ds all q typed ks) W H P (λ a k. (stays (f a) k, whole a k)) (of_sequent (context_of (declared ds)) q typed.frames)
      (λ a e. let i = among a e in (i, kind a i (is_abstract all (f a)) refl)) q.conclusion
      (let w = judged_form (of_sequent (context_of (declared ds)) q typed.frames) q.conclusion typed.conclusion about.bodies about.front in w.typed)
      (λ a i. said a (each_abstract all (params_of q.modules) (modules_of ks) q p q.modules ks fits a i))
    where
      kind : (a : Name) → H a → (b : Bool) → is_abstract all (f a) ≡ b → P a ⊎ IsTypedAgreement all (context_put ds all q typed ks) (f a)
      kind a i true e = inl e
      kind a i false e = inr (agreements a i e)

      said : (a : Name) → IsAbstractOr all (f a) (speaks_alone a q) → P a ⊎ (stands_alone a q.conclusion ≡ false)
      said a (inl k) = inl k
      said a (inr e) = inr (or_false (list_any (λ x. type_speaks a x.ty) q.logical) (stands_alone a q.conclusion) e).1
