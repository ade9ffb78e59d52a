-- All globals of an abstract module may be read together where the module is declared.
use Rattle.std.proofs.Common.{◌≡◌, Bool, true, false, if◌then◌else◌, List, [], ◌∷◌, ◌++◌, Some, is_some, bytes_eq, refl, ap, ◌∙◌}
use Rattle.gb_terms.specs.declared.decl.TypedName.{TypedName}
use Rattle.gb_terms.specs.declared.module.Bind.{Bind}
use Rattle.gb_goal.specs.Scope as scope
use Rattle.gb_goal.specs.Scope.{abstract_of, as_abstract, entry_of}
use Rattle.gb_goal.specs.declared.scope.Entry.{Entry}
use Rattle.gb_goal.specs.declared.scope.Entry.TheVariants as entry
use Rattle.gb_goal.specs.declared.sequent.Sequent.{Sequent}
use Rattle.gb_meaning.specs.Names.{Name}
use Rattle.gb_meaning.specs.Declared.{Declarations, declaration_of, declared}
use Rattle.gb_typing.specs.Context.{Context}
use Rattle.gb_typing.specs.Formulas.{with_module}
use Rattle.gb_typing.specs.Scopes.{nothing, with_declared, with_each, context_of, IsDeclared, AreTypedAfter, IsTypedScope}
use Rattle.gb_typing.specs.Sequents.{of_sequent, with_modules}

-- a further abstract module leaves those that may be read together
pub one_together : (c : Context) (b : Bind) (n : Name) → c.has_globals n ≡ true → (with_module c b).has_globals n ≡ true
one_together c b n h = step (bytes_eq n b.name)
  where
    step : (z : Bool) → (if z then true else c.has_globals n) ≡ true
    step true = refl
    step false = h

together_kept : (c : Context) (k : Name) (e : Entry) (n : Name) → c.has_globals n ≡ true → (with_declared c k (declaration_of e)).has_globals n ≡ true
together_kept c k (entry.AbstractModule b) n h = one_together c b n h
together_kept c k _ n h = h

together_behind : (ds : scope.Declarations) (c : Context) (n : Name) → c.has_globals n ≡ true → (with_each c (declared ds)).has_globals n ≡ true
together_behind [] c n h = h
together_behind ((k, e) ∷ ds) c n h = together_behind ds (with_declared c k (declaration_of e)) n (together_kept c k e n h)

together_within : (c : Context) (bs : List Bind) (n : Name) → c.has_globals n ≡ true → (with_modules c bs).has_globals n ≡ true
together_within c [] n h = h
together_within c (b ∷ bs) n h = together_within (with_module c b) bs n (one_together c b n h)

together_here : (c : Context) (k : Name) (e : Entry) (n : Name) → IsDeclared c k (declaration_of e) → bytes_eq n k ≡ true → is_some (as_abstract (Some e)) ≡ true →
    (with_declared c k (declaration_of e)).has_globals n ≡ true
together_here c k (entry.AbstractModule b) n w i h = ap (λ (x : Name). if bytes_eq n x then true else c.has_globals n) w.0 ∙ ap (λ (z : Bool). if z then true else c.has_globals n) i
together_here c k _ n w i h = cc

together_after : (ds : scope.Declarations) (before : Declarations) (c : Context) → AreTypedAfter c before (declared ds) → (n : Name) → is_some (abstract_of ds n) ≡ true →
    (with_each c (declared ds)).has_globals n ≡ true
together_after [] before c w n g = cc
together_after ((k, e) ∷ ds) before c w n g =
    let x = declaration_of e in step (together_after ds (before ++ (k, x) ∷ []) (with_declared c k x) w.2 n) (bytes_eq n k) refl g
  where
    step : (is_some (abstract_of ds n) ≡ true → (with_each (with_declared c k (declaration_of e)) (declared ds)).has_globals n ≡ true) → (b : Bool) → bytes_eq n k ≡ b →
        is_some (as_abstract (if b then Some e else entry_of ds n)) ≡ true → (with_each (with_declared c k (declaration_of e)) (declared ds)).has_globals n ≡ true
    step rest true i f = together_behind ds (with_declared c k (declaration_of e)) n (together_here c k e n w.1 i f)
    step rest false i f = rest f

module _ (ds : scope.Declarations) (scoped : IsTypedScope (declared ds)) (n : Name) where
  -- in the context of the declarations
  pub all_together : is_some (abstract_of ds n) ≡ true → (context_of (declared ds)).has_globals n ≡ true
  all_together e = together_after ds [] nothing scoped n e

  -- and in that of a goal over them
  pub goal_together : (q : Sequent) (fs : List (List TypedName)) → is_some (abstract_of ds n) ≡ true → (of_sequent (context_of (declared ds)) q fs).has_globals n ≡ true
  goal_together q fs e = together_within (context_of (declared ds)) q.modules n (all_together e)
