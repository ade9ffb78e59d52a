-- Modules that are given for parameters, one after another.
use Rattle.std.proofs.Common.{◌≡◌, ℕ, ◌+◌, ◌<◌, ◌≤◌, List, [], ◌∷◌, ◌++◌, length, get_or, drop, refl, ap, sym, ◌∙◌, arith}
use Rattle.gb_core.specs.declared.place.Place.{Place}
use Rattle.gb_core.specs.declared.refusal.Refused.{Refused}
use Rattle.gb_core.specs.declared.refusal.Why.TheVariants.{Argument}
use Rattle.gb_terms.specs.declared.decl.Param.{Param}
use Rattle.gb_terms.specs.declared.module.Mexp.{Mexp}
use Rattle.gb_goal.specs.Answers.{Answer, ◌>>=◌, Fails}
use Rattle.gb_goal.specs.Answers.Answer.{given, refused}
use Rattle.gb_goal.specs.Interfaces.{Interface}
use Rattle.gb_mods.specs.Meets.{Known}
use Rattle.gb_script.specs.declared.tree.Node.{Node}
use Rattle.gb_script.specs.Tree.{place_of}
use Rattle.gb_names.specs.declared.bindings.Binding.{Binding}
use Rattle.gb_names.specs.Environment.{Environment, Name}
use Rattle.gb_names.specs.Modules.{Given, Reading, all_given, applied, fitting, module_at, named_module, next_given, with_given, with_modules}
use Rattle.gb_names.proofs.Answers.{fails_as, leads_on, passes}
use Rattle.gb_names.proofs.Parts.{left}

module _ (at : Environment) (bound : List Binding) where
  -- one more module, at which a loop stands, and those behind it
  pub one_given : (g h : Given) (ts : List Node) (i : ℕ) (t : Node) → i < length ts → t ≡ get_or ts i t → next_given at bound g.0 g.1 (t, module_at t) ≡ given h
      → all_given at bound h (with_modules (drop (i + 1) ts)) ≡ all_given at bound g (with_modules (drop i ts))
  unfolding all_given
  one_given g h ts i t l e k =
      sym (leads_on (next_given at bound g.0 g.1 (t, module_at t)) (λ f. all_given at bound f (with_modules (drop (i + 1) ts))) h k)
      ∙ ap (λ us. all_given at bound g (with_modules us)) (sym (left ts i t l e))

  -- .. which is refused
  pub none_given : (g : Given) (ts : List Node) (i : ℕ) (t : Node) (e : Refused) → i < length ts → t ≡ get_or ts i t → Fails (next_given at bound g.0 g.1 (t, module_at t)) e
      → Fails (all_given at bound g (with_modules (drop i ts))) e
  unfolding all_given
  none_given g ts i t e l h k =
      fails_as _ _ e (ap (λ us. all_given at bound g (with_modules us)) (left ts i t l h))
      (passes (next_given at bound g.0 g.1 (t, module_at t)) (λ f. all_given at bound f (with_modules (drop (i + 1) ts))) e k)

  pub too_many : (ms : List Mexp) (qs : List Param) (t : Node) → length qs < 1 → next_given at bound ms qs (t, module_at t) ≡ refused Argument (place_of t)
  too_many ms [] t h = refl
  too_many ms (q ∷ qs) t h = absurd (omega (arith, h))

  -- what is given for a parameter
  abbrev pub fitted : List Mexp → List Param → Mexp → Answer Given
  fitted ms qs m = given (ms ++ m ∷ [], drop 1 qs)

  abbrev pub then_fitted : List Mexp → List Param → Param → Node → Known → Answer Given
  then_fitted ms qs q t k = fitting at q k (place_of t) >>= fitted ms qs

  pub next_is : (ms : List Mexp) (qs : List Param) (q : Param) (t : Node) → 1 ≤ length qs → q ≡ get_or qs 0 q
      → next_given at bound ms qs (t, module_at t) ≡ (module_at t at bound >>= then_fitted ms qs q t)
  next_is ms [] q t h e = absurd (omega (arith, h))
  next_is ms (r ∷ rs) q t h e = ap (λ z. module_at t at bound >>= then_fitted ms (r ∷ rs) z t) (sym e)

  pub no_more : (g : Given) → all_given at bound g [] ≡ given g
  unfolding all_given
  no_more g = refl

  -- a module that is applied, from what it is without arguments and from what is given
  pub applied_is : (x : Name) (p : Place) (ts : List (Node × Reading)) (i : Interface) (g : Given) → named_module at bound x p ≡ given i → all_given at bound ([], i.lacks) ts ≡ given g
      → applied x p ts at bound ≡ given (with_given x i g)
  unfolding applied
  applied_is x p ts i g h k =
      leads_on (named_module at bound x p) (λ i. all_given at bound ([], i.lacks) ts >>= λ g. given (with_given x i g)) i h
      ∙ leads_on (all_given at bound ([], i.lacks) ts) (λ g. given (with_given x i g)) g k

  pub applied_unnamed : (x : Name) (p : Place) (ts : List (Node × Reading)) (e : Refused) → Fails (named_module at bound x p) e → Fails (applied x p ts at bound) e
  unfolding applied
  applied_unnamed x p ts e h = passes (named_module at bound x p) (λ i. all_given at bound ([], i.lacks) ts >>= λ g. given (with_given x i g)) e h

  pub applied_ungiven : (x : Name) (p : Place) (ts : List (Node × Reading)) (i : Interface) (e : Refused) → named_module at bound x p ≡ given i → Fails (all_given at bound ([], i.lacks) ts) e
      → Fails (applied x p ts at bound) e
  unfolding applied
  applied_ungiven x p ts i e h k =
      fails_as _ _ e (leads_on (named_module at bound x p) (λ i. all_given at bound ([], i.lacks) ts >>= λ g. given (with_given x i g)) i h)
      (passes (all_given at bound ([], i.lacks) ts) (λ g. given (with_given x i g)) e k)
