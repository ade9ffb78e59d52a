-- Modules that arguments give, one argument further.
use Rattle.std.proofs.Common.{◌≡◌, true, false, if◌then◌else◌, List, [], ◌∷◌, ◌++◌, refl, ap, sym, ◌∙◌}
use Rattle.std.proofs.lemmas.List.{append_assoc}
use Rattle.gb_terms.specs.declared.term.Term.{Term, out-Term}
use Rattle.gb_goal.specs.Answers.{Answer, ◌>>=◌}
use Rattle.gb_goal.specs.Answers.Answer.{given, refused}
use Rattle.gb_goal.specs.Scope.{Declarations}
use Rattle.gb_goal.specs.declared.scope.Binder.{Binder}
use Rattle.gb_goal.specs.declared.sequent.Sequent.{Sequent}
use Rattle.gb_mods.specs.Meets.{Known}
use Rattle.gb_script.specs.declared.tree.Node.{Node}
use Rattle.gb_script.specs.Tree.{place_of}
use Rattle.gb_elab_stmt.proofs.Gathered.{behind}
use Rattle.gb_instances.specs.Instance.{GivenModule}
use Rattle.gb_elab_mod.specs.Uses.{is_for_module, module_given, modules_given, rest_of, said_of, with_given}

-- one more in front of what is given later
behind_one : {X : Type 0} (xs : List X) (y : X) (a : Answer (List X)) → behind (xs ++ y ∷ []) a ≡ behind xs (a >>= λ ys. given (y ∷ ys))
behind_one xs y (given ys) = ap given (append_assoc xs (y ∷ []) ys)
behind_one xs y (refused w p) = refl

module _ (ds : Declarations) (q : Sequent) (xs : List GivenModule) (ks : List Binder) (f : Term) (a : Node) (es : List Node) where
  abbrev of_module : Answer (List GivenModule)
  of_module = module_given ds q a >>= λ m. modules_given ds q (rest_of ks) f es >>= λ ms. given (with_given a m ms)

  abbrev of_other : Answer (List GivenModule)
  of_other = said_of ds q (out-Term f).head (out-Term f).args a >>= λ g. modules_given ds q (rest_of ks) g es

  -- an argument for a module
  pub module_next : (k : Known) → is_for_module ks ≡ true → module_given ds q a ≡ given k →
      behind (xs ++ (k, place_of a) ∷ []) (modules_given ds q (rest_of ks) f es) ≡ behind xs (modules_given ds q ks f (a ∷ es))
  unfolding modules_given
  module_next k m e =
      behind_one xs (k, place_of a) (modules_given ds q (rest_of ks) f es)
      ∙ ap (λ o. behind xs (o >>= λ m. modules_given ds q (rest_of ks) f es >>= λ ms. given (with_given a m ms))) (sym e)
      ∙ ap (λ b. behind xs (if b then of_module else of_other)) (sym m)

  -- another one
  pub other_next : (g : Term) → is_for_module ks ≡ false → said_of ds q (out-Term f).head (out-Term f).args a ≡ given g →
      behind xs (modules_given ds q (rest_of ks) g es) ≡ behind xs (modules_given ds q ks f (a ∷ es))
  unfolding modules_given
  other_next g m e =
      ap (λ o. behind xs (o >>= λ g. modules_given ds q (rest_of ks) g es)) (sym e)
      ∙ ap (λ b. behind xs (if b then of_module else of_other)) (sym m)
