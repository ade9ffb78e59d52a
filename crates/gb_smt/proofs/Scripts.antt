-- The operators of a whole script.
use Rattle.std.proofs.Common.{◌≡◌, pred, [], length, Some, None, sym, ◌∙◌}
use Rattle.gb_terms.specs.declared.term.Term.{Term}
use Rattle.gb_goal.specs.Scope.{Declarations}
use Rattle.gb_meaning.specs.Names.{Name}
use Rattle.gb_eval.specs.declared.script.Script.{Script}
use Rattle.gb_eval.specs.Script.{body_at}
use Rattle.gb_eval.specs.Known.{known_at, known_in, known_of}
use Rattle.gb_eval.specs.Eval.{operators_at, operators_in, operators_of}
use Rattle.gb_eval.proofs.Environments.{in_is, of_is}
use Rattle.gb_eval.proofs.Opened.{open_is, closed_is}
use Rattle.gb_smt.specs.Width.{bound_at, bound_in, bound_of, bound_types}

module _ (s : Script) (ds : Declarations) (p : s.scope.now ≡ ds) (q : s.depth ≡ length ds) where
  pub all_known : known_in s ≡ known_of ds
  all_known = λ i. known_at (p i) (q i)

  pub all_bound : bound_in s ≡ bound_of ds
  all_bound = λ i. bound_at (p i) (q i)

  pub all_operators : operators_in s ≡ operators_of ds
  all_operators = in_is s ∙ (λ i. operators_at (p i) (q i)) ∙ sym (of_is ds)

pub open_bound : (s : Script) (n : Name) (u : Script) (t : Term) → Some t ≡ body_at s.scope.now s.depth n → u.scope.now ≡ s.scope.now → u.depth ≡ pred s.depth → bound_in s n ≡ bound_types (bound_in u) t
open_bound s n u t h e f = open_is s n u t h e f [] bound_types

pub closed_bound : (s : Script) (n : Name) → None ≡ body_at s.scope.now s.depth n → bound_in s n ≡ []
closed_bound s n h = closed_is s n h [] bound_types
