-- What a statement says of modules that can be written is named.
use Rattle.std.proofs.Common.{◌≡◌, List, [], ◌∷◌, map, subst}
use Rattle.std.specs.List.{AllByRecursion}
use Rattle.gb_core.specs.declared.place.Place.{Place}
use Rattle.gb_terms.specs.declared.decl.Param.{Param}
use Rattle.gb_terms.specs.declared.decl.TypedName.{TypedName}
use Rattle.gb_terms.specs.declared.module.Mexp.{Mexp}
use Rattle.gb_goal.specs.Answers.Answer.{given}
use Rattle.gb_goal.specs.Scope.{Declarations}
use Rattle.gb_goal.specs.declared.sequent.Sequent.{Sequent}
use Rattle.gb_instances.specs.Instance.{GivenModule, each_fits, instance_of, logical_put, modules_of, params_of, put_in_statement}
use Rattle.gb_instances.specs.Put.{put}
use Rattle.gb_print_names.specs.declared.bound_names.Enumeration.{Enumeration}
use Rattle.gb_shown.specs.Named.{IsNamedVariable}
use Rattle.gb_shown.specs.Scopes.{IsNamedScope, IsNamedStatement}
use Rattle.gb_shown.proofs.Given.{given_bind, given_is}
use Rattle.gb_shown.proofs.Instances.{EachWritten}
use Rattle.gb_shown.proofs.PutNames.{logical_put_named, put_named}
use Rattle.gb_shown.proofs.Rows.{goal_named}

module _ (es : List Enumeration) (ds : Declarations) (k : IsNamedScope es ds) where
  module _ (ps : List Param) (ms : List Mexp) (written : EachWritten ms) where
    variables_put_named : (vs : List TypedName) → AllByRecursion IsNamedVariable vs → AllByRecursion IsNamedVariable (map (logical_put ps ms) vs)
    variables_put_named [] h = tt
    variables_put_named (v ∷ vs) h = ((h.0.0, logical_put_named ps ms written v h.0), variables_put_named vs h.1)

    -- a statement with these modules put in
    statement_put_named : (s : Sequent) → IsNamedStatement es s → IsNamedStatement es (put_in_statement ds ps ms s)
    statement_put_named s h =
        let n = h.sequent in
        let f = put_named ps ms written es ds k s.conclusion h.conclusion in
        record {
          sequent = record {
            variables = variables_put_named s.logical n.variables;
            memories = n.memories;
            modules = tt;
            hyps = n.hyps;
            conclusion = goal_named es (put ds ps ms s.conclusion) f;
          };
          conclusion = f;
        }

  -- what it says of modules
  pub instance_is_named : (s : Sequent) → IsNamedStatement es s → (gs : List GivenModule) → EachWritten (modules_of gs) → (p : Place) (r : Sequent) → instance_of ds s gs p ≡ given r → IsNamedStatement es r
  unfolding instance_of
  instance_is_named s h gs written p r e =
      let a = given_bind (each_fits ds (params_of s.modules) (modules_of gs) s p s.modules gs) (λ _. given (put_in_statement ds (params_of s.modules) (modules_of gs) s)) r e in
      subst (IsNamedStatement es) (given_is _ r a.2) (statement_put_named (params_of s.modules) (modules_of gs) written s h)
