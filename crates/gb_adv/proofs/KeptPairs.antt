-- Judgments of pairs of oracles: each pair keeps the relation of globals that a form says.
use Rattle.std.proofs.Common.{◌≡◌, true, List, [], Some, None, ap, sym, ◌∙◌, subst}
use Rattle.gb_core.specs.declared.var.Var.TheVariants as var
use Rattle.gb_dist.specs.Coupling.{Coupling}
use Rattle.gb_dist.proofs.Basic.{coupling_weakening}
use Rattle.gb_terms.specs.declared.module.ProcRef.{ProcRef}
use Rattle.gb_terms.specs.declared.term.Term.{Term}
use Rattle.gb_goal.specs.Interfaces.{ProcedureType, procedure_type}
use Rattle.gb_goal.specs.Scope.{Declarations}
use Rattle.gb_meaning.specs.Judgments.{Judge, IsFair, IsTrueUnder, from_frame, outcome_denominator}
use Rattle.gb_meaning.specs.Memory.{Memory, read_local, result_name}
use Rattle.gb_meaning.specs.Program.{Routine}
use Rattle.gb_meaning.specs.Program.Routine.{routine}
use Rattle.gb_meaning.specs.Runs.{parameter_values}
use Rattle.gb_meaning.specs.Setting.{Setting}
use Rattle.gb_meaning.specs.State.{State, between}
use Rattle.gb_meaning.specs.Values.{Global}
use Rattle.gb_meaning.specs.Written.{params_of}
use Rattle.gb_typing.specs.Context.{Context, procedure, reframed}
use Rattle.gb_typing.specs.Fits.{IsSettingOf}
use Rattle.gb_typing.specs.Forms.{and_form}
use Rattle.gb_typing.specs.Meaning.{Stands}
use Rattle.gb_typing.specs.Rules.{outermost}
use Rattle.gb_typing.specs.Scopes.{HaveOwnNames}
use Rattle.gb_typing.specs.Typing.{IsForm}
use Rattle.gb_typing.proofs.Forms.{and_use}
use Rattle.gb_prog.specs.Coupled.{Leaves}
use Rattle.gb_prog.specs.OracleJudged.{AreJudgedAlike}
use Rattle.gb_prog.specs.Kept.{AreKeeping, IsThere}
use Rattle.gb_adv.specs.Equations.{led_by, same_params, same_result}
use Rattle.gb_adv.specs.Oracles.{keep_both}
use Rattle.gb_adv.proofs.Agreed.{held_in, led_make, params_make, same_is}
use Rattle.gb_adv.proofs.Related.{related, related_is}

-- the values of parameters are those of their names
pub held_params : (g : Setting) (r : Routine) (m : Memory) → parameter_values g r m ≡ held_in g m (params_of r)
held_params g (routine ps ls c e) m = λ i. held_in g m ps

module _ (ds : Declarations) (b : Context) (g : Setting) (fits : IsSettingOf b g)
    (knows : (o : ProcRef) (t : ProcedureType) → procedure_type ds None o ≡ Some t → procedure b o ≡ Some t) where
  -- a procedure of which the type is known is there
  abbrev pub oracle_there : (o : ProcRef) (t : ProcedureType) → procedure_type ds None o ≡ Some t → IsThere ds g o
  oracle_there o t e = let z = fits.procedures o t (knows o t e) in record { type = t; known = e; means = z.0; there = z.1; typed = z.2 }

  module _ (outer : IsSettingOf (outermost b) g) (j : Judge) (fair : IsFair g j) (v : State) (i : Term) (w : IsForm (reframed (outermost b) None (Some []) (Some [])) i) (gs : List Global)
      (o p : ProcRef) (t u : ProcedureType) (e : procedure_type ds None o ≡ Some t) (f : procedure_type ds None p ≡ Some u) (names : HaveOwnNames t.params) (others : HaveOwnNames u.params)
      (left_leaves : Leaves g gs (let x = oracle_there o t e in x.means)) (right_leaves : Leaves g gs (let y = oracle_there p u f in y.means)) where
    abbrev l : IsThere ds g o
    l = oracle_there o t e

    abbrev r : IsThere ds g p
    r = oracle_there p u f

    left_params : params_of l.means ≡ t.params
    left_params = let z = l.typed in z.params

    right_params : params_of r.means ≡ u.params
    right_params = let z = r.typed in z.params

    pub pair_keeps : Stands g j v (keep_both i o t p u) → AreKeeping ds g gs (related b g outer j fair v i w) o p
    pair_keeps stands = record {
      left = l;
      right = r;
      left_names = subst HaveOwnNames (sym left_params) names;
      right_names = subst HaveOwnNames (sym right_params) others;
      left_leaves = left_leaves;
      right_leaves = right_leaves;
      judged = judged;
    }
      where
        judged : AreJudgedAlike g (related b g outer j fair v i w) t.result l.means r.means
        judged m n same is =
            subst (λ z. z) (λ k. Coupling (λ a c. (read_local g.types a result_name t.result ≡ read_local g.types c result_name t.result) × (related b g outer j fair v i w a.globals c.globals ≡ true))
            (from_frame g (l.there k) m) (outcome_denominator g (l.there k)) (from_frame g (r.there k) n) (outcome_denominator g (r.there k)))
            (coupling_weakening (λ a c h. ends a c h) (stands m n starts))
          where
            params : held_in g m t.params ≡ held_in g n u.params
            params =
                ap (held_in g m) (sym left_params) ∙ sym (held_params g l.means m) ∙ same ∙ held_params g r.means n ∙ ap (held_in g n) right_params

            starts : IsTrueUnder g j (led_by (same_params t.params u.params) i) (between v m n)
            starts = led_make g j v m n (same_params t.params u.params) i (params_make g j v m n t.params u.params params) (related_is b g outer j fair v i w m n ∙ is)

            ends : (a c : Memory) → IsTrueUnder g j (and_form (same_result t.result) i) (between v a c) →
                (read_local g.types a result_name t.result ≡ read_local g.types c result_name t.result) × (related b g outer j fair v i w a.globals c.globals ≡ true)
            ends a c h =
                let k = and_use g j (same_result t.result) i (between v a c) h in
                ((same_is g j v a c (var.Local result_name) t.result).0 k.0, sym (related_is b g outer j fair v i w a c) ∙ k.1)
