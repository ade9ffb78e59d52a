-- The samplings that end a well-typed body, and its locals.
use Rattle.std.proofs.Common.{◌≡◌, ◌-◌, ℕ, zero, suc, Bool, true, false, if◌then◌else◌, List, [], ◌∷◌, ◌++◌, length, slice_get, flat_map, Option, Some, None, option_map, bytes_eq, refl, ap, sym, ◌∙◌, subst, arith}
use Rattle.std.proofs.lemmas.Slice.Eq.{bytes_eq-Decides}
use Rattle.gb_core.specs.declared.ty.Ty.{Ty, out-Ty, roll-Ty, end_of-Ty, more_of-Ty}
use Rattle.gb_core.specs.declared.ty.Ty.TheViews.{roll-out-Ty}
use Rattle.gb_core.specs.declared.ty.Ty.TheVariants as ty
use Rattle.gb_core.specs.declared.ty.Ty.TheOpen as ty_layer
use Rattle.gb_core.specs.declared.var.Var.{Var}
use Rattle.gb_core.specs.declared.var.Var.TheVariants as var
use Rattle.gb_terms.specs.declared.decl.TypedName.{TypedName}
use Rattle.gb_terms.specs.declared.module.ProcRef.{ProcRef}
use Rattle.gb_goal.specs.Scope as scope
use Rattle.gb_goal.specs.Interfaces.{procedure_type}
use Rattle.gb_terms.specs.declared.op.Side.{Side}
use Rattle.gb_terms.specs.declared.op.Side.TheVariants as side
use Rattle.gb_terms.specs.declared.term.Cmd.{Cmd}
use Rattle.gb_terms.specs.declared.term.Instr.{Instr, Row_of-Instr, end_of-Instr, more_of-Instr}
use Rattle.gb_terms.specs.declared.term.Term.{Term, out-Term, Row_of-Term, end_of-Term, more_of-Term}
use Rattle.gb_terms.specs.declared.term.Head.TheVariants.{Assign, Sample, Call', If', While'}
use Rattle.gb_meaning.specs.Names.{Name}
use Rattle.gb_meaning.specs.Operators.{outcome_type}
use Rattle.gb_meaning.specs.Written.{type_of, local_type}
use Rattle.gb_laws.specs.Finite.{IsFinite}
use Rattle.gb_laws.specs.Operators.{parts_in, IsDistributionType}
use Rattle.gb_meaning.specs.Commands.{terms_in}
use Rattle.gb_laws.specs.Programs.{variable_type, HaveTypes, Take, HaveFiniteTypes}
use Rattle.gb_typing.specs.Modules.{ProcedureType}
use Rattle.gb_typing.specs.Context.{Context, erased, of_program, procedure}
use Rattle.gb_typing.specs.Programs.{IsExpression, AreArguments, IsCall, IsStatement, AreStatements, EachStatement, IsBody}
use mathlib.Core.Former.{Count}
use Rattle.gb_elab_mod.specs.Occurring.{local, each_local, outcome_local, part_locals, read_locals, returned, row_locals, row_read, sampled as sampled_local, statement_locals, taking, occurring}
use Rattle.gb_elab_mod.specs.OnPrograms.{outcomes, sampled, last_sampled}
use Rattle.gb_elab_laws.specs.Fitting.{AreIn, IsTypeOf, of_each_module}
use Rattle.gb_elab_laws.proofs.Found.{all_with}
use Rattle.gb_elab_laws.specs.Reading.{StandIn}
use Rattle.gb_typing.specs.Samplings.{Sampling, behind, last_sampling, of_statement, of_type}
use Rattle.gb_elab_laws.proofs.Given.{none_some, same_some, out_type}
use Rattle.gb_elab_laws.proofs.Shapes.{parts_are}
use Rattle.gb_elab_laws.proofs.Types.{distribution_layer, have_finite}
use Rattle.gb_elab_laws.proofs.Occurring.{reads_stand, stand_both, all_stand}

-- what is known of procedures by declarations is what a context says of them
abbrev pub AreOfTheirTypes : Context → scope.Declarations → Type 0
AreOfTheirTypes c ds = (p : ProcRef) (f : ProcedureType) → procedure_type ds None p ≡ Some f → IsTypeOf (procedure c p) f

-- Typing and the rule see the same samplings at the end.

outcomes_are : (is : List Instr) (x : Var) (d : Term) (u : ty_layer.Ty-F Ty) → outcomes u ≡ option_map (λ (y : Sampling). y.ty) (of_type is x d u)
outcomes_are is x d (ty_layer.Distr t) = refl
outcomes_are is x d _ = refl

statement_is : (is : List Instr) (i : Instr) → sampled (Some i) ≡ option_map (λ (y : Sampling). y.ty) (of_statement is i)
statement_is is (Sample x d) = outcomes_are is x d (out-Ty (out-Term d).ty)
statement_is is (Assign xs e) = refl
statement_is is (Call' xs p n es) = refl
statement_is is (If' e m b n c) = refl
statement_is is (While' e v n b) = refl

behind_type : (i : Instr) (o : Option Sampling) → option_map (λ (y : Sampling). y.ty) o ≡ option_map (λ (y : Sampling). y.ty) (option_map (behind i) o)
behind_type i (Some x) = refl
behind_type i None = refl

last_agrees : (is : List Instr) → sampled (slice_get is (length is - 1)) ≡ option_map (λ (y : Sampling). y.ty) (last_sampling is)
last_agrees [] = refl
last_agrees (i ∷ []) = statement_is [] i
last_agrees (i ∷ j ∷ is) =
    let e : length (i ∷ j ∷ is) - 1 ≡ suc (length (j ∷ is) - 1) = omega arith in
    ap (λ n. sampled (slice_get (i ∷ j ∷ is) n)) e ∙ last_agrees (j ∷ is) ∙ behind_type i (last_sampling (j ∷ is))

pub ends_agree : (c : Cmd) → last_sampled c ≡ option_map (λ (y : Sampling). y.ty) (last_sampling c.list)
ends_agree c = last_agrees c.list

outcome_of : (u : Ty) → IsDistributionType u → out-Ty u ≡ ty_layer.Distr (outcome_type u)
outcome_of (ty.Distr' p (more_of-Ty t end_of-Ty)) k = distribution_layer t
outcome_of _ k = absurd k

outcome_finite : (u : Ty) → IsDistributionType u → IsFinite (outcome_type u)
outcome_finite (ty.Distr' p (more_of-Ty t end_of-Ty)) k = k
outcome_finite _ k = absurd k

parts_of_layer : (t : Ty) (us : List Ty) → out-Ty t ≡ ty_layer.Tuple us → parts_in t ≡ us
parts_of_layer t us e = ap parts_in (sym (roll-out-Ty t) ∙ ap roll-Ty e ∙ ty.rolls-Tuple us) ∙ parts_are us

module _ (c : Context) (ls : List TypedName) where
  statement_at : (is : List Instr) (i : ℕ) (x : Instr) → EachStatement c ls is → slice_get is i ≡ Some x → IsStatement c ls x
  statement_at [] i x k e = none_some x e
  statement_at (y ∷ is) zero x k e = subst (IsStatement c ls) (same_some y x e) k.0
  statement_at (y ∷ is) (suc i) x k e = statement_at is i x k.1 e

  sampled_finite : (o : Option Instr) → ((x : Instr) → o ≡ Some x → IsStatement c ls x) → (a : Ty) → sampled o ≡ Some a → IsFinite a
  sampled_finite None k a e = none_some a e
  sampled_finite (Some (Sample x d)) k a e =
      let s = k (Sample x d) refl in
      let t : outcome_type (type_of d) ≡ a = same_some (outcome_type (type_of d)) a (sym (ap (λ u. outcomes (out-Ty u)) (out_type d) ∙ ap outcomes (outcome_of (type_of d) s.1)) ∙ e) in
      subst IsFinite t (outcome_finite (type_of d) s.1)
  sampled_finite (Some (Assign xs e)) k a h = none_some a h
  sampled_finite (Some (Call' xs p n es)) k a h = none_some a h
  sampled_finite (Some (If' e m b n d)) k a h = none_some a h
  sampled_finite (Some (While' e v n b)) k a h = none_some a h

  -- the values that a body samples at its end are of a type of values
  pub last_finite : (d : Cmd) → EachStatement c ls d.list → (a : Ty) → last_sampled d ≡ Some a → IsFinite a
  last_finite d k a e = sampled_finite (slice_get d.list (length d.list - 1)) (λ x i. statement_at d.list (length d.list - 1) x k i) a e

  target_stands : (x : Var) (t : Ty) → variable_type (erased c) ls x ≡ Some t → StandIn (Some ls) (local x t)
  target_stands (var.Local x) t h = (h, tt)
  target_stands (var.Global m x) t h = tt
  target_stands (var.Glob a) t h = tt

  sampling_stands : (x : Var) (d : Term) → IsStatement c ls (Sample x d) → StandIn (Some ls) (sampled_local x d)
  sampling_stands x d s =
      let e : sampled_local x d ≡ local x (outcome_type (type_of d)) = ap (λ u. outcome_local x (out-Ty u)) (out_type d) ∙ ap (outcome_local x) (outcome_of (type_of d) s.1) in
      subst (StandIn (Some ls)) (sym e) (target_stands x (outcome_type (type_of d)) s.2)

  -- variables of these types, as far as they are locals
  each_stands : (xs : List Var) (ts : List Ty) → HaveTypes (erased c) ls xs ts → StandIn (Some ls) (each_local xs ts)
  each_stands (x ∷ xs) (t ∷ ts) h = stand_both (Some ls) (local x t) (each_local xs ts) (target_stands x t h.0) (each_stands xs ts h.1)
  each_stands [] ts h = tt
  each_stands (x ∷ xs) [] h = tt

  parts_stand : (xs : List Var) (t : Ty) (l : ty_layer.Ty-F Ty) → out-Ty t ≡ l → HaveTypes (erased c) ls xs (parts_in t) → StandIn (Some ls) (part_locals xs l)
  parts_stand xs t (ty_layer.Tuple us) e h = each_stands xs us (subst (HaveTypes (erased c) ls xs) (parts_of_layer t us e) h)
  parts_stand xs t _ e h = tt

  none_stand : (l : ty_layer.Ty-F Ty) → StandIn (Some ls) (part_locals [] l)
  none_stand (ty_layer.Tuple ts) = tt
  none_stand _ = tt

  -- what takes a value of a type
  taking_stands : (xs : List Var) (t : Ty) → Take (erased c) ls xs t → StandIn (Some ls) (taking xs t)
  taking_stands [] t h = none_stand (out-Ty t)
  taking_stands (x ∷ []) t h = target_stands x t h
  taking_stands (x ∷ y ∷ xs) t h = parts_stand (x ∷ y ∷ xs) t (out-Ty t) refl h

  targets_stand : (xs : List Var) (e : Term) → Take (erased c) ls xs (type_of e) → StandIn (Some ls) (taking xs (out-Term e).ty)
  targets_stand xs e h = subst (λ t. StandIn (Some ls) (taking xs t)) (sym (out_type e)) (taking_stands xs (type_of e) h)

  -- what an expression reads
  read_stands : (e : Term) → IsExpression c ls e → StandIn (Some ls) (read_locals e side.Own)
  read_stands e x = reads_stand (of_program c ls) e x.typed side.Own tt

  arguments_stand : {n : Count} (es : Row_of-Term n) (ps : List TypedName) → AreArguments c ls (terms_in es) ps → StandIn (Some ls) (row_read es)
  arguments_stand end_of-Term ps h = tt
  arguments_stand (more_of-Term e es) (p ∷ ps) h = stand_both (Some ls) (read_locals e side.Own) (row_read es) (read_stands e h.0.0.expression) (arguments_stand es ps h.1)
  arguments_stand (more_of-Term e es) [] h = absurd h

  -- what takes the result of a procedure
  returned_stands : (xs : List Var) (o : Option ProcedureType) (u : Option ProcedureType) (es : List Term) → ((f : ProcedureType) → o ≡ Some f → u ≡ Some f) → IsCall c ls xs u es →
      StandIn (Some ls) (returned xs o)
  returned_stands xs None u es k h = tt
  returned_stands xs (Some f) u es k h = taking_stands xs f.result (subst (λ v. IsCall c ls xs v es) (k f refl) h).1

  call_stands : {n : Count} (xs : List Var) (o : Option ProcedureType) (es : Row_of-Term n) → IsCall c ls xs o (terms_in es) → StandIn (Some ls) (row_read es)
  call_stands xs (Some p) es h = arguments_stand es p.params h.0
  call_stands xs None es h = absurd h

  module _ (ds : scope.Declarations) (known : AreOfTheirTypes c ds) where
    mutual
      statement_stands : (i : Instr) → IsStatement c ls i → StandIn (Some ls) (statement_locals ds i)
      statement_stands (Assign xs e) k =
          stand_both (Some ls) (taking xs (out-Term e).ty) (read_locals e side.Own) (targets_stand xs e k.1) (read_stands e k.0.expression)
      statement_stands (Sample x d) k = stand_both (Some ls) (sampled_local x d) (read_locals d side.Own) (sampling_stands x d k) (read_stands d k.0)
      statement_stands (Call' xs p n es) k =
          stand_both (Some ls) (returned xs (procedure_type ds None p)) (row_read es)
          (returned_stands xs (procedure_type ds None p) (procedure c p) (terms_in es) (λ f e. (known p f e).there) k) (call_stands xs (procedure c p) es k)
      statement_stands (If' e m a n b) k =
          stand_both (Some ls) (read_locals e side.Own) (row_locals ds a ++ row_locals ds b) (read_stands e k.0.0)
          (stand_both (Some ls) (row_locals ds a) (row_locals ds b) (row_stands a k.1) (row_stands b k.2))
      statement_stands (While' e v n a) k =
          stand_both (Some ls) (read_locals e side.Own) (read_locals v side.Own ++ row_locals ds a) (read_stands e k.0.0)
          (stand_both (Some ls) (read_locals v side.Own) (row_locals ds a) (read_stands v k.1.0) (row_stands a k.2))

      row_stands : {n : Count} (is : Row_of-Instr n) → AreStatements c ls is → StandIn (Some ls) (row_locals ds is)
      row_stands end_of-Instr k = tt
      row_stands (more_of-Instr i is) k = stand_both (Some ls) (statement_locals ds i) (row_locals ds is) (statement_stands i k.0) (row_stands is k.1)

    statements_stand : (is : List Instr) → EachStatement c ls is → StandIn (Some ls) (flat_map (statement_locals ds) is)
    statements_stand [] k = tt
    statements_stand (i ∷ is) k =
        stand_both (Some ls) (statement_locals ds i) (flat_map (statement_locals ds) is) (statement_stands i k.0) (statements_stand is k.1)

    -- what occurs in two conditions and a body are locals of the body
    occurring_stand : (s : Side) (p q : Term) (is : List Instr) → StandIn (Some ls) (read_locals p s) → StandIn (Some ls) (read_locals q s) → EachStatement c ls is →
        StandIn (Some ls) (occurring ds (p ∷ q ∷ []) s is)
    occurring_stand s p q is hp hq k =
        let conditions = stand_both (Some ls) (read_locals p s) (read_locals q s ++ []) hp (stand_both (Some ls) (read_locals q s) [] hq tt) in
        all_stand (Some ls) [] (flat_map (λ t. read_locals t s) (p ∷ q ∷ []) ++ flat_map (statement_locals ds) is) tt
        (stand_both (Some ls) (flat_map (λ t. read_locals t s) (p ∷ q ∷ [])) (flat_map (statement_locals ds) is) conditions (statements_stand is k))

local_finite : (ls : List TypedName) (x : Name) (t : Ty) → HaveFiniteTypes ls → local_type ls x ≡ Some t → IsFinite t
local_finite [] x t h e = none_some t e
local_finite (l ∷ ls) x t h e = step (bytes_eq x l.name) (local_finite ls x t h.1) e
  where
    step : (b : Bool) → (local_type ls x ≡ Some t → IsFinite t) → (if b then Some l.ty else local_type ls x) ≡ Some t → IsFinite t
    step true f e = subst IsFinite (same_some l.ty t e) h.0
    step false f e = f e

module _ (ls : List TypedName) where
  standing_finite : HaveFiniteTypes ls → (vs : List TypedName) → StandIn (Some ls) vs → HaveFiniteTypes vs
  standing_finite h [] k = tt
  standing_finite h (v ∷ vs) k = (local_finite ls v.name v.ty h k.0, standing_finite h vs k.1)

  standing_name : (vs : List TypedName) → StandIn (Some ls) vs → (x : Name) (t : Ty) → local_type vs x ≡ Some t → local_type ls x ≡ Some t
  standing_name [] k x t e = none_some t e
  standing_name (v ∷ vs) k x t e = step (bytes_eq x v.name) refl (standing_name vs k.1 x t) e
    where
      step : (b : Bool) → bytes_eq x v.name ≡ b → (local_type vs x ≡ Some t → local_type ls x ≡ Some t) → (if b then Some v.ty else local_type vs x) ≡ Some t → local_type ls x ≡ Some t
      step true i f e = ap (local_type ls) ((bytes_eq-Decides x v.name).0 i) ∙ k.0 ∙ e
      step false i f e = f e

  -- what occurs in a goal is read in the memory of a body
  pub occurring_in : (c : Context) (ds : scope.Declarations) → AreOfTheirTypes c ds → (s : Side) (p q : Term) (is : List Instr) → StandIn (Some ls) (read_locals p s) →
      StandIn (Some ls) (read_locals q s) → IsBody c ls is → AreIn of_each_module (Some ls) (occurring ds (p ∷ q ∷ []) s is)
  occurring_in c ds known s p q is hp hq b =
      let k : StandIn (Some ls) (occurring ds (p ∷ q ∷ []) s is) = occurring_stand c ls ds known s p q is hp hq b.statements in
      record { memory = tt; there = standing_name _ k; finite = all_with _ (standing_finite (have_finite ls b.locals) _ k) }
