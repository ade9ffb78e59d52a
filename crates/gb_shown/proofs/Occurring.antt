-- The locals that occur in a typed goal have names, and types of values.
use Rattle.std.proofs.Common.{◌≡◌, Bool, true, false, bytes_eq, if◌then◌else◌, List, [], ◌∷◌, ◌++◌, flat_map, map, Option, Some, None, refl, ap, sym, ◌∙◌, subst}
use Rattle.std.proofs.lemmas.Bool.{false≢true}
use Rattle.std.specs.List.{AllByRecursion, list_all, list_any}
use Rattle.gb_core.specs.declared.ty.Ty.{Ty, out-Ty, roll-Ty}
use Rattle.gb_core.specs.declared.ty.Ty.TheOpen as ty_layer
use Rattle.gb_core.specs.declared.ty.Ty.TheVariants as ty
use Rattle.gb_core.specs.declared.ty.Ty.TheViews.{roll-out-Ty}
use Rattle.gb_core.specs.declared.var.Var.{Var}
use Rattle.gb_core.specs.declared.var.Var.TheVariants.{Global, Local, Glob}
use Rattle.gb_terms.specs.declared.decl.TypedName.{TypedName}
use Rattle.gb_terms.specs.declared.module.ProcRef.{ProcRef}
use Rattle.gb_terms.specs.declared.op.Side.{Side}
use Rattle.gb_terms.specs.declared.op.Side.TheVariants as side
use Rattle.gb_terms.specs.declared.op.Read.TheVariants.{Program}
use Rattle.gb_terms.specs.declared.term.Head.{Head}
use Rattle.gb_terms.specs.declared.term.Head.TheVariants as head
use Rattle.gb_terms.specs.declared.term.Head.TheVariants.{Assign, Sample, Call', If', While'}
use Rattle.gb_terms.specs.declared.term.Instr.{Instr, Row_of-Instr, end_of-Instr, more_of-Instr}
use Rattle.gb_terms.specs.declared.term.Term.{Term, Term', Row_of-Term, end_of-Term, more_of-Term, end_of-Head, more_of-Head, out-Term}
use Rattle.gb_terms.specs.Equal.{side_eq}
use Rattle.gb_goal.specs.Interfaces.{ProcedureType, procedure_type}
use Rattle.gb_goal.specs.Scope.{Declarations}
use Rattle.gb_meaning.specs.Commands.{terms_in}
use Rattle.gb_meaning.specs.Trees.{distributions}
use Rattle.gb_laws.specs.Finite.{IsFinite}
use Rattle.gb_laws.specs.Operators.{row, tuples}
use Rattle.gb_laws.proofs.Constructors.{distribution_is, tuple_is}
use Rattle.gb_typing.specs.Context.{Context}
use Rattle.gb_typing.specs.Programs.{IsStatement, AreStatements, EachStatement}
use Rattle.gb_elab_mod.specs.Occurring.{Locals, local, or_args, read_locals, outcome_local, sampled, each_local, part_locals, taking, returned, row_read, statement_locals, row_locals, added, with_all, occurring}
use Rattle.gb_elab_laws.proofs.Given.{none_some, out_type, same_some}
use Rattle.gb_elab_laws.proofs.Occurring.{head_locals, read_is}
use Rattle.gb_print_names.specs.declared.bound_names.Enumeration.{Enumeration}
use Rattle.gb_print.specs.Written.{is_target_here, are_targets_here}
use Rattle.gb_shown.specs.Named.{IsNamedType, AreNamedTypes, IsNamedResult, IsNamedHead, IsNamed, AreNamed, IsNamedInstr, AreNamedInstrs}
use Rattle.gb_shown.proofs.Sequents.{all_append}
use Rattle.gb_shown.proofs.SpeltStatements.{EachNamed}
use Rattle.gb_shown.proofs.SpeltTrees.{parts_named}
use Rattle.gb_shown.specs.Scopes.{IsNamedLocal, IsNamedProcedureType}
use Rattle.gb_shown.proofs.Later.{both_hold}
use mathlib.Core.Former.{Count}

abbrev pub AreLocals : List TypedName → Type 0
AreLocals vs = AllByRecursion IsNamedLocal vs

-- Types.

-- a type of results that values have
value_type : (t : Ty) → IsNamedResult t → IsFinite t → IsNamedType t
value_type (ty.Distr' p x) h f = absurd f
value_type _ h f = h

row_types : (ts : List Ty) → AreNamedTypes (row ts) → AllByRecursion IsNamedType ts
row_types [] h = tt
row_types (t ∷ ts) h = (h.0, row_types ts h.1)

parts_typed : (t : Ty) (us : List Ty) → IsNamedType t → out-Ty t ≡ ty_layer.Tuple us → AllByRecursion IsNamedType us
parts_typed t us h e =
    let same : t ≡ ty.Tuple us = sym (roll-out-Ty t) ∙ ap roll-Ty e ∙ ty.rolls-Tuple us in
    let k : IsNamedType (tuples us) = subst IsNamedType (same ∙ tuple_is us) h in
    row_types us k.1

pub outcome_typed : (t u : Ty) → IsNamedResult t → out-Ty t ≡ ty_layer.Distr u → IsNamedType u
outcome_typed t u h e =
    let same : t ≡ ty.Distr u = sym (roll-out-Ty t) ∙ ap roll-Ty e ∙ ty.rolls-Distr u in
    let k : IsNamedResult (distributions u) = subst IsNamedResult (same ∙ distribution_is u) h in
    k.0

-- Variables that are written.

local_named : (x : Var) (t : Ty) → is_target_here [] x ≡ true → IsNamedType t → AreLocals (local x t)
local_named (Local x) t h k = ((h, k), tt)
local_named (Global m x) t h k = tt
local_named (Glob m) t h k = tt

each_named : (xs : List Var) (ts : List Ty) → list_all (is_target_here []) xs ≡ true → AllByRecursion IsNamedType ts → AreLocals (each_local xs ts)
each_named (x ∷ xs) (t ∷ ts) h k =
    let b = both_hold (is_target_here [] x) (list_all (is_target_here []) xs) h in all_append IsNamedLocal (local x t) (each_local xs ts) (local_named x t b.0 k.0) (each_named xs ts b.1 k.1)
each_named [] ts h k = tt
each_named (x ∷ xs) [] h k = tt

part_named : (xs : List Var) (t : Ty) → list_all (is_target_here []) xs ≡ true → IsNamedType t → (l : ty_layer.Ty-F Ty) → out-Ty t ≡ l → AreLocals (part_locals xs l)
part_named xs t h k (ty_layer.Tuple us) e = each_named xs us h (parts_typed t us k e)
part_named xs t h k _ e = tt

taking_named : (xs : List Var) (t : Ty) → list_all (is_target_here []) xs ≡ true → IsNamedType t → AreLocals (taking xs t)
taking_named (x ∷ []) t h k = let b = both_hold (is_target_here [] x) (list_all (is_target_here []) []) h in local_named x t b.0 k
taking_named [] t h k = part_named [] t h k (out-Ty t) refl
taking_named (x ∷ y ∷ xs) t h k = part_named (x ∷ y ∷ xs) t h k (out-Ty t) refl

all_targets : (xs : List Var) → are_targets_here [] xs ≡ true → list_all (is_target_here []) xs ≡ true
all_targets (x ∷ xs) h = h
all_targets [] h = absurd (false≢true h)

-- Each local once.

added_named : (vs : List TypedName) (x : TypedName) → AreLocals vs → IsNamedLocal x → AreLocals (added vs x)
added_named vs x k h = step (list_any (λ v. bytes_eq v.name x.name) vs)
  where
    step : (b : Bool) → AreLocals (if b then vs else vs ++ x ∷ [])
    step true = k
    step false = all_append IsNamedLocal vs (x ∷ []) k (h, tt)

once_named : (vs xs : List TypedName) → AreLocals vs → AreLocals xs → AreLocals (with_all vs xs)
once_named vs [] k h = k
once_named vs (x ∷ xs) k h = once_named (added vs x) xs (added_named vs x k h.0) h.1

module _ (es : List Enumeration) where
  -- What a form reads.

  read_named : (x : Var) (r s : Side) (t : Ty) → IsNamedHead es (head.Read (Program x r)) t → AreLocals (if side_eq r s then local x t else [])
  read_named x r s t h = step (side_eq r s) x h
    where
      step : (b : Bool) (x : Var) → IsNamedHead es (head.Read (Program x r)) t → AreLocals (if b then local x t else [])
      step true (Local x) h = ((h.0, h.1), tt)
      step true (Global m x) h = tt
      step true (Glob m) h = tt
      step false x h = tt

  head_named : (h : Head) (s : Side) (t : Ty) → IsNamedHead es h t → (xs : List TypedName) → head_locals h s t ≡ Some xs → AreLocals xs
  head_named (head.Read (Program x r)) s t k xs e = subst AreLocals (same_some _ xs e) (read_named x r s t k)
  head_named (head.Pr p m) s t k xs e = subst AreLocals (same_some [] xs e) tt
  head_named (head.Hoare j) s t k xs e = subst AreLocals (same_some [] xs e) tt
  head_named (head.Phoare j r) s t k xs e = subst AreLocals (same_some [] xs e) tt
  head_named (head.Equiv i j) s t k xs e = subst AreLocals (same_some [] xs e) tt
  head_named _ s t k xs e = none_some xs e

  chosen : (h : Head) (s : Side) (t : Ty) → IsNamedHead es h t → (ys : List TypedName) → AreLocals ys → (o : Option (List TypedName)) → head_locals h s t ≡ o → AreLocals (or_args o ys)
  chosen h s t k ys l (Some xs) e = head_named h s t k xs e
  chosen h s t k ys l None e = l

  mutual
    pub form_locals : (t : Term) → IsNamed es t → (s : Side) → AreLocals (read_locals t s)
    form_locals (Term' tt (more_of-Head h end_of-Head) n ts u) k s =
        subst AreLocals (sym (read_is h n ts u s))
        (chosen h s u k.0 (flat_map (λ (a : Locals). a s) (map read_locals (terms_in ts))) (args_locals ts k.2 s) (head_locals h s u) refl)

    args_locals : {n : Count} (ts : Row_of-Term n) → AreNamed es ts → (s : Side) → AreLocals (flat_map (λ (a : Locals). a s) (map read_locals (terms_in ts)))
    args_locals end_of-Term k s = tt
    args_locals (more_of-Term t ts) k s =
        all_append IsNamedLocal (read_locals t s) (flat_map (λ (a : Locals). a s) (map read_locals (terms_in ts))) (form_locals t k.0 s) (args_locals ts k.1 s)

  row_named : {n : Count} (ts : Row_of-Term n) → AreNamed es ts → AreLocals (row_read ts)
  row_named end_of-Term k = tt
  row_named (more_of-Term t ts) k = all_append IsNamedLocal (read_locals t side.Own) (row_read ts) (form_locals t k.0 side.Own) (row_named ts k.1)

  -- What a statement writes and reads.

  result_of : (e : Term) → IsNamed es e → IsNamedResult (out-Term e).ty
  result_of e k = let p = parts_named es e k in p.1

  drawn_by : (x : Var) → is_target_here [] x ≡ true → (t : Ty) → IsNamedResult t → (l : ty_layer.Ty-F Ty) → out-Ty t ≡ l → AreLocals (outcome_local x l)
  drawn_by x h t k (ty_layer.Distr u) e = local_named x u h (outcome_typed t u k e)
  drawn_by x h t k _ e = tt

  returned_named : (xs : List Var) → list_all (is_target_here []) xs ≡ true → (o : Option ProcedureType) → ((f : ProcedureType) → o ≡ Some f → IsNamedProcedureType f) → AreLocals (returned xs o)
  returned_named xs h None k = tt
  returned_named xs h (Some f) k = let n = k f refl in taking_named xs f.result h n.result

  module _ (ds : Declarations) (types : (f : ProcRef) (t : ProcedureType) → procedure_type ds None f ≡ Some t → IsNamedProcedureType t) (c : Context) (ls : List TypedName) where
    mutual
      statement_named : (i : Instr) → IsNamedInstr es i → IsStatement c ls i → AreLocals (statement_locals ds i)
      statement_named (Assign xs e) k w =
          let finite = w.0 in
          all_append IsNamedLocal (taking xs (out-Term e).ty) (read_locals e side.Own)
          (taking_named xs (out-Term e).ty (all_targets xs k.0) (value_type (out-Term e).ty (result_of e k.1) (subst IsFinite (sym (out_type e)) finite.finite)))
          (form_locals e k.1 side.Own)
      statement_named (Sample x d) k w =
          all_append IsNamedLocal (sampled x d) (read_locals d side.Own) (drawn_by x k.0 (out-Term d).ty (result_of d k.1) (out-Ty (out-Term d).ty) refl) (form_locals d k.1 side.Own)
      statement_named (Call' xs p n ts) k w =
          all_append IsNamedLocal (returned xs (procedure_type ds None p)) (row_read ts) (returned_named xs k.0 (procedure_type ds None p) (types p)) (row_named ts k.2)
      statement_named (If' e m a n b) k w =
          all_append IsNamedLocal (read_locals e side.Own) (row_locals ds a ++ row_locals ds b) (form_locals e k.0 side.Own)
          (all_append IsNamedLocal (row_locals ds a) (row_locals ds b) (rows_named a k.1 w.1) (rows_named b k.2 w.2))
      statement_named (While' e v n a) k w =
          all_append IsNamedLocal (read_locals e side.Own) (read_locals v side.Own ++ row_locals ds a) (form_locals e k.0 side.Own)
          (all_append IsNamedLocal (read_locals v side.Own) (row_locals ds a) (form_locals v k.1 side.Own) (rows_named a k.2 w.2))

      rows_named : {n : Count} (is : Row_of-Instr n) → AreNamedInstrs es is → AreStatements c ls is → AreLocals (row_locals ds is)
      rows_named end_of-Instr k w = tt
      rows_named (more_of-Instr i is) k w = all_append IsNamedLocal (statement_locals ds i) (row_locals ds is) (statement_named i k.0 w.0) (rows_named is k.1 w.1)

    body_locals : (is : List Instr) → EachNamed es is → EachStatement c ls is → AreLocals (flat_map (statement_locals ds) is)
    body_locals [] k w = tt
    body_locals (i ∷ is) k w = all_append IsNamedLocal (statement_locals ds i) (flat_map (statement_locals ds) is) (statement_named i k.0 w.0) (body_locals is k.1 w.1)

    -- what occurs in two conditions and a body
    pub occurring_named : (s : Side) (p q : Term) (is : List Instr) → IsNamed es p → IsNamed es q → EachNamed es is → EachStatement c ls is → AreLocals (occurring ds (p ∷ q ∷ []) s is)
    occurring_named s p q is h k l w =
        once_named [] (flat_map (λ t. read_locals t s) (p ∷ q ∷ []) ++ flat_map (statement_locals ds) is) tt
        (all_append IsNamedLocal (flat_map (λ t. read_locals t s) (p ∷ q ∷ [])) (flat_map (statement_locals ds) is)
        (all_append IsNamedLocal (read_locals p s) (read_locals q s ++ []) (form_locals p h s) (all_append IsNamedLocal (read_locals q s) [] (form_locals q k s) tt))
        (body_locals is l w))
