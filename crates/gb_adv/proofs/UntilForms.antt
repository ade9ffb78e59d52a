-- What `call (_ : B, I)` says of two calls: what its forms read, and their typing.
use Rattle.std.proofs.Common.{◌≡◌, Bool, true, false, ◌||◌, if◌then◌else◌, List, [], ◌∷◌, ◌++◌, filter, length, map, take, Some, None, refl, ap, sym, ◌∙◌, subst}
use Rattle.std.proofs.lemmas.Bool.{false≢true}
use Rattle.gb_core.specs.declared.ty.Ty.{Ty}
use Rattle.gb_core.specs.declared.ty.Ty.TheVariants as ty
use Rattle.gb_core.specs.declared.var.Var.{Var}
use Rattle.gb_core.specs.declared.var.Var.TheVariants as var
use Rattle.gb_terms.specs.declared.decl.TypedName.{TypedName}
use Rattle.gb_terms.specs.declared.op.Side.{Side}
use Rattle.gb_terms.specs.declared.op.Side.TheVariants as side
use Rattle.gb_terms.specs.declared.term.Term.{Term}
use Rattle.gb_terms.specs.Equal.{side_eq, var_eq}
use Rattle.gb_terms.proofs.Equality.{side_eq-Decides, var_eq-Decides}
use Rattle.gb_terms.specs.Make.{applied, node}
use Rattle.gb_terms.specs.declared.op.Op.{Op}
use Rattle.gb_terms.specs.declared.op.Op.TheVariants.{And, Equal, Implies, Not}
use Rattle.gb_terms.specs.declared.op.Read.TheVariants.{Program}
use Rattle.gb_terms.specs.declared.term.Head.{Head}
use Rattle.gb_terms.specs.declared.term.Head.TheVariants as head
use Rattle.gb_terms.specs.declared.term.Head.TheViews.{out-roll-Term}
use Rattle.gb_walk.specs.Clash.{all_of, clashes, outside, read_by, variables_read}
use Rattle.gb_walk.proofs.ClashSteps.{reads_out}
use Rattle.gb_steps.specs.declared.step.Until.{Until}
use Rattle.gb_goal.specs.Scope.{Declarations}
use Rattle.gb_meaning.specs.Memory.{result_name}
use Rattle.gb_meaning.specs.Names.{Name}
use Rattle.gb_laws.specs.Finite.{IsFinite}
use Rattle.gb_laws.specs.Plain.{IsPlain}
use Rattle.gb_mods.specs.Exclusions.{exclusions}
use Rattle.gb_typing.specs.Context.{Context, reframed}
use Rattle.gb_typing.specs.Forms.{and_form, located}
use Rattle.gb_typing.specs.Rules.{outermost}
use Rattle.gb_typing.specs.Typing.{IsForm, IsIn}
use Rattle.gb_typing.proofs.Forms.{and_typed, implies_typed, not_typed}
use Rattle.gb_prog.specs.AllValues.{Located, in_memory}
use Rattle.gb_prog.specs.Writes.{AreIn, TypedVariable, variables}
use Rattle.gb_call.specs.Outcomes.{Outcome, is_among, is_left, is_read}
use Rattle.gb_call_both.proofs.AfterBoth.{AreAmong, globals_located}
use Rattle.gb_call_both.proofs.OneSide.{anywhere}
use Rattle.gb_call_both.proofs.OnSide.{form_on}
use Rattle.gb_call_both.proofs.Sided.{globals_on_sides, left_only, right_only}
use Rattle.gb_adv.specs.Abstract.{AbstractProcedure}
use Rattle.gb_adv.specs.Equations.{reading, same_owner, same_result}
use Rattle.gb_adv.specs.Oracles.{meeting_both}
use Rattle.gb_adv.specs.Until.{as_long, changed_in, end_until, not_yet}
use Rattle.gb_adv.proofs.AfterReturns.{owner}
use Rattle.gb_adv.proofs.Left.{MeetNone, apart_of, both_meet_none}
use Rattle.gb_call.proofs.Conditions.{AllFalse}
use Rattle.gb_adv.proofs.UntilCalls.{MeetNoneUntil}

-- What is read.

node_reads : (h : Head) (ts : List Term) (t : Ty) (r : Side) →
    variables_read r (node h ts t) ≡ read_by h r ++ all_of (map (variables_read r) (take (outside h r (length ts)) ts))
node_reads h ts t r =
    reads_out (node h ts t) r
    ∙ ap (λ z. read_by z.head r ++ all_of (map (variables_read r) (take (outside z.head r (length z.args)) z.args))) (out-roll-Term (record { head = h; args = ts; ty = t }))

both_read : (o : Op) (r : Side) (x y : Term) → variables_read r (applied o (x ∷ y ∷ []) ty.Bool) ≡ variables_read r x ++ (variables_read r y ++ [])
both_read o r x y = node_reads (head.Builtin o) (x ∷ y ∷ []) ty.Bool r

one_reads : (o : Op) (r : Side) (x : Term) → variables_read r (applied o (x ∷ []) ty.Bool) ≡ variables_read r x ++ []
one_reads o r x = node_reads (head.Builtin o) (x ∷ []) ty.Bool r

-- where none is found to clash with all that is the module's own, none clashes
pub until_meets_none : (ds : Declarations) (f : AbstractProcedure) (u : Until) (T V : List Var) → meeting_both (exclusions ds) f.owner (as_long u u.kept) T V ≡ None → MeetNoneUntil ds f u T V
until_meets_none ds f u T V e =
    record {
      left_kept = (apart_of P (variables_read side.Left u.kept) [] left.1).0;
      right_kept = (apart_of P (variables_read side.Right u.kept) [] right.1).0;
      left_event = (apart_of P (variables_read side.Left (located side.Right u.event)) [] (subst (λ l. AllFalse P l) (one_reads Not side.Left (located side.Right u.event)) left.0)).0;
      right_event = (apart_of P (variables_read side.Right (located side.Right u.event)) [] (subst (λ l. AllFalse P l) (one_reads Not side.Right (located side.Right u.event)) right.0)).0;
      left_written = m.left_written;
      right_written = m.right_written;
    }
  where
    P : Var → Bool
    P = clashes (exclusions ds) (var.Glob f.owner)

    m : MeetNone (exclusions ds) f.owner (as_long u u.kept) T V
    m = both_meet_none (exclusions ds) f.owner (as_long u u.kept) T V e

    left : AllFalse P (variables_read side.Left (not_yet u)) × AllFalse P (variables_read side.Left u.kept ++ [])
    left =
        apart_of P (variables_read side.Left (not_yet u)) (variables_read side.Left u.kept ++ [])
        (subst (λ l. AllFalse P l) (both_read Implies side.Left (not_yet u) u.kept) m.left_read)

    right : AllFalse P (variables_read side.Right (not_yet u)) × AllFalse P (variables_read side.Right u.kept ++ [])
    right =
        apart_of P (variables_read side.Right (not_yet u)) (variables_read side.Right u.kept ++ [])
        (subst (λ l. AllFalse P l) (both_read Implies side.Right (not_yet u) u.kept) m.right_read)

among_first : (xs ys : List Var) (x : Var) → is_among xs x ≡ true → is_among (xs ++ ys) x ≡ true
among_first [] ys x e = absurd (false≢true e)
among_first (z ∷ xs) ys x e = step (var_eq x z) (among_first xs ys x) e
  where
    step : (b : Bool) → (is_among xs x ≡ true → is_among (xs ++ ys) x ≡ true) → (b || is_among xs x) ≡ true → (b || is_among (xs ++ ys) x) ≡ true
    step true go h = refl
    step false go h = go h

among_last : (xs ys : List Var) (x : Var) → is_among ys x ≡ true → is_among (xs ++ ys) x ≡ true
among_last [] ys x e = e
among_last (z ∷ xs) ys x e = step (var_eq x z) (among_last xs ys x e)
  where
    step : (b : Bool) → is_among (xs ++ ys) x ≡ true → (b || is_among (xs ++ ys) x) ≡ true
    step true h = refl
    step false h = h

is_itself : (x : Var) → var_eq x x ≡ true
is_itself x = (var_eq-Decides x x).1 refl

-- all that is the module's own is read in both memories
own_read : (r : Side) (a : Name) → is_among (variables_read r (reading r (var.Glob a) (ty.Glob a))) (var.Glob a) ≡ true
own_read r a =
    subst (λ l. is_among l (var.Glob a) ≡ true) (sym (node_reads (head.Read (Program (var.Glob a) r)) [] (ty.Glob a) r)) (step (side_eq r r) ((side_eq-Decides r r).1 refl))
  where
    step : (b : Bool) → b ≡ true → is_among ((if b then var.Glob a ∷ [] else []) ++ []) (var.Glob a) ≡ true
    step true e = ap (λ z. z || false) (is_itself (var.Glob a))
    step false e = absurd (false≢true e)

abbrev left_own : Name → Term
left_own a = reading side.Left (var.Glob a) (ty.Glob a)

abbrev right_own : Name → Term
right_own a = reading side.Right (var.Glob a) (ty.Glob a)

owner_read_left : (a : Name) → is_among (variables_read side.Left (same_owner a)) (var.Glob a) ≡ true
owner_read_left a =
    subst (λ l. is_among l (var.Glob a) ≡ true) (sym (both_read Equal side.Left (left_own a) (right_own a)))
    (among_first (variables_read side.Left (left_own a)) (variables_read side.Left (right_own a) ++ []) (var.Glob a) (own_read side.Left a))

owner_read_right : (a : Name) → is_among (variables_read side.Right (same_owner a)) (var.Glob a) ≡ true
owner_read_right a =
    subst (λ l. is_among l (var.Glob a) ≡ true) (sym (both_read Equal side.Right (left_own a) (right_own a)))
    (among_last (variables_read side.Right (left_own a)) (variables_read side.Right (right_own a) ++ []) (var.Glob a)
    (among_first (variables_read side.Right (right_own a)) [] (var.Glob a) (own_read side.Right a)))

end_reads : (r : Side) (u : Until) (f : AbstractProcedure) → is_among (variables_read r (same_owner f.owner)) (var.Glob f.owner) ≡ true → is_read r (end_until u f) (var.Glob f.owner) ≡ true
end_reads r u f e =
    subst (λ l. is_among l x ≡ true) (sym (both_read Implies r (not_yet u) (and_form equal u.kept)))
    (among_last (variables_read r (not_yet u)) (variables_read r (and_form equal u.kept) ++ []) x (among_first (variables_read r (and_form equal u.kept)) [] x
    (subst (λ l. is_among l x ≡ true) (sym (both_read And r equal u.kept))
    (among_first (variables_read r equal) (variables_read r u.kept ++ []) x
    (subst (λ l. is_among l x ≡ true) (sym (both_read And r results (same_owner f.owner)))
    (among_last (variables_read r results) (variables_read r (same_owner f.owner) ++ []) x (among_first (variables_read r (same_owner f.owner)) [] x e)))))))
  where
    x : Var
    x = var.Glob f.owner

    results : Term
    results = same_result (let t = f.type in t.result)

    equal : Term
    equal = and_form results (same_owner f.owner)

pub left_end_reads : (u : Until) (f : AbstractProcedure) → is_read side.Left (end_until u f) (var.Glob f.owner) ≡ true
left_end_reads u f = end_reads side.Left u f (owner_read_left f.owner)

pub right_end_reads : (u : Until) (f : AbstractProcedure) → is_read side.Right (end_until u f) (var.Glob f.owner) ≡ true
right_end_reads u f = end_reads side.Right u f (owner_read_right f.owner)

-- so it stands among the globals that are read of the memory after the call
pub with_owner : (r : Side) (xs T : List Var) (a : Name) (said q : Term) (W : List TypedVariable) → is_read r said (var.Glob a) ≡ true → variables W ≡ filter (is_left r xs said q) T →
    variables (owner a ∷ W) ≡ filter (is_left r xs said q) (var.Glob a ∷ T)
with_owner r xs T a said q W e are =
    ap (λ l. var.Glob a ∷ l) are ∙ ap (λ b. if b then var.Glob a ∷ filter (is_left r xs said q) T else filter (is_left r xs said q) T) (sym (counted (is_read r said (var.Glob a)) _ e))
  where
    counted : (x y : Bool) → x ≡ true → (x || y) ≡ true
    counted true y h = refl
    counted false y h = absurd (false≢true h)

-- What is changed.

pub changed_among : (c : Context) (a : Name) (W V : List TypedVariable) →
    IsIn (outermost c) (Some []) (var.Glob a) (ty.Glob a) × IsFinite (ty.Glob a) → AreIn (outermost c) (Some []) W → AreIn (outermost c) (Some []) V →
    AreAmong c (owner a ∷ W) (owner a ∷ V) ((side.Left, owner a) ∷ (side.Right, owner a) ∷ (in_memory side.Left W ++ in_memory side.Right V))
changed_among c a W V owned left right = record {
  sides = (tt, (tt, globals_on_sides W V));
  left = ap (λ l. owner a ∷ l) (left_only W V);
  right = ap (λ l. owner a ∷ l) (right_only W V);
  located = λ l r. (
    (tt, anywhere c None (Some l) (Some r) l (var.Glob a) (ty.Glob a) owned.0, owned.1),
    ((tt, anywhere c None (Some l) (Some r) r (var.Glob a) (ty.Glob a) owned.0, owned.1), globals_located c l r W V left right),
  );
}
