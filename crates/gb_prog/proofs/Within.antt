-- When statements write within variables.
use Rattle.std.proofs.Common.{◌≡◌, List, [], ◌∷◌, ◌++◌, Bool, true, false, ◌||◌, Some, refl, sym, subst}
use Rattle.std.proofs.lemmas.Bool.{false≢true}
use Rattle.std.specs.List.{list_any}
use Rattle.gb_core.specs.declared.var.Var.{Var}
use Rattle.gb_terms.specs.Equal.{var_eq}
use Rattle.gb_terms.proofs.Equality.{var_eq-Decides}
use Rattle.gb_terms.specs.declared.module.ProcRef.{ProcRef}
use Rattle.gb_terms.specs.declared.term.Cmd.{Cmd}
use Rattle.gb_terms.specs.declared.term.Head.TheVariants.{Assign, Sample, Call, If, While}
use Rattle.gb_terms.specs.declared.term.Instr.{Instr}
use Rattle.gb_terms.specs.declared.term.Term.{Term}
use Rattle.gb_meaning.specs.Commands.{statements}
use Rattle.gb_meaning.specs.Program.{Program, Routine, followed_by}
use Rattle.gb_meaning.specs.Program.Program.{done, assign, sample, branch, loop, call, ask}
use Rattle.gb_meaning.specs.Setting.{Setting}
use Rattle.gb_meaning.specs.Values.{Types}
use Rattle.gb_meaning.proofs.Bodies.{statement_if, statement_while}
use Rattle.gb_laws.specs.Cells.{Key}
use Rattle.gb_laws.specs.Cells.Key.{global, local}
use Rattle.gb_laws.specs.Writes.{keys_of, IsNone, Spares, IfGlobal, UnwrittenBy}
use Rattle.gb_typing.proofs.Runs.{statements_followed}
use Rattle.gb_prog.specs.Writes.{written_by, WritesWithin, RoutineWritesWithin, AreWithin}
use Rattle.gb_prog.proofs.Calls.{call_is}
use Rattle.gb_prog.proofs.Writes.{by_place}

module _ (t : Types) where
  spared_one : (W : List Var) (x : Var) → list_any (var_eq x) W ≡ true → (k : Key) → Spares t W k → IsNone k (keys_of t x)
  spared_one [] x h k s = absurd (false≢true h)
  spared_one (y ∷ W) x h k s = by_test (var_eq x y) refl h (λ h. spared_one W x h k s.1)
    where
      by_test : (b : Bool) → var_eq x y ≡ b → (b || list_any (var_eq x) W) ≡ true → (list_any (var_eq x) W ≡ true → IsNone k (keys_of t x)) → IsNone k (keys_of t x)
      by_test true e h go = subst (λ z. IsNone k (keys_of t z)) (sym ((var_eq-Decides x y).0 e)) s.0
      by_test false e h go = go h

  pub within_one : (W : List Var) (x : Var) → list_any (var_eq x) W ≡ true → (xs : List Var) → AreWithin t W xs → AreWithin t W (x ∷ xs)
  within_one W x h xs a k s = (spared_one W x h k s, a k s)

module _ (g : Setting) (W : List Var) where
  pub within_assign : (xs : List Var) (e : Term) (is : List Instr) → AreWithin g.types W xs → WritesWithin g W (statements g is) → WritesWithin g W (statements g (Assign xs e ∷ is))
  within_assign xs e is a h k s = (a k s, h k s)

  pub within_sample : (x : Var) (d : Term) (is : List Instr) → AreWithin g.types W (x ∷ []) → WritesWithin g W (statements g is) → WritesWithin g W (statements g (Sample x d ∷ is))
  within_sample x d is a h k s = ((a k s).0, h k s)

  pub within_if : (e : Term) (a b : Cmd) (is : List Instr) → WritesWithin g W (statements g a.list) → WritesWithin g W (statements g b.list) → WritesWithin g W (statements g is) →
      WritesWithin g W (statements g (If e a b ∷ is))
  within_if e a b is x y h = subst (WritesWithin g W) (sym (statement_if g e a b (statements g is))) (λ k s. (x k s, y k s, h k s))

  pub within_while : (e v : Term) (b : Cmd) (is : List Instr) → WritesWithin g W (statements g b.list) → WritesWithin g W (statements g is) → WritesWithin g W (statements g (While e v b ∷ is))
  within_while e v b is x h = subst (WritesWithin g W) (sym (statement_while g e v b (statements g is))) (λ k s. (x k s, h k s))

  pub within_call : (xs : List Var) (p : ProcRef) (es : List Term) (r : Routine) → g.procedure p ≡ Some r → (is : List Instr) → AreWithin g.types W xs → RoutineWritesWithin g W r →
      WritesWithin g W (statements g is) → WritesWithin g W (statements g (Call xs p es ∷ is))
  within_call xs p es r there is a x h = subst (WritesWithin g W) (sym (call_is g xs p es r there is)) (λ k s. (a k s, by_key k s, h k s))
    where
      by_key : (k : Key) → Spares g.types W k → IfGlobal k (UnwrittenBy g r k)
      by_key (global q) s = x q s
      by_key (local q) s = tt

  pub within_procedure : (r : Routine) → AreWithin g.types W (written_by r) → RoutineWritesWithin g W r
  within_procedure r a q s = by_place g r (global q) (a (global q) s)

  followed_within : (c d : Program) → WritesWithin g W c → WritesWithin g W d → WritesWithin g W (followed_by c d)
  followed_within done d x y = y
  followed_within (assign xs e c) d x y = λ k s. ((x k s).0, followed_within c d (λ k s. (x k s).1) y k s)
  followed_within (sample z e c) d x y = λ k s. ((x k s).0, followed_within c d (λ k s. (x k s).1) y k s)
  followed_within (branch e a b c) d x y = λ k s. ((x k s).0, (x k s).1, followed_within c d (λ k s. (x k s).2) y k s)
  followed_within (loop e v a c) d x y = λ k s. ((x k s).0, followed_within c d (λ k s. (x k s).1) y k s)
  followed_within (call xs r es c) d x y = λ k s. ((x k s).0, (x k s).1, followed_within c d (λ k s. (x k s).2) y k s)
  followed_within (ask xs o es c) d x y = λ k s. followed_within c d x y k s

  pub within_append : (is js : List Instr) → WritesWithin g W (statements g is) → WritesWithin g W (statements g js) → WritesWithin g W (statements g (is ++ js))
  within_append is js x y = subst (WritesWithin g W) (sym (statements_followed g is js)) (followed_within (statements g is) (statements g js) x y)
