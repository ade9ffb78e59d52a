-- The call that ends a body.
use Rattle.std.proofs.Common.{◌≡◌, List, [], ◌∷◌, ◌++◌, length, Option, Some, None, refl, ap, sym, ◌∙◌, subst, arith}
use Rattle.std.specs.Option.{option_map}
use Rattle.std.proofs.lemmas.Option.{same_Some, none-some}
use Rattle.gb_core.specs.declared.var.Var.{Var}
use Rattle.gb_terms.specs.declared.decl.TypedName.{TypedName}
use Rattle.gb_terms.specs.declared.module.ProcRef.{ProcRef}
use Rattle.gb_terms.specs.declared.term.Term.{Term, Row_of-Term, end_of-Term, more_of-Term, items-the_row-Term, items_hidden-the_row-Term-0}
use Rattle.gb_terms.specs.declared.term.Head.TheBlock as B
use Rattle.gb_terms.specs.declared.term.Head.TheVariants.{Assign, Sample, Call, Call', If', While'}
use Rattle.gb_terms.specs.declared.term.Instr.{Instr}
use Rattle.gb_meaning.specs.Commands.{called, statements, terms_in}
use Rattle.gb_meaning.specs.Program.Program.{done}
use Rattle.gb_meaning.specs.Setting.{Setting}
use Rattle.gb_typing.specs.Context.{Context, procedure}
use Rattle.gb_typing.specs.Programs.{EachStatement, IsBody, IsCall}
use Rattle.gb_call.specs.LastCall.{LastCall, of_statement, behind, last_call}
use mathlib.Core.Former.{Count}

terms_row : {n : Count} (r : Row_of-Term n) → terms_in r ≡ items-the_row-Term _ r
terms_row end_of-Term = refl
terms_row (more_of-Term t r) = ap (λ l. t ∷ l) (terms_row r)

terms_list : (es : List Term) → terms_in (B.hidden-the_row-Term-0 es) ≡ es
terms_list es = terms_row (B.hidden-the_row-Term-0 es) ∙ items_hidden-the_row-Term-0 es

-- a call that ends a body
pub call_ends : (is : List Instr) (xs : List Var) (p : ProcRef) (es : List Term) →
    Some (record { before = is; targets = xs; procedure = p; arguments = es }) ≡ of_statement is (Call xs p es)
call_ends is xs p es = ap (λ l. Some (record { before = is; targets = xs; procedure = p; arguments = l })) (sym (terms_list es))

behind_statement : (i : Instr) (is : List Instr) (j : Instr) → option_map (behind i) (of_statement is j) ≡ of_statement (i ∷ is) j
behind_statement i is (Call' xs p n es) = refl
behind_statement i is (Sample x d) = refl
behind_statement i is (Assign xs e) = refl
behind_statement i is (If' e m a n b) = refl
behind_statement i is (While' e v n a) = refl

last_of : (before : List Instr) (i : Instr) → last_call (before ++ (i ∷ [])) ≡ of_statement before i
last_of [] i = refl
last_of (j ∷ []) i = behind_statement j [] i
last_of (j ∷ k ∷ is) i = ap (option_map (behind j)) (last_of (k ∷ is) i) ∙ behind_statement j (k ∷ is) i

pub last_statement : (is before : List Instr) (i : Instr) → is ≡ before ++ (i ∷ []) → of_statement before i ≡ last_call is
last_statement is before i e = sym (ap last_call e ∙ last_of before i)

pub no_statement : (is : List Instr) → length is ≡ 0 → last_call is ≡ None
no_statement [] e = refl
no_statement (i ∷ is) e = absurd (omega arith)

-- A statement that is this call, wherever it runs.
record IsTheCall (i : Instr) (k : LastCall) : Type 0 where
  program : (g : Setting) → statements g (i ∷ []) ≡ called k.targets (g.procedure k.procedure) k.arguments done
  typed : (c : Context) (ls : List TypedName) → EachStatement c ls (i ∷ []) → IsCall c ls k.targets (procedure c k.procedure) k.arguments

-- a body that ends with a call
record Ends (is : List Instr) (k : LastCall) : Type 0 where
  last : Instr
  shape : is ≡ k.before ++ (last ∷ [])
  call : IsTheCall last k

statement_ends : (i : Instr) (k : LastCall) → of_statement [] i ≡ Some k → Ends (i ∷ []) k
statement_ends (Call' xs p n es) k e =
    subst (Ends (Call' xs p n es ∷ [])) (same_Some (record { before = []; targets = xs; procedure = p; arguments = terms_in es }) k e)
    (record { last = Call' xs p n es; shape = refl; call = record { program = λ g. refl; typed = λ c ls w. w.0 } })
statement_ends (Sample y d) k e = absurd (none-some k e)
statement_ends (Assign xs d) k e = absurd (none-some k e)
statement_ends (If' d m a n b) k e = absurd (none-some k e)
statement_ends (While' d v n a) k e = absurd (none-some k e)

last_behind : (i : Instr) (is : List Instr) (k : LastCall) (o : Option LastCall) → ((h : LastCall) → o ≡ Some h → Ends is h) → option_map (behind i) o ≡ Some k → Ends (i ∷ is) k
last_behind i is k None f r = absurd (none-some k r)
last_behind i is k (Some h) f r =
    let z = f h refl in
    subst (Ends (i ∷ is)) (same_Some (behind i h) k r) (record { last = z.last; shape = ap (λ l. i ∷ l) z.shape; call = record { program = z.call.program; typed = z.call.typed } })

last_ends : (is : List Instr) (k : LastCall) → last_call is ≡ Some k → Ends is k
last_ends [] k e = absurd (none-some k e)
last_ends (i ∷ []) k e = statement_ends i k e
last_ends (i ∷ j ∷ is) k e = last_behind i (j ∷ is) k (last_call (j ∷ is)) (λ h r. last_ends (j ∷ is) h r) e

parts : (c : Context) (ls : List TypedName) (is js : List Instr) → EachStatement c ls (is ++ js) → EachStatement c ls is × EachStatement c ls js
parts c ls [] js w = (tt, w)
parts c ls (i ∷ is) js w = let x = parts c ls is js w.1 in ((w.0, x.0), x.1)

-- A typed call that ends a body, and what stands before it.
pub record IsCalled (c : Context) (ls : List TypedName) (is : List Instr) (k : LastCall) : Type 0 where
  pub last : Instr
  pub shape : is ≡ k.before ++ (last ∷ [])
  pub rest : IsBody c ls k.before
  pub call : IsCall c ls k.targets (procedure c k.procedure) k.arguments
  pub program : (g : Setting) → statements g (last ∷ []) ≡ called k.targets (g.procedure k.procedure) k.arguments done

pub called_typed : (c : Context) (ls : List TypedName) (is : List Instr) (k : LastCall) → IsBody c ls is → last_call is ≡ Some k → IsCalled c ls is k
called_typed c ls is k w e =
    let z = last_ends is k e in
    let s = parts c ls k.before (z.last ∷ []) (subst (EachStatement c ls) z.shape w.statements) in
    record { last = z.last; shape = z.shape; rest = record { locals = w.locals; statements = s.0 }; call = z.call.typed c ls s.1; program = z.call.program }
