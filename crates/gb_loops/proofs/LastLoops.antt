-- The loop that ends a body.
use Rattle.std.proofs.Common.{◌≡◌, List, [], ◌∷◌, ◌++◌, length, Option, Some, None, refl, ap, sym, ◌∙◌, subst, arith}
use Rattle.std.specs.Option.{option_map}
use Rattle.std.proofs.lemmas.Option.{same_Some, none-some}
use Rattle.gb_core.specs.declared.ty.Ty.TheVariants as ty
use Rattle.gb_terms.specs.declared.decl.TypedName.{TypedName}
use Rattle.gb_terms.specs.declared.term.Term.{Term}
use Rattle.gb_terms.specs.declared.term.Cmd.{Cmd}
use Rattle.gb_terms.specs.declared.term.Head.{Head}
use Rattle.gb_terms.specs.declared.term.Head.TheOpen as layer
use Rattle.gb_terms.specs.declared.term.Head.TheVariants.{While}
use Rattle.gb_terms.specs.declared.term.Head.TheViews.{roll-Instr, roll-out-Instr}
use Rattle.gb_terms.specs.declared.term.Instr.{Instr, out-Instr}
use Rattle.gb_terms.specs.declared.term.Subject.{Subject}
use Rattle.gb_meaning.specs.Written.{type_of}
use Rattle.gb_typing.specs.Context.{Context}
use Rattle.gb_typing.specs.Programs.{EachStatement, IsBody, IsExpression, IsStatement}
use Rattle.gb_typing.proofs.Lists.{each_hidden}
use Rattle.gb_loops.specs.LastLoop.{LastLoop, loop_at, behind, last_loop}

abbrev Layer : Type 0
Layer = layer.Instr-F Head Instr Subject Cmd Term

behind_statement : (i : Instr) (is : List Instr) (l : Layer) → option_map (behind i) (loop_at l is) ≡ loop_at l (i ∷ is)
behind_statement i is (layer.While e v b) = refl
behind_statement i is (layer.If e a b) = refl
behind_statement i is (layer.Assign xs e) = refl
behind_statement i is (layer.Sample x d) = refl
behind_statement i is (layer.Call xs p es) = refl

last_of : (before : List Instr) (i : Instr) → last_loop (before ++ (i ∷ [])) ≡ loop_at (out-Instr i) before
last_of [] i = refl
last_of (j ∷ []) i = behind_statement j [] (out-Instr i)
last_of (j ∷ k ∷ is) i = ap (option_map (behind j)) (last_of (k ∷ is) i) ∙ behind_statement j (k ∷ is) (out-Instr i)

pub last_statement : (is before : List Instr) (i : Instr) → is ≡ before ++ (i ∷ []) → loop_at (out-Instr i) before ≡ last_loop is
last_statement is before i e = sym (ap last_loop e ∙ last_of before i)

pub no_statement : (is : List Instr) → length is ≡ 0 → last_loop is ≡ None
no_statement [] e = refl
no_statement (i ∷ is) e = absurd (omega arith)

-- a statement of which a loop is read is one
while_shape : (i : Instr) (e v : Term) (b : Cmd) → out-Instr i ≡ layer.While e v b → i ≡ While e v b
unfolding roll-Instr denote.Hole.Carrier.roll
while_shape i e v b k = sym (roll-out-Instr i) ∙ ap roll-Instr k

-- the loop as a statement
abbrev pub statement_of : LastLoop → Instr
statement_of k = While k.guard k.variant k.body

-- a body that ends with a loop
abbrev pub EndsWith : List Instr → LastLoop → Type 0
EndsWith is k = is ≡ k.before ++ (statement_of k ∷ [])

one_ends : (i : Instr) (l : Layer) → out-Instr i ≡ l → (k : LastLoop) → loop_at l [] ≡ Some k → EndsWith (i ∷ []) k
one_ends i (layer.While e v b) h k r =
    subst (EndsWith (i ∷ [])) (same_Some (record { before = []; guard = e; variant = v; body = b }) k r) (ap (λ j. j ∷ []) (while_shape i e v b h))
one_ends i (layer.If e a b) h k r = absurd (none-some k r)
one_ends i (layer.Assign xs e) h k r = absurd (none-some k r)
one_ends i (layer.Sample x d) h k r = absurd (none-some k r)
one_ends i (layer.Call xs p es) h k r = absurd (none-some k r)

more_ends : (i : Instr) (is : List Instr) (k : LastLoop) (o : Option LastLoop) → ((h : LastLoop) → o ≡ Some h → EndsWith is h) → option_map (behind i) o ≡ Some k → EndsWith (i ∷ is) k
more_ends i is k None f r = absurd (none-some k r)
more_ends i is k (Some h) f r = subst (EndsWith (i ∷ is)) (same_Some (behind i h) k r) (ap (λ l. i ∷ l) (f h refl))

pub ends_with : (is : List Instr) (k : LastLoop) → last_loop is ≡ Some k → EndsWith is k
ends_with [] k e = absurd (none-some k e)
ends_with (i ∷ []) k e = one_ends i (out-Instr i) refl k e
ends_with (i ∷ j ∷ is) k e = more_ends i (j ∷ is) k (last_loop (j ∷ is)) (λ h r. ends_with (j ∷ is) h r) e

parts : (c : Context) (ls : List TypedName) (is js : List Instr) → EachStatement c ls (is ++ js) → EachStatement c ls is × EachStatement c ls js
parts c ls [] js w = (tt, w)
parts c ls (i ∷ is) js w = let x = parts c ls is js w.1 in ((w.0, x.0), x.1)

-- A typed loop that ends a body, and what stands before it.
pub record IsTypedLoop (c : Context) (ls : List TypedName) (k : LastLoop) : Type 0 where
  pub before : IsBody c ls k.before
  pub guard : IsExpression c ls k.guard
  pub test : type_of k.guard ≡ ty.Bool
  pub body : IsBody c ls k.body.list
  pub statement : EachStatement c ls (statement_of k ∷ [])

pub loop_typed : (c : Context) (ls : List TypedName) (is : List Instr) (k : LastLoop) → IsBody c ls is → last_loop is ≡ Some k → IsTypedLoop c ls k
loop_typed c ls is k w e =
    let s = parts c ls k.before (statement_of k ∷ []) (subst (EachStatement c ls) (ends_with is k e) w.statements) in
    let t : IsStatement c ls (statement_of k) = s.1.0 in
    record {
      before = record { locals = w.locals; statements = s.0 };
      guard = t.0.0;
      test = t.0.1;
      body = record { locals = w.locals; statements = each_hidden c ls k.body.list t.2 };
      statement = s.1;
    }
