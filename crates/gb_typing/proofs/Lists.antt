-- Parts of well-typed bodies.
use Rattle.std.proofs.Common.{◌≡◌, ℕ, zero, suc, List, [], ◌∷◌, ◌++◌, take, drop, sym, ◌∙◌, ap, subst}
use Rattle.gb_terms.specs.declared.decl.TypedName.{TypedName}
use Rattle.gb_core.specs.declared.ty.Ty.TheVariants as ty
use Rattle.gb_terms.specs.declared.term.Term.{Term}
use Rattle.gb_terms.specs.declared.term.Instr.{Instr, Row_of-Instr, end_of-Instr, more_of-Instr, out-Instr}
use Rattle.gb_terms.specs.declared.term.Cmd.{Cmd, items-the_row-Instr, items_hidden-the_row-Instr-1}
use Rattle.gb_terms.specs.declared.term.Head.TheBlock as B
use Rattle.gb_terms.specs.declared.term.Head.TheOpen as layer
use Rattle.gb_terms.specs.declared.term.Head.TheVariants.{If}
use Rattle.gb_terms.specs.declared.term.Head.TheViews.{roll-Instr, roll-out-Instr}
use Rattle.gb_meaning.specs.Written.{type_of}
use Rattle.gb_typing.specs.Context.{Context}
use Rattle.gb_typing.specs.Programs.{IsExpression, IsStatement, AreStatements, EachStatement, IsBody}
use mathlib.Core.Former.{Count}

-- a statement of which an `if` is read is one
pub if_shape : (i : Instr) (e : Term) (a b : Cmd) → out-Instr i ≡ layer.If e a b → i ≡ If e a b
unfolding roll-Instr denote.Hole.Carrier.roll
if_shape i e a b k = sym (roll-out-Instr i) ∙ ap roll-Instr k

module _ (c : Context) (ls : List TypedName) where
  pub row_each : {n : Count} (r : Row_of-Instr n) → AreStatements c ls r → EachStatement c ls (items-the_row-Instr _ r)
  row_each end_of-Instr w = tt
  row_each (more_of-Instr i r) w = (w.0, row_each r w.1)

  pub each_hidden : (is : List Instr) → AreStatements c ls (B.hidden-the_row-Instr-1 is) → EachStatement c ls is
  each_hidden is w = subst (EachStatement c ls) (items_hidden-the_row-Instr-1 is) (row_each (B.hidden-the_row-Instr-1 is) w)

  each_row : {n : Count} (r : Row_of-Instr n) → EachStatement c ls (items-the_row-Instr _ r) → AreStatements c ls r
  each_row end_of-Instr w = tt
  each_row (more_of-Instr i r) w = (w.0, each_row r w.1)

  pub hidden_each : (is : List Instr) → EachStatement c ls is → AreStatements c ls (B.hidden-the_row-Instr-1 is)
  hidden_each is w = each_row (B.hidden-the_row-Instr-1 is) (subst (EachStatement c ls) (sym (items_hidden-the_row-Instr-1 is)) w)

  -- the parts of a well-typed `if`
  pub typed_if : (i : Instr) (e : Term) (a b : Cmd) → i ≡ If e a b → IsStatement c ls i → (IsExpression c ls e × (type_of e ≡ ty.Bool)) × EachStatement c ls a.list × EachStatement c ls b.list
  typed_if i e a b k w = let x = subst (IsStatement c ls) k w in (x.0, each_hidden a.list x.1, each_hidden b.list x.2)

  pub typed_append : (is js : List Instr) → EachStatement c ls is → EachStatement c ls js → EachStatement c ls (is ++ js)
  typed_append [] js v w = w
  typed_append (i ∷ is) js v w = (v.0, typed_append is js v.1 w)

  pub typed_take : (k : ℕ) (is : List Instr) → EachStatement c ls is → EachStatement c ls (take k is)
  typed_take zero is w = tt
  typed_take (suc k) [] w = tt
  typed_take (suc k) (i ∷ is) w = (w.0, typed_take k is w.1)

  pub typed_drop : (k : ℕ) (is : List Instr) → EachStatement c ls is → EachStatement c ls (drop k is)
  typed_drop zero is w = w
  typed_drop (suc k) [] w = tt
  typed_drop (suc k) (i ∷ is) w = typed_drop k is w.1

  pub first_part : (k : ℕ) (is : List Instr) → IsBody c ls is → IsBody c ls (take k is)
  first_part k is w = record { locals = w.locals; statements = typed_take k is w.statements }

  pub rest_part : (k : ℕ) (is : List Instr) → IsBody c ls is → IsBody c ls (drop k is)
  rest_part k is w = record { locals = w.locals; statements = typed_drop k is w.statements }
