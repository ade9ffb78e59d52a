-- Statements with guards.
use Rattle.std.proofs.Common.{◌≡◌, List, [], ◌∷◌, ◌++◌, ap, sym, ◌∙◌}
use Rattle.gb_core.specs.declared.ty.Ty.TheVariants as ty
use Rattle.gb_terms.specs.declared.decl.TypedName.{TypedName}
use Rattle.gb_terms.specs.declared.term.Cmd.{Cmd}
use Rattle.gb_terms.specs.declared.term.Head.{Head}
use Rattle.gb_terms.specs.declared.term.Head.TheOpen as layer
use Rattle.gb_terms.specs.declared.term.Head.TheVariants.{While}
use Rattle.gb_terms.specs.declared.term.Head.TheViews.{roll-Instr, roll-out-Instr}
use Rattle.gb_terms.specs.declared.term.Instr.{Instr, out-Instr}
use Rattle.gb_terms.specs.declared.term.Subject.{Subject}
use Rattle.gb_terms.specs.declared.term.Term.{Term}
use Rattle.gb_meaning.specs.Written.{type_of}
use Rattle.gb_typing.specs.Context.{Context}
use Rattle.gb_typing.specs.Programs.{EachStatement, IsExpression, IsStatement}
use Rattle.gb_typing.proofs.Lists.{each_hidden, hidden_each}
use Rattle.gb_forms.specs.Turns.{turn}

abbrev pub Layer : Type 0
Layer = layer.Instr-F Head Instr Subject Cmd Term

-- a statement of which a loop is read is one
pub while_shape : (i : Instr) (e v : Term) (b : Cmd) → out-Instr i ≡ layer.While e v b → i ≡ While e v b
unfolding roll-Instr denote.Hole.Carrier.roll
while_shape i e v b k = sym (roll-out-Instr i) ∙ ap roll-Instr k

pub split_typed : (c : Context) (ls : List TypedName) (is js : List Instr) → EachStatement c ls (is ++ js) → EachStatement c ls is × EachStatement c ls js
split_typed c ls [] js w = (tt, w)
split_typed c ls (i ∷ is) js w = let x = split_typed c ls is js w.1 in ((w.0, x.0), x.1)

-- A typed loop: its guard, its body, and a turn of it.
pub record IsTypedWhile (c : Context) (ls : List TypedName) (e : Term) (b : Cmd) : Type 0 where
  pub guard : IsExpression c ls e
  pub test : type_of e ≡ ty.Bool
  pub each : EachStatement c ls b.list
  pub once : IsStatement c ls (turn e b)

pub typed_while : (c : Context) (ls : List TypedName) (e v : Term) (b : Cmd) → IsStatement c ls (While e v b) → IsTypedWhile c ls e b
typed_while c ls e v b w = record { guard = w.0.0; test = w.0.1; each = each_hidden c ls b.list w.2; once = (w.0, w.2, hidden_each c ls [] tt) }
