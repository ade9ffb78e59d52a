-- What is typed outside of all binders is typed inside of them.
use Rattle.std.proofs.Common.{true, inr, [], None, refl, subst}
use Rattle.gb_core.specs.declared.ty.Ty.{Ty}
use Rattle.gb_core.specs.declared.var.Var.{Var}
use Rattle.gb_core.specs.declared.var.Var.TheVariants as var
use Rattle.gb_terms.specs.declared.op.Side.{Side}
use Rattle.gb_terms.specs.declared.op.Side.TheVariants as side
use Rattle.gb_terms.specs.declared.op.Read.{Read}
use Rattle.gb_terms.specs.declared.op.Read.TheVariants.{Logical, Program}
use Rattle.gb_terms.specs.declared.term.Term.{Term}
use Rattle.gb_terms.specs.declared.term.Head.TheVariants as head
use Rattle.gb_walk.specs.Change.{read_changed, side_changed}
use Rattle.gb_typing.specs.Context.{Context}
use Rattle.gb_typing.specs.Typing.{IsIn, IsTyped}
use Rattle.gb_typing.specs.Changes.{IsLeaf, IsMemoryIn, Leads, Stays}
use Rattle.gb_typing.proofs.Changed.{changed}
use Rattle.gb_typing.specs.Rules.{outermost}
use Rattle.gb_typing.proofs.Every.{leaf_moved, side_of}
use Rattle.gb_amb.proofs.Idle.{unchanged}

nothing_in : (c : Context) (x : Var) (t : Ty) → IsIn c None x t → ⊥
nothing_in c (var.Local x) t w = cc
nothing_in c (var.Global m x) t w = w.0
nothing_in c (var.Glob a) t w = w.0

module _ (d : Context) where
  abbrev c : Context
  c = outermost d

  still : (r : Read) (t : Ty) → IsLeaf c (head.Read r) t → IsLeaf d (head.Read (read_changed [] r)) t
  still (Logical i) t w = w
  still (Program x side.Own) t w = absurd (nothing_in c x t w.1)
  still (Program x side.Left) t w = absurd (nothing_in c x t w.1)
  still (Program x side.Right) t w = absurd (nothing_in c x t w.1)
  still (Program x (side.Memory i)) t w =
      leaf_moved c d (λ m y u e. e) (λ a e. e) (side.Memory i) (side.Memory i) (side_of c x (side.Memory i) t w) refl x t w
  still (Program x (side.Bound i)) t w = absurd (side_of c x (side.Bound i) t w)

  sides : (r : Side) → IsMemoryIn c r → IsMemoryIn d (side_changed [] r)
  sides side.Own w = absurd w.1
  sides side.Left w = absurd w.1
  sides side.Right w = absurd w.1
  sides (side.Memory i) w = w
  sides (side.Bound i) w = absurd w.0

  leads : Leads true [] c d
  leads = record {
    reads = still;
    bounds = λ i t w. absurd w;
    sides = sides;
    places = λ r p. p;
    global = λ m x t e. e;
    operator = λ n o e. e;
    procedure = λ p. refl;
    has_globals = λ a e. e;
  }

  none : Stays []
  none = record { own = λ r e. e; sides = λ r e. e }

  pub typed_inside : (e : Term) → IsTyped c e → IsTyped d e
  typed_inside e w =
      let m = changed true e [] c d leads (inr (none, refl)) w in
      subst (IsTyped d) (unchanged c e w [] tt) m.typed
