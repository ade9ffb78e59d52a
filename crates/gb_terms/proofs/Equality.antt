-- The tests of equality decide it.
use Rattle.std.proofs.Common.{◌≡◌, ℕ, ◌==◌, Bool, true, bytes_eq, List, refl, subst, ◌↔◌, IsTrue, Decides}
use Rattle.std.proofs.lemmas.Bool.{and_from, and_parts, false≢true}
use Rattle.std.proofs.lemmas.Bool.Decides.{Decides-eqb, same_from_decides}
use Rattle.std.proofs.lemmas.Slice.Eq.{bytes_eq-Decides}
use Rattle.gb_core.specs.declared.var.Var.{Var}
use Rattle.gb_core.specs.declared.var.Var.TheVariants.{Global, Local, Glob}
use Rattle.gb_terms.specs.declared.op.Side.{Side}
use Rattle.gb_terms.specs.declared.op.Side.TheVariants.{Own, Left, Right, Memory, Bound}
use Rattle.gb_terms.specs.declared.op.Read.{Read}
use Rattle.gb_terms.specs.declared.op.Read.TheVariants.{Logical, Program}
use Rattle.gb_terms.specs.Equal.{var_eq, side_eq, read_eq}

same_bytes : (xs ys : List ℕ) → bytes_eq xs ys ≡ true → xs ≡ ys
same_bytes xs ys e = (bytes_eq-Decides xs ys).0 e

bytes_same : (xs : List ℕ) → bytes_eq xs xs ≡ true
bytes_same xs = (bytes_eq-Decides xs xs).1 refl

number_same : (n : ℕ) → (n == n) ≡ true
number_same n = (Decides-eqb n n).1 refl

var_same : (v : Var) → var_eq v v ≡ true
var_same (Global m x) = and_from _ _ (bytes_same m) (bytes_same x)
var_same (Local x) = bytes_same x
var_same (Glob m) = bytes_same m

var_is : (v w : Var) → var_eq v w ≡ true → v ≡ w
var_is (Global m x) (Global n y) e =
    let p = and_parts _ _ e in λ i. Global (same_bytes m n p.0 i) (same_bytes x y p.1 i)
var_is (Local x) (Local y) e = λ i. Local (same_bytes x y e i)
var_is (Glob m) (Glob n) e = λ i. Glob (same_bytes m n e i)
var_is _ _ e = absurd (false≢true e)

pub var_eq-Decides : (v w : Var) → Decides (var_eq v w) (v ≡ w)
var_eq-Decides v w = (var_is v w, λ e. subst (λ z. var_eq v z ≡ true) e (var_same v))

side_same : (s : Side) → side_eq s s ≡ true
side_same (Memory i) = number_same i
side_same (Bound i) = number_same i
side_same _ = refl

side_is : (s t : Side) → side_eq s t ≡ true → s ≡ t
side_is Own Own e = refl
side_is Left Left e = refl
side_is Right Right e = refl
side_is (Memory m) (Memory n) e = λ i. Memory ((Decides-eqb m n).0 e i)
side_is (Bound m) (Bound n) e = λ i. Bound ((Decides-eqb m n).0 e i)
side_is _ _ e = absurd (false≢true e)

pub side_eq-Decides : (s t : Side) → Decides (side_eq s t) (s ≡ t)
side_eq-Decides s t = (side_is s t, λ e. subst (λ z. side_eq s z ≡ true) e (side_same s))

read_same : (r : Read) → read_eq r r ≡ true
read_same (Logical i) = number_same i
read_same (Program v s) = and_from _ _ (var_same v) (side_same s)

read_is : (r q : Read) → read_eq r q ≡ true → r ≡ q
read_is (Logical m) (Logical n) e = λ i. Logical ((Decides-eqb m n).0 e i)
read_is (Program v s) (Program w t) e =
    let p = and_parts _ _ e in λ i. Program (var_is v w p.0 i) (side_is s t p.1 i)
read_is _ _ e = absurd (false≢true e)

pub read_eq-Decides : (r q : Read) → Decides (read_eq r q) (r ≡ q)
read_eq-Decides r q = (read_is r q, λ e. subst (λ z. read_eq r z ≡ true) e (read_same r))

-- an answer that is true exactly at equal things is the test
pub var_test : (b : Bool) (v w : Var) → IsTrue b ↔ (v ≡ w) → b ≡ var_eq v w
var_test b v w h = same_from_decides b (var_eq v w) h (var_eq-Decides v w)

pub read_test : (b : Bool) (r q : Read) → IsTrue b ↔ (r ≡ q) → b ≡ read_eq r q
read_test b r q h = same_from_decides b (read_eq r q) h (read_eq-Decides r q)

pub side_test : (b : Bool) (s t : Side) → IsTrue b ↔ (s ≡ t) → b ≡ side_eq s t
side_test b s t h = same_from_decides b (side_eq s t) h (side_eq-Decides s t)
