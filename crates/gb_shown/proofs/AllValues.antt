-- Forms for all values of variables, and the types at which variables are read.
use Rattle.std.proofs.Common.{ℕ, Bool, true, false, if◌then◌else◌, List, [], ◌∷◌, ◌++◌, length, take, zero, suc, Option, Some, None}
use Rattle.std.specs.List.{AllByRecursion}
use Rattle.gb_core.specs.declared.ty.Ty.{Ty}
use Rattle.gb_core.specs.declared.ty.Ty.TheVariants as ty
use Rattle.gb_core.specs.declared.var.Var.{Var}
use Rattle.gb_terms.specs.declared.op.Side.{Side}
use Rattle.gb_terms.specs.declared.op.Read.TheVariants.{Logical, Program}
use Rattle.gb_terms.specs.declared.term.Term.{Term, Term', Row_of-Term, end_of-Term, more_of-Term, end_of-Head, more_of-Head}
use Rattle.gb_terms.specs.declared.term.Head.{Head}
use Rattle.gb_terms.specs.declared.term.Head.TheVariants as head
use Rattle.gb_walk.specs.Clash.{outside}
use Rattle.gb_walk.specs.Change.{term_changed}
use Rattle.gb_prog.specs.AllValues.{Located, in_memory, for_all, to_bound_values, all_values}
use Rattle.gb_prog.specs.Writes.{TypedVariable}
use Rattle.gb_loops.specs.Read.{reads_itself, first_of, type_read, each_type, typed_before, read_among, read_in}
use Rattle.gb_print_names.specs.declared.bound_names.Enumeration.{Enumeration}
use Rattle.gb_shown.specs.Named.{IsNamedType, IsNamedHead, IsNamed, AreNamed}
use Rattle.gb_shown.proofs.SpeltTrees.{node_named}
use Rattle.gb_shown.proofs.Changed.{PutNamed, changed_named}
use Rattle.gb_shown.proofs.SpeltForms.{as_result}
use Rattle.gb_shown.proofs.Opened.{Has}
use mathlib.Core.Former.{Count}

-- each variable has a type of values
abbrev pub HaveTypes : List Located → Type 0
HaveTypes W = AllByRecursion (λ (w : Located). IsNamedType w.1.ty) W

pub have_append : (V W : List Located) → HaveTypes V → HaveTypes W → HaveTypes (V ++ W)
have_append [] W h k = k
have_append (v ∷ V) W h k = (h.0, have_append V W h.1 k)

abbrev pub AreOfTypes : List TypedVariable → Type 0
AreOfTypes W = AllByRecursion (λ (w : TypedVariable). IsNamedType w.ty) W

pub have_in : (r : Side) (W : List TypedVariable) → AreOfTypes W → HaveTypes (in_memory r W)
have_in r [] h = tt
have_in r (w ∷ W) h = (h.0, have_in r W h.1)

module _ (es : List Enumeration) where
  pub for_all_named : (W : List Located) (f : Term) → HaveTypes W → IsNamed es f → IsNamed es (for_all W f)
  for_all_named [] f h x = x
  for_all_named (w ∷ W) f h x = node_named es (head.All w.1.ty) (for_all W f ∷ []) ty.Bool h.0 tt (for_all_named W f h.1 x, tt)

  pub bound_values_named : (W : List Located) → HaveTypes W → PutNamed es (to_bound_values W)
  bound_values_named [] h = tt
  bound_values_named (w ∷ W) h = (node_named es (head.Bound (length W)) [] w.1.ty h.0 (as_result w.1.ty h.0) tt, bound_values_named W h.1)

  pub all_values_named : (W : List Located) (f : Term) → HaveTypes W → IsNamed es f → IsNamed es (all_values W f)
  all_values_named W f h x = for_all_named W (term_changed f (to_bound_values W)) h (changed_named es f (to_bound_values W) (bound_values_named W h) x)

  -- The type at which a form reads a variable.

  abbrev AllHave : List (Option Ty) → Type 0
  AllHave os = AllByRecursion Has os

  first_has : (os : List (Option Ty)) → AllHave os → Has (first_of os)
  first_has [] h = tt
  first_has (None ∷ os) h = first_has os h.1
  first_has (Some t ∷ os) h = h.0

  take_has : (n : ℕ) (os : List (Option Ty)) → AllHave os → AllHave (take n os)
  take_has zero os h = tt
  take_has (suc n) [] h = tt
  take_has (suc n) (o ∷ os) h = (h.0, take_has n os h.1)

  here_has : (s : Side) (x : Var) (h : Head) (t : Ty) (o : Option Ty) → IsNamedHead es h t → Has o → Has (if reads_itself s x h then Some t else o)
  here_has s x (head.Read (Program y r)) t o k p = step (reads_itself s x (head.Read (Program y r)))
    where
      step : (b : Bool) → Has (if b then Some t else o)
      step true = k.1
      step false = p
  here_has s x (head.Read (Logical i)) t o k p = p
  here_has s x _ t o k p = p

  mutual
    pub type_read_named : (s : Side) (x : Var) (t : Term) → IsNamed es t → Has (type_read s x t)
    type_read_named s x (Term' b (more_of-Head h end_of-Head) n ts t) k =
        here_has s x h t _ k.0 (first_has (take (outside h s (length (each_type s x ts))) (each_type s x ts)) (take_has (outside h s (length (each_type s x ts))) (each_type s x ts) (each_type_named s x ts k.2)))

    each_type_named : {n : Count} (s : Side) (x : Var) (ts : Row_of-Term n) → AreNamed es ts → AllHave (each_type s x ts)
    each_type_named s x end_of-Term k = tt
    each_type_named s x (more_of-Term t ts) k = (type_read_named s x t k.0, each_type_named s x ts k.1)

  before_has : (x : Var) (o : Option Ty) (W : List TypedVariable) → Has o → AreOfTypes W → AreOfTypes (typed_before x o W)
  before_has x (Some t) W h k = (h, k)
  before_has x None W h k = k

  among_have : (s : Side) (f : Term) → IsNamed es f → (xs : List Var) → AreOfTypes (read_among s f xs)
  among_have s f k [] = tt
  among_have s f k (x ∷ xs) = before_has x (type_read s x f) (read_among s f xs) (type_read_named s x f k) (among_have s f k xs)

  pub read_in_has : (s : Side) (f : Term) → IsNamed es f → (xs : List Var) → HaveTypes (read_in s f xs)
  read_in_has s f k xs = have_in s (read_among s f xs) (among_have s f k xs)
