-- What typed terms of values read in the context of a goal.
use Rattle.std.proofs.Common.{◌≡◌, ℕ, ◌<◌, List, [], ◌∷◌, length, None, sym, ◌∙◌, subst}
use Rattle.std.specs.List.{AllByRecursion}
use Rattle.gb_core.specs.declared.ty.Ty.{Ty}
use Rattle.gb_core.specs.declared.var.Var.{Var}
use Rattle.gb_core.specs.declared.var.Var.TheVariants as var
use Rattle.gb_terms.specs.declared.op.Side.TheVariants as side
use Rattle.gb_terms.specs.declared.op.Read.{Read}
use Rattle.gb_terms.specs.declared.op.Read.TheVariants.{Logical, Program}
use Rattle.gb_terms.specs.declared.term.Term.{Term, Term', Row_of-Term, end_of-Term, more_of-Term, end_of-Head, more_of-Head}
use Rattle.gb_terms.specs.declared.term.Head.{Head}
use Rattle.gb_terms.specs.declared.term.Head.TheVariants as head
use Rattle.gb_terms.specs.declared.decl.TypedName.{TypedName}
use Rattle.gb_laws.specs.Operators.{item}
use Rattle.gb_laws.specs.Typing.{types_of, IsHead}
use Rattle.gb_typing.specs.Context.{Context, Frame, erased}
use Rattle.gb_typing.specs.Typing.{IsIn, IsNamed, first, middle, last, IsTyped, AreTyped}
use Rattle.gb_typing.proofs.Uses.{nothing_in}
use Rattle.gb_closing_laws.specs.Related.{ReadIs}
use Rattle.gb_closing_laws.specs.Model.{IsOfValuesAt, IsOfValues, AreOfValues, HeadReads, Reads, AllRead, OfClaim}
use Rattle.gb_closing_laws.proofs.Stated.{IsReadIn}
use mathlib.Core.Former.{Count}

module _ (us : List Ty) (ns : List Frame) where
  -- a context inside of binders in the one of a goal
  pub record IsInside (c : Context) : Type 0 where
    pub logical : (i : ℕ) → c.logical i ≡ item us i
    pub named : c.named ≡ ns
    pub own : c.own ≡ None
    pub left : c.left ≡ None
    pub right : c.right ≡ None

  abbrev Placed : Read → Ty → Type 0
  Placed = IsReadIn us (length ns)

  module _ (c : Context) (i : IsInside c) where
    below : (j : ℕ) → j < length c.named → j < length ns
    below j w = subst (λ ms. j < length ms) i.named w

    of_memory : (x : Var) (j : ℕ) (t : Ty) → IsHead (erased c) (head.Read (Program x (side.Memory j))) [] t → Placed (Program x (side.Memory j)) t
    of_memory (var.Global m x) j t w = below j w.0
    of_memory (var.Local x) j t w = below j w.0
    of_memory (var.Glob a) j t w = (below j w.0, w.1)

    none_there : (f : Frame) (x : Var) (t : Ty) → f ≡ None → IsIn c f x t → ⊥
    none_there f x t e w = nothing_in c x t (subst (λ f. IsIn c f x t) e w)

    read_placed : (r : Read) (t : Ty) → IsHead (erased c) (head.Read r) [] t → IsNamed c (head.Read r) t → ReadIs Placed r t
    read_placed (Logical k) t w s = sym (i.logical k) ∙ w.1
    read_placed (Program x side.Own) t w s = absurd (none_there c.own x t i.own s)
    read_placed (Program x side.Left) t w s = absurd (none_there c.left x t i.left s)
    read_placed (Program x side.Right) t w s = absurd (none_there c.right x t i.right s)
    read_placed (Program x (side.Memory j)) t w s = of_memory x j t w
    read_placed (Program x (side.Bound j)) t w s = tt

    head_placed : (h : Head) (ts : List Ty) (t : Ty) → IsHead (erased c) h ts t → IsNamed c h t → HeadReads Placed h t
    head_placed (head.Read r) [] t w s = read_placed r t w s
    head_placed (head.Read r) (u ∷ ts) t w s = absurd w
    head_placed _ ts t w s = tt

    first_inside : (h : Head) → IsOfValuesAt h → IsInside (first c h)
    first_inside (head.Hoare s) v = absurd v
    first_inside (head.Phoare s r) v = absurd v
    first_inside (head.Equiv s u) v = absurd v
    first_inside _ v = i

    middle_inside : (h : Head) → IsOfValuesAt h → IsInside (middle c h)
    middle_inside (head.Hoare s) v = absurd v
    middle_inside (head.Phoare s r) v = absurd v
    middle_inside (head.Equiv s u) v = absurd v
    middle_inside _ v = i

    bound_inside : (bs : _) (fs : _) → IsInside (record c { bound = bs; frames = fs })
    bound_inside bs fs = record { logical = i.logical; named = i.named; own = i.own; left = i.left; right = i.right }

    last_inside : (ls : List TypedName) (h : Head) (ts : List Ty) → IsOfValuesAt h → IsInside (last c ls h ts)
    last_inside ls (head.All u) ts v = bound_inside _ _
    last_inside ls (head.Some u) ts v = bound_inside _ _
    last_inside ls head.AllMemory ts v = bound_inside _ _
    last_inside ls head.SomeMemory ts v = bound_inside _ _
    last_inside ls (head.AllModule b) ts v = absurd v
    last_inside ls (head.Sum q) ts v = bound_inside _ _
    last_inside ls head.Mu (d ∷ ts) v = bound_inside _ _
    last_inside ls head.Map (d ∷ ts) v = bound_inside _ _
    last_inside ls head.Restrict (d ∷ ts) v = bound_inside _ _
    last_inside ls (head.Pr p r) ts v = absurd v
    last_inside ls (head.Hoare s) ts v = absurd v
    last_inside ls (head.Phoare s r) ts v = absurd v
    last_inside ls (head.Equiv s u) ts v = absurd v
    last_inside ls _ ts v = i

  mutual
    pub reads_placed : (c : Context) → IsInside c → (t : Term) → IsTyped c t → IsOfValues t → Reads Placed t
    reads_placed c i (Term' b (more_of-Head h end_of-Head) n ts t) w v = (
      head_placed c i h (types_of ts) t w.0 w.1,
      all_placed (first c h) (middle c h) (last c w.2 h (types_of ts)) (first_inside c i h v.0) (middle_inside c i h v.0) (last_inside c i w.2 h (types_of ts) v.0) ts w.3 v.1,
    )

    all_placed : {n : Count} (a b d : Context) → IsInside a → IsInside b → IsInside d → (ts : Row_of-Term n) → AreTyped a b d ts → AreOfValues ts → AllRead Placed ts
    all_placed a b d x y z end_of-Term w v = tt
    all_placed a b d x y z (more_of-Term t end_of-Term) w v = (reads_placed d z t w v.0, tt)
    all_placed a b d x y z (more_of-Term t (more_of-Term u ts)) w v = (reads_placed a x t w.0 v.0, all_placed b b d y y z (more_of-Term u ts) w.1 v.1)

  hyps_placed : (c : Context) → IsInside c → (hs : List Term) → AllByRecursion (IsTyped c) hs → AllByRecursion IsOfValues hs → AllByRecursion (Reads Placed) hs
  hyps_placed c i [] w v = tt
  hyps_placed c i (h ∷ hs) w v = (reads_placed c i h w.0 v.0, hyps_placed c i hs w.1 v.1)

  pub claim_placed : (c : Context) → IsInside c → (hs : List Term) (t : Term) → OfClaim (IsTyped c) hs t → OfClaim IsOfValues hs t → OfClaim (Reads Placed) hs t
  claim_placed c i hs t w v = (hyps_placed c i hs w.0 v.0, reads_placed c i t w.1 v.1)
