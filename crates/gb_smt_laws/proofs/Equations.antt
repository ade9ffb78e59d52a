-- What an equation is used for.
use Rattle.std.proofs.Common.{◌≡◌, Bool, true, false, if◌then◌else◌, ◌⊎◌, inl, inr, Option, Some, None, List, [], ◌∷◌, refl, ap, sym, ◌∙◌}
use Rattle.std.proofs.lemmas.Bool.{false≢true}
use Rattle.gb_core.specs.declared.ty.Ty.{Ty}
use Rattle.gb_terms.specs.declared.op.Op.TheVariants.{Equal}
use Rattle.gb_terms.specs.declared.op.Read.{Read}
use Rattle.gb_terms.specs.declared.term.Term.{Term, out-Term}
use Rattle.gb_terms.specs.declared.term.Head.{Head}
use Rattle.gb_terms.specs.declared.term.Head.TheVariants as head
use Rattle.gb_terms.specs.Make.{node}
use Rattle.gb_walk.specs.declared.change.Change.{Change}
use Rattle.gb_walk.specs.declared.change.Change.TheVariants.{ToTerm}
use Rattle.gb_meaning.proofs.Nodes.{each_is_node}
use Rattle.gb_smt.specs.Equations.{occurs, replacement_at, replacement, or_else, is_equality, use_of_sides, use_of}

pub none_some : {X A : Type 0} (x : X) → None ≡ Some x → A
none_some {X} {A} x e = absurd (false≢true (ap is_some e))
  where
    is_some : Option X → Bool
    is_some None = false
    is_some (Some x) = true

pub some_some : {X : Type 0} (x y : X) → Some x ≡ Some y → x ≡ y
some_some {X} x y e = ap in_some e
  where
    in_some : Option X → X
    in_some None = x
    in_some (Some z) = z

-- the variable that one side is becomes the other side
pub record IsUse (x u : Term) (c : Change) : Type 0 where
  pub read : Read
  pub is_read : (out-Term x).head ≡ head.Read read
  pub change : c ≡ ToTerm read u

-- an equation of which one side is a variable that becomes the other side
pub record IsEquation (h : Term) (c : Change) : Type 0 where
  pub left : Term
  pub right : Term
  pub ty : Ty
  pub is_node : h ≡ node (head.Builtin Equal) (left ∷ right ∷ []) ty
  pub used : IsUse left right c ⊎ IsUse right left c

replaced : (x u : Term) (c : Change) → replacement x u ≡ Some c → IsUse x u c
replaced x u c e = at (out-Term x).head refl e
  where
    unless : (r : Read) → (out-Term x).head ≡ head.Read r → (b : Bool) → (if b then None else Some (ToTerm r u)) ≡ Some c → IsUse x u c
    unless r p true e = none_some c e
    unless r p false e = record { read = r; is_read = p; change = sym (some_some (ToTerm r u) c e) }

    at : (h : Head) → (out-Term x).head ≡ h → replacement_at h u ≡ Some c → IsUse x u c
    at (head.Read r) p e = unless r p (occurs r u) e
    at _ p e = none_some c e

sides_used : (a b : Term) (c : Change) → or_else (replacement b a) (replacement a b) ≡ Some c → IsUse a b c ⊎ IsUse b a c
sides_used a b c e = step (replacement b a) refl e
  where
    step : (o : Option Change) → replacement b a ≡ o → or_else o (replacement a b) ≡ Some c → IsUse a b c ⊎ IsUse b a c
    step (Some d) p e = inr (replaced b a c (p ∙ e))
    step None p e = inl (replaced a b c e)

equation_at : (h : Term) (c : Change) (hd : Head) (ts : List Term) → h ≡ node hd ts (out-Term h).ty → use_of_sides (is_equality hd) ts ≡ Some c → IsEquation h c
equation_at h c (head.Builtin Equal) (a ∷ b ∷ []) p e = record { left = a; right = b; ty = (out-Term h).ty; is_node = p; used = sides_used a b c e }
equation_at h c (head.Builtin Equal) [] p e = none_some c e
equation_at h c (head.Builtin Equal) (a ∷ []) p e = none_some c e
equation_at h c (head.Builtin Equal) (a ∷ b ∷ d ∷ ts) p e = none_some c e
equation_at h c (head.Builtin o) ts p e = none_some c e
equation_at h c _ ts p e = none_some c e

pub equation_used : (h : Term) (c : Change) → use_of h ≡ Some c → IsEquation h c
equation_used h c e = equation_at h c (out-Term h).head (out-Term h).args (each_is_node h) e
