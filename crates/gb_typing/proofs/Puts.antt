-- Typed terms in place of variables keep a form well typed.
use Rattle.std.proofs.Common.{◌≡◌, inr, Bool, true, false, List, [], ◌∷◌, Option, Some, None, refl, ap, sym, ◌∙◌, subst}
use Rattle.std.specs.List.{AllByRecursion}
use Rattle.gb_core.specs.declared.ty.Ty.{Ty}
use Rattle.gb_core.specs.declared.var.Var.{Var}
use Rattle.gb_core.specs.declared.var.Var.TheVariants as var
use Rattle.gb_terms.specs.declared.op.Side.{Side}
use Rattle.gb_terms.specs.declared.op.Read.{Read}
use Rattle.gb_terms.specs.declared.op.Read.TheVariants.{Logical, Program}
use Rattle.gb_terms.specs.declared.term.Term.{Term}
use Rattle.gb_terms.specs.declared.term.Head.TheVariants as head
use Rattle.gb_terms.specs.Equal.{read_eq}
use Rattle.gb_terms.proofs.Equality.{read_eq-Decides}
use Rattle.gb_walk.specs.Change.{is_own, is_left_or_right, or_later, found_for_read, read_changed, term_changed}
use Rattle.gb_meaning.specs.Written.{type_of}
use Rattle.gb_laws.specs.Written.{Written, written_changes}
use Rattle.gb_typing.specs.Context.{Context, frame_of}
use Rattle.gb_typing.specs.Typing.{IsIn, IsPlace, IsTyped}
use Rattle.gb_typing.specs.Puts.{IsPutFor, IsTypedPut}
use Rattle.gb_typing.specs.Changes.{IsLeaf, Made, Becomes, no_read, IsMemoryIn, Leads, Stays}
use Rattle.gb_typing.proofs.Changed.{changed}
use Rattle.gb_typing.proofs.Writing.{sides_stay, bound_stays}

same_some : (t u : Ty) → Some t ≡ Some u → t ≡ u
same_some t u e = ap (λ (o : Option Ty). or_else o) e
  where
    or_else : Option Ty → Ty
    or_else None = t
    or_else (Some x) = x

-- a variable has one type
one_type : (c : Context) (x : Var) (r : Side) (t u : Ty) → IsIn c (frame_of c r) x t → IsIn c (frame_of c r) x u → t ≡ u
one_type c (var.Local x) r t u e h = same_some t u (sym e ∙ h)
one_type c (var.Global m x) r t u e h = same_some t u (sym e.1 ∙ h.1)
one_type c (var.Glob a) r t u e h = e.2 ∙ sym h.2

reads_stay : (ws : List Written) (r : Read) → read_changed (written_changes ws) r ≡ r
reads_stay ws (Logical i) = refl
reads_stay ws (Program x r) = ap (Program x) (sides_stay ws r)

module _ (c : Context) where
  put_becomes : (x : Var) (s : Side) (t : Term) → IsPutFor c x s t → (r : Read) (ty : Ty) (o : Option Term) → IsLeaf c (head.Read r) ty → Becomes true c ty r o (head.Read r) →
      (b : Bool) → read_eq (Program x s) r ≡ b → Becomes true c ty r (or_later b t o) (head.Read r)
  put_becomes x s t p r ty o w m false e = m
  put_becomes x s t p r ty o w m true e =
      let k : Program x s ≡ r = (read_eq-Decides (Program x s) r).0 e in
      let leaf = subst (λ r. IsLeaf c (head.Read r) ty) (sym k) w in
      subst (λ r. Becomes true c ty r (Some t) (head.Read r)) k
      (p.plain, λ f l k keeps same. record { typed = p.typed f l k keeps; written = one_type c x s (type_of t) ty p.type leaf.1 })

  reads_become : (ws : List Written) → AllByRecursion (IsTypedPut c) ws → (r : Read) (ty : Ty) → IsLeaf c (head.Read r) ty → Becomes true c ty r (found_for_read (written_changes ws) r) (head.Read r)
  reads_become [] h r ty w = w
  reads_become (w ∷ ws) h r ty k = put_becomes w.variable w.side w.term h.0 r ty (found_for_read (written_changes ws) r) k (reads_become ws h.1 r ty k) (read_eq (Program w.variable w.side) r) refl

  pub leads_written : (ws : List Written) → AllByRecursion (IsTypedPut c) ws → Leads true (written_changes ws) c c
  leads_written ws h = record {
    reads = λ r ty w. subst (λ q. Becomes true c ty r (found_for_read (written_changes ws) r) (head.Read q)) (sym (reads_stay ws r)) (reads_become ws h r ty w);
    bounds = λ i ty w. subst (λ o. Becomes true c ty no_read o (head.Bound i)) (sym (bound_stays ws i)) (w, tt);
    sides = λ r w. subst (IsMemoryIn c) (sym (sides_stay ws r)) w;
    places = λ r w. subst IsPlace (sym (sides_stay ws r)) w;
    global = λ m x t e. e;
    operator = λ n o e. e;
    procedure = λ p. refl;
    has_globals = λ a e. e;
  }

pub stays_written : (ws : List Written) → Stays (written_changes ws)
stays_written ws = record { own = λ r e. ap is_own (sides_stay ws r) ∙ e; sides = λ r e. ap is_left_or_right (sides_stay ws r) ∙ e }

-- A well-typed form with typed terms in place of variables is well typed, of the same type.
pub substituted_typed : (c : Context) (f : Term) → IsTyped c f → (ws : List Written) → AllByRecursion (IsTypedPut c) ws → Made c (type_of f) (term_changed f (written_changes ws))
substituted_typed c f w ws h = changed true f (written_changes ws) c c (leads_written c ws h) (inr (stays_written ws, refl)) w
