-- The types at which terms read variables, and forms for all values, step by step.
use Rattle.std.proofs.Common.{◌≡◌, ℕ, ◌<◌, ◌≤◌, ◌-◌, ◌+◌, zero, suc, arith, if◌then◌else◌, List, [], ◌∷◌, ◌++◌, length, take, map, get_or, add-one, Option, Some, None, refl, ap, sym, ◌∙◌}
use Rattle.std.specs.List.{take-map}
use Rattle.std.proofs.Math.Seq.{take-suc}
use Rattle.std.proofs.lemmas.List.{length-map}
use Rattle.gb_core.specs.declared.ty.Ty.{Ty}
use Rattle.gb_core.specs.declared.ty.Ty.TheVariants.{Bool as bool_ty}
use Rattle.gb_core.specs.declared.var.Var.{Var}
use Rattle.gb_terms.specs.declared.op.Side.{Side}
use Rattle.gb_terms.specs.declared.term.Term.{Term, Term', Row_of-Term, end_of-Term, more_of-Term, end_of-Head, more_of-Head, out-Term, items-the_row-Term}
use Rattle.gb_terms.specs.declared.term.Head.TheVariants.{All}
use Rattle.gb_terms.specs.Make.{node}
use Rattle.gb_walk.specs.Clash.{outside}
use Rattle.gb_walk.proofs.ClashSteps.{out_row}
use Rattle.gb_prog.specs.AllValues.{for_all}
use Rattle.gb_mods.proofs.OrderSteps.{front_last}
use Rattle.gb_loops.specs.Read.{reads_itself, first_of, type_read, each_type, located_seen}
use Rattle.gb_loops.specs.declared.read.Located.{Located}
use mathlib.Core.Former.{Count}

each_mapped : {n : Count} (s : Side) (x : Var) (ts : Row_of-Term n) → each_type s x ts ≡ map (type_read s x) (items-the_row-Term n ts)
each_mapped s x end_of-Term = refl
each_mapped s x (more_of-Term t ts) = ap (λ l. type_read s x t ∷ l) (each_mapped s x ts)

-- the type at which a term reads a variable, by its layer
pub type_out : (t : Term) (s : Side) (x : Var) → type_read s x t ≡
    (if reads_itself s x (out-Term t).head then Some (out-Term t).ty else first_of (map (type_read s x) (take (outside (out-Term t).head s (length (out-Term t).args)) (out-Term t).args)))
type_out (Term' tt (more_of-Head h end_of-Head) n ts ty) s x =
    ap (λ l. if reads_itself s x h then Some ty else first_of (take (outside h s (length l)) l)) (each_mapped s x ts)
    ∙ ap (λ k. if reads_itself s x h then Some ty else first_of (take (outside h s k) (map (type_read s x) args))) (length-map args (type_read s x))
    ∙ ap (λ l. if reads_itself s x h then Some ty else first_of l) (take-map (type_read s x) (outside h s (length args)) args)
    ∙ ap (λ z. if reads_itself s x z.head then Some z.ty else first_of (map (type_read s x) (take (outside z.head s (length z.args)) z.args))) (sym (out_row h n ts ty))
  where
    args : List Term
    args = items-the_row-Term _ ts

-- the first type behind those of other terms, which there aren't
first_behind : (s : Side) (x : Var) (us : List Term) (t : Term) → first_of (map (type_read s x) us) ≡ None → first_of (map (type_read s x) (us ++ (t ∷ []))) ≡ first_of (type_read s x t ∷ [])
first_behind s x [] t e = refl
first_behind s x (u ∷ us) t e = by_type (type_read s x u) (λ f. first_behind s x us t f) e
  where
    by_type : (o : Option Ty) → (first_of (map (type_read s x) us) ≡ None → first_of (map (type_read s x) (us ++ (t ∷ []))) ≡ first_of (type_read s x t ∷ [])) → first_of (o ∷ map (type_read s x) us) ≡ None →
        first_of (o ∷ map (type_read s x) (us ++ (t ∷ []))) ≡ first_of (type_read s x t ∷ [])
    by_type None go e = go e
    by_type (Some u) go e = cc

first_alone : (o : Option Ty) → first_of (o ∷ []) ≡ o
first_alone None = refl
first_alone (Some t) = refl

-- one term more
pub first_next : (s : Side) (x : Var) (list : List Term) (i : ℕ) (t : Term) → i < length list → t ≡ get_or list i t → first_of (map (type_read s x) (take i list)) ≡ None →
    first_of (map (type_read s x) (take (i + 1) list)) ≡ type_read s x t
first_next s x list i t h e n =
    ap (λ l. first_of (map (type_read s x) l)) (ap (λ k. take k list) (add-one i) ∙ take-suc list i t h ∙ ap (λ z. take i list ++ (z ∷ [])) (sym e))
    ∙ first_behind s x (take i list) t n ∙ first_alone (type_read s x t)

-- the first type that is found among more terms
pub first_found : (s : Side) (x : Var) (list : List Term) (i count : ℕ) (t : Term) → i < count → count ≤ length list → t ≡ get_or list i t → first_of (map (type_read s x) (take i list)) ≡ None →
    (u : Ty) → type_read s x t ≡ Some u → first_of (map (type_read s x) (take count list)) ≡ Some u
first_found s x [] i count t h l e n u k = absurd (omega (arith, h, l))
first_found s x (v ∷ vs) i zero t h l e n u k = absurd (omega (arith, h))
first_found s x (v ∷ vs) zero (suc count) t h l e n u k = ap (λ o. first_of (o ∷ map (type_read s x) (take count vs))) (ap (type_read s x) (sym e) ∙ k)
first_found s x (v ∷ vs) (suc i) (suc count) t h l e n u k = by_type (type_read s x v) (λ f. first_found s x vs i count t (omega (arith, h)) (omega (arith, l)) e f u k) n
  where
    by_type : (o : Option Ty) → (first_of (map (type_read s x) (take i vs)) ≡ None → first_of (map (type_read s x) (take count vs)) ≡ Some u) → first_of (o ∷ map (type_read s x) (take i vs)) ≡ None →
        first_of (o ∷ map (type_read s x) (take count vs)) ≡ Some u
    by_type None go n = go n
    by_type (Some w) go n = cc

-- the last variable first
for_all_last : (W : List Located) (w : Located) (f : Term) → for_all (located_seen (W ++ (w ∷ []))) f ≡ for_all (located_seen W) (node (All w.ty) (f ∷ []) bool_ty)
for_all_last [] w f = refl
for_all_last (v ∷ W) w f = ap (λ g. node (All v.ty) (g ∷ []) bool_ty) (for_all_last W w f)

pub for_all_front : (W : List Located) (k : ℕ) (w : Located) (f : Term) → k < length W → w ≡ get_or W ((length W - 1) - k) w →
    for_all (located_seen (take (length W - k) W)) f ≡ for_all (located_seen (take (length W - (k + 1)) W)) (node (All w.ty) (f ∷ []) bool_ty)
for_all_front W k w f h e = ap (λ V. for_all (located_seen V) f) (front_last W k w h e) ∙ for_all_last (take (length W - (k + 1)) W) w f
