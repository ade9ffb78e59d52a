-- Terms with labels fit where the terms do, in the reading at types with labels.
use Rattle.std.proofs.Common.{◌≡◌, zero, suc, true, Option, Some, None, refl, ap, sym, ◌∙◌, subst}
use Rattle.std.specs.Option.{option_map}
use Rattle.gb_core.specs.declared.ty.Ty.{Ty}
use Rattle.gb_core.specs.declared.var.Var.{Var}
use Rattle.gb_core.specs.declared.var.Var.TheVariants as var
use Rattle.gb_terms.specs.declared.op.Side.{Side}
use Rattle.gb_terms.specs.declared.op.Side.TheVariants as side
use Rattle.gb_terms.specs.declared.op.Read.{Read}
use Rattle.gb_terms.specs.declared.op.Read.TheVariants.{Logical, Program}
use Rattle.gb_terms.specs.declared.term.Term.{Term, Term', Row_of-Term, end_of-Term, more_of-Term, end_of-Head, more_of-Head}
use Rattle.gb_terms.specs.declared.term.Head.TheVariants as head
use Rattle.gb_meaning.specs.Values.{values, has}
use Rattle.gb_meaning.specs.Memory.{Memory, read}
use Rattle.gb_meaning.specs.Setting.{Setting}
use Rattle.gb_meaning.specs.Setting.Meaning.{finite}
use Rattle.gb_meaning.specs.State.{State}
use Rattle.gb_meaning.specs.Terms.{read_at}
use Rattle.gb_labels.specs.Memories.{IsReadable}
use Rattle.gb_labels.specs.Labels.{Labels, labelled_ty}
use Rattle.gb_labels.specs.Labelled.{labelled, all_labelled}
use Rattle.gb_smt_laws.specs.Labels.{AreLabels}
use Rattle.gb_smt_laws.specs.Reading.{Variables, no_variables, Reading, IsReadAt, behind, inner, AreHeld, AreBoundReadable, HasTypedValues, IsReadingOf}
use Rattle.gb_smt_laws.specs.Fits.{IsOfValues, Fits, AllFit, OnlyFits, BothFit}
use Rattle.gb_smt_laws.proofs.LabelledTypes.{labelled_values}
use Rattle.gb_smt_laws.proofs.Labelled.{read_same, labelled_read, labelled_denominators}
use mathlib.Core.Former.{Count}

module _ (ls : Labels) where
  abbrev pub variables_at_labels : Variables → Variables
  variables_at_labels f = λ x. option_map (labelled_ty ls) (f x)

  -- the reading at types with labels
  abbrev pub reading_at_labels : Reading → Reading
  reading_at_labels T = record { logical = λ i. option_map (labelled_ty ls) (T.logical i); memory = λ r. variables_at_labels (T.memory r) }

  behind_labelled : (f : Variables) (m : Side → Variables) (r : Side) → variables_at_labels (behind f m r) ≡ behind (variables_at_labels f) (λ r. variables_at_labels (m r)) r
  behind_labelled f m side.Own = refl
  behind_labelled f m side.Left = refl
  behind_labelled f m side.Right = refl
  behind_labelled f m (side.Memory i) = refl
  behind_labelled f m (side.Bound zero) = refl
  behind_labelled f m (side.Bound (suc i)) = refl

  inner_labelled : (f : Variables) (T : Reading) → reading_at_labels (inner f T) ≡ inner (variables_at_labels f) (reading_at_labels T)
  inner_labelled f T = λ i. record { logical = λ k. option_map (labelled_ty ls) (T.logical k); memory = λ r. behind_labelled f T.memory r i }

  labelled_at : (T : Reading) (r : Read) (u : Ty) → IsReadAt T r u → IsReadAt (reading_at_labels T) r (labelled_ty ls u)
  labelled_at T (Logical i) u e = ap (option_map (labelled_ty ls)) e
  labelled_at T (Program x r) u e = ap (option_map (labelled_ty ls)) e

  -- a type with labels is one of a type without
  unlabelled : (o : Option Ty) (u : Ty) → option_map (labelled_ty ls) o ≡ Some u → (v : Ty) × (o ≡ Some v) × (labelled_ty ls v ≡ u)
  unlabelled None u e = cc
  unlabelled (Some v) u e = (v, refl, cc)

  unlabelled_at : (T : Reading) (r : Read) (u : Ty) → IsReadAt (reading_at_labels T) r u → (v : Ty) × IsReadAt T r v × (labelled_ty ls v ≡ u)
  unlabelled_at T (Logical i) u e = unlabelled (T.logical i) u e
  unlabelled_at T (Program x r) u e = unlabelled (T.memory r x) u e

  module _ (g : Setting) (are : AreLabels g.types ls) where
    readable_labelled : (x : Var) (v u : Ty) → labelled_ty ls v ≡ u → IsReadable g.types x v → IsReadable g.types x u
    readable_labelled (var.Local x) v u e k = tt
    readable_labelled (var.Global m x) v u e k = tt
    readable_labelled (var.Glob a) v u e k = (k.0, k.1, ap (values g.types) (sym e) ∙ labelled_values g.types ls are v ∙ k.2)

    held_labelled : (f : Variables) → AreHeld g f → AreHeld g (variables_at_labels f)
    held_labelled f held x u e =
        let v = unlabelled (f x) u e in
        let w = held x v.0 v.1 in (
          readable_labelled x v.0 u v.2 w.0,
          λ m. subst (λ u. has g.types u (read g.types m x u) ≡ true) v.2 ((λ i. (labelled_values g.types ls are v.0 i).has (read_same g.types ls are m x v.0 i)) ∙ w.1 m),
        )

    memories_labelled : (T : Reading) → AreBoundReadable g T → AreBoundReadable g (reading_at_labels T)
    memories_labelled T readable i x u e = let v = unlabelled (T.memory (side.Bound i) x) u e in readable_labelled x v.0 u v.2 (readable i x v.0 v.1)

    values_labelled : (T : Reading) (s : State) → HasTypedValues g T s → HasTypedValues g (reading_at_labels T) s
    values_labelled T s valid r u e =
        let v = unlabelled_at T r u e in
        let w = valid r v.0 v.1 in (
          w.0,
          subst (λ u. read_at g r u s ≡ finite w.0) v.2 (labelled_read g ls are r v.0 s ∙ w.1),
          subst (λ u. has g.types u w.0 ≡ true) v.2 ((λ i. (labelled_values g.types ls are v.0 i).has w.0) ∙ w.2),
        )

    pub reading_labelled : (T : Reading) (s : State) → IsReadingOf g T s → IsReadingOf g (reading_at_labels T) s
    reading_labelled T s valid = (memories_labelled T valid.0, values_labelled T s valid.1)

    mutual
      pub labelled_fits : (T : Reading) (t : Term) → Fits g T t → Fits g (reading_at_labels T) (labelled ls t)
      labelled_fits T (Term' p (more_of-Head (head.Read r) end_of-Head) n ts u) w = labelled_at T r u w
      labelled_fits T (Term' p (more_of-Head (head.Builtin o) end_of-Head) n ts u) w =
          (subst (IsOfValues o) (sym (labelled_denominators g ls are ts)) w.0, all_labelled_fit T ts w.1)
      labelled_fits T (Term' p (more_of-Head (head.User v) end_of-Head) n ts u) w = all_labelled_fit T ts w
      labelled_fits T (Term' p (more_of-Head (head.Weights ps) end_of-Head) n ts u) w = all_labelled_fit T ts w
      labelled_fits T (Term' p (more_of-Head (head.All v) end_of-Head) n ts u) w = only_labelled_fits no_variables T ts w
      labelled_fits T (Term' p (more_of-Head (head.Some v) end_of-Head) n ts u) w = only_labelled_fits no_variables T ts w
      labelled_fits T (Term' p (more_of-Head (head.Sum q) end_of-Head) n ts u) w = only_labelled_fits no_variables T ts w
      labelled_fits T (Term' p (more_of-Head head.Mu end_of-Head) n ts u) w = both_labelled_fit T ts w
      labelled_fits T (Term' p (more_of-Head head.Map end_of-Head) n ts u) w = both_labelled_fit T ts w
      labelled_fits T (Term' p (more_of-Head head.Restrict end_of-Head) n ts u) w = both_labelled_fit T ts w
      labelled_fits T (Term' p (more_of-Head head.AllMemory end_of-Head) n ts u) w =
          (variables_at_labels w.0, held_labelled w.0 w.1, only_labelled_fits w.0 T ts w.2)
      labelled_fits T (Term' p (more_of-Head head.SomeMemory end_of-Head) n ts u) w =
          (variables_at_labels w.0, held_labelled w.0 w.1, only_labelled_fits w.0 T ts w.2)
      labelled_fits T (Term' p (more_of-Head _ end_of-Head) n ts u) w = tt

      all_labelled_fit : {n : Count} (T : Reading) (ts : Row_of-Term n) → AllFit g T ts → AllFit g (reading_at_labels T) (all_labelled ls ts)
      all_labelled_fit T end_of-Term w = tt
      all_labelled_fit T (more_of-Term t ts) w = (labelled_fits T t w.0, all_labelled_fit T ts w.1)

      only_labelled_fits : {n : Count} (f : Variables) (T : Reading) (ts : Row_of-Term n) → OnlyFits g (inner f T) ts → OnlyFits g (inner (variables_at_labels f) (reading_at_labels T)) (all_labelled ls ts)
      only_labelled_fits f T end_of-Term w = tt
      only_labelled_fits f T (more_of-Term t end_of-Term) w = subst (λ T. Fits g T (labelled ls t)) (inner_labelled f T) (labelled_fits (inner f T) t w)
      only_labelled_fits f T (more_of-Term t (more_of-Term v ts)) w = tt

      both_labelled_fit : {n : Count} (T : Reading) (ts : Row_of-Term n) → BothFit g T ts → BothFit g (reading_at_labels T) (all_labelled ls ts)
      both_labelled_fit T end_of-Term w = tt
      both_labelled_fit T (more_of-Term t end_of-Term) w = tt
      both_labelled_fit T (more_of-Term t (more_of-Term v end_of-Term)) w =
          (labelled_fits T t w.0, subst (λ T. Fits g T (labelled ls v)) (inner_labelled no_variables T) (labelled_fits (inner no_variables T) v w.1))
      both_labelled_fit T (more_of-Term t (more_of-Term v (more_of-Term x ts))) w = tt
