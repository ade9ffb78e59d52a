-- Procedures of abstract modules, by what their oracles keep.
use Rattle.std.proofs.Common.{◌≡◌, inl, inr, Bool, true, false, List, [], ◌∷◌, Option, Some, None, sym, ◌∙◌, subst}
use Rattle.std.proofs.lemmas.Bool.{and_parts}
use Rattle.std.proofs.lemmas.Option.{same_Some}
use Rattle.std.specs.List.{AllByRecursion}
use Rattle.gb_core.specs.SameTypes.{ty_eq}
use Rattle.gb_core.proofs.SameTypes.{ty_eq-Decides}
use Rattle.gb_core.specs.declared.value.Value.{Value}
use Rattle.gb_dist.specs.Coupling.{Coupling}
use Rattle.gb_dist.specs.WeightedList.{Every}
use Rattle.gb_terms.specs.declared.module.Mexp.TheVariants.{Name as named}
use Rattle.gb_terms.specs.declared.module.ProcRef.{ProcRef}
use Rattle.gb_goal.specs.Interfaces.{ProcedureType, same_params, procedure_type}
use Rattle.gb_goal.specs.Scope.{Declarations}
use Rattle.gb_meaning.specs.Names.{Name, Map}
use Rattle.gb_meaning.specs.Program.{Routine}
use Rattle.gb_meaning.specs.Runs.{outcomes, routine_denominator}
use Rattle.gb_meaning.specs.Setting.{Setting}
use Rattle.gb_meaning.specs.Sound.{FullRoutine}
use Rattle.gb_meaning.specs.Values.{Global}
use Rattle.gb_meaning.specs.Declared.{Signature}
use Rattle.gb_meaning.specs.Linking.{link_routine}
use Rattle.gb_meaning.specs.Programs.{IfThere}
use Rattle.gb_prog.specs.BothAnyOf.{AreAnswers, AreBothAnyOf, EachPair, IsPairIn, Serves}
use Rattle.gb_prog.specs.Coupled.{values_of, IsKept, Alike, AnswerAlike}
use Rattle.gb_prog.specs.OracleJudged.{IsFor, AreJudgedAlike, AreJudgedUntil}
use Rattle.gb_prog.specs.KeptProperty.{IsApartFrom, Keeps}
use Rattle.gb_prog.proofs.OracleJudged.{judged_coupled, judged_kept, judged_until}
use Rattle.gb_prog.proofs.KeptRuns.{routine_keeps}
use Rattle.gb_prog.proofs.Runs.{routine_coupled}
use Rattle.gb_prog.specs.Kept.{IsThere, AreKeeping, IsKeeping, AreKeepingUntil}
use Rattle.gb_prog.specs.Until.{AnswerUntil, Until}
use Rattle.gb_prog.proofs.UntilRuns.{routine_until}

pair_in : (P : ProcRef → ProcRef → Type 0) (os ps : List ProcRef) → EachPair P os ps → (x y : ProcRef) → IsPairIn os ps x y → P x y
pair_in P [] ps h x y i = absurd i
pair_in P (o ∷ os) [] h x y i = absurd i
pair_in P (o ∷ os) (p ∷ ps) h x y (inl e) = subst (λ z. z) (λ i. P (e.0 i) (e.1 i)) h.0
pair_in P (o ∷ os) (p ∷ ps) h x y (inr i) = pair_in P os ps h.1 x y i

first_in : (P : ProcRef → Type 0) (os ps : List ProcRef) → AllByRecursion P os → (x y : ProcRef) → IsPairIn os ps x y → P x
first_in P [] ps h x y i = absurd i
first_in P (o ∷ os) [] h x y i = absurd i
first_in P (o ∷ os) (p ∷ ps) h x y (inl e) = subst P e.0 h.0
first_in P (o ∷ os) (p ∷ ps) h x y (inr i) = first_in P os ps h.1 x y i

module _ (ds : Declarations) (g : Setting) where
  -- what a reference means that serves may answer for the oracle
  is_for : (s : Signature) (x : ProcRef) (w : IsThere ds g x) → Serves s (procedure_type ds None x) → IsFor g s (w.means)
  is_for s x w h =
      let t : ProcedureType = w.type in
      let k = and_parts (same_params t.params s.params) (ty_eq t.result s.result) (subst (Serves s) w.known h) in
      record { type = t; typed = w.typed; params = k.0; result = (ty_eq-Decides t.result s.result).0 k.1 }

  module _ (a : Name) (os ps : List ProcRef) (p q : ProcRef) (b : AreBothAnyOf ds g a os ps p q) where
    abbrev gs : List Global
    gs = g.types.footprint (named a)

    module _ (R : Map → Map → Bool) (each : EachPair (AreKeeping ds g gs R) os ps) where
      answer_alike : (s : Signature) (l r : Option Routine) → AreAnswers ds g os ps s l r → AnswerAlike g gs R s l r
      unfolding is_for pair_in
      answer_alike s l r w =
          let k = pair_in (AreKeeping ds g gs R) os ps each w.first w.second w.paired in
          let x = k.left in
          let y = k.right in
          subst (λ z. z) (λ i. AnswerAlike g gs R s (sym (w.left_meant ∙ x.there) i) (sym (w.right_meant ∙ y.there) i)) (
            k.left_leaves,
            k.right_leaves,
            judged_coupled g s gs R x.means y.means (is_for s w.first x w.left_serves) (is_for s w.second y w.right_serves) k.left_names k.right_names
                (subst (λ t. AreJudgedAlike g R t x.means y.means) (let f = is_for s w.first x w.left_serves in f.result) k.judged),
          )

      pub abstract_coupled : IsKept gs R → (r k : Routine) → g.procedure p ≡ Some r → g.procedure q ≡ Some k → (vs : List Value) (G H : Map) → values_of g.types gs G ≡ values_of g.types gs H → R G H ≡ true →
          Coupling (Alike g.types gs R) (outcomes g r vs G) (routine_denominator g r) (outcomes g k vs H) (routine_denominator g k)
      abstract_coupled kept r k e f vs G H own related =
          subst (λ z. z) (λ i. Coupling (Alike g.types gs R) (outcomes g (left_is i) vs G) (routine_denominator g (left_is i)) (outcomes g (right_is i) vs H) (routine_denominator g (right_is i)))
          (routine_coupled g b.callable R b.left b.right gs kept (λ o s h. answer_alike s (b.left o) (b.right o) (b.answers o s h)) b.own b.typed vs G H own related)
        where
          left_is : link_routine b.left b.own ≡ r
          left_is = same_Some (link_routine b.left b.own) r (sym b.left_there ∙ e)

          right_is : link_routine b.right b.own ≡ k
          right_is = same_Some (link_routine b.right b.own) k (sym b.right_there ∙ f)

    module _ (B : Map → Bool) (R : Map → Map → Bool) (each : EachPair (AreKeepingUntil ds g gs B R) os ps) where
      answer_until : (s : Signature) (l r : Option Routine) → AreAnswers ds g os ps s l r → AnswerUntil g gs B R s l r
      unfolding is_for pair_in
      answer_until s l r w =
          let k = pair_in (AreKeepingUntil ds g gs B R) os ps each w.first w.second w.paired in
          let x = k.left in
          let y = k.right in
          subst (λ z. z) (λ i. AnswerUntil g gs B R s (sym (w.left_meant ∙ x.there) i) (sym (w.right_meant ∙ y.there) i)) (
            (k.left_leaves, k.right_leaves),
            judged_until g s gs B R x.means y.means (is_for s w.first x w.left_serves) (is_for s w.second y w.right_serves) k.left_names k.right_names
                (subst (λ t. AreJudgedUntil g B R t x.means y.means) (let f = is_for s w.first x w.left_serves in f.result) k.judged),
            judged_kept g s B y.means (is_for s w.second y w.right_serves) k.event,
          )

      pub abstract_until : IsKept gs R → IsApartFrom gs B → (r k : Routine) → g.procedure p ≡ Some r → g.procedure q ≡ Some k → FullRoutine g r → FullRoutine g k → (vs us : List Value) (G H : Map) →
          (B H ≡ false → (vs ≡ us) × (values_of g.types gs G ≡ values_of g.types gs H) × (R G H ≡ true)) →
          Coupling (Until B (Alike g.types gs R)) (outcomes g r vs G) (routine_denominator g r) (outcomes g k us H) (routine_denominator g k)
      abstract_until kept apart r k e f left_full right_full vs us G H start =
          subst (λ z. z) (λ i. Coupling (Until B (Alike g.types gs R)) (outcomes g (left_is i) vs G) (routine_denominator g (left_is i)) (outcomes g (right_is i) us H) (routine_denominator g (right_is i)))
          (routine_until g b.callable B R b.left b.right gs kept apart (λ o s h. answer_until s (b.left o) (b.right o) (b.answers o s h)) b.own b.typed
          (subst (FullRoutine g) (sym left_is) left_full) (subst (FullRoutine g) (sym right_is) right_full) vs us G H start)
        where
          left_is : link_routine b.left b.own ≡ r
          left_is = same_Some (link_routine b.left b.own) r (sym b.left_there ∙ e)

          right_is : link_routine b.right b.own ≡ k
          right_is = same_Some (link_routine b.right b.own) k (sym b.right_there ∙ f)

    module _ (I : Map → Bool) (each : AllByRecursion (IsKeeping ds g I) os) where
      answer_keeps : (s : Signature) (l r : Option Routine) → AreAnswers ds g os ps s l r → IfThere (Keeps g I s) l
      answer_keeps s l r w =
          let k = first_in (IsKeeping ds g I) os ps each w.first w.second w.paired in
          let x = k.there in
          subst (IfThere (Keeps g I s)) (sym (w.left_meant ∙ x.there)) (judged_kept g s I x.means (is_for s w.first x w.left_serves) k.judged)

      pub abstract_kept : IsApartFrom gs I → (r : Routine) → g.procedure p ≡ Some r → (vs : List Value) (G : Map) → I G ≡ true → Every (λ n. I n.globals ≡ true) (outcomes g r vs G)
      abstract_kept apart r e vs G i =
          subst (λ z. Every (λ n. I n.globals ≡ true) (outcomes g z vs G)) (same_Some (link_routine b.left b.own) r (sym b.left_there ∙ e))
          (routine_keeps g b.callable I b.left (λ o s h. answer_keeps s (b.left o) (b.right o) (b.answers o s h)) gs apart b.own b.typed vs G i)
