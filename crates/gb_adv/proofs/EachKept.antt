-- Judgments of all oracles of two procedures: each pair keeps the relation of globals that a form says.
use Rattle.std.proofs.Common.{◌≡◌, inl, inr, Bool, true, false, ◌&&◌, if◌then◌else◌, List, [], ◌∷◌, Option, Some, None, refl, sym, subst}
use Rattle.std.proofs.lemmas.Bool.{and_parts}
use Rattle.std.specs.List.{AllByRecursion}
use Rattle.gb_core.specs.declared.refusal.Why.TheVariants.{Shape}
use Rattle.gb_terms.specs.declared.module.ProcRef.{ProcRef}
use Rattle.gb_terms.specs.declared.term.Term.{Term}
use Rattle.gb_goal.specs.Answers.Answer.{given}
use Rattle.gb_goal.specs.Goal.{Goal}
use Rattle.gb_goal.specs.Rows.{refusing}
use Rattle.gb_goal.specs.Interfaces.{ProcedureType, procedure_type}
use Rattle.gb_goal.specs.Scope.{Declarations}
use Rattle.gb_meaning.specs.Judgments.{Judge, IsFair}
use Rattle.gb_meaning.specs.Setting.{Setting}
use Rattle.gb_meaning.specs.State.{State}
use Rattle.gb_meaning.specs.Values.{Global}
use Rattle.gb_mods.proofs.Closed.{IsIn}
use Rattle.gb_typing.specs.Context.{Context, procedure, reframed}
use Rattle.gb_typing.specs.Fits.{IsSettingOf}
use Rattle.gb_typing.specs.Meaning.{Stands}
use Rattle.gb_typing.specs.Rules.{outermost}
use Rattle.gb_typing.specs.Typing.{IsForm}
use Rattle.gb_typing.proofs.Given.{refused_given}
use Rattle.gb_prog.specs.BothAnyOf.{EachPair}
use Rattle.gb_call.specs.Call.{in_front}
use Rattle.gb_prog.specs.Coupled.{Leaves}
use Rattle.gb_prog.specs.Kept.{AreKeeping}
use Rattle.gb_adv.specs.Oracles.{each_keep_both, keep_both, with_both}
use Rattle.gb_adv.specs.OwnNames.{own_names}
use Rattle.gb_adv.proofs.KeptPairs.{oracle_there, pair_keeps}
use Rattle.gb_adv.proofs.OracleGoals.{given_front, own}
use Rattle.gb_adv.proofs.Related.{related}

module _ (ds : Declarations) (b : Context) (g : Setting) (fits : IsSettingOf b g)
    (knows : (o : ProcRef) (t : ProcedureType) → procedure_type ds None o ≡ Some t → procedure b o ≡ Some t)
    (outer : IsSettingOf (outermost b) g) (j : Judge) (fair : IsFair g j) (v : State) (i : Term) (w : IsForm (reframed (outermost b) None (Some []) (Some [])) i) (gs : List Global) where
  -- each of these procedures writes none of the globals
  abbrev pub AreLeaving : List ProcRef → Type 0
  AreLeaving os = (o : ProcRef) → IsIn os o → (t : ProcedureType) (e : procedure_type ds None o ≡ Some t) → Leaves g gs (let x = oracle_there ds b g fits knows o t e in x.means)

  abbrev AreKept : List ProcRef → List ProcRef → Type 0
  AreKept os ps = EachPair (AreKeeping ds g gs (related b g outer j fair v i w)) os ps

  -- so is each pair, where the goals of all stand
  abbrev AreShown : List ProcRef → List ProcRef → Type 0
  AreShown os ps = (Hs : List Goal) → each_keep_both ds i os ps ≡ given Hs → AllByRecursion (Stands g j v) Hs → AreKept os ps

  pub each_kept : (os ps : List ProcRef) → AreLeaving os → AreLeaving ps → (Gs : List Goal) → each_keep_both ds i os ps ≡ given Gs → AllByRecursion (Stands g j v) Gs → AreKept os ps
  each_kept [] ps l r Gs e h = tt
  each_kept (o ∷ os) [] l r Gs e h = tt
  each_kept (o ∷ os) (p ∷ ps) l r Gs e h = by_types (procedure_type ds None o) refl (procedure_type ds None p) refl e
      (λ Hs f k. each_kept os ps (λ q m. l q (inr m)) (λ q m. r q (inr m)) Hs f k)
    where
      by_names : (t u : ProcedureType) → procedure_type ds None o ≡ Some t → procedure_type ds None p ≡ Some u → (c : Bool) → (own_names t.params && own_names u.params) ≡ c →
          (if c then in_front (keep_both i o t p u) (each_keep_both ds i os ps) else refusing Shape) ≡ given Gs → AreShown os ps → AreKept (o ∷ os) (p ∷ ps)
      by_names t u f k true n e go =
          let z = given_front (keep_both i o t p u) (each_keep_both ds i os ps) Gs e in
          let y : AllByRecursion (Stands g j v) (keep_both i o t p u ∷ z.0) = subst (AllByRecursion (Stands g j v)) (sym z.2) h in
          let c = and_parts (own_names t.params) (own_names u.params) n in (
            pair_keeps ds b g fits knows outer j fair v i w gs o p t u f k (own t.params c.0) (own u.params c.1) (l o (inl refl) t f) (r p (inl refl) u k) y.0,
            go z.0 z.1 y.1,
          )
      by_names t u f k false n e go = refused_given Shape Gs e

      by_types : (f : Option ProcedureType) → procedure_type ds None o ≡ f → (k : Option ProcedureType) → procedure_type ds None p ≡ k → with_both i o f p k (each_keep_both ds i os ps) ≡ given Gs → AreShown os ps → AreKept (o ∷ os) (p ∷ ps)
      by_types None f k n e go = refused_given Shape Gs e
      by_types (Some t) f None n e go = refused_given Shape Gs e
      by_types (Some t) f (Some u) n e go = by_names t u f n (own_names t.params && own_names u.params) refl e go
