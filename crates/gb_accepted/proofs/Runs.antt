-- Commands, and scripts of them, keep sessions good.
use Rattle.std.proofs.Common.{◌≡◌, ℕ, zero, suc, List, [], ◌∷◌, take, drop, Option, Some, None, refl, ap, sym, subst}
use Rattle.gb_core.specs.declared.place.Place.{Place}
use Rattle.gb_lex.specs.Lex.{cut_of}
use Rattle.gb_lex.specs.PlaceAfter.{place_after}
use Rattle.gb_lex.specs.declared.token.Cut.{Cut}
use Rattle.gb_lex.specs.declared.token.Cut.TheVariants as cut
use Rattle.gb_script.specs.declared.head.Head.{Head}
use Rattle.gb_script.specs.declared.head.Head.TheVariants as head
use Rattle.gb_script.specs.declared.tree.Node.{Node}
use Rattle.gb_script.specs.Tree.{head_of, text_of, parts_of, place_of}
use Rattle.gb_goal.specs.Answers.{Answer}
use Rattle.gb_goal.specs.Answers.Answer.{given}
use Rattle.gb_elab_mod.specs.Lemmas.{name_in}
use Rattle.gb_elab_laws.proofs.Given.{given_is}
use Rattle.gb_theory.specs.Built.{Session, OpenProof, fresh_session}
use Rattle.gb_theory.specs.Commands.{InProof, Proves, ComesToOf, ComesTo}
use Rattle.gb_language.specs.declared.rows.TheConstants.{COMMAND}
use Rattle.gb_print.specs.Blank.{IsUnblank}
use Rattle.gb_script.specs.Each.{Each}
use Rattle.gb_theory.specs.Outcome.{IsReadAs, RunsTo, IsEnd, Ends, Goes, RunsIn, start, IsOutcome}
use Rattle.gb_accepted.proofs.Given.{nothing_given, given_after, given_placed}
use Rattle.gb_accepted.proofs.Grounds.{Grounds}
use Rattle.gb_accepted.proofs.Good.{IsGoodClaim, IsGoodIfOpen, IsGood, fresh_is_good}
use Rattle.gb_accepted.proofs.Declarations.{requires_keeps, brings_keeps, assumes_nothing, declares_keeps, opens_keeps, opens_loops_keeps, begun_keeps, ended_keeps}
use Rattle.gb_accepted.proofs.Steps.{works_keep}

in_proof : (s : Session) (o : Option OpenProof) (place : Place) (P : OpenProof → Answer Session → Type 0) (next : Session) → IsGoodIfOpen s.scope o →
    InProof o place P (given next) → (p : OpenProof) × IsGoodClaim s.scope p.claim p.goals × P p (given next)
in_proof s None place P next h i = nothing_given _ _ next (sym i)
in_proof s (Some p) place P next h i = (p, h, i)

module _ (o : Grounds) where
  proves_keep : (s : Session) (t : Node) (place : Place) (next : Session) → IsGood s → Proves s t place (given next) → IsGood next
  proves_keep s t place next g e =
      let i = in_proof s s.proof place _ next g.proof e in works_keep o i.0.goals s i.0 t place next g i.1 i.2

  head_keeps : (s : Session) (c : Node) (h : Head) (parts : List Node) (next : Session) → parts_of c ≡ parts → IsGood s → Each IsUnblank c →
      ComesToOf s c h parts (given next) → IsGood next
  head_keeps s c head.Require (import ∷ names ∷ []) next are g u e = requires_keeps s (parts_of names) (place_of c) next g (sym e)
  head_keeps s c head.TypeDeclaration parts next are g u e = brings_keeps o s c (place_of c) next g u (sym e)
  head_keeps s c head.OperatorDeclaration parts next are g u e = brings_keeps o s c (place_of c) next g u (sym e)
  head_keeps s c head.ModuleType parts next are g u e = brings_keeps o s c (place_of c) next g u (sym e)
  head_keeps s c head.Axiom parts next are g u e = absurd (assumes_nothing s (place_of c) next (sym e))
  head_keeps s c head.Module parts next are g u e = declares_keeps o s c (place_of c) next g u (sym e)
  head_keeps s c head.AscribedModule parts next are g u e = declares_keeps o s c (place_of c) next g u (sym e)
  head_keeps s c head.Lemma (name ∷ parts) next are g u e = opens_keeps o s c (text_of name) (place_of c) next g u (ap name_in are) (sym e)
  head_keeps s c head.Termination (path ∷ []) next are g u e = opens_loops_keeps o s path (place_of c) next g (sym e)
  head_keeps s c head.Proof parts next are g u e =
      let i = in_proof s s.proof (place_of c) _ next g.proof e in begun_keeps s i.0 (place_of c) next g i.1 (sym i.2)
  head_keeps s c head.Qed parts next are g u e =
      let i = in_proof s s.proof (place_of c) _ next g.proof e in ended_keeps o i.0.goals s i.0 (place_of c) next g i.1 (sym i.2)
  head_keeps s c head.Tactic (step ∷ more) next are g u e =
      proves_keep s c (place_of step) next g e
  head_keeps s c _ _ next are g u e = nothing_given _ _ next (sym e)

  -- a command of whose nodes no text begins with a blank
  pub command_keeps : (s : Session) (c : Node) (next : Session) → IsGood s → Each IsUnblank c → ComesTo s c (given next) → IsGood next
  command_keeps s c next g u e =
      head_keeps s c (head_of c) (parts_of c) next refl g u
      (subst (ComesToOf s c (head_of c) (parts_of c)) (given_placed e.0 (place_of c) next e.2) e.1)

  -- what is read as a command is one
  pub read_unblank : (piece : List ℕ) (at : Place) (c : Node) → IsReadAs piece at (given c) → Each IsUnblank c
  read_unblank piece at c r = o.names.texts COMMAND piece at c r.1

  end_keeps : (s : Session) (o : Option OpenProof) (place : Place) (last : Session) → IsGood s → IsEnd s o place (given last) → IsGood last
  end_keeps s None place last g e = subst IsGood (sym (given_is _ _ e)) g
  end_keeps s (Some p) place last g e = nothing_given _ _ last (sym e)

  ends_keep : (c : Cut) (s : Session) (at : Place) (rest : List ℕ) (last : Session) → IsGood s → Ends c s at rest (given last) → IsGood last
  ends_keep (cut.Command to) s at rest last g e = absurd e
  ends_keep cut.End s at rest last g e = end_keeps s s.proof (place_after at rest) last g e
  ends_keep cut.Rest s at rest last g e = nothing_given _ _ last (sym e)

  goes_keep : (c : Cut) (P : Session → Place → List ℕ → Answer Session → Type 0)
      (more : (s : Session) (at : Place) (rest : List ℕ) (last : Session) → IsGood s → P s at rest (given last) → IsGood last)
      (s : Session) (at : Place) (rest : List ℕ) (last : Session) → IsGood s → Goes c P s at rest (given last) → IsGood last
  goes_keep (cut.Command to) P more s at rest last g e =
      let read : IsReadAs (take to rest) at e.0 = e.1 in
      let a = given_after e.2.0 (λ next. P next (place_after at (take to rest)) (drop to rest)) last e.2.2 in
      let ran : RunsTo s e.0 (given a.0) = subst (RunsTo s e.0) a.1 e.2.1 in
      let c = given_after e.0 (ComesTo s) a.0 ran in
      more a.0 (place_after at (take to rest)) (drop to rest) last (command_keeps s c.0 a.0 g (read_unblank (take to rest) at c.0 (subst (IsReadAs (take to rest) at) c.1 read)) c.2) a.2
  goes_keep cut.End P more s at rest last g e = absurd e
  goes_keep cut.Rest P more s at rest last g e = absurd e

  runs_keep : (n : ℕ) (s : Session) (at : Place) (rest : List ℕ) (last : Session) → IsGood s → RunsIn n s at rest (given last) → IsGood last
  runs_keep zero s at rest last g e = ends_keep (cut_of rest 0) s at rest last g e
  runs_keep (suc n) s at rest last g e = goes_keep (cut_of rest 0) (RunsIn n) (runs_keep n) s at rest last g e

  -- what an accepted script comes to is a good session
  pub outcome_is_good : (text : List ℕ) (s : Session) → IsOutcome text (given s) → IsGood s
  outcome_is_good text s outcome = runs_keep outcome.0 fresh_session start text s fresh_is_good outcome.1
