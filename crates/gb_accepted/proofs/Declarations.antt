-- Modules, lemmas and the words of a proof keep sessions good.
use Rattle.std.proofs.Common.{◌≡◌, ℕ, Bool, true, false, List, [], ◌∷◌, ◌++◌, Option, Some, None, refl, ap, sym, ◌∙◌, subst}
use Rattle.gb_core.specs.declared.place.Place.{Place}
use Rattle.gb_core.specs.declared.refusal.Why.{Why}
use Rattle.gb_core.specs.declared.refusal.Why.TheVariants.{NoGoal}
use Rattle.gb_terms.specs.declared.decl.Module.{Module}
use Rattle.gb_terms.specs.declared.decl.Param.{Param}
use Rattle.gb_terms.specs.declared.decl.Proc.{Proc}
use Rattle.gb_terms.specs.declared.term.Term.{out-Term}
use Rattle.gb_goal.specs.Binders.{with_declared_modules}
use Rattle.gb_goal.specs.Goal.{goal_of, judges_bodies}
use Rattle.gb_goal.specs.Scope.{Declarations, as_module, declarations_in, entry_of, proc_if_plain, proc_in, proc_of, procedure_of, ClaimNothing}
use Rattle.gb_goal.specs.declared.scope.Entry.{Entry}
use Rattle.gb_goal.specs.declared.scope.Entry.TheVariants as entry
use Rattle.gb_goal.specs.declared.scope.ProcName.{ProcName}
use Rattle.gb_goal.specs.declared.sequent.Sequent.{Sequent}
use Rattle.gb_script.specs.declared.head.Head.{Head}
use Rattle.gb_script.specs.declared.head.Head.TheVariants as head
use Rattle.gb_script.specs.declared.tree.Node.{Node}
use Rattle.gb_script.specs.Tree.{head_of, text_of, parts_of, place_of}
use Rattle.gb_meaning.specs.Declared.{declared}
use Rattle.gb_meaning.specs.Holds.{declared_modules, interpretation}
use Rattle.gb_meaning.specs.Settings.{setting}
use Rattle.gb_meaning.specs.Truth.{has_module}
use Rattle.gb_meaning.proofs.Scopes.{gained_others}
use Rattle.gb_goal.specs.Answers.{given_or}
use Rattle.gb_goal.specs.Answers.Answer.{given}
use Rattle.gb_meaning.specs.Names.{Name}
use Rattle.gb_names.specs.Judgments.{Path, declared_module, module_in, procedure_path, whole}
use Rattle.gb_names.specs.Names.{no_declared, no_procedure, unless_unproved}
use Rattle.gb_ended.specs.Ended.{first_unproved_in}
use Rattle.gb_elab_prog.specs.Entries.{entries_given}
use Rattle.gb_elab_mod.specs.Lemmas.{lemma_name, statement_given}
use Rattle.gb_elab_prog.specs.Modules.{module_given}
use Rattle.gb_prog.specs.Ends.{LoopsEnd, SequentEnds}
use Rattle.gb_typing.specs.Scopes.{is_declared, IsTypedScope}
use Rattle.gb_typing.proofs.Conclusions.{formula_form}
use Rattle.gb_typing.proofs.Lifted.{each}
use Rattle.gb_amb.proofs.Cases.{conclusion_formula}
use Rattle.gb_elab_laws.proofs.Given.{given_bind, given_is, if_given, some_given}
use Rattle.gb_loops.specs.Operand.{Found, ended_at, operand, operand_by, proc_name, procedure_at}
use Rattle.gb_loops.specs.Variants.{goals_of}
use Rattle.gb_theory.specs.Built.{Session, OpenProof, with_entries, with_goals}
use Rattle.gb_theory.specs.Limits.{declaration_limit, each_limit, all_limit}
use Rattle.gb_theory.specs.Commands.{within, allowed, all_allowed, outside, brought, requires_files, assumes, brings, declares, loops_opened, opens, opens_loops, begun, ended}
use Rattle.gb_accepted.proofs.Given.{nothing_given, given_outside}
use Rattle.gb_accepted.proofs.Grounds.{Grounds, IsTypedGoalOf, around, seen}
use Rattle.gb_typing.specs.Naming.{NoName}
use Rattle.gb_elab_laws.specs.Speaking.{IsFirmScope, ScopeSpeaks}
use Rattle.gb_arguments.specs.Unblank.{AreUnblank}
use Rattle.gb_print.specs.Blank.{IsUnblank, begins_blank}
use Rattle.gb_script.specs.Each.{Each}
use Rattle.gb_accepted.proofs.Claims.{claim_proved}
use Rattle.gb_accepted.proofs.Good.{IsGoodClaim, IsGoodIfOpen, IsGoodTermination, IsGood, StatesProcedures}
use Rattle.gb_accepted.proofs.Later.{each_later, firm_together, names_stay, proved_later, unblank_together}
use Rattle.gb_accepted.proofs.LoopProofs.{named, IsGoodLoops, loops_begin}

-- a session in which more is declared, none of which is a lemma or an abstract module
with_more : Grounds → (s : Session) (added : Declarations) → s.proof ≡ None → IsGood s → IsTypedScope (declared (s.scope ++ added)) → ClaimNothing added → IsFirmScope added → ScopeSpeaks NoName (declared added) →
    AreUnblank added → IsGood (with_entries s added)
with_more o s added none g typed others firm speaks unblank = record {
  typed = typed;
  firm = firm_together s.scope added g.firm firm;
  sound = gained_others s.scope added others g.sound;
  lemmas = record { names = names_stay s.scope added others ∙ g.lemmas.names; proved = proved_later s.scope added others g.lemmas.proved };
  speaks = (o.models.parts s.scope added).1 (g.speaks, speaks);
  statements = each_later s.scope added others StatesProcedures g.statements;
  unblank = unblank_together s.scope added g.unblank unblank;
  proof = subst (IsGoodIfOpen _) (sym none) tt;
}

pub brings_keeps : Grounds → (s : Session) (t : Node) (place : Place) (next : Session) → IsGood s → Each IsUnblank t → brings s t place ≡ given next → IsGood next
brings_keeps o s t place next g u e =
    let a = given_bind (outside s.proof place) _ next e in
    let b = given_bind (entries_given s.scope t) _ next a.2 in
    let c = given_bind (within (declaration_limit (declarations_in s.scope)) place) _ next b.2 in
    subst IsGood (given_is _ _ c.2)
    (with_more o s b.0 (given_outside s.proof place a.0 a.1) g (o.typing.entries_added s.scope g.typed t b.0 b.1) (o.typing.others s.scope t b.0 b.1) (o.typing.entries_firm s.scope g.typed t b.0 b.1)
    (o.typing.entries_speak s.scope g.typed t b.0 b.1) (o.names.entries s.scope t b.0 u b.1))

pub requires_keeps : (s : Session) (names : List Node) (place : Place) (next : Session) → IsGood s → requires_files s names place ≡ given next → IsGood next
requires_keeps s names place next g e =
    let a = given_bind (outside s.proof place) _ next e in
    let b = given_bind (brought names) _ next a.2 in
    subst IsGood (given_is s next b.2) g

pub assumes_nothing : (s : Session) (place : Place) (next : Session) → assumes s place ≡ given next → ⊥
assumes_nothing s place next e = let a = given_bind (outside s.proof place) _ next e in nothing_given _ _ next a.2

pub declares_keeps : Grounds → (s : Session) (t : Node) (place : Place) (next : Session) → IsGood s → Each IsUnblank t → declares s t place ≡ given next → IsGood next
declares_keeps o s t place next g u e =
    let a = given_bind (outside s.proof place) _ next e in
    let b = given_bind (module_given s.scope t) _ next a.2 in
    let c = given_bind (within (declaration_limit (declarations_in s.scope)) place) _ next b.2 in
    subst IsGood (given_is _ _ c.2)
    (with_more o s ((b.0.name, entry.Module b.0) ∷ []) (given_outside s.proof place a.0 a.1) g (o.typing.module_added s.scope g.typed t b.0 b.1) (refl, tt) (tt, tt) (o.typing.module_speaks s.scope g.typed t b.0 b.1, tt)
    (o.names.modules s.scope t b.0 u b.1, tt))

-- a statement about procedures has no body
statement_ends : Grounds → (ds : Declarations) (q : Sequent) → IsTypedGoalOf ds q → judges_bodies (out-Term q.conclusion).head ≡ false → SequentEnds (declared ds) q
statement_ends o ds q t bodies = step (has_module q.conclusion) refl
  where
    step : (b : Bool) → has_module q.conclusion ≡ b → SequentEnds (declared ds) q
    step true k = λ w size table m.
        each (declared ds) (declared_modules (declared ds)) (interpretation w size table) _
        (λ i. each (declared ds) q.modules i (λ k. LoopsEnd (setting (declared ds) k) (goal_of q.conclusion)) (λ x. subst (LoopsEnd (setting (declared ds) x)) (sym (o.rules.front q.conclusion k)) tt))
    step false k =
        let f = formula_form (around ds q t) q.conclusion (conclusion_formula (around ds q t) q.conclusion t.conclusion bodies) k in
        o.loops.forms (declared ds) q (around ds q t) f.typed

pub opens_keeps : Grounds → (s : Session) (t : Node) (name : List ℕ) (place : Place) (next : Session) → IsGood s → Each IsUnblank t → lemma_name t ≡ name →
    opens s t name place ≡ given next → IsGood next
opens_keeps o s t name place next g u same e =
    let a = given_bind (outside s.proof place) _ next e in
    let b = given_bind (statement_given s.scope t) _ next a.2 in
    let c = given_bind (within (declaration_limit (declarations_in s.scope)) place) _ next b.2 in
    let d = given_bind (within (each_limit (b.0 ∷ [])) place) _ next c.2 in
    let q = b.0 in
    let procedures = o.typing.procedures s.scope g.typed g.firm t q b.1 in
    let goal = o.typing.statement_goal s.scope g.typed t q b.1 in
    subst IsGood (given_is _ _ d.2) (record {
      typed = g.typed;
      firm = g.firm;
      sound = g.sound;
      lemmas = record { names = g.lemmas.names; proved = g.lemmas.proved };
      speaks = g.speaks;
      statements = g.statements;
      unblank = g.unblank;
      proof = record {
        unblank = subst (λ n. begins_blank n ≡ false) same (o.names.lemmas t u);
        binders = o.names.statements s.scope t q u b.1;
        free = subst (λ n. is_declared (declared s.scope) n ≡ false) same (o.typing.free s.scope t q b.1);
        statement = o.typing.statement s.scope g.typed t q b.1;
        procedures = procedures;
        scope = o.typing.statement_scope s.scope g.typed t q b.1;
        goals = (record { typed = goal; alone = refl; ends = statement_ends o (seen s.scope q.modules) (with_declared_modules q) goal procedures.bodies }, tt);
        leads = λ hs. o.models.without_declared s.scope q hs.0;
      };
    })

whole_is : (ps : List Param) (k m : Module) (p : Place) → whole ps k p ≡ given m → (ps ≡ []) × (k ≡ m)
whole_is [] k m p h = (refl, given_is k m h)
whole_is (q ∷ qs) k m p h = cc

-- the module of a name has no parameters
module_is : (o : Option Entry) (w : Why) (p : Place) (m : Module) → module_in o w p ≡ given m → (o ≡ Some (entry.Module m)) × (m.params ≡ [])
module_is (Some (entry.Module k)) w p m h =
    let q = whole_is k.params k m p h in (ap (λ z. Some (entry.Module z)) q.1, subst (λ (z : Module). z.params ≡ []) q.1 q.0)
module_is (Some _) w p m h = cc
module_is None w p m h = cc

without_params : (ps : List Param) (qs : List Proc) (n : Name) (f : Proc) → ps ≡ [] → proc_of qs n ≡ Some f → proc_if_plain ps qs n ≡ Some f
without_params ps qs n f k h = ap (λ z. proc_if_plain z qs n) k ∙ h

in_module : (o : Option Entry) (m : Module) (n : Name) (f : Proc) → o ≡ Some (entry.Module m) → m.params ≡ [] → proc_of m.procs n ≡ Some f → proc_in (as_module o) n ≡ Some f
in_module o m n f e k h = ap (λ z. proc_in (as_module z) n) e ∙ without_params m.params m.procs n f k h

-- the procedure that is named is declared
named_there : (ds : Declarations) (f : Path) (p : Place) (x : Found) → procedure_at ds f p ≡ given x → procedure_of ds (named x.0) ≡ Some x.1
unfolding procedure_at
named_there ds f p x h =
    let w = text_of f.1 in
    let m = given_bind (declared_module None ds f.0 p) _ x h in
    let d = given_bind (given_or (proc_of m.0.procs w) (no_procedure m.0 w) (place_of f.1)) _ x m.2 in
    let n = given_bind (ended_at ds (proc_name f) p) (λ (n : ProcName). given (n, d.0)) x d.2 in
    let u = given_bind (unless_unproved (first_unproved_in ds (proc_name f)) p) (λ _. given (proc_name f)) n.0 n.1 in
    let e = module_is (entry_of ds f.0) (no_declared None ds f.0) p m.0 m.1 in
    subst (λ (z : Found). procedure_of ds (named z.0) ≡ Some z.1) (given_is (n.0, d.0) x n.2)
    (subst (λ (z : ProcName). procedure_of ds (named z) ≡ Some d.0) (given_is (proc_name f) n.0 u.2)
    (in_module (entry_of ds f.0) m.0 w d.0 e.0 e.1 (some_given (proc_of m.0.procs w) (no_procedure m.0 w) (place_of f.1) d.0 d.1)))

pub operand_there : (ds : Declarations) (h : Head) (y : List ℕ) (ps : List Node) (p : Place) (x : Found) → operand_by ds h y ps p ≡ given x → procedure_of ds (named x.0) ≡ Some x.1
operand_there ds head.Path y (a ∷ b ∷ bs) p x e = named_there ds (procedure_path (text_of a) b bs) p x e
operand_there ds head.Name y ps p x e = nothing_given (no_declared None ds y) p x e
operand_there ds _ y ps p x e = cc

pub opens_loops_keeps : Grounds → (s : Session) (t : Node) (place : Place) (next : Session) → IsGood s → opens_loops s t place ≡ given next → IsGood next
opens_loops_keeps o s t place next g e =
    let a = given_bind (outside s.proof place) _ next e in
    let b = given_bind (loops_opened s.scope t place) _ next a.2 in
    let c = given_bind (operand s.scope t) _ b.0 b.1 in
    let f = c.0 in
    let d = given_bind (all_allowed place (goals_of f.1.body.list)) _ b.0 c.2 in
    let k = given_bind (allowed place (goals_of f.1.body.list)) _ d.0 d.1 in
    let l = given_bind (within (each_limit (goals_of f.1.body.list)) place) _ k.0 k.1 in
    let m = given_bind (within (all_limit k.0) place) _ d.0 k.2 in
    let same : goals_of f.1.body.list ≡ d.0 = given_is _ k.0 l.2 ∙ given_is k.0 d.0 m.2 in
    let there = operand_there s.scope (head_of t) (text_of t) (parts_of t) (place_of t) f c.1 in
    let begins : IsGoodTermination s.scope f.0 d.0 =
    record { procedure = f.1; there = there; loops = subst (IsGoodLoops s.scope f.1) same (loops_begin s.scope f.1) } in
    subst IsGood (ap (λ p. let x : Session = record s { proof = Some p } in x) (given_is _ b.0 d.2) ∙ given_is _ next b.2) (record {
      typed = g.typed;
      firm = g.firm;
      sound = g.sound;
      lemmas = record { names = g.lemmas.names; proved = g.lemmas.proved };
      speaks = g.speaks;
      statements = g.statements;
      unblank = g.unblank;
      proof = begins;
    })

pub begun_keeps : (s : Session) (p : OpenProof) (place : Place) (next : Session) → IsGood s → IsGoodClaim s.scope p.claim p.goals → begun s p place ≡ given next → IsGood next
begun_keeps s p place next g h e =
    subst IsGood (if_given p.fresh (with_goals s p p.goals) NoGoal place next e).1 (record {
      typed = g.typed;
      firm = g.firm;
      sound = g.sound;
      lemmas = record { names = g.lemmas.names; proved = g.lemmas.proved };
      speaks = g.speaks;
      statements = g.statements;
      unblank = g.unblank;
      proof = h;
    })

pub ended_keeps : Grounds → (qs : List Sequent) (s : Session) (p : OpenProof) (place : Place) (next : Session) → IsGood s → IsGoodClaim s.scope p.claim qs → ended qs s p place ≡ given next → IsGood next
ended_keeps o [] s p place next g h e = subst IsGood (given_is _ _ e) (claim_proved o s p.claim g h)
ended_keeps o (q ∷ qs) s p place next g h e = nothing_given _ _ next e
