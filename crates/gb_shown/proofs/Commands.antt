-- Commands lead from named sessions to named sessions.
use Rattle.std.proofs.Common.{◌≡◌, ℕ, List, [], ◌∷◌, ◌++◌, is_some, if◌then◌else◌, Bool, true, false, Option, Some, None, refl, ap, sym, ◌∙◌, subst}
use Rattle.std.specs.List.{AllByRecursion}
use Rattle.gb_core.specs.declared.place.Place.{Place}
use Rattle.gb_core.specs.declared.refusal.Why.TheVariants.{NoGoal}
use Rattle.gb_core.specs.declared.ty.Ty.TheVariants as ty
use Rattle.gb_goal.specs.Answers.Answer.{given}
use Rattle.gb_goal.specs.Scope.{Declarations, declarations_in, entry_of, path_of, procedure_of}
use Rattle.gb_goal.specs.declared.scope.Entry.TheVariants as entry
use Rattle.gb_goal.specs.declared.scope.ProcName.{ProcName}
use Rattle.gb_goal.specs.declared.sequent.Sequent.{Sequent}
use Rattle.gb_script.specs.declared.head.Head.{Head}
use Rattle.gb_script.specs.declared.head.Head.TheVariants as head
use Rattle.gb_script.specs.declared.tree.Node.{Node}
use Rattle.gb_script.specs.Each.Each.{each}
use Rattle.gb_script.specs.Each.{EachOf}
use Rattle.gb_script.specs.Tree.{head_of, text_of, parts_of, place_of}
use Rattle.gb_elab_prog.specs.Entries.{entries_given}
use Rattle.gb_elab_prog.specs.Modules.{module_given}
use Rattle.gb_elab_mod.specs.Lemmas.{statement_given}
use Rattle.gb_elab_laws.proofs.Given.{given_bind, given_is, if_given}
use Rattle.gb_print_names.specs.declared.bound_names.Enumeration.{Enumeration}
use Rattle.gb_print.specs.Written.{is_path}
use Rattle.gb_shown.specs.Named.{IsNamedSequent}
use Rattle.gb_shown.proofs.Sequents.{all_append}
use Rattle.gb_loops.specs.Operand.{Found, operand}
use Rattle.gb_typing.specs.Programs.{locals_of}
use Rattle.gb_typing.proofs.Located.{typed_there}
use Rattle.gb_loops.specs.Variants.{goals_of, over_none, zero_of}
use Rattle.gb_shown.specs.Scopes.{IsNamedScope}
use Rattle.gb_shown.specs.Words.{HasItsNames, IsReadNode, IsReadTree}
use Rattle.gb_shown.proofs.FoundInScopes.{found_written, names_found}
use Rattle.gb_shown.proofs.KnownProcedures.{procedures_named}
use Rattle.gb_shown.proofs.Later.{scope_later}
use Rattle.gb_shown.proofs.Paths.{name_is_path, path_behind}
use Rattle.gb_theory.specs.Built.{Session, OpenProof, with_goals, with_proved}
use Rattle.gb_theory.specs.Commands.{within, allowed, all_allowed, outside, brought, requires_files, brings, declares, loops_opened, opens, opens_loops, begun, ended, InProof, ComesToOf, ComesTo}
use Rattle.gb_theory.specs.Limits.{declaration_limit, each_limit, all_limit}
use Rattle.gb_state.specs.declared.state.Claim.{Claim}
use Rattle.gb_state.specs.declared.state.Claim.TheVariants as claim
use Rattle.gb_session.specs.Commands.{enumerated}
use Rattle.gb_accepted.proofs.Declarations.{operand_there}
use Rattle.gb_accepted.proofs.Given.{nothing_given, given_outside, given_placed}
use Rattle.gb_accepted.proofs.Good.{IsGood, IsGoodClaim, IsGoodIfOpen}
use Rattle.gb_accepted.proofs.Grounds.{Grounds}
use Rattle.gb_accepted.proofs.LoopProofs.{named}
use Rattle.gb_accepted.proofs.Declarations.{assumes_nothing}
use Rattle.gb_shown.proofs.Grounds.{Names}
use Rattle.gb_shown.proofs.Stages.{AreDeclared, IsNamedClaim, IsNamedProof, IsNamedSession, alone_named, none_more, declared_later, declared_behind}
use Rattle.gb_shown.proofs.Steps.{works_named}

-- what a tree that is read names
names_of_read : (c : Node) → IsReadTree c → (h : Head) (ps : List Node) → head_of c ≡ h → parts_of c ≡ ps → HasItsNames h ps
names_of_read c (each k ks) h ps is are = subst (λ x. HasItsNames x ps) is (subst (HasItsNames (head_of c)) are k.names)

-- its parts are such trees
parts_read : (c : Node) → IsReadTree c → EachOf IsReadNode (parts_of c)
parts_read c (each k ks) = ks

-- an open proof, what is claimed in it, and its goals
in_proof : (es : List Enumeration) (ds : Declarations) (o : Option OpenProof) (place : Place) (P : OpenProof → _ → Type 0) (next : Session) → IsGoodIfOpen ds o → IsNamedProof es o →
    InProof o place P (given next) → (p : OpenProof) × IsGoodClaim ds p.claim p.goals × IsNamedProof es (Some p) × P p (given next)
in_proof es ds None place P next h n i = nothing_given _ _ next (sym i)
in_proof es ds (Some p) place P next h n i = (p, h, n, i)

-- what is claimed is declared
scope_ended : (es : List Enumeration) (ds : Declarations) (f : ProcName) → IsNamedScope es ds → is_path (path_of f) ≡ true → (b : Bool) →
    IsNamedScope es (if b then ds else ds ++ (path_of f, entry.Terminating f) ∷ [])
scope_ended es ds f k p true = k
scope_ended es ds f k p false = all_append _ ds _ k ((p, tt), tt)

listed_ended : (es : List Enumeration) (ds : Declarations) (f : ProcName) → AreDeclared es ds → (b : Bool) → AreDeclared es (if b then ds else ds ++ (path_of f, entry.Terminating f) ∷ [])
listed_ended es ds f k true = k
listed_ended es ds f k false = declared_later es ds _ k

proved_named : (es : List Enumeration) (s : Session) (c : Claim) → IsNamedSession es s → IsNamedClaim es c → IsNamedSession es (with_proved s c)
proved_named es s (claim.Lemma n q bs) k c = record { scope = all_append _ s.scope _ k.scope ((c.0, c.1), tt); listed = declared_later es s.scope _ k.listed; proof = tt }
proved_named es s (claim.Loops f) k c = record { scope = scope_ended es s.scope f k.scope c (is_some (entry_of s.scope (path_of f))); listed = listed_ended es s.scope f k.listed (is_some (entry_of s.scope (path_of f))); proof = tt }

ended_named : (es : List Enumeration) (qs : List Sequent) (s : Session) (p : OpenProof) (place : Place) (next : Session) → IsNamedSession es s → IsNamedClaim es p.claim → ended qs s p place ≡ given next → IsNamedSession es next
ended_named es [] s p place next k c e = subst (IsNamedSession es) (given_is _ _ e) (proved_named es s p.claim k c)
ended_named es (q ∷ qs) s p place next k c e = nothing_given _ _ next e

begun_named : (es : List Enumeration) (s : Session) (p : OpenProof) (place : Place) (next : Session) → IsNamedSession es s → IsNamedProof es (Some p) → begun s p place ≡ given next → IsNamedSession es next
begun_named es s p place next k n e =
    subst (IsNamedSession es) (if_given p.fresh (with_goals s p p.goals) NoGoal place next e).1 (record { scope = k.scope; listed = k.listed; proof = n })

requires_named : (es : List Enumeration) (s : Session) (files : List Node) (place : Place) (next : Session) → IsNamedSession es s → requires_files s files place ≡ given next → IsNamedSession es next
requires_named es s files place next k e =
    let a = given_bind (outside s.proof place) _ next e in
    let b = given_bind (brought files) _ next a.2 in
    subst (IsNamedSession es) (given_is s next b.2) k

module _ (o : Grounds) (names : Names) (es : List Enumeration) (s : Session) (g : IsGood s) (k : IsNamedSession es s) where
  -- the enumeration that a command lists
  abbrev with_listed : Node → List Enumeration
  with_listed c = es ++ enumerated (head_of c) (parts_of c)

  brings_named : (c : Node) → IsReadTree c → (place : Place) (next : Session) → brings s c place ≡ given next → IsNamedSession (with_listed c) next
  brings_named c read place next e =
      let a = given_bind (outside s.proof place) _ next e in
      let b = given_bind (entries_given s.scope c) _ next a.2 in
      let d = given_bind (within (declaration_limit (declarations_in s.scope)) place) _ next b.2 in
      let listed = enumerated (head_of c) (parts_of c) in
      let n = names.scripts.entries es s.scope k.scope k.listed c read b.0 b.1 in
      subst (IsNamedSession (with_listed c)) (given_is _ _ d.2) (record {
        scope = all_append _ s.scope b.0 (scope_later listed es s.scope k.scope) n.0;
        listed = all_append _ es listed (declared_later es s.scope b.0 k.listed) (declared_behind listed s.scope b.0 n.1);
        proof = subst (IsNamedProof (with_listed c)) (sym (given_outside s.proof place a.0 a.1)) tt;
      })

  declares_named : (c : Node) → IsReadTree c → (place : Place) (next : Session) → declares s c place ≡ given next → IsNamedSession es next
  declares_named c read place next e =
      let a = given_bind (outside s.proof place) _ next e in
      let b = given_bind (module_given s.scope c) _ next a.2 in
      let d = given_bind (within (declaration_limit (declarations_in s.scope)) place) _ next b.2 in
      let n = names.scripts.modules es s.scope k.scope c read b.0 b.1 in
      subst (IsNamedSession es) (given_is _ _ d.2) (record {
        scope = all_append _ s.scope ((b.0.name, entry.Module b.0) ∷ []) k.scope ((name_is_path b.0.name n.name, n), tt);
        listed = declared_later es s.scope _ k.listed;
        proof = subst (IsNamedProof es) (sym (given_outside s.proof place a.0 a.1)) tt;
      })

  opens_named : (c : Node) → IsReadTree c → (name : List ℕ) → is_path name ≡ true → (place : Place) (next : Session) → opens s c name place ≡ given next → IsNamedSession es next
  opens_named c read name path place next e =
      let a = given_bind (outside s.proof place) _ next e in
      let b = given_bind (statement_given s.scope c) _ next a.2 in
      let d = given_bind (within (declaration_limit (declarations_in s.scope)) place) _ next b.2 in
      let f = given_bind (within (each_limit (b.0 ∷ [])) place) _ next d.2 in
      let n = names.scripts.statements es s.scope k.scope c read b.0 b.1 in
      subst (IsNamedSession es) (given_is _ _ f.2) (record { scope = k.scope; listed = k.listed; proof = ((path, n), (alone_named es b.0 n.sequent, tt)) })

  -- the procedure whose loops are to be shown to end
  loops_named : (f : Found) → procedure_of s.scope (named f.0) ≡ Some f.1 → (is_path (path_of f.0) ≡ true) × AllByRecursion (IsNamedSequent es) (goals_of f.1.body.list)
  loops_named f there =
      let x = names_found es s.scope k.scope f.0.module f.0.name f.1 there in
      let all = procedures_named es s.scope k.scope in
      let p = all.declared (named f.0) (found_written es s.scope k.scope f.0.module f.0.name f.1 there) f.1 there in
      let w = typed_there s.scope g.typed (over_none (zero_of ty.Bool)) tt [] (named f.0) f.1 there in
      let typed = w.typed in
      let body = typed.body in
      (path_behind f.0.module f.0.name x.0 (name_is_path f.0.name x.1), names.goals.loops es _ (locals_of f.1) f.1.body.list body.statements p.body)

  opens_loops_named : (t : Node) (place : Place) (next : Session) → opens_loops s t place ≡ given next → IsNamedSession es next
  opens_loops_named t place next e =
      let a = given_bind (outside s.proof place) _ next e in
      let b = given_bind (loops_opened s.scope t place) _ next a.2 in
      let c = given_bind (operand s.scope t) _ b.0 b.1 in
      let d = given_bind (all_allowed place (goals_of c.0.1.body.list)) _ b.0 c.2 in
      let u = given_bind (allowed place (goals_of c.0.1.body.list)) _ d.0 d.1 in
      let l = given_bind (within (each_limit (goals_of c.0.1.body.list)) place) _ u.0 u.1 in
      let m = given_bind (within (all_limit u.0) place) _ d.0 u.2 in
      let same : goals_of c.0.1.body.list ≡ d.0 = given_is _ u.0 l.2 ∙ given_is u.0 d.0 m.2 in
      let n = loops_named c.0 (operand_there s.scope (head_of t) (text_of t) (parts_of t) (place_of t) c.0 c.1) in
      subst (IsNamedSession es) (ap (λ p. let x : Session = record s { proof = Some p } in x) (given_is _ b.0 d.2) ∙ given_is _ next b.2)
      (record { scope = k.scope; listed = k.listed; proof = (n.0, subst (AllByRecursion (IsNamedSequent es)) same n.1) })

  -- nothing is listed
  none_listed : (c : Node) (next : Session) → [] ≡ enumerated (head_of c) (parts_of c) → IsNamedSession es next → IsNamedSession (with_listed c) next
  none_listed c next e n = subst (λ xs. IsNamedSession (es ++ xs) next) e (none_more es next n)

  head_named : (c : Node) → IsReadTree c → (h : Head) (parts : List Node) (next : Session) → head_of c ≡ h → parts_of c ≡ parts → enumerated h parts ≡ enumerated (head_of c) (parts_of c) →
      ComesToOf s c h parts (given next) → IsNamedSession (with_listed c) next
  head_named c read head.Require (import ∷ files ∷ []) next is are same e = none_listed c next same (requires_named es s (parts_of files) (place_of c) next k (sym e))
  head_named c read head.TypeDeclaration parts next is are same e = brings_named c read (place_of c) next (sym e)
  head_named c read head.OperatorDeclaration parts next is are same e = brings_named c read (place_of c) next (sym e)
  head_named c read head.ModuleType parts next is are same e = brings_named c read (place_of c) next (sym e)
  head_named c read head.Axiom parts next is are same e = absurd (assumes_nothing s (place_of c) next (sym e))
  head_named c read head.Module parts next is are same e = none_listed c next same (declares_named c read (place_of c) next (sym e))
  head_named c read head.AscribedModule parts next is are same e = none_listed c next same (declares_named c read (place_of c) next (sym e))
  head_named c read head.Lemma (name ∷ parts) next is are same e =
      none_listed c next same
      (opens_named c read (text_of name) (name_is_path (text_of name) (names_of_read c read head.Lemma (name ∷ parts) is are)) (place_of c) next (sym e))
  head_named c read head.Termination (path ∷ []) next is are same e = none_listed c next same (opens_loops_named path (place_of c) next (sym e))
  head_named c read head.Proof parts next is are same e =
      let i = in_proof es s.scope s.proof (place_of c) _ next g.proof k.proof e in none_listed c next same (begun_named es s i.0 (place_of c) next k i.2 (sym i.3))
  head_named c read head.Qed parts next is are same e =
      let i = in_proof es s.scope s.proof (place_of c) _ next g.proof k.proof e in none_listed c next same (ended_named es i.0.goals s i.0 (place_of c) next k i.2.0 (sym i.3))
  head_named c read head.Tactic (step ∷ steps) next is are same e =
      let i = in_proof es s.scope s.proof (place_of step) _ next g.proof k.proof e in
      none_listed c next same (works_named o names es s g k.scope i.0.goals i.0 c read (place_of step) next k i.1 i.2.0 i.2.1 i.3)
  head_named c read _ _ next is are same e = nothing_given _ _ next (sym e)

  -- what a command comes to
  pub command_named : (c : Node) → IsReadTree c → (next : Session) → ComesTo s c (given next) → IsNamedSession (with_listed c) next
  command_named c read next e =
      head_named c read (head_of c) (parts_of c) next refl refl refl (subst (ComesToOf s c (head_of c) (parts_of c)) (given_placed e.0 (place_of c) next e.2) e.1)
