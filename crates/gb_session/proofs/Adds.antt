-- A command leaves what was declared and proved before it in front of what it adds.
use Rattle.std.proofs.Common.{◌≡◌, ℕ, Bool, true, false, is_some, if◌then◌else◌, List, [], ◌∷◌, ◌++◌, length, take, Option, Some, None, refl, ap, sym, subst}
use Rattle.gb_core.specs.declared.place.Place.{Place}
use Rattle.gb_core.specs.declared.refusal.Why.TheVariants.{NoGoal}
use Rattle.gb_goal.specs.Scope.{declarations_in, entry_of, path_of}
use Rattle.gb_goal.specs.declared.scope.Entry.TheVariants as entry
use Rattle.gb_goal.specs.declared.sequent.Sequent.{Sequent}
use Rattle.gb_goal.specs.Answers.{Answer}
use Rattle.gb_goal.specs.Answers.Answer.{given}
use Rattle.gb_script.specs.declared.head.Head.{Head}
use Rattle.gb_script.specs.declared.head.Head.TheVariants as head
use Rattle.gb_script.specs.declared.tree.Node.{Node}
use Rattle.gb_script.specs.Tree.{head_of, text_of, parts_of, place_of}
use Rattle.gb_elab_prog.specs.Entries.{entries_given}
use Rattle.gb_elab_mod.specs.Lemmas.{statement_given}
use Rattle.gb_elab_prog.specs.Modules.{module_given}
use Rattle.gb_theory.specs.Limits.{declaration_limit, each_limit, all_limit}
use Rattle.gb_state.specs.declared.state.Claim.{Claim}
use Rattle.gb_state.specs.declared.state.Claim.TheVariants as claim
use Rattle.gb_theory.specs.Built.{Session, OpenProof, seen_in, with_goals, with_proved}
use Rattle.gb_theory.specs.Combinators.{works}
use Rattle.gb_theory.specs.Commands.{within, outside, brought, requires_files, brings, declares, loops_opened, opens, opens_loops, begun, ended, continued, WorksOn, InProof, ComesToOf, ComesTo}
use Rattle.gb_session.proofs.Given.{nothing_given, given_is, given_bind, given_placed, if_given}

-- one session has what is declared and proved in another in front
pub record IsInFront (s t : Session) : Type 0 where
  pub scope : take (length s.scope) t.scope ≡ s.scope
  pub lemmas : take (length s.lemmas) t.lemmas ≡ s.lemmas

pub front : {A : Type 0} (xs ys : List A) → take (length xs) (xs ++ ys) ≡ xs
front [] ys = refl
front (x ∷ xs) ys = ap (λ zs. x ∷ zs) (front xs ys)

pub whole : {A : Type 0} (xs : List A) → take (length xs) xs ≡ xs
whole [] = refl
whole (x ∷ xs) = ap (λ zs. x ∷ zs) (whole xs)

in_proof : (o : Option OpenProof) (place : Place) (P : OpenProof → Answer Session → Type 0) (t : Session) → InProof o place P (given t) → (p : OpenProof) × P p (given t)
in_proof None place P t i = nothing_given _ _ t (sym i)
in_proof (Some p) place P t i = (p, i)

required : (s : Session) (names : List Node) (place : Place) (t : Session) → requires_files s names place ≡ given t → IsInFront s t
required s names place t e =
    let a = given_bind (outside s.proof place) _ t e in
    let b = given_bind (brought names) _ t a.2 in
    subst (IsInFront s) (given_is s t b.2) (record { scope = whole s.scope; lemmas = whole s.lemmas })

brought_in : (s : Session) (c : Node) (place : Place) (t : Session) → brings s c place ≡ given t → IsInFront s t
brought_in s c place t e =
    let a = given_bind (outside s.proof place) _ t e in
    let b = given_bind (entries_given s.scope c) _ t a.2 in
    let d = given_bind (within (declaration_limit (declarations_in s.scope)) place) _ t b.2 in
    subst (IsInFront s) (given_is _ t d.2) (record { scope = front s.scope b.0; lemmas = whole s.lemmas })

declared : (s : Session) (c : Node) (place : Place) (t : Session) → declares s c place ≡ given t → IsInFront s t
declared s c place t e =
    let a = given_bind (outside s.proof place) _ t e in
    let b = given_bind (module_given s.scope c) _ t a.2 in
    let d = given_bind (within (declaration_limit (declarations_in s.scope)) place) _ t b.2 in
    subst (IsInFront s) (given_is _ t d.2) (record { scope = front s.scope _; lemmas = whole s.lemmas })

opened : (s : Session) (c : Node) (name : List ℕ) (place : Place) (t : Session) → opens s c name place ≡ given t → IsInFront s t
opened s c name place t e =
    let a = given_bind (outside s.proof place) _ t e in
    let b = given_bind (statement_given s.scope c) _ t a.2 in
    let d = given_bind (within (declaration_limit (declarations_in s.scope)) place) _ t b.2 in
    let f = given_bind (within (each_limit (b.0 ∷ [])) place) _ t d.2 in
    subst (IsInFront s) (given_is _ t f.2) (record { scope = whole s.scope; lemmas = whole s.lemmas })

began : (s : Session) (p : OpenProof) (place : Place) (t : Session) → begun s p place ≡ given t → IsInFront s t
began s p place t e =
    subst (IsInFront s) (if_given p.fresh (with_goals s p p.goals) NoGoal place t e) (record { scope = whole s.scope; lemmas = whole s.lemmas })

opened_loops : (s : Session) (c : Node) (place : Place) (t : Session) → opens_loops s c place ≡ given t → IsInFront s t
opened_loops s c place t e =
    let a = given_bind (outside s.proof place) _ t e in
    let b = given_bind (loops_opened s.scope c place) _ t a.2 in
    subst (IsInFront s) (given_is _ t b.2) (record { scope = whole s.scope; lemmas = whole s.lemmas })

proved : (s : Session) (c : Claim) → IsInFront s (with_proved s c)
proved s (claim.Lemma name q bs) = record { scope = front s.scope _; lemmas = front s.lemmas _ }
proved s (claim.Loops f) = record { scope = step (is_some (entry_of s.scope (path_of f))); lemmas = whole s.lemmas }
  where
    step : (b : Bool) → take (length s.scope) (if b then s.scope else s.scope ++ (path_of f, entry.Terminating f) ∷ []) ≡ s.scope
    step true = whole s.scope
    step false = front s.scope _

closed : (qs : List Sequent) (s : Session) (p : OpenProof) (place : Place) (t : Session) → ended qs s p place ≡ given t → IsInFront s t
closed [] s p place t e = subst (IsInFront s) (given_is _ t e) (proved s p.claim)
closed (q ∷ qs) s p place t e = nothing_given _ _ t e

worked : (qs : List Sequent) (s : Session) (p : OpenProof) (c : Node) (place : Place) (t : Session) → WorksOn qs s p c place (given t) → IsInFront s t
worked [] s p c place t w = nothing_given _ _ t (sym w)
worked (q ∷ rest) s p c place t w =
    let a = given_bind (works (seen_in s.scope p.claim) w.0 c (q ∷ [])) (continued s p rest place) t (sym w.2) in
    let b = given_bind (within (all_limit (a.0 ++ rest)) place) _ t a.2 in
    subst (IsInFront s) (given_is _ t b.2) (record { scope = whole s.scope; lemmas = whole s.lemmas })

by_head : (s : Session) (c : Node) (h : Head) (parts : List Node) (t : Session) → ComesToOf s c h parts (given t) → IsInFront s t
by_head s c head.Require (import ∷ names ∷ []) t e = required s (parts_of names) (place_of c) t (sym e)
by_head s c head.TypeDeclaration parts t e = brought_in s c (place_of c) t (sym e)
by_head s c head.OperatorDeclaration parts t e = brought_in s c (place_of c) t (sym e)
by_head s c head.ModuleType parts t e = brought_in s c (place_of c) t (sym e)
by_head s c head.Axiom parts t e = let a = given_bind (outside s.proof (place_of c)) _ t (sym e) in nothing_given _ _ t a.2
by_head s c head.Module parts t e = declared s c (place_of c) t (sym e)
by_head s c head.AscribedModule parts t e = declared s c (place_of c) t (sym e)
by_head s c head.Lemma (name ∷ parts) t e = opened s c (text_of name) (place_of c) t (sym e)
by_head s c head.Termination (path ∷ []) t e = opened_loops s path (place_of c) t (sym e)
by_head s c head.Proof parts t e = let i = in_proof s.proof (place_of c) _ t e in began s i.0 (place_of c) t (sym i.1)
by_head s c head.Qed parts t e = let i = in_proof s.proof (place_of c) _ t e in closed i.0.goals s i.0 (place_of c) t (sym i.1)
by_head s c head.Tactic (step ∷ more) t e =
    let i = in_proof s.proof (place_of step) _ t e in worked i.0.goals s i.0 c (place_of step) t i.1
by_head s c _ _ t e = nothing_given _ _ t (sym e)

-- a command adds behind what was there
pub adds : (s : Session) (c : Node) (t : Session) → ComesTo s c (given t) → IsInFront s t
adds s c t e = by_head s c (head_of c) (parts_of c) t (subst (ComesToOf s c (head_of c) (parts_of c)) (given_placed e.0 (place_of c) t e.2) e.1)
