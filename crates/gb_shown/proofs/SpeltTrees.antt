-- Forms in which names are names: nodes, and forms under one binder more.
use Rattle.std.proofs.Common.{◌≡◌, ℕ, List, [], ◌∷◌, map, ap, sym, subst}
use Rattle.std.specs.List.{AllByRecursion}
use Rattle.gb_core.specs.declared.ty.Ty.{Ty}
use Rattle.gb_terms.specs.declared.op.Read.TheVariants.{Logical, Program}
use Rattle.gb_terms.specs.declared.module.ProcRef.{ProcRef}
use Rattle.gb_terms.specs.declared.term.Term.{Term, Term', Row_of-Term, end_of-Term, more_of-Term, end_of-Head, more_of-Head, out-Term}
use Rattle.gb_terms.specs.declared.term.Subject.{Subject}
use Rattle.gb_terms.specs.declared.term.Instr.{Instr}
use Rattle.gb_terms.specs.declared.term.Cmd.{Cmd}
use Rattle.gb_terms.specs.declared.term.Head.{Head}
use Rattle.gb_terms.specs.declared.term.Head.TheVariants as head
use Rattle.gb_terms.specs.declared.term.Head.TheVariants.{Proc, Body'}
use Rattle.gb_terms.specs.declared.term.Head.TheOpen as layer
use Rattle.gb_terms.specs.declared.term.Head.TheFolds.{fold-roll-Subject}
use Rattle.gb_terms.specs.Make.{node}
use Rattle.gb_walk.specs.Layers.{where_last, seen_by}
use Rattle.gb_walk.specs.Raise.{last_from, at_head, at_instr, at_subject, at_cmd, at_term, term_raised, subject_raised}
use Rattle.gb_meaning.specs.Trees.{row}
use Rattle.gb_meaning.specs.Commands.{terms_in}
use Rattle.gb_meaning.proofs.Nodes.{term_is_node}
use Rattle.gb_laws.proofs.Trees.{raised_at, term_raised_is, out_is}
use Rattle.gb_print_names.specs.declared.bound_names.Enumeration.{Enumeration}
use Rattle.gb_shown.specs.Named.{IsNamedResult, IsNamedSubject, IsNamedHead, IsNamed, AreNamed}
use mathlib.Core.Former.{Count}

procedure_raised : (p : ProcRef) (k : ℕ) → subject_raised (Proc p) k ≡ Proc p
unfolding Rattle.gb_terms.specs.declared.term.Head.TheViews.roll-Subject denote.Hole.Carrier.roll
procedure_raised p k =
    ap (λ f. f k) (fold-roll-Subject (ℕ → Head) (ℕ → Instr) (ℕ → Subject) (ℕ → Cmd) (ℕ → Term) at_head at_instr at_subject at_cmd at_term (layer.Proc p))

subject_named : (c : Subject) (k : ℕ) → IsNamedSubject c → IsNamedSubject (subject_raised c k)
subject_named (Proc p) k h = subst IsNamedSubject (sym (procedure_raised p k)) h
subject_named (Body' n is) k h = absurd h

module _ (es : List Enumeration) where
  abbrev pub AllNamed : List Term → Type 0
  AllNamed ts = AllByRecursion (IsNamed es) ts

  pub row_named : (ts : List Term) → AllNamed ts → AreNamed es (row ts)
  row_named [] h = tt
  row_named (t ∷ ts) h = (h.0, row_named ts h.1)

  pub node_named : (h : Head) (ts : List Term) (ty : Ty) → IsNamedHead es h ty → IsNamedResult ty → AllNamed ts → IsNamed es (node h ts ty)
  node_named h ts ty x y z = subst (IsNamed es) (term_is_node h ts ty) (x, y, row_named ts z)

  pub terms_named : {n : Count} (ts : Row_of-Term n) → AreNamed es ts → AllNamed (terms_in ts)
  terms_named end_of-Term h = tt
  terms_named (more_of-Term t ts) h = (h.0, terms_named ts h.1)

  -- the parts of a form
  pub parts_named : (t : Term) → IsNamed es t → IsNamedHead es (out-Term t).head (out-Term t).ty × IsNamedResult (out-Term t).ty × AllNamed (out-Term t).args
  parts_named (Term' p (more_of-Head h end_of-Head) n ts ty) k =
      subst (λ z. IsNamedHead es z.head z.ty × IsNamedResult z.ty × AllNamed z.args) (sym (out_is h n ts ty)) (k.0, k.1, terms_named ts k.2)

  head_raised_named : (h : Head) (ty : Ty) (k : ℕ) → IsNamedHead es h ty → IsNamedHead es (raised_at h k) ty
  head_raised_named (head.Hoare c) ty k x = subject_named c k x
  head_raised_named (head.Phoare c r) ty k x = subject_named c k x
  head_raised_named (head.Equiv c d) ty k x = (subject_named c k x.0, subject_named d k x.1)
  head_raised_named (head.Read (Logical i)) ty k x = tt
  head_raised_named (head.Read (Program v r)) ty k x = x
  head_raised_named _ ty k x = x

  mutual
    pub raised_named : (t : Term) (k : ℕ) → IsNamed es t → IsNamed es (term_raised t k)
    raised_named (Term' p (more_of-Head h end_of-Head) n ts ty) k x =
        subst (IsNamed es) (sym (term_raised_is h n ts ty k)) (node_named (raised_at h k) _ ty (head_raised_named h ty k x.0) x.1 (all_raised_named ts k (last_from (raised_at h k) k) x.2))

    all_raised_named : {n : Count} (ts : Row_of-Term n) (k l : ℕ) → AreNamed es ts → AllNamed (seen_by k l (map term_raised (terms_in ts)))
    all_raised_named end_of-Term k l x = tt
    all_raised_named (more_of-Term t ts) k l x = (raised_named t (where_last (map term_raised (terms_in ts)) k l) x.0, all_raised_named ts k l x.1)
