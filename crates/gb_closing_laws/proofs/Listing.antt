-- What is known of each read of a term, and of each in the list of them.
use Rattle.std.proofs.Common.{◌≡◌, ◌≢◌, ◌<◌, ◌≤◌, List, [], ◌∷◌, ◌++◌, length, ap, arith}
use Rattle.std.specs.List.{AllByRecursion, flat_map}
use Rattle.std.proofs.lemmas.List.{length-append}
use Rattle.gb_core.specs.declared.ty.Ty.{Ty}
use Rattle.gb_core.specs.declared.var.Var.TheVariants as var
use Rattle.gb_terms.specs.declared.op.Read.{Read}
use Rattle.gb_terms.specs.declared.op.Read.TheVariants.{Logical, Program}
use Rattle.gb_terms.specs.declared.term.Term.{Term, Term', Row_of-Term, end_of-Term, more_of-Term, end_of-Head, more_of-Head}
use Rattle.gb_terms.specs.declared.term.Head.{Head}
use Rattle.gb_terms.specs.declared.term.Head.TheVariants as head
use Rattle.gb_meaning.specs.Names.{Name}
use Rattle.gb_closing_laws.specs.Related.{ReadIs}
use Rattle.gb_closing_laws.specs.Model.{HeadReads, Reads, AllRead, OfClaim}
use Rattle.gb_closing_laws.proofs.Stated.{ReadTys, read_here, reads_in, all_reads_in, claim_reads, longer, own_name}
use mathlib.Core.Former.{Count}

both : {X : Type 0} (P : X → Type 0) (xs ys : List X) → AllByRecursion P xs → AllByRecursion P ys → AllByRecursion P (xs ++ ys)
both P [] ys a b = b
both P (x ∷ xs) ys a b = (a.0, both P xs ys a.1 b)

pub each : {X : Type 0} (P : X → Type 0) (xs ys : List X) → AllByRecursion P (xs ++ ys) → AllByRecursion P xs × AllByRecursion P ys
each P [] ys a = (tt, a)
each P (x ∷ xs) ys a = let r = each P xs ys a.1 in ((a.0, r.0), r.1)

module _ (Q : Read → Ty → Type 0) where
  abbrev pub IsListed : Read × Ty → Type 0
  IsListed q = ReadIs Q q.0 q.1

  here_listed : (h : Head) (t : Ty) → HeadReads Q h t → AllByRecursion IsListed (read_here h t)
  here_listed (head.Read r) t w = (w, tt)
  here_listed _ t w = tt

  here_read : (h : Head) (t : Ty) → AllByRecursion IsListed (read_here h t) → HeadReads Q h t
  here_read (head.Read r) t w = w.0
  here_read _ t w = tt

  mutual
    listed : (t : Term) → Reads Q t → AllByRecursion IsListed (reads_in t)
    listed (Term' p (more_of-Head h end_of-Head) n ts t) w = both IsListed (read_here h t) (all_reads_in ts) (here_listed h t w.0) (all_listed ts w.1)

    all_listed : {n : Count} (ts : Row_of-Term n) → AllRead Q ts → AllByRecursion IsListed (all_reads_in ts)
    all_listed end_of-Term w = tt
    all_listed (more_of-Term t ts) w = both IsListed (reads_in t) (all_reads_in ts) (listed t w.0) (all_listed ts w.1)

  mutual
    read_all : (t : Term) → AllByRecursion IsListed (reads_in t) → Reads Q t
    read_all (Term' p (more_of-Head h end_of-Head) n ts t) w = let r = each IsListed (read_here h t) (all_reads_in ts) w in (here_read h t r.0, all_read_all ts r.1)

    all_read_all : {n : Count} (ts : Row_of-Term n) → AllByRecursion IsListed (all_reads_in ts) → AllRead Q ts
    all_read_all end_of-Term w = tt
    all_read_all (more_of-Term t ts) w = let r = each IsListed (reads_in t) (all_reads_in ts) w in (read_all t r.0, all_read_all ts r.1)

  hyps_listed : (hs : List Term) → AllByRecursion (Reads Q) hs → AllByRecursion IsListed (flat_map reads_in hs)
  hyps_listed [] w = tt
  hyps_listed (h ∷ hs) w = both IsListed (reads_in h) (flat_map reads_in hs) (listed h w.0) (hyps_listed hs w.1)

  hyps_read : (hs : List Term) → AllByRecursion IsListed (flat_map reads_in hs) → AllByRecursion (Reads Q) hs
  hyps_read [] w = tt
  hyps_read (h ∷ hs) w = let r = each IsListed (reads_in h) (flat_map reads_in hs) w in (read_all h r.0, hyps_read hs r.1)

  pub claim_listed : (hs : List Term) (t : Term) → OfClaim (Reads Q) hs t → AllByRecursion IsListed (claim_reads hs t)
  claim_listed hs t w = both IsListed (flat_map reads_in hs) (reads_in t) (hyps_listed hs w.0) (listed t w.1)

  pub claim_read : (hs : List Term) (t : Term) → AllByRecursion IsListed (claim_reads hs t) → OfClaim (Reads Q) hs t
  claim_read hs t w = let r = each IsListed (flat_map reads_in hs) (reads_in t) w in (hyps_read hs r.0, read_all t r.1)

-- The name that is longer than those of the modules whose globals are read is none of them.

-- shorter than a name
abbrev pub IsShorter : Name → Read → Type 0
IsShorter n (Program (var.Global m x) r) = length m < length n
IsShorter n r = Unit {0}

still_shorter : (n k : Name) → length n ≤ length k → (r : Read) → IsShorter n r → IsShorter k r
still_shorter n k l (Program (var.Global m x) r) w = omega (arith, l, w)
still_shorter n k l (Program (var.Local x) r) w = tt
still_shorter n k l (Program (var.Glob a) r) w = tt
still_shorter n k l (Logical i) w = tt

all_shorter : (n k : Name) → length n ≤ length k → (qs : ReadTys) → AllByRecursion (λ q. IsShorter n q.0) qs → AllByRecursion (λ q. IsShorter k q.0) qs
all_shorter n k l [] w = tt
all_shorter n k l (q ∷ qs) w = (still_shorter n k l q.0 w.0, all_shorter n k l qs w.1)

longer_than : (r : Read) (n : Name) → IsShorter (longer r (0 ∷ n)) r × (length n ≤ length (longer r (0 ∷ n)))
longer_than (Program (var.Global m x) r) n = (omega (arith, length-append m (0 ∷ n)), omega (arith, length-append m (0 ∷ n)))
longer_than (Program (var.Local x) r) n = (tt, omega arith)
longer_than (Program (var.Glob a) r) n = (tt, omega arith)
longer_than (Logical i) n = (tt, omega arith)

pub own_longer : (qs : ReadTys) → AllByRecursion (λ q. IsShorter (own_name qs) q.0) qs
own_longer [] = tt
own_longer (q ∷ qs) = let l = longer_than q.0 (own_name qs) in (l.0, all_shorter (own_name qs) (longer q.0 (0 ∷ own_name qs)) l.1 qs (own_longer qs))

pub shorter_other : (n m x : Name) (r : _) → IsShorter n (Program (var.Global m x) r) → m ≢ n
shorter_other n m x r w e = let k : length m ≡ length n = ap length e in absurd (omega (arith, w, k))
