-- What programs reach can be written: a procedure that a goal may speak of calls such procedures.
use Rattle.std.proofs.Common.{◌≡◌, ℕ, zero, suc, ◌^◌, ◌==◌, Bool, true, false, if◌then◌else◌, List, [], ◌∷◌, ◌++◌, drop, length, Some, refl, subst}
use Rattle.std.proofs.lemmas.Option.{same_Some, none-some}
use Rattle.std.specs.List.{AllByRecursion}
use Rattle.gb_terms.specs.declared.module.ProcRef.{ProcRef}
use Rattle.gb_terms.specs.declared.term.Head.TheVariants.{Assign, Sample, Call', If', While'}
use Rattle.gb_terms.specs.declared.term.Instr.{Instr, Row_of-Instr, end_of-Instr, more_of-Instr}
use Rattle.gb_goal.specs.Scope.{Declarations}
use Rattle.gb_mods.specs.Called.{added, all_reached, called, called_by, calls, is_among, reached, row_calls, statement_calls}
use Rattle.gb_mods.specs.Meant.{meant_by}
use Rattle.gb_mods.specs.declared.meant.Meant.{Meant}
use Rattle.gb_mods.specs.declared.meant.Meant.TheVariants.{Unknown, Declared, Any}
use Rattle.gb_prog.proofs.Meanings.{declared_there}
use Rattle.gb_print_names.specs.declared.bound_names.Enumeration.{Enumeration}
use Rattle.gb_print.specs.Written.{IsWrittenProcedure}
use Rattle.gb_shown.specs.Named.{IsNamedInstr, AreNamedInstrs}
use Rattle.gb_shown.specs.Rules.{AreNamedProcedures, IsNamedProcedure}
use Rattle.gb_shown.proofs.Sequents.{all_append}
use Rattle.gb_shown.proofs.SpeltStatements.{EachNamed}
use mathlib.Core.Former.{Count}

abbrev pub AreWritten : List ProcRef → Type 0
AreWritten ps = AllByRecursion (IsWrittenProcedure []) ps

both_written : (ps qs : List ProcRef) → AreWritten ps → AreWritten qs → AreWritten (ps ++ qs)
both_written ps qs h k = all_append (IsWrittenProcedure []) ps qs h k

added_written : (ps qs : List ProcRef) → AreWritten ps → AreWritten qs → AreWritten (added ps qs)
added_written ps [] h k = h
added_written ps (q ∷ qs) h k = added_written (if is_among ps q then ps else ps ++ q ∷ []) qs (step (is_among ps q)) k.1
  where
    step : (b : Bool) → AreWritten (if b then ps else ps ++ q ∷ [])
    step true = h
    step false = both_written ps (q ∷ []) h (k.0, tt)

drop_written : (n : ℕ) (ps : List ProcRef) → AreWritten ps → AreWritten (drop n ps)
drop_written zero ps h = h
drop_written (suc n) [] h = tt
drop_written (suc n) (p ∷ ps) h = drop_written n ps h.1

-- what is reached step by step can be written, where each step gives such procedures
module _ (f : List ProcRef → List ProcRef) (step : (ps : List ProcRef) → AreWritten ps → AreWritten (f ps)) where
  reached_written : (n k : ℕ) (ps : List ProcRef) → AreWritten ps → (qs : List ProcRef) → reached n f k ps ≡ Some qs → AreWritten qs
  unfolding reached
  reached_written zero k ps h qs e = absurd (none-some qs e)
  reached_written (suc n) k ps h qs e =
      by_end (k == length ps) (reached_written n (length ps) (added ps (f (drop k ps))) (added_written ps (f (drop k ps)) h (step (drop k ps) (drop_written k ps h))) qs) e
    where
      by_end : (b : Bool) → (reached n f (length ps) (added ps (f (drop k ps))) ≡ Some qs → AreWritten qs) →
          (if b then Some ps else reached n f (length ps) (added ps (f (drop k ps)))) ≡ Some qs → AreWritten qs
      by_end true later i = subst AreWritten (same_Some ps qs i) h
      by_end false later i = later i

module _ (es : List Enumeration) where
  mutual
    pub statement_written : (i : Instr) → IsNamedInstr es i → AreWritten (statement_calls i)
    statement_written (Call' xs p n ts) k = (k.1, tt)
    statement_written (If' e m a n b) k = both_written (row_calls a) (row_calls b) (row_written a k.1) (row_written b k.2)
    statement_written (While' e v n a) k = row_written a k.2
    statement_written (Assign xs e) k = tt
    statement_written (Sample x d) k = tt

    pub row_written : {n : Count} (is : Row_of-Instr n) → AreNamedInstrs es is → AreWritten (row_calls is)
    row_written end_of-Instr k = tt
    row_written (more_of-Instr i is) k = both_written (statement_calls i) (row_calls is) (statement_written i k.0) (row_written is k.1)

  pub list_written : (is : List Instr) → EachNamed es is → AreWritten (calls is)
  list_written [] k = tt
  list_written (i ∷ is) k = both_written (statement_calls i) (calls is) (statement_written i k.0) (list_written is k.1)

  module _ (ds : Declarations) (procedures : AreNamedProcedures es ds) where
    called_written : (ps : List ProcRef) → AreWritten ps → AreWritten (called ds ps)
    called_written [] h = tt
    called_written (p ∷ ps) h = both_written (called_by (meant_by ds p)) (called ds ps) (by (meant_by ds p) refl) (called_written ps h.1)
      where
        by : (m : Meant) → meant_by ds p ≡ m → AreWritten (called_by m)
        by Unknown e = tt
        by (Declared a) e = let n : IsNamedProcedure es a = procedures.declared p h.0 a (declared_there ds p a e) in list_written a.body.list n.body
        by (Any a qs) e = let z = procedures.asked p h.0 a qs e in z.1

    pub all_written : (ps : List ProcRef) → AreWritten ps → (qs : List ProcRef) → all_reached ds ps ≡ Some qs → AreWritten qs
    all_written ps h qs e = reached_written (called ds) called_written (2 ^ 32) 0 ps h qs e
