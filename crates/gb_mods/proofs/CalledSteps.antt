-- Which procedures are called, step by step.
use Rattle.std.proofs.Common.{◌≡◌, ◌≢◌, if◌then◌else◌, ℕ, zero, suc, ◌-◌, ◌<◌, ◌≤◌, ◌==◌, Bool, true, false, List, [], ◌∷◌, ◌++◌, length-append, take, drop, length, Some, None, refl, ap, sym, ◌∙◌, arith}
use Rattle.std.proofs.Math.Seq.{take-length}
use Rattle.std.proofs.lemmas.Bool.Decides.{Decides-eqb}
use Rattle.std.proofs.lemmas.List.{length-drop}
use Rattle.gb_terms.specs.declared.module.ProcRef.{ProcRef}
use Rattle.gb_terms.specs.declared.term.Cmd.{Cmd, items-the_row-Instr, items_hidden-the_row-Instr-1}
use Rattle.gb_terms.specs.declared.term.Term.{Term}
use Rattle.gb_terms.specs.declared.term.Head.TheBlock as B
use Rattle.gb_terms.specs.declared.term.Head.TheVariants.{If, While}
use Rattle.gb_terms.specs.declared.term.Instr.{Instr, Row_of-Instr, end_of-Instr, more_of-Instr}
use Rattle.gb_mods.specs.Called.{added, calls, is_among, reached, row_calls, statement_calls}
use mathlib.Core.Former.{Count}

calls_row : {n : Count} (r : Row_of-Instr n) → row_calls r ≡ calls (items-the_row-Instr _ r)
calls_row end_of-Instr = refl
calls_row (more_of-Instr i r) = ap (λ l. statement_calls i ++ l) (calls_row r)

pub calls_list : (is : List Instr) → row_calls (B.hidden-the_row-Instr-1 is) ≡ calls is
calls_list is = calls_row (B.hidden-the_row-Instr-1 is) ∙ ap calls (items_hidden-the_row-Instr-1 is)

pub calls_if : (e : Term) (a b : Cmd) → statement_calls (If e a b) ≡ calls a.list ++ calls b.list
calls_if e a b = λ i. calls_list a.list i ++ calls_list b.list i

pub calls_while : (e v : Term) (a : Cmd) → statement_calls (While e v a) ≡ calls a.list
calls_while e v a = calls_list a.list

-- what is left of a list
pub rest_of : (ps : List ProcRef) (k : ℕ) → take (length ps - k) (drop k ps) ≡ drop k ps
rest_of ps k = ap (λ n. take n (drop k ps)) (sym (length-drop k ps)) ∙ take-length (drop k ps)

-- there are no fewer
pub added_longer : (ps qs : List ProcRef) → length ps ≤ length (added ps qs)
added_longer ps [] = omega arith
added_longer ps (q ∷ qs) = step (is_among ps q) (added_longer ps qs) (added_longer (ps ++ q ∷ []) qs)
  where
    step : (b : Bool) → length ps ≤ length (added ps qs) → length (ps ++ q ∷ []) ≤ length (added (ps ++ q ∷ []) qs) → length ps ≤ length (added (if b then ps else ps ++ q ∷ []) qs)
    step true h k = h
    step false h k = let l = length-append ps (q ∷ []) in omega (arith, k, l)

-- what procedures call themselves
abbrev pub Follow : Type 0
Follow = List ProcRef → List ProcRef

-- all calls are followed
pub reached_end : (n : ℕ) (f : Follow) (k : ℕ) (ps : List ProcRef) → 0 < n → k ≡ length ps → reached n f k ps ≡ Some ps
unfolding reached
reached_end zero f k ps h e = absurd (omega (arith, h))
reached_end (suc n) f k ps h e = λ i. if (Decides-eqb k (length ps)).1 e i then Some ps else reached n f (length ps) (added ps (f (drop k ps)))

-- there are more calls
pub reached_over : (n : ℕ) (f : Follow) (k : ℕ) (ps : List ProcRef) → n ≡ 0 → reached n f k ps ≡ None
unfolding reached
reached_over zero f k ps e = refl
reached_over (suc n) f k ps e = absurd (omega (arith, e))

-- one level further
pub reached_next : (n : ℕ) (f : Follow) (k : ℕ) (ps : List ProcRef) → 0 < n → k ≢ length ps →
    reached n f k ps ≡ reached (n - 1) f (length ps) (added ps (f (drop k ps)))
unfolding reached
reached_next zero f k ps h e = absurd (omega (arith, h))
reached_next (suc n) f k ps h e =
    let m : n ≡ suc n - 1 = omega arith in
    let g : (k == length ps) ≡ false = not_same (k == length ps) refl in
    (λ i. if g i then Some ps else reached n f (length ps) (added ps (f (drop k ps)))) ∙ ap (λ z. reached z f (length ps) (added ps (f (drop k ps)))) m
  where
    not_same : (b : Bool) → (k == length ps) ≡ b → b ≡ false
    not_same true g = absurd (e ((Decides-eqb k (length ps)).0 g))
    not_same false g = refl
