-- Inlined statements, step by step.
use Rattle.std.proofs.Common.{◌≡◌, ℕ, zero, suc, ◌-◌, ◌+◌, ◌<◌, ◌≤◌, ◌^◌, List, [], ◌∷◌, ◌++◌, append_assoc, take, drop, length, get_or, add-one, Option, Some, None, refl, ap, sym, ◌∙◌, arith}
use Rattle.std.proofs.Math.Seq.{take-suc}
use Rattle.std.specs.Option.{option_map}
use Rattle.gb_terms.specs.declared.module.ProcRef.{ProcRef}
use Rattle.gb_core.specs.declared.var.Var.{Var}
use Rattle.gb_terms.specs.declared.term.Cmd.{Cmd, items-the_row-Instr, items_hidden-the_row-Instr-1}
use Rattle.gb_terms.specs.declared.term.Head.TheBlock as B
use Rattle.gb_terms.specs.declared.term.Head.TheVariants.{Call, If, While}
use Rattle.gb_terms.specs.declared.term.Instr.{Instr, Row_of-Instr, end_of-Instr, more_of-Instr}
use Rattle.gb_terms.specs.declared.term.Term.{Term}
use Rattle.gb_inline.specs.Inlined.{Expansion, each_inlined, going_on, next_inlined, repeated, row_inlined, side_inlined, statement_inlined}
use Rattle.gb_inline.proofs.RenamedSteps.{terms_list}
use mathlib.Core.Former.{Count}

-- behind other statements
abbrev pub behind : List Instr → Option (List Instr) → Option (List Instr)
behind is o = option_map (λ js. is ++ js) o

module _ (x : Expansion) where
  inlined_row : {n : Count} (r : Row_of-Instr n) → row_inlined x r ≡ each_inlined x (items-the_row-Instr _ r)
  inlined_row end_of-Instr = refl
  inlined_row (more_of-Instr i r) = ap (next_inlined i (items-the_row-Instr _ r) (statement_inlined x i)) (inlined_row r)

  pub inlined_list : (is : List Instr) → row_inlined x (B.hidden-the_row-Instr-1 is) ≡ each_inlined x is
  inlined_list is = inlined_row (B.hidden-the_row-Instr-1 is) ∙ ap (each_inlined x) (items_hidden-the_row-Instr-1 is)

  pub inlined_call : (xs : List Var) (p : ProcRef) (es : List Term) → statement_inlined x (Call xs p es) ≡ x xs p es
  inlined_call xs p es = ap (λ z. x xs p z) (terms_list es)

  pub inlined_if : (e : Term) (a b : Cmd) → statement_inlined x (If e a b) ≡ side_inlined e a.list b.list (each_inlined x a.list) (each_inlined x b.list)
  inlined_if e a b = λ i. side_inlined e (items_hidden-the_row-Instr-1 a.list i) (items_hidden-the_row-Instr-1 b.list i) (inlined_list a.list i) (inlined_list b.list i)

  pub inlined_while : (e v : Term) (a : Cmd) → statement_inlined x (While e v a) ≡ option_map (λ js. While e v (record { list = js }) ∷ []) (each_inlined x a.list)
  inlined_while e v a = ap (λ o. option_map (λ js. While e v (record { list = js }) ∷ []) o) (inlined_list a.list)

  -- a branch or a loop, of whose bodies something becomes, or nothing
  pub inlined_true : (i : Instr) (e : Term) (a b : Cmd) (js : List Instr) → i ≡ If e a b → Some js ≡ each_inlined x a.list → Some (If e (record { list = js }) b ∷ []) ≡ statement_inlined x i
  inlined_true i e a b js p q = sym (ap (statement_inlined x) p ∙ inlined_if e a b ∙ ap (λ o. side_inlined e a.list b.list o (each_inlined x b.list)) (sym q))

  pub inlined_false : (i : Instr) (e : Term) (a b : Cmd) (js : List Instr) → i ≡ If e a b → None ≡ each_inlined x a.list → Some js ≡ each_inlined x b.list →
      Some (If e a (record { list = js }) ∷ []) ≡ statement_inlined x i
  inlined_false i e a b js p q r = sym (ap (statement_inlined x) p ∙ inlined_if e a b ∙ (λ i. side_inlined e a.list b.list (sym q i) (sym r i)))

  pub inlined_neither : (i : Instr) (e : Term) (a b : Cmd) → i ≡ If e a b → None ≡ each_inlined x a.list → None ≡ each_inlined x b.list → None ≡ statement_inlined x i
  inlined_neither i e a b p q r = sym (ap (statement_inlined x) p ∙ inlined_if e a b ∙ (λ i. side_inlined e a.list b.list (sym q i) (sym r i)))

  pub inlined_turn : (i : Instr) (e v : Term) (a : Cmd) (js : List Instr) → i ≡ While e v a → Some js ≡ each_inlined x a.list → Some (While e v (record { list = js }) ∷ []) ≡ statement_inlined x i
  inlined_turn i e v a js p q = sym (ap (statement_inlined x) p ∙ inlined_while e v a ∙ ap (λ o. option_map (λ js. While e v (record { list = js }) ∷ []) o) (sym q))

  pub inlined_no_turn : (i : Instr) (e v : Term) (a : Cmd) → i ≡ While e v a → None ≡ each_inlined x a.list → None ≡ statement_inlined x i
  inlined_no_turn i e v a p q = sym (ap (statement_inlined x) p ∙ inlined_while e v a ∙ ap (λ o. option_map (λ js. While e v (record { list = js }) ∷ []) o) (sym q))

  split : (is : List Instr) (k : ℕ) (i : Instr) → k < length is → i ≡ get_or is k i → drop k is ≡ i ∷ drop (k + 1) is
  split [] k i h e = absurd (omega (arith, h))
  split (j ∷ is) zero i h e = ap (λ z. z ∷ is) (sym e)
  split (j ∷ is) (suc k) i h e =
      split is k i (omega (arith, h)) e ∙ ap (λ n. i ∷ drop n (j ∷ is)) (let m : suc (k + 1) ≡ suc k + 1 = omega arith in m)

  -- the statement at a place becomes others
  pub inlined_here : (is : List Instr) (k : ℕ) (i : Instr) (js : List Instr) → k < length is → i ≡ get_or is k i → Some js ≡ statement_inlined x i →
      behind (take k is) (each_inlined x (drop k is)) ≡ Some (take k is ++ (js ++ drop (k + 1) is))
  inlined_here is k i js h e q =
      ap (λ z. behind (take k is) (each_inlined x z)) (split is k i h e) ∙ ap (λ o. behind (take k is) (next_inlined i (drop (k + 1) is) o (each_inlined x (drop (k + 1) is)))) (sym q)

  later : (is : List Instr) (i : Instr) (o : Option (List Instr)) → behind is (option_map (λ js. i ∷ js) o) ≡ behind (is ++ i ∷ []) o
  later is i None = refl
  later is i (Some js) = ap Some (sym (append_assoc is (i ∷ []) js))

  -- it stays
  pub inlined_later : (is : List Instr) (k : ℕ) (i : Instr) → k < length is → i ≡ get_or is k i → None ≡ statement_inlined x i →
      behind (take k is) (each_inlined x (drop k is)) ≡ behind (take (k + 1) is) (each_inlined x (drop (k + 1) is))
  inlined_later is k i h e q =
      ap (λ z. behind (take k is) (each_inlined x z)) (split is k i h e)
      ∙ ap (λ o. behind (take k is) (next_inlined i (drop (k + 1) is) o (each_inlined x (drop (k + 1) is)))) (sym q)
      ∙ later (take k is) i (each_inlined x (drop (k + 1) is))
      ∙ ap (λ z. behind z (each_inlined x (drop (k + 1) is))) (sym (ap (λ n. take n is) (add-one k) ∙ take-suc is k i h ∙ ap (λ z. take k is ++ (z ∷ [])) (sym e)))

-- again and again

next_repeated : (n : ℕ) (f : List Instr → Option (List Instr)) (is js : List Instr) → 0 < n → Some js ≡ f is → repeated n f is ≡ repeated (n - 1) f js
unfolding repeated
next_repeated zero f is js h e = absurd (omega (arith, h))
next_repeated (suc n) f is js h e = ap (going_on (repeated n f) is) (sym e) ∙ ap (λ z. repeated z f js) (let m : n ≡ suc n - 1 = omega arith in m)

none_repeated : (n : ℕ) (f : List Instr → Option (List Instr)) (is : List Instr) → n ≡ 0 → repeated n f is ≡ is
unfolding repeated
none_repeated zero f is e = refl
none_repeated (suc n) f is e = absurd (omega (arith, e))

pub repeated_next : (k : ℕ) (f : List Instr → Option (List Instr)) (is js : List Instr) → k < 2 ^ 32 → Some js ≡ f is → repeated (2 ^ 32 - k) f is ≡ repeated (2 ^ 32 - (k + 1)) f js
repeated_next k f is js h e = next_repeated (2 ^ 32 - k) f is js (omega (arith, h)) e ∙ ap (λ n. repeated n f js) (let m : (2 ^ 32 - k) - 1 ≡ 2 ^ 32 - (k + 1) = omega arith in m)

pub repeated_end : (n : ℕ) (f : List Instr → Option (List Instr)) (is : List Instr) → None ≡ f is → repeated n f is ≡ is
unfolding repeated
repeated_end zero f is e = refl
repeated_end (suc n) f is e = ap (going_on (repeated n f) is) (sym e)

pub repeated_over : (k : ℕ) (f : List Instr → Option (List Instr)) (is : List Instr) → 2 ^ 32 ≤ k → repeated (2 ^ 32 - k) f is ≡ is
repeated_over k f is h = none_repeated (2 ^ 32 - k) f is (omega (arith, h))
