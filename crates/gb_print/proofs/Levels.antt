-- Forms from operands: what the parts of the grammar between them read.
use Rattle.std.specs.Prelude.{ℕ, ◌≡◌, ◌+◌, ◌≤◌, Bool, true, false, ◌&&◌, nat_le, nat_eq, List, [], ◌∷◌, ◌++◌, length}
use Rattle.std.specs.List.{list_all}
use Rattle.std.proofs.Common.{refl, ap, sym, ◌∙◌, subst, arith}
use Rattle.gb_goal.specs.Answers.{nowhere}
use Rattle.gb_script.specs.declared.table.Symbol.{Symbol}
use Rattle.gb_script.specs.declared.table.Symbol.TheVariants.{Token, Part}
use Rattle.gb_script.specs.Grammar.{Grammar, Production, IsProduction, Allowed, has}
use Rattle.gb_lex.specs.Byte.{is_word_byte}
use Rattle.gb_script.specs.declared.action.Rule.{Rule}
use Rattle.gb_script.specs.declared.head.Head.TheVariants as head
use Rattle.gb_script.specs.declared.text.Lexeme.{Lexeme}
use Rattle.gb_script.specs.declared.tree.Node.{Node}
use Rattle.gb_script.specs.declared.value.Value.{Value}
use Rattle.gb_script.specs.declared.value.Value.TheVariants.{Tree, Trees}
use Rattle.gb_script.specs.Tree.{node, attached}
use Rattle.gb_script.specs.Value.{trees_of}
use Rattle.gb_script.proofs.Stacks.{append_nil}
use Rattle.std.proofs.lemmas.Bool.{eqb-true}
use Rattle.gb_print.proofs.Cut.{Cut, cut_none, cut_more, cut_space}
use Rattle.gb_print.proofs.Fine.{is_fine}
use Rattle.gb_print.proofs.Reading.{is_fair, lexeme_kinds, first_name, ruled, Reads, done, token, part}
use Rattle.gb_print.proofs.Sound.{always_allowed}
use Rattle.gb_print.proofs.Lexed.{lexed, ahead}
use Rattle.gb_print.proofs.Tokens.{Next, both, begins_form, space}
use Rattle.gb_print.proofs.Chains.{joined_in, operands_in, Conforms}
use Rattle.gb_print.proofs.Levelled.{is_calm, calm_conforms}
use Rattle.gb_print.proofs.Counted.{fewer_behind, more_followed, as_many, one_item, one_listed}
use Rattle.gb_print.proofs.ChainRows.{condition_row, disjunction_row, conjunction_row, negation_row, not_row, no_tail, no_last_tail, no_disjuncts, no_conjuncts, no_comparison, and_row, or_row, arrow_row, conclusion_row, iff_row, question_row, sum_row}
use Rattle.gb_print.proofs.RunRows.{minus_row, end_row, begin_row, level_end_row, equals_row, differs_row, less_row, at_most_row}
use Rattle.gb_print.proofs.Attaching.{Plain, behind_plain, is_tight, inside_last}
use Rattle.gb_print.proofs.Productions as p

-- What the printed bytes of a thing become with others behind them.
abbrev pub Before : Type 0
Before = List ℕ → List ℕ

-- These bytes begin us the text of a form does.
pub record Starts (i : List ℕ) : Type 0 where
  pub byte : ℕ
  pub more : List ℕ
  pub is : i ≡ byte ∷ more
  pub begins : begins_form byte ≡ true

-- Bytes that may stand behind a word, or behind a bar.
pub record Fits (bar : Bool) (mid : List ℕ) : Type 0 where
  pub word : ahead is_word_byte mid ≡ false
  pub bars : bar ≡ true → ahead (λ b. nat_eq 124 b) mid ≡ false

-- No bracket stands here, which would hold the arguments of a module in front of it.
abbrev pub NoBracket : List ℕ → Type 0
NoBracket mid = Allowed p.module_tail_none (lexeme_kinds (lexed mid))

-- A production may stand before any token.
abbrev pub is_free : Production Rule → Bool
is_free r = nat_eq r.stops 0 && is_fair r.rule.action r.body

-- .. and has no chains of its own
abbrev pub is_quiet : Production Rule → Bool
is_quiet r = is_free r && is_calm r

abbrev pub is_fit : Production Rule → Bool
is_fit r = is_fair r.rule.action r.body && is_calm r

-- Bytes up to others spell symbols, whose values are these.
pub record Spelt (stage : ℕ) (ss : List Symbol) (i j : List ℕ) (vs : List Value) : Type 0 where
  pub reads : Reads (p.grammar stage) ss (lexed i) (lexed j) vs
  pub cut : Cut i j

pub named : {i mid n : List ℕ} {k : ℕ} → Next i k n mid → first_name (lexed i) ≡ n
named n = ap first_name n.first

-- another token is no bracket
pub no_bracket : {i mid n : List ℕ} {k : ℕ} → Next i k n mid → has p.module_tail_none.stops k ≡ false → NoBracket i
no_bracket n h = subst (λ ks. Allowed p.module_tail_none ks) (sym (ap lexeme_kinds n.first)) (ap (λ k. has p.module_tail_none.stops k) n.kind ∙ h)

more_behind : (us bs vs : List Value) → us ++ [] ≡ bs → us ++ vs ≡ bs ++ vs
more_behind us bs vs e = ap (λ l. l ++ vs) (sym (append_nil us) ∙ e)

reads_followed : {g : Grammar Rule} {n : ℕ} {ss : List Symbol} {ls ms rs : List Lexeme} {us vs : List Value} → Reads g (Part n ∷ []) ls ms us → Reads g ss ms rs vs
    → Reads g (Part n ∷ ss) ls rs (us ++ vs)
reads_followed {vs = vs} (part {ls = ls} {us = as_made} {ws = ws} {m = m} r is al fair e made c h b done) d = part r is al fair e (more_behind (ruled r.rule (first_name ls) as_made) ws vs made) c (more_followed m ws vs h) b d

module _ {stage : ℕ} where
  pub end : {i : List ℕ} → Spelt stage [] i i []
  end = record { reads = done; cut = cut_none }

  -- a token
  pub tok : {i mid j n : List ℕ} {k : ℕ} {ss : List Symbol} {vs : List Value} → Next i k n mid → Spelt stage ss mid j vs → Spelt stage (Token k ∷ ss) i j vs
  tok {j = j} {n = bytes} {k = k} {ss = ss} {vs = vs} n d = record { reads = subst (λ ls. Reads (p.grammar stage) (Token k ∷ ss) ls (lexed j) vs) (sym n.first) (token n.kind (ap (λ m. is_fine m bytes) n.kind ∙ n.fine) d.reads); cut = cut_more n.cut d.cut }

  -- a space in front
  pub skip : {i j : List ℕ} {ss : List Symbol} {vs : List Value} → Spelt stage ss i j vs → Spelt stage ss (32 ∷ i) j vs
  skip {i = i} {j = j} {ss = ss} {vs = vs} d = record { reads = subst (λ ls. Reads (p.grammar stage) ss ls (lexed j) vs) (sym (space i)) d.reads; cut = cut_more (cut_space i) d.cut }

  -- a part by a production that may stand before any token, and does to levels what its part does
  pub row_in : {n m : ℕ} {ss : List Symbol} {i mid j : List ℕ} {us vs ws : List Value} (r : Production Rule) → IsProduction (p.grammar stage) n r → is_free r ≡ true
      → nat_le r.rule.takes (length us) ≡ true → ruled r.rule (first_name (lexed i)) us ++ vs ≡ ws → Conforms r (operands_in us) m → m + operands_in vs ≤ operands_in ws → Spelt stage r.body i mid us → Spelt stage ss mid j vs → Spelt stage (Part n ∷ ss) i j ws
  row_in {i = i} r is z e made c h b d =
      let free = both (nat_eq r.stops 0) (is_fair r.rule.action r.body) z in
      record { reads = part r is (always_allowed r (eqb-true r.stops 0 free.0) (lexeme_kinds (lexed i))) free.1 e made c h b.reads d.reads; cut = cut_more b.cut d.cut }

  pub row_by : {n : ℕ} {ss : List Symbol} {i mid j : List ℕ} {us vs ws : List Value} (r : Production Rule) → IsProduction (p.grammar stage) n r → is_free r ≡ true
      → nat_le r.rule.takes (length us) ≡ true → ruled r.rule (first_name (lexed i)) us ++ vs ≡ ws → Conforms r (operands_in us) 0 → Spelt stage r.body i mid us → Spelt stage ss mid j vs → Spelt stage (Part n ∷ ss) i j ws
  row_by {i = i} {us = us} {vs = vs} {ws = ws} r is z e made c b d = row_in r is z e made c (fewer_behind (ruled r.rule (first_name (lexed i)) us) vs ws made) b d

  -- .. which has no chains of its own
  pub row : {n : ℕ} {ss : List Symbol} {i mid j : List ℕ} {us vs ws : List Value} (r : Production Rule) → IsProduction (p.grammar stage) n r → is_quiet r ≡ true
      → nat_le r.rule.takes (length us) ≡ true → ruled r.rule (first_name (lexed i)) us ++ vs ≡ ws → Spelt stage r.body i mid us → Spelt stage ss mid j vs → Spelt stage (Part n ∷ ss) i j ws
  row {us = us} r is z e made b d = let parts = both (is_free r) (is_calm r) z in row_by r is parts.0 e made (calm_conforms r (operands_in us) parts.1) b d

  -- the same before all that follows
  pub row_allowed : {n : ℕ} {ss : List Symbol} {i mid j : List ℕ} {us vs ws : List Value} (r : Production Rule) → IsProduction (p.grammar stage) n r → Allowed r (lexeme_kinds (lexed i)) → is_fit r ≡ true
      → nat_le r.rule.takes (length us) ≡ true → ruled r.rule (first_name (lexed i)) us ++ vs ≡ ws → Spelt stage r.body i mid us → Spelt stage ss mid j vs → Spelt stage (Part n ∷ ss) i j ws
  row_allowed {i = i} {us = us} {vs = vs} {ws = ws} r is al z e made b d =
      let parts = both (is_fair r.rule.action r.body) (is_calm r) z in
      record {
        reads = part r is al parts.0 e made (calm_conforms r (operands_in us) parts.1) (fewer_behind (ruled r.rule (first_name (lexed i)) us) vs ws made) b.reads d.reads;
        cut = cut_more b.cut d.cut;
      }

  -- a part by a production that may not stand before some tokens, but before this one
  pub row_before : {n k : ℕ} {ss : List Symbol} {i mid j next m : List ℕ} {us vs ws : List Value} (r : Production Rule) → IsProduction (p.grammar stage) n r → Next i k m next → has r.stops k ≡ false → is_fit r ≡ true
      → nat_le r.rule.takes (length us) ≡ true → ruled r.rule (first_name (lexed i)) us ++ vs ≡ ws → Spelt stage r.body i mid us → Spelt stage ss mid j vs → Spelt stage (Part n ∷ ss) i j ws
  row_before r is n h z e made b d = row_allowed r is (subst (λ ks. Allowed r ks) (sym (ap lexeme_kinds n.first)) (ap (λ k. has r.stops k) n.kind ∙ h)) z e made b d

  -- a part, and what stands behind it
  pub followed : {n : ℕ} {ss : List Symbol} {i mid j : List ℕ} {us vs : List Value} → Spelt stage (Part n ∷ []) i mid us → Spelt stage ss mid j vs → Spelt stage (Part n ∷ ss) i j (us ++ vs)
  followed b d = record { reads = reads_followed b.reads d.reads; cut = cut_more b.cut d.cut }

  -- Empty parts.

  pub no_words : {i : List ℕ} → Spelt stage (Part 1 ∷ []) i i (Trees [] ∷ [])
  no_words = row p.none_none (p.is_none_none stage) refl refl refl end end

  pub level : {ss : List Symbol} {i j : List ℕ} {vs : List Value} → Spelt stage ss i j vs → Spelt stage (Part 249 ∷ ss) i j vs
  level d = row_by p.level_none (p.is_level_none stage) refl refl refl begin_row end d

  pub level_end : {i : List ℕ} → Spelt stage (Part 250 ∷ []) i i []
  level_end = row_by p.level_end_none (p.is_level_end_none stage) refl refl refl level_end_row end end

  pub no_run : {i : List ℕ} → Spelt stage (Part 135 ∷ []) i i (Trees [] ∷ [])
  no_run = row_by p.run_none (p.is_run_none stage) refl refl refl end_row end end

  no_compared : {i : List ℕ} → Spelt stage (Part 132 ∷ []) i i (Trees [] ∷ [])
  no_compared = row_by p.compared_none (p.is_compared_none stage) refl refl refl no_comparison end end

  no_and : {i : List ℕ} → Spelt stage (Part 130 ∷ []) i i (Trees [] ∷ [])
  no_and = row_by p.more_negations_none (p.is_more_negations_none stage) refl refl refl no_conjuncts end end

  no_or : {i : List ℕ} → Spelt stage (Part 128 ∷ []) i i (Trees [] ∷ [])
  no_or = row_by p.more_conjunctions_none (p.is_more_conjunctions_none stage) refl refl refl no_disjuncts end end

  no_condition : {i : List ℕ} → Spelt stage (Part 123 ∷ []) i i (Trees [] ∷ [])
  no_condition = row_by p.tail_none (p.is_tail_none stage) refl refl refl no_tail end end

  no_equivalent : {i : List ℕ} → Spelt stage (Part 125 ∷ []) i i (Trees [] ∷ [])
  no_equivalent = row_by p.last_tail_none (p.is_last_tail_none stage) refl refl refl no_last_tail end end

  -- From sums to forms.

  module _ {i j : List ℕ} {x : Node} where
    pub negation_of_sum : Spelt stage (Part 133 ∷ []) i j (Tree x ∷ []) → Spelt stage (Part 131 ∷ []) i j (Tree x ∷ [])
    negation_of_sum d = row_by p.negation_sum (p.is_negation_sum stage) refl refl refl (negation_row _) (followed d no_compared) end

    pub conjunction_of : Spelt stage (Part 131 ∷ []) i j (Tree x ∷ []) → Spelt stage (Part 129 ∷ []) i j (Tree x ∷ [])
    conjunction_of d = row_by p.conjunction_negation (p.is_conjunction_negation stage) refl refl refl (conjunction_row 0 (omega arith)) (followed d no_and) end

    pub disjunction_of : Spelt stage (Part 129 ∷ []) i j (Tree x ∷ []) → Spelt stage (Part 127 ∷ []) i j (Tree x ∷ [])
    disjunction_of d = row_by p.disjunction_conjunction (p.is_disjunction_conjunction stage) refl refl refl (disjunction_row 0 (omega arith)) (followed d no_or) end

    pub condition_of : Spelt stage (Part 127 ∷ []) i j (Tree x ∷ []) → Spelt stage (Part 122 ∷ []) i j (Tree x ∷ [])
    condition_of d = row_by p.condition_disjunction (p.is_condition_disjunction stage) refl refl refl (condition_row 0 (omega arith)) (followed d no_condition) end

    pub form_of : Spelt stage (Part 122 ∷ []) i j (Tree x ∷ []) → Spelt stage (Part 120 ∷ []) i j (Tree x ∷ [])
    form_of d = row p.form_condition (p.is_form_condition stage) refl refl refl d end

    pub conjunction_of_sum : Spelt stage (Part 133 ∷ []) i j (Tree x ∷ []) → Spelt stage (Part 129 ∷ []) i j (Tree x ∷ [])
    conjunction_of_sum d = conjunction_of (negation_of_sum d)

    pub disjunction_of_sum : Spelt stage (Part 133 ∷ []) i j (Tree x ∷ []) → Spelt stage (Part 127 ∷ []) i j (Tree x ∷ [])
    disjunction_of_sum d = disjunction_of (conjunction_of_sum d)

    pub condition_of_sum : Spelt stage (Part 133 ∷ []) i j (Tree x ∷ []) → Spelt stage (Part 122 ∷ []) i j (Tree x ∷ [])
    condition_of_sum d = condition_of (disjunction_of_sum d)

    pub form_of_sum : Spelt stage (Part 133 ∷ []) i j (Tree x ∷ []) → Spelt stage (Part 120 ∷ []) i j (Tree x ∷ [])
    form_of_sum d = form_of (condition_of_sum d)

  -- an operand with its suffixes
  pub sum_of : {i j : List ℕ} {x : Node} {v : Value} → joined_in (trees_of v) ≤ 50 → Spelt stage (Part 134 ∷ []) i j (Tree x ∷ v ∷ []) → Spelt stage (Part 133 ∷ []) i j (Tree (attached x (trees_of v)) ∷ [])
  sum_of {x = x} {v = v} h d =
      row_by p.sum_operand (p.is_sum_operand stage) refl refl (ap (λ l. Tree (attached x l) ∷ []) (append_nil (trees_of v))) (sum_row (operands_in (Tree x ∷ v ∷ [])) (omega (arith, h))) d end

  -- Operators between operands.

  module _ {i mid next j : List ℕ} {a b : Node} (plain : Plain a) where
    compared_by : (r : Production Rule) (k : ℕ) (n : List ℕ) → IsProduction (p.grammar stage) 132 r → is_free r ≡ true → ((operands : ℕ) → Conforms r operands 0) → r.body ≡ Token k ∷ Part 133 ∷ [] → nat_le r.rule.takes 1 ≡ true
        → ((m : List ℕ) (y : Node) → ruled r.rule m (Tree y ∷ []) ≡ Tree (node head.Compared m (y ∷ []) nowhere) ∷ [])
        → Spelt stage (Part 133 ∷ []) i mid (Tree a ∷ []) → Next mid k n next → Spelt stage (Part 133 ∷ []) next j (Tree b ∷ []) → Spelt stage (Part 131 ∷ []) i j (Tree (node head.Compared n (a ∷ b ∷ []) nowhere) ∷ [])
    compared_by r k n is z conforms body takes made x w y =
        row_by p.negation_sum (p.is_negation_sum stage) refl refl
        (ap (λ z. Tree z ∷ []) (behind_plain a plain head.Compared n (b ∷ []) refl)) (negation_row _)
        (followed x
        (row_by r is z takes (append_nil (ruled r.rule (first_name (lexed mid)) (Tree b ∷ [])) ∙ made (first_name (lexed mid)) b ∙ ap (λ m. Tree (node head.Compared m (b ∷ []) nowhere) ∷ []) (named w)) (conforms 0)
        (subst (λ ss. Spelt stage ss mid j (Tree b ∷ [])) (sym body) (tok w y)) end))
        end

    pub equals : {n : List ℕ} → Spelt stage (Part 133 ∷ []) i mid (Tree a ∷ []) → Next mid 102 n next → Spelt stage (Part 133 ∷ []) next j (Tree b ∷ []) → Spelt stage (Part 131 ∷ []) i j (Tree (node head.Compared n (a ∷ b ∷ []) nowhere) ∷ [])
    equals {n} = compared_by p.compared_equals 102 n (p.is_compared_equals stage) refl equals_row refl refl (λ m y. refl)

    pub differs : {n : List ℕ} → Spelt stage (Part 133 ∷ []) i mid (Tree a ∷ []) → Next mid 103 n next → Spelt stage (Part 133 ∷ []) next j (Tree b ∷ []) → Spelt stage (Part 131 ∷ []) i j (Tree (node head.Compared n (a ∷ b ∷ []) nowhere) ∷ [])
    differs {n} = compared_by p.compared_different 103 n (p.is_compared_different stage) refl differs_row refl refl (λ m y. refl)

    pub less : {n : List ℕ} → Spelt stage (Part 133 ∷ []) i mid (Tree a ∷ []) → Next mid 104 n next → Spelt stage (Part 133 ∷ []) next j (Tree b ∷ []) → Spelt stage (Part 131 ∷ []) i j (Tree (node head.Compared n (a ∷ b ∷ []) nowhere) ∷ [])
    less {n} = compared_by p.compared_comparator 104 n (p.is_compared_comparator stage) refl less_row refl refl (λ m y. refl)

    pub at_most : {n : List ℕ} → Spelt stage (Part 133 ∷ []) i mid (Tree a ∷ []) → Next mid 105 n next → Spelt stage (Part 133 ∷ []) next j (Tree b ∷ []) → Spelt stage (Part 131 ∷ []) i j (Tree (node head.Compared n (a ∷ b ∷ []) nowhere) ∷ [])
    at_most {n} = compared_by p.compared_less_equal 105 n (p.is_compared_less_equal stage) refl at_most_row refl refl (λ m y. refl)

    pub conjoined : {n : List ℕ} → Spelt stage (Part 131 ∷ []) i mid (Tree a ∷ []) → Next mid 116 n next → Spelt stage (Part 131 ∷ []) next j (Tree b ∷ []) → Spelt stage (Part 129 ∷ []) i j (Tree (node head.And [] (a ∷ b ∷ []) nowhere) ∷ [])
    conjoined x w y =
        row_by p.conjunction_negation (p.is_conjunction_negation stage) refl refl (ap (λ z. Tree z ∷ []) (behind_plain a plain head.And [] (b ∷ []) refl)) (conjunction_row (operands_in (Tree a ∷ Trees (node head.And [] (b ∷ []) nowhere ∷ []) ∷ [])) (one_listed a (node head.And [] (b ∷ []) nowhere)))
        (followed x (row_in p.more_negations_and (p.is_more_negations_and stage) refl refl refl (and_row 0 1 (omega arith)) (one_item head.And (b ∷ []) refl) (tok w (followed y no_and)) end)) end

    pub disjoined : {n : List ℕ} → Spelt stage (Part 129 ∷ []) i mid (Tree a ∷ []) → Next mid 117 n next → Spelt stage (Part 129 ∷ []) next j (Tree b ∷ []) → Spelt stage (Part 127 ∷ []) i j (Tree (node head.Or [] (a ∷ b ∷ []) nowhere) ∷ [])
    disjoined x w y =
        row_by p.disjunction_conjunction (p.is_disjunction_conjunction stage) refl refl (ap (λ z. Tree z ∷ []) (behind_plain a plain head.Or [] (b ∷ []) refl)) (disjunction_row (operands_in (Tree a ∷ Trees (node head.Or [] (b ∷ []) nowhere ∷ []) ∷ [])) (one_listed a (node head.Or [] (b ∷ []) nowhere)))
        (followed x (row_in p.more_conjunctions_or (p.is_more_conjunctions_or stage) refl refl refl (or_row 0 1 (omega arith)) (one_item head.Or (b ∷ []) refl) (tok w (followed y no_or)) end)) end

    pub implied : {n : List ℕ} → Spelt stage (Part 127 ∷ []) i mid (Tree a ∷ []) → Next mid 118 n next → Spelt stage (Part 127 ∷ []) next j (Tree b ∷ []) → Spelt stage (Part 122 ∷ []) i j (Tree (node head.Implies [] (a ∷ b ∷ []) nowhere) ∷ [])
    implied x w y =
        row_by p.condition_disjunction (p.is_condition_disjunction stage) refl refl (ap (λ z. Tree z ∷ []) (behind_plain a plain head.Implies [] (b ∷ []) refl)) (condition_row (operands_in (Tree a ∷ Trees (node head.Implies [] (b ∷ []) nowhere ∷ []) ∷ [])) (one_listed a (node head.Implies [] (b ∷ []) nowhere)))
        (followed x (row_in p.tail_arrow (p.is_tail_arrow stage) refl refl refl (arrow_row (operands_in (Trees (node head.Implies [] (b ∷ []) nowhere ∷ []) ∷ [])) (operands_in (Trees (node head.Implies [] (b ∷ []) nowhere ∷ []) ∷ [])) (omega arith)) (as_many (Trees (node head.Implies [] (b ∷ []) nowhere ∷ []) ∷ []))
        (tok w (row_in p.conclusion_disjunction (p.is_conclusion_disjunction stage) refl refl refl (conclusion_row 0 1 (omega arith)) (one_item head.Implies (b ∷ []) refl) (followed y no_condition) end)) end)) end

    pub equivalent : {n : List ℕ} → Spelt stage (Part 127 ∷ []) i mid (Tree a ∷ []) → Next mid 119 n next → Spelt stage (Part 127 ∷ []) next j (Tree b ∷ []) → Spelt stage (Part 122 ∷ []) i j (Tree (node head.Iff [] (a ∷ b ∷ []) nowhere) ∷ [])
    equivalent x w y =
        row_by p.condition_disjunction (p.is_condition_disjunction stage) refl refl (ap (λ z. Tree z ∷ []) (behind_plain a plain head.Iff [] (b ∷ []) refl)) (condition_row (operands_in (Tree a ∷ Trees (node head.Iff [] (b ∷ []) nowhere ∷ []) ∷ [])) (one_listed a (node head.Iff [] (b ∷ []) nowhere)))
        (followed x (row_in p.tail_double_arrow (p.is_tail_double_arrow stage) refl refl refl (iff_row 0 1 (omega arith)) (one_item head.Iff (b ∷ []) refl) (tok w (followed y no_equivalent)) end)) end

  pub chosen : {i mid next after last j m n : List ℕ} {a b c : Node} → Plain c → Spelt stage (Part 127 ∷ []) i mid (Tree c ∷ []) → Next mid 96 m next → Spelt stage (Part 122 ∷ []) next after (Tree a ∷ [])
      → Next after 93 n last → Spelt stage (Part 122 ∷ []) last j (Tree b ∷ []) → Spelt stage (Part 122 ∷ []) i j (Tree (node head.Chosen [] (c ∷ a ∷ b ∷ []) nowhere) ∷ [])
  chosen {a = a} {b = b} {c = c} plain x v y w z =
      row_by p.condition_disjunction (p.is_condition_disjunction stage) refl refl (ap (λ t. Tree t ∷ []) (behind_plain c plain head.Chosen [] (a ∷ b ∷ []) refl))
      (condition_row (operands_in (Tree c ∷ Trees (node head.Chosen [] (a ∷ b ∷ []) nowhere ∷ []) ∷ [])) (one_listed c (node head.Chosen [] (a ∷ b ∷ []) nowhere)))
      (followed x (row_by p.tail_question (p.is_tail_question stage) refl refl refl (question_row _) (level (tok v (followed y (tok w (followed z level_end))))) end)) end

  pub negated : {i mid j n : List ℕ} {x : Node} → Next i 95 n mid → Spelt stage (Part 131 ∷ []) mid j (Tree x ∷ []) → Spelt stage (Part 131 ∷ []) i j (Tree (node head.Not [] (x ∷ []) nowhere) ∷ [])
  negated w d = row_by p.negation_exclamation (p.is_negation_exclamation stage) refl refl refl (not_row _) (level (tok w (followed d level_end))) end

  pub negative : {i mid j n : List ℕ} {x : Node} {v : Value} → list_all is_tight (trees_of v) ≡ true → joined_in (trees_of v) ≡ 0 → Next i 99 n mid → Spelt stage (Part 134 ∷ []) mid j (Tree x ∷ v ∷ [])
      → Spelt stage (Part 133 ∷ []) i j (Tree (node head.Negative [] (attached x (trees_of v) ∷ []) nowhere) ∷ [])
  negative {i = i} {j = j} {x = x} {v = v} t h w d =
      subst (λ z. Spelt stage (Part 133 ∷ []) i j (Tree z ∷ [])) (inside_last head.Negative [] [] x (trees_of v) refl t)
      (sum_of (omega (arith, h)) (row_by p.operand_minus (p.is_operand_minus stage) refl refl refl (subst (λ k. Conforms p.operand_minus k 0) (let n : 0 ≡ operands_in (Tree x ∷ v ∷ []) = omega (arith, h) in n) minus_row) (tok w d) end))
