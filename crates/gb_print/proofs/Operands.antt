-- Operands, their suffixes and arguments, and forms made of them.
use Rattle.std.specs.Prelude.{ℕ, ◌≡◌, ◌+◌, ◌≤◌, Bool, true, false, nat_le, List, [], ◌∷◌, ◌++◌, codes}
use Rattle.std.specs.List.{list_all}
use Rattle.std.proofs.Common.{refl, ap, sym, ◌∙◌, subst, append_assoc, arith}
use Rattle.gb_core.specs.declared.place.Place.{Place}
use Rattle.gb_goal.specs.Answers.{nowhere}
use Rattle.gb_script.specs.declared.table.Symbol.TheVariants.{Token, Part}
use Rattle.gb_script.specs.Grammar.{Production, IsProduction}
use Rattle.gb_script.specs.declared.action.Rule.{Rule}
use Rattle.gb_script.specs.declared.head.Head.{Head}
use Rattle.gb_script.specs.declared.head.Head.TheVariants as head
use Rattle.gb_script.specs.declared.tree.Node.{Node, Node-F, out-roll-Node}
use Rattle.gb_script.specs.declared.value.Value.{Value}
use Rattle.gb_script.specs.declared.value.Value.TheVariants.{Tree, Trees}
use Rattle.gb_script.specs.Build.{parts, grown}
use Rattle.gb_script.specs.Value.{trees_of}
use Rattle.gb_script.specs.Head.{looseness, hold, is_joiner}
use Rattle.gb_script.specs.Tree.{node, attach, attached}
use Rattle.gb_script.proofs.Stacks.{append_nil}
use Rattle.gb_print.proofs.Reading.{first_name, ruled}
use Rattle.gb_print.proofs.Lexed.{lexed}
use Rattle.gb_print.proofs.Tokens.{Next}
use Rattle.gb_print.proofs.Symbols.{open_round, close_round}
use Rattle.gb_print.proofs.Chains.{is_joined, one_if, joined_in, operands_in, Conforms}
use Rattle.gb_print.proofs.Counted.{joined_node, joined_append, as_many, one_more_item}
use Rattle.gb_print.proofs.RunRows.{head_row, more_row, atom_row, plus_row, minus_operator_row, times_row, slash_row, power_row, xor_row}
use Rattle.gb_print.proofs.Attaching.{Plain, plain_node, behind_plain, is_tight, tight_node, tight_append, attached_append, operated}
use Rattle.gb_print.proofs.Levels.{is_free, Before, Starts, Fits, Spelt, end, tok, row, row_in, followed, no_run, form_of_sum, sum_of}
use Rattle.gb_print.proofs.Productions as p

-- Bytes that read as a form, and may stand in front of what fits.
pub record IsForm (stage : ℕ) (φ : Before) (bar : Bool) (x : Node) : Type 0 where
  pub starts : (mid : List ℕ) → Starts (φ mid)
  pub reads : (mid : List ℕ) → Fits bar mid → Spelt stage (Part 120 ∷ []) (φ mid) mid (Tree x ∷ [])

-- What stands behind the head of a loop's variant, and the body of the loop behind it.
pub record VariantRun (stage : ℕ) (i j : List ℕ) (its : List Node) : Type 0 where
  pub value : Value
  pub value_is : trees_of value ≡ its
  pub reads : Spelt stage (Part 63 ∷ []) i j (value ∷ [])

-- .. with the head in front
pub record VariantFrom (stage : ℕ) (i j : List ℕ) (root : Node) (its : List Node) : Type 0 where
  pub value : Value
  pub value_is : trees_of value ≡ its
  pub reads : Spelt stage (Part 195 ∷ Part 63 ∷ []) i j (Tree root ∷ value ∷ [])

-- A form that is an atom with suffixes: in front of operators, suffixes and arguments, or as an argument itself.
pub record IsOperand (stage : ℕ) (φ : Before) (bar : Bool) (x : Node) : Type 0 where
  pub starts : (mid : List ℕ) → Starts (φ mid)
  pub root : Node
  pub suffixes : List Node
  pub whole : attached root suffixes ≡ x
  pub tight : list_all is_tight suffixes ≡ true
  pub single : joined_in suffixes ≡ 0
  pub plain : Plain x
  pub first : (mid j : List ℕ) (its : List Node) → Fits bar mid → Spelt stage (Part 135 ∷ []) mid j (Trees its ∷ [])
      → Spelt stage (Part 140 ∷ Part 135 ∷ []) (φ mid) j (Tree root ∷ Trees (suffixes ++ its) ∷ [])
  pub argument : (mid j : List ℕ) (its : List Node) → Fits bar mid → Spelt stage (Part 135 ∷ []) mid j (Trees its ∷ [])
      → Spelt stage (Part 136 ∷ []) (φ mid) j (Trees (node head.Apply [] (root ∷ []) nowhere ∷ (suffixes ++ its)) ∷ [])
  pub variant : (mid j : List ℕ) (its : List Node) → Fits bar mid → VariantRun stage mid j its → VariantFrom stage (φ mid) j root (suffixes ++ its)

-- A form that may be the last operand of an operator.
pub record IsSummand (stage : ℕ) (φ : Before) (bar : Bool) (x : Node) : Type 0 where
  pub starts : (mid : List ℕ) → Starts (φ mid)
  pub root : Node
  pub suffixes : List Node
  pub whole : attached root suffixes ≡ x
  pub tight : list_all is_tight suffixes ≡ true
  pub plain : Plain x
  pub tail : Value
  pub tail_is : trees_of tail ≡ suffixes
  pub few : joined_in (trees_of tail) ≤ 1
  pub reads : (mid : List ℕ) → Fits bar mid → Spelt stage (Part 134 ∷ []) (φ mid) mid (Tree root ∷ tail ∷ [])

-- A node that begins with more parts.
pub grown_node : (front : List Value) (h : Head) (t : List ℕ) (ps : List Node) (q : Place) → grown nowhere front (node h t ps q) ≡ node h t (parts nowhere front ++ ps) nowhere
grown_node front h t ps q = ap (λ (l : Node-F Node). node l.head l.text (parts nowhere front ++ l.parts) nowhere) (out-roll-Node (record { head = h; text = t; parts = ps; place = q }))

pub tight_one : (h : Head) (ps : List Node) → looseness h ≡ 1 → list_all is_tight (node h [] ps nowhere ∷ []) ≡ true
tight_one h ps t = let e = tight_node h [] ps t in rw e refl

pub fits_close : (bar : Bool) (mid : List ℕ) → Fits bar (41 ∷ mid)
fits_close bar mid = record { word = refl; bars = λ e. refl }

pub fits_space : (bar : Bool) (mid : List ℕ) → Fits bar (32 ∷ mid)
fits_space bar mid = record { word = refl; bars = λ e. refl }

-- a bracket in front of a form
pub opens : {i : List ℕ} → Starts i → Next (40 ∷ i) 82 (codes "(") i
opens {i = i} s = subst (λ l. Next (40 ∷ l) 82 (codes "(") l) (sym s.is) (open_round s.byte s.more s.begins)

module _ {stage : ℕ} where
  -- an operand, by its head and what stands behind it
  pub headed : {i j : List ℕ} (x : Node) (its : List Node) → Spelt stage (Part 140 ∷ Part 135 ∷ []) i j (Tree x ∷ Trees its ∷ []) → Spelt stage (Part 134 ∷ []) i j (Tree x ∷ Trees its ∷ [])
  headed x its d =
      let n = operands_in (Tree x ∷ Trees its ∷ []) in
      row_in p.operand_head (p.is_operand_head stage) refl refl refl (head_row n n (omega arith)) (as_many (Tree x ∷ Trees its ∷ [])) d end

  -- a run that isn't empty
  pub more_run : {i j : List ℕ} (its : List Node) → Spelt stage (Part 136 ∷ []) i j (Trees its ∷ []) → Spelt stage (Part 135 ∷ []) i j (Trees its ∷ [])
  more_run its d =
      let n = operands_in (Trees its ∷ []) in
      row_in p.run_more_run (p.is_run_more_run stage) refl refl refl (more_row n n (omega arith)) (as_many (Trees its ∷ [])) d end

  -- an operand with nothing behind it
  pub alone_reads : {φ : Before} {bar : Bool} {x : Node} (o : IsOperand stage φ bar x) (mid : List ℕ) → Fits bar mid → Spelt stage (Part 134 ∷ []) (φ mid) mid (Tree o.root ∷ Trees o.suffixes ∷ [])
  alone_reads {φ = φ} o mid f = subst (λ its. Spelt stage (Part 134 ∷ []) (φ mid) mid (Tree o.root ∷ Trees its ∷ [])) (append_nil o.suffixes) (headed o.root (o.suffixes ++ []) (o.first mid mid [] f no_run))

  pub summand_of : {φ : Before} {bar : Bool} {x : Node} → IsOperand stage φ bar x → IsSummand stage φ bar x
  summand_of o = record {
    starts = o.starts;
    root = o.root;
    suffixes = o.suffixes;
    whole = o.whole;
    tight = o.tight;
    plain = o.plain;
    tail = Trees o.suffixes;
    tail_is = refl;
    few = omega (arith, o.single);
    reads = alone_reads o;
  }

  pub sum_reads : {φ : Before} {bar : Bool} {x : Node} → IsSummand stage φ bar x → (mid : List ℕ) → Fits bar mid → Spelt stage (Part 133 ∷ []) (φ mid) mid (Tree x ∷ [])
  sum_reads {φ = φ} s mid f = subst (λ z. Spelt stage (Part 133 ∷ []) (φ mid) mid (Tree z ∷ [])) (ap (λ l. attached s.root l) s.tail_is ∙ s.whole) (sum_of (omega (arith, s.few)) (s.reads mid f))

  pub form_of_summand : {φ : Before} {bar : Bool} {x : Node} → IsSummand stage φ bar x → IsForm stage φ bar x
  form_of_summand s = record { starts = s.starts; reads = λ mid f. form_of_sum (sum_reads s mid f) }

  pub form_of_operand : {φ : Before} {bar : Bool} {x : Node} → IsOperand stage φ bar x → IsForm stage φ bar x
  form_of_operand o = form_of_summand (summand_of o)

  -- Atoms.

  abbrev pub of_atom : {φ : Before} {bar : Bool} {x : Node} → ((mid : List ℕ) → Starts (φ mid)) → Plain x
      → ((mid : List ℕ) → Fits bar mid → Spelt stage (Part 147 ∷ []) (φ mid) mid (Tree x ∷ [])) → IsOperand stage φ bar x
  of_atom {x = x} s plain reads = record {
    starts = s;
    root = x;
    suffixes = [];
    whole = refl;
    tight = refl;
    single = refl;
    plain = plain;
    first = λ mid j its f more. row p.head_atom (p.is_head_atom stage) refl refl refl (reads mid f) more;
    argument = λ mid j its f more.
        let n = operands_in (Tree x ∷ Trees its ∷ []) in
        row_in p.more_run_atom (p.is_more_run_atom stage) refl refl
        (ap (λ l. Trees (node head.Apply [] (x ∷ []) nowhere ∷ l) ∷ []) (append_nil its)) (atom_row n n (omega arith)) (omega arith) (followed (reads mid f) more) end;
    variant = λ mid j its f run. record {
      value = run.value;
      value_is = run.value_is;
      reads = row p.plain_head_head (p.is_plain_head_head stage) refl refl refl (row p.head_atom (p.is_head_atom stage) refl refl refl (reads mid f) end) run.reads;
    };
  }

  -- a further suffix, in what stands behind an operand
  pub suffixed : {φ ψ : Before} {bar : Bool} {a : Node} (h : Head) (ps : List Node) → IsOperand stage φ bar a → hold h ≡ 0 → is_joiner h ≡ false → looseness h ≡ 1 → is_joined h ≡ false
      → ((mid : List ℕ) → Fits bar (ψ mid))
      → ((mid j : List ℕ) (its : List Node) → Fits false mid → Spelt stage (Part 135 ∷ []) mid j (Trees its ∷ []) → Spelt stage (Part 136 ∷ []) (ψ mid) j (Trees (node h [] ps nowhere ∷ its) ∷ []))
      → ((mid j : List ℕ) (its : List Node) → Fits false mid → VariantRun stage mid j its → VariantRun stage (ψ mid) j (node h [] ps nowhere ∷ its))
      → IsOperand stage (λ mid. φ (ψ mid)) false (node h [] (a ∷ ps) nowhere)
  suffixed {φ = φ} {ψ = ψ} {a = a} h ps o l n t apart fits reads runs =
      let item = node h [] ps nowhere in
      let run : (mid j : List ℕ) (its : List Node) → Fits false mid → Spelt stage (Part 135 ∷ []) mid j (Trees its ∷ []) → Spelt stage (Part 135 ∷ []) (ψ mid) j (Trees (item ∷ its) ∷ []) =
      λ mid j its f more. more_run (item ∷ its) (reads mid j its f more) in
      record {
        starts = λ mid. o.starts (ψ mid);
        root = o.root;
        suffixes = o.suffixes ++ item ∷ [];
        whole = attached_append o.root o.suffixes (item ∷ []) ∙ ap (λ z. attach z item) o.whole ∙ behind_plain a o.plain h [] ps (ap (λ k. nat_le k 0) t);
        tight = tight_append o.suffixes (item ∷ []) o.tight (tight_one h ps t);
        single = joined_append o.suffixes (item ∷ []) ∙ (let k = joined_node h [] ps nowhere ∙ ap one_if apart in let none : joined_in o.suffixes + joined_in (item ∷ []) ≡ 0 = omega (arith, o.single, k) in none);
        plain = plain_node h [] (a ∷ ps) l n;
        first = λ mid j its f more. subst (λ l. Spelt stage (Part 140 ∷ Part 135 ∷ []) (φ (ψ mid)) j (Tree o.root ∷ Trees l ∷ [])) (sym (append_assoc o.suffixes (item ∷ []) its))
            (o.first (ψ mid) j (item ∷ its) (fits mid) (run mid j its f more));
        argument = λ mid j its f more. subst (λ l. Spelt stage (Part 136 ∷ []) (φ (ψ mid)) j (Trees (node head.Apply [] (o.root ∷ []) nowhere ∷ l) ∷ []))
            (sym (append_assoc o.suffixes (item ∷ []) its)) (o.argument (ψ mid) j (item ∷ its) (fits mid) (run mid j its f more));
        variant = λ mid j its f more.
            let w = o.variant (ψ mid) j (item ∷ its) (fits mid) (runs mid j its f more) in record { value = w.value; value_is = w.value_is ∙ sym (append_assoc o.suffixes (item ∷ []) its); reads = w.reads };
      }

  -- Sums and products.

  pub added : {φ ψ : Before} {c d : Bool} {a b : Node} {n : List ℕ} (h : Head) (k : ℕ) (r : Production Rule) → IsProduction (p.grammar stage) 136 r → is_free r ≡ true → ((operands made : ℕ) → operands + 1 ≤ made → Conforms r operands made) → is_joined h ≡ true → r.body ≡ Token k ∷ Part 134 ∷ [] → nat_le r.rule.takes 2 ≡ true
      → ((m : List ℕ) (y : Node) (v : Value) → ruled r.rule m (Tree y ∷ v ∷ []) ≡ Trees (node h [] (y ∷ []) nowhere ∷ (trees_of v ++ [])) ∷ [])
      → nat_le (looseness h) 0 ≡ false → nat_le 1 (hold h) ≡ true
      → IsOperand stage φ c a → IsSummand stage ψ d b → (w : List ℕ) → ((mid : List ℕ) → Next (w ++ mid) k n mid) → ((mid : List ℕ) → Fits c (w ++ mid))
      → (mid : List ℕ) → Fits d mid → Spelt stage (Part 133 ∷ []) (φ (w ++ ψ mid)) mid (Tree (node h [] (a ∷ b ∷ []) nowhere) ∷ [])
  added {φ = φ} {ψ = ψ} {a = a} {b = b} h k r is z conforms joins body takes made loose holds o s w next fits mid f =
      let here = w ++ ψ mid in
      let n = operands_in (Tree s.root ∷ s.tail ∷ []) in
      let tail_joined : joined_in (trees_of s.tail) ≡ joined_in s.suffixes = ap joined_in s.tail_is in
      let item : Spelt stage (Part 136 ∷ []) here mid (Trees (node h [] (s.root ∷ []) nowhere ∷ s.suffixes) ∷ []) =
      row_in r is z takes
      (append_nil (ruled r.rule (first_name (lexed here)) (Tree s.root ∷ s.tail ∷ [])) ∙ made (first_name (lexed here)) s.root s.tail
      ∙ ap (λ l. Trees (node h [] (s.root ∷ []) nowhere ∷ l) ∷ []) (append_nil (trees_of s.tail) ∙ s.tail_is))
      (conforms n (n + 1) (omega arith)) (one_more_item h (s.root ∷ []) s.suffixes n joins (omega (arith, tail_joined)))
      (subst (λ ss. Spelt stage ss here mid (Tree s.root ∷ s.tail ∷ [])) (sym body) (tok (next (ψ mid)) (s.reads mid f))) end in
      let run : Spelt stage (Part 135 ∷ []) here mid (Trees (node h [] (s.root ∷ []) nowhere ∷ s.suffixes) ∷ []) = more_run (node h [] (s.root ∷ []) nowhere ∷ s.suffixes) item in
      let split = joined_append o.suffixes (node h [] (s.root ∷ []) nowhere ∷ s.suffixes) in
      let one = joined_node h [] (s.root ∷ []) nowhere ∙ ap one_if joins in
      subst (λ z. Spelt stage (Part 133 ∷ []) (φ here) mid (Tree z ∷ []))
      (operated h o.root a s.root o.suffixes s.suffixes o.plain o.whole loose holds s.tight ∙ ap (λ y. node h [] (a ∷ y ∷ []) nowhere) s.whole)
      (sum_of (omega (arith, split, one, o.single, s.few, tail_joined)) (headed o.root (o.suffixes ++ node h [] (s.root ∷ []) nowhere ∷ s.suffixes) (o.first here mid (node h [] (s.root ∷ []) nowhere ∷ s.suffixes) (fits (ψ mid)) run)))

  pub plus : {φ ψ : Before} {c d : Bool} {a b : Node} {n : List ℕ} → IsOperand stage φ c a → IsSummand stage ψ d b → (w : List ℕ) → ((mid : List ℕ) → Next (w ++ mid) 98 n mid) → ((mid : List ℕ) → Fits c (w ++ mid))
      → (mid : List ℕ) → Fits d mid → Spelt stage (Part 133 ∷ []) (φ (w ++ ψ mid)) mid (Tree (node head.Sum [] (a ∷ b ∷ []) nowhere) ∷ [])
  plus = added head.Sum 98 p.more_run_plus (p.is_more_run_plus stage) refl plus_row refl refl refl (λ m y its. refl) refl refl

  pub minus : {φ ψ : Before} {c d : Bool} {a b : Node} {n : List ℕ} → IsOperand stage φ c a → IsSummand stage ψ d b → (w : List ℕ) → ((mid : List ℕ) → Next (w ++ mid) 99 n mid) → ((mid : List ℕ) → Fits c (w ++ mid))
      → (mid : List ℕ) → Fits d mid → Spelt stage (Part 133 ∷ []) (φ (w ++ ψ mid)) mid (Tree (node head.Difference [] (a ∷ b ∷ []) nowhere) ∷ [])
  minus = added head.Difference 99 p.more_run_minus (p.is_more_run_minus stage) refl minus_operator_row refl refl refl (λ m y its. refl) refl refl

  pub times : {φ ψ : Before} {c d : Bool} {a b : Node} {n : List ℕ} → IsOperand stage φ c a → IsSummand stage ψ d b → (w : List ℕ) → ((mid : List ℕ) → Next (w ++ mid) 97 n mid) → ((mid : List ℕ) → Fits c (w ++ mid))
      → (mid : List ℕ) → Fits d mid → Spelt stage (Part 133 ∷ []) (φ (w ++ ψ mid)) mid (Tree (node head.Product [] (a ∷ b ∷ []) nowhere) ∷ [])
  times = added head.Product 97 p.more_run_times (p.is_more_run_times stage) refl times_row refl refl refl (λ m y its. refl) refl refl

  pub divided : {φ ψ : Before} {c d : Bool} {a b : Node} {n : List ℕ} → IsOperand stage φ c a → IsSummand stage ψ d b → (w : List ℕ) → ((mid : List ℕ) → Next (w ++ mid) 100 n mid) → ((mid : List ℕ) → Fits c (w ++ mid))
      → (mid : List ℕ) → Fits d mid → Spelt stage (Part 133 ∷ []) (φ (w ++ ψ mid)) mid (Tree (node head.Quotient [] (a ∷ b ∷ []) nowhere) ∷ [])
  divided = added head.Quotient 100 p.more_run_slash (p.is_more_run_slash stage) refl slash_row refl refl refl (λ m y its. refl) refl refl

  pub paired : {φ ψ : Before} {c d : Bool} {a b : Node} {n : List ℕ} → IsOperand stage φ c a → IsSummand stage ψ d b → (w : List ℕ) → ((mid : List ℕ) → Next (w ++ mid) 101 n mid) → ((mid : List ℕ) → Fits c (w ++ mid))
      → (mid : List ℕ) → Fits d mid → Spelt stage (Part 133 ∷ []) (φ (w ++ ψ mid)) mid (Tree (node head.PowerProduct [] (a ∷ b ∷ []) nowhere) ∷ [])
  paired = added head.PowerProduct 101 p.more_run_power_times (p.is_more_run_power_times stage) refl power_row refl refl refl (λ m y its. refl) refl refl

  pub summed_bits : {φ ψ : Before} {c d : Bool} {a b : Node} {n : List ℕ} → IsOperand stage φ c a → IsSummand stage ψ d b → (w : List ℕ) → ((mid : List ℕ) → Next (w ++ mid) 110 n mid) → ((mid : List ℕ) → Fits c (w ++ mid))
      → (mid : List ℕ) → Fits d mid → Spelt stage (Part 133 ∷ []) (φ (w ++ ψ mid)) mid (Tree (node head.Xor [] (a ∷ b ∷ []) nowhere) ∷ [])
  summed_bits = added head.Xor 110 p.more_run_xor (p.is_more_run_xor stage) refl xor_row refl refl refl (λ m y its. refl) refl refl

  -- Brackets.

  -- what a bracket of a form becomes, whatever closes it
  pub round : {i mid j : List ℕ} (h : Head) (ps : List Node) → Next i 82 (codes "(") mid → Spelt stage (Part 149 ∷ []) mid j (Tree (node h [] ps nowhere) ∷ []) → Spelt stage (Part 147 ∷ []) i j (Tree (node h [] ps nowhere) ∷ [])
  round h ps n d = row p.atom_open_round (p.is_atom_open_round stage) refl refl (ap (λ z. Tree z ∷ []) (grown_node [] h [] ps nowhere)) (tok n d) end

  pub opened : {i mid j : List ℕ} {x : Node} (h : Head) (ps : List Node) → Spelt stage (Part 120 ∷ []) i mid (Tree x ∷ []) → Spelt stage (Part 150 ∷ []) mid j (Tree (node h [] ps nowhere) ∷ []) → Spelt stage (Part 149 ∷ []) i j (Tree (node h [] (x ∷ ps) nowhere) ∷ [])
  opened {x = x} h ps d e = row p.bracketed_form (p.is_bracketed_form stage) refl refl (ap (λ z. Tree z ∷ []) (grown_node (Tree x ∷ []) h [] ps nowhere)) (followed d e) end

  pub in_round : {φ : Before} {bar : Bool} {x : Node} → IsForm stage φ bar x → IsOperand stage (λ mid. 40 ∷ φ (41 ∷ mid)) false (node head.Bracketed [] (x ∷ []) nowhere)
  in_round {φ = φ} {bar = bar} {x = x} o =
      of_atom (λ mid. record { byte = 40; more = φ (41 ∷ mid); is = refl; begins = refl }) (plain_node head.Bracketed [] (x ∷ []) refl refl)
      (λ mid f. round head.Bracketed (x ∷ []) (opens (o.starts (41 ∷ mid)))
      (opened head.Bracketed [] (o.reads (41 ∷ mid) (fits_close bar mid)) (row p.bracket_tail_close_round (p.is_bracket_tail_close_round stage) refl refl refl (tok (close_round mid) end) end)))
