-- What is printed of procedures, calls and judgments reads as their trees.
use Rattle.std.specs.Prelude.{ℕ, ◌≡◌, Bool, true, false, List, [], ◌∷◌, ◌++◌, codes}
use Rattle.std.specs.List.{list_all}
use Rattle.std.proofs.Common.{refl, ap, sym, subst, arith}
use Rattle.gb_script.proofs.Stacks.{append_nil}
use Rattle.gb_lex.specs.Byte.{is_word_byte}
use Rattle.gb_limits.specs.Kinds.{kind_of}
use Rattle.gb_limits.specs.LeftOut.{is_word_of}
use Rattle.gb_limits.specs.Lexeme.{spells}
use Rattle.gb_script.specs.declared.table.Symbol.TheVariants.{Part}
use Rattle.gb_script.specs.Grammar.{has}
use Rattle.gb_goal.specs.Answers.{nowhere}
use Rattle.gb_script.specs.declared.head.Head.TheVariants as head
use Rattle.gb_script.specs.declared.terminal.Terminal.TheVariants as terminal
use Rattle.gb_script.specs.declared.tree.Node.{Node}
use Rattle.gb_script.specs.declared.value.Value.TheVariants.{Tree, Trees}
use Rattle.gb_script.specs.Tree.{node}
use Rattle.gb_print_names.specs.Text.{Text}
use Rattle.gb_print.specs.Nodes as nodes
use Rattle.gb_print.specs.Written.{is_path, is_name_text}
use Rattle.gb_print.proofs.Fine.{is_fine}
use Rattle.gb_print.proofs.Lexed.{ahead}
use Rattle.gb_print.proofs.Tokens.{Next, next_word}
use Rattle.gb_print.proofs.Symbols.{open_square, close_square, close_round, empty_round, colon_word, long_word, tilde_word, at_word, at_most_word, equal_word, at_least_word, hoare_word, phoare_word, equiv_word, ampersand}
use Rattle.gb_print.proofs.Chains.{operands_in}
use Rattle.gb_print.proofs.Counted.{joined_node, few_joined, as_many}
use Rattle.gb_print.proofs.RunRows.{phoare_row, bound_equal_row, bound_at_most_row, bound_at_least_row}
use Rattle.gb_print.proofs.Attaching.{plain_node, behind_plain, is_tight, tight_node}
use Rattle.gb_print.proofs.Levels.{Before, Spelt, end, tok, named, row, row_in, row_by, row_before, followed, no_words}
use Rattle.gb_print.proofs.Operands.{IsForm, IsOperand, IsSummand, of_atom, grown_node, fits_space, sum_reads, opens}
use Rattle.gb_print.proofs.NameWords.{name_reads, name_start}
use Rattle.gb_print.proofs.WordsInFront.{Words, member_in_front}
use Rattle.gb_print.proofs.Atoms.{FormPart, more_forms, form_trees, forms_read, fits_more, fits_symbol}
use Rattle.gb_print.proofs.Productions as p

-- A token that may stand behind the path of a procedure.
pub record Ends (mid : List ℕ) : Type 0 where
  pub kind : ℕ
  pub name : List ℕ
  pub more : List ℕ
  pub next : Next mid kind name more
  pub may : has p.dotted_procedure_none.stops kind ≡ false

-- What a judgment speaks of, in front of ` : ` or ` ~ `.
pub record IsSubject (stage : ℕ) (φ : Before) (x : Node) : Type 0 where
  pub reads : (mid : Text) → ahead is_word_byte mid ≡ false → Ends mid → Spelt stage (Part 159 ∷ []) (φ mid) mid (Tree x ∷ [])

ends_colon : (mid : Text) → Ends (codes " : " ++ mid)
ends_colon mid = record { kind = 93; name = codes ":"; more = mid; next = colon_word mid; may = refl }

ends_tilde : (mid : Text) → Ends (codes " ~ " ++ mid)
ends_tilde mid = record { kind = 107; name = codes "~"; more = mid; next = tilde_word mid; may = refl }

tight_sign : (sign : Text) (ps : List Node) → list_all is_tight (node head.Bounded sign ps nowhere ∷ []) ≡ true
tight_sign sign ps = let e = tight_node head.Bounded sign ps refl in rw e refl

-- arguments in brackets, without the one that opens
abbrev pub arguments_text : {stage : ℕ} → List (FormPart stage) → Before
arguments_text [] mid = 41 ∷ mid
arguments_text (f ∷ fs) mid = f.text (more_forms fs (41 ∷ mid))

-- a bracket in front of arguments
pub opens_call : {stage : ℕ} (fs : List (FormPart stage)) (mid : Text) → Next (40 ∷ arguments_text fs mid) 82 (codes "(") (arguments_text fs mid)
opens_call [] mid = empty_round mid
opens_call (f ∷ fs) mid = opens (f.form.starts (more_forms fs (41 ∷ mid)))

module _ {stage : ℕ} where
  -- Paths of procedures.

  pub path_words : Words stage 83 84 85
  path_words = record {
    name_then = λ w h ps d. row p.procedure_name (p.is_procedure_name stage) refl refl (ap (λ z. Tree z ∷ []) (grown_node (Tree (nodes.word w) ∷ []) h [] ps nowhere)) d end;
    first_dot = λ w h ps d. row p.procedure_tail_dot (p.is_procedure_tail_dot stage) refl refl (ap (λ z. Tree z ∷ []) (grown_node (Tree (nodes.word w) ∷ []) h [] ps nowhere)) d end;
    further_dot = λ w h ps d. row p.dotted_procedure_dot (p.is_dotted_procedure_dot stage) refl refl (ap (λ z. Tree z ∷ []) (grown_node (Tree (nodes.word w) ∷ []) h [] ps nowhere)) d end;
  }

  pub procedure_reads : (m x mid : Text) → is_path m ≡ true → is_name_text x ≡ true → ahead is_word_byte mid ≡ false → Ends mid
      → Spelt stage (Part 83 ∷ []) (m ++ (46 ∷ (x ++ mid))) mid (Tree (nodes.tree head.ProcedurePath (nodes.word_nodes m ++ nodes.word x ∷ [])) ∷ [])
  procedure_reads m x mid h k f e =
      subst (λ l. Spelt stage (Part 83 ∷ []) (m ++ (46 ∷ (x ++ mid))) mid (Tree (nodes.tree head.ProcedurePath l) ∷ [])) (append_nil (nodes.word_nodes m ++ nodes.word x ∷ []))
      (member_in_front path_words head.ProcedurePath [] mid f (row_before p.dotted_procedure_none (p.is_dotted_procedure_none stage) e.next e.may refl refl refl end end) m x h k)

  -- Calls: arguments in brackets, up to what follows.

  no_call : {i : Text} → Spelt stage (Part 73 ∷ []) i i (Tree (nodes.tree head.Call []) ∷ [])
  no_call = row p.no_functor_none (p.is_no_functor_none stage) refl refl refl end end

  pub close_call : (fs : List (FormPart stage)) (mid : Text) → Spelt stage (Part 72 ∷ []) (arguments_text fs mid) mid (Tree (nodes.tree head.Call (nodes.list (form_trees fs) ∷ [])) ∷ [])
  close_call [] mid =
      row p.call_arguments_close_round (p.is_call_arguments_close_round stage) refl refl (ap (λ z. Tree z ∷ []) (grown_node (Trees [] ∷ []) head.Call [] [] nowhere))
      (followed no_words (tok (close_round mid) no_call)) end
  close_call (f ∷ fs) mid =
      row p.call_arguments_some_forms (p.is_call_arguments_some_forms stage) refl refl (ap (λ z. Tree z ∷ []) (grown_node (Trees (f.tree ∷ form_trees fs) ∷ []) head.Call [] [] nowhere))
      (followed (row p.some_forms_form (p.is_some_forms_form stage) refl refl (ap (λ l. Trees (f.tree ∷ l) ∷ []) (append_nil (form_trees fs)))
      (followed (f.form.reads (more_forms fs (41 ∷ mid)) (fits_more f.bar fs mid)) (forms_read fs mid)) end)
      (tok (close_round mid) (row p.functor_tail_no_functor (p.is_functor_tail_no_functor stage) refl refl refl no_call end))) end

  pub call_words : Words stage 68 69 70
  call_words = record {
    name_then = λ w h ps d. row p.call_name (p.is_call_name stage) refl refl (ap (λ z. Tree z ∷ []) (grown_node (Tree (nodes.word w) ∷ []) h [] ps nowhere)) d end;
    first_dot = λ w h ps d. row p.call_tail_dot (p.is_call_tail_dot stage) refl refl (ap (λ z. Tree z ∷ []) (grown_node (Tree (nodes.word w) ∷ []) h [] ps nowhere)) d end;
    further_dot = λ w h ps d. row p.dotted_call_dot (p.is_dotted_call_dot stage) refl refl (ap (λ z. Tree z ∷ []) (grown_node (Tree (nodes.word w) ∷ []) h [] ps nowhere)) d end;
  }

  -- a procedure at its arguments
  pub call_reads : (m x : Text) (fs : List (FormPart stage)) (mid : Text) → is_path m ≡ true → is_name_text x ≡ true
      → Spelt stage (Part 68 ∷ []) (m ++ (46 ∷ (x ++ (40 ∷ arguments_text fs mid)))) mid (Tree (nodes.tree head.Call ((nodes.word_nodes m ++ nodes.word x ∷ []) ++ nodes.list (form_trees fs) ∷ [])) ∷ [])
  call_reads m x fs mid h k =
      member_in_front call_words head.Call (nodes.list (form_trees fs) ∷ []) (40 ∷ arguments_text fs mid) refl (row p.dotted_call_open_round (p.is_dotted_call_open_round stage) refl refl refl (tok (opens_call fs mid) (close_call fs mid)) end) m x h k

  -- Judgments.

  pub procedure_subject : (m x : Text) → is_path m ≡ true → is_name_text x ≡ true → IsSubject stage (λ mid. m ++ (46 ∷ (x ++ mid))) (nodes.tree head.ProcedurePath (nodes.word_nodes m ++ nodes.word x ∷ []))
  procedure_subject m x h k = record { reads = λ mid f e. row p.subject_procedure (p.is_subject_procedure stage) refl refl refl (procedure_reads m x mid h k f e) end }

  -- what reads as a path, whatever stands behind it
  pub subject_of : {φ : Before} {x : Node} → ((mid : Text) → ahead is_word_byte mid ≡ false → Spelt stage (Part 83 ∷ []) (φ mid) mid (Tree x ∷ [])) → IsSubject stage φ x
  subject_of reads = record { reads = λ mid f e. row p.subject_procedure (p.is_subject_procedure stage) refl refl refl (reads mid f) end }

  pub hoare : {φ ψ χ : Before} {c d : Bool} {s a b : Node} → IsSubject stage φ s → IsForm stage ψ c a → IsForm stage χ d b
      → IsOperand stage (λ mid. codes "hoare [" ++ φ (codes " : " ++ ψ (codes " ==> " ++ χ (93 ∷ mid)))) false (nodes.tree head.Hoare (s ∷ a ∷ b ∷ []))
  hoare {φ = φ} {ψ = ψ} {χ = χ} {c = c} {d = d} {s = s} {a = a} {b = b} u x y =
      of_atom (λ mid. record { byte = 104; more = codes "oare [" ++ φ (codes " : " ++ ψ (codes " ==> " ++ χ (93 ∷ mid))); is = refl; begins = refl }) (plain_node head.Hoare [] (s ∷ a ∷ b ∷ []) refl refl)
      (λ mid f.
      let last = χ (93 ∷ mid) in
      let middle = ψ (codes " ==> " ++ last) in
      row p.atom_hoare (p.is_atom_hoare stage) refl refl refl
      (tok (hoare_word (91 ∷ φ (codes " : " ++ middle))) (tok (open_square (φ (codes " : " ++ middle))) (followed (u.reads (codes " : " ++ middle) refl (ends_colon middle))
      (tok (colon_word middle) (followed (x.reads (codes " ==> " ++ last) (fits_space c (codes "==> " ++ last))) (tok (long_word last) (followed (y.reads (93 ∷ mid) (fits_symbol d 93 mid refl refl)) (tok (close_square mid) end)))))))) end)

  pub equiv : {φ ω ψ χ : Before} {c d : Bool} {s t a b : Node} → IsSubject stage φ s → IsSubject stage ω t → IsForm stage ψ c a → IsForm stage χ d b
      → IsOperand stage (λ mid. codes "equiv [" ++ φ (codes " ~ " ++ ω (codes " : " ++ ψ (codes " ==> " ++ χ (93 ∷ mid))))) false (nodes.tree head.Equiv (s ∷ t ∷ a ∷ b ∷ []))
  equiv {φ = φ} {ω = ω} {ψ = ψ} {χ = χ} {c = c} {d = d} {s = s} {t = t} {a = a} {b = b} u v x y =
      of_atom (λ mid. record { byte = 101; more = codes "quiv [" ++ φ (codes " ~ " ++ ω (codes " : " ++ ψ (codes " ==> " ++ χ (93 ∷ mid)))); is = refl; begins = refl }) (plain_node head.Equiv [] (s ∷ t ∷ a ∷ b ∷ []) refl refl)
      (λ mid f.
      let last = χ (93 ∷ mid) in
      let middle = ψ (codes " ==> " ++ last) in
      let right = ω (codes " : " ++ middle) in
      row p.atom_equiv (p.is_atom_equiv stage) refl refl refl
      (tok (equiv_word (91 ∷ φ (codes " ~ " ++ right))) (tok (open_square (φ (codes " ~ " ++ right))) (followed (u.reads (codes " ~ " ++ right) refl (ends_tilde right)) (tok (tilde_word right)
      (followed (v.reads (codes " : " ++ middle) refl (ends_colon middle))
      (tok (colon_word middle) (followed (x.reads (codes " ==> " ++ last) (fits_space c (codes "==> " ++ last))) (tok (long_word last) (followed (y.reads (93 ∷ mid) (fits_symbol d 93 mid refl refl)) (tok (close_square mid) end)))))))))) end)

  -- a judgment with its bound: the sign and how it reads
  pub bounded : {φ ψ χ ω : Before} {c d e : Bool} {s a b r : Node} (sign : Text) → IsSubject stage φ s → IsForm stage ψ c a → IsForm stage χ d b → IsSummand stage ω e r
      → ((mid j : Text) → Spelt stage (Part 133 ∷ []) mid j (Tree r ∷ []) → Spelt stage (Part 139 ∷ []) (32 ∷ (sign ++ (32 ∷ mid))) j (Tree (node head.Bounded sign (r ∷ []) nowhere) ∷ []))
      → IsSummand stage (λ mid. codes "phoare [" ++ φ (codes " : " ++ ψ (codes " ==> " ++ χ (93 ∷ 32 ∷ (sign ++ (32 ∷ ω mid)))))) e (node head.Bounded sign (nodes.tree head.Phoare (s ∷ a ∷ b ∷ []) ∷ r ∷ []) nowhere)
  bounded {φ = φ} {ψ = ψ} {χ = χ} {ω = ω} {c = c} {d = d} {s = s} {a = a} {b = b} {r = r} sign u x y z bound =
      let judgment = nodes.tree head.Phoare (s ∷ a ∷ b ∷ []) in
      let item = node head.Bounded sign (r ∷ []) nowhere in
      record {
        starts = λ mid. record { byte = 112; more = codes "hoare [" ++ φ (codes " : " ++ ψ (codes " ==> " ++ χ (93 ∷ 32 ∷ (sign ++ (32 ∷ ω mid))))); is = refl; begins = refl };
        root = judgment;
        suffixes = item ∷ [];
        whole = behind_plain judgment (plain_node head.Phoare [] (s ∷ a ∷ b ∷ []) refl refl) head.Bounded sign (r ∷ []) refl;
        tight = tight_sign sign (r ∷ []);
        plain = plain_node head.Bounded sign (judgment ∷ r ∷ []) refl refl;
        tail = Tree item;
        tail_is = refl;
        few = few_joined (item ∷ []);
        reads = λ mid f.
            let behind = 32 ∷ (sign ++ (32 ∷ ω mid)) in
            let last = χ (93 ∷ behind) in
            let middle = ψ (codes " ==> " ++ last) in
            let n = operands_in (Tree judgment ∷ Tree item ∷ []) in
            let one = joined_node head.Bounded sign (r ∷ []) nowhere in
            row_in p.operand_phoare (p.is_operand_phoare stage) refl refl refl (phoare_row n n (omega arith) (omega (arith, one))) (as_many (Tree judgment ∷ Tree item ∷ []))
            (followed (row p.phoare_phoare (p.is_phoare_phoare stage) refl refl refl
            (tok (phoare_word (91 ∷ φ (codes " : " ++ middle))) (tok (open_square (φ (codes " : " ++ middle))) (followed (u.reads (codes " : " ++ middle) refl (ends_colon middle))
            (tok (colon_word middle) (followed (x.reads (codes " ==> " ++ last) (fits_space c (codes "==> " ++ last))) (tok (long_word last) (followed (y.reads (93 ∷ behind) (fits_symbol d 93 behind refl refl)) (tok (close_square behind) end)))))))) end)
            (bound (ω mid) mid (sum_reads z mid f))) end;
      }

  pub bound_at_most : {r : Node} (mid j : Text) → Spelt stage (Part 133 ∷ []) mid j (Tree r ∷ []) → Spelt stage (Part 139 ∷ []) (codes " <= " ++ mid) j (Tree (node head.Bounded (codes "<=") (r ∷ []) nowhere) ∷ [])
  bound_at_most {r} mid j d = let n = at_most_word mid in row_by p.phoare_run_less_equal (p.is_phoare_run_less_equal stage) refl refl (ap (λ t. Tree (node head.Bounded t (r ∷ []) nowhere) ∷ []) (named n)) (bound_at_most_row _) (tok n d) end

  pub bound_equal : {r : Node} (mid j : Text) → Spelt stage (Part 133 ∷ []) mid j (Tree r ∷ []) → Spelt stage (Part 139 ∷ []) (codes " = " ++ mid) j (Tree (node head.Bounded (codes "=") (r ∷ []) nowhere) ∷ [])
  bound_equal {r} mid j d = let n = equal_word mid in row_by p.phoare_run_equals (p.is_phoare_run_equals stage) refl refl (ap (λ t. Tree (node head.Bounded t (r ∷ []) nowhere) ∷ []) (named n)) (bound_equal_row _) (tok n d) end

  pub bound_at_least : {r : Node} (mid j : Text) → Spelt stage (Part 133 ∷ []) mid j (Tree r ∷ []) → Spelt stage (Part 139 ∷ []) (codes " >= " ++ mid) j (Tree (node head.Bounded (codes ">=") (r ∷ []) nowhere) ∷ [])
  bound_at_least {r} mid j d = let n = at_least_word mid in row_by p.phoare_run_greater_equal (p.is_phoare_run_greater_equal stage) refl refl (ap (λ t. Tree (node head.Bounded t (r ∷ []) nowhere) ∷ []) (named n)) (bound_at_least_row _) (tok n d) end

  pub probability : {φ ψ : Before} {c : Bool} {call e : Node} (n : Text) → is_name_text n ≡ true → ((mid : Text) → Spelt stage (Part 68 ∷ []) (φ mid) mid (Tree call ∷ [])) → IsForm stage ψ c e
      → IsOperand stage (λ mid. codes "Pr[" ++ φ (codes " @ &" ++ (n ++ (codes " : " ++ ψ (93 ∷ mid))))) false (nodes.tree head.Probability (call ∷ nodes.word n ∷ e ∷ []))
  unfolding spells kind_of is_fine is_word_of
  probability {φ = φ} {ψ = ψ} {c = c} {call = call} {e = e} n g reads o =
      of_atom (λ mid. record { byte = 80; more = codes "r[" ++ φ (codes " @ &" ++ (n ++ (codes " : " ++ ψ (93 ∷ mid)))); is = refl; begins = refl }) (plain_node head.Probability [] (call ∷ nodes.word n ∷ e ∷ []) refl refl)
      (λ mid f.
      let event = ψ (93 ∷ mid) in
      let name = n ++ (codes " : " ++ event) in
      let rest = codes " @ &" ++ name in
      let s = name_start n g in
      let memory : Next (38 ∷ name) 109 (codes "&") name = subst (λ l. Next (38 ∷ (l ++ (codes " : " ++ event))) 109 (codes "&") (l ++ (codes " : " ++ event))) (sym s.2) (ampersand s.0 (s.1 ++ (codes " : " ++ event)) s.3) in
      row p.atom_pr (p.is_atom_pr stage) refl refl refl
      (tok (next_word (codes "Pr") (91 ∷ φ rest) terminal.Pr 53 refl refl refl refl) (tok (open_square (φ rest)) (followed (reads rest) (tok (at_word (38 ∷ name)) (tok memory
      (followed (name_reads n (codes " : " ++ event) g refl) (tok (colon_word event) (followed (o.reads (93 ∷ mid) (fits_symbol c 93 mid refl refl)) (tok (close_square mid) end))))))))) end)
